-- The SOA for which a message has room.
use Rattle.std.proofs.Common.{◌≡◌, Bool, true, false, List, [], ◌∷◌, Some, refl, ap, sym, ◌∙◌}
use Rattle.std.specs.Prelude.{cond, find}
use Rattle.zone_records.specs.declared.record.ZoneRecord.{ZoneRecord}
use Rattle.zone_transfer.specs.Requesting.{is_sent}

pub found_is_sent : (items : List ZoneRecord) (x : ZoneRecord) → find is_sent items ≡ Some x → is_sent x ≡ true
found_is_sent [] x h = absurd (cc)
found_is_sent (y ∷ items) x h = go (is_sent y) refl h (λ k. found_is_sent items x k)
  where
    go : (b : Bool) → is_sent y ≡ b → cond b (Some y) (find is_sent items) ≡ Some x → (find is_sent items ≡ Some x → is_sent x ≡ true) → is_sent x ≡ true
    go true e found later = let same : y ≡ x = cc in ap is_sent (sym same) ∙ e
    go false e found later = later found
