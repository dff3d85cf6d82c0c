-- The serial of the last update.
use Rattle.std.proofs.Common.{◌≡◌, ℕ, List, [], ◌∷◌, ◌++◌, Option, None, refl, ap, ◌∙◌, Ok}
use Rattle.zone_reading.specs.declared.steps.Update.{Update}
use Rattle.zone_reading.specs.declared.steps.Update.TheVariants.{Finished}
use Rattle.zone_records.specs.Folding.{end_serial, last_serial, first_wrong, checked, serial_unless}
use Rattle.zone_records.specs.declared.zone.ApplyFault.{ApplyFault}
use Rattle.zone_records.specs.declared.record.ZoneRecord.{ZoneRecord}

last_of : (us : List (Update ZoneRecord)) (u : Update ZoneRecord) → last_serial (us ++ u ∷ []) ≡ end_serial u
last_of [] u = refl
last_of (v ∷ []) u = refl
last_of (v ∷ w ∷ us) u = last_of (w ∷ us) u

pub no_end : (old new : List (Update ZoneRecord)) (u : Update ZoneRecord) → old ≡ new ++ u ∷ [] → end_serial u ≡ None → last_serial old ≡ None
no_end old new u e n = ap last_serial e ∙ (last_of new u ∙ n)

pub nothing_last : (old : List (Update ZoneRecord)) → old ≡ [] → last_serial old ≡ None
nothing_last old e = ap last_serial e

-- where no batch is wrong and the last update ends a transfer
pub leads_to : (have : Option ℕ) (all us : List (Update ZoneRecord)) (s : ℕ) (x : ZoneRecord) → first_wrong have all ≡ None → all ≡ us ++ Finished s x ∷ [] → checked have all ≡ Ok s
leads_to have all us s x none e =
    ap (λ (w : Option ApplyFault). serial_unless w (last_serial all)) none ∙ ap (λ (o : Option ℕ). serial_unless None o) (ap last_serial e ∙ last_of us (Finished s x))
