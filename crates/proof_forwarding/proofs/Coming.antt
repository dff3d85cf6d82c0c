-- What an event comes to is what rows tell of it.
use Rattle.std.proofs.Common.{◌≡◌, ℕ, ◌≤◌, List, [], ◌∷◌, length, Option, Some, None, Bool, true, false, refl, sym, ap, ◌∙◌, arith, inl, inr}
use Rattle.std.specs.Prelude.{◌&&◌, ◌⊎◌, nat_lt, is_some, option_map, if◌then◌else◌}
use Rattle.std.proofs.lemmas.Bool.Decides.{nat_tests}
use Rattle.number_table.specs.Entries.{entry_at}
use Rattle.front_queries.specs.Refusals.{sorted}
use Rattle.front_peers.specs.Items.{Streams, brings, drops, is_new, is_stream, makes_room, of_datagram, opens, quietest, takes_now}
use Rattle.front_peers.specs.declared.event.FrontWhat.{FrontWhat}
use Rattle.front_peers.specs.declared.event.FrontWhat.TheVariants.{Datagram, Accepted, Bytes, Gone, Core}
use Rattle.front_peers.specs.declared.items.Item.{Item}
use Rattle.front_peers.specs.declared.items.Item.TheVariants.{Drops}
use Rattle.front_peers.specs.declared.peers.Stream.{Stream}
use Rattle.proof_forwarding.specs.Heard.{Comes, DropsNone, DropsOne, Heard, MakesRoom, brought, is_accepted}
use Rattle.proof_forwarding.proofs.Keeping.{StreamsKept}
use Rattle.proof_forwarding.proofs.Quiet.{HasKey, none_quiet, open_count, open_there, quiet_there}

module _ (heard : Heard) (s : Streams) (kept : StreamsKept heard s) (peer : ℕ) where
  full : (n : ℕ) → nat_lt n 100 ≡ false → 100 ≤ n
  full n is = grind (arith, nat_tests)

  empty_full : (n : ℕ) → n ≡ 0 → 100 ≤ n → ⊥
  empty_full n zero_it so = omega arith

  dropped : (o : Option (ℕ × ℕ)) → quietest None s.streams ≡ o → is_accepted peer heard ≡ true → 100 ≤ length s.streams → MakesRoom peer heard (drops o)
  dropped None is new many = absurd (empty_full (length s.streams) (none_quiet s.streams is) many)
  dropped (Some r) is new many = by (quiet_there None s.streams r is)
    where
      by : (None ≡ Some r) ⊎ HasKey r.0 s.streams → MakesRoom peer heard (Drops r.0 ∷ [])
      by (inl so) = absurd (cc)
      by (inr has) =
          let most = open_count heard s kept in
          DropsOne r.0 refl new (open_there heard s kept r.0 ∙ ap is_some has.is_there) (omega arith)

  room : (b : Bool) → nat_lt (length s.streams) 100 ≡ b → is_accepted peer heard ≡ true → MakesRoom peer heard (if b then [] else drops (quietest None s.streams))
  room true is new = DropsNone refl
  room false is new = dropped (quietest None s.streams) refl new (full (length s.streams) is)

  both_true : (a b : Bool) → a ≡ true → b ≡ true → (a && b) ≡ true
  both_true true true first second = refl
  both_true true false first second = absurd (cc)
  both_true false b first second = absurd (cc)

  accepted : (a b : Bool) → is_stream peer ≡ a → is_new peer s.last ≡ b
      → MakesRoom peer heard (if◌then◌else◌ {A = List Item × Streams} a (if◌then◌else◌ {A = List Item × Streams} b (makes_room s.streams, opens peer s) ([], s)) ([], s)).0
  accepted true true stream new = room (nat_lt (length s.streams) 100) refl (both_true (is_stream peer) (is_new peer heard.last) stream (ap (is_new peer) kept.last ∙ new))
  accepted true false stream new = DropsNone refl
  accepted false b stream new = DropsNone refl

  datagram : (is : List Item) (b : Bool) → (if◌then◌else◌ {A = List Item × Streams} b ([], s) (is, s)).0 ≡ (if b then [] else is)
  datagram is true = refl
  datagram is false = refl

  bytes : (octets : List ℕ) (o : Option Stream) → (brings peer octets s o).0 ≡ brought peer octets (option_map (λ (t : Stream). t.framer) o)
  bytes octets None = refl
  bytes octets (Some t) = refl

pub items_come : (heard : Heard) (s : Streams) → StreamsKept heard s → (what : FrontWhat) → Comes what heard (takes_now what s).0
items_come heard s kept (Datagram peer octets) = datagram heard s kept peer (of_datagram peer (sorted octets)) (is_stream peer)
items_come heard s kept (Accepted peer) = accepted heard s kept peer (is_stream peer) (is_new peer s.last) refl refl
items_come heard s kept (Bytes peer octets) = bytes heard s kept peer octets (entry_at peer s.streams) ∙ ap (brought peer octets) (sym (kept.kept peer))
items_come heard s kept (Gone peer) = refl
items_come heard s kept (Core what) = refl
