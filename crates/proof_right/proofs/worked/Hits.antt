-- A worked hit, and a hit that is missed.
use Rattle.std.proofs.Common.{◌≡◌, ℕ, ◌<◌, ◌+◌, true, false, inl, inr, [], refl, arith}
use Rattle.std.specs.Prelude.{◌*◌}
use Rattle.client_request.specs.Composed.{composed}
use Rattle.right_trace.specs.Settings.{first_settings}
use Rattle.right_trace.specs.Hit.{Views, AllHit, asks_since, replies_since}
use Rattle.proof_right.specs.examples.Messages.{plain_request, answer}
use Rattle.proof_right.specs.examples.Rows.{by_datagrams}
use Rattle.proof_right.specs.examples.Hits.{before_it, missed, WorkedHit}
use Rattle.proof_right.proofs.worked.Cache.{fresh, cacheable, computed, viewable_30}
use Rattle.proof_right.proofs.worked.Rightness.{is_composed}

pub worked : WorkedHit
worked = record {
  asked = refl;
  got = inl fresh;
  valid = computed.valid_for_100;
  cacheable = cacheable;
  is_composed = is_composed;
  age = refl;
  views = inr (inl refl, inl refl);
  none_between = refl;
  hit = Views viewable_30.parts (answer 18 52 70) viewable_30.known viewable_30.says (inl refl);
  handed_to_none = λ i. refl;
}

pub not_missed : (max : ℕ) → 0 < max → AllHit by_datagrams first_settings composed max [] missed → ⊥
not_missed max some h =
    let n : 3 * asks_since 0 before_it + (replies_since 0 before_it + 0) ≡ 0 = refl in
    let few : 3 * asks_since 0 before_it + (replies_since 0 before_it + 0) < max = omega arith in
    let x = h.1.1.1.0 plain_request plain_request 0 0 0 100000000 30000000 (answer 18 52 100) is_composed.0 refl refl (inl fresh) computed.valid_for_100 (omega arith) cacheable cacheable refl is_composed.1 refl (omega arith) (inr (inr tt, inr (inr tt, inl refl))) few in
    let e : true ≡ false = x.1 0 in
    absurd (cc)
