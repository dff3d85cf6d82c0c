-- Turns, one more at a time.
use Rattle.std.proofs.Common.{◌≡◌, ℕ, ◌+◌, List, [], ◌∷◌, ◌++◌, refl, ap, sym, subst, ◌∙◌, length-append}
use Rattle.std.specs.List.{All, flat_map}
use Rattle.std.proofs.lemmas.Grind.{flat_map-append}
use Rattle.zone_refresh.specs.declared.kept.KeptZone.{KeptZone}
use Rattle.zone_refresh_run.specs.Turns.{AreKept, IsTurned, Lead, Turn, deeds_in, wake_of}
use Rattle.zone_refresh_run.specs.Visits.{AreVisited, IsAwaited, befores, deeds_from, lefts}
use Rattle.zone_refresh_run.specs.declared.world.Deed.{Deed}
use Rattle.zone_refresh_run.specs.declared.world.Deed.TheVariants.{Slept}
use Rattle.zone_refresh_run.proofs.Deeds.{append_nil, more_deeds, same_deeds}

-- it was slept, and then all were visited
pub turned : {W : Type 0} (does : Deed → W → W → Type 0) (zones after : List KeptZone) (wake : ℕ) (old mid new : W) → wake ≡ wake_of zones → does (Slept wake) old mid → AreVisited does zones after mid new → IsTurned does zones after old new
turned does zones after wake old mid new is slept all = record {
  turn = all.visits;
  were = all.were;
  awaited = all.awaited;
  left = all.left;
  deeds =
      same_deeds does (Slept wake ∷ deeds_from 0 all.visits) (Slept (wake_of (befores all.visits)) ∷ deeds_from 0 all.visits) old new
      (ap (λ (n : ℕ). Slept n ∷ deeds_from 0 all.visits) (is ∙ ap wake_of (sym all.were)))
      (mid, slept, all.deeds);
}

lead_more : (zones : List KeptZone) (turns : List Turn) (mid : List KeptZone) (turn : Turn) (after : List KeptZone) → Lead zones turns mid → befores turn ≡ mid → All IsAwaited turn → lefts turn ≡ after → Lead zones (turns ++ turn ∷ []) after
lead_more zones [] mid turn after lead were awaited left = (were ∙ sym lead, awaited, left)
lead_more zones (t ∷ turns) mid turn after lead were awaited left = (lead.0, lead.1, lead_more (lefts t) turns mid turn after lead.2 were awaited left)

pub none_kept : {W : Type 0} (does : Deed → W → W → Type 0) (zones : List KeptZone) (world : W) → AreKept does 0 zones zones world world
none_kept does zones world = record { turns = []; many = refl; lead = refl; deeds = refl }

pub kept_more : {W : Type 0} (does : Deed → W → W → Type 0) (count : ℕ) (zones mid after : List KeptZone) (old between new : W) → AreKept does count zones mid old between → IsTurned does mid after between new
    → AreKept does (count + 1) zones after old new
kept_more does count zones mid after old between new so is = record {
  turns = so.turns ++ is.turn ∷ [];
  many = length-append so.turns (is.turn ∷ []) ∙ ap (λ (n : ℕ). n + 1) so.many;
  lead = lead_more zones so.turns mid is.turn after so.lead is.were is.awaited is.left;
  deeds =
      same_deeds does (flat_map deeds_in so.turns ++ deeds_in is.turn) (flat_map deeds_in (so.turns ++ is.turn ∷ [])) old new
      (
      ap (λ (ds : List Deed). flat_map deeds_in so.turns ++ ds) (sym (append_nil (deeds_in is.turn)))
      ∙ sym (flat_map-append deeds_in so.turns (is.turn ∷ []))
      )
      (more_deeds does (flat_map deeds_in so.turns) (deeds_in is.turn) old between new so.deeds is.deeds);
}

-- the same zones, spelled otherwise
pub kept_as : {W : Type 0} (does : Deed → W → W → Type 0) (count : ℕ) (zones others after : List KeptZone) (old new : W) → AreKept does count zones after old new → zones ≡ others → AreKept does count others after old new
kept_as does count zones others after old new so same = subst (λ (zs : List KeptZone). AreKept does count zs after old new) same so
