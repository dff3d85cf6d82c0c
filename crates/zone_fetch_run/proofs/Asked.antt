-- Whether there is a zone, from the parts that a call gives.
use Rattle.std.proofs.Common.{◌≡◌, ℕ, List, Option, Some, Result, Ok, Err, refl, subst}
use Rattle.std.specs.Prelude.{IfErr, IfOk, IfSome}
use Rattle.dns_names.specs.Name.{Labels}
use Rattle.zone_records.specs.Folding.{Zone}
use Rattle.zone_text.specs.Zones.{HasFlaw, IsZoneIn}
use Rattle.zone_text.specs.declared.zone.Flaw.{Flaw}
use Rattle.zone_text.specs.declared.zone.Unread.TheVariants.{NoZone}
use Rattle.zone_text.proofs.Zones.{no_zone}
use Rattle.zone_transfer.specs.Turning.{Scene}
use Rattle.zone_fetch_run.specs.Ends.{Files, HasStopped, HasZone, IsBase, IsFiled, IsOfFile, IsOfReading, RoseUnread, is_left}
use Rattle.zone_fetch_run.specs.Fetching.{IsBrought}
use Rattle.zone_fetch_run.specs.declared.command.Command.{Command}
use Rattle.zone_fetch_run.specs.declared.leading.Detour.{Detour}
use Rattle.zone_fetch_run.specs.declared.leading.Left.{Left}
use Rattle.zone_fetch_run.specs.declared.stop.Stop.{Stop}
use Rattle.zone_fetch_run.specs.declared.stop.Stop.TheVariants as stops

module _ (command : Command) (files : Files) (random : ℕ → ℕ) (detour : Option Detour) (old new later later_new : Scene) where
  module _ (zone after : Zone) (end : Result (Unit {0}) Left) (base : IsBase command files zone) (brought : IsBrought command random zone after detour end old new later later_new) where
    pub has_zone : end ≡ Ok tt → HasZone command files random after detour old new later later_new
    has_zone is = record { zone = zone; base = base; brought = subst (λ (e : Result (Unit {0}) Left). IsBrought command random zone after detour e old new later later_new) is brought }

    pub has_stopped : (left : Left) → end ≡ Err left → HasStopped command files random detour (stops.NotBrought left) old new later later_new
    has_stopped left is = is_left zone after left refl base (subst (λ (e : Result (Unit {0}) Left). IsBrought command random zone after detour e old new later later_new) is brought)

  -- a zone that was asked for
  pub zone_there : (asked : Result Zone Stop) (zone : Zone) → asked ≡ Ok zone → IfOk asked (λ z. HasZone command files random z detour old new later later_new) → HasZone command files random zone detour old new later later_new
  zone_there asked zone is h = subst (λ (r : Result Zone Stop). IfOk r (λ z. HasZone command files random z detour old new later later_new)) is h

  pub stop_there : (asked : Result Zone Stop) (stop : Stop) → asked ≡ Err stop → IfErr asked (λ s. HasStopped command files random detour s old new later later_new) → HasStopped command files random detour stop old new later later_new
  stop_there asked stop is h = subst (λ (r : Result Zone Stop). IfErr r (λ s. HasStopped command files random detour s old new later later_new)) is h

pub unread_there : (asked : Result Zone Stop) (stop : Stop) (faults faults_after : ℕ) → asked ≡ Err stop → IfErr asked (RoseUnread faults faults_after) → RoseUnread faults faults_after stop
unread_there asked stop faults faults_after is h = subst (λ (r : Result Zone Stop). IfErr r (RoseUnread faults faults_after)) is h

-- ---- the zone before

module _ (apex named : Labels) (path text told : List ℕ) (files : Files) (at : IfSome files (λ file_at. file_at path ≡ Some text)) (is : named ≡ apex) (same : told ≡ text) where
  pub is_filed : (zone : Zone) → IsZoneIn told named zone → IsFiled apex path files zone
  is_filed zone h = record { text = text; at = at; is_zone = subst (λ (a : Labels). IsZoneIn text a zone) is (subst (λ (t : List ℕ). IsZoneIn t named zone) same h) }

  pub is_flawed : (flaw : Flaw) → HasFlaw told named (NoZone flaw) → IsOfFile apex path files (stops.NotPrinted flaw)
  is_flawed flaw h =
      let flawed : HasFlaw text apex (NoZone flaw) = subst (λ (a : Labels). HasFlaw text a (NoZone flaw)) is (subst (λ (t : List ℕ). HasFlaw t named (NoZone flaw)) same h) in
      record { text = text; at = at; flawed = flawed; none = λ zone. no_zone text apex flaw zone flawed }

pub of_reading : (apex : Labels) (path : List ℕ) (files : Files) (stop : Stop) → IsOfReading stop → IsOfFile apex path files stop
of_reading apex path files stops.Unread h = tt
of_reading apex path files stops.NoMemory h = tt
of_reading apex path files (stops.NotPrinted flaw) h = absurd h
of_reading apex path files (stops.NotBrought left) h = absurd h
