-- What is refused begins no transfer, and what is taken begins one.
use Rattle.std.proofs.Common.{◌≡◌, ◌≢◌, ℕ, zero, suc, ◌==◌, Bool, true, Some, None, List, [], ◌∷◌, ◌++◌, append_assoc, refl, ap, ◌∙◌}
use Rattle.std.specs.Prelude.{if◌then◌else◌, option_and_then}
use Rattle.zone_reading.specs.declared.steps.XfrKind.{XfrKind}
use Rattle.zone_reading.specs.declared.steps.XfrKind.TheVariants.{Axfr, Ixfr}
use Rattle.zone_reading.specs.declared.steps.State.{State}
use Rattle.zone_reading.specs.declared.steps.State.TheVariants.{Begin, FirstSoa, Whole, Deleting, Adding, Done}
use Rattle.zone_reading.specs.declared.steps.Entry.{Entry}
use Rattle.zone_reading.specs.declared.steps.Entry.TheVariants.{Soa, Other}
use Rattle.zone_reading.specs.declared.steps.Update.{Update}
use Rattle.zone_reading.specs.declared.steps.Update.TheVariants.{DeleteAllRecords, BeginBatchDelete, BeginBatchAdd, Finished}
use Rattle.zone_reading.specs.Running.{Step, at_last, at_whole, behind, run}
use Rattle.zone_reading.specs.Readings.{IsTransfer, GoesOn}
use Rattle.zone_reading.proofs.Runs.{cut, readings_run, runs_read, same_serial, other_serial, last_on, then_run, whole_end}

-- a serial other than one
abbrev other : ℕ → ℕ
other zero = 1
other (suc a) = 0

is_another : (a : ℕ) → other a ≢ a
is_another zero e = absurd (cc)
is_another (suc a) e = absurd (cc)

module _ {R : Type 0} (same : R → R → Bool) where
  pub refused : (kind : XfrKind) (es more : List (Entry R)) (us : List (Update R)) → run same kind Begin es ≡ None → IsTransfer same kind (es ++ more) us → ⊥
  refused kind es more us none t =
      let left : run same kind Begin (es ++ more) ≡ None = cut same kind Begin es more ∙ ap (λ (s : Step R). then_run same kind more s) none in
      let done : run same kind Begin (es ++ more) ≡ Some (Done, us) = readings_run same kind (es ++ more) us t in
      absurd (cc)

  abbrev ending : State R → R → List (Entry R)
  ending Begin r = Soa 0 r ∷ Soa 0 r ∷ []
  ending (FirstSoa a first) r = Soa a first ∷ []
  ending (Whole a first) r = Soa a first ∷ []
  ending (Deleting a) r = Soa a r ∷ Soa a r ∷ []
  ending (Adding a p) r = Soa (other a) r ∷ Soa a r ∷ Soa a r ∷ []
  ending Done r = []

  one_soa : ((r : R) → same r r ≡ true) → (kind : XfrKind) (a : ℕ) (first : R) (us : List (Update R)) (o : Step R) → then_run same kind [] (if a == a then at_whole same us a first first else o) ≡ Some (Done, (us ++ Finished a first ∷ []) ++ [])
  one_soa is_same kind a first us o = ap (λ (s : Step R). then_run same kind [] s) (same_serial a (at_whole same us a first first) o ∙ whole_end same kind us a first first (is_same first))

  at_end : (kind : XfrKind) (a : ℕ) (r : R) → run same kind (Adding a a) (Soa a r ∷ []) ≡ Some (Done, Finished a r ∷ [])
  at_end kind a r = last_on same kind a a r refl

  ends : ((r : R) → same r r ≡ true) → (kind : XfrKind) (s : State R) (r : R) → (us : List (Update R)) × (run same kind s (ending s r) ≡ Some (Done, us))
  ends is_same Axfr Begin r = (_, ap (behind (DeleteAllRecords ∷ [])) (one_soa is_same Axfr 0 r [] None))
  ends is_same Ixfr Begin r = (_, ap (behind []) (one_soa is_same Ixfr 0 r (DeleteAllRecords ∷ []) (Some (Deleting 0, BeginBatchDelete 0 r ∷ []))))
  ends is_same kind (FirstSoa a first) r = (_, one_soa is_same kind a first (DeleteAllRecords ∷ []) (Some (Deleting a, BeginBatchDelete a first ∷ [])))
  ends is_same kind (Whole a first) r = (_, one_soa is_same kind a first [] None)
  ends is_same kind (Deleting a) r = (_, ap (behind (BeginBatchAdd a r ∷ [])) (at_end kind a r))
  ends is_same kind (Adding a p) r = (
    _,
    ap (λ (s : Step R). then_run same kind (Soa a r ∷ Soa a r ∷ []) s) (other_serial (other a) a (at_last p a r) (Some (Deleting a, BeginBatchDelete (other a) r ∷ [])) (is_another a))
        ∙ ap (behind (BeginBatchDelete (other a) r ∷ [])) (ap (behind (BeginBatchAdd a r ∷ [])) (at_end kind a r)),
  )
  ends is_same kind Done r = (_, refl)

  pub taken : ((r : R) → same r r ≡ true) → (kind : XfrKind) (es : List (Entry R)) (state : State R) (us : List (Update R)) → R → run same kind Begin es ≡ Some (state, us) → GoesOn same kind es
  taken is_same kind es state us r is =
      let e = ends is_same kind state r in
      record {
        more = ending state r;
        updates = us ++ e.0;
        transfer = runs_read same kind (es ++ ending state r) (us ++ e.0) (cut same kind Begin es (ending state r)
            ∙ (ap (λ (s : Step R). then_run same kind (ending state r) s) is ∙ ap (behind us) e.1));
      }
