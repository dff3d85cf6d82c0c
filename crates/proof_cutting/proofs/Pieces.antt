-- Octets that come in pieces do to a client what they do in one.
use Rattle.std.proofs.Common.{◌≡◌, ℕ, max, false, Option, Some, None, List, [], ◌∷◌, ◌++◌, length, map, refl, sym, ◌∙◌, ap, subst, arith, append-nil}
use Rattle.std.specs.List.{concat}
use Rattle.std.specs.Prelude.{option_and_then}
use Rattle.client_request.specs.Request.{Request}
use Rattle.client_request.specs.View.{View, Transport}
use Rattle.client_request.specs.declared.event.Event.{Event}
use Rattle.client_request.specs.declared.event.Moment.{Moment}
use Rattle.client_request.specs.declared.event.Out.{Out}
use Rattle.client_steps.specs.Client.{Client, at_moment, rested, most_timers, fires_all}
use Rattle.client_steps.specs.Machines.{machine_of}
use Rattle.proof_cutting.specs.Pieces.{stands, IsCuttable, GivesUpQuietly}
use Rattle.proof_cutting.specs.Told.{bytes_at, told_all}
use Rattle.proof_cutting.proofs.Beside.{first_is}
use Rattle.proof_cutting.proofs.Firing.{Fired, none_due, fires_beside}
use Rattle.proof_cutting.proofs.Looping.{none_on, all_beside}
use Rattle.proof_cutting.proofs.Rows.{IsCalm, brought, comes, ends as row_ends, told_first, comes_is, new_enough}
use Rattle.proof_cutting.proofs.Cutting.{two_come}
use Rattle.proof_cutting.proofs.Telling.{after_outs}

max_twice : (a b : ℕ) → max (max a b) b ≡ max a b
max_twice a b = omega arith

-- what follows is the same of what comes
then_same : {A B : Type 0} (k k' : A → Option B) (o : Option A) → ((a : A) → o ≡ Some a → k a ≡ k' a) → option_and_then k o ≡ option_and_then k' o
then_same k k' None h = refl
then_same k k' (Some a) h = h a refl

module _ {U P : Type 0} (octets_at : U → Option (List ℕ)) (IsFit : U → (timer : ℕ) → Type 0) where
  -- a client between two rows at whose place no whole frame stands
  pub record IsReadyFor (c : Client U P) : Type 0 where
    pub fit : IsFit c.layer c.view.timers.next
    pub none : stands (octets_at c.layer) ≡ false
    pub rested : (c.view.outs ≡ []) × (c.view.request ≡ 0) × (c.view.more ≡ false)
    pub board : c.view.board ≡ []

module _ {U P : Type 0} {stale : P → U → View → Option (List ℕ)} (place : ℕ) (t : Transport Request U P) (ticket : P → ℕ) (octets : U → Option (List ℕ)) (longer : List ℕ → U → U) (IsFit : U → (timer : ℕ) → Type 0)
    (cuttable : IsCuttable place t octets longer IsFit) (quiet : GivesUpQuietly t longer IsFit stale) (timeout : ℕ) where
  module _ (moment : Moment) where
    abbrev calm : Client U P → Type 0
    calm c = IsCalm octets IsFit moment c

    abbrev ends : List Event → Client U P → Option (List Out × Client U P)
    ends es d = row_ends (machine_of t ticket stale) timeout es d

    abbrev one : List ℕ → List Event
    one piece = bytes_at moment place piece ∷ []

    abbrev begun : Client U P → Option (Client U P)
    begun c = fires_all (machine_of t ticket stale) (at_moment moment.0 c)

    abbrev told_of : List Event → Client U P → Option (List Out × Client U P)
    told_of es c = told_all (machine_of t ticket stale) timeout es c

    -- where the timers of before have fired
    has_begun : (c d : Client U P) → IsReadyFor octets IsFit c → begun c ≡ Some d → calm d × (d.view.board ≡ []) × (d.view.more ≡ false)
    has_begun c d r is =
        let f : Fired octets IsFit (at_moment moment.0 c) d = first_is d (fires_beside ticket cuttable quiet [] [] most_timers false 0 (at_moment moment.0 c) r.fit) is in
        let due = none_due (machine_of t ticket stale) most_timers (at_moment moment.0 c) d is in (
          record {
            fit = f.fit;
            none = none_on (octets c.layer) (octets d.layer) r.none f.octets;
            due = due;
            passed = subst (λ n. max n moment.0 ≡ n) (sym f.now) (max_twice c.view.now moment.0);
          },
          f.board r.board,
          f.more ∙ (r.rested).2,
        )

    -- The next row begins at a client that is ready too.
    ready_after : (piece : List ℕ) (c d : Client U P) → IsReadyFor octets IsFit c → option_and_then (comes (machine_of t ticket stale) place piece) (begun c) ≡ Some d → IsReadyFor octets IsFit (rested d)
    ready_after piece c d r is = by (begun c) refl is
      where
        by : (o : Option (Client U P)) → begun c ≡ o → option_and_then (comes (machine_of t ticket stale) place piece) o ≡ Some d → IsReadyFor octets IsFit (rested d)
        by None e is = absurd (cc)
        by (Some b) e is =
            let k = (has_begun c b r e).0 in
            let l = new_enough ticket cuttable quiet piece b.layer k.none in
            let x : Client U P = brought longer piece b in
            let done =
            first_is d (all_beside ticket cuttable quiet (length piece) (length piece) [] false 0 x (cuttable.fits piece b.layer b.view.timers.next k.fit) l l)
            (sym (comes_is ticket cuttable quiet piece b k.fit) ∙ is) in
            record { fit = done.fit; none = done.none; rested = (refl, refl, refl); board = done.board }

    -- Two pieces do what they do in one.
    two_do : (a b : List ℕ) (c : Client U P) → IsReadyFor octets IsFit c → told_of (bytes_at moment place a ∷ one b) c ≡ told_of (one (a ++ b)) c
    two_do a b c r =
        told_first (machine_of t ticket stale) timeout place moment a (one b) c
        ∙ by (begun c) (λ d is. has_begun c d r is)
        ∙ sym (told_first (machine_of t ticket stale) timeout place moment (a ++ b) [] c)
      where
        by : (o : Option (Client U P)) → ((d : Client U P) → o ≡ Some d → calm d × (d.view.board ≡ []) × (d.view.more ≡ false))
            → option_and_then (ends (one b)) (option_and_then (comes (machine_of t ticket stale) place a) o) ≡ option_and_then (ends []) (option_and_then (comes (machine_of t ticket stale) place (a ++ b)) o)
        by None h = refl
        by (Some d) h = let k = h d refl in sym (two_come ticket cuttable quiet timeout moment b a d k.0 k.1 k.2)

  -- Octets that come in pieces do what they do in one.
  pub pieces_do : (moment : Moment) (first : List ℕ) (more : List (List ℕ)) (c : Client U P) → IsReadyFor octets IsFit c
      → told_all (machine_of t ticket stale) timeout (map (bytes_at moment place) (first ∷ more)) c ≡ told_all (machine_of t ticket stale) timeout (bytes_at moment place (concat (first ∷ more)) ∷ []) c
  pieces_do moment first [] c r = ap (λ piece. told_of moment (one moment piece) c) (sym (append-nil first))
  pieces_do moment first (second ∷ more) c r =
      told_first (machine_of t ticket stale) timeout place moment first (map (bytes_at moment place) (second ∷ more)) c
      ∙ then_same (ends moment (map (bytes_at moment place) (second ∷ more))) (ends moment (one moment (concat (second ∷ more))))
      (option_and_then (comes (machine_of t ticket stale) place first) (begun moment c))
      (λ d is. ap (after_outs d.view.outs) (pieces_do moment second more (rested d) (ready_after moment first c d r is)))
      ∙ sym (told_first (machine_of t ticket stale) timeout place moment first (one moment (concat (second ∷ more))) c)
      ∙ two_do moment first (concat (second ∷ more)) c r
