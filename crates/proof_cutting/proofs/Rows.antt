-- What the row of octets at a place does to a client.
use Rattle.std.proofs.Common.{◌≡◌, ℕ, max, Bool, false, Option, Some, None, List, [], ◌∷◌, length, refl, sym, ◌∙◌, ap, ap₂, subst, append_assoc}
use Rattle.std.specs.Prelude.{option_and_then, option_map}
use Rattle.client_request.specs.Request.{Request}
use Rattle.client_request.specs.Timers.{due_now}
use Rattle.client_request.specs.View.{View, Transport}
use Rattle.client_request.specs.declared.event.Event.{Event}
use Rattle.client_request.specs.declared.event.Moment.{Moment}
use Rattle.client_request.specs.declared.event.Out.{Out}
use Rattle.client_request.specs.declared.event.Row.{Row}
use Rattle.client_steps.specs.Client.{Client, Machine, at_moment, rested, row_and_rest, settles, fires_all, more_frames, brings}
use Rattle.client_steps.specs.Machines.{machine_of}
use Rattle.client_steps.proofs.Fuel.{none_fires}
use Rattle.proof_cutting.specs.Pieces.{stands, IsCuttable, GivesUpQuietly}
use Rattle.proof_cutting.specs.Told.{bytes_at, told_all}
use Rattle.proof_cutting.proofs.Counting.{behind_first, IsEnough, new_steps}
use Rattle.proof_cutting.proofs.Beside.{beside, Meet, Nowhere, There, Any, first_also, same_layer}
use Rattle.proof_cutting.proofs.Looping.{Done, takes_all, all_beside}
use Rattle.proof_cutting.proofs.Telling.{after_outs}

module _ {U P : Type 0} where
  -- more octets stand at the place
  abbrev pub brought : (longer : List ℕ → U → U) (piece : List ℕ) → Client U P → Client U P
  brought longer piece c = record c { layer = longer piece c.layer }

  -- A client between two frames, at a moment that has come: no whole frame stands, and no timer is due.
  pub record IsCalm (octets_at : U → Option (List ℕ)) (IsFit : U → (timer : ℕ) → Type 0) (moment : Moment) (c : Client U P) : Type 0 where
    pub fit : IsFit c.layer c.view.timers.next
    pub none : stands (octets_at c.layer) ≡ false
    pub due : due_now c.view.now c.view.timers.set ≡ None
    pub passed : max c.view.now moment.0 ≡ c.view.now

module _ {U P : Type 0} (m : Machine U P) where
  -- octets are brought, and timers that are due fire
  abbrev pub comes : (place : ℕ) (piece : List ℕ) → Client U P → Option (Client U P)
  comes place piece c = option_and_then (fires_all m) (brings m place piece c)

  module _ (timeout : ℕ) where
    -- a row ends, and others follow
    abbrev pub ends : List Event → Client U P → Option (List Out × Client U P)
    ends es d = after_outs d.view.outs (told_all m timeout es (rested d))

    pub told_first : (place : ℕ) (moment : Moment) (piece : List ℕ) (es : List Event) (c : Client U P)
        → told_all m timeout (bytes_at moment place piece ∷ es) c ≡ option_and_then (ends es) (option_and_then (comes place piece) (fires_all m (at_moment moment.0 c)))
    told_first place moment piece es c = by (fires_all m (at_moment moment.0 c))
      where
        then_rest : Row × Client U P → Option (List Out × Client U P)
        then_rest x = after_outs (x.0).outs (told_all m timeout es x.1)

        then_ends : (o : Option (Client U P)) → option_and_then then_rest (option_map (row_and_rest (bytes_at moment place piece)) o) ≡ option_and_then (ends es) o
        then_ends None = refl
        then_ends (Some d) = refl

        by : (o : Option (Client U P))
            → option_and_then then_rest (option_map (row_and_rest (bytes_at moment place piece)) (option_and_then (fires_all m) (option_and_then (brings m place piece) o)))
            ≡ option_and_then (ends es) (option_and_then (comes place piece) o)
        by None = refl
        by (Some c) = then_ends (comes place piece c)

module _ {U P : Type 0} {place : ℕ} {t : Transport Request U P} {octets : U → Option (List ℕ)} {longer : List ℕ → U → U} {IsFit : U → (timer : ℕ) → Type 0} {stale : P → U → View → Option (List ℕ)} (ticket : P → ℕ)
    (cuttable : IsCuttable place t octets longer IsFit) (quiet : GivesUpQuietly t longer IsFit stale) where
  abbrev all : ℕ → Client U P → Option (Client U P)
  all n c = takes_all (machine_of t ticket stale) place n c

  -- Octets that come stand behind the others, and all frames are taken.
  pub comes_is : (piece : List ℕ) (c : Client U P) → IsFit c.layer c.view.timers.next → comes (machine_of t ticket stale) place piece c ≡ all (length piece) (brought longer piece c)
  comes_is piece c fit =
      ap (λ r. option_and_then (fires_all (machine_of t ticket stale)) (option_and_then (more_frames (machine_of t ticket stale) place (length piece)) (settles c.asked r)))
      (cuttable.bytes piece c.layer (record c.view { more = false }) fit refl)

  pub new_enough : (piece : List ℕ) (u : U) → stands (octets u) ≡ false → IsEnough (length piece) (behind_first (octets (longer piece u)))
  new_enough piece u none = subst (λ o. IsEnough (length piece) (behind_first o)) (sym (cuttable.behind piece u)) (new_steps piece (octets u) none)

  -- Where nothing more is the same layer, it is so of what is left.
  whole_after : (n : ℕ) (c d : Client U P) → IsFit c.layer c.view.timers.next → IsEnough n (behind_first (octets c.layer)) → longer [] c.layer ≡ c.layer → all n c ≡ Some d → longer [] d.layer ≡ d.layer
  whole_after n c d fit l whole is =
      same_layer d (all_beside ticket cuttable quiet n n [] c.view.more c.view.request c fit l l) is
      (ap (λ (u : U). all n (record c { layer = u })) whole ∙ is)

  module _ (timeout : ℕ) where
    abbrev over : Client U P → Option (List Out × Client U P)
    over d = ends (machine_of t ticket stale) timeout [] d

    -- the row that begins at a calm client
    pub next_row : (moment : Moment) (piece : List ℕ) (c : Client U P) → IsCalm octets IsFit moment c
        → told_all (machine_of t ticket stale) timeout (bytes_at moment place piece ∷ []) (rested c) ≡ option_and_then over (all (length piece) (brought longer piece (rested c)))
    next_row moment piece c calm =
        told_first (machine_of t ticket stale) timeout place moment piece [] (rested c)
        ∙ ap (λ o. option_and_then over (option_and_then (comes (machine_of t ticket stale) place piece) o)) again
        ∙ ap (option_and_then over) (comes_is piece (rested c) calm.fit)
      where
        again : fires_all (machine_of t ticket stale) (at_moment moment.0 (rested c)) ≡ Some (rested c)
        again =
            ap (λ (n : ℕ). fires_all (machine_of t ticket stale) (record (rested c) { view = record (rested c).view { now = n } })) calm.passed
            ∙ none_fires (machine_of t ticket stale) (rested c) calm.due

    -- The outs of a row stand behind those of the row before, as if it were one.
    pub joined : (n k : ℕ) (outs : List Out) (more : Bool) (request : ℕ) (c : Client U P) → IsFit c.layer c.view.timers.next → longer [] c.layer ≡ c.layer
        → IsEnough n (behind_first (octets c.layer)) → IsEnough k (behind_first (octets c.layer))
        → option_and_then over (all k (beside (λ u. u) outs more request c)) ≡ after_outs outs (option_and_then over (all n c))
    joined n k outs more request c fit whole l l' =
        ap (λ (u : U). option_and_then over (all k (record (beside (λ u. u) outs more request c) { layer = u }))) (sym whole)
        ∙ by (first_also (all_beside ticket cuttable quiet n k outs more request c fit l l') (λ d is. whole_after n c d fit l whole is))
      where
        by : {r r' : Option (Client U P)} → Meet (longer []) outs (λ d. Done octets IsFit c d × (longer [] d.layer ≡ d.layer)) Any r r' → option_and_then over r' ≡ after_outs outs (option_and_then over r)
        by Nowhere = refl
        by (There d more' request' f s) =
            ap₂ (λ (u : U) (os : List Out). Some (os, rested (record d { layer = u }))) f.1 (append_assoc outs d.view.outs [])
