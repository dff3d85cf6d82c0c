-- A row that is cut in two, beside the row that is not: side by side they take frames, until the first one's octets have none.
use Rattle.std.proofs.Common.{◌≡◌, ℕ, zero, suc, ◌⊎◌, inl, inr, max, Bool, true, false, Option, Some, None, List, [], ◌∷◌, ◌++◌, length, refl, sym, ◌∙◌, ap, subst, append-nil}
use Rattle.std.specs.Prelude.{option_and_then}
use Rattle.client_request.specs.Request.{Request}
use Rattle.client_request.specs.Timers.{due_now}
use Rattle.client_request.specs.View.{View, Transport}
use Rattle.client_request.specs.declared.event.Event.{Event}
use Rattle.client_request.specs.declared.event.Moment.{Moment}
use Rattle.client_request.specs.declared.event.Out.{Out}
use Rattle.client_steps.specs.Client.{Client, rested, most_timers, fires_all, next_frame, more_frames}
use Rattle.client_steps.specs.Machines.{machine_of}
use Rattle.proof_cutting.specs.Pieces.{stands, IsCuttable, GivesUpQuietly}
use Rattle.proof_cutting.specs.Told.{bytes_at}
use Rattle.proof_cutting.proofs.Counting.{with_more, behind_first, IsEnough, no_steps, one_less, still_stands}
use Rattle.proof_cutting.proofs.Beside.{beside, Meet, Any, first_also, meet_same}
use Rattle.proof_cutting.proofs.Firing.{Fired, none_due, fires_beside}
use Rattle.proof_cutting.proofs.Looping.{none_on, enough_on, takes_all, more_idle, more_going, go_on, on_both, next_both, all_rest}
use Rattle.proof_cutting.proofs.Rows.{IsCalm, brought, comes, ends as row_ends, comes_is, new_enough, next_row, joined}
use Rattle.proof_cutting.proofs.Telling.{after_outs}

enough_behind : (n : ℕ) (o p : Option (List ℕ)) → IsEnough n (behind_first o) → (p ≡ o) ⊎ (p ≡ None) → IsEnough n (behind_first p)
enough_behind n o p l (inl e) = subst (λ o. IsEnough n (behind_first o)) (sym e) l
enough_behind n o p l (inr e) = subst (λ o. IsEnough n (behind_first o)) (sym e) tt

module _ {U P : Type 0} {place : ℕ} {t : Transport Request U P} {octets : U → Option (List ℕ)} {longer : List ℕ → U → U} {IsFit : U → (timer : ℕ) → Type 0} {stale : P → U → View → Option (List ℕ)} (ticket : P → ℕ)
    (cuttable : IsCuttable place t octets longer IsFit) (quiet : GivesUpQuietly t longer IsFit stale) (timeout : ℕ) where
  abbrev Fit : Client U P → Type 0
  Fit c = IsFit c.layer c.view.timers.next

  abbrev fired : Client U P → Option (Client U P)
  fired c = fires_all (machine_of t ticket stale) c

  abbrev frames : ℕ → Client U P → Option (Client U P)
  frames n c = more_frames (machine_of t ticket stale) place n c

  longer_on : (piece : List ℕ) (u w : U) → (octets w ≡ octets u) ⊎ (octets w ≡ None) → (octets (longer piece w) ≡ octets (longer piece u)) ⊎ (octets (longer piece w) ≡ None)
  longer_on piece u w (inl e) = inl (cuttable.behind piece w ∙ ap (with_more piece) e ∙ sym (cuttable.behind piece u))
  longer_on piece u w (inr e) = inr (cuttable.behind piece w ∙ ap (with_more piece) e)

  module _ (moment : Moment) where
    abbrev calm : Client U P → Type 0
    calm c = IsCalm octets IsFit moment c

    abbrev takes : ℕ → Client U P → Option (Client U P)
    takes n c = takes_all (machine_of t ticket stale) place n c

    abbrev ends : List Event → Client U P → Option (List Out × Client U P)
    ends es d = row_ends (machine_of t ticket stale) timeout es d

    abbrev one : List ℕ → List Event
    one piece = bytes_at moment place piece ∷ []

    -- so many frames more, timers, and the end of the row
    abbrev rest : List Event → ℕ → Client U P → Option (List Out × Client U P)
    rest es n c = option_and_then (ends es) (option_and_then fired (frames n c))

    regroup : (es : List Event) (n : ℕ) (o : Option (Client U P)) → option_and_then (ends es) (option_and_then fired (option_and_then (frames n) o)) ≡ option_and_then (rest es n) o
    regroup es n None = refl
    regroup es n (Some c) = refl

    regroup_next : (n : ℕ) (o : Option (Client U P))
        → option_and_then (ends []) (option_and_then fired (option_and_then (frames n) (option_and_then (next_frame (machine_of t ticket stale) place) o))) ≡ option_and_then (λ c. option_and_then (ends []) (takes n c)) o
    regroup_next n None = refl
    regroup_next n (Some c) = refl

    module _ (b : List ℕ) where
      -- Where the cut run's row has ended, the uncut run takes the next frame as the cut run's next row does.
      goes_on : (k : ℕ) (more : Bool) (request : ℕ) (d : Client U P) → calm d → IsEnough k (behind_first (octets (longer b d.layer)))
          → option_and_then (ends []) (takes k (beside (longer b) [] more request d)) ≡ ends (one b) d
      goes_on k more request d c l =
          let e : Client U P = brought longer b (rested d) in
          ap (λ (outs : List Out). option_and_then (ends []) (takes k (record e { view = record d.view { outs = outs; more = more; request = request } }))) (sym (append-nil d.view.outs))
          ∙ joined ticket cuttable quiet timeout (length b) k d.view.outs more request e (cuttable.fits b d.layer d.view.timers.next c.fit)
          (sym (cuttable.twice b [] d.layer) ∙ ap (λ piece. longer piece d.layer) (append-nil b)) (new_enough ticket cuttable quiet b d.layer c.none) l
          ∙ ap (after_outs d.view.outs) (sym (next_row ticket cuttable quiet timeout moment b d c))

      -- Where the longer octets have no whole frame either, the cut run's next row does nothing.
      goes_no_more : (more : Bool) (request : ℕ) (d : Client U P) → calm d → d.view.board ≡ [] → stands (octets (longer b d.layer)) ≡ false → ends [] (beside (longer b) [] more request d) ≡ ends (one b) d
      goes_no_more more request d c board none =
          let e : Client U P = brought longer b (rested d) in
          sym (ap (after_outs d.view.outs)
          (next_row ticket cuttable quiet timeout moment b d c
          ∙ ap (option_and_then (ends [])) (all_rest ticket cuttable quiet (length b) e (cuttable.fits b d.layer d.view.timers.next c.fit) none refl board c.due)))

      -- What is known of a client within the row, and of the one beside it.
      record IsWithin (n k : ℕ) (more : Bool) (c : Client U P) : Type 0 where
        fit : Fit c
        says : c.view.more ≡ stands (octets c.layer)
        says_too : more ≡ stands (octets (longer b c.layer))
        empty : c.view.board ≡ []
        passed : max c.view.now moment.0 ≡ c.view.now
        enough : IsEnough n (octets c.layer)
        enough_too : IsEnough k (octets (longer b c.layer))

      abbrev CutsAlike : ℕ → ℕ → Type 0
      CutsAlike n k = (more : Bool) (request : ℕ) (c : Client U P) → IsWithin n k more c → rest [] k (beside (longer b) [] more request c) ≡ option_and_then (ends (one b)) (option_and_then fired (frames n c))

      fired_known : (more : Bool) (request : ℕ) (c : Client U P) → Fit c
          → Meet (longer b) [] (λ d. Fired octets IsFit c d × (due_now d.view.now d.view.timers.set ≡ None)) Any (fired c) (fired (beside (longer b) [] more request c))
      fired_known more request c fit =
          first_also (fires_beside ticket cuttable quiet b [] most_timers more request c fit) (λ d is. none_due (machine_of t ticket stale) most_timers c d is)

      is_calm : (c d : Client U P) → max c.view.now moment.0 ≡ c.view.now → stands (octets c.layer) ≡ false → Fired octets IsFit c d × (due_now d.view.now d.view.timers.set ≡ None) → calm d
      is_calm c d passed none f = record {
        fit = (f.0).fit;
        none = none_on (octets c.layer) (octets d.layer) none (f.0).octets;
        due = f.1;
        passed = subst (λ n. max n moment.0 ≡ n) (sym (f.0).now) passed;
      }

      -- neither has a whole frame
      both_end : (n k : ℕ) (more : Bool) (request : ℕ) (c : Client U P) → IsWithin n k more c → stands (octets c.layer) ≡ false → stands (octets (longer b c.layer)) ≡ false
          → rest [] k (beside (longer b) [] more request c) ≡ option_and_then (ends (one b)) (option_and_then fired (frames n c))
      both_end n k more request c w none none_too =
          ap (λ o. option_and_then (ends []) (option_and_then fired o)) (more_idle (machine_of t ticket stale) place k (beside (longer b) [] more request c) (w.says_too ∙ none_too))
          ∙ meet_same (ends (one b)) (ends []) (fired_known more request c w.fit)
          (λ d more' request' f s. goes_no_more more' request' d (is_calm c d w.passed none f) ((f.0).board w.empty)
          (none_on (octets (longer b c.layer)) (octets (longer b d.layer)) none_too (longer_on b c.layer d.layer (f.0).octets)))
          ∙ sym (ap (λ o. option_and_then (ends (one b)) (option_and_then fired o)) (more_idle (machine_of t ticket stale) place n c (w.says ∙ none)))

      -- the longer octets have one
      first_ends : (n k : ℕ) (more : Bool) (request : ℕ) (c : Client U P) → IsWithin n (suc k) more c → stands (octets c.layer) ≡ false → stands (octets (longer b c.layer)) ≡ true
          → rest [] (suc k) (beside (longer b) [] more request c) ≡ option_and_then (ends (one b)) (option_and_then fired (frames n c))
      first_ends n k more request c w none one_more =
          ap (λ o. option_and_then (ends []) (option_and_then fired o)) (more_going (machine_of t ticket stale) place k (beside (longer b) [] more request c) (w.says_too ∙ one_more))
          ∙ regroup_next k (fired (beside (longer b) [] more request c))
          ∙ meet_same (ends (one b)) (λ x. option_and_then (ends []) (takes k x)) (fired_known more request c w.fit)
          (λ d more' request' f s. goes_on k more' request' d (is_calm c d w.passed none f)
          (enough_behind k (octets (longer b c.layer)) (octets (longer b d.layer)) (one_less k (octets (longer b c.layer)) w.enough_too one_more) (longer_on b c.layer d.layer (f.0).octets)))
          ∙ sym (ap (λ o. option_and_then (ends (one b)) (option_and_then fired o)) (more_idle (machine_of t ticket stale) place n c (w.says ∙ none)))

      none_left : (n k : ℕ) (more : Bool) (request : ℕ) (c : Client U P) → IsWithin n k more c → stands (octets c.layer) ≡ false
          → rest [] k (beside (longer b) [] more request c) ≡ option_and_then (ends (one b)) (option_and_then fired (frames n c))
      none_left n zero more request c w none = both_end n zero more request c w none (no_steps (octets (longer b c.layer)) w.enough_too)
      none_left n (suc k) more request c w none = by (stands (octets (longer b c.layer))) refl
        where
          by : (x : Bool) → stands (octets (longer b c.layer)) ≡ x → rest [] (suc k) (beside (longer b) [] more request c) ≡ option_and_then (ends (one b)) (option_and_then fired (frames n c))
          by true h = first_ends n k more request c w none h
          by false h = both_end n (suc k) more request c w none h

      stands_too : (u : U) → stands (octets u) ≡ true → stands (octets (longer b u)) ≡ true
      stands_too u h = ap stands (cuttable.behind b u) ∙ still_stands b (octets u) h

      -- both take a frame
      one_left : (n k : ℕ) → CutsAlike n k → (more : Bool) (request : ℕ) (c : Client U P) → IsWithin (suc n) (suc k) more c → stands (octets c.layer) ≡ true
          → rest [] (suc k) (beside (longer b) [] more request c) ≡ option_and_then (ends (one b)) (option_and_then fired (frames (suc n) c))
      one_left n k ih more request c w h =
          let h' = stands_too c.layer h in
          ap (λ o. option_and_then (ends []) (option_and_then fired o)) (more_going (machine_of t ticket stale) place k (beside (longer b) [] more request c) (w.says_too ∙ h'))
          ∙ regroup [] k (go_on (machine_of t ticket stale) place (beside (longer b) [] more request c))
          ∙ meet_same (rest (one b) n) (rest [] k) (on_both ticket cuttable quiet b [] more request c w.fit h)
          (λ d more' request' f s. ih more' request' d (record {
            fit = f.fit;
            says = f.more;
            says_too = s.more;
            empty = f.board;
            passed = subst (λ n. max n moment.0 ≡ n) (sym f.now) w.passed;
            enough = enough_on n (octets c.layer) (octets d.layer) (one_less n (octets c.layer) w.enough h) f.octets;
            enough_too = enough_on k (octets (longer b c.layer)) (octets (longer b d.layer)) (one_less k (octets (longer b c.layer)) w.enough_too h') s.octets;
          }))
          ∙ sym (ap (λ o. option_and_then (ends (one b)) (option_and_then fired o)) (more_going (machine_of t ticket stale) place n c (w.says ∙ h)) ∙ regroup (one b) n (go_on (machine_of t ticket stale) place c))

      cuts_alike : (n k : ℕ) → CutsAlike n k
      cuts_alike zero k more request c w = none_left zero k more request c w (no_steps (octets c.layer) w.enough)
      cuts_alike (suc n) zero more request c w = by (stands (octets c.layer)) refl
        where
          by : (x : Bool) → stands (octets c.layer) ≡ x → rest [] zero (beside (longer b) [] more request c) ≡ option_and_then (ends (one b)) (option_and_then fired (frames (suc n) c))
          by true h = absurd (let h' = stands_too c.layer h in let none = no_steps (octets (longer b c.layer)) w.enough_too in cc (h', none))
          by false h = none_left (suc n) zero more request c w h
      cuts_alike (suc n) (suc k) more request c w = by (stands (octets c.layer)) refl (cuts_alike n k)
        where
          by : (x : Bool) → stands (octets c.layer) ≡ x → CutsAlike n k → rest [] (suc k) (beside (longer b) [] more request c) ≡ option_and_then (ends (one b)) (option_and_then fired (frames (suc n) c))
          by true h ih = one_left n k ih more request c w h
          by false h ih = none_left (suc n) (suc k) more request c w h

      module _ (a : List ℕ) where
        abbrev comes_with : List ℕ → Client U P → Option (Client U P)
        comes_with piece c = comes (machine_of t ticket stale) place piece c

        abbrev with_first : Client U P → Client U P
        with_first c = brought longer a c

        enough_whole : (c : Client U P) → calm c → IsEnough (length (a ++ b)) (behind_first (octets (longer b (longer a c.layer))))
        enough_whole c k = subst (λ u. IsEnough (length (a ++ b)) (behind_first (octets u))) (cuttable.twice a b c.layer) (new_enough ticket cuttable quiet (a ++ b) c.layer k.none)

        -- a frame stands once the first piece has come
        first_takes : (c : Client U P) → calm c → stands (octets (longer a c.layer)) ≡ true
            → option_and_then (ends []) (takes (length (a ++ b)) (beside (longer b) [] c.view.more c.view.request (with_first c))) ≡ option_and_then (ends (one b)) (takes (length a) (with_first c))
        first_takes c k h =
            let e : Client U P = with_first c in
            regroup [] (length (a ++ b)) (next_frame (machine_of t ticket stale) place (beside (longer b) [] c.view.more c.view.request e))
            ∙ meet_same (rest (one b) (length a)) (rest [] (length (a ++ b)))
            (next_both ticket cuttable quiet b [] c.view.more c.view.request e (cuttable.fits a c.layer c.view.timers.next k.fit) h)
            (λ d more' request' f s. cuts_alike (length a) (length (a ++ b)) more' request' d (record {
              fit = f.fit;
              says = f.more;
              says_too = s.more;
              empty = f.board;
              passed = subst (λ n. max n moment.0 ≡ n) (sym f.now) k.passed;
              enough = enough_on (length a) (octets e.layer) (octets d.layer) (new_enough ticket cuttable quiet a c.layer k.none) f.octets;
              enough_too = enough_on (length (a ++ b)) (octets (longer b e.layer)) (octets (longer b d.layer)) (enough_whole c k) s.octets;
            }))
            ∙ sym (regroup (one b) (length a) (next_frame (machine_of t ticket stale) place e))

        -- none stands yet
        first_rests : (c : Client U P) → calm c → c.view.board ≡ [] → c.view.more ≡ false → stands (octets (longer a c.layer)) ≡ false
            → option_and_then (ends []) (takes (length (a ++ b)) (beside (longer b) [] c.view.more c.view.request (with_first c))) ≡ option_and_then (ends (one b)) (takes (length a) (with_first c))
        first_rests c k board more h =
            let e : Client U P = with_first c in
            let fit : Fit e = cuttable.fits a c.layer c.view.timers.next k.fit in
            goes_on (length (a ++ b)) c.view.more c.view.request e (record { fit = fit; none = h; due = k.due; passed = k.passed }) (enough_whole c k)
            ∙ sym (ap (option_and_then (ends (one b))) (all_rest ticket cuttable quiet (length a) e fit h more board k.due))

        -- What two rows do is what one does.
        pub two_come : (c : Client U P) → calm c → c.view.board ≡ [] → c.view.more ≡ false → option_and_then (ends []) (comes_with (a ++ b) c) ≡ option_and_then (ends (one b)) (comes_with a c)
        two_come c k board more =
            ap (option_and_then (ends []))
            (comes_is ticket cuttable quiet (a ++ b) c k.fit ∙ ap (λ (u : U). takes (length (a ++ b)) (record c { layer = u })) (cuttable.twice a b c.layer))
            ∙ by (stands (octets (longer a c.layer))) refl
            ∙ sym (ap (option_and_then (ends (one b))) (comes_is ticket cuttable quiet a c k.fit))
          where
            by : (x : Bool) → stands (octets (longer a c.layer)) ≡ x
                → option_and_then (ends []) (takes (length (a ++ b)) (beside (longer b) [] c.view.more c.view.request (with_first c))) ≡ option_and_then (ends (one b)) (takes (length a) (with_first c))
            by true h = first_takes c k h
            by false h = first_rests c k board more h
