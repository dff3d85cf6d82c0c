-- Places by datagram: one opens, is sent at, is closed, fails to open.
use Rattle.std.proofs.Common.{◌≡◌, ℕ, suc, ◌+◌, ◌<◌, ◌≤◌, Bool, true, false, ◌⊎◌, inl, inr, Option, Some, None, ◌∷◌, ◌≢◌, refl, arith, ◌∙◌, sym, subst, ap, ◌==◌}
use Rattle.std.specs.Prelude.{if◌then◌else◌, is_some}
use Rattle.std.proofs.lemmas.Bool.{cases_eq}
use Rattle.std.proofs.lemmas.Bool.Decides.{nat_tests}
use Rattle.client_request.specs.declared.event.What.{What}
use Rattle.client_request.specs.declared.event.What.TheVariants.{Opened, OpenFailed}
use Rattle.client_request.specs.declared.fault.Fault.{Fault}
use Rattle.client_request.specs.declared.event.Out.{Out}
use Rattle.client_request.specs.declared.event.Out.TheVariants.{OpenDgram, Close}
use Rattle.client_request.specs.declared.event.Via.TheVariants.{Dgram}
use Rattle.right_trace.specs.Trace.{History, Conf, Put}
use Rattle.right_trace.specs.Time.{newest, count_below, one_if, max_places, max_tries}
use Rattle.right_trace.specs.Requests.{asks}
use Rattle.right_trace.specs.Places.{site, is_at, Opening, Alive, Gone, on_event, stand, is_live, reach, live}
use Rattle.proof_right.specs.machine.Dgrams.{Stage, Queued, Trying, Tryer, Dgrams, staged, try_at, leave}
use Rattle.right_trace.specs.Updates.{with_at}
use Rattle.proof_right.proofs.server.DgramKept.{dgram_site, owing, placed, has_place, StageFits, TryerFits, HasOwner, is_ended, lost, KeptD}
use Rattle.proof_right.proofs.server.DgramPuts.{reaches, dgram_same, tryer_put, new_put}
use Rattle.proof_right.proofs.server.Untold.{was_unused}
use Rattle.proof_right.proofs.server.DgramMoves.{place_below, held_below, one_owner, Standing, standing, dgram_at, is_live_at, live_same}
use Rattle.proof_right.proofs.server.Counts.{count_change, count_last}
use Rattle.proof_right.proofs.server.Views.{each_at, each_other, at_here, at_there}

-- A request's stage changes between having a place and having none.

pub places_change : (k : ℕ) (a : Tryer) (b : Tryer) (held : ℕ → Option Tryer) (n : ℕ) → k < n → held k ≡ Some a → count_below (λ j. has_place (with_at k (Some b) held j)) n + one_if (is_some (placed a.stage)) ≡ count_below (λ j. has_place (held j)) n + one_if (is_some (placed b.stage))
places_change k a b held n lt e =
    let c = count_change (λ j. has_place (held j)) (λ j. has_place (with_at k (Some b) held j)) n k lt (λ j ne. sym (ap has_place (at_there k j (Some b) held (λ g. ne (sym g))))) in
    let old : has_place (held k) ≡ is_some (placed a.stage) = ap has_place e in
    let new : has_place (with_at k (Some b) held k) ≡ is_some (placed b.stage) = ap has_place (at_here k (Some b) held) in
    subst (λ x. count_below (λ j. has_place (with_at k (Some b) held j)) n + one_if (is_some (placed a.stage)) ≡ count_below (λ j. has_place (held j)) n + one_if x) new
    (subst (λ x. count_below (λ j. has_place (with_at k (Some b) held j)) n + one_if x ≡ count_below (λ j. has_place (held j)) n + one_if (has_place (with_at k (Some b) held k))) old c)

-- A place opens.

far_open : (p q s : ℕ) → p ≢ q → reaches q (OpenDgram p s) ≡ false
far_open p q s ne = grind (arith, nat_tests)

opened_lives : (pend : What) (s p k : ℕ) (at : ℕ → Option ℕ) (h : History) → at p ≡ None → stand p (Put (OpenDgram p s) ∷ h) ≡ on_event pend p Opening → one_if (is_live (on_event pend p Opening)) + lost pend (with_at p (Some k) at) (Put (OpenDgram p s) ∷ h) ≡ lost pend at h + 1
opened_lives (OpenFailed q f) s p k at h none st = go (cases_eq q p)
  where
    go : (q ≡ p) ⊎ (q ≡ p → ⊥) → one_if (is_live (on_event (OpenFailed q f) p Opening)) + lost (OpenFailed q f) (with_at p (Some k) at) (Put (OpenDgram p s) ∷ h) ≡ lost (OpenFailed q f) at h + 1
    go (inl e) =
        let b : (q == p) ≡ true = grind (arith, nat_tests) in
        let gone : stand q (Put (OpenDgram p s) ∷ h) ≡ Gone = ap (λ q. stand q (Put (OpenDgram p s) ∷ h)) e ∙ (st ∙ rw b refl) in
        let here : with_at p (Some k) at q ≡ Some k = ap (with_at p (Some k) at) e ∙ at_here p (Some k) at in
        let none' : at q ≡ None = ap at e ∙ none in
        rw (b, gone, here, none') refl
    go (inr ne) =
        let b : (q == p) ≡ false = grind (arith, nat_tests) in
        let b' : (p == q) ≡ false = grind (arith, nat_tests) in
        let same : stand q (Put (OpenDgram p s) ∷ h) ≡ stand q h = rw b' refl in
        let there : with_at p (Some k) at q ≡ at q = at_there p q (Some k) at (λ e. ne (sym e)) in
        rw (b, same, there) (omega arith)
opened_lives (Opened q) s p k at h none st = (let z : is_live (if q == p then Alive else Opening) ≡ true = go (q == p) in rw z refl)
  where
    go : (b : Bool) → is_live (if b then Alive else Opening) ≡ true
    go true = refl
    go false = refl
opened_lives _ s p k at h none st = refl

pub opens_d : (c : Conf) (s : ℕ) (past : History) (w pend : What) (d : Dgrams) (h : History) (k : ℕ) (a : Tryer) → KeptD c s past w pend d h → d.held k ≡ Some a → a.stage ≡ Queued → d.used < max_places c → newest h ≡ w → on_event w (reach h) Opening ≡ on_event pend (reach h) Opening
    → KeptD c s past w pend (try_at (reach h) k a d) (Put (OpenDgram (reach h) s) ∷ h)
opens_d c s past w pend d h k a kept held stage few new free =
    let p = reach h in
    let o : Out = OpenDgram p s in
    let n = kept.new p (omega arith) in
    let it : (p == p) ≡ true = grind (arith, nat_tests) in
    let st : stand p (Put o ∷ h) ≡ on_event pend p Opening = (let un = n.stand in rw (it, un, new) free) in
    let at' : site p (Put o ∷ h) ≡ Some (dgram_site s) = (let no = n.nowhere in rw (it, no) refl) in
    let reach' : reach (Put o ∷ h) ≡ suc (reach h) = grind arith in
    let f = kept.held k a held in
    let low = held_below c s past w pend d h k a kept held in
    let owes : a.tries + 1 ≤ max_tries c = subst (λ st. a.tries + owing st ≤ max_tries c) stage f.few in
    let off : (q j : ℕ) → d.at q ≡ Some j → p ≢ q = λ q j e g. (let u = n.unheld in let v = ap d.at g in cc) in
    record {
      held = each_at (λ j b. TryerFits c s j b past w pend (Put o ∷ h)) k (staged a (Trying p)) d.held
          (record { asked = f.asked; has_it = f.has_it; unstreamed = f.unstreamed; trials = f.trials; few = owes; stage = record { was = inr n.was; stand = st; untold = (let un = was_unused p h n.stand in rw (it, un) refl); at = at'; unsent = n.unsent; none = n.none } })
          (λ j b ne e. tryer_put c s j b past w pend o h refl (λ q g. far_open p q s (off q j (kept.points j b e q g))) (kept.held j b e));
      slots = λ q j e. slots q j e (cases_eq p q);
      points = each_at (λ j b. (q : ℕ) → placed b.stage ≡ Some q → with_at p (Some k) d.at q ≡ Some j) k (staged a (Trying p)) d.held
          (λ q e. (let same : p ≡ q = cc in ap (with_at p (Some k) d.at) (sym same) ∙ at_here p (Some k) d.at))
          (λ j b ne e q g. (let old = kept.points j b e q g in at_there p q (Some k) d.at (off q j old) ∙ old));
      others = λ q e g. others q e g (cases_eq p q);
      new = λ q le. (let ne : p ≢ q = λ g. omega arith in new_put c q past d (try_at p k a d) o h (far_open p q s ne) (at_there p q (Some k) d.at ne) (kept.new q (omega arith)));
      lives = (
          let last = count_last (λ q. is_live_at s q h) (λ q. is_live_at s q (Put o ∷ h)) (reach h) (λ q ne. sym (live_same c s q o h (far_open p q s (λ g. ne (sym g))))) in
          let test : is_live_at s p (Put o ∷ h) ≡ is_live (on_event pend p Opening) = (let a = dgram_at s p (Put o ∷ h) at' in rw (a, st) refl) in
          let more = opened_lives pend s p k d.at h n.unheld st in
          let old = kept.lives in
          let count : live s (Put o ∷ h) ≡ live s h + one_if (is_live_at s p (Put o ∷ h)) = rw reach' last in
          let one : one_if (is_live_at s p (Put o ∷ h)) ≡ one_if (is_live (on_event pend p Opening)) = ap one_if test in
          omega arith
          );
      places = (let z = places_change k a (staged a (Trying p)) d.held (asks h) low held in let y : placed a.stage ≡ None = ap placed stage in let u : one_if (is_some (placed a.stage)) ≡ 0 = ap (λ x. one_if (is_some x)) y in let v = kept.places in omega arith);
      few = omega arith;
    }
  where
    slots : (q j : ℕ) → with_at (reach h) (Some k) d.at q ≡ Some j → (reach h ≡ q) ⊎ (reach h ≡ q → ⊥) → HasOwner (try_at (reach h) k a d).held q j
    slots q j e (inl is) =
        let same : k ≡ j = (let z = sym (at_here (reach h) (Some k) d.at) ∙ (ap (with_at (reach h) (Some k) d.at) is ∙ e) in cc) in
        subst (λ j. HasOwner (try_at (reach h) k a d).held q j) same (record { owner = staged a (Trying (reach h)); is_held = at_here k (Some (staged a (Trying (reach h)))) d.held; its = ap Some is })
    slots q j e (inr ne) =
        let x = kept.slots q j (sym (at_there (reach h) q (Some k) d.at ne) ∙ e) in
        let other : k ≢ j = λ g. (let same : x.owner ≡ a = (let u = x.is_held in let v = ap d.held g in cc) in let y : placed a.stage ≡ Some q = ap (λ o. placed o.stage) (sym same) ∙ x.its in let z : placed a.stage ≡ None = ap placed stage in cc) in
        record { owner = x.owner; is_held = at_there k j (Some (staged a (Trying (reach h)))) d.held other ∙ x.is_held; its = x.its }

    others : (q : ℕ) → is_at Dgram s q (Put (OpenDgram (reach h) s) ∷ h) ≡ true → with_at (reach h) (Some k) d.at q ≡ None → (reach h ≡ q) ⊎ (reach h ≡ q → ⊥) → is_live (stand q (Put (OpenDgram (reach h) s) ∷ h)) ≡ false
    others q e g (inl is) = absurd (let z = sym (at_here (reach h) (Some k) d.at) ∙ (ap (with_at (reach h) (Some k) d.at) is ∙ g) in cc)
    others q e g (inr ne) =
        let same = dgram_same c q (OpenDgram (reach h) s) h (far_open (reach h) q s ne) in
        rw same.stand (kept.others q (rw same.at at e) (sym (at_there (reach h) q (Some k) d.at ne) ∙ g))

-- A place is left: closed, or as the pending event says.

-- what is left of the count of live places
pub record Leaves (s p : ℕ) (pend pend' : What) (at : ℕ → Option ℕ) (h h' : History) : Type 0 where
  pub count : live s h' + lost pend' (with_at p None at) h' + 1 ≡ live s h + lost pend at h

close_far : (p q : ℕ) → p ≢ q → reaches q (Close p) ≡ false
close_far p q ne = grind (arith, nat_tests)

lost_close : (pend : What) (p k : ℕ) (at : ℕ → Option ℕ) (h : History) → at p ≡ Some k → is_ended (stand p h) ≡ false → lost pend (with_at p None at) (Put (Close p) ∷ h) ≡ lost pend at h
lost_close (OpenFailed q f) p k at h e live = go (cases_eq p q)
  where
    go : (p ≡ q) ⊎ (p ≡ q → ⊥) → lost (OpenFailed q f) (with_at p None at) (Put (Close p) ∷ h) ≡ lost (OpenFailed q f) at h
    go (inl is) =
        let here : with_at p None at q ≡ None = ap (with_at p None at) (sym is) ∙ at_here p None at in
        let there : at q ≡ Some k = ap at (sym is) ∙ e in
        let l : is_ended (stand q h) ≡ false = ap (λ q. is_ended (stand q h)) (sym is) ∙ live in
        rw (here, there, l) refl
    go (inr ne) =
        let b : (p == q) ≡ false = grind (arith, nat_tests) in
        rw b refl
lost_close _ p k at h e live = refl

lost_gone : (p : ℕ) (f : Fault) (k : ℕ) (at : ℕ → Option ℕ) (h h' : History) → at p ≡ Some k → stand p h ≡ Gone → lost (OpenFailed p f) (with_at p None at) h' + 1 ≡ lost (OpenFailed p f) at h
lost_gone p f k at h h' e gone = (let here = at_here p None at in rw (here, e, gone) refl)

pub closes_lives : (c : Conf) → (s p k : ℕ) (pend : What) (at : ℕ → Option ℕ) (h : History) → at p ≡ Some k → p < reach h → site p h ≡ Some (dgram_site s) → Standing pend p h → Leaves s p pend pend at h (Put (Close p) ∷ h)
closes_lives c s p k pend at h e low site' (inl st) =
    let c = count_change (λ q. is_live_at s q h) (λ q. is_live_at s q (Put (Close p) ∷ h)) (reach h) p low (λ q ne. sym (live_same c s q (Close p) h (close_far p q (λ g. ne (sym g))))) in
    let it : (p == p) ≡ true = grind (arith, nat_tests) in
    let a = dgram_at s p h site' in
    let old : is_live_at s p h ≡ true = rw (a, st) refl in
    let new : is_live_at s p (Put (Close p) ∷ h) ≡ false = rw (a, it, st) refl in
    let old' = ap one_if old in
    let new' = ap one_if new in
    let l = lost_close pend p k at h e (rw st refl) in
    record { count = omega arith }
closes_lives c s p k pend at h e low site' (inr (inl st)) =
    let c = count_change (λ q. is_live_at s q h) (λ q. is_live_at s q (Put (Close p) ∷ h)) (reach h) p low (λ q ne. sym (live_same c s q (Close p) h (close_far p q (λ g. ne (sym g))))) in
    let it : (p == p) ≡ true = grind (arith, nat_tests) in
    let a = dgram_at s p h site' in
    let old : is_live_at s p h ≡ true = rw (a, st) refl in
    let new : is_live_at s p (Put (Close p) ∷ h) ≡ false = rw (a, it, st) refl in
    let old' = ap one_if old in
    let new' = ap one_if new in
    let l = lost_close pend p k at h e (rw st refl) in
    record { count = omega arith }
closes_lives c s p k pend at h e low site' (inr (inr st)) =
    let c = count_change (λ q. is_live_at s q h) (λ q. is_live_at s q (Put (Close p) ∷ h)) (reach h) p low (λ q ne. sym (live_same c s q (Close p) h (close_far p q (λ g. ne (sym g))))) in
    let it : (p == p) ≡ true = grind (arith, nat_tests) in
    let a = dgram_at s p h site' in
    let gone = st.0 in
    let old : is_live_at s p h ≡ false = rw (a, gone) refl in
    let new : is_live_at s p (Put (Close p) ∷ h) ≡ false = rw (a, it, gone) refl in
    let old' = ap one_if old in
    let new' = ap one_if new in
    let l : lost pend (with_at p None at) (Put (Close p) ∷ h) + 1 ≡ lost pend at h = subst (λ w. lost w (with_at p None at) (Put (Close p) ∷ h) + 1 ≡ lost w at h) (sym st.1.1) (lost_gone p st.1.0 k at h (Put (Close p) ∷ h) e gone) in
    record { count = omega arith }

-- a place is closed, and its request comes to a stage without one
pub closes_d : (c : Conf) (s : ℕ) (past : History) (w pend : What) (d : Dgrams) (h : History) (p k : ℕ) (a : Tryer) (st : Stage) → KeptD c s past w pend d h → d.held k ≡ Some a → placed a.stage ≡ Some p → placed st ≡ None → a.tries + owing st ≤ max_tries c → StageFits c s k a.request past w pend (Put (Close p) ∷ h) st
    → KeptD c s past w pend (leave p k a st d) (Put (Close p) ∷ h)
closes_d c s past w pend d h p k a st kept held at free few' fits =
    let o : Out = Close p in
    let f = kept.held k a held in
    let owner = kept.points k a held p at in
    let low = place_below c s past w pend d h p k kept owner in
    let below = held_below c s past w pend d h k a kept held in
    let stands = standing c s k p a.request past w pend h a.stage at f.stage in
    let leaves = closes_lives c s p k pend d.at h owner low stands.1 stands.0 in
    let one : one_if (is_some (placed a.stage)) ≡ 1 = ap (λ x. one_if (is_some x)) at in
    let none : one_if (is_some (placed st)) ≡ 0 = ap (λ x. one_if (is_some x)) free in
    let change = places_change k a (staged a st) d.held (asks h) below held in
    record {
      held = each_at (λ j b. TryerFits c s j b past w pend (Put o ∷ h)) k (staged a st) d.held
          (record { asked = f.asked; has_it = f.has_it; unstreamed = f.unstreamed; trials = f.trials; few = few'; stage = fits })
          (λ j b ne e. tryer_put c s j b past w pend o h refl (λ q g. close_far p q (λ is. (let z = one_owner c s past w pend d h p j k b kept owner e (g ∙ ap Some (sym is)) in ne (sym z)))) (kept.held j b e));
      slots = each_other (λ q j. HasOwner (with_at k (Some (staged a st)) d.held) q j) p d.at
          (λ q j ne e. (let x = kept.slots q j e in
          let other : k ≢ j = λ g. (let same : x.owner ≡ a = (let u = x.is_held in let v = ap d.held g in cc) in let y : placed a.stage ≡ Some q = ap (λ o. placed o.stage) (sym same) ∙ x.its in let z : Some p ≡ Some q = sym at ∙ y in ne (some_same p q z)) in
          record { owner = x.owner; is_held = at_there k j (Some (staged a st)) d.held other ∙ x.is_held; its = x.its }));
      points = each_at (λ j b. (q : ℕ) → placed b.stage ≡ Some q → with_at p None d.at q ≡ Some j) k (staged a st) d.held
          (λ q e. absurd (let z = sym free ∙ e in cc))
          (λ j b ne e q g. (let far : p ≢ q = λ is. (let z = one_owner c s past w pend d h p j k b kept owner e (g ∙ ap Some (sym is)) in ne (sym z)) in at_there p q None d.at far ∙ kept.points j b e q g));
      others = λ q e g. others q e g (cases_eq p q) stands.0;
      new = λ q le. (let ne : p ≢ q = λ g. omega arith in new_put c q past d (leave p k a st d) o h (close_far p q ne) (at_there p q None d.at ne) (kept.new q le));
      lives = (let x = leaves.count in let y = kept.lives in omega arith);
      places = (let y = kept.places in omega arith);
      few = (let y = kept.few in omega arith);
    }
  where
    some_same : (p q : ℕ) → Some p ≡ Some q → p ≡ q
    some_same p q e = cc

    others : (q : ℕ) → is_at Dgram s q (Put (Close p) ∷ h) ≡ true → with_at p None d.at q ≡ None → (p ≡ q) ⊎ (p ≡ q → ⊥) → Standing pend p h → is_live (stand q (Put (Close p) ∷ h)) ≡ false
    others q e g (inl is) stands = subst (λ q. is_live (stand q (Put (Close p) ∷ h)) ≡ false) is (dead stands)
      where
        dead : Standing pend p h → is_live (stand p (Put (Close p) ∷ h)) ≡ false
        dead (inl st) = (let it : (p == p) ≡ true = grind (arith, nat_tests) in rw (it, st) refl)
        dead (inr (inl st)) = (let it : (p == p) ≡ true = grind (arith, nat_tests) in rw (it, st) refl)
        dead (inr (inr st)) = (let it : (p == p) ≡ true = grind (arith, nat_tests) in let gone = st.0 in rw (it, gone) refl)
    others q e g (inr ne) stands =
        let same = dgram_same c q (Close p) h (close_far p q ne) in
        rw same.stand (kept.others q (rw same.at at e) (sym (at_there p q None d.at ne) ∙ g))
