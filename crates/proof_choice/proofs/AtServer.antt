-- One server of the list is called, and the others stay tied as they were.
use Rattle.std.proofs.Common.{◌≡◌, ℕ, zero, suc, ◌<◌, ◌≤◌, ◌⊎◌, inl, inr, true, List, [], ◌∷◌, length, Option, Some, None, slice_get, refl, sym, ap, subst, subst₂, ◌∙◌, arith}
use Rattle.std.specs.Prelude.{set}
use Rattle.std.proofs.lemmas.Option.{slice_get_within}
use Rattle.client_request.specs.Timers.{TimerList}
use Rattle.client_request.specs.View.{View}
use Rattle.client_choice.specs.Servers.{Server}
use Rattle.client_choice.proofs.At.{set_here, set_there}
use Rattle.proof_right.specs.machine.Part.{Act}
use Rattle.proof_parts.specs.PartTie.{Phase}
use Rattle.proof_parts.specs.Sights.{sight, due_of, IsFair}
use Rattle.proof_parts.proofs.GoingOn.{none_next}
use Rattle.proof_parts.proofs.Keys.{each_number}
use Rattle.proof_choice.specs.Choosing.{Choosing}
use Rattle.proof_choice.proofs.Opening.{below_up_to}
use Rattle.proof_choice.specs.Servers.{State, Listed, AreTied, OthersAreTied, IsCalled, OthersStayTied}

module _ {A : Type 0} where
  pub set_length : (xs : List A) (i : ℕ) (b : A) → length (set xs i b) ≡ length xs
  set_length [] i b = refl
  set_length (x ∷ xs) zero b = refl
  set_length (x ∷ xs) (suc i) b = ap suc (set_length xs i b)

  pub both_are : (o : Option A) (a b : A) → o ≡ Some a → o ≡ Some b → a ≡ b
  both_are o a b p q = cc

  pub none_is : (o : Option A) (a : A) → o ≡ None → o ≡ Some a → ⊥
  none_is o a p q = cc

pub at_most : (a b : ℕ) → a ≡ b → a ≤ b
at_most a b e = omega arith

pub up_to : (a b c d : ℕ) → b ≡ a → b ≤ c → d ≡ c → a ≤ d
up_to a b c d e le f = omega arith

-- a view that looks the same is as fair
pub fair_as : (v w : View) → w.timers ≡ v.timers → w.words ≡ v.words → IsFair v → IsFair w
fair_as v w timers words fair = subst₂ (λ (t : TimerList) (f : ℕ → ℕ). IsFair (record w { timers = t; words = f })) (sym timers) (sym words) (record { order = fair.order; words = fair.words })

pub but : (g : Choosing) (s : ℕ) (phase : ℕ → Phase) (servers : Listed g) (v : View) (x : State g) → AreTied g phase servers v x → OthersAreTied g s phase servers v x
but g s phase servers v x t = record { count = t.count; tied = λ q a ne at. t.tied q a at; apart = t.apart; fair = t.fair; place = t.place; places = t.places }

module _ (g : Choosing) (s : ℕ) (May : Act g.P.State → Type 0) (named : ℕ → Option ℕ) (phase after : ℕ → Phase) (servers : Listed g) (a b : Server g.U) (v w : View) (x y : State g)
    (t : OthersAreTied g s phase servers v x) (at : slice_get servers s ≡ Some a) (k : IsCalled g s May named a b v w (after s) x y) (others : (q : ℕ) → (s ≡ q → ⊥) → after q ≡ phase q) where
  within : (q : ℕ) (e : Server g.U) → slice_get servers q ≡ Some e → q < length (g.c).servers
  within q e is = subst (λ n. q < n) t.count (slice_get_within servers q e is)

  now : w.now ≡ v.now
  now = k.to.now ∙ (k.leaves.goes_on.now ∙ k.from.now)

  -- a timer of another server is not one of this
  not_mine : (q : ℕ) (e : Server g.U) (i : ℕ) → (s ≡ q → ⊥) → slice_get servers q ≡ Some e → g.Owns e.upstream i → g.Owns a.upstream i → ⊥
  not_mine q e i ne is o mine = ne (t.apart s q i a e at is mine o)

  is_set : (q : ℕ) (e : Server g.U) (i : ℕ) → (s ≡ q → ⊥) → slice_get servers q ≡ Some e → g.Owns e.upstream i → (due : ℕ) × (due_of i v.timers.set ≡ Some due)
  is_set q e i ne is o = (g.tie q (within q e is)).set (phase q) e.upstream (sight v) (x.ups q) i (t.tied q e ne is) o

  still_due : (q : ℕ) (e : Server g.U) (i : ℕ) → (s ≡ q → ⊥) → slice_get servers q ≡ Some e → g.Owns e.upstream i → due_of i w.timers.set ≡ due_of i v.timers.set
  still_due q e i ne is o =
      let d = is_set q e i ne is o in
      ap (λ (l : TimerList). due_of i l.set) k.to.timers
      ∙ (k.leaves.others i d.0 (not_mine q e i ne is o) (ap (λ (l : TimerList). due_of i l.set) k.from.timers ∙ d.1) ∙ sym d.1)

  tied_here : g.Tied s (after s) b.upstream (sight w) (y.ups s)
  tied_here = subst (λ z. g.Tied s (after s) b.upstream (sight w) z) (sym k.moved.state)
      ((g.tie s (within s a at)).same (after s) b.upstream (sight k.after) (sight w) k.leaves.made.state k.leaves.tied k.to.now (λ i o. ap (λ (l : TimerList). due_of i l.set) k.to.timers)
      (at_most k.after.timers.next w.timers.next (ap (λ (l : TimerList). l.next) (sym k.to.timers))) (at_most k.after.ticket w.ticket (sym k.to.ticket)) (at_most k.after.place w.place (sym k.to.place)))

  tied_there : (q : ℕ) (e : Server g.U) → (s ≡ q → ⊥) → slice_get servers q ≡ Some e → g.Tied q (after q) e.upstream (sight w) (y.ups q)
  tied_there q e ne is = subst₂ (λ p z. g.Tied q p e.upstream (sight w) z) (sym (others q ne)) (sym (k.moved.others q ne))
      ((g.tie q (within q e is)).same (phase q) e.upstream (sight v) (sight w) (x.ups q) (t.tied q e ne is) now (λ i o. still_due q e i ne is o)
      (up_to v.timers.next k.before.timers.next k.after.timers.next w.timers.next (ap (λ (l : TimerList). l.next) k.from.timers) k.leaves.goes_on.timer (ap (λ (l : TimerList). l.next) k.to.timers))
      (up_to v.ticket k.before.ticket k.after.ticket w.ticket k.from.ticket k.leaves.goes_on.ticket k.to.ticket)
      (up_to v.place k.before.place k.after.place w.place k.from.place k.leaves.goes_on.place k.to.place))

  -- a timer of this server is none of another
  none_of : (q : ℕ) (e : Server g.U) (i : ℕ) → (s ≡ q → ⊥) → slice_get servers q ≡ Some e → g.Owns b.upstream i → g.Owns e.upstream i → ⊥
  none_of q e i ne is mine o = elim (k.leaves.owned i mine) [
    | inl was ↦ not_mine q e i ne is o was
    | inr le ↦ (let d = is_set q e i ne is o in none_is (due_of i v.timers.set) d.0 (none_next v i t.fair (subst (λ (l : TimerList). l.next ≤ i) k.from.timers le)) d.1)
  ]

  is_here : (e : Server g.U) → slice_get (set servers s b) s ≡ Some e → b ≡ e
  is_here e is = both_are (slice_get (set servers s b) s) b e (set_here servers s a b at) is

  was_there : (q : ℕ) (e : Server g.U) → (s ≡ q → ⊥) → slice_get (set servers s b) q ≡ Some e → slice_get servers q ≡ Some e
  was_there q e ne is = sym (set_there servers s q b ne) ∙ is

  grows : x.place ≤ y.place
  grows = subst (λ n. x.place ≤ n) (sym k.moved.place) k.opens.on

  -- a place that is open was, or this server opened it
  had : (q p : ℕ) → g.has (y.ups q) p ≡ true → (g.has (x.ups q) p ≡ true) ⊎ ((s ≡ q) × (x.place ≤ p))
  had q p is = each_number (λ q. g.has (y.ups q) p ≡ true → (g.has (x.ups q) p ≡ true) ⊎ ((s ≡ q) × (x.place ≤ p))) s
      (λ is. elim (k.opens.opened p (subst (λ z. g.has z p ≡ true) k.moved.state is)) [ inl old ↦ inl old | inr new ↦ inr (refl, new.0) ])
      (λ q ne is. inl (subst (λ z. g.has z p ≡ true) (k.moved.others q ne) is)) q is

  given : (q p : ℕ) → q < length (g.c).servers → g.has (y.ups q) p ≡ true → p < y.place
  given q p lt is = each_number (λ q. q < length (g.c).servers → g.has (y.ups q) p ≡ true → p < y.place) s
      (λ lt is. elim (k.opens.opened p (subst (λ z. g.has z p ≡ true) k.moved.state is)) [
        | inl old ↦ below_up_to p x.place y.place (t.places.below s p lt old) grows
        | inr new ↦ subst (λ n. p < n) (sym k.moved.place) new.1
      ])
      (λ q ne lt is. below_up_to p x.place y.place (t.places.below q p lt (subst (λ z. g.has z p ≡ true) (k.moved.others q ne) is)) grows) q lt is

  not_yet : (p : ℕ) → p < x.place → x.place ≤ p → ⊥
  not_yet p lt le = omega arith

  one_place : (q r p : ℕ) → q < length (g.c).servers → r < length (g.c).servers → g.has (y.ups q) p ≡ true → g.has (y.ups r) p ≡ true → q ≡ r
  one_place q r p lt le is it = elim (had q p is) [
    | inl a ↦ elim (had r p it) [ inl b ↦ t.places.places q r p lt le a b | inr b ↦ absurd (not_yet p (t.places.below q p lt a) b.1) ]
    | inr a ↦ elim (had r p it) [ inl b ↦ absurd (not_yet p (t.places.below r p le b) a.1) | inr b ↦ sym a.0 ∙ b.0 ]
  ]

  pub stay_tied : AreTied g after (set servers s b) w y
  stay_tied = record {
    count = set_length servers s b ∙ t.count;
    tied = λ q e is. each_number (λ q. slice_get (set servers s b) q ≡ Some e → g.Tied q (after q) e.upstream (sight w) (y.ups q)) s
        (λ is. subst (λ (e : Server g.U). g.Tied s (after s) e.upstream (sight w) (y.ups s)) (is_here e is) tied_here)
        (λ q ne is. tied_there q e ne (was_there q e ne is)) q is;
    apart = λ q r i e f is it o p. each_number (λ q. slice_get (set servers s b) q ≡ Some e → q ≡ r) s
        (λ is. each_number (λ r. slice_get (set servers s b) r ≡ Some f → s ≡ r) s (λ it. refl)
        (λ r ne it. absurd (none_of r f i ne (was_there r f ne it) (subst (λ (e : Server g.U). g.Owns e.upstream i) (sym (is_here e is)) o) p)) r it)
        (λ q ne is. each_number (λ r. slice_get (set servers s b) r ≡ Some f → q ≡ r) s
        (λ it. absurd (none_of q e i ne (was_there q e ne is) (subst (λ (e : Server g.U). g.Owns e.upstream i) (sym (is_here f it)) p) o))
        (λ r re it. t.apart q r i e f (was_there q e ne is) (was_there r f re it) o p) r it) q is;
    fair = fair_as k.after w k.to.timers k.to.words k.leaves.goes_on.fair;
    place = k.moved.place ∙ (sym k.leaves.place ∙ sym k.to.place);
    places = record { places = one_place; below = given };
  }

pub others_stay_tied : OthersStayTied
others_stay_tied g s May named phase after servers a b v w x y t at k others = stay_tied g s May named phase after servers a b v w x y t at k others
