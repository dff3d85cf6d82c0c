-- What is kept of the newest row's outs is what the definitions say.
use Rattle.std.proofs.Common.{◌≡◌, ℕ, ◌==◌, ◌||◌, Bool, true, false, if◌then◌else◌, is_some, List, [], ◌∷◌, Option, Some, None, refl, sym, ap, ◌∙◌, arith}
use Rattle.std.proofs.lemmas.Bool.Decides.{nat_tests}
use Rattle.number_table.specs.Entries.{puts, entry_at}
use Rattle.client_request.specs.declared.event.{Event.Event, Out.Out, What.TheVariants.Tick}
use Rattle.client_request.specs.declared.event.Out.TheVariants.{Start, OpenDgram, OpenStream, Send, Write, Resume, Close, Stale, Reply}
use Rattle.right_trace.specs.Trace.{History, Came, Put}
use Rattle.right_trace.specs.Places.{Stand, Unused, Opening, Alive, Gone, begun, closed, is_live, stand_untold, closed_here}
use Rattle.trace_tables.specs.declared.places.{Place.Place, Stand.Stand as Seen}
use Rattle.trace_tables.specs.declared.places.Stand.TheVariants as seen
use Rattle.trace_tables.specs.Known.{Known as PlacesKnown, stand_of, stand_seen}
use Rattle.trace_tables.proofs.Tables.{at_puts}
use Rattle.trace_tables.specs.declared.frames.here.Here.{Here}
use Rattle.trace_tables.specs.frames.Here.{Known, GoesOn, nothing, stand_here, stand_at, opens_at, untold_closed, closes_at, as_stand, has_put}

before : (o : Option Place) → as_stand (stand_here None o) ≡ stand_seen o
before None = refl
before (Some x) = refl

same_place : (p q : ℕ) → (p == q) ≡ true → p ≡ q
same_place p q e = grind (arith, nat_tests)

begun_again : (q : ℕ) (x : Seen) → stand_of x ≡ begun Tick q (stand_of x)
begun_again q seen.Opening = refl
begun_again q seen.Alive = refl
begun_again q seen.Gone = refl

closed_gone : (x : Seen) → Gone ≡ closed (stand_of x)
closed_gone seen.Opening = refl
closed_gone seen.Alive = refl
closed_gone seen.Gone = refl

opens_closed : (p : ℕ) (o : Option Seen) (t : Here) → (opens_at p o t).closed ≡ t.closed
opens_closed p None t = refl
opens_closed p (Some x) t = refl

module _ (past : List (ℕ × Place)) where
  -- what an opening and a close make of one place
  opened : (p q : ℕ) (o : Option Seen) (t : Here) → stand_at p past t ≡ o → as_stand (stand_at q past (opens_at p o t)) ≡ (if p == q then begun Tick q (as_stand (stand_at q past t)) else as_stand (stand_at q past t))
  opened p q None t e = ap (λ x. as_stand (stand_here x (entry_at q past))) (at_puts p seen.Opening q t.untold) ∙ go (p == q) refl
    where
      go : (b : Bool) → (p == q) ≡ b → as_stand (stand_here (if b then Some seen.Opening else entry_at q t.untold) (entry_at q past)) ≡ (if b then begun Tick q (as_stand (stand_at q past t)) else as_stand (stand_at q past t))
      go true i = sym (ap (λ x. begun Tick q (as_stand x)) (sym (ap (λ n. stand_at n past t) (same_place p q i)) ∙ e))
      go false i = refl
  opened p q (Some x) t e = go (p == q) refl
    where
      go : (b : Bool) → (p == q) ≡ b → as_stand (stand_at q past t) ≡ (if b then begun Tick q (as_stand (stand_at q past t)) else as_stand (stand_at q past t))
      go true i =
          let y : stand_at q past t ≡ Some x = sym (ap (λ n. stand_at n past t) (same_place p q i)) ∙ e in
          ap as_stand y ∙ (begun_again q x ∙ sym (ap (λ z. begun Tick q (as_stand z)) y))
      go false i = refl

  shut : (p q : ℕ) (o : Option Seen) (t : Here) → stand_at p past t ≡ o → as_stand (stand_at q past (closes_at p o t)) ≡ (if p == q then closed (as_stand (stand_at q past t)) else as_stand (stand_at q past t))
  shut p q None t e = go (p == q) refl
    where
      go : (b : Bool) → (p == q) ≡ b → as_stand (stand_at q past t) ≡ (if b then closed (as_stand (stand_at q past t)) else as_stand (stand_at q past t))
      go true i =
          let y : stand_at q past t ≡ None = sym (ap (λ n. stand_at n past t) (same_place p q i)) ∙ e in
          ap as_stand y ∙ sym (ap (λ z. closed (as_stand z)) y)
      go false i = refl
  shut p q (Some x) t e = ap (λ x. as_stand (stand_here x (entry_at q past))) (at_puts p seen.Gone q t.untold) ∙ go (p == q) refl
    where
      go : (b : Bool) → (p == q) ≡ b → as_stand (stand_here (if b then Some seen.Gone else entry_at q t.untold) (entry_at q past)) ≡ (if b then closed (as_stand (stand_at q past t)) else as_stand (stand_at q past t))
      go true i = closed_gone x ∙ sym (ap (λ z. closed (as_stand z)) (sym (ap (λ n. stand_at n past t) (same_place p q i)) ∙ e))
      go false i = refl

  closed_more : (p q : ℕ) (t : List (ℕ × Unit {0})) (b : Bool) → is_some (entry_at q t) ≡ b → is_some (entry_at q (puts p tt t)) ≡ (p == q || b)
  closed_more p q t b e = ap is_some (at_puts p tt q t) ∙ go (p == q)
    where
      go : (c : Bool) → is_some (if c then Some tt else entry_at q t) ≡ (c || b)
      go true = refl
      go false = e

  out : (h : History) (t : Here) (o : Out) → Known past h t → Known past (Put o ∷ h) (has_put o past t)
  out h t (OpenDgram p s) is = record { untold = λ q. opened p q (stand_at p past t) t refl ∙ ap (λ x. if p == q then begun Tick q x else x) (is.untold q); closes = λ q. ap (λ c. is_some (entry_at q c)) (opens_closed p (stand_at p past t) t) ∙ is.closes q }
  out h t (OpenStream p s) is = record { untold = λ q. opened p q (stand_at p past t) t refl ∙ ap (λ x. if p == q then begun Tick q x else x) (is.untold q); closes = λ q. ap (λ c. is_some (entry_at q c)) (opens_closed p (stand_at p past t) t) ∙ is.closes q }
  out h t (Close p) is = record { untold = λ q. shut p q (stand_at p past t) t refl ∙ ap (λ x. if p == q then closed x else x) (is.untold q); closes = λ q. closed_more p q t.closed (closed_here q h) (is.closes q) }
  out h t (Start k s v) is = record { untold = is.untold; closes = is.closes }
  out h t (Send p k i o) is = record { untold = is.untold; closes = is.closes }
  out h t (Write p k i o) is = record { untold = is.untold; closes = is.closes }
  out h t (Resume p o) is = record { untold = is.untold; closes = is.closes }
  out h t (Stale k) is = record { untold = is.untold; closes = is.closes }
  out h t (Reply k x) is = record { untold = is.untold; closes = is.closes }

begins : (h : History) (past : List (ℕ × Place)) (e : Event) → PlacesKnown h past → Known past (Came e ∷ h) nothing
begins h past e is = record { untold = λ p. before (entry_at p past) ∙ is.stands p; closes = λ p. refl }

pub goes_on : GoesOn
goes_on = record {
  begins = begins;
  out = λ h past t o is. out past h t o is;
  live = λ h past t p is e. ap is_live (sym (is.untold p)) ∙ e;
  was_live = λ h past t p is e. ap is_live (is.untold p) ∙ e;
}
