-- Marks and faults of a row are as the definitions have them.
use Rattle.std.proofs.Common.{◌≡◌, ℕ, ◌+◌, ◌≤◌, ◌==◌, ◌&&◌, min, nat_le, Bool, true, false, List, [], ◌∷◌, Ok, Err, Result, refl, sym, ap, ◌∙◌, arith}
use Rattle.std.proofs.lemmas.Bool.Decides.{nat_tests}
use Rattle.client_request.specs.declared.event.Out.{Out}
use Rattle.client_request.specs.declared.event.Out.TheVariants.{Start, OpenDgram, OpenStream, Send, Write, Resume, Close, Stale, Reply}
use Rattle.right_trace.specs.Right.{IsFollowed, MarksStand, faults}
use Rattle.trace_points.specs.questions.Marks.{is_reply_to, followed_seen, mark_stands, marks_seen, TellsMarks, TellsOneFault}
use Rattle.trace_points.proofs.lemmas.questions.Deciding.{both, all}

followed : (k : ℕ) (os : List Out) → followed_seen k os ≡ true → IsFollowed k os
followed k [] e = absurd (cc)
followed k (Reply j (Ok m) ∷ os) e = same j k e
  where
    same : (a b : ℕ) → (a == b) ≡ true → a ≡ b
    same a b e = grind (arith, nat_tests)
followed k (Reply j (Err x) ∷ os) e = absurd (cc)
followed k (Start j t v ∷ os) e = absurd (cc)
followed k (OpenDgram p t ∷ os) e = absurd (cc)
followed k (OpenStream p t ∷ os) e = absurd (cc)
followed k (Send p j i o ∷ os) e = absurd (cc)
followed k (Write p j i o ∷ os) e = absurd (cc)
followed k (Resume p o ∷ os) e = absurd (cc)
followed k (Close p ∷ os) e = absurd (cc)
followed k (Stale j ∷ os) e = absurd (cc)

is_followed : (k : ℕ) (os : List Out) → IsFollowed k os → followed_seen k os ≡ true
is_followed k [] f = absurd f
is_followed k (Reply j (Ok m) ∷ os) f = same j k f
  where
    same : (a b : ℕ) → a ≡ b → (a == b) ≡ true
    same a b e = grind (arith, nat_tests)
is_followed k (Reply j (Err x) ∷ os) f = absurd f
is_followed k (Start j t v ∷ os) f = absurd f
is_followed k (OpenDgram p t ∷ os) f = absurd f
is_followed k (OpenStream p t ∷ os) f = absurd f
is_followed k (Send p j i o ∷ os) f = absurd f
is_followed k (Write p j i o ∷ os) f = absurd f
is_followed k (Resume p o ∷ os) f = absurd f
is_followed k (Close p ∷ os) f = absurd f
is_followed k (Stale j ∷ os) f = absurd f

marks : (os : List Out) → marks_seen os ≡ true → MarksStand os
marks [] e = tt
marks (Stale k ∷ os) e = let p = both (followed_seen k os) (marks_seen os) e in (followed k os p.0, marks os p.1)
marks (Reply j x ∷ os) e = marks os e
marks (Start j t v ∷ os) e = marks os e
marks (OpenDgram p t ∷ os) e = marks os e
marks (OpenStream p t ∷ os) e = marks os e
marks (Send p j i o ∷ os) e = marks os e
marks (Write p j i o ∷ os) e = marks os e
marks (Resume p o ∷ os) e = marks os e
marks (Close p ∷ os) e = marks os e

stand : (os : List Out) → MarksStand os → marks_seen os ≡ true
stand [] m = refl
stand (Stale k ∷ os) m = all (followed_seen k os) (marks_seen os) (is_followed k os m.0) (stand os m.1)
stand (Reply j x ∷ os) m = stand os m
stand (Start j t v ∷ os) m = stand os m
stand (OpenDgram p t ∷ os) m = stand os m
stand (OpenStream p t ∷ os) m = stand os m
stand (Send p j i o ∷ os) m = stand os m
stand (Write p j i o ∷ os) m = stand os m
stand (Resume p o ∷ os) m = stand os m
stand (Close p ∷ os) m = stand os m

pub tells_marks : (os : List Out) (t : Bool) → t ≡ marks_seen os → TellsMarks os t
tells_marks os t e = ((λ u. marks os (sym e ∙ u)), (λ m. e ∙ stand os m))

one_at_most : (n : ℕ) → nat_le (min 2 n) 1 ≡ true → n ≤ 1
one_at_most n e = grind (arith, nat_tests)

at_most_one : (n : ℕ) → n ≤ 1 → nat_le (min 2 n) 1 ≡ true
at_most_one n e = grind (arith, nat_tests)

pub tells_one_fault : (os : List Out) (t : Bool) → t ≡ nat_le (min 2 (faults os)) 1 → TellsOneFault os t
tells_one_fault os t e = ((λ u. one_at_most (faults os) (sym e ∙ u)), (λ f. e ∙ at_most_one (faults os) f))
