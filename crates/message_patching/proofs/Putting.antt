-- Octets that are written over others.
use Rattle.std.proofs.Common.{◌≡◌, ℕ, ◌+◌, ◌≤◌, List, [], ◌∷◌, ◌++◌, length, take, drop, refl, ap, sym, subst, ◌∙◌, arith, length-append, append_assoc, append-nil}
use Rattle.std.specs.List.{AllByRecursion}
use Rattle.std.proofs.lemmas.List.{take-append-le, drop-append-le, length-take-le, length-drop}
use Rattle.std.proofs.Math.Seq.{drop-append-add, drop-append_seam, take-append_seam}
use Rattle.message_patching.specs.Patching.{put_over, puts}

abbrev pub IsIn : ℕ → ℕ × List ℕ → Type 0
IsIn n w = w.0 + length w.1 ≤ n

put_long : (at : ℕ) (new o : List ℕ) → at + length new ≤ length o → length (put_over at new o) ≡ length o
put_long at new o h = omega (arith, length-append (take at o) (new ++ drop (at + length new) o), length-append new (drop (at + length new) o), length-take-le at o (omega arith), length-drop (at + length new) o)

put_before : (at : ℕ) (new p back : List ℕ) → at + length new ≤ length p → put_over at new (p ++ back) ≡ put_over at new p ++ back
put_before at new p back h =
    let first : take at (p ++ back) ≡ take at p = take-append-le at p back (omega arith) in
    let rest : drop (at + length new) (p ++ back) ≡ drop (at + length new) p ++ back = drop-append-le (at + length new) p back h in
    ap (λ x. x ++ (new ++ drop (at + length new) (p ++ back))) first ∙ ap (λ x. take at p ++ (new ++ x)) rest ∙ simp append_assoc

pub puts_before : (ws : List (ℕ × List ℕ)) (p back : List ℕ) → AllByRecursion (IsIn (length p)) ws → puts ws (p ++ back) ≡ puts ws p ++ back
puts_before [] p back h = refl
puts_before (w ∷ ws) p back h =
    ap (puts ws) (put_before w.0 w.1 p back h.0) ∙ puts_before ws (put_over w.0 w.1 p) back (subst (λ n. AllByRecursion (IsIn n) ws) (sym (put_long w.0 w.1 p h.0)) h.1)

-- one write more at the end
pub one_more : (front old new : List ℕ) → length old ≡ length new → put_over (length front) new (front ++ old) ≡ front ++ new
one_more front old new e =
    let n : length front + length new ≡ length front + length old = omega (arith, e) in
    let none : drop (length front + length new) (front ++ old) ≡ [] = ap (λ k. drop k (front ++ old)) n ∙ drop-append-add front old (length old) ∙ ap (drop (length old)) (sym (append-nil old)) ∙ drop-append_seam old [] in
    ap (λ x. x ++ (new ++ drop (length front + length new) (front ++ old))) (take-append_seam front old) ∙ ap (λ x. front ++ (new ++ x)) none ∙ ap (λ x. front ++ x) (append-nil new)

pub puts_more : (ws vs : List (ℕ × List ℕ)) (o : List ℕ) → puts (ws ++ vs) o ≡ puts vs (puts ws o)
puts_more [] vs o = refl
puts_more (w ∷ ws) vs o = puts_more ws vs (put_over w.0 w.1 o)

pub more_room : (ws : List (ℕ × List ℕ)) (n k : ℕ) → n ≤ k → AllByRecursion (IsIn n) ws → AllByRecursion (IsIn k) ws
more_room [] n k le h = tt
more_room (w ∷ ws) n k le h = (omega (arith, h.0, le), more_room ws n k le h.1)

pub one_in : (ws : List (ℕ × List ℕ)) (w : ℕ × List ℕ) (n : ℕ) → AllByRecursion (IsIn n) ws → IsIn n w → AllByRecursion (IsIn n) (ws ++ w ∷ [])
one_in [] w n h one = (one, tt)
one_in (v ∷ ws) w n h one = (h.0, one_in ws w n h.1 one)
