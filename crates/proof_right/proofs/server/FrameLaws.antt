-- What one frame more does to the folds of the newest row.
use Rattle.std.proofs.Common.{◌≡◌, ℕ, Bool, true, false, not, ◌||◌, Some, List, [], ◌∷◌, ◌++◌, refl, arith, sym, subst, ap}
use Rattle.std.specs.Prelude.{if◌then◌else◌}
use Rattle.std.proofs.lemmas.Bool.{or_right}
use Rattle.std.proofs.lemmas.Bool.Decides.{nat_tests}
use Rattle.right_trace.specs.Trace.{History, Came, Put, Conf}
use Rattle.right_trace.specs.Messages.{Octets, id_in, keepalive_of}
use Rattle.right_trace.specs.Frames.{came_here, is_bad, has_bad, has_id, brings, first_with, last_of, but_last}
use Rattle.right_trace.specs.Writes.{Written, waiting_with, is_any, IsWritten, is_unwritten}
use Rattle.right_trace.specs.Timers.{told_idle, last_keepalive, idle_with, ends_loose_with}

pub brings_more : (id : ℕ) (ms : List Octets) (f : Octets) → brings id (ms ++ f ∷ []) ≡ (brings id ms || has_id id f)
brings_more id [] f = grind arith
brings_more id (m ∷ ms) f = (let i = brings_more id ms f in grind arith)

pub bad_more : (ms : List Octets) (f : Octets) → has_bad ms ≡ false → is_bad f ≡ false → has_bad (ms ++ f ∷ []) ≡ false
bad_more [] f e g = rw g refl
bad_more (m ∷ ms) f e g = (let i = bad_more ms f in grind arith)

pub bad_among : (ms : List Octets) (f : Octets) (more : List Octets) → is_bad f ≡ true → has_bad (ms ++ f ∷ more) ≡ true
bad_among [] f more e = rw e refl
bad_among (m ∷ ms) f more e = or_right (is_bad m) (has_bad (ms ++ f ∷ more)) (bad_among ms f more e)

-- an id that a frame brings is held by nothing
pub waits_none : (ms : List Octets) (p id : ℕ) (h : History) → brings id ms ≡ true → waiting_with ms p id h ≡ []
waits_none ms p id [] e = refl
waits_none ms p id (Came w ∷ h) e = rw e refl
waits_none ms p id (Put o ∷ h) e = (let i = waits_none ms p id h e in grind arith)

-- another id is held as before
pub waits_same : (ms ns : List Octets) (p id : ℕ) (h : History) → brings id ns ≡ brings id ms → waiting_with ns p id h ≡ waiting_with ms p id h
waits_same ms ns p id [] e = refl
waits_same ms ns p id (Came w ∷ h) e = rw e refl
waits_same ms ns p id (Put o ∷ h) e = (let i = waits_same ms ns p id h e in rw (e, i) refl)

pub waits_more : (ms : List Octets) (f : Octets) (p id : ℕ) (h : History) → has_id id f ≡ false → waiting_with (ms ++ f ∷ []) p id h ≡ waiting_with ms p id h
waits_more ms f p id h e = waits_same ms (ms ++ f ∷ []) p id h (let b = brings_more id ms f in grind arith)

pub waits_freed : (ms : List Octets) (f : Octets) (p id : ℕ) (h : History) → has_id id f ≡ true → waiting_with (ms ++ f ∷ []) p id h ≡ []
waits_freed ms f p id h e = waits_none (ms ++ f ∷ []) p id h (let b = brings_more id ms f in grind arith)

-- what waits still, with some frames counted, waits without them
pub waits_before : (ms : List Octets) (p id : ℕ) (y : Written) (h : History) → IsWritten y (waiting_with ms p id h) → IsWritten y (waiting_with [] p id h)
waits_before ms p id y h i = go (brings id ms) refl
  where
    go : (b : Bool) → brings id ms ≡ b → IsWritten y (waiting_with [] p id h)
    go true e = absurd (subst (λ ws. IsWritten y ws) (waits_none ms p id h e) i)
    go false e = subst (λ ws. IsWritten y ws) (sym (waits_same ms [] p id h (sym e))) i

keepalive_more : (ms : List Octets) (f : Octets) (n : ℕ) → is_bad f ≡ false → last_keepalive (ms ++ f ∷ []) n ≡ told_idle (keepalive_of f) (last_keepalive ms n)
keepalive_more [] f n e = rw e refl
keepalive_more (m ∷ ms) f n e = keepalive_more ms f (if is_bad m then n else told_idle (keepalive_of m) n) e

-- so it is in a row in which a frame came
pub idle_more : (c : Conf) → (ms : List Octets) (f : Octets) (rest : List Octets) (p : ℕ) (h : History) → ms ++ f ∷ rest ≡ came_here p h → is_bad f ≡ false → idle_with c (ms ++ f ∷ []) p h ≡ told_idle (keepalive_of f) (idle_with c ms p h)
idle_more c ms f rest p [] e g = absurd (no ms e)
  where
    no : (ms : List Octets) → ms ++ f ∷ rest ≡ [] → ⊥
    no [] e = cc
    no (m ∷ ms) e = cc
idle_more c ms f rest p (Came w ∷ h) e g = keepalive_more ms f (idle_with c (came_here p h) p h) g
idle_more c ms f rest p (Put o ∷ h) e g = idle_more c ms f rest p h e g

last_more : (m : Octets) (ms : List Octets) (f : Octets) → last_of m (ms ++ f ∷ []) ≡ f
last_more m [] f = refl
last_more m (n ∷ ms) f = last_more n ms f

but_more : (m : Octets) (ms : List Octets) (f : Octets) → but_last m (ms ++ f ∷ []) ≡ m ∷ ms
but_more m [] f = refl
but_more m (n ∷ ms) f = ap (λ l. m ∷ l) (but_more n ms f)

-- after a frame that left the place unwritten
pub ends_unwritten : (ms : List Octets) (f : Octets) (p : ℕ) (h : History) → is_unwritten p h ≡ true → ends_loose_with (ms ++ f ∷ []) p h ≡ true
ends_unwritten [] f p h e = rw e refl
ends_unwritten (m ∷ ms) f p h e = rw e refl

-- after a frame whose id nothing held
pub ends_unknown : (ms : List Octets) (f : Octets) (p : ℕ) (h : History) → waiting_with ms p (id_in f) h ≡ [] → ends_loose_with (ms ++ f ∷ []) p h ≡ true
ends_unknown [] f p h e = or_right (is_unwritten p h) (not (is_any (waiting_with [] p (id_in f) h))) (rw e refl)
ends_unknown (m ∷ ms) f p h e = or_right (is_unwritten p h) (not (is_any (waiting_with (but_last m (ms ++ f ∷ [])) p (id_in (last_of m (ms ++ f ∷ []))) h))) (rw (last_more m ms f, but_more m ms f, e) refl)

-- the first frame with an id, where no frame before it has that id
pub first_is : (id : ℕ) (ms : List Octets) (f : Octets) (rest : List Octets) → has_bad ms ≡ false → brings id ms ≡ false → is_bad f ≡ false → id_in f ≡ id → first_with id (ms ++ f ∷ rest) ≡ Some f
first_is id [] f rest a b g i = grind (arith, nat_tests)
first_is id (m ∷ ms) f rest a b g i = (let ih = first_is id ms f rest in grind (arith, nat_tests))
