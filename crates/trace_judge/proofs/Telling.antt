-- Answers that tell of two things, of either or of one that is had only where another is.
use Rattle.std.proofs.Common.{◌≡◌, ◌&&◌, ◌||◌, ◌⊎◌, inl, inr, not, Bool, true, false, Result, Ok, Err, IfOk, OnOk, refl}
use Rattle.trace_points.specs.questions.Outs.{Tells}

pub either_told : {P Q : Type 0} (a b : Bool) → Tells P a → Tells Q b → Tells (P ⊎ Q) (a || b)
either_told {P} {Q} true b p q = (λ e. inl (p.0 refl), λ r. refl)
either_told {P} {Q} false b p q = (λ e. inr (q.0 e), λ r. go r)
  where
    go : P ⊎ Q → b ≡ true
    go (inl r) = absurd (let z : false ≡ true = p.1 r in cc)
    go (inr r) = q.1 r

pub both_told : {P Q : Type 0} (a b : Bool) → Tells P a → Tells Q b → Tells (P × Q) (a && b)
both_told true b p q = (λ e. (p.0 refl, q.0 e), λ r. q.1 r.1)
both_told false b p q = (λ e. absurd (let z : false ≡ true = e in cc), λ r. p.1 r.0)

-- what is asked only where something is so
pub where_told : {P Q : Type 0} (a b : Bool) → Tells P a → Tells Q b → Tells (P → Q) (not a || b)
where_told true b p q = (λ e r. q.0 e, λ f. q.1 (f (p.0 refl)))
where_told false b p q = (λ e r. absurd (let z : false ≡ true = p.1 r in cc), λ f. refl)

-- a fact that is told by its own truth value
pub own_told : (b : Bool) → Tells (b ≡ true) b
own_told b = (λ e. e, λ e. e)

-- nothing is asked
pub nothing_told : Tells (Unit {0}) true
nothing_told = (λ e. tt, λ u. refl)

pub same_told : {P Q : Type 0} (b : Bool) → (P → Q) → (Q → P) → Tells P b → Tells Q b
same_told b f g p = (λ e. f (p.0 e), λ r. p.1 (g r))

-- what is made of a result
pub if_ok : {A E : Type 0} {P Q : A → Type 0} (r : Result A E) → ((a : A) → P a → Q a) → IfOk r P → IfOk r Q
if_ok (Ok a) f h = f a h
if_ok (Err x) f h = tt

pub on_ok : {A E P Q : Type 0} (r : Result A E) → (P → Q) → OnOk r P → OnOk r Q
on_ok (Ok a) f h = f h
on_ok (Err x) f h = tt

pub ok_then : {A E : Type 0} {P Q : A → Type 0} (r : Result A E) → IfOk r P → ((a : A) → P a → Q a) → IfOk r Q
ok_then r h f = if_ok r f h
