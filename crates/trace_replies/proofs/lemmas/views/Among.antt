-- What is found going through replies, of which the newest stand first.
use Rattle.std.proofs.Common.{◌≡◌, ◌≤◌, ℕ, ◌⊎◌, inl, inr, Bool, true, false, List, [], ◌∷◌, refl, sym, ap, ◌∙◌, subst, arith}
use Rattle.right_trace.specs.Parts.{IsIn}
use Rattle.trace_replies.specs.declared.given.asks.Asks.{Asks}
use Rattle.trace_replies.specs.declared.given.earlier.Earlier.{Earlier}
use Rattle.trace_replies.specs.given.Earlier.{AreBefore}
use Rattle.trace_replies.specs.views.Among.{Giving, Yes, No, TellsOne, TellsSome}

pub never : (b : Bool) → b ≡ true → b ≡ false → ⊥
never b e f = absurd (let z : true ≡ false = sym e ∙ f in cc)

module _ (G : Giving) (a : Asks) where
  pub no_one : (e : Earlier) → No G a e → TellsOne G a e false
  no_one e none = record { so = λ t. absurd (cc); non = λ t. none }

  -- no reply
  pub none_there : (es : List Earlier) → es ≡ [] → TellsSome G a es false
  none_there es none = record { so = λ e. absurd (cc); non = λ e from o z i. absurd (subst (IsIn z) none i) }

  -- those that are left of some, of which those before gave nothing
  pub record Left (every left : List Earlier) : Type 0 where
    pub order : (from : ℕ) → AreBefore from every → (to : ℕ) × AreBefore to left
    pub here : (e : Earlier) → IsIn e left → IsIn e every
    pub rest : (from : ℕ) → AreBefore from every → (e : Earlier) → IsIn e every → IsIn e left ⊎ No G a e

  pub all_left : (es : List Earlier) → Left es es
  all_left es = record { order = λ from o. (from, o); here = λ e i. i; rest = λ from o e i. inl i }

  pub one_less : (every : List Earlier) (e : Earlier) (left : List Earlier) → No G a e → Left every (e ∷ left) → Left every left
  one_less every e left none l = record {
    order = λ from o. (let z = l.order from o in (e.moment, z.1.1));
    here = λ z i. l.here z (inr i);
    rest = λ from o z i. either z (l.rest from o z i);
  }
    where
      either : (z : Earlier) → IsIn z (e ∷ left) ⊎ No G a z → IsIn z left ⊎ No G a z
      either z (inl (inl is)) = inr (subst (No G a) is none)
      either z (inl (inr i)) = inl i
      either z (inr fails) = inr fails

  all_old : (t to : ℕ) (es : List Earlier) → ((e : Earlier) → e.moment ≤ t → No G a e) → to ≤ t → AreBefore to es → (e : Earlier) → IsIn e es → No G a e
  all_old t to [] old le o e i = absurd i
  all_old t to (x ∷ es) old le o e (inl is) = old e (let b = o.0 in let same = ap (λ (e : Earlier). e.moment) is in omega arith)
  all_old t to (x ∷ es) old le o e (inr i) = all_old t x.moment es old (let b = o.0 in omega arith) o.1 e i

  -- the first of those that are left is too old, as all are that are no newer
  pub none_behind : (every : List Earlier) (e : Earlier) (left : List Earlier) → ((z : Earlier) → z.moment ≤ e.moment → No G a z) → Left every (e ∷ left) → TellsSome G a every false
  none_behind every e left old l = record { so = λ t. absurd (cc); non = λ t from o z i. either from o z (l.rest from o z i) }
    where
      either : (from : ℕ) → AreBefore from every → (z : Earlier) → IsIn z (e ∷ left) ⊎ No G a z → No G a z
      either from o z (inl (inl is)) = subst (No G a) is (old e (omega arith))
      either from o z (inl (inr i)) = all_old e.moment e.moment left old (omega arith) ((l.order from o).1.1) z i
      either from o z (inr fails) = fails

  pub none_left : (every : List Earlier) → Left every [] → TellsSome G a every false
  none_left every l = record { so = λ t. absurd (cc); non = λ t from o z i. either z (l.rest from o z i) }
    where
      either : (z : Earlier) → IsIn z [] ⊎ No G a z → No G a z
      either z (inl i) = absurd i
      either z (inr fails) = fails

  pub first_gives : (every : List Earlier) (e : Earlier) (left : List Earlier) → Yes G a e → Left every (e ∷ left) → TellsSome G a every true
  first_gives every e left holds l = record { so = λ t. (e, l.here e (inl refl), holds); non = λ t. absurd (cc) }

  -- ---- steps of a walk

  pub begins : (every left : List Earlier) → left ≡ every → Left every left
  begins every left is = subst (Left every) (sym is) (all_left every)

  pub goes_by : (every left rest : List Earlier) (e : Earlier) → left ≡ e ∷ rest → No G a e → Left every left → Left every rest
  goes_by every left rest e is none l = one_less every e rest none (subst (Left every) is l)

  pub stops_at : (every left rest : List Earlier) (e : Earlier) → left ≡ e ∷ rest → ((z : Earlier) → z.moment ≤ e.moment → No G a z) → Left every left → TellsSome G a every false
  stops_at every left rest e is old l = none_behind every e rest old (subst (Left every) is l)

  pub finds : (every left rest : List Earlier) (e : Earlier) → left ≡ e ∷ rest → Yes G a e → Left every left → TellsSome G a every true
  finds every left rest e is holds l = first_gives every e rest holds (subst (Left every) is l)

  pub ends : (every left : List Earlier) → left ≡ [] → Left every left → TellsSome G a every false
  ends every left is l = none_left every (subst (Left every) is l)
