-- Nothing more comes from a server: what it is to the list of those that were started.
use Rattle.std.proofs.Common.{◌≡◌, ℕ, suc, ◌+◌, ◌⊎◌, inl, inr, Bool, true, false, cond, not, ltb, if◌then◌else◌, ◌==◌, List, [], ◌∷◌, length, Option, Some, None, slice_get, refl, sym, ap, subst, ◌∙◌, arith, one-add}
use Rattle.std.proofs.lemmas.Bool.Decides.{nat_tests}
use Rattle.std.specs.List.{position_or_len}
use Rattle.client_choice.specs.Choice.{silenced, silenced_at, silenced_found}
use Rattle.client_choice.specs.declared.job.Started.{Started}
use Rattle.right_trace.specs.Parts.{IsIn}
use Rattle.proof_choice.specs.Requests.{AreApart}
use Rattle.proof_choice.proofs.AtServer.{none_is}

is_it : (a b : ℕ) → (a == b) ≡ true → a ≡ b
is_it a b e = grind (arith, nat_tests)

is_not : (a b : ℕ) → (a == b) ≡ false → a ≡ b → ⊥
is_not a b e s = grind (arith, nat_tests)

module _ {P : Type 0} where
  abbrev quieted : Started P → Started P
  quieted e = record e { response = None }

  found_next : (e : Started P) (es : List (Started P)) (m : ℕ) (o : Option (Started P)) → silenced_found (suc m) (e ∷ es) o ≡ e ∷ silenced_found m es o
  found_next e es m None = refl
  found_next e es m (Some s) = refl

  silenced_next : (e : Started P) (es : List (Started P)) (m l : ℕ) → silenced_at (e ∷ es) (cond (ltb (1 + m) (suc l)) (Some (1 + m)) None) ≡ e ∷ silenced_at es (cond (ltb m l) (Some m) None)
  silenced_next e es m l = ap (λ b. silenced_at (e ∷ es) (cond b (Some (1 + m)) None)) (same m l) ∙ by (ltb m l)
    where
      same : (m l : ℕ) → ltb (1 + m) (suc l) ≡ ltb m l
      same m l = grind (arith, nat_tests)

      by : (b : Bool) → silenced_at (e ∷ es) (cond b (Some (1 + m)) None) ≡ e ∷ silenced_at es (cond b (Some m) None)
      by true = ap (λ (n : ℕ). silenced_found n (e ∷ es) (slice_get (e ∷ es) n)) (one-add m) ∙ found_next e es m (slice_get es m)
      by false = refl

  silenced_first : (e : Started P) (es : List (Started P)) (l : ℕ) → silenced_at (e ∷ es) (cond (ltb 0 (suc l)) (Some 0) None) ≡ quieted e ∷ es
  silenced_first e es l = ap (λ b. silenced_at (e ∷ es) (cond b (Some 0) None)) (some l)
    where
      some : (l : ℕ) → ltb 0 (suc l) ≡ true
      some l = grind (arith, nat_tests)

  pub silenced_cons : (s : ℕ) (e : Started P) (es : List (Started P)) → silenced s (e ∷ es) ≡ (if e.server == s then quieted e ∷ es else e ∷ silenced s es)
  silenced_cons s e es = by (e.server == s) (position_or_len (λ (b : Started P). b.server == s) es) (length es)
    where
      by : (b : Bool) (m l : ℕ) → silenced_at (e ∷ es) (cond (ltb (cond (not b) (1 + m) 0) (suc l)) (Some (cond (not b) (1 + m) 0)) None) ≡ (if b then quieted e ∷ es else e ∷ silenced_at es (cond (ltb m l) (Some m) None))
      by true m l = silenced_first e es l
      by false m l = silenced_next e es m l

  -- An entry that is there then was there before; and where it still owes its result, it is of another server.
  pub record WasThere (s : ℕ) (es : List (Started P)) (b : Started P) : Type 0 where
    pub before : Started P
    pub is : IsIn before es
    pub server : b.server ≡ before.server
    pub lower : b.lower ≡ before.lower
    pub owes : (r : P) → b.response ≡ Some r → (before.response ≡ Some r) × (s ≡ b.server → ⊥)

  pub there_before : (s : ℕ) (es : List (Started P)) (b : Started P) → AreApart es → IsIn b (silenced s es) → WasThere s es b
  there_before s [] b apart m = absurd m
  there_before s (e ∷ es) b apart m = by (e.server == s) refl (subst (λ bs. IsIn b bs) (silenced_cons s e es) m) (there_before s es b apart.1)
    where
      behind : WasThere s es b → WasThere s (e ∷ es) b
      behind w = record { before = w.before; is = inr w.is; server = w.server; lower = w.lower; owes = w.owes }

      quiet_one : quieted e ≡ b → WasThere s (e ∷ es) b
      quiet_one same = record { before = e; is = inl refl; server = ap (λ (x : Started P). x.server) (sym same); lower = ap (λ (x : Started P). x.lower) (sym same); owes = λ r p. absurd (none_is b.response r (ap (λ (x : Started P). x.response) (sym same)) p) }

      by : (z : Bool) → (e.server == s) ≡ z → IsIn b (if z then quieted e ∷ es else e ∷ silenced s es) → (IsIn b (silenced s es) → WasThere s es b) → WasThere s (e ∷ es) b
      by true is m ih = elim m [
        | inl same ↦ quiet_one same
        | inr n ↦ record { before = b; is = inr n; server = refl; lower = refl; owes = λ r p. (p, λ q. apart.0 b n (is_it e.server s is ∙ q)) }
      ]
      by false is m ih = elim m [
        | inl same ↦ record {
          before = e;
          is = inl refl;
          server = ap (λ (x : Started P). x.server) (sym same);
          lower = ap (λ (x : Started P). x.lower) (sym same);
          owes = λ r p. (ap (λ (x : Started P). x.response) same ∙ p, λ q. is_not e.server s is (ap (λ (x : Started P). x.server) same ∙ sym q));
        }
        | inr n ↦ behind (ih n)
      ]

  -- one of another server stays
  pub stays_there : (s : ℕ) (es : List (Started P)) (b : Started P) → (s ≡ b.server → ⊥) → IsIn b es → IsIn b (silenced s es)
  stays_there s [] b ne m = absurd m
  stays_there s (e ∷ es) b ne m = subst (λ bs. IsIn b bs) (sym (silenced_cons s e es)) (by (e.server == s) refl m (stays_there s es b ne))
    where
      by : (z : Bool) → (e.server == s) ≡ z → (e ≡ b) ⊎ IsIn b es → (IsIn b es → IsIn b (silenced s es)) → IsIn b (if z then quieted e ∷ es else e ∷ silenced s es)
      by true is (inl same) ih = absurd (ne (sym (is_it e.server s is) ∙ ap (λ (x : Started P). x.server) same))
      by true is (inr n) ih = inr n
      by false is (inl same) ih = inl same
      by false is (inr n) ih = inr (ih n)

  -- no server is there twice then
  pub still_apart : (s : ℕ) (es : List (Started P)) → AreApart es → AreApart (silenced s es)
  still_apart s [] apart = tt
  still_apart s (e ∷ es) apart = subst AreApart (sym (silenced_cons s e es)) (by (e.server == s) (still_apart s es apart.1))
    where
      by : (z : Bool) → AreApart (silenced s es) → AreApart (if z then quieted e ∷ es else e ∷ silenced s es)
      by true ih = (apart.0, apart.1)
      by false ih = (λ f m same. (let w = there_before s es f apart.1 m in apart.0 w.before w.is (same ∙ w.server)), ih)

  -- there is but one entry of a server
  pub one_alone : (es : List (Started P)) (a b : Started P) → AreApart es → IsIn a es → IsIn b es → a.server ≡ b.server → a ≡ b
  one_alone [] a b apart m n same = absurd m
  one_alone (e ∷ es) a b apart m n same = elim m [
    | inl p ↦ elim n [
      | inl q ↦ sym p ∙ q
      | inr q ↦ absurd (apart.0 b q (ap (λ (x : Started P). x.server) p ∙ same))
    ]
    | inr p ↦ elim n [
      | inl q ↦ absurd (apart.0 a p (ap (λ (x : Started P). x.server) q ∙ sym same))
      | inr q ↦ one_alone es a b apart.1 p q same
    ]
  ]
