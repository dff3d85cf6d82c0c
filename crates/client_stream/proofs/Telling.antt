-- Options, read one behind the other.
use Rattle.std.proofs.Common.{◌≡◌, ℕ, zero, suc, ◌+◌, ◌*◌, ◌<◌, ◌≤◌, Option, List, [], ◌∷◌, length, drop, get_or, refl, sym, ◌∙◌, ap, arith}
use Rattle.client_stream.specs.Keepalive.{told_by, told_after}

long : (n : ℕ) (xs : List ℕ) (t : Option ℕ) → n ≤ length xs → told_after n xs t ≡ told_after 0 (drop n xs) t
long zero xs t h = refl
long (suc n) [] t h = absurd (omega arith)
long (suc n) (x ∷ xs) t h = long n xs t (omega arith)

-- octets that end within an option tell no more
short : (n : ℕ) (xs : List ℕ) (t : Option ℕ) → length xs < n → told_after n xs t ≡ t
short zero xs t h = absurd (omega arith)
short (suc n) [] t h = refl
short (suc n) (x ∷ xs) t h = short n xs t (omega arith)

abbrev code_of : List ℕ → ℕ
code_of rest = 256 * get_or rest 0 0 + get_or rest 1 0

abbrev count_of : List ℕ → ℕ
count_of rest = 256 * get_or rest 2 0 + get_or rest 3 0

begins : (rest : List ℕ) (t : Option ℕ) → 4 ≤ length rest → told_after 0 rest t ≡ told_after (count_of rest) (drop 4 rest) (told_by (code_of rest) (count_of rest) (drop 4 rest) t)
begins [] t h = absurd (omega arith)
begins (a ∷ []) t h = absurd (omega arith)
begins (a ∷ b ∷ []) t h = absurd (omega arith)
begins (a ∷ b ∷ c ∷ []) t h = absurd (omega arith)
begins (a ∷ b ∷ c ∷ d ∷ rest) t h = refl

pub no_head : (rest : List ℕ) (t : Option ℕ) → length rest < 4 → told_after 0 rest t ≡ t
no_head [] t h = refl
no_head (a ∷ []) t h = refl
no_head (a ∷ b ∷ []) t h = refl
no_head (a ∷ b ∷ c ∷ []) t h = refl
no_head (a ∷ b ∷ c ∷ d ∷ rest) t h = absurd (omega arith)

module _ (rest others : List ℕ) (code count : ℕ) (told after : Option ℕ) (h : 4 ≤ length rest) (o : others ≡ drop 4 rest)
    (c : code ≡ get_or rest 0 0 * 256 + get_or rest 1 0) (n : count ≡ get_or rest 2 0 * 256 + get_or rest 3 0) (r : after ≡ told_by code count others told) where
  read_head : told_after 0 rest told ≡ told_after count others after
  read_head =
      let code' : code ≡ code_of rest = omega arith in
      let count' : count ≡ count_of rest = omega arith in
      rw (r, o, code', count') (begins rest told h)

  pub ends_within : length others < count → after ≡ told_after 0 rest told
  ends_within s = sym (read_head ∙ short count others after s)

  pub goes_on : count ≤ length others → (left : List ℕ) → left ≡ drop count others → told_after 0 left after ≡ told_after 0 rest told
  goes_on s left e = ap (λ xs. told_after 0 xs after) e ∙ sym (read_head ∙ long count others after s)
