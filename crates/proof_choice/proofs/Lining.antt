-- A list of servers that has each once still does with one more, wherever that stands.
use Rattle.std.proofs.Common.{◌≡◌, ℕ, zero, suc, ◌+◌, ◌<◌, ◌⊎◌, inl, inr, Bool, true, false, if◌then◌else◌, ◌==◌, ◌||◌, List, [], ◌∷◌, ◌++◌, length, take, drop, Option, Some, None, slice_get, refl, sym, ap, subst, arith, append-nil}
use mathlib.Core.Path.{fun_ext}
use Rattle.std.proofs.lemmas.Bool.Decides.{nat_tests}
use Rattle.std.specs.Prelude.{nat_lt}
use Rattle.std.specs.List.{remove}
use Rattle.std.proofs.lemmas.Option.{slice_get_within}
use Rattle.proof_choice.proofs.AtServer.{both_are, none_is}
use Rattle.proof_choice.proofs.Dropping.{found_at}
use Rattle.client_choice.specs.Redundant.{entry_of, first_above, lined_up, lined_up_at, all_lined_up, by_estimate, with_probe, promoted, put_first}
use Rattle.client_choice.specs.Servers.{Server}
use Rattle.client_choice.specs.declared.job.ListedServer.{ListedServer}
use Rattle.proof_choice.specs.Requests.{AreToStart, IsToStart}

take_and_drop : {A : Type 0} (xs : List A) (i : ℕ) → take i xs ++ drop i xs ≡ xs
take_and_drop [] zero = refl
take_and_drop [] (suc i) = refl
take_and_drop (x ∷ xs) zero = refl
take_and_drop (x ∷ xs) (suc i) = ap (λ ys. x ∷ ys) (take_and_drop xs i)

or_swap : (a b c : Bool) → (a || (b || c)) ≡ (b || (a || c))
or_swap true true c = refl
or_swap true false c = refl
or_swap false b c = refl

is_other : (s q : ℕ) (c : Bool) → (s ≡ q → ⊥) → c ≡ false → ((s == q) || c) ≡ false
is_other s q c ne e = grind (arith, nat_tests)

with_one_tried : (count s : ℕ) (es : List ListedServer) (tried : ℕ → Bool) → (IsToStart s es → ⊥) → AreToStart count tried es → AreToStart count (λ t. (s == t) || tried t) es
with_one_tried count s [] tried none line = tt
with_one_tried count s (e ∷ es) tried none line = (
  line.0,
  is_other s e.server (tried e.server) (λ same. none (inl (sym same))) line.1,
  subst (λ f. AreToStart count f es) (fun_ext (λ t. or_swap (s == t) (e.server == t) (tried t))) (with_one_tried count s es (λ t. (e.server == t) || tried t) (λ m. none (inr m)) line.2),
)

pub one_between : (count : ℕ) (front bs : List ListedServer) (e : ListedServer) (tried : ℕ → Bool) → AreToStart count tried (front ++ bs) → e.server < count → tried e.server ≡ false → (IsToStart e.server (front ++ bs) → ⊥) → AreToStart count tried (front ++ e ∷ bs)
one_between count [] bs e tried line lt new none = (lt, new, with_one_tried count e.server bs tried none line)
one_between count (a ∷ front) bs e tried line lt new none = (line.0, line.1, one_between count front bs e (λ t. (a.server == t) || tried t) line.2 lt (is_other a.server e.server (tried e.server) (λ same. none (inl same)) new) (λ m. none (inr m)))

pub is_between : (s : ℕ) (front bs : List ListedServer) (e : ListedServer) → ((e.server ≡ s) ⊎ IsToStart s (front ++ bs)) → IsToStart s (front ++ e ∷ bs)
is_between s [] bs e m = m
is_between s (a ∷ front) bs e (inl same) = inr (is_between s front bs e (inl same))
is_between s (a ∷ front) bs e (inr m) = elim m [ inl p ↦ inl p | inr n ↦ inr (is_between s front bs e (inr n)) ]

pub was_between : (s : ℕ) (front bs : List ListedServer) (e : ListedServer) → IsToStart s (front ++ e ∷ bs) → (e.server ≡ s) ⊎ IsToStart s (front ++ bs)
was_between s [] bs e m = m
was_between s (a ∷ front) bs e m = elim m [ inl p ↦ inr (inl p) | inr n ↦ elim (was_between s front bs e n) [ inl p ↦ inl p | inr q ↦ inr (inr q) ] ]

-- where it stands
record IsPlaced (e : ListedServer) (old new : List ListedServer) : Type 0 where
  pub before : List ListedServer
  pub after : List ListedServer
  pub was : old ≡ before ++ after
  pub is : new ≡ before ++ e ∷ after

placed : (e : ListedServer) (es : List ListedServer) → IsPlaced e es (lined_up e es)
placed e es = by (first_above e.estimate es)
  where
    by : (o : Option ℕ) → IsPlaced e es (lined_up_at e es o)
    by None = record { before = es; after = []; was = sym (append-nil es); is = refl }
    by (Some i) = record { before = take i es; after = drop i es; was = sym (take_and_drop es i); is = refl }

-- the servers below a number stand in a list, each once
record AreBelow (count index : ℕ) (es : List ListedServer) : Type 0 where
  pub line : AreToStart count (λ s. false) es
  pub all : (s : ℕ) → s < index → IsToStart s es
  pub below : (s : ℕ) → IsToStart s es → s < index

one_below : (count : ℕ) (e : ListedServer) (es new : List ListedServer) → IsPlaced e es new → e.server < count → AreBelow count e.server es → AreBelow count (e.server + 1) new
one_below count e es new p lt b = subst (AreBelow count (e.server + 1)) (sym p.is) (record {
  line = one_between count p.before p.after e (λ s. false) (subst (λ l. AreToStart count (λ s. false) l) p.was b.line) lt refl (λ m. not_below e.server (b.below e.server (subst (λ l. IsToStart e.server l) (sym p.was) m)));
  all = λ s le. elim (last_or_less s e.server le) [ inl same ↦ is_between s p.before p.after e (inl same) | inr less ↦ is_between s p.before p.after e (inr (subst (λ l. IsToStart s l) p.was (b.all s less))) ];
  below = λ s m. elim (was_between s p.before p.after e m) [ inl same ↦ next_to e.server s same | inr n ↦ less_then s e.server (b.below s (subst (λ l. IsToStart s l) (sym p.was) n)) ];
})
  where
    not_below : (n : ℕ) → n < n → ⊥
    not_below n lt = omega arith

    last_or_less : (s n : ℕ) → s < n + 1 → (n ≡ s) ⊎ (s < n)
    last_or_less s n lt = grind arith

    next_to : (n s : ℕ) → n ≡ s → s < n + 1
    next_to n s e = omega arith

    less_then : (s n : ℕ) → s < n → s < n + 1
    less_then s n lt = omega arith

all_below : {U : Type 0} → (count index : ℕ) (servers : List (Server U)) (es : List ListedServer) → index + length servers ≡ count → AreBelow count index es → AreBelow count count (all_lined_up index servers es)
all_below count index [] es sum b = subst (λ n. AreBelow count n es) (whole index count sum) b
  where
    whole : (i c : ℕ) → i + 0 ≡ c → i ≡ c
    whole i c e = omega arith
all_below count index (s ∷ more) es sum b =
    all_below count (index + 1) more (lined_up (entry_of index s) es) (next index (length more) count sum) (one_below count (entry_of index s) es (lined_up (entry_of index s) es) (placed (entry_of index s) es) (inside index (length more) count sum) b)
  where
    next : (i n c : ℕ) → i + suc n ≡ c → (i + 1) + n ≡ c
    next i n c e = omega arith

    inside : (i n c : ℕ) → i + suc n ≡ c → i < c
    inside i n c e = omega arith

-- The list by estimate has each server once.
pub by_estimate_has_each : {U : Type 0} → (servers : List (Server U)) → AreToStart (length servers) (λ s. false) (by_estimate servers) × ((s : ℕ) → s < length servers → IsToStart s (by_estimate servers))
by_estimate_has_each servers =
    let b = all_below (length servers) 0 servers [] (zero_first (length servers)) (record { line = tt; all = λ s lt. absurd (none_below s lt); below = λ s m. absurd m }) in (b.line, b.all)
  where
    zero_first : (n : ℕ) → 0 + n ≡ n
    zero_first n = omega arith

    none_below : (s : ℕ) → s < 0 → ⊥
    none_below s lt = omega arith

-- One that goes first is in its place no more.
goes_first : (count : ℕ) (front bs : List ListedServer) (e : ListedServer) (tried : ℕ → Bool) → AreToStart count tried (front ++ e ∷ bs) → (e.server < count) × (tried e.server ≡ false) × AreToStart count (λ t. (e.server == t) || tried t) (front ++ bs)
goes_first count [] bs e tried line = line
goes_first count (a ∷ front) bs e tried line =
    let m = goes_first count front bs e (λ t. (a.server == t) || tried t) line.2 in (
      m.0,
      second (a.server == e.server) (tried e.server) m.1,
      (
        line.0,
        is_other e.server a.server (tried a.server) (λ same. differ a.server e.server (tried e.server) m.1 (sym same)) line.1,
        subst (λ f. AreToStart count f (front ++ bs)) (fun_ext (λ t. or_swap (e.server == t) (a.server == t) (tried t))) m.2,
      ),
    )
  where
    second : (a b : Bool) → (a || b) ≡ false → b ≡ false
    second true b e = absurd (cc)
    second false b e = e

    differ : (s q : ℕ) (c : Bool) → ((s == q) || c) ≡ false → s ≡ q → ⊥
    differ s q c e same = grind (arith, nat_tests)

split_there : {A : Type 0} (xs : List A) (i : ℕ) (x : A) → slice_get xs i ≡ Some x → xs ≡ take i xs ++ x ∷ drop (suc i) xs
split_there [] i x e = absurd (cc)
split_there (y ∷ xs) zero x e = ap (λ z. z ∷ xs) (both_are (Some y) y x refl e)
split_there (y ∷ xs) (suc i) x e = ap (λ ys. y ∷ ys) (split_there xs i x e)

-- The list with the server that is probed in front has each once.
pub probed_has_each : (count estimate place : ℕ) (es : List ListedServer) → AreToStart count (λ s. false) es → ((s : ℕ) → s < count → IsToStart s es)
    → AreToStart count (λ s. false) (promoted place estimate es) × ((s : ℕ) → s < count → IsToStart s (promoted place estimate es))
probed_has_each count estimate place es line all = by (slice_get es place) refl (nat_lt place (length es)) refl
  where
    inside : (i n : ℕ) → nat_lt i n ≡ true → i < n
    inside i n e = grind (arith, nat_tests)

    outside : (i n : ℕ) → nat_lt i n ≡ false → i < n → ⊥
    outside i n e lt = grind (arith, nat_tests)

    by : (o : Option ListedServer) → slice_get es place ≡ o → (b : Bool) → nat_lt place (length es) ≡ b
        → AreToStart count (λ s. false) (put_first estimate o (if b then remove es place else es)) × ((s : ℕ) → s < count → IsToStart s (put_first estimate o (if b then remove es place else es)))
    by None e false n = (line, all)
    by None e true n = (let f = found_at es place (inside place (length es) n) in absurd (none_is (slice_get es place) f.0 e f.1))
    by (Some x) e false n = absurd (outside place (length es) n (slice_get_within es place x e))
    by (Some x) e true n =
        let split = split_there es place x e in (
          goes_first count (take place es) (drop (suc place) es) x (λ s. false) (subst (λ l. AreToStart count (λ s. false) l) split line),
          λ s lt. was_between s (take place es) (drop (suc place) es) x (subst (λ l. IsToStart s l) split (all s lt)),
        )

pub each_has : {U : Type 0} → (servers : List (Server U)) (probed : Option ℕ) (first : ListedServer)
    → AreToStart (length servers) (λ s. false) (with_probe probed first (by_estimate servers)) × ((s : ℕ) → s < length servers → IsToStart s (with_probe probed first (by_estimate servers)))
each_has servers None first = by_estimate_has_each servers
each_has servers (Some place) first = (let b = by_estimate_has_each servers in probed_has_each (length servers) first.estimate place (by_estimate servers) b.0 b.1)
