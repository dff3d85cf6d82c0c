-- Who was quiet longest of those whose streams are open, and how many these are.
use Rattle.std.proofs.Common.{◌≡◌, ◌≢◌, ℕ, zero, suc, ◌+◌, ◌<◌, ◌≤◌, List, [], ◌∷◌, length, Option, Some, None, Ordering, nat_cmp, cond, Bool, true, false, refl, sym, subst, ap, ◌∙◌, arith, inl, inr}
use Rattle.std.specs.Prelude.{◌==◌, nat_lt, is_some, ◌⊎◌, if◌then◌else◌, option_map}
use Rattle.std.specs.Option.{option_map_or}
use Rattle.std.specs.Ordering.{is_eq}
use Rattle.std.proofs.lemmas.Bool.Decides.{nat_tests}
use Rattle.std.proofs.lemmas.Cmp.{nat_cmp_total, tied_itself}
use Rattle.number_table.specs.Entries.{entry_at}
use Rattle.front_peers.specs.Items.{Streams, is_new, quieter, quietest}
use Rattle.front_peers.specs.declared.peers.Stream.{Stream}
use Rattle.right_trace.specs.Time.{count_below, one_if}
use Rattle.proof_forwarding.specs.Heard.{Heard, count_open}
use Rattle.proof_forwarding.proofs.Tables.{Rises, none_above}
use Rattle.proof_forwarding.proofs.Keeping.{StreamsKept, is_same, same_number}

abbrev Table : Type 0
Table = List (ℕ × Stream)

-- an entry with a key
pub record HasKey (q : ℕ) (es : Table) : Type 0 where
  pub stream : Stream
  pub is_there : entry_at q es ≡ Some stream

first_key : (e : ℕ × Stream) (es : Table) → HasKey e.0 (e ∷ es)
first_key e es = record { stream = e.1; is_there = ap (λ (o : Ordering). cond (is_eq o) (Some e.1) (entry_at e.0 es)) (tied_itself nat_cmp_total e.0) }

later_key : (q : ℕ) (e : ℕ × Stream) (es : Table) → HasKey q es → HasKey q (e ∷ es)
later_key q e es has = go (is_eq (nat_cmp q e.0)) refl
  where
    go : (b : Bool) → is_eq (nat_cmp q e.0) ≡ b → HasKey q (e ∷ es)
    go true is = record { stream = e.1; is_there = ap (λ (c : Bool). cond c (Some e.1) (entry_at q es)) is }
    go false is = record { stream = has.stream; is_there = ap (λ (c : Bool). cond c (Some e.1) (entry_at q es)) is ∙ has.is_there }

some_same : (a b : ℕ × ℕ) → Some a ≡ Some b → a ≡ b
some_same a b is = cc

-- who was quiet longest is the first, or one of these
pub quiet_there : (first : Option (ℕ × ℕ)) (es : Table) (r : ℕ × ℕ) → quietest first es ≡ Some r → (first ≡ Some r) ⊎ HasKey r.0 es
quiet_there first [] r is = inl is
quiet_there first (e ∷ es) r is = by first (quiet_there (quieter first e.0 e.1.heard) es r is)
  where
    one : (b : Bool) (f : ℕ × ℕ) → (if b then Some (e.0, e.1.heard) else Some f) ≡ Some r → (Some f ≡ Some r) ⊎ HasKey r.0 (e ∷ es)
    one true f so = let key : e.0 ≡ r.0 = ap (λ (x : ℕ × ℕ). x.0) (some_same (e.0, e.1.heard) r so) in inr (subst (λ (n : ℕ). HasKey n (e ∷ es)) key (first_key e es))
    one false f so = inl so

    by : (o : Option (ℕ × ℕ)) → (quieter o e.0 e.1.heard ≡ Some r) ⊎ HasKey r.0 es → (o ≡ Some r) ⊎ HasKey r.0 (e ∷ es)
    by o (inr has) = inr (later_key r.0 e es has)
    by None (inl so) = let key : e.0 ≡ r.0 = ap (λ (x : ℕ × ℕ). x.0) (some_same (e.0, e.1.heard) r so) in inr (subst (λ (n : ℕ). HasKey n (e ∷ es)) key (first_key e es))
    by (Some f) (inl so) = one (nat_lt e.1.heard f.1) f so

some_quiet : (f : ℕ × ℕ) (es : Table) → quietest (Some f) es ≡ None → ⊥
some_quiet f [] is = cc
some_quiet f (e ∷ es) is = by (nat_lt e.1.heard f.1) (λ g. some_quiet g es) is
  where
    by : (b : Bool) → ((g : ℕ × ℕ) → quietest (Some g) es ≡ None → ⊥) → quietest (if b then Some (e.0, e.1.heard) else Some f) es ≡ None → ⊥
    by true ih so = ih (e.0, e.1.heard) so
    by false ih so = ih f so

pub none_quiet : (es : Table) → quietest None es ≡ None → length es ≡ 0
none_quiet [] is = refl
none_quiet (e ∷ es) is = absurd (some_quiet (e.0, e.1.heard) es is)

-- ---- how many there are

one_more : (b c : Bool) → (c ≡ true → b ≡ true) → one_if c ≤ one_if b
one_more true true all = omega arith
one_more true false all = omega arith
one_more false true all = absurd (cc (all refl))
one_more false false all = omega arith

count_more : (f g : ℕ → Bool) → ((i : ℕ) → g i ≡ true → f i ≡ true) → (n : ℕ) → count_below g n ≤ count_below f n
count_more f g all zero = omega arith
count_more f g all (suc n) = let before = count_more f g all n in let one = one_more (f n) (g n) (all n) in omega arith

-- one number more passes
count_one_more : (f g : ℕ → Bool) (c : ℕ) → ((i : ℕ) → g i ≡ true → f i ≡ true) → f c ≡ true → g c ≡ false → (n : ℕ) → c < n → suc (count_below g n) ≤ count_below f n
count_one_more f g c all is other zero low = absurd (omega arith)
count_one_more f g c all is other (suc n) low = go (c == n) refl (count_one_more f g c all is other n)
  where
    less : (c n : ℕ) → c < suc n → c ≢ n → c < n
    less c n low apart = grind arith

    go : (b : Bool) → (c == n) ≡ b → (c < n → suc (count_below g n) ≤ count_below f n) → suc (count_below g n + one_if (g n)) ≤ count_below f n + one_if (f n)
    go true same ih =
        let at : c ≡ n = same_number c n same in
        let here : one_if (f n) ≡ 1 = ap (λ (i : ℕ). one_if (f i)) (sym at) ∙ ap one_if is in
        let there : one_if (g n) ≡ 0 = ap (λ (i : ℕ). one_if (g i)) (sym at) ∙ ap one_if other in
        let before = count_more f g all n in
        omega arith
    go false same ih =
        let apart : c ≢ n = (λ at. absurd (cc (is_same c n at, same))) in
        let before = ih (less c n low apart) in
        let one = one_more (f n) (g n) (all n) in
        omega arith

-- A table has an entry for each of so many numbers.
count_keys : (es : Table) → Rises es → (n : ℕ) → ((q : ℕ) → is_some (entry_at q es) ≡ true → q < n) → length es ≤ count_below (λ q. is_some (entry_at q es)) n
count_keys [] rises n low = omega arith
count_keys (e ∷ es) rises n low =
    let rest = count_keys es rises.1 n (λ q is. low q (later q is)) in
    let more = count_one_more (λ q. is_some (entry_at q (e ∷ es))) (λ q. is_some (entry_at q es)) e.0 later first (ap is_some (none_above e.0 es rises.0)) n (low e.0 first) in
    omega arith
  where
    first : is_some (entry_at e.0 (e ∷ es)) ≡ true
    first = ap (λ (o : Ordering). is_some (cond (is_eq o) (Some e.1) (entry_at e.0 es))) (tied_itself nat_cmp_total e.0)

    later : (q : ℕ) → is_some (entry_at q es) ≡ true → is_some (entry_at q (e ∷ es)) ≡ true
    later q is = go (is_eq (nat_cmp q e.0))
      where
        go : (b : Bool) → is_some (cond b (Some e.1) (entry_at q es)) ≡ true
        go true = refl
        go false = is

module _ (heard : Heard) (s : Streams) (kept : StreamsKept heard s) where
  some_framed : (o : Option Stream) → is_some (option_map (λ (t : Stream). t.framer) o) ≡ is_some o
  some_framed None = refl
  some_framed (Some t) = refl

  pub open_there : (q : ℕ) → is_some (heard.kept q) ≡ is_some (entry_at q s.streams)
  open_there q = ap is_some (kept.kept q) ∙ some_framed (entry_at q s.streams)

  below_last : (q : ℕ) (last : Option ℕ) → is_new q last ≡ false → q < option_map_or suc last 0
  below_last q None is = absurd (cc)
  below_last q (Some l) is = less q l is
    where
      less : (q l : ℕ) → nat_lt l q ≡ false → q < suc l
      less q l is = grind (arith, nat_tests)

  pub open_count : length s.streams ≤ count_open heard
  open_count =
      let bound : ℕ = option_map_or suc heard.last 0 in
      let all = count_keys s.streams kept.rises bound (λ q is. below_last q heard.last (kept.old q (open_there q ∙ is))) in
      let same = count_more (λ q. is_some (heard.kept q)) (λ q. is_some (entry_at q s.streams)) (λ q is. open_there q ∙ is) bound in
      omega arith
