-- The first places of the suffixes of a name: those that it shares with others, and those of a name that is added.
use Rattle.std.proofs.Common.{◌≡◌, ℕ, zero, suc, ◌+◌, ◌-◌, ◌<◌, ◌≤◌, inl, inr, List, [], ◌∷◌, ◌++◌, length, take, drop, map, get_or, replicate, length-append, Bool, true, false, ◌==◌, nat_le, if◌then◌else◌, refl, ap, sym, subst, ◌∙◌, arith}
use Rattle.std.proofs.lemmas.Bool.{false_from_ne_true, cases_lt, leb-true, leb-false}
use Rattle.std.proofs.lemmas.Bool.Decides.{Decides-eqb}
use Rattle.std.proofs.lemmas.List.{length-drop, length-map, get_or-drop}
use Rattle.std.proofs.lemmas.Slice.Eq.{slice_eq-Decides}
use Rattle.std.specs.Bool.{Decides}
use Rattle.std.specs.Char.{to_ascii_lowercase}
use Rattle.std.specs.Cmp.Lexicographic.{pointwise}
use Rattle.std.specs.List.{AllByRecursion}
use Rattle.std.specs.Option.{option_map_or}
use Rattle.std.specs.Prelude.{Option, Some, None, IsSome, option_map, slice_get}
use Rattle.dns_names.proofs.NameLaws.{name_is_read, read_is_name}
use Rattle.dns_names.specs.Name.{IsName, Labels, Found, Says, at_label, at_pointer, at_root, lowered, name_at, octet_count, same_name, says_label, says_pointer, says_root}
use Rattle.dns_names.specs.declared.name.Head.TheVariants.{Label, Pointer, Root}
use Rattle.dns_names.specs.NameHash.{same_lowered}
use Rattle.dns_base.specs.Compression.{found_at, stands_at}
use Rattle.dns_base.specs.Suffixes.{firsts_of, first_of, from_end, read_at, tail, AreFirsts, AreRun}

-- Names that are the same but for case stand at the same places.

pub found_low : (o ps : List ℕ) (a b : Labels) → lowered a ≡ lowered b → found_at o ps a ≡ found_at o ps b
found_low o [] a b e = refl
found_low o (p ∷ ps) a b e =
    let here : stands_at o a p ≡ stands_at o b p = ap (λ (x : Labels). option_map_or (λ (f : Found). pointwise (pointwise ◌==◌) x (lowered f.labels)) (name_at o p) false) e in
    ap (λ (t : Bool). if t then Some p else found_at o ps a) here ∙ ap (λ (r : Option ℕ). if stands_at o b p then Some p else r) (found_low o ps a b e)

pub firsts_low : (o ps : List ℕ) (a b : Labels) → lowered a ≡ lowered b → firsts_of o ps a ≡ firsts_of o ps b
firsts_low o ps [] [] e = refl
firsts_low o ps [] (y ∷ ys) e = absurd cc
firsts_low o ps (x ∷ xs) [] e = absurd cc
firsts_low o ps (x ∷ xs) (y ∷ ys) e =
    ap (λ (f : Option ℕ). f ∷ firsts_of o ps xs) (found_low o ps (x ∷ xs) (y ∷ ys) e) ∙ ap (λ (fs : List (Option ℕ)). found_at o ps (y ∷ ys) ∷ fs) (firsts_low o ps xs ys (ap tail e))

pub firsts_length : (o ps : List ℕ) (labels : Labels) → length (firsts_of o ps labels) ≡ length labels
firsts_length o ps [] = refl
firsts_length o ps (l ∷ labels) = ap suc (firsts_length o ps labels)

pub firsts_drop : (o ps : List ℕ) (n : ℕ) (labels : Labels) → drop n (firsts_of o ps labels) ≡ firsts_of o ps (drop n labels)
firsts_drop o ps zero labels = refl
firsts_drop o ps (suc n) [] = refl
firsts_drop o ps (suc n) (l ∷ labels) = firsts_drop o ps n labels

-- The first places that a name shares are those of its shortest suffixes.
pub shared_firsts : (o ps : List ℕ) (a b : Labels) (firsts : List (Option ℕ)) (m : ℕ) → m ≤ length b → firsts ≡ firsts_of o ps b → lowered (drop (length a - m) a) ≡ lowered (drop (length b - m) b)
    → (length (drop (length firsts - m) firsts) ≡ m) × (drop (length a - m) (firsts_of o ps a) ≡ drop (length firsts - m) firsts)
shared_firsts o ps a b firsts m few is same =
    let long : length firsts ≡ length b = ap length is ∙ firsts_length o ps b in
    let its : drop (length firsts - m) firsts ≡ firsts_of o ps (drop (length b - m) b) = ap (λ (n : ℕ). drop (n - m) firsts) long ∙ ap (drop (length b - m)) is ∙ firsts_drop o ps (length b - m) b in
    (omega (arith, long, length-drop (length firsts - m) firsts), firsts_drop o ps (length a - m) a ∙ firsts_low o ps _ _ same ∙ sym its)

-- The first place of a suffix, by how many labels it has.

first_behind : (o ps : List ℕ) (front rest : Labels) → 0 < length rest → get_or (firsts_of o ps (front ++ rest)) (length front) None ≡ found_at o ps rest
first_behind o ps [] [] h = absurd (omega arith)
first_behind o ps [] (l ∷ rest) h = refl
first_behind o ps (x ∷ front) rest h = first_behind o ps front rest h

pub are_firsts : (o ps : List ℕ) (labels : Labels) (firsts : List (Option ℕ)) → length firsts ≤ length labels → drop (length labels - length firsts) (firsts_of o ps labels) ≡ firsts
    → ((front rest : Labels) → labels ≡ front ++ rest → length firsts < length rest → found_at o ps rest ≡ None) → AreFirsts o ps labels firsts
are_firsts o ps labels firsts few is longest front rest e some = by (nat_le (length rest) (length firsts)) refl
  where
    all : List (Option ℕ)
    all = firsts_of o ps labels

    by : (b : Bool) → nat_le (length rest) (length firsts) ≡ b → from_end firsts (length rest) ≡ found_at o ps rest
    by true h =
        let within : length rest ≤ length firsts = leb-true _ _ h in
        let long : length labels ≡ length front + length rest = ap length e ∙ length-append front rest in
        let at : (length labels - length firsts) + (length firsts - length rest) ≡ length front = omega arith in
        let here : from_end firsts (length rest) ≡ get_or firsts (length firsts - length rest) None = rw h refl in
        here ∙ ap (λ (x : List (Option ℕ)). get_or x (length firsts - length rest) None) (sym is)
        ∙ get_or-drop (length labels - length firsts) (firsts_of o ps labels) (length firsts - length rest) None
        ∙ ap (λ (n : ℕ). get_or (firsts_of o ps labels) n None) at ∙ ap (λ (x : Labels). get_or (firsts_of o ps x) (length front) None) e ∙ first_behind o ps front rest some
    by false h =
        let none : from_end firsts (length rest) ≡ None = rw h refl in
        none ∙ sym (longest front rest e (leb-false _ _ h))

pub firsts_on : (o ps : List ℕ) (label : List ℕ) (labels : Labels) (firsts : List (Option ℕ)) → AreFirsts o ps (label ∷ labels) firsts → AreFirsts o ps labels firsts
firsts_on o ps label labels firsts h = λ front rest e some. h (label ∷ front) rest (ap (λ (z : Labels). label ∷ z) e) some

-- What stands at a run of places.

decides_labels : (a b : Labels) → Decides (pointwise (pointwise ◌==◌) a b) (a ≡ b)
decides_labels a b = slice_eq-Decides (λ (x y : List ℕ). slice_eq-Decides Decides-eqb x y (pointwise ◌==◌ x y) refl) a b (pointwise (pointwise ◌==◌) a b) refl

same_itself : (a : Labels) → same_name a a ≡ true
same_itself a = (decides_labels (lowered a) (lowered a)).1 refl

lowered_length : (a : Labels) → length (lowered a) ≡ length a
lowered_length a = length-map a (map to_ascii_lowercase)

other_length : (a b : Labels) → length a < length b → same_name a b ≡ false
other_length a b h =
    false_from_ne_true _ (λ same.
    let low = same_lowered a b same in
    absurd (omega (arith, ap length low, lowered_length a, lowered_length b)))

pub stands_read : (o : List ℕ) (p : ℕ) (a labels : Labels) → read_at o p ≡ Some labels → stands_at o a p ≡ same_name a labels
stands_read o p a labels h = go (name_at o p) refl
  where
    go : (f : Option Found) → name_at o p ≡ f → stands_at o a p ≡ same_name a labels
    go None n = let h' : ◌≡◌ {A = Option Labels} None (Some labels) = rw n at h in absurd cc
    go (Some f) n =
        let h' : ◌≡◌ {A = Option Labels} (Some f.labels) (Some labels) = rw n at h in
        let is : f.labels ≡ labels = cc in
        let here : stands_at o a p ≡ same_name a f.labels = rw n refl in
        here ∙ ap (same_name a) is

pub run_read : (o ps : List ℕ) (labels : Labels) → AreRun o ps labels → AllByRecursion (λ p. IsSome (name_at o p)) ps
run_read o [] labels h = tt
run_read o (p ∷ ps) labels h = (go (name_at o p) refl, run_read o ps (tail labels) h.2)
  where
    go : (f : Option Found) → name_at o p ≡ f → IsSome (name_at o p)
    go None n = let h' : ◌≡◌ {A = Option Labels} None (Some labels) = rw n at h.1 in absurd cc
    go (Some f) n = rw n refl

-- Nothing stands there but the suffixes of the run.
pub not_in_run : (o ps : List ℕ) (name labels : Labels) → AreRun o ps name → ((front rest : Labels) → name ≡ front ++ rest → length front < length ps → lowered labels ≡ lowered rest → ⊥)
    → found_at o ps labels ≡ None
not_in_run o [] name labels run none = refl
not_in_run o (p ∷ ps) [] labels run none = absurd (omega (arith, run.0))
not_in_run o (p ∷ ps) (l ∷ name) labels run none = by (same_name labels (l ∷ name)) refl (not_in_run o ps name labels run.2 (λ front rest e few low. none (l ∷ front) rest (ap (λ (z : Labels). l ∷ z) e) (omega arith) low))
  where
    by : (b : Bool) → same_name labels (l ∷ name) ≡ b → found_at o ps labels ≡ None → found_at o (p ∷ ps) labels ≡ None
    by true same others = absurd (none [] (l ∷ name) refl (omega arith) (same_lowered labels (l ∷ name) same))
    by false other others = ap (λ (t : Bool). if t then Some p else found_at o ps labels) (stands_read o p labels (l ∷ name) run.1 ∙ other) ∙ others

-- A name that is added changes no first place of a name none of whose suffixes stands in the run.
pub firsts_kept : (o ps qs : List ℕ) (labels : Labels) → ((x y : List ℕ) (a : Labels) → found_at o (x ++ y) a ≡ first_of (found_at o x a) (found_at o y a))
    → ((front rest : Labels) → labels ≡ front ++ rest → found_at o qs rest ≡ None) → firsts_of o (ps ++ qs) labels ≡ firsts_of o ps labels
firsts_kept o ps qs [] both none = refl
firsts_kept o ps qs (l ∷ labels) both none =
    let here : found_at o (ps ++ qs) (l ∷ labels) ≡ found_at o ps (l ∷ labels) = both ps qs (l ∷ labels) ∙ ap (first_of (found_at o ps (l ∷ labels))) (none [] (l ∷ labels) refl) ∙ or_none (found_at o ps (l ∷ labels)) in
    let rest = firsts_kept o ps qs labels both (λ front rest e. none (l ∷ front) rest (ap (λ (z : Labels). l ∷ z) e)) in
    ap (λ (f : Option ℕ). f ∷ firsts_of o (ps ++ qs) labels) here ∙ ap (λ (fs : List (Option ℕ)). found_at o ps (l ∷ labels) ∷ fs) rest
  where
    or_none : (f : Option ℕ) → first_of f None ≡ f
    or_none (Some p) = refl
    or_none None = refl

-- The first places of a name with none but those that it shares.
alone : (o ps : List ℕ) (labels : Labels) (shared : List (Option ℕ)) → length shared ≤ length labels → drop (length labels - length shared) (firsts_of o ps labels) ≡ shared
    → ((front rest : Labels) → labels ≡ front ++ rest → length shared < length rest → found_at o ps rest ≡ None)
    → firsts_of o ps labels ≡ replicate (length labels - length shared) None ++ shared
alone o ps [] [] few is none = refl
alone o ps [] (f ∷ shared) few is none = absurd (omega arith)
alone o ps (l ∷ labels) shared few is none = elim (cases_lt (length labels) (length shared)) [ inl h ↦ all h | inr h ↦ more h (alone o ps labels shared h) ]
  where
    all : length labels < length shared → firsts_of o ps (l ∷ labels) ≡ replicate (length (l ∷ labels) - length shared) None ++ shared
    all h =
        let zero_is : length (l ∷ labels) - length shared ≡ 0 = omega arith in
        ap (λ (n : ℕ). drop n (firsts_of o ps (l ∷ labels))) (sym zero_is) ∙ is ∙ ap (λ (n : ℕ). replicate n None ++ shared) (sym zero_is)

    more : length shared ≤ length labels
        → (drop (length labels - length shared) (firsts_of o ps labels) ≡ shared → ((front rest : Labels) → labels ≡ front ++ rest → length shared < length rest → found_at o ps rest ≡ None)
        → firsts_of o ps labels ≡ replicate (length labels - length shared) None ++ shared)
        → firsts_of o ps (l ∷ labels) ≡ replicate (length (l ∷ labels) - length shared) None ++ shared
    more h others =
        let next : length (l ∷ labels) - length shared ≡ suc (length labels - length shared) = omega arith in
        let is' : drop (length labels - length shared) (firsts_of o ps labels) ≡ shared = ap (λ (n : ℕ). drop n (firsts_of o ps (l ∷ labels))) (sym next) ∙ is in
        let rest = others is' (λ front rest e k. none (l ∷ front) rest (ap (λ (z : Labels). l ∷ z) e) k) in
        let first : found_at o ps (l ∷ labels) ≡ None = none [] (l ∷ labels) refl (omega arith) in
        ap (λ (f : Option ℕ). f ∷ firsts_of o ps labels) first ∙ ap (λ (fs : List (Option ℕ)). None ∷ fs) rest ∙ ap (λ (n : ℕ). replicate n None ++ shared) (sym next)

-- The first places of a name that is added: those of the run, none, and those that it shares.
pub joined : (o ps all run : List ℕ) (labels : Labels) (shared : List (Option ℕ)) → ((x y : List ℕ) (a : Labels) → found_at o (x ++ y) a ≡ first_of (found_at o x a) (found_at o y a))
    → AreRun o run labels → length run + length shared ≤ length labels → drop (length labels - length shared) (firsts_of o ps labels) ≡ shared
    → ((front rest : Labels) → labels ≡ front ++ rest → length shared < length rest → found_at o ps rest ≡ None)
    → ((front rest : Labels) → labels ≡ front ++ rest → found_at o all rest ≡ found_at o run rest)
    → firsts_of o (ps ++ all) labels ≡ map Some run ++ (replicate (length labels - length shared - length run) None ++ shared)
joined o ps all [] labels shared both are few is none others =
    let same : length labels - length shared - 0 ≡ length labels - length shared = omega arith in
    firsts_kept o ps all labels both others ∙ alone o ps labels shared (omega arith) is none ∙ ap (λ (n : ℕ). replicate n None ++ shared) (sym same)
joined o ps all (p ∷ run) [] shared both are few is none others = absurd (omega (arith, are.0))
joined o ps all (p ∷ run) (l ∷ labels) shared both are few is none others =
    let next : length (l ∷ labels) - length shared ≡ suc (length labels - length shared) = omega arith in
    let is' : drop (length labels - length shared) (firsts_of o ps labels) ≡ shared = ap (λ (n : ℕ). drop n (firsts_of o ps (l ∷ labels))) (sym next) ∙ is in
    let rest = joined o ps all run labels shared both are.2 (omega arith) is' (λ front rest e k. none (l ∷ front) rest (ap (λ (z : Labels). l ∷ z) e) k) behind in
    let count : length labels - length shared - length run ≡ length (l ∷ labels) - length shared - length (p ∷ run) = omega arith in
    let stands : stands_at o (l ∷ labels) p ≡ true = stands_read o p (l ∷ labels) (l ∷ labels) are.1 ∙ same_itself (l ∷ labels) in
    let mine : found_at o (p ∷ run) (l ∷ labels) ≡ Some p = ap (λ (t : Bool). if t then Some p else found_at o run (l ∷ labels)) stands in
    let first : found_at o (ps ++ all) (l ∷ labels) ≡ Some p =
    both ps all (l ∷ labels) ∙ ap (λ (f : Option ℕ). first_of f (found_at o all (l ∷ labels))) (none [] (l ∷ labels) refl (omega arith)) ∙ others [] (l ∷ labels) refl ∙ mine in
    ap (λ (f : Option ℕ). f ∷ firsts_of o (ps ++ all) labels) first ∙ ap (λ (fs : List (Option ℕ)). Some p ∷ fs) (rest ∙ ap (λ (n : ℕ). map Some run ++ (replicate n None ++ shared)) count)
  where
    behind : (front rest : Labels) → labels ≡ front ++ rest → found_at o all rest ≡ found_at o run rest
    behind front rest e =
        let short : length rest < length (l ∷ labels) = omega (arith, ap length e, length-append front rest) in
        others (l ∷ front) rest (ap (λ (z : Labels). l ∷ z) e)
        ∙ ap (λ (t : Bool). if t then Some p else found_at o run rest) (stands_read o p rest (l ∷ labels) are.1 ∙ other_length rest (l ∷ labels) short)

-- The name behind a label is the rest of the name.

root_octet : (o : List ℕ) (at : ℕ) → Says o at Root → slice_get o at ≡ Some 0
root_octet o at (says_root e) = e

label_octet : (o : List ℕ) (at n : ℕ) → Says o at (Label n) → slice_get o at ≡ Some n
label_octet o at n (says_label k e some few fits) = e

pointer_octet : (o : List ℕ) (at place : ℕ) → Says o at (Pointer place) → (high : ℕ) × (slice_get o at ≡ Some (192 + high))
pointer_octet o at place (says_pointer high low k e f is before) = (high, e)

same_octet : (m n : ℕ) → ◌≡◌ {A = Option ℕ} (Some m) (Some n) → m ≡ n
same_octet m n e = cc

behind_label : (o : List ℕ) (at n : ℕ) (labels : Labels) (end pointers : ℕ) → IsName o at labels end pointers → slice_get o at ≡ Some n → 0 < n → n < 64 → pointers ≤ 255 → octet_count labels ≤ 255
    → read_at o (at + 1 + n) ≡ Some (tail labels)
behind_label o at n labels end pointers (at_root a s) is some few limit short = let same = same_octet 0 n (sym (root_octet o a s) ∙ is) in absurd (omega arith)
behind_label o at n labels end pointers (at_label a m ls e p s i) is some few limit short =
    let same = same_octet m n (sym (label_octet o a m s) ∙ is) in
    let rest : IsName o (a + 1 + n) ls e p = subst (λ k. IsName o (a + 1 + k) ls e p) same i in
    ap (option_map (λ (f : Found). f.labels)) (name_is_read o (a + 1 + n) ls e p rest limit (omega arith))
behind_label o at n labels end pointers (at_pointer a place ls e p s i) is some few limit short =
    let high = pointer_octet o a place s in
    let same = same_octet (192 + high.0) n (sym high.1 ∙ is) in
    absurd (omega arith)

pub next_read : (o : List ℕ) (at n : ℕ) (labels : Labels) → slice_get o at ≡ Some n → 0 < n → n < 64 → read_at o at ≡ Some labels → read_at o (at + 1 + n) ≡ Some (tail labels)
next_read o at n labels is some few h = go (name_at o at) refl
  where
    go : (f : Option Found) → name_at o at ≡ f → read_at o (at + 1 + n) ≡ Some (tail labels)
    go None e = let h' : ◌≡◌ {A = Option Labels} None (Some labels) = rw e at h in absurd cc
    go (Some f) e =
        let h' : ◌≡◌ {A = Option Labels} (Some f.labels) (Some labels) = rw e at h in
        let same : f.labels ≡ labels = cc in
        let name = read_is_name o at f e in
        behind_label o at n f.labels f.end f.pointers name.0 is some few name.1 name.2 ∙ ap (λ (x : Labels). Some (tail x)) same

tail_length : (labels : Labels) → 0 < length labels → length (tail labels) + 1 ≡ length labels
tail_length [] h = absurd (omega arith)
tail_length (l ∷ labels) h = omega arith

-- A run, one place longer before.
pub run_more : (o : List ℕ) (p r count : ℕ) (ps : List ℕ) (labels : Labels) → 1 < count → count ≡ length labels → read_at o p ≡ Some (tail labels) → (count - 1 ≡ length (tail labels) → AreRun o (take r ps) (tail (tail labels)))
    → AreRun o (take (1 + r) (p ∷ ps)) (tail labels)
run_more o p r count ps labels many is read rest =
    let long = tail_length labels (omega arith) in
    let one : 1 + r ≡ suc r = omega arith in
    subst (λ (n : ℕ). AreRun o (take n (p ∷ ps)) (tail labels)) (sym one) (omega arith, read, rest (omega arith))

-- what is read where a name is found
pub found_read : (o : List ℕ) (place : ℕ) (labels : Labels) (end : ℕ) → ◌≡◌ {A = Option (Labels × ℕ)} (Some (labels, end)) (option_map (λ (f : Found). (f.labels, f.end)) (name_at o place))
    → read_at o place ≡ Some labels
found_read o place labels end h = go (name_at o place) refl
  where
    go : (f : Option Found) → name_at o place ≡ f → read_at o place ≡ Some labels
    go None e = let h' : ◌≡◌ {A = Option (Labels × ℕ)} (Some (labels, end)) None = rw e at h in absurd cc
    go (Some f) e =
        let h' : ◌≡◌ {A = Option (Labels × ℕ)} (Some (labels, end)) (Some (f.labels, f.end)) = rw e at h in
        let pair : ◌≡◌ {A = Labels × ℕ} (labels, end) (f.labels, f.end) = cc in
        let same : f.labels ≡ labels = sym (ap (λ (x : Labels × ℕ). x.0) pair) in
        ap (option_map (λ (g : Found). g.labels)) e ∙ ap (λ (x : Labels). Some x) same
