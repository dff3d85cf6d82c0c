-- The table of the names at the first places of a message: what it says as more is written, and as it takes in one more name.
use Rattle.std.proofs.Common.{◌≡◌, ℕ, zero, suc, ◌+◌, ◌-◌, ◌<◌, ◌≤◌, List, [], ◌∷◌, ◌++◌, length, take, drop, map, replicate, get_or, insert, refl, ap, sym, subst, ◌∙◌, Bool, true, false, arith, length-append, length-take, length-drop}
use Rattle.std.proofs.lemmas.Bool.{both_ways}
use Rattle.std.proofs.lemmas.List.{take-append-drop, take-append-le, take-take, take_all}
use Rattle.std.specs.Prelude.{Option, Some, None, IsSome}
use Rattle.std.specs.List.{AllByRecursion}
use Rattle.dns_names.specs.Name.{Labels, Found, name_at}
use Rattle.dns_names.proofs.NameLaws.{read_more}
use Rattle.dns_base.specs.declared.suffixes.Known.{Known}
use Rattle.dns_base.specs.declared.suffixes.Suffixes.{Suffixes}
use Rattle.dns_base.specs.Compression.{stands_at, found_at, Begins}
use Rattle.dns_base.specs.Suffixes.{AreFirsts, AreRun, IsIndex, IsKnown, IsPlaceOf, IsSearch, IsShared, NoneEnds, Rise, begins, first_of, firsts_of, from_end, name_key, read_at, tail}
use Rattle.dns_base.proofs.FirstPlaces.{are_firsts, firsts_kept, firsts_on, joined, not_in_run, run_read}
use Rattle.dns_base.proofs.NameKeys.{key_begins, keys_agree}
use Rattle.dns_base.proofs.Neighbours.{all_insert, all_inserted, all_map, rise_insert}

-- What is found depends on the names that are read at the places alone.

abbrev pub AreRead : List ℕ → List ℕ → Type 0
AreRead octets places = AllByRecursion (λ place. IsSome (name_at octets place)) places

read_in_more : (a more : List ℕ) (place : ℕ) → IsSome (name_at a place) → name_at (a ++ more) place ≡ name_at a place
read_in_more a more place h = go (name_at a place) refl h
  where
    go : (o : Option Found) → name_at a place ≡ o → IsSome o → name_at (a ++ more) place ≡ name_at a place
    go None e h = absurd cc
    go (Some f) e h = read_more a more place f e ∙ sym e

pub found_more : (a more places : List ℕ) (labels : Labels) → AreRead a places → found_at (a ++ more) places labels ≡ found_at a places labels
found_more a more [] labels h = refl
found_more a more (p ∷ places) labels h =
    let here = read_in_more a more p h.0 in
    let rest = found_more a more places labels h.1 in
    rw (here, rest) refl

pub reads_more : (a more places : List ℕ) → AreRead a places → AreRead (a ++ more) places
reads_more a more [] h = tt
reads_more a more (p ∷ places) h = (subst IsSome (sym (read_in_more a more p h.0)) h.0, reads_more a more places h.1)

pub reads_append : (a ps qs : List ℕ) → AreRead a ps → AreRead a qs → AreRead a (ps ++ qs)
reads_append a [] qs h g = g
reads_append a (p ∷ ps) qs h g = (h.0, reads_append a ps qs h.1 g)

pub found_append : (o ps qs : List ℕ) (labels : Labels) → found_at o (ps ++ qs) labels ≡ first_of (found_at o ps labels) (found_at o qs labels)
found_append o [] qs labels = refl
found_append o (p ∷ ps) qs labels = by_test (found_append o ps qs labels) (stands_at o labels p) refl
  where
    by_test : found_at o (ps ++ qs) labels ≡ first_of (found_at o ps labels) (found_at o qs labels) → (b : Bool) → stands_at o labels p ≡ b → found_at o ((p ∷ ps) ++ qs) labels ≡ first_of (found_at o (p ∷ ps) labels) (found_at o qs labels)
    by_test rest true e = rw e refl
    by_test rest false e = rw e rest

-- The octets and the places of an index stay, and more may stand behind them.

first_same : (n : ℕ) (a b : List ℕ) → n ≤ length a → Begins a b → take n b ≡ take n a
first_same n a b h begins = sym (take-take n (length a) b h) ∙ ap (take n) begins

begins_within : (a b : List ℕ) → Begins a b → length a ≤ length b
begins_within a b begins = omega (arith, ap length begins, length-take (length a) b)

pub index_begins : (s : Suffixes) (a b ps : List ℕ) → IsIndex s a ps → Begins a b → IsIndex s b ps
index_begins s a b ps i begins =
    let same = first_same s.octets a b i.long begins in
    record {
      long = omega (arith, i.long, begins_within a b begins);
      many = i.many;
      read = rw same i.read;
      rise = i.rise;
      known = rw same i.known;
      others = λ labels some none. rw same (i.others labels some none);
    }

pub index_appended : (s : Suffixes) (o ps more : List ℕ) → IsIndex s o ps → IsIndex s (o ++ more) ps
index_appended s o ps more i =
    let same = take-append-le s.octets o more i.long in
    record {
      long = omega (arith, i.long, length-append o more);
      many = i.many;
      read = rw same i.read;
      rise = i.rise;
      known = rw same i.known;
      others = λ labels some none. rw same (i.others labels some none);
    }

same_front : (n m : ℕ) (a b : List ℕ) → n ≤ m → take m a ≡ take m b → take n b ≡ take n a
same_front n m a b h same = sym (take-take n m b h) ∙ ap (take n) (sym same) ∙ take-take n m a h

within_both : (n m : ℕ) (a b : List ℕ) → n ≤ length a → n ≤ m → take m a ≡ take m b → n ≤ length b
within_both n m a b long h same = omega (arith, ap length same, length-take m a, length-take m b)

-- What begins alike.
pub index_within : (s : Suffixes) (octets places : ℕ) (a b p q : List ℕ) → IsIndex s a p → s.octets ≤ octets → s.places ≤ places → take octets a ≡ take octets b → take places p ≡ take places q
    → IsIndex s b q
index_within s octets places a b p q i few_octets few_places alike placed =
    let same_octets = same_front s.octets octets a b few_octets alike in
    let same_places = same_front s.places places p q few_places placed in
    record {
      long = within_both s.octets octets a b i.long few_octets alike;
      many = within_both s.places places p q i.many few_places placed;
      read = rw (same_octets, same_places) i.read;
      rise = i.rise;
      known = rw (same_octets, same_places) i.known;
      others = λ labels some none. rw (same_octets, same_places) (i.others labels some none);
    }

pub front_kept : (n : ℕ) (a x : List ℕ) → n ≤ length a → take n a ≡ take n (take n a ++ x)
front_kept n a x h =
    let long : n ≤ length (take n a) = omega (arith, length-take n a) in
    sym (take-append-le n (take n a) x long ∙ take-take n n a (omega arith))

pub front_alone : (n : ℕ) (a : List ℕ) → take n a ≡ take n (take n a)
front_alone n a = sym (take-take n n a (omega arith))

all_of : (o : List ℕ) → take (length o) o ≡ o
all_of o = take_all (length o) o (omega arith)

firsts_more : (a more ps : List ℕ) (labels : Labels) → AreRead a ps → firsts_of (a ++ more) ps labels ≡ firsts_of a ps labels
firsts_more a more ps [] h = refl
firsts_more a more ps (l ∷ labels) h =
    ap (λ (f : Option ℕ). f ∷ firsts_of (a ++ more) ps labels) (found_more a more ps (l ∷ labels) h) ∙ ap (λ (fs : List (Option ℕ)). found_at a ps (l ∷ labels) ∷ fs) (firsts_more a more ps labels h)

known_more : (a more ps : List ℕ) (names : List Known) → AreRead a ps → AllByRecursion (IsKnown a ps) names → AllByRecursion (IsKnown (a ++ more) ps) names
known_more a more ps names h = all_map _ _ names (λ k i. record { labels = i.labels; key = i.key; firsts = i.firsts ∙ sym (firsts_more a more ps i.labels h) })

-- The names are read from all octets.
pub index_whole : (s t : Suffixes) (o ps : List ℕ) → IsIndex s o ps → t.names.items ≡ s.names.items → t.octets ≡ length o → t.places ≡ s.places → IsIndex t o ps
index_whole s t o ps i names octets places =
    let whole : take t.octets o ≡ take s.octets o ++ drop s.octets o = ap (λ n. take n o) octets ∙ all_of o ∙ sym (take-append-drop s.octets o) in
    record {
      long = omega (arith, octets);
      many = omega (arith, i.many, places);
      read = rw (whole, places) (reads_more (take s.octets o) (drop s.octets o) (take s.places ps) i.read);
      rise = subst Rise (sym names) i.rise;
      known = rw (whole, places, names) (known_more (take s.octets o) (drop s.octets o) (take s.places ps) s.names.items i.read i.known);
      others = λ labels some none. rw (whole, places) (found_more (take s.octets o) (drop s.octets o) (take s.places ps) labels i.read ∙ i.others labels some (subst (NoneEnds labels) names none));
    }

-- What stands at the first places of a name, by the table.
pub found_by : (s : Suffixes) (o ps : List ℕ) (labels : Labels) (firsts : List (Option ℕ)) → IsIndex s o ps → IsShared (take s.octets o) (take s.places ps) labels s.names.items firsts
    → AreFirsts o (take s.places ps) labels firsts
found_by s o ps labels firsts i shared = λ front rest e some.
    let here = are_firsts (take s.octets o) (take s.places ps) labels firsts shared.few shared.these (λ f r e h. i.others r (omega arith) (shared.longest f r e h)) front rest e some in
    here ∙ sym (found_more (take s.octets o) (drop s.octets o) (take s.places ps) rest i.read) ∙ ap (λ (x : List ℕ). found_at x (take s.places ps) rest) (take-append-drop s.octets o)

none_taken : (m : ℕ) → take {A = ℕ} m [] ≡ []
none_taken zero = refl
none_taken (suc m) = refl

taken_on : (n j : ℕ) (ps : List ℕ) → take (n + j) ps ≡ take n ps ++ take j (drop n ps)
taken_on zero j ps = let e : 0 + j ≡ j = omega arith in ap (λ (m : ℕ). take m ps) e
taken_on (suc n) j [] = none_taken (suc n + j) ∙ sym (none_taken j)
taken_on (suc n) j (p ∷ ps) = let e : suc n + j ≡ suc (n + j) = omega arith in ap (λ (m : ℕ). take m (p ∷ ps)) e ∙ ap (λ (x : List ℕ). p ∷ x) (taken_on n j ps)

-- A name whose run shares nothing with the names of the table is added.
pub index_run : (s t : Suffixes) (o ps : List ℕ) (k : Known) (at j : ℕ) (name : Labels) (shared : List (Option ℕ)) → IsIndex s o ps → s.octets ≡ length o → s.places + j ≤ length ps
    → AreRun o (take j (drop s.places ps)) name → IsShared (take s.octets o) (take s.places ps) name s.names.items shared → length shared + j ≤ length name
    → k.key.items ≡ name_key name → k.firsts.items ≡ map Some (take j (drop s.places ps)) ++ (replicate (length name - length shared - j) None ++ shared)
    → IsPlaceOf k.key.items s.names.items at → t.names.items ≡ insert s.names.items at k → t.octets ≡ s.octets → t.places ≡ s.places + j → IsIndex t o ps
index_run s t o ps k at j name shared i whole long run is few key firsts place names octets places = record {
  long = omega (arith, octets, whole);
  many = omega (arith, places, long);
  read = rw (octets, all, more) (reads_append o old new read (run_read o new name run));
  rise = subst Rise (sym names) (rise_insert s.names.items at k i.rise place.before place.behind);
  known = rw (octets, all, more, names) (all_insert (IsKnown o (old ++ new)) s.names.items at k (kept s.names.items (λ front rest e h. is.longest front rest e h) known) its);
  others = λ labels some none. rw (octets, all, more) (nowhere labels some (subst (NoneEnds labels) names none));
}
  where
    old : List ℕ
    old = take s.places ps

    new : List ℕ
    new = take j (drop s.places ps)

    all : take s.octets o ≡ o
    all = ap (λ n. take n o) whole ∙ all_of o

    more : take t.places ps ≡ old ++ new
    more = ap (λ n. take n ps) places ∙ taken_on s.places j ps

    count : length new ≡ j
    count = omega (arith, long, length-take j (drop s.places ps), length-drop s.places ps)

    read : AreRead o old
    read = subst (λ (x : List ℕ). AreRead x old) all i.read

    known : AllByRecursion (IsKnown o old) s.names.items
    known = subst (λ (x : List ℕ). AllByRecursion (IsKnown x old) s.names.items) all i.known

    mine : drop (length name - length shared) (firsts_of o old name) ≡ shared
    mine = subst (λ (x : List ℕ). drop (length name - length shared) (firsts_of x old name) ≡ shared) all is.these

    nothing : (front rest : Labels) → name ≡ front ++ rest → length shared < length rest → found_at o old rest ≡ None
    nothing front rest e h = subst (λ (x : List ℕ). found_at x old rest ≡ None) all (i.others rest (omega arith) (is.longest front rest e h))

    -- a suffix of the run is longer than those that are shared
    longer : (front rest : Labels) → name ≡ front ++ rest → length front < length new → length shared < length rest
    longer front rest e h = omega (arith, count, few, ap length e, length-append front rest)

    -- a name of the table keeps its first places
    kept : (names : List Known) → ((front rest : Labels) → name ≡ front ++ rest → length shared < length rest → NoneEnds rest names) → AllByRecursion (IsKnown o old) names
        → AllByRecursion (IsKnown o (old ++ new)) names
    kept [] none h = tt
    kept (known ∷ others) none h =
        let its : IsKnown o old known = h.0 in
        let its_key : List ℕ = known.key.items in
        let apart : (front rest : Labels) → its.labels ≡ front ++ rest → found_at o new rest ≡ None = λ f r is.
        not_in_run o new name r run
        (λ front rest e few low.
        let ends : begins (name_key r) (name_key its.labels) ≡ true = ap (λ (x : Labels). begins (name_key r) (name_key x)) is ∙ key_begins f r in
        let ends_too : begins (name_key rest) its_key ≡ true = ap (λ (x : List ℕ). begins x its_key) (sym (keys_agree r rest low)) ∙ ap (begins (name_key r)) its.key ∙ ends in
        both_ways _ ((none front rest e (longer front rest e few)).0) ends_too) in (
          record { labels = its.labels; key = its.key; firsts = its.firsts ∙ sym (firsts_kept o old new its.labels (λ x y a. found_append o x y a) apart) },
          kept others (λ front rest e k. (none front rest e k).1) h.1,
        )

    its : IsKnown o (old ++ new) k
    its = record {
      labels = name;
      key = key;
      firsts =
          firsts ∙ ap (λ (n : ℕ). map Some new ++ (replicate (length name - length shared - n) None ++ shared)) (sym count)
          ∙ sym (joined o old new new name shared (λ x y a. found_append o x y a) run (omega (arith, count, few)) mine nothing (λ front rest e. refl));
    }

    nowhere : (labels : Labels) → 0 < length labels → NoneEnds labels (insert s.names.items at k) → found_at o (old ++ new) labels ≡ None
    nowhere labels some none =
        let parts = all_inserted (λ (known : Known). begins (name_key labels) known.key.items ≡ false) s.names.items at k none in
        let before : found_at o old labels ≡ None = subst (λ (x : List ℕ). found_at x old labels ≡ None) all (i.others labels some parts.1) in
        let behind : found_at o new labels ≡ None = not_in_run o new name labels run
        (λ front rest e few low.
        let ends : begins (name_key rest) (name_key name) ≡ true = ap (λ (x : Labels). begins (name_key rest) (name_key x)) e ∙ key_begins front rest in
        let ends_too : begins (name_key labels) k.key.items ≡ true = ap (λ (x : List ℕ). begins x k.key.items) (keys_agree labels rest low) ∙ ap (begins (name_key rest)) key ∙ ends in
        both_ways _ parts.0 ends_too) in
        found_append o old new labels ∙ ap (λ (f : Option ℕ). first_of f (found_at o new labels)) before ∙ behind

-- The places that are not in the table yet begin with such a run.
pub index_taken : (s t : Suffixes) (o ps behind : List ℕ) (k : Known) (at r count place next : ℕ) (name : Labels) (shared : List (Option ℕ)) → behind ≡ take (length ps - s.places) (drop s.places ps)
    → IsIndex s o ps → s.octets ≡ length o → s.places < length ps → place ≡ get_or behind 0 place → next ≡ get_or behind 0 next → read_at o place ≡ Some name → count ≡ length name
    → r ≤ length (take (length behind - 1) (drop 1 behind))
    → ((labels : Labels) → read_at o next ≡ Some labels → count ≡ length labels → AreRun o (take r (take (length behind - 1) (drop 1 behind))) (tail labels))
    → IsShared (take s.octets o) (take s.places ps) name s.names.items shared → length shared + (1 + r) ≤ count → k.key.items ≡ name_key name
    → k.firsts.items ≡ map Some (take (1 + r) behind) ++ (replicate (count - length shared - length (take (1 + r) behind)) None ++ shared)
    → IsPlaceOf k.key.items s.names.items at → t.names.items ≡ insert s.names.items at k → t.octets ≡ s.octets → t.places ≡ s.places + (1 + r) → IsIndex t o ps
index_taken s t o ps [] k at r count place next name shared is i whole more first again read long few run sharing within key firsts placed names octets places =
    absurd (omega (arith, ap length is, length-take (length ps - s.places) (drop s.places ps), length-drop s.places ps))
index_taken s t o ps (p ∷ rest) k at r count place next name shared is i whole more first again read long few run sharing within key firsts placed names octets places =
    index_run s t o ps k at (1 + r) name shared i whole (omega (arith, rest_length, few_rest, ap length all, length-drop s.places ps)) run_there sharing (omega arith) key firsts_there placed names octets places
  where
    all : (p ∷ rest) ≡ drop s.places ps
    all = is ∙ take_all (length ps - s.places) (drop s.places ps) (omega (arith, length-drop s.places ps))

    behind : take (length (p ∷ rest) - 1) (drop 1 (p ∷ rest)) ≡ rest
    behind = take_all (length (p ∷ rest) - 1) rest (omega arith)

    few_rest : r ≤ length rest
    few_rest = subst (λ (x : List ℕ). r ≤ length x) behind few

    rest_length : length (p ∷ rest) ≡ length rest + 1
    rest_length = omega arith

    there : read_at o p ≡ Some name
    there = ap (read_at o) (sym first) ∙ read

    others : AreRun o (take r rest) (tail name)
    others = subst (λ (x : List ℕ). AreRun o (take r x) (tail name)) behind (run name (ap (read_at o) again ∙ there) long)

    one : suc r ≡ 1 + r
    one = omega arith

    run_here : AreRun o (take (1 + r) (p ∷ rest)) name
    run_here = subst (λ (n : ℕ). AreRun o (take n (p ∷ rest)) name) one (omega arith, there, others)

    run_there : AreRun o (take (1 + r) (drop s.places ps)) name
    run_there = subst (λ (x : List ℕ). AreRun o (take (1 + r) x) name) all run_here

    taken : length (take (1 + r) (p ∷ rest)) ≡ 1 + r
    taken = omega (arith, length-take (1 + r) (p ∷ rest), few_rest, rest_length)

    none : count - length shared - length (take (1 + r) (p ∷ rest)) ≡ length name - length shared - (1 + r)
    none = omega (arith, taken, long)

    firsts_there : k.firsts.items ≡ map Some (take (1 + r) (drop s.places ps)) ++ (replicate (length name - length shared - (1 + r)) None ++ shared)
    firsts_there =
        firsts ∙ ap (λ (n : ℕ). map Some (take (1 + r) (p ∷ rest)) ++ (replicate n None ++ shared)) none
        ∙ ap (λ (x : List ℕ). map Some (take (1 + r) x) ++ (replicate (length name - length shared - (1 + r)) None ++ shared)) all

-- What is found by two tables.

pub search_begins : (octets places : List ℕ) (labels : Labels) (known recent : List (Option ℕ)) (behind others : List ℕ) (n m : ℕ) → behind ≡ drop n places → others ≡ drop m behind
    → AreFirsts octets (take n places) labels known → AreFirsts octets (take m behind) labels recent → IsSearch octets places labels known recent others
search_begins octets places labels known recent behind others n m b o known_are recent_are = record {
  known_places = take n places;
  recent_places = take m behind;
  all = sym (take-append-drop n places) ∙ ap (λ (x : List ℕ). take n places ++ x) (sym b ∙ sym (take-append-drop m behind) ∙ ap (λ (x : List ℕ). take m behind ++ x) (sym o));
  known_are = known_are;
  recent_are = recent_are;
}

pub search_on : (octets places : List ℕ) (label : List ℕ) (labels : Labels) (known recent : List (Option ℕ)) (others : List ℕ) → IsSearch octets places (label ∷ labels) known recent others
    → IsSearch octets places labels known recent others
search_on octets places label labels known recent others s = record {
  known_places = s.known_places;
  recent_places = s.recent_places;
  all = s.all;
  known_are = firsts_on octets s.known_places label labels known s.known_are;
  recent_are = firsts_on octets s.recent_places label labels recent s.recent_are;
}

pub search_found : (octets places : List ℕ) (labels : Labels) (known recent : List (Option ℕ)) (others : List ℕ) → 0 < length labels → IsSearch octets places labels known recent others
    → found_at octets places labels ≡ first_of (first_of (from_end known (length labels)) (from_end recent (length labels))) (found_at octets others labels)
search_found octets places labels known recent others some s =
    let k = s.known_are [] labels refl some in
    let r = s.recent_are [] labels refl some in
    ap (λ (x : List ℕ). found_at octets x labels) s.all ∙ found_append octets s.known_places (s.recent_places ++ others) labels
    ∙ ap (first_of (found_at octets s.known_places labels)) (found_append octets s.recent_places others labels)
    ∙ ap (λ x. first_of x (first_of (found_at octets s.recent_places labels) (found_at octets others labels))) (sym k)
    ∙ ap (λ x. first_of (from_end known (length labels)) (first_of x (found_at octets others labels))) (sym r) ∙ assoc (from_end known (length labels)) (from_end recent (length labels)) (found_at octets others labels)
  where
    assoc : (a b c : Option ℕ) → first_of a (first_of b c) ≡ first_of (first_of a b) c
    assoc (Some p) b c = refl
    assoc None b c = refl
