-- Tables of aliases: what they find, and what one record more leaves.
use Rattle.std.proofs.Common.{◌≡◌, ℕ, suc, ◌+◌, ◌-◌, ◌<◌, ◌≤◌, ◌∙◌, List, [], ◌∷◌, ◌++◌, length, take, refl, sym, ap, arith, subst, Bool, true, false, get_or, cond}
use Rattle.std.specs.Prelude.{Option, Some, None, Err, option_map, nat_le, nat_lt, slice_set, ◌==◌, ◌&&◌, if◌then◌else◌}
use Rattle.std.specs.Option.{option_map_or}
use Rattle.std.specs.declared.cmp.Ordering.{Ordering}
use Rattle.std.specs.declared.cmp.Ordering.TheVariants.{Less, Equal, Greater}
use Rattle.std.specs.Ordering.{nat_cmp, ordering_then, ordering_index}
use Rattle.std.specs.Cmp.{IsTotalOrder}
use Rattle.std.specs.Cmp.Lexicographic.{slice_cmp, pointwise}
use Rattle.std.specs.List.{insert, CopiedTo, SameBelow}
use Rattle.std.specs.List.Sorted.{IsBinarySearchResult, IsNonDecreasingBy, IsPartitionPoint}
use Rattle.std.proofs.lemmas.Cmp.{nat_list_cmp_total, lists_total, lists_equiv, nat_list_eq_equiv, on_total, tied_itself, alike_right, ranked}
use Rattle.std.proofs.lemmas.Bool.Decides.{nat_tests}
use Rattle.std.proofs.lemmas.List.{get_or-take, length-take-le, get_or-set_other, get_or-set_same, length-set}
use Rattle.std.proofs.lemmas.Grind.{same_number_lists}
use Rattle.std.proofs.lemmas.List.Edits.{length-insert, get_or-insert_below, get_or-insert_at, get_or-insert_above}
use Rattle.std.proofs.lemmas.List.Sorted.{IsNonDecreasingBy-insert}
use Rattle.std.proofs.lemmas.Option.{some_pair_parts}
use Rattle.dns_names.specs.Name.{Labels, Found, lowered, same_name, name_at}
use Rattle.dns_names.specs.NameHash.{same_lowered}
use Rattle.dns_names.proofs.Heads.{then_ok}
use Rattle.dns_base.specs.Numbers.{u16_at, ◌>>=◌}
use Rattle.dns_base.specs.Message.{Known, record_at, list_at, questions_of, answer_of}
use Rattle.dns_base.specs.Canonical.{is_alias, alias_in}
use Rattle.dns_base.specs.AliasTable.{name_cmp, order_at, IsFirst, IsTable, IsTabled, HasTable}
use Rattle.dns_base.proofs.Lists.{list_snoc}

-- the order of names

pub names_total : IsTotalOrder name_cmp
names_total = on_total lowered (lists_total nat_list_cmp_total)

then_equal : (o p : Ordering) → ordering_then o p ≡ Equal → (o ≡ Equal) × (p ≡ Equal)
then_equal Less p e = absurd (cc)
then_equal Equal p e = (refl, e)
then_equal Greater p e = absurd (cc)

octets_equal : (xs ys : List ℕ) → slice_cmp nat_cmp xs ys ≡ Equal → xs ≡ ys
octets_equal [] [] e = refl
octets_equal [] (y ∷ ys) e = absurd (cc)
octets_equal (x ∷ xs) [] e = absurd (cc)
octets_equal (x ∷ xs) (y ∷ ys) e =
    let p = then_equal (nat_cmp x y) (slice_cmp nat_cmp xs ys) e in
    let h : x ≡ y = ranked x y Equal (sym p.0) in
    let t = octets_equal xs ys p.1 in
    cc

labels_equal : (xs ys : Labels) → slice_cmp (slice_cmp nat_cmp) xs ys ≡ Equal → xs ≡ ys
labels_equal [] [] e = refl
labels_equal [] (y ∷ ys) e = absurd (cc)
labels_equal (x ∷ xs) [] e = absurd (cc)
labels_equal (x ∷ xs) (y ∷ ys) e =
    let p = then_equal (slice_cmp nat_cmp x y) (slice_cmp (slice_cmp nat_cmp) xs ys) e in
    let h = octets_equal x y p.0 in
    let t = labels_equal xs ys p.1 in
    cc

lowered_same : (a b : Labels) → lowered a ≡ lowered b → same_name a b ≡ true
lowered_same a b e = subst (λ (x : Labels). pointwise (pointwise ◌==◌) (lowered a) x ≡ true) e ((lists_equiv nat_list_eq_equiv).refl (lowered a))

same_equal : (a b : Labels) → same_name a b ≡ true → name_cmp a b ≡ Equal
same_equal a b e = subst (λ (x : Labels). slice_cmp (slice_cmp nat_cmp) (lowered a) x ≡ Equal) (same_lowered a b e) (tied_itself (lists_total nat_list_cmp_total) (lowered a))

-- What is below another name is below what that is below.
lower : (o p : Ordering) (a b c : Labels) → o ≡ name_cmp b c → p ≡ name_cmp a c → name_cmp a b ≡ Less → ordering_index p ≤ ordering_index o
lower Less p a b c e f l = let is : p ≡ Less = f ∙ names_total.trans a b c l (sym e) in rw is (omega arith)
lower Equal p a b c e f l = let is : p ≡ Less = f ∙ sym (alike_right names_total b c a (sym e)) ∙ l in rw is (omega arith)
lower Greater Less a b c e f l = omega arith
lower Greater Equal a b c e f l = omega arith
lower Greater Greater a b c e f l = omega arith

-- the name of the owner stands at the record's place

abbrev some_of : Known → ℕ → Option (Known × ℕ)
some_of k m = Some (k, m)

owned : (b c : Bool) (k r : Known) (m e : ℕ) → cond b (cond c (some_of k m) None) None ≡ some_of r e → k.entry.owner ≡ r.entry.owner
owned true true k r m e h = ap (λ (k : Known). k.entry.owner) (some_pair_parts k r m e h).0
owned true false k r m e h = absurd (cc)
owned false c k r m e h = absurd (cc)

record_owner : (octets : List ℕ) (place end : ℕ) (r : Known) → record_at octets place ≡ Some (r, end) → (f : Found) × (name_at octets place ≡ Some f) × (f.labels ≡ r.entry.owner)
unfolding record_at
record_owner octets place end r e =
    let n = then_ok (name_at octets place) _ (r, end) e in
    (n.0, n.1, owned (nat_le (n.0.end + 10) (length octets)) (nat_le (n.0.end + 10 + u16_at octets (n.0.end + 8)) (length octets)) _ r _ end n.2)

order_of : (octets : List ℕ) (place end : ℕ) (r : Known) (name : Labels) → record_at octets place ≡ Some (r, end) → order_at octets name place ≡ name_cmp r.entry.owner name
order_of octets place end r name e = let n = record_owner octets place end r e in rw (n.1, n.2) refl

order_same : (octets : List ℕ) (a b : Labels) (place : ℕ) → lowered a ≡ lowered b → order_at octets a place ≡ order_at octets b place
order_same octets a b place e = go (name_at octets place)
  where
    go : (o : Option Found) → option_map_or (λ f. name_cmp f.labels a) o Less ≡ option_map_or (λ f. name_cmp f.labels b) o Less
    go None = refl
    go (Some f) = ap (λ (x : Labels). slice_cmp (slice_cmp nat_cmp) (lowered f.labels) x) e

order_below : (octets : List ℕ) (a b : Labels) (p : ℕ) → order_at octets a p ≡ Less → ordering_index (order_at octets b p) ≤ ordering_index (name_cmp a b)
order_below octets a b p = go (name_at octets p)
  where
    go : (o : Option Found) → option_map_or (λ f. name_cmp f.labels a) o Less ≡ Less → ordering_index (option_map_or (λ f. name_cmp f.labels b) o Less) ≤ ordering_index (name_cmp a b)
    go None l = omega arith
    go (Some f) l = lower (name_cmp a b) (name_cmp f.labels b) f.labels a b refl refl l

order_above : (octets : List ℕ) (a b : Labels) (p : ℕ) → order_at octets a p ≡ Greater → ordering_index (name_cmp a b) ≤ ordering_index (order_at octets b p)
order_above octets a b p = go (name_at octets p)
  where
    turned : (o p : Ordering) (f : Labels) → name_cmp f a ≡ Greater → name_cmp a f ≡ Less
    turned o p f g = names_total.antisymm a f ∙ rw g refl

    go : (o : Option Found) → option_map_or (λ f. name_cmp f.labels a) o Less ≡ Greater → ordering_index (name_cmp a b) ≤ ordering_index (option_map_or (λ f. name_cmp f.labels b) o Less)
    go None g = absurd (cc)
    go (Some f) g = lower (name_cmp f.labels b) (name_cmp a b) a f.labels b refl refl (turned Less Less f.labels g)

-- aliases among records

alias_same : (a b : Labels) → lowered a ≡ lowered b → (rs : List Known) → alias_in a rs ≡ alias_in b rs
alias_same a b e [] = refl
alias_same a b e (k ∷ ks) =
    let here : is_alias a k ≡ is_alias b k = ap (λ (x : Labels). k.entry.rtype == 5 && pointwise (pointwise ◌==◌) (lowered k.entry.owner) x) e in
    ap (λ (t : Bool). if t then Some k else alias_in a ks) here ∙ ap (λ (o : Option Known). if is_alias b k then Some k else o) (alias_same a b e ks)

alias_kept : (name : Labels) (rs ks : List Known) (r : Known) → alias_in name rs ≡ Some r → alias_in name (rs ++ ks) ≡ Some r
alias_kept name [] ks r e = absurd (cc)
alias_kept name (q ∷ rs) ks r e = go (is_alias name q) (alias_kept name rs ks r) e
  where
    go : (t : Bool) → (alias_in name rs ≡ Some r → alias_in name (rs ++ ks) ≡ Some r) → (if t then Some q else alias_in name rs) ≡ Some r → (if t then Some q else alias_in name (rs ++ ks)) ≡ Some r
    go true others e = e
    go false others e = others e

alias_late : (name : Labels) (rs ks : List Known) → alias_in name rs ≡ None → alias_in name (rs ++ ks) ≡ alias_in name ks
alias_late name [] ks e = refl
alias_late name (q ∷ rs) ks e = go (is_alias name q) (alias_late name rs ks) e
  where
    go : (t : Bool) → (alias_in name rs ≡ None → alias_in name (rs ++ ks) ≡ alias_in name ks) → (if t then Some q else alias_in name rs) ≡ None
        → (if t then Some q else alias_in name (rs ++ ks)) ≡ alias_in name ks
    go true others e = absurd (cc)
    go false others e = others e

-- what a table finds

below_or_above : (octets places : List ℕ) (owner : Labels) (i : ℕ) → IsPartitionPoint (λ p. order_at octets owner p ≡ Less) (λ p. order_at octets owner p ≡ Greater) places i
    → (k : ℕ) (d : ℕ) → k < length places → order_at octets owner (get_or places k d) ≡ Equal → ⊥
below_or_above octets places owner i sides k d lt same = go (nat_lt k i) refl
  where
    go : (b : Bool) → nat_lt k i ≡ b → ⊥
    go true e = let below = sides.0 k d (omega arith) (grind (arith, nat_tests)) in absurd (cc)
    go false e = let above = sides.1 k d (grind (arith, nat_tests)) lt in absurd (cc)

pub none_found : (octets places : List ℕ) (records : List Known) (owner : Labels) (i : ℕ) → IsTable octets places records
    → IsBinarySearchResult (order_at octets owner) places (Err i) → alias_in owner records ≡ None
none_found octets places records owner i t found = t.whole owner (below_or_above octets places owner i (found (t.rises owner)))

pub found_here : (octets places : List ℕ) (records : List Known) (owner : Labels) (place : ℕ) → IsFirst octets records place
    → order_at octets owner place ≡ Equal → alias_in owner records ≡ option_map (λ (x : Known × ℕ). x.0) (record_at octets place)
found_here octets places records owner place first same =
    let equal : name_cmp first.known.entry.owner owner ≡ Equal = sym (order_of octets place first.end first.known owner first.read) ∙ same in
    let one = labels_equal (lowered first.known.entry.owner) (lowered owner) equal in
    sym (alias_same first.known.entry.owner owner one records) ∙ first.first ∙ ap (option_map (λ (x : Known × ℕ). x.0)) (sym first.read)

-- one record more

first_kept : (octets : List ℕ) (records : List Known) (k : Known) (place : ℕ) → IsFirst octets records place → IsFirst octets (records ++ k ∷ []) place
first_kept octets records k place f = record { known = f.known; end = f.end; read = f.read; first = alias_kept f.known.entry.owner records (k ∷ []) f.known f.first }

lone : (t : Bool) (k : Known) → t ≡ false → (if t then Some k else None) ≡ None
lone t k e = rw e refl

not_both : (b t : Bool) → (t ≡ true → ⊥) → (b && t) ≡ false
not_both b true apart = absurd (apart refl)
not_both true false apart = refl
not_both false false apart = refl

-- a record that adds no alias, or one of an owner that has one
kept_whole : (octets places : List ℕ) (records : List Known) (k : Known) → IsTable octets places records
    → ((name : Labels) → ((j : ℕ) (d : ℕ) → j < length places → order_at octets name (get_or places j d) ≡ Equal → ⊥) → is_alias name k ≡ false)
    → IsTable octets places (records ++ k ∷ [])
kept_whole octets places records k t none = record {
  rises = t.rises;
  firsts = λ j d lt. first_kept octets records k (get_or places j d) (t.firsts j d lt);
  whole = λ name apart. alias_late name records (k ∷ []) (t.whole name apart) ∙ lone (is_alias name k) k (none name apart);
}

pub other_kept : (octets places : List ℕ) (records : List Known) (k : Known) → (k.entry.rtype == 5) ≡ false → IsTable octets places records → IsTable octets places (records ++ k ∷ [])
other_kept octets places records k other t = kept_whole octets places records k t (λ name apart. rw other refl)

pub second_kept : (octets places : List ℕ) (records : List Known) (k : Known) (i : ℕ) → i < length places → order_at octets k.entry.owner (get_or places i 0) ≡ Equal
    → IsTable octets places records → IsTable octets places (records ++ k ∷ [])
second_kept octets places records k i lt same t = kept_whole octets places records k t (λ name apart. not_both (k.entry.rtype == 5) (same_name k.entry.owner name) (again name apart))
  where
    again : (name : Labels) → ((j : ℕ) (d : ℕ) → j < length places → order_at octets name (get_or places j d) ≡ Equal → ⊥) → same_name k.entry.owner name ≡ true → ⊥
    again name apart e = apart i 0 lt (sym (order_same octets k.entry.owner name (get_or places i 0) (same_lowered k.entry.owner name e)) ∙ same)

own_alias : (k : Known) → (k.entry.rtype == 5) ≡ true → alias_in k.entry.owner (k ∷ []) ≡ Some k
own_alias k five = let same = lowered_same k.entry.owner k.entry.owner refl in rw (five, same) refl

module _ (octets places : List ℕ) (records : List Known) (k : Known) (i place end : ℕ) (fits : i ≤ length places) (stands : record_at octets place ≡ Some (k, end))
    (five : (k.entry.rtype == 5) ≡ true) (t : IsTable octets places records) (found : IsBinarySearchResult (order_at octets k.entry.owner) places (Err i)) where
  low : (j : ℕ) (d : ℕ) → j < i → get_or (insert places i place) j d ≡ get_or places j d
  low j d lt = get_or-insert_below places i place d j lt fits

  here : (d : ℕ) → get_or (insert places i place) i d ≡ place
  here d = get_or-insert_at places i place d fits

  high : (j : ℕ) (d : ℕ) → i < j → get_or (insert places i place) j d ≡ get_or places (j - 1) d
  high j d lt = let is : j ≡ (j - 1) + 1 = omega arith in ap (λ (n : ℕ). get_or (insert places i place) n d) is ∙ get_or-insert_above places i place d (j - 1) (omega arith) fits

  new_first : IsFirst octets (records ++ k ∷ []) place
  new_first = record {
    known = k;
    end = end;
    read = stands;
    first = alias_late k.entry.owner records (k ∷ []) (none_found octets places records k.entry.owner i t found) ∙ own_alias k five;
  }

  long : length (insert places i place) ≡ length places + 1
  long = length-insert places i place fits

  new_rises : (name : Labels) → IsNonDecreasingBy (λ p. ordering_index (order_at octets name p)) (insert places i place)
  new_rises name =
      let sides = found (t.rises k.entry.owner) in
      let is = order_of octets place end k name stands in
      IsNonDecreasingBy-insert (λ p. ordering_index (order_at octets name p)) places i place (t.rises name) fits
      (λ j d lt. rw is (order_below octets k.entry.owner name (get_or places j d) (sides.0 j d (omega arith) lt)))
      (λ j d le lt. rw is (order_above octets k.entry.owner name (get_or places j d) (sides.1 j d le lt)))

  new_firsts : (j : ℕ) (d : ℕ) → j < length (insert places i place) → IsFirst octets (records ++ k ∷ []) (get_or (insert places i place) j d)
  new_firsts j d lt = go (nat_cmp j i) refl
    where
      go : (o : Ordering) → nat_cmp j i ≡ o → IsFirst octets (records ++ k ∷ []) (get_or (insert places i place) j d)
      go Less e =
          let under : j < i = ranked j i Less (sym e) in
          subst (λ (p : ℕ). IsFirst octets (records ++ k ∷ []) p) (sym (low j d under)) (first_kept octets records k (get_or places j d) (t.firsts j d (omega (arith, under, fits))))
      go Equal e =
          let level : j ≡ i = ranked j i Equal (sym e) in
          subst (λ (p : ℕ). IsFirst octets (records ++ k ∷ []) p) (sym (ap (λ (n : ℕ). get_or (insert places i place) n d) level ∙ here d)) new_first
      go Greater e =
          let over : i < j = ranked j i Greater (sym e) in
          subst (λ (p : ℕ). IsFirst octets (records ++ k ∷ []) p) (sym (high j d over)) (first_kept octets records k (get_or places (j - 1) d) (t.firsts (j - 1) d (omega (arith, over, long, lt))))

  old_apart : (name : Labels) → ((j : ℕ) (d : ℕ) → j < length (insert places i place) → order_at octets name (get_or (insert places i place) j d) ≡ Equal → ⊥)
      → (j : ℕ) (d : ℕ) → j < length places → order_at octets name (get_or places j d) ≡ Equal → ⊥
  old_apart name apart j d lt same = go (nat_le i j) refl
    where
      go : (b : Bool) → nat_le i j ≡ b → ⊥
      go true e = apart (j + 1) d (omega (arith, long, lt)) (ap (order_at octets name) (get_or-insert_above places i place d j (grind (arith, nat_tests)) fits) ∙ same)
      go false e = apart j d (omega (arith, long, lt)) (ap (order_at octets name) (low j d (grind (arith, nat_tests))) ∙ same)

  new_apart : (name : Labels) → ((j : ℕ) (d : ℕ) → j < length (insert places i place) → order_at octets name (get_or (insert places i place) j d) ≡ Equal → ⊥)
      → same_name k.entry.owner name ≡ true → ⊥
  new_apart name apart e = apart i 0 (omega (arith, long, fits)) (ap (order_at octets name) (here 0) ∙ order_of octets place end k name stands ∙ same_equal k.entry.owner name e)

  pub new_added : IsTable octets (insert places i place) (records ++ k ∷ [])
  new_added = record {
    rises = new_rises;
    firsts = new_firsts;
    whole = λ name apart. alias_late name records (k ∷ []) (t.whole name (old_apart name apart))
        ∙ lone (is_alias name k) k (not_both (k.entry.rtype == 5) (same_name k.entry.owner name) (new_apart name apart));
  }

-- the same where the owner is told in another way
pub owner_kept : (octets places : List ℕ) (records : List Known) (k : Known) (i : ℕ) (owner : Labels) → owner ≡ k.entry.owner → i < length places
    → order_at octets owner (get_or places i 0) ≡ Equal → IsTable octets places records → IsTable octets places (records ++ k ∷ [])
owner_kept octets places records k i owner is lt same t =
    second_kept octets places records k i lt (subst (λ (name : Labels). order_at octets name (get_or places i 0) ≡ Equal) is same) t

with_end : (o : Option (Known × ℕ)) (k : Known) → option_map (λ (x : Known × ℕ). x.0) o ≡ Some k → (end : ℕ) × (o ≡ Some (k, end))
with_end None k e = absurd (cc)
with_end (Some (x, end)) k e = (end, cc)

pub new_kept : (octets places others : List ℕ) (records : List Known) (k : Known) (i place put : ℕ) (owner : Labels) → owner ≡ k.entry.owner → i ≤ length places
    → option_map (λ (x : Known × ℕ). x.0) (record_at octets place) ≡ Some k → (k.entry.rtype == 5) ≡ true → IsTable octets places records
    → IsBinarySearchResult (order_at octets owner) places (Err i) → others ≡ insert places i put → put ≡ place → IsTable octets others (records ++ k ∷ [])
new_kept octets places others records k i place put owner is fits stands five t found made same =
    let whole = with_end (record_at octets place) k stands in
    let here = subst (λ (name : Labels). IsBinarySearchResult (order_at octets name) places (Err i)) is found in
    let all : others ≡ insert places i place = made ∙ ap (λ (n : ℕ). insert places i n) same in
    subst (λ (ps : List ℕ). IsTable octets ps (records ++ k ∷ [])) (sym all) (new_added octets places records k i place whole.0 fits whole.1 five t here)

pub nothing_yet : (octets : List ℕ) → IsTable octets [] []
nothing_yet octets = record {
  rises = λ name j l d le lt. absurd (omega (arith, lt));
  firsts = λ j d lt. absurd (omega (arith, lt));
  whole = λ name apart. refl;
}

-- the table of an answer section
of_answer : (octets places : List ℕ) (start : ℕ) → option_map (λ x. x.1) (questions_of octets) ≡ Some start → IsTabled octets start (u16_at octets 6) places → HasTable octets places
unfolding answer_of
of_answer octets places start e t = record { records = t.found.0; read = go (questions_of octets) e; table = t.table }
  where
    go : {A : Type 0} → (o : Option (A × ℕ)) → option_map (λ x. x.1) o ≡ Some start
        → option_map (λ (found : List Known × ℕ). found.0) (o >>= λ before. list_at (record_at octets) (u16_at octets 6) before.1) ≡ Some t.found.0
    go None e = absurd (cc)
    go (Some x) e = let is : x.1 ≡ start = cc in rw (is, t.read) refl

pub has_table : (octets all places : List ℕ) (start count : ℕ) → octets ≡ all → count ≡ u16_at octets 6 → option_map (λ x. x.1) (questions_of octets) ≡ Some start
    → IsTabled octets start count places → HasTable all places
has_table octets all places start count is counted e t =
    let whole = of_answer octets places start e (subst (λ (n : ℕ). IsTabled octets start n places) counted t) in
    subst (λ (o : List ℕ). HasTable o places) is whole

-- a table of the same octets
pub table_of : (octets all places : List ℕ) (records : List Known) → octets ≡ all → IsTable all places records → IsTable octets places records
table_of octets all places records is t = subst (λ (o : List ℕ). IsTable o places records) (sym is) t

-- a place more, put in its order
put_in : (xs ys : List ℕ) (i n y k : ℕ) → n < length xs → i ≤ n → length ys ≡ length xs → CopiedTo xs ys i (i + 1) (n - i) → SameBelow xs ys (i + 1) → k < n + 1
    → get_or (take (n + 1) (slice_set ys i y)) k 0 ≡ get_or (insert (take n xs) i y) k 0
put_in xs ys i n y k lt le long copied below room = get_or-take (n + 1) (slice_set ys i y) k 0 room ∙ go (nat_cmp k i) refl
  where
    kept : length (take n xs) ≡ n
    kept = length-take-le n xs (omega arith)

    go : (o : Ordering) → nat_cmp k i ≡ o → get_or (slice_set ys i y) k 0 ≡ get_or (insert (take n xs) i y) k 0
    go Less e =
        let under : k < i = ranked k i Less (sym e) in
        get_or-set_other ys i k y 0 (λ is. absurd (omega (arith, under, is))) ∙ below k 0 (omega (arith, under))
        ∙ sym (get_or-take n xs k 0 (omega (arith, under, le))) ∙ sym (get_or-insert_below (take n xs) i y 0 k under (omega (arith, kept, le)))
    go Equal e =
        let level : k ≡ i = ranked k i Equal (sym e) in
        rw level (get_or-set_same ys i y 0 (omega (arith, long, lt, le)) ∙ sym (get_or-insert_at (take n xs) i y 0 (omega (arith, kept, le))))
    go Greater e =
        let over : i < k = ranked k i Greater (sym e) in
        let is : k ≡ (k - 1) + 1 = omega (arith, over) in
        let back : i + (k - (i + 1)) ≡ k - 1 = omega (arith, over) in
        get_or-set_other ys i k y 0 (λ is. absurd (omega (arith, over, is))) ∙ copied k 0 (omega (arith, over)) (omega (arith, over, room, le))
        ∙ ap (λ (m : ℕ). get_or xs m 0) back ∙ sym (get_or-take n xs (k - 1) 0 (omega (arith, over, room)))
        ∙ sym (get_or-insert_above (take n xs) i y 0 (k - 1) (omega (arith, over)) (omega (arith, kept, le))) ∙ ap (λ (m : ℕ). get_or (insert (take n xs) i y) m 0) (sym is)

pub put : (xs ys : List ℕ) (i n y : ℕ) → n < length xs → i ≤ n → length ys ≡ length xs → CopiedTo xs ys i (i + 1) (n - i) → SameBelow xs ys (i + 1)
    → take (n + 1) (slice_set ys i y) ≡ insert (take n xs) i y
put xs ys i n y lt le long copied below =
    let kept = length-take-le n xs (omega arith) in
    let set = length-set ys i y in
    let front = length-take-le (n + 1) (slice_set ys i y) (omega (arith, set, long, lt)) in
    let whole = length-insert (take n xs) i y (omega (arith, kept, le)) in
    same_number_lists (take (n + 1) (slice_set ys i y)) (insert (take n xs) i y) (omega (arith, front, whole, kept))
    (λ k room. put_in xs ys i n y k lt le long copied below (omega (arith, room, front)))

-- a table of the records so far
pub record IsSoFar (octets : List ℕ) (start count at kept : ℕ) (places : List ℕ) : Type 0 where
  pub records : List Known
  pub read : list_at (record_at octets) count start ≡ Some (records, at)
  pub table : IsTable octets (take kept places) records
  pub fits : kept ≤ length places

pub none_so_far : (octets places : List ℕ) (start : ℕ) → IsSoFar octets start 0 start 0 places
unfolding list_at
none_so_far octets places start = record { records = []; read = refl; table = nothing_yet octets; fits = omega arith }

pub one_more : (octets places others : List ℕ) (start count place kept more end : ℕ) (k : Known) → IsSoFar octets start count place kept places → record_at octets place ≡ Some (k, end)
    → ((records : List Known) → IsTable octets (take kept places) records → IsTable octets (take more others) (records ++ k ∷ [])) → more ≤ length others
    → IsSoFar octets start (count + 1) end more others
one_more octets places others start count place kept more end k s stands grows fits =
    let is : count + 1 ≡ suc count = omega arith in
    record {
      records = s.records ++ k ∷ [];
      read = ap (λ (n : ℕ). list_at (record_at octets) n start) is ∙ list_snoc (record_at octets) count start place end s.records k s.read stands;
      table = grows s.records s.table;
      fits = fits;
    }

pub all_so_far : (octets places : List ℕ) (start count counter place kept : ℕ) → IsSoFar octets start counter place kept places → counter ≡ count → IsTabled octets start count (take kept places)
all_so_far octets places start count counter place kept s is = record {
  found = (s.records, place);
  read = ap (λ (n : ℕ). list_at (record_at octets) n start) (sym is) ∙ s.read;
  table = s.table;
}
