-- How many queries wait, where those of a request are put or taken out.
use Rattle.std.proofs.Common.{◌≡◌, ℕ, suc, ◌+◌, ◌<◌, ◌≤◌, ◌^◌, List, [], ◌∷◌, ◌++◌, length, Option, Some, None, Ordering, Less, Equal, Greater, nat_cmp, cond, Bool, true, false, refl, sym, subst, ap, ap₂, ◌∙◌, ◌-◌, arith}
use Rattle.std.specs.Prelude.{unwrap_or, option_map, nat_lt}
use Rattle.std.specs.List.{AllByRecursion, sum_by}
use Rattle.std.specs.List.Sorted.{IsStrictlySortedBy}
use Rattle.std.specs.Map.{keys_of, values_of}
use Rattle.std.specs.Ordering.{match_ordering, is_eq}
use Rattle.std.specs.BTreeMap.{is_at}
use Rattle.std.proofs.lemmas.Bool.Decides.{nat_tests}
use Rattle.std.proofs.lemmas.Cmp.{nat_cmp_total}
use Rattle.std.proofs.lemmas.List.Concat.{length-flat_map}
use Rattle.std.proofs.lemmas.List.Elements.{All-from_recursion, recursion_from_All}
use Rattle.std.proofs.lemmas.Map.Entries.{sum_by-insert_entry, sum_by-remove_entry}
use Rattle.std.proofs.lemmas.Map.Keys.{sorted_head, sorted_tail}
use Rattle.std.proofs.lemmas.Map.Views.{All-keys-insert_entry, All-map-remove_entry}
use Rattle.number_table.specs.Entries.{puts, frees, entry_at}
use Rattle.front_peers.specs.declared.items.Asker.{Asker}
use Rattle.front_steps.specs.Waiting.{Counts, askers_in, askers_of, askers_or_none}
use Rattle.front_steps.specs.declared.waits.Waiting.{Waiting}

abbrev Table : Type 0
Table = List (ℕ × Waiting)

-- ---- requests in rising order of their numbers

abbrev Rises : Table → Type 0
Rises es = IsStrictlySortedBy nat_cmp (keys_of es)

-- what is above one number is above what is below that
above : (k l : ℕ) (ks : List ℕ) → nat_cmp k l ≡ Less → AllByRecursion (λ q. nat_cmp l q ≡ Less) ks → AllByRecursion (λ q. nat_cmp k q ≡ Less) ks
above k l [] less all = tt
above k l (q ∷ ks) less all = (nat_cmp_total.trans k l q less all.0, above k l ks less all.1)

greater : (k l : ℕ) → nat_cmp k l ≡ Greater → nat_cmp l k ≡ Less
greater k l h = grind (arith, nat_tests)

put_before : (k : ℕ) (v : Waiting) (e : ℕ × Waiting) (es : Table) → Rises (e ∷ es) → Rises (puts k v es)
    → (r : Ordering) → nat_cmp k e.0 ≡ r → Rises (match_ordering r ((k, v) ∷ e ∷ es) ((e.0, v) ∷ es) (e ∷ puts k v es))
unfolding IsStrictlySortedBy
put_before k v e es rises later Less h = ((h, above k e.0 (keys_of es) h (sorted_head nat_cmp e.0 (keys_of es) rises)), rises)
put_before k v e es rises later Equal h = rises
put_before k v e es rises later Greater h = (
  recursion_from_All _ _ (All-keys-insert_entry nat_cmp k v (λ q. nat_cmp e.0 q ≡ Less) es (All-from_recursion _ _ (sorted_head nat_cmp e.0 (keys_of es) rises)) (greater k e.0 h)),
  later,
)

put_rises : (k : ℕ) (v : Waiting) (es : Table) → Rises es → Rises (puts k v es)
unfolding IsStrictlySortedBy
put_rises k v [] rises = (tt, tt)
put_rises k v (e ∷ es) rises = put_before k v e es rises (put_rises k v es (sorted_tail nat_cmp e.0 (keys_of es) rises)) (nat_cmp k e.0) refl

freed_before : (k : ℕ) (e : ℕ × Waiting) (es : Table) → Rises (e ∷ es) → Rises (frees k es) → (b : Bool) → Rises (cond b es (e ∷ frees k es))
unfolding IsStrictlySortedBy
freed_before k e es rises later true = sorted_tail nat_cmp e.0 (keys_of es) rises
freed_before k e es rises later false = (
  recursion_from_All _ _ (All-map-remove_entry (is_at (nat_cmp k)) (λ (d : ℕ × Waiting). d.0) (λ q. nat_cmp e.0 q ≡ Less) es (All-from_recursion _ _ (sorted_head nat_cmp e.0 (keys_of es) rises))),
  later,
)

freed_rises : (k : ℕ) (es : Table) → Rises es → Rises (frees k es)
unfolding IsStrictlySortedBy
freed_rises k [] rises = tt
freed_rises k (e ∷ es) rises = freed_before k e es rises (freed_rises k es (sorted_tail nat_cmp e.0 (keys_of es) rises)) (is_eq (nat_cmp k e.0))

-- ---- how many queries wait

abbrev many : Waiting → ℕ
many w = length (askers_of w)

weighs : (o : Option Waiting) → length (askers_or_none o) ≡ unwrap_or (option_map many o) 0
weighs None = refl
weighs (Some w) = refl

all_of : (es : Table) → length (askers_in es) ≡ sum_by many (values_of es)
all_of es = length-flat_map askers_of (values_of es)

pub count_freed : (k : ℕ) (es : Table) → length (askers_in (frees k es)) + length (askers_or_none (entry_at k es)) ≡ length (askers_in es)
count_freed k es = ap₂ (λ (a b : ℕ). a + b) (all_of (frees k es)) (weighs (entry_at k es)) ∙ sum_by-remove_entry many (is_at (nat_cmp k)) es ∙ sym (all_of es)

count_put : (k : ℕ) (v : Waiting) (es : Table) → Rises es
    → length (askers_in (puts k v es)) + length (askers_or_none (entry_at k es)) ≡ length (askers_in es) + length (askers_of v)
count_put k v es rises =
    ap₂ (λ (a b : ℕ). a + b) (all_of (puts k v es)) (weighs (entry_at k es)) ∙ sum_by-insert_entry many nat_cmp_total es k v rises
    ∙ ap (λ (a : ℕ). a + length (askers_of v)) (sym (all_of es))

-- ---- what a table of them counts

none_rises : Rises []
unfolding IsStrictlySortedBy
none_rises = tt

pub none_counts : (es : Table) → es ≡ [] → Counts 0 es
none_counts es none = subst (Counts 0) (sym none) (record { count_is = refl; in_order = none_rises })

module _ (count gone k : ℕ) (es : Table) (o : Option Waiting) (counts : Counts count es) (entry : o ≡ entry_at k es) (is : gone ≡ length (askers_or_none o)) where
  gone_is : gone ≡ length (askers_or_none (entry_at k es))
  gone_is = is ∙ ap (λ (w : Option Waiting). length (askers_or_none w)) entry

  -- those of one request are no more than all
  pub no_more : gone ≤ count
  no_more = let freed = count_freed k es in let all = counts.count_is in let those = gone_is in omega arith

  -- without those of one request
  pub counts_freed : (new : Table) → new ≡ frees k es → Counts (count - gone) new
  counts_freed new new_is = subst (Counts (count - gone)) (sym new_is) (record {
    count_is = (let freed = count_freed k es in let all = counts.count_is in let those = gone_is in omega arith);
    in_order = freed_rises k es counts.in_order;
  })

  -- with some in their place
  pub counts_put : (more : ℕ) (v : Waiting) (new : Table) → more ≡ length (askers_of v) → new ≡ puts k v es → Counts (count + more - gone) new
  counts_put more v new more_is new_is = subst (Counts (count + more - gone)) (sym new_is) (record {
    count_is = (let put = count_put k v es counts.in_order in let all = counts.count_is in let those = gone_is in let few = no_more in omega arith);
    in_order = put_rises k v es counts.in_order;
  })

-- how many are left, and how many are gone
pub count_left : (k : ℕ) (es old new : Table) (o : Option Waiting) → es ≡ old → o ≡ entry_at k es → new ≡ frees k es
    → length (askers_in new) + length (askers_or_none o) ≡ length (askers_in old)
count_left k es old new o same entry new_is =
    ap₂ (λ (t : Table) (w : Option Waiting). length (askers_in t) + length (askers_or_none w)) new_is entry ∙ count_freed k es ∙ ap (λ (t : Table). length (askers_in t)) same

length_one_more : (asker : Asker) (askers : List Asker) → length (askers ++ asker ∷ []) ≡ suc (length askers)
length_one_more asker [] = refl
length_one_more asker (a ∷ askers) = ap suc (length_one_more asker askers)

-- where there is room, one more is not too many
pub one_fits : (left all : ℕ) (w : Waiting) (asker : Asker) → left + length (askers_of w) ≡ all → nat_lt all 10000 ≡ true
    → left + length (askers_of (record w { others = w.others ++ asker ∷ [] })) < 2 ^ 64
one_fits left all w asker is room =
    let one = length_one_more asker w.others in
    let few = below all 10000 room in
    omega arith
  where
    below : (a b : ℕ) → nat_lt a b ≡ true → a < b
    below a b h = grind (arith, nat_tests)
