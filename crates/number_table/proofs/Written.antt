-- A table once a slot is written or added, and its first entry.
use Rattle.std.proofs.Common.{◌≡◌, ℕ, ◌+◌, ◌≤◌, true, false, cond, List, [], ◌∷◌, length, get_or, set, Option, Some, None, Equal, nat_cmp, is_eq, refl, sym, ap, subst, ◌∙◌, arith}
use Rattle.std.specs.Prelude.{is_some, slice_get, option_map}
use Rattle.std.specs.List.{insert}
use Rattle.std.proofs.lemmas.Bool.Decides.{nat_tests}
use Rattle.number_table.specs.Entries.{puts, frees, entry_at}
use Rattle.number_table.specs.Slots.{entries_in, Rising, HasKeyAt, IsGapFor, AreSlots, AreEmptyBefore}
use Rattle.number_table.specs.declared.slots.Slot.{Slot}
use Rattle.number_table.proofs.SlotTable.{count, entry_here, put_here, free_here, rising_set, count_set, put_in_gap, rising_insert, count_insert, no_more_entries, empty_less, empty_set, empty_taken, empty_insert}

equal : (a b : ℕ) → b ≡ a → nat_cmp a b ≡ Equal
equal a b same = grind (arith, nat_tests)

key_of : (k j : ℕ) → Some k ≡ Some j → k ≡ j
key_of k j e = cc

module _ {V : Type 0} where
  -- the slices that a search was lent are the slots
  pub here : (key at : ℕ) (lent ss : List (Slot V)) → lent ≡ ss → HasKeyAt key lent at → HasKeyAt key ss at
  here key at lent ss is = subst (λ (l : List (Slot V)). HasKeyAt key l at) is

  pub gap : (key at : ℕ) (lent ss : List (Slot V)) → lent ≡ ss → IsGapFor key lent at → IsGapFor key ss at
  gap key at lent ss is = subst (λ (l : List (Slot V)). IsGapFor key l at) is

  pub count_none : (o : Option V) → is_some o ≡ false → count o ≡ 0
  count_none None e = refl
  count_none (Some v) e = absurd (cc)

  pub count_some : (o : Option V) → is_some o ≡ true → count o ≡ 1
  count_some None e = absurd (cc)
  count_some (Some v) e = refl

  pub no_more : (len front : ℕ) (ss : List (Slot V)) → AreSlots len front ss → len ≤ length ss
  no_more len front ss are =
      let fewer = no_more_entries ss in
      let is = are.counted in
      omega arith

  module _ (len front key at : ℕ) (ss ss' : List (Slot V)) (o old : Option V) (are : AreSlots len front ss) (holds : HasKeyAt key ss at) (was : (d : Slot V) → (get_or ss at d).value ≡ old) (is : ss' ≡ set ss at (record { key = key; value = o })) where
    abbrev new : Slot V
    new = record { key = key; value = o }

    pub written_entry : old ≡ entry_at key (entries_in ss)
    written_entry = sym (entry_here 0 key ss at new are.rising holds.within (holds.same new) ∙ was new)

    pub written_rising : Rising 0 ss'
    written_rising = subst (Rising 0) (sym is) (rising_set 0 key o ss at new are.rising holds.within (holds.same new))

    pub written_count : length (entries_in ss') + count old ≡ len + count o
    written_count =
        let sum = count_set new ss at new holds.within in
        let before : count (get_or ss at new).value ≡ count old = ap count (was new) in
        let after : length (entries_in ss') ≡ length (entries_in (set ss at new)) = ap (λ (l : List (Slot V)). length (entries_in l)) is in
        let counted = are.counted in
        omega arith

    pub written : (n f : ℕ) → n + count old ≡ len + count o → f ≤ front → f ≤ at → AreSlots n f ss'
    written n f e le before = record {
      rising = written_rising;
      counted = let sum = written_count in omega arith;
      passed = subst (AreEmptyBefore f) (sym is) (empty_set f ss at new before (empty_less f front ss le are.passed));
    }

  pub written_fewer : (len front key at : ℕ) (ss ss' : List (Slot V)) (v : V) → AreSlots len front ss → HasKeyAt key ss at → ((d : Slot V) → (get_or ss at d).value ≡ Some v) → ss' ≡ set ss at (record { key = key; value = None }) → length (entries_in ss') + 1 ≡ len
  written_fewer len front key at ss ss' v are holds was is = let sum = written_count len front key at ss ss' None (Some v) are holds was is in omega arith

  pub written_puts : (len front key at : ℕ) (ss ss' : List (Slot V)) (v : V) → AreSlots len front ss → HasKeyAt key ss at → ss' ≡ set ss at (record { key = key; value = Some v }) → entries_in ss' ≡ puts key v (entries_in ss)
  written_puts len front key at ss ss' v are holds is =
      let d : Slot V = record { key = key; value = None } in
      ap entries_in is ∙ sym (put_here 0 key v ss at d are.rising holds.within (holds.same d))

  pub written_frees : (len front key at : ℕ) (ss ss' : List (Slot V)) → AreSlots len front ss → HasKeyAt key ss at → ss' ≡ set ss at (record { key = key; value = None }) → entries_in ss' ≡ frees key (entries_in ss)
  written_frees len front key at ss ss' are holds is =
      let d : Slot V = record { key = key; value = None } in
      ap entries_in is ∙ sym (free_here 0 key ss at d are.rising holds.within (holds.same d))

  pub emptied : (len front key at n : ℕ) (ss ss' : List (Slot V)) (old : Option V) → AreSlots len front ss → HasKeyAt key ss at → ((d : Slot V) → (get_or ss at d).value ≡ old) → ss' ≡ set ss at (record { key = key; value = None }) → n + count old ≡ len → AreSlots n front ss'
  emptied len front key at n ss ss' old are holds was is e = record {
    rising = written_rising len front key at ss ss' None old are holds was is;
    counted = let sum = written_count len front key at ss ss' None old are holds was is in omega arith;
    passed = subst (AreEmptyBefore front) (sym is) (empty_taken front ss at _ refl are.passed);
  }

  pub added : (len front key at f : ℕ) (ss ss' : List (Slot V)) (v : V) → AreSlots len front ss → IsGapFor key ss at → ss' ≡ insert ss at (record { key = key; value = Some v }) → f ≤ front → f ≤ at → AreSlots (len + 1) f ss'
  added len front key at f ss ss' v are free is le before =
      let slot : Slot V = record { key = key; value = Some v } in
      let sum = count_insert slot ss at in
      let counted = are.counted in
      subst (AreSlots (len + 1) f) (sym is) (record {
        rising = rising_insert 0 key (Some v) ss at (omega arith) are.rising free;
        counted = omega arith;
        passed = empty_insert f ss at slot before free.within (empty_less f front ss le are.passed);
      })

  pub added_puts : (len front key at : ℕ) (ss ss' : List (Slot V)) (v : V) → AreSlots len front ss → IsGapFor key ss at → ss' ≡ insert ss at (record { key = key; value = Some v }) → entries_in ss' ≡ puts key v (entries_in ss)
  added_puts len front key at ss ss' v are free is = ap entries_in is ∙ sym (put_in_gap 0 key v ss at are.rising free)

  -- ---- the first entry

  pub none_first : (es : List (ℕ × V)) → option_map (λ e. e.0) (slice_get es 0) ≡ None → es ≡ []
  none_first [] none = refl
  none_first (e ∷ es) none = absurd (cc)

  pub first_there : (key : ℕ) (es : List (ℕ × V)) → option_map (λ e. e.0) (slice_get es 0) ≡ Some key → entry_at key es ≡ None → ⊥
  first_there key [] is none = cc
  first_there key (e ∷ es) is none = no (sym (ap (λ r. cond (is_eq r) (Some e.1) (entry_at key es)) (equal key e.0 (key_of e.0 key is))) ∙ none)
    where
      no : Some e.1 ≡ None → ⊥
      no e = cc

  pub first_leaves : (key : ℕ) (value : V) (es : List (ℕ × V)) → option_map (λ e. e.0) (slice_get es 0) ≡ Some key → entry_at key es ≡ Some value → es ≡ (key, value) ∷ frees key es
  first_leaves key value [] is some = absurd (cc)
  first_leaves key value (e ∷ es) is some =
      let same : e.0 ≡ key = key_of e.0 key is in
      let at = equal key e.0 same in
      let held : Some e.1 ≡ Some value = sym (ap (λ r. cond (is_eq r) (Some e.1) (entry_at key es)) at) ∙ some in
      let left : cond (is_eq (nat_cmp key e.0)) es (e ∷ frees key es) ≡ es = ap (λ r. cond (is_eq r) es (e ∷ frees key es)) at in
      value_of e.0 e.1 es _ same held left
    where
      value_of : (k : ℕ) (v : V) (es fs : List (ℕ × V)) → k ≡ key → Some v ≡ Some value → fs ≡ es → (k, v) ∷ es ≡ (key, value) ∷ fs
      value_of k v es fs a b c = cc
