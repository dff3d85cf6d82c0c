-- What a change of one slot does to the table that the slots stand for.
use Rattle.std.proofs.Common.{◌≡◌, ℕ, zero, suc, ◌+◌, ◌-◌, ◌*◌, ◌<◌, ◌≤◌, Bool, true, false, Option, Some, None, List, [], ◌∷◌, ◌++◌, length, get_or, set, map, refl, sym, ◌∙◌, ap, subst, arith, add-zero, length-append, min}
use Rattle.std.specs.Prelude.{if◌then◌else◌, ◌==◌}
use Rattle.std.specs.Ordering.{nat_cmp}
use Rattle.std.specs.declared.cmp.Ordering.TheVariants.{Less, Equal, Greater}
use Rattle.std.proofs.lemmas.Bool.Decides.{nat_tests}
use Rattle.client_request.specs.Numbered.{puts, frees, entry_at}
use Rattle.std.proofs.lemmas.List.{length-set}
use Rattle.std.proofs.lemmas.Option.{slice_get-get_or}
use Rattle.client_stream.specs.IdTable.{IdTable, AreSlotsOf, free_from, least_free, reuses, inserted_at, removed, held_from, full_front}

less : (i j : ℕ) → i < j → nat_cmp i j ≡ Less
less i j h = grind (arith, nat_tests)

equal : (i j : ℕ) → i ≡ j → nat_cmp i j ≡ Equal
equal i j h = grind (arith, nat_tests)

greater : (i j : ℕ) → j < i → nat_cmp i j ≡ Greater
greater i j h = grind (arith, nat_tests)

not_reused : (b : Bool) (x : ℕ) → None ≡ (if b then Some x else None) → b ≡ false
not_reused false x e = refl
not_reused true x e = absurd (cc)

module _ {T : Type 0} where
  -- What comes before all ids is put in front, and is none of them.
  puts_in_front : (i j : ℕ) (x : T) (s : List (Option T)) → i < j → puts i x (held_from j s) ≡ (i, x) ∷ held_from j s
  puts_in_front i j x [] h = refl
  puts_in_front i j x (None ∷ s) h = puts_in_front i (j + 1) x s (omega arith)
  puts_in_front i j x (Some y ∷ s) h = rw (less i j h) refl

  frees_nothing : (i j : ℕ) (s : List (Option T)) → i < j → frees i (held_from j s) ≡ held_from j s
  frees_nothing i j [] h = refl
  frees_nothing i j (None ∷ s) h = frees_nothing i (j + 1) s (omega arith)
  frees_nothing i j (Some y ∷ s) h =
      let ih : frees i (held_from (j + 1) s) ≡ held_from (j + 1) s = frees_nothing i (j + 1) s (omega arith) in
      rw (less i j h, ih) refl

  none_there : (i j : ℕ) (s : List (Option T)) → i < j → entry_at i (held_from j s) ≡ None
  none_there i j [] h = refl
  none_there i j (None ∷ s) h = none_there i (j + 1) s (omega arith)
  none_there i j (Some y ∷ s) h = rw (less i j h) (none_there i (j + 1) s (omega arith))

  -- the item of a slot
  entry_from : (i j k : ℕ) (s : List (Option T)) → j ≡ i + k → entry_at j (held_from i s) ≡ get_or s k None
  entry_from i j k [] h = refl
  entry_from i j zero (None ∷ s) h = none_there j (i + 1) s (omega arith)
  entry_from i j zero (Some y ∷ s) h = rw (equal j i (omega arith)) refl
  entry_from i j (suc k) (None ∷ s) h = entry_from (i + 1) j k s (omega arith)
  entry_from i j (suc k) (Some y ∷ s) h = rw (greater j i (omega arith)) (entry_from (i + 1) j k s (omega arith))

  set_from : (i k : ℕ) (x : T) (s : List (Option T)) → k < length s → held_from i (set s k (Some x)) ≡ puts (i + k) x (held_from i s)
  set_from i k x [] h = absurd (omega arith)
  set_from i zero x (None ∷ s) h = rw (add-zero i) (sym (puts_in_front i (i + 1) x s (omega arith)))
  set_from i zero x (Some y ∷ s) h = rw (equal (i + 0) i (omega arith)) refl
  set_from i (suc k) x (None ∷ s) h =
      let e : i + suc k ≡ i + 1 + k = omega arith in
      rw e (set_from (i + 1) k x s (omega arith))
  set_from i (suc k) x (Some y ∷ s) h =
      let e : i + suc k ≡ i + 1 + k = omega arith in
      rw (e, greater (i + 1 + k) i (omega arith)) (ap (λ es. (i, y) ∷ es) (set_from (i + 1) k x s (omega arith)))

  freed_from : (i j k : ℕ) (s : List (Option T)) → j ≡ i + k → held_from i (set s k None) ≡ frees j (held_from i s)
  freed_from i j k [] h = refl
  freed_from i j zero (None ∷ s) h = sym (frees_nothing j (i + 1) s (omega arith))
  freed_from i j zero (Some y ∷ s) h = rw (equal j i (omega arith)) refl
  freed_from i j (suc k) (None ∷ s) h = freed_from (i + 1) j k s (omega arith)
  freed_from i j (suc k) (Some y ∷ s) h = rw (greater j i (omega arith)) (ap (λ es. (i, y) ∷ es) (freed_from (i + 1) j k s (omega arith)))

  pushed_from : (i : ℕ) (x : T) (s : List (Option T)) → held_from i (s ++ Some x ∷ []) ≡ puts (i + length s) x (held_from i s)
  pushed_from i x [] = rw (add-zero i) refl
  pushed_from i x (None ∷ s) =
      let e : i + suc (length s) ≡ i + 1 + length s = omega arith in
      rw e (pushed_from (i + 1) x s)
  pushed_from i x (Some y ∷ s) =
      let e : i + suc (length s) ≡ i + 1 + length s = omega arith in
      rw (e, greater (i + 1 + length s) i (omega arith)) (ap (λ es. (i, y) ∷ es) (pushed_from (i + 1) x s))

  -- how many are held
  set_length : (i k : ℕ) (x : T) (s : List (Option T)) → k < length s → get_or s k None ≡ None → length (held_from i (set s k (Some x))) ≡ length (held_from i s) + 1
  set_length i k x [] h e = absurd (omega arith)
  set_length i zero x (None ∷ s) h e = omega arith
  set_length i zero x (Some y ∷ s) h e = absurd (cc)
  set_length i (suc k) x (None ∷ s) h e = set_length (i + 1) k x s (omega arith) e
  set_length i (suc k) x (Some y ∷ s) h e = let ih = set_length (i + 1) k x s (omega arith) e in omega arith

  freed_length : (i k : ℕ) (x : T) (s : List (Option T)) → get_or s k None ≡ Some x → length (held_from i (set s k None)) + 1 ≡ length (held_from i s)
  freed_length i k x [] e = absurd (cc)
  freed_length i zero x (None ∷ s) e = absurd (cc)
  freed_length i zero x (Some y ∷ s) e = omega arith
  freed_length i (suc k) x (None ∷ s) e = freed_length (i + 1) k x s e
  freed_length i (suc k) x (Some y ∷ s) e = let ih = freed_length (i + 1) k x s e in omega arith

  pushed_length : (i : ℕ) (x : T) (s : List (Option T)) → length (held_from i (s ++ Some x ∷ [])) ≡ length (held_from i s) + 1
  pushed_length i x [] = refl
  pushed_length i x (None ∷ s) = pushed_length (i + 1) x s
  pushed_length i x (Some y ∷ s) = let ih = pushed_length (i + 1) x s in omega arith

  pub held_within : (i : ℕ) (s : List (Option T)) → length (held_from i s) ≤ length s
  held_within i [] = omega arith
  held_within i (None ∷ s) = let ih = held_within (i + 1) s in omega arith
  held_within i (Some y ∷ s) = let ih = held_within (i + 1) s in omega arith

  -- the first free slot
  not_free : (i j : ℕ) (s : List (Option T)) → i < j → free_from i (held_from j s) ≡ i
  not_free i j [] h = refl
  not_free i j (None ∷ s) h = not_free i (j + 1) s (omega arith)
  not_free i j (Some y ∷ s) h = let e : (j == i) ≡ false = grind (arith, nat_tests) in rw e refl

  least_from : (i : ℕ) (s : List (Option T)) → free_from i (held_from i s) ≡ i + full_front s
  least_from i [] = sym (add-zero i)
  least_from i (None ∷ s) = not_free i (i + 1) s (omega arith) ∙ sym (add-zero i)
  least_from i (Some y ∷ s) =
      let e : (i == i) ≡ true = grind (arith, nat_tests) in
      let ih = least_from (i + 1) s in
      rw e (ih ∙ (omega arith))

  pub front_within : (s : List (Option T)) → full_front s ≤ length s
  front_within [] = omega arith
  front_within (None ∷ s) = omega arith
  front_within (Some y ∷ s) = let ih = front_within s in omega arith

  -- the slot behind the full ones is free, where there is one
  pub front_free : (s : List (Option T)) → get_or s (full_front s) None ≡ None
  front_free [] = refl
  front_free (None ∷ s) = refl
  front_free (Some y ∷ s) = let e : full_front s + 1 ≡ suc (full_front s) = omega arith in rw e (front_free s)

  -- A slot that is free ends the full ones, and one that is full does not.
  pub front_ends : (k : ℕ) (s : List (Option T)) → k ≤ full_front s → get_or s k None ≡ None → k ≡ full_front s
  front_ends k [] h e = omega arith
  front_ends zero (None ∷ s) h e = refl
  front_ends (suc k) (None ∷ s) h e = absurd (omega arith)
  front_ends zero (Some y ∷ s) h e = absurd (cc)
  front_ends (suc k) (Some y ∷ s) h e = let ih = front_ends k s (omega arith) e in omega arith

  pub front_more : (k : ℕ) (x : T) (s : List (Option T)) → k ≤ full_front s → get_or s k None ≡ Some x → k + 1 ≤ full_front s
  front_more k x [] h e = absurd (cc)
  front_more zero x (None ∷ s) h e = absurd (cc)
  front_more (suc k) x (None ∷ s) h e = absurd (omega arith)
  front_more zero x (Some y ∷ s) h e = omega arith
  front_more (suc k) x (Some y ∷ s) h e = let ih = front_more k x s (omega arith) e in omega arith

  set_front : (m k : ℕ) (x : T) (s : List (Option T)) → m ≤ full_front s → m ≤ full_front (set s k (Some x))
  set_front m k x [] h = h
  set_front m zero x (None ∷ s) h = omega arith
  set_front m zero x (Some y ∷ s) h = h
  set_front m (suc k) x (None ∷ s) h = h
  set_front m (suc k) x (Some y ∷ s) h = let ih = set_front (m - 1) k x s (omega arith) in omega arith

  filled_front : (x : T) (s : List (Option T)) → full_front s < length s → full_front s + 1 ≤ full_front (set s (full_front s) (Some x))
  filled_front x [] h = absurd (omega arith)
  filled_front x (None ∷ s) h = omega arith
  filled_front x (Some y ∷ s) h =
      let e : full_front s + 1 ≡ suc (full_front s) = omega arith in
      let ih = filled_front x s (omega arith) in
      rw e (omega arith)

  freed_front : (m k : ℕ) (s : List (Option T)) → m ≤ full_front s → m ≤ k → m ≤ full_front (set s k None)
  freed_front m k [] h q = h
  freed_front m zero (None ∷ s) h q = omega arith
  freed_front m zero (Some y ∷ s) h q = omega arith
  freed_front m (suc k) (None ∷ s) h q = h
  freed_front m (suc k) (Some y ∷ s) h q = let ih = freed_front (m - 1) k s (omega arith) (omega arith) in omega arith

  pushed_front : (m : ℕ) (x : T) (s : List (Option T)) → m ≤ full_front s → m ≤ full_front (s ++ Some x ∷ [])
  pushed_front m x [] h = omega arith
  pushed_front m x (None ∷ s) h = h
  pushed_front m x (Some y ∷ s) h = let ih = pushed_front (m - 1) x s (omega arith) in omega arith

  pub slots_are : (t : IdTable T) (s : List (Option T)) → record { held = held_from 0 s; mark = length s } ≡ t → AreSlotsOf t s
  slots_are t s e = subst (λ t. AreSlotsOf t s) e (record {
    places = refl;
    held = λ id h. slice_get-get_or s id None h ∙ ap (λ x. Some x) (sym (entry_from 0 id id s (omega arith)));
  })

  pub at_slot : (k : ℕ) (s : List (Option T)) → entry_at k (held_from 0 s) ≡ get_or s k None
  at_slot k s = entry_from 0 k k s (omega arith)

  pub least : (s : List (Option T)) → free_from 0 (held_from 0 s) ≡ full_front s
  least s = least_from 0 s ∙ (omega arith)

  pub set_slot : (k : ℕ) (x : T) (s : List (Option T)) → k < length s → held_from 0 (set s k (Some x)) ≡ puts k x (held_from 0 s)
  set_slot k x s h = set_from 0 k x s h ∙ ap (λ j. puts j x (held_from 0 s)) (omega arith)

  pub free_slot : (k : ℕ) (s : List (Option T)) → held_from 0 (set s k None) ≡ frees k (held_from 0 s)
  free_slot k s = freed_from 0 k k s (omega arith)

  pub push_slot : (x : T) (s : List (Option T)) → held_from 0 (s ++ Some x ∷ []) ≡ puts (length s) x (held_from 0 s)
  push_slot x s = pushed_from 0 x s ∙ ap (λ j. puts j x (held_from 0 s)) (omega arith)

  pub all_full : (i : ℕ) (s : List (Option T)) → full_front s ≡ length s → length (held_from i s) ≡ length s
  all_full i [] e = refl
  all_full i (None ∷ s) e = absurd (omega arith)
  all_full i (Some y ∷ s) e = let ih = all_full (i + 1) s (omega arith) in omega arith

  -- What a table keeps of its slots: how many are held, and that none of the first ones is free.
  abbrev pub IsKept : ℕ → ℕ → List (Option T) → Type 0
  IsKept held full s = (held ≡ length (held_from 0 s)) × (full ≤ full_front s) × (held ≤ 32768) × (length s ≤ 65536)

  pub kept_set : (held full k : ℕ) (x : T) (s : List (Option T)) → IsKept held full s → k < length s → get_or s k None ≡ None → held < 32768 → IsKept (held + 1) full (set s k (Some x))
  kept_set held full k x s kept h e room =
      let n = set_length 0 k x s h e in
      let f = set_front full k x s kept.1 in
      let l = length-set s k (Some x) in
      let a = kept.0 in
      let d = kept.3 in
      (omega arith, f, omega arith, omega arith)

  pub kept_fill : (held full k : ℕ) (x : T) (s : List (Option T)) → IsKept held full s → k ≡ full_front s → k < length s → held < 32768 → IsKept (held + 1) (k + 1) (set s k (Some x))
  kept_fill held full k x s kept is h room =
      let e : get_or s k None ≡ None = ap (λ k. get_or s k None) is ∙ front_free s in
      let k' = kept_set held full k x s kept h e room in
      let f : full_front s + 1 ≤ full_front (set s (full_front s) (Some x)) = filled_front x s (omega arith) in
      let f' : k + 1 ≤ full_front (set s k (Some x)) = subst (λ k. k + 1 ≤ full_front (set s k (Some x))) (sym is) f in
      (k'.0, f', k'.2, k'.3)

  pub kept_push : (held full : ℕ) (x : T) (s : List (Option T)) → IsKept held full s → held < 32768 → length s < 65536 → IsKept (held + 1) full (s ++ Some x ∷ [])
  kept_push held full x s kept room short =
      let n = pushed_length 0 x s in
      let f = pushed_front full x s kept.1 in
      let l = length-append s (Some x ∷ []) in
      let a = kept.0 in
      (omega arith, f, omega arith, omega arith)

  pub kept_free : (held full k : ℕ) (x : T) (s : List (Option T)) → IsKept held full s → get_or s k None ≡ Some x → IsKept (held - 1) (min full k) (set s k None)
  kept_free held full k x s kept e =
      let n = freed_length 0 k x s e in
      let f = freed_front (min full k) k s (let b = kept.1 in omega arith) (omega arith) in
      let l = length-set s k None in
      let a = kept.0 in
      let c = kept.2 in
      let d = kept.3 in
      (omega arith, f, omega arith, omega arith)

  pub some_held : (k : ℕ) (x : T) (s : List (Option T)) → get_or s k None ≡ Some x → (1 ≤ length (held_from 0 s)) × (k < length s)
  some_held k x [] e = absurd (cc)
  some_held zero x (None ∷ s) e = absurd (cc)
  some_held zero x (Some y ∷ s) e = (omega arith, omega arith)
  some_held (suc k) x (y ∷ s) e = (let n = freed_length 0 (suc k) x (y ∷ s) e in omega arith, let ih = some_held k x s e in let b = ih.1 in omega arith)

  -- the table that slots stand for
  abbrev pub table_of : List (Option T) → IdTable T
  table_of s = record { held = held_from 0 s; mark = length s }

  pub reuse_some : (held id : ℕ) (s : List (Option T)) (t : IdTable T) → table_of s ≡ t → held ≡ length (held_from 0 s) → 2 * held ≤ length s → id ≡ full_front s → id < length s
      → Some id ≡ (if reuses t then Some (least_free t) else None)
  reuse_some held id s t e count half is below = subst (λ t. Some id ≡ (if reuses t then Some (least_free t) else None)) e
      (let l : free_from 0 (held_from 0 s) ≡ full_front s = least s in
      let r : reuses (table_of s) ≡ true = grind (arith, nat_tests) in
      rw (r, l, is) refl)

  pub reuse_few : (held : ℕ) (s : List (Option T)) (t : IdTable T) → table_of s ≡ t → held ≡ length (held_from 0 s) → length s < 2 * held → None ≡ (if reuses t then Some (least_free t) else None)
  reuse_few held s t e count half = subst (λ t. None ≡ (if reuses t then Some (least_free t) else None)) e
      (let r : reuses (table_of s) ≡ false = grind (arith, nat_tests) in
      rw r refl)

  pub reuse_none : (id : ℕ) (s : List (Option T)) (t : IdTable T) → table_of s ≡ t → id ≡ full_front s → length s ≤ id → None ≡ (if reuses t then Some (least_free t) else None)
  reuse_none id s t e is past = subst (λ t. None ≡ (if reuses t then Some (least_free t) else None)) e
      (let l : free_from 0 (held_from 0 s) ≡ full_front s = least s in
      let r : reuses (table_of s) ≡ false = grind (arith, nat_tests) in
      rw r refl)

  pub short_mark : (held full : ℕ) (s : List (Option T)) (t : IdTable T) → table_of s ≡ t → IsKept held full s → held < 32768 → None ≡ (if reuses t then Some (least_free t) else None) → t.mark < 65536
  short_mark held full s t e kept room none = subst (λ t. t.mark < 65536) e
      (let r : reuses (table_of s) ≡ false = not_reused (reuses (table_of s)) (least_free (table_of s)) (subst (λ t. None ≡ (if reuses t then Some (least_free t) else None)) (sym e) none) in
      let l : free_from 0 (held_from 0 s) ≡ full_front s = least s in
      let w = front_within s in
      let f = all_full 0 s in
      let a = kept.0 in
      (grind (arith, nat_tests)))

  pub view_set : (id : ℕ) (x : T) (s s' : List (Option T)) (t : IdTable T) → table_of s ≡ t → s' ≡ set s id (Some x) → id < length s → table_of s' ≡ inserted_at id x t
  view_set id x s s' t e is h = subst (λ t. table_of s' ≡ inserted_at id x t) e (subst (λ s'. table_of s' ≡ inserted_at id x (table_of s)) (sym is)
      (rw (set_slot id x s h, length-set s id (Some x)) refl))

  pub view_freed : (id : ℕ) (s s' : List (Option T)) (t : IdTable T) → table_of s ≡ t → s' ≡ set s id None → table_of s' ≡ removed id t
  view_freed id s s' t e is = subst (λ t. table_of s' ≡ removed id t) e (subst (λ s'. table_of s' ≡ removed id (table_of s)) (sym is)
      (rw (free_slot id s, length-set s id None) refl))

  pub entry_is : (id : ℕ) (s : List (Option T)) (t : IdTable T) → table_of s ≡ t → get_or s id None ≡ entry_at id t.held
  entry_is id s t e = subst (λ t. get_or s id None ≡ entry_at id t.held) e (sym (at_slot id s))

  pub none_now : (id : ℕ) (s : List (Option T)) → entry_at id (held_from 0 (set s id None)) ≡ None
  none_now id s = at_slot id (set s id None) ∙ read id s
    where
      read : (id : ℕ) (s : List (Option T)) → get_or (set s id None) id None ≡ None
      read id [] = refl
      read zero (y ∷ s) = refl
      read (suc id) (y ∷ s) = read id s

  pub last_free : (i : ℕ) (a : List (Option T)) → held_from i (a ++ None ∷ []) ≡ held_from i a
  last_free i [] = refl
  last_free i (None ∷ a) = last_free (i + 1) a
  last_free i (Some y ∷ a) = ap (λ es. (i, y) ∷ es) (last_free (i + 1) a)

  pub last_held : (i : ℕ) (x : T) (a : List (Option T)) → map (λ entry. entry.1) (held_from i (a ++ Some x ∷ [])) ≡ map (λ entry. entry.1) (held_from i a) ++ x ∷ []
  last_held i x [] = refl
  last_held i x (None ∷ a) = last_held (i + 1) x a
  last_held i x (Some y ∷ a) = ap (λ es. y ∷ es) (last_held (i + 1) x a)

  pub one_more : (x : T) (a : List (Option T)) → length (held_from 0 (a ++ Some x ∷ [])) ≡ length (held_from 0 a) + 1
  one_more x a = pushed_length 0 x a
