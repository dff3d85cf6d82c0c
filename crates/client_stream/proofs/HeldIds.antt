-- What a table of ids holds after each change.
use Rattle.std.proofs.Common.{◌≡◌, ℕ, zero, suc, ◌<◌, Bool, true, false, Option, Some, None, List, [], ◌∷◌, ◌++◌, length, get_or, set, refl, sym, ◌∙◌, ap, subst, arith, length-append, inl, inr, ◌⊎◌}
use Rattle.std.specs.Prelude.{if◌then◌else◌, ◌==◌, nat_lt}
use Rattle.std.specs.Option.{is_some}
use Rattle.std.specs.Ordering.{nat_cmp, is_eq}
use Rattle.std.specs.declared.cmp.Ordering.TheVariants.{Less, Equal, Greater}
use Rattle.std.proofs.lemmas.Bool.Decides.{nat_tests}
use Rattle.std.proofs.lemmas.List.{length-set, get_or_past}
use Rattle.client_request.specs.Numbered.{puts, frees, entry_at}
use Rattle.client_stream.specs.IdTable.{IdTable, no_ids, reuses, next_id, inserted, inserted_at, removed, held_from, full_front}
use Rattle.client_stream.proofs.IdTable.{table_of, at_slot, least, set_slot, free_slot, push_slot, front_free, some_held}

cmp_cases : (i j : ℕ) → ((i < j) × (nat_cmp i j ≡ Less)) ⊎ (((i ≡ j) × (nat_cmp i j ≡ Equal)) ⊎ ((j < i) × (nat_cmp i j ≡ Greater)))
cmp_cases i j = go (nat_lt i j) refl (i == j) refl
  where
    go : (a : Bool) → nat_lt i j ≡ a → (b : Bool) → (i == j) ≡ b → ((i < j) × (nat_cmp i j ≡ Less)) ⊎ (((i ≡ j) × (nat_cmp i j ≡ Equal)) ⊎ ((j < i) × (nat_cmp i j ≡ Greater)))
    go true e b f = inl (grind (arith, nat_tests), rw e refl)
    go false e true f = inr (inl (grind (arith, nat_tests), rw (e, f) refl))
    go false e false f = inr (inr (grind (arith, nat_tests), rw (e, f) refl))

at_same : (i j : ℕ) → i ≡ j → is_eq (nat_cmp i j) ≡ true
at_same i j h = grind (arith, nat_tests)

at_other : (i j : ℕ) → (i == j) ≡ false → is_eq (nat_cmp i j) ≡ false
at_other i j h = grind (arith, nat_tests)

at_test : (i j : ℕ) → is_eq (nat_cmp i j) ≡ (i == j)
at_test i j = grind (arith, nat_tests)

-- an item has the id
abbrev pub holds : {T : Type 0} → ℕ → IdTable T → Bool
holds id t = is_some (entry_at id t.held)

-- The table is one that slots stand for.
pub record IsTable {T : Type 0} (t : IdTable T) : Type 0 where
  pub slots : List (Option T)
  pub is : table_of slots ≡ t

module _ {T : Type 0} where
  pub put_entry : (id k : ℕ) (x : T) (es : List (ℕ × T)) → entry_at id (puts k x es) ≡ (if id == k then Some x else entry_at id es)
  put_entry id k x [] = rw (at_test id k) refl
  put_entry id k x (e ∷ es) = go (cmp_cases k e.0) (put_entry id k x es)
    where
      go : ((k < e.0) × (nat_cmp k e.0 ≡ Less)) ⊎ (((k ≡ e.0) × (nat_cmp k e.0 ≡ Equal)) ⊎ ((e.0 < k) × (nat_cmp k e.0 ≡ Greater)))
          → entry_at id (puts k x es) ≡ (if id == k then Some x else entry_at id es) → entry_at id (puts k x (e ∷ es)) ≡ (if id == k then Some x else entry_at id (e ∷ es))
      go (inl h) ih = rw (h.1, at_test id k) refl
      go (inr (inl h)) ih = test (id == k) refl
        where
          test : (b : Bool) → (id == k) ≡ b → entry_at id (puts k x (e ∷ es)) ≡ (if b then Some x else entry_at id (e ∷ es))
          test true t = let s : id ≡ e.0 = grind (arith, nat_tests) in rw (h.1, at_same id e.0 s) refl
          test false t = let o : (id == e.0) ≡ false = grind (arith, nat_tests) in rw (h.1, at_other id e.0 o) refl
      go (inr (inr h)) ih = test (id == e.0) refl
        where
          test : (b : Bool) → (id == e.0) ≡ b → entry_at id (puts k x (e ∷ es)) ≡ (if id == k then Some x else entry_at id (e ∷ es))
          test true t =
              let s : id ≡ e.0 = grind (arith, nat_tests) in
              let o : (id == k) ≡ false = grind (arith, nat_tests) in
              rw (h.1, at_same id e.0 s, o) refl
          test false t = rw (h.1, at_other id e.0 t) ih

  pub freed_entry : (id k : ℕ) (es : List (ℕ × T)) → (id == k) ≡ false → entry_at id (frees k es) ≡ entry_at id es
  freed_entry id k [] h = refl
  freed_entry id k (e ∷ es) h = go (k == e.0) refl (freed_entry id k es h)
    where
      go : (b : Bool) → (k == e.0) ≡ b → entry_at id (frees k es) ≡ entry_at id es → entry_at id (frees k (e ∷ es)) ≡ entry_at id (e ∷ es)
      go true t ih =
          let s : k ≡ e.0 = grind (arith, nat_tests) in
          let o : (id == e.0) ≡ false = grind (arith, nat_tests) in
          rw (at_same k e.0 s, at_other id e.0 o) refl
      go false t ih = rw (at_other k e.0 t) (ap (λ o. if is_eq (nat_cmp id e.0) then Some e.1 else o) ih)

  set_none : (k : ℕ) (s : List (Option T)) → get_or (set s k None) k None ≡ None
  set_none k [] = refl
  set_none zero (x ∷ s) = refl
  set_none (suc k) (x ∷ s) = set_none k s

  pub freed_same : (k : ℕ) (t : IdTable T) → IsTable t → entry_at k (removed k t).held ≡ None
  freed_same k t table = subst (λ t. entry_at k (removed k t).held ≡ None) table.is
      (ap (entry_at k) (sym (free_slot k table.slots)) ∙ at_slot k (set table.slots k None) ∙ set_none k table.slots)

  -- an id that is held stays held when another item gets an id
  pub still_held : (id : ℕ) (x : T) (t : IdTable T) → holds id t ≡ true → holds id (inserted x t) ≡ true
  still_held id x t h = ap is_some (put_entry id (next_id t) x t.held) ∙ go (id == next_id t)
    where
      go : (b : Bool) → is_some (if b then Some x else entry_at id t.held) ≡ true
      go true = refl
      go false = h

  pub now_held : (x : T) (t : IdTable T) → holds (next_id t) (inserted x t) ≡ true
  now_held x t =
      let same : (next_id t == next_id t) ≡ true = grind (arith, nat_tests) in
      ap is_some (put_entry (next_id t) (next_id t) x t.held) ∙ ap (λ b. is_some (if b then Some x else entry_at (next_id t) t.held)) same

  pub held_apart : (id k : ℕ) (t : IdTable T) → (id == k) ≡ false → holds id (removed k t) ≡ holds id t
  held_apart id k t h = ap is_some (freed_entry id k t.held h)

  pub held_over : (id k : ℕ) (x : T) (t : IdTable T) → holds id t ≡ true → holds id (inserted_at k x (removed k t)) ≡ true
  held_over id k x t h = ap is_some (put_entry id k x (frees k t.held)) ∙ go (id == k) refl
    where
      go : (b : Bool) → (id == k) ≡ b → is_some (if b then Some x else entry_at id (frees k t.held)) ≡ true
      go true e = refl
      go false e = ap is_some (freed_entry id k t.held e) ∙ h

  -- The id that comes next is held by none.
  pub next_free : (t : IdTable T) → IsTable t → holds (next_id t) t ≡ false
  next_free t table = subst (λ t. holds (next_id t) t ≡ false) table.is (go (reuses (table_of table.slots)) refl)
    where
      s : List (Option T)
      s = table.slots

      go : (b : Bool) → reuses (table_of table.slots) ≡ b → holds (next_id (table_of table.slots)) (table_of table.slots) ≡ false
      go true e =
          let id : next_id (table_of table.slots) ≡ full_front table.slots = rw e (least table.slots) in
          ap (λ id. holds id (table_of table.slots)) id ∙ ap is_some (at_slot (full_front table.slots) table.slots ∙ front_free table.slots)
      go false e =
          let id : next_id (table_of table.slots) ≡ length table.slots = rw e refl in
          ap (λ id. holds id (table_of table.slots)) id ∙ ap is_some (at_slot (length table.slots) table.slots ∙ get_or_past table.slots (length table.slots) None (omega arith))

  same_table : (h h' : List (ℕ × T)) (m m' : ℕ) → h ≡ h' → m ≡ m' → let t : IdTable T = record { held = h; mark = m } in let t' : IdTable T = record { held = h'; mark = m' } in t ≡ t'
  same_table h h' m m' e f = rw (e, f) refl

  pub table_new : IsTable (no_ids {T = T})
  table_new = record { slots = []; is = refl }

  pub table_inserted : (x : T) (t : IdTable T) → IsTable t → IsTable (inserted x t)
  table_inserted x t table = subst (λ t. IsTable (inserted x t)) table.is (go (reuses (table_of table.slots)) refl)
    where
      go : (b : Bool) → reuses (table_of table.slots) ≡ b → IsTable (inserted x (table_of table.slots))
      go true e =
          let l = least table.slots in
          let below : full_front table.slots < length table.slots = grind (arith, nat_tests) in
          record {
            slots = set table.slots (full_front table.slots) (Some x);
            is = same_table _ _ _ _ (set_slot (full_front table.slots) x table.slots below ∙ ap (λ id. puts id x (held_from 0 table.slots)) (sym (rw e l))) (length-set table.slots (full_front table.slots) (Some x) ∙ rw e refl);
          }
      go false e = record {
        slots = table.slots ++ Some x ∷ [];
        is = same_table _ _ _ _ (push_slot x table.slots ∙ ap (λ id. puts id x (held_from 0 table.slots)) (sym (rw e refl))) (length-append table.slots (Some x ∷ []) ∙ rw e refl);
      }

  pub table_removed : (k : ℕ) (t : IdTable T) → IsTable t → IsTable (removed k t)
  table_removed k t table = subst (λ t. IsTable (removed k t)) table.is record {
    slots = set table.slots k None;
    is = same_table _ _ _ _ (free_slot k table.slots) (length-set table.slots k None);
  }

  pub table_over : (k : ℕ) (x y : T) (t : IdTable T) → IsTable t → entry_at k t.held ≡ Some y → IsTable (inserted_at k x (removed k t))
  table_over k x y t table e =
      subst (λ t. entry_at k t.held ≡ Some y → IsTable (inserted_at k x (removed k t))) table.is (λ e.
      (let below : k < length table.slots = (some_held k y table.slots (sym (at_slot k table.slots) ∙ e)).1 in
      let l = length-set table.slots k None in
      record {
        slots = set (set table.slots k None) k (Some x);
        is = same_table _ _ _ _ (set_slot k x (set table.slots k None) (omega arith) ∙ ap (puts k x) (free_slot k table.slots)) (length-set (set table.slots k None) k (Some x) ∙ l);
      })) e
