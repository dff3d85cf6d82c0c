-- The ids of a connection: how many are held, and that the next one is free and has 16 bits.
use Rattle.std.proofs.Common.{◌≡◌, ℕ, zero, suc, ◌+◌, ◌*◌, ◌≤◌, ◌<◌, Bool, true, false, Some, None, List, [], ◌∷◌, length, refl, sym, ◌∙◌, ap, subst, arith, le_refl, cond, is_eq, nat_cmp}
use Rattle.std.specs.Prelude.{if◌then◌else◌, nat_le, nat_lt, ◌&&◌, ◌==◌, is_some}
use Rattle.std.proofs.lemmas.Bool.Decides.{nat_tests}
use Rattle.client_request.specs.Numbered.{puts, entry_at}
use Rattle.client_stream.specs.IdTable.{IdTable, free_from, least_free, reuses, next_id, inserted}
use Rattle.right_trace.specs.Time.{count_below}
use Rattle.proof_right.proofs.server.Counts.{count_change}
use Rattle.proof_parts.specs.Lines.{Sorted, IsInOrder}
use Rattle.proof_parts.proofs.Tables.{absent_below, absent_above, sorted_puts, rises_below}

none_counts : (f : ℕ → Bool) (n : ℕ) → ((q : ℕ) → f q ≡ false) → count_below f n ≡ 0
none_counts f zero none = refl
none_counts f (suc n) none = let i = none_counts f n none in let e = none n in grind arith

next_mark : (n m x l : ℕ) → (nat_le (2 * l) m && nat_lt x m) ≡ false → x ≤ 0 + l → l < 32768 → m + 1 < 65536
next_mark n m x l h le lt = grind (arith, nat_tests)

module _ {A : Type 0} where
  here_entry : (k : ℕ) (v : A) (es : List (ℕ × A)) → is_some (entry_at k ((k, v) ∷ es)) ≡ true
  here_entry k v es = by (is_eq (nat_cmp k k)) (same k)
    where
      same : (k : ℕ) → is_eq (nat_cmp k k) ≡ true
      same k = grind (arith, nat_tests)

      by : (b : Bool) → b ≡ true → is_some (cond b (Some v) (entry_at k es)) ≡ true
      by true e = refl
      by false e = absurd (cc)

  there_entry : (k q : ℕ) (v : A) (es : List (ℕ × A)) → (q ≡ k → ⊥) → entry_at q ((k, v) ∷ es) ≡ entry_at q es
  there_entry k q v es ne = by (is_eq (nat_cmp q k)) (other q k ne)
    where
      other : (q k : ℕ) → (q ≡ k → ⊥) → is_eq (nat_cmp q k) ≡ false
      other q k ne = grind (arith, nat_tests)

      by : (b : Bool) → b ≡ false → cond b (Some v) (entry_at q es) ≡ entry_at q es
      by true e = absurd (cc)
      by false e = refl

  -- as many numbers have an entry as there are entries
  pub entries_count : (lo n : ℕ) (es : List (ℕ × A)) → Sorted lo n es → count_below (λ id. is_some (entry_at id es)) n ≡ length es
  entries_count lo n [] r = none_counts (λ id. false) n (λ q. refl)
  entries_count lo n (e ∷ es) r =
      let f : ℕ → Bool = λ id. is_some (entry_at id es) in
      let g : ℕ → Bool = λ id. is_some (entry_at id (e ∷ es)) in
      let change = count_change f g n e.0 r.1 (λ q ne. sym (ap is_some (there_entry e.0 q e.1 es ne))) in
      let i = entries_count (suc e.0) n es r.2 in
      let was : f e.0 ≡ false = ap is_some (absent_below (suc e.0) n e.0 es (le_refl (suc e.0)) r.2) in
      let now : g e.0 ≡ true = here_entry e.0 e.1 es in
      grind arith

  -- The least number that is free is not above how many are held.
  least_low : (id : ℕ) (es : List (ℕ × A)) → free_from id es ≤ id + length es
  least_low id [] = omega arith
  least_low id (e ∷ es) = by (e.0 == id) (least_low (id + 1) es)
    where
      by : (b : Bool) → free_from (id + 1) es ≤ id + 1 + length es → (if b then free_from (id + 1) es else id) ≤ id + suc (length es)
      by true ih = omega arith
      by false ih = omega arith

  free_at : (id hi : ℕ) (es : List (ℕ × A)) → Sorted id hi es → entry_at (free_from id es) es ≡ None
  free_at id hi [] r = refl
  free_at id hi (e ∷ es) r = by (e.0 == id) refl (free_at (id + 1) hi es)
    where
      same : (x i : ℕ) → (x == i) ≡ true → x ≡ i
      same x i h = grind (arith, nat_tests)

      other : (x i : ℕ) → (x == i) ≡ false → i ≤ x → i < x
      other x i h le = grind (arith, nat_tests)

      from : (i : ℕ) (es : List (ℕ × A)) → i ≤ free_from i es
      from i [] = le_refl i
      from i (e ∷ es) = go (e.0 == i) (from (i + 1) es)
        where
          go : (b : Bool) → i + 1 ≤ free_from (i + 1) es → i ≤ (if b then free_from (i + 1) es else i)
          go true ih = omega arith
          go false ih = le_refl i

      by : (b : Bool) → (e.0 == id) ≡ b → (Sorted (id + 1) hi es → entry_at (free_from (id + 1) es) es ≡ None) → entry_at (if b then free_from (id + 1) es else id) (e ∷ es) ≡ None
      by true h ih =
          let s : e.0 ≡ id = same e.0 id h in
          let f = from (id + 1) es in
          there_entry e.0 (free_from (id + 1) es) e.1 es (λ q. absurd (omega arith))
          ∙ ih (subst (λ x. Sorted x hi es) (one_on e.0 id s) r.2)
        where
          one_on : (x i : ℕ) → x ≡ i → suc x ≡ i + 1
          one_on x i e = omega arith
      by false h ih = let lt = other e.0 id h r.0 in absent_below (suc id) hi id (e ∷ es) (over id) (lt, r.1, r.2)
        where
          over : (x : ℕ) → x < suc x
          over x = omega arith

  -- the next id is free, and below the mark that comes
  reused : (t : IdTable A) → IsInOrder t → reuses t ≡ true → (entry_at (least_free t) t.held ≡ None) × (least_free t < t.mark)
  reused t o h = (free_at 0 t.mark t.held o.sorted, below (nat_le (2 * length t.held) t.mark) (least_free t) t.mark h)
    where
      below : (b : Bool) (x m : ℕ) → (b && nat_lt x m) ≡ true → x < m
      below true x m h = grind (arith, nat_tests)
      below false x m h = absurd (cc)

  pub record IsFreeNext (x : A) (t : IdTable A) : Type 0 where
    pub free : entry_at (next_id t) t.held ≡ None
    pub small : next_id t < 65536
    pub order : IsInOrder (inserted x t)

  pub next_is_free : (x : A) (t : IdTable A) → IsInOrder t → length t.held < 32768 → IsFreeNext x t
  next_is_free x t o few = by (reuses t) refl
    where
      zero_le : (n : ℕ) → 0 ≤ n
      zero_le n = omega arith

      through : (a b c : ℕ) → a < b → b < c → a < c
      through a b c p q = omega arith

      last : (m : ℕ) → m < m + 1
      last m = omega arith

      up : (m : ℕ) → m ≤ m + 1
      up m = omega arith

      by : (b : Bool) → reuses t ≡ b → IsFreeNext x t
      by true h =
          let is : next_id t ≡ least_free t = ap (λ b. if b then least_free t else t.mark) h in
          let mark : (if reuses t then t.mark else t.mark + 1) ≡ t.mark = ap (λ b. if b then t.mark else t.mark + 1) h in
          let r = reused t o h in
          record {
            free = ap (λ i. entry_at i t.held) is ∙ r.0;
            small = subst (λ i. i < 65536) (sym is) (through (least_free t) t.mark 65536 r.1 o.small);
            order = record {
              sorted = subst (λ m. Sorted 0 m (puts (next_id t) x t.held)) (sym mark) (sorted_puts (next_id t) x 0 t.mark t.held (zero_le (next_id t)) (subst (λ i. i < t.mark) (sym is) r.1) o.sorted);
              small = subst (λ m. m < 65536) (sym mark) o.small;
            };
          }
      by false h =
          let is : next_id t ≡ t.mark = ap (λ b. if b then least_free t else t.mark) h in
          let mark : (if reuses t then t.mark else t.mark + 1) ≡ t.mark + 1 = ap (λ b. if b then t.mark else t.mark + 1) h in
          let more = next_mark 0 t.mark (least_free t) (length t.held) h (least_low 0 t.held) few in
          record {
            free = ap (λ i. entry_at i t.held) is ∙ absent_above 0 t.mark t.mark t.held (le_refl t.mark) o.sorted;
            small = subst (λ i. i < 65536) (sym is) o.small;
            order = record {
              sorted = subst (λ m. Sorted 0 m (puts (next_id t) x t.held)) (sym mark)
                  (sorted_puts (next_id t) x 0 (t.mark + 1) t.held (zero_le (next_id t)) (subst (λ i. i < t.mark + 1) (sym is) (last t.mark)) (rises_below (λ (e : ℕ × A). e.0) 0 t.mark (t.mark + 1) t.held (up t.mark) o.sorted));
              small = subst (λ m. m < 65536) (sym mark) more;
            };
          }
