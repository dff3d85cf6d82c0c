-- Each step keeps the rule.
use Rattle.std.proofs.Common.{◌≡◌, ◌≢◌, ◌⊎◌, ℕ, zero, suc, ◌+◌, ◌%◌, ◌^◌, ◌<◌, ◌≤◌, ◌==◌, true, false, true≢false, List, [], ◌∷◌, ◌++◌, length, set, inl, inr, refl, sym, ap, ◌∙◌, subst, ⊎_elim, eq-eqb, ne_eqb, arith, length-append, lt_of_not-le}
use Rattle.std.specs.Prelude.{slice_index, if◌then◌else◌}
use mathlib.Core.Option.{Option, none, some, some-ne-none, some-injective}
use mathlib.Core.List.{IsPrefix}
use native.Mathlib.Decide.{dec_le}
use lib.ListN.{get_elem?}
use Rattle.atomic_table.specs.Table.{State, Me, Step, keeps, Allows, Splits, Joins, opening}
use Rattle.atomic_table.proofs.Lists.{at_set, set_again}
use Rattle.joint_history.specs.declared.view.View.{View}
use Rattle.joint_history.specs.Views.{own, longer, first, spent, copied, next_caller, one_more, keeper, without, keeping, informed, with_items, Fits, Kept, Knows, Looks, Adds}
use Rattle.joint_history.proofs.Beginnings.{prefix_self, prefix_front, prefix_trans, prefix_shorter, own_between, own-append}

-- what stands in a list that is one longer: it stood before, or it is the new one
pub at_end : {A : Type 0} (l : List A) (a b : A) (j : ℕ) → get_elem? (l ++ a ∷ []) j ≡ some b → (get_elem? l j ≡ some b) ⊎ ((j ≡ length l) × (a ≡ b))
at_end [] a b zero e = inr (refl, some-injective a b e)
at_end [] a b (suc j) e = absurd (some-ne-none b (sym e))
at_end (x ∷ xs) a b zero e = inl e
at_end (x ∷ xs) a b (suc j) e = ⊎_elim (λ t. inl t) (λ t. inr (ap suc t.0, t.1)) (at_end xs a b j e)

off : false ≡ true → ⊥
off e = true≢false (sym e)

module _ {E : Type 0} (by : E → ℕ) where
  abbrev St : Type 0
  St = State (Unit {0}) (View E)

  abbrev Rule : St → Type 0
  Rule = Kept by

  abbrev Fit : List E → ℕ → (ℕ → Option ℕ) → ℕ → View E → Type 0
  Fit = Fits by

  -- the seats after one of them changed
  fits_set : (log now : List E) (keeps_at : ℕ) (seats : ℕ → Option ℕ) (views : List (View E)) (id : ℕ) (w : View E) → ((j : ℕ) (u : View E) → j ≢ id → get_elem? views j ≡ some u → Fit now keeps_at seats j u)
      → Fit now keeps_at seats id w → (j : ℕ) (u : View E) → get_elem? (set views id w) j ≡ some u → Fit now keeps_at seats j u
  fits_set log now keeps_at seats views id w others mine j u e =
      ⊎_elim
      (λ (x : (j ≡ id) × (w ≡ u)). subst (λ (y : ℕ × View E). Fit now keeps_at seats y.0 y.1) (λ i. (sym x.0 i, x.1 i)) mine)
      (λ (x : (j ≢ id) × (get_elem? views j ≡ some u)). others j u x.0 x.1)
      (at_set views id j w u e)

  -- the seats after a new one came
  fits_end : (log : List E) (keeps_at : ℕ) (seats : ℕ → Option ℕ) (views : List (View E)) (w : View E) → ((j : ℕ) (u : View E) → get_elem? views j ≡ some u → Fit log keeps_at seats j u)
      → Fit log keeps_at seats (length views) w → (j : ℕ) (u : View E) → get_elem? (views ++ w ∷ []) j ≡ some u → Fit log keeps_at seats j u
  fits_end log keeps_at seats views w others mine j u e =
      ⊎_elim
      (λ (x : get_elem? views j ≡ some u). others j u x)
      (λ (x : (j ≡ length views) × (w ≡ u)). subst (λ (y : ℕ × View E). Fit log keeps_at seats y.0 y.1) (λ i. (sym x.0 i, x.1 i)) mine)
      (at_end views w u j e)

  -- a seat that is nobody's, and keeps nothing
  plain_fits : (log seen : List E) (keeps_at : ℕ) (seats : ℕ → Option ℕ) (id : ℕ) → IsPrefix seen log
      → Fit log keeps_at seats id record { seen = seen; old = seen; told = seen; keeps = false; calls = false; number = 0; made = 0 }
  plain_fits log seen keeps_at seats id p = record { begins = p; old = prefix_self seen; told = prefix_self seen; whole = λ k. absurd (off k); own_items = λ k. absurd (off k) }

  spent_fits : (log : List E) (keeps_at : ℕ) (seats : ℕ → Option ℕ) (id : ℕ) → Fit log keeps_at seats id spent
  spent_fits log keeps_at seats id = plain_fits log [] keeps_at seats id (log, refl)

  -- what is known of a seat
  knows : (log : List E) (keeps_at : ℕ) (seats : ℕ → Option ℕ) (id : ℕ) (v : View E) → Fit log keeps_at seats id v → Knows by v
  knows log keeps_at seats id v f = record { old = f.old; told = f.told; own_items = λ c. own_between by v.number v.old v.seen log f.old f.begins (f.own_items c).1 }

  -- the history at the start
  pub begins : Rule (opening (0 ∷ []) [] first)
  begins = record { log = []; keeps_at = 0; seats = λ n. none; words = refl; each = one }
    where
      one : (id : ℕ) (v : View E) → get_elem? (first ∷ []) id ≡ some v → Fit [] 0 (λ n. none) id v
      one zero v e = subst (Fit [] 0 (λ n. none) 0) (some-injective _ _ e) record { begins = ([], refl); old = ([], refl); told = ([], refl); whole = λ _. (refl, refl, λ n le. refl); own_items = λ k. absurd (off k) }
      one (suc id) v e = absurd (some-ne-none v (sym e))

  -- a seat is told what another has seen
  pub copies : (id : ℕ) (v : View E) → Splits Rule id v v (copied v)
  copies id v s k at =
      let f = k.each id v at in
      let same : set s.views id v ≡ s.views = set_again s.views id v at in
      record {
        log = k.log;
        keeps_at = k.keeps_at;
        seats = k.seats;
        words = k.words;
        each = fits_end k.log k.keeps_at k.seats (set s.views id v) (copied v) (λ j u e. k.each j u (subst (λ l. get_elem? l j ≡ some u) same e))
            (plain_fits k.log v.seen k.keeps_at k.seats (length (set s.views id v)) f.begins);
      }

  -- the longer of two beginnings
  longer_fits : (v w log : List E) → IsPrefix v log → IsPrefix w log → Dec (length v ≤ length w) → IsPrefix (longer v w) log × IsPrefix v (longer v w) × IsPrefix w (longer v w)
  longer_fits v w log p q (yes le) =
      let is : longer v w ≡ w = grind (arith, le) in
      subst (λ (z : List E). IsPrefix z log × IsPrefix v z × IsPrefix w z) (sym is) (q, prefix_shorter v w log p q le, prefix_self w)
  longer_fits v w log p q (no more) =
      let lt : length w < length v = lt_of_not-le more in
      let is : longer v w ≡ v = grind (arith, lt) in
      subst (λ (z : List E). IsPrefix z log × IsPrefix v z × IsPrefix w z) (sym is) (p, prefix_self v, prefix_shorter w v log q p (omega arith))

  -- the caller's items, after it took in more of the history
  own_later : (log : List E) (keeps_at : ℕ) (seats : ℕ → Option ℕ) (id : ℕ) (v : View E) → Fit log keeps_at seats id v → v.calls ≡ true → (seats v.number ≡ some id) × (own by v.number log ≡ own by v.number v.seen)
  own_later log keeps_at seats id v f c =
      let mine = f.own_items c in
      (mine.0, mine.1 ∙ sym (own_between by v.number v.old v.seen log f.old f.begins mine.1))

  there_before : (views : List (View E)) (id other : ℕ) (b w : View E) → (other ≡ id → ⊥) → get_elem? (set views id b) other ≡ some w → get_elem? views other ≡ some w
  there_before views id other b w apart e =
      ⊎_elim (λ (t : (other ≡ id) × (b ≡ w)). absurd (apart t.0)) (λ (t : (other ≢ id) × (get_elem? views other ≡ some w)). t.1) (at_set views id other b w e)

  pub informs : (id : ℕ) (v : View E) (other : ℕ) (w : View E) → v.keeps ≡ false → Joins Rule id v other w (informed v w) spent
  informs id v other w keeps_not s k at apart there =
      let f = k.each id v at in
      let g = k.each other w (there_before s.views id other (informed v w) w apart there) in
      let both = longer_fits v.seen w.seen k.log f.begins g.begins (dec_le (length v.seen) (length w.seen)) in
      let mine : Fit k.log k.keeps_at k.seats id (informed v w) = record {
        begins = both.0;
        old = both.1;
        told = both.2;
        whole = λ b. absurd (off (sym keeps_not ∙ b));
        own_items = λ c. own_later k.log k.keeps_at k.seats id v f c;
      } in
      record {
        log = k.log;
        keeps_at = k.keeps_at;
        seats = k.seats;
        words = k.words;
        each = fits_set k.log k.log k.keeps_at k.seats (set s.views id (informed v w)) other spent
            (λ j u _ e. fits_set k.log k.log k.keeps_at k.seats s.views id (informed v w) (λ i y _ e'. k.each i y e') mine j u e)
            (spent_fits k.log k.keeps_at k.seats other);
      }

  -- one seat keeps the history
  only : (log : List E) (keeps_at : ℕ) (seats : ℕ → Option ℕ) (id j : ℕ) (v u : View E) → Fit log keeps_at seats id v → v.keeps ≡ true → Fit log keeps_at seats j u → j ≢ id → u.keeps ≡ true → ⊥
  only log keeps_at seats id j v u f k g apart other = apart ((g.whole other).0 ∙ sym (f.whole k).0)

  others_fit : (log now : List E) (keeps_at at_now : ℕ) (seats : ℕ → Option ℕ) (j : ℕ) (u : View E) → Fit log keeps_at seats j u → (u.keeps ≡ true → ⊥) → IsPrefix log now → (u.calls ≡ true → own by u.number now ≡ own by u.number log)
      → Fit now at_now seats j u
  others_fit log now keeps_at at_now seats j u g keeps_not grows none_new = record {
    begins = prefix_trans u.seen log now g.begins grows;
    old = g.old;
    told = g.told;
    whole = λ k. absurd (keeps_not k);
    own_items = λ c. ((g.own_items c).0, none_new c ∙ (g.own_items c).1);
  }

  -- the history is handed over to a new seat
  pub hands_over : (id : ℕ) (v : View E) → v.keeps ≡ true → Splits Rule id v (without v) (keeper v)
  hands_over id v keep s k at =
      let f = k.each id v at in
      let whole = f.whole keep in
      let views = set s.views id (without v) in
      let left : Fit k.log (length views) k.seats id (without v) = record {
        begins = f.begins;
        old = f.old;
        told = f.told;
        whole = λ b. absurd (off b);
        own_items = f.own_items;
      } in
      let right : Fit k.log (length views) k.seats (length views) (keeper v) = record {
        begins = f.begins;
        old = prefix_self v.seen;
        told = prefix_self v.seen;
        whole = λ b. (refl, whole.1, whole.2);
        own_items = λ b. absurd (off b);
      } in
      record {
        log = k.log;
        keeps_at = length views;
        seats = k.seats;
        words = k.words;
        each = fits_end k.log (length views) k.seats views (keeper v)
            (fits_set k.log k.log (length views) k.seats s.views id (without v)
            (λ j u apart e. others_fit k.log k.log k.keeps_at (length views) k.seats j u (k.each j u e) (only k.log k.keeps_at k.seats id j v u f keep (k.each j u e) apart) (prefix_self k.log) (λ c. refl))
            left)
            right;
      }

  pub takes_over : (id : ℕ) (v : View E) (other : ℕ) (w : View E) → w.keeps ≡ true → Joins Rule id v other w (keeping v w) spent
  takes_over id v other w keep s k at apart there =
      let f = k.each id v at in
      let g = k.each other w (there_before s.views id other (keeping v w) w apart there) in
      let whole = g.whole keep in
      let mine : Fit k.log id k.seats id (keeping v w) = record {
        begins = g.begins;
        old = subst (IsPrefix v.seen) (sym whole.1) f.begins;
        told = prefix_self w.seen;
        whole = λ b. (refl, whole.1, whole.2);
        own_items = λ c. own_later k.log k.keeps_at k.seats id v f c;
      } in
      record {
        log = k.log;
        keeps_at = id;
        seats = k.seats;
        words = k.words;
        each = fits_set k.log k.log id k.seats (set s.views id (keeping v w)) other spent
            (λ j u far e. ⊎_elim
            (λ (x : (j ≡ id) × (keeping v w ≡ u)). subst (λ (y : ℕ × View E). Fit k.log id k.seats y.0 y.1) (λ i. (sym x.0 i, x.1 i)) mine)
            (λ (x : (j ≢ id) × (get_elem? s.views j ≡ some u)). others_fit k.log k.log k.keeps_at id k.seats j u (k.each j u x.1) (only k.log k.keeps_at k.seats other j w u g keep (k.each j u x.1) far) (prefix_self k.log) (λ c. refl))
            (at_set s.views id j (keeping v w) u e))
            (spent_fits k.log id k.seats other);
      }

  -- the number of a new caller
  abbrev seats_with : (ℕ → Option ℕ) → ℕ → ℕ → ℕ → Option ℕ
  seats_with seats n id m = if m == n then some id else seats m

  seat_here : (seats : ℕ → Option ℕ) (n id : ℕ) → seats_with seats n id n ≡ some id
  seat_here seats n id = ap (λ b. if b then some id else seats n) (eq-eqb n n refl)

  seat_else : (seats : ℕ → Option ℕ) (n id m : ℕ) → m ≢ n → seats_with seats n id m ≡ seats m
  seat_else seats n id m apart = ap (λ b. if b then some id else seats m) (ne_eqb m n apart)

  -- other seats keep theirs
  seated : (log : List E) (keeps_at : ℕ) (seats : ℕ → Option ℕ) (n id j : ℕ) (u : View E) → seats n ≡ none → Fit log keeps_at seats j u → (u.keeps ≡ true → ⊥) → Fit log keeps_at (seats_with seats n id) j u
  seated log keeps_at seats n id j u free g keeps_not = record {
    begins = g.begins;
    old = g.old;
    told = g.told;
    whole = λ k. absurd (keeps_not k);
    own_items = λ c. let mine = g.own_items c in (seat_else seats n id u.number (λ is. some-ne-none j (sym mine.0 ∙ (ap seats is ∙ free))) ∙ mine.0, mine.1);
  }

  pub numbers : (id : ℕ) (v : View E) → v.keeps ≡ true → Splits Rule id v (one_more v) (next_caller v)
  numbers id v keep s k at =
      let f = k.each id v at in
      let whole = f.whole keep in
      let views = set s.views id (one_more v) in
      let seats = seats_with k.seats v.made (length views) in
      let free : k.seats v.made ≡ none = whole.2 v.made (omega arith) in
      let left : Fit k.log k.keeps_at seats id (one_more v) = record {
        begins = f.begins;
        old = f.old;
        told = f.told;
        whole = λ b. (whole.0, whole.1, λ n le. seat_else k.seats v.made (length views) n (λ is. absurd (omega (arith, is, le))) ∙ whole.2 n (omega (arith, le)));
        own_items = λ c. let mine = f.own_items c in (seat_else k.seats v.made (length views) v.number (λ is. some-ne-none id (sym mine.0 ∙ (ap k.seats is ∙ free))) ∙ mine.0, mine.1);
      } in
      let right : Fit k.log k.keeps_at seats (length views) (next_caller v) = record {
        begins = f.begins;
        old = prefix_self v.seen;
        told = prefix_self v.seen;
        whole = λ b. absurd (off b);
        own_items = λ c. (seat_here k.seats v.made (length views), ap (own by v.made) (sym whole.1));
      } in
      record {
        log = k.log;
        keeps_at = k.keeps_at;
        seats = seats;
        words = k.words;
        each = fits_end k.log k.keeps_at seats views (next_caller v)
            (fits_set k.log k.log k.keeps_at seats s.views id (one_more v)
            (λ j u apart e. seated k.log k.keeps_at k.seats v.made (length views) j u free (k.each j u e) (only k.log k.keeps_at k.seats id j v u f keep (k.each j u e) apart))
            left)
            right;
      }

  pub looks : (slots word id : ℕ) (m : Me (Unit {0}) (View E)) (st : Step (Unit {0})) → word ≡ 0 → Allows Rule slots id m word (λ n. n) (Looks by st m)
  looks slots word id m st zeroth s k homes at below =
      let f = k.each id m.0 at in
      let same : set s.views id m.0 ≡ s.views = set_again s.views id m.0 at in
      let words : set s.words word (slice_index s.words word) ≡ length k.log ∷ [] = rw (zeroth, k.words) refl in (
        m.0,
        keeps,
        tt,
        record { log = k.log; keeps_at = k.keeps_at; seats = k.seats; words = words; each = λ j u e. k.each j u (subst (λ l. get_elem? l j ≡ some u) same e) },
        (refl, knows k.log k.keeps_at k.seats id m.0 f),
      )

  -- an item of one caller is none of another's
  not_own : (n : ℕ) (log : List E) (item : E) → by item ≢ n → own by n (log ++ item ∷ []) ≡ own by n log
  not_own n log item apart =
      own-append by n log (item ∷ [])
      ∙ (ap (λ b. own by n log ++ (if b then ((length log, item) ∷ []) else [])) (ne_eqb (by item) n apart) ∙ Rattle.std.proofs.lemmas.List.append-nil (own by n log))

  pub adds : (slots word id : ℕ) (m : Me (Unit {0}) (View E)) (st : Step (Unit {0})) (item : E) → word ≡ 0 → m.0.keeps ≡ true → m.0.calls ≡ true → by item ≡ m.0.number → length m.0.seen + 1 < 2 ^ 64
      → Allows Rule slots id m word (λ n. (n + 1) % 2 ^ 64) (Adds by (item ∷ []) st m)
  adds slots word id m st item zeroth keep calls number room s k homes at below =
      let v = m.0 in
      let f = k.each id v at in
      let whole = f.whole keep in
      let w = with_items (item ∷ []) v in
      let now = k.log ++ item ∷ [] in
      let same : v.seen ++ item ∷ [] ≡ now = ap (λ l. l ++ item ∷ []) whole.1 in
      let small : length k.log + 1 < 2 ^ 64 = subst (λ (l : List E). length l + 1 < 2 ^ 64) whole.1 room in
      let count : (length k.log + 1) % 2 ^ 64 ≡ length now = omega (arith, small, length-append k.log (item ∷ [])) in
      let words : set s.words word ((slice_index s.words word + 1) % 2 ^ 64) ≡ length now ∷ [] = rw (zeroth, k.words) (ap (λ n. n ∷ []) count) in
      let found : slice_index s.words word ≡ length v.seen = rw (zeroth, k.words) (ap length (sym whole.1)) in
      let mine : Fit now k.keeps_at k.seats id w = record {
        begins = subst (λ l. IsPrefix l now) (sym same) (prefix_self now);
        old = prefix_self (v.seen ++ item ∷ []);
        told = prefix_self (v.seen ++ item ∷ []);
        whole = λ b. (whole.0, same, whole.2);
        own_items = λ c. ((f.own_items calls).0, ap (own by v.number) (sym same));
      } in (
        w,
        keeps,
        tt,
        record {
          log = now;
          keeps_at = k.keeps_at;
          seats = k.seats;
          words = words;
          each = fits_set k.log now k.keeps_at k.seats s.views id w
              (λ j u apart e. others_fit k.log now k.keeps_at k.keeps_at k.seats j u (k.each j u e) (only k.log k.keeps_at k.seats id j v u f keep (k.each j u e) apart) (prefix_front k.log (item ∷ []))
              (λ c. not_own u.number k.log item (λ is. apart (some-injective j id (sym ((k.each j u e).own_items c).0 ∙ (ap k.seats (sym is ∙ number) ∙ (f.own_items calls).0))))))
              mine;
        },
        (refl, found, knows k.log k.keeps_at k.seats id v f),
      )
