-- How many queries wait.
use Rattle.std.proofs.Common.{◌≡◌, ◌≢◌, ℕ, suc, ◌+◌, ◌≤◌, List, [], ◌∷◌, length, Option, Some, Ordering, cond, Bool, true, false, refl, sym, subst, ap, ◌∙◌, arith, inl, inr, length-append}
use Rattle.std.specs.Prelude.{◌==◌, ◌&&◌, ◌||◌, not, nat_lt}
use Rattle.std.specs.Cmp.Lexicographic.{pointwise}
use Rattle.std.specs.List.{AllByRecursion, filter}
use Rattle.std.specs.Ordering.{is_eq}
use Rattle.std.proofs.lemmas.Bool.Decides.{Decides-eqb, nat_tests}
use Rattle.std.proofs.lemmas.Cmp.{nat_cmp_total, tied_itself}
use Rattle.std.proofs.lemmas.Slice.Eq.{slice_eq-Decides}
use Rattle.std.proofs.lemmas.List.{length-map}
use Rattle.std.proofs.lemmas.List.Sums.{length-filter}
use Rattle.number_table.specs.Entries.{entry_at}
use Rattle.front_peers.specs.declared.items.Asker.{Asker}
use Rattle.front_queries.specs.Query.{key_of}
use Rattle.front_steps.specs.Waiting.{Waits, askers_of, askers_or_none}
use Rattle.front_steps.specs.Waiting as table
use Rattle.front_steps.specs.Waits.{by_streams_of, count_waiting, has_room, may_join}
use Rattle.front_steps.specs.declared.waits.Waiting.{Waiting}
use Rattle.right_trace.specs.Trace.{History}
use Rattle.proof_forwarding.specs.Owing.{AreMany, asks_so_by_stream}
use Rattle.proof_forwarding.proofs.Tables.{Above, Rises, key_apart, none_above}
use Rattle.proof_forwarding.proofs.Keeping.{Pending, Shares, WaitsKept, askers_in, is_same, none_of, not_of, of_number, others_of, owed, owed_in, same_number}

-- ---- in all

parts_of : (k : ℕ) (ps : List Pending) → length ps ≡ length (of_number k ps) + length (not_of k ps)
parts_of k [] = refl
parts_of k (p ∷ ps) = go (p.number == k) (parts_of k ps)
  where
    go : (b : Bool) → length ps ≡ length (of_number k ps) + length (not_of k ps) → suc (length ps) ≡ length (cond b (p ∷ of_number k ps) (of_number k ps)) + length (cond (not b) (p ∷ not_of k ps) (not_of k ps))
    go true ih = omega arith
    go false ih = omega arith

none_waiting : (ps : List Pending) → ((k : ℕ) → [] ≡ askers_in (of_number k ps)) → 0 ≡ length ps
none_waiting [] all = refl
none_waiting (p ∷ ps) all =
    let is : [] ≡ askers_in (cond true (p ∷ of_number p.number ps) (of_number p.number ps)) =
    all p.number ∙ ap (λ (b : Bool). askers_in (cond b (p ∷ of_number p.number ps) (of_number p.number ps))) (is_same p.number p.number refl) in
    absurd (cc)

module _ (k : ℕ) (v : Waiting) (rest : List (ℕ × Waiting)) (above : Above k rest) (ps : List Pending) (all : (j : ℕ) → askers_or_none (entry_at j ((k, v) ∷ rest)) ≡ askers_in (of_number j ps)) where
  here : askers_of v ≡ askers_in (of_number k ps)
  here = sym (ap (λ (o : Ordering). askers_or_none (cond (is_eq o) (Some v) (entry_at k rest))) (tied_itself nat_cmp_total k)) ∙ all k

  others : (j : ℕ) → askers_or_none (entry_at j rest) ≡ askers_in (of_number j (not_of k ps))
  others j = go (j == k) refl
    where
      go : (b : Bool) → (j == k) ≡ b → askers_or_none (entry_at j rest) ≡ askers_in (of_number j (not_of k ps))
      go true same =
          ap (λ (n : ℕ). askers_or_none (entry_at n rest)) (same_number j k same) ∙ ap askers_or_none (none_above k rest above)
          ∙ sym (ap (λ (n : ℕ). askers_in (of_number n (not_of k ps))) (same_number j k same) ∙ ap askers_in (none_of k ps))
      go false same =
          let apart : j ≢ k = (λ at. absurd (cc (is_same j k at, same))) in
          sym (ap (λ (b : Bool). askers_or_none (cond b (Some v) (entry_at j rest))) (key_apart j k apart)) ∙ all j ∙ sym (ap askers_in (others_of j k ps apart))

-- The table has each of them once.
count_all : (es : List (ℕ × Waiting)) → Rises es → (ps : List Pending) → ((k : ℕ) → askers_or_none (entry_at k es) ≡ askers_in (of_number k ps)) → length (table.askers_in es) ≡ length ps
count_all [] rises ps all = none_waiting ps all
count_all (e ∷ es) rises ps all =
    let both = length-append (askers_of e.1) (table.askers_in es) in
    let first : length (askers_of e.1) ≡ length (askers_in (of_number e.0 ps)) = ap length (here e.0 e.1 es rises.0 ps all) in
    let mapped : length (askers_in (of_number e.0 ps)) ≡ length (of_number e.0 ps) = length-map (of_number e.0 ps) (λ (p : Pending). p.asker) in
    let rest = count_all es rises.1 (not_of e.0 ps) (others e.0 e.1 es rises.0 ps all) in
    let parts = parts_of e.0 ps in
    omega arith

-- ---- by streams

same_key : (a b : List ℕ) → a ≡ b → pointwise ◌==◌ a b ≡ true
same_key a b is = (slice_eq-Decides Decides-eqb a b (pointwise ◌==◌ a b) refl).1 is

module _ (k : ℕ) (asker : Asker) where
  so_many : (ps : List Pending) → AllByRecursion (λ (p : Pending). p.number ≡ k → key_of p.asker.query ≡ key_of asker.query) ps
      → length (filter (λ (a : Asker). a.by_stream) (askers_in (of_number k ps))) ≤ length (filter (asks_so_by_stream asker) (owed_in ps))
  so_many [] all = omega arith
  so_many (p ∷ ps) all = go (p.number == k) refl (so_many ps all.1)
    where
      more : (b : Bool) → length (filter (asks_so_by_stream asker) (owed_in ps)) ≤ length (cond b (owed p ∷ filter (asks_so_by_stream asker) (owed_in ps)) (filter (asks_so_by_stream asker) (owed_in ps)))
      more true = omega arith
      more false = omega arith

      by : (b c : Bool) → c ≡ true → length (filter (λ (a : Asker). a.by_stream) (askers_in (of_number k ps))) ≤ length (filter (asks_so_by_stream asker) (owed_in ps))
          → length (cond b (p.asker ∷ filter (λ (a : Asker). a.by_stream) (askers_in (of_number k ps))) (filter (λ (a : Asker). a.by_stream) (askers_in (of_number k ps))))
          ≤ length (cond (b && c) (owed p ∷ filter (asks_so_by_stream asker) (owed_in ps)) (filter (asks_so_by_stream asker) (owed_in ps)))
      by true true is few = omega arith
      by true false is few = absurd (cc)
      by false c is few = omega arith

      go : (b : Bool) → (p.number == k) ≡ b → length (filter (λ (a : Asker). a.by_stream) (askers_in (of_number k ps))) ≤ length (filter (asks_so_by_stream asker) (owed_in ps))
          → length (filter (λ (a : Asker). a.by_stream) (askers_in (cond b (p ∷ of_number k ps) (of_number k ps)))) ≤ length (filter (asks_so_by_stream asker) (owed_in (p ∷ ps)))
      go true is few =
          by p.asker.by_stream (pointwise ◌==◌ (key_of p.asker.query) (key_of asker.query)) (same_key (key_of p.asker.query) (key_of asker.query) (all.0 (same_number p.number k is))) few
      go false is few = let least = more (asks_so_by_stream asker (owed p)) in omega arith

-- ---- where a query may be turned away

few_less : (n : ℕ) → nat_lt n 10000 ≡ false → 10000 ≤ n
few_less n is = grind (arith, nat_tests)

streams_less : (n : ℕ) → nat_lt n 250 ≡ false → 250 ≤ n
streams_less n is = grind (arith, nat_tests)

one_false : (a b : Bool) → (a || b) ≡ false → a ≡ false
one_false true b is = absurd (cc)
one_false false b is = refl

module _ (w : Waits) (h : History) (last : Option ℕ) (ps : List Pending) (kept : WaitsKept w h last ps) (asker : Asker) where
  counted : count_waiting w ≡ length (owed_in ps)
  counted = count_all w.requests kept.rises ps kept.each ∙ sym (length-map ps owed)

  pub no_room : has_room w ≡ false → AreMany asker (owed_in ps)
  no_room is = inl (subst (λ (n : ℕ). 10000 ≤ n) counted (few_less (count_waiting w) is))

  pub not_taken : (served : Bool) → (has_room w || served) ≡ false → AreMany asker (owed_in ps)
  not_taken served is = no_room (one_false (has_room w) served is)

  module _ (k : ℕ) (v : Waiting) (entry : entry_at k w.requests ≡ Some v) (key : v.key ≡ key_of asker.query) where
    sharing : (qs : List Pending) → AllByRecursion (Shares w.requests) qs → AllByRecursion (λ (p : Pending). p.number ≡ k → key_of p.asker.query ≡ key_of asker.query) qs
    sharing [] all = tt
    sharing (p ∷ qs) all = ((λ is. all.0 v (ap (λ (n : ℕ). entry_at n w.requests) is ∙ entry) ∙ key), sharing qs all.1)

    of_streams : nat_lt (by_streams_of (entry_at k w.requests)) 250 ≡ false → 250 ≤ length (filter (asks_so_by_stream asker) (owed_in ps))
    of_streams is =
        let there : by_streams_of (entry_at k w.requests) ≡ by_streams_of (Some v) = ap by_streams_of entry in
        let counts : length (filter (λ (a : Asker). a.by_stream) v.others) ≡ by_streams_of (Some v) = length-filter (λ (a : Asker). a.by_stream) v.others in
        let first : length (filter (λ (a : Asker). a.by_stream) v.others) ≤ length (filter (λ (a : Asker). a.by_stream) (v.first ∷ v.others)) = with_first v.first.by_stream in
        let each : length (filter (λ (a : Asker). a.by_stream) (v.first ∷ v.others)) ≡ length (filter (λ (a : Asker). a.by_stream) (askers_in (of_number k ps))) =
        ap (λ (askers : List Asker). length (filter (λ (a : Asker). a.by_stream) askers)) (sym (ap askers_or_none entry) ∙ kept.each k) in
        let few = so_many k asker ps (sharing ps kept.shares) in
        let many = streams_less (by_streams_of (entry_at k w.requests)) is in
        omega arith
      where
        with_first : (b : Bool) → length (filter (λ (a : Asker). a.by_stream) v.others) ≤ length (cond b (v.first ∷ filter (λ (a : Asker). a.by_stream) v.others) (filter (λ (a : Asker). a.by_stream) v.others))
        with_first true = omega arith
        with_first false = omega arith

    by_parts : (room stream some : Bool) → (room ≡ false → AreMany asker (owed_in ps)) → (some ≡ false → 250 ≤ length (filter (asks_so_by_stream asker) (owed_in ps)))
        → asker.by_stream ≡ stream → (room && (not stream || some)) ≡ false → AreMany asker (owed_in ps)
    by_parts false stream some all few at is = all refl
    by_parts true true false all few at is = inr (at, few refl)
    by_parts true true true all few at is = absurd (cc)
    by_parts true false some all few at is = absurd (cc)

    pub may_not_join : may_join k asker.by_stream w ≡ false → AreMany asker (owed_in ps)
    may_not_join is = by_parts (has_room w) asker.by_stream (nat_lt (by_streams_of (entry_at k w.requests)) 250) no_room of_streams refl is
