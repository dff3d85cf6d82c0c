-- Runs of the interpreter, and the forms of a transfer.
use Rattle.std.proofs.Common.{◌≡◌, ◌≢◌, ℕ, ◌==◌, ◌⊎◌, inl, inr, Bool, true, false, Option, Some, None, List, [], ◌∷◌, ◌++◌, map, append_assoc, refl, sym, ap, ◌∙◌, subst, arith}
use Rattle.std.specs.Prelude.{if◌then◌else◌, option_and_then, option_map}
use Rattle.std.specs.List.{flat_map, AllByRecursion}
use Rattle.std.proofs.lemmas.Bool.Decides.{nat_tests}
use Rattle.zone_reading.specs.declared.steps.XfrKind.{XfrKind}
use Rattle.zone_reading.specs.declared.steps.XfrKind.TheVariants.{Axfr, Ixfr}
use Rattle.zone_reading.specs.declared.steps.State.{State}
use Rattle.zone_reading.specs.declared.steps.State.TheVariants.{Begin, FirstSoa, Whole, Deleting, Adding, Done}
use Rattle.zone_reading.specs.declared.steps.Entry.{Entry}
use Rattle.zone_reading.specs.declared.steps.Entry.TheVariants.{Soa, Other}
use Rattle.zone_reading.specs.declared.steps.Update.{Update}
use Rattle.zone_reading.specs.declared.steps.Update.TheVariants.{DeleteAllRecords, BeginBatchDelete, BeginBatchAdd, Finished}
use Rattle.zone_reading.specs.Running.{Step, additions, deletions, at_last, at_whole, next, behind, run}
use Rattle.zone_reading.specs.Readings.{IsWhole, Batch, entries_of, updates_of, reached_by, IsChanges, IsTransfer}

pub same_serial : {A : Type 0} (a : ℕ) (x y : A) → (if a == a then x else y) ≡ x
same_serial a x y = grind (arith, nat_tests)

pub other_serial : {A : Type 0} (s a : ℕ) (x y : A) → s ≢ a → (if s == a then x else y) ≡ y
other_serial s a x y ne = grind (arith, nat_tests)

is_equal : (s a : ℕ) → (s == a) ≡ true → s ≡ a
is_equal s a e = grind (arith, nat_tests)

is_other : (s a : ℕ) → (s == a) ≡ false → s ≢ a
is_other s a e = grind (arith, nat_tests)

module _ {R : Type 0} where
  behind_nothing : (s : Step R) → behind [] s ≡ s
  behind_nothing None = refl
  behind_nothing (Some x) = refl

  behind_twice : (us vs : List (Update R)) (s : Step R) → behind us (behind vs s) ≡ behind (us ++ vs) s
  behind_twice us vs None = refl
  behind_twice us vs (Some x) = ap (λ ws. Some (x.0, ws)) (sym (append_assoc us vs x.1))

  behind_then : (us : List (Update R)) (s : Step R) (f : State R → Step R) → behind us (option_and_then (λ x. behind x.1 (f x.0)) s) ≡ option_and_then (λ x. behind x.1 (f x.0)) (behind us s)
  behind_then us None f = refl
  behind_then us (Some x) f = behind_twice us x.1 (f x.0)

  abbrev updates_in : Step R → List (Update R)
  updates_in None = []
  updates_in (Some y) = y.1

  abbrev state_in : Step R → State R
  state_in None = Begin
  state_in (Some x) = x.0

  abbrev mode : Option ℕ → ℕ → State R
  mode None a = Deleting a
  mode (Some p) a = Adding a p

record Adds {R : Type 0} (a p : ℕ) (es : List (Entry R)) (us : List (Update R)) : Type 0 where
  rs : List (Option R)
  batches : List (Batch R)
  last : R
  others : AllByRecursion (λ b. b.before ≢ a) batches
  reached : reached_by p batches ≡ a
  entries : es ≡ map Other rs ++ (flat_map entries_of batches ++ Soa a last ∷ [])
  updates : us ≡ flat_map additions rs ++ (flat_map updates_of batches ++ Finished a last ∷ [])

record Deletes {R : Type 0} (a : ℕ) (es : List (Entry R)) (us : List (Update R)) : Type 0 where
  deleted : List (Option R)
  after : ℕ
  new : R
  es' : List (Entry R)
  us' : List (Update R)
  entries : es ≡ map Other deleted ++ Soa after new ∷ es'
  updates : us ≡ flat_map deletions deleted ++ BeginBatchAdd after new ∷ us'
  adds : Adds a after es' us'

module _ {R : Type 0} (same : R → R → Bool) (kind : XfrKind) where
  abbrev pub then_run : List (Entry R) → Step R → Step R
  then_run es s = option_and_then (λ x. behind x.1 (run same kind x.0 es)) s

  -- it doesn't matter where the records are cut
  pub cut : (state : State R) (a b : List (Entry R)) → run same kind state (a ++ b) ≡ option_and_then (λ x. behind x.1 (run same kind x.0 b)) (run same kind state a)
  cut state [] b = sym (behind_nothing (run same kind state b))
  cut state (e ∷ a) b = go (next same kind state e) (λ s. cut s a b)
    where
      go : (s : Step R) → ((s : State R) → run same kind s (a ++ b) ≡ then_run b (run same kind s a)) → then_run (a ++ b) s ≡ then_run b (then_run a s)
      go None rest = refl
      go (Some x) rest = ap (behind x.1) (rest x.0) ∙ behind_then x.1 (run same kind x.0 a) (λ s. run same kind s b)

  -- records between, and what follows them
  pub whole_end : (us : List (Update R)) (a : ℕ) (first last : R) → same first last ≡ true → at_whole same us a first last ≡ Some (Done, us ++ Finished a last ∷ [])
  whole_end us a first last s = ap (λ (b : Bool). if b then Some (Done, us ++ Finished a last ∷ []) else None) s

  whole_on : (a : ℕ) (first last : R) → same first last ≡ true → (rs : List (Option R)) → run same kind (Whole a first) (map Other rs ++ Soa a last ∷ []) ≡ Some (Done, flat_map additions rs ++ Finished a last ∷ [])
  whole_on a first last s [] = ap (then_run []) (same_serial a (at_whole same [] a first last) None ∙ whole_end [] a first last s)
  whole_on a first last s (r ∷ rs) = ap (behind (additions r)) (whole_on a first last s rs) ∙ ap (λ us. Some (Done, us)) (sym (append_assoc (additions r) (flat_map additions rs) (Finished a last ∷ [])))

  deleting_on : (a : ℕ) (rs : List (Option R)) (es : List (Entry R)) → run same kind (Deleting a) (map Other rs ++ es) ≡ behind (flat_map deletions rs) (run same kind (Deleting a) es)
  deleting_on a [] es = sym (behind_nothing (run same kind (Deleting a) es))
  deleting_on a (r ∷ rs) es = ap (behind (deletions r)) (deleting_on a rs es) ∙ behind_twice (deletions r) (flat_map deletions rs) (run same kind (Deleting a) es)

  adding_on : (a p : ℕ) (rs : List (Option R)) (es : List (Entry R)) → run same kind (Adding a p) (map Other rs ++ es) ≡ behind (flat_map additions rs) (run same kind (Adding a p) es)
  adding_on a p [] es = sym (behind_nothing (run same kind (Adding a p) es))
  adding_on a p (r ∷ rs) es = ap (behind (additions r)) (adding_on a p rs es) ∙ behind_twice (additions r) (flat_map additions rs) (run same kind (Adding a p) es)

  abbrev behind_first : Batch R → List (Entry R)
  behind_first b = map Other b.deleted ++ Soa b.after b.new ∷ map Other b.added

  abbrev changes_of_batch : Batch R → List (Update R)
  changes_of_batch b = flat_map deletions b.deleted ++ BeginBatchAdd b.after b.new ∷ flat_map additions b.added

  -- a batch behind its first SOA
  batch_on : (a : ℕ) (b : Batch R) (es : List (Entry R)) → run same kind (Deleting a) (behind_first b ++ es) ≡ behind (changes_of_batch b) (run same kind (Adding a b.after) es)
  batch_on a b es = ap (run same kind (Deleting a)) (append_assoc (map Other b.deleted) (Soa b.after b.new ∷ map Other b.added) es)
      ∙ (deleting_on a b.deleted (Soa b.after b.new ∷ (map Other b.added ++ es))
      ∙ (ap (λ s. behind (flat_map deletions b.deleted) (behind (BeginBatchAdd b.after b.new ∷ []) s)) (adding_on a b.after b.added es)
      ∙ (ap (behind (flat_map deletions b.deleted)) (behind_twice (BeginBatchAdd b.after b.new ∷ []) (flat_map additions b.added) (run same kind (Adding a b.after) es))
      ∙ behind_twice (flat_map deletions b.deleted) (BeginBatchAdd b.after b.new ∷ flat_map additions b.added) (run same kind (Adding a b.after) es))))

  pub last_on : (a p : ℕ) (last : R) → p ≡ a → run same kind (Adding a p) (Soa a last ∷ []) ≡ Some (Done, Finished a last ∷ [])
  last_on a p last e =
      ap (then_run []) (same_serial a (at_last p a last) (Some (Deleting a, BeginBatchDelete a last ∷ [])))
      ∙ ap (then_run []) (ap (λ n. at_last n a last) e ∙ same_serial a (Some (Done, Finished a last ∷ [])) None)

  batches_on : (a p : ℕ) (bs : List (Batch R)) (last : R) → AllByRecursion (λ b. b.before ≢ a) bs → reached_by p bs ≡ a → run same kind (Adding a p) (flat_map entries_of bs ++ Soa a last ∷ []) ≡ Some (Done, flat_map updates_of bs ++ Finished a last ∷ [])
  batches_on a p [] last others reached = last_on a p last reached
  batches_on a p (b ∷ bs) last others reached =
      ap (run same kind (Adding a p)) (append_assoc (entries_of b) (flat_map entries_of bs) (Soa a last ∷ []))
      ∙ (ap (then_run (behind_first b ++ (flat_map entries_of bs ++ Soa a last ∷ []))) (other_serial b.before a (at_last p a b.old) (Some (Deleting a, BeginBatchDelete b.before b.old ∷ [])) others.0)
      ∙ (ap (behind (BeginBatchDelete b.before b.old ∷ [])) (batch_on a b (flat_map entries_of bs ++ Soa a last ∷ []) ∙ ap (behind (changes_of_batch b)) (batches_on a b.after bs last others.1 reached))
      ∙ ap (λ us. Some (Done, us)) (sym (append_assoc (updates_of b) (flat_map updates_of bs) (Finished a last ∷ [])))))

  -- ---- what is left at a state of a run that ends

  started : (us vs : List (Update R)) (s : Step R) → behind us s ≡ Some (Done, vs) → (ws : List (Update R)) × (s ≡ Some (Done, ws)) × (vs ≡ us ++ ws)
  started us vs None e = absurd (cc)
  started us vs (Some x) e = (x.1, ap (λ (s : Step R). option_map (λ (y : State R × List (Update R)). (y.0, x.1)) s) e, sym (ap (λ (s : Step R). updates_in s) e))

  done_is : (es : List (Entry R)) (us : List (Update R)) → run same kind Done es ≡ Some (Done, us) → (es ≡ []) × (us ≡ [])
  done_is [] us e = (refl, sym (ap (λ (s : Step R). updates_in s) e))
  done_is (Other r ∷ es) us e = absurd (cc)
  done_is (Soa s r ∷ es) us e = absurd (cc)

  -- behind the last SOA there is nothing
  done_behind : (es : List (Entry R)) (us vs : List (Update R)) → behind us (run same kind Done es) ≡ Some (Done, vs) → (es ≡ []) × (vs ≡ us ++ [])
  done_behind es us vs e =
      let v = started us vs (run same kind Done es) e in
      let d = done_is es v.0 v.1 in
      (d.0, v.2 ∙ ap (λ (ws : List (Update R)). us ++ ws) d.1)

  record WholeRest (a : ℕ) (first : R) (es : List (Entry R)) (us : List (Update R)) : Type 0 where
    rs : List (Option R)
    last : R
    closes : same first last ≡ true
    entries : es ≡ map Other rs ++ Soa a last ∷ []
    updates : us ≡ flat_map additions rs ++ Finished a last ∷ []

  -- what is left where the whole zone ends by an SOA with the first serial
  record EndsHere (first last : R) (before : List (Update R)) (a : ℕ) (es : List (Entry R)) (us : List (Update R)) : Type 0 where
    closes : same first last ≡ true
    nothing : es ≡ []
    updates : us ≡ before ++ Finished a last ∷ []

  whole_here : (before : List (Update R)) (a : ℕ) (first last : R) (es : List (Entry R)) (us : List (Update R)) → then_run es (at_whole same before a first last) ≡ Some (Done, us) → EndsHere first last before a es us
  whole_here before a first last es us e = go (same first last) refl e
    where
      go : (b : Bool) → same first last ≡ b → then_run es (if b then Some (Done, before ++ Finished a last ∷ []) else None) ≡ Some (Done, us) → EndsHere first last before a es us
      go true s e =
          let d = done_behind es (before ++ Finished a last ∷ []) us e in
          record { closes = s; nothing = d.0; updates = d.1 ∙ (append_assoc before (Finished a last ∷ []) []) }
      go false s e = absurd (cc)

  whole_is : (a : ℕ) (first : R) (es : List (Entry R)) (us : List (Update R)) → run same kind (Whole a first) es ≡ Some (Done, us) → WholeRest a first es us
  whole_is a first [] us e = absurd (let z : Whole a first ≡ Done = ap (λ (s : Step R). state_in s) e in cc)
  whole_is a first (Other r ∷ es) us e =
      let v = started (additions r) us (run same kind (Whole a first) es) e in
      let w = whole_is a first es v.0 v.1 in
      record {
        rs = r ∷ w.rs;
        last = w.last;
        closes = w.closes;
        entries = ap (λ es. Other r ∷ es) w.entries;
        updates = v.2 ∙ (ap (λ us. additions r ++ us) w.updates ∙ sym (append_assoc (additions r) (flat_map additions w.rs) (Finished a w.last ∷ [])));
      }
  whole_is a first (Soa s r ∷ es) us e = by (s == a) refl e
    where
      by : (b : Bool) → (s == a) ≡ b → then_run es (if b then at_whole same [] a first r else None) ≡ Some (Done, us) → WholeRest a first (Soa s r ∷ es) us
      by true z e =
          let h = whole_here [] a first r es us e in
          record {
            rs = [];
            last = r;
            closes = h.closes;
            entries = ap (λ n. Soa n r ∷ es) (is_equal s a z) ∙ ap (λ es. Soa a r ∷ es) h.nothing;
            updates = h.updates;
          }
      by false z e = absurd (cc)

  abbrev Rest : Option ℕ → (a : ℕ) → List (Entry R) → List (Update R) → Type 0
  Rest None a es us = Deletes a es us
  Rest (Some p) a es us = Adds a p es us

  module _ (a : ℕ) (es : List (Entry R)) (us vs : List (Update R)) where
    one_more : (p : ℕ) (r : Option R) → Adds a p es us → vs ≡ additions r ++ us → Adds a p (Other r ∷ es) vs
    one_more p r w e = record {
      rs = r ∷ w.rs;
      batches = w.batches;
      last = w.last;
      others = w.others;
      reached = w.reached;
      entries = ap (λ es. Other r ∷ es) w.entries;
      updates = e ∙ (ap (λ us. additions r ++ us) w.updates ∙ sym (append_assoc (additions r) (flat_map additions w.rs) (flat_map updates_of w.batches ++ Finished a w.last ∷ [])));
    }

    batch_more : (p s : ℕ) (r : R) → Deletes a es us → vs ≡ BeginBatchDelete s r ∷ us → s ≢ a → Adds a p (Soa s r ∷ es) vs
    batch_more p s r w e ne =
        let b : Batch R = record { before = s; old = r; deleted = w.deleted; after = w.after; new = w.new; added = w.adds.rs } in
        let es' : List (Entry R) = flat_map entries_of w.adds.batches ++ Soa a w.adds.last ∷ [] in
        let us' : List (Update R) = flat_map updates_of w.adds.batches ++ Finished a w.adds.last ∷ [] in
        record {
          rs = [];
          batches = b ∷ w.adds.batches;
          last = w.adds.last;
          others = (ne, w.adds.others);
          reached = w.adds.reached;
          entries = ap (λ es. Soa s r ∷ es) (w.entries ∙ (ap (λ es. map Other w.deleted ++ Soa w.after w.new ∷ es) w.adds.entries
              ∙ sym (append_assoc (map Other w.deleted) (Soa w.after w.new ∷ map Other w.adds.rs) es')))
              ∙ sym (append_assoc (entries_of b) (flat_map entries_of w.adds.batches) (Soa a w.adds.last ∷ []));
          updates = e ∙ (ap (λ us. BeginBatchDelete s r ∷ us) (w.updates ∙ (ap (λ us. flat_map deletions w.deleted ++ BeginBatchAdd w.after w.new ∷ us) w.adds.updates
              ∙ sym (append_assoc (flat_map deletions w.deleted) (BeginBatchAdd w.after w.new ∷ flat_map additions w.adds.rs) us')))
              ∙ sym (append_assoc (updates_of b) (flat_map updates_of w.adds.batches) (Finished a w.adds.last ∷ [])));
        }

    deleted_more : (r : Option R) → Deletes a es us → vs ≡ deletions r ++ us → Deletes a (Other r ∷ es) vs
    deleted_more r w e = record {
      deleted = r ∷ w.deleted;
      after = w.after;
      new = w.new;
      es' = w.es';
      us' = w.us';
      entries = ap (λ es. Other r ∷ es) w.entries;
      updates = e ∙ (ap (λ us. deletions r ++ us) w.updates ∙ sym (append_assoc (deletions r) (flat_map deletions w.deleted) (BeginBatchAdd w.after w.new ∷ w.us')));
      adds = w.adds;
    }

    turned : (s : ℕ) (r : R) → Adds a s es us → vs ≡ BeginBatchAdd s r ∷ us → Deletes a (Soa s r ∷ es) vs
    turned s r w e = record {
      deleted = [];
      after = s;
      new = r;
      es' = es;
      us' = us;
      entries = refl;
      updates = e;
      adds = w;
    }

  adding_more : (a p s : ℕ) (r : R) (es : List (Entry R)) (us : List (Update R)) → ((vs : List (Update R)) → run same kind (Deleting a) es ≡ Some (Done, vs) → Deletes a es vs) → run same kind (Adding a p) (Soa s r ∷ es) ≡ Some (Done, us) → Adds a p (Soa s r ∷ es) us
  adding_more a p s r es us dels e = by (s == a) refl e
    where
      ends : s ≡ a → (c : Bool) → (p == a) ≡ c → then_run es (if c then Some (Done, Finished a r ∷ []) else None) ≡ Some (Done, us) → Adds a p (Soa s r ∷ es) us
      ends z true q e =
          let v = done_behind es (Finished a r ∷ []) us e in
          record {
            rs = [];
            batches = [];
            last = r;
            others = tt;
            reached = is_equal p a q;
            entries = ap (λ n. Soa n r ∷ es) z ∙ ap (λ es. Soa a r ∷ es) v.0;
            updates = v.1;
          }
      ends z false q e = absurd (cc)

      by : (b : Bool) → (s == a) ≡ b → then_run es (if b then at_last p a r else Some (Deleting a, BeginBatchDelete s r ∷ [])) ≡ Some (Done, us) → Adds a p (Soa s r ∷ es) us
      by true z e = ends (is_equal s a z) (p == a) refl e
      by false z e = let v = started (BeginBatchDelete s r ∷ []) us (run same kind (Deleting a) es) e in batch_more a es v.0 us p s r (dels v.0 v.1) v.2 (is_other s a z)

  changes_is : (m : Option ℕ) (a : ℕ) (es : List (Entry R)) (us : List (Update R)) → run same kind (mode m a) es ≡ Some (Done, us) → Rest m a es us
  changes_is None a [] us e = absurd (let z : Deleting a ≡ Done = ap (λ (s : Step R). state_in s) e in cc)
  changes_is (Some p) a [] us e = absurd (let z : Adding a p ≡ Done = ap (λ (s : Step R). state_in s) e in cc)
  changes_is None a (Other r ∷ es) us e = let v = started (deletions r) us (run same kind (Deleting a) es) e in deleted_more a es v.0 us r (changes_is None a es v.0 v.1) v.2
  changes_is None a (Soa s r ∷ es) us e = let v = started (BeginBatchAdd s r ∷ []) us (run same kind (Adding a s) es) e in turned a es v.0 us s r (changes_is (Some s) a es v.0 v.1) v.2
  changes_is (Some p) a (Other r ∷ es) us e = let v = started (additions r) us (run same kind (Adding a p) es) e in one_more a es v.0 us p r (changes_is (Some p) a es v.0 v.1) v.2
  changes_is (Some p) a (Soa s r ∷ es) us e = adding_more a p s r es us (changes_is None a es) e

-- ---- a transfer of one of the forms is run to its end

module _ {R : Type 0} (same : R → R → Bool) where
  whole_run : (kind : XfrKind) (a : ℕ) (first last : R) → same first last ≡ true → (rs : List (Option R)) → run same kind Begin (Soa a first ∷ (map Other rs ++ Soa a last ∷ [])) ≡ Some (Done, DeleteAllRecords ∷ (flat_map additions rs ++ Finished a last ∷ []))
  whole_run Axfr a first last s rs = ap (behind (DeleteAllRecords ∷ [])) (whole_on same Axfr a first last s rs)
  whole_run Ixfr a first last s [] =
      ap (λ s. behind [] (then_run same Ixfr [] s))
      (same_serial a (at_whole same (DeleteAllRecords ∷ []) a first last) (Some (Deleting a, BeginBatchDelete a last ∷ [])) ∙ whole_end same Ixfr (DeleteAllRecords ∷ []) a first last s)
  whole_run Ixfr a first last s (r ∷ rs) =
      ap (λ s. behind [] (behind (DeleteAllRecords ∷ additions r) s)) (whole_on same Ixfr a first last s rs)
      ∙ ap (λ us. Some (Done, DeleteAllRecords ∷ us)) (sym (append_assoc (additions r) (flat_map additions rs) (Finished a last ∷ [])))

  changes_run : (a : ℕ) (first last : R) (b : Batch R) (bs : List (Batch R)) → AllByRecursion (λ b. b.before ≢ a) (b ∷ bs) → reached_by b.after bs ≡ a
      → run same Ixfr Begin (Soa a first ∷ (flat_map entries_of (b ∷ bs) ++ Soa a last ∷ [])) ≡ Some (Done, flat_map updates_of (b ∷ bs) ++ Finished a last ∷ [])
  changes_run a first last b bs others reached =
      behind_nothing (run same Ixfr (FirstSoa a first) (flat_map entries_of (b ∷ bs) ++ Soa a last ∷ []))
      ∙ (ap (run same Ixfr (FirstSoa a first)) (append_assoc (entries_of b) (flat_map entries_of bs) (Soa a last ∷ []))
      ∙ (ap (then_run same Ixfr (behind_first same Ixfr b ++ (flat_map entries_of bs ++ Soa a last ∷ []))) (other_serial b.before a (at_whole same (DeleteAllRecords ∷ []) a first b.old) (Some (Deleting a, BeginBatchDelete b.before b.old ∷ [])) others.0)
      ∙ (ap (behind (BeginBatchDelete b.before b.old ∷ [])) (batch_on same Ixfr a b (flat_map entries_of bs ++ Soa a last ∷ []) ∙ ap (behind (changes_of_batch same Ixfr b)) (batches_on same Ixfr a b.after bs last others.1 reached))
      ∙ ap (λ us. Some (Done, us)) (sym (append_assoc (updates_of b) (flat_map updates_of bs) (Finished a last ∷ []))))))

  pub readings_run : (kind : XfrKind) (es : List (Entry R)) (us : List (Update R)) → IsTransfer same kind es us → run same kind Begin es ≡ Some (Done, us)
  readings_run Axfr es us t = ap (run same Axfr Begin) t.entries ∙ (whole_run Axfr t.serial t.first t.last t.closes t.between ∙ ap (λ us. Some (Done, us)) (sym t.updates))
  readings_run Ixfr es us (inl t) = ap (run same Ixfr Begin) t.entries ∙ (whole_run Ixfr t.serial t.first t.last t.closes t.between ∙ ap (λ us. Some (Done, us)) (sym t.updates))
  readings_run Ixfr es us (inr t) = ap (run same Ixfr Begin) t.entries ∙ (changes_run t.serial t.first t.last t.batch t.batches t.others t.reached ∙ ap (λ us. Some (Done, us)) (sym t.updates))

  -- ---- what is run to its end has one of the forms

  axfr_is : (a : ℕ) (first : R) (es : List (Entry R)) (us : List (Update R)) → run same Axfr Begin (Soa a first ∷ es) ≡ Some (Done, us) → IsWhole same (Soa a first ∷ es) us
  axfr_is a first es us e =
      let v = started same Axfr (DeleteAllRecords ∷ []) us (run same Axfr (Whole a first) es) e in
      let w = whole_is same Axfr a first es v.0 v.1 in
      record {
        serial = a;
        first = first;
        between = w.rs;
        last = w.last;
        closes = w.closes;
        entries = ap (λ es. Soa a first ∷ es) w.entries;
        updates = v.2 ∙ ap (λ us. DeleteAllRecords ∷ us) w.updates;
      }

  changes_of : (a : ℕ) (first : R) (s : ℕ) (r : R) (es : List (Entry R)) (us vs : List (Update R)) → s ≢ a → Deletes a es us → vs ≡ BeginBatchDelete s r ∷ us → IsChanges (Soa a first ∷ (Soa s r ∷ es)) vs
  changes_of a first s r es us vs ne w e =
      let b : Batch R = record { before = s; old = r; deleted = w.deleted; after = w.after; new = w.new; added = w.adds.rs } in
      let es' : List (Entry R) = flat_map entries_of w.adds.batches ++ Soa a w.adds.last ∷ [] in
      let us' : List (Update R) = flat_map updates_of w.adds.batches ++ Finished a w.adds.last ∷ [] in
      record {
        serial = a;
        first = first;
        batch = b;
        batches = w.adds.batches;
        last = w.adds.last;
        others = (ne, w.adds.others);
        reached = w.adds.reached;
        entries = ap (λ es. Soa a first ∷ es) (ap (λ es. Soa s r ∷ es) (w.entries ∙ (ap (λ es. map Other w.deleted ++ Soa w.after w.new ∷ es) w.adds.entries
            ∙ sym (append_assoc (map Other w.deleted) (Soa w.after w.new ∷ map Other w.adds.rs) es')))
            ∙ sym (append_assoc (entries_of b) (flat_map entries_of w.adds.batches) (Soa a w.adds.last ∷ [])));
        updates = e ∙ (ap (λ us. BeginBatchDelete s r ∷ us) (w.updates ∙ (ap (λ us. flat_map deletions w.deleted ++ BeginBatchAdd w.after w.new ∷ us) w.adds.updates
            ∙ sym (append_assoc (flat_map deletions w.deleted) (BeginBatchAdd w.after w.new ∷ flat_map additions w.adds.rs) us')))
            ∙ sym (append_assoc (updates_of b) (flat_map updates_of w.adds.batches) (Finished a w.adds.last ∷ [])));
      }

  -- behind the first SOA of changes
  second_is : (a : ℕ) (first : R) (es : List (Entry R)) (us : List (Update R)) → run same Ixfr (FirstSoa a first) es ≡ Some (Done, us) → IsWhole same (Soa a first ∷ es) us ⊎ IsChanges (Soa a first ∷ es) us
  second_is a first [] us e = absurd (let z : FirstSoa a first ≡ Done = ap (λ (s : Step R). state_in s) e in cc)
  second_is a first (Other r ∷ es) us e =
      let v = started same Ixfr (DeleteAllRecords ∷ additions r) us (run same Ixfr (Whole a first) es) e in
      let w = whole_is same Ixfr a first es v.0 v.1 in
      inl (record {
        serial = a;
        first = first;
        between = r ∷ w.rs;
        last = w.last;
        closes = w.closes;
        entries = ap (λ es. Soa a first ∷ Other r ∷ es) w.entries;
        updates = v.2 ∙ (ap (λ us. DeleteAllRecords ∷ (additions r ++ us)) w.updates ∙ ap (λ us. DeleteAllRecords ∷ us) (sym (append_assoc (additions r) (flat_map additions w.rs) (Finished a w.last ∷ []))));
      })
  second_is a first (Soa s r ∷ es) us e = by (s == a) refl e
    where
      by : (b : Bool) → (s == a) ≡ b → then_run same Ixfr es (if b then at_whole same (DeleteAllRecords ∷ []) a first r else Some (Deleting a, BeginBatchDelete s r ∷ [])) ≡ Some (Done, us) → IsWhole same (Soa a first ∷ (Soa s r ∷ es)) us ⊎ IsChanges (Soa a first ∷ (Soa s r ∷ es)) us
      by true z e =
          let h = whole_here same Ixfr (DeleteAllRecords ∷ []) a first r es us e in
          inl (record {
            serial = a;
            first = first;
            between = [];
            last = r;
            closes = h.closes;
            entries = ap (λ es. Soa a first ∷ es) (ap (λ n. Soa n r ∷ es) (is_equal s a z) ∙ ap (λ es. Soa a r ∷ es) h.nothing);
            updates = h.updates;
          })
      by false z e =
          let v = started same Ixfr (BeginBatchDelete s r ∷ []) us (run same Ixfr (Deleting a) es) e in
          inr (changes_of a first s r es v.0 us (is_other s a z) (changes_is same Ixfr None a es v.0 v.1) v.2)

  pub runs_read : (kind : XfrKind) (es : List (Entry R)) (us : List (Update R)) → run same kind Begin es ≡ Some (Done, us) → IsTransfer same kind es us
  runs_read Axfr [] us e = absurd (let z : Begin ≡ Done = ap (λ (s : Step R). state_in s) e in cc)
  runs_read Ixfr [] us e = absurd (let z : Begin ≡ Done = ap (λ (s : Step R). state_in s) e in cc)
  runs_read Axfr (Other r ∷ es) us e = absurd (cc)
  runs_read Ixfr (Other r ∷ es) us e = absurd (cc)
  runs_read Axfr (Soa a first ∷ es) us e = axfr_is a first es us e
  runs_read Ixfr (Soa a first ∷ es) us e = second_is a first es us (sym (behind_nothing (run same Ixfr (FirstSoa a first) es)) ∙ e)
