-- What a transfer makes is a zone.
use Rattle.std.proofs.Common.{◌≡◌, ℕ, ◌==◌, Bool, true, false, List, [], ◌∷◌, ◌++◌, Option, Some, None, Result, Ok, Err, refl, sym, ap, subst, ◌∙◌, arith}
use Rattle.std.specs.Prelude.{if◌then◌else◌, not, ◌&&◌, ◌||◌, option_and_then, option_map}
use Rattle.std.specs.List.{AllByRecursion}
use Rattle.std.specs.declared.cmp.Ordering.{Ordering}
use Rattle.std.specs.declared.cmp.Ordering.TheVariants.{Less, Equal, Greater}
use Rattle.std.specs.Ordering.{is_eq, ordering_reverse}
use Rattle.std.proofs.lemmas.Bool.Decides.{nat_tests}
use Rattle.dns_values.specs.declared.error.ParseError.{ParseError}
use Rattle.dns_base.specs.Data.{Data}
use Rattle.dns_base.specs.Header.{rcode_of}
use Rattle.dns_base.specs.Message.{Known, answer_items}
use Rattle.dns_names.specs.Name.{Labels, same_name}
use Rattle.zone_reading.specs.declared.steps.Entry.{Entry}
use Rattle.zone_reading.specs.declared.steps.Entry.TheVariants.{Soa, Other}
use Rattle.zone_reading.specs.declared.steps.State.{State}
use Rattle.zone_reading.specs.declared.steps.State.TheVariants.{Begin, FirstSoa, Whole, Deleting, Adding, Done}
use Rattle.zone_reading.specs.declared.steps.Update.{Update}
use Rattle.zone_reading.specs.declared.steps.Update.TheVariants.{DeleteAllRecords, BeginBatchDelete, DeleteRecord, BeginBatchAdd, AddRecord, Finished}
use Rattle.zone_reading.specs.declared.steps.XfrKind.{XfrKind}
use Rattle.zone_reading.specs.declared.steps.XfrKind.TheVariants.{Axfr, Ixfr}
use Rattle.zone_reading.specs.Running.{Step, additions, at_last, at_whole, behind, deletions, next, run}
use Rattle.zone_reading.proofs.Runs.{readings_run}
use Rattle.zone_records.specs.Folding.{Records, checked, first_wrong, folded, folded_one, has, last_serial, serial_unless}
use Rattle.zone_records.specs.Held.{HeldLaw, IsHeld, IsSoaOf}
use Rattle.zone_records.specs.Records.{entry_by, entry_of, entry_with, is_meta, is_same, is_soa, is_within, may_come, record_cmp, record_of, record_total, serial_of, soa_serial}
use Rattle.zone_records.specs.Transfers.{Entries, all_entries, entries_in, entries_of, if_some}
use Rattle.zone_records.specs.declared.record.ZoneRecord.{ZoneRecord}
use Rattle.zone_records.specs.declared.zone.ApplyFault.{ApplyFault}
use Rattle.zone_records.proofs.Comparing.{equal_records}
use Rattle.zone_records.proofs.Within.{within_where_same}

abbrev Updates : Type 0
Updates = List (Update ZoneRecord)

abbrev Left : Type 0
Left = Step ZoneRecord

-- ---- tests

left_true : (a b : Bool) → (a && b) ≡ true → a ≡ true
left_true true b e = refl
left_true false b e = absurd (cc)

right_true : (a b : Bool) → (a && b) ≡ true → b ≡ true
right_true true b e = e
right_true false b e = absurd (cc)

not_true : (b : Bool) → not b ≡ true → b ≡ false
not_true true e = absurd (cc)
not_true false e = refl

numbers_equal : (a b : ℕ) → (a == b) ≡ true → a ≡ b
numbers_equal a b e = grind (arith, nat_tests)

is_equal : (o : Ordering) → is_eq o ≡ true → o ≡ Equal
is_equal Less e = absurd (cc)
is_equal Equal e = refl
is_equal Greater e = absurd (cc)

same_record : (x r : ZoneRecord) → is_same x r ≡ true → x ≡ r
same_record x r e = equal_records x r (is_equal (record_cmp x r) e)

itself : (x : ZoneRecord) → is_same x x ≡ true
itself x = go (record_cmp x x) (record_total.antisymm x x)
  where
    go : (o : Ordering) → o ≡ ordering_reverse o → is_eq o ≡ true
    go Less e = absurd (cc)
    go Equal e = refl
    go Greater e = absurd (cc)

-- ---- records of messages

-- what an entry has is held
abbrev EntryHeld : Labels → Entry ZoneRecord → Type 0
EntryHeld apex (Soa n r) = IsHeld apex r × IsSoaOf apex r
EntryHeld apex (Other None) = Unit {0}
EntryHeld apex (Other (Some r)) = IsHeld apex r

abbrev EntriesHeld : Labels → Entries → Type 0
EntriesHeld apex es = AllByRecursion (λ e. EntryHeld apex e) es

module _ (apex : Labels) (known : Known) where
  held_of : (content : Data) → may_come known ≡ true → is_within apex known.entry.owner ≡ true → IsHeld apex (record_of known content)
  held_of content m w = record {
    class = numbers_equal known.entry.class 1 (left_true (known.entry.class == 1) (not (is_meta known.entry.rtype)) m);
    rtype = not_true (is_meta known.entry.rtype) (right_true (known.entry.class == 1) (not (is_meta known.entry.rtype)) m);
    owner = known.entry.owner;
    owner_is = refl;
    within = w;
  }

  soa_of : (content : Data) → (known.entry.rtype == 6) ≡ true → same_name known.entry.owner apex ≡ true → IsSoaOf apex (record_of known content)
  soa_of content t s = record { soa = t; owner = known.entry.owner; owner_is = refl; is_apex = s }

  module _ (e : Entry ZoneRecord) (content : Data) (m : may_come known ≡ true) where
    other_held : (b : Bool) → is_within apex known.entry.owner ≡ b → Some (Other (if b then Some (record_of known content) else None)) ≡ Some e → EntryHeld apex e
    other_held true w i = let x : Other (Some (record_of known content)) ≡ e = cc in subst (λ (y : Entry ZoneRecord). EntryHeld apex y) x (held_of content m w)
    other_held false w i = let x : Other None ≡ e = cc in subst (λ (y : Entry ZoneRecord). EntryHeld apex y) x tt

    soa_held : (known.entry.rtype == 6) ≡ true → (n : ℕ) (b : Bool) → same_name known.entry.owner apex ≡ b → (if b then Some (Soa n (record_of known content)) else None) ≡ Some e → EntryHeld apex e
    soa_held t n true s i =
        let x : Soa n (record_of known content) ≡ e = cc in
        subst (λ (y : Entry ZoneRecord). EntryHeld apex y) x (held_of content m (within_where_same apex known.entry.owner s), soa_of content t s)
    soa_held t n false s i = absurd (cc)

    serial_held : (known.entry.rtype == 6) ≡ true → (o : Option ℕ) → entry_by apex known content o ≡ Some e → EntryHeld apex e
    serial_held t None i = other_held (is_within apex known.entry.owner) refl i
    serial_held t (Some n) i = soa_held t n (same_name known.entry.owner apex) refl i

    by_type : (b : Bool) → (known.entry.rtype == 6) ≡ b → entry_by apex known content (if b then soa_serial content else None) ≡ Some e → EntryHeld apex e
    by_type true t i = serial_held t (soa_serial content) i
    by_type false t i = other_held (is_within apex known.entry.owner) refl i

  entry_held : (e : Entry ZoneRecord) → entry_of apex known ≡ Some e → EntryHeld apex e
  entry_held e i = go known.says i
    where
      may : (content : Data) (b : Bool) → may_come known ≡ b → (if b then entry_by apex known content (serial_of known content) else None) ≡ Some e → EntryHeld apex e
      may content true m i = by_type e content m (known.entry.rtype == 6) refl i
      may content false m i = absurd (cc)

      go : (o : Option Data) → option_and_then (entry_with apex known) o ≡ Some e → EntryHeld apex e
      go None i = absurd (cc)
      go (Some content) i = may content (may_come known) refl i

module _ (apex : Labels) where
  both_entries : (es fs : Entries) → EntriesHeld apex es → EntriesHeld apex fs → EntriesHeld apex (es ++ fs)
  both_entries [] fs h k = k
  both_entries (e ∷ es) fs h k = (h.0, both_entries es fs h.1 k)

  items_held : (items : List (Result Known ParseError)) (es : Entries) → entries_in apex items ≡ Some es → EntriesHeld apex es
  items_held [] es i = let x : [] ≡ es = cc in subst (λ (ys : Entries). EntriesHeld apex ys) x tt
  items_held (Err f ∷ items) es i = absurd (cc)
  items_held (Ok known ∷ items) es i = go (entry_of apex known) (entries_in apex items) refl refl (λ more e. items_held items more e) i
    where
      go : (o : Option (Entry ZoneRecord)) (p : Option Entries) → entry_of apex known ≡ o → entries_in apex items ≡ p → ((more : Entries) → entries_in apex items ≡ Some more → EntriesHeld apex more)
          → option_and_then (λ entry. option_map (λ more. entry ∷ more) p) o ≡ Some es → EntriesHeld apex es
      go None p a b rest i = absurd (cc)
      go (Some e) None a b rest i = absurd (cc)
      go (Some e) (Some more) a b rest i = let x : e ∷ more ≡ es = cc in subst (λ (ys : Entries). EntriesHeld apex ys) x (entry_held apex known e a, rest more b)

  message_held : (message : List ℕ) (es : Entries) → entries_of apex message ≡ Some es → EntriesHeld apex es
  message_held message es i = go (rcode_of message == 0) i
    where
      filled : (items : List (Result Known ParseError)) (p : Option Entries) → entries_in apex items ≡ p → if_some apex p ≡ Some es → EntriesHeld apex es
      filled items None a i = absurd (cc)
      filled items (Some []) a i = absurd (cc)
      filled items (Some (e ∷ more)) a i = items_held items es (a ∙ i)

      some : (o : Option (List (Result Known ParseError))) → if_some apex (option_and_then (entries_in apex) o) ≡ Some es → EntriesHeld apex es
      some None i = absurd (cc)
      some (Some items) i = filled items (entries_in apex items) refl i

      go : (b : Bool) → (if b then if_some apex (option_and_then (entries_in apex) (answer_items message)) else None) ≡ Some es → EntriesHeld apex es
      go true i = some (answer_items message) i
      go false i = absurd (cc)

  all_held : (messages : List (List ℕ)) (es : Entries) → all_entries apex messages ≡ Some es → EntriesHeld apex es
  all_held [] es i = let x : [] ≡ es = cc in subst (λ (ys : Entries). EntriesHeld apex ys) x tt
  all_held (message ∷ messages) es i = go (entries_of apex message) (all_entries apex messages) refl refl (λ more e. all_held messages more e) i
    where
      go : (o p : Option Entries) → entries_of apex message ≡ o → all_entries apex messages ≡ p → ((more : Entries) → all_entries apex messages ≡ Some more → EntriesHeld apex more)
          → option_and_then (λ first. option_map (λ more. first ++ more) p) o ≡ Some es → EntriesHeld apex es
      go None p a b rest i = absurd (cc)
      go (Some first) None a b rest i = absurd (cc)
      go (Some first) (Some more) a b rest i = let x : first ++ more ≡ es = cc in subst (λ (ys : Entries). EntriesHeld apex ys) x (both_entries first more (message_held message first a) (rest more b))

  -- ---- updates

  abbrev UpdateHeld : Update ZoneRecord → Type 0
  UpdateHeld DeleteAllRecords = Unit {0}
  UpdateHeld (BeginBatchDelete n r) = Unit {0}
  UpdateHeld (DeleteRecord r) = Unit {0}
  UpdateHeld (BeginBatchAdd n r) = IsHeld apex r
  UpdateHeld (AddRecord r) = IsHeld apex r
  UpdateHeld (Finished n r) = IsHeld apex r × IsSoaOf apex r

  abbrev UpdatesHeld : Updates → Type 0
  UpdatesHeld us = AllByRecursion (λ u. UpdateHeld u) us

  both_held : (us vs : Updates) → UpdatesHeld us → UpdatesHeld vs → UpdatesHeld (us ++ vs)
  both_held [] vs h k = k
  both_held (u ∷ us) vs h k = (h.0, both_held us vs h.1 k)

  abbrev StepHeld : Left → Type 0
  StepHeld None = Unit {0}
  StepHeld (Some x) = UpdatesHeld x.1

  added_are : (r : Option ZoneRecord) → EntryHeld apex (Other r) → UpdatesHeld (additions r)
  added_are None h = tt
  added_are (Some r) h = (h, tt)

  deleted_are : (r : Option ZoneRecord) → UpdatesHeld (deletions r)
  deleted_are None = tt
  deleted_are (Some r) = (tt, tt)

  if_held : (b : Bool) (l m : Left) → StepHeld l → StepHeld m → StepHeld (if b then l else m)
  if_held true l m h k = h
  if_held false l m h k = k

  whole_held : (us : Updates) (a : ℕ) (f r : ZoneRecord) → UpdatesHeld us → EntryHeld apex (Soa a r) → StepHeld (at_whole is_same us a f r)
  whole_held us a f r h k = if_held (is_same f r) (Some (Done, us ++ Finished a r ∷ [])) None (both_held us (Finished a r ∷ []) h (k, tt)) tt

  next_held : (kind : XfrKind) (state : State ZoneRecord) (e : Entry ZoneRecord) → EntryHeld apex e → StepHeld (next is_same kind state e)
  next_held kind Begin (Other r) h = tt
  next_held Axfr Begin (Soa n r) h = (tt, tt)
  next_held Ixfr Begin (Soa n r) h = tt
  next_held kind (FirstSoa a f) (Other r) h = (tt, added_are r h)
  next_held kind (FirstSoa a f) (Soa n r) h =
      if_held (n == a) (at_whole is_same (DeleteAllRecords ∷ []) a f r) (Some (Deleting a, BeginBatchDelete n r ∷ [])) (whole_held (DeleteAllRecords ∷ []) a f r (tt, tt) h) (tt, tt)
  next_held kind (Whole a f) (Other r) h = added_are r h
  next_held kind (Whole a f) (Soa n r) h = if_held (n == a) (at_whole is_same [] a f r) None (whole_held [] a f r tt h) tt
  next_held kind (Deleting a) (Other r) h = deleted_are r
  next_held kind (Deleting a) (Soa n r) h = (h.0, tt)
  next_held kind (Adding a p) (Other r) h = added_are r h
  next_held kind (Adding a p) (Soa n r) h =
      if_held (n == a) (at_last p a r) (Some (Deleting a, BeginBatchDelete n r ∷ [])) (if_held (p == a) (Some (Done, Finished a r ∷ [])) None (h, tt) tt) (tt, tt)
  next_held kind Done (Other r) h = tt
  next_held kind Done (Soa n r) h = tt

  behind_held : (us : Updates) (l : Left) → UpdatesHeld us → StepHeld l → StepHeld (behind us l)
  behind_held us None h k = tt
  behind_held us (Some x) h k = both_held us x.1 h k

  run_held : (kind : XfrKind) (state : State ZoneRecord) (es : Entries) → EntriesHeld apex es → StepHeld (run is_same kind state es)
  run_held kind state [] h = tt
  run_held kind state (e ∷ es) h = go (next is_same kind state e) (next_held kind state e h.0) (λ s. run_held kind s es h.1)
    where
      go : (l : Left) → StepHeld l → ((s : State ZoneRecord) → StepHeld (run is_same kind s es)) → StepHeld (option_and_then (λ (x : State ZoneRecord × Updates). behind x.1 (run is_same kind x.0 es)) l)
      go None h rest = tt
      go (Some x) h rest = behind_held x.1 (run is_same kind x.0 es) h (rest x.0)

  -- ---- what they leave

  abbrev RecordsHeld : Records → Type 0
  RecordsHeld rs = (r : ZoneRecord) → rs r ≡ true → IsHeld apex r

  added_held : (x : ZoneRecord) (rs : Records) → IsHeld apex x → RecordsHeld rs → RecordsHeld (λ r. is_same x r || rs r)
  added_held x rs h k = λ r i. go r (is_same x r) refl i
    where
      go : (r : ZoneRecord) (b : Bool) → is_same x r ≡ b → (b || rs r) ≡ true → IsHeld apex r
      go r true e i = subst (λ (y : ZoneRecord). IsHeld apex y) (same_record x r e) h
      go r false e i = k r i

  one_held : (u : Update ZoneRecord) (rs : Records) → UpdateHeld u → RecordsHeld rs → RecordsHeld (folded_one u rs)
  one_held DeleteAllRecords rs h k = λ r i. absurd (cc)
  one_held (BeginBatchDelete n x) rs h k = λ r i. k r (right_true (not (is_soa r)) (rs r) i)
  one_held (DeleteRecord x) rs h k = λ r i. k r (right_true (not (is_same x r)) (rs r) i)
  one_held (BeginBatchAdd n x) rs h k = added_held x rs h k
  one_held (AddRecord x) rs h k = added_held x rs h k
  one_held (Finished n x) rs h k = added_held x (λ r. not (is_soa r) && rs r) h.0 (λ r i. k r (right_true (not (is_soa r)) (rs r) i))

  held_after : (us : Updates) (rs : Records) → UpdatesHeld us → RecordsHeld rs → RecordsHeld (folded us rs)
  held_after [] rs h k = k
  held_after (u ∷ us) rs h k = held_after us (folded_one u rs) h.1 (one_held u rs h.0 k)

  -- the one SOA
  record SoaIn (rs : Records) : Type 0 where
    soa : ZoneRecord
    soa_is : IsSoaOf apex soa
    there : rs soa ≡ true
    sole : (r : ZoneRecord) → is_soa r ≡ true → rs r ≡ true → r ≡ soa

  finished_soa : (n : ℕ) (x : ZoneRecord) (rs : Records) → IsSoaOf apex x → SoaIn (folded_one (Finished n x) rs)
  finished_soa n x rs h = record {
    soa = x;
    soa_is = h;
    there = ap (λ (b : Bool). b || (not (is_soa x) && rs x)) (itself x);
    sole = λ r s i. go r (is_same x r) refl (ap (λ (b : Bool). is_same x r || (not b && rs r)) (sym s) ∙ i);
  }
    where
      go : (r : ZoneRecord) (b : Bool) → is_same x r ≡ b → (b || (not true && rs r)) ≡ true → r ≡ x
      go r true e i = sym (same_record x r e)
      go r false e i = absurd (cc)

  soa_after : (us : Updates) (rs : Records) (n : ℕ) → UpdatesHeld us → last_serial us ≡ Some n → SoaIn (folded us rs)
  soa_after [] rs n h l = absurd (cc)
  soa_after (Finished m x ∷ []) rs n h l = finished_soa m x rs h.0.1
  soa_after (DeleteAllRecords ∷ []) rs n h l = absurd (cc)
  soa_after (BeginBatchDelete m x ∷ []) rs n h l = absurd (cc)
  soa_after (DeleteRecord x ∷ []) rs n h l = absurd (cc)
  soa_after (BeginBatchAdd m x ∷ []) rs n h l = absurd (cc)
  soa_after (AddRecord x ∷ []) rs n h l = absurd (cc)
  soa_after (u ∷ v ∷ us) rs n h l = soa_after (v ∷ us) (folded_one u rs) n h.1 l

ends_so : (have : Option ℕ) (us : Updates) (n : ℕ) → checked have us ≡ Ok n → last_serial us ≡ Some n
ends_so have us n e = go (first_wrong have us) (last_serial us) e
  where
    go : (w : Option ApplyFault) (l : Option ℕ) → serial_unless w l ≡ Ok n → l ≡ Some n
    go (Some w) l i = absurd (cc)
    go None None i = absurd (cc)
    go None (Some m) i = let x : m ≡ n = cc in ap Some x

pub held : HeldLaw
held kind messages es us old new misfit come transfer a h =
    let ran : run is_same kind Begin es ≡ Some (Done, us) = readings_run is_same kind es us transfer in
    let updates : UpdatesHeld old.apex us = subst (λ (l : Left). StepHeld old.apex l) ran (run_held old.apex kind Begin es (all_held old.apex messages es come)) in
    let s = soa_after old.apex us (has old.records) a.serial updates (ends_so old.serial us a.serial a.leads) in
    let after = held_after old.apex us (has old.records) updates h in
    record {
      soa = s.soa;
      soa_is = subst (λ (x : Labels). IsSoaOf x s.soa) (sym a.apex) s.soa_is;
      has_soa = a.records s.soa ∙ s.there;
      sole = λ r e i. s.sole r e (sym (a.records r) ∙ i);
      held = λ r i. subst (λ (x : Labels). IsHeld x r) (sym a.apex) (after r (sym (a.records r) ∙ i));
    }
