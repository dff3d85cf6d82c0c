-- A whole zone has the records that its updates add, and its SOA.
use Rattle.std.proofs.Common.{◌≡◌, Bool, true, false, List, [], ◌∷◌, ◌++◌, refl, sym, ap, ◌∙◌}
use Rattle.std.specs.Prelude.{not, ◌&&◌, ◌||◌, if◌then◌else◌}
use Rattle.std.proofs.lemmas.List.Folds.{list_any-append}
use Rattle.zone_reading.specs.declared.steps.Update.{Update}
use Rattle.zone_reading.specs.declared.steps.Update.TheVariants.{DeleteAllRecords, BeginBatchDelete, DeleteRecord, BeginBatchAdd, AddRecord, Finished}
use Rattle.zone_records.specs.Changing.{AreMade, all_added, are_additions, is_plain}
use Rattle.zone_records.specs.Folding.{Records, folded, has, misfits}
use Rattle.zone_records.specs.Records.{is_same, is_soa}
use Rattle.zone_records.specs.declared.record.ZoneRecord.{ZoneRecord}
use Rattle.zone_records.proofs.Folds.{alike, same_both_ways}

-- ---- truth tables

-- an SOA that is added is none of these; the record is no SOA, or is not the one that is added
soa_left : (m sr o : Bool) → (m ≡ true → true ≡ sr) → (not sr && (m || o)) ≡ (not sr && o)
soa_left true true o s = refl
soa_left true false o s = absurd (let z : true ≡ false = s refl in cc)
soa_left false sr o s = refl

other_added : (m n sr p o : Bool) → m ≡ n → (m ≡ true → false ≡ sr) → (p || (not sr && (m || o))) ≡ ((n || p) || (not sr && o))
other_added true true true p o e s = absurd (let z : false ≡ true = s refl in cc)
other_added true true false true o e s = refl
other_added true true false false o e s = refl
other_added true false sr p o e s = absurd (cc)
other_added false true sr p o e s = absurd (cc)
other_added false false sr true o e s = refl
other_added false false sr false o e s = refl

-- ---- additions

one_added : (x r : ZoneRecord) (us : List (Update ZoneRecord)) (o b : Bool) → is_soa x ≡ b
    → (has (all_added us) r || (not (is_soa r) && (is_same x r || o))) ≡ (has ((if b then [] else x ∷ []) ++ all_added us) r || (not (is_soa r) && o))
one_added x r us o true e = ap (λ (b : Bool). has (all_added us) r || b) (soa_left (is_same x r) (is_soa r) o (λ m. sym e ∙ alike x r m))
one_added x r us o false e = other_added (is_same x r) (is_same r x) (is_soa r) (has (all_added us) r) o (same_both_ways x r) (λ m. sym e ∙ alike x r m)

additions : (us : List (Update ZoneRecord)) → are_additions us ≡ true → (rs : Records) (r : ZoneRecord) → (not (is_soa r) && folded us rs r) ≡ (has (all_added us) r || (not (is_soa r) && rs r))
additions [] e rs r = refl
additions (AddRecord x ∷ us) e rs r = additions us e (λ q. is_same x q || rs q) r ∙ one_added x r us (rs r) (is_soa x) refl
additions (DeleteAllRecords ∷ us) e rs r = absurd (cc)
additions (BeginBatchDelete s x ∷ us) e rs r = absurd (cc)
additions (DeleteRecord x ∷ us) e rs r = absurd (cc)
additions (BeginBatchAdd s x ∷ us) e rs r = absurd (cc)
additions (Finished s x ∷ us) e rs r = absurd (cc)

none : (a s : Bool) → (a || (not s && false)) ≡ a
none true s = refl
none false true = refl
none false false = refl

plain : (us : List (Update ZoneRecord)) → is_plain us ≡ true → (rs : Records) (r : ZoneRecord) → (not (is_soa r) && folded us rs r) ≡ has (all_added us) r
plain [] e rs r = absurd (cc)
plain (DeleteAllRecords ∷ us) e rs r = additions us e (λ q. false) r ∙ none (has (all_added us) r) (is_soa r)
plain (AddRecord x ∷ us) e rs r = absurd (cc)
plain (BeginBatchDelete s x ∷ us) e rs r = absurd (cc)
plain (DeleteRecord x ∷ us) e rs r = absurd (cc)
plain (BeginBatchAdd s x ∷ us) e rs r = absurd (cc)
plain (Finished s x ∷ us) e rs r = absurd (cc)

last : (a m n : Bool) → m ≡ n → (a || (m || false)) ≡ (n || a)
last true true true e = refl
last true false false e = refl
last false true true e = refl
last false false false e = refl
last a true false e = absurd (cc)
last a false true e = absurd (cc)

pub whole_made : (us : List (Update ZoneRecord)) (soa : ZoneRecord) (first more ordered new : List ZoneRecord) → is_plain us ≡ true → first ≡ all_added us → more ≡ first ++ soa ∷ []
    → ((r : ZoneRecord) → has ordered r ≡ has more r) → new ≡ ordered → (rs : Records) → AreMade rs us soa new
whole_made us soa first more ordered new e f m o n rs = λ r.
    ap (λ (xs : List ZoneRecord). has xs r) n ∙ (o r ∙ (ap (λ (xs : List ZoneRecord). has xs r) m ∙ (list_any-append (is_same r) first (soa ∷ [])
    ∙ (last (has first r) (is_same r soa) (is_same soa r) (same_both_ways r soa)
    ∙ ap (λ (b : Bool). is_same soa r || b) (ap (λ (xs : List ZoneRecord). has xs r) f ∙ sym (plain us e rs r))))))

-- A whole zone has no misfits.
pub none_misfits : (us : List (Update ZoneRecord)) (rs : Records) → is_plain us ≡ true → 0 ≡ misfits us rs
none_misfits [] rs e = absurd (cc)
none_misfits (DeleteAllRecords ∷ us) rs e = refl
none_misfits (AddRecord x ∷ us) rs e = absurd (cc)
none_misfits (BeginBatchDelete s x ∷ us) rs e = absurd (cc)
none_misfits (DeleteRecord x ∷ us) rs e = absurd (cc)
none_misfits (BeginBatchAdd s x ∷ us) rs e = absurd (cc)
none_misfits (Finished s x ∷ us) rs e = absurd (cc)
