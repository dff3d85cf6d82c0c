-- What is left of a zone once its updates are applied.
use Rattle.std.proofs.Common.{◌≡◌, ℕ, List, [], ◌∷◌, ◌++◌, Option, Some, None, Ok, refl, sym, ap, ◌∙◌}
use Rattle.zone_reading.specs.declared.steps.Update.{Update}
use Rattle.zone_reading.specs.declared.steps.Update.TheVariants.{DeleteAllRecords, BeginBatchDelete, DeleteRecord, BeginBatchAdd, AddRecord, Finished}
use Rattle.zone_records.specs.Changing.{AreMade}
use Rattle.zone_records.specs.Folding.{Applies, Records, Zone, first_wrong, folded, has, misfits, ok_unless}
use Rattle.zone_records.specs.declared.record.ZoneRecord.{ZoneRecord}
use Rattle.zone_records.specs.declared.zone.ApplyFault.{ApplyFault}
use Rattle.zone_records.proofs.Folds.{missing_with_end, with_end}
use Rattle.zone_records.proofs.Serials.{leads_to}

pub no_wrong : (o : Option ApplyFault) (x : Unit {0}) → Ok x ≡ ok_unless o → o ≡ None
no_wrong None x e = refl
no_wrong (Some wrong) x e = absurd (cc)

misfits_with_end : (us : List (Update ZoneRecord)) (s : ℕ) (x : ZoneRecord) (rs : Records) → misfits (us ++ Finished s x ∷ []) rs ≡ misfits us rs
misfits_with_end [] s x rs = refl
misfits_with_end (DeleteAllRecords ∷ us) s x rs = refl
misfits_with_end (BeginBatchDelete t y ∷ us) s x rs = missing_with_end (BeginBatchDelete t y ∷ us) s x rs
misfits_with_end (DeleteRecord y ∷ us) s x rs = missing_with_end (DeleteRecord y ∷ us) s x rs
misfits_with_end (BeginBatchAdd t y ∷ us) s x rs = missing_with_end (BeginBatchAdd t y ∷ us) s x rs
misfits_with_end (AddRecord y ∷ us) s x rs = missing_with_end (AddRecord y ∷ us) s x rs
misfits_with_end (Finished t y ∷ us) s x rs = missing_with_end (Finished t y ∷ us) s x rs

pub applied : (old : Zone) (all init : List (Update ZoneRecord)) (s : ℕ) (x : ZoneRecord) (new : List ZoneRecord) (count : ℕ) → first_wrong old.serial all ≡ None → all ≡ init ++ Finished s x ∷ []
    → AreMade (has old.records) init x new → count ≡ misfits init (has old.records) → Applies old all (record { apex = old.apex; serial = Some s; records = new }) count
applied old all init s x new count none ends made c = record {
  apex = refl;
  serial = s;
  leads = leads_to old.serial all init s x none ends;
  has_serial = refl;
  records = λ r. made r ∙ (ap (λ (t : Records). t r) (sym (with_end init s x (has old.records))) ∙ ap (λ (us : List (Update ZoneRecord)). folded us (has old.records) r) (sym ends));
  missed = c ∙ (sym (misfits_with_end init s x (has old.records)) ∙ ap (λ (us : List (Update ZoneRecord)). misfits us (has old.records)) (sym ends));
}
