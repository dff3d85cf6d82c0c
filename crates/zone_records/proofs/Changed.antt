-- What changes leave of a list of records.
use Rattle.std.proofs.Common.{◌≡◌, ℕ, Bool, true, false, List, [], ◌++◌, refl, sym, ap, ◌∙◌}
use Rattle.std.specs.Prelude.{not, ◌&&◌, ◌||◌, cond, filter}
use Rattle.std.proofs.lemmas.List.Folds.{list_any-append}
use Rattle.std.proofs.lemmas.Map.Views.{any-filter_same}
use Rattle.zone_reading.specs.declared.steps.Update.{Update}
use Rattle.zone_records.specs.Changing.{Adds, AreMade, Folds, Removes, present, stays}
use Rattle.zone_records.specs.Folding.{has, missing}
use Rattle.zone_records.specs.Records.{is_same, is_soa}
use Rattle.zone_records.specs.declared.changes.Changes.{Changes}
use Rattle.zone_records.specs.declared.record.ZoneRecord.{ZoneRecord}
use Rattle.zone_records.proofs.Comparing.{same_is}

-- ---- one change

by_or : (m h : Bool) → cond m true h ≡ (m || h)
by_or true h = refl
by_or false h = refl

by_and : (m h : Bool) → cond m false h ≡ (not m && h)
by_and true h = refl
by_and false h = refl

pub inserted : (old new : List ZoneRecord) (x : ZoneRecord) → ((r : ZoneRecord) → has new r ≡ cond (is_same x r) true (has old r)) → Adds (has old) x (has new)
inserted old new x h = λ r. h r ∙ by_or (is_same x r) (has old r)

pub removed : (old new : List ZoneRecord) (x : ZoneRecord) → ((r : ZoneRecord) → has new r ≡ cond (is_same x r) false (has old r)) → Removes (has old) x (has new)
removed old new x h = λ r. h r ∙ by_and (is_same x r) (has old r)

pub was_put : (is_new a b : Bool) → is_new ≡ not a → (not is_new || b) ≡ (a || b)
was_put is_new true b e = ap (λ (c : Bool). not c || b) e
was_put is_new false b e = ap (λ (c : Bool). not c || b) e

in_one : (m a b : Bool) → ((m || a) || b) ≡ (m || (a || b))
in_one true a b = refl
in_one false a b = refl

-- a record came
pub put_in : (base : List ZoneRecord) (old new : Changes) (x : ZoneRecord) → new.all_gone ≡ old.all_gone → new.gone.keys ≡ old.gone.keys → Adds (has old.come.keys) x (has new.come.keys)
    → Adds (present base old) x (present base new)
put_in base old new x all same come = λ r.
    ap (λ (b : Bool). b || (not new.all_gone && (stays new.gone.keys r && has base r))) (come r)
    ∙ (ap (λ (b : Bool). (is_same x r || has old.come.keys r) || (not b && (stays new.gone.keys r && has base r))) all
    ∙ (ap (λ (ks : List ZoneRecord). (is_same x r || has old.come.keys r) || (not old.all_gone && (stays ks r && has base r))) same
    ∙ in_one (is_same x r) (has old.come.keys r) (not old.all_gone && (stays old.gone.keys r && has base r))))

out_one : (m a n g s b : Bool) → ((not m && a) || (not n && ((not (m || g) && s) && b))) ≡ (not m && (a || (not n && ((not g && s) && b))))
out_one true a true g s b = refl
out_one true a false g s b = refl
out_one false a n g s b = refl

-- a record is gone, also if it came
pub taken_out : (base : List ZoneRecord) (old new : Changes) (x : ZoneRecord) → new.all_gone ≡ old.all_gone → Adds (has old.gone.keys) x (has new.gone.keys)
    → Removes (has old.come.keys) x (has new.come.keys) → Removes (present base old) x (present base new)
taken_out base old new x all gone come = λ r.
    ap (λ (b : Bool). b || (not new.all_gone && (stays new.gone.keys r && has base r))) (come r)
    ∙ (ap (λ (b : Bool). (not (is_same x r) && has old.come.keys r) || (not b && (stays new.gone.keys r && has base r))) all
    ∙ (ap (λ (b : Bool). (not (is_same x r) && has old.come.keys r) || (not old.all_gone && ((not b && not (is_soa r)) && has base r))) (gone r)
    ∙ out_one (is_same x r) (has old.come.keys r) old.all_gone (has old.gone.keys r) (not (is_soa r)) (has base r)))

-- ---- all of them made

pub none_left : (old new : List ZoneRecord) (gone : List ZoneRecord) → new ≡ [] → (r : ZoneRecord) → has new r ≡ (not true && (stays gone r && has old r))
none_left old new gone e r = ap (λ (xs : List ZoneRecord). has xs r) e

stays_alike : (gone : List ZoneRecord) (r x : ZoneRecord) → is_same r x ≡ true → stays gone x ≡ stays gone r
stays_alike gone r x e = sym (ap (stays gone) (same_is r x e))

pub some_left : (old new : List ZoneRecord) (gone : List ZoneRecord) → new ≡ filter (stays gone) old → (r : ZoneRecord) → has new r ≡ (not false && (stays gone r && has old r))
some_left old new gone e r = ap (λ (xs : List ZoneRecord). has xs r) e ∙ any-filter_same (is_same r) (stays gone) (stays gone r) (stays_alike gone r) old

turned : (a b : Bool) → (a || b) ≡ (b || a)
turned true true = refl
turned true false = refl
turned false true = refl
turned false false = refl

pub come_in : (base left all come new : List ZoneRecord) (changes : Changes) → come ≡ changes.come.keys → ((r : ZoneRecord) → has left r ≡ (not changes.all_gone && (stays changes.gone.keys r && has base r)))
    → all ≡ left ++ come → ((r : ZoneRecord) → has new r ≡ has all r) → (r : ZoneRecord) → has new r ≡ present base changes r
come_in base left all come new changes c l a n r =
    n r ∙ (ap (λ (xs : List ZoneRecord). has xs r) a ∙ (list_any-append (is_same r) left come ∙ (turned (has left r) (has come r)
    ∙ (ap (λ (b : Bool). has come r || b) (l r) ∙ ap (λ (xs : List ZoneRecord). has xs r || (not changes.all_gone && (stays changes.gone.keys r && has base r))) c))))

pub are_made : (base new : List ZoneRecord) (us : List (Update ZoneRecord)) (soa : ZoneRecord) (none folded more : Changes) (count : ℕ)
    → ((xs : List ZoneRecord) (r : ZoneRecord) → present xs none r ≡ (not (is_soa r) && has xs r)) → Folds (present base none) us (present base folded) count
    → Adds (present base folded) soa (present base more) → ((r : ZoneRecord) → has new r ≡ present base more r) → AreMade (has base) us soa new
are_made base new us soa none folded more count n f p k = λ r. k r ∙ (p r ∙ ap (λ (b : Bool). is_same soa r || b) ((f (has base) (n base)).0 r))

pub are_counted : (base : List ZoneRecord) (us : List (Update ZoneRecord)) (none folded : Changes) (count : ℕ) → ((xs : List ZoneRecord) (r : ZoneRecord) → present xs none r ≡ (not (is_soa r) && has xs r))
    → Folds (present base none) us (present base folded) count → count ≡ missing us (has base)
are_counted base us none folded count n f = (f (has base) (n base)).1
