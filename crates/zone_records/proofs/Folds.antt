-- What updates do to a sorted list of the records that are no SOA.
use Rattle.std.proofs.Common.{◌≡◌, ℕ, suc, ◌+◌, ◌≤◌, Bool, true, false, if◌then◌else◌, List, [], ◌∷◌, ◌++◌, length, refl, ap, sym, ◌∙◌, arith, subst}
use Rattle.std.specs.Prelude.{not, ◌&&◌, ◌||◌}
use Rattle.std.specs.declared.cmp.Ordering.{Ordering}
use Rattle.std.specs.declared.cmp.Ordering.TheVariants.{Less, Equal, Greater}
use Rattle.std.specs.Ordering.{is_eq, ordering_reverse}
use Rattle.zone_reading.specs.declared.steps.Update.{Update}
use Rattle.zone_reading.specs.declared.steps.Update.TheVariants.{DeleteAllRecords, BeginBatchDelete, DeleteRecord, BeginBatchAdd, AddRecord, Finished}
use Rattle.zone_records.specs.Changing.{Adds, AddsPlain, Folds, FoldsOne, Holds, Removes}
use Rattle.zone_records.specs.Folding.{Records, folded, folded_one, misses, missing}
use Rattle.zone_records.specs.Records.{record_cmp, record_total, is_same, is_soa}
use Rattle.zone_records.specs.declared.record.ZoneRecord.{ZoneRecord}
use Rattle.zone_records.proofs.Comparing.{same_is}

-- ---- records that are the same

pub alike : (x r : ZoneRecord) → is_same x r ≡ true → is_soa x ≡ is_soa r
alike x r e = ap is_soa (same_is x r e)

eq_reversed : (o : Ordering) → is_eq (ordering_reverse o) ≡ is_eq o
eq_reversed Less = refl
eq_reversed Equal = refl
eq_reversed Greater = refl

pub same_both_ways : (x r : ZoneRecord) → is_same x r ≡ is_same r x
same_both_ways x r = ap is_eq (record_total.antisymm x r) ∙ eq_reversed (record_cmp r x)

-- ---- truth tables

adding : (sx sr m o h n : Bool) → (m ≡ true → sx ≡ sr) → h ≡ (not sr && o) → n ≡ (if sx then h else (m || h)) → n ≡ (not sr && (m || o))
adding true true m o h n s e f = f ∙ e
adding true false true o h n s e f = absurd (let z : true ≡ false = s refl in cc)
adding true false false o h n s e f = f ∙ e
adding false true true o h n s e f = absurd (let z : false ≡ true = s refl in cc)
adding false true false o h n s e f = f ∙ e
adding false false true o h n s e f = f
adding false false false o h n s e f = f ∙ e

twice : (sr o : Bool) → (not sr && (not sr && o)) ≡ (not sr && o)
twice true o = refl
twice false o = refl

swapped : (sr m o : Bool) → (not m && (not sr && o)) ≡ (not sr && (not m && o))
swapped true true o = refl
swapped true false o = refl
swapped false true o = refl
swapped false false o = refl

missing_one : (sx o h : Bool) → h ≡ (not sx && o) → (not sx && not h) ≡ (not sx && not o)
missing_one true o h e = refl
missing_one false o h e = ap not e

present_one : (sx o h : Bool) → h ≡ (not sx && o) → (not sx && h) ≡ (not sx && o)
present_one true o h e = refl
present_one false o h e = e

-- ---- one update

pub not_added : (old : Records) (x : ZoneRecord) → is_soa x ≡ true → AddsPlain old x old
not_added old x e = λ r. ap (λ b. if b then old r else (is_same x r || old r)) (sym e)

pub is_added : (old new : Records) (x : ZoneRecord) → is_soa x ≡ false → Adds old x new → AddsPlain old x new
is_added old new x e h = λ r. h r ∙ ap (λ b. if b then old r else (is_same x r || old r)) (sym e)

pub cleared : (old new : Records) → ((r : ZoneRecord) → new r ≡ false) → FoldsOne old DeleteAllRecords new false
cleared old new e = λ rs h. ((λ r. e r ∙ none (is_soa r)), refl)
  where
    none : (b : Bool) → false ≡ (not b && false)
    none true = refl
    none false = refl

pub removed : (old new : Records) (x : ZoneRecord) (missed : Bool) → Removes old x new → missed ≡ (not (is_soa x) && not (old x)) → FoldsOne old (DeleteRecord x) new missed
removed old new x missed gone m = λ rs h.
    ((λ r. gone r ∙ (ap (λ b. not (is_same x r) && b) (h r) ∙ swapped (is_soa r) (is_same x r) (rs r))), m ∙ missing_one (is_soa x) (rs x) (old x) (h x))

plainly : (old new : Records) (x : ZoneRecord) → AddsPlain old x new → (rs : Records) → Holds old rs → Holds new (λ r. is_same x r || rs r)
plainly old new x adds rs h = λ r. adding (is_soa x) (is_soa r) (is_same x r) (rs r) (old r) (new r) (alike x r) (h r) (adds r)

pub added : (old new : Records) (x : ZoneRecord) (missed : Bool) → AddsPlain old x new → missed ≡ (not (is_soa x) && old x) → FoldsOne old (AddRecord x) new missed
added old new x missed adds m = λ rs h. (plainly old new x adds rs h, m ∙ present_one (is_soa x) (rs x) (old x) (h x))

pub batch_begun : (old : Records) (s : ℕ) (x : ZoneRecord) → FoldsOne old (BeginBatchDelete s x) old false
batch_begun old s x = λ rs h. ((λ r. h r ∙ sym (twice (is_soa r) (rs r))), refl)

pub batch_added : (old new : Records) (s : ℕ) (x : ZoneRecord) → AddsPlain old x new → FoldsOne old (BeginBatchAdd s x) new false
batch_added old new s x adds = λ rs h. (plainly old new x adds rs h, refl)

pub finished : (old new : Records) (s : ℕ) (x : ZoneRecord) → AddsPlain old x new → FoldsOne old (Finished s x) new false
finished old new s x adds = λ rs h.
    (plainly old new x adds (λ r. not (is_soa r) && rs r) (λ r. h r ∙ sym (twice (is_soa r) (rs r))), refl)

-- ---- updates in order

-- some updates were applied, and the rest is left
pub record At (all rest : List (Update ZoneRecord)) (now : Records) (count : ℕ) (rs : Records) : Type 0 where
  pub so_far : Records
  pub holds : Holds now so_far
  pub same : folded all rs ≡ folded rest so_far
  pub missed : missing all rs ≡ count + missing rest so_far

pub record Folding (all rest : List (Update ZoneRecord)) (old now : Records) (count : ℕ) : Type 0 where
  pub at : (rs : Records) → Holds old rs → At all rest now count rs
  pub few : count + length rest ≤ length all

pub folding_begun : (all : List (Update ZoneRecord)) (old : Records) → Folding all all old old 0
folding_begun all old = record { at = λ rs h. record { so_far = rs; holds = h; same = refl; missed = zero_left (missing all rs) }; few = omega arith }
  where
    zero_left : (n : ℕ) → n ≡ 0 + n
    zero_left n = omega arith

one_more : (u : Update ZoneRecord) (rest : List (Update ZoneRecord)) (rs : Records) (count : ℕ) (missed : Bool) → missed ≡ misses u rs
    → count + missing (u ∷ rest) rs ≡ (if missed then count + 1 else count) + missing rest (folded_one u rs)
one_more u rest rs count missed e = ap (λ b. count + ((if b then 1 else 0) + missing rest (folded_one u rs))) (sym e) ∙ sums missed (missing rest (folded_one u rs))
  where
    sums : (b : Bool) (n : ℕ) → count + ((if b then 1 else 0) + n) ≡ (if b then count + 1 else count) + n
    sums true n = omega arith
    sums false n = omega arith

pub folding_on : (all rest : List (Update ZoneRecord)) (u : Update ZoneRecord) (old now next : Records) (count : ℕ) (missed : Bool)
    → Folding all (u ∷ rest) old now count → FoldsOne now u next missed → Folding all rest old next (if missed then count + 1 else count)
folding_on all rest u old now next count missed f one = record {
  at = λ rs h.
      let a = f.at rs h in
      let o = one a.so_far a.holds in
      record { so_far = folded_one u a.so_far; holds = o.0; same = a.same; missed = a.missed ∙ one_more u rest a.so_far count missed o.1 };
  few = fewer missed;
}
  where
    fewer : (b : Bool) → (if b then count + 1 else count) + length rest ≤ length all
    fewer true = let few : count + suc (length rest) ≤ length all = f.few in omega arith
    fewer false = let few : count + suc (length rest) ≤ length all = f.few in omega arith

pub folding_done : (all : List (Update ZoneRecord)) (old now : Records) (count : ℕ) → Folding all [] old now count → Folds old all now count
folding_done all old now count f = λ rs h.
    let a = f.at rs h in
    ((λ r. a.holds r ∙ ap (λ (s : Records). not (is_soa r) && s r) (sym a.same)), sym (a.missed ∙ zero_more count))
  where
    zero_more : (n : ℕ) → n + 0 ≡ n
    zero_more n = omega arith

-- ---- and the SOA of the end

pub with_end : (us : List (Update ZoneRecord)) (s : ℕ) (x : ZoneRecord) (rs : Records) → folded (us ++ Finished s x ∷ []) rs ≡ folded_one (Finished s x) (folded us rs)
with_end [] s x rs = refl
with_end (u ∷ us) s x rs = with_end us s x (folded_one u rs)

pub missing_with_end : (us : List (Update ZoneRecord)) (s : ℕ) (x : ZoneRecord) (rs : Records) → missing (us ++ Finished s x ∷ []) rs ≡ missing us rs
missing_with_end [] s x rs = refl
missing_with_end (u ∷ us) s x rs = ap (λ n. (if misses u rs then 1 else 0) + n) (missing_with_end us s x (folded_one u rs))

-- ---- the loop's steps

pub folding_next : (all before rest : List (Update ZoneRecord)) (u : Update ZoneRecord) (old now next : Records) (count : ℕ) (missed b : Bool) → before ≡ u ∷ rest → missed ≡ b
    → Folding all before old now count → FoldsOne now u next missed → Folding all rest old next (if b then count + 1 else count)
folding_next all before rest u old now next count missed b e m f one =
    subst (λ (c : Bool). Folding all rest old next (if c then count + 1 else count)) m (folding_on all rest u old now next count missed (subst (λ (us : List (Update ZoneRecord)). Folding all us old now count) e f) one)

pub folding_ended : (all before : List (Update ZoneRecord)) (old now : Records) (count : ℕ) → before ≡ [] → Folding all before old now count → Folds old all now count
folding_ended all before old now count e f = folding_done all old now count (subst (λ (us : List (Update ZoneRecord)). Folding all us old now count) e f)

pub folding_from : (all before : List (Update ZoneRecord)) (old : Records) → before ≡ all → Folding all before old old 0
folding_from all before old e = subst (λ (us : List (Update ZoneRecord)). Folding all us old old 0) (sym e) (folding_begun all old)
