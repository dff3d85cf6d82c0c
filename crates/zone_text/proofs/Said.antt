-- What a text says, line by line.
use Rattle.std.proofs.Common.{◌≡◌, ◌≢◌, ℕ, ◌+◌, List, [], ◌∷◌, ◌++◌, length, refl, ap, sym, ◌∙◌, arith, append_assoc, Option, None, Some, Result, Ok, Err}
use Rattle.zone_records.specs.declared.record.ZoneRecord.{ZoneRecord}
use Rattle.zone_text.specs.Words.{cut_at, pieces_at}
use Rattle.zone_text.specs.Saying.{Said, beside, end_says, first_says, line_says, lines_say, says_from, with_line, with_record, wrong}
use Rattle.zone_text.specs.declared.fault.LinePart.{LinePart}
use Rattle.zone_text.specs.declared.fault.LinePart.TheVariants as parts
use Rattle.zone_text.proofs.Cuts.{pieces_cut, pieces_some, pieces_whole}

-- records before those that are said
abbrev pub put_records : List ZoneRecord → Said → Said
put_records records (Err at) = Err at
put_records records (Ok more) = Ok (records ++ more)

pub no_records : (records : List ZoneRecord) (said : Said) → records ≡ [] → said ≡ put_records records said
no_records records (Err at) e = refl
no_records records (Ok more) e = sym (ap (λ (xs : List ZoneRecord). Ok (xs ++ more)) e)

one_more : (records : List ZoneRecord) (item : ZoneRecord) (said : Said) → put_records records (with_record item said) ≡ put_records (records ++ item ∷ []) said
one_more records item (Err at) = refl
one_more records item (Ok more) = ap Ok (sym (append_assoc records (item ∷ []) more))

-- ---- the first line

pub found_same : (x y : ZoneRecord × List ℕ) → ◌≡◌ {A = Result (ZoneRecord × List ℕ) LinePart} (Ok x) (Ok y) → (x.0 ≡ y.0) × (x.1 ≡ y.1)
found_same x y e = let same : x ≡ y = cc in (ap (λ (p : ZoneRecord × List ℕ). p.0) same, ap (λ (p : ZoneRecord × List ℕ). p.1) same)

pub beside_ok : (said : Result ZoneRecord LinePart) (cut behind : List ℕ) (item : ZoneRecord) → beside cut said ≡ Ok (item, behind) → (said ≡ Ok item) × (cut ≡ behind)
beside_ok (Err part) cut behind item e = absurd cc
beside_ok (Ok it) cut behind item e = let same = found_same (it, cut) (item, behind) e in (ap (λ (r : ZoneRecord). Ok r) same.0, same.1)

pub beside_err : (said : Result ZoneRecord LinePart) (cut : List ℕ) (part : LinePart) → beside cut said ≡ Err part → said ≡ Err part
beside_err (Err other) cut part e = let same : other ≡ part = cc in ap Err same
beside_err (Ok it) cut part e = absurd cc

lines_on : (line : ℕ) (first : List ℕ) (pieces : List (List ℕ)) (p : List ℕ) (ps : List (List ℕ)) → pieces ≡ p ∷ ps → lines_say line (first ∷ pieces) ≡ with_line line (line_says first) (lines_say (line + 1) pieces)
lines_on line first pieces p ps e = rw e refl

says_cut : (line : ℕ) (text first behind : List ℕ) → cut_at 10 text ≡ Some (first, behind) → says_from line text ≡ with_line line (line_says first) (says_from (line + 1) behind)
says_cut line text first behind cut =
    let some = pieces_some 10 behind in
    ap (lines_say line) (pieces_cut 10 text first behind cut) ∙ lines_on line first (pieces_at 10 behind) some.0 some.1 some.2

pub said_first : (line : ℕ) (text behind : List ℕ) (item : ZoneRecord) → first_says text ≡ Ok (item, behind) → says_from line text ≡ with_record item (says_from (line + 1) behind)
said_first line text behind item e = go (cut_at 10 text) refl
  where
    go : (cut : Option (List ℕ × List ℕ)) → cut_at 10 text ≡ cut → says_from line text ≡ with_record item (says_from (line + 1) behind)
    go None c = let none : first_says text ≡ Err parts.End = rw c refl in absurd cc
    go (Some x) c =
        let here : first_says text ≡ beside x.1 (line_says x.0) = rw c refl in
        let found = beside_ok (line_says x.0) x.1 behind item (sym here ∙ e) in
        says_cut line text x.0 x.1 c ∙ (ap (λ (r : Result ZoneRecord LinePart). with_line line r (says_from (line + 1) x.1)) found.0 ∙ ap (λ (t : List ℕ). with_record item (says_from (line + 1) t)) found.1)

last_line : (line : ℕ) (text : List ℕ) → length text ≢ 0 → end_says line text ≡ Err (wrong line parts.End)
last_line line [] some = absurd (some refl)
last_line line (c ∷ text) some = refl

pub said_wrong : (line : ℕ) (text : List ℕ) (part : LinePart) → length text ≢ 0 → first_says text ≡ Err part → says_from line text ≡ Err (wrong line part)
said_wrong line text part some e = go (cut_at 10 text) refl
  where
    go : (cut : Option (List ℕ × List ℕ)) → cut_at 10 text ≡ cut → says_from line text ≡ Err (wrong line part)
    go None c =
        let none : first_says text ≡ Err parts.End = rw c refl in
        let same : parts.End ≡ part = cc in
        ap (lines_say line) (pieces_whole 10 text c) ∙ (last_line line text some ∙ ap (λ (p : LinePart). Err (wrong line p)) same)
    go (Some x) c =
        let here : first_says text ≡ beside x.1 (line_says x.0) = rw c refl in
        let bad : line_says x.0 ≡ Err part = beside_err (line_says x.0) x.1 part (sym here ∙ e) in
        says_cut line text x.0 x.1 c ∙ ap (λ (r : Result ZoneRecord LinePart). with_line line r (says_from (line + 1) x.1)) bad

-- ---- the loop over lines

pub record_more : (records after : List ZoneRecord) (item : ZoneRecord) (line : ℕ) (text behind : List ℕ) (whole : Said) → first_says text ≡ Ok (item, behind) → after ≡ records ++ item ∷ []
    → whole ≡ put_records records (says_from line text) → whole ≡ put_records after (says_from (line + 1) behind)
record_more records after item line text behind whole e more so_far =
    so_far ∙ (ap (put_records records) (said_first line text behind item e) ∙ (one_more records item (says_from (line + 1) behind) ∙ ap (λ (xs : List ZoneRecord). put_records xs (says_from (line + 1) behind)) (sym more)))

pub line_wrong : (records : List ZoneRecord) (line : ℕ) (text : List ℕ) (part : LinePart) (whole : Said) → length text ≢ 0 → first_says text ≡ Err part
    → whole ≡ put_records records (says_from line text) → whole ≡ Err (wrong line part)
line_wrong records line text part whole some e so_far = so_far ∙ ap (put_records records) (said_wrong line text part some e)

records_nil : (xs : List ZoneRecord) → xs ++ [] ≡ xs
records_nil [] = refl
records_nil (x ∷ xs) = ap (λ (ys : List ZoneRecord). x ∷ ys) (records_nil xs)

pub all_said : (records : List ZoneRecord) (line : ℕ) (text : List ℕ) (whole : Said) → length text ≡ 0 → whole ≡ put_records records (says_from line text) → whole ≡ Ok records
all_said records line [] whole none so_far = so_far ∙ ap Ok (records_nil records)
all_said records line (c ∷ text) whole none so_far = absurd (omega arith)

pub first_cut : (text line behind : List ℕ) (item : ZoneRecord) → cut_at 10 text ≡ Some (line, behind) → line_says line ≡ Ok item → first_says text ≡ Ok (item, behind)
first_cut text line behind item cut says = rw (cut, says) refl
