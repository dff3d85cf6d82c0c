-- The zone that a text has.
use Rattle.std.proofs.Common.{◌≡◌, ◌≢◌, ℕ, ◌+◌, List, [], ◌∷◌, length, refl, ap, sym, subst, ◌∙◌, arith, Option, None, Some, IsSome, Result, Ok, Err}
use Rattle.std.specs.Str.{IsUtf8}
use Rattle.dns_names.specs.Name.{Labels}
use Rattle.zone_records.specs.Folding.{Zone, has}
use Rattle.zone_records.specs.declared.record.ZoneRecord.{ZoneRecord}
use Rattle.zone_text.specs.Saying.{TellsPart, beside, first_says, line_says, text_says, wrong, ◌>>=◌}
use Rattle.zone_text.specs.Words.{cut_at, pieces_at}
use Rattle.zone_text.specs.Zones.{HasFlaw, IsZoneIn, SerialFound, end_serial, first_serial, go_on, line_serial, serial_after, serial_from, serial_lines, serial_said}
use Rattle.zone_text.specs.declared.fault.LinePart.{LinePart}
use Rattle.zone_text.specs.declared.fault.LinePart.TheVariants as parts
use Rattle.zone_text.specs.declared.fault.PartFault.{PartFault}
use Rattle.zone_text.specs.declared.fault.PartFault.TheVariants as faults
use Rattle.zone_text.specs.declared.zone.Flaw.{Flaw}
use Rattle.zone_text.specs.declared.zone.Flaw.TheVariants as flaws
use Rattle.zone_text.specs.declared.zone.Unread.TheVariants as unread
use Rattle.zone_text.proofs.Cuts.{pieces_cut, pieces_some, pieces_whole}
use Rattle.zone_text.proofs.Said.{beside_err, beside_ok}

-- ---- the first line

module _ (apex : Labels) (found : Option ℕ) (text : List ℕ) where
  pub first_fault : (fault : PartFault) → TellsPart (first_says text) fault → TellsPart (first_serial apex found text) fault
  first_fault (faults.Wrong part) says = ap (λ (r : Result (ZoneRecord × List ℕ) LinePart). r >>= λ first. serial_after apex found first.0) says
  first_fault faults.NoMemory says = tt

  first_is : (item : ZoneRecord) (behind : List ℕ) → first_says text ≡ Ok (item, behind) → first_serial apex found text ≡ serial_after apex found item
  first_is item behind says = ap (λ (r : Result (ZoneRecord × List ℕ) LinePart). r >>= λ first. serial_after apex found first.0) says

  pub first_no_soa : (item : ZoneRecord) (behind : List ℕ) (part : LinePart) → first_says text ≡ Ok (item, behind) → Err part ≡ serial_after apex found item → first_serial apex found text ≡ Err part
  first_no_soa item behind part says is = first_is item behind says ∙ sym is

-- ---- the serial, line by line

serial_piece : (apex : Labels) (line : ℕ) (found : Option ℕ) (first : List ℕ) (pieces : List (List ℕ)) (p : List ℕ) (ps : List (List ℕ)) → pieces ≡ p ∷ ps
    → serial_lines apex line found (first ∷ pieces) ≡ go_on line (line_serial apex found first) (λ serial. serial_lines apex (line + 1) serial pieces)
serial_piece apex line found first pieces p ps e =
    subst (λ (xs : List (List ℕ)). serial_lines apex line found (first ∷ xs) ≡ go_on line (line_serial apex found first) (λ (s : Option ℕ). serial_lines apex (line + 1) s xs)) (sym e) refl

serial_cut : (apex : Labels) (line : ℕ) (found : Option ℕ) (text first behind : List ℕ) → cut_at 10 text ≡ Some (first, behind)
    → serial_from apex line found text ≡ go_on line (line_serial apex found first) (λ serial. serial_from apex (line + 1) serial behind)
serial_cut apex line found text first behind cut =
    let some = pieces_some 10 behind in
    ap (serial_lines apex line found) (pieces_cut 10 text first behind cut) ∙ serial_piece apex line found first (pieces_at 10 behind) some.0 some.1 some.2

serial_first : (apex : Labels) (line : ℕ) (found : Option ℕ) (text behind : List ℕ) (item : ZoneRecord) → first_says text ≡ Ok (item, behind)
    → serial_from apex line found text ≡ go_on line (serial_after apex found item) (λ serial. serial_from apex (line + 1) serial behind)
serial_first apex line found text behind item e = go (cut_at 10 text) refl
  where
    go : (cut : Option (List ℕ × List ℕ)) → cut_at 10 text ≡ cut → serial_from apex line found text ≡ go_on line (serial_after apex found item) (λ serial. serial_from apex (line + 1) serial behind)
    go None c = let none : first_says text ≡ Err parts.End = rw c refl in absurd cc
    go (Some x) c =
        let here : first_says text ≡ beside x.1 (line_says x.0) = rw c refl in
        let is = beside_ok (line_says x.0) x.1 behind item (sym here ∙ e) in
        serial_cut apex line found text x.0 x.1 c
        ∙ (ap (λ (r : Result ZoneRecord LinePart). go_on line (r >>= λ it. serial_after apex found it) (λ (s : Option ℕ). serial_from apex (line + 1) s x.1)) is.0
        ∙ ap (λ (t : List ℕ). go_on line (serial_after apex found item) (λ (s : Option ℕ). serial_from apex (line + 1) s t)) is.1)

last_line : (line : ℕ) (found : Option ℕ) (text : List ℕ) → length text ≢ 0 → end_serial line found text ≡ Err (wrong line parts.End)
last_line line found [] some = absurd (some refl)
last_line line found (c ∷ text) some = refl

no_record : (apex : Labels) (line : ℕ) (found : Option ℕ) (text : List ℕ) (part : LinePart) → length text ≢ 0 → first_says text ≡ Err part → serial_from apex line found text ≡ Err (wrong line part)
no_record apex line found text part some e = go (cut_at 10 text) refl
  where
    go : (cut : Option (List ℕ × List ℕ)) → cut_at 10 text ≡ cut → serial_from apex line found text ≡ Err (wrong line part)
    go None c =
        let none : first_says text ≡ Err parts.End = rw c refl in
        let same : parts.End ≡ part = cc in
        ap (serial_lines apex line found) (pieces_whole 10 text c) ∙ (last_line line found text some ∙ ap (λ (p : LinePart). Err (wrong line p)) same)
    go (Some x) c =
        let here : first_says text ≡ beside x.1 (line_says x.0) = rw c refl in
        let bad : line_says x.0 ≡ Err part = beside_err (line_says x.0) x.1 part (sym here ∙ e) in
        serial_cut apex line found text x.0 x.1 c
        ∙ ap (λ (r : Result ZoneRecord LinePart). go_on line (r >>= λ it. serial_after apex found it) (λ (s : Option ℕ). serial_from apex (line + 1) s x.1)) bad

wrong_line : (apex : Labels) (line : ℕ) (found : Option ℕ) (text : List ℕ) (part : LinePart) → length text ≢ 0 → first_serial apex found text ≡ Err part → serial_from apex line found text ≡ Err (wrong line part)
wrong_line apex line found text part some e = go (first_says text) refl
  where
    go : (says : Result (ZoneRecord × List ℕ) LinePart) → first_says text ≡ says → serial_from apex line found text ≡ Err (wrong line part)
    go (Err other) is =
        let here : first_serial apex found text ≡ Err other = ap (λ (r : Result (ZoneRecord × List ℕ) LinePart). r >>= λ first. serial_after apex found first.0) is in
        let same : other ≡ part = cc in
        no_record apex line found text part some (is ∙ ap (λ (p : LinePart). Err p) same)
    go (Ok x) is =
        let bad : serial_after apex found x.0 ≡ Err part = sym (first_is apex found text x.0 x.1 is) ∙ e in
        serial_first apex line found text x.1 x.0 is ∙ ap (λ (r : Result (Option ℕ) LinePart). go_on line r (λ (s : Option ℕ). serial_from apex (line + 1) s x.1)) bad

-- ---- the loop over lines

pub serial_on : (apex : Labels) (line : ℕ) (found serial : Option ℕ) (item : ZoneRecord) (text behind : List ℕ) (whole : SerialFound) → first_says text ≡ Ok (item, behind) → serial_after apex found item ≡ Ok serial
    → whole ≡ serial_from apex line found text → whole ≡ serial_from apex (line + 1) serial behind
serial_on apex line found serial item text behind whole says is so_far =
    so_far ∙ (serial_first apex line found text behind item says ∙ ap (λ (r : Result (Option ℕ) LinePart). go_on line r (λ (s : Option ℕ). serial_from apex (line + 1) s behind)) is)

pub serial_wrong : (apex : Labels) (line : ℕ) (found : Option ℕ) (text : List ℕ) (part : LinePart) (whole : SerialFound) → length text ≢ 0 → first_serial apex found text ≡ Err part
    → whole ≡ serial_from apex line found text → whole ≡ Err (wrong line part)
serial_wrong apex line found text part whole some e so_far = so_far ∙ wrong_line apex line found text part some e

pub serial_last : (apex : Labels) (line : ℕ) (found : Option ℕ) (text : List ℕ) (whole : SerialFound) → length text ≡ 0 → whole ≡ serial_from apex line found text → whole ≡ Ok found
serial_last apex line found [] whole none so_far = so_far
serial_last apex line found (c ∷ text) whole none so_far = absurd (omega arith)

-- ---- the zone

some_is : (o : Option ℕ) (n : ℕ) → o ≡ Some n → IsSome o
some_is o n is = subst IsSome (sym is) refl

pub is_zone : (text : List ℕ) (apex : Labels) (records : List ZoneRecord) (zone : Zone) (serial : ℕ) → IsUtf8 text → text_says text ≡ Ok records → serial_said apex text ≡ Ok (Some serial) → zone.apex ≡ apex → zone.serial ≡ Some serial
    → ((r : ZoneRecord) → has zone.records r ≡ has records r) → IsZoneIn text apex zone
is_zone text apex records zone serial is_text says is named numbered holds = record {
  is_text = is_text;
  records = records;
  says = says;
  holds = holds;
  has_apex = named;
  serial = is ∙ ap (λ (o : Option ℕ). Ok o) (sym numbered);
  has_serial = some_is zone.serial serial numbered;
}

unnumbered : (o : Option ℕ) → IsSome o → ◌≡◌ {A = SerialFound} (Ok None) (Ok o) → ⊥
unnumbered None some e = cc
unnumbered (Some n) some e = cc

-- no text has a zone and a flaw
pub no_zone : (text : List ℕ) (apex : Labels) (flaw : Flaw) (zone : Zone) → HasFlaw text apex (unread.NoZone flaw) → IsZoneIn text apex zone → ⊥
no_zone text apex flaws.Text zone flawed is = flawed is.is_text
no_zone text apex (flaws.Line at) zone flawed is = let both : ◌≡◌ {A = SerialFound} (Err at) (Ok zone.serial) = sym flawed ∙ is.serial in cc
no_zone text apex flaws.Soa zone flawed is = unnumbered zone.serial is.has_serial (sym flawed ∙ is.serial)
