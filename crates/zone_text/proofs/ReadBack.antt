-- What was printed is read.
use Rattle.std.proofs.Common.{◌≡◌, ◌<◌, ◌≤◌, ◌^◌, ℕ, ◌+◌, List, [], ◌∷◌, ◌++◌, Bool, true, false, refl, ap, sym, ◌∙◌, arith, append_assoc, decimal, Option, None, Some, Ok, IsSome}
use Rattle.std.specs.Prelude.{◌==◌, map}
use Rattle.std.specs.Char.{to_ascii_lowercase}
use Rattle.std.specs.List.{AllByRecursion, list_any}
use Rattle.std.specs.Option.{option_map_or}
use Rattle.std.proofs.lemmas.Bool.{eq-eqb}
use Rattle.dns_values.proofs.Decimals.{decimal_is_read}
use Rattle.dns_values.proofs.NumberNames.{number_names}
use Rattle.dns_values.specs.NumberNames.{class_text}
use Rattle.dns_names.specs.Name.{Found, Labels, name_at, spelling}
use Rattle.dns_names.proofs.NameLaws.{spelled_alone}
use Rattle.dns_presentation.specs.Names.{absolute_text}
use Rattle.dns_presentation.specs.Octets.{hex_text}
use Rattle.dns_presentation.proofs.NameTexts.{name_read}
use Rattle.dns_presentation.proofs.OctetTexts.{hex_back}
use Rattle.zone_records.specs.declared.record.ZoneRecord.{ZoneRecord}
use Rattle.zone_text.specs.Laws.{IsWritable}
use Rattle.zone_text.specs.Lines.{IsText, is_rare, line_more, line_text, no_line, owner_text, type_word}
use Rattle.zone_text.specs.Saying.{class_says, data_says, line_says, owner_says, record_says, says_from, ttl_says, type_says, with_record}
use Rattle.zone_text.specs.Words.{behind_last, cut_at}
use Rattle.zone_text.proofs.Above.{above_lacks, class_above, decimal_above, hex_lacks_semicolon, name_above, word_above}
use Rattle.zone_text.proofs.Said.{first_cut, said_first}
use Rattle.zone_text.proofs.Lacking.{Lacks, hex_no_feed, lacks_append}

-- ---- cutting

other_first : (o c : ℕ) (text : List ℕ) → Lacks o (c ∷ text) → ((c == o) ≡ false) × Lacks o text
other_first o c text f = go (c == o) refl
  where
    go : (t : Bool) → (c == o) ≡ t → ((c == o) ≡ false) × Lacks o text
    go true e = let bad : list_any (λ x. x == o) (c ∷ text) ≡ true = rw e refl in absurd cc
    go false e = let same : list_any (λ x. x == o) (c ∷ text) ≡ list_any (λ x. x == o) text = rw e refl in (e, sym same ∙ f)

pub cut_first : (o : ℕ) (a b : List ℕ) → Lacks o a → cut_at o (a ++ o ∷ b) ≡ Some (a, b)
cut_first o [] b f = rw (eq-eqb o o refl) refl
cut_first o (c ∷ a) b f = let other = other_first o c a f in rw (other.0, cut_first o a b other.1) refl

pub none_last : (o : ℕ) (text : List ℕ) → Lacks o text → behind_last o text ≡ None
none_last o [] f = refl
none_last o (c ∷ text) f = let other = other_first o c text f in rw (other.0, none_last o text other.1) refl

last_behind : (o : ℕ) (a b : List ℕ) → Lacks o b → behind_last o (a ++ o ∷ b) ≡ Some b
last_behind o [] b f = rw (none_last o b f, eq-eqb o o refl) refl
last_behind o (c ∷ a) b f = rw (last_behind o a b f) refl

-- ---- a line

pub five_words : (o t c r rest : List ℕ) → Lacks 32 o → Lacks 32 t → Lacks 32 c → Lacks 32 r → line_says (o ++ 32 ∷ (t ++ 32 ∷ (c ++ 32 ∷ (r ++ 32 ∷ rest)))) ≡ record_says o t c r rest
five_words o t c r rest fo ft fc fr =
    rw (cut_first 32 o (t ++ 32 ∷ (c ++ 32 ∷ (r ++ 32 ∷ rest))) fo, cut_first 32 t (c ++ 32 ∷ (r ++ 32 ∷ rest)) ft, cut_first 32 c (r ++ 32 ∷ rest) fc, cut_first 32 r rest fr) refl

named_is : (found : Option Found) (labels : Labels) → IsSome found → option_map_or (λ f. f.labels) found [] ≡ labels → owner_text found ≡ absolute_text labels
named_is None labels some is = absurd cc
named_is (Some found) labels some is = ap absolute_text is

owner_is : (item : ZoneRecord) (w : IsWritable item) → owner_text (name_at item.owner 0) ≡ absolute_text w.owner
owner_is item w = let alone = spelled_alone w.owner item.owner w.owner_is w.legal in named_is (name_at item.owner 0) w.owner alone.0 alone.1

owner_back : (item : ZoneRecord) (w : IsWritable item) → owner_says (absolute_text w.owner) ≡ Ok item.owner
owner_back item w =
    let spelled : map to_ascii_lowercase (spelling w.owner) ≡ item.owner = ap (map to_ascii_lowercase) (sym w.owner_is) ∙ w.lower in
    rw (name_read w.owner w.legal w.octets) (ap Ok spelled)

pub ttl_back : (n : ℕ) → n < 2 ^ 32 → ttl_says (decimal n) ≡ Ok n
ttl_back n h =
    let wide : n < 2 ^ 64 = omega arith in
    let fits : n ≤ 4294967295 = omega arith in
    rw (decimal_is_read 4294967295 n wide fits) refl

class_back : (n : ℕ) → n < 2 ^ 16 → class_says (class_text n) ≡ Ok n
class_back n h = let few : n < 65536 = omega arith in rw (number_names.classes n few) refl

type_back : (n : ℕ) → n < 2 ^ 16 → type_says (type_word n) ≡ Ok n
type_back n h = go (is_rare n) refl
  where
    go : (b : Bool) → is_rare n ≡ b → type_says (type_word n) ≡ Ok n
    go true e = let few : n < 65536 = omega arith in rw e (rw (number_names.numbered_types n few) refl)
    go false e = let few : n < 65536 = omega arith in rw e (rw (number_names.types n few) refl)

data_back : (shown octets : List ℕ) → AllByRecursion (λ n. n < 2 ^ 8) octets → data_says (shown ++ 32 ∷ 59 ∷ 32 ∷ hex_text octets) ≡ Ok octets
data_back shown octets h =
    let whole : shown ++ 32 ∷ 59 ∷ 32 ∷ hex_text octets ≡ (shown ++ 32 ∷ []) ++ 59 ∷ (32 ∷ hex_text octets) = sym (append_assoc shown (32 ∷ []) (59 ∷ 32 ∷ hex_text octets)) in
    let behind : behind_last 59 (shown ++ 32 ∷ 59 ∷ 32 ∷ hex_text octets) ≡ Some (32 ∷ hex_text octets) = ap (behind_last 59) whole ∙ last_behind 59 (shown ++ 32 ∷ []) (32 ∷ hex_text octets) (hex_lacks_semicolon octets) in
    rw (behind, hex_back octets h) refl

regrouped : (o t c r shown tail : List ℕ) → (o ++ 32 ∷ t ++ 32 ∷ c ++ 32 ∷ r ++ 32 ∷ []) ++ shown ++ tail ≡ o ++ 32 ∷ (t ++ 32 ∷ (c ++ 32 ∷ (r ++ 32 ∷ (shown ++ tail))))
regrouped o t c r shown tail =
    append_assoc (o ++ 32 ∷ t ++ 32 ∷ c ++ 32 ∷ r ++ 32 ∷ []) shown tail ∙ (append_assoc (o ++ 32 ∷ t ++ 32 ∷ c ++ 32 ∷ r) (32 ∷ []) (shown ++ tail)
    ∙ (append_assoc (o ++ 32 ∷ t ++ 32 ∷ c) (32 ∷ r) (32 ∷ (shown ++ tail)) ∙ (append_assoc (o ++ 32 ∷ t) (32 ∷ c) (32 ∷ (r ++ 32 ∷ (shown ++ tail)))
    ∙ append_assoc o (32 ∷ t) (32 ∷ (c ++ 32 ∷ (r ++ 32 ∷ (shown ++ tail)))))))

line_is : (item : ZoneRecord) (w : IsWritable item) (shown : List ℕ) → line_text shown item
    ≡ absolute_text w.owner ++ 32 ∷ (decimal item.ttl.0 ++ 32 ∷ (class_text item.class.0 ++ 32 ∷ (type_word item.rtype.0 ++ 32 ∷ (shown ++ 32 ∷ 59 ∷ 32 ∷ hex_text item.rdata))))
line_is item w shown =
    ap (λ (o : List ℕ). (o ++ 32 ∷ decimal item.ttl.0 ++ 32 ∷ class_text item.class.0 ++ 32 ∷ type_word item.rtype.0 ++ 32 ∷ []) ++ shown ++ 32 ∷ 59 ∷ 32 ∷ hex_text item.rdata) (owner_is item w)
    ∙ regrouped (absolute_text w.owner) (decimal item.ttl.0) (class_text item.class.0) (type_word item.rtype.0) shown (32 ∷ 59 ∷ 32 ∷ hex_text item.rdata)

record_back : (item : ZoneRecord) (w : IsWritable item) (shown : List ℕ)
    → record_says (absolute_text w.owner) (decimal item.ttl.0) (class_text item.class.0) (type_word item.rtype.0) (shown ++ 32 ∷ 59 ∷ 32 ∷ hex_text item.rdata) ≡ Ok item
record_back item w shown = rw (owner_back item w, ttl_back item.ttl.0 w.ttl, class_back item.class.0 w.class, type_back item.rtype.0 w.rtype, data_back shown item.rdata w.content) refl

pub ttl_wide : (n : ℕ) → n < 2 ^ 32 → n < 2 ^ 64
ttl_wide n h = omega arith

line_back : (item : ZoneRecord) (w : IsWritable item) (shown : List ℕ) → line_says (line_text shown item) ≡ Ok item
line_back item w shown =
    ap line_says (line_is item w shown)
    ∙ (five_words (absolute_text w.owner) (decimal item.ttl.0) (class_text item.class.0) (type_word item.rtype.0) (shown ++ 32 ∷ 59 ∷ 32 ∷ hex_text item.rdata)
    (above_lacks 32 (absolute_text w.owner) (omega arith) (name_above w.owner w.octets)) (above_lacks 32 (decimal item.ttl.0) (omega arith) (decimal_above item.ttl.0 (ttl_wide item.ttl.0 w.ttl)))
    (above_lacks 32 (class_text item.class.0) (omega arith) (class_above item.class.0 w.class)) (above_lacks 32 (type_word item.rtype.0) (omega arith) (word_above item.rtype.0 w.rtype)) ∙ record_back item w shown)

line_no_feed : (item : ZoneRecord) (w : IsWritable item) (shown : List ℕ) → Lacks 10 shown → Lacks 10 (line_text shown item)
line_no_feed item w shown f =
    let o = above_lacks 10 (absolute_text w.owner) (omega arith) (name_above w.owner w.octets) in
    let t = above_lacks 10 (decimal item.ttl.0) (omega arith) (decimal_above item.ttl.0 (ttl_wide item.ttl.0 w.ttl)) in
    let c = above_lacks 10 (class_text item.class.0) (omega arith) (class_above item.class.0 w.class) in
    let r = above_lacks 10 (type_word item.rtype.0) (omega arith) (word_above item.rtype.0 w.rtype) in
    let content : Lacks 10 (shown ++ 32 ∷ 59 ∷ 32 ∷ hex_text item.rdata) = lacks_append 10 shown (32 ∷ 59 ∷ 32 ∷ hex_text item.rdata) f (hex_no_feed item.rdata) in
    let behind_type : Lacks 10 (type_word item.rtype.0 ++ 32 ∷ (shown ++ 32 ∷ 59 ∷ 32 ∷ hex_text item.rdata)) = lacks_append 10 (type_word item.rtype.0) (32 ∷ (shown ++ 32 ∷ 59 ∷ 32 ∷ hex_text item.rdata)) r content in
    let behind_class : Lacks 10 (class_text item.class.0 ++ 32 ∷ (type_word item.rtype.0 ++ 32 ∷ (shown ++ 32 ∷ 59 ∷ 32 ∷ hex_text item.rdata))) = lacks_append 10 (class_text item.class.0) (32 ∷ (type_word item.rtype.0 ++ 32 ∷ (shown ++ 32 ∷ 59 ∷ 32 ∷ hex_text item.rdata))) c behind_type in
    let behind_ttl : Lacks 10 (decimal item.ttl.0 ++ 32 ∷ (class_text item.class.0 ++ 32 ∷ (type_word item.rtype.0 ++ 32 ∷ (shown ++ 32 ∷ 59 ∷ 32 ∷ hex_text item.rdata)))) =
    lacks_append 10 (decimal item.ttl.0) (32 ∷ (class_text item.class.0 ++ 32 ∷ (type_word item.rtype.0 ++ 32 ∷ (shown ++ 32 ∷ 59 ∷ 32 ∷ hex_text item.rdata)))) t behind_class in
    ap (list_any (λ x. x == 10)) (line_is item w shown) ∙ lacks_append 10 (absolute_text w.owner) (32 ∷ (decimal item.ttl.0 ++ 32 ∷ (class_text item.class.0 ++ 32 ∷ (type_word item.rtype.0 ++ 32 ∷ (shown ++ 32 ∷ 59 ∷ 32 ∷ hex_text item.rdata))))) o behind_ttl

-- ---- all lines

text_back : (line : ℕ) (records : List ZoneRecord) (text : List ℕ) → IsText records text → AllByRecursion IsWritable records → says_from line text ≡ Ok records
text_back line records text no_line w = refl
text_back line records text (line_more item items one rest is_line more) w =
    let same : line_text is_line.shown item ≡ one = sym is_line.line_is in
    let lacks : Lacks 10 one = sym (ap (list_any (λ x. x == 10)) same) ∙ line_no_feed item w.0 is_line.shown is_line.no_feed in
    let says : line_says one ≡ Ok item = sym (ap line_says same) ∙ line_back item w.0 is_line.shown in
    let others : says_from (line + 1) rest ≡ Ok items = text_back (line + 1) items rest more w.1 in
    said_first line (one ++ 10 ∷ rest) rest item (first_cut (one ++ 10 ∷ rest) one rest item (cut_first 10 one rest lacks) says) ∙ ap (with_record item) others

pub read_back : (records : List ZoneRecord) (text : List ℕ) → AllByRecursion IsWritable records → IsText records text → says_from 1 text ≡ Ok records
read_back records text w is = text_back 1 records text is w
