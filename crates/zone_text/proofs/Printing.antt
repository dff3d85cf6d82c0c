-- The data of a record, as it stands on a line.
use Rattle.std.proofs.Common.{◌≡◌, ◌<◌, ◌≤◌, ℕ, List, true, false, refl, ap, sym, subst, ◌∙◌, arith, length, Option, None, Some}
use Rattle.std.specs.Prelude.{IfSome, nat_lt}
use Rattle.std.proofs.lemmas.Bool.Decides.{nat_tests}
use Rattle.dns_base.specs.Message.{Known, answer_items}
use Rattle.dns_presentation.specs.Generic.{generic_text}
use Rattle.dns_presentation.specs.Records.{known_text}
use Rattle.zone_records.specs.declared.record.ZoneRecord.{ZoneRecord}
use Rattle.zone_text.specs.Lines.{data_text, first_of, has_feed, in_line, is_rare, message_of, read_text}

-- what is said of a text, if anything is
abbrev Says : Option (List ℕ) → List ℕ → Type 0
Says said shown = IfSome said (λ text. shown ≡ text)

same_said : (said other : Option (List ℕ)) (shown : List ℕ) → said ≡ other → Says said shown → Says other shown
same_said said other shown same says = subst (λ (x : Option (List ℕ)). Says x shown) same says

-- ---- a message

read_known : (rdata : List ℕ) (found : Option Known) (known : Known) → Some known ≡ found → read_text rdata found ≡ known_text known
unfolding read_text
read_known rdata found known is = ap (read_text rdata) (sym is)

read_none : (rdata : List ℕ) (found : Option Known) → None ≡ found → read_text rdata found ≡ Some (generic_text rdata)
unfolding read_text
read_none rdata found is = ap (read_text rdata) (sym is)

pub record_is_said : (rdata message whole shown : List ℕ) (known : Known) → message ≡ whole → Some known ≡ first_of (answer_items message) → IfSome (known_text known) (λ text. shown ≡ text)
    → IfSome (read_text rdata (first_of (answer_items whole))) (λ text. shown ≡ text)
record_is_said rdata message whole shown known same is says =
    same_said (known_text known) (read_text rdata (first_of (answer_items whole))) shown (sym (read_known rdata (first_of (answer_items whole)) known (is ∙ ap (λ (m : List ℕ). first_of (answer_items m)) same))) says

pub octets_are_said : (rdata message whole shown : List ℕ) → message ≡ whole → None ≡ first_of (answer_items message) → shown ≡ generic_text rdata
    → IfSome (read_text rdata (first_of (answer_items whole))) (λ text. shown ≡ text)
octets_are_said rdata message whole shown same is says =
    same_said (Some (generic_text rdata)) (read_text rdata (first_of (answer_items whole))) shown (sym (read_none rdata (first_of (answer_items whole)) (is ∙ ap (λ (m : List ℕ). first_of (answer_items m)) same))) says

-- ---- which of them

rare_data : (item : ZoneRecord) → is_rare item.rtype.0 ≡ true → data_text item ≡ Some (generic_text item.rdata)
unfolding data_text
rare_data item rare = rw rare refl

few : (n : ℕ) → n < 65536 → nat_lt n 65536 ≡ true
few n h = grind (arith, nat_tests)

many : (n : ℕ) → 65536 ≤ n → nat_lt n 65536 ≡ false
many n h = grind (arith, nat_tests)

long_data : (item : ZoneRecord) → is_rare item.rtype.0 ≡ false → 65535 < length item.rdata → data_text item ≡ Some (generic_text item.rdata)
unfolding data_text
long_data item common long = rw (common, many (length item.rdata) (omega arith)) refl

message_data : (item : ZoneRecord) → is_rare item.rtype.0 ≡ false → length item.rdata ≤ 65535 → data_text item ≡ read_text item.rdata (first_of (answer_items (message_of item)))
unfolding data_text
message_data item common short = rw (common, few (length item.rdata) (omega arith)) refl

pub rare_is_said : (item : ZoneRecord) (shown : List ℕ) → is_rare item.rtype.0 ≡ true → shown ≡ generic_text item.rdata → IfSome (data_text item) (λ text. shown ≡ text)
rare_is_said item shown rare is = same_said (Some (generic_text item.rdata)) (data_text item) shown (sym (rare_data item rare)) is

pub long_is_said : (item : ZoneRecord) (shown : List ℕ) → is_rare item.rtype.0 ≡ false → 65535 < length item.rdata → shown ≡ generic_text item.rdata → IfSome (data_text item) (λ text. shown ≡ text)
long_is_said item shown common long is = same_said (Some (generic_text item.rdata)) (data_text item) shown (sym (long_data item common long)) is

pub message_is_said : (item : ZoneRecord) (shown : List ℕ) → is_rare item.rtype.0 ≡ false → length item.rdata ≤ 65535
    → IfSome (read_text item.rdata (first_of (answer_items (message_of item)))) (λ text. shown ≡ text) → IfSome (data_text item) (λ text. shown ≡ text)
message_is_said item shown common short says =
    same_said (read_text item.rdata (first_of (answer_items (message_of item)))) (data_text item) shown (sym (message_data item common short)) says

-- ---- on a line

feed_is : (rdata text : List ℕ) → has_feed text ≡ true → in_line rdata text ≡ generic_text rdata
feed_is rdata text fed = rw fed refl

line_is : (rdata text : List ℕ) → has_feed text ≡ false → in_line rdata text ≡ text
line_is rdata text plain = rw plain refl

pub feed_is_generic : (said : Option (List ℕ)) (rdata text shown : List ℕ) → IfSome said (λ t. text ≡ t) → has_feed text ≡ true → shown ≡ generic_text rdata → IfSome said (λ t. shown ≡ in_line rdata t)
feed_is_generic None rdata text shown says fed is = tt
feed_is_generic (Some t) rdata text shown says fed is = is ∙ (sym (feed_is rdata text fed) ∙ ap (in_line rdata) says)

pub line_is_said : (said : Option (List ℕ)) (rdata text : List ℕ) → IfSome said (λ t. text ≡ t) → has_feed text ≡ false → IfSome said (λ t. text ≡ in_line rdata t)
line_is_said None rdata text says plain = tt
line_is_said (Some t) rdata text says plain = sym (line_is rdata text plain) ∙ ap (in_line rdata) says
