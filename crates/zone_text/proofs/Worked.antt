-- Worked lines and texts, computed.
use Rattle.std.proofs.Common.{◌≡◌, [], ◌∷◌, ◌++◌, refl, codes, Ok, Err}
use Rattle.dns_values.specs.Decimal.{decimal_number}
use Rattle.dns_values.specs.NumberNames.{class_names, number_of_text, type_names}
use Rattle.dns_names.specs.Text.{cut_text, escaped, name_labels}
use Rattle.dns_presentation.specs.Octets.{octets_of_hex}
use Rattle.zone_records.specs.declared.record.ZoneRecord.{ZoneRecord}
use Rattle.zone_text.specs.Saying.{data_says, line_says, text_says}
use Rattle.zone_text.specs.declared.fault.LinePart.TheVariants as parts

abbrev address : ZoneRecord
address = record { owner = 1 ∷ 97 ∷ 4 ∷ codes "test" ++ 0 ∷ []; rtype = record { 0 = 1 }; class = record { 0 = 1 }; ttl = record { 0 = 300 }; rdata = 192 ∷ 0 ∷ 2 ∷ 1 ∷ [] }

-- a line as it is printed for name servers
printed : line_says (codes "a.test. 300 IN A 192.0.2.1 ; C0000201") ≡ Ok address
unfolding decimal_number number_of_text class_names type_names name_labels cut_text escaped octets_of_hex
printed = refl

-- what stands before the comment doesn't count, and a semicolon in it neither
skipped : line_says (codes "A.TEST 300 in TYPE1 \"; 00\" ; c0000201") ≡ Ok address
unfolding decimal_number number_of_text class_names type_names name_labels cut_text escaped octets_of_hex
skipped = refl

-- a line in numbers
numbers : line_says (codes "a.test 300 1 1 c0000201") ≡ Ok address
unfolding decimal_number number_of_text class_names type_names name_labels cut_text escaped octets_of_hex
numbers = refl

no_octet : data_says (codes "-") ≡ Ok []
no_octet = refl

no_octet_said : data_says (codes "\\# 0 ; ") ≡ Ok []
unfolding octets_of_hex
no_octet_said = refl

half_an_octet : data_says (codes "\\# 1 00 ; 0") ≡ Err parts.Data
unfolding octets_of_hex
half_an_octet = refl

four_words : line_says (codes "a.test 300 IN A") ≡ Err parts.Words
four_words = refl

wide_ttl : line_says (codes "a.test 4294967296 IN A ; 00") ≡ Err parts.Ttl
unfolding decimal_number name_labels cut_text escaped
wide_ttl = refl

-- texts
nothing : text_says [] ≡ Ok []
nothing = refl

uncut : text_says (codes "a.test 300 1 1 c0000201") ≡ Err (record { line = 1; part = parts.End })
uncut = refl

second_is_wrong : text_says (codes "a.test 300 1 1 c0000201\n\n") ≡ Err (record { line = 2; part = parts.Words })
unfolding decimal_number number_of_text class_names type_names name_labels cut_text escaped octets_of_hex
second_is_wrong = refl
