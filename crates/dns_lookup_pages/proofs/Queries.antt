-- What a builder makes of a question.
use Rattle.std.proofs.Common.{◌≡◌, ℕ, List, [], ◌∷◌, ◌++◌, length, refl, ap, None}
use Rattle.std.specs.Int.{w16, to_be_bytes}
use Rattle.dns_names.specs.Name.{Labels, spelling}
use Rattle.dns_base.specs.Compression.{name_octets, with_name, with_octets}
use Rattle.dns_base.specs.Compression as compression
use Rattle.dns_base.specs.Draft.{finished, fresh, pushed_question, with_header}
use Rattle.dns_base.specs.Sections.{counts_spelling}
use Rattle.dns_lookup_pages.specs.Queries.{with_question}

-- Where no name stands yet a name is spelled out.
spelled_out : (octets : List ℕ) (labels : Labels) → name_octets (record { octets = octets; places = [] }) labels ≡ spelling labels
spelled_out octets [] = refl
spelled_out octets (label ∷ labels) = ap (λ rest. length label ∷ label ++ rest) (spelled_out octets labels)

pub asked_is : (a b c d : ℕ) (name : Labels) (rtype class : ℕ)
    → finished (pushed_question (record { name = name; rtype = rtype; class = class }) (with_header (a ∷ b ∷ c ∷ d ∷ []) (fresh None)))
    ≡ with_question (a ∷ b ∷ c ∷ d ∷ []) name rtype class
unfolding finished pushed_question with_header fresh compression.with_question with_name with_octets counts_spelling
asked_is a b c d name rtype class =
    ap (λ spelled. (a ∷ b ∷ c ∷ d ∷ 0 ∷ 1 ∷ 0 ∷ 0 ∷ 0 ∷ 0 ∷ 0 ∷ 0 ∷ []) ++ ((spelled ++ to_be_bytes w16 rtype) ++ to_be_bytes w16 class))
    (spelled_out (a ∷ b ∷ c ∷ d ∷ 0 ∷ 0 ∷ 0 ∷ 0 ∷ 0 ∷ 0 ∷ 0 ∷ 0 ∷ []) name)
