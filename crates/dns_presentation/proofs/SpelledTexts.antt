-- What is written of data with its names spelled out.
use Rattle.std.proofs.Common.{◌≡◌, ◌<◌, ℕ, List, [], ◌∷◌, ◌++◌, length, refl, sym, ◌∙◌, ap, arith, append_assoc, decimal, length-append}
use Rattle.std.specs.Prelude.{Option, Some, None}
use Rattle.std.proofs.lemmas.Grind.{flat_map-append}
use Rattle.dns_names.specs.Name.{Labels, octet_count, spelling}
use Rattle.dns_names.proofs.NameLaws.{spelled_length}
use Rattle.dns_base.specs.Forms.{NamedData, named_size, named_spelling, second_size, second_spelling}
use Rattle.dns_presentation.specs.Generic.{digits_behind, generic_text}
use Rattle.dns_presentation.specs.Octets.{hex_octet, hex_text}

hex_append : (a b : List ℕ) → hex_text (a ++ b) ≡ hex_text a ++ hex_text b
hex_append a b = flat_map-append hex_octet a b

-- a label is behind a text, and the rest of the name behind both
pub label_behind : (text label : List ℕ) (rest : Labels)
    → (text ++ hex_text (length label ∷ label)) ++ hex_text (spelling rest) ≡ text ++ hex_text (spelling (label ∷ rest))
label_behind text label rest =
    append_assoc text (hex_text (length label ∷ label)) (hex_text (spelling rest))
    ∙ ap (λ digits. text ++ digits) (sym (hex_append (length label ∷ label) (spelling rest)))

some_octets : (name : Labels) → 0 < octet_count name
some_octets [] = omega arith
some_octets (label ∷ labels) = omega arith

second_length : (second : Option Labels) → length (second_spelling second) ≡ second_size second
second_length None = refl
second_length (Some name) = spelled_length name

named_length : (it : NamedData) → length (named_spelling it) ≡ named_size it
named_length it =
    let front = length-append it.before (spelling it.first) in
    let names = length-append (it.before ++ spelling it.first) (second_spelling it.second) in
    let all = length-append (it.before ++ spelling it.first ++ second_spelling it.second) it.behind in
    omega (arith, front, names, all, spelled_length it.first, second_length it.second)

named_hex : (it : NamedData) → hex_text it.before ++ (hex_text (spelling it.first) ++ (hex_text (second_spelling it.second) ++ hex_text it.behind))
    ≡ hex_text (named_spelling it)
named_hex it =
    let b = hex_text it.before in
    let x = hex_text (spelling it.first) in
    let y = hex_text (second_spelling it.second) in
    let d = hex_text it.behind in
    sym (append_assoc b x (y ++ d)) ∙ sym (append_assoc (b ++ x) y d)
    ∙ ap (λ digits. digits ++ y ++ d) (sym (hex_append it.before (spelling it.first)))
    ∙ ap (λ digits. digits ++ d) (sym (hex_append (it.before ++ spelling it.first) (second_spelling it.second)))
    ∙ sym (hex_append (it.before ++ spelling it.first ++ second_spelling it.second) it.behind)

begun : (octets : List ℕ) → 0 < length octets → digits_behind octets ≡ 32 ∷ hex_text octets
begun [] h = absurd (omega arith)
begun (n ∷ octets) h = refl

-- the count and the octets before the names, and then the rest
pub spelled_is : (it : NamedData) (count : ℕ) → count ≡ named_size it
    → (92 ∷ 35 ∷ 32 ∷ decimal count ++ 32 ∷ hex_text it.before)
    ++ (hex_text (spelling it.first) ++ (hex_text (second_spelling it.second) ++ hex_text it.behind)) ≡ generic_text (named_spelling it)
spelled_is it count e =
    let same : count ≡ length (named_spelling it) = e ∙ sym (named_length it) in
    let some : 0 < length (named_spelling it) = omega (arith, named_length it, some_octets it.first) in
    let rest = hex_text (spelling it.first) ++ (hex_text (second_spelling it.second) ++ hex_text it.behind) in
    append_assoc (92 ∷ 35 ∷ 32 ∷ decimal count) (32 ∷ hex_text it.before) rest
    ∙ ap (λ digits. (92 ∷ 35 ∷ 32 ∷ decimal count) ++ 32 ∷ digits) (named_hex it)
    ∙ ap (λ digits. (92 ∷ 35 ∷ 32 ∷ decimal count) ++ digits) (sym (begun (named_spelling it) some))
    ∙ ap (λ n. (92 ∷ 35 ∷ 32 ∷ decimal n) ++ digits_behind (named_spelling it)) same
