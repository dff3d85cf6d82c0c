-- Names as text that stands among other text: each label with a dot behind it.
use Rattle.std.specs.Prelude.{ℕ, ◌==◌, ◌&&◌, ◌||◌, nat_le, Bool, List, [], ◌∷◌, ◌++◌, if◌then◌else◌}
use Rattle.std.specs.List.{flat_map}
use Rattle.dns_names.specs.Name.{Labels}
use Rattle.dns_names.specs.Text.{backslash, dot}
use Rattle.dns_presentation.specs.Octets.{numbered_octet}

-- letters, digits, and `-`, `_`, `*`, `/`, which have no meaning of their own anywhere
abbrev pub is_plain : ℕ → Bool
is_plain n =
    (nat_le 97 n && nat_le n 122) || ((nat_le 65 n && nat_le n 90) || ((nat_le 48 n && nat_le n 57)
    || ((n == 45) || ((n == 95) || ((n == 42) || (n == 47))))))

-- Any other printable character stands behind a backslash, but for `#`, with which that would begin generic data. That
-- one, the blank and what isn't printable are three digits behind a backslash.
abbrev pub name_octet : ℕ → List ℕ
name_octet n =
    if is_plain n then n ∷ []
    else if n == 35 then numbered_octet n
    else if nat_le 33 n && nat_le n 126 then backslash ∷ n ∷ []
    else numbered_octet n

abbrev pub ended_label : List ℕ → List ℕ
ended_label label = flat_map name_octet label ++ dot ∷ []

abbrev pub ended_labels : Labels → List ℕ
ended_labels labels = flat_map ended_label labels

-- the root is a dot
abbrev pub absolute_text : Labels → List ℕ
absolute_text [] = dot ∷ []
absolute_text (label ∷ labels) = ended_labels (label ∷ labels)
