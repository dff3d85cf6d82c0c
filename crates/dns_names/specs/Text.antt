-- The texts of names.
use Rattle.std.specs.Prelude.{◌≡◌, ℕ, ◌+◌, ◌-◌, ◌*◌, ◌/◌, ◌%◌, List, [], ◌∷◌, ◌++◌, length, flat_map, decimal, Option, Some, None, option_map, option_and_then, Result, Ok, Err, Bool, true, false, nat_lt, nat_le, ◌==◌, ◌&&◌, ◌||◌, if◌then◌else◌}
use Rattle.std.specs.List.{join_by}
use Rattle.dns_names.specs.Name.{Labels, octet_count}
use Rattle.dns_names.specs.declared.fault.NameFault.{NameFault}
use Rattle.dns_names.specs.declared.fault.NameFault.TheVariants as Fault

abbrev pub dot : ℕ
dot = 46

abbrev pub backslash : ℕ
backslash = 92

abbrev pub is_digit : ℕ → Bool
is_digit c = nat_le 48 c && nat_le c 57

-- ASCII from the blank on, but for the last octet
abbrev pub is_printable : ℕ → Bool
is_printable c = nat_le 32 c && nat_le c 126

-- the number that three digits write
abbrev pub three_digits : ℕ → ℕ → ℕ → ℕ
three_digits a b c = (a - 48) * 100 + (b - 48) * 10 + (c - 48)

-- these octets at the front of the first label
abbrev pub onto : List ℕ → Labels → Labels
onto front [] = []
onto front (label ∷ labels) = (front ++ label) ∷ labels

unfoldable mutual
  -- A text cut into labels at its dots. A backslash stands before three digits, which write an
  -- octet, or before a printable character, which then has no other meaning.
  pub cut_text : List ℕ → Option Labels
  cut_text [] = Some ([] ∷ [])
  cut_text (c ∷ text) =
      if c == backslash then escaped text
      else if c == dot then option_map (λ labels. [] ∷ labels) (cut_text text)
      else if is_printable c then option_map (onto (c ∷ [])) (cut_text text)
      else None

  pub escaped : List ℕ → Option Labels
  escaped [] = None
  escaped (c ∷ text) =
      if is_digit c then numbered c text
      else if is_printable c then option_map (onto (c ∷ [])) (cut_text text)
      else None

  pub numbered : ℕ → List ℕ → Option Labels
  numbered a [] = None
  numbered a (b ∷ []) = None
  numbered a (b ∷ c ∷ text) =
      if is_digit b && is_digit c && nat_le (three_digits a b c) 255
      then option_map (onto (three_digits a b c ∷ [])) (cut_text text)
      else None

-- each of them has an octet
abbrev pub are_full : Labels → Bool
are_full [] = true
are_full (label ∷ labels) = nat_lt 0 (length label) && are_full labels

-- each of them has at most 63 octets
abbrev pub are_short : Labels → Bool
are_short [] = true
are_short (label ∷ labels) = nat_le (length label) 63 && are_short labels

abbrev pub full : Labels → Option Labels
full labels = if are_full labels then Some labels else None

-- without the empty label that a final dot leaves
abbrev pub undotted : Labels → Labels
undotted [] = []
undotted (label ∷ []) = label ∷ []
undotted (label ∷ [] ∷ []) = label ∷ []
undotted (label ∷ next ∷ labels) = label ∷ undotted (next ∷ labels)

abbrev pub is_dot : List ℕ → Bool
is_dot [] = false
is_dot (c ∷ []) = c == dot
is_dot (c ∷ d ∷ text) = false

-- The labels of a name's text: a dot alone is the root, and a final dot may be left out.
unfoldable pub name_labels : List ℕ → Option Labels
name_labels text =
    if is_dot text then Some [] else option_and_then (λ labels. full (undotted labels)) (cut_text text)

-- The labels of a relative name's text, which has no final dot and may be empty.
unfoldable pub relative_labels : List ℕ → Option Labels
relative_labels [] = Some []
relative_labels (c ∷ text) = option_and_then full (cut_text (c ∷ text))

-- Labels of 63 octets at most, of 255 together with their lengths and the root's.
abbrev pub fit : Labels → Bool
fit labels = are_short labels && nat_le (octet_count labels) 255

-- The whole text is judged by the grammar before its labels are measured.
abbrev pub judged : Option Labels → Result Labels NameFault
judged None = Err Fault.Parse
judged (Some labels) = if fit labels then Ok labels else Err Fault.Long

abbrev pub name_of_text : List ℕ → Result Labels NameFault
name_of_text text = judged (name_labels text)

abbrev pub relative_of_text : List ℕ → Result Labels NameFault
relative_of_text text = judged (relative_labels text)

-- A result is this answer, or memory ran out.
abbrev pub Gives : Result Labels NameFault → Result Labels NameFault → Type 0
Gives answer (Ok labels) = answer ≡ Ok labels
Gives answer (Err Fault.Parse) = answer ≡ Err Fault.Parse
Gives answer (Err Fault.Long) = answer ≡ Err Fault.Long
Gives answer (Err Fault.NoMemory) = Unit {0}

-- What an octet of a label prints: a dot and a backslash after a backslash, the blank and what
-- isn't printable as three digits after one.
abbrev pub octet_text : ℕ → List ℕ
octet_text n =
    if (n == dot) || (n == backslash) then backslash ∷ n ∷ []
    else if nat_le 33 n && nat_le n 126 then n ∷ []
    else backslash ∷ decimal (n / 100) ++ decimal (n / 10 % 10) ++ decimal (n % 10)

abbrev pub label_text : List ℕ → List ℕ
label_text label = flat_map octet_text label

-- labels with dots between
abbrev pub relative_text : Labels → List ℕ
relative_text labels = join_by label_text (dot ∷ []) labels

-- the root is a dot
abbrev pub name_text : Labels → List ℕ
name_text [] = dot ∷ []
name_text (label ∷ labels) = relative_text (label ∷ labels)
