-- What is known while a name's text is read.
use Rattle.std.specs.Prelude.{◌≡◌, ℕ, List, [], ◌∷◌, ◌++◌, length, Option, Some, None, option_map, Result, Ok, Err, IsTrue}
use Rattle.std.specs.Borrow.{Bor}
use Rattle.dns_names.specs.Name.{Labels}
use Rattle.dns_names.specs.Text.{cut_text, onto, are_full, are_short}
use Rattle.dns_names.specs.declared.fault.NameFault.{NameFault}
use Rattle.dns_names.specs.declared.fault.NameFault.TheVariants as Fault
use Rattle.dns_names.specs.declared.draft.Draft.{Draft}
use Rattle.dns_names.specs.declared.text.Piece.{Piece}
use Rattle.dns_names.specs.declared.text.Piece.TheVariants.{Dot, Octet}

-- what a text is cut into by its first piece and the text behind it
abbrev pub after_piece : Piece → Option Labels → Option Labels
after_piece Dot rest = option_map (λ labels. [] ∷ labels) rest
after_piece (Octet n) rest = option_map (onto (n ∷ [])) rest

abbrev pub after_octet : Option (ℕ × Bor (List ℕ)) → Option Labels
after_octet None = None
after_octet (Some (n, rest)) = option_map (onto (n ∷ [])) (cut_text rest.now)

abbrev pub after_first : Option (Piece × Bor (List ℕ)) → Option Labels
after_first None = None
after_first (Some (piece, rest)) = after_piece piece (cut_text rest.now)

-- whole labels as they are written, the root left out
abbrev pub written : Labels → List ℕ
written [] = []
written (label ∷ labels) = length label ∷ label ++ written labels

-- What a draft says of the labels that it has whole: whether each has an octet, whether each has
-- at most 63, and their octets if each has.
pub record IsDraft (draft : Draft) (labels : Labels) : Type 0 where
  pub full : draft.is_full ≡ are_full labels
  pub short : draft.is_short ≡ are_short labels
  pub kept : IsTrue draft.is_short → draft.octets.items ≡ written labels

-- whole labels, and the one that is read at the end
abbrev pub IsReadAs : Draft → List ℕ → Type 0
IsReadAs draft text = (labels : Labels) × IsDraft draft labels × (cut_text text ≡ Some (labels ++ draft.label.items ∷ []))

-- what reading a text gives
abbrev pub ReadsDraft : List ℕ → Result Draft NameFault → Type 0
ReadsDraft text (Ok draft) = IsReadAs draft text
ReadsDraft text (Err Fault.Parse) = cut_text text ≡ None
ReadsDraft text (Err Fault.Long) = ⊥
ReadsDraft text (Err Fault.NoMemory) = Unit {0}
