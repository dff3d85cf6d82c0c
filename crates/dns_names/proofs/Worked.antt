-- Names that a message may hold, and texts, computed.
use Rattle.std.proofs.Common.{◌≡◌, [], ◌∷◌, ◌++◌, refl, replicate}
use Rattle.std.specs.Prelude.{Some, None, Ok, Err, codes}
use Rattle.dns_names.specs.Name.{name_at, walk, head_at}
use Rattle.dns_names.specs.Text.{cut_text, escaped, numbered, name_labels, name_of_text, name_text}
use Rattle.dns_names.specs.declared.fault.NameFault.TheVariants as Fault

-- A label, and a pointer back to it: read round and round, 127 times, it passes 255 octets.
pub round : name_at (1 ∷ 97 ∷ 0xc0 ∷ 0 ∷ []) 0 ≡ None
unfolding name_at walk head_at
round = refl

-- A pointer into the name's own label: its octets are a head, and the label that it starts goes on
-- behind the pointer. So what a name is may rest on octets behind its end.
pub past_its_end : name_at (3 ∷ 5 ∷ 98 ∷ 99 ∷ 0xc0 ∷ 1 ∷ 100 ∷ 0 ∷ []) 0
    ≡ Some (record { labels = (5 ∷ 98 ∷ 99 ∷ []) ∷ (98 ∷ 99 ∷ 0xc0 ∷ 1 ∷ 100 ∷ []) ∷ []; end = 6; pointers = 1 })
unfolding name_at walk head_at
past_its_end = refl

-- The same name with fewer octets behind its end is not read.
pub not_yet : name_at (3 ∷ 5 ∷ 98 ∷ 99 ∷ 0xc0 ∷ 1 ∷ []) 0 ≡ None
unfolding name_at walk head_at
not_yet = refl

-- A pointer to the header of a message: the id is read as a label.
pub header_read : name_at (1 ∷ 52 ∷ 0 ∷ 0 ∷ 0 ∷ 1 ∷ 0 ∷ 0 ∷ 0 ∷ 0 ∷ 0 ∷ 0 ∷ 0xc0 ∷ 0 ∷ []) 12
    ≡ Some (record { labels = (52 ∷ []) ∷ []; end = 14; pointers = 1 })
unfolding name_at walk head_at
header_read = refl

-- another id, and the name is another
pub other_header : name_at (0 ∷ 52 ∷ 0 ∷ 0 ∷ 0 ∷ 1 ∷ 0 ∷ 0 ∷ 0 ∷ 0 ∷ 0 ∷ 0 ∷ 0xc0 ∷ 0 ∷ []) 12
    ≡ Some (record { labels = []; end = 14; pointers = 1 })
unfolding name_at walk head_at
other_header = refl

-- a pointer to itself, forward, and heads of no kind
pub itself : name_at (0xc0 ∷ 0 ∷ []) 0 ≡ None
unfolding name_at walk head_at
itself = refl

pub forward : name_at (0xc0 ∷ 2 ∷ 0 ∷ []) 0 ≡ None
unfolding name_at walk head_at
forward = refl

pub head_40 : name_at (0x40 ∷ 0 ∷ []) 0 ≡ None
unfolding name_at walk head_at
head_40 = refl

pub head_80 : name_at (0x80 ∷ 0 ∷ []) 0 ≡ None
unfolding name_at walk head_at
head_80 = refl

-- texts
pub escapes : name_of_text (codes "a\\.b\\\\c\\032d.") ≡ Ok ((97 ∷ 46 ∷ 98 ∷ 92 ∷ 99 ∷ 32 ∷ 100 ∷ []) ∷ [])
unfolding name_labels cut_text escaped numbered
escapes = refl

pub shown : name_text ((97 ∷ 46 ∷ 98 ∷ 92 ∷ 99 ∷ []) ∷ (120 ∷ []) ∷ []) ≡ codes "a\\.b\\\\c.x"
shown = refl

pub above_255 : name_of_text (codes "\\256") ≡ Err Fault.Parse
unfolding name_labels cut_text escaped numbered
above_255 = refl

-- a label of 64 octets is long, and with a bad end of the text it is no name at all
pub long : name_of_text (replicate 64 97) ≡ Err Fault.Long
unfolding name_labels cut_text escaped numbered
long = refl

pub bad_and_long : name_of_text (replicate 64 97 ++ codes "..") ≡ Err Fault.Parse
unfolding name_labels cut_text escaped numbered
bad_and_long = refl
