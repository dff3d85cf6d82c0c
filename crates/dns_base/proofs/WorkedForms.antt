-- Worked data of the types that have a form, computed: a name, and behind it data with pointers to it.
use Rattle.std.proofs.Common.{◌≡◌, ℕ, List, [], ◌∷◌, ◌++◌, refl, Some, None}
use Rattle.std.specs.Prelude.{replicate}
use Rattle.dns_names.specs.Name.{name_at, walk, head_at, spelling}
use Rattle.dns_base.specs.Data.{Named, data_at, data_spelling}
use Rattle.dns_base.specs.Compression.{with_octets, with_data}
use Rattle.dns_base.proofs.Worked.{example, top, asked}

abbrev behind_name : List ℕ → List ℕ
behind_name octets = spelling example ++ octets

-- AFSDB: a subtype and a host
pub host_read : data_at 18 (behind_name (0 ∷ 1 ∷ 0xc0 ∷ 0 ∷ [])) 13 17 ≡ Some (Named (record { before = 0 ∷ 1 ∷ []; first = example; second = None; behind = [] }))
unfolding name_at walk head_at data_at
host_read = refl

-- NAPTR: an order, a preference, three strings, of which the second is empty, and a replacement
pub replacement_read : data_at 35 (behind_name (0 ∷ 1 ∷ 0 ∷ 2 ∷ 1 ∷ 117 ∷ 0 ∷ 1 ∷ 33 ∷ 0xc0 ∷ 0 ∷ [])) 13 24
    ≡ Some (Named (record { before = 0 ∷ 1 ∷ 0 ∷ 2 ∷ 1 ∷ 117 ∷ 0 ∷ 1 ∷ 33 ∷ []; first = example; second = None; behind = [] }))
unfolding name_at walk head_at data_at
replacement_read = refl

-- its third string passes the end
pub string_cut : data_at 35 (behind_name (0 ∷ 1 ∷ 0 ∷ 2 ∷ 1 ∷ 117 ∷ 0 ∷ 9 ∷ 33 ∷ 0xc0 ∷ 0 ∷ [])) 13 24 ≡ None
unfolding name_at walk head_at data_at
string_cut = refl

-- PX: a preference and two names
pub map_read : data_at 26 (behind_name (0 ∷ 9 ∷ 0xc0 ∷ 0 ∷ 0xc0 ∷ 8 ∷ [])) 13 19 ≡ Some (Named (record { before = 0 ∷ 9 ∷ []; first = example; second = Some top; behind = [] }))
unfolding name_at walk head_at data_at
map_read = refl

-- with one name alone it isn't read
pub map_cut : data_at 26 (behind_name (0 ∷ 9 ∷ 0xc0 ∷ 0 ∷ [])) 13 17 ≡ None
unfolding name_at walk head_at data_at
map_cut = refl

-- nor with octets behind the second
pub map_long : data_at 26 (behind_name (0 ∷ 9 ∷ 0xc0 ∷ 0 ∷ 0xc0 ∷ 8 ∷ 0 ∷ [])) 13 20 ≡ None
unfolding name_at walk head_at data_at
map_long = refl

-- SIG: eighteen octets, a signer, and a signature
pub signer_read : data_at 24 (behind_name (replicate 18 7 ++ (0xc0 ∷ 0 ∷ 1 ∷ 2 ∷ []))) 13 35 ≡ Some (Named (record { before = replicate 18 7; first = example; second = None; behind = 1 ∷ 2 ∷ [] }))
unfolding name_at walk head_at data_at
signer_read = refl

pub signature_cut : data_at 24 (behind_name (replicate 17 7)) 13 30 ≡ None
unfolding name_at walk head_at data_at
signature_cut = refl

-- NXT: the next name, and the types that there are
pub next_read : data_at 30 (behind_name (0xc0 ∷ 0 ∷ 0x40 ∷ 1 ∷ [])) 13 17 ≡ Some (Named (record { before = []; first = example; second = None; behind = 0x40 ∷ 1 ∷ [] }))
unfolding name_at walk head_at data_at
next_read = refl

-- No pointer stands for a name that is written, and no label of it is remembered.
pub map_written : with_data (Named (record { before = 0 ∷ 9 ∷ []; first = example; second = Some top; behind = [] })) asked
    ≡ record asked { octets = asked.octets ++ ((0 ∷ 9 ∷ []) ++ spelling example ++ spelling top) }
unfolding with_octets with_data data_spelling
map_written = refl
