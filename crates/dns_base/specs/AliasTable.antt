-- A table of aliases: the place of the first alias of each owner, in the order of the owners.
use Rattle.std.specs.Prelude.{◌≡◌, ◌<◌, ℕ, List, Some, None, length, slice_index_or}
use Rattle.std.specs.declared.cmp.Ordering.{Ordering}
use Rattle.std.specs.declared.cmp.Ordering.TheVariants.{Less, Equal}
use Rattle.std.specs.Ordering.{on, nat_cmp, ordering_index}
use Rattle.std.specs.Option.{option_map_or}
use Rattle.std.specs.List.Sorted.{IsNonDecreasingBy}
use Rattle.std.specs.Cmp.Lexicographic.{slice_cmp}
use Rattle.dns_names.specs.Name.{Labels, lowered, name_at}
use Rattle.dns_base.specs.Message.{Known, record_at, list_at, answer_records}
use Rattle.dns_base.specs.Canonical.{alias_in}

-- an order of names, but for case
abbrev pub name_cmp : Labels → Labels → Ordering
name_cmp = on lowered (slice_cmp (slice_cmp nat_cmp))

-- how the name at a place stands to a name; a place without a name comes first
abbrev pub order_at : List ℕ → Labels → ℕ → Ordering
order_at octets name place = option_map_or (λ found. name_cmp found.labels name) (name_at octets place) Less

-- a record at a place is the first alias of its owner
pub record IsFirst (octets : List ℕ) (records : List Known) (place : ℕ) : Type 0 where
  pub known : Known
  pub end : ℕ
  pub read : record_at octets place ≡ Some (known, end)
  pub first : alias_in known.entry.owner records ≡ Some known

-- The places are those of the first aliases of all owners among these records, in order.
pub record IsTable (octets : List ℕ) (places : List ℕ) (records : List Known) : Type 0 where
  pub rises : (name : Labels) → IsNonDecreasingBy (λ place. ordering_index (order_at octets name place)) places
  pub firsts : (k : ℕ) (d : ℕ) → k < length places → IsFirst octets records (slice_index_or places k d)
  pub whole : (name : Labels) → ((k : ℕ) (d : ℕ) → k < length places → order_at octets name (slice_index_or places k d) ≡ Equal → ⊥) → alias_in name records ≡ None

-- The answer section is read, and this is the table of its aliases.
pub record HasTable (octets : List ℕ) (places : List ℕ) : Type 0 where
  pub records : List Known
  pub read : answer_records octets ≡ Some records
  pub table : IsTable octets places records

-- So many records from a place on are read, and this is the table of their aliases.
pub record IsTabled (octets : List ℕ) (start count : ℕ) (places : List ℕ) : Type 0 where
  pub found : List Known × ℕ
  pub read : list_at (record_at octets) count start ≡ Some found
  pub table : IsTable octets places found.0
