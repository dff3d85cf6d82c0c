-- The ids of a stream connection: a finite map from ids to items, and a mark above all of them.
use Rattle.std.specs.Prelude.{◌≡◌, ℕ, ◌+◌, ◌*◌, ◌<◌, ◌==◌, ◌&&◌, nat_le, nat_lt, Bool, if◌then◌else◌, List, [], ◌∷◌, length, map, slice_get, Option, Some, None}
use Rattle.client_request.specs.Numbered.{puts, frees, entry_at}
use Rattle.client_stream.specs.declared.queries.InsertFault.{InsertFault}
use Rattle.client_stream.specs.declared.queries.InsertFault.TheVariants.{Full, NoMemory}

-- The items with their ids, in order of ids.
pub record IdTable (T : Type 0) : Type 0 where
  pub held : List (ℕ × T)
  pub mark : ℕ

module _ {T : Type 0} where
  abbrev pub no_ids : IdTable T
  no_ids = record { held = []; mark = 0 }

  -- the least id from a number on that none of some items has, which are in order of ids
  abbrev pub free_from : ℕ → List (ℕ × T) → ℕ
  free_from id [] = id
  free_from id (entry ∷ entries) = if entry.0 == id then free_from (id + 1) entries else id

  abbrev pub least_free : IdTable T → ℕ
  least_free t = free_from 0 t.held

  -- an id below the mark is given again: at most half of them are held, and one is free
  abbrev pub reuses : IdTable T → Bool
  reuses t = nat_le (2 * length t.held) t.mark && nat_lt (least_free t) t.mark

  abbrev pub next_id : IdTable T → ℕ
  next_id t = if reuses t then least_free t else t.mark

  abbrev pub inserted : T → IdTable T → IdTable T
  inserted item t = record { held = puts (next_id t) item t.held; mark = if reuses t then t.mark else t.mark + 1 }

  abbrev pub inserted_at : ℕ → T → IdTable T → IdTable T
  inserted_at id item t = record t { held = puts id item t.held }

  abbrev pub removed : ℕ → IdTable T → IdTable T
  removed id t = record t { held = frees id t.held }

  -- the items, in order of ids
  abbrev pub items_of : IdTable T → List T
  items_of t = map (λ entry. entry.1) t.held

  -- Slots stand for a table: as many as the mark, each with the item that has its place for id.
  pub record AreSlotsOf (t : IdTable T) (slots : List (Option T)) : Type 0 where
    pub places : length slots ≡ t.mark
    pub held : (id : ℕ) → id < t.mark → slice_get slots id ≡ Some (entry_at id t.held)

  -- The table that slots stand for, whose ids begin at a number.
  abbrev pub held_from : ℕ → List (Option T) → List (ℕ × T)
  held_from id [] = []
  held_from id (None ∷ slots) = held_from (id + 1) slots
  held_from id (Some item ∷ slots) = (id, item) ∷ held_from (id + 1) slots

  -- how many slots stand before the first free one
  abbrev pub full_front : List (Option T) → ℕ
  full_front [] = 0
  full_front (None ∷ slots) = 0
  full_front (Some item ∷ slots) = full_front slots + 1

  -- the item that a refusal hands back
  abbrev pub item_of : InsertFault T → T
  item_of (Full item) = item
  item_of (NoMemory item) = item
