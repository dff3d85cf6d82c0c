-- What a client that several lanes share makes of a script.
use Rattle.std.specs.Prelude.{◌≡◌, ◌<◌, ℕ, Bool, true, false, ◌==◌, if◌then◌else◌, List, [], ◌∷◌, ◌++◌, length, map, Some, None, codes, slice_index, slice_get, Option}
use Rattle.std.specs.Option.{option_map_or}
use Rattle.std.specs.Fmt.{decimal}
use Rattle.std.specs.List.{flat_map, list_any}
use mathlib.Core.List.{IsPrefix}
use Rattle.client_cache.specs.Plain.{room_of}
use Rattle.client_request.specs.Composed.{composed}
use Rattle.client_request.specs.Words.{listed}
use Rattle.client_request.specs.declared.event.Event.{Event}
use Rattle.client_shared.specs.Drawn.{drawn_by}
use Rattle.client_shared.specs.History.{Opening, opening_with, row_of}
use Rattle.client_shared.specs.declared.entry.Entry.{Entry}
use Rattle.client_steps.specs.Headline.{conf_with, settings_of}
use Rattle.client_steps.specs.Whole.{plain_trace_with}
use Rattle.dns_script.specs.Lines.{line}
use Rattle.dns_script.specs.TraceText.{has_stale, last_line, row_text}
use Rattle.dns_script.specs.declared.script.Script.{Script}
use Rattle.proof_shared.specs.Histories.{events_of}
use Rattle.right_trace.specs.Hit.{AllHit}
use Rattle.right_trace.specs.InOctets.{AllInOctets}
use Rattle.right_trace.specs.Right.{Right}
use Rattle.right_trace.specs.StaleServed.{AllServeStale}
use Rattle.right_trace.specs.Timely.{AllAskedInOctets, Timely}
use Rattle.dnsq_run.specs.Program.{AreSet}
use Rattle.right_trace.specs.Trace.{Transports}

-- the events of one caller's entries, in order
abbrev pub events_by : ℕ → List Entry → List Event
events_by n [] = []
events_by n (e ∷ entries) = if e.caller == n then e.event ∷ events_by n entries else events_by n entries

-- the events of a lane, and none past the last lane
abbrev pub lane_at : List (List Event) → ℕ → List Event
lane_at lanes n = option_map_or (λ events. events) (slice_get lanes n) []

-- what the client of a script is opened with
abbrev pub opening_for : Script → Opening
opening_for script = opening_with script.transports script.redundant script.cache script.conf (listed script.words) (length script.lanes)

-- These entries have the events of each lane in their order, each once, and nothing else; their rows are the plain trace of their events, with the
-- script's settings and words and 0 past their end; they are right and timely, give what is kept, and serve what has expired; and the words that the entries drew are the script's first ones.
pub record AreMade (script : Script) (entries : List Entry) : Type 0 where
  pub lanes : (n : ℕ) → events_by n entries ≡ lane_at script.lanes n
  pub plain : plain_trace_with script.transports script.redundant script.cache script.conf (listed script.words) (events_of entries) ≡ Some (map row_of entries)
  pub right : (t : Transports) → AreSet script t → Right (conf_with t script.conf) (settings_of script.redundant script.cache) (map row_of entries)
  pub timely : (t : Transports) → AreSet script t → Timely (conf_with t script.conf) (map row_of entries)
  pub hits : (t : Transports) → AreSet script t → AllHit (conf_with t script.conf) (settings_of script.redundant script.cache) composed (room_of script.cache) [] (map row_of entries)
  pub stale : (t : Transports) → AreSet script t → AllServeStale (conf_with t script.conf) (settings_of script.redundant script.cache) (room_of script.cache) [] (map row_of entries)
  pub words : (k : ℕ) → k < length (drawn_by entries) → slice_index (drawn_by entries) k ≡ listed script.words k

-- In some order of first events of the lanes a number would pass 64 bits at the last of them.
pub record MayStop (script : Script) : Type 0 where
  pub entries : List Entry
  pub caller : ℕ
  pub event : Event
  pub lanes : (n : ℕ) → IsPrefix (events_by n entries) (lane_at script.lanes n)
  pub next : IsPrefix (events_by caller entries ++ event ∷ []) (lane_at script.lanes caller)
  pub stops : plain_trace_with script.transports script.redundant script.cache script.conf (listed script.words) (events_of entries ++ event ∷ []) ≡ None

-- an entry: whose it is, and its row
abbrev pub entry_text : Entry → List ℕ
entry_text e = codes "lane " ++ decimal e.caller ++ codes " " ++ row_text (row_of e)

-- A text in which a reply is stale is of the second version, and any other of the first.
abbrev pub first_line : (stale : Bool) → List ℕ
first_line false = line (codes "many" ∷ codes "1" ∷ [])
first_line true = line (codes "many" ∷ codes "2" ∷ [])

-- the first line, each entry in order, and the last line
abbrev pub many_text_of : List Entry → List ℕ
many_text_of entries = first_line (list_any (λ e. has_stale (row_of e)) entries) ++ flat_map entry_text entries ++ last_line

-- what comes in the events of entries, and what they ask, is octets
abbrev pub AreInOctets : List Entry → Type 0
AreInOctets entries = AllAskedInOctets (events_of entries) × AllInOctets (events_of entries)

-- These octets are the text of what a client that the lanes share made of a script.
pub record IsTextOf (script : Script) (out : List ℕ) : Type 0 where
  pub entries : List Entry
  pub made : AreMade script entries
  pub says : out ≡ many_text_of entries
