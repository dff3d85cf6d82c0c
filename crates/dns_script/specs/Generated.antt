-- The script that `generate` makes: fifty hosts are asked for in turn, again and again. Moments are in microseconds.
use Rattle.std.specs.Prelude.{ℕ, ◌+◌, ◌*◌, ◌/◌, ◌%◌, ◌==◌, Bool, if◌then◌else◌, List, [], ◌∷◌, ◌++◌, length, codes}
use Rattle.std.specs.Fmt.{decimal}
use Rattle.std.specs.Int.{w16, to_be_bytes}
use Rattle.std.specs.List.{flat_map, range_with_len, sum_by}
use Rattle.dns_names.specs.Name.{Labels, spelling}
use Rattle.dns_values.specs.declared.address.IpAddr.TheVariants.{V4}
use Rattle.client_request.specs.Request.{recorded_from}
use Rattle.client_request.specs.declared.event.Event.{Event}
use Rattle.client_request.specs.declared.event.What.{What}
use Rattle.client_request.specs.declared.event.What.TheVariants.{Ask, Bytes, Datagram, Opened, Wrote}
use Rattle.client_settings.specs.Client.{default_transports}
use Rattle.client_settings.specs.Settings.{default_cache, default_redundant}
use Rattle.resolv_conf.specs.Conf.{default_options, name_server}
use Rattle.resolv_conf.specs.declared.conf.ResolvConf.{ResolvConf}
use Rattle.dns_script.specs.declared.generating.Turns.{Turns}
use Rattle.dns_script.specs.declared.script.Script.{Script}

-- `h0.example.com` to `h49.example.com`
abbrev pub host_label : ℕ → List ℕ
host_label host = codes "h" ++ decimal host

abbrev pub host_labels : ℕ → Labels
host_labels host = host_label host ∷ codes "example" ∷ codes "com" ∷ []

-- that name, A and IN
abbrev pub host_question : ℕ → List ℕ
host_question host = spelling (host_labels host) ++ 0 ∷ 1 ∷ 0 ∷ 1 ∷ []

-- the name of the question by a pointer, A and IN, 120 seconds, and the address 192.0.2.host
abbrev pub host_record : ℕ → List ℕ
host_record host = 0xc0 ∷ 0x0c ∷ 0 ∷ 1 ∷ 0 ∷ 1 ∷ 0 ∷ 0 ∷ 0 ∷ 120 ∷ 0 ∷ 4 ∷ 192 ∷ 0 ∷ 2 ∷ host ∷ []

-- an id, flags, one question and so many answers (RFC 1035 4.1.1)
abbrev pub header : (id flags answers : ℕ) → List ℕ
header id flags answers = to_be_bytes w16 id ++ to_be_bytes w16 flags ++ 0 ∷ 1 ∷ 0 ∷ answers ∷ 0 ∷ 0 ∷ 0 ∷ 0 ∷ []

-- recursion is desired
abbrev pub host_query : ℕ → List ℕ
host_query host = header 0 0x0100 0 ++ host_question host

-- it was done
abbrev pub host_answer : (id host : ℕ) → List ℕ
host_answer id host = header id 0x8180 1 ++ host_question host ++ host_record host

-- and the answer does not fit a datagram
abbrev pub truncated_answer : (id host : ℕ) → List ℕ
truncated_answer id host = header id 0x8380 0 ++ host_question host

-- a message behind its length, as a stream has it (RFC 1035 4.2.2)
abbrev pub frame : List ℕ → List ℕ
frame message = to_be_bytes w16 (length message) ++ message

-- the host of turn k
abbrev pub host_of : ℕ → ℕ
host_of k = k % 50

-- In one of three rounds of hosts the server is asked; what it answers serves the other two.
abbrev pub is_asked : ℕ → Bool
is_asked k = (k / 50) % 3 == 0

-- what comes so many microseconds after turn k began, a second each
abbrev pub after : (k : ℕ) → ℕ → What → Event
after k later what = record { moment = record { 0 = 1000000 * k + later }; what = what }

-- the answer of the server comes by datagram
abbrev pub by_datagram : (k place : ℕ) → (message : List ℕ) → List Event
by_datagram k place message = after k 10000 (Opened place) ∷ after k 20000 (Datagram place message) ∷ []

-- it comes by stream, which takes all that is written
abbrev pub by_stream : (k place : ℕ) → (message : List ℕ) → List Event
by_stream k place message =
    after k 30000 (Opened place) ∷ after k 40000 (Wrote place 65537) ∷ after k 50000 (Bytes place (frame message)) ∷ []

-- The answer for the first host is truncated, and so it comes by stream too.
abbrev pub answered : (k place : ℕ) → List Event
answered k place =
    if host_of k == 0 then by_datagram k place (truncated_answer (k % 65536) 0) ++ by_stream k (place + 1) (host_answer 0 0)
    else by_datagram k place (host_answer (k % 65536) (host_of k))

-- how many places it opens
abbrev pub answer_places : ℕ → ℕ
answer_places k = if host_of k == 0 then 2 else 1

abbrev pub places_of : ℕ → ℕ
places_of k = if is_asked k then answer_places k else 0

-- so many turns from turn 0 on
abbrev pub first_turns : ℕ → List ℕ
first_turns count = range_with_len 0 count

-- the next free place at turn k
abbrev pub next_place : ℕ → ℕ
next_place k = sum_by places_of (first_turns k)

-- the events of turn k, where a place is the next free one: the host is asked for, and the server answers, or the cache does
abbrev pub events_at : (k place : ℕ) → List Event
events_at k place = after k 0 (Ask (recorded_from (host_query (host_of k)))) ∷ (if is_asked k then answered k place else [])

abbrev pub events_of : ℕ → List Event
events_of k = events_at k (next_place k)

-- the word that turn k draws for an id, where the server is asked
abbrev pub words_of : ℕ → List ℕ
words_of k = if is_asked k then k ∷ [] else []

-- what turns add, with turn k
abbrev pub with_turn : ℕ → Turns → Turns
with_turn k t = record { place = t.place + places_of k; words = t.words ++ words_of k; events = t.events ++ events_at k t.place }

-- one server
abbrev pub generated_conf : ResolvConf
generated_conf = record { servers = name_server (V4 (192 ∷ 0 ∷ 2 ∷ 53 ∷ [])) ∷ []; options = default_options }

-- four rounds of hosts for each of n
abbrev pub generated : ℕ → Script
generated n = record {
  conf = generated_conf;
  redundant = default_redundant;
  cache = default_cache;
  transports = default_transports;
  words = flat_map words_of (first_turns (200 * n));
  lanes = flat_map events_of (first_turns (200 * n)) ∷ [];
}
