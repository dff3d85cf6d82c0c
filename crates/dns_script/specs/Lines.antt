-- The lines of a trace: its events and what was put out.
use Rattle.std.specs.Prelude.{ℕ, List, [], ◌∷◌, ◌++◌, length, Option, Some, None, Result, Ok, Err, codes}
use Rattle.std.specs.Fmt.{decimal}
use Rattle.std.specs.List.{join_with_byte}
use Rattle.std.specs.Int.{w16, to_be_bytes}
use Rattle.dns_base.specs.OptRecord.{OptFields}
use Rattle.client_request.specs.Request.{Request}
use Rattle.client_request.specs.declared.error.Error.{Error}
use Rattle.client_request.specs.declared.event.Event.{Event}
use Rattle.client_request.specs.declared.event.What.{What}
use Rattle.client_request.specs.declared.event.What.TheVariants as what
use Rattle.client_request.specs.declared.event.Out.{Out}
use Rattle.client_request.specs.declared.event.Out.TheVariants as out
use Rattle.dns_script.specs.Words.{hex_word, via_word, fault_word, error_words}

-- words parted by single blanks, and a line feed
abbrev pub line : List (List ℕ) → List ℕ
line words = join_with_byte 32 words ++ 10 ∷ []

-- an OPT record of the root (RFC 6891 6.1.2)
abbrev pub opt_octets : OptFields → List ℕ
opt_octets opt =
    0 ∷ 0 ∷ 41 ∷ to_be_bytes w16 opt.udp_payload_size
    ++ opt.ext_rcode ∷ opt.version ∷ to_be_bytes w16 opt.flags
    ++ to_be_bytes w16 (length opt.options) ++ opt.options

-- the recorded OPT record, or a hyphen
abbrev pub opt_word : Option OptFields → List ℕ
opt_word None = codes "-"
opt_word (Some opt) = hex_word (opt_octets opt)

abbrev pub request_words : Request → List (List ℕ)
request_words request = hex_word request.base ∷ hex_word request.header ∷ opt_word request.opt ∷ []

abbrev pub what_words : What → List (List ℕ)
what_words (what.Ask request) = codes "ask" ∷ request_words request
what_words (what.Opened place) = codes "opened" ∷ decimal place ∷ []
what_words (what.OpenFailed place fault) = codes "open-failed" ∷ decimal place ∷ fault_word fault ∷ []
what_words (what.SendFailed place fault) = codes "send-failed" ∷ decimal place ∷ fault_word fault ∷ []
what_words (what.ShortSend place) = codes "short-send" ∷ decimal place ∷ []
what_words (what.Datagram place octets) = codes "datagram" ∷ decimal place ∷ hex_word octets ∷ []
what_words (what.RecvFailed place fault) = codes "recv-failed" ∷ decimal place ∷ fault_word fault ∷ []
what_words (what.Wrote place count) = codes "wrote" ∷ decimal place ∷ decimal count ∷ []
what_words (what.WriteFailed place fault) = codes "write-failed" ∷ decimal place ∷ fault_word fault ∷ []
what_words (what.Bytes place octets) = codes "bytes" ∷ decimal place ∷ hex_word octets ∷ []
what_words (what.ReadFailed place fault) = codes "read-failed" ∷ decimal place ∷ fault_word fault ∷ []
what_words (what.Ended place) = codes "ended" ∷ decimal place ∷ []
what_words what.Tick = codes "tick" ∷ []

abbrev pub event_words : Event → List (List ℕ)
event_words event = codes "at" ∷ decimal event.moment.0 ∷ what_words event.what

abbrev pub result_words : Result (List ℕ) Error → List (List ℕ)
result_words (Ok message) = codes "ok" ∷ hex_word message ∷ []
result_words (Err error) = codes "err" ∷ error_words error

abbrev pub out_words : Out → List (List ℕ)
out_words (out.Start request server via) = codes "start" ∷ decimal request ∷ decimal server ∷ via_word via ∷ []
out_words (out.OpenDgram place server) = codes "open-dgram" ∷ decimal place ∷ decimal server ∷ []
out_words (out.OpenStream place server) = codes "open-stream" ∷ decimal place ∷ decimal server ∷ []
out_words (out.Send place request id octets) = codes "send" ∷ decimal place ∷ decimal request ∷ decimal id ∷ hex_word octets ∷ []
out_words (out.Write place request id octets) = codes "write" ∷ decimal place ∷ decimal request ∷ decimal id ∷ hex_word octets ∷ []
out_words (out.Resume place octets) = codes "resume" ∷ decimal place ∷ hex_word octets ∷ []
out_words (out.Close place) = codes "close" ∷ decimal place ∷ []
out_words (out.Stale request) = codes "stale" ∷ decimal request ∷ []
out_words (out.Reply request result) = codes "reply" ∷ decimal request ∷ result_words result

abbrev pub event_line : Event → List ℕ
event_line event = line (event_words event)

-- an out stands behind its event, after `> `
abbrev pub out_line : Out → List ℕ
out_line out = line (codes ">" ∷ out_words out)
