-- The lines of events are taken as them.
use Rattle.std.proofs.Common.{◌≡◌, ℕ, Bool, true, false, List, [], ◌∷◌, ◌++◌, map, Option, Some, None, refl, ap, ◌∙◌, arith, subst, append_assoc, append-nil, codes, decimal, IfSome}
use Rattle.std.specs.List.{AllByRecursion, join_with_byte}
use Rattle.std.proofs.lemmas.Bool.{and_parts}
use Rattle.dns_base.specs.OptRecord.{OptFields}
use Rattle.client_request.specs.Request.{Request}
use Rattle.client_request.specs.declared.event.Event.{Event}
use Rattle.client_request.specs.declared.event.What.{What}
use Rattle.client_request.specs.declared.event.What.TheVariants as what
use Rattle.client_request.specs.declared.fault.Fault.{Fault}
use Rattle.client_request.specs.declared.fault.Fault.TheVariants as fault
use Rattle.resolv_conf.specs.declared.conf.ResolvConf.{ResolvConf}
use Rattle.dns_script.specs.Grammar.{event_at, whole}
use Rattle.dns_script.specs.Lines.{event_words, opt_octets, opt_word, request_words, what_words}
use Rattle.dns_script.specs.Reading.{◌>>=◌}
use Rattle.dns_script.specs.ScriptReading.{TakesLine, TakesLines}
use Rattle.dns_script.specs.TextLaws.{AreOctets, IsOptRecord, IsRequest, IsWhat}
use Rattle.dns_script.specs.Told.{tells_well}
use Rattle.dns_script.specs.Words.{fault_word}
use Rattle.dns_script.proofs.Joined.{words_of_joined}
use Rattle.script_printing.specs.CanBeTold.{IsEvent, are_told_events}
use Rattle.script_printing.proofs.Lines.{ScriptReader, Settings, not_skipped, takes_named}
use Rattle.script_printing.proofs.Plain.{AreWords, IsPlain, IsWord, decimal_word, hex_is_plain_word, joined_plain, word_above, words_above, word_text}
use Rattle.script_printing.proofs.ReadingBack.{event_read}

fault_is_plain : (f : Fault) → IsWord (fault_word f)
fault_is_plain fault.Refused = word_text (codes "refused") refl
fault_is_plain fault.Reset = word_text (codes "reset") refl
fault_is_plain fault.Unreachable = word_text (codes "unreachable") refl
fault_is_plain fault.InUse = word_text (codes "in-use") refl
fault_is_plain fault.Broken = word_text (codes "broken") refl
fault_is_plain fault.Other = word_text (codes "other") refl
fault_is_plain fault.Expired = word_text (codes "expired") refl
fault_is_plain fault.ShortSend = word_text (codes "short-send") refl
fault_is_plain fault.NothingTaken = word_text (codes "nothing-taken") refl
fault_is_plain fault.EndOfData = word_text (codes "end-of-data") refl

opt_spelled : (opt : OptFields) → IsOptRecord opt → AreOctets (opt_octets opt)
opt_spelled opt h =
    let code = h.fields.ext_rcode in
    let version = h.fields.version in
    (omega arith, (omega arith, (omega arith, (omega arith, (omega arith, (code, (version, (omega arith, (omega arith, (omega arith, (omega arith, h.octets)))))))))))

opt_is_plain : (opt : Option OptFields) → IfSome opt IsOptRecord → IsWord (opt_word opt)
opt_is_plain None h = word_text (codes "-") refl
opt_is_plain (Some opt) h = hex_is_plain_word (opt_octets opt) (opt_spelled opt h)

request_is_plain : (request : Request) → IsRequest request → AreWords (request_words request)
request_is_plain request h = (hex_is_plain_word request.base h.base.0, (hex_is_plain_word request.header h.header, (opt_is_plain request.opt h.opt, tt)))

what_is_plain : (w : What) → IsWhat w → AreWords (what_words w)
what_is_plain (what.Ask request) h = (word_text (codes "ask") refl, request_is_plain request h)
what_is_plain (what.Opened place) h = (word_text (codes "opened") refl, (decimal_word place h, tt))
what_is_plain (what.OpenFailed place f) h = (word_text (codes "open-failed") refl, (decimal_word place h, (fault_is_plain f, tt)))
what_is_plain (what.SendFailed place f) h = (word_text (codes "send-failed") refl, (decimal_word place h, (fault_is_plain f, tt)))
what_is_plain (what.ShortSend place) h = (word_text (codes "short-send") refl, (decimal_word place h, tt))
what_is_plain (what.Datagram place octets) h = (word_text (codes "datagram") refl, (decimal_word place h.0, (hex_is_plain_word octets h.1, tt)))
what_is_plain (what.RecvFailed place f) h = (word_text (codes "recv-failed") refl, (decimal_word place h, (fault_is_plain f, tt)))
what_is_plain (what.Wrote place count) h = (word_text (codes "wrote") refl, (decimal_word place h.0, (decimal_word count h.1, tt)))
what_is_plain (what.WriteFailed place f) h = (word_text (codes "write-failed") refl, (decimal_word place h, (fault_is_plain f, tt)))
what_is_plain (what.Bytes place octets) h = (word_text (codes "bytes") refl, (decimal_word place h.0, (hex_is_plain_word octets h.1, tt)))
what_is_plain (what.ReadFailed place f) h = (word_text (codes "read-failed") refl, (decimal_word place h, (fault_is_plain f, tt)))
what_is_plain (what.Ended place) h = (word_text (codes "ended") refl, (decimal_word place h, tt))
what_is_plain what.Tick h = (word_text (codes "tick") refl, tt)

event_is_plain : (event : Event) → IsEvent event → AreWords (event_words event)
event_is_plain event h = (word_text (codes "at") refl, (decimal_word event.moment.0 h.0, what_is_plain event.what h.1))

-- a line without its line feed
abbrev pub event_text : Event → List ℕ
event_text event = join_with_byte 32 (event_words event)

pub event_plain : (event : Event) → IsEvent event → IsPlain (event_text event)
event_plain event h = joined_plain (event_words event) (event_is_plain event h)

-- after some events, and the same before any
abbrev pub reader_behind : ResolvConf → Settings → List ℕ → Bool → List Event → ScriptReader
reader_behind conf settings words begun events = record { many = false; begun = begun; conf = conf; settings = settings; words = words; lanes = []; lane = Some events }

event_taken : (conf : ResolvConf) (st : Settings) (ws : List ℕ) (b : Bool) (before : List Event) (event : Event) → IsEvent event → tells_well event.what ≡ true
    → TakesLine (event_text event) (reader_behind conf st ws b before) (reader_behind conf st ws true (before ++ event ∷ []))
event_taken conf st ws b before event h told =
    let words = event_is_plain event h in
    let behind : List (List ℕ) = decimal event.moment.0 ∷ what_words event.what in
    takes_named (codes "at") (join_with_byte 32 behind) (reader_behind conf st ws b before) (reader_behind conf st ws true (before ++ event ∷ [])) (word_above (codes "at") (word_text (codes "at") refl)) (not_skipped 97 (codes "t" ++ 32 ∷ join_with_byte 32 behind) refl)
    (event_plain event h)
    (record {
      event = event;
      read = ap (λ x. event_at x >>= whole) (words_of_joined (decimal event.moment.0) (what_words event.what) (words_above behind words.1)) ∙ event_read event h;
      told = told;
      events = before;
      lane = refl;
      after = refl;
    })

-- Lines of events are taken as these, behind those before.
pub events_taken : (conf : ResolvConf) (st : Settings) (ws : List ℕ) (b : Bool) (events before : List Event) → AllByRecursion IsEvent events → are_told_events events ≡ true
    → (e : Bool) × TakesLines (map event_text events) (reader_behind conf st ws b before) (reader_behind conf st ws e (before ++ events))
events_taken conf st ws b [] before h told = (b, ap (λ es. reader_behind conf st ws b es) (append-nil before))
events_taken conf st ws b (event ∷ events) before h told =
    let both = and_parts (tells_well event.what) (are_told_events events) told in
    let next : List Event = before ++ event ∷ [] in
    let more = events_taken conf st ws true events next h.1 both.1 in (
      more.0,
      (
        reader_behind conf st ws true next,
        event_taken conf st ws b before event h.0 both.0,
        subst (λ es. TakesLines (map event_text events) (reader_behind conf st ws true next) (reader_behind conf st ws more.0 es)) (append_assoc before (event ∷ []) events) more.1,
      ),
    )
