-- A line that is read is the line of what it says.
use Rattle.std.proofs.Common.{◌≡◌, ℕ, Bool, true, false, cond, length, eqb, List, [], ◌∷◌, ◌++◌, Option, Some, None, Ok, Err, codes, refl, sym, ap, ◌∙◌, subst, arith, option_map, bytes_eq, decimal, append-nil}
use Rattle.std.specs.List.{flat_map, join_with_byte}
use Rattle.std.proofs.lemmas.Bool.{eqb-true}
use Rattle.std.proofs.lemmas.List.Splits.{join_with_byte-slice_split}
use Rattle.std.proofs.lemmas.Option.{cond_some, same_Some, some_pair_parts}
use Rattle.std.proofs.lemmas.Slice.Eq.{bytes_eq-Decides}
use Rattle.dns_names.proofs.Heads.{then_ok, none_some}
use Rattle.dns_base.specs.OptRecord.{OptFields, opt_record}
use Rattle.client_request.specs.Request.{Request, is_misformed}
use Rattle.client_request.specs.declared.fault.Fault.{Fault}
use Rattle.client_request.specs.declared.fault.Fault.TheVariants as fault
use Rattle.client_request.specs.declared.error.Error.{Error}
use Rattle.client_request.specs.declared.error.Error.TheVariants as error
use Rattle.client_request.specs.declared.error.QueryError.{QueryError}
use Rattle.client_request.specs.declared.error.QueryError.TheVariants as query
use Rattle.client_request.specs.declared.error.QueryErrorKind.{QueryErrorKind}
use Rattle.client_request.specs.declared.error.QueryErrorKind.TheVariants as kind
use Rattle.client_request.specs.declared.event.What.{What}
use Rattle.client_request.specs.declared.event.What.TheVariants as what
use Rattle.client_request.specs.declared.event.Out.TheVariants as out
use Rattle.dns_script.specs.declared.names.EventName.{EventName}
use Rattle.dns_script.specs.declared.names.EventName.TheVariants as event_name
use Rattle.dns_script.specs.declared.names.OutName.{OutName}
use Rattle.dns_script.specs.declared.names.OutName.TheVariants as out_name
use Rattle.dns_script.specs.declared.trace_lines.TraceEntry.{TraceEntry}
use Rattle.dns_script.specs.declared.trace_lines.TraceEntry.TheVariants as entry
use Rattle.dns_script.specs.Names.{error_names, event_names, kind_names, out_names}
use Rattle.dns_script.specs.Reading.{◌>>=◌, Reader, one_word, named, octets_of, pairs, words_of}
use Rattle.dns_script.specs.Grammar.{one, two, u64_at, u32_at, u16_at, octets_at, fault_at, via_at, message_at, header_of, opt_of, request_of, request_at, timeout_of, query_error_behind, query_error_at, error_behind, error_called, error_at, result_behind, result_at, out_behind, out_at, what_behind, what_at, event_from, event_at, whole}
use Rattle.dns_script.specs.Words.{hex_word, octet_digits, via_word, fault_word, query_error_words, error_words}
use Rattle.dns_script.specs.Lines.{opt_word, request_words, what_words, event_words, result_words, out_words}
use Rattle.dns_script.specs.TraceReading.{entry_behind, entry_of}
use Rattle.dns_script.proofs.Decimals.{kept_unless}
use Rattle.dns_script.proofs.HexWords.{octets_say, pairs_say}
use Rattle.dns_script.proofs.OptTexts.{record_is_spelled}
use Rattle.dns_script.proofs.Taken.{Takes, takes_word, takes_one, takes_two, takes_three, takes_four, takes_named, takes_nothing, named_is, takes_u64, takes_u32, takes_u16, takes_octets, takes_fault, takes_via, takes_message}

-- the octets of a header
some_digits : (word octets : List ℕ) → word ≡ flat_map octet_digits octets → length octets ≡ 4 → word ≡ hex_word octets
some_digits word [] e four = absurd (omega (arith, four))
some_digits word (octet ∷ octets) e four = e

header_is : (word octets : List ℕ) → header_of word ≡ Some octets → word ≡ hex_word octets
header_is word octets e =
    let read = then_ok (pairs word) _ octets e in
    let four = cond_some (eqb (length read.0) 4) read.0 octets read.2 in
    subst (λ os. word ≡ hex_word os) four.1 (some_digits word read.0 (pairs_say word read.0 read.1).0 (eqb-true (length read.0) 4 four.0))

opt_is : (word : List ℕ) (opt : Option OptFields) → opt_of word ≡ Some opt → word ≡ opt_word opt
opt_is word opt e = go (bytes_eq word (codes "-")) refl e
  where
    recorded : (octets : List ℕ) → octets_of word ≡ Some octets → (o : Option OptFields) → opt_record octets ≡ o → option_map (λ x. Some x) o ≡ Some opt → word ≡ opt_word opt
    recorded octets read None is e = none_some e
    recorded octets read (Some fields) is e =
        let say = octets_say word octets read in
        subst (λ x. word ≡ opt_word x) (same_Some (Some fields) opt e) (say.0 ∙ ap hex_word (record_is_spelled octets fields say.1 is))

    go : (b : Bool) → bytes_eq word (codes "-") ≡ b → cond b (Some None) (octets_of word >>= (λ octets. option_map (λ x. Some x) (opt_record octets))) ≡ Some opt → word ≡ opt_word opt
    go true is e = subst (λ x. word ≡ opt_word x) (same_Some None opt e) ((bytes_eq-Decides word (codes "-")).0 is)
    go false is e =
        let read = then_ok (octets_of word) (λ octets. option_map (λ x. Some x) (opt_record octets)) opt e in
        recorded read.0 read.1 (opt_record read.0) refl read.2

request_is : (base header word : List ℕ) (r : Request) → request_of base header word ≡ Some r → hex_word base ∷ hex_word header ∷ word ∷ [] ≡ request_words r
unfolding request_of
request_is base header word r e =
    go (opt_of word) refl (kept_unless (is_misformed base) (option_map (λ opt. record { base = base; header = header; opt = opt }) (opt_of word)) r e).1
  where
    go : (o : Option (Option OptFields)) → opt_of word ≡ o → option_map {U = Request} (λ opt. record { base = base; header = header; opt = opt }) o ≡ Some r → hex_word base ∷ hex_word header ∷ word ∷ [] ≡ request_words r
    go None is e = none_some e
    go (Some opt) is e =
        subst (λ x. hex_word base ∷ hex_word header ∷ word ∷ [] ≡ request_words x) (same_Some _ r e) (ap (λ w. hex_word base ∷ hex_word header ∷ w ∷ []) (opt_is word opt is))

takes_header : Takes [] (one_word header_of) (λ octets. hex_word octets ∷ [])
takes_header = takes_word header_of hex_word header_is

takes_request : Takes [] request_at request_words
takes_request words rest r e =
    let base = then_ok (message_at words) _ (r, rest) e in
    let header = then_ok (one_word header_of base.0.1) _ (r, rest) base.2 in
    last (base.0.0) (header.0.0) header.0.1 header.2 (takes_message words base.0.1 base.0.0 base.1 ∙ ap (λ ws. hex_word base.0.0 ∷ ws) (takes_header base.0.1 header.0.1 header.0.0 header.1))
  where
    last : (base header : List ℕ) (behind : List (List ℕ)) → one_word (request_of base header) behind ≡ Some (r, rest) → words ≡ hex_word base ∷ hex_word header ∷ behind → words ≡ request_words r ++ rest
    last base header [] e is = none_some e
    last base header (word ∷ behind) e is = made (request_of base header word) refl e
      where
        made : (o : Option Request) → request_of base header word ≡ o → option_map {U = Request × List (List ℕ)} (λ y. (y, behind)) o ≡ Some (r, rest) → words ≡ request_words r ++ rest
        made None of e = none_some e
        made (Some y) of e =
            let both = some_pair_parts y r behind rest e in
            is ∙ ap (λ ws. ws ++ behind) (request_is base header word y of) ∙ ap (λ x. request_words x ++ behind) both.0 ∙ ap (λ ws. request_words r ++ ws) both.1

abbrev kind_word : QueryErrorKind → List ℕ
kind_word kind.Connect = codes "Connect"
kind_word kind.Send = codes "Send"
kind_word kind.Timeout = codes "Timeout"
kind_word kind.Receive = codes "Receive"

timeout_is : (f : Fault) (q : QueryError) → timeout_of f ≡ Some q → query_error_words q ≡ codes "Timeout" ∷ fault_word f ∷ []
timeout_is fault.Expired q e = subst (λ x. query_error_words x ≡ codes "Timeout" ∷ fault_word fault.Expired ∷ []) (same_Some query.Timeout q e) refl
timeout_is fault.Refused q e = none_some e
timeout_is fault.Reset q e = none_some e
timeout_is fault.Unreachable q e = none_some e
timeout_is fault.InUse q e = none_some e
timeout_is fault.Broken q e = none_some e
timeout_is fault.Other q e = none_some e
timeout_is fault.ShortSend q e = none_some e
timeout_is fault.NothingTaken q e = none_some e
timeout_is fault.EndOfData q e = none_some e

takes_timeout : Takes (codes "Timeout" ∷ []) (query_error_behind kind.Timeout) query_error_words
takes_timeout words rest q e =
    let f = then_ok (fault_at words) _ (q, rest) e in
    go f.0.0 f.0.1 (timeout_of f.0.0) refl f.2 (takes_fault words f.0.1 f.0.0 f.1)
  where
    go : (f : Fault) (behind : List (List ℕ)) (o : Option QueryError) → timeout_of f ≡ o → option_map {U = QueryError × List (List ℕ)} (λ y. (y, behind)) o ≡ Some (q, rest) → words ≡ fault_word f ∷ behind
        → codes "Timeout" ∷ words ≡ query_error_words q ++ rest
    go f behind None is e all = none_some e
    go f behind (Some y) is e all =
        let both = some_pair_parts y q behind rest e in
        ap (λ ws. codes "Timeout" ∷ ws) all ∙ ap (λ ws. ws ++ behind) (sym (timeout_is f y is)) ∙ ap (λ x. query_error_words x ++ behind) both.0 ∙ ap (λ ws. query_error_words q ++ ws) both.1

takes_query_error_behind : (k : QueryErrorKind) → Takes (kind_word k ∷ []) (query_error_behind k) query_error_words
takes_query_error_behind kind.Connect = takes_one query.Connect fault_at (λ f. fault_word f ∷ []) (codes "Connect" ∷ []) query_error_words takes_fault (λ f. refl)
takes_query_error_behind kind.Send = takes_one query.Send fault_at (λ f. fault_word f ∷ []) (codes "Send" ∷ []) query_error_words takes_fault (λ f. refl)
takes_query_error_behind kind.Receive = takes_one query.Receive fault_at (λ f. fault_word f ∷ []) (codes "Receive" ∷ []) query_error_words takes_fault (λ f. refl)
takes_query_error_behind kind.Timeout = takes_timeout

takes_query_error : Takes [] query_error_at query_error_words
takes_query_error = takes_named kind_names kind_word query_error_behind query_error_words (refl, (refl, (refl, (refl, tt)))) takes_query_error_behind

takes_error_behind : (name : List ℕ) → Takes (name ∷ []) (error_behind name) error_words
takes_error_behind name words rest x e =
    go (bytes_eq name (codes "StreamReadError")) refl (bytes_eq name (codes "StreamWriteError")) refl (bytes_eq name (codes "Dgram")) refl e
  where
    go : (b : Bool) → bytes_eq name (codes "StreamReadError") ≡ b → (c : Bool) → bytes_eq name (codes "StreamWriteError") ≡ c → (d : Bool) → bytes_eq name (codes "Dgram") ≡ d
        → cond b (one error.StreamReadError fault_at words) (cond c (one error.StreamWriteError fault_at words) (cond d (one error.Dgram query_error_at words) None)) ≡ Some (x, rest)
        → name ∷ words ≡ error_words x ++ rest
    go true b c cs d ds e =
        ap (λ n. n ∷ words) ((bytes_eq-Decides name (codes "StreamReadError")).0 b)
        ∙ takes_one error.StreamReadError fault_at (λ f. fault_word f ∷ []) (codes "StreamReadError" ∷ []) error_words takes_fault (λ f. refl) words rest x e
    go false b true cs d ds e =
        ap (λ n. n ∷ words) ((bytes_eq-Decides name (codes "StreamWriteError")).0 cs)
        ∙ takes_one error.StreamWriteError fault_at (λ f. fault_word f ∷ []) (codes "StreamWriteError" ∷ []) error_words takes_fault (λ f. refl) words rest x e
    go false b false cs true ds e =
        ap (λ n. n ∷ words) ((bytes_eq-Decides name (codes "Dgram")).0 ds)
        ∙ takes_one error.Dgram query_error_at query_error_words (codes "Dgram" ∷ []) error_words takes_query_error (λ f. refl) words rest x e
    go false b false cs false ds e = none_some e

takes_error_called : (name : List ℕ) → Takes (name ∷ []) (error_called (named error_names name) name) error_words
takes_error_called name words rest x e = go (named error_names name) refl e
  where
    go : (o : Option Error) → named error_names name ≡ o → error_called o name words ≡ Some (x, rest) → name ∷ words ≡ error_words x ++ rest
    go None is e = takes_error_behind name words rest x e
    go (Some y) is e =
        takes_nothing y (name ∷ []) error_words (sym (named_is (λ w y. w ∷ [] ≡ error_words y) error_names (refl, (refl, (refl, (refl, (refl, (refl, (refl, (refl, (refl, (refl, (refl, (refl, (refl, (refl, (refl, (refl, (refl, (refl, (refl, (refl, tt)))))))))))))))))))) name y is)) words rest x e

-- a word of any kind, and what stands behind it
takes_any : {A : Type 0} (behind : List ℕ → Reader A) (written : A → List (List ℕ)) → ((name : List ℕ) → Takes (name ∷ []) (behind name) written)
    → Takes [] (λ words. one_word (λ name. Some name) words >>= (λ name. behind name.0 name.1)) written
takes_any behind written takes [] rest x e = none_some e
takes_any behind written takes (name ∷ words) rest x e = takes name words rest x e

takes_error : Takes [] error_at error_words
takes_error = takes_any (λ name. error_called (named error_names name) name) error_words takes_error_called

takes_result_behind : (name : List ℕ) → Takes (name ∷ []) (result_behind name) result_words
takes_result_behind name words rest x e = go (bytes_eq name (codes "ok")) refl (bytes_eq name (codes "err")) refl e
  where
    go : (b : Bool) → bytes_eq name (codes "ok") ≡ b → (c : Bool) → bytes_eq name (codes "err") ≡ c
        → cond b (one Ok message_at words) (cond c (one Err error_at words) None) ≡ Some (x, rest) → name ∷ words ≡ result_words x ++ rest
    go true b c cs e =
        ap (λ n. n ∷ words) ((bytes_eq-Decides name (codes "ok")).0 b)
        ∙ takes_one Ok message_at (λ octets. hex_word octets ∷ []) (codes "ok" ∷ []) result_words takes_message (λ m. refl) words rest x e
    go false b true cs e =
        ap (λ n. n ∷ words) ((bytes_eq-Decides name (codes "err")).0 cs)
        ∙ takes_one Err error_at error_words (codes "err" ∷ []) result_words takes_error (λ m. refl) words rest x e
    go false b false cs e = none_some e

takes_result : Takes [] result_at result_words
takes_result = takes_any result_behind result_words takes_result_behind

abbrev out_word : OutName → List ℕ
out_word out_name.Start = codes "start"
out_word out_name.OpenDgram = codes "open-dgram"
out_word out_name.OpenStream = codes "open-stream"
out_word out_name.Send = codes "send"
out_word out_name.Write = codes "write"
out_word out_name.Resume = codes "resume"
out_word out_name.Close = codes "close"
out_word out_name.Stale = codes "stale"
out_word out_name.Reply = codes "reply"

takes_out_behind : (n : OutName) → Takes (out_word n ∷ []) (out_behind n) out_words
takes_out_behind out_name.Start =
    takes_three out.Start u64_at u32_at via_at (λ n. decimal n ∷ []) (λ n. decimal n ∷ []) (λ v. via_word v ∷ []) (codes "start" ∷ []) out_words takes_u64 takes_u32 takes_via (λ a b c. refl)
takes_out_behind out_name.OpenDgram =
    takes_two out.OpenDgram u64_at u32_at (λ n. decimal n ∷ []) (λ n. decimal n ∷ []) (codes "open-dgram" ∷ []) out_words takes_u64 takes_u32 (λ a b. refl)
takes_out_behind out_name.OpenStream =
    takes_two out.OpenStream u64_at u32_at (λ n. decimal n ∷ []) (λ n. decimal n ∷ []) (codes "open-stream" ∷ []) out_words takes_u64 takes_u32 (λ a b. refl)
takes_out_behind out_name.Send =
    takes_four out.Send u64_at u64_at u16_at octets_at (λ n. decimal n ∷ []) (λ n. decimal n ∷ []) (λ n. decimal n ∷ []) (λ o. hex_word o ∷ []) (codes "send" ∷ []) out_words takes_u64 takes_u64 takes_u16 takes_octets (λ a b c d. refl)
takes_out_behind out_name.Write =
    takes_four out.Write u64_at u64_at u16_at octets_at (λ n. decimal n ∷ []) (λ n. decimal n ∷ []) (λ n. decimal n ∷ []) (λ o. hex_word o ∷ []) (codes "write" ∷ []) out_words takes_u64 takes_u64 takes_u16 takes_octets (λ a b c d. refl)
takes_out_behind out_name.Resume =
    takes_two out.Resume u64_at octets_at (λ n. decimal n ∷ []) (λ o. hex_word o ∷ []) (codes "resume" ∷ []) out_words takes_u64 takes_octets (λ a b. refl)
takes_out_behind out_name.Close = takes_one out.Close u64_at (λ n. decimal n ∷ []) (codes "close" ∷ []) out_words takes_u64 (λ a. refl)
takes_out_behind out_name.Stale = takes_one out.Stale u64_at (λ n. decimal n ∷ []) (codes "stale" ∷ []) out_words takes_u64 (λ a. refl)
takes_out_behind out_name.Reply =
    takes_two out.Reply u64_at result_at (λ n. decimal n ∷ []) result_words (codes "reply" ∷ []) out_words takes_u64 takes_result (λ a b. refl)

pub takes_out : Takes [] out_at out_words
takes_out = takes_named out_names out_word out_behind out_words (refl, (refl, (refl, (refl, (refl, (refl, (refl, (refl, (refl, tt))))))))) takes_out_behind

abbrev event_word : EventName → List ℕ
event_word event_name.Ask = codes "ask"
event_word event_name.Opened = codes "opened"
event_word event_name.OpenFailed = codes "open-failed"
event_word event_name.SendFailed = codes "send-failed"
event_word event_name.ShortSend = codes "short-send"
event_word event_name.Datagram = codes "datagram"
event_word event_name.RecvFailed = codes "recv-failed"
event_word event_name.Wrote = codes "wrote"
event_word event_name.WriteFailed = codes "write-failed"
event_word event_name.Bytes = codes "bytes"
event_word event_name.ReadFailed = codes "read-failed"
event_word event_name.Ended = codes "ended"
event_word event_name.Tick = codes "tick"

takes_place : (make : ℕ → What) (name : List ℕ) → ((place : ℕ) → what_words (make place) ≡ name ∷ decimal place ∷ []) → Takes (name ∷ []) (one make u64_at) what_words
takes_place make name is = takes_one make u64_at (λ n. decimal n ∷ []) (name ∷ []) what_words takes_u64 is

takes_failed : (make : ℕ → Fault → What) (name : List ℕ) → ((place : ℕ) (f : Fault) → what_words (make place f) ≡ name ∷ decimal place ∷ fault_word f ∷ []) → Takes (name ∷ []) (two make u64_at fault_at) what_words
takes_failed make name is = takes_two make u64_at fault_at (λ n. decimal n ∷ []) (λ f. fault_word f ∷ []) (name ∷ []) what_words takes_u64 takes_fault is

takes_came : (make : ℕ → List ℕ → What) (name : List ℕ) → ((place : ℕ) (octets : List ℕ) → what_words (make place octets) ≡ name ∷ decimal place ∷ hex_word octets ∷ []) → Takes (name ∷ []) (two make u64_at octets_at) what_words
takes_came make name is = takes_two make u64_at octets_at (λ n. decimal n ∷ []) (λ o. hex_word o ∷ []) (name ∷ []) what_words takes_u64 takes_octets is

takes_what_behind : (n : EventName) → Takes (event_word n ∷ []) (what_behind n) what_words
takes_what_behind event_name.Ask = takes_one what.Ask request_at request_words (codes "ask" ∷ []) what_words takes_request (λ r. refl)
takes_what_behind event_name.Opened = takes_place what.Opened (codes "opened") (λ a. refl)
takes_what_behind event_name.OpenFailed = takes_failed what.OpenFailed (codes "open-failed") (λ a b. refl)
takes_what_behind event_name.SendFailed = takes_failed what.SendFailed (codes "send-failed") (λ a b. refl)
takes_what_behind event_name.ShortSend = takes_place what.ShortSend (codes "short-send") (λ a. refl)
takes_what_behind event_name.Datagram = takes_came what.Datagram (codes "datagram") (λ a b. refl)
takes_what_behind event_name.RecvFailed = takes_failed what.RecvFailed (codes "recv-failed") (λ a b. refl)
takes_what_behind event_name.Wrote = takes_two what.Wrote u64_at u64_at (λ n. decimal n ∷ []) (λ n. decimal n ∷ []) (codes "wrote" ∷ []) what_words takes_u64 takes_u64 (λ a b. refl)
takes_what_behind event_name.WriteFailed = takes_failed what.WriteFailed (codes "write-failed") (λ a b. refl)
takes_what_behind event_name.Bytes = takes_came what.Bytes (codes "bytes") (λ a b. refl)
takes_what_behind event_name.ReadFailed = takes_failed what.ReadFailed (codes "read-failed") (λ a b. refl)
takes_what_behind event_name.Ended = takes_place what.Ended (codes "ended") (λ a. refl)
takes_what_behind event_name.Tick = takes_nothing what.Tick (codes "tick" ∷ []) what_words refl

takes_what : Takes [] what_at what_words
takes_what = takes_named event_names event_word what_behind what_words (refl, (refl, (refl, (refl, (refl, (refl, (refl, (refl, (refl, (refl, (refl, (refl, (refl, tt))))))))))))) takes_what_behind

pub takes_event : Takes (codes "at" ∷ []) event_at event_words
takes_event = takes_two event_from u64_at what_at (λ n. decimal n ∷ []) what_words (codes "at" ∷ []) event_words takes_u64 takes_what (λ a b. refl)

-- the words of a line behind the first
abbrev pub entry_words : TraceEntry → List (List ℕ)
entry_words (entry.Came event) = event_words event
entry_words (entry.Put out) = codes ">" ∷ out_words out
entry_words entry.End = codes "end" ∷ []

takes_came_event : Takes (codes "at" ∷ []) (one entry.Came event_at) entry_words
takes_came_event words rest x e =
    let read = then_ok (event_at words) _ (x, rest) e in
    let both = some_pair_parts (entry.Came read.0.0) x read.0.1 rest read.2 in
    takes_event words rest read.0.0 (read.1 ∙ ap (λ r. Some (read.0.0, r)) both.1) ∙ ap (λ y. entry_words y ++ rest) both.0

takes_entry_behind : (name : List ℕ) → Takes (name ∷ []) (entry_behind name) entry_words
takes_entry_behind name words rest x e = go (bytes_eq name (codes "at")) refl (bytes_eq name (codes ">")) refl (bytes_eq name (codes "end")) refl e
  where
    go : (b : Bool) → bytes_eq name (codes "at") ≡ b → (c : Bool) → bytes_eq name (codes ">") ≡ c → (d : Bool) → bytes_eq name (codes "end") ≡ d
        → cond b (one entry.Came event_at words) (cond c (one entry.Put out_at words) (cond d (Some (entry.End, words)) None)) ≡ Some (x, rest)
        → name ∷ words ≡ entry_words x ++ rest
    go true b c cs d ds e =
        ap (λ n. n ∷ words) ((bytes_eq-Decides name (codes "at")).0 b) ∙ takes_came_event words rest x e
    go false b true cs d ds e =
        ap (λ n. n ∷ words) ((bytes_eq-Decides name (codes ">")).0 cs)
        ∙ takes_one entry.Put out_at out_words (codes ">" ∷ []) entry_words takes_out (λ o. refl) words rest x e
    go false b false cs true ds e =
        ap (λ n. n ∷ words) ((bytes_eq-Decides name (codes "end")).0 ds) ∙ takes_nothing entry.End (codes "end" ∷ []) entry_words refl words rest x e
    go false b false cs false ds e = none_some e

none_left : (words : List (List ℕ)) → length words ≡ 0 → words ≡ []
none_left [] e = refl
none_left (w ∷ ws) e = absurd (omega (arith, e))

pub entry_is : (l : List ℕ) (x : TraceEntry) → entry_of l ≡ Some x → l ≡ join_with_byte 32 (entry_words x)
unfolding entry_of
entry_is l x e = sym (join_with_byte-slice_split 32 l) ∙ ap (join_with_byte 32) (go (words_of l) e)
  where
    go : (words : List (List ℕ)) → one_word (λ name. Some name) words >>= (λ name. entry_behind name.0 name.1 >>= whole) ≡ Some x → words ≡ entry_words x
    go [] e = none_some e
    go (name ∷ words) e =
        let read = then_ok (entry_behind name words) whole x e in
        let all = cond_some (eqb (length read.0.1) 0) read.0.0 x read.2 in
        takes_entry_behind name words read.0.1 read.0.0 read.1 ∙ ap (λ y. entry_words y ++ read.0.1) all.1 ∙ ap (λ ws. entry_words x ++ ws) (none_left read.0.1 (eqb-true _ _ all.0)) ∙ append-nil (entry_words x)
