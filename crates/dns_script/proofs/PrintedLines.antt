-- A line that is written of something is read as it.
use Rattle.std.proofs.Common.{◌≡◌, ℕ, List, [], ◌∷◌, ◌++◌, Option, Some, Result, Ok, Err, codes, refl, ap, ◌∙◌, subst, arith, decimal, append-nil}
use Rattle.std.specs.List.{join_with_byte}
use Rattle.client_request.specs.declared.error.Error.{Error}
use Rattle.client_request.specs.declared.error.Error.TheVariants as error
use Rattle.client_request.specs.declared.error.QueryError.{QueryError}
use Rattle.client_request.specs.declared.error.QueryError.TheVariants as query
use Rattle.client_request.specs.declared.event.Event.{Event}
use Rattle.client_request.specs.declared.event.What.{What}
use Rattle.client_request.specs.declared.event.What.TheVariants as what
use Rattle.client_request.specs.declared.event.Out.{Out}
use Rattle.client_request.specs.declared.event.Out.TheVariants as out
use Rattle.dns_script.specs.declared.trace_lines.TraceEntry.{TraceEntry}
use Rattle.dns_script.specs.declared.trace_lines.TraceEntry.TheVariants as entry
use Rattle.dns_script.specs.Reading.{◌>>=◌, one_word, words_of}
use Rattle.dns_script.specs.Grammar.{query_error_at, error_at, result_at, out_at, what_at, whole}
use Rattle.dns_script.specs.Lines.{event_words, out_words, result_words, what_words}
use Rattle.dns_script.specs.TextLaws.{IsOut, IsReply, IsU64, IsWhat}
use Rattle.dns_script.specs.TraceReading.{entry_behind, entry_of}
use Rattle.dns_script.specs.Words.{error_words, fault_word, hex_word, query_error_words, via_word}
use Rattle.dns_script.proofs.Decimals.{decimal_is_word}
use Rattle.dns_script.proofs.HexWords.{hex_is_word}
use Rattle.dns_script.proofs.Joined.{AreWords, is_word, words_of_joined}
use Rattle.dns_script.proofs.PrintedWords.{fault_is_word, fault_read, message_read, octets_read, request_is_words, request_read, u16_read, u32_read, u64_read, via_is_word, via_read}
use Rattle.dns_script.proofs.TakenLines.{entry_words}

query_error_read : (q : QueryError) (rest : List (List ℕ)) → query_error_at (query_error_words q ++ rest) ≡ Some (q, rest)
query_error_read (query.Connect f) rest = rw (fault_read f rest) refl
query_error_read (query.Send f) rest = rw (fault_read f rest) refl
query_error_read (query.Receive f) rest = rw (fault_read f rest) refl
query_error_read query.Timeout rest = refl

error_read : (e : Error) (rest : List (List ℕ)) → error_at (error_words e ++ rest) ≡ Some (e, rest)
error_read error.ConnectionClosed rest = refl
error_read error.OptTooLong rest = refl
error_read error.MessageBuilderPushError rest = refl
error_read error.MessageParseError rest = refl
error_read error.RedundantTransportNotFound rest = refl
error_read error.FormError rest = refl
error_read error.ShortMessage rest = refl
error_read error.StreamLongMessage rest = refl
error_read error.StreamIdleTimeout rest = refl
error_read error.StreamReceiveError rest = refl
error_read (error.StreamReadError f) rest = rw (fault_read f rest) refl
error_read error.StreamReadTimeout rest = refl
error_read error.StreamTooManyOutstandingQueries rest = refl
error_read (error.StreamWriteError f) rest = rw (fault_read f rest) refl
error_read error.StreamUnexpectedEndOfData rest = refl
error_read error.WrongReplyForQuery rest = refl
error_read error.NoTransportAvailable rest = refl
error_read (error.Dgram q) rest = rw (query_error_read q rest) refl
error_read error.NoMemory rest = refl
error_read error.NumbersUsed rest = refl
error_read error.TimedOut rest = refl
error_read error.AlreadyDone rest = refl
error_read error.Failed rest = refl

result_read : (r : Result (List ℕ) Error) (rest : List (List ℕ)) → IsReply r → result_at (result_words r ++ rest) ≡ Some (r, rest)
result_read (Ok message) rest h = rw (message_read message rest h) refl
result_read (Err e) rest h = rw (error_read e rest) refl

out_read : (o : Out) (rest : List (List ℕ)) → IsOut o → out_at (out_words o ++ rest) ≡ Some (o, rest)
out_read (out.Start request server via) rest h = rw (u64_read request (decimal server ∷ via_word via ∷ rest) h.0, u32_read server (via_word via ∷ rest) h.1, via_read via rest) refl
out_read (out.OpenDgram place server) rest h = rw (u64_read place (decimal server ∷ rest) h.0, u32_read server rest h.1) refl
out_read (out.OpenStream place server) rest h = rw (u64_read place (decimal server ∷ rest) h.0, u32_read server rest h.1) refl
out_read (out.Send place request id octets) rest h =
    rw (u64_read place (decimal request ∷ decimal id ∷ hex_word octets ∷ rest) h.0, u64_read request (decimal id ∷ hex_word octets ∷ rest) h.1, u16_read id (hex_word octets ∷ rest) h.2, octets_read octets rest h.3) refl
out_read (out.Write place request id octets) rest h =
    rw (u64_read place (decimal request ∷ decimal id ∷ hex_word octets ∷ rest) h.0, u64_read request (decimal id ∷ hex_word octets ∷ rest) h.1, u16_read id (hex_word octets ∷ rest) h.2, octets_read octets rest h.3) refl
out_read (out.Resume place octets) rest h = rw (u64_read place (hex_word octets ∷ rest) h.0, octets_read octets rest h.1) refl
out_read (out.Close place) rest h = rw (u64_read place rest h) refl
out_read (out.Stale request) rest h = rw (u64_read request rest h) refl
out_read (out.Reply request result) rest h = rw (u64_read request (result_words result ++ rest) h.0, result_read result rest h.1) refl

what_read : (w : What) (rest : List (List ℕ)) → IsWhat w → what_at (what_words w ++ rest) ≡ Some (w, rest)
what_read (what.Ask request) rest h = rw (request_read request rest h) refl
what_read (what.Opened place) rest h = rw (u64_read place rest h) refl
what_read (what.OpenFailed place f) rest h = rw (u64_read place (fault_word f ∷ rest) h, fault_read f rest) refl
what_read (what.SendFailed place f) rest h = rw (u64_read place (fault_word f ∷ rest) h, fault_read f rest) refl
what_read (what.ShortSend place) rest h = rw (u64_read place rest h) refl
what_read (what.Datagram place octets) rest h = rw (u64_read place (hex_word octets ∷ rest) h.0, octets_read octets rest h.1) refl
what_read (what.RecvFailed place f) rest h = rw (u64_read place (fault_word f ∷ rest) h, fault_read f rest) refl
what_read (what.Wrote place count) rest h = rw (u64_read place (decimal count ∷ rest) h.0, u64_read count rest h.1) refl
what_read (what.WriteFailed place f) rest h = rw (u64_read place (fault_word f ∷ rest) h, fault_read f rest) refl
what_read (what.Bytes place octets) rest h = rw (u64_read place (hex_word octets ∷ rest) h.0, octets_read octets rest h.1) refl
what_read (what.ReadFailed place f) rest h = rw (u64_read place (fault_word f ∷ rest) h, fault_read f rest) refl
what_read (what.Ended place) rest h = rw (u64_read place rest h) refl
what_read what.Tick rest h = refl

query_error_is_words : (q : QueryError) → AreWords (query_error_words q)
query_error_is_words (query.Connect f) = (is_word (codes "Connect") refl, (fault_is_word f, tt))
query_error_is_words (query.Send f) = (is_word (codes "Send") refl, (fault_is_word f, tt))
query_error_is_words (query.Receive f) = (is_word (codes "Receive") refl, (fault_is_word f, tt))
query_error_is_words query.Timeout = (is_word (codes "Timeout") refl, (is_word (codes "expired") refl, tt))

error_is_words : (e : Error) → AreWords (error_words e)
error_is_words error.ConnectionClosed = (is_word (codes "ConnectionClosed") refl, tt)
error_is_words error.OptTooLong = (is_word (codes "OptTooLong") refl, tt)
error_is_words error.MessageBuilderPushError = (is_word (codes "MessageBuilderPushError") refl, tt)
error_is_words error.MessageParseError = (is_word (codes "MessageParseError") refl, tt)
error_is_words error.RedundantTransportNotFound = (is_word (codes "RedundantTransportNotFound") refl, tt)
error_is_words error.FormError = (is_word (codes "FormError") refl, tt)
error_is_words error.ShortMessage = (is_word (codes "ShortMessage") refl, tt)
error_is_words error.StreamLongMessage = (is_word (codes "StreamLongMessage") refl, tt)
error_is_words error.StreamIdleTimeout = (is_word (codes "StreamIdleTimeout") refl, tt)
error_is_words error.StreamReceiveError = (is_word (codes "StreamReceiveError") refl, tt)
error_is_words (error.StreamReadError f) = (is_word (codes "StreamReadError") refl, (fault_is_word f, tt))
error_is_words error.StreamReadTimeout = (is_word (codes "StreamReadTimeout") refl, tt)
error_is_words error.StreamTooManyOutstandingQueries = (is_word (codes "StreamTooManyOutstandingQueries") refl, tt)
error_is_words (error.StreamWriteError f) = (is_word (codes "StreamWriteError") refl, (fault_is_word f, tt))
error_is_words error.StreamUnexpectedEndOfData = (is_word (codes "StreamUnexpectedEndOfData") refl, tt)
error_is_words error.WrongReplyForQuery = (is_word (codes "WrongReplyForQuery") refl, tt)
error_is_words error.NoTransportAvailable = (is_word (codes "NoTransportAvailable") refl, tt)
error_is_words (error.Dgram q) = (is_word (codes "Dgram") refl, query_error_is_words q)
error_is_words error.NoMemory = (is_word (codes "NoMemory") refl, tt)
error_is_words error.NumbersUsed = (is_word (codes "NumbersUsed") refl, tt)
error_is_words error.TimedOut = (is_word (codes "TimedOut") refl, tt)
error_is_words error.AlreadyDone = (is_word (codes "AlreadyDone") refl, tt)
error_is_words error.Failed = (is_word (codes "Failed") refl, tt)

result_is_words : (r : Result (List ℕ) Error) → AreWords (result_words r)
result_is_words (Ok message) = (is_word (codes "ok") refl, (hex_is_word message, tt))
result_is_words (Err e) = (is_word (codes "err") refl, error_is_words e)

out_is_words : (o : Out) → IsOut o → AreWords (out_words o)
out_is_words (out.Start request server via) h =
    (is_word (codes "start") refl, (decimal_is_word request h.0, (decimal_is_word server (let s = h.1 in omega arith), (via_is_word via, tt))))
out_is_words (out.OpenDgram place server) h = (is_word (codes "open-dgram") refl, (decimal_is_word place h.0, (decimal_is_word server (let s = h.1 in omega arith), tt)))
out_is_words (out.OpenStream place server) h = (is_word (codes "open-stream") refl, (decimal_is_word place h.0, (decimal_is_word server (let s = h.1 in omega arith), tt)))
out_is_words (out.Send place request id octets) h =
    (is_word (codes "send") refl, (decimal_is_word place h.0, (decimal_is_word request h.1, (decimal_is_word id (let s = h.2 in omega arith), (hex_is_word octets, tt)))))
out_is_words (out.Write place request id octets) h =
    (is_word (codes "write") refl, (decimal_is_word place h.0, (decimal_is_word request h.1, (decimal_is_word id (let s = h.2 in omega arith), (hex_is_word octets, tt)))))
out_is_words (out.Resume place octets) h = (is_word (codes "resume") refl, (decimal_is_word place h.0, (hex_is_word octets, tt)))
out_is_words (out.Close place) h = (is_word (codes "close") refl, (decimal_is_word place h, tt))
out_is_words (out.Stale request) h = (is_word (codes "stale") refl, (decimal_is_word request h, tt))
out_is_words (out.Reply request result) h = (is_word (codes "reply") refl, (decimal_is_word request h.0, result_is_words result))

what_is_words : (w : What) → IsWhat w → AreWords (what_words w)
what_is_words (what.Ask request) h = (is_word (codes "ask") refl, request_is_words request)
what_is_words (what.Opened place) h = (is_word (codes "opened") refl, (decimal_is_word place h, tt))
what_is_words (what.OpenFailed place f) h = (is_word (codes "open-failed") refl, (decimal_is_word place h, (fault_is_word f, tt)))
what_is_words (what.SendFailed place f) h = (is_word (codes "send-failed") refl, (decimal_is_word place h, (fault_is_word f, tt)))
what_is_words (what.ShortSend place) h = (is_word (codes "short-send") refl, (decimal_is_word place h, tt))
what_is_words (what.Datagram place octets) h = (is_word (codes "datagram") refl, (decimal_is_word place h.0, (hex_is_word octets, tt)))
what_is_words (what.RecvFailed place f) h = (is_word (codes "recv-failed") refl, (decimal_is_word place h, (fault_is_word f, tt)))
what_is_words (what.Wrote place count) h = (is_word (codes "wrote") refl, (decimal_is_word place h.0, (decimal_is_word count h.1, tt)))
what_is_words (what.WriteFailed place f) h = (is_word (codes "write-failed") refl, (decimal_is_word place h, (fault_is_word f, tt)))
what_is_words (what.Bytes place octets) h = (is_word (codes "bytes") refl, (decimal_is_word place h.0, (hex_is_word octets, tt)))
what_is_words (what.ReadFailed place f) h = (is_word (codes "read-failed") refl, (decimal_is_word place h, (fault_is_word f, tt)))
what_is_words (what.Ended place) h = (is_word (codes "ended") refl, (decimal_is_word place h, tt))
what_is_words what.Tick h = (is_word (codes "tick") refl, tt)

-- a line behind the first whose numbers are in range
abbrev pub IsEntry : TraceEntry → Type 0
IsEntry (entry.Came event) = IsU64 event.moment.0 × IsWhat event.what
IsEntry (entry.Put out) = IsOut out
IsEntry entry.End = Unit {0}

pub entry_is_words : (x : TraceEntry) → IsEntry x → AreWords (entry_words x)
entry_is_words (entry.Came event) h = (is_word (codes "at") refl, (decimal_is_word event.moment.0 h.0, what_is_words event.what h.1))
entry_is_words (entry.Put out) h = (is_word (codes ">") refl, out_is_words out h)
entry_is_words entry.End h = (is_word (codes "end") refl, tt)

-- the words of a line behind the first, read
words_read : List (List ℕ) → Option TraceEntry
words_read words = one_word (λ name. Some name) words >>= (λ name. entry_behind name.0 name.1 >>= whole)

came_read : (event : Event) → IsU64 event.moment.0 × IsWhat event.what → words_read (event_words event) ≡ Some (entry.Came event)
unfolding words_read
came_read event h =
    rw (u64_read event.moment.0 (what_words event.what) h.0, subst (λ ws. what_at ws ≡ Some (event.what, [])) (append-nil (what_words event.what)) (what_read event.what [] h.1)) refl

put_read : (o : Out) → IsOut o → words_read (codes ">" ∷ out_words o) ≡ Some (entry.Put o)
unfolding words_read
put_read o h = rw (subst (λ ws. out_at ws ≡ Some (o, [])) (append-nil (out_words o)) (out_read o [] h)) refl

words_are_entry : (x : TraceEntry) → IsEntry x → words_read (entry_words x) ≡ Some x
unfolding words_read
words_are_entry (entry.Came event) h = came_read event h
words_are_entry (entry.Put out) h = put_read out h
words_are_entry entry.End h = refl

joined_words : (x : TraceEntry) → IsEntry x → words_of (join_with_byte 32 (entry_words x)) ≡ entry_words x
joined_words (entry.Came event) h = words_of_joined (codes "at") (decimal event.moment.0 ∷ what_words event.what) (entry_is_words (entry.Came event) h)
joined_words (entry.Put out) h = words_of_joined (codes ">") (out_words out) (entry_is_words (entry.Put out) h)
joined_words entry.End h = refl

pub entry_read : (x : TraceEntry) → IsEntry x → entry_of (join_with_byte 32 (entry_words x)) ≡ Some x
unfolding entry_of words_read
entry_read x h = ap words_read (joined_words x h) ∙ words_are_entry x h
