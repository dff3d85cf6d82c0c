-- The words that have a meaning.
use Rattle.std.specs.Prelude.{ℕ, List, [], ◌∷◌, codes}
use Rattle.client_request.specs.declared.event.Via.{Via}
use Rattle.client_request.specs.declared.event.Via.TheVariants as via
use Rattle.client_request.specs.declared.fault.Fault.{Fault}
use Rattle.client_request.specs.declared.fault.Fault.TheVariants as fault
use Rattle.client_request.specs.declared.error.QueryErrorKind.{QueryErrorKind}
use Rattle.client_request.specs.declared.error.QueryErrorKind.TheVariants as kind
use Rattle.client_request.specs.declared.error.Error.{Error}
use Rattle.client_request.specs.declared.error.Error.TheVariants as error
use Rattle.dns_script.specs.declared.names.EventName.{EventName}
use Rattle.dns_script.specs.declared.names.EventName.TheVariants as event
use Rattle.dns_script.specs.declared.names.ScriptName.{ScriptName}
use Rattle.dns_script.specs.declared.names.ScriptName.TheVariants as script
use Rattle.dns_script.specs.declared.names.OutName.{OutName}
use Rattle.dns_script.specs.declared.names.OutName.TheVariants as out

-- how a request is tried
abbrev pub via_names : List (List ℕ × Via)
via_names =
    (codes "dgram", via.Dgram)
    ∷ (codes "stream", via.Stream)
    ∷ []

-- faults
abbrev pub fault_names : List (List ℕ × Fault)
fault_names =
    (codes "refused", fault.Refused)
    ∷ (codes "reset", fault.Reset)
    ∷ (codes "unreachable", fault.Unreachable)
    ∷ (codes "in-use", fault.InUse)
    ∷ (codes "broken", fault.Broken)
    ∷ (codes "other", fault.Other)
    ∷ (codes "expired", fault.Expired)
    ∷ (codes "short-send", fault.ShortSend)
    ∷ (codes "nothing-taken", fault.NothingTaken)
    ∷ (codes "end-of-data", fault.EndOfData)
    ∷ []

-- what a datagram try was doing
abbrev pub kind_names : List (List ℕ × QueryErrorKind)
kind_names =
    (codes "Connect", kind.Connect)
    ∷ (codes "Send", kind.Send)
    ∷ (codes "Timeout", kind.Timeout)
    ∷ (codes "Receive", kind.Receive)
    ∷ []

-- the errors that are one word
abbrev pub error_names : List (List ℕ × Error)
error_names =
    (codes "ConnectionClosed", error.ConnectionClosed)
    ∷ (codes "OptTooLong", error.OptTooLong)
    ∷ (codes "MessageBuilderPushError", error.MessageBuilderPushError)
    ∷ (codes "MessageParseError", error.MessageParseError)
    ∷ (codes "RedundantTransportNotFound", error.RedundantTransportNotFound)
    ∷ (codes "FormError", error.FormError)
    ∷ (codes "ShortMessage", error.ShortMessage)
    ∷ (codes "StreamLongMessage", error.StreamLongMessage)
    ∷ (codes "StreamIdleTimeout", error.StreamIdleTimeout)
    ∷ (codes "StreamReceiveError", error.StreamReceiveError)
    ∷ (codes "StreamReadTimeout", error.StreamReadTimeout)
    ∷ (codes "StreamTooManyOutstandingQueries", error.StreamTooManyOutstandingQueries)
    ∷ (codes "StreamUnexpectedEndOfData", error.StreamUnexpectedEndOfData)
    ∷ (codes "WrongReplyForQuery", error.WrongReplyForQuery)
    ∷ (codes "NoTransportAvailable", error.NoTransportAvailable)
    ∷ (codes "NoMemory", error.NoMemory)
    ∷ (codes "NumbersUsed", error.NumbersUsed)
    ∷ (codes "TimedOut", error.TimedOut)
    ∷ (codes "AlreadyDone", error.AlreadyDone)
    ∷ (codes "Failed", error.Failed)
    ∷ []

-- events
abbrev pub event_names : List (List ℕ × EventName)
event_names =
    (codes "ask", event.Ask)
    ∷ (codes "opened", event.Opened)
    ∷ (codes "open-failed", event.OpenFailed)
    ∷ (codes "send-failed", event.SendFailed)
    ∷ (codes "short-send", event.ShortSend)
    ∷ (codes "datagram", event.Datagram)
    ∷ (codes "recv-failed", event.RecvFailed)
    ∷ (codes "wrote", event.Wrote)
    ∷ (codes "write-failed", event.WriteFailed)
    ∷ (codes "bytes", event.Bytes)
    ∷ (codes "read-failed", event.ReadFailed)
    ∷ (codes "ended", event.Ended)
    ∷ (codes "tick", event.Tick)
    ∷ []

-- what is put out
abbrev pub out_names : List (List ℕ × OutName)
out_names =
    (codes "start", out.Start)
    ∷ (codes "open-dgram", out.OpenDgram)
    ∷ (codes "open-stream", out.OpenStream)
    ∷ (codes "send", out.Send)
    ∷ (codes "write", out.Write)
    ∷ (codes "resume", out.Resume)
    ∷ (codes "close", out.Close)
    ∷ (codes "stale", out.Stale)
    ∷ (codes "reply", out.Reply)
    ∷ []

-- the lines of a script that have more than one word
abbrev pub script_names : List (List ℕ × ScriptName)
script_names =
    (codes "conf", script.Conf)
    ∷ (codes "set", script.Set)
    ∷ (codes "words", script.Words)
    ∷ (codes "at", script.At)
    ∷ []
