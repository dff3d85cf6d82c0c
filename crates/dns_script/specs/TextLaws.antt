-- What is read is the text of it, and what is printed is read back.
use Rattle.std.specs.Prelude.{◌≡◌, ◌<◌, ◌^◌, ℕ, List, ◌≤◌, IfSome, IsTrue, Bool, false, length, Result, Ok, Err, MatchResult}
use Rattle.std.specs.List.{AllByRecursion}
use Rattle.dns_base.specs.Data.{are_options}
use Rattle.dns_base.specs.OptRecord.{OptFields}
use Rattle.client_request.specs.Carries.{IsOpt}
use Rattle.client_request.specs.Request.{Request, is_misformed}
use Rattle.client_request.specs.declared.event.Row.{Row}
use Rattle.client_request.specs.declared.event.What.{What}
use Rattle.client_request.specs.declared.event.What.TheVariants as what
use Rattle.client_request.specs.declared.event.Out.{Out}
use Rattle.client_request.specs.declared.event.Out.TheVariants as out
use Rattle.client_request.specs.declared.error.Error.{Error}
use Rattle.client_request.specs.declared.event.Trace.{Trace}
use Rattle.dns_script.specs.declared.script.Script.{Script}
use Rattle.dns_script.specs.declared.script.ScriptFault.{ScriptFault}
use Rattle.dns_script.specs.declared.script.ScriptFault.TheVariants as faults
use Rattle.dns_script.specs.ScriptReading.{IsScript, ReadsScript, RefusesLine}
use Rattle.dns_script.specs.TraceReading.{IsTrace, ReadsTrace, RefusesTraceLine}
use Rattle.dns_script.specs.TraceText.{trace_text_of}

abbrev pub IsU64 : ℕ → Type 0
IsU64 n = n < 2 ^ 64

abbrev pub IsU32 : ℕ → Type 0
IsU32 n = n < 2 ^ 32

abbrev pub IsU16 : ℕ → Type 0
IsU16 n = n < 2 ^ 16

abbrev pub AreOctets : List ℕ → Type 0
AreOctets octets = AllByRecursion (λ octet. octet < 2 ^ 8) octets

-- a message has twelve octets at least
abbrev pub IsMessage : List ℕ → Type 0
IsMessage octets = AreOctets octets × (12 ≤ length octets)

-- an OPT record as the code's type has it: whole options, and numbers in range
pub record IsOptRecord (opt : OptFields) : Type 0 where
  pub fields : IsOpt opt
  pub whole : IsTrue (are_options opt.options)
  pub octets : AreOctets opt.options

-- a request that may be asked, as `RequestMessage::new` makes it
pub record IsRequest (request : Request) : Type 0 where
  pub base : IsMessage request.base
  pub askable : is_misformed request.base ≡ false
  pub header : AreOctets request.header
  pub four : length request.header ≡ 4
  pub opt : IfSome request.opt IsOptRecord

abbrev pub IsWhat : What → Type 0
IsWhat (what.Ask request) = IsRequest request
IsWhat (what.Opened place) = IsU64 place
IsWhat (what.OpenFailed place fault) = IsU64 place
IsWhat (what.SendFailed place fault) = IsU64 place
IsWhat (what.ShortSend place) = IsU64 place
IsWhat (what.Datagram place octets) = IsU64 place × AreOctets octets
IsWhat (what.RecvFailed place fault) = IsU64 place
IsWhat (what.Wrote place count) = IsU64 place × IsU64 count
IsWhat (what.WriteFailed place fault) = IsU64 place
IsWhat (what.Bytes place octets) = IsU64 place × AreOctets octets
IsWhat (what.ReadFailed place fault) = IsU64 place
IsWhat (what.Ended place) = IsU64 place
IsWhat what.Tick = Unit {0}

abbrev pub IsReply : Result (List ℕ) Error → Type 0
IsReply (Ok message) = IsMessage message
IsReply (Err error) = Unit {0}

abbrev pub IsOut : Out → Type 0
IsOut (out.Start request server via) = IsU64 request × IsU32 server
IsOut (out.OpenDgram place server) = IsU64 place × IsU32 server
IsOut (out.OpenStream place server) = IsU64 place × IsU32 server
IsOut (out.Send place request id octets) = IsU64 place × IsU64 request × IsU16 id × AreOctets octets
IsOut (out.Write place request id octets) = IsU64 place × IsU64 request × IsU16 id × AreOctets octets
IsOut (out.Resume place octets) = IsU64 place × AreOctets octets
IsOut (out.Close place) = IsU64 place
IsOut (out.Stale request) = IsU64 request
IsOut (out.Reply request result) = IsU64 request × IsReply result

pub record IsRow (row : Row) : Type 0 where
  pub moment : IsU64 row.event.moment.0
  pub what : IsWhat row.event.what
  pub outs : AllByRecursion IsOut row.outs

abbrev pub AreRows : List Row → Type 0
AreRows rows = AllByRecursion IsRow rows

-- The text of rows is read as them, unless memory ran out.
abbrev pub ReadsBack : List Row → Result Trace ScriptFault → Type 0
ReadsBack rows result = MatchResult result (λ t. t.rows ≡ rows) (λ e. e ≡ faults.NoMemory)

-- A text is a trace exactly where it is the text of rows that are in range, and it is the trace of these rows alone. It is then not
-- refused; any other is refused at one line.
pub record TextLaws : Type 0 where
  pub read_is_text : (text : List ℕ) (rows : List Row) → IsTrace text rows → text ≡ trace_text_of rows
  pub read_is_in_range : (text : List ℕ) (rows : List Row) → IsTrace text rows → AreRows rows
  pub text_is_read : (rows : List Row) → AreRows rows → IsTrace (trace_text_of rows) rows
  pub text_reads_back : (rows : List Row) (result : Result Trace ScriptFault) → AreRows rows → ReadsTrace (trace_text_of rows) result → ReadsBack rows result
  pub trace_is_one : (text : List ℕ) (one other : List Row) → IsTrace text one → IsTrace text other → one ≡ other
  pub trace_is_taken : (text : List ℕ) (rows : List Row) (n : ℕ) → IsTrace text rows → RefusesTraceLine text n → ⊥
  pub trace_is_refused_once : (text : List ℕ) (m n : ℕ) → RefusesTraceLine text m → RefusesTraceLine text n → m ≡ n

-- A text is one script at most. It is then taken, unless memory ran out, and not refused; any other is refused at one line.
pub record ScriptLaws : Type 0 where
  pub script_is_one : (many : Bool) (text : List ℕ) (one other : Script) → IsScript many text one → IsScript many text other → one ≡ other
  pub script_is_taken : (many : Bool) (text : List ℕ) (script : Script) (n : ℕ) → IsScript many text script → RefusesLine many text n → ⊥
  pub script_is_read : (many : Bool) (text : List ℕ) (script : Script) (result : Result Script ScriptFault) → IsScript many text script → ReadsScript many text result
      → MatchResult result (λ s. s ≡ script) (λ e. e ≡ faults.NoMemory)
  pub script_is_refused_once : (many : Bool) (text : List ℕ) (m n : ℕ) → RefusesLine many text m → RefusesLine many text n → m ≡ n
