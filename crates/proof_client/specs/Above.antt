-- The plain client above a transport that is tied to all that a client has below it.
use Rattle.std.specs.Prelude.{◌≡◌, ℕ, ◌<◌, ◌^◌, false, Option, Some, List, []}
use Rattle.client_request.specs.Composed.{composed}
use Rattle.client_request.specs.Request.{Request}
use Rattle.client_request.specs.View.{View, Transport}
use Rattle.client_request.specs.declared.event.Event.{Event}
use Rattle.client_request.specs.declared.event.Row.{Row}
use Rattle.right_trace.specs.Settings.{Settings}
use Rattle.right_trace.specs.Timely.{AllAskedInOctets}
use Rattle.right_trace.specs.Trace.{Conf}
use Rattle.proof_right.specs.machine.Client.{Upper, begun, IsRun}
use Rattle.proof_right.specs.machine.Part.{ServerPart}
use Rattle.proof_parts.specs.ClientTie.{Beside, RunBeside, IsClientTie}
use Rattle.right_trace.specs.InOctets.{AllInOctets}
use Rattle.proof_parts.specs.PartTie.{Phase}
use Rattle.proof_parts.specs.Sights.{Sight}
use Rattle.client_steps.specs.Client.{Client, nothing_asked, plain_rows}
use Rattle.client_steps.specs.Machines.{machine_of}

-- All of which a client above a tied transport is made: a configuration, settings, the part that each server is, what is kept beside the machine, and the transport T as it begins, with its tie.
pub record Tying : Type 1 where
  pub c : Conf
  pub st : Settings
  pub P : ServerPart c
  pub B : Beside st P
  pub V : Type 0
  pub Q : Type 0
  pub T : Transport Request V Q
  pub ticket : Q → ℕ
  pub stale : Q → V → View → Option (List ℕ)
  pub IsHanded : Q → Type 0
  pub first : V
  pub Tied : Phase → V → Sight → Upper P.State → B.Kept → Type 0
  pub names : V → (ticket : ℕ) → Option ℕ
  pub Owns : V → (timer : ℕ) → Type 0
  pub tie : IsClientTie st P B T ticket stale IsHanded first Tied names Owns

-- the client as it begins, with the words that come
abbrev pub begins_with : {V Q : Type 0} → (ℕ → ℕ) → V → Client V Q
begins_with words first = record {
  layer = first;
  asked = nothing_asked;
  view = record { now = 0; words = words; outs = []; board = []; timers = record { next = 0; set = [] }; ticket = 0; place = 0; request = 0; more = false };
}

-- each word has 64 bits
abbrev pub AreWords : (ℕ → ℕ) → Type 0
AreWords words = (i : ℕ) → words i < 2 ^ 64

-- Every list of rows that the client makes above a tied transport is a run of the client of small moves, and each of its moves makes what it may of what is kept beside.
abbrev pub ClientsAboveTiesRun : Type 1
ClientsAboveTiesRun = (g : Tying) (words : ℕ → ℕ) (events : List Event) (rows : List Row) → AreWords words → AllAskedInOctets events → AllInOctets events
    → plain_rows (machine_of g.T g.ticket g.stale) (g.c).timeout events (begins_with words g.first) ≡ Some rows
    → (run : IsRun g.c g.st composed g.P (begun g.c g.st composed g.P) rows) × RunBeside g.st g.P g.B (begun g.c g.st composed g.P) rows run (g.B).first
