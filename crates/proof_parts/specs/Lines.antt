-- One connection of the plain transport beside one of the machine.
use Rattle.std.specs.Prelude.{◌≡◌, ◌≢◌, ℕ, ◌+◌, ◌<◌, ◌≤◌, Option, Some, None, List, [], length}
use Rattle.client_request.specs.Numbered.{entry_at}
use Rattle.client_request.specs.Request.{Request}
use Rattle.client_stream.specs.IdTable.{IdTable}
use Rattle.client_stream.specs.Plain.{Line}
use Rattle.client_stream.specs.declared.line.LineStage.{LineStage}
use Rattle.client_stream.specs.declared.line.LineStage.TheVariants as stage
use Rattle.right_trace.specs.Time.{response_timeout}
use Rattle.right_trace.specs.Writes.{Written}
use Rattle.proof_right.specs.machine.Streams.{Mode, New, Active, Idle, Asker, Conn, Multi}
use Rattle.proof_parts.specs.Sights.{Rising}
use Rattle.proof_parts.specs.Seats.{Seats, AreSeated}
use Rattle.right_trace.specs.Trace.{Conf}

-- the lines that carry requests which one message answers
abbrev pub SingleLine : Type 0
SingleLine = Line Request Request

-- keys that rise from lo on, below hi
abbrev pub Sorted : {A : Type 0} → (lo hi : ℕ) → List (ℕ × A) → Type 0
Sorted lo hi es = Rising (λ e. e.0) lo hi es

-- The table is in order below its mark, and the mark has 16 bits.
pub record IsInOrder {A : Type 0} (t : IdTable A) : Type 0 where
  pub sorted : Sorted 0 t.mark t.held
  pub small : t.mark < 65536

-- its tables as functions, beside those of the machine
abbrev pub seats_of : SingleLine → (ℕ → Option Asker) → (ℕ → Option Written) → Seats
seats_of s asks written = record { held = λ id. entry_at id s.held.held; ids = λ i. entry_at i s.ids; queue = λ i. entry_at i s.queue; asks = asks; written = written }

-- The mode, with the timer that is set for it.
pub data StageFits (c : Conf) (dues : ℕ → Option ℕ) (idle : ℕ) (at : LineStage) (mode : Mode) : Type 0 where
  IsNew : at ≡ stage.New → mode ≡ New → StageFits c dues idle at mode
  IsActive : (timer since : ℕ) → at ≡ stage.Active timer since → mode ≡ Active since → dues timer ≡ Some (since + response_timeout c + 1) → StageFits c dues idle at mode
  IsIdle : (timer since : ℕ) → at ≡ stage.Idle timer → mode ≡ Idle since → dues timer ≡ Some (since + idle) → StageFits c dues idle at mode

-- what is outstanding of the frame that is being written
pub data WritingFits (o : Option (List ℕ)) (left : ℕ) : Type 0 where
  IsFree : o ≡ None → left ≡ 0 → WritingFits o left
  IsWriting : (octets : List ℕ) → o ≡ Some octets → length octets ≡ left → 0 < left → WritingFits o left

-- A connection that is not active holds no id.
pub record LineFits (c : Conf) (s : SingleLine) (x : Conn) (dues : ℕ → Option ℕ) (ticket : ℕ) : Type 0 where
  pub stage : StageFits c dues s.idle_time s.stage x.mode
  pub writing : WritingFits s.writing x.left
  pub idle : s.idle_time ≡ x.idle
  pub timeout : s.timeout ≡ response_timeout c
  pub resting : ((since : ℕ) → x.mode ≢ Active since) → s.held.held ≡ []
  pub order : IsInOrder s.held
  pub few : length s.held.held ≤ 32768
  pub ids : Sorted 0 ticket s.ids
  pub queue : Sorted 0 ticket s.queue

-- the connection at p is this line, where `names` has the number of each ticket's request
pub record IsLineAt (c : Conf) (p : ℕ) (names : ℕ → Option ℕ) (s : SingleLine) (m : Multi) (x : Conn) (dues : ℕ → Option ℕ) (ticket : ℕ) : Type 0 where
  pub conn : m.conns p ≡ Some x
  pub seated : AreSeated p names (seats_of s m.asks x.ids)
  pub fits : LineFits c s x dues ticket
