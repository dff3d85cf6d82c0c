-- How the turns of a transfer end.
use Rattle.std.proofs.Common.{◌≡◌, ℕ, ◌+◌, ◌≤◌, true, false, List, length, Some, None, Ok, Err, refl, sym, ap, subst, ◌∙◌, arith}
use Rattle.std.specs.Prelude.{IsErrOf}
use Rattle.client_request.specs.Board.{part_of}
use Rattle.client_request.specs.Response.{IsRefusal}
use Rattle.client_request.specs.declared.board.Posted.{Posted}
use Rattle.client_request.specs.declared.error.Error.{Error}
use Rattle.client_request.specs.declared.error.Error.TheVariants as errors
use Rattle.client_request.specs.declared.event.Event.{Event}
use Rattle.client_request.specs.declared.event.Row.{Row}
use Rattle.client_steps.specs.Client.{row_step}
use Rattle.stream_turns.specs.Turns.{Client, Held, StopsAt, client_with, machine, steps, with_board}
use Rattle.zone_transfer.proofs.Fetched.{cut_by_part, cut_by_turn, passes_of}
use Rattle.zone_transfer.proofs.Turns.{Going}
use Rattle.zone_transfer.specs.Fetching.{Completes, IsCut, ReadsStanding, ReadsUpTo, RefusesPart}
use Rattle.zone_transfer.specs.Reading.{ReadSoFar, fault_of}
use Rattle.zone_transfer.specs.Turning.{Scene, with_rest}
use Rattle.zone_transfer.specs.declared.fault.FetchFault.{FetchFault}
use Rattle.zone_transfer.specs.declared.fault.FetchFault.TheVariants.{NoReply}

-- a step of the connection without the results that were taken
pub held_step : (words : ℕ → ℕ) (held taken : Held) (rest : List Posted) (event : Event) (row : Row) (after : Client) → taken ≡ with_board rest held → steps words event taken ≡ Some (row, after)
    → row_step machine 0 event (with_rest rest (client_with words held)) ≡ Some (row, after)
held_step words held taken rest event row after is step = subst (λ (t : Held). steps words event t ≡ Some (row, after)) is step

-- an error is the same whatever else there might have been
pub same_error : {A : Type 0} (e f : Error) → IsErrOf {T = A} (Err e) f → e ≡ f
same_error e f is = cc

pub is_error : {A : Type 0} (e f : Error) → e ≡ f → IsErrOf {T = A} (Err e) f
is_error e f is = ap Err is

within : (n more left : ℕ) → n + more ≡ left → n ≤ left
within n more left e = omega arith

module _ (s t : ReadSoFar) (first last : Client) (left more most : ℕ) (old new : Scene) (g : Going s first left old new t last more) where
  pub completed : (u : ReadSoFar) (after : List Posted) → ReadsUpTo t last.layer.board (Some (Ok None)) after u → Completes s first left u old new
  completed u after r = record {
    passed = passes_of s t u first last left old new g.turns g.turned (within (length g.turns) more left g.left_are) g.read r.rest r.reads;
    ends = r.ends;
  }

  pub cut_here : (fault : FetchFault) → RefusesPart most t last.layer.board fault → IsCut s first left old new most fault
  cut_here fault r = cut_by_part s first left most old new t last g.turns fault g.turned (within (length g.turns) more left g.left_are) g.read r

  pub never : (u : ReadSoFar) (rest : List Posted) → ReadsStanding t last.layer.board rest u → part_of 0 rest ≡ None → more ≡ 0 → IsCut s first left old new most NoReply
  never u rest r none no_more = record {
    state = u;
    passed = passes_of s t u first last left old new g.turns g.turned (within (length g.turns) more left g.left_are) g.read rest r;
    none = none;
    all = (let a : length g.turns + more ≡ left = g.left_are in omega arith);
  }

module _ (s t u : ReadSoFar) (first : Client) (left more most : ℕ) (old mid new : Scene) (held taken : Held) (words : ℕ → ℕ) (g : Going s first left old mid t (client_with words held) more) where
  pub stopped : (rest : List Posted) (error : Error) → ReadsStanding t held.layer.board rest u → part_of 0 rest ≡ None → taken ≡ with_board rest held → held.failed ≡ false → IsRefusal error
      → (error ≡ errors.Failed → taken.failed ≡ true) → (error ≡ errors.NumbersUsed → StopsAt words taken mid.moments new.moments) → IsCut s first left old new most (fault_of error)
  stopped rest error r none is lasts refused failed numbers =
      cut_by_turn s first left most old new mid t u (client_with words held) held words g.turns error refl g.turned (within (length g.turns) more left g.left_are) g.read rest r none refused
      (λ e. absurd (let a : false ≡ true = sym lasts ∙ ap (λ (h : Held). h.failed) (sym is) ∙ failed e in cc))
      (λ e. subst (λ (h : Held). StopsAt words h mid.moments new.moments) is (numbers e))
