-- A step of a connection with a board of its own.
use Rattle.std.proofs.Common.{◌≡◌, ℕ, List, ap, sym, ◌∙◌, Option, Some, None}
use Rattle.std.specs.Prelude.{option_map}
use Rattle.client_request.specs.Request.{Request}
use Rattle.client_request.specs.View.{Step, View}
use Rattle.client_request.specs.declared.board.Posted.{Posted}
use Rattle.client_stream.specs.Plain.{Stream}
use Rattle.stream_turns.specs.Apart.{on_own_board}
use Rattle.stream_turns.specs.declared.apart.Apart.{Apart}

abbrev Line : Type 0
Line = Stream Request Request

-- what it leaves
pub leaves : (step : Step Line) (u : Apart) (v w : View) (line : Line) (board : List Posted) → step u.line (record v { board = u.board }) ≡ Some (line, record w { board = board }) → w.board ≡ v.board
    → on_own_board step u v ≡ Some (record { line = line; board = board }, w)
leaves step u v w line board e same =
    ap (option_map (λ (x : Line × View). (record { line = x.0; board = x.1.board }, record x.1 { board = v.board }))) e
    ∙ ap (λ (ps : List Posted). Some (record { line = line; board = board }, record w { board = ps })) (sym same)

pub leaves_none : (step : Step Line) (u : Apart) (v : View) → step u.line (record v { board = u.board }) ≡ None → on_own_board step u v ≡ None
leaves_none step u v e = ap (option_map (λ (x : Line × View). (record { line = x.0; board = x.1.board }, record x.1 { board = v.board }))) e
