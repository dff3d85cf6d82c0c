use Rattle.std.proofs.Common.{◌≡◌, length}
use Rattle.client_request.specs.Cx.{view_of, LendsTheSame}
use Rattle.client_choice.specs.Choice as plain
use Rattle.client_choice.specs.Servers.{flags}
use Rattle.client_choice.proofs.steps.settle_all.Given as goal

abbrev pub invariant-loop-posted : goal.invariant-loop-posted
invariant-loop-posted g l =
    record {
      lends : LendsTheSame l.fn.cx l.cx;
      same :
          plain.settles_all g.U.SendRequest.transport l.config l.server l.board l.choice (view_of g.W.Words.stream l.cx)
          ≡ plain.settles_all g.U.SendRequest.transport l.config l.server l.initial.board l.fn.choice (view_of g.W.Words.stream l.fn.cx);
      keeps : flags g.U.SendRequest.holds_failed l.choice.servers ≡ flags g.U.SendRequest.holds_failed l.fn.choice.servers;
    }

abbrev pub decreases-loop-posted : goal.decreases-loop-posted
decreases-loop-posted g l = length l.board
