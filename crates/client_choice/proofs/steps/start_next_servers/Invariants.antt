use Rattle.std.proofs.Common.{◌≡◌, length}
use Rattle.client_request.specs.Cx.{view_of, LendsTheSame}
use Rattle.client_choice.specs.Choice as plain
use Rattle.client_choice.specs.Servers.{flags}
use Rattle.client_choice.proofs.steps.start_next_servers.Given as goal

abbrev pub invariant-loop-entry : goal.invariant-loop-entry
invariant-loop-entry g l =
    record {
      lends : LendsTheSame l.fn.cx l.cx;
      same :
          plain.runs g.U.SendRequest.transport l.config l.ticket l.job.left l.job l.choice (view_of g.W.Words.stream l.cx)
          ≡ plain.runs g.U.SendRequest.transport l.config l.ticket l.initial.job.left l.initial.job l.fn.choice (view_of g.W.Words.stream l.fn.cx);
      keeps : flags g.U.SendRequest.holds_failed l.choice.servers ≡ flags g.U.SendRequest.holds_failed l.fn.choice.servers;
    }

abbrev pub decreases-loop-entry : goal.decreases-loop-entry
decreases-loop-entry g l = length l.job.left
