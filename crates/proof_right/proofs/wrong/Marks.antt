-- A reply whose mark does not stand before it is right as one that is not marked.
use Rattle.std.proofs.Common.{◌≡◌, ℕ, true, false, arith, ap, ◌∙◌, ◌==◌}
use Rattle.std.proofs.lemmas.Bool.Decides.{nat_tests}
use Rattle.client_request.specs.declared.event.What.{What}
use Rattle.right_trace.specs.Trace.{History, Conf}
use Rattle.right_trace.specs.Messages.{Octets}
use Rattle.right_trace.specs.Requests.{is_marked}
use Rattle.right_trace.specs.Settings.{Settings}
use Rattle.right_trace.specs.Replies.{OkIsRight}
use Rattle.right_trace.specs.Stale.{MessageIsRight, Unmarked, Marked}
use Rattle.proof_right.proofs.client.Serving.{clash}

pub unmarked : (c : Conf) (s : Settings) (k : ℕ) (m : Octets) (past : History) (w : What) (h : History) → is_marked k h ≡ false → MessageIsRight c s k m past w h → OkIsRight c s k m past w h
unmarked c s k m past w h none (Unmarked n r) = r
unmarked c s k m past w h none (Marked x) = absurd (clash (is_marked k h) (ap (is_marked k) x.marked ∙ own k) none)
  where
    own : (k : ℕ) → (k == k) ≡ true
    own k = grind (arith, nat_tests)
