-- Outs that name what is not there.
use Rattle.std.proofs.Common.{◌≡◌, ℕ, true, false, Option, Some, None}
use Rattle.client_request.specs.Request.{Request}
use Rattle.client_request.specs.declared.event.What.{What}
use Rattle.client_request.specs.declared.event.Out.TheVariants.{OpenDgram, OpenStream}
use Rattle.right_trace.specs.Trace.{History, Conf}
use Rattle.right_trace.specs.Messages.{Octets}
use Rattle.right_trace.specs.Requests.{Asking}
use Rattle.right_trace.specs.Places.{Site, site}
use Rattle.right_trace.specs.Settings.{Settings}
use Rattle.right_trace.specs.Right.{Right, OutRight}
use Rattle.proof_right.specs.examples.Wrong.{opened_twice, closed_twice, closed_again, closed_unopened, started_unasked}

-- a number that some out opened, whatever happened to it since
module _ (c : Conf) (t : Settings) (past : History) (w : What) (h end : History) (p s : ℕ) (x : Site) (at : site p h ≡ Some x) where
  pub not_opened_again : OutRight c t past w h end (OpenDgram p s) → ⊥
  not_opened_again may = let n = may.2 in absurd (cc)

  pub not_connected_again : OutRight c t past w h end (OpenStream p s) → ⊥
  not_connected_again may = let n = may.3 in absurd (cc)

module _ (c : Conf) (s : Settings) (r : Request) where
  pub twice_opened : Right c s (opened_twice r) → ⊥
  twice_opened h = let e = h.0.outs.1.1.0.2 in absurd (cc)

  pub unasked : Right c s (started_unasked r) → ⊥
  unasked h = let e : Path (Option Asking) None (Some h.0.outs.0.2.0) = h.0.outs.0.2.1 in absurd (cc)

  pub twice_closed : (o : Octets) → Right c s (closed_twice r o) → ⊥
  twice_closed o h = let e : false ≡ true = h.1.1.0.outs.1.0.2 in absurd (cc)

  pub again_closed : (o : Octets) → Right c s (closed_again r o) → ⊥
  again_closed o h = let e : false ≡ true = h.1.1.1.0.outs.0.2 in absurd (cc)

pub unopened_closed : (c : Conf) (s : Settings) → Right c s closed_unopened → ⊥
unopened_closed c s h = let e : false ≡ true = h.0.outs.0.2 in absurd (cc)
