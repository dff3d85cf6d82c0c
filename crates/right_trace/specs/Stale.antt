-- Replies that say what an expired message said, where servers failed (RFC 8767).
use Rattle.std.specs.Prelude.{◌≡◌, ℕ, true, false, ◌∷◌, Result}
use Rattle.dns_base.specs.Data.{Data}
use Rattle.client_request.specs.Request.{Request}
use Rattle.client_request.specs.declared.error.Error.{Error}
use Rattle.client_request.specs.declared.event.What.{What}
use Rattle.client_request.specs.declared.event.Out.TheVariants.{Stale}
use Rattle.right_trace.specs.Trace.{History, Conf, Put}
use Rattle.right_trace.specs.Messages.{Octets}
use Rattle.right_trace.specs.Requests.{is_marked}
use Rattle.right_trace.specs.Settings.{Settings}
use Rattle.right_trace.specs.Parts.{Parts, Says}
use Rattle.right_trace.specs.Views.{stale_of, IsValidStale}
use Rattle.right_trace.specs.Replies.{Supplies, OkIsRight}
use Rattle.right_trace.specs.Errors.{is_failing, FailsSo}

-- In what follows `past` is what happened before the row, `w` is the row's event, `h` is what happened up to here, the row's event and its outs so far included.

-- An Ok reply is stale: its mark stands directly before it, a result failed there (an error of a server or of the deadline, by its own cause; or a fresh message that tells of no name), and it says what the message of an earlier request says for this one when it has expired, at its age.
pub record IsStale (c : Conf) (s : Settings) (k : ℕ) (m : Octets) (past : History) (w : What) (h : History) : Type 0 where
  pub before : History
  pub marked : h ≡ (Put (Stale k) ∷ before)
  pub failed : Result Octets Error
  pub fails : is_failing failed ≡ true
  pub cause : FailsSo c s k past w before failed
  pub first : Request
  pub request : Request
  pub message : Octets
  pub age : ℕ
  pub supplied : Supplies c s k first request message age before
  pub parts : Parts Data
  pub valid : IsValidStale s first request message parts age
  pub says : Says m (stale_of first request parts)

-- An Ok reply is fresh or a view, and not marked; or it is marked, and stale.
pub data MessageIsRight (c : Conf) (s : Settings) (k : ℕ) (m : Octets) (past : History) (w : What) (h : History) : Type 0 where
  Unmarked : is_marked k h ≡ false → OkIsRight c s k m past w h → MessageIsRight c s k m past w h
  Marked : IsStale c s k m past w h → MessageIsRight c s k m past w h
