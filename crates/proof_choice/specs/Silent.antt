-- The choice among servers that give every request an error at once.
use Rattle.std.specs.Prelude.{◌≡◌, ℕ, false, Some, None, option_map, Err}
use Rattle.client_request.specs.Request.{Request}
use Rattle.client_request.specs.View.{Transport, answers, asks, draws_ticket}
use Rattle.client_request.specs.declared.error.Error.TheVariants.{ConnectionClosed}
use Rattle.client_request.specs.declared.event.Out.TheVariants.{Start}
use Rattle.client_request.specs.declared.event.Via.TheVariants.{Dgram}
use Rattle.right_trace.specs.Trace.{Conf}
use Rattle.right_trace.specs.Settings.{Settings}
use Rattle.client_settings.specs.Settings.{RedundantSettings}
use Rattle.proof_parts.specs.PartTie.{IsTie}
use Rattle.proof_parts.specs.Sharing.{OpensNext, IsShared}
use Rattle.proof_parts.specs.Silent.{silent_part}
use Rattle.proof_choice.specs.Choosing.{Choosing, SameDeferring, IsStarting}
use Rattle.proof_choice.specs.Doing.{CallsAreMoves}
use Rattle.proof_choice.specs.Whole.{IsWhole, ChoicesWithoutServers}

-- It knows its number alone. A request has its error as it is handed in.
abbrev pub unstarted : Transport Request ℕ ℕ
unstarted = record {
  send = λ request s v. option_map (λ w. (s, answers v.ticket (Err ConnectionClosed) w)) (draws_ticket v);
  step = λ h s v. Some (s, v);
  cancel = λ r s v. Some (s, v);
  response = λ request s v. v.ticket;
}

-- it says `Start` before
abbrev pub numbered : Transport Request ℕ ℕ
numbered = record unstarted { send = λ r s v. unstarted.send r s (asks (Start v.request s Dgram) v) }

-- It is tied as each server.
abbrev pub NumbersAreTied : Type 0
NumbersAreTied = (c : Conf) (s : ℕ) → IsTie (silent_part c) s Dgram unstarted (λ t. t) s (λ phase u x a. u ≡ s) (λ u t. None) (λ u i. ⊥)

-- A server is tied, says that it starts, opens no place, and leaves alone what is not its own.
pub record NumbersChoose (c : Conf) : Type 0 where
  pub tied : (s : ℕ) → IsTie (silent_part c) s Dgram unstarted (λ t. t) s (λ phase u x a. u ≡ s) (λ u t. None) (λ u i. ⊥)
  pub starts : (s : ℕ) → IsStarting s Dgram unstarted numbered (λ u. u ≡ s) (λ r. Unit {0})
  pub opens : OpensNext (silent_part c) (λ a p. false)
  pub shared : (s : ℕ) → IsShared (silent_part c) (λ a p. false) unstarted (λ phase u x a. u ≡ s) (λ u i. ⊥)

-- the choice among silent servers, as many as the configuration has
abbrev pub silent_choice : (c : Conf) (st : Settings) (settings : RedundantSettings) → SameDeferring settings st → NumbersChoose c → Choosing
silent_choice c st settings same choose = record {
  c = c;
  st = st;
  settings = settings;
  same = same;
  P = silent_part c;
  U = ℕ;
  R = ℕ;
  below = numbered;
  ticket = λ t. t;
  bare = λ s. unstarted;
  via = λ s. Dgram;
  first = λ s. s;
  Tied = λ s phase u x a. u ≡ s;
  names = λ u t. None;
  Owns = λ u i. ⊥;
  has = λ a p. false;
  opens = choose.opens;
  IsPlaced = λ s u. u ≡ s;
  Fits = λ s r. Unit {0};
  placed = λ s phase u x a tied. tied;
  tie = λ s lt. choose.tied s;
  layer = λ s lt. choose.starts s;
  shared = λ s lt. choose.shared s;
}

-- The laws of a choice can be met: among silent servers, what its calls leave is what moves of the machine leave.
abbrev pub SilentChoicesMove : Type 0
SilentChoicesMove = (c : Conf) → (choose : NumbersChoose c) ×
    ((st : Settings) (settings : RedundantSettings) (same : SameDeferring settings st) → CallsAreMoves (silent_choice c st settings same choose))

-- And the choice is tied to the whole of a client.
abbrev pub SilentChoicesAreWhole : Type 0
SilentChoicesAreWhole = (c : Conf) → (choose : NumbersChoose c) ×
    ((st : Settings) (settings : RedundantSettings) (same : SameDeferring settings st) → IsWhole (silent_choice c st settings same choose))

-- Without servers it gives each request an error at once.
abbrev pub SilentChoicesRefuse : Type 0
SilentChoicesRefuse = (c : Conf) → (choose : NumbersChoose c) ×
    ((st : Settings) (settings : RedundantSettings) (same : SameDeferring settings st) → ChoicesWithoutServers (silent_choice c st settings same choose))
