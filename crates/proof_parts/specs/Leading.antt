-- Moves of the client of small moves, one after another, and what those of one server leave as it was.
use Rattle.std.specs.Prelude.{◌≡◌, ℕ, List, [], ◌++◌, map, Result}
use Rattle.client_request.specs.Request.{Request}
use Rattle.client_request.specs.declared.error.Error.{Error}
use Rattle.client_request.specs.declared.event.Out.{Out}
use Rattle.right_trace.specs.Trace.{Conf}
use Rattle.right_trace.specs.Messages.{Octets}
use Rattle.right_trace.specs.Settings.{Settings}
use Rattle.proof_right.specs.machine.Part.{Act, ServerPart}
use Rattle.proof_right.specs.machine.Client.{Upper, Made, Move, Server_moves, Hands_on, Gives_up, Drops, Keeps_back, Delivers, Concludes, Times_out, Revives, Replies, Forgets, Derives, Answers, Takes_on, tag}

module _ {c : Conf} (st : Settings) (compose : Request → Result Octets Error) (P : ServerPart c) where
  -- a move that takes no asking, puts no reply out, and leaves what is stored as it is
  abbrev pub IsBelow : (x : Upper P.State) (d : Made P.State) → Move c st compose P x d → Type 0
  IsBelow x _ (Server_moves i d lt acts) = Unit {0}
  IsBelow x _ (Hands_on i k a d lt held tried starts) = Unit {0}
  IsBelow x _ (Gives_up i k d lt held holds cancels) = Unit {0}
  IsBelow x _ (Drops before after y board held) = Unit {0}
  IsBelow x _ (Keeps_back before after y a board held waits) = Unit {0}
  IsBelow x _ (Delivers before after y a z board held final is) = Unit {0}
  IsBelow x _ (Concludes k a y z held tried free none best is) = Unit {0}
  IsBelow x _ (Times_out k a held late) = Unit {0}
  IsBelow x _ (Revives before after y e m leaving fails there may) = ⊥
  IsBelow x _ (Replies before after y leaving) = ⊥
  IsBelow x _ (Forgets before after e stored) = ⊥
  IsBelow x _ (Derives e k is covers) = ⊥
  IsBelow x _ (Answers r y pending at_once) = ⊥
  IsBelow x _ (Takes_on r o old pending composes some stored) = ⊥

  -- such moves, one after another, and what they put out
  pub data Leads : Upper P.State → List Out → Upper P.State → Type 0 where
    Arrives : (x : Upper P.State) → Leads x [] x
    Then : (x : Upper P.State) (d : Made P.State) (outs : List Out) (y : Upper P.State) (m : Move c st compose P x d) → IsBelow x d m → Leads d.state outs y → Leads x (d.outs ++ outs) y

  -- Of x, y differs as an act of server s makes it.
  pub record IsMoved (s : ℕ) (x : Upper P.State) (made : Act P.State) (y : Upper P.State) : Type 0 where
    pub now : y.now ≡ x.now
    pub asked : y.asked ≡ x.asked
    pub pending : y.pending ≡ x.pending
    pub held : y.held ≡ x.held
    pub leaving : y.leaving ≡ x.leaving
    pub stored : y.stored ≡ x.stored
    pub place : y.place ≡ made.place
    pub state : y.ups s ≡ made.state
    pub others : (i : ℕ) → (s ≡ i → ⊥) → y.ups i ≡ x.ups i
    pub board : y.board ≡ x.board ++ map (tag s) made.posts

  -- where moves from a state lead that differ from x as an act of server s makes it
  pub record Reaches (s : ℕ) (from x : Upper P.State) (made : Act P.State) : Type 0 where
    pub end : Upper P.State
    pub leads : Leads from made.outs end
    pub is : IsMoved s x made end
