-- What a transfer gets of the messages that come on its connection, whatever else comes between them.
use Rattle.std.specs.Prelude.{◌≡◌, ℕ, ◌==◌, Bool, false, if◌then◌else◌, List, [], ◌∷◌, ◌++◌, length, Option, Some, None, IfSome, option_and_then}
use Rattle.client_request.specs.Board.{Part}
use Rattle.client_request.specs.Numbered.{entry_at}
use Rattle.client_request.specs.Requests.{Requests}
use Rattle.client_request.specs.View.{View}
use Rattle.client_request.specs.declared.board.Posted.{Posted}
use Rattle.client_transfer.specs.Transfers.{begun, transferred}
use Rattle.client_transfer.specs.declared.state.XfrState.{XfrState}
use Rattle.client_stream.specs.IdTable.{held_from}
use Rattle.client_stream.specs.Plain.{Line, After, message_id, message_comes}
use Rattle.client_stream.specs.declared.request.Holder.{Holder}
use Rattle.client_stream.specs.declared.request.Holder.TheVariants.{Waits, Transfers, GivenUp}

-- the parts that stand for a ticket, oldest first
abbrev pub parts_for : ℕ → List Posted → List Part
parts_for ticket [] = []
parts_for ticket (p ∷ ps) = if p.ticket == ticket then p.part ∷ parts_for ticket ps else parts_for ticket ps

-- the messages with an id
abbrev pub with_id : ℕ → List (List ℕ) → List (List ℕ)
with_id id [] = []
with_id id (message ∷ messages) = if message_id message == id then message ∷ with_id id messages else with_id id messages

module _ {R M : Type 0} where
  -- Who holds an id waits under a ticket.
  abbrev pub is_under : ℕ → Option (Holder R M) → Bool
  is_under ticket None = false
  is_under ticket (Some (Waits own _)) = own == ticket
  is_under ticket (Some (Transfers own _ _)) = own == ticket
  is_under ticket (Some GivenUp) = false

  -- A transfer holds an id, and no other id is held under its ticket. Slots stand for who holds the ids.
  pub record IsUnderWay (id ticket : ℕ) (request : M) (state : XfrState) (s : Line R M) : Type 0 where
    pub slots : List (Option (Holder R M))
    pub held : held_from 0 slots ≡ s.held.held
    pub mark : length slots ≡ s.held.mark
    pub own : entry_at id s.held.held ≡ Some (Transfers ticket request state)
    pub alone : (k : ℕ) → (k == id) ≡ false → is_under ticket (entry_at k s.held.held) ≡ false

module _ {R M : Type 0} (one : Requests R) (several : Requests M) where
  -- Messages come, one by one.
  abbrev pub all_come : ℕ → List (List ℕ) → Line R M → View → After R M
  all_come place [] s v = Some (s, v)
  all_come place (message ∷ messages) s v = option_and_then (λ x. all_come place messages x.0 x.1) (message_comes one several place message s v)

  -- The parts that a transfer gets are the fold of what each message with its id gives.
  abbrev pub TransferLaw : Type 0
  TransferLaw = (place id ticket : ℕ) (request : M) (state : XfrState) (messages : List (List ℕ)) (s : Line R M) (v : View) → IsUnderWay id ticket request state s
      → IfSome (all_come place messages s v) (λ x. parts_for ticket x.1.board ≡ parts_for ticket v.board ++ (transferred several request (begun state) (with_id id messages)).parts)
