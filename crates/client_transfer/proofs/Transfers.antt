-- What messages give, one behind the other.
use Rattle.std.proofs.Common.{◌≡◌, ℕ, Bool, true, false, List, [], ◌∷◌, ◌++◌, length, Ok, Err, refl, sym, ◌∙◌, ap}
use Rattle.std.specs.Prelude.{◌==◌, ◌&&◌, if◌then◌else◌, Result}
use Rattle.dns_values.specs.declared.error.ParseError.{ParseError}
use Rattle.dns_base.specs.Message.{Known}
use Rattle.client_request.specs.Board.{Part}
use Rattle.client_request.specs.Response.{is_end}
use Rattle.client_request.specs.Requests.{Requests}
use Rattle.client_transfer.specs.declared.state.XfrState.{XfrState}
use Rattle.client_transfer.specs.declared.state.XfrState.TheVariants.{Error}
use Rattle.client_transfer.specs.declared.kind.Refusal.{Refusal}
use Rattle.client_transfer.specs.States.{Checked, checked, takes_item, takes_items, takes_then}
use Rattle.client_transfer.specs.Transfers.{Transfer, TransferLaw, begun, goes_on, parts_given, brings, transferred, ends_once, EndsOnce}

-- records
records : (state : XfrState) (a b : List (Result Known ParseError)) → takes_items state (a ++ b) ≡ takes_then (λ next. takes_items next b) (takes_items state a)
records state [] b = refl
records state (item ∷ a) b = go (λ next. records next a b) (takes_item state item)
  where
    go : ((next : XfrState) → takes_items next (a ++ b) ≡ takes_then (λ last. takes_items last b) (takes_items next a)) → (o : Result XfrState Refusal)
        → takes_then (λ next. takes_items next (a ++ b)) o ≡ takes_then (λ next. takes_items next b) (takes_then (λ next. takes_items next a) o)
    go ih (Ok next) = ih next
    go ih (Err refusal) = refl

-- an end at the end
one_end : (ps : List Part) (message : List ℕ) (c : Checked) → ends_once false ps ≡ true → ends_once c.0 (ps ++ parts_given message c) ≡ true
one_end [] message (true, state, true) e = refl
one_end [] message (true, state, false) e = refl
one_end [] message (false, state, true) e = refl
one_end [] message (false, state, false) e = refl
one_end (p ∷ ps) message c e = go (one_end ps message c) (is_end p) e
  where
    go : (ends_once false ps ≡ true → ends_once c.0 (ps ++ parts_given message c) ≡ true) → (b : Bool) → (if b then false else ends_once false ps) ≡ true
        → (if b then c.0 && length (ps ++ parts_given message c) == 0 else ends_once c.0 (ps ++ parts_given message c)) ≡ true
    go ih true e = absurd (cc)
    go ih false e = ih e

module _ {R : Type 0} (requests : Requests R) where
  cut : (request : R) (t : Transfer) (a b : List (List ℕ)) → transferred requests request t (a ++ b) ≡ transferred requests request (transferred requests request t a) b
  cut request t [] b = refl
  cut request t (message ∷ a) b = cut request (brings requests request t message) a b

  brings_none : (request : R) (t : Transfer) (message : List ℕ) → t.ended ≡ true → brings requests request t message ≡ t
  brings_none request t message e = rw e refl

  ended : (request : R) (t : Transfer) (messages : List (List ℕ)) → t.ended ≡ true → transferred requests request t messages ≡ t
  ended request t [] e = refl
  ended request t (message ∷ messages) e =
      ap (λ t. transferred requests request t messages) (brings_none request t message e) ∙ ended request t messages e

  once_more : (request : R) (t : Transfer) (message : List ℕ) → EndsOnce t → EndsOnce (brings requests request t message)
  once_more request t message o = go t.ended refl
    where
      go : (b : Bool) → t.ended ≡ b → EndsOnce (if b then t else goes_on t message (checked requests request t.state message))
      go true e = o
      go false e = one_end t.parts message (checked requests request t.state message) (ap (λ b. ends_once b t.parts) (sym e) ∙ o)

  all_once : (request : R) (t : Transfer) (messages : List (List ℕ)) → EndsOnce t → EndsOnce (transferred requests request t messages)
  all_once request t [] o = o
  all_once request t (message ∷ messages) o = all_once request (brings requests request t message) messages (once_more request t message o)

  stays_refused : (request : R) (t : Transfer) (message : List ℕ) → t.state ≡ Error → (brings requests request t message).state ≡ Error
  stays_refused request t message s = go t.ended
    where
      go : (b : Bool) → (if b then t else goes_on t message (checked requests request t.state message)).state ≡ Error
      go true = s
      go false = ap (λ state. (checked requests request state message).1) s

  refused : (request : R) (t : Transfer) (messages : List (List ℕ)) → t.state ≡ Error → (transferred requests request t messages).state ≡ Error
  refused request t [] s = s
  refused request t (message ∷ messages) s = refused request (brings requests request t message) messages (stays_refused request t message s)

  pub transfer_law : TransferLaw requests
  transfer_law = record {
    cut = cut;
    records = records;
    ended = ended;
    once = λ request state messages. all_once request (begun state) messages refl;
    refused = refused;
  }
