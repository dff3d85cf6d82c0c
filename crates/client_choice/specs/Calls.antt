-- What a call owes that hands on to the servers of a choice, over the step of the plain machine that it makes: where it is Ok it leaves the flags of the
-- servers, and Failed comes only where one of them had given up.
use Rattle.std.specs.Prelude.{◌≡◌, ℕ, Bool, true, List, Option, Some, None, Result, OnOk, IfOk, IfErr, IsErrOf}
use Rattle.client_request.specs.Calls.{HoldsStep}
use Rattle.client_request.specs.Cx.{view_of, LendsTheSame}
use Rattle.client_request.specs.Response.{IsRefusal}
use Rattle.client_request.specs.View.{View}
use Rattle.client_request.specs.declared.cx.Cx.{Cx}
use Rattle.client_request.specs.declared.error.Error.{Error}
use Rattle.client_request.specs.declared.error.Error.TheVariants.{NumbersUsed, Failed}
use Rattle.client_choice.specs.Balancing.{Parts}
use Rattle.client_choice.specs.Choice.{Choice}
use Rattle.client_choice.specs.Servers.{Server, flags, holds_failed}

-- The same as HoldsStep of a call that answers: with its answer it leaves what the step leaves.
pub record GivesStep {W S A F : Type 0} (old new : Cx W) (result : Result A Error) (step : Option S) (leaves : A → S) (was_failed : Bool) (before after : F) : Type 0 where
  pub lends : LendsTheSame old new
  pub ok : IfOk result (λ answer. step ≡ Some (leaves answer))
  pub numbers : IsErrOf result NumbersUsed → step ≡ None
  pub keeps : OnOk result (after ≡ before)
  pub refused : IfErr result IsRefusal
  pub failed_only : IsErrOf result Failed → was_failed ≡ true

-- a call that answers and hands on to one transport
abbrev pub Gives : {W S A L : Type 0} (stream : W → ℕ → ℕ) (old new : Cx W) (result : Result A Error) (step : View → Option (S × View)) (leaves : A → S) (below : L → Bool) (before after : L) → Type 0
Gives stream old new result step leaves below before after =
    GivesStep old new result (step (view_of stream old)) (λ answer. (leaves answer, view_of stream new)) (below before) (below before) (below after)

module _ {W A U : Type 0} (below : U → Bool) (stream : W → ℕ → ℕ) (old new : Cx W) (result : Result A Error) where
  -- calls that hand on to a list of servers
  abbrev pub HoldsServers : (step : List (Server U) → View → Option (List (Server U) × View)) → (before after : List (Server U)) → Type 0
  HoldsServers step before after =
      HoldsStep old new result (step before (view_of stream old)) (after, view_of stream new) (holds_failed below before) (flags below before) (flags below after)

  abbrev pub GivesServers : {B : Type 0} (step : List (Server U) → View → Option ((B × List (Server U)) × View)) (gives : A → B) (before after : List (Server U)) → Type 0
  GivesServers step gives before after =
      GivesStep old new result (step before (view_of stream old)) (λ answer. ((gives answer, after), view_of stream new)) (holds_failed below before) (flags below before) (flags below after)

  -- to those of a choice
  abbrev pub HoldsChoice : {R P : Type 0} (step : Choice R U P → View → Option (Choice R U P × View)) (before after : Choice R U P) → Type 0
  HoldsChoice step before after =
      HoldsStep old new result (step before (view_of stream old)) (after, view_of stream new) (holds_failed below before.servers) (flags below before.servers) (flags below after.servers)

  abbrev pub GivesChoice : {R P B : Type 0} (step : Choice R U P → View → Option ((B × Choice R U P) × View)) (gives : A → B) (before after : Choice R U P) → Type 0
  GivesChoice step gives before after =
      GivesStep old new result (step before (view_of stream old)) (λ answer. ((gives answer, after), view_of stream new)) (holds_failed below before.servers) (flags below before.servers) (flags below after.servers)

  -- to those of a balancer
  abbrev pub HoldsParts : {R P : Type 0} (step : Parts R U P → View → Option (Parts R U P × View)) (before after : Parts R U P) → Type 0
  HoldsParts step before after =
      HoldsStep old new result (step before (view_of stream old)) (after, view_of stream new) (holds_failed below before.choice.servers) (flags below before.choice.servers) (flags below after.choice.servers)
