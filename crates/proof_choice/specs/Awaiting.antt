-- What is still to come of each request of a choice: a server that was started owes its result, and where servers are left to be started, the last one does.
use Rattle.std.specs.Prelude.{◌≡◌, ℕ, ◌<◌, ◌⊎◌, List, [], ◌∷◌, length, Some}
use Rattle.client_choice.specs.Choice.{Choice, ChoiceJob}
use Rattle.client_choice.specs.declared.job.ListedServer.{ListedServer}
use Rattle.client_choice.specs.declared.job.Started.{Started}

module _ {P : Type 0} where
  -- a server that was started has not given its result
  abbrev pub Owes : Started P → Type 0
  Owes e = (r : P) × (e.response ≡ Some r)

  abbrev pub OneOwes : List (Started P) → Type 0
  OneOwes [] = ⊥
  OneOwes (e ∷ es) = Owes e ⊎ OneOwes es

  abbrev pub LastOwes : List (Started P) → Type 0
  LastOwes [] = ⊥
  LastOwes (e ∷ []) = Owes e
  LastOwes (e ∷ f ∷ es) = LastOwes (f ∷ es)

-- each is one of so many servers
abbrev pub AreWithin : (count : ℕ) → List ListedServer → Type 0
AreWithin count [] = Unit {0}
AreWithin count (e ∷ es) = (e.server < count) × AreWithin count es

module _ {R P : Type 0} (count : ℕ) where
  -- a request that waits
  pub record IsAwaited (job : ChoiceJob R P) : Type 0 where
    pub one : OneOwes job.started
    pub last : (job.left ≡ [] → ⊥) → LastOwes job.started
    pub within : AreWithin count job.left

  abbrev pub AreAwaited : List (ℕ × ChoiceJob R P) → Type 0
  AreAwaited [] = Unit {0}
  AreAwaited (e ∷ es) = IsAwaited e.1 × AreAwaited es

  -- a choice among so many servers, each of whose requests waits for one
  pub record Awaits {U : Type 0} (c : Choice R U P) : Type 0 where
    pub servers : length c.servers ≡ count
    pub jobs : AreAwaited c.jobs
