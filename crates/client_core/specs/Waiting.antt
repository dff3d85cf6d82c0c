-- How long a client may be waited for, and what an edge keeps of its waits.
use Rattle.std.specs.Prelude.{◌≡◌, ◌⊎◌, ℕ, ◌-◌, if◌then◌else◌, List, [], ◌∷◌, ◌++◌, Option, None, Some, option_map}
use Rattle.client_request.specs.Timers.{next_due}
use Rattle.client_request.specs.declared.timers.Timer.{Timer}
use Rattle.client_steps.specs.Whole.{Whole}

-- the longest wait, the last number of 128 bits
abbrev pub longest : ℕ
longest = 340282366920938463463374607431768211455

-- the time from a moment until another one is due: none where that is past, the longest wait where nothing is due
abbrev pub time_left : ℕ → Option ℕ → ℕ
time_left now None = longest
time_left now (Some due) = due - now

-- when the timer that goes first is due
abbrev pub first_due : List Timer → Option ℕ
first_due timers = option_map (λ t. t.due) (next_due timers)

-- how long a client may be waited for from the moment of its last event on: not at all once a step was refused
abbrev pub wait_of : Whole → ℕ
wait_of client = if client.failed then 0 else time_left client.now (first_due client.timers.set)

-- what an edge tells of its waits, after one more
abbrev pub after_wait : ℕ → Option (List ℕ) → Option (List ℕ)
after_wait most told = option_map (λ waits. waits ++ most ∷ []) told

-- An edge was told how long it may wait: it has kept that behind the waits before, or keeps what it did.
abbrev pub Waited : (most : ℕ) → (old new : Option (List ℕ)) → Type 0
Waited most old new = (new ≡ after_wait most old) ⊎ (new ≡ old)
