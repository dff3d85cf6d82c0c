-- What a client put out while a lookup was asked.
use Rattle.std.specs.Prelude.{◌≡◌, ℕ, ◌+◌, List, [], ◌∷◌, ◌++◌, Option, Result, IfOk, IsErrOf}
use Rattle.client_core.specs.declared.edge.Deed.{Deed}
use Rattle.client_loop.specs.Asking.{Scene, StopsForNumbers, between, rows_of, scene}
use Rattle.client_request.specs.Request.{Request}
use Rattle.client_request.specs.declared.error.Error.{Error}
use Rattle.client_request.specs.declared.error.Error.TheVariants.{NumbersUsed}
use Rattle.client_request.specs.declared.event.Row.{Row}
use Rattle.client_steps.specs.Whole.{Whole}
use Rattle.dns_record.specs.Asking.{IsAnsweredAnd}
use Rattle.dns_lookup_pages.specs.declared.short.Lacking.{Lacking}
use Rattle.dns_lookup_run.specs.Asking.{Answer, request_for}
use Rattle.dns_lookup_run.specs.Search.{tries_of}
use Rattle.dns_lookup_run.specs.Walks.{Walks}
use Rattle.dns_lookup_run.specs.declared.search.Try.{Try}
use Rattle.dns_lookup_run.specs.Watched.{Seen, Times, on}
use Rattle.dns_lookup_run.specs.Worlds.{World, begun}
use Rattle.dns_lookup_run.specs.declared.asking.Outcome.{Outcome}
use Rattle.dns_lookup_words.specs.declared.lookup.Lookup.{Lookup}
use Rattle.dns_lookup_words.specs.declared.manner.Ask.{Ask}
use Rattle.resolv_conf.specs.declared.conf.ResolvConf.{ResolvConf}

-- A request was asked and answered so, and of the rows that the client put out for it this is told.
abbrev pub AskedBy : {E C A : Type 0} → (E → Option (List Deed)) → (E → Option (List ℕ)) → (E → ℕ) → (C → Option (List ℕ)) → (A → ℕ → ℕ) → (A → Whole → List Row → A → Whole → Type 0) → (old new : Whole × E × C × A)
    → ℕ → Request → Answer → Type 0
AskedBy deeds waits polls given stream made old new number request answer =
    between deeds waits polls given stream old new (IsAnsweredAnd (λ rows. made old.3 old.0 rows new.3 new.0) number 1000000 request answer)

-- the same of what a call gave
abbrev pub AskedIf : {E C A : Type 0} → Result Answer Error → (E → Option (List Deed)) → (E → Option (List ℕ)) → (E → ℕ) → (C → Option (List ℕ)) → (A → ℕ → ℕ) → (A → Whole → List Row → A → Whole → Type 0) → (old new : Whole × E × C × A)
    → ℕ → Request → Type 0
AskedIf result deeds waits polls given stream made old new number request = IfOk result (AskedBy deeds waits polls given stream made old new number request)

-- A call that finds no number left stopped for that.
abbrev pub StopsIf : {E C A : Type 0} → Result Answer Error → (E → Option (List Deed)) → (E → Option (List ℕ)) → (E → ℕ) → (C → Option (List ℕ)) → (A → ℕ → ℕ) → (old new : Whole × E × C × A) → Request → Type 0
StopsIf result deeds waits polls given stream old new request = IsErrOf result NumbersUsed → between deeds waits polls given stream old new (StopsForNumbers request)

-- the same of an ask, by what a watched edge and a watched clock tell
abbrev pub GaveBy : {E C A : Type 0} → (E → Option (List Deed)) → (E → Option (List ℕ)) → (E → ℕ) → (C → Option (List ℕ)) → (A → ℕ → ℕ) → (A → Whole → List Row → A → Whole → Type 0) → (old new : Whole × Seen E × Times C × A)
    → Ask → ℕ → Answer → Type 0
GaveBy deeds waits polls given stream made old new ask number answer =
    on deeds waits polls given stream old new (IsAnsweredAnd (λ rows. made old.3 old.0 rows new.3 new.0) number 1000000 (request_for ask) answer)

-- the same of what a call gave
abbrev pub GaveIf : {E C A : Type 0} → Result Outcome Error → (E → Option (List Deed)) → (E → Option (List ℕ)) → (E → ℕ) → (C → Option (List ℕ)) → (A → ℕ → ℕ) → (A → Whole → List Row → A → Whole → Type 0)
    → (old new : Whole × Seen E × Times C × A) → Ask → ℕ → Type 0
GaveIf result deeds waits polls given stream made old new ask number = IfOk result (λ c. GaveBy deeds waits polls given stream made old new ask number c.answer)

-- Asks are asked for one after another, from the request of this number on, each was answered so, and these are the rows, of which this is told.
pub data AreMade {A : Type 0} (made : A → Whole → List Row → A → Whole → Type 0) : ℕ → List Ask → List Answer → List Row → (first last : A) → Scene → Scene → Type 0 where
  none_made : (n : ℕ) (a : A) (s : Scene) → AreMade made n [] [] [] a a s s
  one_made : (n : ℕ) (ask : Ask) (asks : List Ask) (answer : Answer) (answers : List Answer) (rows all : List Row) (a b c : A) (old mid new : Scene)
      → (is : IsAnsweredAnd (λ rows. made a old.client rows b mid.client) n 1000000 (request_for ask) answer old mid) → AreMade made (n + 1) asks answers rows b c mid new
      → all ≡ rows_of is.answered.asked.asking is.answered.asked.turns ++ rows → AreMade made n (ask ∷ asks) (answer ∷ answers) all a c old new

-- A new client, whose edge learned the servers of a configuration, was asked what a lookup asks, or the first of it, and put these rows out.
pub record IsMadeFor {A : Type 0} (made : A → Whole → List Row → A → Whole → Type 0) (lookup : Lookup) (conf : ResolvConf) (first last : A) (old new : World) : Type 0 where
  pub asks : List Ask
  pub answers : List Answer
  pub lack : Option Lacking
  pub later : List Try
  pub walks : Walks (tries_of lookup.search conf.options lookup.asks) asks answers lack later
  pub rows : List Row
  pub left : Whole
  pub waits : Option (List ℕ)
  pub later_waits : Option (List ℕ)
  pub are_made : AreMade made 0 asks answers rows first last (begun lookup conf old waits) (scene left new.words new.deeds later_waits new.polls new.moments)
