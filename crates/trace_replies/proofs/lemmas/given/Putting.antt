-- A reply that is put is kept, where it is told what its request asks.
use Rattle.std.proofs.Common.{◌≡◌, ℕ, sym, subst}
use Rattle.std.specs.Prelude.{Option, Some, Result, Ok, Err, OnOk}
use Rattle.number_table.specs.Entries.{entry_at}
use Rattle.right_trace.specs.Requests.{Asking}
use Rattle.right_trace.specs.Keys.{Key, key_of}
use Rattle.trace_tables.specs.declared.requests.Requests.{Requests}
use Rattle.trace_replies.specs.declared.given.asks.Asks.{Asks}
use Rattle.trace_replies.specs.declared.given.earlier.Earlier.{Earlier}
use Rattle.trace_replies.specs.given.Asks.{common, IsAsked, IsTold}
use Rattle.trace_replies.specs.given.Earlier.{Outcome, Table, Adds, Keeps, Kept}

module _ (r : Requests) (k : ℕ) (x copy : Outcome) (old now new : Table) (a : Asking) (its : Asks) where
  abbrev given : Outcome → Earlier
  given y = record { request = k; flags = its.flags; moment = r.clock; outcome = y }

  kept : Some a ≡ entry_at k r.askings → IsAsked a.request its → copy ≡ x → now ≡ old → Adds its.key (given copy) now new → Keeps r k x old new
  kept is asked same before adds =
      Kept a its.flags (sym is) asked.cacheable asked.flags
      (subst (λ (y : Outcome). Adds (common (key_of a.request)) (given y) old new) same
      (subst (λ (t : Table). Adds (common (key_of a.request)) (given copy) t new) before
      (subst (λ (q : Key). Adds q (given copy) now new) asked.key adds)))

  pub kept_told : {T E : Type 0} (added : Result T E) (told : Option Asks) → Some a ≡ entry_at k r.askings → IsTold a.request told → told ≡ Some its → copy ≡ x → now ≡ old → OnOk added (Adds its.key (given copy) now new) → OnOk added (Keeps r k x old new)
  kept_told (Ok u) told is asks some same before adds = kept is (subst (IsTold a.request) some asks) same before adds
  kept_told (Err e) told is asks some same before adds = tt
