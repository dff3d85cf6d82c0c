-- A search, one name after another.
use Rattle.std.proofs.Common.{◌≡◌, ℕ, ◌+◌, ◌<◌, Bool, true, false, List, ◌∷◌, length, drop, get_or, Result, Ok, Err, refl, sym, subst, ◌≤◌, add-one, drop-cons, MatchBool, IfErr}
use Rattle.std.proofs.Math.ListN.{drop_of_length-le}
use Rattle.dns_names.specs.Name.{Labels}
use Rattle.resolv_lookup.specs.declared.fault.HostFault.{HostFault}
use Rattle.resolv_lookup.specs.declared.resolver.Asking.{Asking}
use Rattle.resolv_lookup.specs.Hosts.{Hosts, LooksUpHost}
use Rattle.resolv_lookup.specs.Search.{Searches, is_of_use}

-- the names from a place on
from_place : (names : List Labels) (i : ℕ) (name : Labels) → i < length names → name ≡ get_or names i name → name ∷ drop (i + 1) names ≡ drop i names
from_place names i name lt is = rw (add-one, drop-cons names i name, ← is)

module _ {R : Type 0} (asks_both : R → Asking → Asking → R → Type 0) where
  -- A lookup that is of no use is passed.
  pub passes : (last name : Labels) (names : List Labels) (i : ℕ) (old between new : R) (found result : Result Hosts HostFault)
      → i < length names → name ≡ get_or names i name → LooksUpHost asks_both name old between found → is_of_use found ≡ false
      → Searches asks_both last (drop (i + 1) names) between new result → Searches asks_both last (drop i names) old new result
  passes last name names i old between new found result lt is looked none rest =
      subst (λ (left : List Labels). Searches asks_both last left old new result) (from_place names i name lt is)
      (between, found, looked, subst (λ (b : Bool). MatchBool b ((new ≡ between) × (result ≡ found)) (Searches asks_both last (drop (i + 1) names) between new result)) (sym none) rest)

  -- One that is of use ends the search.
  pub finds : (last name : Labels) (names : List Labels) (i : ℕ) (old new : R) (found : Result Hosts HostFault)
      → i < length names → name ≡ get_or names i name → LooksUpHost asks_both name old new found → is_of_use found ≡ true
      → Searches asks_both last (drop i names) old new found
  finds last name names i old new found lt is looked some =
      subst (λ (left : List Labels). Searches asks_both last left old new found) (from_place names i name lt is)
      (new, found, looked, subst (λ (b : Bool). MatchBool b ((new ≡ new) × (found ≡ found)) (Searches asks_both last (drop (i + 1) names) new new found)) (sym some) (refl, refl))

  -- Where no name is left, the last one is looked up.
  pub ends : (last : Labels) (names : List Labels) (i : ℕ) (old new : R) (result : Result Hosts HostFault)
      → length names ≤ i → LooksUpHost asks_both last old new result → Searches asks_both last (drop i names) old new result
  ends last names i old new result le looked =
      subst (λ (left : List Labels). Searches asks_both last left old new result) (sym (drop_of_length-le names le)) looked

-- What is of use is no fault.
pub uses_no_fault : (found : Result Hosts HostFault) (P : HostFault → Type 0) → is_of_use found ≡ true → IfErr found P
uses_no_fault (Ok hosts) P some = tt
uses_no_fault (Err fault) P some = absurd (cc)
