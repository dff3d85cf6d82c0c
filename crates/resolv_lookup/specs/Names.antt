-- The names that an address has.
use Rattle.std.specs.Prelude.{◌≡◌, ◌⊎◌, ℕ, List, [], ◌∷◌, Option, Some, Err, ◌==◌, if◌then◌else◌}
use Rattle.dns_names.specs.Name.{Labels}
use Rattle.dns_names.specs.Reverse.{reverse_labels}
use Rattle.dns_values.specs.declared.address.IpAddr.{IpAddr}
use Rattle.dns_base.specs.Data.{Data, One}
use Rattle.dns_base.specs.Message.{Known}
use Rattle.resolv_lookup.specs.declared.resolver.Asking.{Asking}
use Rattle.resolv_lookup.specs.Asked.{Got, asking, out_of_memory}
use Rattle.resolv_lookup.specs.Owned.{owned_records}

-- a name that data says, and those behind it; none where the data isn't read
abbrev pub named_then : Option Data → List Labels → List Labels
named_then (Some (One rtype target)) others = if rtype == 12 then target ∷ others else []
named_then _ others = []

-- the targets of PTR records in order, up to the first that can't be read
abbrev pub names_said : List Known → List Labels
names_said [] = []
names_said (known ∷ others) = if known.entry.rtype == 12 then named_then known.says (names_said others) else names_said others

-- the names that an answer gives
abbrev pub names_found : List ℕ → List Labels
names_found octets = names_said (owned_records octets)

-- The names of an address were looked up: its reverse name was asked for, and what that got is the result; or there was no
-- memory for that name, and nothing was asked.
abbrev pub LooksUpAddr : {R : Type 0} → (R → Asking → R → Type 0) → IpAddr → R → R → Got → Type 0
LooksUpAddr asks addr old new got = asks old (asking (reverse_labels addr) 12 got) new ⊎ ((got ≡ Err out_of_memory) × (new ≡ old))
