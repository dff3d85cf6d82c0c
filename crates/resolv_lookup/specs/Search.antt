-- The search of a host by the suffixes that a resolver knows.
use Rattle.std.specs.Prelude.{◌≡◌, ◌⊎◌, List, [], ◌∷◌, ◌++◌, Result, Ok, Err, Bool, false, not, map, filter, nat_le, MatchBool}
use Rattle.dns_names.specs.Name.{Labels, octet_count}
use Rattle.resolv_lookup.specs.declared.fault.HostFault.{HostFault}
use Rattle.resolv_lookup.specs.declared.fault.HostFault.TheVariants.{NoMemory}
use Rattle.resolv_lookup.specs.declared.resolver.Asking.{Asking}
use Rattle.resolv_lookup.specs.Hosts.{Hosts, are_empty, LooksUpHost}

-- the name before each suffix, where it keeps within 255 octets
abbrev pub chained : Labels → List Labels → List Labels
chained name suffixes = filter (λ whole. nat_le (octet_count whole) 255) (map (λ suffix. name ++ suffix) suffixes)

-- a host was found, and its answers aren't empty
abbrev pub is_of_use : Result Hosts HostFault → Bool
is_of_use (Ok hosts) = not (are_empty hosts)
is_of_use (Err fault) = false

-- These names are looked up in order, up to the first lookup that is of use, which is the result; after them the last name.
abbrev pub Searches : {R : Type 0} → (R → Asking → Asking → R → Type 0) → Labels → List Labels → R → R → Result Hosts HostFault → Type 0
Searches asks_both last [] old new result = LooksUpHost asks_both last old new result
Searches {R} asks_both last (name ∷ others) old new result =
    (between : R) × (found : Result Hosts HostFault) × LooksUpHost asks_both name old between found
    × MatchBool (is_of_use found) ((new ≡ between) × (result ≡ found)) (Searches asks_both last others between new result)

-- The name was looked up behind each suffix, and else by itself; or there was no memory for these names, and nothing was asked.
abbrev pub SearchesHost : {R : Type 0} → (R → Asking → Asking → R → Type 0) → List Labels → Labels → R → R → Result Hosts HostFault → Type 0
SearchesHost asks_both suffixes name old new result = Searches asks_both name (chained name suffixes) old new result ⊎ ((result ≡ Err NoMemory) × (new ≡ old))
