-- The configuration of the servers that words name, or the one that a source gives.
use Rattle.std.proofs.Common.{◌≡◌, ◌==◌, ℕ, Bool, true, false, List, [], ◌∷◌, length, Option, None, Some, arith}
use Rattle.std.proofs.lemmas.Bool.Decides.{nat_tests}
use Rattle.std.specs.Prelude.{IfSome}
use Rattle.dns_values.specs.declared.address.IpAddr.{IpAddr}
use Rattle.resolver_policy.specs.declared.found.Found.{Found}
use Rattle.dns_lookup_run.specs.Conf.{HasSuffixesOf, IsBaseOf, IsReadyIn, named, with_suffixes}

pub source_base : (ips : List IpAddr) (searched : Bool) (told : Option (List ℕ)) (base : Found) → (length ips == 0) ≡ true
    → IfSome told (λ text. IsReadyIn text base) → IsBaseOf ips searched told base
source_base [] searched told base none h = h
source_base (ip ∷ ips) searched told base none h = let is : length (ip ∷ ips) ≡ 0 = grind (arith, nat_tests) in absurd (omega arith)

pub named_base : (ips : List IpAddr) (searched : Bool) (told : Option (List ℕ)) (base : Found) → (length ips == 0) ≡ false → searched ≡ false
    → base ≡ record { conf = named ips; notes = [] } → IsBaseOf ips searched told base
named_base [] searched told base some plain h = absurd (cc)
named_base (ip ∷ ips) false told base some plain h = h
named_base (ip ∷ ips) true told base some plain h = absurd (cc)

suffixes_in : (ips : List IpAddr) (told : Option (List ℕ)) (ready base : Found) → IfSome told (λ text. IsReadyIn text ready)
    → base ≡ record { conf = with_suffixes ready.conf (named ips); notes = ready.notes } → IfSome told (λ text. HasSuffixesOf text (named ips) base)
suffixes_in ips None ready base h is = tt
suffixes_in ips (Some text) ready base h is = record { ready = ready; is_ready = h; conf_is = cc; notes = cc }

pub searched_base : (ips : List IpAddr) (searched : Bool) (told : Option (List ℕ)) (ready base : Found) → (length ips == 0) ≡ false → searched ≡ true
    → IfSome told (λ text. IsReadyIn text ready) → base ≡ record { conf = with_suffixes ready.conf (named ips); notes = ready.notes } → IsBaseOf ips searched told base
searched_base [] searched told ready base some needed h is = absurd (cc)
searched_base (ip ∷ ips) false told ready base some needed h is = absurd (cc)
searched_base (ip ∷ ips) true told ready base some needed h is = suffixes_in (ip ∷ ips) told ready base h is
