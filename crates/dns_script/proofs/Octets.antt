-- Reading octets from the left.
use Rattle.std.proofs.Common.{◌≡◌, ℕ, List, [], ◌∷◌, ◌++◌, Option, Some, None, refl, sym, ap, ◌∙◌, append_assoc, length, get_or, take, drop, ◌≤◌, ◌-◌, arith}
use Rattle.std.proofs.lemmas.List.{take_rest}
use Rattle.std.specs.Prelude.{option_map}
use Rattle.dns_script.specs.Reading.{octet_of, pairs, ◌>>=◌}

onto : (front : List ℕ) (octet : ℕ) (rest : Option (List ℕ)) → option_map (λ more. front ++ more) (option_map (λ octets. octet ∷ octets) rest) ≡ option_map (λ more. (front ++ octet ∷ []) ++ more) rest
onto front octet None = refl
onto front octet (Some more) = ap Some (sym (append_assoc front (octet ∷ []) more))

pairs_more : (front : List ℕ) (rest behind : List ℕ) (high low octet : ℕ) (all : Option (List ℕ)) → rest ≡ high ∷ low ∷ behind → octet_of high low ≡ Some octet → option_map (λ more. front ++ more) (pairs rest) ≡ all → option_map (λ more. (front ++ octet ∷ []) ++ more) (pairs behind) ≡ all
pairs_more front rest behind high low octet all e o h =
    let k : option_map (λ more. front ++ more) (octet_of high low >>= (λ octet. option_map (λ octets. octet ∷ octets) (pairs behind))) ≡ all = rw e at h in
    let m : option_map (λ more. front ++ more) (option_map (λ octets. octet ∷ octets) (pairs behind)) ≡ all = rw o at k in
    sym (onto front octet (pairs behind)) ∙ m

two_first : (rest : List ℕ) → 2 ≤ length rest → rest ≡ get_or rest 0 0 ∷ get_or rest 1 0 ∷ drop 2 rest
two_first [] h = absurd (omega arith)
two_first (a ∷ []) h = absurd (omega arith)
two_first (a ∷ b ∷ rest) h = refl

-- one octet more in front, and two digits fewer behind
pub pairs_two : (front : List ℕ) (rest : List ℕ) (octet : ℕ) (all : Option (List ℕ)) → 2 ≤ length rest → octet_of (get_or rest 0 0) (get_or rest 1 0) ≡ Some octet → option_map (λ more. front ++ more) (pairs rest) ≡ all → option_map (λ more. (front ++ octet ∷ []) ++ more) (pairs (take (length rest - 2) (drop 2 rest))) ≡ all
pairs_two front rest octet all long o h =
    rw (take_rest rest 2) (pairs_more front rest (drop 2 rest) (get_or rest 0 0) (get_or rest 1 0) octet all (two_first rest long) o h)
