-- The file at a path, in a map and in a list.
use Rattle.std.proofs.Common.{◌≡◌, ◌+◌, ℕ, suc, Bool, true, false, not, List, [], ◌∷◌, length, position, nat_lt, refl, ap, sym, ◌∙◌, cond, Option, Some, None, IfSome, IfNone, inr, string_bytes, String, arith}
use Rattle.std.specs.Option.{option_map}
use Rattle.std.specs.Str.{bytes_eq}
use Rattle.std.specs.List.{position_or_len}
use Rattle.std.proofs.lemmas.Bool.Decides.{nat_tests}
use Rattle.resolv_conf.specs.MemFiles.{IsShut, file_at, octets_at, paths_of}

octets_behind : {K : Type 0} (e : K × List ℕ) (es : List (K × List ℕ)) (k : ℕ) → octets_at (e ∷ es) (1 + k) ≡ octets_at es k
octets_behind e es k = let next : 1 + k ≡ suc k = omega arith in rw next refl

behind : {K : Type 0} (b : Bool) (e : K × List ℕ) (es : List (K × List ℕ)) (k : ℕ)
    → option_map (octets_at (e ∷ es)) (cond b (Some (1 + k)) None) ≡ option_map (octets_at es) (cond b (Some k) None)
behind true e es k = ap Some (octets_behind e es k)
behind false e es k = refl

next_place : {K : Type 0} (b : Bool) (e : K × List ℕ) (es : List (K × List ℕ)) (k n : ℕ) (found : Option (List ℕ))
    → option_map (octets_at es) (cond (nat_lt k n) (Some k) None) ≡ found
    → option_map (octets_at (e ∷ es)) (cond (nat_lt (cond (not b) (1 + k) 0) (suc n)) (Some (cond (not b) (1 + k) 0)) None) ≡ cond b (Some e.1) found
next_place true e es k n found h = let first : nat_lt 0 (suc n) ≡ true = grind (arith, nat_tests) in rw first refl
next_place false e es k n found h =
    let same : nat_lt (1 + k) (suc n) ≡ nat_lt k n = grind (arith, nat_tests) in
    rw same (behind (nat_lt k n) e es k ∙ h)

path_at : {Y : Type 0} (path : List ℕ) (es : List (String Y × List ℕ))
    → option_map (octets_at es) (position (λ e. bytes_eq path (string_bytes e.0)) es) ≡ file_at (paths_of es) path
path_at path [] = refl
path_at path (e ∷ es) =
    next_place (bytes_eq path (string_bytes e.0)) e es (position_or_len (λ e. bytes_eq path (string_bytes e.0)) es) (length es) (file_at (paths_of es) path) (path_at path es)

pub found_there : {Y : Type 0} (path : List ℕ) (es : List (String Y × List ℕ)) (place : Option ℕ)
    → place ≡ position (λ e. bytes_eq path (string_bytes e.0)) es
    → IfSome place (λ p. file_at (paths_of es) path ≡ Some (octets_at es p))
found_there path es None is = tt
found_there path es (Some p) is = sym (path_at path es) ∙ ap (option_map (octets_at es)) (sym is)

pub not_there : {Y : Type 0} (path : List ℕ) (es : List (String Y × List ℕ)) (place : Option ℕ) (call : ℕ) (fails : List ℕ)
    → place ≡ position (λ e. bytes_eq path (string_bytes e.0)) es
    → IfNone place (IsShut call fails (file_at (paths_of es) path))
not_there path es None call fails is = inr (sym (path_at path es) ∙ ap (option_map (octets_at es)) (sym is))
not_there path es (Some p) call fails is = tt
