-- What the marks of a vector say of the octets that it was loaded from.
use Rattle.std.proofs.Common.{◌≡◌, ◌+◌, ◌≤◌, ℕ, Bool, not, cond, List, [], ◌∷◌, length, map, replicate, ◌%◌, ◌^◌, refl, sym, ap, ◌∙◌, arith, w8}
use Rattle.std.specs.Simd.Lanes.{chunk, zip2, mask_l, top}
use Rattle.std.proofs.lemmas.Simd.{run_in_chunk_le, run_in_chunk_fails, run_in_chunk_stops, tops_compared, mask_l-mod}
use Rattle.std.proofs.lemmas.List.{length-map}
use Rattle.std.specs.List.{prefix_len}
use Rattle.dns_script.specs.Scan.{IsRunAt}

-- a run that was counted in a load
pub run_is : (test : ℕ → Bool) (octets : List ℕ) (from lanes run : ℕ) → from + lanes ≤ length octets → run ≡ prefix_len (λ x. not (test x)) (chunk from lanes octets) → IsRunAt test octets from lanes run
run_is test octets from lanes run room counted = record {
  within = run_in_chunk_le test octets from lanes run 0 room counted;
  before = run_in_chunk_fails test octets from lanes run 0 room counted;
  stops = run_in_chunk_stops test octets from lanes run 0 room counted;
}

splat_before : (t : ℕ → ℕ → Bool) (x : ℕ) (ys : List ℕ) → zip2 t (replicate (length ys) x) ys ≡ map (t x) ys
splat_before t x [] = refl
splat_before t x (y ∷ ys) = ap (λ rest. t x y ∷ rest) (splat_before t x ys)

-- the mask of a comparison whose first operand is a splat
pub mask_behind_splat : (t : ℕ → ℕ → Bool) (v : List ℕ) (lanes x : ℕ) → length v ≡ lanes → lanes ≤ 64 → mask_l (map (top 7) (zip2 (λ a b. cond (t a b) 255 0) (replicate lanes x) v)) % 2 ^ 64 ≡ mask_l (map (t x) v)
mask_behind_splat t v lanes x long few =
    ap (λ ms. mask_l ms % 2 ^ 64) (tops_compared w8 t (replicate lanes x) v ∙ ap (λ m. zip2 t (replicate m x) v) (sym long) ∙ splat_before t x v)
    ∙ mask_l-mod (map (t x) v) 64 (omega (arith, length-map v (t x)))
