-- Octets that are the spelling of a name but for case are a spelling of it.
use Rattle.std.proofs.Common.{◌≡◌, ℕ, suc, ◌+◌, ◌<◌, List, [], ◌∷◌, ◌++◌, length, take, refl, ap, ap₂, sym, ◌∙◌, arith, length-append, append_assoc}
use Rattle.std.specs.Prelude.{map}
use Rattle.std.specs.List.{AllByRecursion}
use Rattle.std.specs.Char.{to_ascii_lowercase}
use Rattle.std.proofs.lemmas.Bool.{lt-ltb}
use Rattle.std.proofs.lemmas.List.{map-append, length-map, append_cancel_left}
use Rattle.std.proofs.Math.Seq.{take-append-add, take-append_seam}
use Rattle.dns_names.specs.Name.{Labels, IsLabel, lowered, spelling}

abbrev low : List ℕ → List ℕ
low = map to_ascii_lowercase

small_low : (n : ℕ) → n < 64 → to_ascii_lowercase n ≡ n
small_low n lt = rw (lt-ltb n 65 (omega arith)) refl

pub spelled_alike : (ls ms : Labels) (more : List ℕ) → AllByRecursion IsLabel ls → AllByRecursion IsLabel ms
    → map to_ascii_lowercase (take (length (spelling ms)) (spelling ls ++ more)) ≡ map to_ascii_lowercase (spelling ms) → lowered ls ≡ lowered ms
spelled_alike [] [] more h g e = refl
spelled_alike [] (m ∷ ms) more h g e =
    let first : 0 ≡ to_ascii_lowercase (length m) = cc in
    absurd (omega (arith, first ∙ small_low (length m) g.0.1, g.0.0))
spelled_alike (l ∷ ls) [] more h g e =
    let first : to_ascii_lowercase (length l) ≡ 0 = cc in
    absurd (omega (arith, sym (small_low (length l) h.0.1) ∙ first, h.0.0))
spelled_alike (l ∷ ls) (m ∷ ms) more h g e =
    let first : to_ascii_lowercase (length l) ≡ to_ascii_lowercase (length m) = cc in
    let rest : low (take (length (m ++ spelling ms)) ((l ++ spelling ls) ++ more)) ≡ low (m ++ spelling ms) = cc in
    let count : length l ≡ length m = sym (small_low (length l) h.0.1) ∙ first ∙ small_low (length m) g.0.1 in
    let behind : List ℕ = take (length (spelling ms)) (spelling ls ++ more) in
    let n : length (m ++ spelling ms) ≡ length l + length (spelling ms) = omega (arith, length-append m (spelling ms), count) in
    let cut : take (length (m ++ spelling ms)) ((l ++ spelling ls) ++ more) ≡ l ++ behind =
    ap (λ k. take k ((l ++ spelling ls) ++ more)) n ∙ ap (take (length l + length (spelling ms))) (append_assoc l (spelling ls) more) ∙ take-append-add l (spelling ls ++ more) (length (spelling ms)) in
    let both : low l ++ low behind ≡ low m ++ low (spelling ms) = sym (map-append to_ascii_lowercase l behind) ∙ sym (ap low cut) ∙ rest ∙ map-append to_ascii_lowercase m (spelling ms) in
    let long : length (low l) ≡ length (low m) = length-map l to_ascii_lowercase ∙ count ∙ sym (length-map m to_ascii_lowercase) in
    let label : low l ≡ low m =
    sym (take-append_seam (low l) (low behind)) ∙ ap (λ k. take k (low l ++ low behind)) long ∙ ap (take (length (low m))) both ∙ take-append_seam (low m) (low (spelling ms)) in
    let others : low behind ≡ low (spelling ms) = append_cancel_left (low m) (low behind) (low (spelling ms)) (ap (λ x. x ++ low behind) (sym label) ∙ both) in
    ap₂ (λ (x : List ℕ) (xs : Labels). x ∷ xs) label (spelled_alike ls ms more h.1 g.1 others)
