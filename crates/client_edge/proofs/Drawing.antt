-- A word that is drawn, and those behind it.
use Rattle.std.proofs.Common.{ap, sym, ◌∙◌, ◌≡◌, ◌<◌, ◌%◌, ◌^◌, ℕ, suc, ◌+◌}
use Rattle.std.proofs.Math.Nat.{mod-eq_of_lt}
use Rattle.rand_core.specs.Stream.{Stream, next_u64}
use Rattle.client_edge.specs.RandWords.{words_of}
use native.Mathlib.Numerals.{unary_clauses}

pub first-word : (s t : Stream) (w : ℕ) → w < 2 ^ 64 → (w, t) ≡ next_u64 s → w ≡ words_of s 0
unfolding next_u64
first-word s t w fits e = sym (mod-eq_of_lt fits) ∙ ap (λ p. p.0 % 2 ^ 64) e

pub other-words : (s t : Stream) (w : ℕ) → (w, t) ≡ next_u64 s → words_of t ≡ (λ k. words_of s (k + 1))
unfolding next_u64
other-words s t w e = let h : words_of t ≡ (λ k. words_of s (suc k)) = ap (λ p. words_of p.1) e in simp unary_clauses h
