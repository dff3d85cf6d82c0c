-- What is told where no zone is written.
use Rattle.std.proofs.Common.{◌≡◌, ◌≢◌, ◌⊎◌, inl, inr, ℕ, List, [], ◌∷◌, length, Option, refl, ap, sym, subst, ◌∙◌, arith}
use Rattle.command_parts.specs.Ends.{IsBegun, IsSaid}
use Rattle.dns_values.specs.Sink.{with_octets}
use Rattle.dns_values.specs.Source.{Rose}
use Rattle.dns_values.specs.declared.numbers.Status.{Status}
use Rattle.zone_fetch_run.specs.Stops.{Tells}

pub tells_nothing : (line : List ℕ) (held : Option (List ℕ)) (faults faults_after : ℕ) → length line ≡ 0 → Tells line held held faults faults_after
tells_nothing [] held faults faults_after h = refl
tells_nothing (c ∷ line) held faults faults_after h = absurd (omega arith)

pub tells_line : (line : List ℕ) (before after : Option (List ℕ)) (faults faults_after : ℕ) → length line ≢ 0 → IsSaid line before after faults faults_after → Tells line before after faults faults_after
tells_line [] before after faults faults_after h said = absurd (h refl)
tells_line (c ∷ line) before after faults faults_after h said = said

-- the same of another spelling of the line
pub said_as : (line other : List ℕ) (before after : Option (List ℕ)) (faults faults_after : ℕ) → line ≡ other → IsSaid line before after faults faults_after → IsSaid other before after faults faults_after
said_as line other before after faults faults_after same said = subst (λ (l : List ℕ). IsSaid l before after faults faults_after) same said

-- a line that was written whole, or whose sink failed
said_unless : (n : ℕ) (line : List ℕ) (before after : Option (List ℕ)) (faults faults_after : ℕ) → IsBegun line before after → (n ≡ 0 → after ≡ with_octets line before)
    → (n ≡ 4 → Rose faults faults_after) → (n ≡ 0) ⊎ ((n ≡ 4) ⊎ (n ≡ 6)) → n ≢ 6 → IsSaid line before after faults faults_after
said_unless n line before after faults faults_after begun whole failed (inl zero) no_six = record { begun = begun; whole_or_fault = inl (whole zero) }
said_unless n line before after faults faults_after begun whole failed (inr (inl four)) no_six = record { begun = begun; whole_or_fault = inr (failed four) }
said_unless n line before after faults faults_after begun whole failed (inr (inr six)) no_six = absurd (no_six six)

pub tells_unless : (line other : List ℕ) (before after : Option (List ℕ)) (faults faults_after n : ℕ) → length line ≢ 0 → line ≡ other → IsBegun line before after → (n ≡ 0 → after ≡ with_octets line before)
    → (n ≡ 4 → Rose faults faults_after) → (n ≡ 0) ⊎ ((n ≡ 4) ⊎ (n ≡ 6)) → n ≢ 6 → Tells other before after faults faults_after
tells_unless line other before after faults faults_after n some same begun whole failed others no_six =
    subst (λ (l : List ℕ). Tells l before after faults faults_after) same (tells_line line before after faults faults_after some (said_unless n line before after faults faults_after begun whole failed others no_six))

-- other statuses than the one at which a file can't be read
pub no_three : (n : ℕ) → (n ≡ 5) ⊎ ((n ≡ 6) ⊎ ((n ≡ 7) ⊎ (n ≡ 9))) → n ≡ 3 → ⊥
no_three n (inl a) e = omega arith
no_three n (inr (inl a)) e = omega arith
no_three n (inr (inr (inl a))) e = omega arith
no_three n (inr (inr (inr a))) e = omega arith

-- they are other statuses than 0 too
pub no_zero : (n : ℕ) → (n ≡ 5) ⊎ ((n ≡ 6) ⊎ ((n ≡ 7) ⊎ (n ≡ 9))) → n ≢ 0
no_zero n (inl a) e = omega arith
no_zero n (inr (inl a)) e = omega arith
no_zero n (inr (inr (inl a))) e = omega arith
no_zero n (inr (inr (inr a))) e = omega arith

pub some_told : (r s : Status) → (r ≡ s) ⊎ (r.0 ≡ 6) → s.0 ≢ 0 → r.0 ≢ 0
some_told r s (inl a) some e = some (ap (λ (x : Status). x.0) (sym a) ∙ e)
some_told r s (inr a) some e = absurd (let b : r.0 ≡ 6 = a in omega arith)

pub same_three : (r s : Status) → (r ≡ s) ⊎ (r.0 ≡ 6) → r.0 ≡ 3 → s.0 ≡ 3
same_three r s (inl a) e = ap (λ (x : Status). x.0) (sym a) ∙ e
same_three r s (inr a) e = absurd (let b : r.0 ≡ 6 = a in omega arith)

-- one status more
pub nine_more : (n : ℕ) → (n ≡ 5) ⊎ ((n ≡ 6) ⊎ (n ≡ 7)) → (n ≡ 5) ⊎ ((n ≡ 6) ⊎ ((n ≡ 7) ⊎ (n ≡ 9)))
nine_more n (inl a) = inl a
nine_more n (inr (inl a)) = inr (inl a)
nine_more n (inr (inr a)) = inr (inr (inl a))

-- a status that is told of, and is not 0
pub told_of : (r s : Status) → (r ≡ s) ⊎ (r.0 ≡ 6) → s.0 ≢ 0 → (r ≡ s) ⊎ ((s.0 ≢ 0) × (r.0 ≡ 6))
told_of r s (inl a) some = inl a
told_of r s (inr a) some = inr (some, a)
