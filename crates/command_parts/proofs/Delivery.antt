-- What is written of a line.
use Rattle.std.proofs.Common.{arith, ◌≡◌, inl, inr, ℕ, List, take, length, Option, subst, sym}
use Rattle.std.proofs.lemmas.List.{take_all}
use Rattle.dns_values.specs.Sink.{with_octets}
use Rattle.dns_values.specs.Source.{Rose}
use Rattle.command_parts.specs.Ends.{IsBegun, IsSaid}

take_whole : (xs : List ℕ) → take (length xs) xs ≡ xs
take_whole xs = take_all (length xs) xs (omega (arith))

pub begun_whole : (line : List ℕ) (before after : Option (List ℕ)) → after ≡ with_octets line before → IsBegun line before after
begun_whole line before after whole =
    record { count = length line; written = subst (λ (xs : List ℕ). after ≡ with_octets xs before) (sym (take_whole line)) whole }

pub begun_front : (line : List ℕ) (before after : Option (List ℕ)) → ((n : ℕ) × (after ≡ with_octets (take n line) before)) → IsBegun line before after
begun_front line before after front = record { count = front.0; written = front.1 }

pub said_whole : (line : List ℕ) (before after : Option (List ℕ)) (faults faults_after : ℕ) → after ≡ with_octets line before → IsSaid line before after faults faults_after
said_whole line before after faults faults_after whole = record { begun = begun_whole line before after whole; whole_or_fault = inl whole }

pub said_front : (line : List ℕ) (before after : Option (List ℕ)) (faults faults_after : ℕ) → ((n : ℕ) × (after ≡ with_octets (take n line) before)) → Rose faults faults_after → IsSaid line before after faults faults_after
said_front line before after faults faults_after front rose = record { begun = begun_front line before after front; whole_or_fault = inr rose }

-- the same of another spelling of the line
pub begun_line : (line other : List ℕ) (before after : Option (List ℕ)) → IsBegun line before after → line ≡ other → IsBegun other before after
begun_line line other before after h same = subst (λ (l : List ℕ). IsBegun l before after) same h

pub said_line : (line other : List ℕ) (before after : Option (List ℕ)) (faults faults_after : ℕ) → IsSaid line before after faults faults_after → line ≡ other → IsSaid other before after faults faults_after
said_line line other before after faults faults_after h same = subst (λ (l : List ℕ). IsSaid l before after faults faults_after) same h
