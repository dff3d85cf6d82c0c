-- the numbers so far, and those of the words that are left, are those of all words
use Rattle.std.proofs.Common.{◌≡◌, ◌++◌, length}
use Rattle.std.specs.Prelude.{option_map}
use Rattle.dns_script.specs.Reading.{numbers_of}
use Rattle.dns_script.proofs.script_lines.add_numbers.Given as goal

abbrev pub invariant-loop-numbers : goal.invariant-loop-numbers
invariant-loop-numbers l =
    option_map (λ more. l.numbers ++ more) (numbers_of l.words) ≡ option_map (λ more. l.fn.numbers ++ more) (numbers_of l.fn.words)

abbrev pub decreases-loop-numbers : goal.decreases-loop-numbers
decreases-loop-numbers l = length l.words
