-- what the words that are left make of what is said is what all of them make of it
use Rattle.std.proofs.Common.{◌+◌, ◌≤◌, Result, length}
use Rattle.forward_words.specs.Options.{OptionsGive, Words}
use Rattle.forward_words.specs.declared.options.Options.{Options}
use Rattle.forward_words.specs.declared.wrong.Refusal.{Refusal}
use Rattle.forward_words.proofs.taking.take_all.Given as goal

abbrev pub invariant-loop-name : goal.invariant-loop-name
invariant-loop-name l = record {
  counted : l.at + length l.rest ≤ 1 + length l.words;
  follows : (answer : Result (Options × Words) Refusal) → OptionsGive l.at l.rest l.options answer → OptionsGive 1 l.words l.fn.options answer;
}

abbrev pub decreases-loop-name : goal.decreases-loop-name
decreases-loop-name l = length l.rest
