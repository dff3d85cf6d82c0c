-- what the words that are left make of what is said is what all of them make of it
use Rattle.std.proofs.Common.{◌≡◌, ◌+◌, length, Result}
use Rattle.zone_fetch_run.specs.declared.command.Said.{Said}
use Rattle.zone_fetch_run.specs.declared.wrong.Refusal.{Refusal}
use Rattle.zone_fetch_run.specs.Words.{WordsGive}
use Rattle.zone_fetch_run.proofs.command.Said.take_all.Given as goal

abbrev pub invariant-loop-word : goal.invariant-loop-word
invariant-loop-word l = record {
  counted : l.at + length l.rest ≡ length l.words;
  follows : (answer : Result Said Refusal) → WordsGive l.at l.rest l.self answer → WordsGive 0 l.words l.fn.self answer;
}

abbrev pub decreases-loop-word : goal.decreases-loop-word
decreases-loop-word l = length l.rest
