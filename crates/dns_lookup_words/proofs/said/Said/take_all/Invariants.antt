use Rattle.std.proofs.Common.{◌≡◌, ◌+◌, length, Result}
use Rattle.dns_lookup_words.specs.declared.said.Said.{Said}
use Rattle.dns_lookup_words.specs.declared.wrong.Refusal.{Refusal}
use Rattle.dns_lookup_words.specs.Words.{WordsGive}
use Rattle.dns_lookup_words.proofs.said.Said.take_all.Given as goal

abbrev pub invariant-loop-word : goal.invariant-loop-word
invariant-loop-word l = record {
  counted : l.at + length l.rest ≡ length l.words;
  follows : (answer : Result Said Refusal) → WordsGive l.at l.rest l.self answer → WordsGive 0 l.words l.fn.self answer;
}

abbrev pub decreases-loop-word : goal.decreases-loop-word
decreases-loop-word l = length l.rest
