-- what the words that are left say stands behind the primaries so far
use Rattle.std.proofs.Common.{◌≤◌, ◌+◌, length}
use Rattle.std.specs.Str.Iter.{split_whitespace_rest}
use Rattle.resolv_conf.specs.Words.{words_of}
use Rattle.zone_list.proofs.Primaries.{Leads}
use Rattle.zone_list.proofs.primary.primaries_of.Given as goal

abbrev pub invariant-loop-word : goal.invariant-loop-word
invariant-loop-word l = record {
  counted : l.place + length (split_whitespace_rest l.words) ≤ 1 + length (split_whitespace_rest l.initial.words);
  leads : Leads (words_of (split_whitespace_rest l.initial.words)) l.primaries l.place (words_of (split_whitespace_rest l.words));
}

abbrev pub decreases-loop-word : goal.decreases-loop-word
decreases-loop-word l = length (split_whitespace_rest l.words)
