use Rattle.std.proofs.Common.{length}
use Rattle.std.specs.Str.Iter.{split_whitespace_rest}
use Rattle.resolv_conf.specs.Words.{words_of}
use Rattle.resolver_policy.specs.Found.{ReadsOptions}
use Rattle.resolver_policy.specs.declared.found.Found.{Found}
use Rattle.resolver_policy.proofs.found.Found.read_options.Given as goal

abbrev pub invariant-loop-word : goal.invariant-loop-word
invariant-loop-word l =
    (new : Found) → ReadsOptions l.number (words_of (split_whitespace_rest l.words)) l.self new
    → ReadsOptions l.number (words_of (split_whitespace_rest l.initial.words)) l.fn.self new

abbrev pub decreases-loop-word : goal.decreases-loop-word
decreases-loop-word l = length (words_of (split_whitespace_rest l.words))
