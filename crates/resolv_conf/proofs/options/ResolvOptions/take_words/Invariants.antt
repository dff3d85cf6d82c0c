use Rattle.std.proofs.Common.{◌≡◌, length}
use Rattle.std.specs.Str.Iter.{split_whitespace_rest}
use Rattle.resolv_conf.specs.Options.{options_after}
use Rattle.resolv_conf.specs.Words.{words_of}
use Rattle.resolv_conf.proofs.options.ResolvOptions.take_words.Given as goal

abbrev pub invariant-loop-word : goal.invariant-loop-word
invariant-loop-word l =
    options_after (words_of (split_whitespace_rest l.words)) l.self ≡ options_after (words_of (split_whitespace_rest l.initial.words)) l.fn.self

abbrev pub decreases-loop-word : goal.decreases-loop-word
decreases-loop-word l = length (words_of (split_whitespace_rest l.words))
