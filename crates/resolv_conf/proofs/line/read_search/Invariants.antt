use Rattle.std.proofs.Common.{◌≡◌, ◌++◌, length}
use Rattle.std.specs.List.{list_any}
use Rattle.std.specs.Option.{option_map}
use Rattle.std.specs.Str.Iter.{split_whitespace_rest}
use Rattle.resolv_conf.specs.Line.{names_of, is_root}
use Rattle.resolv_conf.specs.Words.{words_of}
use Rattle.resolv_conf.proofs.line.read_search.Given as goal

abbrev pub invariant-loop-word : goal.invariant-loop-word
invariant-loop-word l = record {
  names : names_of (words_of (split_whitespace_rest l.initial.words)) ≡ option_map (λ ns. l.list ++ ns) (names_of (words_of (split_whitespace_rest l.words)));
  rooted : l.rooted ≡ list_any is_root l.list;
}

abbrev pub decreases-loop-word : goal.decreases-loop-word
decreases-loop-word l = length (words_of (split_whitespace_rest l.words))
