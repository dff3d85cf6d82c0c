use Rattle.std.proofs.Common.{take}
use Rattle.std.specs.List.{flat_map}
use Rattle.std.specs.Fmt.{HasWritten, IsPlainFormatter}
use Rattle.resolv_conf.specs.Show.{shown_text}
use Rattle.resolv_conf.specs.OptionWord.{shown_word}
use Rattle.resolv_conf.proofs.show.write_words.Given as goal

abbrev pub invariant-loop-word : goal.invariant-loop-word
invariant-loop-word g l =
    IsPlainFormatter l.fn.f → HasWritten g.W.Write.write_str_gives l.fn.f (flat_map (λ w. shown_text (shown_word w)) (take l.word-index l.words)) l.f
