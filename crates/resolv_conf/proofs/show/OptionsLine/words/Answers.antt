use Rattle.std.proofs.Common.{refl, ◌∙◌}
use Rattle.resolv_conf.specs.Show.{option_texts}
use Rattle.resolv_conf.proofs.Shows.{beside, timeout_word}
use Rattle.resolv_conf.proofs.show.OptionsLine.words.Goals as goal

pub returns : goal.returns
unfolding option_texts
returns c =
    beside c.number.ensures
    (beside (c.number-2.ensures ∙ timeout_word c.as_micros.result c.as_secs.result c.args.self.now.0.now.timeout c.as_micros.ensures.micros c.as_secs.ensures)
    (beside c.number-3.ensures
    (beside c.flag.ensures
    (beside c.flag-2.ensures
    (beside c.flag-3.ensures
    (beside c.flag-4.ensures
    (beside c.flag-5.ensures
    (beside c.flag-6.ensures
    (beside c.flag-7.ensures
    (beside c.flag-8.ensures
    (beside c.flag-9.ensures
    (beside c.flag-10.ensures
    (beside c.flag-11.ensures
    (beside c.flag-12.ensures
    (beside c.flag-13.ensures
    (beside c.flag-14.ensures
    (beside c.flag-15.ensures
    (beside c.flag-16.ensures
    (beside c.flag-17.ensures
    (beside c.flag-18.ensures refl))))))))))))))))))))
