use Rattle.resolv_conf.specs.Show.{options_text}
use Rattle.resolv_conf.proofs.show.OptionsLineDisplay.fmt.Goals as goal

pub returns-clause-writes : goal.returns-clause-writes
unfolding options_text
returns-clause-writes g c = rw (← c.words.ensures) c.write_options.ensures
