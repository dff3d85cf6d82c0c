use Rattle.resolv_conf.proofs.Lines.{cut_line, last_line}
use Rattle.zone_list.proofs.words.split_line.Goals as goal

pub returns-in-Some-clause-first : goal.returns-in-Some-clause-first
returns-in-Some-clause-first c = cut_line c.args.text.now c.in-Some.end c.in-Some.ensures

pub returns-in-None-clause-first : goal.returns-in-None-clause-first
returns-in-None-clause-first c = last_line c.args.text.now c.requires c.in-None.ensures
