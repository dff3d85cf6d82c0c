use Rattle.resolv_conf.proofs.Parses.{not_long, not_unread, told_answer}
use Rattle.resolv_conf.proofs.conf.ResolvConf.parse.Goals as goal

pub returns-clause-answer : goal.returns-clause-answer
returns-clause-answer g c =
    told_answer (g.S.Source.left c.args.source.now) (g.S.Source.left c.read_to_end.new.source) c.in_ok-text.text.items c.args.self.now
    c.take_lines.new.self c.take_lines.result c.in_ok-text.ensures.fits c.in_ok-text.ensures.whole
    (rw c.deref.ensures.value at c.take_lines.ensures)

pub returns-clause-too_long : goal.returns-clause-too_long
returns-clause-too_long g c e = absurd (not_long _ _ _ _ _ c.take_lines.ensures e)

pub returns-clause-not_read : goal.returns-clause-not_read
returns-clause-not_read g c e = absurd (not_unread _ _ _ _ _ c.take_lines.ensures e)

pub returns-clause-failed : goal.returns-clause-failed
returns-clause-failed g c e = absurd (not_unread _ _ _ _ _ c.take_lines.ensures e)
