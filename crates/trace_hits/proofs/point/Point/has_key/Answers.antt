use Rattle.std.proofs.Common.{sym, ◌∙◌}
use Rattle.number_table.specs.Entries.{entry_at}
use Rattle.trace_hits.proofs.Telling.{key_told}
use Rattle.trace_hits.proofs.point.Point.has_key.Goals as goal

pub returns-in-Some : goal.returns-in-Some
returns-in-Some c =
    let a = c.args in
    c.eq.ensures ∙ sym (key_told a.key.now (entry_at a.request a.self.now.requests.askings) c.in-Some.question (rw c.in-Some.is at c.in_ok-question_at.ensures))
