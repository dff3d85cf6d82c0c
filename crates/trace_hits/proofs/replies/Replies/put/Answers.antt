use Rattle.std.proofs.Common.{refl, sym, ◌∙◌}
use Rattle.number_table.specs.Entries.{entry_at}
use Rattle.trace_hits.proofs.Telling.{on_ok, taken_told}
use Rattle.trace_hits.proofs.replies.Replies.put.Goals as goal

pub returns-in-Some : goal.returns-in-Some
returns-in-Some c =
    let a = c.args in
    on_ok c.take.result
    (λ t. taken_told a.cache.now a.request a.outcome.now a.point.now a.self.now c.take.new.self (entry_at a.request a.point.now.requests.askings) c.in-Some.question refl (sym c.is_marked.ensures ∙ c.if-is_marked.false) (rw c.in-Some.is at c.in_ok-question_at.ensures) t)
    c.take.ensures
