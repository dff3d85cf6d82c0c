-- The row asks: its hits are messages for the next request.
use Rattle.std.proofs.Common.{ap, ◌∙◌, ◌+◌}
use Rattle.std.specs.List.{count_by}
use Rattle.dns_script.specs.Summary.{is_ask, is_ok_of, with_outs}
use Rattle.dns_script.proofs.Counts.{row_asked}
use Rattle.dns_script.proofs.summary.Summary.add_row.Goals as goal

pub returns-in_ok-self-3 : goal.returns-in_ok-self-3
returns-in_ok-self-3 c =
    row_asked c.args.row.now c.args.self.now c.add_outs.new.self c.in_ok-self-3.field-0 c.in_ok-self-2.field-0 (ap is_ask c.in-Ask.is)
    (c.in_ok-add_outs.ensures ∙ ap (λ outs. with_outs outs (record c.args.self.now { rows = c.in_ok-self.field-0 })) c.as_slice.ensures ∙ ap (λ rows. with_outs c.args.row.now.outs (record c.args.self.now { rows = rows })) c.in_ok-self.ensures)
    (c.in_ok-self-2.ensures ∙ ap (λ more. c.add_outs.new.self.hits + more) (c.hits.ensures ∙ ap (λ outs. count_by (is_ok_of c.add_outs.new.self.asks) outs) c.as_slice-in-Ask.ensures))
    c.in_ok-self-3.ensures
