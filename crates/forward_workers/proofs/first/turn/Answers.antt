use Rattle.std.proofs.Common.{rules, List, ◌≡◌, ◌+◌, ap, ◌∙◌}
use Rattle.std.specs.Prelude.{count_by}
use Rattle.front_peers.specs.declared.event.FrontOut.{FrontOut}
use Rattle.forward_run.specs.Front.{acts_on, after_deeds}
use Rattle.forward_run.specs.Turns.{is_answer}
use Rattle.forward_workers.proofs.Firsts.{turned}
use Rattle.forward_workers.proofs.first.turn.Goals as goal

pub returns-in-Some : goal.returns-in-Some
returns-in-Some g c =
    let count : c.in-Some.answered ≡ count_by is_answer c.in-Ok.receipt.before + count_by is_answer c.in-Ok.receipt.row.outs = search rules in
    turned c.args.pass.now c.submit.new.pass _ c.in-Ok.receipt c.in_ok-polled.polled _ _ _ _ _ c.in-Some.answered
    c.in-Ok.ensures.ok c.requires c.happened.ensures c.wait.ensures.deeds c.in_ok-polled.ensures.deeds
    (c.in_ok-before.ensures.deeds ∙ ap (λ (outs : List FrontOut). after_deeds (acts_on outs) (g.F.Front.deeds c.poll.new.self)) c.as_slice.ensures)
    (c.in_ok-own.ensures.deeds ∙ ap (λ (outs : List FrontOut). after_deeds (acts_on outs) (g.F.Front.deeds c.act_on.new.front)) c.as_slice-2.ensures)
    count
