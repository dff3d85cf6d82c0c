use Rattle.std.proofs.Common.{List, ◌++◌, ap, ap₂, sym, ◌∙◌}
use Rattle.front_peers.specs.Items.{Streams}
use Rattle.front_peers.specs.declared.event.FrontOut.{FrontOut}
use Rattle.front_steps.specs.Waiting.{Waits}
use Rattle.front_steps.specs.declared.putting.Desk.{Desk}
use Rattle.front_steps.proofs.Passing.{replied}
use Rattle.front_steps.proofs.putting.put_asked.Goals as goal

pub returns-clause-outs : goal.returns-clause-outs
returns-clause-outs c =
    c.in_ok-answer_one.ensures.outs
    ∙ ap (λ (p : List FrontOut × Desk). c.args.outs.now ++ p.0)
    (sym (replied c.args.asker c.in-Some.reply.now c.in_ok-number.number c.args.desk.now c.args.from c.in-Some.ensures c.in_ok-number.ensures.next))

pub returns-clause-desk : goal.returns-clause-desk
returns-clause-desk c =
    ap₂ (λ (waits : Waits) (streams : Streams). record { waits = waits; streams = streams }) c.in_ok-pass.ensures.ok c.in_ok-answer_one.ensures.streams
    ∙ ap (λ (p : List FrontOut × Desk). p.1)
    (sym (replied c.args.asker c.in-Some.reply.now c.in_ok-number.number c.args.desk.now c.args.from c.in-Some.ensures c.in_ok-number.ensures.next))
