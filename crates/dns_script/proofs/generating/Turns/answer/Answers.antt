-- The answer for the first host comes by datagram, truncated, and by stream.
use Rattle.std.proofs.Common.{ap, sym, ◌∙◌, ◌+◌, ◌++◌}
use Rattle.std.proofs.lemmas.Result.{on_ok_weaker}
use Rattle.dns_script.specs.Generated.{by_datagram}
use Rattle.dns_script.proofs.Turning.{first_answered}
use Rattle.dns_script.proofs.generating.Turns.answer.Goals as goal

pub returns : goal.returns
returns c =
    on_ok_weaker c.stream.result
    (first_answered c.args.turn c.args.self.now c.datagram-2.new.self c.stream.new.self (sym c.host_of-host.ensures.host ∙ c.if-host-ne0.false)
    (c.in_ok-datagram.ensures
    ∙ ap (λ message. record c.args.self.now { place = c.args.self.now.place + 1; events = c.args.self.now.events ++ by_datagram c.args.turn c.args.self.now.place message }) c.in_ok-truncated_answer.ensures))
    c.stream.ensures
