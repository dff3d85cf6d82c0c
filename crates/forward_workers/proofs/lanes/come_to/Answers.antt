use Rattle.std.proofs.Common.{rules, ◌≡◌, ◌+◌, Ok}
use Rattle.forward_workers.proofs.lanes.come_to.Goals as goal

pub returns-in-Some : goal.returns-in-Some
returns-in-Some g c =
    let sum : c.in-Some.answered ≡ c.in_ok-mine.field-0 + c.in_ok-answered.field-0.answered = search rules in
    let first : c.args.mine ≡ Ok c.in_ok-mine.field-0 = search rules in
    record { mine = c.in_ok-mine.field-0; others = c.in_ok-answered.field-0.answered; answered_is = sum; first_is = first; settled = c.in_ok-answered.ensures }
