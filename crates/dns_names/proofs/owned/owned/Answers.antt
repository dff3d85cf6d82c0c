use Rattle.std.proofs.Common.{◌≡◌, [], ◌∙◌}
use Rattle.dns_names.specs.Name.{spelling}
use Rattle.dns_names.proofs.OwnOctets.{own_spelled}
use Rattle.dns_names.proofs.owned.owned.Goals.{In_ok-push}
use Rattle.dns_names.proofs.owned.owned.Goals as goal

written : (c : In_ok-push) → c.push.new.self.items ≡ spelling c.args.name.now
written c =
    let rest : c.loop-label.label-iterator ≡ [] = c.in-None.ensures.steps.0 in
    c.in_ok-push.ensures.items ∙ (rw rest at c.loop-label.invariant.same)

pub invariant_of-result : goal.invariant_of-result
invariant_of-result c = (own_spelled c.args.name.now _ (written c) c.labels-label-items.ensures.legal).0

pub returns : goal.returns
returns c = (own_spelled c.args.name.now _ (written c) c.labels-label-items.ensures.legal).1
