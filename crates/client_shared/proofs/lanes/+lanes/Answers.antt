use Rattle.std.proofs.Common.{◌≡◌, ◌+◌, ◌∷◌, refl, rules}
use Rattle.client_shared.proofs.LaneSteps.{lanes_from}
use Rattle.client_shared.proofs.lanes.+lanes.Goals as goal

pub run_from-returns : goal.run_from-returns
run_from-returns g t c =
    let p = c.in-Some.pass.now in
    let ps = c.in-Some.others.now in
    let q = c.first_and_rest-mine.new.pass in
    let qs = c.first_and_rest-mine.new.others in
    let old_is : c.args.passes.now ≡ p ∷ ps = search rules in
    lanes_from g.L.ClientKey.opening (g.T.Lanes.events c.args.lanes.now) c.args.first (c.args.first + 1) c.args.passes.now (q ∷ qs) p q ps qs
    c.first_and_rest-mine.result.0 c.first_and_rest-mine.result.1 c.joined.result
    c.joined.ensures c.first_and_rest-mine.ensures.mine c.first_and_rest-mine.ensures.theirs refl old_is refl
