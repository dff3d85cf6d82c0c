use Rattle.std.proofs.Common.{◌≡◌, [], rules}
use Rattle.stub_resolver.specs.All.{all_found}
use Rattle.stub_resolver.proofs.AllReplying.{found_all, found_more}
use Rattle.stub_resolver.proofs.lookups.all_found.Goals as goal

pub loop-a-preserved : goal.loop-a-preserved
loop-a-preserved g c =
    found_more (all_found c.args.gots.items) c.loop-a.found.items c.push.new.self.items c.loop-a.left.items c.pop_front.new.self.items c.pop_front-in-Some.new.self.items c.in-Some.a c.in-Some-pop_front.aaaa c.new.result
    c.loop-a.invariant c.in-Some.ensures.items c.in-Some-pop_front.ensures.items c.new.ensures c.in_ok-push-in-Some-pop_front.ensures.items

pub returns : goal.returns
returns g c =
    let none : c.loop-a.left.items ≡ [] = search rules in
    found_all (all_found c.args.gots.items) c.loop-a.found.items c.loop-a.left.items c.loop-a.invariant none
