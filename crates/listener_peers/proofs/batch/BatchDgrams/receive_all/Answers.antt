use Rattle.std.proofs.Common.{◌≡◌, false, rules, true}
use Rattle.listener_peers.specs.Batches.{at_once}
use Rattle.listener_peers.proofs.Batching.{receives_enough, receives_last, receives_more}
use Rattle.listener_peers.proofs.batch.BatchDgrams.receive_all.Goals as goal

pub loop-init : goal.loop-init
loop-init g c = λ new received. received

pub loop-preserved : goal.loop-preserved
loop-preserved g c =
    let more : c.in_ok-receive_one.field-0 ≡ true = search rules in
    receives_more c.args.self.now c.loop.self c.receive_one.new.self c.loop.counter _ (search rules) more c.loop.invariant c.in_ok-receive_one.ensures

pub returns-then-not-branch : goal.returns-then-not-branch
returns-then-not-branch g c =
    let none : c.in_ok-receive_one.field-0 ≡ false = search rules in
    receives_last c.args.self.now c.loop.self c.receive_one.new.self c.loop.counter _ (search rules) none c.loop.invariant c.in_ok-receive_one.ensures

pub returns : goal.returns
returns g c =
    let full : c.loop.counter ≡ at_once = search rules in
    receives_enough c.args.self.now c.loop.self c.loop.counter full c.loop.invariant
