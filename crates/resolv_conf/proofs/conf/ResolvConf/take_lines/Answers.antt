use Rattle.std.proofs.Common.{◌≡◌, length, Ok, Err, arith}
use Rattle.std.proofs.lemmas.Bool.Decides.{nat_tests}
use Rattle.resolv_conf.proofs.Parses.{stops, goes_on, ends}
use Rattle.resolv_conf.proofs.conf.ResolvConf.take_lines.Goals as goal

pub returns-in-Err : goal.returns-in-Err
returns-in-Err c =
    c.loop-rest.invariant.follows (Err c.in-Err.e) c.take_line.new.self
    (stops c.loop-rest.number c.loop-rest.rest.now c.split_line.result.0.now c.split_line.result.1.now c.loop-rest.self
    c.take_line.new.self c.in-Err.e c.split_line.ensures.first c.in-Err.ensures)

pub loop-rest-preserved : goal.loop-rest-preserved
loop-rest-preserved c = record {
  counted = omega (arith, c.split_line.ensures.shorter);
  follows = λ answer new h. c.loop-rest.invariant.follows answer new
      (goes_on c.loop-rest.number c.loop-rest.rest.now c.split_line.result.0.now c.split_line.result.1.now c.loop-rest.self
      c.take_line.new.self new answer c.split_line.ensures.first c.in-Ok.ensures h);
}

pub returns : goal.returns
returns c =
    c.loop-rest.invariant.follows (Ok tt) c.loop-rest.self
    (ends c.loop-rest.number c.loop-rest.rest.now c.loop-rest.self (let none : length c.loop-rest.rest.now ≡ 0 = grind (arith, nat_tests, c.is_empty.ensures) in none))
