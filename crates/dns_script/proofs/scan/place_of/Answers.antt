-- The first mark, or the first separator in the rest.
use Rattle.std.proofs.Common.{arith}
use Rattle.std.proofs.lemmas.Bool.{eq-eqb}
use Rattle.dns_script.proofs.Found.{found_run, found_at, found_nowhere}
use Rattle.dns_script.proofs.scan.place_of.Goals as goal

pub returns-then-run-lt16 : goal.returns-then-run-lt16
returns-then-run-lt16 c = found_run c.args.separator c.args.octets.now c.loop-from.from c.run_at-run.result (omega arith) c.loop-from.invariant.none c.run_at-run.ensures c.if-run-lt16.true

pub returns-then-octets-from : goal.returns-then-octets-from
returns-then-octets-from c = found_at c.args.separator c.args.octets.now c.loop-from-2.from (omega arith) c.loop-from-2.invariant.none (eq-eqb _ _ c.if-octets-from.true)

pub returns : goal.returns
returns c = found_nowhere c.args.separator c.args.octets.now c.loop-from-2.from (omega arith) c.loop-from-2.invariant.none
