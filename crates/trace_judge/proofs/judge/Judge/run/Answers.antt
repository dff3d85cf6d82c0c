use Rattle.std.proofs.Common.{refl, sym, subst}
use Rattle.trace_judge.specs.declared.judge.Judge.{Judge}
use Rattle.trace_judge.specs.Judge.{TellsComing}
use Rattle.trace_judge.proofs.{Judging.runs_of, Telling.ok_then}
use Rattle.trace_judge.proofs.judge.Judge.run.Goals as goal

pub returns : goal.returns
returns c =
    let r = c.args.rules.now in
    let old = c.args.self.now in
    let begun = c.begin.new.self in
    let new : Judge = record { past = old.past; course = c.run.new.self } in
    let cs = subst (TellsComing r (record { past = old.past; course = begun })) (sym c.as_slice.ensures) c.in_ok-comings.ensures in
    ok_then c.run.result c.run.ensures (λ k d. runs_of r c.args.row.now old new begun c.as_slice-2.result.now k _ d c.as_slice-2.ensures refl refl refl c.in_ok-begin.ensures cs refl)
