use Rattle.std.proofs.Common.{◌≡◌, length, vec_len, sym, ◌∙◌, arith}
use Rattle.trace_judge.proofs.Ending.{has_none, has_some, none_busy, some_busy}
use Rattle.trace_judge.proofs.Telling.{if_ok}
use Rattle.trace_judge.proofs.course.Course.are_waiting_busy.Goals as goal

pub returns-then-is_empty : goal.returns-then-is_empty
returns-then-is_empty c =
    let servers = c.args.rules.now.servers in
    let empty : vec_len servers ≡ 0 = has_none (vec_len servers) (sym c.is_empty.ensures ∙ c.if-is_empty.true) in
    let none : length servers.items ≡ 0 = omega arith in
    none_busy c.args.rules.now c.args.self.now none

pub returns : goal.returns
returns c =
    let servers = c.args.rules.now.servers in
    let some : length servers.items ≡ 0 → ⊥ = λ z. (let empty : vec_len servers ≡ 0 = omega arith in has_some (vec_len servers) (sym c.is_empty.ensures ∙ c.if-is_empty.false) empty) in
    if_ok c.all_busy.result (λ b d. some_busy c.args.rules.now c.args.self.now b some d) c.all_busy.ensures
