use Rattle.std.proofs.Common.{◌≡◌, ◌-◌, ◌∙◌, sym, ap, arith}
use Rattle.std.specs.Prelude.{Some, None, option_and_then, option_map}
use Rattle.dns_base.specs.Message.{answer_records}
use Rattle.dns_base.specs.Canonical.{alias_in}
use Rattle.dns_base.proofs.Aliases.{leads, leads_there, leads_on}
use Rattle.dns_base.proofs.message.Message.followed.Goals as goal

pub returns-in-None : goal.returns-in-None
returns-in-None c =
    let a = c.in_ok-alias_of.ensures in
    let b = c.in-None.is in
    let none : option_map (alias_in c.steps.name) (answer_records c.args.self.now) ≡ Some None = cc in
    sym (c.steps.invariant ∙ leads_there c.steps.left (answer_records c.args.self.now) c.steps.name none)

pub returns-in_err-name : goal.returns-in_err-name
returns-in_err-name c =
    let a = c.in_ok-alias_of.ensures in
    let b = c.in-Some.is in
    let some : option_map (alias_in c.steps.name) (answer_records c.args.self.now) ≡ Some (Some c.in-Some.alias) = cc in
    let on = leads_on c.steps.left (c.steps.left - 1) (answer_records c.args.self.now) c.steps.name c.in-Some.alias (omega arith) some in
    c.from_residual-in_err-name.ensures ∙ sym (c.steps.invariant ∙ on ∙ ap (option_and_then (leads (c.steps.left - 1) (answer_records c.args.self.now))) (sym c.in_err-name.ensures))

pub steps-preserved : goal.steps-preserved
steps-preserved c =
    let a = c.in_ok-alias_of.ensures in
    let b = c.in-Some.is in
    let some : option_map (alias_in c.steps.name) (answer_records c.args.self.now) ≡ Some (Some c.in-Some.alias) = cc in
    let on = leads_on c.steps.left (c.steps.left - 1) (answer_records c.args.self.now) c.steps.name c.in-Some.alias (omega arith) some in
    c.steps.invariant ∙ on ∙ ap (option_and_then (leads (c.steps.left - 1) (answer_records c.args.self.now))) (sym c.in_ok-name.ensures)
