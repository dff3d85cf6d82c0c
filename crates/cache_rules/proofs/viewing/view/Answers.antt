use Rattle.std.proofs.Common.{ap, subst, ◌∙◌}
use Rattle.std.specs.Prelude.{IfOk}
use Rattle.cache_rules.specs.Key.{flag_class}
use Rattle.cache_rules.specs.Viewing.{header_between, IsViewable, SaysEntries}
use Rattle.cache_rules.specs.declared.copying.Ttls.TheVariants.{Lessened}
use Rattle.cache_rules.proofs.Saying.{says_message}
use Rattle.cache_rules.proofs.viewing.view.Goals as goal

pub returns-clause-says : goal.returns-clause-says
returns-clause-says c =
    let from = flag_class c.args.from in
    let to = flag_class c.args.to in
    says_message from to c.args.clear_rd c.args.question.now (Lessened c.args.secs) c.args.msg.now c.view_under.result
    (subst (λ h. IsViewable h c.args.question.now c.args.msg.now) c.header-header.ensures c.is_viewable.ensures)
    (subst (λ h. IfOk c.view_under.result (SaysEntries h from to c.args.question.now (Lessened c.args.secs) c.args.msg.now)) (c.derived_header-derived.ensures ∙ ap (header_between from to c.args.clear_rd) c.header-header.ensures) c.view_under.ensures.says)
