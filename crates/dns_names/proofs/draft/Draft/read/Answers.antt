use Rattle.std.proofs.Common.{[], sym}
use Rattle.std.proofs.lemmas.Bool.{eqb-true}
use Rattle.dns_names.proofs.Texts.{go_start, go_dot, go_octet, go_end, go_none}
use Rattle.dns_names.proofs.draft.Draft.read.Goals as goal

pub loop-rest-init : goal.loop-rest-init
loop-rest-init c = ([], c.new-draft.ensures.none, go_start _ _ c.new-draft.ensures.label)

pub loop-rest-preserved-in_ok-end_label-in-Dot : goal.loop-rest-preserved-in_ok-end_label-in-Dot
loop-rest-preserved-in_ok-end_label-in-Dot c =
    let so_far = c.loop-rest.invariant in
    (_, c.in_ok-end_label-in-Dot.ensures.whole so_far.0 so_far.1, go_dot _ _ _ _ _ so_far.0 _ so_far.2 c.in-Some.ensures.value c.in-Dot.is c.in_ok-end_label-in-Dot.ensures.label)

pub loop-rest-preserved : goal.loop-rest-preserved
loop-rest-preserved c =
    let so_far = c.loop-rest.invariant in
    (so_far.0, record { full = so_far.1.full; short = so_far.1.short; kept = so_far.1.kept }, go_octet _ _ _ _ _ so_far.0 _ c.in-Octet.octet so_far.2 c.in-Some.ensures.value c.in-Octet.is c.in_ok-push-in-Octet.ensures.items)

pub returns-in_default : goal.returns-in_default
returns-in_default c = let so_far = c.loop-rest.invariant in go_none _ _ _ so_far.0 so_far.2 (c.in_default.ensures.value)

pub returns : goal.returns
returns c =
    let so_far = c.loop-rest.invariant in
    (so_far.0, so_far.1, go_end _ _ _ so_far.0 so_far.2 (eqb-true _ _ (sym c.loop-rest-test.ensures)))
