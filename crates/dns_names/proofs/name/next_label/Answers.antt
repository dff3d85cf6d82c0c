use Rattle.std.proofs.Common.{◌≡◌, ◌-◌, ◌≤◌, suc, sym, ◌∙◌, ap, subst, arith, Some, length}
use Rattle.dns_names.specs.declared.name.Head.{Head}
use Rattle.dns_names.specs.declared.name.Head.TheVariants.{Root, Label, Pointer}
use Rattle.dns_names.specs.Name.{head_at, head_end}
use Rattle.dns_names.proofs.NextLabel.{none_left, no_head, at_the_root, at_a_pointer, at_a_label}
use Rattle.dns_names.proofs.name.next_label.Goals as goal

pub returns-in_err-head_at-clause-none : goal.returns-in_err-head_at-clause-none
returns-in_err-head_at-clause-none c = absurd (no_head _ _ _ (sym c.in_err-head_at.ensures.value) c.loop-left.invariant.goes_on)

pub returns-in-Root-clause-none : goal.returns-in-Root-clause-none
returns-in-Root-clause-none c =
    let more : c.loop-left.left ≡ suc (c.loop-left.left - 1) = omega arith in
    let head : head_at c.args.octets.now c.loop-left.at ≡ Some Root = sym c.in_ok-head_at.ensures.value ∙ ap Some c.in-Root.is in
    c.loop-left.invariant.same ∙ at_the_root _ _ _ _ head more

pub returns-in-Label-clause-some : goal.returns-in-Label-clause-some
returns-in-Label-clause-some c =
    let more : c.loop-left.left ≡ suc (c.loop-left.left - 1) = omega arith in
    let head : head_at c.args.octets.now c.loop-left.at ≡ Some (Label c.in-Label.n) = sym c.in_ok-head_at.ensures.value ∙ ap Some c.in-Label.is in
    let P : Head → Type 0 = λ h. head_end c.loop-left.at h ≤ length c.args.octets.now in
    let next = at_a_label _ _ _ _ _ head more (subst P c.in-Label.is c.in_ok-head_at.ensures.within) c.loop-left.invariant.goes_on in
    record { order = next.order; within = next.within; labels = c.loop-left.invariant.same ∙ next.labels; goes_on = next.goes_on }

pub loop-left-preserved : goal.loop-left-preserved
loop-left-preserved c =
    let more : c.loop-left.left ≡ suc (c.loop-left.left - 1) = omega arith in
    let head : head_at c.args.octets.now c.loop-left.at ≡ Some (Pointer c.in-Pointer.target) = sym c.in_ok-head_at.ensures.value ∙ ap Some c.in-Pointer.is in
    let next = at_a_pointer _ _ _ _ _ head more c.loop-left.invariant.goes_on in
    record { goes_on = next.1; same = c.loop-left.invariant.same ∙ next.0 }

pub returns-clause-none : goal.returns-clause-none
returns-clause-none c = let done : c.loop-left.left ≡ 0 = omega arith in absurd (none_left _ _ _ done c.loop-left.invariant.goes_on)
