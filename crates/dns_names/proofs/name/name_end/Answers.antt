use Rattle.std.proofs.Common.{◌≡◌, ◌+◌, ◌-◌, ◌≤◌, suc, sym, ◌∙◌, subst, ap, arith, Some, length}
use Rattle.dns_names.specs.declared.name.Head.{Head}
use Rattle.dns_names.specs.declared.name.Head.TheVariants.{Root, Label, Pointer}
use Rattle.dns_names.specs.Name.{head_at, head_end}
use Rattle.dns_names.proofs.Names.{at_start, stop_none, stop_root, stop_steps, go_label, go_pointer, over_octets, over_pointers}
use Rattle.dns_names.proofs.name.name_end.Goals.{in-Label+else-count-ge-MAX_OCTETS, in-Pointer+else-pointers-eq-MAX_POINTERS}
use Rattle.dns_names.proofs.name.name_end.Goals as goal

pub loop-init : goal.loop-init
loop-init c = record { few_pointers = omega arith; few_octets = omega arith; same = at_start _ _ }

pub returns-in_err-head_at : goal.returns-in_err-head_at
returns-in_err-head_at c =
    rw c.from_residual.ensures (sym (c.loop.invariant.same ∙ stop_none _ _ _ _ _ _ (sym c.in_err-head_at.ensures.value)))

pub returns-in-Root : goal.returns-in-Root
returns-in-Root c =
    let more : 383 - c.loop.counter ≡ suc (383 - (c.loop.counter + 1)) = omega arith in
    let head : head_at c.args.octets.now c.loop.at ≡ Some Root = sym c.in_ok-head_at.ensures.value ∙ ap Some c.in-Root.is in
    let stops = stop_root _ _ _ _ _ _ c.loop.end head more c.loop.invariant.few_pointers c.loop.invariant.few_octets in
    cc

pub returns-then-count-ge-MAX_OCTETS : goal.returns-then-count-ge-MAX_OCTETS
returns-then-count-ge-MAX_OCTETS c =
    let more : 383 - c.loop.counter ≡ suc (383 - (c.loop.counter + 1)) = omega arith in
    let head : head_at c.args.octets.now c.loop.at ≡ Some (Label c.in-Label.n) = sym c.in_ok-head_at.ensures.value ∙ ap Some c.in-Label.is in
    let P : Head → Type 0 = λ h. head_end c.loop.at h ≤ length c.args.octets.now in
    sym (c.loop.invariant.same ∙ go_label _ _ _ _ _ _ _ _ head more (subst P c.in-Label.is c.in_ok-head_at.ensures.within) ∙ over_octets _ _ _ _ (omega arith))

pub returns-then-pointers-eq-MAX_POINTERS : goal.returns-then-pointers-eq-MAX_POINTERS
returns-then-pointers-eq-MAX_POINTERS c =
    let more : 383 - c.loop.counter ≡ suc (383 - (c.loop.counter + 1)) = omega arith in
    let head : head_at c.args.octets.now c.loop.at ≡ Some (Pointer c.in-Pointer.target) = sym c.in_ok-head_at.ensures.value ∙ ap Some c.in-Pointer.is in
    sym (c.loop.invariant.same ∙ go_pointer _ _ _ _ _ _ _ _ head more ∙ over_pointers _ _ _ _ (omega arith))

pub loop-preserved : goal.loop-preserved
loop-preserved c = elim c.match-branch-2.branch [
  | in-Label+else-count-ge-MAX_OCTETS w ↦
      let more : 383 - c.loop.counter ≡ suc (383 - (c.loop.counter + 1)) = omega arith in
      let head : head_at c.args.octets.now c.loop.at ≡ Some (Label w.in-Label.n) = sym c.in_ok-head_at.ensures.value ∙ ap Some w.in-Label.is in
      let P : Head → Type 0 = λ h. head_end c.loop.at h ≤ length c.args.octets.now in
      let goes = c.loop.invariant.same ∙ go_label _ _ _ _ _ _ _ _ head more (subst P w.in-Label.is c.in_ok-head_at.ensures.within) in
      record { few_pointers = omega arith; few_octets = omega arith; same = cc }
  | in-Pointer+else-pointers-eq-MAX_POINTERS w ↦
      let more : 383 - c.loop.counter ≡ suc (383 - (c.loop.counter + 1)) = omega arith in
      let head : head_at c.args.octets.now c.loop.at ≡ Some (Pointer w.in-Pointer.target) = sym c.in_ok-head_at.ensures.value ∙ ap Some w.in-Pointer.is in
      let goes = c.loop.invariant.same ∙ go_pointer _ _ _ _ _ _ _ _ head more in
      record { few_pointers = omega arith; few_octets = omega arith; same = cc }
]

pub returns : goal.returns
returns c =
    let done : 383 - c.loop.counter ≡ 0 = omega arith in
    sym (c.loop.invariant.same ∙ stop_steps _ _ _ _ _ _ done)
