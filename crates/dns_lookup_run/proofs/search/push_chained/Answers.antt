use Rattle.std.proofs.Common.{arith, ◌∙◌, ◌++◌, ◌∷◌, [], ap, sym, List}
use Rattle.dns_names.specs.Name.{Labels}
use Rattle.std.proofs.lemmas.Grind.{common_steps}
use Rattle.dns_names.proofs.Chains.{some_octets, over}
use Rattle.dns_lookup_run.proofs.Searching.{fits, spelled, too_long, whole_is}
use Rattle.dns_lookup_run.proofs.search.push_chained.Goals as goal

pub overflow_sub-kept : goal.overflow_sub-kept
overflow_sub-kept c = some_octets _ _ c.as_octets-front.ensures.octets

pub returns-then-kept-back-gt-MOST_OCTETS : goal.returns-then-kept-back-gt-MOST_OCTETS
returns-then-kept-back-gt-MOST_OCTETS c =
    too_long c.args.name.now c.args.suffix.now c.args.names.now.items (over _ _ c.as_octets-front.result.now c.as_octets-back.result.now c.as_octets-front.ensures.octets c.as_octets-back.ensures.octets (omega arith))

pub respell-requires : goal.respell-requires
respell-requires c =
    rw c.deref.ensures.value
    (spelled c.args.name.now c.args.suffix.now c.as_octets-front.result.now c.as_octets-back.result.now c.extend_from_slice-2.new.self.items c.as_octets-front.ensures.octets c.as_octets-back.ensures.octets
    (omega arith) c.as_octets-front.ensures.legal c.as_octets-back.ensures.legal (grind (arith, common_steps)))

pub returns : goal.returns
returns c =
    let w = whole_is c.args.name.now c.args.suffix.now c.as_octets-front.result.now c.as_octets-back.result.now c.extend_from_slice-2.new.self.items c.as_octets-front.ensures.octets c.as_octets-back.ensures.octets
    (omega arith) c.as_octets-front.ensures.legal c.as_octets-back.ensures.legal (grind (arith, common_steps)) in
    let same = c.in_ok-respell.ensures.named (c.args.name.now ++ c.args.suffix.now) w.0 (c.deref.ensures.value ∙ w.1) in
    c.in_ok-push.ensures.items ∙ ap (λ (more : List Labels). c.args.names.now.items ++ more) (ap (λ (whole : Labels). whole ∷ []) same ∙ sym (fits c.args.name.now c.args.suffix.now w.0.1))
