use Rattle.std.proofs.Common.{◌≡◌, ◌+◌, ◌<◌, ◌++◌, ◌∷◌, [], ℕ, List, length, ap, sym, refl, subst, ◌∙◌, arith}
use Rattle.std.specs.Prelude.{Option, Some, None}
use Rattle.std.specs.List.{AllByRecursion}
use Rattle.dns_names.specs.Name.{Labels, IsLabel}
use Rattle.dns_base.specs.Compression.{Compressed, found_at, pointer_to, with_name, with_octets, with_label, Continues}
use Rattle.dns_base.specs.Suffixes.{lead_count, lead_place}
use Rattle.dns_base.proofs.Compressing.{with_rest, rest_is_name, root_last, label_next, lead_next, led_to_root, led_to_place, continues_itself, continues_on, on_ok}
use Rattle.dns_base.proofs.compressor.Compressor.put_among_many.Goals as goal

pub labels-init : goal.labels-init
labels-init c =
    let before : Compressed = c.args.self.now in
    let all = c.labels-labels.ensures.all in
    record {
      same = ap (λ labels. with_rest before before labels) all ∙ rest_is_name before c.args.name.now;
      kept = continues_itself before;
      count = c.in_ok-lead.ensures.count ∙ ap (lead_count before) (sym all);
      place = c.in_ok-lead.ensures.place ∙ ap (lead_place before) (sym all);
      legal = subst (AllByRecursion IsLabel) (sym all) c.labels-labels.ensures.legal.0;
    }

pub returns-in-None-clause-ok : goal.returns-in-None-clause-ok
returns-in-None-clause-ok c =
    let before : Compressed = c.args.self.now in
    let now : Compressed = c.labels.self in
    let count : lead_count before c.labels.labels ≡ 0 = sym c.labels.invariant.count ∙ c.if-left-eq0.true in
    let place : lead_place before c.labels.labels ≡ None = sym c.labels.invariant.place ∙ c.in-None.is in
    on_ok _ _ c.put_octets.result (λ e. e ∙ led_to_root before now c.labels.labels count place ∙ c.labels.invariant.same) c.put_octets.ensures.ok

pub returns-in-Some-clause-ok : goal.returns-in-Some-clause-ok
returns-in-Some-clause-ok c =
    let before : Compressed = c.args.self.now in
    let now : Compressed = c.labels.self in
    let count : lead_count before c.labels.labels ≡ 0 = sym c.labels.invariant.count ∙ c.if-left-eq0.true in
    let place : lead_place before c.labels.labels ≡ Some c.in-Some.place = sym c.labels.invariant.place ∙ c.in-Some.is in
    on_ok _ _ c.put_octets-in-Some.result
    (λ e. e ∙ ap (λ o. with_octets o now) c.pointer.ensures ∙ led_to_place before now c.labels.labels c.in-Some.place count place ∙ c.labels.invariant.same) c.put_octets-in-Some.ensures.ok

pub labels-preserved : goal.labels-preserved
labels-preserved c =
    let before : Compressed = c.args.self.now in
    let now : Compressed = c.labels.self in
    let label = c.in-Some-next.label.now in
    let rest : Labels = c.next.new.self in
    let is : c.labels.labels ≡ label ∷ rest = c.in-Some-next.ensures.steps in
    let some : 0 < c.labels.left = grind (arith, c.if-left-eq0.false) in
    let next = lead_next before label rest c.labels.left (c.labels.invariant.count ∙ ap (lead_count before) is) some in
    let legal = subst (AllByRecursion IsLabel) is c.labels.invariant.legal in
    record {
      same = ap (λ x. with_rest before x rest) c.in_ok-put_label-in-Some-next.ensures.ok ∙ label_next before now label rest next.0 ∙ ap (λ l. with_rest before now l) (sym is) ∙ c.labels.invariant.same;
      kept = continues_on before now c.put_label.new.self c.labels.invariant.kept c.put_label.ensures.kept;
      count = omega (arith, next.1);
      place = c.labels.invariant.place ∙ ap (lead_place before) is ∙ next.2;
      legal = legal.1;
    }
