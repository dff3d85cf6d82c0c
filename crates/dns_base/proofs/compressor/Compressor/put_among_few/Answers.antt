use Rattle.std.proofs.Common.{◌≡◌, ◌<◌, ◌++◌, ◌∷◌, [], ℕ, List, length, take, ap, sym, refl, subst, ◌∙◌, arith}
use Rattle.std.specs.Prelude.{Option, Some, None}
use Rattle.std.specs.List.{AllByRecursion}
use Rattle.dns_names.specs.Name.{Labels, IsLabel}
use Rattle.dns_base.specs.Compression.{Compressed, found_at, pointer_to, with_name, with_octets, with_label, Continues}
use Rattle.dns_base.proofs.Compressing.{with_rest, rest_is_name, root_last, pointer_last, label_next, continues_itself, continues_on, looked_up, on_ok}
use Rattle.dns_base.proofs.compressor.Compressor.put_among_few.Goals as goal

pub labels-init : goal.labels-init
labels-init c =
    let before : Compressed = c.args.self.now in
    record {
      same = ap (λ labels. with_rest before before labels) c.labels-labels.ensures.all ∙ rest_is_name before c.args.name.now;
      kept = continues_itself before;
      octets_known = let is = ap (λ (x : Compressed). x.octets) c.self.view_is in omega (arith, c.len-from.ensures, ap length is);
      places_known = let is = ap (λ (x : Compressed). x.places) c.self.view_is in omega (arith, c.len-known.ensures, ap length is);
      legal = subst (AllByRecursion IsLabel) (sym c.labels-labels.ensures.all) c.labels-labels.ensures.legal.0;
    }

pub returns-in-None-clause-ok : goal.returns-in-None-clause-ok
returns-in-None-clause-ok c =
    let before : Compressed = c.args.self.now in
    let now : Compressed = c.labels.self in
    let none : c.labels.labels ≡ [] = c.in-None.ensures.steps.0 in
    on_ok _ _ c.put_octets.result (λ e. e ∙ root_last before now ∙ ap (λ l. with_rest before now l) (sym none) ∙ c.labels.invariant.same) c.put_octets.ensures.ok

pub returns-in-Some-found_at-clause-ok : goal.returns-in-Some-found_at-clause-ok
returns-in-Some-found_at-clause-ok c =
    let before : Compressed = c.args.self.now in
    let now : Compressed = c.labels.self in
    let next : Labels = c.in-Some.label.now ∷ c.next.new.self in
    let is : c.labels.labels ≡ next = c.in-Some.ensures.steps in
    let octets = c.deref.ensures.value ∙ ap (λ (x : Compressed). x.octets) c.self-in-Some.view_is in
    let places = c.deref-in-Some.ensures.value ∙ ap (λ (x : Compressed). x.places) c.self-in-Some.view_is in
    let same = looked_up before now c.deref.result.now c.deref-in-Some.result.now c.len-from.result c.len-known.result next c.labels.invariant.kept octets places c.labels.invariant.octets_known c.labels.invariant.places_known in
    let found : found_at before.octets before.places next ≡ Some c.in-Some-found_at.place =
    same ∙ sym c.in-Some-found_at.ensures in
    on_ok _ _ c.put_octets-in-Some-found_at.result
    (λ e. e ∙ ap (λ o. with_octets o now) c.pointer.ensures ∙ pointer_last before now c.in-Some.label.now c.next.new.self c.in-Some-found_at.place found ∙ ap (λ l. with_rest before now l) (sym is) ∙ c.labels.invariant.same)
    c.put_octets-in-Some-found_at.ensures.ok

pub labels-preserved : goal.labels-preserved
labels-preserved c =
    let before : Compressed = c.args.self.now in
    let now : Compressed = c.labels.self in
    let next : Labels = c.in-Some.label.now ∷ c.next.new.self in
    let is : c.labels.labels ≡ next = c.in-Some.ensures.steps in
    let octets = c.deref.ensures.value ∙ ap (λ (x : Compressed). x.octets) c.self-in-Some.view_is in
    let places = c.deref-in-Some.ensures.value ∙ ap (λ (x : Compressed). x.places) c.self-in-Some.view_is in
    let same = looked_up before now c.deref.result.now c.deref-in-Some.result.now c.len-from.result c.len-known.result next c.labels.invariant.kept octets places c.labels.invariant.octets_known c.labels.invariant.places_known in
    let none : found_at before.octets before.places next ≡ None =
    same ∙ sym c.in_default.ensures in
    let legal = subst (AllByRecursion IsLabel) is c.labels.invariant.legal in
    let label = c.in-Some.label.now in
    record {
      same = ap (λ x. with_rest before x c.next.new.self) c.in_ok-put_label-in-Some.ensures.ok ∙ label_next before now label c.next.new.self none ∙ ap (λ l. with_rest before now l) (sym is) ∙ c.labels.invariant.same;
      kept = continues_on before now c.put_label.new.self c.labels.invariant.kept c.put_label.ensures.kept;
      octets_known = c.labels.invariant.octets_known;
      places_known = c.labels.invariant.places_known;
      legal = legal.1;
    }
