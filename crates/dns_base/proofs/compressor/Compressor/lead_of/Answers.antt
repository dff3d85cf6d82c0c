use Rattle.std.proofs.Common.{◌≡◌, ◌-◌, ◌∷◌, ℕ, List, length, take, drop, ap, sym, subst, ◌∙◌, arith, length-drop}
use Rattle.std.proofs.lemmas.List.{take_all}
use Rattle.std.specs.Prelude.{None}
use Rattle.dns_names.specs.Name.{Labels}
use Rattle.dns_base.specs.declared.suffixes.Suffixes.{Suffixes}
use Rattle.dns_base.specs.Compression.{Compressed, found_at}
use Rattle.dns_base.specs.Suffixes.{AreFirsts, IsIndex, IsSearch, lead_count, lead_place, name_key}
use Rattle.dns_base.proofs.Compressing.{lead_on}
use Rattle.dns_base.proofs.Indexed.{search_begins, search_on}
use Rattle.dns_base.proofs.compressor.Compressor.lead_of.Goals as goal

rest_of : (n : ℕ) (xs : List ℕ) → take (length xs - n) (drop n xs) ≡ drop n xs
rest_of n xs = take_all (length xs - n) (drop n xs) (omega (arith, length-drop n xs))

pub labels-init : goal.labels-init
labels-init c =
    let before : Compressed = c.args.self.now in
    let labels : Labels = c.labels-labels.result in
    let all : labels ≡ c.args.name.now = c.labels-labels.ensures.all in
    let key_is = c.in_ok-key.ensures ∙ ap name_key (sym all) in
    let octets : List ℕ = c.deref-3.result.now in
    let known : Suffixes = c.self.inside.known in
    let recent : Suffixes = c.in_ok-recent.recent in
    let behind : List ℕ = take (length c.deref.result.now - c.count.result) (drop c.count.result c.deref.result.now) in
    let octets_are : octets ≡ before.octets = c.deref-3.ensures.value ∙ ap (λ (x : Compressed). x.octets) c.self.view_is in
    let places_are : c.deref.result.now ≡ before.places = c.deref.ensures.value ∙ ap (λ (x : Compressed). x.places) c.self.view_is in
    let index : IsIndex known octets before.places =
    subst (λ (o : List ℕ). IsIndex known o before.places) (sym c.deref-3.ensures.value) (subst (λ (p : List ℕ). IsIndex known c.self.inside.octets.items p) (ap (λ (x : Compressed). x.places) c.self.view_is) c.self.invariant) in
    let index_behind : IsIndex recent octets behind = subst (λ (o : List ℕ). IsIndex recent o behind) (c.deref-2.ensures.value ∙ sym c.deref-3.ensures.value) c.in_ok-recent.ensures in
    let known_are : AreFirsts octets (take c.count.result before.places) labels c.firsts_of.result.now =
    subst (λ (n : ℕ). AreFirsts octets (take n before.places) labels c.firsts_of.result.now) (sym c.count.ensures) (c.firsts_of.ensures octets before.places labels index (c.deref-4.ensures.value ∙ key_is)) in
    let recent_are : AreFirsts octets (take c.count-2.result behind) labels c.firsts_of-2.result.now =
    subst (λ (n : ℕ). AreFirsts octets (take n behind) labels c.firsts_of-2.result.now) (sym c.count-2.ensures) (c.firsts_of-2.ensures octets behind labels index_behind (c.deref-5.ensures.value ∙ key_is)) in
    record {
      left = c.label_count-count.ensures ∙ ap length (sym all);
      few = omega arith;
      search =
          search_begins octets before.places labels c.firsts_of.result.now c.firsts_of-2.result.now behind _ c.count.result c.count-2.result
          (rest_of c.count.result c.deref.result.now ∙ ap (drop c.count.result) places_are) (rest_of c.count-2.result behind) known_are recent_are;
      octets = octets_are;
      count = omega (arith, ap (lead_count before) all);
      place = ap (lead_place before) all;
    }

pub labels-preserved : goal.labels-preserved
labels-preserved c =
    let before : Compressed = c.args.self.now in
    let label = c.in-Some.label.now in
    let rest : Labels = c.next.new.self in
    let is : c.labels.labels ≡ label ∷ rest = c.in-Some.ensures.steps in
    let behind : List ℕ = take (length c.deref.result.now - c.count.result) (drop c.count.result c.deref.result.now) in
    let others : List ℕ = take (length behind - c.count-2.result) (drop c.count-2.result behind) in
    let search : IsSearch c.deref-3.result.now before.places (label ∷ rest) c.firsts_of.result.now c.firsts_of-2.result.now others =
    subst (λ (x : Labels). IsSearch c.deref-3.result.now before.places x c.firsts_of.result.now c.firsts_of-2.result.now others) is c.labels.invariant.search in
    let none : found_at before.octets before.places (label ∷ rest) ≡ None =
    ap (λ (o : List ℕ). found_at o before.places (label ∷ rest)) (sym c.labels.invariant.octets) ∙ sym (c.in_default.ensures before.places search) in
    let next = lead_on before label rest none in
    record {
      left = omega (arith, c.labels.invariant.left, ap length is);
      few = omega (arith, c.labels.invariant.few);
      search = search_on c.deref-3.result.now before.places label rest c.firsts_of.result.now c.firsts_of-2.result.now others search;
      octets = c.labels.invariant.octets;
      count = omega (arith, c.labels.invariant.count, ap (lead_count before) is, next.0, c.labels.invariant.left, ap length is);
      place = sym next.1 ∙ ap (lead_place before) (sym is) ∙ c.labels.invariant.place;
    }
