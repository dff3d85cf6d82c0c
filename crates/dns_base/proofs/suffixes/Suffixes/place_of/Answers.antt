use Rattle.std.proofs.Common.{◌≡◌, ◌≤◌, List, length, true, false, ap, sym, subst, rules, of_calls, arith}
use Rattle.std.proofs.lemmas.Fn.{always_returns_same}
use Rattle.std.specs.List.Sorted.{IsPartitionedBy, IsPartitionPoint}
use Rattle.dns_base.specs.Suffixes.{at_most}
use Rattle.dns_base.specs.declared.suffixes.Known.{Known}
use Rattle.dns_base.proofs.Neighbours.{is_place, rise_parted}
use Rattle.dns_base.proofs.suffixes.Suffixes.place_of.Goals as goal

pub returns : goal.returns
returns c =
    let names = c.args.self.now.names.items in
    let key = c.args.key.now in
    let at = c.partition_point.result in
    let same : c.deref.result.now ≡ names = c.deref.ensures.value in
    let test = λ (k : Known). at_most k.key.items key in
    let parted = subst (λ (xs : List Known). IsPartitionedBy test xs) (sym same) (rise_parted names key c.requires) in
    let point = c.partition_point.ensures.partitioned test (always_returns_same _ _ _ (λ a r f k. search (rules, of_calls))) parted in
    let bound : at ≤ length names = omega (arith, ap length same, c.partition_point.ensures.bound) in
    is_place names key at bound (subst (λ (xs : List Known). IsPartitionPoint (λ (k : Known). test k ≡ true) (λ (k : Known). test k ≡ false) xs at) same point)
