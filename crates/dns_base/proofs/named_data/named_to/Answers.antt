use Rattle.std.proofs.Common.{arith, ◌+◌, ◌-◌, ◌<◌, ◌≤◌, List, ℕ, drop}
use Rattle.std.proofs.lemmas.List.{length-take, length-drop}
use Rattle.dns_base.proofs.Named.{name_ends}
use Rattle.dns_base.proofs.named_data.named_to.Goals as goal

pub named_size-requires : goal.named_size-requires
named_size-requires c =
    let ends : c.args.at + c.in_ok-from.field-0 < c.in_ok-first.after = name_ends _ _ _ c.in_ok-first.ensures.value in
    let later : c.in_ok-first.after ≤ c.in_ok-second.after = c.in_ok-second.ensures.order in
    let octets : List ℕ = c.args.octets.now in
    let after : ℕ = c.in_ok-second.after in
    omega (arith, length-take (c.args.at + c.in_ok-from.field-0 - c.args.at) (drop c.args.at octets), length-take (c.args.end - after) (drop after octets), length-drop c.args.at octets, length-drop after octets)
