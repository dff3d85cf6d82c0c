use Rattle.std.proofs.Common.{◌≡◌, ◌-◌, option_map}
use Rattle.dns_base.specs.Message.{record_at, list_at}
use Rattle.dns_base.proofs.message.records_end.Given as goal

abbrev pub invariant-loop : goal.invariant-loop
invariant-loop l =
    option_map (λ x. x.1) (list_at (record_at l.octets) l.count l.place)
    ≡ option_map (λ x. x.1) (list_at (record_at l.octets) (l.count - l.counter) l.at)
