use Rattle.std.proofs.Common.{◌≡◌, drop}
use Rattle.dns_names.specs.Reverse.{reverse_labels}
use Rattle.dns_lookup_words.proofs.short_address.ShortAddress.name.Given as goal

abbrev pub invariant-loop : goal.invariant-loop
invariant-loop l = l.name ≡ drop l.counter (reverse_labels l.self.ip)
