-- with so many zeros behind it the text is no address
use Rattle.std.proofs.Common.{◌≡◌, ◌≤◌, ◌++◌, ℕ}
use Rattle.std.specs.String.{string_bytes}
use Rattle.dns_values.specs.declared.address.IpAddr.{IpAddr}
use Rattle.dns_lookup_words.specs.ShortAddress.{IsAddressWith, zeros}
use Rattle.dns_lookup_words.proofs.short_address.short_address.Given as goal

abbrev pub invariant-loop-fewer : goal.invariant-loop-fewer
invariant-loop-fewer l = record {
  behind : string_bytes l.text ≡ l.word ++ zeros l.fewer;
  none : (n : ℕ) → n ≤ l.fewer → (ip : IpAddr) → ¬ (IsAddressWith n l.word ip);
}
