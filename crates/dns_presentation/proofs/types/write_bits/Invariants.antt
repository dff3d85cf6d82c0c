use Rattle.std.proofs.Common.{◌≡◌, ◌+◌, ◌*◌, ◌++◌, List, ℕ, drop}
use Rattle.std.specs.Fmt.{HasWritten, IsPlainFormatter}
use Rattle.dns_presentation.specs.Types.{bits_text}
use Rattle.dns_presentation.proofs.types.write_bits.Given as goal

abbrev pub invariant-loop-octet : goal.invariant-loop-octet
invariant-loop-octet g l = record {
  place : l.at ≡ l.first + 8 * l.octet-index;
  same : IsPlainFormatter l.fn.f → (text : List ℕ) × HasWritten g.W.Write.write_str_gives l.fn.f text l.f
      × (text ++ bits_text l.at (drop l.octet-index l.octets) ≡ bits_text l.first l.octets);
}
