-- the digits of the octets before the index have been added
use Rattle.std.proofs.Common.{◌≡◌, ◌++◌, take}
use Rattle.dns_presentation.specs.Octets.{hex_text}
use Rattle.zone_text.proofs.digits.push_digits.Given as goal

abbrev pub invariant-loop-octet : goal.invariant-loop-octet
invariant-loop-octet l = l.text.items ≡ l.fn.text.items ++ hex_text (take l.octet-index l.octets)
