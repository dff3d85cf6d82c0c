-- the digits of the octets before the index stand in the buffer
use Rattle.std.proofs.Common.{◌≡◌, ◌*◌, length, take}
use Rattle.std.specs.List.{flat_map}
use Rattle.dns_script.specs.Words.{octet_digits}
use Rattle.dns_script.proofs.words.push_piece.Given as goal

abbrev pub invariant-loop-at : goal.invariant-loop-at
invariant-loop-at l = record {
  size : length l.digits ≡ 64;
  digits : take (2 * l.at) l.digits ≡ flat_map octet_digits (take l.at l.piece);
}
