-- the octets before the index were added, and there is room for the others
use Rattle.std.proofs.Common.{◌≡◌, ◌+◌, ◌≤◌, ◌++◌, length, take}
use Rattle.std.specs.Vec.{vec_len, vec_capacity}
use Rattle.dns_script.proofs.words.put_octets.Given as goal

abbrev pub invariant-loop-octet : goal.invariant-loop-octet
invariant-loop-octet l = record {
  added : l.text.items ≡ l.fn.text.items ++ take l.octet-index l.octets;
  size : vec_len l.text ≡ vec_len l.fn.text + l.octet-index;
  room : vec_len l.fn.text + length l.octets ≤ vec_capacity l.text;
}
