-- the digits of the pieces before have been added
use Rattle.std.proofs.Common.{◌≡◌, ◌++◌}
use Rattle.std.specs.Slice.Iter.{chunks_rest, chunks_size}
use Rattle.std.specs.List.{flat_map}
use Rattle.dns_script.specs.Words.{octet_digits}
use Rattle.dns_script.proofs.words.push_digits.Given as goal

abbrev pub invariant-loop-piece : goal.invariant-loop-piece
invariant-loop-piece l = record {
  can_next : goal.iterator-loop-piece.can_next l.piece-iterator;
  finite : goal.iterator-loop-piece.is_finite l.piece-iterator;
  size : chunks_size l.piece-iterator ≡ 32;
  added : l.text.items ++ flat_map octet_digits (chunks_rest l.piece-iterator) ≡ l.fn.text.items ++ flat_map octet_digits l.fn.octets;
}
