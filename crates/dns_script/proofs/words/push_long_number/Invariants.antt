-- the digits behind those of what is left have been written
use Rattle.std.proofs.Common.{◌≡◌, ◌+◌, ◌<◌, ◌≤◌, ◌∷◌, [], ◌++◌, length, drop}
use Rattle.std.specs.Fmt.{decimal}
use Rattle.dns_script.proofs.words.push_long_number.Given as goal

abbrev pub invariant-loop-left : goal.invariant-loop-left
invariant-loop-left l = record {
  size : length l.digits ≡ 21;
  within : l.at < 20;
  room : length (decimal l.left) ≤ l.at + 1;
  written : decimal l.left ++ drop (l.at + 1) l.digits ≡ decimal l.number ++ l.behind ∷ [];
}

abbrev pub decreases-loop-left : goal.decreases-loop-left
decreases-loop-left l = l.left
