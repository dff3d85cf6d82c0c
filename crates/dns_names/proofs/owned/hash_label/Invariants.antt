use Rattle.std.proofs.Common.{◌≡◌, map, drop}
use Rattle.std.specs.List.{fold, flat_map}
use Rattle.std.specs.Hash as fed
use Rattle.std.specs.Char.{to_ascii_lowercase}
use Rattle.dns_names.proofs.owned.hash_label.Given as goal

abbrev pub invariant-loop-octet : goal.invariant-loop-octet
invariant-loop-octet g l =
    fold g.H.Hasher.write l.fn.state (fed.slice fed.u8 (map to_ascii_lowercase l.label))
    ≡ fold g.H.Hasher.write l.state (flat_map fed.u8 (map to_ascii_lowercase (drop l.octet-index l.label)))
