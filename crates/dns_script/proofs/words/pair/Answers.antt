-- The table has the pair.
use Rattle.std.proofs.Common.{refl}
use Rattle.dns_script.proofs.ShortNumbers.{pair_stands}
use Rattle.dns_script.proofs.words.pair.Goals as goal

pub returns : goal.returns
returns c =
    let stands = pair_stands c.args.number c.requires in
    rw (stands.0, stands.1) refl
