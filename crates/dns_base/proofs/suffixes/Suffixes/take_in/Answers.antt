use Rattle.std.proofs.Common.{refl}
use Rattle.dns_base.proofs.Indexed.{index_whole}
use Rattle.dns_base.proofs.suffixes.Suffixes.take_in.Goals as goal

pub loop-self-init : goal.loop-self-init
loop-self-init c = record { index = index_whole c.args.self.now _ c.args.octets.now c.args.places.now c.requires refl refl refl; whole = refl }
