use Rattle.std.proofs.Common.{take}
use Rattle.dns_base.proofs.Indexed.{found_by}
use Rattle.dns_base.proofs.suffixes.Suffixes.firsts_of.Goals as goal

pub returns : goal.returns
returns c = λ octets places labels index is.
    let s = c.args.self.now in
    found_by s octets places labels c.shared_around.result.now index (c.shared_around.ensures (take s.octets octets) (take s.places places) labels index.known is)
