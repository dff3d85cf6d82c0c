use Rattle.std.proofs.Common.{◌∙◌, sym, ap}
use Rattle.std.specs.Prelude.{Some, option_map}
use Rattle.dns_base.specs.Canonical.{alias_in}
use Rattle.dns_base.proofs.AliasTables.{table_of}
use Rattle.dns_base.proofs.message.Message.tabled_alias.Goals as goal

pub returns : goal.returns
returns c =
    let table = table_of c.as_slice.result.now c.args.self.now c.args.places.now c.requires.records c.as_slice.ensures.all c.requires.table in
    ap Some (c.find_alias.ensures c.requires.records table) ∙ sym (ap (option_map (alias_in c.args.owner.now)) c.requires.read)
