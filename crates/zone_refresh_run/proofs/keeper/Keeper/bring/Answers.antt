use Rattle.std.proofs.Common.{◌≡◌, Some, slice_get, sym, ◌∙◌, arith}
use Rattle.std.proofs.lemmas.Grind.{common_steps}
use Rattle.std.proofs.lemmas.Option.{gets}
use Rattle.zone_refresh_run.specs.Fetching.{brings_from}
use Rattle.zone_refresh_run.proofs.keeper.Keeper.bring.Goals as goal

pub returns-clause-brings : goal.returns-clause-brings
returns-clause-brings g c =
    let within = c.in_ok-file.ensures.lookup.0 in
    let item = c.in_ok-file.ensures.lookup.1 in
    let same = c.deref.ensures.value in
    let at : slice_get c.args.self.now.files.items c.args.zone ≡ Some c.in_ok-file.file.now = grind (arith, common_steps, gets, within, item, same) in
    brings_from c.in_ok-file.file.now c.in_ok-addr.addr at (sym c.primary_of.ensures ∙ c.in_ok-addr.was) c.bring.ensures
