use Rattle.std.proofs.Common.{◌≡◌, Some, slice_get, refl, sym, ◌∙◌, arith}
use Rattle.std.proofs.lemmas.Grind.{common_steps}
use Rattle.std.proofs.lemmas.Option.{gets}
use Rattle.zone_refresh_run.specs.Acts.{asks_primary}
use Rattle.zone_refresh_run.proofs.keeper.ask.Goals as goal

pub returns : goal.returns
returns g c =
    let within = c.in_ok-file.ensures.lookup.0 in
    let item = c.in_ok-file.ensures.lookup.1 in
    let at : slice_get c.args.files.now c.args.zone ≡ Some c.in_ok-file.file.now = grind (arith, common_steps, gets, within, item) in
    asks_primary c.in_ok-file.file.now c.in_ok-addr.addr c.ask.result at (sym c.primary_of.ensures ∙ c.in_ok-addr.was) refl c.ask.ensures
