use Rattle.std.proofs.Common.{◌≡◌, None, Some, slice_get, refl, arith}
use Rattle.std.proofs.lemmas.Grind.{common_steps}
use Rattle.std.proofs.lemmas.Option.{gets}
use Rattle.zone_refresh_run.specs.Acts.{tells_of_none, tells_of_zone}
use Rattle.zone_refresh_run.proofs.keeper.KeeperWorld.tell.Goals as goal

pub returns-in-Some : goal.returns-in-Some
returns-in-Some g c =
    let within = c.in-Some.ensures.lookup.0 in
    let item = c.in-Some.ensures.lookup.1 in
    let same = c.deref.ensures.value in
    let at : slice_get c.args.self.now.files.items c.args.zone ≡ Some c.in-Some.file.now = grind (arith, common_steps, gets, within, item, same) in
    (tells_of_zone c.in-Some.file.now at c.tell_of.ensures, (refl, refl, refl))

pub returns-in_default : goal.returns-in_default
returns-in_default g c =
    let past = c.in_default.ensures.lookup.0 in
    let same = c.deref.ensures.value in
    let none : slice_get c.args.self.now.files.items c.args.zone ≡ None = grind (arith, common_steps, gets, past, same) in
    (tells_of_none none refl, (refl, refl, refl))
