use Rattle.std.proofs.Common.{sym}
use Rattle.resolv_conf.proofs.Shows.{some_shown}
use Rattle.resolv_conf.proofs.show.write_options.Goals as goal

pub returns-then-any_is_shown : goal.returns-then-any_is_shown
returns-then-any_is_shown g c =
    let e = some_shown c.args.words.now (sym c.if-any_is_shown.ensures) in rw e c.write_line.ensures
