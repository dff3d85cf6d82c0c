use Rattle.std.proofs.Common.{sym, ◌∙◌}
use Rattle.zone_refresh_run.proofs.Noting.{brought_by, fetched_notes, missed_notes}
use Rattle.zone_refresh_run.proofs.keeper.KeeperWorld.fetch.Goals as goal

pub returns-then-is_some : goal.returns-then-is_some
returns-then-is_some g c =
    let brings = c.bring-timers.ensures.brings in
    let notes =
    fetched_notes c.args.self.now c.bring-timers.new.self c.note.new.self c.args.zone c.bring-timers.result c.bring-timers.ensures.same (sym c.is_some.ensures ∙ c.if-is_some.true) c.note.ensures.kept c.note.ensures.noted c.note.ensures.same in
    (brought_by g.S.System.acts _ _ _ _ _ _ _ _ (sym c.note.ensures.untouched) brings, notes.0, notes.1, notes.2)

pub returns-else-is_some : goal.returns-else-is_some
returns-else-is_some g c =
    let notes = missed_notes c.args.self.now c.bring-timers.new.self c.bring-timers.new.self c.args.zone c.bring-timers.result c.bring-timers.ensures.same (sym c.is_some.ensures ∙ c.if-is_some.false) in
    (c.bring-timers.ensures.brings, notes.0, notes.1, notes.2)
