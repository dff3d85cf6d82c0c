use Rattle.zone_fetch_run.proofs.Taken.{is_command, is_refused, not_said}
use Rattle.zone_fetch_run.proofs.command.command_of.Goals as goal

pub returns-in-Ok-command_in : goal.returns-in-Ok-command_in
returns-in-Ok-command_in c = is_command c.args.words.now c.in-Ok.said c.in-Ok-command_in.command c.in-Ok.ensures c.in-Ok-command_in.ensures

pub returns-in-Err-command_in : goal.returns-in-Err-command_in
returns-in-Err-command_in c = is_refused c.args.words.now c.in-Ok.said c.in-Err-command_in.refusal c.in-Ok.ensures c.in-Err-command_in.ensures

pub returns-in-Err : goal.returns-in-Err
returns-in-Err c = not_said c.args.words.now c.in-Err.fault c.in-Err.ensures
