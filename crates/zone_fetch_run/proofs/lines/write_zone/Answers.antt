use Rattle.zone_fetch_run.proofs.Writing.{begins_loaded, begins_numbers, writes_loaded, writes_numbers}
use Rattle.zone_fetch_run.proofs.lines.write_zone.Goals as goal

pub returns-then-is_loaded-clause-whole : goal.returns-then-is_loaded-clause-whole
returns-then-is_loaded-clause-whole g c = writes_loaded _ _ _ _ c.write_text.result c.if-is_loaded.true c.write_text.ensures.whole

pub returns-then-is_loaded-clause-begun : goal.returns-then-is_loaded-clause-begun
returns-then-is_loaded-clause-begun g c = begins_loaded _ _ _ _ c.if-is_loaded.true c.write_text.ensures.begun

pub returns-clause-whole : goal.returns-clause-whole
returns-clause-whole g c = writes_numbers _ _ _ _ c.write_numbers.result c.if-is_loaded.false c.write_numbers.ensures.whole

pub returns-clause-begun : goal.returns-clause-begun
returns-clause-begun g c = begins_numbers _ _ _ _ c.if-is_loaded.false c.write_numbers.ensures.begun
