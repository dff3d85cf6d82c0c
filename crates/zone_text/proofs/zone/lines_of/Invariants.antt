-- the records so far stand before those of the lines that are left, and the serial of all lines is what that so far comes to
use Rattle.std.proofs.Common.{◌≡◌, ◌≤◌, ◌+◌, length}
use denote.Shadow.{shadow}
use denote.Text.{Utf8}
use Rattle.zone_text.specs.Saying.{says_from, text_says}
use Rattle.zone_text.specs.Zones.{serial_from, serial_said}
use Rattle.zone_text.proofs.Said.{put_records}
use Rattle.zone_text.proofs.zone.lines_of.Given as goal

abbrev pub invariant-loop-rest : goal.invariant-loop-rest
invariant-loop-rest l = record {
  utf8 : shadow (Utf8 l.rest);
  lines : l.line + length l.rest ≤ length l.text + 1;
  said : text_says l.text ≡ put_records l.records.items (says_from l.line l.rest);
  serial : serial_said l.apex l.text ≡ serial_from l.apex l.line l.found l.rest;
}

abbrev pub decreases-loop-rest : goal.decreases-loop-rest
decreases-loop-rest l = length l.rest
