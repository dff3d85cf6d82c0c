-- the text stands for the name of no row so far
use Rattle.std.proofs.Common.{◌≡◌, drop}
use Rattle.program_words.specs.Rows.{said_in, told}
use Rattle.program_words.proofs.row.said_in.Given as goal

abbrev pub invariant-loop-row : goal.invariant-loop-row
invariant-loop-row g l = said_in (told l.rows) l.text ≡ said_in (told (drop l.row-index l.rows)) l.text
