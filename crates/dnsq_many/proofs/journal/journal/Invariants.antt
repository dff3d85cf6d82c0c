use Rattle.joint_history.specs.Words.{word_of}
use Rattle.dnsq_many.specs.Lanes.{opening_for}
use Rattle.dnsq_many.proofs.journal.journal.Given as goal

-- the client is named by the table of its history and by what it is opened with
abbrev pub ghosts-journal_by : goal.ghosts-journal_by
ghosts-journal_by g a = record { table = word_of a.opened.joint; opening = opening_for a.script }
