use Rattle.std.proofs.Common.{◌≡◌, drop}
use Rattle.dnsq_run.specs.QueryWords.{nothing_said, said_by}
use Rattle.dnsq_run.proofs.query_words.said_by.Given as goal

abbrev pub invariant-loop-word : goal.invariant-loop-word
invariant-loop-word l = said_by (drop l.word-index l.words) l.said ≡ said_by l.words nothing_said
