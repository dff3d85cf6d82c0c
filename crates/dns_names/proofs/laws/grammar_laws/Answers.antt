use Rattle.dns_names.proofs.Grammars.{cut_writes, written_is_cut}
use Rattle.dns_names.proofs.laws.grammar_laws.Goals as goal

pub returns : goal.returns
returns c = record { cut_writes = cut_writes; written_is_cut = written_is_cut }
