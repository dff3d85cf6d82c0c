use Rattle.script_printing.proofs.Cuts.{cut_anywhere}
use Rattle.script_printing.proofs.Scripts.{one_more_line, scripts_are_read_back}
use Rattle.script_printing.proofs.laws.printing_laws.Goals as goal

pub returns : goal.returns
returns c = record { scripts_are_read_back = scripts_are_read_back; one_more_line = one_more_line; cut_anywhere = cut_anywhere }
