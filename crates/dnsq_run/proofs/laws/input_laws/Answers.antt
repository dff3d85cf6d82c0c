use Rattle.dnsq_run.proofs.Inputs.{one_output, taken_or_refused, written_or_stopped}
use Rattle.dnsq_run.proofs.laws.input_laws.Goals as goal

pub returns : goal.returns
returns c =
    let scripts = c.script_laws.ensures in
    let lines = c.line_laws.ensures in
    record { taken_or_refused = taken_or_refused scripts lines; one_output = one_output scripts lines; written_or_stopped = written_or_stopped scripts }
