-- Which worked traces are runs of the machine.
use Rattle.std.specs.Prelude.{◌≡◌, List, Result, Ok}
use Rattle.client_request.specs.Request.{Request}
use Rattle.client_request.specs.declared.error.Error.{Error}
use Rattle.client_request.specs.declared.event.Row.{Row}
use Rattle.right_trace.specs.Messages.{Octets}
use Rattle.proof_right.specs.machine.Served.{served}
use Rattle.proof_right.specs.machine.Client.{begun, IsRun}
use Rattle.proof_right.specs.examples.Messages.{plain_request}
use Rattle.right_trace.specs.Settings.{first_settings}
use Rattle.proof_right.specs.examples.Rows.{by_datagrams}

-- however requests are composed, if the plain one is
abbrev pub IsARun : List Row → Type 0
IsARun rows = (compose : Request → Result Octets Error) (o : Octets) → compose plain_request ≡ Ok o → IsRun by_datagrams first_settings compose (served by_datagrams) (begun by_datagrams first_settings compose (served by_datagrams)) rows
