use Rattle.std.proofs.Common.{◌≡◌, ◌++◌, map, take, drop}
use Rattle.command_parts.specs.Conf.{at_port}
use Rattle.command_parts.proofs.conf.at_port.Given as goal

abbrev pub invariant-loop-server : goal.invariant-loop-server
invariant-loop-server l =
    l.server-items ≡ map (at_port l.port) (take l.server-index l.initial.server-items) ++ drop l.server-index l.initial.server-items
