use Rattle.std.proofs.Common.{◌≡◌, ◌++◌, map, take, drop}
use Rattle.resolv_conf.specs.Server.{with_timeout}
use Rattle.resolv_conf.proofs.server.with_request_timeout.Given as goal

abbrev pub invariant-loop-server : goal.invariant-loop-server
invariant-loop-server l =
    l.server-items ≡ map (with_timeout l.timeout) (take l.server-index l.initial.server-items) ++ drop l.server-index l.initial.server-items
