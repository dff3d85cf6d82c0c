use Rattle.std.proofs.Common.{◌≡◌, drop}
use Rattle.client_steps.specs.Whole.{servers_of, with_servers}
use Rattle.client_core.proofs.servers.servers_of.Given as goal

abbrev pub invariant-loop-server : goal.invariant-loop-server
invariant-loop-server l = record {
  added : with_servers l.fn.transports l.server-index l.fn.conf.options (drop l.server-index l.listed) l.servers ≡ servers_of l.fn.transports l.fn.settings l.fn.conf.options l.listed;
  number : l.number ≡ l.server-index;
}
