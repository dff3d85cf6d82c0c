-- the lines of the servers before the index have been added
use Rattle.std.proofs.Common.{◌≡◌, ◌++◌, take}
use Rattle.std.specs.List.{flat_map}
use Rattle.script_printing.specs.Texts.{ended, server_line}
use Rattle.script_printing.proofs.head.push_servers.Given as goal

abbrev pub invariant-loop-server : goal.invariant-loop-server
invariant-loop-server l = l.text.items ≡ l.fn.text.items ++ flat_map (λ server. ended (server_line server)) (take l.server-index l.servers)
