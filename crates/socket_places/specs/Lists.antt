-- Sockets in memory.
use Rattle.std.specs.Prelude.{ℤ, Bool, List}
use Rattle.socket_places.specs.declared.socket.Deal.{Deal}
use Rattle.socket_places.specs.declared.network.Asked.{Asked}
use Rattle.socket_places.specs.declared.network.Opening.{Opening}

-- the number by which a wait knows it, and what was done with it
pub record SocketInMemory : Type 0 where
  pub descriptor : ℤ
  pub deals : List Deal

-- what was to be opened, the waits, and what the last one found
pub record NetworkInMemory : Type 0 where
  pub openings : List Opening
  pub asks : List (List Asked)
  pub found : List Bool
