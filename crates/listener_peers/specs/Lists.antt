-- Listeners in memory.
use Rattle.std.specs.Prelude.{ℤ, List}
use Rattle.socket_places.specs.declared.socket.Answer.{Answer}
use Rattle.listener_peers.specs.declared.listener.Post.{Post}

-- the number by which a wait knows it, and what was done with it
pub record ListenerInMemory : Type 0 where
  pub descriptor : ℤ
  pub accepts : List (Answer (Unit {0}))

pub record DgramsInMemory : Type 0 where
  pub descriptor : ℤ
  pub posts : List Post
