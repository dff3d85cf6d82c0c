-- The servers of a service.
use Rattle.std.specs.Prelude.{List}
use Rattle.dns_values.specs.declared.address.IpAddr.{IpAddr}
use Rattle.dns_values.specs.declared.address.SocketAddr.{SocketAddr}
use Rattle.resolv_lookup.specs.declared.srv_item.Srv.{Srv}

-- a server, and the addresses that came with it
pub record Item : Type 0 where
  pub srv : Srv
  pub addresses : List IpAddr

-- a server, and where it is reached
pub record Resolved : Type 0 where
  pub srv : Srv
  pub resolved : List SocketAddr
