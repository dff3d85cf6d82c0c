-- A primary that is asked for the SOA of a zone.
use Rattle.std.specs.Prelude.{◌≡◌, ℕ, true, List, [], ◌∷◌, Option, Result, Ok, Err}
use Rattle.client_core.specs.declared.edge.Deed.{Deed}
use Rattle.dns_names.specs.Name.{Labels}
use Rattle.dns_values.specs.declared.address.SocketAddr.{SocketAddr}
use Rattle.dns_values.specs.declared.numbers.Serial.{Serial}
use Rattle.resolv_conf.specs.Conf.{default_options}
use Rattle.resolv_conf.specs.declared.conf.ResolvConf.{ResolvConf}
use Rattle.resolv_conf.specs.declared.server.ServerConf.{ServerConf}
use Rattle.resolv_conf.specs.declared.server.Transport.TheVariants.{UdpTcp}
use Rattle.resolv_lookup.specs.Asked.{Got}
use Rattle.stub_resolver.specs.Making.{IsNew}
use Rattle.stub_resolver.specs.Queries.{Gets, question}
use Rattle.stub_resolver.specs.Stub.{Stub, seen}
use Rattle.zone_refresh_run.specs.Serials.{serial_said}
use Rattle.zone_refresh_run.specs.declared.serials.NoSerial.{NoSerial}
use Rattle.zone_refresh_run.specs.declared.serials.NoSerial.TheVariants.{Failed}

-- It is asked by datagrams, and by a stream where the answer is truncated, and waited for ten seconds.
abbrev pub server_at : SocketAddr → ServerConf
server_at addr = record { addr = addr; transport = UdpTcp; request_timeout = 2000000; recv_size = 1232; udp_payload_size = 1232 }

abbrev pub conf_of : SocketAddr → ResolvConf
conf_of primary = record { servers = server_at primary ∷ []; options = record default_options { timeout = 10000000 } }

abbrev pub said_of : Labels → Got → Result Serial NoSerial
said_of zone (Ok answer) = serial_said zone answer
said_of zone (Err fault) = Err (Failed fault)

-- A new client of the primary asked for the SOA of the zone, and this is the serial that the answer says, or why there is none.
pub record Asks {E C W : Type 0} (deeds : E → Option (List Deed)) (waits : E → Option (List ℕ)) (polls faults : E → ℕ) (given : C → Option (List ℕ)) (stream : W → ℕ → ℕ)
    (zone : Labels) (primary : SocketAddr) (edge : E) (clock : C) (words : W) (said : Result Serial NoSerial) : Type 0 where
  pub made : Stub E C W
  pub is_new : IsNew deeds waits polls faults (conf_of primary) edge clock words made
  pub last : Stub E C W
  pub got : Got
  pub gets : Gets true (question zone 6) (seen deeds waits polls given stream made) (seen deeds waits polls given stream last) got
  pub says : said ≡ said_of zone got
