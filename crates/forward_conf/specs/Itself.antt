-- Whether a forwarder would ask itself.
use Rattle.std.specs.Prelude.{ℕ, ◌==◌, ◌&&◌, Bool, false, List, Option, option_map, find}
use Rattle.std.specs.Cmp.Lexicographic.{pointwise}
use Rattle.std.specs.List.{list_any}
use Rattle.std.specs.Option.{is_some}
use Rattle.dns_values.specs.declared.address.IpAddr.{IpAddr}
use Rattle.dns_values.specs.declared.address.IpAddr.TheVariants.{V4, V6}
use Rattle.dns_values.specs.declared.address.SocketAddr.{SocketAddr}
use Rattle.resolv_conf.specs.declared.conf.ResolvConf.{ResolvConf}
use Rattle.resolv_conf.specs.declared.server.ServerConf.{ServerConf}

-- two addresses are the same
abbrev pub is_same_ip : IpAddr → IpAddr → Bool
is_same_ip (V4 a) (V4 b) = pointwise ◌==◌ a b
is_same_ip (V6 a) (V6 b) = pointwise ◌==◌ a b
is_same_ip (V4 a) (V6 b) = false
is_same_ip (V6 a) (V4 b) = false

abbrev pub is_among : IpAddr → List IpAddr → Bool
is_among ip listened = list_any (is_same_ip ip) listened

-- a server is the forwarder itself, which is listened at these addresses and this port
abbrev pub is_itself : (listened : List IpAddr) → (port : ℕ) → ServerConf → Bool
is_itself listened port server = server.addr.port == port && is_among server.addr.ip listened

-- the first server of a configuration that is
abbrev pub asked_itself : (listened : List IpAddr) → (port : ℕ) → ResolvConf → Option SocketAddr
asked_itself listened port conf = option_map (λ server. server.addr) (find (is_itself listened port) conf.servers)

abbrev pub asks_itself : (listened : List IpAddr) → (port : ℕ) → ResolvConf → Bool
asks_itself listened port conf = is_some (asked_itself listened port conf)
