-- The servers that are asked.
use Rattle.std.specs.Prelude.{ℕ, List, [], ◌∷◌}
use Rattle.dns_values.specs.declared.address.IpAddr.TheVariants.{V4}
use Rattle.resolv_conf.specs.declared.server.ServerConf.{ServerConf}
use Rattle.resolv_conf.specs.Conf.{name_server}

-- this host, where there is no server
abbrev pub or_this_host : List ServerConf → List ServerConf
or_this_host [] = name_server (V4 (127 ∷ 0 ∷ 0 ∷ 1 ∷ [])) ∷ []
or_this_host (server ∷ servers) = server ∷ servers

abbrev pub with_timeout : ℕ → ServerConf → ServerConf
with_timeout timeout server = record server { request_timeout = timeout }
