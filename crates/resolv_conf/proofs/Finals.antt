-- Finalizing twice is finalizing once.
use Rattle.std.proofs.Common.{◌≡◌, ◌≢◌, ℕ, List, [], ◌∷◌, map, refl, ap}
use Rattle.dns_names.specs.Name.{Labels}
use Rattle.resolv_conf.specs.declared.conf.ResolvConf.{ResolvConf}
use Rattle.resolv_conf.specs.declared.server.ServerConf.{ServerConf}
use Rattle.resolv_conf.specs.Server.{or_this_host, with_timeout}
use Rattle.resolv_conf.specs.Final.{or_root, finalized}

timed_twice : (t : ℕ) (servers : List ServerConf) → map (with_timeout t) (map (with_timeout t) servers) ≡ map (with_timeout t) servers
timed_twice t [] = refl
timed_twice t (server ∷ servers) = ap (λ ss. with_timeout t server ∷ ss) (timed_twice t servers)

servers_twice : (t : ℕ) (servers : List ServerConf)
    → map (with_timeout t) (or_this_host (map (with_timeout t) (or_this_host servers))) ≡ map (with_timeout t) (or_this_host servers)
servers_twice t [] = refl
servers_twice t (server ∷ servers) = ap (λ ss. with_timeout t server ∷ ss) (timed_twice t servers)

root_twice : (names : List Labels) → or_root (or_root names) ≡ or_root names
root_twice [] = refl
root_twice (name ∷ names) = refl

pub twice : (conf : ResolvConf) → finalized (finalized conf) ≡ finalized conf
twice conf =
    let ss = servers_twice conf.options.timeout conf.servers in
    let ns = root_twice conf.options.search in
    let both : finalized (finalized conf) ≡ finalized conf = cc in both

pub has_server : (t : ℕ) (servers : List ServerConf) → map (with_timeout t) (or_this_host servers) ≢ []
has_server t [] e = absurd cc
has_server t (server ∷ servers) e = absurd cc

pub has_suffix : (names : List Labels) → or_root names ≢ []
has_suffix [] e = absurd cc
has_suffix (name ∷ names) e = absurd cc
