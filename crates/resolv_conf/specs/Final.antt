-- What a configuration is finalized to.
use Rattle.std.specs.Prelude.{◌≡◌, ◌≢◌, List, [], ◌∷◌, map}
use Rattle.dns_names.specs.Name.{Labels}
use Rattle.resolv_conf.specs.declared.conf.ResolvConf.{ResolvConf}
use Rattle.resolv_conf.specs.Server.{or_this_host, with_timeout}

-- the root, where there is no suffix
abbrev pub or_root : List Labels → List Labels
or_root [] = [] ∷ []
or_root (name ∷ names) = name ∷ names

-- each server has the timeout of the options
abbrev pub finalized : ResolvConf → ResolvConf
finalized conf = record {
  servers = map (with_timeout conf.options.timeout) (or_this_host conf.servers);
  options = record conf.options { search = or_root conf.options.search };
}

-- The laws of finalizing: twice is once, and there are then a server and a suffix.
pub record FinalLaws : Type 0 where
  pub twice : (conf : ResolvConf) → finalized (finalized conf) ≡ finalized conf
  pub has_server : (conf : ResolvConf) → (finalized conf).servers ≢ []
  pub has_suffix : (conf : ResolvConf) → (finalized conf).options.search ≢ []
