use Rattle.resolv_conf.proofs.Finals.{twice, has_server, has_suffix}
use Rattle.resolv_conf.proofs.conf.finalize_laws.Goals as goal

pub returns : goal.returns
returns c = record {
  twice = twice;
  has_server = λ conf. has_server conf.options.timeout conf.servers;
  has_suffix = λ conf. has_suffix conf.options.search;
}
