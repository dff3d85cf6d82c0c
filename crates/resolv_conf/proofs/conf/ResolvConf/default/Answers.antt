use Rattle.resolv_conf.specs.Files.{system_file}
use Rattle.resolv_conf.proofs.Defaults.{default_of}
use Rattle.resolv_conf.proofs.conf.ResolvConf.default.Goals as goal

pub returns-clause-read : goal.returns-clause-read
returns-clause-read g c =
    default_of (g.O.OpenFile.files c.args.opener.now) system_file c.new-conf.result c.parse_file.new.self c.finalize.new.self
    c.parse_file.result (g.O.Source.faults c.args.opener.now) (g.O.Source.faults c.parse_file.new.opener)
    c.new-conf.ensures c.parse_file.ensures.answer c.in_ok-had_memory.ensures c.parse_file.ensures.failed c.in_ok-finalize.ensures
