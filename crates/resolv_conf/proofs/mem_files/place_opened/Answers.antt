use Rattle.resolv_conf.proofs.Paths.{found_there, not_there}
use Rattle.resolv_conf.proofs.mem_files.place_opened.Goals as goal

pub returns-clause-found : goal.returns-clause-found
returns-clause-found c = found_there c.args.path.now c.args.files.now.entries c.place_of.result c.place_of.ensures

pub returns-clause-shut : goal.returns-clause-shut
returns-clause-shut c = not_there c.args.path.now c.args.files.now.entries c.place_of.result c.args.call c.args.fails.now c.place_of.ensures
