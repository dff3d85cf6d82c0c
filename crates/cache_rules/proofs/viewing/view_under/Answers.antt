use Rattle.cache_rules.specs.Key.{flag_class}
use Rattle.cache_rules.specs.Viewing.{drops_signing}
use Rattle.cache_rules.specs.declared.copying.Ttls.TheVariants.{Lessened}
use Rattle.cache_rules.proofs.Saying.{says_entries, refused_view}
use Rattle.cache_rules.proofs.viewing.view_under.Goals as goal

pub returns-clause-says : goal.returns-clause-says
returns-clause-says c = says_entries c.args.header (flag_class c.args.from) (flag_class c.args.to) c.args.question.now (Lessened c.args.secs) c.args.msg.now c.copied.result c.is_viewable.ensures c.copied.ensures

pub returns-clause-refused : goal.returns-clause-refused
returns-clause-refused c = refused_view c.args.header c.args.question.now (drops_signing (flag_class c.args.from) (flag_class c.args.to)) (Lessened c.args.secs) c.args.msg.now c.copied.result c.is_viewable.ensures c.copied.ensures
