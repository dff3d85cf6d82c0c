-- What a builder made of one question is read as that question.
use Rattle.std.proofs.Common.{arith, ◌≡◌, IfOk}
use Rattle.std.proofs.lemmas.Grind.{common_steps}
use Rattle.dns_base.specs.Query.{query_draft}
use Rattle.dns_base.proofs.Queries.{query_says}
use Rattle.dns_base.proofs.message.Message.query.Goals as goal

pub returns-in-Ok-clause-says : goal.returns-in-Ok-clause-says
returns-in-Ok-clause-says g c =
    let built : IfOk c.finish.result (λ m. m ≡ query_draft (g.N.ToName.labels_of c.args.name.now) c.args.rtype.0) = grind (arith, common_steps) in
    query_says c.finish.result (g.N.ToName.labels_of c.args.name.now) c.args.rtype.0 c.in-Ok.ensures.askable built
