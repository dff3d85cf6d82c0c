-- Where the name is not made, it is too long or there is no memory.
use Rattle.std.proofs.Common.{ap, Err}
use Rattle.std.proofs.lemmas.Result.{err_from_is_err_and}
use Rattle.resolv_lookup.specs.Asked.{Asks}
use Rattle.resolv_lookup.proofs.Naming.{not_made}
use Rattle.resolv_lookup.proofs.srv.lookup_srv.Goals as goal

pub returns-in_err-full-clause-asked : goal.returns-in_err-full-clause-asked
returns-in_err-full-clause-asked g c =
    let p = err_from_is_err_and c.from_residual.result c.from_residual.ensures.1 in
    rw (p.1, p.2)
    (not_made (Asks g.R.Resolver.says g.R.Resolver.asked) _ _ _ _ _ c.in_err-full.field-0.0 c.in_err-full.ensures.faults (λ e. c.in_err-full.ensures.long (ap (λ x. Err x) e)))
