use Rattle.std.proofs.Common.{◌≡◌, [], Ok, Err, OnErr, Result, ap, arith, sym, ◌∙◌}
use Rattle.std.proofs.lemmas.Grind.{common_steps}
use Rattle.dns_names.specs.Name.{spelling}
use Rattle.dns_names.proofs.OwnOctets.{own_none, own_spelled}
use Rattle.dns_names.proofs.owned.Name.respell.Goals.{After-from_residual, In_ok-extend_from_slice}
use Rattle.dns_names.proofs.owned.Name.respell.Goals as goal

emptied : (c : After-from_residual) → c.extend_from_slice.new.self.items ≡ []
emptied c = grind (arith, common_steps)

copied : (c : In_ok-extend_from_slice) → c.extend_from_slice.new.self.items ≡ c.args.octets.now
copied c = grind (arith, common_steps)

on_err : {A E : Type 0} (r : Result A E) (P : Type 0) → P → OnErr r P
on_err (Ok x) P p = tt
on_err (Err e) P p = p

pub invariant_of-self : goal.invariant_of-self
invariant_of-self c = (own_none _ (emptied c)).0

pub returns-in_err-extend_from_slice-clause-no_memory : goal.returns-in_err-extend_from_slice-clause-no_memory
returns-in_err-extend_from_slice-clause-no_memory c = on_err c.from_residual.result _ (own_none _ (emptied c)).1

pub invariant_of-self-2 : goal.invariant_of-self-2
invariant_of-self-2 c = (own_spelled c.requires.0 _ (copied c ∙ c.requires.2) c.requires.1).0

pub returns-clause-spelled : goal.returns-clause-spelled
returns-clause-spelled c = ap spelling (own_spelled c.requires.0 _ (copied c ∙ c.requires.2) c.requires.1).1 ∙ sym c.requires.2

pub returns-clause-named : goal.returns-clause-named
returns-clause-named c = λ labels h e. (own_spelled labels _ (copied c ∙ e) h).1
