use Rattle.std.proofs.Common.{◌∙◌, sym, ap, ℕ}
use Rattle.std.specs.Prelude.{option_map}
use Rattle.dns_base.specs.Message.{Known}
use Rattle.dns_base.proofs.AliasTables.{found_here}
use Rattle.dns_base.proofs.alias_table.find_alias.Goals as goal

pub returns-in_ok-record-in-Ok : goal.returns-in_ok-record-in-Ok
returns-in_ok-record-in-Ok c = λ records t.
    ap (option_map (λ (x : Known × ℕ). x.0)) c.in_ok-record-in-Ok.ensures
    ∙ sym (found_here c.args.octets.now c.args.places.now records c.args.owner.now _ (t.firsts c.in-Ok.at 0 c.in-Ok.ensures.bound) (c.in-Ok.ensures.position 0))
