use Rattle.std.proofs.Common.{◌∙◌, arith}
use Rattle.dns_base.proofs.Whole.{string_begins, string_goes_on}
use Rattle.dns_base.proofs.record_data.are_strings.Goals.{then-left-eq0, else-left-eq0}
use Rattle.dns_base.proofs.record_data.are_strings.Goals as goal

pub loop-octet-preserved : goal.loop-octet-preserved
loop-octet-preserved c = elim c.if-left-eq0.branch [
  | then-left-eq0 w ↦ c.loop-octet.invariant ∙ string_begins c.args.octets.now c.loop-octet.octet-index c.loop-octet.left c.if-left-eq0.left (omega arith) (omega arith) w.left-is
  | else-left-eq0 w ↦ c.loop-octet.invariant ∙ string_goes_on c.args.octets.now c.loop-octet.octet-index c.loop-octet.left c.if-left-eq0.left (omega arith) (omega arith) w.left-is
]
