use Rattle.std.proofs.Common.{◌++◌, take, arith, rules}
use Rattle.std.proofs.Output.{has_written_append, has_written_of_eq}
use Rattle.dns_presentation.specs.Base64.{base64_text}
use Rattle.dns_presentation.proofs.Base64Texts.{three_more}
use Rattle.dns_presentation.proofs.base64.Base64Display.fmt.Goals as goal

pub loop-rest-preserved : goal.loop-rest-preserved
loop-rest-preserved g c = λ p.
    let so_far = c.loop-rest.invariant p in (
      so_far.0 ++ base64_text (take 3 c.loop-rest.rest.now),
      has_written_append _ _ _ _ _ _ so_far.1 (search rules),
      three_more c.loop-rest.rest.now c.behind_three-rest.result.now so_far.0 _ (omega arith) c.behind_three-rest.ensures so_far.2,
    )

pub returns-clause-writes : goal.returns-clause-writes
returns-clause-writes g c p ok =
    let so_far = c.loop-rest.invariant p in
    has_written_of_eq _ _ _ _ _ so_far.2 (has_written_append _ _ _ _ _ _ so_far.1 (c.write_end.ensures so_far.1.plain ok))
