use Rattle.std.proofs.Common.{◌++◌, [], rules}
use Rattle.std.specs.Prelude.{Ok}
use Rattle.std.proofs.Output.{has_written_append}
use Rattle.dns_presentation.specs.Counted.{led_text}
use Rattle.dns_presentation.proofs.CountedTexts.{led_first, led_more, led_end}
use Rattle.dns_presentation.proofs.counted.PartsDisplay.fmt.Goals as goal

pub loop-part-init : goal.loop-part-init
loop-part-init g c = ([], led_first c.args.self.now.kind c.args.self.now.octets.now, λ p. search rules)

pub loop-part-preserved : goal.loop-part-preserved
loop-part-preserved g c =
    let so_far = c.loop-part.invariant in
    let part = c.in-Some.part.now in (
      so_far.0 ++ led_text c.args.self.now.kind part,
      led_more c.args.self.now.kind _ _ part c.in-Some.behind.now so_far.0 so_far.1 c.in-Some.ensures.value,
      λ p. has_written_append _ _ _ _ _ _ (so_far.2 p) (search rules),
    )

pub returns-clause-writes : goal.returns-clause-writes
returns-clause-writes g c =
    led_end g.W.Write.write_str_gives _ _ (Ok tt) c.args.self.now.kind c.args.self.now.octets.now _ _ c.loop-part.invariant.2 c.loop-part.invariant.1
    c.in_default.ensures.value
