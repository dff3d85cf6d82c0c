use Rattle.std.proofs.Common.{ap, ◌∙◌, arith, subst}
use Rattle.dns_values.specs.Sink.{with_octets}
use Rattle.script_printing.specs.CanBeTold.{AreWordsInRange}
use Rattle.script_printing.specs.Texts.{head_text}
use Rattle.dns_record.specs.Recording.{drawn}
use Rattle.dns_record.proofs.Starting.{begins}
use Rattle.dns_record.proofs.recorder.Recorder.with_settings.Goals as goal

pub returns-in-Ok-clause-begun : goal.returns-in-Ok-clause-begun
returns-in-Ok-clause-begun g c =
    let ok = c.in_ok-text.text.ok in
    let size = c.len-in-Ok.ensures in
    let count = c.len.ensures in
    let short = c.if-len-gt-MOST_TEXT.false in
    let s = c.args.settings.now in
    begins c.args.conf.now s.redundant s.cache s.transports (drawn c.args.ahead.count (g.W.Words.stream c.args.words.now)) c.in_ok-list.list c.new.result.items (g.K.Sink.held c.args.sink.now) (g.K.Sink.held c.write_all.new.sink) c.in_ok-text.text.items c.len-in-Ok.result
    c.in_ok-check.ensures.told c.in_ok-list.ensures.list c.new.ensures c.head_is_in_range.ensures.addresses c.head_is_in_range.ensures.sizes c.head_is_in_range.ensures.timeout (subst AreWordsInRange c.as_slice.ensures c.head_is_in_range.ensures.words)
    (c.in_ok-text.ensures ∙ ap (λ ws. head_text c.args.conf.now s.redundant s.cache s.transports ws) c.as_slice-2.ensures)
    (omega arith) (omega arith) (c.in-Ok.ensures.whole ∙ ap (λ text. with_octets text (g.K.Sink.held c.args.sink.now)) c.deref.ensures.value)
