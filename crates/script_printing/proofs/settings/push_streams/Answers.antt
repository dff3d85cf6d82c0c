use Rattle.std.proofs.Common.{◌∙◌, ap}
use Rattle.std.proofs.lemmas.Result.{on_ok_weaker}
use Rattle.client_settings.specs.Stream as stream
use Rattle.script_printing.proofs.Telling.{streams_text}
use Rattle.script_printing.proofs.settings.push_streams.Goals as goal

pub returns : goal.returns
returns c =
    on_ok_weaker c.push_wait-3.result
    (streams_text c.args.m.now c.args.text.now.items c.push_wait.new.text.items c.push_wait-2.new.text.items c.push_wait-3.new.text.items
    c.response_timeout-frame.result c.idle_timeout-idle.result c.response_timeout-request.result
    (c.response_timeout-frame.ensures ∙ ap (λ (s : stream.Settings). s.response_timeout) c.stream.ensures) (c.idle_timeout-idle.ensures ∙ ap (λ (s : stream.Settings). s.idle_timeout) c.stream-2.ensures)
    c.response_timeout-request.ensures c.in_ok-push_wait.ensures c.in_ok-push_wait-2.ensures)
    c.push_wait-3.ensures
