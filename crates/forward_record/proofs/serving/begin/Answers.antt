use Rattle.std.proofs.Common.{List, ap, sym, ◌∙◌}
use Rattle.client_steps.specs.Whole.{Whole}
use Rattle.dns_values.specs.declared.address.IpAddr.{IpAddr}
use Rattle.forward_conf.specs.Itself.{asks_itself}
use Rattle.forward_record.specs.Core.{RecordedClient}
use Rattle.forward_record.specs.Serving.{words_ahead, words_behind}
use Rattle.forward_record.proofs.Done.{begun, not_begun}
use Rattle.forward_record.proofs.serving.begin.Goals as goal

pub new-requires : goal.new-requires
new-requires g c = ap (λ (r : RecordedClient g.row.K.Denot). r.client.failed) c.new-core.ensures ∙ ap (λ (w : Whole). w.failed) c.in-Ok-with_settings.ensures.made

pub returns-in-Ok-with_settings-clause-begun : goal.returns-in-Ok-with_settings-clause-begun
unfolding words_ahead
returns-in-Ok-with_settings-clause-begun g c =
    begun g.K.Sink.held c.args.options.now c.args.conf.now (words_ahead (g.W.Words.stream c.args.rng.now)) (g.K.Sink.held c.args.file) c.settings_of-settings.result
    c.in-Ok-with_settings.client c.in-Ok-begun.recorder c.with_settings-begun.new.sink c.new-core.result c.new.result
    c.settings_of-settings.ensures c.in-Ok-with_settings.ensures.made c.in-Ok-begun.ensures.begun c.new-core.ensures c.new.ensures

pub returns-in-Ok-with_settings-clause-rest : goal.returns-in-Ok-with_settings-clause-rest
unfolding words_behind
returns-in-Ok-with_settings-clause-rest g c = c.in-Ok-begun.ensures.rest

pub returns-in-Err-begun-clause-not_recorded : goal.returns-in-Err-begun-clause-not_recorded
unfolding words_ahead
returns-in-Err-begun-clause-not_recorded g c =
    not_begun c.args.options.now c.args.conf.now (words_ahead (g.W.Words.stream c.args.rng.now)) c.settings_of-settings.result
    (g.K.Sink.faults c.args.file) (g.K.Sink.faults c.with_settings-begun.new.sink) c.in-Err-begun.refused c.settings_of-settings.ensures c.in-Err-begun.ensures.refused

pub returns-in-Ok-with_settings-clause-asks_others : goal.returns-in-Ok-with_settings-clause-asks_others
returns-in-Ok-with_settings-clause-asks_others g c =
    ap (λ (ips : List IpAddr). asks_itself ips c.args.port c.args.conf.now) (sym c.as_slice.ensures) ∙ c.in-Ok.ensures.asks_others
