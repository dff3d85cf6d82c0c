use Rattle.std.proofs.Common.{sym, ◌∙◌}
use Rattle.trace_audit_run.specs.Ends.{TellsBySentence}
use Rattle.trace_audit_run.specs.Program.{RoseAt, over}
use Rattle.trace_audit_run.proofs.Ended.{ended_answered, ended_misused, ended_stopped}
use Rattle.trace_audit_run.proofs.run.audit_to.Goals as goal

pub returns-then-not-are_two-clause-ends : goal.returns-then-not-are_two-clause-ends
returns-then-not-are_two-clause-ends g c =
    ended_misused c.args.words.now (λ P. over g.S.Source.left g.T.Source.left c.args.script.now c.args.trace.now P) _
    (λ names. TellsBySentence g.K.Sink.held g.K.Sink.faults g.L.Sink.held g.L.Sink.faults names (c.args.sink.now, c.args.errors.now) (c.tell_usage.new.sink, c.tell_usage.new.errors)) c.names_among-names.result.now c.names_among-names.ensures c.tell_usage.result.0
    (sym c.are_two.ensures ∙ c.if-not-are_two.true) c.tell_usage.ensures.status (λ two. (c.tell_usage.ensures.said two, c.tell_usage.ensures.told two))

pub returns-in-Err-clause-ends : goal.returns-in-Err-clause-ends
returns-in-Err-clause-ends g c =
    ended_stopped c.args.words.now (λ P. over g.S.Source.left g.T.Source.left c.args.script.now c.args.trace.now P) _
    (λ names. TellsBySentence g.K.Sink.held g.K.Sink.faults g.L.Sink.held g.L.Sink.faults names (c.args.sink.now, c.args.errors.now) (c.tell_stop.new.sink, c.tell_stop.new.errors)) c.names_among-names.result.now c.names_among-names.ensures c.tell_stop.result.0
    c.in-Err.stop c.in-Err.ensures.stopped c.in-Err.ensures.unread c.tell_stop.ensures.status (λ no_six. (c.tell_stop.ensures.said no_six, c.tell_stop.ensures.told no_six))

pub returns-in-Ok-clause-ends : goal.returns-in-Ok-clause-ends
returns-in-Ok-clause-ends g c =
    ended_answered c.args.words.now (λ P. over g.S.Source.left g.T.Source.left c.args.script.now c.args.trace.now P) _
    (λ names. TellsBySentence g.K.Sink.held g.K.Sink.faults g.L.Sink.held g.L.Sink.faults names (c.args.sink.now, c.args.errors.now) (c.tell_answer.new.sink, c.tell_answer.new.errors)) c.names_among-names.result.now c.names_among-names.ensures c.tell_answer.result.0
    c.in-Ok.answer _ c.asked_by.ensures c.in-Ok.ensures.done c.tell_answer.ensures.others c.tell_answer.ensures.good
    (λ zero. (c.tell_answer.ensures.done zero, c.tell_answer.ensures.quiet zero))
    (λ four. (c.tell_answer.ensures.sink_fault four, (c.tell_answer.ensures.cut four, c.tell_answer.ensures.said four)))
    (λ five. (c.tell_answer.ensures.no five, c.tell_answer.ensures.told five))
