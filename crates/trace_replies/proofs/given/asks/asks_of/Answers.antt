use Rattle.std.proofs.Common.{sym, ◌∙◌}
use Rattle.trace_replies.proofs.lemmas.given.Asking.{no_key, no_name, asked_told}
use Rattle.trace_replies.proofs.given.asks.asks_of.Goals as goal

pub returns-in_default : goal.returns-in_default
returns-in_default c = no_key c.args.request.now c.in_ok-key.field-0 (sym c.is_cacheable.ensures ∙ c.if-not-is_cacheable.false) c.in_ok-key.ensures c.in_default.is

pub returns-in_default-2 : goal.returns-in_default-2
returns-in_default-2 c = no_name c.args.request.now c.in_ok-name.field-0 (sym c.is_cacheable.ensures ∙ c.if-not-is_cacheable.false) c.in_ok-name.ensures c.in_default-2.is

pub returns : goal.returns
returns c =
    asked_told c.args.request.now c.split.result c.in_ok-key.field-0 c.in-Some.key c.in_ok-name.field-0 c.in-Some-2.name (sym c.is_cacheable.ensures ∙ c.if-not-is_cacheable.false) c.in_ok-key.ensures c.in-Some.is c.in_ok-name.ensures c.in-Some-2.is
    c.split.ensures.key c.split.ensures.class c.split.ensures.rd c.split.ensures.name
