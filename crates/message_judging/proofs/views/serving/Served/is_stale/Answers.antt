use Rattle.std.proofs.Common.{sym, ◌∙◌}
use Rattle.cache_rules.specs.Validity.{cached_by}
use Rattle.message_judging.proofs.lemmas.views.Viewing.{never_stale, of_server, none_revived, some_revived}
use Rattle.message_judging.proofs.views.serving.Served.is_stale.Goals as goal

pub returns-then-as_micros-eq0 : goal.returns-then-as_micros-eq0
returns-then-as_micros-eq0 c =
    let a = c.args in
    let v = a.self.now in
    never_stale (cached_by a.config.now) v.kept.now a.given.now v.from v.to v.name.now a.age (sym c.stale_for.ensures ∙ (sym c.as_micros.ensures.micros ∙ c.if-as_micros-eq0.true))

pub returns-then-not-tells_of_name : goal.returns-then-not-tells_of_name
returns-then-not-tells_of_name c =
    let a = c.args in
    let v = a.self.now in
    of_server (cached_by a.config.now) v.kept.now a.given.now v.from v.to v.name.now a.age (sym c.tells_of_name.ensures ∙ c.if-not-tells_of_name.true)

pub returns-in_default : goal.returns-in_default
returns-in_default c =
    let a = c.args in
    let v = a.self.now in
    none_revived (cached_by a.config.now) v.kept.now a.given.now v.from v.to v.name.now a.age c.stale_for-2.result c.in_ok-view.field-0 c.stale_for-2.ensures c.in_ok-view.ensures c.in_default.is

pub returns : goal.returns
returns c =
    let a = c.args in
    let v = a.self.now in
    some_revived (cached_by a.config.now) v.kept.now a.given.now v.from v.to v.name.now a.age c.stale_for-2.result c.in-Some.view c.in-Some-2.expired c.stale_for-2.ensures (rw c.in-Some.is at c.in_ok-view.ensures)
    (λ z. c.if-as_micros-eq0.false (c.as_micros.ensures.micros ∙ (c.stale_for.ensures ∙ z))) (sym c.tells_of_name.ensures ∙ c.if-not-tells_of_name.false) (rw c.in-Some-2.is at c.in_ok-expire.ensures) c.is_same_message.result c.is_same_message.ensures
