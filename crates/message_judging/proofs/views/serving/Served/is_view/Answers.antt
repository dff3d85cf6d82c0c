use Rattle.std.proofs.Common.{Bool, ap, subst}
use Rattle.std.specs.Prelude.{is_some, Result, Ok, Err, IfOk}
use Rattle.cache_rules.specs.Validity.{cached_by}
use Rattle.message_judging.specs.views.Serving.{TellsAged}
use Rattle.message_judging.proofs.lemmas.views.Viewing.{none_viewed, some_viewed}
use Rattle.message_judging.proofs.views.serving.Served.is_view.Goals as goal

if_ok : {E : Type 0} {P Q : Bool → Type 0} (r : Result Bool E) → ((b : Bool) → P b → Q b) → IfOk r P → IfOk r Q
if_ok (Ok b) f h = f b h
if_ok (Err x) f h = tt

pub returns-in_default : goal.returns-in_default
returns-in_default c =
    let a = c.args in
    let v = a.self.now in
    none_viewed (cached_by a.config.now) v.kept.now a.given.now v.from v.to v.name.now a.age c.in_ok-view_within.field-0 c.in_ok-view_within.ensures c.in_default.is

pub returns : goal.returns
returns c =
    let a = c.args in
    let v = a.self.now in
    if_ok c.is_aged.result
    (λ b t. some_viewed (cached_by a.config.now) v.kept.now a.given.now v.from v.to v.name.now a.age c.in_ok-view_within.field-0 c.in_ok-view_within.ensures (ap is_some c.in-Some.is) c.max_validity_is_limited.ensures b
    (subst (λ n. TellsAged v.kept.now v.from v.to v.name.now n a.given.now b) c.seconds_of.ensures t))
    c.is_aged.ensures
