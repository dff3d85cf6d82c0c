use Rattle.std.proofs.Common.{◌≡◌, ◌<◌, ℕ, List, map, None, Err, refl, sym, ap, ◌∙◌, subst}
use Rattle.std.specs.Prelude.{IfOk}
use Rattle.client_request.specs.declared.event.Event.{Event}
use Rattle.client_request.specs.declared.error.Error.TheVariants.{NumbersUsed}
use Rattle.client_steps.specs.Whole.{plain_step}
use Rattle.client_shared.specs.declared.entry.Entry.{Entry}
use Rattle.client_shared.specs.declared.entry.Item.TheVariants.{Made}
use Rattle.client_shared.specs.declared.entry.Receipt.{Receipt}
use Rattle.client_shared.specs.History.{Passed, Puts, StepsTo, entry_of}
use Rattle.client_shared.proofs.Histories.{for_caller, next_legal, loss_legal, desk_lost, submitted, stopped}
use Rattle.client_shared.proofs.desk.step_and_put.Goals as goal

pub put-number-requires-clause-legal : goal.put-number-requires-clause-legal
put-number-requires-clause-legal g c =
    let r = c.in-Ok.recorded in
    let left = c.step_and_copy-words.result.0 in
    let client = c.step_and_copy-words.new.client in
    let x = subst (λ o. IfOk o (λ r. (r.event ≡ c.args.copy) × (r.again ≡ r.outs) × StepsTo c.args.client.now (g.W.Words.stream c.args.words) (entry_of 0 r.event r.words r.outs) client (g.W.Words.stream left))) c.in-Ok.is c.step_and_copy-words.ensures.ok in
    next_legal g.L.ClientKey.opening g.W.Words.stream c.args.client.now c.args.words c.args.entries.now.items (entry_of c.pass.inside.number r.event r.words r.outs) client left c.pass.invariant.below c.requires.stands
    (for_caller c.pass.inside.number r.event r.words r.outs c.args.client.now (g.W.Words.stream c.args.words) client (g.W.Words.stream left) x.2)

pub lose-requires-clause-legal : goal.lose-requires-clause-legal
lose-requires-clause-legal g c = loss_legal g.L.ClientKey.opening g.W.Words.stream c.args.client.now c.args.words c.args.entries.now.items c.args.pass.now.number (subst (λ (n : ℕ). n < g.L.ClientKey.opening.callers) (ap (λ (p : Passed). p.number) c.pass.view_is) c.pass.invariant.below) c.requires.stands

pub returns-in-Err-clause-lost : goal.returns-in-Err-clause-lost
returns-in-Err-clause-lost g c =
    desk_lost g.L.ClientKey.table g.L.ClientKey.opening g.W.Words.stream c.args.client.now c.step_and_copy-words.new.client c.args.words c.step_and_copy-words.result.0 c.args.entries.now.items c.args.pass.now.number c.lose.new.desk (subst (λ (n : ℕ). n < g.L.ClientKey.opening.callers) (ap (λ (p : Passed). p.number) c.pass.view_is) c.pass.invariant.below) c.lose.ensures.desk c.requires.stands

pub returns-in-Ok-clause-ok : goal.returns-in-Ok-clause-ok
returns-in-Ok-clause-ok g c =
    let r = c.in-Ok.recorded in
    let old : Passed = c.args.pass.now in
    let new : Passed = c.put-number.new.pass in
    let before : List Entry = c.args.entries.now.items in
    let left = c.step_and_copy-words.result.0 in
    let x = subst (λ o. IfOk o (λ r. (r.event ≡ c.args.copy) × (r.again ≡ r.outs) × StepsTo c.args.client.now (g.W.Words.stream c.args.words) (entry_of 0 r.event r.words r.outs) c.step_and_copy-words.new.client (g.W.Words.stream left))) c.in-Ok.is c.step_and_copy-words.ensures.ok in
    let receipt : Receipt = record { number = c.put-number.result; event = c.args.event; outs = r.again } in
    let number : c.pass.inside.number ≡ old.number = ap (λ (p : Passed). p.number) c.pass.view_is in
    let event : r.event ≡ c.args.event = x.0 ∙ c.requires.copied in
    let outs : r.outs ≡ r.again = sym x.1 in
    let puts : Puts old (map Made before) (Made (entry_of old.number c.args.event r.words r.again)) new = subst (λ (e : Entry). Puts old (map Made before) (Made e) new) (λ i. entry_of (number i) (event i) r.words (outs i)) c.put-number.ensures.pass in
    submitted old new before c.args.event r.words receipt puts c.put-number.ensures.place refl

pub returns-in-Err-clause-numbers : goal.returns-in-Err-clause-numbers
returns-in-Err-clause-numbers g c = λ is.
    let error_is : c.in-Err.error ≡ NumbersUsed = cc is in
    let none : plain_step (g.W.Words.stream c.args.words) c.args.event c.args.client.now ≡ None =
    subst (λ (e : Event). plain_step (g.W.Words.stream c.args.words) e c.args.client.now ≡ None) c.requires.copied (c.step_and_copy-words.ensures.numbers (c.in-Err.is ∙ ap Err error_is)) in
    stopped g.L.ClientKey.opening g.W.Words.stream c.args.client.now c.args.words c.args.entries.now.items c.args.event c.args.pass.now c.lose.new.pass c.requires.stands c.lose.ensures.pass none
