use Rattle.std.proofs.Common.{rules, ◌≡◌, ◌<◌, ℕ, sym, ap, subst, ◌∙◌}
use Rattle.std.specs.Prelude.{IfOk}
use Rattle.client_shared.specs.declared.entry.Entry.{Entry}
use Rattle.client_shared.specs.declared.entry.Item.TheVariants.{Made}
use Rattle.client_shared.specs.declared.entry.Receipt.{Receipt}
use Rattle.client_shared.specs.History.{Passed, Puts, StepsTo, entry_of}
use Rattle.client_shared.proofs.Counting.{tells_legal, loses_legal, counts_on, told, refuses, counted}
use Rattle.client_shared.proofs.Histories.{for_caller}
use Rattle.client_shared.proofs.unjournaled.step_and_tell.Goals as goal

pub tell-receipt-requires-clause-legal : goal.tell-receipt-requires-clause-legal
tell-receipt-requires-clause-legal g c =
    let r = c.in-Ok.recorded in
    let left = c.step-words.result.0 in
    let client = c.step-words.new.client in
    let x = subst (λ o. IfOk o (λ r. (r.event ≡ c.args.event) × StepsTo c.args.client.now (g.W.Words.stream c.args.words) (entry_of 0 r.event r.words r.outs) client (g.W.Words.stream left))) c.in-Ok.is c.step-words.ensures.ok in
    tells_legal g.L.ClientKey.table g.L.ClientKey.opening g.W.Words.stream c.args.client.now c.args.words c.args.count c.args.keeper.now c.requires.counting (entry_of c.pass.inside.number r.event r.words r.outs) client left c.pass.invariant.below
    (for_caller c.pass.inside.number r.event r.words r.outs c.args.client.now (g.W.Words.stream c.args.words) client (g.W.Words.stream left) x.1)

pub forget-requires-clause-legal : goal.forget-requires-clause-legal
forget-requires-clause-legal g c =
    loses_legal g.L.ClientKey.table g.L.ClientKey.opening g.W.Words.stream c.args.client.now c.args.words c.args.count c.args.keeper.now c.requires.counting c.args.pass.now.number
    (subst (λ (n : ℕ). n < g.L.ClientKey.opening.callers) (ap (λ (p : Passed). p.number) c.pass.view_is) c.pass.invariant.below)

pub returns-in-Ok-clause-counting : goal.returns-in-Ok-clause-counting
returns-in-Ok-clause-counting g c =
    let r = c.in-Ok.recorded in
    let left = c.step-words.result.0 in
    let client = c.step-words.new.client in
    let x = subst (λ o. IfOk o (λ r. (r.event ≡ c.args.event) × StepsTo c.args.client.now (g.W.Words.stream c.args.words) (entry_of 0 r.event r.words r.outs) client (g.W.Words.stream left))) c.in-Ok.is c.step-words.ensures.ok in
    counts_on g.L.ClientKey.table g.L.ClientKey.opening g.W.Words.stream c.args.client.now c.args.words c.args.count c.args.keeper.now c.requires.counting (entry_of c.pass.inside.number r.event r.words r.outs) client left c.tell-receipt.new.keeper c.pass.invariant.below
    (for_caller c.pass.inside.number r.event r.words r.outs c.args.client.now (g.W.Words.stream c.args.words) client (g.W.Words.stream left) x.1)
    c.tell-receipt.ensures.keeper

pub returns-in-Ok-clause-ok : goal.returns-in-Ok-clause-ok
returns-in-Ok-clause-ok g c =
    let r = c.in-Ok.recorded in
    let old : Passed = c.args.pass.now in
    let new : Passed = c.tell-receipt.new.pass in
    let receipt : Receipt = c.tell-receipt.result in
    let x = subst (λ o. IfOk o (λ r. (r.event ≡ c.args.event) × StepsTo c.args.client.now (g.W.Words.stream c.args.words) (entry_of 0 r.event r.words r.outs) c.step-words.new.client (g.W.Words.stream c.step-words.result.0))) c.in-Ok.is c.step-words.ensures.ok in
    let said = c.tell-receipt.ensures.receipt in
    let number : c.pass.inside.number ≡ old.number = ap (λ (p : Passed). p.number) c.pass.view_is in
    let puts : Puts old c.args.keeper.now.me.0.seen (Made (entry_of old.number c.args.event r.words receipt.outs)) new =
    subst (λ (e : Entry). Puts old c.args.keeper.now.me.0.seen (Made e) new) (λ i. entry_of (number i) (x.0 i) r.words (sym said.2 i)) c.tell-receipt.ensures.pass in
    told g.L.ClientKey.table g.L.ClientKey.opening g.W.Words.stream c.args.client.now c.args.words c.args.count c.args.keeper.now c.requires.counting old new c.args.event r.words receipt puts said.0 (said.1 ∙ x.0)

pub returns-in-Err-clause-refused : goal.returns-in-Err-clause-refused
returns-in-Err-clause-refused g c =
    (search rules, refuses g.L.ClientKey.table g.L.ClientKey.opening g.W.Words.stream c.args.client.now c.args.words c.args.count c.args.keeper.now c.requires.counting c.args.pass.now c.forget.new.pass c.forget.ensures.pass)

pub returns-in-Err-clause-lost : goal.returns-in-Err-clause-lost
returns-in-Err-clause-lost g c =
    counted g.L.ClientKey.table g.L.ClientKey.opening g.W.Words.stream c.args.client.now c.args.words c.args.count c.args.keeper.now c.requires.counting c.args.pass.now.number c.step-words.new.client c.step-words.result.0 c.forget.new.keeper
    (subst (λ (n : ℕ). n < g.L.ClientKey.opening.callers) (ap (λ (p : Passed). p.number) c.pass.view_is) c.pass.invariant.below) c.forget.ensures.keeper
