use Rattle.std.proofs.Common.{◌≡◌, true, false, sym, ◌∙◌, ap}
use Rattle.std.specs.Option.{is_some}
use Rattle.client_request.specs.Numbered.{entry_at}
use Rattle.client_stream.proofs.GivingUp.{unknown, stays_held, is_free}
use Rattle.client_stream.proofs.line.give_up.Goals as goal

pub returns-in_default : goal.returns-in_default
returns-in_default g c =
    let absent : is_some (entry_at c.args.ticket c.line.inside.queue) ≡ false = ap is_some (sym c.remove.ensures.value) ∙ sym c.is_some.ensures ∙ c.if-is_some.false in
    unknown c.args.ticket c.args.line.now _ c.remove-2.new.self c.remove.new.self c.line.view_is absent c.remove.ensures.entries c.in_default.ensures.entries c.in_default.ensures.value

pub returns-then-is_some-2 : goal.returns-then-is_some-2
returns-then-is_some-2 g c =
    let absent : is_some (entry_at c.args.ticket c.line.inside.queue) ≡ false = ap is_some (sym c.remove.ensures.value) ∙ sym c.is_some.ensures ∙ c.if-is_some.false in
    let held : is_some (entry_at c.in-Some.id c.line.inside.held.held) ≡ true = ap is_some (sym c.try_remove.ensures.item) ∙ sym c.is_some-2.ensures ∙ c.if-is_some-2.true in
    stays_held c.args.ticket c.args.line.now _ c.remove-2.new.self c.remove.new.self c.line.view_is absent c.remove.ensures.entries c.in-Some.ensures.entries c.in-Some.id c.in-Some.ensures.value
    c.try_remove.new.self c.insert_at.new.self held c.try_remove.ensures.removed c.insert_at.ensures

pub returns-else-is_some-2 : goal.returns-else-is_some-2
returns-else-is_some-2 g c =
    let absent : is_some (entry_at c.args.ticket c.line.inside.queue) ≡ false = ap is_some (sym c.remove.ensures.value) ∙ sym c.is_some.ensures ∙ c.if-is_some.false in
    let free : is_some (entry_at c.in-Some.id c.line.inside.held.held) ≡ false = ap is_some (sym c.try_remove.ensures.item) ∙ sym c.is_some-2.ensures ∙ c.if-is_some-2.false in
    is_free c.args.ticket c.args.line.now _ c.remove-2.new.self c.remove.new.self c.line.view_is absent c.remove.ensures.entries c.in-Some.ensures.entries c.in-Some.id c.in-Some.ensures.value
    c.try_remove.new.self free (λ none. c.try_remove.ensures.none (c.try_remove.ensures.item ∙ none))
