-- The server is asked, and a word drawn.
use Rattle.std.proofs.Common.{ap, sym, ◌∙◌, ◌++◌, ◌∷◌, []}
use Rattle.client_request.specs.Request.{recorded_from}
use Rattle.client_request.specs.declared.event.What.TheVariants.{Ask}
use Rattle.dns_script.specs.Generated.{after, host_query}
use Rattle.dns_script.proofs.Turning.{turned}
use Rattle.dns_script.proofs.generating.Turns.turn.Goals as goal

pub returns-in_ok-answer : goal.returns-in_ok-answer
returns-in_ok-answer c =
    turned c.args.turn c.args.self.now c.add.new.self (record c.add.new.self { words = c.push.new.self }) c.answer.new.self (sym c.is_asked.ensures ∙ c.if-is_asked.true)
    (c.in_ok-add.ensures
    ∙ ap (λ request. record c.args.self.now { events = c.args.self.now.events ++ after c.args.turn 0 (Ask request) ∷ [] }) (c.in_ok-request.ensures ∙ ap (λ host. recorded_from (host_query host)) c.host_of.ensures.host))
    (ap (λ words. record c.add.new.self { words = words }) c.in_ok-push.ensures.ok)
    c.in_ok-answer.ensures
