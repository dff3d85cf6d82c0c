use Rattle.std.proofs.Common.{ap, sym, ◌∙◌, ◌+◌, ◌-◌, ◌<◌, ◌≤◌, length, rules}
use Rattle.client_choice.specs.Bursts as plain
use Rattle.client_choice.proofs.Surveying.{surveys-step, surveys-done}
use Rattle.client_choice.proofs.load_balancer.bursts.survey.Goals as goal

pub loop-index-preserved : goal.loop-index-preserved
loop-index-preserved g c =
    let within : c.loop-index.index < length c.args.servers.now = search rules in
    let before : plain.Survey = record { limits = c.loop-index.limits.items; candidates = c.loop-index.candidates.items } in
    ap (λ y. plain.surveys c.args.now (c.loop-index.index + 1) (length c.args.servers.now - (c.loop-index.index + 1)) c.args.servers.now y) c.in_ok-survey_one.ensures
    ∙ (sym (surveys-step c.args.now c.loop-index.index (length c.args.servers.now) c.args.servers.now before within) ∙ c.loop-index.invariant)

pub returns : goal.returns
returns g c =
    let past : length c.args.servers.now ≤ c.loop-index.index = search rules in
    let all : plain.Survey = record { limits = c.loop-index.limits.items; candidates = c.loop-index.candidates.items } in
    sym (surveys-done c.args.now c.loop-index.index (length c.args.servers.now) c.args.servers.now all past) ∙ c.loop-index.invariant
