use Rattle.std.proofs.Common.{rules, ℕ, Bool, Ok, Err, refl, ap, subst, sym, ◌∙◌}
use Rattle.stream_turns.specs.Turns.{client_with}
use Rattle.zone_transfer.specs.Fetching.{IsCut, RefusesPart, TakesParts}
use Rattle.zone_transfer.specs.Turning.{scene}
use Rattle.zone_transfer.proofs.Ending.{completed, cut_here, held_step, never, stopped}
use Rattle.zone_transfer.proofs.Turns.{Going, going_first, going_more}
use Rattle.zone_transfer.proofs.asked.Asked.read_all.Goals as goal

pub turns-init : goal.turns-init
turns-init g c = record {
  going =
      going_first c.args.reading.now.state (client_with (g.W.Words.stream c.args.words.now) c.args.self.now.transfer) c.args.self.now.left
      (scene (g.E.Edge.deeds c.args.edge.now) (g.E.Edge.polls c.args.edge.now) (g.C.Clock.given c.args.clock.now));
  most = refl;
  ticket = c.requires.ticket;
  open_yet = c.requires.open;
  lasts = c.requires.lasts;
}

pub returns-in-Err-clause-cause : goal.returns-in-Err-clause-cause
returns-in-Err-clause-cause g c =
    let first = client_with (g.W.Words.stream c.args.words.now) c.args.self.now.transfer in
    let last = client_with (g.W.Words.stream c.turns.words) c.turns.self.transfer in
    let old = scene (g.E.Edge.deeds c.args.edge.now) (g.E.Edge.polls c.args.edge.now) (g.C.Clock.given c.args.clock.now) in
    let new = scene (g.E.Edge.deeds c.turns.edge) (g.E.Edge.polls c.turns.edge) (g.C.Clock.given c.turns.clock) in
    cut_here c.args.reading.now.state c.turns.reading.state first last c.args.self.now.left c.turns.self.left c.args.reading.now.most old new c.turns.invariant.going c.in-Err.fault
    (subst (λ (n : ℕ). RefusesPart n c.turns.reading.state c.turns.self.transfer.layer.board c.in-Err.fault) c.turns.invariant.most c.in-Err.ensures.parts)

pub returns-then-ended-clause-ended : goal.returns-then-ended-clause-ended
returns-then-ended-clause-ended g c =
    let first = client_with (g.W.Words.stream c.args.words.now) c.args.self.now.transfer in
    let last = client_with (g.W.Words.stream c.turns.words) c.turns.self.transfer in
    let old = scene (g.E.Edge.deeds c.args.edge.now) (g.E.Edge.polls c.args.edge.now) (g.C.Clock.given c.args.clock.now) in
    let new = scene (g.E.Edge.deeds c.turns.edge) (g.E.Edge.polls c.turns.edge) (g.C.Clock.given c.turns.clock) in
    completed c.args.reading.now.state c.turns.reading.state first last c.args.self.now.left c.turns.self.left c.args.reading.now.most old new c.turns.invariant.going c.take_parts.new.reading.state c.take_parts.new.self.transfer.layer.board
    (subst (λ (b : Bool). TakesParts c.turns.reading.most c.turns.reading.state c.turns.self.transfer.layer.board (Ok b) c.take_parts.new.self.transfer.layer.board c.take_parts.new.reading.state) c.if-ended.true c.in-Ok.ensures.parts)

pub returns-then-self-eq0-clause-cause : goal.returns-then-self-eq0-clause-cause
returns-then-self-eq0-clause-cause g c =
    let first = client_with (g.W.Words.stream c.args.words.now) c.args.self.now.transfer in
    let last = client_with (g.W.Words.stream c.turns.words) c.turns.self.transfer in
    let old = scene (g.E.Edge.deeds c.args.edge.now) (g.E.Edge.polls c.args.edge.now) (g.C.Clock.given c.args.clock.now) in
    let new = scene (g.E.Edge.deeds c.turns.edge) (g.E.Edge.polls c.turns.edge) (g.C.Clock.given c.turns.clock) in
    let parts = subst (λ (b : Bool). TakesParts c.turns.reading.most c.turns.reading.state c.turns.self.transfer.layer.board (Ok b) c.take_parts.new.self.transfer.layer.board c.take_parts.new.reading.state) c.if-ended.false c.in-Ok.ensures.parts in
    never c.args.reading.now.state c.turns.reading.state first last c.args.self.now.left c.turns.self.left c.args.reading.now.most old new c.turns.invariant.going c.take_parts.new.reading.state c.take_parts.new.self.transfer.layer.board
    parts.0 parts.1 (sym c.in-Ok.ensures.left ∙ c.if-self-eq0.true)

pub turns-preserved : goal.turns-preserved
turns-preserved g c =
    let first = client_with (g.W.Words.stream c.args.words.now) c.args.self.now.transfer in
    let last = client_with (g.W.Words.stream c.turns.words) c.turns.self.transfer in
    let next = client_with (g.W.Words.stream c.turn.new.words) c.turn.new.transfer in
    let old = scene (g.E.Edge.deeds c.args.edge.now) (g.E.Edge.polls c.args.edge.now) (g.C.Clock.given c.args.clock.now) in
    let mid = scene (g.E.Edge.deeds c.turns.edge) (g.E.Edge.polls c.turns.edge) (g.C.Clock.given c.turns.clock) in
    let new = scene (g.E.Edge.deeds c.turn.new.edge) (g.E.Edge.polls c.turn.new.edge) (g.C.Clock.given c.turn.new.clock) in
    let rest = c.take_parts.new.self.transfer.layer.board in
    let parts = subst (λ (b : Bool). TakesParts c.turns.reading.most c.turns.reading.state c.turns.self.transfer.layer.board (Ok b) rest c.take_parts.new.reading.state) c.if-ended.false c.in-Ok.ensures.parts in
    record {
      going =
          going_more c.args.reading.now.state c.turns.reading.state c.take_parts.new.reading.state first last next c.args.self.now.left c.take_parts.new.self.left old mid new rest c.in-Ok-turn.row
          (subst (λ (n : ℕ). Going c.args.reading.now.state first c.args.self.now.left old mid c.turns.reading.state last n) (sym c.in-Ok.ensures.left) c.turns.invariant.going) (search rules) parts.0 parts.1
          c.in-Ok-turn.ensures.turn
          (held_step (g.W.Words.stream c.turns.words) c.turns.self.transfer c.take_parts.new.self.transfer rest c.in-Ok-turn.row.event c.in-Ok-turn.row next c.in-Ok.ensures.rest c.in-Ok-turn.ensures.row)
          c.in-Ok-turn.ensures.polls c.in-Ok-turn.ensures.moment;
      most = c.in-Ok.ensures.most ∙ c.turns.invariant.most;
      ticket = c.in-Ok.ensures.ticket;
      open_yet = (search rules);
      lasts = c.in-Ok-turn.ensures.lasts;
    }

pub returns-in-Err-turn-clause-cause : goal.returns-in-Err-turn-clause-cause
returns-in-Err-turn-clause-cause g c =
    let first = client_with (g.W.Words.stream c.args.words.now) c.args.self.now.transfer in
    let old = scene (g.E.Edge.deeds c.args.edge.now) (g.E.Edge.polls c.args.edge.now) (g.C.Clock.given c.args.clock.now) in
    let mid = scene (g.E.Edge.deeds c.turns.edge) (g.E.Edge.polls c.turns.edge) (g.C.Clock.given c.turns.clock) in
    let new = scene (g.E.Edge.deeds c.turn.new.edge) (g.E.Edge.polls c.turn.new.edge) (g.C.Clock.given c.turn.new.clock) in
    let rest = c.take_parts.new.self.transfer.layer.board in
    let parts = subst (λ (b : Bool). TakesParts c.turns.reading.most c.turns.reading.state c.turns.self.transfer.layer.board (Ok b) rest c.take_parts.new.reading.state) c.if-ended.false c.in-Ok.ensures.parts in
    subst (IsCut c.args.reading.now.state first c.args.self.now.left old new c.args.reading.now.most) (sym c.fault_of.ensures)
    (stopped c.args.reading.now.state c.turns.reading.state c.take_parts.new.reading.state first c.args.self.now.left c.turns.self.left c.args.reading.now.most old mid new c.turns.self.transfer c.take_parts.new.self.transfer
    (g.W.Words.stream c.turns.words) c.turns.invariant.going rest c.in-Err-turn.error parts.0 parts.1 c.in-Ok.ensures.rest c.turns.invariant.lasts c.in-Err-turn.ensures.refused
    (λ e. c.in-Err-turn.ensures.failed_only (ap Err e)) (λ e. c.in-Err-turn.ensures.numbers (ap Err e)))
