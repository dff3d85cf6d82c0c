use Rattle.std.proofs.Common.{◌≡◌, ℕ, true, false, Some, List, [], ◌∷◌, refl, sym, ◌∙◌, ap}
use Rattle.std.specs.Prelude.{not}
use Rattle.std.specs.Option.{is_some}
use Rattle.client_request.specs.Cx.{view_of}
use Rattle.client_request.specs.Requests.{Requests}
use Rattle.client_request.specs.View.{View}
use Rattle.client_stream.specs.Plain as plain
use Rattle.client_stream.specs.Plain.{Line}
use Rattle.client_settings.specs.Stream.{Settings}
use Rattle.client_stream.specs.declared.request.QueuedRequest.{QueuedRequest}
use Rattle.client_stream.proofs.Taking.{with_queue, goes_on}
use Rattle.client_stream.proofs.writing.pump.Goals as goal

-- While a frame is being written no request is taken.
stays : {R M : Type 0} (one : Requests R) (several : Requests M) (place : ℕ) (settings : Settings) (queue : List (ℕ × QueuedRequest R M)) (s : Line R M) (v : View) → is_some s.writing ≡ true → plain.pumps one several place settings queue s v ≡ Some (s, v)
stays one several place settings [] s v h = refl
stays one several place settings (entry ∷ queue) s v h = rw h refl

pub returns : goal.returns
returns g c =
    let there : is_some c.loop-line.line.writing ≡ true = ap (λ s. is_some s.writing) (sym c.line.view_is) ∙ c.is_none.ensures ∙ ap not c.loop-line-test.false in
    record {
      follows = record {
        lends = c.loop-line.invariant.lends;
        ok = (
            sym c.loop-line.invariant.same
            ∙ stays g.Req.Compose.requests g.ReqMulti.Compose.requests c.args.place c.args.config.now c.loop-line.line.queue c.loop-line.line (view_of g.W.Words.stream c.loop-line.cx) there);
        numbers = λ e. absurd (cc);
        want = tt;
      };
    }

pub loop-line-preserved : goal.loop-line-preserved
loop-line-preserved g c =
    let free : is_some c.loop-line.line.writing ≡ false = ap (λ s. is_some s.writing) (sym c.line.view_is) ∙ c.is_none.ensures ∙ ap not c.loop-line-test.true in
    let first : c.loop-line.line.queue ≡ (c.in-Some.ticket, c.in-Some.waiting) ∷ c.pop_first.new.self = ap (λ s. s.queue) (sym c.line.view_is) ∙ c.in-Some.ensures.removal in
    let taken = c.in_ok-take_queued.ensures.follows in
    let before = c.loop-line.invariant in
    record {
      lends = record {
        words = taken.lends.words ∙ before.lends.words;
        outs = taken.lends.outs ∙ before.lends.outs;
        board = taken.lends.board ∙ before.lends.board;
        timers = taken.lends.timers ∙ before.lends.timers;
      };
      same = (
          goes_on g.Req.Compose.requests g.ReqMulti.Compose.requests c.args.place c.args.config.now c.loop-line.line (view_of g.W.Words.stream c.loop-line.cx) (c.in-Some.ticket, c.in-Some.waiting) c.pop_first.new.self _ _
          free first (ap (with_queue c.pop_first.new.self) c.line.view_is) taken.ok
          ∙ before.same);
    }
