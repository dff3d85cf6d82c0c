use Rattle.std.proofs.Common.{◌≡◌, Some, sym, ◌∙◌, ap, subst}
use Rattle.std.specs.Prelude.{OnOk}
use Rattle.dns_base.specs.Header.{id_of}
use Rattle.client_request.specs.Cx.{view_of}
use Rattle.client_stream.specs.Plain as plain
use Rattle.client_stream.proofs.Taking.{releases}
use Rattle.client_stream.proofs.hearing.release.Goals as goal

pub returns : goal.returns
returns g c =
    let id : c.id-id.result ≡ plain.message_id c.args.message = c.id-id.ensures ∙ ap id_of c.header.ensures in
    let given = c.in_ok-deliver.ensures.leaves in
    let last = c.become_idle_if_unused.ensures.follows in
    let step = releases g.Req.Compose.requests g.ReqMulti.Compose.requests c.args.place c.args.message c.args.line.now _ (view_of g.W.Words.stream c.args.cx.now) _ _ c.in-Some.holder _
    c.line.view_is id c.in-Some.ensures.item c.in-Some.ensures.removed given.ok in
    record {
      follows = record {
        lends = record {
          words = last.lends.words ∙ given.lends.words;
          outs = last.lends.outs ∙ given.lends.outs;
          board = last.lends.board ∙ given.lends.board;
          timers = last.lends.timers ∙ given.lends.timers;
        };
        ok = subst (λ after. OnOk c.become_idle_if_unused.result (after ≡ Some (c.become_idle_if_unused.new.line, view_of g.W.Words.stream c.become_idle_if_unused.new.cx))) (sym step) last.ok;
        numbers = λ e. step ∙ last.numbers e;
        want = last.want;
      };
    }
