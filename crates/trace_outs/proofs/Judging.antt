-- What is asked of an out is what the definitions say.
use Rattle.std.proofs.Common.{◌≡◌, ℕ, ◌<◌, ◌&&◌, Bool, true, false, length, map, List, [], ◌∷◌, suc, Option, refl, sym, ap, ◌∙◌, subst}
use Rattle.std.specs.Prelude.{nat_lt, is_none}
use Rattle.number_table.specs.Entries.{entry_at}
use Rattle.client_request.specs.declared.event.{Via.Via, Out.Out}
use Rattle.client_request.specs.declared.event.Out.TheVariants.{Start, OpenDgram, OpenStream, Send, Write, Resume, Close, Stale, Reply}
use Rattle.right_trace.specs.Trace.{History, Conf}
use Rattle.right_trace.specs.{Messages.Octets, Right.HasServer}
use Rattle.trace_points.specs.declared.questions.configured.ServerUse.{ServerUse}
use Rattle.trace_points.specs.questions.{Configured.use_of, Streams.TellsWrite}
use Rattle.trace_points.specs.questions.Outs.{OpenIsRight, opens_seen, TellsSend, TellsOpening}
use Rattle.trace_points.proofs.lemmas.questions.Deciding.{both, all, tells_opening}
use Rattle.trace_outs.specs.declared.reasons.point.Point.{Point}
use Rattle.trace_outs.specs.reasons.Point.{Known, has_server_seen}
use Rattle.trace_outs.specs.reasons.{Starting.TellsStart, Closing.TellsClose}
use Rattle.trace_outs.proofs.lemmas.reasons.Shutting.{server_so, so_server}
use Rattle.trace_outs.specs.declared.loads.loads.Loads.{Loads}
use Rattle.trace_outs.specs.declared.loads.held.Held.{Held}
use Rattle.trace_outs.specs.loads.Opening.{TellsOpenStream}
use Rattle.trace_outs.specs.Outs.{may_open_seen, TellsOut}

as_long : (us : List ServerUse) → length (map use_of us) ≡ length us
as_long [] = refl
as_long (u ∷ us) = ap suc (as_long us)

module _ (t : Point) (l : Loads) (d : Held) where
  -- of an out that is this one
  pub of_out : (o : Out) {v : Out} (b : Bool) → o ≡ v → TellsOut t l d v b → TellsOut t l d o b
  of_out o b e tells = subst (λ (o : Out). TellsOut t l d o b) (sym e) tells

  pub tells_server : (b : Bool) → b ≡ has_server_seen t → (c : Conf) (x h end : History) → Known c x h end t → (b ≡ true → HasServer c) × (HasServer c → b ≡ true)
  tells_server b e c x h end known = ((λ u. server_so c x h end t known (sym e ∙ u)), (λ s. e ∙ so_server c x h end t known s))

  pub tells_resume : (p : ℕ) (o : Octets) (b : Bool) → b ≡ has_server_seen t → TellsOut t l d (Resume p o) b
  tells_resume p o b e c x h end known kl kd = tells_server b e c x h end known

  pub tells_mark : (k : ℕ) (b : Bool) → b ≡ has_server_seen t → TellsOut t l d (Stale k) b
  tells_mark k b e c x h end known kl kd = tells_server b e c x h end known

  pub tells_start : (k s : ℕ) (v : Via) (b : Bool) → TellsStart k s v t b → TellsOut t l d (Start k s v) b
  tells_start k s v b tells c x h end known kl kd = tells c x h end known

  pub tells_close : (p : ℕ) (b : Bool) → TellsClose p t b → TellsOut t l d (Close p) b
  tells_close p b tells c x h end known kl kd = tells c x h end known

  pub tells_send : (k p id : ℕ) (o : Octets) (may b : Bool) → TellsSend t.conf.now t.past.now.books t.here.now.books k p id o may → b ≡ (has_server_seen t && may) → TellsOut t l d (Send p k id o) b
  tells_send k p id o may b tells e c x h end known kl kd = (
    (λ u.
        let q = both (has_server_seen t) may (sym e ∙ u) in
        let s = (told x h known.past.books known.here.books).0 q.1 in
        (server_so c x h end t known q.0, s.0, s.1)),
    (λ f. e ∙ all (has_server_seen t) may (so_server c x h end t known f.0) ((told x h known.past.books known.here.books).1 (f.1, f.2))),
  )
    where
      told : TellsSend c t.past.now.books t.here.now.books k p id o may
      told = subst (λ (v : Conf). TellsSend v t.past.now.books t.here.now.books k p id o may) known.conf tells

  pub tells_write : (k p id : ℕ) (o : Octets) (may b : Bool) → TellsWrite t.conf.now t.past.now.books t.here.now k p id o may → b ≡ (has_server_seen t && may) → TellsOut t l d (Write p k id o) b
  tells_write k p id o may b tells e c x h end known kl kd = (
    (λ u. (let q = both (has_server_seen t) may (sym e ∙ u) in (server_so c x h end t known q.0, (told x h known.past.books known.here).0 q.1))),
    (λ f. e ∙ all (has_server_seen t) may (so_server c x h end t known f.0) ((told x h known.past.books known.here).1 f.1)),
  )
    where
      told : TellsWrite c t.past.now.books t.here.now k p id o may
      told = subst (λ (v : Conf). TellsWrite v t.past.now.books t.here.now k p id o may) known.conf tells

  opening_is : (c : Conf) (x h end : History) → Known c x h end t → (p s : ℕ) → may_open_seen p s t ≡ opens_seen c p s t.here.now.books
  opening_is c x h end known p s = ap (λ (n : ℕ). nat_lt s n && is_none (entry_at p t.here.now.books.places)) (sym (ap length known.servers ∙ as_long t.servers.now))

  pub tells_dgram : (p s : ℕ) (b : Bool) → b ≡ may_open_seen p s t → TellsOut t l d (OpenDgram p s) b
  tells_dgram p s b e c x h end known kl kd = tells_opening c p s t.here.now.books b (e ∙ opening_is c x h end known p s) h known.here.books

  pub tells_stream : (p s : ℕ) (free may b : Bool) → free ≡ may_open_seen p s t → TellsOpenStream s t.here.now.books.places l d may → b ≡ (free && may) → TellsOut t l d (OpenStream p s) b
  tells_stream p s free may b ef tells e c x h end known kl kd = (
    (λ u.
        let q = both free may (sym e ∙ u) in
        let o = opens.0 q.0 in
        (o.0, o.1, (tells c h known.here.books.places kl kd).0 q.1, o.2)),
    (λ f. e ∙ all free may (opens.1 (f.0, f.1, f.3)) ((tells c h known.here.books.places kl kd).1 f.2)),
  )
    where
      opens : (free ≡ true → OpenIsRight c p s h) × (OpenIsRight c p s h → free ≡ true)
      opens = tells_opening c p s t.here.now.books free (ef ∙ opening_is c x h end known p s) h known.here.books
