-- A request whose answer was cut goes on by stream, in one server's part.
use Rattle.std.proofs.Common.{◌≡◌, ℕ, ◌<◌, Bool, true, false, ◌||◌, ◌⊎◌, inl, inr, Some, None, [], ◌∷◌, is_some, refl, arith, ◌∙◌, sym, subst, ap, length}
use Rattle.std.specs.Prelude.{if◌then◌else◌}
use Rattle.std.proofs.lemmas.Bool.Decides.{nat_tests}
use Rattle.client_request.specs.declared.event.What.{What}
use Rattle.client_request.specs.declared.event.Out.TheVariants.{Start}
use Rattle.client_request.specs.declared.event.Via.TheVariants.{Stream}
use Rattle.right_trace.specs.Trace.{History, Conf, Put}
use Rattle.right_trace.specs.Time.{now}
use Rattle.right_trace.specs.Requests.{start, started, is_start, replied, handed}
use Rattle.right_trace.specs.Places.{reach}
use Rattle.right_trace.specs.Orderly.{AfterCutAnswer}
use Rattle.right_trace.specs.Right.{ServerOutsRight}
use Rattle.proof_right.specs.machine.Streams.{Puts, Asker}
use Rattle.right_trace.specs.Updates.{with_at}
use Rattle.proof_right.specs.machine.Dgrams.{Cut, Tryer, forget}
use Rattle.proof_right.specs.machine.Served.{Served, has_moved, does}
use Rattle.proof_right.proofs.PartLaws.{Keeps, none_more, this_one}
use Rattle.proof_right.proofs.server.Kept.{Kept}
use Rattle.proof_right.proofs.server.DgramKept.{placed, StageFits}
use Rattle.proof_right.proofs.server.DgramMoves.{forgets, kept_put_d}
use Rattle.proof_right.proofs.server.Views.{each_at, each_other}
use Rattle.proof_right.proofs.server.Fitting.{BegunBy, Fits}
use Rattle.proof_right.proofs.server.Moved.{Moved, fits_after, others_all}
use Rattle.proof_right.proofs.server.Keeping.{quiet_other, same_conns, settled_less, by_dgram_less}
use Rattle.proof_right.proofs.server.Handing.{handed_put, none_started}
use Rattle.proof_right.specs.machine.Streams as multi
use Rattle.proof_right.specs.machine.Server as server
use Rattle.proof_right.proofs.server.Opening as opening

module _ (c : Conf) (s next k : ℕ) (past : History) (w : What) (u : Served) (h : History) (f : Fits c s past w u h) (a : Tryer) (held : u.server.by_dgram.held k ≡ Some a) (stage : a.stage ≡ Cut) where
  unstreamed : started k s Stream h ≡ false
  unstreamed = (f.dgrams.held k a held).unstreamed

  was_handed : handed k s h ≡ true
  was_handed = (let z = (f.dgrams.held k a held).has_it in rw z refl)

  -- nobody more is handed over
  this_has : (j t : ℕ) → (this_one k s j t || handed j t h) ≡ handed j t h
  this_has j t = go (this_one k s j t) refl
    where
      go : (b : Bool) → this_one k s j t ≡ b → (b || handed j t h) ≡ handed j t h
      go false e = refl
      go true e = (let is : (k ≡ j) × (s ≡ t) = (grind (arith, nat_tests), grind (arith, nat_tests)) in let z : handed j t h ≡ true = ap (λ t. handed j t h) (sym is.1) ∙ (ap (λ j. handed j s h) (sym is.0) ∙ was_handed) in sym z)

  hands : (j t : ℕ) → handed j t (Put (Start k s Stream) ∷ h) ≡ handed j t h
  hands j t = handed_put k s Stream h j t ∙ this_has j t

  begun : BegunBy s (Put (Start k s Stream) ∷ h)
  begun p j i y at x = still (is_start j s Stream (Start k s Stream)) (f.begun p j i y at x)
    where
      still : (b : Bool) → started j s Stream h ≡ true → is_some (if b then Some (now h) else start j s Stream h) ≡ true
      still true e = refl
      still false e = e

  falls : Moved c s past w u h f (server.falls_back k u.clock a u.server) (Start k s Stream ∷ [])
  falls =
      let g = f.dgrams.held k a held in
      let none = none_started k s h unstreamed in
      record {
        streams = subst (λ n. Kept c s past w u.pending f.fr f.more (record u.server.by_stream { asks = with_at k (Some (record { request = a.request; since = n; phase = multi.Free })) u.server.by_stream.asks }) (Put (Start k s Stream) ∷ h)) (sym f.clock) (opening.begins c s past w u.pending f.fr f.more u.server.by_stream h k a.request (g.asked.0) f.streams g.asked.1 none);
        dgrams = kept_put_d c s past w u.pending (forget k u.server.by_dgram) (Start k s Stream) h (quiet_other s (forget k u.server.by_dgram) (Start k s Stream) h (λ j b e. (let ne = apart j b e in grind (arith, nat_tests))) (λ q. refl) refl) (forgets c s past w u.pending u.server.by_dgram h k a f.dgrams held (ap placed stage));
        conns = same_conns u.server.by_stream.conns;
        asks = each_at (λ j b. ((b : Asker) × (u.server.by_stream.asks j ≡ Some b)) ⊎ (start j s Stream h ≡ None)) k (record { request = a.request; since = u.clock; phase = multi.Free }) u.server.by_stream.asks (inr none) (λ j b ne e. inl (b, e));
        held = λ j b e. by_dgram_less c s past w u h f k j b e;
        settled = settled_less c s past w u h f k;
        one_id = f.one_id;
        begun = begun;
        unsent = λ j e. f.unsent j (sym (hands j s) ∙ e);
      }
    where
      apart : (j : ℕ) (b : Tryer) → with_at k None u.server.by_dgram.held j ≡ Some b → (k ≡ j → ⊥)
      apart = each_other (λ j b. k ≡ j → ⊥) k u.server.by_dgram.held (λ j b ne e. ne)

  pub falls_keeps : next ≡ reach h → Keeps Served (Fits c) none_more s past w h (does (has_moved (server.falls_back k u.clock a u.server) u) next (Puts (Start k s Stream)))
  falls_keeps is = record {
    fits = fits_after c s past w u h f (server.falls_back k u.clock a u.server) (Start k s Stream ∷ []) falls;
    others = λ t y ne g. others_all c s t past w y (Start k s Stream ∷ []) h (λ e. ne (sym e)) (refl, tt) g;
    silent = λ j. refl;
    handed_on = hands;
    reaches = is;
  }

  pub falls_right : s < length c.servers → replied k past ≡ false → (end : History) → ServerOutsRight c past w end h (Start k s Stream ∷ [])
  falls_right lt un end =
      let g = f.dgrams.held k a held in
      let cut : StageFits c s k a.request past w u.pending h Cut = subst (λ st. StageFits c s k a.request past w u.pending h st) stage (f.dgrams.held k a held).stage in
      ((omega arith, AfterCutAnswer (f.by_dgram k a held) unstreamed (cut un), (record { request = a.request; moment = g.asked.0 }, g.asked.1)), tt)
