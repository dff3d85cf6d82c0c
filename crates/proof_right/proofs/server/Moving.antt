-- The moves by stream of one server's part keep all that is known.
use Rattle.std.proofs.Common.{◌≡◌, ◌≢◌, ℕ, ◌<◌, Bool, true, false, ◌&&◌, ◌⊎◌, inl, inr, Option, Some, None, List, [], ◌∷◌, refl, arith, ◌∙◌, sym, subst, subst₂, ap, ◌==◌, length}
use Rattle.std.specs.Prelude.{if◌then◌else◌}
use Rattle.std.proofs.lemmas.Bool.{cases_eq, eqb-true}
use Rattle.std.proofs.lemmas.Bool.Decides.{nat_tests}
use Rattle.client_request.specs.declared.event.What.{What}
use Rattle.client_request.specs.declared.event.Out.TheVariants.{OpenStream, Write, Close}
use Rattle.client_request.specs.declared.event.Via.TheVariants.{Stream}
use Rattle.right_trace.specs.Trace.{History, Conf, Put, put_all}
use Rattle.right_trace.specs.Time.{now}
use Rattle.right_trace.specs.Messages.{Octets, CarriesInFrame}
use Rattle.right_trace.specs.Requests.{replied, start, started, handed}
use Rattle.right_trace.specs.Places.{site, is_site, is_at, opens_as, reach}
use Rattle.right_trace.specs.Writes.{Written, IsWritten, waiting_with}
use Rattle.right_trace.specs.Exchanges.{octets_for, IsAmong}
use Rattle.right_trace.specs.Orderly.{MayWrite, ReadTimer, IdleTimer}
use Rattle.right_trace.specs.Right.{ServerOutsRight}
use Rattle.right_trace.specs.Busy.{ByReadTimer}
use Rattle.proof_right.specs.machine.Streams.{Act, Puts, Gives, Nothing, Asker, Conn, Multi, Moves}
use Rattle.right_trace.specs.Updates.{with_at}
use Rattle.proof_right.specs.machine.Served.{Served, has_moved, does, outs_of, place_after}
use Rattle.proof_right.proofs.PartLaws.{Keeps, none_more}
use Rattle.proof_right.proofs.server.Kept.{listed, ConnFits, Kept}
use Rattle.proof_right.proofs.server.Views.{each_at, each_other}
use Rattle.proof_right.proofs.server.Untold.{was_alive}
use Rattle.proof_right.proofs.server.DgramMoves.{kept_put_d}
use Rattle.proof_right.proofs.server.Ending.{every_some, conn_below, ends, idle_ends, idle_is_due, may_close}
use Rattle.proof_right.proofs.server.Begun.{written_of}
use Rattle.proof_right.proofs.server.Fitting.{Fits}
use Rattle.proof_right.proofs.server.Moved.{Moved, fits_after, AreOf, others_all}
use Rattle.proof_right.proofs.server.Keeping.{close_other, open_other, quiet_other, same_conns}
use Rattle.proof_right.specs.machine.Streams as multi
use Rattle.proof_right.proofs.server.Silent as silent
use Rattle.proof_right.proofs.server.Opening as opening
use Rattle.proof_right.proofs.server.Writing as writing

module _ (c : Conf) (s : ℕ) (past : History) (w : What) (u : Served) (h : History) (f : Fits c s past w u h) where
  abbrev m : Multi
  m = u.server.by_stream

  abbrev AskLeft : (ℕ → Option Asker) → Type 0
  AskLeft asks = (k : ℕ) (a : Asker) → asks k ≡ Some a → ((b : Asker) × (m.asks k ≡ Some b)) ⊎ (start k s Stream h ≡ None)

  left_at : (k : ℕ) (a b : Asker) → m.asks k ≡ Some a → AskLeft (with_at k (Some b) m.asks)
  left_at k a b e = each_at (λ j x. ((y : Asker) × (m.asks j ≡ Some y)) ⊎ (start j s Stream h ≡ None)) k b m.asks (inl (a, e)) (λ j x ne g. inl (x, g))

  left_every : (g : multi.Phase → multi.Phase) → AskLeft (λ k. multi.every g (m.asks k))
  left_every g k a e = (let y = every_some g (m.asks k) a e in inl (y.0, y.1))

  -- nothing is put out
  silent_move : (m' : Multi) → Kept c s past w u.pending f.fr f.more m' h → ((q : ℕ) (x : Conn) → m'.conns q ≡ Some x → (y : Conn) × (m.conns q ≡ Some y) × (x.heard ≡ y.heard)) → AskLeft m'.asks → Moved c s past w u h f (record u.server { by_stream = m' }) []
  silent_move m' kept conns asks = record { streams = kept; dgrams = f.dgrams; conns = conns; asks = asks; held = f.by_dgram; settled = f.settled; one_id = f.one_id; begun = f.begun; unsent = f.unsent }

  conn_set : (p : ℕ) (x z : Conn) → m.conns p ≡ Some x → z.heard ≡ x.heard → (q : ℕ) (y : Conn) → with_at p (Some z) m.conns q ≡ Some y → (v : Conn) × (m.conns q ≡ Some v) × (y.heard ≡ v.heard)
  conn_set p x z e g = each_at (λ q y. (v : Conn) × (m.conns q ≡ Some v) × (y.heard ≡ v.heard)) p z m.conns (x, e, g) (λ q y ne g. (y, g, refl))

  conn_less : (p : ℕ) → (q : ℕ) (y : Conn) → with_at p None m.conns q ≡ Some y → (v : Conn) × (m.conns q ≡ Some v) × (y.heard ≡ v.heard)
  conn_less p = each_other (λ q y. (v : Conn) × (m.conns q ≡ Some v) × (y.heard ≡ v.heard)) p m.conns (λ q y ne g. (y, g, refl))

  closes : (p : ℕ) (x : Conn) → m.conns p ≡ Some x → Kept c s past w u.pending f.fr f.more (multi.end_at p m) (Put (Close p) ∷ h) → Moved c s past w u h f (record u.server { by_stream = multi.end_at p m }) (Close p ∷ [])
  closes p x conn kept = record {
    streams = kept;
    dgrams = kept_put_d c s past w u.pending u.server.by_dgram (Close p) h (close_other c s past w u.pending u.server.by_dgram h p f.dgrams (f.streams.conns p x conn).at (conn_below c s past w u.pending f.fr f.more m h p x f.streams conn)) f.dgrams;
    conns = conn_less p;
    asks = left_every (multi.broken_at p);
    held = f.by_dgram;
    settled = f.settled;
    one_id = f.one_id;
    begun = f.begun;
    unsent = f.unsent;
  }

  -- what waits at a new place: nothing
  new_place : (q : ℕ) → is_at Stream s q (Put (OpenStream (reach h) s) ∷ h) ≡ true → (is_at Stream s q h ≡ true) ⊎ ((i : ℕ) → waiting_with [] q i h ≡ [])
  new_place q at = elim (cases_eq (reach h) q) [
    | inl is ↦ inr (λ i. (f.streams.to_come q (omega arith)).blank.waiting [] i)
    | inr ne ↦ inl (let z : (reach h == q) ≡ false = grind (arith, nat_tests) in subst (λ b. is_site Stream s (if b then opens_as Stream s (site q h) else site q h) ≡ true) z at)
  ]

  none_among : (k : ℕ) (x : Octets) (ws : List Written) → ws ≡ [] → IsAmong x (octets_for k ws) → ⊥
  none_among k x ws e i = subst (λ ws. IsAmong x (octets_for k ws)) e i

  -- a request that is lined up was not written there
  lined : (k p j : ℕ) (a : Asker) (x : Conn) (y : Octets) → m.asks k ≡ Some a → a.phase ≡ multi.Lined p → m.conns p ≡ Some x → x.heard ≡ false → IsAmong y (octets_for k (waiting_with [] p j h)) → ⊥
  lined k p j a x y ask phase conn unheard i = go (x.ids j) refl
    where
      fit : ConnFits c s p past u.pending (f.fr p) (f.more p) x h
      fit = f.streams.conns p x conn

      is : waiting_with [] p j h ≡ listed (x.ids j)
      is = ap (λ ms. waiting_with ms p j h) (sym (fit.unheard unheard)) ∙ fit.ids j

      go : (z : Option Written) → x.ids j ≡ z → ⊥
      go None e = none_among k y (waiting_with [] p j h) (is ∙ ap listed e) i
      go (Some v) e =
          let r = written_of k y (waiting_with [] p j h) i in
          let its : v.request ≡ k = (let q = written_of k y (v ∷ []) (subst (λ ws. IsAmong y (octets_for k ws)) (is ∙ ap listed e) i) in only v (q.0) q.1 q.2) in
          let ph = f.streams.owners p x conn j v e a (ap m.asks its ∙ ask) in
          (let z : multi.Lined p ≡ multi.Holding p j = sym phase ∙ ph in cc)
        where
          only : (v q : Written) → IsWritten q (v ∷ []) → q.request ≡ k → v.request ≡ k
          only v q (inl e) g = ap (λ (w : Written). w.request) e ∙ g
          only v q (inr e) g = absurd e

  -- what is written now, or waited before
  new_or_old : (p k id : ℕ) (o : Octets) (q j i : ℕ) (z : Octets) (bw bi bk : Bool) → (p == q) ≡ bw → (id == i) ≡ bi → (k == j) ≡ bk → IsAmong z (octets_for j (if (bw && bi) && true then record { request = k; octets = o; moment = now h } ∷ waiting_with [] q i h else waiting_with [] q i h)) → ((p ≡ q) × ((id ≡ i) × (k ≡ j))) ⊎ IsAmong z (octets_for j (waiting_with [] q i h))
  new_or_old p k id o q j i z true true true e g l n = inl (eqb-true p q e, (eqb-true id i g, eqb-true k j l))
  new_or_old p k id o q j i z true true false e g l n = inr (subst (λ b. IsAmong z (if b then o ∷ octets_for j (waiting_with [] q i h) else octets_for j (waiting_with [] q i h))) l n)
  new_or_old p k id o q j i z true false bk e g l n = inr n
  new_or_old p k id o q j i z false bi bk e g l n = inr n

  split : (p k id : ℕ) (o : Octets) (q j i : ℕ) (z : Octets) → IsAmong z (octets_for j (waiting_with [] q i (Put (Write p k id o) ∷ h))) → ((p ≡ q) × ((id ≡ i) × (k ≡ j))) ⊎ IsAmong z (octets_for j (waiting_with [] q i h))
  split p k id o q j i z n = new_or_old p k id o q j i z (p == q) (id == i) (k == j) refl refl refl n

  not_holding : (ph st : multi.Phase) → ph ≡ st → ((q i : ℕ) → st ≢ multi.Holding q i) → (q i : ℕ) → ph ≢ multi.Holding q i
  not_holding ph st e ne q i g = ne q i (sym e ∙ g)

  moves_moved : (m' : Multi) (x : Act) → Moves c s (now h) (reach h) m x m' → Moved c s past w u h f (record u.server { by_stream = m' }) (outs_of x)
  moves_moved _ _ (multi.Joins k a p x ask phase conn) = silent_move _ (silent.moves c s past w u.pending f.fr f.more m h k a (multi.Lined p) f.streams ask (not_holding a.phase multi.Free phase (λ q i e. cc)) (x, conn)) (same_conns m.conns) (left_at k a _ ask)
  moves_moved _ _ (multi.Expects k a p ask phase op) = silent_move _ (silent.moves c s past w u.pending f.fr f.more m h k a multi.Expecting f.streams ask (not_holding a.phase multi.Free phase (λ q i e. cc)) (p, op)) (same_conns m.conns) (left_at k a _ ask)
  moves_moved _ _ (multi.Opens k a ask phase none full) = record {
    streams = opening.opens c s past w u.pending f.fr f.more m h k a f.streams ask (not_holding a.phase multi.Free phase (λ q i e. cc)) none (f.free (reach h) (omega arith));
    dgrams = kept_put_d c s past w u.pending u.server.by_dgram (OpenStream (reach h) s) h (open_other c s past w u.pending u.server.by_dgram h f.dgrams) f.dgrams;
    conns = same_conns m.conns;
    asks = left_at k a _ ask;
    held = f.by_dgram;
    settled = f.settled;
    one_id = λ q l i j y z at b d. elim (new_place q at) [ inl old ↦ f.one_id q l i j y z old b d | inr new ↦ absurd (none_among l y (waiting_with [] q i h) (new i) b) ];
    begun = λ q l i y at b. elim (new_place q at) [ inl old ↦ f.begun q l i y old b | inr new ↦ absurd (none_among l y (waiting_with [] q i h) (new i) b) ];
    unsent = f.unsent;
  }
  moves_moved _ _ (multi.Meets k a until ask phase calm low high) = silent_move _ (silent.meets c s past w u.pending f.fr f.more m h k a until f.streams ask (not_holding a.phase multi.Free phase (λ q i e. cc)) calm high) (same_conns m.conns) (left_at k a _ ask)
  moves_moved _ _ (multi.BacksOff k a until ask phase low high) = silent_move _ (silent.breaks_off c s past w u.pending f.fr f.more m h k a until f.streams ask phase high) (same_conns m.conns) (left_at k a _ ask)
  moves_moved _ _ (multi.Writes k a p x id o ask phase conn none quiet unheld carries some) = record {
    streams = writing.writes c s past w u.pending f.fr f.more m h k a p x id o f.streams ask phase conn none quiet unheld carries some;
    dgrams = kept_put_d c s past w u.pending u.server.by_dgram (Write p k id o) h (quiet_other s u.server.by_dgram (Write p k id o) h (λ j b e. refl) (λ q. refl) refl) f.dgrams;
    conns = conn_set p x _ conn refl;
    asks = left_at k a _ ask;
    held = f.by_dgram;
    settled = f.settled;
    one_id = λ q l i j y z at b d. elim (split p k id o q l i y b) [
      | inl new ↦ elim (split p k id o q l j z d) [
        | inl too ↦ sym new.1.0 ∙ too.1.0
        | inr old ↦ absurd (lined k p j a x z ask phase conn quiet (subst (λ l. IsAmong z (octets_for l (waiting_with [] p j h))) (sym new.1.1) (subst (λ q. IsAmong z (octets_for l (waiting_with [] q j h))) (sym new.0) old)))
      ]
      | inr old ↦ elim (split p k id o q l j z d) [
        | inl too ↦ absurd (lined k p i a x y ask phase conn quiet (subst (λ l. IsAmong y (octets_for l (waiting_with [] p i h))) (sym too.1.1) (subst (λ q. IsAmong y (octets_for l (waiting_with [] q i h))) (sym too.0) old)))
        | inr both ↦ f.one_id q l i j y z at old both
      ]
    ];
    begun = λ q l i y at b. elim (split p k id o q l i y b) [ inl new ↦ subst (λ l. started l s Stream h ≡ true) new.1.1 (let g = (f.streams.asks k a ask).since in rw g refl) | inr old ↦ f.begun q l i y at old ];
    unsent = f.unsent;
  }
  moves_moved _ _ (multi.CannotWrite k a p x ask phase conn none bad) = silent_move _ (silent.cannot_write c s past w u.pending f.fr f.more m h k a p x f.streams ask (not_holding a.phase (multi.Lined p) phase (λ q i e. cc)) conn bad) (conn_set p x _ conn refl) (left_at k a _ ask)
  moves_moved _ _ (multi.FindsNoId k a p x ask phase conn none full) = silent_move _ (silent.finds_no_id c s past w u.pending f.fr f.more m h k a p x f.streams ask (not_holding a.phase (multi.Lined p) phase (λ q i e. cc)) conn full) (same_conns m.conns) (left_at k a _ ask)
  moves_moved _ _ (multi.GoesOn k a until ask phase late) = silent_move _ (silent.moves c s past w u.pending f.fr f.more m h k a multi.Free f.streams ask (not_holding a.phase (multi.BackingOff until) phase (λ q i e. cc)) tt) (same_conns m.conns) (left_at k a _ ask)
  moves_moved _ _ (multi.TimesOut k a ask late) = silent_move _ (silent.drops c s past w u.pending f.fr f.more m h k f.streams) (same_conns m.conns) (each_other (λ j x. ((y : Asker) × (m.asks j ≡ Some y)) ⊎ (start j s Stream h ≡ None)) k m.asks (λ j x ne g. inl (x, g)))
  moves_moved _ _ (multi.ReadsNothing p x since conn mode late) = closes p x conn (ends c s past w u.pending f.fr f.more m h p x f.streams conn (λ k a e there. ByReadTimer (let due = f.streams.late p x conn since mode late in rw f.streams.row.before due)))
  moves_moved _ _ (multi.RestsTooLong p x since conn mode late pumped) = closes p x conn (ends c s past w u.pending f.fr f.more m h p x f.streams conn (idle_ends c s past w u.pending f.fr f.more m h p x since f.streams conn mode late pumped))

  moves_of : (m' : Multi) (x : Act) → Moves c s (now h) (reach h) m x m' → AreOf s (outs_of x) h
  moves_of _ _ (multi.Joins k a p x ask phase conn) = tt
  moves_of _ _ (multi.Expects k a p ask phase op) = tt
  moves_of _ _ (multi.Opens k a ask phase none full) = ((refl, refl), tt)
  moves_of _ _ (multi.Meets k a until ask phase calm low high) = tt
  moves_of _ _ (multi.BacksOff k a until ask phase low high) = tt
  moves_of _ _ (multi.Writes k a p x id o ask phase conn none quiet unheld carries some) = ((f.streams.conns p x conn).at, tt)
  moves_of _ _ (multi.CannotWrite k a p x ask phase conn none bad) = tt
  moves_of _ _ (multi.FindsNoId k a p x ask phase conn none full) = tt
  moves_of _ _ (multi.GoesOn k a until ask phase late) = tt
  moves_of _ _ (multi.TimesOut k a ask late) = tt
  moves_of _ _ (multi.ReadsNothing p x since conn mode late) = ((Stream, (f.streams.conns p x conn).at), tt)
  moves_of _ _ (multi.RestsTooLong p x since conn mode late pumped) = ((Stream, (f.streams.conns p x conn).at), tt)

  -- a write stands where it may
  pub may_write : (k p id : ℕ) (a : Asker) (x : Conn) (o : Octets) → m.asks k ≡ Some a → m.conns p ≡ Some x → x.heard ≡ false → x.ids id ≡ None → CarriesInFrame o a.request id → replied k past ≡ false → MayWrite c k p id o past h
  may_write k p id a x o ask conn unheard unheld carries un =
      let fit : ConnFits c s p past u.pending (f.fr p) (f.more p) x h = f.streams.conns p x conn in
      let g = f.streams.asks k a ask in
      let b : started k s Stream h ≡ true = (let n = g.since in rw n refl) in
      record { waits = un; server = s; at = fit.at; alive = fit.alive; begun = b; request = a.request; asked = g.asked; carries = carries; free = ap (λ ms. waiting_with ms p id h) (sym (fit.unheard unheard)) ∙ (fit.ids id ∙ ap listed unheld) }

  pub stream_keeps : (next : ℕ) (m' : Multi) (x : Act) → next ≡ reach h → Moves c s u.clock next m x m' → Keeps Served (Fits c) none_more s past w h (does (has_moved (record u.server { by_stream = m' }) u) next x)
  stream_keeps next m' x is move =
      let it = subst₂ (λ n next. Moves c s n next m x m') f.clock is move in
      let moved = moves_moved m' x it in
      let of = moves_of m' x it in
      record {
        fits = fits_after c s past w u h f (record u.server { by_stream = m' }) (outs_of x) moved;
        others = λ t y ne g. others_all c s t past w y (outs_of x) h (λ e. ne (sym e)) of g;
        silent = λ j. no_reply m' x it j;
        handed_on = λ j t. no_start m' x it j t;
        reaches = reaches next m' x is it;
      }
    where
      no_reply : (m' : Multi) (x : Act) → Moves c s (now h) (reach h) m x m' → (j : ℕ) → replied j (put_all (outs_of x) h) ≡ replied j h
      no_reply _ _ (multi.Opens k a ask phase none full) j = refl
      no_reply _ _ (multi.Writes k a p x id o ask phase conn none quiet unheld carries some) j = refl
      no_reply _ _ (multi.ReadsNothing p x since conn mode late) j = refl
      no_reply _ _ (multi.RestsTooLong p x since conn mode late pumped) j = refl
      no_reply _ _ _ j = refl

      no_start : (m' : Multi) (x : Act) → Moves c s (now h) (reach h) m x m' → (j t : ℕ) → handed j t (put_all (outs_of x) h) ≡ handed j t h
      no_start _ _ (multi.Opens k a ask phase none full) j t = refl
      no_start _ _ (multi.Writes k a p x id o ask phase conn none quiet unheld carries some) j t = refl
      no_start _ _ (multi.ReadsNothing p x since conn mode late) j t = refl
      no_start _ _ (multi.RestsTooLong p x since conn mode late pumped) j t = refl
      no_start _ _ _ j t = refl

      reaches : (next : ℕ) (m' : Multi) (x : Act) → next ≡ reach h → Moves c s (now h) (reach h) m x m' → place_after x next ≡ reach (put_all (outs_of x) h)
      reaches next _ _ is (multi.Opens k a ask phase none full) = (let z = is in grind arith)
      reaches next _ _ is (multi.Writes k a p x id o ask phase conn none quiet unheld carries some) = is
      reaches next _ _ is (multi.ReadsNothing p x since conn mode late) = is
      reaches next _ _ is (multi.RestsTooLong p x since conn mode late pumped) = is
      reaches next _ _ is _ = is

  -- what moves by stream put out is right
  pub stream_right : (m' : Multi) (x : Act) → s < length c.servers → Moves c s (now h) (reach h) m x m' → ((k : ℕ) (a : Asker) → m.asks k ≡ Some a → replied k past ≡ false) → (end : History) → ServerOutsRight c past w end h (outs_of x)
  stream_right _ _ lt (multi.Opens k a ask phase none full) un end = ((omega arith, lt, opening.may_open c s past w u.pending f.fr f.more m h f.streams none full, (f.streams.to_come (reach h) (omega arith)).nowhere), tt)
  stream_right _ _ lt (multi.Writes k a p x id o ask phase conn none quiet unheld carries some) un end = ((omega arith, may_write k p id a x o ask conn quiet unheld carries (un k a ask)), tt)
  stream_right _ _ lt (multi.ReadsNothing p x since conn mode late) un end = ((omega arith, may_close c s p past w h end (f.streams.conns p x conn).at (ReadTimer (f.streams.late p x conn since mode late)), was_alive p h (f.streams.conns p x conn).alive), tt)
  stream_right _ _ lt (multi.RestsTooLong p x since conn mode late pumped) un end = ((omega arith, may_close c s p past w h end (f.streams.conns p x conn).at (IdleTimer (idle_is_due c s past w u.pending f.fr f.more m h p x since f.streams conn mode late)), was_alive p h (f.streams.conns p x conn).alive), tt)
  stream_right _ _ lt (multi.Joins k a p x ask phase conn) un end = tt
  stream_right _ _ lt (multi.Expects k a p ask phase op) un end = tt
  stream_right _ _ lt (multi.Meets k a until ask phase calm low high) un end = tt
  stream_right _ _ lt (multi.BacksOff k a until ask phase low high) un end = tt
  stream_right _ _ lt (multi.CannotWrite k a p x ask phase conn none bad) un end = tt
  stream_right _ _ lt (multi.FindsNoId k a p x ask phase conn none full) un end = tt
  stream_right _ _ lt (multi.GoesOn k a until ask phase late) un end = tt
  stream_right _ _ lt (multi.TimesOut k a ask late) un end = tt
