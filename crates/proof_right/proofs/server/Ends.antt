-- When a row is done: who is held is busy, and places are as many as said; for one server's part.
use Rattle.std.proofs.Common.{◌≡◌, ℕ, ◌+◌, ◌<◌, min, Bool, true, false, not, ◌&&◌, inl, inr, Option, Some, None, [], ◌∷◌, ◌++◌, ◌≤◌, length, refl, arith, ◌∙◌, sym, subst, ap}
use Rattle.std.specs.Prelude.{is_some, ◌==◌, ◌||◌}
use Rattle.std.proofs.lemmas.List.{append-nil}
use Rattle.std.proofs.lemmas.Bool.{and_parts, cases_eq, cases_lt}
use Rattle.std.proofs.lemmas.Bool.Decides.{nat_tests}
use Rattle.client_request.specs.Request.{Request}
use Rattle.client_request.specs.declared.event.What.{What}
use Rattle.client_request.specs.declared.event.What.TheVariants.{Tick}
use Rattle.client_request.specs.declared.event.Via.TheVariants.{Dgram, Stream}
use Rattle.right_trace.specs.Trace.{History, Conf}
use Rattle.right_trace.specs.Time.{now, back_off, max_places}
use Rattle.right_trace.specs.Messages.{is_valid}
use Rattle.right_trace.specs.Requests.{Asking, asking, asks, replied, waits, start, started, handed}
use Rattle.right_trace.specs.Places.{Opening, Alive, is_at, is_live, live, demand, reach, stand}
use Rattle.right_trace.specs.Orderly.{sending}
use Rattle.right_trace.specs.Frames.{came_here}
use Rattle.right_trace.specs.Writes.{waiting_with}
use Rattle.right_trace.specs.Exchanges.{is_before}
use Rattle.right_trace.specs.Busy.{is_taken, HappenedWithin, IsBusyAt, IsBusy, Exchanging, PlaceIsOpening, PlacesAreTaken, StreamIsOpening, StreamIsWriting, BackingOff}
use Rattle.proof_right.specs.machine.Streams.{Asker, Conn}
use Rattle.proof_right.specs.machine.Dgrams.{Stage, Queued, Trying, Sent, Ending, Cut, Tryer}
use Rattle.proof_right.specs.machine.Served.{Served, holds, RestsNow}
use Rattle.proof_right.proofs.server.Kept.{listed, PhaseFits, AskFits, LeftFits, Kept}
use Rattle.proof_right.proofs.server.Counts.{count_more}
use Rattle.proof_right.proofs.server.DgramKept.{placed, has_place, TryingFits, SentFits, StageFits}
use Rattle.proof_right.proofs.server.Views.{ever_more}
use Rattle.proof_right.proofs.server.DgramMoves.{dgram_at}
use Rattle.proof_right.proofs.server.Ending.{at_is}
use Rattle.proof_right.proofs.server.Coming.{octets_among}
use Rattle.proof_right.proofs.server.Fitting.{Fits, RowDone, rests_end}
use Rattle.proof_right.specs.machine.Streams as multi

neither : (x : Option Tryer) (y : Option Asker) → x ≡ None → y ≡ None → (is_some x || is_some y) ≡ true → ⊥
neither None None a b e = absurd (cc)
neither (Some x) y a b e = absurd (cc)
neither None (Some y) a b e = absurd (cc)

module _ (c : Conf) (s : ℕ) (past : History) (w : What) (u : Served) (h : History) (known : s < length c.servers) (fits : Fits c s past w u h) (rests : RestsNow c u) where
  done : RowDone c s past w u h
  done = rests_end c s past w u h fits rests

  -- where a request waits for a place, each that is live opens, or another request was sent there
  taken : (k : ℕ) (a : Tryer) → u.server.by_dgram.held k ≡ Some a → a.stage ≡ Queued → (p : ℕ) → (is_at Dgram s p h && is_live (stand p h)) ≡ true → (is_at Dgram s p h && is_taken k (stand p h) (sending p h)) ≡ true
  taken k a held e p live = by (u.server.by_dgram.at p) refl
    where
      both : (is_at Dgram s p h ≡ true) × (is_live (stand p h) ≡ true)
      both = and_parts (is_at Dgram s p h) (is_live (stand p h)) live

      -- the one that waits has no place
      other : (j : ℕ) (b : Tryer) → u.server.by_dgram.held j ≡ Some b → placed b.stage ≡ Some p → (j == k) ≡ false
      other j b is its = elim (cases_eq j k) [
        | inl same ↦
            absurd
            (let one : Path (Option Tryer) (Some b) (Some a) = sym is ∙ (ap u.server.by_dgram.held same ∙ held) in
            let its_own : b ≡ a = cc in
            let none : Path (Option ℕ) None (Some p) = ap placed (sym e) ∙ (ap (λ (x : Tryer). placed x.stage) (sym its_own) ∙ its) in
            cc)
        | inr ne ↦ grind (arith, nat_tests)
      ]

      by_stage : (j : ℕ) (b : Tryer) → u.server.by_dgram.held j ≡ Some b → placed b.stage ≡ Some p → (st : Stage) → b.stage ≡ st → placed st ≡ Some p → (is_at Dgram s p h && is_taken k (stand p h) (sending p h)) ≡ true
      by_stage j b is its Queued q g = absurd (let z : Path (Option ℕ) None (Some p) = g in cc)
      by_stage j b is its (Trying r) q g =
          let same : r ≡ p = (let z : Path (Option ℕ) (Some r) (Some p) = g in cc) in
          let f : TryingFits c s r past Tick h = subst (λ st. StageFits c s j b.request past w Tick h st) q (done.dgrams.held j b is).stage in
          let stands : stand p h ≡ Opening = subst (λ p. stand p h ≡ Opening) same f.stand in
          rw (both.0, stands) refl
      by_stage j b is its (Sent r id t) q g =
          let same : r ≡ p = (let z : Path (Option ℕ) (Some r) (Some p) = g in cc) in
          let f : SentFits c s r id t j b.request past Tick h = subst (λ st. StageFits c s j b.request past w Tick h st) q (done.dgrams.held j b is).stage in
          let stands : stand p h ≡ Alive = subst (λ p. stand p h ≡ Alive) same f.stand in
          let sent : sending p h ≡ Some (record { request = j; moment = t }) = subst (λ p. sending p h ≡ Some (record { request = j; moment = t })) same f.sent in
          rw (both.0, stands, sent, other j b is its) refl
      by_stage j b is its (Ending x) q g = absurd (let z : Path (Option ℕ) None (Some p) = g in cc)
      by_stage j b is its Cut q g = absurd (let z : Path (Option ℕ) None (Some p) = g in cc)

      by : (o : Option ℕ) → u.server.by_dgram.at p ≡ o → (is_at Dgram s p h && is_taken k (stand p h) (sending p h)) ≡ true
      by None at = absurd (let dead = done.dgrams.others p both.0 at in let alive = both.1 in cc)
      by (Some j) at = (let x = done.dgrams.slots p j at in by_stage j x.owner x.is_held x.its x.owner.stage refl x.its)

  dgram_busy : (k : ℕ) (a : Tryer) → u.server.by_dgram.held k ≡ Some a → replied k h ≡ false → (st : Stage) → a.stage ≡ st → IsBusyAt c s k h
  dgram_busy k a held un Queued e =
      let f = done.dgrams.held k a held in
      let used = rests.rests.waiting k a held e in
      let lives = done.dgrams.lives in
      let more = count_more (λ p. is_at Dgram s p h && is_live (stand p h)) (λ p. is_at Dgram s p h && is_taken k (stand p h) (sending p h)) (reach h) (taken k a held e) in
      PlacesAreTaken f.has_it (omega arith)
  dgram_busy k a held un (Trying p) e =
      let f = done.dgrams.held k a held in
      let g : TryingFits c s p past Tick h = subst (λ st. StageFits c s k a.request past w Tick h st) e f.stage in
      PlaceIsOpening p f.has_it (dgram_at s p h g.at) g.stand
  dgram_busy k a held un (Sent p id t) e =
      let f = done.dgrams.held k a held in
      let g : SentFits c s p id t k a.request past Tick h = subst (λ st. StageFits c s k a.request past w Tick h st) e f.stage in
      let early = rests.rests.reading k a p id t held e in
      let clock = fits.clock in
      let open' = g.is_open refl (now h) (omega arith) in
      Exchanging a.request Dgram Dgram p id f.has_it (record { stands = record { asked = f.asked; waiting = un; alive = g.stand; at = g.at; known = known }; octets = g.octets; sent = rw open' (inl refl); carries = g.carries })
  dgram_busy k a held un (Ending x) e = absurd (rests.rests.ending k a x held e)
  dgram_busy k a held un Cut e = absurd (rests.rests.cut k a held e)

  stream_busy : (k : ℕ) (a : Asker) → u.server.by_stream.asks k ≡ Some a → replied k h ≡ false → is_valid a.request ≡ true → (ph : multi.Phase) → a.phase ≡ ph → IsBusyAt c s k h
  stream_busy k a ask un valid ph e = go ph e (subst (λ ph. PhaseFits c s k a.request u.server.by_stream.conns u.server.by_stream.opening h ph) e f.phase)
    where
      m : Kept c s past w Tick done.fr done.more u.server.by_stream h
      m = done.streams

      f : AskFits c s k a u.server.by_stream.conns u.server.by_stream.opening h
      f = done.streams.asks k a ask

      st : started k s Stream h ≡ true
      st = (let y = f.since in rw y refl)

      go : (ph : multi.Phase) → a.phase ≡ ph → PhaseFits c s k a.request u.server.by_stream.conns u.server.by_stream.opening h ph → IsBusyAt c s k h
      go multi.Free e g = absurd (rests.rests.free k a ask e)
      go multi.Expecting e g = (let o = m.opening g.0 g.1 in StreamIsOpening g.0 st (at_is s g.0 h o.at) o.stand)
      go (multi.Lined p) e g =
          let x = m.conns p g.0 g.1 in
          let some = rests.rests.lined k a p g.0 ask e g.1 in
          let left : LeftFits p 0 g.0 h = x.left in
          let eq = left.some some in
          StreamIsWriting p st (at_is s p h x.at) x.alive (grind (arith, nat_tests))
      go (multi.Holding p id) e g =
          let x = m.conns p g.conn g.is_conn in
          let all : done.fr p ≡ came_here p h = sym (append-nil (done.fr p)) ∙ (ap (λ l. done.fr p ++ l) (sym (done.whole p g.conn g.is_conn)) ∙ x.frames) in
          let wait : waiting_with (came_here p h) p id h ≡ g.written ∷ [] = ap (λ ms. waiting_with ms p id h) (sym all) ∙ (x.ids id ∙ ap listed g.is_held) in
          let among = octets_among k g.written (g.written ∷ []) g.its (inl refl) in
          let early = rests.rests.silent k a ask in
          let clock = fits.clock in
          let before : is_before c (now h) (start k s Stream h) ≡ true = (let t = f.since in grind (arith, nat_tests)) in
          let carries = x.carries id g.written (record { request = a.request; moment = f.asked.0 }) g.is_held (ap (λ k. asking k h) g.its ∙ f.asked.1) in
          Exchanging a.request Stream Stream p id st (record { stands = record { asked = f.asked; waiting = un; alive = x.alive; at = x.at; known = known }; octets = g.written.octets; sent = rw (before, wait) among; carries = carries })
      go multi.Broken e g = absurd (rests.rests.broken k a ask e)
      go (multi.BackingOff until) e (inl bad) = absurd (let z = sym bad ∙ valid in cc)
      go (multi.BackingOff until) e (inr broke) =
          let early = rests.rests.backing k a until ask e in
          let clock = fits.clock in
          BackingOff st (ever_more (HappenedWithin c (back_off + back_off) s until) (HappenedWithin c (back_off + back_off) s (now h)) (λ e y. record { recent = (let z = y.recent in omega arith); broke = y.broke }) h broke)

  same_request : (k : ℕ) (a : Asking) (r : Request) (t : ℕ) → asking k h ≡ Some a → asking k h ≡ Some (record { request = r; moment = t }) → a.request ≡ r
  same_request k a r t e f = (let z : a ≡ record { request = r; moment = t } = (let u = sym e ∙ f in cc) in ap (λ a. a.request) z)

  pub busy : (k : ℕ) (a : Asking) → holds u k ≡ true → asking k h ≡ Some a → is_valid a.request ≡ true → waits k h ≡ true → IsBusy c k h
  busy k a held asked valid waiting = go (u.server.by_dgram.held k) refl (u.server.by_stream.asks k) refl held
    where
      un : replied k h ≡ false
      un = (let y = (and_parts (is_some (asking k h)) (not (replied k h)) waiting).1 in grind arith)

      go : (x : Option Tryer) → u.server.by_dgram.held k ≡ x → (y : Option Asker) → u.server.by_stream.asks k ≡ y → (is_some x || is_some y) ≡ true → IsBusy c k h
      go (Some b) e y g i = (s, dgram_busy k b e un b.stage refl)
      go None e (Some b) g i = (let f = (done.streams.asks k b g).asked in (s, stream_busy k b g un (subst (λ r. is_valid r ≡ true) (same_request k a b.request (f.0) asked f.1) valid) b.phase refl))
      go None e None g i = absurd (cc)

  -- Places

  abbrev demanded : ℕ → Bool
  demanded k = waits k h && (started k s Dgram h && not (started k s Stream h))

  some_placed : ((k : ℕ) → holds u k ≡ true → waits k h ≡ true) → (k : ℕ) → has_place (u.server.by_dgram.held k) ≡ true → demanded k ≡ true
  some_placed all k e = go (u.server.by_dgram.held k) refl
    where
      go : (x : Option Tryer) → u.server.by_dgram.held k ≡ x → demanded k ≡ true
      go None g = absurd (let z = sym e ∙ ap has_place g in cc)
      go (Some a) g =
          let f = done.dgrams.held k a g in
          let it = f.has_it in
          let not_it = f.unstreamed in
          let waiting = all k (rw g refl) in
          rw (waiting, it, not_it) refl

  pub few_places : ((k : ℕ) → holds u k ≡ true → waits k h ≡ true) → live s h ≤ min (max_places c) (demand s h)
  few_places all =
      let lives = done.dgrams.lives in
      let places = done.dgrams.places in
      let few = done.dgrams.few in
      let more = count_more (λ k. has_place (u.server.by_dgram.held k)) demanded (asks h) (some_placed all) in
      omega arith

  all_placed : ((k : ℕ) → waits k h ≡ true → handed k s h ≡ true → holds u k ≡ true) → u.server.by_dgram.used < max_places c → (k : ℕ) → demanded k ≡ true → has_place (u.server.by_dgram.held k) ≡ true
  all_placed back few k e = go (u.server.by_dgram.held k) refl (u.server.by_stream.asks k) refl (back k parts.0 (let z : started k s Dgram h ≡ true = both.0 in rw z refl))
    where
      parts : (waits k h ≡ true) × ((started k s Dgram h && not (started k s Stream h)) ≡ true)
      parts = and_parts (waits k h) (started k s Dgram h && not (started k s Stream h)) e

      both : (started k s Dgram h ≡ true) × (not (started k s Stream h) ≡ true)
      both = and_parts (started k s Dgram h) (not (started k s Stream h)) parts.1

      staged : (a : Tryer) → u.server.by_dgram.held k ≡ Some a → (st : Stage) → a.stage ≡ st → is_some (placed st) ≡ true
      staged a g Queued i = absurd (let z = rests.rests.waiting k a g i in omega arith)
      staged a g (Trying p) i = refl
      staged a g (Sent p id t) i = refl
      staged a g (Ending x) i = absurd (rests.rests.ending k a x g i)
      staged a g Cut i = absurd (rests.rests.cut k a g i)

      go : (x : Option Tryer) → u.server.by_dgram.held k ≡ x → (y : Option Asker) → u.server.by_stream.asks k ≡ y → (is_some (u.server.by_dgram.held k) || is_some (u.server.by_stream.asks k)) ≡ true → has_place (u.server.by_dgram.held k) ≡ true
      go (Some a) g y i o = rw g (staged a g a.stage refl)
      go None g (Some b) i o = absurd (let f = (done.streams.asks k b i).since in let z : started k s Stream h ≡ true = rw f refl in let n : not (started k s Stream h) ≡ true = both.1 in let n' : not true ≡ true = subst (λ b. not b ≡ true) z n in cc)
      go None g None i o = absurd (neither (u.server.by_dgram.held k) (u.server.by_stream.asks k) g i o)

  used_less : ((k : ℕ) → waits k h ≡ true → handed k s h ≡ true → holds u k ≡ true) → min (max_places c) (demand s h) ≤ live s h
  used_less back =
      let lives = done.dgrams.lives in
      let places = done.dgrams.places in
      elim (cases_lt u.server.by_dgram.used (max_places c)) [
        | inl lt ↦ (let less = count_more demanded (λ k. has_place (u.server.by_dgram.held k)) (asks h) (all_placed back lt) in omega arith)
        | inr le ↦ omega arith
      ]

  pub just_so_many : ((k : ℕ) → holds u k ≡ true → waits k h ≡ true) → ((k : ℕ) → waits k h ≡ true → handed k s h ≡ true → holds u k ≡ true) → live s h ≡ min (max_places c) (demand s h)
  just_so_many all back = (let a = few_places all in let b = used_less back in omega arith)
