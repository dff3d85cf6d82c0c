-- Who is at a connection has a ticket there, and the other way round.
use Rattle.std.proofs.Common.{◌≡◌, ℕ, inl, inr, Option, Some, refl, sym, ap, subst, ◌∙◌}
use Rattle.client_request.specs.Numbered.{entry_at}
use Rattle.client_request.specs.Request.{Request}
use Rattle.client_stream.specs.declared.request.Holder.TheVariants.{Waits}
use Rattle.proof_right.specs.machine.Streams.{Phase, Free, Expecting, Lined, Holding, Broken, BackingOff, Asker, Conn, Multi}
use Rattle.proof_parts.specs.Connections.{IsAt}
use Rattle.proof_parts.specs.Lines.{SingleLine, seats_of, IsLineAt}
use Rattle.proof_parts.specs.Seats.{IdFits, IsFree, IsHeld, WasGivenUp}
use Rattle.proof_multi.specs.Servers.{IsThere}
use Rattle.right_trace.specs.Trace.{Conf}

module _ (c : Conf) (p : ℕ) (names : ℕ → Option ℕ) (s : SingleLine) (m : Multi) (x : Conn) (f : ℕ → Option ℕ) (ticket : ℕ) (line : IsLineAt c p names s m x f ticket) where
  id_of : (id i : ℕ) (w : Request) → entry_at id s.held.held ≡ Some (Waits i w) → IdFits p names (seats_of s m.asks x.ids) id → entry_at i s.ids ≡ Some id
  id_of id i w h (IsFree g wr) = absurd (let z = sym g ∙ h in cc)
  id_of id i w h (IsHeld j k u y g wr rq nm is sent) = ap (λ i. entry_at i s.ids) (let z : Some (Waits i w) ≡ Some (Waits j u) = sym h ∙ g in let q : i ≡ j = cc in q) ∙ is
  id_of id i w h (WasGivenUp y g wr absent) = absurd (let z = sym g ∙ h in cc)

  pub is_at : (i k : ℕ) (a : Asker) → names i ≡ Some k → m.asks k ≡ Some a → IsThere p a.phase → IsAt s i
  is_at i k a named is there = by a.phase refl there
    where
      by : (ph : Phase) → a.phase ≡ ph → IsThere p ph → IsAt s i
      by Free e t = absurd t
      by Expecting e t = absurd t
      by Broken e t = absurd t
      by (BackingOff until) e t = absurd t
      by (Lined q) e t = let l = line.seated.lined k a is (e ∙ ap Lined t) in inl (l.1, ap (λ i. entry_at i s.queue) (line.seated.apart i l.0 k named l.2) ∙ l.3)
      by (Holding q id) e t =
          let l = line.seated.holding k a id is (e ∙ ap (λ q. Holding q id) t) in
          inr (id, ap (λ i. entry_at i s.ids) (line.seated.apart i l.0 k named l.2) ∙ id_of id l.0 l.1 l.3 (line.seated.at_id id))

  -- where it is, told by its ticket
  held_by : (id i k : ℕ) (w : Request) → names i ≡ Some k → entry_at id s.held.held ≡ Some (Waits i w) → IdFits p names (seats_of s m.asks x.ids) id → (b : Asker) × (m.asks k ≡ Some b) × IsThere p b.phase
  held_by id i k w named h (IsFree g wr) = absurd (let z = sym g ∙ h in cc)
  held_by id i k w named h (IsHeld j l u y g wr rq nm is sent) =
      let z : Some (Waits i w) ≡ Some (Waits j u) = sym h ∙ g in
      let q : i ≡ j = cc in
      let n : Some k ≡ Some l = sym named ∙ (ap names q ∙ nm) in
      let same : k ≡ l = cc in
      (sent.ask, ap m.asks same ∙ sent.is, subst (IsThere p) (sym sent.phase) refl)
  held_by id i k w named h (WasGivenUp y g wr absent) = absurd (let z = sym g ∙ h in cc)

  pub there_at : (i k : ℕ) → names i ≡ Some k → IsAt s i → (b : Asker) × (m.asks k ≡ Some b) × IsThere p b.phase
  there_at i k named (inl w) =
      let q = line.seated.queued i w.0 w.1 in
      let n : Some k ≡ Some q.0 = sym named ∙ q.1 in
      let same : k ≡ q.0 = cc in
      (q.2.ask, ap m.asks same ∙ q.2.is, subst (IsThere p) (sym q.2.phase) refl)
  there_at i k named (inr id) = let t = line.seated.by_ticket i id.0 id.1 in held_by id.0 i k t.0 named t.1 (line.seated.at_id id.0)
