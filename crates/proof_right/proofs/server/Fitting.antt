-- What ties one server's part to the history, at each point between two moves.
use Rattle.std.proofs.Common.{◌≡◌, ◌≢◌, ℕ, ◌≤◌, Bool, true, false, ◌&&◌, ◌⊎◌, inl, inr, Option, Some, None, List, [], ◌∷◌, refl, arith, ◌∙◌, sym, subst, ap, ◌==◌}
use Rattle.std.specs.Prelude.{if◌then◌else◌}
use Rattle.std.proofs.lemmas.Bool.{cases_eq}
use Rattle.std.proofs.lemmas.Bool.Decides.{nat_tests}
use Rattle.client_request.specs.declared.event.What.{What}
use Rattle.client_request.specs.declared.event.What.TheVariants.{Ask, Opened, OpenFailed, SendFailed, ShortSend, Datagram, RecvFailed, Wrote, WriteFailed, Bytes, ReadFailed, Ended, Tick}
use Rattle.client_request.specs.declared.event.Via.TheVariants.{Stream}
use Rattle.right_trace.specs.Trace.{History, Conf, ByDatagrams}
use Rattle.right_trace.specs.Time.{now, row_before, EarlierRow}
use Rattle.right_trace.specs.Messages.{Octets}
use Rattle.right_trace.specs.Requests.{started, handed}
use Rattle.right_trace.specs.Places.{Site, site, is_at, Opening, is_alive, on_event, stand, reach}
use Rattle.right_trace.specs.Frames.{came}
use Rattle.right_trace.specs.Writes.{waiting_with}
use Rattle.right_trace.specs.Exchanges.{octets_for, IsAmong}
use Rattle.right_trace.specs.Causes.{sends, Heard}
use Rattle.right_trace.specs.Orderly.{use_at}
use Rattle.proof_right.specs.machine.Streams.{Asker, Conn, IsForeign}
use Rattle.proof_right.specs.machine.Dgrams.{Tryer, IsIgnored}
use Rattle.proof_right.specs.machine.Served.{Served, IsSettled, RestsNow}
use Rattle.proof_right.proofs.server.Kept.{stream_site, Kept}
use Rattle.proof_right.proofs.server.DgramKept.{KeptD}
use Rattle.proof_right.proofs.server.Coming.{site_past}
use Rattle.proof_right.proofs.server.Taking.{turns, foreign_done}
use Rattle.proof_right.proofs.server.DgramTaking.{ignores}

-- a request has one id at a stream place of server s, no frame of this row counted
abbrev pub OneId : (s : ℕ) → History → Type 0
OneId s h = (p k i j : ℕ) (x y : Octets) → is_at Stream s p h ≡ true → IsAmong x (octets_for k (waiting_with [] p i h)) → IsAmong y (octets_for k (waiting_with [] p j h)) → i ≡ j

-- what was written at a stream place of server s is of a request that it has so
abbrev pub BegunBy : (s : ℕ) → History → Type 0
BegunBy s h = (p k i : ℕ) (x : Octets) → is_at Stream s p h ≡ true → IsAmong x (octets_for k (waiting_with [] p i h)) → started k s Stream h ≡ true

-- a request that it never had was never sent there
abbrev pub UnsentBy : (s : ℕ) → History → Type 0
UnsentBy s h = (k : ℕ) → handed k s h ≡ false → sends k s h ≡ 0

-- the frames of the row: none was taken before the event
pub record IsUntaken (past : History) (w : What) (fr more : ℕ → List Octets) (u : Served) : Type 0 where
  pub pending : u.pending ≡ w
  pub before : fr ≡ (λ q. [])
  pub coming : more ≡ (λ q. came q w past)
  pub frames : u.frames ≡ []

pub record IsTaken (fr more : ℕ → List Octets) (u : Served) : Type 0 where
  pub pending : u.pending ≡ Tick
  pub here : (x : Conn) → u.server.by_stream.conns u.place ≡ Some x → (more u.place ≡ u.frames) × (u.frames ≢ [] → x.heard ≡ true)
  pub others : (q : ℕ) (x : Conn) → u.place ≢ q → u.server.by_stream.conns q ≡ Some x → more q ≡ []

pub record Fits (c : Conf) (s : ℕ) (past : History) (w : What) (u : Served) (h : History) : Type 0 where
  pub fr : ℕ → List Octets
  pub more : ℕ → List Octets
  pub clock : u.clock ≡ now h
  pub streams : Kept c s past w u.pending fr more u.server.by_stream h
  pub dgrams : KeptD c s past w u.pending u.server.by_dgram h
  pub untaken : u.taken ≡ false → IsUntaken past w fr more u
  pub taken : u.taken ≡ true → IsTaken fr more u
  pub free : (q : ℕ) → reach h ≤ q → on_event w q Opening ≡ on_event u.pending q Opening
  pub by_dgram : (k : ℕ) (a : Tryer) → u.server.by_dgram.held k ≡ Some a → use_at s c.servers ≡ Some ByDatagrams
  pub settled : IsSettled u.server.by_dgram
  pub silent : (k : ℕ) (a : Asker) → u.server.by_stream.asks k ≡ Some a → EarlierRow (Heard c k s) h → ⊥
  pub one_id : OneId s h
  pub begun : BegunBy s h
  pub unsent : UnsentBy s h

-- The row is done.

pub no_frames_came : (c : Conf) → (s p : ℕ) (w : What) (past h : History) → row_before h ≡ past → site p h ≡ Some (stream_site s) → ((q : ℕ) (o : Octets) → w ≢ Bytes q o) → came p w past ≡ []
no_frames_came c s p (Datagram q o) past h before at ne = go (site p past) refl
  where
    none : (x y : Bool) → (if x && (y && false) then o ∷ [] else []) ≡ []
    none true true = refl
    none true false = refl
    none false y = refl

    go : (x : Option Site) → site p past ≡ x → came p (Datagram q o) past ≡ []
    go None e = rw e (none (q == p) (is_alive (stand p past)))
    go (Some z) e =
        let y = site_past p z h (ap (site p) before ∙ e) in
        let same : z ≡ stream_site s = (let u = sym y ∙ at in cc) in
        rw (e, same) (none (q == p) (is_alive (stand p past)))
no_frames_came c s p (Bytes q o) past h before at ne = absurd (ne q o refl)
no_frames_came c s p _ past h before at ne = refl

pub elsewhere : (p q : ℕ) (o : Octets) (past : History) → p ≢ q → came q (Bytes p o) past ≡ []
elsewhere p q o past ne = (let z : (p == q) ≡ false = grind (arith, nat_tests) in rw z refl)

pub bytes_or : (w : What) → ((q : ℕ) (o : Octets) → w ≢ Bytes q o) ⊎ ((q : ℕ) × (o : Octets) × (w ≡ Bytes q o))
bytes_or (Bytes q o) = inr (q, o, refl)
bytes_or (Ask r) = inl (λ q o e. cc)
bytes_or (Opened p) = inl (λ q o e. cc)
bytes_or (OpenFailed p f) = inl (λ q o e. cc)
bytes_or (SendFailed p f) = inl (λ q o e. cc)
bytes_or (ShortSend p) = inl (λ q o e. cc)
bytes_or (Datagram p x) = inl (λ q o e. cc)
bytes_or (RecvFailed p f) = inl (λ q o e. cc)
bytes_or (Wrote p n) = inl (λ q o e. cc)
bytes_or (WriteFailed p f) = inl (λ q o e. cc)
bytes_or (ReadFailed p f) = inl (λ q o e. cc)
bytes_or (Ended p) = inl (λ q o e. cc)
bytes_or Tick = inl (λ q o e. cc)

pub record RowDone (c : Conf) (s : ℕ) (past : History) (w : What) (u : Served) (h : History) : Type 0 where
  pub fr : ℕ → List Octets
  pub more : ℕ → List Octets
  pub streams : Kept c s past w Tick fr more u.server.by_stream h
  pub dgrams : KeptD c s past w Tick u.server.by_dgram h
  pub whole : (q : ℕ) (x : Conn) → u.server.by_stream.conns q ≡ Some x → more q ≡ []

pub rests_end : (c : Conf) (s : ℕ) (past : History) (w : What) (u : Served) (h : History) → Fits c s past w u h → RestsNow c u → RowDone c s past w u h
rests_end c s past w u h f r = record {
  fr = f.fr;
  more = f.more;
  streams = turns c s past w u.pending f.fr f.more u.server.by_stream h f.streams (foreign_done u.pending u.server.by_stream r.foreign);
  dgrams = dgrams;
  whole = λ q x e. whole q x e u.taken refl;
}
  where
    dgrams : KeptD c s past w Tick u.server.by_dgram h
    dgrams = go u.taken refl
      where
        go : (b : Bool) → u.taken ≡ b → KeptD c s past w Tick u.server.by_dgram h
        go true e = subst (λ v. KeptD c s past w v u.server.by_dgram h) (f.taken e).pending f.dgrams
        go false e = (let v : u.pending ≡ w = (f.untaken e).pending in ignores c s past w w u.server.by_dgram h (subst (λ v. KeptD c s past w v u.server.by_dgram h) v f.dgrams) f.streams.row.before (subst (λ v. IsIgnored c v u.server.by_dgram) v r.ignored))

    none_came : (q : ℕ) (x : Conn) → u.server.by_stream.conns q ≡ Some x → u.pending ≡ w → came q w past ≡ []
    none_came q x e same = elim (bytes_or w) [
      | inl other ↦ no_frames_came c s q w past h f.streams.row.before (f.streams.conns q x e).at other
      | inr b ↦
          (let p = b.0 in
          let none : u.server.by_stream.conns p ≡ None = subst (λ v. IsForeign v u.server.by_stream) (same ∙ b.2) r.foreign in
          subst (λ w. came q w past ≡ []) (sym b.2) (elsewhere p q (b.1) past (λ i. (let z = ap u.server.by_stream.conns i in cc))))
    ]

    whole : (q : ℕ) (x : Conn) → u.server.by_stream.conns q ≡ Some x → (b : Bool) → u.taken ≡ b → f.more q ≡ []
    whole q x e true t = elim (cases_eq u.place q) [
      | inl is ↦ ap f.more (sym is) ∙ (((f.taken t).here x (ap u.server.by_stream.conns is ∙ e)).0 ∙ r.frames)
      | inr ne ↦ (f.taken t).others q x ne e
    ]
    whole q x e false t = (let v = f.untaken t in ap (λ g. g q) v.coming ∙ none_came q x e v.pending)
