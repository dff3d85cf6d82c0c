-- When one server rests, and a client of one server is done with a row.
use Rattle.right_trace.specs.Trace.{Conf}
use Rattle.std.proofs.Common.{◌≡◌, ◌≢◌, ℕ, zero, suc, ◌+◌, ◌<◌, ◌≤◌, true, false, inl, inr, Option, Some, None, List, [], ◌∷◌, is_some, refl, arith, sym, ap, subst, ◌∙◌}
use Rattle.std.specs.Prelude.{Result, ◌==◌, nat_lt, nat_le}
use Rattle.std.proofs.lemmas.Bool.Decides.{nat_tests}
use Rattle.client_request.specs.declared.event.What.TheVariants.{Ask, Opened, Datagram, Wrote, Bytes, Tick}
use Rattle.std.proofs.lemmas.Bool.{cases_eq}
use Rattle.client_request.specs.Request.{Request}
use Rattle.client_request.specs.declared.error.Error.{Error}
use Rattle.right_trace.specs.Time.{read_timeout, response_timeout, stream_timeout, max_places}
use Rattle.right_trace.specs.Messages.{Octets}
use Rattle.right_trace.specs.Requests.{is_ask}
use Rattle.proof_right.specs.machine.Streams as multi
use Rattle.proof_right.specs.machine.Streams.{Phase, Asker, Mode, Conn, Multi, IsForeign}
use Rattle.right_trace.specs.Updates.{with_at}
use Rattle.proof_right.specs.machine.Dgrams as dgrams
use Rattle.proof_right.specs.machine.Dgrams.{Stage, Tryer, Dgrams, IsIgnored}
use Rattle.proof_right.specs.machine.Server.{Server, Rests}
use Rattle.proof_right.specs.machine.Served.{Served, holds, served, IsInTime, RestsNow}
use Rattle.proof_right.specs.machine.Client.{Waiting, with_held, Upper, Made, Moves, IsDone, IsRun, Goes_on, row_begins}
use Rattle.right_trace.specs.Settings.{first_settings}
use Rattle.proof_right.specs.examples.Rows.{by_datagrams}
use Rattle.client_request.specs.declared.event.Row.{Row}
use Rattle.proof_right.proofs.server.Views.{at_here, at_there}

-- Maps with one entry at most

pub only : {V : Type 0} (P : ℕ → V → Type 0) (k : ℕ) (v : V) (f : ℕ → Option V) → f k ≡ Some v → ((j : ℕ) → k ≢ j → f j ≡ None) → P k v → (j : ℕ) (b : V) → f j ≡ Some b → P j b
only {V} P k v f here others p j b e = elim (cases_eq k j) [
  | inl is ↦ subst (λ j. P j b) is (subst (λ b. P k b) (let z : Some v ≡ Some b = sym here ∙ (ap f is ∙ e) in let y : v ≡ b = cc in y) p)
  | inr ne ↦ absurd (let z = sym (others j ne) ∙ e in cc)
]

pub nobody : {V : Type 0} (P : ℕ → V → Type 0) (f : ℕ → Option V) → ((j : ℕ) → f j ≡ None) → (j : ℕ) (b : V) → f j ≡ Some b → P j b
nobody P f none j b e = absurd (let z = sym (none j) ∙ e in cc)

-- elsewhere nobody is
pub away : {V : Type 0} (k : ℕ) (v : Option V) (f : ℕ → Option V) → ((j : ℕ) → k ≢ j → f j ≡ None) → (j : ℕ) → k ≢ j → with_at k v f j ≡ None
away k v f none j ne = at_there k j v f ne ∙ none j ne

pub gone : {V : Type 0} (k : ℕ) (f : ℕ → Option V) → ((j : ℕ) → k ≢ j → f j ≡ None) → (j : ℕ) → with_at k None f j ≡ None
gone k f none j = elim (cases_eq k j) [ inl is ↦ subst (λ j. with_at k None f j ≡ None) is (at_here k None f) | inr ne ↦ at_there k j None f ne ∙ none j ne ]

pub away_held : (k : ℕ) (v : Option Waiting) (f : ℕ → Option Waiting) → ((j : ℕ) → k ≢ j → f j ≡ None) → (j : ℕ) → k ≢ j → with_held k v f j ≡ None
away_held k v f none j ne = (let z : (k == j) ≡ false = grind (arith, nat_tests) in rw z (none j ne))

pub gone_held : (k : ℕ) (f : ℕ → Option Waiting) → ((j : ℕ) → k ≢ j → f j ≡ None) → (j : ℕ) → with_held k None f j ≡ None
gone_held k f none j = elim (cases_eq k j) [ inl is ↦ (let z : (k == j) ≡ true = grind (arith, nat_tests) in rw z refl) | inr ne ↦ away_held k None f none j ne ]

pub away_every : (g : Phase → Phase) (k : ℕ) (f : ℕ → Option Asker) → ((j : ℕ) → k ≢ j → f j ≡ None) → (j : ℕ) → k ≢ j → multi.every g (f j) ≡ None
away_every g k f none j ne = ap (multi.every g) (none j ne)

pub away_unheard : (k : ℕ) (f : ℕ → Option Conn) → ((j : ℕ) → k ≢ j → f j ≡ None) → (j : ℕ) → k ≢ j → multi.unheard (f j) ≡ None
away_unheard k f none j ne = ap multi.unheard (none j ne)

-- nobody is held who is held by neither transport
pub not_held : (v : Served) (j : ℕ) → v.server.by_dgram.held j ≡ None → v.server.by_stream.asks j ≡ None → holds v j ≡ false
not_held v j a b = rw (a, b) refl

pub not_octets : (p : ℕ) (q : ℕ) (o : Octets) → Opened p ≢ Bytes q o
not_octets p q o = λ e. cc

pub wrote_plain : (p n : ℕ) (q : ℕ) (o : Octets) → Wrote p n ≢ Bytes q o
wrote_plain p n q o = λ e. cc

-- Numbers

pub below : (a b : ℕ) → nat_lt a b ≡ true → a < b
below a b e = grind (arith, nat_tests)

pub at_most : (a b : ℕ) → nat_le a b ≡ true → a ≤ b
at_most a b e = grind (arith, nat_tests)

-- Stages

abbrev pub StageSettled : Stage → Type 0
StageSettled st = (x : Result Octets Error) → st ≢ dgrams.Ending x

pub trying_settled : (p : ℕ) → StageSettled (dgrams.Trying p)
trying_settled p = λ x e. cc

pub sent_settled : (p id t : ℕ) → StageSettled (dgrams.Sent p id t)
sent_settled p id t = λ x e. cc

pub cut_settled : (st : Stage) → st ≡ dgrams.Cut → StageSettled st
cut_settled st e = λ x i. cc

abbrev pub StageInTime : (c : Conf) → (n : ℕ) → Stage → Type 0
StageInTime c n (dgrams.Sent p id t) = n < t + read_timeout c
StageInTime c n _ = Unit {0}

pub in_time_by : (c : Conf) → (n : ℕ) (v : Server) → ((k : ℕ) (a : Tryer) → v.by_dgram.held k ≡ Some a → StageInTime c n a.stage) → ((k : ℕ) (a : Asker) → v.by_stream.asks k ≡ Some a → n < a.since + stream_timeout c) → IsInTime c n v
in_time_by c n v dg st = record { sent = λ k a p id t e s. subst (λ s. StageInTime c n s) s (dg k a e); asked = st }

-- Events that are nobody's

pub tick_foreign : (m : Multi) → IsForeign Tick m
tick_foreign m p e = absurd (cc)

pub ask_foreign : (r : Request) (m : Multi) → IsForeign (Ask r) m
ask_foreign r m p e = absurd (cc)

pub datagram_foreign : (p : ℕ) (o : Octets) (m : Multi) → IsForeign (Datagram p o) m
datagram_foreign p o m q e = absurd (cc)

pub opens_nothing : (p : ℕ) (m : Multi) → m.opening ≡ None → IsForeign (Opened p) m
opens_nothing p m none e = (let z = sym none ∙ e in cc)

pub nobody_tries : (c : Conf) → (p : ℕ) (d : Dgrams) → d.at p ≡ None → IsIgnored c (Opened p) d
nobody_tries c p d none x = (let z = sym none ∙ x.2 in cc)

pub nobody_sent : (c : Conf) → (p : ℕ) (o : Octets) (d : Dgrams) → d.at p ≡ None → IsIgnored c (Datagram p o) d
nobody_sent c p o d none k a id t at = absurd (let z = sym none ∙ at in cc)

-- What each request and each connection owes when the server rests

abbrev pub StageRests : (c : Conf) → (n used : ℕ) → Stage → Type 0
StageRests c n used dgrams.Queued = used ≡ max_places c
StageRests c n used (dgrams.Trying p) = Unit {0}
StageRests c n used (dgrams.Sent p id t) = n < t + read_timeout c
StageRests c n used (dgrams.Ending x) = ⊥
StageRests c n used dgrams.Cut = ⊥

abbrev pub PhaseRests : (n : ℕ) → (ℕ → Option Conn) → Phase → Type 0
PhaseRests n conns multi.Free = ⊥
PhaseRests n conns multi.Expecting = Unit {0}
PhaseRests n conns (multi.Lined p) = (x : Conn) → conns p ≡ Some x → 0 < x.left
PhaseRests n conns (multi.Holding p id) = Unit {0}
PhaseRests n conns multi.Broken = ⊥
PhaseRests n conns (multi.BackingOff until) = n < until

abbrev pub ModeRests : (c : Conf) → (n idle : ℕ) → Mode → Type 0
ModeRests c n idle multi.New = Unit {0}
ModeRests c n idle (multi.Active since) = n ≤ since + response_timeout c
ModeRests c n idle (multi.Idle since) = n < since + idle

pub rests_by : (c : Conf) → (n : ℕ) (v : Server) → ((k : ℕ) (a : Tryer) → v.by_dgram.held k ≡ Some a → StageRests c n v.by_dgram.used a.stage) → ((k : ℕ) (a : Asker) → v.by_stream.asks k ≡ Some a → PhaseRests n v.by_stream.conns a.phase × (n < a.since + stream_timeout c)) → ((p : ℕ) (x : Conn) → v.by_stream.conns p ≡ Some x → ModeRests c n x.idle x.mode) → Rests c n v
rests_by c n v dg st co = record {
  waiting = λ k a e s. subst (λ s. StageRests c n v.by_dgram.used s) s (dg k a e);
  reading = λ k a p id t e s. subst (λ s. StageRests c n v.by_dgram.used s) s (dg k a e);
  ending = λ k a x e s. subst (λ s. StageRests c n v.by_dgram.used s) s (dg k a e);
  cut = λ k a e s. subst (λ s. StageRests c n v.by_dgram.used s) s (dg k a e);
  free = λ k a e s. subst (λ s. PhaseRests n v.by_stream.conns s) s (st k a e).0;
  broken = λ k a e s. subst (λ s. PhaseRests n v.by_stream.conns s) s (st k a e).0;
  lined = λ k a p x e s c. subst (λ s. PhaseRests n v.by_stream.conns s) s (st k a e).0 x c;
  backing = λ k a until e s. subst (λ s. PhaseRests n v.by_stream.conns s) s (st k a e).0;
  silent = λ k a e. (st k a e).1;
  quiet = λ p x since e m. subst (λ m. ModeRests c n x.idle m) m (co p x e);
  idle = λ p x since e m. subst (λ m. ModeRests c n x.idle m) m (co p x e);
}

module _ (compose : Request → Result Octets Error) where
  first_alone : (P : ℕ → Type 0) → P 0 → (i : ℕ) → i < 1 → P i
  first_alone P p zero lt = p
  first_alone P p (suc i) lt = absurd (omega arith)

  -- one request is tried
  pub done_with : (x : Upper Served) (k : ℕ) (a : Waiting) → is_ask x.pending ≡ false → x.board ≡ [] → x.leaving ≡ [] → RestsNow by_datagrams (x.ups 0) → x.held k ≡ Some a → ((j : ℕ) → k ≢ j → x.held j ≡ None) → holds (x.ups 0) k ≡ true → ((j : ℕ) → k ≢ j → holds (x.ups 0) j ≡ false) → x.now < a.moment + 5000000 → IsDone by_datagrams first_settings compose (served by_datagrams) x
  done_with x k a pend board leaving rests held others has hasnt early = record {
    taken = pend;
    board = board;
    leaving = leaving;
    rests = first_alone (λ i. RestsNow by_datagrams (x.ups i)) rests;
    tried_alone = λ i j lt h. first_alone (λ i. holds (x.ups i) j ≡ true → is_some (x.held j) ≡ true) (λ h. elim (cases_eq k j) [ inl is ↦ subst (λ j. is_some (x.held j) ≡ true) is (ap is_some held) | inr ne ↦ absurd (let z : true ≡ false = sym h ∙ hasnt j ne in cc) ]) i lt h;
    goes_on = only (λ j b. (i : ℕ) × (i < 1) × (holds (x.ups i) j ≡ true)) k a x.held held others (0, omega arith, has);
    early = only (λ j b. x.now < b.moment + 5000000) k a x.held held others early;
  }

  -- none is
  pub done_with_none : (x : Upper Served) → is_ask x.pending ≡ false → x.board ≡ [] → x.leaving ≡ [] → RestsNow by_datagrams (x.ups 0) → ((j : ℕ) → x.held j ≡ None) → ((j : ℕ) → holds (x.ups 0) j ≡ false) → IsDone by_datagrams first_settings compose (served by_datagrams) x
  done_with_none x pend board leaving rests none hasnt = record {
    taken = pend;
    board = board;
    leaving = leaving;
    rests = first_alone (λ i. RestsNow by_datagrams (x.ups i)) rests;
    tried_alone = λ i j lt h. first_alone (λ i. holds (x.ups i) j ≡ true → is_some (x.held j) ≡ true) (λ h. absurd (let z : true ≡ false = sym h ∙ hasnt j in cc)) i lt h;
    goes_on = λ j b e. absurd (let z = sym (none j) ∙ e in cc);
    early = λ j b e. absurd (let z = sym (none j) ∙ e in cc);
  }

  pub next : (x : Upper Served) (row : Row) (rows : List Row) (d : Made Served) → Moves by_datagrams first_settings compose (served by_datagrams) (row_begins by_datagrams first_settings compose (served by_datagrams) row.event x) d → row.outs ≡ d.outs → IsRun by_datagrams first_settings compose (served by_datagrams) d.state rows → IsRun by_datagrams first_settings compose (served by_datagrams) x (row ∷ rows)
  next x row rows d m o more = Goes_on x row d.state rows (record { made = d; moves = m; outs = o; leaves = refl }) more
