-- What a move of one server's part leaves: its own facts, and those of every other server.
use Rattle.std.proofs.Common.{◌≡◌, ◌≢◌, ℕ, suc, ◌≤◌, ◌<◌, Bool, true, false, ◌&&◌, ◌⊎◌, inl, inr, Option, Some, None, List, [], ◌∷◌, refl, arith, ◌∙◌, sym, subst, ap, ◌==◌}
use Rattle.std.specs.Prelude.{if◌then◌else◌, Result}
use Rattle.client_request.specs.declared.error.Error.{Error}
use Rattle.std.proofs.lemmas.Bool.{cases_lt, eqb-true}
use Rattle.std.proofs.lemmas.Bool.Decides.{nat_tests}
use Rattle.client_request.specs.declared.event.What.{What}
use Rattle.client_request.specs.declared.event.Out.{Out}
use Rattle.client_request.specs.declared.event.Out.TheVariants.{Start, OpenDgram, OpenStream, Send, Write, Resume, Close, Stale, Reply}
use Rattle.client_request.specs.declared.event.Via.{Via}
use Rattle.client_request.specs.declared.event.Via.TheVariants.{Dgram, Stream}
use Rattle.right_trace.specs.Trace.{History, Conf, ByDatagrams, Came, Put, put_all}
use Rattle.right_trace.specs.Time.{now, EarlierRow}
use Rattle.right_trace.specs.Messages.{Octets}
use Rattle.right_trace.specs.Requests.{start, started, is_start, same_via, handed}
use Rattle.right_trace.specs.Places.{Site, site, is_site, is_at, opens_as, reach}
use Rattle.right_trace.specs.Writes.{waiting_with}
use Rattle.right_trace.specs.Exchanges.{octets_for, is_before, IsAmong}
use Rattle.right_trace.specs.Causes.{is_send_to, try_of, sends, last_try, Heard}
use Rattle.right_trace.specs.Orderly.{use_at}
use Rattle.proof_right.specs.machine.Streams.{Asker, Conn}
use Rattle.proof_right.specs.machine.Dgrams.{Stage, Queued, Trying, Sent, Ending, Cut, Tryer}
use Rattle.proof_right.specs.machine.Server.{Server}
use Rattle.proof_right.specs.machine.Served.{Served, IsSettled, has_moved}
use Rattle.proof_right.proofs.server.Kept.{stream_site, Kept}
use Rattle.proof_right.proofs.server.DgramKept.{dgram_site, KeptD}
use Rattle.proof_right.proofs.server.Puts.{reach_put, IsForeignOut, kept_put}
use Rattle.proof_right.proofs.server.DgramPuts.{SameTryer, IsShort}
use Rattle.proof_right.proofs.server.DgramMoves.{IsOther, kept_put_d, standing}
use Rattle.proof_right.proofs.server.Fitting.{OneId, BegunBy, UnsentBy, Fits}

pub reach_all : (outs : List Out) (h : History) → reach h ≤ reach (put_all outs h)
reach_all [] h = omega arith
reach_all (o ∷ outs) h = (let a = reach_put o h in let b = reach_all outs (Put o ∷ h) in omega arith)

pub now_all : (outs : List Out) (h : History) → now (put_all outs h) ≡ now h
now_all [] h = refl
now_all (o ∷ outs) h = now_all outs (Put o ∷ h)

pub earlier_all : (P : History → Type 0) (outs : List Out) (h : History) → EarlierRow P (put_all outs h) → EarlierRow P h
earlier_all P [] h x = x
earlier_all P (o ∷ outs) h x = earlier_all P outs (Put o ∷ h) x

pub not_heard : (c : Conf) (k s : ℕ) (h : History) → start k s Stream h ≡ None → EarlierRow (Heard c k s) h → ⊥
not_heard c k s [] e x = x
not_heard c k s (Came w ∷ h) e (inl x) = (let i = x.comes.is_open.sent in let z : is_before c (now h) (start k s Stream h) ≡ false = rw e refl in subst (λ b. IsAmong x.comes.is_open.octets (if b then octets_for k (waiting_with [] x.place x.id h) else [])) z i)
not_heard c k s (Came w ∷ h) e (inr x) = not_heard c k s h e x
not_heard c k s (Put o ∷ h) e x = go (is_start k s Stream o) (λ e. not_heard c k s h e x) e
  where
    go : (b : Bool) → (start k s Stream h ≡ None → ⊥) → (if b then Some (now h) else start k s Stream h) ≡ None → ⊥
    go true ih g = cc
    go false ih g = ih g

-- A move with this server and these outs.
pub record Moved (c : Conf) (s : ℕ) (past : History) (w : What) (u : Served) (h : History) (f : Fits c s past w u h) (v : Server) (outs : List Out) : Type 0 where
  pub streams : Kept c s past w u.pending f.fr f.more v.by_stream (put_all outs h)
  pub dgrams : KeptD c s past w u.pending v.by_dgram (put_all outs h)
  pub conns : (q : ℕ) (x : Conn) → v.by_stream.conns q ≡ Some x → (y : Conn) × (u.server.by_stream.conns q ≡ Some y) × (x.heard ≡ y.heard)
  pub asks : (k : ℕ) (a : Asker) → v.by_stream.asks k ≡ Some a → ((b : Asker) × (u.server.by_stream.asks k ≡ Some b)) ⊎ (start k s Stream h ≡ None)
  pub held : (k : ℕ) (a : Tryer) → v.by_dgram.held k ≡ Some a → use_at s c.servers ≡ Some ByDatagrams
  pub settled : IsSettled v.by_dgram
  pub one_id : OneId s (put_all outs h)
  pub begun : BegunBy s (put_all outs h)
  pub unsent : UnsentBy s (put_all outs h)

pub fits_after : (c : Conf) (s : ℕ) (past : History) (w : What) (u : Served) (h : History) (f : Fits c s past w u h) (v : Server) (outs : List Out) → Moved c s past w u h f v outs → Fits c s past w (has_moved v u) (put_all outs h)
fits_after c s past w u h f v outs m = record {
  fr = f.fr;
  more = f.more;
  clock = f.clock ∙ sym (now_all outs h);
  streams = m.streams;
  dgrams = m.dgrams;
  untaken = λ e. (let x = f.untaken e in record { pending = x.pending; before = x.before; coming = x.coming; frames = x.frames });
  taken = λ e. (let x = f.taken e in record {
    pending = x.pending;
    here = λ y g. (let z = m.conns u.place y g in let q = x.here z.0 z.1 in (q.0, λ ne. z.2 ∙ q.1 ne));
    others = λ q y ne g. (let z = m.conns q y g in x.others q z.0 ne z.1);
  });
  free = λ q le. (let a = reach_all outs h in f.free q (omega arith));
  by_dgram = m.held;
  settled = m.settled;
  silent = λ k a g x. (let y = earlier_all (Heard c k s) outs h x in elim (m.asks k a g) [ inl b ↦ f.silent k b.0 b.1 y | inr none ↦ not_heard c k s h none y ]);
  one_id = m.one_id;
  begun = m.begun;
  unsent = m.unsent;
}

-- Other servers

-- an out of server s: a start there, or at a place of its own
abbrev pub IsOf : (s : ℕ) → Out → History → Type 0
IsOf s (Start k i v) h = i ≡ s
IsOf s (OpenDgram p i) h = (i ≡ s) × (p ≡ reach h)
IsOf s (OpenStream p i) h = (i ≡ s) × (p ≡ reach h)
IsOf s (Send p k id o) h = site p h ≡ Some (dgram_site s)
IsOf s (Write p k id o) h = site p h ≡ Some (stream_site s)
IsOf s (Resume p o) h = Unit {0}
IsOf s (Stale l) h = Unit {0}
IsOf s (Close p) h = (v : Via) × (site p h ≡ Some (record { via = v; server = s }))
IsOf s (Reply k x) h = Unit {0}

two_servers : (s t : ℕ) (u v : Via) (x : Option Site) → s ≢ t → x ≡ Some (record { via = u; server = s }) → x ≡ Some (record { via = v; server = t }) → ⊥
two_servers s t u v x ne a b = ne (let z : Some (record { via = u; server = s }) ≡ Some (record { via = v; server = t }) = sym a ∙ b in let y : record { via = u; server = s } ≡ record { via = v; server = t } = cc in ap (λ (x : Site). x.server) y)

apart_of : (p q : ℕ) → p ≢ q → (p == q) ≡ false
apart_of p q ne = grind (arith, nat_tests)

none_of : (s t : ℕ) (u v : Via) → s ≢ t → is_site v t (Some (record { via = u; server = s })) ≡ false
none_of s t u v ne = (let z : (s == t) ≡ false = grind (arith, nat_tests) in rw z (and_none (same_via u v)))
  where
    and_none : (b : Bool) → (b && false) ≡ false
    and_none true = refl
    and_none false = refl

module _ (c : Conf) (s t : ℕ) (past : History) (w : What) (v : Served) (h : History) (f : Fits c t past w v h) (ne : s ≢ t) where
  -- its places are others
  conn_site : (q : ℕ) (x : Conn) → v.server.by_stream.conns q ≡ Some x → site q h ≡ Some (stream_site t)
  conn_site q x e = (f.streams.conns q x e).at

  open_site : (q : ℕ) → v.server.by_stream.opening ≡ Some q → site q h ≡ Some (stream_site t)
  open_site q e = (f.streams.opening q e).at

  slot_site : (q k : ℕ) → v.server.by_dgram.at q ≡ Some k → site q h ≡ Some (dgram_site t)
  slot_site q k e = (let o = f.dgrams.slots q k e in (standing c t k q o.owner.request past w v.pending h o.owner.stage o.its (f.dgrams.held k o.owner o.is_held).stage).1)

  -- an out at a place of server s
  at_place : (p q : ℕ) (u x : Via) → site p h ≡ Some (record { via = u; server = s }) → site q h ≡ Some (record { via = x; server = t }) → (p == q) ≡ false
  at_place p q u x a b = apart_of p q (λ is. two_servers s t u x (site q h) ne (ap (λ p. site p h) (sym is) ∙ a) b)

  new_place : (p q : ℕ) → p ≡ reach h → q < reach h → (p == q) ≡ false
  new_place p q is lt = apart_of p q (λ e. omega arith)

  start_not : (j k : ℕ) (u x : Via) (i : ℕ) → i ≡ s → is_start j t x (Start k i u) ≡ false
  start_not j k u x i is = (let z : (i == t) ≡ false = grind (arith, nat_tests) in rw z (none (same_via u x) (k == j)))
    where
      none : (a b : Bool) → (a && (b && false)) ≡ false
      none true true = refl
      none true false = refl
      none false b = refl

  below_site : (q : ℕ) (z : Site) → site q h ≡ Some z → q < reach h
  below_site q z e = elim (cases_lt q (reach h)) [ inl lt ↦ lt | inr le ↦ absurd (let n = (f.streams.to_come q le).nowhere in let y = sym n ∙ e in cc) ]

  foreign : (o : Out) → IsOf s o h → IsForeignOut t v.server.by_stream o h
  foreign (Start k i u) is = record { conns = λ q x e. refl; opening = λ q e. refl; below = λ q e. absurd (cc); asks = λ j a e. start_not j k u Stream i is; elsewhere = λ q e g. absurd (cc) }
  foreign (OpenDgram p i) is = record {
    conns = λ q x e. new_place p q is.1 (below_site q (stream_site t) (conn_site q x e));
    opening = λ q e. new_place p q is.1 (below_site q (stream_site t) (open_site q e));
    below = λ q e. (let z : p ≡ q = eqb-true p q e in omega arith);
    asks = λ j a e. refl;
    elsewhere = λ q e g. absurd (let n = (f.streams.to_come (reach h) (omega arith)).nowhere in let z : p ≡ q = eqb-true p q e in let m : site q h ≡ None = ap (λ q. site q h) (sym z ∙ is.1) ∙ n in let y : is_site Stream t (Some (record { via = Dgram; server = i })) ≡ true = subst (λ x. is_site Stream t x ≡ true) (let y : site q (Put (OpenDgram p i) ∷ h) ≡ Some (record { via = Dgram; server = i }) = rw (e, m) refl in y) g in cc);
  }
  foreign (OpenStream p i) is = record {
    conns = λ q x e. new_place p q is.1 (below_site q (stream_site t) (conn_site q x e));
    opening = λ q e. new_place p q is.1 (below_site q (stream_site t) (open_site q e));
    below = λ q e. (let z : p ≡ q = eqb-true p q e in omega arith);
    asks = λ j a e. refl;
    elsewhere = λ q e g. absurd (let n = (f.streams.to_come (reach h) (omega arith)).nowhere in let z : p ≡ q = eqb-true p q e in let m : site q h ≡ None = ap (λ q. site q h) (sym z ∙ is.1) ∙ n in let y : is_site Stream t (Some (record { via = Stream; server = i })) ≡ true = subst (λ x. is_site Stream t x ≡ true) (let y : site q (Put (OpenStream p i) ∷ h) ≡ Some (record { via = Stream; server = i }) = rw (e, m) refl in y) g in let b : is_site Stream t (Some (record { via = Stream; server = i })) ≡ false = subst (λ i. is_site Stream t (Some (record { via = Stream; server = i })) ≡ false) (sym is.0) (none_of s t Stream Stream ne) in let z : true ≡ false = sym y ∙ b in cc);
  }
  foreign (Send p k id o) is = record { conns = λ q x e. refl; opening = λ q e. refl; below = λ q e. absurd (cc); asks = λ j a e. refl; elsewhere = λ q e g. absurd (cc) }
  foreign (Write p k id o) is = record {
    conns = λ q x e. at_place p q Stream Stream is (conn_site q x e);
    opening = λ q e. at_place p q Stream Stream is (open_site q e);
    below = λ q e. (let z : p ≡ q = eqb-true p q e in let lt = below_site p (stream_site s) is in omega arith);
    asks = λ j a e. refl;
    elsewhere = λ q e g. absurd (let z : p ≡ q = eqb-true p q e in let at : site q h ≡ Some (stream_site s) = ap (λ q. site q h) (sym z) ∙ is in let y : is_site Stream t (Some (stream_site s)) ≡ true = subst (λ x. is_site Stream t x ≡ true) at g in let b = none_of s t Stream Stream ne in let z : true ≡ false = sym y ∙ b in cc);
  }
  foreign (Resume p o) is = record { conns = λ q x e. refl; opening = λ q e. refl; below = λ q e. absurd (cc); asks = λ j a e. refl; elsewhere = λ q e g. absurd (cc) }
  foreign (Stale l) is = record { conns = λ q x e. refl; opening = λ q e. refl; below = λ q e. absurd (cc); asks = λ j a e. refl; elsewhere = λ q e g. absurd (cc) }
  foreign (Close p) is = record {
    conns = λ q x e. at_place p q (is.0) Stream is.1 (conn_site q x e);
    opening = λ q e. at_place p q (is.0) Stream is.1 (open_site q e);
    below = λ q e. (let z : p ≡ q = eqb-true p q e in let lt = below_site p (record { via = is.0; server = s }) is.1 in omega arith);
    asks = λ j a e. refl;
    elsewhere = λ q e g. absurd (let z : p ≡ q = eqb-true p q e in let at : site q h ≡ Some (record { via = is.0; server = s }) = ap (λ q. site q h) (sym z) ∙ is.1 in let y : is_site Stream t (Some (record { via = is.0; server = s })) ≡ true = subst (λ x. is_site Stream t x ≡ true) at g in let b = none_of s t (is.0) Stream ne in let z : true ≡ false = sym y ∙ b in cc);
  }
  foreign (Reply k x) is = record { conns = λ q x e. refl; opening = λ q e. refl; below = λ q e. absurd (cc); asks = λ j a e. refl; elsewhere = λ q e g. absurd (cc) }

  start_same : (j : ℕ) (k i : ℕ) (u x : Via) → i ≡ s → started j t x (Put (Start k i u) ∷ h) ≡ started j t x h
  start_same j k i u x is = (let z = start_not j k u x i is in rw z refl)

  short : (k : ℕ) (a : Tryer) (o : Out) → v.server.by_dgram.held k ≡ Some a → IsShort k o h a.stage
  short k a o e = go a.stage refl
    where
      go : (st : Stage) → a.stage ≡ st → IsShort k o h st
      go Queued i = tt
      go (Trying p) i = tt
      go (Sent p id n) i = tt
      go (Ending x) i = absurd (f.settled k a e x i)
      go Cut i = tt

  not_sent : (p j k : ℕ) (id : ℕ) (o : Octets) → site p h ≡ Some (dgram_site s) → is_send_to k t (Send p j id o) h ≡ false
  not_sent p j k id o at = (let z : is_at Dgram t p h ≡ false = ap (is_site Dgram t) at ∙ none_of s t Dgram Dgram ne in rw z (none (j == k)))
    where
      none : (b : Bool) → (b && false) ≡ false
      none true = refl
      none false = refl

  same_tryer : (k : ℕ) (o : Out) → IsOf s o h → SameTryer t k h (Put o ∷ h)
  same_tryer k (Start j i u) is = record { starts = λ x. start_same k j i u x is; tries = refl; last = refl }
  same_tryer k (OpenDgram p i) is = record { starts = λ x. refl; tries = refl; last = refl }
  same_tryer k (OpenStream p i) is = record { starts = λ x. refl; tries = refl; last = refl }
  same_tryer k (Send p j id o) is = (let z = not_sent p j k id o is in record { starts = λ x. refl; tries = ap (λ b. if b then suc (sends k t h) else sends k t h) z; last = ap (λ b. if b then try_of (Send p j id o) (now h) else last_try k t h) z })
  same_tryer k (Write p j id o) is = record { starts = λ x. refl; tries = refl; last = refl }
  same_tryer k (Resume p o) is = record { starts = λ x. refl; tries = refl; last = refl }
  same_tryer k (Stale l) is = record { starts = λ x. refl; tries = refl; last = refl }
  same_tryer k (Close p) is = record { starts = λ x. refl; tries = refl; last = refl }
  same_tryer k (Reply j y) is = record { starts = λ x. refl; tries = refl; last = refl }

  of_kind : (p q : ℕ) (u : Via) → (p == q) ≡ true → site p h ≡ Some (record { via = u; server = s }) → is_at Dgram t q h ≡ false
  of_kind p q u e at = (let is : p ≡ q = eqb-true p q e in ap (is_site Dgram t) (ap (λ q. site q h) (sym is) ∙ at) ∙ none_of s t u Dgram ne)

  opened : (p q i : ℕ) (u : Via) → (p == q) ≡ true → i ≡ s → p ≡ reach h → (site q h ≡ None) × (is_site Dgram t (opens_as u i (site q h)) ≡ false)
  opened p q i u e is at =
      let same : p ≡ q = eqb-true p q e in
      let n : site q h ≡ None = ap (λ q. site q h) (sym same ∙ at) ∙ (f.streams.to_come (reach h) (omega arith)).nowhere in
      (n, ap (λ x. is_site Dgram t (opens_as u i x)) n ∙ subst (λ i. is_site Dgram t (Some (record { via = u; server = i })) ≡ false) (sym is) (none_of s t u Dgram ne))

  slot_below : (q k : ℕ) → v.server.by_dgram.at q ≡ Some k → q < reach h
  slot_below q k e = below_site q (dgram_site t) (slot_site q k e)

  other : (o : Out) → IsOf s o h → IsOther t v.server.by_dgram o h
  other (Start k i u) is = record { held = λ j a e. record { same = same_tryer j (Start k i u) is; short = short j a (Start k i u) e }; places = λ q j e. refl; below = λ q e. absurd (cc); elsewhere = λ q e. absurd (cc); next = inl refl }
  other (OpenDgram p i) is = record {
    held = λ j a e. record { same = same_tryer j (OpenDgram p i) is; short = short j a (OpenDgram p i) e };
    places = λ q j e. new_place p q is.1 (slot_below q j e);
    below = λ q e. (let z : p ≡ q = eqb-true p q e in omega arith);
    elsewhere = λ q e. (let z = opened p q i Dgram e is.0 is.1 in (rw e z.1, ap (is_site Dgram t) z.0));
    next = inr (let z = is.1 in omega arith);
  }
  other (OpenStream p i) is = record {
    held = λ j a e. record { same = same_tryer j (OpenStream p i) is; short = short j a (OpenStream p i) e };
    places = λ q j e. new_place p q is.1 (slot_below q j e);
    below = λ q e. (let z : p ≡ q = eqb-true p q e in omega arith);
    elsewhere = λ q e. (let z = opened p q i Stream e is.0 is.1 in (rw e z.1, ap (is_site Dgram t) z.0));
    next = inr (let z = is.1 in omega arith);
  }
  other (Send p k id o) is = record {
    held = λ j a e. record { same = same_tryer j (Send p k id o) is; short = short j a (Send p k id o) e };
    places = λ q j e. at_place p q Dgram Dgram is (slot_site q j e);
    below = λ q e. (let z : p ≡ q = eqb-true p q e in let lt = below_site p (dgram_site s) is in omega arith);
    elsewhere = λ q e. (let z = of_kind p q Dgram e is in (z, z));
    next = inl refl;
  }
  other (Write p k id o) is = record { held = λ j a e. record { same = same_tryer j (Write p k id o) is; short = short j a (Write p k id o) e }; places = λ q j e. refl; below = λ q e. absurd (cc); elsewhere = λ q e. absurd (cc); next = inl refl }
  other (Resume p o) is = record { held = λ j a e. record { same = same_tryer j (Resume p o) is; short = short j a (Resume p o) e }; places = λ q j e. refl; below = λ q e. absurd (cc); elsewhere = λ q e. absurd (cc); next = inl refl }
  other (Stale l) is = record { held = λ j a e. record { same = same_tryer j (Stale l) is; short = short j a (Stale l) e }; places = λ q j e. refl; below = λ q e. absurd (cc); elsewhere = λ q e. absurd (cc); next = inl refl }
  other (Close p) is = record {
    held = λ j a e. record { same = same_tryer j (Close p) is; short = short j a (Close p) e };
    places = λ q j e. at_place p q (is.0) Dgram is.1 (slot_site q j e);
    below = λ q e. (let z : p ≡ q = eqb-true p q e in let lt = below_site p (record { via = is.0; server = s }) is.1 in omega arith);
    elsewhere = λ q e. (let z = of_kind p q (is.0) e is.1 in (z, z));
    next = inl refl;
  }
  other (Reply k x) is = record { held = λ j a e. record { same = same_tryer j (Reply k x) is; short = short j a (Reply k x) e }; places = λ q j e. refl; below = λ q e. absurd (cc); elsewhere = λ q e. absurd (cc); next = inl refl }

  one_id_put : (o : Out) → IsOf s o h → OneId t (Put o ∷ h)
  one_id_put (Start k i u) is = f.one_id
  one_id_put (OpenDgram p i) is = λ q k i' j x y at a b. f.one_id q k i' j x y (was (p == q) q i at) a b
    where
      was : (b : Bool) (q i : ℕ) → is_site Stream t (if b then opens_as Dgram i (site q h) else site q h) ≡ true → is_at Stream t q h ≡ true
      was false q i e = e
      was true q i e = go (site q h) e
        where
          go : (x : Option Site) → is_site Stream t (opens_as Dgram i x) ≡ true → is_site Stream t x ≡ true
          go None e = absurd (cc)
          go (Some y) e = e
  one_id_put (OpenStream p i) is = λ q k i' j x y at a b. f.one_id q k i' j x y (was (p == q) q at) a b
    where
      was : (b : Bool) (q : ℕ) → is_site Stream t (if b then opens_as Stream i (site q h) else site q h) ≡ true → is_at Stream t q h ≡ true
      was false q e = e
      was true q e = go (site q h) e
        where
          go : (x : Option Site) → is_site Stream t (opens_as Stream i x) ≡ true → is_site Stream t x ≡ true
          go None e = absurd (let b : is_site Stream t (Some (record { via = Stream; server = i })) ≡ false = subst (λ i. is_site Stream t (Some (record { via = Stream; server = i })) ≡ false) (sym is.0) (none_of s t Stream Stream ne) in let z : true ≡ false = sym e ∙ b in cc)
          go (Some y) e = e
  one_id_put (Send p k id o) is = f.one_id
  one_id_put (Write p k id o) is = λ q l i j x y at a b. (let n = far q at in f.one_id q l i j x y at (less q l i x n a) (less q l j y n b))
    where
      far : (q : ℕ) → is_at Stream t q h ≡ true → (p == q) ≡ false
      far q at = apart_of p q (λ e. (let z : is_at Stream t q h ≡ false = ap (is_site Stream t) (ap (λ q. site q h) (sym e) ∙ is) ∙ none_of s t Stream Stream ne in let y : true ≡ false = sym at ∙ z in cc))

      less : (q l i : ℕ) (x : Octets) → (p == q) ≡ false → IsAmong x (octets_for l (waiting_with [] q i (Put (Write p k id o) ∷ h))) → IsAmong x (octets_for l (waiting_with [] q i h))
      less q l i x n a = subst (λ ws. IsAmong x (octets_for l ws)) (let z : waiting_with [] q i (Put (Write p k id o) ∷ h) ≡ waiting_with [] q i h = rw n refl in z) a
  one_id_put (Resume p o) is = f.one_id
  one_id_put (Stale l) is = f.one_id
  one_id_put (Close p) is = f.one_id
  one_id_put (Reply k x) is = f.one_id

  begun_put : (o : Out) → IsOf s o h → BegunBy t (Put o ∷ h)
  begun_put (Start k i u) is = λ q l j x at a. (let z = start_same l k i u Stream is in z ∙ f.begun q l j x at a)
  begun_put (OpenDgram p i) is = λ q l j x at a. f.begun q l j x (was (p == q) q i at) a
    where
      was : (b : Bool) (q i : ℕ) → is_site Stream t (if b then opens_as Dgram i (site q h) else site q h) ≡ true → is_at Stream t q h ≡ true
      was false q i e = e
      was true q i e = go (site q h) e
        where
          go : (x : Option Site) → is_site Stream t (opens_as Dgram i x) ≡ true → is_site Stream t x ≡ true
          go None e = absurd (cc)
          go (Some y) e = e
  begun_put (OpenStream p i) is = λ q l j x at a. f.begun q l j x (was (p == q) q at) a
    where
      was : (b : Bool) (q : ℕ) → is_site Stream t (if b then opens_as Stream i (site q h) else site q h) ≡ true → is_at Stream t q h ≡ true
      was false q e = e
      was true q e = go (site q h) e
        where
          go : (x : Option Site) → is_site Stream t (opens_as Stream i x) ≡ true → is_site Stream t x ≡ true
          go None e = absurd (let b : is_site Stream t (Some (record { via = Stream; server = i })) ≡ false = subst (λ i. is_site Stream t (Some (record { via = Stream; server = i })) ≡ false) (sym is.0) (none_of s t Stream Stream ne) in let z : true ≡ false = sym e ∙ b in cc)
          go (Some y) e = e
  begun_put (Send p k id o) is = f.begun
  begun_put (Write p k id o) is = λ q l i x at a. (let n = far q at in f.begun q l i x at (less q l i x n a))
    where
      far : (q : ℕ) → is_at Stream t q h ≡ true → (p == q) ≡ false
      far q at = apart_of p q (λ e. (let z : is_at Stream t q h ≡ false = ap (is_site Stream t) (ap (λ q. site q h) (sym e) ∙ is) ∙ none_of s t Stream Stream ne in let y : true ≡ false = sym at ∙ z in cc))

      less : (q l i : ℕ) (x : Octets) → (p == q) ≡ false → IsAmong x (octets_for l (waiting_with [] q i (Put (Write p k id o) ∷ h))) → IsAmong x (octets_for l (waiting_with [] q i h))
      less q l i x n a = subst (λ ws. IsAmong x (octets_for l ws)) (let z : waiting_with [] q i (Put (Write p k id o) ∷ h) ≡ waiting_with [] q i h = rw n refl in z) a
  begun_put (Resume p o) is = f.begun
  begun_put (Stale l) is = f.begun
  begun_put (Close p) is = f.begun
  begun_put (Reply k x) is = f.begun

  unsent_put : (o : Out) → IsOf s o h → UnsentBy t (Put o ∷ h)
  unsent_put o is k e = (let z = same_tryer k o is in z.tries ∙ f.unsent k (sym (handed_same k o z) ∙ e))
    where
      handed_same : (k : ℕ) (o : Out) → SameTryer t k h (Put o ∷ h) → handed k t (Put o ∷ h) ≡ handed k t h
      handed_same k o z = (let a = z.starts Dgram in let b = z.starts Stream in rw (a, b) refl)

  pub others_put : (o : Out) → IsOf s o h → Fits c t past w v (Put o ∷ h)
  others_put o is = fits_after c t past w v h f v.server (o ∷ []) (record {
    streams = kept_put c t past w v.pending f.fr f.more v.server.by_stream o h (foreign o is) f.streams;
    dgrams = kept_put_d c t past w v.pending v.server.by_dgram o h (other o is) f.dgrams;
    conns = λ q x e. (x, e, refl);
    asks = λ k a e. inl (a, e);
    held = f.by_dgram;
    settled = f.settled;
    one_id = one_id_put o is;
    begun = begun_put o is;
    unsent = unsent_put o is;
  })

-- all outs of a move
abbrev pub AreOf : (s : ℕ) → List Out → History → Type 0
AreOf s [] h = Unit {0}
AreOf s (o ∷ os) h = IsOf s o h × AreOf s os (Put o ∷ h)

pub others_all : (c : Conf) (s t : ℕ) (past : History) (w : What) (v : Served) (outs : List Out) (h : History) → s ≢ t → AreOf s outs h → Fits c t past w v h → Fits c t past w v (put_all outs h)
others_all c s t past w v [] h ne are f = f
others_all c s t past w v (o ∷ os) h ne are f = others_all c s t past w v os (Put o ∷ h) ne are.1 (others_put c s t past w v h f ne o are.0)

-- a reply is nothing to it
pub replies : (c : Conf) (s k : ℕ) (x : Result Octets Error) (past : History) (w : What) (u : Served) (h : History) → Fits c s past w u h → Fits c s past w u (Put (Reply k x) ∷ h)
replies c s k x past w u h f = others_put c (suc s) s past w u h f (λ e. (omega arith)) (Reply k x) tt

-- nor is the mark of one
pub marks : (c : Conf) (s k : ℕ) (past : History) (w : What) (u : Served) (h : History) → Fits c s past w u h → Fits c s past w u (Put (Stale k) ∷ h)
marks c s k past w u h f = others_put c (suc s) s past w u h f (λ e. (omega arith)) (Stale k) tt
