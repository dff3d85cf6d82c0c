-- A final message that comes for a request is its reply in the same row.
use Rattle.proof_right.proofs.Received.{reads_on}
use Rattle.proof_right.proofs.PartLaws.{machine_of, IsByOpening, PostRight, Late, Part, or_this}
use Rattle.std.proofs.Common.{◌≡◌, ℕ, suc, ◌+◌, ◌<◌, ◌≤◌, ◌≢◌, Bool, true, false, ◌⊎◌, inl, inr, Option, Some, None, List, [], ◌∷◌, ◌++◌, length, is_some, refl, arith, sym, ◌∙◌, ap, ap₂, subst, ◌==◌, ◌&&◌, ◌||◌}
use Rattle.std.specs.Prelude.{Result, Ok, Err, if◌then◌else◌, not}
use Rattle.std.proofs.lemmas.Bool.{cases_eq}
use Rattle.std.proofs.lemmas.Bool.Decides.{nat_tests}
use Rattle.client_request.specs.Request.{Request}
use Rattle.client_request.specs.declared.error.Error.{Error}
use Rattle.client_request.specs.declared.event.Event.{Event}
use Rattle.client_request.specs.declared.fault.Fault.{Fault}
use Rattle.client_request.specs.declared.event.What.{What}
use Rattle.client_request.specs.declared.event.What.TheVariants.{Ask, Opened, OpenFailed, SendFailed, ShortSend, Datagram, RecvFailed, Wrote, WriteFailed, Bytes, ReadFailed, Ended, Tick}
use Rattle.client_request.specs.declared.event.Out.{Out}
use Rattle.client_request.specs.declared.event.Out.TheVariants.{Start, OpenDgram, OpenStream, Send, Write, Resume, Close, Stale, Reply}
use Rattle.client_request.specs.declared.event.Via.{Via}
use Rattle.client_request.specs.declared.event.Via.TheVariants.{Dgram, Stream}
use Rattle.right_trace.specs.Trace.{History, Conf, Came, Put, put_all}
use Rattle.right_trace.specs.Time.{now, read_timeout, stream_timeout, row_before, recv_size, max_tries}
use Rattle.right_trace.specs.Messages.{Octets, Composes, answers}
use Rattle.right_trace.specs.Requests.{Asking, asking, replied}
use Rattle.right_trace.specs.Places.{Site, site, stand, is_alive, is_of_kind}
use Rattle.right_trace.specs.Frames.{is_alive_stream, reading, fed, came, received}
use Rattle.right_trace.specs.Exchanges.{Comes, Matches, first_of, first_datagram}
use Rattle.right_trace.specs.Causes.{sends, last_try, is_send_to, try_of, Try, TriesAreUp, ServerCause, NotOpened, NotSent, SentShort, NotReceived, NoAnswer, WrongReply, StreamSilence, NotRead, NotComposed}
use Rattle.right_trace.specs.Right.{Among, IsGivenSo, AsItIs, StaleFor, IsOverdue, PastDeadline, PastTries, PastStream}
use Rattle.right_trace.specs.Settings.{Settings}
use Rattle.right_trace.specs.Errors.{is_failing}
use Rattle.right_trace.specs.Keys.{is_cacheable}
use Rattle.right_trace.specs.Validity.{validity_of_message, is_deferred, is_final, waits_for_others}
use Rattle.right_trace.specs.Coming.{CameFor, IsExcused}
use Rattle.proof_right.specs.machine.Part.{Act}
use Rattle.proof_right.specs.machine.Client.{Posted, Given, Waiting, Leaving, Upper, Made, with_up, with_held, moved, handing, keeping, leave, newcomer, validity_of, outcome, outcome_of, IsOutcome, Caches, Passes, Move, Server_moves, Hands_on, Gives_up, Drops, Keeps_back, Delivers, Concludes, Times_out, Revives, told_of, revive, Replies, Forgets, Derives, Answers, Takes_on, Moves, Rests, Goes, IsDone, row_begins, NoneOf, hand}
use Rattle.right_trace.specs.Parts.{IsIn}
use Rattle.proof_right.proofs.client.Kept.{IsTold, IsExpected, IsPosted as OnBoard, IsKeptBack, IsPassedOver, Kept}
use Rattle.proof_right.proofs.client.Later.{now_all, put_more, excused_on, matches_reply, matches_mark, comes_all}
use Rattle.proof_right.proofs.client.Lists.{decide, in_left, in_right, in_here, in_more, in_but}
use Rattle.proof_right.proofs.client.Serving.{clash, has_some}
use Rattle.proof_right.proofs.client.Beginning.{waits_tried, waits_of}
use Rattle.proof_right.proofs.client.Steps.{move_does, moves_do}
use Rattle.client_request.specs.declared.error.Error.TheVariants as errors
use Rattle.proof_right.proofs.client.Outcomes.{given_so}

-- what a place brings, by an event that brings something
pub data Brings (p : ℕ) (w : What) : Type 0 where
  ADatagram : (o : Octets) → w ≡ Datagram p o → Brings p w
  SomeOctets : (o : Octets) → w ≡ Bytes p o → Brings p w

first_some : (c : Conf) → (b : Bool) → (b ≡ true → ⊥) → (v : Via) (id : ℕ) (ms : List Octets) (m : Octets) → first_of c v id (if b then ms else []) ≡ Some m → ⊥
first_some c true f v id ms m e = f refl
first_some c false f Dgram id ms m e = absurd (cc)
first_some c false f Stream id ms m e = absurd (cc)

pub none_first : (c : Conf) → (v : Via) (id : ℕ) (m : Octets) → first_of c v id [] ≡ Some m → ⊥
none_first c Dgram id m e = absurd (cc)
none_first c Stream id m e = absurd (cc)

and_first : (b d : Bool) → (b && d) ≡ true → b ≡ true
and_first true d e = refl
and_first false d e = absurd (cc)

pub came_when : (c : Conf) → (v : Via) (id p : ℕ) (w : What) (past : History) (m : Octets) → first_of c v id (came p w past) ≡ Some m → Brings p w
came_when c v id p (Datagram q o) past m e = ADatagram o (ap (λ q. Datagram q o) (elim (cases_eq q p) [ inl is ↦ is | inr ne ↦ absurd (first_some c ((q == p) && (is_alive (stand p past) && is_of_kind Dgram (site p past))) (λ b. (let z : (q == p) ≡ true = and_first (q == p) _ b in ne (grind (arith, nat_tests)))) v id (o ∷ []) m e) ]))
came_when c v id p (Bytes q o) past m e = SomeOctets o (ap (λ q. Bytes q o) (elim (cases_eq q p) [ inl is ↦ is | inr ne ↦ absurd (first_some c ((q == p) && is_alive_stream p past) (λ b. (let z : (q == p) ≡ true = and_first (q == p) _ b in ne (grind (arith, nat_tests)))) v id ((fed (reading p past) o).frames) m e) ]))
came_when c v id p (Ask r) past m e = absurd (none_first c v id m e)
came_when c v id p (Opened q) past m e = absurd (none_first c v id m e)
came_when c v id p (OpenFailed q f) past m e = absurd (none_first c v id m e)
came_when c v id p (SendFailed q f) past m e = absurd (none_first c v id m e)
came_when c v id p (ShortSend q) past m e = absurd (none_first c v id m e)
came_when c v id p (RecvFailed q f) past m e = absurd (none_first c v id m e)
came_when c v id p (Wrote q n) past m e = absurd (none_first c v id m e)
came_when c v id p (WriteFailed q f) past m e = absurd (none_first c v id m e)
came_when c v id p (ReadFailed q f) past m e = absurd (none_first c v id m e)
came_when c v id p (Ended q) past m e = absurd (none_first c v id m e)
came_when c v id p Tick past m e = absurd (none_first c v id m e)

same_dgram : (p q : ℕ) (a b : Octets) → Datagram p a ≡ Datagram q b → p ≡ q
same_dgram p q a b e = cc

same_bytes : (p q : ℕ) (a b : Octets) → Bytes p a ≡ Bytes q b → p ≡ q
same_bytes p q a b e = cc

-- one event brings to one place
pub one_place : (p q : ℕ) (w : What) → Brings p w → Brings q w → p ≡ q
one_place p q w (ADatagram a x) (ADatagram b y) = same_dgram p q a b (sym x ∙ y)
one_place p q w (SomeOctets a x) (SomeOctets b y) = same_bytes p q a b (sym x ∙ y)
one_place p q w (ADatagram a x) (SomeOctets b y) = absurd (let z : Datagram p a ≡ Bytes q b = sym x ∙ y in cc)
one_place p q w (SomeOctets a x) (ADatagram b y) = absurd (let z : Bytes p a ≡ Datagram q b = sym x ∙ y in cc)

-- an event that brings something is none of these
brings_no_fault : (p : ℕ) (w : What) → Brings p w → ((q : ℕ) (f : Fault) → w ≡ OpenFailed q f → ⊥) × ((q : ℕ) (f : Fault) → w ≡ SendFailed q f → ⊥) × ((q : ℕ) → w ≡ ShortSend q → ⊥) × ((q : ℕ) (f : Fault) → w ≡ RecvFailed q f → ⊥) × ((q : ℕ) → w ≡ Opened q → ⊥)
brings_no_fault p w (ADatagram a x) = (
  λ q f e. (let z : Datagram p a ≡ OpenFailed q f = sym x ∙ e in absurd (cc)),
  λ q f e. (let z : Datagram p a ≡ SendFailed q f = sym x ∙ e in absurd (cc)),
  λ q e. (let z : Datagram p a ≡ ShortSend q = sym x ∙ e in absurd (cc)),
  λ q f e. (let z : Datagram p a ≡ RecvFailed q f = sym x ∙ e in absurd (cc)),
  λ q e. (let z : Datagram p a ≡ Opened q = sym x ∙ e in absurd (cc)),
)
brings_no_fault p w (SomeOctets a x) = (
  λ q f e. (let z : Bytes p a ≡ OpenFailed q f = sym x ∙ e in absurd (cc)),
  λ q f e. (let z : Bytes p a ≡ SendFailed q f = sym x ∙ e in absurd (cc)),
  λ q e. (let z : Bytes p a ≡ ShortSend q = sym x ∙ e in absurd (cc)),
  λ q f e. (let z : Bytes p a ≡ RecvFailed q f = sym x ∙ e in absurd (cc)),
  λ q e. (let z : Bytes p a ≡ Opened q = sym x ∙ e in absurd (cc)),
)

-- the last of six sends was in a row before, if it is old
six_before : (c : Conf) → (k i : ℕ) (t : Try) (h : History) → last_try k i h ≡ Some t → t.moment + read_timeout c ≤ now h → 0 < read_timeout c → (sends k i (row_before h) ≡ sends k i h) × (last_try k i (row_before h) ≡ last_try k i h)
six_before c k i t [] e le pos = absurd (cc)
six_before c k i t (Came v ∷ h) e le pos = (refl, refl)
six_before c k i t (Put o ∷ h) e le pos = go (six_before c k i t h) (is_send_to k i o h) refl
  where
    sent_now : (o : Out) → is_send_to k i o h ≡ true → Path (Option Try) (try_of o (now h)) (Some t) → ⊥
    sent_now (Send p j id x) s q = (let z : record { place = p; moment = now h } ≡ t = cc in let n : now h ≡ t.moment = ap (λ (y : Try). y.moment) z in omega arith)
    sent_now (Start a b v) s q = absurd (cc)
    sent_now (OpenDgram a b) s q = absurd (cc)
    sent_now (OpenStream a b) s q = absurd (cc)
    sent_now (Write a b d x) s q = absurd (cc)
    sent_now (Resume a x) s q = absurd (cc)
    sent_now (Stale l) s q = absurd (cc)
    sent_now (Close a) s q = absurd (cc)
    sent_now (Reply a x) s q = absurd (cc)

    go : (last_try k i h ≡ Some t → t.moment + read_timeout c ≤ now h → 0 < read_timeout c → (sends k i (row_before h) ≡ sends k i h) × (last_try k i (row_before h) ≡ last_try k i h)) → (b : Bool) → is_send_to k i o h ≡ b
        → (sends k i (row_before h) ≡ (if is_send_to k i o h then suc (sends k i h) else sends k i h)) × (last_try k i (row_before h) ≡ (if is_send_to k i o h then try_of o (now h) else last_try k i h))
    go ih true b = absurd (sent_now o b (sym (ap (λ z. if z then try_of o (now h) else last_try k i h) b) ∙ e))
    go ih false b = (let r = ih (sym (ap (λ z. if z then try_of o (now h) else last_try k i h) b) ∙ e) le pos in (r.0 ∙ sym (ap (λ z. if z then suc (sends k i h) else sends k i h) b), r.1 ∙ sym (ap (λ z. if z then try_of o (now h) else last_try k i h) b)))

long : (c : Conf) → 0 < read_timeout c
unfolding read_timeout
long c = (let pos = reads_on c in omega (arith, pos))

-- nothing is given where nothing is put
pub nothing_given : (s : Settings) (k : ℕ) (m : Octets) → IsGivenSo s k m [] → ⊥
nothing_given s k m (AsItIs i) = i
nothing_given s k m (StaleFor a f i) = i

among_left : (o : Out) (xs ys : List Out) → Among o xs → Among o (xs ++ ys)
among_left o [] ys i = absurd i
among_left o (x ∷ xs) ys i = elim i [ inl e ↦ inl e | inr i ↦ inr (among_left o xs ys i) ]

among_right : (o : Out) (xs ys : List Out) → Among o ys → Among o (xs ++ ys)
among_right o [] ys i = i
among_right o (x ∷ xs) ys i = inr (among_right o xs ys i)

-- what is free of a request stays so, and no exchange of it opens
module _ (c : Conf) (s : Settings) (compose : Request → Result Octets Error) (composes : Composes c compose) (P : Part c) (past : History) (w : What) (r : Request) (v : Via) (i p k id : ℕ) (m : Octets) where
  -- it was asked, is not tried, and no server holds it
  record Free (x : Upper P.State) : Type 0 where
    pub unheld : x.held k ≡ None
    pub below : k < x.asked
    pub free : (t : ℕ) → t < length c.servers → P.holds (x.ups t) k ≡ false

  f_left : (f : ℕ → Option Waiting) (j : ℕ) → f k ≡ None → with_held j None f k ≡ None
  f_left f j e = go (j == k)
    where
      go : (b : Bool) → (if b then None else f k) ≡ None
      go true = refl
      go false = e

  f_other : (f : ℕ → Option Waiting) (j : ℕ) (a : Option Waiting) → j ≢ k → f k ≡ None → with_held j a f k ≡ None
  f_other f j a ne e = (let z : (j == k) ≡ false = grind (arith, nat_tests) in ap (λ b. if b then a else f k) z ∙ e)

  f_tried : (f : ℕ → Option Waiting) (j : ℕ) (a : Waiting) → f k ≡ None → f j ≡ Some a → j ≢ k
  f_tried f j a e q same = clash (is_some (f k)) (ap is_some (sym (ap f same) ∙ q)) (ap is_some e)

  f_same : (j : ℕ) (u : P.State) (f : ℕ → P.State) → with_up j u f j ≡ u
  f_same j u f = grind (arith, nat_tests)

  f_up : (j t : ℕ) (u : P.State) (f : ℕ → P.State) → t ≢ j → with_up j u f t ≡ f t
  f_up j t u f ne = grind (arith, nat_tests)

  f_holds : (j : ℕ) (u : P.State) (f : ℕ → P.State) → (P.holds u k ≡ true → P.holds (f j) k ≡ true) → ((t : ℕ) → t < length c.servers → P.holds (f t) k ≡ false) → j < length c.servers → (t : ℕ) → t < length c.servers → P.holds (with_up j u f t) k ≡ false
  f_holds j u f less free lj t lt = elim (cases_eq t j) [
    | inl is ↦ elim (decide (P.holds u k)) [
      | inl y ↦ absurd (clash (P.holds (f j) k) (less y) (free j lj))
      | inr n ↦ subst (λ t. P.holds (with_up j u f t) k ≡ false) (sym is) (ap (λ u. P.holds u k) (f_same j u f) ∙ n)
    ]
    | inr ne ↦ ap (λ u. P.holds u k) (f_up j t u f ne) ∙ free t lt
  ]

  abbrev Came_by : History → Type 0
  Came_by h = Matches c r v i p k id m past w h

  no_late : (j : ℕ) (x : Upper P.State) (h : History) (d : Act P.State) → Free x → (P.holds d.state k ≡ true → P.holds (x.ups j) k ≡ true) → j < length c.servers → Late c P.State P.holds P.Expects j past w h d → Came_by (put_all d.outs h) → Came_by h
  no_late j x h d f less lj late z = elim (late i r v p k id m z) [ inl before ↦ before | inr new ↦ absurd (clash (P.holds (x.ups j) k) (less new.1) (f.free j lj)) ]

  reply_back : (l : ℕ) (u : Result Octets Error) (h : History) → Came_by (Put (Reply l u) ∷ h) → Came_by h
  reply_back l u h z = matches_reply c r v i p k id m past w l u h z

  told_back : (l : ℕ) (u : Result Octets Error) (o : Option Octets) (h : History) → Came_by (put_all (told_of l u o) h) → Came_by h
  told_back l u None h z = reply_back l u h z
  told_back l u (Some n) h z = matches_mark c r v i p k id m past w l h (reply_back l (Ok n) (Put (Stale l) ∷ h) z)

  record FreeStep (h : History) (d : Made P.State) : Type 0 where
    pub free : Free d.state
    pub back : Came_by (put_all d.outs h) → Came_by h

  move_free : (x : Upper P.State) (h : History) → Kept c s P past w x h → (d : Made P.State) → Move c s compose (machine_of P) x d → Free x → FreeStep h d
  move_free x h kept _ (Server_moves j d lj act) f =
      let g = P.acts_gives j x.place past w (x.ups j) h d lj (kept.parts j lj) kept.place act in
      record { free = record { unheld = f.unheld; below = f.below; free = f_holds j d.state x.ups (g.no_more k) f.free lj }; back = no_late j x h d f (g.no_more k) lj (P.acts_late j x.place past w (x.ups j) h d lj (kept.parts j lj) kept.place act) }
  move_free x h kept _ (Hands_on j l a d lj held untried st) f =
      let q = kept.reqs l a held in
      let ne = f_tried x.held l a f.unheld held in
      let g = P.starts_gives j x.place l a.moment a.request past w (x.ups j) h d lj (kept.parts j lj) kept.place q.octets q.asked (sym (q.tried j) ∙ untried) st in
      let less : P.holds d.state k ≡ true → P.holds (x.ups j) k ≡ true = λ y. not_this l ne (P.holds (x.ups j)) (g.no_more k y) in
      record { free = record { unheld = f_other x.held l (Some (handing j a)) ne f.unheld; below = f.below; free = f_holds j d.state x.ups less f.free lj }; back = no_late j x h d f less lj (P.starts_late j x.place l a.moment a.request past w (x.ups j) h d lj (kept.parts j lj) kept.place q.octets q.asked (sym (q.tried j) ∙ untried) st) }
    where
      not_this : (l : ℕ) → l ≢ k → (f : ℕ → Bool) → or_this l f k ≡ true → f k ≡ true
      not_this l ne f e = (let z : (l == k) ≡ false = grind (arith, nat_tests) in sym (ap (λ b. if b then true else f k) z) ∙ e)
  move_free x h kept _ (Gives_up j l d lj held holds can) f =
      let q = P.cancels_held j x.place l past w (x.ups j) h d lj (kept.parts j lj) kept.place holds can in
      let less : P.holds d.state k ≡ true → P.holds (x.ups j) k ≡ true = λ y. less_one (l == k) (P.holds (x.ups j) k) (sym (q k) ∙ y) in
      record { free = record { unheld = f.unheld; below = f.below; free = f_holds j d.state x.ups less f.free lj }; back = no_late j x h d f less lj (P.cancels_late j x.place l past w (x.ups j) h d lj (kept.parts j lj) kept.place holds can) }
    where
      less_one : (b z : Bool) → (if b then false else z) ≡ true → z ≡ true
      less_one true z e = absurd (cc)
      less_one false z e = e
  move_free x h kept _ (Drops before after y is held) f = record { free = record { unheld = f.unheld; below = f.below; free = f.free }; back = λ z. z }
  move_free x h kept _ (Keeps_back before after y a is held waits) f = record { free = record { unheld = f_other x.held y.request (Some (keeping (record { server = y.server; result = y.result }) a)) (f_tried x.held y.request a f.unheld held) f.unheld; below = f.below; free = f.free }; back = λ z. z }
  move_free x h kept _ (Delivers before after y a l is held waits out) f = record { free = record { unheld = f_left x.held (l.request) f.unheld; below = f.below; free = f.free }; back = λ z. z }
  move_free x h kept _ (Concludes k' a y l held tried free none is out) f = record { free = record { unheld = f_left x.held (l.request) f.unheld; below = f.below; free = f.free }; back = λ z. z }
  move_free x h kept _ (Times_out l a held late) f = record { free = record { unheld = f_left x.held l f.unheld; below = f.below; free = f.free }; back = λ z. z }
  move_free x h kept _ (Replies before after y is) f = record { free = record { unheld = f.unheld; below = f.below; free = f.free }; back = told_back y.request y.result y.stale h }
  move_free x h kept _ (Revives before after y g o is fails old revived) f = record { free = record { unheld = f.unheld; below = f.below; free = f.free }; back = λ z. z }
  move_free x h kept _ (Forgets before after z is) f = record { free = record { unheld = f.unheld; below = f.below; free = f.free }; back = λ z. z }
  move_free x h kept _ (Derives z l j co) f = record { free = record { unheld = f.unheld; below = f.below; free = f.free }; back = λ z. z }
  move_free x h kept _ (Answers q y pend at) f = record { free = record { unheld = f.unheld; below = (let lt = f.below in omega arith); free = f.free }; back = λ z. z }
  move_free x h kept _ (Takes_on q o old pend composed lt there) f = record { free = record { unheld = f_other x.held x.asked (Some (newcomer q x.now)) (λ same. (let b = f.below in omega arith)) f.unheld; below = (let b = f.below in omega arith); free = f.free }; back = λ z. z }

  free_back : (x : Upper P.State) (h : History) (d : Made P.State) → Kept c s P past w x h → Moves c s compose (machine_of P) x d → Free x → Came_by (put_all d.outs h) → Came_by h
  free_back _ h _ kept (Rests x done) f z = z
  free_back _ h _ kept (Goes x d e move more) f z =
      let a = move_does c s compose composes P past w x h kept d move in
      let g = move_free x h kept d move f in
      g.back (free_back d.state (put_all d.outs h) e a.leaves more g.free (subst Came_by (put_more d.outs e.outs h) z))

-- A message that comes for request k, which is r and was asked at t, at place p of server i: final, in time.
module _ (c : Conf) (s : Settings) (compose : Request → Result Octets Error) (composes : Composes c compose) (P : Part c) (past : History) (e : Event) (r : Request) (v : Via) (i p k id t : ℕ) (m : Octets)
    (end : History) (matches : Matches c r v i p k id m past e.what end) (final : is_final s r m ≡ true) (asked : asking k past ≡ Some (record { request = r; moment = t })) (in_time : IsOverdue c s k (now (Came e ∷ past)) past → ⊥) where
  abbrev w : What
  w = e.what

  brought : Brings p w
  brought = came_when c v id p w past m matches.comes.first

  -- it comes at the same place, of the same kind and server, and is of the same request
  record IsThere (q : Request) (u : Via) (j l : ℕ) : Type 0 where
    pub place : l ≡ p
    pub request : q ≡ r
    pub via : u ≡ v
    pub server : j ≡ i

  is_there : (q : Request) (u : Via) (j l id' : ℕ) (n : Octets) (h : History) → Comes c q u j l k id' n past w h → IsThere q u j l
  is_there q u j l id' n h x =
      let same : l ≡ p = one_place l p w (came_when c u id' l w past n x.first) brought in
      let sites : Path (Option Site) (Some (record { via = u; server = j })) (Some (record { via = v; server = i })) = sym x.is_open.stands.at ∙ (ap (λ l. site l past) same ∙ matches.comes.is_open.stands.at) in
      let site_is : record { via = u; server = j } ≡ record { via = v; server = i } = cc in
      let asks : Path (Option Asking) (Some (record { request = q; moment = x.is_open.stands.asked.0 })) (Some (record { request = r; moment = t })) = sym x.is_open.stands.asked.1 ∙ asked in
      let ask_is : record { request = q; moment = x.is_open.stands.asked.0 } ≡ record { request = r; moment = t } = cc in
      record { place = same; request = ap (λ (y : Asking). y.request) ask_is; via = ap (λ (y : Site). y.via) site_is; server = ap (λ (y : Site). y.server) site_is }

  -- what a place brings under an id is one message
  one_of : (a b : Octets) (x : Option Octets) → x ≡ Some a → x ≡ Some b → a ≡ b
  one_of a b x e g = (let z : Some a ≡ Some b = sym e ∙ g in cc)

  only_dgram : (ms : List Octets) (a b : ℕ) (y z : Octets) → first_of c Dgram a ms ≡ Some y → first_of c Dgram b ms ≡ Some z → y ≡ z
  only_dgram [] a b y z e g = absurd (cc)
  only_dgram (m ∷ ms) a b y z e g = one_of y z (first_datagram (received (recv_size c) (m ∷ ms))) e g

  -- another message that comes for it in this row is the same
  same_comes : (u : Via) (id' : ℕ) (n : Octets) (h : History) (x : Upper P.State) → Kept c s P past w x h → u ≡ v → (z : Comes c r v i p k id m past w h) → Comes c r v i p k id' n past w h → (n ≡ m) × (v ≡ Stream → id' ≡ id)
  same_comes Dgram id' n h x kept is z y = (only_dgram (came p w past) id' id n m (subst (λ v. first_of c v id' (came p w past) ≡ Some n) (sym is) y.first) (subst (λ v. first_of c v id (came p w past) ≡ Some m) (sym is) z.first), λ e. absurd (let z : Dgram ≡ Stream = is ∙ e in cc))
  same_comes Stream id' n h x kept is z y =
      let lt = matches.comes.is_open.stands.known in
      let ids : id' ≡ id = P.one_id i p k id' id r r n m past w (x.ups i) h (kept.parts i lt) (subst (λ v. Comes c r v i p k id' n past w h) (sym is) y) (subst (λ v. Comes c r v i p k id m past w h) (sym is) z) in
      (one_of n m (first_of c v id (came p w past)) (subst (λ id. first_of c v id (came p w past) ≡ Some n) ids y.first) z.first, λ e. ids)

  moved_here : (q : Request) (u : Via) (j l id' : ℕ) (n : Octets) (h : History) → IsThere q u j l → Comes c q u j l k id' n past w h → Comes c r v i p k id' n past w h
  moved_here q u j l id' n h f x = subst (λ q. Comes c q v i p k id' n past w h) f.request (subst (λ v. Comes c q v i p k id' n past w h) f.via (subst (λ i. Comes c q u i p k id' n past w h) f.server (subst (λ p. Comes c q u j p k id' n past w h) f.place x)))

  same_message : (n : Octets) (h : History) (x : Upper P.State) → Kept c s P past w x h → Comes c r v i p k id m past w h → CameFor c k n past w h → n ≡ m
  same_message n h x kept z y =
      let f = is_there y.request y.via y.server y.place y.id n h y.matches.comes in
      (same_comes v y.id n h x kept refl z (moved_here y.request y.via y.server y.place y.id n h f y.matches.comes)).0

  -- no server gives an error that ends it
  no_error : (h : History) (x : Error) (outs : List Out) (u : Upper P.State) → Kept c s P past w u (put_all outs h) → Comes c r v i p k id m past w (put_all outs h) → row_before h ≡ past → now h ≡ now (Came e ∷ past) → s.defers_errors ≡ false → PostRight c k (Err x) past w h → ⊥
  no_error h x outs u kept here row clock off y = go x y.0 y.1
    where
      none : ((q : ℕ) (f : Fault) → w ≡ OpenFailed q f → ⊥) × ((q : ℕ) (f : Fault) → w ≡ SendFailed q f → ⊥) × ((q : ℕ) → w ≡ ShortSend q → ⊥) × ((q : ℕ) (f : Fault) → w ≡ RecvFailed q f → ⊥) × ((q : ℕ) → w ≡ Opened q → ⊥)
      none = brings_no_fault p w brought

      go : (x : Error) → ServerCause c k past w h x → IsByOpening x w → ⊥
      go _ (NotOpened f x) by_open = none.0 x.place f x.told
      go _ (NotSent f x) by_open = none.1 x.place f x.is_told
      go _ (SentShort x) by_open = none.2 x.place x.is_told
      go _ (NotReceived f x) by_open = none.3 x.place f x.is_told
      go _ (NoAnswer x) by_open =
          let b = six_before c k x.server x.last h x.is_last x.old (long c) in
          let old : TriesAreUp c k (now (Came e ∷ past)) past past = record {
            server = x.server;
            all = subst (λ g. sends k x.server g ≡ max_tries c) row (b.0 ∙ x.all);
            last = x.last;
            is_last = subst (λ g. last_try k x.server g ≡ Some x.last) row (b.1 ∙ x.is_last);
            old = subst (λ n. x.last.moment + read_timeout c ≤ n) clock x.old;
            lived = x.lived;
          } in
          in_time (PastTries off old)
      go _ (WrongReply x) by_open =
          let f = is_there x.request Stream x.server x.place x.id x.message h x.comes in
          let g = same_comes v x.id x.message (put_all outs h) u kept refl here (comes_all c r v i p k x.id x.message past w outs h (moved_here x.request Stream x.server x.place x.id x.message h f x.comes)) in
          clash (answers r id m) matches.agrees (subst (λ m. answers r id m ≡ false) g.0 (subst (λ id. answers r id x.message ≡ false) (g.1 (sym f.via)) (subst (λ q. answers q x.id x.message ≡ false) f.request x.differs)))
      go _ (StreamSilence x) by_open = in_time (PastStream off (record { server = x.server; begun = x.begun; is_begun = x.is_begun; passed = subst (λ n. x.begun + stream_timeout c ≤ n) clock x.passed; silent = x.silent }))
      go _ (NotRead x) by_open = (let o = by_open refl in none.4 (o.0) o.1)
      go _ (NotComposed x) by_open = (let o = by_open refl in none.4 (o.0) o.1)

  not_deferred : is_deferred s m ≡ false
  not_deferred = go (is_deferred s m) (not (is_cacheable r) || is_some (validity_of_message s m)) final
    where
      go : (a b : Bool) → (not a && b) ≡ true → a ≡ false
      go true b e = absurd (cc)
      go false b e = refl

  -- the message is the outcome
  kept_message : (outcome s k r (Ok m)).result ≡ Ok m
  kept_message = go (is_cacheable r) (validity_of_message s m) (right (is_deferred s m) (not (is_cacheable r) || is_some (validity_of_message s m)) final)
    where
      right : (a b : Bool) → (not a && b) ≡ true → b ≡ true
      right true b e = absurd (cc)
      right false b e = e

      go : (b : Bool) (o : Option ℕ) → (not b || is_some o) ≡ true → (outcome_of b o k r (Ok m)).result ≡ Ok m
      go false o e = refl
      go true (Some n) e = refl
      go true None e = absurd (cc)

  -- the request is tried
  pub record Tried (x : Upper P.State) : Type 0 where
    pub waiting : Waiting
    pub held : x.held k ≡ Some waiting
    pub request : waiting.request ≡ r
    pub moment : waiting.moment ≡ t

  -- it is tried, or leaves with the message
  pub data Tracked (x : Upper P.State) : Type 0 where
    IsTried : Tried x → Tracked x
    IsLeaving : (y : Leaving) → IsIn y x.leaving → y.request ≡ k → y.result ≡ Ok m → y.given ≡ Ok m → Tracked x

  lt : i < length c.servers
  lt = matches.comes.is_open.stands.known

  abbrev Outcome : Upper P.State → List Out → Type 0
  Outcome x outs = Tracked x ⊎ IsGivenSo s k m outs

  module _ (x : Upper P.State) (h : History) (kept : Kept c s P past w x h) where
    asked_now : asking k h ≡ Some (record { request = r; moment = t })
    asked_now = kept.known k (record { request = r; moment = t }) asked

    -- a result for the request that is on the board is this message, if it is not to be kept back
    on_board : (outs : List Out) (u : Upper P.State) → Kept c s P past w u (put_all outs h) → Comes c r v i p k id m past w (put_all outs h) → now h ≡ now (Came e ∷ past) → (y : Posted) → IsIn y x.board → y.request ≡ k → waits_for_others s y.result ≡ false → y.result ≡ Ok m
    on_board outs u kept' here n y j is off = go y.result refl off (subst (λ k. PostRight c k y.result past w h) is ((kept.posts y j).right))
      where
        go : (z : Result Octets Error) → y.result ≡ z → waits_for_others s z ≡ false → PostRight c k z past w h → z ≡ Ok m
        go (Ok q) is off x = ap Ok (same_message q (put_all outs h) u kept' here (record { request = x.request; via = x.via; server = x.server; place = x.place; id = x.id; matches = record { comes = comes_all c x.request x.via x.server x.place k x.id q past w outs h x.matches.comes; agrees = x.matches.agrees; whole = x.matches.whole } }))
        go (Err q) is off x = absurd (no_error h q outs u kept' here kept.row n off x)

    other : (j : ℕ) (a : Option Waiting) → j ≢ k → with_held j a x.held k ≡ x.held k
    other j a ne = grind (arith, nat_tests)

    that : (a : Option Waiting) → with_held k a x.held k ≡ a
    that a = grind (arith, nat_tests)

    tried_still : (y : Upper P.State) → y.held k ≡ x.held k → Tried x → Tried y
    tried_still y same tr = record { waiting = tr.waiting; held = same ∙ tr.held; request = tr.request; moment = tr.moment }

    outcome_result : (j : ℕ) (q : Request) (z : Result Octets Error) (l : Leaving) → IsOutcome s j q z l → j ≡ k → q ≡ r → z ≡ Ok m → l.result ≡ Ok m
    outcome_result j q z _ Caches a b e = ap (λ j. (outcome s j q z).result) a ∙ (ap (λ z. (outcome s k q z).result) e ∙ (ap (λ q. (outcome s k q (Ok m)).result) b ∙ kept_message))
    outcome_result j q z _ (Passes n is none) a b e = e

    outcome_request : (j : ℕ) (q : Request) (z : Result Octets Error) (l : Leaving) → IsOutcome s j q z l → l.request ≡ j
    outcome_request j q z _ (Passes n is none) = refl
    outcome_request j q z _ Caches = go (is_cacheable q) (validity_of s z)
      where
        go : (b : Bool) (o : Option ℕ) → (outcome_of b o j q z).request ≡ j
        go false o = refl
        go true (Some n) = refl
        go true None = refl

    -- a message that came for a request that is tried is not among what was kept back, and is held or on the board till then
    not_concluded : (a : Waiting) → x.held k ≡ Some a → ((j : ℕ) → j < length c.servers → P.holds (x.ups j) k ≡ false) → NoneOf c s compose (machine_of P) k x.board → Matches c r v i p k id m past w h → (IsExcused c p past w h → ⊥) → ⊥
    not_concluded a held free none z counts = go (kept.told r v i p k id m a z held)
      where
        go : IsTold c s P past w x.ups x.board i p k m a h → ⊥
        go (IsExpected y) = clash (P.holds (x.ups i) k) (P.expects_held (x.ups i) p k m y) (free i lt)
        go (OnBoard y) = none (record { server = i; request = k; result = Ok m }) y refl
        go (IsKeptBack g j y) = clash (is_deferred s m) (subst (λ z. waits_for_others s z ≡ true) y ((kept.back k a g held j).waits)) not_deferred
        go (IsPassedOver y) = counts y

    same_waiting : (j : ℕ) (a : Waiting) → x.held j ≡ Some a → j ≡ k → (tr : Tried x) → a ≡ tr.waiting
    same_waiting j a held same tr = (let q : Path (Option Waiting) (Some a) (Some tr.waiting) = sym held ∙ (ap x.held same ∙ tr.held) in cc)

    -- one move, and the moves behind it
    move_tracks : now h ≡ now (Came e ∷ past) → (d : Made P.State) (move : Move c s compose (machine_of P) x d) (f : Made P.State) → Moves c s compose (machine_of P) d.state f → Kept c s P past w d.state (put_all d.outs h) → Matches c r v i p k id m past w (put_all f.outs (put_all d.outs h)) → (IsExcused c p past w (put_all f.outs (put_all d.outs h)) → ⊥) → Tracked x → Outcome d.state d.outs
    move_tracks n _ (Server_moves j d l act) f more kept' z counts (IsTried tr) = inl (IsTried (tried_still (moved j d x) refl tr))
    move_tracks n _ (Hands_on j k' a d l held untried st) f more kept' z counts (IsTried tr) = inl (IsTried (elim (cases_eq k' k) [
      | inl same ↦
          (let w : a ≡ tr.waiting = same_waiting k' a held same tr in
          record { waiting = handing j a; held = subst (λ k'. with_held k' (Some (handing j a)) x.held k ≡ Some (handing j a)) (sym same) (that (Some (handing j a))); request = ap (λ (z : Waiting). z.request) w ∙ tr.request; moment = ap (λ (z : Waiting). z.moment) w ∙ tr.moment })
      | inr ne ↦ tried_still (moved j d (hand k' j a x)) (other k' (Some (handing j a)) ne) tr
    ]))
    move_tracks n _ (Gives_up j k' d l held holds can) f more kept' z counts (IsTried tr) = inl (IsTried (tried_still (moved j d x) refl tr))
    move_tracks n _ (Drops before after y is held) f more kept' z counts (IsTried tr) = inl (IsTried (tried_still (record x { board = before ++ after }) refl tr))
    move_tracks n _ (Keeps_back before after y a is held waits) f more kept' z counts (IsTried tr) =
        let g : Given = record { server = y.server; result = y.result } in
        inl (IsTried (elim (cases_eq y.request k) [
          | inl same ↦
              (let w : a ≡ tr.waiting = same_waiting y.request a held same tr in
              record { waiting = keeping g a; held = subst (λ j. with_held j (Some (keeping g a)) x.held k ≡ Some (keeping g a)) (sym same) (that (Some (keeping g a))); request = ap (λ (z : Waiting). z.request) w ∙ tr.request; moment = ap (λ (z : Waiting). z.moment) w ∙ tr.moment })
          | inr ne ↦ record { waiting = tr.waiting; held = other y.request (Some (keeping g a)) ne ∙ tr.held; request = tr.request; moment = tr.moment }
        ]))
    move_tracks n _ (Delivers before after y a l is held waits out) f more kept' z counts (IsTried tr) = inl (elim (cases_eq y.request k) [
      | inl same ↦
          (let w : a ≡ tr.waiting = same_waiting y.request a held same tr in
          let res : y.result ≡ Ok m = on_board f.outs f.state (moves_do c s compose composes P past e.what (leave l (record x { board = before ++ after })) h f kept' more).leaves z.comes n y (subst (IsIn y) (sym is) (in_here y before after)) same waits in
          let result : l.result ≡ Ok m = outcome_result y.request a.request y.result l out same (ap (λ (z : Waiting). z.request) w ∙ tr.request) res in
          IsLeaving l (in_right l x.leaving (l ∷ []) (inl refl)) (outcome_request y.request a.request y.result l out ∙ same) result (given_so s y.request a.request y.result l out ∙ res))
      | inr ne ↦ IsTried (record { waiting = tr.waiting; held = other l.request None (λ q. ne (sym (outcome_request y.request a.request y.result l out) ∙ q)) ∙ tr.held; request = tr.request; moment = tr.moment })
    ])
    move_tracks n _ (Concludes k' a y l held tried free none is out) f more kept' z counts (IsTried tr) = inl (elim (cases_eq k' k) [
      | inl same ↦
          (let req : l.request ≡ k = outcome_request k' a.request y l out ∙ same in
          let free' : (j : ℕ) → j < length c.servers → P.holds (x.ups j) k ≡ false = λ j lt. subst (λ k. P.holds (x.ups j) k ≡ false) same (free j lt) in
          let gone : with_held (l.request) None x.held k ≡ None = subst (λ j. with_held j None x.held k ≡ None) (sym req) (that None) in
          let below = (kept.reqs k tr.waiting tr.held).below in
          let now_here : Matches c r v i p k id m past w h = free_back c s compose composes P past w r v i p k id m (leave l x) h f kept' more (record { unheld = gone; below = below; free = free' }) z in
          absurd (not_concluded tr.waiting tr.held free' (λ b j e. none b j (e ∙ sym same)) now_here (λ q. counts (excused_on c p past w f.outs h q))))
      | inr ne ↦ IsTried (record { waiting = tr.waiting; held = other l.request None (λ q. ne (sym (outcome_request k' a.request y l out) ∙ q)) ∙ tr.held; request = tr.request; moment = tr.moment })
    ])
    move_tracks n _ (Times_out k' a held late) f more kept' z counts (IsTried tr) = inl (elim (cases_eq k' k) [
      | inl same ↦
          absurd (let w : a ≡ tr.waiting = same_waiting k' a held same tr in
          let mo : a.moment ≡ t = ap (λ (z : Waiting). z.moment) w ∙ tr.moment in
          let cl = kept.clock in
          let le : t + c.timeout ≤ now (Came e ∷ past) = overdue a.moment x.now (now h) (now (Came e ∷ past)) mo cl n late in
          in_time (PastDeadline (record { request = r; moment = t }) asked le))
      | inr ne ↦ IsTried (record { waiting = tr.waiting; held = other k' None ne ∙ tr.held; request = tr.request; moment = tr.moment })
    ])
      where
        overdue : (am xn hn en : ℕ) → am ≡ t → xn ≡ hn → hn ≡ en → am + c.timeout ≤ xn → t + c.timeout ≤ en
        overdue am xn hn en p q r le = omega arith
    move_tracks n _ (Replies before after y is) f more kept' z counts (IsTried tr) = inl (IsTried (record { waiting = tr.waiting; held = tr.held; request = tr.request; moment = tr.moment }))
    move_tracks n _ (Revives before after y g o is fails old revived) f more kept' z counts (IsTried tr) = inl (IsTried (record { waiting = tr.waiting; held = tr.held; request = tr.request; moment = tr.moment }))
    move_tracks n _ (Forgets before after y is) f more kept' z counts (IsTried tr) = inl (IsTried (record { waiting = tr.waiting; held = tr.held; request = tr.request; moment = tr.moment }))
    move_tracks n _ (Derives y q j co) f more kept' z counts (IsTried tr) = inl (IsTried (record { waiting = tr.waiting; held = tr.held; request = tr.request; moment = tr.moment }))
    move_tracks n _ (Answers q y pend at) f more kept' z counts (IsTried tr) = inl (IsTried (record { waiting = tr.waiting; held = tr.held; request = tr.request; moment = tr.moment }))
    move_tracks n _ (Takes_on q o old pend composed l there) f more kept' z counts (IsTried tr) =
        let g = kept.reqs k tr.waiting tr.held in
        inl (IsTried (record { waiting = tr.waiting; held = other x.asked (Some (newcomer q x.now)) (λ same. (let b = g.below in omega arith)) ∙ tr.held; request = tr.request; moment = tr.moment }))
    move_tracks n _ (Server_moves j d l act) f more kept' z counts (IsLeaving y q a b gv) = inl (IsLeaving y q a b gv)
    move_tracks n _ (Hands_on j k' g d l held untried st) f more kept' z counts (IsLeaving y q a b gv) = inl (IsLeaving y q a b gv)
    move_tracks n _ (Gives_up j k' d l held holds can) f more kept' z counts (IsLeaving y q a b gv) = inl (IsLeaving y q a b gv)
    move_tracks n _ (Drops before after u is held) f more kept' z counts (IsLeaving y q a b gv) = inl (IsLeaving y q a b gv)
    move_tracks n _ (Keeps_back before after u g is held waits) f more kept' z counts (IsLeaving y q a b gv) = inl (IsLeaving y q a b gv)
    move_tracks n _ (Delivers before after u g l is held waits out) f more kept' z counts (IsLeaving y q a b gv) = inl (IsLeaving y (in_left y x.leaving (l ∷ []) q) a b gv)
    move_tracks n _ (Concludes k' g u l held tried free none is out) f more kept' z counts (IsLeaving y q a b gv) = inl (IsLeaving y (in_left y x.leaving (l ∷ []) q) a b gv)
    move_tracks n _ (Times_out k' g held late) f more kept' z counts (IsLeaving y q a b gv) = inl (IsLeaving y (in_left y x.leaving (record { request = k'; asked = g.request; result = Err errors.TimedOut; given = Err errors.TimedOut; is_stored = false; stale = None } ∷ []) q) a b gv)
    move_tracks n _ (Replies before after u is) f more kept' z counts (IsLeaving y q a b gv) = elim (in_but y u before after (subst (IsIn y) is q)) [
      | inl same ↦ inr (told u.stale refl (subst (λ v. Path (Result Octets Error) u.result v) b (ap (λ (z : Leaving). z.result) same)) (subst (λ v. Path (Result Octets Error) u.given v) gv (ap (λ (z : Leaving). z.given) same)) (subst (λ k. u.request ≡ k) a (ap (λ (z : Leaving). z.request) same)))
      | inr l ↦ inl (IsLeaving y l a b gv)
    ]
      where
        told : (o : Option Octets) → u.stale ≡ o → u.result ≡ Ok m → u.given ≡ Ok m → u.request ≡ k → IsGivenSo s k m (told_of u.request u.result o)
        told None e res giv who = AsItIs (inl (ap₂ (λ k v. Reply k v) who res))
        told (Some o) e res giv who = (let g = kept.revived u o (subst (IsIn u) (sym is) (in_here u before after)) e in StaleFor g.valid.allowed (subst (λ v. is_failing v ≡ true) giv g.fails) (inl (ap (λ k. Stale k) who)))
    move_tracks n _ (Revives before after u g o is fails old revived) f more kept' z counts (IsLeaving y q a b gv) = elim (in_but y u before after (subst (IsIn y) is q)) [
      | inl same ↦ inl (IsLeaving (revive o u) (in_here (revive o u) before after) (ap (λ (z : Leaving). z.request) same ∙ a) (ap (λ (z : Leaving). z.result) same ∙ b) (ap (λ (z : Leaving). z.given) same ∙ gv))
      | inr l ↦ inl (IsLeaving y (in_more y (revive o u) before after l) a b gv)
    ]
    move_tracks n _ (Forgets before after u is) f more kept' z counts (IsLeaving y q a b gv) = inl (IsLeaving y q a b gv)
    move_tracks n _ (Derives u l j co) f more kept' z counts (IsLeaving y q a b gv) = inl (IsLeaving y q a b gv)
    move_tracks n _ (Answers u g pend at) f more kept' z counts (IsLeaving y q a b gv) = inl (IsLeaving y (in_left y x.leaving (g ∷ []) q) a b gv)
    move_tracks n _ (Takes_on u o old pend composed l there) f more kept' z counts (IsLeaving y q a b gv) = inl (IsLeaving y q a b gv)

  given_left : (xs ys : List Out) → IsGivenSo s k m xs → IsGivenSo s k m (xs ++ ys)
  given_left xs ys (AsItIs i) = AsItIs (among_left (Reply k (Ok m)) xs ys i)
  given_left xs ys (StaleFor a f i) = StaleFor a f (among_left (Stale k) xs ys i)

  given_right : (xs ys : List Out) → IsGivenSo s k m ys → IsGivenSo s k m (xs ++ ys)
  given_right xs ys (AsItIs i) = AsItIs (among_right (Reply k (Ok m)) xs ys i)
  given_right xs ys (StaleFor a f i) = StaleFor a f (among_right (Stale k) xs ys i)

  -- all moves of a row
  moves_track : (x : Upper P.State) (h : History) (d : Made P.State) → Kept c s P past w x h → now h ≡ now (Came e ∷ past) → Tracked x → Moves c s compose (machine_of P) x d → Matches c r v i p k id m past w (put_all d.outs h) → (IsExcused c p past w (put_all d.outs h) → ⊥) → IsGivenSo s k m d.outs
  moves_track _ h _ kept n (IsTried tr) (Rests x done) z counts = absurd (go (kept.told r v i p k id m tr.waiting z tr.held))
    where
      go : IsTold c s P past w x.ups x.board i p k m tr.waiting h → ⊥
      go (IsExpected y) = P.rested (x.ups i) p k m (done.rests i lt) y
      go (OnBoard y) = subst (IsIn (record { server = i; request = k; result = Ok m })) done.board y
      go (IsKeptBack g j y) = clash (is_deferred s m) (subst (λ z. waits_for_others s z ≡ true) y ((kept.back k tr.waiting g tr.held j).waits)) not_deferred
      go (IsPassedOver y) = counts y
  moves_track _ h _ kept n (IsLeaving y j a b gv) (Rests x done) z counts = absurd (subst (IsIn y) done.leaving j)
  moves_track _ h _ kept n tracked (Goes x d f move more) z counts =
      let a = move_does c s compose composes P past w x h kept d move in
      let both : put_all (d.outs ++ f.outs) h ≡ put_all f.outs (put_all d.outs h) = put_more d.outs f.outs h in
      let z' : Matches c r v i p k id m past w (put_all f.outs (put_all d.outs h)) = subst (Matches c r v i p k id m past w) both z in
      let counts' : IsExcused c p past w (put_all f.outs (put_all d.outs h)) → ⊥ = λ q. counts (subst (IsExcused c p past w) (sym both) q) in
      elim (move_tracks x h kept n d move f more a.leaves z' counts' tracked) [
        | inl still ↦ given_right d.outs f.outs (moves_track d.state (put_all d.outs h) f a.leaves (now_all d.outs h ∙ n) still more z' counts')
        | inr put ↦ given_left d.outs f.outs put
      ]

  -- the request is tried when its row begins
  pub message_is_reply : (old : History) (u : What) (x : Upper P.State) (d : Made P.State) → Kept c s P old u x past → IsDone c s compose (machine_of P) x → replied k past ≡ false → Kept c s P past w (row_begins c s compose (machine_of P) e x) (Came e ∷ past) → Moves c s compose (machine_of P) (row_begins c s compose (machine_of P) e x) d
      → Matches c r v i p k id m past w (put_all d.outs (Came e ∷ past)) → (IsExcused c p past w (put_all d.outs (Came e ∷ past)) → ⊥) → IsGivenSo s k m d.outs
  message_is_reply old u x d before done un kept moves z counts =
      let a = has_some (x.held k) (waits_tried c s compose P old u x past before done k (waits_of k (record { request = r; moment = t }) past asked un)) in
      let f = before.reqs k (a.0) a.1 in
      let same : record { request = (a.0).request; moment = (a.0).moment } ≡ record { request = r; moment = t } = (let q : Path (Option Asking) (Some (record { request = (a.0).request; moment = (a.0).moment })) (Some (record { request = r; moment = t })) = sym f.asked ∙ asked in cc) in
      moves_track (row_begins c s compose (machine_of P) e x) (Came e ∷ past) d kept refl (IsTried (record { waiting = a.0; held = a.1; request = ap (λ (z : Asking). z.request) same; moment = ap (λ (z : Asking). z.moment) same })) moves z counts
