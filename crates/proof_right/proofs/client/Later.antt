-- What stays true when a row goes on.
use Rattle.proof_right.proofs.Received.{waits_on}
use Rattle.std.proofs.Common.{◌≡◌, ℕ, ◌+◌, ◌<◌, ◌≤◌, Bool, true, false, inl, inr, Option, Some, None, List, [], ◌∷◌, ◌++◌, is_some, refl, arith, sym, ◌∙◌, ap, subst, ◌==◌, ◌&&◌}
use Rattle.std.specs.Prelude.{Result, Ok, Err, if◌then◌else◌}
use Rattle.std.proofs.lemmas.Bool.{or_right, lt-ltb}
use Rattle.std.proofs.lemmas.Bool.Decides.{nat_tests}
use Rattle.client_request.specs.Request.{Request}
use Rattle.client_request.specs.declared.error.Error.{Error}
use Rattle.client_request.specs.declared.event.What.{What}
use Rattle.client_request.specs.declared.event.Out.{Out}
use Rattle.client_request.specs.declared.event.Out.TheVariants.{Start, OpenDgram, OpenStream, Send, Write, Resume, Close, Stale, Reply}
use Rattle.client_request.specs.declared.event.Via.{Via}
use Rattle.client_request.specs.declared.event.Via.TheVariants.{Dgram, Stream}
use Rattle.right_trace.specs.Trace.{History, Conf, Put, put_all}
use Rattle.right_trace.specs.Time.{now, newest, stream_timeout, row_before, Ever, EarlierRow, OfRow, max_tries}
use Rattle.right_trace.specs.Messages.{Octets}
use Rattle.right_trace.specs.Requests.{asks, asking, is_asked_here, replied, is_reply, start, started, is_start}
use Rattle.right_trace.specs.Places.{Site, site, is_at, is_site, stand, Gone, is_close, closed_here}
use Rattle.right_trace.specs.Exchanges.{octets_for, is_before, waited_for, IsAmong, Comes, Matches}
use Rattle.right_trace.specs.Writes.{Written, is_write, written_by, waiting_with}
use Rattle.right_trace.specs.Causes.{sends, last_try, is_send_to, ServerCause, NotOpened, NotSent, SentShort, NotReceived, NoAnswer, WrongReply, StreamSilence, NotRead, NotComposed}
use Rattle.right_trace.specs.Settings.{Settings}
use Rattle.right_trace.specs.Validity.{is_deferred}
use Rattle.right_trace.specs.Owed.{AllAreDone}
use Rattle.proof_right.proofs.server.Coming.{kind_on}
use Rattle.right_trace.specs.Coming.{CameFor, IsExcused, SomeCame, CameFirst, FirstHere, FirstEarlier, NoneCame}
use Rattle.right_trace.specs.Replies.{IsFresh, InThisRow, Deferred, IsFreshReply, CoversLater, Supplies, IsView, Fresh, View}
use Rattle.right_trace.specs.Errors.{OwnCause, FailsSo, HereOrEarlier, Here, Earlier, CameWithoutValidity, DirectCause, Deadline, NoServer, ByServer, NoValidity, IsErrorReply, IsKeptError, Own, Kept}
use Rattle.right_trace.specs.Right.{ReplyRight, ServerOutRight, ServerOutsRight}
use Rattle.proof_right.proofs.PartLaws.{PostRight, Later}
use Rattle.proof_right.proofs.client.Kept.{needs_all, WasReply, EntryFits, OldFits, StaleFits}
use Rattle.proof_right.specs.machine.Client.{Leaving, Entry}

-- plain folds that an out does not touch

pub asking_all : (k : ℕ) (xs : List Out) (h : History) → asking k (put_all xs h) ≡ asking k h
asking_all k [] h = refl
asking_all k (x ∷ xs) h = asking_all k xs (Put x ∷ h)

pub asks_all : (xs : List Out) (h : History) → asks (put_all xs h) ≡ asks h
asks_all [] h = refl
asks_all (x ∷ xs) h = asks_all xs (Put x ∷ h)

pub now_all : (xs : List Out) (h : History) → now (put_all xs h) ≡ now h
now_all [] h = refl
now_all (x ∷ xs) h = now_all xs (Put x ∷ h)

pub newest_all : (xs : List Out) (h : History) → newest (put_all xs h) ≡ newest h
newest_all [] h = refl
newest_all (x ∷ xs) h = newest_all xs (Put x ∷ h)

pub row_all : (xs : List Out) (h : History) → row_before (put_all xs h) ≡ row_before h
row_all [] h = refl
row_all (x ∷ xs) h = row_all xs (Put x ∷ h)

pub here_all : (k : ℕ) (xs : List Out) (h : History) → is_asked_here k (put_all xs h) ≡ is_asked_here k h
here_all k [] h = refl
here_all k (x ∷ xs) h = here_all k xs (Put x ∷ h)

pub ever_all : (P : History → Type 0) → (xs : List Out) (h : History) → Ever P h → Ever P (put_all xs h)
ever_all P [] h e = e
ever_all P (x ∷ xs) h e = ever_all P xs (Put x ∷ h) (inr e)

pub later_all : (xs : List Out) (h : History) → Later h (put_all xs h)
later_all [] h k e = e
later_all (x ∷ xs) h k e = later_all xs (Put x ∷ h) k (or_right (is_reply k x) (replied k h) e)

pub put_more : (xs ys : List Out) (h : History) → put_all (xs ++ ys) h ≡ put_all ys (put_all xs h)
put_more [] ys h = refl
put_more (x ∷ xs) ys h = put_more xs ys (Put x ∷ h)

-- what one more out leaves as it was

start_put : (k i : ℕ) (v : Via) (o : Out) (h : History) → started k i v h ≡ true → started k i v (Put o ∷ h) ≡ true
start_put k i v o h e = go (is_start k i v o)
  where
    go : (b : Bool) → is_some (if b then Some (now h) else start k i v h) ≡ true
    go true = refl
    go false = e

pub site_put : (p : ℕ) (o : Out) (x : Site) (h : History) → site p h ≡ Some x → site p (Put o ∷ h) ≡ Some x
site_put p (Start k i v) x h e = e
site_put p (OpenDgram q i) x h e = rw e (go (q == p))
  where
    go : (b : Bool) → (if b then Some x else Some x) ≡ Some x
    go true = refl
    go false = refl
site_put p (OpenStream q i) x h e = rw e (go (q == p))
  where
    go : (b : Bool) → (if b then Some x else Some x) ≡ Some x
    go true = refl
    go false = refl
site_put p (Send q k i o) x h e = e
site_put p (Write q k i o) x h e = e
site_put p (Resume q o) x h e = e
site_put p (Stale l) x h e = e
site_put p (Close q) x h e = e
site_put p (Reply k r) x h e = e

pub site_all : (p : ℕ) (xs : List Out) (x : Site) (h : History) → site p h ≡ Some x → site p (put_all xs h) ≡ Some x
site_all p [] x h e = e
site_all p (o ∷ xs) x h e = site_all p xs x (Put o ∷ h) (site_put p o x h e)

at_put : (v : Via) (i p : ℕ) (o : Out) (h : History) → is_at v i p h ≡ true → is_at v i p (Put o ∷ h) ≡ true
at_put v i p o h e = go (site p h) refl
  where
    go : (x : Option Site) → site p h ≡ x → is_at v i p (Put o ∷ h) ≡ true
    go (Some x) q = ap (is_site v i) (site_put p o x h q) ∙ (sym (ap (is_site v i) q) ∙ e)
    go None q = absurd (let z : is_site v i (site p h) ≡ false = ap (is_site v i) q in grind arith)

if_gone : (b : Bool) → (if b then Gone else Gone) ≡ Gone
if_gone true = refl
if_gone false = refl

gone_put : (p : ℕ) (o : Out) (h : History) → stand p h ≡ Gone → stand p (Put o ∷ h) ≡ Gone
gone_put p (Start k i v) h e = e
gone_put p (OpenDgram q i) h e = rw e (if_gone (q == p))
gone_put p (OpenStream q i) h e = rw e (if_gone (q == p))
gone_put p (Send q k i o) h e = e
gone_put p (Write q k i o) h e = e
gone_put p (Resume q o) h e = e
gone_put p (Stale l) h e = e
gone_put p (Close q) h e = rw e (if_gone (q == p))
gone_put p (Reply k r) h e = e

-- six sends stay six, with the same last one
abbrev pub SixStay : (c : Conf) → History → Out → Type 0
SixStay c h o = (k i : ℕ) → sends k i h ≡ max_tries c → (sends k i (Put o ∷ h) ≡ max_tries c) × (last_try k i (Put o ∷ h) ≡ last_try k i h)

and_left : (a b : Bool) → (a && b) ≡ true → b ≡ true
and_left true b e = e
and_left false b e = absurd (cc)

pub six_stay : (c : Conf) (past : History) (w : What) (h end : History) (o : Out) → ServerOutRight c past w h end o → SixStay c h o
six_stay c past w h end (Start j t v) x k i e = (e, refl)
six_stay c past w h end (OpenDgram p t) x k i e = (e, refl)
six_stay c past w h end (OpenStream p t) x k i e = (e, refl)
six_stay c past w h end (Send p j id o) x k i e = go (is_send_to k i (Send p j id o) h) refl
  where
    go : (b : Bool) → is_send_to k i (Send p j id o) h ≡ b → (sends k i (Put (Send p j id o) ∷ h) ≡ max_tries c) × (last_try k i (Put (Send p j id o) ∷ h) ≡ last_try k i h)
    go true q = absurd (let z = x.1 i (and_left (j == k) (is_at Dgram i p h) q) in let l : sends k i h < max_tries c → ⊥ = λ lt. (omega arith) in l (same_one q z))
      where
        same_one : ((j == k) && is_at Dgram i p h) ≡ true → sends j i h < max_tries c → sends k i h < max_tries c
        same_one q z = (let e : j ≡ k = grind (arith, nat_tests) in subst (λ n. sends n i h < max_tries c) e z)
    go false q = rw q (e, refl)
six_stay c past w h end (Write p j id o) x k i e = (e, refl)
six_stay c past w h end (Resume p o) x k i e = (e, refl)
six_stay c past w h end (Stale l) x k i e = (e, refl)
six_stay c past w h end (Close p) x k i e = (e, refl)
six_stay c past w h end (Reply j r) x k i e = absurd x

pub six_mark : (c : Conf) → (j : ℕ) (h : History) → SixStay c h (Stale j)
six_mark c j h k i e = (e, refl)

pub six_reply : (c : Conf) → (j : ℕ) (x : Result Octets Error) (h : History) → SixStay c h (Reply j x)
six_reply c j x h k i e = (e, refl)

-- what comes still comes when a row goes on: a write only adds

among_more : (o y : Octets) (b : Bool) (ys : List Octets) → IsAmong o ys → IsAmong o (if b then y ∷ ys else ys)
among_more o y true ys i = inr i
among_more o y false ys i = i

written_more : (k n : ℕ) (o : Out) (b : Bool) (x : Octets) (ws : List Written) → IsAmong x (octets_for k ws) → IsAmong x (octets_for k (if b then written_by o n ws else ws))
written_more k n o false x ws i = i
written_more k n (Write p j id y) true x ws i = among_more x y (j == k) (octets_for k ws) i
written_more k n (Start a b d) true x ws i = i
written_more k n (OpenDgram a b) true x ws i = i
written_more k n (OpenStream a b) true x ws i = i
written_more k n (Send a b d y) true x ws i = i
written_more k n (Resume a y) true x ws i = i
written_more k n (Stale l) true x ws i = i
written_more k n (Close a) true x ws i = i
written_more k n (Reply a y) true x ws i = i

still_before : (c : Conf) → (n : ℕ) (b : Bool) (t : Option ℕ) → is_before c n t ≡ true → is_before c n (if b then Some n else t) ≡ true
unfolding stream_timeout
still_before c n true t e = lt-ltb n (n + stream_timeout c) (let pos = waits_on c in omega (arith, pos))
still_before c n false t e = e

before_of : (b : Bool) (x : Octets) (ys : List Octets) → IsAmong x (if b then ys else []) → (b ≡ true) × IsAmong x ys
before_of true x ys i = (refl, i)
before_of false x ys i = absurd i

waited_put : (c : Conf) → (v : Via) (r : Request) (s p k id : ℕ) (o : Out) (x : Octets) (past h : History) → IsAmong x (waited_for c v r s p k id (now h) [] past h) → IsAmong x (waited_for c v r s p k id (now h) [] past (Put o ∷ h))
waited_put c Dgram r s p k id o x past h i = i
waited_put c Stream r s p k id o x past h i =
    let b = before_of (is_before c (now h) (start k s Stream h)) x (octets_for k (waiting_with [] p id h)) i in
    rw (still_before c (now h) (is_start k s Stream o) (start k s Stream h) b.0) (written_more k (now h) o (is_write p id o && true) x (waiting_with [] p id h) b.1)

pub comes_put : (c : Conf) (r : Request) (v : Via) (s p k id : ℕ) (m : Octets) (past : History) (w : What) (o : Out) (h : History) → Comes c r v s p k id m past w h → Comes c r v s p k id m past w (Put o ∷ h)
comes_put c r v s p k id m past w o h x = record { is_open = record { stands = x.is_open.stands; octets = x.is_open.octets; sent = waited_put c v r s p k id o x.is_open.octets past h x.is_open.sent; carries = x.is_open.carries }; first = x.first }

pub comes_all : (c : Conf) (r : Request) (v : Via) (s p k id : ℕ) (m : Octets) (past : History) (w : What) (xs : List Out) (h : History) → Comes c r v s p k id m past w h → Comes c r v s p k id m past w (put_all xs h)
comes_all c r v s p k id m past w [] h x = x
comes_all c r v s p k id m past w (o ∷ xs) h x = comes_all c r v s p k id m past w xs (Put o ∷ h) (comes_put c r v s p k id m past w o h x)

-- a reply adds nothing to it
waited_reply : (c : Conf) → (v : Via) (r : Request) (s p k id l : ℕ) (u : Result Octets Error) (x : Octets) (past h : History) → IsAmong x (waited_for c v r s p k id (now h) [] past (Put (Reply l u) ∷ h)) → IsAmong x (waited_for c v r s p k id (now h) [] past h)
waited_reply c Dgram r s p k id l u x past h i = i
waited_reply c Stream r s p k id l u x past h i = i

pub matches_reply : (c : Conf) (r : Request) (v : Via) (s p k id : ℕ) (m : Octets) (past : History) (w : What) (l : ℕ) (u : Result Octets Error) (h : History) → Matches c r v s p k id m past w (Put (Reply l u) ∷ h) → Matches c r v s p k id m past w h
matches_reply c r v s p k id m past w l u h x = (let o = x.comes.is_open in record { comes = record { is_open = record { stands = o.stands; octets = o.octets; sent = waited_reply c v r s p k id l u o.octets past h o.sent; carries = o.carries }; first = x.comes.first }; agrees = x.agrees; whole = x.whole })

-- nor does a mark
waited_mark : (c : Conf) → (v : Via) (r : Request) (s p k id l : ℕ) (x : Octets) (past h : History) → IsAmong x (waited_for c v r s p k id (now h) [] past (Put (Stale l) ∷ h)) → IsAmong x (waited_for c v r s p k id (now h) [] past h)
waited_mark c Dgram r s p k id l x past h i = i
waited_mark c Stream r s p k id l x past h i = i

pub matches_mark : (c : Conf) (r : Request) (v : Via) (s p k id : ℕ) (m : Octets) (past : History) (w : What) (l : ℕ) (h : History) → Matches c r v s p k id m past w (Put (Stale l) ∷ h) → Matches c r v s p k id m past w h
matches_mark c r v s p k id m past w l h x = (let o = x.comes.is_open in record { comes = record { is_open = record { stands = o.stands; octets = o.octets; sent = waited_mark c v r s p k id l o.octets past h o.sent; carries = o.carries }; first = x.comes.first }; agrees = x.agrees; whole = x.whole })

-- causes

cause_put : (c : Conf) (k : ℕ) (past : History) (w : What) (o : Out) (h : History) (e : Error) → SixStay c h o → ServerCause c k past w h e → ServerCause c k past w (Put o ∷ h) e
cause_put c k past w o h _ six (NotOpened f x) = NotOpened f (record {
  place = x.place;
  server = x.server;
  told = x.told;
  was = elim x.was [ inl a ↦ inl a | inr b ↦ inr (b.0, gone_put x.place o h b.1) ];
  at = at_put Dgram x.server x.place o h x.at;
  has_it = start_put k x.server Dgram o h x.has_it;
})
cause_put c k past w o h _ six (NotSent f x) = NotSent f x
cause_put c k past w o h _ six (SentShort x) = SentShort x
cause_put c k past w o h _ six (NotReceived f x) = NotReceived f x
cause_put c k past w o h _ six (NoAnswer x) = (let z = six k x.server x.all in NoAnswer (record { server = x.server; all = z.0; last = x.last; is_last = z.1 ∙ x.is_last; old = x.old; lived = x.lived }))
cause_put c k past w o h _ six (WrongReply x) = WrongReply (record { request = x.request; server = x.server; place = x.place; id = x.id; message = x.message; comes = comes_put c x.request Stream x.server x.place k x.id x.message past w o h x.comes; differs = x.differs })
cause_put c k past w o h _ six (StreamSilence x) = StreamSilence x
cause_put c k past w o h _ six (NotRead x) = NotRead (record { asking_of = x.asking_of; asked = x.asked; reason = x.reason })
cause_put c k past w o h _ six (NotComposed x) = NotComposed (record { asking_of = x.asking_of; asked = x.asked; reason = x.reason })

pub excused_on : (c : Conf) → (p : ℕ) (past : History) (w : What) (xs : List Out) (h : History) → IsExcused c p past w h → IsExcused c p past w (put_all xs h)
unfolding IsExcused
excused_on c p past w [] h e = e
excused_on c p past w (x ∷ xs) h e = excused_on c p past w xs (Put x ∷ h) (or_right (is_close p x) (closed_here p h) e.0, e.1, kind_on p x (site p h) e.2)

-- What holds of a row still holds when it has gone on.
pub record Carried (c : Conf) (past : History) (w : What) (h h' : History) : Type 1 where
  pub asked : (k : ℕ) → asking k h' ≡ asking k h
  pub count : asks h' ≡ asks h
  pub clock : now h' ≡ now h
  pub here : (k : ℕ) → is_asked_here k h' ≡ is_asked_here k h
  pub event : newest h' ≡ newest h
  pub row : row_before h' ≡ row_before h
  pub replies : Later h h'
  pub ever : (P : History → Type 0) → Ever P h → Ever P h'
  pub earlier : (P : History → Type 0) → EarlierRow P h → EarlierRow P h'
  pub earlier_back : (P : History → Type 0) → EarlierRow P h' → EarlierRow P h
  pub cause : (k : ℕ) (e : Error) → ServerCause c k past w h e → ServerCause c k past w h' e
  pub comes : (r : Request) (v : Via) (s p k id : ℕ) (m : Octets) → Comes c r v s p k id m past w h → Comes c r v s p k id m past w h'

pub carried_none : (c : Conf) (past : History) (w : What) (h : History) → Carried c past w h h
carried_none c past w h = record { asked = λ k. refl; count = refl; clock = refl; here = λ k. refl; event = refl; row = refl; replies = λ k e. e; ever = λ P e. e; earlier = λ P e. e; earlier_back = λ P e. e; cause = λ k e x. x; comes = λ r v s p k id m x. x }

pub carried_put : (c : Conf) (past : History) (w : What) (h : History) (o : Out) → SixStay c h o → Carried c past w h (Put o ∷ h)
carried_put c past w h o six = record {
  asked = λ k. refl;
  count = refl;
  clock = refl;
  here = λ k. refl;
  event = refl;
  row = refl;
  replies = λ k e. or_right (is_reply k o) (replied k h) e;
  ever = λ P e. inr e;
  earlier = λ P e. e;
  earlier_back = λ P e. e;
  cause = λ k e x. cause_put c k past w o h e six x;
  comes = λ r v s p k id m x. comes_put c r v s p k id m past w o h x;
}

pub carried_both : (c : Conf) (past : History) (w : What) (h i j : History) → Carried c past w h i → Carried c past w i j → Carried c past w h j
carried_both c past w h i j a b = record {
  asked = λ k. b.asked k ∙ a.asked k;
  count = b.count ∙ a.count;
  clock = b.clock ∙ a.clock;
  here = λ k. b.here k ∙ a.here k;
  event = b.event ∙ a.event;
  row = b.row ∙ a.row;
  replies = λ k e. b.replies k (a.replies k e);
  ever = λ P e. b.ever P (a.ever P e);
  earlier = λ P e. b.earlier P (a.earlier P e);
  earlier_back = λ P e. a.earlier_back P (b.earlier_back P e);
  cause = λ k e x. b.cause k e (a.cause k e x);
  comes = λ r v s p k id m x. b.comes r v s p k id m (a.comes r v s p k id m x);
}

pub carried_outs : (c : Conf) (past : History) (w : What) (end : History) (xs : List Out) (h : History) → ServerOutsRight c past w end h xs → Carried c past w h (put_all xs h)
carried_outs c past w end [] h r = carried_none c past w h
carried_outs c past w end (x ∷ xs) h r = carried_both c past w h (Put x ∷ h) (put_all xs (Put x ∷ h)) (carried_put c past w h x (six_stay c past w h end x r.0)) (carried_outs c past w end xs (Put x ∷ h) r.1)

module _ (c : Conf) (past : History) (w : What) (h h' : History) (on : Carried c past w h h') where
  matches_on : (r : Request) (v : Via) (i p k id : ℕ) (m : Octets) → Matches c r v i p k id m past w h → Matches c r v i p k id m past w h'
  matches_on r v i p k id m x = record { comes = on.comes r v i p k id m x.comes; agrees = x.agrees; whole = x.whole }

  pub came_on : (k : ℕ) (m : Octets) → CameFor c k m past w h → CameFor c k m past w h'
  came_on k m x = record { request = x.request; via = x.via; server = x.server; place = x.place; id = x.id; matches = matches_on x.request x.via x.server x.place k x.id m x.matches }

  pub post_on : (k : ℕ) (x : Result Octets Error) → PostRight c k x past w h → PostRight c k x past w h'
  post_on k (Ok m) p = came_on k m p
  post_on k (Err e) p = (on.cause k e p.0, p.1)

  pub asked_on : (k t : ℕ) (r : Request) → asking k h ≡ Some (record { request = r; moment = t }) → asking k h' ≡ Some (record { request = r; moment = t })
  asked_on k t r e = on.asked k ∙ e

  fresh_on : (s : Settings) (k : ℕ) (m : Octets) → IsFresh c s k m past w h → IsFresh c s k m past w h'
  fresh_on s k m (InThisRow x) = InThisRow (came_on k m x)
  fresh_on s k m (Deferred d e) = Deferred d (on.earlier _ e)

  covers_on : (k j : ℕ) (q r : Request) → CoversLater k j q r h → CoversLater k j q r h'
  covers_on k j q r x = record { asked = (x.asked.0, asked_on k (x.asked.0) r x.asked.1); below = x.below; first_asked = (x.first_asked.0, asked_on j (x.first_asked.0) q x.first_asked.1); covering = x.covering }

  pub supplies_on : (s : Settings) (k : ℕ) (q r : Request) (m : Octets) (age : ℕ) → Supplies c s k q r m age h → Supplies c s k q r m age h'
  supplies_on s k q r m age x = record { number = x.number; earlier = covers_on k x.number q r x.earlier; moment = x.moment; got = on.ever (IsFreshReply c s x.number m x.moment) x.got; is_age = x.is_age ∙ sym on.clock }

  view_on : (s : Settings) (k : ℕ) (m : Octets) → IsView c s k m h → IsView c s k m h'
  view_on s k m x = record { asked_here = on.here k ∙ x.asked_here; first = x.first; request = x.request; message = x.message; age = x.age; supplied = supplies_on s k x.first x.request x.message x.age x.supplied; parts = x.parts; valid = x.valid; says = x.says }

  here_on : (b : Bool) (P : (past : History) → What → History → Type 0) → (P past w h → P past w h') → HereOrEarlier b P past w h → HereOrEarlier b P past w h'
  here_on b P f (Here x) = Here (f x)
  here_on b P f (Earlier q e) = Earlier q (on.earlier _ e)

  without_on : (s : Settings) (k : ℕ) (m : Octets) → CameWithoutValidity c s k m past w h → CameWithoutValidity c s k m past w h'
  without_on s k m x = record { request = x.request; via = x.via; server = x.server; place = x.place; id = x.id; cacheable = x.cacheable; matches = matches_on x.request x.via x.server x.place k x.id m x.matches; none = x.none }

  pub direct_on : (s : Settings) (k : ℕ) (e : Error) → DirectCause c s k past w h e → DirectCause c s k past w h' e
  direct_on s k _ (Deadline x) = Deadline (record { asking_of = x.asking_of; asked = on.asked k ∙ x.asked; passed = subst (λ n. x.asking_of.moment + c.timeout ≤ n) (sym on.clock) x.passed })
  direct_on s k _ (NoServer n x) = NoServer n (on.here k ∙ x)
  direct_on s k _ (ByServer e x) = ByServer e (here_on s.defers_errors (λ past w h. ServerCause c k past w h e) (on.cause k e) x)
  direct_on s k _ (NoValidity m x) = NoValidity m (here_on (is_deferred s m) (CameWithoutValidity c s k m) (without_on s k m) x)

  kept_on : (s : Settings) (e : Error) (k : ℕ) → IsKeptError c s e k h → IsKeptError c s e k h'
  kept_on s e k x = record { asked_here = on.here k ∙ x.asked_here; is_kept_at_all = x.is_kept_at_all; number = x.number; first = x.first; request = x.request; earlier = covers_on k x.number x.first x.request x.earlier; moment = x.moment; got = on.ever (IsErrorReply c s x.number e x.moment) x.got; recent = subst (λ n. n ≤ x.moment + s.transport_failure_duration) (sym on.clock) x.recent }

  pub fresh_stays : (s : Settings) (k : ℕ) (m : Octets) → IsFresh c s k m past w h → IsFresh c s k m past w h'
  fresh_stays = fresh_on

  pub given_on : (k : ℕ) (x : Result Octets Error) → HereOrEarlier true (PostRight c k x) past w h → HereOrEarlier true (PostRight c k x) past w h'
  given_on k x g = here_on true (PostRight c k x) (post_on k x) g

  pub first_on : (k : ℕ) (m : Octets) → CameFirst c k m past w h → CameFirst c k m past w h'
  first_on k m (FirstHere x none) = FirstHere (came_on k m x) (λ e. none (on.earlier_back (OfRow (SomeCame c k)) e))
  first_on k m (FirstEarlier x) = FirstEarlier (on.earlier (λ e. OfRow (CameFor c k m) e × (EarlierRow (OfRow (SomeCame c k)) e → ⊥)) x)

  pub none_on : (excused : (p : ℕ) → IsExcused c p past w h → IsExcused c p past w h') (back : (r : Request) (v : Via) (i p k id : ℕ) (m : Octets) → Matches c r v i p k id m past w h' → Matches c r v i p k id m past w h) (k : ℕ) → NoneCame c k past w h → NoneCame c k past w h'
  none_on excused back k x = record {
    here = λ z. x.here (record { message = z.message; came = record { request = z.came.request; via = z.came.via; server = z.came.server; place = z.came.place; id = z.came.id; matches = back z.came.request z.came.via z.came.server z.came.place k z.came.id z.message z.came.matches }; counts = λ e. z.counts (excused z.came.place e) });
    before = λ e. x.before (on.earlier_back (OfRow (SomeCame c k)) e);
  }

  -- a reply that is right stays so, if the servers stay done where that is asked
  pub reply_on : (s : Settings) (k : ℕ) (x : Result Octets Error) → (needs_all s x ≡ true → NoneCame c k past w h → NoneCame c k past w h') → (needs_all s x ≡ true → AllAreDone c k past w h → AllAreDone c k past w h') → ReplyRight c s past w h k x → ReplyRight c s past w h' k x
  reply_on s k (Ok m) g f (Fresh x d) = Fresh (fresh_on s k m x) (λ e. (f e (d e).0, first_on k m (d e).1))
  reply_on s k (Ok m) g f (View x) = View (view_on s k m x)
  reply_on s k (Err e) g f (Own x d) = Own (direct_on s k e x) (λ a b. (f (rw a b) (d a b).0, g (rw a b) (d a b).1))
  reply_on s k (Err e) g f (Kept x) = Kept (kept_on s e k x)

  -- so does a cause of its own
  pub own_on : (s : Settings) (k : ℕ) (e : Error) → (needs_all s (Err e) ≡ true → NoneCame c k past w h → NoneCame c k past w h') → (needs_all s (Err e) ≡ true → AllAreDone c k past w h → AllAreDone c k past w h') → OwnCause c s e k past w h → OwnCause c s e k past w h'
  own_on s k e g f o = record { direct = direct_on s k e o.direct; last = λ a b. (f (rw a b) (o.last a b).0, g (rw a b) (o.last a b).1) }

  -- so does why a result fails
  pub fails_on : (s : Settings) (k : ℕ) (x : Result Octets Error) → (needs_all s x ≡ true → NoneCame c k past w h → NoneCame c k past w h') → (needs_all s x ≡ true → AllAreDone c k past w h → AllAreDone c k past w h') → FailsSo c s k past w h x → FailsSo c s k past w h' x
  fails_on s k (Ok m) g f o = (fresh_on s k m o.0, λ e. (f e (o.1 e).0, first_on k m (o.1 e).1))
  fails_on s k (Err e) g f o = own_on s k e g f o

  -- and what is put in its place
  pub revived_on : (s : Settings) (expired : ℕ → Option Entry) (y : Leaving) (m : Octets) → StaleFits c s expired y m h → StaleFits c s expired y m h'
  revived_on s expired y m f = record { unstored = f.unstored; fails = f.fails; old = f.old; server = f.server; first = f.first; request = f.request; message = f.message; age = f.age; supplied = supplies_on s y.request f.first f.request f.message f.age f.supplied; parts = f.parts; valid = f.valid; says = f.says }

  was_on : (s : Settings) (k n : ℕ) (y : Result Octets Error) → WasReply c s k n h y → WasReply c s k n h' y
  was_on s k n (Ok m) q = (on.ever (IsFreshReply c s k m n) q.0, q.1)
  was_on s k n (Err e) q = (on.ever (IsErrorReply c s k e n) q.0, q.1)

  pub entry_on : (s : Settings) (e : Entry) (n : ℕ) → EntryFits c s e n h → EntryFits c s e n h'
  entry_on s e n f = record { cacheable = f.cacheable; covers = f.covers; below = f.below; asked = (f.asked.0, asked_on e.number (f.asked.0) e.first f.asked.1); moment = subst (λ n. e.moment ≤ n) (sym on.clock) f.moment; was = was_on s e.number e.moment e.result f.was }

  pub old_on : (s : Settings) (k : ℕ) (e : Entry) (n : ℕ) → OldFits c s k e n h → OldFits c s k e n h'
  old_on s k e n f = record { fits = entry_on s e k f.fits; below = f.below; covers = λ r t a. f.covers r t (sym (on.asked k) ∙ a); server = f.server }

pub cites : ⊥ → ⊥
cites x = x
