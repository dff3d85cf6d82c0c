-- What an out leaves as it is, of datagrams.
use Rattle.std.proofs.Common.{◌≡◌, ℕ, Bool, true, false, ◌&&◌, inl, inr, Option, Some, None, List, [], ◌∷◌, refl, ◌∙◌, subst, ap, ◌==◌, Result, Ok, Err}
use Rattle.std.specs.Prelude.{if◌then◌else◌, is_some}
use Rattle.client_request.specs.Request.{Request}
use Rattle.client_request.specs.declared.error.Error.{Error}
use Rattle.client_request.specs.declared.event.What.{What}
use Rattle.client_request.specs.declared.event.Out.{Out}
use Rattle.client_request.specs.declared.event.Out.TheVariants.{Start, OpenDgram, OpenStream, Send, Write, Resume, Close, Reply, Stale}
use Rattle.client_request.specs.declared.event.Via.{Via}
use Rattle.client_request.specs.declared.event.Via.TheVariants.{Dgram, Stream}
use Rattle.right_trace.specs.Trace.{History, Conf, Put}
use Rattle.right_trace.specs.Time.{now, newest}
use Rattle.right_trace.specs.Messages.{Octets}
use Rattle.right_trace.specs.Requests.{same_via, start, started, is_start}
use Rattle.right_trace.specs.Places.{Site, site, site_on, is_site, is_at, Gone, on_out, stand, stand_untold}
use Rattle.right_trace.specs.Writes.{Written, is_write, written_by, waiting_with}
use Rattle.right_trace.specs.Exchanges.{octets_for, is_before, waited_for, unanswered, IsAmong, Comes}
use Rattle.right_trace.specs.Causes.{sends, last_try, named, WasOpening, ServerCause, NotOpened, NotSent, SentShort, NotReceived, NoAnswer, WrongReply, StreamSilence, NotRead, NotComposed}
use Rattle.right_trace.specs.Orderly.{sending, CutAnswerCame}
use Rattle.proof_right.proofs.PartLaws.{PostRight}
use Rattle.proof_right.specs.machine.Dgrams.{Stage, Queued, Trying, Sent, Ending, Cut, Tryer, Dgrams}
use Rattle.proof_right.proofs.server.DgramKept.{placed, StageFits, TryerFits, IsNew}
use Rattle.proof_right.proofs.server.Coming.{site_kept}

-- an out opens, sends at or closes place q
abbrev pub reaches : (q : ℕ) → Out → Bool
reaches q (OpenDgram p s) = p == q
reaches q (OpenStream p s) = p == q
reaches q (Send p k i o) = p == q
reaches q (Close p) = p == q
reaches q _ = false

-- an out is about request k
abbrev pub concerns : (k : ℕ) → Out → Bool
concerns k (Start j s v) = j == k
concerns k (Send p j i o) = j == k
concerns k _ = false

-- two histories tell the same of place q
pub record SameDgram (c : Conf) (q : ℕ) (h h' : History) : Type 0 where
  pub stand : stand q h' ≡ stand q h
  pub untold : stand_untold q h' ≡ stand_untold q h
  pub at : site q h' ≡ site q h
  pub sent : sending q h' ≡ sending q h
  pub names : (k : ℕ) → named q k h' ≡ named q k h
  pub exchange : (r : Request) (j i n : ℕ) → unanswered c r q j i n h' ≡ unanswered c r q j i n h

pub dgram_same : (c : Conf) → (q : ℕ) (o : Out) (h : History) → reaches q o ≡ false → SameDgram c q h (Put o ∷ h)
dgram_same c q (Start k t v) h e = record { stand = refl; untold = refl; at = refl; sent = refl; names = λ k. refl; exchange = λ r j i n. refl }
dgram_same c q (OpenDgram p t) h e = record { stand = rw e refl; untold = rw e refl; at = rw e refl; sent = refl; names = λ k. refl; exchange = λ r j i n. refl }
dgram_same c q (OpenStream p t) h e = record { stand = rw e refl; untold = rw e refl; at = rw e refl; sent = refl; names = λ k. refl; exchange = λ r j i n. refl }
dgram_same c q (Send p k i o) h e = record { stand = refl; untold = refl; at = refl; sent = rw e refl; names = λ k. rw e refl; exchange = λ r j i n. rw e refl }
dgram_same c q (Write p k i o) h e = record { stand = refl; untold = refl; at = refl; sent = refl; names = λ k. refl; exchange = λ r j i n. refl }
dgram_same c q (Resume p o) h e = record { stand = refl; untold = refl; at = refl; sent = refl; names = λ k. refl; exchange = λ r j i n. refl }
dgram_same c q (Stale l) h e = record { stand = refl; untold = refl; at = refl; sent = refl; names = λ k. refl; exchange = λ r j i n. refl }
dgram_same c q (Close p) h e = record { stand = rw e refl; untold = rw e refl; at = refl; sent = refl; names = λ k. refl; exchange = λ r j i n. refl }
dgram_same c q (Reply k x) h e = record { stand = refl; untold = refl; at = refl; sent = refl; names = λ k. refl; exchange = λ r j i n. refl }

-- two histories tell the same of request k
pub record SameTryer (s k : ℕ) (h h' : History) : Type 0 where
  pub starts : (v : Via) → started k s v h' ≡ started k s v h
  pub tries : sends k s h' ≡ sends k s h
  pub last : last_try k s h' ≡ last_try k s h

not_this : (u v : Via) (x y : Bool) → x ≡ false → (same_via u v && (x && y)) ≡ false
not_this Dgram Dgram x y e = rw e refl
not_this Dgram Stream x y e = refl
not_this Stream Dgram x y e = refl
not_this Stream Stream x y e = rw e refl

pub tryer_same : (s k : ℕ) (o : Out) (h : History) → concerns k o ≡ false → SameTryer s k h (Put o ∷ h)
tryer_same s k (Start j t u) h e = record { starts = λ v. rw (not_this u v (j == k) (t == s) e) refl; tries = refl; last = refl }
tryer_same s k (OpenDgram p t) h e = record { starts = λ v. refl; tries = refl; last = refl }
tryer_same s k (OpenStream p t) h e = record { starts = λ v. refl; tries = refl; last = refl }
tryer_same s k (Send p j i o) h e = record { starts = λ v. refl; tries = rw e refl; last = rw e refl }
tryer_same s k (Write p j i o) h e = record { starts = λ v. refl; tries = refl; last = refl }
tryer_same s k (Resume p o) h e = record { starts = λ v. refl; tries = refl; last = refl }
tryer_same s k (Stale l) h e = record { starts = λ v. refl; tries = refl; last = refl }
tryer_same s k (Close p) h e = record { starts = λ v. refl; tries = refl; last = refl }
tryer_same s k (Reply j x) h e = record { starts = λ v. refl; tries = refl; last = refl }

-- What a result owes stands when something else is put.

if_gone : (b : Bool) → (if b then Gone else Gone) ≡ Gone
if_gone true = refl
if_gone false = refl

gone_stays : (w : What) (o : Out) (p : ℕ) → on_out w o p Gone ≡ Gone
gone_stays w (Start k s v) p = refl
gone_stays w (OpenDgram q s) p = if_gone (q == p)
gone_stays w (OpenStream q s) p = if_gone (q == p)
gone_stays w (Send q k i o) p = refl
gone_stays w (Write q k i o) p = refl
gone_stays w (Resume q o) p = refl
gone_stays w (Stale l) p = refl
gone_stays w (Close q) p = if_gone (q == p)
gone_stays w (Reply k x) p = refl

pub was_opening_put : (p : ℕ) (past : History) (o : Out) (h : History) → WasOpening p past h → WasOpening p past (Put o ∷ h)
was_opening_put p past o h (inl e) = inl e
was_opening_put p past o h (inr e) = inr (e.0, ap (on_out (newest h) o p) e.1 ∙ gone_stays (newest h) o p)

pub is_at_put : (v : Via) (s p : ℕ) (o : Out) (h : History) → is_at v s p h ≡ true → is_at v s p (Put o ∷ h) ≡ true
is_at_put v s p o h e = go (site p h) refl
  where
    go : (x : Option Site) → site p h ≡ x → is_at v s p (Put o ∷ h) ≡ true
    go None f = absurd (let y : is_site v s None ≡ true = rw f at e in cc)
    go (Some x) f = (let y : is_site v s (Some x) ≡ true = rw f at e in rw (ap (site_on p o) f ∙ site_kept p o x) y)

pub started_put : (k s : ℕ) (v : Via) (o : Out) (h : History) → started k s v h ≡ true → started k s v (Put o ∷ h) ≡ true
started_put k s v o h e = go (is_start k s v o)
  where
    go : (b : Bool) → is_some (if b then Some (now h) else start k s v h) ≡ true
    go true = refl
    go false = e

-- the out says nothing of sends and starts of request k
pub record IsSilentOn (k : ℕ) (o : Out) (h : History) : Type 0 where
  pub tries : (s : ℕ) → sends k s (Put o ∷ h) ≡ sends k s h
  pub last : (s : ℕ) → last_try k s (Put o ∷ h) ≡ last_try k s h
  pub starts : (s : ℕ) → is_start k s Stream o ≡ false

pub silent_on : (k : ℕ) (o : Out) (h : History) → concerns k o ≡ false → IsSilentOn k o h
silent_on k o h e = record { tries = λ s. (tryer_same s k o h e).tries; last = λ s. (tryer_same s k o h e).last; starts = λ s. unstarted o e s }
  where
    unstarted : (o : Out) → concerns k o ≡ false → (s : ℕ) → is_start k s Stream o ≡ false
    unstarted (Start j t v) e s = not_this v Stream (j == k) (t == s) e
    unstarted (OpenDgram p t) e s = refl
    unstarted (OpenStream p t) e s = refl
    unstarted (Send p j i o) e s = refl
    unstarted (Write p j i o) e s = refl
    unstarted (Resume p o) e s = refl
    unstarted (Stale l) e s = refl
    unstarted (Close p) e s = refl
    unstarted (Reply j x) e s = refl

among_longer : (k : ℕ) (b : Bool) (o : Out) (n : ℕ) (x : Octets) (ws : List Written) → IsAmong x (octets_for k ws) → IsAmong x (octets_for k (if b then written_by o n ws else ws))
among_longer k false o n x ws i = i
among_longer k true (Write p j id o) n x ws i = go (j == k)
  where
    go : (b : Bool) → IsAmong x (if b then o ∷ octets_for k ws else octets_for k ws)
    go true = inr i
    go false = i
among_longer k true (Start j t v) n x ws i = i
among_longer k true (OpenDgram p t) n x ws i = i
among_longer k true (OpenStream p t) n x ws i = i
among_longer k true (Send p j id o) n x ws i = i
among_longer k true (Resume p o) n x ws i = i
among_longer k true (Stale l) n x ws i = i
among_longer k true (Close p) n x ws i = i
among_longer k true (Reply j y) n x ws i = i

among_put : (c : Conf) → (r : Request) (v : Via) (s p k id : ℕ) (past : History) (o : Out) (x : Octets) (h : History) → is_start k s Stream o ≡ false → IsAmong x (waited_for c v r s p k id (now h) [] past h) → IsAmong x (waited_for c v r s p k id (now h) [] past (Put o ∷ h))
among_put c r Dgram s p k id past o x h e i = i
among_put c r Stream s p k id past o x h e i = go (is_before c (now h) (start k s Stream h)) refl
  where
    go : (b : Bool) → is_before c (now h) (start k s Stream h) ≡ b → IsAmong x (waited_for c Stream r s p k id (now h) [] past (Put o ∷ h))
    go false f = absurd (subst (λ l. IsAmong x l) (let z : waited_for c Stream r s p k id (now h) [] past h ≡ [] = rw f refl in z) i)
    go true f =
        let j : IsAmong x (octets_for k (waiting_with [] p id h)) = subst (λ l. IsAmong x l) (let z : waited_for c Stream r s p k id (now h) [] past h ≡ octets_for k (waiting_with [] p id h) = rw f refl in z) i in
        rw (e, f) (among_longer k (is_write p id o && true) o (now h) x (waiting_with [] p id h) j)

pub comes_put : (c : Conf) (r : Request) (v : Via) (s p k id : ℕ) (m : Octets) (past : History) (w : What) (o : Out) (h : History) → is_start k s Stream o ≡ false → Comes c r v s p k id m past w h → Comes c r v s p k id m past w (Put o ∷ h)
comes_put c r v s p k id m past w o h e x = record { is_open = record { stands = x.is_open.stands; octets = x.is_open.octets; sent = among_put c r v s p k id past o x.is_open.octets h e x.is_open.sent; carries = x.is_open.carries }; first = x.first }

pub cause_put : (c : Conf) (past : History) (w : What) (o : Out) (h : History) (k : ℕ) (e : Error) → IsSilentOn k o h → ServerCause c k past w h e → ServerCause c k past w (Put o ∷ h) e
cause_put c past w o h k _ same (NotOpened f x) = NotOpened f (record { place = x.place; server = x.server; told = x.told; was = was_opening_put x.place past o h x.was; at = is_at_put Dgram x.server x.place o h x.at; has_it = started_put k x.server Dgram o h x.has_it })
cause_put c past w o h k _ same (NotSent f x) = NotSent f x
cause_put c past w o h k _ same (SentShort x) = SentShort x
cause_put c past w o h k _ same (NotReceived f x) = NotReceived f x
cause_put c past w o h k _ same (NoAnswer x) = NoAnswer (record { server = x.server; all = same.tries x.server ∙ x.all; last = x.last; is_last = same.last x.server ∙ x.is_last; old = x.old; lived = x.lived })
cause_put c past w o h k _ same (WrongReply x) = WrongReply (record { request = x.request; server = x.server; place = x.place; id = x.id; message = x.message; comes = comes_put c x.request Stream x.server x.place k x.id x.message past w o h (same.starts x.server) x.comes; differs = x.differs })
cause_put c past w o h k _ same (StreamSilence x) = StreamSilence x
cause_put c past w o h k _ same (NotRead x) = NotRead (record { asking_of = x.asking_of; asked = x.asked; reason = x.reason })
cause_put c past w o h k _ same (NotComposed x) = NotComposed (record { asking_of = x.asking_of; asked = x.asked; reason = x.reason })

-- A result stays right while the row goes on.
pub reply_put : (c : Conf) (past : History) (w : What) (o : Out) (h : History) (k : ℕ) (x : Result Octets Error) → IsSilentOn k o h → PostRight c k x past w h → PostRight c k x past w (Put o ∷ h)
reply_put c past w o h k (Ok m) same x = record { request = x.request; via = x.via; server = x.server; place = x.place; id = x.id; matches = record { comes = comes_put c x.request x.via x.server x.place k x.id m past w o h (same.starts x.server) x.matches.comes; agrees = x.matches.agrees; whole = x.matches.whole } }
reply_put c past w o h k (Err e) same x = (cause_put c past w o h k e same x.0, x.1)

-- a cut answer came, whatever else is put out
cut_put : (c : Conf) (past : History) (w : What) (o : Out) (h : History) (k s : ℕ) → CutAnswerCame c k s past w h → CutAnswerCame c k s past w (Put o ∷ h)
cut_put c past w o h k s x =
    let y = x.comes.is_open in
    record { request = x.request; place = x.place; id = x.id; message = x.message; comes = record { is_open = record { stands = y.stands; octets = y.octets; sent = y.sent; carries = y.carries }; first = x.comes.first }; agrees = x.agrees; cut = x.cut }

-- Requests and places that the out is not about

-- what a result needs, for the short while that it stands
abbrev pub IsShort : (k : ℕ) (o : Out) (h : History) → Stage → Type 0
IsShort k o h (Ending x) = IsSilentOn k o h
IsShort k o h st = Unit {0}

is_short : (k : ℕ) (o : Out) (h : History) → concerns k o ≡ false → (st : Stage) → IsShort k o h st
is_short k o h e Queued = tt
is_short k o h e (Trying p) = tt
is_short k o h e (Sent p id t) = tt
is_short k o h e (Ending x) = silent_on k o h e
is_short k o h e Cut = tt

pub stage_put : (c : Conf) (s k : ℕ) (r : Request) (past : History) (w pend : What) (o : Out) (h : History) → SameTryer s k h (Put o ∷ h) → (st : Stage) → IsShort k o h st → ((p : ℕ) → placed st ≡ Some p → reaches p o ≡ false) → StageFits c s k r past w pend h st → StageFits c s k r past w pend (Put o ∷ h) st
stage_put c s k r past w pend o h known Queued short far f = tt
stage_put c s k r past w pend o h known (Trying p) short far f =
    let same = dgram_same c p o h (far p refl) in
    record { was = f.was; stand = same.stand ∙ f.stand; untold = same.untold ∙ f.untold; at = same.at ∙ f.at; unsent = same.sent ∙ f.unsent; none = λ r j i n. same.exchange r j i n ∙ f.none r j i n }
stage_put c s k r past w pend o h known (Sent p id t) short far f =
    let same = dgram_same c p o h (far p refl) in
    record {
      octets = f.octets;
      carries = f.carries;
      stand = same.stand ∙ f.stand;
      at = same.at ∙ f.at;
      sent = same.sent ∙ f.sent;
      named = rw (same.names k) f.named;
      last = known.last ∙ f.last;
      lived = f.lived;
      is_open = λ e n lt. same.exchange r k id n ∙ f.is_open e n lt;
      only = λ r' j i n o e. f.only r' j i n o (subst (λ os. IsAmong o os) (same.exchange r' j i n) e);
    }
stage_put c s k r past w pend o h known (Ending x) short far f = λ un late. reply_put c past w o h k x short (f un late)
stage_put c s k r past w pend o h known Cut short far f = λ un. cut_put c past w o h k s (f un)

pub tryer_put_by : (c : Conf) (s k : ℕ) (a : Tryer) (past : History) (w pend : What) (o : Out) (h : History) → SameTryer s k h (Put o ∷ h) → IsShort k o h a.stage → ((p : ℕ) → placed a.stage ≡ Some p → reaches p o ≡ false) → TryerFits c s k a past w pend h → TryerFits c s k a past w pend (Put o ∷ h)
tryer_put_by c s k a past w pend o h known short far f = record { asked = f.asked; has_it = known.starts Dgram ∙ f.has_it; unstreamed = known.starts Stream ∙ f.unstreamed; trials = known.tries ∙ f.trials; few = f.few; stage = stage_put c s k a.request past w pend o h known a.stage short far f.stage }

pub tryer_put : (c : Conf) (s k : ℕ) (a : Tryer) (past : History) (w pend : What) (o : Out) (h : History) → concerns k o ≡ false → ((p : ℕ) → placed a.stage ≡ Some p → reaches p o ≡ false) → TryerFits c s k a past w pend h → TryerFits c s k a past w pend (Put o ∷ h)
tryer_put c s k a past w pend o h e far f = tryer_put_by c s k a past w pend o h (tryer_same s k o h e) (is_short k o h e a.stage) far f

-- the out is not about request k at server s
pub record IsApart (s k : ℕ) (a : Tryer) (o : Out) (h : History) : Type 0 where
  pub same : SameTryer s k h (Put o ∷ h)
  pub short : IsShort k o h a.stage

pub apart_by : (s k : ℕ) (a : Tryer) (o : Out) (h : History) → concerns k o ≡ false → IsApart s k a o h
apart_by s k a o h e = record { same = tryer_same s k o h e; short = is_short k o h e a.stage }

pub new_put : (c : Conf) → (q : ℕ) (past : History) (d d' : Dgrams) (o : Out) (h : History) → reaches q o ≡ false → d'.at q ≡ d.at q → IsNew c q past d h → IsNew c q past d' (Put o ∷ h)
new_put c q past d d' o h e same f =
    let at = dgram_same c q o h e in
    record { was = f.was; unheld = same ∙ f.unheld; stand = at.stand ∙ f.stand; nowhere = at.at ∙ f.nowhere; unsent = at.sent ∙ f.unsent; none = λ r j i n. at.exchange r j i n ∙ f.none r j i n }
