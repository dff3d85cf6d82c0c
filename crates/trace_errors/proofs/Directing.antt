-- What is found of direct causes is what the definitions say.
use Rattle.std.proofs.Common.{◌≡◌, ℕ, suc, ◌==◌, ◌&&◌, ◌||◌, ◌⊎◌, inl, inr, Bool, true, false, List, [], ◌∷◌, Option, Some, None, refl, sym, ap, ◌∙◌, subst}
use Rattle.client_request.specs.declared.error.Error.{Error}
use Rattle.client_request.specs.declared.error.Error.TheVariants as errors
use Rattle.client_request.specs.declared.event.What.{What}
use Rattle.client_request.specs.declared.event.What.TheVariants.{OpenFailed, SendFailed, ShortSend, RecvFailed, Tick}
use Rattle.right_trace.specs.Trace.{History, Conf, Came, Put}
use Rattle.right_trace.specs.Time.{newest, row_before, EarlierRow, OfRow, max_tries}
use Rattle.right_trace.specs.{Settings.Settings, Messages.Octets, Parts.IsIn, Validity.is_deferred}
use Rattle.right_trace.specs.Requests.{Asking, asks, is_ask, is_asked_here}
use Rattle.right_trace.specs.Causes.{ServerCause, NotOpened, NotSent, SentShort, NotReceived, NoAnswer, WrongReply, StreamSilence, NotRead, NotComposed}
use Rattle.right_trace.specs.Errors.{HereOrEarlier, Here as Now, Earlier as Before, CameWithoutValidity, DirectCause, Deadline, NoServer, ByServer, NoValidity}
use Rattle.trace_tables.specs.declared.books.Books.{Books}
use Rattle.trace_tables.specs.Books as books
use Rattle.trace_tables.proofs.Asking.{deadline_decides}
use Rattle.trace_points.specs.questions.Outs.{Tells}
use Rattle.trace_points.proofs.lemmas.questions.Deciding.{both, all}
use Rattle.trace_points.specs.declared.exchanges.coming.Coming.{Coming}
use Rattle.trace_points.specs.exchanges.Coming.{is_wanted, AllComing}
use Rattle.trace_errors.specs.promptness.Heard.{Heards}
use Rattle.trace_errors.specs.promptness.Heard as heards
use Rattle.trace_errors.specs.declared.earlier.Earlier.{Earlier}
use Rattle.trace_errors.specs.Rows.{ByRow, IsCaused, WasCaused}
use Rattle.trace_errors.specs.Arrivals.{is_unkept}
use Rattle.trace_errors.specs.Earlier as earlier
use Rattle.trace_errors.proofs.Rows.{same_number, own, either, earlier_so, so_earlier}
use Rattle.trace_errors.proofs.Arriving.{unkept_so, so_unkept, none_unkept}
use Rattle.trace_errors.specs.Direct.{asked_here, some_unkept, IsWithoutValidity, HasOther, ByServers, IsDirect, TellsDirect}

first_true : (a b : Bool) → a ≡ true → (a || b) ≡ true
first_true a b e = ap (λ a. a || b) e

second_true : (a b : Bool) → b ≡ true → (a || b) ≡ true
second_true true b e = refl
second_true false b e = e

-- whether a row asks a request is told by its event
pub asked_is : (k : ℕ) (h : History) → is_asked_here k h ≡ (is_ask (newest h) && (asks (row_before h) == k))
asked_is k [] = refl
asked_is k (Came e ∷ h) = refl
asked_is k (Put o ∷ h) = asked_is k h

-- before the first row no server gave an error
none_first : (c : Conf) (k : ℕ) (e : Error) → ServerCause c k [] Tick [] e → ⊥
unfolding max_tries
none_first c k _ (NotOpened f d) = (let z : Tick ≡ OpenFailed d.place f = d.told in cc)
none_first c k _ (NotSent f d) = (let z : Tick ≡ SendFailed d.place f = d.is_told in cc)
none_first c k _ (SentShort d) = (let z : Tick ≡ ShortSend d.place = d.is_told in cc)
none_first c k _ (NotReceived f d) = (let z : Tick ≡ RecvFailed d.place f = d.is_told in cc)
none_first c k _ (NoAnswer d) = (let z : 0 ≡ suc c.transports.dgram_max_retries = d.all in cc)
none_first c k _ (WrongReply d) = (let z : None ≡ Some d.message = d.comes.first in cc)
none_first c k _ (StreamSilence d) = (let z : None ≡ Some d.begun = d.is_begun in cc)
none_first c k _ (NotRead d) = (let z : None ≡ Some d.asking_of = d.asked in cc)
none_first c k _ (NotComposed d) = (let z : None ≡ Some d.asking_of = d.asked in cc)

record Unkept (s : Settings) (k : ℕ) (askings : List (ℕ × Asking)) (xs : List Coming) : Type 0 where
  coming : Coming
  there : IsIn coming xs
  is_request : coming.request ≡ k
  unkept : is_unkept s askings coming ≡ true

unkept_in : (s : Settings) (k : ℕ) (askings : List (ℕ × Asking)) (xs : List Coming) → some_unkept s k askings xs ≡ true → Unkept s k askings xs
unkept_in s k askings [] e = absurd (cc)
unkept_in s k askings (x ∷ xs) e = go (either ((x.request == k) && is_unkept s askings x) (some_unkept s k askings xs) e) (unkept_in s k askings xs)
  where
    go : (((x.request == k) && is_unkept s askings x) ≡ true) ⊎ (some_unkept s k askings xs ≡ true) → (some_unkept s k askings xs ≡ true → Unkept s k askings xs) → Unkept s k askings (x ∷ xs)
    go (inl e) rest = (let q = both (x.request == k) (is_unkept s askings x) e in record { coming = x; there = inl refl; is_request = same_number x.request k q.0; unkept = q.1 })
    go (inr e) rest = (let u = rest e in record { coming = u.coming; there = inr u.there; is_request = u.is_request; unkept = u.unkept })

in_unkept : (s : Settings) (k : ℕ) (askings : List (ℕ × Asking)) (y : Coming) (xs : List Coming) → IsIn y xs → y.request ≡ k → is_unkept s askings y ≡ true → some_unkept s k askings xs ≡ true
in_unkept s k askings y [] i e u = absurd i
in_unkept s k askings y (x ∷ xs) (inl q) e u = first_true _ _ (subst (λ (y : Coming). ((y.request == k) && is_unkept s askings y) ≡ true) (sym q) (all (y.request == k) (is_unkept s askings y) (ap (λ n. n == k) e ∙ own k) u))
in_unkept s k askings y (x ∷ xs) (inr i) e u = second_true _ _ (in_unkept s k askings y xs i e u)

module _ (c : Conf) (s : Settings) (past : Books) (heard : Heards) (here : Books) (t : Earlier) (w : What) (xs : List Coming) (k : ℕ) (want : Option ℕ) (x h : History) (before : row_before h ≡ x) (is : newest h ≡ w) (kp : books.Known x past) (kd : heards.Known c x heard) (kh : books.Known h here) (kt : earlier.Known c s x t) (wanted : is_wanted want k ≡ true) (cs : AllComing c want x h xs) where
  asking_here : asked_here k w past ≡ is_asked_here k h
  asking_here = ap (λ n. is_ask w && (n == k)) (kp.requests.count ∙ ap asks (sym before)) ∙ (ap (λ w. is_ask w && (asks (row_before h) == k)) (sym is) ∙ sym (asked_is k h))

  abbrev Unvalid : Octets → Type 0
  Unvalid m = HereOrEarlier (is_deferred s m) (CameWithoutValidity c s k m) x w h

  unvalid_so : IsWithoutValidity s past t xs k → (m : Octets) × Unvalid m
  unvalid_so (inl e) =
      let u = unkept_in s k past.requests.askings xs e in
      let z = u.coming in
      (z.message, Now (subst (λ w. CameWithoutValidity c s k z.message x w h) is (unkept_so c want x h xs cs s k past.requests.askings kp.requests.askings z u.there u.is_request u.unkept)))
  unvalid_so (inr e) =
      let u = kt.arrivals.unkept_so k e in
      (u.message, Before u.deferred (so_earlier (OfRow (CameWithoutValidity c s k u.message)) (λ d. none_unkept c s k u.message (inl d)) h (subst (ByRow (OfRow (CameWithoutValidity c s k u.message))) (sym before) u.came)))

  so_unvalid : (m : Octets) → Unvalid m → IsWithoutValidity s past t xs k
  so_unvalid m (Now d) =
      let z = so_unkept c want x h xs cs s k past.requests.askings kp.requests.askings wanted m (subst (λ w. CameWithoutValidity c s k m x w h) (sym is) d) in
      inl (in_unkept s k past.requests.askings z.0 xs z.1 z.2 z.4)
  so_unvalid m (Before deferred r) = inr (kt.arrivals.so_unkept k (record { message = m; deferred = deferred; came = subst (ByRow (OfRow (CameWithoutValidity c s k m))) before (earlier_so (OfRow (CameWithoutValidity c s k m)) h r) }))

  other_so : (e : Error) → HasOther c s past here t w xs k e → DirectCause c s k x w h e
  other_so errors.TimedOut d = Deadline ((deadline_decides c h here.requests k kh.requests).0 d)
  other_so errors.NoTransportAvailable d = NoServer d.0 (sym asking_here ∙ d.1)
  other_so errors.MessageParseError d = (let m = unvalid_so d in NoValidity m.0 m.1)
  other_so (errors.Dgram q) d = absurd d
  other_so errors.WrongReplyForQuery d = absurd d
  other_so errors.StreamReadTimeout d = absurd d
  other_so errors.MessageBuilderPushError d = absurd d
  other_so errors.ConnectionClosed d = absurd d
  other_so errors.OptTooLong d = absurd d
  other_so errors.RedundantTransportNotFound d = absurd d
  other_so errors.FormError d = absurd d
  other_so errors.ShortMessage d = absurd d
  other_so errors.StreamLongMessage d = absurd d
  other_so errors.StreamIdleTimeout d = absurd d
  other_so errors.StreamReceiveError d = absurd d
  other_so (errors.StreamReadError f) d = absurd d
  other_so errors.StreamTooManyOutstandingQueries d = absurd d
  other_so (errors.StreamWriteError f) d = absurd d
  other_so errors.StreamUnexpectedEndOfData d = absurd d
  other_so errors.NoMemory d = absurd d
  other_so errors.NumbersUsed d = absurd d
  other_so errors.AlreadyDone d = absurd d
  other_so errors.Failed d = absurd d

  abbrev ByOne : Error → Type 0
  ByOne e = HereOrEarlier s.defers_errors (λ past w h. ServerCause c k past w h e) x w h

  direct_parts : (e : Error) → DirectCause c s k x w h e → HasOther c s past here t w xs k e ⊎ ByOne e
  direct_parts _ (Deadline d) = inl ((deadline_decides c h here.requests k kh.requests).1 d)
  direct_parts _ (NoServer a b) = inl (a, asking_here ∙ b)
  direct_parts _ (ByServer e d) = inr d
  direct_parts _ (NoValidity m d) = inl (so_unvalid m d)

  before_so : (e : Error) → WasCaused c k e x → EarlierRow (IsCaused c k e) h
  before_so e d = so_earlier (IsCaused c k e) (none_first c k e) h (subst (ByRow (IsCaused c k e)) (sym before) d)

  so_before : (e : Error) → EarlierRow (IsCaused c k e) h → WasCaused c k e x
  so_before e d = subst (ByRow (IsCaused c k e)) before (earlier_so (IsCaused c k e) h d)

  module _ (e : Error) (b : Bool) (d : ByServers c s past heard here t w xs k e b) where
    now_told : Tells (ServerCause c k x w h e) d.now
    now_told = d.told want x h kp kd kh is wanted cs

    was_told : Tells (WasCaused c k e x) d.before
    was_told = d.was s x kp kd kt

    servers_so : b ≡ true → ByOne e
    servers_so u = go (either d.now (s.defers_errors && d.before) (sym d.is ∙ u))
      where
        go : (d.now ≡ true) ⊎ ((s.defers_errors && d.before) ≡ true) → ByOne e
        go (inl u) = Now (now_told.0 u)
        go (inr u) = (let q = both s.defers_errors d.before u in Before q.0 (before_so e (was_told.0 q.1)))

    so_servers : ByOne e → b ≡ true
    so_servers (Now q) = d.is ∙ first_true d.now (s.defers_errors && d.before) (now_told.1 q)
    so_servers (Before a r) = d.is ∙ second_true d.now (s.defers_errors && d.before) (all s.defers_errors d.before a (was_told.1 (so_before e r)))

  module _ (e : Error) (b : Bool) (d : IsDirect c s past heard here t w xs k e b) where
    direct_so : b ≡ true → DirectCause c s k x w h e
    direct_so u = go (either d.other d.by_server (sym d.is ∙ u))
      where
        go : (d.other ≡ true) ⊎ (d.by_server ≡ true) → DirectCause c s k x w h e
        go (inl u) = other_so e (d.has_other.0 u)
        go (inr u) = ByServer e (servers_so e d.by_server d.servers u)

    so_direct : DirectCause c s k x w h e → b ≡ true
    so_direct q = go (direct_parts e q)
      where
        go : HasOther c s past here t w xs k e ⊎ ByOne e → b ≡ true
        go (inl o) = d.is ∙ first_true d.other d.by_server (d.has_other.1 o)
        go (inr q) = d.is ∙ second_true d.other d.by_server (so_servers e d.by_server d.servers q)

pub tells_direct : (c : Conf) (s : Settings) (past : Books) (heard : Heards) (here : Books) (t : Earlier) (w : What) (xs : List Coming) (k : ℕ) (e : Error) (b : Bool) → IsDirect c s past heard here t w xs k e b → TellsDirect c s past heard here t w xs k e b
tells_direct c s past heard here t w xs k e b d want x h before is kp kd kh kt wanted cs =
    (direct_so c s past heard here t w xs k want x h before is kp kd kh kt wanted cs e b d, so_direct c s past heard here t w xs k want x h before is kp kd kh kt wanted cs e b d)
