-- What is given is right: a result that is delivered, the best of those kept back, an answer at once.
use Rattle.proof_right.proofs.PartLaws.{machine_of, PostRight, Part}
use Rattle.std.proofs.Common.{◌≡◌, ℕ, ◌+◌, ◌<◌, ◌≤◌, Bool, true, false, inl, inr, Option, Some, None, List, [], ◌∷◌, length, refl, arith, sym, ◌∙◌, ap, subst, ◌&&◌, ◌||◌}
use Rattle.std.specs.Prelude.{Result, Ok, Err, nat_lt}
use Rattle.std.proofs.lemmas.Bool.Decides.{nat_tests}
use Rattle.client_request.specs.Request.{Request}
use Rattle.client_request.specs.declared.error.Error.{Error}
use Rattle.client_request.specs.declared.event.What.{What}
use Rattle.client_request.specs.declared.event.What.TheVariants.{Ask}
use Rattle.right_trace.specs.Trace.{History, Conf, Came, Put}
use Rattle.right_trace.specs.Time.{newest, row_before, EarlierRow, OfRow}
use Rattle.right_trace.specs.Messages.{Octets, Composes}
use Rattle.right_trace.specs.Requests.{Asking, asking, is_asked_here, handed}
use Rattle.right_trace.specs.Settings.{Settings}
use Rattle.right_trace.specs.Keys.{KeyCovers, is_cacheable}
use Rattle.right_trace.specs.Validity.{validity_of_message, is_deferred, waits_for_others}
use Rattle.right_trace.specs.Owed.{IsOwed, AllAreDone}
use Rattle.right_trace.specs.Coming.{IsExcused, CameFor, CameFirst, NoneCame}
use Rattle.right_trace.specs.Replies.{IsFresh, InThisRow, Deferred, Supplies, Fresh, View}
use Rattle.right_trace.specs.Causes.{ServerCause, NotOpened, NotSent, SentShort, NotReceived, NoAnswer, WrongReply, StreamSilence, NotRead, NotComposed}
use Rattle.right_trace.specs.Errors.{HereOrEarlier, Here, Earlier, CameWithoutValidity, DirectCause, NoServer, ByServer, NoValidity, is_deadline, is_of_server, is_failing, FailsSo, HasCause, Own, Kept as KeptError}
use Rattle.right_trace.specs.Right.{ReplyRight}
use Rattle.proof_right.specs.machine.Client.{Given, Waiting, Leaving, Entry, Upper, best, first_message, first_result, or_else, validity_of, outcome, outcome_of, IsOutcome, Caches, Passes, AtOnce, Refused, Viewed, Repeated, Nowhere, NoneOf}
use Rattle.right_trace.specs.Parts.{IsIn}
use Rattle.proof_right.proofs.client.Kept.{needs_all, needs_for, MayStore, WasReply, IsTold, IsExpected, IsPosted, IsKeptBack, IsPassedOver, Kept}
use Rattle.proof_right.proofs.client.Lists.{best_message, best_error, no_message}
use Rattle.proof_right.proofs.client.Serving.{clash}
use Rattle.right_trace.proofs.Asked.{earlier_asked, serves}
use Rattle.client_request.specs.declared.error.Error.TheVariants as errors

-- an error that a server gives is not that of the deadline
pub not_deadline : (c : Conf) (k : ℕ) (past : History) (w : What) (h : History) (e : Error) → ServerCause c k past w h e → is_deadline e ≡ false
not_deadline c k past w h _ (NotOpened f x) = refl
not_deadline c k past w h _ (NotSent f x) = refl
not_deadline c k past w h _ (SentShort x) = refl
not_deadline c k past w h _ (NotReceived f x) = refl
not_deadline c k past w h _ (NoAnswer x) = refl
not_deadline c k past w h _ (WrongReply x) = refl
not_deadline c k past w h _ (StreamSilence x) = refl
not_deadline c k past w h _ (NotRead x) = refl
not_deadline c k past w h _ (NotComposed x) = refl

pub ever_not_deadline : (c : Conf) (k : ℕ) (e : Error) (h : History) → EarlierRow (OfRow (λ past w h. ServerCause c k past w h e)) h → is_deadline e ≡ false
ever_not_deadline c k e [] x = absurd x
ever_not_deadline c k e (Came v ∷ h) (inl x) = not_deadline c k (row_before h) (newest h) h e x
ever_not_deadline c k e (Came v ∷ h) (inr x) = ever_not_deadline c k e h x
ever_not_deadline c k e (Put o ∷ h) x = ever_not_deadline c k e h x

ever_cause : (c : Conf) (k : ℕ) (e : Error) (h : History) → EarlierRow (OfRow (PostRight c k (Err e))) h → EarlierRow (OfRow (λ past w h. ServerCause c k past w h e)) h
ever_cause c k e [] x = absurd x
ever_cause c k e (Came v ∷ h) (inl x) = inl x.0
ever_cause c k e (Came v ∷ h) (inr x) = inr (ever_cause c k e h x)
ever_cause c k e (Put o ∷ h) x = ever_cause c k e h x

-- What holds of an outcome, whatever became of it.
pub record OutcomeFits (c : Conf) (s : Settings) (past : History) (w : What) (h : History) (k : ℕ) (r : Request) (y : Leaving) : Type 0 where
  pub request : y.request ≡ k
  pub asked : y.asked ≡ r
  pub right : ReplyRight c s past w h k y.result
  pub stores : y.is_stored ≡ true → (is_cacheable y.asked ≡ true) × MayStore c s k past w h y.result
  pub unstored : y.is_stored ≡ false → (m : Octets) → y.result ≡ Ok m → is_cacheable y.asked ≡ true → (n : ℕ) → validity_of_message s m ≡ Some n → 0 < n → is_asked_here k h ≡ true

same_asking : (a : Asking) (r q : Request) (t u : ℕ) → Path (Option Asking) (Some (record { request = r; moment = t })) (Some (record { request = q; moment = u })) → r ≡ q
same_asking a r q t u e = (let z : record { request = r; moment = t } ≡ record { request = q; moment = u } = cc in ap (λ (x : Asking). x.request) z)

is_above_true : (n : ℕ) → nat_lt 0 n ≡ true → 0 < n
is_above_true n e = grind (arith, nat_tests)

not_both : (a b : Bool) → b ≡ false → (a && b) ≡ true → ⊥
not_both true b e q = clash b q e
not_both false b e q = absurd (cc)

module _ (c : Conf) (s : Settings) (past : History) (w : What) (h : History) (k t : ℕ) (r : Request) (asked : asking k h ≡ Some (record { request = r; moment = t })) where
  -- a message that came, in this row or before: with the request that it came for
  record Arrived (m : Octets) : Type 0 where
    pub fresh : IsFresh c s k m past w h
    pub without : is_cacheable r ≡ true → validity_of_message s m ≡ None → HereOrEarlier (is_deferred s m) (CameWithoutValidity c s k m) past w h

  without_of : (m : Octets) (past : History) (w : What) (e : History) → ((a : Asking) → asking k past ≡ Some a → asking k h ≡ Some a) → is_cacheable r ≡ true → validity_of_message s m ≡ None → CameFor c k m past w e → CameWithoutValidity c s k m past w e
  without_of m past w e on cacheable none x =
      let a = x.matches.comes.is_open.stands.asked in
      let same : x.request ≡ r = same_asking (record { request = r; moment = t }) x.request r (a.0) t (sym (on (record { request = x.request; moment = a.0 }) a.1) ∙ asked) in
      record { request = x.request; via = x.via; server = x.server; place = x.place; id = x.id; cacheable = subst (λ q. is_cacheable q ≡ true) (sym same) cacheable; matches = x.matches; none = none }

  here_arrived : (m : Octets) → ((a : Asking) → asking k past ≡ Some a → asking k h ≡ Some a) → CameFor c k m past w h → Arrived m
  here_arrived m on x = record { fresh = InThisRow x; without = λ q n. Here (without_of m past w h on q n x) }

  earlier_arrived : (m : Octets) → is_deferred s m ≡ true → EarlierRow (OfRow (CameFor c k m)) h → Arrived m
  earlier_arrived m d x = record {
    fresh = Deferred d x;
    without = λ q n. Earlier d (earlier_asked (OfRow (CameFor c k m)) (OfRow (CameWithoutValidity c s k m)) k h (λ e on y. without_of m (row_before e) (newest e) e on q n y) x);
  }

  not_above : (n o : ℕ) (m q : Octets) → nat_lt 0 n ≡ false → Path (Result Octets Error) (Ok m) (Ok q) → validity_of_message s m ≡ Some n → validity_of_message s q ≡ Some o → 0 < o → ⊥
  not_above n o m q e r ev p l =
      let mq : m ≡ q = cc in
      let no : Path (Option ℕ) (Some n) (Some o) = sym ev ∙ (ap (validity_of_message s) mq ∙ p) in
      let z : n ≡ o = cc in
      let b : nat_lt 0 o ≡ false = subst (λ n. nat_lt 0 n ≡ false) z e in
      grind (arith, nat_tests)

  message_outcome : (m : Octets) → Arrived m → (is_deferred s m ≡ true → AllAreDone c k past w h × CameFirst c k m past w h) → (b : Bool) → is_cacheable r ≡ b → (v : Option ℕ) → validity_of_message s m ≡ v → OutcomeFits c s past w h k r (outcome_of b v k r (Ok m))
  message_outcome m a done false eb v ev = record { request = refl; asked = refl; right = Fresh a.fresh done; stores = λ e. absurd (cc); unstored = λ e q r ca n p l. absurd (clash (is_cacheable _) ca eb) }
  message_outcome m a done true eb (Some n) ev = record { request = refl; asked = refl; right = Fresh a.fresh done; stores = λ e. (eb, (a.fresh, (n, ev, is_above_true n e))); unstored = λ e q r ca o p l. absurd (not_above n o m q e r ev p l) }
  message_outcome m a done true eb None ev = record { request = refl; asked = refl; right = Own (NoValidity m (a.without eb ev)) (λ q. absurd (cc)); stores = λ e. absurd (cc); unstored = λ e q r ca o p l. absurd (cc) }

  error_outcome : (e : Error) → DirectCause c s k past w h e → is_deadline e ≡ false → (is_of_server e ≡ true → s.defers_errors ≡ true → AllAreDone c k past w h × NoneCame c k past w h) → (b : Bool) → is_cacheable r ≡ b → OutcomeFits c s past w h k r (outcome_of b (Some s.transport_failure_duration) k r (Err e))
  error_outcome e x not done false eb = record { request = refl; asked = refl; right = Own x done; stores = λ q. absurd (cc); unstored = λ e q r ca o p l. absurd (cc) }
  error_outcome e x not done true eb = record { request = refl; asked = refl; right = Own x done; stores = λ q. (eb, (x, not)); unstored = λ e q r ca o p l. absurd (cc) }

  -- a result that is not kept back
  pub delivered : (y : Result Octets Error) → ((a : Asking) → asking k past ≡ Some a → asking k h ≡ Some a) → PostRight c k y past w h → waits_for_others s y ≡ false → OutcomeFits c s past w h k r (outcome s k r y)
  delivered (Ok m) on x final = message_outcome m (here_arrived m on x) (λ d. absurd (clash (is_deferred s m) d final)) (is_cacheable r) refl (validity_of_message s m) refl
  delivered (Err e) on x final = error_outcome e (ByServer e (Here x.0)) (not_deadline c k past w h e x.0) (λ a d. absurd (clash s.defers_errors d final)) (is_cacheable r) refl

  pub nowhere : length c.servers ≡ 0 → is_asked_here k h ≡ true → OutcomeFits c s past w h k r (outcome s k r (Err errors.NoTransportAvailable))
  nowhere none here = error_outcome errors.NoTransportAvailable (NoServer none here) refl (λ a. absurd (cc)) (is_cacheable r) refl

  -- the first message that came; or an error, where none did
  abbrev pub IsBest : Result Octets Error → Type 0
  IsBest (Ok m) = CameFirst c k m past w h
  IsBest (Err e) = NoneCame c k past w h

  -- the best of those kept back
  pub concluded : (y : Result Octets Error) → ((a : Asking) → asking k past ≡ Some a → asking k h ≡ Some a) → HereOrEarlier true (PostRight c k y) past w h → waits_for_others s y ≡ true → AllAreDone c k past w h → IsBest y → OutcomeFits c s past w h k r (outcome s k r y)
  concluded (Ok m) on (Here x) d all b = message_outcome m (here_arrived m on x) (λ q. (all, b)) (is_cacheable r) refl (validity_of_message s m) refl
  concluded (Ok m) on (Earlier q x) d all b = message_outcome m (earlier_arrived m d x) (λ q. (all, b)) (is_cacheable r) refl (validity_of_message s m) refl
  concluded (Err e) on (Here x) d all b = error_outcome e (ByServer e (Here x.0)) (not_deadline c k past w h e x.0) (λ a q. (all, b)) (is_cacheable r) refl
  concluded (Err e) on (Earlier q x) d all b = error_outcome e (ByServer e (Earlier d (ever_cause c k e h x))) (ever_not_deadline c k e h (ever_cause c k e h x)) (λ a q. (all, b)) (is_cacheable r) refl

  -- a message that has no validity, where no cache looks at it
  passed : (m : Octets) → IsFresh c s k m past w h → (is_deferred s m ≡ true → AllAreDone c k past w h × CameFirst c k m past w h) → validity_of_message s m ≡ None → OutcomeFits c s past w h k r (record { request = k; asked = r; result = Ok m; given = Ok m; is_stored = false; stale = None })
  passed m fresh done none = record { request = refl; asked = refl; right = Fresh fresh done; stores = λ e. absurd (cc); unstored = λ e q same ca n p l. absurd (let z : m ≡ q = cc in let v : Path (Option ℕ) None (Some n) = sym none ∙ (ap (validity_of_message s) z ∙ p) in cc) }

  as_it_is : (y : Result Octets Error) (m : Octets) → y ≡ Ok m → OutcomeFits c s past w h k r (record { request = k; asked = r; result = Ok m; given = Ok m; is_stored = false; stale = None }) → OutcomeFits c s past w h k r (record { request = k; asked = r; result = y; given = y; is_stored = false; stale = None })
  as_it_is y m e o = subst (λ y. OutcomeFits c s past w h k r (record { request = k; asked = r; result = y; given = y; is_stored = false; stale = None })) (sym e) o

  pub delivered_so : (y : Result Octets Error) (z : Leaving) → IsOutcome s k r y z → ((a : Asking) → asking k past ≡ Some a → asking k h ≡ Some a) → PostRight c k y past w h → waits_for_others s y ≡ false → OutcomeFits c s past w h k r z
  delivered_so y _ Caches on x final = delivered y on x final
  delivered_so y _ (Passes m is none) on x final =
      let x' : PostRight c k (Ok m) past w h = subst (λ y. PostRight c k y past w h) is x in
      let final' : waits_for_others s (Ok m) ≡ false = subst (λ y. waits_for_others s y ≡ false) is final in
      as_it_is y m is (passed m (InThisRow x') (λ d. absurd (clash (is_deferred s m) d final')) none)

  pub concluded_so : (y : Result Octets Error) (z : Leaving) → IsOutcome s k r y z → ((a : Asking) → asking k past ≡ Some a → asking k h ≡ Some a) → HereOrEarlier true (PostRight c k y) past w h → waits_for_others s y ≡ true → AllAreDone c k past w h → IsBest y → OutcomeFits c s past w h k r z
  concluded_so y _ Caches on x d all b = concluded y on x d all b
  concluded_so y _ (Passes m is none) on x d all b =
      let x' : HereOrEarlier true (PostRight c k (Ok m)) past w h = subst (λ y. HereOrEarlier true (PostRight c k y) past w h) is x in
      let d' : waits_for_others s (Ok m) ≡ true = subst (λ y. waits_for_others s y ≡ true) is d in
      let b' : IsBest (Ok m) = subst IsBest is b in
      as_it_is y m is (passed m (fresh x' d') (λ q. (all, b')) none)
    where
      fresh : HereOrEarlier true (PostRight c k (Ok m)) past w h → waits_for_others s (Ok m) ≡ true → IsFresh c s k m past w h
      fresh (Here x) d = InThisRow x
      fresh (Earlier q x) d = Deferred d x

-- nothing is put in the place of an outcome
pub outcome_plain : (s : Settings) (k : ℕ) (r : Request) (y : Result Octets Error) (z : Leaving) → IsOutcome s k r y z → z.stale ≡ None
outcome_plain s k r y _ Caches = go (is_cacheable r) (validity_of s y)
  where
    go : (b : Bool) (v : Option ℕ) → (outcome_of b v k r y).stale ≡ None
    go false v = refl
    go true (Some n) = refl
    go true None = refl
outcome_plain s k r y _ (Passes m is none) = refl

-- nor of an answer at once
pub at_once_plain : (c : Conf) (s : Settings) (compose : Request → Result Octets Error) (n k : ℕ) (es : List Entry) (r : Request) (y : Leaving) → AtOnce c s compose n k es r y → y.stale ≡ None
at_once_plain c s compose n k es r _ (Refused e q) = refl
at_once_plain c s compose n k es r _ (Viewed e m y parts age composed j q cover is valid says) = refl
at_once_plain c s compose n k es r _ (Repeated e v composed j q cover le) = refl
at_once_plain c s compose n k es r _ (Nowhere composed none) = outcome_plain s k r (Err errors.NoTransportAvailable) (outcome s k r (Err errors.NoTransportAvailable)) Caches

-- an outcome that fails is the result that was given
fails_so : (s : Settings) (k : ℕ) (r : Request) (y : Result Octets Error) (z : Leaving) → IsOutcome s k r y z → is_failing z.result ≡ true → y ≡ z.result
fails_so s k r (Ok m) _ Caches fails = go (is_cacheable r) (validity_of_message s m) fails
  where
    go : (b : Bool) (v : Option ℕ) → is_failing (outcome_of b v k r (Ok m)).result ≡ true → Path (Result Octets Error) (Ok m) (outcome_of b v k r (Ok m)).result
    go false v f = refl
    go true (Some n) f = refl
    go true None f = absurd (cc)
fails_so s k r (Err x) _ Caches fails = go (is_cacheable r)
  where
    go : (b : Bool) → Path (Result Octets Error) (Err x) (outcome_of b (Some s.transport_failure_duration) k r (Err x)).result
    go false = refl
    go true = refl
fails_so s k r y _ (Passes m is none) fails = refl

-- what was given is told beside it
pub given_so : (s : Settings) (k : ℕ) (r : Request) (y : Result Octets Error) (z : Leaving) → IsOutcome s k r y z → z.given ≡ y
given_so s k r y _ Caches = go (is_cacheable r) (validity_of s y)
  where
    go : (b : Bool) (v : Option ℕ) → (outcome_of b v k r y).given ≡ y
    go false v = refl
    go true (Some n) = refl
    go true None = refl
given_so s k r y _ (Passes m is none) = refl

pub failing_so : (s : Settings) (k : ℕ) (r : Request) (y : Result Octets Error) (z : Leaving) → IsOutcome s k r y z → is_failing z.result ≡ true → is_failing z.given ≡ true
failing_so s k r y z out fails = ap is_failing (given_so s k r y z out ∙ fails_so s k r y z out fails) ∙ fails

-- and why it fails is told
pub delivered_fails : (c : Conf) (s : Settings) (past : History) (w : What) (h : History) (k j : ℕ) (r : Request) (y : Result Octets Error) (z : Leaving) → IsOutcome s j r y z → PostRight c k y past w h → waits_for_others s y ≡ false → FailsSo c s k past w h z.given
delivered_fails c s past w h k j r y z out x final = subst (FailsSo c s k past w h) (sym (given_so s j r y z out)) (go y x final)
  where
    go : (y : Result Octets Error) → PostRight c k y past w h → waits_for_others s y ≡ false → FailsSo c s k past w h y
    go (Ok m) x final = (InThisRow x, λ d. absurd (clash (is_deferred s m) d final))
    go (Err e) x final = record { direct = ByServer e (Here x.0); last = λ a d. absurd (clash s.defers_errors d final) }

pub concluded_fails : (c : Conf) (s : Settings) (past : History) (w : What) (h : History) (k t : ℕ) (r : Request) (asked : asking k h ≡ Some (record { request = r; moment = t })) (y : Result Octets Error) (z : Leaving) → IsOutcome s k r y z → HereOrEarlier true (PostRight c k y) past w h → waits_for_others s y ≡ true → AllAreDone c k past w h → IsBest c s past w h k t r asked y
    → FailsSo c s k past w h z.given
concluded_fails c s past w h k t r asked y z out x d all b = subst (FailsSo c s k past w h) (sym (given_so s k r y z out)) (go y x d b)
  where
    fresh : (m : Octets) → HereOrEarlier true (PostRight c k (Ok m)) past w h → is_deferred s m ≡ true → IsFresh c s k m past w h
    fresh m (Here x) d = InThisRow x
    fresh m (Earlier u x) d = Deferred d x

    cause : (e : Error) → HereOrEarlier true (PostRight c k (Err e)) past w h → s.defers_errors ≡ true → DirectCause c s k past w h e
    cause e (Here x) d = ByServer e (Here x.0)
    cause e (Earlier u x) d = ByServer e (Earlier d (ever_cause c k e h x))

    go : (y : Result Octets Error) → HereOrEarlier true (PostRight c k y) past w h → waits_for_others s y ≡ true → IsBest c s past w h k t r asked y → FailsSo c s k past w h y
    go (Ok m) x d b = (fresh m x d, λ q. (all, b))
    go (Err e) x d b = record { direct = cause e x d; last = λ a f. (all, b) }

-- what an outcome needs all servers for is what was kept back
pub outcome_needs : (s : Settings) (k : ℕ) (r : Request) (y : Result Octets Error) → needs_all s (outcome s k r y).result ≡ true → waits_for_others s y ≡ true
outcome_needs s k r (Ok m) e = go (is_cacheable r) (validity_of_message s m) e
  where
    go : (b : Bool) (v : Option ℕ) → needs_all s (outcome_of b v k r (Ok m)).result ≡ true → is_deferred s m ≡ true
    go false v e = e
    go true (Some n) e = e
    go true None e = absurd (cc)
outcome_needs s k r (Err x) e = go (is_cacheable r) e
  where
    right : (a b : Bool) → (a && b) ≡ true → b ≡ true
    right true b e = e
    right false b e = absurd (cc)

    go : (b : Bool) → needs_all s (outcome_of b (Some s.transport_failure_duration) k r (Err x)).result ≡ true → s.defers_errors ≡ true
    go false e = right (is_of_server x) s.defers_errors e
    go true e = right (is_of_server x) s.defers_errors e

pub outcome_needs_so : (s : Settings) (k : ℕ) (r : Request) (y : Result Octets Error) (z : Leaving) → IsOutcome s k r y z → needs_all s z.result ≡ true → waits_for_others s y ≡ true
outcome_needs_so s k r y _ Caches e = outcome_needs s k r y e
outcome_needs_so s k r y _ (Passes m is none) e = subst (λ y. waits_for_others s y ≡ true) (sym is) (subst (λ y. needs_all s y ≡ true) is e)

pub outcome_needs_for : (s : Settings) (k : ℕ) (r : Request) (y : Result Octets Error) (z : Leaving) → IsOutcome s k r y z → needs_for s z ≡ true → waits_for_others s y ≡ true
outcome_needs_for s k r y z out e = go (needs_all s z.result) refl e
  where
    waits : (y : Result Octets Error) → needs_all s y ≡ true → waits_for_others s y ≡ true
    waits (Ok m) e = e
    waits (Err x) e = right (is_of_server x) s.defers_errors e
      where
        right : (a b : Bool) → (a && b) ≡ true → b ≡ true
        right true b e = e
        right false b e = absurd (cc)

    go : (b : Bool) → needs_all s z.result ≡ b → (b || needs_all s z.given) ≡ true → waits_for_others s y ≡ true
    go true i e = outcome_needs_so s k r y z out i
    go false i e = waits y (sym (ap (needs_all s) (given_so s k r y z out)) ∙ e)

-- the best is one of them
pub best_given : (gs : List Given) (y : Result Octets Error) → best gs ≡ Some y → (g : Given) × IsIn g gs × (g.result ≡ y)
best_given gs y e = go (first_message gs) refl e
  where
    message_in : (gs : List Given) (y : Result Octets Error) → first_message gs ≡ Some y → (g : Given) × IsIn g gs × (g.result ≡ y)
    message_in [] y e = absurd (cc)
    message_in (g ∷ gs) y e = here g.result refl e (message_in gs y)
      where
        here : (v : Result Octets Error) → g.result ≡ v → elim v as (λ x. Option (Result Octets Error)) [ Ok m ↦ Some (Ok m) | Err e ↦ first_message gs ] ≡ Some y → (first_message gs ≡ Some y → (g : Given) × IsIn g gs × (g.result ≡ y)) → (z : Given) × IsIn z (g ∷ gs) × (z.result ≡ y)
        here (Ok m) q e ih = (g, inl refl, q ∙ (let z : Path (Result Octets Error) (Ok m) y = cc in z))
        here (Err x) q e ih = (let r = ih e in (r.0, inr r.1, r.2))

    first_in : (gs : List Given) (y : Result Octets Error) → first_result gs ≡ Some y → (g : Given) × IsIn g gs × (g.result ≡ y)
    first_in [] y e = absurd (cc)
    first_in (g ∷ gs) y e = (g, inl refl, cc)

    go : (v : Option (Result Octets Error)) → first_message gs ≡ v → or_else v (first_result gs) ≡ Some y → (g : Given) × IsIn g gs × (g.result ≡ y)
    go (Some z) q e = message_in gs y (q ∙ e)
    go None q e = first_in gs y e

module _ (c : Conf) (s : Settings) (compose : Request → Result Octets Error) (composes : Composes c compose) (P : Part c) (past : History) (w : What) (x : Upper P.State) (h : History) (kept : Kept c s P past w x h) where
  -- every server has given its result
  pub all_done : (k : ℕ) (a : Waiting) → x.held k ≡ Some a → ((i : ℕ) → i < length c.servers → a.tried i ≡ true) → ((i : ℕ) → i < length c.servers → P.holds (x.ups i) k ≡ false) → NoneOf c s compose (machine_of P) k x.board → AllAreDone c k past w h
  all_done k a held tried free none = record {
    handed = over;
    over = λ i lt. elim (kept.gave i k a lt held (over i lt)) [
      | inl q ↦ absurd (clash (P.holds (x.ups i) k) q (free i lt))
      | inr q ↦ elim q [ inl b ↦ absurd (none (b.0) b.1 b.3) | inr g ↦ subst (λ i. IsOwed c i k past w h → ⊥) g.2 ((kept.back k a (g.0) held g.1).over) ]
    ];
  }
    where
      over : (i : ℕ) → i < length c.servers → handed k i h ≡ true
      over i lt = sym ((kept.reqs k a held).tried i) ∙ tried i lt

  -- the best of what was kept back is the first message that came, or an error, where none did
  pub best_is : (k : ℕ) (a : Waiting) (y : Result Octets Error) (r : Request) (t : ℕ) (asked : asking k h ≡ Some (record { request = r; moment = t })) → x.held k ≡ Some a → ((i : ℕ) → i < length c.servers → P.holds (x.ups i) k ≡ false) → NoneOf c s compose (machine_of P) k x.board → best a.kept_back ≡ Some y → IsBest c s past w h k t r asked y
  best_is k a (Ok m) r t asked held free none e = elim (best_message a.kept_back m e) [
    | inl f ↦ (kept.firsts k a held).first m f
    | inr n ↦ (let g = best_given a.kept_back (Ok m) e in absurd (no_message a.kept_back (g.0) m g.1 g.2 n))
  ]
  best_is k a (Err v) r t asked held free none e = record {
    here = λ z. (let b = z.came in no_told z.message b.server b.place b.matches.comes.is_open.stands.known z.counts (kept.told b.request b.via b.server b.place k b.id z.message a b.matches held));
    before = (kept.firsts k a held).none (best_error a.kept_back v e);
  }
    where
      no_told : (m : Octets) (i p : ℕ) → i < length c.servers → (IsExcused c p past w h → ⊥) → IsTold c s P past w x.ups x.board i p k m a h → ⊥
      no_told m i p lt counts (IsExpected z) = clash (P.holds (x.ups i) k) (P.expects_held (x.ups i) p k m z) (free i lt)
      no_told m i p lt counts (IsPosted z) = none (record { server = i; request = k; result = Ok m }) z refl
      no_told m i p lt counts (IsKeptBack g l z) = no_message a.kept_back g m l z (best_error a.kept_back v e)
      no_told m i p lt counts (IsPassedOver z) = counts z

  message_was : (e : Entry) (m : Octets) → e.result ≡ Ok m → WasReply c s e.number e.moment h e.result → WasReply c s e.number e.moment h (Ok m)
  message_was e m q v = subst (WasReply c s e.number e.moment h) q v

  supplied : (r : Request) (e : Entry) (m : Octets) (age : ℕ) → x.pending ≡ Ask r → IsIn e x.stored → e.result ≡ Ok m → KeyCovers e.under r → e.moment + age ≡ x.now → Supplies c s x.asked e.first r m age h
  supplied r e m age pend j q cover is =
      let f = kept.entries e j in
      let p = kept.pending r pend in
      record { number = e.number; earlier = record { asked = (x.now, p.asked); below = f.below; first_asked = f.asked; covering = serves e.first r e.under f.cacheable f.covers cover }; moment = e.moment; got = (message_was e m q f.was).0; is_age = is ∙ kept.clock }

  above : (n : ℕ) → 0 < n → nat_lt 0 n ≡ true
  above n lt = grind (arith, nat_tests)

  -- an answer at once is right
  pub at_once : (r : Request) (y : Leaving) → x.pending ≡ Ask r → AtOnce c s compose x.now x.asked x.stored r y → OutcomeFits c s past w h x.asked r y
  at_once r _ pend (Refused e q) = record {
    request = refl;
    asked = refl;
    right = elim (composes.refused r e ((kept.pending r pend).octets) q) [
      | inl z ↦ subst (λ e. HasCause c s e x.asked past w h) (sym z.0) (Own (ByServer errors.MessageParseError (Here (NotRead (record { asking_of = record { request = r; moment = x.now }; asked = (kept.pending r pend).asked; reason = z.1 })))) (λ a. absurd (cc)))
      | inr z ↦ subst (λ e. HasCause c s e x.asked past w h) (sym z.0) (Own (ByServer errors.MessageBuilderPushError (Here (NotComposed (record { asking_of = record { request = r; moment = x.now }; asked = (kept.pending r pend).asked; reason = z.1 })))) (λ a. absurd (cc)))
    ];
    stores = λ e. absurd (cc);
    unstored = λ e q r ca o p l. absurd (cc);
  }
  at_once r _ pend (Viewed e m y parts age composed j q cover is valid says) = record {
    request = refl;
    asked = refl;
    right = View (record { asked_here = (kept.pending r pend).here; first = e.first; request = r; message = m; age = age; supplied = supplied r e m age pend j q cover is; parts = parts; valid = valid; says = says });
    stores = λ e. absurd (cc);
    unstored = λ z q t ca o p l. (kept.pending r pend).here;
  }
  at_once r _ pend (Repeated e v composed j q cover le) = record {
    request = refl;
    asked = refl;
    right =
        (let f = kept.entries e j in
        let p = kept.pending r pend in
        let was : WasReply c s e.number e.moment h (Err v) = subst (WasReply c s e.number e.moment h) q f.was in
        KeptError (record {
          asked_here = p.here;
          is_kept_at_all = was.1;
          number = e.number;
          first = e.first;
          request = r;
          earlier = record { asked = (x.now, p.asked); below = f.below; first_asked = f.asked; covering = serves e.first r e.under f.cacheable f.covers cover };
          moment = e.moment;
          got = was.0;
          recent = subst (λ n. n ≤ e.moment + s.transport_failure_duration) kept.clock le;
        }));
    stores = λ e. absurd (cc);
    unstored = λ e q r ca o p l. absurd (cc);
  }
  at_once r _ pend (Nowhere composed none) = nowhere c s past w h x.asked x.now r ((kept.pending r pend).asked) none ((kept.pending r pend).here)
