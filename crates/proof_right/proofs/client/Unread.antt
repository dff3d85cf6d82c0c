-- What became an error for want of a validity fails; or it came so, and does not.
use Rattle.proof_right.proofs.PartLaws.{PostRight}
use Rattle.std.proofs.Common.{◌≡◌, ℕ, Bool, true, false, ◌⊎◌, inl, inr, Option, Some, None, List, [], ◌∷◌, refl, arith, sym, ◌∙◌, subst, ◌==◌, ◌&&◌, ◌||◌}
use Rattle.std.specs.Prelude.{Result, Ok, Err, not}
use Rattle.std.proofs.lemmas.Bool.Decides.{nat_tests}
use Rattle.client_request.specs.Request.{Request}
use Rattle.client_request.specs.declared.error.Error.{Error}
use Rattle.client_request.specs.declared.event.What.{What}
use Rattle.client_request.specs.declared.event.Out.{Out}
use Rattle.dns_base.specs.OptRecord.{opt_rcode}
use Rattle.right_trace.specs.Trace.{History, Conf, Came, Put, put_all}
use Rattle.right_trace.specs.Time.{row_before, newest, EarlierRow, OfRow}
use Rattle.right_trace.specs.Messages.{Octets, base_is_read}
use Rattle.right_trace.specs.Requests.{Asking, asking}
use Rattle.right_trace.specs.Settings.{Settings}
use Rattle.right_trace.specs.Keys.{is_cacheable}
use Rattle.right_trace.specs.Validity.{validity_of_message, is_deferred, waits_for_others}
use Rattle.right_trace.specs.Views.{is_failing_message}
use Rattle.right_trace.specs.Coming.{CameFor}
use Rattle.right_trace.specs.Causes.{ServerCause, NotOpened, NotSent, SentShort, NotReceived, NoAnswer, WrongReply, StreamSilence, NotRead, NotComposed}
use Rattle.right_trace.specs.Errors.{is_failing, HereOrEarlier, Here, Earlier}
use Rattle.right_trace.specs.StaleServed.{CameUnread}
use Rattle.proof_right.specs.machine.Client.{Leaving, outcome_of, IsOutcome, Caches, Passes}
use Rattle.proof_right.proofs.client.Among.{same_ask}
use Rattle.proof_right.proofs.client.Later.{comes_all}
use Rattle.proof_right.proofs.client.Lists.{decide}
use Rattle.proof_right.proofs.client.Serving.{clash}
use Rattle.right_trace.proofs.Asked.{asking_came}
use Rattle.client_request.specs.declared.error.Error.TheVariants as errors

-- what is deferred fails
pub deferred_fails : (s : Settings) (m : Octets) → is_deferred s m ≡ true → is_failing_message m ≡ true
unfolding is_deferred
deferred_fails s m e = go s.defers_refused s.defers_servfail (opt_rcode m) e
  where
    go : (a b : Bool) (n : ℕ) → ((a && (n == 5)) || (b && (n == 2))) ≡ true → not ((n == 0) || (n == 3)) ≡ true
    go a b n e = grind (arith, nat_tests)

-- a result was given, in this row; or it was kept back, in this row or before
abbrev pub Came_so : (c : Conf) (s : Settings) (k : ℕ) → Result Octets Error → (past : History) (w : What) (h : History) → Type 0
Came_so c s k v past w h = PostRight c k v past w h ⊎ ((waits_for_others s v ≡ true) × HereOrEarlier true (PostRight c k v) past w h)

pub unread_all : (c : Conf) (s : Settings) (k : ℕ) (past : History) (w : What) (xs : List Out) (h : History) → CameUnread c s k past w h → CameUnread c s k past w (put_all xs h)
unread_all c s k past w xs h u = (let x = u.2 in (u.0, u.1, record { request = x.request; via = x.via; server = x.server; place = x.place; id = x.id; cacheable = x.cacheable; matches = record { comes = comes_all c x.request x.via x.server x.place k x.id (u.0) past w xs h x.matches.comes; agrees = x.matches.agrees; whole = x.matches.whole }; none = x.none }))

base_read : (r : Request) → is_cacheable r ≡ true → base_is_read r ≡ true
unfolding is_cacheable
base_read r e = left (base_is_read r) _ e
  where
    left : (a b : Bool) → (a && b) ≡ true → a ≡ true
    left true b e = refl
    left false b e = absurd (cc)

-- a request whose base is read gets no such error by a server
not_by_server : (c : Conf) (k : ℕ) (past : History) (w : What) (h : History) (e : Error) → e ≡ errors.MessageParseError → ((a : Asking) → asking k h ≡ Some a → base_is_read a.request ≡ true) → ServerCause c k past w h e → ⊥
not_by_server c k past w h _ q sound (NotOpened f x) = absurd (cc)
not_by_server c k past w h _ q sound (NotSent f x) = absurd (cc)
not_by_server c k past w h _ q sound (SentShort x) = absurd (cc)
not_by_server c k past w h _ q sound (NotReceived f x) = absurd (cc)
not_by_server c k past w h _ q sound (NoAnswer x) = absurd (cc)
not_by_server c k past w h _ q sound (WrongReply x) = absurd (cc)
not_by_server c k past w h _ q sound (StreamSilence x) = absurd (cc)
not_by_server c k past w h _ q sound (NotRead x) = clash (base_is_read x.asking_of.request) (sound x.asking_of x.asked) x.reason
not_by_server c k past w h _ q sound (NotComposed x) = absurd (cc)

never_by_server : (c : Conf) (k : ℕ) (e : Error) (h : History) → e ≡ errors.MessageParseError → ((a : Asking) → asking k h ≡ Some a → base_is_read a.request ≡ true) → EarlierRow (OfRow (PostRight c k (Err e))) h → ⊥
never_by_server c k e [] q sound x = x
never_by_server c k e (Came v ∷ h) q sound (inl x) = not_by_server c k (row_before h) (newest h) h e q (λ a is. sound a (asking_came k a v h is)) x.0
never_by_server c k e (Came v ∷ h) q sound (inr x) = never_by_server c k e h q (λ a is. sound a (asking_came k a v h is)) x
never_by_server c k e (Put o ∷ h) q sound x = never_by_server c k e h q sound x

module _ (c : Conf) (s : Settings) (k u : ℕ) (r : Request) (past : History) (w : What) (h : History) (asked : asking k h ≡ Some (record { request = r; moment = u })) (ca : is_cacheable r ≡ true) (known : (a : Asking) → asking k past ≡ Some a → asking k h ≡ Some a) where
  sound : (a : Asking) → asking k h ≡ Some a → base_is_read a.request ≡ true
  sound a e = (let same : r ≡ a.request = same_ask r a.request u a.moment (sym asked ∙ e) in subst (λ q. base_is_read q ≡ true) same (base_read r ca))

  came_unread : (m : Octets) → is_failing_message m ≡ false → validity_of_message s m ≡ None → CameFor c k m past w h → CameUnread c s k past w h
  came_unread m calm none x =
      let a = x.matches.comes.is_open.stands.asked in
      let same : r ≡ x.request = same_ask r x.request u (a.0) (sym asked ∙ known (record { request = x.request; moment = a.0 }) a.1) in
      (m, calm, record { request = x.request; via = x.via; server = x.server; place = x.place; id = x.id; cacheable = subst (λ q. is_cacheable q ≡ true) same ca; matches = x.matches; none = none })

  -- What becomes an error so fails, or came without a validity and does not.
  pub unread_of : (n : ℕ) (q : Request) (v : Result Octets Error) (l : Leaving) → IsOutcome s n q v l → q ≡ r → Came_so c s k v past w h → l.result ≡ Err errors.MessageParseError → (is_failing l.given ≡ true) ⊎ CameUnread c s k past w h
  unread_of n q v _ (Passes m is none) same came err = absurd (let z : Path (Result Octets Error) (Ok m) (Err errors.MessageParseError) = sym is ∙ err in cc)
  unread_of n q (Err e) _ Caches same came err = absurd (go (is_cacheable q) err)
    where
      by : e ≡ errors.MessageParseError → ⊥
      by is = elim came [ inl x ↦ not_by_server c k past w h e is sound x.0 | inr x ↦ kept_back x.1 ]
        where
          kept_back : HereOrEarlier true (PostRight c k (Err e)) past w h → ⊥
          kept_back (Here x) = not_by_server c k past w h e is sound x.0
          kept_back (Earlier d x) = never_by_server c k e h is sound x

      go : (b : Bool) → (outcome_of b (Some s.transport_failure_duration) n q (Err e)).result ≡ Err errors.MessageParseError → ⊥
      go false z = by (cc)
      go true z = by (cc)
  unread_of n q (Ok m) _ Caches same came err = go (is_cacheable q) (validity_of_message s m) refl err
    where
      here : is_failing_message m ≡ false → validity_of_message s m ≡ None → CameUnread c s k past w h
      here calm none = elim came [ inl x ↦ came_unread m calm none x | inr x ↦ kept_back x.0 x.1 ]
        where
          kept_back : is_deferred s m ≡ true → HereOrEarlier true (PostRight c k (Ok m)) past w h → CameUnread c s k past w h
          kept_back d x = absurd (clash (is_failing_message m) (deferred_fails s m d) calm)

      go : (b : Bool) (v : Option ℕ) → validity_of_message s m ≡ v → (outcome_of b v n q (Ok m)).result ≡ Err errors.MessageParseError → (is_failing (outcome_of b v n q (Ok m)).given ≡ true) ⊎ CameUnread c s k past w h
      go false v e z = absurd (cc)
      go true (Some n) e z = absurd (cc)
      go true None e z = elim (decide (is_failing_message m)) [ inl bad ↦ inl bad | inr calm ↦ inr (here calm e) ]
