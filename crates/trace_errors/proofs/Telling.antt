-- What is found of errors in rows that are done is what the definitions say, and it goes on over rows.
use Rattle.std.proofs.Common.{◌≡◌, ℕ, ◌+◌, ◌<◌, ◌≤◌, ◌⊎◌, inl, inr, Bool, true, false, [], ◌∷◌, Some, None, refl, sym, ◌∙◌, subst, arith}
use Rattle.std.proofs.lemmas.Bool.{ltb-true}
use Rattle.client_request.specs.declared.error.Error.{Error}
use Rattle.client_request.specs.declared.error.Error.TheVariants as errors
use Rattle.client_request.specs.declared.error.QueryError.TheVariants as query
use Rattle.client_request.specs.Request.{Request}
use Rattle.client_request.specs.declared.event.Via.TheVariants.{Stream}
use Rattle.right_trace.specs.Trace.{History, Conf, Came, Put}
use Rattle.right_trace.specs.Time.{now, newest, row_before, read_timeout, stream_timeout, EarlierRow}
use Rattle.right_trace.specs.Settings.{Settings}
use Rattle.right_trace.specs.Messages.{base_is_read, passes_count}
use Rattle.right_trace.specs.Causes.{CannotBeComposed, TriesAreUp, StreamIsSilent, Heard}
use Rattle.right_trace.proofs.Asked.{asking_came}
use Rattle.trace_tables.specs.declared.books.Books.{Books}
use Rattle.trace_tables.specs.Books as books
use Rattle.trace_points.specs.questions.Outs.{Tells}
use Rattle.trace_errors.specs.promptness.Heard.{Heards}
use Rattle.trace_errors.specs.promptness.Heard as heards
use Rattle.trace_errors.specs.promptness.Overdue.{tries_are_up, stream_is_silent}
use Rattle.trace_errors.proofs.lemmas.promptness.Delaying.{tells_tries, tells_silence}
use Rattle.trace_errors.proofs.Caused.{CauseOf, tells_same, cause_of, of_cause}
use Rattle.trace_errors.specs.declared.earlier.Earlier.{Earlier}
use Rattle.trace_errors.specs.Rows.{ByRow, IsCaused, WasCaused}
use Rattle.trace_errors.specs.Noted.{IsNoted}
use Rattle.trace_errors.specs.Earlier.{IsLost, IsSilent, AnswersFor, TellsEarlier, Known, GoesOn}
use Rattle.trace_errors.proofs.Rows.{by_row, so_earlier}
use Rattle.trace_errors.proofs.Lasting.{begun_before, lived}
use Rattle.trace_errors.proofs.Opened as opening
use Rattle.trace_errors.proofs.Noting as noting
use Rattle.trace_errors.proofs.Arriving as arriving

-- what can't be composed once can't be composed later
module _ (is_so : Request → Bool) (value : Bool) (k : ℕ) where
  composed_later : (x : History) → EarlierRow (CannotBeComposed is_so value k) x → CannotBeComposed is_so value k x
  composed_later [] n = absurd n
  composed_later (Came e ∷ x) (inl d) = record { asking_of = d.asking_of; asked = asking_came k d.asking_of e x d.asked; reason = d.reason }
  composed_later (Came e ∷ x) (inr r) = (let d = composed_later x r in record { asking_of = d.asking_of; asked = asking_came k d.asking_of e x d.asked; reason = d.reason })
  composed_later (Put o ∷ x) r = (let d = composed_later x r in record { asking_of = d.asking_of; asked = d.asked; reason = d.reason })

  by_now : (x : History) → ByRow (CannotBeComposed is_so value k) x → CannotBeComposed is_so value k x
  by_now x (inl d) = d
  by_now x (inr r) = composed_later x r

-- an error that no server gives
module _ (c : Conf) (k : ℕ) (e : Error) (f : (g : History) → CauseOf c k (row_before g) (newest g) g e → ⊥) where
  never_earlier : (h : History) → EarlierRow (IsCaused c k e) h → ⊥
  never_earlier [] n = n
  never_earlier (Came d ∷ h) (inl p) = f h (cause_of c k (row_before h) (newest h) h e p)
  never_earlier (Came d ∷ h) (inr r) = never_earlier h r
  never_earlier (Put o ∷ h) r = never_earlier h r

  never : (x : History) → WasCaused c k e x → ⊥
  never x (inl p) = f x (cause_of c k (row_before x) (newest x) x e p)
  never x (inr r) = never_earlier x r

tells_never : {P : Type 0} (a : Bool) → a ≡ false → (P → ⊥) → Tells P a
tells_never a e f = ((λ u. (let z : true ≡ false = sym u ∙ e in cc)), (λ p. absurd (f p)))

unheard_first : (c : Conf) (k s : ℕ) → Heard c k s [] → ⊥
unheard_first c k s h = (let e : None ≡ Some h.message = h.comes.first in cc)

-- answers are waited for some time
reads_on : (c : Conf) → 999 < read_timeout c
unfolding read_timeout
reads_on c = ltb-true 999 c.transports.dgram_read_timeout c.transports.reads

waits_on : (c : Conf) → 999 < stream_timeout c
unfolding stream_timeout
waits_on c = ltb-true 999 c.transports.multi_stream_response_timeout c.transports.waits

is_before : (moment time n : ℕ) → 999 < time → moment + time ≤ n → moment < n
is_before moment time n lt le = omega arith

module _ (c : Conf) (s : Settings) (b : Books) (heard : Heards) (t : Earlier) (k : ℕ) (x : History) (kb : books.Known x b) (kd : heards.Known c x heard) (kt : Known c s x t) where
  caused : (e : Error) → CauseOf c k (row_before x) (newest x) x e → WasCaused c k e x
  caused e d = inl (of_cause c k (row_before x) (newest x) x e d)

  tries_so : tries_are_up c k b.requests.clock b.places b ≡ true → WasCaused c k (errors.Dgram query.Timeout) x
  tries_so e =
      let d : TriesAreUp c k (now x) x x = subst (λ n. TriesAreUp c k n x x) kb.requests.time ((tells_tries c k b.requests.clock b b (tries_are_up c k b.requests.clock b.places b) refl x x kb kb).0 e) in
      caused (errors.Dgram query.Timeout) (record { server = d.server; all = d.all; last = d.last; is_last = d.is_last; old = d.old; lived = lived k d.server d.last x d.is_last (is_before d.last.moment (read_timeout c) (now x) (reads_on c) d.old) d.lived })

  so_tries : TriesAreUp c k (now x) x x → tries_are_up c k b.requests.clock b.places b ≡ true
  so_tries d = (tells_tries c k b.requests.clock b b (tries_are_up c k b.requests.clock b.places b) refl x x kb kb).1 (subst (λ n. TriesAreUp c k n x x) (sym kb.requests.time) d)

  silence_so : stream_is_silent c k b.requests.clock b.requests heard ≡ true → WasCaused c k errors.StreamReadTimeout x
  silence_so e =
      let d : StreamIsSilent c k (now x) x = subst (λ n. StreamIsSilent c k n x) kb.requests.time ((tells_silence c k b.requests.clock b heard (stream_is_silent c k b.requests.clock b.requests heard) refl x kb kd).0 e) in
      caused errors.StreamReadTimeout (record {
        server = d.server;
        begun = d.begun;
        is_begun = begun_before k d.server d.begun Stream x d.is_begun (is_before d.begun (stream_timeout c) (now x) (waits_on c) d.passed);
        passed = d.passed;
        silent = λ w. d.silent (inr (so_earlier (Heard c k d.server) (unheard_first c k d.server) x w));
      })

  so_silence : StreamIsSilent c k (now x) x → stream_is_silent c k b.requests.clock b.requests heard ≡ true
  so_silence d = (tells_silence c k b.requests.clock b heard (stream_is_silent c k b.requests.clock b.requests heard) refl x kb kd).1 (subst (λ n. StreamIsSilent c k n x) (sym kb.requests.time) d)

  lost_so : IsLost c k t.noted b → WasCaused c k (errors.Dgram query.Timeout) x
  lost_so (inl i) = kt.noted.so k (errors.Dgram query.Timeout) i
  lost_so (inr e) = tries_so e

  so_lost : WasCaused c k (errors.Dgram query.Timeout) x → IsLost c k t.noted b
  so_lost w = go (kt.noted.tries k w)
    where
      go : IsNoted k (errors.Dgram query.Timeout) t.noted ⊎ TriesAreUp c k (now x) x x → IsLost c k t.noted b
      go (inl i) = inl i
      go (inr d) = inr (so_tries d)

  silent_so : IsSilent c k t.noted b heard → WasCaused c k errors.StreamReadTimeout x
  silent_so (inl i) = kt.noted.so k errors.StreamReadTimeout i
  silent_so (inr e) = silence_so e

  so_silent : WasCaused c k errors.StreamReadTimeout x → IsSilent c k t.noted b heard
  so_silent w = go (kt.noted.silence k w)
    where
      go : IsNoted k errors.StreamReadTimeout t.noted ⊎ StreamIsSilent c k (now x) x → IsSilent c k t.noted b heard
      go (inl i) = inl i
      go (inr d) = inr (so_silence d)

  unread_so : WasCaused c k errors.MessageParseError x → CannotBeComposed base_is_read false k x
  unread_so w = by_now base_is_read false k x (by_row (λ g d. cause_of c k (row_before g) (newest g) g errors.MessageParseError d) x w)

  many_so : WasCaused c k errors.MessageBuilderPushError x → CannotBeComposed passes_count true k x
  many_so w = by_now passes_count true k x (by_row (λ g d. cause_of c k (row_before g) (newest g) g errors.MessageBuilderPushError d) x w)

  nobody : (e : Error) → ((g : History) → CauseOf c k (row_before g) (newest g) g e → ⊥) → (a : Bool) → a ≡ false → Tells (WasCaused c k e x) a
  nobody e f a q = tells_never a q (never c k e f x)

  answered : (e : Error) (a : Bool) → AnswersFor c b heard t k e a → Tells (WasCaused c k e x) a
  answered (errors.Dgram (query.Connect f)) a q = tells_same a (kt.openings.so k f) (kt.openings.back k f) q
  answered (errors.Dgram (query.Send f)) a q = tells_same a (kt.noted.so k (errors.Dgram (query.Send f))) (kt.noted.sending k f) q
  answered (errors.Dgram (query.Receive f)) a q = tells_same a (kt.noted.so k (errors.Dgram (query.Receive f))) (kt.noted.receiving k f) q
  answered (errors.Dgram query.Timeout) a q = tells_same a lost_so so_lost q
  answered errors.WrongReplyForQuery a q = tells_same a (kt.noted.so k errors.WrongReplyForQuery) (kt.noted.wrong k) q
  answered errors.StreamReadTimeout a q = tells_same a silent_so so_silent q
  answered errors.MessageParseError a q = tells_same a (caused errors.MessageParseError) unread_so (q x kb)
  answered errors.MessageBuilderPushError a q = tells_same a (caused errors.MessageBuilderPushError) many_so (q x kb)
  answered errors.ConnectionClosed a q = nobody errors.ConnectionClosed (λ g d. d) a q
  answered errors.OptTooLong a q = nobody errors.OptTooLong (λ g d. d) a q
  answered errors.RedundantTransportNotFound a q = nobody errors.RedundantTransportNotFound (λ g d. d) a q
  answered errors.FormError a q = nobody errors.FormError (λ g d. d) a q
  answered errors.ShortMessage a q = nobody errors.ShortMessage (λ g d. d) a q
  answered errors.StreamLongMessage a q = nobody errors.StreamLongMessage (λ g d. d) a q
  answered errors.StreamIdleTimeout a q = nobody errors.StreamIdleTimeout (λ g d. d) a q
  answered errors.StreamReceiveError a q = nobody errors.StreamReceiveError (λ g d. d) a q
  answered (errors.StreamReadError f) a q = nobody (errors.StreamReadError f) (λ g d. d) a q
  answered errors.StreamTooManyOutstandingQueries a q = nobody errors.StreamTooManyOutstandingQueries (λ g d. d) a q
  answered (errors.StreamWriteError f) a q = nobody (errors.StreamWriteError f) (λ g d. d) a q
  answered errors.StreamUnexpectedEndOfData a q = nobody errors.StreamUnexpectedEndOfData (λ g d. d) a q
  answered errors.NoTransportAvailable a q = nobody errors.NoTransportAvailable (λ g d. d) a q
  answered errors.NoMemory a q = nobody errors.NoMemory (λ g d. d) a q
  answered errors.NumbersUsed a q = nobody errors.NumbersUsed (λ g d. d) a q
  answered errors.TimedOut a q = nobody errors.TimedOut (λ g d. d) a q
  answered errors.AlreadyDone a q = nobody errors.AlreadyDone (λ g d. d) a q
  answered errors.Failed a q = nobody errors.Failed (λ g d. d) a q

pub tells_earlier : (conf : Conf) (b : Books) (heard : Heards) (t : Earlier) (k : ℕ) (e : Error) (a : Bool) → AnswersFor conf b heard t k e a → TellsEarlier conf b heard t k e a
tells_earlier conf b heard t k e a q s x kb kd kt = answered conf s b heard t k x kb kd kt e a q

pub goes_on : GoesOn
goes_on = record {
  begins = λ c s. record { openings = opening.goes_on.begins c; noted = noting.goes_on.begins c; arrivals = arriving.goes_on.begins c s };
  row = λ c s past row l l' t heard heard' o xs e right kl kl' kt kd kd' ko cs ke. record {
    openings = opening.goes_on.row c past row l.books l'.books e.openings kl.books kl'.books ke.openings;
    noted = noting.goes_on.row c s past row l.books l'.books heard heard' xs e.noted right kl.books kl'.books kd kd' cs ke.noted;
    arrivals = arriving.goes_on.row c s past row l l' t o xs e.arrivals kl kl' kt ko cs ke.arrivals;
  };
}
