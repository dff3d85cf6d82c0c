-- What is found of a server's error is its cause, as the definitions say it.
use Rattle.std.proofs.Common.{◌≡◌, ℕ, Bool, true, false, List, Option, Some, sym, ◌∙◌, subst}
use Rattle.client_request.specs.declared.error.Error.{Error}
use Rattle.client_request.specs.declared.error.Error.TheVariants as errors
use Rattle.client_request.specs.declared.error.QueryError.TheVariants as query
use Rattle.client_request.specs.declared.event.What.{What}
use Rattle.right_trace.specs.Trace.{History, Conf}
use Rattle.right_trace.specs.Time.{now, newest}
use Rattle.right_trace.specs.Messages.{base_is_read, passes_count}
use Rattle.right_trace.specs.Causes.{FailedToOpen, TriesAreUp, CannotBeComposed, CameWrong, StreamIsSilent, ServerCause, NotOpened, NotSent, SentShort, NotReceived, NoAnswer, WrongReply, StreamSilence, NotRead, NotComposed}
use Rattle.trace_tables.specs.declared.books.Books.{Books}
use Rattle.trace_tables.specs.Books as books
use Rattle.trace_points.specs.questions.Outs.{Tells}
use Rattle.trace_points.proofs.lemmas.questions.Failing.{opening_decides}
use Rattle.trace_points.specs.declared.exchanges.coming.Coming.{Coming}
use Rattle.trace_points.specs.exchanges.Coming.{is_wanted, AllComing}
use Rattle.trace_points.specs.causes.Failing.{Fails, InSending, InPart, InReceiving, TellsFailure}
use Rattle.trace_points.proofs.lemmas.causes.Blaming.{tells_wrong}
use Rattle.trace_errors.specs.promptness.Heard.{Heards}
use Rattle.trace_errors.specs.promptness.Heard as heards
use Rattle.trace_errors.proofs.lemmas.promptness.Delaying.{tells_tries, tells_silence}
use Rattle.trace_errors.specs.Failures.{TellsFails, AnswersFor, TellsServer}

pub tells_same : {P Q : Type 0} (b : Bool) → (P → Q) → (Q → P) → Tells P b → Tells Q b
tells_same b f g t = ((λ e. f (t.0 e)), (λ q. t.1 (g q)))

tells_never : (b : Bool) → b ≡ false → Tells ⊥ b
tells_never b e = ((λ u. (let z : true ≡ false = sym u ∙ e in cc)), (λ n. absurd n))

-- the cause of each error
abbrev pub CauseOf : (c : Conf) (k : ℕ) (x : History) (w : What) (h : History) → Error → Type 0
CauseOf c k x w h (errors.Dgram (query.Connect f)) = FailedToOpen k f x w h
CauseOf c k x w h (errors.Dgram (query.Send f)) = Fails c k x w (errors.Dgram (query.Send f))
CauseOf c k x w h (errors.Dgram (query.Receive f)) = Fails c k x w (errors.Dgram (query.Receive f))
CauseOf c k x w h (errors.Dgram query.Timeout) = TriesAreUp c k (now h) x h
CauseOf c k x w h errors.WrongReplyForQuery = CameWrong c k x w h
CauseOf c k x w h errors.StreamReadTimeout = StreamIsSilent c k (now h) x
CauseOf c k x w h errors.MessageParseError = CannotBeComposed base_is_read false k h
CauseOf c k x w h errors.MessageBuilderPushError = CannotBeComposed passes_count true k h
CauseOf c k x w h _ = ⊥

module _ (c : Conf) (k : ℕ) (x : History) (w : What) (h : History) where
  pub cause_of : (e : Error) → ServerCause c k x w h e → CauseOf c k x w h e
  cause_of _ (NotOpened f d) = d
  cause_of _ (NotSent f d) = InSending f d
  cause_of _ (SentShort d) = InPart d
  cause_of _ (NotReceived f d) = InReceiving f d
  cause_of _ (NoAnswer d) = d
  cause_of _ (WrongReply d) = d
  cause_of _ (StreamSilence d) = d
  cause_of _ (NotRead d) = d
  cause_of _ (NotComposed d) = d

  of_failing : (e : Error) → Fails c k x w e → ServerCause c k x w h e
  of_failing _ (InSending f d) = NotSent f d
  of_failing _ (InPart d) = SentShort d
  of_failing _ (InReceiving f d) = NotReceived f d

  pub of_cause : (e : Error) → CauseOf c k x w h e → ServerCause c k x w h e
  of_cause (errors.Dgram (query.Connect f)) d = NotOpened f d
  of_cause (errors.Dgram (query.Send f)) d = of_failing (errors.Dgram (query.Send f)) d
  of_cause (errors.Dgram (query.Receive f)) d = of_failing (errors.Dgram (query.Receive f)) d
  of_cause (errors.Dgram query.Timeout) d = NoAnswer d
  of_cause errors.WrongReplyForQuery d = WrongReply d
  of_cause errors.StreamReadTimeout d = StreamSilence d
  of_cause errors.MessageParseError d = NotRead d
  of_cause errors.MessageBuilderPushError d = NotComposed d
  of_cause errors.ConnectionClosed d = absurd d
  of_cause errors.OptTooLong d = absurd d
  of_cause errors.RedundantTransportNotFound d = absurd d
  of_cause errors.FormError d = absurd d
  of_cause errors.ShortMessage d = absurd d
  of_cause errors.StreamLongMessage d = absurd d
  of_cause errors.StreamIdleTimeout d = absurd d
  of_cause errors.StreamReceiveError d = absurd d
  of_cause (errors.StreamReadError f) d = absurd d
  of_cause errors.StreamTooManyOutstandingQueries d = absurd d
  of_cause (errors.StreamWriteError f) d = absurd d
  of_cause errors.StreamUnexpectedEndOfData d = absurd d
  of_cause errors.NoTransportAvailable d = absurd d
  of_cause errors.NoMemory d = absurd d
  of_cause errors.NumbersUsed d = absurd d
  of_cause errors.TimedOut d = absurd d
  of_cause errors.AlreadyDone d = absurd d
  of_cause errors.Failed d = absurd d

-- an error of sending or receiving
pub tells_failed : (conf : Conf) (past : Books) (k : ℕ) (w : What) (e : Error) (o : Option Error) (b : Bool) → TellsFailure conf past k w o → Tells (o ≡ Some e) b → TellsFails conf past k w e b
tells_failed conf past k w e o b f t x kx = tells_same b (f x kx e).0 (f x kx e).1 t

module _ (past here : Books) (heard : Heards) (w : What) (xs : List Coming) (k : ℕ) (c : Conf) (want : Option ℕ) (x h : History) (kx : books.Known x past) (kd : heards.Known c x heard) (kh : books.Known h here) (is : newest h ≡ w) (wanted : is_wanted want k ≡ true) (cs : AllComing c want x h xs) where
  tries : (b : Bool) → Tells (TriesAreUp c k here.requests.clock x h) b → Tells (TriesAreUp c k (now h) x h) b
  tries b t = subst (λ n. Tells (TriesAreUp c k n x h) b) kh.requests.time t

  silence : (b : Bool) → Tells (StreamIsSilent c k here.requests.clock x) b → Tells (StreamIsSilent c k (now h) x) b
  silence b t = subst (λ n. Tells (StreamIsSilent c k n x) b) kh.requests.time t

  wrong : (b : Bool) → Tells (CameWrong c k x (newest h) h) b → Tells (CameWrong c k x w h) b
  wrong b t = subst (λ w. Tells (CameWrong c k x w h) b) is t

  answered : (e : Error) (b : Bool) → AnswersFor c past heard here w xs k e b → Tells (CauseOf c k x w h e) b
  answered (errors.Dgram (query.Connect f)) b t = (let d = opening_decides x h past.places here.places here.requests w k f kx.places kh.places kh.requests in tells_same b d.0 d.1 t)
  answered (errors.Dgram (query.Send f)) b t = t x kx
  answered (errors.Dgram (query.Receive f)) b t = t x kx
  answered (errors.Dgram query.Timeout) b t = tries b (tells_tries c k here.requests.clock past here b t x h kx kh)
  answered errors.WrongReplyForQuery b t = wrong b (tells_wrong want k xs b t c x h wanted cs)
  answered errors.StreamReadTimeout b t = silence b (tells_silence c k here.requests.clock past heard b t x kx kd)
  answered errors.MessageParseError b t = t h kh
  answered errors.MessageBuilderPushError b t = t h kh
  answered errors.ConnectionClosed b t = tells_never b t
  answered errors.OptTooLong b t = tells_never b t
  answered errors.RedundantTransportNotFound b t = tells_never b t
  answered errors.FormError b t = tells_never b t
  answered errors.ShortMessage b t = tells_never b t
  answered errors.StreamLongMessage b t = tells_never b t
  answered errors.StreamIdleTimeout b t = tells_never b t
  answered errors.StreamReceiveError b t = tells_never b t
  answered (errors.StreamReadError f) b t = tells_never b t
  answered errors.StreamTooManyOutstandingQueries b t = tells_never b t
  answered (errors.StreamWriteError f) b t = tells_never b t
  answered errors.StreamUnexpectedEndOfData b t = tells_never b t
  answered errors.NoTransportAvailable b t = tells_never b t
  answered errors.NoMemory b t = tells_never b t
  answered errors.NumbersUsed b t = tells_never b t
  answered errors.TimedOut b t = tells_never b t
  answered errors.AlreadyDone b t = tells_never b t
  answered errors.Failed b t = tells_never b t

pub tells_server : (conf : Conf) (past : Books) (heard : Heards) (here : Books) (w : What) (xs : List Coming) (k : ℕ) (e : Error) (b : Bool) → AnswersFor conf past heard here w xs k e b → TellsServer conf past heard here w xs k e b
tells_server conf past heard here w xs k e b t want x h kx kd kh is wanted cs =
    tells_same b (of_cause conf k x w h e) (cause_of conf k x w h e) (answered past here heard w xs k conf want x h kx kd kh is wanted cs e b t)
