-- Whether a stream place may be closed is what the definitions say.
use Rattle.std.proofs.Common.{◌≡◌, ℕ, zero, suc, ◌==◌, ◌&&◌, ◌||◌, ◌⊎◌, inl, inr, Bool, true, false, List, [], ◌∷◌, Option, Some, None, if◌then◌else◌, refl, sym, ap, ap₂, ◌∙◌, subst, arith}
use Rattle.std.proofs.lemmas.Bool.Decides.{nat_tests}
use Rattle.client_request.specs.declared.event.What.{What}
use Rattle.client_request.specs.declared.event.What.TheVariants.{Ask, Opened, OpenFailed, SendFailed, ShortSend, Datagram, RecvFailed, Wrote, WriteFailed, Bytes, ReadFailed, Ended, Tick}
use Rattle.right_trace.specs.Trace.{History, Conf}
use Rattle.right_trace.specs.Time.{now, newest, row_before}
use Rattle.right_trace.specs.{Messages.Octets, Places.is_told, Writes.is_unwritten}
use Rattle.right_trace.specs.Frames.{is_bad, has_bad, came, came_here}
use Rattle.right_trace.specs.Timers.{ReadTimerIsDue, IdleTimerIsDue}
use Rattle.right_trace.specs.Busy.{EndsBadly, ByFault, ByBadFrame, ByReadTimer, IdleAmidWriting}
use Rattle.right_trace.specs.Orderly.{MayCloseStream, StreamFault, BadFrame, ReadTimer, IdleTimer}
use Rattle.trace_tables.specs.declared.frames.frames.Brought.{Brought}
use Rattle.trace_tables.specs.frames.Frames.{frames_of}
use Rattle.trace_tables.specs.writes.Writing.{unwritten_seen}
use Rattle.trace_tables.proofs.lemmas.writes.Leaving as leaving
use Rattle.trace_points.proofs.lemmas.questions.Deciding.{both, all}
use Rattle.trace_points.proofs.lemmas.exchanges.Telling.{came_now}
use Rattle.trace_points.specs.due.Due.{read_due, TellsIdleTimer}
use Rattle.trace_points.proofs.lemmas.due.ReadTimers.{tells_read_timer}
use Rattle.trace_outs.specs.declared.reasons.point.Point.{Point}
use Rattle.trace_outs.specs.reasons.Point.{Known}
use Rattle.trace_outs.specs.reasons.Closing.{told_seen, bad_in, bad_at, stream_closes, TellsStreamClose, bad_end, TellsBadEnd}
use Rattle.trace_outs.proofs.lemmas.reasons.Telling.{either, first_true, second_true}

pub told_is : (p : ℕ) (w : What) → told_seen p w ≡ is_told p w
told_is p (SendFailed q f) = refl
told_is p (ShortSend q) = refl
told_is p (RecvFailed q f) = refl
told_is p (WriteFailed q f) = refl
told_is p (ReadFailed q f) = refl
told_is p (Ended q) = refl
told_is p (Wrote q zero) = refl
told_is p (Wrote q (suc n)) = ap (λ b. b && (q == p)) (some n)
  where
    some : (n : ℕ) → (suc n == 0) ≡ false
    some n = grind (arith, nat_tests)
told_is p (Ask r) = refl
told_is p (Opened q) = refl
told_is p (OpenFailed q f) = refl
told_is p (Datagram q o) = refl
told_is p (Bytes q o) = refl
told_is p Tick = refl

bad_is : (ms : List Octets) → bad_in ms ≡ has_bad ms
unfolding is_bad
bad_is [] = refl
bad_is (m ∷ ms) = ap (λ b. is_bad m || b) (bad_is ms)

bad_of : (p : ℕ) (o : Option Brought) → bad_at p o ≡ has_bad (frames_of p o)
bad_of p None = refl
bad_of p (Some b) = go (b.place == p)
  where
    go : (d : Bool) → (d && bad_in b.frames) ≡ has_bad (if d then b.frames else [])
    go true = bad_is b.frames
    go false = refl

module _ (c : Conf) (x h end : History) (t : Point) (known : Known c x h end t) (p : ℕ) where
  pub came_is : came_here p h ≡ came p t.row.now.event.what x
  came_is = came_now p h ∙ ap₂ (λ (w : What) (x : History). came p w x) known.event known.before

  pub bad_there : bad_at p t.here.now.frames.brought ≡ has_bad (came p t.row.now.event.what x)
  bad_there = bad_of p t.here.now.frames.brought ∙ ap has_bad (known.here.frames.here p ∙ came_is)

  read : (read_due c p t.here.now.books.requests.clock t.past.now t.past_timers.now ≡ true → ReadTimerIsDue c p (now h) x) × (ReadTimerIsDue c p (now h) x → read_due c p t.here.now.books.requests.clock t.past.now t.past_timers.now ≡ true)
  read = subst (λ (n : ℕ). (read_due c p t.here.now.books.requests.clock t.past.now t.past_timers.now ≡ true → ReadTimerIsDue c p n x) × (ReadTimerIsDue c p n x → read_due c p t.here.now.books.requests.clock t.past.now t.past_timers.now ≡ true)) known.here.books.requests.time
      (tells_read_timer c p t.here.now.books.requests.clock t.past.now t.past_timers.now (read_due c p t.here.now.books.requests.clock t.past.now t.past_timers.now) refl x known.past known.past_timers)

  stream_so : (idle : Bool) → TellsIdleTimer c p t.here.now t.timers.now idle → (stream_closes c p t || idle) ≡ true → MayCloseStream c p x t.row.now.event.what h
  stream_so idle tells e = go (either (stream_closes c p t) idle e)
    where
      bad : (bad_at p t.here.now.frames.brought ≡ true) ⊎ (read_due c p t.here.now.books.requests.clock t.past.now t.past_timers.now ≡ true) → MayCloseStream c p x t.row.now.event.what h
      bad (inl e) = BadFrame (sym bad_there ∙ e)
      bad (inr e) = ReadTimer (read.0 e)

      early : (told_seen p t.row.now.event.what ≡ true) ⊎ ((bad_at p t.here.now.frames.brought || read_due c p t.here.now.books.requests.clock t.past.now t.past_timers.now) ≡ true) → MayCloseStream c p x t.row.now.event.what h
      early (inl e) = StreamFault (sym (told_is p t.row.now.event.what) ∙ e)
      early (inr e) = bad (either (bad_at p t.here.now.frames.brought) _ e)

      go : (stream_closes c p t ≡ true) ⊎ (idle ≡ true) → MayCloseStream c p x t.row.now.event.what h
      go (inl e) = early (either (told_seen p t.row.now.event.what) _ e)
      go (inr e) = IdleTimer ((tells h known.here known.timers).0 e)

  so_stream : (idle : Bool) → TellsIdleTimer c p t.here.now t.timers.now idle → MayCloseStream c p x t.row.now.event.what h → (stream_closes c p t || idle) ≡ true
  so_stream idle tells (StreamFault e) = first_true (stream_closes c p t) idle (first_true (told_seen p t.row.now.event.what) _ (told_is p t.row.now.event.what ∙ e))
  so_stream idle tells (BadFrame e) = first_true (stream_closes c p t) idle (second_true (told_seen p t.row.now.event.what) _ (first_true (bad_at p t.here.now.frames.brought) _ (bad_there ∙ e)))
  so_stream idle tells (ReadTimer d) = first_true (stream_closes c p t) idle (second_true (told_seen p t.row.now.event.what) _ (second_true (bad_at p t.here.now.frames.brought) _ (read.1 d)))
  so_stream idle tells (IdleTimer d) = second_true (stream_closes c p t) idle ((tells h known.here known.timers).1 d)

pub tells_stream : (p : ℕ) (t : Point) (idle b : Bool) → TellsIdleTimer t.conf.now p t.here.now t.timers.now idle → b ≡ (stream_closes t.conf.now p t || idle) → TellsStreamClose p t b
tells_stream p t idle b tells e c x h end known = ((λ u. stream_so c x h end t known p idle told (sym is ∙ u)), (λ m. is ∙ so_stream c x h end t known p idle told m))
  where
    told : TellsIdleTimer c p t.here.now t.timers.now idle
    told = subst (λ (v : Conf). TellsIdleTimer v p t.here.now t.timers.now idle) known.conf tells

    is : b ≡ (stream_closes c p t || idle)
    is = e ∙ ap (λ (v : Conf). stream_closes v p t || idle) known.conf

-- connections that end badly

module _ (c : Conf) (x h end : History) (t : Point) (known : Known c x h end t) (p : ℕ) where
  was_unwritten : unwritten_seen p t.past_timers.now.writing ≡ is_unwritten p (row_before h)
  was_unwritten = leaving.goes_on.tells x t.past_timers.now.writing p known.past_timers.writes ∙ ap (is_unwritten p) (sym known.before)

  is_unwritten_here : unwritten_seen p t.timers.now.writing ≡ is_unwritten p h
  is_unwritten_here = leaving.goes_on.tells h t.timers.now.writing p known.timers.writes

  end_so : (idle : Bool) → TellsIdleTimer c p t.here.now t.timers.now idle → bad_end c p t idle ≡ true → EndsBadly c p h
  end_so idle tells e = go (either (stream_closes c p t) _ e)
    where
      bad : (bad_at p t.here.now.frames.brought ≡ true) ⊎ (read_due c p t.here.now.books.requests.clock t.past.now t.past_timers.now ≡ true) → EndsBadly c p h
      bad (inl e) = ByBadFrame (ap has_bad (came_is c x h end t known p) ∙ (sym (bad_there c x h end t known p) ∙ e))
      bad (inr e) = ByReadTimer (subst (ReadTimerIsDue c p (now h)) (sym known.before) ((read c x h end t known p).0 e))

      early : (told_seen p t.row.now.event.what ≡ true) ⊎ ((bad_at p t.here.now.frames.brought || read_due c p t.here.now.books.requests.clock t.past.now t.past_timers.now) ≡ true) → EndsBadly c p h
      early (inl e) = ByFault (ap (is_told p) known.event ∙ (sym (told_is p t.row.now.event.what) ∙ e))
      early (inr e) = bad (either (bad_at p t.here.now.frames.brought) _ e)

      amid : (unwritten_seen p t.past_timers.now.writing ≡ true) ⊎ (unwritten_seen p t.timers.now.writing ≡ true) → (is_unwritten p (row_before h) ≡ true) ⊎ (is_unwritten p h ≡ true)
      amid (inl e) = inl (sym was_unwritten ∙ e)
      amid (inr e) = inr (sym is_unwritten_here ∙ e)

      go : (stream_closes c p t ≡ true) ⊎ ((idle && (unwritten_seen p t.past_timers.now.writing || unwritten_seen p t.timers.now.writing)) ≡ true) → EndsBadly c p h
      go (inl e) = early (either (told_seen p t.row.now.event.what) _ e)
      go (inr e) =
          let q = both idle _ e in
          IdleAmidWriting ((tells h known.here known.timers).0 q.0) (amid (either (unwritten_seen p t.past_timers.now.writing) _ q.1))

  so_end : (idle : Bool) → TellsIdleTimer c p t.here.now t.timers.now idle → EndsBadly c p h → bad_end c p t idle ≡ true
  so_end idle tells (ByFault e) = first_true (stream_closes c p t) _ (first_true (told_seen p t.row.now.event.what) _ (told_is p t.row.now.event.what ∙ (ap (is_told p) (sym known.event) ∙ e)))
  so_end idle tells (ByBadFrame e) = first_true (stream_closes c p t) _ (second_true (told_seen p t.row.now.event.what) _ (first_true (bad_at p t.here.now.frames.brought) _ (bad_there c x h end t known p ∙ (ap has_bad (sym (came_is c x h end t known p)) ∙ e))))
  so_end idle tells (ByReadTimer d) = first_true (stream_closes c p t) _ (second_true (told_seen p t.row.now.event.what) _ (second_true (bad_at p t.here.now.frames.brought) _ ((read c x h end t known p).1 (subst (ReadTimerIsDue c p (now h)) known.before d))))
  so_end idle tells (IdleAmidWriting d (inl e)) = second_true (stream_closes c p t) _ (all idle _ ((tells h known.here known.timers).1 d) (first_true (unwritten_seen p t.past_timers.now.writing) _ (was_unwritten ∙ e)))
  so_end idle tells (IdleAmidWriting d (inr e)) = second_true (stream_closes c p t) _ (all idle _ ((tells h known.here known.timers).1 d) (second_true (unwritten_seen p t.past_timers.now.writing) _ (is_unwritten_here ∙ e)))

pub tells_end : (p : ℕ) (t : Point) (idle b : Bool) → TellsIdleTimer t.conf.now p t.here.now t.timers.now idle → b ≡ bad_end t.conf.now p t idle → TellsBadEnd p t b
tells_end p t idle b tells e c x h end known = ((λ u. end_so c x h end t known p idle told (sym is ∙ u)), (λ m. is ∙ so_end c x h end t known p idle told m))
  where
    told : TellsIdleTimer c p t.here.now t.timers.now idle
    told = subst (λ (v : Conf). TellsIdleTimer v p t.here.now t.timers.now idle) known.conf tells

    is : b ≡ bad_end c p t idle
    is = e ∙ ap (λ (v : Conf). bad_end v p t idle) known.conf
