-- Whether a result for which an expired message may stand has its cause.
use Rattle.std.proofs.Common.{◌≡◌, ℕ, ◌⊎◌, inl, inr, ◌||◌, Bool, true, List, Some, Result, Ok, Err, refl, sym, subst}
use Rattle.client_request.specs.declared.error.Error.{Error}
use Rattle.client_request.specs.declared.error.Error.TheVariants as errors
use Rattle.client_request.specs.declared.error.QueryError.TheVariants as query
use Rattle.client_request.specs.declared.fault.Fault.{Fault}
use Rattle.client_request.specs.declared.fault.Fault.TheVariants as fault
use Rattle.right_trace.specs.{Trace.History, Time.newest, Messages.Octets, Owed.AllAreDone, Settings.Settings}
use Rattle.right_trace.specs.Errors.{is_failing, is_failure, FailsSo}
use Rattle.trace_points.specs.declared.exchanges.coming.Coming.{Coming}
use Rattle.trace_points.specs.exchanges.Coming.{AllComing, TellsComing}
use Rattle.trace_replies.specs.firsts.Failing.{MessageFails, TellsMessageFails}
use Rattle.trace_replies.specs.firsts.Firsts as firsts
use Rattle.trace_errors.specs.deferred.Own.{TellsOwn}
use Rattle.trace_errors.proofs.Rows.{own}
use Rattle.trace_replies.specs.messages.Message.{FailsHere}
use Rattle.trace_points.specs.questions.Outs.{Tells}
use Rattle.trace_judge.specs.declared.case.Case.{Case}
use Rattle.trace_judge.specs.declared.course.Course.{Course}
use Rattle.trace_judge.specs.Known.{conf_in, settings_in, event_in}
use Rattle.trace_judge.specs.Replies.{IsOwnCause, FailsWith, FailsBySocket, FailsByClient, FailsWithoutFault, AtPoints, TellsFails, TellsFailsWithoutFault, TellsFailsBySocket, TellsFailsByClient, TellsFailsByMessage}
use Rattle.trace_judge.specs.Replies as plain
use Rattle.trace_judge.proofs.Telling.{either_told, same_told}

-- the answer for one error
pub own_cause : (p : Case) (t : Course) (k : ℕ) (e : Error) (b : Bool) (s : Settings) (xs : List Coming) → s ≡ settings_in p
    → TellsComing (conf_in p) (Some k) p.past.now.pass.ledger.books p.past.now.pass.sends t.here.pass.ledger xs
    → TellsOwn (conf_in p) s p.past.now.pass.ledger p.past.now.pass.timers p.past.now.heard t.here.pass.ledger t.made p.past.now.errors t.here.pass.sends t.here.exchanged (event_in p) xs k e b
    → plain.TellsOwn p t k e b
own_cause p t k e b s xs same cs told x h n =
    let told' = subst (λ s. TellsOwn (conf_in p) s p.past.now.pass.ledger p.past.now.pass.timers p.past.now.heard t.here.pass.ledger t.made p.past.now.errors t.here.pass.sends t.here.exchanged (event_in p) xs k e b) same told in
    told' (Some k) x h n.within.before n.within.event n.past.pass.ledger n.past.pass.timers n.past.heard n.past.errors n.course.here.pass.ledger n.course.made n.course.here.pass.sends n.course.here.exchanged (own k)
    (cs x h n.within.before n.past.pass.ledger.books n.past.pass.sends n.course.here.pass.ledger)

-- either of two
pub or_points : (p : Case) (t : Course) (P Q : (x h : History) → Type 0) (a b : Bool) → AtPoints p t (λ x h. Tells (P x h) a) → AtPoints p t (λ x h. Tells (Q x h) b) → AtPoints p t (λ x h. Tells (P x h ⊎ Q x h) (a || b))
or_points p t P Q a b f g x h n = either_told a b (f x h n) (g x h n)

pub or_is : (p : Case) (t : Course) (P Q : (x h : History) → Type 0) (a b d : Bool) → d ≡ (a || b) → AtPoints p t (λ x h. Tells (P x h) a) → AtPoints p t (λ x h. Tells (Q x h) b) → AtPoints p t (λ x h. Tells (P x h ⊎ Q x h) d)
or_is p t P Q a b d e f g x h n = subst (Tells (P x h ⊎ Q x h)) (sym e) (either_told a b (f x h n) (g x h n))

-- each error is one of these
module _ (p : Case) (k : ℕ) (x h : History) where
  by_fault : (f : Fault) → FailsWith p k f x h → FailsBySocket p k x h ⊎ FailsByClient p k x h
  by_fault fault.Refused u = inl (inl u)
  by_fault fault.Reset u = inl (inr (inl u))
  by_fault fault.Unreachable u = inl (inr (inr (inl u)))
  by_fault fault.InUse u = inl (inr (inr (inr (inl u))))
  by_fault fault.Broken u = inl (inr (inr (inr (inr (inl u)))))
  by_fault fault.Other u = inl (inr (inr (inr (inr (inr u)))))
  by_fault fault.Expired u = inr (inl u)
  by_fault fault.ShortSend u = inr (inr (inl u))
  by_fault fault.NothingTaken u = inr (inr (inr (inl u)))
  by_fault fault.EndOfData u = inr (inr (inr (inr u)))

  is_one : (e : Error) → is_failure e ≡ true → IsOwnCause p k e x h → FailsWithoutFault p k x h ⊎ (FailsBySocket p k x h ⊎ FailsByClient p k x h)
  is_one errors.TimedOut i u = inl (inl u)
  is_one (errors.Dgram query.Timeout) i u = inl (inr (inl u))
  is_one errors.WrongReplyForQuery i u = inl (inr (inr (inl u)))
  is_one errors.StreamReadTimeout i u = inl (inr (inr (inr u)))
  is_one (errors.Dgram (query.Connect f)) i u = inr (by_fault f (inl u))
  is_one (errors.Dgram (query.Send f)) i u = inr (by_fault f (inr (inl u)))
  is_one (errors.Dgram (query.Receive f)) i u = inr (by_fault f (inr (inr u)))
  is_one _ i u = absurd (cc)

  with_fault : (f : Fault) → FailsWith p k f x h → FailsHere (conf_in p) (settings_in p) k x (event_in p) h
  with_fault f (inl u) = record { failed = Err (errors.Dgram (query.Connect f)); fails = refl; cause = u }
  with_fault f (inr (inl u)) = record { failed = Err (errors.Dgram (query.Send f)); fails = refl; cause = u }
  with_fault f (inr (inr u)) = record { failed = Err (errors.Dgram (query.Receive f)); fails = refl; cause = u }

  by_socket : FailsBySocket p k x h → FailsHere (conf_in p) (settings_in p) k x (event_in p) h
  by_socket (inl u) = with_fault fault.Refused u
  by_socket (inr (inl u)) = with_fault fault.Reset u
  by_socket (inr (inr (inl u))) = with_fault fault.Unreachable u
  by_socket (inr (inr (inr (inl u)))) = with_fault fault.InUse u
  by_socket (inr (inr (inr (inr (inl u))))) = with_fault fault.Broken u
  by_socket (inr (inr (inr (inr (inr u))))) = with_fault fault.Other u

  by_client : FailsByClient p k x h → FailsHere (conf_in p) (settings_in p) k x (event_in p) h
  by_client (inl u) = with_fault fault.Expired u
  by_client (inr (inl u)) = with_fault fault.ShortSend u
  by_client (inr (inr (inl u))) = with_fault fault.NothingTaken u
  by_client (inr (inr (inr u))) = with_fault fault.EndOfData u

  alone : FailsWithoutFault p k x h → FailsHere (conf_in p) (settings_in p) k x (event_in p) h
  alone (inl u) = record { failed = Err errors.TimedOut; fails = refl; cause = u }
  alone (inr (inl u)) = record { failed = Err (errors.Dgram query.Timeout); fails = refl; cause = u }
  alone (inr (inr (inl u))) = record { failed = Err errors.WrongReplyForQuery; fails = refl; cause = u }
  alone (inr (inr (inr u))) = record { failed = Err errors.StreamReadTimeout; fails = refl; cause = u }

  some_so : FailsWithoutFault p k x h ⊎ (FailsBySocket p k x h ⊎ FailsByClient p k x h) → FailsHere (conf_in p) (settings_in p) k x (event_in p) h
  some_so (inl u) = alone u
  some_so (inr (inl u)) = by_socket u
  some_so (inr (inr u)) = by_client u

  of_result : (r : Result Octets Error) → is_failing r ≡ true → FailsSo (conf_in p) (settings_in p) k x (event_in p) h r
      → (FailsWithoutFault p k x h ⊎ (FailsBySocket p k x h ⊎ FailsByClient p k x h)) ⊎ MessageFails (conf_in p) (settings_in p) k x (event_in p) h
  of_result (Ok m) i u = inr (record { message = m; fails = i; cause = u })
  of_result (Err e) i u = inl (is_one e i u)

  result_so : (FailsWithoutFault p k x h ⊎ (FailsBySocket p k x h ⊎ FailsByClient p k x h)) ⊎ MessageFails (conf_in p) (settings_in p) k x (event_in p) h → FailsHere (conf_in p) (settings_in p) k x (event_in p) h
  result_so (inl u) = some_so u
  result_so (inr m) = record { failed = Ok m.message; fails = m.fails; cause = m.cause }

pub fails : (p : Case) (t : Course) (k : ℕ) (a b d m : Bool) → TellsFailsWithoutFault p t k a → TellsFailsBySocket p t k b → TellsFailsByClient p t k d → TellsFailsByMessage p t k m → TellsFails p t k ((a || (b || d)) || m)
fails p t k a b d m f g i j x h n =
    same_told ((a || (b || d)) || m) (result_so p k x h) (λ u. of_result p k x h u.failed u.fails u.cause)
    (either_told (a || (b || d)) m (either_told a (b || d) (f x h n) (either_told b d (g x h n) (i x h n))) (j x h n))

-- a message that fails
pub by_message : (p : Case) (t : Course) (k : ℕ) (done b : Bool) (s : Settings) (xs : List Coming) → s ≡ settings_in p
    → TellsComing (conf_in p) (Some k) p.past.now.pass.ledger.books p.past.now.pass.sends t.here.pass.ledger xs → plain.TellsDone p t k done → TellsMessageFails s k done xs p.past.now.firsts b → TellsFailsByMessage p t k b
by_message p t k done b s xs same cs d told x h n =
    let c = conf_in p in
    let told' = subst (λ s. TellsMessageFails s k done xs p.past.now.firsts b) same told in
    let all = subst (λ x. AllComing c (Some k) x h xs) (sym n.within.before) (cs x h n.within.before n.past.pass.ledger.books n.past.pass.sends n.course.here.pass.ledger) in
    let first = subst (λ x. firsts.Known c x p.past.now.firsts) (sym n.within.before) n.past.firsts in
    let is_done = subst (λ x. Tells (AllAreDone c k x (newest h) h) done) (sym n.within.before) (subst (λ w. Tells (AllAreDone c k x w h) done) (sym n.within.event) (d x h n)) in
    subst (λ w. Tells (MessageFails c (settings_in p) k x w h) b) n.within.event
    (subst (λ x. Tells (MessageFails c (settings_in p) k x (newest h) h) b) n.within.before (told' c h all first is_done))
