-- What is told of replies is what the definitions say.
use Rattle.std.proofs.Common.{◌≡◌, ℕ, ◌==◌, ◌&&◌, ◌||◌, ◌⊎◌, inl, inr, Bool, true, false, List, Option, Some, sym, ap, ◌∙◌, subst}
use Rattle.client_request.specs.declared.error.Error.{Error}
use Rattle.right_trace.specs.Trace.{History, Conf}
use Rattle.right_trace.specs.Time.{newest, row_before}
use Rattle.right_trace.specs.{Messages.Octets, Settings.Settings, Validity.is_deferred}
use Rattle.right_trace.specs.Coming.{CameFor, CameFirst}
use Rattle.right_trace.specs.Errors.{OwnCause, HasCause, IsKeptError, Own, Kept}
use Rattle.trace_errors.proofs.Rows.{own}
use Rattle.trace_errors.specs.Direct as direct
use Rattle.trace_points.specs.declared.exchanges.coming.Coming.{Coming}
use Rattle.trace_points.specs.exchanges.Coming.{TellsComing}
use Rattle.trace_replies.specs.firsts.Firsts.{TellsEarlier, TellsFirst}
use Rattle.trace_replies.specs.firsts.Firsts as firsts
use Rattle.trace_replies.specs.given.Coming.{TellsCame}
use Rattle.trace_replies.specs.declared.messages.message.{Told.Told, Judged.Judged}
use Rattle.trace_replies.specs.messages.Message.{FailsHere, IsTold, IsLast}
use Rattle.trace_replies.specs.messages.Message as messages
use Rattle.trace_errors.specs.owed.Owed as owed
use Rattle.trace_points.specs.questions.Outs.{Tells}
use Rattle.trace_replies.specs.views.Errors as kept_errors
use Rattle.trace_judge.specs.declared.case.{Case.Case, Mark.Mark}
use Rattle.trace_judge.specs.declared.course.Course.{Course}
use Rattle.trace_judge.specs.Known.{IsMark, conf_in, settings_in, event_in}
use Rattle.trace_judge.specs.Replies.{marked_as_failing}
use Rattle.trace_judge.specs.Replies as plain
use Rattle.trace_judge.proofs.Telling.{both_told, either_told, same_told}

module _ (p : Case) (t : Course) (k : ℕ) where
  pub first_come : (m : Octets) (came b : Bool) → TellsCame (conf_in p) k m p.past.now.pass.ledger.books p.past.now.pass.sends t.here.pass.ledger came → ((c : Conf) → TellsFirst c k m came p.past.now.firsts b) → plain.TellsFirstCome p t k m b
  first_come m came b cs told x h n =
      let c = conf_in p in
      let fs : firsts.Known c (row_before h) p.past.now.firsts = subst (λ x. firsts.Known c x p.past.now.firsts) (sym n.within.before) n.past.firsts in
      let came' = subst (λ x. Tells (CameFor c k m x (newest h) h) came) (sym n.within.before) (cs x h n.within.before n.past.pass.ledger.books n.past.pass.sends n.course.here.pass.ledger) in
      let r = told c h fs came' in
      subst (λ w. Tells (CameFirst c k m x w h) b) n.within.event (subst (λ x. Tells (CameFirst c k m x (newest h) h) b) n.within.before r)

  pub done : (b : Bool) → owed.TellsDone (conf_in p) k (event_in p) p.past.now.pass.ledger.books t.here.pass.ledger t.here.pass.sends t.here.exchanged b → plain.TellsDone p t k b
  done b told x h n = told x h n.past.pass.ledger.books n.course.here.pass.ledger n.course.here.pass.sends n.course.here.exchanged

  -- of a mark that was put last
  fails_by : (x h before : History) (m : Option Mark) → IsMark (conf_in p) (settings_in p) k x h before m → Tells (FailsHere (conf_in p) (settings_in p) k x (newest h) before) (marked_as_failing m k)
  fails_by x h before m is =
      let e : marked_as_failing m k ≡ is.mark.fails = ap (λ m. marked_as_failing m k) is.is ∙ ap (λ b. b && is.mark.fails) (ap (λ j. j == k) is.request ∙ own k) in
      subst (Tells (FailsHere (conf_in p) (settings_in p) k x (newest h) before)) (sym e) is.fails

  pub told_deferred : (m : Octets) (first done fails earlier : Bool) → plain.TellsFirstCome p t k m first → plain.TellsDone p t k done → fails ≡ marked_as_failing t.mark k → ((c : Conf) → TellsEarlier c k m p.past.now.firsts earlier)
      → plain.TellsTold p t k m (record { fails = fails; came_earlier = earlier; is_last = done && first })
  told_deferred m first done fails earlier f d e g x h n =
      let c = conf_in p in
      record {
        fails = λ before is. subst (Tells (FailsHere c (settings_in p) k x (newest h) before)) (sym e) (fails_by x h before t.mark (n.course.mark k before is));
        came_earlier = λ _. g c h (subst (λ x. firsts.Known c x p.past.now.firsts) (sym n.within.before) n.past.firsts);
        is_last = λ _. subst (λ w. Tells (IsLast c k m x w h) (done && first)) (sym n.within.event) (both_told done first (d x h n) (f x h n));
      }

  pub told_alone : (m : Octets) (fails : Bool) → is_deferred (settings_in p) m ≡ false → fails ≡ marked_as_failing t.mark k → plain.TellsTold p t k m (record { fails = fails; came_earlier = false; is_last = false })
  told_alone m fails non e x h n =
      record {
        fails = λ before is. subst (Tells (FailsHere (conf_in p) (settings_in p) k x (newest h) before)) (sym e) (fails_by x h before t.mark (n.course.mark k before is));
        came_earlier = λ so. absurd (let z : true ≡ false = sym so ∙ non in cc);
        is_last = λ so. absurd (let z : true ≡ false = sym so ∙ non in cc);
      }

  pub message : (m : Octets) (told : Told) (j : Judged) → plain.TellsTold p t k m told
      → messages.TellsMessage (conf_in p) (settings_in p) k m (event_in p) p.past.now.pass.ledger.books p.past.now.pass.sends t.here.pass.ledger t.replies told j → plain.TellsMessage p t k m j
  message m told j f g x h n = g x h n.within.before n.within.event n.past.pass.ledger.books n.past.pass.sends n.course.here.pass.ledger n.course.replies (f x h n)

  pub kept : (e : Error) (b : Bool) → kept_errors.TellsKept (settings_in p) k e (event_in p) t.here.pass.ledger.books.requests t.replies b → plain.TellsKept p t k e b
  kept e b g x h n = g (conf_in p) h n.within.event n.course.here.pass.ledger.books.requests n.course.replies

  pub cause : (e : Error) (a b : Bool) → plain.TellsOwn p t k e a → plain.TellsKept p t k e b → plain.TellsCause p t k e (a || b)
  cause e a b f g x h n = same_told (a || b) so non (either_told a b (f x h n) (g x h n))
    where
      so : OwnCause (conf_in p) (settings_in p) e k x (event_in p) h ⊎ IsKeptError (conf_in p) (settings_in p) e k h → HasCause (conf_in p) (settings_in p) e k x (event_in p) h
      so (inl u) = Own u.direct u.last
      so (inr u) = Kept u

      non : HasCause (conf_in p) (settings_in p) e k x (event_in p) h → OwnCause (conf_in p) (settings_in p) e k x (event_in p) h ⊎ IsKeptError (conf_in p) (settings_in p) e k h
      non (Own d l) = inl (record { direct = d; last = l })
      non (Kept u) = inr u

  pub direct_cause : (e : Error) (b : Bool) (s : Settings) (xs : List Coming) → s ≡ settings_in p
      → TellsComing (conf_in p) (Some k) p.past.now.pass.ledger.books p.past.now.pass.sends t.here.pass.ledger xs
      → direct.TellsDirect (conf_in p) s p.past.now.pass.ledger.books p.past.now.heard t.here.pass.ledger.books p.past.now.errors (event_in p) xs k e b
      → plain.TellsDirect p t k e b
  direct_cause e b s xs same cs told x h n =
      let told' = subst (λ s. direct.TellsDirect (conf_in p) s p.past.now.pass.ledger.books p.past.now.heard t.here.pass.ledger.books p.past.now.errors (event_in p) xs k e b) same told in
      told' (Some k) x h n.within.before n.within.event n.past.pass.ledger.books n.past.heard n.course.here.pass.ledger.books n.past.errors (own k) (cs x h n.within.before n.past.pass.ledger.books n.past.pass.sends n.course.here.pass.ledger)
