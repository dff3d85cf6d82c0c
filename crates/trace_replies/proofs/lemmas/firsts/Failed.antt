-- Whether a request could be given a message that fails is what the definitions say.
use Rattle.std.proofs.Common.{◌≡◌, ℕ, ◌==◌, ◌&&◌, ◌||◌, ◌⊎◌, inl, inr, not, Bool, true, false, List, [], ◌∷◌, Some, refl, sym, ap, ◌∙◌, subst}
use Rattle.std.specs.List.{list_any}
use Rattle.right_trace.specs.Trace.{History, Conf}
use Rattle.right_trace.specs.Time.{newest, row_before, EarlierRow, OfRow}
use Rattle.right_trace.specs.Messages.{Octets, answers}
use Rattle.right_trace.specs.{Settings.Settings, Validity.is_deferred, Views.is_failing_message, Parts.IsIn, Owed.AllAreDone}
use Rattle.right_trace.specs.Coming.{CameFor, SomeCame, CameFirst, FirstHere, FirstEarlier}
use Rattle.right_trace.specs.Replies.{IsFresh, InThisRow, Deferred}
use Rattle.trace_tables.specs.Lists.{listed}
use Rattle.trace_points.proofs.lemmas.due.ReadTimers.{both, all}
use Rattle.trace_points.specs.declared.exchanges.coming.Coming.{Coming}
use Rattle.trace_points.specs.exchanges.Coming.{AllComing}
use Rattle.trace_errors.specs.promptness.Prompt.{is_uncut, matches}
use Rattle.trace_points.specs.questions.Outs.{Tells}
use Rattle.trace_replies.specs.firsts.Firsts.{Firsts, counted, FirstRow, Known}
use Rattle.trace_replies.specs.firsts.Failing.{MessageFails, fails_for, fails_now, failed_first, message_fails, TellsMessageFails}
use Rattle.trace_replies.proofs.lemmas.firsts.Arriving.{coming_came, uncut_is}
use Rattle.trace_replies.proofs.lemmas.firsts.Listing.{clash, not_false, either, first_true, second_true, same_number, own, counts_so, so_counts}
use Rattle.trace_replies.proofs.lemmas.firsts.Telling.{earlier_so, so_earlier, none_at_first, none_some}

-- one of these passes
any_so : {A : Type 0} (g : A → Bool) (xs : List A) → list_any g xs ≡ true → (z : A) × IsIn z xs × (g z ≡ true)
any_so {A = A} g [] e = absurd (cc)
any_so {A = A} g (x ∷ xs) e = go (either (g x) (list_any g xs) e) (any_so g xs)
  where
    go : (g x ≡ true) ⊎ (list_any g xs ≡ true) → (list_any g xs ≡ true → (z : A) × IsIn z xs × (g z ≡ true)) → (z : A) × IsIn z (x ∷ xs) × (g z ≡ true)
    go (inl e) rest = (x, inl refl, e)
    go (inr e) rest = let r = rest e in (r.0, inr r.1, r.2)

so_any : {A : Type 0} (g : A → Bool) (z : A) (xs : List A) → IsIn z xs → g z ≡ true → list_any g xs ≡ true
so_any g z [] i e = absurd i
so_any g z (x ∷ xs) (inl is) e = first_true (g x) (list_any g xs) (ap g is ∙ e)
so_any g z (x ∷ xs) (inr i) e = second_true (g x) (list_any g xs) (so_any g z xs i e)

module _ (c : Conf) (s : Settings) (k : ℕ) (done : Bool) (xs : List Coming) (f : Firsts) (h : History) (cs : AllComing c (Some k) (row_before h) h xs) (known : Known c (row_before h) f) (told : Tells (AllAreDone c k (row_before h) (newest h) h) done) where
  abbrev Fails : Type 0
  Fails = MessageFails c s k (row_before h) (newest h) h

  -- what came in the row
  came_here : (z : Coming) → IsIn z xs → fails_for k z ≡ true → CameFor c k z.message (row_before h) (newest h) h
  came_here z i e =
      let p = both (z.request == k) _ e in
      let q = both (matches z) (is_failing_message z.message) p.1 in
      subst (λ j. CameFor c j z.message (row_before h) (newest h) h) (same_number z.request k p.0) (coming_came c (row_before h) h z (cs.so z i) q.0).for

  failing : (z : Coming) → fails_for k z ≡ true → is_failing_message z.message ≡ true
  failing z e = (both (matches z) (is_failing_message z.message) (both (z.request == k) _ e).1).1

  none_counted : counted k f ≡ false → EarlierRow (OfRow (SomeCame c k)) h → ⊥
  none_counted fails e = let x = known.counted k (earlier_so (OfRow (SomeCame c k)) h (none_some c k) e) in clash (counted k f) (so_counts x.0 (listed k f) x.1 x.2) fails

  so_none : (EarlierRow (OfRow (SomeCame c k)) h → ⊥) → (d : Bool) → counted k f ≡ d → d ≡ false
  so_none none false e = refl
  so_none none true e = absurd (let x = counts_so (listed k f) e in none (so_earlier (OfRow (SomeCame c k)) h (none_some c k) ((known.so k x.0 x.1).counted x.2)))

  now_so : list_any (fails_now s k) xs ≡ true → Fails
  now_so e =
      let z = any_so (fails_now s k) xs e in
      let q = both (fails_for k z.0) (not (is_deferred s z.0.message)) z.2 in
      record {
        message = z.0.message;
        fails = failing z.0 q.0;
        cause = (InThisRow (came_here z.0 z.1 q.0), λ d. absurd (clash (is_deferred s z.0.message) d (not_false (is_deferred s z.0.message) q.1)));
      }

  here_so : done ≡ true → list_any (fails_for k) xs ≡ true → counted k f ≡ false → Fails
  here_so d e n =
      let z = any_so (fails_for k) xs e in
      let came = came_here z.0 z.1 z.2 in
      record {
        message = z.0.message;
        fails = failing z.0 z.2;
        cause = (InThisRow came, λ _. (told.0 d, FirstHere came (none_counted n)));
      }

  first_so : done ≡ true → list_any (failed_first s) (listed k f) ≡ true → Fails
  first_so d e =
      let x = any_so (failed_first s) (listed k f) e in
      let p = both x.0.first _ x.2 in
      let q = both (is_failing_message x.0.message) (is_deferred s x.0.message) p.1 in
      let has = known.so k x.0 x.1 in
      record {
        message = x.0.message;
        fails = q.0;
        cause = (
          Deferred q.1 (so_earlier (OfRow (CameFor c k x.0.message)) h (none_at_first c k x.0.message) has.came),
          λ _. (told.0 d, FirstEarlier (so_earlier (FirstRow c k x.0.message) h (λ w. none_at_first c k x.0.message w.0) (has.first p.0))),
        );
      }

  fails_so : message_fails s k done xs f ≡ true → Fails
  fails_so e = go (either (list_any (fails_now s k) xs) _ e)
    where
      late : done ≡ true → ((list_any (fails_for k) xs && not (counted k f)) ≡ true) ⊎ (list_any (failed_first s) (listed k f) ≡ true) → Fails
      late d (inl e) = let q = both (list_any (fails_for k) xs) (not (counted k f)) e in here_so d q.0 (not_false (counted k f) q.1)
      late d (inr e) = first_so d e

      go : (list_any (fails_now s k) xs ≡ true) ⊎ ((done && ((list_any (fails_for k) xs && not (counted k f)) || list_any (failed_first s) (listed k f))) ≡ true) → Fails
      go (inl e) = now_so e
      go (inr e) = let q = both done _ e in late q.0 (either (list_any (fails_for k) xs && not (counted k f)) _ q.1)

  -- and the other way
  module _ (m : Octets) (fails : is_failing_message m ≡ true) where
    found : (g : Coming → Bool) → CameFor c k m (row_before h) (newest h) h → ((z : Coming) → fails_for k z ≡ true → z.message ≡ m → g z ≡ true) → list_any g xs ≡ true
    found g w passes =
        let z : Coming = record { request = k; via = w.via; server = w.server; place = w.place; id = w.id; message = m; agrees = answers w.request w.id m } in
        so_any g z xs (cs.back w.request w.via w.server w.place k w.id m (own k) w.matches.comes)
        (passes z
        (all (k == k) _ (own k)
        (all (answers w.request w.id m && is_uncut w.via m) (is_failing_message m) (all (answers w.request w.id m) (is_uncut w.via m) w.matches.agrees (uncut_is w.via m ∙ w.matches.whole)) fails)) refl)

    late_so : AllAreDone c k (row_before h) (newest h) h → ((list_any (fails_for k) xs && not (counted k f)) || list_any (failed_first s) (listed k f)) ≡ true → message_fails s k done xs f ≡ true
    late_so a e = second_true (list_any (fails_now s k) xs) _ (all done _ (told.1 a) e)

    so_first : is_deferred s m ≡ true → AllAreDone c k (row_before h) (newest h) h → CameFirst c k m (row_before h) (newest h) h → message_fails s k done xs f ≡ true
    so_first d a (FirstHere w none) =
        late_so a (first_true (list_any (fails_for k) xs && not (counted k f)) _ (all (list_any (fails_for k) xs) (not (counted k f)) (found (fails_for k) w (λ z e i. e)) (ap not (so_none none (counted k f) refl))))
    so_first d a (FirstEarlier w) =
        let x = known.first k m (earlier_so (FirstRow c k m) h (λ w. none_at_first c k m w.0) w) in
        let passes : failed_first s x.0 ≡ true =
        all x.0.first _ x.3 (all (is_failing_message x.0.message) (is_deferred s x.0.message) (ap is_failing_message x.2 ∙ fails) (ap (is_deferred s) x.2 ∙ d)) in
        late_so a (second_true (list_any (fails_for k) xs && not (counted k f)) _ (so_any (failed_first s) x.0 (listed k f) x.1 passes))

    so_fresh : (b : Bool) → is_deferred s m ≡ b → IsFresh c s k m (row_before h) (newest h) h → (is_deferred s m ≡ true → AllAreDone c k (row_before h) (newest h) h × CameFirst c k m (row_before h) (newest h) h) → message_fails s k done xs f ≡ true
    so_fresh true i fresh last = let q = last i in so_first i q.0 q.1
    so_fresh false i (InThisRow w) last =
        first_true (list_any (fails_now s k) xs) _ (found (fails_now s k) w (λ z e same. all (fails_for k z) (not (is_deferred s z.message)) e (ap not (ap (is_deferred s) same ∙ i))))
    so_fresh false i (Deferred d w) last = absurd (clash (is_deferred s m) d i)

  so_fails : Fails → message_fails s k done xs f ≡ true
  so_fails r = so_fresh r.message r.fails (is_deferred s r.message) refl r.cause.0 r.cause.1

pub tells_message_fails : (s : Settings) (k : ℕ) (done : Bool) (xs : List Coming) (f : Firsts) (b : Bool) → b ≡ message_fails s k done xs f → TellsMessageFails s k done xs f b
tells_message_fails s k done xs f b e c h cs known told = ((λ u. fails_so c s k done xs f h cs known told (sym e ∙ u)), (λ r. e ∙ so_fails c s k done xs f h cs known told r))
