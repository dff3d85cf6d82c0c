-- What is found of a row's promptness is what the definitions say.
use Rattle.std.proofs.Common.{◌≡◌, ℕ, ◌<◌, nat_lt, ◌==◌, ◌&&◌, ◌||◌, ◌⊎◌, inl, inr, not, Bool, true, false, List, [], ◌∷◌, Option, Some, None, refl, sym, ap, ap₂, ◌∙◌, subst, arith}
use Rattle.std.specs.Prelude.{Ok, Err}
use Rattle.std.proofs.lemmas.Bool.Decides.{nat_tests}
use Rattle.number_table.specs.Entries.{entry_at}
use Rattle.client_request.specs.declared.event.{Out.Out, Row.Row, Via.Via}
use Rattle.client_request.specs.declared.event.Out.TheVariants.{Start, OpenDgram, OpenStream, Send, Write, Resume, Close, Stale, Reply}
use Rattle.client_request.specs.declared.event.Via.TheVariants.{Dgram, Stream}
use Rattle.right_trace.specs.Trace.{History, Conf, Came, after}
use Rattle.right_trace.specs.Time.{now, newest}
use Rattle.right_trace.specs.{Settings.Settings, Views.is_failing_message, Parts.IsIn, Frames.came, Validity.is_final, Coming.IsExcused}
use Rattle.right_trace.specs.Messages.{Octets, answers, truncated}
use Rattle.right_trace.specs.Places.{site, is_of_kind}
use Rattle.right_trace.specs.Exchanges.{Comes, Matches, is_whole, first_of}
use Rattle.right_trace.specs.Right.{Among, IsOverdue, Prompt, IsGivenSo, AsItIs, StaleFor}
use Rattle.trace_tables.specs.declared.books.Books.{Books}
use Rattle.trace_tables.specs.declared.places.Place.{Place}
use Rattle.trace_tables.specs.Known.{site_seen}
use Rattle.trace_tables.specs.declared.frames.here.Here.{Here}
use Rattle.trace_tables.specs.declared.frames.ledger.Ledger.{Ledger}
use Rattle.trace_tables.specs.frames.Ledger as ledger
use Rattle.trace_tables.specs.frames.Here as here_outs
use Rattle.message_judging.specs.matching.Shapes.{same_octets}
use Rattle.message_judging.proofs.lemmas.matching.Names.{octets_same, same_octets_are}
use Rattle.trace_points.specs.declared.due.timers.Timers.{Timers}
use Rattle.trace_points.specs.due.Timers as timers
use Rattle.trace_points.proofs.lemmas.due.ReadTimers.{both, all}
use Rattle.trace_points.specs.declared.exchanges.coming.Coming.{Coming}
use Rattle.trace_points.specs.exchanges.Coming.{IsComing, AllComing}
use Rattle.trace_errors.specs.promptness.{Settings.is_final_for, Overdue.is_overdue}
use Rattle.trace_errors.specs.promptness.Heard.{Heards, is_passed_over}
use Rattle.trace_errors.specs.promptness.Heard as heards
use Rattle.trace_errors.specs.promptness.Prompt.{gives, is_given, is_given_so, is_marked, marks, is_uncut, matches, is_answered, are_answered, are_prompt, is_stream, excused_in, prompt_seen, TellsPrompt}
use Rattle.trace_errors.proofs.lemmas.promptness.Hearing.{before_row, row_event, row_moment, brought_to, passed_so, so_passed}
use Rattle.trace_errors.proofs.lemmas.promptness.Delaying.{first_true, second_true, tells_overdue}

same_number : (a b : ℕ) → (a == b) ≡ true → a ≡ b
same_number a b e = grind (arith, nat_tests)

own : (a : ℕ) → (a == a) ≡ true
own a = grind (arith, nat_tests)

either : (a b : Bool) → (a || b) ≡ true → (a ≡ true) ⊎ (b ≡ true)
either true b e = inl refl
either false b e = inr e

-- replies

gives_so : (k : ℕ) (m : Octets) (o : Out) → gives k m o ≡ true → o ≡ Reply k (Ok m)
gives_so k m (Reply j (Ok x)) e =
    let q = both (j == k) (same_octets x m) e in
    let r = same_number j k q.0 in
    let s = octets_same x m q.1 in
    cc
gives_so k m (Reply j (Err x)) e = absurd (cc)
gives_so k m (Start j s v) e = absurd (cc)
gives_so k m (OpenDgram p s) e = absurd (cc)
gives_so k m (OpenStream p s) e = absurd (cc)
gives_so k m (Send p j i o) e = absurd (cc)
gives_so k m (Write p j i o) e = absurd (cc)
gives_so k m (Resume p o) e = absurd (cc)
gives_so k m (Close p) e = absurd (cc)
gives_so k m (Stale j) e = absurd (cc)

so_gives : (k : ℕ) (m : Octets) → gives k m (Reply k (Ok m)) ≡ true
so_gives k m = all (k == k) (same_octets m m) (own k) (same_octets_are m m refl)

given_so : (k : ℕ) (m : Octets) (os : List Out) → is_given k m os ≡ true → Among (Reply k (Ok m)) os
given_so k m [] e = absurd (cc)
given_so k m (o ∷ os) e = go (given_so k m os) (either (gives k m o) (is_given k m os) e)
  where
    go : (is_given k m os ≡ true → Among (Reply k (Ok m)) os) → (gives k m o ≡ true) ⊎ (is_given k m os ≡ true) → (o ≡ Reply k (Ok m)) ⊎ Among (Reply k (Ok m)) os
    go rest (inl e) = inl (gives_so k m o e)
    go rest (inr e) = inr (rest e)

so_given : (k : ℕ) (m : Octets) (os : List Out) → Among (Reply k (Ok m)) os → is_given k m os ≡ true
so_given k m [] a = absurd a
so_given k m (o ∷ os) (inl e) = first_true _ _ (ap (gives k m) e ∙ so_gives k m)
so_given k m (o ∷ os) (inr a) = second_true _ _ (so_given k m os a)

marks_so : (k : ℕ) (o : Out) → marks k o ≡ true → o ≡ Stale k
marks_so k (Stale j) e = ap Stale (same_number j k e)
marks_so k (Reply j x) e = absurd (cc)
marks_so k (Start j s v) e = absurd (cc)
marks_so k (OpenDgram p s) e = absurd (cc)
marks_so k (OpenStream p s) e = absurd (cc)
marks_so k (Send p j i o) e = absurd (cc)
marks_so k (Write p j i o) e = absurd (cc)
marks_so k (Resume p o) e = absurd (cc)
marks_so k (Close p) e = absurd (cc)

marked_so : (k : ℕ) (os : List Out) → is_marked k os ≡ true → Among (Stale k) os
marked_so k [] e = absurd (cc)
marked_so k (o ∷ os) e = go (marked_so k os) (either (marks k o) (is_marked k os) e)
  where
    go : (is_marked k os ≡ true → Among (Stale k) os) → (marks k o ≡ true) ⊎ (is_marked k os ≡ true) → (o ≡ Stale k) ⊎ Among (Stale k) os
    go rest (inl e) = inl (marks_so k o e)
    go rest (inr e) = inr (rest e)

so_marked : (k : ℕ) (os : List Out) → Among (Stale k) os → is_marked k os ≡ true
so_marked k [] a = absurd a
so_marked k (o ∷ os) (inl e) = first_true _ _ (ap (marks k) e ∙ own k)
so_marked k (o ∷ os) (inr a) = second_true _ _ (so_marked k os a)

some_more : (n : ℕ) → nat_lt 0 n ≡ true → 0 < n
some_more n e = grind (arith, nat_tests)

more_some : (n : ℕ) → 0 < n → nat_lt 0 n ≡ true
more_some n e = grind (arith, nat_tests)

-- given as it is, or a stale one in its place
given_either : (s : Settings) (k : ℕ) (m : Octets) (os : List Out) → is_given_so s k m os ≡ true → IsGivenSo s k m os
given_either s k m os e = go (either (is_given k m os) _ e)
  where
    go : (is_given k m os ≡ true) ⊎ ((nat_lt 0 s.stale_for && (is_failing_message m && is_marked k os)) ≡ true) → IsGivenSo s k m os
    go (inl a) = AsItIs (given_so k m os a)
    go (inr b) =
        let q = both (nat_lt 0 s.stale_for) _ b in
        let r = both (is_failing_message m) (is_marked k os) q.1 in
        StaleFor (some_more s.stale_for q.0) r.0 (marked_so k os r.1)

either_given : (s : Settings) (k : ℕ) (m : Octets) (os : List Out) → IsGivenSo s k m os → is_given_so s k m os ≡ true
either_given s k m os (AsItIs a) = first_true _ _ (so_given k m os a)
either_given s k m os (StaleFor some fails a) =
    second_true (is_given k m os) _ (all (nat_lt 0 s.stale_for) _ (more_some s.stale_for some) (all (is_failing_message m) (is_marked k os) fails (so_marked k os a)))

-- messages

uncut_is : (v : Via) (m : Octets) → is_uncut v m ≡ is_whole v m
unfolding truncated
uncut_is Dgram m = refl
uncut_is Stream m = refl

answered_in : (c : Conf) (s : Settings) (n : ℕ) (bp : Books) (heard : Heards) (os : List Out) (z : Coming) (xs : List Coming) → IsIn z xs → are_answered c s n bp heard os xs ≡ true → is_answered c s n bp heard os z ≡ true
answered_in c s n bp heard os z [] i e = absurd i
answered_in c s n bp heard os z (x ∷ xs) (inl q) e = subst (λ x. is_answered c s n bp heard os x ≡ true) q (both (is_answered c s n bp heard os x) _ e).0
answered_in c s n bp heard os z (x ∷ xs) (inr i) e = answered_in c s n bp heard os z xs i (both (is_answered c s n bp heard os x) _ e).1

in_answered : (c : Conf) (s : Settings) (n : ℕ) (bp : Books) (heard : Heards) (os : List Out) (xs : List Coming) → ((z : Coming) → IsIn z xs → is_answered c s n bp heard os z ≡ true) → are_answered c s n bp heard os xs ≡ true
in_answered c s n bp heard os [] f = refl
in_answered c s n bp heard os (x ∷ xs) f = all (is_answered c s n bp heard os x) _ (f x (inl refl)) (in_answered c s n bp heard os xs (λ z i. f z (inr i)))

stream_is : (o : Option Place) → is_stream o ≡ is_of_kind Stream (site_seen o)
stream_is None = refl
stream_is (Some x) = refl

module _ (c : Conf) (s : Settings) (l : Ledger) (t : Timers) (heard : Heards) (l' : Ledger) (o : Here) (row : Row) (xs : List Coming) (x : History) (kl : ledger.Known x l) (kt : timers.Known c x t) (kh : heards.Known c x heard) (kl' : ledger.Known (after row x) l') (ko : here_outs.Known l.books.places (after row x) o) (cs : AllComing c None x (after row x) xs) where
  n : ℕ
  n = l'.books.requests.clock

  excused : Bool
  excused = excused_in c l'.frames.brought l'.books.requests.clock l t l' o

  moment_is : now (Came row.event ∷ x) ≡ l'.books.requests.clock
  moment_is = sym (row_moment row x) ∙ sym kl'.books.requests.time

  overdue : (k : ℕ) → (is_overdue c s k l'.books.requests.clock l.books heard ≡ true → IsOverdue c s k (now (Came row.event ∷ x)) x) × (IsOverdue c s k (now (Came row.event ∷ x)) x → is_overdue c s k l'.books.requests.clock l.books heard ≡ true)
  overdue k = subst (λ m. (is_overdue c s k l'.books.requests.clock l.books heard ≡ true → IsOverdue c s k m x) × (IsOverdue c s k m x → is_overdue c s k l'.books.requests.clock l.books heard ≡ true)) (sym moment_is)
      (tells_overdue c s k l'.books.requests.clock l.books heard (is_overdue c s k l'.books.requests.clock l.books heard) refl x kl.books kh)

  -- of the place of a message
  excused_at : (p id : ℕ) (v : Via) (m : Octets) → first_of c v id (came p (newest (after row x)) x) ≡ Some m → excused ≡ (is_passed_over c p l'.books.requests.clock l t o && is_of_kind Stream (site p (after row x)))
  unfolding excused
  excused_at p id v m first =
      let b = brought_to c l' (after row x) p id v m x kl' (before_row row x) first in
      ap (λ b. excused_in c b l'.books.requests.clock l t l' o) b.1
      ∙ (ap (λ p. is_passed_over c p l'.books.requests.clock l t o && is_stream (entry_at p l'.books.places)) b.2
      ∙ ap (λ b. is_passed_over c p l'.books.requests.clock l t o && b) (stream_is (entry_at p l'.books.places) ∙ ap (is_of_kind Stream) (kl'.books.places.sites p)))

  excused_so : (p : ℕ) → (is_passed_over c p l'.books.requests.clock l t o && is_of_kind Stream (site p (after row x))) ≡ true → IsExcused c p x row.event.what (after row x)
  unfolding IsExcused
  excused_so p e =
      let q = both (is_passed_over c p l'.books.requests.clock l t o) _ e in
      let r = passed_so c x row l l' t o kl kl' kt ko p q.0 in
      (r.0, r.1, q.1)

  so_excused : (p : ℕ) → IsExcused c p x row.event.what (after row x) → (is_passed_over c p l'.books.requests.clock l t o && is_of_kind Stream (site p (after row x))) ≡ true
  unfolding IsExcused
  so_excused p e = all (is_passed_over c p l'.books.requests.clock l t o) _ (so_passed c x row l l' t o kl kl' kt ko p e.0 e.1) e.2

  -- where each message is the reply or need not be

  prompt_so : (b : Bool) → excused ≡ b → are_prompt c s l'.books.requests.clock l.books heard row.outs b xs ≡ true → Prompt c s x row
  prompt_so b eb e r v i p k id m match final not_late not_excused = go b eb e
    where
      comes : Comes c r v i p k id m x (newest (after row x)) (after row x)
      comes = subst (λ w. Comes c r v i p k id m x w (after row x)) (sym (row_event row x)) match.comes

      there : IsIn (record { request = k; via = v; server = i; place = p; id = id; message = m; agrees = answers r id m }) xs
      there = cs.back r v i p k id m refl comes

      matched : (answers r id m && is_uncut v m) ≡ true
      matched = all (answers r id m) (is_uncut v m) match.agrees (uncut_is v m ∙ match.whole)

      ended : is_final_for s m (entry_at k l.books.requests.askings) ≡ true
      ended = ap (is_final_for s m) (kl.books.requests.askings k ∙ comes.is_open.stands.asked.1) ∙ final

      decide : (a : Bool) → is_given_so s k m row.outs ≡ a → (d : Bool) → is_overdue c s k l'.books.requests.clock l.books heard ≡ d → (a || d) ≡ true → IsGivenSo s k m row.outs
      decide true ga d gd e = given_either s k m row.outs ga
      decide false ga true gd e = absurd (not_late ((overdue k).0 gd))
      decide false ga false gd e = absurd (cc)

      go : (b : Bool) → excused ≡ b → are_prompt c s l'.books.requests.clock l.books heard row.outs b xs ≡ true → IsGivenSo s k m row.outs
      go true eb e = absurd (not_excused (excused_so p (sym (excused_at p id v m comes.first) ∙ eb)))
      go false eb e =
          let q = answered_in c s l'.books.requests.clock l.books heard row.outs (record { request = k; via = v; server = i; place = p; id = id; message = m; agrees = answers r id m }) xs there e in
          decide (is_given_so s k m row.outs) refl (is_overdue c s k l'.books.requests.clock l.books heard) refl
          (sym (ap₂ (λ a b. not (a && b) || (is_given_so s k m row.outs || is_overdue c s k l'.books.requests.clock l.books heard)) matched ended) ∙ q)

  -- and the other way

  final_so : (z : Coming) (is : IsComing c x (after row x) z) → is_final_for s z.message (entry_at z.request l.books.requests.askings) ≡ is_final s is.asked_as z.message
  final_so z is = ap (is_final_for s z.message) (kl.books.requests.askings z.request ∙ is.comes.is_open.stands.asked.1)

  one_prompt : Prompt c s x row → excused ≡ false → (z : Coming) → IsIn z xs → is_answered c s l'.books.requests.clock l.books heard row.outs z ≡ true
  one_prompt prompt non z there = go (matches z) refl (is_final_for s z.message (entry_at z.request l.books.requests.askings)) refl (is_overdue c s z.request l'.books.requests.clock l.books heard) refl
    where
      is : IsComing c x (after row x) z
      is = cs.so z there

      match : matches z ≡ true → Matches c is.asked_as z.via z.server z.place z.request z.id z.message x row.event.what (after row x)
      match e =
          let q = both z.agrees (is_uncut z.via z.message) e in
          record { comes = subst (λ w. Comes c is.asked_as z.via z.server z.place z.request z.id z.message x w (after row x)) (row_event row x) is.comes; agrees = sym is.agreeing ∙ q.0; whole = sym (uncut_is z.via z.message) ∙ q.1 }

      go : (a : Bool) → matches z ≡ a → (f : Bool) → is_final_for s z.message (entry_at z.request l.books.requests.askings) ≡ f → (d : Bool) → is_overdue c s z.request l'.books.requests.clock l.books heard ≡ d
          → (not (a && f) || (is_given_so s z.request z.message row.outs || d)) ≡ true
      go true ea true ef true ed = second_true false (is_given_so s z.request z.message row.outs || true) (second_true (is_given_so s z.request z.message row.outs) true refl)
      go true ea true ef false ed =
          let given = prompt is.asked_as z.via z.server z.place z.request z.id z.message (match ea) (sym (final_so z is) ∙ ef)
          (λ late. (let y = (overdue z.request).1 late in let w : true ≡ false = sym y ∙ ed in cc))
          (λ ex. (let y = excused_at z.place z.id z.via z.message is.comes.first ∙ so_excused z.place ex in let w : true ≡ false = sym y ∙ non in cc)) in
          first_true _ _ (either_given s z.request z.message row.outs given)
      go true ea false ef d ed = refl
      go false ea f ef d ed = refl

  so_prompt : (b : Bool) → excused ≡ b → Prompt c s x row → are_prompt c s l'.books.requests.clock l.books heard row.outs b xs ≡ true
  so_prompt true eb prompt = refl
  so_prompt false eb prompt = in_answered c s l'.books.requests.clock l.books heard row.outs xs (one_prompt prompt eb)

pub tells_prompt : (c : Conf) (s : Settings) (past : Ledger) (t : Timers) (heard : Heards) (here : Ledger) (o : Here) (row : Row) (xs : List Coming) (b : Bool) → b ≡ prompt_seen c s past t heard here o row.outs xs → TellsPrompt c s past t heard here o row xs b
unfolding excused
tells_prompt c s past t heard here o row xs b e x kl kt kh kl' ko cs = (
  (λ u. prompt_so c s past t heard here o row xs x kl kt kh kl' ko cs (excused_in c here.frames.brought here.books.requests.clock past t here o) refl (sym e ∙ u)),
  (λ p. e ∙ so_prompt c s past t heard here o row xs x kl kt kh kl' ko cs (excused_in c here.frames.brought here.books.requests.clock past t here o) refl p),
)
