-- Requests that never fail in rows up to a moment, by when they first fail.
use Rattle.std.proofs.Common.{◌≡◌, ℕ, suc, ◌+◌, ◌<◌, ◌≤◌, ◌||◌, max, Bool, true, false, Option, Some, None, List, [], ◌∷◌, refl, sym, ap, ◌∙◌, subst, arith}
use Rattle.std.specs.Prelude.{if◌then◌else◌}
use Rattle.number_table.specs.Entries.{entry_at}
use Rattle.client_request.specs.declared.event.{What.What, Out.Out, Row.Row}
use Rattle.client_request.specs.declared.event.Out.TheVariants.{Start, OpenDgram, OpenStream, Send, Write, Resume, Close, Stale, Reply}
use Rattle.client_settings.specs.Settings.{CacheSettings}
use Rattle.right_trace.specs.Trace.{History, Conf, Came, Put, put_all, after}
use Rattle.right_trace.specs.{Time.now, Settings.Settings, StaleServed.NeverFails}
use Rattle.right_trace.specs.Requests.{asks, is_ask, is_reply}
use Rattle.right_trace.specs.Right.{OutsRight, RowRight, RightAfter}
use Rattle.right_trace.proofs.Asked.{asking_below}
use Rattle.cache_rules.specs.Validity.{cached_by}
use Rattle.trace_points.specs.declared.pass.pass.Pass.{Pass}
use Rattle.trace_points.specs.pass.Pass as pass
use Rattle.trace_points.proofs.lemmas.pass.Taking as passes
use Rattle.trace_hits.specs.declared.failures.Failures.{Failures}
use Rattle.trace_hits.specs.Known.{HasCache, BehindRight}
use Rattle.trace_hits.specs.{Point.is_number, Failing.fails_by, Serving.KnowFailures}
use Rattle.trace_hits.specs.Failures.{nothing, clock_of, failing, after_rows, fails_in, first_failure}
use Rattle.trace_hits.proofs.Behind.{reply_first, behind_row}
use Rattle.trace_hits.proofs.Failed.{some_fails, none_fails}
use Rattle.trace_hits.proofs.Tabling.{from_nothing}

pub all_known : (cache : CacheSettings) (c : Conf) (v : Settings) (f : Failures) (rows : List Row) → v ≡ cached_by cache → f ≡ after_rows c v rows nothing → (s : Settings) → RightAfter c s [] rows → KnowFailures cache f c s [] rows
all_known cache c v f rows is from s right = record {
  passed = pass.nothing;
  known = (passes.goes_on c).begins;
  right = right;
  failures = λ k n e. ap (λ v. first_failure c v k pass.nothing rows) (sym is) ∙ (sym (from_nothing c v k rows) ∙ ap (λ (f : Failures). entry_at k f.moments) (sym from));
}

-- ---- rows that go by

-- who fails has a reply
fails_reply : (c : Conf) (v : Settings) (p q : Pass) (w : What) (k : ℕ) (o : Out) → is_number k (failing c v p q w o) ≡ true → is_reply k o ≡ true
fails_reply c v p q w k (Reply j x) e = go (fails_by c v p q w j x) e
  where
    go : (b : Bool) → is_number k (if b then Some j else None) ≡ true → is_number k (Some j) ≡ true
    go true e = e
    go false e = absurd (cc)
fails_reply c v p q w k (Start j t u) e = absurd (cc)
fails_reply c v p q w k (OpenDgram r t) e = absurd (cc)
fails_reply c v p q w k (OpenStream r t) e = absurd (cc)
fails_reply c v p q w k (Send r j i o) e = absurd (cc)
fails_reply c v p q w k (Write r j i o) e = absurd (cc)
fails_reply c v p q w k (Resume r o) e = absurd (cc)
fails_reply c v p q w k (Close r) e = absurd (cc)
fails_reply c v p q w k (Stale j) e = absurd (cc)

-- nobody fails who was not asked
unasked_never : (c : Conf) (s : Settings) (past : History) (w : What) (end : History) (v : Settings) (p : Pass) (k n : ℕ) (os : List Out) (h : History) (q : Pass) → OutsRight c s past w end h os → asks h + n ≡ k → fails_in c v p q w k os ≡ false
unasked_never c s past w end v p k n [] h q right e = refl
unasked_never c s past w end v p k n (o ∷ os) h q right e = both (is_number k (failing c v p q w o)) refl (unasked_never c s past w end v p k n os (Put o ∷ h) (pass.has_put w o q) right.1 e)
  where
    past_all : (a : ℕ) → a + n ≡ k → k < a → ⊥
    past_all a e lt = omega arith

    both : (b : Bool) → is_number k (failing c v p q w o) ≡ b → fails_in c v p (pass.has_put w o q) w k os ≡ false → (b || fails_in c v p (pass.has_put w o q) w k os) ≡ false
    both true i rest = let f = reply_first c s past w h end o right.0 k (fails_reply c v p q w k o i) in absurd (past_all (asks h) e (asking_below k (f.asked.0) h (f.asked.1)))
    both false i rest = rest

asks_all : (os : List Out) (h : History) → asks (put_all os h) ≡ asks h
asks_all [] h = refl
asks_all (o ∷ os) h = asks_all os (Put o ∷ h)

abbrev more : Bool → ℕ → ℕ
more true n = suc n
more false n = n

grown : (b : Bool) (a n k : ℕ) → (if b then suc a else a) + n ≡ k → a + more b n ≡ k
grown true a n k e = omega arith
grown false a n k e = e

pub failures_go_on : (cache : CacheSettings) (f : Failures) (c : Conf) (s : Settings) (x : History) (row : Row) (rows : List Row) → BehindRight x → RowRight c s x row → KnowFailures cache f c s x (row ∷ rows) → KnowFailures cache f c s (after row x) rows
failures_go_on cache f c s x row rows behind right known = record {
  passed = pass.after_row c row known.passed;
  known = (passes.goes_on c).row x row known.passed behind.first known.known;
  right = known.right.1;
  failures = later;
}
  where
    later : (k n : ℕ) → asks (after row x) + n ≡ k → first_failure c (cached_by cache) k (pass.after_row c row known.passed) rows ≡ entry_at k f.moments
    later k n e =
        let at : asks (Came row.event ∷ x) + n ≡ k = ap (λ m. m + n) (sym (asks_all row.outs (Came row.event ∷ x))) ∙ e in
        let none = unasked_never c s x row.event.what (after row x) (cached_by cache) known.passed k n row.outs (Came row.event ∷ x) (pass.met c row.event known.passed) right.outs at in
        let all = known.failures k (more (is_ask row.event.what) n) (grown (is_ask row.event.what) (asks x) n k at) in
        sym (ap (λ b. if b then Some (clock_of (pass.met c row.event known.passed)) else first_failure c (cached_by cache) k (pass.after_row c row known.passed) rows) none) ∙ all

-- ---- what never fails

now_all : (os : List Out) (h : History) → now (put_all os h) ≡ now h
now_all [] h = refl
now_all (o ∷ os) h = now_all os (Put o ∷ h)

-- it does not, or later
abbrev pub IsLater : (limit : ℕ) → Option ℕ → Type 0
IsLater limit None = Unit {0}
IsLater limit (Some n) = limit < n

-- behind a moment nothing is asked any more
past_limit : (c : Conf) (s : Settings) (k limit : ℕ) (past : History) (rows : List Row) → limit < now past → NeverFails c s k limit past rows
past_limit c s k limit past [] lt = tt
past_limit c s k limit past (row ∷ rows) lt = ((λ le. absurd (over row.event.moment.0 (now past) lt le)), past_limit c s k limit (after row past) rows (subst (λ n. limit < n) (sym (now_all row.outs (Came row.event ∷ past))) (later row.event.moment.0 (now past) lt)))
  where
    over : (a n : ℕ) → limit < n → max a n ≤ limit → ⊥
    over a n lt le = omega arith

    later : (a n : ℕ) → limit < n → limit < max a n
    later a n lt = omega arith

module _ (c : Conf) (cache : CacheSettings) (s : Settings) (has : HasCache cache s) (k limit : ℕ) where
  pub fails_then : (n : ℕ) (past : History) (p : Pass) (rows : List Row) → BehindRight past → pass.Known c past p → RightAfter c s past rows → first_failure c (cached_by cache) k p rows ≡ Some n → n ≤ limit → NeverFails c s k limit past rows → ⊥
  fails_then n past p [] behind known right e le never = absurd (cc)
  fails_then n past p (row ∷ rows) behind known right e le never =
      go (λ e. fails_then n (after row past) (pass.after_row c row p) rows (behind_row c s past row right.0 behind) ((passes.goes_on c).row past row p behind.first known) right.1 e le never.1) (fails_in c (cached_by cache) p (pass.met c row.event p) row.event.what k row.outs) refl e
    where
      here : pass.Known c (Came row.event ∷ past) (pass.met c row.event p)
      here = (passes.goes_on c).event past row.event p behind.first known

      go : (first_failure c (cached_by cache) k (pass.after_row c row p) rows ≡ Some n → ⊥) → (b : Bool) → fails_in c (cached_by cache) p (pass.met c row.event p) row.event.what k row.outs ≡ b
          → (if b then Some (clock_of (pass.met c row.event p)) else first_failure c (cached_by cache) k (pass.after_row c row p) rows) ≡ Some n → ⊥
      go rest true i e =
          let same : clock_of (pass.met c row.event p) ≡ n = cc in
          let in_time = subst (λ m. m ≤ limit) (sym same ∙ here.ledger.books.requests.time) le in
          some_fails c cache s has past p known row.event.what k row.outs (Came row.event ∷ past) (pass.met c row.event p) here refl refl i (never.0 in_time)
      go rest false i e = rest e

  pub never_then : (past : History) (p : Pass) (rows : List Row) → BehindRight past → pass.Known c past p → RightAfter c s past rows → IsLater limit (first_failure c (cached_by cache) k p rows) → NeverFails c s k limit past rows
  never_then past p [] behind known right later = tt
  never_then past p (row ∷ rows) behind known right later =
      go (never_then (after row past) (pass.after_row c row p) rows (behind_row c s past row right.0 behind) ((passes.goes_on c).row past row p behind.first known) right.1) (fails_in c (cached_by cache) p (pass.met c row.event p) row.event.what k row.outs) refl later
    where
      not_both : (n : ℕ) → limit < n → n ≤ limit → ⊥
      not_both n lt le = omega arith

      here : pass.Known c (Came row.event ∷ past) (pass.met c row.event p)
      here = (passes.goes_on c).event past row.event p behind.first known

      go : (IsLater limit (first_failure c (cached_by cache) k (pass.after_row c row p) rows) → NeverFails c s k limit (after row past) rows) → (b : Bool) → fails_in c (cached_by cache) p (pass.met c row.event p) row.event.what k row.outs ≡ b
          → IsLater limit (if b then Some (clock_of (pass.met c row.event p)) else first_failure c (cached_by cache) k (pass.after_row c row p) rows) → NeverFails c s k limit past (row ∷ rows)
      go rest true i lt =
          let late = subst (λ n. limit < n) here.ledger.books.requests.time lt in (
            (λ le. absurd (not_both (now (Came row.event ∷ past)) late le)),
            past_limit c s k limit (after row past) rows (subst (λ n. limit < n) (sym (now_all row.outs (Came row.event ∷ past))) late),
          )
      go rest false i later = ((λ le. none_fails c cache s has past p known row.event.what k row.outs (Came row.event ∷ past) (pass.met c row.event p) here refl refl i), rest later)
