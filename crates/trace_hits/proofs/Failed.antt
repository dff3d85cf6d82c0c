-- Whether a reply lets its request fail, as it is found, is what the definitions say.
use Rattle.std.proofs.Common.{◌≡◌, ℕ, ◌==◌, ◌&&◌, ◌||◌, ◌⊎◌, inl, inr, not, Bool, true, false, Option, Some, None, List, [], ◌∷◌, refl, sym, ap, ◌∙◌, subst}
use Rattle.std.specs.Prelude.{if◌then◌else◌, is_some, Result, Ok, Err}
use Rattle.std.specs.List.{list_any}
use Rattle.client_request.specs.declared.error.Error.{Error}
use Rattle.client_request.specs.declared.error.Error.TheVariants as errors
use Rattle.client_request.specs.declared.event.{What.What, Out.Out}
use Rattle.client_request.specs.declared.event.Out.TheVariants.{Start, OpenDgram, OpenStream, Send, Write, Resume, Close, Stale, Reply}
use Rattle.client_settings.specs.Settings.{CacheSettings}
use Rattle.right_trace.specs.Trace.{History, Conf, Put}
use Rattle.right_trace.specs.Time.{newest, row_before}
use Rattle.right_trace.specs.{Messages.Octets, Settings.Settings, Parts.IsIn, Keys.is_cacheable, Views.is_failing_message}
use Rattle.right_trace.specs.Requests.{Asking, asks, is_ask, is_asked_here}
use Rattle.right_trace.specs.Errors.{is_failure, CameWithoutValidity}
use Rattle.right_trace.specs.StaleServed.{CameUnread, FailsBy, NoneFails}
use Rattle.cache_rules.specs.Validity.{cached_by}
use Rattle.trace_tables.specs.Requests.{marked_seen}
use Rattle.trace_points.specs.questions.Outs.{Tells}
use Rattle.trace_points.proofs.lemmas.questions.Deciding.{both, all, not_true}
use Rattle.trace_points.specs.declared.exchanges.coming.Coming.{Coming}
use Rattle.trace_points.specs.exchanges.Coming.{coming, AllComing}
use Rattle.trace_points.proofs.lemmas.exchanges.Telling.{tells_coming}
use Rattle.trace_errors.specs.promptness.Prompt.{matches}
use Rattle.trace_errors.specs.Arrivals.{lacks_validity, is_unkept}
use Rattle.trace_errors.specs.Direct.{asked_here}
use Rattle.trace_errors.proofs.Arriving.{unkept_so, so_unkept}
use Rattle.trace_errors.proofs.Directing.{asked_is}
use Rattle.trace_points.specs.declared.pass.pass.Pass.{Pass}
use Rattle.trace_points.specs.pass.Pass as pass
use Rattle.trace_points.proofs.lemmas.pass.Taking as passes
use Rattle.trace_hits.specs.{Known.HasCache, Point.is_number}
use Rattle.trace_hits.specs.Failing.{is_unread, came_unread, message_fails, is_unreadable, error_fails, fails_by}
use Rattle.trace_hits.specs.Failures.{failing, fails_in}
use Rattle.trace_hits.proofs.Behind.{same_number, own_number, clash}
use Rattle.trace_hits.proofs.Keeping.{same_validity, not_or}

either : (a b : Bool) → (a || b) ≡ true → (a ≡ true) ⊎ (b ≡ true)
either true b e = inl refl
either false b e = inr e

first_true : (a b : Bool) → a ≡ true → (a || b) ≡ true
first_true a b e = ap (λ a. a || b) e

second_true : (a b : Bool) → b ≡ true → (a || b) ≡ true
second_true true b e = refl
second_true false b e = e

-- it is false, unless
of_none : (b : Bool) → (b ≡ true → ⊥) → b ≡ false
of_none true none = absurd (none refl)
of_none false none = refl

-- one of these passes
any_so : {A : Type 0} (g : A → Bool) (xs : List A) → list_any g xs ≡ true → (z : A) × IsIn z xs × (g z ≡ true)
any_so {A = A} g [] e = absurd (cc)
any_so {A = A} g (x ∷ xs) e = go (either (g x) (list_any g xs) e) (any_so g xs)
  where
    go : (g x ≡ true) ⊎ (list_any g xs ≡ true) → (list_any g xs ≡ true → (z : A) × IsIn z xs × (g z ≡ true)) → (z : A) × IsIn z (x ∷ xs) × (g z ≡ true)
    go (inl e) rest = (x, inl refl, e)
    go (inr e) rest = let r = rest e in (r.0, inr r.1, r.2)

so_any : {A : Type 0} (g : A → Bool) (z : A) (xs : List A) → IsIn z xs → g z ≡ true → list_any g xs ≡ true
so_any g z [] i e = absurd i
so_any g z (x ∷ xs) (inl is) e = first_true (g x) (list_any g xs) (ap g is ∙ e)
so_any g z (x ∷ xs) (inr i) e = second_true (g x) (list_any g xs) (so_any g z xs i e)

unreadable_is : (e : Error) → is_unreadable e ≡ true → e ≡ errors.MessageParseError
unreadable_is errors.MessageParseError e = refl
unreadable_is _ e = absurd (cc)

-- settings with the cache say the same of validity
module _ (cache : CacheSettings) (s : Settings) (has : HasCache cache s) where
  lacks_same : (m : Octets) (o : Option Asking) → lacks_validity (cached_by cache) m o ≡ lacks_validity s m o
  lacks_same m None = refl
  lacks_same m (Some a) = ap (λ o. is_cacheable a.request && not (is_some o)) (same_validity cache s m has)

  unkept_same : (askings : List (ℕ × Asking)) (x : Coming) → is_unkept (cached_by cache) askings x ≡ is_unkept s askings x
  unkept_same askings x = ap (λ b. matches x && b) (lacks_same x.message _)

-- at a point of a row
module _ (c : Conf) (cache : CacheSettings) (s : Settings) (has : HasCache cache s) (past h : History) (p q : Pass) (kp : pass.Known c past p) (kq : pass.Known c h q) (before : row_before h ≡ past) (w : What) (is : newest h ≡ w) (k : ℕ) where
  xs : List Coming
  xs = coming c (Some k) p.ledger.books p.sends q.ledger

  cs : AllComing c (Some k) past h xs
  unfolding xs
  cs = tells_coming c (Some k) p.ledger.books p.sends q.ledger (coming c (Some k) p.ledger.books p.sends q.ledger) refl past h before kp.ledger.books kp.sends kq.ledger

  abbrev askings : List (ℕ × Asking)
  askings = p.ledger.books.requests.askings

  asked : asked_here k w p.ledger.books ≡ is_asked_here k h
  asked = ap (λ n. is_ask w && (n == k)) (kp.ledger.books.requests.count ∙ ap asks (sym before)) ∙ (ap (λ w. is_ask w && (asks (row_before h) == k)) (sym is) ∙ sym (asked_is k h))

  unread_so : came_unread c (cached_by cache) p q k ≡ true → CameUnread c s k past w h
  unfolding xs
  unread_so e =
      let z = any_so (is_unread (cached_by cache) k askings) xs e in
      let a = both (z.0.request == k) _ z.2 in
      let b = both (not (is_failing_message z.0.message)) _ a.1 in
      let came = unkept_so c (Some k) past h xs cs s k askings kp.ledger.books.requests.askings z.0 z.1 (same_number z.0.request k a.0) (sym (unkept_same cache s has askings z.0) ∙ b.1) in
      (z.0.message, not_true (is_failing_message z.0.message) b.0, subst (λ w. CameWithoutValidity c s k z.0.message past w h) is came)

  so_unread : CameUnread c s k past w h → came_unread c (cached_by cache) p q k ≡ true
  unfolding xs
  so_unread u =
      let z = so_unkept c (Some k) past h xs cs s k askings kp.ledger.books.requests.askings (own_number k) u.0 (subst (λ w. CameWithoutValidity c s k u.0 past w h) (sym is) u.2) in
      so_any (is_unread (cached_by cache) k askings) z.0 xs z.1
      (all (z.0.request == k) _ (ap (λ j. j == k) z.2 ∙ own_number k)
      (all (not (is_failing_message z.0.message)) _ (ap (λ m. not (is_failing_message m)) z.3 ∙ ap not u.1) (unkept_same cache s has askings z.0 ∙ z.4)))

  message_so : (m : Octets) → message_fails p q w k m ≡ true → FailsBy c s k past w h (Ok m)
  message_so m e =
      let a = both (is_failing_message m) _ e in
      let b = both (not (marked_seen k q.ledger.books.requests)) _ a.1 in
      (a.0, sym (kq.ledger.books.requests.marks k) ∙ not_true (marked_seen k q.ledger.books.requests) b.0, sym asked ∙ not_true (asked_here k w p.ledger.books) b.1)

  so_message : (m : Octets) → FailsBy c s k past w h (Ok m) → message_fails p q w k m ≡ true
  so_message m f = all (is_failing_message m) _ f.0
      (all (not (marked_seen k q.ledger.books.requests)) _ (ap not (kq.ledger.books.requests.marks k ∙ f.1)) (ap not (asked ∙ f.2)))

  error_so : (e : Error) → error_fails c (cached_by cache) p q w k e ≡ true → FailsBy c s k past w h (Err e)
  error_so e t = go (either (is_failure e) _ t)
    where
      go : (is_failure e ≡ true) ⊎ ((is_unreadable e && (not (asked_here k w p.ledger.books) && not (came_unread c (cached_by cache) p q k))) ≡ true) → FailsBy c s k past w h (Err e)
      go (inl i) = inl i
      go (inr i) =
          let a = both (is_unreadable e) _ i in
          let b = both (not (asked_here k w p.ledger.books)) _ a.1 in
          inr (unreadable_is e a.0, sym asked ∙ not_true (asked_here k w p.ledger.books) b.0, λ u. clash (came_unread c (cached_by cache) p q k) (so_unread u) (not_true (came_unread c (cached_by cache) p q k) b.1))

  so_error : (e : Error) → FailsBy c s k past w h (Err e) → error_fails c (cached_by cache) p q w k e ≡ true
  so_error e (inl i) = first_true (is_failure e) _ i
  so_error e (inr f) = second_true (is_failure e) _
      (all (is_unreadable e) _ (ap is_unreadable f.0)
      (all (not (asked_here k w p.ledger.books)) _ (ap not (asked ∙ f.1))
      (ap not (of_none (came_unread c (cached_by cache) p q k) (λ u. f.2 (unread_so u))))))

  -- a reply lets the request fail
  pub fails_tells : (x : Result Octets Error) → Tells (FailsBy c s k past w h x) (fails_by c (cached_by cache) p q w k x)
  fails_tells (Ok m) = (message_so m, so_message m)
  fails_tells (Err e) = (error_so e, so_error e)

-- outs of a row
module _ (c : Conf) (cache : CacheSettings) (s : Settings) (has : HasCache cache s) (past : History) (p : Pass) (kp : pass.Known c past p) (w : What) (k : ℕ) where
  abbrev fails : Pass → Out → Bool
  fails q o = is_number k (failing c (cached_by cache) p q w o)

  known_out : (h : History) (q : Pass) (o : Out) → pass.Known c h q → newest h ≡ w → pass.Known c (Put o ∷ h) (pass.has_put w o q)
  known_out h q o kq is = subst (λ w. pass.Known c (Put o ∷ h) (pass.has_put w o q)) is ((passes.goes_on c).out h o q kq)

  -- it fails by an out
  fails_here : (h : History) (q : Pass) (kq : pass.Known c h q) → row_before h ≡ past → newest h ≡ w → (o : Out) → fails q o ≡ true → (x : Result Octets Error) × (o ≡ Reply k x) × FailsBy c s k past w h x
  fails_here h q kq before is (Reply j x) e = go (fails_by c (cached_by cache) p q w j x) refl e
    where
      go : (b : Bool) → fails_by c (cached_by cache) p q w j x ≡ b → is_number k (if b then Some j else None) ≡ true → (y : Result Octets Error) × (Reply j x ≡ Reply k y) × FailsBy c s k past w h y
      go true i n =
          let same = same_number j k n in
          (x, ap (λ j. Reply j x) same, (fails_tells c cache s has past h p q kp kq before w is k x).0 (subst (λ j. fails_by c (cached_by cache) p q w j x ≡ true) same i))
      go false i n = absurd (cc)
  fails_here h q kq before is (Start j t u) e = absurd (cc)
  fails_here h q kq before is (OpenDgram r t) e = absurd (cc)
  fails_here h q kq before is (OpenStream r t) e = absurd (cc)
  fails_here h q kq before is (Send r j i o) e = absurd (cc)
  fails_here h q kq before is (Write r j i o) e = absurd (cc)
  fails_here h q kq before is (Resume r o) e = absurd (cc)
  fails_here h q kq before is (Close r) e = absurd (cc)
  fails_here h q kq before is (Stale j) e = absurd (cc)

  so_fails : (h : History) (q : Pass) (kq : pass.Known c h q) → row_before h ≡ past → newest h ≡ w → (o : Out) (x : Result Octets Error) → o ≡ Reply k x → FailsBy c s k past w h x → fails q o ≡ true
  so_fails h q kq before is o x i f =
      ap (fails q) i
      ∙ (ap (λ b. is_number k (if b then Some k else None)) ((fails_tells c cache s has past h p q kp kq before w is k x).1 f) ∙ own_number k)

  pub some_fails : (os : List Out) (h : History) (q : Pass) → pass.Known c h q → row_before h ≡ past → newest h ≡ w → fails_in c (cached_by cache) p q w k os ≡ true → NoneFails c s k past w h os → ⊥
  some_fails [] h q kq before is e none = absurd (cc)
  some_fails (o ∷ os) h q kq before is e none = go (some_fails os (Put o ∷ h) (pass.has_put w o q) (known_out h q o kq is) before is) (fails q o) refl e
    where
      go : (fails_in c (cached_by cache) p (pass.has_put w o q) w k os ≡ true → NoneFails c s k past w (Put o ∷ h) os → ⊥) → (b : Bool) → fails q o ≡ b → (b || fails_in c (cached_by cache) p (pass.has_put w o q) w k os) ≡ true → ⊥
      go rest true i n = let f = fails_here h q kq before is o i in none.0 f.0 f.1 f.2
      go rest false i n = rest n none.1

  pub none_fails : (os : List Out) (h : History) (q : Pass) → pass.Known c h q → row_before h ≡ past → newest h ≡ w → fails_in c (cached_by cache) p q w k os ≡ false → NoneFails c s k past w h os
  none_fails [] h q kq before is e = tt
  none_fails (o ∷ os) h q kq before is e =
      let n = not_or (fails q o) (fails_in c (cached_by cache) p (pass.has_put w o q) w k os) e in
      ((λ x i f. clash (fails q o) (so_fails h q kq before is o x i f) n.0), none_fails os (Put o ∷ h) (pass.has_put w o q) (known_out h q o kq is) before is n.1)
