-- What is found of tries, of silence and of deadlines is what the definitions say.
use Rattle.std.proofs.Common.{◌≡◌, ℕ, suc, ◌+◌, ◌≤◌, ◌==◌, ◌&&◌, ◌||◌, ◌⊎◌, inl, inr, not, nat_le, Bool, true, false, if◌then◌else◌, List, [], ◌∷◌, Option, Some, None, refl, sym, ap, ◌∙◌, arith}
use Rattle.std.proofs.lemmas.Bool.Decides.{nat_tests}
use Rattle.number_table.specs.Entries.{entry_at}
use Rattle.client_request.specs.declared.event.Via.{Via}
use Rattle.client_request.specs.declared.event.Via.TheVariants.{Dgram, Stream}
use Rattle.right_trace.specs.Trace.{History, Conf}
use Rattle.right_trace.specs.Time.{read_timeout, stream_timeout, max_tries}
use Rattle.right_trace.specs.Settings.{Settings}
use Rattle.right_trace.specs.Requests.{Asking, asking, same_via}
use Rattle.right_trace.specs.Places.{is_live, stand}
use Rattle.right_trace.specs.Causes.{Try, TriesAreUp, StreamIsSilent}
use Rattle.right_trace.specs.Right.{IsOverdue, PastDeadline, PastTries, PastStream}
use Rattle.trace_tables.specs.declared.books.Books.{Books}
use Rattle.trace_tables.specs.declared.places.Place.{Place}
use Rattle.trace_tables.specs.declared.requests.Started.{Started}
use Rattle.trace_tables.specs.declared.sends.Tried.{Tried}
use Rattle.trace_tables.specs.Requests.{start_of, start_seen, past_at}
use Rattle.trace_tables.specs.Sends.{count_at, last_at}
use Rattle.trace_tables.specs.Lists.{listed}
use Rattle.trace_tables.specs.Books as books
use Rattle.trace_points.specs.questions.Searching.{live_seen}
use Rattle.trace_points.proofs.lemmas.due.ReadTimers.{both, all}
use Rattle.trace_errors.specs.promptness.Heard.{Heards, heard_seen}
use Rattle.trace_errors.specs.promptness.Heard as heards
use Rattle.trace_errors.specs.promptness.Overdue.{is_lost, are_up_at, are_up_among, tries_are_up, is_over, is_silent_at, is_silent_among, stream_is_silent, is_overdue, TellsTries, TellsSilence, TellsOverdue}

either : (a b : Bool) → (a || b) ≡ true → (a ≡ true) ⊎ (b ≡ true)
either true b e = inl refl
either false b e = inr e

pub first_true : (a b : Bool) → a ≡ true → (a || b) ≡ true
first_true a b e = ap (λ a. a || b) e

pub second_true : (a b : Bool) → b ≡ true → (a || b) ≡ true
second_true true b e = refl
second_true false b e = e

pub not_true : (b : Bool) → not b ≡ true → b ≡ false
not_true true e = absurd (cc)
not_true false e = refl

same_number : (a b : ℕ) → (a == b) ≡ true → a ≡ b
same_number a b e = grind (arith, nat_tests)

own : (a : ℕ) → (a == a) ≡ true
own a = grind (arith, nat_tests)

at_most : (a b : ℕ) → nat_le a b ≡ true → a ≤ b
at_most a b e = grind (arith, nat_tests)

most_at : (a b : ℕ) → a ≤ b → nat_le a b ≡ true
most_at a b e = grind (arith, nat_tests)

-- tries

record Lost (c : Conf) (n : ℕ) (past : List (ℕ × Place)) (o : Option Try) : Type 0 where
  last : Try
  is : o ≡ Some last
  old : last.moment + read_timeout c ≤ n
  lived : live_seen (entry_at last.place past) ≡ true

lost_so : (c : Conf) (n : ℕ) (past : List (ℕ × Place)) (o : Option Try) → is_lost c n past o ≡ true → Lost c n past o
lost_so c n past None e = absurd (cc)
lost_so c n past (Some t) e = (let q = both (nat_le (t.moment + read_timeout c) n) (live_seen (entry_at t.place past)) e in record { last = t; is = refl; old = at_most (t.moment + read_timeout c) n q.0; lived = q.1 })

so_lost : (c : Conf) (n : ℕ) (past : List (ℕ × Place)) (o : Option Try) → Lost c n past o → is_lost c n past o ≡ true
so_lost c n past o l = ap (is_lost c n past) l.is ∙ all (nat_le (l.last.moment + read_timeout c) n) (live_seen (entry_at l.last.place past)) (most_at (l.last.moment + read_timeout c) n l.old) l.lived

some_up : (c : Conf) (n : ℕ) (past : List (ℕ × Place)) (ts xs : List Tried) → are_up_among c n past ts xs ≡ true → (s : ℕ) × (are_up_at c n past ts s ≡ true)
some_up c n past ts [] e = absurd (cc)
some_up c n past ts (x ∷ xs) e = go (some_up c n past ts xs) (either (are_up_at c n past ts x.server) (are_up_among c n past ts xs) e)
  where
    go : (are_up_among c n past ts xs ≡ true → (s : ℕ) × (are_up_at c n past ts s ≡ true)) → (are_up_at c n past ts x.server ≡ true) ⊎ (are_up_among c n past ts xs ≡ true) → (s : ℕ) × (are_up_at c n past ts s ≡ true)
    go rest (inl e) = (x.server, e)
    go rest (inr e) = rest e

up_some : (c : Conf) (n : ℕ) (past : List (ℕ × Place)) (ts xs : List Tried) (s m : ℕ) → count_at s xs ≡ suc m → are_up_at c n past ts s ≡ true → are_up_among c n past ts xs ≡ true
up_some c n past ts [] s m e u = absurd (cc)
up_some c n past ts (x ∷ xs) s m e u = go (λ e. up_some c n past ts xs s m e u) (x.server == s) refl e
  where
    go : (count_at s xs ≡ suc m → are_up_among c n past ts xs ≡ true) → (b : Bool) → (x.server == s) ≡ b → (if b then suc (count_at s xs) else count_at s xs) ≡ suc m → (are_up_at c n past ts x.server || are_up_among c n past ts xs) ≡ true
    go rest true i e = first_true _ _ (ap (are_up_at c n past ts) (same_number x.server s i) ∙ u)
    go rest false i e = second_true _ _ (rest e)

module _ (c : Conf) (k n : ℕ) (bp bh : Books) (x h : History) (kp : books.Known x bp) (kh : books.Known h bh) where
  lived : (p : ℕ) → live_seen (entry_at p bp.places) ≡ is_live (stand p x)
  lived p = ap is_live (kp.places.stands p)

  tries_so : tries_are_up c k n bp.places bh ≡ true → TriesAreUp c k n x h
  unfolding read_timeout
  tries_so e =
      let ts = listed k bh.sends.tries in
      let s = some_up c n bp.places ts ts e in
      let q = both (count_at s.0 ts == max_tries c) (is_lost c n bp.places (last_at s.0 ts)) s.1 in
      let l = lost_so c n bp.places (last_at s.0 ts) q.1 in
      record {
        server = s.0;
        all = sym (kh.sends.counts k s.0) ∙ same_number (count_at s.0 ts) (max_tries c) q.0;
        last = l.last;
        is_last = sym (kh.sends.lasts k s.0) ∙ l.is;
        old = l.old;
        lived = sym (lived l.last.place) ∙ l.lived;
      }

  so_tries : TriesAreUp c k n x h → tries_are_up c k n bp.places bh ≡ true
  unfolding read_timeout max_tries
  so_tries t =
      let ts = listed k bh.sends.tries in
      let count : count_at t.server ts ≡ max_tries c = kh.sends.counts k t.server ∙ t.all in
      up_some c n bp.places ts ts t.server c.transports.dgram_max_retries count
      (all (count_at t.server ts == max_tries c) _ (ap (λ m. m == max_tries c) count ∙ own (max_tries c))
      (so_lost c n bp.places (last_at t.server ts) (record { last = t.last; is = kh.sends.lasts k t.server ∙ t.is_last; old = t.old; lived = lived t.last.place ∙ t.lived })))

pub tells_tries : (c : Conf) (k n : ℕ) (past here : Books) (b : Bool) → b ≡ tries_are_up c k n past.places here → TellsTries c k n past here b
tells_tries c k n past here b e x h kp kh = ((λ u. tries_so c k n past here x h kp kh (sym e ∙ u)), (λ t. e ∙ so_tries c k n past here x h kp kh t))

-- silence

record Over (c : Conf) (n : ℕ) (o : Option ℕ) : Type 0 where
  begun : ℕ
  is : o ≡ Some begun
  passed : begun + stream_timeout c ≤ n

over_so : (c : Conf) (n : ℕ) (o : Option ℕ) → is_over c n o ≡ true → Over c n o
over_so c n None e = absurd (cc)
over_so c n (Some t) e = record { begun = t; is = refl; passed = at_most (t + stream_timeout c) n e }

so_over : (c : Conf) (n : ℕ) (o : Option ℕ) → Over c n o → is_over c n o ≡ true
so_over c n o v = ap (is_over c n) v.is ∙ most_at (v.begun + stream_timeout c) n v.passed

same_kind : (a b : Via) → same_via a b ≡ true → a ≡ b
same_kind Dgram Dgram e = refl
same_kind Stream Stream e = refl
same_kind Dgram Stream e = absurd (cc)
same_kind Stream Dgram e = absurd (cc)

module _ (c : Conf) (k n : ℕ) (bp : Books) (heard : Heards) (x : History) (kp : books.Known x bp) (kh : heards.Known c x heard) where
  -- a server that is silent
  abbrev IsSilent : ℕ → Type 0
  IsSilent s = (is_over c n (start_seen k s Stream bp.requests) ≡ true) × (heard_seen k s heard ≡ false)

  some_silent : (xs : List Started) → is_silent_among c k n bp.requests heard xs ≡ true → (s : ℕ) × IsSilent s
  some_silent [] e = absurd (cc)
  some_silent (y ∷ ys) e = go (some_silent ys) (either (is_silent_at c k n bp.requests heard y) (is_silent_among c k n bp.requests heard ys) e)
    where
      go : (is_silent_among c k n bp.requests heard ys ≡ true → (s : ℕ) × IsSilent s) → (is_silent_at c k n bp.requests heard y ≡ true) ⊎ (is_silent_among c k n bp.requests heard ys ≡ true) → (s : ℕ) × IsSilent s
      go rest (inl e) =
          let q = both (is_over c n (start_seen k y.server Stream bp.requests)) _ (both (same_via y.via Stream) _ e).1 in
          (y.server, (q.0, not_true (heard_seen k y.server heard) q.1))
      go rest (inr e) = rest e

  silent_some : (s b : ℕ) → IsSilent s → (xs : List Started) → start_of s Stream xs ≡ Some b → is_silent_among c k n bp.requests heard xs ≡ true
  silent_some s b is [] e = absurd (cc)
  silent_some s b is (y ∷ ys) e = go (silent_some s b is ys) (same_via y.via Stream) refl (y.server == s) refl e
    where
      go : (start_of s Stream ys ≡ Some b → is_silent_among c k n bp.requests heard ys ≡ true) → (a : Bool) → same_via y.via Stream ≡ a → (d : Bool) → (y.server == s) ≡ d → (if a && d then Some y.moment else start_of s Stream ys) ≡ Some b → (is_silent_at c k n bp.requests heard y || is_silent_among c k n bp.requests heard ys) ≡ true
      go rest true i true j e =
          let q = same_number y.server s j in
          first_true _ _ (all (same_via y.via Stream) _ i (all (is_over c n (start_seen k y.server Stream bp.requests)) _ (ap (λ s. is_over c n (start_seen k s Stream bp.requests)) q ∙ is.0) (ap (λ s. not (heard_seen k s heard)) q ∙ ap not is.1)))
      go rest true i false j e = second_true _ _ (rest e)
      go rest false i d j e = second_true _ _ (rest e)

  silence_so : stream_is_silent c k n bp.requests heard ≡ true → StreamIsSilent c k n x
  unfolding stream_timeout
  silence_so e =
      let s = some_silent (listed k bp.requests.starts) e in
      let v = over_so c n (start_seen k s.0 Stream bp.requests) s.1.0 in
      record {
        server = s.0;
        begun = v.begun;
        is_begun = sym (kp.requests.starts k s.0 Stream) ∙ v.is;
        passed = v.passed;
        silent = λ w. (let t = kh.back k s.0 w in let f = s.1.1 in let z : true ≡ false = sym t ∙ f in cc);
      }

  unheard : (s : ℕ) → (heards.WasHeard c k s x → ⊥) → (b : Bool) → heard_seen k s heard ≡ b → b ≡ false
  unheard s none false e = refl
  unheard s none true e = absurd (none (kh.so k s e))

  so_silence : StreamIsSilent c k n x → stream_is_silent c k n bp.requests heard ≡ true
  unfolding stream_timeout
  so_silence q =
      let is = kp.requests.starts k q.server Stream ∙ q.is_begun in
      let non = unheard q.server q.silent (heard_seen k q.server heard) refl in
      silent_some q.server q.begun (so_over c n (start_seen k q.server Stream bp.requests) (record { begun = q.begun; is = is; passed = q.passed }), non) (listed k bp.requests.starts) is

pub tells_silence : (c : Conf) (k n : ℕ) (past : Books) (heard : Heards) (b : Bool) → b ≡ stream_is_silent c k n past.requests heard → TellsSilence c k n past heard b
tells_silence c k n past heard b e x kp kh = ((λ u. silence_so c k n past heard x kp kh (sym e ∙ u)), (λ q. e ∙ so_silence c k n past heard x kp kh q))

-- all of it

module _ (c : Conf) (s : Settings) (k n : ℕ) (bp : Books) (heard : Heards) (x : History) (kp : books.Known x bp) (kh : heards.Known c x heard) where
  past_so : (o : Option Asking) → asking k x ≡ o → past_at c.timeout n o ≡ true → IsOverdue c s k n x
  past_so None i e = absurd (cc)
  past_so (Some a) i e = PastDeadline a i (at_most (a.moment + c.timeout) n e)

  deadline_so : past_at c.timeout n (entry_at k bp.requests.askings) ≡ true → IsOverdue c s k n x
  deadline_so e = past_so (asking k x) refl (ap (past_at c.timeout n) (sym (kp.requests.askings k)) ∙ e)

  overdue_so : is_overdue c s k n bp heard ≡ true → IsOverdue c s k n x
  overdue_so e = go (either (past_at c.timeout n (entry_at k bp.requests.askings)) _ e)
    where
      more : s.defers_errors ≡ false → (tries_are_up c k n bp.places bp ≡ true) ⊎ (stream_is_silent c k n bp.requests heard ≡ true) → IsOverdue c s k n x
      more f (inl e) = PastTries f (tries_so c k n bp bp x x kp kp e)
      more f (inr e) = PastStream f (silence_so c k n bp heard x kp kh e)

      go : (past_at c.timeout n (entry_at k bp.requests.askings) ≡ true) ⊎ ((not s.defers_errors && (tries_are_up c k n bp.places bp || stream_is_silent c k n bp.requests heard)) ≡ true) → IsOverdue c s k n x
      go (inl e) = deadline_so e
      go (inr e) =
          let q = both (not s.defers_errors) (tries_are_up c k n bp.places bp || stream_is_silent c k n bp.requests heard) e in
          more (not_true s.defers_errors q.0) (either (tries_are_up c k n bp.places bp) (stream_is_silent c k n bp.requests heard) q.1)

  so_overdue : IsOverdue c s k n x → is_overdue c s k n bp heard ≡ true
  so_overdue (PastDeadline a i le) = first_true _ _ (ap (past_at c.timeout n) (kp.requests.askings k ∙ i) ∙ most_at (a.moment + c.timeout) n le)
  so_overdue (PastTries f t) = second_true _ _ (all (not s.defers_errors) _ (ap not f) (first_true _ _ (so_tries c k n bp bp x x kp kp t)))
  so_overdue (PastStream f q) = second_true _ _ (all (not s.defers_errors) _ (ap not f) (second_true _ _ (so_silence c k n bp heard x kp kh q)))

pub tells_overdue : (c : Conf) (s : Settings) (k n : ℕ) (past : Books) (heard : Heards) (b : Bool) → b ≡ is_overdue c s k n past heard → TellsOverdue c s k n past heard b
tells_overdue c s k n past heard b e x kp kh = ((λ u. overdue_so c s k n past heard x kp kh (sym e ∙ u)), (λ o. e ∙ so_overdue c s k n past heard x kp kh o))
