-- What is kept of replies is what the definitions say, and goes on.
use Rattle.std.proofs.Common.{◌≡◌, ◌≤◌, ℕ, Bool, true, false, ◌⊎◌, inl, inr, List, [], ◌∷◌, refl, sym, ap, ◌∙◌, subst, arith}
use Rattle.std.specs.Prelude.{Option, Some, Ok, Err, if◌then◌else◌, max}
use Rattle.std.specs.Map.{lookup}
use Rattle.number_table.specs.Entries.{entry_at}
use Rattle.client_request.specs.declared.event.{Event.Event, Out.Out, Out.TheVariants.Reply, What.What}
use Rattle.right_trace.specs.Trace.{History, Conf, Came, Put, put_all, after}
use Rattle.right_trace.specs.Time.{now, newest, row_before, Ever}
use Rattle.right_trace.specs.{Settings.Settings, Parts.IsIn, Errors.DirectCause}
use Rattle.right_trace.specs.Requests.{Asking, asking}
use Rattle.right_trace.specs.Keys.{Key, key_of, is_cacheable}
use Rattle.right_trace.specs.Right.{OutRight, OutsRight}
use Rattle.right_trace.proofs.Asked.{asking_came}
use Rattle.cache_rules.specs.Key.{same_key, same_itself, same_is_equal}
use Rattle.message_judging.specs.declared.views.serving.Flags.{Flags}
use Rattle.message_judging.specs.views.Serving.{HasFlags}
use Rattle.trace_tables.specs.Lists.{list_or_none}
use Rattle.trace_tables.specs.declared.requests.Requests.{Requests}
use Rattle.trace_tables.specs.Requests as requests
use Rattle.trace_replies.specs.given.Asks.{common}
use Rattle.trace_replies.specs.declared.given.earlier.Earlier.{Earlier}
use Rattle.trace_replies.specs.given.Earlier.{Outcome, Table, replies_to, more, Adds, Stays, Keeps, Kept, Alone, IsGiven, is_worth, IsFreshHere, IsGivenHere, Steps, Gives, Others, IsKept, IsAmong, AreBefore, Known, IsTold, EachWasAsked, GoesOn}

-- ---- what was given, and where

no_event : (c : Conf) (s : Settings) (k : ℕ) (x : Outcome) (n : ℕ) (e : Event) (h : History) → IsGiven c s k x n (Came e ∷ h) → ⊥
no_event c s k (Ok m) n e h g = absurd (let z = g.put in cc)
no_event c s k (Err x) n e h g = absurd (let z = g.put in cc)

-- the newest out gave it
record GaveHere (c : Conf) (s : Settings) (k : ℕ) (x : Outcome) (n : ℕ) (o : Out) (h : History) : Type 0 where
  out : o ≡ Reply k x
  here : IsGivenHere c s k x h
  at : now h ≡ n

gave_here : (c : Conf) (s : Settings) (k : ℕ) (x : Outcome) (n : ℕ) (o : Out) (h : History) → IsGiven c s k x n (Put o ∷ h) → GaveHere c s k x n o h
gave_here c s k (Ok m) n o h g =
    let z = g.put in
    let out : o ≡ Reply k (Ok m) = cc in
    let rest : g.before ≡ h = cc in
    let here : IsFreshHere c s k m g.before = record { unmarked = g.unmarked; fresh = g.fresh } in
    record { out = out; here = subst (IsFreshHere c s k m) rest here; at = g.at }
gave_here c s k (Err x) n o h g =
    let z = g.put in
    let out : o ≡ Reply k (Err x) = cc in
    let rest : g.before ≡ h = cc in
    record { out = out; here = subst (λ h. DirectCause c s k (row_before h) (newest h) h x) rest g.cause; at = g.at }

here_gave : (c : Conf) (s : Settings) (k : ℕ) (x : Outcome) (n : ℕ) (o : Out) (h : History) → GaveHere c s k x n o h → IsGiven c s k x n (Put o ∷ h)
here_gave c s k (Ok m) n o h g = record { before = h; put = ap (λ o. Put o ∷ h) g.out; unmarked = g.here.unmarked; fresh = g.here.fresh; at = g.at }
here_gave c s k (Err x) n o h g = record { before = h; put = ap (λ o. Put o ∷ h) g.out; cause = g.here; at = g.at }

-- ---- what was given was given to requests that were asked

event_asked : (c : Conf) (s : Settings) (h : History) (e : Event) → EachWasAsked c s h → EachWasAsked c s (Came e ∷ h)
event_asked c s h e asked k x n (inl g) = absurd (no_event c s k x n e h g)
event_asked c s h e asked k x n (inr g) = let a = asked k x n g in (a.0, asking_came k a.0 e h a.1)

module _ (c : Conf) (s : Settings) (past : History) (w : What) (end : History) where
  out_asked : (o : Out) (h : History) → OutRight c s past w h end o → EachWasAsked c s h → EachWasAsked c s (Put o ∷ h)
  out_asked o h right asked k x n (inl g) = let r = subst (OutRight c s past w h end) (gave_here c s k x n o h g).out right in r.0.asked
  out_asked o h right asked k x n (inr g) = asked k x n g

  outs_asked : (os : List Out) (h : History) → OutsRight c s past w end h os → EachWasAsked c s h → EachWasAsked c s (put_all os h)
  outs_asked [] h right asked = asked
  outs_asked (o ∷ os) h right asked = outs_asked os (Put o ∷ h) right.1 (out_asked o h right.0 asked)

-- ---- lists

in_more : (its k : Key) (e z : Earlier) (es : List Earlier) → IsIn z es → IsIn z (more its e k es)
in_more its k e z es i = go (same_key its k)
  where
    go : (b : Bool) → IsIn z (if b then e ∷ es else es)
    go true = inr i
    go false = i

first_more : (its k : Key) (e : Earlier) (es : List Earlier) → its ≡ k → IsIn e (more its e k es)
first_more its k e es is = subst (λ b. IsIn e (if b then e ∷ es else es)) (sym (ap (same_key its) (sym is) ∙ same_itself its)) (inl refl)

-- it is the one that was added, or was there
more_in : (its k : Key) (e z : Earlier) (es : List Earlier) → IsIn z (more its e k es) → ((its ≡ k) × (e ≡ z)) ⊎ IsIn z es
more_in its k e z es i = go (same_key its k) refl i
  where
    go : (b : Bool) → same_key its k ≡ b → IsIn z (if b then e ∷ es else es) → ((its ≡ k) × (e ≡ z)) ⊎ IsIn z es
    go true q (inl is) = inl (same_is_equal its k q, is)
    go true q (inr i) = inr i
    go false q i = inr i

later : (n m : ℕ) (es : List Earlier) → n ≤ m → AreBefore n es → AreBefore m es
later n m [] le a = tt
later n m (e ∷ es) le a = ((let x = a.0 in omega arith), a.1)

before_more : (its k : Key) (e : Earlier) (n : ℕ) (es : List Earlier) → e.moment ≡ n → AreBefore n es → AreBefore n (more its e k es)
before_more its k e n es is a = go (same_key its k)
  where
    go : (b : Bool) → AreBefore n (if b then e ∷ es else es)
    go true = ((let q = is in omega arith), subst (λ n. AreBefore n es) (sym is) a)
    go false = a

same_asking : (o : Option Asking) (a b : Asking) → o ≡ Some a → o ≡ Some b → a ≡ b
same_asking o a b p q = let z : Some a ≡ Some b = sym p ∙ q in cc

-- ---- an event

module _ (c : Conf) (s : Settings) (h : History) (t : Table) (e : Event) (asked : EachWasAsked c s h) (known : Known c s h t) where
  ever_before : (k : ℕ) (x : Outcome) (n : ℕ) → Ever (IsGiven c s k x n) (Came e ∷ h) → Ever (IsGiven c s k x n) h
  ever_before k x n (inl g) = absurd (no_event c s k x n e h g)
  ever_before k x n (inr g) = g

  on_event : Known c s (Came e ∷ h) t
  on_event = record {
    so = λ k z i. (
        let q = known.so k z i in
        record { asked_as = q.asked_as; asked = asking_came z.request q.asked_as e h q.asked; cacheable = q.cacheable; key = q.key; flags = q.flags; got = inr q.got; past = (let p = q.past in later_now z.moment p) });
    back = λ k x n a g worth asks cacheable. (
        let g' = ever_before k x n g in
        let b = asked k x n g' in
        let is = same_asking (asking k (Came e ∷ h)) b.0 a (asking_came k b.0 e h b.1) asks in
        known.back k x n a g' worth (b.1 ∙ ap Some is) cacheable);
    order = λ k. later (now h) (now (Came e ∷ h)) (replies_to k t) (rises e.moment.0 (now h)) (known.order k);
  }
    where
      rises : (m n : ℕ) → n ≤ max m n
      rises m n = omega arith

      later_now : (m : ℕ) → m ≤ now h → m ≤ now (Came e ∷ h)
      later_now m le = let r = rises e.moment.0 (now h) in omega arith

-- ---- an out

module _ (c : Conf) (s : Settings) (h : History) (r : Requests) (old new : Table) (o : Out) (given : Bool) (kr : requests.Known h r) (told : IsTold c s o given h) (known : Known c s h old) where
  kept_then : (k : Key) (z : Earlier) → IsKept c s k z h → IsKept c s k z (Put o ∷ h)
  kept_then k z q = record { asked_as = q.asked_as; asked = q.asked; cacheable = q.cacheable; key = q.key; flags = q.flags; got = inr q.got; past = q.past }

  -- nothing is kept of the out
  stays : (put : (k : ℕ) (x : Outcome) (n : ℕ) (a : Asking) → GaveHere c s k x n o h → is_worth s x ≡ true → asking k h ≡ Some a → is_cacheable a.request ≡ true → ⊥) → Stays old new → Known c s (Put o ∷ h) new
  stays put same = record {
    so = λ k z i. kept_then k z (known.so k z (subst (IsIn z) (same k) i));
    back = λ k x n a g worth asks cacheable. go k x n a g worth asks cacheable;
    order = λ k. subst (AreBefore (now h)) (sym (same k)) (known.order k);
  }
    where
      go : (k : ℕ) (x : Outcome) (n : ℕ) (a : Asking) → Ever (IsGiven c s k x n) (Put o ∷ h) → is_worth s x ≡ true → asking k h ≡ Some a → is_cacheable a.request ≡ true → IsAmong a k x n (replies_to (common (key_of a.request)) new)
      go k x n a (inl g) worth asks cacheable = absurd (put k x n a (gave_here c s k x n o h g) worth asks cacheable)
      go k x n a (inr g) worth asks cacheable =
          let b = known.back k x n a g worth asks cacheable in
          record { flags = b.flags; has = b.has; there = subst (IsIn _) (sym (same (common (key_of a.request)))) b.there }

  -- a reply is kept
  module _ (k : ℕ) (x : Outcome) (is : o ≡ Reply k x) (holds : given ≡ true) where
    here : IsGivenHere c s k x h
    here = (told k x is).0 holds

    module _ (a : Asking) (f : Flags) (asks : entry_at k r.askings ≡ Some a) (cacheable : is_cacheable a.request ≡ true) (has : HasFlags a.request f) where
      abbrev its : Key
      its = common (key_of a.request)

      abbrev reply : Earlier
      reply = record { request = k; flags = f; moment = r.clock; outcome = x }

      was_asked : asking k h ≡ Some a
      was_asked = sym (kr.askings k) ∙ asks

      reply_kept : IsKept c s its reply (Put o ∷ h)
      reply_kept = record {
        asked_as = a;
        asked = was_asked;
        cacheable = cacheable;
        key = refl;
        flags = has;
        got = inl (here_gave c s k x r.clock o h (record { out = is; here = here; at = sym kr.time }));
        past = (let t = kr.time in omega arith);
      }

      same_reply : (j : ℕ) (y : Outcome) → Reply k x ≡ Reply j y → (k ≡ j) × (x ≡ y)
      same_reply j y e = (cc, cc)

      adds : Adds its reply old new → Known c s (Put o ∷ h) new
      adds add = record {
        so = λ j z i. either j z (more_in its j reply z (replies_to j old) (subst (IsIn z) (add j) i));
        back = λ j y n b g worth asks_b cacheable_b. go j y n b g worth asks_b cacheable_b;
        order = λ j. subst (AreBefore (now h)) (sym (add j)) (before_more its j reply (now h) (replies_to j old) kr.time (known.order j));
      }
        where
          either : (j : Key) (z : Earlier) → ((its ≡ j) × (reply ≡ z)) ⊎ IsIn z (replies_to j old) → IsKept c s j z (Put o ∷ h)
          either j z (inl e) = subst (λ z. IsKept c s j z (Put o ∷ h)) e.1 (subst (λ j. IsKept c s j reply (Put o ∷ h)) e.0 reply_kept)
          either j z (inr i) = kept_then j z (known.so j z i)

          at_once : (j : ℕ) (y : Outcome) (n : ℕ) (b : Asking) → k ≡ j → x ≡ y → r.clock ≡ n → asking j h ≡ Some b → IsAmong b j y n (replies_to (common (key_of b.request)) new)
          at_once j y n b ek ex en asks_b =
              let same : a ≡ b = same_asking (asking j h) a b (ap (λ k. asking k h) (sym ek) ∙ was_asked) asks_b in
              let e : reply ≡ record { request = j; flags = f; moment = n; outcome = y } = cc in
              record {
                flags = f;
                has = subst (λ (a : Asking). HasFlags a.request f) same has;
                there = subst (λ z. IsIn z (replies_to (common (key_of b.request)) new)) e
                    (subst (IsIn reply) (sym (add (common (key_of b.request)))) (first_more its (common (key_of b.request)) reply (replies_to (common (key_of b.request)) old) (ap (λ (a : Asking). common (key_of a.request)) same)));
              }

          go : (j : ℕ) (y : Outcome) (n : ℕ) (b : Asking) → Ever (IsGiven c s j y n) (Put o ∷ h) → is_worth s y ≡ true → asking j h ≡ Some b → is_cacheable b.request ≡ true → IsAmong b j y n (replies_to (common (key_of b.request)) new)
          go j y n b (inl g) worth asks_b cacheable_b =
              let q = gave_here c s j y n o h g in
              let same = same_reply j y (sym is ∙ q.out) in
              at_once j y n b same.0 same.1 (kr.time ∙ q.at) asks_b
          go j y n b (inr g) worth asks_b cacheable_b =
              let w = known.back j y n b g worth asks_b cacheable_b in
              record { flags = w.flags; has = w.has; there = subst (IsIn _) (sym (add (common (key_of b.request)))) (in_more its (common (key_of b.request)) reply _ (replies_to (common (key_of b.request)) old) w.there) }

    alone : ((a : Asking) → entry_at k r.askings ≡ Some a → is_cacheable a.request ≡ true → ⊥) → Stays old new → Known c s (Put o ∷ h) new
    alone none same = stays put same
      where
        put : (j : ℕ) (y : Outcome) (n : ℕ) (a : Asking) → GaveHere c s j y n o h → is_worth s y ≡ true → asking j h ≡ Some a → is_cacheable a.request ≡ true → ⊥
        put j y n a g worth asks cacheable =
            let z : Reply k x ≡ Reply j y = sym is ∙ g.out in
            let ek : k ≡ j = cc in
            none a (kr.askings k ∙ (ap (λ k. asking k h) ek ∙ asks)) cacheable

    keeps : Keeps r k x old new → Known c s (Put o ∷ h) new
    keeps (Kept a f asks cacheable has add) = adds a f asks cacheable has add
    keeps (Alone none same) = alone none same

  on_out : Steps s r o given old new → Known c s (Put o ∷ h) new
  on_out (Gives k x is holds keep) = keeps k x is holds keep
  on_out (Others none same) = stays (λ k x n a g worth asks cacheable. none k x g.out ((told k x g.out).1 g.here) worth) same

pub goes_on : GoesOn
goes_on = record {
  begins = λ c s. record { so = λ k e i. absurd i; back = λ k x n a g worth asks cacheable. absurd g; order = λ k. tt };
  rows = λ c s past row right asked. outs_asked c s past row.event.what (after row past) row.outs (Came row.event ∷ past) right.outs (event_asked c s past row.event asked);
  event = λ c s h t e asked known. on_event c s h t e asked known;
  out = λ c s h r old new o given kr told steps known. on_out c s h r old new o given kr told known steps;
}

-- ---- how a table is written

-- the replies to a question are taken out, and put in with one more
pub put_back : (its : Key) (e : Earlier) (old mid new : Table) (kept : List Earlier) → kept ≡ replies_to its old
    → ((q : Key) → same_key its q ≡ false → lookup (same_key q) mid ≡ lookup (same_key q) old)
    → ((q : Key) → lookup (same_key q) new ≡ (if same_key its q then Some (e ∷ kept) else lookup (same_key q) mid)) → Adds its e old new
put_back its e old mid new kept is rest put q = ap list_or_none (put q) ∙ go (same_key its q) refl
  where
    go : (b : Bool) → same_key its q ≡ b → list_or_none (if b then Some (e ∷ kept) else lookup (same_key q) mid) ≡ (if b then e ∷ replies_to q old else replies_to q old)
    go true i = ap (λ es. e ∷ es) (is ∙ ap (λ k. replies_to k old) (same_is_equal its q i))
    go false i = ap list_or_none (rest q i)
