-- What is kept of back-offs goes on.
use Rattle.std.proofs.Common.{◌≡◌, ℕ, ◌+◌, ◌<◌, ◌≤◌, ◌==◌, ◌&&◌, ◌||◌, ◌⊎◌, inl, inr, max, Bool, true, false, if◌then◌else◌, List, [], ◌∷◌, Option, Some, None, refl, sym, ap, ap₂, ◌∙◌, subst, arith}
use Rattle.std.specs.Prelude.{nat_le, nat_lt}
use Rattle.std.proofs.lemmas.Bool.Decides.{nat_tests}
use Rattle.number_table.specs.Entries.{entry_at}
use Rattle.client_request.specs.declared.event.{Event.Event, What.What, Out.Out, Via.TheVariants.Stream}
use Rattle.client_request.specs.declared.event.What.TheVariants.{Ask, Opened, OpenFailed, SendFailed, ShortSend, Datagram, RecvFailed, Wrote, WriteFailed, Bytes, ReadFailed, Ended, Tick}
use Rattle.client_request.specs.declared.event.Out.TheVariants.{Start, OpenDgram, OpenStream, Send, Write, Resume, Close, Stale, Reply}
use Rattle.client_request.specs.declared.fault.Fault.{Fault}
use Rattle.right_trace.specs.Trace.{Item, History, Came, Put, Conf}
use Rattle.right_trace.specs.Time.{now, newest, Ever, back_off, id_count}
use Rattle.right_trace.specs.{Requests.same_via, Writes.held_with}
use Rattle.right_trace.specs.Places.{is_site, is_at, Stand, Unused, Opening, Alive, Gone, stand, is_opening, is_alive, is_live}
use Rattle.right_trace.specs.Busy.{EndsBadly, BreaksOff, OpeningFailed, OpeningFailedAtOnce, IdsAreUsed, ConnectionEnded, HappenedWithin}
use Rattle.trace_tables.specs.declared.places.{Place.Place, Stand.Stand as Seen}
use Rattle.trace_tables.specs.declared.places.Stand.TheVariants as seen
use Rattle.trace_tables.specs.Known.{stand_of, stand_seen, site_seen}
use Rattle.trace_tables.specs.Known as places_seen
use Rattle.trace_tables.proofs.Tables.{at_puts}
use Rattle.trace_points.proofs.lemmas.questions.Deciding.{both, all}
use Rattle.trace_tables.specs.sets.Sets.{Members, some_of}
use Rattle.trace_tables.proofs.lemmas.sets.Keeping as sets
use Rattle.trace_outs.specs.declared.loads.held.Held.{Held}
use Rattle.trace_outs.specs.loads.Held as held
use Rattle.trace_outs.specs.busy.Backs.{Backs, Known, GoesOn, TellsEnd, notes, fails, is_used, are_used, opens, closes, met, has_put, is_within}

-- numbers
le_so : (a b : ℕ) → nat_le a b ≡ true → a ≤ b
le_so a b e = grind (arith, nat_tests)

so_le : (a b : ℕ) → a ≤ b → nat_le a b ≡ true
so_le a b le = grind (arith, nat_tests)

lt_so : (a b : ℕ) → nat_lt a b ≡ true → a < b
lt_so a b e = grind (arith, nat_tests)

so_lt : (a b : ℕ) → a < b → nat_lt a b ≡ true
so_lt a b lt = grind (arith, nat_tests)

within_so : (n m : ℕ) → nat_lt n (m + 128000000) ≡ true → n < m + (back_off + back_off)
unfolding back_off
within_so n m e = lt_so n (m + 128000000) e

so_within : (n m : ℕ) → n < m + (back_off + back_off) → nat_lt n (m + 128000000) ≡ true
unfolding back_off
so_within n m lt = so_lt n (m + 128000000) lt

later : (n a b t : ℕ) → nat_lt n (a + t) ≡ true → a ≤ b → nat_lt n (b + t) ≡ true
later n a b t e le = so_lt n (b + t) (more n a b t (lt_so n (a + t) e) le)
  where
    more : (n a b t : ℕ) → n < a + t → a ≤ b → n < b + t
    more n a b t lt le = omega arith

trans : (a b c : ℕ) → a ≤ b → b ≤ c → a ≤ c
trans a b c le more = omega arith

same_number : (a b : ℕ) → (a == b) ≡ true → a ≡ b
same_number a b e = grind (arith, nat_tests)

own : (a : ℕ) → (a == a) ≡ true
own a = grind (arith, nat_tests)

now_grows : (i : Item) (h : History) → now h ≤ now (i ∷ h)
now_grows (Came e) h = right e.moment.0 (now h)
  where
    right : (a b : ℕ) → b ≤ max a b
    right a b = omega arith
now_grows (Put o) h = self (now h)
  where
    self : (a : ℕ) → a ≤ a
    self a = omega arith

abbrev some_or : Option ℕ → ℕ
some_or None = 0
some_or (Some a) = a

-- one item more, with which something broke off at some servers
grown : (c : Conf) (i : Item) (h : History) (t t' : Backs) (n : ℕ) (b : ℕ → Bool) → n ≡ now (i ∷ h) → Known c h t
    → ((s : ℕ) → entry_at s t' ≡ (if b s then Some n else entry_at s t)) → ((s : ℕ) → b s ≡ true → BreaksOff c s (i ∷ h)) → ((s : ℕ) → BreaksOff c s (i ∷ h) → b s ≡ true) → Known c (i ∷ h) t'
grown c i h t t' n b en is new so back = record { so = λ s m. so_one s m (b s) refl; back = λ s m. back_one s m (b s) refl; latest = λ s m. late s m (b s) refl }
  where
    so_one : (s m : ℕ) (d : Bool) → b s ≡ d → is_within m (entry_at s t') ≡ true → Ever (HappenedWithin c (back_off + back_off) s m) (i ∷ h)
    so_one s m true e w = inl (record {
      recent = subst (λ (n : ℕ). m < n + (back_off + back_off)) en (within_so m n (sym (ap (is_within m) (new s ∙ ap (λ d. if d then Some n else entry_at s t) e)) ∙ w));
      broke = so s e;
    })
    so_one s m false e w = inr (is.so s m (sym (ap (is_within m) (new s ∙ ap (λ d. if d then Some n else entry_at s t) e)) ∙ w))

    old : (s m : ℕ) → is_within m (entry_at s t) ≡ true → (o : Option ℕ) → entry_at s t ≡ o → nat_lt m (n + 128000000) ≡ true
    old s m w None e = absurd (let z : is_within m None ≡ true = sym (ap (is_within m) e) ∙ w in cc)
    old s m w (Some a) e = later m a n 128000000 (sym (ap (is_within m) e) ∙ w) (subst (λ (n : ℕ). a ≤ n) (sym en) (trans a (now h) (now (i ∷ h)) (is.latest s a e) (now_grows i h)))

    back_one : (s m : ℕ) (d : Bool) → b s ≡ d → Ever (HappenedWithin c (back_off + back_off) s m) (i ∷ h) → is_within m (entry_at s t') ≡ true
    back_one s m true e (inl r) = ap (is_within m) (new s ∙ ap (λ d. if d then Some n else entry_at s t) e) ∙ so_within m n (subst (λ (n : ℕ). m < n + (back_off + back_off)) (sym en) r.recent)
    back_one s m true e (inr r) = ap (is_within m) (new s ∙ ap (λ d. if d then Some n else entry_at s t) e) ∙ old s m (is.back s m r) (entry_at s t) refl
    back_one s m false e (inl r) = absurd (let z : true ≡ false = sym (back s r.broke) ∙ e in cc)
    back_one s m false e (inr r) = ap (is_within m) (new s ∙ ap (λ d. if d then Some n else entry_at s t) e) ∙ is.back s m r

    late : (s m : ℕ) (d : Bool) → b s ≡ d → entry_at s t' ≡ Some m → m ≤ now (i ∷ h)
    late s m true e w =
        let z : Some n ≡ Some m = sym (new s ∙ ap (λ d. if d then Some n else entry_at s t) e) ∙ w in
        let y : now (i ∷ h) ≡ m = sym en ∙ ap some_or z in
        self m (now (i ∷ h)) y
      where
        self : (m n : ℕ) → n ≡ m → m ≤ n
        self m n e = omega arith
    late s m false e w = trans m (now h) (now (i ∷ h)) (is.latest s m (sym (new s ∙ ap (λ d. if d then Some n else entry_at s t) e) ∙ w)) (now_grows i h)

-- which servers are noted
noted : (c : Bool) (k n s : ℕ) (t : Backs) → entry_at s (notes c k n t) ≡ (if c && (k == s) then Some n else entry_at s t)
noted true k n s t = at_puts k n s t
noted false k n s t = refl

abbrev failing : (s : ℕ) → Option Place → Bool
failing s None = false
failing s (Some x) = (same_via x.via Stream && is_opening (stand_of x.stand)) && (x.server == s)

abbrev using_all : (s : ℕ) → Option Place → Bool
using_all s None = false
using_all s (Some x) = (same_via x.via Stream && is_alive (stand_of x.stand)) && (x.server == s)

failed : (n s : ℕ) (o : Option Place) (t : Backs) → entry_at s (fails n o t) ≡ (if failing s o then Some n else entry_at s t)
failed n s None t = refl
failed n s (Some x) t = noted (same_via x.via Stream && is_opening (stand_of x.stand)) x.server n s t

used : (n s : ℕ) (o : Option Place) (t : Backs) → entry_at s (is_used n o t) ≡ (if using_all s o then Some n else entry_at s t)
used n s None t = refl
used n s (Some x) t = noted (same_via x.via Stream && is_alive (stand_of x.stand)) x.server n s t

twice : (a b : Bool) (n : ℕ) (o : Option ℕ) → (if a then Some n else (if b then Some n else o)) ≡ (if b || a then Some n else o)
twice true true n o = refl
twice true false n o = refl
twice false true n o = refl
twice false false n o = refl

all_used : (n s : ℕ) (places : List (ℕ × Place)) (es : Members) (t : Backs) → entry_at s (are_used n places es t) ≡ (if some_of (λ p. using_all s (entry_at p places)) es then Some n else entry_at s t)
all_used n s places [] t = refl
all_used n s places (e ∷ es) t =
    all_used n s places es (is_used n (entry_at e.0 places) t)
    ∙ (ap (λ o. if some_of (λ p. using_all s (entry_at p places)) es then Some n else o) (used n s (entry_at e.0 places) t)
    ∙ twice (some_of (λ p. using_all s (entry_at p places)) es) (using_all s (entry_at e.0 places)) n (entry_at s t))

-- of what an entry says
opening_is : (x : Stand) → is_opening x ≡ true → x ≡ Opening
opening_is Unused e = absurd (cc)
opening_is Opening e = refl
opening_is Alive e = absurd (cc)
opening_is Gone e = absurd (cc)

alive_is : (x : Stand) → is_alive x ≡ true → x ≡ Alive
alive_is Unused e = absurd (cc)
alive_is Opening e = absurd (cc)
alive_is Alive e = refl
alive_is Gone e = absurd (cc)

turn : (a b c : Bool) → ((a && b) && c) ≡ ((a && c) && b)
turn true true true = refl
turn true true false = refl
turn true false true = refl
turn true false false = refl
turn false b c = refl

none_and : (s : ℕ) → (is_site Stream s None && false) ≡ false
none_and s = refl

failing_is : (s : ℕ) (o : Option Place) → failing s o ≡ (is_site Stream s (site_seen o) && is_opening (stand_seen o))
failing_is s None = refl
failing_is s (Some x) = turn (same_via x.via Stream) (is_opening (stand_of x.stand)) (x.server == s)

using_is : (s : ℕ) (o : Option Place) → using_all s o ≡ (is_site Stream s (site_seen o) && is_alive (stand_seen o))
using_is s None = refl
using_is s (Some x) = turn (same_via x.via Stream) (is_alive (stand_of x.stand)) (x.server == s)

-- all ids of a place are used, as it is known
module _ (c : Conf) (h : History) (places : List (ℕ × Place)) (l : Held) (kp : places_seen.Known h places) (kl : held.Known h l) (s : ℕ) where
  abbrev some_used : Bool
  some_used = some_of (λ p. using_all s (entry_at p places)) l.full

  using_at : (p : ℕ) → using_all s (entry_at p places) ≡ (is_at Stream s p h && is_alive (stand p h))
  using_at p = using_is s (entry_at p places) ∙ ap₂ (λ a b. is_site Stream s a && is_alive b) (kp.sites p) (kp.stands p)

  used_so : some_of (λ p. using_all s (entry_at p places)) l.full ≡ true → BreaksOff c s h
  used_so e =
      let f = sets.found_in (λ p. using_all s (entry_at p places)) l.full e in
      let q = both (is_at Stream s f.0 h) (is_alive (stand f.0 h)) (sym (using_at f.0) ∙ f.2) in
      IdsAreUsed f.0 q.0 (alive_is (stand f.0 h) q.1) (le_so id_count (held_with [] f.0 h) (sym (kl.full f.0) ∙ f.1))

  so_used : (p : ℕ) → is_at Stream s p h ≡ true → stand p h ≡ Alive → id_count ≤ held_with [] p h → some_of (λ p. using_all s (entry_at p places)) l.full ≡ true
  so_used p at alive le =
      sets.finds_in (λ p. using_all s (entry_at p places)) p l.full (kl.full p ∙ so_le id_count (held_with [] p h) le)
      (using_at p ∙ all (is_at Stream s p h) (is_alive (stand p h)) at (ap is_alive alive))

-- events
abbrev failing_by : (s : ℕ) → What → List (ℕ × Place) → Bool
failing_by s (OpenFailed p f) places = failing s (entry_at p places)
failing_by s _ places = false

met_at : (w : What) (n s : ℕ) (places : List (ℕ × Place)) (t : Backs) → entry_at s (met w n places t) ≡ (if failing_by s w places then Some n else entry_at s t)
met_at (OpenFailed p f) n s places t = failed n s (entry_at p places) t
met_at (Opened p) n s places t = refl
met_at (Ask r) n s places t = refl
met_at (SendFailed p f) n s places t = refl
met_at (ShortSend p) n s places t = refl
met_at (Datagram p o) n s places t = refl
met_at (RecvFailed p f) n s places t = refl
met_at (Wrote p m) n s places t = refl
met_at (WriteFailed p f) n s places t = refl
met_at (Bytes p o) n s places t = refl
met_at (ReadFailed p f) n s places t = refl
met_at (Ended p) n s places t = refl
met_at Tick n s places t = refl

-- the parts of a history
abbrev head_event : History → Option Event
head_event [] = None
head_event (Came e ∷ h) = Some e
head_event (Put o ∷ h) = None

abbrev head_out : History → Option Out
head_out [] = None
head_out (Came e ∷ h) = None
head_out (Put o ∷ h) = Some o

abbrev rest_of : History → History
rest_of [] = []
rest_of (i ∷ h) = h

some_event : {A : Type 0} (a b : A) → Some a ≡ Some b → a ≡ b
some_event a b e = cc

either : (a b : Bool) → (a || b) ≡ true → (a ≡ true) ⊎ (b ≡ true)
either true b e = inl refl
either false b e = inr e

first_true : (a b : Bool) → a ≡ true → (a || b) ≡ true
first_true a b e = ap (λ a. a || b) e

second_true : (a b : Bool) → b ≡ true → (a || b) ≡ true
second_true true b e = refl
second_true false b e = e

module _ (c : Conf) (h : History) (e : Event) (places new : List (ℕ × Place)) (l : Held) (kp : places_seen.Known h places) (kn : places_seen.Known (Came e ∷ h) new) (kl : held.Known (Came e ∷ h) l) (s : ℕ) where
  failing_so : (w : What) → e.what ≡ w → failing_by s w places ≡ true → BreaksOff c s (Came e ∷ h)
  failing_so (OpenFailed p f) i b =
      let q = both (is_at Stream s p h) (is_opening (stand p h)) (sym (failing_is s (entry_at p places) ∙ ap₂ (λ a b. is_site Stream s a && is_opening b) (kp.sites p) (kp.stands p)) ∙ b) in
      OpeningFailed e p f h refl i q.0 (opening_is (stand p h) q.1)
  failing_so (Opened p) i b = absurd (cc)
  failing_so (Ask r) i b = absurd (cc)
  failing_so (SendFailed p f) i b = absurd (cc)
  failing_so (ShortSend p) i b = absurd (cc)
  failing_so (Datagram p o) i b = absurd (cc)
  failing_so (RecvFailed p f) i b = absurd (cc)
  failing_so (Wrote p n) i b = absurd (cc)
  failing_so (WriteFailed p f) i b = absurd (cc)
  failing_so (Bytes p o) i b = absurd (cc)
  failing_so (ReadFailed p f) i b = absurd (cc)
  failing_so (Ended p) i b = absurd (cc)
  failing_so Tick i b = absurd (cc)

  event_so : (failing_by s e.what places || some_of (λ p. using_all s (entry_at p new)) l.full) ≡ true → BreaksOff c s (Came e ∷ h)
  event_so b = go (either (failing_by s e.what places) _ b)
    where
      go : (failing_by s e.what places ≡ true) ⊎ (some_of (λ p. using_all s (entry_at p new)) l.full ≡ true) → BreaksOff c s (Came e ∷ h)
      go (inl b) = failing_so e.what refl b
      go (inr b) = used_so c (Came e ∷ h) new l kn kl s b

  so_event : BreaksOff c s (Came e ∷ h) → (failing_by s e.what places || some_of (λ p. using_all s (entry_at p new)) l.full) ≡ true
  so_event (OpeningFailed d p f before i w at st) =
      let ee : e ≡ d = some_event e d (ap head_event i) in
      let hh : h ≡ before = ap rest_of i in
      first_true (failing_by s e.what places) _
      (ap (λ (w : What). failing_by s w places) (ap (λ (e : Event). e.what) ee ∙ w)
      ∙ (failing_is s (entry_at p places) ∙ (ap₂ (λ a b. is_site Stream s a && is_opening b) (kp.sites p) (kp.stands p)
      ∙ (ap (λ (h : History). is_at Stream s p h && is_opening (stand p h)) hh ∙ all (is_at Stream s p before) (is_opening (stand p before)) at (ap is_opening st)))))
  so_event (OpeningFailedAtOnce p f before i w st) = absurd (let z : Some e ≡ None = ap head_event i in cc)
  so_event (IdsAreUsed p at alive le) = second_true (failing_by s e.what places) _ (so_used c (Came e ∷ h) new l kn kl s p at alive le)
  so_event (ConnectionEnded p before i at live ends) = absurd (let z : Some e ≡ None = ap head_event i in cc)

event : (c : Conf) (h : History) (e : Event) (n : ℕ) (places new : List (ℕ × Place)) (l : Held) (t : Backs) → n ≡ now (Came e ∷ h) → places_seen.Known h places → places_seen.Known (Came e ∷ h) new → held.Known (Came e ∷ h) l → Known c h t
    → Known c (Came e ∷ h) (are_used n new l.full (met e.what n places t))
event c h e n places new l t en kp kn kl is =
    grown c (Came e) h t (are_used n new l.full (met e.what n places t)) n (λ s. failing_by s e.what places || some_of (λ p. using_all s (entry_at p new)) l.full) en is
    (λ s. all_used n s new l.full (met e.what n places t)
    ∙ (ap (λ o. if some_of (λ p. using_all s (entry_at p new)) l.full then Some n else o) (met_at e.what n s places t)
    ∙ twice (some_of (λ p. using_all s (entry_at p new)) l.full) (failing_by s e.what places) n (entry_at s t)))
    (event_so c h e places new l kp kn kl)
    (so_event c h e places new l kp kn kl)

-- outs
abbrev opening_fails : What → (p : ℕ) → Bool
opening_fails (OpenFailed q f) p = q == p
opening_fails _ p = false

abbrev opened_badly : (s : ℕ) → What → (p i : ℕ) → Option Place → Bool
opened_badly s w p i (Some x) = false
opened_badly s w p i None = opening_fails w p && (i == s)

opened : (w : What) (p i n s : ℕ) (o : Option Place) (t : Backs) → entry_at s (opens w p i n o t) ≡ (if opened_badly s w p i o then Some n else entry_at s t)
opened w p i n s (Some x) t = refl
opened (OpenFailed q f) p i n s None t = noted (q == p) i n s t
opened (Opened q) p i n s None t = refl
opened (Ask r) p i n s None t = refl
opened (SendFailed q f) p i n s None t = refl
opened (ShortSend q) p i n s None t = refl
opened (Datagram q o) p i n s None t = refl
opened (RecvFailed q f) p i n s None t = refl
opened (Wrote q m) p i n s None t = refl
opened (WriteFailed q f) p i n s None t = refl
opened (Bytes q o) p i n s None t = refl
opened (ReadFailed q f) p i n s None t = refl
opened (Ended q) p i n s None t = refl
opened Tick p i n s None t = refl

abbrev closed_badly : (s : ℕ) → Bool → Option Place → Bool
closed_badly s b None = false
closed_badly s b (Some x) = ((same_via x.via Stream && is_live (stand_of x.stand)) && b) && (x.server == s)

closed : (b : Bool) (n s : ℕ) (o : Option Place) (t : Backs) → entry_at s (closes b n o t) ≡ (if closed_badly s b o then Some n else entry_at s t)
closed b n s None t = refl
closed b n s (Some x) t = noted ((same_via x.via Stream && is_live (stand_of x.stand)) && b) x.server n s t

abbrev put_badly : (s : ℕ) → What → Out → Bool → List (ℕ × Place) → Bool
put_badly s w (OpenStream p i) b places = opened_badly s w p i (entry_at p places)
put_badly s w (Close p) b places = closed_badly s b (entry_at p places)
put_badly s w _ b places = false

put_at : (w : What) (o : Out) (b : Bool) (n s : ℕ) (places : List (ℕ × Place)) (t : Backs) → entry_at s (has_put w o b n places t) ≡ (if put_badly s w o b places then Some n else entry_at s t)
put_at w (OpenStream p i) b n s places t = opened w p i n s (entry_at p places) t
put_at w (Close p) b n s places t = closed b n s (entry_at p places) t
put_at w (Start k i v) b n s places t = refl
put_at w (OpenDgram p i) b n s places t = refl
put_at w (Send p k i m) b n s places t = refl
put_at w (Write p k i m) b n s places t = refl
put_at w (Resume p m) b n s places t = refl
put_at w (Stale k) b n s places t = refl
put_at w (Reply k m) b n s places t = refl

unused_is : (o : Option Place) → stand_seen o ≡ Unused → o ≡ None
unused_is None e = refl
unused_is (Some x) e = absurd (go x.stand e)
  where
    go : (z : Seen) → stand_of z ≡ Unused → ⊥
    go seen.Opening e = (cc)
    go seen.Alive e = (cc)
    go seen.Gone e = (cc)

fails_what : (w : What) (p : ℕ) → opening_fails w p ≡ true → (f : Fault) × (w ≡ OpenFailed p f)
fails_what (OpenFailed q f) p e = (f, ap (λ (p : ℕ). OpenFailed p f) (same_number q p e))
fails_what (Opened q) p e = absurd (cc)
fails_what (Ask r) p e = absurd (cc)
fails_what (SendFailed q f) p e = absurd (cc)
fails_what (ShortSend q) p e = absurd (cc)
fails_what (Datagram q o) p e = absurd (cc)
fails_what (RecvFailed q f) p e = absurd (cc)
fails_what (Wrote q m) p e = absurd (cc)
fails_what (WriteFailed q f) p e = absurd (cc)
fails_what (Bytes q o) p e = absurd (cc)
fails_what (ReadFailed q f) p e = absurd (cc)
fails_what (Ended q) p e = absurd (cc)
fails_what Tick p e = absurd (cc)

closed_is : (s : ℕ) (b : Bool) (o : Option Place) → closed_badly s b o ≡ ((is_site Stream s (site_seen o) && is_live (stand_seen o)) && b)
closed_is s b None = refl
closed_is s b (Some x) = go (same_via x.via Stream) (is_live (stand_of x.stand)) b (x.server == s)
  where
    go : (a l b c : Bool) → (((a && l) && b) && c) ≡ (((a && c) && l) && b)
    go true true true true = refl
    go true true true false = refl
    go true true false true = refl
    go true true false false = refl
    go true false b true = refl
    go true false b false = refl
    go false l b c = refl

module _ (c : Conf) (h : History) (places : List (ℕ × Place)) (kp : places_seen.Known h places) (s : ℕ) where
  stream_live : (p : ℕ) (b : Bool) → closed_badly s b (entry_at p places) ≡ ((is_at Stream s p h && is_live (stand p h)) && b)
  stream_live p b = closed_is s b (entry_at p places) ∙ ap₂ (λ x y. (is_site Stream s x && is_live y) && b) (kp.sites p) (kp.stands p)

  badly_so : (o : Out) (b : Bool) → TellsEnd c o h b → put_badly s (newest h) o b places ≡ true → BreaksOff c s (Put o ∷ h)
  badly_so (OpenStream p i) b tells e = go (entry_at p places) refl e
    where
      go : (x : Option Place) → entry_at p places ≡ x → opened_badly s (newest h) p i x ≡ true → BreaksOff c s (Put (OpenStream p i) ∷ h)
      go (Some x) ex e = absurd (cc)
      go None ex e =
          let q = both (opening_fails (newest h) p) (i == s) e in
          let f = fails_what (newest h) p q.0 in
          OpeningFailedAtOnce p f.0 h (ap (λ (i : ℕ). Put (OpenStream p i) ∷ h) (same_number i s q.1)) f.1 (sym (kp.stands p) ∙ ap stand_seen ex)
  badly_so (Close p) b tells e =
      let q = both (is_at Stream s p h && is_live (stand p h)) b (sym (stream_live p b) ∙ e) in
      let r = both (is_at Stream s p h) (is_live (stand p h)) q.0 in
      ConnectionEnded p h refl r.0 r.1 (tells.0 q.1)
  badly_so (Start k i v) b tells e = absurd (cc)
  badly_so (OpenDgram p i) b tells e = absurd (cc)
  badly_so (Send p k i m) b tells e = absurd (cc)
  badly_so (Write p k i m) b tells e = absurd (cc)
  badly_so (Resume p m) b tells e = absurd (cc)
  badly_so (Stale k) b tells e = absurd (cc)
  badly_so (Reply k m) b tells e = absurd (cc)

  so_opened : (p : ℕ) (f : Fault) → newest h ≡ OpenFailed p f → stand p h ≡ Unused → (b : Bool) → put_badly s (newest h) (OpenStream p s) b places ≡ true
  so_opened p f w st b =
      ap (opened_badly s (newest h) p s) (unused_is (entry_at p places) (kp.stands p ∙ st))
      ∙ (ap (λ w. opening_fails w p && (s == s)) w ∙ all (p == p) (s == s) (own p) (own s))

  so_closed : (p : ℕ) (b : Bool) → is_at Stream s p h ≡ true → is_live (stand p h) ≡ true → b ≡ true → put_badly s (newest h) (Close p) b places ≡ true
  so_closed p b at live bad = stream_live p b ∙ all (is_at Stream s p h && is_live (stand p h)) b (all (is_at Stream s p h) (is_live (stand p h)) at live) bad

module _ (c : Conf) (h : History) (o : Out) (bad : Bool) (places new : List (ℕ × Place)) (l : Held) (tells : TellsEnd c o h bad) (kp : places_seen.Known h places) (kn : places_seen.Known (Put o ∷ h) new) (kl : held.Known (Put o ∷ h) l) (s : ℕ) where
  out_so : (put_badly s (newest h) o bad places || some_of (λ p. using_all s (entry_at p new)) l.full) ≡ true → BreaksOff c s (Put o ∷ h)
  out_so b = go (either (put_badly s (newest h) o bad places) _ b)
    where
      go : (put_badly s (newest h) o bad places ≡ true) ⊎ (some_of (λ p. using_all s (entry_at p new)) l.full ≡ true) → BreaksOff c s (Put o ∷ h)
      go (inl b) = badly_so c h places kp s o bad tells b
      go (inr b) = used_so c (Put o ∷ h) new l kn kl s b

  so_out : BreaksOff c s (Put o ∷ h) → (put_badly s (newest h) o bad places || some_of (λ p. using_all s (entry_at p new)) l.full) ≡ true
  so_out (OpeningFailed d p f before i w at st) = absurd (let z : Some o ≡ None = ap head_out i in cc)
  so_out (OpeningFailedAtOnce p f before i w st) =
      let oo : o ≡ OpenStream p s = some_event o (OpenStream p s) (ap head_out i) in
      let hh : before ≡ h = sym (ap rest_of i) in
      first_true (put_badly s (newest h) o bad places) _
      (ap (λ (o : Out). put_badly s (newest h) o bad places) oo ∙ so_opened c h places kp s p f (ap newest (sym hh) ∙ w) (ap (stand p) (sym hh) ∙ st) bad)
  so_out (IdsAreUsed p at alive le) = second_true (put_badly s (newest h) o bad places) _ (so_used c (Put o ∷ h) new l kn kl s p at alive le)
  so_out (ConnectionEnded p before i at live ends) =
      let oo : o ≡ Close p = some_event o (Close p) (ap head_out i) in
      let hh : before ≡ h = sym (ap rest_of i) in
      let told : TellsEnd c (Close p) h bad = subst (λ (o : Out). TellsEnd c o h bad) oo tells in
      first_true (put_badly s (newest h) o bad places) _
      (ap (λ (o : Out). put_badly s (newest h) o bad places) oo
      ∙ so_closed c h places kp s p bad (ap (is_at Stream s p) (sym hh) ∙ at) (ap (λ (h : History). is_live (stand p h)) (sym hh) ∙ live) (told.1 (subst (EndsBadly c p) hh ends)))

out : (c : Conf) (h : History) (o : Out) (bad : Bool) (n : ℕ) (places new : List (ℕ × Place)) (l : Held) (t : Backs) → n ≡ now h → TellsEnd c o h bad → places_seen.Known h places → places_seen.Known (Put o ∷ h) new → held.Known (Put o ∷ h) l → Known c h t
    → Known c (Put o ∷ h) (are_used n new l.full (has_put (newest h) o bad n places t))
out c h o bad n places new l t en tells kp kn kl is =
    grown c (Put o) h t (are_used n new l.full (has_put (newest h) o bad n places t)) n (λ s. put_badly s (newest h) o bad places || some_of (λ p. using_all s (entry_at p new)) l.full) en is
    (λ s. all_used n s new l.full (has_put (newest h) o bad n places t)
    ∙ (ap (λ x. if some_of (λ p. using_all s (entry_at p new)) l.full then Some n else x) (put_at (newest h) o bad n s places t)
    ∙ twice (some_of (λ p. using_all s (entry_at p new)) l.full) (put_badly s (newest h) o bad places) n (entry_at s t)))
    (out_so c h o bad places new l tells kp kn kl)
    (so_out c h o bad places new l tells kp kn kl)

pub goes_on : (c : Conf) → GoesOn c
goes_on c = record {
  begins = record { so = λ s n e. absurd (cc); back = λ s n e. absurd e; latest = λ s m e. absurd (cc) };
  event = event c;
  out = out c;
}
