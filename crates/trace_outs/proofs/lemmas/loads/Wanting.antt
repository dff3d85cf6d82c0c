-- The requests that wait at servers follow the history.
use Rattle.std.proofs.Common.{◌≡◌, ℕ, suc, ◌<◌, ◌==◌, ◌&&◌, ◌||◌, not, Bool, true, false, if◌then◌else◌, List, [], ◌∷◌, Option, Some, None, refl, sym, ap, ap₂, ◌∙◌, subst, arith}
use Rattle.std.specs.Prelude.{is_some, max}
use Rattle.std.proofs.lemmas.Bool.Decides.{nat_tests}
use Rattle.number_table.specs.Entries.{entry_at}
use Rattle.client_request.specs.declared.event.{Event.Event, What.What, Out.Out, Via.Via}
use Rattle.client_request.specs.declared.event.What.TheVariants.{Ask, Opened, OpenFailed, SendFailed, ShortSend, Datagram, RecvFailed, Wrote, WriteFailed, Bytes, ReadFailed, Ended, Tick}
use Rattle.client_request.specs.declared.event.Out.TheVariants.{Start, OpenDgram, OpenStream, Send, Write, Resume, Close, Stale, Reply}
use Rattle.client_request.specs.declared.event.Via.TheVariants.{Dgram, Stream}
use Rattle.right_trace.specs.Trace.{History, Came, Put, Conf}
use Rattle.right_trace.specs.Time.{now}
use Rattle.right_trace.specs.Requests.{asking, asking_of, asks, is_ask, is_reply, replied, start, started, waits, same_via}
use Rattle.trace_tables.specs.declared.requests.{Requests.Requests, Started.Started}
use Rattle.trace_tables.specs.Lists.{listed}
use Rattle.trace_tables.specs.Requests as requests
use Rattle.trace_tables.specs.Requests.{start_of, started_seen, replied_seen}
use Rattle.trace_points.specs.exchanges.Asked.{AskedFirst}
use Rattle.trace_tables.specs.sets.Sets.{has, joins, leaves, AreSets}
use Rattle.trace_tables.proofs.lemmas.sets.Keeping.{goes_on}
use Rattle.trace_outs.specs.declared.loads.loads.Loads.{Loads}
use Rattle.trace_outs.specs.loads.Loads.{checks, waits_at, goes_from, goes_from_all, waits_seen, starts, is_wanting}

-- events

asks_some : (w : What) (n : ℕ) → is_ask w ≡ true → is_some (asking_of w n) ≡ true
asks_some (Ask r) n e = refl
asks_some (Opened p) n e = absurd (cc)
asks_some (OpenFailed p f) n e = absurd (cc)
asks_some (SendFailed p f) n e = absurd (cc)
asks_some (ShortSend p) n e = absurd (cc)
asks_some (Datagram p o) n e = absurd (cc)
asks_some (RecvFailed p f) n e = absurd (cc)
asks_some (Wrote p m) n e = absurd (cc)
asks_some (WriteFailed p f) n e = absurd (cc)
asks_some (Bytes p o) n e = absurd (cc)
asks_some (ReadFailed p f) n e = absurd (cc)
asks_some (Ended p) n e = absurd (cc)
asks_some Tick n e = absurd (cc)

one_of : (a b : Bool) → (a && b) ≡ true → a ≡ true
one_of true b e = refl
one_of false b e = e

asked_stays : (k : ℕ) (h : History) (e : Event) → is_some (asking k h) ≡ true → is_some (asking k (Came e ∷ h)) ≡ true
asked_stays k h e is = go (is_ask e.what && (asks h == k)) refl
  where
    go : (b : Bool) → (is_ask e.what && (asks h == k)) ≡ b → is_some (if b then asking_of e.what (max e.moment.0 (now h)) else asking k h) ≡ true
    go true i = asks_some e.what (max e.moment.0 (now h)) (one_of (is_ask e.what) (asks h == k) i)
    go false i = is

unbegun : (a b d e : Bool) → d ≡ false → ((a && b) && (d && e)) ≡ false
unbegun true true d e i = ap (λ d. d && e) i
unbegun true false d e i = refl
unbegun false b d e i = refl

none_is : {A : Type 0} (o : Option A) → is_some o ≡ false → o ≡ None
none_is None e = refl
none_is (Some a) e = absurd (cc)

pub event_wants : (s k : ℕ) (h : History) (e : Event) → AskedFirst h → is_wanting s k h ≡ is_wanting s k (Came e ∷ h)
event_wants s k h e first = go (is_some (asking k h)) refl
  where
    none : is_some (asking k h) ≡ false → started k s Dgram h ≡ false
    none i = ap is_some (first.unstarted k s Dgram (none_is (asking k h) i))

    go : (b : Bool) → is_some (asking k h) ≡ b → is_wanting s k h ≡ is_wanting s k (Came e ∷ h)
    go true i = ap (λ a. (a && not (replied k h)) && (started k s Dgram h && not (started k s Stream h))) (i ∙ sym (asked_stays k h e i))
    go false i =
        unbegun (is_some (asking k h)) (not (replied k h)) (started k s Dgram h) (not (started k s Stream h)) (none i)
        ∙ sym (unbegun (is_some (asking k (Came e ∷ h))) (not (replied k h)) (started k s Dgram h) (not (started k s Stream h)) (none i))

-- outs

started_put : (k j s t : ℕ) (v u : Via) (h : History) → started k s u (Put (Start j t v) ∷ h) ≡ ((same_via v u && ((j == k) && (t == s))) || started k s u h)
started_put k j s t v u h = go (same_via v u && ((j == k) && (t == s)))
  where
    go : (b : Bool) → is_some (if b then Some (now h) else start k s u h) ≡ (b || started k s u h)
    go true = refl
    go false = refl

same_number : (a b : ℕ) → (a == b) ≡ true → a ≡ b
same_number a b e = grind (arith, nat_tests)

module _ (conf : Conf) (h : History) (r : Requests) (t : Loads) (is : requests.Known h r) (wants : (s k : ℕ) → has s k t.demand ≡ is_wanting s k h) (are : AreSets t.demand) where
  waits_is : (k : ℕ) → waits_seen k r ≡ waits k h
  waits_is k = ap₂ (λ a b. is_some a && not b) (is.askings k) (is.replies k)

  begun_is : (k s : ℕ) (v : Via) → started_seen k s v r ≡ started k s v h
  begun_is k s v = ap is_some (is.starts k s v)

  -- by datagram
  joined : (w d n : Bool) → w ≡ true → n ≡ true → (true || (w && (d && n))) ≡ (w && ((true || d) && n))
  joined true d true e f = refl
  joined true d false e f = sym f
  joined false d n e f = sym e

  apart : (w d n : Bool) → (w && n) ≡ false → (w && (d && n)) ≡ (w && ((true || d) && n))
  apart true true n e = refl
  apart true false n e = sym e
  apart false d n e = refl

  pub dgram_wants : (j i s k : ℕ) → has s k (starts conf j i Dgram r t).demand ≡ is_wanting s k (Put (Start j i Dgram) ∷ h)
  dgram_wants j i s k = go (waits_seen j r && not (started_seen j i Stream r)) refl (i == s) refl (j == k) refl
      ∙ sym (ap₂ (λ a b. waits k h && (a && not b)) (started_put k j s i Dgram Dgram h) (started_put k j s i Dgram Stream h))
    where
      there : (i == s) ≡ true → (j == k) ≡ true → (waits_seen j r && not (started_seen j i Stream r)) ≡ (waits k h && not (started k s Stream h))
      there a b =
          ap₂ (λ (j i : ℕ). waits_seen j r && not (started_seen j i Stream r)) (same_number j k b) (same_number i s a)
          ∙ ap₂ (λ x y. x && not y) (waits_is k) (begun_is k s Stream)

      new : (a b : Bool) → (i == s) ≡ a → (j == k) ≡ b → has s k (joins i j t.demand) ≡ ((a && b) || has s k t.demand)
      new a b ea eb = goes_on.joined i j s k t.demand ∙ ap₂ (λ a b. (a && b) || has s k t.demand) ea eb

      split : (x y : Bool) → (x && y) ≡ true → (x ≡ true) × (y ≡ true)
      split true true e = (refl, refl)
      split true false e = absurd (cc)
      split false y e = absurd (cc)

      go : (c : Bool) → (waits_seen j r && not (started_seen j i Stream r)) ≡ c → (a : Bool) → (i == s) ≡ a → (b : Bool) → (j == k) ≡ b
          → has s k (if c then waits_at conf i j t else t).demand ≡ (waits k h && (((b && a) || started k s Dgram h) && not (started k s Stream h)))
      go true ec true ea true eb =
          let q = split (waits k h) (not (started k s Stream h)) (sym (there ea eb) ∙ ec) in
          new true true ea eb ∙ (ap (λ z. true || z) (wants s k) ∙ joined (waits k h) (started k s Dgram h) (not (started k s Stream h)) q.0 q.1)
      go true ec true ea false eb = new true false ea eb ∙ wants s k
      go true ec false ea true eb = new false true ea eb ∙ wants s k
      go true ec false ea false eb = new false false ea eb ∙ wants s k
      go false ec true ea true eb = wants s k ∙ apart (waits k h) (started k s Dgram h) (not (started k s Stream h)) (sym (there ea eb) ∙ ec)
      go false ec true ea false eb = wants s k
      go false ec false ea true eb = wants s k
      go false ec false ea false eb = wants s k

  -- by stream
  pub stream_wants : (j i s k : ℕ) → has s k (starts conf j i Stream r t).demand ≡ is_wanting s k (Put (Start j i Stream) ∷ h)
  stream_wants j i s k =
      goes_on.left i j s k t.demand are
      ∙ (ap (λ z. not ((i == s) && (j == k)) && z) (wants s k)
      ∙ (go (i == s) (j == k) (waits k h) (started k s Dgram h) (started k s Stream h)
      ∙ sym (ap₂ (λ a b. waits k h && (a && not b)) (started_put k j s i Stream Dgram h) (started_put k j s i Stream Stream h))))
    where
      go : (a b w d n : Bool) → (not (a && b) && (w && (d && not n))) ≡ (w && (d && not ((b && a) || n)))
      go true true true true n = refl
      go true true true false n = refl
      go true true false d n = refl
      go true false w d n = refl
      go false true w d n = refl
      go false false w d n = refl

-- replies

abbrev pub is_among : (s : ℕ) → List Started → Bool
is_among s [] = false
is_among s (x ∷ xs) = (x.server == s) || is_among s xs

among_none : (s : ℕ) (v : Via) (xs : List Started) → is_among s xs ≡ false → start_of s v xs ≡ None
among_none s v [] e = refl
among_none s v (x ∷ xs) e = go (x.server == s) refl (among_none s v xs) e
  where
    no : (a : Bool) → (a && false) ≡ false
    no true = refl
    no false = refl

    go : (b : Bool) → (x.server == s) ≡ b → (is_among s xs ≡ false → start_of s v xs ≡ None) → (b || is_among s xs) ≡ false → (if same_via x.via v && b then Some x.moment else start_of s v xs) ≡ None
    go true i rest e = absurd (cc)
    go false i rest e = ap (λ b. if b then Some x.moment else start_of s v xs) (no (same_via x.via v)) ∙ rest e

goes_sets : (conf : Conf) (s k : ℕ) (t : Loads) → AreSets t.demand → AreSets (goes_from conf s k t).demand
goes_sets conf s k t are = goes_on.leave s k t.demand are

all_left : (conf : Conf) (j s k : ℕ) (xs : List Started) (t : Loads) → AreSets t.demand → has s k (goes_from_all conf j xs t).demand ≡ (not (is_among s xs && (j == k)) && has s k t.demand)
all_left conf j s k [] t are = refl
all_left conf j s k (x ∷ xs) t are =
    all_left conf j s k xs (goes_from conf x.server j t) (goes_sets conf x.server j t are)
    ∙ (ap (λ z. not (is_among s xs && (j == k)) && z) (goes_on.left x.server j s k t.demand are)
    ∙ join (x.server == s) (is_among s xs) (j == k) (has s k t.demand))
  where
    join : (a b c z : Bool) → (not (b && c) && (not (a && c) && z)) ≡ (not ((a || b) && c) && z)
    join true true true z = refl
    join true true false z = refl
    join true false true z = refl
    join true false false z = refl
    join false true true z = refl
    join false true false z = refl
    join false false c z = refl

pub reply_wants : (conf : Conf) (h : History) (r : Requests) (t : Loads) → requests.Known h r → ((s k : ℕ) → has s k t.demand ≡ is_wanting s k h) → AreSets t.demand
    → (j s k : ℕ) → has s k (goes_from_all conf j (listed j r.starts) t).demand ≡ ((is_some (asking k h) && not ((j == k) || replied k h)) && (started k s Dgram h && not (started k s Stream h)))
reply_wants conf h r t is wants are j s k = all_left conf j s k (listed j r.starts) t are ∙ (ap (λ z. not (is_among s (listed j r.starts) && (j == k)) && z) (wants s k) ∙ go (j == k) refl (is_among s (listed j r.starts)) refl)
  where
    none : (a m b n d : Bool) → d ≡ false → (not (m && true) && ((a && b) && (d && n))) ≡ ((a && false) && (d && n))
    none a m b n true e = absurd (cc)
    none true true true n false e = refl
    none true true false n false e = refl
    none true false true n false e = refl
    none true false false n false e = refl
    none false true b n false e = refl
    none false false b n false e = refl

    gone : (a b x : Bool) → false ≡ ((a && false) && x)
    gone true b x = refl
    gone false b x = refl

    other : (m z : Bool) → (not (m && false) && z) ≡ z
    other true z = refl
    other false z = refl

    go : (b : Bool) → (j == k) ≡ b → (m : Bool) → is_among s (listed j r.starts) ≡ m
        → (not (m && b) && ((is_some (asking k h) && not (replied k h)) && (started k s Dgram h && not (started k s Stream h)))) ≡ ((is_some (asking k h) && not (b || replied k h)) && (started k s Dgram h && not (started k s Stream h)))
    go true e true em = gone (is_some (asking k h)) true (started k s Dgram h && not (started k s Stream h))
    go true e false em = none (is_some (asking k h)) false (not (replied k h)) (not (started k s Stream h)) (started k s Dgram h)
        (ap is_some (sym (is.starts k s Dgram) ∙ (ap (λ (n : ℕ). start_of s Dgram (listed n r.starts)) (sym (same_number j k e)) ∙ among_none s Dgram (listed j r.starts) em)))
    go false e m em = other m ((is_some (asking k h) && not (replied k h)) && (started k s Dgram h && not (started k s Stream h)))
