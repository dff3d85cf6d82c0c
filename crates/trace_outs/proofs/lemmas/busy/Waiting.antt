-- What is kept of requests that wait goes on.
use Rattle.std.proofs.Common.{◌≡◌, ℕ, ◌+◌, ◌<◌, ◌==◌, ◌&&◌, ◌||◌, inl, inr, not, max, Bool, true, false, if◌then◌else◌, List, [], ◌∷◌, Option, Some, None, refl, sym, ap, ap₂, ◌∙◌, subst, arith}
use Rattle.std.specs.Prelude.{is_some, nat_lt}
use Rattle.std.proofs.lemmas.Bool.Decides.{nat_tests}
use Rattle.number_table.specs.Entries.{frees, entry_at}
use Rattle.client_request.specs.Request.{Request}
use Rattle.client_request.specs.declared.event.{Event.Event, What.What, Out.Out, Via.Via}
use Rattle.client_request.specs.declared.event.What.TheVariants.{Ask, Opened, OpenFailed, SendFailed, ShortSend, Datagram, RecvFailed, Wrote, WriteFailed, Bytes, ReadFailed, Ended, Tick}
use Rattle.client_request.specs.declared.event.Out.TheVariants.{Start, OpenDgram, OpenStream, Send, Write, Resume, Close, Stale, Reply}
use Rattle.client_request.specs.declared.event.Via.TheVariants.{Dgram, Stream}
use Rattle.right_trace.specs.Trace.{History, Came, Put, Conf}
use Rattle.right_trace.specs.Time.{now, read_timeout, recv_size}
use Rattle.right_trace.specs.Messages.{Octets, is_valid}
use Rattle.right_trace.specs.Requests.{Asking, asking, asking_of, asks, is_ask, replied}
use Rattle.right_trace.specs.Frames.{brings, came, came_here, received}
use Rattle.right_trace.specs.{Parts.IsIn, Writes.waiting_with}
use Rattle.right_trace.specs.Exchanges.{IsAmong, has_answer, unanswered, octets_for}
use Rattle.message_judging.specs.matching.Matching.{carries_by}
use Rattle.trace_tables.specs.declared.requests.Requests.{Requests}
use Rattle.trace_tables.specs.Lists.{listed, adds}
use Rattle.trace_tables.specs.Requests.{replied_seen}
use Rattle.trace_tables.specs.Requests as requests
use Rattle.trace_tables.proofs.Listing.{listed_adds}
use Rattle.trace_tables.specs.sets.Sets.{Rise}
use Rattle.trace_tables.proofs.lemmas.sets.Keeping as sets
use Rattle.trace_outs.proofs.lemmas.loads.Meeting.{asked_below}
use Rattle.trace_outs.specs.declared.busy.waits.{Carried.Carried, Spot.Spot, Waits.Waits}
use Rattle.trace_outs.specs.busy.Waits.{Known, GoesOn, IsSo, noted_as, joined, is_asked, met, has_put, is_valid_asking, is_spot}

same_number : (a b : ℕ) → (a == b) ≡ true → a ≡ b
same_number a b e = grind (arith, nat_tests)

first_true : (a b : Bool) → a ≡ true → (a || b) ≡ true
first_true a b e = ap (λ a. a || b) e

second_true : (a b : Bool) → b ≡ true → (a || b) ≡ true
second_true true b e = refl
second_true false b e = e

-- events

sent_event : (conf : Conf) (h : History) (e : Event) (r : Request) (k p id n : ℕ) (o : Octets) → IsAmong o (unanswered conf r p k id n (Came e ∷ h)) → IsAmong o (unanswered conf r p k id n h)
sent_event conf h e r k p id n o = go (has_answer r id (received (recv_size conf) (came p e.what h)))
  where
    go : (b : Bool) → IsAmong o (if b then [] else unanswered conf r p k id n h) → IsAmong o (unanswered conf r p k id n h)
    go true i = absurd i
    go false i = i

written_event : (h : History) (e : Event) (ms : List Octets) (k p id : ℕ) (o : Octets) → IsAmong o (octets_for k (waiting_with ms p id (Came e ∷ h))) → IsAmong o (octets_for k (waiting_with (came_here p h) p id h))
written_event h e ms k p id o = go (brings id ms)
  where
    go : (b : Bool) → IsAmong o (octets_for k (if b then [] else waiting_with (came_here p h) p id h)) → IsAmong o (octets_for k (waiting_with (came_here p h) p id h))
    go true i = absurd i
    go false i = i

none_asked : (k : ℕ) (h : History) → asks h ≡ k → is_some (asking k h) ≡ false
none_asked k h e = go (is_some (asking k h)) refl
  where
    less : (a b : ℕ) → a ≡ b → b < a → ⊥
    less a b e lt = omega arith

    go : (b : Bool) → is_some (asking k h) ≡ b → b ≡ false
    go true i = absurd (less (asks h) k e (asked_below k h i))
    go false i = refl

-- what was asked stays so
asking_stays : (h : History) (e : Event) (k : ℕ) (a : Asking) → asking k h ≡ Some a → asking k (Came e ∷ h) ≡ Some a
asking_stays h e k a asked = go (is_ask e.what && (asks h == k)) refl
  where
    less : (a b : ℕ) → a ≡ b → b < a → ⊥
    less a b e lt = omega arith

    one_and : (a b : Bool) → (a && b) ≡ true → b ≡ true
    one_and true b e = e
    one_and false b e = absurd (cc)

    go : (b : Bool) → (is_ask e.what && (asks h == k)) ≡ b → (if b then asking_of e.what (max e.moment.0 (now h)) else asking k h) ≡ Some a
    go true i = absurd (less (asks h) k (same_number (asks h) k (one_and (is_ask e.what) (asks h == k) i)) (asked_below k h (ap is_some asked)))
    go false i = asked

so_still : (c : Conf) (h : History) (e : Event) (k : ℕ) (y : Carried) → IsSo c k h y → IsSo c k (Came e ∷ h) y
so_still c h e k y so = (so.0, asking_stays h e k so.0 so.1, so.2)

-- the next request is asked
module _ (conf : Conf) (h : History) (r : Requests) (t : Waits) (kr : requests.Known h r) (is : Known conf h t) (e : Event) where
  asked_waits : (q : Request) (k : ℕ) → is_some (entry_at k (joined (is_valid q && not (replied_seen r.asked r)) r.asked t.requests)) ≡ ((is_some (if asks h == k then Some (record { request = q; moment = max e.moment.0 (now h) }) else asking k h) && not (replied k h)) && is_valid_asking (if asks h == k then Some (record { request = q; moment = max e.moment.0 (now h) }) else asking k h))
  asked_waits q k = go (asks h == k) refl (is_valid q && not (replied_seen r.asked r)) refl
    where
      none : (x : Bool) (o : Option Asking) → is_some o ≡ false → ((is_some o && x) && is_valid_asking o) ≡ false
      none x None i = refl
      none x (Some a) i = absurd (cc)

      flip : (a b : Bool) → (a && b) ≡ ((true && b) && a)
      flip true true = refl
      flip true false = refl
      flip false true = refl
      flip false false = refl

      replied_is : (asks h == k) ≡ true → replied_seen r.asked r ≡ replied k h
      replied_is i = ap (λ (n : ℕ). replied_seen n r) (kr.count ∙ same_number (asks h) k i) ∙ kr.replies k

      put_here : (c : Bool) → (asks h == k) ≡ true → is_some (entry_at k (joined c r.asked t.requests)) ≡ c
      put_here true i = ap is_some (sets.at_puts r.asked tt k t.requests ∙ ap (λ b. if b then Some tt else entry_at k t.requests) (ap (λ (n : ℕ). n == k) kr.count ∙ i))
      put_here false i = is.requests k ∙ none (not (replied k h)) (asking k h) (none_asked k h (same_number (asks h) k i))

      put_there : (c : Bool) → (asks h == k) ≡ false → is_some (entry_at k (joined c r.asked t.requests)) ≡ is_some (entry_at k t.requests)
      put_there true i = ap is_some (sets.at_puts r.asked tt k t.requests ∙ ap (λ b. if b then Some tt else entry_at k t.requests) (ap (λ (n : ℕ). n == k) kr.count ∙ i))
      put_there false i = refl

      go : (b : Bool) → (asks h == k) ≡ b → (c : Bool) → (is_valid q && not (replied_seen r.asked r)) ≡ c
          → is_some (entry_at k (joined c r.asked t.requests)) ≡ ((is_some (if b then Some (record { request = q; moment = max e.moment.0 (now h) }) else asking k h) && not (replied k h)) && is_valid_asking (if b then Some (record { request = q; moment = max e.moment.0 (now h) }) else asking k h))
      go true i c j = put_here c i ∙ (sym j ∙ (ap (λ x. is_valid q && not x) (replied_is i) ∙ flip (is_valid q) (not (replied k h))))
      go false i c j = put_there c i ∙ is.requests k

  joined_rise : (c : Bool) → Rise 0 (joined c r.asked t.requests)
  joined_rise true = sets.rise_puts 0 r.asked t.requests (omega arith) is.rise
  joined_rise false = is.rise

  asks_one : (q : Request) → e.what ≡ Ask q → Known conf (Came e ∷ h) (is_asked q r t)
  asks_one q i = record {
    requests = λ k. asked_waits q k ∙ sym (ap (λ w. (is_some (if is_ask w && (asks h == k) then asking_of w (max e.moment.0 (now h)) else asking k h) && not (replied k h)) && is_valid_asking (if is_ask w && (asks h == k) then asking_of w (max e.moment.0 (now h)) else asking k h)) i);
    rise = joined_rise (is_valid q && not (replied_seen r.asked r));
    sent = λ q k p id n o am. is.sent q k p id n o (sent_event conf h e q k p id n o am);
    written = λ ms k p id o am. is.written (came_here p h) k p id o (written_event h e ms k p id o am);
    carried = λ k y am. so_still conf h e k y (is.carried k y am);
  }

  quiet : (w : What) → e.what ≡ w → is_ask w ≡ false → Known conf (Came e ∷ h) t
  quiet w i silent = record {
    requests = λ k. is.requests k ∙ sym (ap (λ b. (is_some (if b && (asks h == k) then asking_of e.what (max e.moment.0 (now h)) else asking k h) && not (replied k h)) && is_valid_asking (if b && (asks h == k) then asking_of e.what (max e.moment.0 (now h)) else asking k h)) (ap is_ask i ∙ silent));
    rise = is.rise;
    sent = λ q k p id n o am. is.sent q k p id n o (sent_event conf h e q k p id n o am);
    written = λ ms k p id o am. is.written (came_here p h) k p id o (written_event h e ms k p id o am);
    carried = λ k y am. so_still conf h e k y (is.carried k y am);
  }

  pub known_met : Known conf (Came e ∷ h) (met e.what r t)
  known_met = go e.what refl
    where
      go : (w : What) → e.what ≡ w → Known conf (Came e ∷ h) (met w r t)
      go (Ask q) i = asks_one q i
      go (Opened p) i = quiet (Opened p) i refl
      go (OpenFailed p f) i = quiet (OpenFailed p f) i refl
      go (SendFailed p f) i = quiet (SendFailed p f) i refl
      go (ShortSend p) i = quiet (ShortSend p) i refl
      go (Datagram p o) i = quiet (Datagram p o) i refl
      go (RecvFailed p f) i = quiet (RecvFailed p f) i refl
      go (Wrote p n) i = quiet (Wrote p n) i refl
      go (WriteFailed p f) i = quiet (WriteFailed p f) i refl
      go (Bytes p o) i = quiet (Bytes p o) i refl
      go (ReadFailed p f) i = quiet (ReadFailed p f) i refl
      go (Ended p) i = quiet (Ended p) i refl
      go Tick i = quiet Tick i refl

-- outs

one_and : (a b : Bool) → (a && b) ≡ true → (a ≡ true) × (b ≡ true)
one_and true true e = (refl, refl)
one_and true false e = absurd (cc)
one_and false b e = absurd (cc)

-- a spot more
spot_stays : (j q i : ℕ) (k p id : ℕ) (t : List (ℕ × List Spot)) → is_spot p id (listed k t) ≡ true → is_spot p id (listed k (adds j (record { place = q; id = i }) t)) ≡ true
spot_stays j q i k p id t e = ap (is_spot p id) (listed_adds k j (record { place = q; id = i }) t) ∙ go (j == k)
  where
    go : (b : Bool) → is_spot p id (if b then record { place = q; id = i } ∷ listed k t else listed k t) ≡ true
    go true = second_true ((q == p) && (i == id)) _ e
    go false = e

spot_comes : (j q i : ℕ) (k p id : ℕ) (t : List (ℕ × List Spot)) → (j == k) ≡ true → (q == p) ≡ true → (i == id) ≡ true → is_spot p id (listed k (adds j (record { place = q; id = i }) t)) ≡ true
spot_comes j q i k p id t a b c =
    ap (is_spot p id) (listed_adds k j (record { place = q; id = i }) t)
    ∙ (ap (λ d. is_spot p id (if d then record { place = q; id = i } ∷ listed k t else listed k t)) a
    ∙ first_true ((q == p) && (i == id)) _ (ap₂ (λ x y. x && y) b c))

module _ (conf : Conf) (h : History) (t : Waits) (is : Known conf h t) where
  sent_more : (q j i : ℕ) (m : Octets) (r : Request) (k p id n : ℕ) (o : Octets) → IsAmong o (unanswered conf r p k id n (Put (Send q j i m) ∷ h)) → is_spot p id (listed k (adds j (record { place = q; id = i }) t.spots)) ≡ true
  sent_more q j i m r k p id n o = go ((q == p) && ((j == k) && (i == id))) refl (nat_lt n (now h + read_timeout conf))
    where
      go : (b : Bool) → ((q == p) && ((j == k) && (i == id))) ≡ b → (c : Bool) → IsAmong o (if b && c then m ∷ unanswered conf r p k id n h else unanswered conf r p k id n h) → is_spot p id (listed k (adds j (record { place = q; id = i }) t.spots)) ≡ true
      go true e true am = (let x = one_and (q == p) _ e in let y = one_and (j == k) (i == id) x.1 in spot_comes j q i k p id t.spots y.0 x.0 y.1)
      go true e false am = spot_stays j q i k p id t.spots (is.sent r k p id n o am)
      go false e c am = spot_stays j q i k p id t.spots (is.sent r k p id n o am)

  written_more : (q j i : ℕ) (m : Octets) (ms : List Octets) (k p id : ℕ) (o : Octets) → IsAmong o (octets_for k (waiting_with ms p id (Put (Write q j i m) ∷ h))) → is_spot p id (listed k (adds j (record { place = q; id = i }) t.spots)) ≡ true
  written_more q j i m ms k p id o = go ((q == p) && (i == id)) refl (not (brings id ms))
    where
      here : ((q == p) && (i == id)) ≡ true → (b : Bool) → (j == k) ≡ b → IsAmong o (if b then m ∷ octets_for k (waiting_with ms p id h) else octets_for k (waiting_with ms p id h)) → is_spot p id (listed k (adds j (record { place = q; id = i }) t.spots)) ≡ true
      here e true a am = (let x = one_and (q == p) (i == id) e in spot_comes j q i k p id t.spots a x.0 x.1)
      here e false a am = spot_stays j q i k p id t.spots (is.written ms k p id o am)

      go : (b : Bool) → ((q == p) && (i == id)) ≡ b → (c : Bool) → IsAmong o (octets_for k (if b && c then record { request = j; octets = m; moment = now h } ∷ waiting_with ms p id h else waiting_with ms p id h)) → is_spot p id (listed k (adds j (record { place = q; id = i }) t.spots)) ≡ true
      go true e true am = here e (j == k) refl am
      go true e false am = spot_stays j q i k p id t.spots (is.written ms k p id o am)
      go false e c am = spot_stays j q i k p id t.spots (is.written ms k p id o am)

  replied_more : (j k : ℕ) → is_some (entry_at k (frees j t.requests)) ≡ ((is_some (asking k h) && not ((j == k) || replied k h)) && is_valid_asking (asking k h))
  replied_more j k = go (j == k) refl
    where
      none : (a v : Bool) → false ≡ ((a && false) && v)
      none true v = refl
      none false v = refl

      go : (b : Bool) → (j == k) ≡ b → is_some (entry_at k (frees j t.requests)) ≡ ((is_some (asking k h) && not (b || replied k h)) && is_valid_asking (asking k h))
      go true e = ap is_some (ap (λ (n : ℕ). entry_at n (frees j t.requests)) (sym (same_number j k e)) ∙ sets.freed_none 0 j t.requests is.rise) ∙ none (is_some (asking k h)) (is_valid_asking (asking k h))
      go false e = ap is_some (sets.stays k j t.requests e) ∙ is.requests k

  -- what was noted, and one more
  noted_so : (v : Via) (j i : ℕ) (m : Octets) (o : Option Asking) → asking j h ≡ o → (k : ℕ) (y : Carried) → IsIn y (listed k (noted_as conf v j i m o t.carried)) → IsSo conf k h y
  noted_so v j i m None e k y am = is.carried k y am
  noted_so v j i m (Some a) e k y am = go (j == k) refl (subst (λ (ys : List Carried). IsIn y ys) (listed_adds k j new t.carried) am)
    where
      new : Carried
      new = record { via = v; id = i; octets = m; carries = carries_by conf.transports.dgram_udp_payload_size v m a.request i }

      go : (b : Bool) → (j == k) ≡ b → IsIn y (if b then new ∷ listed k t.carried else listed k t.carried) → IsSo conf k h y
      go true s (inl same) = subst (λ (x : Carried). IsSo conf k h x) same (a, subst (λ (n : ℕ). asking n h ≡ Some a) (same_number j k s) e, refl)
      go true s (inr am) = is.carried k y am
      go false s am = is.carried k y am

  module _ (rs : Requests) (kr : requests.Known h rs) where
    pub known_put : (o : Out) → Known conf (Put o ∷ h) (has_put conf o rs t)
    known_put (Send q j i m) = record {
      requests = is.requests;
      rise = is.rise;
      sent = λ r k p id n o am. sent_more q j i m r k p id n o am;
      written = λ ms k p id o am. spot_stays j q i k p id t.spots (is.written ms k p id o am);
      carried = λ k y am. noted_so Dgram j i m (entry_at j rs.askings) (sym (kr.askings j)) k y am;
    }
    known_put (Write q j i m) = record {
      requests = is.requests;
      rise = is.rise;
      sent = λ r k p id n o am. spot_stays j q i k p id t.spots (is.sent r k p id n o am);
      written = λ ms k p id o am. written_more q j i m ms k p id o am;
      carried = λ k y am. noted_so Stream j i m (entry_at j rs.askings) (sym (kr.askings j)) k y am;
    }
    known_put (Reply j x) = record { requests = λ k. replied_more j k; rise = sets.rise_frees 0 j t.requests is.rise; sent = λ r k p id n o am. is.sent r k p id n o am; written = λ ms k p id o am. is.written ms k p id o am; carried = is.carried }
    known_put (Start j s v) = record { requests = is.requests; rise = is.rise; sent = λ r k p id n o am. is.sent r k p id n o am; written = λ ms k p id o am. is.written ms k p id o am; carried = is.carried }
    known_put (OpenDgram p s) = record { requests = is.requests; rise = is.rise; sent = λ r k p id n o am. is.sent r k p id n o am; written = λ ms k p id o am. is.written ms k p id o am; carried = is.carried }
    known_put (OpenStream p s) = record { requests = is.requests; rise = is.rise; sent = λ r k p id n o am. is.sent r k p id n o am; written = λ ms k p id o am. is.written ms k p id o am; carried = is.carried }
    known_put (Resume p m) = record { requests = is.requests; rise = is.rise; sent = λ r k p id n o am. is.sent r k p id n o am; written = λ ms k p id o am. is.written ms k p id o am; carried = is.carried }
    known_put (Close p) = record { requests = is.requests; rise = is.rise; sent = λ r k p id n o am. is.sent r k p id n o am; written = λ ms k p id o am. is.written ms k p id o am; carried = is.carried }
    known_put (Stale j) = record { requests = is.requests; rise = is.rise; sent = λ r k p id n o am. is.sent r k p id n o am; written = λ ms k p id o am. is.written ms k p id o am; carried = is.carried }

pub goes_on : (conf : Conf) → GoesOn conf
goes_on conf = record {
  begins = record { requests = λ k. refl; rise = tt; sent = λ r k p id n o am. absurd am; written = λ ms k p id o am. absurd am; carried = λ k y am. absurd am };
  event = λ h r t e kr is. known_met conf h r t kr is e;
  out = λ h r t o kr is. known_put conf h t is r kr o;
}
