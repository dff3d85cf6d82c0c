-- What is found is what comes by the definitions.
use Rattle.std.proofs.Common.{◌≡◌, ℕ, ◌+◌, ◌<◌, ◌==◌, ◌&&◌, inl, inr, nat_le, nat_lt, Bool, true, false, if◌then◌else◌, length, take, List, [], ◌∷◌, reverse, Option, Some, None, refl, sym, ap, ap₂, ◌∙◌, subst, arith}
use Rattle.std.proofs.lemmas.Bool.Decides.{nat_tests}
use Rattle.number_table.specs.Entries.{entry_at}
use Rattle.client_request.specs.Request.{Request}
use Rattle.client_request.specs.declared.event.Via.{Via}
use Rattle.client_request.specs.declared.event.Via.TheVariants.{Dgram, Stream}
use Rattle.dns_base.specs.Answering.{is_answer}
use Rattle.right_trace.specs.Trace.{History, Conf, Came, Put}
use Rattle.right_trace.specs.Time.{now, newest, row_before, stream_timeout, read_timeout, recv_size}
use Rattle.right_trace.specs.Messages.{Octets, answers, id_in}
use Rattle.right_trace.specs.Requests.{Asking, start}
use Rattle.right_trace.specs.Places.{Site, site, stand, Alive, is_alive, is_of_kind}
use Rattle.right_trace.specs.{Parts.IsIn, Writes.waiting_with}
use Rattle.right_trace.specs.Frames.{is_bad, came, came_here, received, first_with}
use Rattle.right_trace.specs.Exchanges.{Stands, IsAmong, Comes, first_datagram, first_of, waited_for, is_before, unanswered, octets_for}
use Rattle.trace_tables.specs.declared.books.Books.{Books}
use Rattle.trace_tables.specs.declared.places.{Place.Place, Stand.Stand as Seen}
use Rattle.trace_tables.specs.declared.sends.Sent.{Sent}
use Rattle.trace_tables.specs.declared.places.Stand.TheVariants as seen
use Rattle.trace_tables.specs.Known.{stand_of, stand_seen, site_seen}
use Rattle.trace_tables.specs.Lists.{listed}
use Rattle.trace_tables.specs.Requests.{replied_seen, start_seen}
use Rattle.trace_tables.specs.Books as books
use Rattle.trace_tables.specs.declared.frames.frames.Brought.{Brought}
use Rattle.trace_tables.specs.declared.frames.ledger.Ledger.{Ledger}
use Rattle.trace_tables.specs.frames.{Frames.frames_of, Waiting.waiting_seen}
use Rattle.trace_tables.specs.frames.Ledger as ledger
use Rattle.message_judging.proofs.lemmas.matching.Requests.{carries_so, so_carries}
use Rattle.trace_points.specs.declared.exchanges.coming.Coming.{Coming}
use Rattle.trace_points.specs.exchanges.Open.{Open, octets_of}
use Rattle.trace_points.specs.exchanges.Open as open_sends
use Rattle.trace_points.specs.exchanges.Coming.{is_wanted, is_known_place, comes_for, on_send, on_sends, is_young, in_frames, in_datagrams, by_kind, at_place, brought_in, coming, IsComing, AllComing, TellsComing}
use Rattle.trace_points.proofs.lemmas.exchanges.Finding.{own, in_reverse, reverse_in, found_so, found_back, IsOn, comes_so, so_comes, sent_so, so_sent, written_so, so_written, InFrames, frames_so, so_frames}

-- what came by the newest row is what its event brought
pub came_now : (p : ℕ) (h : History) → came_here p h ≡ came p (newest h) (row_before h)
came_now p [] = refl
came_now p (Came e ∷ h) = refl
came_now p (Put o ∷ h) = came_now p h

same_number : (a b : ℕ) → (a == b) ≡ true → a ≡ b
same_number a b e = grind (arith, nat_tests)

both : (a b : Bool) → (a && b) ≡ true → (a ≡ true) × (b ≡ true)
both true true e = (refl, refl)
both true false e = absurd (cc)
both false b e = absurd (cc)

answer_is : (r : Request) (id : ℕ) (m : Octets) → is_answer id r.base m ≡ answers r id m
unfolding answers
answer_is r id m = refl

-- what is read of datagrams has a whole header
not_short : (n : ℕ) → nat_le 12 n ≡ true → nat_lt n 12 ≡ false
not_short n e = grind (arith, nat_tests)

long_read : (n : ℕ) (os : List Octets) (m : Octets) (rest : List Octets) → received n os ≡ m ∷ rest → nat_lt (length m) 12 ≡ false
long_read n [] m rest e = absurd (cc)
long_read n (o ∷ os) m rest e = go (nat_le 12 (length (take n o))) refl (long_read n os m rest) e
  where
    go : (b : Bool) → nat_le 12 (length (take n o)) ≡ b → (received n os ≡ m ∷ rest → nat_lt (length m) 12 ≡ false) → (if b then take n o ∷ received n os else received n os) ≡ m ∷ rest → nat_lt (length m) 12 ≡ false
    go true i more e = (let same : take n o ≡ m = cc in subst (λ m. nat_lt (length m) 12 ≡ false) same (not_short (length (take n o)) i))
    go false i more e = more e

-- nothing is read where nothing came
some_came : (n : ℕ) (os : List Octets) (m : Octets) (rest : List Octets) → received n os ≡ m ∷ rest → (o : Octets) × IsIn o os
some_came n [] m rest e = absurd (cc)
some_came n (o ∷ os) m rest e = (o, inl refl)

alive_is : (x : Seen) → is_alive (stand_of x) ≡ true → stand_of x ≡ Alive
alive_is seen.Opening e = absurd (cc)
alive_is seen.Alive e = refl
alive_is seen.Gone e = absurd (cc)

less : (a b : ℕ) → nat_lt a b ≡ true → a < b
less a b e = grind (arith, nat_tests)

less_seen : (a b : ℕ) → a < b → nat_lt a b ≡ true
less_seen a b e = grind (arith, nat_tests)

no_stream : (o : Option Site) (s : ℕ) → o ≡ Some (record { via = Dgram; server = s }) → is_of_kind Stream o ≡ false
no_stream o s e = ap (is_of_kind Stream) e

young_is : (c : Conf) (n : ℕ) (o : Option ℕ) → is_young c n o ≡ is_before c n o
unfolding stream_timeout
young_is c n None = refl
young_is c n (Some t) = refl

abbrev request_or : Asking → Option Asking → Asking
request_or a None = a
request_or a (Some b) = b

abbrev placed : Via → ℕ → Seen → Option Place
placed v s a = Some (record { via = v; server = s; stand = a })

abbrev site_or : Site → Option Site → Site
site_or x None = x
site_or x (Some y) = y

module _ (c : Conf) (want : Option ℕ) (bp : Books) (op : Open) (l : Ledger) (past h : History) (before : row_before h ≡ past) (kp : books.Known past bp) (ko : open_sends.Known c past op) (kh : ledger.Known h l) where
  frames_here : (p : ℕ) → frames_of p l.frames.brought ≡ came p (newest h) past
  frames_here p = kh.frames.here p ∙ (came_now p h ∙ ap (came p (newest h)) before)

  time : l.books.requests.clock ≡ now h
  time = kh.books.requests.time

  -- what is found comes

  module _ (p : ℕ) (ms : List Octets) (x : Place) (z : Coming) (at : entry_at p bp.places ≡ Some x) (known : is_known_place c x ≡ true) (came_there : came p (newest h) past ≡ ms) where
    alive : stand p past ≡ Alive
    alive = sym (kp.places.stands p) ∙ (ap stand_seen at ∙ alive_is x.stand (both (is_alive (stand_of x.stand)) _ known).0)

    sited : site p past ≡ Some (record { via = x.via; server = x.server })
    sited = sym (kp.places.sites p) ∙ ap site_seen at

    is_served : x.server < length c.servers
    is_served = less x.server (length c.servers) (both (is_alive (stand_of x.stand)) (nat_lt x.server (length c.servers)) known).1

    stands : (k : ℕ) (a : Asking) → entry_at k bp.requests.askings ≡ Some a → replied_seen k bp.requests ≡ false → Stands c a.request x.via x.server p k past
    stands k a e r = record { asked = (a.moment, sym (kp.requests.askings k) ∙ e); waiting = sym (kp.requests.replies k) ∙ r; alive = alive; at = sited; known = is_served }

    -- on an exchange of this kind
    coming_on : (v : Via) → x.via ≡ v → (k id : ℕ) (o m : Octets) → IsOn c want bp x p k id o m z → ((a : Asking) → entry_at k bp.requests.askings ≡ Some a → IsAmong o (waited_for c v a.request x.server p k id (now h) [] past h)) → first_of c v id ms ≡ Some m → IsComing c past h z
    coming_on v kind k id o m on sent first = subst (IsComing c past h) (sym on.is) (record {
      asked_as = on.asking_of.request;
      comes = record {
        is_open = record {
          stands = stands k on.asking_of on.asked on.waits;
          octets = o;
          sent = subst (λ v. IsAmong o (waited_for c v on.asking_of.request x.server p k id (now h) [] past h)) (sym kind) (sent on.asking_of on.asked);
          carries = carries_so c x.via o on.asking_of.request id on.carries;
        };
        first = ap (first_of c x.via id) came_there ∙ (ap (λ v. first_of c v id ms) kind ∙ first);
      };
      agreeing = answer_is on.asking_of.request id m;
    })

    of_datagrams : x.via ≡ Dgram → IsIn z (in_datagrams c want bp op l x p (received (recv_size c) ms)) → IsComing c past h z
    of_datagrams kind i = go (received (recv_size c) ms) refl i
      where
        dgram : site p past ≡ Some (record { via = Dgram; server = x.server })
        dgram = sited ∙ ap (λ v. Some (record { via = v; server = x.server })) kind

        on_one : (m : Octets) (rest : List Octets) → received (recv_size c) ms ≡ m ∷ rest → (y : Sent) → IsIn y (listed p op) → (b : Bool) → nat_lt l.books.requests.clock (y.moment + read_timeout c) ≡ b → (if b then comes_for c want bp x p y.request y.id y.octets m else None) ≡ Some z → IsComing c past h z
        on_one m rest s y there false young e = absurd (cc)
        on_one m rest s y there true young e = coming_on Dgram kind y.request y.id y.octets m (comes_so c want bp x p y.request y.id y.octets m z e)
            (λ a q. subst (IsAmong y.octets) (ko.waits y.request p y.id (now h) a (no_stream (site p past) x.server dgram) (sym (kp.requests.askings y.request) ∙ q))
            (so_sent c (now h) y (reverse (listed p op)) (reverse_in y (listed p op) there) (ap (λ n. nat_lt n (y.moment + read_timeout c)) (sym time) ∙ young)))
            (ap first_datagram s)

        go : (os : List Octets) → received (recv_size c) ms ≡ os → IsIn z (in_datagrams c want bp op l x p os) → IsComing c past h z
        go [] s i = absurd i
        go (m ∷ rest) s i = long (nat_lt (length m) 12) i
          where
            long : (b : Bool) → IsIn z (if b then [] else on_sends c want bp x p l.books.requests.clock m (listed p op)) → IsComing c past h z
            long true i = absurd i
            long false i = let r = found_so (on_send c want bp x p l.books.requests.clock m) z (listed p op) i in on_one m rest s r.item r.there (nat_lt l.books.requests.clock (r.item.moment + read_timeout c)) refl r.found

    of_frames : x.via ≡ Stream → IsIn z (in_frames c want bp l x p [] ms) → IsComing c past h z
    of_frames kind i = go (frames_so c want bp l x p z [] ms i)
      where
        go : InFrames c want bp l x p [] ms z → IsComing c past h z
        go r = by (is_young c l.books.requests.clock (start_seen r.write.request x.server Stream l.books.requests)) refl r.found
          where
            begun : is_young c l.books.requests.clock (start_seen r.write.request x.server Stream l.books.requests) ≡ is_before c (now h) (start r.write.request x.server Stream h)
            begun = ap₂ (is_young c) time (kh.books.requests.starts r.write.request x.server Stream) ∙ young_is c (now h) (start r.write.request x.server Stream h)

            by : (b : Bool) → is_young c l.books.requests.clock (start_seen r.write.request x.server Stream l.books.requests) ≡ b → (if b then comes_for c want bp x p r.write.request r.id r.write.octets r.message else None) ≡ Some z → IsComing c past h z
            by false y e = absurd (cc)
            by true y e = coming_on Stream kind r.write.request r.id r.write.octets r.message (comes_so c want bp x p r.write.request r.id r.write.octets r.message z e)
                (λ a q. subst (λ b. IsAmong r.write.octets (if b then octets_for r.write.request (waiting_with [] p r.id h) else [])) (sym (sym begun ∙ y))
                (subst (λ ws. IsAmong r.write.octets (octets_for r.write.request ws)) (kh.waiting.waits p r.id) (so_written r.write (waiting_seen p r.id l.waiting) r.there)))
                r.first

  so : (z : Coming) → IsIn z (coming c want bp op l) → IsComing c past h z
  so z i = go l.frames.brought refl i
    where
      go : (b : Option Brought) → l.frames.brought ≡ b → IsIn z (brought_in c want bp op l b) → IsComing c past h z
      go None e i = absurd i
      go (Some b) e i = at (entry_at b.place bp.places) refl i
        where
          there : came b.place (newest h) past ≡ b.frames
          there = sym (frames_here b.place) ∙ (ap (frames_of b.place) e ∙ ap (λ d. if d then b.frames else []) (own b.place))

          kind : (x : Place) → entry_at b.place bp.places ≡ Some x → is_known_place c x ≡ true → (v : Via) → x.via ≡ v → IsIn z (by_kind c v want bp op l x b.place b.frames) → IsComing c past h z
          kind x j k Dgram s i = of_datagrams b.place b.frames x z j k there s i
          kind x j k Stream s i = of_frames b.place b.frames x z j k there s i

          at : (o : Option Place) → entry_at b.place bp.places ≡ o → IsIn z (at_place c want bp op l b.place b.frames o) → IsComing c past h z
          at None j i = absurd i
          at (Some x) j i = on (is_known_place c x) refl i
            where
              on : (d : Bool) → is_known_place c x ≡ d → IsIn z (if d then by_kind c x.via want bp op l x b.place b.frames else []) → IsComing c past h z
              on true k i = kind x j k x.via refl i
              on false k i = absurd i

  -- what comes is found

  module _ (r : Request) (v : Via) (s p k id : ℕ) (m : Octets) (wanted : is_wanted want k ≡ true) (comes : Comes c r v s p k id m past (newest h) h) where
    z : Coming
    z = record { request = k; via = v; server = s; place = p; id = id; message = m; agrees = answers r id m }

    x : Place
    x = record { via = v; server = s; stand = seen.Alive }

    asked : entry_at k bp.requests.askings ≡ Some (record { request = r; moment = comes.is_open.stands.asked.0 })
    asked = kp.requests.askings k ∙ comes.is_open.stands.asked.1

    at : entry_at p bp.places ≡ Some x
    unfolding x
    at = go (entry_at p bp.places) (kp.places.sites p ∙ comes.is_open.stands.at) (kp.places.stands p ∙ comes.is_open.stands.alive)
      where
        stood : (a : Seen) → stand_of a ≡ Alive → a ≡ seen.Alive
        stood seen.Opening e = absurd (cc)
        stood seen.Alive e = refl
        stood seen.Gone e = absurd (cc)

        go : (o : Option Place) → site_seen o ≡ Some (record { via = v; server = s }) → stand_seen o ≡ Alive → o ≡ Some (record { via = v; server = s; stand = seen.Alive })
        go None e f = absurd (let z : None ≡ Some (record { via = v; server = s }) = e in cc)
        go (Some y) e f =
            let w : y.via ≡ v = ap (λ (q : Option Site). (site_or (record { via = v; server = s }) q).via) e in
            let n : y.server ≡ s = ap (λ (q : Option Site). (site_or (record { via = v; server = s }) q).server) e in
            let t : y.stand ≡ seen.Alive = stood y.stand f in
            ap (λ a. placed a y.server y.stand) w ∙ (ap (λ b. placed v b y.stand) n ∙ ap (placed v s) t)

    known : is_known_place c x ≡ true
    unfolding x
    known = less_seen s (length c.servers) comes.is_open.stands.known

    on : IsOn c want bp x p k id comes.is_open.octets m z
    unfolding x z answers
    on = record { wanted = wanted; waits = kp.requests.replies k ∙ comes.is_open.stands.waiting; asking_of = record { request = r; moment = comes.is_open.stands.asked.0 }; asked = asked; carries = so_carries c v comes.is_open.octets r id comes.is_open.carries; is = refl }

    -- something came, and there
    brought_there : (b : Option Brought) → l.frames.brought ≡ b → (ms : List Octets) → came p (newest h) past ≡ ms → (n : Octets) → IsIn n ms → IsIn z (by_kind c v want bp op l x p ms) → IsIn z (brought_in c want bp op l b)
    unfolding x
    brought_there None e ms i n there found = absurd (subst (IsIn n) (sym i ∙ (sym (frames_here p) ∙ ap (frames_of p) e)) there)
    brought_there (Some b) e ms i n there found = go (b.place == p) refl
      where
        frames : came p (newest h) past ≡ (if b.place == p then b.frames else [])
        frames = sym (frames_here p) ∙ ap (frames_of p) e

        go : (d : Bool) → (b.place == p) ≡ d → IsIn z (brought_in c want bp op l (Some b))
        go false j = absurd (subst (IsIn n) (sym i ∙ (frames ∙ ap (λ d. if d then b.frames else []) j)) there)
        go true j =
            let q : b.place ≡ p = same_number b.place p j in
            let w : b.frames ≡ ms = sym (sym i ∙ (frames ∙ ap (λ d. if d then b.frames else []) j)) in
            subst (λ q. IsIn z (at_place c want bp op l q b.frames (entry_at q bp.places))) (sym q)
            (subst (λ o. IsIn z (at_place c want bp op l p b.frames o)) (sym at)
            (subst (λ d. IsIn z (if d then by_kind c v want bp op l x p b.frames else [])) (sym known)
            (subst (λ ms. IsIn z (by_kind c v want bp op l x p ms)) (sym w) found)))

    list_of : (ms : List Octets) → first_datagram ms ≡ Some m → (rest : List Octets) × (ms ≡ m ∷ rest)
    list_of [] e = absurd (cc)
    list_of (a ∷ rest) e = (rest, let s : a ≡ m = cc in ap (λ a. a ∷ rest) s)

    by_datagram : v ≡ Dgram → IsIn z (coming c want bp op l)
    unfolding x
    by_datagram kind =
        let first : first_of c Dgram id (came p (newest h) past) ≡ Some m = ap (λ v. first_of c v id (came p (newest h) past)) (sym kind) ∙ comes.first in
        let ms = list_of (received (recv_size c) (came p (newest h) past)) first in
        let dgram : site p past ≡ Some (record { via = Dgram; server = s }) = comes.is_open.stands.at ∙ ap (λ v. Some (record { via = v; server = s })) kind in
        let non = no_stream (site p past) s dgram in
        let sent : IsAmong comes.is_open.octets (unanswered c r p k id (now h) past) = subst (λ v. IsAmong comes.is_open.octets (waited_for c v r s p k id (now h) [] past h)) kind comes.is_open.sent in
        let y = sent_so c k id (now h) comes.is_open.octets (reverse (listed p op)) (subst (IsAmong comes.is_open.octets) (sym (ko.waits k p id (now h) (record { request = r; moment = comes.is_open.stands.asked.0 }) non comes.is_open.stands.asked.1)) sent) in
        let found : on_send c want bp x p l.books.requests.clock m y.send ≡ Some z =
        ap (λ b. if b then comes_for c want bp x p y.send.request y.send.id y.send.octets m else None) (ap (λ n. nat_lt n (y.send.moment + read_timeout c)) time ∙ y.young)
        ∙ (ap₂ (λ j i. comes_for c want bp x p j i y.send.octets m) y.is_request y.is_id
        ∙ (ap (λ o. comes_for c want bp x p k id o m) y.is_octets ∙ so_comes c want bp x p k id comes.is_open.octets m z on)) in
        let there = found_back (on_send c want bp x p l.books.requests.clock m) z y.send (listed p op) (in_reverse y.send (listed p op) y.there) found in
        let long = long_read (recv_size c) (came p (newest h) past) m ms.0 ms.1 in
        let some = some_came (recv_size c) (came p (newest h) past) m ms.0 ms.1 in
        brought_there l.frames.brought refl (came p (newest h) past) refl some.0 some.1
        (subst (λ v. IsIn z (by_kind c v want bp op l x p (came p (newest h) past))) (sym kind)
        (subst (λ os. IsIn z (in_datagrams c want bp op l x p os)) (sym ms.1)
        (subst (λ b. IsIn z (if b then [] else on_sends c want bp x p l.books.requests.clock m (listed p op))) (sym long) there)))

    first_in : (ms : List Octets) → first_with id ms ≡ Some m → IsIn m ms
    first_in [] e = absurd (cc)
    first_in (a ∷ ms) e = go (first_in ms) (is_bad a) (id_in a == id) e
      where
        go : (first_with id ms ≡ Some m → IsIn m ms) → (b d : Bool) → (if b then None else (if d then Some a else first_with id ms)) ≡ Some m → IsIn m (a ∷ ms)
        go rest true d e = absurd (cc)
        go rest false true e = inl (cc)
        go rest false false e = inr (rest e)

    by_frame : v ≡ Stream → IsIn z (coming c want bp op l)
    unfolding x
    by_frame kind =
        let first : first_with id (came p (newest h) past) ≡ Some m = ap (λ v. first_of c v id (came p (newest h) past)) (sym kind) ∙ comes.first in
        let sent = subst (λ v. IsAmong comes.is_open.octets (waited_for c v r s p k id (now h) [] past h)) kind comes.is_open.sent in
        brought_there l.frames.brought refl (came p (newest h) past) refl m (first_in (came p (newest h) past) first)
        (subst (λ v. IsIn z (by_kind c v want bp op l x p (came p (newest h) past))) (sym kind) (so_frames c want bp l x p z [] (came p (newest h) past) (go (is_before c (now h) (start k s Stream h)) refl first sent)))
      where
        go : (b : Bool) → is_before c (now h) (start k s Stream h) ≡ b → first_with id (came p (newest h) past) ≡ Some m → IsAmong comes.is_open.octets (if b then octets_for k (waiting_with [] p id h) else []) → InFrames c want bp l x p [] (came p (newest h) past) z
        go false e first i = absurd i
        go true e first i =
            let w = written_so k comes.is_open.octets (waiting_seen p id l.waiting) (subst (λ ws. IsAmong comes.is_open.octets (octets_for k ws)) (sym (kh.waiting.waits p id)) i) in
            let young : is_young c l.books.requests.clock (start_seen w.write.request s Stream l.books.requests) ≡ true =
            ap (λ j. is_young c l.books.requests.clock (start_seen j s Stream l.books.requests)) w.is_request
            ∙ (ap₂ (is_young c) time (kh.books.requests.starts k s Stream) ∙ (young_is c (now h) (start k s Stream h) ∙ e)) in
            record {
              id = id;
              message = m;
              first = first;
              fresh = refl;
              write = w.write;
              there = w.there;
              found = ap (λ b. if b then comes_for c want bp x p w.write.request id w.write.octets m else None) young
                  ∙ (ap₂ (λ j o. comes_for c want bp x p j id o m) w.is_request w.is_octets ∙ so_comes c want bp x p k id comes.is_open.octets m z on);
            }

    back : IsIn z (coming c want bp op l)
    back = go v refl
      where
        go : (u : Via) → v ≡ u → IsIn z (coming c want bp op l)
        go Dgram e = by_datagram e
        go Stream e = by_frame e

pub tells_coming : (c : Conf) (want : Option ℕ) (past : Books) (open_there : Open) (here : Ledger) (xs : List Coming) → xs ≡ coming c want past open_there here → TellsComing c want past open_there here xs
unfolding z
tells_coming c want past op here xs e x h before kp ko kh =
    subst (AllComing c want x h) (sym e) (record { so = so c want past op here x h before kp ko kh; back = λ r v s p k id m wanted comes. back c want past op here x h before kp ko kh r v s p k id m wanted comes })
