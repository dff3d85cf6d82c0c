-- Whether an exchange of a request is open is what the definitions say.
use Rattle.std.proofs.Common.{◌≡◌, ℕ, suc, ◌+◌, ◌<◌, ◌==◌, ◌&&◌, ◌||◌, ◌⊎◌, inl, inr, not, Bool, true, false, if◌then◌else◌, List, [], ◌∷◌, reverse, length, map, Option, Some, None, refl, sym, ap, ap₂, ◌∙◌, subst, arith}
use Rattle.std.specs.Prelude.{is_some, nat_lt}
use Rattle.std.proofs.lemmas.Bool.Decides.{nat_tests}
use Rattle.number_table.specs.Entries.{entry_at}
use Rattle.client_request.specs.Request.{Request}
use Rattle.client_request.specs.declared.event.Via.{Via}
use Rattle.client_request.specs.declared.event.Via.TheVariants.{Dgram, Stream}
use Rattle.right_trace.specs.Trace.{History, Conf}
use Rattle.right_trace.specs.Time.{now, stream_timeout, read_timeout}
use Rattle.right_trace.specs.Messages.{Octets, CarriesBy}
use Rattle.right_trace.specs.Requests.{Asking, asking, replied, start, started, same_via}
use Rattle.right_trace.specs.Places.{Site, site, is_of_kind, Stand, Unused, Opening, Alive, Gone, is_alive}
use Rattle.right_trace.specs.{Parts.IsIn, Frames.came_here}
use Rattle.right_trace.specs.Writes.{Written, waiting_with}
use Rattle.right_trace.specs.Exchanges.{Stands, IsLeftOpen, IsAmong, unanswered, octets_for, is_before, waited_for}
use Rattle.right_trace.specs.Busy.{IsBusyAt, Exchanging}
use Rattle.trace_tables.specs.declared.places.Place.{Place}
use Rattle.trace_tables.specs.declared.sends.Sent.{Sent}
use Rattle.trace_tables.specs.Known.{stand_of, stand_seen, site_seen}
use Rattle.trace_tables.specs.Lists.{listed}
use Rattle.trace_tables.specs.Requests.{start_seen, started_seen}
use Rattle.trace_tables.specs.frames.{Frames.frames_of, Waiting.waiting_seen}
use Rattle.message_judging.specs.matching.{Matching.carries_by, Shapes.same_octets}
use Rattle.message_judging.proofs.lemmas.matching.Names.{octets_same}
use Rattle.message_judging.proofs.lemmas.matching.Requests.{carries_so, so_carries}
use Rattle.trace_points.specs.declared.questions.configured.ServerUse.{ServerUse}
use Rattle.trace_points.specs.questions.Configured.{use_of}
use Rattle.trace_points.proofs.lemmas.questions.Deciding.{both, all, not_true}
use Rattle.trace_points.specs.exchanges.Coming.{is_young}
use Rattle.trace_points.specs.exchanges.Open.{is_for, octets_of}
use Rattle.trace_points.proofs.lemmas.exchanges.Finding.{own, in_reverse, reverse_in, sent_so, so_sent, written_so, so_written}
use Rattle.trace_points.specs.due.Loose.{brings_seen}
use Rattle.trace_points.proofs.lemmas.due.Waits.{freeing, brings_is}
use Rattle.trace_outs.specs.declared.busy.waits.{Carried.Carried, Spot.Spot}
use Rattle.trace_outs.specs.declared.busy.busy.Scene.{Scene}
use Rattle.trace_outs.specs.busy.Waits.{IsSo, is_spot}
use Rattle.trace_outs.specs.busy.Busy.{Known, is_of, carried_as, or_else, carries_seen, some_sent, some_written, is_open_by, is_handed, is_open_at, some_open}

pub either : (a b : Bool) → (a || b) ≡ true → (a ≡ true) ⊎ (b ≡ true)
either true b e = inl refl
either false b e = inr e

pub first_true : (a b : Bool) → a ≡ true → (a || b) ≡ true
first_true a b e = ap (λ a. a || b) e

pub second_true : (a b : Bool) → b ≡ true → (a || b) ≡ true
second_true true b e = refl
second_true false b e = e

same_number : (a b : ℕ) → (a == b) ≡ true → a ≡ b
same_number a b e = grind (arith, nat_tests)

lt_so : (a b : ℕ) → nat_lt a b ≡ true → a < b
lt_so a b e = grind (arith, nat_tests)

so_lt : (a b : ℕ) → a < b → nat_lt a b ≡ true
so_lt a b lt = grind (arith, nat_tests)

-- what is found of sends and writes
record SentSo (conf : Conf) (r : Request) (k id n : ℕ) (xs : List Sent) (t : Scene) : Type 0 where
  send : Sent
  there : IsIn send xs
  is_it : is_for conf k id n send ≡ true
  carries : carries_seen conf Dgram r k id send.octets t ≡ true

found_sent : (conf : Conf) (r : Request) (k id n : ℕ) (xs : List Sent) (t : Scene) → some_sent conf r k id n xs t ≡ true → SentSo conf r k id n xs t
found_sent conf r k id n [] t e = absurd (cc)
found_sent conf r k id n (x ∷ xs) t e = go (found_sent conf r k id n xs t) (either (is_for conf k id n x && carries_seen conf Dgram r k id x.octets t) _ e)
  where
    go : (some_sent conf r k id n xs t ≡ true → SentSo conf r k id n xs t) → ((is_for conf k id n x && carries_seen conf Dgram r k id x.octets t) ≡ true) ⊎ (some_sent conf r k id n xs t ≡ true) → SentSo conf r k id n (x ∷ xs) t
    go rest (inl e) = (let q = both (is_for conf k id n x) (carries_seen conf Dgram r k id x.octets t) e in record { send = x; there = inl refl; is_it = q.0; carries = q.1 })
    go rest (inr e) = (let f = rest e in record { send = f.send; there = inr f.there; is_it = f.is_it; carries = f.carries })

finds_sent : (conf : Conf) (r : Request) (k id n : ℕ) (y : Sent) (xs : List Sent) (t : Scene) → IsIn y xs → is_for conf k id n y ≡ true → carries_seen conf Dgram r k id y.octets t ≡ true → some_sent conf r k id n xs t ≡ true
finds_sent conf r k id n y [] t i e c = absurd i
finds_sent conf r k id n y (x ∷ xs) t (inl s) e c =
    first_true _ _ (ap (λ (x : Sent). is_for conf k id n x && carries_seen conf Dgram r k id x.octets t) s ∙ all (is_for conf k id n y) (carries_seen conf Dgram r k id y.octets t) e c)
finds_sent conf r k id n y (x ∷ xs) t (inr i) e c = second_true _ _ (finds_sent conf r k id n y xs t i e c)

record WrittenSo (conf : Conf) (r : Request) (k id : ℕ) (ws : List Written) (t : Scene) : Type 0 where
  write : Written
  there : IsIn write ws
  is_request : write.request ≡ k
  carries : carries_seen conf Stream r k id write.octets t ≡ true

found_written : (conf : Conf) (r : Request) (k id : ℕ) (ws : List Written) (t : Scene) → some_written conf r k id ws t ≡ true → WrittenSo conf r k id ws t
found_written conf r k id [] t e = absurd (cc)
found_written conf r k id (w ∷ ws) t e = go (found_written conf r k id ws t) (either ((w.request == k) && carries_seen conf Stream r k id w.octets t) _ e)
  where
    go : (some_written conf r k id ws t ≡ true → WrittenSo conf r k id ws t) → (((w.request == k) && carries_seen conf Stream r k id w.octets t) ≡ true) ⊎ (some_written conf r k id ws t ≡ true) → WrittenSo conf r k id (w ∷ ws) t
    go rest (inl e) = (let q = both (w.request == k) (carries_seen conf Stream r k id w.octets t) e in record { write = w; there = inl refl; is_request = same_number w.request k q.0; carries = q.1 })
    go rest (inr e) = (let f = rest e in record { write = f.write; there = inr f.there; is_request = f.is_request; carries = f.carries })

finds_written : (conf : Conf) (r : Request) (k id : ℕ) (y : Written) (ws : List Written) (t : Scene) → IsIn y ws → y.request ≡ k → carries_seen conf Stream r k id y.octets t ≡ true → some_written conf r k id ws t ≡ true
finds_written conf r k id y [] t i e c = absurd i
finds_written conf r k id y (w ∷ ws) t (inl s) e c =
    first_true _ _ (ap (λ (w : Written). (w.request == k) && carries_seen conf Stream r k id w.octets t) s ∙ all (y.request == k) (carries_seen conf Stream r k id y.octets t) (ap (λ (n : ℕ). n == k) e ∙ own k) c)
finds_written conf r k id y (w ∷ ws) t (inr i) e c = second_true _ _ (finds_written conf r k id y ws t i e c)

-- what was noted is so
via_is : (u v : Via) → same_via u v ≡ true → u ≡ v
via_is Dgram Dgram e = refl
via_is Dgram Stream e = absurd (cc)
via_is Stream Dgram e = absurd (cc)
via_is Stream Stream e = refl

abbrev request_of : Option Asking → Request → Request
request_of None r = r
request_of (Some a) r = a.request

noted_is : (conf : Conf) (h : History) (v : Via) (r : Request) (k id m : ℕ) (o : Octets) (y : Carried) → asking k h ≡ Some (record { request = r; moment = m }) → IsSo conf k h y → is_of v id o y ≡ true → y.carries ≡ carries_by conf.transports.dgram_udp_payload_size v o r id
noted_is conf h v r k id m o y asked so e =
    let p = both (same_via y.via v) ((y.id == id) && same_octets y.octets o) e in
    let q = both (y.id == id) (same_octets y.octets o) p.1 in
    let same : so.0.request ≡ r = ap (λ (a : Option Asking). request_of a r) (sym so.1 ∙ asked) in
    so.2
    ∙ (ap (λ (u : Via). carries_by conf.transports.dgram_udp_payload_size u y.octets so.0.request y.id) (via_is y.via v p.0)
    ∙ (ap (λ (x : Octets). carries_by conf.transports.dgram_udp_payload_size v x so.0.request y.id) (octets_same y.octets o q.1)
    ∙ (ap (λ (q : Request). carries_by conf.transports.dgram_udp_payload_size v o q y.id) same ∙ ap (λ (n : ℕ). carries_by conf.transports.dgram_udp_payload_size v o r n) (same_number y.id id q.0))))

carried_is : (conf : Conf) (h : History) (v : Via) (r : Request) (k id m : ℕ) (o : Octets) (ys : List Carried) → asking k h ≡ Some (record { request = r; moment = m }) → ((y : Carried) → IsIn y ys → IsSo conf k h y) → or_else (carried_as v id o ys) (carries_by conf.transports.dgram_udp_payload_size v o r id) ≡ carries_by conf.transports.dgram_udp_payload_size v o r id
carried_is conf h v r k id m o [] asked so = refl
carried_is conf h v r k id m o (y ∷ ys) asked so = go (carried_is conf h v r k id m o ys asked (λ z i. so z (inr i))) (is_of v id o y) refl
  where
    go : or_else (carried_as v id o ys) (carries_by conf.transports.dgram_udp_payload_size v o r id) ≡ carries_by conf.transports.dgram_udp_payload_size v o r id → (b : Bool) → is_of v id o y ≡ b → or_else (if b then Some y.carries else carried_as v id o ys) (carries_by conf.transports.dgram_udp_payload_size v o r id) ≡ carries_by conf.transports.dgram_udp_payload_size v o r id
    go rest true e = noted_is conf h v r k id m o y asked (so y (inl refl)) e
    go rest false e = rest

before_is : (c : Conf) (n : ℕ) (o : Option ℕ) → is_young c n o ≡ is_before c n o
unfolding stream_timeout
before_is c n None = refl
before_is c n (Some t) = refl

alive_is : (x : Stand) → is_alive x ≡ true → x ≡ Alive
alive_is Unused e = absurd (cc)
alive_is Opening e = absurd (cc)
alive_is Alive e = refl
alive_is Gone e = absurd (cc)

as_long : (us : List ServerUse) → length (map use_of us) ≡ length us
as_long [] = refl
as_long (u ∷ us) = ap suc (as_long us)

abbrev via_or : Option Site → Via
via_or None = Dgram
via_or (Some z) = z.via

abbrev server_or : Option Site → ℕ
server_or None = 0
server_or (Some z) = z.server

module _ (c : Conf) (end : History) (t : Scene) (servers : c.servers ≡ map use_of t.servers.now) (known : Known c end t) where
  abbrev clock : ℕ
  clock = t.ledger.now.books.requests.clock

  long : length c.servers ≡ length t.servers.now
  long = ap length servers ∙ as_long t.servers.now

  -- what was noted of octets is what they are
  noted : (v : Via) (r : Request) (k id m : ℕ) → asking k end ≡ Some (record { request = r; moment = m }) → (o : Octets) → carries_seen c v r k id o t ≡ carries_by c.transports.dgram_udp_payload_size v o r id
  noted v r k id m asked o = carried_is c end v r k id m o (listed k t.waits.now.carried) asked (known.waits.carried k)

  -- by datagrams
  dgram_so : (r : Request) (k p id : ℕ) (m : ℕ) → asking k end ≡ Some (record { request = r; moment = m }) → is_of_kind Stream (site p end) ≡ false → some_sent c r k id t.ledger.now.books.requests.clock (listed p t.sends.now) t ≡ true
      → (o : Octets) × IsAmong o (unanswered c r p k id (now end) end) × CarriesBy c Dgram o r id
  dgram_so r k p id m asked kind e =
      let f = found_sent c r k id t.ledger.now.books.requests.clock (listed p t.sends.now) t e in
      let y = f.send in
      let q = both ((y.request == k) && (y.id == id)) (nat_lt t.ledger.now.books.requests.clock (y.moment + read_timeout c)) f.is_it in
      let i = both (y.request == k) (y.id == id) q.0 in
      let am : IsAmong y.octets (octets_of c y.request y.id t.ledger.now.books.requests.clock (reverse (listed p t.sends.now))) = so_sent c t.ledger.now.books.requests.clock y (reverse (listed p t.sends.now)) (reverse_in y (listed p t.sends.now) f.there) q.1 in
      let an : IsAmong y.octets (octets_of c k id (now end) (reverse (listed p t.sends.now))) =
      subst (λ (n : ℕ). IsAmong y.octets (octets_of c k id n (reverse (listed p t.sends.now)))) known.ledger.books.requests.time
      (subst (λ (id : ℕ). IsAmong y.octets (octets_of c k id t.ledger.now.books.requests.clock (reverse (listed p t.sends.now)))) (same_number y.id id i.1)
      (subst (λ (k : ℕ). IsAmong y.octets (octets_of c k y.id t.ledger.now.books.requests.clock (reverse (listed p t.sends.now)))) (same_number y.request k i.0) am)) in
      (y.octets, subst (IsAmong y.octets) (known.sends.waits k p id (now end) (record { request = r; moment = m }) kind asked) an, carries_so c Dgram y.octets r id (sym (noted Dgram r k id m asked y.octets) ∙ f.carries))

  so_dgram : (r : Request) (k p id : ℕ) (m : ℕ) → asking k end ≡ Some (record { request = r; moment = m }) → is_of_kind Stream (site p end) ≡ false → (o : Octets) → IsAmong o (unanswered c r p k id (now end) end) → CarriesBy c Dgram o r id
      → some_sent c r k id t.ledger.now.books.requests.clock (listed p t.sends.now) t ≡ true
  so_dgram r k p id m asked kind o am carries =
      let f = sent_so c k id (now end) o (reverse (listed p t.sends.now)) (subst (IsAmong o) (sym (known.sends.waits k p id (now end) (record { request = r; moment = m }) kind asked)) am) in
      let y = f.send in
      finds_sent c r k id t.ledger.now.books.requests.clock y (listed p t.sends.now) t (in_reverse y (listed p t.sends.now) f.there)
      (all ((y.request == k) && (y.id == id)) _ (all (y.request == k) (y.id == id) (ap (λ (n : ℕ). n == k) f.is_request ∙ own k) (ap (λ (n : ℕ). n == id) f.is_id ∙ own id)) (ap (λ (n : ℕ). nat_lt n (y.moment + read_timeout c)) known.ledger.books.requests.time ∙ f.young))
      (noted Dgram r k id m asked y.octets ∙ so_carries c Dgram y.octets r id (subst (λ (o : Octets). CarriesBy c Dgram o r id) (sym f.is_octets) carries))

  -- by stream
  left_waiting : (p id : ℕ) → brings_seen id (frames_of p t.ledger.now.frames.brought) ≡ false → waiting_seen p id t.ledger.now.waiting ≡ waiting_with (came_here p end) p id end
  left_waiting p id e =
      known.ledger.waiting.waits p id
      ∙ sym (freeing (came_here p end) p id end ∙ ap (λ b. if b then [] else waiting_with [] p id end) (sym (brings_is id (came_here p end)) ∙ (ap (brings_seen id) (sym (known.ledger.frames.here p)) ∙ e)))

  brought_gone : (p id : ℕ) → brings_seen id (frames_of p t.ledger.now.frames.brought) ≡ true → waiting_with (came_here p end) p id end ≡ []
  brought_gone p id e = freeing (came_here p end) p id end ∙ ap (λ b. if b then [] else waiting_with [] p id end) (sym (brings_is id (came_here p end)) ∙ (ap (brings_seen id) (sym (known.ledger.frames.here p)) ∙ e))

  young_is : (k s : ℕ) → is_young c t.ledger.now.books.requests.clock (start_seen k s Stream t.ledger.now.books.requests) ≡ is_before c (now end) (start k s Stream end)
  young_is k s = before_is c t.ledger.now.books.requests.clock (start_seen k s Stream t.ledger.now.books.requests) ∙ ap₂ (is_before c) known.ledger.books.requests.time (known.ledger.books.requests.starts k s Stream)

  stream_so : (r : Request) (k p id s m : ℕ) → asking k end ≡ Some (record { request = r; moment = m }) → is_open_by c Stream r k p id s t ≡ true → (o : Octets) × IsAmong o (waited_for c Stream r s p k id (now end) (came_here p end) end end) × CarriesBy c Stream o r id
  stream_so r k p id s m asked e =
      let q = both (is_young c t.ledger.now.books.requests.clock (start_seen k s Stream t.ledger.now.books.requests)) _ e in
      let u = both (not (brings_seen id (frames_of p t.ledger.now.frames.brought))) _ q.1 in
      let f = found_written c r k id (waiting_seen p id t.ledger.now.waiting) t u.1 in
      let w = f.write in
      let am : IsAmong w.octets (octets_for k (waiting_seen p id t.ledger.now.waiting)) = subst (λ (k : ℕ). IsAmong w.octets (octets_for k (waiting_seen p id t.ledger.now.waiting))) f.is_request (so_written w (waiting_seen p id t.ledger.now.waiting) f.there) in
      let an : IsAmong w.octets (octets_for k (waiting_with (came_here p end) p id end)) = subst (λ (ws : List Written). IsAmong w.octets (octets_for k ws)) (left_waiting p id (not_true (brings_seen id (frames_of p t.ledger.now.frames.brought)) u.0)) am in
      (w.octets, subst (λ b. IsAmong w.octets (if b then octets_for k (waiting_with (came_here p end) p id end) else [])) (sym (sym (young_is k s) ∙ q.0)) an, carries_so c Stream w.octets r id (sym (noted Stream r k id m asked w.octets) ∙ f.carries))

  so_stream : (r : Request) (k p id s m : ℕ) → asking k end ≡ Some (record { request = r; moment = m }) → (o : Octets) → IsAmong o (waited_for c Stream r s p k id (now end) (came_here p end) end end) → CarriesBy c Stream o r id → is_open_by c Stream r k p id s t ≡ true
  so_stream r k p id s m asked o am carries = young (is_before c (now end) (start k s Stream end)) refl am
    where
      left : (b : Bool) → brings_seen id (frames_of p t.ledger.now.frames.brought) ≡ b → IsAmong o (octets_for k (waiting_with (came_here p end) p id end)) → (not b && some_written c r k id (waiting_seen p id t.ledger.now.waiting) t) ≡ true
      left true i am = absurd (subst (λ (ws : List Written). IsAmong o (octets_for k ws)) (brought_gone p id i) am)
      left false i am =
          let f = written_so k o (waiting_seen p id t.ledger.now.waiting) (subst (λ (ws : List Written). IsAmong o (octets_for k ws)) (sym (left_waiting p id i)) am) in
          finds_written c r k id f.write (waiting_seen p id t.ledger.now.waiting) t f.there f.is_request (noted Stream r k id m asked f.write.octets ∙ so_carries c Stream f.write.octets r id (subst (λ (o : Octets). CarriesBy c Stream o r id) (sym f.is_octets) carries))

      young : (b : Bool) → is_before c (now end) (start k s Stream end) ≡ b → IsAmong o (if b then octets_for k (waiting_with (came_here p end) p id end) else []) → is_open_by c Stream r k p id s t ≡ true
      young true i am =
          all (is_young c t.ledger.now.books.requests.clock (start_seen k s Stream t.ledger.now.books.requests)) _ (young_is k s ∙ i)
          (left (brings_seen id (frames_of p t.ledger.now.frames.brought)) refl am)
      young false i am = absurd am

  begun_is : (k s : ℕ) (v : Via) → started_seen k s v t.ledger.now.books.requests ≡ started k s v end
  begun_is k s v = ap is_some (known.ledger.books.requests.starts k s v)

  -- at a place
  module _ (k m : ℕ) (r : Request) (asked : asking k end ≡ Some (record { request = r; moment = m })) (waiting : replied k end ≡ false) where
    stands_so : (y : Spot) (x : Place) → entry_at y.place t.ledger.now.books.places ≡ Some x → is_alive (stand_of x.stand) ≡ true → nat_lt x.server (length t.servers.now) ≡ true → Stands c r x.via x.server y.place k end
    stands_so y x there alive lt = record {
      asked = (m, asked);
      waiting = waiting;
      alive = sym (known.ledger.books.places.stands y.place) ∙ (ap stand_seen there ∙ alive_is (stand_of x.stand) alive);
      at = sym (known.ledger.books.places.sites y.place) ∙ ap site_seen there;
      known = subst (λ (n : ℕ). x.server < n) (sym long) (lt_so x.server (length t.servers.now) lt);
    }

    handed_by : (s : ℕ) → is_handed k s t ≡ true → (u : Via) × (started k s u end ≡ true)
    handed_by s e = go (either (started_seen k s Dgram t.ledger.now.books.requests) _ e)
      where
        go : (started_seen k s Dgram t.ledger.now.books.requests ≡ true) ⊎ (started_seen k s Stream t.ledger.now.books.requests ≡ true) → (u : Via) × (started k s u end ≡ true)
        go (inl e) = (Dgram, sym (begun_is k s Dgram) ∙ e)
        go (inr e) = (Stream, sym (begun_is k s Stream) ∙ e)

    waited_so : (v : Via) (p id s : ℕ) → site p end ≡ Some (record { via = v; server = s }) → is_open_by c v r k p id s t ≡ true → (o : Octets) × IsAmong o (waited_for c v r s p k id (now end) (came_here p end) end end) × CarriesBy c v o r id
    waited_so Dgram p id s at e = dgram_so r k p id m asked (ap (is_of_kind Stream) at) e
    waited_so Stream p id s at e = stream_so r k p id s m asked e

    open_so : (y : Spot) (o : Option Place) → entry_at y.place t.ledger.now.books.places ≡ o → is_open_at c r k y o t ≡ true → (s : ℕ) × IsBusyAt c s k end
    open_so y None there e = absurd (cc)
    open_so y (Some x) there e =
        let q = both (is_alive (stand_of x.stand) && nat_lt x.server (length t.servers.now)) _ e in
        let a = both (is_alive (stand_of x.stand)) (nat_lt x.server (length t.servers.now)) q.0 in
        let b = both (is_handed k x.server t) _ q.1 in
        let stands = stands_so y x there a.0 a.1 in
        let h = handed_by x.server b.0 in
        let w = waited_so x.via y.place y.id x.server stands.at b.1 in
        (x.server, Exchanging r x.via h.0 y.place y.id h.1 (record { stands = stands; octets = w.0; sent = w.1; carries = w.2 }))

    pub some_so : (ys : List Spot) → some_open c r k ys t ≡ true → (s : ℕ) × IsBusyAt c s k end
    some_so [] e = absurd (cc)
    some_so (y ∷ ys) e = go (some_so ys) (either (is_open_at c r k y (entry_at y.place t.ledger.now.books.places) t) _ e)
      where
        go : (some_open c r k ys t ≡ true → (s : ℕ) × IsBusyAt c s k end) → (is_open_at c r k y (entry_at y.place t.ledger.now.books.places) t ≡ true) ⊎ (some_open c r k ys t ≡ true) → (s : ℕ) × IsBusyAt c s k end
        go rest (inl e) = open_so y (entry_at y.place t.ledger.now.books.places) refl e
        go rest (inr e) = rest e

    -- the other way
    opened_is : (v : Via) (p id s : ℕ) → site p end ≡ Some (record { via = v; server = s }) → (o : Octets) → IsAmong o (waited_for c v r s p k id (now end) (came_here p end) end end) → CarriesBy c v o r id → is_open_by c v r k p id s t ≡ true
    opened_is Dgram p id s at o am c = so_dgram r k p id m asked (ap (is_of_kind Stream) at) o am c
    opened_is Stream p id s at o am c = so_stream r k p id s m asked o am c

    spot_is : (v : Via) (p id s : ℕ) (o : Octets) → IsAmong o (waited_for c v r s p k id (now end) (came_here p end) end end) → is_spot p id (listed k t.waits.now.spots) ≡ true
    spot_is Dgram p id s o am = known.waits.sent r k p id (now end) o am
    spot_is Stream p id s o am = go (is_before c (now end) (start k s Stream end)) am
      where
        go : (b : Bool) → IsAmong o (if b then octets_for k (waiting_with (came_here p end) p id end) else []) → is_spot p id (listed k t.waits.now.spots) ≡ true
        go true am = known.waits.written (came_here p end) k p id o am
        go false am = absurd am

    handed_is : (s : ℕ) (u : Via) → started k s u end ≡ true → is_handed k s t ≡ true
    handed_is s Dgram e = first_true (started_seen k s Dgram t.ledger.now.books.requests) _ (begun_is k s Dgram ∙ e)
    handed_is s Stream e = second_true (started_seen k s Dgram t.ledger.now.books.requests) _ (begun_is k s Stream ∙ e)

    at_entry : (v u : Via) (p id s : ℕ) (o : Option Place) → site_seen o ≡ Some (record { via = v; server = s }) → stand_seen o ≡ Alive → s < length c.servers → started k s u end ≡ true → is_open_by c v r k p id s t ≡ true → is_open_at c r k (record { place = p; id = id }) o t ≡ true
    at_entry v u p id s None e st lt begun left = absurd (let z : None ≡ Some (record { via = v; server = s }) = e in cc)
    at_entry v u p id s (Some x) e st lt begun left =
        let i : x.via ≡ v = ap via_or e in
        let j : x.server ≡ s = ap server_or e in
        all (is_alive (stand_of x.stand) && nat_lt x.server (length t.servers.now)) _
        (all (is_alive (stand_of x.stand)) (nat_lt x.server (length t.servers.now)) (ap is_alive st) (so_lt x.server (length t.servers.now) (subst (λ (n : ℕ). x.server < n) long (subst (λ (s : ℕ). s < length c.servers) (sym j) lt))))
        (all (is_handed k x.server t) _ (ap (λ (s : ℕ). is_handed k s t) j ∙ handed_is s u begun)
        (ap₂ (λ (v : Via) (s : ℕ). is_open_by c v r k p id s t) i j ∙ left))

    some_at : (p id : ℕ) (ys : List Spot) → is_spot p id ys ≡ true → is_open_at c r k (record { place = p; id = id }) (entry_at p t.ledger.now.books.places) t ≡ true → some_open c r k ys t ≡ true
    some_at p id [] e left = absurd (cc)
    some_at p id (y ∷ ys) e left = go (λ e. some_at p id ys e left) (either ((y.place == p) && (y.id == id)) _ e)
      where
        go : (is_spot p id ys ≡ true → some_open c r k ys t ≡ true) → (((y.place == p) && (y.id == id)) ≡ true) ⊎ (is_spot p id ys ≡ true) → (is_open_at c r k y (entry_at y.place t.ledger.now.books.places) t || some_open c r k ys t) ≡ true
        go rest (inl e) =
            let q = both (y.place == p) (y.id == id) e in
            first_true _ _ (ap₂ (λ (p id : ℕ). is_open_at c r k (record { place = p; id = id }) (entry_at p t.ledger.now.books.places) t) (same_number y.place p q.0) (same_number y.id id q.1) ∙ left)
        go rest (inr e) = second_true _ _ (rest e)

    pub so_some : (v u : Via) (s p id : ℕ) → started k s u end ≡ true → IsLeftOpen c r v s p k id end → some_open c r k (listed k t.waits.now.spots) t ≡ true
    so_some v u s p id begun is =
        some_at p id (listed k t.waits.now.spots) (spot_is v p id s is.octets is.sent)
        (at_entry v u p id s (entry_at p t.ledger.now.books.places) (known.ledger.books.places.sites p ∙ is.stands.at) (known.ledger.books.places.stands p ∙ is.stands.alive) is.stands.known begun
        (opened_is v p id s is.stands.at is.octets is.sent is.carries))
