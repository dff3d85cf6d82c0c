-- What is found to be owed is what the definitions say.
use Rattle.std.proofs.Common.{◌≡◌, ℕ, ◌+◌, ◌<◌, ◌==◌, ◌&&◌, ◌||◌, ◌⊎◌, inl, inr, not, nat_lt, Bool, true, false, if◌then◌else◌, length, List, [], ◌∷◌, reverse, Option, Some, None, refl, sym, ap, ap₂, ◌∙◌, subst, arith}
use Rattle.std.specs.Prelude.{is_some}
use Rattle.std.proofs.lemmas.Bool.Decides.{nat_tests}
use Rattle.number_table.specs.Entries.{entry_at}
use Rattle.client_request.specs.Request.{Request}
use Rattle.client_request.specs.declared.event.{What.What, Via.Via}
use Rattle.client_request.specs.declared.event.Via.TheVariants.{Dgram, Stream}
use Rattle.right_trace.specs.Trace.{History, Conf}
use Rattle.right_trace.specs.Time.{now, stream_timeout, read_timeout}
use Rattle.right_trace.specs.Messages.{Octets, CarriesBy}
use Rattle.right_trace.specs.Requests.{Asking, asking, start, handed}
use Rattle.right_trace.specs.Places.{Site, site, is_of_kind, Stand, Unused, Opening, Alive, Gone, stand, is_alive, is_told}
use Rattle.right_trace.specs.Parts.{IsIn}
use Rattle.right_trace.specs.Frames.{came_here, brings}
use Rattle.right_trace.specs.Writes.{Written, waiting_with}
use Rattle.right_trace.specs.Exchanges.{octets_for, is_before, waited_for, IsAmong}
use Rattle.right_trace.specs.Owed.{IsOwed, AllAreDone}
use Rattle.trace_tables.specs.declared.books.Books.{Books}
use Rattle.trace_tables.specs.declared.places.Place.{Place}
use Rattle.trace_tables.specs.declared.sends.Sent.{Sent}
use Rattle.trace_tables.specs.Known.{site_seen, stand_seen}
use Rattle.trace_tables.specs.{Requests.start_seen, Lists.listed}
use Rattle.trace_tables.specs.Books as books
use Rattle.trace_tables.specs.declared.frames.ledger.Ledger.{Ledger}
use Rattle.trace_tables.specs.frames.{Frames.frames_of, Waiting.waiting_seen}
use Rattle.trace_tables.specs.frames.Ledger as ledger
use Rattle.message_judging.specs.matching.Matching.{carries_by}
use Rattle.message_judging.proofs.lemmas.matching.Requests.{carries_so, so_carries}
use Rattle.trace_points.specs.due.Loose.{brings_seen}
use Rattle.trace_points.proofs.lemmas.due.Waits.{freeing, brings_is}
use Rattle.trace_points.proofs.lemmas.questions.Deciding.{both, all, not_true}
use Rattle.trace_points.specs.exchanges.Open.{Open, is_for, octets_of}
use Rattle.trace_points.specs.exchanges.Open as open_sends
use Rattle.trace_points.specs.exchanges.Coming.{is_young}
use Rattle.trace_points.proofs.lemmas.exchanges.Finding.{in_reverse, reverse_in, sent_so, so_sent, written_so, so_written}
use Rattle.trace_errors.specs.declared.owed.exchanged.Exchange.{Exchange}
use Rattle.trace_errors.specs.owed.Exchanged.{Exchanged}
use Rattle.trace_errors.specs.owed.Exchanged as exchanged
use Rattle.trace_errors.specs.owed.Owed.{some_sent, some_written, waits_by, alive_seen, is_still_alive, owes_there, owes_on, some_owe, is_owed_to, is_owed, handed_seen, AllHave, IsDone, TellsDone}
use Rattle.trace_errors.proofs.lemmas.owed.Exchanging.{same_number}

own : (a : ℕ) → (a == a) ≡ true
own a = grind (arith, nat_tests)

below : (a b : ℕ) → nat_lt a b ≡ true → a < b
below a b e = grind (arith, nat_tests)

so_below : (a b : ℕ) → a < b → nat_lt a b ≡ true
so_below a b e = grind (arith, nat_tests)

either : (a b : Bool) → (a || b) ≡ true → (a ≡ true) ⊎ (b ≡ true)
either true b e = inl refl
either false b e = inr e

first_true : (a b : Bool) → a ≡ true → (a || b) ≡ true
first_true a b e = ap (λ a. a || b) e

second_true : (a b : Bool) → b ≡ true → (a || b) ≡ true
second_true true b e = refl
second_true false b e = e

-- sends

record Carrying (conf : Conf) (r : Request) (k id n : ℕ) (xs : List Sent) : Type 0 where
  octets : Octets
  there : IsAmong octets (octets_of conf k id n (reverse xs))
  carries : CarriesBy conf Dgram octets r id

for_so : (c : Conf) (k id n : ℕ) (x : Sent) → is_for c k id n x ≡ true → (x.request ≡ k) × (x.id ≡ id) × (nat_lt n (x.moment + read_timeout c) ≡ true)
for_so c k id n x e =
    let a = both ((x.request == k) && (x.id == id)) (nat_lt n (x.moment + read_timeout c)) e in
    let b = both (x.request == k) (x.id == id) a.0 in
    (same_number x.request k b.0, same_number x.id id b.1, a.1)

one_sent : (conf : Conf) (r : Request) (k id n : ℕ) (x : Sent) (xs : List Sent) → IsIn x xs → (is_for conf k id n x && carries_by conf.transports.dgram_udp_payload_size Dgram x.octets r x.id) ≡ true → Carrying conf r k id n xs
one_sent conf r k id n x xs i e =
    let q = both (is_for conf k id n x) (carries_by conf.transports.dgram_udp_payload_size Dgram x.octets r x.id) e in
    let f = for_so conf k id n x q.0 in
    record {
      octets = x.octets;
      there = subst (λ id. IsAmong x.octets (octets_of conf k id n (reverse xs))) f.1 (subst (λ k. IsAmong x.octets (octets_of conf k x.id n (reverse xs))) f.0 (so_sent conf n x (reverse xs) (reverse_in x xs i) f.2));
      carries = subst (CarriesBy conf Dgram x.octets r) f.1 (carries_so conf Dgram x.octets r x.id q.1);
    }

some_sent_in : (c : Conf) (r : Request) (k id n : ℕ) (xs : List Sent) → some_sent c r k id n xs ≡ true → (x : Sent) × IsIn x xs × ((is_for c k id n x && carries_by c.transports.dgram_udp_payload_size Dgram x.octets r x.id) ≡ true)
some_sent_in c r k id n [] e = absurd (cc)
some_sent_in c r k id n (x ∷ xs) e = go (either (is_for c k id n x && carries_by c.transports.dgram_udp_payload_size Dgram x.octets r x.id) (some_sent c r k id n xs) e) (some_sent_in c r k id n xs)
  where
    go : ((is_for c k id n x && carries_by c.transports.dgram_udp_payload_size Dgram x.octets r x.id) ≡ true) ⊎ (some_sent c r k id n xs ≡ true) → (some_sent c r k id n xs ≡ true → (x : Sent) × IsIn x xs × ((is_for c k id n x && carries_by c.transports.dgram_udp_payload_size Dgram x.octets r x.id) ≡ true)) → (y : Sent) × IsIn y (x ∷ xs) × ((is_for c k id n y && carries_by c.transports.dgram_udp_payload_size Dgram y.octets r y.id) ≡ true)
    go (inl e) rest = (x, inl refl, e)
    go (inr e) rest = (let y = rest e in (y.0, inr y.1, y.2))

in_some_sent : (c : Conf) (r : Request) (k id n : ℕ) (y : Sent) (xs : List Sent) → IsIn y xs → (is_for c k id n y && carries_by c.transports.dgram_udp_payload_size Dgram y.octets r y.id) ≡ true → some_sent c r k id n xs ≡ true
in_some_sent c r k id n y [] i e = absurd i
in_some_sent c r k id n y (x ∷ xs) (inl q) e = first_true _ _ (subst (λ (y : Sent). (is_for c k id n y && carries_by c.transports.dgram_udp_payload_size Dgram y.octets r y.id) ≡ true) (sym q) e)
in_some_sent c r k id n y (x ∷ xs) (inr i) e = second_true _ _ (in_some_sent c r k id n y xs i e)

sends_so : (conf : Conf) (r : Request) (k id n : ℕ) (xs : List Sent) → some_sent conf r k id n xs ≡ true → Carrying conf r k id n xs
sends_so conf r k id n xs e = (let y = some_sent_in conf r k id n xs e in one_sent conf r k id n y.0 xs y.1 y.2)

so_sends : (conf : Conf) (r : Request) (k id n : ℕ) (o : Octets) (xs : List Sent) → IsAmong o (octets_of conf k id n (reverse xs)) → CarriesBy conf Dgram o r id → some_sent conf r k id n xs ≡ true
so_sends conf r k id n o xs i c =
    let y = sent_so conf k id n o (reverse xs) i in
    let x = y.send in
    let d : CarriesBy conf Dgram x.octets r x.id = subst (λ o. CarriesBy conf Dgram o r x.id) (sym y.is_octets) (subst (CarriesBy conf Dgram o r) (sym y.is_id) c) in
    in_some_sent conf r k id n x xs (in_reverse x xs y.there)
    (all (is_for conf k id n x) _ (all ((x.request == k) && (x.id == id)) _ (all (x.request == k) (x.id == id) (ap (λ n. n == k) y.is_request ∙ own k) (ap (λ n. n == id) y.is_id ∙ own id)) y.young) (so_carries conf Dgram x.octets r x.id d))

-- writes

record CarryingFrame (conf : Conf) (r : Request) (k id : ℕ) (ws : List Written) : Type 0 where
  octets : Octets
  there : IsAmong octets (octets_for k ws)
  carries : CarriesBy conf Stream octets r id

some_written_in : (c : Conf) (r : Request) (k id : ℕ) (ws : List Written) → some_written c r k id ws ≡ true → (w : Written) × IsIn w ws × (((w.request == k) && carries_by c.transports.dgram_udp_payload_size Stream w.octets r id) ≡ true)
some_written_in c r k id [] e = absurd (cc)
some_written_in c r k id (w ∷ ws) e = go (either ((w.request == k) && carries_by c.transports.dgram_udp_payload_size Stream w.octets r id) (some_written c r k id ws) e) (some_written_in c r k id ws)
  where
    go : (((w.request == k) && carries_by c.transports.dgram_udp_payload_size Stream w.octets r id) ≡ true) ⊎ (some_written c r k id ws ≡ true) → (some_written c r k id ws ≡ true → (w : Written) × IsIn w ws × (((w.request == k) && carries_by c.transports.dgram_udp_payload_size Stream w.octets r id) ≡ true)) → (y : Written) × IsIn y (w ∷ ws) × (((y.request == k) && carries_by c.transports.dgram_udp_payload_size Stream y.octets r id) ≡ true)
    go (inl e) rest = (w, inl refl, e)
    go (inr e) rest = (let y = rest e in (y.0, inr y.1, y.2))

in_some_written : (c : Conf) (r : Request) (k id : ℕ) (y : Written) (ws : List Written) → IsIn y ws → ((y.request == k) && carries_by c.transports.dgram_udp_payload_size Stream y.octets r id) ≡ true → some_written c r k id ws ≡ true
in_some_written c r k id y [] i e = absurd i
in_some_written c r k id y (w ∷ ws) (inl q) e = first_true _ _ (subst (λ (y : Written). ((y.request == k) && carries_by c.transports.dgram_udp_payload_size Stream y.octets r id) ≡ true) (sym q) e)
in_some_written c r k id y (w ∷ ws) (inr i) e = second_true _ _ (in_some_written c r k id y ws i e)

frames_so : (conf : Conf) (r : Request) (k id : ℕ) (ws : List Written) → some_written conf r k id ws ≡ true → CarryingFrame conf r k id ws
frames_so conf r k id ws e =
    let y = some_written_in conf r k id ws e in
    let q = both (y.0.request == k) (carries_by conf.transports.dgram_udp_payload_size Stream y.0.octets r id) y.2 in
    record { octets = y.0.octets; there = subst (λ k. IsAmong y.0.octets (octets_for k ws)) (same_number y.0.request k q.0) (so_written y.0 ws y.1); carries = carries_so conf Stream y.0.octets r id q.1 }

so_frames : (conf : Conf) (r : Request) (k id : ℕ) (o : Octets) (ws : List Written) → IsAmong o (octets_for k ws) → CarriesBy conf Stream o r id → some_written conf r k id ws ≡ true
so_frames conf r k id o ws i c =
    let y = written_so k o ws i in
    let w = y.write in
    in_some_written conf r k id w ws y.there (all (w.request == k) _ (ap (λ n. n == k) y.is_request ∙ own k) (so_carries conf Stream w.octets r id (subst (λ o. CarriesBy conf Stream o r id) (sym y.is_octets) c)))

young_is : (conf : Conf) (n : ℕ) (o : Option ℕ) → is_young conf n o ≡ is_before conf n o
unfolding stream_timeout
young_is conf n None = refl
young_is conf n (Some t) = refl

alive_is : (x : Stand) → is_alive x ≡ true → x ≡ Alive
alive_is Alive e = refl
alive_is Unused e = absurd (cc)
alive_is Opening e = absurd (cc)
alive_is Gone e = absurd (cc)

-- exchanges

module _ (c : Conf) (k : ℕ) (w : What) (bp : Books) (l : Ledger) (op : Open) (t : Exchanged) (x h : History) (kp : books.Known x bp) (kl : ledger.Known h l) (ko : open_sends.Known c h op) (kt : exchanged.Known c h t) where
  -- what is waited for, as a walk sees it and as the definitions say it
  record Waited (v : Via) (s : ℕ) (r : Request) (p id : ℕ) : Type 0 where
    octets : Octets
    sent : IsAmong octets (waited_for c v r s p k id (now h) (came_here p h) h h)
    carries : CarriesBy c v octets r id

  brought_is : (p id : ℕ) → brings_seen id (frames_of p l.frames.brought) ≡ brings id (came_here p h)
  brought_is p id = ap (brings_seen id) (kl.frames.here p) ∙ brings_is id (came_here p h)

  begun_is : (s : ℕ) → is_young c l.books.requests.clock (start_seen k s Stream l.books.requests) ≡ is_before c (now h) (start k s Stream h)
  begun_is s = young_is c l.books.requests.clock (start_seen k s Stream l.books.requests) ∙ ap₂ (is_before c) kl.books.requests.time (kl.books.requests.starts k s Stream)

  no_stream : (p s : ℕ) → site p h ≡ Some (record { via = Dgram; server = s }) → is_of_kind Stream (site p h) ≡ false
  no_stream p s e = ap (is_of_kind Stream) e

  waits_so : (v : Via) (s : ℕ) (r : Request) (m p id : ℕ) → asking k h ≡ Some (record { request = r; moment = m }) → site p h ≡ Some (record { via = v; server = s }) → waits_by c v s r k p id l op ≡ true → Waited v s r p id
  waits_so Dgram s r m p id asked at e =
      let d = sends_so c r k id l.books.requests.clock (listed p op) e in
      record {
        octets = d.octets;
        sent = subst (IsAmong d.octets) (ap (λ n. octets_of c k id n (reverse (listed p op))) kl.books.requests.time ∙ ko.waits k p id (now h) (record { request = r; moment = m }) (no_stream p s at) asked) d.there;
        carries = d.carries;
      }
  waits_so Stream s r m p id asked at e =
      let q = both (is_young c l.books.requests.clock (start_seen k s Stream l.books.requests)) _ e in
      let u = both (not (brings_seen id (frames_of p l.frames.brought))) (some_written c r k id (waiting_seen p id l.waiting)) q.1 in
      let d = frames_so c r k id (waiting_seen p id l.waiting) u.1 in
      let unbrought : brings id (came_here p h) ≡ false = sym (brought_is p id) ∙ not_true (brings_seen id (frames_of p l.frames.brought)) u.0 in
      let there : IsAmong d.octets (octets_for k (waiting_with (came_here p h) p id h)) =
      subst (λ ws. IsAmong d.octets (octets_for k ws)) (kl.waiting.waits p id ∙ sym (freeing (came_here p h) p id h ∙ ap (λ b. if b then [] else waiting_with [] p id h) unbrought)) d.there in
      record {
        octets = d.octets;
        sent = subst (λ b. IsAmong d.octets (if b then octets_for k (waiting_with (came_here p h) p id h) else [])) (sym (sym (begun_is s) ∙ q.0)) there;
        carries = d.carries;
      }

  among_if : (b : Bool) (o : Octets) (xs : List Octets) → IsAmong o (if b then xs else []) → (b ≡ true) × IsAmong o xs
  among_if true o xs i = (refl, i)
  among_if false o xs i = absurd i

  written_if : (b : Bool) (o : Octets) (ws : List Written) → IsAmong o (octets_for k (if b then [] else ws)) → (b ≡ false) × IsAmong o (octets_for k ws)
  written_if true o ws i = absurd i
  written_if false o ws i = (refl, i)

  so_waits : (v : Via) (s : ℕ) (r : Request) (m p id : ℕ) → asking k h ≡ Some (record { request = r; moment = m }) → site p h ≡ Some (record { via = v; server = s }) → Waited v s r p id → waits_by c v s r k p id l op ≡ true
  so_waits Dgram s r m p id asked at d =
      so_sends c r k id l.books.requests.clock d.octets (listed p op)
      (subst (IsAmong d.octets) (sym (ap (λ n. octets_of c k id n (reverse (listed p op))) kl.books.requests.time ∙ ko.waits k p id (now h) (record { request = r; moment = m }) (no_stream p s at) asked)) d.sent) d.carries
  so_waits Stream s r m p id asked at d =
      let a = among_if (is_before c (now h) (start k s Stream h)) d.octets (octets_for k (waiting_with (came_here p h) p id h)) d.sent in
      let b = written_if (brings id (came_here p h)) d.octets (waiting_with [] p id h) (subst (λ ws. IsAmong d.octets (octets_for k ws)) (freeing (came_here p h) p id h) a.1) in
      all (is_young c l.books.requests.clock (start_seen k s Stream l.books.requests)) _ (begun_is s ∙ a.0)
      (all (not (brings_seen id (frames_of p l.frames.brought))) (some_written c r k id (waiting_seen p id l.waiting)) (ap not (brought_is p id ∙ b.0))
      (so_frames c r k id d.octets (waiting_seen p id l.waiting) (subst (λ ws. IsAmong d.octets (octets_for k ws)) (sym (kl.waiting.waits p id)) b.1) d.carries))

  -- an exchange

  exchange_kept : (v : Via) (s : ℕ) (r : Request) (p id : ℕ) → Waited v s r p id → IsIn (record { place = p; id = id }) (listed k t)
  exchange_kept Dgram s r p id d = kt.sends r k p id (now h) d.octets d.sent
  exchange_kept Stream s r p id d = kt.writes (came_here p h) k p id d.octets (among_if (is_before c (now h) (start k s Stream h)) d.octets (octets_for k (waiting_with (came_here p h) p id h)) d.sent).1

  alive_so : (p : ℕ) → is_still_alive p w (entry_at p bp.places) (entry_at p l.books.places) ≡ true → (stand p h ≡ Alive) ⊎ ((stand p x ≡ Alive) × (is_told p w ≡ false))
  alive_so p e = go (either (alive_seen (entry_at p l.books.places)) (alive_seen (entry_at p bp.places) && not (is_told p w)) e)
    where
      go : (alive_seen (entry_at p l.books.places) ≡ true) ⊎ ((alive_seen (entry_at p bp.places) && not (is_told p w)) ≡ true) → (stand p h ≡ Alive) ⊎ ((stand p x ≡ Alive) × (is_told p w ≡ false))
      go (inl e) = inl (sym (kl.books.places.stands p) ∙ alive_is (stand_seen (entry_at p l.books.places)) e)
      go (inr e) = (let q = both (alive_seen (entry_at p bp.places)) (not (is_told p w)) e in inr (sym (kp.places.stands p) ∙ alive_is (stand_seen (entry_at p bp.places)) q.0, not_true (is_told p w) q.1))

  so_alive : (p : ℕ) → (stand p h ≡ Alive) ⊎ ((stand p x ≡ Alive) × (is_told p w ≡ false)) → is_still_alive p w (entry_at p bp.places) (entry_at p l.books.places) ≡ true
  so_alive p (inl e) = first_true _ _ (ap is_alive (kl.books.places.stands p ∙ e))
  so_alive p (inr e) = second_true _ _ (all (alive_seen (entry_at p bp.places)) (not (is_told p w)) (ap is_alive (kp.places.stands p ∙ e.0)) (ap not e.1))

  record Owes (r : Request) (e : Exchange) : Type 0 where
    via : Via
    server : ℕ
    known : server < length c.servers
    at : site e.place h ≡ Some (record { via = via; server = server })
    alive : (stand e.place h ≡ Alive) ⊎ ((stand e.place x ≡ Alive) × (is_told e.place w ≡ false))
    waited : Waited via server r e.place e.id

  there_so : (r : Request) (m : ℕ) (e : Exchange) → asking k h ≡ Some (record { request = r; moment = m }) → (stand e.place h ≡ Alive) ⊎ ((stand e.place x ≡ Alive) × (is_told e.place w ≡ false)) → (o : Option Place) → entry_at e.place l.books.places ≡ o → owes_there c r k e.place e.id l op o ≡ true → Owes r e
  there_so r m e asked alive None i u = absurd (cc)
  there_so r m e asked alive (Some y) i u =
      let q = both (nat_lt y.server (length c.servers)) (waits_by c y.via y.server r k e.place e.id l op) u in
      let at : site e.place h ≡ Some (record { via = y.via; server = y.server }) = sym (kl.books.places.sites e.place) ∙ ap site_seen i in
      record { via = y.via; server = y.server; known = below y.server (length c.servers) q.0; at = at; alive = alive; waited = waits_so y.via y.server r m e.place e.id asked at q.1 }

  owes_so : (r : Request) (m : ℕ) (e : Exchange) → asking k h ≡ Some (record { request = r; moment = m }) → owes_on c r k w bp l op e ≡ true → Owes r e
  owes_so r m e asked u =
      let q = both (is_still_alive e.place w (entry_at e.place bp.places) (entry_at e.place l.books.places)) _ u in
      there_so r m e asked (alive_so e.place q.0) (entry_at e.place l.books.places) refl q.1

  so_there : (r : Request) (m : ℕ) (e : Exchange) → asking k h ≡ Some (record { request = r; moment = m }) → (d : Owes r e) → (o : Option Place) → site_seen o ≡ Some (record { via = d.via; server = d.server }) → owes_there c r k e.place e.id l op o ≡ true
  so_there r m e asked d None i = absurd (cc)
  so_there r m e asked d (Some y) i =
      let z : Path Site (record { via = y.via; server = y.server }) (record { via = d.via; server = d.server }) = cc in
      subst (λ (z : Site). (nat_lt z.server (length c.servers) && waits_by c z.via z.server r k e.place e.id l op) ≡ true) (sym z)
      (all (nat_lt d.server (length c.servers)) (waits_by c d.via d.server r k e.place e.id l op) (so_below d.server (length c.servers) d.known) (so_waits d.via d.server r m e.place e.id asked d.at d.waited))

  so_owes : (r : Request) (m : ℕ) (e : Exchange) → asking k h ≡ Some (record { request = r; moment = m }) → Owes r e → owes_on c r k w bp l op e ≡ true
  so_owes r m e asked d = all (is_still_alive e.place w (entry_at e.place bp.places) (entry_at e.place l.books.places)) _ (so_alive e.place d.alive)
      (so_there r m e asked d (entry_at e.place l.books.places) (kl.books.places.sites e.place ∙ d.at))

  some_so : (r : Request) (m : ℕ) → asking k h ≡ Some (record { request = r; moment = m }) → (xs : List Exchange) → some_owe c r k w bp l op xs ≡ true → (e : Exchange) × Owes r e
  some_so r m asked [] u = absurd (cc)
  some_so r m asked (y ∷ ys) u = go (either (owes_on c r k w bp l op y) (some_owe c r k w bp l op ys) u) (some_so r m asked ys)
    where
      go : (owes_on c r k w bp l op y ≡ true) ⊎ (some_owe c r k w bp l op ys ≡ true) → (some_owe c r k w bp l op ys ≡ true → (e : Exchange) × Owes r e) → (e : Exchange) × Owes r e
      go (inl u) rest = (y, owes_so r m y asked u)
      go (inr u) rest = rest u

  so_some : (r : Request) (m : ℕ) → asking k h ≡ Some (record { request = r; moment = m }) → (e : Exchange) → Owes r e → (xs : List Exchange) → IsIn e xs → some_owe c r k w bp l op xs ≡ true
  so_some r m asked e d [] i = absurd i
  so_some r m asked e d (y ∷ ys) (inl q) = first_true _ _ (ap (owes_on c r k w bp l op) q ∙ so_owes r m e asked d)
  so_some r m asked e d (y ∷ ys) (inr i) = second_true _ _ (so_some r m asked e d ys i)

  owed_so : (o : Option Asking) → asking k h ≡ o → is_owed_to c o k w bp l op (listed k t) ≡ true → (s : ℕ) × (s < length c.servers) × IsOwed c s k x w h
  owed_so None i u = absurd (cc)
  owed_so (Some a) i u =
      let e = some_so a.request a.moment i (listed k t) u in
      let d = e.1 in
      (d.server, d.known, record { request = a.request; via = d.via; place = e.0.place; id = e.0.id; asked = (a.moment, i); alive = d.alive; at = d.at; octets = d.waited.octets; sent = d.waited.sent; carries = d.waited.carries })

  so_owed : (s : ℕ) → s < length c.servers → IsOwed c s k x w h → is_owed c k w bp l op t ≡ true
  so_owed s l' d =
      let waited : Waited d.via s d.request d.place d.id = record { octets = d.octets; sent = d.sent; carries = d.carries } in
      ap (λ o. is_owed_to c o k w bp l op (listed k t)) (kl.books.requests.askings k ∙ d.asked.1)
      ∙ so_some d.request d.asked.0 d.asked.1 (record { place = d.place; id = d.id }) (record { via = d.via; server = s; known = l'; at = d.at; alive = d.alive; waited = waited }) (listed k t) (exchange_kept d.via s d.request d.place d.id waited)

  handed_is : (s : ℕ) → handed_seen k s l.books.requests ≡ handed k s h
  handed_is s = ap₂ (λ a b. is_some a || is_some b) (kl.books.requests.starts k s Dgram) (kl.books.requests.starts k s Stream)

  nothing_owed : (b : Bool) → is_owed c k w bp l op t ≡ b → ((s : ℕ) → s < length c.servers → IsOwed c s k x w h → ⊥) → b ≡ false
  nothing_owed false e f = refl
  nothing_owed true e f = absurd (let d = owed_so (asking k h) refl (ap (λ o. is_owed_to c o k w bp l op (listed k t)) (sym (kl.books.requests.askings k)) ∙ e) in f d.0 d.1 d.2)

  done_so : AllHave c k l.books.requests × (is_owed c k w bp l op t ≡ false) → AllAreDone c k x w h
  done_so d = record {
    handed = λ s i. sym (handed_is s) ∙ d.0 s i;
    over = λ s i o. (let u = so_owed s i o in let z : true ≡ false = sym u ∙ d.1 in cc);
  }

  so_done : AllAreDone c k x w h → AllHave c k l.books.requests × (is_owed c k w bp l op t ≡ false)
  so_done d = ((λ s i. handed_is s ∙ d.handed s i), nothing_owed (is_owed c k w bp l op t) refl d.over)

pub tells_done : (c : Conf) (k : ℕ) (w : What) (past : Books) (here : Ledger) (op : Open) (t : Exchanged) (b : Bool) → IsDone c k w past here op t b → TellsDone c k w past here op t b
tells_done c k w past here op t b d x h kp kl ko kt = ((λ u. done_so c k w past here op t x h kp kl ko kt (d.0 u)), (λ a. d.1 (so_done c k w past here op t x h kp kl ko kt a)))
