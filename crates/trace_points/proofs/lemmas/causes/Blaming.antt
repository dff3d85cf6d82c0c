-- What is found of causes is what the definitions say.
use Rattle.std.proofs.Common.{◌≡◌, ℕ, ◌==◌, ◌&&◌, ◌||◌, ◌⊎◌, inl, inr, not, Bool, true, false, if◌then◌else◌, List, [], ◌∷◌, Option, Some, None, refl, sym, ap, ap₂, ◌∙◌, subst, arith}
use Rattle.std.specs.Prelude.{is_some}
use Rattle.std.proofs.lemmas.Bool.Decides.{nat_tests}
use Rattle.number_table.specs.Entries.{entry_at}
use Rattle.client_request.specs.Request.{Request}
use Rattle.client_request.specs.declared.error.Error.{Error}
use Rattle.client_request.specs.declared.error.Error.TheVariants as errors
use Rattle.client_request.specs.declared.error.QueryError.TheVariants as query
use Rattle.client_request.specs.declared.fault.Fault.TheVariants as fault
use Rattle.client_request.specs.declared.event.{What.What, Via.Via}
use Rattle.client_request.specs.declared.event.What.TheVariants.{Ask, Opened, OpenFailed, SendFailed, ShortSend, Datagram, RecvFailed, Wrote, WriteFailed, Bytes, ReadFailed, Ended, Tick}
use Rattle.client_request.specs.declared.event.Via.TheVariants.{Dgram, Stream}
use Rattle.right_trace.specs.Trace.{History, Conf}
use Rattle.right_trace.specs.{Time.newest, Parts.IsIn, Exchanges.Comes}
use Rattle.right_trace.specs.Messages.{CarriesBy, answers, base_is_read, passes_count}
use Rattle.right_trace.specs.Requests.{Asking, asking, same_via}
use Rattle.right_trace.specs.Places.{Site, site, is_site, is_at, stand, Alive}
use Rattle.right_trace.specs.Causes.{Named, named, IsOneOf, FailedAt, CannotBeComposed, CameWrong}
use Rattle.trace_tables.specs.declared.books.Books.{Books}
use Rattle.trace_tables.specs.declared.sends.Sent.{Sent}
use Rattle.trace_tables.specs.{Lists.listed, Requests.started_seen, Sends.names_of}
use Rattle.trace_tables.specs.Books as books
use Rattle.message_judging.specs.matching.Matching.{carries_by}
use Rattle.message_judging.proofs.lemmas.matching.Requests.{carries_so, so_carries}
use Rattle.trace_points.specs.questions.Outs.{alive_server}
use Rattle.trace_points.proofs.lemmas.questions.Deciding.{both, all, not_true, server_there, there_server}
use Rattle.trace_points.specs.declared.exchanges.coming.Coming.{Coming}
use Rattle.trace_points.specs.exchanges.Coming.{is_wanted, AllComing}
use Rattle.trace_points.specs.causes.Failing.{some_carried, was_carried, was_sent, is_hit, if_hit, failure, Fails, InSending, InPart, InReceiving, TellsFailure, is_wrong, some_wrong, TellsWrong, not_read, too_many, TellsUnread, TellsTooMany}

same_number : (a b : ℕ) → (a == b) ≡ true → a ≡ b
same_number a b e = grind (arith, nat_tests)

own : (a : ℕ) → (a == a) ≡ true
own a = grind (arith, nat_tests)

either : (a b : Bool) → (a || b) ≡ true → (a ≡ true) ⊎ (b ≡ true)
either true b e = inl refl
either false b e = inr e

first_true : (a b : Bool) → a ≡ true → (a || b) ≡ true
first_true a b e = ap (λ a. a || b) e

second_true : (a b : Bool) → b ≡ true → (a || b) ≡ true
second_true true b e = refl
second_true false b e = e

abbrev sited : Via → ℕ → Option Site
sited v s = Some (record { via = v; server = s })

-- sends that carried their request

record CarriedBy (conf : Conf) (r : Request) (k : ℕ) (ns : List Named) : Type 0 where
  send : Named
  there : IsOneOf send ns
  carries : CarriesBy conf Dgram send.octets r send.id

carried_so : (conf : Conf) (r : Request) (k : ℕ) (xs : List Sent) → some_carried conf r k xs ≡ true → CarriedBy conf r k (names_of k xs)
carried_so conf r k [] e = absurd (cc)
carried_so conf r k (x ∷ xs) e = go (carried_so conf r k xs) (x.request == k) (carries_by conf.transports.dgram_udp_payload_size Dgram x.octets r x.id) refl e
  where
    more : (b : Bool) → CarriedBy conf r k (names_of k xs) → CarriedBy conf r k (if b then record { id = x.id; octets = x.octets } ∷ names_of k xs else names_of k xs)
    more true c = record { send = c.send; there = inr c.there; carries = c.carries }
    more false c = c

    go : (some_carried conf r k xs ≡ true → CarriedBy conf r k (names_of k xs)) → (a b : Bool) → carries_by conf.transports.dgram_udp_payload_size Dgram x.octets r x.id ≡ b → ((a && b) || some_carried conf r k xs) ≡ true → CarriedBy conf r k (if a then record { id = x.id; octets = x.octets } ∷ names_of k xs else names_of k xs)
    go rest true true i e = record { send = record { id = x.id; octets = x.octets }; there = inl refl; carries = carries_so conf Dgram x.octets r x.id i }
    go rest true false i e = more true (rest e)
    go rest false b i e = rest e

so_carried : (conf : Conf) (r : Request) (k : ℕ) (n : Named) (xs : List Sent) → IsOneOf n (names_of k xs) → CarriesBy conf Dgram n.octets r n.id → some_carried conf r k xs ≡ true
so_carried conf r k n [] i c = absurd i
so_carried conf r k n (x ∷ xs) i c = go (λ i. so_carried conf r k n xs i c) (x.request == k) refl i
  where
    go : (IsOneOf n (names_of k xs) → some_carried conf r k xs ≡ true) → (a : Bool) → (x.request == k) ≡ a → IsOneOf n (if a then record { id = x.id; octets = x.octets } ∷ names_of k xs else names_of k xs) → ((a && carries_by conf.transports.dgram_udp_payload_size Dgram x.octets r x.id) || some_carried conf r k xs) ≡ true
    go rest true j (inl e) =
        let d : CarriesBy conf Dgram x.octets r x.id = subst (λ (n : Named). CarriesBy conf Dgram n.octets r n.id) (sym e) c in
        first_true _ _ (so_carries conf Dgram x.octets r x.id d)
    go rest true j (inr i) = second_true _ _ (rest i)
    go rest false j i = rest i

module _ (conf : Conf) (bp : Books) (k p : ℕ) (x : History) (kp : books.Known x bp) where
  -- request k was sent at p, as the definitions have it
  record WasSent : Type 0 where
    server : ℕ
    at : is_at Dgram server p x ≡ true
    alive : stand p x ≡ Alive
    has_it : started_seen k server Dgram bp.requests ≡ true
    request : Request
    asked : (t : ℕ) × (asking k x ≡ Some (record { request = request; moment = t }))
    by : CarriedBy conf request k (named p k x)

  carried_there : (o : Option Asking) → asking k x ≡ o → was_carried conf k o (listed p bp.sends.sent) ≡ true → (r : Request) × ((t : ℕ) × (asking k x ≡ Some (record { request = r; moment = t }))) × CarriedBy conf r k (named p k x)
  carried_there None i e = absurd (cc)
  carried_there (Some a) i e = (a.request, (a.moment, i), subst (CarriedBy conf a.request k) (kp.sends.names p k) (carried_so conf a.request k (listed p bp.sends.sent) e))

  hit_so : (o : Option ℕ) → alive_server Dgram (entry_at p bp.places) ≡ o → was_sent conf bp k p o ≡ true → WasSent
  hit_so None i e = absurd (cc)
  hit_so (Some s) i e =
      let q = both (started_seen k s Dgram bp.requests) (was_carried conf k (entry_at k bp.requests.askings) (listed p bp.sends.sent)) e in
      let t = server_there Dgram s (entry_at p bp.places) i in
      let at : site p x ≡ Some (record { via = Dgram; server = s }) = sym (kp.places.sites p) ∙ t.0 in
      let r = carried_there (asking k x) refl (ap (λ o. was_carried conf k o (listed p bp.sends.sent)) (sym (kp.requests.askings k)) ∙ q.1) in
      record { server = s; at = ap (is_site Dgram s) at ∙ own s; alive = sym (kp.places.stands p) ∙ t.1; has_it = q.0; request = r.0; asked = r.1; by = r.2 }

  is_sited : (s : ℕ) (o : Option Site) → is_site Dgram s o ≡ true → o ≡ Some (record { via = Dgram; server = s })
  is_sited s None e = absurd (cc)
  is_sited s (Some y) e = go y.via refl (both (same_via y.via Dgram) (y.server == s) e)
    where
      go : (v : Via) → y.via ≡ v → (same_via y.via Dgram ≡ true) × ((y.server == s) ≡ true) → Path (Option Site) (Some y) (Some (record { via = Dgram; server = s }))
      go Dgram i q = ap₂ sited i (same_number y.server s q.1)
      go Stream i q = absurd (let z : false ≡ true = sym (ap (λ v. same_via v Dgram) i) ∙ q.0 in cc)

  so_hit : WasSent → is_hit conf bp k p ≡ true
  so_hit w =
      let at = is_sited w.server (site p x) w.at in
      ap (was_sent conf bp k p) (there_server Dgram w.server (entry_at p bp.places) (kp.places.sites p ∙ at) (kp.places.stands p ∙ w.alive))
      ∙ all (started_seen k w.server Dgram bp.requests) _ w.has_it
      (ap (λ o. was_carried conf k o (listed p bp.sends.sent)) (kp.requests.askings k ∙ w.asked.1)
      ∙ so_carried conf w.request k w.by.send (listed p bp.sends.sent) (subst (IsOneOf w.by.send) (sym (kp.sends.names p k)) w.by.there) w.by.carries)

  failed_there : (told : ℕ → What) (w : What) → w ≡ told p → WasSent → FailedAt conf told k x w
  failed_there told w e s = record {
    place = p;
    server = s.server;
    is_told = e;
    at = s.at;
    alive = s.alive;
    has_it = ap is_some (sym (kp.requests.starts k s.server Dgram)) ∙ s.has_it;
    request = s.request;
    asked = s.asked;
    send = s.by.send;
    named_there = s.by.there;
    carries = s.by.carries;
  }

there_failed : (conf : Conf) (bp : Books) (k : ℕ) (x : History) (kp : books.Known x bp) (told : ℕ → What) (w : What) (f : FailedAt conf told k x w) → is_hit conf bp k f.place ≡ true
there_failed conf bp k x kp told w f = so_hit conf bp k f.place x kp (record {
  server = f.server;
  at = f.at;
  alive = f.alive;
  has_it = ap is_some (kp.requests.starts k f.server Dgram) ∙ f.has_it;
  request = f.request;
  asked = f.asked;
  by = record { send = f.send; there = f.named_there; carries = f.carries };
})

-- faults

module _ (conf : Conf) (bp : Books) (k : ℕ) (x : History) (kp : books.Known x bp) where
  sent_there : (p : ℕ) → is_hit conf bp k p ≡ true → WasSent conf bp k p x kp
  sent_there p e = hit_so conf bp k p x kp (alive_server Dgram (entry_at p bp.places)) refl e

  one_so : (told : ℕ → What) (p : ℕ) (d e : Error) → (b : Bool) → is_hit conf bp k p ≡ b → if_hit b d ≡ Some e → (d ≡ e) × FailedAt conf told k x (told p)
  one_so told p d e true i h = ((let z : d ≡ e = cc in z), failed_there conf bp k p x kp told (told p) refl (sent_there p i))
  one_so told p d e false i h = absurd (cc)

  fails_so : (w : What) (e : Error) → failure conf bp k w ≡ Some e → Fails conf k x w e
  fails_so (SendFailed p f) e h = (let r = one_so (λ p. SendFailed p f) p (errors.Dgram (query.Send f)) e (is_hit conf bp k p) refl h in subst (Fails conf k x (SendFailed p f)) r.0 (InSending f r.1))
  fails_so (ShortSend p) e h = (let r = one_so ShortSend p (errors.Dgram (query.Send fault.ShortSend)) e (is_hit conf bp k p) refl h in subst (Fails conf k x (ShortSend p)) r.0 (InPart r.1))
  fails_so (RecvFailed p f) e h = (let r = one_so (λ p. RecvFailed p f) p (errors.Dgram (query.Receive f)) e (is_hit conf bp k p) refl h in subst (Fails conf k x (RecvFailed p f)) r.0 (InReceiving f r.1))
  fails_so (Ask r) e h = absurd (cc)
  fails_so (Opened p) e h = absurd (cc)
  fails_so (OpenFailed p f) e h = absurd (cc)
  fails_so (Datagram p o) e h = absurd (cc)
  fails_so (Wrote p n) e h = absurd (cc)
  fails_so (WriteFailed p f) e h = absurd (cc)
  fails_so (Bytes p o) e h = absurd (cc)
  fails_so (ReadFailed p f) e h = absurd (cc)
  fails_so (Ended p) e h = absurd (cc)
  fails_so Tick e h = absurd (cc)

  so_fails : (w : What) (e : Error) → Fails conf k x w e → failure conf bp k w ≡ Some e
  so_fails w _ (InSending f d) = ap (failure conf bp k) d.is_told ∙ ap (λ b. if_hit b (errors.Dgram (query.Send f))) (there_failed conf bp k x kp (λ p. SendFailed p f) w d)
  so_fails w _ (InPart d) = ap (failure conf bp k) d.is_told ∙ ap (λ b. if_hit b (errors.Dgram (query.Send fault.ShortSend))) (there_failed conf bp k x kp ShortSend w d)
  so_fails w _ (InReceiving f d) = ap (failure conf bp k) d.is_told ∙ ap (λ b. if_hit b (errors.Dgram (query.Receive f))) (there_failed conf bp k x kp (λ p. RecvFailed p f) w d)

pub tells_failure : (conf : Conf) (past : Books) (k : ℕ) (w : What) (o : Option Error) → o ≡ failure conf past k w → TellsFailure conf past k w o
tells_failure conf past k w o e x kp d = ((λ u. fails_so conf past k x kp w d (sym e ∙ u)), (λ f. e ∙ so_fails conf past k x kp w d f))

-- messages that don't answer

record WrongIn (k : ℕ) (xs : List Coming) : Type 0 where
  coming : Coming
  there : IsIn coming xs
  is_request : coming.request ≡ k
  by_stream : coming.via ≡ Stream
  differs : coming.agrees ≡ false

same_kind : (a b : Via) → same_via a b ≡ true → a ≡ b
same_kind Dgram Dgram e = refl
same_kind Stream Stream e = refl
same_kind Dgram Stream e = absurd (cc)
same_kind Stream Dgram e = absurd (cc)

wrong_so : (k : ℕ) (xs : List Coming) → some_wrong k xs ≡ true → WrongIn k xs
wrong_so k [] e = absurd (cc)
wrong_so k (x ∷ xs) e = go (wrong_so k xs) (either (is_wrong k x) (some_wrong k xs) e)
  where
    go : (some_wrong k xs ≡ true → WrongIn k xs) → (is_wrong k x ≡ true) ⊎ (some_wrong k xs ≡ true) → WrongIn k (x ∷ xs)
    go rest (inl e) =
        let q = both (x.request == k) _ e in
        let r = both (same_via x.via Stream) (not x.agrees) q.1 in
        record { coming = x; there = inl refl; is_request = same_number x.request k q.0; by_stream = same_kind x.via Stream r.0; differs = not_true x.agrees r.1 }
    go rest (inr e) = (let w = rest e in record { coming = w.coming; there = inr w.there; is_request = w.is_request; by_stream = w.by_stream; differs = w.differs })

so_wrong : (k : ℕ) (z : Coming) (xs : List Coming) → IsIn z xs → is_wrong k z ≡ true → some_wrong k xs ≡ true
so_wrong k z [] i e = absurd i
so_wrong k z (x ∷ xs) (inl s) e = first_true _ _ (ap (is_wrong k) s ∙ e)
so_wrong k z (x ∷ xs) (inr i) e = second_true _ _ (so_wrong k z xs i e)

module _ (c : Conf) (want : Option ℕ) (k : ℕ) (xs : List Coming) (x h : History) (wanted : is_wanted want k ≡ true) (cs : AllComing c want x h xs) where
  came_so : some_wrong k xs ≡ true → CameWrong c k x (newest h) h
  came_so e =
      let w = wrong_so k xs e in
      let z = w.coming in
      let is = cs.so z w.there in
      record {
        request = is.asked_as;
        server = z.server;
        place = z.place;
        id = z.id;
        message = z.message;
        comes = subst (λ v. Comes c is.asked_as v z.server z.place k z.id z.message x (newest h) h) w.by_stream (subst (λ k. Comes c is.asked_as z.via z.server z.place k z.id z.message x (newest h) h) w.is_request is.comes);
        differs = sym is.agreeing ∙ w.differs;
      }

  so_came : CameWrong c k x (newest h) h → some_wrong k xs ≡ true
  so_came w =
      so_wrong k (record { request = k; via = Stream; server = w.server; place = w.place; id = w.id; message = w.message; agrees = answers w.request w.id w.message }) xs (cs.back w.request Stream w.server w.place k w.id w.message wanted w.comes)
      (all (k == k) _ (own k) (ap not w.differs))

pub tells_wrong : (want : Option ℕ) (k : ℕ) (xs : List Coming) (b : Bool) → b ≡ some_wrong k xs → TellsWrong want k xs b
tells_wrong want k xs b e c x h wanted cs = ((λ u. came_so c want k xs x h wanted cs (sym e ∙ u)), (λ w. e ∙ so_came c want k xs x h wanted cs w))

-- requests that can't be composed

unread_so : (k : ℕ) (h : History) (o : Option Asking) → asking k h ≡ o → not_read o ≡ true → CannotBeComposed base_is_read false k h
unread_so k h None i e = absurd (cc)
unread_so k h (Some a) i e = record { asking_of = a; asked = i; reason = not_true (base_is_read a.request) e }

many_so : (k : ℕ) (h : History) (o : Option Asking) → asking k h ≡ o → too_many o ≡ true → CannotBeComposed passes_count true k h
many_so k h None i e = absurd (cc)
many_so k h (Some a) i e = record { asking_of = a; asked = i; reason = e }

pub tells_unread : (k : ℕ) (b : Books) (t : Bool) → t ≡ not_read (entry_at k b.requests.askings) → TellsUnread k b t
tells_unread k b t e h is = (
  (λ u. unread_so k h (asking k h) refl (ap not_read (sym (is.requests.askings k)) ∙ (sym e ∙ u))),
  (λ d. e ∙ (ap not_read (is.requests.askings k ∙ d.asked) ∙ ap not d.reason)),
)

pub tells_too_many : (k : ℕ) (b : Books) (t : Bool) → t ≡ too_many (entry_at k b.requests.askings) → TellsTooMany k b t
tells_too_many k b t e h is = (
  (λ u. many_so k h (asking k h) refl (ap too_many (sym (is.requests.askings k)) ∙ (sym e ∙ u))),
  (λ d. e ∙ (ap too_many (is.requests.askings k ∙ d.asked) ∙ d.reason)),
)
