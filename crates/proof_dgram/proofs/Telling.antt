-- An event is told.
use Rattle.std.proofs.Common.{◌≡◌, ℕ, ◌%◌, ◌<◌, ◌≤◌, Bool, true, false, ◌&&◌, if◌then◌else◌, List, length, take, Option, Some, None, refl, sym, ap, subst, ◌∙◌, arith}
use Rattle.std.specs.Prelude.{nat_le, Ok, Err}
use Rattle.std.proofs.lemmas.Bool.Decides.{nat_tests}
use Rattle.std.proofs.lemmas.Nat.{from_be_bytes-to_be_bytes_2}
use Rattle.dns_base.specs.Header as head
use Rattle.dns_base.specs.Answering.{is_answer}
use Rattle.client_request.specs.Composed.{composed}
use Rattle.client_request.specs.Numbered.{entry_at, frees}
use Rattle.client_request.specs.Request.{Request, is_answered}
use Rattle.client_request.specs.Requests.{for_one}
use Rattle.client_request.specs.View.{View, word, drawn}
use Rattle.client_request.specs.declared.error.Error.{Error}
use Rattle.client_request.specs.declared.fault.Fault.{Fault}
use Rattle.client_request.specs.declared.event.What.{What}
use Rattle.client_request.specs.declared.event.What.TheVariants.{Ask, Opened, OpenFailed, SendFailed, ShortSend, Datagram, RecvFailed, Wrote, WriteFailed, Bytes, ReadFailed, Ended, Tick}
use Rattle.client_request.specs.declared.event.Out.TheVariants.{Close}
use Rattle.client_request.specs.declared.error.Error.TheVariants as errors
use Rattle.client_request.specs.declared.error.QueryError.TheVariants as query
use Rattle.client_request.specs.declared.fault.Fault.TheVariants as fault
use Rattle.client_dgram.specs.Plain.{Tables, After, at_place, at_ticket, at_job, opened_stage, open_failed_stage, ends_stage, comes_answer, comes_stage, tells, sends}
use Rattle.right_settings.specs.Given.{dgrams_of}
use Rattle.client_dgram.specs.declared.job.Job.{Job}
use Rattle.client_dgram.specs.declared.job.Stage.{Stage}
use Rattle.client_dgram.specs.declared.job.Stage.TheVariants as at
use Rattle.right_trace.specs.Messages.{Octets, under, answers, truncated}
use Rattle.proof_right.specs.machine.Streams as multi
use Rattle.proof_right.specs.machine.Dgrams as dgrams
use Rattle.proof_right.specs.machine.Dgrams.{Trying, Sent, Ending, Cut, Tryer, Dgrams, leave, stage_of, Meets, TriesAt, SentAt, IsIgnored}
use Rattle.proof_parts.specs.Sights.{sight, IsFair}
use Rattle.proof_dgram.specs.Slots.{place_in, AreSlots}
use Rattle.proof_dgram.specs.Calls.{Leads, HasTold, Passes}
use Rattle.proof_dgram.proofs.Closing.{IsSentAt, IsOpeningAt, sent_at, opening_at, ends_sent, ends_unopened}
use Rattle.proof_dgram.proofs.Sending.{sends_or_ends}
use Rattle.proof_dgram.proofs.Cutting.{cuts}
use Rattle.proof_dgram.proofs.Announcing.{answered_same, prepared_so}
use Rattle.right_trace.specs.Trace.{Conf}
use Rattle.right_trace.specs.Time.{recv_size}

id_under : (header : List ℕ) (id : ℕ) → id < 65536 → head.id_of (head.with_id id header) ≡ id
id_under header id lt = from_be_bytes-to_be_bytes_2 id lt

of_16_bits : (n : ℕ) → n % 65536 < 65536
of_16_bits n = omega arith

enough : (b : Bool) (n : ℕ) → nat_le 12 n ≡ b → b ≡ true → 12 ≤ n
enough b n e t = grind (arith, nat_tests)

too_few : (b : Bool) (n : ℕ) → nat_le 12 n ≡ b → b ≡ false → 12 ≤ n → ⊥
too_few b n e t le = grind (arith, nat_tests)

module _ (conf : Conf) (server : ℕ) (s : Tables Request) (d : Dgrams) (v : View) (f : AreSlots conf 0 s d (sight v)) (fair : IsFair v) where
  abbrev Tells : What → Option (Tables Request × View) → Type 0
  Tells what o = Leads (HasTold conf server what s d v) o

  passes : (what : What) → IsIgnored conf what d → Tells what (Some (s, v))
  passes what ignored = Passes ignored refl refl

  -- nobody is at a place that no table has
  nobody_tries : (p : ℕ) → entry_at p s.places ≡ None → TriesAt p d → ⊥
  nobody_tries p none x = (let z = sym (f.alike.none p none) ∙ x.2 in cc)

  nobody_sent : (p : ℕ) → entry_at p s.places ≡ None → SentAt p d → ⊥
  nobody_sent p none x = (let z = sym (f.alike.none p none) ∙ x.4 in cc)

  -- a place has one request, which was sent, or is not yet
  who_sent : (t p r : ℕ) (j : Job Request) (o : IsSentAt conf s d v t p r j) (k : ℕ) (a : Tryer) → d.at p ≡ Some k → d.held k ≡ Some a → (j.number ≡ k) × (o.tryer ≡ a)
  who_sent t p r j o k a at held =
      let z : Some j.number ≡ Some k = sym o.at ∙ at in
      let same : j.number ≡ k = cc in
      let y : Some o.tryer ≡ Some a = sym o.held ∙ (ap d.held same ∙ held) in
      (same, cc)

  who_opens : (t p : ℕ) (j : Job Request) (o : IsOpeningAt conf s d t p j) (k : ℕ) (a : Tryer) → d.at p ≡ Some k → d.held k ≡ Some a → (j.number ≡ k) × (o.tryer ≡ a)
  who_opens t p j o k a at held =
      let z : Some j.number ≡ Some k = sym o.at ∙ at in
      let same : j.number ≡ k = cc in
      let y : Some o.tryer ≡ Some a = sym o.held ∙ (ap d.held same ∙ held) in
      (same, cc)

  sent_tries : (t p r : ℕ) (j : Job Request) → IsSentAt conf s d v t p r j → TriesAt p d → ⊥
  sent_tries t p r j o x = (let w = who_sent t p r j o x.0 x.1 x.2 x.3 in let z : Sent p o.id o.moment ≡ Trying p = sym o.stage ∙ (ap (λ (a : Tryer). a.stage) w.1 ∙ x.4) in cc)

  opens_sent : (t p : ℕ) (j : Job Request) → IsOpeningAt conf s d t p j → SentAt p d → ⊥
  opens_sent t p j o x = (let w = who_opens t p j o x.0 x.1 x.4 x.5 in let z : Trying p ≡ Sent p x.2 x.3 = sym o.stage ∙ (ap (λ (a : Tryer). a.stage) w.1 ∙ x.6) in cc)

  -- what goes on with the job of a place
  at_a_place : (what : What) (p : ℕ) (g : ℕ → Job Request → Tables Request → View → After Request) → (entry_at p s.places ≡ None → IsIgnored conf what d) → ((t : ℕ) (j : Job Request) → entry_at t s.jobs ≡ Some j → place_in j.stage ≡ Some p → Tells what (g t j s v)) → Tells what (at_place g p s v)
  at_a_place what p g none some = go (entry_at p s.places) refl
    where
      go : (o : Option ℕ) → entry_at p s.places ≡ o → Tells what (at_ticket g s v o)
      go None e = passes what (none e)
      go (Some t) e = (let x = f.alike.places p t e in subst (λ o. Tells what (at_job g t s v o)) (sym x.1) (some t x.0 x.1 x.2))

  same_place : (q p : ℕ) → Some q ≡ Some p → q ≡ p
  same_place q p e = cc

  -- The place opens.
  opened : (t p : ℕ) (j : Job Request) → entry_at t s.jobs ≡ Some j → (st : Stage) → j.stage ≡ st → place_in st ≡ Some p → Tells (Opened p) (opened_stage for_one server (dgrams_of conf) p t j s v st)
  opened t p j is at.Queued e g = absurd (cc)
  opened t p j is (at.Opening q) e g =
      subst (λ r. Tells (Opened p) (sends for_one server (dgrams_of conf) p t (word v % 65536) j r (record s { jobs = frees t s.jobs }) (drawn v))) (sym (prepared_so conf server (word v % 65536) j.request))
      (sends_or_ends conf server s d v f fair t p (word v % 65536) (of_16_bits (word v)) j is (e ∙ ap at.Opening (same_place q p g)) (composed (under conf (word v % 65536) j.request)) refl)
  opened t p j is (at.Sent q r) e g = passes (Opened p) (sent_tries t p r j (sent_at conf 0 s d v f t j is p r (e ∙ ap (λ q. at.Sent q r) (same_place q p g))))

  -- It does not open.
  unopened : (t p : ℕ) (x : Fault) (j : Job Request) → entry_at t s.jobs ≡ Some j → (st : Stage) → j.stage ≡ st → place_in st ≡ Some p → Tells (OpenFailed p x) (open_failed_stage server (errors.Dgram (query.Connect x)) p t s v st)
  unopened t p x j is at.Queued e g = absurd (cc)
  unopened t p x j is (at.Opening q) e g =
      let st = e ∙ ap at.Opening (same_place q p g) in
      let o = opening_at conf 0 s d v f t j is p st in
      ends_unopened conf server (OpenFailed p x) s d v f fair t p j is (Err (errors.Dgram (query.Connect x))) st o.tryer (dgrams.DoesNotOpen j.number o.tryer p x o.at o.held o.stage)
  unopened t p x j is (at.Sent q r) e g = passes (OpenFailed p x) (sent_tries t p r j (sent_at conf 0 s d v f t j is p r (e ∙ ap (λ q. at.Sent q r) (same_place q p g))))

  -- It is broken.
  broken : (what : What) (error : Error) (t p : ℕ) (j : Job Request) → entry_at t s.jobs ≡ Some j → ((SentAt p d → ⊥) → IsIgnored conf what d) → ((k : ℕ) (a : Tryer) (id m : ℕ) → d.at p ≡ Some k → d.held k ≡ Some a → a.stage ≡ Sent p id m → Meets conf v.now d what (multi.Puts (Close p)) (leave p k a (Ending (Err error)) d)) → (st : Stage) → j.stage ≡ st → place_in st ≡ Some p → Tells what (ends_stage server (Err error) p t s v st)
  broken what error t p j is ignored meets at.Queued e g = absurd (cc)
  broken what error t p j is ignored meets (at.Opening q) e g = passes what (ignored (opens_sent t p j (opening_at conf 0 s d v f t j is p (e ∙ ap at.Opening (same_place q p g)))))
  broken what error t p j is ignored meets (at.Sent q r) e g =
      let same = same_place q p g in
      let st = e ∙ ap (λ q. at.Sent q r) same in
      let o = sent_at conf 0 s d v f t j is p r st in
      ends_sent conf server what s d v f fair t p j is (Err error) r st o.tryer (meets j.number o.tryer o.id o.moment o.at o.held o.stage)

  -- A datagram comes.
  module _ (octets : Octets) (t p r : ℕ) (j : Job Request) (is : entry_at t s.jobs ≡ Some j) (st : j.stage ≡ at.Sent p r) where
    abbrev m : Octets
    m = take (recv_size conf) octets

    o : IsSentAt conf s d v t p r j
    o = sent_at conf 0 s d v f t j is p r st

    agrees : is_answered m j.request ≡ answers o.tryer.request o.id m
    agrees = ap (is_answered m) o.request ∙ answered_same conf o.tryer.request o.id m (id_under o.tryer.request.header o.id o.small)

    no_answer : ((12 ≤ length m) → answers o.tryer.request o.id m ≡ false) → IsIgnored conf (Datagram p octets) d
    no_answer differs k a id n at held stage long =
        let w = who_sent t p r j o k a at held in
        let z : Sent p o.id o.moment ≡ Sent p id n = sym o.stage ∙ (ap (λ (a : Tryer). a.stage) w.1 ∙ stage) in
        let same : o.id ≡ id = cc in
        subst (λ id. answers a.request id m ≡ false) same (subst (λ (a : Tryer). answers a.request o.id m ≡ false) w.1 (differs long))

    taken : (b : Bool) → truncated m ≡ b → 12 ≤ length m → answers o.tryer.request o.id m ≡ true → Tells (Datagram p octets) (comes_answer for_one server (dgrams_of conf) p t r s v (Some m))
    taken true e long ok = cuts conf server (Datagram p octets) s d v f fair t p r j is st o m e (subst (λ st. Meets conf v.now d (Datagram p octets) (multi.Puts (Close p)) (leave p j.number o.tryer st d)) (ap (λ b. if b then Cut else Ending (Ok m)) e) (dgrams.IsAnswered j.number o.tryer p o.id o.moment octets o.at o.held o.stage long ok))
    taken false e long ok = ends_sent conf server (Datagram p octets) s d v f fair t p j is (Ok m) r st o.tryer (subst (λ st. Meets conf v.now d (Datagram p octets) (multi.Puts (Close p)) (leave p j.number o.tryer st d)) (ap (λ b. if b then Cut else Ending (Ok m)) e) (dgrams.IsAnswered j.number o.tryer p o.id o.moment octets o.at o.held o.stage long ok))

    answered : (b c : Bool) → nat_le 12 (length m) ≡ b → is_answered m j.request ≡ c → Tells (Datagram p octets) (comes_answer for_one server (dgrams_of conf) p t r s v (if b && c then Some m else None))
    answered true true e g = taken (truncated m) refl (enough true (length m) e refl) (sym agrees ∙ g)
    answered true false e g = passes (Datagram p octets) (no_answer (λ long. sym agrees ∙ g))
    answered false c e g = passes (Datagram p octets) (no_answer (λ long. absurd (too_few false (length m) e refl long)))

  came : (octets : Octets) (t p : ℕ) (j : Job Request) → entry_at t s.jobs ≡ Some j → (st : Stage) → j.stage ≡ st → place_in st ≡ Some p → Tells (Datagram p octets) (comes_stage for_one server (dgrams_of conf) (take (recv_size conf) octets) p t j s v st)
  came octets t p j is at.Queued e g = absurd (cc)
  came octets t p j is (at.Opening q) e g = passes (Datagram p octets) (λ k a id n here held stage long. absurd (opens_sent t p j (opening_at conf 0 s d v f t j is p (e ∙ ap at.Opening (same_place q p g))) (k, a, id, n, here, held, stage)))
  came octets t p j is (at.Sent q r) e g = answered octets t p r j is (e ∙ ap (λ q. at.Sent q r) (same_place q p g)) (nat_le 12 (length (take (recv_size conf) octets))) (is_answered (take (recv_size conf) octets) j.request) refl refl

  pub tells_does : (what : What) → Tells what (tells for_one server (dgrams_of conf) what s v)
  tells_does (Opened p) = at_a_place (Opened p) p (λ ticket job s v. opened_stage for_one server (dgrams_of conf) p ticket job s v job.stage) (nobody_tries p) (λ t j is at. opened t p j is j.stage refl at)
  tells_does (OpenFailed p x) = at_a_place (OpenFailed p x) p (λ ticket job s v. open_failed_stage server (errors.Dgram (query.Connect x)) p ticket s v job.stage) (nobody_tries p) (λ t j is at. unopened t p x j is j.stage refl at)
  tells_does (SendFailed p x) = at_a_place (SendFailed p x) p (λ ticket job s v. ends_stage server (Err (errors.Dgram (query.Send x))) p ticket s v job.stage) (nobody_sent p) (λ t j is at. broken (SendFailed p x) (errors.Dgram (query.Send x)) t p j is (λ n. n) (λ k a id m at held stage. dgrams.NotSent k a p id m x at held stage) j.stage refl at)
  tells_does (ShortSend p) = at_a_place (ShortSend p) p (λ ticket job s v. ends_stage server (Err (errors.Dgram (query.Send fault.ShortSend))) p ticket s v job.stage) (nobody_sent p) (λ t j is at. broken (ShortSend p) (errors.Dgram (query.Send fault.ShortSend)) t p j is (λ n. n) (λ k a id m at held stage. dgrams.SentShort k a p id m at held stage) j.stage refl at)
  tells_does (RecvFailed p x) = at_a_place (RecvFailed p x) p (λ ticket job s v. ends_stage server (Err (errors.Dgram (query.Receive x))) p ticket s v job.stage) (nobody_sent p) (λ t j is at. broken (RecvFailed p x) (errors.Dgram (query.Receive x)) t p j is (λ n. n) (λ k a id m at held stage. dgrams.NotReceived k a p id m x at held stage) j.stage refl at)
  tells_does (Datagram p octets) = at_a_place (Datagram p octets) p (λ ticket job s v. comes_stage for_one server (dgrams_of conf) (take (recv_size conf) octets) p ticket job s v job.stage) (λ none k a id n at held stage long. absurd (nobody_sent p none (k, a, id, n, at, held, stage))) (λ t j is at. came octets t p j is j.stage refl at)
  tells_does (Ask r) = passes (Ask r) tt
  tells_does (Wrote p n) = passes (Wrote p n) tt
  tells_does (WriteFailed p x) = passes (WriteFailed p x) tt
  tells_does (Bytes p m) = passes (Bytes p m) tt
  tells_does (ReadFailed p x) = passes (ReadFailed p x) tt
  tells_does (Ended p) = passes (Ended p) tt
  tells_does Tick = passes Tick tt
