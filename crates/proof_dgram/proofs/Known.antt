-- What is known between the calls of a datagram connection.
use Rattle.std.proofs.Common.{◌≡◌, ◌≢◌, ℕ, ◌+◌, ◌<◌, true, is_some, Option, Some, None, refl, sym, ap, subst, ◌∙◌, arith}
use Rattle.std.specs.Prelude.{option_map}
use Rattle.client_request.specs.Numbered.{entry_at}
use Rattle.client_request.specs.Request.{Request}
use Rattle.client_dgram.specs.Plain.{Tables}
use Rattle.client_dgram.specs.declared.job.Job.{Job}
use Rattle.right_trace.specs.Time.{read_timeout, max_places}
use Rattle.proof_right.specs.machine.Dgrams.{Queued, Sent, Ending, Cut, Tryer, Dgrams}
use Rattle.proof_right.specs.machine.Dgrams as machine
use Rattle.proof_parts.specs.Sights.{Sight}
use Rattle.proof_parts.proofs.Tables.{rises_below, present_below}
use Rattle.proof_dgram.specs.Slots.{IsIn, timer_in, slots_of, StageFits, AtQueue, AtOpening, AtSent, AreSlots, names_of}
use Rattle.proof_dgram.specs.Calls.{Owns}
use Rattle.proof_dgram.specs.AtServer.{DgramsRest, SlotsAreKnown}
use Rattle.proof_dgram.proofs.Firing.{dues_as}
use Rattle.right_trace.specs.Trace.{Conf}

module _ (c : Conf) (s : Tables Request) (d : Dgrams) (x : Sight) (f : AreSlots c 0 s d x) where
  -- the job of a ticket that has a name
  job_of : (i k : ℕ) → names_of s i ≡ Some k → (j : Job Request) × (entry_at i s.jobs ≡ Some j) × (j.number ≡ k)
  job_of i k named = go (entry_at i s.jobs) refl named
    where
      go : (o : Option (Job Request)) → entry_at i s.jobs ≡ o → option_map (λ (j : Job Request). j.number) o ≡ Some k → (j : Job Request) × (entry_at i s.jobs ≡ Some j) × (j.number ≡ k)
      go None e n = absurd (cc)
      go (Some j) e n = (j, e, cc)

  -- its timer is set
  set : (i : ℕ) → Owns s i → (due : ℕ) × (x.dues i ≡ Some due)
  set i own = (let g = f.alike.timers i own.0 own.1 in let y = f.alike.jobs own.0 g.0 g.1 in go own.0 g.0 y.0 g.2 y.2)
    where
      go : (t : ℕ) (j : Job Request) (a : Tryer) → timer_in j.stage ≡ Some i → StageFits c (slots_of s) d x.dues t j a → (due : ℕ) × (x.dues i ≡ Some due)
      go t j a is (AtQueue js its q fit) = absurd (let z : None ≡ Some i = sym (ap timer_in js) ∙ is in cc)
      go t j a is (AtOpening p js its pl here fit) = absurd (let z : None ≡ Some i = sym (ap timer_in js) ∙ is in cc)
      go t j a is (AtSent p r id m js its pl here tm due rq lt fit) = (let z : Some r ≡ Some i = sym (ap timer_in js) ∙ is in let same : r ≡ i = cc in (m + read_timeout c, subst (λ i. x.dues i ≡ Some (m + read_timeout c)) same due))

  placed : (p k : ℕ) → d.at p ≡ Some k → p < x.place
  placed p k at = go (entry_at p s.places) refl
    where
      go : (o : Option ℕ) → entry_at p s.places ≡ o → p < x.place
      go None e = absurd (let z = sym (f.alike.none p e) ∙ at in cc)
      go (Some t) e = present_below p 0 x.place t s.places f.places e

  held : (k : ℕ) → is_some (d.held k) ≡ true → (i : ℕ) × (names_of s i ≡ Some k)
  held k is = go (d.held k) refl is
    where
      go : (o : Option Tryer) → d.held k ≡ o → is_some o ≡ true → (i : ℕ) × (names_of s i ≡ Some k)
      go None e n = absurd (cc)
      go (Some a) e n = (let y = f.alike.held k a e in (y.0, ap (λ o. option_map (λ (j : Job Request). j.number) o) y.2 ∙ ap Some y.3))

  -- of each request that is held
  each : (P : machine.Stage → Type 0) → ((t : ℕ) → IsIn t s.queue → P Queued) → ((p : ℕ) → P (machine.Trying p)) → ((p r id m : ℕ) → Owns s r → x.dues r ≡ Some (m + read_timeout c) → P (Sent p id m)) → (k : ℕ) (a : Tryer) → d.held k ≡ Some a → P a.stage
  each P queued trying sent k a is = (let y = f.alike.held k a is in let g = f.alike.jobs y.0 y.1 y.2 in let same : g.0 ≡ a = (let z : Some g.0 ≡ Some a = sym g.1 ∙ (ap d.held y.3 ∙ is) in cc) in subst (λ (a : Tryer). P a.stage) same (go y.0 y.1 g.0 g.2))
    where
      go : (t : ℕ) (j : Job Request) (b : Tryer) → StageFits c (slots_of s) d x.dues t j b → P b.stage
      go t j b (AtQueue js its q fit) = subst P (sym its) (queued t q)
      go t j b (AtOpening p js its pl here fit) = subst P (sym its) (trying p)
      go t j b (AtSent p r id m js its pl here tm due rq lt fit) = subst P (sym its) (sent p r id m (t, tm) due)

  rests : ((i due : ℕ) → Owns s i → x.dues i ≡ Some due → x.now < due) → DgramsRest c x.now d
  rests early = record {
    waiting = λ k a is stage. each (λ st. st ≡ Queued → d.used ≡ max_places c) (λ t i e. all s.used d.used (max_places c) f.alike.used (f.alike.full t i)) (λ p e. absurd (cc)) (λ p r id m own due e. absurd (cc)) k a is stage;
    reading = λ k a p id t is stage. each (λ st. st ≡ Sent p id t → x.now < t + read_timeout c) (λ t i e. absurd (cc)) (λ p e. absurd (cc)) (λ q r i m own due e. subst (λ m. x.now < m + read_timeout c) (moment q i m p id t e) (early r (m + read_timeout c) own due)) k a is stage;
    ending = λ k a y is. each (λ st. st ≢ Ending y) (λ t i e. cc) (λ p e. cc) (λ p r id m own due e. cc) k a is;
    cut = λ k a is. each (λ st. st ≢ Cut) (λ t i e. cc) (λ p e. cc) (λ p r id m own due e. cc) k a is;
  }
    where
      all : (a b n : ℕ) → a ≡ b + 0 → a ≡ n → b ≡ n
      all a b n e g = omega arith

      moment : (q i m p id t : ℕ) → Sent q i m ≡ Sent p id t → m ≡ t
      moment q i m p id t e = cc

pub slots_are_known : (c : Conf) → SlotsAreKnown c
slots_are_known c = record {
  same = λ s d x y f dues timer ticket place. record {
    alike = dues_as c 0 s d x.dues y.dues f.alike (λ r u e. dues r (u, e));
    jobs = rises_below (λ (e : ℕ × Job Request). e.0) 0 x.ticket y.ticket s.jobs ticket f.jobs;
    places = rises_below (λ (e : ℕ × ℕ). e.0) 0 x.place y.place s.places place f.places;
    timers = rises_below (λ (e : ℕ × ℕ). e.0) 0 x.timer y.timer s.timers timer f.timers;
    queue = rises_below (λ (t : ℕ). t) 0 x.ticket y.ticket s.queue ticket f.queue;
  };
  set = λ s d x i f own. set c s d x f i own;
  named = λ s d x i k f named. (let y = job_of c s d x f i k named in (present_below i 0 x.ticket y.0 s.jobs f.jobs y.1, ap is_some (ap d.held (sym y.2) ∙ (f.alike.jobs i y.0 y.1).1)));
  held = λ s d x k f is. held c s d x f k is;
  apart = λ s d x i j k f a b. (let y = job_of c s d x f i k a in let z = job_of c s d x f j k b in f.alike.apart i j y.0 z.0 y.1 z.1 (y.2 ∙ sym z.2));
  placed = λ s d x p k f at. placed c s d x f p k at;
  rests = λ s d x f early. rests c s d x f early;
}
