-- A free slot is given on to the request that waits longest, or is free from now on.
use Rattle.std.proofs.Common.{◌≡◌, ℕ, ◌+◌, ◌-◌, ◌<◌, ◌≤◌, inl, Bool, true, false, List, [], ◌∷◌, Option, Some, None, refl, sym, subst, ◌∙◌, arith}
use Rattle.std.specs.Prelude.{option_and_then, if◌then◌else◌}
use Rattle.client_request.specs.Numbered.{frees, entry_at}
use Rattle.client_request.specs.Request.{Request}
use Rattle.client_request.specs.Timers.{can_draw}
use Rattle.client_request.specs.View.{View, asks}
use Rattle.client_request.specs.declared.event.Out.TheVariants.{OpenDgram}
use Rattle.client_dgram.specs.Plain.{Tables, tries, tries_at, gives_job, gives_to, gives_on}
use Rattle.client_dgram.specs.declared.job.Job.{Job}
use Rattle.client_dgram.specs.declared.job.Stage.TheVariants as at
use Rattle.proof_right.specs.machine.Dgrams.{Queued, Trying, Tryer, Dgrams, staged, forget, try_at}
use Rattle.proof_parts.specs.Sights.{sight, due_of, IsFair}
use Rattle.proof_dgram.specs.Slots.{IsIn, slots_of, IsJobOf, StageFits, AtQueue, AtOpening, AtSent, AreSlots, names_of}
use Rattle.proof_dgram.specs.Calls.{Leads}
use Rattle.proof_dgram.proofs.Changing.{alike_as}
use Rattle.proof_parts.proofs.Keys.{with_here, with_again}
use Rattle.proof_parts.proofs.Tables.{at_frees, present_below}
use Rattle.proof_dgram.proofs.Shifting.{drops_slot, come}
use Rattle.proof_dgram.proofs.Tabling.{leaves_first}
use Rattle.proof_dgram.proofs.Coming.{comes_at}
use Rattle.proof_dgram.proofs.Naming.{names_again}
use Rattle.right_trace.specs.Trace.{Conf}
use Rattle.right_trace.specs.Time.{max_places}

-- the view once the next place opens
abbrev pub opened : (server : ℕ) → View → View
opened server v = asks (OpenDgram v.place server) (record v { place = v.place + 1 })

-- The slot is free, or the request k is tried.
pub data GaveOn (c : Conf) (server : ℕ) (s : Tables Request) (d : Dgrams) (v : View) (t : Tables Request) (w : View) : Type 0 where
  Nobody : t.jobs ≡ s.jobs → t.timers ≡ s.timers → w ≡ v → AreSlots c 0 t d (sight v) → GaveOn c server s d v t w
  Somebody : (k : ℕ) (b : Tryer) → d.held k ≡ Some b → b.stage ≡ Queued → d.used < max_places c → w ≡ opened server v → t.timers ≡ s.timers → ((i : ℕ) → names_of t i ≡ names_of s i) → AreSlots c 0 t (try_at v.place k b d) (sight (record v { place = v.place + 1 })) → GaveOn c server s d v t w

-- the machine's request of a job that waits for a slot
pub queued_tryer : (c : Conf) (n : ℕ) (s : Tables Request) (d : Dgrams) (v : View) → AreSlots c n s d (sight v) → (t : ℕ) (j : Job Request) → entry_at t s.jobs ≡ Some j → j.stage ≡ at.Queued → (b : Tryer) × (d.held j.number ≡ Some b) × (b.stage ≡ Queued) × StageFits c (slots_of s) d (λ i. due_of i v.timers.set) t j b
queued_tryer c n s d v f t j is st = (let g = f.alike.jobs t j is in (g.0, g.1, go g.0 g.2, g.2))
  where
    go : (b : Tryer) → StageFits c (slots_of s) d (λ i. due_of i v.timers.set) t j b → b.stage ≡ Queued
    go b (AtQueue js its_stage q fit) = its_stage
    go b (AtOpening p js its_stage pl its fit) = absurd (let z : at.Queued ≡ at.Opening p = sym st ∙ js in cc)
    go b (AtSent p r id m js its_stage pl its tm due rq lt fit) = absurd (let z : at.Queued ≡ at.Sent p r = sym st ∙ js in cc)

module _ (c : Conf) (server : ℕ) (s : Tables Request) (d : Dgrams) (v : View) (f : AreSlots c 1 s d (sight v)) (fair : IsFair v) where
  abbrev Gives : Option (Tables Request × View) → Type 0
  Gives after = Leads (GaveOn c server s d v) after

  free : (q : List ℕ) → s.queue ≡ q → q ≡ [] → Gives (Some (record s { used = s.used - 1 }, v))
  free q e none = Nobody refl refl refl (record { alike = drops_slot c (slots_of s) d (λ i. due_of i v.timers.set) f.alike (e ∙ none); jobs = f.jobs; places = f.places; timers = f.timers; queue = f.queue })

  tried : (t : ℕ) (q : List ℕ) (j : Job Request) → s.queue ≡ t ∷ q → entry_at t s.jobs ≡ Some j → j.stage ≡ at.Queued → Gives (tries server t j (record s { queue = q; jobs = frees t s.jobs }) v)
  tried t q j e is st = go (can_draw v.place) (queued_tryer c 1 s d v f t j is st)
    where
      few : (a b n : ℕ) → a ≡ b + 1 → a ≤ n → b < n
      few a b n e le = omega arith

      go : (b : Bool) → (b : Tryer) × (d.held j.number ≡ Some b) × (b.stage ≡ Queued) × StageFits c (slots_of s) d (λ i. due_of i v.timers.set) t j b → Gives (option_and_then (λ w. Some (tries_at server t j (record s { queue = q; jobs = frees t s.jobs }) v.place w)) (if b then Some (record v { place = v.place + 1 }) else None))
      go false x = tt
      go true x =
          let out = leaves_first c 1 s d v f fair t q j e is st in
          let inn = comes_at c 0 (record s { queue = q; jobs = frees t s.jobs }) (forget j.number d) v out t j.number j (x.0) (at_frees t t 0 v.ticket s.jobs f.jobs ∙ with_here t None (λ i. entry_at i s.jobs)) (present_below t 0 v.ticket j s.jobs f.jobs is) (with_here j.number None d.held) refl (job x.0 x.3) in
          Somebody j.number (x.0) x.1 x.2 (few s.used d.used (max_places c) f.alike.used f.alike.few) refl refl (names_again t v.ticket j (record j { stage = at.Opening v.place }) s.jobs f.jobs is refl)
          (record {
            alike = alike_as c 0 _ (come v.place j.number (staged x.0 (Trying v.place)) (forget j.number d)) (try_at v.place j.number x.0 d) _ (λ i. sym (with_again j.number (Some (staged x.0 (Trying v.place))) None d.held i)) (λ p. refl) refl inn.alike;
            jobs = inn.jobs;
            places = inn.places;
            timers = inn.timers;
            queue = inn.queue;
          })
        where
          job : (b : Tryer) → StageFits c (slots_of s) d (λ i. due_of i v.timers.set) t j b → IsJobOf c j b c.transports.dgram_max_retries
          job b (AtQueue js its_stage q fit) = fit
          job b (AtOpening p js its_stage pl its fit) = fit
          job b (AtSent p r id m js its_stage pl its tm due rq lt fit) = absurd (let z : at.Queued ≡ at.Sent p r = sym st ∙ js in cc)

  gives : (q : List ℕ) → s.queue ≡ q → Gives (gives_to server s v q)
  gives [] e = free [] e refl
  gives (t ∷ q) e = (let g = f.alike.queue t (subst (IsIn t) (sym e) (inl refl)) in subst (λ o. Gives (gives_job server t (record s { queue = q }) v o)) (sym g.1) (tried t q g.0 e g.1 g.2))

  pub gave_on : Leads (GaveOn c server s d v) (gives_on server s v)
  gave_on = gives s.queue refl
