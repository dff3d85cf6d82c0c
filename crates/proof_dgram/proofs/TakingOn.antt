-- A request is taken on.
use Rattle.std.proofs.Common.{◌≡◌, ℕ, suc, ◌+◌, ◌<◌, ◌≤◌, inl, inr, Bool, true, false, [], Option, Some, None, refl, sym, subst, arith, append-nil, le_refl}
use Rattle.std.specs.Prelude.{nat_lt, option_and_then, if◌then◌else◌}
use Rattle.std.proofs.lemmas.Bool.Decides.{nat_tests}
use Rattle.client_request.specs.Carries.{IsOfOctets}
use Rattle.client_request.specs.Request.{Request}
use Rattle.client_request.specs.Requests.{for_one}
use Rattle.client_request.specs.Timers.{can_draw}
use Rattle.client_request.specs.View.{View}
use Rattle.client_request.specs.declared.event.Out.TheVariants.{OpenDgram}
use Rattle.client_dgram.specs.Plain.{Tables, tries_at, takes_at, takes}
use Rattle.right_settings.specs.Given.{dgrams_of}
use Rattle.client_dgram.specs.declared.job.Job.{Job}
use Rattle.client_dgram.specs.declared.job.Stage.TheVariants as at
use Rattle.proof_right.specs.machine.Streams as multi
use Rattle.right_trace.specs.Updates.{with_at}
use Rattle.proof_right.specs.machine.Dgrams as dgrams
use Rattle.proof_right.specs.machine.Dgrams.{Queued, Trying, Tryer, Dgrams, staged, try_at}
use Rattle.proof_parts.specs.Chains.{still, then_act}
use Rattle.proof_parts.specs.Sights.{sight, due_of, IsFair}
use Rattle.proof_dgram.specs.Slots.{slots_of, IsJobOf, AreSlots}
use Rattle.proof_dgram.specs.Steps.{made_by, AsItIs, Rests, Steps_on}
use Rattle.proof_dgram.specs.Calls.{Leads, with_request, HasTaken}
use Rattle.proof_dgram.proofs.Changing.{alike_as, settled}
use Rattle.proof_parts.proofs.Keys.{with_here, with_again, is_or_was}
use Rattle.proof_parts.proofs.Tables.{rises_below, absent_above}
use Rattle.proof_dgram.proofs.Naming.{names_more}
use Rattle.proof_dgram.proofs.Shifting.{come, takes_slot}
use Rattle.proof_dgram.proofs.Tabling.{comes_last}
use Rattle.proof_dgram.proofs.Coming.{comes_at}
use Rattle.right_trace.specs.Trace.{Conf}
use Rattle.right_trace.specs.Time.{max_places}

over : (a : ℕ) → a ≤ a + 1
over a = omega arith

one_more : (a : ℕ) → a + 1 ≡ suc a
one_more a = omega arith

next : (a : ℕ) → a < a + 1
next a = omega arith

none_before : (n : ℕ) → 0 + n ≡ n
none_before n = omega arith

module _ (c : Conf) (server : ℕ) (s : Tables Request) (d : Dgrams) (v : View) (r : Request) (f : AreSlots c 0 s d (sight v)) (fair : IsFair v) (octets : IsOfOctets r) (unheld : d.held v.request ≡ None) where
  abbrev job : Job Request
  job = record { number = v.request; request = r; left = c.transports.dgram_max_retries; stage = at.Queued }

  abbrev queued : Tryer
  queued = record { request = r; tries = 0; stage = Queued }

  abbrev drawn : View
  drawn = record v { ticket = v.ticket + 1 }

  fit : IsJobOf c job queued c.transports.dgram_max_retries
  fit = record { request = λ id. refl; octets = octets; left = none_before c.transports.dgram_max_retries }

  abbrev Takes : Option (Tables Request × View) → Type 0
  Takes o = Leads (HasTaken c server r s d v) o

  tested : (b : Bool) → nat_lt s.used (max_places c) ≡ b → b ≡ true → s.used < max_places c
  tested b e t = grind (arith, nat_tests)

  untested : (b : Bool) → nat_lt s.used (max_places c) ≡ b → b ≡ false → max_places c ≤ s.used
  untested b e t = grind (arith, nat_tests)

  full : max_places c ≤ s.used → s.used ≡ max_places c
  full le = (let few = f.alike.few in omega arith)

  waits : s.used ≡ max_places c → Takes (takes_at for_one server (dgrams_of c) v.ticket job s drawn false)
  waits is = record {
    made = still v.place (with_request v.request r d);
    steps = Rests v.place (with_request v.request r d);
    leaves = record {
      outs = sym (append-nil v.outs);
      place = refl;
      slots = comes_last c 0 s d v f fair v.request job queued unheld refl refl refl fit is;
      after = record { fair = record { order = fair.order; words = fair.words }; now = refl; request = refl; more = refl; timer = le_refl v.timers.next; ticket = over v.ticket; place = le_refl v.place; later = λ i due e. inl e };
      apart = record { owned = λ i o. inl o; others = λ i due none e. e; places = λ p k e. inl (k, e) };
    };
    drawn = next v.ticket;
    posts = record { board = []; put = sym (append-nil v.board); gives = names_more v.ticket job s.jobs };
  }

  tried : s.used < max_places c → (b : Bool) → Takes (option_and_then (λ w. Some (tries_at server v.ticket job (record s { used = s.used + 1 }) drawn.place w)) (if b then Some (record drawn { place = drawn.place + 1 }) else None))
  tried lt false = tt
  tried lt true =
      let s0 : Tables Request = record s { used = s.used + 1 } in
      let p = v.place in
      let k = v.request in
      let e : Dgrams = try_at p k queued (with_request k r d) in
      let slot : AreSlots c 1 s0 d (sight drawn) = record { alike = takes_slot c (slots_of s) d (λ i. due_of i v.timers.set) f.alike lt; jobs = rises_below (λ (e : ℕ × Job Request). e.0) 0 v.ticket (v.ticket + 1) s.jobs (over v.ticket) f.jobs; places = f.places; timers = f.timers; queue = rises_below (λ (t : ℕ). t) 0 v.ticket (v.ticket + 1) s.queue (over v.ticket) f.queue } in
      let inn = comes_at c 0 s0 d drawn slot v.ticket k job queued (absent_above 0 v.ticket v.ticket s.jobs (le_refl v.ticket) f.jobs) (next v.ticket) unheld refl fit in
      let alike = alike_as c 0 _ (come p k (staged queued (Trying p)) d) e _ (λ i. with_again k (Some (staged queued (Trying p))) (Some queued) d.held i) (λ q. refl) refl inn.alike in
      let few = f.alike.used in
      record {
        made = then_act (made_by p (multi.Puts (OpenDgram p server)) e) (still (suc p) e);
        steps = Steps_on p (with_request k r d) (multi.Puts (OpenDgram p server)) e _ _ (dgrams.Opens k queued (with_here k (Some queued) d.held) refl (omega arith)) (AsItIs (settled c 0 _ e _ alike)) (Rests (suc p) e);
        leaves = record {
          outs = refl;
          place = one_more p;
          slots = record { alike = alike; jobs = inn.jobs; places = inn.places; timers = inn.timers; queue = inn.queue };
          after = record { fair = record { order = fair.order; words = fair.words }; now = refl; request = refl; more = refl; timer = le_refl v.timers.next; ticket = over v.ticket; place = over v.place; later = λ i due e. inl e };
          apart = record { owned = λ i o. inl o; others = λ i due none e. e; places = λ q i e. elim (is_or_was p (Some k) d.at q i e) [ inl x ↦ inr (subst (λ q. p ≤ q) x.0 (le_refl p)) | inr x ↦ inl (i, x.1) ] };
        };
        drawn = next v.ticket;
        posts = record { board = []; put = sym (append-nil v.board); gives = names_more v.ticket (record job { stage = at.Opening p }) s.jobs };
      }

  by_slot : (b : Bool) → nat_lt s.used (max_places c) ≡ b → Takes (takes_at for_one server (dgrams_of c) v.ticket job s drawn b)
  by_slot true e = tried (tested true e refl) (can_draw v.place)
  by_slot false e = waits (full (untested false e refl))

  pub sends_does : Takes (takes for_one server (dgrams_of c) r s v)
  sends_does = go (can_draw v.ticket)
    where
      go : (b : Bool) → Takes (option_and_then (λ w. takes_at for_one server (dgrams_of c) v.ticket job s w (nat_lt s.used (max_places c))) (if b then Some drawn else None))
      go false = tt
      go true = by_slot (nat_lt s.used (max_places c)) refl
