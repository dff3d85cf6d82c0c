-- A place opens: its request is sent there, or cannot be composed.
use Rattle.std.proofs.Common.{◌≡◌, ℕ, suc, ◌+◌, ◌<◌, ◌≤◌, inl, inr, Bool, true, false, [], Option, Some, None, refl, sym, ap, subst, ◌∙◌, arith, append-nil, le_refl}
use Rattle.std.specs.Prelude.{Result, Ok, Err, option_and_then, if◌then◌else◌}
use Rattle.client_request.specs.Composed.{composed}
use Rattle.client_request.specs.Numbered.{frees, entry_at}
use Rattle.client_request.specs.Request.{Request}
use Rattle.client_request.specs.Requests.{for_one}
use Rattle.client_request.specs.Timers.{can_draw, with_timer}
use Rattle.client_request.specs.View.{View, drawn}
use Rattle.client_request.specs.declared.error.Error.{Error}
use Rattle.client_request.specs.declared.event.What.TheVariants.{Opened}
use Rattle.client_request.specs.declared.event.Out.TheVariants.{Send}
use Rattle.client_dgram.specs.Plain.{Tables, sent_at, sends_composed}
use Rattle.right_settings.specs.Given.{dgrams_of}
use Rattle.client_dgram.specs.declared.job.Job.{Job}
use Rattle.client_dgram.specs.declared.job.Stage.TheVariants as at
use Rattle.right_trace.specs.Messages.{Octets, under}
use Rattle.right_trace.specs.Time.{read_timeout}
use Rattle.proof_right.proofs.Carried.{carried_by}
use Rattle.proof_right.proofs.Composing.{composed_composes}
use Rattle.proof_right.specs.machine.Streams as multi
use Rattle.right_trace.specs.Updates.{with_at}
use Rattle.proof_right.specs.machine.Dgrams as dgrams
use Rattle.proof_right.specs.machine.Dgrams.{Sent, Tryer, Dgrams, send_at}
use Rattle.proof_parts.specs.Chains.{still}
use Rattle.proof_parts.specs.Sights.{sight, due_of, IsFair}
use Rattle.proof_dgram.specs.Slots.{IsJobOf, AreSlots}
use Rattle.proof_dgram.specs.Steps.{AsItIs, Rests}
use Rattle.proof_dgram.specs.Calls.{Leads, HasTold, Moves}
use Rattle.proof_dgram.proofs.Changing.{settled}
use Rattle.proof_parts.proofs.Keys.{with_there, is_or_was}
use Rattle.proof_parts.proofs.Tables.{at_puts}
use Rattle.proof_parts.proofs.TimerLaws.{due_set, order_set, unset_above}
use Rattle.proof_dgram.proofs.Naming.{names_again}
use Rattle.proof_dgram.proofs.Coming.{is_sent}
use Rattle.proof_dgram.proofs.Announcing.{under_again}
use Rattle.proof_right.proofs.Received.{reads_on}
use Rattle.proof_dgram.proofs.Closing.{IsOpeningAt, opening_at, ends_unsent}
use Rattle.right_trace.specs.Trace.{Conf}

module _ (c : Conf) (server : ℕ) (s : Tables Request) (d : Dgrams) (v : View) (f : AreSlots c 0 s d (sight v)) (fair : IsFair v) (t p id : ℕ) (small : id < 65536) (j : Job Request) (is : entry_at t s.jobs ≡ Some j) (st : j.stage ≡ at.Opening p) where
  pub o : IsOpeningAt c s d t p j
  o = opening_at c 0 s d v f t j is p st

  abbrev Sends : Option (Tables Request × View) → Type 0
  Sends after = Leads (HasTold c server (Opened p) s d v) after

  same : composed (under c id j.request) ≡ composed (under c id o.tryer.request)
  same = ap composed (o.job.request id)

  later : (a n : ℕ) → 999 < n → a < a + n
  later a n pos = omega arith

  over : (a : ℕ) → a ≤ a + 1
  over a = omega arith

  one_more : (a b n : ℕ) → a + b ≡ n → suc a + b ≡ suc n
  one_more a b n e = omega arith

  goes_out : (octets : Octets) → composed (under c id j.request) ≡ Ok octets → (b : Bool) → Sends (option_and_then (λ w. Some (sent_at for_one server (dgrams_of c) p t id j (under c id j.request) octets (record s { jobs = frees t s.jobs }) v.timers.next w)) (if b then Some (record (drawn v) { timers = with_timer (v.now + read_timeout c) v.timers }) else None))
  unfolding read_timeout
  goes_out octets e false = tt
  goes_out octets e true =
      let a = o.tryer in
      let k = j.number in
      let r = v.timers.next in
      let i : Job Request = record j { request = under c id j.request; stage = at.Sent p r } in
      let b : Tryer = record { request = a.request; tries = suc a.tries; stage = Sent p id v.now } in
      let fit : IsJobOf c i b (suc c.transports.dgram_max_retries) = record { request = λ n. under_again c n id j.request ∙ o.job.request n; octets = o.job.octets; left = one_more a.tries j.left c.transports.dgram_max_retries o.job.left } in
      let slots = is_sent c s d v f fair t p id j i b is st o.here o.at refl refl (o.job.request id) small refl fit in
      Moves (multi.Puts (Send p k id octets)) (send_at p id v.now k a d) _ (still v.place (send_at p id v.now k a d))
      (dgrams.IsSent k a p id octets o.at o.held o.stage (carried_by c a.request id octets small ((composed_composes c).carries a.request id octets o.job.octets (sym same ∙ e))))
      (AsItIs (settled c 0 _ (send_at p id v.now k a d) _ slots.alike)) (Rests v.place (send_at p id v.now k a d))
      (record {
        outs = refl;
        place = refl;
        slots = slots;
        after = record {
          fair = record { order = order_set (v.now + read_timeout c) 0 r v.timers.set (omega arith) fair.order; words = λ n. fair.words (n + 1) };
          now = refl;
          request = refl;
          more = refl;
          timer = over r;
          ticket = le_refl v.ticket;
          place = le_refl v.place;
          later = λ n due g. elim (is_or_was r (Some (v.now + read_timeout c)) (λ n. due_of n v.timers.set) n due (sym (due_set (v.now + read_timeout c) n 0 r v.timers.set fair.order) ∙ g)) [ inl x ↦ inr (let z : Some (v.now + read_timeout c) ≡ Some due = x.1 in let same : v.now + read_timeout c ≡ due = cc in (subst (λ due. v.now < due) same (later v.now (read_timeout c) (reads_on c)), subst (λ n. r ≤ n) x.0 (le_refl r))) | inr x ↦ inl x.1 ];
        };
        apart = record {
          owned = λ n u. elim (is_or_was r (Some t) (λ n. entry_at n s.timers) n u.0 (sym (at_puts r t n s.timers) ∙ u.1)) [ inl x ↦ inr (subst (λ n. r ≤ n) x.0 (le_refl r)) | inr x ↦ inl (u.0, x.1) ];
          others = λ n due none g. due_set (v.now + read_timeout c) n 0 r v.timers.set fair.order ∙ (with_there r (Some (v.now + read_timeout c)) (λ n. due_of n v.timers.set) n (λ same. (let z : None ≡ Some due = sym (unset_above 0 r r v.timers.set (le_refl r) fair.order) ∙ (ap (λ n. due_of n v.timers.set) same ∙ g) in cc)) ∙ g);
          places = λ q u g. inl (u, g);
        };
      })
      (record { board = []; put = sym (append-nil v.board); gives = names_again t v.ticket j i s.jobs f.jobs is refl })

  pub sends_or_ends : (x : Result Octets Error) → composed (under c id j.request) ≡ x → Sends (sends_composed for_one server (dgrams_of c) p t id j (under c id j.request) (record s { jobs = frees t s.jobs }) (drawn v) x)
  sends_or_ends (Ok octets) e = goes_out octets e (can_draw v.timers.next)
  sends_or_ends (Err fault) e = ends_unsent c server (Opened p) s d v f fair t p j is (Err fault) st o.tryer (dgrams.CannotBeSent j.number o.tryer p fault o.at o.held o.stage ((composed_composes c).refused_under o.tryer.request id fault o.job.octets (sym same ∙ e)))
