-- Whatever a choice is called for, each request that waits in its table is awaited afterwards.
use Rattle.std.proofs.Common.{◌≡◌, ℕ, zero, suc, ◌+◌, ◌-◌, Bool, true, false, if◌then◌else◌, List, [], ◌∷◌, length, Option, Some, None, slice_get, refl, sym, ap, subst, ◌∙◌}
use Rattle.std.specs.Prelude.{set}
use Rattle.client_request.specs.Board.{Part}
use Rattle.client_request.specs.Numbered.{frees, entry_at}
use Rattle.client_request.specs.View.{View, Heard, Transport}
use Rattle.client_request.specs.declared.board.Posted.{Posted}
use Rattle.client_settings.specs.Settings.{RedundantSettings}
use Rattle.client_choice.specs.Choice.{Choice, ChoiceJob, rests, unarmed, unset, stopped, ends, put_off, is_better, is_deferred, is_last, is_of, silenced, disarmed, goes_on, begins, runs, puts_off, gets, settled, settles_job, settles_owner, settles, settles_all, without_owner, fresh_job, fires, takes_on, drops, drops_job, hears_one, hears_some, hears_all}
use Rattle.client_choice.specs.Servers as at
use Rattle.client_choice.specs.Servers.{Server, hears_at, hears_found, disowned, owner}
use Rattle.client_choice.specs.declared.job.ListedServer.{ListedServer}
use Rattle.client_choice.specs.declared.job.Started.{Started}
use Rattle.proof_parts.specs.PartTie.{Leads}
use Rattle.proof_choice.specs.Awaiting.{LastOwes, AreWithin, IsAwaited, Awaits}
use Rattle.proof_choice.proofs.AtServer.{set_length}
use Rattle.proof_choice.proofs.Awaiting.{with_jobs, awaited_puts, awaited_frees, awaited_at, rests_awaits, HasStarted, begins_awaits, gives_up_awaits, ends_awaits, Kept, disowned_length}
use Rattle.proof_choice.proofs.Leaving.{leads_then, leads_map, leads_if}
use Rattle.proof_choice.proofs.Owing.{one_of_last, last_stays, still_last}

not_both : (b : Bool) → b ≡ true → b ≡ false → ⊥
not_both b p q = cc

module _ {R P : Type 0} where
  -- what is put off changes neither who was started nor who is left
  put_off_left : (part : Part) (job : ChoiceJob R P) → (put_off part job).left ≡ job.left
  put_off_left part job = by (is_better job.deferred part)
    where
      by : (b : Bool) → (if b then record job { deferred = Some part } else job).left ≡ job.left
      by true = refl
      by false = refl

  put_off_started : (part : Part) (job : ChoiceJob R P) → (put_off part job).started ≡ job.started
  put_off_started part job = by (is_better job.deferred part)
    where
      by : (b : Bool) → (if b then record job { deferred = Some part } else job).started ≡ job.started
      by true = refl
      by false = refl

module _ {R U P : Type 0} (count : ℕ) (below : Transport R U P) (settings : RedundantSettings) where
  -- a request is put back, or goes on to be started at these servers
  abbrev Going : List ListedServer → Type 0
  Going es = (t : ℕ) (job : ChoiceJob R P) (c : Choice R U P) (v : View) → job.left ≡ es → AreWithin count es → Awaits count c → Leads (Kept count) (runs below settings t es job c v)

  none_left : (t : ℕ) (job : ChoiceJob R P) (c : Choice R U P) (v : View) → job.left ≡ [] → Awaits count c → Leads (Kept count) (rests t job c v)
  none_left t job c v none a = rests_awaits count t job c v (record { last = λ some. absurd (some none); within = subst (AreWithin count) (sym none) tt }) a

  pub runs_awaits : (es : List ListedServer) → Going es
  runs_awaits [] t job c v left within a = none_left t job c v left a
  runs_awaits (e ∷ es) t job c v left within a = leads_then (HasStarted count below (record job { left = es })) (Kept count) (λ x. goes_on below settings t e.server (runs below settings t es) x.0.0.1 x.0.1 x.1 x.0.0.0)
      (begins below t e (record job { left = es }) c v) (λ y w s. on y.0.1 y.1 w y.0.0 s.left s.owes s.awaits (runs_awaits es)) (begins_awaits count below t e (record job { left = es }) c v within.0 a)
    where
      on : (one : ChoiceJob R P) (d : Choice R U P) (w : View) (o : Option Part) → one.left ≡ es → (o ≡ None → LastOwes one.started) → Awaits count d → Going es → Leads (Kept count) (goes_on below settings t e.server (runs below settings t es) one d w o)
      on one d w None same owes b ih = record {
        servers = b.servers;
        jobs = awaited_puts count t one d.jobs (record { one = one_of_last one.started (owes refl); last = λ some. owes refl; within = subst (AreWithin count) (sym same) within.1 }) b.jobs;
      }
      on one d w (Some part) same owes b ih = leads_if (Kept count) (is_deferred settings part)
          (runs below settings t es (put_off part (disarmed one)) (unarmed one.timer d) (stopped one.timer w)) (ends below t e.server part one d w)
          (ih t (put_off part (disarmed one)) (unarmed one.timer d) (stopped one.timer w) (put_off_left part (disarmed one) ∙ same) within.1 (with_jobs count d (unarmed one.timer d) refl refl b))
          (ends_awaits count below t e.server part one d w b)

  -- A request is in hand, of which one server gave its result.
  record InHand (server : ℕ) (job : ChoiceJob R P) : Type 0 where
    last : is_last server job ≡ false → (job.left ≡ [] → ⊥) → LastOwes job.started
    within : AreWithin count job.left

  puts_off_awaits : (t server : ℕ) (job : ChoiceJob R P) (c : Choice R U P) (v : View) → InHand server job → Awaits count c → Leads (Kept count) (puts_off below settings t server job c v)
  puts_off_awaits t server job c v h a = by (is_last server job) refl
    where
      by : (b : Bool) → is_last server job ≡ b → Leads (Kept count) (if b then runs below settings t job.left (disarmed job) (unarmed job.timer c) (stopped job.timer v) else rests t job c v)
      by true is = runs_awaits job.left t (disarmed job) (unarmed job.timer c) (stopped job.timer v) refl h.within (with_jobs count c (unarmed job.timer c) refl refl a)
      by false is = rests_awaits count t job c v (record { last = h.last is; within = h.within }) a

  gets_awaits : (t server : ℕ) (part : Part) (job : ChoiceJob R P) (c : Choice R U P) (v : View) → InHand server job → Awaits count c → Leads (Kept count) (gets below settings t server part job c v)
  gets_awaits t server part job c v h a = leads_if (Kept count) (is_deferred settings part) (puts_off below settings t server (put_off part job) c v) (ends below t server part job c v)
      (puts_off_awaits t server (put_off part job) c v (record {
        last = λ n some. subst LastOwes (sym (put_off_started part job)) (h.last (sym (ap (λ (es : List (Started P)). is_of server (slice_get es (length es - 1))) (put_off_started part job)) ∙ n) (λ none. some (put_off_left part job ∙ none)));
        within = subst (AreWithin count) (sym (put_off_left part job)) h.within;
      }) a)
      (ends_awaits count below t server part job c v a)

  -- one of its servers gave the result
  in_hand : (server : ℕ) (job : ChoiceJob R P) → IsAwaited count job → InHand server (settled server job)
  in_hand server job a = record { last = λ n some. by (is_of server (slice_get job.started (length job.started - 1))) refl n some; within = a.within }
    where
      by : (b : Bool) → is_of server (slice_get job.started (length job.started - 1)) ≡ b → is_last server (settled server job) ≡ false → (job.left ≡ [] → ⊥) → LastOwes (silenced server job.started)
      by true is n some = absurd (not_both (is_of server (slice_get (silenced server job.started) (length (silenced server job.started) - 1))) (still_last server job.started is) n)
      by false is n some = last_stays server job.started is (a.last some)

  settles_awaits : (server : ℕ) (p : Posted) (c : Choice R U P) (v : View) → Awaits count c → Leads (Kept count) (settles below settings server p c v)
  settles_awaits server p c v a = by (owner server p.ticket c.servers)
    where
      freed : Awaits count (without_owner server p.ticket c)
      freed = with_jobs count c (without_owner server p.ticket c) (disowned_length server p.ticket c.servers) refl a

      found : (t : ℕ) (o : Option (ChoiceJob R P)) → entry_at t c.jobs ≡ o → Leads (Kept count) (settles_job below settings t server p.part (without_owner server p.ticket c) v o)
      found t None is = freed
      found t (Some job) is = gets_awaits t server p.part (settled server job) (record (without_owner server p.ticket c) { jobs = frees t c.jobs }) v (in_hand server job (awaited_at count t job c.jobs a.jobs is))
          (record { servers = freed.servers; jobs = awaited_frees count t c.jobs a.jobs })

      by : (o : Option ℕ) → Leads (Kept count) (settles_owner below settings server p (without_owner server p.ticket c) v o)
      by None = freed
      by (Some t) = found t (entry_at t c.jobs) refl

  pub settles_all_awaits : (server : ℕ) (ps : List Posted) (c : Choice R U P) (v : View) → Awaits count c → Leads (Kept count) (settles_all below settings server ps c v)
  settles_all_awaits server [] c v a = a
  settles_all_awaits server (p ∷ more) c v a = leads_then (Kept count) (Kept count) (λ x. settles_all below settings server more x.0 x.1) (settles below settings server p c v) (λ d w b. settles_all_awaits server more d w b) (settles_awaits server p c v a)

  hears_length : (index : ℕ) (h : Heard) (servers : List (Server U)) (v : View) → Leads (λ y w. length y.1 ≡ length servers) (hears_at below index h servers v)
  hears_length index h servers v = by (slice_get servers index)
    where
      by : (o : Option (Server U)) → Leads (λ y w. length y.1 ≡ length servers) (hears_found below index h servers v o)
      by None = refl
      by (Some s) = leads_map (λ b w. Unit {0}) (λ y w. length y.1 ≡ length servers) (λ x. ((x.0.0, set servers index x.0.1), x.1)) (at.hears below h s v) (λ b w u. set_length servers index b.1) (any (at.hears below h s v))
        where
          any : (o : Option ((List Posted × Server U) × View)) → Leads (λ b w. Unit {0}) o
          any None = tt
          any (Some z) = tt

  -- The calls: a server hears something; a timer has fired; a request is taken on, and given up.
  hears_awaits : (server : ℕ) (h : Heard) (c : Choice R U P) (v : View) → Awaits count c → Leads (Kept count) (hears_one below settings server h c v)
  hears_awaits server h c v a = leads_then (λ y w. length y.1 ≡ length c.servers) (Kept count) (λ x. settles_all below settings server x.0.0 (record c { servers = x.0.1 }) x.1) (hears_at below server h c.servers v)
      (λ y w l. settles_all_awaits server y.0 (record c { servers = y.1 }) w (with_jobs count c (record c { servers = y.1 }) l refl a)) (hears_length server h c.servers v)

  hears_some_awaits : (n server : ℕ) (h : Heard) (c : Choice R U P) (v : View) → Awaits count c → Leads (Kept count) (hears_some below settings server n h c v)
  hears_some_awaits zero server h c v a = a
  hears_some_awaits (suc n) server h c v a = leads_then (Kept count) (Kept count) (λ x. hears_some below settings (server + 1) n h x.0 x.1) (hears_one below settings server h c v) (λ d w b. hears_some_awaits n (server + 1) h d w b) (hears_awaits server h c v a)

  pub hears_all_awaits : (h : Heard) (c : Choice R U P) (v : View) → Awaits count c → Leads (Kept count) (hears_all below settings h c v)
  hears_all_awaits h c v a = hears_some_awaits (length c.servers) 0 h c v a

  pub fires_awaits : (t : ℕ) (c : Choice R U P) (v : View) → Awaits count c → Leads (Kept count) (fires below settings t c v (entry_at t c.jobs))
  fires_awaits t c v a = by (entry_at t c.jobs) refl
    where
      by : (o : Option (ChoiceJob R P)) → entry_at t c.jobs ≡ o → Leads (Kept count) (fires below settings t c v o)
      by None is = a
      by (Some job) is = runs_awaits job.left t (disarmed job) (record c { jobs = frees t c.jobs }) v refl (awaited_at count t job c.jobs a.jobs is).within (record { servers = a.servers; jobs = awaited_frees count t c.jobs a.jobs })

  pub takes_on_awaits : (t : ℕ) (es : List ListedServer) (request : R) (c : Choice R U P) (v : View) → AreWithin count es → Awaits count c → Leads (Kept count) (takes_on below settings t es request c v)
  takes_on_awaits t es request c v within a = runs_awaits es t (fresh_job v.request request es) c v refl within a

  pub drops_awaits : (t : ℕ) (c : Choice R U P) (v : View) → Awaits count c → Leads (Kept count) (drops below t c v)
  drops_awaits t c v a = by (entry_at t c.jobs)
    where
      by : (o : Option (ChoiceJob R P)) → Leads (Kept count) (drops_job below t c v o)
      by None = a
      by (Some job) = gives_up_awaits count below job.started (record c { jobs = frees t c.jobs; timers = unset job.timer c.timers }) (stopped job.timer v) (record { servers = a.servers; jobs = awaited_frees count t c.jobs a.jobs })

-- each request that waits is awaited
pub is_awaited : {R U P : Type 0} (count t : ℕ) (job : ChoiceJob R P) (c : Choice R U P) → Awaits count c → entry_at t c.jobs ≡ Some job → IsAwaited count job
is_awaited count t job c a is = awaited_at count t job c.jobs a.jobs is
