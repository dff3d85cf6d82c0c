-- Each request in the table of a choice stays awaited, whatever the choice does.
use Rattle.std.proofs.Common.{◌≡◌, ℕ, zero, suc, ◌+◌, ◌-◌, ◌<◌, Bool, true, false, cond, ◌==◌, ◌&&◌, if◌then◌else◌, List, [], ◌∷◌, length, Option, Some, None, Ordering, Less, Equal, Greater, nat_cmp, is_eq, slice_get, refl, sym, subst, ◌∙◌, arith}
use Rattle.std.specs.Ordering.{match_ordering}
use Rattle.std.specs.Prelude.{set, option_map}
use Rattle.client_request.specs.Board.{Part}
use Rattle.client_request.specs.Numbered.{puts, frees, entry_at}
use Rattle.client_request.specs.Timers.{can_draw, with_timer}
use Rattle.client_request.specs.View.{View, Transport, answers}
use Rattle.client_choice.specs.Choice.{Choice, ChoiceJob, rests, gives, all_gave, keeps, unarmed, stopped, judged, judges_each, drops_each, drops_response, gives_up, ends, noted, parted, begun, begun_at, begins}
use Rattle.client_choice.specs.Servers as at
use Rattle.client_choice.specs.Servers.{Server, starts_at, starts_found, drops_at, drops_found, hears_at, hears_found, judges, judges_found, disowned, disowned_at, owner, for_request, onto}
use Rattle.client_choice.specs.declared.job.ListedServer.{ListedServer}
use Rattle.client_choice.specs.declared.job.Started.{Started}
use Rattle.client_choice.specs.declared.servers.Reply.{Reply}
use Rattle.client_choice.specs.declared.servers.Reply.TheVariants.{Later, Now}
use Rattle.proof_parts.specs.PartTie.{Leads}
use Rattle.proof_choice.specs.Awaiting.{Owes, OneOwes, LastOwes, AreWithin, IsAwaited, AreAwaited, Awaits}
use Rattle.proof_choice.proofs.AtServer.{set_length}
use Rattle.proof_choice.proofs.Leaving.{leads_then, leads_map, leads_on}
use Rattle.proof_choice.proofs.Owing.{one_of_last, last_with, not_all_gave}

not_none : {A : Type 0} (xs : List A) (i : ℕ) → i < length xs → slice_get xs i ≡ None → ⊥
not_none [] i lt e = absurd (omega arith)
not_none (x ∷ xs) zero lt e = absurd (cc)
not_none (x ∷ xs) (suc i) lt e = not_none xs i (less i (length xs) lt) e
  where
    less : (a b : ℕ) → suc a < suc b → a < b
    less a b lt = omega arith

module _ {U : Type 0} where
  judges_length : (index : ℕ) (is_giver : Bool) (elapsed : ℕ) (servers : List (Server U)) → length (judges index is_giver elapsed servers) ≡ length servers
  judges_length index is_giver elapsed servers = by (slice_get servers index)
    where
      by : (o : Option (Server U)) → length (judges_found index is_giver elapsed servers o) ≡ length servers
      by None = refl
      by (Some s) = set_length servers index (at.judged is_giver elapsed s)

  judges_each_length : {P : Type 0} → (giver now : ℕ) (started : List (Started P)) (servers : List (Server U)) → length (judges_each giver now started servers) ≡ length servers
  judges_each_length giver now [] servers = refl
  judges_each_length giver now (s ∷ more) servers = judges_each_length giver now more (judges s.server (s.server == giver) (now - s.since) servers) ∙ judges_length s.server (s.server == giver) (now - s.since) servers

  pub disowned_length : (index lower : ℕ) (servers : List (Server U)) → length (disowned index lower servers) ≡ length servers
  disowned_length index lower servers = by (slice_get servers index)
    where
      by : (o : Option (Server U)) → length (disowned_at index lower servers o) ≡ length servers
      by None = refl
      by (Some s) = set_length servers index (record s { waiting = frees lower s.waiting })

module _ {R P : Type 0} (count : ℕ) where
  pub awaited_puts : (t : ℕ) (job : ChoiceJob R P) (es : List (ℕ × ChoiceJob R P)) → IsAwaited count job → AreAwaited count es → AreAwaited count (puts t job es)
  awaited_puts t job [] a all = (a, tt)
  awaited_puts t job (e ∷ es) a all = by (nat_cmp t e.0) (awaited_puts t job es a all.1)
    where
      by : (o : Ordering) → AreAwaited count (puts t job es) → AreAwaited count (match_ordering o ((t, job) ∷ e ∷ es) ((e.0, job) ∷ es) (e ∷ puts t job es))
      by Less ih = (a, all)
      by Equal ih = (a, all.1)
      by Greater ih = (all.0, ih)

  pub awaited_frees : (t : ℕ) (es : List (ℕ × ChoiceJob R P)) → AreAwaited count es → AreAwaited count (frees t es)
  awaited_frees t [] all = tt
  awaited_frees t (e ∷ es) all = by (is_eq (nat_cmp t e.0)) (awaited_frees t es all.1)
    where
      by : (b : Bool) → AreAwaited count (frees t es) → AreAwaited count (cond b es (e ∷ frees t es))
      by true ih = all.1
      by false ih = (all.0, ih)

  pub awaited_at : (t : ℕ) (job : ChoiceJob R P) (es : List (ℕ × ChoiceJob R P)) → AreAwaited count es → entry_at t es ≡ Some job → IsAwaited count job
  awaited_at t job [] all e = absurd (cc)
  awaited_at t job (e ∷ es) all is = by (is_eq (nat_cmp t e.0)) is (awaited_at t job es all.1)
    where
      by : (b : Bool) → cond b (Some e.1) (entry_at t es) ≡ Some job → (entry_at t es ≡ Some job → IsAwaited count job) → IsAwaited count job
      by true is ih = subst (λ (j : ChoiceJob R P). IsAwaited count j) (same e.1 job is) all.0
        where
          same : (a b : ChoiceJob R P) → Some a ≡ Some b → a ≡ b
          same a b e = cc
      by false is ih = ih is

  -- What is known of a request that is put back: where servers are left, the last one that was started owes its result.
  pub record MayRest (job : ChoiceJob R P) : Type 0 where
    pub last : (job.left ≡ [] → ⊥) → LastOwes job.started
    pub within : AreWithin count job.left

  pub of_awaited : (job : ChoiceJob R P) → IsAwaited count job → MayRest job
  of_awaited job a = record { last = a.last; within = a.within }

  module _ {U : Type 0} where
    -- the choice is as it was, but for its table, its timers, and what the servers are
    pub with_jobs : (c d : Choice R U P) → length d.servers ≡ length c.servers → d.jobs ≡ c.jobs → Awaits count c → Awaits count d
    with_jobs c d same jobs a = record { servers = same ∙ a.servers; jobs = subst (λ (js : List (ℕ × ChoiceJob R P)). AreAwaited count js) (sym jobs) a.jobs }

    abbrev pub Kept : Choice R U P → View → Type 0
    Kept d w = Awaits count d

    pub rests_awaits : (t : ℕ) (job : ChoiceJob R P) (c : Choice R U P) (v : View) → MayRest job → Awaits count c → Leads Kept (rests t job c v)
    rests_awaits t job c v m a = by (length job.left == 0) refl (all_gave job.started) refl
      where
        kept : OneOwes job.started → Awaits count (keeps t job c)
        kept o = record { servers = a.servers; jobs = awaited_puts t job c.jobs (record { one = o; last = m.last; within = m.within }) a.jobs }

        some : (es : List ListedServer) → (length es == 0) ≡ false → es ≡ [] → ⊥
        some [] n e = absurd (cc)
        some (e ∷ es) n q = cc

        by : (b : Bool) → (length job.left == 0) ≡ b → (z : Bool) → all_gave job.started ≡ z → Leads Kept (if b && z then Some (c, gives job.deferred t v) else Some (keeps t job c, v))
        by true none true all = a
        by true none false all = kept (not_all_gave job.started all)
        by false none z all = kept (one_of_last job.started (m.last (some job.left none)))

    module _ (below : Transport R U P) where
      abbrev SameLength : (servers : List (Server U)) → List (Server U) → View → Type 0
      SameLength servers xs w = length xs ≡ length servers

      drops_length : (index lower : ℕ) (response : P) (servers : List (Server U)) (v : View) → Leads (SameLength servers) (drops_at below index lower response servers v)
      drops_length index lower response servers v = by (slice_get servers index)
        where
          by : (o : Option (Server U)) → Leads (SameLength servers) (drops_found below index lower response servers v o)
          by None = refl
          by (Some s) = leads_map (λ b w. Unit {0}) (SameLength servers) (λ x. (set servers index x.0, x.1)) (at.drops below lower response s v) (λ b w u. set_length servers index b) (any (at.drops below lower response s v))
            where
              any : (o : Option (Server U × View)) → Leads (λ b w. Unit {0}) o
              any None = tt
              any (Some z) = tt

      drops_each_length : (started : List (Started P)) (servers : List (Server U)) (v : View) → Leads (SameLength servers) (drops_each below started servers v)
      drops_each_length [] servers v = refl
      drops_each_length (s ∷ more) servers v = leads_then (SameLength servers) (SameLength servers) (λ x. drops_each below more x.0 x.1) (drops_response below s servers v s.response)
          (λ xs w l. leads_on (SameLength xs) (SameLength servers) (drops_each below more xs w) (λ ys u m. m ∙ l) (drops_each_length more xs w)) (by s.response)
        where
          by : (o : Option P) → Leads (SameLength servers) (drops_response below s servers v o)
          by None = refl
          by (Some r) = drops_length s.server s.lower r servers v

      pub gives_up_awaits : (started : List (Started P)) (c : Choice R U P) (v : View) → Awaits count c → Leads Kept (gives_up below started c v)
      gives_up_awaits started c v a = leads_map (SameLength c.servers) Kept (λ x. (record c { servers = x.0 }, x.1)) (drops_each below started c.servers v)
          (λ xs w l. with_jobs c (record c { servers = xs }) l refl a) (drops_each_length started c.servers v)

      pub ends_awaits : (t giver : ℕ) (part : Part) (job : ChoiceJob R P) (c : Choice R U P) (v : View) → Awaits count c → Leads Kept (ends below t giver part job c v)
      ends_awaits t giver part job c v a = gives_up_awaits job.started (unarmed job.timer (judged giver job v.now c)) (answers t part (stopped job.timer v))
          (with_jobs c (unarmed job.timer (judged giver job v.now c)) (judges_each_length giver v.now job.started c.servers) refl a)

      -- what the start of a server leaves: a reply, and as many servers
      abbrev Replied : (servers : List (Server U)) → Option (Reply P) × List (Server U) → View → Type 0
      Replied servers y w = ((r : Reply P) × (y.0 ≡ Some r)) × (length y.1 ≡ length servers)

      starts_reply : (index t : ℕ) (request : R) (servers : List (Server U)) (v : View) → index < length servers → Leads (Replied servers) (starts_at below index t request servers v)
      starts_reply index t request servers v lt = by (slice_get servers index) refl
        where
          by : (o : Option (Server U)) → slice_get servers index ≡ o → Leads (Replied servers) (starts_found below index t request servers v o)
          by None none = absurd (not_none servers index lt none)
          by (Some s) is = leads_map (λ b w. Unit {0}) (Replied servers) (λ x. ((Some x.0.0, set servers index x.0.1), x.1)) (at.starts below t request s v) (λ b w u. ((b.0, refl), set_length servers index b.1)) (any (at.starts below t request s v))
            where
              any : (o : Option ((Reply P × Server U) × View)) → Leads (λ b w. Unit {0}) o
              any None = tt
              any (Some z) = tt

      -- A server was started: where it gave nothing, it owes its result.
      pub record HasStarted (job : ChoiceJob R P) (y : (Option Part × ChoiceJob R P) × Choice R U P) (w : View) : Type 0 where
        pub awaits : Awaits count y.1
        pub left : (y.0.1).left ≡ job.left
        pub owes : y.0.0 ≡ None → LastOwes (y.0.1).started

      pub begins_awaits : (t : ℕ) (e : ListedServer) (job : ChoiceJob R P) (c : Choice R U P) (v : View) → e.server < count → Awaits count c → Leads (HasStarted job) (begins below t e job c v)
      begins_awaits t e job c v lt a = leads_then (Replied c.servers) (HasStarted job) (begun below t e job c v) (starts_at below e.server t job.request c.servers (for_request job.number v))
          (λ y w r. then_arms y w r) (starts_reply e.server t job.request c.servers (for_request job.number v) (subst (λ n. e.server < n) (sym a.servers) lt))
        where
          owing : (o : Option (Reply P)) → (r : Reply P) → o ≡ Some r → (parted o).1 ≡ None → Owes {P = P} (record { server = e.server; since = v.now; lower = v.ticket; response = (parted o).0 })
          owing None r is n = absurd (cc)
          owing (Some (Later p)) r is n = (p, refl)
          owing (Some (Now part)) r is n = absurd (cc)

          then_arms : (y : Option (Reply P) × List (Server U)) (w : View) → Replied c.servers y w → Leads (HasStarted job) (begun below t e job c v (y, w))
          then_arms y w r = by (length job.left == 0) (can_draw w.timers.next)
            where
              one : ChoiceJob R P
              one = noted e.server v.now v.ticket (parted y.0).0 job

              said : (timer : Option ℕ) (timers : List (ℕ × ℕ)) (u : View) → HasStarted job (((parted y.0).1, record (noted e.server v.now v.ticket (parted y.0).0 job) { timer = timer }), record c { servers = y.1; timers = timers }) u
              said timer timers u = record {
                awaits = with_jobs c (record c { servers = y.1; timers = timers }) r.1 refl a;
                left = refl;
                owes = λ n. last_with job.started (record { server = e.server; since = v.now; lower = v.ticket; response = (parted y.0).0 }) (owing y.0 (r.0).0 (r.0).1 n);
              }

              by : (b z : Bool) → Leads (HasStarted job) (option_map (begun_at below (parted y.0).1 c y.1) (if b then Some ((noted e.server v.now v.ticket (parted y.0).0 job, c.timers), w)
                  else option_map (λ u. ((record (noted e.server v.now v.ticket (parted y.0).0 job) { timer = Some w.timers.next }, puts w.timers.next t c.timers), u)) (if z then Some (record w { timers = with_timer (v.now + e.estimate) w.timers }) else None)))
              by true z = said job.timer c.timers w
              by false true = said (Some w.timers.next) (puts w.timers.next t c.timers) (record w { timers = with_timer (v.now + e.estimate) w.timers })
              by false false = tt
