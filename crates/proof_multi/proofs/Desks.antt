-- Tables as functions: the names of tickets, and who is at a place.
use Rattle.std.proofs.Common.{◌≡◌, ◌≢◌, ℕ, ◌≤◌, ◌⊎◌, inl, inr, Bool, true, false, ◌==◌, List, Option, Some, None, refl, sym, ap, subst, ◌∙◌, arith}
use Rattle.std.specs.Prelude.{option_map, option_and_then}
use Rattle.std.proofs.lemmas.Bool.Decides.{nat_tests}
use mathlib.Core.Path.{fun_ext}
use Rattle.client_request.specs.Numbered.{frees, entry_at}
use Rattle.client_request.specs.Request.{Request}
use Rattle.client_stream.specs.Plain.{Asked}
use Rattle.client_stream.specs.declared.request.QueuedRequest.{QueuedRequest as Queued}
use Rattle.client_multi.specs.Links.{Link}
use Rattle.client_multi.specs.declared.multi_stream.job.Job.{Job}
use Rattle.client_multi.specs.declared.multi_stream.job.Stage.TheVariants.{Held}
use Rattle.right_trace.specs.Messages.{Octets}
use Rattle.proof_right.specs.machine.Streams.{Phase, Free, Expecting, Lined, Holding, Broken, BackingOff, Asker, Conn, Multi}
use Rattle.right_trace.specs.Updates.{with_at}
use Rattle.proof_parts.specs.Connections.{timer_of}
use Rattle.proof_parts.specs.Lines.{SingleLine, Sorted, seats_of, StageFits, IsNew, IsActive, IsIdle, IsLineAt}
use Rattle.proof_parts.specs.Octets.{IsLinkAt}
use Rattle.proof_parts.specs.Seats.{IsAway, IdFits, IsFree, IsHeld, WasGivenUp, AreSeated}
use Rattle.proof_parts.proofs.Keys.{with_again, with_same}
use Rattle.proof_parts.proofs.Tables.{rises_below, frees_path}
use Rattle.proof_multi.specs.Servers.{Desk, Server, desk_of, numbers, names_at, under, IsThere}
use Rattle.right_trace.specs.Trace.{Conf}

-- It is at a place, or away.

pub there_or_away : (p : ℕ) (a : Asker) → IsThere p a.phase ⊎ IsAway p (Some a)
there_or_away p a = by a.phase refl
  where
    is : (b : Asker) → Some a ≡ Some b → a.phase ≡ b.phase
    is b e = let f : a ≡ b = cc in ap (λ (a : Asker). a.phase) f

    away : (ph : Phase) → a.phase ≡ ph → (ph ≢ Lined p) → ((id : ℕ) → ph ≢ Holding p id) → IsAway p (Some a)
    away ph e lined holding = record { lined = λ b f g. lined (sym e ∙ (is b f ∙ g)); holding = λ b id f g. holding id (sym e ∙ (is b f ∙ g)) }

    same : (q : ℕ) → (q == p) ≡ true → q ≡ p
    same q e = grind (arith, nat_tests)

    other : (q : ℕ) → (q == p) ≡ false → q ≡ p → ⊥
    other q e f = grind (arith, nat_tests)

    by : (ph : Phase) → a.phase ≡ ph → IsThere p a.phase ⊎ IsAway p (Some a)
    by Free e = inr (away Free e (λ f. cc) (λ id f. cc))
    by Expecting e = inr (away Expecting e (λ f. cc) (λ id f. cc))
    by Broken e = inr (away Broken e (λ f. cc) (λ id f. cc))
    by (BackingOff until) e = inr (away (BackingOff until) e (λ f. cc) (λ id f. cc))
    by (Lined q) e = go (q == p) refl
      where
        go : (b : Bool) → (q == p) ≡ b → IsThere p a.phase ⊎ IsAway p (Some a)
        go true f = inl (subst (IsThere p) (sym e) (same q f))
        go false f = inr (away (Lined q) e (λ g. other q f (let x : q ≡ p = cc in x)) (λ id g. cc))
    by (Holding q d) e = go (q == p) refl
      where
        go : (b : Bool) → (q == p) ≡ b → IsThere p a.phase ⊎ IsAway p (Some a)
        go true f = inl (subst (IsThere p) (sym e) (same q f))
        go false f = inr (away (Holding q d) e (λ g. cc) (λ id g. other q f (let x : q ≡ p = cc in x)))

pub away_none : (p : ℕ) (o : Option Asker) → o ≡ None → IsAway p o
away_none p o is = record { lined = λ a e g. (let z : None ≡ Some a = sym is ∙ e in cc); holding = λ a d e g. (let z : None ≡ Some a = sym is ∙ e in cc) }

same_phase : (o : Option Asker) (a b : Asker) → o ≡ Some a → o ≡ Some b → a.phase ≡ b.phase
same_phase o a b e f = let g : Some a ≡ Some b = sym e ∙ f in let h : a ≡ b = cc in ap (λ (a : Asker). a.phase) h

-- nobody is there whose phase is at no place
pub away_so : (p : ℕ) (o : Option Asker) (a : Asker) → o ≡ Some a → (IsThere p a.phase → ⊥) → IsAway p o
away_so p o a is none = record {
  lined = λ b e g. none (subst (IsThere p) (sym (same_phase o a b is e ∙ g)) refl);
  holding = λ b id e g. none (subst (IsThere p) (sym (same_phase o a b is e ∙ g)) refl);
}

-- it is not both
pub not_both : (p : ℕ) (o : Option Asker) (a : Asker) → o ≡ Some a → IsAway p o → IsThere p a.phase → ⊥
not_both p o a is away there = by a.phase refl there
  where
    by : (ph : Phase) → a.phase ≡ ph → IsThere p ph → ⊥
    by Free e t = t
    by Expecting e t = t
    by Broken e t = t
    by (BackingOff until) e t = t
    by (Lined q) e t = away.lined a is (e ∙ ap Lined t)
    by (Holding q d) e t = away.holding a d is (e ∙ ap (λ q. Holding q d) t)

pub one_place : (p q : ℕ) (ph : Phase) → IsThere p ph → IsThere q ph → p ≡ q
one_place p q Free a b = absurd a
one_place p q Expecting a b = absurd a
one_place p q Broken a b = absurd a
one_place p q (BackingOff until) a b = absurd a
one_place p q (Lined r) a b = sym a ∙ b
one_place p q (Holding r d) a b = sym a ∙ b

-- Names

pub number_of : (o : Option (Job Request)) (k : ℕ) → option_map (λ (job : Job Request). job.number) o ≡ Some k → (job : Job Request) × (o ≡ Some job) × (job.number ≡ k)
number_of None k e = absurd (cc)
number_of (Some job) k e = (job, refl, let f : job.number ≡ k = cc in f)

pub name_of : (d : Desk) (i k : ℕ) → names_at d i ≡ Some k → (t : ℕ) × (job : Job Request) × (d.inner i ≡ Some t) × (d.jobs t ≡ Some job) × (job.number ≡ k)
name_of d i k e = by (d.inner i) refl e
  where
    by : (o : Option ℕ) → d.inner i ≡ o → option_and_then (numbers d) o ≡ Some k → (t : ℕ) × (job : Job Request) × (d.inner i ≡ Some t) × (d.jobs t ≡ Some job) × (job.number ≡ k)
    by None f g = absurd (cc)
    by (Some t) f g = let n = number_of (d.jobs t) k g in (t, n.0, f, n.1, n.2)

pub name_is : (d : Desk) (i t : ℕ) (job : Job Request) → d.inner i ≡ Some t → d.jobs t ≡ Some job → names_at d i ≡ Some job.number
name_is d i t job e f = ap (option_and_then (numbers d)) e ∙ ap (option_map (λ (job : Job Request). job.number)) f

-- two tickets of one request at connections are one
pub names_apart : (d : Desk) → ((t u : ℕ) (job other : Job Request) → d.jobs t ≡ Some job → d.jobs u ≡ Some other → job.number ≡ other.number → t ≡ u)
    → ((i t : ℕ) → d.inner i ≡ Some t → (job : Job Request) × (p : ℕ) × (d.jobs t ≡ Some job) × (job.stage ≡ Held p (under i)))
    → (i j k : ℕ) → names_at d i ≡ Some k → names_at d j ≡ Some k → i ≡ j
names_apart d apart inner i j k e f =
    let a = name_of d i k e in
    let b = name_of d j k f in
    let x = inner i a.0 a.2 in
    let y = inner j b.0 b.2 in
    let same : a.0 ≡ b.0 = apart a.0 b.0 a.1 b.1 a.3 b.3 (a.4 ∙ sym b.4) in
    let one : Some x.0 ≡ Some y.0 = sym x.2 ∙ (ap d.jobs same ∙ y.2) in
    let job : x.0 ≡ y.0 = cc in
    let held : Held x.1 (under i) ≡ Held y.1 (under j) = sym x.3 ∙ (ap (λ (j : Job Request). j.stage) job ∙ y.3) in
    let u : under i ≡ under j = cc in
    ap (λ (r : Asked). r.ticket) u

-- A job that is taken out of its table, and still stands on the desk

abbrev pub desk_with : ℕ → Job Request → Server → Desk
desk_with t job s = record (desk_of s) { jobs = with_at t (Some job) (λ t. entry_at t s.jobs) }

pub taken_out : (t : ℕ) (job : Job Request) (s : Server) (lo hi : ℕ) → Sorted lo hi s.jobs → entry_at t s.jobs ≡ Some job → desk_of s ≡ desk_with t job (record s { jobs = frees t s.jobs })
taken_out t job s lo hi sorted is = ap (λ (f : ℕ → Option (Job Request)). record (desk_of s) { jobs = f })
    (fun_ext (λ j. sym (ap (λ (f : ℕ → Option (Job Request)). with_at t (Some job) f j) (frees_path t lo hi s.jobs sorted) ∙ (with_again t (Some job) None (λ j. entry_at j s.jobs) j ∙ with_same t (Some job) (λ j. entry_at j s.jobs) j is))))

-- A connection whose requests stay as they are.

-- of each request: it stays, or is away before and after
abbrev pub StaysThere : (p : ℕ) (o n : Option Asker) → Type 0
StaysThere p o n = (n ≡ o) ⊎ (IsAway p o × IsAway p n)

module _ (c : Conf) (p : ℕ) (l : SingleLine) (names after : ℕ → Option ℕ) (m n : Multi) (x : Conn) (d e : ℕ → Option ℕ) (ticket next : ℕ)
    (line : IsLineAt c p names l m x d ticket)
    (conns : n.conns p ≡ m.conns p)
    (asks : (k : ℕ) → StaysThere p (m.asks k) (n.asks k))
    (named : (i k : ℕ) (a : Asker) → names i ≡ Some k → m.asks k ≡ Some a → IsThere p a.phase → after i ≡ Some k)
    (apart : (i j k : ℕ) → after i ≡ Some k → after j ≡ Some k → i ≡ j)
    (due : (i : ℕ) → timer_of l.stage ≡ Some i → e i ≡ d i)
    (later : ticket ≤ next) where
  still : (k : ℕ) (a : Asker) → m.asks k ≡ Some a → IsThere p a.phase → n.asks k ≡ Some a
  still k a is there = elim (asks k) [ inl s ↦ s ∙ is | inr b ↦ absurd (not_both p (m.asks k) a is b.0 there) ]

  was : (k : ℕ) (a : Asker) → n.asks k ≡ Some a → IsThere p a.phase → m.asks k ≡ Some a
  was k a is there = elim (asks k) [ inl s ↦ sym s ∙ is | inr b ↦ absurd (not_both p (n.asks k) a is b.1 there) ]

  lined_there : (a : Asker) → a.phase ≡ Lined p → IsThere p a.phase
  lined_there a e = subst (IsThere p) (sym e) refl

  held_there : (a : Asker) (id : ℕ) → a.phase ≡ Holding p id → IsThere p a.phase
  held_there a id e = subst (IsThere p) (sym e) refl

  at_id : (id : ℕ) → IdFits p names (seats_of l m.asks x.ids) id → IdFits p after (seats_of l n.asks x.ids) id
  at_id id (IsFree h w) = IsFree h w
  at_id id (IsHeld i k w y h wr rq nm is s) = IsHeld i k w y h wr rq (named i k s.ask nm s.is (held_there s.ask id s.phase)) is (record { ask = s.ask; is = still k s.ask s.is (held_there s.ask id s.phase); phase = s.phase; answered = s.answered })
  at_id id (WasGivenUp y h wr absent) = WasGivenUp y h wr (λ a e f. absent a (was y.request a e (held_there a id f)) f)

  seated : AreSeated p after (seats_of l n.asks x.ids)
  seated = record {
    at_id = λ id. at_id id (line.seated.at_id id);
    by_ticket = line.seated.by_ticket;
    queued = λ i w e. (let q = line.seated.queued i w e in (
      q.0,
      named i q.0 q.2.ask q.1 q.2.is (lined_there q.2.ask q.2.phase),
      record { number = q.2.number; ask = q.2.ask; is = still q.0 q.2.ask q.2.is (lined_there q.2.ask q.2.phase); phase = q.2.phase; request = q.2.request; octets = q.2.octets },
    ));
    lined = λ k a e f. (let o = was k a e (lined_there a f) in let z = line.seated.lined k a o f in (z.0, z.1, named z.0 k a z.2 o (lined_there a f), z.3));
    holding = λ k a id e f. (let o = was k a e (held_there a id f) in let z = line.seated.holding k a id o f in (z.0, z.1, named z.0 k a z.2 o (held_there a id f), z.3));
    apart = apart;
  }

  stage : StageFits c d l.idle_time l.stage x.mode → StageFits c e l.idle_time l.stage x.mode
  stage (IsNew f g) = IsNew f g
  stage (IsActive t since f g h) = IsActive t since f g (due t (ap timer_of f) ∙ h)
  stage (IsIdle t since f g h) = IsIdle t since f g (due t (ap timer_of f) ∙ h)

  pub line_stays : IsLineAt c p after l n x e next
  line_stays = record {
    conn = conns ∙ line.conn;
    seated = seated;
    fits = record {
      stage = stage line.fits.stage;
      writing = line.fits.writing;
      idle = line.fits.idle;
      timeout = line.fits.timeout;
      resting = line.fits.resting;
      order = line.fits.order;
      few = line.fits.few;
      ids = rises_below (λ (e : ℕ × ℕ). e.0) 0 ticket next l.ids later line.fits.ids;
      queue = rises_below (λ (e : ℕ × Queued Request Request). e.0) 0 ticket next l.queue later line.fits.queue;
    };
  }

pub link_stays : (c : Conf) (p : ℕ) (l : Link Request) (names after : ℕ → Option ℕ) (m n : Multi) (x : Conn) (frames : List Octets) (d e : ℕ → Option ℕ) (ticket next : ℕ) → IsLinkAt c p names l m x frames d ticket
    → n.conns p ≡ m.conns p → ((k : ℕ) → StaysThere p (m.asks k) (n.asks k)) → ((i k : ℕ) (a : Asker) → names i ≡ Some k → m.asks k ≡ Some a → IsThere p a.phase → after i ≡ Some k)
    → ((i j k : ℕ) → after i ≡ Some k → after j ≡ Some k → i ≡ j) → ((i : ℕ) → timer_of l.line.stage ≡ Some i → e i ≡ d i) → ticket ≤ next → IsLinkAt c p after l n x frames e next
link_stays c p l names after m n x frames d e ticket next link conns asks named apart due later = record {
  place = link.place;
  timeout = link.timeout;
  line = line_stays c p l.line names after m n x d e ticket next link.line conns asks named apart due later;
  settled = link.settled;
  keeps = link.keeps;
}
