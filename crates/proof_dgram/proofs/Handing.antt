-- What is posted below is handed on.
use Rattle.std.proofs.Common.{◌≡◌, ℕ, false, List, [], ◌∷◌, ◌++◌, inl, inr, Option, Some, None, refl, sym, ap, subst, ◌∙◌, append-nil, append_assoc}
use Rattle.std.specs.Prelude.{option_and_then, option_map}
use Rattle.std.proofs.lemmas.Bool.{cases_eq}
use Rattle.client_request.specs.Numbered.{frees, entry_at}
use Rattle.client_request.specs.Request.{Request}
use Rattle.client_request.specs.declared.board.Posted.{Posted}
use Rattle.client_dgram.specs.Plain as dgram
use Rattle.client_multi.specs.Fallback.{Tables, lower_of, waiting_at, waiting_below, without_at, without_below, gives_at, gives, gives_all}
use Rattle.client_multi.specs.declared.dgram_stream.job.Job.{Job}
use Rattle.client_multi.specs.declared.dgram_stream.job.Job.TheVariants.{Dgram, Stream}
use Rattle.proof_right.specs.machine.Part.{Post}
use Rattle.right_trace.specs.Updates.{with_at}
use Rattle.proof_right.specs.machine.Dgrams.{Dgrams}
use Rattle.proof_parts.specs.Chains.{Gives}
use Rattle.proof_parts.proofs.Keys.{with_here, with_there, was_there}
use Rattle.proof_parts.proofs.Tables.{at_frees, sorted_frees}
use Rattle.proof_dgram.specs.Waiting.{WaitsBelow, AtDgrams, AtStreams, AreWaiting, number_in, numbers_of, AreGiven, ticket_at, StreamsGive}

-- one naming for another that says the same
pub gives_as : (m n left : ℕ → Option ℕ) (ps : List Posted) (xs : List Post) → ((i : ℕ) → m i ≡ n i) → Gives m ps xs left → Gives n ps xs left
gives_as m n left [] [] same g = λ t. g t ∙ same t
gives_as m n left [] (x ∷ xs) same g = absurd g
gives_as m n left (p ∷ ps) [] same g = absurd g
gives_as m n left (p ∷ ps) (x ∷ xs) same g = (sym (same p.ticket) ∙ g.0, g.1, gives_as (with_at p.ticket None m) (with_at p.ticket None n) left ps xs again g.2)
  where
    again : (i : ℕ) → with_at p.ticket None m i ≡ with_at p.ticket None n i
    again i = elim (cases_eq p.ticket i) [
      | inl e ↦ subst (λ i. with_at p.ticket None m i ≡ with_at p.ticket None n i) e (with_here p.ticket None m ∙ sym (with_here p.ticket None n))
      | inr ne ↦ with_there p.ticket None m i ne ∙ (same i ∙ sym (with_there p.ticket None n i ne))
    ]

module _ {Q : Type 0} (ticket_of : Q → ℕ) (s : Tables Request dgram.Asked Q) (d : Dgrams) (by_dgram by_stream : ℕ → Option ℕ) (ticket : ℕ) (f : AreWaiting ticket_of s d by_dgram by_stream ticket) where
  -- without the job of ticket t, which has this ticket below
  abbrev pub without : (t lower : ℕ) → Tables Request dgram.Asked Q
  without t lower = record { jobs = frees t s.jobs; tickets = frees lower s.tickets }

  was_job : (t u : ℕ) (job : Job Request dgram.Asked Q) → entry_at u (frees t s.jobs) ≡ Some job → (t ≡ u → ⊥) × (entry_at u s.jobs ≡ Some job)
  was_job t u job e = was_there t (λ u. entry_at u s.jobs) u job (sym (at_frees t u 0 ticket s.jobs f.jobs_order) ∙ e)

  still_job : (t u : ℕ) → (t ≡ u → ⊥) → entry_at u (frees t s.jobs) ≡ entry_at u s.jobs
  still_job t u ne = at_frees t u 0 ticket s.jobs f.jobs_order ∙ with_there t None (λ u. entry_at u s.jobs) u ne

  still_ticket : (lower i : ℕ) → (lower ≡ i → ⊥) → entry_at i (frees lower s.tickets) ≡ entry_at i s.tickets
  still_ticket lower i ne = at_frees lower i 0 ticket s.tickets f.tickets_order ∙ with_there lower None (λ i. entry_at i s.tickets) i ne

  -- tickets below are of one job each
  other_lower : (t u : ℕ) (job other : Job Request dgram.Asked Q) → entry_at t s.jobs ≡ Some job → entry_at u s.jobs ≡ Some other → (t ≡ u → ⊥) → lower_of job ≡ lower_of other → ⊥
  other_lower t u job other a b ne same = ne (let z : Some t ≡ Some u = sym (f.below t job a) ∙ (ap (λ i. entry_at i s.tickets) same ∙ f.below u other b) in cc)

  -- The request of a ticket at the streams has its result.
  module _ (t lower k : ℕ) (x : Q) (is : entry_at t s.jobs ≡ Some (Stream lower x)) (named : by_stream lower ≡ Some k) where
    abbrev left : ℕ → Option ℕ
    left = with_at lower None by_stream

    unlike : (u : ℕ) (job : Job Request dgram.Asked Q) → (t ≡ u → ⊥) → entry_at u s.jobs ≡ Some job → lower ≡ lower_of job → ⊥
    unlike u job ne e same = other_lower t u (Stream lower x) job is e ne same

    waits_on : (job : Job Request dgram.Asked Q) → (lower ≡ lower_of job → ⊥) → WaitsBelow ticket_of d by_dgram by_stream job → WaitsBelow ticket_of d by_dgram left job
    waits_on _ ne (AtDgrams i l r y a n at held same) = AtDgrams i l r y a n at held same
    waits_on _ ne (AtStreams i l y n at) = AtStreams i l y (with_there lower None by_stream i ne ∙ n) at

    pub streams_less : AreWaiting ticket_of (without t lower) d by_dgram left ticket
    streams_less = record {
      waits = λ u job e. (let w = was_job t u job e in waits_on job (unlike u job w.0 w.1) (f.waits u job w.1));
      below = λ u job e. (let w = was_job t u job e in still_ticket lower (lower_of job) (unlike u job w.0 w.1) ∙ f.below u job w.1);
      tickets = λ i u e. (let w = was_there lower (λ i. entry_at i s.tickets) i u (sym (at_frees lower i 0 ticket s.tickets f.tickets_order) ∙ e) in let g = f.tickets i u w.1 in (g.0, still_job t u (λ same. w.0 (let z : Some (Stream lower x) ≡ Some g.0 = sym is ∙ (ap (λ u. entry_at u s.jobs) same ∙ g.1) in let y : Stream lower x ≡ g.0 = cc in ap lower_of y ∙ g.2)) ∙ g.1, g.2));
      dgrams = λ i l n. (let g = f.dgrams i l n in (g.0, g.1, g.2, still_job t g.0 (λ same. (let z : Some (Stream lower x) ≡ Some (Dgram i l g.1 g.2) = sym is ∙ (ap (λ u. entry_at u s.jobs) same ∙ g.3) in cc)) ∙ g.3));
      streams = λ i l n. (let w = was_there lower by_stream i l n in let g = f.streams i l w.1 in (g.0, g.1, still_job t g.0 (λ same. w.0 (let z : Some (Stream lower x) ≡ Some (Stream i g.1) = sym is ∙ (ap (λ u. entry_at u s.jobs) same ∙ g.2) in cc)) ∙ g.2));
      jobs_order = sorted_frees t 0 ticket s.jobs f.jobs_order;
      tickets_order = sorted_frees lower 0 ticket s.tickets f.tickets_order;
    }

    pub numbers_less : (u : ℕ) → numbers_of (without t lower) left u ≡ with_at t None (numbers_of s by_stream) u
    numbers_less u = elim (cases_eq t u) [
      | inl e ↦ subst (λ u. numbers_of (without t lower) left u ≡ with_at t None (numbers_of s by_stream) u) e (ap (λ o. option_and_then (number_in left) o) (at_frees t t 0 ticket s.jobs f.jobs_order ∙ with_here t None (λ u. entry_at u s.jobs)) ∙ sym (with_here t None (numbers_of s by_stream)))
      | inr ne ↦ ap (λ o. option_and_then (number_in left) o) (still_job t u ne) ∙ (go (entry_at u s.jobs) refl ne ∙ sym (with_there t None (numbers_of s by_stream) u ne))
    ]
      where
        one : (job : Job Request dgram.Asked Q) → (lower ≡ lower_of job → ⊥) → number_in left job ≡ number_in by_stream job
        one (Dgram i l r y) ne = refl
        one (Stream i y) ne = with_there lower None by_stream i ne

        go : (o : Option (Job Request dgram.Asked Q)) → entry_at u s.jobs ≡ o → (t ≡ u → ⊥) → option_and_then (number_in left) o ≡ option_and_then (number_in by_stream) o
        go None e ne = refl
        go (Some job) e ne = one job (unlike u job ne e)

    pub numbered : numbers_of s by_stream t ≡ Some k
    numbered = ap (λ o. option_and_then (number_in by_stream) o) is ∙ named

    -- it is found by its ticket below
    found : (p : Posted) → p.ticket ≡ lower → (board : List Posted) → gives p s board ≡ (without t lower, board ++ record { ticket = t; part = p.part; is_stale = false } ∷ [])
    found p same board = subst (λ i. gives_at p.part (without_below i s) board (waiting_below i s) ≡ (without t lower, board ++ record { ticket = t; part = p.part; is_stale = false } ∷ [])) (sym same) (ap (λ o. gives_at p.part (without_at o (record s { tickets = frees lower s.tickets })) board (waiting_at s o)) (f.below t (Stream lower x) is) ∙ ap (λ o. gives_at p.part (without t lower) board (option_map (λ job. (t, job)) o)) is)

-- all of them, one after another
module _ {Q : Type 0} (ticket_of : Q → ℕ) (d : Dgrams) (by_dgram left : ℕ → Option ℕ) (ticket : ℕ) where
  abbrev Given : Tables Request dgram.Asked Q → (ℕ → Option ℕ) → List Posted → List Post → Tables Request dgram.Asked Q × List Posted → Type 0
  Given s by_stream board xs x = AreGiven ticket_of s d by_dgram by_stream left ticket board xs x.0 x.1

  left_as : (s : Tables Request dgram.Asked Q) (by_stream : ℕ → Option ℕ) → AreWaiting ticket_of s d by_dgram by_stream ticket → ((i : ℕ) → left i ≡ by_stream i) → AreWaiting ticket_of s d by_dgram left ticket
  left_as s by_stream f same = record {
    waits = λ t job e. on job (f.waits t job e);
    below = f.below;
    tickets = f.tickets;
    dgrams = f.dgrams;
    streams = λ i k n. f.streams i k (sym (same i) ∙ n);
    jobs_order = f.jobs_order;
    tickets_order = f.tickets_order;
  }
    where
      on : (job : Job Request dgram.Asked Q) → WaitsBelow ticket_of d by_dgram by_stream job → WaitsBelow ticket_of d by_dgram left job
      on _ (AtDgrams i l r y a n at held is) = AtDgrams i l r y a n at held is
      on _ (AtStreams i l y n at) = AtStreams i l y (same i ∙ n) at

  numbers_as : (s : Tables Request dgram.Asked Q) (by_stream : ℕ → Option ℕ) → ((i : ℕ) → left i ≡ by_stream i) → (t : ℕ) → numbers_of s left t ≡ numbers_of s by_stream t
  numbers_as s by_stream same t = go (entry_at t s.jobs)
    where
      go : (o : Option (Job Request dgram.Asked Q)) → option_and_then (number_in left) o ≡ option_and_then (number_in by_stream) o
      go None = refl
      go (Some (Dgram i l r y)) = refl
      go (Some (Stream i y)) = same i

  all_given : (posts : List Posted) (s : Tables Request dgram.Asked Q) (by_stream : ℕ → Option ℕ) (board : List Posted) (xs : List Post) → AreWaiting ticket_of s d by_dgram by_stream ticket → Gives by_stream posts xs left → Given s by_stream board xs (gives_all posts s board)
  all_given [] s by_stream board [] f g = record { posted = []; put = sym (append-nil board); gives = numbers_as s by_stream g; waiting = left_as s by_stream f g }
  all_given [] s by_stream board (x ∷ xs) f g = absurd g
  all_given (p ∷ ps) s by_stream board [] f g = absurd g
  all_given (p ∷ ps) s by_stream board (x ∷ xs) f g =
      let y = f.streams p.ticket x.request g.0 in
      let t = y.0 in
      let s1 : Tables Request dgram.Asked Q = record { jobs = frees t s.jobs; tickets = frees p.ticket s.tickets } in
      let less = streams_less ticket_of s d by_dgram by_stream ticket f t p.ticket x.request (y.1) y.2 g.0 in
      let board1 = board ++ record { ticket = t; part = p.part; is_stale = false } ∷ [] in
      let rest = all_given ps s1 (with_at p.ticket None by_stream) board1 xs less g.2 in
      subst (λ z. Given s by_stream board (x ∷ xs) (gives_all ps z.0 z.1)) (sym (found ticket_of s d by_dgram by_stream ticket f t p.ticket x.request (y.1) y.2 g.0 p refl board)) (record {
        posted = record { ticket = t; part = p.part; is_stale = false } ∷ rest.posted;
        put = rest.put ∙ append_assoc board (record { ticket = t; part = p.part; is_stale = false } ∷ []) rest.posted;
        gives = (numbered ticket_of s d by_dgram by_stream ticket f t p.ticket x.request (y.1) y.2 g.0, g.1, gives_as (numbers_of s1 (with_at p.ticket None by_stream)) (with_at t None (numbers_of s by_stream)) _ rest.posted xs (numbers_less ticket_of s d by_dgram by_stream ticket f t p.ticket x.request (y.1) y.2 g.0) rest.gives);
        waiting = rest.waiting;
      })

pub streams_give : StreamsGive
streams_give s d by_dgram by_stream left ticket posts board xs f g = all_given ticket_at d by_dgram left ticket posts s by_stream board xs f g
