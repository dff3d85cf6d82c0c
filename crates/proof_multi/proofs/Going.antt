-- What a call within reconnection leaves: no result is given in it.
use Rattle.std.proofs.Common.{◌≡◌, ℕ, suc, ◌<◌, ◌≤◌, ◌⊎◌, inl, inr, List, [], ◌∷◌, ◌++◌, Option, Some, None, refl, sym, ap, subst, ◌∙◌, arith, le_trans, append-nil, append_assoc}
use Rattle.std.specs.Prelude.{option_and_then}
use Rattle.client_request.specs.Numbered.{frees, entry_at}
use Rattle.client_request.specs.Request.{Request}
use Rattle.client_request.specs.View.{View}
use Rattle.client_request.specs.declared.event.Out.{Out}
use Rattle.client_multi.specs.MultiStream.{at_ticket, each, with_job}
use Rattle.client_multi.specs.declared.multi_stream.job.Job.{Job}
use Rattle.client_multi.specs.declared.multi_stream.job.Stage.TheVariants.{Waiting}
use Rattle.right_trace.specs.Messages.{Octets}
use Rattle.proof_right.specs.machine.Part.{Act, Post}
use Rattle.proof_right.specs.machine.Streams.{Phase, Multi}
use Rattle.proof_parts.specs.Chains.{still, then_act}
use Rattle.proof_parts.specs.Connections.{dues}
use Rattle.proof_parts.specs.PartTie.{Leads, GoesOn}
use Rattle.proof_parts.specs.Runs.{Runs, Rests}
use Rattle.proof_parts.specs.Sights.{sight, IsFair}
use Rattle.proof_parts.proofs.GoingOn.{goes_nowhere, goes_then, none_next}
use Rattle.proof_parts.proofs.Running.{runs_then}
use Rattle.proof_parts.proofs.Tables.{sorted_frees, present_below}
use Rattle.proof_multi.specs.Servers.{Desk, Server, desk_of, numbers, UnderWay, nothing_under_way, IsListed, IsServer, AreOrderly, NoneHeard, Owns, Stands}
use Rattle.proof_multi.proofs.Desks.{desk_with, taken_out}
use Rattle.proof_multi.proofs.Opening.{all_as}
use Rattle.proof_multi.proofs.Waitings.{Rises, listed_from}
use Rattle.right_trace.specs.Trace.{Conf}

pub record Went (c : Conf) (server : ℕ) (frames : ℕ → List Octets) (z : UnderWay) (d : Desk) (m : Multi) (v : View) (t : Server) (w : View) : Type 0 where
  pub made : Act Multi
  pub runs : Runs c server v.now v.place m made
  pub posts : made.posts ≡ []
  pub outs : w.outs ≡ v.outs ++ made.outs
  pub place : w.place ≡ made.place
  pub board : w.board ≡ v.board
  pub more : w.more ≡ v.more
  pub stands : Stands c z (desk_of t) t made.state frames w
  pub on : GoesOn v w
  pub owned : (i : ℕ) → Owns (desk_of t) i → Owns d i ⊎ (v.timers.next ≤ i)
  pub others : (i due : ℕ) → (Owns d i → ⊥) → dues v i ≡ Some due → dues w i ≡ Some due
  pub named : (u : ℕ) → numbers (desk_of t) u ≡ numbers d u
  pub quiet : NoneHeard m → NoneHeard made.state

-- a job that waits
abbrev pub waits_now : Job Request → Job Request
waits_now job = record job { stage = Waiting }

pub leads_on : (P Q : Server → View → Type 0) (f : Server → View → Option (Server × View)) (o : Option (Server × View)) → Leads P o → ((t : Server) (u : View) → P t u → Leads Q (f t u)) → Leads Q (option_and_then (λ y. f y.0 y.1) o)
leads_on P Q f None l g = tt
leads_on P Q f (Some y) l g = g y.0 y.1 l

pub leads_as : (P Q : Server → View → Type 0) (o : Option (Server × View)) → Leads P o → ((t : Server) (u : View) → P t u → Q t u) → Leads Q o
leads_as P Q None l g = tt
leads_as P Q (Some y) l g = g y.0 y.1 l

module _ (c : Conf) (server : ℕ) (frames : ℕ → List Octets) where
  -- nothing was done
  pub went_nowhere : (z : UnderWay) (s : Server) (m : Multi) (v : View) → Stands c z (desk_of s) s m frames v → Went c server frames z (desk_of s) m v s v
  went_nowhere z s m v st = record {
    made = still v.place m;
    runs = Rests v.place m;
    posts = refl;
    outs = sym (append-nil v.outs);
    place = refl;
    board = refl;
    more = refl;
    stands = st;
    on = goes_nowhere v st.fair;
    owned = λ i o. inl o;
    others = λ i due n e. e;
    named = λ u. refl;
    quiet = λ q. q;
  }

  pub went_then : (y z : UnderWay) (d : Desk) (m : Multi) (v : View) (t : Server) (w : View) (r : Server) (u : View) → IsFair v → (a : Went c server frames y d m v t w) → Went c server frames z (desk_of t) a.made.state w r u → Went c server frames z d m v r u
  went_then y z d m v t w r u fair a b = record {
    made = then_act a.made b.made;
    runs = runs_then c server v.now v.place m a.made b.made a.runs
        (subst (λ n. Runs c server n a.made.place a.made.state b.made) a.on.now (subst (λ q. Runs c server w.now q a.made.state b.made) a.place b.runs));
    posts = ap (λ (xs : List Post). xs ++ b.made.posts) a.posts ∙ b.posts;
    outs = b.outs ∙ (ap (λ (os : List Out). os ++ b.made.outs) a.outs ∙ append_assoc v.outs a.made.outs b.made.outs);
    place = b.place;
    board = b.board ∙ a.board;
    more = b.more ∙ a.more;
    stands = b.stands;
    on = goes_then v w u a.on b.on;
    owned = λ i o. elim (b.owned i o) [ inl p ↦ a.owned i p | inr le ↦ inr (le_trans a.on.timer le) ];
    others = λ i due n e. b.others i due (λ o. elim (a.owned i o) [ inl p ↦ n p | inr le ↦ (let none = none_next v i fair le in let z : None ≡ Some due = sym none ∙ e in cc) ]) (a.others i due n e);
    named = λ x. b.named x ∙ a.named x;
    quiet = λ q. b.quiet (a.quiet q);
  }

  -- A job is taken out of its table

  abbrev pub less : ℕ → Server → Server
  less t s = record s { jobs = frees t s.jobs }

  pub order_less : (t : ℕ) (s : Server) (v : View) → AreOrderly s (sight v) → AreOrderly (less t s) (sight v)
  order_less t s v o = record { jobs = sorted_frees t 0 v.ticket s.jobs o.jobs; timers = o.timers; inner = o.inner; waiting = o.waiting; connections = o.connections; watches = o.watches; opening = o.opening }

  pub in_hand : (z : UnderWay) (t : ℕ) (job : Job Request) (s : Server) (m : Multi) (v : View) → Stands c z (desk_of s) s m frames v → entry_at t s.jobs ≡ Some job → Stands c z (desk_with t job (less t s)) (less t s) m frames v
  in_hand z t job s m v st is = record {
    server = subst (λ d. IsServer c z d m frames (dues v) v.ticket) (taken_out t job s 0 v.ticket st.order.jobs is) st.server;
    order = order_less t s v st.order;
    fair = st.fair;
  }

  -- Each of several that are to be handed on, or to back off

  -- what goes on with one of them
  abbrev pub GoesOnAs : (to : Phase) → (ℕ → Job Request → Server → View → Option (Server × View)) → Type 0
  GoesOnAs to f = (t : ℕ) (job : Job Request) (ts : List ℕ) (s : Server) (m : Multi) (v : View) → Stands c (record { todo = all_as to (t ∷ ts); failed = [] }) (desk_with t (waits_now job) s) s m frames v → t < v.ticket → (IsListed t ts → ⊥) → NoneHeard m
      → Leads (Went c server frames (record { todo = all_as to ts; failed = [] }) (desk_with t (waits_now job) s) m v) (f t job s v)

  not_twice : (t hi : ℕ) (ts : List ℕ) → Rises (suc t) hi ts → IsListed t ts → ⊥
  not_twice t hi ts r l = absurd (too_low t (listed_from t (suc t) hi ts r l))
    where
      too_low : (t : ℕ) → suc t ≤ t → ⊥
      too_low t le = omega arith

  pub each_goes : (to : Phase) (f : ℕ → Job Request → Server → View → Option (Server × View)) → GoesOnAs to f → (ts : List ℕ) (lo hi : ℕ) → Rises lo hi ts → (s : Server) (m : Multi) (v : View) → Stands c (record { todo = all_as to ts; failed = [] }) (desk_of s) s m frames v → NoneHeard m
      → Leads (Went c server frames nothing_under_way (desk_of s) m v) (each f ts s v)
  each_goes to f goes [] lo hi r s m v st quiet = went_nowhere nothing_under_way s m v st
  each_goes to f goes (t ∷ ts) lo hi r s m v st quiet =
      let o = st.server.tables.todo t to (inl (refl, refl)) in
      let is : desk_of s ≡ desk_with t o.0 (less t s) = taken_out t o.0 s 0 v.ticket st.order.jobs o.2 in
      let same : o.0 ≡ waits_now o.0 = ap (λ at. record o.0 { stage = at }) o.3 in
      let hand : Stands c (record { todo = all_as to (t ∷ ts); failed = [] }) (desk_with t (waits_now o.0) (less t s)) (less t s) m frames v
      = subst (λ job. Stands c (record { todo = all_as to (t ∷ ts); failed = [] }) (desk_with t job (less t s)) (less t s) m frames v) same (in_hand (record { todo = all_as to (t ∷ ts); failed = [] }) t o.0 s m v st o.2) in
      leads_on (Went c server frames (record { todo = all_as to ts; failed = [] }) (desk_of s) m v) (Went c server frames nothing_under_way (desk_of s) m v) (λ r u. each f ts r u) (at_ticket f t s v)
      (subst (λ (x : Option (Job Request)). Leads (Went c server frames (record { todo = all_as to ts; failed = [] }) (desk_of s) m v) (with_job f t s v x)) (sym o.2)
      (subst (λ d. Leads (Went c server frames (record { todo = all_as to ts; failed = [] }) d m v) (f t o.0 (less t s) v)) (sym (is ∙ ap (λ job. desk_with t job (less t s)) same))
      (goes t o.0 ts (less t s) m v hand (present_below t 0 v.ticket o.0 s.jobs st.order.jobs o.2) (not_twice t hi ts r.2) quiet)))
      (λ r1 u a. leads_as (Went c server frames nothing_under_way (desk_of r1) a.made.state u) (Went c server frames nothing_under_way (desk_of s) m v) (each f ts r1 u) (each_goes to f goes ts (suc t) hi r.2 r1 a.made.state u a.stands (a.quiet quiet)) (λ r2 u2 b. went_then (record { todo = all_as to ts; failed = [] }) nothing_under_way (desk_of s) m v r1 u r2 u2 st.fair a b))
