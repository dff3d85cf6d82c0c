-- Requests are taken from the queue of a connection until one is being written.
use Rattle.std.proofs.Common.{◌≡◌, ℕ, inl, inr, Bool, true, false, List, [], ◌∷◌, ◌++◌, Option, Some, None, refl, sym, ap, subst, ◌∙◌, append-nil, append_assoc}
use Rattle.std.specs.Prelude.{if◌then◌else◌, option_and_then, is_some}
use Rattle.client_request.specs.Request.{Request}
use Rattle.client_request.specs.Requests.{for_one, for_several}
use Rattle.client_request.specs.View.{View}
use Rattle.client_request.specs.declared.board.Posted.{Posted}
use Rattle.client_request.specs.declared.event.Out.{Out}
use Rattle.client_stream.specs.Plain.{takes_queued, pumps}
use Rattle.client_settings.specs.Stream.{Settings}
use Rattle.client_stream.specs.declared.request.QueuedRequest.{QueuedRequest}
use Rattle.right_trace.specs.Time.{response_timeout}
use Rattle.proof_right.specs.machine.Part.{Post}
use Rattle.proof_right.specs.machine.Streams.{Conn, Multi}
use Rattle.proof_parts.specs.Chains.{still, then_act}
use Rattle.proof_parts.specs.PartTie.{Leads}
use Rattle.proof_parts.specs.Runs.{Runs, Rests}
use Rattle.proof_parts.specs.Connections.{dues, IsPostedTo, HasTaken, HasPumped}
use Rattle.proof_parts.specs.Lines.{SingleLine, WritingFits, IsLineAt}
use Rattle.proof_parts.specs.Lines as lines
use Rattle.proof_parts.specs.Sights.{IsFair}
use Rattle.proof_parts.proofs.Retiming.{timed_same, timed_then}
use Rattle.proof_parts.proofs.Running.{runs_then, beside_same, beside_then, failing_still, failing_both}
use Rattle.proof_parts.proofs.Taking.{TookOne, takes_one}
use Rattle.right_trace.specs.Trace.{Conf}

pub posted_first : (i : ℕ) (xs ys : List Posted) → IsPostedTo i xs → IsPostedTo i (xs ++ ys)
posted_first i [] ys f = absurd f
posted_first i (x ∷ xs) ys (inl e) = inl e
posted_first i (x ∷ xs) ys (inr f) = inr (posted_first i xs ys f)

pub posted_last : (i : ℕ) (xs ys : List Posted) → IsPostedTo i ys → IsPostedTo i (xs ++ ys)
posted_last i [] ys f = f
posted_last i (x ∷ xs) ys f = inr (posted_last i xs ys f)

module _ (c : Conf) (server p : ℕ) (names : ℕ → Option ℕ) where
  pub taken_nothing : (m : Multi) (x : Conn) (s : SingleLine) (v : View) → IsLineAt c p names s m x (dues v) v.ticket → IsFair v → HasTaken c server p names m x s v s v
  taken_nothing m x s v line fair = record {
    made = still v.place m;
    runs = Rests v.place m;
    nothing = refl;
    place = refl;
    outs = sym (append-nil v.outs);
    posts = [];
    put = sym (append-nil v.board);
    failing = tt;
    conn = x;
    line = line;
    heard = refl;
    got = refl;
    beside = beside_same p m;
    timed = timed_same s.stage v fair;
    ticket = refl;
    at_place = refl;
    more = refl;
    seats = λ i at. inl at;
  }

  pub taken_then : (m : Multi) (x : Conn) (s : SingleLine) (v : View) (t : SingleLine) (w : View) (r : SingleLine) (u : View) → IsFair v → (a : HasTaken c server p names m x s v t w) → HasTaken c server p names a.made.state a.conn t w r u → HasTaken c server p names m x s v r u
  taken_then m x s v t w r u fair a b = record {
    made = then_act a.made b.made;
    runs = runs_then c server v.now v.place m a.made b.made a.runs
        (subst (λ n. Runs c server n a.made.place a.made.state b.made) a.timed.on.now (subst (λ q. Runs c server w.now q a.made.state b.made) (a.at_place ∙ sym a.place) b.runs));
    nothing = ap (λ (xs : List Post). xs ++ b.made.posts) a.nothing ∙ b.nothing;
    place = b.place ∙ a.at_place;
    outs = b.outs ∙ (ap (λ (os : List Out). os ++ b.made.outs) a.outs ∙ append_assoc v.outs a.made.outs b.made.outs);
    posts = a.posts ++ b.posts;
    put = b.put ∙ (ap (λ (ps : List Posted). ps ++ b.posts) a.put ∙ append_assoc v.board a.posts b.posts);
    failing = failing_both names b.made.state.asks a.posts b.posts (failing_still p names a.made.state b.made.state a.posts b.beside a.failing) b.failing;
    conn = b.conn;
    line = b.line;
    heard = b.heard ∙ a.heard;
    got = b.got ∙ a.got;
    beside = beside_then p m a.made.state b.made.state a.beside b.beside;
    timed = timed_then s.stage t.stage r.stage v w u fair a.timed b.timed;
    ticket = b.ticket ∙ a.ticket;
    at_place = b.at_place ∙ a.at_place;
    more = b.more ∙ a.more;
    seats = λ i at. elim (a.seats i at) [
      | inl f ↦ elim (b.seats i f) [ inl g ↦ inl g | inr g ↦ inr (posted_last i a.posts b.posts g) ]
      | inr f ↦ inr (posted_first i a.posts b.posts f)
    ];
  }

module _ (c : Conf) (server p : ℕ) (settings : Settings) (set : settings.response_timeout ≡ response_timeout c) (names : ℕ → Option ℕ) where
  none_written : (o : Option (List ℕ)) (left : ℕ) → is_some o ≡ false → WritingFits o left → (o ≡ None) × (left ≡ 0)
  none_written o left e (lines.IsFree f g) = (f, g)
  none_written o left e (lines.IsWriting octets f g h) = absurd (let x = sym (ap is_some f) ∙ e in cc)

  abbrev Pumps : Multi → Conn → SingleLine → View → Option (SingleLine × View) → Type 0
  Pumps m x s v o = Leads (HasPumped c server p names m x s v) o

  leads_on : (P Q : SingleLine → View → Type 0) (f : SingleLine → View → Option (SingleLine × View)) (o : Option (SingleLine × View)) → Leads P o → ((t : SingleLine) (u : View) → P t u → Leads Q (f t u)) → Leads Q (option_and_then (λ y. f y.0 y.1) o)
  leads_on P Q f None l g = tt
  leads_on P Q f (Some y) l g = g y.0 y.1 l

  leads_as : (P Q : SingleLine → View → Type 0) (o : Option (SingleLine × View)) → Leads P o → ((t : SingleLine) (u : View) → P t u → Q t u) → Leads Q o
  leads_as P Q None l g = tt
  leads_as P Q (Some y) l g = g y.0 y.1 l

  pub pumps_so : (q : List (ℕ × QueuedRequest Request Request)) (m : Multi) (x : Conn) (s : SingleLine) (v : View) → IsLineAt c p names s m x (dues v) v.ticket → IsFair v → s.queue ≡ q → x.heard ≡ false → Pumps m x s v (pumps for_one for_several p settings q s v)
  pumps_so [] m x s v line fair queue heard = record { taken = taken_nothing c server p names m x s v line fair; settled = λ e. queue }
  pumps_so (e ∷ q) m x s v line fair queue heard = by (is_some s.writing) refl (pumps_so q)
    where
      by : (b : Bool) → is_some s.writing ≡ b
          → ((m : Multi) (x : Conn) (s : SingleLine) (v : View) → IsLineAt c p names s m x (dues v) v.ticket → IsFair v → s.queue ≡ q → x.heard ≡ false → Pumps m x s v (pumps for_one for_several p settings q s v))
          → Pumps m x s v (if b then Some (s, v) else option_and_then (λ y. pumps for_one for_several p settings q y.0 y.1) (takes_queued for_one for_several p settings e.0 e.1 (record s { queue = q }) v))
      by true f ih = record { taken = taken_nothing c server p names m x s v line fair; settled = λ g. absurd (let z = sym (ap is_some g) ∙ f in cc) }
      by false f ih =
          let none = none_written s.writing x.left f line.fits.writing in
          leads_on (TookOne c server p names m x s v q) (HasPumped c server p names m x s v) (λ t u. pumps for_one for_several p settings q t u) (takes_queued for_one for_several p settings e.0 e.1 (record s { queue = q }) v)
          (takes_one c server p settings set names m x s v e.0 e.1 q line fair queue none.0 none.1 heard)
          (λ t u took. leads_as (HasPumped c server p names took.taken.made.state took.taken.conn t u) (HasPumped c server p names m x s v) (pumps for_one for_several p settings q t u)
          (ih took.taken.made.state took.taken.conn t u took.taken.line took.taken.timed.on.fair took.queue (took.taken.heard ∙ heard))
          (λ r y pumped. record { taken = taken_then c server p names m x s v t u r y fair took.taken pumped.taken; settled = pumped.settled }))
