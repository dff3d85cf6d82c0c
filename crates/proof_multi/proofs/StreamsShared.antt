-- Reconnection leaves alone what is not its own.
use Rattle.std.proofs.Common.{◌≡◌, ℕ, ◌⊎◌, inl, inr, Bool, true, false, ◌==◌, List, [], ◌∷◌, Option, Some, None, cond, is_eq, nat_cmp, refl, sym, ap, subst, ◌∙◌, arith}
use Rattle.std.proofs.lemmas.Bool.Decides.{nat_tests}
use Rattle.client_request.specs.Carries.{IsOfOctets}
use Rattle.client_request.specs.Numbered.{entry_at}
use Rattle.client_request.specs.Request.{Request}
use Rattle.client_request.specs.Requests.{for_one}
use Rattle.client_request.specs.View.{View}
use Rattle.client_request.specs.declared.event.What.{What}
use Rattle.client_stream.specs.Plain.{Asked}
use Rattle.client_multi.specs.Links.{Link, one_stream}
use Rattle.client_multi.specs.MultiStream.{with_tables, with_job, drops_job, leaves, calls}
use Rattle.client_multi.specs.declared.multi_stream.job.Job.{Job}
use Rattle.client_multi.specs.declared.multi_stream.job.Stage.{Stage}
use Rattle.client_multi.specs.declared.multi_stream.job.Stage.TheVariants.{Waiting, Resting, Held}
use Rattle.right_trace.specs.Messages.{Octets}
use Rattle.right_trace.specs.Trace.{Conf}
use Rattle.proof_right.specs.machine.Served.{Served, holds}
use Rattle.proof_parts.specs.Connections.{timer_of}
use Rattle.proof_parts.specs.PartTie.{Phase, Untold, Told, Passed, IsOpen, Leads, place_in}
use Rattle.proof_parts.specs.Places.{has_place}
use Rattle.proof_parts.specs.Sights.{sight, IsFair}
use Rattle.proof_multi.specs.Servers.{Server}
use Rattle.proof_multi.specs.Tied.{Streams, by_streams, IsUntold, TiedAs, frames_at, owns, StreamsAreShared}
use Rattle.proof_multi.proofs.Fields.{stream_of, frames_none, apart_foreign}
use Rattle.proof_multi.proofs.Staying.{passes_by, others_fire, nothing_read}
use Rattle.proof_multi.proofs.Tying.{posts_none}

-- Whose a timer is

abbrev IsKey : ℕ → List (ℕ × Link Request) → Type 0
IsKey p [] = ⊥
IsKey p (e ∷ es) = (e.0 ≡ p) ⊎ IsKey p es

either : (a b : ℕ) → (a ≡ b) ⊎ (a ≡ b → ⊥)
either a b = by (a == b) refl
  where
    same : (a b : ℕ) → (a == b) ≡ true → a ≡ b
    same a b e = grind (arith, nat_tests)

    other : (a b : ℕ) → (a == b) ≡ false → a ≡ b → ⊥
    other a b e f = grind (arith, nat_tests)

    by : (t : Bool) → (a == b) ≡ t → (a ≡ b) ⊎ (a ≡ b → ⊥)
    by true e = inl (same a b e)
    by false e = inr (other a b e)

is_some_of : (i : ℕ) (o : Option ℕ) → (o ≡ Some i) ⊎ (o ≡ Some i → ⊥)
is_some_of i None = inr (λ e. cc)
is_some_of i (Some j) = elim (either j i) [ inl e ↦ inl (ap Some e) | inr ne ↦ inr (λ e. ne (let z : j ≡ i = cc in z)) ]

is_any : (o : Option ℕ) → ((t : ℕ) × (o ≡ Some t)) ⊎ ((t : ℕ) → o ≡ Some t → ⊥)
is_any None = inr (λ t e. cc)
is_any (Some t) = inl (t, refl)

-- the timer of a connection
abbrev IsTimerAt : (i : ℕ) → Option (Link Request) → Type 0
IsTimerAt i o = (l : Link Request) × (o ≡ Some l) × (timer_of l.line.stage ≡ Some i)

timer_at_place : (i : ℕ) (o : Option (Link Request)) → IsTimerAt i o ⊎ (IsTimerAt i o → ⊥)
timer_at_place i None = inr (λ t. (let z = t.1 in cc))
timer_at_place i (Some l) = elim (is_some_of i (timer_of l.line.stage)) [
  | inl own ↦ inl (l, refl, own)
  | inr none ↦ inr (λ t. none (ap (λ (l : Link Request). timer_of l.line.stage) (let z : Some l ≡ Some t.0 = t.1 in let y : l ≡ t.0 = cc in y) ∙ t.2))
]

is_key : (p : ℕ) (l : Link Request) (es : List (ℕ × Link Request)) → entry_at p es ≡ Some l → IsKey p es
is_key p l [] e = absurd (let z : None ≡ Some l = e in cc)
is_key p l (x ∷ es) e = elim (either x.0 p) [ inl same ↦ inl same | inr ne ↦ inr (is_key p l es (behind p x.0 x.1 (entry_at p es) l ne e)) ]
  where
    behind : (q x : ℕ) (y : Link Request) (o : Option (Link Request)) (l : Link Request) → (x ≡ q → ⊥) → cond (is_eq (nat_cmp q x)) (Some y) o ≡ Some l → o ≡ Some l
    behind q x y o l ne e = grind (arith, nat_tests)

-- one of the connections at these places has it, or none has
timer_among : (i : ℕ) (all es : List (ℕ × Link Request)) → ((p : ℕ) × IsTimerAt i (entry_at p all)) ⊎ ((p : ℕ) → IsKey p es → IsTimerAt i (entry_at p all) → ⊥)
timer_among i all [] = inr (λ p k t. k)
timer_among i all (e ∷ es) = elim (timer_at_place i (entry_at e.0 all)) [
  | inl own ↦ inl (e.0, own)
  | inr none ↦ elim (timer_among i all es) [
    | inl own ↦ inl own
    | inr rest ↦ inr (λ p k t. elim k [ inl same ↦ none (subst (λ p. IsTimerAt i (entry_at p all)) (sym same) t) | inr there ↦ rest p there t ])
  ]
]

knows_timer : (u : Streams) (i : ℕ) → owns u i ⊎ (owns u i → ⊥)
knows_timer u i = elim (is_any (entry_at i u.tables.timers)) [
  | inl own ↦ inl (inl own)
  | inr none ↦ elim (timer_among i u.tables.connections u.tables.connections) [
    | inl own ↦ inl (inr (own.0, own.1.0, own.1.1, own.1.2))
    | inr free ↦ inr (λ o. elim o [ inl own ↦ none own.0 own.1 | inr own ↦ free own.0 (is_key own.0 own.1 u.tables.connections own.2) (own.1, own.2, own.3) ])
  ]
]

-- A request is given up, and no frame is told of

abbrev more_or : Bool → Option (Streams × View) → Bool
more_or b None = b
more_or b (Some y) = (y.1).more

gives_up_still : (u : Streams) (v : View) (r : Asked) → more_or v.more (by_streams.cancel r u v) ≡ v.more
gives_up_still u v r = by (entry_at r.ticket u.tables.jobs)
  where
    at_place : (p : ℕ) (i : Asked) (s : Server) (w : View) (o : Option (Link Request)) → w.more ≡ v.more → more_or v.more (with_tables u (calls (one_stream for_one) p ((one_stream for_one).calls.cancel i) s w o)) ≡ v.more
    at_place p i s w None e = e
    at_place p i s w (Some l) e = e

    left : (t : ℕ) (at : Stage) (s : Server) (w : View) → w.more ≡ v.more → more_or v.more (with_tables u (leaves (one_stream for_one) t at s w)) ≡ v.more
    left t Waiting s w e = e
    left t (Resting timer) s w e = e
    left t (Held p i) s w e = at_place p i _ w (entry_at p s.connections) e

    by : (o : Option (Job Request)) → more_or v.more (with_tables u (with_job (drops_job (one_stream for_one)) r.ticket u.tables v o)) ≡ v.more
    by None = refl
    by (Some job) = left r.ticket job.stage _ _ refl

-- what is left is what was said
left_is : (Q : Streams → View → Type 0) (o : Option (Streams × View)) (w : Streams) (x : View) → Leads Q o → o ≡ Some (w, x) → Q w x
left_is Q o w x l e = subst (Leads Q) e l

module _ (c : Conf) (s : ℕ) where
  -- the phases in which a request may be taken on
  before_of : (phase : Phase) (next : ℕ) (u : Streams) (v : View) (a : Served) → IsOpen phase next → TiedAs c s phase u (sight v) a → (w : What) × IsUntold c s w u (sight v) a
  before_of (Untold w) next u v a calm t = (w, t)
  before_of (Told p n) next u v a calm t = absurd calm
  before_of (Passed w) next u v a calm t = (w, t.untold)

  sent : (phase : Phase) (u : Streams) (v : View) (a : Served) (r : Request) (w : Streams) (x : View) → IsOpen phase v.place → TiedAs c s phase u (sight v) a → IsFair v → IsOfOctets r → holds a v.request ≡ false
      → by_streams.send r u v ≡ Some (w, x) → (x.board ≡ v.board) × (x.more ≡ v.more)
  sent phase u v a r w x calm t fair octets free e = (let b = before_of phase v.place u v a calm t in
      left_is (λ x y. (y.board ≡ v.board) × (y.more ≡ v.more)) (by_streams.send r u v) w x (posts_none c s u v a b.0 r b.1 fair octets free) e)

-- an event of one place
one_place : (w : What) (p : ℕ) (a : Served) → place_in w ≡ Some p → has_place a p ≡ false → (q : ℕ) → place_in w ≡ Some q → has_place a q ≡ false
one_place w p a at none q also = subst (λ q. has_place a q ≡ false) (let z : Some p ≡ Some q = sym at ∙ also in let y : p ≡ q = cc in y) none

pub streams_are_shared : StreamsAreShared
streams_are_shared c s = record {
  knows = λ u i. knows_timer u i;
  timers = λ phase u v a i t free. others_fire c s u (sight v) a (stream_of c s phase u (sight v) a t) v i free;
  ignores = λ u v a w p t at none. passes_by c s u (sight v) a t.stream w v (apart_foreign c s w a (one_place w p a at none));
  passes = λ u x a w p t at none early. record { untold = t; early = early; apart = one_place w p a at none };
  frames = λ u v a w p t at. nothing_read c s u (sight v) a t.untold.stream v p (ap (λ (fs : List Octets). frames_at a.place fs p) t.untold.frames ∙ frames_none c s a.place p);
  alone = λ phase u v a r w x calm t fair octets free e. inl (sent c s phase u v a r w x calm t fair octets free e).0;
  says_none = λ phase u v a r w x calm t fair octets free e. (sent c s phase u v a r w x calm t fair octets free e).1;
  keeps_more = λ phase u v a r w x calm t e. sym (ap (more_or v.more) e) ∙ gives_up_still u v r;
}
