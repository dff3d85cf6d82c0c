-- From the tables to the part of the client: moves of the streams are moves of the server, and what a call leaves is tied again.
use Rattle.std.proofs.Common.{◌≡◌, ℕ, ◌≤◌, ◌⊎◌, List, [], ◌∷◌, ◌++◌, Option, Some, None, refl, sym, subst, ◌∙◌, append-nil, append_assoc}
use Rattle.client_request.specs.View.{View}
use Rattle.client_request.specs.declared.board.Posted.{Posted}
use Rattle.client_multi.specs.MultiStream.{with_tables}
use Rattle.right_trace.specs.Messages.{Octets}
use Rattle.right_trace.specs.Trace.{Conf}
use Rattle.proof_right.specs.machine.Part.{Act, Post}
use Rattle.proof_right.specs.machine.Served.{Served, served, ByStream, has_moved, does, place_after}
use Rattle.proof_right.specs.machine.Streams as multi
use Rattle.proof_right.specs.machine.Streams.{Multi}
use Rattle.proof_parts.specs.Chains.{Chain, Stays, Goes, Gives, still, then_act}
use Rattle.proof_parts.specs.Connections.{dues}
use Rattle.proof_parts.specs.PartTie.{Phase, Leads, Leaves, GoesOn}
use Rattle.proof_parts.specs.Runs.{Runs, Rests, Runs_on}
use Rattle.proof_parts.specs.Sights.{Sight, sight}
use Rattle.proof_multi.specs.Servers.{Desk, Server, desk_of, numbers, nothing_under_way, NoneHeard, Owns, Stands}
use Rattle.proof_multi.specs.Tied.{Streams, IsStream, frames_at, TiedAs, names_of, owns}
use Rattle.proof_multi.proofs.Going.{Went}

-- the streams of a server moved
abbrev pub stream_moved : Multi → Served → Served
stream_moved m a = has_moved (record a.server { by_stream = m }) a

abbrev pub lift : Served → Act Multi → Act Served
lift a made = record { state = stream_moved made.state a; place = made.place; outs = made.outs; posts = made.posts }

module _ (c : Conf) (s : ℕ) where
  pub runs_chain : (n place : ℕ) (m : Multi) (made : Act Multi) → Runs c s n place m made → (a : Served) → a.clock ≡ n → a.server.by_stream ≡ m → Chain (served c) s place a (lift a made)
  runs_chain n _ _ _ (Rests place m) a clock is = subst (λ m. Chain (served c) s place a (lift a (still place m))) is (Stays place a)
  runs_chain n _ _ _ (Runs_on place m x k e move rest) a clock is =
      Goes place a (does (stream_moved k a) place x) (lift (stream_moved k a) e) (ByStream x k (subst (λ n. multi.Moves c s n place a.server.by_stream x k) (sym clock) (subst (λ m. multi.Moves c s n place m x k) (sym is) move)))
      (runs_chain n (place_after x place) k e rest (stream_moved k a) clock refl)

  pub chain_then : (place : ℕ) (a : Served) (d e : Act Served) → Chain (served c) s place a d → Chain (served c) s d.place d.state e → Chain (served c) s place a (then_act d e)
  chain_then _ _ _ e (Stays place a) more = more
  chain_then _ _ _ e (Goes place a x d acts rest) more =
      subst (Chain (served c) s place a) (same_act (then_act x (then_act d e)) (then_act (then_act x d) e) refl refl (sym (append_assoc x.outs d.outs e.outs)) (sym (append_assoc x.posts d.posts e.posts)))
      (Goes place a x (then_act d e) acts (chain_then x.place x.state d e rest more))
    where
      same_act : (d e : Act Served) → d.state ≡ e.state → d.place ≡ e.place → d.outs ≡ e.outs → d.posts ≡ e.posts → d ≡ e
      same_act d e state place outs posts = λ i. record { state = state i; place = place i; outs = outs i; posts = posts i }

-- What a call leaves that may give results: `named` has the numbers before.
pub record Gone (c : Conf) (server : ℕ) (frames : ℕ → List Octets) (named : ℕ → Option ℕ) (d : Desk) (m : Multi) (v : View) (t : Server) (w : View) : Type 0 where
  pub made : Act Multi
  pub runs : Runs c server v.now v.place m made
  pub outs : w.outs ≡ v.outs ++ made.outs
  pub place : w.place ≡ made.place
  pub board : List Posted
  pub put : w.board ≡ v.board ++ board
  pub gives : Gives named board made.posts (numbers (desk_of t))
  pub more : w.more ≡ v.more
  pub stands : Stands c nothing_under_way (desk_of t) t made.state frames w
  pub on : GoesOn v w
  pub owned : (i : ℕ) → Owns (desk_of t) i → Owns d i ⊎ (v.timers.next ≤ i)
  pub others : (i due : ℕ) → (Owns d i → ⊥) → dues v i ≡ Some due → dues w i ≡ Some due
  pub quiet : NoneHeard m → NoneHeard made.state

pub gives_none : (named left : ℕ → Option ℕ) (posts : List Post) → posts ≡ [] → ((u : ℕ) → left u ≡ named u) → Gives named [] posts left
gives_none named left [] e same = same
gives_none named left (x ∷ xs) e same = absurd (cc)

abbrev pub went_gone : (c : Conf) (server : ℕ) (frames : ℕ → List Octets) (d : Desk) (m : Multi) (v : View) (t : Server) (w : View) → Went c server frames nothing_under_way d m v t w → Gone c server frames (numbers d) d m v t w
went_gone c server frames d m v t w a = record {
  made = a.made;
  runs = a.runs;
  outs = a.outs;
  place = a.place;
  board = [];
  put = a.board ∙ sym (append-nil v.board);
  gives = gives_none (numbers d) (numbers (desk_of t)) a.made.posts a.posts a.named;
  more = a.more;
  stands = a.stands;
  on = a.on;
  owned = a.owned;
  others = a.others;
  quiet = a.quiet;
}

-- the same for the part
pub gone_leaves : (c : Conf) (s : ℕ) (frames : ℕ → List Octets) (named : ℕ → Option ℕ) (u : Streams) (m : Multi) (v : View) (a : Served) (phase : Phase) (May : Act Served → Type 0) (t : Server) (w : View) → (g : Gone c s frames named (desk_of u.tables) m v t w)
    → May (lift a g.made) → TiedAs c s phase (record u { tables = t }) (sight w) (stream_moved g.made.state a) → Leaves (served c) (TiedAs c s) names_of owns May named u v phase (record u { tables = t }) w
gone_leaves c s frames named u m v a phase May t w g may tied = record {
  made = lift a g.made;
  may = may;
  outs = g.outs;
  place = g.place;
  board = g.board;
  put = g.put;
  gives = g.gives;
  tied = tied;
  goes_on = g.on;
  owned = g.owned;
  others = g.others;
}

-- what a step of the tables leaves is what one of the whole leaves
pub leads_whole : (P : Server → View → Type 0) (Q : Streams → View → Type 0) (u : Streams) (o : Option (Server × View)) → Leads P o → ((t : Server) (w : View) → P t w → Q (record u { tables = t }) w) → Leads Q (with_tables u o)
leads_whole P Q u None l f = tt
leads_whole P Q u (Some y) l f = f y.0 y.1 l

-- it is server s still
pub stream_still : (c : Conf) (s : ℕ) (u : Streams) (x : Sight) (a : Served) (t : Server) (m : Multi) (w : View) → IsStream c s u x a → w.now ≡ x.now → Stands c nothing_under_way (desk_of t) t m (frames_at a.place a.frames) w → IsStream c s (record u { tables = t }) (sight w) (stream_moved m a)
stream_still c s u x a t m w i now st = record { server = i.server; settings = i.settings; takes = i.takes; clock = i.clock ∙ sym now; dgram = i.dgram; ties = st.server; order = st.order }
