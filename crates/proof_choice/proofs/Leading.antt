-- Chains of moves of the client, of any server.
use Rattle.std.proofs.Common.{◌≡◌, ℕ, ◌<◌, true, false, List, [], ◌++◌, length, map, Some, None, Result, refl, sym, ap, subst, subst₂, ◌∙◌, arith, append_assoc, append-nil}
use Rattle.std.proofs.lemmas.Bool.Decides.{nat_tests}
use Rattle.std.proofs.lemmas.List.{map-append}
use Rattle.client_request.specs.Request.{Request}
use Rattle.client_request.specs.declared.error.Error.{Error}
use Rattle.client_request.specs.declared.event.Out.{Out}
use Rattle.right_trace.specs.Trace.{Conf}
use Rattle.right_trace.specs.Messages.{Octets}
use Rattle.right_trace.specs.Settings.{Settings}
use Rattle.proof_right.specs.machine.Part.{Act, ServerPart}
use Rattle.proof_right.specs.machine.Client.{Posted, Waiting, Upper, Made, Move, Moves, IsDone, Server_moves, Hands_on, Gives_up, moved, hand, tag, with_up}
use Rattle.proof_parts.specs.Chains.{Chain, Stays, Goes, Begins, Calls, then_act}
use Rattle.proof_parts.specs.Leading.{IsBelow, Leads, Arrives, Then, IsMoved, Reaches}

pub up_other : {U : Type 0} → (s i : ℕ) (u : U) (f : ℕ → U) → (s ≡ i → ⊥) → with_up s u f i ≡ f i
up_other s i u f ne = grind (arith, nat_tests)

pub up_here : {U : Type 0} → (s : ℕ) (u : U) (f : ℕ → U) → with_up s u f s ≡ u
up_here s u f = grind (arith, nat_tests)

module _ {c : Conf} (st : Settings) (compose : Request → Result Octets Error) (P : ServerPart c) where
  pub leads_on : (x : Upper P.State) (a : List Out) (y : Upper P.State) (b : List Out) (z : Upper P.State) → Leads st compose P x a y → Leads st compose P y b z → Leads st compose P x (a ++ b) z
  leads_on _ _ _ b z (Arrives x) m = m
  leads_on _ _ _ b z (Then x d outs y f is l) m = subst (λ o. Leads st compose P x o z) (sym (append_assoc d.outs outs b)) (Then x d (outs ++ b) z f is (leads_on d.state outs y b z l m))

  pub one_move : (x : Upper P.State) (d : Made P.State) (f : Move c st compose P x d) → IsBelow st compose P x d f → Leads st compose P x d.outs d.state
  one_move x d f is = subst (λ o. Leads st compose P x o d.state) (append-nil d.outs) (Then x d [] d.state f is (Arrives d.state))

  pub all_moves : (x : Upper P.State) (outs : List Out) (y : Upper P.State) → Leads st compose P x outs y → IsDone c st compose P y → Moves c st compose P x (record { state = y; outs = outs })
  all_moves _ _ _ (Arrives x) done = Moves.Rests x done
  all_moves _ _ _ (Then x d outs y f is l) done = Moves.Goes x d (record { state = y; outs = outs }) f (all_moves d.state outs y l done)

  is_moved : (s : ℕ) (x : Upper P.State) (d : Act P.State) → IsMoved st compose P s x d (moved s d x)
  is_moved s x d = record { now = refl; asked = refl; pending = refl; held = refl; leaving = refl; stored = refl; place = refl; state = up_here s d.state x.ups; others = λ i ne. up_other s i d.state x.ups ne; board = refl }

  moved_then : (s : ℕ) (x : Upper P.State) (d : Act P.State) (y : Upper P.State) (e : Act P.State) (z : Upper P.State) → IsMoved st compose P s x d y → IsMoved st compose P s y e z → IsMoved st compose P s x (then_act d e) z
  moved_then s x d y e z f g = record {
    now = g.now ∙ f.now;
    asked = g.asked ∙ f.asked;
    pending = g.pending ∙ f.pending;
    held = g.held ∙ f.held;
    leaving = g.leaving ∙ f.leaving;
    stored = g.stored ∙ f.stored;
    place = g.place;
    state = g.state;
    others = λ i ne. g.others i ne ∙ f.others i ne;
    board = g.board ∙ (ap (λ (b : List Posted). b ++ map (tag s) e.posts) f.board ∙ (append_assoc x.board (map (tag s) d.posts) (map (tag s) e.posts) ∙ ap (λ (b : List Posted). x.board ++ b) (sym (map-append (tag s) d.posts e.posts))));
  }

  module _ (s : ℕ) (some : s < length c.servers) where
    pub chain_moves : (place : ℕ) (a : P.State) (made : Act P.State) → Chain P s place a made → (x : Upper P.State) → x.place ≡ place → x.ups s ≡ a → Reaches st compose P s x x made
    chain_moves _ _ _ (Stays place a) x p u = record {
      end = x;
      leads = Arrives x;
      is = record { now = refl; asked = refl; pending = refl; held = refl; leaving = refl; stored = refl; place = p; state = u; others = λ i ne. refl; board = sym (append-nil x.board) };
    }
    chain_moves _ _ _ (Goes place a d e acts rest) x p u =
        let r : Reaches st compose P s (moved s d x) (moved s d x) e = chain_moves d.place d.state e rest (moved s d x) refl (up_here s d.state x.ups) in
        record {
          end = r.end;
          leads = Then x (record { state = moved s d x; outs = d.outs }) e.outs r.end (Server_moves s d some (subst₂ (λ place a. P.Acts s place a d) (sym p) (sym u) acts)) tt r.leads;
          is = moved_then s x d (moved s d x) e r.end (is_moved s x d) r.is;
        }

    -- a request is handed on, and what follows
    pub start_moves : (x : Upper P.State) (k : ℕ) (a : Waiting) (made : Act P.State) → x.held k ≡ Some a → a.tried s ≡ false → Begins (P.Starts s x.place k a.request (x.ups s)) (Chain P s) made → Reaches st compose P s x (hand k s a x) made
    start_moves x k a _ held tried (Calls d e call rest) =
        let y : Upper P.State = hand k s a x in
        let r : Reaches st compose P s (moved s d y) (moved s d y) e = chain_moves d.place d.state e rest (moved s d y) refl (up_here s d.state x.ups) in
        record {
          end = r.end;
          leads = Then x (record { state = moved s d y; outs = d.outs }) e.outs r.end (Hands_on s k a d some held tried call) tt r.leads;
          is = moved_then s y d (moved s d y) e r.end (is_moved s y d) r.is;
        }

    -- a request is given up, and what follows
    pub cancel_moves : (x : Upper P.State) (k : ℕ) (made : Act P.State) → x.held k ≡ None → P.holds (x.ups s) k ≡ true → Begins (P.Cancels s x.place k (x.ups s)) (Chain P s) made → Reaches st compose P s x x made
    cancel_moves x k _ none holds (Calls d e call rest) =
        let r : Reaches st compose P s (moved s d x) (moved s d x) e = chain_moves d.place d.state e rest (moved s d x) refl (up_here s d.state x.ups) in
        record {
          end = r.end;
          leads = Then x (record { state = moved s d x; outs = d.outs }) e.outs r.end (Gives_up s k d some none holds call) tt r.leads;
          is = moved_then s x d (moved s d x) e r.end (is_moved s x d) r.is;
        }
