-- What a call of the transport leaves, once its results are replies.
use Rattle.std.proofs.Common.{◌≡◌, ℕ, ◌≤◌, inl, inr, Bool, List, [], ◌++◌, length, Option, Some, sym, ap, subst, ◌∙◌, append_assoc}
use Rattle.client_request.specs.Numbered.{entry_at}
use Rattle.client_request.specs.View.{View}
use Rattle.client_request.specs.declared.board.Posted.{Posted as OnBoard}
use Rattle.client_request.specs.declared.event.Out.{Out}
use Rattle.client_request.specs.declared.event.What.{What}
use Rattle.proof_right.specs.machine.Client.{Leaving}
use Rattle.proof_parts.specs.ClientTie.{LeadsBeside, Leaves}
use Rattle.proof_parts.specs.PartTie.{Phase}
use Rattle.proof_parts.specs.Sights.{due_of, IsFair}
use Rattle.proof_client.specs.Above.{Tying}
use Rattle.client_steps.specs.Client.{Client, client_of, replies, replies_many}
use Rattle.client_steps.specs.declared.asked.Waiting.{Waiting}
use Rattle.client_steps.proofs.TimerLaws.{unset_above}
use Rattle.proof_client.proofs.Desk.{AreKept, go_on, stand_for, none_is}
use Rattle.proof_client.proofs.Giving.{Settles, settles_all}
use Rattle.proof_client.proofs.Holding.{Requests, State, Kept, IsFor, Holds, Fits, desk_of}
use Rattle.proof_client.proofs.Leading.{leads_on}

module _ (g : Tying) where
  -- The client and the machine after a call, by moves from `start`: `from` is what is otherwise as it was, and `stands` says whether another frame stands.
  pub record Called (phase : Phase) (e : What) (u : g.V) (v : View) (stands : Bool) (start from : State g) (b : Kept g) (r : Requests g × View) : Type 0 where
    pub outs : List Out
    pub end : State g
    pub beside : Kept g
    pub leads : LeadsBeside g.st g.P g.B start b outs end beside
    pub fits : Fits g phase e (g.names u) u [] r.0 r.1 end beside
    pub asked : end.asked ≡ from.asked
    pub board : r.1.board ≡ []
    pub put : r.1.outs ≡ v.outs ++ outs
    pub more : r.1.more ≡ stands

  -- a deadline's timer is not one that the transport sets
  not_new : (named : ℕ → Option ℕ) (u : g.V) (a : Requests g) (v : View) (x : State g) → IsFair v → AreKept (g.c).timeout (IsFor g u) a.next (desk_of g named a v x) → (i t : ℕ) → entry_at i a.deadlines ≡ Some t → v.timers.next ≤ i → ⊥
  not_new named u a v x fair kept i t d le =
      let f = kept.late i t d in
      let w = kept.kept t f.0 f.1 in
      none_is (due_of i v.timers.set) w.due (unset_above 0 v.timers.next i v.timers.set le fair.order) (subst (λ i. due_of i v.timers.set ≡ Some w.due) f.2 w.set)

  -- what stands for results at transport u stands for them at w
  abbrev pub StandOn : Requests g → (u w : g.V) → Type 0
  StandOn a u w = (i : ℕ) (p : Waiting g.Q) → entry_at i a.waiting ≡ Some p → IsFor g u i p.response → IsFor g w i p.response

  -- so it is where no result is to come that wasn't before
  pub stand_on : (a : Requests g) (u w : g.V) → ((i k : ℕ) → g.names w i ≡ Some k → g.names u i ≡ Some k) → StandOn a u w
  stand_on a u w before i p e f = (f.0, λ k n. f.1 k (before i k n))

  module _ (phase : Phase) (e : What) (named : ℕ → Option ℕ) (u : g.V) (a : Requests g) (v : View) (start x : State g) (b : Kept g) (w : g.V) (y : View) (h : Holds g e named u a v x) (none : x.leaving ≡ []) (fair : IsFair v) (board : v.board ≡ [])
      (l : Leaves g.st g.P g.B g.T g.IsHanded g.Tied g.names g.Owns named start x b u v phase w y) (stand : StandOn a u w) where
    holds_on : Holds g e named w a (record y { board = l.board }) l.end
    holds_on = record {
      now = l.now ∙ (h.now ∙ sym l.goes_on.now);
      asked = l.asked ∙ h.asked;
      pending = l.pending ∙ h.pending;
      kept = stand_for (g.c).timeout (IsFor g u) (IsFor g w) a.next (desk_of g named a (record y { board = l.board }) l.end)
          (go_on (g.c).timeout (IsFor g u) a.next (desk_of g named a v x) (λ i. due_of i y.timers.set) l.end.held h.kept (λ t i due d s. l.others t due (h.foreign t i d) s) l.tried)
          stand;
      waiting = h.waiting;
      deadlines = h.deadlines;
      foreign = λ i t d o. elim (l.owned i o) [ inl p ↦ h.foreign i t d p | inr p ↦ not_new named u a v x fair h.kept i t d p ];
    }

    fits_on : Fits g phase e named w l.leaving a (record y { board = l.board }) l.end l.kept
    fits_on = record {
      holds = holds_on;
      leaving = l.leaves ∙ ap (λ (zs : List Leaving). zs ++ l.leaving) none;
      fair = record { order = l.goes_on.fair.order; words = l.goes_on.fair.words };
      tied = l.tied;
    }

    called_on : Settles g phase e w y l.end l.kept (replies_many (length l.board) (a, record y { board = l.board })) → Called phase e w v y.more start x b (replies_many (length l.board) (a, record y { board = l.board }))
    called_on s = record {
      outs = l.outs ++ s.outs;
      end = s.end;
      beside = s.beside;
      leads = leads_on g.st g.P g.B start b l.outs l.end l.kept s.outs s.end s.beside l.leads s.leads;
      fits = s.fits;
      asked = s.asked ∙ l.asked;
      board = s.board;
      put = s.put ∙ (ap (λ (o : List Out). o ++ s.outs) l.put ∙ append_assoc v.outs l.outs s.outs);
      more = s.more;
    }

    pub after_call : Called phase e w v y.more start x b (replies (a, y))
    after_call =
        subst (λ (o : List OnBoard). Called phase e w v y.more start x b (replies_many (length o) (a, record y { board = o }))) (sym (l.posted ∙ ap (λ (o : List OnBoard). o ++ l.board) board))
        (called_on (settles_all g phase e named w l.board l.leaving a y l.end l.kept fits_on l.gives l.marked))

  -- The client

  abbrev pub PlainClient : Type 0
  PlainClient = Client g.V g.Q

  -- a client is tied to a state of the machine, and to what is kept beside it
  pub record IsTied (phase : Phase) (e : What) (d : PlainClient) (x : State g) (b : Kept g) : Type 0 where
    pub fits : Fits g phase e (g.names d.layer) d.layer [] d.asked d.view x b
    pub board : d.view.board ≡ []

  -- What comes of a client whose view was v, of the machine, and of what is kept beside.
  pub record Comes (phase : Phase) (e : What) (v : View) (from : State g) (b : Kept g) (d : PlainClient) : Type 0 where
    pub outs : List Out
    pub end : State g
    pub beside : Kept g
    pub leads : LeadsBeside g.st g.P g.B from b outs end beside
    pub tied : IsTied phase e d end beside
    pub asked : end.asked ≡ from.asked
    pub put : d.view.outs ≡ v.outs ++ outs

  pub comes_of : (phase : Phase) (e : What) (u : g.V) (v : View) (stands : Bool) (from : State g) (b : Kept g) (r : Requests g × View) → Called phase e u v stands from from b r → Comes phase e v from b (client_of u r)
  comes_of phase e u v stands from b r c = record { outs = c.outs; end = c.end; beside = c.beside; leads = c.leads; tied = record { fits = c.fits; board = c.board }; asked = c.asked; put = c.put }

  pub comes_then : (phase : Phase) (e : What) (v w : View) (from : State g) (b : Kept g) (d : PlainClient) (x : State g) (b' : Kept g) (outs : List Out)
      → LeadsBeside g.st g.P g.B from b outs x b' → x.asked ≡ from.asked → w.outs ≡ v.outs ++ outs → Comes phase e w x b' d → Comes phase e v from b d
  comes_then phase e v w from b d x b' outs leads asked put c = record {
    outs = outs ++ c.outs;
    end = c.end;
    beside = c.beside;
    leads = leads_on g.st g.P g.B from b outs x b' c.outs c.end c.beside leads c.leads;
    tied = c.tied;
    asked = c.asked ∙ asked;
    put = c.put ∙ (ap (λ (o : List Out). o ++ c.outs) put ∙ append_assoc v.outs outs c.outs);
  }
