-- Each request that leaves has its result on the board, and gets its reply.
use Rattle.std.proofs.Common.{◌≡◌, ℕ, List, [], ◌∷◌, ◌++◌, length, map, Bool, true, false, is_some, Option, Some, None, Result, Ok, Err, refl, sym, ap, ap₂, subst, ◌∙◌, append_assoc, append-nil}
use mathlib.Core.Path.{fun_ext}
use Rattle.client_request.specs.Numbered.{entry_at}
use Rattle.client_request.specs.Board.{Part}
use Rattle.client_request.specs.View.{View, asks, drops_timer}
use Rattle.client_request.specs.declared.board.Posted.{Posted as OnBoard}
use Rattle.client_request.specs.declared.error.Error.{Error}
use Rattle.client_request.specs.declared.event.Out.{Out}
use Rattle.client_request.specs.declared.event.Out.TheVariants.{Stale, Reply}
use Rattle.client_request.specs.declared.event.What.{What}
use Rattle.right_trace.specs.Messages.{Octets}
use Rattle.proof_right.specs.machine.Part.{Post}
use Rattle.proof_right.specs.machine.Client.{Leaving, Replies, store, told_of}
use Rattle.right_trace.specs.Updates.{with_at}
use Rattle.proof_parts.specs.Chains.{Gives, part_of}
use Rattle.proof_parts.specs.ClientTie.{AreMarked, LeadsBeside, Arrives, reply_of, told_with}
use Rattle.proof_parts.specs.PartTie.{Phase}
use Rattle.proof_parts.specs.Sights.{sight}
use Rattle.proof_client.specs.Above.{Tying}
use Rattle.client_steps.specs.Client.{marks, replies_many, replies_to, result_of, without_request}
use Rattle.client_steps.specs.declared.asked.Waiting.{Waiting}
use Rattle.proof_client.proofs.Desk.{IsKept, as_before, was_there}
use Rattle.proof_client.proofs.Holding.{Requests, State, Kept, IsFor, Fits, holds_without, tied_without, fair_without, desk_of}
use Rattle.proof_client.proofs.Leading.{leads_on, one_move}

-- a result of one message comes off the board as it was put
comes_back : (r : Result Octets Error) → result_of (part_of r) ≡ r
comes_back (Ok m) = refl
comes_back (Err e) = refl

-- what is put out of a request that has its result, which is stale or not
abbrev pub reply_outs : (is_stale : Bool) → (number : ℕ) → Result Octets Error → List Out
reply_outs true n r = Stale n ∷ Reply n r ∷ []
reply_outs false n r = Reply n r ∷ []

reply_is : (b : Bool) (n : ℕ) (r : Result Octets Error) (v : View) → asks (Reply n r) (marks b n v) ≡ record v { outs = v.outs ++ reply_outs b n r }
reply_is true n r v = ap (λ (os : List Out). record v { outs = os }) (append_assoc v.outs (Stale n ∷ []) (Reply n r ∷ []))
reply_is false n r v = refl

-- it is what the machine puts of it
told_is : (k n : ℕ) (x : Result Octets Error) (o : Option Octets) (b : Bool) (part : Part) → n ≡ k → b ≡ is_some o → part ≡ part_of (told_with x o) → told_of k x o ≡ reply_outs b n (result_of part)
told_is k n x None b part same stale is =
    ap₂ (λ k r. reply_outs false k r) (sym same) (sym (comes_back x) ∙ ap result_of (sym is)) ∙ ap (λ b. reply_outs b n (result_of part)) (sym stale)
told_is k n x (Some m) b part same stale is =
    ap₂ (λ k r. reply_outs true k r) (sym same) (ap result_of (sym is)) ∙ ap (λ b. reply_outs b n (result_of part)) (sym stale)

-- who is named once results are given was named before
pub named_before : (named : ℕ → Option ℕ) (board : List OnBoard) (posts : List Post) (left : ℕ → Option ℕ) → Gives named board posts left → (i k : ℕ) → left i ≡ Some k → named i ≡ Some k
named_before named [] [] left gives i k e = sym (gives i) ∙ e
named_before named [] (y ∷ ys) left gives i k e = absurd gives
named_before named (p ∷ ps) [] left gives i k e = absurd gives
named_before named (p ∷ ps) (y ∷ ys) left gives i k e = (was_there p.ticket named i k (named_before (with_at p.ticket None named) ps ys left gives.2 i k e)).1

module _ (g : Tying) where
  -- What replies make of the client, and of the machine.
  pub record Settles (phase : Phase) (e : What) (u : g.V) (v : View) (x : State g) (b : Kept g) (r : Requests g × View) : Type 0 where
    pub outs : List Out
    pub end : State g
    pub beside : Kept g
    pub leads : LeadsBeside g.st g.P g.B x b outs end beside
    pub fits : Fits g phase e (g.names u) u [] r.0 r.1 end beside
    pub asked : end.asked ≡ x.asked
    pub board : r.1.board ≡ []
    pub put : r.1.outs ≡ v.outs ++ outs
    pub more : r.1.more ≡ v.more

  -- what is put out for one result of a transport
  abbrev pub puts_of : OnBoard → Waiting g.Q → List Out
  puts_of p w = reply_outs p.is_stale w.number (result_of p.part)

  -- the view once one result is a reply
  abbrev pub replied : OnBoard → List OnBoard → Waiting g.Q → View → View
  replied p ps w v = record (drops_timer w.timer (record v { board = ps })) { outs = v.outs ++ puts_of p w }

  record OneReply (phase : Phase) (e : What) (named : ℕ → Option ℕ) (u : g.V) (p : OnBoard) (ps : List OnBoard) (zs : List Leaving) (a : Requests g) (v : View) (x : State g) (b : Kept g) : Type 0 where
    pub waiting : Waiting g.Q
    pub is : entry_at p.ticket a.waiting ≡ Some waiting
    pub end : State g
    pub beside : Kept g
    pub leads : LeadsBeside g.st g.P g.B x b (puts_of p waiting) end beside
    pub asked : end.asked ≡ x.asked
    pub fits : Fits g phase e (with_at p.ticket None named) u zs (without_request p.ticket (Some waiting) a) (replied p ps waiting v) end beside

  one_reply : (phase : Phase) (e : What) (named : ℕ → Option ℕ) (u : g.V) (p : OnBoard) (ps : List OnBoard) (z : Leaving) (zs : List Leaving) (a : Requests g) (v : View) (x : State g) (b : Kept g)
      → Fits g phase e named u (z ∷ zs) a (record v { board = p ∷ ps }) x b → named p.ticket ≡ Some z.request → p.part ≡ part_of (told_with z.result z.stale) → p.is_stale ≡ is_some z.stale → OneReply phase e named u p ps zs a v x b
  one_reply phase e named u p ps z zs a v x b f name part stale = go (f.holds.kept.named p.ticket z.request name)
    where
      go : (w : Waiting g.Q) × (entry_at p.ticket a.waiting ≡ Some w) × (w.number ≡ z.request) → OneReply phase e named u p ps zs a v x b
      go found = record {
        waiting = w;
        is = found.1;
        end = end;
        beside = stored.0;
        leads = subst (λ os. LeadsBeside g.st g.P g.B x b os end stored.0) outs_are (one_move g.st g.P g.B x b (record { state = end; outs = told_of z.request z.result z.stale }) stored.0 (Replies [] zs z f.leaving) stored.1);
        asked = refl;
        fits = record {
          holds = holds_without g e named u a (record v { board = p ∷ ps }) x p.ticket w (replied p ps w v) end f.fair f.holds found.1
              (record { now = refl; timers = refl; clock = refl; asked = refl; pending = refl; held = as_before x.held });
          leaving = refl;
          fair = record { order = (fair_without g v w.timer (record { order = f.fair.order; words = f.fair.words })).order; words = f.fair.words };
          tied = stored.2;
        };
      }
        where
          w : Waiting g.Q
          w = found.0

          mine : IsKept (g.c).timeout (IsFor g u) a.next (desk_of g named a v x) p.ticket w
          mine = f.holds.kept.kept p.ticket w found.1

          end : State g
          end = record x { leaving = zs; stored = store x.now z x.stored }

          -- what the reply makes of what is kept beside
          stored : (c : Kept g) × (g.B).Does x (record { state = end; outs = told_of z.request z.result z.stale }) (Replies [] zs z f.leaving) b c × g.Tied phase u (sight (replied p ps w v)) end c
          stored = g.tie.replies phase u (sight (replied p ps w v)) x b z zs f.leaving (tied_without g phase e named u a (record v { board = p ∷ ps }) x b w.timer p.ticket f.fair f.holds mine.deadline f.tied)

          outs_are : told_of z.request z.result z.stale ≡ puts_of p w
          outs_are = told_is z.request w.number z.result z.stale p.is_stale p.part found.2 stale part

  pub settles_all : (phase : Phase) (e : What) (named : ℕ → Option ℕ) (u : g.V) (board : List OnBoard) (leaving : List Leaving) (a : Requests g) (v : View) (x : State g) (b : Kept g)
      → Fits g phase e named u leaving a (record v { board = board }) x b → Gives named board (map reply_of leaving) (g.names u) → AreMarked board leaving → Settles phase e u v x b (replies_many (length board) (a, record v { board = board }))
  settles_all phase e named u [] [] a v x b f gives marked = record {
    outs = [];
    end = x;
    beside = b;
    leads = Arrives x b;
    fits = subst (λ n. Fits g phase e n u [] a (record v { board = [] }) x b) (sym (fun_ext gives)) f;
    asked = refl;
    board = refl;
    put = sym (append-nil v.outs);
    more = refl;
  }
  settles_all phase e named u [] (z ∷ zs) a v x b f gives marked = absurd gives
  settles_all phase e named u (p ∷ ps) [] a v x b f gives marked = absurd gives
  settles_all phase e named u (p ∷ ps) (z ∷ zs) a v x b f gives marked =
      let r = one_reply phase e named u p ps z zs a v x b f gives.0 gives.1 marked.0 in
      let w : Waiting g.Q = r.waiting in
      let ih = settles_all phase e (with_at p.ticket None named) u ps zs (without_request p.ticket (Some w) a) (replied p ps w v) r.end r.beside r.fits gives.2 marked.1 in
      subst (λ o. Settles phase e u v x b (replies_many (length ps) (replies_to p a (record v { board = ps }) o))) (sym r.is)
      (subst (λ y. Settles phase e u v x b (replies_many (length ps) (without_request p.ticket (Some w) a, y))) (sym (reply_is p.is_stale w.number (result_of p.part) (drops_timer w.timer (record v { board = ps }))))
      (record {
        outs = puts_of p w ++ ih.outs;
        end = ih.end;
        beside = ih.beside;
        leads = leads_on g.st g.P g.B x b (puts_of p w) r.end r.beside ih.outs ih.end ih.beside r.leads ih.leads;
        fits = ih.fits;
        asked = ih.asked ∙ r.asked;
        board = ih.board;
        put = ih.put ∙ append_assoc v.outs (puts_of p w) ih.outs;
        more = ih.more;
      }))
