-- What a call of the streams leaves is settled, beside datagrams that stay as they are.
use Rattle.std.proofs.Common.{◌≡◌, ℕ, ◌<◌, ◌≤◌, inl, inr, true, is_some, List, [], ◌∷◌, Option, Some, None, sym, subst, ◌∙◌}
use Rattle.std.specs.Prelude.{option_and_then}
use Rattle.client_request.specs.Request.{Request}
use Rattle.client_request.specs.Requests.{for_one}
use Rattle.client_request.specs.View.{View, Transport}
use Rattle.client_request.specs.declared.board.Posted.{Posted}
use Rattle.client_dgram.specs.Plain as dgram
use Rattle.right_settings.specs.Given.{dgrams_of}
use Rattle.client_stream.specs.Plain as stream
use Rattle.client_multi.specs.Fallback.{Parts, onto, gives_all, gives_rest, settles_stream, with_parts}
use Rattle.client_multi.specs.declared.dgram_stream.job.Job.{Job}
use Rattle.right_trace.specs.Trace.{Conf}
use Rattle.proof_right.specs.machine.Part.{Act, Post}
use Rattle.right_trace.specs.Updates.{with_at}
use Rattle.proof_right.specs.machine.Dgrams.{Dgrams, no_datagram}
use Rattle.proof_right.specs.machine.Served.{Served, served}
use Rattle.proof_parts.specs.Chains.{Gives}
use Rattle.proof_parts.specs.PartTie.{Phase, WasTold, Leads, Leaves}
use Rattle.proof_parts.specs.Sights.{Sight, sight, due_of, IsFair, NoneDue}
use Rattle.proof_parts.proofs.GoingOn.{none_next}
use Rattle.proof_parts.proofs.Keys.{was_there}
use Rattle.proof_parts.proofs.Tables.{rises_below}
use Rattle.proof_dgram.specs.AtServer.{with_dgrams}
use Rattle.proof_dgram.specs.Calls as calls
use Rattle.proof_dgram.specs.Slots.{AreSlots, names_of}
use Rattle.proof_dgram.specs.Waiting.{AreWaiting, AreGiven, numbers_of, ticket_at}
use Rattle.proof_dgram.specs.Fallback.{AreStreams, IsOver, IsFallback, Both, names_in, OwnsEither}
use Rattle.proof_dgram.proofs.Handing.{streams_give}
use Rattle.proof_dgram.proofs.Known.{slots_are_known}

-- who is named after results were given was named before
pub gives_back : (m left : ℕ → Option ℕ) (ps : List Posted) (xs : List Post) → Gives m ps xs left → (i k : ℕ) → left i ≡ Some k → m i ≡ Some k
gives_back m left [] [] g i k e = sym (g i) ∙ e
gives_back m left [] (x ∷ xs) g i k e = absurd g
gives_back m left (p ∷ ps) [] g i k e = absurd g
gives_back m left (p ∷ ps) (x ∷ xs) g i k e = (was_there p.ticket m i k (gives_back (with_at p.ticket None m) left ps xs g.2 i k e)).1

module _ (b c : Conf) (same_transports : b.transports ≡ c.transports) (s : ℕ) {S : Type 0} (t : Transport Request S stream.Asked) (first : S) (Tied : Phase → S → Sight → Served → Type 0) (names : S → ℕ → Option ℕ) (Owns : S → (timer : ℕ) → Type 0) (y : AreStreams b s t first Tied names Owns) where
  module _ (f : Both c Tied names Owns s) (v : View) (d : Dgrams) (fair : IsFair v) (server : f.server ≡ s) (dgram_server : f.parts.dgram.server ≡ s) (settings : f.parts.dgram.settings ≡ (dgrams_of c)) (slots : AreSlots c 0 f.parts.dgram.tables d (sight v)) (named : ℕ → Option ℕ)
      (later : ℕ) (waiting : AreWaiting ticket_at f.parts.tables d (names_of f.parts.dgram.tables) named later) (timers : (i : ℕ) → calls.Owns f.parts.dgram.tables i → Owns f.parts.stream i → ⊥) (apart : (i k : ℕ) → is_some (d.held k) ≡ true → named i ≡ Some k → ⊥) where
    -- what is left once what the streams posted is given
    abbrev pub left_of : S → View → Parts Request (dgram.Dgram Request) S dgram.Asked stream.Asked × View
    left_of u w = gives_rest f.server t w.board (record f.parts { stream = u }) (onto v.board w)

    module _ (May : Act Served → Type 0) (before : Phase) (u : S) (w : View) (l : Leaves (served b) Tied names Owns May named f.parts.stream (onto [] v) before u w) (le : later ≤ w.ticket) (after : Phase) (z : Served) (tied : Tied after u (sight w) (with_dgrams no_datagram z)) (new : (p k : ℕ) → d.at p ≡ Some k → z.server.by_stream.opening ≡ Some p → ⊥) (over : IsOver c after (with_dgrams d z)) (quiet : WasTold after → NoneDue (calls.Owns f.parts.dgram.tables) (sight v))
        (Done : Act Served → Type 0) (done : Done (record l.made { state = with_dgrams d z })) where
      given : AreGiven ticket_at f.parts.tables d (names_of f.parts.dgram.tables) named (names u) later v.board l.made.posts (gives_all w.board f.parts.tables v.board).0 (gives_all w.board f.parts.tables v.board).1
      given = streams_give f.parts.tables d (names_of f.parts.dgram.tables) named (names u) later w.board v.board l.made.posts waiting (subst (λ ps. Gives named ps l.made.posts (names u)) (sym l.put) l.gives)

      its_due : (i : ℕ) → calls.Owns f.parts.dgram.tables i → (due : ℕ) × (due_of i v.timers.set ≡ Some due)
      its_due i own = (slots_are_known c).set f.parts.dgram.tables d (sight v) i slots own

      same_due : (i : ℕ) → calls.Owns f.parts.dgram.tables i → due_of i w.timers.set ≡ due_of i v.timers.set
      same_due i own = (let q = its_due i own in l.others i q.0 (λ o. timers i own o) q.1 ∙ sym q.1)

      apart_now : (k : ℕ) → is_some (d.held k) ≡ true → is_some (z.server.by_stream.asks k) ≡ true → ⊥
      apart_now k e asked = (let n = y.tie.held after u (sight w) (with_dgrams no_datagram z) k tied asked in apart n.0 k e (gives_back named (names u) l.board l.made.posts l.gives n.0 k n.1))

      timers_now : (i : ℕ) → calls.Owns f.parts.dgram.tables i → Owns u i → ⊥
      timers_now i own o = elim (l.owned i o) [
        | inl was ↦ timers i own was
        | inr le ↦ (let q = its_due i own in let n : None ≡ Some q.0 = sym (none_next v i fair le) ∙ q.1 in cc)
      ]

      falls : IsFallback c Tied names Owns s after (record f { parts = (left_of u w).0 }) (sight (left_of u w).1) (with_dgrams d z)
      falls = record {
        server = server;
        dgram_server = dgram_server;
        settings = settings;
        slots = (slots_are_known c).same f.parts.dgram.tables d (sight v) (sight w) slots same_due l.goes_on.timer l.goes_on.ticket l.goes_on.place;
        streams = tied;
        waiting = (let g = given.waiting in record { waits = g.waits; below = g.below; tickets = g.tickets; dgrams = g.dgrams; streams = g.streams; jobs_order = rises_below (λ (e : ℕ × Job Request dgram.Asked stream.Asked). e.0) 0 later w.ticket _ le g.jobs_order; tickets_order = rises_below (λ (e : ℕ × ℕ). e.0) 0 later w.ticket _ le g.tickets_order });
        timers = timers_now;
        places = new;
        apart = apart_now;
        over = over;
        quiet = λ told i due own e. subst (λ n. n < due) (sym l.goes_on.now) (quiet told i due own (sym (same_due i own) ∙ e));
      }

      pub streams_leave : Leaves (served c) (IsFallback c Tied names Owns s) (names_in c Tied names Owns s) (OwnsEither c Tied names Owns s) Done (numbers_of f.parts.tables named) f v after (record f { parts = (left_of u w).0 }) (left_of u w).1
      streams_leave = record {
        made = record l.made { state = with_dgrams d z };
        may = done;
        outs = l.outs;
        place = l.place;
        board = given.posted;
        put = given.put;
        gives = given.gives;
        tied = falls;
        goes_on = record { fair = record { order = l.goes_on.fair.order; words = l.goes_on.fair.words }; now = l.goes_on.now; timer = l.goes_on.timer; ticket = l.goes_on.ticket; place = l.goes_on.place; later = l.goes_on.later };
        owned = λ i o. elim o [ inl q ↦ inl (inl q) | inr q ↦ elim (l.owned i q) [ inl was ↦ inl (inr was) | inr le ↦ inr le ] ];
        others = λ i due no e. l.others i due (λ o. no (inr o)) e;
      }

    -- what holds of what the streams leave holds of what is left
    pub leads_both : (Q : S → View → Type 0) (R : Both c Tied names Owns s → View → Type 0) (o : Option (S × View)) → Leads Q o → ((u : S) (w : View) → Q u w → R (record f { parts = (left_of u w).0 }) (left_of u w).1) → Leads R (with_parts f (option_and_then (settles_stream f.server (dgram.transport for_one) t [] f.parts v) o))
    leads_both Q R None q k = tt
    leads_both Q R (Some x) q k = k x.0 x.1 q
