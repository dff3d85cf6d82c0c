-- A timer of a fallback fires: it is the datagrams' or the streams'.
use Rattle.std.proofs.Common.{◌≡◌, ℕ, ◌<◌, ◌≤◌, inl, inr, true, is_some, [], Option, Some, None, refl, sym, ap, subst, ◌∙◌, arith, le_refl}
use Rattle.std.specs.Prelude.{option_and_then}
use Rattle.client_request.specs.Numbered.{frees, entry_at}
use Rattle.client_request.specs.Request.{Request}
use Rattle.client_request.specs.Requests.{for_one}
use Rattle.client_request.specs.Timers.{cancelled}
use Rattle.client_request.specs.View.{View, Heard, Transport, due_timer}
use Rattle.client_request.specs.declared.event.What.{What}
use Rattle.client_dgram.specs.Plain as dgram
use Rattle.client_stream.specs.Plain as stream
use Rattle.client_multi.specs.Fallback as fallback
use Rattle.client_multi.specs.Fallback.{onto, with_parts, settles_stream, hears_stream}
use Rattle.right_trace.specs.Trace.{Conf}
use Rattle.proof_right.specs.machine.Dgrams.{Dgrams, no_datagram}
use Rattle.proof_right.specs.machine.Served.{Served, served}
use Rattle.proof_parts.specs.Chains.{Chain}
use Rattle.proof_parts.specs.PartTie.{Phase, Untold, Leads, Leaves}
use Rattle.proof_parts.specs.Sights.{Sight, sight, due_of, IsFair}
use Rattle.proof_parts.proofs.GoingOn.{fair_without, dues_without}
use Rattle.proof_parts.proofs.Keys.{with_there}
use Rattle.proof_parts.proofs.Tables.{frees_nothing}
use Rattle.proof_dgram.specs.AtServer.{with_dgrams}
use Rattle.proof_dgram.specs.Calls as calls
use Rattle.proof_dgram.specs.Calls.{HasFired}
use Rattle.proof_dgram.specs.Halves.{beside}
use Rattle.proof_dgram.specs.Slots.{AreSlots, slots_of, names_of}
use Rattle.proof_dgram.specs.Steps.{Steps}
use Rattle.proof_dgram.specs.Fallback.{AreStreams, IsFallback, Both, names_in, OwnsEither}
use Rattle.proof_dgram.proofs.AtServer.{servers_move}
use Rattle.proof_dgram.proofs.BesideDgrams.{dgrams_leave, tied_now}
use Rattle.proof_dgram.proofs.BesideStreams.{leads_both, streams_leave}
use Rattle.proof_dgram.proofs.CallsAreMoves.{calls_are_moves}
use Rattle.proof_dgram.proofs.Changing.{settled}
use Rattle.proof_dgram.proofs.GivingUp.{leads_first}
use Rattle.proof_dgram.proofs.Known.{slots_are_known}
use Rattle.proof_dgram.proofs.Sitting.{sitting_beside}
use Rattle.proof_dgram.proofs.Staying.{openings_are_new, requests_stay}
use Rattle.proof_dgram.proofs.Wholes.{steps_whole, whole_at_first}

-- a timer that the datagrams don't have is none of theirs
pub late_passes : (server i : ℕ) (s : dgram.Tables Request) (v : View) → entry_at i s.timers ≡ None → dgram.late server i s v ≡ Some (s, v)
late_passes server i s v none =
    ap (λ o. dgram.at_ticket (λ ticket job s v. dgram.late_stage server ticket job s v job.stage) (record s { timers = frees i s.timers }) v o) none
    ∙ ap (λ ts. Some (record s { timers = ts }, v)) (frees_nothing i s.timers none)

module _ (b c : Conf) (same_transports : b.transports ≡ c.transports) (s : ℕ) {S : Type 0} (t : Transport Request S stream.Asked) (first : S) (Tied : Phase → S → Sight → Served → Type 0) (names : S → ℕ → Option ℕ) (Owns : S → (timer : ℕ) → Type 0) (y : AreStreams b s t first Tied names Owns) where
  abbrev Two : Type 0
  Two = Both c Tied names Owns s

  -- what holds of what the datagrams leave holds once the streams have heard too
  pub leads_hears : (f : Two) (v : View) (h : Heard) (Q : dgram.Tables Request → View → Type 0) (R : Two → View → Type 0) (o : Option (dgram.Tables Request × View)) → calls.Leads Q o → ((z : dgram.Tables Request) (x : View) → Q z x → Leads R (with_parts f (hears_stream f.server (dgram.transport for_one) t h f.parts v (record f.parts.dgram { tables = z }, x))))
      → Leads R (with_parts f (option_and_then (hears_stream f.server (dgram.transport for_one) t h f.parts v) (dgram.with_tables f.parts.dgram o)))
  leads_hears f v h Q R None q k = tt
  leads_hears f v h Q R (Some x) q k = k x.0 x.1 q

  -- where the streams do nothing, what the datagrams posted is settled
  abbrev pub settled_alone : (f : Two) → View → dgram.Tables Request → View → Option (Two × View)
  settled_alone f v z x = with_parts f (fallback.collects f.server t x.board [] (record f.parts { dgram = record f.parts.dgram { tables = z } }) (onto v.board x))

  pub streams_pass : (f : Two) (v : View) (h : Heard) (R : Two → View → Type 0) (z : dgram.Tables Request) (x : View) → t.step h f.parts.stream (onto [] x) ≡ Some (f.parts.stream, onto [] x) → Leads R (settled_alone f v z x) → Leads R (with_parts f (hears_stream f.server (dgram.transport for_one) t h f.parts v (record f.parts.dgram { tables = z }, x)))
  streams_pass f v h R z x same l = subst (λ o. Leads R (with_parts f (option_and_then (settles_stream f.server (dgram.transport for_one) t x.board (record f.parts { dgram = record f.parts.dgram { tables = z } }) (onto v.board x)) o))) (sym same) l

  module _ (f : Two) (v : View) (a : Served) (w : What) (i due : ℕ) (g : IsFallback c Tied names Owns s (Untold w) f (sight v) a) (fair : IsFair v) (set : due_of i v.timers.set ≡ Some due) (late : due ≤ v.now) where
    abbrev d : Dgrams
    d = a.server.by_dgram

    abbrev alone : Served
    alone = with_dgrams no_datagram a

    abbrev tables : dgram.Tables Request
    tables = f.parts.dgram.tables

    -- the view without the timer that fires
    abbrev vc : View
    vc = record v { timers = cancelled i v.timers }

    fair_c : IsFair vc
    fair_c = fair_without v i fair

    fair_on : IsFair (onto [] v)
    fair_on = record { order = fair.order; words = fair.words }

    elsewhere : (j : ℕ) → (i ≡ j → ⊥) → due_of j vc.timers.set ≡ due_of j v.timers.set
    elsewhere j ne = dues_without v i j fair ∙ with_there i None (λ j. due_of j v.timers.set) j ne

    clock : a.clock ≡ v.now
    clock = y.clock (Untold w) f.parts.stream (sight v) alone g.streams

    abbrev Goal : Two → View → Type 0
    Goal = Leaves (served c) (IsFallback c Tied names Owns s) (names_in c Tied names Owns s) (OwnsEither c Tied names Owns s) (Chain (served c) s v.place a) (names_in c Tied names Owns s f) f vc (Untold w)

    -- It is the datagrams'.
    module _ (k : ℕ) (own : entry_at i tables.timers ≡ Some k) where
      streams_c : Tied (Untold w) f.parts.stream (sight vc) alone
      streams_c = y.tie.same (Untold w) f.parts.stream (sight v) (sight vc) alone g.streams refl (λ j o. elsewhere j (λ e. g.timers i (k, own) (subst (Owns f.parts.stream) (sym e) o))) (le_refl v.timers.next) (le_refl v.ticket) (le_refl v.place)

      fired : (z : dgram.Tables Request) (x : View) → HasFired c s tables d (onto [] vc) z x → Leads Goal (settled_alone f vc z x)
      fired z x h = leads_first _ _ _
          (dgrams_leave b c same_transports s t first Tied names Owns y f vc d d fair_c g.server g.dgram_server g.settings h.made z x h.leaves g.timers
          ((requests_stay c).steps s v.now v.place d h.made h.steps) (Untold w) (Untold w) a streams_c g.places g.apart
          v.ticket (names_of tables) g.waiting h.leaves.after.ticket h.posts
          (steps_whole c s v.now v.place d h.made (whole_at_first d (settled c 0 (slots_of tables) d _ g.slots.alike)) h.steps) tt (λ told. absurd told) (Chain (served c) s v.place a)
          (servers_move.steps c s v.place a h.made (subst (λ n. Steps c s n v.place d h.made) (sym clock) h.steps)))

      tied_fired : (z : dgram.Tables Request) (x : View) → HasFired c s tables d (onto [] vc) z x → Tied (Untold w) f.parts.stream (sight x) alone
      tied_fired z x h = tied_now b c same_transports s t first Tied names Owns y f vc d d fair_c g.server g.dgram_server g.settings h.made z x h.leaves g.timers ((requests_stay c).steps s v.now v.place d h.made h.steps) (Untold w) (Untold w) a streams_c g.places g.apart

      dgrams_fire : Leads Goal ((fallback.transport (dgram.transport for_one) t).step (due_timer i) f vc)
      dgrams_fire = leads_hears f vc (due_timer i) (HasFired c s tables d (onto [] vc)) Goal (dgram.late f.parts.dgram.server i tables (onto [] vc))
          (subst (λ n. calls.Leads (HasFired c s tables d (onto [] vc)) (dgram.late n i tables (onto [] vc))) (sym g.dgram_server) ((calls_are_moves c).fires s tables d (onto [] v) i due g.slots fair_on set late))
          (λ z x h. streams_pass f vc (due_timer i) Goal z x (y.shared.timers (Untold w) f.parts.stream (onto [] x) alone i (tied_fired z x h) (λ o. g.timers i (k, own) o)) (fired z x h))

    -- It is none of theirs.
    module _ (none : entry_at i tables.timers ≡ None) where
      slots_c : AreSlots c 0 tables d (sight vc)
      slots_c = (slots_are_known c).same tables d (sight v) (sight vc) g.slots (λ j o. elsewhere j (λ e. (let z : None ≡ Some o.0 = sym none ∙ (ap (λ i. entry_at i tables.timers) e ∙ o.1) in cc))) (le_refl v.timers.next) (le_refl v.ticket) (le_refl v.place)

      apart : (j n : ℕ) → is_some (d.held n) ≡ true → names f.parts.stream j ≡ Some n → ⊥
      apart j n held e = g.apart n held (y.tie.named (Untold w) f.parts.stream (sight v) alone j n g.streams e).1

      below_all : (p n : ℕ) → p < n → n ≤ p → ⊥
      below_all p n lt le = omega arith

      abbrev Streams_leave : S → View → Type 0
      Streams_leave = Leaves (served b) Tied names Owns (Chain (served b) s v.place alone) (names f.parts.stream) f.parts.stream (onto [] vc) (Untold w)

      left : (u : S) (x : View) → Streams_leave u x → Goal (record f { parts = (fallback.gives_rest f.server t x.board (record f.parts { stream = u }) (onto v.board x)).0 }) (fallback.gives_rest f.server t x.board (record f.parts { stream = u }) (onto v.board x)).1
      left u x l =
          let z = l.made.state in
          let untaken = (y.pending (Untold w) w u (sight x) z refl l.tied).1 in
          let chain = sitting_beside c b same_transports s d v.place alone l.made refl (y.pending (Untold w) w f.parts.stream (sight v) alone refl g.streams).2 l.may untaken in
          streams_leave b c same_transports s t first Tied names Owns y f vc d fair_c g.server g.dgram_server g.settings slots_c (names f.parts.stream) v.ticket g.waiting g.timers apart (Chain (served b) s v.place alone) (Untold w) u x l l.goes_on.ticket (Untold w) z
          (subst (Tied (Untold w) u (sight x)) (ap (λ (e : Dgrams). with_dgrams e z) (y.alone (Untold w) u (sight x) z l.tied)) l.tied)
          (λ p n at op. elim ((openings_are_new c s v.place a (beside d l.made) chain).1 p op) [ inl was ↦ g.places p n at was | inr le ↦ below_all p v.place ((slots_are_known c).placed tables d (sight v) p n g.slots at) le ])
          tt (λ told. absurd told) (Chain (served c) s v.place a) chain

      streams_fire : Leads Goal ((fallback.transport (dgram.transport for_one) t).step (due_timer i) f vc)
      streams_fire = subst (λ o. Leads Goal (with_parts f (option_and_then (hears_stream f.server (dgram.transport for_one) t (due_timer i) f.parts vc) (dgram.with_tables f.parts.dgram o)))) (sym (late_passes f.parts.dgram.server i tables (onto [] vc) none))
          (leads_both b c same_transports s t first Tied names Owns y f vc d fair_c g.server g.dgram_server g.settings slots_c (names f.parts.stream) v.ticket g.waiting g.timers apart Streams_leave Goal (t.step (due_timer i) f.parts.stream (onto [] vc))
          (y.tie.fires f.parts.stream (onto [] v) alone w i due g.streams fair_on set late) left)

    pub fires_one : Leads Goal ((fallback.transport (dgram.transport for_one) t).step (due_timer i) f vc)
    fires_one = go (entry_at i tables.timers) refl
      where
        go : (o : Option ℕ) → entry_at i tables.timers ≡ o → Leads Goal ((fallback.transport (dgram.transport for_one) t).step (due_timer i) f vc)
        go None e = streams_fire e
        go (Some k) e = dgrams_fire k e
