-- An event is told to a fallback: the datagrams take it, or what was cut goes on by the streams, or the streams hear it.
use Rattle.std.proofs.Common.{◌≡◌, ℕ, ◌+◌, ◌<◌, inl, inr, true, false, [], Option, Some, None, refl, sym, subst, ◌∙◌, arith}
use Rattle.std.specs.Prelude.{nat_lt}
use Rattle.std.proofs.lemmas.Bool.Decides.{nat_tests}
use Rattle.client_request.specs.Request.{Request}
use Rattle.client_request.specs.Requests.{for_one}
use Rattle.client_request.specs.View.{View, Transport, told}
use Rattle.client_request.specs.declared.event.What.{What}
use Rattle.client_dgram.specs.Plain as dgram
use Rattle.client_stream.specs.Plain as stream
use Rattle.client_multi.specs.Fallback.{onto, with_parts, hears_stream}
use Rattle.right_trace.specs.Trace.{Conf}
use Rattle.proof_right.specs.machine.Part.{Act}
use Rattle.proof_right.specs.machine.Streams as multi
use Rattle.proof_right.specs.machine.Streams.{Multi, IsForeign}
use Rattle.proof_right.specs.machine.Dgrams as dgrams
use Rattle.proof_right.specs.machine.Dgrams.{Dgrams, no_datagram, Meets}
use Rattle.proof_right.specs.machine.Served.{Served, served, has_taken_it, IsInTime, RestsNow}
use Rattle.proof_parts.specs.Chains.{Chain, Goes, then_act}
use Rattle.proof_parts.specs.PartTie.{Phase, Untold, Told, Leads, Leaves, Tells, MayLeave}
use Rattle.proof_parts.specs.Sights.{Sight, sight, IsFair, NoneDue}
use Rattle.proof_dgram.specs.AtServer.{with_dgrams, taken_by, at_server}
use Rattle.proof_dgram.specs.Calls as calls
use Rattle.proof_dgram.specs.Calls.{HasTold, Passes, Moves, Cuts}
use Rattle.proof_dgram.specs.Halves.{AreInTime}
use Rattle.proof_dgram.specs.Slots.{slots_of, names_of}
use Rattle.proof_dgram.specs.Staying.{AsksTheSame}
use Rattle.proof_dgram.specs.Steps.{AtOnce, Steps}
use Rattle.proof_dgram.specs.Fallback.{AreStreams, IsFallback, Both, names_in, OwnsEither}
use Rattle.proof_dgram.proofs.AtServer.{servers_move}
use Rattle.proof_dgram.proofs.BesideDgrams.{dgrams_leave, tied_now}
use Rattle.proof_dgram.proofs.Changing.{settled}
use Rattle.proof_dgram.proofs.Known.{slots_are_known}
use Rattle.proof_dgram.proofs.OtherConf.{silent_same}
use Rattle.proof_dgram.proofs.Staying.{asks_then, requests_stay}
use Rattle.proof_dgram.proofs.Timing.{settled_alone, streams_pass}
use Rattle.proof_dgram.proofs.Wholes.{all_then, at_once_whole, meets_whole, steps_whole, whole_at_first}

-- What the datagrams take is nothing to the streams, and leaves no frame.
pub record IsTheirs (w : What) (m : Multi) : Type 0 where
  pub foreign : IsForeign w m
  pub none : MayLeave w 0 0

pub theirs : (c : Conf) (n : ℕ) (d e : Dgrams) (w : What) (x : multi.Act) (m : Multi) → ((p k : ℕ) → d.at p ≡ Some k → m.opening ≡ Some p → ⊥) → Meets c n d w x e → IsTheirs w m
theirs c n d _ _ _ m apart (dgrams.IsSent k a p id o at held stage carries) = record { foreign = λ e. apart p k at e; none = refl }
theirs c n d _ _ _ m apart (dgrams.CannotBeSent k a p e at held stage bad) = record { foreign = λ e. apart p k at e; none = refl }
theirs c n d _ _ _ m apart (dgrams.DoesNotOpen k a p f at held stage) = record { foreign = λ e. apart p k at e; none = refl }
theirs c n d _ _ _ m apart (dgrams.NotSent k a p id t f at held stage) = record { foreign = tt; none = refl }
theirs c n d _ _ _ m apart (dgrams.SentShort k a p id t at held stage) = record { foreign = tt; none = refl }
theirs c n d _ _ _ m apart (dgrams.NotReceived k a p id t f at held stage) = record { foreign = tt; none = refl }
theirs c n d _ _ _ m apart (dgrams.IsAnswered k a p id t o at held stage long ok) = record { foreign = λ q e. absurd (let z : false ≡ true = e in cc); none = refl }

pub none_more : false ≡ nat_lt 0 0
none_more = grind (arith, nat_tests)

module _ (b c : Conf) (same_transports : b.transports ≡ c.transports) (s : ℕ) {S : Type 0} (t : Transport Request S stream.Asked) (first : S) (Tied : Phase → S → Sight → Served → Type 0) (names : S → ℕ → Option ℕ) (Owns : S → (timer : ℕ) → Type 0) (y : AreStreams b s t first Tied names Owns) where
  abbrev Two : Type 0
  Two = Both c Tied names Owns s

  module _ (f : Two) (v : View) (a : Served) (w : What) (g : IsFallback c Tied names Owns s (Untold w) f (sight v) a) (fair : IsFair v) (early : NoneDue (OwnsEither c Tied names Owns s f) (sight v)) (calm : v.more ≡ false) where
    abbrev d : Dgrams
    d = a.server.by_dgram

    abbrev alone : Served
    alone = with_dgrams no_datagram a

    abbrev tables : dgram.Tables Request
    tables = f.parts.dgram.tables

    abbrev pub taken : Served
    taken = has_taken_it a.server a

    abbrev pub Tell : Two → View → Type 0
    Tell = Tells (served c) (IsFallback c Tied names Owns s) (names_in c Tied names Owns s) (OwnsEither c Tied names Owns s) (Chain (served c) s v.place a) f v (MayLeave w)

    clock : a.clock ≡ v.now
    clock = y.clock (Untold w) f.parts.stream (sight v) alone g.streams

    reading : AreInTime c a.clock d
    reading = subst (λ n. AreInTime c n d) (sym clock) ((slots_are_known c).rests tables d (sight v) g.slots (λ i due own e. early i due (inl own) e)).reading

    streams_early : NoneDue (Owns f.parts.stream) (sight v)
    streams_early i due own e = early i due (inr own) e

    -- no request is at a timeout
    pub in_time : IsForeign w a.server.by_stream → IsInTime c a.clock a.server
    in_time foreign = (let r : RestsNow b (has_taken_it alone.server alone) = y.tie.rests (Told 0 0) f.parts.stream v (has_taken_it alone.server alone) refl streams_early (y.taken w f.parts.stream (sight v) alone streams_early g.streams foreign) in record { sent = reading; asked = λ k q is. subst (λ t. a.clock < q.since + t) (silent_same b c same_transports) (r.rests.silent k q is) })

    -- the datagrams take the event
    pub takes_it : (x : multi.Act) (e : Dgrams) (one : Act Dgrams) → Meets c v.now d w x e → IsForeign w a.server.by_stream → AtOnce v.place x e one → (more : Act Dgrams) → Steps c s v.now one.place one.state more → Chain (served c) s v.place a (then_act (at_server a taken_by one) (at_server (taken_by one.state a) with_dgrams more))
    takes_it x e one meets foreign at more steps =
        let same = (y.pending (Untold w) w f.parts.stream (sight v) alone refl g.streams).0 in
        Goes v.place a (at_server a taken_by one) (at_server (taken_by one.state a) with_dgrams more)
        (servers_move.told c s v.place a x e one (y.pending (Untold w) w f.parts.stream (sight v) alone refl g.streams).1 (in_time foreign) (subst (λ w. IsForeign w a.server.by_stream) (sym same) foreign)
        (subst (λ w. Meets c a.clock d w x e) (sym same) (subst (λ n. Meets c n d w x e) (sym clock) meets)) at)
        (servers_move.steps c s one.place (taken_by one.state a) more (subst (λ n. Steps c s n one.place one.state more) (sym clock) steps))

    -- the streams let it pass
    pub passed_by : (z : dgram.Tables Request) (q : View) (made : Act Dgrams) → calls.Leaves c tables d (onto [] v) made z q → AsksTheSame d made.state → IsForeign w a.server.by_stream → (R : Two → View → Type 0) → Leads R (settled_alone b c same_transports s t first Tied names Owns y f v z q) → Leads R (with_parts f (hears_stream f.server (dgram.transport for_one) t (told w) f.parts v (record f.parts.dgram { tables = z }, q)))
    passed_by z q made l asks foreign R done = streams_pass b c same_transports s t first Tied names Owns y f v (told w) R z q
        (y.foreign w f.parts.stream (onto [] q) alone (tied_now b c same_transports s t first Tied names Owns y f v d d fair g.server g.dgram_server g.settings made z q l g.timers asks (Untold w) (Untold w) a g.streams g.places g.apart) foreign) done

    module _ (z : dgram.Tables Request) (q : View) (x : multi.Act) (e : Dgrams) (one more : Act Dgrams) (meets : Meets c v.now d w x e) (at : AtOnce v.place x e one) (steps : Steps c s v.now one.place one.state more) (l : calls.Leaves c tables d (onto [] v) (then_act one more) z q) (posts : calls.Posts (names_of tables) (onto [] v) (then_act one more) z q) where
      it_is : IsTheirs w a.server.by_stream
      it_is = theirs c v.now d e w x a.server.by_stream g.places meets

      asks : AsksTheSame d more.state
      asks = asks_then d e more.state ((requests_stay c).meets v.now v.place d e w x meets) (asks_then e one.state more.state ((requests_stay c).at_once v.place x e one at) ((requests_stay c).steps s v.now one.place one.state more steps))

      leads_told : (P : Two → View → Type 0) (o : Option (Two × View)) → ((u : Two) (x : View) → P u x → Leaves (served c) (IsFallback c Tied names Owns s) (names_in c Tied names Owns s) (OwnsEither c Tied names Owns s) (Chain (served c) s v.place a) (names_in c Tied names Owns s f) f v (Told 0 0) u x) → Leads (λ g x. P g x × (x.more ≡ v.more)) o → Leads Tell o
      leads_told P None k l = tt
      leads_told P (Some o) k l = record { at = 0; left = 0; may_be = it_is.none; more = l.1 ∙ (calm ∙ none_more); leaves = k o.0 o.1 l.0 }

      pub dgrams_told : Leads Tell (with_parts f (hears_stream f.server (dgram.transport for_one) t (told w) f.parts v (record f.parts.dgram { tables = z }, q)))
      dgrams_told =
          let w0 = whole_at_first d (settled c 0 (slots_of tables) d _ g.slots.alike) in
          let w1 = meets_whole c v.now d e w x w0 meets in
          let w2 = at_once_whole v.place x e one w1.0 w1.1 at in
          passed_by z q (then_act one more) l asks it_is.foreign Tell
          (leads_told _ (settled_alone b c same_transports s t first Tied names Owns y f v z q) (λ u x k. k)
          (dgrams_leave b c same_transports s t first Tied names Owns y f v d d fair g.server g.dgram_server g.settings (then_act one more) z q l g.timers asks (Untold w) (Told 0 0) taken (y.taken w f.parts.stream (sight v) alone streams_early g.streams it_is.foreign) g.places g.apart
          v.ticket (names_of tables) g.waiting l.after.ticket posts (all_then one.posts more.posts w2.1 (steps_whole c s v.now one.place one.state more w2.0 steps)) tt (λ told i due own e. early i due (inl own) e) (Chain (served c) s v.place a) (takes_it x e one meets it_is.foreign at more steps)))
