-- What an event does to the one server, done by the client of parts.
use Rattle.std.proofs.Common.{◌≡◌, ℕ, zero, suc, ◌+◌, ◌<◌, ◌≤◌, Bool, true, false, Option, Some, None, List, [], ◌∷◌, ◌++◌, length, take, refl, arith, sym, ap, subst, ◌∙◌, ◌==◌}
use Rattle.std.specs.Prelude.{if◌then◌else◌, ◌&&◌, nat_lt, nat_le, Result, Ok, Err, option_map}
use Rattle.std.proofs.lemmas.Bool.Decides.{nat_tests}
use Rattle.std.proofs.lemmas.Bool.{ltb-true, ltb-false, leb-true}
use Rattle.client_request.specs.Request.{Request}
use Rattle.client_request.specs.Carries.{IsOfOctets}
use Rattle.client_request.specs.declared.error.Error.{Error}
use Rattle.client_request.specs.declared.event.What.{What}
use Rattle.client_request.specs.declared.event.What.TheVariants.{Ask, Opened, OpenFailed, SendFailed, ShortSend, Datagram, RecvFailed, Wrote, WriteFailed, Bytes, ReadFailed, Ended, Tick}
use Rattle.client_request.specs.declared.event.Out.TheVariants.{Start, OpenDgram, Send, Close, Reply}
use Rattle.client_request.specs.declared.event.Via.TheVariants.{Dgram}
use Rattle.right_trace.specs.Trace.{Conf, Use, ByDatagrams}
use Rattle.right_trace.specs.Time.{read_timeout, recv_size, max_places}
use Rattle.right_trace.specs.Messages.{Octets, Composes, answers, truncated, under}
use Rattle.right_trace.specs.Requests.{is_ask}
use Rattle.right_trace.specs.Settings.{Settings, defers_nothing}
use Rattle.right_trace.specs.Orderly.{use_at}
use Rattle.right_trace.specs.Timely.{IsAskedInOctets}
use Rattle.proof_right.specs.Theorem.{IsUncut}
use Rattle.proof_right.specs.machine.Streams.{Multi, Puts, Nothing, IsForeign}
use Rattle.proof_right.specs.machine.Dgrams.{Dgrams, Tryer, TriesAt, SentAt, IsIgnored}
use Rattle.proof_right.specs.machine.Served.{Served, has_moved, has_taken_it, does, place_after, outs_of, AsItIs, WithResult, TellsDgrams, IsInTime, IsHanded}
use Rattle.proof_right.specs.machine.Client.{Waiting, Leaving, Upper, Made, Move, Server_moves, Hands_on, Answers, Takes_on, moved, hand, handing, take_on, answer, outcome, AtOnce, Refused, Nowhere}
use Rattle.proof_right.specs.machine.Single.{Stage, Queued, Loose, Trying, Sent, Held, State, Done, staged, nothing, loosen, try, settle, finish, Quiet, with_held, with_owner, dispatched, dispatch, send_composed, failed_at, broken_at, message_at, newcomer, admit, line_up, settle_in, enter, refuse, refusal_of, enter_or_refuse, opened_at, content}
use Rattle.right_trace.specs.Updates.{with_at}
use Rattle.proof_right.proofs.Carried.{carried_by}
use Rattle.proof_right.proofs.single.Standing.{placed, Standing, here, there, stands_so, gives_on}
use Rattle.proof_right.proofs.single.Alike.{stage_in, tryer_of, waiting_of, Follows, both_at, one_at, Still, Told, others_stay, Alike, settled_all, Leads, Stays, Then, Does, then_does, by_one, takes_place, replies}
use Rattle.proof_right.proofs.single.Acting.{settled_so, gone, settles, error_so}
use Rattle.proof_right.proofs.client.Outcomes.{at_once_plain}
use Rattle.proof_right.specs.machine.Streams as multi
use Rattle.proof_right.specs.machine.Dgrams as dgrams
use Rattle.proof_right.specs.machine.Server as server
use Rattle.proof_right.specs.machine.Client as upper
use Rattle.proof_right.proofs.single.Standing as standing
use Rattle.client_request.specs.declared.error.Error.TheVariants as errors
use Rattle.client_request.specs.declared.error.QueryError.TheVariants as query
use Rattle.client_request.specs.declared.fault.Fault.TheVariants as fault

-- where no stream is, no event is about one
pub foreign : (w : What) (m : Multi) → Still m → IsForeign w m
foreign (Ask r) m s = λ p e. s.conns p
foreign (Opened p) m s = λ e. (let z = sym s.opening ∙ e in cc)
foreign (OpenFailed p f) m s = λ e. (let z = sym s.opening ∙ e in cc)
foreign (SendFailed p f) m s = tt
foreign (ShortSend p) m s = tt
foreign (Datagram p o) m s = λ p e. s.conns p
foreign (RecvFailed p f) m s = tt
foreign (Wrote p n) m s = s.conns p
foreign (WriteFailed p f) m s = λ p e. s.conns p
foreign (Bytes p o) m s = s.conns p
foreign (ReadFailed p f) m s = λ p e. s.conns p
foreign (Ended p) m s = λ p e. s.conns p
foreign Tick m s = λ p e. s.conns p

-- TC is among the octets of a datagram that are looked at
whole_still : (n : ℕ) (o : Octets) → 12 ≤ length (take n o) → (truncated (take n o) ≡ truncated o) × (3 ≤ length o)
unfolding truncated
whole_still zero o long = absurd (omega arith)
whole_still (suc zero) [] long = absurd (omega arith)
whole_still (suc zero) (a ∷ o) long = absurd (omega arith)
whole_still (suc (suc zero)) [] long = absurd (omega arith)
whole_still (suc (suc zero)) (a ∷ []) long = absurd (omega arith)
whole_still (suc (suc zero)) (a ∷ b ∷ o) long = absurd (omega arith)
whole_still (suc (suc (suc n))) [] long = absurd (omega arith)
whole_still (suc (suc (suc n))) (a ∷ []) long = absurd (omega arith)
whole_still (suc (suc (suc n))) (a ∷ b ∷ []) long = absurd (omega arith)
whole_still (suc (suc (suc n))) (a ∷ b ∷ d ∷ o) long = (refl, omega arith)

uncut : (c : Conf) → (p : ℕ) (o : Octets) → IsUncut (Datagram p o) → 12 ≤ length (take (recv_size c) o) → truncated (take (recv_size c) o) ≡ false
uncut c p o whole long = (let w = whole_still (recv_size c) o long in w.0 ∙ whole w.1)

-- what is at a place: nothing, a request that waits for it to open, or one that was sent there
data AtPlace (s : State) (p : ℕ) : Type 0 where
  Free : s.at p ≡ None → AtPlace s p
  Tries : (k : ℕ) (a : Held) → s.at p ≡ Some k → s.held k ≡ Some a → a.stage ≡ Trying p → AtPlace s p
  Waits : (k : ℕ) (a : Held) (id m : ℕ) → s.at p ≡ Some k → s.held k ≡ Some a → a.stage ≡ Sent p id m → AtPlace s p

at_place : (c : Conf) → (n : ℕ) (s : State) → Standing c n s → (p : ℕ) → AtPlace s p
at_place c n s inv p = go (s.at p) refl
  where
    by_stage : (k : ℕ) (a : Held) → s.at p ≡ Some k → s.held k ≡ Some a → (st : Stage) → a.stage ≡ st → placed st ≡ Some p → AtPlace s p
    by_stage k a at held Queued e f = absurd (cc)
    by_stage k a at held Loose e f = absurd (cc)
    by_stage k a at held (Trying q) e f = Tries k a at held (e ∙ (let is : q ≡ p = cc in ap Trying is))
    by_stage k a at held (Sent q id m) e f = Waits k a id m at held (e ∙ (let is : q ≡ p = cc in ap (λ q. Sent q id m) is))

    go : (o : Option ℕ) → s.at p ≡ o → AtPlace s p
    go None e = Free e
    go (Some k) e = (let a = inv.slots p k e in by_stage k a.0 e a.1 a.0.stage refl a.2)

module _ (c : Conf) (st : Settings) (compose : Request → Result Octets Error) where
  -- How an event ends: what is told then, and whether the first server has taken it or ignores it, then and later.
  pub record Met (w : What) (x : Upper Served) (s : State) (d : Done) : Type 0 where
    pub told : Told
    pub does : Does c st compose told [] x d.state d.outs
    pub answered : is_ask told.upper ≡ false
    pub stands : Standing c (length c.servers) d.state
    pub ignores : (g : Dgrams) → IsIgnored c told.first g

  -- or nothing happens, now and later
  pub data Meets (w : What) (x : Upper Served) (s : State) (d : Done) : Type 0 where
    Does_so : Met w x s d → Meets w x s d
    Passes : d ≡ nothing s → is_ask w ≡ false → IsIgnored c w (x.ups 0).server.by_dgram → Meets w x s d

  module _ (has : Bool) (composes : Composes c compose) (defers : defers_nothing st ≡ true) (uses : (u : Use) → use_at 0 c.servers ≡ Some u → u ≡ ByDatagrams) where
    module _ (w : What) (x : Upper Served) (s : State) (alike : Alike (record { upper = w; first = w; taken = false; others = w }) [] x s) (inv : Standing c (length c.servers) s) (quiet : Quiet c s) where
      abbrev t : Told
      t = record { upper = w; first = w; taken = false; others = w }

      abbrev d : Dgrams
      d = (x.ups 0).server.by_dgram

      is_held : (k : ℕ) (a : Held) → s.held k ≡ Some a → d.held k ≡ Some (tryer_of a)
      is_held k a held = alike.first.held k ∙ ap (option_map tryer_of) held

      at_it : (p k : ℕ) → s.at p ≡ Some k → d.at p ≡ Some k
      at_it p k e = alike.first.at p ∙ e

      -- whose place it is
      its : (p k j : ℕ) → s.at p ≡ Some k → d.at p ≡ Some j → k ≡ j
      its p k j e f = (let z : Some k ≡ Some j = sym (at_it p k e) ∙ f in cc)

      its_tryer : (p k j : ℕ) (a : Held) (b : Tryer) → s.at p ≡ Some k → s.held k ≡ Some a → d.at p ≡ Some j → d.held j ≡ Some b → tryer_of a ≡ b
      its_tryer p k j a b at held at' held' = (let z : Some (tryer_of a) ≡ Some b = sym (is_held k a held) ∙ (ap d.held (its p k j at at') ∙ held') in cc)

      nobody : (p j : ℕ) → s.at p ≡ None → d.at p ≡ Some j → ⊥
      nobody p j e f = (let z = sym (alike.first.at p ∙ e) ∙ f in cc)

      in_time : IsInTime c (x.ups 0).clock (x.ups 0).server
      in_time = record {
        sent = λ k a p id m held stage. subst (λ n. n < m + read_timeout c) (sym alike.first.clock) (early k (s.held k) a p id m refl (sym (alike.first.held k) ∙ held) stage);
        asked = λ k a ask. (let z = sym (alike.first.still.asks k) ∙ ask in absurd (cc));
      }
        where
          by_stage : (k : ℕ) (b : Held) (p id m : ℕ) → s.held k ≡ Some b → (stage : Stage) → b.stage ≡ stage → stage_in stage ≡ dgrams.Sent p id m → s.now < m + read_timeout c
          by_stage k b p id m held Queued e f = absurd (cc)
          by_stage k b p id m held Loose e f = absurd (cc)
          by_stage k b p id m held (Trying q) e f = absurd (cc)
          by_stage k b p id m held (Sent q i u) e f = (let is : u ≡ m = cc in subst (λ m. s.now < m + read_timeout c) is ((quiet k b held).reading q i u e))

          early : (k : ℕ) (o : Option Held) (a : Tryer) (p id m : ℕ) → s.held k ≡ o → option_map tryer_of o ≡ Some a → a.stage ≡ dgrams.Sent p id m → s.now < m + read_timeout c
          early k None a p id m e f stage = absurd (cc)
          early k (Some b) a p id m e f stage = (let is : tryer_of b ≡ a = cc in by_stage k b p id m e b.stage refl (ap (λ (a : Tryer). a.stage) is ∙ stage))

      taken_told : Told
      taken_told = record t { first = Tick; taken = true }

      -- the event ends a request's place: it has this result
      ends : (not_asked : is_ask w ≡ false) (p k : ℕ) (a : Held) (r : Result Octets Error) (act : multi.Act) → s.held k ≡ Some a → placed a.stage ≡ Some p
          → dgrams.Meets c (x.ups 0).clock d w act (dgrams.leave p k (tryer_of a) (dgrams.Ending r) d) → place_after act x.place ≡ x.place
          → Meets w x s (record { state = (settle k r (loosen p k a s)).state; outs = outs_of act ++ (settle k r (loosen p k a s)).outs })
      ends not_asked p k a r act held at meets same = Does_so (record {
        told = record t { first = Tick; taken = true };
        does = settles c st compose defers t x s alike (length c.servers) inv (inv.some k a held) Tick true p k a r u (place_after act x.place) (outs_of act) held at same
            (TellsDgrams act d' _ alike.told.taken in_time (subst (λ w. dgrams.Meets c (x.ups 0).clock d w act d') (sym alike.told.pending) meets) (foreign (x.ups 0).pending (x.ups 0).server.by_stream alike.first.still)
            (WithResult k (dgrams.staged (tryer_of a) (dgrams.Ending r)) r (here k (Some (dgrams.staged (tryer_of a) (dgrams.Ending r))) d.held) refl))
            (let g = gone p k (tryer_of a) (dgrams.Ending r) (x.ups 0) s alike.first in record { clock = g.clock; held = g.held; at = g.at; used = g.used; still = g.still; frames = refl })
            (record { pending = refl; taken = refl });
        answered = not_asked;
        stands = settled_so c (length c.servers) s inv (λ S o. Standing c (length c.servers) S) (λ S o f e i. stands_so c (length c.servers) S i f e) p k a r held at (gives_on c (length c.servers) s inv p k a held at);
        ignores = λ g. tt;
      })
        where
          d' : Dgrams
          d' = dgrams.leave p k (tryer_of a) (dgrams.Ending r) d

          u : Served
          u = has_moved (record (x.ups 0).server { by_dgram = dgrams.forget k d' }) (has_taken_it (record (x.ups 0).server { by_dgram = d' }) (x.ups 0))

      -- the event does nothing, and is ignored
      passes : (e : Done) → e ≡ nothing s → is_ask w ≡ false → IsIgnored c w d → Meets w x s e
      passes e is not_asked ignored = Passes is not_asked ignored

      with_it : (f : ℕ → Held → State → Done) (p k : ℕ) (a : Held) → s.at p ≡ Some k → s.held k ≡ Some a → with_owner f (s.at p) s ≡ f k a s
      with_it f p k a at held = ap (λ o. with_owner f o s) at ∙ ap (λ o. with_held k f o s) held

      with_none : (f : ℕ → Held → State → Done) (p : ℕ) → s.at p ≡ None → with_owner f (s.at p) s ≡ nothing s
      with_none f p at = ap (λ o. with_owner f o s) at

      -- a place at which nobody tries, or nobody was sent
      none_tries : (p : ℕ) → s.at p ≡ None → TriesAt p d → ⊥
      none_tries p e z = nobody p z.0 e z.2

      none_sent : (p : ℕ) → s.at p ≡ None → SentAt p d → ⊥
      none_sent p e z = nobody p z.0 e z.4

      sent_tries : (p k : ℕ) (a : Held) (id m : ℕ) → s.at p ≡ Some k → s.held k ≡ Some a → a.stage ≡ Sent p id m → TriesAt p d → ⊥
      sent_tries p k a id m at held stage z = (let e = its_tryer p k z.0 a z.1 at held z.2 z.3 in let y : dgrams.Sent p id m ≡ dgrams.Trying p = sym (ap stage_in stage) ∙ (ap (λ (a : Tryer). a.stage) e ∙ z.4) in cc)

      tries_sent : (p k : ℕ) (a : Held) → s.at p ≡ Some k → s.held k ≡ Some a → a.stage ≡ Trying p → SentAt p d → ⊥
      tries_sent p k a at held stage z = (let e = its_tryer p k z.0 a z.1 at held z.4 z.5 in let y : dgrams.Trying p ≡ dgrams.Sent p z.2 z.3 = sym (ap stage_in stage) ∙ (ap (λ (a : Tryer). a.stage) e ∙ z.6) in cc)

      -- a place breaks at which somebody was sent
      breaks : (not_asked : is_ask w ≡ false) (p : ℕ) (e : Error) → ((k : ℕ) (a : Held) (id m : ℕ) → d.at p ≡ Some k → d.held k ≡ Some (tryer_of a) → stage_in a.stage ≡ dgrams.Sent p id m → dgrams.Meets c (x.ups 0).clock d w (Puts (Close p)) (dgrams.leave p k (tryer_of a) (dgrams.Ending (Err e)) d))
          → ((SentAt p d → ⊥) → IsIgnored c w d) → Meets w x s (with_owner (λ k a. broken_at p e a.stage k a) (s.at p) s)
      breaks not_asked p e meets ignored = go (at_place c (length c.servers) s inv p)
        where
          go : AtPlace s p → Meets w x s (with_owner (λ k a. broken_at p e a.stage k a) (s.at p) s)
          go (Free at) = passes _ (with_none (λ k a. broken_at p e a.stage k a) p at) not_asked (ignored (none_sent p at))
          go (Tries k a at held stage) = passes _ (with_it (λ k a. broken_at p e a.stage k a) p k a at held ∙ ap (λ st. broken_at p e st k a s) stage) not_asked (ignored (tries_sent p k a at held stage))
          go (Waits k a id m at held stage) =
              subst (Meets w x s) (sym (with_it (λ k a. broken_at p e a.stage k a) p k a at held ∙ ap (λ st. broken_at p e st k a s) stage))
              (ends not_asked p k a (Err e) (Puts (Close p)) held (ap placed stage) (meets k a id m (at_it p k at) (is_held k a held) (ap stage_in stage)) refl)

      -- a place does not open for which somebody waits
      fails : (not_asked : is_ask w ≡ false) (p : ℕ) (e : Error) → ((k : ℕ) (a : Held) → d.at p ≡ Some k → d.held k ≡ Some (tryer_of a) → stage_in a.stage ≡ dgrams.Trying p → dgrams.Meets c (x.ups 0).clock d w Nothing (dgrams.leave p k (tryer_of a) (dgrams.Ending (Err e)) d))
          → ((TriesAt p d → ⊥) → IsIgnored c w d) → Meets w x s (with_owner (λ k a. failed_at p e a.stage k a) (s.at p) s)
      fails not_asked p e meets ignored = go (at_place c (length c.servers) s inv p)
        where
          go : AtPlace s p → Meets w x s (with_owner (λ k a. failed_at p e a.stage k a) (s.at p) s)
          go (Free at) = passes _ (with_none (λ k a. failed_at p e a.stage k a) p at) not_asked (ignored (none_tries p at))
          go (Waits k a id m at held stage) = passes _ (with_it (λ k a. failed_at p e a.stage k a) p k a at held ∙ ap (λ st. failed_at p e st k a s) stage) not_asked (ignored (sent_tries p k a id m at held stage))
          go (Tries k a at held stage) =
              subst (Meets w x s) (sym (with_it (λ k a. failed_at p e a.stage k a) p k a at held ∙ ap (λ st. failed_at p e st k a s) stage))
              (ends not_asked p k a (Err e) Nothing held (ap placed stage) (meets k a (at_it p k at) (is_held k a held) (ap stage_in stage)) refl)

      -- a request is sent
      dispatches : (not_asked : is_ask w ≡ false) (p id k : ℕ) (a : Held) (o : Octets) → s.at p ≡ Some k → s.held k ≡ Some a → a.stage ≡ Trying p → dgrams.Meets c (x.ups 0).clock d w (Puts (Send p k id o)) (dgrams.send_at p id (x.ups 0).clock k (tryer_of a) d)
          → Meets w x s (record { state = dispatch p k id a s; outs = Send p k id o ∷ [] })
      dispatches not_asked p id k a o at held stage meets = Does_so (record {
        told = record t { first = Tick; taken = true };
        does = by_one c st compose (record t { first = Tick; taken = true }) [] x (record { state = moved 0 (does u x.place (Puts (Send p k id o))) x; outs = Send p k id o ∷ [] }) (dispatch p k id a s)
            (Server_moves 0 (does u x.place (Puts (Send p k id o))) (inv.some k a held)
            (TellsDgrams (Puts (Send p k id o)) d' _ alike.told.taken in_time (subst (λ w. dgrams.Meets c (x.ups 0).clock d w (Puts (Send p k id o)) d') (sym alike.told.pending) meets) (foreign (x.ups 0).pending (x.ups 0).server.by_stream alike.first.still) (AsItIs (settled_all (dispatch p k id a s).held d' follows))))
            (record {
              now = alike.now;
              asked = alike.asked;
              place = alike.place;
              held = one_at waiting_of s.held x.held alike.held k (Some (dispatched p id a s.now)) (sym (alike.held k ∙ ap (option_map waiting_of) held));
              first = record { clock = alike.first.clock; held = follows; at = alike.first.at; used = alike.first.used; still = alike.first.still; frames = refl };
              told = record { pending = refl; taken = refl };
              others = others_stay w x.ups u alike.others;
              pending = alike.pending;
              board = ap (λ b. b ++ []) alike.board;
              leaving = alike.leaving;
            });
        answered = not_asked;
        stands = standing.dispatches c (length c.servers) s inv p id k a held stage;
        ignores = λ g. tt;
      })
        where
          d' : Dgrams
          d' = dgrams.send_at p id (x.ups 0).clock k (tryer_of a) d

          u : Served
          u = has_taken_it (record (x.ups 0).server { by_dgram = d' }) (x.ups 0)

          follows : Follows tryer_of (dispatch p k id a s).held d'.held
          follows = both_at tryer_of s.held d.held alike.first.held k (Some (dispatched p id a s.now)) (Some (record { request = a.request; tries = suc a.tries; stage = dgrams.Sent p id (x.ups 0).clock })) (ap (λ n. Some (record { request = a.request; tries = suc a.tries; stage = dgrams.Sent p id n })) alike.first.clock)

      -- a message comes where somebody waits for it
      comes : (not_asked : is_ask w ≡ false) (p : ℕ) (o : Octets) → IsUncut (Datagram p o)
          → ((k : ℕ) (a : Held) (id m : ℕ) → d.at p ≡ Some k → d.held k ≡ Some (tryer_of a) → stage_in a.stage ≡ dgrams.Sent p id m → 12 ≤ length (take (recv_size c) o) → answers a.request id (take (recv_size c) o) ≡ true → dgrams.Meets c (x.ups 0).clock d w (Puts (Close p)) (dgrams.leave p k (tryer_of a) (dgrams.stage_of (take (recv_size c) o)) d))
          → (((k : ℕ) (a : Tryer) (id t : ℕ) → d.at p ≡ Some k → d.held k ≡ Some a → a.stage ≡ dgrams.Sent p id t → 12 ≤ length (take (recv_size c) o) → answers a.request id (take (recv_size c) o) ≡ false) → IsIgnored c w d)
          → Meets w x s (with_owner (λ k a. message_at p (take (recv_size c) o) a.stage k a) (s.at p) s)
      comes not_asked p o whole meets ignored = go (at_place c (length c.servers) s inv p)
        where
          go : AtPlace s p → Meets w x s (with_owner (λ k a. message_at p (take (recv_size c) o) a.stage k a) (s.at p) s)
          go (Free at) = passes _ (with_none (λ k a. message_at p (take (recv_size c) o) a.stage k a) p at) not_asked (ignored (λ k a id m at' held' stage' long. absurd (nobody p k at at')))
          go (Tries k a at held stage) = passes _ (with_it (λ k a. message_at p (take (recv_size c) o) a.stage k a) p k a at held ∙ ap (λ st. message_at p (take (recv_size c) o) st k a s) stage) not_asked (ignored (λ j b id m at' held' stage' long. absurd (tries_sent p k a at held stage (j, b, id, m, at', held', stage'))))
          go (Waits k a id m at held stage) =
              subst (Meets w x s) (sym (with_it (λ k a. message_at p (take (recv_size c) o) a.stage k a) p k a at held ∙ ap (λ st. message_at p (take (recv_size c) o) st k a s) stage))
              (by_test (nat_le 12 (length (take (recv_size c) o))) refl (answers a.request id (take (recv_size c) o)) refl)
            where
              unanswered : (nat_le 12 (length (take (recv_size c) o)) ≡ true → answers a.request id (take (recv_size c) o) ≡ false) → IsIgnored c w d
              unanswered differs = ignored (λ j b i u at' held' stage' long. (let e = its_tryer p k j a b at held at' held' in
                  let same : dgrams.Sent p id m ≡ dgrams.Sent p i u = sym (ap stage_in stage) ∙ (ap (λ (a : Tryer). a.stage) e ∙ stage') in
                  let id_is : id ≡ i = cc in
                  subst (λ i. answers b.request i (take (recv_size c) o) ≡ false) id_is (subst (λ (b : Tryer). answers b.request id (take (recv_size c) o) ≡ false) e (differs (le_true 12 (length (take (recv_size c) o)) long)))))
                where
                  le_true : (a b : ℕ) → a ≤ b → nat_le a b ≡ true
                  le_true a b le = grind (arith, nat_tests)

              by_test : (b1 : Bool) → nat_le 12 (length (take (recv_size c) o)) ≡ b1 → (b2 : Bool) → answers a.request id (take (recv_size c) o) ≡ b2 → Meets w x s (if nat_le 12 (length (take (recv_size c) o)) && answers a.request id (take (recv_size c) o) then finish p k a (Ok (take (recv_size c) o)) s else nothing s)
              by_test false e1 b2 e2 = rw e1 (passes (nothing s) refl not_asked (unanswered (λ e. (let z : true ≡ false = sym e ∙ e1 in absurd (cc)))))
              by_test true e1 false e2 = rw (e1, e2) (passes (nothing s) refl not_asked (unanswered (λ e. e2)))
              by_test true e1 true e2 =
                  let long = leb-true 12 (length (take (recv_size c) o)) e1 in
                  let is : dgrams.stage_of (take (recv_size c) o) ≡ dgrams.Ending (Ok (take (recv_size c) o)) = ap (λ b. if b then dgrams.Cut else dgrams.Ending (Ok (take (recv_size c) o))) (uncut c p o whole long) in
                  rw (e1, e2) (ends not_asked p k a (Ok (take (recv_size c) o)) (Puts (Close p)) held (ap placed stage)
                  (subst (λ st. dgrams.Meets c (x.ups 0).clock d w (Puts (Close p)) (dgrams.leave p k (tryer_of a) st d)) is (meets k a id m (at_it p k at) (is_held k a held) (ap stage_in stage) long e2)) refl)

    -- a place opens for which somebody waits
    opens : (p id : ℕ) (x : Upper Served) (s : State) → Alike (record { upper = Opened p; first = Opened p; taken = false; others = Opened p }) [] x s → Standing c (length c.servers) s → Quiet c s → id < 65536 → Meets (Opened p) x s (content c compose has (Opened p) id s)
    opens p id x s alike inv quiet small = go (at_place c (length c.servers) s inv p)
      where
        f : ℕ → Held → State → Done
        f k a = opened_at c compose has p id a.stage k a

        go : AtPlace s p → Meets (Opened p) x s (with_owner (λ k a. opened_at c compose has p id a.stage k a) (s.at p) s)
        go (Free at) = passes (Opened p) x s alike inv quiet _ (with_none (Opened p) x s alike inv quiet (λ k a. opened_at c compose has p id a.stage k a) p at) refl (none_tries (Opened p) x s alike inv quiet p at)
        go (Waits k a i m at held stage) =
            passes (Opened p) x s alike inv quiet _ (with_it (Opened p) x s alike inv quiet (λ k a. opened_at c compose has p id a.stage k a) p k a at held ∙ ap (λ st. opened_at c compose has p id st k a s) stage) refl (sent_tries (Opened p) x s alike inv quiet p k a i m at held stage)
        go (Tries k a at held stage) =
            subst (Meets (Opened p) x s) (sym (with_it (Opened p) x s alike inv quiet (λ k a. opened_at c compose has p id a.stage k a) p k a at held ∙ ap (λ st. opened_at c compose has p id st k a s) stage)) (by_composing (compose (under c id a.request)) refl)
          where
            at' : (x.ups 0).server.by_dgram.at p ≡ Some k
            at' = at_it (Opened p) x s alike inv quiet p k at

            held' : (x.ups 0).server.by_dgram.held k ≡ Some (tryer_of a)
            held' = is_held (Opened p) x s alike inv quiet k a held

            by_composing : (o : Result Octets Error) → compose (under c id a.request) ≡ o → Meets (Opened p) x s (send_composed p id k a s o)
            by_composing (Ok o) e = dispatches (Opened p) x s alike inv quiet refl p id k a o at held stage (dgrams.IsSent k (tryer_of a) p id o at' held' (ap stage_in stage) (carried_by c a.request id o small (composes.carries a.request id o (inv.octets k a held) e)))
            by_composing (Err e) is = ends (Opened p) x s alike inv quiet refl p k a (Err e) (Puts (Close p)) held (ap placed stage) (dgrams.CannotBeSent k (tryer_of a) p e at' held' (ap stage_in stage) (composes.refused_under a.request id e (inv.octets k a held) is)) refl

    -- a request is asked
    module _ (r : Request) (x : Upper Served) (s : State) (alike : Alike (record { upper = Ask r; first = Ask r; taken = false; others = Ask r }) [] x s) (inv : Standing c (length c.servers) s) where
      abbrev asked : Told
      asked = record { upper = Tick; first = Ask r; taken = false; others = Ask r }

      -- it is not handed on, and this is its reply
      refuses : (e : Error) (z : Leaving) → AtOnce c st compose x.now x.asked x.stored r z → z.request ≡ x.asked → z.result ≡ Err e → Meets (Ask r) x s (refuse e s)
      refuses e z now number result = Does_so (record {
        told = asked;
        does = then_does c st compose asked asked (z ∷ []) [] x (record s { asked = suc s.asked }) (record s { asked = suc s.asked }) [] (Reply s.asked (Err e) ∷ [])
            (by_one c st compose asked (z ∷ []) x (record { state = answer z x; outs = [] }) (record s { asked = suc s.asked }) (Answers r z alike.pending now)
            (record { now = alike.now; asked = ap suc alike.asked; place = alike.place; held = alike.held; first = (let u = alike.first in record { clock = u.clock; held = u.held; at = u.at; used = u.used; still = u.still; frames = u.frames }); told = record { pending = alike.told.pending; taken = alike.told.taken }; others = alike.others; pending = refl; board = alike.board; leaving = ap (λ l. l ++ z ∷ []) alike.leaving }))
            (λ y al. subst (λ o. Does c st compose asked [] y (record s { asked = suc s.asked }) (o ∷ [])) (ap (λ k. Reply k z.result) (number ∙ alike.asked) ∙ ap (Reply s.asked) result) (replies c st compose asked y (record s { asked = suc s.asked }) z (at_once_plain c st compose x.now x.asked x.stored r z now) al));
        answered = refl;
        stands = standing.refuses c (length c.servers) s inv;
        ignores = λ g. tt;
      })

      -- it is handed to the first server
      module _ (o : Octets) (composed : compose r ≡ Ok o) (octets : IsOfOctets r) (some : 0 < length c.servers) where
        abbrev fresh_one : Tryer
        fresh_one = record { request = r; tries = 0; stage = dgrams.Queued }

        abbrev v : server.Server
        v = record (x.ups 0).server { by_dgram = record (x.ups 0).server.by_dgram { held = with_at x.asked (Some fresh_one) (x.ups 0).server.by_dgram.held } }

        abbrev x1 : Upper Served
        x1 = take_on r None x

        abbrev x2 : Upper Served
        x2 = moved 0 (does (has_moved v (x.ups 0)) x1.place (Puts (Start x.asked 0 Dgram))) (hand x.asked 0 (upper.newcomer r x.now) x1)

        used_so : use_at 0 c.servers ≡ Some ByDatagrams
        used_so = go c.servers uses some
          where
            go : (us : List Use) → ((u : Use) → use_at 0 us ≡ Some u → u ≡ ByDatagrams) → 0 < length us → use_at 0 us ≡ Some ByDatagrams
            go [] f le = absurd (omega arith)
            go (u ∷ us) f le = ap Some (f u refl)

        unheld : (x.ups 0).server.by_dgram.held x.asked ≡ None
        unheld = alike.first.held x.asked ∙ ap (option_map tryer_of) (inv.unasked x.asked (let e = alike.asked in omega arith))

        holds_it : Follows waiting_of (admit r s).held x2.held
        holds_it j = subst (λ k. (if k == j then Some (handing 0 (upper.newcomer r x.now)) else (if k == j then Some (upper.newcomer r x.now) else x.held j)) ≡ option_map waiting_of (if s.asked == j then Some (newcomer r s) else s.held j)) (sym alike.asked)
            (subst (λ n. (if s.asked == j then Some (handing 0 (upper.newcomer r n)) else (if s.asked == j then Some (upper.newcomer r n) else x.held j)) ≡ option_map waiting_of (if s.asked == j then Some (newcomer r s) else s.held j)) (sym alike.now) (go (s.asked == j)))
          where
            go : (b : Bool) → (if b then Some (handing 0 (upper.newcomer r s.now)) else (if b then Some (upper.newcomer r s.now) else x.held j)) ≡ option_map waiting_of (if b then Some (newcomer r s) else s.held j)
            go true = refl
            go false = alike.held j

        serves_it : Follows tryer_of (admit r s).held v.by_dgram.held
        serves_it j = subst (λ k. (if k == j then Some fresh_one else (x.ups 0).server.by_dgram.held j) ≡ option_map tryer_of (if s.asked == j then Some (newcomer r s) else s.held j)) (sym alike.asked) (go (s.asked == j))
          where
            go : (b : Bool) → (if b then Some fresh_one else (x.ups 0).server.by_dgram.held j) ≡ option_map tryer_of (if b then Some (newcomer r s) else s.held j)
            go true = refl
            go false = alike.first.held j

        admits : Does c st compose asked [] x (admit r s) (Start s.asked 0 Dgram ∷ [])
        admits = record {
          end = x2;
          leads = subst (λ k. Leads c st compose x (Start k 0 Dgram ∷ []) x2) alike.asked
              (Then x (record { state = x1; outs = [] }) _ x2 (Takes_on r o None alike.pending composed some (λ e q. absurd (cc)))
              (Then x1 (record { state = x2; outs = Start x.asked 0 Dgram ∷ [] }) [] x2
              (Hands_on 0 x.asked (upper.newcomer r x.now) (does (has_moved v (x.ups 0)) x1.place (Puts (Start x.asked 0 Dgram))) some (here x.asked (Some (upper.newcomer r x.now)) x.held) refl (IsHanded ByDatagrams (Puts (Start x.asked 0 Dgram)) v used_so (server.ToDgrams refl unheld)))
              (Stays x2)));
          alike = record {
            now = alike.now;
            asked = ap suc alike.asked;
            place = alike.place;
            held = holds_it;
            first = record { clock = alike.first.clock; held = serves_it; at = alike.first.at; used = alike.first.used; still = alike.first.still; frames = alike.first.frames };
            told = record { pending = alike.told.pending; taken = alike.told.taken };
            others = others_stay (Ask r) x.ups (has_moved v (x.ups 0)) alike.others;
            pending = refl;
            board = ap (λ b. b ++ []) alike.board;
            leaving = alike.leaving;
          };
        }

        abbrev settled_in : Bool → Done
        settled_in b = if b then record { state = try s.asked (newcomer r s) (admit r s); outs = OpenDgram s.opened 0 ∷ [] } else record { state = line_up s.asked (newcomer r s) (admit r s); outs = [] }

        enters : Meets (Ask r) x s (enter c r s)
        enters = Does_so (record {
          told = asked;
          does = then_does c st compose asked asked [] [] x (admit r s) (enter c r s).state (Start s.asked 0 Dgram ∷ []) (settle_in c s.asked (newcomer r s) (admit r s)).outs admits (λ y al. settles_in y al (nat_lt s.used (max_places c)) refl);
          answered = refl;
          stands = stands_in (nat_lt s.used (max_places c)) refl;
          ignores = λ g. tt;
        })
          where
            settles_in : (y : Upper Served) → Alike asked [] y (admit r s) → (b : Bool) → nat_lt s.used (max_places c) ≡ b
                → Does c st compose asked [] y (settled_in b).state (settled_in b).outs
            settles_in y al true e = takes_place c st compose asked [] y (admit r s) s.asked (newcomer r s) some al (here s.asked (Some (newcomer r s)) s.held) refl (ltb-true s.used (max_places c) e)
            settles_in y al false e = record {
              end = y;
              leads = Stays y;
              alike = record {
                now = al.now;
                asked = al.asked;
                place = al.place;
                held = one_at waiting_of (admit r s).held y.held al.held s.asked (Some (staged (newcomer r s) Queued)) (sym (al.held s.asked ∙ ap (option_map waiting_of) (here s.asked (Some (newcomer r s)) s.held)));
                first = record { clock = al.first.clock; held = one_at tryer_of (admit r s).held (y.ups 0).server.by_dgram.held al.first.held s.asked (Some (staged (newcomer r s) Queued)) (sym (al.first.held s.asked ∙ ap (option_map tryer_of) (here s.asked (Some (newcomer r s)) s.held))); at = al.first.at; used = al.first.used; still = al.first.still; frames = al.first.frames };
                told = al.told;
                others = al.others;
                pending = al.pending;
                board = al.board;
                leaving = al.leaving;
              };
            }

            stands_in : (b : Bool) → nat_lt s.used (max_places c) ≡ b → Standing c (length c.servers) (settled_in b).state
            stands_in true e = standing.enters c (length c.servers) s inv r octets some (ltb-true s.used (max_places c) e)
            stands_in false e = standing.lines_up c (length c.servers) s inv r octets some (ltb-false s.used (max_places c) e)

      asks : has ≡ nat_lt 0 (length c.servers) → IsOfOctets r → Meets (Ask r) x s (content c compose has (Ask r) 0 s)
      asks is octets = by_composing (compose r) refl has refl
        where
          by_composing : (o : Result Octets Error) → compose r ≡ o → (b : Bool) → has ≡ b → Meets (Ask r) x s (enter_or_refuse c r s (refusal_of b o))
          by_composing (Err e) composed b h = refuses e (record { request = x.asked; asked = r; result = Err e; given = Err e; is_stored = false; stale = None }) (Refused e composed) refl refl
          by_composing (Ok o) composed true h = enters o composed octets (ltb-true 0 (length c.servers) (sym is ∙ h))
          by_composing (Ok o) composed false h =
              let z = error_so st x.asked r errors.NoTransportAvailable in
              refuses errors.NoTransportAvailable (outcome st x.asked r (Err errors.NoTransportAvailable)) (Nowhere (o, composed) (let le = ltb-false 0 (length c.servers) (sym is ∙ h) in omega arith)) z.0 z.1

    -- whatever happens
    pub meets_all : has ≡ nat_lt 0 (length c.servers) → (w : What) (id : ℕ) (x : Upper Served) (s : State) → Alike (record { upper = w; first = w; taken = false; others = w }) [] x s → Standing c (length c.servers) s → Quiet c s → id < 65536 → IsAskedInOctets w → IsUncut w → Meets w x s (content c compose has w id s)
    meets_all is (Ask r) id x s alike inv quiet small octets whole = asks r x s alike inv is octets
    meets_all is (Opened p) id x s alike inv quiet small octets whole = opens p id x s alike inv quiet small
    meets_all is (OpenFailed p f) id x s alike inv quiet small octets whole = fails (OpenFailed p f) x s alike inv quiet refl p (errors.Dgram (query.Connect f)) (λ k a at held stage. dgrams.DoesNotOpen k (tryer_of a) p f at held stage) (λ none. none)
    meets_all is (SendFailed p f) id x s alike inv quiet small octets whole = breaks (SendFailed p f) x s alike inv quiet refl p (errors.Dgram (query.Send f)) (λ k a i m at held stage. dgrams.NotSent k (tryer_of a) p i m f at held stage) (λ none. none)
    meets_all is (ShortSend p) id x s alike inv quiet small octets whole = breaks (ShortSend p) x s alike inv quiet refl p (errors.Dgram (query.Send fault.ShortSend)) (λ k a i m at held stage. dgrams.SentShort k (tryer_of a) p i m at held stage) (λ none. none)
    meets_all is (Datagram p o) id x s alike inv quiet small octets whole = comes (Datagram p o) x s alike inv quiet refl p o whole (λ k a i m at held stage long agrees. dgrams.IsAnswered k (tryer_of a) p i m o at held stage long agrees) (λ none. none)
    meets_all is (RecvFailed p f) id x s alike inv quiet small octets whole = breaks (RecvFailed p f) x s alike inv quiet refl p (errors.Dgram (query.Receive f)) (λ k a i m at held stage. dgrams.NotReceived k (tryer_of a) p i m f at held stage) (λ none. none)
    meets_all is (Wrote p n) id x s alike inv quiet small octets whole = Passes refl refl tt
    meets_all is (WriteFailed p f) id x s alike inv quiet small octets whole = Passes refl refl tt
    meets_all is (Bytes p o) id x s alike inv quiet small octets whole = Passes refl refl tt
    meets_all is (ReadFailed p f) id x s alike inv quiet small octets whole = Passes refl refl tt
    meets_all is (Ended p) id x s alike inv quiet small octets whole = Passes refl refl tt
    meets_all is Tick id x s alike inv quiet small octets whole = Passes refl refl tt
