-- An event is taken by datagrams, and a row begins.
use Rattle.proof_right.proofs.Received.{received_answer}
use Rattle.std.proofs.Common.{◌≡◌, ℕ, suc, ◌+◌, ◌<◌, ◌≤◌, Bool, true, false, ◌&&◌, ◌⊎◌, inl, inr, Option, Some, None, [], ◌∷◌, ◌≢◌, refl, arith, ◌∙◌, sym, subst, ap, ◌==◌, Result}
use Rattle.std.specs.Prelude.{if◌then◌else◌, nat_lt, is_some}
use Rattle.std.proofs.lemmas.Bool.{cases_eq, eqb-true}
use Rattle.std.proofs.lemmas.Bool.Decides.{nat_tests}
use Rattle.client_request.specs.Request.{Request}
use Rattle.client_request.specs.declared.error.Error.{Error}
use Rattle.client_request.specs.declared.event.Event.{Event}
use Rattle.client_request.specs.declared.event.What.{What}
use Rattle.client_request.specs.declared.event.What.TheVariants.{Ask, Opened, OpenFailed, SendFailed, ShortSend, Datagram, RecvFailed, Wrote, WriteFailed, Bytes, ReadFailed, Ended, Tick}
use Rattle.client_request.specs.declared.fault.Fault.{Fault}
use Rattle.client_request.specs.declared.event.Out.TheVariants.{Send}
use Rattle.client_request.specs.declared.event.Via.TheVariants.{Dgram}
use Rattle.right_trace.specs.Trace.{History, Conf, Came, Put}
use Rattle.proof_right.specs.machine.Dgrams.{IsIgnored, Stage, Queued, Trying, Sent, Ending, Cut, Tryer, Dgrams, staged, send_at, leave}
use Rattle.right_trace.specs.Time.{now, row_before, count_below, one_if, read_timeout, recv_size, max_tries}
use Rattle.right_trace.specs.Messages.{Octets, CarriesBy}
use Rattle.right_trace.specs.Requests.{asking, is_ask, asks, started}
use Rattle.right_trace.specs.Places.{Site, site, is_of_kind, is_alive, is_at, Stand, Unused, Opening, Alive, Gone, opened, failed, on_event, stand, is_live, reach, live}
use Rattle.right_trace.specs.Frames.{is_alive_stream, fed, reading, came, received}
use Rattle.right_trace.specs.Exchanges.{has_answer, is_send, unanswered, IsAmong}
use Rattle.right_trace.specs.Causes.{Named, named, IsOneOf}
use Rattle.right_trace.specs.Updates.{with_at}
use Rattle.proof_right.proofs.server.DgramKept.{dgram_site, owing, placed, has_place, TryingFits, SentFits, StageFits, TryerFits, HasOwner, is_ended, lost, KeptD}
use Rattle.proof_right.proofs.server.DgramPuts.{reaches, tryer_put, new_put}
use Rattle.proof_right.proofs.server.DgramMoves.{place_below, held_below, one_owner, dgram_at, is_live_at}
use Rattle.proof_right.proofs.server.Counts.{count_same, count_change}
use Rattle.proof_right.proofs.server.Views.{each_at, each_other, at_here, at_there}
use Rattle.proof_right.proofs.server.DgramPlaces.{places_change}
use Rattle.proof_right.proofs.server.Coming.{site_past}
use Rattle.proof_right.proofs.server.Beginning.{asked_still, on_alive, on_dead, on_unused}

-- The pending event says nothing more.

turn_stage : (c : Conf) (s k : ℕ) (r : Request) (past : History) (w pend : What) (h : History) (st : Stage) → ((p : ℕ) → st ≡ Trying p → on_event pend p Opening ≡ Opening) → ((p id t : ℕ) → st ≡ Sent p id t → has_answer r id (received (recv_size c) (came p pend past)) ≡ false) → StageFits c s k r past w pend h st → StageFits c s k r past w Tick h st
turn_stage c s k r past w pend h Queued opens none f = tt
turn_stage c s k r past w pend h (Trying p) opens none f = record { was = f.was; stand = f.stand ∙ opens p refl; untold = f.untold; at = f.at; unsent = f.unsent; none = f.none }
turn_stage c s k r past w pend h (Sent p id t) opens none f = record {
  octets = f.octets;
  carries = f.carries;
  stand = f.stand;
  at = f.at;
  sent = f.sent;
  named = f.named;
  last = f.last;
  lived = elim f.lived [ inl e ↦ inl (refl, e.1) | inr o ↦ inr o ];
  is_open = λ e n lt. f.is_open (none p id t refl) n lt;
  only = f.only;
}
turn_stage c s k r past w pend h (Ending x) opens none f = f
turn_stage c s k r past w pend h Cut opens none f = f

pub turn_d : (c : Conf) (s : ℕ) (past : History) (w pend : What) (d : Dgrams) (h : History) → KeptD c s past w pend d h → ((k : ℕ) (a : Tryer) → d.held k ≡ Some a → (p : ℕ) → a.stage ≡ Trying p → on_event pend p Opening ≡ Opening)
    → ((k : ℕ) (a : Tryer) → d.held k ≡ Some a → (p id t : ℕ) → a.stage ≡ Sent p id t → has_answer a.request id (received (recv_size c) (came p pend past)) ≡ false) → lost pend d.at h ≡ 0 → KeptD c s past w Tick d h
turn_d c s past w pend d h kept opens none no_loss = record {
  held = λ k a e. (let f = kept.held k a e in record { asked = f.asked; has_it = f.has_it; unstreamed = f.unstreamed; trials = f.trials; few = f.few; stage = turn_stage c s k a.request past w pend h a.stage (opens k a e) (none k a e) f.stage });
  slots = kept.slots;
  points = kept.points;
  others = kept.others;
  new = kept.new;
  lives = (let e = kept.lives in omega arith);
  places = kept.places;
  few = kept.few;
}

-- a place by datagram is no stream
no_stream : (s p : ℕ) (past h : History) → row_before h ≡ past → site p h ≡ Some (dgram_site s) → is_alive_stream p past ≡ false
no_stream s p past h before at = go (site p past) refl
  where
    go : (z : Option Site) → site p past ≡ z → is_alive_stream p past ≡ false
    go None e = rw e (and_false (is_alive (stand p past)))
      where
        and_false : (b : Bool) → (b && false) ≡ false
        and_false true = refl
        and_false false = refl
    go (Some z) e =
        let x = site_past p z h (ap (site p) before ∙ e) in
        let same : z ≡ dgram_site s = (let y = sym x ∙ at in cc) in
        rw (e, same) (and_false (is_alive (stand p past)))
      where
        and_false : (b : Bool) → (b && false) ≡ false
        and_false true = refl
        and_false false = refl

pub sent_site : (c : Conf) (s : ℕ) (past : History) (w pend : What) (d : Dgrams) (h : History) (k : ℕ) (a : Tryer) (p id t : ℕ) → KeptD c s past w pend d h → d.held k ≡ Some a → a.stage ≡ Sent p id t → SentFits c s p id t k a.request past pend h
sent_site c s past w pend d h k a p id t kept held stage = subst (λ st. StageFits c s k a.request past w pend h st) stage (kept.held k a held).stage

-- no frames come where a request was sent by datagram
pub no_frames : (c : Conf) (s : ℕ) (past : History) (w pend : What) (d : Dgrams) (h : History) (q : ℕ) (o : Octets) → KeptD c s past w pend d h → row_before h ≡ past → (k : ℕ) (a : Tryer) → d.held k ≡ Some a → (p id t : ℕ) → a.stage ≡ Sent p id t → has_answer a.request id (received (recv_size c) (came p (Bytes q o) past)) ≡ false
no_frames c s past w pend d h q o kept before k a held p id t stage =
    let f = sent_site c s past w pend d h k a p id t kept held stage in
    let n = no_stream s p past h before f.at in
    rw n (go (q == p))
  where
    go : (b : Bool) → has_answer a.request id (received (recv_size c) (if b && false then (fed (reading p past) o).frames else [])) ≡ false
    go true = refl
    go false = refl

first_of_three : (x y z : Bool) → (x && (y && z)) ≡ true → x ≡ true
first_of_three true y z e = refl
first_of_three false y z e = absurd (cc)

pub ignores : (c : Conf) (s : ℕ) (past : History) (w pend : What) (d : Dgrams) (h : History) → KeptD c s past w pend d h → row_before h ≡ past → IsIgnored c pend d → KeptD c s past w Tick d h
ignores c s past w (Ask r) d h kept before i = turn_d c s past w (Ask r) d h kept (λ k a e p g. refl) (λ k a e p id t g. refl) refl
ignores c s past w (Opened q) d h kept before i = turn_d c s past w (Opened q) d h kept (λ k a e p g. (let ne : q ≢ p = λ is. i (k, a, (ap d.at is ∙ kept.points k a e p (ap placed g)), e, g ∙ ap Trying (sym is)) in grind (arith, nat_tests))) (λ k a e p id t g. refl) refl
ignores c s past w (OpenFailed q f) d h kept before i = turn_d c s past w (OpenFailed q f) d h kept (λ k a e p g. (let ne : q ≢ p = λ is. i (k, a, (ap d.at is ∙ kept.points k a e p (ap placed g)), e, g ∙ ap Trying (sym is)) in grind (arith, nat_tests))) (λ k a e p id t g. refl) (none (d.at q) refl)
  where
    alive : (k : ℕ) (a : Tryer) → d.at q ≡ Some k → d.held k ≡ Some a → (st : Stage) → a.stage ≡ st → placed st ≡ Some q → is_ended (stand q h) ≡ false
    alive k a at e Queued g x = absurd (cc)
    alive k a at e (Trying p) g x = absurd (let same : p ≡ q = cc in i (k, a, at, e, g ∙ ap Trying same))
    alive k a at e (Sent p id t) g x = (let same : p ≡ q = cc in let y = (sent_site c s past w (OpenFailed q f) d h k a p id t kept e g).stand in rw (ap (λ p. stand p h) (sym same) ∙ y) refl)
    alive k a at e (Ending z) g x = absurd (cc)
    alive k a at e Cut g x = absurd (cc)

    none : (x : Option ℕ) → d.at q ≡ x → one_if (is_some (d.at q) && is_ended (stand q h)) ≡ 0
    none None e = rw e refl
    none (Some k) e = (let o = kept.slots q k e in let a = alive k o.owner e o.is_held o.owner.stage refl o.its in rw (e, a) refl)
ignores c s past w (SendFailed q f) d h kept before i = turn_d c s past w (SendFailed q f) d h kept (λ k a e p g. refl) (λ k a e p id t g. refl) refl
ignores c s past w (ShortSend q) d h kept before i = turn_d c s past w (ShortSend q) d h kept (λ k a e p g. refl) (λ k a e p id t g. refl) refl
ignores c s past w (Datagram q o) d h kept before i = turn_d c s past w (Datagram q o) d h kept (λ k a e p g. refl)
    (λ k a e p id t g. received_answer (recv_size c) a.request id ((q == p) && (is_alive (stand p past) && is_of_kind Dgram (site p past))) o
    (λ x long. (let is : q ≡ p = eqb-true q p (first_of_three (q == p) (is_alive (stand p past)) (is_of_kind Dgram (site p past)) x) in
    i k a id t (ap d.at is ∙ kept.points k a e p (ap placed g)) e (g ∙ ap (λ p. Sent p id t) (sym is)) (grind (arith, nat_tests))))) refl
ignores c s past w (RecvFailed q f) d h kept before i = turn_d c s past w (RecvFailed q f) d h kept (λ k a e p g. refl) (λ k a e p id t g. refl) refl
ignores c s past w (Wrote q n) d h kept before i = turn_d c s past w (Wrote q n) d h kept (λ k a e p g. refl) (λ k a e p id t g. refl) refl
ignores c s past w (WriteFailed q f) d h kept before i = turn_d c s past w (WriteFailed q f) d h kept (λ k a e p g. refl) (λ k a e p id t g. refl) refl
ignores c s past w (Bytes q o) d h kept before i = turn_d c s past w (Bytes q o) d h kept (λ k a e p g. refl) (no_frames c s past w (Bytes q o) d h q o kept before) refl
ignores c s past w (ReadFailed q f) d h kept before i = turn_d c s past w (ReadFailed q f) d h kept (λ k a e p g. refl) (λ k a e p id t g. refl) refl
ignores c s past w (Ended q) d h kept before i = turn_d c s past w (Ended q) d h kept (λ k a e p g. refl) (λ k a e p id t g. refl) refl
ignores c s past w Tick d h kept before i = kept

-- A request is sent.

send_far : (p k id q : ℕ) (o : Octets) → p ≢ q → reaches q (Send p k id o) ≡ false
send_far p k id q o ne = grind (arith, nat_tests)

only_send : (c : Conf) → (p k id : ℕ) (o : Octets) (h : History) → ((r : Request) (j i n : ℕ) → unanswered c r p j i n h ≡ []) → (r : Request) (j i n : ℕ) (x : Octets) → IsAmong x (unanswered c r p j i n (Put (Send p k id o) ∷ h)) → (j ≡ k) × (i ≡ id) × (n < now h + read_timeout c)
only_send c p k id o h none r j i n x e = go (is_send p j i (Send p k id o) && nat_lt n (now h + read_timeout c)) refl
  where
    go : (b : Bool) → (is_send p j i (Send p k id o) && nat_lt n (now h + read_timeout c)) ≡ b → (j ≡ k) × (i ≡ id) × (n < now h + read_timeout c)
    go true is = (grind (arith, nat_tests), grind (arith, nat_tests), grind (arith, nat_tests))
    go false is =
        let z : unanswered c r p j i n (Put (Send p k id o) ∷ h) ≡ [] = rw is (none r j i n) in
        absurd (subst (λ os. IsAmong x os) z e)

named_here : (p k id : ℕ) (o : Octets) (h : History) → IsOneOf (record { id = id; octets = o }) (named p k (Put (Send p k id o) ∷ h))
named_here p k id o h =
    let x : Named = record { id = id; octets = o } in
    let e : named p k (Put (Send p k id o) ∷ h) ≡ x ∷ named p k h = grind (arith, nat_tests) in
    subst (λ l. IsOneOf x l) (sym e) (inl refl)

sent_now : (c : Conf) → (s p k id : ℕ) (r : Request) (o : Octets) (past h : History) → TryingFits c s p past (Opened p) h → CarriesBy c Dgram o r id → SentFits c s p id (now h) k r past Tick (Put (Send p k id o) ∷ h)
sent_now c s p k id r o past h f carries =
    let at = dgram_at s p h f.at in
    let it : (p == p) ≡ true = grind (arith, nat_tests) in
    let me : (k == k) ≡ true = grind (arith, nat_tests) in
    let same : (id == id) ≡ true = grind (arith, nat_tests) in
    record {
      octets = o;
      carries = carries;
      stand = f.stand ∙ rw it refl;
      at = f.at;
      sent = rw it refl;
      named = named_here p k id o h;
      last = rw (me, at) refl;
      lived = inl (refl, refl);
      is_open = λ e n lt. (let none = f.none r k id n in grind (arith, nat_tests));
      only = only_send c p k id o h f.none;
    }

pub sends_d : (c : Conf) (s : ℕ) (past : History) (w : What) (d : Dgrams) (h : History) (p k id : ℕ) (a : Tryer) (o : Octets) → KeptD c s past w (Opened p) d h → d.held k ≡ Some a → a.stage ≡ Trying p → CarriesBy c Dgram o a.request id → KeptD c s past w Tick (send_at p id (now h) k a d) (Put (Send p k id o) ∷ h)
sends_d c s past w d h p k id a o kept held stage carries =
    let f = kept.held k a held in
    let try : TryingFits c s p past (Opened p) h = subst (λ st. StageFits c s k a.request past w (Opened p) h st) stage f.stage in
    let at : placed a.stage ≡ Some p = ap placed stage in
    let owner = kept.points k a held p at in
    let a' : Tryer = record { request = a.request; tries = suc a.tries; stage = Sent p id (now h) } in
    let few' : a.tries + 1 ≤ max_tries c = subst (λ st. a.tries + owing st ≤ max_tries c) stage f.few in
    let me : (k == k) ≡ true = grind (arith, nat_tests) in
    let site' = dgram_at s p h try.at in
    let trials = f.trials in
    let off : (j : ℕ) (b : Tryer) → k ≢ j → d.held j ≡ Some b → (q : ℕ) → placed b.stage ≡ Some q → p ≢ q = λ j b ne e q g is. (let z = one_owner c s past w (Opened p) d h p j k b kept owner e (g ∙ ap Some (sym is)) in ne (sym z)) in
    record {
      held = each_at (λ j b. TryerFits c s j b past w Tick (Put (Send p k id o) ∷ h)) k a' d.held
          (record { asked = f.asked; has_it = f.has_it; unstreamed = f.unstreamed; trials = rw (me, site') (ap suc trials); few = omega arith; stage = sent_now c s p k id a.request o past h try carries })
          (λ j b ne e. (let g = tryer_put c s j b past w (Opened p) (Send p k id o) h (grind (arith, nat_tests)) (λ q g. send_far p k id q o (off j b ne e q g)) (kept.held j b e) in
          record { asked = g.asked; has_it = g.has_it; unstreamed = g.unstreamed; trials = g.trials; few = g.few; stage = turn_stage c s j b.request past w (Opened p) (Put (Send p k id o) ∷ h) b.stage (λ q i. (let ne' : p ≢ q = off j b ne e q (ap placed i) in grind (arith, nat_tests))) (λ q i t g. refl) g.stage }));
      slots = λ q j e. slots q j e (cases_eq k j);
      points = each_at (λ j b. (q : ℕ) → placed b.stage ≡ Some q → d.at q ≡ Some j) k a' d.held (λ q e. kept.points k a held q (at ∙ e)) (λ j b ne e q g. kept.points j b e q g);
      others = kept.others;
      new = λ q le. (let low = place_below c s past w (Opened p) d h p k kept owner in let ne : p ≢ q = λ g. omega arith in new_put c q past d _ (Send p k id o) h (send_far p k id q o ne) refl (kept.new q le));
      lives = kept.lives;
      places = (let z = places_change k a a' d.held (asks h) (held_below c s past w (Opened p) d h k a kept held) held in let u : one_if (is_some (placed a.stage)) ≡ 1 = ap (λ x. one_if (is_some x)) at in let y = kept.places in omega arith);
      few = kept.few;
    }
  where
    slots : (q j : ℕ) → d.at q ≡ Some j → (k ≡ j) ⊎ (k ≡ j → ⊥) → HasOwner (send_at p id (now h) k a d).held q j
    slots q j e (inl is) =
        let x = kept.slots q j e in
        let same : x.owner ≡ a = (let u = x.is_held in let v = ap d.held is in cc) in
        let y : Some p ≡ Some q = sym (ap placed stage) ∙ (ap (λ o. placed o.stage) (sym same) ∙ x.its) in
        subst (λ j. HasOwner (send_at p id (now h) k a d).held q j) is (record { owner = record { request = a.request; tries = suc a.tries; stage = Sent p id (now h) }; is_held = at_here k _ d.held; its = y })
    slots q j e (inr ne) = (let x = kept.slots q j e in record { owner = x.owner; is_held = at_there k j _ d.held ne ∙ x.is_held; its = x.its })

-- An opening fails.

pub fails_d : (c : Conf) (s : ℕ) (past : History) (w : What) (d : Dgrams) (h : History) (p k : ℕ) (g : Fault) (a : Tryer) (st : Stage) → KeptD c s past w (OpenFailed p g) d h → d.held k ≡ Some a → a.stage ≡ Trying p → placed st ≡ None → owing st ≡ 0 → StageFits c s k a.request past w Tick h st → KeptD c s past w Tick (leave p k a st d) h
fails_d c s past w d h p k g a st kept held stage free owes fits =
    let f = kept.held k a held in
    let try : TryingFits c s p past (OpenFailed p g) h = subst (λ st. StageFits c s k a.request past w (OpenFailed p g) h st) stage f.stage in
    let at : placed a.stage ≡ Some p = ap placed stage in
    let owner = kept.points k a held p at in
    let it : (p == p) ≡ true = grind (arith, nat_tests) in
    let gone : stand p h ≡ Gone = try.stand ∙ rw it refl in
    let lost' : lost (OpenFailed p g) d.at h ≡ 1 = rw (owner, gone) refl in
    let off : (j : ℕ) (b : Tryer) → k ≢ j → d.held j ≡ Some b → (q : ℕ) → placed b.stage ≡ Some q → p ≢ q = λ j b ne e q u is. (let z = one_owner c s past w (OpenFailed p g) d h p j k b kept owner e (u ∙ ap Some (sym is)) in ne (sym z)) in
    let few' = f.few in
    record {
      held = each_at (λ j b. TryerFits c s j b past w Tick h) k (staged a st) d.held
          (record { asked = f.asked; has_it = f.has_it; unstreamed = f.unstreamed; trials = f.trials; few = omega arith; stage = fits })
          (λ j b ne e. (let u = kept.held j b e in record { asked = u.asked; has_it = u.has_it; unstreamed = u.unstreamed; trials = u.trials; few = u.few; stage = turn_stage c s j b.request past w (OpenFailed p g) h b.stage (λ q i. (let ne' : p ≢ q = off j b ne e q (ap placed i) in grind (arith, nat_tests))) (λ q i t v. refl) u.stage }));
      slots = each_other (λ q j. HasOwner (with_at k (Some (staged a st)) d.held) q j) p d.at
          (λ q j ne e. (let x = kept.slots q j e in
          let other : k ≢ j = λ v. (let same : x.owner ≡ a = (let u = x.is_held in let y = ap d.held v in cc) in let y : placed a.stage ≡ Some q = ap (λ o. placed o.stage) (sym same) ∙ x.its in let z : Some p ≡ Some q = sym at ∙ y in ne (some_same p q z)) in
          record { owner = x.owner; is_held = at_there k j (Some (staged a st)) d.held other ∙ x.is_held; its = x.its }));
      points = each_at (λ j b. (q : ℕ) → placed b.stage ≡ Some q → with_at p None d.at q ≡ Some j) k (staged a st) d.held
          (λ q e. absurd (let z = sym free ∙ e in cc))
          (λ j b ne e q u. at_there p q None d.at (off j b ne e q u) ∙ kept.points j b e q u);
      others = λ q e u. others q e u (cases_eq p q) gone;
      new = λ q le. (let low = place_below c s past w (OpenFailed p g) d h p k kept owner in let n = kept.new q le in record { was = n.was; unheld = at_there p q None d.at (λ v. omega arith) ∙ n.unheld; stand = n.stand; nowhere = n.nowhere; unsent = n.unsent; none = n.none });
      lives = (let e = kept.lives in omega arith);
      places = (let z = places_change k a (staged a st) d.held (asks h) (held_below c s past w (OpenFailed p g) d h k a kept held) held in let u : one_if (is_some (placed a.stage)) ≡ 1 = ap (λ x. one_if (is_some x)) at in let v : one_if (is_some (placed st)) ≡ 0 = ap (λ x. one_if (is_some x)) free in let y = kept.places in omega arith);
      few = (let y = kept.few in omega arith);
    }
  where
    some_same : (p q : ℕ) → Some p ≡ Some q → p ≡ q
    some_same p q e = cc

    others : (q : ℕ) → is_at Dgram s q h ≡ true → with_at p None d.at q ≡ None → (p ≡ q) ⊎ (p ≡ q → ⊥) → stand p h ≡ Gone → is_live (stand q h) ≡ false
    others q e u (inl is) gone = rw (ap (λ q. stand q h) (sym is) ∙ gone) refl
    others q e u (inr ne) gone = kept.others q e (sym (at_there p q None d.at ne) ∙ u)

-- A row begins.

-- nothing is owed when a row is done
pub record IsAtRest (d : Dgrams) : Type 0 where
  pub ending : (k : ℕ) (a : Tryer) → d.held k ≡ Some a → (x : Result Octets Error) → a.stage ≢ Ending x
  pub cut : (k : ℕ) (a : Tryer) → d.held k ≡ Some a → a.stage ≢ Cut

stage_begins : (c : Conf) (s k : ℕ) (r : Request) (past : History) (w : What) (e : Event) (h : History) (st : Stage) → ((t : ℕ) × (asking k h ≡ Some (record { request = r; moment = t }))) → started k s Dgram h ≡ true → ((x : Result Octets Error) → st ≢ Ending x) → st ≢ Cut → StageFits c s k r past w Tick h st → StageFits c s k r h e.what e.what (Came e ∷ h) st
stage_begins c s k r past w e h Queued asked begun ending cut f = tt
stage_begins c s k r past w e h (Trying p) asked begun ending cut f = record {
  was = inl f.stand;
  stand = ap (on_event e.what p) f.stand;
  untold = f.stand;
  at = f.at;
  unsent = f.unsent;
  none = λ r j i n. none r j i n (has_answer r i (received (recv_size c) (came p e.what h))) (f.none r j i n);
}
  where
    none : (r : Request) (j i n : ℕ) (b : Bool) → unanswered c r p j i n h ≡ [] → (if b then [] else unanswered c r p j i n h) ≡ []
    none r j i n true g = refl
    none r j i n false g = g
stage_begins c s k r past w e h (Sent p id t) asked begun ending cut f = record {
  octets = f.octets;
  carries = f.carries;
  stand = ap (on_event e.what p) f.stand ∙ on_alive e.what p;
  at = f.at;
  sent = f.sent;
  named = f.named;
  last = f.last;
  lived = inr (record { alive = f.stand; at = f.at; asked = asked; unanswered = λ n lt. f.is_open refl n lt; named = f.named; begun = begun });
  is_open = λ g n lt. rw g (f.is_open refl n lt);
  only = λ r' j i n o g. only r' j i n o (has_answer r' i (received (recv_size c) (came p e.what h))) g;
}
  where
    only : (r' : Request) (j i n : ℕ) (o : Octets) (b : Bool) → IsAmong o (if b then [] else unanswered c r' p j i n h) → (j ≡ k) × (i ≡ id) × (n < t + read_timeout c)
    only r' j i n o true g = absurd g
    only r' j i n o false g = f.only r' j i n o g
stage_begins c s k r past w e h (Ending x) asked begun ending cut f = absurd (ending x refl)
stage_begins c s k r past w e h Cut asked begun ending cut f = absurd (cut refl)

-- an event makes a place no live one but by failing to open it
live_event : (w : What) (q : ℕ) (x : Stand) → ((f : Fault) → w ≡ OpenFailed q f → x ≢ Opening) → is_live (on_event w q x) ≡ is_live x
live_event (Ask r) q x ne = refl
live_event (Opened p) q x ne = go (p == q) x
  where
    go : (b : Bool) (x : Stand) → is_live (if b then opened x else x) ≡ is_live x
    go true Unused = refl
    go true Opening = refl
    go true Alive = refl
    go true Gone = refl
    go false x = refl
live_event (OpenFailed p f) q x ne = go (p == q) refl x ne
  where
    go : (b : Bool) → (p == q) ≡ b → (x : Stand) → ((g : Fault) → OpenFailed p f ≡ OpenFailed q g → x ≢ Opening) → is_live (if b then failed x else x) ≡ is_live x
    go true e Unused ne = refl
    go true e Opening ne = absurd (ne f (let is : p ≡ q = grind (arith, nat_tests) in ap (λ p. OpenFailed p f) is) refl)
    go true e Alive ne = refl
    go true e Gone ne = refl
    go false e x ne = refl
live_event (SendFailed p f) q x ne = refl
live_event (ShortSend p) q x ne = refl
live_event (Datagram p o) q x ne = refl
live_event (RecvFailed p f) q x ne = refl
live_event (Wrote p n) q x ne = refl
live_event (WriteFailed p f) q x ne = refl
live_event (Bytes p o) q x ne = refl
live_event (ReadFailed p f) q x ne = refl
live_event (Ended p) q x ne = refl
live_event Tick q x ne = refl

test_same : (s q : ℕ) (e : Event) (h : History) → ((f : Fault) → e.what ≡ OpenFailed q f → stand q h ≢ Opening) → is_live_at s q (Came e ∷ h) ≡ is_live_at s q h
test_same s q e h ne = ap (λ b. is_at Dgram s q h && b) (live_event e.what q (stand q h) ne)

plain : (c : Conf) (s : ℕ) (e : Event) (h : History) → ((q : ℕ) (f : Fault) → e.what ≡ OpenFailed q f → ⊥) → live s (Came e ∷ h) + 0 ≡ live s h
plain c s e h ne = (let z = count_same (λ q. is_live_at s q (Came e ∷ h)) (λ q. is_live_at s q h) (reach h) (λ q lt. test_same s q e h (λ f i st. ne q f i)) in omega arith)

-- how many live places the event leaves, and what it takes of them
live_begins : (c : Conf) (s : ℕ) (past : History) (w : What) (d : Dgrams) (e : Event) (h : History) → KeptD c s past w Tick d h → IsAtRest d → (x : What) → e.what ≡ x → live s (Came e ∷ h) + lost x d.at (Came e ∷ h) ≡ live s h
live_begins c s past w d e h kept rest (OpenFailed p f) is = go (d.at p) refl
  where
    same : ((q : ℕ) → is_live_at s q (Came e ∷ h) ≡ is_live_at s q h) → live s (Came e ∷ h) ≡ live s h
    same t = count_same (λ q. is_live_at s q (Came e ∷ h)) (λ q. is_live_at s q h) (reach h) (λ q lt. t q)

    others : (q : ℕ) → p ≢ q → is_live_at s q (Came e ∷ h) ≡ is_live_at s q h
    others q ne = test_same s q e h (λ g i st. (let z : OpenFailed p f ≡ OpenFailed q g = sym is ∙ i in let y : p ≡ q = cc in ne y))

    dead : d.at p ≡ None → (b : Bool) → is_at Dgram s p h ≡ b → is_live_at s p (Came e ∷ h) ≡ is_live_at s p h
    dead none true at = (let z = kept.others p at none in let y = on_dead e.what p (stand p h) z in rw (at, z, y) refl)
    dead none false at = rw at refl

    each : ((q : ℕ) → p ≢ q → is_live_at s q (Came e ∷ h) ≡ is_live_at s q h) → is_live_at s p (Came e ∷ h) ≡ is_live_at s p h → (q : ℕ) → is_live_at s q (Came e ∷ h) ≡ is_live_at s q h
    each t here q = elim (cases_eq p q) [ inl i ↦ subst (λ q. is_live_at s q (Came e ∷ h) ≡ is_live_at s q h) i here | inr ne ↦ t q ne ]

    held : (k : ℕ) → d.at p ≡ Some k → (a : Tryer) → d.held k ≡ Some a → (st : Stage) → a.stage ≡ st → placed st ≡ Some p → live s (Came e ∷ h) + one_if (is_some (d.at p) && is_ended (stand p (Came e ∷ h))) ≡ live s h
    held k at a g Queued i u = absurd (cc)
    held k at a g (Trying q) i u =
        let q_is : q ≡ p = cc in
        let fit : TryingFits c s q past Tick h = subst (λ st. StageFits c s k a.request past w Tick h st) i (kept.held k a g).stage in
        let st : stand p h ≡ Opening = ap (λ q. stand q h) (sym q_is) ∙ fit.stand in
        let site' = ap (λ q. site q h) (sym q_is) ∙ fit.at in
        let a' = dgram_at s p h site' in
        let it : (p == p) ≡ true = grind (arith, nat_tests) in
        let gone : stand p (Came e ∷ h) ≡ Gone = ap (λ w. on_event w p (stand p h)) is ∙ rw (it, st) refl in
        let low = place_below c s past w Tick d h p k kept at in
        let n = count_change (λ q. is_live_at s q h) (λ q. is_live_at s q (Came e ∷ h)) (reach h) p low (λ q ne. sym (others q (λ z. ne (sym z)))) in
        let old : is_live_at s p h ≡ true = rw (a', st) refl in
        let new : is_live_at s p (Came e ∷ h) ≡ false = rw (a', gone) refl in
        let old' = ap one_if old in
        let new' = ap one_if new in
        let one : one_if (is_some (d.at p) && is_ended (stand p (Came e ∷ h))) ≡ 1 = rw (at, gone) refl in
        omega arith
    held k at a g (Sent q id t) i u =
        let q_is : q ≡ p = cc in
        let st : stand p h ≡ Alive = ap (λ q. stand q h) (sym q_is) ∙ (sent_site c s past w Tick d h k a q id t kept g i).stand in
        let alive : stand p (Came e ∷ h) ≡ Alive = ap (on_event e.what p) st ∙ on_alive e.what p in
        let here : is_live_at s p (Came e ∷ h) ≡ is_live_at s p h = rw (alive, st) refl in
        let n = same (each others here) in
        let none : one_if (is_some (d.at p) && is_ended (stand p (Came e ∷ h))) ≡ 0 = rw (at, alive) refl in
        omega arith
    held k at a g (Ending x) i u = absurd (cc)
    held k at a g Cut i u = absurd (cc)

    go : (x : Option ℕ) → d.at p ≡ x → live s (Came e ∷ h) + one_if (is_some (d.at p) && is_ended (stand p (Came e ∷ h))) ≡ live s h
    go None none =
        let n = same (each others (dead none (is_at Dgram s p h) refl)) in
        let z : one_if (is_some (d.at p) && is_ended (stand p (Came e ∷ h))) ≡ 0 = rw none refl in
        omega arith
    go (Some k) at = (let o = kept.slots p k at in held k at o.owner o.is_held o.owner.stage refl o.its)
live_begins c s past w d e h kept rest (Ask r) is = plain c s e h (λ q g i. absurd (cc))
live_begins c s past w d e h kept rest (Opened p) is = plain c s e h (λ q g i. absurd (cc))
live_begins c s past w d e h kept rest (SendFailed p f) is = plain c s e h (λ q g i. absurd (cc))
live_begins c s past w d e h kept rest (ShortSend p) is = plain c s e h (λ q g i. absurd (cc))
live_begins c s past w d e h kept rest (Datagram p o) is = plain c s e h (λ q g i. absurd (cc))
live_begins c s past w d e h kept rest (RecvFailed p f) is = plain c s e h (λ q g i. absurd (cc))
live_begins c s past w d e h kept rest (Wrote p n) is = plain c s e h (λ q g i. absurd (cc))
live_begins c s past w d e h kept rest (WriteFailed p f) is = plain c s e h (λ q g i. absurd (cc))
live_begins c s past w d e h kept rest (Bytes p o) is = plain c s e h (λ q g i. absurd (cc))
live_begins c s past w d e h kept rest (ReadFailed p f) is = plain c s e h (λ q g i. absurd (cc))
live_begins c s past w d e h kept rest (Ended p) is = plain c s e h (λ q g i. absurd (cc))
live_begins c s past w d e h kept rest Tick is = plain c s e h (λ q g i. absurd (cc))

pub row_begins_d : (c : Conf) (s : ℕ) (past : History) (w : What) (d : Dgrams) (e : Event) (h : History) → KeptD c s past w Tick d h → IsAtRest d → KeptD c s h e.what e.what d (Came e ∷ h)
row_begins_d c s past w d e h kept rest = record {
  held = λ k a g. (let f = kept.held k a g in record { asked = (f.asked.0, asked_still k _ e h f.asked.1); has_it = f.has_it; unstreamed = f.unstreamed; trials = f.trials; few = f.few; stage = stage_begins c s k a.request past w e h a.stage f.asked f.has_it (rest.ending k a g) (rest.cut k a g) f.stage });
  slots = kept.slots;
  points = kept.points;
  others = λ p g n. on_dead e.what p (stand p h) (kept.others p g n);
  new = λ p le. (let n = kept.new p le in record { was = n.stand; unheld = n.unheld; stand = ap (on_event e.what p) n.stand ∙ on_unused e.what p; nowhere = n.nowhere; unsent = n.unsent; none = λ r j i n'. none p r j i n' (has_answer r i (received (recv_size c) (came p e.what h))) (n.none r j i n') });
  lives = (let a = live_begins c s past w d e h kept rest e.what refl in let b = kept.lives in omega arith);
  places = places (is_ask e.what) refl (d.held (asks h)) refl;
  few = kept.few;
}
  where
    none : (p : ℕ) (r : Request) (j i n : ℕ) (b : Bool) → unanswered c r p j i n h ≡ [] → (if b then [] else unanswered c r p j i n h) ≡ []
    none p r j i n true g = refl
    none p r j i n false g = g

    places : (b : Bool) → is_ask e.what ≡ b → (x : Option Tryer) → d.held (asks h) ≡ x → count_below (λ k. has_place (d.held k)) (asks (Came e ∷ h)) ≡ d.used
    places false i x g = rw i kept.places
    places true i None g = (let old = kept.places in let last : has_place (d.held (asks h)) ≡ false = ap has_place g in rw (i, last) (omega arith))
    places true i (Some a) g = absurd (let low = held_below c s past w Tick d h (asks h) a kept g in omega arith)
