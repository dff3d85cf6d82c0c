-- The moves by datagrams: a place opens, is sent at, is closed; a request is handed in or is no more; an event is taken.
use Rattle.std.proofs.Common.{◌≡◌, ℕ, suc, ◌<◌, ◌≤◌, Bool, true, false, ◌&&◌, ◌⊎◌, inl, inr, Option, Some, None, ◌∷◌, ◌≢◌, refl, arith, ◌∙◌, sym, subst, ap, ◌==◌}
use Rattle.std.specs.Prelude.{is_some}
use Rattle.std.proofs.lemmas.Bool.{cases_lt, cases_eq}
use Rattle.std.proofs.lemmas.Bool.Decides.{nat_tests}
use Rattle.client_request.specs.Request.{Request}
use Rattle.client_request.specs.declared.event.What.{What}
use Rattle.client_request.specs.declared.event.What.TheVariants.{Ask, Opened, OpenFailed, SendFailed, ShortSend, Datagram, RecvFailed, Wrote, WriteFailed, Bytes, ReadFailed, Ended, Tick}
use Rattle.client_request.specs.declared.fault.Fault.{Fault}
use Rattle.client_request.specs.declared.event.Out.{Out}
use Rattle.client_request.specs.declared.event.Out.TheVariants.{Start}
use Rattle.client_request.specs.declared.event.Via.TheVariants.{Dgram, Stream}
use Rattle.right_trace.specs.Trace.{History, Conf, Put}
use Rattle.right_trace.specs.Time.{count_below, one_if, max_tries}
use Rattle.right_trace.specs.Requests.{asking, asks, started}
use Rattle.right_trace.specs.Places.{site, is_at, Opening, Alive, Gone, on_event, stand, is_live, reach, live}
use Rattle.right_trace.specs.Causes.{Named, last_try, named, IsOneOf}
use Rattle.proof_right.specs.machine.Dgrams.{Stage, Queued, Trying, Sent, Ending, Cut, Tryer, Dgrams, forget}
use Rattle.right_trace.specs.Updates.{with_at}
use Rattle.proof_right.proofs.server.DgramKept.{dgram_site, placed, has_place, StageFits, TryerFits, is_ended, lost, KeptD}
use Rattle.proof_right.proofs.server.DgramPuts.{reaches, IsApart, dgram_same, tryer_put, tryer_put_by, new_put}
use Rattle.proof_right.proofs.server.Puts.{reach_put}
use Rattle.proof_right.proofs.server.Counts.{count_same}
use Rattle.proof_right.proofs.server.Views.{each_at, each_other, at_here, at_there}
use Rattle.proof_right.proofs.server.Beginning.{asked_below}
use Rattle.right_trace.specs.Causes

-- what is known of a live place

pub place_below : (c : Conf) (s : ℕ) (past : History) (w pend : What) (d : Dgrams) (h : History) (p k : ℕ) → KeptD c s past w pend d h → d.at p ≡ Some k → p < reach h
place_below c s past w pend d h p k kept at = elim (cases_lt p (reach h)) [ inl lt ↦ lt | inr le ↦ absurd (let u = (kept.new p le).unheld in cc) ]

pub held_below : (c : Conf) (s : ℕ) (past : History) (w pend : What) (d : Dgrams) (h : History) (k : ℕ) (a : Tryer) → KeptD c s past w pend d h → d.held k ≡ Some a → k < asks h
held_below c s past w pend d h k a kept held = (let f = kept.held k a held in asked_below k _ h f.asked.1)

-- one place has one request
pub one_owner : (c : Conf) (s : ℕ) (past : History) (w pend : What) (d : Dgrams) (h : History) (p j k : ℕ) (b : Tryer) → KeptD c s past w pend d h → d.at p ≡ Some k → d.held j ≡ Some b → placed b.stage ≡ Some p → j ≡ k
one_owner c s past w pend d h p j k b kept at held its = (let e = kept.points j b held p its in let z = sym e ∙ at in cc)

-- how a place with a slot stands
abbrev pub Standing : (pend : What) (p : ℕ) (h : History) → Type 0
Standing pend p h = (stand p h ≡ Opening) ⊎ ((stand p h ≡ Alive) ⊎ ((stand p h ≡ Gone) × ((f : Fault) × (pend ≡ OpenFailed p f))))

standing_trying : (pend : What) (p : ℕ) (h : History) → stand p h ≡ on_event pend p Opening → Standing pend p h
standing_trying (Ask r) p h e = inl e
standing_trying (Opened q) p h e = grind (arith, nat_tests)
standing_trying (OpenFailed q f) p h e = grind (arith, nat_tests)
standing_trying (SendFailed q f) p h e = inl e
standing_trying (ShortSend q) p h e = inl e
standing_trying (Datagram q o) p h e = inl e
standing_trying (RecvFailed q f) p h e = inl e
standing_trying (Wrote q n) p h e = inl e
standing_trying (WriteFailed q f) p h e = inl e
standing_trying (Bytes q o) p h e = inl e
standing_trying (ReadFailed q f) p h e = inl e
standing_trying (Ended q) p h e = inl e
standing_trying Tick p h e = inl e

pub standing : (c : Conf) (s k p : ℕ) (r : Request) (past : History) (w pend : What) (h : History) (st : Stage) → placed st ≡ Some p → StageFits c s k r past w pend h st → Standing pend p h × (site p h ≡ Some (dgram_site s))
standing c s k p r past w pend h Queued e f = absurd (cc)
standing c s k p r past w pend h (Trying q) e f =
    let same : q ≡ p = cc in
    (standing_trying pend p h (subst (λ p. stand p h ≡ on_event pend p Opening) same f.stand), subst (λ p. site p h ≡ Some (dgram_site s)) same f.at)
standing c s k p r past w pend h (Sent q id t) e f =
    let same : q ≡ p = cc in
    (inr (inl (subst (λ p. stand p h ≡ Alive) same f.stand)), subst (λ p. site p h ≡ Some (dgram_site s)) same f.at)
standing c s k p r past w pend h (Ending x) e f = absurd (cc)
standing c s k p r past w pend h Cut e f = absurd (cc)

pub dgram_at : (s p : ℕ) (h : History) → site p h ≡ Some (dgram_site s) → is_at Dgram s p h ≡ true
dgram_at s p h e = (let z : (s == s) ≡ true = grind (arith, nat_tests) in rw (e, z) refl)

-- how many places are live
abbrev pub is_live_at : (s p : ℕ) → History → Bool
is_live_at s p h = is_at Dgram s p h && is_live (stand p h)

pub live_same : (c : Conf) → (s p : ℕ) (o : Out) (h : History) → reaches p o ≡ false → is_live_at s p (Put o ∷ h) ≡ is_live_at s p h
live_same c s p o h e = (let f = dgram_same c p o h e in rw (f.stand, f.at) refl)

-- An out that is about nothing that server s has by datagrams.
pub record IsOther (s : ℕ) (d : Dgrams) (o : Out) (h : History) : Type 0 where
  pub held : (k : ℕ) (a : Tryer) → d.held k ≡ Some a → IsApart s k a o h
  pub places : (q k : ℕ) → d.at q ≡ Some k → reaches q o ≡ false
  pub below : (q : ℕ) → reaches q o ≡ true → q < reach (Put o ∷ h)
  pub elsewhere : (q : ℕ) → reaches q o ≡ true → (is_at Dgram s q (Put o ∷ h) ≡ false) × (is_at Dgram s q h ≡ false)
  pub next : (reach (Put o ∷ h) ≡ reach h) ⊎ (reach (Put o ∷ h) ≡ suc (reach h))

lost_put : (c : Conf) → (pend : What) (at : ℕ → Option ℕ) (o : Out) (h : History) → ((q k : ℕ) → at q ≡ Some k → reaches q o ≡ false) → lost pend at (Put o ∷ h) ≡ lost pend at h
lost_put c (OpenFailed p f) at o h far = go (at p) refl
  where
    go : (x : Option ℕ) → at p ≡ x → one_if (is_some (at p) && is_ended (stand p (Put o ∷ h))) ≡ one_if (is_some (at p) && is_ended (stand p h))
    go None e = rw e refl
    go (Some k) e = (let same = dgram_same c p o h (far p k e) in rw same.stand refl)
lost_put c _ at o h far = refl

pub kept_put_d : (c : Conf) (s : ℕ) (past : History) (w pend : What) (d : Dgrams) (o : Out) (h : History) → IsOther s d o h → KeptD c s past w pend d h → KeptD c s past w pend d (Put o ∷ h)
kept_put_d c s past w pend d o h other kept =
    let test : (q : ℕ) → is_live_at s q (Put o ∷ h) ≡ is_live_at s q h = λ q. tested q (reaches q o) refl in
    record {
      held = λ k a e. tryer_put_by c s k a past w pend o h (other.held k a e).same (other.held k a e).short (λ p g. other.places p k (kept.points k a e p g)) (kept.held k a e);
      slots = kept.slots;
      points = kept.points;
      others = λ q e g. others q e g (reaches q o) refl;
      new = λ q le. new_put c q past d d o h (far q le (reaches q o) refl) refl (kept.new q (let r = reach_put o h in omega arith));
      lives = (let a : live s (Put o ∷ h) ≡ live s h = lives test other.next in let b = lost_put c pend d.at o h other.places in let e = kept.lives in omega arith);
      places = kept.places;
      few = kept.few;
    }
  where
    tested : (q : ℕ) (b : Bool) → reaches q o ≡ b → is_live_at s q (Put o ∷ h) ≡ is_live_at s q h
    tested q true t = (let e = other.elsewhere q t in rw (e.0, e.1) refl)
    tested q false t = live_same c s q o h t

    far : (q : ℕ) → reach (Put o ∷ h) ≤ q → (b : Bool) → reaches q o ≡ b → reaches q o ≡ false
    far q le true t = absurd (let i = other.below q t in omega arith)
    far q le false t = t

    others : (q : ℕ) → is_at Dgram s q (Put o ∷ h) ≡ true → d.at q ≡ None → (b : Bool) → reaches q o ≡ b → is_live (stand q (Put o ∷ h)) ≡ false
    others q e g true t = absurd (let z = (other.elsewhere q t).0 in cc)
    others q e g false t = (let same = dgram_same c q o h t in rw same.stand (kept.others q (rw same.at at e) g))

    lives : ((q : ℕ) → is_live_at s q (Put o ∷ h) ≡ is_live_at s q h) → (reach (Put o ∷ h) ≡ reach h) ⊎ (reach (Put o ∷ h) ≡ suc (reach h)) → live s (Put o ∷ h) ≡ live s h
    lives test (inl e) = rw e (count_same (λ q. is_live_at s q (Put o ∷ h)) (λ q. is_live_at s q h) (reach h) (λ q lt. test q))
    lives test (inr e) =
        let none : is_live_at s (reach h) h ≡ false = (let n = (kept.new (reach h) (omega arith)).nowhere in rw n refl) in
        let last : is_live_at s (reach h) (Put o ∷ h) ≡ false = test (reach h) ∙ none in
        let same = count_same (λ q. is_live_at s q (Put o ∷ h)) (λ q. is_live_at s q h) (reach h) (λ q lt. test q) in
        rw (e, last) (omega arith)

-- A request is handed in.

pub begins_d : (c : Conf) (s : ℕ) (past : History) (w pend : What) (d : Dgrams) (h : History) (k : ℕ) (r : Request) (t : ℕ) → KeptD c s past w pend d h → asking k h ≡ Some (record { request = r; moment = t }) → started k s Stream h ≡ false → Causes.sends k s h ≡ 0 → d.held k ≡ None
    → KeptD c s past w pend (record d { held = with_at k (Some (record { request = r; tries = 0; stage = Queued })) d.held }) (Put (Start k s Dgram) ∷ h)
unfolding max_tries
begins_d c s past w pend d h k r t kept asked unstreamed unsent unheld =
    let o : Out = Start k s Dgram in
    let a : Tryer = record { request = r; tries = 0; stage = Queued } in
    record {
      held = each_at (λ j b. TryerFits c s j b past w pend (Put o ∷ h)) k a d.held
          (record { asked = (t, asked); has_it = grind (arith, nat_tests); unstreamed = unstreamed; trials = unsent; few = omega arith; stage = tt })
          (λ j b ne e. tryer_put c s j b past w pend o h (grind (arith, nat_tests)) (λ p g. refl) (kept.held j b e));
      slots = λ p j e. (let x = kept.slots p j e in let ne : k ≢ j = λ g. (let y = x.is_held in let z = ap d.held g in cc) in record { owner = x.owner; is_held = at_there k j (Some a) d.held ne ∙ x.is_held; its = x.its });
      points = each_at (λ j b. (p : ℕ) → placed b.stage ≡ Some p → d.at p ≡ Some j) k a d.held (λ p e. absurd (cc)) (λ j b ne e p g. kept.points j b e p g);
      others = kept.others;
      new = λ q le. new_put c q past d _ o h refl refl (kept.new q le);
      lives = (let b = lost_put c pend d.at o h (λ q j e. refl) in let e = kept.lives in omega arith);
      places = (let z = count_same (λ j. has_place (with_at k (Some a) d.held j)) (λ j. has_place (d.held j)) (asks h) (λ j lt. same j (cases_eq k j)) in let e = kept.places in z ∙ e);
      few = kept.few;
    }
  where
    same : (j : ℕ) → (k ≡ j) ⊎ (k ≡ j → ⊥) → has_place (with_at k (Some (record { request = r; tries = 0; stage = Queued })) d.held j) ≡ has_place (d.held j)
    same j (inl e) = ap has_place (ap (with_at k (Some (record { request = r; tries = 0; stage = Queued })) d.held) (sym e) ∙ at_here k (Some (record { request = r; tries = 0; stage = Queued })) d.held) ∙ sym (ap has_place (ap d.held (sym e) ∙ unheld))
    same j (inr ne) = ap has_place (at_there k j (Some (record { request = r; tries = 0; stage = Queued })) d.held ne)

-- A request without a place is no more, or owes something else.

no_place : (k : ℕ) (a : Tryer) (x : Option Tryer) (held : ℕ → Option Tryer) (n : ℕ) → held k ≡ Some a → placed a.stage ≡ None → has_place x ≡ false → count_below (λ j. has_place (with_at k x held j)) n ≡ count_below (λ j. has_place (held j)) n
no_place k a x held n e g f = count_same (λ j. has_place (with_at k x held j)) (λ j. has_place (held j)) n (λ j lt. same j (cases_eq k j))
  where
    same : (j : ℕ) → (k ≡ j) ⊎ (k ≡ j → ⊥) → has_place (with_at k x held j) ≡ has_place (held j)
    same j (inl i) =
        let here : has_place (with_at k x held j) ≡ false = ap has_place (ap (with_at k x held) (sym i) ∙ at_here k x held) ∙ f in
        let there : has_place (held j) ≡ false = ap has_place (ap held (sym i) ∙ e) ∙ ap is_some g in
        here ∙ sym there
    same j (inr ne) = ap has_place (at_there k j x held ne)

pub forgets : (c : Conf) (s : ℕ) (past : History) (w pend : What) (d : Dgrams) (h : History) (k : ℕ) (a : Tryer) → KeptD c s past w pend d h → d.held k ≡ Some a → placed a.stage ≡ None → KeptD c s past w pend (forget k d) h
forgets c s past w pend d h k a kept held free = record {
  held = each_other (λ j b. TryerFits c s j b past w pend h) k d.held (λ j b ne e. kept.held j b e);
  slots = λ p j e. (let x = kept.slots p j e in let ne : k ≢ j = λ g. (let same : x.owner ≡ a = (let u = x.is_held in let v = ap d.held g in cc) in let y : placed a.stage ≡ Some p = ap (λ o. placed o.stage) (sym same) ∙ x.its in cc) in record { owner = x.owner; is_held = at_there k j None d.held ne ∙ x.is_held; its = x.its });
  points = each_other (λ j b. (p : ℕ) → placed b.stage ≡ Some p → d.at p ≡ Some j) k d.held (λ j b ne e p g. kept.points j b e p g);
  others = kept.others;
  new = λ q le. (let n = kept.new q le in record { was = n.was; unheld = n.unheld; stand = n.stand; nowhere = n.nowhere; unsent = n.unsent; none = n.none });
  lives = kept.lives;
  places = no_place k a None d.held (asks h) held free refl ∙ kept.places;
  few = kept.few;
}
