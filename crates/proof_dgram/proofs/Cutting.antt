-- A cut answer comes: its message is on the board, and its slot is given on.
use Rattle.std.proofs.Common.{◌≡◌, ℕ, suc, ◌+◌, ◌≤◌, inl, inr, true, [], ◌∷◌, Option, Some, None, refl, sym, ap, subst, ◌∙◌, arith, append_assoc, le_refl}
use Rattle.std.specs.Prelude.{Ok, option_map}
use Rattle.std.proofs.lemmas.Bool.Decides.{nat_tests}
use Rattle.client_request.specs.Carries.{IsOfOctets}
use Rattle.client_request.specs.Numbered.{entry_at}
use Rattle.client_request.specs.Request.{Request}
use Rattle.client_request.specs.View.{View, answers}
use Rattle.client_request.specs.declared.event.What.{What}
use Rattle.client_request.specs.declared.event.Out.TheVariants.{OpenDgram, Close}
use Rattle.client_dgram.specs.Plain.{Tables, leaves, closes, finishes, gives_on}
use Rattle.client_dgram.specs.declared.job.Job.{Job}
use Rattle.client_dgram.specs.declared.job.Stage.TheVariants as at
use Rattle.right_trace.specs.Messages.{Octets, truncated}
use Rattle.proof_right.specs.machine.Streams as multi
use Rattle.right_trace.specs.Updates.{with_at}
use Rattle.proof_right.specs.machine.Dgrams as dgrams
use Rattle.proof_right.specs.machine.Dgrams.{Trying, Ending, Cut, Tryer, Dgrams, staged, leave, forget, try_at, Meets}
use Rattle.proof_right.specs.machine.Served.{IsSettled}
use Rattle.proof_parts.specs.Chains.{still, then_act}
use Rattle.proof_parts.specs.Sights.{sight, due_of, IsFair}
use Rattle.proof_dgram.specs.Slots.{slots_of, AreSlots, names_of}
use Rattle.proof_dgram.specs.Steps.{made_by, AsItIs, Rests, Steps_on}
use Rattle.proof_dgram.specs.Calls.{Leads, IsAfter, KeepsApart, HasTold, Cuts}
use Rattle.proof_dgram.proofs.Changing.{alike_as, settled}
use Rattle.proof_parts.proofs.Keys.{with_here, with_there, was_there, is_or_was}
use Rattle.proof_dgram.proofs.Naming.{names_less}
use Rattle.proof_dgram.proofs.GivingOn.{GaveOn, Nobody, Somebody, gave_on}
use Rattle.proof_dgram.proofs.Aftermath.{after_dropped, after_then, after_opened}
use Rattle.proof_dgram.proofs.Closing.{leads_on, IsSentAt, off_sent, apart_sent}
use Rattle.right_trace.specs.Trace.{Conf}

swap : {V : Type 0} → (k l : ℕ) (x : Option V) (g : ℕ → Option V) (i : ℕ) → (k ≡ l → ⊥) → with_at k None (with_at l x g) i ≡ with_at l x (with_at k None g) i
swap k l x g i ne = grind (arith, nat_tests)

module _ (conf : Conf) (server : ℕ) (what : What) (s : Tables Request) (d : Dgrams) (v : View) (f : AreSlots conf 0 s d (sight v)) (fair : IsFair v) (t p r : ℕ) (j : Job Request) (is : entry_at t s.jobs ≡ Some j) (st : j.stage ≡ at.Sent p r) (o : IsSentAt conf s d v t p r j) (m : Octets) (cut : truncated m ≡ true) where
  abbrev k : ℕ
  k = j.number

  -- the machine with the request whose answer was cut, and without it
  abbrev held : Tryer → Dgrams
  held a = leave p k a Cut d

  abbrev v1 : View
  v1 = answers t (Ok (Some m)) (closes p r v)

  after : IsAfter v v1
  after = after_dropped r v v1 fair refl refl refl refl refl refl refl

  named : names_of s t ≡ Some k
  named = ap (λ (x : Option (Job Request)). option_map (λ (j : Job Request). j.number) x) is

  settled_cut : (a : Tryer) → IsSettled (held a)
  settled_cut a u b e y g = elim (is_or_was k (Some (staged a Cut)) d.held u b e) [
    | inl x ↦ (let z : Some (staged a Cut) ≡ Some b = x.1 in let same : staged a Cut ≡ b = cc in let w : Cut ≡ Ending y = ap (λ (a : Tryer). a.stage) same ∙ g in cc)
    | inr x ↦ settled conf 0 (slots_of s) d (λ r. due_of r v.timers.set) f.alike u b x.1 y g
  ]

  settled_tried : (a b : Tryer) (q l : ℕ) → IsSettled (try_at q l b (held a))
  settled_tried a b q l u c e y g = elim (is_or_was l (Some (staged b (Trying q))) (held a).held u c e) [
    | inl x ↦ (let z : Some (staged b (Trying q)) ≡ Some c = x.1 in let same : staged b (Trying q) ≡ c = cc in let w : Trying q ≡ Ending y = ap (λ (a : Tryer). a.stage) same ∙ g in cc)
    | inr x ↦ settled_cut a u c x.1 y g
  ]

  abbrev Cut_ : Tables Request → View → Type 0
  Cut_ u w = HasTold conf server what s d v u w

  behind : (a : Tryer) → d.held k ≡ Some a → IsOfOctets a.request → Meets conf v.now d what (multi.Puts (Close p)) (held a) → AreSlots conf 1 (leaves p t r s) (forget k (held a)) (sight v1) → KeepsApart s d v (leaves p t r s) (forget k (held a)) v1 → (u : Tables Request) (w : View) → GaveOn conf server (leaves p t r s) (forget k (held a)) v1 u w → Cut_ u w
  behind a is_held octets meets slots1 apart u w (Nobody jobs timers same slots) = Cuts (record {
    ticket = t;
    request = k;
    named = named;
    tryer = a;
    is_held = is_held;
    octets = octets;
    message = m;
    cut = cut;
    at = p;
    meets = meets;
    settled = settled_cut a;
    made = still v.place (held a);
    steps = Rests v.place (held a);
    is_cut = with_here k (Some (staged a Cut)) d.held;
    nothing = refl;
    leaves = record {
      outs = ap (λ (w : View). w.outs) same;
      place = ap (λ (w : View). w.place) same;
      slots = subst (λ (w : View). AreSlots conf 0 u (forget k (held a)) (sight w)) (sym same) slots;
      after = subst (IsAfter v) (sym same) after;
      apart = subst (KeepsApart s d v u (forget k (held a))) (sym same) (record { owned = λ i x. apart.owned i (subst (λ ts. (n : ℕ) × (entry_at i ts ≡ Some n)) timers x); others = apart.others; places = apart.places });
    };
    put = ap (λ (w : View). w.board) same;
    names = λ i. ap (λ js. option_map (λ (j : Job Request). j.number) (entry_at i js)) jobs ∙ names_less t v.ticket s.jobs f.jobs i;
  })
  behind a is_held octets meets slots1 apart u w (Somebody l b other stage few same timers names slots) =
      let q = v.place in
      let was = was_there k (held a).held l b other in
      let e : Dgrams = try_at q l b (held a) in
      Cuts (record {
        ticket = t;
        request = k;
        named = named;
        tryer = a;
        is_held = is_held;
        octets = octets;
        message = m;
        cut = cut;
        at = p;
        meets = meets;
        settled = settled_cut a;
        made = then_act (made_by q (multi.Puts (OpenDgram q server)) e) (still (suc q) e);
        steps = Steps_on q (held a) (multi.Puts (OpenDgram q server)) e _ _ (dgrams.Opens l b was.1 stage few) (AsItIs (settled_tried a b q l)) (Rests (suc q) e);
        is_cut = with_there l (Some (staged b (Trying q))) (held a).held k (λ same. was.0 (sym same)) ∙ with_here k (Some (staged a Cut)) d.held;
        nothing = refl;
        leaves = record {
          outs = ap (λ (w : View). w.outs) same ∙ append_assoc v.outs (Close p ∷ []) (OpenDgram q server ∷ []);
          place = ap (λ (w : View). w.place) same ∙ one_more q;
          slots = subst (λ (w : View). AreSlots conf 0 u (forget k e) (sight w)) (sym same) (record { alike = alike_as conf 0 _ (try_at q l b (forget k (held a))) (forget k e) _ (λ i. swap k l (Some (staged b (Trying q))) (held a).held i was.0) (λ i. refl) refl slots.alike; jobs = slots.jobs; places = slots.places; timers = slots.timers; queue = slots.queue });
          after = after_then v v1 w after (subst (IsAfter v1) (sym same) (after_opened server v1 after.fair));
          apart = subst (KeepsApart s d v u (forget k e)) (sym same) (record { owned = λ i x. apart.owned i (subst (λ ts. (n : ℕ) × (entry_at i ts ≡ Some n)) timers x); others = apart.others; places = λ i n x. elim (is_or_was q (Some l) (held a).at i n x) [ inl y ↦ inr (subst (λ i. q ≤ i) y.0 (le_refl q)) | inr y ↦ apart.places i n y.1 ] });
        };
        put = ap (λ (w : View). w.board) same;
        names = λ i. names i ∙ names_less t v.ticket s.jobs f.jobs i;
      })
    where
      one_more : (a : ℕ) → a + 1 ≡ suc a
      one_more a = omega arith

  pub cuts : Meets conf v.now d what (multi.Puts (Close p)) (leave p k o.tryer Cut d) → Leads (HasTold conf server what s d v) (finishes server t (Ok (Some m)) (leaves p t r s) (closes p r v))
  cuts meets =
      let slots1 = off_sent conf s d v f fair t p j is r st o.tryer Cut in
      leads_on (GaveOn conf server (leaves p t r s) (forget k (held o.tryer)) v1) (HasTold conf server what s d v) (gives_on server (leaves p t r s) v1)
      (behind o.tryer o.held o.job.octets meets slots1 (apart_sent conf s d v f fair t p j is r st o.tryer Cut (leaves p t r s) v1 refl refl))
      (gave_on conf server (leaves p t r s) (forget k (held o.tryer)) v1 slots1 after.fair)
