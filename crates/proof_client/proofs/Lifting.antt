-- A transport that is tied stays tied, and leaves alone what is not its own, where it stands as one of several kinds.
use Rattle.std.proofs.Common.{◌≡◌, ℕ, suc, ◌≤◌, ◌⊎◌, inl, inr, max, false, [], Option, Some, None, sym, ap, subst, ◌∙◌}
use Rattle.std.specs.Prelude.{option_map}
use Rattle.std.proofs.lemmas.Option.{same_Some}
use Rattle.dns_names.proofs.Heads.{none_some}
use Rattle.client_request.specs.Carries.{IsOfOctets}
use Rattle.client_request.specs.Request.{Request}
use Rattle.client_request.specs.Timers.{cancelled}
use Rattle.client_request.specs.View.{View, Heard, Transport, told, more_at, due_timer, asks}
use Rattle.client_request.specs.declared.event.Out.TheVariants.{Start}
use Rattle.client_request.specs.declared.event.Via.{Via}
use Rattle.client_request.specs.declared.event.What.{What}
use Rattle.right_trace.specs.Trace.{Conf}
use Rattle.proof_right.specs.machine.Part.{Act, ServerPart}
use Rattle.right_trace.specs.Updates.{with_at}
use Rattle.proof_parts.specs.Chains.{Chain, Begins, Gives}
use Rattle.proof_parts.specs.PartTie.{Phase, Untold, Told, Passed, MayLeave, IsOpen, Leads, Leaves, Tells, IsTie}
use Rattle.proof_parts.specs.Sharing.{IsShared}
use Rattle.proof_parts.specs.Sights.{Sight, sight, due_of, IsFair, NoneDue}

-- what a call leaves below, above
abbrev pub raised : {U V : Type 0} → (U → V) → Option (U × View) → Option (V × View)
raised up after = option_map (λ x. (up x.0, x.1)) after

lead_up : {U V : Type 0} (up : U → V) (A : U → View → Type 0) (B : V → View → Type 0) (o : Option (U × View)) → ((u : U) (x : View) → A u x → B (up u) x) → Leads A o → Leads B (raised up o)
lead_up up A B None f l = tt
lead_up up A B (Some x) f l = f x.0 x.1 l

same_second : {V : Type 0} (p q : V × View) → Some p ≡ Some q → p.1 ≡ q.1
same_second {V} p q e = ap (λ (p : V × View). p.1) (same_Some p q e)

-- what was left above was left below
was_left : {U V : Type 0} (up : U → V) (o : Option (U × View)) (w : V) (x : View) → raised up o ≡ Some (w, x) → (u : U) × (o ≡ Some (u, x))
was_left up None w x e = absurd (none_some e)
was_left up (Some y) w x e = (y.0, ap (λ (v : View). Some (y.0, v)) (same_second (up y.0, y.1) (w, x) e))

-- T is t in another type: `up` leads there, and `asked` gives what stands for a result below.
pub record IsRaised {c : Conf} (P : ServerPart c) {U R V Q : Type 0} (t : Transport Request U R) (ticket : R → ℕ) (Tied : Phase → U → Sight → P.State → Type 0) (names : U → ℕ → Option ℕ) (Owns : U → ℕ → Type 0)
    (T : Transport Request V Q) (number : Q → ℕ) (TiedV : Phase → V → Sight → P.State → Type 0) (namesV : V → ℕ → Option ℕ) (OwnsV : V → ℕ → Type 0) (up : U → V) (asked : Q → R) : Type 0 where
  pub out : (phase : Phase) (v : V) (x : Sight) (a : P.State) → TiedV phase v x a → (u : U) × (v ≡ up u) × Tied phase u x a
  pub into : (phase : Phase) (u : U) (x : Sight) (a : P.State) → Tied phase u x a → TiedV phase (up u) x a
  pub names_are : (u : U) → namesV (up u) ≡ names u
  pub owns_below : (u : U) (i : ℕ) → OwnsV (up u) i → Owns u i
  pub owns_above : (u : U) (i : ℕ) → Owns u i → OwnsV (up u) i
  pub knows : (v : V) (i : ℕ) → OwnsV v i ⊎ (OwnsV v i → ⊥)
  pub send : (r : Request) (u : U) (v : View) → T.send r (up u) v ≡ raised up (t.send r u v)
  pub step : (h : Heard) (u : U) (v : View) → T.step h (up u) v ≡ raised up (t.step h u v)
  pub cancel : (q : Q) (u : U) (v : View) → T.cancel q (up u) v ≡ raised up (t.cancel (asked q) u v)
  pub numbers : (q : Q) → ticket (asked q) ≡ number q
  pub response : (r : Request) (v : V) (w : View) → number (T.response r v w) ≡ w.ticket

module _ {c : Conf} (P : ServerPart c) {U R V Q : Type 0} (t : Transport Request U R) (ticket : R → ℕ) (Tied : Phase → U → Sight → P.State → Type 0) (names : U → ℕ → Option ℕ) (Owns : U → ℕ → Type 0)
    (T : Transport Request V Q) (number : Q → ℕ) (TiedV : Phase → V → Sight → P.State → Type 0) (namesV : V → ℕ → Option ℕ) (OwnsV : V → ℕ → Type 0) (up : U → V) (asked : Q → R)
    (is : IsRaised P t ticket Tied names Owns T number TiedV namesV OwnsV up asked) where
  leaves_up : (May : Act P.State → Type 0) (named : ℕ → Option ℕ) (u : U) (v : View) (phase : Phase) (w : U) (x : View) → Leaves P Tied names Owns May named u v phase w x → Leaves P TiedV namesV OwnsV May named (up u) v phase (up w) x
  leaves_up May named u v phase w x l = record {
    made = l.made;
    may = l.may;
    outs = l.outs;
    place = l.place;
    board = l.board;
    put = l.put;
    gives = subst (λ f. Gives named l.board l.made.posts f) (sym (is.names_are w)) l.gives;
    tied = is.into phase w (sight x) l.made.state l.tied;
    goes_on = l.goes_on;
    owned = λ i o. elim (l.owned i (is.owns_below w i o)) [ inl p ↦ inl (is.owns_above u i p) | inr le ↦ inr le ];
    others = λ i due n e. l.others i due (λ o. n (is.owns_above u i o)) e;
  }

  -- a call below, from the same names
  call_up : (May : Act P.State → Type 0) (named : ℕ → Option ℕ) (u : U) (v : View) (phase : Phase) (o : Option (U × View)) (p : Option (V × View)) → p ≡ raised up o → Leads (Leaves P Tied names Owns May named u v phase) o → Leads (Leaves P TiedV namesV OwnsV May named (up u) v phase) p
  call_up May named u v phase o p e l = subst (Leads (Leaves P TiedV namesV OwnsV May named (up u) v phase)) (sym e) (lead_up up (Leaves P Tied names Owns May named u v phase) (Leaves P TiedV namesV OwnsV May named (up u) v phase) o (leaves_up May named u v phase) l)

  tells_up : (May : Act P.State → Type 0) (u : U) (v : View) (MayBe : (place left : ℕ) → Type 0) (o : Option (U × View)) (p : Option (V × View)) → p ≡ raised up o → Leads (Tells P Tied names Owns May u v MayBe) o → Leads (Tells P TiedV namesV OwnsV May (up u) v MayBe) p
  tells_up May u v MayBe o p e l = subst (Leads (Tells P TiedV namesV OwnsV May (up u) v MayBe)) (sym e) (lead_up up (Tells P Tied names Owns May u v MayBe) (Tells P TiedV namesV OwnsV May (up u) v MayBe) o one l)
    where
      one : (w : U) (x : View) → Tells P Tied names Owns May u v MayBe w x → Tells P TiedV namesV OwnsV May (up u) v MayBe (up w) x
      one w x k = record { at = k.at; left = k.left; may_be = k.may_be; more = k.more; leaves = subst (λ f. Leaves P TiedV namesV OwnsV May f (up u) v (Told k.at k.left) (up w) x) (sym (is.names_are u)) (leaves_up May (names u) u v (Told k.at k.left) w x k.leaves) }

  none_below : (u : U) (x : Sight) → NoneDue (OwnsV (up u)) x → NoneDue (Owns u) x
  none_below u x none i due o e = none i due (is.owns_above u i o) e

  -- It is tied there too.
  pub raised_is_tied : (s : ℕ) (via : Via) (first : U) → IsTie P s via t ticket first Tied names Owns → IsTie P s via T number (up first) TiedV namesV OwnsV
  raised_is_tied s via first y = record {
    fresh = λ x e. is.into (Told 0 0) first x P.fresh (y.fresh x e);
    same = λ phase v x z a l now dues timer tick place. (let o = is.out phase v x a l in subst (λ v. TiedV phase v z a) (sym o.1)
        (is.into phase o.0 z a (y.same phase o.0 x z a o.2 now (λ i own. dues i (subst (λ v. OwnsV v i) (sym o.1) (is.owns_above o.0 i own))) timer tick place)));
    set = λ phase v x a i l own. (let o = is.out phase v x a l in y.set phase o.0 x a i o.2 (is.owns_below o.0 i (subst (λ v. OwnsV v i) o.1 own)));
    named = λ phase v x a i k l e. (let o = is.out phase v x a l in y.named phase o.0 x a i k o.2 (ap (λ (f : ℕ → Option ℕ). f i) (sym (is.names_are o.0)) ∙ (ap (λ v. namesV v i) (sym o.1) ∙ e)));
    held = λ phase v x a k l e. (let o = is.out phase v x a l in let h = y.held phase o.0 x a k o.2 e in (h.0, ap (λ v. namesV v h.0) o.1 ∙ (ap (λ (f : ℕ → Option ℕ). f h.0) (is.names_are o.0) ∙ h.1)));
    response = is.response;
    quiet = λ phase v x a was l i due own e. (let o = is.out phase v x a l in y.quiet phase o.0 x a was o.2 i due (is.owns_below o.0 i (subst (λ v. OwnsV v i) o.1 own)) e);
    begins = λ phase v x a e may l. (let o = is.out phase v x a l in subst (λ v. TiedV (Untold e.what) v (record x { now = max e.moment.0 x.now }) (P.begin e a)) (sym o.1) (is.into (Untold e.what) o.0 (record x { now = max e.moment.0 x.now }) (P.begin e a) (y.begins phase o.0 x a e may o.2)));
    rests = λ phase v w a may none l. (let o = is.out phase v (sight w) a l in y.rests phase o.0 w a may (none_below o.0 (sight w) (subst (λ v. NoneDue (OwnsV v) (sight w)) o.1 none)) o.2);
    fires = fires;
    sends = sends;
    cancels = cancels;
    tells = tells;
    takes = takes;
  }
    where
      fires : (v : V) (w : View) (a : P.State) (what : What) (i due : ℕ) → TiedV (Untold what) v (sight w) a → IsFair w → due_of i w.timers.set ≡ Some due → due ≤ w.now
          → Leads (Leaves P TiedV namesV OwnsV (Chain P s w.place a) (namesV v) v (record w { timers = cancelled i w.timers }) (Untold what)) (T.step (due_timer i) v (record w { timers = cancelled i w.timers }))
      fires v w a what i due l fair e late =
          let o = is.out (Untold what) v (sight w) a l in
          let after : View = record w { timers = cancelled i w.timers } in
          subst (λ v. Leads (Leaves P TiedV namesV OwnsV (Chain P s w.place a) (namesV v) v after (Untold what)) (T.step (due_timer i) v after)) (sym o.1)
          (subst (λ f. Leads (Leaves P TiedV namesV OwnsV (Chain P s w.place a) f (up o.0) after (Untold what)) (T.step (due_timer i) (up o.0) after)) (sym (is.names_are o.0))
          (call_up (Chain P s w.place a) (names o.0) o.0 after (Untold what) (t.step (due_timer i) o.0 after) (T.step (due_timer i) (up o.0) after) (is.step (due_timer i) o.0 after) (y.fires o.0 w a what i due o.2 fair e late)))

      sends : (phase : Phase) (v : V) (w : View) (a : P.State) (r : Request) → IsOpen phase w.place → TiedV phase v (sight w) a → IsFair w → IsOfOctets r → P.holds a w.request ≡ false
          → Leads (Leaves P TiedV namesV OwnsV (Begins (P.Starts s w.place w.request r a) (Chain P s)) (with_at w.ticket (Some w.request) (namesV v)) v w phase) (T.send r v (asks (Start w.request s via) w))
      sends phase v w a r may l fair octets free =
          let o = is.out phase v (sight w) a l in
          let May = Begins (P.Starts s w.place w.request r a) (Chain P s) in
          let said : View = asks (Start w.request s via) w in
          subst (λ v. Leads (Leaves P TiedV namesV OwnsV May (with_at w.ticket (Some w.request) (namesV v)) v w phase) (T.send r v said)) (sym o.1)
          (subst (λ f. Leads (Leaves P TiedV namesV OwnsV May (with_at w.ticket (Some w.request) f) (up o.0) w phase) (T.send r (up o.0) said)) (sym (is.names_are o.0))
          (call_up May (with_at w.ticket (Some w.request) (names o.0)) o.0 w phase (t.send r o.0 said) (T.send r (up o.0) said) (is.send r o.0 said) (y.sends phase o.0 w a r may o.2 fair octets free)))

      cancels : (phase : Phase) (v : V) (w : View) (a : P.State) (q : Q) (k : ℕ) → IsOpen phase w.place → TiedV phase v (sight w) a → IsFair w → namesV v (number q) ≡ Some k
          → Leads (Leaves P TiedV namesV OwnsV (λ d. Begins (P.Cancels s w.place k a) (Chain P s) d × (d.posts ≡ [])) (with_at (number q) None (namesV v)) v w phase) (T.cancel q v w)
      cancels phase v w a q k may l fair e =
          let o = is.out phase v (sight w) a l in
          let May : Act P.State → Type 0 = λ d. Begins (P.Cancels s w.place k a) (Chain P s) d × (d.posts ≡ []) in
          let below : names o.0 (ticket (asked q)) ≡ Some k = ap (names o.0) (is.numbers q) ∙ (ap (λ (f : ℕ → Option ℕ). f (number q)) (sym (is.names_are o.0)) ∙ (ap (λ v. namesV v (number q)) (sym o.1) ∙ e)) in
          subst (λ v. Leads (Leaves P TiedV namesV OwnsV May (with_at (number q) None (namesV v)) v w phase) (T.cancel q v w)) (sym o.1)
          (subst (λ f. Leads (Leaves P TiedV namesV OwnsV May (with_at (number q) None f) (up o.0) w phase) (T.cancel q (up o.0) w)) (sym (is.names_are o.0))
          (subst (λ n. Leads (Leaves P TiedV namesV OwnsV May (with_at n None (names o.0)) (up o.0) w phase) (T.cancel q (up o.0) w)) (is.numbers q)
          (call_up May (with_at (ticket (asked q)) None (names o.0)) o.0 w phase (t.cancel (asked q) o.0 w) (T.cancel q (up o.0) w) (is.cancel q o.0 w) (y.cancels phase o.0 w a (asked q) k may o.2 fair below))))

      tells : (v : V) (w : View) (a : P.State) (what : What) → TiedV (Untold what) v (sight w) a → IsFair w → NoneDue (OwnsV v) (sight w) → w.more ≡ false
          → Leads (Tells P TiedV namesV OwnsV (Chain P s w.place a) v w (MayLeave what)) (T.step (told what) v w)
      tells v w a what l fair none calm =
          let o = is.out (Untold what) v (sight w) a l in
          subst (λ v. Leads (Tells P TiedV namesV OwnsV (Chain P s w.place a) v w (MayLeave what)) (T.step (told what) v w)) (sym o.1)
          (tells_up (Chain P s w.place a) o.0 w (MayLeave what) (t.step (told what) o.0 w) (T.step (told what) (up o.0) w) (is.step (told what) o.0 w)
          (y.tells o.0 w a what o.2 fair (none_below o.0 (sight w) (subst (λ v. NoneDue (OwnsV v) (sight w)) o.1 none)) calm))

      takes : (v : V) (w : View) (a : P.State) (p n : ℕ) → TiedV (Told p (suc n)) v (sight w) a → IsFair w → NoneDue (OwnsV v) (sight w) → w.more ≡ false
          → Leads (Tells P TiedV namesV OwnsV (Chain P s w.place a) v w (λ q left. (q ≡ p) × (left ≤ n))) (T.step (more_at p) v w)
      takes v w a p n l fair none calm =
          let o = is.out (Told p (suc n)) v (sight w) a l in
          subst (λ v. Leads (Tells P TiedV namesV OwnsV (Chain P s w.place a) v w (λ q left. (q ≡ p) × (left ≤ n))) (T.step (more_at p) v w)) (sym o.1)
          (tells_up (Chain P s w.place a) o.0 w (λ q left. (q ≡ p) × (left ≤ n)) (t.step (more_at p) o.0 w) (T.step (more_at p) (up o.0) w) (is.step (more_at p) o.0 w)
          (y.takes o.0 w a p n o.2 fair (none_below o.0 (sight w) (subst (λ v. NoneDue (OwnsV v) (sight w)) o.1 none)) calm))

  -- It leaves alone what is not its own there too.
  pub raised_is_shared : (has : P.State → ℕ → _) → IsShared P has t Tied Owns → IsShared P has T TiedV OwnsV
  raised_is_shared has y = record {
    knows = is.knows;
    timers = λ phase v w a i l not_own. (let o = is.out phase v (sight w) a l in unchanged v w (due_timer i) o.0 o.1 (y.timers phase o.0 w a i o.2 (λ own. not_own (subst (λ v. OwnsV v i) (sym o.1) (is.owns_above o.0 i own)))));
    ignores = λ v w a what p l place none. (let o = is.out (Untold what) v (sight w) a l in unchanged v w (told what) o.0 o.1 (y.ignores o.0 w a what p o.2 place none));
    passes = λ v x a what p l place none early. (let o = is.out (Untold what) v x a l in subst (λ v. TiedV (Passed what) v x a) (sym o.1) (is.into (Passed what) o.0 x a (y.passes o.0 x a what p o.2 place none (none_below o.0 x (subst (λ v. NoneDue (OwnsV v) x) o.1 early)))));
    frames = λ v w a what p l place. (let o = is.out (Passed what) v (sight w) a l in unchanged v w (more_at p) o.0 o.1 (y.frames o.0 w a what p o.2 place));
    alone = λ phase v w a r w' x may l fair octets free e. (let o = is.out phase v (sight w) a l in let b = sent v w r w' x o.0 o.1 e in y.alone phase o.0 w a r b.0 x may o.2 fair octets free b.1);
    says_none = λ phase v w a r w' x may l fair octets free e. (let o = is.out phase v (sight w) a l in let b = sent v w r w' x o.0 o.1 e in y.says_none phase o.0 w a r b.0 x may o.2 fair octets free b.1);
    keeps_more = λ phase v w a q w' x may l e. (let o = is.out phase v (sight w) a l in let b = was_left up (t.cancel (asked q) o.0 w) w' x (sym (ap (λ v. T.cancel q v w) o.1 ∙ is.cancel q o.0 w) ∙ e) in y.keeps_more phase o.0 w a (asked q) b.0 x may o.2 b.1);
  }
    where
      unchanged : (v : V) (w : View) (h : Heard) (u : U) → v ≡ up u → t.step h u w ≡ Some (u, w) → T.step h v w ≡ Some (v, w)
      unchanged v w h u e same = ap (λ v. T.step h v w) e ∙ (is.step h u w ∙ (ap (raised up) same ∙ ap (λ v. Some (v, w)) (sym e)))

      sent : (v : V) (w : View) (r : Request) (w' : V) (x : View) (u : U) → v ≡ up u → T.send r v w ≡ Some (w', x) → (b : U) × (t.send r u w ≡ Some (b, x))
      sent v w r w' x u e left = was_left up (t.send r u w) w' x (sym (ap (λ v. T.send r v w) e ∙ is.send r u w) ∙ left)
