-- An event is told to the servers of a choice, and frames that it brings are taken: by one of them, or by none.
use Rattle.std.proofs.Common.{◌≡◌, ℕ, zero, suc, ◌<◌, ◌≤◌, ◌⊎◌, inl, inr, Bool, true, false, nat_lt, length, Option, Some, slice_get, refl, sym, ap, subst, ◌∙◌, arith}
use Rattle.client_request.specs.Request.{Request}
use Rattle.client_request.specs.View.{View, Heard, told, more_at}
use Rattle.client_request.specs.declared.event.What.{What}
use Rattle.client_request.specs.declared.event.What.TheVariants.{Ask, Opened, OpenFailed, SendFailed, ShortSend, Datagram, RecvFailed, Wrote, WriteFailed, Bytes, ReadFailed, Ended, Tick}
use Rattle.client_choice.specs.Choice.{Choice, hears_all, hears_one}
use Rattle.client_choice.specs.Redundant.{with_choice, transport}
use Rattle.client_choice.specs.Servers.{Server}
use Rattle.proof_right.specs.machine.Client.{with_up}
use Rattle.proof_parts.specs.PartTie.{Phase, Untold, Told, Passed, IsOpen, MayLeave, Leads, place_in}
use Rattle.proof_parts.specs.Sights.{sight, IsFair, IsEarly}
use Rattle.proof_parts.specs.WholeTie as whole
use Rattle.proof_parts.proofs.Keys.{each_number}
use Rattle.proof_choice.specs.Choosing.{Choosing}
use Rattle.proof_choice.specs.Doing.{CallsAreMoves, HasTold, IsNothing}
use Rattle.proof_choice.specs.Requests.{Others}
use Rattle.proof_choice.specs.Servers.{State}
use Rattle.proof_choice.specs.Whole.{Whole, Owns, Agrees, IsCalm, OneTook, IsAt, Tied, names}
use Rattle.proof_choice.proofs.AwaitingCalls.{hears_all_awaits}
use Rattle.proof_choice.proofs.Dropping.{found_at}
use Rattle.proof_choice.proofs.Leading.{up_here, up_other}
use Rattle.proof_choice.proofs.WholeFiring.{others_open}
use Rattle.proof_choice.proofs.WholeHearing.{all_pass, one_of_all, passed_event, still_none}
use Rattle.proof_choice.proofs.WholeLeaving.{AreOthers, still_of, others_of, leaves_so, nothing_so, small_so, closes, up_to_here}
use Rattle.proof_choice.proofs.WholeViews.{in_conf, TiedAt, at_view}

at_least : (n : ℕ) → 0 ≤ n
at_least n = omega arith

not_below : (n : ℕ) → n < n → ⊥
not_below n lt = omega arith

more : (a b c : ℕ) → a < b → b ≤ c → a < c
more a b c p q = omega arith

some_is : {A : Type 0} (a b : A) → Some a ≡ Some b → a ≡ b
some_is a b e = cc

-- no frame is left at its place
none_left : (w : What) (p : ℕ) → place_in w ≡ Some p → MayLeave w p 0
none_left (Ask r) p is = absurd (cc)
none_left (Opened q) p is = refl
none_left (OpenFailed q f) p is = refl
none_left (SendFailed q f) p is = refl
none_left (ShortSend q) p is = refl
none_left (Datagram q o) p is = refl
none_left (RecvFailed q f) p is = refl
none_left (Wrote q n) p is = refl
none_left (WriteFailed q f) p is = refl
none_left (Bytes q o) p is = (some_is q p is, at_least (length o))
none_left (ReadFailed q f) p is = refl
none_left (Ended q) p is = refl
none_left Tick p is = absurd (cc)

-- frames that are left are at its place
left_there : (w : What) (p at left : ℕ) → place_in w ≡ Some p → MayLeave w at left → (left ≡ 0) ⊎ (at ≡ p)
left_there (Ask r) p at left is m = inl m
left_there (Opened q) p at left is m = inl m
left_there (OpenFailed q f) p at left is m = inl m
left_there (SendFailed q f) p at left is m = inl m
left_there (ShortSend q) p at left is m = inl m
left_there (Datagram q o) p at left is m = inl m
left_there (RecvFailed q f) p at left is m = inl m
left_there (Wrote q n) p at left is m = inl m
left_there (WriteFailed q f) p at left is m = inl m
left_there (Bytes q o) p at left is m = inr (sym m.0 ∙ some_is q p is)
left_there (ReadFailed q f) p at left is m = inl m
left_there (Ended q) p at left is m = inl m
left_there Tick p at left is m = inl m

module _ (g : Choosing) where
  abbrev count : ℕ
  count = length (g.c).servers

  -- a server that has the place, or none
  who_has : (x : State g) (p n : ℕ) → ((s : ℕ) × (s < n) × (g.has (x.ups s) p ≡ true)) ⊎ ((s : ℕ) → s < n → g.has (x.ups s) p ≡ false)
  who_has x p zero = inr (λ s lt. absurd (omega arith))
  who_has x p (suc n) = elim (who_has x p n) [
    | inl f ↦ inl (f.0, up f.0 n f.1, f.2)
    | inr none ↦ by (g.has (x.ups n) p) refl none
  ]
    where
      up : (s n : ℕ) → s < n → s < suc n
      up s n lt = omega arith

      last : (n : ℕ) → n < suc n
      last n = omega arith

      by : (b : Bool) → g.has (x.ups n) p ≡ b → ((s : ℕ) → s < n → g.has (x.ups s) p ≡ false) → ((s : ℕ) × (s < suc n) × (g.has (x.ups s) p ≡ true)) ⊎ ((s : ℕ) → s < suc n → g.has (x.ups s) p ≡ false)
      by true is none = inl (n, last n, is)
      by false is none = inr (λ s lt. elim (up_to_here n s lt) [ inl same ↦ subst (λ s. g.has (x.ups s) p ≡ false) same is | inr less ↦ none s less ])

  module _ (r : Whole g) (v : View) (x : State g) (what : What) (p : ℕ) (place : place_in what ≡ Some p) (t : TiedAt g (Untold what) r v x) (early : IsEarly v) where
    abbrev h : Agrees g t.phases t.named r v x
    h = t.agrees

    -- Each server that has not the place has passed the event, but for one that is told it.
    passed_but : (s : ℕ) → ((q : ℕ) → q < count → (s ≡ q → ⊥) → g.has (x.ups q) p ≡ false) → Agrees g (with_up s (Untold what) (λ q. Passed what)) t.named r v x
    passed_but s none = record {
      settings = h.settings;
      servers = record {
        count = h.servers.count;
        tied = λ q a at. (let lt = in_conf g t.phases r.choice.servers v x q a h.servers at in
            let was : g.Tied q (Untold what) a.upstream (sight v) (x.ups q) = subst (λ f. g.Tied q f a.upstream (sight v) (x.ups q)) (t.at q lt) (h.servers.tied q a at) in
            each_number (λ q. q < count → g.Tied q (Untold what) a.upstream (sight v) (x.ups q) → g.Tied q (with_up s (Untold what) (λ q. Passed what) q) a.upstream (sight v) (x.ups q)) s
            (λ lt was. subst (λ f. g.Tied s f a.upstream (sight v) (x.ups s)) (sym (up_here s (Untold what) (λ q. Passed what))) was)
            (λ q ne lt was. subst (λ f. g.Tied q f a.upstream (sight v) (x.ups q)) (sym (up_other s q (Untold what) (λ q. Passed what) ne)) ((g.shared q lt).passes a.upstream (sight v) (x.ups q) what p was place (none q lt ne) (λ i due own is. early i due is)))
            q lt was);
        apart = h.servers.apart;
        fair = h.servers.fair;
        place = h.servers.place;
        places = h.servers.places;
      };
      quiet = h.quiet;
      is_named = h.is_named;
      kept = h.kept;
      foreign = h.foreign;
      timers = h.timers;
      sorted = h.sorted;
      drawn = h.drawn;
      awaited = h.awaited;
      board = h.board;
    }

  not_this : (s : ℕ) → s < count → count ≡ s → ⊥
  not_this s lt same = not_below s (subst (λ n. s < n) same lt)

  in_list : (r : Whole g) (s : ℕ) → length r.choice.servers ≡ count → s < count → s < length r.choice.servers
  in_list r s same lt = subst (λ n. s < n) (sym same) lt

  -- One server hears of the event, which the others passed.
  module _ (r : Whole g) (v : View) (x : State g) (phases : ℕ → Phase) (named : ℕ → ℕ → Option ℕ) (a : Agrees g phases named r v x) (s : ℕ) (inside : s < count) (what : What) (passed : (q : ℕ) → q < count → (s ≡ q → ⊥) → phases q ≡ Passed what)
      (p : ℕ) (place : place_in what ≡ Some p) (below : p < v.place) (heard : Heard) (MayBe : (place left : ℕ) → Type 0) where
    abbrev Told_it : Others → Choice Request g.U g.R → View → Type 0
    Told_it others = HasTold g others phases s MayBe (names g r) v x

    abbrev phases_at : (at frames : ℕ) → ℕ → Phase
    phases_at at frames = with_up s (Told at frames) phases

    still_passed : (at frames q : ℕ) → q < count → (s ≡ q → ⊥) → phases_at at frames q ≡ Passed what
    still_passed at frames q lt ne = up_other s q (Told at frames) phases ne ∙ passed q lt ne

    is_open : (q : ℕ) → q < count → (s ≡ q → ⊥) → IsOpen (phases q) v.place
    is_open q lt ne = subst (λ f. IsOpen f v.place) (sym (passed q lt ne)) (λ n is. subst (λ n. n < v.place) (some_is p n (sym place ∙ is)) below)

    one_told : ((others : Others) → AreOthers g others r v → Leads (Told_it others) (hears_one g.below g.settings s heard r.choice v))
        → ((q : ℕ) → q < count → (s ≡ q → ⊥) → IsNothing g q heard r.choice v)
        → ((others : Others) (d : Choice Request g.U g.R) (w : View) → Told_it others d w → (q : ℕ) → q < count → (s ≡ q → ⊥) → IsNothing g q heard d w)
        → ((at left : ℕ) → MayBe at left → (left ≡ 0) ⊎ (at ≡ p))
        → Leads (whole.Tells g.st g.P (Tied g) (names g) (Owns g) x r v MayBe) (with_choice r (hears_all g.below g.settings heard r.choice v))
    one_told moves before after there =
        closes g r v Told_it (whole.Tells g.st g.P (Tied g) (names g) (Owns g) x r v MayBe) (hears_all g.below g.settings heard r.choice v)
        (λ others o. one_of_all g (Told_it others) heard r.choice v s (in_list r s a.servers.count inside) (λ q lt ne. before q (subst (λ n. q < n) a.servers.count lt) ne) (moves others o)
        (λ d w t q lt ne. after others d w t q (subst (λ n. q < n) a.servers.count lt) ne))
        (hears_all_awaits count g.below g.settings heard r.choice v a.awaited)
        (λ others d w t. others_of g others (phases_at t.at t.frames) s t.left (t.acted).named (record r { choice = d }) w (t.acted).end (t.acted).still)
        (λ d w t awaits others. record {
          at = t.at;
          left = t.frames;
          may_be = t.may_be;
          more = (t.acted).says;
          leaves = leaves_so g (Told t.at t.frames) (phases_at t.at t.frames) s (names g r) t.left (nat_lt 0 t.frames) named phases r v v x a a.servers.fair x (small_so g phases named r v x a) d w t.acted awaits (inl (record {
            server = s;
            within = inside;
            told = up_here s (Told t.at t.frames) phases;
            what = what;
            passed = still_passed t.at t.frames;
            place = p;
            in_place = place;
            frames = there t.at t.frames t.may_be;
            below = more p v.place w.place below (t.acted).went.goes_on.place;
            calm = (t.acted).still.stands.calm t.at t.frames (up_here s (Told t.at t.frames) phases);
          })) others;
        })

  module _ (calls : CallsAreMoves g) (r : Whole g) (v : View) (x : State g) (what : What) (p : ℕ) (place : place_in what ≡ Some p) (t : TiedAt g (Untold what) r v x) (early : IsEarly v) (calm : v.more ≡ false) where
    -- it is the event of nobody here
    nobody_told : ((s : ℕ) → s < count → g.has (x.ups s) p ≡ false) → Leads (whole.Tells g.st g.P (Tied g) (names g) (Owns g) x r v (MayLeave what)) (with_choice r (hears_all g.below g.settings (told what) r.choice v))
    nobody_told none =
        subst (λ o. Leads (whole.Tells g.st g.P (Tied g) (names g) (Owns g) x r v (MayLeave what)) (with_choice r o)) (sym (all_pass g (told what) r.choice v passes))
        (record {
          at = p;
          left = 0;
          may_be = none_left what p place;
          more = calm;
          leaves = nothing_so g (Told p 0) r v x (record {
            phases = phases;
            named = t.named;
            agrees = a;
            at = inr (refl, inl (record { what = what; passed = λ q lt. is_passed q lt; early = λ i n due at is. early i due is }));
          });
        })
      where
        phases : ℕ → Phase
        phases = with_up count (Untold what) (λ q. Passed what)

        is_passed : (q : ℕ) → q < count → phases q ≡ Passed what
        is_passed q lt = up_other count q (Untold what) (λ q. Passed what) (not_this q lt)

        a : Agrees g phases t.named r v x
        a = passed_but r v x what p place t early count (λ q lt ne. none q lt)

        passes : (q : ℕ) → q < length r.choice.servers → IsNothing g q (told what) r.choice v
        passes q lt =
            let f = found_at r.choice.servers q lt in
            let in_conf_q = in_conf g phases r.choice.servers v x q f.0 a.servers f.1 in
            passed_event g phases q f.0 what p r.choice v x a.servers f.1 (a.quiet q f.0 f.1).0 (is_passed q in_conf_q) place (none q in_conf_q)

    -- it is that of one server
    owner_told : (s : ℕ) → s < count → g.has (x.ups s) p ≡ true → Leads (whole.Tells g.st g.P (Tied g) (names g) (Owns g) x r v (MayLeave what)) (with_choice r (hears_all g.below g.settings (told what) r.choice v))
    owner_told s lt has =
        one_told r v x phases t.named a s lt what is_passed p place below (told what) (MayLeave what)
        (λ others o. calls.telling others phases s f.0 what (t.named s) t.named r.choice v x (still_of g others phases s t.named r v x a o is_open_here untold_calm) f.1 (up_here s (Untold what) (λ q. Passed what))
        (λ i due own is. early i due is) (λ i n due at is. early i due is) calm)
        (λ q less ne. (let e = found q less in passed_event g phases q e.0 what p r.choice v x a.servers e.1 (a.quiet q e.0 e.1).0 (is_passed q less ne) place (none q less ne)))
        (λ others d w to q less ne. after others d w to q less ne)
        (λ at left m. left_there what p at left place m)
      where
        phases : ℕ → Phase
        phases = with_up s (Untold what) (λ q. Passed what)

        is_passed : (q : ℕ) → q < count → (s ≡ q → ⊥) → phases q ≡ Passed what
        is_passed q lt ne = up_other s q (Untold what) (λ q. Passed what) ne

        not_both : (b : Bool) → b ≡ true → b ≡ false → ⊥
        not_both b p q = cc

        none : (q : ℕ) → q < count → (s ≡ q → ⊥) → g.has (x.ups q) p ≡ false
        none q less ne = by (g.has (x.ups q) p) refl
          where
            by : (b : Bool) → g.has (x.ups q) p ≡ b → b ≡ false
            by false is = refl
            by true is = absurd (ne (t.agrees.servers.places.places s q p lt less has is))

        a : Agrees g phases t.named r v x
        a = passed_but r v x what p place t early s none

        below_x : p < x.place
        below_x = t.agrees.servers.places.below s p lt has

        below : p < v.place
        below = subst (λ n. p < n) t.agrees.servers.place below_x

        found : (q : ℕ) → q < count → (b : Server g.U) × (slice_get r.choice.servers q ≡ Some b)
        found q less = found_at r.choice.servers q (in_list r q a.servers.count less)

        f : (b : Server g.U) × (slice_get r.choice.servers s ≡ Some b)
        f = found s lt

        is_open_here : (q : ℕ) → q < count → (s ≡ q → ⊥) → IsOpen (phases q) v.place
        is_open_here = is_open r v x phases t.named a s lt what is_passed p place below (told what) (MayLeave what)

        untold_calm : (at frames : ℕ) → phases s ≡ Told at frames → IsCalm g s r.choice v
        untold_calm at frames is = absurd (let z : Untold what ≡ Told at frames = sym (up_here s (Untold what) (λ q. Passed what)) ∙ is in cc)

        after : (others : Others) (d : Choice Request g.U g.R) (w : View) → HasTold g others phases s (MayLeave what) (names g r) v x d w → (q : ℕ) → q < count → (s ≡ q → ⊥) → IsNothing g q (told what) d w
        after others d w to q less ne =
            let st = (to.acted).still.stands in
            let e = found_at d.servers q (subst (λ n. q < n) (sym st.servers.count) less) in
            passed_event g (with_up s (Told to.at to.frames) phases) q e.0 what p d w (to.acted).end st.servers e.1 (st.quiet q e.0 e.1).0 (up_other s q (Told to.at to.frames) phases ne ∙ is_passed q less ne) place
            (still_none g x (to.acted).went.outs (to.acted).end q p (to.acted).went.leads below_x (none q less ne))

    tells_here : Leads (whole.Tells g.st g.P (Tied g) (names g) (Owns g) x r v (MayLeave what)) (with_choice r (hears_all g.below g.settings (told what) r.choice v))
    tells_here = elim (who_has x p count) [ inl f ↦ owner_told f.0 f.1 f.2 | inr none ↦ nobody_told none ]

  pub tells : CallsAreMoves g → (r : Whole g) (v : View) (x : State g) (what : What) (p : ℕ) → Tied g (Untold what) r (sight v) x → IsFair v → IsEarly v → v.more ≡ false → place_in what ≡ Some p
      → Leads (whole.Tells g.st g.P (Tied g) (names g) (Owns g) x r v (MayLeave what)) ((transport g.below).step (told what) r v)
  tells calls r v x what p t fair early calm place =
      let here = at_view g (Untold what) r v x fair t in
      subst (λ st. Leads (whole.Tells g.st g.P (Tied g) (names g) (Owns g) x r v (MayLeave what)) (with_choice r (hears_all g.below st (told what) r.choice v))) (sym (here.agrees).settings) (tells_here calls r v x what p place here early calm)

  -- a frame is taken by the server that took the event
  takes_here : CallsAreMoves g → (r : Whole g) (v : View) (x : State g) (p n : ℕ) (t : TiedAt g (Told p (suc n)) r v x) → v.more ≡ false → OneTook g p (suc n) t.phases r.choice v
      → Leads (whole.Tells g.st g.P (Tied g) (names g) (Owns g) x r v (λ q left. (q ≡ p) × (left ≤ n))) (with_choice r (hears_all g.below g.settings (more_at p) r.choice v))
  takes_here calls r v x p n t calm o =
      one_told r v x t.phases t.named a o.server o.within o.what o.passed o.place o.in_place o.below (more_at p) (λ q left. (q ≡ p) × (left ≤ n))
      (λ others are. calls.taking others t.phases o.server f.0 p n (t.named o.server) t.named r.choice v x (still_of g others t.phases o.server t.named r v x a are (others_open g p (suc n) t.phases r.choice v o) (λ at frames told. o.calm)) f.1 o.told calm)
      (λ q less ne. (let e = found q less in calls.ignoring.frames t.phases q e.0 o.what p r.choice v x a.servers e.1 (a.quiet q e.0 e.1).0 (o.passed q less ne) there))
      (λ others d w to q less ne. after others d w to q less ne)
      (λ at left m. inr (m.0 ∙ same))
    where
      a : Agrees g t.phases t.named r v x
      a = t.agrees

      found : (q : ℕ) → q < count → (b : Server g.U) × (slice_get r.choice.servers q ≡ Some b)
      found q less = found_at r.choice.servers q (in_list r q a.servers.count less)

      f : (b : Server g.U) × (slice_get r.choice.servers o.server ≡ Some b)
      f = found o.server o.within

      same : p ≡ o.place
      same = elim o.frames [ inl none ↦ absurd (cc) | inr is ↦ is ]

      there : place_in o.what ≡ Some p
      there = o.in_place ∙ ap (λ n. Some n) (sym same)

      after : (others : Others) (d : Choice Request g.U g.R) (w : View) → HasTold g others t.phases o.server (λ q left. (q ≡ p) × (left ≤ n)) (names g r) v x d w → (q : ℕ) → q < count → (o.server ≡ q → ⊥) → IsNothing g q (more_at p) d w
      after others d w to q less ne =
          let st = (to.acted).still.stands in
          let e = found_at d.servers q (subst (λ n. q < n) (sym st.servers.count) less) in
          calls.ignoring.frames (with_up o.server (Told to.at to.frames) t.phases) q e.0 o.what p d w (to.acted).end st.servers e.1 (st.quiet q e.0 e.1).0 (up_other o.server q (Told to.at to.frames) t.phases ne ∙ o.passed q less ne) there

  pub takes : CallsAreMoves g → (r : Whole g) (v : View) (x : State g) (p n : ℕ) → Tied g (Told p (suc n)) r (sight v) x → IsFair v → v.more ≡ false
      → Leads (whole.Tells g.st g.P (Tied g) (names g) (Owns g) x r v (λ q left. (q ≡ p) × (left ≤ n))) ((transport g.below).step (more_at p) r v)
  takes calls r v x p n t fair calm =
      let here = at_view g (Told p (suc n)) r v x fair t in
      subst (λ st. Leads (whole.Tells g.st g.P (Tied g) (names g) (Owns g) x r v (λ q left. (q ≡ p) × (left ≤ n))) (with_choice r (hears_all g.below st (more_at p) r.choice v))) (sym (here.agrees).settings) (by here here.at)
    where
      by : (t : TiedAt g (Told p (suc n)) r v x) → IsAt g (Told p (suc n)) t.phases r.choice v → Leads (whole.Tells g.st g.P (Tied g) (names g) (Owns g) x r v (λ q left. (q ≡ p) × (left ≤ n))) (with_choice r (hears_all g.below g.settings (more_at p) r.choice v))
      by t (inl o) = takes_here calls r v x p n t calm o
      by t (inr (none, rest)) = absurd (cc)
