-- What a call of one server is to all of them and to the machine.
use Rattle.std.proofs.Common.{◌≡◌, ℕ, zero, suc, ◌+◌, ◌<◌, ◌≤◌, inl, inr, Bool, true, false, cond, ◌==◌, List, [], ◌∷◌, length, Option, Some, None, slice_get, refl, sym, ap, ap₂, subst, subst₂, ◌∙◌, arith, le_refl}
use Rattle.std.proofs.lemmas.Bool.Decides.{nat_tests}
use Rattle.std.specs.Prelude.{set, option_map, option_and_then, nat_lt, not}
use Rattle.std.proofs.lemmas.Option.{slice_get_within}
use Rattle.client_request.specs.Board as board
use Rattle.client_request.specs.Carries.{IsOfOctets}
use Rattle.client_request.specs.Composed.{composed}
use Rattle.client_request.specs.Request.{Request}
use Rattle.client_request.specs.Timers.{cancelled}
use Rattle.client_request.specs.View.{View, Heard, told, more_at, due_timer, asks}
use Rattle.client_request.specs.declared.event.Out.TheVariants.{Start}
use Rattle.client_request.specs.declared.event.What.{What}
use Rattle.client_request.specs.declared.board.Posted.{Posted}
use Rattle.client_choice.specs.Servers.{Server, onto, drops_at, starts_at, hears_at, drops_found, starts_found, hears_found, starts, dropped, started, heard, reply, waits}
use Rattle.client_choice.specs.declared.servers.Reply.{Reply}
use Rattle.client_choice.specs.declared.servers.Reply.TheVariants.{Later, Now}
use Rattle.proof_right.specs.machine.Part.{Act, Post}
use Rattle.proof_right.specs.machine.Client.{Waiting, hand, with_up}
use Rattle.right_trace.specs.Updates.{with_at}
use Rattle.proof_parts.specs.Chains.{Chain, Begins, Gives}
use Rattle.proof_parts.specs.PartTie.{Phase, Untold, Told, Passed, IsOpen, MayLeave, Leaves, Tells, Leads as IfLeft, place_in}
use Rattle.proof_parts.specs.Sharing.{HasOneMore}
use Rattle.proof_parts.specs.Sights.{sight, due_of, IsFair, NoneDue}
use Rattle.proof_parts.proofs.GoingOn.{fair_without, dues_without}
use Rattle.proof_parts.proofs.Keys.{each_number, with_there, with_here, with_again, with_same}
use Rattle.proof_choice.specs.Choosing.{Choosing}
use Rattle.proof_parts.specs.Leading.{Reaches}
use Rattle.proof_choice.specs.Servers.{State, Listed, AreTied, OthersAreTied, OpensOn, AfterCall, IsDropped, HasReply, Comes, Came, IsStarted, IsHeard, IsTold}
use Rattle.proof_choice.proofs.AtServer.{stay_tied, but, both_are}
use Rattle.proof_choice.proofs.Leading.{cancel_moves, start_moves, chain_moves, up_here, up_other}
use Rattle.proof_choice.proofs.Opening.{chain_opens, start_opens, cancel_opens}

-- where no results are given the board is as it was
pub no_posts : (named : ℕ → Option ℕ) (b : List Posted) (posts : List Post) (left : ℕ → Option ℕ) → posts ≡ [] → Gives named b posts left → b ≡ []
no_posts named [] posts left e gives = refl
no_posts named (p ∷ ps) [] left e gives = absurd gives
no_posts named (p ∷ ps) (q ∷ qs) left e gives = absurd (cc)

-- a board with the one result of a ticket
abbrev only : (lower : ℕ) → board.Part → List Posted
only lower part = record { ticket = lower; part = part; is_stale = false } ∷ []

abbrev place_at : Bool → Option ℕ
place_at b = cond (nat_lt (cond (not b) (1 + 0) 0) (suc 0)) (Some (cond (not b) (1 + 0) 0)) None

it_is : (n : ℕ) → (n == n) ≡ true
it_is n = grind (arith, nat_tests)

part_there : (lower : ℕ) (part : board.Part) → board.part_of lower (only lower part) ≡ Some part
part_there lower part = by (lower == lower) (it_is lower)
  where
    by : (b : Bool) → b ≡ true → option_and_then (λ i. option_map (λ (p : Posted). p.part) (slice_get (only lower part) i)) (place_at b) ≡ Some part
    by true e = refl
    by false e = absurd (cc)

none_there : (lower : ℕ) (part : board.Part) → board.without_part lower (only lower part) ≡ []
none_there lower part = by (lower == lower) (it_is lower)
  where
    by : (b : Bool) → b ≡ true → board.removed_at (only lower part) (place_at b) ≡ []
    by true e = refl
    by false e = absurd (cc)

some_is : (a b : ℕ) → Some a ≡ Some b → a ≡ b
some_is a b e = cc

-- what stands for a result that is to come
later_is : {P : Type 0} → (o : Option board.Part) (p q : P) → Some (reply o p) ≡ Some (Later q) → p ≡ q
later_is None p q e = cc
later_is (Some part) p q e = absurd (cc)

module _ (g : Choosing) where
  pub in_conf : (phase : ℕ → Phase) (servers : Listed g) (v : View) (x : State g) (s : ℕ) (a : Server g.U) → AreTied g phase servers v x → slice_get servers s ≡ Some a → s < length (g.c).servers
  in_conf phase servers v x s a t at = subst (λ n. s < n) t.count (slice_get_within servers s a at)

  -- What a call leaves, from a view with another board, is what it leaves of all.
  pub called : (phase after : ℕ → Phase) (s : ℕ) (May : Act g.P.State → Type 0) (named : ℕ → Option ℕ) (a b : Server g.U) (servers : Listed g) (v : View) (from x : State g) (w : View)
      → OthersAreTied g s phase servers v x → slice_get servers s ≡ Some a → ((q : ℕ) → (s ≡ q → ⊥) → after q ≡ phase q)
      → (l : Leaves g.P (g.Tied s) g.names g.Owns May named a.upstream (onto [] v) (after s) b.upstream w) → Reaches g.st composed g.P s from x l.made → OpensOn g x.place (x.ups s) l.made
      → AfterCall g after s a b named w.board servers v from x (onto v.board w)
  called phase after s May named a b servers v from x w t at others l r opens = record {
    made = l.made;
    end = r.end;
    leads = r.leads;
    moved = r.is;
    put = l.outs;
    gives = subst (λ bs. Gives named bs l.made.posts (g.names b.upstream)) (sym l.put) l.gives;
    tied = stay_tied g s May named phase after servers a b v (onto v.board w) x r.end t at
        (record { before = onto [] v; after = w; from = record { now = refl; timers = refl; ticket = refl; place = refl; words = refl }; to = record { now = refl; timers = refl; ticket = refl; place = refl; words = refl }; leaves = l; moved = r.is; opens = opens }) others;
    goes_on = record { fair = record { order = l.goes_on.fair.order; words = l.goes_on.fair.words }; now = l.goes_on.now; timer = l.goes_on.timer; ticket = l.goes_on.ticket; place = l.goes_on.place; later = l.goes_on.later };
    owned = l.owned;
    others = l.others;
  }

  -- what holds of what a call leaves, of what is made of that
  pub left_map : {U V : Type 0} (A : U → View → Type 0) (B : V → View → Type 0) (f : U × View → V × View) (o : Option (U × View)) → ((u : U) (v : View) → A u v → B (f (u, v)).0 (f (u, v)).1) → IfLeft A o → IfLeft B (option_map f o)
  left_map A B f None h l = tt
  left_map A B f (Some x) h l = h x.0 x.1 l

  -- the same, where it is known what the call leaves
  pub left_so : {U V : Type 0} (A : U → View → Type 0) (B : V → View → Type 0) (f : U × View → V × View) (o : Option (U × View)) → ((u : U) (v : View) → o ≡ Some (u, v) → A u v → B (f (u, v)).0 (f (u, v)).1) → IfLeft A o → IfLeft B (option_map f o)
  left_so A B f None h l = tt
  left_so A B f (Some x) h l = h x.0 x.1 refl l

  module _ (phase : ℕ → Phase) (servers : Listed g) (v : View) (x : State g) (s : ℕ) (a : Server g.U) (t : AreTied g phase servers v x) (at : slice_get servers s ≡ Some a) (quiet : a.posted ≡ []) where
    within : s < length (g.c).servers
    within = in_conf phase servers v x s a t at

    abbrev bare_view : View
    bare_view = onto [] v

    fair : IsFair (onto [] v)
    fair = record { order = t.fair.order; words = t.fair.words }

    -- a request is given up
    pub one_drops : (k lower : ℕ) (r : g.R) → g.Fits s r → IsOpen (phase s) v.place → x.held k ≡ None → g.names a.upstream (g.ticket r) ≡ Some k → g.ticket r ≡ lower → IfLeft (IsDropped g phase s k lower a servers v x) (drops_at g.below s lower r servers v)
    one_drops k lower r fits may_call none named same =
        subst (λ o. IfLeft (IsDropped g phase s k lower a servers v x) (drops_found g.below s lower r servers v o)) (sym at)
        (subst (λ bs. IfLeft (IsDropped g phase s k lower a servers v x) (option_map (λ z. (set servers s z.0, z.1)) (option_map (dropped g.below lower a v) (g.below.cancel r a.upstream (onto bs v))))) (sym quiet)
        (subst (λ o. IfLeft (IsDropped g phase s k lower a servers v x) (option_map (λ z. (set servers s z.0, z.1)) (option_map (dropped g.below lower a v) o))) (sym ((g.layer s within).cancel r a.upstream bare_view (g.placed s (phase s) a.upstream (sight v) (x.ups s) (t.tied s a at)) fits))
        (left_map (λ (b : Server g.U) (w : View). IsDropped g phase s k lower a servers v x (set servers s b) w) (IsDropped g phase s k lower a servers v x) (λ z. (set servers s z.0, z.1)) (option_map (dropped g.below lower a v) ((g.bare s).cancel r a.upstream bare_view)) (λ b w d. d)
        (left_so (Leaves g.P (g.Tied s) g.names g.Owns (λ d. Begins (g.P.Cancels s v.place k (x.ups s)) (Chain g.P s) d × (d.posts ≡ [])) (with_at (g.ticket r) None (g.names a.upstream)) a.upstream bare_view (phase s))
        (λ (b : Server g.U) (w : View). IsDropped g phase s k lower a servers v x (set servers s b) w) (dropped g.below lower a v) ((g.bare s).cancel r a.upstream bare_view) given_up
        ((g.tie s within).cancels (phase s) a.upstream bare_view (x.ups s) r k may_call (t.tied s a at) fair named)))))
      where
        holds : g.P.holds (x.ups s) k ≡ true
        holds = ((g.tie s within).named (phase s) a.upstream (sight v) (x.ups s) (g.ticket r) k (t.tied s a at) named).1

        given_up : (u : g.U) (w : View) → (g.bare s).cancel r a.upstream bare_view ≡ Some (u, w) → Leaves g.P (g.Tied s) g.names g.Owns (λ d. Begins (g.P.Cancels s v.place k (x.ups s)) (Chain g.P s) d × (d.posts ≡ [])) (with_at (g.ticket r) None (g.names a.upstream)) a.upstream bare_view (phase s) u w
            → IsDropped g phase s k lower a servers v x (set servers s (dropped g.below lower a v (u, w)).0) (dropped g.below lower a v (u, w)).1
        given_up u w is l = record {
          server = (dropped g.below lower a v (u, w)).0;
          lists = refl;
          waiting = refl;
          posted = nothing;
          board = refl;
          more = (g.shared s within).keeps_more (phase s) a.upstream bare_view (x.ups s) r u w may_call (t.tied s a at) is;
          call = subst (λ n. AfterCall g phase s a (dropped g.below lower a v (u, w)).0 (with_at n None (g.names a.upstream)) [] servers v x x (onto v.board w)) same
              (subst (λ bs. AfterCall g phase s a (dropped g.below lower a v (u, w)).0 (with_at (g.ticket r) None (g.names a.upstream)) bs servers v x x (onto v.board w)) nothing
              (called phase phase s (λ d. Begins (g.P.Cancels s v.place k (x.ups s)) (Chain g.P s) d × (d.posts ≡ [])) (with_at (g.ticket r) None (g.names a.upstream)) a (dropped g.below lower a v (u, w)).0 servers v x x w (but g s phase servers v x t) at (λ q ne. refl) l
              (cancel_moves g.st composed g.P s within x k l.made none holds begins) (cancel_opens g s x.place k (x.ups s) l.made begins)));
        }
          where
            begins : Begins (g.P.Cancels s x.place k (x.ups s)) (Chain g.P s) l.made
            begins = subst (λ p. Begins (g.P.Cancels s p k (x.ups s)) (Chain g.P s) l.made) (sym t.place) l.may.0

            nothing : w.board ≡ []
            nothing = l.put ∙ no_posts (with_at (g.ticket r) None (g.names a.upstream)) l.board l.made.posts (g.names u) l.may.1 l.gives

    -- a request is started: this is what it got
    replied : (request : Request) (lower ticket k : ℕ) (b : Server g.U) (bs : List Posted) (posts : List Post) (r : g.R) → g.ticket r ≡ lower → g.names a.upstream lower ≡ None → HasOneMore lower [] bs → Gives (with_at lower (Some k) (g.names a.upstream)) bs posts (g.names b.upstream)
        → b.waiting ≡ waits (board.part_of lower bs) lower ticket a.waiting → HasReply g k lower ticket a b posts (Some (reply (board.part_of lower bs) r)) × (board.without_part lower bs ≡ [])
    replied request lower ticket k b bs posts r is new (inl none) gives waiting = elim posts as (λ posts. Gives (with_at lower (Some k) (g.names a.upstream)) bs posts (g.names b.upstream) → HasReply g k lower ticket a b posts (Some (reply (board.part_of lower bs) r)) × (board.without_part lower bs ≡ [])) [
      | [] ↦ λ gives. empty bs none gives waiting
      | q ∷ qs ↦ λ gives. absurd (never bs q qs none gives)
    ] gives
      where
        never : (bs : List Posted) (q : Post) (qs : List Post) → bs ≡ [] → Gives (with_at lower (Some k) (g.names a.upstream)) bs (q ∷ qs) (g.names b.upstream) → ⊥
        never [] q qs e gives = gives
        never (p ∷ ps) q qs e gives = cc

        empty : (bs : List Posted) → bs ≡ [] → Gives (with_at lower (Some k) (g.names a.upstream)) bs [] (g.names b.upstream) → b.waiting ≡ waits (board.part_of lower bs) lower ticket a.waiting
            → HasReply g k lower ticket a b [] (Some (reply (board.part_of lower bs) r)) × (board.without_part lower bs ≡ [])
        empty [] e gives waiting = (Comes r refl is refl waiting gives, refl)
        empty (p ∷ ps) e gives waiting = absurd (cc)
    replied request lower ticket k b bs posts r is new (inr one) gives waiting =
        subst (λ bs. HasReply g k lower ticket a b posts (Some (reply (board.part_of lower bs) r)) × (board.without_part lower bs ≡ [])) (sym one.1)
        (single posts (subst (λ bs. Gives (with_at lower (Some k) (g.names a.upstream)) bs posts (g.names b.upstream)) one.1 gives) (subst (λ bs. b.waiting ≡ waits (board.part_of lower bs) lower ticket a.waiting) one.1 waiting))
      where
        single : (posts : List Post) → Gives (with_at lower (Some k) (g.names a.upstream)) (only lower one.0) posts (g.names b.upstream) → b.waiting ≡ waits (board.part_of lower (only lower one.0)) lower ticket a.waiting
            → HasReply g k lower ticket a b posts (Some (reply (board.part_of lower (only lower one.0)) r)) × (board.without_part lower (only lower one.0) ≡ [])
        single [] gives waiting = absurd gives
        single (q ∷ []) gives waiting = (
          subst (λ o. HasReply g k lower ticket a b (q ∷ []) (Some (reply o r))) (sym (part_there lower one.0))
              (subst (λ part. HasReply g k lower ticket a b (q ∷ []) (Some (Now part))) (sym gives.1)
              (Came q.result refl (ap (λ n. record { request = n; result = q.result } ∷ []) (some_is q.request k (sym gives.0 ∙ with_here lower (Some k) (g.names a.upstream))))
              (waiting ∙ ap (λ o. waits o lower ticket a.waiting) (part_there lower one.0))
              (λ i. gives.2 i ∙ (with_again lower None (Some k) (g.names a.upstream) i ∙ with_same lower None (g.names a.upstream) i new)))),
          none_there lower one.0,
        )
        single (q ∷ p ∷ ps) gives waiting = absurd gives.2

    module _ (request : Request) (k ticket : ℕ) (ask : Waiting) (may_call : IsOpen (phase s) v.place) (numbered : v.request ≡ k) (held : x.held k ≡ Some ask) (asks_it : ask.request ≡ request) (untried : ask.tried s ≡ false) (octets : IsOfOctets request) (free : g.P.holds (x.ups s) k ≡ false) where
      abbrev MayStart : ℕ → Act g.P.State → Type 0
      MayStart j d = Begins (g.P.Starts s v.place j request (x.ups s)) (Chain g.P s) d

      abbrev asked : View
      asked = asks (Start v.request s (g.via s)) (onto [] v)

      hands_on : g.below.send request a.upstream (onto [] v) ≡ (g.bare s).send request a.upstream asked
      hands_on = (g.layer s within).send request a.upstream (onto [] v) (g.placed s (phase s) a.upstream (sight v) (x.ups s) (t.tied s a at))

      fair_asked : IsFair asked
      fair_asked = record { order = t.fair.order; words = t.fair.words }

      free_so : g.P.holds (x.ups s) v.request ≡ false
      free_so = subst (λ j. g.P.holds (x.ups s) j ≡ false) (sym numbered) free

      sent_so : (u : g.U) (w : View) → g.below.send request a.upstream (onto [] v) ≡ Some (u, w) → (g.bare s).send request a.upstream asked ≡ Some (u, w)
      sent_so u w is = sym hands_on ∙ is

      new_ticket : g.names a.upstream v.ticket ≡ None
      new_ticket = by (g.names a.upstream v.ticket) refl
        where
          by : (o : Option ℕ) → g.names a.upstream v.ticket ≡ o → o ≡ None
          by None e = refl
          by (Some j) e = absurd (not_below v.ticket ((g.tie s within).named (phase s) a.upstream (sight v) (x.ups s) v.ticket j (t.tied s a at) e).0)
            where
              not_below : (n : ℕ) → n < n → ⊥
              not_below n lt = omega arith

      started_so : (u : g.U) (w : View) → g.below.send request a.upstream (onto [] v) ≡ Some (u, w) → Leaves g.P (g.Tied s) g.names g.Owns (MayStart v.request) (with_at v.ticket (Some v.request) (g.names a.upstream)) a.upstream (onto [] v) (phase s) u w
          → IsStarted g phase s k ticket ask a servers v x (Some (reply (board.part_of v.ticket w.board) (g.below.response request a.upstream (onto [] v))), set servers s (started g.below ticket request a v (u, w)).0.1) (onto v.board w)
      unfolding called
      started_so u w is l =
          let b : Server g.U = (started g.below ticket request a v (u, w)).0.1 in
          let n : Leaves g.P (g.Tied s) g.names g.Owns (MayStart k) (with_at v.ticket (Some k) (g.names a.upstream)) a.upstream (onto [] v) (phase s) u w =
          subst (λ j. Leaves g.P (g.Tied s) g.names g.Owns (MayStart j) (with_at v.ticket (Some j) (g.names a.upstream)) a.upstream (onto [] v) (phase s) u w) numbered l in
          let begins : Begins (g.P.Starts s x.place k ask.request (x.ups s)) (Chain g.P s) n.made =
          subst₂ (λ p r. Begins (g.P.Starts s p k r (x.ups s)) (Chain g.P s) n.made) (sym t.place) (sym asks_it) n.may in
          let r = replied request v.ticket ticket k b w.board n.made.posts (g.below.response request a.upstream (onto [] v))
          (ap g.ticket ((g.layer s within).response request a.upstream (onto [] v)) ∙ (g.tie s within).response request a.upstream (onto [] v)) new_ticket
          ((g.shared s within).alone (phase s) a.upstream asked (x.ups s) request u w may_call (t.tied s a at) fair_asked octets free_so (sent_so u w is)) (subst (λ bs. Gives (with_at v.ticket (Some k) (g.names a.upstream)) bs n.made.posts (g.names u)) (sym n.put) n.gives) refl in
          record {
            server = b;
            lists = refl;
            posted = r.1;
            board = refl;
            more = (g.shared s within).says_none (phase s) a.upstream asked (x.ups s) request u w may_call (t.tied s a at) fair_asked octets free_so (sent_so u w is);
            given = w.board;
            call = called phase phase s (MayStart k) (with_at v.ticket (Some k) (g.names a.upstream)) a b servers v x (hand k s ask x) w (but g s phase servers v (hand k s ask x) after_hand) at (λ q ne. refl) n
                (start_moves g.st composed g.P s within x k ask n.made held untried begins) (start_opens g s x.place k ask.request (x.ups s) n.made begins);
            reply = r.0;
            fits = λ q e. subst (λ q. g.Fits s q) (later_is (board.part_of v.ticket w.board) (g.below.response request a.upstream (onto [] v)) q e)
                ((g.layer s within).fits request a.upstream (onto [] v) (g.placed s (phase s) a.upstream (sight v) (x.ups s) (t.tied s a at)));
          }
        where
          after_hand : AreTied g phase servers v (hand k s ask x)
          after_hand = record { count = t.count; tied = t.tied; apart = t.apart; fair = t.fair; place = t.place; places = t.places }

      -- it is started
      pub one_starts : IfLeft (IsStarted g phase s k ticket ask a servers v x) (starts_at g.below s ticket request servers v)
      one_starts =
          subst (λ o. IfLeft (IsStarted g phase s k ticket ask a servers v x) (starts_found g.below s ticket request servers v o)) (sym at)
          (subst (λ bs. IfLeft (IsStarted g phase s k ticket ask a servers v x) (option_map (λ z. ((Some z.0.0, set servers s z.0.1), z.1)) (starts g.below ticket request (record a { posted = bs }) v))) (sym quiet)
          (left_map (λ (y : Reply g.R × Server g.U) (w : View). IsStarted g phase s k ticket ask a servers v x (Some y.0, set servers s y.1) w) (IsStarted g phase s k ticket ask a servers v x) (λ z. ((Some z.0.0, set servers s z.0.1), z.1)) (starts g.below ticket request (record a { posted = [] }) v) (λ y w d. d)
          (left_so (Leaves g.P (g.Tied s) g.names g.Owns (MayStart v.request) (with_at v.ticket (Some v.request) (g.names a.upstream)) a.upstream (onto [] v) (phase s))
          (λ (y : Reply g.R × Server g.U) (w : View). IsStarted g phase s k ticket ask a servers v x (Some y.0, set servers s y.1) w) (started g.below ticket request (record a { posted = [] }) v) (g.below.send request a.upstream (onto [] v)) started_so
          (subst (λ o. IfLeft (Leaves g.P (g.Tied s) g.names g.Owns (MayStart v.request) (with_at v.ticket (Some v.request) (g.names a.upstream)) a.upstream (onto [] v) (phase s)) o) (sym hands_on)
          ((g.tie s within).sends (phase s) a.upstream (onto [] v) (x.ups s) request may_call (t.tied s a at) fair octets free_so)))))

    -- It hears what is its own: an event, a frame, a timer.

    -- what is left of the frames of a place is said by `more`
    told_so : (h : Heard) (May : Act g.P.State → Type 0) (MayBe : (place left : ℕ) → Type 0) (w0 : View) → w0 ≡ onto [] v → v.more ≡ false → ((made : Act g.P.State) → May made → Reaches g.st composed g.P s x x made × OpensOn g x.place (x.ups s) made)
        → IfLeft (Tells g.P (g.Tied s) g.names g.Owns May a.upstream w0 MayBe) (g.below.step h a.upstream w0) → IfLeft (IsTold g phase s a servers v x MayBe) (hears_at g.below s h servers v)
    told_so h May MayBe w0 is calm moves l =
        subst (λ o. IfLeft (IsTold g phase s a servers v x MayBe) (hears_found g.below s h servers v o)) (sym at)
        (subst (λ bs. IfLeft (IsTold g phase s a servers v x MayBe) (option_map (λ z. ((z.0.0, set servers s z.0.1), z.1)) (option_map (heard g.below a v) (g.below.step h a.upstream (onto bs v))))) (sym quiet)
        (subst (λ w0. IfLeft (IsTold g phase s a servers v x MayBe) (option_map (λ z. ((z.0.0, set servers s z.0.1), z.1)) (option_map (heard g.below a v) (g.below.step h a.upstream w0)))) is
        (left_map (λ (y : List Posted × Server g.U) (w : View). IsTold g phase s a servers v x MayBe (y.0, set servers s y.1) w) (IsTold g phase s a servers v x MayBe) (λ z. ((z.0.0, set servers s z.0.1), z.1)) (option_map (heard g.below a v) (g.below.step h a.upstream w0)) (λ y w d. d)
        (left_map (Tells g.P (g.Tied s) g.names g.Owns May a.upstream w0 MayBe)
        (λ (y : List Posted × Server g.U) (w : View). IsTold g phase s a servers v x MayBe (y.0, set servers s y.1) w) (heard g.below a v) (g.below.step h a.upstream w0) so l))))
      where
        so : (u : g.U) (w : View) → Tells g.P (g.Tied s) g.names g.Owns May a.upstream w0 MayBe u w → IsTold g phase s a servers v x MayBe ((heard g.below a v (u, w)).0.0, set servers s (heard g.below a v (u, w)).0.1) (heard g.below a v (u, w)).1
        so u w l =
            let after : ℕ → Phase = with_up s (Told l.at l.left) phase in
            let leaves : Leaves g.P (g.Tied s) g.names g.Owns May (g.names a.upstream) a.upstream (onto [] v) (after s) u w =
            subst (λ p. Leaves g.P (g.Tied s) g.names g.Owns May (g.names a.upstream) a.upstream (onto [] v) p u w) (sym (up_here s (Told l.at l.left) phase))
            (subst (λ w0. Leaves g.P (g.Tied s) g.names g.Owns May (g.names a.upstream) a.upstream w0 (Told l.at l.left) u w) is l.leaves) in
            record {
              at = l.at;
              left = l.left;
              may_be = l.may_be;
              more = l.more;
              heard = record {
                server = (heard g.below a v (u, w)).0.1;
                lists = refl;
                waiting = refl;
                posted = refl;
                board = refl;
                call = called phase after s May (g.names a.upstream) a (heard g.below a v (u, w)).0.1 servers v x x w (but g s phase servers v x t) at (λ q ne. up_other s q (Told l.at l.left) phase ne) leaves (moves leaves.made leaves.may).0 (moves leaves.made leaves.may).1;
              };
            }

    chain_so : (made : Act g.P.State) → Chain g.P s v.place (x.ups s) made → Reaches g.st composed g.P s x x made × OpensOn g x.place (x.ups s) made
    chain_so made chain = (
      chain_moves g.st composed g.P s within v.place (x.ups s) made chain x t.place refl,
      subst (λ p. OpensOn g p (x.ups s) made) (sym t.place) (chain_opens g s v.place (x.ups s) made chain),
    )

    -- it is told what happens
    pub one_tells : (what : What) → phase s ≡ Untold what → NoneDue (g.Owns a.upstream) (sight v) → v.more ≡ false → IfLeft (IsTold g phase s a servers v x (MayLeave what)) (hears_at g.below s (told what) servers v)
    one_tells what untold early calm = told_so (told what) (Chain g.P s v.place (x.ups s)) (MayLeave what) (onto [] v) refl calm chain_so
        (subst (λ o. IfLeft (Tells g.P (g.Tied s) g.names g.Owns (Chain g.P s v.place (x.ups s)) a.upstream (onto [] v) (MayLeave what)) o) (sym ((g.layer s within).step (told what) a.upstream (onto [] v)))
        ((g.tie s within).tells a.upstream (onto [] v) (x.ups s) what (subst (λ p. g.Tied s p a.upstream (sight v) (x.ups s)) untold (t.tied s a at)) fair early calm))

    -- a frame is taken
    pub one_takes : (p n : ℕ) → phase s ≡ Told p (suc n) → v.more ≡ false → IfLeft (IsTold g phase s a servers v x (λ q left. (q ≡ p) × (left ≤ n))) (hears_at g.below s (more_at p) servers v)
    one_takes p n is calm = told_so (more_at p) (Chain g.P s v.place (x.ups s)) (λ q left. (q ≡ p) × (left ≤ n)) (onto [] v) refl calm chain_so
        (subst (λ o. IfLeft (Tells g.P (g.Tied s) g.names g.Owns (Chain g.P s v.place (x.ups s)) a.upstream (onto [] v) (λ q left. (q ≡ p) × (left ≤ n))) o) (sym ((g.layer s within).step (more_at p) a.upstream (onto [] v)))
        ((g.tie s within).takes a.upstream (onto [] v) (x.ups s) p n tied_so fair ((g.tie s within).quiet (Told p (suc n)) a.upstream (sight v) (x.ups s) tt tied_so) calm))
      where
        tied_so : g.Tied s (Told p (suc n)) a.upstream (sight v) (x.ups s)
        tied_so = subst (λ p. g.Tied s p a.upstream (sight v) (x.ups s)) is (t.tied s a at)

  -- what is not its own is nothing to a server
  pub passes_by : (servers : Listed g) (v : View) (s : ℕ) (a : Server g.U) → slice_get servers s ≡ Some a → a.posted ≡ [] → (h : Heard) → g.below.step h a.upstream (onto [] v) ≡ Some (a.upstream, onto [] v)
      → hears_at g.below s h servers v ≡ Some (([], servers), v)
  passes_by servers v s a at quiet h is =
      ap (λ o. hears_found g.below s h servers v o) at
      ∙ (ap (λ bs. option_map (λ z. ((z.0.0, set servers s z.0.1), z.1)) (option_map (heard g.below a v) (g.below.step h a.upstream (onto bs v)))) quiet
      ∙ (ap (λ o. option_map (λ z. ((z.0.0, set servers s z.0.1), z.1)) (option_map (heard g.below a v) o)) is
      ∙ ap (λ xs. Some (([], xs), v)) (as_it_was servers s a at quiet)))
    where
      as_it_was : (xs : Listed g) (i : ℕ) (a : Server g.U) → slice_get xs i ≡ Some a → a.posted ≡ [] → set xs i (record a { posted = [] }) ≡ xs
      as_it_was [] i a e q = absurd (cc)
      as_it_was (b ∷ bs) zero a e q = ap₂ (λ (c : Server g.U) (ps : List Posted). record c { posted = ps } ∷ bs) (sym (both_are (Some b) b a refl e)) (sym (ap (λ (c : Server g.U). c.posted) (both_are (Some b) b a refl e) ∙ q))
      as_it_was (b ∷ bs) (suc i) a e q = ap (λ cs. b ∷ cs) (as_it_was bs i a e q)

  -- An event about no place of its own is nothing to it, and passes; nor are the frames that it brings, or a timer that is not its own.
  module _ (phase : ℕ → Phase) (servers : Listed g) (v : View) (x : State g) (s : ℕ) (a : Server g.U) (t : AreTied g phase servers v x) (at : slice_get servers s ≡ Some a) (quiet : a.posted ≡ []) where
    inside : s < length (g.c).servers
    inside = in_conf phase servers v x s a t at

    nothing_to : (u : View) (h : Heard) → (g.bare s).step h a.upstream (onto [] u) ≡ Some (a.upstream, onto [] u) → hears_at g.below s h servers u ≡ Some (([], servers), u)
    nothing_to u h is = passes_by servers u s a at quiet h ((g.layer s inside).step h a.upstream (onto [] u) ∙ is)

    module _ (what : What) (p : ℕ) (place : place_in what ≡ Some p) where
      pub event_passes : phase s ≡ Untold what → g.has (x.ups s) p ≡ false → hears_at g.below s (told what) servers v ≡ Some (([], servers), v)
      event_passes untold none = nothing_to v (told what) ((g.shared s inside).ignores a.upstream (onto [] v) (x.ups s) what p (subst (λ p. g.Tied s p a.upstream (sight v) (x.ups s)) untold (t.tied s a at)) place none)

      pub frame_passes : phase s ≡ Passed what → hears_at g.below s (more_at p) servers v ≡ Some (([], servers), v)
      frame_passes passed = nothing_to v (more_at p) ((g.shared s inside).frames a.upstream (onto [] v) (x.ups s) what p (subst (λ p. g.Tied s p a.upstream (sight v) (x.ups s)) passed (t.tied s a at)) place)

      -- it is tied behind it
      pub passed_tied : phase s ≡ Untold what → g.has (x.ups s) p ≡ false → NoneDue (g.Owns a.upstream) (sight v) → AreTied g (with_up s (Passed what) phase) servers v x
      passed_tied untold none early = record {
        count = t.count;
        tied = λ q e is. each_number (λ q. slice_get servers q ≡ Some e → g.Tied q (with_up s (Passed what) phase q) e.upstream (sight v) (x.ups q)) s
            (λ is. subst₂ (λ p (e : Server g.U). g.Tied s p e.upstream (sight v) (x.ups s)) (sym (up_here s (Passed what) phase)) (both_are (slice_get servers s) a e at is)
            ((g.shared s inside).passes a.upstream (sight v) (x.ups s) what p (subst (λ p. g.Tied s p a.upstream (sight v) (x.ups s)) untold (t.tied s a at)) place none early))
            (λ q ne is. subst (λ p. g.Tied q p e.upstream (sight v) (x.ups q)) (sym (up_other s q (Passed what) phase ne)) (t.tied q e is)) q is;
        apart = t.apart;
        fair = t.fair;
        place = t.place;
        places = t.places;
      }

    -- a timer that is not its own, which is set or was taken out before
    module _ (i : ℕ) (none : g.Owns a.upstream i → ⊥) where
      pub timer_passes : hears_at g.below s (due_timer i) servers v ≡ Some (([], servers), v)
      timer_passes = nothing_to v (due_timer i) ((g.shared s inside).timers (phase s) a.upstream (onto [] v) (x.ups s) i (t.tied s a at) none)

      pub gone_timer_passes : hears_at g.below s (due_timer i) servers (record v { timers = cancelled i v.timers }) ≡ Some (([], servers), record v { timers = cancelled i v.timers })
      gone_timer_passes = nothing_to (record v { timers = cancelled i v.timers }) (due_timer i)
          ((g.shared s inside).timers (phase s) a.upstream (onto [] (record v { timers = cancelled i v.timers })) (x.ups s) i
          ((g.tie s inside).same (phase s) a.upstream (sight v) (sight (record v { timers = cancelled i v.timers })) (x.ups s) (t.tied s a at) refl
          (λ j o. dues_without v i j t.fair ∙ with_there i None (λ (j : ℕ). due_of j v.timers.set) j (λ same. none (subst (λ j. g.Owns a.upstream j) (sym same) o)))
          (le_refl v.timers.next) (le_refl v.ticket) (le_refl v.place)) none)

  -- A timer of a server fires: it was taken out before.
  module _ (phase : ℕ → Phase) (servers : Listed g) (v : View) (x : State g) (s : ℕ) (a : Server g.U) (t : AreTied g phase servers v x) (at : slice_get servers s ≡ Some a) (quiet : a.posted ≡ []) (i due : ℕ) (own : g.Owns a.upstream i) (set_then : due_of i v.timers.set ≡ Some due) (passed : due ≤ v.now) (what : What) (untold : phase s ≡ Untold what) where
    abbrev gone : View
    gone = record v { timers = cancelled i v.timers }

    others_tied : OthersAreTied g s phase servers gone x
    others_tied = record {
      count = t.count;
      tied = λ q e ne is. (g.tie q (in_conf phase servers v x q e t is)).same (phase q) e.upstream (sight v) (sight gone) (x.ups q) (t.tied q e is) refl
          (λ j o. dues_without v i j t.fair ∙ with_there i None (λ (j : ℕ). due_of j v.timers.set) j (λ same. ne (t.apart s q i a e at is own (subst (λ j. g.Owns e.upstream j) (sym same) o))))
          (le_refl v.timers.next) (le_refl v.ticket) (le_refl v.place);
      apart = t.apart;
      fair = fair_without v i t.fair;
      place = t.place;
      places = t.places;
    }

    fired_so : (u : g.U) (w : View) → Leaves g.P (g.Tied s) g.names g.Owns (Chain g.P s v.place (x.ups s)) (g.names a.upstream) a.upstream (onto [] gone) (phase s) u w
        → IsHeard g phase s a servers gone x ((heard g.below a gone (u, w)).0.0, set servers s (heard g.below a gone (u, w)).0.1) (heard g.below a gone (u, w)).1
    fired_so u w l = record {
      server = (heard g.below a gone (u, w)).0.1;
      lists = refl;
      waiting = refl;
      posted = refl;
      board = refl;
      call = called phase phase s (Chain g.P s v.place (x.ups s)) (g.names a.upstream) a (heard g.below a gone (u, w)).0.1 servers gone x x w others_tied at (λ q ne. refl) l
          (chain_moves g.st composed g.P s (in_conf phase servers v x s a t at) v.place (x.ups s) l.made l.may x t.place refl)
          (subst (λ p. OpensOn g p (x.ups s) l.made) (sym t.place) (chain_opens g s v.place (x.ups s) l.made l.may));
    }

    pub one_fires : IfLeft (IsHeard g phase s a servers gone x) (hears_at g.below s (due_timer i) servers gone)
    one_fires =
        subst (λ o. IfLeft (IsHeard g phase s a servers gone x) (hears_found g.below s (due_timer i) servers gone o)) (sym at)
        (subst (λ bs. IfLeft (IsHeard g phase s a servers gone x) (option_map (λ z. ((z.0.0, set servers s z.0.1), z.1)) (option_map (heard g.below a gone) (g.below.step (due_timer i) a.upstream (onto bs gone))))) (sym quiet)
        (subst (λ o. IfLeft (IsHeard g phase s a servers gone x) (option_map (λ z. ((z.0.0, set servers s z.0.1), z.1)) (option_map (heard g.below a gone) o))) (sym ((g.layer s (in_conf phase servers v x s a t at)).step (due_timer i) a.upstream (onto [] gone)))
        (left_map (λ (y : List Posted × Server g.U) (w : View). IsHeard g phase s a servers gone x (y.0, set servers s y.1) w) (IsHeard g phase s a servers gone x) (λ z. ((z.0.0, set servers s z.0.1), z.1)) (option_map (heard g.below a gone) ((g.bare s).step (due_timer i) a.upstream (onto [] gone))) (λ y w d. d)
        (left_map (Leaves g.P (g.Tied s) g.names g.Owns (Chain g.P s v.place (x.ups s)) (g.names a.upstream) a.upstream (onto [] gone) (phase s))
        (λ (y : List Posted × Server g.U) (w : View). IsHeard g phase s a servers gone x (y.0, set servers s y.1) w) (heard g.below a gone) ((g.bare s).step (due_timer i) a.upstream (onto [] gone)) fired_so
        (subst (λ p. IfLeft (Leaves g.P (g.Tied s) g.names g.Owns (Chain g.P s v.place (x.ups s)) (g.names a.upstream) a.upstream (onto [] gone) p) ((g.bare s).step (due_timer i) a.upstream (onto [] gone))) (sym untold)
        ((g.tie s (in_conf phase servers v x s a t at)).fires a.upstream (onto [] v) (x.ups s) what i due (subst (λ p. g.Tied s p a.upstream (sight v) (x.ups s)) untold (t.tied s a at)) (record { order = t.fair.order; words = t.fair.words }) set_then passed))))))
