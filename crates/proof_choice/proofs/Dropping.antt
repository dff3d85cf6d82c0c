-- The servers that still owe a request its result give it up, one after another.
use Rattle.std.proofs.Common.{◌≡◌, ℕ, zero, suc, ◌<◌, ◌≤◌, ◌⊎◌, inl, inr, true, List, [], ◌∷◌, ◌++◌, length, map, Option, Some, None, slice_get, refl, sym, ap, subst, ◌∙◌, arith, le_trans, append_assoc, append-nil}
use Rattle.std.specs.Prelude.{set, option_and_then}
use Rattle.client_request.specs.Composed.{composed}
use Rattle.client_request.specs.Numbered.{entry_at}
use Rattle.client_request.specs.Request.{Request}
use Rattle.client_request.specs.View.{View}
use Rattle.client_request.specs.declared.event.Out.{Out}
use Rattle.client_request.specs.declared.board.Posted.{Posted}
use Rattle.client_choice.specs.Choice.{Choice, drops_each, drops_response}
use Rattle.client_choice.specs.Servers.{Server, owner, owner_at, drops_at}
use Rattle.right_trace.specs.Parts.{IsIn}
use Rattle.proof_right.specs.machine.Client.{Waiting, with_up, tag}
use Rattle.proof_right.specs.machine.Part.{Post}
use Rattle.right_trace.specs.Updates.{with_at}
use Rattle.proof_parts.specs.Chains.{Gives}
use Rattle.proof_parts.specs.Lines.{Sorted}
use Rattle.proof_parts.specs.PartTie.{Phase, Untold, Told, Passed, IsOpen, GoesOn, Leads as IfLeft}
use Rattle.proof_parts.specs.Sights.{due_of}
use Rattle.proof_parts.proofs.GoingOn.{goes_nowhere, none_next}
use Rattle.proof_parts.proofs.Keys.{each_number, with_here, with_there}
use Rattle.proof_parts.proofs.Tables.{at_frees, sorted_frees}
use Rattle.proof_choice.specs.Choosing.{Choosing}
use Rattle.proof_parts.specs.Leading.{Arrives}
use Rattle.proof_choice.specs.Servers.{State, Listed, AfterCall, IsDropped}
use Rattle.proof_parts.specs.WholeTie.{Follows}
use Rattle.proof_choice.specs.Requests.{Beside, Work, Begun, Desk, Waits, AreKept, AreApart, desk_of, Stands, Went, AreAside}
use Rattle.proof_choice.proofs.AtServer.{both_are, none_is}
use Rattle.client_choice.proofs.At.{set_here, set_there}
use Rattle.proof_choice.proofs.Keeping.{Differ, one_dropped, none_dropped, waits_on}
use Rattle.proof_choice.proofs.Leading.{leads_on, up_here, up_other}
use Rattle.proof_choice.proofs.Opening.{below_up_to}
use Rattle.proof_choice.proofs.ServerCalls.{one_drops}

pub found_at : {A : Type 0} (xs : List A) (i : ℕ) → i < length xs → (a : A) × (slice_get xs i ≡ Some a)
found_at [] i lt = absurd (omega arith)
found_at (x ∷ xs) zero lt = (x, refl)
found_at (x ∷ xs) (suc i) lt = found_at xs i (less i (length xs) lt)
  where
    less : (a b : ℕ) → suc a < suc b → a < b
    less a b lt = omega arith

module _ (g : Choosing) where
  pub follows_of : (v w : View) → GoesOn v w → Follows v w
  follows_of v w o = record { fair = o.fair; now = o.now; timer = o.timer; ticket = o.ticket; place = o.place; later = λ i due is. elim (o.later i due is) [ inl p ↦ inl p | inr new ↦ inr (no_less v.now due new.0, new.1) ] }
    where
      no_less : (a b : ℕ) → a < b → a ≤ b
      no_less a b lt = omega arith

  pub follows_then : (v w u : View) → Follows v w → Follows w u → Follows v u
  follows_then v w u a b = record {
    fair = b.fair;
    now = b.now ∙ a.now;
    timer = le_trans a.timer b.timer;
    ticket = le_trans a.ticket b.ticket;
    place = le_trans a.place b.place;
    later = λ i due is. elim (b.later i due is) [ inl p ↦ a.later i due p | inr new ↦ inr (subst (λ n. n ≤ due) a.now new.0, le_trans a.timer new.1) ];
  }

  pub went_nowhere : (v : View) (x : State g) → Follows v v → Went g v x v x
  went_nowhere v x on = record { outs = []; leads = Arrives x; put = sym (append-nil v.outs); goes_on = on; now = refl; asked = refl; pending = refl }

  pub went_then : (v : View) (x : State g) (w : View) (y : State g) (u : View) (z : State g) → Went g v x w y → Went g w y u z → Went g v x u z
  went_then v x w y u z a b = record {
    outs = a.outs ++ b.outs;
    leads = leads_on g.st composed g.P x a.outs y b.outs z a.leads b.leads;
    put = b.put ∙ (ap (λ (o : List Out). o ++ b.outs) a.put ∙ append_assoc v.outs a.outs b.outs);
    goes_on = follows_then v w u a.goes_on b.goes_on;
    now = b.now ∙ a.now;
    asked = b.asked ∙ a.asked;
    pending = b.pending ∙ a.pending;
  }

  -- Of v, u has timers less of its own.
  pub record IsWithout (Own : ℕ → Type 0) (v u : View) : Type 0 where
    pub now : u.now ≡ v.now
    pub next : u.timers.next ≡ v.timers.next
    pub place : u.place ≡ v.place
    pub dues : (i due : ℕ) → (Own i → ⊥) → due_of i v.timers.set ≡ Some due → due_of i u.timers.set ≡ Some due

  pub without_none : (Own : ℕ → Type 0) (v : View) → IsWithout Own v v
  without_none Own v = record { now = refl; next = refl; place = refl; dues = λ i due none is. is }

  -- a server that may be called may be while more places are given
  pub open_on : (phase : Phase) (a b : ℕ) → a ≤ b → IsOpen phase a → IsOpen phase b
  open_on (Untold w) a b le o = tt
  open_on (Told p left) a b le o = o
  open_on (Passed w) a b le o = λ p is. below_up_to p a b (o p is) le

  less_or_not : (a b : ℕ) → (a < b) ⊎ (b ≤ a)
  less_or_not a b = grind arith

  not_past : (a b : ℕ) → a < b → b ≤ a → ⊥
  not_past a b lt le = omega arith

  -- What stands after a call of server s, where the requests are kept. Timers of its own may have been taken out before.
  module _ (beside : Beside) (phase after : ℕ → Phase) (current : ℕ) (jobs : ℕ → Option (Work g)) (named : ℕ → ℕ → Option ℕ) (over : ℕ) (dropping : List (Begun g)) (c : Choice Request g.U g.R) (v : View) (x : State g) (st : Stands g beside phase current jobs named over dropping c v x)
      (s : ℕ) (a b : Server g.U) (at : slice_get c.servers s ≡ Some a) (nm : ℕ → Option ℕ) (board : List Posted) (from y : State g) (u w : View) (less : IsWithout (g.Owns a.upstream) v u) (call : AfterCall g after s a b nm board c.servers u from y w) where
    -- a timer that was given before, and was of no server, is of none then
    pub far_on : (i : ℕ) → i < v.timers.next → ((q : ℕ) (e : Server g.U) → slice_get c.servers q ≡ Some e → g.Owns e.upstream i → ⊥) → (q : ℕ) (e : Server g.U) → slice_get (set c.servers s b) q ≡ Some e → g.Owns e.upstream i → ⊥
    far_on i lt far q e found o = each_number (λ q. slice_get (set c.servers s b) q ≡ Some e → ⊥) s
        (λ found. here (subst (λ (e : Server g.U). g.Owns e.upstream i) (sym (both_are (slice_get (set c.servers s b) s) b e (set_here c.servers s a b at) found)) o))
        (λ q ne found. far q e (sym (set_there c.servers s q b ne) ∙ found) o) q found
      where
        here : g.Owns b.upstream i → ⊥
        here o = elim (call.owned i o) [ inl p ↦ far s a at p | inr le ↦ not_past i v.timers.next lt (subst (λ n. n ≤ i) less.next le) ]

    -- a timer of the choice was given
    pub timer_below : (i t : ℕ) → entry_at i c.timers ≡ Some t → i < v.timers.next
    timer_below i t is =
        (let m = st.kept.timers i t is in
        let d = ((st.kept.kept t m.0 m.1).timer i m.2).1 in
        elim (less_or_not i v.timers.next) [ inl lt ↦ lt | inr le ↦ absurd (none_is (due_of i v.timers.set) d.0 (none_next v i st.servers.fair le) d.1) ])

    pub dues_on : (i t due : ℕ) → entry_at i c.timers ≡ Some t → due_of i v.timers.set ≡ Some due → due_of i w.timers.set ≡ Some due
    dues_on i t due is d = call.others i due (λ o. st.foreign i t s a is at o) (less.dues i due (λ o. st.foreign i t s a is at o) d)

    -- what is known of timers and of places then
    pub foreign_on : (i t q : ℕ) (e : Server g.U) → entry_at i c.timers ≡ Some t → slice_get (set c.servers s b) q ≡ Some e → g.Owns e.upstream i → ⊥
    foreign_on i t q e is found o = far_on i (timer_below i t is) (λ q e at own. st.foreign i t q e is at own) q e found o

    pub drawn_on : (i : ℕ) → beside.others.are i ≡ true → i < w.timers.next
    drawn_on i are = below_up_to i v.timers.next w.timers.next (st.drawn i are) (subst (λ n. n ≤ w.timers.next) less.next call.goes_on.timer)

    pub due_on : (i moment : ℕ) → beside.others.are i ≡ true → beside.others.due i ≡ Some moment → due_of i w.timers.set ≡ Some moment
    due_on i m are is = call.others i m (λ o. st.far i s a are at o) (less.dues i m (λ o. st.far i s a are at o) (st.due i m are is))

    pub far_then : (i q : ℕ) (e : Server g.U) → beside.others.are i ≡ true → slice_get (set c.servers s b) q ≡ Some e → g.Owns e.upstream i → ⊥
    far_then i q e are found o = far_on i (st.drawn i are) (λ q e at own. st.far i q e are at own) q e found o

    pub is_open_on : (q : ℕ) → IsOpen (phase q) v.place → after q ≡ phase q → IsOpen (after q) w.place
    is_open_on q o same = open_on (after q) v.place w.place (subst (λ n. n ≤ w.place) less.place call.goes_on.place) (subst (λ p. IsOpen p v.place) (sym same) o)

    -- requests that are due stay aside
    pub aside_on : AreAside g current jobs v → AreAside g current jobs w
    aside_on are t job i due is timer set late =
        (let k = (st.kept.kept t job is).timer i timer in
        are t job i due is timer (subst (λ n. due_of i v.timers.set ≡ Some n) (both_are (due_of i w.timers.set) k.1.0 due (dues_on i t k.1.0 k.0 k.1.1) set) k.1.1) (subst (λ n. due ≤ n) (call.goes_on.now ∙ less.now) late))

    pub stands_on : ((q : ℕ) → after q ≡ phase q) → (jobs' : ℕ → Option (Work g)) (named' : ℕ → ℕ → Option ℕ) (over' : ℕ) (dropping' : List (Begun g)) → (AreAside g current jobs w → AreAside g current jobs' w) → (b.posted ≡ []) × ((hi : ℕ) × Sorted 0 hi b.waiting)
        → ((current ≡ s → ⊥) → (i : ℕ) → named' s i ≡ g.names b.upstream i) → (current ≡ s → ⊥) → ((q i : ℕ) → (s ≡ q → ⊥) → named' q i ≡ named q i)
        → AreKept g over' dropping' (desk_of g jobs' named' (record c { servers = set c.servers s b }) w call.end) → Stands g beside after current jobs' named' over' dropping' (record c { servers = set c.servers s b }) w call.end
    stands_on phases jobs' named' over' dropping' calms quiet here aside there kept = record {
      servers = call.tied;
      quiet = λ q e is. each_number (λ q. slice_get (set c.servers s b) q ≡ Some e → (e.posted ≡ []) × ((hi : ℕ) × Sorted 0 hi e.waiting)) s
          (λ is. subst (λ (e : Server g.U). (e.posted ≡ []) × ((hi : ℕ) × Sorted 0 hi e.waiting)) (both_are (slice_get (set c.servers s b) s) b e (set_here c.servers s a b at) is) quiet)
          (λ q ne is. st.quiet q e (sym (set_there c.servers s q b ne) ∙ is)) q is;
      is_named = λ q e is other i. each_number (λ q. slice_get (set c.servers s b) q ≡ Some e → (current ≡ q → ⊥) → named' q i ≡ g.names e.upstream i) s
          (λ is other. subst (λ (e : Server g.U). named' s i ≡ g.names e.upstream i) (both_are (slice_get (set c.servers s b) s) b e (set_here c.servers s a b at) is) (here other i))
          (λ q ne is other. there q i ne ∙ st.is_named q e (sym (set_there c.servers s q b ne) ∙ is) other i) q is other;
      still = λ e is. st.still e (sym (set_there c.servers s current b (λ same. aside (sym same))) ∙ is);
      less = λ i k is. there current i (λ same. aside (sym same)) ∙ st.less i k is;
      kept = kept;
      foreign = λ i t q e is found o. foreign_on i t q e is found o;
      timers = st.timers;
      calm = λ at frames told. calms (aside_on (st.calm at frames (sym (phases current) ∙ told)));
      is_open = λ q lt ne. is_open_on q (st.is_open q lt ne) (phases q);
      drawn = drawn_on;
      due = due_on;
      own = st.own;
      far = λ i q e are found o. far_then i q e are found o;
    }

  pub left_then : {U V : Type 0} (A : U → View → Type 0) (B : V → View → Type 0) (k : U × View → Option (V × View)) (o : Option (U × View)) → ((u : U) (w : View) → A u w → IfLeft B (k (u, w))) → IfLeft A o → IfLeft B (option_and_then k o)
  left_then A B k None f l = tt
  left_then A B k (Some z) f l = f z.0 z.1 l

  pub left_on : {U : Type 0} (A B : U → View → Type 0) (o : Option (U × View)) → ((u : U) (w : View) → A u w → B u w) → IfLeft A o → IfLeft B o
  left_on A B None f l = tt
  left_on A B (Some z) f l = f z.0 z.1 l

  pub owner_there : (xs : Listed g) (s q i : ℕ) (b : Server g.U) → (s ≡ q → ⊥) → owner q i (set xs s b) ≡ owner q i xs
  owner_there xs s q i b ne = ap (λ o. owner_at i o) (set_there xs s q b ne)

  pub owner_here : (xs : Listed g) (s i : ℕ) (a : Server g.U) → slice_get xs s ≡ Some a → owner s i xs ≡ entry_at i a.waiting
  owner_here xs s i a at = ap (λ o. owner_at i o) at

  module _ (beside : Beside) (phase : ℕ → Phase) (current : ℕ) (jobs : ℕ → Option (Work g)) (over t0 : ℕ) (gone : jobs t0 ≡ None) where
    -- So many servers have given it up; `es` are left.
    pub record AreOff (es : List (Begun g)) (named : ℕ → ℕ → Option ℕ) (c : Choice Request g.U g.R) (v : View) (x : State g) (servers : Listed g) (w : View) : Type 0 where
      pub named' : ℕ → ℕ → Option ℕ
      pub end : State g
      pub went : Went g v x w end
      pub stands : Stands g beside phase current jobs named' over es (record c { servers = servers }) w end
      pub held : end.held ≡ x.held
      pub leaving : end.leaving ≡ x.leaving
      pub board : end.board ≡ x.board
      pub put : w.board ≡ v.board
      pub more : w.more ≡ v.more
      pub same_there : (i : ℕ) → named' current i ≡ named current i
      pub waits : (b : Begun g) (r : g.R) → IsIn b es → Waits g (desk_of g jobs named c v x) t0 over b r → Waits g (desk_of g jobs named' (record c { servers = servers }) w end) t0 over b r

    -- one more gives it up
    one_off : (e : Begun g) (es : List (Begun g)) (named : ℕ → ℕ → Option ℕ) (c : Choice Request g.U g.R) (v : View) (x : State g) (r : g.R) → x.held over ≡ None → (current ≡ e.server → ⊥) → ((f : Begun g) → IsIn f es → e.server ≡ f.server → ⊥)
        → Waits g (desk_of g jobs named c v x) t0 over e r → Stands g beside phase current jobs named over (e ∷ es) c v x → IfLeft (AreOff es named c v x) (drops_at g.below e.server e.lower r c.servers v)
    one_off e es named c v x r none other apart w st = go (found_at c.servers e.server (subst (λ n. e.server < n) (sym st.servers.count) w.within))
      where
        go : (a : Server g.U) × (slice_get c.servers e.server ≡ Some a) → IfLeft (AreOff es named c v x) (drops_at g.below e.server e.lower r c.servers v)
        go found = on (drops_at g.below e.server e.lower r c.servers v)
            (one_drops g phase c.servers v x e.server a st.servers found.1 (st.quiet e.server a found.1).0 over e.lower r w.fits (st.is_open e.server w.within other) none
            (sym (st.is_named e.server a found.1 other (g.ticket r)) ∙ subst (λ i. named e.server i ≡ Some over) (sym w.ticket) w.named) w.ticket)
          where
            a : Server g.U
            a = found.0

            off : (servers : Listed g) (y : View) → IsDropped g phase e.server over e.lower a c.servers v x servers y → AreOff es named c v x servers y
            off servers y d = subst (λ xs. AreOff es named c v x xs y) (sym d.lists) (record {
              named' = named';
              end = d.call.end;
              went = record { outs = d.call.made.outs; leads = d.call.leads; put = d.call.put; goes_on = follows_of v y d.call.goes_on; now = d.call.moved.now; asked = d.call.moved.asked; pending = d.call.moved.pending };
              stands = stands_on beside phase phase current jobs named over (e ∷ es) c v x st e.server a d.server found.1 (with_at e.lower None (g.names a.upstream)) [] x x v y (without_none (g.Owns a.upstream) v) d.call (λ q. refl) jobs named' over es (λ are. are)
                  (d.posted, ((st.quiet e.server a found.1).1.0, subst (λ (ws : List (ℕ × ℕ)). Sorted 0 (st.quiet e.server a found.1).1.0 ws) (sym d.waiting) (sorted_frees e.lower 0 (st.quiet e.server a found.1).1.0 a.waiting (st.quiet e.server a found.1).1.1)))
                  (λ ne i. here i ∙ names_now i) other there kept;
              held = d.call.moved.held;
              leaving = d.call.moved.leaving;
              board = d.call.moved.board ∙ no_more d.call.made.posts d.call.gives;
              put = d.board;
              more = d.more;
              same_there = λ i. there current i (λ same. other (sym same));
              waits = λ b q is m. waits_on g e.server e.lower (desk_of g jobs named c v x) desk' t0 over b q differ (λ same i. apart b is same) m;
            })
              where
                named' : ℕ → ℕ → Option ℕ
                named' = with_up e.server (with_at e.lower None (named e.server)) named

                desk' : Desk g
                desk' = desk_of g jobs named' (record c { servers = set c.servers e.server d.server }) y d.call.end

                here : (i : ℕ) → named' e.server i ≡ with_at e.lower None (named e.server) i
                here i = ap (λ (f : ℕ → Option ℕ). f i) (up_here e.server (with_at e.lower None (named e.server)) named)

                there : (q i : ℕ) → (e.server ≡ q → ⊥) → named' q i ≡ named q i
                there q i ne = ap (λ (f : ℕ → Option ℕ). f i) (up_other e.server q (with_at e.lower None (named e.server)) named ne)

                -- nothing was given
                names_now : (i : ℕ) → with_at e.lower None (named e.server) i ≡ g.names d.server.upstream i
                names_now i = by_here i ∙ sym (no_gift d.call.made.posts d.call.gives i)
                  where
                    by_here : (i : ℕ) → with_at e.lower None (named e.server) i ≡ with_at e.lower None (g.names a.upstream) i
                    by_here i = each_number (λ j. with_at e.lower None (named e.server) j ≡ with_at e.lower None (g.names a.upstream) j) e.lower
                        (with_here e.lower None (named e.server) ∙ sym (with_here e.lower None (g.names a.upstream)))
                        (λ j ne. with_there e.lower None (named e.server) j ne ∙ (st.is_named e.server a found.1 other j ∙ sym (with_there e.lower None (g.names a.upstream) j ne))) i

                    no_gift : (posts : List Post) → Gives (with_at e.lower None (g.names a.upstream)) [] posts (g.names d.server.upstream) → (i : ℕ) → g.names d.server.upstream i ≡ with_at e.lower None (g.names a.upstream) i
                    no_gift [] gives i = gives i
                    no_gift (q ∷ qs) gives i = absurd gives

                no_more : (posts : List Post) → Gives (with_at e.lower None (g.names a.upstream)) [] posts (g.names d.server.upstream) → x.board ++ map (tag e.server) posts ≡ x.board
                no_more [] gives = append-nil x.board
                no_more (q ∷ qs) gives = absurd gives

                differ : Differ g e.server e.lower (desk_of g jobs named c v x) desk'
                differ = record {
                  waiting = λ q i ne. each_number (λ q. (e.server ≡ q → e.lower ≡ i → ⊥) → owner q i (set c.servers e.server d.server) ≡ owner q i c.servers) e.server
                      (λ ne. owner_here (set c.servers e.server d.server) e.server i d.server (set_here c.servers e.server a d.server found.1)
                      ∙ (ap (λ (ws : List (ℕ × ℕ)). entry_at i ws) d.waiting
                      ∙ (at_frees e.lower i 0 (st.quiet e.server a found.1).1.0 a.waiting (st.quiet e.server a found.1).1.1
                      ∙ (with_there e.lower None (λ j. entry_at j a.waiting) i (λ same. ne refl same) ∙ sym (owner_here c.servers e.server i a found.1)))))
                      (λ q differs ne. owner_there c.servers e.server q i d.server differs) q ne;
                  named = λ q i ne. each_number (λ q. (e.server ≡ q → e.lower ≡ i → ⊥) → named' q i ≡ named q i) e.server
                      (λ ne. here i ∙ with_there e.lower None (named e.server) i (λ same. ne refl same)) (λ q differs ne. there q i differs) q ne;
                  dues = λ i u due is m. dues_on beside phase phase current jobs named over (e ∷ es) c v x st e.server a d.server found.1 (with_at e.lower None (g.names a.upstream)) [] x x v y (without_none (g.Owns a.upstream) v) d.call i u due is m;
                }

                kept : AreKept g over es desk'
                kept = one_dropped g over e es (desk_of g jobs named c v x) desk' t0 gone w.waiting refl refl d.call.moved.held differ (here e.lower ∙ with_here e.lower None (named e.server)) st.kept

            on : (o : Option (Listed g × View)) → IfLeft (IsDropped g phase e.server over e.lower a c.servers v x) o → IfLeft (AreOff es named c v x) o
            on None l = tt
            on (Some z) l = off z.0 z.1 l

    off_then : (es : List (Begun g)) (fs : List (Begun g)) (named : ℕ → ℕ → Option ℕ) (c : Choice Request g.U g.R) (v : View) (x : State g) (servers : Listed g) (w : View) (a : AreOff fs named c v x servers w) (later : Listed g) (u : View)
        → ((b : Begun g) → IsIn b es → IsIn b fs) → AreOff es a.named' (record c { servers = servers }) w a.end later u → AreOff es named c v x later u
    off_then es fs named c v x servers w a later u some b = record {
      named' = b.named';
      end = b.end;
      went = went_then v x w a.end u b.end a.went b.went;
      stands = b.stands;
      held = b.held ∙ a.held;
      leaving = b.leaving ∙ a.leaving;
      board = b.board ∙ a.board;
      put = b.put ∙ a.put;
      more = b.more ∙ a.more;
      same_there = λ i. b.same_there i ∙ a.same_there i;
      waits = λ e r is m. b.waits e r is (a.waits e r (some e is) m);
    }

    -- all give it up
    pub all_off : (es : List (Begun g)) (named : ℕ → ℕ → Option ℕ) (c : Choice Request g.U g.R) (v : View) (x : State g) → x.held over ≡ None → AreApart es → ((b : Begun g) → IsIn b es → (r : g.R) → b.response ≡ Some r → (current ≡ b.server → ⊥) × Waits g (desk_of g jobs named c v x) t0 over b r)
        → Stands g beside phase current jobs named over es c v x → IfLeft (AreOff [] named c v x) (drops_each g.below es c.servers v)
    all_off [] named c v x none apart waits st = record {
      named' = named;
      end = x;
      went = went_nowhere v x (follows_of v v (goes_nowhere v st.servers.fair));
      stands = st;
      held = refl;
      leaving = refl;
      board = refl;
      put = refl;
      more = refl;
      same_there = λ i. refl;
      waits = λ b r is m. m;
    }
    all_off (e ∷ es) named c v x none apart waits st = by e.response refl (all_off es)
      where
        by : (o : Option g.R) → e.response ≡ o
            → ((named : ℕ → ℕ → Option ℕ) (c : Choice Request g.U g.R) (v : View) (x : State g) → x.held over ≡ None → AreApart es → ((b : Begun g) → IsIn b es → (r : g.R) → b.response ≡ Some r → (current ≡ b.server → ⊥) × Waits g (desk_of g jobs named c v x) t0 over b r)
            → Stands g beside phase current jobs named over es c v x → IfLeft (AreOff [] named c v x) (drops_each g.below es c.servers v))
            → IfLeft (AreOff [] named c v x) (option_and_then (λ z. drops_each g.below es z.0 z.1) (drops_response g.below e c.servers v o))
        by None is ih = ih named c v x none apart.1 (λ b m r p. waits b (inr m) r p) (record { servers = st.servers; quiet = st.quiet; is_named = st.is_named; still = st.still; less = st.less; kept = none_dropped g over e es (desk_of g jobs named c v x) is st.kept; foreign = st.foreign; timers = st.timers; calm = st.calm; is_open = st.is_open; drawn = st.drawn; due = st.due; own = st.own; far = st.far })
        by (Some r) is ih =
            let m = waits e (inl refl) r is in
            left_then (AreOff es named c v x) (AreOff [] named c v x) (λ z. drops_each g.below es z.0 z.1) (drops_at g.below e.server e.lower r c.servers v)
            (λ servers w a. left_on (AreOff [] a.named' (record c { servers = servers }) w a.end) (AreOff [] named c v x) (drops_each g.below es servers w)
            (λ later u b. off_then [] es named c v x servers w a later u (λ b i. absurd i) b)
            (ih a.named' (record c { servers = servers }) w a.end (subst (λ (h : ℕ → Option Waiting). h over ≡ None) (sym a.held) none) apart.1
            (λ b i r p. (let n = waits b (inr i) r p in (n.0, a.waits b r i n.1))) a.stands))
            (one_off e es named c v x r none m.0 apart.0 m.1 st)
