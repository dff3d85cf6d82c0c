-- A server hears something, and what it posted is taken before the next one hears.
use Rattle.std.proofs.Common.{◌≡◌, ℕ, suc, ◌<◌, ◌≤◌, inl, inr, false, List, [], ◌++◌, length, map, Option, Some, None, slice_get, refl, sym, ap, subst, ◌∙◌, arith}
use mathlib.Core.Path.{fun_ext}
use Rattle.std.specs.Prelude.{set}
use Rattle.std.proofs.lemmas.Option.{slice_get_within}
use Rattle.client_request.specs.Numbered.{entry_at}
use Rattle.client_request.specs.Request.{Request}
use Rattle.client_request.specs.Timers.{cancelled}
use Rattle.client_request.specs.View.{View, Heard, told, more_at, due_timer}
use Rattle.client_request.specs.declared.board.Posted.{Posted as OnBoard}
use Rattle.client_request.specs.declared.event.What.{What}
use Rattle.client_choice.specs.Choice.{Choice, settles_all, hears_one}
use Rattle.client_choice.specs.Servers.{Server, owner, hears_at}
use Rattle.proof_right.specs.machine.Client.{Posted, tag, with_up}
use Rattle.proof_parts.specs.Chains.{Gives}
use Rattle.proof_parts.specs.Lines.{Sorted}
use Rattle.proof_parts.specs.PartTie.{Phase, Untold, Told, MayLeave, Leads as IfLeft}
use Rattle.proof_parts.specs.Sights.{sight, due_of, NoneDue}
use Rattle.proof_parts.specs.WholeTie.{leaving_of}
use Rattle.proof_parts.proofs.GoingOn.{dues_without}
use Rattle.proof_parts.proofs.Keys.{each_number, with_there}
use Rattle.proof_choice.specs.Choosing.{Choosing}
use Rattle.proof_choice.specs.Doing.{numbers_of, IsStill, HasActed, HasHeard, HasTold, TellingIsMoves, TakingIsMoves, WakingIsMoves}
use Rattle.proof_choice.specs.Servers.{State, Listed, IsHeard, IsTold}
use Rattle.proof_choice.specs.Requests.{Others, Beside, Desk, AreKept, desk_of, Stands, AreAside}
use Rattle.proof_choice.proofs.AtServer.{both_are}
use Rattle.client_choice.proofs.At.{set_here, set_there}
use Rattle.proof_choice.proofs.Dropping.{IsWithout, without_none, dues_on, foreign_on, drawn_on, due_on, far_then, is_open_on, aside_on, left_then, left_on, owner_there, owner_here, follows_of, went_then}
use Rattle.proof_choice.proofs.Leading.{up_other}
use Rattle.proof_choice.proofs.ServerCalls.{one_tells, one_takes, one_fires}
use Rattle.proof_choice.proofs.Settling.{gives_less}
use Rattle.proof_choice.proofs.Taking.{all_settle}

not_late : (a b : ℕ) → a < b → b ≤ a → ⊥
not_late a b lt le = omega arith

module _ (g : Choosing) where
  -- timers of servers go on, and nothing else changes
  kept_still : (d d' : Desk g) → d'.jobs ≡ d.jobs → d'.timers ≡ d.timers → d'.waiting ≡ d.waiting → d'.named ≡ d.named → d'.held ≡ d.held → ((i t due : ℕ) → d.timers i ≡ Some t → d.dues i ≡ Some due → d'.dues i ≡ Some due) → AreKept g 0 [] d → AreKept g 0 [] d'
  kept_still d d' jobs timers waiting named held dues k =
      subst (λ f. AreKept g 0 [] (record { jobs = f; timers = d'.timers; waiting = d'.waiting; named = d'.named; held = d'.held; dues = d'.dues })) (sym jobs)
      (subst (λ f. AreKept g 0 [] (record { jobs = d.jobs; timers = f; waiting = d'.waiting; named = d'.named; held = d'.held; dues = d'.dues })) (sym timers)
      (subst (λ f. AreKept g 0 [] (record { jobs = d.jobs; timers = d.timers; waiting = f; named = d'.named; held = d'.held; dues = d'.dues })) (sym waiting)
      (subst (λ f. AreKept g 0 [] (record { jobs = d.jobs; timers = d.timers; waiting = d.waiting; named = f; held = d'.held; dues = d'.dues })) (sym named)
      (subst (λ f. AreKept g 0 [] (record { jobs = d.jobs; timers = d.timers; waiting = d.waiting; named = d.named; held = f; dues = d'.dues })) (sym held)
      (record {
        kept = λ u job is. (let m = k.kept u job is in record {
          ask = m.ask;
          is = m.is;
          request = m.request;
          octets = m.octets;
          left = m.left;
          all = m.all;
          tried = m.tried;
          waits = λ e i r p. (let w = m.waits e i r p in record { within = w.within; fits = w.fits; ticket = w.ticket; waiting = w.waiting; named = w.named });
          apart = m.apart;
          deferred = m.deferred;
          timer = λ i p. (let q = m.timer i p in (q.0, (q.1.0, dues i u q.1.0 q.0 q.1.1)));
          armed = m.armed;
        });
        named = λ s i n lt is. elim (k.named s i n lt is) [ inl m ↦ inl (record { ticket = m.ticket; job = m.job; is = m.is; number = m.number; owed = m.owed }) | inr o ↦ inr o ];
        held = k.held;
        timers = k.timers;
        apart = k.apart;
      })))))

  module _ (others : Others) (left : ℕ → Option ℕ) (phase : ℕ → Phase) (s : ℕ) (named : ℕ → ℕ → Option ℕ) (c : Choice Request g.U g.R) (v : View) (x : State g) (a : Server g.U) (is_still : IsStill g others phase s left named c v x) (at : slice_get c.servers s ≡ Some a) where
    abbrev beside : Beside
    beside = record { others = others; left = left }

    abbrev st : Stands g (record { others = others; left = left }) phase s (λ j. entry_at j c.jobs) named 0 [] c v x
    st = is_still.stands

    inside : s < length (g.c).servers
    inside = subst (λ n. s < n) st.servers.count (slice_get_within c.servers s a at)

    named_so : (i : ℕ) → named s i ≡ g.names a.upstream i
    named_so i = is_still.names i ∙ sym (st.still a at i)

    -- It hears something, from a view where timers of its own may have been taken out.
    module _ (after : ℕ → Phase) (u : View) (phases : (q : ℕ) → (s ≡ q → ⊥) → after q ≡ phase q) (fewer : IsWithout g (g.Owns a.upstream) v u) (calm : (at frames : ℕ) → after s ≡ Told at frames → AreAside g s (λ j. entry_at j c.jobs) v) (ps : List OnBoard) (servers : Listed g) (w : View) (h : IsHeard g after s a c.servers u x (ps, servers) w) where
      abbrev b : Server g.U
      b = h.server

      abbrev taking : Beside
      taking = record { others = others; left = g.names b.upstream }

      abbrev listed : Choice Request g.U g.R
      listed = record c { servers = set c.servers s b }

      same_owner : (q i : ℕ) → owner q i (set c.servers s b) ≡ owner q i c.servers
      same_owner q i = each_number (λ q. owner q i (set c.servers s b) ≡ owner q i c.servers) s
          (owner_here g (set c.servers s b) s i b (set_here c.servers s a b at) ∙ (ap (λ (ws : List (ℕ × ℕ)). entry_at i ws) h.waiting ∙ sym (owner_here g c.servers s i a at)))
          (λ q ne. owner_there g c.servers s q i b ne) q

      heard_stands : Stands g taking after s (λ j. entry_at j c.jobs) named 0 [] listed w h.call.end
      heard_stands = record {
        servers = h.call.tied;
        quiet = λ q e is. each_number (λ q. slice_get (set c.servers s b) q ≡ Some e → (e.posted ≡ []) × ((hi : ℕ) × Sorted 0 hi e.waiting)) s
            (λ is. subst (λ (e : Server g.U). (e.posted ≡ []) × ((hi : ℕ) × Sorted 0 hi e.waiting)) (both_are (slice_get (set c.servers s b) s) b e (set_here c.servers s a b at) is)
            (h.posted, subst (λ (ws : List (ℕ × ℕ)). (hi : ℕ) × Sorted 0 hi ws) (sym h.waiting) (st.quiet s a at).1))
            (λ q ne is. st.quiet q e (sym (set_there c.servers s q b ne) ∙ is)) q is;
        is_named = λ q e is ne i. st.is_named q e (sym (set_there c.servers s q b ne) ∙ is) ne i;
        still = λ e is i. ap (λ (e : Server g.U). g.names e.upstream i) (sym (both_are (slice_get (set c.servers s b) s) b e (set_here c.servers s a b at) is));
        less = λ i k is. named_so i ∙ gives_less (g.names a.upstream) ps h.call.made.posts (g.names b.upstream) i k h.call.gives is;
        kept = kept_still (desk_of g (λ j. entry_at j c.jobs) named c v x) (desk_of g (λ j. entry_at j c.jobs) named listed w h.call.end) refl refl (fun_ext (λ q. fun_ext (λ i. same_owner q i))) refl h.call.moved.held
            (λ i t due is m. dues_on g beside phase after s (λ j. entry_at j c.jobs) named 0 [] c v x st s a b at (g.names a.upstream) ps x x u w fewer h.call i t due is m) st.kept;
        foreign = λ i t q e is found o. foreign_on g beside phase after s (λ j. entry_at j c.jobs) named 0 [] c v x st s a b at (g.names a.upstream) ps x x u w fewer h.call i t q e is found o;
        timers = st.timers;
        calm = λ place frames told. aside_on g beside phase after s (λ j. entry_at j c.jobs) named 0 [] c v x st s a b at (g.names a.upstream) ps x x u w fewer h.call (calm place frames told);
        is_open = λ q lt ne. is_open_on g beside phase after s (λ j. entry_at j c.jobs) named 0 [] c v x st s a b at (g.names a.upstream) ps x x u w fewer h.call q (st.is_open q lt ne) (phases q ne);
        drawn = λ i are. drawn_on g beside phase after s (λ j. entry_at j c.jobs) named 0 [] c v x st s a b at (g.names a.upstream) ps x x u w fewer h.call i are;
        due = λ i m are is. due_on g beside phase after s (λ j. entry_at j c.jobs) named 0 [] c v x st s a b at (g.names a.upstream) ps x x u w fewer h.call i m are is;
        own = st.own;
        far = λ i q e are found o. far_then g beside phase after s (λ j. entry_at j c.jobs) named 0 [] c v x st s a b at (g.names a.upstream) ps x x u w fewer h.call i q e are found o;
      }

      given_names : Gives (named s) ps h.call.made.posts (g.names b.upstream)
      given_names = subst (λ f. Gives f ps h.call.made.posts (g.names b.upstream)) (fun_ext (λ i. sym (named_so i))) h.call.gives

      -- what was heard comes before
      heard_before : (d : Choice Request g.U g.R) (z : View) → HasActed g others after s (numbers_of g c.jobs) (g.names b.upstream) w.more w h.call.end d z → HasActed g others after s (numbers_of g c.jobs) (g.names b.upstream) w.more u x d z
      heard_before d z r = record {
        named = r.named;
        end = r.end;
        went = went_then g u x w h.call.end z r.end (record { outs = h.call.made.outs; leads = h.call.leads; put = h.call.put; goes_on = follows_of g u w h.call.goes_on; now = h.call.moved.now; asked = h.call.moved.asked; pending = h.call.moved.pending }) r.went;
        still = r.still;
        given = r.given;
        gave = r.gave;
        put = r.put ∙ ap (λ (bs : List OnBoard). bs ++ r.given) h.board;
        leaves = r.leaves ∙ ap (λ zs. zs ++ map (leaving_of g.st) r.gave) h.call.moved.leaving;
        answers = r.answers;
        says = r.says;
      }

      pub settles_heard : IfLeft (HasActed g others after s (numbers_of g c.jobs) (g.names b.upstream) w.more u x) (settles_all g.below g.settings s ps (record c { servers = servers }) w)
      settles_heard = subst (λ xs. IfLeft (HasActed g others after s (numbers_of g c.jobs) (g.names b.upstream) w.more u x) (settles_all g.below g.settings s ps (record c { servers = xs }) w)) (sym h.lists)
          (left_on g (HasActed g others after s (numbers_of g c.jobs) (g.names b.upstream) w.more w h.call.end) (HasActed g others after s (numbers_of g c.jobs) (g.names b.upstream) w.more u x) (settles_all g.below g.settings s ps listed w)
          (λ d z r. heard_before d z r)
          (all_settle g taking after s ps h.call.made.posts named listed w h.call.end heard_stands is_still.sorted inside given_names
          (h.call.moved.board ∙ ap (λ (b : List Posted). b ++ map (tag s) h.call.made.posts) is_still.board)))

    -- it is told something, or takes a frame
    told_settles : (heard : Heard) (MayBe : (place frames : ℕ) → Type 0) → AreAside g s (λ j. entry_at j c.jobs) v → IfLeft (IsTold g phase s a c.servers v x MayBe) (hears_at g.below s heard c.servers v) → IfLeft (HasTold g others phase s MayBe (numbers_of g c.jobs) v x) (hears_one g.below g.settings s heard c v)
    told_settles heard MayBe calm l = left_then g (IsTold g phase s a c.servers v x MayBe) (HasTold g others phase s MayBe (numbers_of g c.jobs) v x) (λ z. settles_all g.below g.settings s z.0.0 (record c { servers = z.0.1 }) z.1) (hears_at g.below s heard c.servers v)
        (λ y w t. left_on g (HasActed g others (with_up s (Told t.at t.left) phase) s (numbers_of g c.jobs) (g.names ((t.heard).server).upstream) w.more v x) (HasTold g others phase s MayBe (numbers_of g c.jobs) v x) (settles_all g.below g.settings s y.0 (record c { servers = y.1 }) w)
        (λ d z r. record {
          at = t.at;
          frames = t.left;
          may_be = t.may_be;
          left = g.names ((t.heard).server).upstream;
          acted = subst (λ m. HasActed g others (with_up s (Told t.at t.left) phase) s (numbers_of g c.jobs) (g.names ((t.heard).server).upstream) m v x d z) t.more r;
        })
        (settles_heard (with_up s (Told t.at t.left) phase) v (λ q ne. up_other s q (Told t.at t.left) phase ne) (without_none g (g.Owns a.upstream) v) (λ at frames told. calm) y.0 y.1 w t.heard)) l

    pub tells_it : (what : What) → phase s ≡ Untold what → NoneDue (g.Owns a.upstream) (sight v) → ((i t due : ℕ) → entry_at i c.timers ≡ Some t → due_of i v.timers.set ≡ Some due → v.now < due) → v.more ≡ false → IfLeft (HasTold g others phase s (MayLeave what) (numbers_of g c.jobs) v x) (hears_one g.below g.settings s (told what) c v)
    tells_it what untold early none calm = told_settles (told what) (MayLeave what) (λ t job i due is timer set late. absurd (not_late v.now due (none i t due ((st.kept.kept t job is).timer i timer).0 set) late)) (one_tells g phase c.servers v x s a st.servers at (st.quiet s a at).0 what untold early calm)

    pub takes_it : (p n : ℕ) → phase s ≡ Told p (suc n) → v.more ≡ false → IfLeft (HasTold g others phase s (λ q frames. (q ≡ p) × (frames ≤ n)) (numbers_of g c.jobs) v x) (hears_one g.below g.settings s (more_at p) c v)
    takes_it p n is calm = told_settles (more_at p) (λ q frames. (q ≡ p) × (frames ≤ n)) (st.calm p (suc n) is) (one_takes g phase c.servers v x s a st.servers at (st.quiet s a at).0 p n is calm)

    -- a timer of its own fires
    module _ (i due : ℕ) (own : g.Owns a.upstream i) where
      abbrev gone : View
      gone = record v { timers = cancelled i v.timers }

      fewer : IsWithout g (g.Owns a.upstream) v gone
      fewer = record {
        now = refl;
        next = refl;
        place = refl;
        dues = λ j m none is. dues_without v i j st.servers.fair ∙ (with_there i None (λ (j : ℕ). due_of j v.timers.set) j (λ same. none (subst (λ j. g.Owns a.upstream j) same own)) ∙ is);
      }

      pub wakes_it : (what : What) → phase s ≡ Untold what → due_of i v.timers.set ≡ Some due → due ≤ v.now → IfLeft (HasHeard g others phase s (numbers_of g c.jobs) gone x) (hears_one g.below g.settings s (due_timer i) c gone)
      wakes_it what untold set passed = left_then g (IsHeard g phase s a c.servers gone x) (HasHeard g others phase s (numbers_of g c.jobs) gone x) (λ z. settles_all g.below g.settings s z.0.0 (record c { servers = z.0.1 }) z.1) (hears_at g.below s (due_timer i) c.servers gone)
          (λ y w h. left_on g (HasActed g others phase s (numbers_of g c.jobs) (g.names (h.server).upstream) w.more gone x) (HasHeard g others phase s (numbers_of g c.jobs) gone x) (settles_all g.below g.settings s y.0 (record c { servers = y.1 }) w)
          (λ d z r. record { left = g.names (h.server).upstream; acted = subst (λ m. HasActed g others phase s (numbers_of g c.jobs) (g.names (h.server).upstream) m gone x d z) (sym r.says) r })
          (settles_heard phase gone (λ q ne. refl) fewer st.calm y.0 y.1 w h))
          (one_fires g phase c.servers v x s a st.servers at (st.quiet s a at).0 i due own set passed what untold)

pub telling_is_moves : (g : Choosing) → TellingIsMoves g
telling_is_moves g others phase s a what left named c v x is_still at untold early none calm = tells_it g others left phase s named c v x a is_still at what untold early none calm

pub taking_is_moves : (g : Choosing) → TakingIsMoves g
taking_is_moves g others phase s a p n left named c v x is_still at is calm = takes_it g others left phase s named c v x a is_still at p n is calm

pub waking_is_moves : (g : Choosing) → WakingIsMoves g
waking_is_moves g others phase s a what i due left named c v x is_still at untold own set passed = wakes_it g others left phase s named c v x a is_still at i due own what untold set passed
