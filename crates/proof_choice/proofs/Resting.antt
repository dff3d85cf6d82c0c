-- A request waits on, or each server gave its result and the best one is the reply.
use Rattle.std.proofs.Common.{◌≡◌, ℕ, suc, ◌<◌, ◌⊎◌, inl, inr, Bool, true, false, if◌then◌else◌, ◌&&◌, ◌==◌, is_none, List, [], ◌∷◌, length, Option, Some, None, slice_get, Result, refl, sym, ap, subst, ◌∙◌, arith, le_refl, append-nil}
use Rattle.std.proofs.lemmas.Bool.Decides.{nat_tests}
use mathlib.Core.Path.{fun_ext}
use Rattle.std.specs.Prelude.{option_map}
use Rattle.client_request.specs.Board.{Part}
use Rattle.client_request.specs.Composed.{composed}
use Rattle.client_request.specs.Numbered.{entry_at, puts}
use Rattle.client_request.specs.Request.{Request}
use Rattle.client_request.specs.View.{View, answers}
use Rattle.client_request.specs.declared.error.Error.{Error}
use Rattle.client_choice.specs.Choice.{Choice, rests, keeps, gives, is_over, all_gave}
use Rattle.right_trace.specs.Messages.{Octets}
use Rattle.right_trace.specs.Parts.{IsIn}
use Rattle.proof_right.specs.machine.Client.{NoneOf, Caches, Concludes, leave, unmade, best}
use Rattle.right_trace.specs.Updates.{with_at}
use Rattle.proof_parts.specs.Chains.{part_of}
use Rattle.proof_parts.specs.Lines.{Sorted}
use Rattle.proof_parts.specs.PartTie.{Phase, Leads as IfLeft}
use Rattle.proof_parts.specs.Sights.{sight}
use Rattle.proof_parts.proofs.Keys.{each_number, with_here, with_there, with_same}
use Rattle.proof_parts.proofs.Tables.{at_puts, puts_path}
use Rattle.proof_choice.specs.Choosing.{Choosing}
use Rattle.proof_parts.specs.Leading.{Leads}
use Rattle.proof_choice.specs.Servers.{State}
use Rattle.proof_choice.specs.Doing.{WaitsOn, Goes, HasDone}
use Rattle.proof_parts.specs.WholeTie.{Follows, Gave, leaving_of}
use Rattle.proof_choice.specs.Requests.{Beside, Work, Begun, Desk, IsKept, IsOwed, IsToStart, AreKept, desk_of, Stands, AreAside}
use Rattle.proof_choice.proofs.Asides.{gone_aside}
use Rattle.proof_choice.proofs.AtServer.{both_are, none_is}
use Rattle.proof_choice.proofs.Changing.{ended}
use Rattle.proof_choice.proofs.Disarming.{again_path}
use Rattle.proof_choice.proofs.Dropping.{found_at}
use Rattle.proof_choice.proofs.Keeping.{none_dropped}
use Rattle.proof_choice.proofs.Leading.{one_move}
use Rattle.proof_choice.proofs.Outcomes.{outcome_request}
use Rattle.proof_choice.proofs.Starting.{sorted_more}

-- one of two tests fails where both do not hold
both_hold : (a b : Bool) → (a && b) ≡ true → (a ≡ true) × (b ≡ true)
both_hold true b e = (refl, e)
both_hold false b e = absurd (cc)

is_empty : {A : Type 0} (xs : List A) → (length xs == 0) ≡ true → xs ≡ []
is_empty [] e = refl
is_empty (x ∷ xs) e = absurd (never (length xs) e)
  where
    never : (n : ℕ) → (suc n == 0) ≡ true → ⊥
    never n e = grind (arith, nat_tests)

none_so : {A : Type 0} (o : Option A) → is_none o ≡ true → o ≡ None
none_so None e = refl
none_so (Some x) e = absurd (cc)

module _ (g : Choosing) (beside : Beside) (phase : ℕ → Phase) (current : ℕ) where
  -- nothing is owed
  nothing_owed : (over : ℕ) (es : List (Begun g)) (d : Desk g) → ((e : Begun g) → IsIn e es → e.response ≡ None) → AreKept g over es d → AreKept g over [] d
  nothing_owed over [] d none k = k
  nothing_owed over (e ∷ es) d none k = nothing_owed over es d (λ f m. none f (inr m)) (none_dropped g over e es d (none e (inl refl)) k)

  all_none : (es : List (Begun g)) → all_gave es ≡ true → (e : Begun g) → IsIn e es → e.response ≡ None
  all_none [] all e m = absurd m
  all_none (b ∷ es) all e m = (let both = both_hold (is_none b.response) (all_gave es) all in elim m [ inl same ↦ subst (λ (e : Begun g). e.response ≡ None) same (none_so b.response both.0) | inr n ↦ all_none es both.1 e n ])

  pub over_any : (jobs : ℕ → Option (Work g)) (named : ℕ → ℕ → Option ℕ) (over other : ℕ) (c : Choice Request g.U g.R) (v : View) (x : State g) → Stands g beside phase current jobs named over [] c v x → Stands g beside phase current jobs named other [] c v x
  over_any jobs named over other c v x st = record {
    servers = st.servers;
    quiet = st.quiet;
    is_named = st.is_named;
    still = st.still;
    less = st.less;
    kept = record { kept = st.kept.kept; named = λ s i k lt is. elim (st.kept.named s i k lt is) [ inl m ↦ inl m | inr o ↦ absurd (nothing k s i o.1) ]; held = st.kept.held; timers = st.kept.timers; apart = st.kept.apart };
    foreign = st.foreign;
    timers = st.timers;
    calm = st.calm;
    is_open = st.is_open;
    drawn = st.drawn;
    due = st.due;
    own = st.own;
    far = st.far;
  }
    where
      nothing : (n s i : ℕ) → IsOwed g n [] s i → ⊥
      nothing n s i o = o.is

  -- other requests in the table
  pub stands_as : (jobs jobs' : ℕ → Option (Work g)) (named : ℕ → ℕ → Option ℕ) (c : Choice Request g.U g.R) (table : List (ℕ × Work g)) (v : View) (x : State g) → jobs' ≡ jobs → Stands g beside phase current jobs named 0 [] c v x → Stands g beside phase current jobs' named 0 [] (record c { jobs = table }) v x
  stands_as jobs jobs' named c table v x same st = subst (λ f. Stands g beside phase current f named 0 [] (record c { jobs = table }) v x) (sym same)
      (record { servers = st.servers; quiet = st.quiet; is_named = st.is_named; still = st.still; less = st.less; kept = record { kept = st.kept.kept; named = st.kept.named; held = st.kept.held; timers = st.kept.timers; apart = st.kept.apart }; foreign = st.foreign; timers = st.timers; calm = st.calm; is_open = st.is_open; drawn = st.drawn; due = st.due; own = st.own; far = st.far })

  module _ (t : ℕ) (job : Work g) (tab : ℕ → Option (Work g)) (named : ℕ → ℕ → Option ℕ) (c : Choice Request g.U g.R) (v : View) (x : State g) (is_table : tab ≡ (λ j. entry_at j c.jobs)) (new : tab t ≡ None) (sorted : (hi : ℕ) × Sorted 0 hi c.jobs) (st : Stands g beside phase current (with_at t (Some job) tab) named 0 [] c v x) where
    mine : IsKept g (desk_of g (with_at t (Some job) tab) named c v x) t job
    mine = st.kept.kept t job (with_here t (Some job) tab)

    follows_itself : Follows v v
    follows_itself = record { fair = st.servers.fair; now = refl; timer = le_refl v.timers.next; ticket = le_refl v.ticket; place = le_refl v.place; later = λ i due is. inl is }

    -- it waits on
    pub it_waits : HasDone g beside phase current t job.number tab x.board named v x (keeps t job c) v
    it_waits = record {
      named' = named;
      end = x;
      went = record { outs = []; leads = Leads.Arrives x; put = sym (append-nil v.outs); goes_on = follows_itself; now = refl; asked = refl; pending = refl };
      stands = stands_as (with_at t (Some job) tab) (λ j. entry_at j (puts t job c.jobs)) named c (puts t job c.jobs) v x (puts_path t job c.jobs ∙ ap (λ f. with_at t (Some job) f) (sym is_table)) st;
      sorted = sorted_more t job c.jobs sorted;
      others = λ j ne. at_puts t job j c.jobs ∙ (with_there t (Some job) (λ j. entry_at j c.jobs) j ne ∙ ap (λ (f : ℕ → Option (Work g)). f j) (sym is_table));
      board = refl;
      more = refl;
      same_there = λ i. refl;
      come = WaitsOn job (at_puts t job t c.jobs ∙ with_here t (Some job) (λ j. entry_at j c.jobs)) refl refl refl;
    }

    -- each server gave its result
    module _ (over : is_over job ≡ true) (part : Part) (has : job.deferred ≡ Some part) (clear : NoneOf g.c g.st composed g.P job.number x.board) where
      none_left : job.left ≡ []
      none_left = is_empty job.left (both_hold (length job.left == 0) (all_gave job.started) over).0

      gave_all : (e : Begun g) → IsIn e job.started → e.response ≡ None
      gave_all = all_none job.started (both_hold (length job.left == 0) (all_gave job.started) over).1

      tried_all : (s : ℕ) → s < length (g.c).servers → mine.ask.tried s ≡ true
      tried_all s lt = elim (subst (λ l. (mine.ask.tried s ≡ true) ⊎ IsToStart s l) none_left (mine.all s lt)) [ inl e ↦ e | inr m ↦ absurd m ]

      first_of_all : (o : Option (Result Octets Error)) → job.deferred ≡ option_map part_of o → (y : Result Octets Error) × (o ≡ Some y) × (part ≡ part_of y)
      first_of_all None is = absurd (none_is job.deferred part is has)
      first_of_all (Some y) is = (y, refl, both_are job.deferred part (part_of y) has is)

      is_free : (s : ℕ) → s < length (g.c).servers → g.P.holds (x.ups s) job.number ≡ false
      is_free s lt = go (found_at c.servers s (subst (λ n. s < n) (sym st.servers.count) lt))
        where
          go : (a : _) × (slice_get c.servers s ≡ Some a) → g.P.holds (x.ups s) job.number ≡ false
          go found = by (g.P.holds (x.ups s) job.number) refl
            where
              owed : (i : ℕ) → named s i ≡ Some job.number → ⊥
              owed i is = elim (st.kept.named s i job.number lt is) [
                | inl m ↦ (let same = st.kept.apart m.ticket t m.job job m.is (with_here t (Some job) tab) m.number in
                    let one : m.job ≡ job = both_are (with_at t (Some job) tab m.ticket) m.job job m.is (subst (λ u. with_at t (Some job) tab u ≡ Some job) (sym same) (with_here t (Some job) tab)) in
                    let o : IsOwed g job.number job.started s i = subst (λ (w : Work g). IsOwed g job.number w.started s i) one m.owed in
                    none_is (o.entry).response o.response (gave_all o.entry o.is) o.to_come)
                | inr o ↦ (o.1).is
              ]

              by : (b : Bool) → g.P.holds (x.ups s) job.number ≡ b → b ≡ false
              by false is = refl
              by true is =
                  let h = (g.tie s lt).held (phase s) (found.0).upstream (sight v) (x.ups s) job.number (st.servers.tied s found.0 found.1) is in
                  absurd (owed h.0 (each_number (λ q. (a : _) → slice_get c.servers q ≡ Some a → g.names a.upstream h.0 ≡ Some job.number → named q h.0 ≡ Some job.number) current
                  (λ a at n. st.less h.0 job.number (sym (st.still a at h.0) ∙ n)) (λ q ne a at n. st.is_named q a at ne h.0 ∙ n) s found.0 found.1 h.1))

      pub it_goes : HasDone g beside phase current t job.number tab x.board named v x c (gives job.deferred t v)
      it_goes = go (first_of_all (best mine.ask.kept_back) mine.deferred)
        where
          go : (y : Result Octets Error) × (best mine.ask.kept_back ≡ Some y) × (part ≡ part_of y) → HasDone g beside phase current t job.number tab x.board named v x c (gives job.deferred t v)
          go f =
              subst (λ d. HasDone g beside phase current t job.number tab x.board named v x c (gives d t v)) (sym (has ∙ ap (λ (p : Part). Some p) f.2)) gone
            where
              z : Gave
              z = record { request = job.number; asked = mine.ask.request; result = f.0 }

              gone : HasDone g beside phase current t job.number tab x.board named v x c (answers t (part_of f.0) v)
              gone = record {
                named' = named;
                end = left;
                went = record {
                  outs = [];
                  leads = one_move g.st composed g.P x (unmade left) (Concludes job.number mine.ask f.0 (leaving_of g.st z) mine.is tried_all is_free clear f.1 Caches) tt;
                  put = sym (append-nil v.outs);
                  goes_on = record { fair = record { order = st.servers.fair.order; words = st.servers.fair.words }; now = refl; timer = le_refl v.timers.next; ticket = le_refl v.ticket; place = le_refl v.place; later = λ i due is. inl is };
                  now = refl;
                  asked = refl;
                  pending = refl;
                };
                stands = over_any (λ j. entry_at j c.jobs) named job.number 0 c (answers t (part_of f.0) v) left (record {
                  servers = record { count = st.servers.count; tied = st.servers.tied; apart = st.servers.apart; fair = record { order = st.servers.fair.order; words = st.servers.fair.words }; place = st.servers.place; places = st.servers.places };
                  quiet = st.quiet;
                  is_named = st.is_named;
                  still = st.still;
                  less = st.less;
                  kept = nothing_owed job.number job.started (desk_of g (λ j. entry_at j c.jobs) named c (answers t (part_of f.0) v) left) gave_all
                      (ended g t job (desk_of g (with_at t (Some job) tab) named c v x) (desk_of g (λ j. entry_at j c.jobs) named c (answers t (part_of f.0) v) left) (with_here t (Some job) tab) (mine.armed none_left)
                      (sym is_table ∙ sym (again_path t None (Some job) tab ∙ fun_ext (λ j. with_same t None tab j new))) refl refl refl (ap (λ k. with_at k None x.held) (outcome_request g.st job.number mine.ask.request f.0)) refl 0 st.kept);
                  foreign = st.foreign;
                  timers = st.timers;
                  calm = λ at frames told. subst (λ f. AreAside g current f v) is_table (gone_aside g current t (Some job) tab v new (st.calm at frames told));
                  is_open = st.is_open;
                  drawn = st.drawn;
                  due = st.due;
                  own = st.own;
                  far = st.far;
                });
                sorted = sorted;
                others = λ j ne. ap (λ (h : ℕ → Option (Work g)). h j) (sym is_table);
                board = refl;
                more = refl;
                same_there = λ i. refl;
                come = Goes z (ap (λ (h : ℕ → Option (Work g)). h t) (sym is_table) ∙ new) refl refl refl;
              }
                where
                  left : State g
                  left = leave (leaving_of g.st z) x

    -- it waits on, unless no result is to come
    pub rests_do : (part : Part) → job.deferred ≡ Some part → NoneOf g.c g.st composed g.P job.number x.board → IfLeft (HasDone g beside phase current t job.number tab x.board named v x) (rests t job c v)
    rests_do part has clear = by (is_over job) refl
      where
        by : (b : Bool) → is_over job ≡ b → IfLeft (HasDone g beside phase current t job.number tab x.board named v x) (if b then Some (c, gives job.deferred t v) else Some (keeps t job c, v))
        by true over = it_goes over part has clear
        by false over = it_waits
