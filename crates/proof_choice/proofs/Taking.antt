-- The results that a server gave are taken, one after another.
use Rattle.std.proofs.Common.{◌≡◌, ℕ, ◌<◌, ◌⊎◌, inl, inr, false, List, [], ◌∷◌, ◌++◌, length, map, Option, Some, None, slice_get, refl, sym, ap, subst, subst₂, ◌∙◌, le_refl, append_assoc, append-nil}
use mathlib.Core.Path.{fun_ext}
use Rattle.std.specs.Prelude.{option_map, set}
use Rattle.std.proofs.lemmas.List.{map-append}
use Rattle.client_request.specs.Numbered.{entry_at, frees}
use Rattle.client_request.specs.Request.{Request}
use Rattle.client_request.specs.View.{View}
use Rattle.client_request.specs.declared.board.Posted.{Posted as OnBoard}
use Rattle.client_choice.specs.Choice.{Choice, settled, settles, settles_owner, settles_job, settles_all, gets, without_owner}
use Rattle.client_choice.specs.Servers.{Server, owner, disowned_at}
use Rattle.right_trace.specs.Parts.{IsIn}
use Rattle.proof_right.specs.machine.Client.{Posted, Leaving, tag}
use Rattle.proof_right.specs.machine.Part.{Post}
use Rattle.right_trace.specs.Updates.{with_at}
use Rattle.proof_parts.specs.Chains.{part_of, Gives}
use Rattle.proof_parts.specs.Lines.{Sorted}
use Rattle.proof_parts.specs.PartTie.{Phase, Leads as IfLeft}
use Rattle.proof_parts.proofs.Keys.{each_number, with_here, with_there, was_there}
use Rattle.proof_parts.proofs.Tables.{at_frees}
use Rattle.proof_choice.specs.Choosing.{Choosing}
use Rattle.proof_parts.specs.WholeTie.{Gave, leaving_of, post_of}
use Rattle.proof_choice.specs.Doing.{HasCome, WaitsOn, Goes, HasDone, numbers_of, HasActed, ResultsAreMoves}
use Rattle.proof_choice.specs.Servers.{State}
use Rattle.proof_choice.specs.Requests.{Beside, Work, Begun, IsOwed, IsNamed, desk_of, Stands}
use Rattle.proof_choice.proofs.Dropping.{found_at, left_on, left_then, went_then, went_nowhere}
use Rattle.proof_choice.proofs.ServerCalls.{in_conf}
use Rattle.proof_choice.proofs.Settling.{IsSettled, gets_it}

-- what is not named is not named after results are given
gives_none : (named : ℕ → Option ℕ) (bs : List OnBoard) (posts : List Post) (left : ℕ → Option ℕ) (i : ℕ) → Gives named bs posts left → named i ≡ None → left i ≡ None
gives_none named [] [] left i gives is = gives i ∙ is
gives_none named [] (q ∷ qs) left i gives is = absurd gives
gives_none named (p ∷ ps) [] left i gives is = absurd gives
gives_none named (p ∷ ps) (q ∷ qs) left i gives is = gives_none (with_at p.ticket None named) ps qs left i gives.2
    (each_number (λ i. named i ≡ None → with_at p.ticket None named i ≡ None) p.ticket (λ is. with_here p.ticket None named) (λ j ne is. with_there p.ticket None named j ne ∙ is) i is)

-- each result is that of a request that is named
gives_named : (s : ℕ) (named : ℕ → Option ℕ) (bs : List OnBoard) (posts : List Post) (left : ℕ → Option ℕ) (y : Posted) → Gives named bs posts left → IsIn y (map (tag s) posts) → (i : ℕ) × (named i ≡ Some y.request)
gives_named s named [] [] left y gives m = absurd m
gives_named s named [] (q ∷ qs) left y gives m = absurd gives
gives_named s named (p ∷ ps) [] left y gives m = absurd gives
gives_named s named (p ∷ ps) (q ∷ qs) left y gives m = elim m [
  | inl same ↦ (p.ticket, gives.0 ∙ ap (λ (y : Posted). Some y.request) same)
  | inr n ↦ (let r = gives_named s (with_at p.ticket None named) ps qs left y gives.2 n in (r.0, (was_there p.ticket named r.0 y.request r.1).1))
]

-- some results, and then more
pub gives_then : (named mid left : ℕ → Option ℕ) (bs cs : List OnBoard) (ps qs : List Post) → Gives named bs ps mid → Gives mid cs qs left → Gives named (bs ++ cs) (ps ++ qs) left
gives_then named mid left [] cs [] qs a b = subst (λ f. Gives f cs qs left) (fun_ext a) b
gives_then named mid left [] cs (p ∷ ps) qs a b = absurd a
gives_then named mid left (x ∷ bs) cs [] qs a b = absurd a
gives_then named mid left (x ∷ bs) cs (p ∷ ps) qs a b = (a.0, a.1, gives_then (with_at x.ticket None named) mid left bs cs ps qs a.2 b)

module _ (g : Choosing) (beside : Beside) (phase : ℕ → Phase) (current : ℕ) where
  -- what was done makes of the requests that wait, where these numbers may be given
  record IsAnswered (numbers : ℕ → Option ℕ) (v : View) (x : State g) (d : Choice Request g.U g.R) (w : View) (y : State g) : Type 0 where
    pub given : List OnBoard
    pub gave : List Gave
    pub put : w.board ≡ v.board ++ given
    pub leaves : y.leaving ≡ x.leaving ++ map (leaving_of g.st) gave
    pub answers : Gives numbers given (map post_of gave) (numbers_of g d.jobs)

  abbrev number_in : Option (Work g) → Option ℕ
  number_in o = option_map (λ job. job.number) o

  answered : (t k : ℕ) (numbers : ℕ → Option ℕ) (v : View) (x : State g) (d : Choice Request g.U g.R) (w : View) (y : State g) → numbers t ≡ Some k
      → ((j : ℕ) → (t ≡ j → ⊥) → numbers_of g d.jobs j ≡ numbers j) → HasCome g beside phase current t k v x d w y → IsAnswered numbers v x d w y
  answered t k numbers v x d w y was kept come = by come
    where
      by : HasCome g beside phase current t k v x d w y → IsAnswered numbers v x d w y
      by (WaitsOn other is same put left) = record {
        given = [];
        gave = [];
        put = put ∙ sym (append-nil v.board);
        leaves = left ∙ sym (append-nil x.leaving);
        answers = λ j. each_number (λ j. numbers_of g d.jobs j ≡ numbers j) t (ap number_in is ∙ (ap (λ n. Some n) same ∙ sym was)) (λ j ne. kept j ne) j;
      }
      by (Goes z gone left request put) = record {
        given = record { ticket = t; part = part_of z.result; is_stale = false } ∷ [];
        gave = z ∷ [];
        put = put;
        leaves = left;
        answers = (
          was ∙ ap (λ n. Some n) (sym request),
          refl,
          λ j. each_number (λ j. numbers_of g d.jobs j ≡ with_at t None numbers j) t (ap number_in gone ∙ sym (with_here t None numbers)) (λ j ne. kept j ne ∙ sym (with_there t None numbers j ne)) j,
        );
      }

  -- What was done with one request is what a call leaves.
  pub has_acted : (t k : ℕ) (numbers : ℕ → Option ℕ) (table : ℕ → Option (Work g)) (rest : List Posted) (named : ℕ → ℕ → Option ℕ) (v : View) (x : State g) (d : Choice Request g.U g.R) (w : View) → numbers t ≡ Some k
      → ((j : ℕ) → (t ≡ j → ⊥) → number_in (table j) ≡ numbers j) → ((i : ℕ) → named current i ≡ beside.left i) → rest ≡ []
      → HasDone g beside phase current t k table rest named v x d w → HasActed g beside.others phase current numbers beside.left v.more v x d w
  has_acted t k numbers table rest named v x d w was kept names none h = record {
    named = h.named';
    end = h.end;
    went = h.went;
    still = record { stands = h.stands; names = λ i. h.same_there i ∙ names i; sorted = h.sorted; board = h.board ∙ none };
    given = a.given;
    gave = a.gave;
    put = a.put;
    leaves = a.leaves;
    answers = a.answers;
    says = h.more;
  }
    where
      a : IsAnswered numbers v x d w h.end
      a = answered t k numbers v x d w h.end was (λ j ne. ap number_in (h.others j ne) ∙ kept j ne) h.come

  -- one result is taken
  one_settles : (p : OnBoard) (ps : List OnBoard) (q : Post) (qs : List Post) (named : ℕ → ℕ → Option ℕ) (c : Choice Request g.U g.R) (v : View) (x : State g) (a : Server g.U) → Stands g beside phase current (λ j. entry_at j c.jobs) named 0 [] c v x → (hi : ℕ) × Sorted 0 hi c.jobs
      → slice_get c.servers current ≡ Some a → Gives (named current) (p ∷ ps) (q ∷ qs) (g.names a.upstream) → x.board ≡ map (tag current) (q ∷ qs) → IfLeft (IsSettled g beside phase current p.ticket (map (tag current) qs) named c v x) (settles g.below g.settings current p c v)
  one_settles p ps q qs named c v x a st table at gives board = go (st.kept.named current p.ticket q.request (in_conf g phase c.servers v x current a st.servers at) gives.0)
    where
      go : IsNamed g (desk_of g (λ j. entry_at j c.jobs) named c v x) current p.ticket q.request ⊎ ((0 ≡ q.request) × IsOwed g q.request [] current p.ticket) → IfLeft (IsSettled g beside phase current p.ticket (map (tag current) qs) named c v x) (settles g.below g.settings current p c v)
      go (inr o) = absurd (o.1).is
      go (inl m) =
          let e : Begun g = m.owed.entry in
          let w = (st.kept.kept m.ticket m.job m.is).waits e m.owed.is m.owed.response m.owed.to_come in
          let waits : owner current p.ticket c.servers ≡ Some m.ticket = subst₂ (λ s l. owner s l c.servers ≡ Some m.ticket) m.owed.server m.owed.lower w.waiting in
          subst (λ o. IfLeft (IsSettled g beside phase current p.ticket (map (tag current) qs) named c v x) (settles_owner g.below g.settings current p (without_owner current p.ticket c) v o)) (sym waits)
          (subst (λ o. IfLeft (IsSettled g beside phase current p.ticket (map (tag current) qs) named c v x) (settles_job g.below g.settings m.ticket current p.part (without_owner current p.ticket c) v o)) (sym m.is)
          (subst (λ o. IfLeft (IsSettled g beside phase current p.ticket (map (tag current) qs) named c v x) (gets g.below g.settings m.ticket current p.part (settled current m.job) (record c { servers = disowned_at current p.ticket c.servers o; jobs = frees m.ticket c.jobs }) v)) (sym at)
          (subst (λ z. IfLeft (IsSettled g beside phase current p.ticket (map (tag current) qs) named c v x) (gets g.below g.settings m.ticket current z (settled current m.job) (record c { servers = set c.servers current (record a { waiting = frees p.ticket a.waiting }); jobs = frees m.ticket c.jobs }) v)) (sym gives.1)
          (gets_it g beside phase current m.ticket p.ticket m.job e q.result qs named c v x a st table at m.is m.owed.is m.owed.server m.owed.lower waits
          (gives_none (with_at p.ticket None (named current)) ps qs (g.names a.upstream) p.ticket gives.2 (with_here p.ticket None (named current)))
          (board ∙ ap (λ k. map (tag current) (record { request = k; result = q.result } ∷ qs)) (sym m.number))
          (λ y i. gives_named current (with_at p.ticket None (named current)) ps qs (g.names a.upstream) y gives.2 i)))))

  -- what is left once each is taken
  abbrev Taken : Choice Request g.U g.R → View → State g → Choice Request g.U g.R → View → Type 0
  Taken c v x d w = HasActed g beside.others phase current (numbers_of g c.jobs) beside.left v.more v x d w

  pub all_settle : (ps : List OnBoard) (qs : List Post) (named : ℕ → ℕ → Option ℕ) (c : Choice Request g.U g.R) (v : View) (x : State g) → Stands g beside phase current (λ j. entry_at j c.jobs) named 0 [] c v x → (hi : ℕ) × Sorted 0 hi c.jobs
      → current < length (g.c).servers → Gives (named current) ps qs beside.left → x.board ≡ map (tag current) qs → IfLeft (HasActed g beside.others phase current (numbers_of g c.jobs) beside.left v.more v x) (settles_all g.below g.settings current ps c v)
  all_settle [] [] named c v x st table within gives board = record {
    named = named;
    end = x;
    went = went_nowhere g v x (record { fair = st.servers.fair; now = refl; timer = le_refl v.timers.next; ticket = le_refl v.ticket; place = le_refl v.place; later = λ i due is. inl is });
    still = record { stands = st; names = λ i. sym (gives i); sorted = table; board = board };
    given = [];
    gave = [];
    put = sym (append-nil v.board);
    leaves = sym (append-nil x.leaving);
    answers = λ i. refl;
    says = refl;
  }
  all_settle [] (q ∷ qs) named c v x st table within gives board = absurd gives
  all_settle (p ∷ ps) [] named c v x st table within gives board = absurd gives
  all_settle (p ∷ ps) (q ∷ qs) named c v x st table within gives board =
      let found = found_at c.servers current (subst (λ n. current < n) (sym st.servers.count) within) in
      left_then g (IsSettled g beside phase current p.ticket (map (tag current) qs) named c v x) (Taken c v x) (λ z. settles_all g.below g.settings current ps z.0 z.1) (settles g.below g.settings current p c v)
      (λ d w s. left_on g (Taken d w s.done.end) (Taken c v x) (settles_all g.below g.settings current ps d w)
      (λ e u r. after d w s e u r (answered s.ticket (s.job).number (numbers_of g c.jobs) v x d w s.done.end (ap number_in s.was)
      (λ j ne. ap number_in (s.done.others j ne ∙ (at_frees s.ticket j 0 table.0 c.jobs table.1 ∙ with_there s.ticket None (λ j. entry_at j c.jobs) j ne))) s.done.come))
      (all_settle ps qs s.done.named' d w s.done.end s.done.stands s.done.sorted within (subst (λ f. Gives f ps qs beside.left) (fun_ext (λ i. sym (s.here i) ∙ sym (s.done.same_there i))) gives.2) s.done.board))
      (one_settles p ps q qs named c v x found.0 st table found.1 (subst (λ f. Gives (named current) (p ∷ ps) (q ∷ qs) f) (fun_ext (λ i. sym (st.still found.0 found.1 i))) gives) board)
    where
      after : (d : Choice Request g.U g.R) (w : View) (s : IsSettled g beside phase current p.ticket (map (tag current) qs) named c v x d w) (e : Choice Request g.U g.R) (u : View) (r : Taken d w s.done.end e u) → IsAnswered (numbers_of g c.jobs) v x d w s.done.end → Taken c v x e u
      after d w s e u r a = record {
        named = r.named;
        end = r.end;
        went = went_then g v x w s.done.end u r.end s.done.went r.went;
        still = r.still;
        given = a.given ++ r.given;
        gave = a.gave ++ r.gave;
        put = r.put ∙ (ap (λ (bs : List OnBoard). bs ++ r.given) a.put ∙ append_assoc v.board a.given r.given);
        leaves = r.leaves ∙ (ap (λ (zs : List Leaving). zs ++ map (leaving_of g.st) r.gave) a.leaves ∙ (append_assoc x.leaving (map (leaving_of g.st) a.gave) (map (leaving_of g.st) r.gave) ∙ ap (λ (zs : List Leaving). x.leaving ++ zs) (sym (map-append (leaving_of g.st) a.gave r.gave))));
        answers = subst (λ ps. Gives (numbers_of g c.jobs) (a.given ++ r.given) ps (numbers_of g e.jobs)) (sym (map-append post_of a.gave r.gave))
            (gives_then (numbers_of g c.jobs) (numbers_of g d.jobs) (numbers_of g e.jobs) a.given r.given (map post_of a.gave) (map post_of r.gave) a.answers r.answers);
        says = r.says ∙ s.done.more;
      }

pub results_are_moves : (g : Choosing) → ResultsAreMoves g
results_are_moves g others phase current left ps qs named c v x st table within gives board = all_settle g (record { others = others; left = left }) phase current ps qs named c v x st table within gives board
