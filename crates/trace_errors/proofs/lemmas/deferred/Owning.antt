-- What is found of causes of errors' own is what the definitions say.
use Rattle.std.proofs.Common.{◌≡◌, ℕ, ◌==◌, ◌&&◌, ◌||◌, ◌⊎◌, inl, inr, not, Bool, true, false, List, [], ◌∷◌, Option, refl, sym, ap, ◌∙◌, subst}
use Rattle.client_request.specs.declared.error.Error.{Error}
use Rattle.client_request.specs.declared.event.What.{What}
use Rattle.right_trace.specs.Trace.{History, Conf}
use Rattle.right_trace.specs.Time.{newest, row_before, OfRow}
use Rattle.right_trace.specs.{Settings.Settings, Parts.IsIn, Owed.AllAreDone}
use Rattle.right_trace.specs.Coming.{SomeCame, NoneCame}
use Rattle.right_trace.specs.Errors.{DirectCause, OwnCause, is_of_server}
use Rattle.trace_tables.specs.declared.frames.here.Here.{Here}
use Rattle.trace_tables.specs.declared.frames.ledger.Ledger.{Ledger}
use Rattle.trace_tables.specs.frames.Ledger as ledger
use Rattle.trace_tables.specs.frames.Here as here_outs
use Rattle.trace_points.specs.declared.due.timers.Timers.{Timers}
use Rattle.trace_points.specs.due.Timers as timers
use Rattle.trace_points.specs.questions.Outs.{Tells}
use Rattle.trace_points.proofs.lemmas.questions.Deciding.{both, all, not_true}
use Rattle.trace_points.specs.declared.exchanges.coming.Coming.{Coming}
use Rattle.trace_points.specs.exchanges.Coming.{is_wanted, AllComing}
use Rattle.trace_points.specs.exchanges.Open.{Open}
use Rattle.trace_points.specs.exchanges.Open as open_sends
use Rattle.trace_errors.specs.promptness.Heard.{Heards}
use Rattle.trace_errors.specs.promptness.Heard as heards
use Rattle.trace_errors.specs.promptness.Prompt.{matches, excused_in}
use Rattle.trace_errors.specs.declared.earlier.Earlier.{Earlier}
use Rattle.trace_errors.specs.{Rows.ByRow, Arrivals.is_marked}
use Rattle.trace_errors.specs.Earlier as earlier
use Rattle.trace_errors.proofs.Rows.{same_number, own, either, earlier_so, so_earlier}
use Rattle.trace_errors.proofs.Arriving.{Passing, came_so, so_came, none_came}
use Rattle.trace_errors.specs.owed.Exchanged.{Exchanged}
use Rattle.trace_errors.specs.owed.Exchanged as exchanged
use Rattle.trace_errors.specs.deferred.Own.{some_matching, IsOwn, TellsOwn}
use Rattle.trace_errors.specs.deferred.Own as plain

first_true : (a b : Bool) → a ≡ true → (a || b) ≡ true
first_true a b e = ap (λ a. a || b) e

second_true : (a b : Bool) → b ≡ true → (a || b) ≡ true
second_true true b e = refl
second_true false b e = e

is_false : (b : Bool) → (b ≡ true → ⊥) → b ≡ false
is_false false f = refl
is_false true f = absurd (f refl)

matching_in : (k : ℕ) (xs : List Coming) → some_matching k xs ≡ true → Passing matches k xs
matching_in k [] e = absurd (cc)
matching_in k (x ∷ xs) e = go (either ((x.request == k) && matches x) (some_matching k xs) e) (matching_in k xs)
  where
    go : (((x.request == k) && matches x) ≡ true) ⊎ (some_matching k xs ≡ true) → (some_matching k xs ≡ true → Passing matches k xs) → Passing matches k (x ∷ xs)
    go (inl e) rest = (let q = both (x.request == k) (matches x) e in record { coming = x; there = inl refl; is_request = same_number x.request k q.0; passes = q.1 })
    go (inr e) rest = (let p = rest e in record { coming = p.coming; there = inr p.there; is_request = p.is_request; passes = p.passes })

in_matching : (k : ℕ) (y : Coming) (xs : List Coming) → IsIn y xs → y.request ≡ k → matches y ≡ true → some_matching k xs ≡ true
in_matching k y [] i e m = absurd i
in_matching k y (x ∷ xs) (inl q) e m = first_true _ _ (subst (λ (y : Coming). ((y.request == k) && matches y) ≡ true) (sym q) (all (y.request == k) (matches y) (ap (λ n. n == k) e ∙ own k) m))
in_matching k y (x ∷ xs) (inr i) e m = second_true _ _ (in_matching k y xs i e m)

module _ (c : Conf) (s : Settings) (l : Ledger) (t : Timers) (heard : Heards) (l' : Ledger) (o : Here) (e : Earlier) (sent : Open) (ex : Exchanged) (w : What) (xs : List Coming) (k : ℕ) (want : Option ℕ) (x h : History) (before : row_before h ≡ x) (is : newest h ≡ w) (kl : ledger.Known x l) (kt : timers.Known c x t) (kd : heards.Known c x heard) (ke : earlier.Known c s x e) (kl' : ledger.Known h l') (ko : here_outs.Known l.books.places h o) (ks : open_sends.Known c h sent) (kx : exchanged.Known c h ex) (wanted : is_wanted want k ≡ true) (cs : AllComing c want x h xs) where
  none_so : plain.none_came c l t l' o e xs k ≡ true → NoneCame c k x w h
  none_so u =
      let q = both (not (is_marked k e.arrivals.came)) _ u in
      let unmarked = not_true (is_marked k e.arrivals.came) q.0 in
      record {
        here = λ d. (
            let a = so_came c want x h xs cs l l' t o before kl kl' kt ko k wanted (subst (λ w. SomeCame c k x w h) (sym is) d) in
            go a.0 a.1 (either (excused_in c l'.frames.brought l'.books.requests.clock l t l' o) (not (some_matching k xs)) q.1));
        before = λ r. (
            let m = ke.arrivals.so_came k (subst (ByRow (OfRow (SomeCame c k))) before (earlier_so (OfRow (SomeCame c k)) h r)) in
            let z : true ≡ false = sym m ∙ unmarked in
            cc);
      }
    where
      go : excused_in c l'.frames.brought l'.books.requests.clock l t l' o ≡ false → Passing matches k xs → (excused_in c l'.frames.brought l'.books.requests.clock l t l' o ≡ true) ⊎ (not (some_matching k xs) ≡ true) → ⊥
      go non p (inl x) = (let z : true ≡ false = sym x ∙ non in cc)
      go non p (inr n) = (let m = in_matching k p.coming xs p.there p.is_request p.passes in let f = not_true (some_matching k xs) n in let z : true ≡ false = sym m ∙ f in cc)

  so_none : NoneCame c k x w h → plain.none_came c l t l' o e xs k ≡ true
  so_none d = all (not (is_marked k e.arrivals.came)) _ (ap not (is_false (is_marked k e.arrivals.came) marked)) (go (excused_in c l'.frames.brought l'.books.requests.clock l t l' o) refl)
    where
      marked : is_marked k e.arrivals.came ≡ true → ⊥
      marked m = d.before (so_earlier (OfRow (SomeCame c k)) (λ q. none_came c k (inl q)) h (subst (ByRow (OfRow (SomeCame c k))) (sym before) (ke.arrivals.came_so k m)))

      go : (b : Bool) → excused_in c l'.frames.brought l'.books.requests.clock l t l' o ≡ b → (b || not (some_matching k xs)) ≡ true
      go true i = refl
      go false i = ap not (is_false (some_matching k xs) (λ m. d.here (subst (λ w. SomeCame c k x w h) is (came_so c want x h xs cs l l' t o before kl kl' kt ko k i (matching_in k xs m)))))

  module _ (error : Error) (b : Bool) (d : IsOwn c s l t heard l' o e sent ex w xs k error b) where
    direct_told : Tells (DirectCause c s k x w h error) d.direct
    direct_told = d.is_direct want x h before is kl.books kd kl'.books ke wanted cs

    done_told : Tells (AllAreDone c k x w h) d.done
    done_told = d.is_done x h kl.books kl' ks kx

    own_so : b ≡ true → OwnCause c s error k x w h
    own_so u =
        let q = both d.direct (not (is_of_server error && s.defers_errors) || (d.done && plain.none_came c l t l' o e xs k)) (sym d.is ∙ u) in
        record { direct = direct_told.0 q.0; last = λ a v. go a v (either (not (is_of_server error && s.defers_errors)) (d.done && plain.none_came c l t l' o e xs k) q.1) }
      where
        go : is_of_server error ≡ true → s.defers_errors ≡ true → (not (is_of_server error && s.defers_errors) ≡ true) ⊎ ((d.done && plain.none_came c l t l' o e xs k) ≡ true) → AllAreDone c k x w h × NoneCame c k x w h
        go a v (inl n) = absurd (let z : (is_of_server error && s.defers_errors) ≡ true = all (is_of_server error) s.defers_errors a v in let f = not_true (is_of_server error && s.defers_errors) n in let y : true ≡ false = sym z ∙ f in cc)
        go a v (inr u) = (let q = both d.done (plain.none_came c l t l' o e xs k) u in (done_told.0 q.0, none_so q.1))

    so_own : OwnCause c s error k x w h → b ≡ true
    so_own q = d.is ∙ all d.direct _ (direct_told.1 q.direct) (go (is_of_server error) refl s.defers_errors refl)
      where
        go : (a : Bool) → is_of_server error ≡ a → (v : Bool) → s.defers_errors ≡ v → (not (a && v) || (d.done && plain.none_came c l t l' o e xs k)) ≡ true
        go true i true j = (let r = q.last i j in all d.done (plain.none_came c l t l' o e xs k) (done_told.1 r.0) (so_none r.1))
        go true i false j = refl
        go false i v j = refl

pub tells_own : (c : Conf) (s : Settings) (l : Ledger) (t : Timers) (heard : Heards) (l' : Ledger) (o : Here) (e : Earlier) (sent : Open) (ex : Exchanged) (w : What) (xs : List Coming) (k : ℕ) (error : Error) (b : Bool) → IsOwn c s l t heard l' o e sent ex w xs k error b → TellsOwn c s l t heard l' o e sent ex w xs k error b
tells_own c s l t heard l' o e sent ex w xs k error b d want x h before is kl kt kd ke kl' ko ks kx wanted cs =
    (own_so c s l t heard l' o e sent ex w xs k want x h before is kl kt kd ke kl' ko ks kx wanted cs error b d, so_own c s l t heard l' o e sent ex w xs k want x h before is kl kt kd ke kl' ko ks kx wanted cs error b d)
