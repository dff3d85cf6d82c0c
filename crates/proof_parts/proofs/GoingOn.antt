-- Views, one after another: what small changes of a view keep.
use Rattle.std.proofs.Common.{◌≡◌, ℕ, ◌+◌, ◌<◌, ◌≤◌, ◌⊎◌, inl, inr, [], Option, Some, None, refl, sym, subst, ◌∙◌, arith, le_refl, le_trans, append-nil}
use Rattle.client_request.specs.Timers.{cancelled, with_timer}
use Rattle.client_request.specs.View.{View}
use Rattle.right_trace.specs.Trace.{Conf}
use Rattle.proof_right.specs.machine.Part.{ServerPart}
use Rattle.right_trace.specs.Updates.{with_at}
use Rattle.proof_parts.specs.Sights.{Sight, sight, due_of, IsFair}
use Rattle.proof_parts.specs.Chains.{still, Chain, Stays}
use Rattle.proof_parts.specs.PartTie.{Phase, GoesOn, Leaves}
use Rattle.std.proofs.lemmas.Bool.Decides.{nat_tests}
use Rattle.proof_parts.proofs.TimerLaws.{due_without, order_without, due_set, order_set, unset_above}

pub goes_nowhere : (v : View) → IsFair v → GoesOn v v
goes_nowhere v fair = record { fair = fair; now = refl; timer = le_refl v.timers.next; ticket = le_refl v.ticket; place = le_refl v.place; later = λ i due e. inl e }

pub goes_then : (v w x : View) → GoesOn v w → GoesOn w x → GoesOn v x
goes_then v w x a b = record {
  fair = b.fair;
  now = b.now ∙ a.now;
  timer = le_trans a.timer b.timer;
  ticket = le_trans a.ticket b.ticket;
  place = le_trans a.place b.place;
  later = λ i due e. elim (b.later i due e) [ inl f ↦ a.later i due f | inr f ↦ inr (subst (λ n. n < due) a.now f.0, le_trans a.timer f.1) ];
}

-- a timer that is taken out, and one that is set and not due
pub fair_without : (v : View) (i : ℕ) → IsFair v → IsFair (record v { timers = cancelled i v.timers })
fair_without v i fair = record { order = order_without i 0 v.timers.next v.timers.set fair.order; words = fair.words }

pub dues_without : (v : View) (i j : ℕ) → IsFair v → due_of j (cancelled i v.timers).set ≡ with_at i None (λ j. due_of j v.timers.set) j
dues_without v i j fair = due_without i j 0 v.timers.next v.timers.set fair.order

other_due : (i j : ℕ) (f : ℕ → Option ℕ) (due : ℕ) → with_at i None f j ≡ Some due → f j ≡ Some due
other_due i j f due e = grind (arith, nat_tests)

pub goes_without : (v : View) (i : ℕ) → IsFair v → GoesOn v (record v { timers = cancelled i v.timers })
goes_without v i fair = record {
  fair = fair_without v i fair;
  now = refl;
  timer = le_refl v.timers.next;
  ticket = le_refl v.ticket;
  place = le_refl v.place;
  later = λ j due e. inl (other_due i j (λ j. due_of j v.timers.set) due (sym (dues_without v i j fair) ∙ e));
}

pub fair_set : (v : View) (due : ℕ) → IsFair v → IsFair (record v { timers = with_timer due v.timers })
fair_set v due fair = record { order = order_set due 0 v.timers.next v.timers.set (omega arith) fair.order; words = fair.words }

pub dues_set : (v : View) (due j : ℕ) → IsFair v → due_of j (with_timer due v.timers).set ≡ with_at v.timers.next (Some due) (λ j. due_of j v.timers.set) j
dues_set v due j fair = due_set due j 0 v.timers.next v.timers.set fair.order

new_or_old : (i j : ℕ) (f : ℕ → Option ℕ) (x due : ℕ) → with_at i (Some x) f j ≡ Some due → (f j ≡ Some due) ⊎ ((x ≡ due) × (i ≤ j))
new_or_old i j f x due e = grind (arith, nat_tests)

pub goes_set : (v : View) (due : ℕ) → v.now < due → IsFair v → GoesOn v (record v { timers = with_timer due v.timers })
goes_set v due lt fair = record {
  fair = fair_set v due fair;
  now = refl;
  timer = more v.timers.next;
  ticket = le_refl v.ticket;
  place = le_refl v.place;
  later = λ j d e. elim (new_or_old v.timers.next j (λ j. due_of j v.timers.set) due d (sym (dues_set v due j fair) ∙ e)) [ inl f ↦ inl f | inr f ↦ inr (subst (λ d. v.now < d) f.0 lt, f.1) ];
}
  where
    more : (n : ℕ) → n ≤ n + 1
    more n = omega arith

-- a timer of the next number is not set yet
pub none_next : (v : View) (i : ℕ) → IsFair v → v.timers.next ≤ i → due_of i v.timers.set ≡ None
none_next v i fair le = unset_above 0 v.timers.next i v.timers.set le fair.order

-- Nothing was done.
module _ {c : Conf} (P : ServerPart c) (s : ℕ) {U : Type 0} (Tied : Phase → U → Sight → P.State → Type 0) (names : U → ℕ → Option ℕ) (Owns : U → ℕ → Type 0) where
  pub nothing_done : (u : U) (v : View) (a : P.State) (phase : Phase) → IsFair v → Tied phase u (sight v) a → Leaves P Tied names Owns (Chain P s v.place a) (names u) u v phase u v
  nothing_done u v a phase fair tied = record {
    made = still v.place a;
    may = Stays v.place a;
    outs = sym (append-nil v.outs);
    place = refl;
    board = [];
    put = sym (append-nil v.board);
    gives = λ t. refl;
    tied = tied;
    goes_on = goes_nowhere v fair;
    owned = λ i o. inl o;
    others = λ i due n e. e;
  }
