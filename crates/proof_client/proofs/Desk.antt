-- The tables of the client beside those of the machine: who waits under which ticket, and until when.
use Rattle.std.proofs.Common.{◌≡◌, ℕ, suc, ◌+◌, ◌<◌, ◌⊎◌, inl, inr, Option, Some, None, refl, sym, ap, subst, ◌∙◌, arith}
use Rattle.client_steps.specs.declared.asked.Waiting.{Waiting}
use Rattle.proof_right.specs.machine.Client.{Waiting as Held}
use Rattle.right_trace.specs.Updates.{with_at}
use Rattle.proof_parts.specs.ClientTie.{WereTried}
use Rattle.std.proofs.lemmas.Bool.Decides.{nat_tests}

module _ {A : Type 0} where
  pub at_it : (k : ℕ) (v : Option A) (f : ℕ → Option A) → with_at k v f k ≡ v
  at_it k v f = grind (arith, nat_tests)

  pub at_other : (k : ℕ) (v : Option A) (f : ℕ → Option A) (j : ℕ) → (k ≡ j → ⊥) → with_at k v f j ≡ f j
  at_other k v f j ne = grind (arith, nat_tests)

  -- what is there once an entry is gone was there before, elsewhere
  pub was_there : (k : ℕ) (f : ℕ → Option A) (j : ℕ) (b : A) → with_at k None f j ≡ Some b → (k ≡ j → ⊥) × (f j ≡ Some b)
  was_there k f j b e = grind (arith, nat_tests)

  -- what is there once an entry is put is that, or was there before
  pub is_or_was : (k : ℕ) (v : A) (f : ℕ → Option A) (j : ℕ) (b : A) → with_at k (Some v) f j ≡ Some b → ((k ≡ j) × (v ≡ b)) ⊎ ((k ≡ j → ⊥) × (f j ≡ Some b))
  is_or_was k v f j b e = grind (arith, nat_tests)

  pub both_are : (o : Option A) (a b : A) → o ≡ Some a → o ≡ Some b → a ≡ b
  both_are o a b p q = cc

  pub none_is : (o : Option A) (a : A) → o ≡ None → o ≡ Some a → ⊥
  none_is o a p q = cc

pub as_before : (f : ℕ → Option Held) → WereTried f f
as_before f k b e = (b, e, refl)

-- Tables as functions: the requests that wait by ticket, the ticket of each deadline, the number of each ticket's request at the transport, the machine's requests by number, and when each timer is due.
pub record Desk (P : Type 0) : Type 0 where
  pub waiting : ℕ → Option (Waiting P)
  pub deadlines : ℕ → Option ℕ
  pub names : ℕ → Option ℕ
  pub held : ℕ → Option Held
  pub dues : ℕ → Option ℕ

module _ {P : Type 0} (timeout : ℕ) (IsFor : (ticket : ℕ) → P → Type 0) where
  -- A request waits under ticket i. Its timer is set; and if the machine tries it still, the timer is due at its timeout.
  pub record IsKept (next : ℕ) (d : Desk P) (i : ℕ) (w : Waiting P) : Type 0 where
    pub response : IsFor i w.response
    pub named : d.names i ≡ Some w.number
    pub deadline : d.deadlines w.timer ≡ Some i
    pub due : ℕ
    pub set : d.dues w.timer ≡ Some due
    pub timely : (a : Held) → d.held w.number ≡ Some a → due ≡ a.moment + timeout
    pub small : w.number < next

  pub record AreKept (next : ℕ) (d : Desk P) : Type 0 where
    pub kept : (i : ℕ) (w : Waiting P) → d.waiting i ≡ Some w → IsKept next d i w
    pub named : (i k : ℕ) → d.names i ≡ Some k → (w : Waiting P) × (d.waiting i ≡ Some w) × (w.number ≡ k)
    pub late : (t i : ℕ) → d.deadlines t ≡ Some i → (w : Waiting P) × (d.waiting i ≡ Some w) × (w.timer ≡ t)

  -- without the request of ticket i
  abbrev pub without : ℕ → Waiting P → Desk P → Desk P
  without i w d = record { waiting = with_at i None d.waiting; deadlines = with_at w.timer None d.deadlines; names = with_at i None d.names; held = d.held; dues = with_at w.timer None d.dues }

  pub one_goes : (next : ℕ) (d : Desk P) (i : ℕ) (w : Waiting P) → AreKept next d → d.waiting i ≡ Some w → AreKept next (without i w d)
  one_goes next d i w k is = record {
    kept = λ j x e. stays j x (was_there i d.waiting j x e);
    named = λ j n e. (let f = was_there i d.names j n e in let g = k.named j n f.1 in (g.0, at_other i None d.waiting j f.0 ∙ g.1, g.2));
    late = λ t j e. (let f = was_there w.timer d.deadlines t j e in let g = k.late t j f.1 in (g.0, at_other i None d.waiting j (λ same. f.0 (ap (λ (x : Waiting P). x.timer) (both_are (d.waiting j) w g.0 (subst (λ j. d.waiting j ≡ Some w) same is) g.1) ∙ g.2)) ∙ g.1, g.2));
  }
    where
      mine : IsKept next d i w
      mine = k.kept i w is

      stays : (j : ℕ) (x : Waiting P) → (i ≡ j → ⊥) × (d.waiting j ≡ Some x) → IsKept next (without i w d) j x
      stays j x f = record {
        response = f'.response;
        named = at_other i None d.names j f.0 ∙ f'.named;
        deadline = at_other w.timer None d.deadlines x.timer timers ∙ f'.deadline;
        due = f'.due;
        set = at_other w.timer None d.dues x.timer timers ∙ f'.set;
        timely = f'.timely;
        small = f'.small;
      }
        where
          f' : IsKept next d j x
          f' = k.kept j x f.1

          timers : w.timer ≡ x.timer → ⊥
          timers same = f.0 (both_are (d.deadlines x.timer) i j (subst (λ t. d.deadlines t ≡ Some i) same mine.deadline) f'.deadline)

  -- with one more request, of the next number
  abbrev pub and_one : ℕ → Waiting P → Held → Desk P → Desk P
  and_one i w a d = record { waiting = with_at i (Some w) d.waiting; deadlines = with_at w.timer (Some i) d.deadlines; names = with_at i (Some w.number) d.names; held = with_at w.number (Some a) d.held; dues = with_at w.timer (Some (a.moment + timeout)) d.dues }

  pub one_comes : (next : ℕ) (d : Desk P) (i : ℕ) (w : Waiting P) (a : Held) → AreKept next d → w.number ≡ next → d.waiting i ≡ None → d.deadlines w.timer ≡ None → IsFor i w.response → AreKept (suc next) (and_one i w a d)
  one_comes next d i w a k new no_request no_deadline for = record {
    kept = λ j x e. elim (is_or_was i w d.waiting j x e) [ inl f ↦ subst (λ j. IsKept (suc next) d' j x) f.0 (subst (IsKept (suc next) d' i) f.1 here) | inr f ↦ stays j x f ];
    named = λ j n e. elim (is_or_was i w.number d.names j n e) [
      | inl f ↦ (w, subst (λ j. with_at i (Some w) d.waiting j ≡ Some w) f.0 (at_it i (Some w) d.waiting), f.1)
      | inr f ↦ (let g = k.named j n f.1 in (g.0, at_other i (Some w) d.waiting j f.0 ∙ g.1, g.2))
    ];
    late = λ t j e. elim (is_or_was w.timer i d.deadlines t j e) [
      | inl f ↦ (w, subst (λ j. with_at i (Some w) d.waiting j ≡ Some w) f.1 (at_it i (Some w) d.waiting), f.0)
      | inr f ↦ (let g = k.late t j f.1 in (g.0, at_other i (Some w) d.waiting j (other j g.0 g.1) ∙ g.1, g.2))
    ];
  }
    where
      d' : Desk P
      d' = and_one i w a d

      other : (j : ℕ) (x : Waiting P) → d.waiting j ≡ Some x → i ≡ j → ⊥
      other j x e same = none_is (d.waiting j) x (subst (λ j. d.waiting j ≡ None) same no_request) e

      here : IsKept (suc next) d' i w
      here = record {
        response = for;
        named = at_it i (Some w.number) d.names;
        deadline = at_it w.timer (Some i) d.deadlines;
        due = a.moment + timeout;
        set = at_it w.timer (Some (a.moment + timeout)) d.dues;
        timely = λ b e. ap (λ (b : Held). b.moment + timeout) (both_are (with_at w.number (Some a) d.held w.number) a b (at_it w.number (Some a) d.held) e);
        small = below w.number next new;
      }
        where
          below : (a b : ℕ) → a ≡ b → a < suc b
          below a b e = omega arith

      stays : (j : ℕ) (x : Waiting P) → (i ≡ j → ⊥) × (d.waiting j ≡ Some x) → IsKept (suc next) d' j x
      stays j x f = record {
        response = f'.response;
        named = at_other i (Some w.number) d.names j f.0 ∙ f'.named;
        deadline = at_other w.timer (Some i) d.deadlines x.timer timers ∙ f'.deadline;
        due = f'.due;
        set = at_other w.timer (Some (a.moment + timeout)) d.dues x.timer timers ∙ f'.set;
        timely = λ b e. elim (is_or_was w.number a d.held x.number b e) [ inl p ↦ absurd (not_below x.number next f'.small (sym p.0 ∙ new)) | inr p ↦ f'.timely b p.1 ];
        small = more x.number next f'.small;
      }
        where
          more : (a b : ℕ) → a < b → a < suc b
          more a b lt = omega arith

          not_below : (a b : ℕ) → a < b → a ≡ b → ⊥
          not_below a b lt e = omega arith

          f' : IsKept next d j x
          f' = k.kept j x f.1

          timers : w.timer ≡ x.timer → ⊥
          timers same = none_is (d.deadlines x.timer) j (subst (λ t. d.deadlines t ≡ None) same no_deadline) f'.deadline

  -- other moments at which timers are due, but those of the deadlines; and fewer that are tried, since when they were
  pub go_on : (next : ℕ) (d : Desk P) (dues : ℕ → Option ℕ) (held : ℕ → Option Held) → AreKept next d → ((t i due : ℕ) → d.deadlines t ≡ Some i → d.dues t ≡ Some due → dues t ≡ Some due) → WereTried d.held held → AreKept next (record d { dues = dues; held = held })
  go_on next d dues held k same tried = record {
    kept = λ i w e. (let f = k.kept i w e in record {
      response = f.response;
      named = f.named;
      deadline = f.deadline;
      due = f.due;
      set = same w.timer i f.due f.deadline f.set;
      timely = λ b h. (let m = tried w.number b h in f.timely m.0 m.1 ∙ ap (λ n. n + timeout) (sym m.2));
      small = f.small;
    });
    named = k.named;
    late = k.late;
  }

  -- the same tables, written otherwise
  pub kept_so : (next : ℕ) (names : ℕ → Option ℕ) (w w' : ℕ → Option (Waiting P)) (d d' : ℕ → Option ℕ) (h h' : ℕ → Option Held) (s s' : ℕ → Option ℕ) → w' ≡ w → d' ≡ d → h' ≡ h → s' ≡ s
      → AreKept next (record { waiting = w; deadlines = d; names = names; held = h; dues = s }) → AreKept next (record { waiting = w'; deadlines = d'; names = names; held = h'; dues = s' })
  kept_so next names w w' d d' h h' s s' ws ds hs ss k =
      subst (λ w. AreKept next (record { waiting = w; deadlines = d'; names = names; held = h'; dues = s' })) (sym ws)
      (subst (λ d. AreKept next (record { waiting = w; deadlines = d; names = names; held = h'; dues = s' })) (sym ds)
      (subst (λ h. AreKept next (record { waiting = w; deadlines = d; names = names; held = h; dues = s' })) (sym hs)
      (subst (λ s. AreKept next (record { waiting = w; deadlines = d; names = names; held = h; dues = s })) (sym ss) k)))

-- what stands for each result is something else
pub stand_for : {P : Type 0} (timeout : ℕ) (A B : (ticket : ℕ) → P → Type 0) (next : ℕ) (d : Desk P) → AreKept timeout A next d → ((i : ℕ) (w : Waiting P) → d.waiting i ≡ Some w → A i w.response → B i w.response) → AreKept timeout B next d
stand_for timeout A B next d k on = record {
  kept = λ i w e. (let f = k.kept i w e in record { response = on i w e f.response; named = f.named; deadline = f.deadline; due = f.due; set = f.set; timely = f.timely; small = f.small });
  named = k.named;
  late = k.late;
}
