-- What holds of the client of one server between two moves: slots, the queue, and who is held.
use Rattle.proof_right.proofs.Received.{places_on}
use Rattle.right_trace.specs.Trace.{Conf}
use Rattle.right_trace.specs.Time.{max_places}
use Rattle.std.proofs.Common.{◌≡◌, ◌≢◌, ℕ, suc, ◌<◌, ◌≤◌, Bool, true, false, ◌⊎◌, inl, inr, Option, Some, None, List, [], ◌∷◌, ◌++◌, refl, arith, sym, ap, subst, ◌∙◌, ◌==◌}
use Rattle.std.specs.Prelude.{if◌then◌else◌}
use Rattle.std.proofs.lemmas.Bool.Decides.{nat_tests}
use Rattle.std.proofs.lemmas.Bool.{cases_eq}
use Rattle.client_request.specs.Request.{Request}
use Rattle.client_request.specs.Carries.{IsOfOctets}
use Rattle.right_trace.specs.Parts.{IsIn}
use Rattle.proof_right.specs.machine.Single.{Stage, Queued, Loose, Trying, Sent, Held, State, staged, loosen, try, forget, lose, put_back, give_held, give_to, give, remove, line_up, admit, newcomer, dispatch, dispatched}
use Rattle.right_trace.specs.Updates.{with_at}

abbrev pub placed : Stage → Option ℕ
placed (Trying p) = Some p
placed (Sent p id t) = Some p
placed _ = None

abbrev pub Distinct : List ℕ → Type 0
Distinct [] = Unit {0}
Distinct (x ∷ xs) = (IsIn x xs → ⊥) × Distinct xs

pub record Standing (c : Conf) (servers : ℕ) (s : State) : Type 0 where
  pub slots : (p k : ℕ) → s.at p ≡ Some k → (a : Held) × (s.held k ≡ Some a) × (placed a.stage ≡ Some p)
  pub few : s.used ≤ max_places c
  pub lined : (k : ℕ) (a : Held) → s.held k ≡ Some a → a.stage ≡ Queued → IsIn k s.queue
  pub queued : (k : ℕ) → IsIn k s.queue → (a : Held) × (s.held k ≡ Some a) × (a.stage ≡ Queued)
  pub distinct : Distinct s.queue
  pub full : (k : ℕ) → IsIn k s.queue → s.used ≡ max_places c
  pub unasked : (k : ℕ) → s.asked ≤ k → s.held k ≡ None
  pub octets : (k : ℕ) (a : Held) → s.held k ≡ Some a → IsOfOctets a.request
  pub some : (k : ℕ) (a : Held) → s.held k ≡ Some a → 0 < servers
  pub settled : (k : ℕ) (a : Held) → s.held k ≡ Some a → a.stage ≢ Loose

module _ {V : Type 0} where
  pub here : (k : ℕ) (v : Option V) (f : ℕ → Option V) → with_at k v f k ≡ v
  here k v f = grind (arith, nat_tests)

  pub there : (k j : ℕ) (v : Option V) (f : ℕ → Option V) → k ≢ j → with_at k v f j ≡ f j
  there k j v f ne = grind (arith, nat_tests)

  was_at : (k : ℕ) (v : V) (f : ℕ → Option V) (j : ℕ) (b : V) → with_at k (Some v) f j ≡ Some b → ((k ≡ j) × (v ≡ b)) ⊎ ((k ≢ j) × (f j ≡ Some b))
  was_at k v f j b e = grind (arith, nat_tests)

  was_left : (k : ℕ) (f : ℕ → Option V) (j : ℕ) (b : V) → with_at k None f j ≡ Some b → (k ≢ j) × (f j ≡ Some b)
  was_left k f j b e = grind (arith, nat_tests)

sent_fixed : (p id t : ℕ) → Sent p id t ≢ Loose
sent_fixed p id t = λ e. cc

queued_fixed : Queued ≢ Loose
queued_fixed e = cc

trying_fixed : (p : ℕ) → Trying p ≢ Loose
trying_fixed p = λ e. cc

one_of : (k : ℕ) (a b : Held) (s : State) → s.held k ≡ Some a → s.held k ≡ Some b → a ≡ b
one_of k a b s x y = (let z : Some a ≡ Some b = sym x ∙ y in cc)

module _ (c : Conf) (n : ℕ) (s : State) (inv : Standing c n s) where
  -- who has a place is not queued
  not_in_queue : (k : ℕ) (a : Held) (p : ℕ) → s.held k ≡ Some a → placed a.stage ≡ Some p → IsIn k s.queue → ⊥
  not_in_queue k a p held at i = (let q = inv.queued k i in let same : a ≡ q.0 = one_of k a q.0 s held q.1 in let z : placed Queued ≡ Some p = ap placed (sym q.2) ∙ (ap (λ (a : Held). placed a.stage) (sym same) ∙ at) in cc)

  -- a place is no more, and its request is gone
  pub loses : (p k : ℕ) (a : Held) → s.held k ≡ Some a → placed a.stage ≡ Some p → s.queue ≡ [] → Standing c n (lose p k s)
  loses p k a held at none = record {
    slots = λ q j e. (let b = was_left p s.at q j e in let g = inv.slots q j b.1 in (g.0, (there k j None s.held (λ is. b.0 (let same : a ≡ g.0 = one_of j a g.0 s (ap s.held (sym is) ∙ held) g.1 in let z : Some p ≡ Some q = sym at ∙ (ap (λ (a : Held). placed a.stage) same ∙ g.2) in cc)) ∙ g.1), g.2));
    few = (let f = inv.few in omega arith);
    lined = λ j b e st. (let w = was_left k s.held j b e in inv.lined j b w.1 st);
    queued = λ j i. absurd (subst (IsIn j) none i);
    distinct = inv.distinct;
    full = λ j i. absurd (subst (IsIn j) none i);
    unasked = λ j le. left j (inv.unasked j le);
    octets = λ j b e. inv.octets j b (was_left k s.held j b e).1;
    some = λ j b e. inv.some j b (was_left k s.held j b e).1;
    settled = λ j b e. inv.settled j b (was_left k s.held j b e).1;
  }
    where
      left : (j : ℕ) → s.held j ≡ None → with_at k None s.held j ≡ None
      left j e = grind (arith, nat_tests)

  -- and the request that waits longest takes the next place
  pub passes : (p k : ℕ) (a : Held) (j : ℕ) (b : Held) (q : List ℕ) → s.held k ≡ Some a → placed a.stage ≡ Some p → s.queue ≡ j ∷ q → s.held j ≡ Some b → b.stage ≡ Queued → (k ≢ j) × Standing c n (try j b (put_back q (lose p k s)))
  passes p k a j b q held at is held' stage = (
    ne,
    record {
      slots = λ r i e. elim (was_at s.opened j (with_at p None s.at) r i e) [
        | inl w ↦ (staged b (Trying s.opened), subst (λ i. with_at j (Some (staged b (Trying s.opened))) (with_at k None s.held) i ≡ Some (staged b (Trying s.opened))) w.1 (here j (Some (staged b (Trying s.opened))) (with_at k None s.held)), ap Some w.0)
        | inr w ↦
            (let v = was_left p s.at r i w.1 in
            let g = inv.slots r i v.1 in
            let not_k : k ≢ i = λ e. v.0 (let same : a ≡ g.0 = one_of i a g.0 s (ap s.held (sym e) ∙ held) g.1 in let z : Some p ≡ Some r = sym at ∙ (ap (λ (a : Held). placed a.stage) same ∙ g.2) in cc) in
            let not_j : j ≢ i = λ e. (let same : b ≡ g.0 = one_of i b g.0 s (ap s.held (sym e) ∙ held') g.1 in let z : placed Queued ≡ Some r = ap placed (sym stage) ∙ (ap (λ (a : Held). placed a.stage) same ∙ g.2) in cc) in
            (g.0, there j i (Some (staged b (Trying s.opened))) (with_at k None s.held) not_j ∙ (there k i None s.held not_k ∙ g.1), g.2))
      ];
      few = (let f = inv.few in let pos = places_on c in omega (arith, pos));
      lined = λ i h e st. elim (was_at j (staged b (Trying s.opened)) (with_at k None s.held) i h e) [
        | inl w ↦ absurd (let z : Trying s.opened ≡ Queued = ap (λ (a : Held). a.stage) w.1 ∙ st in cc)
        | inr w ↦ (let v = was_left k s.held i h w.1 in in_rest i w.0 (subst (IsIn i) is (inv.lined i h v.1 st)))
      ];
      queued = λ i l. (let g = inv.queued i (subst (IsIn i) (sym is) (inr l)) in (g.0, there j i (Some (staged b (Trying s.opened))) (with_at k None s.held) (λ e. dis.0 (subst (λ i. IsIn i q) (sym e) l)) ∙ (there k i None s.held (λ e. not_in_queue k a p held at (subst (λ k. IsIn k s.queue) (sym e) (subst (IsIn i) (sym is) (inr l)))) ∙ g.1), g.2));
      distinct = dis.1;
      full = λ i l. (let f = inv.full j (subst (IsIn j) (sym is) (inl refl)) in let pos = places_on c in omega (arith, pos));
      unasked = λ i le. none i le;
      octets = λ i h e. elim (was_at j (staged b (Trying s.opened)) (with_at k None s.held) i h e) [ inl w ↦ subst (λ (h : Held). IsOfOctets h.request) w.1 (inv.octets j b held') | inr w ↦ inv.octets i h (was_left k s.held i h w.1).1 ];
      some = λ i h e. inv.some j b held';
      settled = λ i h e. elim (was_at j (staged b (Trying s.opened)) (with_at k None s.held) i h e) [ inl w ↦ subst (λ (h : Held). h.stage ≢ Loose) w.1 (trying_fixed s.opened) | inr w ↦ inv.settled i h (was_left k s.held i h w.1).1 ];
    },
  )
    where
      dis : (IsIn j q → ⊥) × Distinct q
      dis = subst Distinct is inv.distinct

      ne : k ≢ j
      ne e = not_in_queue k a p held at (subst (λ k. IsIn k s.queue) (sym e) (subst (IsIn j) (sym is) (inl refl)))

      in_rest : (i : ℕ) → j ≢ i → IsIn i (j ∷ q) → IsIn i q
      in_rest i n (inl e) = absurd (n e)
      in_rest i n (inr l) = l

      none : (i : ℕ) → s.asked ≤ i → with_at j (Some (staged b (Trying s.opened))) (with_at k None s.held) i ≡ None
      none i le = (let u = inv.unasked i le in let not_j : j ≢ i = λ e. (let z = sym u ∙ (ap s.held (sym e) ∙ held') in cc) in there j i (Some (staged b (Trying s.opened))) (with_at k None s.held) not_j ∙ left i u)
        where
          left : (i : ℕ) → s.held i ≡ None → with_at k None s.held i ≡ None
          left i e = grind (arith, nat_tests)

  -- a place is given up for the next
  pub retries : (p k : ℕ) (a : Held) → s.held k ≡ Some a → placed a.stage ≡ Some p → Standing c n (try k a (loosen p k a s))
  retries p k a held at = record {
    slots = λ r i e. elim (was_at s.opened k (with_at p None s.at) r i e) [
      | inl w ↦ (staged a (Trying s.opened), subst (λ i. with_at k (Some (staged a (Trying s.opened))) (with_at k (Some (staged a Loose)) s.held) i ≡ Some (staged a (Trying s.opened))) w.1 (here k (Some (staged a (Trying s.opened))) (with_at k (Some (staged a Loose)) s.held)), ap Some w.0)
      | inr w ↦
          (let v = was_left p s.at r i w.1 in
          let g = inv.slots r i v.1 in
          let not_k : k ≢ i = λ e. v.0 (let same : a ≡ g.0 = one_of i a g.0 s (ap s.held (sym e) ∙ held) g.1 in let z : Some p ≡ Some r = sym at ∙ (ap (λ (a : Held). placed a.stage) same ∙ g.2) in cc) in
          (g.0, there k i (Some (staged a (Trying s.opened))) (with_at k (Some (staged a Loose)) s.held) not_k ∙ (there k i (Some (staged a Loose)) s.held not_k ∙ g.1), g.2))
    ];
    few = (let f = inv.few in let pos = places_on c in omega (arith, pos));
    lined = λ i h e st. elim (twice i h e) [ inl w ↦ absurd (let z : Trying s.opened ≡ Queued = ap (λ (a : Held). a.stage) w.1 ∙ st in cc) | inr w ↦ inv.lined i h w.1 st ];
    queued = λ i l. (let g = inv.queued i l in let not_k : k ≢ i = λ e. not_in_queue k a p held at (subst (λ k. IsIn k s.queue) (sym e) l) in (g.0, there k i (Some (staged a (Trying s.opened))) (with_at k (Some (staged a Loose)) s.held) not_k ∙ (there k i (Some (staged a Loose)) s.held not_k ∙ g.1), g.2));
    distinct = inv.distinct;
    full = λ i l. (let f = inv.full i l in let pos = places_on c in omega (arith, pos));
    unasked = λ i le. (let u = inv.unasked i le in let not_k : k ≢ i = λ e. (let z = sym u ∙ (ap s.held (sym e) ∙ held) in cc) in there k i (Some (staged a (Trying s.opened))) (with_at k (Some (staged a Loose)) s.held) not_k ∙ (there k i (Some (staged a Loose)) s.held not_k ∙ u));
    octets = λ i h e. elim (twice i h e) [ inl w ↦ subst (λ (h : Held). IsOfOctets h.request) w.1 (inv.octets k a held) | inr w ↦ inv.octets i h w.1 ];
    some = λ i h e. inv.some k a held;
    settled = λ i h e. elim (twice i h e) [ inl w ↦ subst (λ (h : Held). h.stage ≢ Loose) w.1 (trying_fixed s.opened) | inr w ↦ inv.settled i h w.1 ];
  }
    where
      twice : (i : ℕ) (h : Held) → with_at k (Some (staged a (Trying s.opened))) (with_at k (Some (staged a Loose)) s.held) i ≡ Some h → ((k ≡ i) × (staged a (Trying s.opened) ≡ h)) ⊎ ((k ≢ i) × (s.held i ≡ Some h))
      twice i h e = elim (was_at k (staged a (Trying s.opened)) (with_at k (Some (staged a Loose)) s.held) i h e) [ inl w ↦ inl w | inr w ↦ inr (w.0, sym (there k i (Some (staged a Loose)) s.held w.0) ∙ w.1) ]

  -- a request that waits for a slot is gone
  pub leaves_queue : (k : ℕ) (a : Held) → s.held k ≡ Some a → a.stage ≡ Queued → Standing c n (put_back (remove k s.queue) (forget k s))
  leaves_queue k a held stage = record {
    slots = λ q j e. (let g = inv.slots q j e in (g.0, there k j None s.held (λ is. (let same : a ≡ g.0 = one_of j a g.0 s (ap s.held (sym is) ∙ held) g.1 in let z : placed Queued ≡ Some q = ap placed (sym stage) ∙ (ap (λ (a : Held). placed a.stage) same ∙ g.2) in cc)) ∙ g.1, g.2));
    few = inv.few;
    lined = λ j b e st. (let w = was_left k s.held j b e in others k j s.queue w.0 (inv.lined j b w.1 st));
    queued = λ j i. (let g = inv.queued j (still k j s.queue i) in (g.0, there k j None s.held (λ e. gone k s.queue inv.distinct (subst (λ j. IsIn j (remove k s.queue)) (sym e) i)) ∙ g.1, g.2));
    distinct = fewer k s.queue inv.distinct;
    full = λ j i. inv.full j (still k j s.queue i);
    unasked = λ j le. left j (inv.unasked j le);
    octets = λ j b e. inv.octets j b (was_left k s.held j b e).1;
    some = λ j b e. inv.some j b (was_left k s.held j b e).1;
    settled = λ j b e. inv.settled j b (was_left k s.held j b e).1;
  }
    where
      left : (j : ℕ) → s.held j ≡ None → with_at k None s.held j ≡ None
      left j e = grind (arith, nat_tests)

      still : (k j : ℕ) (xs : List ℕ) → IsIn j (remove k xs) → IsIn j xs
      still k j [] i = i
      still k j (x ∷ xs) i = go (x == k) (λ i. still k j xs i) i
        where
          go : (b : Bool) → (IsIn j (remove k xs) → IsIn j xs) → IsIn j (if b then xs else x ∷ remove k xs) → IsIn j (x ∷ xs)
          go true ih i = inr i
          go false ih (inl e) = inl e
          go false ih (inr i) = inr (ih i)

      others : (k j : ℕ) (xs : List ℕ) → k ≢ j → IsIn j xs → IsIn j (remove k xs)
      others k j [] ne i = i
      others k j (x ∷ xs) ne i = go (x == k) refl (λ i. others k j xs ne i) i
        where
          go : (b : Bool) → (x == k) ≡ b → (IsIn j xs → IsIn j (remove k xs)) → IsIn j (x ∷ xs) → IsIn j (if b then xs else x ∷ remove k xs)
          go true e ih (inl is) = absurd (ne (let z : x ≡ k = grind (arith, nat_tests) in sym z ∙ is))
          go true e ih (inr i) = i
          go false e ih (inl is) = inl is
          go false e ih (inr i) = inr (ih i)

      gone : (k : ℕ) (xs : List ℕ) → Distinct xs → IsIn k (remove k xs) → ⊥
      gone k [] d i = i
      gone k (x ∷ xs) d i = go (x == k) refl (λ i. gone k xs d.1 i) i
        where
          go : (b : Bool) → (x == k) ≡ b → (IsIn k (remove k xs) → ⊥) → IsIn k (if b then xs else x ∷ remove k xs) → ⊥
          go true e ih i = d.0 (subst (λ y. IsIn y xs) (let z : x ≡ k = grind (arith, nat_tests) in sym z) i)
          go false e ih (inl is) = (let z : (x == k) ≡ true = grind (arith, nat_tests) in let y : true ≡ false = sym z ∙ e in cc)
          go false e ih (inr i) = ih i

      fewer : (k : ℕ) (xs : List ℕ) → Distinct xs → Distinct (remove k xs)
      fewer k [] d = d
      fewer k (x ∷ xs) d = go (x == k) (fewer k xs d.1)
        where
          go : (b : Bool) → Distinct (remove k xs) → Distinct (if b then xs else x ∷ remove k xs)
          go true ih = d.1
          go false ih = (λ i. d.0 (still k x xs i), ih)

  -- a request is sent at its place
  pub dispatches : (p id k : ℕ) (a : Held) → s.held k ≡ Some a → a.stage ≡ Trying p → Standing c n (dispatch p k id a s)
  dispatches p id k a held stage = record {
    slots = λ q j e. (let g = inv.slots q j e in elim (cases_eq k j) [
      | inl is ↦
          (let same : a ≡ g.0 = one_of j a g.0 s (ap s.held (sym is) ∙ held) g.1 in
          let z : Some p ≡ Some q = ap placed (sym stage) ∙ (ap (λ (a : Held). placed a.stage) same ∙ g.2) in
          (dispatched p id a s.now, subst (λ j. with_at k (Some (dispatched p id a s.now)) s.held j ≡ Some (dispatched p id a s.now)) is (here k (Some (dispatched p id a s.now)) s.held), z))
      | inr ne ↦ (g.0, there k j (Some (dispatched p id a s.now)) s.held ne ∙ g.1, g.2)
    ]);
    few = inv.few;
    lined = λ j b e st. elim (was_at k (dispatched p id a s.now) s.held j b e) [ inl w ↦ absurd (let z : Sent p id s.now ≡ Queued = ap (λ (a : Held). a.stage) w.1 ∙ st in cc) | inr w ↦ inv.lined j b w.1 st ];
    queued = λ j i. (let g = inv.queued j i in (g.0, there k j (Some (dispatched p id a s.now)) s.held (λ e. not_in_queue k a p held (ap placed stage) (subst (λ k. IsIn k s.queue) (sym e) i)) ∙ g.1, g.2));
    distinct = inv.distinct;
    full = inv.full;
    unasked = λ j le. (let u = inv.unasked j le in there k j (Some (dispatched p id a s.now)) s.held (λ e. (let z = sym u ∙ (ap s.held (sym e) ∙ held) in cc)) ∙ u);
    octets = λ j b e. elim (was_at k (dispatched p id a s.now) s.held j b e) [ inl w ↦ subst (λ (h : Held). IsOfOctets h.request) w.1 (inv.octets k a held) | inr w ↦ inv.octets j b w.1 ];
    some = λ j b e. inv.some k a held;
    settled = λ j b e. elim (was_at k (dispatched p id a s.now) s.held j b e) [ inl w ↦ subst (λ (h : Held). h.stage ≢ Loose) w.1 (sent_fixed p id s.now) | inr w ↦ inv.settled j b w.1 ];
  }

  -- a new request takes a place
  pub enters : (r : Request) → IsOfOctets r → 0 < n → s.used < max_places c → Standing c n (try s.asked (newcomer r s) (admit r s))
  enters r octets has free = record {
    slots = λ q j e. elim (was_at s.opened s.asked s.at q j e) [
      | inl w ↦ (staged (newcomer r s) (Trying s.opened), subst (λ j. with_at s.asked (Some (staged (newcomer r s) (Trying s.opened))) (with_at s.asked (Some (newcomer r s)) s.held) j ≡ Some (staged (newcomer r s) (Trying s.opened))) w.1 (here s.asked (Some (staged (newcomer r s) (Trying s.opened))) (with_at s.asked (Some (newcomer r s)) s.held)), ap Some w.0)
      | inr w ↦ (let g = inv.slots q j w.1 in (g.0, away j (λ e. new j g.0 e g.1) ∙ g.1, g.2))
    ];
    few = omega arith;
    lined = λ i h e st. elim (twice i h e) [ inl w ↦ absurd (let z : Trying s.opened ≡ Queued = ap (λ (a : Held). a.stage) w.1 ∙ st in cc) | inr w ↦ inv.lined i h w.1 st ];
    queued = λ i l. (let g = inv.queued i l in (g.0, away i (λ e. new i g.0 e g.1) ∙ g.1, g.2));
    distinct = inv.distinct;
    full = λ i l. absurd (let f = inv.full i l in omega arith);
    unasked = λ i le. away i (λ e. omega arith) ∙ inv.unasked i (omega arith);
    octets = λ i h e. elim (twice i h e) [ inl w ↦ subst (λ (h : Held). IsOfOctets h.request) w.1 octets | inr w ↦ inv.octets i h w.1 ];
    some = λ i h e. has;
    settled = λ i h e. elim (twice i h e) [ inl w ↦ subst (λ (h : Held). h.stage ≢ Loose) w.1 (trying_fixed s.opened) | inr w ↦ inv.settled i h w.1 ];
  }
    where
      new : (j : ℕ) (b : Held) → s.asked ≡ j → s.held j ≡ Some b → ⊥
      new j b e h = (let z = sym (inv.unasked j (omega arith)) ∙ h in cc)

      away : (j : ℕ) → s.asked ≢ j → with_at s.asked (Some (staged (newcomer r s) (Trying s.opened))) (with_at s.asked (Some (newcomer r s)) s.held) j ≡ s.held j
      away j ne = there s.asked j (Some (staged (newcomer r s) (Trying s.opened))) (with_at s.asked (Some (newcomer r s)) s.held) ne ∙ there s.asked j (Some (newcomer r s)) s.held ne

      twice : (i : ℕ) (h : Held) → with_at s.asked (Some (staged (newcomer r s) (Trying s.opened))) (with_at s.asked (Some (newcomer r s)) s.held) i ≡ Some h → ((s.asked ≡ i) × (staged (newcomer r s) (Trying s.opened) ≡ h)) ⊎ ((s.asked ≢ i) × (s.held i ≡ Some h))
      twice i h e = elim (was_at s.asked (staged (newcomer r s) (Trying s.opened)) (with_at s.asked (Some (newcomer r s)) s.held) i h e) [ inl w ↦ inl w | inr w ↦ inr (w.0, sym (there s.asked i (Some (newcomer r s)) s.held w.0) ∙ w.1) ]

  -- or it is lined up
  pub lines_up : (r : Request) → IsOfOctets r → 0 < n → max_places c ≤ s.used → Standing c n (line_up s.asked (newcomer r s) (admit r s))
  lines_up r octets has taken = record {
    slots = λ q j e. (let g = inv.slots q j e in (g.0, away j (λ e. new j g.0 e g.1) ∙ g.1, g.2));
    few = inv.few;
    lined = λ i h e st. elim (twice i h e) [ inl w ↦ at_end i s.queue w.0 | inr w ↦ in_front i s.queue (inv.lined i h w.1 st) ];
    queued = λ i l. elim (in_either i s.queue l) [
      | inl m ↦ (let g = inv.queued i m in (g.0, away i (λ e. new i g.0 e g.1) ∙ g.1, g.2))
      | inr m ↦ (staged (newcomer r s) Queued, subst (λ j. with_at s.asked (Some (staged (newcomer r s) Queued)) (with_at s.asked (Some (newcomer r s)) s.held) j ≡ Some (staged (newcomer r s) Queued)) m (here s.asked (Some (staged (newcomer r s) Queued)) (with_at s.asked (Some (newcomer r s)) s.held)), refl)
    ];
    distinct = more s.queue inv.distinct (λ l. (let g = inv.queued s.asked l in new s.asked g.0 refl g.1));
    full = λ i l. (let f = inv.few in omega arith);
    unasked = λ i le. away i (λ e. omega arith) ∙ inv.unasked i (omega arith);
    octets = λ i h e. elim (twice i h e) [ inl w ↦ subst (λ (h : Held). IsOfOctets h.request) w.1 octets | inr w ↦ inv.octets i h w.1 ];
    some = λ i h e. has;
    settled = λ i h e. elim (twice i h e) [ inl w ↦ subst (λ (h : Held). h.stage ≢ Loose) w.1 (λ z. queued_fixed z) | inr w ↦ inv.settled i h w.1 ];
  }
    where
      new : (j : ℕ) (b : Held) → s.asked ≡ j → s.held j ≡ Some b → ⊥
      new j b e h = (let z = sym (inv.unasked j (omega arith)) ∙ h in cc)

      away : (j : ℕ) → s.asked ≢ j → with_at s.asked (Some (staged (newcomer r s) Queued)) (with_at s.asked (Some (newcomer r s)) s.held) j ≡ s.held j
      away j ne = there s.asked j (Some (staged (newcomer r s) Queued)) (with_at s.asked (Some (newcomer r s)) s.held) ne ∙ there s.asked j (Some (newcomer r s)) s.held ne

      twice : (i : ℕ) (h : Held) → with_at s.asked (Some (staged (newcomer r s) Queued)) (with_at s.asked (Some (newcomer r s)) s.held) i ≡ Some h → ((s.asked ≡ i) × (staged (newcomer r s) Queued ≡ h)) ⊎ ((s.asked ≢ i) × (s.held i ≡ Some h))
      twice i h e = elim (was_at s.asked (staged (newcomer r s) Queued) (with_at s.asked (Some (newcomer r s)) s.held) i h e) [ inl w ↦ inl w | inr w ↦ inr (w.0, sym (there s.asked i (Some (newcomer r s)) s.held w.0) ∙ w.1) ]

      at_end : (i : ℕ) (xs : List ℕ) → s.asked ≡ i → IsIn i (xs ++ s.asked ∷ [])
      at_end i [] e = inl e
      at_end i (x ∷ xs) e = inr (at_end i xs e)

      in_front : (i : ℕ) (xs : List ℕ) → IsIn i xs → IsIn i (xs ++ s.asked ∷ [])
      in_front i [] l = absurd l
      in_front i (x ∷ xs) (inl e) = inl e
      in_front i (x ∷ xs) (inr l) = inr (in_front i xs l)

      in_either : (i : ℕ) (xs : List ℕ) → IsIn i (xs ++ s.asked ∷ []) → IsIn i xs ⊎ (s.asked ≡ i)
      in_either i [] (inl e) = inr e
      in_either i [] (inr l) = absurd l
      in_either i (x ∷ xs) (inl e) = inl (inl e)
      in_either i (x ∷ xs) (inr l) = elim (in_either i xs l) [ inl m ↦ inl (inr m) | inr m ↦ inr m ]

      more : (xs : List ℕ) → Distinct xs → (IsIn s.asked xs → ⊥) → Distinct (xs ++ s.asked ∷ [])
      more [] d none = ((λ l. l), tt)
      more (x ∷ xs) d none = ((λ l. elim (in_either x xs l) [ inl m ↦ d.0 m | inr m ↦ none (inl (sym m)) ]), more xs d.1 (λ l. none (inr l)))

  -- a request that is not handed on
  pub refuses : Standing c n (record s { asked = suc s.asked })
  refuses = record { slots = inv.slots; few = inv.few; lined = inv.lined; queued = inv.queued; distinct = inv.distinct; full = inv.full; unasked = λ k le. inv.unasked k (omega arith); octets = inv.octets; some = inv.some; settled = inv.settled }

  -- Only what is held counts of what is held.
  pub stands_so : (f : ℕ → Option Held) → ((k : ℕ) → f k ≡ s.held k) → Standing c n (record s { held = f })
  stands_so f same = record {
    slots = λ p k e. (let g = inv.slots p k e in (g.0, same k ∙ g.1, g.2));
    few = inv.few;
    lined = λ k a e st. inv.lined k a (sym (same k) ∙ e) st;
    queued = λ k i. (let g = inv.queued k i in (g.0, same k ∙ g.1, g.2));
    distinct = inv.distinct;
    full = inv.full;
    unasked = λ k le. same k ∙ inv.unasked k le;
    octets = λ k a e. inv.octets k a (sym (same k) ∙ e);
    some = λ k a e. inv.some k a (sym (same k) ∙ e);
    settled = λ k a e. inv.settled k a (sym (same k) ∙ e);
  }

  -- Who gives up a place gives it on.
  pub gives_on : (p k : ℕ) (a : Held) → s.held k ≡ Some a → placed a.stage ≡ Some p → Standing c n (give (lose p k s)).state
  gives_on p k a held at = go s.queue refl
    where
      go : (q : List ℕ) → s.queue ≡ q → Standing c n (give_to q (lose p k s)).state
      go [] e = loses p k a held at e
      go (j ∷ q) e =
          let b = inv.queued j (subst (IsIn j) (sym e) (inl refl)) in
          let z = passes p k a j b.0 q held at e b.1 b.2 in
          subst (λ o. Standing c n (give_held j o (put_back q (lose p k s))).state) (sym (there k j None s.held z.0 ∙ b.1)) z.1
