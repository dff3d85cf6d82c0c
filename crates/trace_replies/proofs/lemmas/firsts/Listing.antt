-- What is listed of messages that came, once those of a row are added.
use Rattle.std.proofs.Common.{◌≡◌, ℕ, ◌==◌, ◌&&◌, ◌||◌, ◌⊎◌, inl, inr, not, Bool, true, false, if◌then◌else◌, List, [], ◌∷◌, refl, sym, ap, ◌∙◌, subst, arith}
use Rattle.std.proofs.lemmas.Bool.Decides.{nat_tests}
use Rattle.right_trace.specs.{Messages.Octets, Parts.IsIn}
use Rattle.message_judging.specs.matching.Shapes.{same_octets}
use Rattle.message_judging.proofs.lemmas.matching.Names.{both, all, octets_same, same_octets_are}
use Rattle.trace_tables.specs.Lists.{listed, adds}
use Rattle.trace_tables.proofs.Listing.{listed_adds}
use Rattle.trace_points.specs.declared.exchanges.coming.Coming.{Coming}
use Rattle.trace_errors.specs.promptness.Prompt.{matches}
use Rattle.trace_replies.specs.declared.firsts.firsts.{Arrived.Arrived, News.News}
use Rattle.trace_replies.specs.firsts.Firsts.{Firsts, some_counts, some_is, some_first, news_of, all_news, add_all}

pub clash : (b : Bool) → b ≡ true → b ≡ false → ⊥
clash b e f = absurd (let z : true ≡ false = sym e ∙ f in cc)

pub not_false : (b : Bool) → not b ≡ true → b ≡ false
not_false true e = absurd (cc)
not_false false e = refl

pub either : (a b : Bool) → (a || b) ≡ true → (a ≡ true) ⊎ (b ≡ true)
either true b e = inl refl
either false b e = inr e

pub first_true : (a b : Bool) → a ≡ true → (a || b) ≡ true
first_true a b e = ap (λ a. a || b) e

pub second_true : (a b : Bool) → b ≡ true → (a || b) ≡ true
second_true true b e = refl
second_true false b e = e

pub same_number : (a b : ℕ) → (a == b) ≡ true → a ≡ b
same_number a b e = grind (arith, nat_tests)

pub own : (a : ℕ) → (a == a) ≡ true
own a = grind (arith, nat_tests)

-- ---- what a list has

pub counts_so : (xs : List Arrived) → some_counts xs ≡ true → (x : Arrived) × IsIn x xs × (x.counts ≡ true)
counts_so [] e = absurd (cc)
counts_so (x ∷ xs) e = go (either x.counts (some_counts xs) e) (counts_so xs)
  where
    go : (x.counts ≡ true) ⊎ (some_counts xs ≡ true) → (some_counts xs ≡ true → (z : Arrived) × IsIn z xs × (z.counts ≡ true)) → (z : Arrived) × IsIn z (x ∷ xs) × (z.counts ≡ true)
    go (inl e) rest = (x, inl refl, e)
    go (inr e) rest = let r = rest e in (r.0, inr r.1, r.2)

pub so_counts : (z : Arrived) (xs : List Arrived) → IsIn z xs → z.counts ≡ true → some_counts xs ≡ true
so_counts z [] i e = absurd i
so_counts z (x ∷ xs) (inl is) e = first_true x.counts (some_counts xs) (ap (λ (x : Arrived). x.counts) is ∙ e)
so_counts z (x ∷ xs) (inr i) e = second_true x.counts (some_counts xs) (so_counts z xs i e)

pub is_so : (m : Octets) (xs : List Arrived) → some_is m xs ≡ true → (x : Arrived) × IsIn x xs × (x.message ≡ m)
is_so m [] e = absurd (cc)
is_so m (x ∷ xs) e = go (either (same_octets x.message m) (some_is m xs) e) (is_so m xs)
  where
    go : (same_octets x.message m ≡ true) ⊎ (some_is m xs ≡ true) → (some_is m xs ≡ true → (z : Arrived) × IsIn z xs × (z.message ≡ m)) → (z : Arrived) × IsIn z (x ∷ xs) × (z.message ≡ m)
    go (inl e) rest = (x, inl refl, octets_same x.message m e)
    go (inr e) rest = let r = rest e in (r.0, inr r.1, r.2)

pub so_is : (m : Octets) (z : Arrived) (xs : List Arrived) → IsIn z xs → z.message ≡ m → some_is m xs ≡ true
so_is m z [] i e = absurd i
so_is m z (x ∷ xs) (inl is) e = first_true (same_octets x.message m) (some_is m xs) (same_octets_are x.message m (ap (λ (x : Arrived). x.message) is ∙ e))
so_is m z (x ∷ xs) (inr i) e = second_true (same_octets x.message m) (some_is m xs) (so_is m z xs i e)

pub first_so : (m : Octets) (xs : List Arrived) → some_first m xs ≡ true → (x : Arrived) × IsIn x xs × (x.message ≡ m) × (x.first ≡ true)
first_so m [] e = absurd (cc)
first_so m (x ∷ xs) e = go (either (x.first && same_octets x.message m) (some_first m xs) e) (first_so m xs)
  where
    go : ((x.first && same_octets x.message m) ≡ true) ⊎ (some_first m xs ≡ true) → (some_first m xs ≡ true → (z : Arrived) × IsIn z xs × (z.message ≡ m) × (z.first ≡ true)) → (z : Arrived) × IsIn z (x ∷ xs) × (z.message ≡ m) × (z.first ≡ true)
    go (inl e) rest = let q = both x.first (same_octets x.message m) e in (x, inl refl, octets_same x.message m q.1, q.0)
    go (inr e) rest = let r = rest e in (r.0, inr r.1, r.2, r.3)

pub so_first : (m : Octets) (z : Arrived) (xs : List Arrived) → IsIn z xs → z.message ≡ m → z.first ≡ true → some_first m xs ≡ true
so_first m z [] i e f = absurd i
so_first m z (x ∷ xs) (inl is) e f = first_true (x.first && same_octets x.message m) (some_first m xs) (all x.first (same_octets x.message m) (ap (λ (x : Arrived). x.first) is ∙ f) (same_octets_are x.message m (ap (λ (x : Arrived). x.message) is ∙ e)))
so_first m z (x ∷ xs) (inr i) e f = second_true (x.first && same_octets x.message m) (some_first m xs) (so_first m z xs i e f)

-- ---- what is added

pub record IsNew (k : ℕ) (z : Arrived) (ns : List News) : Type 0 where
  pub news : News
  pub there : IsIn news ns
  pub is_request : news.request ≡ k
  pub is : news.arrived ≡ z

more_new : (k : ℕ) (z : Arrived) (n : News) (ns : List News) → IsNew k z ns → IsNew k z (n ∷ ns)
more_new k z n ns w = record { news = w.news; there = inr w.there; is_request = w.is_request; is = w.is }

one_added : (k : ℕ) (z : Arrived) (n : News) (t : Firsts) → IsIn z (listed k (adds n.request n.arrived t)) → IsIn z (listed k t) ⊎ ((n.request ≡ k) × (n.arrived ≡ z))
one_added k z n t i = go (n.request == k) refl (subst (IsIn z) (listed_adds k n.request n.arrived t) i)
  where
    go : (b : Bool) → (n.request == k) ≡ b → IsIn z (if b then n.arrived ∷ listed k t else listed k t) → IsIn z (listed k t) ⊎ ((n.request ≡ k) × (n.arrived ≡ z))
    go true e (inl is) = inr (same_number n.request k e, is)
    go true e (inr i) = inl i
    go false e i = inl i

stays_listed : (k : ℕ) (z : Arrived) (n : News) (t : Firsts) → IsIn z (listed k t) → IsIn z (listed k (adds n.request n.arrived t))
stays_listed k z n t i = subst (IsIn z) (sym (listed_adds k n.request n.arrived t)) (go (n.request == k))
  where
    go : (b : Bool) → IsIn z (if b then n.arrived ∷ listed k t else listed k t)
    go true = inr i
    go false = i

is_listed : (k : ℕ) (n : News) (t : Firsts) → n.request ≡ k → IsIn n.arrived (listed k (adds n.request n.arrived t))
is_listed k n t e = subst (IsIn n.arrived) (sym (listed_adds k n.request n.arrived t ∙ ap (λ b. if b then n.arrived ∷ listed k t else listed k t) (ap (λ j. j == k) e ∙ own k))) (inl refl)

pub added_so : (k : ℕ) (z : Arrived) (ns : List News) (t : Firsts) → IsIn z (listed k (add_all ns t)) → IsIn z (listed k t) ⊎ IsNew k z ns
added_so k z [] t i = inl i
added_so k z (n ∷ ns) t i = go (added_so k z ns (adds n.request n.arrived t) i)
  where
    once : IsIn z (listed k t) ⊎ ((n.request ≡ k) × (n.arrived ≡ z)) → IsIn z (listed k t) ⊎ IsNew k z (n ∷ ns)
    once (inl i) = inl i
    once (inr e) = inr (record { news = n; there = inl refl; is_request = e.0; is = e.1 })

    go : IsIn z (listed k (adds n.request n.arrived t)) ⊎ IsNew k z ns → IsIn z (listed k t) ⊎ IsNew k z (n ∷ ns)
    go (inl i) = once (one_added k z n t i)
    go (inr w) = inr (more_new k z n ns w)

pub still_listed : (k : ℕ) (z : Arrived) (ns : List News) (t : Firsts) → IsIn z (listed k t) → IsIn z (listed k (add_all ns t))
still_listed k z [] t i = i
still_listed k z (n ∷ ns) t i = still_listed k z ns (adds n.request n.arrived t) (stays_listed k z n t i)

pub new_listed : (k : ℕ) (n : News) (ns : List News) (t : Firsts) → IsIn n ns → n.request ≡ k → IsIn n.arrived (listed k (add_all ns t))
new_listed k n [] t i e = absurd i
new_listed k n (x ∷ ns) t (inl is) e = subst (λ (x : News). IsIn n.arrived (listed k (add_all ns (adds x.request x.arrived t)))) (sym is) (still_listed k n.arrived ns (adds n.request n.arrived t) (is_listed k n t e))
new_listed k n (x ∷ ns) t (inr i) e = new_listed k n ns (adds x.request x.arrived t) i e

-- ---- news

pub news_so : (b : Bool) (t : Firsts) (n : News) (xs : List Coming) → IsIn n (all_news b t xs) → (x : Coming) × IsIn x xs × (matches x ≡ true) × (news_of b t x ≡ n)
news_so b t n [] i = absurd i
news_so b t n (x ∷ xs) i = go (matches x) refl i (news_so b t n xs)
  where
    go : (d : Bool) → matches x ≡ d → IsIn n (if d then news_of b t x ∷ all_news b t xs else all_news b t xs) → (IsIn n (all_news b t xs) → (z : Coming) × IsIn z xs × (matches z ≡ true) × (news_of b t z ≡ n))
        → (z : Coming) × IsIn z (x ∷ xs) × (matches z ≡ true) × (news_of b t z ≡ n)
    go true e (inl is) rest = (x, inl refl, e, is)
    go true e (inr i) rest = let r = rest i in (r.0, inr r.1, r.2, r.3)
    go false e i rest = let r = rest i in (r.0, inr r.1, r.2, r.3)

pub so_news : (b : Bool) (t : Firsts) (z : Coming) (xs : List Coming) → IsIn z xs → matches z ≡ true → IsIn (news_of b t z) (all_news b t xs)
so_news b t z [] i e = absurd i
so_news b t z (x ∷ xs) (inl is) e = subst (λ d. IsIn (news_of b t z) (if d then news_of b t x ∷ all_news b t xs else all_news b t xs)) (sym (ap matches is ∙ e)) (inl (ap (news_of b t) is))
so_news b t z (x ∷ xs) (inr i) e = go (matches x) (so_news b t z xs i e)
  where
    go : (d : Bool) → IsIn (news_of b t z) (all_news b t xs) → IsIn (news_of b t z) (if d then news_of b t x ∷ all_news b t xs else all_news b t xs)
    go true i = inr i
    go false i = i
