-- Lists and tables that agree still do, as both are used and stored into, and as time passes.
use Rattle.std.proofs.Common.{◌≡◌, ℕ, ◌-◌, ◌≤◌, ◌⊎◌, Bool, true, false, cond, is_some, List, [], ◌∷◌, map, take, Option, Some, None, inl, inr, refl, sym, ap, subst, arith}
use Rattle.std.specs.Prelude.{suc, zero, if◌then◌else◌}
use Rattle.std.specs.List.{AllByRecursion}
use Rattle.std.specs.Option.{option_map_or}
use Rattle.std.specs.Map.{lookup, lookup_entry, remove_entry}
use Rattle.lru.specs.LruCache.{lru_cache, promoted, put_entries}
use Rattle.right_trace.specs.Keys.{Key, key_of}
use Rattle.right_trace.specs.Settings.{Settings}
use Rattle.proof_right.specs.machine.Client as machine
use Rattle.proof_right.specs.machine.Exact.{Value, value_of}
use Rattle.proof_right.specs.machine.Cache.{is_there}
use Rattle.cache_rules.specs.Key.{same_key, same_is_equal}
use Rattle.client_cache.specs.Keeping.{Entry}
use Rattle.proof_cache.specs.Listing.{Agree, AreAlike, AreListed, StandsFor, all_listed, all_stored_as, lists, stored_as}
use Rattle.proof_cache.specs.Caching.{all_stored}
use Rattle.right_trace.specs.Parts.{IsIn}
use Rattle.proof_cache.specs.Standing.{Stands, StandsForStored, Derived, Nothing, More}
use Rattle.proof_cache.proofs.Tables.{each_more, key_found, looked, put}

module _ (R : Key → Value → Entry → Type 0) where
  -- pairs that agree, and where there may be none
  abbrev Pair : Key × Value → Key × Entry → Type 0
  Pair x y = (x.0 ≡ y.0) × R y.0 x.1 y.1

  abbrev Both : Option (Key × Value) → Option (Key × Entry) → Type 0
  Both None None = Unit {0}
  Both (Some x) (Some y) = Pair x y
  Both _ _ = ⊥

  found : (test : Key → Bool) (es : List (Key × Value)) (ts : List (Key × Entry)) → Agree R es ts → Both (lookup_entry test es) (lookup_entry test ts)
  found test [] [] h = tt
  found test [] (t ∷ ts) h = absurd h
  found test (e ∷ es) [] h = absurd h
  found test (e ∷ es) (t ∷ ts) h = go (test e.0) (test t.0) (ap test h.0) (found test es ts h.2)
    where
      go : (b d : Bool) → b ≡ d → Both (lookup_entry test es) (lookup_entry test ts) → Both (cond b (Some e) (lookup_entry test es)) (cond d (Some t) (lookup_entry test ts))
      go true true same ih = (h.0, h.1)
      go true false same ih = absurd cc
      go false true same ih = absurd cc
      go false false same ih = ih

  removed : (test : Key → Bool) (es : List (Key × Value)) (ts : List (Key × Entry)) → Agree R es ts → Agree R (remove_entry test es) (remove_entry test ts)
  removed test [] [] h = tt
  removed test [] (t ∷ ts) h = absurd h
  removed test (e ∷ es) [] h = absurd h
  removed test (e ∷ es) (t ∷ ts) h = go (test e.0) (test t.0) (ap test h.0) (removed test es ts h.2)
    where
      go : (b d : Bool) → b ≡ d → Agree R (remove_entry test es) (remove_entry test ts) → Agree R (cond b es (e ∷ remove_entry test es)) (cond d ts (t ∷ remove_entry test ts))
      go true true same ih = h.2
      go true false same ih = absurd cc
      go false true same ih = absurd cc
      go false false same ih = (h.0, h.1, ih)

  few : (n : ℕ) (es : List (Key × Value)) (ts : List (Key × Entry)) → Agree R es ts → Agree R (take n es) (take n ts)
  few zero es ts h = tt
  few (suc n) [] [] h = tt
  few (suc n) [] (t ∷ ts) h = absurd h
  few (suc n) (e ∷ es) [] h = absurd h
  few (suc n) (e ∷ es) (t ∷ ts) h = (h.0, h.1, few n es ts h.2)

  -- an entry is used
  pub used_alike : (test : Key → Bool) (es : List (Key × Value)) (ts : List (Key × Entry)) → Agree R es ts → Agree R (promoted test es) (promoted test ts)
  used_alike test es ts h = go (lookup_entry test es) (lookup_entry test ts) (found test es ts h)
    where
      go : (o : Option (Key × Value)) (p : Option (Key × Entry)) → Both o p → Agree R (option_map_or (λ e. e ∷ remove_entry test es) o es) (option_map_or (λ t. t ∷ remove_entry test ts) p ts)
      go None None b = h
      go None (Some y) b = absurd b
      go (Some x) None b = absurd b
      go (Some x) (Some y) b = (b.0, b.1, removed test es ts h)

  -- an entry is stored
  pub stored_alike : (cap : ℕ) (k : Key) (v : Value) (e : Entry) (es : List (Key × Value)) (ts : List (Key × Entry)) → R k v e → Agree R es ts → Agree R (put_entries same_key (lru_cache es cap) k v) (put_entries same_key (lru_cache ts cap) k e)
  stored_alike cap k v e es ts r h = go (lookup_entry (same_key k) es) (lookup_entry (same_key k) ts) refl (found (same_key k) es ts h)
    where
      go : (o : Option (Key × Value)) (p : Option (Key × Entry)) → lookup_entry (same_key k) ts ≡ p → Both o p
          → Agree R (option_map_or (λ x. (x.0, v) ∷ remove_entry (same_key k) es) o ((k, v) ∷ take (cap - 1) es)) (option_map_or (λ y. (y.0, e) ∷ remove_entry (same_key k) ts) p ((k, e) ∷ take (cap - 1) ts))
      go None None is b = (refl, r, few (cap - 1) es ts h)
      go None (Some y) is b = absurd b
      go (Some x) None is b = absurd b
      go (Some x) (Some y) is b = (b.0, subst (λ (j : Key). R j v e) (key_found k ts y is) r, removed (same_key k) es ts h)

  -- what is looked up in both
  abbrev Values : Key → Option Value → Option Entry → Type 0
  Values k None None = Unit {0}
  Values k (Some v) (Some e) = R k v e
  Values k _ _ = ⊥

  seen : (k : Key) (es : List (Key × Value)) (ts : List (Key × Entry)) → Agree R es ts → Values k (lookup (same_key k) es) (lookup (same_key k) ts)
  seen k [] [] h = tt
  seen k [] (t ∷ ts) h = absurd h
  seen k (e ∷ es) [] h = absurd h
  seen k (e ∷ es) (t ∷ ts) h = go (same_key k e.0) (same_key k t.0) refl (ap (same_key k) h.0) (seen k es ts h.2)
    where
      go : (b d : Bool) → same_key k t.0 ≡ d → b ≡ d → Values k (lookup (same_key k) es) (lookup (same_key k) ts) → Values k (cond b (Some e.1) (lookup (same_key k) es)) (cond d (Some t.1) (lookup (same_key k) ts))
      go true true is same ih = subst (λ (j : Key). R j e.1 t.1) (sym (same_is_equal k t.0 is)) h.1
      go true false is same ih = absurd cc
      go false true is same ih = absurd cc
      go false false is same ih = ih

  -- what is listed under a key is in the table too
  pub seen_alike : (k : Key) (es : List (Key × Value)) (ts : List (Key × Entry)) (v : Value) → Agree R es ts → lookup (same_key k) es ≡ Some v → (e : Entry) × (lookup (same_key k) ts ≡ Some e) × R k v e
  seen_alike k es ts v h is = go (lookup (same_key k) es) (lookup (same_key k) ts) refl is (seen k es ts h)
    where
      go : (o : Option Value) (p : Option Entry) → lookup (same_key k) ts ≡ p → o ≡ Some v → Values k o p → (e : Entry) × (lookup (same_key k) ts ≡ Some e) × R k v e
      go None None is f b = absurd cc
      go None (Some e) is f b = absurd b
      go (Some w) None is f b = absurd b
      go (Some w) (Some e) is f b = let same : w ≡ v = cc in (e, is, subst (λ (v : Value). R k v e) same b)

  pub there_alike : (k : Key) (es : List (Key × Value)) (ts : List (Key × Entry)) → Agree R es ts → is_there same_key k es ≡ is_there same_key k ts
  there_alike k es ts h = go (lookup (same_key k) es) (lookup (same_key k) ts) (seen k es ts h)
    where
      go : (o : Option Value) (p : Option Entry) → Values k o p → is_some o ≡ is_some p
      go None None b = refl
      go None (Some e) b = absurd b
      go (Some v) None b = absurd b
      go (Some v) (Some e) b = refl

pub agree_more : (R Q : Key → Value → Entry → Type 0) → ((k : Key) (v : Value) (e : Entry) → R k v e → Q k v e) → (es : List (Key × Value)) (ts : List (Key × Entry)) → Agree R es ts → Agree Q es ts
agree_more R Q f [] [] h = tt
agree_more R Q f [] (t ∷ ts) h = absurd h
agree_more R Q f (e ∷ es) [] h = absurd h
agree_more R Q f (e ∷ es) (t ∷ ts) h = (h.0, f t.0 e.1 t.1 h.1, agree_more R Q f es ts h.2)

-- time passes
pub alike_later : (s : Settings) (now later : ℕ) (es : List (Key × Value)) (ts : List (Key × Entry)) → now ≤ later → AreAlike s now es ts → AreAlike s later es ts
alike_later s now later es ts le h = agree_more (StandsFor s now) (StandsFor s later) (λ k v e st. record { under = refl; covers = st.covers; moment = st.moment; past = (let q = st.past in omega (arith, q, le)); result = st.result }) es ts h

-- the table stands to that
pub alike_stands : (s : Settings) (now : ℕ) (es : List (Key × Value)) (ts : List (Key × Entry)) → AreAlike s now es ts → AllByRecursion (StandsForStored s now (all_stored_as es)) ts
alike_stands s now [] [] h = tt
alike_stands s now [] (t ∷ ts) h = absurd h
alike_stands s now (e ∷ es) [] h = absurd h
alike_stands s now (e ∷ es) (t ∷ ts) h = (
  (stored_as e.0 e.1, inl refl, subst (λ (k : Key). Stands s now t.0 t.1 (stored_as k e.1)) (sym h.0) h.1),
  each_more (StandsForStored s now (all_stored_as es)) (StandsForStored s now (all_stored_as (e ∷ es))) (λ x p. (p.0, inr p.1, p.2)) ts (alike_stands s now es ts h.2),
)

-- what stands for something that is stored stands for it as it may be listed
pub listed_for : (s : Settings) (now : ℕ) (stored : List machine.Entry) (k : Key) (e : Entry) → StandsForStored s now stored (k, e) → (v : Value) × StandsFor s now k v e × IsIn (stored_as k v) stored
listed_for s now stored k e p =
    let f = p.0 in (
      record { first = f.first; number = f.number; result = f.result; moment = f.moment },
      record { under = refl; covers = (p.2).covers; moment = (p.2).moment; past = (p.2).past; result = (p.2).result },
      subst (λ (j : Key). IsIn (record { under = j; first = f.first; number = f.number; result = f.result; moment = f.moment }) stored) (p.2).under p.1,
    )

-- what is stored still is, where more is
pub listed_more : (xs ys : List machine.Entry) → ((e : machine.Entry) → IsIn e xs → IsIn e ys) → (es : List (Key × Value)) → AreListed xs es → AreListed ys es
listed_more xs ys f es h = each_more (λ (x : Key × Value). IsIn (stored_as x.0 x.1) xs) (λ (x : Key × Value). IsIn (stored_as x.0 x.1) ys) (λ x is. f (stored_as x.0 x.1) is) es h

-- what is listed is among all that is
pub all_listed_so : (es : List (Key × Value)) → AreListed (all_stored_as es) es
all_listed_so [] = tt
all_listed_so (e ∷ es) = (inl refl, listed_more (all_stored_as es) (all_stored_as (e ∷ es)) (λ x is. inr is) es (all_listed_so es))

-- what derives leaves what was stored
pub derived_more : (xs ys : List machine.Entry) → Derived xs ys → (e : machine.Entry) → IsIn e xs → IsIn e ys
derived_more _ _ (Nothing xs) e is = is
derived_more _ _ (More f k xs ys there covers d) e is = derived_more (record f { under = k } ∷ xs) ys d e (inr is)

-- The same is derived where more is stored.
pub record DerivedToo (from after : List machine.Entry) : Type 0 where
  pub stored : List machine.Entry
  pub derived : Derived from stored
  pub among : (e : machine.Entry) → IsIn e after → IsIn e stored

pub derived_too : (xs after ys : List machine.Entry) → Derived xs after → ((e : machine.Entry) → IsIn e xs → IsIn e ys) → DerivedToo ys after
derived_too _ _ ys (Nothing xs) f = record { stored = ys; derived = Nothing ys; among = f }
derived_too _ _ ys (More e k xs after is covers d) f =
    let y : machine.Entry = record e { under = k } in
    let t = derived_too (y ∷ xs) after (y ∷ ys) d (λ z at. elim at [ inl here ↦ inl here | inr there ↦ inr (f z there) ]) in
    record { stored = t.stored; derived = More e k ys t.stored (f e is) covers t.derived; among = t.among }

-- what is found in a list is stored
pub listed_at : (stored : List machine.Entry) (k : Key) (es : List (Key × Value)) (v : Value) → AreListed stored es → lookup (same_key k) es ≡ Some v → IsIn (stored_as k v) stored
listed_at stored k es v h e = looked (λ (x : Key × Value). IsIn (stored_as x.0 x.1) stored) k es v h e

-- a reply that leaves is listed, where it is stored
pub lists_listed : (cap now : ℕ) (z : machine.Leaving) (stored : List machine.Entry) (es : List (Key × Value)) → AreListed stored es → AreListed (machine.store now z stored) (lists cap now z es)
lists_listed cap now z stored es h = by z.is_stored
  where
    by : (b : Bool) → AreListed (if b then machine.entry_of now z ∷ stored else stored) (if b then put_entries same_key (lru_cache es cap) (key_of z.asked) (value_of now z) else es)
    by true = put (λ (x : Key × Value). IsIn (stored_as x.0 x.1) (machine.entry_of now z ∷ stored)) (key_of z.asked) (value_of now z) (lru_cache es cap) (listed_more stored (machine.entry_of now z ∷ stored) (λ e is. inr is) es h) (inl refl)
    by false = h

pub all_lists_listed : (cap now : ℕ) (zs : List machine.Leaving) (stored : List machine.Entry) (es : List (Key × Value)) → AreListed stored es → AreListed (all_stored now zs stored) (all_listed cap now zs es)
all_lists_listed cap now [] stored es h = h
all_lists_listed cap now (z ∷ zs) stored es h = all_lists_listed cap now zs (machine.store now z stored) (lists cap now z es) (lists_listed cap now z stored es h)

-- what agrees, and is stored, is listed
pub agree_listed : (stored : List machine.Entry) (es : List (Key × Value)) (ts : List (Key × Entry)) → Agree (λ k v e. IsIn (stored_as k v) stored) es ts → AreListed stored es
agree_listed stored [] [] h = tt
agree_listed stored [] (t ∷ ts) h = absurd h
agree_listed stored (e ∷ es) [] h = absurd h
agree_listed stored (e ∷ es) (t ∷ ts) h = (subst (λ (k : Key). IsIn (stored_as k e.1) stored) (sym h.0) h.1, agree_listed stored es ts h.2)

pub listed_agree : (R : Key → Value → Entry → Type 0) (stored : List machine.Entry) (es : List (Key × Value)) (ts : List (Key × Entry)) → Agree R es ts → AreListed stored es → Agree (λ k v e. R k v e × IsIn (stored_as k v) stored) es ts
listed_agree R stored [] [] h l = tt
listed_agree R stored [] (t ∷ ts) h l = absurd h
listed_agree R stored (e ∷ es) [] h l = absurd h
listed_agree R stored (e ∷ es) (t ∷ ts) h l = (h.0, (h.1, subst (λ (k : Key). IsIn (stored_as k e.1) stored) h.0 l.0), listed_agree R stored es ts h.2 l.1)

-- where there is room for one entry alone, and none is there under the key, what is stored is alone in both
pub alone_alike : (R : Key → Value → Entry → Type 0) (cap : ℕ) (k : Key) (v : Value) (e : Entry) (es : List (Key × Value)) (ts : List (Key × Entry)) → Agree (λ k v e. Unit {0}) es ts → lookup_entry (same_key k) ts ≡ None → cap - 1 ≡ 0 → R k v e
    → Agree R (put_entries same_key (lru_cache es cap) k v) (put_entries same_key (lru_cache ts cap) k e)
alone_alike R cap k v e es ts h none one r = go (lookup_entry (same_key k) es) (lookup_entry (same_key k) ts) none (found (λ k v e. Unit {0}) (same_key k) es ts h)
  where
    none_left : (n : ℕ) → n ≡ 0 → Agree R (take n es) (take n ts)
    none_left zero is = tt
    none_left (suc n) is = absurd (omega (arith, is))

    go : (o : Option (Key × Value)) (p : Option (Key × Entry)) → p ≡ None → Both (λ k v e. Unit {0}) o p
        → Agree R (option_map_or (λ x. (x.0, v) ∷ remove_entry (same_key k) es) o ((k, v) ∷ take (cap - 1) es)) (option_map_or (λ y. (y.0, e) ∷ remove_entry (same_key k) ts) p ((k, e) ∷ take (cap - 1) ts))
    go None None is b = (refl, r, none_left (cap - 1) one)
    go (Some x) None is b = absurd b
    go o (Some y) is b = absurd cc

-- ---- what a table has that stands, once it was stored into

module _ (P : Key × Entry → Type 0) (cap : ℕ) where
  -- what was stored is there
  pub put_first : (k : Key) (e : Entry) (ts : List (Key × Entry)) → AllByRecursion P (put_entries same_key (lru_cache ts cap) k e) → P (k, e)
  put_first k e ts h = go (lookup_entry (same_key k) ts) refl h
    where
      go : (o : Option (Key × Entry)) → lookup_entry (same_key k) ts ≡ o → AllByRecursion P (option_map_or (λ y. (y.0, e) ∷ remove_entry (same_key k) ts) o ((k, e) ∷ take (cap - 1) ts)) → P (k, e)
      go None is h = h.0
      go (Some y) is h = subst (λ (j : Key). P (j, e)) (sym (key_found k ts y is)) h.0

  -- what was stored before, under another key, is there; or there is room for one entry alone
  put_second : (k : Key) (e : Entry) (x : Key × Entry) (ts : List (Key × Entry)) → same_key k x.0 ≡ false → AllByRecursion P (put_entries same_key (lru_cache (x ∷ ts) cap) k e) → P x ⊎ (lookup_entry (same_key k) (x ∷ ts) ≡ None) × (cap - 1 ≡ 0)
  put_second k e x ts other h = go (same_key k x.0) other (lookup_entry (same_key k) ts) (cap - 1) refl h
    where
      go : (b : Bool) → b ≡ false → (o : Option (Key × Entry)) (n : ℕ) → cap - 1 ≡ n
          → AllByRecursion P (option_map_or (λ y. (y.0, e) ∷ cond b ts (x ∷ remove_entry (same_key k) ts)) (cond b (Some x) o) ((k, e) ∷ take n (x ∷ ts)))
          → P x ⊎ (cond b (Some x) o ≡ None) × (cap - 1 ≡ 0)
      go true is o n room h = absurd cc
      go false is (Some y) n room h = inl (h.1).0
      go false is None zero room h = inr (refl, room)
      go false is None (suc n) room h = inl (h.1).0

  pub put_both : (j k : Key) (d e : Entry) (ts : List (Key × Entry)) → same_key k j ≡ false → AllByRecursion P (put_entries same_key (lru_cache (put_entries same_key (lru_cache ts cap) j d) cap) k e)
      → P (j, d) ⊎ (lookup_entry (same_key k) (put_entries same_key (lru_cache ts cap) j d) ≡ None) × (cap - 1 ≡ 0)
  put_both j k d e ts other h = go (lookup_entry (same_key j) ts) refl h
    where
      once : Option (Key × Entry) → List (Key × Entry)
      once o = option_map_or (λ y. (y.0, d) ∷ remove_entry (same_key j) ts) o ((j, d) ∷ take (cap - 1) ts)

      go : (o : Option (Key × Entry)) → lookup_entry (same_key j) ts ≡ o → AllByRecursion P (put_entries same_key (lru_cache (once o) cap) k e) → P (j, d) ⊎ (lookup_entry (same_key k) (once o) ≡ None) × (cap - 1 ≡ 0)
      go None is h = put_second k e (j, d) (take (cap - 1) ts) other h
      go (Some y) is h =
          let key = key_found j ts y is in
          elim (put_second k e (y.0, d) (remove_entry (same_key j) ts) (subst (λ i. same_key k i ≡ false) key other) h) [
            | inl p ↦ inl (subst (λ (i : Key). P (i, d)) (sym key) p)
            | inr p ↦ inr p
          ]
