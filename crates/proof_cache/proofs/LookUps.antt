-- A request that looks a cache up does what an asking of `proof_right`'s machine does.
use Rattle.std.proofs.Common.{◌≡◌, ℕ, Bool, true, false, ◌&&◌, not, is_some, List, [], ◌∷◌, ◌++◌, map, Option, Some, None, Result, Ok, Err, inl, inr, refl, sym, ◌∙◌, ap, subst, if◌then◌else◌}
use Rattle.client_request.specs.declared.error.Error.{Error}
use Rattle.client_settings.specs.Settings.{CacheSettings}
use Rattle.right_trace.specs.Keys.{FlagClass, Do, Ad, Plain, Key, is_signing}
use Rattle.proof_right.specs.machine.Cache.{Uses, Stores, Misses, Takes, TakesFlags, TakesRd, TakesBoth, First, NoneThere, tried, block, in_block}
use Rattle.cache_rules.specs.declared.key.AdDo.TheVariants as classes
use Rattle.cache_rules.specs.Key.{same_key, flag_class}
use Rattle.client_cache.specs.declared.table.Flags.{Flags}
use Rattle.client_cache.specs.Keeping.{Entry, Table, Asked, Found, entry_under, uses, with_flags, if_kept, or_else, flags, first_above_ad, first_from_ad, first_of_class, first_class, first_kept, same_class, clears_rd, is_own, keeps_derived, gives_own, gives_other, takes, derived, rd_cleared}
use Rattle.proof_cache.specs.LookUps.{Does, LookUpsAreAskings}

-- ---- the flags that are found are those of the first key that is there

abbrev Fits : Key → Flags → Type 0
Fits k f = k.rd ≡ true → f.rd ≡ true

abbrev FoundAmong : Key → Table → Option Flags → List Key → Type 0
FoundAmong k t None ks = NoneThere same_key t.entries ks
FoundAmong k t (Some f) ks = First same_key t.entries ks (with_flags f k) × Fits k f

passed : (k : Key) (t : Table) (j : Key) (rest : Option Flags) (ks : List Key) → is_some (entry_under j t) ≡ false → FoundAmong k t rest ks → FoundAmong k t rest (j ∷ ks)
passed k t j None ks e r = (e, r)
passed k t j (Some g) ks e r = (inr (e, r.0), r.1)

one_more : (k : Key) (t : Table) (f : Flags) (rest : Option Flags) (ks : List Key) → Fits k f → FoundAmong k t rest ks → FoundAmong k t (or_else (if_kept t k f) rest) (with_flags f k ∷ ks)
one_more k t f rest ks fit r =
    (elim (is_some (entry_under (with_flags f k) t)) as (λ b. is_some (entry_under (with_flags f k) t) ≡ b → FoundAmong k t (or_else (if b then Some f else None) rest) (with_flags f k ∷ ks)) [
      | true ↦ λ e. (inl (e, refl), fit)
      | false ↦ λ e. passed k t (with_flags f k) rest ks e r
    ]) refl

only : (k : Key) (t : Table) (f : Flags) → Fits k f → FoundAmong k t (if_kept t k f) (with_flags f k ∷ [])
only k t f fit =
    (elim (is_some (entry_under (with_flags f k) t)) as (λ b. is_some (entry_under (with_flags f k) t) ≡ b → FoundAmong k t (if b then Some f else None) (with_flags f k ∷ [])) [
      | true ↦ λ e. (inl (e, refl), fit)
      | false ↦ λ e. (e, tt)
    ]) refl

above : (k : Key) (t : Table) (rd s : Bool) → (k.rd ≡ true → rd ≡ true) → FoundAmong k t (if s then None else if_kept t k (flags classes.Do rd)) (map (in_block k rd) (if s then [] else Do ∷ []))
above k t rd true fit = tt
above k t rd false fit = only k t (flags classes.Do rd) fit

of_class : (k : Key) (t : Table) (rd : Bool) (c : FlagClass) → (k.rd ≡ true → rd ≡ true) → FoundAmong k t (first_of_class t k rd c) (block (record k { flags = c }) rd)
of_class k t rd Do fit = only k t (flags classes.Do rd) fit
of_class k t rd Ad fit = one_more k t (flags classes.Ad rd) (first_above_ad t k rd) _ fit (above k t rd (is_signing k.rtype) fit)
of_class k t rd Plain fit =
    one_more k t (flags classes.None rd) (first_from_ad t k rd) _ fit
    (one_more k t (flags classes.Ad rd) (first_above_ad t k rd) _ fit (above k t rd (is_signing k.rtype) fit))

skips : (k : Key) (t : Table) (y : Option Flags) (xs ys : List Key) → NoneThere same_key t.entries xs → FoundAmong k t y ys → FoundAmong k t y (xs ++ ys)
skips k t y [] ys n r = r
skips k t None (x ∷ xs) ys n r = (n.0, skips k t None xs ys n.1 r)
skips k t (Some f) (x ∷ xs) ys n r = let rest = skips k t (Some f) xs ys n.1 r in (inr (n.0, rest.0), rest.1)

stays : (t : Table) (j : Key) (xs ys : List Key) → First same_key t.entries xs j → First same_key t.entries (xs ++ ys) j
stays t j [] ys h = absurd h
stays t j (x ∷ xs) ys (inl p) = inl p
stays t j (x ∷ xs) ys (inr p) = inr (p.0, stays t j xs ys p.1)

joined : (k : Key) (t : Table) (x y : Option Flags) (xs ys : List Key) → FoundAmong k t x xs → FoundAmong k t y ys → FoundAmong k t (or_else x y) (xs ++ ys)
joined k t None y xs ys p q = skips k t y xs ys p q
joined k t (Some f) y xs ys p q = (stays t (with_flags f k) xs ys p.0, p.1)

again : (k : Key) (t : Table) (b : Bool) → FoundAmong k t (if b then None else first_class t k true) (if b then [] else block k true)
again k t true = tt
again k t false = of_class k t true k.flags (λ e. refl)

found_first : (k : Key) (t : Table) → FoundAmong k t (first_kept t k) (tried k)
found_first k t = joined k t (first_class t k k.rd) _ (block k k.rd) _ (of_class k t k.rd k.flags (λ e. e)) (again k t k.rd)

-- ---- what is done with it

same_is : (c d : FlagClass) → same_class c d ≡ true → c ≡ d
same_is Do Do e = refl
same_is Do Ad e = absurd cc
same_is Do Plain e = absurd cc
same_is Ad Do e = absurd cc
same_is Ad Ad e = refl
same_is Ad Plain e = absurd cc
same_is Plain Do e = absurd cc
same_is Plain Ad e = absurd cc
same_is Plain Plain e = refl

same_self : (c : FlagClass) → same_class c c ≡ true
same_self Do = refl
same_self Ad = refl
same_self Plain = refl

others : (c d : FlagClass) → same_class c d ≡ false → c ≡ d → ⊥
others c d e same = let P : FlagClass → Type 0 = λ x. same_class x d ≡ true in let h = subst P (sym same) (same_self d) in cc

-- RD of what is found, where it is to be cleared, and where it is not
cleared : (a b : Bool) → (a && not b) ≡ true → (a ≡ true) × (b ≡ false)
cleared true true e = absurd cc
cleared true false e = (refl, refl)
cleared false b e = absurd cc

uncleared : (a b : Bool) → (a && not b) ≡ false → (b ≡ true → a ≡ true) → a ≡ b
uncleared true true e fit = refl
uncleared true false e fit = absurd cc
uncleared false true e fit = fit refl
uncleared false false e fit = refl

differs : (a b : Bool) → a ≡ true → b ≡ false → a ≡ b → ⊥
differs a b e f same = cc

choose : (a : Asked) (t : Table) (b : Bool) (x y : Found) → (b ≡ true → Does a t x) → (b ≡ false → Does a t y) → Does a t (if b then x else y)
choose a t true x y p q = p refl
choose a t false x y p q = q refl

module _ (a : Asked) (now : ℕ) (t : Table) (f : Flags) where
  abbrev there : Key
  there = with_flags f a.key

  abbrev is_same : Bool
  is_same = same_class (flag_class f.class) a.key.flags

  abbrev clears : Bool
  clears = clears_rd f a.key

  abbrev IsFirst : Type 0
  IsFirst = First same_key t.entries (tried a.key) there

  with_rd_alone : IsFirst → (e : Entry) → is_same ≡ true → clears ≡ true → Does a t (keeps_derived a f now (uses there t) (Ok e))
  with_rd_alone first e same cut =
      let rd = cleared f.rd a.key.rd cut in
      (Uses there ∷ Stores a.key (rd_cleared a.key.flags e) ∷ [], TakesRd there (rd_cleared a.key.flags e) first (differs f.rd a.key.rd rd.0 rd.1), rw cut (rw same refl))

  with_both : IsFirst → (e : Entry) → is_same ≡ false → clears ≡ true → Does a t (keeps_derived a f now (uses there t) (Ok e))
  with_both first e same cut =
      let rd = cleared f.rd a.key.rd cut in (
        Uses there ∷ Stores (in_block a.key f.rd a.key.flags) e ∷ Stores a.key (rd_cleared a.key.flags e) ∷ [],
        TakesBoth there e (rd_cleared a.key.flags e) first (others (flag_class f.class) a.key.flags same) (differs f.rd a.key.rd rd.0 rd.1),
        rw cut (rw same (rw rd.0 refl)),
      )

  with_class_alone : IsFirst → Fits a.key f → (e : Entry) → is_same ≡ false → clears ≡ false → Does a t (keeps_derived a f now (uses there t) (Ok e))
  with_class_alone first fit e same cut =
      let rd = uncleared f.rd a.key.rd cut fit in (
        Uses there ∷ Stores (in_block a.key f.rd a.key.flags) e ∷ [],
        TakesFlags there e first (others (flag_class f.class) a.key.flags same),
        rw cut (rw rd refl),
      )

  taken_other : IsFirst → Fits a.key f → (r : Result Entry Error) (same cut : Bool) → is_same ≡ same → clears ≡ cut → (same && not cut) ≡ false → Does a t (keeps_derived a f now (uses there t) r)
  taken_other first fit (Err x) same cut es ec own = (Uses there ∷ [], Takes there first, refl)
  taken_other first fit (Ok e) true true es ec own = with_rd_alone first e es ec
  taken_other first fit (Ok e) true false es ec own = absurd cc
  taken_other first fit (Ok e) false true es ec own = with_both first e es ec
  taken_other first fit (Ok e) false false es ec own = with_class_alone first fit e es ec

  taken_at : (s : CacheSettings) → IsFirst → Fits a.key f → (o : Option Entry) → (is_same && not clears) ≡ false → Does a t (gives_other s a f now (uses there t) o)
  taken_at s first fit None own = (Uses there ∷ [], Takes there first, refl)
  taken_at s first fit (Some e) own = taken_other first fit (derived s (flag_class f.class) a e) is_same clears refl refl own

  own_key : Fits a.key f → is_same ≡ true → clears ≡ false → there ≡ a.key
  own_key fit same cut =
      ap (λ x. record a.key { flags = x; rd = f.rd }) (same_is (flag_class f.class) a.key.flags same)
      ∙ ap (λ x. record a.key { rd = x }) (uncleared f.rd a.key.rd cut fit)

  taken_own : IsFirst → there ≡ a.key → (o : Option Entry) → Does a t (gives_own a now (uses a.key t) o)
  taken_own first same None = (Uses a.key ∷ [], Takes a.key (subst (First same_key t.entries (tried a.key)) same first), refl)
  taken_own first same (Some e) = (Uses a.key ∷ [], Takes a.key (subst (First same_key t.entries (tried a.key)) same first), refl)

  taken : (s : CacheSettings) → IsFirst → Fits a.key f → Does a t (takes s a now t (Some f))
  taken s first fit =
      choose a t (is_own f a.key) _ _
      (λ e. let own = cleared is_same clears e in taken_own first (own_key fit own.0 own.1) (entry_under a.key t))
      (λ e. taken_at s first fit (entry_under there t) e)

looked : (s : CacheSettings) (a : Asked) (now : ℕ) (t : Table) (o : Option Flags) → FoundAmong a.key t o (tried a.key) → Does a t (takes s a now t o)
looked s a now t None none = ([], Misses none, refl)
looked s a now t (Some f) p = taken a now t f s p.0 p.1

pub look_ups_are_askings : LookUpsAreAskings
look_ups_are_askings s a now t = looked s a now t (first_kept t a.key) (found_first a.key t)
