-- What a row that serves tells of each answer that is put out in it.
use Rattle.std.proofs.Common.{◌≡◌, ℕ, suc, ◌+◌, ◌≤◌, List, [], ◌∷◌, ◌++◌, length, Option, None, Bool, true, false, refl, sym, subst, ap, ◌∙◌, arith, inl, inr, length-append}
use Rattle.std.specs.Prelude.{◌⊎◌, ◌||◌, not, is_some, Result}
use Rattle.std.specs.List.{AllByRecursion}
use Rattle.client_request.specs.declared.error.Error.{Error}
use Rattle.client_request.specs.declared.event.Out.{Out}
use Rattle.front_peers.specs.declared.event.FrontOut.{FrontOut}
use Rattle.front_peers.specs.declared.event.FrontOut.TheVariants.{Answer, Core, Drop}
use Rattle.front_peers.specs.declared.items.Asker.{Asker}
use Rattle.front_peers.specs.declared.items.Item.{Item}
use Rattle.front_peers.specs.declared.items.Item.TheVariants as item
use Rattle.front_queries.specs.Answers.{turned_away}
use Rattle.front_queries.specs.Query.{Query}
use Rattle.proof_forwarding.specs.Heard.{Heard, with_kept}
use Rattle.proof_forwarding.specs.Owing.{Answers, AreMany, Does, Drops, Due, Happens, IsAnswered, IsLost, IsOneOf, Owed, Pays, PutsOut, Refuses, Takes, TurnsAway, as_sent, goes_on, is_reached, rests}
use Rattle.proof_forwarding.proofs.Keeping.{all_more}

-- ---- lists

-- it is one of these
abbrev pub Among : {A : Type 0} → A → List A → Type 0
Among x [] = ⊥
Among x (y ∷ ys) = (y ≡ x) ⊎ Among x ys

among_either : {A : Type 0} (x : A) (a b : List A) → Among x (a ++ b) → Among x a ⊎ Among x b
among_either x [] b is = inr is
among_either x (y ∷ a) b (inl is) = inl (inl is)
among_either x (y ∷ a) b (inr is) = go (among_either x a b is)
  where
    go : Among x a ⊎ Among x b → Among x (y ∷ a) ⊎ Among x b
    go (inl there) = inl (inr there)
    go (inr there) = inr there

all_parts : {A : Type 0} (P : A → Type 0) (x : A) (a b : List A) → AllByRecursion P (a ++ x ∷ b) → P x × AllByRecursion P (a ++ b)
all_parts P x [] b all = all
all_parts P x (y ∷ a) b all = let rest = all_parts P x a b all.1 in (rest.0, (all.0, rest.1))

one_less : {A : Type 0} (x : A) (a b : List A) → length (a ++ x ∷ b) ≡ suc (length (a ++ b))
one_less x [] b = refl
one_less x (y ∷ a) b = ap suc (one_less x a b)

none_both : (now later : List FrontOut) → [] ≡ now ++ later → (now ≡ []) × (later ≡ [])
none_both [] later is = (refl, sym is)
none_both (o ∷ now) later is = absurd (cc)

-- ---- of each answer

module _ (replied : Query → Result (List ℕ) Error → Type 0) (own : Query → Option (List ℕ)) (P : Owed → Type 0) (I : Item → Type 0) (R : Heard → Type 0) (most : ℕ) where
  -- Why octets are put out for a peer: a query that waits is answered, one is turned away, or one is refused.
  pub data IsPut (peer : ℕ) (octets : List ℕ) : Type 0 where
    ForOne : (owed : Owed) (heard : Heard) → P owed → R heard → is_reached heard owed.asker ≡ true → peer ≡ owed.asker.peer → Answers replied own owed.asker octets → IsPut peer octets
    ForTurned : (asker : Asker) (owing : List Owed) → I (item.Asks asker) → AreMany asker owing → length owing ≤ most → peer ≡ asker.peer
        → octets ≡ as_sent asker.by_stream (turned_away asker.query) → IsPut peer octets
    ForRefused : I (item.Refuses peer octets) → IsPut peer octets

  -- What holds of what is due, all along.
  pub record Holds (a : Due) : Type 0 where
    pub items : AllByRecursion I a.items
    pub owing : AllByRecursion P a.owing
    pub heard : R a.heard
    pub few : length a.owing + length a.items ≤ most

  module _ (takes : (asker : Asker) (since : ℕ) → I (item.Asks asker) → P (record { asker = asker; since = since })) (closes : (peer : ℕ) (h : Heard) → R h → R (with_kept peer None h)) where
    same_answer : (peer p : ℕ) (octets os : List ℕ) → Answer peer octets ≡ Answer p os → (peer ≡ p) × (octets ≡ os)
    same_answer peer p octets os is = (cc, cc)

    no_core : (peer : ℕ) (octets : List ℕ) (o : Out) → Among (Answer peer octets) (Core o ∷ []) → ⊥
    no_core peer octets o (inl is) = cc
    no_core peer octets o (inr is) = is

    no_drop : (peer p : ℕ) (octets : List ℕ) → Among (Answer peer octets) (Drop p ∷ []) → ⊥
    no_drop peer p octets (inl is) = cc
    no_drop peer p octets (inr is) = is

    the_answer : (peer p : ℕ) (octets os : List ℕ) → Among (Answer peer octets) (Answer p os ∷ []) → (peer ≡ p) × (octets ≡ os)
    the_answer peer p octets os (inl is) = same_answer peer p octets os (sym is)
    the_answer peer p octets os (inr is) = absurd is

    module _ (a b : Due) (holds : Holds a) where
      later_items : (x : Item) (items : List Item) → a.items ≡ x ∷ items → b ≡ record a { items = items } → I x × Holds b
      later_items x items is then =
          let all : AllByRecursion I (x ∷ items) = subst (AllByRecursion I) is holds.items in
          let size : length a.items ≡ suc (length items) = ap length is in
          let few = holds.few in
          (all.0, subst Holds (sym then) (record { items = all.1; owing = holds.owing; heard = holds.heard; few = omega arith }))

      later_owing : (o : Owed) (owing : List Owed) → IsOneOf o a.owing owing → b ≡ record a { owing = owing } → P o × Holds b
      later_owing o owing of then =
          let all = all_parts P o of.before of.behind (subst (AllByRecursion P) of.is_there holds.owing) in
          let size : length a.owing ≡ suc (length owing) = ap length of.is_there ∙ one_less o of.before of.behind ∙ ap (λ (os : List Owed). suc (length os)) (sym of.others_are) in
          let few = holds.few in
          (all.0, subst Holds (sym then) (record { items = holds.items; owing = subst (AllByRecursion P) (sym of.others_are) all.1; heard = holds.heard; few = omega arith }))

      holds_then : (now : List FrontOut) → Does replied own a now b → Holds b
      holds_then now (PutsOut out is then) = subst Holds (sym then) holds
      holds_then now (Happens what items first is then) = (later_items _ items first then).1
      holds_then now (Drops peer items first is then) =
          let all : AllByRecursion I (item.Drops peer ∷ items) = subst (AllByRecursion I) first holds.items in
          let size : length a.items ≡ suc (length items) = ap length first in
          let few = holds.few in
          subst Holds (sym then) (record { items = all.1; owing = holds.owing; heard = closes peer a.heard holds.heard; few = omega arith })
      holds_then now (Refuses peer octets items first is then) = (later_items _ items first then).1
      holds_then now (Takes asker items first is then) =
          let all : AllByRecursion I (item.Asks asker ∷ items) = subst (AllByRecursion I) first holds.items in
          let size : length a.items ≡ suc (length items) = ap length first in
          let more = length-append a.owing (record { asker = asker; since = a.heard.now } ∷ []) in
          let few = holds.few in
          subst Holds (sym then) (record {
            items = all.1;
            owing = all_more P a.owing (record { asker = asker; since = a.heard.now }) holds.owing (takes asker a.heard.now all.0);
            heard = holds.heard;
            few = omega arith;
          })
      holds_then now (TurnsAway asker items first many is then) = (later_items _ items first then).1
      holds_then now (IsAnswered owed octets owing of reached made is then) = (later_owing owed owing of then).1
      holds_then now (IsLost owed reply owing of lost said is then) = (later_owing owed owing of then).1

      put_now : (now : List FrontOut) → Does replied own a now b → (peer : ℕ) (octets : List ℕ) → Among (Answer peer octets) now → IsPut peer octets
      put_now now (PutsOut out is then) peer octets among = absurd (no_core peer octets out (subst (Among (Answer peer octets)) is among))
      put_now now (Happens what items first is then) peer octets among = absurd (subst (Among (Answer peer octets)) is among)
      put_now now (Drops p items first is then) peer octets among = absurd (no_drop peer p octets (subst (Among (Answer peer octets)) is among))
      put_now now (Refuses p os items first is then) peer octets among =
          let same = the_answer peer p octets os (subst (Among (Answer peer octets)) is among) in
          let refused : I (item.Refuses p os) = (later_items _ items first then).0 in
          ForRefused (subst (λ (n : ℕ). I (item.Refuses n octets)) (sym same.0) (subst (λ (x : List ℕ). I (item.Refuses p x)) (sym same.1) refused))
      put_now now (Takes asker items first is then) peer octets among = absurd (subst (Among (Answer peer octets)) is among)
      put_now now (TurnsAway asker items first many is then) peer octets among =
          let same = the_answer peer asker.peer octets (as_sent asker.by_stream (turned_away asker.query)) (subst (Among (Answer peer octets)) is among) in
          let few = holds.few in
          ForTurned asker a.owing (later_items _ items first then).0 many (omega arith) same.0 same.1
      put_now now (IsAnswered owed os owing of reached made is then) peer octets among =
          let same = the_answer peer owed.asker.peer octets os (subst (Among (Answer peer octets)) is among) in
          ForOne owed a.heard (later_owing owed owing of then).0 holds.heard reached same.0 (subst (Answers replied own owed.asker) (sym same.1) made)
      put_now now (IsLost owed reply owing of lost said is then) peer octets among = absurd (subst (Among (Answer peer octets)) is among)

    pub each_put : (a b : Due) (outs : List FrontOut) → Pays replied own a outs b → Holds a → (peer : ℕ) (octets : List ℕ) → Among (Answer peer octets) outs → IsPut peer octets
    each_put a b outs (rests x y all same none) holds peer octets among = absurd (subst (Among (Answer peer octets)) none among)
    each_put a b outs (goes_on x middle y now later all does pays is) holds peer octets among =
        go (among_either (Answer peer octets) now later (subst (Among (Answer peer octets)) is among))
        (each_put middle y later pays (holds_then x middle holds now does) peer octets)
      where
        go : Among (Answer peer octets) now ⊎ Among (Answer peer octets) later → (Among (Answer peer octets) later → IsPut peer octets) → IsPut peer octets
        go (inl there) rest = put_now x middle holds now does peer octets there
        go (inr there) rest = rest there

-- ---- where no query comes

-- nothing but what happens to the client within
abbrev pub IsNoQuery : Item → Type 0
IsNoQuery (item.Happens what) = Unit {0}
IsNoQuery (item.Asks asker) = ⊥
IsNoQuery (item.Refuses peer octets) = ⊥
IsNoQuery (item.Drops peer) = ⊥

abbrev pub answers_in : List FrontOut → ℕ
answers_in [] = 0
answers_in (Answer peer octets ∷ outs) = suc (answers_in outs)
answers_in (Core o ∷ outs) = answers_in outs
answers_in (Drop peer ∷ outs) = answers_in outs

answers_append : (a b : List FrontOut) → answers_in (a ++ b) ≡ answers_in a + answers_in b
answers_append [] b = omega arith
answers_append (Answer peer octets ∷ a) b = let rest = answers_append a b in omega arith
answers_append (Core o ∷ a) b = answers_append a b
answers_append (Drop peer ∷ a) b = answers_append a b

module _ (replied : Query → Result (List ℕ) Error → Type 0) (own : Query → Option (List ℕ)) where
  not_there : (a : Due) (x : Item) (items : List Item) → AllByRecursion IsNoQuery a.items → a.items ≡ x ∷ items → IsNoQuery x × AllByRecursion IsNoQuery items
  not_there a x items none is = subst (AllByRecursion IsNoQuery) is none

  module _ (a b : Due) (none : AllByRecursion IsNoQuery a.items) where
    none_then : (now : List FrontOut) → Does replied own a now b → AllByRecursion IsNoQuery b.items × (answers_in now + length b.owing ≤ length a.owing)
    none_then now (PutsOut out is then) =
        let count : answers_in now ≡ 0 = ap answers_in is in
        let left : length b.owing ≡ length a.owing = ap (λ (d : Due). length d.owing) then in
        (subst (λ (d : Due). AllByRecursion IsNoQuery d.items) (sym then) none, omega arith)
    none_then now (Happens what items first is then) =
        let count : answers_in now ≡ 0 = ap answers_in is in
        let left : length b.owing ≡ length a.owing = ap (λ (d : Due). length d.owing) then in
        (subst (λ (d : Due). AllByRecursion IsNoQuery d.items) (sym then) (not_there a _ items none first).1, omega arith)
    none_then now (Drops peer items first is then) = absurd (not_there a _ items none first).0
    none_then now (Refuses peer octets items first is then) = absurd (not_there a _ items none first).0
    none_then now (Takes asker items first is then) = absurd (not_there a _ items none first).0
    none_then now (TurnsAway asker items first many is then) = absurd (not_there a _ items none first).0
    none_then now (IsAnswered owed octets owing of reached made is then) =
        let count : answers_in now ≡ 1 = ap answers_in is in
        let left : length b.owing ≡ length owing = ap (λ (d : Due). length d.owing) then in
        let size : length a.owing ≡ suc (length owing) = ap length of.is_there ∙ one_less owed of.before of.behind ∙ ap (λ (os : List Owed). suc (length os)) (sym of.others_are) in
        (subst (λ (d : Due). AllByRecursion IsNoQuery d.items) (sym then) none, omega arith)
    none_then now (IsLost owed reply owing of lost said is then) =
        let count : answers_in now ≡ 0 = ap answers_in is in
        let left : length b.owing ≡ length owing = ap (λ (d : Due). length d.owing) then in
        let size : length a.owing ≡ suc (length owing) = ap length of.is_there ∙ one_less owed of.before of.behind ∙ ap (λ (os : List Owed). suc (length os)) (sym of.others_are) in
        (subst (λ (d : Due). AllByRecursion IsNoQuery d.items) (sym then) none, omega arith)

  -- as many are left as were not answered, or fewer
  pub few_put : (a b : Due) (outs : List FrontOut) → Pays replied own a outs b → AllByRecursion IsNoQuery a.items → answers_in outs + length b.owing ≤ length a.owing
  few_put a b outs (rests x y all same none) quiet =
      let count : answers_in all ≡ 0 = ap answers_in none in
      let left : length x.owing ≡ length y.owing = ap (λ (d : Due). length d.owing) same in
      omega arith
  few_put a b outs (goes_on x middle y now later all does pays is) quiet =
      let first = none_then x middle quiet now does in
      let rest = few_put middle y later pays first.0 in
      let both = answers_append now later in
      let count : answers_in all ≡ answers_in (now ++ later) = ap answers_in is in
      omega arith

  abbrev ByDatagram : Owed → Type 0
  ByDatagram owed = owed.asker.by_stream ≡ false

  always_reached : (h : Heard) (owed : Owed) → ByDatagram owed → is_reached h owed.asker ≡ true
  always_reached h owed is = ap (λ (b : Bool). not b || is_some (h.kept owed.asker.peer)) is

  -- Nothing is put out: all that came by datagrams wait.
  module _ (a b : Due) (none : AllByRecursion IsNoQuery a.items) (all : AllByRecursion ByDatagram a.owing) where
    still_then : (now : List FrontOut) → now ≡ [] → Does replied own a now b → a.owing ≡ b.owing
    still_then now nothing (PutsOut out is then) = absurd (cc)
    still_then now nothing (Happens what items first is then) = sym (ap (λ (d : Due). d.owing) then)
    still_then now nothing (Drops peer items first is then) = absurd (cc)
    still_then now nothing (Refuses peer octets items first is then) = absurd (cc)
    still_then now nothing (Takes asker items first is then) = absurd (not_there a _ items none first).0
    still_then now nothing (TurnsAway asker items first many is then) = absurd (cc)
    still_then now nothing (IsAnswered owed octets owing of reached made is then) = absurd (cc)
    still_then now nothing (IsLost owed reply owing of lost said is then) =
        let there = (all_parts ByDatagram owed of.before of.behind (subst (AllByRecursion ByDatagram) of.is_there all)).0 in
        absurd (cc (always_reached a.heard owed there, lost))

  pub none_put : (a b : Due) (outs : List FrontOut) → Pays replied own a outs b → outs ≡ [] → AllByRecursion IsNoQuery a.items → AllByRecursion ByDatagram a.owing → a.owing ≡ b.owing
  none_put a b outs (rests x y all same none) nothing quiet datagrams = ap (λ (d : Due). d.owing) same
  none_put a b outs (goes_on x middle y now later all does pays is) nothing quiet datagrams =
      let both = none_both now later (sym nothing ∙ is) in
      let first = still_then x middle quiet datagrams now both.0 does in
      first ∙ none_put middle y later pays both.1 (none_then x middle quiet now does).0 (subst (AllByRecursion ByDatagram) first datagrams)
