-- One record more of a message.
use Rattle.std.proofs.Common.{◌≡◌, ◌<◌, ◌+◌, ◌-◌, ◌^◌, ℕ, min, List, [], ◌∷◌, ◌++◌, append_assoc, Option, Some, None, Result, refl, sym, ap, subst, ◌∙◌, arith}
use Rattle.std.specs.Prelude.{option_and_then, IsSome}
use Rattle.dns_values.specs.declared.error.ParseError.{ParseError}
use Rattle.dns_base.specs.Message.{Known}
use Rattle.dns_names.specs.Name.{Labels}
use Rattle.zone_reading.specs.declared.steps.State.{State}
use Rattle.zone_reading.specs.declared.steps.Update.{Update}
use Rattle.zone_reading.specs.declared.steps.XfrKind.{XfrKind}
use Rattle.zone_reading.specs.Running.{MadeStep, Step, behind}
use Rattle.zone_records.specs.Interpreting.{counted, item_outsiders, outsiders, takes_item, takes_items, takes_some}
use Rattle.zone_records.specs.declared.record.ZoneRecord.{ZoneRecord}

abbrev Updates : Type 0
Updates = List (Update ZoneRecord)

abbrev Items : Type 0
Items = List (Result Known ParseError)

behind_twice : (us vs : Updates) (s : Step ZoneRecord) → behind us (behind vs s) ≡ behind (us ++ vs) s
behind_twice us vs None = refl
behind_twice us vs (Some x) = ap (λ (ws : Updates). Some (x.0, ws)) (sym (append_assoc us vs x.1))

-- The updates so far, and the run that is left, are those of all records from the first.
abbrev pub SoFar : Labels → XfrKind → (first state : State ZoneRecord) → (all left : Items) → (start now : Updates) → Type 0
SoFar apex kind first state all left start now =
    (us : Updates) × (now ≡ start ++ us) × (takes_items apex kind first all ≡ behind us (takes_items apex kind state left))

pub items_on : (apex : Labels) (kind : XfrKind) (first state next : State ZoneRecord) (all before left : Items) (item : Result Known ParseError) (start mid new : Updates) (after : Option (State ZoneRecord)) → before ≡ item ∷ left → after ≡ Some next
    → MadeStep mid new after (takes_item apex kind state item) → SoFar apex kind first state all before start mid → SoFar apex kind first next all left start new
items_on apex kind first state next all before left item start mid new after e a m s = go (takes_item apex kind state item) refl m
  where
    go : (o : Step ZoneRecord) → takes_item apex kind state item ≡ o → MadeStep mid new after o → SoFar apex kind first next all left start new
    go None i m = absurd (let z : None ≡ Some next = sym m ∙ a in cc)
    go (Some x) i m =
        let same : Some x.0 ≡ Some next = sym m.0 ∙ a in
        let is : x.0 ≡ next = cc in (
          s.0 ++ x.1,
          m.1 ∙ (ap (λ (us : Updates). us ++ x.1) s.1 ∙ append_assoc start s.0 x.1),
          s.2 ∙ (ap (λ (items : Items). behind s.0 (takes_items apex kind state items)) e
              ∙ (ap (λ (o : Step ZoneRecord). behind s.0 (option_and_then (λ (y : State ZoneRecord × Updates). behind y.1 (takes_items apex kind y.0 left)) o)) i
              ∙ (behind_twice s.0 x.1 (takes_items apex kind x.0 left) ∙ ap (λ (q : State ZoneRecord). behind (s.0 ++ x.1) (takes_items apex kind q left)) is))),
        )

-- one record, and then the others
pub joined : (apex : Labels) (kind : XfrKind) (state next : State ZoneRecord) (all items : Items) (item : Result Known ParseError) (old mid new : Updates) (first after : Option (State ZoneRecord)) → all ≡ item ∷ items → first ≡ Some next
    → MadeStep old mid first (takes_item apex kind state item) → MadeStep mid new after (takes_items apex kind next items) → MadeStep old new after (takes_some apex kind state all)
joined apex kind state next all items item old mid new first after a f s t =
    subst (λ (xs : Items). MadeStep old new after (takes_some apex kind state xs)) (sym a) (go (takes_item apex kind state item) s)
  where
    then_on : (us : Updates) → mid ≡ old ++ us → (o : Step ZoneRecord) → MadeStep mid new after o → MadeStep old new after (behind us o)
    then_on us e None m = m
    then_on us e (Some y) m = (m.0, m.1 ∙ (ap (λ (vs : Updates). vs ++ y.1) e ∙ append_assoc old us y.1))

    go : (o : Step ZoneRecord) → MadeStep old mid first o → MadeStep old new after (option_and_then (λ (y : State ZoneRecord × Updates). behind y.1 (takes_items apex kind y.0 items)) o)
    go None m = absurd (let z : None ≡ Some next = sym m ∙ f in cc)
    go (Some x) m =
        let same : Some x.0 ≡ Some next = sym m.0 ∙ f in
        let is : x.0 ≡ next = cc in
        then_on x.1 m.1 (takes_items apex kind x.0 items) (subst (λ (q : State ZoneRecord). MadeStep mid new after (takes_items apex kind q items)) (sym is) t)

-- where the first record is wrong
pub stopped : (apex : Labels) (kind : XfrKind) (state : State ZoneRecord) (all items : Items) (item : Result Known ParseError) (old mid new : Updates) (first : Option (State ZoneRecord)) → all ≡ item ∷ items → first ≡ None
    → MadeStep old mid first (takes_item apex kind state item) → MadeStep old new None (takes_some apex kind state all)
stopped apex kind state all items item old mid new first a f s =
    subst (λ (xs : Items). MadeStep old new None (takes_some apex kind state xs)) (sym a) (go (takes_item apex kind state item) s)
  where
    go : (o : Step ZoneRecord) → MadeStep old mid first o → MadeStep old new None (option_and_then (λ (y : State ZoneRecord × Updates). behind y.1 (takes_items apex kind y.0 items)) o)
    go None m = refl
    go (Some x) m = absurd (let z : Some x.0 ≡ None = sym m.0 ∙ f in cc)

-- ---- records outside the zone

counts_both : (n a b : ℕ) → counted (counted n a) b ≡ counted n (a + b)
counts_both n a b = omega arith

some : (o : Option (State ZoneRecord)) (x : State ZoneRecord) → o ≡ Some x → IsSome o
some o x e = subst (λ (p : Option (State ZoneRecord)). IsSome p) (sym e) refl

-- The count so far with those that are left is the count with all.
abbrev pub Counting : Labels → (all left : Items) → (start now : ℕ) → Type 0
Counting apex all left start now = counted now (outsiders apex left) ≡ counted start (outsiders apex all)

pub counting_on : (apex : Labels) (all before left : Items) (item : Result Known ParseError) (start mid new : ℕ) (after : Option (State ZoneRecord)) (next : State ZoneRecord) → before ≡ item ∷ left → after ≡ Some next
    → (IsSome after → new ≡ counted mid (item_outsiders apex item)) → Counting apex all before start mid → Counting apex all left start new
counting_on apex all before left item start mid new after next e a n c =
    ap (λ (m : ℕ). counted m (outsiders apex left)) (n (some after next a)) ∙ (counts_both mid (item_outsiders apex item) (outsiders apex left) ∙ (ap (λ (xs : Items). counted mid (outsiders apex xs)) (sym e) ∙ c))

pub counts_joined : (apex : Labels) (all items : Items) (item : Result Known ParseError) (old mid new : ℕ) (first after : Option (State ZoneRecord)) (next : State ZoneRecord) → all ≡ item ∷ items → first ≡ Some next
    → (IsSome first → mid ≡ counted old (item_outsiders apex item)) → (IsSome after → new ≡ counted mid (outsiders apex items)) → IsSome after → new ≡ counted old (outsiders apex all)
counts_joined apex all items item old mid new first after next a f m n s =
    n s ∙ (ap (λ (k : ℕ). counted k (outsiders apex items)) (m (some first next f)) ∙ (counts_both old (item_outsiders apex item) (outsiders apex items) ∙ ap (λ (xs : Items). counted old (outsiders apex xs)) (sym a)))

-- at the end of the section
pub counted_all : (apex : Labels) (all left : Items) (start now : ℕ) → left ≡ [] → now < 2 ^ 64 → Counting apex all left start now → now ≡ counted start (outsiders apex all)
counted_all apex all left start now none fits c =
    whole now fits ∙ (ap (λ (xs : Items). counted now (outsiders apex xs)) (sym none) ∙ c)
  where
    whole : (n : ℕ) → n < 2 ^ 64 → n ≡ min (n + 0) (2 ^ 64 - 1)
    whole n l = omega (arith, l)
