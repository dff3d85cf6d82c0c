-- The TTLs of a message that is read have 32 bits, so one that is lessened by that much is 0.
use Rattle.std.proofs.Common.{◌≡◌, ◌<◌, ◌-◌, ◌^◌, ◌==◌, ◌&&◌, ℕ, Bool, true, false, List, [], ◌∷◌, refl, ap, ap₂, subst, map, arith}
use Rattle.std.specs.Prelude.{Some, Result, Ok, Err, if◌then◌else◌, min, option_and_then}
use Rattle.std.specs.List.{AllByRecursion}
use Rattle.dns_names.specs.Name.{Labels}
use Rattle.dns_names.proofs.Heads.{then_ok, none_some}
use Rattle.dns_values.specs.declared.error.ParseError.{ParseError}
use Rattle.dns_values.specs.declared.numbers.Section.{Section}
use Rattle.dns_values.specs.declared.numbers.Section.TheVariants.{Answer, Authority, Additional}
use Rattle.dns_base.specs.Data.{Data}
use Rattle.dns_base.specs.Message.{Asked, Known, Written, all_read, record_at}
use Rattle.dns_base.specs.Knowing.{meaning_of, meanings_of}
use Rattle.dns_base.proofs.Readings.{reading_laws}
use Rattle.client_request.specs.Composed.{section_items}
use Rattle.client_request.proofs.Writable.{AreOctets, record_writable}
use Rattle.right_trace.specs.Messages.{Octets}
use Rattle.right_trace.specs.Keys.{Key, is_signing}
use Rattle.right_trace.specs.Parts.{Header, Item, Parts, typed, known_parts}
use Rattle.right_trace.specs.Views.{with_name, leaves_out, lessened, mostly_lessened, without_signing, viewed}
use Rattle.cache_rules.proofs.{WhatIsMet.some_inside, Saying.what_is_known}
use Rattle.cache_rules.proofs.Carrying.{Each, section_good, as_read}

abbrev IsShort : Known → Type 0
IsShort k = k.entry.ttl < 2 ^ 32

abbrev AreShort : List (Item Data) → Type 0
AreShort xs = AllByRecursion (λ (x : Item Data). x.ttl < 2 ^ 32) xs

each_read : {A : Type 0} (P : A → Type 0) (items : List (Result A ParseError)) (xs : List A) → Each P items → all_read items ≡ Some xs → AllByRecursion P xs
each_read P [] xs h e = let is : [] ≡ xs = cc in subst (AllByRecursion P) is tt
each_read P (Err x ∷ items) xs h e = none_some e
each_read P (Ok x ∷ items) xs h e = let rest = some_inside (λ ys. x ∷ ys) (all_read items) xs e in subst (AllByRecursion P) rest.2 (h.0, each_read P items rest.0 h.1 rest.1)

means_short : (ks : List Known) (ws : List Written) → AllByRecursion IsShort ks → meanings_of ks ≡ Some ws → AllByRecursion (λ (w : Written). w.ttl < 2 ^ 32) ws
means_short [] ws h e = let is : [] ≡ ws = cc in subst (AllByRecursion (λ (w : Written). w.ttl < 2 ^ 32)) is tt
means_short (k ∷ ks) ws h e =
    let first = then_ok (meaning_of k) _ ws e in
    let more = then_ok (meanings_of ks) _ ws first.2 in
    let content = some_inside (as_read k.entry) k.says first.0 first.1 in
    let short : (as_read k.entry content.0).ttl < 2 ^ 32 = h.0 in
    let is : first.0 ∷ more.0 ≡ ws = (let z = more.2 in cc) in
    subst (AllByRecursion (λ (w : Written). w.ttl < 2 ^ 32)) is (subst (λ (w : Written). w.ttl < 2 ^ 32) content.2 short, means_short ks more.0 h.1 more.1)

typed_short : (ws : List Written) → AllByRecursion (λ (w : Written). w.ttl < 2 ^ 32) ws → AreShort (map typed ws)
typed_short [] h = tt
typed_short (w ∷ ws) h = (h.0, typed_short ws h.1)

module _ (m : Octets) (octets : AreOctets m) where
  record_short : (at end : ℕ) (k : Known) → record_at m at ≡ Some (k, end) → IsShort k
  record_short at end k e = (record_writable m at end k octets e).ttl

  section_short : (s : Section) (ks : List Known) (ws : List Written) → option_and_then all_read (section_items s m) ≡ Some ks → meanings_of ks ≡ Some ws → AreShort (map typed ws)
  section_short s ks ws e f =
      let found = then_ok (section_items s m) all_read ks e in
      typed_short ws (means_short ks ws (each_read IsShort found.0 ks (section_good IsShort m record_short s found.0 found.1) found.2) f)

  pub record ShortParts (x : Parts Data) : Type 0 where
    pub answer : AreShort x.answer
    pub authority : AreShort x.authority
    pub additional : AreShort x.additional

  pub parts_short : (x : Parts Data) → known_parts m ≡ Some x → ShortParts x
  parts_short x known =
      let k = what_is_known m x known in
      let items = reading_laws.items_are_read m k.reading k.read in
      subst ShortParts k.parts_are (record {
        answer = section_short Answer k.reading.answer k.answer items.answer_is k.answer_means;
        authority = section_short Authority k.reading.authority k.authority items.authority_is k.authority_means;
        additional = section_short Additional k.reading.additional k.additional items.additional_is k.additional_means;
      })

less_same : (n ttl : ℕ) → ttl < 2 ^ 32 → ttl - min n 4294967295 ≡ ttl - n
less_same n ttl lt = omega arith

item_same : (n : ℕ) (x : Item Data) → x.ttl < 2 ^ 32 → lessened (min n 4294967295) x ≡ lessened n x
item_same n x lt = ap (λ t. record { owner = x.owner; rtype = x.rtype; class = x.class; ttl = t; content = x.content }) (less_same n x.ttl lt)

most_same : (n : ℕ) (x : Item Data) → x.ttl < 2 ^ 32 → mostly_lessened (min n 4294967295) x ≡ mostly_lessened n x
most_same n x lt = go (x.rtype == 41)
  where
    go : (b : Bool) → (if b then x else lessened (min n 4294967295) x) ≡ (if b then x else lessened n x)
    go true = refl
    go false = item_same n x lt

all_same : (f g : Item Data → Item Data) → ((x : Item Data) → x.ttl < 2 ^ 32 → f x ≡ g x) → (b : Bool) (xs : List (Item Data)) → AreShort xs → map f (without_signing b xs) ≡ map g (without_signing b xs)
all_same f g same b [] h = refl
all_same f g same b (x ∷ xs) h = go (all_same f g same b xs h.1) (b && is_signing x.rtype)
  where
    go : map f (without_signing b xs) ≡ map g (without_signing b xs) → (z : Bool) → map f (if z then without_signing b xs else x ∷ without_signing b xs) ≡ map g (if z then without_signing b xs else x ∷ without_signing b xs)
    go rest true = rest
    go rest false = ap₂ (λ y ys. y ∷ ys) (same x h.0) rest

-- the view so many seconds later is that at the end of a TTL's range, where that comes before
pub late_view : (q r : Key) (name : Labels) (n : ℕ) (x : Parts Data) → AreShort x.answer → AreShort x.authority → AreShort x.additional → viewed q r name (min n 4294967295) x ≡ viewed q r name n x
late_view q r name n x a u d =
    same (viewed q r name 0 x).header x.code (map (with_name name) x.questions)
    (all_same (lessened (min n 4294967295)) (lessened n) (item_same n) (leaves_out q r) x.answer a)
    (all_same (lessened (min n 4294967295)) (lessened n) (item_same n) (leaves_out q r) x.authority u)
    (all_same (mostly_lessened (min n 4294967295)) (mostly_lessened n) (most_same n) (leaves_out q r) x.additional d)
  where
    same : (h : Header) (code : ℕ) (qs : List Asked) {a1 a2 u1 u2 d1 d2 : List (Item Data)} → a1 ≡ a2 → u1 ≡ u2 → d1 ≡ d2
        → Path (Parts Data) (record { header = h; code = code; questions = qs; answer = a1; authority = u1; additional = d1 }) (record { header = h; code = code; questions = qs; answer = a2; authority = u2; additional = d2 })
    same h code qs a u d = cc
