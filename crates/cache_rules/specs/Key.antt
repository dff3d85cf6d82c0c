-- The key of a request, and when two keys are the same.
use Rattle.std.specs.Prelude.{◌≡◌, ℕ, Bool, true, false, ◌&&◌, ◌==◌, List, [], ◌∷◌, ◌++◌, Option, Some, None, IsTrue, nat_eq, if◌then◌else◌}
use Rattle.std.specs.Bool.{beq}
use Rattle.std.specs.Cmp.{IsEquivalence, IsPartialEquivalence, both_ways}
use Rattle.std.specs.Cmp.Lexicographic.{pointwise}
use Rattle.std.specs.Ordering.{on, eq_of_both}
use Rattle.std.specs.Int.{w16, to_be_bytes}
use Rattle.std.proofs.Common.{refl, ap, subst, ◌∙◌, eq-eqb}
use Rattle.std.proofs.lemmas.Bool.{eqb-true}
use Rattle.dns_names.specs.Name.{Labels, lowered, spelling}
use Rattle.dns_base.specs.Header.{ad_of, cd_of, rd_of, opcode_of}
use Rattle.dns_base.specs.Message.{Asked, sole_question}
use Rattle.right_trace.specs.Keys.{FlagClass, Do, Ad, Plain, Key}
use Rattle.right_trace.specs.Messages.{Octets}
use Rattle.cache_rules.specs.declared.key.AdDo.{AdDo}
use Rattle.cache_rules.specs.declared.key.AdDo.TheVariants as classes

abbrev pub flag_class : AdDo → FlagClass
flag_class classes.Do = Do
flag_class classes.Ad = Ad
flag_class classes.None = Plain

-- what a request with this header and this DO asks of DNSSEC
abbrev pub class_in : (header : List ℕ) → (dnssec_ok : Bool) → FlagClass
class_in header d = if d then Do else (if ad_of header then Ad else Plain)

-- the key of a request for this, if it is asked for in class IN
abbrev pub asked_key : (header : List ℕ) → (dnssec_ok : Bool) → Option Asked → Option Key
asked_key header d None = None
asked_key header d (Some q) = if q.class == 1 then Some (record {
  name = lowered q.name;
  rtype = q.rtype;
  class = q.class;
  flags = class_in header d;
  cd = cd_of header;
  rd = rd_of header;
}) else None

-- the key of a request for this with this header and this DO; none where no result of it is kept
abbrev pub key_asking : (header : List ℕ) → (dnssec_ok : Bool) → Option Asked → Option Key
key_asking header d question = if opcode_of header == 0 then asked_key header d question else None

-- the key of a request which asks what a message does
abbrev pub key_in : (header : List ℕ) → (dnssec_ok : Bool) → Octets → Option Key
key_in header d message = key_asking header d (sole_question message)

abbrev pub class_number : FlagClass → ℕ
class_number Do = 0
class_number Ad = 1
class_number Plain = 2

-- keys are the same in every field
abbrev pub same_key : Key → Key → Bool
same_key =
    eq_of_both (on (λ k. k.name) (pointwise (pointwise ◌==◌)))
    (eq_of_both (on (λ k. k.rtype) nat_eq)
    (eq_of_both (on (λ k. k.class) nat_eq)
    (eq_of_both (on (λ k. class_number k.flags) nat_eq)
    (eq_of_both (on (λ k. k.cd) beq) (on (λ k. k.rd) beq)))))

abbrev pub bit : Bool → ℕ
bit b = if b then 1 else 0

-- a key without its name in eight octets
abbrev pub key_octets : Key → List ℕ
key_octets k = to_be_bytes w16 k.rtype ++ (to_be_bytes w16 k.class ++ (class_number k.flags ∷ bit k.cd ∷ bit k.rd ∷ 0 ∷ []))

-- what is hashed of a key: these, and its name in lower case as it is spelled in a message
abbrev pub key_hash : Key → List (List ℕ)
key_hash k = key_octets k ∷ spelling k.name ∷ []

both : (a b : Bool) → (a && b) ≡ true → (a ≡ true) × (b ≡ true)
both true true e = (refl, refl)
both true false e = absurd cc
both false b e = absurd cc

all : (a b : Bool) → a ≡ true → b ≡ true → (a && b) ≡ true
all true true p q = refl
all true false p q = absurd cc
all false b p q = absurd cc

octets_same : (xs ys : List ℕ) → pointwise ◌==◌ xs ys ≡ true → xs ≡ ys
octets_same [] [] e = refl
octets_same [] (y ∷ ys) e = absurd cc
octets_same (x ∷ xs) [] e = absurd cc
octets_same (x ∷ xs) (y ∷ ys) e = let p = both (x == y) (pointwise ◌==◌ xs ys) e in let h = eqb-true x y p.0 in let t = octets_same xs ys p.1 in cc

labels_same : (xs ys : Labels) → pointwise (pointwise ◌==◌) xs ys ≡ true → xs ≡ ys
labels_same [] [] e = refl
labels_same [] (y ∷ ys) e = absurd cc
labels_same (x ∷ xs) [] e = absurd cc
labels_same (x ∷ xs) (y ∷ ys) e =
    let p = both (pointwise ◌==◌ x y) (pointwise (pointwise ◌==◌) xs ys) e in let h = octets_same x y p.0 in let t = labels_same xs ys p.1 in cc

classes_same : (f g : FlagClass) → (class_number f == class_number g) ≡ true → f ≡ g
classes_same Do Do e = refl
classes_same Do Ad e = absurd cc
classes_same Do Plain e = absurd cc
classes_same Ad Do e = absurd cc
classes_same Ad Ad e = refl
classes_same Ad Plain e = absurd cc
classes_same Plain Do e = absurd cc
classes_same Plain Ad e = absurd cc
classes_same Plain Plain e = refl

bits_same : (a b : Bool) → beq a b ≡ true → a ≡ b
bits_same true true e = refl
bits_same true false e = absurd cc
bits_same false true e = absurd cc
bits_same false false e = refl

-- keys that are the same are equal
pub same_is_equal : (a b : Key) → IsTrue (same_key a b) → a ≡ b
same_is_equal a b e =
    let name = both (pointwise (pointwise ◌==◌) a.name b.name) _ e in
    let rtype = both (nat_eq a.rtype b.rtype) _ name.1 in
    let class = both (nat_eq a.class b.class) _ rtype.1 in
    let flags = both (class_number a.flags == class_number b.flags) _ class.1 in
    let bits = both (beq a.cd b.cd) (beq a.rd b.rd) flags.1 in
    parts (labels_same a.name b.name name.0) (eqb-true a.rtype b.rtype rtype.0) (eqb-true a.class b.class class.0) (classes_same a.flags b.flags flags.0) (bits_same a.cd b.cd bits.0) (bits_same a.rd b.rd bits.1)
  where
    parts : {n1 n2 : Labels} {t1 t2 c1 c2 : ℕ} {f1 f2 : FlagClass} {d1 d2 r1 r2 : Bool} → n1 ≡ n2 → t1 ≡ t2 → c1 ≡ c2 → f1 ≡ f2 → d1 ≡ d2 → r1 ≡ r2
        → Path Key (record { name = n1; rtype = t1; class = c1; flags = f1; cd = d1; rd = r1 }) (record { name = n2; rtype = t2; class = c2; flags = f2; cd = d2; rd = r2 })
    parts n t c f d r = cc

octets_itself : (xs : List ℕ) → pointwise ◌==◌ xs xs ≡ true
octets_itself [] = refl
octets_itself (x ∷ xs) = all (x == x) (pointwise ◌==◌ xs xs) (eq-eqb x x refl) (octets_itself xs)

labels_itself : (xs : Labels) → pointwise (pointwise ◌==◌) xs xs ≡ true
labels_itself [] = refl
labels_itself (x ∷ xs) = all (pointwise ◌==◌ x x) (pointwise (pointwise ◌==◌) xs xs) (octets_itself x) (labels_itself xs)

bit_itself : (b : Bool) → beq b b ≡ true
bit_itself true = refl
bit_itself false = refl

-- a key is the same as itself
pub same_itself : (k : Key) → same_key k k ≡ true
same_itself k =
    all _ _ (labels_itself k.name)
    (all _ _ (eq-eqb k.rtype k.rtype refl)
    (all _ _ (eq-eqb k.class k.class refl)
    (all _ _ (eq-eqb (class_number k.flags) (class_number k.flags) refl)
    (all _ _ (bit_itself k.cd) (bit_itself k.rd)))))

same_back : (a b : Key) → same_key a b ≡ true → same_key b a ≡ true
same_back a b e = subst (λ k. same_key k a ≡ true) (same_is_equal a b e) (same_itself a)

-- Whether keys are the same is an equivalence.
pub same_key_laws : IsEquivalence same_key
same_key_laws = record {
  refl = same_itself;
  symm = λ a b. both_ways (same_key a b) (same_key b a) (same_back a b) (same_back b a);
  congr = λ a b c e. ap (λ k. same_key k c) (same_is_equal a b e);
}

pub same_key_partly : IsPartialEquivalence same_key
same_key_partly = record {
  symm = same_key_laws.symm;
  trans = λ a b c e f. same_key_laws.congr a b c e ∙ f;
}

pub same_key_hash : (a b : Key) → IsTrue (same_key a b) → key_hash a ≡ key_hash b
same_key_hash a b e = ap key_hash (same_is_equal a b e)
