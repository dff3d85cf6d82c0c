-- Records that are equal by their order are the same.
use Rattle.std.proofs.Common.{◌≡◌, ℕ, true, List, ap, ◌∙◌, refl}
use Rattle.std.specs.declared.cmp.Ordering.{Ordering}
use Rattle.std.specs.declared.cmp.Ordering.TheVariants.{Less, Equal, Greater}
use Rattle.std.specs.Ordering.{is_eq, nat_cmp, ordering_then}
use Rattle.std.proofs.lemmas.Map.Lookups.{exact_unsigned, exact_bytes}
use Rattle.zone_records.specs.Records.{octets_cmp, data_cmp, type_cmp, record_cmp, is_same, EqualRecordsLaw}
use Rattle.zone_records.specs.declared.record.ZoneRecord.{ZoneRecord}

first_is : (x y : Ordering) → ordering_then x y ≡ Equal → x ≡ Equal
first_is Less y e = absurd (cc)
first_is Equal y e = refl
first_is Greater y e = absurd (cc)

second_is : (x y : Ordering) → ordering_then x y ≡ Equal → y ≡ Equal
second_is Less y e = absurd (cc)
second_is Equal y e = e
second_is Greater y e = absurd (cc)

abbrev made : List ℕ → (rtype class ttl : ℕ) → List ℕ → ZoneRecord
made owner rtype class ttl rdata = record { owner = owner; rtype = record { 0 = rtype }; class = record { 0 = class }; ttl = record { 0 = ttl }; rdata = rdata }

pub equal_records : EqualRecordsLaw
equal_records a b e =
    let owner : a.owner ≡ b.owner = exact_bytes a.owner b.owner (first_is _ _ e) in
    let behind : type_cmp a b ≡ Equal = second_is (octets_cmp a.owner b.owner) _ e in
    let rtype : a.rtype.0 ≡ b.rtype.0 = exact_unsigned a.rtype.0 b.rtype.0 (first_is _ _ behind) in
    let others = second_is (nat_cmp a.rtype.0 b.rtype.0) _ behind in
    let class : a.class.0 ≡ b.class.0 = exact_unsigned a.class.0 b.class.0 (first_is _ _ others) in
    let last : data_cmp a b ≡ Equal = second_is (nat_cmp a.class.0 b.class.0) _ others in
    let rdata : a.rdata ≡ b.rdata = exact_bytes a.rdata b.rdata (first_is _ _ last) in
    let ttl : a.ttl.0 ≡ b.ttl.0 = exact_unsigned a.ttl.0 b.ttl.0 (second_is (octets_cmp a.rdata b.rdata) _ last) in
    ap (λ (n : List ℕ). made n a.rtype.0 a.class.0 a.ttl.0 a.rdata) owner
    ∙ (ap (λ (n : ℕ). made b.owner n a.class.0 a.ttl.0 a.rdata) rtype
    ∙ (ap (λ (n : ℕ). made b.owner b.rtype.0 n a.ttl.0 a.rdata) class
    ∙ (ap (λ (n : ℕ). made b.owner b.rtype.0 b.class.0 n a.rdata) ttl ∙ ap (λ (n : List ℕ). made b.owner b.rtype.0 b.class.0 b.ttl.0 n) rdata)))

is_equal : (o : Ordering) → is_eq o ≡ true → o ≡ Equal
is_equal Less e = absurd (cc)
is_equal Equal e = refl
is_equal Greater e = absurd (cc)

pub same_is : (x y : ZoneRecord) → is_same x y ≡ true → x ≡ y
same_is x y e = equal_records x y (is_equal (record_cmp x y) e)
