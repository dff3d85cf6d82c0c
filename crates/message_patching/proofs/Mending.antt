-- Two drafts of the same entries with other TTLs: one is the other with these TTLs written over it.
use Rattle.std.proofs.Common.{◌≡◌, ℕ, ◌+◌, ◌-◌, ◌≤◌, List, [], ◌∷◌, ◌++◌, length, refl, ap, sym, subst, ◌∙◌, arith, Bool, true, false, length-append, append_assoc, append-nil, ◌==◌}
use Rattle.std.specs.Prelude.{map, not, if◌then◌else◌}
use Rattle.std.specs.List.{AllByRecursion}
use Rattle.std.specs.Int.{w16, w32, to_be_bytes}
use Rattle.dns_values.specs.declared.numbers.Section.{Section}
use Rattle.dns_values.specs.declared.numbers.Section.TheVariants.{Answer, Authority, Additional}
use Rattle.dns_base.specs.Message.{Written}
use Rattle.dns_base.specs.Compression.{Compressed, with_octets, with_u16, with_u32, with_name, with_fields, with_counted_data, with_record}
use Rattle.dns_base.specs.Holding.{IsWritable}
use Rattle.cache_rules.specs.declared.copying.Ttls.{Ttls}
use Rattle.cache_rules.specs.declared.copying.Ttls.TheVariants.{Lessened}
use Rattle.cache_rules.specs.Viewing.{ttl_by, ttl_then}
use Rattle.message_patching.specs.Patching.{put_over, puts, has_ttl}
use Rattle.message_patching.proofs.Twins.{Twins, before_ttl, twins_octets, twins_name, twins_differ, twins_long, twins_counted, twins_record}
use Rattle.message_patching.proofs.Putting.{IsIn, puts_before, one_more, puts_more, more_room, one_in}

pub whole : (c d : Compressed) (p q : List ℕ) → Twins c d p q → Twins c d c.octets d.octets
whole c d p q t = record {
  back = [];
  first = sym (append-nil c.octets);
  second = sym (append-nil d.octets);
  long = sym (twins_long c d p q t);
  places = t.places;
  seen = t.seen;
  mine = t.mine;
  other = t.other;
}

-- The second is the first with these octets written over it.
pub record Mended (ws : List (ℕ × List ℕ)) (c d : Compressed) : Type 0 where
  pub twins : Twins c d c.octets d.octets
  pub within : AllByRecursion (IsIn (length c.octets)) ws
  pub is : d.octets ≡ puts ws c.octets

-- what is pushed on both alike
pub pushed : (ws : List (ℕ × List ℕ)) (c d c1 d1 : Compressed) → Mended ws c d → Twins c1 d1 c.octets d.octets → Mended ws c1 d1
pushed ws c d c1 d1 m t = record {
  twins = whole c1 d1 c.octets d.octets t;
  within = more_room ws (length c.octets) (length c1.octets) (omega (arith, ap length t.first, length-append c.octets t.back)) m.within;
  is = t.second ∙ ap (λ x. x ++ t.back) m.is ∙ sym (puts_before ws c.octets t.back m.within) ∙ ap (puts ws) (sym t.first);
}

-- and where they differ
pub differing : (ws : List (ℕ × List ℕ)) (c d : Compressed) (old new : List ℕ) → length old ≡ length new → Mended ws c d
    → Mended (ws ++ (length c.octets, new) ∷ []) (with_octets old c) (with_octets new d)
unfolding with_octets
differing ws c d old new e m =
    let both = twins_differ old new c d c.octets d.octets e m.twins in
    let front : List ℕ = puts ws c.octets in
    let long : length front ≡ length c.octets = ap length (sym m.is) ∙ twins_long c d c.octets d.octets m.twins in
    let last : put_over (length c.octets) new (front ++ old) ≡ front ++ new = subst (λ n. put_over n new (front ++ old) ≡ front ++ new) long (one_more front old new e) in
    record {
      twins = whole (with_octets old c) (with_octets new d) _ _ both;
      within = one_in ws (length c.octets, new) (length (c.octets ++ old)) (more_room ws (length c.octets) (length (c.octets ++ old)) (omega (arith, length-append c.octets old)) m.within) (omega (arith, length-append c.octets old, e));
      is = ap (λ x. x ++ new) m.is ∙ sym last ∙ ap (put_over (length c.octets) new) (sym (puts_before ws c.octets old m.within)) ∙ sym (puts_more ws ((length c.octets, new) ∷ []) (c.octets ++ old));
    }

-- a record with another TTL
pub record_mended : (ws : List (ℕ × List ℕ)) (w : Written) (ttl : ℕ) (c d : Compressed) → IsWritable w → Mended ws c d
    → Mended (ws ++ (length (before_ttl w c).octets, to_be_bytes w32 ttl) ∷ []) (with_record w c) (with_record (record w { ttl = ttl }) d)
unfolding with_record with_fields
record_mended ws w ttl c d h m =
    let front = twins_octets (to_be_bytes w16 w.class) _ _ c.octets d.octets (twins_octets (to_be_bytes w16 w.rtype) _ _ c.octets d.octets (twins_name w.owner c d c.octets d.octets h.owner m.twins)) in
    let fields = pushed ws c d (before_ttl w c) (before_ttl w d) m front in
    let timed = differing ws (before_ttl w c) (before_ttl w d) (to_be_bytes w32 w.ttl) (to_be_bytes w32 ttl) refl fields in
    pushed _ (with_u32 w.ttl (before_ttl w c)) (with_u32 ttl (before_ttl w d)) _ _ timed (twins_counted w.content (with_u32 w.ttl (before_ttl w c)) (with_u32 ttl (before_ttl w d)) _ _ h.content timed.twins)

-- the same record
pub same_record : (ws : List (ℕ × List ℕ)) (w : Written) (c d : Compressed) → IsWritable w → Mended ws c d → Mended ws (with_record w c) (with_record w d)
same_record ws w c d h m = pushed ws c d (with_record w c) (with_record w d) m (twins_record w c d c.octets d.octets h m.twins)

-- records of a section

abbrev pub all_records : List Written → Compressed → Compressed
all_records [] c = c
all_records (w ∷ ws) c = all_records ws (with_record w c)

abbrev pub retimed : Section → Ttls → Written → Written
retimed s n w = record w { ttl = ttl_then s n w.rtype w.ttl }

-- what is written over them
abbrev pub ttl_writes : Section → Ttls → List Written → Compressed → List (ℕ × List ℕ)
ttl_writes s n [] c = []
ttl_writes s n (w ∷ ws) c =
    if has_ttl s w.rtype then (length (before_ttl w c).octets, to_be_bytes w32 (ttl_by n w.ttl)) ∷ ttl_writes s n ws (with_record w c) else ttl_writes s n ws (with_record w c)

has_time : (s : Section) (n : Ttls) (t ttl : ℕ) → has_ttl s t ≡ true → ttl_then s n t ttl ≡ ttl_by n ttl
has_time Answer n t ttl e = refl
has_time Authority n t ttl e = refl
has_time Additional n t ttl e = go (t == 41) e
  where
    go : (b : Bool) → not b ≡ true → (if b then ttl else ttl_by n ttl) ≡ ttl_by n ttl
    go true f = absurd cc
    go false f = refl

has_none : (s : Section) (n : Ttls) (t ttl : ℕ) → has_ttl s t ≡ false → ttl_then s n t ttl ≡ ttl
has_none Answer n t ttl e = absurd cc
has_none Authority n t ttl e = absurd cc
has_none Additional n t ttl e = go (t == 41) e
  where
    go : (b : Bool) → not b ≡ false → (if b then ttl else ttl_by n ttl) ≡ ttl
    go true f = refl
    go false f = absurd cc

pub records_mended : (s : Section) (n : Ttls) (ws : List Written) (done : List (ℕ × List ℕ)) (c d : Compressed) → AllByRecursion IsWritable ws → Mended done c d
    → Mended (done ++ ttl_writes s n ws c) (all_records ws c) (all_records (map (retimed s n) ws) d)
records_mended s n [] done c d h m = subst (λ ws. Mended ws c d) (sym (append-nil done)) m
records_mended s n (w ∷ ws) done c d h m = go (has_ttl s w.rtype) refl (λ done d m. records_mended s n ws done (with_record w c) d h.1 m)
  where
    next : Compressed
    next = with_record w c

    go : (b : Bool) → has_ttl s w.rtype ≡ b
        → ((done : List (ℕ × List ℕ)) (d : Compressed) → Mended done next d → Mended (done ++ ttl_writes s n ws next) (all_records ws next) (all_records (map (retimed s n) ws) d))
        → Mended (done ++ (if b then (length (before_ttl w c).octets, to_be_bytes w32 (ttl_by n w.ttl)) ∷ ttl_writes s n ws next else ttl_writes s n ws next))
        (all_records ws next) (all_records (map (retimed s n) ws) (with_record (retimed s n w) d))
    go true e others =
        let one : ℕ × List ℕ = (length (before_ttl w c).octets, to_be_bytes w32 (ttl_by n w.ttl)) in
        let first : Mended (done ++ one ∷ []) next (with_record (retimed s n w) d) =
        subst (λ ttl. Mended (done ++ one ∷ []) next (with_record (record w { ttl = ttl }) d)) (sym (has_time s n w.rtype w.ttl e)) (record_mended done w (ttl_by n w.ttl) c d h.0 m) in
        subst (λ z. Mended z (all_records ws next) (all_records (map (retimed s n) ws) (with_record (retimed s n w) d))) (append_assoc done (one ∷ []) (ttl_writes s n ws next))
        (others (done ++ one ∷ []) (with_record (retimed s n w) d) first)
    go false e others =
        let first : Mended done next (with_record (retimed s n w) d) =
        subst (λ ttl. Mended done next (with_record (record w { ttl = ttl }) d)) (sym (has_none s n w.rtype w.ttl e)) (same_record done w c d h.0 m) in
        others done (with_record (retimed s n w) d) first

-- TTLs that are 0 seconds less are as they were
plain_time : (s : Section) (t ttl : ℕ) → ttl_then s (Lessened 0) t ttl ≡ ttl
plain_time Answer t ttl = omega arith
plain_time Authority t ttl = omega arith
plain_time Additional t ttl = go (t == 41)
  where
    go : (b : Bool) → (if b then ttl else ttl - 0) ≡ ttl
    go true = refl
    go false = omega arith

pub plain_times : (s : Section) (ws : List Written) → map (retimed s (Lessened 0)) ws ≡ ws
plain_times s [] = refl
plain_times s (w ∷ ws) = ap (λ ttl. record w { ttl = ttl } ∷ map (retimed s (Lessened 0)) ws) (plain_time s w.rtype w.ttl) ∙ ap (λ vs. w ∷ vs) (plain_times s ws)
