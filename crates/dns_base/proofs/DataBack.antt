-- Data that was written, its names compressed, is read by its type.
use Rattle.std.proofs.Common.{◌≡◌, ℕ, ◌+◌, ◌<◌, ◌≤◌, ◌^◌, List, [], ◌∷◌, ◌++◌, length, refl, ap, sym, ◌∙◌, subst, arith, length-append, Bool, true, false, eq-eqb}
use Rattle.std.specs.Prelude.{Option, Some, None, option_map, option_and_then, slice_range, ◌==◌, ◌&&◌, ◌||◌, if◌then◌else◌, nat_le, IsTrue}
use Rattle.std.specs.Int.{w16, w32, to_be_bytes}
use Rattle.std.proofs.lemmas.Bool.{le-leb, eqb-true}
use Rattle.dns_names.specs.Name.{Labels, name_at, IsLegal, spelling, octet_count, lowered}
use Rattle.dns_names.proofs.NameLaws.{spelled_length}
use Rattle.dns_base.specs.Numbers.{u16_at, u32_at, ◌>>=◌}
use Rattle.dns_base.specs.Data.{Data, A, Aaaa, One, Minfo, Mx, StartOfAuthority, Service, Named, Txt, Opt, Other, Soa, Srv, is_one_name, is_of_type, name_to, octets_to, minfo_to, mx_to, soa_to, srv_to, data_at, data_spelling, data_size}
use Rattle.dns_base.specs.Forms.{form_of}
use Rattle.dns_base.specs.Message.{Known}
use Rattle.dns_base.specs.Knowing.{lowered_data}
use Rattle.dns_base.specs.Holding.{IsWritableData, IsPlace, ArePlaces}
use Rattle.dns_base.specs.DataReading.{DataReadsAs}
use Rattle.dns_base.specs.Compression.{Compressed, with_name, with_octets, with_u16, with_u32, with_numbers, with_data}
use Rattle.dns_base.proofs.Compressing.{continues_on}
use Rattle.dns_base.proofs.Named.{named_back, formed_read}
use Rattle.dns_base.proofs.Stands.{Stands, first_stands, second_stands, range_stands, stands_within, number_stands, wide_stands, name_stands, Shows, shows_before, shows_added}
use Rattle.dns_base.proofs.Places.{NameRead, name_read, name_remembered, octets_remembered, octets_shown}
use Rattle.dns_base.proofs.Sizes.{appended_long, named_continues, appended_continues, begins_long}

-- names, spelled out or compressed

pub spelled_back : (o : List ℕ) (labels : Labels) (at end : ℕ) → Stands o at (spelling labels) → IsLegal labels → at + length (spelling labels) ≡ end → NameRead o at end labels
spelled_back o labels at end s h e =
    let is : at + octet_count labels ≡ end = omega (arith, spelled_length labels) in
    record { back = labels; pointers = 0; read = name_stands o labels at s h ∙ ap (λ e. Some (record { labels = labels; end = e; pointers = 0 })) is; same = refl }

one_back : (b : Bool) (name : Labels) (n : ℕ) (c : Compressed) (o : List ℕ) → n ≤ length c.octets → IsLegal name → ArePlaces c.octets o c.places → Shows n (if b then with_octets (spelling name) c else with_name name c).octets o
    → NameRead o (length c.octets) (length (if b then with_octets (spelling name) c else with_name name c).octets) name
one_back true name n c o long legal places s = spelled_back o name (length c.octets) _ (octets_shown (spelling name) n c o long s) legal (sym (appended_long (spelling name) c))
one_back false name n c o long legal places s = name_read name n c o long legal places s

one_remembered : (b : Bool) (name : Labels) (n : ℕ) (c : Compressed) (o : List ℕ) → n ≤ length c.octets → IsLegal name → ArePlaces c.octets o c.places → Shows n (if b then with_octets (spelling name) c else with_name name c).octets o
    → let now = if b then with_octets (spelling name) c else with_name name c in ArePlaces now.octets o now.places
one_remembered true name n c o long legal places s = octets_remembered (spelling name) c o places
one_remembered false name n c o long legal places s = name_remembered name n c o long legal places s

-- data by its type

name_fills : (o : List ℕ) (at end : ℕ) (labels : Labels) (r : NameRead o at end labels) → name_to o at end ≡ Some r.back
name_fills o at end labels r = rw (r.read, eq-eqb end end refl) refl

octets_fill : (o xs : List ℕ) (at end count : ℕ) → Stands o at xs → length xs ≡ count → at + length xs ≡ end → octets_to count o at end ≡ Some xs
octets_fill o xs at end count s c e =
    let is : at + count ≡ end = omega arith in
    rw (eq-eqb _ _ is, range_stands o xs at end s e) refl

not_that : (f : ℕ → Bool) (t n : ℕ) → f t ≡ true → f n ≡ false → (t == n) ≡ false
not_that f t n h g = go (t == n) refl
  where
    go : (b : Bool) → (t == n) ≡ b → (t == n) ≡ false
    go false e = e
    go true e = let same : t ≡ n = eqb-true t n e in let both : f t ≡ f n = ap f same in absurd cc

one_name_read : (rtype : ℕ) (o : List ℕ) (labels : Labels) (at end : ℕ) → is_one_name rtype ≡ true → (r : NameRead o at end labels) → data_at rtype o at end ≡ Some (One rtype r.back)
unfolding data_at
one_name_read rtype o labels at end t r = rw (not_that is_one_name rtype 1 t refl, not_that is_one_name rtype 28 t refl, t, name_fills o at end labels r) refl

minfo_read : (o : List ℕ) (first second : Labels) (at mid end : ℕ) (a : NameRead o at mid first) (b : NameRead o mid end second) → minfo_to o at end ≡ Some (Minfo a.back b.back)
minfo_read o first second at mid end a b = rw (a.read, name_fills o mid end second b) refl

mx_read : (o : List ℕ) (preference : ℕ) (name : Labels) (at next end : ℕ) → Stands o at (to_be_bytes w16 preference) → preference < 2 ^ 16 → next ≡ at + 2 → next ≤ end → (r : NameRead o next end name)
    → mx_to o at end ≡ Some (Mx preference r.back)
mx_read o preference name at next end s p e long r =
    let fills : name_to o (at + 2) end ≡ Some r.back = rw (← e) (name_fills o next end name r) in
    rw (le-leb (at + 2) end (omega arith), number_stands o preference at s p, fills) refl

srv_read : (o : List ℕ) (srv : Srv) (at end : ℕ) → Stands o at (data_spelling (Service srv)) → IsWritableData (Service srv) → at + length (data_spelling (Service srv)) ≡ end
    → srv_to o at end ≡ Some (Service srv)
unfolding data_spelling spelled_back
srv_read o srv at end s h e =
    let P : List ℕ = to_be_bytes w16 srv.priority in
    let W : List ℕ = to_be_bytes w16 srv.weight in
    let N : List ℕ = to_be_bytes w16 srv.port in
    let T : List ℕ = spelling srv.target in
    let front = first_stands o (P ++ W ++ N) T at s in
    let target = second_stands o (P ++ W ++ N) T at (at + 6) s refl in
    let front2 = first_stands o (P ++ W) N at front in
    let port = second_stands o (P ++ W) N at (at + 4) front refl in
    let priority = first_stands o P W at front2 in
    let weight = second_stands o P W at (at + 2) front2 refl in
    let fills : at + 6 + length T ≡ end = omega (arith, length-append (P ++ W ++ N) T) in
    let whole : name_to o (at + 6) end ≡ Some srv.target = name_fills o (at + 6) end srv.target (spelled_back o srv.target (at + 6) end target h.3 fills) in
    rw (
      le-leb (at + 6) end (omega arith),
      whole,
      number_stands o srv.priority at priority h.0,
      number_stands o srv.weight (at + 2) weight h.1,
      number_stands o srv.port (at + 4) port h.2,
    ) refl

-- the five numbers behind the names of an SOA record
record Numbers (soa : Soa) (o : List ℕ) (at : ℕ) : Type 0 where
  serial : u32_at o at ≡ soa.serial
  refresh : u32_at o (at + 4) ≡ soa.refresh
  retry : u32_at o (at + 8) ≡ soa.retry
  expire : u32_at o (at + 12) ≡ soa.expire
  minimum : u32_at o (at + 16) ≡ soa.minimum

soa_read : (o : List ℕ) (soa : Soa) (at mid numbers end : ℕ) (m : NameRead o at mid soa.mname) (r : NameRead o mid numbers soa.rname) → Numbers soa o numbers → numbers + 20 ≡ end
    → soa_to o at end ≡ Some (StartOfAuthority (record soa { mname = m.back; rname = r.back }))
soa_read o soa at mid numbers end m r n e = rw (m.read, r.read, eq-eqb _ _ e, n.serial, n.refresh, n.retry, n.expire, n.minimum) refl

numbers_shown : (soa : Soa) (n : ℕ) (c : Compressed) (o : List ℕ) → n ≤ length c.octets
    → (soa.serial < 2 ^ 32) × (soa.refresh < 2 ^ 32) × (soa.retry < 2 ^ 32) × (soa.expire < 2 ^ 32) × (soa.minimum < 2 ^ 32) → Shows n (with_numbers soa c).octets o → Numbers soa o (length c.octets)
unfolding with_numbers
numbers_shown soa n c o long h s =
    let c1 : Compressed = with_u32 soa.serial c in
    let c2 : Compressed = with_u32 soa.refresh c1 in
    let c3 : Compressed = with_u32 soa.retry c2 in
    let c4 : Compressed = with_u32 soa.expire c3 in
    let l1 : length c1.octets ≡ length c.octets + 4 = appended_long (to_be_bytes w32 soa.serial) c in
    let l2 : length c2.octets ≡ length c.octets + 8 = omega (arith, appended_long (to_be_bytes w32 soa.refresh) c1) in
    let l3 : length c3.octets ≡ length c.octets + 12 = omega (arith, appended_long (to_be_bytes w32 soa.retry) c2) in
    let l4 : length c4.octets ≡ length c.octets + 16 = omega (arith, appended_long (to_be_bytes w32 soa.expire) c3) in
    let s4 = shows_before n c4.octets _ o (omega arith) (appended_continues (to_be_bytes w32 soa.minimum) c4).octets s in
    let s3 = shows_before n c3.octets _ o (omega arith) (appended_continues (to_be_bytes w32 soa.expire) c3).octets s4 in
    let s2 = shows_before n c2.octets _ o (omega arith) (appended_continues (to_be_bytes w32 soa.retry) c2).octets s3 in
    let s1 = shows_before n c1.octets _ o (omega arith) (appended_continues (to_be_bytes w32 soa.refresh) c1).octets s2 in
    let serial = octets_shown (to_be_bytes w32 soa.serial) n c o long s1 in
    let refresh = subst (λ k. Stands o k (to_be_bytes w32 soa.refresh)) l1 (octets_shown (to_be_bytes w32 soa.refresh) n c1 o (omega arith) s2) in
    let retry = subst (λ k. Stands o k (to_be_bytes w32 soa.retry)) l2 (octets_shown (to_be_bytes w32 soa.retry) n c2 o (omega arith) s3) in
    let expire = subst (λ k. Stands o k (to_be_bytes w32 soa.expire)) l3 (octets_shown (to_be_bytes w32 soa.expire) n c3 o (omega arith) s4) in
    let minimum = subst (λ k. Stands o k (to_be_bytes w32 soa.minimum)) l4 (octets_shown (to_be_bytes w32 soa.minimum) n c4 o (omega arith) s) in
    record {
      serial = wide_stands o soa.serial (length c.octets) serial h.0;
      refresh = wide_stands o soa.refresh (length c.octets + 4) refresh h.1;
      retry = wide_stands o soa.retry (length c.octets + 8) retry h.2;
      expire = wide_stands o soa.expire (length c.octets + 12) expire h.3;
      minimum = wide_stands o soa.minimum (length c.octets + 16) minimum h.4;
    }

numbers_continue : (soa : Soa) (n : ℕ) (c : Compressed) (o : List ℕ) → n ≤ length c.octets → Shows n (with_numbers soa c).octets o → Shows n c.octets o
unfolding with_numbers
numbers_continue soa n c o long s =
    let c1 : Compressed = with_u32 soa.serial c in
    let c2 : Compressed = with_u32 soa.refresh c1 in
    let c3 : Compressed = with_u32 soa.retry c2 in
    let c4 : Compressed = with_u32 soa.expire c3 in
    let l1 = appended_long (to_be_bytes w32 soa.serial) c in
    let l2 = appended_long (to_be_bytes w32 soa.refresh) c1 in
    let l3 = appended_long (to_be_bytes w32 soa.retry) c2 in
    let l4 = appended_long (to_be_bytes w32 soa.expire) c3 in
    let s4 = shows_before n c4.octets _ o (omega (arith, l1, l2, l3, l4)) (appended_continues (to_be_bytes w32 soa.minimum) c4).octets s in
    let s3 = shows_before n c3.octets _ o (omega (arith, l1, l2, l3)) (appended_continues (to_be_bytes w32 soa.expire) c3).octets s4 in
    let s2 = shows_before n c2.octets _ o (omega (arith, l1, l2)) (appended_continues (to_be_bytes w32 soa.retry) c2).octets s3 in
    let s1 = shows_before n c1.octets _ o (omega (arith, l1)) (appended_continues (to_be_bytes w32 soa.refresh) c1).octets s2 in
    shows_before n c.octets _ o long (appended_continues (to_be_bytes w32 soa.serial) c).octets s1

numbers_long : (soa : Soa) (c : Compressed) → length (with_numbers soa c).octets ≡ length c.octets + 20
unfolding with_numbers
numbers_long soa c =
    let c1 : Compressed = with_u32 soa.serial c in
    let c2 : Compressed = with_u32 soa.refresh c1 in
    let c3 : Compressed = with_u32 soa.retry c2 in
    let c4 : Compressed = with_u32 soa.expire c3 in
    omega (arith, appended_long (to_be_bytes w32 soa.serial) c, appended_long (to_be_bytes w32 soa.refresh) c1, appended_long (to_be_bytes w32 soa.retry) c2, appended_long (to_be_bytes w32 soa.expire) c3, appended_long (to_be_bytes w32 soa.minimum) c4)

numbers_remembered : (soa : Soa) (c : Compressed) (o : List ℕ) → ArePlaces c.octets o c.places → ArePlaces (with_numbers soa c).octets o (with_numbers soa c).places
unfolding with_numbers
numbers_remembered soa c o places =
    octets_remembered _ _ o (octets_remembered _ _ o (octets_remembered _ _ o (octets_remembered _ _ o (octets_remembered (to_be_bytes w32 soa.serial) c o places))))

both : (a b : Bool) → (a && b) ≡ true → (a ≡ true) × (b ≡ true)
both true true e = (refl, refl)
both true false e = absurd cc
both false b e = absurd cc

-- octets that are the data as it is
plain_range : (octets : List ℕ) (n : ℕ) (c : Compressed) (o : List ℕ) → n ≤ length c.octets → Shows n (with_octets octets c).octets o
    → slice_range o (length c.octets) (length (with_octets octets c).octets) ≡ octets
plain_range octets n c o long s = range_stands o octets (length c.octets) _ (octets_shown octets n c o long s) (sym (appended_long octets c))

-- The data of a record, read between where it was begun and where it ended.
pub data_reads_as : (content : Data) (rtype n : ℕ) (c : Compressed) (o : List ℕ) (known : Known) → IsTrue (is_of_type rtype content) → IsWritableData content → data_size content < 2 ^ 16 → n ≤ length c.octets
    → ArePlaces c.octets o c.places → Shows n (with_data content c).octets o → known.entry.octets ≡ slice_range o (length c.octets) (length (with_data content c).octets)
    → known.says ≡ data_at rtype o (length c.octets) (length (with_data content c).octets) → DataReadsAs known content
unfolding data_at with_data data_spelling
data_reads_as (A address) rtype n c o known t h few long places s e says =
    let is : rtype ≡ 1 = eqb-true rtype 1 t in
    let there = octets_shown address n c o long s in
    let read : data_at rtype o (length c.octets) (length (with_octets address c).octets) ≡ Some (A address) = rw (is, octets_fill o address (length c.octets) _ 4 there h (sym (appended_long address c))) refl in
    ap (option_map lowered_data) (says ∙ read)
data_reads_as (Aaaa address) rtype n c o known t h few long places s e says =
    let is : rtype ≡ 28 = eqb-true rtype 28 t in
    let there = octets_shown address n c o long s in
    let read : data_at rtype o (length c.octets) (length (with_octets address c).octets) ≡ Some (Aaaa address) = rw (is, octets_fill o address (length c.octets) _ 16 there h (sym (appended_long address c))) refl in
    ap (option_map lowered_data) (says ∙ read)
data_reads_as (One one name) rtype n c o known t h few long places s e says =
    let typed = both (is_one_name one) (rtype == one) t in
    let is : rtype ≡ one = eqb-true rtype one typed.1 in
    let end : ℕ = length (with_data (One one name) c).octets in
    let r : NameRead o (length c.octets) end name = one_back (one == 39) name n c o long h places s in
    let read : data_at rtype o (length c.octets) end ≡ Some (One one r.back) = ap (λ t. data_at t o (length c.octets) end) is ∙ one_name_read one o name (length c.octets) end typed.0 r in
    ap (option_map lowered_data) (says ∙ read) ∙ ap (λ l. Some (One one l)) r.same
data_reads_as (Minfo first second) rtype n c o known t h few long places s e says =
    let is : rtype ≡ 14 = eqb-true rtype 14 t in
    let c1 : Compressed = with_name first c in
    let c2 : Compressed = with_name second c1 in
    let more = begins_long c.octets c1.octets (named_continues first c).octets in
    let s1 = shows_before n c1.octets c2.octets o (omega arith) (named_continues second c1).octets s in
    let a = name_read first n c o long h.0 places s1 in
    let b = name_read second n c1 o (omega arith) h.1 (name_remembered first n c o long h.0 places s1) s in
    let read : data_at rtype o (length c.octets) (length c2.octets) ≡ Some (Minfo a.back b.back) = rw is (minfo_read o first second (length c.octets) (length c1.octets) (length c2.octets) a b) in
    let low : Some (Minfo (lowered a.back) (lowered b.back)) ≡ Some (Minfo (lowered first) (lowered second)) = rw (a.same, b.same) refl in
    ap (option_map lowered_data) (says ∙ read) ∙ low
data_reads_as (Mx preference name) rtype n c o known t h few long places s e says =
    let is : rtype ≡ 15 = eqb-true rtype 15 t in
    let c1 : Compressed = with_u16 preference c in
    let c2 : Compressed = with_name name c1 in
    let next : length c1.octets ≡ length c.octets + 2 = appended_long (to_be_bytes w16 preference) c in
    let more = begins_long c1.octets c2.octets (named_continues name c1).octets in
    let s1 = shows_before n c1.octets c2.octets o (omega arith) (named_continues name c1).octets s in
    let r = name_read name n c1 o (omega arith) h.1 (octets_remembered (to_be_bytes w16 preference) c o places) s in
    let read : data_at rtype o (length c.octets) (length c2.octets) ≡ Some (Mx preference r.back) =
    rw is (mx_read o preference name (length c.octets) (length c1.octets) (length c2.octets) (octets_shown (to_be_bytes w16 preference) n c o long s1) h.0 next more r) in
    ap (option_map lowered_data) (says ∙ read) ∙ ap (λ l. Some (Mx preference l)) r.same
data_reads_as (StartOfAuthority soa) rtype n c o known t h few long places s e says =
    let is : rtype ≡ 6 = eqb-true rtype 6 t in
    let c1 : Compressed = with_name soa.mname c in
    let c2 : Compressed = with_name soa.rname c1 in
    let c3 : Compressed = with_numbers soa c2 in
    let more1 = begins_long c.octets c1.octets (named_continues soa.mname c).octets in
    let more2 = begins_long c1.octets c2.octets (named_continues soa.rname c1).octets in
    let s2 = numbers_continue soa n c2 o (omega arith) s in
    let s1 = shows_before n c1.octets c2.octets o (omega arith) (named_continues soa.rname c1).octets s2 in
    let m = name_read soa.mname n c o long h.0 places s1 in
    let r = name_read soa.rname n c1 o (omega arith) h.1 (name_remembered soa.mname n c o long h.0 places s1) s2 in
    let numbers = numbers_shown soa n c2 o (omega arith) h.2 s in
    let read : data_at rtype o (length c.octets) (length c3.octets) ≡ Some (StartOfAuthority (record soa { mname = m.back; rname = r.back })) =
    rw is (soa_read o soa (length c.octets) (length c1.octets) (length c2.octets) (length c3.octets) m r numbers (sym (numbers_long soa c2))) in
    ap (option_map lowered_data) (says ∙ read) ∙ ap (λ l. Some (StartOfAuthority (record soa { mname = l; rname = lowered r.back }))) m.same ∙ ap (λ l. Some (StartOfAuthority (record soa { mname = lowered soa.mname; rname = l }))) r.same
data_reads_as (Service srv) rtype n c o known t h few long places s e says =
    let is : rtype ≡ 33 = eqb-true rtype 33 t in
    let S : List ℕ = data_spelling (Service srv) in
    let read : data_at rtype o (length c.octets) (length (with_octets S c).octets) ≡ Some (Service srv) = rw is (srv_read o srv (length c.octets) _ (octets_shown S n c o long s) h (sym (appended_long S c))) in
    ap (option_map lowered_data) (says ∙ read)
data_reads_as (Named it) rtype n c o known t h few long places s e says =
    let S : List ℕ = data_spelling (Named it) in
    let end : ℕ = length (with_octets S c).octets in
    let read : data_at rtype o (length c.octets) end ≡ Some (Named it) =
    formed_read rtype it o (length c.octets) end t ∙ named_back (form_of rtype) o it (length c.octets) end (octets_shown S n c o long s) h.0 h.1 t few (sym (appended_long S c)) in
    ap (option_map lowered_data) (says ∙ read)
data_reads_as (Txt content) rtype n c o known t h few long places s e says = e ∙ plain_range content n c o long s
data_reads_as (Opt content) rtype n c o known t h few long places s e says = e ∙ plain_range content n c o long s
data_reads_as (Other content) rtype n c o known t h few long places s e says = e ∙ plain_range content n c o long s

pub data_remembered : (content : Data) (n : ℕ) (c : Compressed) (o : List ℕ) → IsWritableData content → n ≤ length c.octets → ArePlaces c.octets o c.places → Shows n (with_data content c).octets o
    → ArePlaces (with_data content c).octets o (with_data content c).places
unfolding with_data data_spelling
data_remembered (One one name) n c o h long places s = one_remembered (one == 39) name n c o long h places s
data_remembered (Minfo first second) n c o h long places s =
    let c1 : Compressed = with_name first c in
    let more = begins_long c.octets c1.octets (named_continues first c).octets in
    let s1 = shows_before n c1.octets _ o (omega arith) (named_continues second c1).octets s in
    name_remembered second n c1 o (omega arith) h.1 (name_remembered first n c o long h.0 places s1) s
data_remembered (Mx preference name) n c o h long places s =
    name_remembered name n (with_u16 preference c) o (omega (arith, appended_long (to_be_bytes w16 preference) c)) h.1 (octets_remembered (to_be_bytes w16 preference) c o places) s
data_remembered (StartOfAuthority soa) n c o h long places s =
    let c1 : Compressed = with_name soa.mname c in
    let c2 : Compressed = with_name soa.rname c1 in
    let more1 = begins_long c.octets c1.octets (named_continues soa.mname c).octets in
    let more2 = begins_long c1.octets c2.octets (named_continues soa.rname c1).octets in
    let s2 = numbers_continue soa n c2 o (omega arith) s in
    let s1 = shows_before n c1.octets c2.octets o (omega arith) (named_continues soa.rname c1).octets s2 in
    numbers_remembered soa c2 o (name_remembered soa.rname n c1 o (omega arith) h.1 (name_remembered soa.mname n c o long h.0 places s1) s2)
data_remembered (A octets) n c o h long places s = octets_remembered octets c o places
data_remembered (Aaaa octets) n c o h long places s = octets_remembered octets c o places
data_remembered (Service srv) n c o h long places s = octets_remembered _ c o places
data_remembered (Named it) n c o h long places s = octets_remembered _ c o places
data_remembered (Txt octets) n c o h long places s = octets_remembered octets c o places
data_remembered (Opt octets) n c o h long places s = octets_remembered octets c o places
data_remembered (Other octets) n c o h long places s = octets_remembered octets c o places
