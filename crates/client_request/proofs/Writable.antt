-- What is read from octets can be written.
use Rattle.std.proofs.Common.{◌≡◌, ℕ, zero, suc, ◌+◌, ◌-◌, ◌^◌, ◌<◌, ◌≤◌, inl, inr, List, [], ◌∷◌, length, take, drop, refl, subst, arith, Bool, true, false}
use Rattle.std.specs.Prelude.{Option, Some, None, IfSome, option_map, slice_range, slice_index, nat_le, ◌==◌, if◌then◌else◌}
use Rattle.std.specs.Int.{w16, w32, from_be_bytes}
use Rattle.std.proofs.lemmas.Bool.{eqb-true, leb-true}
use Rattle.std.proofs.lemmas.List.{get_or-drop}
use Rattle.std.proofs.lemmas.Option.{some_pair_parts}
use Rattle.std.proofs.lemmas.List.Edits.{length-between}
use Rattle.dns_names.specs.Name.{Labels, Found, name_at, IsLegal}
use Rattle.dns_names.proofs.Heads.{then_ok, chosen, none_some}
use Rattle.dns_names.proofs.NameLaws.{read_legal}
use Rattle.dns_base.specs.Numbers.{u16_at, u32_at, ◌>>=◌}
use Rattle.dns_base.specs.Forms.{Form, NamedData, Second, form_of, size_before, second_at, ends_so, parts_to, named_size, named_to}
use Rattle.dns_base.specs.Data.{Data, A, Aaaa, One, Named, is_one_name, is_of_type, are_strings, are_options, octets_to, name_to, srv_with, formed_to, data_at, data_size}
use Rattle.dns_base.specs.Message.{Asked, Entry, Known, question_at, record_at}
use Rattle.dns_base.specs.Holding.{IsAskable, IsLegalSecond, IsWritable, IsWritableData}
use Rattle.dns_base.proofs.ReadData.{data_fits}
use Rattle.client_request.specs.Composed.{content_of, written_from}

abbrev pub AreOctets : List ℕ → Type 0
AreOctets xs = (i : ℕ) → slice_index xs i < 256

octets_taken : (n : ℕ) (xs : List ℕ) → AreOctets xs → AreOctets (take n xs)
octets_taken zero xs h i = omega arith
octets_taken (suc n) [] h i = omega arith
octets_taken (suc n) (x ∷ xs) h zero = h 0
octets_taken (suc n) (x ∷ xs) h (suc i) = octets_taken n xs (λ j. h (suc j)) i

octets_dropped : (n : ℕ) (xs : List ℕ) → AreOctets xs → AreOctets (drop n xs)
octets_dropped n xs h i = rw (get_or-drop n xs i 0) (h (n + i))

range_octets : (xs : List ℕ) (at end : ℕ) → AreOctets xs → AreOctets (slice_range xs at end)
range_octets xs at end h = octets_taken (end - at) (drop at xs) (octets_dropped at xs h)

two_small : (xs : List ℕ) → AreOctets xs → from_be_bytes w16 xs < 2 ^ 16
two_small xs h = omega (arith, h 0, h 1)

four_small : (xs : List ℕ) → AreOctets xs → from_be_bytes w32 xs < 2 ^ 32
four_small xs h = omega (arith, h 0, h 1, h 2, h 3)

u16_small : (xs : List ℕ) (at : ℕ) → AreOctets xs → u16_at xs at < 2 ^ 16
u16_small xs at h = two_small (slice_range xs at (at + 2)) (range_octets xs at (at + 2) h)

u32_small : (xs : List ℕ) (at : ℕ) → AreOctets xs → u32_at xs at < 2 ^ 32
u32_small xs at h = four_small (slice_range xs at (at + 4)) (range_octets xs at (at + 4) h)

-- data

abbrev Sound : Option Data → Type 0
Sound o = IfSome o IsWritableData

either_way : (b : Bool) (x y : Option Data) → (b ≡ true → Sound x) → (b ≡ false → Sound y) → Sound (if b then x else y)
either_way true x y f g = f refl
either_way false x y f g = g refl

mapped : {T : Type 0} (f : T → Data) (o : Option T) → ((x : T) → o ≡ Some x → IsWritableData (f x)) → Sound (option_map f o)
mapped f None h = tt
mapped f (Some x) h = h x refl

followed : {T : Type 0} (f : T → Option Data) (o : Option T) → ((x : T) → o ≡ Some x → Sound (f x)) → Sound (o >>= f)
followed f None h = tt
followed f (Some x) h = h x refl

name_legal : (octets : List ℕ) (at end : ℕ) (labels : Labels) → name_to octets at end ≡ Some labels → IsLegal labels
name_legal octets at end labels e =
    let found = then_ok (name_at octets at) (λ name. if name.end == end then Some name.labels else None) labels e in
    elim (chosen (found.0.end == end) (Some found.0.labels) None (Some labels) found.2) [
      | inl p ↦ let same = p.1 in let is : found.0.labels ≡ labels = cc in subst IsLegal is (read_legal octets at found.0 found.1)
      | inr p ↦ none_some p.1
    ]

address_long : (count : ℕ) (octets : List ℕ) (at end : ℕ) (a : List ℕ) → end ≤ length octets → octets_to count octets at end ≡ Some a → length a ≡ count
address_long count octets at end a within e =
    elim (chosen (at + count == end) (Some (slice_range octets at end)) None (Some a) e) [
      | inl p ↦
          let same = p.1 in
          let is : slice_range octets at end ≡ a = cc in
          rw (← is) (omega (arith, length-between octets at end within, eqb-true (at + count) end p.0))
      | inr p ↦ none_some p.1
    ]

-- names between octets
abbrev HasLegalNames : NamedData → Type 0
HasLegalNames it = IsLegal it.first × IsLegalSecond it.second

second_legal : (has_second : Bool) (octets : List ℕ) (at : ℕ) → IfSome (second_at has_second octets at) (λ second. IsLegalSecond second.name)
second_legal false octets at = tt
second_legal true octets at = by (name_at octets at) (λ found e. read_legal octets at found e)
  where
    by : (o : Option Found) → ((found : Found) → o ≡ Some found → IsLegal found.labels)
        → IfSome {T = Second} (option_map (λ found. record { name = Some found.labels; end = found.end }) o) (λ second. IsLegalSecond second.name)
    by None h = tt
    by (Some found) h = h found refl

parts_legal : (form : Form) (octets : List ℕ) (at end : ℕ) → IfSome (parts_to form octets at end) HasLegalNames
parts_legal form octets at end = sized (size_before form (slice_range octets at end))
  where
    closed : (b : Bool) (it : NamedData) → HasLegalNames it → IfSome (if b then Some it else None) HasLegalNames
    closed true it h = h
    closed false it h = tt

    parts : (from : ℕ) (first : Found) (second : Second) → NamedData
    parts from first second = record { before = slice_range octets at from; first = first.labels; second = second.name; behind = slice_range octets second.end end }

    ended : (from : ℕ) (first : Found) → IsLegal first.labels → (o : Option Second) → IfSome o (λ second. IsLegalSecond second.name)
        → IfSome (o >>= λ second. if ends_so form.has_rest second.end end then Some (parts from first second) else None) HasLegalNames
    ended from first h None g = tt
    ended from first h (Some second) g = closed (ends_so form.has_rest second.end end) (parts from first second) (h, g)

    named : (from : ℕ) (o : Option Found) → ((found : Found) → o ≡ Some found → IsLegal found.labels)
        → IfSome (o >>= λ first. second_at form.has_second octets first.end >>= λ second. if ends_so form.has_rest second.end end then Some (parts from first second) else None) HasLegalNames
    named from None h = tt
    named from (Some first) h = ended from first (h first refl) (second_at form.has_second octets first.end) (second_legal form.has_second octets first.end)

    sized : (o : Option ℕ) → IfSome (o >>= λ size. name_at octets (at + size) >>= λ first. second_at form.has_second octets first.end
        >>= λ second. if ends_so form.has_rest second.end end then Some (parts (at + size) first second) else None) HasLegalNames
    sized None = tt
    sized (Some size) = named (at + size) (name_at octets (at + size)) (λ found e. read_legal octets (at + size) found e)

named_writable : (form : Form) (octets : List ℕ) (at end : ℕ) → Sound (option_map Named (named_to form octets at end))
named_writable form octets at end = short (parts_to form octets at end) (parts_legal form octets at end)
  where
    kept : (b : Bool) (it : NamedData) → HasLegalNames it → Sound (option_map Named (if b then Some it else None))
    kept true it h = h
    kept false it h = tt

    short : (o : Option NamedData) → IfSome o HasLegalNames → Sound (option_map Named (o >>= λ it. if nat_le (named_size it) 65535 then Some it else None))
    short None h = tt
    short (Some it) h = kept (nat_le (named_size it) 65535) it h

formed_writable : (o : Option Form) (octets : List ℕ) (at end : ℕ) → Sound (formed_to o octets at end)
formed_writable (Some form) octets at end = named_writable form octets at end
formed_writable None octets at end = tt

data_writable : (rtype : ℕ) (octets : List ℕ) (at end : ℕ) → AreOctets octets → end ≤ length octets → IfSome (data_at rtype octets at end) IsWritableData
unfolding data_at
data_writable rtype octets at end h within =
    either_way (rtype == 1) _ _ (λ _. mapped A (octets_to 4 octets at end) (λ a e. address_long 4 octets at end a within e))
    (λ _. either_way (rtype == 28) _ _ (λ _. mapped Aaaa (octets_to 16 octets at end) (λ a e. address_long 16 octets at end a within e))
    (λ _. either_way (is_one_name rtype) _ _ (λ _. mapped (One rtype) (name_to octets at end) (λ name e. name_legal octets at end name e))
    (λ _. either_way (rtype == 14) _ _ (λ _. followed _ (name_at octets at) (λ first e. followed _ (name_to octets first.end end) (λ second f. (read_legal octets at first e, name_legal octets first.end end second f))))
    (λ _. either_way (rtype == 15) _ _ (λ _. either_way (nat_le (at + 2) end) _ None (λ _. mapped _ (name_to octets (at + 2) end) (λ name e. (u16_small octets at h, name_legal octets (at + 2) end name e))) (λ _. tt))
    (λ _. either_way (rtype == 6) _ _ (λ _. followed _ (name_at octets at) (λ mname e. followed _ (name_at octets mname.end) (λ rname f. either_way (rname.end + 20 == end) _ None
    (λ _. (
      read_legal octets at mname e,
      read_legal octets mname.end rname f,
      (u32_small octets rname.end h, u32_small octets (rname.end + 4) h, u32_small octets (rname.end + 8) h, u32_small octets (rname.end + 12) h, u32_small octets (rname.end + 16) h),
    ))
    (λ _. tt))))
    (λ _. either_way (rtype == 33) _ _ (λ _. either_way (nat_le (at + 6) end) _ None (λ _. mapped (srv_with octets at) (name_to octets (at + 6) end) (λ name e.
    (u16_small octets at h, u16_small octets (at + 2) h, u16_small octets (at + 4) h, name_legal octets (at + 6) end name e))) (λ _. tt))
    (λ _. either_way (rtype == 16) _ _ (λ _. either_way (are_strings (slice_range octets at end)) _ None (λ _. tt) (λ _. tt))
    (λ _. either_way (rtype == 41) _ _ (λ _. either_way (are_options (slice_range octets at end)) _ None (λ _. tt) (λ _. tt))
    (λ _. formed_writable (form_of rtype) octets at end)))))))))

-- entries

pub question_askable : (octets : List ℕ) (at end : ℕ) (q : Asked) → AreOctets octets → question_at octets at ≡ Some (q, end) → IsAskable q
unfolding question_at
question_askable octets at end q h e =
    let name = then_ok (name_at octets at) _ (q, end) e in
    let found : Asked = record { name = name.0.labels; rtype = u16_at octets name.0.end; class = u16_at octets (name.0.end + 2) } in
    elim (chosen (nat_le (name.0.end + 4) (length octets)) (Some (found, name.0.end + 4)) None (Some (q, end)) name.2) [
      | inl p ↦
          let is = some_pair_parts found q (name.0.end + 4) end p.1 in
          subst IsAskable is.0 (record {
            name = read_legal octets at name.0 name.1;
            rtype = u16_small octets name.0.end h;
            class = u16_small octets (name.0.end + 2) h;
          })
      | inr p ↦ none_some p.1
    ]

-- data of a type that a record has room for
record IsFitting (rtype : ℕ) (content : Data) : Type 0 where
  pub typed : is_of_type rtype content ≡ true
  pub short : data_size content < 65536

-- the content of a record that is read
content_fits : (rtype : ℕ) (octets : List ℕ) (at end : ℕ) (entry : Entry) (o : Option Data) → AreOctets octets → end ≤ length octets → end < at + 65536
    → entry.octets ≡ slice_range octets at end → data_at rtype octets at end ≡ o → IsFitting rtype (content_of entry o) × IsWritableData (content_of entry o)
content_fits rtype octets at end entry None h within few e is =
    (record { typed = refl; short = rw e (omega (arith, length-between octets at end within)) }, tt)
content_fits rtype octets at end entry (Some d) h within few e is =
    let sound = rw is at (data_writable rtype octets at end h within) in
    let fits = data_fits rtype octets at end d few is in
    (record { typed = fits.typed; short = fits.short }, sound)

pub record_writable : (octets : List ℕ) (at end : ℕ) (known : Known) → AreOctets octets → record_at octets at ≡ Some (known, end) → IsWritable (written_from known)
unfolding record_at
record_writable octets at end known h e =
    let owner = then_ok (name_at octets at) _ (known, end) e in
    let after : ℕ = owner.0.end in
    let from : ℕ = after + 10 in
    let last : ℕ = from + u16_at octets (after + 8) in
    let entry : Entry = record {
      owner = owner.0.labels;
      rtype = u16_at octets after;
      class = u16_at octets (after + 2);
      ttl = u32_at octets (after + 4);
      octets = slice_range octets from last;
    } in
    let found : Known = record { entry = entry; says = data_at (u16_at octets after) octets from last } in
    let P : Known → Type 0 = λ k. IsWritable (written_from k) in
    elim (chosen (nat_le (after + 10) (length octets)) _ None (Some (known, end)) owner.2) [
      | inl p ↦
          elim (chosen (nat_le last (length octets)) (Some (found, last)) None (Some (known, end)) p.1) [
            | inl q ↦
                let is = some_pair_parts found known last end q.1 in
                let few : last < from + 65536 = omega (arith, u16_small octets (after + 8) h) in
                let content = content_fits (u16_at octets after) octets from last entry _ h (leb-true _ _ q.0) few refl refl in
                subst P is.0 (record {
                  owner = read_legal octets at owner.0 owner.1;
                  rtype = u16_small octets after h;
                  class = u16_small octets (after + 2) h;
                  ttl = u32_small octets (after + 4) h;
                  typed = content.0.typed;
                  short = content.0.short;
                  content = content.1;
                })
            | inr q ↦ none_some q.1
          ]
      | inr p ↦ none_some p.1
    ]
