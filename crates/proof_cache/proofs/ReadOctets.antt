-- What is read from octets is of octets: names, and data by its type.
use Rattle.std.proofs.Common.{◌≡◌, ℕ, ◌+◌, ◌^◌, ◌<◌, Bool, true, false, inl, inr, List, [], ◌∷◌, ◌++◌, length, refl, sym, subst, arith}
use Rattle.std.specs.Prelude.{Option, Some, None, IfSome, option_map, map, slice_range, nat_le, ◌==◌, if◌then◌else◌}
use Rattle.std.specs.Char.{to_ascii_lowercase}
use Rattle.std.specs.Int.{w16, w32, to_be_bytes}
use Rattle.std.specs.List.{AllByRecursion}
use Rattle.std.proofs.lemmas.Option.{some_pair_parts}
use Rattle.std.proofs.lemmas.Str.Ascii.{lowercase_is}
use Rattle.dns_names.specs.Name.{Labels, Found, IsName, at_root, at_label, at_pointer, IsLabel, IsLegal, AreOctets, name_at, lowered, spelling}
use Rattle.dns_names.proofs.Heads.{then_ok, chosen, none_some}
use Rattle.dns_names.proofs.NameLaws.{read_is_name, read_legal}
use Rattle.dns_base.specs.Numbers.{u16_at, u32_at, ◌>>=◌}
use Rattle.dns_base.specs.Forms.{Form, NamedData, Second, form_of, size_before, second_at, second_spelling, ends_so, parts_to, named_to, named_size, named_spelling}
use Rattle.dns_base.specs.Data.{Data, A, Aaaa, One, Minfo, Mx, StartOfAuthority, Service, Named, Soa, Srv, is_one_name, are_strings, are_options, octets_to, name_to, srv_with, formed_to, data_at, data_spelling}
use Rattle.dns_base.specs.Message.{Entry, Known, record_at}
use Rattle.proof_cache.proofs.Octets.{OfOctets, joined, ranged, four, two_before}

-- ---- names

name_read : (o : List ℕ) (at : ℕ) (labels : Labels) (end pointers : ℕ) → OfOctets o → IsName o at labels end pointers → AreOctets labels
name_read o at labels end pointers octets (at_root a s) = tt
name_read o at labels end pointers octets (at_label a n ls e p s i) = (ranged o (a + 1) (a + 1 + n) octets, name_read o (a + 1 + n) ls e p octets i)
name_read o at labels end pointers octets (at_pointer a place ls e p s i) = name_read o place ls e p octets i

pub read_octets : (o : List ℕ) (at : ℕ) (f : Found) → OfOctets o → name_at o at ≡ Some f → AreOctets f.labels
read_octets o at f octets e = name_read o at f.labels f.end f.pointers octets (read_is_name o at f e).0

-- a name that may be written is spelled with octets
labels_spelled : (labels : Labels) → AllByRecursion IsLabel labels → AreOctets labels → OfOctets (spelling labels)
labels_spelled [] legal octets = (omega arith, tt)
labels_spelled (label ∷ labels) legal octets = (let few = legal.0.1 in omega (arith, few), joined label (spelling labels) octets.0 (labels_spelled labels legal.1 octets.1))

pub name_spelled : (labels : Labels) → IsLegal labels → AreOctets labels → OfOctets (spelling labels)
name_spelled labels legal octets = labels_spelled labels legal.0 octets

-- but for case

raised_below : (n : ℕ) → to_ascii_lowercase n < 2 ^ 8 → n < 2 ^ 8
raised_below n h = grind (arith, lowercase_is n)

lowered_below : (n : ℕ) → n < 2 ^ 8 → to_ascii_lowercase n < 2 ^ 8
lowered_below n h = grind (arith, lowercase_is n)

label_raised : (label : List ℕ) → OfOctets (map to_ascii_lowercase label) → OfOctets label
label_raised [] h = tt
label_raised (x ∷ xs) h = (raised_below x h.0, label_raised xs h.1)

label_lowered : (label : List ℕ) → OfOctets label → OfOctets (map to_ascii_lowercase label)
label_lowered [] h = tt
label_lowered (x ∷ xs) h = (lowered_below x h.0, label_lowered xs h.1)

name_raised : (labels : Labels) → AreOctets (lowered labels) → AreOctets labels
name_raised [] h = tt
name_raised (label ∷ labels) h = (label_raised label h.0, name_raised labels h.1)

name_lowered : (labels : Labels) → AreOctets labels → AreOctets (lowered labels)
name_lowered [] h = tt
name_lowered (label ∷ labels) h = (label_lowered label h.0, name_lowered labels h.1)

pub alike_octets : (a b : Labels) → lowered a ≡ lowered b → AreOctets b → AreOctets a
alike_octets a b same h = name_raised a (subst AreOctets (sym same) (name_lowered b h))

-- ---- data

-- what is found has a property

either_has : {T : Type 0} (P : T → Type 0) (b : Bool) (x y : Option T) → IfSome x P → IfSome y P → IfSome (if b then x else y) P
either_has P true x y f g = f
either_has P false x y f g = g

followed_has : {S T : Type 0} (P : T → Type 0) (f : S → Option T) (o : Option S) → ((x : S) → o ≡ Some x → IfSome (f x) P) → IfSome (o >>= f) P
followed_has P f None h = tt
followed_has P f (Some x) h = h x refl

abbrev SpellsOctets : Option Data → Type 0
SpellsOctets o = IfSome o (λ d. OfOctets (data_spelling d))

either_way : (b : Bool) (x y : Option Data) → SpellsOctets x → SpellsOctets y → SpellsOctets (if b then x else y)
either_way b x y f g = either_has (λ d. OfOctets (data_spelling d)) b x y f g

mapped : {T : Type 0} (f : T → Data) (o : Option T) → ((x : T) → o ≡ Some x → OfOctets (data_spelling (f x))) → SpellsOctets (option_map f o)
mapped f None h = tt
mapped f (Some x) h = h x refl

followed : {T : Type 0} (f : T → Option Data) (o : Option T) → ((x : T) → o ≡ Some x → SpellsOctets (f x)) → SpellsOctets (o >>= f)
followed f o h = followed_has (λ d. OfOctets (data_spelling d)) f o h

-- four octets more
four_more : (xs : List ℕ) (n : ℕ) → OfOctets xs → OfOctets (xs ++ to_be_bytes w32 n)
four_more xs n h = joined xs (to_be_bytes w32 n) h (four n)

soa_spelled : (soa : Soa) → OfOctets (spelling soa.mname) → OfOctets (spelling soa.rname) → OfOctets (data_spelling (StartOfAuthority soa))
unfolding data_spelling
soa_spelled soa m r =
    four_more _ soa.minimum (four_more _ soa.expire (four_more _ soa.retry (four_more _ soa.refresh (four_more _ soa.serial (joined (spelling soa.mname) (spelling soa.rname) m r)))))

minfo_spelled : (first second : Labels) → OfOctets (spelling first) → OfOctets (spelling second) → OfOctets (data_spelling (Minfo first second))
unfolding data_spelling
minfo_spelled first second h g = joined (spelling first) (spelling second) h g

mx_spelled : (preference : ℕ) (name : Labels) → OfOctets (spelling name) → OfOctets (data_spelling (Mx preference name))
unfolding data_spelling
mx_spelled preference name h = two_before preference (spelling name) h

srv_spelled : (srv : Srv) → OfOctets (spelling srv.target) → OfOctets (data_spelling (Service srv))
unfolding data_spelling
srv_spelled srv h =
    two_before srv.priority (to_be_bytes w16 srv.weight ++ to_be_bytes w16 srv.port ++ spelling srv.target)
    (two_before srv.weight (to_be_bytes w16 srv.port ++ spelling srv.target) (two_before srv.port (spelling srv.target) h))

module _ (o : List ℕ) (octets : OfOctets o) where
  name_there : (at : ℕ) (f : Found) → name_at o at ≡ Some f → OfOctets (spelling f.labels)
  name_there at f e = name_spelled f.labels (read_legal o at f e) (read_octets o at f octets e)

  last_name : (at end : ℕ) (labels : Labels) → name_to o at end ≡ Some labels → OfOctets (spelling labels)
  last_name at end labels e =
      let found = then_ok (name_at o at) (λ name. if name.end == end then Some name.labels else None) labels e in
      elim (chosen (found.0.end == end) (Some found.0.labels) None (Some labels) found.2) [
        | inl p ↦ let same = p.1 in let is : found.0.labels ≡ labels = cc in subst (λ ls. OfOctets (spelling ls)) is (name_there at found.0 found.1)
        | inr p ↦ none_some p.1
      ]

  address : (count at end : ℕ) (a : List ℕ) → octets_to count o at end ≡ Some a → OfOctets a
  address count at end a e = elim (chosen (at + count == end) (Some (slice_range o at end)) None (Some a) e) [
    | inl p ↦ let same = p.1 in let is : slice_range o at end ≡ a = cc in subst OfOctets is (ranged o at end octets)
    | inr p ↦ none_some p.1
  ]

  abbrev SpellsSecond : Second → Type 0
  SpellsSecond second = OfOctets (second_spelling second.name)

  second_spelled : (has_second : Bool) (at : ℕ) → IfSome (second_at has_second o at) SpellsSecond
  second_spelled false at = tt
  second_spelled true at = found (name_at o at) refl
    where
      found : (f : Option Found) → name_at o at ≡ f → IfSome (option_map (λ (found : Found). record { name = Some found.labels; end = found.end }) f) SpellsSecond
      found None e = tt
      found (Some f) e = name_there at f e

  abbrev SpellsNamed : NamedData → Type 0
  SpellsNamed it = OfOctets (named_spelling it)

  parts_spelled : (form : Form) (at end : ℕ) → IfSome (parts_to form o at end) SpellsNamed
  parts_spelled form at end =
      followed_has SpellsNamed _ (size_before form (slice_range o at end)) (λ size s.
      followed_has SpellsNamed _ (name_at o (at + size)) (λ first f.
      followed_has SpellsNamed _ (second_at form.has_second o first.end) (λ second e.
      either_has SpellsNamed (ends_so form.has_rest second.end end) _ None
      (joined _ _ (joined _ _ (joined _ _ (ranged o at (at + size) octets) (name_there (at + size) first f))
      (subst (λ x. IfSome x SpellsSecond) e (second_spelled form.has_second first.end))) (ranged o second.end end octets)) tt)))

  named_spelled : (form : Form) (at end : ℕ) → IfSome (named_to form o at end) SpellsNamed
  named_spelled form at end =
      followed_has SpellsNamed _ (parts_to form o at end) (λ it e.
      either_has SpellsNamed (nat_le (named_size it) 65535) (Some it) None (subst (λ x. IfSome x SpellsNamed) e (parts_spelled form at end)) tt)

  formed_spelled : (form : Option Form) (at end : ℕ) → SpellsOctets (formed_to form o at end)
  unfolding data_spelling
  formed_spelled None at end = ranged o at end octets
  formed_spelled (Some form) at end = mapped Named (named_to form o at end) (λ it e. subst (λ x. IfSome x SpellsNamed) e (named_spelled form at end))

  data_octets : (rtype at end : ℕ) → IfSome (data_at rtype o at end) (λ d. OfOctets (data_spelling d))
  unfolding data_at data_spelling
  data_octets rtype at end =
      either_way (rtype == 1) _ _ (mapped A (octets_to 4 o at end) (λ a e. address 4 at end a e))
      (either_way (rtype == 28) _ _ (mapped Aaaa (octets_to 16 o at end) (λ a e. address 16 at end a e))
      (either_way (is_one_name rtype) _ _ (mapped (One rtype) (name_to o at end) (λ name e. last_name at end name e))
      (either_way (rtype == 14) _ _ (followed _ (name_at o at) (λ first e. followed _ (name_to o first.end end) (λ second f. minfo_spelled first.labels second (name_there at first e) (last_name first.end end second f))))
      (either_way (rtype == 15) _ _ (either_way (nat_le (at + 2) end) _ None (mapped (Mx (u16_at o at)) (name_to o (at + 2) end) (λ name e. mx_spelled (u16_at o at) name (last_name (at + 2) end name e))) tt)
      (either_way (rtype == 6) _ _ (followed _ (name_at o at) (λ mname e. followed _ (name_at o mname.end) (λ rname f. either_way (rname.end + 20 == end) _ None
      (soa_spelled _ (name_there at mname e) (name_there mname.end rname f))
      tt)))
      (either_way (rtype == 33) _ _ (either_way (nat_le (at + 6) end) _ None (mapped (srv_with o at) (name_to o (at + 6) end) (λ name e.
      srv_spelled _ (last_name (at + 6) end name e))) tt)
      (either_way (rtype == 16) _ _ (either_way (are_strings (slice_range o at end)) _ None (ranged o at end octets) tt)
      (either_way (rtype == 41) _ _ (either_way (are_options (slice_range o at end)) _ None (ranged o at end octets) tt)
      (formed_spelled (form_of rtype) at end)))))))))

  -- a record whose name and data are spelled with octets
  pub record ReadsSpelled (k : Known) : Type 0 where
    pub owner : OfOctets (spelling k.entry.owner)
    pub content : IfSome k.says (λ d. OfOctets (data_spelling d))

  pub record_reads : (at end : ℕ) (k : Known) → record_at o at ≡ Some (k, end) → ReadsSpelled k
  unfolding record_at
  record_reads at end k e =
      let owner = then_ok (name_at o at) _ (k, end) e in
      let after : ℕ = owner.0.end in
      let from : ℕ = after + 10 in
      let last : ℕ = from + u16_at o (after + 8) in
      let entry : Entry = record {
        owner = owner.0.labels;
        rtype = u16_at o after;
        class = u16_at o (after + 2);
        ttl = u32_at o (after + 4);
        octets = slice_range o from last;
      } in
      let found : Known = record { entry = entry; says = data_at (u16_at o after) o from last } in
      elim (chosen (nat_le (after + 10) (length o)) _ None (Some (k, end)) owner.2) [
        | inl p ↦
            elim (chosen (nat_le last (length o)) (Some (found, last)) None (Some (k, end)) p.1) [
              | inl q ↦
                  let is = some_pair_parts found k last end q.1 in
                  subst ReadsSpelled is.0 (record { owner = name_there at owner.0 owner.1; content = data_octets (u16_at o after) from last })
              | inr q ↦ none_some q.1
            ]
        | inr p ↦ none_some p.1
      ]
