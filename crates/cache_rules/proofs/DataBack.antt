-- Data that is read by its type, and is written, is read as the same.
use Rattle.std.proofs.Common.{◌≡◌, ℕ, ◌+◌, Bool, true, false, length, refl, ap, sym, subst, ◌∙◌, inl, inr, ◌==◌}
use Rattle.std.specs.Prelude.{Option, Some, None, option_map, option_and_then, if◌then◌else◌, slice_range, nat_le}
use Rattle.dns_names.specs.Name.{name_at}
use Rattle.dns_names.proofs.Heads.{then_ok, none_some, chosen}
use Rattle.std.proofs.lemmas.Option.{some_pair_parts}
use Rattle.dns_base.specs.Numbers.{u16_at, u32_at, ◌>>=◌}
use Rattle.dns_base.specs.Forms.{Form, form_of, named_to}
use Rattle.dns_base.specs.Data.{Data, A, Aaaa, One, Minfo, Mx, StartOfAuthority, Service, Named, Txt, Opt, Other, is_one_name, are_strings, are_options, octets_to, name_to, minfo_to, mx_to, soa_to, srv_to, srv_with, whole, formed_to, data_at}
use Rattle.dns_base.specs.Message.{Entry, Known, record_at}
use Rattle.dns_base.specs.Knowing.{lowered_data}
use Rattle.dns_base.specs.DataReading.{DataReadsAs}
use Rattle.right_trace.specs.Messages.{Octets}
use Rattle.cache_rules.proofs.WhatIsMet.{some_inside}

-- the octets of data that is kept as such
abbrev octets_in : Data → Option Octets
octets_in (A octets) = None
octets_in (Aaaa octets) = None
octets_in (One rtype name) = None
octets_in (Minfo first second) = None
octets_in (Mx preference name) = None
octets_in (StartOfAuthority soa) = None
octets_in (Service srv) = None
octets_in (Named it) = None
octets_in (Txt octets) = Some octets
octets_in (Opt octets) = Some octets
octets_in (Other octets) = Some octets

abbrev shown : Option Data → Option Octets
shown o = option_and_then octets_in o

-- what has parts is not kept as octets

map_shows_none : {T : Type 0} (f : T → Data) (o : Option T) → ((x : T) → octets_in (f x) ≡ None) → shown (option_map f o) ≡ None
map_shows_none f None h = refl
map_shows_none f (Some x) h = h x

then_shows_none : {T : Type 0} (f : T → Option Data) (o : Option T) → ((x : T) → shown (f x) ≡ None) → shown (o >>= f) ≡ None
then_shows_none f None h = refl
then_shows_none f (Some x) h = h x

either_shows_none : (b : Bool) (x y : Option Data) → shown x ≡ None → shown y ≡ None → shown (if b then x else y) ≡ None
either_shows_none true x y f g = f
either_shows_none false x y f g = g

minfo_shows_none : (o : Octets) (at end : ℕ) → shown (minfo_to o at end) ≡ None
minfo_shows_none o at end = then_shows_none _ (name_at o at) (λ first. then_shows_none _ (name_to o first.end end) (λ second. refl))

mx_shows_none : (o : Octets) (at end : ℕ) → shown (mx_to o at end) ≡ None
mx_shows_none o at end = either_shows_none (nat_le (at + 2) end) _ None (map_shows_none (Mx (u16_at o at)) (name_to o (at + 2) end) (λ x. refl)) refl

soa_shows_none : (o : Octets) (at end : ℕ) → shown (soa_to o at end) ≡ None
soa_shows_none o at end = then_shows_none _ (name_at o at) (λ mname. then_shows_none _ (name_at o mname.end) (λ rname. either_shows_none (rname.end + 20 == end) _ None refl refl))

srv_shows_none : (o : Octets) (at end : ℕ) → shown (srv_to o at end) ≡ None
srv_shows_none o at end = either_shows_none (nat_le (at + 6) end) _ None (map_shows_none (srv_with o at) (name_to o (at + 6) end) (λ x. refl)) refl

module _ (d : Data) (os : Octets) (kept : octets_in d ≡ Some os) where
  step : (b : Bool) (x y u v : Option Data) → (x ≡ Some d → u ≡ Some d) → (y ≡ Some d → v ≡ Some d) → (if b then x else y) ≡ Some d → (if b then u else v) ≡ Some d
  step true x y u v f g e = f e
  step false x y u v f g e = g e

  -- a reading of parts is none of this data
  parted : (x u : Option Data) → shown x ≡ None → x ≡ Some d → u ≡ Some d
  parted x u none e = none_some (sym none ∙ (ap shown e ∙ kept))

  wholly : (is_whole : Octets → Bool) (make : Octets → Data) → ((xs : Octets) → octets_in (make xs) ≡ Some xs) → (xs ys : Octets) → ys ≡ os → whole is_whole make xs ≡ Some d → whole is_whole make ys ≡ Some d
  wholly is_whole make all xs ys is e = elim (chosen (is_whole xs) (Some (make xs)) None (Some d) e) [
    | inl p ↦
        let its : Some xs ≡ Some os = sym (all xs) ∙ (ap shown p.1 ∙ kept) in
        let same : xs ≡ ys = cc in
        subst (λ zs. whole is_whole make zs ≡ Some d) same e
    | inr p ↦ none_some p.1
  ]

  otherwise : (xs ys : Octets) → ys ≡ os → Some (Other xs) ≡ Some d → Some (Other ys) ≡ Some d
  otherwise xs ys is e =
      let its : Some xs ≡ Some os = ap shown e ∙ kept in
      let same : xs ≡ ys = cc in
      subst (λ zs. Some (Other zs) ≡ Some d) same e

  formed : (form : Option Form) (o p : Octets) (at end from to : ℕ) → slice_range p from to ≡ os → formed_to form o at end ≡ Some d → formed_to form p from to ≡ Some d
  formed (Some form) o p at end from to is = parted _ _ (map_shows_none Named (named_to form o at end) (λ x. refl))
  formed None o p at end from to is = otherwise (slice_range o at end) (slice_range p from to) is

  -- the same octets at another place are read as the same data
  again : (rtype : ℕ) (o p : Octets) (at end from to : ℕ) → slice_range p from to ≡ os → data_at rtype o at end ≡ Some d → data_at rtype p from to ≡ Some d
  unfolding data_at
  again rtype o p at end from to is e =
      step (rtype == 1) _ _ _ _ (parted _ _ (map_shows_none A (octets_to 4 o at end) (λ x. refl)))
      (step (rtype == 28) _ _ _ _ (parted _ _ (map_shows_none Aaaa (octets_to 16 o at end) (λ x. refl)))
      (step (is_one_name rtype) _ _ _ _ (parted _ _ (map_shows_none (One rtype) (name_to o at end) (λ x. refl)))
      (step (rtype == 14) _ _ _ _ (parted _ _ (minfo_shows_none o at end))
      (step (rtype == 15) _ _ _ _ (parted _ _ (mx_shows_none o at end))
      (step (rtype == 6) _ _ _ _ (parted _ _ (soa_shows_none o at end))
      (step (rtype == 33) _ _ _ _ (parted _ _ (srv_shows_none o at end))
      (step (rtype == 16) _ _ _ _ (wholly are_strings Txt (λ x. refl) (slice_range o at end) (slice_range p from to) is)
      (step (rtype == 41) _ _ _ _ (wholly are_options Opt (λ x. refl) (slice_range o at end) (slice_range p from to) is)
      (formed (form_of rtype) o p at end from to is)))))))))
      e

-- the data of a record lies between two places of these octets
pub record Lies (o : Octets) (k : Known) : Type 0 where
  pub at : ℕ
  pub end : ℕ
  pub says : k.says ≡ data_at k.entry.rtype o at end
  pub octets : k.entry.octets ≡ slice_range o at end

pub record_lies : (o : Octets) (at end : ℕ) (k : Known) → record_at o at ≡ Some (k, end) → Lies o k
unfolding record_at
record_lies o at end k e =
    let owner = then_ok (name_at o at) _ (k, end) e in
    let after : ℕ = owner.0.end in
    let from : ℕ = after + 10 in
    let last : ℕ = from + u16_at o (after + 8) in
    let entry : Entry = record {
      owner = owner.0.labels;
      rtype = u16_at o after;
      class = u16_at o (after + 2);
      ttl = u32_at o (after + 4);
      octets = slice_range o from last;
    } in
    let found : Known = record { entry = entry; says = data_at (u16_at o after) o from last } in
    elim (chosen (nat_le (after + 10) (length o)) _ None (Some (k, end)) owner.2) [
      | inl p ↦
          elim (chosen (nat_le last (length o)) (Some (found, last)) None (Some (k, end)) p.1) [
            | inl q ↦
                let is = some_pair_parts found k last end q.1 in
                subst (Lies o) is.0 (record { at = from; end = last; says = refl; octets = refl })
            | inr q ↦ none_some q.1
          ]
      | inr p ↦ none_some p.1
    ]

-- data of a type that was read
pub record Comes (rtype : ℕ) (d : Data) : Type 0 where
  pub from : Octets
  pub at : ℕ
  pub end : ℕ
  pub is : data_at rtype from at end ≡ Some d

-- what a record says by its type, but for case
pub record Means (k : Known) (d : Data) : Type 0 where
  pub content : Data
  pub says : k.says ≡ Some content
  pub same : lowered_data content ≡ lowered_data d

by_parts : (k : Known) (d : Data) → option_map lowered_data k.says ≡ Some (lowered_data d) → Means k d
by_parts k d e = let x = some_inside lowered_data k.says (lowered_data d) e in record { content = x.0; says = x.1; same = x.2 }

by_octets : (o : Octets) (k : Known) (d : Data) (os : Octets) → octets_in d ≡ Some os → Lies o k → Comes k.entry.rtype d → k.entry.octets ≡ os → Means k d
by_octets o k d os kept lies comes is = record {
  content = d;
  says = lies.says ∙ again d os kept k.entry.rtype comes.from o comes.at comes.end lies.at lies.end (sym lies.octets ∙ is) comes.is;
  same = refl;
}

-- what is read back means what was written
pub meant : (o : Octets) (k : Known) (d : Data) → Lies o k → Comes k.entry.rtype d → DataReadsAs k d → Means k d
meant o k (A x) lies comes e = by_parts k (A x) e
meant o k (Aaaa x) lies comes e = by_parts k (Aaaa x) e
meant o k (One t n) lies comes e = by_parts k (One t n) e
meant o k (Minfo a b) lies comes e = by_parts k (Minfo a b) e
meant o k (Mx p n) lies comes e = by_parts k (Mx p n) e
meant o k (StartOfAuthority s) lies comes e = by_parts k (StartOfAuthority s) e
meant o k (Service s) lies comes e = by_parts k (Service s) e
meant o k (Named x) lies comes e = by_parts k (Named x) e
meant o k (Txt x) lies comes e = by_octets o k (Txt x) x refl lies comes e
meant o k (Opt x) lies comes e = by_octets o k (Opt x) x refl lies comes e
meant o k (Other x) lies comes e = by_octets o k (Other x) x refl lies comes e
