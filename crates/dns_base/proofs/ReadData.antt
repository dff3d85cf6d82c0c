-- Data that is read is of its type, and short enough to be written.
use Rattle.std.proofs.Common.{◌≡◌, ℕ, ◌+◌, ◌-◌, ◌<◌, ◌≤◌, List, ◌++◌, length, take, drop, refl, ap, sym, subst, arith, length-append, Bool, true, false, inl, inr, eq-eqb, ◌∙◌}
use Rattle.std.specs.Prelude.{Option, Some, None, Result, Ok, Err, MatchResult, IfOk, IsTrue, option_map, option_and_then, slice_range, cond, ◌==◌, ◌&&◌, nat_le, nat_lt}
use Rattle.std.specs.Int.{w16, w32, to_be_bytes}
use Rattle.std.proofs.lemmas.List.{length-take}
use Rattle.dns_names.specs.Name.{Labels, Found, name_at, IsLegal, spelling, octet_count}
use Rattle.dns_names.proofs.Heads.{then_ok, none_some, chosen}
use Rattle.dns_names.proofs.NameLaws.{spelled_length, read_legal}
use Rattle.dns_values.specs.declared.error.ParseError.{ParseError}
use Rattle.dns_base.specs.declared.record_data.RecordData.{RecordData}
use Rattle.dns_base.specs.RecordData.{data_view}
use Rattle.dns_base.specs.Message.{Known}
use Rattle.dns_base.specs.Knowing.{lowered_data}
use Rattle.dns_base.specs.DataReading.{DataReadsAs}
use Rattle.dns_base.specs.Numbers.{u16_at, u32_at, ◌>>=◌}
use Rattle.dns_base.specs.Data.{Data, A, Aaaa, One, Minfo, Mx, StartOfAuthority, Service, Named, Txt, Opt, Other, Soa, Srv, srv_with, whole, is_one_name, is_of_type, are_strings, are_options, name_to, octets_to, minfo_to, mx_to, soa_to, srv_to, formed_to, data_at, data_size}
use Rattle.dns_base.specs.Forms.{Form, form_of, named_to, has_form}
use Rattle.dns_base.proofs.Named.{named_formed}

-- Data that is kept as octets is all the octets.
abbrev IsAll : List ℕ → Data → Type 0
IsAll octets (Txt content) = octets ≡ content
IsAll octets (Opt content) = octets ≡ content
IsAll octets (Other content) = octets ≡ content
IsAll octets _ = Unit {0}

pub record Fits (rtype : ℕ) (octets : List ℕ) (d : Data) : Type 0 where
  pub typed : is_of_type rtype d ≡ true
  pub short : data_size d < 65536
  pub all : IsAll octets d

some_inside : {A B : Type 0} → (f : A → B) (o : Option A) (d : B) → option_map f o ≡ Some d → (x : A) × (o ≡ Some x) × (f x ≡ d)
some_inside f None d e = none_some e
some_inside f (Some x) d e = (x, refl, cc)

range_short : (octets : List ℕ) (at end : ℕ) → end < at + 65536 → length (slice_range octets at end) < 65536
range_short octets at end h = omega (arith, length-take (end - at) (drop at octets))

name_short : (octets : List ℕ) (at end : ℕ) (name : Labels) → name_to octets at end ≡ Some name → octet_count name ≤ 255
name_short octets at end name e =
    let found = then_ok (name_at octets at) _ name e in
    elim (chosen (found.0.end == end) (Some found.0.labels) None (Some name) found.2) [
      | inl p ↦
          let legal = read_legal octets at found.0 found.1 in
          let its = p.1 in
          let same : found.0.labels ≡ name = cc in
          let P : Labels → Type 0 = λ n. octet_count n ≤ 255 in
          subst P same legal.1
      | inr p ↦ none_some p.1
    ]

found_short : (octets : List ℕ) (at : ℕ) (f : Found) → name_at octets at ≡ Some f → octet_count f.labels ≤ 255
found_short octets at f e = (read_legal octets at f e).1

is_it : (a b : Bool) → a ≡ true → b ≡ true → (a && b) ≡ true
is_it true b p q = q
is_it false b p q = absurd (cc)

octets_fit : (make : List ℕ → Data) → ((xs : List ℕ) → data_size (make xs) ≡ length xs) → (rtype count : ℕ) (octets : List ℕ) (at end : ℕ) (d : Data) → end < at + 65536
    → ((xs : List ℕ) → is_of_type rtype (make xs) ≡ true) → ((xs : List ℕ) → IsAll xs (make xs)) → option_map make (octets_to count octets at end) ≡ Some d → Fits rtype (slice_range octets at end) d
octets_fit make sized rtype count octets at end d h t all e =
    let x = some_inside make (octets_to count octets at end) d e in
    elim (chosen (at + count == end) (Some (slice_range octets at end)) None (Some x.0) x.1) [
      | inl p ↦
          let its = p.1 in
          let same : slice_range octets at end ≡ x.0 = cc in
          let long : data_size (make x.0) ≡ length (slice_range octets at end) = sized x.0 ∙ ap length (sym same) in
          subst (Fits rtype (slice_range octets at end)) x.2 (subst (λ y. Fits rtype y (make x.0)) (sym same) (record { typed = t x.0; short = omega (arith, long, range_short octets at end h); all = all x.0 }))
      | inr p ↦ none_some p.1
    ]

whole_fits : (is_whole : List ℕ → Bool) (make : List ℕ → Data) → ((xs : List ℕ) → data_size (make xs) ≡ length xs) → (rtype : ℕ) (octets : List ℕ) (at end : ℕ) (d : Data) → end < at + 65536
    → ((xs : List ℕ) → is_of_type rtype (make xs) ≡ true) → ((xs : List ℕ) → IsAll xs (make xs)) → whole is_whole make (slice_range octets at end) ≡ Some d → Fits rtype (slice_range octets at end) d
whole_fits is_whole make sized rtype octets at end d h t all e =
    elim (chosen (is_whole (slice_range octets at end)) (Some (make (slice_range octets at end))) None (Some d) e) [
      | inl p ↦
          let its = p.1 in
          let same : make (slice_range octets at end) ≡ d = cc in
          let long : data_size (make (slice_range octets at end)) ≡ length (slice_range octets at end) = sized (slice_range octets at end) in
          subst (Fits rtype (slice_range octets at end)) same (record { typed = t (slice_range octets at end); short = omega (arith, long, range_short octets at end h); all = all (slice_range octets at end) })
      | inr p ↦ none_some p.1
    ]

one_fits : (rtype : ℕ) (octets : List ℕ) (at end : ℕ) (d : Data) → is_one_name rtype ≡ true → option_map (One rtype) (name_to octets at end) ≡ Some d → Fits rtype (slice_range octets at end) d
one_fits rtype octets at end d t e =
    let x = some_inside (One rtype) (name_to octets at end) d e in
    subst (Fits rtype (slice_range octets at end)) x.2 (record { typed = is_it (is_one_name rtype) (rtype == rtype) t (eq-eqb rtype rtype refl); short = omega (arith, name_short octets at end x.0 x.1); all = tt })

minfo_fits : (rtype : ℕ) (octets : List ℕ) (at end : ℕ) (d : Data) → (rtype == 14) ≡ true → minfo_to octets at end ≡ Some d → Fits rtype (slice_range octets at end) d
minfo_fits rtype octets at end d t e =
    let first = then_ok (name_at octets at) _ d e in
    let second = then_ok (name_to octets first.0.end end) _ d first.2 in
    let its = second.2 in
    let same : Minfo first.0.labels second.0 ≡ d = cc in
    subst (Fits rtype (slice_range octets at end)) same (record { typed = t; short = omega (arith, found_short octets at first.0 first.1, name_short octets first.0.end end second.0 second.1); all = tt })

mx_fits : (rtype : ℕ) (octets : List ℕ) (at end : ℕ) (d : Data) → (rtype == 15) ≡ true → mx_to octets at end ≡ Some d → Fits rtype (slice_range octets at end) d
mx_fits rtype octets at end d t e =
    elim (chosen (nat_le (at + 2) end) (option_map (Mx (u16_at octets at)) (name_to octets (at + 2) end)) None (Some d) e) [
      | inl p ↦
          let x = some_inside (Mx (u16_at octets at)) (name_to octets (at + 2) end) d p.1 in
          subst (Fits rtype (slice_range octets at end)) x.2 (record { typed = t; short = omega (arith, name_short octets (at + 2) end x.0 x.1); all = tt })
      | inr p ↦ none_some p.1
    ]

srv_fits : (rtype : ℕ) (octets : List ℕ) (at end : ℕ) (d : Data) → (rtype == 33) ≡ true → srv_to octets at end ≡ Some d → Fits rtype (slice_range octets at end) d
srv_fits rtype octets at end d t e =
    elim (chosen (nat_le (at + 6) end) (option_map (srv_with octets at) (name_to octets (at + 6) end)) None (Some d) e) [
      | inl p ↦
          let x = some_inside (srv_with octets at) (name_to octets (at + 6) end) d p.1 in
          subst (Fits rtype (slice_range octets at end)) x.2 (record { typed = t; short = omega (arith, name_short octets (at + 6) end x.0 x.1); all = tt })
      | inr p ↦ none_some p.1
    ]

soa_fits : (rtype : ℕ) (octets : List ℕ) (at end : ℕ) (d : Data) → (rtype == 6) ≡ true → soa_to octets at end ≡ Some d → Fits rtype (slice_range octets at end) d
soa_fits rtype octets at end d t e =
    let mname = then_ok (name_at octets at) _ d e in
    let rname = then_ok (name_at octets mname.0.end) _ d mname.2 in
    let soa : Soa = record {
      mname = mname.0.labels;
      rname = rname.0.labels;
      serial = u32_at octets rname.0.end;
      refresh = u32_at octets (rname.0.end + 4);
      retry = u32_at octets (rname.0.end + 8);
      expire = u32_at octets (rname.0.end + 12);
      minimum = u32_at octets (rname.0.end + 16);
    } in
    elim (chosen (rname.0.end + 20 == end) (Some (StartOfAuthority soa)) None (Some d) rname.2) [
      | inl p ↦
          let its = p.1 in
          let same : StartOfAuthority soa ≡ d = cc in
          subst (Fits rtype (slice_range octets at end)) same (record { typed = t; short = omega (arith, found_short octets at mname.0 mname.1, found_short octets mname.0.end rname.0 rname.1); all = tt })
      | inr p ↦ none_some p.1
    ]

formed_fits : (rtype : ℕ) (f : Option Form) (octets : List ℕ) (at end : ℕ) (d : Data) → form_of rtype ≡ f → end < at + 65536 → formed_to f octets at end ≡ Some d → Fits rtype (slice_range octets at end) d
formed_fits rtype None octets at end d is h e =
    let same : Other (slice_range octets at end) ≡ d = cc in
    subst (Fits rtype (slice_range octets at end)) same (record { typed = refl; short = range_short octets at end h; all = refl })
formed_fits rtype (Some form) octets at end d is h e =
    let x = some_inside Named (named_to form octets at end) d e in
    let formed = named_formed form octets at end x.0 x.1 in
    let typed : has_form (form_of rtype) x.0 ≡ true = rw is formed.shaped in
    subst (Fits rtype (slice_range octets at end)) x.2 (record { typed = typed; short = formed.short; all = tt })

step : (P : Type 0) (d : Data) (b : Bool) (x y : Option Data) → (b ≡ true → x ≡ Some d → P) → (y ≡ Some d → P) → cond b x y ≡ Some d → P
step P d true x y f g e = f refl e
step P d false x y f g e = g e

pub data_fits : (rtype : ℕ) (octets : List ℕ) (at end : ℕ) (d : Data) → end < at + 65536 → data_at rtype octets at end ≡ Some d → Fits rtype (slice_range octets at end) d
unfolding data_at
data_fits rtype octets at end d h e =
    let P : Type 0 = Fits rtype (slice_range octets at end) d in
    step P d (rtype == 1) _ _ (λ t e. octets_fit A (λ _. refl) rtype 4 octets at end d h (λ _. t) (λ _. tt) e)
    (step P d (rtype == 28) _ _ (λ t e. octets_fit Aaaa (λ _. refl) rtype 16 octets at end d h (λ _. t) (λ _. tt) e)
    (step P d (is_one_name rtype) _ _ (λ t e. one_fits rtype octets at end d t e)
    (step P d (rtype == 14) _ _ (λ t e. minfo_fits rtype octets at end d t e)
    (step P d (rtype == 15) _ _ (λ t e. mx_fits rtype octets at end d t e)
    (step P d (rtype == 6) _ _ (λ t e. soa_fits rtype octets at end d t e)
    (step P d (rtype == 33) _ _ (λ t e. srv_fits rtype octets at end d t e)
    (step P d (rtype == 16) _ _ (λ t e. whole_fits are_strings Txt (λ _. refl) rtype octets at end d h (λ _. t) (λ _. refl) e)
    (step P d (rtype == 41) _ _ (λ t e. whole_fits are_options Opt (λ _. refl) rtype octets at end d h (λ _. t) (λ _. refl) e)
    (λ e. formed_fits rtype (form_of rtype) octets at end d refl h e)))))))))
    e

pub typed_if_read : (r : Result RecordData ParseError) (rtype : ℕ) (octets : List ℕ) (at end : ℕ) → end < at + 65536
    → MatchResult r (λ d. data_at rtype octets at end ≡ Some (data_view d)) (λ _. data_at rtype octets at end ≡ None) → IfOk r (λ d. IsTrue (is_of_type rtype (data_view d)))
typed_if_read (Ok d) rtype octets at end h m = (data_fits rtype octets at end (data_view d) h m).typed
typed_if_read (Err e) rtype octets at end h m = tt

pub short_if_read : (r : Result RecordData ParseError) (rtype : ℕ) (octets : List ℕ) (at end : ℕ) → end < at + 65536
    → MatchResult r (λ d. data_at rtype octets at end ≡ Some (data_view d)) (λ _. data_at rtype octets at end ≡ None) → IfOk r (λ d. data_size (data_view d) < 65536)
short_if_read (Ok d) rtype octets at end h m = (data_fits rtype octets at end (data_view d) h m).short
short_if_read (Err e) rtype octets at end h m = tt

says_itself : (known : Known) (d : Data) → known.says ≡ Some d → IsAll known.entry.octets d → DataReadsAs known d
says_itself known (A content) e all = ap (option_map lowered_data) e
says_itself known (Aaaa content) e all = ap (option_map lowered_data) e
says_itself known (One rtype name) e all = ap (option_map lowered_data) e
says_itself known (Minfo first second) e all = ap (option_map lowered_data) e
says_itself known (Mx preference name) e all = ap (option_map lowered_data) e
says_itself known (StartOfAuthority soa) e all = ap (option_map lowered_data) e
says_itself known (Service srv) e all = ap (option_map lowered_data) e
says_itself known (Named it) e all = ap (option_map lowered_data) e
says_itself known (Txt content) e all = all
says_itself known (Opt content) e all = all
says_itself known (Other content) e all = all

pub itself_if_read : (r : Result RecordData ParseError) (known : Known) (octets : List ℕ) (at end : ℕ) → end < at + 65536 → known.says ≡ data_at known.entry.rtype octets at end
    → known.entry.octets ≡ slice_range octets at end
    → MatchResult r (λ d. data_at known.entry.rtype octets at end ≡ Some (data_view d)) (λ _. data_at known.entry.rtype octets at end ≡ None) → IfOk r (λ d. DataReadsAs known (data_view d))
itself_if_read (Ok d) known octets at end h says is m =
    let fits = data_fits known.entry.rtype octets at end (data_view d) h m in
    says_itself known (data_view d) (says ∙ m) (subst (λ o. IsAll o (data_view d)) (sym is) fits.all)
itself_if_read (Err e) known octets at end h says is m = tt
