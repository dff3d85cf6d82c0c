-- The additional section of a simple reply: an OPT record may be its last record.
use Rattle.std.proofs.Common.{◌≡◌, ℕ, zero, ◌+◌, ◌-◌, ◌/◌, ◌^◌, ◌<◌, ◌≤◌, inl, inr, List, [], get_or, refl, ap, sym, subst, ◌∙◌, arith, true, ◌==◌, length}
use Rattle.std.specs.Prelude.{Option, Some, None, Ok, option_map, option_and_then, slice_range, slice_index}
use Rattle.std.specs.Option.{option_or, option_map_or}
use Rattle.std.specs.Int.{w32, from_be_bytes}
use Rattle.std.proofs.lemmas.Bool.{leb-true, le-leb, eqb-true}
use Rattle.std.proofs.lemmas.List.Edits.{get_or-between}
use Rattle.std.proofs.lemmas.Option.{slice_get-get_or}
use Rattle.dns_values.specs.declared.numbers.Section.TheVariants.{Additional}
use Rattle.dns_names.proofs.Heads.{chosen, none_some, positive, then_ok}
use Rattle.dns_names.proofs.NameLaws.{name_is_read}
use Rattle.dns_names.specs.Name.{Labels, at_root, name_at, octet_count, says_root}
use Rattle.dns_base.specs.Data.{Data, data_at}
use Rattle.dns_base.specs.Header.{Counts}
use Rattle.dns_base.specs.Message.{Entry, Known, items_at, record_at}
use Rattle.dns_base.specs.Numbers.{u16_at, u32_at}
use Rattle.dns_base.specs.OptRecord.{OptFields, first_opt, opt_fields, opt_in}
use Rattle.client_request.proofs.Writable.{AreOctets}
use Rattle.client_request.specs.Composed.{copies, each}
use Rattle.front_queries.proofs.Copied.{both}
use Rattle.front_queries.proofs.Drafted.{Named, Ran, drafted, items_next, more, more_none, run}
use Rattle.front_queries.proofs.Pieces.{range_octets}
use Rattle.front_queries.specs.Simple.{additional_from, is_plain_opt, last_of, simple, simple_end, simple_ends}
use Rattle.front_queries.specs.declared.simple.Simple.{Simple}

-- the high bits of a response code, of an OPT record if there is one
abbrev pub high_of : Option OptFields → ℕ
high_of opt = option_map_or (λ o. o.ext_rcode) opt 0

-- an OPT record, as it is read
record IsPlainOpt (m : List ℕ) (p : ℕ) : Type 0 where
  known : Known
  read : record_at m p ≡ Some (known, p + 11)
  typed : (known.entry.rtype == 41) ≡ true
  low : high_of (opt_in known) ≡ 0

first_zero : (xs : List ℕ) → AreOctets xs → get_or xs 0 0 ≡ 0 → from_be_bytes w32 xs / 2 ^ 24 ≡ 0
first_zero xs h e = omega (arith, e, h 1, h 2, h 3)

high_zero : (entry : Entry) (says : Option Data) → entry.ttl / 2 ^ 24 ≡ 0 → high_of (option_map (λ _. opt_fields entry) says) ≡ 0
high_zero entry None e = refl
high_zero entry (Some d) e = e

typed_low : (known : Known) → (known.entry.rtype == 41) ≡ true → known.entry.ttl / 2 ^ 24 ≡ 0 → high_of (opt_in known) ≡ 0
typed_low known typed e = rw typed (high_zero known.entry known.says e)

plain_opt : (m : List ℕ) (p : ℕ) → AreOctets m → is_plain_opt m p ≡ true → IsPlainOpt m p
unfolding record_at
plain_opt m p h is =
    let tests = both _ _ is in
    let within : p + 11 ≤ length m = leb-true _ _ tests.0 in
    let parts = both _ _ tests.1 in
    let owned = both _ _ parts.0 in
    let told = both _ _ parts.1 in
    let root : slice_index m p ≡ 0 = eqb-true _ _ owned.0 in
    let high : slice_index m (p + 5) ≡ 0 = eqb-true _ _ told.0 in
    let none : u16_at m (p + 9) ≡ 0 = eqb-true _ _ told.1 in
    let name : name_at m p ≡ Some (record { labels = []; end = p + 1; pointers = 0 }) =
    name_is_read m p [] (p + 1) 0 (at_root p (says_root (slice_get-get_or m p 0 (omega arith) ∙ ap (λ x. Some x) root))) (omega arith) (omega arith) in
    let eight : p + 1 + 8 ≡ p + 9 = omega arith in
    let end : p + 1 + 10 + u16_at m (p + 1 + 8) ≡ p + 11 = ap (λ k. p + 1 + 10 + u16_at m k) eight ∙ omega (arith, none) in
    let entry : Entry = record { owner = []; rtype = u16_at m (p + 1); class = u16_at m (p + 1 + 2); ttl = u32_at m (p + 1 + 4); octets = slice_range m (p + 1 + 10) (p + 11) } in
    let known : Known = record { entry = entry; says = data_at (u16_at m (p + 1)) m (p + 1 + 10) (p + 11) } in
    let four : p + 1 + 4 + 0 ≡ p + 5 = omega arith in
    let first : get_or (slice_range m (p + 1 + 4) (p + 1 + 4 + 4)) 0 0 ≡ 0 = get_or-between m (p + 1 + 4) (p + 1 + 4 + 4) 0 0 (omega arith) ∙ ap (slice_index m) four ∙ high in
    let low : u32_at m (p + 1 + 4) / 2 ^ 24 ≡ 0 = first_zero (slice_range m (p + 1 + 4) (p + 1 + 4 + 4)) (range_octets m (p + 1 + 4) (p + 1 + 4 + 4) h) first in
    record {
      known = known;
      read = rw (name, le-leb (p + 1 + 10) (length m) (omega (arith, within)), end, le-leb (p + 11) (length m) within) refl;
      typed = owned.1;
      low = typed_low known owned.1 low;
    }

-- The records of the additional section are copied, but for the OPT record, which tells no high bits of the response code.
pub record Added (m : List ℕ) (count p : ℕ) (s : Simple) : Type 0 where
  pub behind : p ≤ s.end
  pub few : s.additional ≤ count
  pub low : high_of (first_opt (items_at (record_at m) count p)) ≡ 0
  pub copied : (counts : Counts) (places : List ℕ) → counts.additional ≡ 0
      → each (copies Additional) (items_at (record_at m) count p) (drafted m counts places p) ≡ Ok (drafted m (more Additional s.additional counts) places s.end)

none_added : (m : List ℕ) (count p : ℕ) (s : Simple) → count ≡ 0 → simple p 0 ≡ s → Added m count p s
unfolding items_at
none_added m count p s none is =
    let P : ℕ → Type 0 = λ k. Added m k p (simple p 0) in
    subst (Added m count p) is (subst P (sym none) (record {
      behind = omega arith;
      few = omega arith;
      low = refl;
      copied = λ counts places zero. ap (λ c. Ok (drafted m c places p)) (sym (more_none Additional counts));
    }))

or_none : (o : Option OptFields) → option_or o None ≡ o
or_none None = refl
or_none (Some x) = refl

-- the OPT record is the last one
opt_last : (m : List ℕ) (name : Labels) (n count p mid : ℕ) (s : Simple) → AreOctets m → count ≡ n + 1 → count < 65535 → Ran m name n 1 count p mid → is_plain_opt m mid ≡ true → simple mid n ≡ s
    → Added m count p s
unfolding items_at
opt_last m name n count p mid s h sum few ran is same =
    let opt = plain_opt m mid h is in
    let items = items_next m opt.known 0 1 mid (mid + 11) opt.read refl in
    subst (Added m count p) same (record {
      behind = ran.behind;
      few = omega (arith, sum);
      low = ap high_of (ran.opt ∙ ap first_opt items ∙ or_none (opt_in opt.known)) ∙ opt.low;
      copied = λ counts places zero.
          ran.copied Additional counts places (omega (arith, zero, sum, few))
          ∙ ap (λ xs. each (copies Additional) xs (drafted m (more Additional n counts) places mid)) items
          ∙ rw opt.typed refl;
    })

one_end : (m : List ℕ) (p e : ℕ) → simple_end m p ≡ Some e → simple_ends m 1 p ≡ Some e
unfolding simple_ends
one_end m p e is = rw is refl

more_last : (n : ℕ) (counts : Counts) → more Additional 1 (more Additional n counts) ≡ more Additional (n + 1) counts
unfolding more
more_last n counts = ap (λ k. record counts { additional = k }) (omega arith)

some_in : (n : ℕ) (counts : Counts) → (more Additional n counts).additional ≡ counts.additional + n
unfolding more
some_in n counts = refl

-- the last one is simple too
simple_last : (m : List ℕ) (name : Labels) (n count p mid e : ℕ) (s : Simple) → Named m name → 12 + octet_count name ≤ p → count ≡ n + 1 → count < 65535 → Ran m name n 1 count p mid
    → simple_end m mid ≡ Some e → simple e (n + 1) ≡ s → Added m count p s
unfolding items_at
simple_last m name n count p mid e s h behind sum few ran is same =
    let last = run m name 1 0 1 mid e h (omega (arith, behind, ran.behind)) refl (one_end m mid e is) in
    subst (Added m count p) same (record {
      behind = omega (arith, ran.behind, last.behind);
      few = omega (arith, sum);
      low = ap high_of (ran.opt ∙ last.opt);
      copied = λ counts places zero.
          ran.copied Additional counts places (omega (arith, zero, sum, few))
          ∙ last.copied Additional (more Additional n counts) places (omega (arith, zero, sum, few, some_in n counts))
          ∙ ap (λ c. Ok (drafted m c places e)) (more_last n counts);
    })

mapped : {A B : Type 0} (f : A → B) (o : Option A) (y : B) → option_map f o ≡ Some y → (x : A) × (o ≡ Some x) × (f x ≡ y)
mapped f None y e = none_some e
mapped f (Some x) y e = (x, refl, cc)

pub added : (m : List ℕ) (name : Labels) (count p : ℕ) (s : Simple) → Named m name → 12 + octet_count name ≤ p → count < 65535 → additional_from m count p ≡ Some s → Added m count p s
added m name count p s h behind few is =
    elim (chosen (count == 0) (Some (simple p 0)) (option_and_then (last_of m (count - 1)) (simple_ends m (count - 1) p)) (Some s) is) [
      | inl none ↦ let e = none.1 in let same : simple p 0 ≡ s = cc in none_added m count p s (eqb-true _ _ none.0) same
      | inr some ↦
          let found = then_ok (simple_ends m (count - 1) p) (last_of m (count - 1)) s some.1 in
          let mid : ℕ = found.0 in
          let sum : count ≡ (count - 1) + 1 = omega (arith, positive count some.0) in
          let ran = run m name (count - 1) 1 count p mid h behind sum found.1 in
          elim (chosen (is_plain_opt m mid) (Some (simple mid (count - 1))) (option_map (λ end. simple end (count - 1 + 1)) (simple_end m mid)) (Some s) found.2) [
            | inl opt ↦ let e = opt.1 in let same : simple mid (count - 1) ≡ s = cc in opt_last m name (count - 1) count p mid s h.octets sum few ran opt.0 same
            | inr other ↦
                let last = mapped (λ end. simple end (count - 1 + 1)) (simple_end m mid) s other.1 in
                simple_last m name (count - 1) count p mid last.0 s h behind sum few ran last.1 last.2
          ]
    ]
