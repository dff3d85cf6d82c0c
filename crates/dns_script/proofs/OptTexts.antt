-- An OPT record that is read is spelled as it stood, and one that is spelled is read.
use Rattle.std.proofs.Common.{◌≡◌, ◌<◌, ◌≤◌, ◌+◌, ◌-◌, ◌*◌, ◌/◌, ◌%◌, ◌^◌, ℕ, Bool, true, false, cond, ◌&&◌, ◌==◌, nat_le, List, [], ◌∷◌, IsTrue, eqb, length, take, take_all, le_of_eq, Option, Some, None, refl, sym, ap, ◌∙◌, subst, arith, option_map, slice_range, slice_get}
use Rattle.std.specs.Int.{w16, w32, from_be_bytes}
use Rattle.std.specs.List.{AllByRecursion}
use Rattle.std.proofs.lemmas.Bool.{and_parts, leb-true, le-leb, eqb-true, eq-eqb}
use Rattle.std.proofs.lemmas.Option.{cond_some, same_Some}
use Rattle.dns_names.proofs.Heads.{then_ok, none_some}
use Rattle.dns_names.proofs.Walks.{walk_is}
use Rattle.dns_names.specs.Name.{Labels, Found, IsName, at_root, at_label, at_pointer, says_root, says_pointer, name_at, walk, head_at, in_limits}
use Rattle.dns_base.specs.Message.{Known, record_at}
use Rattle.dns_base.specs.OptRecord.{OptFields, opt_record, opt_in, opt_fields}
use Rattle.dns_base.specs.Numbers.{u16_at}
use Rattle.dns_base.specs.Data.{Data, Opt, are_options, data_at}
use Rattle.client_request.specs.Carries.{IsOpt}
use Rattle.dns_script.specs.TextLaws.{IsOptRecord}
use Rattle.dns_script.specs.Lines.{opt_octets}

given : {A : Type 0} (b : Bool) (o : Option A) (x : A) → cond b o None ≡ Some x → (b ≡ true) × (o ≡ Some x)
given true o x e = (refl, e)
given false o x e = none_some e

-- the fields of a record whose octets these are
spelled_fields : (b1 b2 b3 b4 b5 b6 b7 b8 b9 b10 : ℕ) (rest : List ℕ) → AllByRecursion (λ o. o < 2 ^ 8) (b1 ∷ b2 ∷ b3 ∷ b4 ∷ b5 ∷ b6 ∷ b7 ∷ b8 ∷ b9 ∷ b10 ∷ rest)
    → from_be_bytes w16 (b1 ∷ b2 ∷ []) ≡ 41 → from_be_bytes w16 (b9 ∷ b10 ∷ []) ≡ length rest
    → (0 ∷ b1 ∷ b2 ∷ b3 ∷ b4 ∷ b5 ∷ b6 ∷ b7 ∷ b8 ∷ b9 ∷ b10 ∷ rest) ≡ opt_octets (record {
      udp_payload_size = from_be_bytes w16 (b3 ∷ b4 ∷ []);
      ext_rcode = from_be_bytes w32 (b5 ∷ b6 ∷ b7 ∷ b8 ∷ []) / 2 ^ 24;
      version = from_be_bytes w32 (b5 ∷ b6 ∷ b7 ∷ b8 ∷ []) / 2 ^ 16 % 2 ^ 8;
      flags = from_be_bytes w32 (b5 ∷ b6 ∷ b7 ∷ b8 ∷ []) % 2 ^ 16;
      options = rest;
    })
spelled_fields b1 b2 b3 b4 b5 b6 b7 b8 b9 b10 rest all type count =
    let s1 = all.0 in
    let s2 = all.1.0 in
    let s3 = all.1.1.0 in
    let s4 = all.1.1.1.0 in
    let s5 = all.1.1.1.1.0 in
    let s6 = all.1.1.1.1.1.0 in
    let s7 = all.1.1.1.1.1.1.0 in
    let s8 = all.1.1.1.1.1.1.1.0 in
    let s9 = all.1.1.1.1.1.1.1.1.0 in
    let s10 = all.1.1.1.1.1.1.1.1.1.0 in
    let e1 : b1 ≡ 0 = omega (arith, s1, s2, type) in
    let e2 : b2 ≡ 41 = omega (arith, s1, s2, type) in
    let e3 : (b3 * 256 + b4) / 256 % 256 ≡ b3 = omega (arith, s3, s4) in
    let e4 : (b3 * 256 + b4) % 256 ≡ b4 = omega (arith, s3, s4) in
    let e5 : (b5 * 16777216 + b6 * 65536 + b7 * 256 + b8) / 16777216 ≡ b5 = omega (arith, s5, s6, s7, s8) in
    let e6 : (b5 * 16777216 + b6 * 65536 + b7 * 256 + b8) / 65536 % 256 ≡ b6 = omega (arith, s5, s6, s7, s8) in
    let e7 : (b5 * 16777216 + b6 * 65536 + b7 * 256 + b8) % 65536 / 256 % 256 ≡ b7 = omega (arith, s5, s6, s7, s8) in
    let e8 : (b5 * 16777216 + b6 * 65536 + b7 * 256 + b8) % 65536 % 256 ≡ b8 = omega (arith, s5, s6, s7, s8) in
    let e9 : length rest / 256 % 256 ≡ b9 = omega (arith, s9, s10, count) in
    let e10 : length rest % 256 ≡ b10 = omega (arith, s9, s10, count) in
    rw (e1, e2, e3, e4, e5, e6, e7, e8, e9, e10) refl

fields_in_range : (b3 b4 b5 b6 b7 b8 b9 b10 : ℕ) (rest : List ℕ) → AllByRecursion (λ o. o < 2 ^ 8) (b3 ∷ b4 ∷ b5 ∷ b6 ∷ b7 ∷ b8 ∷ b9 ∷ b10 ∷ rest) → from_be_bytes w16 (b9 ∷ b10 ∷ []) ≡ length rest
    → IsOpt (record {
      udp_payload_size = from_be_bytes w16 (b3 ∷ b4 ∷ []);
      ext_rcode = from_be_bytes w32 (b5 ∷ b6 ∷ b7 ∷ b8 ∷ []) / 2 ^ 24;
      version = from_be_bytes w32 (b5 ∷ b6 ∷ b7 ∷ b8 ∷ []) / 2 ^ 16 % 2 ^ 8;
      flags = from_be_bytes w32 (b5 ∷ b6 ∷ b7 ∷ b8 ∷ []) % 2 ^ 16;
      options = rest;
    })
fields_in_range b3 b4 b5 b6 b7 b8 b9 b10 rest all count =
    let s3 = all.0 in
    let s4 = all.1.0 in
    let s5 = all.1.1.0 in
    let s6 = all.1.1.1.0 in
    let s7 = all.1.1.1.1.0 in
    let s8 = all.1.1.1.1.1.0 in
    let s9 = all.1.1.1.1.1.1.0 in
    let s10 = all.1.1.1.1.1.1.1.0 in
    record {
      udp_payload_size = omega (arith, s3, s4);
      ext_rcode = omega (arith, s5, s6, s7, s8);
      version = omega arith;
      flags = omega arith;
      options = omega (arith, s9, s10, count);
    }

the_same : {A B : Type 0} (x y : B) (o : Option A) → option_map (λ _. x) o ≡ Some y → x ≡ y
the_same x y None e = none_some e
the_same x y (Some _) e = same_Some _ _ e

all_of : (xs : List ℕ) (n : ℕ) → n ≡ length xs → take n xs ≡ xs
all_of xs n e = take_all n xs (le_of_eq (sym e))

some_in : {A B : Type 0} (x y : B) (o : Option A) → option_map (λ _. x) o ≡ Some y → (a : A) × (o ≡ Some a)
some_in x y None e = none_some e
some_in x y (Some a) e = (a, refl)

-- data of an OPT record is a list of whole options
whole_options : (rtype at end : ℕ) (octets : List ℕ) (says : Data) → rtype ≡ 41 → data_at rtype octets at end ≡ Some says → IsTrue (are_options (slice_range octets at end))
unfolding data_at
whole_options rtype at end octets says kind e =
    let read : data_at 41 octets at end ≡ Some says = subst (λ n. data_at n octets at end ≡ Some says) kind e in
    (given (are_options (slice_range octets at end)) (Some (Opt (slice_range octets at end))) says read).0

-- the octets spell a record that is in range
abbrev pub Spells : List ℕ → OptFields → Type 0
Spells octets opt = (octets ≡ opt_octets opt) × IsOptRecord opt

spelled : (b1 b2 b3 b4 b5 b6 b7 b8 b9 b10 : ℕ) (rest : List ℕ) (opt : OptFields) → AllByRecursion (λ o. o < 2 ^ 8) (b1 ∷ b2 ∷ b3 ∷ b4 ∷ b5 ∷ b6 ∷ b7 ∷ b8 ∷ b9 ∷ b10 ∷ rest)
    → opt_record (0 ∷ b1 ∷ b2 ∷ b3 ∷ b4 ∷ b5 ∷ b6 ∷ b7 ∷ b8 ∷ b9 ∷ b10 ∷ rest) ≡ Some opt → Spells (0 ∷ b1 ∷ b2 ∷ b3 ∷ b4 ∷ b5 ∷ b6 ∷ b7 ∷ b8 ∷ b9 ∷ b10 ∷ rest) opt
unfolding opt_record record_at name_at walk head_at
spelled b1 b2 b3 b4 b5 b6 b7 b8 b9 b10 rest opt all e =
    let octets : List ℕ = 0 ∷ b1 ∷ b2 ∷ b3 ∷ b4 ∷ b5 ∷ b6 ∷ b7 ∷ b8 ∷ b9 ∷ b10 ∷ rest in
    let end : ℕ = 11 + from_be_bytes w16 (b9 ∷ b10 ∷ []) in
    let known : Known = record {
      entry = record {
        owner = [];
        rtype = from_be_bytes w16 (b1 ∷ b2 ∷ []);
        class = from_be_bytes w16 (b3 ∷ b4 ∷ []);
        ttl = from_be_bytes w32 (b5 ∷ b6 ∷ b7 ∷ b8 ∷ []);
        octets = slice_range octets 11 end;
      };
      says = data_at (from_be_bytes w16 (b1 ∷ b2 ∷ [])) octets 11 end;
    } in
    let found = then_ok (record_at octets 0) _ opt e in
    let room = given (nat_le 11 (length octets)) (cond (nat_le end (length octets)) (Some (known, end)) None) found.0 found.1 in
    let within = cond_some (nat_le end (length octets)) (known, end) found.0 room.1 in
    let form = given (end == length octets) (opt_in known) opt (subst (λ (x : Known × ℕ). cond (length x.0.entry.owner == 0 && x.1 == length octets) (opt_in x.0) None ≡ Some opt) (sym within.1) found.2) in
    let fits : end ≡ length octets = eqb-true _ _ form.0 in
    let kind = given (known.entry.rtype == 41) (option_map (λ _. opt_fields known.entry) known.says) opt form.1 in
    let count : from_be_bytes w16 (b9 ∷ b10 ∷ []) ≡ length rest = omega (arith, fits) in
    let behind : slice_range octets 11 end ≡ rest = ap (λ n. take n rest) (omega (arith, count)) ∙ all_of rest (length rest) refl in
    let F : List ℕ → OptFields = λ options. record (opt_fields known.entry) { options = options } in
    let same : F (slice_range octets 11 end) ≡ opt = the_same (opt_fields known.entry) opt known.says kind.1 in
    let type : from_be_bytes w16 (b1 ∷ b2 ∷ []) ≡ 41 = eqb-true _ _ kind.0 in
    let says = some_in (opt_fields known.entry) opt known.says kind.1 in
    let whole = whole_options (from_be_bytes w16 (b1 ∷ b2 ∷ [])) 11 end octets says.0 type says.1 in
    let fields : IsOpt (F rest) = fields_in_range b3 b4 b5 b6 b7 b8 b9 b10 rest all.1.1 count in
    let options : AllByRecursion (λ o. o < 2 ^ 8) rest = all.1.1.1.1.1.1.1.1.1.1 in
    let sound : IsOptRecord (F rest) = record { fields = fields; whole = subst (λ r. IsTrue (are_options r)) behind whole; octets = options } in
    subst (Spells octets) same (subst (λ r. Spells octets (F r)) (sym behind) (spelled_fields b1 b2 b3 b4 b5 b6 b7 b8 b9 b10 rest all type count, sound))

-- an empty name at the front is the root's octet
root_first : (octets : List ℕ) (at : ℕ) (labels : Labels) (end pointers : ℕ) → IsName octets at labels end pointers → at ≡ 0 → labels ≡ [] → (slice_get octets 0 ≡ Some 0) × (end ≡ 1)
root_first octets _ _ _ _ (at_root at (says_root s)) start none = (subst (λ i. slice_get octets i ≡ Some 0) start s, omega arith)
root_first octets _ _ _ _ (at_label at n more end pointers s m) start none = absurd (omega (arith, ap length none))
root_first octets _ _ _ _ (at_pointer at place labels end pointers (says_pointer high low _ a b c d) m) start none = absurd (omega arith)

no_labels : (labels : Labels) → (length labels == 0) ≡ true → labels ≡ []
no_labels [] e = refl
no_labels (label ∷ labels) e = absurd (omega (arith, eqb-true (length (label ∷ labels)) 0 e))

root_is_first : (octets : List ℕ) (x : Known × ℕ) → record_at octets 0 ≡ Some x → (length x.0.entry.owner == 0) ≡ true → (slice_get octets 0 ≡ Some 0) × (11 ≤ length octets)
unfolding record_at name_at
root_is_first octets x e none =
    let name = then_ok (name_at octets 0) _ x e in
    let room = given (nat_le (name.0.end + 10) (length octets)) _ x name.2 in
    let within = given (nat_le (name.0.end + 10 + u16_at octets (name.0.end + 8)) (length octets)) _ x room.1 in
    let walked = then_ok (walk 383 octets 0) in_limits name.0 name.1 in
    let same : walked.0 ≡ name.0 = (cond_some _ walked.0 name.0 walked.2).1 in
    let bare : name.0.labels ≡ [] = no_labels name.0.labels (subst (λ (labels : Labels). (length labels == 0) ≡ true) (sym (ap (λ (y : Known × ℕ). y.0.entry.owner) (same_Some _ x within.1))) none) in
    let first = root_first octets 0 name.0.labels name.0.end name.0.pointers (subst (λ (f : Found). IsName octets 0 f.labels f.end f.pointers) same (walk_is 383 octets 0 walked.0 walked.1)) refl bare in
    (first.0, omega (arith, leb-true _ _ room.0, first.1))

record_of_eleven : (octets : List ℕ) (opt : OptFields) → AllByRecursion (λ o. o < 2 ^ 8) octets → opt_record octets ≡ Some opt → (slice_get octets 0 ≡ Some 0) × (11 ≤ length octets) → Spells octets opt
record_of_eleven (b0 ∷ b1 ∷ b2 ∷ b3 ∷ b4 ∷ b5 ∷ b6 ∷ b7 ∷ b8 ∷ b9 ∷ b10 ∷ rest) opt all e h =
    let tail : List ℕ = b1 ∷ b2 ∷ b3 ∷ b4 ∷ b5 ∷ b6 ∷ b7 ∷ b8 ∷ b9 ∷ b10 ∷ rest in
    let zero_first = same_Some b0 0 h.0 in
    subst (λ b. Spells (b ∷ tail) opt) (sym zero_first) (spelled b1 b2 b3 b4 b5 b6 b7 b8 b9 b10 rest opt all.1 (subst (λ b. opt_record (b ∷ tail) ≡ Some opt) zero_first e))
record_of_eleven _ opt all e h = absurd (omega (arith, h.1))

record_says : (octets : List ℕ) (opt : OptFields) → AllByRecursion (λ o. o < 2 ^ 8) octets → opt_record octets ≡ Some opt → Spells octets opt
unfolding opt_record
record_says octets opt all e =
    let found = then_ok (record_at octets 0) _ opt e in
    let form = given (length found.0.0.entry.owner == 0 && found.0.1 == length octets) (opt_in found.0.0) opt found.2 in
    record_of_eleven octets opt all e (root_is_first octets found.0 found.1 (and_parts _ _ form.0).0)

pub record_is_spelled : (octets : List ℕ) (opt : OptFields) → AllByRecursion (λ o. o < 2 ^ 8) octets → opt_record octets ≡ Some opt → octets ≡ opt_octets opt
record_is_spelled octets opt all e = (record_says octets opt all e).0

pub record_in_range : (octets : List ℕ) (opt : OptFields) → AllByRecursion (λ o. o < 2 ^ 8) octets → opt_record octets ≡ Some opt → IsOptRecord opt
record_in_range octets opt all e = (record_says octets opt all e).1

pub spelled_is_record : (opt : OptFields) → IsOpt opt → IsTrue (are_options opt.options) → opt_record (opt_octets opt) ≡ Some opt
unfolding opt_record record_at name_at walk head_at data_at
spelled_is_record opt fits are =
    let octets : List ℕ = opt_octets opt in
    let end : ℕ = 11 + from_be_bytes w16 (length opt.options / 256 % 256 ∷ length opt.options % 256 ∷ []) in
    let short = fits.options in
    let size = fits.udp_payload_size in
    let code = fits.ext_rcode in
    let version = fits.version in
    let flags = fits.flags in
    let last : from_be_bytes w16 (length opt.options / 256 % 256 ∷ length opt.options % 256 ∷ []) ≡ length opt.options = omega (arith, short) in
    let room : nat_le 11 (length octets) ≡ true = le-leb _ _ (omega arith) in
    let within : nat_le (11 + length opt.options) (length octets) ≡ true = le-leb _ _ (omega arith) in
    let ends : eqb (11 + length opt.options) (length octets) ≡ true = eq-eqb _ _ (omega arith) in
    let behind : take (11 + length opt.options - 11) opt.options ≡ opt.options = all_of opt.options (11 + length opt.options - 11) (omega arith) in
    let ttl : ℕ = opt.ext_rcode * 16777216 + opt.version * 65536 + opt.flags / 256 % 256 * 256 + opt.flags % 256 in
    let f1 : opt.udp_payload_size / 256 % 256 * 256 + opt.udp_payload_size % 256 ≡ opt.udp_payload_size = omega (arith, size) in
    let f2 : ttl / 16777216 ≡ opt.ext_rcode = omega (arith, code, version, flags) in
    let f3 : ttl / 65536 % 256 ≡ opt.version = omega (arith, code, version, flags) in
    let f4 : ttl % 65536 ≡ opt.flags = omega (arith, code, version, flags) in
    rw (room, last, within, behind, are, ends) (rw (f1, f2, f3, f4) refl)
