-- A record of the question's name, written by a pointer to it: its own octets.
use Rattle.std.proofs.Common.{◌≡◌, ℕ, suc, ◌+◌, ◌-◌, ◌<◌, ◌≤◌, inl, inr, List, [], ◌∷◌, ◌++◌, length, take, drop, refl, ap, ◌∙◌, arith, length-append, append_assoc, append-nil, Bool, true, false, ◌==◌, ◌||◌, ◌&&◌}
use Rattle.std.specs.Prelude.{Option, Some, None, is_some, option_map, slice_range, slice_index, nat_le, if◌then◌else◌}
use Rattle.std.specs.Int.{w16, w32, from_be_bytes, to_be_bytes}
use Rattle.std.proofs.lemmas.Bool.{leb-true, eqb-true, not-true}
use Rattle.std.proofs.lemmas.List.{take_at, drop_at}
use Rattle.dns_names.proofs.Heads.{chosen, none_some}
use Rattle.dns_names.specs.Name.{Labels}
use Rattle.dns_base.specs.Compression.{Compressed, found_at, with_name, with_octets, with_u16, with_data, with_fields, with_counted_data, with_record, counted}
use Rattle.dns_base.specs.Data.{Data, A, Aaaa, One, Txt, Opt, Other, is_one_name, are_options, are_strings, data_at, data_spelling, minfo_to, mx_to, name_to, soa_to, srv_to, whole, formed_to}
use Rattle.dns_base.specs.Forms.{Form, form_of}
use Rattle.dns_base.specs.Message.{Entry, Written}
use Rattle.dns_base.specs.Numbers.{u16_at}
use Rattle.client_request.proofs.Writable.{AreOctets}
use Rattle.client_request.specs.Composed.{content_of}
use Rattle.front_queries.proofs.Pieces.{range_octets}
use Rattle.front_queries.specs.Simple.{is_copied, is_of_question, if_within, simple_end, simple_ends}

-- such a record stands from a place to another
pub record IsSimple (m : List ℕ) (p e : ℕ) : Type 0 where
  pub room : p + 12 ≤ length m
  pub high : slice_index m p ≡ 192
  pub low : slice_index m (p + 1) ≡ 12
  pub kind : is_copied (u16_at m (p + 2)) ≡ true
  pub end : p + 2 + 10 + u16_at m (p + 2 + 8) ≡ e
  pub within : e ≤ length m

pub both : (a b : Bool) → (a && b) ≡ true → (a ≡ true) × (b ≡ true)
both true true e = (refl, refl)
both true false e = absurd cc
both false b e = absurd cc

pub means_simple : (m : List ℕ) (p e : ℕ) → simple_end m p ≡ Some e → IsSimple m p e
unfolding simple_end
means_simple m p e is =
    elim (chosen (nat_le (p + 12) (length m)) (if is_of_question m p then if_within m (p + 12 + u16_at m (p + 10)) else None) None (Some e) is) [
      | inl room ↦ elim (chosen (is_of_question m p) (if_within m (p + 12 + u16_at m (p + 10))) None (Some e) room.1) [
        | inl its ↦ elim (chosen (nat_le (p + 12 + u16_at m (p + 10)) (length m)) (Some (p + 12 + u16_at m (p + 10))) None (Some e) its.1) [
          | inl fits ↦
              let tests = both _ _ its.0 in
              let pointer = both _ _ tests.0 in
              let ends = fits.1 in
              let last : p + 12 + u16_at m (p + 10) ≡ e = cc in
              let place : p + 2 + 8 ≡ p + 10 = omega arith in
              let end : p + 2 + 10 + u16_at m (p + 2 + 8) ≡ e = ap (λ k. p + 2 + 10 + u16_at m k) place ∙ omega (arith, last) in
              let within : p + 12 + u16_at m (p + 10) ≤ length m = leb-true _ _ fits.0 in
              record {
                room = leb-true _ _ room.0;
                high = eqb-true _ _ pointer.0;
                low = eqb-true _ _ pointer.1;
                kind = tests.1;
                end = end;
                within = omega (arith, within, last);
              }
          | inr other ↦ none_some other.1
        ]
        | inr other ↦ none_some other.1
      ]
      | inr other ↦ none_some other.1
    ]

-- a number of two octets
two_small : (xs : List ℕ) → AreOctets xs → from_be_bytes w16 xs < 65536
two_small xs h = omega (arith, h 0, h 1)

pub has_small : (m : List ℕ) (at : ℕ) → AreOctets m → u16_at m at < 65536
has_small m at h = two_small (slice_range m at (at + 2)) (range_octets m at (at + 2) h)

-- its data

pub neither : (a b : Bool) → (a || b) ≡ false → (a ≡ false) × (b ≡ false)
neither true b e = absurd cc
neither false b e = (refl, e)

-- Whether it is read or not, data is written as its octets stand.
abbrev Copies : Entry → List ℕ → Option Data → Type 0
Copies entry octets o = (c : Compressed) → with_data (content_of entry o) c ≡ with_octets octets c

either_copies : (entry : Entry) (octets : List ℕ) (b : Bool) (x y : Option Data) → (b ≡ true → Copies entry octets x) → (b ≡ false → Copies entry octets y) → Copies entry octets (if b then x else y)
either_copies entry octets true x y f g = f refl
either_copies entry octets false x y f g = g refl

other_copies : (entry : Entry) (octets : List ℕ) → entry.octets ≡ octets → Copies entry octets None
unfolding with_data data_spelling
other_copies entry octets e c = ap (λ x. with_octets x c) e

never : (entry : Entry) (octets : List ℕ) (b : Bool) (o : Option Data) → b ≡ false → b ≡ true → Copies entry octets o
never entry octets b o e f = absurd cc

address_copies : (entry : Entry) (octets : List ℕ) (f : List ℕ → Data) (b : Bool) → entry.octets ≡ octets → ((c : Compressed) → with_data (f octets) c ≡ with_octets octets c)
    → Copies entry octets (option_map f (if b then Some octets else None))
address_copies entry octets f true e h = h
address_copies entry octets f false e h = other_copies entry octets e

a_copies : (octets : List ℕ) (c : Compressed) → with_data (A octets) c ≡ with_octets octets c
unfolding with_data data_spelling
a_copies octets c = refl

aaaa_copies : (octets : List ℕ) (c : Compressed) → with_data (Aaaa octets) c ≡ with_octets octets c
unfolding with_data data_spelling
aaaa_copies octets c = refl

txt_copies : (octets : List ℕ) (c : Compressed) → with_data (Txt octets) c ≡ with_octets octets c
unfolding with_data data_spelling
txt_copies octets c = refl

raw_copies : (octets : List ℕ) (c : Compressed) → with_data (Other octets) c ≡ with_octets octets c
unfolding with_data data_spelling
raw_copies octets c = refl

formed_copies : (entry : Entry) (form : Option Form) (m : List ℕ) (at end : ℕ) → is_some form ≡ false → Copies entry (slice_range m at end) (formed_to form m at end)
formed_copies entry None m at end e = raw_copies (slice_range m at end)
formed_copies entry (Some form) m at end e = absurd cc

pub data_copies : (entry : Entry) (rtype : ℕ) (m : List ℕ) (at end : ℕ) → is_copied rtype ≡ true → entry.octets ≡ slice_range m at end
    → Copies entry (slice_range m at end) (data_at rtype m at end)
unfolding data_at
data_copies entry rtype m at end kind e =
    let octets : List ℕ = slice_range m at end in
    let t1 = neither (is_one_name rtype) _ (not-true _ kind) in
    let t2 = neither (rtype == 6) _ t1.1 in
    let t3 = neither (rtype == 14) _ t2.1 in
    let t4 = neither (rtype == 15) _ t3.1 in
    let t5 = neither (rtype == 33) _ t4.1 in
    let t6 = neither (rtype == 41) (is_some (form_of rtype)) t5.1 in
    either_copies entry octets (rtype == 1) _ _ (λ _. address_copies entry octets A (at + 4 == end) e (a_copies octets)) (λ _.
    either_copies entry octets (rtype == 28) _ _ (λ _. address_copies entry octets Aaaa (at + 16 == end) e (aaaa_copies octets)) (λ _.
    either_copies entry octets (is_one_name rtype) _ _ (never entry octets _ (option_map (λ x. One rtype x) (name_to m at end)) t1.0) (λ _.
    either_copies entry octets (rtype == 14) _ _ (never entry octets _ (minfo_to m at end) t3.0) (λ _.
    either_copies entry octets (rtype == 15) _ _ (never entry octets _ (mx_to m at end) t4.0) (λ _.
    either_copies entry octets (rtype == 6) _ _ (never entry octets _ (soa_to m at end) t2.0) (λ _.
    either_copies entry octets (rtype == 33) _ _ (never entry octets _ (srv_to m at end) t5.0) (λ _.
    either_copies entry octets (rtype == 16) _ _ (λ _. either_copies entry octets (are_strings octets) _ _ (λ _. txt_copies octets) (λ _. other_copies entry octets e)) (λ _.
    either_copies entry octets (rtype == 41) _ _ (never entry octets _ (whole are_options Opt octets) t6.0) (λ _. formed_copies entry (form_of rtype) m at end t6.1)))))))))

-- A name that stands at place 12 is written as a pointer.
pub pointed : (c : Compressed) (name : Labels) → 0 < length name → found_at c.octets c.places name ≡ Some 12 → with_name name c ≡ record c { octets = c.octets ++ (192 ∷ 12 ∷ []) }
unfolding with_name
pointed c [] some f = absurd (omega (arith, some))
pointed c (label ∷ labels) some f = rw (f, append-nil c.places) refl

-- Data behind its length.
pub counted_is : (f : Compressed) (octets : List ℕ) → counted (length f.octets) (with_octets octets (with_u16 0 f)) ≡ record f { octets = f.octets ++ (to_be_bytes w16 (length octets) ++ octets) }
unfolding counted with_octets
counted_is f octets =
    let F : List ℕ = f.octets in
    let Z : List ℕ = to_be_bytes w16 0 in
    let front : take (length F) ((F ++ Z) ++ octets) ≡ F = ap (take (length F)) (append_assoc F Z octets) ∙ take_at F (Z ++ octets) (length F) refl in
    let back : drop (length F + 2) ((F ++ Z) ++ octets) ≡ octets = drop_at (F ++ Z) octets (length F + 2) (length-append F Z) in
    let count : length ((F ++ Z) ++ octets) - (length F + 2) ≡ length octets = omega (arith, length-append (F ++ Z) octets, length-append F Z) in
    let is : take (length F) ((F ++ Z) ++ octets) ++ (to_be_bytes w16 (length ((F ++ Z) ++ octets) - (length F + 2)) ++ drop (length F + 2) ((F ++ Z) ++ octets)) ≡ F ++ (to_be_bytes w16 (length octets) ++ octets) =
    ap (λ x. x ++ (to_be_bytes w16 (length ((F ++ Z) ++ octets) - (length F + 2)) ++ drop (length F + 2) ((F ++ Z) ++ octets))) front
    ∙ ap (λ n. F ++ (to_be_bytes w16 n ++ drop (length F + 2) ((F ++ Z) ++ octets))) count
    ∙ ap (λ x. F ++ (to_be_bytes w16 (length octets) ++ x)) back in
    ap (λ x. record f { octets = x }) is

-- the octets of a record behind its owner
abbrev pub behind_owner : (rtype class ttl : ℕ) (octets : List ℕ) → List ℕ
behind_owner rtype class ttl octets = to_be_bytes w16 rtype ++ (to_be_bytes w16 class ++ (to_be_bytes w32 ttl ++ (to_be_bytes w16 (length octets) ++ octets)))

fields_then : (w : Written) (c : Compressed) (owner more : List ℕ) → with_name w.owner c ≡ record c { octets = c.octets ++ owner }
    → record (with_fields w c) { octets = (with_fields w c).octets ++ more }
    ≡ record c { octets = c.octets ++ (owner ++ (to_be_bytes w16 w.rtype ++ (to_be_bytes w16 w.class ++ (to_be_bytes w32 w.ttl ++ more)))) }
unfolding with_fields with_octets
fields_then w c owner more named =
    let T : List ℕ = to_be_bytes w16 w.rtype in
    let C : List ℕ = to_be_bytes w16 w.class in
    let L : List ℕ = to_be_bytes w32 w.ttl in
    let flat : ((((c.octets ++ owner) ++ T) ++ C) ++ L) ++ more ≡ c.octets ++ (owner ++ (T ++ (C ++ (L ++ more)))) = simp append_assoc in
    ap (λ (n : Compressed). record n { octets = (((n.octets ++ T) ++ C) ++ L) ++ more }) named ∙ ap (λ x. record c { octets = x }) flat

pub record_is : (w : Written) (c : Compressed) (owner octets : List ℕ) → with_name w.owner c ≡ record c { octets = c.octets ++ owner }
    → ((d : Compressed) → with_data w.content d ≡ with_octets octets d)
    → with_record w c ≡ record c { octets = c.octets ++ (owner ++ behind_owner w.rtype w.class w.ttl octets) }
unfolding with_record with_counted_data
record_is w c owner octets named copies =
    ap (counted (length (with_fields w c).octets)) (copies (with_u16 0 (with_fields w c)))
    ∙ counted_is (with_fields w c) octets
    ∙ fields_then w c owner (to_be_bytes w16 (length octets) ++ octets) named

-- so many of them, one by one

pub ends_none : (m : List ℕ) (n k p : ℕ) → simple_end m p ≡ None → n ≡ suc k → simple_ends m n p ≡ None
unfolding simple_ends
ends_none m n k p e s = rw (s, e) refl

pub ends_next : (m : List ℕ) (n k p e : ℕ) → simple_end m p ≡ Some e → n ≡ suc k → simple_ends m n p ≡ simple_ends m k e
unfolding simple_ends
ends_next m n k p e is s = rw (s, is) refl

pub ends_zero : (m : List ℕ) (n p : ℕ) → n ≡ 0 → simple_ends m n p ≡ Some p
unfolding simple_ends
ends_zero m n p s = rw s refl
