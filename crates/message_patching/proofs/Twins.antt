-- Two drafts that differ in octets from which no name is read: what is pushed on both is the same.
use Rattle.std.proofs.Common.{◌≡◌, ℕ, ◌+◌, ◌≤◌, List, [], ◌∷◌, ◌++◌, length, take, drop, refl, ap, sym, subst, ◌∙◌, arith, Bool, true, false, length-append, append_assoc, append-nil}
use Rattle.std.specs.Prelude.{Option, Some, None, if◌then◌else◌, ◌==◌}
use Rattle.std.specs.Int.{w16, w32, to_be_bytes}
use Rattle.std.proofs.Math.Seq.{drop-append_seam, drop-append-add, take-append-add}
use Rattle.std.proofs.lemmas.List.{length-take-le}
use Rattle.std.specs.Prelude.{map}
use Rattle.std.specs.List.{AllByRecursion}
use Rattle.std.specs.Char.{to_ascii_lowercase}
use Rattle.dns_names.specs.Name.{Labels, Found, IsLegal, spelling, lowered, octet_count, name_at}
use Rattle.dns_names.proofs.NameLaws.{read_more}
use Rattle.dns_base.specs.Data.{Data, A, Aaaa, One, Minfo, Mx, StartOfAuthority, Service, Named, Txt, Opt, Other}
use Rattle.dns_base.specs.Message.{Asked, Written}
use Rattle.dns_base.specs.Compression.{Compressed, stands_at, found_at, pointer_or, name_octets, name_places, none_if_found, remembered, with_name, with_octets, with_u16, with_u32, with_numbers, with_data, with_fields, count_behind, counted, with_counted_data, with_record, with_question}
use Rattle.dns_base.specs.Holding.{IsPlace, ArePlaces, IsWritable, IsWritableData, IsAskable}
use Rattle.dns_base.proofs.Stands.{Stands, Shows}
use Rattle.dns_base.proofs.Sizes.{appended_long, appended_continues, data_continues, data_behind}
use Rattle.dns_base.proofs.Compressing.{continues_on}
use Rattle.dns_base.proofs.Places.{name_remembered, octets_remembered, name_back, back_count}
use Rattle.message_patching.proofs.Labels.{name_label, back_read, remembered_are, shorter, rest_stands}
use Rattle.dns_base.proofs.DataBack.{data_remembered}
use Rattle.dns_base.proofs.EntriesBack.{places_across}

-- The same octets behind others of the same count, and the same places, at which both have the same names.
pub record Alike (c d : Compressed) (p q back : List ℕ) : Type 0 where
  pub first : c.octets ≡ p ++ back
  pub second : d.octets ≡ q ++ back
  pub long : length p ≡ length q
  pub places : d.places ≡ c.places
  pub seen : ArePlaces c.octets d.octets c.places

place_stands : (here there : List ℕ) (labels : Labels) (place : ℕ) → IsPlace here there place → stands_at here labels place ≡ stands_at there labels place
place_stands here there labels place h = rw (h.read_here, h.read_there) refl

found_alike : (here there places : List ℕ) (labels : Labels) → ArePlaces here there places → found_at here places labels ≡ found_at there places labels
found_alike here there [] labels h = refl
found_alike here there (p ∷ places) labels h = rw (place_stands here there labels p h.0, found_alike here there places labels h.1) refl

names_alike : (here there places : List ℕ) (labels : Labels) → ArePlaces here there places
    → name_octets (record { octets = here; places = places }) labels ≡ name_octets (record { octets = there; places = places }) labels
names_alike here there places [] h = refl
names_alike here there places (label ∷ labels) h = rw (found_alike here there places (label ∷ labels) h, names_alike here there places labels h) refl

new_alike : (here there places : List ℕ) (at : ℕ) (labels : Labels) → ArePlaces here there places
    → name_places (record { octets = here; places = places }) at labels ≡ name_places (record { octets = there; places = places }) at labels
new_alike here there places at [] h = refl
new_alike here there places at (label ∷ labels) h = rw (found_alike here there places (label ∷ labels) h, new_alike here there places (at + 1 + length label) labels h) refl

-- more behind the second
pub there_more : (here there more places : List ℕ) → ArePlaces here there places → ArePlaces here (there ++ more) places
there_more here there more [] h = tt
there_more here there more (p ∷ places) h =
    (record { found = h.0.found; read_here = h.0.read_here; read_there = read_more there more p h.0.found h.0.read_there; few = h.0.few }, there_more here there more places h.1)

module _ (c d : Compressed) (p q back : List ℕ) (a : Alike c d p q back) where
  same_octets : (labels : Labels) → name_octets d labels ≡ name_octets c labels
  same_octets labels = sym (subst (λ ps. name_octets c labels ≡ name_octets (record { octets = d.octets; places = ps }) labels) (sym a.places) (names_alike c.octets d.octets c.places labels a.seen))

  same_places : (at : ℕ) (labels : Labels) → name_places d at labels ≡ name_places c at labels
  same_places at labels = sym (subst (λ ps. name_places c at labels ≡ name_places (record { octets = d.octets; places = ps }) at labels) (sym a.places) (new_alike c.octets d.octets c.places at labels a.seen))

  as_long : length d.octets ≡ length c.octets
  as_long = omega (arith, ap length a.first, ap length a.second, length-append p back, length-append q back, a.long)

  pub octets_alike : (xs : List ℕ) → Alike (with_octets xs c) (with_octets xs d) p q (back ++ xs)
  unfolding with_octets
  octets_alike xs = record {
    first = ap (λ o. o ++ xs) a.first ∙ append_assoc p back xs;
    second = ap (λ o. o ++ xs) a.second ∙ append_assoc q back xs;
    long = a.long;
    places = a.places;
    seen = octets_remembered xs c (d.octets ++ xs) (there_more c.octets d.octets xs c.places a.seen);
  }

  pub name_alike : (labels : Labels) → IsLegal labels → Alike (with_name labels c) (with_name labels d) p q (back ++ name_octets c labels)
  unfolding with_name
  name_alike labels legal =
      let more : List ℕ = name_octets c labels in
      let o : List ℕ = d.octets ++ more in
      let shows : Shows (length c.octets) (c.octets ++ more) o = record {
        front = d.octets;
        back = [];
        is = ap (λ x. d.octets ++ x) (sym (append-nil more) ∙ ap (λ x. x ++ []) (sym (drop-append_seam c.octets more)));
        long = as_long;
      } in
      record {
        first = ap (λ o. o ++ more) a.first ∙ append_assoc p back more;
        second = ap (λ x. d.octets ++ x) (same_octets labels) ∙ ap (λ o. o ++ more) a.second ∙ append_assoc q back more;
        long = a.long;
        places = ap (λ n. d.places ++ name_places d n labels) as_long ∙ ap (λ x. d.places ++ x) (same_places (length c.octets) labels) ∙ ap (λ x. x ++ name_places c (length c.octets) labels) a.places;
        seen = subst (λ x. ArePlaces (c.octets ++ more) (d.octets ++ x) (c.places ++ name_places c (length c.octets) labels)) (sym (same_octets labels))
            (name_remembered labels (length c.octets) c o (omega arith) legal (there_more c.octets d.octets more c.places a.seen) shows);
      }

-- the same, whatever stands behind
abbrev pub Both : (c d : Compressed) (p q : List ℕ) → Type 0
Both c d p q = (back : List ℕ) × Alike c d p q back

pub both_octets : (xs : List ℕ) (c d : Compressed) (p q : List ℕ) → Both c d p q → Both (with_octets xs c) (with_octets xs d) p q
both_octets xs c d p q b = (b.0 ++ xs, octets_alike c d p q b.0 b.1 xs)

pub both_name : (labels : Labels) (c d : Compressed) (p q : List ℕ) → IsLegal labels → Both c d p q → Both (with_name labels c) (with_name labels d) p q
both_name labels c d p q legal b = (b.0 ++ name_octets c labels, name_alike c d p q b.0 b.1 labels legal)

both_one : (t : Bool) (name : Labels) (c d : Compressed) (p q : List ℕ) → IsLegal name → Both c d p q
    → Both (if t then with_octets (spelling name) c else with_name name c) (if t then with_octets (spelling name) d else with_name name d) p q
both_one true name c d p q legal b = both_octets (spelling name) c d p q b
both_one false name c d p q legal b = both_name name c d p q legal b

pub both_data : (content : Data) (c d : Compressed) (p q : List ℕ) → IsWritableData content → Both c d p q → Both (with_data content c) (with_data content d) p q
unfolding with_data with_numbers
both_data (One rtype name) c d p q h b = both_one (rtype == 39) name c d p q h b
both_data (Minfo first second) c d p q h b = both_name second (with_name first c) (with_name first d) p q h.1 (both_name first c d p q h.0 b)
both_data (Mx preference name) c d p q h b = both_name name (with_u16 preference c) (with_u16 preference d) p q h.1 (both_octets (to_be_bytes w16 preference) c d p q b)
both_data (StartOfAuthority soa) c d p q h b =
    both_octets _ _ _ p q (both_octets _ _ _ p q (both_octets _ _ _ p q (both_octets _ _ _ p q (both_octets _ _ _ p q
    (both_name soa.rname (with_name soa.mname c) (with_name soa.mname d) p q h.1 (both_name soa.mname c d p q h.0 b))))))
both_data (A octets) c d p q h b = both_octets _ c d p q b
both_data (Aaaa octets) c d p q h b = both_octets _ c d p q b
both_data (Service srv) c d p q h b = both_octets _ c d p q b
both_data (Named it) c d p q h b = both_octets _ c d p q b
both_data (Txt octets) c d p q h b = both_octets _ c d p q b
both_data (Opt octets) c d p q h b = both_octets _ c d p q b
both_data (Other octets) c d p q h b = both_octets _ c d p q b

pub both_fields : (w : Written) (c d : Compressed) (p q : List ℕ) → IsLegal w.owner → Both c d p q → Both (with_fields w c) (with_fields w d) p q
unfolding with_fields
both_fields w c d p q legal b = both_octets _ _ _ p q (both_octets _ _ _ p q (both_octets _ _ _ p q (both_name w.owner c d p q legal b)))

-- the number of what stands behind it, written over two octets of the part that is alike
counted_back : (k n : ℕ) (back : List ℕ) → List ℕ
counted_back k n back = take k back ++ (to_be_bytes w16 n ++ drop (k + 2) back)

counted_is : (c : Compressed) (p back : List ℕ) (at k : ℕ) → c.octets ≡ p ++ back → at ≡ length p + k → (counted at c).octets ≡ p ++ counted_back k (count_behind at c.octets) back
unfolding counted counted_back
counted_is c p back at k e is =
    let front : take at c.octets ≡ p ++ take k back = ap (λ n. take n c.octets) is ∙ ap (take (length p + k)) e ∙ take-append-add p back k in
    let two : at + 2 ≡ length p + (k + 2) = omega arith in
    let behind : drop (at + 2) c.octets ≡ drop (k + 2) back = ap (λ n. drop n c.octets) two ∙ ap (drop (length p + (k + 2))) e ∙ drop-append-add p back (k + 2) in
    let n : List ℕ = to_be_bytes w16 (count_behind at c.octets) in
    ap (λ x. x ++ (n ++ drop (at + 2) c.octets)) front ∙ ap (λ x. (p ++ take k back) ++ (n ++ x)) behind ∙ append_assoc p (take k back) (n ++ drop (k + 2) back)

counted_stands : (q back : List ℕ) (k n at : ℕ) → k + 2 ≤ length back → at ≡ length q + (k + 2) → Stands (q ++ counted_back k n back) at (drop (k + 2) back)
unfolding counted_back
counted_stands q back k n at h e = record {
  front = q ++ (take k back ++ to_be_bytes w16 n);
  back = [];
  is = ap (λ x. q ++ (take k back ++ (to_be_bytes w16 n ++ x))) (sym (append-nil (drop (k + 2) back))) ∙ simp append_assoc;
  long = omega (arith, length-append q (take k back ++ to_be_bytes w16 n), length-append (take k back) (to_be_bytes w16 n), length-take-le k back (omega arith));
}

-- what is written before data, and the data with no length yet
abbrev based : Compressed → Compressed
based c = with_u16 0 c

abbrev filled : Data → Compressed → Compressed
filled content c = with_data content (based c)

-- Whatever two octets stand for the length, the names that stand in the data are read.
counted_seen : (content : Data) (c d : Compressed) (p q back full : List ℕ) (n : ℕ) → IsWritableData content → Alike c d p q back → Alike (filled content c) (filled content d) p q full
    → take (length back) full ≡ back → length back + 2 ≤ length full
    → ArePlaces (filled content c).octets (q ++ counted_back (length back) n full) (filled content c).places
unfolding counted_back
counted_seen content c d p q back full n h a f begins room =
    let k : ℕ = length back in
    let o : List ℕ = q ++ counted_back k n full in
    let more : List ℕ = to_be_bytes w16 n ++ drop (k + 2) full in
    let is : d.octets ++ more ≡ o = ap (λ x. x ++ more) a.second ∙ append_assoc q back more ∙ ap (λ x. q ++ (x ++ more)) (sym begins) in
    let old : ArePlaces c.octets o c.places = subst (λ x. ArePlaces c.octets x c.places) is (there_more c.octets d.octets more c.places a.seen) in
    let base : Compressed = based c in
    let seen : ArePlaces base.octets o base.places = octets_remembered (to_be_bytes w16 0) c o old in
    let at : length base.octets ≡ length p + (k + 2) = omega (arith, appended_long (to_be_bytes w16 0) c, ap length a.first, length-append p back) in
    let behind : drop (length base.octets) (filled content c).octets ≡ drop (k + 2) full = ap (λ n. drop n (filled content c).octets) at ∙ ap (drop (length p + (k + 2))) f.first ∙ drop-append-add p full (k + 2) in
    let there : length base.octets ≡ length q + (k + 2) = omega (arith, at, a.long) in
    data_remembered content (length base.octets) base o h (omega arith) seen (subst (Stands o (length base.octets)) (sym behind) (counted_stands q full k n (length base.octets) room there))

-- places, each of which is read in the octets themselves
abbrev pub Reads : Compressed → Type 0
Reads c = ArePlaces c.octets c.octets c.places

itself : (c : Compressed) → Reads c → Alike c c [] [] c.octets
itself c own = record { first = refl; second = refl; long = refl; places = refl; seen = own }

drop_front : (p xs ys : List ℕ) → p ++ xs ≡ p ++ ys → xs ≡ ys
drop_front p xs ys e = sym (drop-append_seam p xs) ∙ ap (drop (length p)) e ∙ drop-append_seam p ys

-- the part that is alike begins with what was alike before
begins_alike : (content : Data) (c : Compressed) (p back full : List ℕ) → c.octets ≡ p ++ back → (filled content c).octets ≡ p ++ full → (take (length back) full ≡ back) × (length back + 2 ≤ length full)
begins_alike content c p back full e f =
    let begins = (continues_on c (based c) (filled content c) (appended_continues (to_be_bytes w16 0) c) (data_continues content (based c))).octets in
    let at : length c.octets ≡ length p + length back = ap length e ∙ length-append p back in
    let is : p ++ take (length back) full ≡ p ++ back = sym (take-append-add p full (length back)) ∙ ap (take (length p + length back)) (sym f) ∙ ap (λ n. take n (filled content c).octets) (sym at) ∙ begins ∙ e in
    (drop_front p (take (length back) full) back is, omega (arith, data_behind content c, at, ap length f, length-append p full))

counted_both : (content : Data) (c d : Compressed) (p q back full : List ℕ) → IsWritableData content → Reads c → Alike c d p q back → Alike (filled content c) (filled content d) p q full
    → Both (with_counted_data content c) (with_counted_data content d) p q
unfolding with_counted_data counted
counted_both content c d p q back full h own a f =
    let k : ℕ = length back in
    let U : Compressed = filled content c in
    let V : Compressed = filled content d in
    let at : length c.octets ≡ length p + k = ap length a.first ∙ length-append p back in
    let there : length d.octets ≡ length q + k = ap length a.second ∙ length-append q back in
    let fits = begins_alike content c p back full a.first f.first in
    let n : ℕ = count_behind (length c.octets) U.octets in
    let m : ℕ = count_behind (length d.octets) V.octets in
    let same : m ≡ n = omega (arith, ap length f.first, ap length f.second, length-append p full, length-append q full, at, there, a.long) in
    let first = counted_is U p full (length c.octets) k f.first at in
    let second : (counted (length d.octets) V).octets ≡ q ++ counted_back k n full = counted_is V q full (length d.octets) k f.second there ∙ ap (λ x. q ++ counted_back k x full) same in
    let own_back : Alike c c p p back = record { first = a.first; second = a.first; long = refl; places = refl; seen = own } in
    let own_full : Alike U U p p full = record { first = f.first; second = f.first; long = refl; places = refl; seen = own_data } in
    let mine = counted_seen content c c p p back full n h own_back own_full fits.0 fits.1 in
    let other = counted_seen content c d p q back full n h a f fits.0 fits.1 in
    let across = places_across U.octets (p ++ counted_back k n full) (q ++ counted_back k n full) U.places mine other in (
      counted_back k n full,
      record {
        first = first;
        second = second;
        long = a.long;
        places = f.places;
        seen = subst (λ x. ArePlaces x (counted (length d.octets) V).octets U.places) (sym first) (subst (λ x. ArePlaces (p ++ counted_back k n full) x U.places) (sym second) across);
      },
    )
  where
    own_data : Reads (filled content c)
    own_data = (both_data content (based c) (based c) [] [] h (both_octets (to_be_bytes w16 0) c c [] [] (c.octets, itself c own))).1.seen

-- A record that is pushed on both.
pub record_both : (w : Written) (c d : Compressed) (p q : List ℕ) → IsWritable w → Reads c → Both c d p q → Both (with_record w c) (with_record w d) p q
unfolding with_record
record_both w c d p q h own b =
    let f = both_fields w c d p q h.owner b in
    let f_own = (both_fields w c c [] [] h.owner (c.octets, itself c own)).1.seen in
    let base = both_octets (to_be_bytes w16 0) (with_fields w c) (with_fields w d) p q f in
    let full = both_data w.content (based (with_fields w c)) (based (with_fields w d)) p q h.content base in
    counted_both w.content (with_fields w c) (with_fields w d) p q f.0 full.0 h.content f_own f.1 full.1

pub record_reads : (w : Written) (c : Compressed) → IsWritable w → Reads c → Reads (with_record w c)
record_reads w c h own = (record_both w c c [] [] h own (c.octets, itself c own)).1.seen

-- what stands before the TTL of a record
abbrev pub before_ttl : Written → Compressed → Compressed
before_ttl w c = with_u16 w.class (with_u16 w.rtype (with_name w.owner c))

-- A name is read at a place in both, the same but for case.
pub record IsSame (here there : List ℕ) (place : ℕ) : Type 0 where
  pub f : Found
  pub g : Found
  pub read_here : name_at here place ≡ Some f
  pub read_there : name_at there place ≡ Some g
  pub same : lowered f.labels ≡ lowered g.labels

abbrev pub AreSame : List ℕ → List ℕ → List ℕ → Type 0
AreSame here there places = AllByRecursion (IsSame here there) places

stands_same : (here there : List ℕ) (ls ms : Labels) (place : ℕ) → lowered ls ≡ lowered ms → IsSame here there place → stands_at here ls place ≡ stands_at there ms place
stands_same here there ls ms place e h = rw (h.read_here, h.read_there, e, h.same) refl

found_same : (here there places : List ℕ) (ls ms : Labels) → lowered ls ≡ lowered ms → AreSame here there places → found_at here places ls ≡ found_at there places ms
found_same here there [] ls ms e h = refl
found_same here there (p ∷ places) ls ms e h = rw (stands_same here there ls ms p e h.0, found_same here there places ls ms e h.1) refl

lowered_octets : (ls ms : List ℕ) → map to_ascii_lowercase ls ≡ map to_ascii_lowercase ms → length ls ≡ length ms
lowered_octets [] [] e = refl
lowered_octets [] (b ∷ ms) e = absurd cc
lowered_octets (a ∷ ls) [] e = absurd cc
lowered_octets (a ∷ ls) (b ∷ ms) e = let t : map to_ascii_lowercase ls ≡ map to_ascii_lowercase ms = cc in omega (arith, lowered_octets ls ms t)

-- Names that are the same but for case are compressed alike: ls many octets, and labels at the same places.
pub long_same : (here there places : List ℕ) (ls ms : Labels) → lowered ls ≡ lowered ms → AreSame here there places
    → length (name_octets (record { octets = here; places = places }) ls) ≡ length (name_octets (record { octets = there; places = places }) ms)
long_same here there places [] [] e h = refl
long_same here there places [] (b ∷ ms) e h = absurd cc
long_same here there places (a ∷ ls) [] e h = absurd cc
long_same here there places (a ∷ ls) (b ∷ ms) e h =
    let one : map to_ascii_lowercase a ≡ map to_ascii_lowercase b = cc in
    let others : lowered ls ≡ lowered ms = cc in
    by_place (found_at there places (b ∷ ms)) (found_same here there places (a ∷ ls) (b ∷ ms) e h) (lowered_octets a b one) (long_same here there places ls ms others h)
  where
    xs : List ℕ
    xs = name_octets (record { octets = here; places = places }) ls

    ys : List ℕ
    ys = name_octets (record { octets = there; places = places }) ms

    by_place : (f : Option ℕ) → found_at here places (a ∷ ls) ≡ f → length a ≡ length b → length xs ≡ length ys
        → length (pointer_or (found_at here places (a ∷ ls)) (length a ∷ a ++ xs)) ≡ length (pointer_or f (length b ∷ b ++ ys))
    by_place (Some p) e l r = rw e refl
    by_place None e l r = rw e (omega (arith, length-append a xs, length-append b ys, l, r))

pub new_same : (here there places : List ℕ) (at : ℕ) (ls ms : Labels) → lowered ls ≡ lowered ms → AreSame here there places
    → name_places (record { octets = here; places = places }) at ls ≡ name_places (record { octets = there; places = places }) at ms
new_same here there places at [] [] e h = refl
new_same here there places at [] (b ∷ ms) e h = absurd cc
new_same here there places at (a ∷ ls) [] e h = absurd cc
new_same here there places at (a ∷ ls) (b ∷ ms) e h =
    let one : map to_ascii_lowercase a ≡ map to_ascii_lowercase b = cc in
    let others : lowered ls ≡ lowered ms = cc in
    rw (found_same here there places (a ∷ ls) (b ∷ ms) e h, lowered_octets a b one, new_same here there places (at + 1 + length b) ls ms others h) refl

-- a name whose first label is written out is read behind what was there
suffix_read : (here more places : List ℕ) (label : List ℕ) (labels : Labels) (at : ℕ) → ArePlaces here (here ++ more) places → length here ≤ at → IsLegal (label ∷ labels)
    → Stands (here ++ more) at (length label ∷ label ++ name_octets (record { octets = here; places = places }) labels)
    → (f : Found) × (name_at (here ++ more) at ≡ Some f) × (lowered f.labels ≡ lowered (label ∷ labels))
suffix_read here more places label labels at read behind legal s =
    let o : List ℕ = here ++ more in
    let c : Compressed = record { octets = here; places = places } in
    let next : ℕ = at + 1 + length label in
    let xs : List ℕ = name_octets c labels in
    let t = rest_stands o label xs at s in
    let rest = name_back c more o next labels read (omega arith) legal.0.1 t t in
    let end : ℕ = next + length xs in
    let back : Labels = label ∷ rest.back in
    let short : octet_count back ≤ 255 = omega (arith, back_count rest.back labels rest.same, legal.1) in
    let a = name_label o label xs xs at end rest.pointers rest.back legal.0.0 s rest.is_here in
    (record { labels = back; end = end; pointers = rest.pointers }, back_read o at end rest.pointers back a (omega (arith, rest.few)) short, ap (λ (r : Labels). map to_ascii_lowercase label ∷ r) rest.same)

-- The places that are new in both say the same names.
pub new_are_same : (here there more others places : List ℕ) (at : ℕ) (ls ms : Labels) → lowered ls ≡ lowered ms → IsLegal ls → IsLegal ms → AreSame here there places
    → ArePlaces here (here ++ more) places → ArePlaces there (there ++ others) places → length here ≤ at → length there ≤ at
    → Stands (here ++ more) at (name_octets (record { octets = here; places = places }) ls) → Stands (there ++ others) at (name_octets (record { octets = there; places = places }) ms)
    → AreSame (here ++ more) (there ++ others) (name_places (record { octets = here; places = places }) at ls)
new_are_same here there more others places at [] ms e legal lawful h r q long far s t = tt
new_are_same here there more others places at (a ∷ ls) [] e legal lawful h r q long far s t = absurd cc
new_are_same here there more others places at (a ∷ ls) (b ∷ ms) e legal lawful h r q long far s t =
    let one : map to_ascii_lowercase a ≡ map to_ascii_lowercase b = cc in
    let rest : lowered ls ≡ lowered ms = cc in
    let count = lowered_octets a b one in
    by_place (found_at here places (a ∷ ls)) refl (found_same here there places (a ∷ ls) (b ∷ ms) e h) s t
    (λ s t. new_are_same here there more others places (at + 1 + length a) ls ms rest (shorter a ls legal) (shorter b ms lawful) h r q (omega arith) (omega arith) s
    (subst (λ n. Stands (there ++ others) (at + 1 + n) ys) (sym count) t))
  where
    xs : List ℕ
    xs = name_octets (record { octets = here; places = places }) ls

    ys : List ℕ
    ys = name_octets (record { octets = there; places = places }) ms

    by_place : (f : Option ℕ) → found_at here places (a ∷ ls) ≡ f → found_at here places (a ∷ ls) ≡ found_at there places (b ∷ ms)
        → Stands (here ++ more) at (pointer_or (found_at here places (a ∷ ls)) (length a ∷ a ++ xs)) → Stands (there ++ others) at (pointer_or (found_at there places (b ∷ ms)) (length b ∷ b ++ ys))
        → (Stands (here ++ more) (at + 1 + length a) xs → Stands (there ++ others) (at + 1 + length b) ys
        → AreSame (here ++ more) (there ++ others) (name_places (record { octets = here; places = places }) (at + 1 + length a) ls))
        → AreSame (here ++ more) (there ++ others) (none_if_found (found_at here places (a ∷ ls)) (remembered at (name_places (record { octets = here; places = places }) (at + 1 + length a) ls)))
    by_place (Some p) f g s t next = rw f tt
    by_place None f g s t next =
        let s1 : Stands (here ++ more) at (length a ∷ a ++ xs) = subst (λ x. Stands (here ++ more) at (pointer_or x (length a ∷ a ++ xs))) f s in
        let t1 : Stands (there ++ others) at (length b ∷ b ++ ys) = subst (λ x. Stands (there ++ others) at (pointer_or x (length b ∷ b ++ ys))) (sym g ∙ f) t in
        let x = suffix_read here more places a ls at r long legal s1 in
        let y = suffix_read there others places b ms at q far lawful t1 in
        let first : IsSame (here ++ more) (there ++ others) at = record { f = x.0; g = y.0; read_here = x.1; read_there = y.1; same = x.2 ∙ e ∙ sym y.2 } in
        rw f (remembered_are (IsSame (here ++ more) (there ++ others)) at (name_places (record { octets = here; places = places }) (at + 1 + length a) ls) first (next (rest_stands (here ++ more) a xs at s1) (rest_stands (there ++ others) b ys at t1)))

-- ---- two drafts of the same names but for case

pub same_of : (here there places : List ℕ) → ArePlaces here there places → AreSame here there places
same_of here there [] h = tt
same_of here there (p ∷ places) h = (record { f = h.0.found; g = h.0.found; read_here = h.0.read_here; read_there = h.0.read_there; same = refl }, same_of here there places h.1)

same_more : (here there xs ys places : List ℕ) → AreSame here there places → AreSame (here ++ xs) (there ++ ys) places
same_more here there xs ys [] h = tt
same_more here there xs ys (p ∷ places) h =
    (record { f = h.0.f; g = h.0.g; read_here = read_more here xs p h.0.f h.0.read_here; read_there = read_more there ys p h.0.g h.0.read_there; same = h.0.same }, same_more here there xs ys places h.1)

same_both : (here there xs ys : List ℕ) → AreSame here there xs → AreSame here there ys → AreSame here there (xs ++ ys)
same_both here there [] ys h g = g
same_both here there (x ∷ xs) ys h g = (h.0, same_both here there xs ys h.1 g)

one_across : (a b c d : List ℕ) (place : ℕ) → IsSame a b place → IsPlace a c place → IsPlace b d place → IsSame c d place
one_across a b c d place h s t =
    let f : Some s.found ≡ Some h.f = sym s.read_here ∙ h.read_here in
    let g : Some t.found ≡ Some h.g = sym t.read_here ∙ h.read_there in
    record { f = h.f; g = h.g; read_here = s.read_there ∙ f; read_there = t.read_there ∙ g; same = h.same }

same_across : (a b c d places : List ℕ) → AreSame a b places → ArePlaces a c places → ArePlaces b d places → AreSame c d places
same_across a b c d [] h s t = tt
same_across a b c d (p ∷ places) h s t = (one_across a b c d p h.0 s.0 t.0, same_across a b c d places h.1 s.1 t.1)

exact_same : (here there places : List ℕ) (labels : Labels) → AreSame here there places → name_octets (record { octets = here; places = places }) labels ≡ name_octets (record { octets = there; places = places }) labels
exact_same here there places [] h = refl
exact_same here there places (label ∷ labels) h = rw (found_same here there places (label ∷ labels) (label ∷ labels) refl h, exact_same here there places labels h) refl

-- The same octets behind others of the same count, the same places, and names there that are the same but for case.
pub record Twins (c d : Compressed) (p q : List ℕ) : Type 0 where
  pub back : List ℕ
  pub first : c.octets ≡ p ++ back
  pub second : d.octets ≡ q ++ back
  pub long : length p ≡ length q
  pub places : d.places ≡ c.places
  pub seen : AreSame c.octets d.octets c.places
  pub mine : Reads c
  pub other : Reads d

pub octets_read : (xs : List ℕ) (c : Compressed) → Reads c → Reads (with_octets xs c)
octets_read xs c own = (both_octets xs c c [] [] (c.octets, itself c own)).1.seen

pub name_reads : (labels : Labels) (c : Compressed) → IsLegal labels → Reads c → Reads (with_name labels c)
name_reads labels c legal own = (both_name labels c c [] [] legal (c.octets, itself c own)).1.seen

pub twins_octets : (xs : List ℕ) (c d : Compressed) (p q : List ℕ) → Twins c d p q → Twins (with_octets xs c) (with_octets xs d) p q
unfolding with_octets
twins_octets xs c d p q t = record {
  back = t.back ++ xs;
  first = ap (λ o. o ++ xs) t.first ∙ append_assoc p t.back xs;
  second = ap (λ o. o ++ xs) t.second ∙ append_assoc q t.back xs;
  long = t.long;
  places = t.places;
  seen = same_more c.octets d.octets xs xs c.places t.seen;
  mine = octets_read xs c t.mine;
  other = octets_read xs d t.other;
}

stands_last : (a xs : List ℕ) → Stands (a ++ xs) (length a) xs
stands_last a xs = record { front = a; back = []; is = ap (λ x. a ++ x) (sym (append-nil xs)); long = refl }

-- two names that are the same but for case, on both
pub names_seen : (c d : Compressed) (ls ms : Labels) → lowered ls ≡ lowered ms → IsLegal ls → IsLegal ms → length d.octets ≡ length c.octets → d.places ≡ c.places → AreSame c.octets d.octets c.places → Reads c → Reads d
    → ((with_name ms d).places ≡ (with_name ls c).places) × AreSame (with_name ls c).octets (with_name ms d).octets (with_name ls c).places
unfolding with_name
names_seen c d ls ms e legal lawful long places seen mine other =
    let e1 : Compressed = record { octets = d.octets; places = c.places } in
    let is : e1 ≡ d = ap (λ ps. record { octets = d.octets; places = ps }) (sym places) in
    let xs : List ℕ = name_octets c ls in
    let ys : List ℕ = name_octets d ms in
    let there : Stands (d.octets ++ ys) (length d.octets) ys = stands_last d.octets ys in
    let there1 : Stands (d.octets ++ ys) (length c.octets) (name_octets e1 ms) = subst (λ n. Stands (d.octets ++ ys) n (name_octets e1 ms)) long (subst (λ z. Stands (d.octets ++ ys) (length d.octets) (name_octets z ms)) (sym is) there) in
    let q : ArePlaces d.octets d.octets c.places = subst (ArePlaces d.octets d.octets) places other in
    let new = new_are_same c.octets d.octets xs ys c.places (length c.octets) ls ms e legal lawful seen (there_more c.octets c.octets xs c.places mine) (there_more d.octets d.octets ys c.places q) (omega arith) (omega (arith, long)) (stands_last c.octets xs) there1 in
    let at : name_places d (length d.octets) ms ≡ name_places c (length c.octets) ls =
    ap (λ n. name_places d n ms) long ∙ ap (λ z. name_places z (length c.octets) ms) (sym is) ∙ sym (new_same c.octets d.octets c.places (length c.octets) ls ms e seen) in
    (ap (λ x. d.places ++ x) at ∙ ap (λ x. x ++ name_places c (length c.octets) ls) places, same_both (c.octets ++ xs) (d.octets ++ ys) c.places (name_places c (length c.octets) ls) (same_more c.octets d.octets xs ys c.places seen) new)

pub twins_long : (c d : Compressed) (p q : List ℕ) → Twins c d p q → length d.octets ≡ length c.octets
twins_long c d p q t = omega (arith, ap length t.first, ap length t.second, length-append p t.back, length-append q t.back, t.long)

pub twins_name : (labels : Labels) (c d : Compressed) (p q : List ℕ) → IsLegal labels → Twins c d p q → Twins (with_name labels c) (with_name labels d) p q
unfolding with_name
twins_name labels c d p q legal t =
    let more : List ℕ = name_octets c labels in
    let same : name_octets d labels ≡ more = sym (subst (λ ps. more ≡ name_octets (record { octets = d.octets; places = ps }) labels) (sym t.places) (exact_same c.octets d.octets c.places labels t.seen)) in
    let both = names_seen c d labels labels refl legal legal (twins_long c d p q t) t.places t.seen t.mine t.other in
    record {
      back = t.back ++ more;
      first = ap (λ o. o ++ more) t.first ∙ append_assoc p t.back more;
      second = ap (λ x. d.octets ++ x) same ∙ ap (λ o. o ++ more) t.second ∙ append_assoc q t.back more;
      long = t.long;
      places = both.0;
      seen = both.1;
      mine = name_reads labels c legal t.mine;
      other = name_reads labels d legal t.other;
    }

-- ---- where they differ: the spelling of a question's name

-- A name in two spellings behind the same octets.
pub spelled_twins : (ls ms : Labels) (c : Compressed) → lowered ls ≡ lowered ms → IsLegal ls → IsLegal ms → Reads c
    → Twins (with_name ls c) (with_name ms c) (c.octets ++ name_octets c ls) (c.octets ++ name_octets c ms)
unfolding with_name
spelled_twins ls ms c e legal lawful own =
    let seen = same_of c.octets c.octets c.places own in
    let both = names_seen c c ls ms e legal lawful refl refl seen own own in
    record {
      back = [];
      first = sym (append-nil (c.octets ++ name_octets c ls));
      second = sym (append-nil (c.octets ++ name_octets c ms));
      long = omega (arith, length-append c.octets (name_octets c ls), length-append c.octets (name_octets c ms), long_same c.octets c.octets c.places ls ms e seen);
      places = both.0;
      seen = both.1;
      mine = name_reads ls c legal own;
      other = name_reads ms c lawful own;
    }

-- ---- what is pushed behind

twins_one : (t : Bool) (name : Labels) (c d : Compressed) (p q : List ℕ) → IsLegal name → Twins c d p q
    → Twins (if t then with_octets (spelling name) c else with_name name c) (if t then with_octets (spelling name) d else with_name name d) p q
twins_one true name c d p q legal b = twins_octets (spelling name) c d p q b
twins_one false name c d p q legal b = twins_name name c d p q legal b

twins_data : (content : Data) (c d : Compressed) (p q : List ℕ) → IsWritableData content → Twins c d p q → Twins (with_data content c) (with_data content d) p q
unfolding with_data with_numbers
twins_data (One rtype name) c d p q h b = twins_one (rtype == 39) name c d p q h b
twins_data (Minfo first second) c d p q h b = twins_name second (with_name first c) (with_name first d) p q h.1 (twins_name first c d p q h.0 b)
twins_data (Mx preference name) c d p q h b = twins_name name (with_u16 preference c) (with_u16 preference d) p q h.1 (twins_octets (to_be_bytes w16 preference) c d p q b)
twins_data (StartOfAuthority soa) c d p q h b =
    twins_octets _ _ _ p q (twins_octets _ _ _ p q (twins_octets _ _ _ p q (twins_octets _ _ _ p q (twins_octets _ _ _ p q
    (twins_name soa.rname (with_name soa.mname c) (with_name soa.mname d) p q h.1 (twins_name soa.mname c d p q h.0 b))))))
twins_data (A octets) c d p q h b = twins_octets _ c d p q b
twins_data (Aaaa octets) c d p q h b = twins_octets _ c d p q b
twins_data (Service srv) c d p q h b = twins_octets _ c d p q b
twins_data (Named it) c d p q h b = twins_octets _ c d p q b
twins_data (Txt octets) c d p q h b = twins_octets _ c d p q b
twins_data (Opt octets) c d p q h b = twins_octets _ c d p q b
twins_data (Other octets) c d p q h b = twins_octets _ c d p q b

twins_fields : (w : Written) (c d : Compressed) (p q : List ℕ) → IsLegal w.owner → Twins c d p q → Twins (with_fields w c) (with_fields w d) p q
unfolding with_fields
twins_fields w c d p q legal b = twins_octets _ _ _ p q (twins_octets _ _ _ p q (twins_octets _ _ _ p q (twins_name w.owner c d p q legal b)))

filled_itself : (content : Data) (c : Compressed) → IsWritableData content → Reads c → Both (filled content c) (filled content c) [] []
filled_itself content c h own = both_data content (based c) (based c) [] [] h (both_octets (to_be_bytes w16 0) c c [] [] (c.octets, itself c own))

counted_reads : (content : Data) (c : Compressed) → IsWritableData content → Reads c → Reads (with_counted_data content c)
counted_reads content c h own =
    let f = filled_itself content c h own in
    (counted_both content c c [] [] c.octets f.0 h own (itself c own) f.1).1.seen

-- places of data with no length yet are read once that is written
counted_there : (content : Data) (c : Compressed) → IsWritableData content → Reads c → ArePlaces (filled content c).octets (with_counted_data content c).octets (filled content c).places
unfolding with_counted_data
counted_there content c h own =
    let f = filled_itself content c h own in
    let n : ℕ = count_behind (length c.octets) (filled content c).octets in
    let fits = begins_alike content c [] c.octets f.0 refl f.1.first in
    let seen = counted_seen content c c [] [] c.octets f.0 n h (itself c own) f.1 fits.0 fits.1 in
    let is = counted_is (filled content c) [] f.0 (length c.octets) (length c.octets) f.1.first (omega arith) in
    subst (λ x. ArePlaces (filled content c).octets x (filled content c).places) (sym is) seen

counted_places : (content : Data) (c : Compressed) → (with_counted_data content c).places ≡ (filled content c).places
unfolding with_counted_data counted
counted_places content c = refl

counted_octets : (content : Data) (c : Compressed) (p back : List ℕ) (k : ℕ) → (filled content c).octets ≡ p ++ back → length c.octets ≡ length p + k
    → (with_counted_data content c).octets ≡ p ++ counted_back k (count_behind (length c.octets) (filled content c).octets) back
unfolding with_counted_data
counted_octets content c p back k e at = counted_is (filled content c) p back (length c.octets) k e at

pub twins_counted : (content : Data) (c d : Compressed) (p q : List ℕ) → IsWritableData content → Twins c d p q → Twins (with_counted_data content c) (with_counted_data content d) p q
twins_counted content c d p q h t =
    let f = twins_data content (based c) (based d) p q h (twins_octets (to_be_bytes w16 0) c d p q t) in
    let k : ℕ = length t.back in
    let at : length c.octets ≡ length p + k = ap length t.first ∙ length-append p t.back in
    let there : length d.octets ≡ length q + k = ap length t.second ∙ length-append q t.back in
    let n : ℕ = count_behind (length c.octets) (filled content c).octets in
    let m : ℕ = count_behind (length d.octets) (filled content d).octets in
    let same : m ≡ n = omega (arith, ap length f.first, ap length f.second, length-append p f.back, length-append q f.back, at, there, t.long) in
    record {
      back = counted_back k n f.back;
      first = counted_octets content c p f.back k f.first at;
      second = counted_octets content d q f.back k f.second there ∙ ap (λ x. q ++ counted_back k x f.back) same;
      long = t.long;
      places = counted_places content d ∙ f.places ∙ sym (counted_places content c);
      seen = subst (AreSame (with_counted_data content c).octets (with_counted_data content d).octets) (sym (counted_places content c))
          (same_across (filled content c).octets (filled content d).octets (with_counted_data content c).octets (with_counted_data content d).octets (filled content c).places f.seen
          (counted_there content c h t.mine) (subst (ArePlaces (filled content d).octets (with_counted_data content d).octets) f.places (counted_there content d h t.other)));
      mine = counted_reads content c h t.mine;
      other = counted_reads content d h t.other;
    }

-- A record that is pushed on both, and a question.
pub twins_record : (w : Written) (c d : Compressed) (p q : List ℕ) → IsWritable w → Twins c d p q → Twins (with_record w c) (with_record w d) p q
unfolding with_record
twins_record w c d p q h t = twins_counted w.content (with_fields w c) (with_fields w d) p q h.content (twins_fields w c d p q h.owner t)

pub twins_question : (a : Asked) (c d : Compressed) (p q : List ℕ) → IsAskable a → Twins c d p q → Twins (with_question a c) (with_question a d) p q
unfolding with_question
twins_question a c d p q h t = twins_octets _ _ _ p q (twins_octets _ _ _ p q (twins_name a.name c d p q h.name t))

-- ---- where they differ: the TTL of a record

-- four octets on each
pub twins_differ : (xs ys : List ℕ) (c d : Compressed) (p q : List ℕ) → length xs ≡ length ys → Twins c d p q → Twins (with_octets xs c) (with_octets ys d) (c.octets ++ xs) (d.octets ++ ys)
unfolding with_octets
twins_differ xs ys c d p q e t = record {
  back = [];
  first = sym (append-nil (c.octets ++ xs));
  second = sym (append-nil (d.octets ++ ys));
  long = omega (arith, length-append c.octets xs, length-append d.octets ys, e, twins_long c d p q t);
  places = t.places;
  seen = same_more c.octets d.octets xs ys c.places t.seen;
  mine = octets_read xs c t.mine;
  other = octets_read ys d t.other;
}

-- A record that is pushed on both with two TTLs: what stands behind the TTLs is the same.
pub twins_ttl : (w : Written) (ttl : ℕ) (c d : Compressed) (p q : List ℕ) → IsWritable w → Twins c d p q
    → Twins (with_record w c) (with_record (record w { ttl = ttl }) d) ((before_ttl w c).octets ++ to_be_bytes w32 w.ttl) ((before_ttl w d).octets ++ to_be_bytes w32 ttl)
unfolding with_record with_fields
twins_ttl w ttl c d p q h t =
    let front = twins_octets (to_be_bytes w16 w.class) _ _ p q (twins_octets (to_be_bytes w16 w.rtype) _ _ p q (twins_name w.owner c d p q h.owner t)) in
    twins_counted w.content (with_u32 w.ttl (before_ttl w c)) (with_u32 ttl (before_ttl w d)) _ _ h.content
    (twins_differ (to_be_bytes w32 w.ttl) (to_be_bytes w32 ttl) (before_ttl w c) (before_ttl w d) p q refl front)
