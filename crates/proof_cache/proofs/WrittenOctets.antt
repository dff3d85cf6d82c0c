-- Drafts of octets stay of octets, with names and data whose spellings are. The laws of drafts tell what is read back and
-- not that, so what is written is looked into here.
use Rattle.std.proofs.Common.{◌≡◌, ℕ, ◌+◌, ◌<◌, ◌≤◌, Bool, true, false, List, [], ◌∷◌, ◌++◌, length, take, drop, refl, arith, length-append}
use Rattle.std.specs.Prelude.{Option, Some, None, nat_lt, if◌then◌else◌, ◌==◌}
use Rattle.std.specs.List.{AllByRecursion}
use Rattle.std.specs.Int.{w16, w32, to_be_bytes}
use Rattle.std.proofs.lemmas.Bool.{ltb-true}
use Rattle.std.proofs.lemmas.List.{length-take-le}
use Rattle.dns_values.specs.declared.numbers.Section.{Section}
use Rattle.dns_names.specs.Name.{Labels, spelling}
use Rattle.dns_base.specs.Header.{Counts}
use Rattle.dns_base.specs.Sections.{counts_spelling}
use Rattle.dns_base.specs.Data.{Data, A, Aaaa, One, Minfo, Mx, StartOfAuthority, Service, Named, Txt, Opt, Other, Soa, data_spelling}
use Rattle.dns_base.specs.Message.{Asked, Written}
use Rattle.dns_base.specs.Compression.{Compressed, found_at, pointer_to, pointer_or, name_octets, remembered, none_if_found, name_places, with_name, with_octets, with_u16, with_u32, with_numbers, with_data, with_question, with_fields, count_behind, counted, with_counted_data, with_record}
use Rattle.dns_base.specs.Draft.{Draft, fresh, with_header, pushed_question, pushed_record, finished}
use Rattle.dns_base.proofs.Places.{found_means}
use Rattle.proof_cache.proofs.Octets.{OfOctets, all_joined, joined, parted, taken, dropped, zeros, two, four, two_before}

-- A pointer's two octets have room for such a place.
abbrev AreNear : List ℕ → Type 0
AreNear places = AllByRecursion (λ place. place < 16384) places

record IsSound (c : Compressed) : Type 0 where
  octets : OfOctets c.octets
  places : AreNear c.places

-- ---- names

near : (at : ℕ) (places : List ℕ) → AreNear places → AreNear (remembered at places)
near at places h = go (nat_lt at 16384) refl
  where
    go : (b : Bool) → nat_lt at 16384 ≡ b → AreNear (if b then at ∷ places else places)
    go true e = (ltb-true at 16384 e, h)
    go false e = h

pointing : (place : ℕ) → place < 16384 → OfOctets (pointer_to place)
pointing place h = (omega arith, (omega arith, tt))

module _ (c : Compressed) (sound : IsSound c) where
  name_written : (labels : Labels) → OfOctets (spelling labels) → OfOctets (name_octets c labels)
  name_written [] h = h
  name_written (label ∷ labels) h =
      let parts = parted label (spelling labels) h.1 in
      go (found_at c.octets c.places (label ∷ labels)) refl (h.0, joined label (name_octets c labels) parts.0 (name_written labels parts.1))
    where
      go : (f : Option ℕ) → found_at c.octets c.places (label ∷ labels) ≡ f → OfOctets (length label ∷ label ++ name_octets c labels) → OfOctets (pointer_or f (length label ∷ label ++ name_octets c labels))
      go (Some place) e g = pointing place (found_means (λ place. place < 16384) c.octets c.places (label ∷ labels) place sound.places e).0
      go None e g = g

  name_near : (at : ℕ) (labels : Labels) → AreNear (name_places c at labels)
  name_near at [] = tt
  name_near at (label ∷ labels) = go (found_at c.octets c.places (label ∷ labels)) (near at (name_places c (at + 1 + length label) labels) (name_near (at + 1 + length label) labels))
    where
      go : (f : Option ℕ) → AreNear (remembered at (name_places c (at + 1 + length label) labels)) → AreNear (none_if_found f (remembered at (name_places c (at + 1 + length label) labels)))
      go (Some place) h = tt
      go None h = h

  name_sound : (labels : Labels) → OfOctets (spelling labels) → IsSound (with_name labels c)
  unfolding with_name
  name_sound labels h = record {
    octets = joined c.octets (name_octets c labels) sound.octets (name_written labels h);
    places = all_joined (λ place. place < 16384) c.places (name_places c (length c.octets) labels) sound.places (name_near (length c.octets) labels);
  }

  octets_sound : (octets : List ℕ) → OfOctets octets → IsSound (with_octets octets c)
  unfolding with_octets
  octets_sound octets h = record { octets = joined c.octets octets sound.octets h; places = sound.places }

  u16_sound : (n : ℕ) → IsSound (with_u16 n c)
  u16_sound n = octets_sound (to_be_bytes w16 n) (two n)

  u32_sound : (n : ℕ) → IsSound (with_u32 n c)
  u32_sound n = octets_sound (to_be_bytes w32 n) (four n)

  counted_sound : (at : ℕ) → IsSound (counted at c)
  unfolding counted
  counted_sound at = record {
    octets = joined (take at c.octets) (to_be_bytes w16 (count_behind at c.octets) ++ drop (at + 2) c.octets) (taken at c.octets sound.octets)
        (joined (to_be_bytes w16 (count_behind at c.octets)) (drop (at + 2) c.octets) (two (count_behind at c.octets)) (dropped (at + 2) c.octets sound.octets));
    places = sound.places;
  }

-- ---- data and entries

-- before four octets more
before_four : (xs : List ℕ) (n : ℕ) → OfOctets (xs ++ to_be_bytes w32 n) → OfOctets xs
before_four xs n h = (parted xs (to_be_bytes w32 n) h).0

numbers_sound : (soa : Soa) (c : Compressed) → IsSound c → IsSound (with_numbers soa c)
unfolding with_numbers
numbers_sound soa c s = u32_sound _ (u32_sound _ (u32_sound _ (u32_sound _ (u32_sound c s soa.serial) soa.refresh) soa.retry) soa.expire) soa.minimum

soa_sound : (soa : Soa) (c : Compressed) → IsSound c → OfOctets (data_spelling (StartOfAuthority soa)) → IsSound (with_numbers soa (with_name soa.rname (with_name soa.mname c)))
unfolding data_spelling
soa_sound soa c s h =
    let names = parted (spelling soa.mname) (spelling soa.rname)
    (before_four _ soa.serial (before_four _ soa.refresh (before_four _ soa.retry (before_four _ soa.expire (before_four _ soa.minimum h))))) in
    numbers_sound soa _ (name_sound _ (name_sound c s soa.mname names.0) soa.rname names.1)

data_sound : (d : Data) (c : Compressed) → IsSound c → OfOctets (data_spelling d) → IsSound (with_data d c)
unfolding with_data data_spelling
data_sound (A octets) c s h = octets_sound c s octets h
data_sound (Aaaa octets) c s h = octets_sound c s octets h
data_sound (One rtype name) c s h = go (rtype == 39)
  where
    go : (b : Bool) → IsSound (if b then with_octets (spelling name) c else with_name name c)
    go true = octets_sound c s (spelling name) h
    go false = name_sound c s name h
data_sound (Minfo first second) c s h =
    let parts = parted (spelling first) (spelling second) h in
    name_sound (with_name first c) (name_sound c s first parts.0) second parts.1
data_sound (Mx preference name) c s h =
    name_sound (with_u16 preference c) (u16_sound c s preference) name (parted (to_be_bytes w16 preference) (spelling name) h).1
data_sound (StartOfAuthority soa) c s h = soa_sound soa c s h
data_sound (Service srv) c s h = octets_sound c s (data_spelling (Service srv)) h
data_sound (Named it) c s h = octets_sound c s (data_spelling (Named it)) h
data_sound (Txt octets) c s h = octets_sound c s octets h
data_sound (Opt octets) c s h = octets_sound c s octets h
data_sound (Other octets) c s h = octets_sound c s octets h

question_sound : (q : Asked) (c : Compressed) → IsSound c → OfOctets (spelling q.name) → IsSound (with_question q c)
unfolding with_question
question_sound q c s h = u16_sound _ (u16_sound _ (name_sound c s q.name h) q.rtype) q.class

-- a record whose name and data are spelled with octets
pub record IsSpelled (w : Written) : Type 0 where
  pub owner : OfOctets (spelling w.owner)
  pub content : OfOctets (data_spelling w.content)

fields_sound : (w : Written) (c : Compressed) → IsSound c → OfOctets (spelling w.owner) → IsSound (with_fields w c)
unfolding with_fields
fields_sound w c s h = u32_sound _ (u16_sound _ (u16_sound _ (name_sound c s w.owner h) w.rtype) w.class) w.ttl

counted_data_sound : (d : Data) (c : Compressed) → IsSound c → OfOctets (data_spelling d) → IsSound (with_counted_data d c)
unfolding with_counted_data
counted_data_sound d c s h = counted_sound _ (data_sound d _ (u16_sound c s 0) h) (length c.octets)

record_sound : (w : Written) (c : Compressed) → IsSound c → IsSpelled w → IsSound (with_record w c)
unfolding with_record
record_sound w c s h = counted_data_sound w.content _ (fields_sound w c s h.owner) h.content

-- ---- drafts

pub record HoldsOctets (d : Draft) : Type 0 where
  sound : IsSound d.target

pub fresh_octets : (limit : Option ℕ) → HoldsOctets (fresh limit)
unfolding fresh
fresh_octets limit = record { sound = record { octets = zeros 12; places = tt } }

pub question_octets : (q : Asked) (d : Draft) → HoldsOctets d → OfOctets (spelling q.name) → HoldsOctets (pushed_question q d)
unfolding pushed_question
question_octets q d h name = record { sound = question_sound q d.target h.sound name }

pub record_octets : (section : Section) (w : Written) (d : Draft) → HoldsOctets d → IsSpelled w → HoldsOctets (pushed_record section w d)
unfolding pushed_record
record_octets section w d h spelled = record { sound = record_sound w d.target h.sound spelled }

-- under a header of four octets it is a message
counts_octets : (counts : Counts) → OfOctets (counts_spelling counts)
unfolding counts_spelling
counts_octets counts =
    two_before counts.questions (to_be_bytes w16 counts.answer ++ to_be_bytes w16 counts.authority ++ to_be_bytes w16 counts.additional)
    (two_before counts.answer (to_be_bytes w16 counts.authority ++ to_be_bytes w16 counts.additional)
    (two_before counts.authority (to_be_bytes w16 counts.additional) (two counts.additional)))

counts_long : (counts : Counts) → length (counts_spelling counts) ≡ 8
unfolding counts_spelling
counts_long counts = refl

pub finished_octets : (header : List ℕ) (d : Draft) → OfOctets header → HoldsOctets d → OfOctets (finished (with_header header d))
unfolding finished with_header
finished_octets header d octets h =
    let all = joined header (drop 4 d.target.octets) octets (dropped 4 d.target.octets h.sound.octets) in
    joined (take 4 (header ++ drop 4 d.target.octets) ++ counts_spelling d.counts) (drop 12 (header ++ drop 4 d.target.octets))
    (joined (take 4 (header ++ drop 4 d.target.octets)) (counts_spelling d.counts) (taken 4 (header ++ drop 4 d.target.octets) all) (counts_octets d.counts))
    (dropped 12 (header ++ drop 4 d.target.octets) all)

pub finished_long : (header : List ℕ) (d : Draft) → length header ≡ 4 → 12 ≤ length (finished (with_header header d))
unfolding finished with_header
finished_long header d four =
    let xs : List ℕ = header ++ drop 4 d.target.octets in
    let first : length (take 4 xs) ≡ 4 = length-take-le 4 xs (omega (arith, four, length-append header (drop 4 d.target.octets))) in
    omega (arith, first, counts_long d.counts, length-append (take 4 xs) (counts_spelling d.counts), length-append (take 4 xs ++ counts_spelling d.counts) (drop 12 xs))
