-- How many octets are written: as many as uncompressed, at most.
use Rattle.std.proofs.Common.{◌≡◌, ℕ, ◌+◌, ◌-◌, ◌<◌, ◌≤◌, List, [], ◌∷◌, ◌++◌, take, drop, length, refl, arith, ap, sym, ◌∙◌, subst, length-append, Bool, true, false}
use Rattle.std.proofs.lemmas.List.{take-append-le, length-take, length-take-le, length-drop, take_at, take-take}
use Rattle.std.proofs.Math.Seq.{take-append_seam}
use Rattle.dns_base.proofs.Named.{named_long}
use Rattle.dns_base.proofs.Compressing.{begins_itself, continues_on}
use Rattle.std.specs.Prelude.{Option, Some, None, ◌==◌, if◌then◌else◌}
use Rattle.std.specs.Int.{w16, w32, to_be_bytes}
use Rattle.dns_names.specs.Name.{Labels, octet_count, spelling}
use Rattle.dns_names.proofs.NameLaws.{spelled_length}
use Rattle.dns_base.specs.Data.{Data, A, Aaaa, One, Minfo, Mx, StartOfAuthority, Service, Named, Txt, Opt, Other, Srv, data_spelling, data_size}
use Rattle.dns_base.specs.Message.{Asked, Written}
use Rattle.dns_base.specs.Compression.{Compressed, found_at, pointer_or, name_octets, name_places, with_name, with_u16, with_u32, with_octets, with_data, with_numbers, with_fields, with_question, with_counted_data, with_record, counted, count_behind, Begins, Continues}
use Rattle.dns_base.specs.Draft.{Draft, IsWithin, cleared, question_size, record_size}

-- a pointer is no longer than a label and the root
pointer_short : (o : Option ℕ) (label rest : List ℕ) (n : ℕ) → 0 < n → length rest ≤ n → length (pointer_or o (length label ∷ label ++ rest)) ≤ 1 + length label + n
pointer_short (Some place) label rest n some h = omega arith
pointer_short None label rest n some h = omega (arith, length-append label rest)

some_octets : (labels : Labels) → 0 < octet_count labels
some_octets [] = omega arith
some_octets (label ∷ labels) = omega arith

pub name_short : (c : Compressed) (labels : Labels) → length (name_octets c labels) ≤ octet_count labels
name_short c [] = omega arith
name_short c (label ∷ labels) =
    pointer_short (found_at c.octets c.places (label ∷ labels)) label (name_octets c labels) (octet_count labels) (some_octets labels) (name_short c labels)

pub named_at_most : (labels : Labels) (c : Compressed) → length (with_name labels c).octets ≤ length c.octets + octet_count labels
unfolding with_name
named_at_most labels c = omega (arith, length-append c.octets (name_octets c labels), name_short c labels)

pub appended_long : (octets : List ℕ) (c : Compressed) → length (with_octets octets c).octets ≡ length c.octets + length octets
unfolding with_octets
appended_long octets c = length-append c.octets octets

one_at_most : (b : Bool) (name : Labels) (c : Compressed) → length (if b then with_octets (spelling name) c else with_name name c).octets ≤ length c.octets + octet_count name
one_at_most true name c = omega (arith, appended_long (spelling name) c, spelled_length name)
one_at_most false name c = named_at_most name c

srv_long : (srv : Srv) → length (data_spelling (Service srv)) ≡ 6 + octet_count srv.target
unfolding data_spelling
srv_long srv =
    let P : List ℕ = to_be_bytes w16 srv.priority ++ to_be_bytes w16 srv.weight ++ to_be_bytes w16 srv.port in
    omega (arith, length-append P (spelling srv.target), spelled_length srv.target)

-- how many octets data has with its names spelled out
pub data_long : (content : Data) → length (data_spelling content) ≡ data_size content
unfolding data_spelling
data_long (A octets) = refl
data_long (Aaaa octets) = refl
data_long (One rtype name) = spelled_length name
data_long (Minfo first second) = omega (arith, length-append (spelling first) (spelling second), spelled_length first, spelled_length second)
data_long (Mx preference name) = omega (arith, length-append (to_be_bytes w16 preference) (spelling name), spelled_length name)
data_long (StartOfAuthority soa) =
    let M : List ℕ = spelling soa.mname in
    let R : List ℕ = spelling soa.rname in
    let S : List ℕ = to_be_bytes w32 soa.serial in
    let F : List ℕ = to_be_bytes w32 soa.refresh in
    let T : List ℕ = to_be_bytes w32 soa.retry in
    let X : List ℕ = to_be_bytes w32 soa.expire in
    let N : List ℕ = to_be_bytes w32 soa.minimum in
    omega (arith, length-append (M ++ R ++ S ++ F ++ T ++ X) N, length-append (M ++ R ++ S ++ F ++ T) X, length-append (M ++ R ++ S ++ F) T, length-append (M ++ R ++ S) F, length-append (M ++ R) S, length-append M R, spelled_length soa.mname, spelled_length soa.rname)
data_long (Service srv) = srv_long srv
data_long (Named it) = named_long it
data_long (Txt octets) = refl
data_long (Opt octets) = refl
data_long (Other octets) = refl

pub data_at_most : (content : Data) (c : Compressed) → length (with_data content c).octets ≤ length c.octets + data_size content
unfolding with_data with_numbers
data_at_most (One rtype name) c = one_at_most (rtype == 39) name c
data_at_most (Minfo first second) c = omega (arith, named_at_most first c, named_at_most second (with_name first c))
data_at_most (Mx preference name) c = omega (arith, appended_long (to_be_bytes w16 preference) c, named_at_most name (with_octets (to_be_bytes w16 preference) c))
data_at_most (StartOfAuthority soa) c =
    let c1 : Compressed = with_name soa.mname c in
    let c2 : Compressed = with_name soa.rname c1 in
    let c3 : Compressed = with_u32 soa.serial c2 in
    let c4 : Compressed = with_u32 soa.refresh c3 in
    let c5 : Compressed = with_u32 soa.retry c4 in
    let c6 : Compressed = with_u32 soa.expire c5 in
    omega (arith, named_at_most soa.mname c, named_at_most soa.rname c1, appended_long (to_be_bytes w32 soa.serial) c2, appended_long (to_be_bytes w32 soa.refresh) c3, appended_long (to_be_bytes w32 soa.retry) c4, appended_long (to_be_bytes w32 soa.expire) c5, appended_long (to_be_bytes w32 soa.minimum) c6)
data_at_most (A octets) c = omega (arith, appended_long (data_spelling (A octets)) c, data_long (A octets))
data_at_most (Aaaa octets) c = omega (arith, appended_long (data_spelling (Aaaa octets)) c, data_long (Aaaa octets))
data_at_most (Service srv) c = omega (arith, appended_long (data_spelling (Service srv)) c, srv_long srv)
data_at_most (Named it) c = omega (arith, appended_long (data_spelling (Named it)) c, data_long (Named it))
data_at_most (Txt octets) c = omega (arith, appended_long (data_spelling (Txt octets)) c, data_long (Txt octets))
data_at_most (Opt octets) c = omega (arith, appended_long (data_spelling (Opt octets)) c, data_long (Opt octets))
data_at_most (Other octets) c = omega (arith, appended_long (data_spelling (Other octets)) c, data_long (Other octets))

-- The length of data is written over the two octets before it, and all that stood before them stays.
pub begins_long : (a b : List ℕ) → Begins a b → length a ≤ length b
begins_long a b h = omega (arith, ap length h, length-take (length a) b)

pub counted_continues : (a c : Compressed) → length a.octets + 2 ≤ length c.octets → Continues a c → Continues a (counted (length a.octets) c)
unfolding counted
counted_continues a c long h =
    let first : length (take (length a.octets) c.octets) ≡ length a.octets = length-take-le (length a.octets) c.octets (omega arith) in
    record {
      octets = take_at (take (length a.octets) c.octets) (to_be_bytes w16 (count_behind (length a.octets) c.octets) ++ drop (length a.octets + 2) c.octets) (length a.octets) first ∙ h.octets;
      places = h.places;
    }

pub counted_long : (at : ℕ) (c : Compressed) → at + 2 ≤ length c.octets → length (counted at c).octets ≡ length c.octets
unfolding counted
counted_long at c long =
    let N : List ℕ = to_be_bytes w16 (count_behind at c.octets) in
    omega (arith, length-append (take at c.octets) (N ++ drop (at + 2) c.octets), length-append N (drop (at + 2) c.octets), length-take-le at c.octets (omega arith), length-drop (at + 2) c.octets)

pub named_continues : (labels : Labels) (c : Compressed) → Continues c (with_name labels c)
unfolding with_name
named_continues labels c = record {
  octets = take-append_seam c.octets (name_octets c labels);
  places = take-append_seam c.places (name_places c (length c.octets) labels);
}

pub appended_continues : (octets : List ℕ) (c : Compressed) → Continues c (with_octets octets c)
unfolding with_octets
appended_continues octets c = record { octets = take-append_seam c.octets octets; places = begins_itself c.places }

one_continues : (b : Bool) (name : Labels) (c : Compressed) → Continues c (if b then with_octets (spelling name) c else with_name name c)
one_continues true name c = appended_continues (spelling name) c
one_continues false name c = named_continues name c

-- one thing behind the other
names_continue : (first second : Labels) (c : Compressed) → Continues c (with_name second (with_name first c))
names_continue first second c = continues_on _ _ _ (named_continues first c) (named_continues second (with_name first c))

more_continues : (octets : List ℕ) (a c : Compressed) → Continues a c → Continues a (with_octets octets c)
more_continues octets a c h = continues_on _ _ _ h (appended_continues octets c)

pub data_continues : (content : Data) (c : Compressed) → Continues c (with_data content c)
unfolding with_data with_numbers data_spelling
data_continues (One rtype name) c = one_continues (rtype == 39) name c
data_continues (Minfo first second) c = names_continue first second c
data_continues (Mx preference name) c = continues_on _ _ _ (appended_continues (to_be_bytes w16 preference) c) (named_continues name _)
data_continues (StartOfAuthority soa) c =
    more_continues _ c _ (more_continues _ c _ (more_continues _ c _ (more_continues _ c _ (more_continues _ c _ (names_continue soa.mname soa.rname c)))))
data_continues (A octets) c = appended_continues octets c
data_continues (Aaaa octets) c = appended_continues octets c
data_continues (Service srv) c = appended_continues _ c
data_continues (Named it) c = appended_continues _ c
data_continues (Txt octets) c = appended_continues octets c
data_continues (Opt octets) c = appended_continues octets c
data_continues (Other octets) c = appended_continues octets c

pub fields_continue : (w : Written) (c : Compressed) → Continues c (with_fields w c)
unfolding with_fields
fields_continue w c = more_continues _ c _ (more_continues _ c _ (more_continues _ c _ (named_continues w.owner c)))

-- behind the two octets for the length
pub data_behind : (content : Data) (c : Compressed) → length c.octets + 2 ≤ length (with_data content (with_u16 0 c)).octets
data_behind content c = omega (arith, appended_long (to_be_bytes w16 0) c, begins_long _ _ (data_continues content (with_u16 0 c)).octets)

counted_data_continues : (content : Data) (c : Compressed) → Continues c (with_counted_data content c)
unfolding with_counted_data
counted_data_continues content c =
    let now : Compressed = with_data content (with_u16 0 c) in
    counted_continues c now (data_behind content c) (continues_on _ _ _ (appended_continues (to_be_bytes w16 0) c) (data_continues content (with_u16 0 c)))

counted_data_at_most : (content : Data) (c : Compressed) → length (with_counted_data content c).octets ≤ length c.octets + 2 + data_size content
unfolding with_counted_data
counted_data_at_most content c =
    let now : Compressed = with_data content (with_u16 0 c) in
    omega (arith, counted_long (length c.octets) now (data_behind content c), data_at_most content (with_u16 0 c), appended_long (to_be_bytes w16 0) c)

pub question_continues : (q : Asked) (c : Compressed) → Continues c (with_question q c)
unfolding with_question
question_continues q c = more_continues _ c _ (more_continues _ c _ (named_continues q.name c))

pub question_at_most : (q : Asked) (c : Compressed) → length (with_question q c).octets ≤ length c.octets + question_size q
unfolding with_question
question_at_most q c =
    let named : Compressed = with_name q.name c in
    omega (arith, named_at_most q.name c, appended_long (to_be_bytes w16 q.rtype) named, appended_long (to_be_bytes w16 q.class) (with_u16 q.rtype named))

pub record_continues : (w : Written) (c : Compressed) → Continues c (with_record w c)
unfolding with_record
record_continues w c = continues_on _ _ _ (fields_continue w c) (counted_data_continues w.content (with_fields w c))

fields_at_most : (w : Written) (c : Compressed) → length (with_fields w c).octets ≤ length c.octets + octet_count w.owner + 8
unfolding with_fields
fields_at_most w c =
    let named : Compressed = with_name w.owner c in
    let typed : Compressed = with_u16 w.rtype named in
    omega (arith, named_at_most w.owner c, appended_long (to_be_bytes w16 w.rtype) named, appended_long (to_be_bytes w16 w.class) typed, appended_long (to_be_bytes w32 w.ttl) (with_u16 w.class typed))

pub record_at_most : (w : Written) (c : Compressed) → length (with_record w c).octets ≤ length c.octets + record_size w
unfolding with_record
record_at_most w c = omega (arith, fields_at_most w c, counted_data_at_most w.content (with_fields w c))

-- what stands at the front of a message stays
pub head_stays : (n : ℕ) (a b : List ℕ) → n ≤ length a → Begins a b → take n b ≡ take n a
head_stays n a b long h = sym (take-take n (length a) b long) ∙ ap (take n) h

pub within_less : (limit : Option ℕ) (fewer more : ℕ) → fewer ≤ more → IsWithin limit more → IsWithin limit fewer
within_less None fewer more h w = tt
within_less (Some limit) fewer more h w = omega arith

-- what a push changes in a draft, but for its counts
pub head_kept : (d e : Draft) (target : Compressed) → 12 ≤ length d.target.octets → Continues d.target target → e.target ≡ target → e.limit ≡ d.limit → cleared e ≡ cleared d
unfolding cleared
head_kept d e target long h is same =
    let head : take 12 target.octets ≡ take 12 d.target.octets = head_stays 12 d.target.octets target.octets long h.octets in
    let f = ap (λ (t : Compressed). take 12 t.octets) is in
    cc

pub still_fits : (limit before_limit : Option ℕ) (now before target : Compressed) (more : ℕ) → IsWithin before_limit (length before.octets + more)
    → length target.octets ≤ length before.octets + more → now ≡ target → limit ≡ before_limit → IsWithin limit (length now.octets)
still_fits limit before_limit now before target more h few is same =
    let less : length now.octets ≤ length before.octets + more = omega (arith, ap (λ (t : Compressed). length t.octets) is, few) in
    rw same (within_less before_limit (length now.octets) (length before.octets + more) less h)
