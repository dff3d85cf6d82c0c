-- Questions and records that were written are read.
use Rattle.std.proofs.Common.{◌≡◌, ℕ, ◌+◌, ◌-◌, ◌<◌, ◌≤◌, ◌^◌, List, [], ◌∷◌, ◌++◌, length, take, drop, refl, ap, sym, ◌∙◌, subst, arith, length-append, append_assoc}
use Rattle.std.specs.Prelude.{Option, Some, None, slice_range}
use Rattle.std.specs.List.{AllByRecursion}
use Rattle.std.specs.Int.{w16, w32, to_be_bytes}
use Rattle.std.proofs.lemmas.Bool.{le-leb}
use Rattle.std.proofs.lemmas.List.{length-take-le, length-drop, drop-append-le}
use Rattle.dns_names.specs.Name.{name_at, IsLegal}
use Rattle.dns_base.specs.Numbers.{u16_at, u32_at}
use Rattle.dns_base.specs.Data.{data_at, data_size}
use Rattle.dns_base.specs.Message.{Asked, Written, Entry, Known, question_at, record_at}
use Rattle.dns_base.specs.Knowing.{lowered_asked}
use Rattle.dns_base.specs.Holding.{IsAskable, IsWritable, AskedReadsAs, ReadsAs, IsPlace, ArePlaces}
use Rattle.dns_base.specs.Compression.{Compressed, with_name, with_octets, with_u16, with_u32, with_data, with_question, with_fields, counted, count_behind, with_counted_data, with_record, Begins, Continues}
use Rattle.dns_base.proofs.Compressing.{continues_on}
use Rattle.dns_base.proofs.Stands.{Stands, first_stands, second_stands, range_stands, stands_within, number_stands, wide_stands, Shows, shows_before, shows_itself}
use Rattle.dns_base.proofs.Places.{NameRead, name_read, name_remembered, octets_remembered, octets_shown}
use Rattle.dns_base.proofs.DataBack.{data_reads_as, data_remembered}
use Rattle.dns_base.proofs.Sizes.{appended_long, named_continues, appended_continues, data_continues, data_behind, data_at_most, fields_continue, question_continues, record_continues, begins_long, counted_long}

pub question_found : (octets : List ℕ) (at end pointers : ℕ) (q : Asked) → name_at octets at ≡ Some (record { labels = q.name; end = end; pointers = pointers }) → end + 4 ≤ length octets
    → u16_at octets end ≡ q.rtype → u16_at octets (end + 2) ≡ q.class → question_at octets at ≡ Some (q, end + 4)
unfolding question_at
question_found octets at end pointers q n fits t c = rw (n, le-leb (end + 4) (length octets) fits, t, c) refl

pub record QuestionBack (q : Asked) (o : List ℕ) (at end : ℕ) : Type 0 where
  pub asked : Asked
  pub read : question_at o at ≡ Some (asked, end)
  pub reads_as : AskedReadsAs asked q

pub question_back : (q : Asked) (n : ℕ) (c : Compressed) (o : List ℕ) → n ≤ length c.octets → IsAskable q → ArePlaces c.octets o c.places → Shows n (with_question q c).octets o
    → QuestionBack q o (length c.octets) (length (with_question q c).octets)
unfolding with_question
question_back q n c o long h places s =
    let c1 : Compressed = with_name q.name c in
    let c2 : Compressed = with_u16 q.rtype c1 in
    let c3 : Compressed = with_u16 q.class c2 in
    let l1 = begins_long c.octets c1.octets (named_continues q.name c).octets in
    let l2 : length c2.octets ≡ length c1.octets + 2 = appended_long (to_be_bytes w16 q.rtype) c1 in
    let l3 : length c3.octets ≡ length c1.octets + 4 = omega (arith, appended_long (to_be_bytes w16 q.class) c2) in
    let s2 = shows_before n c2.octets c3.octets o (omega arith) (appended_continues (to_be_bytes w16 q.class) c2).octets s in
    let s1 = shows_before n c1.octets c2.octets o (omega arith) (appended_continues (to_be_bytes w16 q.rtype) c1).octets s2 in
    let name = name_read q.name n c o long h.name places s1 in
    let rtype = octets_shown (to_be_bytes w16 q.rtype) n c1 o (omega arith) s2 in
    let class = subst (λ k. Stands o k (to_be_bytes w16 q.class)) l2 (octets_shown (to_be_bytes w16 q.class) n c2 o (omega arith) s) in
    let asked : Asked = record { name = name.back; rtype = q.rtype; class = q.class } in
    let within = stands_within o (to_be_bytes w16 q.class) (length c1.octets + 2) class in
    let found = question_found o (length c.octets) (length c1.octets) name.pointers asked name.read (omega arith)
    (number_stands o q.rtype (length c1.octets) rtype h.rtype) (number_stands o q.class (length c1.octets + 2) class h.class) in
    record {
      asked = asked;
      read = found ∙ ap (λ e. Some (asked, e)) (sym l3);
      reads_as = ap (λ l. record { name = l; rtype = q.rtype; class = q.class }) name.same;
    }

pub question_remembered : (q : Asked) (n : ℕ) (c : Compressed) (o : List ℕ) → n ≤ length c.octets → IsAskable q → ArePlaces c.octets o c.places → Shows n (with_question q c).octets o
    → ArePlaces (with_question q c).octets o (with_question q c).places
unfolding with_question
question_remembered q n c o long h places s =
    let c1 : Compressed = with_name q.name c in
    let c2 : Compressed = with_u16 q.rtype c1 in
    let l1 = begins_long c.octets c1.octets (named_continues q.name c).octets in
    let l2 = begins_long c1.octets c2.octets (appended_continues (to_be_bytes w16 q.rtype) c1).octets in
    let s2 = shows_before n c2.octets _ o (omega arith) (appended_continues (to_be_bytes w16 q.class) c2).octets s in
    let s1 = shows_before n c1.octets c2.octets o (omega arith) (appended_continues (to_be_bytes w16 q.rtype) c1).octets s2 in
    octets_remembered (to_be_bytes w16 q.class) c2 o (octets_remembered (to_be_bytes w16 q.rtype) c1 o (name_remembered q.name n c o long h.name places s1))

-- the fields of a record before its data
record FieldsBack (w : Written) (c : Compressed) (o : List ℕ) : Type 0 where
  end : ℕ
  owner : NameRead o (length c.octets) end w.owner
  rtype : u16_at o end ≡ w.rtype
  class : u16_at o (end + 2) ≡ w.class
  ttl : u32_at o (end + 4) ≡ w.ttl
  long : length (with_fields w c).octets ≡ end + 8
  remembered : ArePlaces (with_fields w c).octets o (with_fields w c).places

fields_back : (w : Written) (n : ℕ) (c : Compressed) (o : List ℕ) → n ≤ length c.octets → IsWritable w → ArePlaces c.octets o c.places → Shows n (with_fields w c).octets o → FieldsBack w c o
unfolding with_fields
fields_back w n c o long h places s =
    let c1 : Compressed = with_name w.owner c in
    let c2 : Compressed = with_u16 w.rtype c1 in
    let c3 : Compressed = with_u16 w.class c2 in
    let c4 : Compressed = with_u32 w.ttl c3 in
    let l1 = begins_long c.octets c1.octets (named_continues w.owner c).octets in
    let l2 : length c2.octets ≡ length c1.octets + 2 = appended_long (to_be_bytes w16 w.rtype) c1 in
    let l3 : length c3.octets ≡ length c1.octets + 4 = omega (arith, appended_long (to_be_bytes w16 w.class) c2) in
    let l4 : length c4.octets ≡ length c1.octets + 8 = omega (arith, appended_long (to_be_bytes w32 w.ttl) c3) in
    let s3 = shows_before n c3.octets c4.octets o (omega arith) (appended_continues (to_be_bytes w32 w.ttl) c3).octets s in
    let s2 = shows_before n c2.octets c3.octets o (omega arith) (appended_continues (to_be_bytes w16 w.class) c2).octets s3 in
    let s1 = shows_before n c1.octets c2.octets o (omega arith) (appended_continues (to_be_bytes w16 w.rtype) c1).octets s2 in
    let rtype = octets_shown (to_be_bytes w16 w.rtype) n c1 o (omega arith) s2 in
    let class = subst (λ k. Stands o k (to_be_bytes w16 w.class)) l2 (octets_shown (to_be_bytes w16 w.class) n c2 o (omega arith) s3) in
    let ttl = subst (λ k. Stands o k (to_be_bytes w32 w.ttl)) l3 (octets_shown (to_be_bytes w32 w.ttl) n c3 o (omega arith) s) in
    record {
      end = length c1.octets;
      owner = name_read w.owner n c o long h.owner places s1;
      rtype = number_stands o w.rtype (length c1.octets) rtype h.rtype;
      class = number_stands o w.class (length c1.octets + 2) class h.class;
      ttl = wide_stands o w.ttl (length c1.octets + 4) ttl h.ttl;
      long = l4;
      remembered = octets_remembered (to_be_bytes w32 w.ttl) c3 o (octets_remembered (to_be_bytes w16 w.class) c2 o (octets_remembered (to_be_bytes w16 w.rtype) c1 o (name_remembered w.owner n c o long h.owner places s1)));
    }

-- What counted data shows: all that stood before it, its length, and itself.
record CountedShows (n : ℕ) (before now : Compressed) (o : List ℕ) : Type 0 where
  first : Shows n before.octets o
  count : Stands o (length before.octets) (to_be_bytes w16 (count_behind (length before.octets) now.octets))
  content : Shows (length before.octets + 2) now.octets o

counted_shows : (n : ℕ) (before now : Compressed) (o : List ℕ) → n ≤ length before.octets → length before.octets + 2 ≤ length now.octets → Begins before.octets now.octets
    → Shows n (counted (length before.octets) now).octets o → CountedShows n before now o
unfolding counted
counted_shows n before now o long behind h s =
    let at : ℕ = length before.octets in
    let N : List ℕ = to_be_bytes w16 (count_behind at now.octets) in
    let D : List ℕ = drop (at + 2) now.octets in
    let whole : drop n (take at now.octets ++ (N ++ D)) ≡ (drop n before.octets ++ N) ++ D =
    ap (λ x. drop n (x ++ (N ++ D))) h ∙ drop-append-le n before.octets (N ++ D) long ∙ sym (append_assoc (drop n before.octets) N D) in
    let all : Stands o n ((drop n before.octets ++ N) ++ D) = subst (Stands o n) whole s in
    let front = first_stands o (drop n before.octets ++ N) D n all in
    record {
      first = first_stands o (drop n before.octets) N n front;
      count = second_stands o (drop n before.octets) N n at front (omega (arith, length-drop n before.octets));
      content = second_stands o (drop n before.octets ++ N) D n (at + 2) all (omega (arith, length-append (drop n before.octets) N, length-drop n before.octets));
    }

record_found : (octets : List ℕ) (at end pointers data_end : ℕ) (r : Entry) → name_at octets at ≡ Some (record { labels = r.owner; end = end; pointers = pointers })
    → end + 10 ≤ length octets → data_end ≤ length octets → end + 10 + u16_at octets (end + 8) ≡ data_end
    → u16_at octets end ≡ r.rtype → u16_at octets (end + 2) ≡ r.class → u32_at octets (end + 4) ≡ r.ttl → slice_range octets (end + 10) data_end ≡ r.octets
    → record_at octets at ≡ Some (record { entry = r; says = data_at r.rtype octets (end + 10) data_end }, data_end)
unfolding record_at
record_found octets at end pointers data_end r n room fits last t c l d =
    rw (n, le-leb (end + 10) (length octets) room, last, le-leb data_end (length octets) fits, t, c, l, d) refl

pub record RecordBack (w : Written) (o : List ℕ) (at end : ℕ) : Type 0 where
  pub known : Known
  pub read : record_at o at ≡ Some (known, end)
  pub reads_as : ReadsAs known w

-- a record whose data is written, but not yet its length
abbrev uncounted : Written → Compressed → Compressed
uncounted w c = with_data w.content (with_u16 0 (with_fields w c))

uncounted_shows : (w : Written) (n : ℕ) (c : Compressed) (o : List ℕ) → n ≤ length c.octets → Shows n (with_record w c).octets o → CountedShows n (with_fields w c) (uncounted w c) o
unfolding with_record with_counted_data
uncounted_shows w n c o long s =
    let fields : Compressed = with_fields w c in
    let base : Compressed = with_u16 0 fields in
    let some = begins_long c.octets fields.octets (fields_continue w c).octets in
    let begins = continues_on fields base (uncounted w c) (appended_continues (to_be_bytes w16 0) fields) (data_continues w.content base) in
    counted_shows n fields (uncounted w c) o (omega arith) (data_behind w.content fields) begins.octets s

record_long : (w : Written) (c : Compressed) → length (with_record w c).octets ≡ length (uncounted w c).octets
unfolding with_record with_counted_data
record_long w c = counted_long (length (with_fields w c).octets) (uncounted w c) (data_behind w.content (with_fields w c))

pub record_back : (w : Written) (n : ℕ) (c : Compressed) (o : List ℕ) → n ≤ length c.octets → IsWritable w → ArePlaces c.octets o c.places → Shows n (with_record w c).octets o
    → RecordBack w o (length c.octets) (length (with_record w c).octets)
record_back w n c o long h places s =
    let fields : Compressed = with_fields w c in
    let base : Compressed = with_u16 0 fields in
    let now : Compressed = uncounted w c in
    let shows = uncounted_shows w n c o long s in
    let f = fields_back w n c o long h places shows.first in
    let remembered = octets_remembered (to_be_bytes w16 0) fields o f.remembered in
    let at : length base.octets ≡ f.end + 10 = omega (arith, appended_long (to_be_bytes w16 0) fields, f.long) in
    let at' : length fields.octets + 2 ≡ length base.octets = sym (appended_long (to_be_bytes w16 0) fields) in
    let last : ℕ = length now.octets in
    let behind = data_behind w.content fields in
    let few : last ≤ length base.octets + data_size w.content = data_at_most w.content base in
    let counted_few : count_behind (length fields.octets) now.octets < 65536 = omega (arith, h.short) in
    let there : Stands o (f.end + 8) (to_be_bytes w16 (count_behind (length fields.octets) now.octets)) = subst (λ k. Stands o k (to_be_bytes w16 (count_behind (length fields.octets) now.octets))) f.long shows.count in
    let count = number_stands o (count_behind (length fields.octets) now.octets) (f.end + 8) there counted_few in
    let entry : Entry = record { owner = f.owner.back; rtype = w.rtype; class = w.class; ttl = w.ttl; octets = slice_range o (f.end + 10) last } in
    let known : Known = record { entry = entry; says = data_at w.rtype o (f.end + 10) last } in
    let whole : last ≤ length o =
    omega (arith, stands_within o (drop (length fields.octets + 2) now.octets) (length fields.octets + 2) shows.content, length-drop (length fields.octets + 2) now.octets, behind) in
    let sum : f.end + 10 + u16_at o (f.end + 8) ≡ last = omega (arith, count, f.long, behind) in
    let found = record_found o (length c.octets) f.end f.owner.pointers last entry f.owner.read (omega (arith, f.long, behind, whole)) whole sum f.rtype f.class f.ttl refl in
    let content : Shows (length base.octets) now.octets o = subst (λ k. Shows k now.octets o) at' shows.content in
    record {
      known = known;
      read = found ∙ ap (λ e. Some (known, e)) (sym (record_long w c));
      reads_as = record {
        owner = f.owner.same;
        rtype = refl;
        class = refl;
        ttl = refl;
        content = data_reads_as w.content w.rtype (length base.octets) base o known h.typed h.content h.short (omega arith) remembered content
            (ap (λ k. slice_range o k last) (sym at)) (ap (λ k. data_at w.rtype o k last) (sym at));
      };
    }

uncounted_remembered : (w : Written) (n : ℕ) (c : Compressed) (o : List ℕ) → n ≤ length c.octets → IsWritable w → ArePlaces c.octets o c.places → Shows n (with_record w c).octets o
    → ArePlaces (uncounted w c).octets o (uncounted w c).places
uncounted_remembered w n c o long h places s =
    let fields : Compressed = with_fields w c in
    let base : Compressed = with_u16 0 fields in
    let shows = uncounted_shows w n c o long s in
    let f = fields_back w n c o long h places shows.first in
    let remembered = octets_remembered (to_be_bytes w16 0) fields o f.remembered in
    let at : length fields.octets + 2 ≡ length base.octets = sym (appended_long (to_be_bytes w16 0) fields) in
    let content : Shows (length base.octets) (uncounted w c).octets o = subst (λ k. Shows k (uncounted w c).octets o) at shows.content in
    data_remembered w.content (length base.octets) base o h.content (omega arith) remembered content

-- read alike there and elsewhere, and so alike in both
place_across : (full now o : List ℕ) (place : ℕ) → IsPlace full now place → IsPlace full o place → IsPlace now o place
place_across full now o place h g =
    let a = h.read_here in
    let b = g.read_here in
    let is : Some h.found ≡ Some g.found = sym a ∙ b in
    record { found = g.found; read_here = h.read_there ∙ is; read_there = g.read_there; few = g.few }

pub places_across : (full now o places : List ℕ) → ArePlaces full now places → ArePlaces full o places → ArePlaces now o places
places_across full now o [] h g = tt
places_across full now o (p ∷ places) h g = (place_across full now o p h.0 g.0, places_across full now o places h.1 g.1)

pub record_remembered : (w : Written) (n : ℕ) (c : Compressed) (o : List ℕ) → n ≤ length c.octets → IsWritable w → ArePlaces c.octets o c.places → ArePlaces c.octets (with_record w c).octets c.places
    → Shows n (with_record w c).octets o → ArePlaces (with_record w c).octets o (with_record w c).places
unfolding with_record with_counted_data counted
record_remembered w n c o long h places own s =
    let more = begins_long c.octets (with_record w c).octets (record_continues w c).octets in
    let itself = shows_itself n (with_record w c).octets (omega arith) in
    places_across (uncounted w c).octets (with_record w c).octets o (uncounted w c).places (uncounted_remembered w n c (with_record w c).octets long h own itself) (uncounted_remembered w n c o long h places s)
