-- What is answered where a reply is simple.
use Rattle.std.proofs.Common.{◌≡◌, ℕ, ◌+◌, ◌<◌, ◌≤◌, inl, inr, List, [], ◌∷◌, ◌++◌, length, take, drop, refl, ap, sym, ◌∙◌, arith, append_assoc, append-nil, length-append, Bool, true, false, ◌==◌, ◌&&◌}
use Rattle.std.specs.Prelude.{Option, Some, None, Ok, option_map, option_and_then, slice_range, is_some, not, nat_lt, replicate, if◌then◌else◌}
use Rattle.std.specs.Int.{w16, to_be_bytes}
use Rattle.std.specs.Cmp.Lexicographic.{pointwise}
use Rattle.std.proofs.lemmas.Bool.{leb-true, ltb-true, eqb-true}
use Rattle.std.proofs.lemmas.Bool.Decides.{Decides-eqb}
use Rattle.std.proofs.lemmas.List.{length-drop, length-take-le}
use Rattle.std.proofs.lemmas.Slice.Eq.{slice_eq-Decides}
use Rattle.dns_values.specs.declared.numbers.Section.{Section}
use Rattle.dns_values.specs.declared.numbers.Section.TheVariants.{Answer, Authority, Additional}
use Rattle.dns_names.proofs.Heads.{chosen, none_some, then_ok}
use Rattle.dns_names.proofs.NameLaws.{spelled_length}
use Rattle.dns_names.specs.Name.{Labels, IsLegal, octet_count, spelling}
use Rattle.dns_base.proofs.EntriesBack.{question_found}
use Rattle.dns_base.specs.Answering.{question_items}
use Rattle.dns_base.specs.Compression.{Compressed, name_octets, name_places, with_data, with_name, with_octets, with_question, with_record}
use Rattle.dns_base.specs.Data.{Opt, data_spelling}
use Rattle.dns_base.specs.Draft.{Draft, counts_in, finished, fresh, pushed_question, pushed_record, refusal, with_header}
use Rattle.dns_base.specs.Header.{Counts, id_of, with_id}
use Rattle.dns_base.specs.Message.{Asked, header_of, items_at, list_at, question_at, questions_of, record_at}
use Rattle.dns_base.specs.Numbers.{u16_at}
use Rattle.dns_base.specs.OptRecord.{first_opt, opt_of}
use Rattle.dns_base.specs.Sections.{counts_spelling}
use Rattle.client_request.proofs.Writable.{AreOctets}
use Rattle.client_request.specs.Composed.{Copied, ◌>>◌, adds_opt, copies, copies_section, each, each_found, message_of, section_items}
use Rattle.client_request.specs.Request.{opt_written}
use Rattle.front_queries.proofs.Copied.{both, has_small, record_is}
use Rattle.front_queries.proofs.Drafted.{Named, Ran, drafted, has_room, more, put, read_here, run}
use Rattle.front_queries.proofs.Last.{added, high_of}
use Rattle.front_queries.proofs.Pieces.{u16_again}
use Rattle.front_queries.proofs.Sectioned.{additional_begins, answer_begins, answer_read, authority_begins, authority_read}
use Rattle.front_queries.specs.Answers.{answer_of, asks_as, composed_for, failed, high_bits, is_untold, opt_for, says_to, unless_too_long}
use Rattle.front_queries.specs.Query.{Query}
use Rattle.front_queries.specs.Simple.{additional_from, asks_the_same, octets_of_opt, opt_count, patched, question_end, records_from, simple_ends, simple_of}
use Rattle.front_queries.specs.Spelled.{opt_octets, own_opt}
use Rattle.front_queries.specs.declared.query.Extension.{Extension}
use Rattle.front_queries.specs.declared.simple.Simple.{Simple}

-- the question

spelled_out : (octets : List ℕ) (labels : Labels) → name_octets (record { octets = octets; places = [] }) labels ≡ spelling labels
spelled_out octets [] = refl
spelled_out octets (label ∷ labels) = ap (λ rest. length label ∷ label ++ rest) (spelled_out octets labels)

-- the draft in which nothing stands yet
abbrev empty : Compressed
empty = record { octets = replicate 12 0; places = [] }

first_places : (name : Labels) → 0 < length name → (places : List ℕ) × (name_places empty 12 name ≡ 12 ∷ places)
first_places [] some = absurd (omega (arith, some))
first_places (label ∷ labels) some = (name_places empty (12 + 1 + length label) labels, refl)

abbrev one_question : Counts
one_question = record { questions = 1; answer = 0; authority = 0; additional = 0 }

abbrev asked_at : (m : List ℕ) (name : Labels) (e : ℕ) → Asked
asked_at m name e = record { name = name; rtype = u16_at m e; class = u16_at m (e + 2) }

question_drafted : (m : List ℕ) (name : Labels) (places : List ℕ) (e : ℕ) → Named m name → 12 + octet_count name ≡ e → e + 4 ≤ length m → name_places empty 12 name ≡ 12 ∷ places
    → pushed_question (asked_at m name e) (fresh None) ≡ drafted m one_question places (e + 4)
unfolding pushed_question fresh with_question with_name with_octets
question_drafted m name places e h end within first =
    let Z : List ℕ = replicate 12 0 in
    let N : List ℕ = name_octets empty name in
    let T : List ℕ = to_be_bytes w16 (u16_at m e) in
    let C : List ℕ = to_be_bytes w16 (u16_at m (e + 2)) in
    let named : N ≡ slice_range m 12 e = spelled_out Z name ∙ sym h.is ∙ ap (slice_range m 12) end in
    let typed = put m e (e + 2) (e + 4) T C (u16_again m e (e + 2) h.octets (omega (arith, within)) refl) (u16_again m (e + 2) (e + 4) h.octets within (omega arith)) (omega arith) (omega arith) in
    let all = put m 12 e (e + 4) N (T ++ C) named typed (omega (arith, end)) (omega arith) in
    let flat : ((Z ++ N) ++ T) ++ C ≡ Z ++ (N ++ (T ++ C)) = simp append_assoc in
    let octets : ((Z ++ N) ++ T) ++ C ≡ Z ++ slice_range m 12 (e + 4) = flat ∙ ap (λ x. Z ++ x) all in
    let D : List ℕ → List ℕ → Draft = λ o ps. record { target = record { octets = o; places = ps }; counts = one_question; limit = None } in
    ap (λ o. D o (name_places empty 12 name)) octets ∙ ap (D (Z ++ slice_range m 12 (e + 4))) first

question_read : (m : List ℕ) (name : Labels) (e : ℕ) → Named m name → 12 + octet_count name ≡ e → e + 4 ≤ length m → question_at m 12 ≡ Some (asked_at m name e, e + 4)
question_read m name e h end within =
    let read = read_here m name h (omega (arith, end, within)) in
    question_found m 12 e 0 (asked_at m name e) (read ∙ ap (λ k. Some (record { labels = name; end = k; pointers = 0 })) end) within refl refl

questions_read : (m : List ℕ) (asked : Asked) (at : ℕ) → u16_at m 4 ≡ 1 → question_at m 12 ≡ Some (asked, at) → questions_of m ≡ Some (asked ∷ [], at)
unfolding questions_of list_at
questions_read m asked at one read = rw (one, read) refl

only_item : (m : List ℕ) (asked : Asked) (at : ℕ) → u16_at m 4 ≡ 1 → question_at m 12 ≡ Some (asked, at) → question_items m ≡ Ok asked ∷ []
unfolding items_at
only_item m asked at one read = rw (one, read) refl

question_copied : (m : List ℕ) (name : Labels) (places : List ℕ) (e : ℕ) → Named m name → 12 + octet_count name ≡ e → e + 4 ≤ length m → u16_at m 4 ≡ 1 → name_places empty 12 name ≡ 12 ∷ places
    → each (asks_as name) (question_items m) (fresh None) ≡ Ok (drafted m one_question places (e + 4))
unfolding refusal counts_in fresh
question_copied m name places e h end within one first =
    ap (λ xs. each (asks_as name) xs (fresh None)) (only_item m (asked_at m name e) (e + 4) one (question_read m name e h end within))
    ∙ ap (λ d. Ok d) (question_drafted m name places e h end within first)

-- this host's OPT record

root_named : (c : Compressed) → with_name [] c ≡ record c { octets = c.octets ++ 0 ∷ [] }
unfolding with_name
root_named c = rw (append-nil c.places) refl

no_options : (c : Compressed) → with_data (Opt []) c ≡ with_octets [] c
unfolding with_data data_spelling
no_options c = refl

opt_is : (b : Bool) (c : Compressed) → with_record (opt_written (own_opt 0 b)) c ≡ record c { octets = c.octets ++ opt_octets (own_opt 0 b) }
unfolding opt_octets
opt_is true c = record_is (opt_written (own_opt 0 true)) c (0 ∷ []) [] (root_named c) no_options
opt_is false c = record_is (opt_written (own_opt 0 false)) c (0 ∷ []) [] (root_named c) no_options

-- a draft of these octets behind the first twelve, which are zero
abbrev body_draft : (body places : List ℕ) → Counts → Draft
body_draft body places counts = record { target = record { octets = replicate 12 0 ++ body; places = places }; counts = counts; limit = None }

opt_added : (ext : Option Extension) (body places : List ℕ) (counts : Counts) → counts.additional < 65535
    → adds_opt (option_map (λ e. own_opt 0 e.dnssec_ok) ext) (body_draft body places counts)
    ≡ Ok (body_draft (body ++ octets_of_opt (option_map (λ e. own_opt 0 e.dnssec_ok) ext)) places (record counts { additional = counts.additional + opt_count (option_map (λ e. own_opt 0 e.dnssec_ok) ext) }))
unfolding refusal counts_in pushed_record
opt_added None body places counts few =
    ap (λ b. Ok (body_draft b places counts)) (sym (append-nil body)) ∙ ap (λ n. Ok (body_draft (body ++ []) places (record counts { additional = n }))) (omega arith)
opt_added (Some e) body places counts few =
    let c : Compressed = record { octets = replicate 12 0 ++ body; places = places } in
    let opt : List ℕ = opt_octets (own_opt 0 e.dnssec_ok) in
    let is = opt_is e.dnssec_ok c ∙ ap (λ o. record c { octets = o }) (append_assoc (replicate 12 0) body opt) in
    rw (has_room counts.additional few, is) refl

-- the whole draft, and its octets

then_is : (x : Copied) (f : Draft → Copied) (d : Draft) (y : Copied) → x ≡ Ok d → f d ≡ y → (x >> f) ≡ y
then_is x f d y e g = ap (λ z. z >> f) e ∙ g

section_is : (section : Section) (m : List ℕ) (count p : ℕ) (d e : Draft) → section_items section m ≡ Some (items_at (record_at m) count p) → each (copies section) (items_at (record_at m) count p) d ≡ Ok e
    → copies_section section m d ≡ Ok e
section_is section m count p d e items is = ap (λ o. each_found section o d) items ∙ is

done : (section : Section) (m : List ℕ) (name : Labels) (n p e : ℕ) (counts : Counts) (places : List ℕ) → Ran m name n 0 n p e
    → each (copies section) (items_at (record_at m) 0 e) (drafted m (more section n counts) places e) ≡ Ok (drafted m (more section n counts) places e)
unfolding items_at
done section m name n p e counts places ran = refl

-- What is known of a simple reply.
record Parts (q : Query) (m : List ℕ) (s : Simple) : Type 0 where
  named : Named m q.asked.name
  one : u16_at m 4 ≡ 1
  long : 12 + octet_count q.asked.name + 4 ≤ length m
  few : u16_at m 10 < 65535
  mid : ℕ
  behind : ℕ
  answer : simple_ends m (u16_at m 6) (12 + octet_count q.asked.name + 4) ≡ Some mid
  authority : simple_ends m (u16_at m 8) mid ≡ Some behind
  additional : additional_from m (u16_at m 10) behind ≡ Some s

same_octets : (xs ys : List ℕ) → pointwise ◌==◌ xs ys ≡ true → xs ≡ ys
same_octets xs ys e = (slice_eq-Decides Decides-eqb xs ys (pointwise ◌==◌ xs ys) refl).0 e

labelled : (name : Labels) → 1 < octet_count name → 0 < length name
labelled [] h = absurd (omega (arith, h))
labelled (label ∷ labels) h = omega arith

parts_of : (q : Query) (m : List ℕ) (s : Simple) → IsLegal q.asked.name → AreOctets m → simple_of q m ≡ Some s → Parts q m s
unfolding simple_of records_from
parts_of q m s legal octets is =
    elim (chosen (asks_the_same q m && nat_lt (u16_at m 10) 65535) (records_from m (question_end q)) None (Some s) is) [
      | inl its ↦
          let tests = both _ _ its.0 in
          let asked = both _ _ tests.0 in
          let first = both _ _ asked.0 in
          let second = both _ _ asked.1 in
          let long = spelled_length q.asked.name in
          let same = same_octets _ _ second.1 in
          let end : question_end q ≡ 12 + octet_count q.asked.name + 4 = ap (λ n. 12 + n + 4) long in
          let within : question_end q ≤ length m = leb-true _ _ second.0 in
          let many : 1 < length (spelling q.asked.name) = ltb-true _ _ first.0 in
          let answered = then_ok (simple_ends m (u16_at m 6) (question_end q)) _ s its.1 in
          let authorized = then_ok (simple_ends m (u16_at m 8) answered.0) _ s answered.2 in
          record {
            named = record {
              legal = legal;
              some = labelled q.asked.name (omega (arith, many, long));
              is = ap (λ n. slice_range m 12 (12 + n)) (sym long) ∙ same;
              octets = octets;
            };
            one = eqb-true _ _ first.1;
            long = omega (arith, end, within);
            few = ltb-true _ _ tests.1;
            mid = answered.0;
            behind = authorized.0;
            answer = ap (simple_ends m (u16_at m 6)) (sym end) ∙ answered.1;
            authority = authorized.1;
            additional = authorized.2;
          }
      | inr other ↦ none_some other.1
    ]

-- the draft, and that the reply tells no high bits of a response code
record Composes (q : Query) (m : List ℕ) (s : Simple) : Type 0 where
  places : List ℕ
  low : high_bits m ≡ 0
  says : says_to q m (fresh None) ≡ Ok (body_draft (slice_range m 12 s.end ++ octets_of_opt (opt_for q 0)) places
      (record { questions = 1; answer = u16_at m 6; authority = u16_at m 8; additional = s.additional + opt_count (opt_for q 0) }))

counted : (a u x : ℕ) → more Additional x (more Authority u (more Answer a one_question)) ≡ record { questions = 1; answer = a; authority = u; additional = x }
unfolding more
counted a u x =
    ap (λ n. record { questions = 1; answer = n; authority = 0 + u; additional = 0 + x }) (omega arith)
    ∙ ap (λ n. record { questions = 1; answer = a; authority = n; additional = 0 + x }) (omega arith)
    ∙ ap (λ n. record { questions = 1; answer = a; authority = u; additional = n }) (omega arith)

zero_before : (a u : ℕ) → (more Authority u (more Answer a one_question)).additional ≡ 0
unfolding more
zero_before a u = refl

authority_none : (n : ℕ) → (more Answer n one_question).authority ≡ 0
unfolding more
authority_none n = refl

composes : (q : Query) (m : List ℕ) (s : Simple) → Parts q m s → Composes q m s
unfolding opt_of
composes q m s h =
    let name : Labels = q.asked.name in
    let e : ℕ = 12 + octet_count name in
    let first = first_places name h.named.some in
    let places : List ℕ = first.0 in
    let read = question_read m name e h.named refl h.long in
    let questions = questions_read m (asked_at m name e) (e + 4) h.one read in
    let a = run m name (u16_at m 6) 0 (u16_at m 6) (e + 4) h.mid h.named (omega arith) (omega arith) h.answer in
    let u = run m name (u16_at m 8) 0 (u16_at m 8) h.mid h.behind h.named (omega (arith, a.behind)) (omega arith) h.authority in
    let x = added m name (u16_at m 10) h.behind s h.named (omega (arith, a.behind, u.behind)) h.few h.additional in
    let answers = answer_read m (asked_at m name e ∷ []) a.records (e + 4) h.mid questions a.read in
    let authorities = authority_read m a.records u.records h.mid h.behind answers u.read in
    let additionals = additional_begins m u.records h.behind authorities in
    let c1 : Counts = more Answer (u16_at m 6) one_question in
    let c2 : Counts = more Authority (u16_at m 8) c1 in
    let c3 : Counts = more Additional s.additional c2 in
    let d0 = question_copied m name places e h.named refl h.long h.one first.1 in
    let d1 = section_is Answer m (u16_at m 6) (e + 4) _ (drafted m c1 places h.mid) (answer_begins m (asked_at m name e ∷ []) (e + 4) questions)
    (a.copied Answer one_question places (omega (arith, has_small m 6 h.named.octets)) ∙ done Answer m name (u16_at m 6) (e + 4) h.mid one_question places a) in
    let d2 = section_is Authority m (u16_at m 8) h.mid _ (drafted m c2 places h.behind) (authority_begins m a.records h.mid answers)
    (u.copied Authority c1 places (omega (arith, has_small m 8 h.named.octets, authority_none (u16_at m 6))) ∙ done Authority m name (u16_at m 8) h.mid h.behind c1 places u) in
    let d3 = section_is Additional m (u16_at m 10) h.behind _ (drafted m c3 places s.end) additionals (x.copied c2 places (zero_before (u16_at m 6) (u16_at m 8))) in
    let low : high_bits m ≡ 0 = ap (λ o. high_of (option_and_then first_opt o)) additionals ∙ x.low in
    let is = counted (u16_at m 6) (u16_at m 8) s.additional in
    let room : c3.additional < 65535 = omega (arith, ap (λ (c : Counts). c.additional) is, x.few, h.few) in
    let d4 = opt_added q.extension (slice_range m 12 s.end) (12 ∷ places) c3 room in
    let last = ap (λ (c : Counts). body_draft (slice_range m 12 s.end ++ octets_of_opt (opt_for q 0)) (12 ∷ places) (record c { additional = c.additional + opt_count (opt_for q 0) })) is in
    let all = ap (λ n. adds_opt (opt_for q n) (drafted m c3 places s.end)) low ∙ d4 ∙ ap (λ d. Ok d) last in
    record {
      places = 12 ∷ places;
      low = low;
      says = then_is _ (adds_opt (opt_for q (high_bits m))) _ _
          (then_is _ (copies_section Additional m) _ _ (then_is _ (copies_section Authority m) _ _ (then_is _ (copies_section Answer m) _ _ d0 d1) d2) d3) all;
    }

headed : (header body places : List ℕ) (counts : Counts) → length header ≡ 4
    → finished (with_header header (body_draft body places counts)) ≡ header ++ (counts_spelling counts ++ body)
unfolding finished with_header
headed [] body places counts four = absurd (omega (arith, four))
headed (a ∷ []) body places counts four = absurd (omega (arith, four))
headed (a ∷ b ∷ []) body places counts four = absurd (omega (arith, four))
headed (a ∷ b ∷ c ∷ []) body places counts four = absurd (omega (arith, four))
headed (a ∷ b ∷ c ∷ d ∷ []) body places counts four = refl
headed (a ∷ b ∷ c ∷ d ∷ x ∷ header) body places counts four = absurd (omega (arith, four))

header_long : (id : ℕ) (m : List ℕ) → 12 ≤ length m → length (with_id id (header_of m)) ≡ 4
header_long id m long = omega (arith, length-append (to_be_bytes w16 id) (drop 2 (take 4 m)), length-drop 2 (take 4 m), length-take-le 4 m (omega (arith, long)))

composed_is : (q : Query) (m : List ℕ) (s : Simple) → 12 ≤ length m → Composes q m s → composed_for q m ≡ Ok (patched q m s)
unfolding composed_for patched
composed_is q m s long h =
    let header : List ℕ = with_id (id_of q.header) (header_of m) in
    let counts : Counts = record { questions = 1; answer = u16_at m 6; authority = u16_at m 8; additional = s.additional + opt_count (opt_for q 0) } in
    let body : List ℕ = slice_range m 12 s.end ++ octets_of_opt (opt_for q 0) in
    ap (λ (x : Copied). message_of (x >> (λ all. Ok (with_header header all)))) h.says
    ∙ ap (λ o. Ok o) (headed header body h.places counts (header_long (id_of q.header) m long))

told : (q : Query) (m : List ℕ) → high_bits m ≡ 0 → is_untold q m ≡ false
told q m low = ap (λ n. not (is_some q.extension) && not (n == 0)) low ∙ never (not (is_some q.extension))
  where
    never : (b : Bool) → (b && false) ≡ false
    never true = refl
    never false = refl

pub answered : (q : Query) (m : List ℕ) → IsLegal q.asked.name → AreOctets m → (s : Simple) → simple_of q m ≡ Some s → answer_of q (Ok m) ≡ unless_too_long q (Ok (patched q m s))
answered q m legal octets s is =
    let parts = parts_of q m s legal octets is in
    let all = composes q m s parts in
    ap (λ b. if b then failed q else unless_too_long q (composed_for q m)) (told q m all.low)
    ∙ ap (unless_too_long q) (composed_is q m s (omega (arith, parts.long)) all)
