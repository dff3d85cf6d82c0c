-- What a walk over two messages finds the same is the same of their parts.
use Rattle.std.proofs.Common.{◌≡◌, ◌≤◌, ℕ, Bool, true, false, ◌&&◌, ◌==◌, List, [], ◌∷◌, length, refl, sym, ap, ap₂, ◌∙◌, map}
use Rattle.std.specs.Prelude.{Option, Some, None, Result, Ok, Err, option_map, option_and_then}
use Rattle.std.specs.{Bool.beq, List.AllZip}
use Rattle.dns_values.specs.declared.error.ParseError.{ParseError}
use Rattle.dns_values.specs.declared.numbers.Section.{Section}
use Rattle.dns_values.specs.declared.numbers.Section.TheVariants.{Answer, Authority, Additional}
use Rattle.dns_names.specs.Name.{Labels, same_name}
use Rattle.dns_names.proofs.Heads.{then_ok}
use Rattle.dns_base.specs.{Data.Data, Holding.AskedReadsAs, OptRecord.opt_rcode}
use Rattle.dns_base.specs.Message.{Asked, Known, Written, header_of, all_read}
use Rattle.dns_base.specs.Answering.{same_items, question_items}
use Rattle.dns_base.specs.Knowing.{meaning_of, meanings_of, lowered_asked, lowered_data}
use Rattle.dns_base.proofs.Readings.{reading_laws}
use Rattle.client_request.specs.Composed.{section_items}
use Rattle.right_trace.specs.Messages.{Octets}
use Rattle.right_trace.specs.Parts.{Header, Item, Parts, flags_in, typed, known_parts, lowered_item, lowered_parts}
use Rattle.message_judging.proofs.lemmas.matching.Names.{both, all, same_number, number_same, name_same, same_names_are}
use Rattle.message_judging.proofs.lemmas.matching.Shaping.{data_same, same_data_is}
use Rattle.message_judging.proofs.lemmas.matching.Copies.{items_asked, asked_items}
use Rattle.cache_rules.proofs.WhatIsMet.{some_inside, header_is}
use Rattle.cache_rules.proofs.Saying.{what_is_known, known_from}
use Rattle.cache_rules.proofs.Carrying.{meanings_in, as_read}
use Rattle.message_judging.specs.views.Same.{same_flags, same_more_flags, same_header, same_content, same_record, same_records, same_found, same_section, same_message, SaysAs, TellsSame}

-- headers

bits_same : (a b : Bool) → beq a b ≡ true → a ≡ b
bits_same true true e = refl
bits_same true false e = absurd (cc)
bits_same false true e = absurd (cc)
bits_same false false e = refl

same_bits : (a b : Bool) → a ≡ b → beq a b ≡ true
same_bits true true e = refl
same_bits true false e = absurd (cc)
same_bits false true e = absurd (cc)
same_bits false false e = refl

headers_same : (a b : Header) → same_header a b ≡ true → a ≡ b
headers_same a b e =
    let id = both (a.id == b.id) _ e in
    let opcode = both (a.opcode == b.opcode) _ id.1 in
    let rcode = both (a.rcode == b.rcode) _ opcode.1 in
    let flags = both (same_flags a b) (same_more_flags a b) rcode.1 in
    let qr = both (beq a.qr b.qr) _ flags.0 in
    let aa = both (beq a.aa b.aa) _ qr.1 in
    let tc = both (beq a.tc b.tc) (beq a.rd b.rd) aa.1 in
    let ra = both (beq a.ra b.ra) _ flags.1 in
    let z = both (beq a.z b.z) _ ra.1 in
    let ad = both (beq a.ad b.ad) (beq a.cd b.cd) z.1 in
    parts (number_same a.id b.id id.0) (number_same a.opcode b.opcode opcode.0) (number_same a.rcode b.rcode rcode.0) (bits_same a.qr b.qr qr.0) (bits_same a.aa b.aa aa.0) (bits_same a.tc b.tc tc.0) (bits_same a.rd b.rd tc.1)
    (bits_same a.ra b.ra ra.0) (bits_same a.z b.z z.0) (bits_same a.ad b.ad ad.0) (bits_same a.cd b.cd ad.1)
  where
    parts : {i1 i2 o1 o2 c1 c2 : ℕ} {q1 q2 a1 a2 t1 t2 d1 d2 r1 r2 z1 z2 u1 u2 k1 k2 : Bool} → i1 ≡ i2 → o1 ≡ o2 → c1 ≡ c2 → q1 ≡ q2 → a1 ≡ a2 → t1 ≡ t2 → d1 ≡ d2 → r1 ≡ r2 → z1 ≡ z2 → u1 ≡ u2 → k1 ≡ k2
        → Path Header (record { id = i1; opcode = o1; rcode = c1; qr = q1; aa = a1; tc = t1; rd = d1; ra = r1; z = z1; ad = u1; cd = k1 }) (record { id = i2; opcode = o2; rcode = c2; qr = q2; aa = a2; tc = t2; rd = d2; ra = r2; z = z2; ad = u2; cd = k2 })
    parts i o c q a t d r z u k = cc

own_header : (a : Header) → same_header a a ≡ true
own_header a =
    all (a.id == a.id) _ (same_number a.id a.id refl)
    (all (a.opcode == a.opcode) _ (same_number a.opcode a.opcode refl)
    (all (a.rcode == a.rcode) (same_flags a a && same_more_flags a a) (same_number a.rcode a.rcode refl)
    (all (same_flags a a) (same_more_flags a a)
    (all (beq a.qr a.qr) _ (same_bits a.qr a.qr refl)
    (all (beq a.aa a.aa) _ (same_bits a.aa a.aa refl)
    (all (beq a.tc a.tc) (beq a.rd a.rd) (same_bits a.tc a.tc refl) (same_bits a.rd a.rd refl))))
    (all (beq a.ra a.ra) _ (same_bits a.ra a.ra refl)
    (all (beq a.z a.z) _ (same_bits a.z a.z refl)
    (all (beq a.ad a.ad) (beq a.cd a.cd) (same_bits a.ad a.ad refl) (same_bits a.cd a.cd refl)))))))

same_headers : (a b : Header) → a ≡ b → same_header a b ≡ true
same_headers a b e = ap (same_header a) (sym e) ∙ own_header a

-- records

meaning_more : (k : Known) (d : Data) (ks : List Known) (ws : List Written) → k.says ≡ Some d → meanings_of ks ≡ Some ws → meanings_of (k ∷ ks) ≡ Some (as_read k.entry d ∷ ws)
meaning_more k d ks ws e f = ap₂ (λ o p. option_and_then (λ first. option_and_then (λ rest. Some (first ∷ rest)) p) (option_map (as_read k.entry) o)) e f

meant_more : (k : Known) (d : Data) (items : List (Result Known ParseError)) (ws : List Written) → k.says ≡ Some d → meanings_in items ≡ Some ws → meanings_in (Ok k ∷ items) ≡ Some (as_read k.entry d ∷ ws)
meant_more k d items ws e f =
    let r = then_ok (all_read items) meanings_of ws f in
    ap (λ o. option_and_then meanings_of (option_map (λ ks. k ∷ ks) o)) r.1 ∙ meaning_more k d r.0 ws e r.2

-- a record of those that are meant, and the rest
record MeantMore (k : Known) (items : List (Result Known ParseError)) (ws : List Written) : Type 0 where
  content : Data
  says : k.says ≡ Some content
  rest : List Written
  meant : meanings_in items ≡ Some rest
  is : as_read k.entry content ∷ rest ≡ ws

more_meant : (k : Known) (items : List (Result Known ParseError)) (ws : List Written) → meanings_in (Ok k ∷ items) ≡ Some ws → MeantMore k items ws
more_meant k items ws e =
    let r = then_ok (option_map (λ ks. k ∷ ks) (all_read items)) meanings_of ws e in
    let i = some_inside (λ ks. k ∷ ks) (all_read items) r.0 r.1 in
    let m : meanings_of (k ∷ i.0) ≡ Some ws = ap meanings_of i.2 ∙ r.2 in
    let first = then_ok (meaning_of k) (λ first. option_and_then (λ rest. Some (first ∷ rest)) (meanings_of i.0)) ws m in
    let more = then_ok (meanings_of i.0) (λ rest. Some (first.0 ∷ rest)) ws first.2 in
    let d = some_inside (as_read k.entry) k.says first.0 first.1 in
    let is : as_read k.entry d.0 ∷ more.0 ≡ ws = ap (λ w. w ∷ more.0) d.2 ∙ (let z : Some (first.0 ∷ more.0) ≡ Some ws = more.2 in cc) in
    record { content = d.0; says = d.1; rest = more.0; meant = ap (option_and_then meanings_of) i.1 ∙ more.1; is = is }

record SameContent (a b : Option Data) : Type 0 where
  first : Data
  is_first : a ≡ Some first
  second : Data
  is_second : b ≡ Some second
  same : lowered_data first ≡ lowered_data second

content_so : (a b : Option Data) → same_content a b ≡ true → SameContent a b
content_so (Some d) (Some x) e = record { first = d; is_first = refl; second = x; is_second = refl; same = data_same d x e }
content_so (Some d) None e = absurd (cc)
content_so None b e = absurd (cc)

same_item : {o1 o2 : Labels} {t1 t2 c1 c2 l1 l2 : ℕ} {d1 d2 : Data} → o1 ≡ o2 → t1 ≡ t2 → c1 ≡ c2 → l1 ≡ l2 → d1 ≡ d2
    → Path (Item Data) (record { owner = o1; rtype = t1; class = c1; ttl = l1; content = d1 }) (record { owner = o2; rtype = t2; class = c2; ttl = l2; content = d2 })
same_item o t c l d = cc

-- a record that is read as another
record SameRecord (a b : Known) : Type 0 where
  content : SameContent a.says b.says
  same : lowered_item (typed (as_read a.entry content.first)) ≡ lowered_item (typed (as_read b.entry content.second))

record_so : (a b : Known) → same_record a b ≡ true → SameRecord a b
record_so a b e =
    let p = both (same_name a.entry.owner b.entry.owner) _ e in
    let q = both (a.entry.rtype == b.entry.rtype) _ p.1 in
    let r = both (a.entry.class == b.entry.class) _ q.1 in
    let t = both (a.entry.ttl == b.entry.ttl) (same_content a.says b.says) r.1 in
    let c = content_so a.says b.says t.1 in
    record {
      content = c;
      same = same_item (name_same a.entry.owner b.entry.owner p.0) (number_same a.entry.rtype b.entry.rtype q.0) (number_same a.entry.class b.entry.class r.0) (number_same a.entry.ttl b.entry.ttl t.0) c.same;
    }

so_record : (a b : Known) (d x : Data) → a.says ≡ Some d → b.says ≡ Some x → lowered_item (typed (as_read a.entry d)) ≡ lowered_item (typed (as_read b.entry x)) → same_record a b ≡ true
so_record a b d x f g e =
    all (same_name a.entry.owner b.entry.owner) _ (same_names_are a.entry.owner b.entry.owner (ap (λ (i : Item Data). i.owner) e))
    (all (a.entry.rtype == b.entry.rtype) _ (same_number a.entry.rtype b.entry.rtype (ap (λ (i : Item Data). i.rtype) e))
    (all (a.entry.class == b.entry.class) _ (same_number a.entry.class b.entry.class (ap (λ (i : Item Data). i.class) e))
    (all (a.entry.ttl == b.entry.ttl) (same_content a.says b.says) (same_number a.entry.ttl b.entry.ttl (ap (λ (i : Item Data). i.ttl) e))
    (ap₂ same_content f g ∙ same_data_is d x (ap (λ (i : Item Data). i.content) e)))))

low : List Written → List (Item Data)
low ws = map lowered_item (map typed ws)

low_more : (w v : Written) (ws vs : List Written) → lowered_item (typed w) ≡ lowered_item (typed v) → low ws ≡ low vs → low (w ∷ ws) ≡ low (v ∷ vs)
unfolding low
low_more w v ws vs e f = ap₂ (λ x xs. x ∷ xs) e f

-- records that are read as others
record SameRecords (xs ys : List (Result Known ParseError)) : Type 0 where
  first : List Written
  is_first : meanings_in xs ≡ Some first
  second : List Written
  is_second : meanings_in ys ≡ Some second
  same : low first ≡ low second

records_so : (xs ys : List (Result Known ParseError)) → same_records xs ys ≡ true → SameRecords xs ys
records_so [] [] e = record { first = []; is_first = refl; second = []; is_second = refl; same = refl }
records_so [] (y ∷ ys) e = absurd (cc)
records_so (Err x ∷ xs) [] e = absurd (cc)
records_so (Ok x ∷ xs) [] e = absurd (cc)
records_so (Err x ∷ xs) (y ∷ ys) e = absurd (cc)
records_so (Ok x ∷ xs) (Err y ∷ ys) e = absurd (cc)
records_so (Ok x ∷ xs) (Ok y ∷ ys) e =
    let p = both (same_record x y) (same_records xs ys) e in
    let r = record_so x y p.0 in
    let rest = records_so xs ys p.1 in
    record {
      first = as_read x.entry r.content.first ∷ rest.first;
      is_first = meant_more x r.content.first xs rest.first r.content.is_first rest.is_first;
      second = as_read y.entry r.content.second ∷ rest.second;
      is_second = meant_more y r.content.second ys rest.second r.content.is_second rest.is_second;
      same = low_more (as_read x.entry r.content.first) (as_read y.entry r.content.second) rest.first rest.second r.same rest.same;
    }

none_meant : (ws : List Written) → meanings_in [] ≡ Some ws → [] ≡ ws
none_meant ws e = let z : Some [] ≡ Some ws = e in cc

low_first : (w v : Written) (ws vs : List Written) → low (w ∷ ws) ≡ low (v ∷ vs) → (lowered_item (typed w) ≡ lowered_item (typed v)) × (low ws ≡ low vs)
unfolding low
low_first w v ws vs e = let z : lowered_item (typed w) ∷ map lowered_item (map typed ws) ≡ lowered_item (typed v) ∷ map lowered_item (map typed vs) = e in (cc, cc)

low_differs : (v : Written) (vs : List Written) → low [] ≡ low (v ∷ vs) → ⊥
unfolding low
low_differs v vs e = absurd (let z : [] ≡ lowered_item (typed v) ∷ map lowered_item (map typed vs) = e in cc)

so_records : (xs ys : List (Result Known ParseError)) (ws vs : List Written) → meanings_in xs ≡ Some ws → meanings_in ys ≡ Some vs → low ws ≡ low vs → same_records xs ys ≡ true
so_records [] [] ws vs e f s = refl
so_records [] (Err y ∷ ys) ws vs e f s = absurd (let z : None ≡ Some vs = f in cc)
so_records [] (Ok y ∷ ys) ws vs e f s =
    let m = more_meant y ys vs f in
    absurd (low_differs (as_read y.entry m.content) m.rest (ap low (none_meant ws e) ∙ (s ∙ sym (ap low m.is))))
so_records (Err x ∷ xs) ys ws vs e f s = absurd (let z : None ≡ Some ws = e in cc)
so_records (Ok x ∷ xs) [] ws vs e f s =
    let m = more_meant x xs ws e in
    absurd (low_differs (as_read x.entry m.content) m.rest (ap low (none_meant vs f) ∙ (sym s ∙ sym (ap low m.is))))
so_records (Ok x ∷ xs) (Err y ∷ ys) ws vs e f s = absurd (let z : None ≡ Some vs = f in cc)
so_records (Ok x ∷ xs) (Ok y ∷ ys) ws vs e f s =
    let m = more_meant x xs ws e in
    let n = more_meant y ys vs f in
    let p = low_first (as_read x.entry m.content) (as_read y.entry n.content) m.rest n.rest (ap low m.is ∙ (s ∙ sym (ap low n.is))) in
    all (same_record x y) (same_records xs ys) (so_record x y m.content n.content m.says n.says p.0) (so_records xs ys m.rest n.rest m.meant n.meant p.1)

-- sections

record SameSection (s : Section) (a b : Octets) : Type 0 where
  first : List Written
  is_first : option_and_then meanings_in (section_items s a) ≡ Some first
  second : List Written
  is_second : option_and_then meanings_in (section_items s b) ≡ Some second
  same : low first ≡ low second

section_so : (s : Section) (a b : Octets) → same_section s a b ≡ true → SameSection s a b
section_so s a b e = go (section_items s a) refl (section_items s b) refl e
  where
    go : (o : Option (List (Result Known ParseError))) → section_items s a ≡ o → (p : Option (List (Result Known ParseError))) → section_items s b ≡ p → same_found o p ≡ true → SameSection s a b
    go None i p j e = absurd (cc)
    go (Some xs) i None j e = absurd (cc)
    go (Some xs) i (Some ys) j e =
        let r = records_so xs ys e in
        record { first = r.first; is_first = ap (option_and_then meanings_in) i ∙ r.is_first; second = r.second; is_second = ap (option_and_then meanings_in) j ∙ r.is_second; same = r.same }

so_section : (s : Section) (a b : Octets) (ws vs : List Written) → option_and_then meanings_in (section_items s a) ≡ Some ws → option_and_then meanings_in (section_items s b) ≡ Some vs → low ws ≡ low vs → same_section s a b ≡ true
so_section s a b ws vs e f same =
    let x = then_ok (section_items s a) meanings_in ws e in
    let y = then_ok (section_items s b) meanings_in vs f in
    ap₂ same_found x.1 y.1 ∙ so_records x.0 y.0 ws vs x.2 y.2 same

-- questions

questions_so : (xs ys : List Asked) → AllZip AskedReadsAs xs ys → map lowered_asked xs ≡ map lowered_asked ys
questions_so [] [] a = refl
questions_so [] (y ∷ ys) a = absurd a
questions_so (x ∷ xs) [] a = absurd a
questions_so (x ∷ xs) (y ∷ ys) a = ap₂ (λ q qs. q ∷ qs) a.0 (questions_so xs ys a.1)

so_questions : (xs ys : List Asked) → map lowered_asked xs ≡ map lowered_asked ys → AllZip AskedReadsAs xs ys
so_questions [] [] e = tt
so_questions [] (y ∷ ys) e = absurd (let z : [] ≡ lowered_asked y ∷ map lowered_asked ys = e in cc)
so_questions (x ∷ xs) [] e = absurd (let z : lowered_asked x ∷ map lowered_asked xs ≡ [] = e in cc)
so_questions (x ∷ xs) (y ∷ ys) e =
    let z : lowered_asked x ∷ map lowered_asked xs ≡ lowered_asked y ∷ map lowered_asked ys = e in
    let h : lowered_asked x ≡ lowered_asked y = cc in
    let t : map lowered_asked xs ≡ map lowered_asked ys = cc in
    (h, so_questions xs ys t)

-- messages

-- a section whose records are meant
record Meant (s : Section) (m : Octets) (ws : List Written) : Type 0 where
  records : List Known
  read : option_and_then all_read (section_items s m) ≡ Some records
  mean : meanings_of records ≡ Some ws

meant_so : (s : Section) (m : Octets) (ws : List Written) → option_and_then meanings_in (section_items s m) ≡ Some ws → Meant s m ws
meant_so s m ws e =
    let x = then_ok (section_items s m) meanings_in ws e in
    let r = then_ok (all_read x.0) meanings_of ws x.2 in
    record { records = r.0; read = ap (option_and_then all_read) x.1 ∙ r.1; mean = r.2 }

so_meant : (s : Section) (m : Octets) (ks : List Known) (ws : List Written) → option_and_then all_read (section_items s m) ≡ Some ks → meanings_of ks ≡ Some ws → option_and_then meanings_in (section_items s m) ≡ Some ws
so_meant s m ks ws e f =
    let x = then_ok (section_items s m) all_read ks e in
    ap (option_and_then meanings_in) x.1 ∙ (ap (option_and_then meanings_of) x.2 ∙ f)

parts_of : (m : Octets) → List Asked → List Written → List Written → List Written → Parts Data
parts_of m qs a u d = record { header = flags_in (header_of m); code = opt_rcode m; questions = qs; answer = map typed a; authority = map typed u; additional = map typed d }

known_as : (m : Octets) (qs : List Asked) (a u d : List Written) → 12 ≤ length m → all_read (question_items m) ≡ Some qs → Meant Answer m a → Meant Authority m u → Meant Additional m d → known_parts m ≡ Some (parts_of m qs a u d)
unfolding parts_of
known_as m qs a u d long q ma mu md =
    known_from m _ a u d (reading_laws.read_is_items m qs ma.records mu.records md.records long (record { questions_are = q; answer_is = ma.read; authority_is = mu.read; additional_is = md.read })) ma.mean mu.mean md.mean

lowered_same : {h1 h2 : Header} {c1 c2 : ℕ} {q1 q2 : List Asked} {a1 a2 u1 u2 d1 d2 : List (Item Data)} → h1 ≡ h2 → c1 ≡ c2 → q1 ≡ q2 → a1 ≡ a2 → u1 ≡ u2 → d1 ≡ d2
    → Path (Parts Data) (record { header = h1; code = c1; questions = q1; answer = a1; authority = u1; additional = d1 }) (record { header = h2; code = c2; questions = q2; answer = a2; authority = u2; additional = d2 })
lowered_same h c q a u d = cc

same_so : (a b : Octets) → 12 ≤ length a → 12 ≤ length b → same_message a b ≡ true → SaysAs a b
unfolding parts_of low
same_so a b long_a long_b e =
    let h = both (same_header (flags_in (header_of a)) (flags_in (header_of b))) _ e in
    let c = both (opt_rcode a == opt_rcode b) _ h.1 in
    let q = both (same_items (question_items a) (question_items b)) _ c.1 in
    let s = both (same_section Answer a b) _ q.1 in
    let t = both (same_section Authority a b) (same_section Additional a b) s.1 in
    let asked = items_asked (question_items a) (question_items b) q.0 in
    let answer = section_so Answer a b s.0 in
    let authority = section_so Authority a b t.0 in
    let additional = section_so Additional a b t.1 in
    let first = known_as a asked.questions answer.first authority.first additional.first long_a asked.read (meant_so Answer a answer.first answer.is_first) (meant_so Authority a authority.first authority.is_first) (meant_so Additional a additional.first additional.is_first) in
    let second = known_as b asked.source answer.second authority.second additional.second long_b asked.source_read (meant_so Answer b answer.second answer.is_second) (meant_so Authority b authority.second authority.is_second) (meant_so Additional b additional.second additional.is_second) in
    record {
      parts = parts_of b asked.source answer.second authority.second additional.second;
      known = second;
      says = ap (option_map lowered_parts) first
          ∙ ap Some (lowered_same (headers_same (flags_in (header_of a)) (flags_in (header_of b)) h.0) (number_same (opt_rcode a) (opt_rcode b) c.0) (questions_so asked.questions asked.source asked.agree) answer.same authority.same additional.same);
    }

-- what a message that is known has
record Has (m : Octets) (x : Parts Data) : Type 0 where
  questions : List Asked
  are_questions : all_read (question_items m) ≡ Some questions
  answer : List Written
  is_answer : option_and_then meanings_in (section_items Answer m) ≡ Some answer
  authority : List Written
  is_authority : option_and_then meanings_in (section_items Authority m) ≡ Some authority
  additional : List Written
  is_additional : option_and_then meanings_in (section_items Additional m) ≡ Some additional
  is : parts_of m questions answer authority additional ≡ x

has : (m : Octets) (x : Parts Data) → known_parts m ≡ Some x → Has m x
unfolding parts_of
has m x e =
    let k = what_is_known m x e in
    let items = reading_laws.items_are_read m k.reading k.read in
    record {
      questions = k.reading.questions;
      are_questions = items.questions_are;
      answer = k.answer;
      is_answer = so_meant Answer m k.reading.answer k.answer items.answer_is k.answer_means;
      authority = k.authority;
      is_authority = so_meant Authority m k.reading.authority k.authority items.authority_is k.authority_means;
      additional = k.additional;
      is_additional = so_meant Additional m k.reading.additional k.additional items.additional_is k.additional_means;
      is = ap (λ (h : List ℕ). let y : Parts Data = record { header = flags_in h; code = opt_rcode m; questions = k.reading.questions; answer = map typed k.answer; authority = map typed k.authority; additional = map typed k.additional } in y) (sym (header_is m k.reading k.read)) ∙ k.parts_are;
    }

so_same : (a b : Octets) → SaysAs a b → same_message a b ≡ true
unfolding parts_of low
so_same a b y =
    let d = some_inside lowered_parts (known_parts a) (lowered_parts y.parts) y.says in
    let f = has a d.0 d.1 in
    let g = has b y.parts y.known in
    let same : lowered_parts (parts_of a f.questions f.answer f.authority f.additional) ≡ lowered_parts (parts_of b g.questions g.answer g.authority g.additional) = ap lowered_parts f.is ∙ (d.2 ∙ sym (ap lowered_parts g.is)) in
    all (same_header (flags_in (header_of a)) (flags_in (header_of b))) _ (same_headers (flags_in (header_of a)) (flags_in (header_of b)) (ap (λ (p : Parts Data). p.header) same))
    (all (opt_rcode a == opt_rcode b) _ (same_number (opt_rcode a) (opt_rcode b) (ap (λ (p : Parts Data). p.code) same))
    (all (same_items (question_items a) (question_items b)) _
    (asked_items (question_items a) (question_items b) (record { questions = f.questions; read = f.are_questions; source = g.questions; source_read = g.are_questions; agree = so_questions f.questions g.questions (ap (λ (p : Parts Data). p.questions) same) }))
    (all (same_section Answer a b) _ (so_section Answer a b f.answer g.answer f.is_answer g.is_answer (ap (λ (p : Parts Data). p.answer) same))
    (all (same_section Authority a b) (same_section Additional a b) (so_section Authority a b f.authority g.authority f.is_authority g.is_authority (ap (λ (p : Parts Data). p.authority) same))
    (so_section Additional a b f.additional g.additional f.is_additional g.is_additional (ap (λ (p : Parts Data). p.additional) same))))))

pub tells_same : (a b : Octets) (r : Bool) → 12 ≤ length a → 12 ≤ length b → r ≡ same_message a b → TellsSame a b r
tells_same a b r long_a long_b e = record { so = λ t. same_so a b long_a long_b (sym e ∙ t); back = λ y. e ∙ so_same a b y }
