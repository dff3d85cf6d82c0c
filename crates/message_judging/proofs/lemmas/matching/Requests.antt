-- The tests of what octets carry decide it.
use Rattle.std.proofs.Common.{◌≡◌, ℕ, suc, ◌+◌, ◌<◌, ◌≤◌, ◌⊎◌, inl, inr, Bool, true, false, ◌&&◌, ◌||◌, ◌==◌, nat_le, nat_lt, List, [], ◌∷◌, ◌++◌, length, take, drop, refl, sym, ap, ◌∙◌, subst, arith, if◌then◌else◌}
use Rattle.std.specs.Prelude.{Option, Some, None, Result, Ok, Err, option_map, option_and_then}
use Rattle.std.specs.Int.{w16, to_be_bytes}
use Rattle.std.proofs.lemmas.Bool.Decides.{nat_tests}
use Rattle.std.specs.List.{AllZip}
use Rattle.dns_values.specs.declared.error.ParseError.{ParseError}
use Rattle.dns_values.specs.declared.numbers.Section.{Section}
use Rattle.dns_values.specs.declared.numbers.Section.TheVariants.{Answer, Authority, Additional}
use Rattle.dns_base.specs.{Header.id_of, OptRecord.OptFields}
use Rattle.dns_base.specs.Message.{Known, Written, Reading, Asked, reads, header_of, all_read}
use Rattle.dns_base.specs.Answering.{same_items, question_items}
use Rattle.dns_base.specs.Holding.{Contents, ReadsAs, AskedReadsAs}
use Rattle.dns_base.specs.ReadingLaws.{ReadingLaws, ItemsAre}
use Rattle.client_request.specs.Request.{Request, with_id, with_option}
use Rattle.client_request.specs.Composed.{section_items}
use Rattle.client_request.specs.Carries.{contents_of, records_of, sent_from, opt_records, SaysRequest, Carries}
use Rattle.client_request.specs.declared.event.Via.{Via}
use Rattle.client_request.specs.declared.event.Via.TheVariants.{Dgram, Stream}
use Rattle.right_trace.specs.Messages.{announcing, id_in, CarriesBy, CarriesInFrame}
use Rattle.message_judging.specs.matching.Shapes.{same_octets}
use Rattle.message_judging.specs.matching.Matching.{carries_items, carries_found, carries_section, says_request, is_request, is_datagram_of, is_framed, is_either, is_frame_of, carries_by}
use Rattle.message_judging.proofs.lemmas.matching.Names.{both, all, same_number, number_same, octets_same, same_octets_are}
use Rattle.message_judging.proofs.lemmas.matching.Copies.{AreSent, items_sent, sent_items, AreAsked, items_asked, asked_items}
use Rattle.dns_names.proofs.Heads.{then_ok}
use Rattle.dns_base.proofs.Readings.{reading_laws}
use Rattle.right_trace.specs.Trace.{Conf}

-- the items of a section, where those before it are read
pub record SectionSent (s : Section) (opt : Option OptFields) (octets base : List ℕ) : Type 0 where
  pub records : List Known
  pub read : option_and_then all_read (section_items s octets) ≡ Some records
  pub source : List Known
  pub source_read : records_of s base ≡ Some source
  pub agree : AllZip ReadsAs records (sent_from s source ++ opt_records opt)

section_sent : (s : Section) (opt : Option OptFields) (octets base : List ℕ) → carries_section s opt octets base ≡ true → SectionSent s opt octets base
section_sent s opt octets base e = go (section_items s octets) refl (section_items s base) refl e
  where
    go : (o : Option (List (Result Known ParseError))) → section_items s octets ≡ o → (b : Option (List (Result Known ParseError))) → section_items s base ≡ b → carries_found s opt o b ≡ true → SectionSent s opt octets base
    go None i b j e = absurd (cc)
    go (Some found) i None j e = absurd (cc)
    go (Some found) i (Some items) j e =
        let r = items_sent s opt found items e in
        record { records = r.records; read = ap (option_and_then all_read) i ∙ r.read; source = r.source; source_read = ap (option_and_then all_read) j ∙ r.source_read; agree = r.agree }

sent_section : (s : Section) (opt : Option OptFields) (octets base : List ℕ) → SectionSent s opt octets base → carries_section s opt octets base ≡ true
sent_section s opt octets base r = go (section_items s octets) refl (section_items s base) refl
  where
    go : (o : Option (List (Result Known ParseError))) → section_items s octets ≡ o → (b : Option (List (Result Known ParseError))) → section_items s base ≡ b → carries_found s opt o b ≡ true
    go None i b j = absurd (let z : None ≡ Some r.records = sym (ap (option_and_then all_read) i) ∙ r.read in cc)
    go (Some found) i None j = absurd (let z : None ≡ Some r.source = sym (ap (option_and_then all_read) j) ∙ r.source_read in cc)
    go (Some found) i (Some items) j =
        sent_items s opt found items (record { records = r.records; read = sym (ap (option_and_then all_read) i) ∙ r.read; source = r.source; source_read = sym (ap (option_and_then all_read) j) ∙ r.source_read; agree = r.agree })

no_opt : (ws : List Written) → ws ++ opt_records None ≡ ws
no_opt [] = refl
no_opt (w ∷ ws) = ap (λ ws. w ∷ ws) (no_opt ws)

contents_are : (r : Request) (qs : List Asked) (a u x : List Known) → all_read (question_items r.base) ≡ Some qs → records_of Answer r.base ≡ Some a → records_of Authority r.base ≡ Some u → records_of Additional r.base ≡ Some x
    → contents_of r ≡ Some (record { questions = qs; answer = sent_from Answer a; authority = sent_from Authority u; additional = sent_from Additional x ++ opt_records r.opt })
unfolding contents_of
contents_are r qs a u x q ea eu ex = rw (q, ea, eu, ex) refl

pub says : (octets : List ℕ) (r : Request) → 12 ≤ length octets → says_request octets r ≡ true → SaysRequest octets r
says octets r long e =
    let p = both (same_octets (header_of octets) r.header) _ e in
    let q = both (same_items (question_items octets) (question_items r.base)) _ p.1 in
    let s = both (carries_section Answer None octets r.base) _ q.1 in
    let t = both (carries_section Authority None octets r.base) (carries_section Additional r.opt octets r.base) s.1 in
    let qs = items_asked (question_items octets) (question_items r.base) q.0 in
    let a = section_sent Answer None octets r.base s.0 in
    let u = section_sent Authority None octets r.base t.0 in
    let x = section_sent Additional r.opt octets r.base t.1 in
    record {
      contents = record { questions = qs.source; answer = sent_from Answer a.source; authority = sent_from Authority u.source; additional = sent_from Additional x.source ++ opt_records r.opt };
      are = contents_are r qs.source a.source u.source x.source qs.source_read a.source_read u.source_read x.source_read;
      reading = _;
      read = reading_laws.read_is_items octets qs.questions a.records u.records x.records long (record { questions_are = qs.read; answer_is = a.read; authority_is = u.read; additional_is = x.read });
      header = octets_same (header_of octets) r.header p.0;
      agree = record {
        questions = qs.agree;
        answer = subst (AllZip ReadsAs a.records) (no_opt (sent_from Answer a.source)) a.agree;
        authority = subst (AllZip ReadsAs u.records) (no_opt (sent_from Authority u.source)) u.agree;
        additional = x.agree;
      };
    }

long_of : {A : Type 0} (b : Bool) (x : Option A) (r : A) → (if b then None else x) ≡ Some r → b ≡ false
long_of true x r e = absurd (cc)
long_of false x r e = refl

is_long : (octets : List ℕ) (r : Reading) → reads octets ≡ Some r → 12 ≤ length octets
unfolding reads
is_long octets r e = let b : nat_lt (length octets) 12 ≡ false = long_of (nat_lt (length octets) 12) _ r e in grind (arith, nat_tests)

abbrev header_or : Option Reading → List ℕ
header_or (Some r) = r.header
header_or None = []

header_is : (octets : List ℕ) (r : Reading) → reads octets ≡ Some r → r.header ≡ header_of octets
header_is octets r e =
    let z = reading_laws.read_is_items octets r.questions r.answer r.authority r.additional (is_long octets r e) (reading_laws.items_are_read octets r e) in
    ap header_or (sym e ∙ z)

abbrev contents_or : Option Contents → Contents
contents_or (Some c) = c
contents_or None = record { questions = []; answer = []; authority = []; additional = [] }

pub said : (octets : List ℕ) (r : Request) → SaysRequest octets r → is_request octets r ≡ true
unfolding contents_of
said octets r x =
    let items = reading_laws.items_are_read octets x.reading x.read in
    let q = then_ok (all_read (question_items r.base)) _ x.contents x.are in
    let a = then_ok (records_of Answer r.base) _ x.contents q.2 in
    let u = then_ok (records_of Authority r.base) _ x.contents a.2 in
    let d = then_ok (records_of Additional r.base) _ x.contents u.2 in
    let same : record { questions = q.0; answer = sent_from Answer a.0; authority = sent_from Authority u.0; additional = sent_from Additional d.0 ++ opt_records r.opt } ≡ x.contents = ap contents_or d.2 in
    let qs : AllZip AskedReadsAs x.reading.questions q.0 = subst (AllZip AskedReadsAs x.reading.questions) (sym (ap (λ c. c.questions) same)) x.agree.questions in
    let ans : AllZip ReadsAs x.reading.answer (sent_from Answer a.0 ++ opt_records None) = subst (AllZip ReadsAs x.reading.answer) (sym (no_opt (sent_from Answer a.0) ∙ ap (λ c. c.answer) same)) x.agree.answer in
    let us : AllZip ReadsAs x.reading.authority (sent_from Authority u.0 ++ opt_records None) = subst (AllZip ReadsAs x.reading.authority) (sym (no_opt (sent_from Authority u.0) ∙ ap (λ c. c.authority) same)) x.agree.authority in
    let ds : AllZip ReadsAs x.reading.additional (sent_from Additional d.0 ++ opt_records r.opt) = subst (AllZip ReadsAs x.reading.additional) (sym (ap (λ c. c.additional) same)) x.agree.additional in
    let long : nat_le 12 (length octets) ≡ true = (let l = is_long octets x.reading x.read in grind (arith, nat_tests)) in
    all (nat_le 12 (length octets)) _ long
    (all (same_octets (header_of octets) r.header) _ (same_octets_are (header_of octets) r.header (sym (header_is octets x.reading x.read) ∙ x.header))
    (all (same_items (question_items octets) (question_items r.base)) _ (asked_items (question_items octets) (question_items r.base) (record { questions = x.reading.questions; read = items.questions_are; source = q.0; source_read = q.1; agree = qs }))
    (all (carries_section Answer None octets r.base) _ (sent_section Answer None octets r.base (record { records = x.reading.answer; read = items.answer_is; source = a.0; source_read = a.1; agree = ans }))
    (all (carries_section Authority None octets r.base) (carries_section Additional r.opt octets r.base)
    (sent_section Authority None octets r.base (record { records = x.reading.authority; read = items.authority_is; source = u.0; source_read = u.1; agree = us }))
    (sent_section Additional r.opt octets r.base (record { records = x.reading.additional; read = items.additional_is; source = d.0; source_read = d.1; agree = ds }))))))

asks_so : (octets : List ℕ) (r : Request) → is_request octets r ≡ true → SaysRequest octets r
asks_so octets r e =
    let p = both (nat_le 12 (length octets)) (says_request octets r) e in
    says octets r (let l = p.0 in grind (arith, nat_tests)) p.1

-- frames
split_two : (o : List ℕ) → take 2 o ++ drop 2 o ≡ o
split_two [] = refl
split_two (a ∷ []) = refl
split_two (a ∷ b ∷ o) = refl

either : (a b : Bool) → (a || b) ≡ true → (a ≡ true) ⊎ (b ≡ true)
either true b e = inl refl
either false b e = inr e

or_true : (a : Bool) → (a || true) ≡ true
or_true true = refl
or_true false = refl

pub carries_so : (c : Conf) (v : Via) (o : List ℕ) (r : Request) (id : ℕ) → carries_by c.transports.dgram_udp_payload_size v o r id ≡ true → CarriesBy c v o r id
unfolding id_in
carries_so c Dgram o r id e =
    let p = both (is_request o (announcing c.transports.dgram_udp_payload_size (with_id id r))) (id_of o == id) e in
    (asks_so o _ p.0, number_same (id_of o) id p.1)
carries_so c Stream o r id e =
    let p = both (is_framed o) _ e in
    let f = both (nat_le 2 (length o)) _ p.0 in
    let g = both (nat_lt (length (drop 2 o)) 65536) _ f.1 in
    let q = both (is_either (drop 2 o) r id) (id_of (drop 2 o) == id) p.1 in
    record {
      rest = drop 2 o;
      framed = sym (split_two o) ∙ ap (λ t. t ++ drop 2 o) (octets_same (take 2 o) (to_be_bytes w16 (length (drop 2 o))) g.1);
      short = let l = g.0 in grind (arith, nat_tests);
      named = number_same (id_of (drop 2 o)) id q.1;
      says = go (either (is_request (drop 2 o) (with_id id r)) (is_request (drop 2 o) (with_option 11 [] (with_id id r))) q.0);
    }
  where
    go : (is_request (drop 2 o) (with_id id r) ≡ true) ⊎ (is_request (drop 2 o) (with_option 11 [] (with_id id r)) ≡ true) → SaysRequest (drop 2 o) (with_id id r) ⊎ SaysRequest (drop 2 o) (with_option 11 [] (with_id id r))
    go (inl a) = inl (asks_so (drop 2 o) (with_id id r) a)
    go (inr b) = inr (asks_so (drop 2 o) (with_option 11 [] (with_id id r)) b)

behind_two : (n : ℕ) (rest : List ℕ) → drop 2 (to_be_bytes w16 n ++ rest) ≡ rest
behind_two n rest = refl

first_two : (n : ℕ) (rest : List ℕ) → take 2 (to_be_bytes w16 n ++ rest) ≡ to_be_bytes w16 n
first_two n rest = refl

two_or_more : (n : ℕ) → nat_le 2 (suc (suc n)) ≡ true
two_or_more n = grind (arith, nat_tests)

two_at_least : (n : ℕ) (rest : List ℕ) → nat_le 2 (length (to_be_bytes w16 n ++ rest)) ≡ true
two_at_least n rest = two_or_more (length rest)

pub so_carries : (c : Conf) (v : Via) (o : List ℕ) (r : Request) (id : ℕ) → CarriesBy c v o r id → carries_by c.transports.dgram_udp_payload_size v o r id ≡ true
unfolding id_in
so_carries c Dgram o r id x = all (is_request o (announcing c.transports.dgram_udp_payload_size (with_id id r))) (id_of o == id) (said o _ x.0) (same_number (id_of o) id x.1)
so_carries c Stream o r id x =
    let back : drop 2 o ≡ x.rest = ap (drop 2) x.framed ∙ behind_two (length x.rest) x.rest in
    let front : take 2 o ≡ to_be_bytes w16 (length (drop 2 o)) = ap (take 2) x.framed ∙ (first_two (length x.rest) x.rest ∙ ap (λ n. to_be_bytes w16 (length n)) (sym back)) in
    let long : nat_le 2 (length o) ≡ true = ap (λ o. nat_le 2 (length o)) x.framed ∙ two_at_least (length x.rest) x.rest in
    let few : nat_lt (length (drop 2 o)) 65536 ≡ true = ap (λ o. nat_lt (length o) 65536) back ∙ (let s = x.short in lt (length x.rest) s) in
    all (is_framed o) _ (all (nat_le 2 (length o)) _ long (all (nat_lt (length (drop 2 o)) 65536) _ few (same_octets_are (take 2 o) (to_be_bytes w16 (length (drop 2 o))) front)))
    (all (is_either (drop 2 o) r id) (id_of (drop 2 o) == id) (ap (λ o. is_either o r id) back ∙ go x.says) (same_number (id_of (drop 2 o)) id (ap id_of back ∙ x.named)))
  where
    lt : (n : ℕ) → n < 65536 → nat_lt n 65536 ≡ true
    lt n s = grind (arith, nat_tests)

    go : SaysRequest x.rest (with_id id r) ⊎ SaysRequest x.rest (with_option 11 [] (with_id id r)) → is_either x.rest r id ≡ true
    go (inl a) = ap (λ b. b || is_request x.rest (with_option 11 [] (with_id id r))) (said x.rest (with_id id r) a)
    go (inr b) = ap (λ b. is_request x.rest (with_id id r) || b) (said x.rest (with_option 11 [] (with_id id r)) b) ∙ or_true (is_request x.rest (with_id id r))
