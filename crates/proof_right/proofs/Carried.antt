-- Octets that carry a request have the id that they carry it under, and the request can be composed.
use Rattle.client_request.specs.Request as requests
use Rattle.right_trace.specs.Trace.{Conf}
use Rattle.std.proofs.Common.{◌≡◌, ℕ, ◌<◌, ◌≤◌, true, false, inl, inr, List, [], ◌∷◌, length, take, refl, ap, sym, ◌∙◌, arith}
use Rattle.std.specs.Prelude.{Option, Some, None, is_some, nat_lt}
use Rattle.std.specs.Option.{option_map_or}
use Rattle.std.specs.Int.{w16, to_be_bytes, from_be_bytes}
use Rattle.std.proofs.lemmas.Bool.{le-ltb}
use Rattle.std.proofs.lemmas.Nat.{from_be_bytes-to_be_bytes_2}
use Rattle.std.proofs.lemmas.Slice.Zip.{AllZip-long}
use Rattle.dns_names.proofs.Heads.{chosen, none_some, then_ok}
use Rattle.dns_values.specs.declared.numbers.Section.TheVariants.{Answer, Authority, Additional}
use Rattle.dns_base.specs.Numbers.{u16_at}
use Rattle.dns_base.specs.Header.{Counts, counts_of, id_of, with_id}
use Rattle.dns_base.specs.Message.{Reading, reads, all_read, header_of, questions_of, answer_of, authority_of, additional_of}
use Rattle.dns_base.specs.Answering.{question_items}
use Rattle.dns_base.specs.Holding.{Contents, AskedReadsAs, ReadsAs}
use Rattle.dns_base.proofs.Readings.{reading_laws}
use Rattle.client_request.specs.Request.{Request}
use Rattle.client_request.specs.Carries.{Carries, SaysRequest, IsOfOctets, contents_of, records_of}
use Rattle.client_request.specs.declared.error.Error.{Error}
use Rattle.client_request.specs.declared.event.Via.TheVariants.{Dgram}
use Rattle.client_request.proofs.Writable.{AreOctets}
use Rattle.right_trace.specs.Messages.{Octets, id_in, CarriesBy, under, base_is_read, passes_count, has_too_many, IsComposingFault, announcing}
use Rattle.right_trace.proofs.Copying.{number_small}

-- what is read of octets has their first four as its header, and their counts
read_parts : (octets : List ℕ) (reading : Reading) → reads octets ≡ Some reading → (reading.header ≡ header_of octets) × (reading.counts ≡ counts_of octets)
unfolding reads
read_parts octets reading is = elim (chosen (nat_lt (length octets) 12) None _ (Some reading) is) [
  | inl short ↦ none_some short.1
  | inr long ↦
      let q = then_ok (questions_of octets) _ reading long.1 in
      let a = then_ok (answer_of octets) _ reading q.2 in
      let u = then_ok (authority_of octets) _ reading a.2 in
      let x = then_ok (additional_of octets) _ reading u.2 in (
        ap (λ (o : Option Reading). option_map_or (λ r. r.header) o (header_of octets)) (sym x.2),
        ap (λ (o : Option Reading). option_map_or (λ r. r.counts) o (counts_of octets)) (sym x.2),
      )
]

-- the first two octets are among the first four
two_of_four : (octets : List ℕ) → u16_at (take 4 octets) 0 ≡ u16_at octets 0
two_of_four [] = refl
two_of_four (a ∷ []) = refl
two_of_four (a ∷ b ∷ more) = refl

-- the id of octets that say a request under an id, as two octets have it
pub said_id : (octets : Octets) (id : ℕ) (header : List ℕ) {r : Request} → SaysRequest octets r → r.header ≡ with_id id header → id_in octets ≡ from_be_bytes w16 (to_be_bytes w16 id)
unfolding id_in
said_id octets id header says is =
    let same : with_id id header ≡ take 4 octets = sym is ∙ (sym says.header ∙ (read_parts octets says.reading says.read).0) in
    sym (two_of_four octets) ∙ ap id_of (sym same)

-- two octets hold less than 65536
pub two_octets : (id : ℕ) → from_be_bytes w16 (to_be_bytes w16 id) < 65536
two_octets id = omega arith

pub announced_header : (size : Option ℕ) (id : ℕ) (r : Request) → (announcing size (requests.with_id id r)).header ≡ with_id id r.header
announced_header None id r = refl
announced_header (Some n) id r = refl

pub carried_by : (c : Conf) → (r : Request) (id : ℕ) (octets : Octets) → id < 65536 → SaysRequest octets (under c id r) → CarriesBy c Dgram octets r id
carried_by c r id octets small says = (says, said_id octets id r.header says (announced_header c.transports.dgram_udp_payload_size id r) ∙ from_be_bytes-to_be_bytes_2 id small)

-- What is carried can be composed.

-- each section of the base is read
base_read : (r : Request) (c : Contents) → 12 ≤ length r.base → contents_of r ≡ Some c → base_is_read r ≡ true
unfolding contents_of base_is_read
base_read r c long is =
    let q = then_ok (all_read (question_items r.base)) _ c is in
    let a = then_ok (records_of Answer r.base) _ c q.2 in
    let u = then_ok (records_of Authority r.base) _ c a.2 in
    let x = then_ok (records_of Additional r.base) _ c u.2 in
    ap is_some (reading_laws.read_is_items r.base q.0 a.0 u.0 x.0 long (record { questions_are = q.1; answer_is = a.1; authority_is = u.1; additional_is = x.1 }))

none_too_many : (c : Contents) → length c.questions ≤ 65535 → length c.answer ≤ 65535 → length c.authority ≤ 65535 → length c.additional ≤ 65535 → has_too_many c ≡ false
none_too_many c q a u x = rw (le-ltb 65535 (length c.questions) q, le-ltb 65535 (length c.answer) a, le-ltb 65535 (length c.authority) u, le-ltb 65535 (length c.additional) x) refl

-- the counts of the octets say how many entries they carry
within_counts : (octets : Octets) (r : Request) (id : ℕ) → AreOctets octets → Carries octets r id → passes_count r ≡ false
unfolding passes_count contents_of
within_counts octets r id small carries =
    let n = reading_laws.are_counted octets carries.reading carries.read in
    let counts = (read_parts octets carries.reading carries.read).1 in
    let q = AllZip-long AskedReadsAs carries.reading.questions carries.contents.questions carries.agree.questions in
    let a = AllZip-long ReadsAs carries.reading.answer carries.contents.answer carries.agree.answer in
    let u = AllZip-long ReadsAs carries.reading.authority carries.contents.authority carries.agree.authority in
    let x = AllZip-long ReadsAs carries.reading.additional carries.contents.additional carries.agree.additional in
    ap (λ o. option_map_or has_too_many o false) carries.are
    ∙ none_too_many carries.contents
    (omega (arith, q, n.questions, ap (λ (c : Counts). c.questions) counts, number_small octets 4 small))
    (omega (arith, a, n.answer, ap (λ (c : Counts). c.answer) counts, number_small octets 6 small))
    (omega (arith, u, n.authority, ap (λ (c : Counts). c.authority) counts, number_small octets 8 small))
    (omega (arith, x, n.additional, ap (λ (c : Counts). c.additional) counts, number_small octets 10 small))

pub composable : (r : Request) (octets : Octets) (id : ℕ) (e : Error) → IsOfOctets r → AreOctets octets → Carries octets r id → IsComposingFault r e → ⊥
unfolding base_is_read
composable r octets id e base small carries (inl f) = let b = base_read (requests.with_payload_size 1232 (requests.with_id id r)) carries.contents base.long carries.are in let g = f.1 in absurd (cc)
composable r octets id e base small carries (inr f) = let b = within_counts octets r id small carries in let g = f.1 in absurd (cc)
