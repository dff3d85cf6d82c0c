-- Composing makes what carries its request, or is refused for a cause.
use Rattle.right_trace.specs.Trace.{Conf, is_size}
use Rattle.std.proofs.Common.{◌≡◌, ℕ, ◌<◌, ◌≤◌, inl, inr, List, ◌++◌, length, refl, ap, sym, subst, arith, Bool, true, false, length-append, length-drop}
use Rattle.std.specs.Prelude.{Option, Some, None, IfSome, Ok, Err, nat_lt, ◌==◌, ◌||◌}
use Rattle.std.proofs.lemmas.Bool.{eqb-true, eqb-false, lt-ltb, ltb-true}
use Rattle.dns_values.specs.declared.numbers.Section.TheVariants.{Answer, Authority, Additional}
use Rattle.dns_base.specs.declared.push_error.PushError.TheVariants as refusals
use Rattle.dns_base.specs.Numbers.{u16_at}
use Rattle.dns_base.specs.Header.{Counts}
use Rattle.dns_base.specs.Message.{Asked, Known, Reading, reads, all_read, question_at}
use Rattle.dns_base.specs.Answering.{question_items}
use Rattle.dns_base.specs.Sections.{HasNoRecords, entries_in}
use Rattle.dns_base.specs.OptRecord.{OptFields}
use Rattle.dns_base.specs.Holding.{Contents}
use Rattle.dns_base.specs.Draft.{Draft, counts_in, limit_of, fresh, with_header, pushed_record, record_size}
use Rattle.dns_base.proofs.Lists.{items_few}
use Rattle.dns_base.proofs.Readings.{reading_laws}
use Rattle.dns_base.proofs.Steps.{draft_steps}
use Rattle.client_request.specs.declared.error.Error.{Error}
use Rattle.client_request.specs.declared.error.CopyRecordsError.TheVariants.{Parse, Push}
use Rattle.client_request.specs.Request.{Request, opt_written, opt_or_empty, with_id, with_payload_size}
use Rattle.client_request.specs.Composed.{Copied, ◌>>◌, copies_section, adds_opt, copies_all, appended, message_of, composed}
use Rattle.client_request.specs.Carries.{sent_from, records_of, opt_records, contents_of, SaysRequest, IsOpt, IsOfOctets}
use Rattle.client_request.proofs.Writable.{AreOctets}
use Rattle.client_request.proofs.Carrying.{composed_says}
use Rattle.right_trace.specs.Messages.{base_is_read, passes_count, has_too_many, announcing, IsComposingFault, Composes}
use Rattle.right_trace.proofs.Copying.{Asks, asking, Sends, copying_section, count_sent, number_small, room_left, full_refused}

-- A base is not read if a section of it is not.

reads_none : (base : List ℕ) → ((r : Reading) → reads base ≡ Some r → ⊥) → reads base ≡ None
reads_none base never = go (reads base) refl
  where
    go : (o : Option Reading) → reads base ≡ o → o ≡ None
    go None e = refl
    go (Some r) e = absurd (never r e)

no_questions : (base : List ℕ) → all_read (question_items base) ≡ None → reads base ≡ None
no_questions base none = reads_none base (λ r e. let is = (reading_laws.items_are_read base r e).questions_are in absurd cc)

no_answer : (base : List ℕ) → records_of Answer base ≡ None → reads base ≡ None
no_answer base none = reads_none base (λ r e. let is = (reading_laws.items_are_read base r e).answer_is in absurd cc)

no_authority : (base : List ℕ) → records_of Authority base ≡ None → reads base ≡ None
no_authority base none = reads_none base (λ r e. let is = (reading_laws.items_are_read base r e).authority_is in absurd cc)

no_additional : (base : List ℕ) → records_of Additional base ≡ None → reads base ≡ None
no_additional base none = reads_none base (λ r e. let is = (reading_laws.items_are_read base r e).additional_is in absurd cc)

-- Each section is read, and the additional section leaves no room for an OPT record.
record IsFull (base : List ℕ) : Type 0 where
  questions : List Asked
  answer : List Known
  authority : List Known
  additional : List Known
  asked : all_read (question_items base) ≡ Some questions
  answered : records_of Answer base ≡ Some answer
  authorized : records_of Authority base ≡ Some authority
  added : records_of Additional base ≡ Some additional
  full : count_sent Additional additional ≡ 65535

-- how composing ends
data Ends (base : List ℕ) (o : Copied) : Type 0 where
  Unread : o ≡ Err (Parse (record {})) → reads base ≡ None → Ends base o
  Full : o ≡ Err (Push refusals.Count) → IsFull base → Ends base o
  Done : (d : Draft) → o ≡ Ok d → Ends base o

-- a draft without a limit and without an entry
record Starts (d : Draft) : Type 0 where
  unlimited : limit_of d ≡ None
  questions : (counts_in d).questions ≡ 0
  order : HasNoRecords (counts_in d)

fresh_starts : Starts (fresh None)
fresh_starts =
    let is = draft_steps.counts.fresh None in
    record {
      unlimited = draft_steps.limits.fresh None;
      questions = ap (λ (n : Counts). n.questions) is;
      order = subst HasNoRecords (sym is) (refl, refl, refl);
    }

-- at the OPT record

opt_ends : (base : List ℕ) (opt : Option OptFields) (d : Draft) → limit_of d ≡ None → (entries_in Additional (counts_in d) ≡ 65535 → IsFull base) → entries_in Additional (counts_in d) ≤ 65535
    → Ends base (adds_opt opt d)
opt_ends base None d unlimited full few = Done d refl
opt_ends base (Some opt) d unlimited full few = by_test (entries == 65535) refl
  where
    entries : ℕ
    entries = entries_in Additional (counts_in d)

    by_test : (b : Bool) → (entries == 65535) ≡ b → Ends base (adds_opt (Some opt) d)
    by_test true is = let e = eqb-true entries 65535 is in Full (rw (full_refused entries (record_size (opt_written opt)) d e) refl) (full e)
    by_test false is = Done (pushed_record Additional (opt_written opt) d) (rw (room_left entries (record_size (opt_written opt)) d unlimited (omega (arith, eqb-false entries 65535 is, few))) refl)

-- after each section

opt_pushed : (base : List ℕ) (opt : Option OptFields) {oq oa ou ox : Copied} (q : Asks (question_items base) oq) (a : Sends Answer (records_of Answer base) q.draft oa)
    (u : Sends Authority (records_of Authority base) a.draft ou) (x : Sends Additional (records_of Additional base) u.draft ox) → Ends base (adds_opt opt x.draft)
opt_pushed base opt q a u x =
    let none : entries_in Additional (counts_in u.draft) ≡ 0 = u.order in
    opt_ends base opt x.draft x.unlimited (λ e. record {
      questions = q.questions;
      answer = a.records;
      authority = u.records;
      additional = x.records;
      asked = q.read;
      answered = a.are;
      authorized = u.are;
      added = x.are;
      full = omega (arith, e, x.entries, none);
    }) x.few

additional_copied : (base : List ℕ) (opt : Option OptFields) {oq oa ou : Copied} (q : Asks (question_items base) oq) (a : Sends Answer (records_of Answer base) q.draft oa)
    (u : Sends Authority (records_of Authority base) a.draft ou) → AreOctets base → Ends base (copies_section Additional base u.draft >> adds_opt opt)
additional_copied base opt q a u octets = elim (copying_section Additional base u.draft octets u.unlimited tt u.order) [
  | inl s ↦ Unread (rw s.at refl) (no_additional base s.unread)
  | inr x ↦ rw x.done (opt_pushed base opt q a u x)
]

authority_copied : (base : List ℕ) (opt : Option OptFields) {oq oa : Copied} (q : Asks (question_items base) oq) (a : Sends Answer (records_of Answer base) q.draft oa) → AreOctets base
    → Ends base (copies_section Authority base a.draft >> copies_section Additional base >> adds_opt opt)
authority_copied base opt q a octets = elim (copying_section Authority base a.draft octets a.unlimited a.order.1 a.order.0) [
  | inl s ↦ Unread (rw s.at refl) (no_authority base s.unread)
  | inr u ↦ rw u.done (additional_copied base opt q a u octets)
]

answer_copied : (base : List ℕ) (opt : Option OptFields) {oq : Copied} (q : Asks (question_items base) oq) → AreOctets base
    → Ends base (copies_section Answer base q.draft >> copies_section Authority base >> copies_section Additional base >> adds_opt opt)
answer_copied base opt q octets = elim (copying_section Answer base q.draft octets q.unlimited (q.order.1, q.order.2) q.order.0) [
  | inl s ↦ Unread (rw s.at refl) (no_answer base s.unread)
  | inr a ↦ rw a.done (authority_copied base opt q a octets)
]

all_copied : (base : List ℕ) (opt : Option OptFields) → AreOctets base → Ends base (copies_all base opt (fresh None))
all_copied base opt octets =
    let start = fresh_starts in
    let few = items_few (question_at base) (u16_at base 4) 12 in
    elim (asking (question_items base) (fresh None) start.unlimited start.order (omega (arith, start.questions, few, number_small base 4 octets))) [
      | inl s ↦ Unread (rw s.at refl) (no_questions base s.unread)
      | inr q ↦ rw q.done (answer_copied base opt q octets)
    ]

-- the causes

unread_cause : (r : Request) → reads r.base ≡ None → base_is_read r ≡ false
unfolding base_is_read
unread_cause r none = rw none refl

last_true : (a b c d : Bool) → d ≡ true → (a || (b || (c || d))) ≡ true
last_true a b c d e = grind arith

too_many_additional : (c : Contents) → 65535 < length c.additional → has_too_many c ≡ true
too_many_additional c many =
    last_true (nat_lt 65535 (length c.questions)) (nat_lt 65535 (length c.answer)) (nat_lt 65535 (length c.authority)) _ (lt-ltb 65535 (length c.additional) many)

full_cause : (r : Request) → IsFull r.base → passes_count r ≡ true
unfolding passes_count contents_of count_sent
full_cause r is =
    let sent = sent_from Additional is.additional in
    let opts = opt_records (with_payload_size 1232 r).opt in
    let c : Contents = record {
      questions = is.questions;
      answer = sent_from Answer is.answer;
      authority = sent_from Authority is.authority;
      additional = sent ++ opts;
    } in
    rw (is.asked, is.answered, is.authorized, is.added) (too_many_additional c (omega (arith, length-append sent opts, is.full)))

-- Whatever header and OPT record a request has, what it is refused for lies in its base.
refused_for : (r : Request) (header : List ℕ) (opt : Option OptFields) (e : Error) → AreOctets r.base → composed (record r { header = header; opt = opt }) ≡ Err e → IsComposingFault r e
unfolding composed appended
refused_for r header opt e octets is = by_end (copies_all r.base opt (fresh None)) (all_copied r.base opt octets) is
  where
    by_end : (o : Copied) → Ends r.base o → message_of (o >> λ all. Ok (with_header header all)) ≡ Err e → IsComposingFault r e
    by_end o (Unread at none) is = let h = rw at at is in inl (cc, unread_cause r none)
    by_end o (Full at full) is = let h = rw at at is in inr (cc, full_cause r full)
    by_end o (Done d done) is = let h = rw done at is in absurd cc

-- so whatever size is announced, or none
refused_announcing : (size : Option ℕ) (r : Request) (id : ℕ) (e : Error) → AreOctets r.base → composed (announcing size (with_id id r)) ≡ Err e → IsComposingFault r e
refused_announcing None r id e octets is = refused_for r (with_id id r).header (with_id id r).opt e octets is
refused_announcing (Some n) r id e octets is = refused_for r (with_payload_size n (with_id id r)).header (with_payload_size n (with_id id r)).opt e octets is

sized : (n : ℕ) → n < 65536 → (o : Option OptFields) → IfSome o IsOpt → IsOpt (record (opt_or_empty o) { udp_payload_size = n })
sized n small (Some f) is = record { udp_payload_size = small; ext_rcode = is.ext_rcode; version = is.version; flags = is.flags; options = is.options }
sized n small None is = record { udp_payload_size = small; ext_rcode = omega arith; version = omega arith; flags = omega arith; options = omega arith }

said_announcing : (size : Option ℕ) → is_size size ≡ true → (r : Request) (id : ℕ) (octets : List ℕ) → IsOfOctets r → composed (announcing size (with_id id r)) ≡ Ok octets → SaysRequest octets (announcing size (with_id id r))
said_announcing None small r id octets h is = composed_says (with_id id r) octets (record { base = h.base; long = h.long; header = omega (arith, length-drop 2 r.header, h.header); opt = h.opt }) is
said_announcing (Some n) small r id octets h is = composed_says (with_payload_size n (with_id id r)) octets (record { base = h.base; long = h.long; header = omega (arith, length-drop 2 r.header, h.header); opt = sized n (ltb-true n 65536 small) r.opt h.opt }) is

-- what is refused as it is
pub composed_refused : (r : Request) (e : Error) → IsOfOctets r → composed r ≡ Err e → IsComposingFault r e
composed_refused r e h is = refused_for r r.header r.opt e h.base is

pub composed_composes : (c : Conf) → Composes c composed
composed_composes c = record {
  carries = λ r id octets h is. said_announcing c.transports.dgram_udp_payload_size c.transports.is_small r id octets h is;
  refused = composed_refused;
  refused_under = λ r id e h is. refused_announcing c.transports.dgram_udp_payload_size r id e h.base is;
}
