-- What is composed says what the request says.
use Rattle.std.proofs.Common.{◌≡◌, ◌≢◌, ℕ, zero, suc, inl, inr, List, [], ◌∷◌, ◌++◌, refl, ap, sym, subst, ◌∙◌, arith, true, false, append_assoc, append-nil, length-drop}
use Rattle.std.specs.Prelude.{Option, Some, None, IfSome, Result, Ok, Err, map, not, if◌then◌else◌}
use Rattle.std.specs.List.{filter}
use Rattle.dns_names.proofs.Heads.{chosen, none_some}
use Rattle.dns_values.specs.declared.error.ParseError.{ParseError}
use Rattle.dns_values.specs.declared.numbers.Section.{Section}
use Rattle.dns_values.specs.declared.numbers.Section.TheVariants.{Answer, Authority, Additional}
use Rattle.dns_base.specs.declared.push_error.PushError.{PushError}
use Rattle.dns_base.specs.Numbers.{u16_at}
use Rattle.dns_base.specs.Message.{Asked, Known, Written, reads, item_then, items_at, items_behind, all_read, question_at, record_at, questions_of, answer_of, authority_of, answer_items, authority_items, additional_items}
use Rattle.dns_base.specs.Answering.{question_items}
use Rattle.dns_base.specs.Sections.{HasNoRecords, HasNoneAfter, one_more_in, entries_in}
use Rattle.dns_base.specs.Header.{Counts}
use Rattle.dns_base.specs.OptRecord.{OptFields}
use Rattle.dns_base.specs.Draft.{Draft, counts_in, refusal, fresh, with_header, pushed_question, pushed_record, finished}
use Rattle.dns_base.specs.Holding.{Contents, no_contents, with_question, with_record, IsAskable, IsWritable, Holds}
use Rattle.dns_base.proofs.Holding.{draft_laws}
use Rattle.dns_base.proofs.Steps.{draft_steps}
use Rattle.client_request.specs.Request.{Request, opt_written, opt_or_empty, with_id, with_payload_size}
use Rattle.client_request.specs.Composed.{Copied, ◌>>◌, unless, asks, adds, copies, each, each_found, copies_section, section_items, adds_opt, copies_all, written_from, is_replaced, appended, message_of, composed}
use Rattle.client_request.specs.Carries.{sent_from, records_of, opt_records, contents_of, SaysRequest, Carries, IsOpt, IsOfOctets}
use Rattle.client_request.proofs.Writable.{AreOctets, question_askable, record_writable}

-- what is read of a list of items has a property
abbrev Each : {A : Type 0} → (A → Type 0) → List (Result A ParseError) → Type 0
Each P [] = Unit {0}
Each P (Ok x ∷ items) = P x × Each P items
Each P (Err e ∷ items) = Each P items

module _ {A : Type 0} (P : A → Type 0) (one : ℕ → Option (A × ℕ)) (good : (at end : ℕ) (x : A) → one at ≡ Some (x, end) → P x) where
  item_good : (others : ℕ → List (Result A ParseError)) → ((end : ℕ) → Each P (others end)) → (at : ℕ) (o : Option (A × ℕ)) → one at ≡ o → Each P (item_then others o)
  item_good others h at None e = tt
  item_good others h at (Some x) e = (good at x.1 x.0 e, h x.1)

  items_good : (n at : ℕ) → Each P (items_at one n at)
  unfolding items_at
  items_good zero at = tt
  items_good (suc n) at = item_good (λ end. items_at one n end) (λ end. items_good n end) at (one at) refl

-- inversions

pub then_done : (a : Copied) (next : Draft → Copied) (d : Draft) → a >> next ≡ Ok d → (e : Draft) × (a ≡ Ok e) × (next e ≡ Ok d)
then_done (Ok e) next d h = (e, refl, h)
then_done (Err x) next d h = absurd cc

not_refused : (o : Option PushError) (a d : Draft) → unless o a ≡ Ok d → (o ≡ None) × (a ≡ d)
not_refused None a d h = (refl, cc)
not_refused (Some e) a d h = absurd cc

room_left : (entries more : ℕ) (d : Draft) → refusal entries d more ≡ None → entries ≢ 65535
room_left entries more d h full = let is = draft_steps.refusals.full entries d more full in absurd cc

pub asked : (q : Asked) (d e : Draft) → asks q d ≡ Ok e → ((counts_in d).questions ≢ 65535) × (pushed_question q d ≡ e)
asked q d e h = let parts = not_refused _ _ e h in (room_left _ _ d parts.0, parts.1)

pub added : (section : Section) (w : Written) (d e : Draft) → adds section w d ≡ Ok e → (entries_in section (counts_in d) ≢ 65535) × (pushed_record section w d ≡ e)
added section w d e h = let parts = not_refused _ _ e h in (room_left _ _ d parts.0, parts.1)

question_order : (q : Asked) (d : Draft) → HasNoRecords (counts_in d) → HasNoRecords (counts_in (pushed_question q d))
question_order q d h = subst HasNoRecords (sym (draft_steps.counts.question q d)) h

one_more : (section : Section) (counts : Counts) → HasNoneAfter section counts → HasNoneAfter section (one_more_in section counts)
one_more Answer counts h = h
one_more Authority counts h = h
one_more Additional counts h = h

record_order : (section : Section) (w : Written) (d : Draft) → HasNoneAfter section (counts_in d) → HasNoneAfter section (counts_in (pushed_record section w d))
record_order section w d h = subst (HasNoneAfter section) (sym (draft_steps.counts.any_record section w d)) (one_more section (counts_in d) h)

-- questions

pub record Asks (items : List (Result Asked ParseError)) (e : Draft) (c : Contents) : Type 0 where
  pub questions : List Asked
  pub read : all_read items ≡ Some questions
  pub order : HasNoRecords (counts_in e)
  pub holds : Holds e (record c { questions = c.questions ++ questions })

questions_hold : (items : List (Result Asked ParseError)) (d e : Draft) (c : Contents) → Each IsAskable items → HasNoRecords (counts_in d) → Holds d c → each asks items d ≡ Ok e → Asks items e c
questions_hold [] d e c good order h is =
    let same : d ≡ e = cc in
    let P : Draft → Type 0 = λ d. Asks [] d c in
    let Q : List Asked → Type 0 = λ qs. Holds d (record c { questions = qs }) in
    subst P same (record { questions = []; read = refl; order = order; holds = subst Q (sym (append-nil c.questions)) h })
questions_hold (Ok q ∷ items) d e c good order h is =
    let first = then_done (asks q d) (each asks items) e is in
    let pushed = asked q d first.0 first.1 in
    let P : Draft → Type 0 = λ x. HasNoRecords (counts_in x) × Holds x (with_question q c) in
    let next = subst P pushed.1 (question_order q d order, draft_laws.question_holds q d c good.0 order pushed.0 h) in
    let rest = questions_hold items first.0 e (with_question q c) good.1 next.0 next.1 first.2 in
    let Q : List Asked → Type 0 = λ qs. Holds e (record c { questions = qs }) in
    record {
      questions = q ∷ rest.questions;
      read = rw rest.read refl;
      order = rest.order;
      holds = subst Q (append_assoc c.questions (q ∷ []) rest.questions) rest.holds;
    }
questions_hold (Err x ∷ items) d e c good order h is = absurd cc

-- records

with_all : Section → List Written → Contents → Contents
with_all section [] c = c
with_all section (w ∷ ws) c = with_all section ws (with_record section w c)

all_answer : (ws : List Written) (c : Contents) → with_all Answer ws c ≡ record c { answer = c.answer ++ ws }
unfolding with_all
all_answer [] c = let P : List Written → Type 0 = λ ws. c ≡ record c { answer = ws } in subst P (sym (append-nil c.answer)) refl
all_answer (w ∷ ws) c = all_answer ws (with_record Answer w c) ∙ ap (λ ws. record c { answer = ws }) (append_assoc c.answer (w ∷ []) ws)

all_authority : (ws : List Written) (c : Contents) → with_all Authority ws c ≡ record c { authority = c.authority ++ ws }
unfolding with_all
all_authority [] c = let P : List Written → Type 0 = λ ws. c ≡ record c { authority = ws } in subst P (sym (append-nil c.authority)) refl
all_authority (w ∷ ws) c = all_authority ws (with_record Authority w c) ∙ ap (λ ws. record c { authority = ws }) (append_assoc c.authority (w ∷ []) ws)

all_additional : (ws : List Written) (c : Contents) → with_all Additional ws c ≡ record c { additional = c.additional ++ ws }
unfolding with_all
all_additional [] c = let P : List Written → Type 0 = λ ws. c ≡ record c { additional = ws } in subst P (sym (append-nil c.additional)) refl
all_additional (w ∷ ws) c = all_additional ws (with_record Additional w c) ∙ ap (λ ws. record c { additional = ws }) (append_assoc c.additional (w ∷ []) ws)

sent_more : (section : Section) (known : Known) (others : List Known) (c : Contents)
    → with_all section (sent_from section others) (with_all section (sent_from section (known ∷ [])) c) ≡ with_all section (sent_from section (known ∷ others)) c
unfolding with_all
sent_more section known others c =
    elim (is_replaced section known) as
    (λ b. with_all section (sent_from section others) (with_all section (map written_from (if not b then known ∷ [] else [])) c)
    ≡ with_all section (map written_from (if not b then known ∷ filter (λ k. not (is_replaced section k)) others else filter (λ k. not (is_replaced section k)) others)) c)
    [ true ↦ refl | false ↦ refl ]

record Sends (section : Section) (items : List (Result Known ParseError)) (e : Draft) (c : Contents) : Type 0 where
  records : List Known
  read : all_read items ≡ Some records
  order : HasNoneAfter section (counts_in e)
  holds : Holds e (with_all section (sent_from section records) c)

record_holds : (section : Section) (known : Known) (d e : Draft) (c : Contents) → IsWritable (written_from known) → HasNoneAfter section (counts_in d) → Holds d c → copies section known d ≡ Ok e
    → HasNoneAfter section (counts_in e) × Holds e (with_all section (sent_from section (known ∷ [])) c)
unfolding with_all
record_holds section known d e c good order h is =
    elim (chosen (is_replaced section known) (Ok d) (adds section (written_from known) d) (Ok e) is) [
      | inl p ↦
          let kept = p.1 in
          let same : d ≡ e = cc in
          let P : Draft → Type 0 = λ x. HasNoneAfter section (counts_in x) × Holds x c in
          rw p.0 (subst P same (order, h))
      | inr p ↦
          let pushed = added section (written_from known) d e p.1 in
          let P : Draft → Type 0 = λ x. HasNoneAfter section (counts_in x) × Holds x (with_record section (written_from known) c) in
          rw p.0 (subst P pushed.1 (record_order section (written_from known) d order, draft_laws.record_holds section (written_from known) d c good order pushed.0 h))
    ]

records_hold : (section : Section) (items : List (Result Known ParseError)) (d e : Draft) (c : Contents) → Each (λ k. IsWritable (written_from k)) items → HasNoneAfter section (counts_in d) → Holds d c
    → each (copies section) items d ≡ Ok e → Sends section items e c
unfolding with_all
records_hold section [] d e c good order h is =
    let same : d ≡ e = cc in
    let P : Draft → Type 0 = λ x. Sends section [] x c in
    subst P same (record { records = []; read = refl; order = order; holds = h })
records_hold section (Ok known ∷ items) d e c good order h is =
    let first = then_done (copies section known d) (each (copies section) items) e is in
    let next = record_holds section known d first.0 c good.0 order h first.1 in
    let rest = records_hold section items first.0 e (with_all section (sent_from section (known ∷ [])) c) good.1 next.0 next.1 first.2 in
    let P : Contents → Type 0 = λ c. Holds e c in
    record {
      records = known ∷ rest.records;
      read = rw rest.read refl;
      order = rest.order;
      holds = subst P (sent_more section known rest.records c) rest.holds;
    }
records_hold section (Err x ∷ items) d e c good order h is = absurd cc

-- sections

found_done : (section : Section) (o : Option (List (Result Known ParseError))) (d e : Draft) → each_found section o d ≡ Ok e
    → (items : List (Result Known ParseError)) × (o ≡ Some items) × (each (copies section) items d ≡ Ok e)
found_done section None d e h = absurd cc
found_done section (Some items) d e h = (items, refl, h)

behind_good : (base : List ℕ) (count : ℕ) {A : Type 0} (before : Option (List A × ℕ)) (items : List (Result Known ParseError)) → AreOctets base → items_behind base count before ≡ Some items
    → Each (λ k. IsWritable (written_from k)) items
behind_good base count None items h e = none_some e
behind_good base count (Some x) items h e =
    let same : items_at (record_at base) count x.1 ≡ items = cc in
    subst (Each (λ k. IsWritable (written_from k))) same (items_good (λ k. IsWritable (written_from k)) (record_at base) (λ at end known f. record_writable base at end known h f) count x.1)

section_good : (section : Section) (base : List ℕ) (items : List (Result Known ParseError)) → AreOctets base → section_items section base ≡ Some items → Each (λ k. IsWritable (written_from k)) items
unfolding answer_items authority_items additional_items
section_good Answer base items h e = behind_good base (u16_at base 6) (questions_of base) items h e
section_good Authority base items h e = behind_good base (u16_at base 8) (answer_of base) items h e
section_good Additional base items h e = behind_good base (u16_at base 10) (authority_of base) items h e

record SectionSends (section : Section) (base : List ℕ) (e : Draft) (c : Contents) : Type 0 where
  records : List Known
  read : records_of section base ≡ Some records
  order : HasNoneAfter section (counts_in e)
  holds : Holds e (with_all section (sent_from section records) c)

records_read : (section : Section) (base : List ℕ) (items : List (Result Known ParseError)) (records : List Known) → section_items section base ≡ Some items → all_read items ≡ Some records → records_of section base ≡ Some records
records_read section base items records e f = rw e f

section_holds : (section : Section) (base : List ℕ) (d e : Draft) (c : Contents) → AreOctets base → HasNoneAfter section (counts_in d) → Holds d c → copies_section section base d ≡ Ok e → SectionSends section base e c
section_holds section base d e c octets order h is =
    let found = found_done section (section_items section base) d e is in
    let sent = records_hold section found.0 d e c (section_good section base found.0 octets found.1) order h found.2 in
    record { records = sent.records; read = records_read section base found.0 sent.records found.1 sent.read; order = sent.order; holds = sent.holds }

opt_writable : (opt : OptFields) → IsOpt opt → IsWritable (opt_written opt)
opt_writable opt h = record {
  owner = (tt, omega arith);
  rtype = omega arith;
  class = h.udp_payload_size;
  ttl = omega (arith, h.ext_rcode, h.version, h.flags);
  typed = refl;
  short = h.options;
  content = tt;
}

opt_holds : (opt : Option OptFields) (d e : Draft) (c : Contents) → IfSome opt IsOpt → Holds d c → adds_opt opt d ≡ Ok e → Holds e (with_all Additional (opt_records opt) c)
unfolding with_all
opt_holds None d e c good h is = let same : d ≡ e = cc in let P : Draft → Type 0 = λ x. Holds x c in subst P same h
opt_holds (Some opt) d e c good h is =
    let pushed = added Additional (opt_written opt) d e is in
    let P : Draft → Type 0 = λ x. Holds x (with_record Additional (opt_written opt) c) in
    subst P pushed.1 (draft_laws.record_holds Additional (opt_written opt) d c (opt_writable opt good) tt pushed.0 h)

-- the whole message

record AllHeld (base : List ℕ) (opt : Option OptFields) (e : Draft) : Type 0 where
  questions : List Asked
  answer : List Known
  authority : List Known
  additional : List Known
  asked : all_read (question_items base) ≡ Some questions
  answered : records_of Answer base ≡ Some answer
  authorized : records_of Authority base ≡ Some authority
  added : records_of Additional base ≡ Some additional
  holds : Holds e (record {
    questions = questions;
    answer = sent_from Answer answer;
    authority = sent_from Authority authority;
    additional = sent_from Additional additional ++ opt_records opt;
  })

fresh_order : HasNoRecords (counts_in (fresh None))
fresh_order = subst HasNoRecords (sym (draft_steps.counts.fresh None)) (refl, refl, refl)

all_hold : (base : List ℕ) (opt : Option OptFields) (e : Draft) → AreOctets base → IfSome opt IsOpt → copies_all base opt (fresh None) ≡ Ok e → AllHeld base opt e
all_hold base opt e octets good is =
    let fifth = then_done (each asks (question_items base) (fresh None) >> copies_section Answer base >> copies_section Authority base >> copies_section Additional base) (adds_opt opt) e is in
    let fourth = then_done (each asks (question_items base) (fresh None) >> copies_section Answer base >> copies_section Authority base) (copies_section Additional base) fifth.0 fifth.1 in
    let third = then_done (each asks (question_items base) (fresh None) >> copies_section Answer base) (copies_section Authority base) fourth.0 fourth.1 in
    let second = then_done (each asks (question_items base) (fresh None)) (copies_section Answer base) third.0 third.1 in
    let askable = items_good IsAskable (question_at base) (λ at end q f. question_askable base at end q octets f) (u16_at base 4) 12 in
    let q = questions_hold (question_items base) (fresh None) second.0 no_contents askable fresh_order (draft_laws.holds_nothing None) second.1 in
    let a = section_holds Answer base second.0 third.0 _ octets (q.order.1, q.order.2) q.holds second.2 in
    let u = section_holds Authority base third.0 fourth.0 _ octets a.order.1 a.holds third.2 in
    let x = section_holds Additional base fourth.0 fifth.0 _ octets tt u.holds fourth.2 in
    let all = opt_holds opt fifth.0 e _ good x.holds fifth.2 in
    let asked : Contents = record no_contents { questions = q.questions } in
    let A = sent_from Answer a.records in
    let U = sent_from Authority u.records in
    let X = sent_from Additional x.records in
    let one = all_answer A asked in
    let two = all_authority U (record asked { answer = A }) in
    let three = all_additional X (record asked { answer = A; authority = U }) in
    let four = all_additional (opt_records opt) (record asked { answer = A; authority = U; additional = X }) in
    record {
      questions = q.questions;
      answer = a.records;
      authority = u.records;
      additional = x.records;
      asked = q.read;
      answered = a.read;
      authorized = u.read;
      added = x.read;
      holds = subst (Holds e) (ap (λ c. with_all Additional (opt_records opt) (with_all Additional X (with_all Authority U c))) one
          ∙ ap (λ c. with_all Additional (opt_records opt) (with_all Additional X c)) two
          ∙ ap (λ c. with_all Additional (opt_records opt) c) three ∙ four) all;
    }

pub message_done : (a : Copied) (octets : List ℕ) → message_of a ≡ Ok octets → (d : Draft) × (a ≡ Ok d) × (finished d ≡ octets)
message_done (Ok d) octets h = (d, refl, cc)
message_done (Err e) octets h = absurd cc

pub composed_says : (r : Request) (octets : List ℕ) → IsOfOctets r → composed r ≡ Ok octets → SaysRequest octets r
unfolding composed appended contents_of
composed_says r octets h is =
    let done = message_done (appended r (fresh None)) octets is in
    let under = then_done (copies_all r.base r.opt (fresh None)) (λ all. Ok (with_header r.header all)) done.0 done.1 in
    let held = all_hold r.base r.opt under.0 h.base h.opt under.1 in
    let head = under.2 in
    let same : with_header r.header under.0 ≡ done.0 = cc in
    let c : Contents = record {
      questions = held.questions;
      answer = sent_from Answer held.answer;
      authority = sent_from Authority held.authority;
      additional = sent_from Additional held.additional ++ opt_records r.opt;
    } in
    let reads_back = draft_laws.finished_reads (with_header r.header under.0) c (draft_laws.header_holds r.header under.0 c h.header held.holds) in
    let wrote : finished (with_header r.header under.0) ≡ octets = ap finished same ∙ done.2 in
    record {
      contents = c;
      are = rw (held.asked, held.answered, held.authorized, held.added) refl;
      reading = reads_back.reading;
      read = ap reads (sym wrote) ∙ reads_back.read;
      header = reads_back.is.header_is ∙ draft_steps.headers.header r.header under.0 h.header;
      agree = reads_back.is.agree;
    }

sized_opt : (opt : Option OptFields) → IfSome opt IsOpt → IsOpt (record (opt_or_empty opt) { udp_payload_size = 1232 })
sized_opt None h = record { udp_payload_size = omega arith; ext_rcode = omega arith; version = omega arith; flags = omega arith; options = omega arith }
sized_opt (Some opt) h = record { udp_payload_size = omega arith; ext_rcode = h.ext_rcode; version = h.version; flags = h.flags; options = h.options }

pub composed_carries : (r : Request) (id : ℕ) (octets : List ℕ) → IsOfOctets r → composed (with_payload_size 1232 (with_id id r)) ≡ Ok octets → Carries octets r id
composed_carries r id octets h is = composed_says (with_payload_size 1232 (with_id id r)) octets (record {
  base = h.base;
  long = h.long;
  header = omega (arith, length-drop 2 r.header, h.header);
  opt = sized_opt r.opt h.opt;
}) is
