-- Questions and records of a base are copied into a draft without a limit until one can't be read: no section of a base has more than 65535 entries, so no push is refused.
use Rattle.std.proofs.Common.{◌≡◌, ℕ, ◌+◌, ◌-◌, ◌<◌, ◌≤◌, ◌⊎◌, inl, inr, List, [], ◌∷◌, length, drop, get_or, refl, ap, sym, subst, ◌∙◌, arith, Bool, true, false}
use Rattle.std.specs.Prelude.{Option, Some, None, Result, Ok, Err, map, not, option_and_then, slice_range, if◌then◌else◌}
use Rattle.std.specs.List.{filter}
use Rattle.std.proofs.lemmas.List.{get_or-take, get_or-drop}
use Rattle.dns_values.specs.declared.error.ParseError.{ParseError}
use Rattle.dns_values.specs.declared.numbers.Section.{Section}
use Rattle.dns_values.specs.declared.numbers.Section.TheVariants.{Answer, Authority, Additional}
use Rattle.dns_base.specs.declared.push_error.PushError.TheVariants as refusals
use Rattle.dns_base.specs.Numbers.{u16_at}
use Rattle.dns_base.specs.Header.{Counts}
use Rattle.dns_base.specs.Message.{Asked, Known, Written, all_read, record_at, items_at, items_behind, questions_of, answer_of, authority_of, answer_items, authority_items, additional_items}
use Rattle.dns_base.specs.Sections.{HasNoRecords, HasNoneAfter, one_more_in, entries_in}
use Rattle.dns_base.specs.Draft.{Draft, counts_in, limit_of, refusal, pushed_question, pushed_record, question_size, record_size}
use Rattle.dns_base.proofs.Lists.{items_few}
use Rattle.dns_base.proofs.Steps.{draft_steps}
use Rattle.client_request.specs.declared.error.CopyRecordsError.TheVariants.{Parse}
use Rattle.client_request.specs.Composed.{Copied, asks, copies, each, each_found, copies_section, section_items, written_from, is_replaced}
use Rattle.client_request.specs.Carries.{sent_from, records_of}
use Rattle.client_request.proofs.Writable.{AreOctets}

-- what can't be read stops the copying
pub record Stopped {A : Type 0} (read : Option A) (o : Copied) : Type 0 where
  pub at : o ≡ Err (Parse (record {}))
  pub unread : read ≡ None

-- what two octets say
pub number_small : (octets : List ℕ) (at : ℕ) → AreOctets octets → u16_at octets at < 65536
number_small octets at h =
    let one : (i : ℕ) → i < 2 → get_or (slice_range octets at (at + 2)) i 0 < 256 = λ i few. rw (get_or-take (at + 2 - at) (drop at octets) i 0 (omega arith), get_or-drop at octets i 0) (h (at + i)) in
    omega (arith, one 0 (omega arith), one 1 (omega arith))

-- one push

pub room_left : (entries more : ℕ) (d : Draft) → limit_of d ≡ None → entries < 65535 → refusal entries d more ≡ None
room_left entries more d unlimited few = draft_steps.refusals.room entries d more (λ e. omega arith) unlimited

pub full_refused : (entries more : ℕ) (d : Draft) → entries ≡ 65535 → refusal entries d more ≡ Some refusals.Count
full_refused entries more d full = draft_steps.refusals.full entries d more full

-- questions

-- a question was pushed
record Asking (d e : Draft) : Type 0 where
  unlimited : limit_of e ≡ None
  order : HasNoRecords (counts_in e)
  entries : (counts_in e).questions ≡ (counts_in d).questions + 1

question_pushed : (q : Asked) (d : Draft) → limit_of d ≡ None → HasNoRecords (counts_in d) → Asking d (pushed_question q d)
question_pushed q d unlimited order =
    let is = draft_steps.counts.question q d in
    record {
      unlimited = draft_steps.limits.question q d ∙ unlimited;
      order = subst HasNoRecords (sym is) order;
      entries = ap (λ (n : Counts). n.questions) is;
    }

-- all questions are read and pushed
pub record Asks (items : List (Result Asked ParseError)) (o : Copied) : Type 0 where
  pub draft : Draft
  pub done : o ≡ Ok draft
  pub questions : List Asked
  pub read : all_read items ≡ Some questions
  pub unlimited : limit_of draft ≡ None
  pub order : HasNoRecords (counts_in draft)

pub asking : (items : List (Result Asked ParseError)) (d : Draft) → limit_of d ≡ None → HasNoRecords (counts_in d) → (counts_in d).questions + length items ≤ 65535
    → Stopped (all_read items) (each asks items d) ⊎ Asks items (each asks items d)
asking [] d unlimited order few = inr (record { draft = d; done = refl; questions = []; read = refl; unlimited = unlimited; order = order })
asking (Err e ∷ items) d unlimited order few = inl (record { at = refl; unread = refl })
asking (Ok q ∷ items) d unlimited order few =
    let next = question_pushed q d unlimited order in
    let pushed : asks q d ≡ Ok (pushed_question q d) = rw (room_left (counts_in d).questions (question_size q) d unlimited (omega arith)) refl in
    let there : each asks (Ok q ∷ items) d ≡ each asks items (pushed_question q d) = rw pushed refl in
    elim (asking items (pushed_question q d) next.unlimited next.order (omega (arith, next.entries))) [
      | inl s ↦ inl (record { at = there ∙ s.at; unread = rw s.unread refl })
      | inr a ↦ inr (record { draft = a.draft; done = there ∙ a.done; questions = q ∷ a.questions; read = rw a.read refl; unlimited = a.unlimited; order = a.order })
    ]

-- records

-- so many records were pushed
record Adding (section : Section) (n : ℕ) (d e : Draft) : Type 0 where
  unlimited : limit_of e ≡ None
  order : HasNoneAfter section (counts_in e)
  entries : entries_in section (counts_in e) ≡ entries_in section (counts_in d) + n

one_more : (section : Section) (counts : Counts) → HasNoneAfter section counts → HasNoneAfter section (one_more_in section counts) × (entries_in section (one_more_in section counts) ≡ entries_in section counts + 1)
one_more Answer counts h = (h, refl)
one_more Authority counts h = (h, refl)
one_more Additional counts h = (h, refl)

record_pushed : (section : Section) (w : Written) (d : Draft) → limit_of d ≡ None → HasNoneAfter section (counts_in d) → Adding section 1 d (pushed_record section w d)
record_pushed section w d unlimited order =
    let is = draft_steps.counts.any_record section w d in
    let next = one_more section (counts_in d) order in
    record {
      unlimited = draft_steps.limits.any_record section w d ∙ unlimited;
      order = subst (HasNoneAfter section) (sym is) next.0;
      entries = ap (entries_in section) is ∙ next.1;
    }

-- how many records of these are sent
unfoldable pub count_sent : Section → List Known → ℕ
count_sent section records = length (sent_from section records)

sent_both : (section : Section) (known : Known) (others : List Known) → count_sent section (known ∷ others) ≡ count_sent section (known ∷ []) + count_sent section others
unfolding count_sent
sent_both section known others =
    elim (is_replaced section known) as
    (λ b. length (map written_from (if not b then known ∷ filter (λ k. not (is_replaced section k)) others else filter (λ k. not (is_replaced section k)) others))
    ≡ length (map written_from (if not b then known ∷ [] else [])) + length (sent_from section others))
    [ true ↦ omega arith | false ↦ omega arith ]

-- a record is pushed, or left out where the recorded OPT record takes its place
record Copies (section : Section) (known : Known) (d : Draft) : Type 0 where
  draft : Draft
  done : copies section known d ≡ Ok draft
  added : Adding section (count_sent section (known ∷ [])) d draft
  one : count_sent section (known ∷ []) ≤ 1

copied : (section : Section) (known : Known) (d : Draft) → limit_of d ≡ None → HasNoneAfter section (counts_in d) → entries_in section (counts_in d) < 65535 → Copies section known d
unfolding count_sent
copied section known d unlimited order few = by_test (is_replaced section known) refl
  where
    by_test : (b : Bool) → is_replaced section known ≡ b → Copies section known d
    by_test true is = record {
      draft = d;
      done = rw is refl;
      added = record { unlimited = unlimited; order = order; entries = rw is (omega arith) };
      one = rw is (omega arith);
    }
    by_test false is =
        let pushed = record_pushed section (written_from known) d unlimited order in
        record {
          draft = pushed_record section (written_from known) d;
          done = rw (is, room_left (entries_in section (counts_in d)) (record_size (written_from known)) d unlimited few) refl;
          added = record { unlimited = pushed.unlimited; order = pushed.order; entries = rw is pushed.entries };
          one = rw is (omega arith);
        }

-- all these records are read, and those that are sent are pushed
pub record Sends (section : Section) (read : Option (List Known)) (d : Draft) (o : Copied) : Type 0 where
  pub draft : Draft
  pub done : o ≡ Ok draft
  pub records : List Known
  pub are : read ≡ Some records
  pub unlimited : limit_of draft ≡ None
  pub order : HasNoneAfter section (counts_in draft)
  pub entries : entries_in section (counts_in draft) ≡ entries_in section (counts_in d) + count_sent section records
  pub few : entries_in section (counts_in draft) ≤ 65535

nothing_more : (section : Section) (counts : Counts) → entries_in section counts ≡ entries_in section counts + count_sent section []
unfolding count_sent
nothing_more section counts = omega arith

copying : (section : Section) (items : List (Result Known ParseError)) (d : Draft) → limit_of d ≡ None → HasNoneAfter section (counts_in d) → entries_in section (counts_in d) + length items ≤ 65535
    → Stopped (all_read items) (each (copies section) items d) ⊎ Sends section (all_read items) d (each (copies section) items d)
copying section [] d unlimited order few = inr (record { draft = d; done = refl; records = []; are = refl; unlimited = unlimited; order = order; entries = nothing_more section (counts_in d); few = omega arith })
copying section (Err e ∷ items) d unlimited order few = inl (record { at = refl; unread = refl })
copying section (Ok known ∷ items) d unlimited order few =
    let one = copied section known d unlimited order (omega arith) in
    let there : each (copies section) (Ok known ∷ items) d ≡ each (copies section) items one.draft = rw one.done refl in
    elim (copying section items one.draft one.added.unlimited one.added.order (omega (arith, one.added.entries, one.one))) [
      | inl s ↦ inl (record { at = there ∙ s.at; unread = rw s.unread refl })
      | inr a ↦ inr (record {
        draft = a.draft;
        done = there ∙ a.done;
        records = known ∷ a.records;
        are = rw a.are refl;
        unlimited = a.unlimited;
        order = a.order;
        entries = omega (arith, a.entries, one.added.entries, sent_both section known a.records);
        few = a.few;
      })
    ]

-- sections

behind_few : (base : List ℕ) (count : ℕ) {A : Type 0} (before : Option (List A × ℕ)) (items : List (Result Known ParseError)) → count < 65536 → items_behind base count before ≡ Some items → length items ≤ 65535
behind_few base count None items small e = absurd cc
behind_few base count (Some x) items small e =
    let same : items_at (record_at base) count x.1 ≡ items = cc in
    rw (← same) (omega (arith, items_few (record_at base) count x.1))

section_few : (section : Section) (base : List ℕ) (items : List (Result Known ParseError)) → AreOctets base → section_items section base ≡ Some items → length items ≤ 65535
unfolding answer_items authority_items additional_items
section_few Answer base items h e = behind_few base (u16_at base 6) (questions_of base) items (number_small base 6 h) e
section_few Authority base items h e = behind_few base (u16_at base 8) (answer_of base) items (number_small base 8 h) e
section_few Additional base items h e = behind_few base (u16_at base 10) (authority_of base) items (number_small base 10 h) e

pub copying_section : (section : Section) (base : List ℕ) (d : Draft) → AreOctets base → limit_of d ≡ None → HasNoneAfter section (counts_in d) → entries_in section (counts_in d) ≡ 0
    → Stopped (records_of section base) (copies_section section base d) ⊎ Sends section (records_of section base) d (copies_section section base d)
copying_section section base d octets unlimited order empty = found (section_items section base) refl
  where
    found : (o : Option (List (Result Known ParseError))) → section_items section base ≡ o
        → Stopped (option_and_then all_read o) (each_found section o d) ⊎ Sends section (option_and_then all_read o) d (each_found section o d)
    found None e = inl (record { at = refl; unread = refl })
    found (Some items) e = copying section items d unlimited order (omega (arith, empty, section_few section base items octets e))
