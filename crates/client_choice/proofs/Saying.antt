-- What the answer to a message says for which no server may be asked.
use Rattle.std.proofs.Common.{◌≡◌, ◌≢◌, ℕ, zero, suc, ◌<◌, List, [], ◌∷◌, ◌++◌, length, refl, ap, sym, subst, ◌∙◌, append_assoc, append-nil, arith}
use Rattle.std.specs.Prelude.{Option, Some, None, IfSome, IfOk, Result, Ok, Err, option_map, slice_index}
use Rattle.dns_values.specs.declared.error.ParseError.{ParseError}
use Rattle.dns_values.specs.declared.numbers.Section.TheVariants.{Additional}
use Rattle.dns_base.specs.declared.push_error.PushError.{PushError}
use Rattle.dns_base.specs.Answering.{question_items}
use Rattle.dns_base.specs.Draft.{Draft, counts_in, refusal, fresh, with_header, pushed_question, pushed_record, finished}
use Rattle.dns_base.specs.Holding.{Contents, no_contents, with_question, with_record, IsAskable, IsWritable, Holds}
use Rattle.dns_base.specs.Message.{Asked, Written, all_read, header_of, item_then, items_at, question_at, reads}
use Rattle.dns_base.specs.Numbers.{u16_at}
use Rattle.dns_base.specs.OptRecord.{OptFields, opt_of}
use Rattle.dns_base.specs.Sections.{HasNoRecords, entries_in}
use Rattle.dns_base.proofs.Holding.{draft_laws}
use Rattle.dns_base.proofs.Steps.{draft_steps}
use Rattle.client_request.specs.Carries.{IsOpt, opt_records}
use Rattle.client_request.specs.Composed.{Copied, ◌>>◌, unless, asks, adds, adds_opt, each, message_of}
use Rattle.client_request.specs.Composing.{IsComposed}
use Rattle.client_request.specs.Request.{opt_written}
use Rattle.client_request.specs.declared.error.Error.{Error}
use Rattle.client_request.proofs.Writable.{AreOctets, question_askable}
use Rattle.client_choice.specs.ServeFail.{failing, plain_opt, serve_failed, failing_contents, SaysFailure}

-- what is read of a list of items has a property
abbrev Each : {A : Type 0} → (A → Type 0) → List (Result A ParseError) → Type 0
Each P [] = Unit {0}
Each P (Ok x ∷ items) = P x × Each P items
Each P (Err e ∷ items) = Each P items

module _ {A : Type 0} (P : A → Type 0) (one : ℕ → Option (A × ℕ)) (good : (at end : ℕ) (x : A) → one at ≡ Some (x, end) → P x) where
  item_good : (others : ℕ → List (Result A ParseError)) → ((end : ℕ) → Each P (others end)) → (at : ℕ) (o : Option (A × ℕ)) → one at ≡ o → Each P (item_then others o)
  item_good others h at None e = tt
  item_good others h at (Some x) e = (good at x.1 x.0 e, h x.1)

  items_good : (n at : ℕ) → Each P (items_at one n at)
  unfolding items_at
  items_good zero at = tt
  items_good (suc n) at = item_good (λ end. items_at one n end) (λ end. items_good n end) at (one at) refl

-- inversions

then_done : (a : Copied) (next : Draft → Copied) (d : Draft) → a >> next ≡ Ok d → (e : Draft) × (a ≡ Ok e) × (next e ≡ Ok d)
then_done (Ok e) next d h = (e, refl, h)
then_done (Err x) next d h = absurd cc

not_refused : (o : Option PushError) (a d : Draft) → unless o a ≡ Ok d → (o ≡ None) × (a ≡ d)
not_refused None a d h = (refl, cc)
not_refused (Some e) a d h = absurd cc

room_left : (entries more : ℕ) (d : Draft) → refusal entries d more ≡ None → entries ≢ 65535
room_left entries more d h full = let is = draft_steps.refusals.full entries d more full in absurd cc

question_order : (q : Asked) (d : Draft) → HasNoRecords (counts_in d) → HasNoRecords (counts_in (pushed_question q d))
question_order q d h = subst HasNoRecords (sym (draft_steps.counts.question q d)) h

-- a draft that holds the questions that were read
record Asks (items : List (Result Asked ParseError)) (e : Draft) (c : Contents) : Type 0 where
  questions : List Asked
  read : all_read items ≡ Some questions
  holds : Holds e (record c { questions = c.questions ++ questions })

questions_hold : (items : List (Result Asked ParseError)) (d e : Draft) (c : Contents) → Each IsAskable items → HasNoRecords (counts_in d) → Holds d c → each asks items d ≡ Ok e → Asks items e c
questions_hold [] d e c good order h is =
    let same : d ≡ e = cc in
    let P : Draft → Type 0 = λ d. Asks [] d c in
    let Q : List Asked → Type 0 = λ qs. Holds d (record c { questions = qs }) in
    subst P same (record { questions = []; read = refl; holds = subst Q (sym (append-nil c.questions)) h })
questions_hold (Ok q ∷ items) d e c good order h is =
    let first = then_done (asks q d) (each asks items) e is in
    let done = not_refused _ (pushed_question q d) first.0 first.1 in
    let room = room_left _ _ d done.0 in
    let P : Draft → Type 0 = λ x. HasNoRecords (counts_in x) × Holds x (with_question q c) in
    let next = subst P done.1 (question_order q d order, draft_laws.question_holds q d c good.0 order room h) in
    let rest = questions_hold items first.0 e (with_question q c) good.1 next.0 next.1 first.2 in
    let Q : List Asked → Type 0 = λ qs. Holds e (record c { questions = qs }) in
    record {
      questions = q ∷ rest.questions;
      read = rw rest.read refl;
      holds = subst Q (append_assoc c.questions (q ∷ []) rest.questions) rest.holds;
    }
questions_hold (Err x ∷ items) d e c good order h is = absurd cc

opt_writable : (opt : OptFields) → IsOpt opt → IsWritable (opt_written (plain_opt opt))
opt_writable opt h = record {
  owner = (tt, omega arith);
  rtype = omega arith;
  class = h.udp_payload_size;
  ttl = omega (arith, h.version, h.flags);
  typed = refl;
  short = h.options;
  content = tt;
}

opt_holds : (opt : Option OptFields) (d e : Draft) (questions : List Asked) → IfSome opt IsOpt → Holds d (record no_contents { questions = questions })
    → adds_opt (option_map plain_opt opt) d ≡ Ok e → Holds e (failing_contents questions opt)
opt_holds None d e questions good h is =
    let same : d ≡ e = cc in
    let P : Draft → Type 0 = λ x. Holds x (failing_contents questions None) in
    subst P same h
opt_holds (Some opt) d e questions good h is =
    let w = opt_written (plain_opt opt) in
    let done = not_refused _ (pushed_record Additional w d) e is in
    let room = room_left _ _ d done.0 in
    let P : Draft → Type 0 = λ x. Holds x (failing_contents questions (Some opt)) in
    subst P done.1 (draft_laws.record_holds Additional w d (record no_contents { questions = questions }) (opt_writable opt good) tt room h)

message_done : (a : Copied) (octets : List ℕ) → message_of a ≡ Ok octets → (d : Draft) × (a ≡ Ok d) × (finished d ≡ octets)
message_done (Ok d) octets h = (d, refl, cc)
message_done (Err e) octets h = absurd cc

fresh_order : HasNoRecords (counts_in (fresh None))
fresh_order = subst HasNoRecords (sym (draft_steps.counts.fresh None)) (refl, refl, refl)

pub says_failure : (message octets : List ℕ) → AreOctets message → length (failing (header_of message)) ≡ 4 → IfSome (opt_of message) IsOpt → serve_failed message ≡ Ok octets → SaysFailure octets message
unfolding serve_failed
says_failure message octets are four good is =
    let header = failing (header_of message) in
    let items = question_items message in
    let opt = option_map plain_opt (opt_of message) in
    let done = message_done (each asks items (fresh None) >> adds_opt opt >> (λ all. Ok (with_header header all))) octets is in
    let under = then_done (each asks items (fresh None) >> adds_opt opt) (λ all. Ok (with_header header all)) done.0 done.1 in
    let asked = then_done (each asks items (fresh None)) (adds_opt opt) under.0 under.1 in
    let askable = items_good IsAskable (question_at message) (λ at end q f. question_askable message at end q are f) (u16_at message 4) 12 in
    let q = questions_hold items (fresh None) asked.0 no_contents askable fresh_order (draft_laws.holds_nothing None) asked.1 in
    let c = failing_contents q.questions (opt_of message) in
    let all = opt_holds (opt_of message) asked.0 under.0 q.questions good q.holds asked.2 in
    let reads_back = draft_laws.finished_reads (with_header header under.0) c (draft_laws.header_holds header under.0 c four all) in
    let head = under.2 in
    let same : with_header header under.0 ≡ done.0 = cc in
    let wrote : finished (with_header header under.0) ≡ octets = ap finished same ∙ done.2 in
    record {
      questions = q.questions;
      are = q.read;
      reading = reads_back.reading;
      read = ap reads (sym wrote) ∙ reads_back.read;
      header = reads_back.is.header_is ∙ draft_steps.headers.header header under.0 four;
      agree = reads_back.is.agree;
    }

-- the same of a call that answered
pub says_where_served : (message : List ℕ) (result : Result (List ℕ) Error) → AreOctets message → length (failing (header_of message)) ≡ 4 → IfSome (opt_of message) IsOpt
    → IsComposed (serve_failed message) result → IfOk result (λ m. SaysFailure m message)
says_where_served message (Ok m) are four good h = says_failure message m are four good h
says_where_served message (Err e) are four good h = tt
