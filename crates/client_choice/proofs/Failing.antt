-- Why there is no answer to a message for which no server may be asked.
use Rattle.std.proofs.Common.{◌≡◌, ◌≢◌, ℕ, suc, ◌+◌, ◌<◌, inl, inr, ◌⊎◌, Bool, true, false, List, [], ◌∷◌, length, refl, ap, sym, subst, ◌∙◌, arith}
use Rattle.std.specs.Prelude.{Option, Some, None, Result, Ok, Err, OnOk, IfErr, is_some, option_map}
use Rattle.dns_values.specs.declared.error.ParseError.{ParseError}
use Rattle.dns_values.specs.declared.numbers.Section.TheVariants.{Additional}
use Rattle.dns_base.specs.Answering.{question_items}
use Rattle.dns_base.specs.Draft.{Draft, counts_in, limit_of, fresh, question_size, record_size, pushed_question, pushed_record, with_header}
use Rattle.dns_base.specs.Message.{Asked, all_read, header_of}
use Rattle.dns_base.specs.OptRecord.{OptFields, opt_of}
use Rattle.dns_base.specs.Sections.{no_entries, one_question_more}
use Rattle.dns_base.proofs.Steps.{draft_steps}
use Rattle.client_request.specs.declared.error.Error.{Error}
use Rattle.client_request.specs.declared.error.Error.TheVariants.{MessageParseError, NoMemory}
use Rattle.client_request.specs.declared.error.CopyRecordsError.TheVariants.{Parse, Push}
use Rattle.client_request.specs.Composed.{Copied, ◌>>◌, asks, adds_opt, each, message_of}
use Rattle.client_request.specs.Composing.{IsComposed}
use Rattle.client_request.specs.Request.{opt_written}
use Rattle.client_choice.specs.ServeFail.{failing, plain_opt, reads_questions, serve_failed}

-- there is room for questions more, and for a record
record HasRoom (d : Draft) (questions : ℕ) : Type 0 where
  free : limit_of d ≡ None
  few : (counts_in d).questions + questions < 65536
  none : (counts_in d).additional ≡ 0

-- A draft that takes a record more; or a question can't be read, and nothing else is wrong.
abbrev IsOpen : Bool → Copied → Type 0
IsOpen read (Ok d) = HasRoom d 0 × (read ≡ true)
IsOpen read (Err (Parse e)) = read ≡ false
IsOpen read (Err (Push e)) = ⊥

one_more : (q : Asked) (o : Option (List Asked)) (copied : Copied) → IsOpen (is_some o) copied → IsOpen (is_some (option_map (λ xs. q ∷ xs) o)) copied
one_more q None copied h = h
one_more q (Some xs) copied h = h

-- where there is room, a question is pushed
question_pushed : (q : Asked) (d : Draft) (n : ℕ) → HasRoom d (suc n) → asks q d ≡ Ok (pushed_question q d)
question_pushed q d n room =
    let below : (counts_in d).questions ≢ 65535 = λ full. absurd (omega (arith, full, room.few)) in
    rw (draft_steps.refusals.room (counts_in d).questions d (question_size q) below room.free) refl

room_left : (q : Asked) (d : Draft) (n : ℕ) → HasRoom d (suc n) → HasRoom (pushed_question q d) n
room_left q d n room =
    let counts : counts_in (pushed_question q d) ≡ one_question_more (counts_in d) = draft_steps.counts.question q d in
    let questions : (counts_in (pushed_question q d)).questions ≡ (counts_in d).questions + 1 = ap (λ c. c.questions) counts in
    record {
      free = draft_steps.limits.question q d ∙ room.free;
      few = omega (arith, questions, room.few);
      none = ap (λ c. c.additional) counts ∙ room.none;
    }

questions_open : (items : List (Result Asked ParseError)) (d : Draft) → HasRoom d (length items) → IsOpen (is_some (all_read items)) (each asks items d)
questions_open [] d room = (room, refl)
questions_open (Err e ∷ items) d room = refl
questions_open (Ok q ∷ items) d room =
    let P : Copied → Type 0 = λ a. IsOpen (is_some (all_read (Ok q ∷ items))) (a >> each asks items) in
    subst P (sym (question_pushed q d (length items) room))
    (one_more q (all_read items) (each asks items (pushed_question q d)) (questions_open items (pushed_question q d) (room_left q d (length items) room)))

-- so is the OPT record
opt_pushed : (opt : Option OptFields) (d : Draft) → HasRoom d 0 → (e : Draft) × (adds_opt opt d ≡ Ok e)
opt_pushed None d room = (d, refl)
opt_pushed (Some opt) d room =
    let w = opt_written opt in
    let below : (counts_in d).additional ≢ 65535 = λ full. absurd (omega (arith, full, room.none)) in
    (pushed_record Additional w d, rw (draft_steps.refusals.room (counts_in d).additional d (record_size w) below room.free) refl)

-- what is answered where each question is read, and where one is not
abbrev IsServed : Bool → Result (List ℕ) Error → Type 0
IsServed read (Ok octets) = read ≡ true
IsServed read (Err e) = (e ≡ MessageParseError) × (read ≡ false)

finishing : (opt : Option OptFields) (header : List ℕ) (read : Bool) (copied : Copied) → IsOpen read copied → IsServed read (message_of (copied >> adds_opt opt >> (λ all. Ok (with_header header all))))
finishing opt header read (Ok d) h =
    let pushed = opt_pushed opt d h.0 in
    let P : Copied → Type 0 = λ a. IsServed read (message_of (a >> (λ all. Ok (with_header header all)))) in
    subst P (sym pushed.1) h.1
finishing opt header read (Err (Parse e)) h = (refl, h)
finishing opt header read (Err (Push e)) h = absurd h

fresh_room : (n : ℕ) → n < 65536 → HasRoom (fresh None) n
fresh_room n few =
    let counts : counts_in (fresh None) ≡ no_entries = draft_steps.counts.fresh None in
    let questions : (counts_in (fresh None)).questions ≡ 0 = ap (λ c. c.questions) counts in
    record {
      free = draft_steps.limits.fresh None;
      few = omega (arith, questions, few);
      none = ap (λ c. c.additional) counts;
    }

served : (octets : List ℕ) → length (question_items octets) < 65536 → IsServed (reads_questions octets) (serve_failed octets)
unfolding serve_failed
served octets few =
    finishing (option_map plain_opt (opt_of octets)) (failing (header_of octets)) (reads_questions octets)
    (each asks (question_items octets) (fresh None)) (questions_open (question_items octets) (fresh None) (fresh_room (length (question_items octets)) few))

-- each question is read where there is an answer
pub read_where_served : (octets : List ℕ) (result : Result (List ℕ) Error) → length (question_items octets) < 65536 → IsComposed (serve_failed octets) result
    → OnOk result (reads_questions octets ≡ true)
read_where_served octets (Ok m) few h = subst (IsServed (reads_questions octets)) h (served octets few)
read_where_served octets (Err e) few h = tt

-- a question is not read where there is none
pub unread_where_refused : (octets : List ℕ) (result : Result (List ℕ) Error) → length (question_items octets) < 65536 → IsComposed (serve_failed octets) result
    → IfErr result (λ e. (e ≡ NoMemory) ⊎ ((e ≡ MessageParseError) × (reads_questions octets ≡ false)))
unread_where_refused octets (Ok m) few h = tt
unread_where_refused octets (Err e) few (inl h) = inl h
unread_where_refused octets (Err e) few (inr h) = inr (subst (IsServed (reads_questions octets)) h (served octets few))
