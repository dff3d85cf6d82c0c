-- Counting the entries of a request tells whether it can be composed.
use Rattle.std.proofs.Common.{◌≡◌, ℕ, ◌∙◌, refl, sym, subst, ap, List, [], ◌∷◌, Bool, true, false}
use Rattle.std.specs.Prelude.{◌==◌, if◌then◌else◌, Option, Some, None, Result, Ok, Err}
use Rattle.std.proofs.lemmas.Bool.{eqb-true, eqb-false}
use Rattle.dns_values.specs.declared.error.ParseError.{ParseError}
use Rattle.dns_values.specs.declared.numbers.Section.{Section}
use Rattle.dns_values.specs.declared.numbers.Section.TheVariants.{Answer, Authority, Additional}
use Rattle.dns_base.specs.declared.push_error.PushError.{PushError}
use Rattle.dns_base.specs.declared.push_error.PushError.TheVariants.{Count}
use Rattle.dns_base.specs.Answering.{question_items}
use Rattle.dns_base.specs.Header.{Counts}
use Rattle.dns_base.specs.Message.{Asked, Known, Written}
use Rattle.dns_base.specs.OptRecord.{OptFields}
use Rattle.dns_base.specs.Sections.{no_entries, one_question_more, entries_in, one_more_in}
use Rattle.dns_base.specs.Draft.{Draft, fresh, with_header, pushed_question, pushed_record, counts_in, limit_of, question_size, record_size, refusal}
use Rattle.dns_base.proofs.Steps.{draft_steps}
use Rattle.client_request.specs.declared.error.Error.{Error}
use Rattle.client_request.specs.declared.error.CopyRecordsError.{CopyRecordsError}
use Rattle.client_request.specs.declared.error.CopyRecordsError.TheVariants.{Push}
use Rattle.client_request.specs.Request.{Request, opt_written}
use Rattle.client_request.specs.Composed.{Copied, ◌>>◌, unless, asks, adds, copies, each, each_found, is_replaced, section_items, copies_section, adds_opt, copies_all, written_from, appended, message_of, error_of, composed}
use Rattle.client_request.specs.Composing.{without_message}
use Rattle.client_request.specs.Counted.{Counted, counts_question, counts_record, counts_known, counts_found, counts_section, counts_opt, counts_all, verdict_of}

-- The draft has these counts and no limit, or both were refused alike.
Tells : Copied → Counted → Type 0
Tells (Ok d) (Ok counts) = (counts_in d ≡ counts) × (limit_of d ≡ None)
Tells (Err e) (Err f) = e ≡ f
Tells (Ok d) (Err f) = ⊥
Tells (Err e) (Ok counts) = ⊥

then_tells : (a : Copied) (b : Counted) (f : Draft → Copied) (g : Counts → Counted) → Tells a b → ((d : Draft) → limit_of d ≡ None → Tells (f d) (g (counts_in d))) → Tells (a >> f) (b >> g)
unfolding Tells
then_tells (Ok d) (Ok counts) f g h step = subst (λ (c : Counts). Tells (f d) (g c)) h.0 (step d h.1)
then_tells (Err e) (Err x) f g h step = h
then_tells (Ok d) (Err x) f g h step = absurd h
then_tells (Err e) (Ok counts) f g h step = absurd h

each_tells : {A : Type 0} (f : A → Draft → Copied) (g : A → Counts → Counted) → ((x : A) (d : Draft) → limit_of d ≡ None → Tells (f x d) (g x (counts_in d))) → (items : List (Result A ParseError)) (d : Draft) → limit_of d ≡ None → Tells (each f items d) (each g items (counts_in d))
unfolding Tells
each_tells f g one [] d free = (refl, free)
each_tells f g one (Ok x ∷ items) d free = then_tells (f x d) (g x (counts_in d)) (each f items) (each g items) (one x d free) (λ e still. each_tells f g one items e still)
each_tells f g one (Err e ∷ items) d free = refl

pushed_tells : (b : Bool) (o : Option PushError) (d : Draft) (counts : Counts) → (b ≡ true → o ≡ Some Count) → (b ≡ false → o ≡ None) → counts_in d ≡ counts → limit_of d ≡ None → Tells (unless o d) (if b then Err (Push Count) else Ok counts)
unfolding Tells
pushed_tells true o d counts full room is free = subst (λ (p : Option PushError). Tells (unless p d) (Err (Push Count))) (sym (full refl)) refl
pushed_tells false o d counts full room is free = subst (λ (p : Option PushError). Tells (unless p d) (Ok counts)) (sym (room refl)) (is, free)

question_tells : (q : Asked) (d : Draft) → limit_of d ≡ None → Tells (asks q d) (counts_question q (counts_in d))
question_tells q d free =
    pushed_tells ((counts_in d).questions == 65535) (refusal (counts_in d).questions d (question_size q)) (pushed_question q d) (one_question_more (counts_in d))
    (λ e. draft_steps.refusals.full (counts_in d).questions d (question_size q) (eqb-true (counts_in d).questions 65535 e))
    (λ e. draft_steps.refusals.room (counts_in d).questions d (question_size q) (eqb-false (counts_in d).questions 65535 e) free)
    (draft_steps.counts.question q d) (draft_steps.limits.question q d ∙ free)

record_tells : (section : Section) (w : Written) (d : Draft) → limit_of d ≡ None → Tells (adds section w d) (counts_record section (counts_in d))
record_tells section w d free =
    let n = entries_in section (counts_in d) in
    pushed_tells (n == 65535) (refusal n d (record_size w)) (pushed_record section w d) (one_more_in section (counts_in d))
    (λ e. draft_steps.refusals.full n d (record_size w) (eqb-true n 65535 e))
    (λ e. draft_steps.refusals.room n d (record_size w) (eqb-false n 65535 e) free)
    (draft_steps.counts.any_record section w d) (draft_steps.limits.any_record section w d ∙ free)

known_or_replaced : (b : Bool) (d : Draft) (a : Copied) (c : Counted) → limit_of d ≡ None → Tells a c → Tells (if b then Ok d else a) (if b then Ok (counts_in d) else c)
unfolding Tells
known_or_replaced true d a c free h = (refl, free)
known_or_replaced false d a c free h = h

known_tells : (section : Section) (known : Known) (d : Draft) → limit_of d ≡ None → Tells (copies section known d) (counts_known section known (counts_in d))
known_tells section known d free =
    known_or_replaced (is_replaced section known) d (adds section (written_from known) d) (counts_record section (counts_in d)) free (record_tells section (written_from known) d free)

found_tells : (section : Section) (o : Option (List (Result Known ParseError))) (d : Draft) → limit_of d ≡ None → Tells (each_found section o d) (counts_found section o (counts_in d))
unfolding Tells
found_tells section None d free = refl
found_tells section (Some items) d free = each_tells (copies section) (counts_known section) (known_tells section) items d free

opt_tells : (opt : Option OptFields) (d : Draft) → limit_of d ≡ None → Tells (adds_opt opt d) (counts_opt opt (counts_in d))
unfolding Tells
opt_tells None d free = (refl, free)
opt_tells (Some opt) d free = record_tells Additional (opt_written opt) d free

all_tell : (base : List ℕ) (opt : Option OptFields) (d : Draft) → limit_of d ≡ None → Tells (copies_all base opt d) (counts_all base opt (counts_in d))
all_tell base opt d free =
    let questions = each_tells asks counts_question question_tells (question_items base) d free in
    let answer = then_tells _ _ (copies_section Answer base) (counts_section Answer base) questions (λ e still. found_tells Answer (section_items Answer base) e still) in
    let authority = then_tells _ _ (copies_section Authority base) (counts_section Authority base) answer (λ e still. found_tells Authority (section_items Authority base) e still) in
    let additional = then_tells _ _ (copies_section Additional base) (counts_section Additional base) authority (λ e still. found_tells Additional (section_items Additional base) e still) in
    then_tells _ _ (adds_opt opt) (counts_opt opt) additional (opt_tells opt)

told : (a : Copied) (b : Counted) (header : List ℕ) → Tells a b → verdict_of b ≡ without_message (message_of (a >> (λ all. Ok (with_header header all))))
unfolding Tells
told (Ok d) (Ok counts) header h = refl
told (Err e) (Err f) header h =
    let refused : CopyRecordsError → Result (Unit {0}) Error = λ x. Err (error_of x) in
    ap refused (sym h)
told (Ok d) (Err f) header h = absurd h
told (Err e) (Ok counts) header h = absurd h

-- what counting tells is whether a message comes of a request
pub verdict_of-counts_all : (r : Request) → verdict_of (counts_all r.base r.opt no_entries) ≡ without_message (composed r)
unfolding composed appended
verdict_of-counts_all r =
    let counted = subst (λ (c : Counts). Tells (copies_all r.base r.opt (fresh None)) (counts_all r.base r.opt c)) (draft_steps.counts.fresh None) (all_tell r.base r.opt (fresh None) (draft_steps.limits.fresh None)) in
    told (copies_all r.base r.opt (fresh None)) (counts_all r.base r.opt no_entries) r.header counted

-- the same, where the entries were counted from none
pub verdict : (r : Request) (counts : Counts) (counted : Counted) → counts ≡ no_entries → counts_all r.base r.opt counts ≡ counted → verdict_of counted ≡ without_message (composed r)
verdict r counts counted none is = ap verdict_of (sym is ∙ ap (counts_all r.base r.opt) none) ∙ verdict_of-counts_all r
