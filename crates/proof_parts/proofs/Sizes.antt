-- A message that is composed has no more octets than its entries take with their names spelled out.
use Rattle.std.proofs.Common.{◌≡◌, ℕ, ◌+◌, ◌≤◌, Bool, true, false, List, [], ◌∷◌, ◌++◌, length, refl, sym, subst, ◌∙◌, arith}
use Rattle.std.specs.Prelude.{Option, Some, None, Result, Ok, Err, option_map, option_and_then, if◌then◌else◌}
use Rattle.std.specs.List.{sum_by}
use Rattle.std.proofs.lemmas.List.Sums.{sum_by-append, sum_by-cons}
use Rattle.dns_values.specs.declared.error.ParseError.{ParseError}
use Rattle.dns_values.specs.declared.numbers.Section.{Section}
use Rattle.dns_values.specs.declared.numbers.Section.TheVariants.{Answer, Authority, Additional}
use Rattle.dns_base.specs.declared.push_error.PushError.{PushError}
use Rattle.dns_base.specs.Message.{Asked, Known, Written, all_read}
use Rattle.dns_base.specs.Answering.{question_items}
use Rattle.dns_base.specs.OptRecord.{OptFields}
use Rattle.dns_base.specs.Holding.{Contents}
use Rattle.dns_base.specs.Draft.{Draft, fresh, with_header, finished, size, question_size, record_size}
use Rattle.dns_base.proofs.Steps.{draft_steps}
use Rattle.client_request.specs.Request.{Request, opt_written}
use Rattle.client_request.specs.Composed.{Copied, ◌>>◌, unless, asks, adds, copies, each, each_found, copies_section, section_items, adds_opt, copies_all, written_from, is_replaced, appended, message_of, composed}
use Rattle.client_request.specs.Carries.{sent_from, records_of, opt_records}

then_done : (a : Copied) (next : Draft → Copied) (d : Draft) → a >> next ≡ Ok d → (e : Draft) × (a ≡ Ok e) × (next e ≡ Ok d)
then_done (Ok e) next d h = (e, refl, h)
then_done (Err x) next d h = absurd cc

not_refused : (o : Option PushError) (a d : Draft) → unless o a ≡ Ok d → a ≡ d
not_refused None a d h = cc
not_refused (Some e) a d h = absurd cc

-- no fewer octets than before, and no more than so many more
pub record Grows (d e : Draft) (n : ℕ) : Type 0 where
  pub least : size d ≤ size e
  pub most : size e ≤ size d + n

stays : (d e : Draft) → d ≡ e → Grows d e 0
stays d e is = subst (λ e. Grows d e 0) is (record { least = omega arith; most = omega arith })

grows_then : (d e f : Draft) (n m : ℕ) → Grows d e n → Grows e f m → Grows d f (n + m)
grows_then d e f n m a b = record { least = omega (arith, a.least, b.least); most = omega (arith, a.most, b.most) }

question_grows : (q : Asked) (d e : Draft) → asks q d ≡ Ok e → Grows d e (question_size q)
question_grows q d e h = subst (λ e. Grows d e (question_size q)) (not_refused _ _ e h) (record { least = draft_steps.sizes.question q d; most = draft_steps.sizes.question_at_most q d })

record_grows : (section : Section) (w : Written) (d e : Draft) → adds section w d ≡ Ok e → Grows d e (record_size w)
record_grows section w d e h = subst (λ e. Grows d e (record_size w)) (not_refused _ _ e h) (record { least = draft_steps.sizes.any_record section w d; most = draft_steps.sizes.record_at_most section w d })

questions_grow : (items : List (Result Asked ParseError)) (d e : Draft) (qs : List Asked) → each asks items d ≡ Ok e → all_read items ≡ Some qs → Grows d e (sum_by question_size qs)
questions_grow [] d e qs h read = let q : [] ≡ qs = cc in subst (λ qs. Grows d e (sum_by question_size qs)) q (stays d e cc)
questions_grow (Err x ∷ items) d e qs h read = absurd (cc)
questions_grow (Ok q ∷ items) d e qs h read = by (all_read items) refl read (questions_grow items)
  where
    by : (o : Option (List Asked)) → all_read items ≡ o → option_map (λ xs. q ∷ xs) o ≡ Some qs → ((d e : Draft) (qs : List Asked) → each asks items d ≡ Ok e → all_read items ≡ Some qs → Grows d e (sum_by question_size qs)) → Grows d e (sum_by question_size qs)
    by None is read ih = absurd (cc)
    by (Some more) is read ih =
        let qs' : q ∷ more ≡ qs = cc in
        let t = then_done (asks q d) (each asks items) e h in
        subst (λ qs. Grows d e (sum_by question_size qs)) qs' (subst (Grows d e) (sym (sum_by-cons question_size q more)) (grows_then d t.0 e (question_size q) (sum_by question_size more) (question_grows q d t.0 t.1) (ih t.0 e more t.2 is)))

sent_one : (section : Section) (known : Known) (others : List Known) (b : Bool) → is_replaced section known ≡ b → sent_from section (known ∷ others) ≡ (if b then sent_from section others else written_from known ∷ sent_from section others)
sent_one section known others true is = rw is refl
sent_one section known others false is = rw is refl

records_grow : (section : Section) (items : List (Result Known ParseError)) (d e : Draft) (ks : List Known) → each (copies section) items d ≡ Ok e → all_read items ≡ Some ks → Grows d e (sum_by record_size (sent_from section ks))
records_grow section [] d e ks h read = let k : [] ≡ ks = cc in subst (λ ks. Grows d e (sum_by record_size (sent_from section ks))) k (stays d e cc)
records_grow section (Err x ∷ items) d e ks h read = absurd (cc)
records_grow section (Ok known ∷ items) d e ks h read = by (all_read items) refl read (records_grow section items)
  where
    by : (o : Option (List Known)) → all_read items ≡ o → option_map (λ xs. known ∷ xs) o ≡ Some ks → ((d e : Draft) (ks : List Known) → each (copies section) items d ≡ Ok e → all_read items ≡ Some ks → Grows d e (sum_by record_size (sent_from section ks))) → Grows d e (sum_by record_size (sent_from section ks))
    by None is read ih = absurd (cc)
    by (Some more) is read ih =
        let ks' : known ∷ more ≡ ks = cc in
        let t = then_done (copies section known d) (each (copies section) items) e h in
        let rest = ih t.0 e more t.2 is in
        subst (λ ks. Grows d e (sum_by record_size (sent_from section ks))) ks' (one (is_replaced section known) refl t.0 t.1 rest)
      where
        one : (b : Bool) → is_replaced section known ≡ b → (m : Draft) → copies section known d ≡ Ok m → Grows m e (sum_by record_size (sent_from section more)) → Grows d e (sum_by record_size (sent_from section (known ∷ more)))
        one true b m at rest =
            let same : d ≡ m = let x : Ok d ≡ copies section known d = rw b refl in let y : Ok d ≡ Ok m = x ∙ at in cc in
            subst (λ ws. Grows d e (sum_by record_size ws)) (sym (sent_one section known more true b)) (subst (λ d. Grows d e (sum_by record_size (sent_from section more))) (sym same) rest)
        one false b m at rest =
            let x : adds section (written_from known) d ≡ Ok m = (let y : adds section (written_from known) d ≡ copies section known d = rw b refl in y ∙ at) in
            subst (λ ws. Grows d e (sum_by record_size ws)) (sym (sent_one section known more false b)) (subst (Grows d e) (sym (sum_by-cons record_size (written_from known) (sent_from section more))) (grows_then d m e (record_size (written_from known)) (sum_by record_size (sent_from section more)) (record_grows section (written_from known) d m x) rest))

section_grows : (section : Section) (base : List ℕ) (d e : Draft) (ks : List Known) → copies_section section base d ≡ Ok e → records_of section base ≡ Some ks → Grows d e (sum_by record_size (sent_from section ks))
section_grows section base d e ks h read = by (section_items section base) refl h read
  where
    by : (o : Option (List (Result Known ParseError))) → section_items section base ≡ o → each_found section o d ≡ Ok e → option_and_then all_read o ≡ Some ks → Grows d e (sum_by record_size (sent_from section ks))
    by None is h read = absurd (cc)
    by (Some items) is h read = records_grow section items d e ks h read

opt_grows : (opt : Option OptFields) (d e : Draft) → adds_opt opt d ≡ Ok e → Grows d e (sum_by record_size (opt_records opt))
opt_grows None d e h = stays d e cc
opt_grows (Some opt) d e h = let g = record_grows Additional (opt_written opt) d e h in record { least = g.least; most = omega (arith, g.most) }

-- what is read of a base
pub record Entries (base : List ℕ) : Type 0 where
  pub questions : List Asked
  pub answer : List Known
  pub authority : List Known
  pub additional : List Known
  pub asked : all_read (question_items base) ≡ Some questions
  pub answered : records_of Answer base ≡ Some answer
  pub authorized : records_of Authority base ≡ Some authority
  pub added : records_of Additional base ≡ Some additional

-- the contents of a message of these and an OPT record
abbrev pub contents_with : {base : List ℕ} → Entries base → Option OptFields → Contents
contents_with x opt = record {
  questions = x.questions;
  answer = sent_from Answer x.answer;
  authority = sent_from Authority x.authority;
  additional = sent_from Additional x.additional ++ opt_records opt;
}

abbrev pub spelled : Contents → ℕ
spelled c = 12 + (sum_by question_size c.questions + (sum_by record_size c.answer + (sum_by record_size c.authority + sum_by record_size c.additional)))

all_grow : (base : List ℕ) (opt : Option OptFields) (x : Entries base) (e : Draft) → copies_all base opt (fresh None) ≡ Ok e → (12 ≤ size e) × (size e ≤ spelled (contents_with x opt))
all_grow base opt x e h =
    let d = fresh None in
    let o = then_done (each asks (question_items base) d >> copies_section Answer base >> copies_section Authority base >> copies_section Additional base) (adds_opt opt) e h in
    let s = then_done (each asks (question_items base) d >> copies_section Answer base >> copies_section Authority base) (copies_section Additional base) o.0 o.1 in
    let u = then_done (each asks (question_items base) d >> copies_section Answer base) (copies_section Authority base) s.0 s.1 in
    let a = then_done (each asks (question_items base) d) (copies_section Answer base) u.0 u.1 in
    let gq = questions_grow (question_items base) d a.0 x.questions a.1 x.asked in
    let ga = section_grows Answer base a.0 u.0 x.answer a.2 x.answered in
    let gu = section_grows Authority base u.0 s.0 x.authority u.2 x.authorized in
    let gx = section_grows Additional base s.0 o.0 x.additional s.2 x.added in
    let go = opt_grows opt o.0 e o.2 in
    let first = draft_steps.sizes.fresh None in
    let both = sum_by-append record_size (sent_from Additional x.additional) (opt_records opt) in
    (omega (arith, first, gq.least, ga.least, gu.least, gx.least, go.least), omega (arith, both, first, gq.most, ga.most, gu.most, gx.most, go.most))

pub composed_size : (r : Request) (x : Entries r.base) (octets : List ℕ) → length r.header ≡ 4 → composed r ≡ Ok octets → length octets ≤ spelled (contents_with x r.opt)
unfolding composed appended
composed_size r x octets four h = by (copies_all r.base r.opt (fresh None)) refl h
  where
    by : (o : Copied) → copies_all r.base r.opt (fresh None) ≡ o → message_of (o >> (λ all. Ok (with_header r.header all))) ≡ Ok octets → length octets ≤ spelled (contents_with x r.opt)
    by (Err e) is h = absurd (cc)
    by (Ok d) is h =
        let g = all_grow r.base r.opt x d is in
        let w : finished (with_header r.header d) ≡ octets = cc in
        let s = draft_steps.sizes.header r.header d four g.0 in
        let f = draft_steps.sizes.finished (with_header r.header d) (omega (arith, s, g.0)) in
        subst (λ o. length o ≤ spelled (contents_with x r.opt)) w (omega (arith, f, s, g.1))
