-- Where the questions of a base are read and no section counts a record, no section has one.
use Rattle.std.proofs.Common.{◌≡◌, ℕ, zero, suc, true, refl, ap, ◌∙◌, List, [], ◌∷◌}
use Rattle.std.specs.Prelude.{Option, Some, None, Result, Ok, Err, is_some}
use Rattle.dns_values.specs.declared.error.ParseError.{ParseError}
use Rattle.dns_values.specs.declared.numbers.Section.TheVariants.{Answer, Authority, Additional}
use Rattle.dns_base.specs.Numbers.{u16_at, ◌>>=◌}
use Rattle.dns_base.specs.Answering.{question_items}
use Rattle.dns_base.specs.Draft.{Draft}
use Rattle.dns_base.specs.Header.{Counts, counts_of}
use Rattle.dns_base.specs.Message.{Asked, question_at, record_at, list_at, item_then, items_at, items_behind, questions_of, answer_of, authority_of, answer_items, authority_items, additional_items}
use Rattle.dns_base.specs.Sections.{HasNoRecords}
use Rattle.client_request.specs.declared.error.CopyRecordsError.{CopyRecordsError}
use Rattle.client_request.specs.Composed.{◌>>◌, each, each_found, copies_section, copies_records}
use Rattle.client_request.specs.Counted.{counts_found, counts_section, counts_records}

-- Where each item of a list was taken, the list is read.

read_on : {A D : Type 0} (x : A) (rest : D → Result D CopyRecordsError) (list : Option (List A × ℕ)) (d : D) → ((e : D) → rest e ≡ Ok d → is_some list ≡ true)
    → (r : Result D CopyRecordsError) → (r >> rest) ≡ Ok d → is_some {T = List A × ℕ} (list >>= λ others. Some (x ∷ others.0, others.1)) ≡ true
read_on x rest None d h (Ok e) is = h e is
read_on x rest (Some others) d h (Ok e) is = refl
read_on x rest list d h (Err e) is = absurd cc

read_first : {A D : Type 0} (step : A → D → Result D CopyRecordsError) (items : ℕ → List (Result A ParseError)) (list : ℕ → Option (List A × ℕ)) (d : D)
    → ((at : ℕ) (e : D) → each step (items at) e ≡ Ok d → is_some (list at) ≡ true)
    → (o : Option (A × ℕ)) (e : D) → each step (item_then items o) e ≡ Ok d → is_some {T = List A × ℕ} (o >>= λ first. list first.1 >>= λ others. Some (first.0 ∷ others.0, others.1)) ≡ true
read_first step items list d h None e is = absurd cc
read_first step items list d h (Some (x, end)) e is = read_on x (each step (items end)) (list end) d (h end) (step x e) is

read_through : {A D : Type 0} (one : ℕ → Option (A × ℕ)) (step : A → D → Result D CopyRecordsError) (d : D) (n at : ℕ) (e : D) → each step (items_at one n at) e ≡ Ok d → is_some (list_at one n at) ≡ true
unfolding items_at list_at
read_through one step d zero at e is = refl
read_through one step d (suc n) at e is = read_first step (λ end. items_at one n end) (λ end. list_at one n end) d (read_through one step d n) (one at) e is

pub questions_read : {D : Type 0} (octets : List ℕ) (step : Asked → D → Result D CopyRecordsError) (e d : D) → each step (question_items octets) e ≡ Ok d → is_some (questions_of octets) ≡ true
unfolding questions_of
questions_read octets step e d is = read_through (question_at octets) step d (u16_at octets 4) 12 e is

-- Where a list is read, so is one of no items behind it, and nothing is met there.

none_met : {A : Type 0} (octets : List ℕ) (count : ℕ) (before : Option (List A × ℕ)) → count ≡ 0 → is_some before ≡ true → items_behind octets count before ≡ Some []
unfolding items_at
none_met octets count None zero_ is = absurd cc
none_met octets count (Some x) zero_ is = ap (λ n. Some (items_at (record_at octets) n x.1)) zero_

none_read : {A : Type 0} (octets : List ℕ) (count : ℕ) (before : Option (List A × ℕ)) → count ≡ 0 → is_some before ≡ true
    → is_some (before >>= λ found. list_at (record_at octets) count found.1) ≡ true
unfolding list_at
none_read octets count None zero_ is = absurd cc
none_read octets count (Some x) zero_ is = ap (λ n. is_some (list_at (record_at octets) n x.1)) zero_

record HasNone (octets : List ℕ) : Type 0 where
  pub answer : answer_items octets ≡ Some []
  pub authority : authority_items octets ≡ Some []
  pub additional : additional_items octets ≡ Some []

has_none : (octets : List ℕ) → HasNoRecords (counts_of octets) → is_some (questions_of octets) ≡ true → HasNone octets
unfolding answer_items authority_items additional_items answer_of authority_of
has_none octets counted read =
    let answer : is_some (answer_of octets) ≡ true = none_read octets (u16_at octets 6) (questions_of octets) counted.0 read in
    let authority : is_some (authority_of octets) ≡ true = none_read octets (u16_at octets 8) (answer_of octets) counted.1 answer in
    record {
      answer = none_met octets (u16_at octets 6) (questions_of octets) counted.0 read;
      authority = none_met octets (u16_at octets 8) (answer_of octets) counted.1 answer;
      additional = none_met octets (u16_at octets 10) (authority_of octets) counted.2 authority;
    }

pub copies_none : (base : List ℕ) (d : Draft) → HasNoRecords (counts_of base) → is_some (questions_of base) ≡ true → copies_records base d ≡ Ok d
copies_none base d counted read =
    let none = has_none base counted read in
    ap (λ o. each_found Answer o d >> copies_section Authority base >> copies_section Additional base) none.answer
    ∙ (ap (λ o. each_found Authority o d >> copies_section Additional base) none.authority ∙ ap (λ o. each_found Additional o d) none.additional)

pub counts_none : (base : List ℕ) (counts : Counts) → HasNoRecords (counts_of base) → is_some (questions_of base) ≡ true → counts_records base counts ≡ Ok counts
counts_none base counts counted read =
    let none = has_none base counted read in
    ap (λ o. counts_found Answer o counts >> counts_section Authority base >> counts_section Additional base) none.answer
    ∙ (ap (λ o. counts_found Authority o counts >> counts_section Additional base) none.authority ∙ ap (λ o. counts_found Additional o counts) none.additional)
