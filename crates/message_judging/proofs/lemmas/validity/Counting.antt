-- What a walk counts of a base is how many entries it has, and how many octets these have, up to 65536.
use Rattle.std.proofs.Common.{◌≡◌, ℕ, suc, ◌+◌, Bool, true, false, nat_lt, nat_le, List, [], ◌∷◌, length, refl, sym, ◌∙◌, subst, arith}
use Rattle.std.specs.Prelude.{Option, Some, None, Result, Ok, Err, option_map, option_and_then, sum_by, if◌then◌else◌}
use Rattle.std.proofs.lemmas.Bool.Decides.{nat_tests}
use Rattle.std.proofs.lemmas.List.Sums.{sum_by-cons}
use Rattle.dns_values.specs.declared.error.ParseError.{ParseError}
use Rattle.dns_values.specs.declared.numbers.Section.{Section}
use Rattle.dns_base.specs.Message.{Asked, Known, all_read}
use Rattle.dns_base.specs.Draft.{question_size, record_size}
use Rattle.client_request.specs.Composed.{section_items, written_from, is_replaced}
use Rattle.client_request.specs.Carries.{sent_from, records_of}
use Rattle.message_judging.specs.declared.validity.sizes.Size.{Size}
use Rattle.message_judging.specs.validity.Sizes.{most, more, with_question, with_record, with_sent, questions_behind, records_behind, records_found, section_behind}

pub over : (a b : ℕ) → most a ≡ most b → nat_lt 65535 a ≡ nat_lt 65535 b
over a b e = grind (arith, nat_tests)

pub within : (a b c : ℕ) → most a ≡ most b → nat_le (a + c) 65535 ≡ nat_le (b + c) 65535
within a b c e = grind (arith, nat_tests)

-- a size counts so many entries, which have so many octets
pub record Counts (entries octets : ℕ) (x : Size) : Type 0 where
  pub entries_are : most x.entries ≡ most entries
  pub octets_are : most x.octets ≡ most octets

one_more : (n a b : ℕ) (x : Size) → Counts a b x → Counts (a + 1) (b + n) (more n x)
one_more n a b x k = record { entries_are = first x.entries a k.entries_are; octets_are = second x.octets b k.octets_are }
  where
    first : (u v : ℕ) → most u ≡ most v → most (most (most u + 1)) ≡ most (v + 1)
    first u v e = grind (arith, nat_tests)

    second : (u v : ℕ) → most u ≡ most v → most (most (most u + most n)) ≡ most (v + n)
    second u v e = grind (arith, nat_tests)

-- questions
pub with_questions : List Asked → Size → Size
with_questions [] x = x
with_questions (q ∷ qs) x = with_questions qs (with_question q x)

pub questions_read : (items : List (Result Asked ParseError)) (x : Size) → questions_behind items x ≡ option_map (λ qs. with_questions qs x) (all_read items)
unfolding with_questions
questions_read [] x = refl
questions_read (Err e ∷ items) x = refl
questions_read (Ok q ∷ items) x = questions_read items (with_question q x) ∙ go (all_read items)
  where
    go : (o : Option (List Asked)) → option_map (λ qs. with_questions qs (with_question q x)) o ≡ option_map (λ qs. with_questions qs x) (option_map (λ qs. q ∷ qs) o)
    go None = refl
    go (Some qs) = refl

pub questions_counted : (qs : List Asked) (a b : ℕ) (x : Size) → Counts a b x → Counts (a + length qs) (b + sum_by question_size qs) (with_questions qs x)
unfolding with_questions
questions_counted [] a b x k = subst (λ n. Counts n (b + 0) x) (let e : a ≡ a + 0 = omega arith in e) (subst (λ n. Counts a n x) (let e : b ≡ b + 0 = omega arith in e) k)
questions_counted (q ∷ qs) a b x k =
    let ih = questions_counted qs (a + 1) (b + question_size q) (with_question q x) (one_more (question_size q) a b x k) in
    let l : (a + 1) + length qs ≡ a + suc (length qs) = omega arith in
    let s = sum_by-cons question_size q qs in
    let m : (b + question_size q) + sum_by question_size qs ≡ b + sum_by question_size (q ∷ qs) = omega (arith, s) in
    subst (λ n. Counts n (b + sum_by question_size (q ∷ qs)) (with_questions qs (with_question q x))) l (subst (λ n. Counts ((a + 1) + length qs) n (with_questions qs (with_question q x))) m ih)

-- records
pub with_records : Section → List Known → Size → Size
with_records s [] x = x
with_records s (k ∷ ks) x = with_records s ks (with_sent s k x)

records_read : (s : Section) (items : List (Result Known ParseError)) (x : Size) → records_behind s items x ≡ option_map (λ ks. with_records s ks x) (all_read items)
unfolding with_records
records_read s [] x = refl
records_read s (Err e ∷ items) x = refl
records_read s (Ok k ∷ items) x = records_read s items (with_sent s k x) ∙ go (all_read items)
  where
    go : (o : Option (List Known)) → option_map (λ ks. with_records s ks (with_sent s k x)) o ≡ option_map (λ ks. with_records s ks x) (option_map (λ ks. k ∷ ks) o)
    go None = refl
    go (Some ks) = refl

pub section_read : (s : Section) (base : List ℕ) (n : ℕ) → section_behind s base n ≡ option_map (λ ks. with_records s ks (record { entries = 0; octets = n })) (records_of s base)
section_read s base n = go (section_items s base)
  where
    go : (o : Option (List (Result Known ParseError))) → records_found s (record { entries = 0; octets = n }) o ≡ option_map (λ ks. with_records s ks (record { entries = 0; octets = n })) (option_and_then all_read o)
    go None = refl
    go (Some items) = records_read s items (record { entries = 0; octets = n })

sent_one : (s : Section) (k : Known) (ks : List Known) (b : Bool) → is_replaced s k ≡ b → sent_from s (k ∷ ks) ≡ (if b then sent_from s ks else written_from k ∷ sent_from s ks)
sent_one s k ks true e = rw e refl
sent_one s k ks false e = rw e refl

pub records_counted : (s : Section) (ks : List Known) (a b : ℕ) (x : Size) → Counts a b x → Counts (a + length (sent_from s ks)) (b + sum_by record_size (sent_from s ks)) (with_records s ks x)
unfolding with_records
records_counted s [] a b x k = subst (λ n. Counts n (b + 0) x) (let e : a ≡ a + 0 = omega arith in e) (subst (λ n. Counts a n x) (let e : b ≡ b + 0 = omega arith in e) k)
records_counted s (r ∷ rs) a b x k = go (is_replaced s r) refl (records_counted s rs)
  where
    go : (c : Bool) → is_replaced s r ≡ c → ((a b : ℕ) (x : Size) → Counts a b x → Counts (a + length (sent_from s rs)) (b + sum_by record_size (sent_from s rs)) (with_records s rs x))
        → Counts (a + length (sent_from s (r ∷ rs))) (b + sum_by record_size (sent_from s (r ∷ rs))) (with_records s rs (if c then x else with_record r x))
    go true i ih = subst (λ ws. Counts (a + length ws) (b + sum_by record_size ws) (with_records s rs x)) (sym (sent_one s r rs true i)) (ih a b x k)
    go false i ih =
        let w = written_from r in
        let ws = sent_from s rs in
        let y = with_records s rs (with_record r x) in
        let more = ih (a + 1) (b + record_size w) (with_record r x) (one_more (record_size w) a b x k) in
        let l : (a + 1) + length ws ≡ a + suc (length ws) = omega arith in
        let t = sum_by-cons record_size w ws in
        let m : (b + record_size w) + sum_by record_size ws ≡ b + sum_by record_size (w ∷ ws) = omega (arith, t) in
        subst (λ ws. Counts (a + length ws) (b + sum_by record_size ws) y) (sym (sent_one s r rs false i))
        (subst (λ n. Counts n (b + sum_by record_size (w ∷ ws)) y) l (subst (λ n. Counts ((a + 1) + length ws) n y) m more))
