-- What is found of a request by counting is what the definitions say of it.
use Rattle.std.proofs.Common.{◌≡◌, ℕ, ◌+◌, ◌≤◌, ◌&&◌, ◌||◌, true, false, not, nat_lt, nat_le, List, [], ◌∷◌, ◌++◌, length, refl, sym, ap, ap₂, ◌∙◌, subst, arith, map, sum}
use Rattle.std.specs.Prelude.{Option, Some, None, option_map, is_some, sum_by}
use Rattle.std.specs.Option.{option_map_or}
use Rattle.std.proofs.lemmas.Bool.Decides.{nat_tests}
use Rattle.std.proofs.lemmas.List.{length-append}
use Rattle.std.proofs.lemmas.List.Sums.{sum_by-cons, sum_by-append, sum-map}
use Rattle.dns_values.specs.declared.numbers.Section.{Section}
use Rattle.dns_values.specs.declared.numbers.Section.TheVariants.{Answer, Authority, Additional}
use Rattle.dns_names.proofs.Heads.{then_ok}
use Rattle.dns_base.specs.Message.{Asked, Known, Written, Reading, reads, all_read}
use Rattle.dns_base.specs.{Answering.question_items, Holding.Contents}
use Rattle.dns_base.specs.Draft.{question_size, record_size}
use Rattle.dns_base.proofs.Readings.{reading_laws}
use Rattle.client_request.specs.Request.{Request, with_payload_size, with_option, opt_or_empty, option_octets, opt_written, option_added}
use Rattle.client_request.specs.Carries.{contents_of, records_of, sent_from, opt_records}
use Rattle.right_trace.specs.Messages.{base_is_read, passes_count, fits, is_valid, has_too_many as passes, size_of}
use Rattle.right_trace.specs.Keys.{is_cacheable}
use Rattle.message_judging.specs.declared.validity.sizes.{Size.Size, BaseSize.BaseSize}
use Rattle.message_judging.specs.validity.Sizes.{most, questions_behind, section_behind, size_of_base}
use Rattle.message_judging.specs.validity.Validity.{has_too_many, is_short, options_of, asks_one_in, found_of, IsFound, ValidityIsDecided}
use Rattle.message_judging.proofs.lemmas.validity.Counting.{Counts, over, within, with_questions, with_records, questions_read, section_read, questions_counted, records_counted}

-- what a base that is read has
record AreRead (base : List ℕ) : Type 0 where
  questions : List Asked
  answer : List Known
  authority : List Known
  additional : List Known
  asked : all_read (question_items base) ≡ Some questions
  answered : records_of Answer base ≡ Some answer
  authorized : records_of Authority base ≡ Some authority
  added : records_of Additional base ≡ Some additional

data Found (base : List ℕ) : Type 0 where
  IsRead : AreRead base → Found base
  IsUnread : size_of_base base ≡ None → reads base ≡ None → ((r : Request) → r.base ≡ base → contents_of r ≡ None) → Found base

none_read : (base : List ℕ) → ((x : AreRead base) → ⊥) → reads base ≡ None
none_read base never = go (reads base) refl
  where
    go : (o : Option Reading) → reads base ≡ o → o ≡ None
    go None e = refl
    go (Some r) e =
        let i = reading_laws.items_are_read base r e in
        absurd (never (record { questions = r.questions; answer = r.answer; authority = r.authority; additional = r.additional; asked = i.questions_are; answered = i.answer_is; authorized = i.authority_is; added = i.additional_is }))

no_contents : (base : List ℕ) → ((x : AreRead base) → ⊥) → (r : Request) → r.base ≡ base → contents_of r ≡ None
unfolding contents_of
no_contents base never r at = go (contents_of r) refl
  where
    go : (o : Option Contents) → contents_of r ≡ o → o ≡ None
    go None e = refl
    go (Some c) e =
        let q = then_ok (all_read (question_items r.base)) _ c e in
        let a = then_ok (records_of Answer r.base) _ c q.2 in
        let u = then_ok (records_of Authority r.base) _ c a.2 in
        let x = then_ok (records_of Additional r.base) _ c u.2 in
        absurd (never (subst AreRead at (record { questions = q.0; answer = a.0; authority = u.0; additional = x.0; asked = q.1; answered = a.1; authorized = u.1; added = x.1 })))

found : (base : List ℕ) → Found base
found base = go (all_read (question_items base)) refl (records_of Answer base) refl (records_of Authority base) refl (records_of Additional base) refl
  where
    unread : ((x : AreRead base) → ⊥) → size_of_base base ≡ None → Found base
    unread never e = IsUnread e (none_read base never) (no_contents base never)

    go : (q : Option (List Asked)) → all_read (question_items base) ≡ q → (a : Option (List Known)) → records_of Answer base ≡ a → (u : Option (List Known)) → records_of Authority base ≡ u → (x : Option (List Known)) → records_of Additional base ≡ x → Found base
    go None i a j u k x l =
        let z : questions_behind (question_items base) (record { entries = 0; octets = 12 }) ≡ None = questions_read (question_items base) _ ∙ ap (option_map (λ qs. with_questions qs (record { entries = 0; octets = 12 }))) i in
        unread (λ r. let y : None ≡ Some r.questions = sym i ∙ r.asked in cc) (rw z refl)
    go (Some qs) i None j u k x l =
        let n = with_questions qs (record { entries = 0; octets = 12 }) in
        let z : questions_behind (question_items base) (record { entries = 0; octets = 12 }) ≡ Some n = questions_read (question_items base) _ ∙ ap (option_map (λ qs. with_questions qs (record { entries = 0; octets = 12 }))) i in
        let y : section_behind Answer base n.octets ≡ None = section_read Answer base n.octets ∙ ap (option_map (λ ks. with_records Answer ks (record { entries = 0; octets = n.octets }))) j in
        unread (λ r. let y : None ≡ Some r.answer = sym j ∙ r.answered in cc) (rw (z, y) refl)
    go (Some qs) i (Some ans) j None k x l =
        let n = with_questions qs (record { entries = 0; octets = 12 }) in
        let m = with_records Answer ans (record { entries = 0; octets = n.octets }) in
        let z : questions_behind (question_items base) (record { entries = 0; octets = 12 }) ≡ Some n = questions_read (question_items base) _ ∙ ap (option_map (λ qs. with_questions qs (record { entries = 0; octets = 12 }))) i in
        let y : section_behind Answer base n.octets ≡ Some m = section_read Answer base n.octets ∙ ap (option_map (λ ks. with_records Answer ks (record { entries = 0; octets = n.octets }))) j in
        let w : section_behind Authority base m.octets ≡ None = section_read Authority base m.octets ∙ ap (option_map (λ ks. with_records Authority ks (record { entries = 0; octets = m.octets }))) k in
        unread (λ r. let y : None ≡ Some r.authority = sym k ∙ r.authorized in cc) (rw (z, y, w) refl)
    go (Some qs) i (Some ans) j (Some us) k None l =
        let n = with_questions qs (record { entries = 0; octets = 12 }) in
        let m = with_records Answer ans (record { entries = 0; octets = n.octets }) in
        let o = with_records Authority us (record { entries = 0; octets = m.octets }) in
        let z : questions_behind (question_items base) (record { entries = 0; octets = 12 }) ≡ Some n = questions_read (question_items base) _ ∙ ap (option_map (λ qs. with_questions qs (record { entries = 0; octets = 12 }))) i in
        let y : section_behind Answer base n.octets ≡ Some m = section_read Answer base n.octets ∙ ap (option_map (λ ks. with_records Answer ks (record { entries = 0; octets = n.octets }))) j in
        let w : section_behind Authority base m.octets ≡ Some o = section_read Authority base m.octets ∙ ap (option_map (λ ks. with_records Authority ks (record { entries = 0; octets = m.octets }))) k in
        let v : section_behind Additional base o.octets ≡ None = section_read Additional base o.octets ∙ ap (option_map (λ ks. with_records Additional ks (record { entries = 0; octets = o.octets }))) l in
        unread (λ r. let y : None ≡ Some r.additional = sym l ∙ r.added in cc) (rw (z, y, w, v) refl)
    go (Some qs) i (Some ans) j (Some us) k (Some xs) l = IsRead (record { questions = qs; answer = ans; authority = us; additional = xs; asked = i; answered = j; authorized = k; added = l })

-- the size of a base that is read
module _ (base : List ℕ) (x : AreRead base) where
  n : Size
  n = with_questions x.questions (record { entries = 0; octets = 12 })

  a : Size
  a = with_records Answer x.answer (record { entries = 0; octets = n.octets })

  u : Size
  u = with_records Authority x.authority (record { entries = 0; octets = a.octets })

  d : Size
  d = with_records Additional x.additional (record { entries = 0; octets = u.octets })

  whole : BaseSize
  whole = record { questions = n.entries; answer = a.entries; authority = u.entries; additional = d.entries; octets = d.octets }

  size_is : size_of_base base ≡ Some whole
  unfolding n a u d whole
  size_is =
      let z : questions_behind (question_items base) (record { entries = 0; octets = 12 }) ≡ Some n = questions_read (question_items base) _ ∙ ap (option_map (λ qs. with_questions qs (record { entries = 0; octets = 12 }))) x.asked in
      let y : section_behind Answer base n.octets ≡ Some a = section_read Answer base n.octets ∙ ap (option_map (λ ks. with_records Answer ks (record { entries = 0; octets = n.octets }))) x.answered in
      let w : section_behind Authority base a.octets ≡ Some u = section_read Authority base a.octets ∙ ap (option_map (λ ks. with_records Authority ks (record { entries = 0; octets = a.octets }))) x.authorized in
      let v : section_behind Additional base u.octets ≡ Some d = section_read Additional base u.octets ∙ ap (option_map (λ ks. with_records Additional ks (record { entries = 0; octets = u.octets }))) x.added in
      rw (z, y, w, v) refl

  ws : (s : Section) → List Known → List Written
  ws s ks = sent_from s ks

  octets_in : ℕ
  octets_in = 12 + sum_by question_size x.questions + sum_by record_size (sent_from Answer x.answer) + sum_by record_size (sent_from Authority x.authority) + sum_by record_size (sent_from Additional x.additional)

  record Measured : Type 0 where
    questions : most whole.questions ≡ most (length x.questions)
    answer : most whole.answer ≡ most (length (sent_from Answer x.answer))
    authority : most whole.authority ≡ most (length (sent_from Authority x.authority))
    additional : most whole.additional ≡ most (length (sent_from Additional x.additional))
    octets : most whole.octets ≡ most octets_in

  behind : (b : ℕ) (y : Size) → (e : most y.octets ≡ most b) → Counts 0 b (record { entries = 0; octets = y.octets })
  behind b y e = record { entries_are = refl; octets_are = e }

  measured : Measured
  unfolding n a u d whole octets_in
  measured =
      let cn = questions_counted x.questions 0 12 (record { entries = 0; octets = 12 }) (record { entries_are = refl; octets_are = refl }) in
      let ca = records_counted Answer x.answer 0 _ _ (behind _ n cn.octets_are) in
      let cu = records_counted Authority x.authority 0 _ _ (behind _ a ca.octets_are) in
      let cd = records_counted Additional x.additional 0 _ _ (behind _ u cu.octets_are) in
      record {
        questions = cn.entries_are ∙ ap most (zero_on (length x.questions));
        answer = ca.entries_are ∙ ap most (zero_on (length (sent_from Answer x.answer)));
        authority = cu.entries_are ∙ ap most (zero_on (length (sent_from Authority x.authority)));
        additional = cd.entries_are ∙ ap most (zero_on (length (sent_from Additional x.additional)));
        octets = cd.octets_are;
      }
    where
      zero_on : (k : ℕ) → 0 + k ≡ k
      zero_on k = omega arith

contents_are : (r : Request) (x : AreRead r.base) → contents_of r ≡ Some (record {
  questions = x.questions;
  answer = sent_from Answer x.answer;
  authority = sent_from Authority x.authority;
  additional = sent_from Additional x.additional ++ opt_records r.opt;
})
unfolding contents_of
contents_are r x = rw (x.asked, x.answered, x.authorized, x.added) refl

module _ (r : Request) (x : AreRead r.base) where
  long_list : {A : Type 0} (xs : List A) (y : A) → length (xs ++ y ∷ []) ≡ length xs + 1
  long_list xs y = length-append xs (y ∷ [])

  counts_are : has_too_many (Some (whole r.base x)) ≡ passes_count r
  unfolding passes_count
  counts_are =
      let m = measured r.base x in
      let o = opt_written (record (opt_or_empty r.opt) { udp_payload_size = 1232 }) in
      ap₂ (λ a b. a || (b || (nat_lt 65535 (whole r.base x).authority || nat_lt 65535 ((whole r.base x).additional + 1)))) (over _ _ m.questions) (over _ _ m.answer)
      ∙ (ap₂ (λ a b. nat_lt 65535 (length x.questions) || (nat_lt 65535 (length (sent_from Answer x.answer)) || (a || b))) (over _ _ m.authority) (over_one _ _ m.additional ∙ ap (nat_lt 65535) (sym (long_list (sent_from Additional x.additional) o)))
      ∙ sym (ap (λ c. option_map_or passes c false) (contents_are (with_payload_size 1232 r) x)))
    where
      over_one : (a b : ℕ) → most a ≡ most b → nat_lt 65535 (a + 1) ≡ nat_lt 65535 (b + 1)
      over_one a b e = grind (arith, nat_tests)

  sizes_are : (c : Contents) → c ≡ record {
    questions = x.questions;
    answer = sent_from Answer x.answer;
    authority = sent_from Authority x.authority;
    additional = sent_from Additional x.additional ++ opt_records (with_option 11 [] r).opt;
  } → size_of c ≡ octets_in r.base x + (15 + options_of r.opt)
  unfolding octets_in
  sizes_are c e = ap size_of e ∙ go (sent_from Answer x.answer) (sent_from Authority x.authority) (sent_from Additional x.additional) (opt_written (option_added 11 [] (opt_or_empty r.opt))) size_opt
    where
      four : length (option_octets 11 []) ≡ 4
      four = refl

      size_opt : record_size (opt_written (option_added 11 [] (opt_or_empty r.opt))) ≡ 15 + options_of r.opt
      size_opt = let l = length-append (opt_or_empty r.opt).options (option_octets 11 []) in let f = four in omega arith

      go : (a u d : List Written) (o : Written) → record_size o ≡ 15 + options_of r.opt → 12 + sum (map question_size x.questions) + sum (map record_size (a ++ u ++ (d ++ o ∷ [])))
          ≡ 12 + sum_by question_size x.questions + sum_by record_size a + sum_by record_size u + sum_by record_size d + (15 + options_of r.opt)
      go a u d o s =
          let q = sum-map question_size x.questions in
          let t = sum-map record_size (a ++ u ++ (d ++ o ∷ [])) in
          let v = sum_by-append record_size (a ++ u) (d ++ o ∷ []) in
          let w = sum_by-append record_size a u in
          let y = sum_by-append record_size d (o ∷ []) in
          let z : sum_by record_size (o ∷ []) ≡ record_size o = (let c = sum_by-cons record_size o [] in omega arith) in
          omega (arith, q, t, v, w, y, z, s)

  short_is : is_short (options_of r.opt) (Some (whole r.base x)) ≡ fits r
  unfolding fits
  short_is =
      let m = measured r.base x in
      within _ _ (15 + options_of r.opt) m.octets
      ∙ (ap (λ n. nat_le n 65535) (sym (sizes_are _ refl))
      ∙ sym (ap (λ o. option_map_or (λ c. nat_le (size_of c) 65535) o false) (contents_are (with_option 11 [] r) x)))

  read_is : 12 ≤ length r.base → base_is_read r ≡ true
  unfolding base_is_read
  read_is long = ap is_some (reading_laws.read_is_items r.base x.questions x.answer x.authority x.additional long (record { questions_are = x.asked; answer_is = x.answered; authority_is = x.authorized; additional_is = x.added }))

pub validity_is_decided : ValidityIsDecided
unfolding base_is_read passes_count fits is_valid is_cacheable
validity_is_decided r long formed = go (found r.base)
  where
    go : Found r.base → IsFound r (found_of r (size_of_base r.base))
    go (IsUnread size unread none) =
        let b : base_is_read r ≡ false = ap is_some unread in
        let p : passes_count r ≡ false = ap (λ c. option_map_or passes c false) (none (with_payload_size 1232 r) refl) in
        let v : is_valid r ≡ false = ap₂ (λ m b. not m && (b && (not (passes_count r) && fits r))) formed b in
        let c : is_cacheable r ≡ false = ap (λ b. b && asks_one_in r) b in
        subst (λ s. IsFound r (found_of r s)) (sym size) (record { is_read = sym b; passes_count = sym p; is_valid = sym v; is_cacheable = sym c })
    go (IsRead x) =
        let b : base_is_read r ≡ true = read_is r x long in
        let p = counts_are r x in
        let s = short_is r x in
        let w : BaseSize = whole r.base x in
        let v : is_valid r ≡ (not (has_too_many (Some w)) && is_short (options_of r.opt) (Some w)) = ap₂ (λ m b. not m && (b && (not (passes_count r) && fits r))) formed b ∙ ap₂ (λ p s. not p && s) (sym p) (sym s) in
        let c : is_cacheable r ≡ asks_one_in r = ap (λ b. b && asks_one_in r) b in
        subst (λ s. IsFound r (found_of r s)) (sym (size_is r.base x)) (record { is_read = sym b; passes_count = p; is_valid = sym v; is_cacheable = sym c })
