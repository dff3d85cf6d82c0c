-- A template of a message's view gives each of its views.
use Rattle.std.proofs.Common.{◌≡◌, ℕ, zero, suc, ◌+◌, ◌-◌, ◌<◌, ◌≤◌, Bool, true, false, List, [], ◌∷◌, ◌++◌, length, take, drop, refl, ap, sym, subst, ◌∙◌, arith, length-append, append_assoc, append-nil, ◌==◌}
use Rattle.std.specs.Prelude.{Option, Some, None, Result, Ok, Err, map, option_map, option_and_then, replicate, slice_range, if◌then◌else◌}
use Rattle.std.specs.List.{AllByRecursion}
use Rattle.std.specs.Char.{to_ascii_lowercase}
use Rattle.std.specs.Int.{w16, to_be_bytes}
use Rattle.std.proofs.lemmas.List.{map-append}
use Rattle.std.proofs.Math.Seq.{drop-append_seam}
use Rattle.dns_values.specs.declared.numbers.Section.{Section}
use Rattle.dns_values.specs.declared.numbers.Section.TheVariants.{Answer, Authority, Additional}
use Rattle.dns_names.specs.Name.{Labels, Found, IsLegal, lowered, spelling, name_at}
use Rattle.dns_base.specs.Numbers.{u16_at, ◌>>=◌}
use Rattle.dns_base.specs.Header.{Counts}
use Rattle.dns_base.specs.Sections.{no_entries, counts_spelling}
use Rattle.dns_base.specs.Answering.{question_items}
use Rattle.dns_base.specs.Message.{Asked, Written, list_at}
use Rattle.dns_base.specs.Compression.{Compressed, with_name, with_u16, with_question, with_octets}
use Rattle.dns_base.specs.Draft.{Draft, fresh, with_header, finished}
use Rattle.dns_base.specs.Holding.{IsAskable, IsWritable}
use Rattle.dns_base.proofs.Sizes.{appended_long}
use Rattle.dns_base.proofs.Stands.{Shows}
use Rattle.dns_base.proofs.Places.{name_read}
use Rattle.client_request.specs.declared.error.Error.{Error}
use Rattle.client_request.specs.Composed.{Copied, ◌>>◌, each, message_of}
use Rattle.right_trace.specs.Messages.{Octets}
use Rattle.right_trace.specs.Views.{with_name as named}
use Rattle.cache_rules.specs.declared.copying.Ttls.{Ttls}
use Rattle.cache_rules.specs.declared.copying.Ttls.TheVariants.{Lessened}
use Rattle.cache_rules.specs.Viewing.{asks_under, carries_section, carries_all, carried, octets_by, IsViewable}
use Rattle.message_patching.specs.Patching.{Mark, mark_at, ttl_places, section_places, records_from, places_in, Template, template_of, IsFor, name_put, ttl_put, patched, puts}
use Rattle.message_patching.specs.Laws.{GivesViews, ViewsArePatched}
use Rattle.message_patching.proofs.Mending.{Mended, all_records, retimed, ttl_writes, records_mended, plain_times}
use Rattle.message_patching.proofs.Walking.{marks, Found_all, found_all, records_grow}
use Rattle.message_patching.proofs.Carrying.{drawn, more_in, then_done, all_questions, AsksAll, questions_asked, GivesAll, section_given}
use Rattle.message_patching.proofs.Finding.{places_found}
use Rattle.message_patching.proofs.Spellings.{spelled_alike}
use Rattle.message_patching.proofs.Headed.{headed, headed_long, bare, CountsAre, AreFew, counts_read, run, headed_run, finished_run, retimed_writable, headers_mended, plain_name, question_mended, records_read}

-- what a message has that was viewed once: the same in each of its views
record Parts (drops : Bool) (m : Octets) : Type 0 where
  questions : List Asked
  answer : List Written
  authority : List Written
  additional : List Written
  askable : AllByRecursion IsAskable questions
  first : AllByRecursion IsWritable answer
  second : AllByRecursion IsWritable authority
  third : AllByRecursion IsWritable additional
  counts : Counts
  asked_is : counts.questions ≡ length questions
  answer_is : counts.answer ≡ length answer
  authority_is : counts.authority ≡ length authority
  additional_is : counts.additional ≡ length additional
  few : AreFew counts
  gives : (header : List ℕ) (name : Labels) (n : Ttls) → octets_by header name drops n m
      ≡ Ok (finished (with_header header (drawn (run name questions (map (retimed Answer n) answer) (map (retimed Authority n) authority) (map (retimed Additional n) additional) bare) counts)))

message_done : (x : Copied) (o : List ℕ) → message_of x ≡ Ok o → (d : Draft) × (x ≡ Ok d)
message_done (Ok d) o e = (d, refl)
message_done (Err x) o e = absurd cc

ok_same : (x : Copied) (d e : Draft) → x ≡ Ok d → x ≡ Ok e → d ≡ e
ok_same x d e f g = let h : Ok d ≡ Ok e = sym f ∙ g in cc

moved : (next : Draft → Copied) (d e : Draft) (x : Copied) → d ≡ e → next d ≡ x → next e ≡ x
moved next d e x same f = ap next (sym same) ∙ f

parts : (header : List ℕ) (name : Labels) (b : Bool) (m o : Octets) → IsViewable header name m → octets_by header name b (Lessened 0) m ≡ Ok o → Parts b m
unfolding octets_by carried fresh
parts header name b m o v e =
    let n0 : Ttls = Lessened 0 in
    let A : Draft → Copied = carries_section Answer b n0 m in
    let U : Draft → Copied = carries_section Authority b n0 m in
    let D : Draft → Copied = carries_section Additional b n0 m in
    let H : Draft → Copied = λ all. Ok (with_header header all) in
    let asked : Copied = each (asks_under name) (question_items m) (drawn bare no_entries) in
    let all = message_done (asked >> A >> U >> D >> H) o e in
    let s4 = then_done (asked >> A >> U >> D) H all.0 all.1 in
    let s3 = then_done (asked >> A >> U) D s4.0 s4.1 in
    let s2 = then_done (asked >> A) U s3.0 s3.1 in
    let s1 = then_done asked A s2.0 s2.1 in
    let q = questions_asked name m v.octets bare no_entries s1.0 s1.1 in
    let cq : Compressed = all_questions name q.questions bare in
    let kq : Counts = record no_entries { questions = 0 + length q.questions } in
    let eq : A (drawn cq kq) ≡ Ok s2.0 = moved A s1.0 (drawn cq kq) (Ok s2.0) (ok_same asked s1.0 (drawn cq kq) s1.1 (q.gives name bare)) s1.2 in
    let a = section_given Answer b m v.octets cq kq s2.0 eq in
    let ca : Compressed = all_records (map (retimed Answer n0) a.written) cq in
    let ka : Counts = more_in Answer (length a.written) kq in
    let ea : U (drawn ca ka) ≡ Ok s3.0 = moved U s2.0 (drawn ca ka) (Ok s3.0) (ok_same (A (drawn cq kq)) s2.0 (drawn ca ka) eq (a.gives n0 cq)) s2.2 in
    let u = section_given Authority b m v.octets ca ka s3.0 ea in
    let cu : Compressed = all_records (map (retimed Authority n0) u.written) ca in
    let ku : Counts = more_in Authority (length u.written) ka in
    let eu : D (drawn cu ku) ≡ Ok s4.0 = moved D s3.0 (drawn cu ku) (Ok s4.0) (ok_same (U (drawn ca ka)) s3.0 (drawn cu ku) ea (u.gives n0 ca)) s3.2 in
    let d = section_given Additional b m v.octets cu ku s4.0 eu in
    let kd : Counts = more_in Additional (length d.written) ku in
    record {
      questions = q.questions;
      answer = a.written;
      authority = u.written;
      additional = d.written;
      askable = q.askable;
      first = a.writable;
      second = u.writable;
      third = d.writable;
      counts = kd;
      asked_is = omega arith;
      answer_is = omega arith;
      authority_is = omega arith;
      additional_is = omega arith;
      few = (q.few (omega arith), a.few (omega arith), u.few (omega arith), d.few (omega arith));
      gives = λ header name n.
          let A : Draft → Copied = carries_section Answer b n m in
          let U : Draft → Copied = carries_section Authority b n m in
          let D : Draft → Copied = carries_section Additional b n m in
          let H : Draft → Copied = λ all. Ok (with_header header all) in
          let cq : Compressed = all_questions name q.questions bare in
          let ca : Compressed = all_records (map (retimed Answer n) a.written) cq in
          let cu : Compressed = all_records (map (retimed Authority n) u.written) ca in
          ap (λ o. message_of (o >> A >> U >> D >> H)) (q.gives name bare) ∙ ap (λ o. message_of (o >> U >> D >> H)) (a.gives n cq)
          ∙ ap (λ o. message_of (o >> D >> H)) (u.gives n ca) ∙ ap (λ o. message_of (o >> H)) (d.gives n cu);
    }

-- what stands before the records, with no question or one
record Front (header : List ℕ) (name : Labels) (qs : List Asked) (counts : Counts) (o : List ℕ) : Type 0 where
  is_named : Bool
  counted : (u16_at o 4 == 1) ≡ is_named
  from : records_from o ≡ Some (length (all_questions name qs (headed header counts)).octets)
  mended : (other : List ℕ) (ms : Labels) → length other ≡ 4 → IsLegal ms → (is_named ≡ true → lowered name ≡ lowered ms)
      → Mended ((0, other) ∷ name_put is_named ms) (all_questions name qs (headed header counts)) (all_questions ms qs (headed other counts))
  spelt : is_named ≡ true → (more : List ℕ) × (drop 12 o ≡ spelling name ++ more)

-- behind twelve octets
dropped_twelve : (h xs : List ℕ) → length h ≡ 12 → drop 12 (h ++ xs) ≡ xs
dropped_twelve h xs e = ap (λ n. drop n (h ++ xs)) (sym e) ∙ drop-append_seam h xs

one_question : (header : List ℕ) (name : Labels) (q : Asked) (counts : Counts) (more : List ℕ) → length header ≡ 4 → IsLegal name
    → let o = (with_question (named name q) (headed header counts)).octets ++ more in u16_at o 4 ≡ 1 → Front header name (q ∷ []) counts o
unfolding with_question with_name with_octets
one_question header name q counts more e legal count =
    let h : List ℕ = header ++ counts_spelling counts in
    let c : Compressed = headed header counts in
    let x : List ℕ = to_be_bytes w16 q.rtype in
    let y : List ℕ = to_be_bytes w16 q.class in
    let n : List ℕ = h ++ spelling name in
    let o : List ℕ = (((with_name name c).octets ++ x) ++ y) ++ more in
    let plain : (with_name name c).octets ≡ n = ap (λ z. h ++ z) (plain_name h name) in
    let long : length h ≡ 12 = headed_long header counts e in
    let is : o ≡ (with_name name c).octets ++ (x ++ (y ++ more)) = simp append_assoc in
    let shows : Shows 0 (with_name name c).octets o = record { front = []; back = x ++ (y ++ more); is = is; long = refl } in
    let read = name_read name 0 c o (omega arith) legal tt shows in
    let there : name_at o 12 ≡ Some (record { labels = read.back; end = length (with_name name c).octets; pointers = read.pointers }) = ap (name_at o) (sym long) ∙ read.read in
    let end : length (with_name name c).octets + 4 ≡ length ((((with_name name c).octets ++ x) ++ y)) =
    omega (arith, length-append ((with_name name c).octets ++ x) y, length-append (with_name name c).octets x) in
    record {
      is_named = true;
      counted = ap (λ k. k == 1) count;
      from = ap (λ k. if k == 0 then Some 12 else if k == 1 then option_map (λ (f : Found). f.end + 4) (name_at o 12) else None) count
          ∙ ap (option_map (λ (f : Found). f.end + 4)) there ∙ ap Some end;
      mended = λ other ms f lawful same.
          subst (λ k. Mended ((0, other) ∷ (k, spelling ms) ∷ []) (with_question (named name q) c) (with_question (named ms q) (headed other counts))) long
          (question_mended ((0, other) ∷ []) name ms q h (other ++ counts_spelling counts) (same refl) legal lawful (headers_mended header other counts e f));
      spelt = λ t. (x ++ (y ++ more), ap (drop 12) (is ∙ ap (λ z. z ++ (x ++ (y ++ more))) plain ∙ append_assoc h (spelling name) (x ++ (y ++ more))) ∙ dropped_twelve h (spelling name ++ (x ++ (y ++ more))) long);
    }

front : (header : List ℕ) (name : Labels) (qs : List Asked) (counts : Counts) (more : List ℕ) → length header ≡ 4 → IsLegal name → length qs ≤ 1
    → let o = (all_questions name qs (headed header counts)).octets ++ more in u16_at o 4 ≡ length qs → Front header name qs counts o
front header name [] counts more e legal one count =
    let o : List ℕ = (header ++ counts_spelling counts) ++ more in
    record {
      is_named = false;
      counted = ap (λ k. k == 1) count;
      from = ap (λ k. if k == 0 then Some 12 else if k == 1 then option_map (λ (f : Found). f.end + 4) (name_at o 12) else None) count ∙ ap Some (sym (headed_long header counts e));
      mended = λ other ms f lawful same. headers_mended header other counts e f;
      spelt = λ t. absurd cc;
    }
front header name (q ∷ []) counts more e legal one count = one_question header name q counts more e legal count
front header name (q ∷ r ∷ qs) counts more e legal one count = absurd (omega (arith, one))

section_found : (s : Section) (ws : List Written) (c : Compressed) (o : List ℕ) (n k : ℕ) → n ≡ k → k ≡ length ws → Found_all s ws c o
    → section_places s o n (length c.octets) ≡ Some (ttl_places s (marks ws c), length (all_records ws c).octets)
section_found s ws c o n k e f h =
    ap (λ k. section_places s o k (length c.octets)) (e ∙ f) ∙ ap (option_map (λ (x : List Mark × ℕ). (ttl_places s x.0, x.1))) h.found

-- what is written over the octets of a view of no age is the view
module _ (drops : Bool) (m : Octets) (p : Parts drops m) (header : List ℕ) (name : Labels) (e : length header ≡ 4) (legal : IsLegal name) where
  cq : Compressed
  cq = all_questions name p.questions (headed header p.counts)

  ca : Compressed
  ca = all_records p.answer cq

  cu : Compressed
  cu = all_records p.authority ca

  made : List ℕ
  made = (all_records p.additional cu).octets

  behind_answer : List ℕ
  behind_answer = (records_grow p.authority ca).0 ++ (records_grow p.additional cu).0

  abbrev behind_questions : List ℕ
  behind_questions = (records_grow p.answer cq).0 ++ behind_answer

  made_u : made ≡ cu.octets ++ (records_grow p.additional cu).0
  unfolding made cu
  made_u = (records_grow p.additional cu).1

  made_a : made ≡ ca.octets ++ behind_answer
  unfolding made cu ca behind_answer
  made_a = made_u ∙ ap (λ x. x ++ (records_grow p.additional cu).0) (records_grow p.authority ca).1 ∙ append_assoc ca.octets (records_grow p.authority ca).0 (records_grow p.additional cu).0

  made_q : made ≡ cq.octets ++ behind_questions
  unfolding made cu ca cq behind_answer
  made_q = made_a ∙ ap (λ x. x ++ behind_answer) (records_grow p.answer cq).1 ∙ append_assoc cq.octets (records_grow p.answer cq).0 behind_answer

  counts_are : CountsAre made p.counts
  unfolding made cu ca cq
  counts_are =
      let t = headed_run header p.counts name p.questions p.answer p.authority p.additional e legal p.askable p.first p.second p.third in
      subst (λ o. CountsAre o p.counts) (sym t.second) (counts_read header p.counts t.back e p.few)

  the_front : u16_at made 4 ≤ 1 → Front header name p.questions p.counts made
  unfolding made cu ca cq
  the_front one =
      let count : u16_at made 4 ≡ length p.questions = counts_are.questions ∙ p.asked_is in
      subst (Front header name p.questions p.counts) (sym made_q)
      (front header name p.questions p.counts behind_questions e legal (omega (arith, count, one)) (ap (λ o. u16_at o 4) (sym made_q) ∙ count))

  views_made : u16_at made 4 ≤ 1 → (t : Template) × (template_of made ≡ Some t) × GivesViews drops m t
  unfolding template_of made cu ca cq behind_answer
  views_made one =
      let f = the_front one in
      let start = f.mended header name e legal (λ _. refl) in
      let ra = records_read p.answer cq p.first start.twins.mine in
      let ru = records_read p.authority ca p.second ra in
      let fa = subst (Found_all Answer p.answer cq) (sym made_a) (found_all Answer p.answer cq behind_answer p.first start.twins.mine) in
      let fu = subst (Found_all Authority p.authority ca) (sym made_u) (found_all Authority p.authority ca (records_grow p.additional cu).0 p.second ra) in
      let fd = subst (Found_all Additional p.additional cu) (append-nil made) (found_all Additional p.additional cu [] p.third ru) in
      let A : List ℕ = ttl_places Answer (marks p.answer cq) in
      let U : List ℕ = ttl_places Authority (marks p.authority ca) in
      let D : List ℕ = ttl_places Additional (marks p.additional cu) in
      let sa = section_found Answer p.answer cq made (u16_at made 6) p.counts.answer counts_are.answer p.answer_is fa in
      let su = section_found Authority p.authority ca made (u16_at made 8) p.counts.authority counts_are.authority p.authority_is fu in
      let sd = section_found Additional p.additional cu made (u16_at made 10) p.counts.additional counts_are.additional p.additional_is fd in
      let t : Template = record { octets = made; is_named = u16_at made 4 == 1; ttls = A ++ (U ++ D) } in
      let is : template_of made ≡ Some t =
      ap (option_map (λ (ps : List ℕ). record { octets = made; is_named = u16_at made 4 == 1; ttls = ps })) (places_found made _ _ _ _ A U D f.from sa su sd) in (
        t,
        is,
        record {
          gives = λ other ms n h lawful for.
              let a : List Written = map (retimed Answer n) p.answer in
              let u : List Written = map (retimed Authority n) p.authority in
              let d : List Written = map (retimed Additional n) p.additional in
              let same : f.is_named ≡ true → lowered name ≡ lowered ms = λ b.
              let s = f.spelt b in
              let long : ℕ = length (spelling ms) in
              let twelve : 12 + long - 12 ≡ long = omega arith in
              let cut : slice_range made 12 (12 + long) ≡ take long (spelling name ++ s.0) = ap (λ k. take k (drop 12 made)) twelve ∙ ap (take long) s.1 in
              spelled_alike name ms s.0 legal.0 lawful.0 (sym (ap (map to_ascii_lowercase) cut) ∙ for (f.counted ∙ b)) in
              let m0 = f.mended other ms h lawful same in
              let m1 = records_mended Answer n p.answer _ cq _ p.first m0 in
              let m2 = records_mended Authority n p.authority _ ca _ p.second m1 in
              let m3 = records_mended Additional n p.additional _ cu _ p.third m2 in
              let wa : List (ℕ × List ℕ) = ttl_writes Answer n p.answer cq in
              let wu : List (ℕ × List ℕ) = ttl_writes Authority n p.authority ca in
              let wd : List (ℕ × List ℕ) = ttl_writes Additional n p.additional cu in
              let put : ℕ → ℕ × List ℕ = ttl_put n made in
              let ttls : map put (A ++ (U ++ D)) ≡ wa ++ (wu ++ wd) =
              map-append put A (U ++ D) ∙ ap (λ x. x ++ map put (U ++ D)) (fa.puts n) ∙ ap (λ x. wa ++ x) (map-append put U D ∙ ap (λ x. x ++ map put D) (fu.puts n) ∙ ap (λ x. wu ++ x) (fd.puts n)) in
              let head : List (ℕ × List ℕ) = (0, other) ∷ name_put f.is_named ms in
              let all : ((head ++ wa) ++ wu) ++ wd ≡ (0, other) ∷ (name_put t.is_named ms ++ map put (A ++ (U ++ D))) =
              append_assoc (head ++ wa) wu wd ∙ append_assoc head wa (wu ++ wd) ∙ ap (λ x. head ++ x) (sym ttls) ∙ ap (λ b. ((0, other) ∷ name_put b ms) ++ map put (A ++ (U ++ D))) (sym f.counted) in
              p.gives other ms n ∙ ap Ok (finished_run other p.counts ms p.questions a u d h lawful p.askable (retimed_writable Answer n p.answer p.first) (retimed_writable Authority n p.authority p.second) (retimed_writable Additional n p.additional p.third)
              ∙ m3.is ∙ ap (λ ws. puts ws made) all);
        },
      )

  made_is : finished (with_header header (drawn (run name p.questions (map (retimed Answer (Lessened 0)) p.answer) (map (retimed Authority (Lessened 0)) p.authority) (map (retimed Additional (Lessened 0)) p.additional) bare) p.counts)) ≡ made
  unfolding made cu ca cq
  made_is =
      let whole : List Written → List Written → List Written → List ℕ = λ a u d. finished (with_header header (drawn (run name p.questions a u d bare) p.counts)) in
      ap (λ a. whole a (map (retimed Authority (Lessened 0)) p.authority) (map (retimed Additional (Lessened 0)) p.additional)) (plain_times Answer p.answer)
      ∙ ap (λ u. whole p.answer u (map (retimed Additional (Lessened 0)) p.additional)) (plain_times Authority p.authority)
      ∙ ap (whole p.answer p.authority) (plain_times Additional p.additional)
      ∙ finished_run header p.counts name p.questions p.answer p.authority p.additional e legal p.askable p.first p.second p.third

result_same : (x : Result Octets Error) (a b : Octets) → x ≡ Ok a → x ≡ Ok b → a ≡ b
result_same x a b f g = let h : Ok a ≡ Ok b = sym f ∙ g in cc

pub views_are_patched : ViewsArePatched
views_are_patched header name drops m o v e one =
    let p = parts header name drops m o v e in
    let is : made drops m p header name v.header_is v.legal ≡ o =
    result_same (octets_by header name drops (Lessened 0) m) _ o (p.gives header name (Lessened 0) ∙ ap Ok (made_is drops m p header name v.header_is v.legal)) e in
    subst (λ o. (t : Template) × (template_of o ≡ Some t) × GivesViews drops m t) is (views_made drops m p header name v.header_is v.legal (subst (λ o. u16_at o 4 ≤ 1) (sym is) one))
