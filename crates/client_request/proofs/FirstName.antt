-- The first name that is written into a draft is spelled out there, whatever is written behind it.
use Rattle.std.proofs.Common.{◌≡◌, ℕ, ◌+◌, ◌-◌, ◌≤◌, Bool, true, false, inl, inr, List, [], ◌∷◌, ◌++◌, length, take, drop, refl, ap, sym, subst, ◌∙◌, arith, length-append, length-drop, append_assoc, ◌==◌}
use Rattle.std.specs.Prelude.{Option, Some, None, Result, Ok, Err, option_map, replicate, if◌then◌else◌}
use Rattle.std.specs.Int.{w16, to_be_bytes}
use Rattle.std.proofs.lemmas.List.{drop-append-le, length-take-le, take-append-drop}
use Rattle.std.proofs.Math.Seq.{drop-append_seam}
use Rattle.dns_names.proofs.Heads.{chosen, none_some}
use Rattle.dns_names.specs.Name.{Labels, IsLegal, name_at, octet_count, spelling}
use Rattle.dns_values.specs.declared.error.ParseError.{ParseError}
use Rattle.dns_values.specs.declared.numbers.Section.{Section}
use Rattle.dns_values.specs.declared.numbers.Section.TheVariants.{Answer, Authority, Additional}
use Rattle.dns_base.specs.Numbers.{u16_at}
use Rattle.dns_base.specs.Message.{Asked, Known, Written, sole_question, question_at, all_read}
use Rattle.dns_base.specs.Answering.{question_items}
use Rattle.dns_base.specs.OptRecord.{OptFields}
use Rattle.dns_base.specs.Header.{Counts}
use Rattle.dns_base.specs.Sections.{counts_spelling}
use Rattle.dns_base.specs.Compression.{Compressed, Begins, name_octets, with_name, with_octets, with_question, with_record}
use Rattle.dns_base.specs.Draft.{Draft, fresh, with_header, pushed_question, pushed_record, finished}
use Rattle.dns_base.proofs.Sizes.{question_continues, record_continues}
use Rattle.dns_base.proofs.Stands.{Stands, grown, name_stands}
use Rattle.client_request.specs.Request.{opt_written}
use Rattle.client_request.specs.Composed.{Copied, ◌>>◌, asks, adds, copies, each, each_found, copies_section, section_items, adds_opt, copies_all, written_from, is_replaced}
use Rattle.client_request.proofs.Carrying.{then_done, asked, added}

-- A name is spelled out behind the first twelve octets.
pub record Spelled (name : Labels) (octets : List ℕ) : Type 0 where
  pub back : List ℕ
  pub is : drop 12 octets ≡ spelling name ++ back
  pub long : 12 ≤ length octets

abbrev pub SpelledIn : Labels → Draft → Type 0
SpelledIn name d = Spelled name d.target.octets

continued : (name : Labels) (a b : List ℕ) → Begins a b → Spelled name a → Spelled name b
continued name a b h s =
    let more : List ℕ = drop (length a) b in
    let is : b ≡ a ++ more = grown a b h in
    record {
      back = s.back ++ more;
      is = ap (drop 12) is ∙ drop-append-le 12 a more s.long ∙ ap (λ x. x ++ more) s.is ∙ append_assoc (spelling name) s.back more;
      long = omega (arith, ap length is, length-append a more, s.long);
    }

-- with no place to point to, a name is spelled out
plain_name : (here : List ℕ) (labels : Labels) → name_octets (record { octets = here; places = [] }) labels ≡ spelling labels
plain_name here [] = refl
plain_name here (label ∷ labels) = ap (λ x. length label ∷ label ++ x) (plain_name here labels)

first_spelled : (q : Asked) → SpelledIn q.name (pushed_question q (fresh None))
unfolding pushed_question fresh with_question with_name with_octets
first_spelled q =
    let rtype : List ℕ = to_be_bytes w16 q.rtype in
    let class : List ℕ = to_be_bytes w16 q.class in
    record {
      back = rtype ++ class;
      is = append_assoc (name_octets (fresh None).target q.name) rtype class ∙ ap (λ x. x ++ (rtype ++ class)) (plain_name (replicate 12 0) q.name);
      long = omega arith;
    }

question_keeps : (name : Labels) (q : Asked) (d e : Draft) → asks q d ≡ Ok e → SpelledIn name d → SpelledIn name e
unfolding pushed_question
question_keeps name q d e is s = subst (SpelledIn name) (asked q d e is).1 (continued name d.target.octets (with_question q d.target).octets (question_continues q d.target).octets s)

record_keeps : (name : Labels) (section : Section) (w : Written) (d e : Draft) → adds section w d ≡ Ok e → SpelledIn name d → SpelledIn name e
unfolding pushed_record
record_keeps name section w d e is s = subst (SpelledIn name) (added section w d e is).1 (continued name d.target.octets (with_record w d.target).octets (record_continues w d.target).octets s)

questions_keep : (name : Labels) (items : List (Result Asked ParseError)) (d e : Draft) → each asks items d ≡ Ok e → SpelledIn name d → SpelledIn name e
questions_keep name [] d e is s = let same : d ≡ e = cc in subst (SpelledIn name) same s
questions_keep name (Ok q ∷ items) d e is s =
    let first = then_done (asks q d) (each asks items) e is in questions_keep name items first.0 e first.2 (question_keeps name q d first.0 first.1 s)
questions_keep name (Err x ∷ items) d e is s = absurd cc

copy_keeps : (name : Labels) (section : Section) (known : Known) (d e : Draft) → copies section known d ≡ Ok e → SpelledIn name d → SpelledIn name e
copy_keeps name section known d e is s = elim (chosen (is_replaced section known) (Ok d) (adds section (written_from known) d) (Ok e) is) [
  | inl p ↦ let kept = p.1 in let same : d ≡ e = cc in subst (SpelledIn name) same s
  | inr p ↦ record_keeps name section (written_from known) d e p.1 s
]

records_keep : (name : Labels) (section : Section) (items : List (Result Known ParseError)) (d e : Draft) → each (copies section) items d ≡ Ok e → SpelledIn name d → SpelledIn name e
records_keep name section [] d e is s = let same : d ≡ e = cc in subst (SpelledIn name) same s
records_keep name section (Ok k ∷ items) d e is s =
    let first = then_done (copies section k d) (each (copies section) items) e is in records_keep name section items first.0 e first.2 (copy_keeps name section k d first.0 first.1 s)
records_keep name section (Err x ∷ items) d e is s = absurd cc

section_keeps : (name : Labels) (section : Section) (base : List ℕ) (d e : Draft) → copies_section section base d ≡ Ok e → SpelledIn name d → SpelledIn name e
section_keeps name section base d e = go (section_items section base)
  where
    go : (items : Option (List (Result Known ParseError))) → each_found section items d ≡ Ok e → SpelledIn name d → SpelledIn name e
    go None is s = absurd cc
    go (Some items) is s = records_keep name section items d e is s

opt_keeps : (name : Labels) (opt : Option OptFields) (d e : Draft) → adds_opt opt d ≡ Ok e → SpelledIn name d → SpelledIn name e
opt_keeps name None d e is s = let same : d ≡ e = cc in subst (SpelledIn name) same s
opt_keeps name (Some opt) d e is s = record_keeps name Additional (opt_written opt) d e is s

-- where the first question is read, its name is spelled out in all that is copied
pub first_of : (q : Asked) (more : List Asked) (items : List (Result Asked ParseError)) (e : Draft) → all_read items ≡ Some (q ∷ more) → each asks items (fresh None) ≡ Ok e → SpelledIn q.name e
first_of q more [] e read is = absurd cc
first_of q more (Err x ∷ items) e read is = absurd cc
first_of q more (Ok p ∷ items) e read is =
    let first = then_done (asks p (fresh None)) (each asks items) e is in
    let same = begins (all_read items) read in
    questions_keep q.name items first.0 e first.2 (subst (SpelledIn q.name) (asked p (fresh None) first.0 first.1).1 (subst (λ n. SpelledIn n (pushed_question p (fresh None))) (ap (λ (x : Asked). x.name) same) (first_spelled p)))
  where
    begins : (xs : Option (List Asked)) → option_map (λ (ys : List Asked). p ∷ ys) xs ≡ Some (q ∷ more) → p ≡ q
    begins None h = absurd cc
    begins (Some ys) h = cc

-- it is so in all of a message
pub all_spelled : (q : Asked) (more : List Asked) (base : List ℕ) (opt : Option OptFields) (e : Draft) → all_read (question_items base) ≡ Some (q ∷ more) → copies_all base opt (fresh None) ≡ Ok e → SpelledIn q.name e
all_spelled q more base opt e read is =
    let last = then_done _ (adds_opt opt) e is in
    let third = then_done _ (copies_section Additional base) last.0 last.1 in
    let second = then_done _ (copies_section Authority base) third.0 third.1 in
    let first = then_done (each asks (question_items base) (fresh None)) (copies_section Answer base) second.0 second.1 in
    opt_keeps q.name opt last.0 e last.2
    (section_keeps q.name Additional base third.0 last.0 third.2
    (section_keeps q.name Authority base second.0 third.0 second.2
    (section_keeps q.name Answer base first.0 second.0 first.2
    (first_of q more (question_items base) first.0 read first.1))))

-- whatever its header
pub headed_spelled : (name : Labels) (header : List ℕ) (d : Draft) → length header ≡ 4 → SpelledIn name d → SpelledIn name (with_header header d)
unfolding with_header
headed_spelled name [] d four s = absurd cc
headed_spelled name (x ∷ []) d four s = absurd cc
headed_spelled name (x ∷ y ∷ []) d four s = absurd cc
headed_spelled name (x ∷ y ∷ z ∷ []) d four s = absurd cc
headed_spelled name (x ∷ y ∷ z ∷ t ∷ []) d four s = record { back = s.back; is = dropped d.target.octets ∙ s.is; long = longer d.target.octets s.long }
  where
    dropped : (o : List ℕ) → drop 8 (drop 4 o) ≡ drop 12 o
    dropped [] = refl
    dropped (a ∷ []) = refl
    dropped (a ∷ b ∷ []) = refl
    dropped (a ∷ b ∷ c ∷ []) = refl
    dropped (a ∷ b ∷ c ∷ d ∷ o) = refl

    longer : (o : List ℕ) → 12 ≤ length o → 12 ≤ length (x ∷ y ∷ z ∷ t ∷ drop 4 o)
    longer o h = omega (arith, length-drop 4 o, h)
headed_spelled name (x ∷ y ∷ z ∷ t ∷ u ∷ header) d four s = absurd (omega (arith, four))

pub finished_spelled : (name : Labels) (d : Draft) → SpelledIn name d → Spelled name (finished d)
unfolding finished counts_spelling
finished_spelled name d s =
    let head : List ℕ = take 4 d.target.octets ++ counts_spelling d.counts in
    let four : length (take 4 d.target.octets) ≡ 4 = length-take-le 4 d.target.octets (omega (arith, s.long)) in
    let long : length head ≡ 12 = omega (arith, length-append (take 4 d.target.octets) (counts_spelling d.counts), four) in
    record {
      back = s.back;
      is = ap (λ n. drop n (head ++ drop 12 d.target.octets)) (sym long) ∙ drop-append_seam head (drop 12 d.target.octets) ∙ s.is;
      long = omega (arith, length-append head (drop 12 d.target.octets), long);
    }

-- a name that is spelled out behind the header is that of the only question
pub spelled_is_read : (name : Labels) (m : List ℕ) (q : Asked) → IsLegal name → Spelled name m → sole_question m ≡ Some q → q.name ≡ name
unfolding sole_question question_at
spelled_is_read name m q legal s is =
    let stands : Stands m 12 (spelling name) = record { front = take 12 m; back = s.back; is = sym (take-append-drop 12 m) ∙ ap (λ x. take 12 m ++ x) s.is; long = length-take-le 12 m s.long } in
    let read = name_stands m name 12 stands legal in
    let found = rw read at is in
    sym (ap (λ (x : Asked). x.name) (picked (u16_at m 4 == 1) _ _ found))
  where
    picked : (b c : Bool) (x : Asked × ℕ) → (if b then option_map (λ (y : Asked × ℕ). y.0) (if c then Some x else None) else None) ≡ Some q → x.0 ≡ q
    picked true true x h = cc
    picked true false x h = absurd cc
    picked false c x h = absurd cc
