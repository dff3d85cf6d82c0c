-- What was copied into a draft without a limit: with other TTLs and under another name as much is copied.
use Rattle.std.proofs.Common.{◌≡◌, ℕ, zero, suc, ◌+◌, ◌<◌, ◌≤◌, Bool, true, false, List, [], ◌∷◌, length, refl, ap, sym, subst, ◌∙◌, arith, ◌&&◌, ◌==◌}
use Rattle.std.specs.Prelude.{Option, Some, None, Result, Ok, Err, map, if◌then◌else◌}
use Rattle.std.specs.List.{AllByRecursion}
use Rattle.std.proofs.lemmas.Bool.{eqb-false}
use Rattle.dns_names.specs.Name.{Labels}
use Rattle.dns_values.specs.declared.error.ParseError.{ParseError}
use Rattle.dns_values.specs.declared.numbers.Section.{Section}
use Rattle.dns_values.specs.declared.numbers.Section.TheVariants.{Answer, Authority, Additional}
use Rattle.dns_base.specs.declared.push_error.PushError.TheVariants.{Count}
use Rattle.dns_base.specs.Header.{Counts}
use Rattle.dns_base.specs.Data.{Data}
use Rattle.dns_base.specs.Message.{Asked, Entry, Known, Written, record_at, question_at}
use Rattle.dns_base.specs.Answering.{question_items}
use Rattle.dns_base.specs.Sections.{entries_in, one_more_in, one_question_more}
use Rattle.dns_base.specs.Compression.{Compressed, with_question, with_record}
use Rattle.dns_base.specs.Draft.{Draft, counts_in, refusal, pushed_question, pushed_record, record_size, question_size}
use Rattle.dns_base.specs.Holding.{IsAskable, IsWritable}
use Rattle.client_request.specs.declared.error.CopyRecordsError.{CopyRecordsError}
use Rattle.client_request.specs.declared.error.CopyRecordsError.TheVariants.{Push}
use Rattle.client_request.specs.Composed.{Copied, ◌>>◌, asks, adds, unless, each, section_items, content_of, written_from}
use Rattle.client_request.proofs.Writable.{AreOctets, record_writable, question_askable}
use Rattle.right_trace.specs.Messages.{Octets}
use Rattle.right_trace.specs.Keys.{is_signing}
use Rattle.right_trace.specs.Views.{with_name}
use Rattle.cache_rules.specs.declared.copying.Ttls.{Ttls}
use Rattle.cache_rules.specs.declared.copying.Ttls.TheVariants.{Lessened}
use Rattle.cache_rules.specs.Viewing.{written_then, asks_under, carries_data, carries, carries_found, carries_section}
use Rattle.cache_rules.proofs.Carrying.{Each, items_good, section_good}
use Rattle.message_patching.proofs.Mending.{all_records, retimed}

-- a draft without a limit
abbrev pub drawn : Compressed → Counts → Draft
drawn c counts = record { target = c; counts = counts; limit = None }

-- so many more entries in a section
abbrev pub more_in : Section → ℕ → Counts → Counts
more_in Answer n counts = record counts { answer = counts.answer + n }
more_in Authority n counts = record counts { authority = counts.authority + n }
more_in Additional n counts = record counts { additional = counts.additional + n }

none_more : (s : Section) (counts : Counts) → more_in s 0 counts ≡ counts
none_more Answer counts = ap (λ n. record counts { answer = n }) (let e : counts.answer + 0 ≡ counts.answer = omega arith in e)
none_more Authority counts = ap (λ n. record counts { authority = n }) (let e : counts.authority + 0 ≡ counts.authority = omega arith in e)
none_more Additional counts = ap (λ n. record counts { additional = n }) (let e : counts.additional + 0 ≡ counts.additional = omega arith in e)

one_then_more : (s : Section) (n : ℕ) (counts : Counts) → more_in s n (one_more_in s counts) ≡ more_in s (suc n) counts
one_then_more Answer n counts = ap (λ k. record counts { answer = k }) (let e : counts.answer + 1 + n ≡ counts.answer + suc n = omega arith in e)
one_then_more Authority n counts = ap (λ k. record counts { authority = k }) (let e : counts.authority + 1 + n ≡ counts.authority + suc n = omega arith in e)
one_then_more Additional n counts = ap (λ k. record counts { additional = k }) (let e : counts.additional + 1 + n ≡ counts.additional + suc n = omega arith in e)

one_entry : (s : Section) (counts : Counts) → entries_in s (one_more_in s counts) ≡ entries_in s counts + 1
one_entry Answer counts = refl
one_entry Authority counts = refl
one_entry Additional counts = refl

-- what was done before a step that was done
pub then_done : {D : Type 0} (o : Result D CopyRecordsError) (next : D → Result D CopyRecordsError) (d : D) → (o >> next) ≡ Ok d → (m : D) × (o ≡ Ok m) × (next m ≡ Ok d)
then_done (Ok m) next d e = (m, refl, e)
then_done (Err x) next d e = absurd cc

not_full : (n : ℕ) → n < 65536 → (n == 65535) ≡ false → n + 1 < 65536
not_full n lt e = let ne = eqb-false n 65535 e in grind arith

-- one push

pub added : (s : Section) (w : Written) (c : Compressed) (counts : Counts) → (entries_in s counts == 65535) ≡ false → adds s w (drawn c counts) ≡ Ok (drawn (with_record w c) (one_more_in s counts))
unfolding refusal counts_in pushed_record
added s w c counts e = ap (λ z. unless (if z then Some Count else None) (drawn (with_record w c) (one_more_in s counts))) e

room_was : (s : Section) (w : Written) (c : Compressed) (counts : Counts) (d : Draft) → adds s w (drawn c counts) ≡ Ok d → (entries_in s counts == 65535) ≡ false
unfolding refusal counts_in pushed_record
room_was s w c counts d e = go (entries_in s counts == 65535) refl e
  where
    go : (z : Bool) → (entries_in s counts == 65535) ≡ z → unless (if z then Some Count else None) (drawn (with_record w c) (one_more_in s counts)) ≡ Ok d → (entries_in s counts == 65535) ≡ false
    go true f g = absurd cc
    go false f g = f

asked_for : (q : Asked) (c : Compressed) (counts : Counts) → (counts.questions == 65535) ≡ false → asks q (drawn c counts) ≡ Ok (drawn (with_question q c) (one_question_more counts))
unfolding refusal counts_in pushed_question
asked_for q c counts e = ap (λ z. unless (if z then Some Count else None) (drawn (with_question q c) (one_question_more counts))) e

question_room_was : (q : Asked) (c : Compressed) (counts : Counts) (d : Draft) → asks q (drawn c counts) ≡ Ok d → (counts.questions == 65535) ≡ false
unfolding refusal counts_in pushed_question
question_room_was q c counts d e = go (counts.questions == 65535) refl e
  where
    go : (z : Bool) → (counts.questions == 65535) ≡ z → unless (if z then Some Count else None) (drawn (with_question q c) (one_question_more counts)) ≡ Ok d → (counts.questions == 65535) ≡ false
    go true f g = absurd cc
    go false f g = f

-- questions

abbrev pub all_questions : Labels → List Asked → Compressed → Compressed
all_questions name [] c = c
all_questions name (q ∷ qs) c = all_questions name qs (with_question (with_name name q) c)

pub record AsksAll (items : List (Result Asked ParseError)) (counts : Counts) : Type 0 where
  pub questions : List Asked
  pub askable : AllByRecursion IsAskable questions
  pub few : counts.questions < 65536 → counts.questions + length questions < 65536
  pub gives : (name : Labels) (c : Compressed) → each (asks_under name) items (drawn c counts) ≡ Ok (drawn (all_questions name questions c) (record counts { questions = counts.questions + length questions }))

pub asks_all : (name : Labels) (items : List (Result Asked ParseError)) → Each IsAskable items → (c : Compressed) (counts : Counts) (d : Draft) → each (asks_under name) items (drawn c counts) ≡ Ok d → AsksAll items counts
asks_all name [] good c counts d e = record {
  questions = [];
  askable = tt;
  few = λ h. omega (arith, h);
  gives = λ other c. ap (λ n. Ok (drawn c (record counts { questions = n }))) (let z : counts.questions ≡ counts.questions + 0 = omega arith in z);
}
asks_all name (Err x ∷ items) good c counts d e = absurd cc
asks_all name (Ok q ∷ items) good c counts d e =
    let first = then_done (asks (with_name name q) (drawn c counts)) (each (asks_under name) items) d e in
    let room = question_room_was (with_name name q) c counts first.0 first.1 in
    let next : each (asks_under name) items (drawn (with_question (with_name name q) c) (one_question_more counts)) ≡ Ok d =
    ap (λ o. o >> each (asks_under name) items) (sym (asked_for (with_name name q) c counts room)) ∙ e in
    let rest = asks_all name items good.1 (with_question (with_name name q) c) (one_question_more counts) d next in
    record {
      questions = q ∷ rest.questions;
      askable = (good.0, rest.askable);
      few = λ h. omega (arith, rest.few (not_full counts.questions h room));
      gives = λ other c. ap (λ o. o >> each (asks_under other) items) (asked_for (with_name other q) c counts room) ∙ rest.gives other (with_question (with_name other q) c)
          ∙ ap (λ n. Ok (drawn (all_questions other rest.questions (with_question (with_name other q) c)) (record counts { questions = n }))) (let z : counts.questions + 1 + length rest.questions ≡ counts.questions + suc (length rest.questions) = omega arith in z);
    }

-- records

pub record GivesAll (s : Section) (counts : Counts) (copied : Ttls → Draft → Copied) : Type 0 where
  pub written : List Written
  pub writable : AllByRecursion IsWritable written
  pub few : entries_in s counts < 65536 → entries_in s counts + length written < 65536
  pub gives : (n : Ttls) (c : Compressed) → copied n (drawn c counts) ≡ Ok (drawn (all_records (map (retimed s n) written) c) (more_in s (length written) counts))

-- a record that is read can be written
abbrev Sound : Known → Type 0
Sound k = IsWritable (written_from k)

abbrev as_read : Entry → Data → Written
as_read e x = record { owner = e.owner; rtype = e.rtype; class = e.class; ttl = e.ttl; content = x }

read_writable : (k : Known) (x : Data) → k.says ≡ Some x → Sound k → IsWritable (as_read k.entry x)
read_writable k x e h = subst (λ o. IsWritable (as_read k.entry (content_of k.entry o))) e h

module _ (s : Section) (b : Bool) where
  abbrev Others : List (Result Known ParseError) → Type 0
  Others items = (c : Compressed) (counts : Counts) (d : Draft) → each (carries s b (Lessened 0)) items (drawn c counts) ≡ Ok d → GivesAll s counts (λ n. each (carries s b n) items)

  one_then : (k : Known) (items : List (Result Known ParseError)) → Sound k → Others items → (c : Compressed) (counts : Counts) (d : Draft) → (o : Option Data) → k.says ≡ o → (z : Bool) → (b && is_signing k.entry.rtype) ≡ z
      → (carries s b (Lessened 0) k (drawn c counts) >> each (carries s b (Lessened 0)) items) ≡ Ok d → GivesAll s counts (λ n. each (carries s b n) (Ok k ∷ items))
  one_then k items good others c counts d None says z f e =
      let none : (carries s b (Lessened 0) k (drawn c counts) >> each (carries s b (Lessened 0)) items) ≡ _ = ap (λ o. carries_data s b (Lessened 0) k.entry o (drawn c counts) >> each (carries s b (Lessened 0)) items) says in
      absurd cc
  one_then k items good others c counts d (Some x) says true f e =
      let skips : (n : Ttls) (e : Draft) → carries s b n k e ≡ Ok e = λ n e. ap (λ o. carries_data s b n k.entry o e) says ∙ ap (λ z. if z then Ok e else adds s (written_then s n k.entry x) e) f in
      let rest = others c counts d (ap (λ o. o >> each (carries s b (Lessened 0)) items) (sym (skips (Lessened 0) (drawn c counts))) ∙ e) in
      record {
        written = rest.written;
        writable = rest.writable;
        few = rest.few;
        gives = λ n c. ap (λ o. o >> each (carries s b n) items) (skips n (drawn c counts)) ∙ rest.gives n c;
      }
  one_then k items good others c counts d (Some x) says false f e =
      let adds_it : (n : Ttls) (e : Draft) → carries s b n k e ≡ adds s (written_then s n k.entry x) e =
      λ n e. ap (λ o. carries_data s b n k.entry o e) says ∙ ap (λ z. if z then Ok e else adds s (written_then s n k.entry x) e) f in
      let w : Written = written_then s (Lessened 0) k.entry x in
      let e1 : (adds s w (drawn c counts) >> each (carries s b (Lessened 0)) items) ≡ Ok d = ap (λ o. o >> each (carries s b (Lessened 0)) items) (sym (adds_it (Lessened 0) (drawn c counts))) ∙ e in
      let first = then_done (adds s w (drawn c counts)) (each (carries s b (Lessened 0)) items) d e1 in
      let room = room_was s w c counts first.0 first.1 in
      let next = ap (λ o. o >> each (carries s b (Lessened 0)) items) (sym (added s w c counts room)) ∙ e1 in
      let rest = others (with_record w c) (one_more_in s counts) d next in
      record {
        written = as_read k.entry x ∷ rest.written;
        writable = (read_writable k x says good, rest.writable);
        few = λ h. omega (arith, one_entry s counts, rest.few (omega (arith, one_entry s counts, not_full (entries_in s counts) h room)));
        gives = λ n c. ap (λ o. o >> each (carries s b n) items) (adds_it n (drawn c counts) ∙ added s (written_then s n k.entry x) c counts room)
            ∙ rest.gives n (with_record (written_then s n k.entry x) c)
            ∙ ap (λ k1. Ok (drawn (all_records (map (retimed s n) rest.written) (with_record (written_then s n k.entry x) c)) k1)) (one_then_more s (length rest.written) counts);
      }

  all_given : (items : List (Result Known ParseError)) → Each Sound items → Others items
  all_given [] good c counts d e = record { written = []; writable = tt; few = λ h. omega (arith, h); gives = λ n c. ap (λ k. Ok (drawn c k)) (sym (none_more s counts)) }
  all_given (Err x ∷ items) good c counts d e = absurd cc
  all_given (Ok k ∷ items) good c counts d e = one_then k items good.0 (all_given items good.1) c counts d k.says refl (b && is_signing k.entry.rtype) refl e

  pub section_given : (m : Octets) → AreOctets m → (c : Compressed) (counts : Counts) (d : Draft) → carries_section s b (Lessened 0) m (drawn c counts) ≡ Ok d → GivesAll s counts (λ n. carries_section s b n m)
  section_given m octets c counts d e = go (section_items s m) refl e
    where
      go : (o : Option (List (Result Known ParseError))) → section_items s m ≡ o → carries_found s b (Lessened 0) o (drawn c counts) ≡ Ok d → GivesAll s counts (λ n. carries_found s b n o)
      go None f g = absurd cc
      go (Some items) f g = all_given items (section_good Sound m (λ at end k r. record_writable m at end k octets r) s items f) c counts d g

pub questions_asked : (name : Labels) (m : Octets) → AreOctets m → (c : Compressed) (counts : Counts) (d : Draft) → each (asks_under name) (question_items m) (drawn c counts) ≡ Ok d → AsksAll (question_items m) counts
questions_asked name m octets c counts d e = asks_all name (question_items m) (items_good IsAskable (question_at m) (λ at end q r. question_askable m at end q octets r) _ 12) c counts d e
