-- What a draft holds is read back, push by push.
use Rattle.std.proofs.Common.{◌≡◌, ℕ, zero, suc, ◌+◌, ◌<◌, ◌≤◌, ◌^◌, List, [], ◌∷◌, ◌++◌, length, take, drop, refl, ap, sym, ◌∙◌, subst, arith, length-append, append_assoc, append-nil}
use Rattle.std.specs.Prelude.{Option, Some, None, ◌≢◌, nat_lt, replicate, if◌then◌else◌}
use Rattle.std.specs.List.{AllZip}
use Rattle.std.specs.Int.{w16, to_be_bytes}
use Rattle.std.proofs.lemmas.Bool.{le-ltb}
use Rattle.std.proofs.lemmas.List.{drop-append-le, length-drop, length-take, length-take-le, take-append-drop, take_at, take_all}
use Rattle.std.proofs.lemmas.Option.{some_pair_parts}
use Rattle.std.proofs.lemmas.Slice.{drop-append-drop}
use Rattle.dns_values.specs.declared.numbers.Section.{Section}
use Rattle.dns_values.specs.declared.numbers.Section.TheVariants.{Answer, Authority, Additional}
use Rattle.dns_names.specs.Name.{octet_count}
use Rattle.dns_names.proofs.Heads.{then_ok}
use Rattle.dns_base.specs.Numbers.{u16_at, ◌>>=◌}
use Rattle.dns_base.specs.Header.{Counts, counts_of}
use Rattle.dns_base.specs.Sections.{no_entries, one_question_more, entries_in, one_more_in, HasNoRecords, HasNoneAfter, counts_spelling}
use Rattle.dns_base.specs.Data.{data_spelling}
use Rattle.dns_base.specs.Message.{Asked, Written, Known, Reading, question_at, record_at, list_at, reads, questions_of, answer_of, authority_of, additional_of}
use Rattle.dns_base.specs.Compression.{Compressed, Begins}
use Rattle.dns_base.specs.Compression as writing
use Rattle.dns_base.specs.Draft.{Draft, fresh, with_header, pushed_question, pushed_record, cleared, finished, size, counts_in}
use Rattle.dns_base.specs.Holding.{Contents, no_contents, with_question, with_record, IsAskable, IsWritable, AskedReadsAs, ReadsAs, Entries, entries_at, Agree, EntriesAre, IsPlace, ArePlaces, Holds, header_in, IsReadingOf}
use Rattle.dns_base.specs.DraftLaws.{FinishedReads, DraftLaws}
use Rattle.dns_base.proofs.Lists.{list_snoc}
use Rattle.dns_base.proofs.Stands.{Stands, first_stands, second_stands, number_stands, Shows, grown, shows_before, shows_itself}
use Rattle.dns_base.proofs.Compressing.{begins_itself}
use Rattle.dns_base.proofs.Sizes.{begins_long, question_continues, record_continues}
use Rattle.dns_base.proofs.EntriesBack.{question_back, question_remembered, record_back, record_remembered, places_across}

zip_snoc : {A B : Type 0} → (R : A → B → Type 0) → (xs : List A) (ys : List B) (x : A) (y : B) → AllZip R xs ys → R x y → AllZip R (xs ++ x ∷ []) (ys ++ y ∷ [])
zip_snoc R [] [] x y h r = (r, tt)
zip_snoc R [] (b ∷ ys) x y h r = absurd h
zip_snoc R (a ∷ xs) [] x y h r = absurd h
zip_snoc R (a ∷ xs) (b ∷ ys) x y h r = (h.0, zip_snoc R xs ys x y h.1 r)

-- The four lists, with the places between them.
record Parts (o : List ℕ) (counts : Counts) (e : Entries) (end : ℕ) : Type 0 where
  questions_end : ℕ
  answer_end : ℕ
  authority_end : ℕ
  questions : list_at (question_at o) counts.questions 12 ≡ Some (e.questions, questions_end)
  answer : list_at (record_at o) counts.answer questions_end ≡ Some (e.answer, answer_end)
  authority : list_at (record_at o) counts.authority answer_end ≡ Some (e.authority, authority_end)
  additional : list_at (record_at o) counts.additional authority_end ≡ Some (e.additional, end)

parts_found : (o : List ℕ) (counts : Counts) (e : Entries) (end : ℕ) → Parts o counts e end → entries_at o counts ≡ Some (e, end)
unfolding entries_at
parts_found o counts e end p = rw (p.questions, p.answer, p.authority, p.additional) refl

found_parts : (o : List ℕ) (counts : Counts) (e : Entries) (end : ℕ) → entries_at o counts ≡ Some (e, end) → Parts o counts e end
unfolding entries_at
found_parts o counts e end h =
    let q = then_ok (list_at (question_at o) counts.questions 12) _ (e, end) h in
    let a = then_ok (list_at (record_at o) counts.answer q.0.1) _ (e, end) q.2 in
    let u = then_ok (list_at (record_at o) counts.authority a.0.1) _ (e, end) a.2 in
    let d = then_ok (list_at (record_at o) counts.additional u.0.1) _ (e, end) u.2 in
    let all : Entries = record { questions = q.0.0; answer = a.0.0; authority = u.0.0; additional = d.0.0 } in
    let same = some_pair_parts all e d.0.1 end d.2 in
    let mine : Parts o counts all d.0.1 = record {
      questions_end = q.0.1;
      answer_end = a.0.1;
      authority_end = u.0.1;
      questions = q.1;
      answer = a.1;
      authority = u.1;
      additional = d.1;
    } in
    subst (λ e. Parts o counts e end) same.0 (subst (λ end. Parts o counts all end) same.1 mine)

list_zero : {A : Type 0} → (one : ℕ → Option (A × ℕ)) (n at end : ℕ) (xs : List A) → n ≡ 0 → list_at one n at ≡ Some (xs, end) → (xs ≡ []) × (at ≡ end)
unfolding list_at
list_zero {A} one n at end xs z e =
    let none : List A = [] in
    let e' : Some (none, at) ≡ Some (xs, end) = rw z at e in
    let p = some_pair_parts none xs at end e' in (sym p.0, p.1)

list_nothing : {A : Type 0} → (one : ℕ → Option (A × ℕ)) (n at : ℕ) (xs : List A) → n ≡ 0 → xs ≡ [] → list_at one n at ≡ Some (xs, at)
unfolding list_at
list_nothing one n at xs z e = rw (z, e) refl

one_longer : {A : Type 0} → (one : ℕ → Option (A × ℕ)) (n at mid end : ℕ) (xs : List A) (x : A) → list_at one n at ≡ Some (xs, mid) → one mid ≡ Some (x, end)
    → list_at one (n + 1) at ≡ Some (xs ++ x ∷ [], end)
one_longer one n at mid end xs x e f = let more : n + 1 ≡ suc n = omega arith in rw more (list_snoc one n at mid end xs x e f)

question_behind : (o : List ℕ) (counts : Counts) (e : Entries) (mid end : ℕ) (q : Asked) → HasNoRecords counts → Parts o counts e mid → question_at o mid ≡ Some (q, end)
    → Parts o (record counts { questions = counts.questions + 1 }) (record e { questions = e.questions ++ q ∷ [] }) end
question_behind o counts e mid end q none p f =
    let d = list_zero (record_at o) counts.additional p.authority_end mid e.additional none.2 p.additional in
    let u = list_zero (record_at o) counts.authority p.answer_end p.authority_end e.authority none.1 p.authority in
    let a = list_zero (record_at o) counts.answer p.questions_end p.answer_end e.answer none.0 p.answer in
    let here : question_at o p.questions_end ≡ Some (q, end) = ap (question_at o) (a.1 ∙ u.1 ∙ d.1) ∙ f in
    record {
      questions_end = end;
      answer_end = end;
      authority_end = end;
      questions = one_longer (question_at o) counts.questions 12 p.questions_end end e.questions q p.questions here;
      answer = list_nothing (record_at o) counts.answer end e.answer none.0 a.0;
      authority = list_nothing (record_at o) counts.authority end e.authority none.1 u.0;
      additional = list_nothing (record_at o) counts.additional end e.additional none.2 d.0;
    }

with_entry : Section → Known → Entries → Entries
with_entry Answer k e = record e { answer = e.answer ++ k ∷ [] }
with_entry Authority k e = record e { authority = e.authority ++ k ∷ [] }
with_entry Additional k e = record e { additional = e.additional ++ k ∷ [] }

record_behind : (section : Section) (o : List ℕ) (counts : Counts) (e : Entries) (mid end : ℕ) (k : Known) → HasNoneAfter section counts → Parts o counts e mid → record_at o mid ≡ Some (k, end)
    → Parts o (one_more_in section counts) (with_entry section k e) end
unfolding with_entry
record_behind Answer o counts e mid end k none p f =
    let d = list_zero (record_at o) counts.additional p.authority_end mid e.additional none.1 p.additional in
    let u = list_zero (record_at o) counts.authority p.answer_end p.authority_end e.authority none.0 p.authority in
    let here : record_at o p.answer_end ≡ Some (k, end) = ap (record_at o) (u.1 ∙ d.1) ∙ f in
    record {
      questions_end = p.questions_end;
      answer_end = end;
      authority_end = end;
      questions = p.questions;
      answer = one_longer (record_at o) counts.answer p.questions_end p.answer_end end e.answer k p.answer here;
      authority = list_nothing (record_at o) counts.authority end e.authority none.0 u.0;
      additional = list_nothing (record_at o) counts.additional end e.additional none.1 d.0;
    }
record_behind Authority o counts e mid end k none p f =
    let d = list_zero (record_at o) counts.additional p.authority_end mid e.additional none p.additional in
    let here : record_at o p.authority_end ≡ Some (k, end) = ap (record_at o) d.1 ∙ f in
    record {
      questions_end = p.questions_end;
      answer_end = p.answer_end;
      authority_end = end;
      questions = p.questions;
      answer = p.answer;
      authority = one_longer (record_at o) counts.authority p.answer_end p.authority_end end e.authority k p.authority here;
      additional = list_nothing (record_at o) counts.additional end e.additional none d.0;
    }
record_behind Additional o counts e mid end k none p f = record {
  questions_end = p.questions_end;
  answer_end = p.answer_end;
  authority_end = p.authority_end;
  questions = p.questions;
  answer = p.answer;
  authority = p.authority;
  additional = one_longer (record_at o) counts.additional p.authority_end mid end e.additional k p.additional f;
}

agree_question : (e : Entries) (c : Contents) (asked q : Asked) → Agree e c → AskedReadsAs asked q → Agree (record e { questions = e.questions ++ asked ∷ [] }) (with_question q c)
agree_question e c asked q h r = record {
  questions = zip_snoc AskedReadsAs e.questions c.questions asked q h.questions r;
  answer = h.answer;
  authority = h.authority;
  additional = h.additional;
}

agree_record : (section : Section) (e : Entries) (c : Contents) (k : Known) (w : Written) → Agree e c → ReadsAs k w → Agree (with_entry section k e) (with_record section w c)
unfolding with_entry
agree_record Answer e c k w h r = record {
  questions = h.questions;
  answer = zip_snoc ReadsAs e.answer c.answer k w h.answer r;
  authority = h.authority;
  additional = h.additional;
}
agree_record Authority e c k w h r = record {
  questions = h.questions;
  answer = h.answer;
  authority = zip_snoc ReadsAs e.authority c.authority k w h.authority r;
  additional = h.additional;
}
agree_record Additional e c k w h r = record {
  questions = h.questions;
  answer = h.answer;
  authority = h.authority;
  additional = zip_snoc ReadsAs e.additional c.additional k w h.additional r;
}

-- What is added stands behind all that was there, whatever the header is and whatever follows.
longer : (header octets now tail : List ℕ) → 12 ≤ length octets → Begins octets now
    → header ++ (drop 12 octets ++ (drop (length octets) now ++ tail)) ≡ header ++ (drop 12 now ++ tail)
longer header octets now tail long h =
    let more : List ℕ = drop (length octets) now in
    let is : drop 12 now ≡ drop 12 octets ++ more = ap (drop 12) (grown octets now h) ∙ drop-append-le 12 octets more long in
    ap (λ x. header ++ x) (sym (append_assoc (drop 12 octets) more tail)) ∙ ap (λ x. header ++ (x ++ tail)) (sym is)

shown : (header octets tail : List ℕ) → length header ≡ 12 → Shows 12 octets (header ++ (drop 12 octets ++ tail))
shown header octets tail e = record { front = header; back = tail; is = refl; long = e }

held_before : (d : Draft) (c : Contents) (now : Compressed) (header tail : List ℕ) → length header ≡ 12 → Holds d c → Begins d.target.octets now.octets
    → EntriesAre (header ++ (drop 12 now.octets ++ tail)) d.counts c (length d.target.octets)
held_before d c now header tail e h begins =
    subst (λ o. EntriesAre o d.counts c (length d.target.octets)) (longer header d.target.octets now.octets tail h.long begins) (h.read header (drop (length d.target.octets) now.octets ++ tail) e)

places_held : (d : Draft) (c : Contents) (now o : List ℕ) → Holds d c → Begins d.target.octets now → Shows 12 now o → ArePlaces d.target.octets o d.target.places
places_held d c now o h begins s =
    let mine = shows_before 12 d.target.octets now o h.long begins s in
    subst (λ o. ArePlaces d.target.octets o d.target.places) (sym mine.is) (h.places mine.front mine.back mine.long)

one_fewer : (n : ℕ) → n < 65536 → n ≢ 65535 → n + 1 < 65536
one_fewer n h e = grind arith

few_after : (section : Section) (counts : Counts) → (counts.questions < 65536) × (counts.answer < 65536) × (counts.authority < 65536) × (counts.additional < 65536) → entries_in section counts ≢ 65535
    → let next = one_more_in section counts in (next.questions < 65536) × (next.answer < 65536) × (next.authority < 65536) × (next.additional < 65536)
few_after Answer counts few e = (few.0, one_fewer counts.answer few.1 e, few.2, few.3)
few_after Authority counts few e = (few.0, few.1, one_fewer counts.authority few.2 e, few.3)
few_after Additional counts few e = (few.0, few.1, few.2, one_fewer counts.additional few.3 e)

question_holds : (q : Asked) (d : Draft) (c : Contents) → IsAskable q → HasNoRecords (counts_in d) → (counts_in d).questions ≢ 65535 → Holds d c → Holds (pushed_question q d) (with_question q c)
unfolding pushed_question counts_in
question_holds q d c askable none room h =
    let now : Compressed = writing.with_question q d.target in
    let begins : Begins d.target.octets now.octets = (question_continues q d.target).octets in
    let counts : Counts = one_question_more d.counts in
    let end : ℕ = length now.octets in
    record {
      long = omega (arith, h.long, begins_long d.target.octets now.octets begins);
      few = (one_fewer d.counts.questions h.few.0 room, h.few.1, h.few.2, h.few.3);
      read = λ header tail e.
          let o : List ℕ = header ++ (drop 12 now.octets ++ tail) in
          let old = held_before d c now header tail e h begins in
          let s = shown header now.octets tail e in
          let back = question_back q 12 d.target o h.long askable (places_held d c now.octets o h begins s) s in
          let parts = question_behind o d.counts old.entries (length d.target.octets) end back.asked none (found_parts o d.counts old.entries (length d.target.octets) old.read) back.read in
          let entries : Entries = record old.entries { questions = old.entries.questions ++ back.asked ∷ [] } in
          record {
            entries = entries;
            read = parts_found o counts entries end parts;
            agree = agree_question old.entries c back.asked q old.agree back.reads_as;
          };
      places = λ header tail e.
          let s = shown header now.octets tail e in
          question_remembered q 12 d.target _ h.long askable (places_held d c now.octets _ h begins s) s;
    }

record_holds : (section : Section) (w : Written) (d : Draft) (c : Contents) → IsWritable w → HasNoneAfter section (counts_in d) → entries_in section (counts_in d) ≢ 65535 → Holds d c
    → Holds (pushed_record section w d) (with_record section w c)
unfolding pushed_record counts_in
record_holds section w d c writable none room h =
    let now : Compressed = writing.with_record w d.target in
    let begins : Begins d.target.octets now.octets = (record_continues w d.target).octets in
    let counts : Counts = one_more_in section d.counts in
    let end : ℕ = length now.octets in
    let long : 12 ≤ length now.octets = omega (arith, h.long, begins_long d.target.octets now.octets begins) in
    record {
      long = long;
      few = few_after section d.counts h.few room;
      read = λ header tail e.
          let o : List ℕ = header ++ (drop 12 now.octets ++ tail) in
          let old = held_before d c now header tail e h begins in
          let s = shown header now.octets tail e in
          let back = record_back w 12 d.target o h.long writable (places_held d c now.octets o h begins s) s in
          let parts = record_behind section o d.counts old.entries (length d.target.octets) end back.known none (found_parts o d.counts old.entries (length d.target.octets) old.read) back.read in
          let entries : Entries = with_entry section back.known old.entries in
          record {
            entries = entries;
            read = parts_found o counts entries end parts;
            agree = agree_record section old.entries c back.known w old.agree back.reads_as;
          };
      places = λ header tail e.
          let s = shown header now.octets tail e in
          record_remembered w 12 d.target _ h.long writable (places_held d c now.octets _ h begins s)
          (places_held d c now.octets now.octets h begins (shows_itself 12 now.octets long)) s;
    }

no_entries_there : Entries
no_entries_there = record { questions = []; answer = []; authority = []; additional = [] }

nothing_at : (o : List ℕ) → entries_at o no_entries ≡ Some (no_entries_there, 12)
unfolding entries_at list_at no_entries_there
nothing_at o = refl

agree_nothing : Agree no_entries_there no_contents
unfolding no_entries_there
agree_nothing = record { questions = tt; answer = tt; authority = tt; additional = tt }

-- a draft of twelve octets holds nothing
bare_holds : (d : Draft) → length d.target.octets ≡ 12 → d.target.places ≡ [] → d.counts ≡ no_entries → Holds d no_contents
bare_holds d twelve nowhere none =
    let P : Counts → Type 0 = λ n. (n.questions < 65536) × (n.answer < 65536) × (n.authority < 65536) × (n.additional < 65536) in
    let small : P no_entries = (omega arith, omega arith, omega arith, omega arith) in
    record {
      long = omega (arith, twelve);
      few = subst P (sym none) small;
      read = λ header tail e.
          let o : List ℕ = header ++ (drop 12 d.target.octets ++ tail) in
          record {
            entries = no_entries_there;
            read = ap (λ n. entries_at o n) none ∙ nothing_at o ∙ ap (λ n. Some (no_entries_there, n)) (sym twelve);
            agree = agree_nothing;
          };
      places = λ header tail e. subst (ArePlaces d.target.octets (header ++ (drop 12 d.target.octets ++ tail))) (sym nowhere) tt;
    }

holds_nothing : (limit : Option ℕ) → Holds (fresh limit) no_contents
unfolding fresh
holds_nothing limit = bare_holds (fresh limit) refl refl refl

cleared_holds : (d : Draft) (c : Contents) → Holds d c → Holds (cleared d) no_contents
unfolding cleared
cleared_holds d c h = bare_holds (cleared d) (length-take-le 12 d.target.octets h.long) refl refl

-- Another header changes no name that a pointer may name, since none of them reads the header.
header_places : (header : List ℕ) (d : Draft) (c : Contents) (o : List ℕ) → length header ≡ 4 → Holds d c → Shows 12 (header ++ drop 4 d.target.octets) o
    → ArePlaces (header ++ drop 4 d.target.octets) o d.target.places
header_places header d c o four h s =
    let now : List ℕ = header ++ drop 4 d.target.octets in
    let same : drop 12 now ≡ drop 12 d.target.octets = drop-append-drop 4 d.target.octets header 12 (omega arith) four in
    let long : 12 ≤ length now = omega (arith, length-append header (drop 4 d.target.octets), length-drop 4 d.target.octets, h.long) in
    let mine : Shows 12 d.target.octets o = subst (Stands o 12) same s in
    let itself : Shows 12 d.target.octets now = subst (Stands now 12) same (shows_itself 12 now long) in
    places_across d.target.octets now o d.target.places (places_held d c d.target.octets now h (begins_itself d.target.octets) itself) (places_held d c d.target.octets o h (begins_itself d.target.octets) mine)

header_holds : (header : List ℕ) (d : Draft) (c : Contents) → length header ≡ 4 → Holds d c → Holds (with_header header d) c
unfolding with_header
header_holds header d c four h =
    let now : List ℕ = header ++ drop 4 d.target.octets in
    let long : length now ≡ length d.target.octets = omega (arith, length-append header (drop 4 d.target.octets), length-drop 4 d.target.octets, h.long) in
    let same : drop 12 now ≡ drop 12 d.target.octets = drop-append-drop 4 d.target.octets header 12 (omega arith) four in
    record {
      long = omega (arith, h.long, long);
      few = h.few;
      read = λ head tail e.
          let old = h.read head tail e in
          record {
            entries = old.entries;
            read = ap (λ x. entries_at (head ++ (x ++ tail)) d.counts) same ∙ old.read ∙ ap (λ n. Some (old.entries, n)) (sym long);
            agree = old.agree;
          };
      places = λ head tail e. header_places header d c (head ++ (drop 12 now ++ tail)) four h (shown head now tail e);
    }

counts_found : (o : List ℕ) (counts : Counts) → (counts.questions < 65536) × (counts.answer < 65536) × (counts.authority < 65536) × (counts.additional < 65536) → Stands o 4 (counts_spelling counts) → counts_of o ≡ counts
unfolding counts_spelling
counts_found o counts few s =
    let Q : List ℕ = to_be_bytes w16 counts.questions in
    let N : List ℕ = to_be_bytes w16 counts.answer in
    let T : List ℕ = to_be_bytes w16 counts.authority in
    let D : List ℕ = to_be_bytes w16 counts.additional in
    let s2 = first_stands o (Q ++ N ++ T) D 4 s in
    let additional = second_stands o (Q ++ N ++ T) D 4 10 s refl in
    let s1 = first_stands o (Q ++ N) T 4 s2 in
    let authority = second_stands o (Q ++ N) T 4 8 s2 refl in
    let questions = first_stands o Q N 4 s1 in
    let answer = second_stands o Q N 4 6 s1 refl in
    rw (number_stands o counts.questions 4 questions few.0, number_stands o counts.answer 6 answer few.1, number_stands o counts.authority 8 authority few.2, number_stands o counts.additional 10 additional few.3) refl

reading_of : List ℕ → Counts → Entries → Reading
reading_of header counts e = record { header = header; counts = counts; questions = e.questions; answer = e.answer; authority = e.authority; additional = e.additional }

reads_parts : (o : List ℕ) (counts : Counts) (e : Entries) (end : ℕ) → 12 ≤ length o → counts_of o ≡ counts → Parts o counts e end → reads o ≡ Some (reading_of (take 4 o) counts e)
unfolding reads questions_of answer_of authority_of additional_of reading_of
reads_parts o counts e end long is p =
    let q : list_at (question_at o) (u16_at o 4) 12 ≡ Some (e.questions, p.questions_end) = ap (λ (c : Counts). list_at (question_at o) c.questions 12) is ∙ p.questions in
    let a : list_at (record_at o) (u16_at o 6) p.questions_end ≡ Some (e.answer, p.answer_end) = ap (λ (c : Counts). list_at (record_at o) c.answer p.questions_end) is ∙ p.answer in
    let u : list_at (record_at o) (u16_at o 8) p.answer_end ≡ Some (e.authority, p.authority_end) = ap (λ (c : Counts). list_at (record_at o) c.authority p.answer_end) is ∙ p.authority in
    let d : list_at (record_at o) (u16_at o 10) p.authority_end ≡ Some (e.additional, end) = ap (λ (c : Counts). list_at (record_at o) c.additional p.authority_end) is ∙ p.additional in
    rw (le-ltb (length o) 12 long, q, a, u, d) (ap (λ c. Some (reading_of (take 4 o) c e)) is)

finished_reads : (d : Draft) (c : Contents) → Holds d c → FinishedReads d c
unfolding finished counts_in header_in counts_spelling reading_of
finished_reads d c h =
    let front : List ℕ = take 4 d.target.octets in
    let header : List ℕ = front ++ counts_spelling d.counts in
    let o : List ℕ = header ++ drop 12 d.target.octets in
    let four : length front ≡ 4 = length-take-le 4 d.target.octets (omega (arith, h.long)) in
    let twelve : length header ≡ 12 = omega (arith, length-append front (counts_spelling d.counts), four) in
    let all = h.read header [] twelve in
    let whole : header ++ (drop 12 d.target.octets ++ []) ≡ o = ap (λ x. header ++ x) (append-nil (drop 12 d.target.octets)) in
    let read : entries_at o d.counts ≡ Some (all.entries, length d.target.octets) = ap (λ x. entries_at x d.counts) (sym whole) ∙ all.read in
    let stands : Stands o 4 (counts_spelling d.counts) = record { front = front; back = drop 12 d.target.octets; is = append_assoc front (counts_spelling d.counts) (drop 12 d.target.octets); long = four } in
    let counted = counts_found o d.counts h.few stands in
    let long : 12 ≤ length o = omega (arith, length-append header (drop 12 d.target.octets), twelve) in
    let head : take 4 o ≡ front = ap (take 4) (append_assoc front (counts_spelling d.counts) (drop 12 d.target.octets)) ∙ take_at front (counts_spelling d.counts ++ drop 12 d.target.octets) 4 four in
    record {
      reading = reading_of (take 4 o) d.counts all.entries;
      read = reads_parts o d.counts all.entries (length d.target.octets) long counted (found_parts o d.counts all.entries (length d.target.octets) read);
      is = record { header_is = head; counts_are = refl; agree = all.agree };
    }

holds_long : (d : Draft) (c : Contents) → Holds d c → 12 ≤ size d
unfolding size
holds_long d c h = h.long

pub draft_laws : DraftLaws
draft_laws = record {
  holds_long = holds_long;
  holds_nothing = holds_nothing;
  header_holds = header_holds;
  question_holds = question_holds;
  record_holds = record_holds;
  cleared_holds = cleared_holds;
  finished_reads = finished_reads;
}
