-- A message as a draft that begins with its own header: its octets, its counts, and where it differs from one under another header and name.
use Rattle.std.proofs.Common.{◌≡◌, ℕ, zero, suc, ◌+◌, ◌-◌, ◌<◌, ◌≤◌, ◌^◌, Bool, true, false, List, [], ◌∷◌, ◌++◌, length, take, drop, refl, ap, sym, subst, ◌∙◌, arith, length-append, append_assoc, append-nil, ◌==◌}
use Rattle.std.specs.Prelude.{map, replicate, if◌then◌else◌}
use Rattle.std.specs.List.{AllByRecursion}
use Rattle.std.specs.Int.{w16, to_be_bytes}
use Rattle.std.proofs.Math.Seq.{drop-append_seam}
use Rattle.dns_values.specs.declared.numbers.Section.{Section}
use Rattle.dns_values.specs.declared.numbers.Section.TheVariants.{Answer, Authority, Additional}
use Rattle.dns_names.specs.Name.{Labels, IsLegal, lowered, spelling, octet_count}
use Rattle.dns_names.proofs.NameLaws.{spelled_length}
use Rattle.dns_base.specs.Numbers.{u16_at}
use Rattle.dns_base.specs.Header.{Counts}
use Rattle.dns_base.specs.Sections.{counts_spelling}
use Rattle.dns_base.specs.Message.{Asked, Written}
use Rattle.dns_base.specs.Compression.{Compressed, name_octets, with_name, with_octets, with_question, with_record}
use Rattle.dns_base.specs.Draft.{with_header, finished}
use Rattle.dns_base.specs.Holding.{IsAskable, IsWritable}
use Rattle.dns_base.proofs.Places.{back_count}
use Rattle.dns_base.proofs.Stands.{number_stands}
use Rattle.right_trace.specs.Views.{with_name as named}
use Rattle.cache_rules.specs.declared.copying.Ttls.{Ttls}
use Rattle.cache_rules.specs.declared.copying.Ttls.TheVariants.{Lessened, Stale}
use Rattle.cache_rules.specs.Viewing.{ttl_by, ttl_then}
use Rattle.message_patching.specs.Patching.{put_over, puts}
use Rattle.message_patching.proofs.Twins.{Twins, AreSame, Reads, name_reads, names_seen, twins_question, twins_record, twins_octets, twins_long, record_reads}
use Rattle.message_patching.proofs.Putting.{IsIn}
use Rattle.message_patching.proofs.Mending.{Mended, all_records, retimed, pushed, differing}
use Rattle.message_patching.proofs.Carrying.{drawn, all_questions}

-- twelve octets: a header, and counts
abbrev pub headed : List ℕ → Counts → Compressed
headed header counts = record { octets = header ++ counts_spelling counts; places = [] }

abbrev pub bare : Compressed
bare = record { octets = replicate 12 0; places = [] }

counts_long : (counts : Counts) → length (counts_spelling counts) ≡ 8
unfolding counts_spelling
counts_long counts = refl

pub headed_long : (header : List ℕ) (counts : Counts) → length header ≡ 4 → length (header ++ counts_spelling counts) ≡ 12
headed_long header counts e = omega (arith, length-append header (counts_spelling counts), counts_long counts, e)

-- the four counts where they stand
pub record CountsAre (o : List ℕ) (counts : Counts) : Type 0 where
  pub questions : u16_at o 4 ≡ counts.questions
  pub answer : u16_at o 6 ≡ counts.answer
  pub authority : u16_at o 8 ≡ counts.authority
  pub additional : u16_at o 10 ≡ counts.additional

abbrev pub AreFew : Counts → Type 0
AreFew counts = (counts.questions < 65536) × (counts.answer < 65536) × (counts.authority < 65536) × (counts.additional < 65536)

pub counts_read : (header : List ℕ) (counts : Counts) (back : List ℕ) → length header ≡ 4 → AreFew counts → CountsAre ((header ++ counts_spelling counts) ++ back) counts
unfolding counts_spelling
counts_read header counts back e few =
    let q : List ℕ = to_be_bytes w16 counts.questions in
    let a : List ℕ = to_be_bytes w16 counts.answer in
    let u : List ℕ = to_be_bytes w16 counts.authority in
    let d : List ℕ = to_be_bytes w16 counts.additional in
    let o : List ℕ = (header ++ (q ++ (a ++ (u ++ d)))) ++ back in
    record {
      questions = number_stands o counts.questions 4 (record { front = header; back = a ++ (u ++ (d ++ back)); is = simp append_assoc; long = e }) few.0;
      answer = number_stands o counts.answer 6 (record { front = header ++ q; back = u ++ (d ++ back); is = simp append_assoc; long = omega (arith, length-append header q, e) }) few.1;
      authority = number_stands o counts.authority 8 (record { front = header ++ (q ++ a); back = d ++ back; is = simp append_assoc; long = omega (arith, length-append header (q ++ a), e) }) few.2;
      additional = number_stands o counts.additional 10 (record { front = header ++ (q ++ (a ++ u)); back = back; is = simp append_assoc; long = omega (arith, length-append header (q ++ (a ++ u)), e) }) few.3;
    }

-- a finished draft is what was pushed behind its header
pub finished_is : (header : List ℕ) (counts : Counts) (c : Compressed) (back : List ℕ) → length header ≡ 4 → c.octets ≡ replicate 12 0 ++ back
    → finished (with_header header (drawn c counts)) ≡ (header ++ counts_spelling counts) ++ back
unfolding finished with_header
finished_is [] counts c back e is = absurd cc
finished_is (x ∷ []) counts c back e is = absurd cc
finished_is (x ∷ y ∷ []) counts c back e is = absurd cc
finished_is (x ∷ y ∷ z ∷ []) counts c back e is = absurd cc
finished_is (x ∷ y ∷ z ∷ t ∷ []) counts c back e is = ap (λ o. x ∷ y ∷ z ∷ t ∷ (counts_spelling counts ++ drop 8 (drop 4 o))) is
finished_is (x ∷ y ∷ z ∷ t ∷ s ∷ header) counts c back e is = absurd (omega (arith, e))

-- questions and records on two drafts alike

asked_under : (name : Labels) (q : Asked) → IsLegal name → IsAskable q → IsAskable (named name q)
asked_under name q legal h = record { name = legal; rtype = h.rtype; class = h.class }

twins_questions : (name : Labels) (qs : List Asked) (c d : Compressed) (p q : List ℕ) → IsLegal name → AllByRecursion IsAskable qs → Twins c d p q → Twins (all_questions name qs c) (all_questions name qs d) p q
twins_questions name [] c d p q legal h t = t
twins_questions name (a ∷ qs) c d p q legal h t =
    twins_questions name qs (with_question (named name a) c) (with_question (named name a) d) p q legal h.1 (twins_question (named name a) c d p q (asked_under name a legal h.0) t)

twins_records : (ws : List Written) (c d : Compressed) (p q : List ℕ) → AllByRecursion IsWritable ws → Twins c d p q → Twins (all_records ws c) (all_records ws d) p q
twins_records [] c d p q h t = t
twins_records (w ∷ ws) c d p q h t = twins_records ws (with_record w c) (with_record w d) p q h.1 (twins_record w c d p q h.0 t)

pub records_read : (ws : List Written) (c : Compressed) → AllByRecursion IsWritable ws → Reads c → Reads (all_records ws c)
records_read [] c h own = own
records_read (w ∷ ws) c h own = records_read ws (with_record w c) h.1 (record_reads w c h.0 own)

-- the entries of a message
abbrev pub run : Labels → List Asked → (answer authority additional : List Written) → Compressed → Compressed
run name qs a u d c = all_records d (all_records u (all_records a (all_questions name qs c)))

pub headed_run : (header : List ℕ) (counts : Counts) (name : Labels) (qs : List Asked) (a u d : List Written) → length header ≡ 4 → IsLegal name
    → AllByRecursion IsAskable qs → AllByRecursion IsWritable a → AllByRecursion IsWritable u → AllByRecursion IsWritable d
    → Twins (run name qs a u d bare) (run name qs a u d (headed header counts)) (replicate 12 0) (header ++ counts_spelling counts)
headed_run header counts name qs a u d e legal hq ha hu hd =
    let p : List ℕ = replicate 12 0 in
    let h : List ℕ = header ++ counts_spelling counts in
    let start : Twins bare (headed header counts) p h = record { back = []; first = refl; second = sym (append-nil h); long = sym (headed_long header counts e); places = refl; seen = tt; mine = tt; other = tt } in
    twins_records d _ _ p h hd (twins_records u _ _ p h hu (twins_records a _ _ p h ha (twins_questions name qs bare (headed header counts) p h legal hq start)))

-- what is finished is what was pushed behind the header itself
pub finished_run : (header : List ℕ) (counts : Counts) (name : Labels) (qs : List Asked) (a u d : List Written) → length header ≡ 4 → IsLegal name
    → AllByRecursion IsAskable qs → AllByRecursion IsWritable a → AllByRecursion IsWritable u → AllByRecursion IsWritable d
    → finished (with_header header (drawn (run name qs a u d bare) counts)) ≡ (run name qs a u d (headed header counts)).octets
finished_run header counts name qs a u d e legal hq ha hu hd =
    let t = headed_run header counts name qs a u d e legal hq ha hu hd in
    finished_is header counts (run name qs a u d bare) t.back e t.first ∙ sym t.second

-- records with other TTLs can be written

less_short : (n : Ttls) (ttl : ℕ) → ttl < 2 ^ 32 → ttl_by n ttl < 2 ^ 32
less_short (Lessened n) ttl lt = omega arith
less_short Stale ttl lt = omega arith

then_short : (s : Section) (n : Ttls) (t ttl : ℕ) → ttl < 2 ^ 32 → ttl_then s n t ttl < 2 ^ 32
then_short Answer n t ttl lt = less_short n ttl lt
then_short Authority n t ttl lt = less_short n ttl lt
then_short Additional n t ttl lt = go (t == 41)
  where
    go : (b : Bool) → (if b then ttl else ttl_by n ttl) < 2 ^ 32
    go true = lt
    go false = less_short n ttl lt

pub retimed_writable : (s : Section) (n : Ttls) (ws : List Written) → AllByRecursion IsWritable ws → AllByRecursion IsWritable (map (retimed s n) ws)
retimed_writable s n [] h = tt
retimed_writable s n (w ∷ ws) h =
    (record { owner = h.0.owner; rtype = h.0.rtype; class = h.0.class; ttl = then_short s n w.rtype w.ttl h.0.ttl; typed = h.0.typed; short = h.0.short; content = h.0.content }, retimed_writable s n ws h.1)

-- where two messages differ before their records

pub headers_mended : (first second : List ℕ) (counts : Counts) → length first ≡ 4 → length second ≡ 4 → Mended ((0, second) ∷ []) (headed first counts) (headed second counts)
headers_mended first second counts e f =
    let n : List ℕ = counts_spelling counts in
    let same : 0 + length second ≡ length first = omega (arith, e, f) in
    let behind : drop (0 + length second) (first ++ n) ≡ n = ap (λ k. drop k (first ++ n)) same ∙ drop-append_seam first n in
    record {
      twins = record { back = []; first = sym (append-nil (first ++ n)); second = sym (append-nil (second ++ n)); long = omega (arith, headed_long first counts e, headed_long second counts f); places = refl; seen = tt; mine = tt; other = tt };
      within = (omega (arith, headed_long first counts e, f), tt);
      is = ap (λ x. second ++ x) (sym behind);
    }

-- with no place to point to, a name is spelled out
pub plain_name : (here : List ℕ) (labels : Labels) → name_octets (record { octets = here; places = [] }) labels ≡ spelling labels
plain_name here [] = refl
plain_name here (label ∷ labels) = ap (λ x. length label ∷ label ++ x) (plain_name here labels)

name_mended : (ws : List (ℕ × List ℕ)) (ls ms : Labels) (here there : List ℕ) → lowered ls ≡ lowered ms → IsLegal ls → IsLegal ms
    → Mended ws (record { octets = here; places = [] }) (record { octets = there; places = [] })
    → Mended (ws ++ (length here, spelling ms) ∷ []) (with_name ls (record { octets = here; places = [] })) (with_name ms (record { octets = there; places = [] }))
unfolding with_name with_octets
name_mended ws ls ms here there e legal lawful m =
    let c : Compressed = record { octets = here; places = [] } in
    let d : Compressed = record { octets = there; places = [] } in
    let counts : length (spelling ls) ≡ length (spelling ms) = spelled_length ls ∙ back_count ls ms e ∙ sym (spelled_length ms) in
    let both = names_seen c d ls ms e legal lawful (twins_long c d here there m.twins) refl tt tt tt in
    let plain = differing ws c d (spelling ls) (spelling ms) counts m in
    let to : List (ℕ × List ℕ) = ws ++ (length here, spelling ms) ∷ [] in
    let one : here ++ name_octets c ls ≡ here ++ spelling ls = ap (λ x. here ++ x) (plain_name here ls) in
    let other : there ++ name_octets d ms ≡ there ++ spelling ms = ap (λ x. there ++ x) (plain_name there ms) in
    record {
      twins = record {
        back = [];
        first = sym (append-nil (here ++ name_octets c ls));
        second = sym (append-nil (there ++ name_octets d ms));
        long = omega (arith, ap length one, ap length other, length-append here (spelling ls), length-append there (spelling ms), counts, twins_long c d here there m.twins);
        places = both.0;
        seen = both.1;
        mine = name_reads ls c legal tt;
        other = name_reads ms d lawful tt;
      };
      within = subst (λ x. AllByRecursion (IsIn (length x)) to) (sym one) plain.within;
      is = other ∙ plain.is ∙ ap (puts to) (sym one);
    }

pub question_mended : (ws : List (ℕ × List ℕ)) (ls ms : Labels) (q : Asked) (here there : List ℕ) → lowered ls ≡ lowered ms → IsLegal ls → IsLegal ms
    → Mended ws (record { octets = here; places = [] }) (record { octets = there; places = [] })
    → Mended (ws ++ (length here, spelling ms) ∷ []) (with_question (named ls q) (record { octets = here; places = [] })) (with_question (named ms q) (record { octets = there; places = [] }))
unfolding with_question
question_mended ws ls ms q here there e legal lawful m =
    let to : List (ℕ × List ℕ) = ws ++ (length here, spelling ms) ∷ [] in
    let n = name_mended ws ls ms here there e legal lawful m in
    pushed to _ _ _ _ n (twins_octets (to_be_bytes w16 q.class) _ _ _ _ (twins_octets (to_be_bytes w16 q.rtype) _ _ _ _ n.twins))
