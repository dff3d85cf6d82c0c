-- What is met of a message, section by section, is its validity.
use Rattle.std.proofs.Common.{◌≡◌, ℕ, suc, zero, ◌≤◌, Bool, true, false, List, [], ◌∷◌, length, refl, ap, ap₂, sym, ◌∙◌, arith, inl, inr, ◌&&◌, ◌||◌, ◌==◌}
use Rattle.std.specs.Prelude.{Option, Some, None, is_some, option_map, option_and_then, if◌then◌else◌, Result, Ok, Err, map, min, not, nat_lt}
use Rattle.std.specs.Option.{option_map_or}
use Rattle.std.proofs.lemmas.Bool.{ne_eqb}
use Rattle.std.proofs.lemmas.List.{get_or-take}
use Rattle.dns_names.proofs.Heads.{then_ok, none_some, chosen}
use Rattle.dns_values.specs.declared.error.ParseError.{ParseError}
use Rattle.dns_values.specs.declared.numbers.Section.{Section}
use Rattle.dns_values.specs.declared.numbers.Section.TheVariants.{Answer, Authority, Additional}
use Rattle.dns_base.specs.Numbers.{u16_at}
use Rattle.dns_base.specs.Header.{has_bit, tc_of}
use Rattle.dns_base.specs.Message.{Asked, Known, Written, Reading, reads, header_of, question_at, record_at, list_at, items_at, item_then, all_read, first_question, questions_of, answer_of, authority_of, additional_of, answer_items, authority_items, additional_items}
use Rattle.dns_base.specs.Answering.{question_items}
use Rattle.dns_base.specs.Data.{Data}
use Rattle.dns_base.specs.Knowing.{Knowing, meaning_of, meanings_of, knows}
use Rattle.dns_base.specs.Numbers.{◌>>=◌}
use Rattle.dns_base.specs.OptRecord.{opt_rcode}
use Rattle.dns_base.specs.ReadingLaws.{ItemsAre}
use Rattle.dns_base.proofs.Lists.{items_are_list}
use Rattle.dns_base.proofs.Readings.{reading_laws}
use Rattle.client_settings.specs.Settings.{CacheSettings, seconds}
use Rattle.right_trace.specs.Messages.{Octets, truncated}
use Rattle.right_trace.specs.Parts.{Item, Parts, raw, typed, flags_in, read_parts, known_parts}
use Rattle.right_trace.specs.Validity.{second, has_item, least, without_opt, good_limit, absent_limit, limit, validity_read, validity_of_message}
use Rattle.cache_rules.specs.Validity.{cached_by, meets, section_meets, limit_asked, limit_absent, limit_met, least_with, least_met, least_in, least_of, are_known, section_is_known, is_known, if_known, validity_met}

-- what may be kept for no time is so whether its data is read or not
pub nothing_either_way : (b : Bool) → 0 ≡ if_known b 0
nothing_either_way true = refl
nothing_either_way false = refl

pub some_inside : {A B : Type 0} → (f : A → B) (o : Option A) (y : B) → option_map f o ≡ Some y → (x : A) × (o ≡ Some x) × (f x ≡ y)
some_inside f None y e = none_some e
some_inside f (Some x) y e = (x, refl, cc)

-- the least TTL

-- the records of a section that have a TTL
having_ttl : Section → List Known → List (Item Octets)
having_ttl Answer ks = map raw ks
having_ttl Authority ks = map raw ks
having_ttl Additional ks = without_opt (map raw ks)

one_more : (s : Section) (k : Known) (ks : List Known) (n : ℕ) → least (least_with s k n) (having_ttl s ks) ≡ least n (having_ttl s (k ∷ ks))
unfolding having_ttl second
one_more Answer k ks n = refl
one_more Authority k ks n = refl
one_more Additional k ks n = go (k.entry.rtype == 41)
  where
    go : (b : Bool) → least (if not b then min n (seconds k.entry.ttl) else n) (without_opt (map raw ks)) ≡ least n (if b then without_opt (map raw ks) else raw k ∷ without_opt (map raw ks))
    go true = refl
    go false = refl

none_left : (s : Section) (n : ℕ) → Some n ≡ Some (least n (having_ttl s []))
unfolding having_ttl
none_left Answer n = refl
none_left Authority n = refl
none_left Additional n = refl

least_read : (s : Section) (items : List (Result Known ParseError)) (n : ℕ) → least_met s items n ≡ option_map (λ ks. least n (having_ttl s ks)) (all_read items)
least_read s [] n = none_left s n
least_read s (Err e ∷ items) n = refl
least_read s (Ok k ∷ items) n = least_read s items (least_with s k n) ∙ go (all_read items)
  where
    go : (o : Option (List Known)) → option_map (λ ks. least (least_with s k n) (having_ttl s ks)) o ≡ option_map (λ ks. least n (having_ttl s ks)) (option_map (λ ks. k ∷ ks) o)
    go None = refl
    go (Some ks) = ap Some (one_more s k ks n)

-- a record that is met

met_read : (t c : ℕ) (items : List (Result Known ParseError)) (ks : List Known) → all_read items ≡ Some ks → meets t c items ≡ has_item t c (map raw ks)
met_read t c [] ks e = let is : [] ≡ ks = cc in ap (λ ks. has_item t c (map raw ks)) is
met_read t c (Err x ∷ items) ks e = none_some e
met_read t c (Ok k ∷ items) ks e =
    let rest = some_inside (λ ks. k ∷ ks) (all_read items) ks e in
    ap (λ b. ((k.entry.rtype == t) && (k.entry.class == c)) || b) (met_read t c items rest.0 rest.1) ∙ ap (λ ks. has_item t c (map raw ks)) rest.2

-- a section whose records are read
record IsReadSection (section : Option (List (Result Known ParseError))) (ks : List Known) : Type 0 where
  items : List (Result Known ParseError)
  is : section ≡ Some items
  read : all_read items ≡ Some ks

section_read : (section : Option (List (Result Known ParseError))) (ks : List Known) → option_and_then all_read section ≡ Some ks → IsReadSection section ks
section_read section ks e = let found = then_ok section all_read ks e in record { items = found.0; is = found.1; read = found.2 }

met_in : (t c : ℕ) (section : Option (List (Result Known ParseError))) (ks : List Known) → option_and_then all_read section ≡ Some ks → section_meets t c section ≡ has_item t c (map raw ks)
met_in t c section ks e = let x = section_read section ks e in ap (section_meets t c) x.is ∙ met_read t c x.items ks x.read

found_in : (s : Section) (section : Option (List (Result Known ParseError))) (ks : List Known) (n : ℕ) → option_and_then all_read section ≡ Some ks → least_in s section n ≡ Some (least n (having_ttl s ks))
found_in s section ks n e =
    let x = section_read section ks e in
    ap (λ o. least_in s o n) x.is ∙ (least_read s x.items n ∙ ap (option_map (λ ks. least n (having_ttl s ks))) x.read)

-- the first question

first_in : List Asked → Option Asked
first_in [] = None
first_in (q ∷ qs) = Some q

first_of : (one : ℕ → Option (Asked × ℕ)) (n at : ℕ) (qs : List Asked) → all_read (items_at one n at) ≡ Some qs → (if n == 0 then None else option_map (λ x. x.0) (one at)) ≡ first_in qs
unfolding items_at first_in
first_of one zero at qs e = let is : [] ≡ qs = cc in ap first_in is
first_of one (suc n) at qs e = let some : (suc n == 0) ≡ false = ne_eqb (suc n) 0 (λ s. omega arith) in rw some (here (one at) e)
  where
    here : (o : Option (Asked × ℕ)) → all_read (item_then (λ end. items_at one n end) o) ≡ Some qs → option_map (λ x. x.0) o ≡ first_in qs
    here None f = none_some f
    here (Some x) f = let rest = some_inside (λ qs. x.0 ∷ qs) (all_read (items_at one n x.1)) qs f in ap first_in rest.2

first_is : (m : Octets) (qs : List Asked) → all_read (question_items m) ≡ Some qs → first_question m ≡ first_in qs
unfolding first_question
first_is m qs e = first_of (question_at m) (u16_at m 4) 12 qs e

-- the limit

-- the parts of a reading
abbrev parts_of : Octets → Reading → Parts Octets
parts_of m r = record { header = flags_in r.header; code = opt_rcode m; questions = r.questions; answer = map raw r.answer; authority = map raw r.authority; additional = map raw r.additional }

limit_asked_is : (c : CacheSettings) (m : Octets) (r : Reading) (qs : List Asked) → option_and_then all_read (answer_items m) ≡ Some r.answer → option_and_then all_read (authority_items m) ≡ Some r.authority
    → limit_asked c m (first_in qs) ≡ good_limit (cached_by c) (parts_of m r) qs
unfolding first_in
limit_asked_is c m r [] a u = refl
limit_asked_is c m r (q ∷ qs) a u =
    ap₂ (λ x y. if x then c.max_validity else y) (met_in q.rtype q.class (answer_items m) r.answer a)
    (ap₂ (λ x y. if x then c.max_nodata_validity else (if y then c.max_delegation_validity else 0)) (met_in 6 q.class (authority_items m) r.authority u) (met_in 2 q.class (authority_items m) r.authority u))

limit_absent_is : (c : CacheSettings) (m : Octets) (r : Reading) (qs : List Asked) → option_and_then all_read (authority_items m) ≡ Some r.authority → limit_absent c m (first_in qs) ≡ absent_limit (cached_by c) (parts_of m r) qs
unfolding first_in
limit_absent_is c m r [] u = refl
limit_absent_is c m r (q ∷ qs) u = ap (λ x. if x then c.max_nxdomain_validity else 0) (met_in 6 q.class (authority_items m) r.authority u)

limit_is : (c : CacheSettings) (m : Octets) (r : Reading) → ItemsAre m r.questions r.answer r.authority r.additional → limit_met c m ≡ limit (cached_by c) (parts_of m r)
limit_is c m r items =
    let first = first_is m r.questions items.questions_are in
    ap₂ (λ n a. if opt_rcode m == 0 then n else (if opt_rcode m == 3 then a else c.misc_error_duration))
    (ap (limit_asked c m) first ∙ limit_asked_is c m r r.questions items.answer_is items.authority_is)
    (ap (limit_absent c m) first ∙ limit_absent_is c m r r.questions items.authority_is)

-- a message that is read

pub header_is : (m : Octets) (r : Reading) → reads m ≡ Some r → r.header ≡ header_of m
unfolding reads
header_is m r e = elim (chosen (nat_lt (length m) 12) None _ (Some r) e) [
  | inl short ↦ none_some short.1
  | inr long ↦
      let q = then_ok (questions_of m) _ r long.1 in
      let a = then_ok (answer_of m) _ r q.2 in
      let u = then_ok (authority_of m) _ r a.2 in
      let x = then_ok (additional_of m) _ r u.2 in
      ap (λ (o : Option Reading). option_map_or (λ r. r.header) o (header_of m)) (sym x.2)
]

pub header_tc : (m : Octets) (r : Reading) → reads m ≡ Some r → (flags_in r.header).tc ≡ tc_of m
header_tc m r e = ap (λ h. (flags_in h).tc) (header_is m r e) ∙ ap (has_bit 2) (get_or-take 4 m 2 0 (omega arith))

least_is : (m : Octets) (r : Reading) (n : ℕ) → ItemsAre m r.questions r.answer r.authority r.additional
    → least_of m n ≡ Some (least (least (least n (map raw r.answer)) (map raw r.authority)) (without_opt (map raw r.additional)))
unfolding having_ttl
least_is m r n items =
    ap (λ o. option_and_then (least_in Additional (additional_items m)) (option_and_then (least_in Authority (authority_items m)) o)) (found_in Answer (answer_items m) r.answer n items.answer_is)
    ∙ (ap (option_and_then (least_in Additional (additional_items m))) (found_in Authority (authority_items m) r.authority (least n (map raw r.answer)) items.authority_is)
    ∙ found_in Additional (additional_items m) r.additional (least (least n (map raw r.answer)) (map raw r.authority)) items.additional_is)

-- the data of records that is read by type

meaning_known : (k : Known) → is_some k.says ≡ is_some (meaning_of k)
meaning_known k = go k.says
  where
    go : (o : Option Data) → is_some o ≡ is_some {T = Written} (option_map (λ content. record { owner = k.entry.owner; rtype = k.entry.rtype; class = k.entry.class; ttl = k.entry.ttl; content = content }) o)
    go None = refl
    go (Some x) = refl

both_meant : (o : Option Written) (p : Option (List Written)) → (is_some o && is_some p) ≡ is_some (option_and_then (λ w. option_and_then (λ ws. Some (w ∷ ws)) p) o)
both_meant None p = refl
both_meant (Some w) None = refl
both_meant (Some w) (Some ws) = refl

known_meant : (items : List (Result Known ParseError)) (ks : List Known) → all_read items ≡ Some ks → are_known items ≡ is_some (meanings_of ks)
known_meant [] ks e = let is : [] ≡ ks = cc in ap (λ ks. is_some (meanings_of ks)) is
known_meant (Err x ∷ items) ks e = none_some e
known_meant (Ok k ∷ items) ks e =
    let rest = some_inside (λ ks. k ∷ ks) (all_read items) ks e in
    ap₂ (λ a b. a && b) (meaning_known k) (known_meant items rest.0 rest.1)
    ∙ (both_meant (meaning_of k) (meanings_of rest.0) ∙ ap (λ ks. is_some (meanings_of ks)) rest.2)

section_meant : (section : Option (List (Result Known ParseError))) (ks : List Known) → option_and_then all_read section ≡ Some ks → section_is_known section ≡ is_some (meanings_of ks)
section_meant section ks e = let x = section_read section ks e in ap section_is_known x.is ∙ known_meant x.items ks x.read

known_is : (m : Octets) (r : Reading) → ItemsAre m r.questions r.answer r.authority r.additional → reads m ≡ Some r → is_known m ≡ is_some (known_parts m)
unfolding known_parts knows
known_is m r items e =
    ap₂ (λ a b. a && b) (section_meant (answer_items m) r.answer items.answer_is)
    (ap₂ (λ a b. a && b) (section_meant (authority_items m) r.authority items.authority_is) (section_meant (additional_items m) r.additional items.additional_is))
    ∙ rw e (all_meant (meanings_of r.answer) (meanings_of r.authority) (meanings_of r.additional))
  where
    all_meant : (a u d : Option (List Written)) → (is_some a && (is_some u && is_some d)) ≡ is_some {T = Parts Data} (option_map (λ (x : Knowing). record { header = flags_in x.header; code = opt_rcode m; questions = x.questions; answer = map typed x.answer; authority = map typed x.authority; additional = map typed x.additional })
        (a >>= (λ answer. u >>= (λ authority. d >>= (λ additional. Some (record { header = r.header; questions = r.questions; answer = answer; authority = authority; additional = additional }))))))
    all_meant None u d = refl
    all_meant (Some a) None d = refl
    all_meant (Some a) (Some u) None = refl
    all_meant (Some a) (Some u) (Some d) = refl

met_of_read : (c : CacheSettings) (m : Octets) (r : Reading) → reads m ≡ Some r → validity_met c m ≡ validity_of_message (cached_by c) m
unfolding validity_of_message truncated read_parts
met_of_read c m r e = go (tc_of m && not c.cache_truncated) refl
  where
    items : ItemsAre m r.questions r.answer r.authority r.additional
    items = reading_laws.items_are_read m r e

    start : limit_met c m ≡ limit (cached_by c) (parts_of m r)
    start = limit_is c m r items

    start_at : ℕ
    start_at = min c.max_validity (limit (cached_by c) (parts_of m r))

    least_then : ℕ
    least_then = least (least (least start_at (map raw r.answer)) (map raw r.authority)) (without_opt (map raw r.additional))

    go : (b : Bool) → (tc_of m && not c.cache_truncated) ≡ b → (if b then Some 0 else option_map (if_known (is_known m)) (least_of m (min c.max_validity (limit_met c m)))) ≡ (if b then Some 0 else validity_read (cached_by c) (is_some (known_parts m)) (option_map (parts_of m) (reads m)))
    go true is = refl
    go false is =
        let tc : ((flags_in r.header).tc && not c.cache_truncated) ≡ false = ap (λ b. b && not c.cache_truncated) (header_tc m r e) ∙ is in
        ap (λ l. option_map (if_known (is_known m)) (least_of m (min c.max_validity l))) start
        ∙ (ap (option_map (if_known (is_known m))) (least_is m r start_at items)
        ∙ (ap₂ (λ k b. Some (if_known k (if b then 0 else least_then))) (known_is m r items e) (sym tc)
        ∙ ap (λ o. validity_read (cached_by c) (is_some (known_parts m)) (option_map (parts_of m) o)) (sym e)))

-- a message that is not read

-- a section of which each TTL is met is read
pub read_of_least : (s : Section) (section : Option (List (Result Known ParseError))) (n v : ℕ) → least_in s section n ≡ Some v → (ks : List Known) × (option_and_then all_read section ≡ Some ks)
read_of_least s None n v e = none_some e
read_of_least s (Some items) n v e = let found = some_inside (λ ks. least n (having_ttl s ks)) (all_read items) v (sym (least_read s items n) ∙ e) in (found.0, found.1)

questions_read : (m : Octets) (ks : List Known) → option_and_then all_read (answer_items m) ≡ Some ks → (qs : List Asked) × (all_read (question_items m) ≡ Some qs)
unfolding answer_items questions_of
questions_read m ks e =
    let found = then_ok (answer_items m) all_read ks e in
    let before = some_inside (λ (x : List Asked × ℕ). items_at (record_at m) (u16_at m 6) x.1) (list_at (question_at m) (u16_at m 4) 12) found.0 found.1 in
    (before.0.0, items_are_list (question_at m) (u16_at m 4) 12 ∙ ap (option_map (λ (y : List Asked × ℕ). y.0)) before.1)

read_of_all : (m : Octets) (n v : ℕ) → 12 ≤ length m → least_of m n ≡ Some v → (r : Reading) × (reads m ≡ Some r)
read_of_all m n v long e =
    let before = then_ok (option_and_then (least_in Authority (authority_items m)) (least_in Answer (answer_items m) n)) (least_in Additional (additional_items m)) v e in
    let first = then_ok (least_in Answer (answer_items m) n) (least_in Authority (authority_items m)) before.0 before.1 in
    let a = read_of_least Answer (answer_items m) n first.0 first.1 in
    let u = read_of_least Authority (authority_items m) first.0 before.0 first.2 in
    let d = read_of_least Additional (additional_items m) before.0 v before.2 in
    let q = questions_read m a.0 a.1 in
    let is = reading_laws.read_is_items m q.0 a.0 u.0 d.0 long (record { questions_are = q.1; answer_is = a.1; authority_is = u.1; additional_is = d.1 }) in
    (_, is)

met_of_unread : (c : CacheSettings) (m : Octets) → 12 ≤ length m → reads m ≡ None → validity_met c m ≡ validity_of_message (cached_by c) m
unfolding validity_of_message truncated read_parts
met_of_unread c m long e = go (tc_of m && not c.cache_truncated)
  where
    none : (n : ℕ) (o : Option ℕ) → least_of m n ≡ o → o ≡ None
    none n None is = refl
    none n (Some v) is = let r = read_of_all m n v long is in none_some (sym e ∙ r.1)

    go : (b : Bool) → (if b then Some 0 else option_map (if_known (is_known m)) (least_of m (min c.max_validity (limit_met c m)))) ≡ (if b then Some 0 else validity_read (cached_by c) (is_some (known_parts m)) (option_map (parts_of m) (reads m)))
    go true = refl
    go false = ap (option_map (if_known (is_known m))) (none (min c.max_validity (limit_met c m)) (least_of m (min c.max_validity (limit_met c m))) refl)
        ∙ ap (λ o. validity_read (cached_by c) (is_some (known_parts m)) (option_map (parts_of m) o)) (sym e)

-- The least of what is met is the validity.
pub met_is : (c : CacheSettings) (m : Octets) → 12 ≤ length m → validity_met c m ≡ validity_of_message (cached_by c) m
met_is c m long = go (reads m) refl
  where
    go : (o : Option Reading) → reads m ≡ o → validity_met c m ≡ validity_of_message (cached_by c) m
    go None e = met_of_unread c m long e
    go (Some r) e = met_of_read c m r e
