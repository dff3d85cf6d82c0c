-- What is made of a kept message is read as its view.
use Rattle.std.proofs.Common.{◌≡◌, ℕ, ◌+◌, ◌-◌, ◌*◌, ◌/◌, ◌^◌, Bool, true, false, inl, inr, List, [], ◌∷◌, take, refl, ap, ap₂, sym, subst, ◌∙◌, arith, ◌&&◌, ◌==◌}
use Rattle.std.specs.Prelude.{Option, Some, None, Result, Ok, Err, map, option_map, option_and_then, if◌then◌else◌, bit_and, not, IfOk, IfErr}
use Rattle.std.specs.List.{AllByRecursion, AllZip}
use Rattle.std.specs.Option.{option_or, option_map_or}
use Rattle.std.proofs.lemmas.Bool.{eqb-true}
use Rattle.std.proofs.lemmas.List.{get_or-take}
use Rattle.dns_names.specs.Name.{Labels}
use Rattle.dns_names.proofs.Heads.{then_ok, none_some}
use Rattle.dns_values.specs.declared.error.ParseError.{ParseError}
use Rattle.dns_values.specs.declared.numbers.Section.{Section}
use Rattle.dns_values.specs.declared.numbers.Section.TheVariants.{Answer, Authority, Additional}
use Rattle.dns_base.specs.Header.{counts_of, rcode_of}
use Rattle.dns_base.specs.Data.{Data}
use Rattle.dns_base.specs.Message.{Asked, Known, Written, Reading, reads, header_of, all_read, answer_items, authority_items, additional_items}
use Rattle.dns_base.specs.Knowing.{Knowing, knows, meaning_of, meanings_of, lowered_asked}
use Rattle.dns_base.specs.OptRecord.{opt_fields, first_opt, opt_of, opt_rcode}
use Rattle.dns_base.specs.Draft.{fresh, with_header, finished}
use Rattle.dns_base.specs.Holding.{Contents, ReadsAs}
use Rattle.dns_base.proofs.Holding.{draft_laws}
use Rattle.dns_base.proofs.Steps.{draft_steps}
use Rattle.dns_base.proofs.Readings.{reading_laws}
use Rattle.client_request.specs.Composed.{Copied, ◌>>◌, section_items, error_of, message_of}
use Rattle.client_request.specs.declared.error.CopyRecordsError.{CopyRecordsError}
use Rattle.client_request.specs.declared.error.CopyRecordsError.TheVariants.{Parse}
use Rattle.client_request.specs.declared.error.Error.TheVariants as errors
use Rattle.client_request.specs.declared.error.Error.{Error}
use Rattle.client_request.specs.Composing.{IsComposed}
use Rattle.right_trace.specs.Messages.{Octets}
use Rattle.right_trace.specs.Keys.{FlagClass, Key, is_signing}
use Rattle.right_trace.specs.Parts.{Header, Item, Parts, typed, flags_in, known_parts, lowered_item, lowered_parts, Says}
use Rattle.right_trace.specs.Views.{viewed_header, with_name, leaves_out, lessened, mostly_lessened, with_ttl, mostly_with_ttl, all_with_ttl, without_signing, viewed}
use Rattle.cache_rules.specs.declared.copying.Ttls.{Ttls}
use Rattle.cache_rules.specs.declared.copying.Ttls.TheVariants.{Lessened, Stale}
use Rattle.cache_rules.specs.Viewing.{ttl_by, ttl_then, aged, mostly_aged, viewed_by, carries_all, carried, octets_by, header_between, drops_signing, under_header, IsViewable, SaysEntries, SaysView, SaysExpired, IsRefusedView}
use Rattle.cache_rules.proofs.Headers.{header_viewed}
use Rattle.cache_rules.proofs.WhatIsMet.{some_inside, header_is}
use Rattle.cache_rules.proofs.DataBack.{Lies, record_lies, Comes, meant}
use Rattle.cache_rules.proofs.Carrying.{Each, section_good, given, as_read, meanings_in, AllCarried, Unread, UnreadQuestions, UnreadSection, carrying_all}

-- what a message is read as by type

knowing_of : Reading → List Written → List Written → List Written → Knowing
knowing_of r a u d = record { header = r.header; questions = r.questions; answer = a; authority = u; additional = d }

pub record Knows (m : Octets) (x : Parts Data) : Type 0 where
  pub reading : Reading
  pub read : reads m ≡ Some reading
  pub answer : List Written
  pub authority : List Written
  pub additional : List Written
  pub answer_means : meanings_of reading.answer ≡ Some answer
  pub authority_means : meanings_of reading.authority ≡ Some authority
  pub additional_means : meanings_of reading.additional ≡ Some additional
  pub parts_are : record { header = flags_in reading.header; code = opt_rcode m; questions = reading.questions; answer = map typed answer; authority = map typed authority; additional = map typed additional } ≡ x

pub what_is_known : (m : Octets) (x : Parts Data) → known_parts m ≡ Some x → Knows m x
unfolding known_parts knows
what_is_known m x e =
    let known = some_inside _ (knows m) x e in
    let r = then_ok (reads m) _ known.0 known.1 in
    let a = then_ok (meanings_of r.0.answer) _ known.0 r.2 in
    let u = then_ok (meanings_of r.0.authority) _ known.0 a.2 in
    let d = then_ok (meanings_of r.0.additional) _ known.0 u.2 in
    record {
      reading = r.0;
      read = r.1;
      answer = a.0;
      authority = u.0;
      additional = d.0;
      answer_means = a.1;
      authority_means = u.1;
      additional_means = d.1;
      parts_are = ap (λ (o : Option Knowing). option_map_or (λ k. record { header = flags_in k.header; code = opt_rcode m; questions = k.questions; answer = map typed k.answer; authority = map typed k.authority; additional = map typed k.additional }) o x) d.2 ∙ known.2;
    }

pub known_from : (m : Octets) (r : Reading) (a u d : List Written) → reads m ≡ Some r → meanings_of r.answer ≡ Some a → meanings_of r.authority ≡ Some u → meanings_of r.additional ≡ Some d
    → known_parts m ≡ Some (record { header = flags_in r.header; code = opt_rcode m; questions = r.questions; answer = map typed a; authority = map typed u; additional = map typed d })
unfolding known_parts knows
known_from m r a u d e ea eu ed = rw (e, ea, eu, ed) refl

-- a part that is not read by type

means_section : (o : Option (List (Result Known ParseError))) (ks : List Known) (ws : List Written) → option_and_then all_read o ≡ Some ks → meanings_of ks ≡ Some ws → option_and_then meanings_in o ≡ Some ws
means_section None ks ws e f = none_some e
means_section (Some items) ks ws e f = ap (option_and_then meanings_of) e ∙ f

unread_unknown : (m : Octets) (x : Parts Data) → Unread m → known_parts m ≡ Some x → ⊥
unread_unknown m x (UnreadQuestions none) e =
    let k = what_is_known m x e in
    none_some (sym none ∙ (reading_laws.items_are_read m k.reading k.read).questions_are)
unread_unknown m x (UnreadSection Answer none) e =
    let k = what_is_known m x e in
    none_some (sym none ∙ means_section (answer_items m) k.reading.answer k.answer (reading_laws.items_are_read m k.reading k.read).answer_is k.answer_means)
unread_unknown m x (UnreadSection Authority none) e =
    let k = what_is_known m x e in
    none_some (sym none ∙ means_section (authority_items m) k.reading.authority k.authority (reading_laws.items_are_read m k.reading k.read).authority_is k.authority_means)
unread_unknown m x (UnreadSection Additional none) e =
    let k = what_is_known m x e in
    none_some (sym none ∙ means_section (additional_items m) k.reading.additional k.additional (reading_laws.items_are_read m k.reading k.read).additional_is k.additional_means)

unknown : (m : Octets) → Unread m → known_parts m ≡ None
unknown m none = go (known_parts m) refl
  where
    go : (o : Option (Parts Data)) → known_parts m ≡ o → o ≡ None
    go None e = refl
    go (Some x) e = absurd (unread_unknown m x none e)

-- records that are read back

each_read : {A : Type 0} (P : A → Type 0) (items : List (Result A ParseError)) (xs : List A) → Each P items → all_read items ≡ Some xs → AllByRecursion P xs
each_read P [] xs h e = let is : [] ≡ xs = cc in subst (AllByRecursion P) is tt
each_read P (Err x ∷ items) xs h e = none_some e
each_read P (Ok x ∷ items) xs h e = let rest = some_inside (λ ys. x ∷ ys) (all_read items) xs e in subst (AllByRecursion P) rest.2 (h.0, each_read P items rest.0 h.1 rest.1)

all_lie : (s : Section) (y : Octets) (ks : List Known) → option_and_then all_read (section_items s y) ≡ Some ks → AllByRecursion (Lies y) ks
all_lie s y ks e = let found = then_ok (section_items s y) all_read ks e in each_read (Lies y) found.0 ks (section_good (Lies y) y (record_lies y) s found.0 found.1) found.2

-- what records that are read back mean is what was written, but for case
record Back (ks : List Known) (ws : List Written) : Type 0 where
  written : List Written
  mean : meanings_of ks ≡ Some written
  same : map lowered_item (map typed written) ≡ map lowered_item (map typed ws)

same_item : {o1 o2 : Labels} {t1 t2 c1 c2 l1 l2 : ℕ} {d1 d2 : Data} → o1 ≡ o2 → t1 ≡ t2 → c1 ≡ c2 → l1 ≡ l2 → d1 ≡ d2
    → Path (Item Data) (record { owner = o1; rtype = t1; class = c1; ttl = l1; content = d1 }) (record { owner = o2; rtype = t2; class = c2; ttl = l2; content = d2 })
same_item o t c l d = cc

means_more : (k : Known) (x : Data) (ks : List Known) (ws : List Written) → k.says ≡ Some x → meanings_of ks ≡ Some ws → meanings_of (k ∷ ks) ≡ Some (as_read k.entry x ∷ ws)
means_more k x ks ws e f = ap₂ (λ o p. option_and_then (λ first. option_and_then (λ rest. Some (first ∷ rest)) p) (option_map (as_read k.entry) o)) e f

back : (y : Octets) (ks : List Known) (ws : List Written) → AllByRecursion (Lies y) ks → AllByRecursion (λ (w : Written). Comes w.rtype w.content) ws → AllZip ReadsAs ks ws → Back ks ws
back y [] [] lie come zip = record { written = []; mean = refl; same = refl }
back y [] (w ∷ ws) lie come zip = absurd zip
back y (k ∷ ks) [] lie come zip = absurd zip
back y (k ∷ ks) (w ∷ ws) lie come zip =
    let rest = back y ks ws lie.1 come.1 zip.1 in
    let m = meant y k w.content lie.0 (subst (λ t. Comes t w.content) (sym zip.0.rtype) come.0) zip.0.content in
    record {
      written = as_read k.entry m.content ∷ rest.written;
      mean = means_more k m.content ks rest.written m.says rest.mean;
      same = ap₂ (λ x xs. x ∷ xs) (same_item zip.0.owner zip.0.rtype zip.0.class zip.0.ttl m.same) rest.same;
    }

-- records that are given

given_come : (s : Section) (b : Bool) (n : Ttls) (ws : List Written) → AllByRecursion (λ (w : Written). Comes w.rtype w.content) ws → AllByRecursion (λ (w : Written). Comes w.rtype w.content) (given s b n ws)
given_come s b n [] h = tt
given_come s b n (w ∷ ws) h = go (b && is_signing w.rtype) (given_come s b n ws h.1)
  where
    go : (z : Bool) → AllByRecursion (λ (w : Written). Comes w.rtype w.content) (given s b n ws) → AllByRecursion (λ (w : Written). Comes w.rtype w.content) (if z then given s b n ws else record w { ttl = ttl_then s n w.rtype w.ttl } ∷ given s b n ws)
    go true ih = ih
    go false ih = (h.0, ih)

module _ (s : Section) (b : Bool) (n : Ttls) (f : Item Data → Item Data) (is : (w : Written) → typed (record w { ttl = ttl_then s n w.rtype w.ttl }) ≡ f (typed w)) where
  given_items : (ws : List Written) → map typed (given s b n ws) ≡ map f (without_signing b (map typed ws))
  given_items [] = refl
  given_items (w ∷ ws) = go (b && is_signing w.rtype) (given_items ws)
    where
      go : (z : Bool) → map typed (given s b n ws) ≡ map f (without_signing b (map typed ws)) → map typed (if z then given s b n ws else record w { ttl = ttl_then s n w.rtype w.ttl } ∷ given s b n ws) ≡ map f (if z then without_signing b (map typed ws) else typed w ∷ without_signing b (map typed ws))
      go true ih = ih
      go false ih = ap₂ (λ x xs. x ∷ xs) (is w) ih

mostly : (n : Ttls) (w : Written) → typed (record w { ttl = ttl_then Additional n w.rtype w.ttl }) ≡ mostly_aged n (typed w)
mostly (Lessened n) w = go (w.rtype == 41)
  where
    go : (z : Bool) → typed (record w { ttl = (if z then w.ttl else w.ttl - n) }) ≡ (if z then typed w else lessened n (typed w))
    go true = refl
    go false = refl
mostly Stale w = go (w.rtype == 41)
  where
    go : (z : Bool) → typed (record w { ttl = (if z then w.ttl else 30) }) ≡ (if z then typed w else with_ttl 30 (typed w))
    go true = refl
    go false = refl

each_aged : (n : Ttls) (w : Written) → typed (record w { ttl = ttl_by n w.ttl }) ≡ aged n (typed w)
each_aged (Lessened n) w = refl
each_aged Stale w = refl

-- the response code

-- the upper bits of the code, in the first OPT record
ext_of : List (Item Data) → ℕ
ext_of [] = 0
ext_of (x ∷ xs) = if x.rtype == 41 then x.ttl / 2 ^ 24 else ext_of xs

ext_lowered : (xs : List (Item Data)) → ext_of (map lowered_item xs) ≡ ext_of xs
unfolding ext_of
ext_lowered [] = refl
ext_lowered (x ∷ xs) = ap (λ n. if x.rtype == 41 then x.ttl / 2 ^ 24 else n) (ext_lowered xs)

ext_given : (b : Bool) (n : Ttls) (ws : List Written) → ext_of (map typed (given Additional b n ws)) ≡ ext_of (map typed ws)
unfolding ext_of
ext_given b n [] = refl
ext_given b n (w ∷ ws) = go (w.rtype == 41) refl b (ext_given b n ws)
  where
    go : (z : Bool) → (w.rtype == 41) ≡ z → (b : Bool) → ext_of (map typed (given Additional b n ws)) ≡ ext_of (map typed ws)
        → ext_of (map typed (if b && is_signing w.rtype then given Additional b n ws else record w { ttl = (if w.rtype == 41 then w.ttl else ttl_by n w.ttl) } ∷ given Additional b n ws)) ≡ (if w.rtype == 41 then w.ttl / 2 ^ 24 else ext_of (map typed ws))
    go true e b ih =
        let is : w.rtype ≡ 41 = eqb-true w.rtype 41 e in
        let none : (b && is_signing w.rtype) ≡ false = ap (λ t. b && is_signing t) is ∙ never b in
        ap (λ z. ext_of (map typed (if z then given Additional b n ws else record w { ttl = (if w.rtype == 41 then w.ttl else ttl_by n w.ttl) } ∷ given Additional b n ws))) none
        ∙ (ap (λ z. if z then (if z then w.ttl else ttl_by n w.ttl) / 2 ^ 24 else ext_of (map typed (given Additional b n ws))) e ∙ sym (ap (λ z. if z then w.ttl / 2 ^ 24 else ext_of (map typed ws)) e))
      where
        never : (b : Bool) → (b && is_signing 41) ≡ false
        never true = refl
        never false = refl
    go false e b ih = by (b && is_signing w.rtype) ∙ sym (ap (λ z. if z then w.ttl / 2 ^ 24 else ext_of (map typed ws)) e)
      where
        by : (y : Bool) → ext_of (map typed (if y then given Additional b n ws else record w { ttl = (if w.rtype == 41 then w.ttl else ttl_by n w.ttl) } ∷ given Additional b n ws)) ≡ ext_of (map typed ws)
        by true = ih
        by false = ap (λ z. if z then (if z then w.ttl else ttl_by n w.ttl) / 2 ^ 24 else ext_of (map typed (given Additional b n ws))) e ∙ ih

first_ext : (items : List (Result Known ParseError)) (ks : List Known) (ws : List Written) → all_read items ≡ Some ks → meanings_of ks ≡ Some ws → option_map_or (λ opt. opt.ext_rcode) (first_opt items) 0 ≡ ext_of (map typed ws)
unfolding ext_of
first_ext [] ks ws e f =
    let none : [] ≡ ks = cc in
    let is : [] ≡ ws = cc in
    ap (λ ws. ext_of (map typed ws)) is
first_ext (Err x ∷ items) ks ws e f = none_some e
first_ext (Ok k ∷ items) ks ws e f =
    let rest = some_inside (λ ks. k ∷ ks) (all_read items) ks e in
    let all : meanings_of (k ∷ rest.0) ≡ Some ws = ap meanings_of rest.2 ∙ f in
    let first = then_ok (meaning_of k) _ ws all in
    let more = then_ok (meanings_of rest.0) _ ws first.2 in
    let content = some_inside (as_read k.entry) k.says first.0 first.1 in
    let is : as_read k.entry content.0 ∷ more.0 ≡ ws = ap (λ w. w ∷ more.0) content.2 ∙ (let its = more.2 in cc) in
    go content.0 content.1 more.0 (first_ext items rest.0 more.0 rest.1 more.1) (k.entry.rtype == 41) refl ∙ ap (λ ws. ext_of (map typed ws)) is
  where
    go : (x : Data) → k.says ≡ Some x → (ws : List Written) → option_map_or (λ opt. opt.ext_rcode) (first_opt items) 0 ≡ ext_of (map typed ws) → (z : Bool) → (k.entry.rtype == 41) ≡ z
        → option_map_or (λ opt. opt.ext_rcode) (option_or (if k.entry.rtype == 41 then option_map (λ _. opt_fields k.entry) k.says else None) (first_opt items)) 0 ≡ (if k.entry.rtype == 41 then k.entry.ttl / 2 ^ 24 else ext_of (map typed ws))
    go x says ws ih true e =
        ap (λ z. option_map_or (λ opt. opt.ext_rcode) (option_or (if z then option_map (λ _. opt_fields k.entry) k.says else None) (first_opt items)) 0) e
        ∙ (ap (λ o. option_map_or (λ opt. opt.ext_rcode) (option_or (option_map (λ _. opt_fields k.entry) o) (first_opt items)) 0) says
        ∙ sym (ap (λ z. if z then k.entry.ttl / 2 ^ 24 else ext_of (map typed ws)) e))
    go x says ws ih false e =
        ap (λ z. option_map_or (λ opt. opt.ext_rcode) (option_or (if z then option_map (λ _. opt_fields k.entry) k.says else None) (first_opt items)) 0) e
        ∙ (ih ∙ sym (ap (λ z. if z then k.entry.ttl / 2 ^ 24 else ext_of (map typed ws)) e))

code_is : (o : Octets) (ks : List Known) (ws : List Written) → option_and_then all_read (additional_items o) ≡ Some ks → meanings_of ks ≡ Some ws → opt_rcode o ≡ 16 * ext_of (map typed ws) + rcode_of o
unfolding opt_rcode opt_of
code_is o ks ws e f =
    let found = then_ok (additional_items o) all_read ks e in
    ap (λ n. 16 * n + rcode_of o) (ap (λ p. option_map_or (λ opt. opt.ext_rcode) (option_and_then first_opt p) 0) found.1 ∙ first_ext found.0 ks ws found.2 f)

-- the whole message

zipped : {A B : Type 0} (f : A → B) (xs ys : List A) → AllZip (λ x y. f x ≡ f y) xs ys → map f xs ≡ map f ys
zipped f [] [] h = refl
zipped f [] (y ∷ ys) h = absurd h
zipped f (x ∷ xs) [] h = absurd h
zipped f (x ∷ xs) (y ∷ ys) h = ap₂ (λ z zs. z ∷ zs) h.0 (zipped f xs ys h.1)

pub rcode_kept : (y : Octets) → rcode_of (take 4 y) ≡ rcode_of y
rcode_kept y = ap (λ n. bit_and n 15) (get_or-take 4 y 3 0 (omega arith))

same_parts : {h1 h2 : Header} {c1 c2 : ℕ} {q1 q2 : List Asked} {a1 a2 u1 u2 d1 d2 : List (Item Data)} → h1 ≡ h2 → c1 ≡ c2 → q1 ≡ q2 → a1 ≡ a2 → u1 ≡ u2 → d1 ≡ d2
    → Path (Parts Data) (record { header = h1; code = c1; questions = q1; answer = a1; authority = u1; additional = d1 }) (record { header = h2; code = c2; questions = q2; answer = a2; authority = u2; additional = d2 })
same_parts h c q a u d = cc

module _ (h : List ℕ) (name : Labels) (b : Bool) (n : Ttls) (m : Octets) (ok : IsViewable h name m) (all : AllCarried name b n m (carries_all name b n m (fresh None))) where
  -- the message as it is read by type
  kept : Parts Data
  kept = record { header = flags_in (header_of m); code = opt_rcode m; questions = all.questions; answer = map typed all.answer.written; authority = map typed all.authority.written; additional = map typed all.additional.written }

  kept_is : known_parts m ≡ Some kept
  unfolding kept
  kept_is = known_from m (record { header = header_of m; counts = counts_of m; questions = all.questions; answer = all.answer.records; authority = all.authority.records; additional = all.additional.records })
      all.answer.written all.authority.written all.additional.written
      (reading_laws.read_is_items m all.questions all.answer.records all.authority.records all.additional.records ok.long
      (record { questions_are = all.asked; answer_is = all.answer.read; authority_is = all.authority.read; additional_is = all.additional.read }))
      all.answer.mean all.authority.mean all.additional.mean

  says_view : (q r : Key) → leaves_out q r ≡ b → rcode_of h ≡ rcode_of m → Says (finished (with_header h all.draft)) (under_header h (viewed_by q r name n kept))
  unfolding kept
  says_view q r drops code =
      let y : Octets = finished (with_header h all.draft) in
      let c : Contents = record { questions = map (with_name name) all.questions; answer = given Answer b n all.answer.written; authority = given Authority b n all.authority.written; additional = given Additional b n all.additional.written } in
      let read = draft_laws.finished_reads (with_header h all.draft) c (draft_laws.header_holds h all.draft c ok.header_is all.holds) in
      let items = reading_laws.items_are_read y read.reading read.read in
      let head : read.reading.header ≡ h = read.is.header_is ∙ draft_steps.headers.header h all.draft ok.header_is in
      let a = back y read.reading.answer c.answer (all_lie Answer y read.reading.answer items.answer_is) (given_come Answer b n all.answer.written all.answer.comes) read.is.agree.answer in
      let u = back y read.reading.authority c.authority (all_lie Authority y read.reading.authority items.authority_is) (given_come Authority b n all.authority.written all.authority.comes) read.is.agree.authority in
      let d = back y read.reading.additional c.additional (all_lie Additional y read.reading.additional items.additional_is) (given_come Additional b n all.additional.written all.additional.comes) read.is.agree.additional in
      let known = known_from y read.reading a.written u.written d.written read.read a.mean u.mean d.mean in
      let ext : ext_of (map typed d.written) ≡ ext_of (map typed all.additional.written) = sym (ext_lowered (map typed d.written)) ∙ (ap ext_of d.same ∙ (ext_lowered (map typed c.additional) ∙ ext_given b n all.additional.written)) in
      let rcode : rcode_of y ≡ rcode_of m = sym (rcode_kept y) ∙ (ap rcode_of (sym (header_is y read.reading read.read) ∙ head) ∙ code) in
      let codes : opt_rcode y ≡ opt_rcode m = code_is y read.reading.additional d.written items.additional_is d.mean ∙ (ap₂ (λ i j. 16 * i + j) ext rcode ∙ sym (code_is m all.additional.records all.additional.written all.additional.read all.additional.mean)) in
      let one : (s : Section) → ((w : Written) → typed (record w { ttl = ttl_then s n w.rtype w.ttl }) ≡ aged n (typed w)) → (ws : List Written) → map typed (given s b n ws) ≡ map (aged n) (without_signing (leaves_out q r) (map typed ws)) =
      λ s is ws. given_items s b n (aged n) is ws ∙ ap (λ z. map (aged n) (without_signing z (map typed ws))) (sym drops) in
      let most : map typed (given Additional b n all.additional.written) ≡ map (mostly_aged n) (without_signing (leaves_out q r) (map typed all.additional.written)) =
      given_items Additional b n (mostly_aged n) (mostly n) all.additional.written ∙ ap (λ z. map (mostly_aged n) (without_signing z (map typed all.additional.written))) (sym drops) in
      ap (option_map lowered_parts) known
      ∙ ap Some (same_parts (ap flags_in head) codes (zipped lowered_asked read.reading.questions c.questions read.is.agree.questions)
      (a.same ∙ ap (map lowered_item) (one Answer (each_aged n) all.answer.written))
      (u.same ∙ ap (map lowered_item) (one Authority (each_aged n) all.authority.written))
      (d.same ∙ ap (map lowered_item) most))

-- What comes of a kept message: octets that say its view, or no message where its data can't be read.
pub record IsViewMade (h : List ℕ) (name : Labels) (b : Bool) (n : Ttls) (m octets : Octets) : Type 0 where
  pub parts : Parts Data
  pub known : known_parts m ≡ Some parts
  pub says : (q r : Key) → leaves_out q r ≡ b → rcode_of h ≡ rcode_of m → Says octets (under_header h (viewed_by q r name n parts))

pub view_made : (h : List ℕ) (name : Labels) (b : Bool) (n : Ttls) (m octets : Octets) → IsViewable h name m → octets_by h name b n m ≡ Ok octets → IsViewMade h name b n m octets
unfolding octets_by carried
view_made h name b n m octets ok e = elim (carrying_all name b n m ok.legal ok.octets) [
  | inl stop ↦ (let z : Err (error_of (Parse stop.error)) ≡ Ok octets = sym (ap (λ o. message_of (o >> (λ all. Ok (with_header h all)))) stop.at) ∙ e in absurd (cc))
  | inr all ↦
      let z : Ok (finished (with_header h all.draft)) ≡ Ok octets = sym (ap (λ o. message_of (o >> (λ all. Ok (with_header h all)))) all.done) ∙ e in
      let same : finished (with_header h all.draft) ≡ octets = cc in
      record {
        parts = kept h name b n m ok all;
        known = kept_is h name b n m ok all;
        says = λ q r drops code. subst (λ o. Says o (under_header h (viewed_by q r name n (kept h name b n m ok all)))) same (says_view h name b n m ok all q r drops code);
      }
]

pub view_refused : (h : List ℕ) (name : Labels) (b : Bool) (n : Ttls) (m : Octets) (x : CopyRecordsError) → IsViewable h name m → carries_all name b n m (fresh None) ≡ Err x → (error_of x ≡ errors.MessageParseError) × (known_parts m ≡ None)
view_refused h name b n m x ok e = elim (carrying_all name b n m ok.legal ok.octets) [
  | inl stop ↦ (let same : Path Copied (Err x) (Err (Parse stop.error)) = sym e ∙ stop.at in let is : x ≡ Parse stop.error = cc in (ap error_of is, unknown m stop.unread))
  | inr all ↦ (let done : Path Copied (Err x) (Ok all.draft) = sym e ∙ all.done in absurd (cc))
]

-- what the results of the calls that make views say

pub says_entries : (h : List ℕ) (from to : FlagClass) (name : Labels) (n : Ttls) (m : Octets) (result : Result Octets Error) → IsViewable h name m → IsComposed (octets_by h name (drops_signing from to) n m) result
    → IfOk result (SaysEntries h from to name n m)
says_entries h from to name n m (Err e) ok made = tt
says_entries h from to name n m (Ok octets) ok made =
    let v = view_made h name (drops_signing from to) n m octets ok made in
    record { parts = v.parts; known = v.known; says = λ q r first second code. v.says q r (ap₂ drops_signing first second) code }

refused_octets : (h : List ℕ) (name : Labels) (b : Bool) (n : Ttls) (m : Octets) (e : Error) → IsViewable h name m → octets_by h name b n m ≡ Err e → IsRefusedView m e
unfolding octets_by carried
refused_octets h name b n m e ok is = go (carries_all name b n m (fresh None)) refl is
  where
    go : (o : Copied) → carries_all name b n m (fresh None) ≡ o → message_of (o >> (λ all. Ok (with_header h all))) ≡ Err e → IsRefusedView m e
    go (Ok d) q f = absurd (cc)
    go (Err x) q f = let why = view_refused h name b n m x ok q in let same : error_of x ≡ e = cc in inr (sym same ∙ why.0, why.1)

pub refused_view : (h : List ℕ) (name : Labels) (b : Bool) (n : Ttls) (m : Octets) (result : Result Octets Error) → IsViewable h name m → IsComposed (octets_by h name b n m) result → IfErr result (IsRefusedView m)
refused_view h name b n m (Ok octets) ok made = tt
refused_view h name b n m (Err e) ok (inl memory) = inl memory
refused_view h name b n m (Err e) ok (inr is) = refused_octets h name b n m e ok is

pub header_between_same : (f1 f2 t1 t2 : FlagClass) (b1 b2 : Bool) (h : List ℕ) → f1 ≡ f2 → t1 ≡ t2 → b1 ≡ b2 → header_between f1 t1 b1 h ≡ header_between f2 t2 b2 h
header_between_same f1 f2 t1 t2 b1 b2 h f t b = cc

pub says_message : (from to : FlagClass) (b : Bool) (name : Labels) (n : Ttls) (m : Octets) (result : Result Octets Error) → IsViewable (header_of m) name m
    → IfOk result (SaysEntries (header_between from to b (header_of m)) from to name n m) → IfOk result (SaysView from to b name n m)
says_message from to b name n m (Err e) ok says = tt
says_message from to b name n m (Ok octets) ok said = record {
  parts = said.parts;
  known = said.known;
  says = λ q r between.
      let k = what_is_known m said.parts said.known in
      let h : List ℕ = header_between from to b (header_of m) in
      let flags : flags_in h ≡ viewed_header q r (flags_in (header_of m)) =
      ap flags_in (sym (header_between_same q.flags from r.flags to (q.rd && not r.rd) b (header_of m) between.first between.second between.recursion)) ∙ header_viewed q r (header_of m) ok.header_is in
      let code : rcode_of h ≡ rcode_of m = ap (λ (v : Header). v.rcode) flags ∙ rcode_kept m in
      let its : flags_in (header_of m) ≡ said.parts.header = ap flags_in (sym (header_is m k.reading k.read)) ∙ ap (λ (p : Parts Data). p.header) k.parts_are in
      subst (λ (v : Header). Says octets (record (viewed_by q r name n said.parts) { header = v })) (flags ∙ ap (viewed_header q r) its) (said.says q r between.first between.second code);
}

-- a message that has expired

set_twice : (xs : List (Item Data)) → map (with_ttl 30) (map (lessened 0) xs) ≡ map (with_ttl 30) xs
set_twice [] = refl
set_twice (x ∷ xs) = ap (λ ys. with_ttl 30 x ∷ ys) (set_twice xs)

mostly_twice : (xs : List (Item Data)) → map (mostly_with_ttl 30) (map (mostly_lessened 0) xs) ≡ map (mostly_with_ttl 30) xs
mostly_twice [] = refl
mostly_twice (x ∷ xs) = ap₂ (λ y ys. y ∷ ys) (go (x.rtype == 41) refl) (mostly_twice xs)
  where
    go : (z : Bool) → (x.rtype == 41) ≡ z → mostly_with_ttl 30 (if z then x else lessened 0 x) ≡ (if z then x else with_ttl 30 x)
    go true e = ap (λ z. if z then x else with_ttl 30 x) e
    go false e = ap (λ z. if z then lessened 0 x else with_ttl 30 x) e

expired_view : (q r : Key) (name : Labels) (x : Parts Data) → viewed_by q r name Stale x ≡ all_with_ttl 30 (viewed q r name 0 x)
expired_view q r name x = same_parts refl refl refl (sym (set_twice (without_signing (leaves_out q r) x.answer))) (sym (set_twice (without_signing (leaves_out q r) x.authority))) (sym (mostly_twice (without_signing (leaves_out q r) x.additional)))

pub says_expired : (h : List ℕ) (flags : FlagClass) (name : Labels) (m : Octets) (result : Result Octets Error) → IsViewable h name m → IsComposed (octets_by h name (drops_signing flags flags) Stale m) result
    → IfOk result (SaysExpired h flags name m)
says_expired h flags name m (Err e) ok made = tt
says_expired h flags name m (Ok octets) ok made =
    let v = view_made h name (drops_signing flags flags) Stale m octets ok made in
    record { parts = v.parts; known = v.known; says = λ k first code. subst (λ x. Says octets (under_header h x)) (expired_view k k name v.parts) (v.says k k (ap₂ drops_signing first first) code) }
