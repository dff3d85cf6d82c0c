-- What is read of a message is what a request has, where the tests say so.
use Rattle.std.proofs.Common.{◌≡◌, ℕ, Bool, true, false, ◌&&◌, ◌==◌, List, [], ◌∷◌, ◌++◌, refl, sym, ap, ◌∙◌, subst, map, not, if◌then◌else◌}
use Rattle.std.specs.Prelude.{Option, Some, None, Result, Ok, Err, option_map, option_and_then}
use Rattle.std.specs.List.{AllZip, filter}
use Rattle.dns_values.specs.declared.error.ParseError.{ParseError}
use Rattle.dns_values.specs.declared.numbers.Section.{Section}
use Rattle.dns_names.specs.Name.{same_name, lowered}
use Rattle.dns_base.specs.Data.{Data, A, Aaaa, One, Minfo, Mx, StartOfAuthority, Service, Named, Txt, Opt, Other}
use Rattle.dns_base.specs.{DataReading.DataReadsAs, OptRecord.OptFields}
use Rattle.dns_base.specs.Knowing.{lowered_asked, lowered_data}
use Rattle.dns_base.specs.Message.{Asked, Known, Written, all_read}
use Rattle.dns_base.specs.Answering.{same_asked, same_items}
use Rattle.dns_base.specs.Holding.{AskedReadsAs, ReadsAs}
use Rattle.client_request.specs.Request.{opt_written}
use Rattle.client_request.specs.Composed.{written_from, is_replaced}
use Rattle.client_request.specs.Carries.{sent_from, opt_records}
use Rattle.message_judging.specs.matching.Shapes.{same_octets, same_shape, shape_of, plain_octets}
use Rattle.message_judging.specs.matching.Matching.{says_as, data_reads_as, reads_as, is_none_left, begins_with, behind_first, is_last, carries_items}
use Rattle.message_judging.proofs.lemmas.matching.Names.{both, all, same_number, number_same, octets_same, same_octets_are, name_same, same_names_are}
use Rattle.message_judging.proofs.lemmas.matching.Shaping.{data_same, same_data_is}

says : (f : Option Data) (d : Data) → says_as f d ≡ true → option_map lowered_data f ≡ Some (lowered_data d)
says None d e = absurd (cc)
says (Some f) d e = ap Some (data_same f d e)

said : (f : Option Data) (d : Data) → option_map lowered_data f ≡ Some (lowered_data d) → says_as f d ≡ true
said None d e = absurd (let z : None ≡ Some (lowered_data d) = e in cc)
said (Some f) d e = same_data_is f d (let z : Some (lowered_data f) ≡ Some (lowered_data d) = e in cc)

data_reads : (k : Known) (d : Data) → data_reads_as k d ≡ true → DataReadsAs k d
data_reads k (Txt o) e = octets_same k.entry.octets o e
data_reads k (Opt o) e = octets_same k.entry.octets o e
data_reads k (Other o) e = octets_same k.entry.octets o e
data_reads k (A o) e = says k.says (A o) e
data_reads k (Aaaa o) e = says k.says (Aaaa o) e
data_reads k (One t n) e = says k.says (One t n) e
data_reads k (Minfo a b) e = says k.says (Minfo a b) e
data_reads k (Mx p n) e = says k.says (Mx p n) e
data_reads k (StartOfAuthority s) e = says k.says (StartOfAuthority s) e
data_reads k (Service s) e = says k.says (Service s) e
data_reads k (Named it) e = says k.says (Named it) e

data_read : (k : Known) (d : Data) → DataReadsAs k d → data_reads_as k d ≡ true
data_read k (Txt o) e = same_octets_are k.entry.octets o e
data_read k (Opt o) e = same_octets_are k.entry.octets o e
data_read k (Other o) e = same_octets_are k.entry.octets o e
data_read k (A o) e = said k.says (A o) e
data_read k (Aaaa o) e = said k.says (Aaaa o) e
data_read k (One t n) e = said k.says (One t n) e
data_read k (Minfo a b) e = said k.says (Minfo a b) e
data_read k (Mx p n) e = said k.says (Mx p n) e
data_read k (StartOfAuthority s) e = said k.says (StartOfAuthority s) e
data_read k (Service s) e = said k.says (Service s) e
data_read k (Named it) e = said k.says (Named it) e

reads : (k : Known) (w : Written) → reads_as k w ≡ true → ReadsAs k w
reads k w e =
    let p = both (same_name k.entry.owner w.owner) _ e in
    let q = both (k.entry.rtype == w.rtype) _ p.1 in
    let r = both (k.entry.class == w.class) _ q.1 in
    let t = both (k.entry.ttl == w.ttl) (data_reads_as k w.content) r.1 in
    record {
      owner = name_same k.entry.owner w.owner p.0;
      rtype = number_same k.entry.rtype w.rtype q.0;
      class = number_same k.entry.class w.class r.0;
      ttl = number_same k.entry.ttl w.ttl t.0;
      content = data_reads k w.content t.1;
    }

is_read : (k : Known) (w : Written) → ReadsAs k w → reads_as k w ≡ true
is_read k w r =
    all (same_name k.entry.owner w.owner) _ (same_names_are k.entry.owner w.owner r.owner)
    (all (k.entry.rtype == w.rtype) _ (same_number k.entry.rtype w.rtype r.rtype)
    (all (k.entry.class == w.class) _ (same_number k.entry.class w.class r.class)
    (all (k.entry.ttl == w.ttl) (data_reads_as k w.content) (same_number k.entry.ttl w.ttl r.ttl) (data_read k w.content r.content))))

-- the records of a section
pub record AreSent (section : Section) (opt : Option OptFields) (found base : List (Result Known ParseError)) : Type 0 where
  pub records : List Known
  pub read : all_read found ≡ Some records
  pub source : List Known
  pub source_read : all_read base ≡ Some source
  pub agree : AllZip ReadsAs records (sent_from section source ++ opt_records opt)

begins : (w : Written) (found : List (Result Known ParseError)) → begins_with w found ≡ true → (k : Known) × (found ≡ Ok k ∷ behind_first found) × ReadsAs k w
begins w [] e = absurd (cc)
begins w (Err x ∷ found) e = absurd (cc)
begins w (Ok k ∷ found) e = (k, refl, reads k w e)

none_left : (found : List (Result Known ParseError)) → is_none_left found ≡ true → found ≡ []
none_left [] e = refl
none_left (x ∷ found) e = absurd (cc)

last_sent : (s : Section) (opt : Option OptFields) (found : List (Result Known ParseError)) → is_last opt found ≡ true → AreSent s opt found []
last_sent s None found e = record { records = []; read = ap all_read (none_left found e); source = []; source_read = refl; agree = tt }
last_sent s (Some opt) found e =
    let p = both (begins_with (opt_written opt) found) (is_none_left (behind_first found)) e in
    let b = begins (opt_written opt) found p.0 in
    record {
      records = b.0 ∷ [];
      read = ap all_read (b.1 ∙ ap (λ fs. Ok b.0 ∷ fs) (none_left (behind_first found) p.1));
      source = [];
      source_read = refl;
      agree = (b.2, tt);
    }

-- a record more of the base, which is left out or sent
source_more : (k : Known) (base : List (Result Known ParseError)) (ys : List Known) → all_read base ≡ Some ys → all_read (Ok k ∷ base) ≡ Some (k ∷ ys)
source_more k base ys e = ap (option_map (λ ys. k ∷ ys)) e

left_out : (s : Section) (k : Known) (ys : List Known) → is_replaced s k ≡ true → sent_from s (k ∷ ys) ≡ sent_from s ys
left_out s k ys e = ap (λ b. map written_from (if not b then k ∷ filter (λ known. not (is_replaced s known)) ys else filter (λ known. not (is_replaced s known)) ys)) e

sent_too : (s : Section) (k : Known) (ys : List Known) → is_replaced s k ≡ false → sent_from s (k ∷ ys) ≡ written_from k ∷ sent_from s ys
sent_too s k ys e = ap (λ b. map written_from (if not b then k ∷ filter (λ known. not (is_replaced s known)) ys else filter (λ known. not (is_replaced s known)) ys)) e

pub items_sent : (s : Section) (opt : Option OptFields) (found base : List (Result Known ParseError)) → carries_items s opt found base ≡ true → AreSent s opt found base
items_sent s opt found [] e = last_sent s opt found e
items_sent s opt found (Err x ∷ base) e = absurd (cc)
items_sent s opt found (Ok k ∷ base) e = go (is_replaced s k) refl (items_sent s opt found base) (items_sent s opt (behind_first found) base) e
  where
    go : (b : Bool) → is_replaced s k ≡ b → (carries_items s opt found base ≡ true → AreSent s opt found base) → (carries_items s opt (behind_first found) base ≡ true → AreSent s opt (behind_first found) base)
        → (if b then carries_items s opt found base else begins_with (written_from k) found && carries_items s opt (behind_first found) base) ≡ true → AreSent s opt found (Ok k ∷ base)
    go true i out sent e =
        let r = out e in
        record { records = r.records; read = r.read; source = k ∷ r.source; source_read = source_more k base r.source r.source_read; agree = subst (λ ws. AllZip ReadsAs r.records (ws ++ opt_records opt)) (sym (left_out s k r.source i)) r.agree }
    go false i out sent e =
        let p = both (begins_with (written_from k) found) (carries_items s opt (behind_first found) base) e in
        let b = begins (written_from k) found p.0 in
        let r = sent p.1 in
        record {
          records = b.0 ∷ r.records;
          read = ap all_read b.1 ∙ ap (option_map (λ xs. b.0 ∷ xs)) r.read;
          source = k ∷ r.source;
          source_read = source_more k base r.source r.source_read;
          agree = subst (λ ws. AllZip ReadsAs (b.0 ∷ r.records) (ws ++ opt_records opt)) (sym (sent_too s k r.source i)) (b.2, r.agree);
        }

-- and back: what agrees is found so
read_items : (found : List (Result Known ParseError)) (k : Known) (ks : List Known) → all_read found ≡ Some (k ∷ ks) → (rest : List (Result Known ParseError)) × (found ≡ Ok k ∷ rest) × (all_read rest ≡ Some ks)
read_items [] k ks e = absurd (let z : Some [] ≡ Some (k ∷ ks) = e in cc)
read_items (Err x ∷ found) k ks e = absurd (let z : None ≡ Some (k ∷ ks) = e in cc)
read_items (Ok j ∷ found) k ks e = go (all_read found) refl e
  where
    go : (o : Option (List Known)) → all_read found ≡ o → option_map (λ xs. j ∷ xs) o ≡ Some (k ∷ ks) → (rest : List (Result Known ParseError)) × (Path (List (Result Known ParseError)) (Ok j ∷ found) (Ok k ∷ rest)) × (all_read rest ≡ Some ks)
    go None i e = absurd (let z : None ≡ Some (k ∷ ks) = e in cc)
    go (Some xs) i e = let z : Some (j ∷ xs) ≡ Some (k ∷ ks) = e in let y : j ≡ k = cc in let x : xs ≡ ks = cc in (found, ap (λ j. Ok j ∷ found) y, i ∙ ap Some x)

no_items : (found : List (Result Known ParseError)) → all_read found ≡ Some [] → found ≡ []
no_items [] e = refl
no_items (Err x ∷ found) e = absurd (let z : None ≡ Some [] = e in cc)
no_items (Ok j ∷ found) e = absurd (go (all_read found) e)
  where
    go : (o : Option (List Known)) → option_map (λ xs. j ∷ xs) o ≡ Some [] → ⊥
    go None e = absurd (let z : None ≡ Some [] = e in cc)
    go (Some xs) e = absurd (let z : Some (j ∷ xs) ≡ Some [] = e in cc)

is_last_sent : (opt : Option OptFields) (found : List (Result Known ParseError)) (records : List Known) → all_read found ≡ Some records → AllZip ReadsAs records (opt_records opt) → is_last opt found ≡ true
is_last_sent None found [] e a = ap is_none_left (no_items found e)
is_last_sent None found (k ∷ ks) e a = absurd a
is_last_sent (Some opt) found [] e a = absurd a
is_last_sent (Some opt) found (k ∷ []) e a =
    let r = read_items found k [] e in
    ap (λ f. begins_with (opt_written opt) f && is_none_left (behind_first f)) (r.1 ∙ ap (λ rest. Ok k ∷ rest) (no_items r.0 r.2)) ∙ all (reads_as k (opt_written opt)) true (is_read k (opt_written opt) a.0) refl
is_last_sent (Some opt) found (k ∷ j ∷ ks) e a = absurd a.1

sent_so : (s : Section) (opt : Option OptFields) (base : List (Result Known ParseError)) (source : List Known) → all_read base ≡ Some source → (found : List (Result Known ParseError)) (records : List Known) → all_read found ≡ Some records
    → AllZip ReadsAs records (sent_from s source ++ opt_records opt) → carries_items s opt found base ≡ true
sent_so s opt [] [] b found records f a = is_last_sent opt found records f a
sent_so s opt [] (y ∷ ys) b found records f a = absurd (let z : Some [] ≡ Some (y ∷ ys) = b in cc)
sent_so s opt (Err x ∷ base) source b found records f a = absurd (let z : None ≡ Some source = b in cc)
sent_so s opt (Ok k ∷ base) source b found records f a = by (sent_so s opt base) (all_read base) refl b
  where
    by : ((source : List Known) → all_read base ≡ Some source → (found : List (Result Known ParseError)) (records : List Known) → all_read found ≡ Some records → AllZip ReadsAs records (sent_from s source ++ opt_records opt) → carries_items s opt found base ≡ true)
        → (o : Option (List Known)) → all_read base ≡ o → option_map (λ ys. k ∷ ys) o ≡ Some source → carries_items s opt found (Ok k ∷ base) ≡ true
    by again None i b = absurd (let z : None ≡ Some source = b in cc)
    by again (Some ys) i b = go (is_replaced s k) refl records f (subst (λ ws. AllZip ReadsAs records (sent_from s ws ++ opt_records opt)) (sym same) a)
      where
        same : k ∷ ys ≡ source
        same = let z : Some (k ∷ ys) ≡ Some source = b in cc

        go : (c : Bool) → is_replaced s k ≡ c → (records : List Known) → all_read found ≡ Some records → AllZip ReadsAs records (sent_from s (k ∷ ys) ++ opt_records opt)
            → (if c then carries_items s opt found base else begins_with (written_from k) found && carries_items s opt (behind_first found) base) ≡ true
        go true j records f a = again ys i found records f (subst (λ ws. AllZip ReadsAs records (ws ++ opt_records opt)) (left_out s k ys j) a)
        go false j [] f a = absurd (subst (λ ws. AllZip ReadsAs [] (ws ++ opt_records opt)) (sent_too s k ys j) a)
        go false j (x ∷ xs) f a =
            let z : ReadsAs x (written_from k) × AllZip ReadsAs xs (sent_from s ys ++ opt_records opt) = subst (λ ws. AllZip ReadsAs (x ∷ xs) (ws ++ opt_records opt)) (sent_too s k ys j) a in
            let r = read_items found x xs f in
            ap (λ f. begins_with (written_from k) f && carries_items s opt (behind_first f) base) r.1
            ∙ all (reads_as x (written_from k)) (carries_items s opt r.0 base) (is_read x (written_from k) z.0) (again ys i r.0 xs r.2 z.1)

pub sent_items : (s : Section) (opt : Option OptFields) (found base : List (Result Known ParseError)) → AreSent s opt found base → carries_items s opt found base ≡ true
sent_items s opt found base r = sent_so s opt base r.source r.source_read found r.records r.read r.agree

-- questions
asked_same : (a b : Asked) → same_asked a b ≡ true → AskedReadsAs a b
asked_same a b e =
    let p = both (same_name a.name b.name) _ e in
    let q = both (a.rtype == b.rtype) (a.class == b.class) p.1 in
    let n : lowered a.name ≡ lowered b.name = name_same a.name b.name p.0 in
    let t : a.rtype ≡ b.rtype = number_same a.rtype b.rtype q.0 in
    let c : a.class ≡ b.class = number_same a.class b.class q.1 in
    cc

same_asked_is : (a b : Asked) → AskedReadsAs a b → same_asked a b ≡ true
same_asked_is a b e =
    all (same_name a.name b.name) _ (same_names_are a.name b.name (ap (λ q. q.name) e))
    (all (a.rtype == b.rtype) (a.class == b.class) (same_number a.rtype b.rtype (ap (λ q. q.rtype) e)) (same_number a.class b.class (ap (λ q. q.class) e)))

pub record AreAsked (found base : List (Result Asked ParseError)) : Type 0 where
  pub questions : List Asked
  pub read : all_read found ≡ Some questions
  pub source : List Asked
  pub source_read : all_read base ≡ Some source
  pub agree : AllZip AskedReadsAs questions source

pub items_asked : (found base : List (Result Asked ParseError)) → same_items found base ≡ true → AreAsked found base
items_asked [] [] e = record { questions = []; read = refl; source = []; source_read = refl; agree = tt }
items_asked (Ok x ∷ xs) (Ok y ∷ ys) e =
    let p = both (same_asked x y) (same_items xs ys) e in
    let r = items_asked xs ys p.1 in
    record { questions = x ∷ r.questions; read = ap (option_map (λ xs. x ∷ xs)) r.read; source = y ∷ r.source; source_read = ap (option_map (λ ys. y ∷ ys)) r.source_read; agree = (asked_same x y p.0, r.agree) }
items_asked [] (y ∷ ys) e = absurd (cc)
items_asked (x ∷ xs) [] e = absurd (go x e)
  where
    go : (x : Result Asked ParseError) → same_items (x ∷ xs) [] ≡ true → ⊥
    go (Ok x) e = absurd (cc)
    go (Err x) e = absurd (cc)
items_asked (Err x ∷ xs) (y ∷ ys) e = absurd (cc)
items_asked (Ok x ∷ xs) (Err y ∷ ys) e = absurd (cc)

asked_so : (found base : List (Result Asked ParseError)) (qs source : List Asked) → all_read found ≡ Some qs → all_read base ≡ Some source → AllZip AskedReadsAs qs source → same_items found base ≡ true
asked_so [] [] qs source f b a = refl
asked_so [] (Err y ∷ ys) qs source f b a = absurd (let z : None ≡ Some source = b in cc)
asked_so [] (Ok y ∷ ys) qs source f b a = go (all_read ys) b
  where
    go : (o : Option (List Asked)) → option_map (λ ys. y ∷ ys) o ≡ Some source → same_items [] (Ok y ∷ ys) ≡ true
    go None b = absurd (let z : None ≡ Some source = b in cc)
    go (Some zs) b = absurd (let z : Some (y ∷ zs) ≡ Some source = b in let w : y ∷ zs ≡ source = cc in let u : [] ≡ qs = (let v : Some [] ≡ Some qs = f in cc) in subst (λ qs. AllZip AskedReadsAs qs (y ∷ zs)) (sym u) (subst (λ s. AllZip AskedReadsAs qs s) (sym w) a))
asked_so (Err x ∷ xs) base qs source f b a = absurd (let z : None ≡ Some qs = f in cc)
asked_so (Ok x ∷ xs) [] qs source f b a = go (all_read xs) f
  where
    go : (o : Option (List Asked)) → option_map (λ xs. x ∷ xs) o ≡ Some qs → same_items (Ok x ∷ xs) [] ≡ true
    go None f = absurd (let z : None ≡ Some qs = f in cc)
    go (Some zs) f = absurd (let z : Some (x ∷ zs) ≡ Some qs = f in let w : x ∷ zs ≡ qs = cc in let u : [] ≡ source = (let v : Some [] ≡ Some source = b in cc) in subst (λ s. AllZip AskedReadsAs (x ∷ zs) s) (sym u) (subst (λ q. AllZip AskedReadsAs q source) (sym w) a))
asked_so (Ok x ∷ xs) (Err y ∷ ys) qs source f b a = absurd (let z : None ≡ Some source = b in cc)
asked_so (Ok x ∷ xs) (Ok y ∷ ys) qs source f b a = go (asked_so xs ys) (all_read xs) refl f (all_read ys) refl b
  where
    go : ((qs source : List Asked) → all_read xs ≡ Some qs → all_read ys ≡ Some source → AllZip AskedReadsAs qs source → same_items xs ys ≡ true)
        → (o : Option (List Asked)) → all_read xs ≡ o → option_map (λ xs. x ∷ xs) o ≡ Some qs → (u : Option (List Asked)) → all_read ys ≡ u → option_map (λ ys. y ∷ ys) u ≡ Some source → (same_asked x y && same_items xs ys) ≡ true
    go again None i f u j b = absurd (let z : None ≡ Some qs = f in cc)
    go again (Some ks) i f None j b = absurd (let z : None ≡ Some source = b in cc)
    go again (Some ks) i f (Some bs) j b =
        let z : Some (x ∷ ks) ≡ Some qs = f in
        let w : Some (y ∷ bs) ≡ Some source = b in
        let p : x ∷ ks ≡ qs = cc in
        let q : y ∷ bs ≡ source = cc in
        let r : AskedReadsAs x y × AllZip AskedReadsAs ks bs = subst (λ q. AllZip AskedReadsAs q (y ∷ bs)) (sym p) (subst (λ s. AllZip AskedReadsAs qs s) (sym q) a) in
        all (same_asked x y) (same_items xs ys) (same_asked_is x y r.0) (again ks bs i j r.1)

pub asked_items : (found base : List (Result Asked ParseError)) → AreAsked found base → same_items found base ≡ true
asked_items found base r = asked_so found base r.questions r.source r.read r.source_read r.agree
