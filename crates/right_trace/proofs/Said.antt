-- What octets say, and views of it: case is nothing to a view, and data is nothing to a validity.
use Rattle.std.proofs.Common.{◌≡◌, ℕ, Bool, true, false, Option, Some, None, List, [], ◌∷◌, refl, sym, ◌∙◌, ap, ap₂, ◌==◌, ◌&&◌, ◌||◌}
use Rattle.std.specs.Prelude.{if◌then◌else◌, not, map, ◌/◌, ◌*◌, min, option_map, option_and_then}
use Rattle.dns_names.specs.Name.{Labels}
use Rattle.dns_base.specs.Data.{Data}
use Rattle.dns_base.specs.Message.{Asked, Known, Written, Reading, reads}
use Rattle.dns_base.specs.Knowing.{Knowing, knows, meanings_of, lowered_asked}
use Rattle.dns_base.specs.OptRecord.{opt_rcode}
use Rattle.client_request.specs.Request.{Request}
use Rattle.right_trace.specs.Messages.{Octets}
use Rattle.right_trace.specs.Settings.{Settings}
use Rattle.right_trace.specs.Keys.{Key, Covers, key_of, spelled_name, is_signing}
use Rattle.right_trace.specs.Parts.{Header, Item, Parts, raw, typed, flags_in, read_parts, known_parts, lowered_item, lowered_parts, Says}
use Rattle.right_trace.specs.Validity.{second, has_item, least, without_opt, good_limit, absent_limit, limit, validity_of_parts}
use Rattle.right_trace.specs.Views.{viewed_header, with_name, leaves_out, lessened, mostly_lessened, without_signing, viewed, view_of}
use Rattle.right_trace.proofs.Deriving.{views_compose}

-- Case

signing_lowered : (b : Bool) (xs : List (Item Data)) → map lowered_item (without_signing b xs) ≡ without_signing b (map lowered_item xs)
signing_lowered b [] = refl
signing_lowered b (x ∷ xs) = go (b && is_signing x.rtype) (signing_lowered b xs)
  where
    go : (z : Bool) → map lowered_item (without_signing b xs) ≡ without_signing b (map lowered_item xs)
        → map lowered_item (if z then without_signing b xs else x ∷ without_signing b xs) ≡ (if z then without_signing b (map lowered_item xs) else lowered_item x ∷ without_signing b (map lowered_item xs))
    go true i = i
    go false i = ap (λ t. lowered_item x ∷ t) i

lessened_lowered : (n : ℕ) (xs : List (Item Data)) → map lowered_item (map (lessened n) xs) ≡ map (lessened n) (map lowered_item xs)
lessened_lowered n [] = refl
lessened_lowered n (x ∷ xs) = ap (λ t. lowered_item (lessened n x) ∷ t) (lessened_lowered n xs)

mostly_lowered : (n : ℕ) (xs : List (Item Data)) → map lowered_item (map (mostly_lessened n) xs) ≡ map (mostly_lessened n) (map lowered_item xs)
mostly_lowered n [] = refl
mostly_lowered n (x ∷ xs) = ap₂ (λ a t. a ∷ t) (go (x.rtype == 41)) (mostly_lowered n xs)
  where
    go : (b : Bool) → lowered_item (if b then x else lessened n x) ≡ (if b then lowered_item x else lessened n (lowered_item x))
    go true = refl
    go false = refl

names_lowered : (o : Labels) (qs : List Asked) → map lowered_asked (map (with_name o) qs) ≡ map lowered_asked (map (with_name o) (map lowered_asked qs))
names_lowered o [] = refl
names_lowered o (q ∷ qs) = ap (λ t. lowered_asked (with_name o q) ∷ t) (names_lowered o qs)

-- a view of what says the same says the same
lowered_view : (k r : Key) (o : Labels) (n : ℕ) (x : Parts Data) → lowered_parts (viewed k r o n x) ≡ record {
  header = viewed_header k r x.header;
  code = x.code;
  questions = map lowered_asked (map (with_name o) (map lowered_asked x.questions));
  answer = map (lessened n) (without_signing (leaves_out k r) (map lowered_item x.answer));
  authority = map (lessened n) (without_signing (leaves_out k r) (map lowered_item x.authority));
  additional = map (mostly_lessened n) (without_signing (leaves_out k r) (map lowered_item x.additional));
}
lowered_view k r o n x = same x.code (viewed_header k r x.header) (names_lowered o x.questions) (one x.answer) (one x.authority) (most x.additional)
  where
    one : (xs : List (Item Data)) → map lowered_item (map (lessened n) (without_signing (leaves_out k r) xs)) ≡ map (lessened n) (without_signing (leaves_out k r) (map lowered_item xs))
    one xs = lessened_lowered n (without_signing (leaves_out k r) xs) ∙ ap (map (lessened n)) (signing_lowered (leaves_out k r) xs)

    most : (xs : List (Item Data)) → map lowered_item (map (mostly_lessened n) (without_signing (leaves_out k r) xs)) ≡ map (mostly_lessened n) (without_signing (leaves_out k r) (map lowered_item xs))
    most xs = mostly_lowered n (without_signing (leaves_out k r) xs) ∙ ap (map (mostly_lessened n)) (signing_lowered (leaves_out k r) xs)

    same : (code : ℕ) (h : Header) {q1 q2 : List Asked} {a1 a2 u1 u2 d1 d2 : List (Item Data)} → q1 ≡ q2 → a1 ≡ a2 → u1 ≡ u2 → d1 ≡ d2
        → Path (Parts Data) (record { header = h; code = code; questions = q1; answer = a1; authority = u1; additional = d1 }) (record { header = h; code = code; questions = q2; answer = a2; authority = u2; additional = d2 })
    same code h q a u d = cc

view_same : (k r : Key) (o : Labels) (n : ℕ) (x y : Parts Data) → lowered_parts x ≡ lowered_parts y → lowered_parts (viewed k r o n x) ≡ lowered_parts (viewed k r o n y)
view_same k r o n x y e =
    lowered_view k r o n x
    ∙ (ap (λ (z : Parts Data). record {
      header = viewed_header k r z.header;
      code = z.code;
      questions = map lowered_asked (map (with_name o) z.questions);
      answer = map (lessened n) (without_signing (leaves_out k r) z.answer);
      authority = map (lessened n) (without_signing (leaves_out k r) z.authority);
      additional = map (mostly_lessened n) (without_signing (leaves_out k r) z.additional);
    }) e ∙ sym (lowered_view k r o n y))

-- Octets that were derived from a message for m say its view; what is given of them to r says the view of the first message.
pub derived_says : (q m r : Request) (age : ℕ) (x : Parts Data) (derived given : Octets) (d : Parts Data) → Covers q m → Covers m r → known_parts derived ≡ Some d → Says derived (view_of q m 0 x) → Says given (view_of m r age d) → Says given (view_of q r age x)
derived_says q m r age x derived given d a b known says view =
    let z : Path (Option (Parts Data)) (Some (lowered_parts d)) (Some (lowered_parts (view_of q m 0 x))) = sym (ap (option_map lowered_parts) known) ∙ says in
    let e : lowered_parts d ≡ lowered_parts (view_of q m 0 x) = cc in
    view ∙ ap Some (view_same (key_of m) (key_of r) (spelled_name r) (age / second) d (view_of q m 0 x) e ∙ ap lowered_parts (views_compose q m r age x a b))

-- Data

-- a record without its owner and its data
abbrev stripped : {C : Type 0} → Item C → Item (Unit {0})
stripped x = record { owner = []; rtype = x.rtype; class = x.class; ttl = x.ttl; content = tt }

abbrev stripped_parts : {C : Type 0} → Parts C → Parts (Unit {0})
stripped_parts x = record { header = x.header; code = x.code; questions = x.questions; answer = map stripped x.answer; authority = map stripped x.authority; additional = map stripped x.additional }

module _ {C : Type 0} where
  has_stripped : (t c : ℕ) (xs : List (Item C)) → has_item t c (map stripped xs) ≡ has_item t c xs
  has_stripped t c [] = refl
  has_stripped t c (x ∷ xs) = ap (λ b. ((x.rtype == t) && (x.class == c)) || b) (has_stripped t c xs)

  least_stripped : (n : ℕ) (xs : List (Item C)) → least n (map stripped xs) ≡ least n xs
  least_stripped n [] = refl
  least_stripped n (x ∷ xs) = least_stripped (min n (x.ttl * second)) xs

  opt_stripped : (n : ℕ) (xs : List (Item C)) → least n (without_opt (map stripped xs)) ≡ least n (without_opt xs)
  opt_stripped n [] = refl
  opt_stripped n (x ∷ xs) = go (x.rtype == 41) (λ n. opt_stripped n xs)
    where
      go : (b : Bool) → ((n : ℕ) → least n (without_opt (map stripped xs)) ≡ least n (without_opt xs)) → least n (if b then without_opt (map stripped xs) else stripped x ∷ without_opt (map stripped xs)) ≡ least n (if b then without_opt xs else x ∷ without_opt xs)
      go true i = i n
      go false i = i (min n (x.ttl * second))

  limit_stripped : (s : Settings) (x : Parts C) → limit s (stripped_parts x) ≡ limit s x
  limit_stripped s x = go x.questions (x.code == 0) (x.code == 3)
    where
      go : (qs : List Asked) (b d : Bool) → (if b then good_limit s (stripped_parts x) qs else (if d then absent_limit s (stripped_parts x) qs else s.misc_error_duration)) ≡ (if b then good_limit s x qs else (if d then absent_limit s x qs else s.misc_error_duration))
      go [] true d = refl
      go (q ∷ qs) true d = ap₂ (λ a b. if a then s.max_validity else b) (has_stripped q.rtype q.class x.answer) (ap₂ (λ a b. if a then s.max_nodata_validity else (if b then s.max_delegation_validity else 0)) (has_stripped 6 q.class x.authority) (has_stripped 2 q.class x.authority))
      go [] false true = refl
      go (q ∷ qs) false true = ap (λ a. if a then s.max_nxdomain_validity else 0) (has_stripped 6 q.class x.authority)
      go qs false false = refl

  validity_stripped : (s : Settings) (x : Parts C) → validity_of_parts s (stripped_parts x) ≡ validity_of_parts s x
  validity_stripped s x = ap (λ n. if x.header.tc && not s.cache_truncated then 0 else n)
      (opt_stripped (least (least (min s.max_validity (limit s (stripped_parts x))) (map stripped x.answer)) (map stripped x.authority)) x.additional
      ∙ ap (λ n. least n (without_opt x.additional))
      (least_stripped (least (min s.max_validity (limit s (stripped_parts x))) (map stripped x.answer)) x.authority
      ∙ ap (λ n. least n x.authority) (least_stripped (min s.max_validity (limit s (stripped_parts x))) x.answer ∙ ap (λ l. least (min s.max_validity l) x.answer) (limit_stripped s x))))

-- records whose data is read are the same but for it
meanings_same : (ks : List Known) (ws : List Written) → meanings_of ks ≡ Some ws → map stripped (map raw ks) ≡ map stripped (map typed ws)
meanings_same [] ws e = (let z : [] ≡ ws = cc in ap (λ ws. map stripped (map typed ws)) z)
meanings_same (k ∷ ks) ws e = go (meanings_same ks) k.says (meanings_of ks) refl e
  where
    go : ((us : List Written) → meanings_of ks ≡ Some us → map stripped (map raw ks) ≡ map stripped (map typed us)) → (d : Option Data) (o : Option (List Written)) → meanings_of ks ≡ o
        → option_and_then (λ first. option_and_then (λ rest. Some (first ∷ rest)) o) (option_map (λ content. record { owner = k.entry.owner; rtype = k.entry.rtype; class = k.entry.class; ttl = k.entry.ttl; content = content }) d) ≡ Some ws
        → map stripped (map raw (k ∷ ks)) ≡ map stripped (map typed ws)
    go ih None o q e = absurd (cc)
    go ih (Some d) None q e = absurd (cc)
    go ih (Some d) (Some us) q e =
        let w : Written = record { owner = k.entry.owner; rtype = k.entry.rtype; class = k.entry.class; ttl = k.entry.ttl; content = d } in
        let z : w ∷ us ≡ ws = cc in
        ap (λ t. stripped (raw k) ∷ t) (ih us q) ∙ ap (λ ws. map stripped (map typed ws)) z

-- a message that is known is read, with the same validity
pub known_is_read : (m : Octets) (x : Parts Data) → known_parts m ≡ Some x → (y : Parts Octets) × (read_parts m ≡ Some y) × (stripped_parts y ≡ stripped_parts x)
unfolding known_parts read_parts knows
known_is_read m x e = by_reading (reads m) refl e
  where
    parts : Reading → Parts Octets
    parts r = record { header = flags_in r.header; code = opt_rcode m; questions = r.questions; answer = map raw r.answer; authority = map raw r.authority; additional = map raw r.additional }

    knowing : Knowing → Parts Data
    knowing k = record { header = flags_in k.header; code = opt_rcode m; questions = k.questions; answer = map typed k.answer; authority = map typed k.authority; additional = map typed k.additional }

    by_lists : (r : Reading) (a u d : Option (List Written)) → meanings_of r.answer ≡ a → meanings_of r.authority ≡ u → meanings_of r.additional ≡ d
        → option_map knowing (option_and_then (λ a. option_and_then (λ u. option_and_then (λ d. Some (record { header = r.header; questions = r.questions; answer = a; authority = u; additional = d })) d) u) a) ≡ Some x
        → stripped_parts (parts r) ≡ stripped_parts x
    by_lists r None u d ea eu ed e = absurd (cc)
    by_lists r (Some a) None d ea eu ed e = absurd (cc)
    by_lists r (Some a) (Some u) None ea eu ed e = absurd (cc)
    by_lists r (Some a) (Some u) (Some d) ea eu ed e =
        let k : Knowing = record { header = r.header; questions = r.questions; answer = a; authority = u; additional = d } in
        let z : knowing k ≡ x = cc in
        same (flags_in r.header) (opt_rcode m) r.questions (meanings_same r.answer a ea) (meanings_same r.authority u eu) (meanings_same r.additional d ed) ∙ ap stripped_parts z
      where
        same : (h : Header) (code : ℕ) (qs : List Asked) {a1 a2 u1 u2 d1 d2 : List (Item (Unit {0}))} → a1 ≡ a2 → u1 ≡ u2 → d1 ≡ d2
            → Path (Parts (Unit {0})) (record { header = h; code = code; questions = qs; answer = a1; authority = u1; additional = d1 }) (record { header = h; code = code; questions = qs; answer = a2; authority = u2; additional = d2 })
        same h code qs a u d = cc

    by_reading : (o : Option Reading) → reads m ≡ o
        → option_map knowing (option_and_then (λ r. option_and_then (λ a. option_and_then (λ u. option_and_then (λ d. Some (record { header = r.header; questions = r.questions; answer = a; authority = u; additional = d })) (meanings_of r.additional)) (meanings_of r.authority)) (meanings_of r.answer)) o) ≡ Some x
        → (y : Parts Octets) × (option_map parts (reads m) ≡ Some y) × (stripped_parts y ≡ stripped_parts x)
    by_reading None q e = absurd (cc)
    by_reading (Some r) q e = (parts r, ap (option_map parts) q, by_lists r (meanings_of r.answer) (meanings_of r.authority) (meanings_of r.additional) refl refl refl e)

pub known_validity : (s : Settings) (m : Octets) (x : Parts Data) → known_parts m ≡ Some x → (y : Parts Octets) × (read_parts m ≡ Some y) × (validity_of_parts s y ≡ validity_of_parts s x)
known_validity s m x e = (let k = known_is_read m x e in (k.0, k.1, sym (validity_stripped s (k.0)) ∙ (ap (validity_of_parts s) k.2 ∙ validity_stripped s x)))
