-- Views of views: what is given of a message that was derived is the view of the first.
use Rattle.std.proofs.Common.{◌≡◌, ℕ, Bool, true, false, List, [], ◌∷◌, length, refl, sym, ◌∙◌, ap, ap₂, ◌==◌, ◌&&◌, ◌||◌}
use Rattle.std.specs.Prelude.{Some, is_some, if◌then◌else◌, not, map, ◌*◌, min, option_map}
use Rattle.dns_names.specs.Name.{Labels}
use Rattle.dns_base.specs.Header.{tc_of}
use Rattle.dns_base.specs.Data.{Data}
use Rattle.dns_base.specs.Message.{Asked, Reading, reads}
use Rattle.dns_base.specs.Knowing.{lowered_asked}
use Rattle.dns_base.specs.OptRecord.{opt_rcode}
use Rattle.right_trace.specs.Messages.{Octets, truncated}
use Rattle.right_trace.specs.Settings.{Settings}
use Rattle.right_trace.specs.Keys.{FlagClass, Do, Ad, Plain, Key, KeysCover, flags_cover, is_do, is_signing}
use Rattle.right_trace.specs.Parts.{Header, Item, Parts, raw, flags_in, read_parts, known_parts, lowered_item, lowered_parts, Says}
use Rattle.right_trace.specs.Validity.{second, has_item, least, without_opt, good_limit, absent_limit, limit, validity_of_parts, validity_read, validity_of_message}
use Rattle.right_trace.specs.Views.{viewed_header, with_name, leaves_out, lessened, mostly_lessened, without_signing, viewed}
use Rattle.right_trace.proofs.Deriving.{viewed_twice}
use Rattle.right_trace.proofs.Said.{known_validity}
use Rattle.cache_rules.specs.Laws.{ViewLaws}
use Rattle.cache_rules.specs.Viewing.{header_between, under_header}
use Rattle.cache_rules.proofs.Headers.{header_viewed}
use Rattle.cache_rules.proofs.WhatIsMet.{some_inside, header_tc}

-- headers

-- The header of a view of a view is that of the view: as parts that are nothing but a header say it.
header_twice : (q m r : Key) (x : Header) → KeysCover q m → KeysCover m r → viewed_header m r (viewed_header q m x) ≡ viewed_header q r x
header_twice q m r x a b =
    let bare : Parts Data = record { header = x; code = 0; questions = []; answer = []; authority = []; additional = [] } in
    ap (λ (p : Parts Data). p.header) (viewed_twice q m r [] [] 0 bare a b)

pub headers : (q m r : Key) (header : List ℕ) (x : Header) → length header ≡ 4 → KeysCover q m → KeysCover m r → flags_in header ≡ viewed_header q m x
    → flags_in (header_between m.flags r.flags (m.rd && not r.rd) header) ≡ viewed_header q r x
headers q m r header x long a b is = header_viewed m r header long ∙ (ap (viewed_header m r) is ∙ header_twice q m r x a b)

-- what DO added was not left out by the first
pub still_left : (q m r : FlagClass) → flags_cover q m ≡ true → flags_cover m r ≡ true → (is_do q && not (is_do m)) ≡ false → (is_do m && not (is_do r)) ≡ (is_do q && not (is_do r))
still_left Do Do r a b e = refl
still_left Do Ad r a b e = absurd cc
still_left Do Plain r a b e = absurd cc
still_left Ad Do r a b e = absurd cc
still_left Ad Ad r a b e = refl
still_left Ad Plain r a b e = refl
still_left Plain Do r a b e = absurd cc
still_left Plain Ad r a b e = absurd cc
still_left Plain Plain r a b e = refl

pub under_headers : (q m r : Key) (header : List ℕ) (name : Labels) (n : ℕ) (x : Parts Data) → KeysCover q m → KeysCover m r → leaves_out q m ≡ false → flags_in header ≡ viewed_header q r x.header
    → under_header header (viewed m r name n x) ≡ viewed q r name n x
under_headers q m r header name n x a b none is =
    ap₂ (λ (h : Header) (z : Bool). record {
      header = h;
      code = x.code;
      questions = map (with_name name) x.questions;
      answer = map (lessened n) (without_signing z x.answer);
      authority = map (lessened n) (without_signing z x.authority);
      additional = map (mostly_lessened n) (without_signing z x.additional);
    }) is (still_left q.flags m.flags r.flags a.flags b.flags none)

-- case

signing_lowered : (b : Bool) (xs : List (Item Data)) → map lowered_item (without_signing b xs) ≡ without_signing b (map lowered_item xs)
signing_lowered b [] = refl
signing_lowered b (x ∷ xs) = go (b && is_signing x.rtype) (signing_lowered b xs)
  where
    go : (z : Bool) → map lowered_item (without_signing b xs) ≡ without_signing b (map lowered_item xs)
        → map lowered_item (if z then without_signing b xs else x ∷ without_signing b xs) ≡ (if z then without_signing b (map lowered_item xs) else lowered_item x ∷ without_signing b (map lowered_item xs))
    go true i = i
    go false i = ap (λ t. lowered_item x ∷ t) i

lessened_lowered : (n : ℕ) (xs : List (Item Data)) → map lowered_item (map (lessened n) xs) ≡ map (lessened n) (map lowered_item xs)
lessened_lowered n [] = refl
lessened_lowered n (x ∷ xs) = ap (λ t. lowered_item (lessened n x) ∷ t) (lessened_lowered n xs)

mostly_lowered : (n : ℕ) (xs : List (Item Data)) → map lowered_item (map (mostly_lessened n) xs) ≡ map (mostly_lessened n) (map lowered_item xs)
mostly_lowered n [] = refl
mostly_lowered n (x ∷ xs) = ap₂ (λ a t. a ∷ t) (go (x.rtype == 41)) (mostly_lowered n xs)
  where
    go : (b : Bool) → lowered_item (if b then x else lessened n x) ≡ (if b then lowered_item x else lessened n (lowered_item x))
    go true = refl
    go false = refl

names_lowered : (o : Labels) (qs : List Asked) → map lowered_asked (map (with_name o) qs) ≡ map lowered_asked (map (with_name o) (map lowered_asked qs))
names_lowered o [] = refl
names_lowered o (q ∷ qs) = ap (λ t. lowered_asked (with_name o q) ∷ t) (names_lowered o qs)

same_parts : (code : ℕ) (h : Header) {q1 q2 : List Asked} {a1 a2 u1 u2 d1 d2 : List (Item Data)} → q1 ≡ q2 → a1 ≡ a2 → u1 ≡ u2 → d1 ≡ d2
    → Path (Parts Data) (record { header = h; code = code; questions = q1; answer = a1; authority = u1; additional = d1 }) (record { header = h; code = code; questions = q2; answer = a2; authority = u2; additional = d2 })
same_parts code h q a u d = cc

-- the view of lowered parts, in lower case
view_lowered : (k r : Key) (o : Labels) (n : ℕ) → Parts Data → Parts Data
view_lowered k r o n z = record {
  header = viewed_header k r z.header;
  code = z.code;
  questions = map lowered_asked (map (with_name o) z.questions);
  answer = map (lessened n) (without_signing (leaves_out k r) z.answer);
  authority = map (lessened n) (without_signing (leaves_out k r) z.authority);
  additional = map (mostly_lessened n) (without_signing (leaves_out k r) z.additional);
}

lowered_view : (k r : Key) (o : Labels) (n : ℕ) (x : Parts Data) → lowered_parts (viewed k r o n x) ≡ view_lowered k r o n (lowered_parts x)
unfolding view_lowered
lowered_view k r o n x =
    let one : (xs : List (Item Data)) → map lowered_item (map (lessened n) (without_signing (leaves_out k r) xs)) ≡ map (lessened n) (without_signing (leaves_out k r) (map lowered_item xs)) =
    λ xs. lessened_lowered n (without_signing (leaves_out k r) xs) ∙ ap (map (lessened n)) (signing_lowered (leaves_out k r) xs) in
    same_parts x.code (viewed_header k r x.header) (names_lowered o x.questions) (one x.answer) (one x.authority)
    (mostly_lowered n (without_signing (leaves_out k r) x.additional) ∙ ap (map (mostly_lessened n)) (signing_lowered (leaves_out k r) x.additional))

pub view_same : (k r : Key) (o : Labels) (n : ℕ) (x y : Parts Data) → lowered_parts x ≡ lowered_parts y → lowered_parts (viewed k r o n x) ≡ lowered_parts (viewed k r o n y)
view_same k r o n x y e = lowered_view k r o n x ∙ (ap (view_lowered k r o n) e ∙ sym (lowered_view k r o n y))

-- octets that say parts are known as parts that are the same but for case
pub said : (octets : Octets) (d x : Parts Data) → known_parts octets ≡ Some d → Says octets x → lowered_parts d ≡ lowered_parts x
said octets d x known says =
    let both : Some (lowered_parts d) ≡ Some (lowered_parts x) = sym (ap (option_map lowered_parts) known) ∙ says in
    cc

pub derived_says : (q m r : Key) (first name : Labels) (n : ℕ) (x d : Parts Data) (kept given : Octets) → KeysCover q m → KeysCover m r → known_parts kept ≡ Some d → Says kept (viewed q m first 0 x)
    → Says given (viewed m r name n d) → Says given (viewed q r name n x)
derived_says q m r first name n x d kept given a b known says view =
    view ∙ ap Some (view_same m r name n d (viewed q m first 0 x) (said kept d (viewed q m first 0 x) known says) ∙ ap lowered_parts (viewed_twice q m r first name n x a b))

-- validity

has_lowered : (t c : ℕ) (xs : List (Item Data)) → has_item t c (map lowered_item xs) ≡ has_item t c xs
has_lowered t c [] = refl
has_lowered t c (x ∷ xs) = ap (λ b. ((x.rtype == t) && (x.class == c)) || b) (has_lowered t c xs)

least_lowered : (n : ℕ) (xs : List (Item Data)) → least n (map lowered_item xs) ≡ least n xs
least_lowered n [] = refl
least_lowered n (x ∷ xs) = least_lowered (min n (x.ttl * second)) xs

opt_lowered : (n : ℕ) (xs : List (Item Data)) → least n (without_opt (map lowered_item xs)) ≡ least n (without_opt xs)
opt_lowered n [] = refl
opt_lowered n (x ∷ xs) = go (x.rtype == 41) (λ n. opt_lowered n xs)
  where
    go : (b : Bool) → ((n : ℕ) → least n (without_opt (map lowered_item xs)) ≡ least n (without_opt xs))
        → least n (if b then without_opt (map lowered_item xs) else lowered_item x ∷ without_opt (map lowered_item xs)) ≡ least n (if b then without_opt xs else x ∷ without_opt xs)
    go true i = i n
    go false i = i (min n (x.ttl * second))

limit_lowered : (s : Settings) (x : Parts Data) → limit s (lowered_parts x) ≡ limit s x
limit_lowered s x = go x.questions (x.code == 0) (x.code == 3)
  where
    go : (qs : List Asked) (b d : Bool) → (if b then good_limit s (lowered_parts x) (map lowered_asked qs) else (if d then absent_limit s (lowered_parts x) (map lowered_asked qs) else s.misc_error_duration))
        ≡ (if b then good_limit s x qs else (if d then absent_limit s x qs else s.misc_error_duration))
    go [] true d = refl
    go (q ∷ qs) true d =
        ap₂ (λ a b. if a then s.max_validity else b) (has_lowered q.rtype q.class x.answer)
        (ap₂ (λ a b. if a then s.max_nodata_validity else (if b then s.max_delegation_validity else 0)) (has_lowered 6 q.class x.authority) (has_lowered 2 q.class x.authority))
    go [] false true = refl
    go (q ∷ qs) false true = ap (λ a. if a then s.max_nxdomain_validity else 0) (has_lowered 6 q.class x.authority)
    go qs false false = refl

pub validity_lowered : (s : Settings) (x : Parts Data) → validity_of_parts s (lowered_parts x) ≡ validity_of_parts s x
validity_lowered s x = ap (λ n. if x.header.tc && not s.cache_truncated then 0 else n)
    (opt_lowered (least (least (min s.max_validity (limit s (lowered_parts x))) (map lowered_item x.answer)) (map lowered_item x.authority)) x.additional
    ∙ ap (λ n. least n (without_opt x.additional))
    (least_lowered (least (min s.max_validity (limit s (lowered_parts x))) (map lowered_item x.answer)) x.authority
    ∙ ap (λ n. least n x.authority) (least_lowered (min s.max_validity (limit s (lowered_parts x))) x.answer ∙ ap (λ l. least (min s.max_validity l) x.answer) (limit_lowered s x))))

-- the validity of a message is that of its parts
of_parts : (s : Settings) (m : Octets) (y : Parts Octets) → is_some (known_parts m) ≡ true → read_parts m ≡ Some y → validity_of_message s m ≡ Some (validity_of_parts s y)
unfolding validity_of_message truncated read_parts
of_parts s m y known e =
    let r = some_inside (λ (r : Reading). record { header = flags_in r.header; code = opt_rcode m; questions = r.questions; answer = map raw r.answer; authority = map raw r.authority; additional = map raw r.additional }) (reads m) y e in
    let tc : y.header.tc ≡ tc_of m = sym (ap (λ (p : Parts Octets). p.header.tc) r.2) ∙ header_tc m r.0 r.1 in
    go (tc_of m && not s.cache_truncated) (ap (λ b. b && not s.cache_truncated) tc) e
  where
    go : (b : Bool) → (y.header.tc && not s.cache_truncated) ≡ b → read_parts m ≡ Some y → (if b then Some 0 else validity_read s (is_some (known_parts m)) (read_parts m)) ≡ Some (validity_of_parts s y)
    go true is f = sym (ap (λ b. Some (if b then 0 else least (least (least (min s.max_validity (limit s y)) y.answer) y.authority) (without_opt y.additional))) is)
    go false is f = ap₂ (validity_read s) known f

pub validity : (s : Settings) (x : Parts Data) (octets : Octets) → Says octets x → validity_of_message s octets ≡ Some (validity_of_parts s x)
validity s x octets says =
    let d = some_inside lowered_parts (known_parts octets) (lowered_parts x) says in
    let y = known_validity s octets d.0 d.1 in
    of_parts s octets y.0 (ap is_some d.1) y.1
    ∙ ap Some (y.2 ∙ (sym (validity_lowered s d.0) ∙ (ap (validity_of_parts s) d.2 ∙ validity_lowered s x)))

pub view_laws : ViewLaws
view_laws = record { headers = headers; under_headers = under_headers; derived = derived_says; validity = validity }
