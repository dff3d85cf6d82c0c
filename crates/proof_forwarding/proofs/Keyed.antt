-- Queries with one key make requests with one key.
use Rattle.std.proofs.Common.{◌≡◌, ℕ, suc, ◌+◌, ◌<◌, ◌≤◌, List, [], ◌∷◌, ◌++◌, length, Option, Some, None, Bool, true, false, refl, sym, ap, ◌∙◌, arith, append-nil, length-append}
use Rattle.std.specs.Prelude.{◌^◌, ◌==◌, ◌||◌, not, map, slice_index, option_map, if◌then◌else◌}
use Rattle.std.specs.Char.{to_ascii_lowercase}
use Rattle.std.specs.Int.{w16, from_be_bytes, to_be_bytes}
use Rattle.std.specs.List.{AllByRecursion}
use Rattle.std.proofs.lemmas.Bool.Decides.{nat_tests}
use Rattle.std.proofs.lemmas.List.{length-map}
use Rattle.std.proofs.lemmas.Nat.{and_assoc, from_be_bytes-to_be_bytes_2}
use Rattle.dns_names.specs.Name.{IsLabel, Labels, lowered, octet_count, spelling}
use Rattle.dns_names.proofs.NameLaws.{spelled_length}
use Rattle.dns_base.specs.Header.{ad_of, cd_of, rd_of}
use Rattle.dns_base.specs.Holding.{IsAskable}
use Rattle.dns_base.specs.Message.{Asked, question_at, sole_question}
use Rattle.dns_base.proofs.EntriesBack.{question_found}
use Rattle.dns_base.proofs.Stands.{Stands, first_stands, name_stands, number_stands, second_stands, stands_within}
use Rattle.client_request.specs.Request.{is_dnssec_ok}
use Rattle.front_queries.specs.Query as front
use Rattle.front_queries.specs.Query.{Query, asks_authentic, bit, takes_dnssec}
use Rattle.front_queries.specs.Requests.{request_header, request_of}
use Rattle.front_queries.specs.Spelled.{counts_octets, own_opt, spelled}
use Rattle.right_trace.specs.Keys.{Ad, Do, FlagClass, Key, Plain, flags_of, key_of, question_of, question_or}
use Rattle.proof_forwarding.specs.Isolation.{EqualQueriesAskTheSame}

-- ---- what a request asks

abbrev head : (a b c d : ℕ) → List ℕ
head a b c d = a ∷ b ∷ c ∷ d ∷ counts_octets 1 0

question_is : (a b c d : ℕ) (q : Asked) → IsAskable q → question_at (spelled (a ∷ b ∷ c ∷ d ∷ []) q None) 12 ≡ Some (q, 12 + octet_count q.name + 4)
question_is a b c d q h =
    let octets : List ℕ = spelled (a ∷ b ∷ c ∷ d ∷ []) q None in
    let name : List ℕ = spelling q.name in
    let types : List ℕ = to_be_bytes w16 q.rtype in
    let class : List ℕ = to_be_bytes w16 q.class in
    let end : ℕ = 12 + octet_count q.name in
    let all : Stands octets 12 (name ++ (types ++ class)) = record { front = head a b c d; back = []; is = ap (λ z. head a b c d ++ z) (sym (append-nil (name ++ (types ++ class)))); long = refl } in
    let s1 = first_stands octets name (types ++ class) 12 all in
    let behind = second_stands octets name (types ++ class) 12 end all (ap (λ n. 12 + n) (spelled_length q.name)) in
    let s2 = first_stands octets types class end behind in
    let s3 = second_stands octets types class end (end + 2) behind refl in
    let within = stands_within octets class (end + 2) s3 in
    question_found octets 12 end 0 q (name_stands octets q.name 12 s1 h.name) (omega (arith, within))
    (number_stands octets q.rtype end s2 h.rtype) (number_stands octets q.class (end + 2) s3 h.class)

asked_is : (q : Query) → IsAskable q.asked → question_of (request_of q) ≡ q.asked
unfolding question_of sole_question
asked_is q h = ap (λ (o : Option (Asked × ℕ)). question_or (option_map (λ (x : Asked × ℕ). x.0) o)) (question_is _ _ _ _ q.asked h)

-- ---- its flags

ad_is : (h : List ℕ) → ad_of (request_header h) ≡ ad_of h
ad_is h = ap (λ (n : ℕ). not (n == 0)) (and_assoc 0x20 (slice_index h 3) 0x30)

cd_is : (h : List ℕ) → cd_of (request_header h) ≡ cd_of h
cd_is h = ap (λ (n : ℕ). not (n == 0)) (and_assoc 0x10 (slice_index h 3) 0x30)

rd_is : (h : List ℕ) → rd_of (request_header h) ≡ rd_of h
rd_is h = ap (λ (n : ℕ). not (n == 0)) (and_assoc 0x01 (slice_index h 2) 0x01)

do_is : (q : Query) → is_dnssec_ok (request_of q) ≡ takes_dnssec q
do_is q = go (takes_dnssec q)
  where
    go : (b : Bool) → is_dnssec_ok (record { base = (request_of q).base; header = (request_of q).header; opt = (if b then Some (own_opt 0 true) else None) }) ≡ b
    go true = refl
    go false = refl

-- what a query asks of DNSSEC
abbrev class_of : (dnssec authentic : Bool) → FlagClass
class_of dnssec authentic = if dnssec then Do else (if authentic then Ad else Plain)

flags_are : (q : Query) → flags_of (request_of q) ≡ class_of (takes_dnssec q) (asks_authentic q)
flags_are q =
    ap (λ (d : Bool). if d then Do else (if ad_of (request_header q.header) then Ad else Plain)) (do_is q)
    ∙ ap (λ (a : Bool). if takes_dnssec q then Do else (if a then Ad else Plain)) (ad_is q.header)
    ∙ go (takes_dnssec q) (ad_of q.header)
  where
    go : (d a : Bool) → (if d then Do else (if a then Ad else Plain)) ≡ class_of d (d || a)
    go true a = refl
    go false a = refl

-- ---- two lists, one behind another

parts_same : (a b c d : List ℕ) → length a ≡ length b → a ++ c ≡ b ++ d → (a ≡ b) × (c ≡ d)
parts_same [] [] c d long is = (refl, is)
parts_same [] (y ∷ b) c d long is = absurd (omega arith)
parts_same (x ∷ a) [] c d long is = absurd (omega arith)
parts_same (x ∷ a) (y ∷ b) c d long is =
    let rest = parts_same a b c d (less (length a) (length b) long) (tail_same (a ++ c) (b ++ d) is) in
    let first : x ≡ y = head_same (a ++ c) (b ++ d) is in
    (ap (λ (z : ℕ). z ∷ a) first ∙ ap (λ (z : List ℕ). y ∷ z) rest.0, rest.1)
  where
    less : (n m : ℕ) → suc n ≡ suc m → n ≡ m
    less n m is = omega arith

    head_same : (s t : List ℕ) → x ∷ s ≡ y ∷ t → x ≡ y
    head_same s t is = cc

    tail_same : (s t : List ℕ) → x ∷ s ≡ y ∷ t → s ≡ t
    tail_same s t is = cc

ends_same : (a b c d : List ℕ) → length c ≡ length d → a ++ c ≡ b ++ d → (a ≡ b) × (c ≡ d)
ends_same a b c d long is =
    let left = length-append a c in
    let right = length-append b d in
    let same : length (a ++ c) ≡ length (b ++ d) = ap length is in
    parts_same a b c d (omega arith) is

number_same : (n m : ℕ) → n < 2 ^ 16 → m < 2 ^ 16 → to_be_bytes w16 n ≡ to_be_bytes w16 m → n ≡ m
number_same n m low few is = sym (from_be_bytes-to_be_bytes_2 n low) ∙ ap (from_be_bytes w16) is ∙ from_be_bytes-to_be_bytes_2 m few

-- ---- names

lower_less : (n : ℕ) → n < 64 → to_ascii_lowercase n ≡ n
lower_less n low = grind (arith, nat_tests)

head_of : (x y : ℕ) (s t : List ℕ) → x ∷ s ≡ y ∷ t → (x ≡ y) × (s ≡ t)
head_of x y s t is = (cc, cc)

map_append : (a b : List ℕ) → map to_ascii_lowercase (a ++ b) ≡ map to_ascii_lowercase a ++ map to_ascii_lowercase b
map_append [] b = refl
map_append (x ∷ a) b = ap (λ (z : List ℕ). to_ascii_lowercase x ∷ z) (map_append a b)

names_same : (a b : Labels) → AllByRecursion IsLabel a → AllByRecursion IsLabel b → map to_ascii_lowercase (spelling a) ≡ map to_ascii_lowercase (spelling b) → lowered a ≡ lowered b
names_same [] [] legal also is = refl
names_same [] (l ∷ b) legal also is =
    let long : to_ascii_lowercase 0 ≡ to_ascii_lowercase (length l) = (head_of _ _ _ _ is).0 in
    let none : 0 ≡ length l = sym (lower_less 0 (omega arith)) ∙ long ∙ lower_less (length l) also.0.1 in
    let some = also.0.0 in
    absurd (omega arith)
names_same (l ∷ a) [] legal also is =
    let long : to_ascii_lowercase (length l) ≡ to_ascii_lowercase 0 = (head_of _ _ _ _ is).0 in
    let none : length l ≡ 0 = sym (lower_less (length l) legal.0.1) ∙ long ∙ lower_less 0 (omega arith) in
    let some = legal.0.0 in
    absurd (omega arith)
names_same (l ∷ a) (k ∷ b) legal also is =
    let both = head_of (to_ascii_lowercase (length l)) (to_ascii_lowercase (length k)) (map to_ascii_lowercase (l ++ spelling a)) (map to_ascii_lowercase (k ++ spelling b)) is in
    let long : length l ≡ length k = sym (lower_less (length l) legal.0.1) ∙ both.0 ∙ lower_less (length k) also.0.1 in
    let left = length-map l to_ascii_lowercase in
    let right = length-map k to_ascii_lowercase in
    let parts = parts_same (map to_ascii_lowercase l) (map to_ascii_lowercase k) (map to_ascii_lowercase (spelling a)) (map to_ascii_lowercase (spelling b)) (left ∙ long ∙ sym right)
    (sym (map_append l (spelling a)) ∙ both.1 ∙ map_append k (spelling b)) in
    ap (λ (x : List ℕ). x ∷ lowered a) parts.0 ∙ ap (λ (xs : Labels). map to_ascii_lowercase k ∷ xs) (names_same a b legal.1 also.1 parts.1)

-- ---- bits

bit_less : (n : ℕ) (b : Bool) → bit n b ≤ n
bit_less n true = omega arith
bit_less n false = omega arith

-- the greatest bit of two equal sums
bit_same : (n : ℕ) (a b : Bool) (x y : ℕ) → x < n → y < n → bit n a + x ≡ bit n b + y → (a ≡ b) × (x ≡ y)
bit_same n true true x y low few is = (refl, omega arith)
bit_same n false false x y low few is = (refl, omega arith)
bit_same n true false x y low few is = absurd (omega arith)
bit_same n false true x y low few is = absurd (omega arith)

record SameFlags (p q : Query) : Type 0 where
  dnssec : takes_dnssec p ≡ takes_dnssec q
  authentic : asks_authentic p ≡ asks_authentic q
  cd : cd_of p.header ≡ cd_of q.header
  rd : rd_of p.header ≡ rd_of q.header

flags_same : (p q : Query) → front.flags_of p ≡ front.flags_of q → SameFlags p q
flags_same p q is =
    let a = takes_dnssec p in
    let b = asks_authentic p in
    let c = cd_of p.header in
    let d = rd_of p.header in
    let e = takes_dnssec q in
    let f = asks_authentic q in
    let g = cd_of q.header in
    let h = rd_of q.header in
    let b4 = bit_less 4 b in
    let c2 = bit_less 2 c in
    let d1 = bit_less 1 d in
    let f4 = bit_less 4 f in
    let g2 = bit_less 2 g in
    let h1 = bit_less 1 h in
    let first = bit_same 8 a e (bit 4 b + bit 2 c + bit 1 d) (bit 4 f + bit 2 g + bit 1 h) (omega arith) (omega arith) (omega arith) in
    let second = bit_same 4 b f (bit 2 c + bit 1 d) (bit 2 g + bit 1 h) (omega arith) (omega arith) (let same = first.1 in omega arith) in
    let third = bit_same 2 c g (bit 1 d) (bit 1 h) (omega arith) (omega arith) second.1 in
    let last = bit_same 1 d h 0 0 (omega arith) (omega arith) (let same = third.1 in omega arith) in
    record { dnssec = first.0; authentic = second.0; cd = third.0; rd = last.0 }

-- ---- keys

record SameKey (p q : Query) : Type 0 where
  name : map to_ascii_lowercase (spelling p.asked.name) ≡ map to_ascii_lowercase (spelling q.asked.name)
  rtype : to_be_bytes w16 p.asked.rtype ≡ to_be_bytes w16 q.asked.rtype
  class : to_be_bytes w16 p.asked.class ≡ to_be_bytes w16 q.asked.class
  flags : front.flags_of p ≡ front.flags_of q

key_parts : (p q : Query) → front.key_of p ≡ front.key_of q → SameKey p q
key_parts p q is =
    let pc : List ℕ = to_be_bytes w16 p.asked.class ++ front.flags_of p ∷ [] in
    let qc : List ℕ = to_be_bytes w16 q.asked.class ++ front.flags_of q ∷ [] in
    let first = ends_same (map to_ascii_lowercase (spelling p.asked.name)) (map to_ascii_lowercase (spelling q.asked.name)) (to_be_bytes w16 p.asked.rtype ++ pc) (to_be_bytes w16 q.asked.rtype ++ qc) refl is in
    let second = parts_same (to_be_bytes w16 p.asked.rtype) (to_be_bytes w16 q.asked.rtype) pc qc refl first.1 in
    let third = parts_same (to_be_bytes w16 p.asked.class) (to_be_bytes w16 q.asked.class) (front.flags_of p ∷ []) (front.flags_of q ∷ []) refl second.1 in
    record { name = first.0; rtype = second.0; class = third.0; flags = (head_of _ _ _ _ third.1).0 }

abbrev key_from : Asked → (flags : FlagClass) → (cd rd : Bool) → Key
key_from asked flags cd rd = record { name = lowered asked.name; rtype = asked.rtype; class = asked.class; flags = flags; cd = cd; rd = rd }

key_is : (q : Query) → IsAskable q.asked → key_of (request_of q) ≡ key_from q.asked (class_of (takes_dnssec q) (asks_authentic q)) (cd_of q.header) (rd_of q.header)
unfolding key_of
key_is q h =
    ap (λ (x : Asked). key_from x (flags_of (request_of q)) (cd_of (request_header q.header)) (rd_of (request_header q.header))) (asked_is q h)
    ∙ ap (λ (x : FlagClass). key_from q.asked x (cd_of (request_header q.header)) (rd_of (request_header q.header))) (flags_are q)
    ∙ ap (λ (x : Bool). key_from q.asked (class_of (takes_dnssec q) (asks_authentic q)) x (rd_of (request_header q.header))) (cd_is q.header)
    ∙ ap (λ (x : Bool). key_from q.asked (class_of (takes_dnssec q) (asks_authentic q)) (cd_of q.header) x) (rd_is q.header)

pub equal_queries : EqualQueriesAskTheSame
equal_queries p q ok also is =
    let key = key_parts p q is in
    let flags = flags_same p q key.flags in
    let name = names_same p.asked.name q.asked.name ok.name.0 also.name.0 key.name in
    let rtype = number_same p.asked.rtype q.asked.rtype ok.rtype also.rtype key.rtype in
    let class = number_same p.asked.class q.asked.class ok.class also.class key.class in
    key_is p ok
    ∙ ap (λ (n : Labels). record { name = n; rtype = p.asked.rtype; class = p.asked.class; flags = class_of (takes_dnssec p) (asks_authentic p); cd = cd_of p.header; rd = rd_of p.header }) name
    ∙ ap (λ (n : ℕ). record { name = lowered q.asked.name; rtype = n; class = p.asked.class; flags = class_of (takes_dnssec p) (asks_authentic p); cd = cd_of p.header; rd = rd_of p.header }) rtype
    ∙ ap (λ (n : ℕ). record { name = lowered q.asked.name; rtype = q.asked.rtype; class = n; flags = class_of (takes_dnssec p) (asks_authentic p); cd = cd_of p.header; rd = rd_of p.header }) class
    ∙ ap (λ (b : Bool). key_from q.asked (class_of b (asks_authentic p)) (cd_of p.header) (rd_of p.header)) flags.dnssec
    ∙ ap (λ (b : Bool). key_from q.asked (class_of (takes_dnssec q) b) (cd_of p.header) (rd_of p.header)) flags.authentic
    ∙ ap (λ (b : Bool). key_from q.asked (class_of (takes_dnssec q) (asks_authentic q)) b (rd_of p.header)) flags.cd
    ∙ ap (λ (b : Bool). key_from q.asked (class_of (takes_dnssec q) (asks_authentic q)) (cd_of q.header) b) flags.rd
    ∙ sym (key_is q also)
