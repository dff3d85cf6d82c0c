-- What a connection writes for a request carries it, and is made of each valid one.
use Rattle.std.proofs.Common.{◌≡◌, ℕ, zero, suc, ◌+◌, ◌/◌, ◌%◌, ◌≤◌, ◌<◌, Bool, true, false, inl, inr, List, [], ◌∷◌, ◌++◌, length, get_or, refl, ap, sym, subst, ◌∙◌, arith, length-drop, length-append}
use Rattle.std.specs.Prelude.{Option, Some, None, IfSome, Result, Ok, Err, map, not, nat_le, nat_lt, ◌&&◌, ◌||◌, option_map, if◌then◌else◌}
use Rattle.std.specs.Int.{w16, to_be_bytes}
use Rattle.std.specs.List.{sum, sum_by}
use Rattle.std.specs.Option.{option_map_or}
use Rattle.std.proofs.lemmas.Bool.Decides.{nat_tests}
use Rattle.std.proofs.lemmas.List.Sums.{sum-map, sum_by-append}
use Rattle.std.proofs.lemmas.Nat.{from_be_bytes-to_be_bytes_2, be_bytes_2}
use Rattle.dns_names.proofs.Heads.{then_ok}
use Rattle.dns_values.specs.declared.numbers.Section.TheVariants.{Answer, Authority, Additional}
use Rattle.dns_base.specs.Header as head
use Rattle.dns_base.specs.Answering.{is_answer, question_items}
use Rattle.dns_base.specs.Message.{Asked, Written, all_read}
use Rattle.dns_base.specs.OptRecord.{OptFields}
use Rattle.dns_base.specs.Holding.{Contents}
use Rattle.dns_base.specs.Draft.{question_size, record_size}
use Rattle.client_request.specs.Carries.{contents_of, records_of, opt_records, sent_from, IsOpt, IsOfOctets}
use Rattle.client_request.specs.Composed.{composed}
use Rattle.client_request.specs.Request.{Request, with_id, with_option, option_added, opt_or_empty, option_octets, is_answered, is_full_for, is_misformed, with_payload_size}
use Rattle.client_request.specs.Requests.{for_one}
use Rattle.client_request.proofs.Carrying.{composed_says}
use Rattle.client_request.specs.declared.error.Error.{Error}
use Rattle.client_stream.specs.Plain.{framed, if_short, frame_of, readied}
use Rattle.right_trace.specs.Messages.{CarriesInFrame, answers, is_valid, base_is_read, passes_count, has_too_many, fits, size_of}
use Rattle.proof_right.proofs.Carried.{said_id}
use Rattle.proof_right.proofs.Composing.{composed_refused}
use Rattle.proof_parts.specs.Framed.{FramesCarry}
use Rattle.proof_parts.proofs.Sizes.{Entries, contents_with, spelled, composed_size}

-- the two forms of a request that is written
data Readied (id : ℕ) (r : Request) : Request → Type 0 where
  AsItIs : Readied id r (with_id id r)
  WithOption : is_full_for 0 (with_id id r) ≡ false → Readied id r (with_option 11 [] (with_id id r))

readied_so : (id : ℕ) (had : Bool) (r : Request) → Readied id r (readied for_one id had r)
readied_so id had r = by had (is_full_for 0 (with_id id r)) refl
  where
    by : (had full : Bool) → is_full_for 0 (with_id id r) ≡ full → Readied id r (if not had && not full then with_option 11 [] (with_id id r) else with_id id r)
    by true full e = AsItIs
    by false true e = AsItIs
    by false false e = WithOption e

header_of_four : (id : ℕ) (r : Request) → length r.header ≡ 4 → length (head.with_id id r.header) ≡ 4
header_of_four id r four = omega (arith, length-drop 2 r.header, four)

-- it is made of octets
empty_fits : length (option_octets 11 []) ≡ 4
empty_fits = refl

option_fits : (opt : Option OptFields) → IfSome opt IsOpt → nat_le 65536 (length (opt_or_empty opt).options + 4 + 0) ≡ false → IsOpt (option_added 11 [] (opt_or_empty opt))
option_fits None h room = record { udp_payload_size = omega arith; ext_rcode = omega arith; version = omega arith; flags = omega arith; options = omega arith }
option_fits (Some opt) h room = record { udp_payload_size = h.udp_payload_size; ext_rcode = h.ext_rcode; version = h.version; flags = h.flags; options = few (length opt.options) (length (opt.options ++ option_octets 11 [])) (length-append opt.options (option_octets 11 [])) room }
  where
    few : (n m : ℕ) → m ≡ n + 4 → nat_le 65536 (n + 4 + 0) ≡ false → m < 65536
    few n m e h = grind (arith, nat_tests)

octets_readied : (id : ℕ) (r w : Request) → IsOfOctets r → Readied id r w → IsOfOctets w
octets_readied id r _ h AsItIs = record { base = h.base; long = h.long; header = header_of_four id r h.header; opt = h.opt }
octets_readied id r _ h (WithOption room) = record { base = h.base; long = h.long; header = header_of_four id r h.header; opt = option_fits r.opt h.opt room }

-- The frame

-- a message that is short enough, in its frame
record IsShort (o : Result (List ℕ) Error) (octets : List ℕ) : Type 0 where
  message : List ℕ
  is : o ≡ Ok message
  short : length message ≤ 65535
  framed : framed message ≡ octets

short_message : (o : Result (List ℕ) Error) (octets : List ℕ) → option_map framed (if_short o) ≡ Some octets → IsShort o octets
short_message (Err e) octets h = absurd (cc)
short_message (Ok m) octets h = by (nat_le (length m) 65535) refl h
  where
    le : (n : ℕ) → nat_le n 65535 ≡ true → n ≤ 65535
    le n e = grind (arith, nat_tests)

    by : (b : Bool) → nat_le (length m) 65535 ≡ b → option_map framed (if b then Some m else None) ≡ Some octets → IsShort (Ok m) octets
    by true e h = record { message = m; is = refl; short = le (length m) e; framed = cc }
    by false e h = absurd (cc)

two_octets : (n : ℕ) → n ≤ 65535 → n / 256 ∷ n % 256 ∷ [] ≡ to_be_bytes w16 n
two_octets n le = sym (be_bytes_2 (n / 256 ∷ n % 256 ∷ []) n refl small (omega arith))
  where
    small : (i : ℕ) → get_or (n / 256 ∷ n % 256 ∷ []) i 0 < 256
    small zero = omega arith
    small (suc zero) = omega arith
    small (suc (suc i)) = omega arith

says_so : (r : Request) (id : ℕ) (w : Request) (octets m : List ℕ) → IsOfOctets r → id < 65536 → Readied id r w → composed w ≡ Ok m → length m ≤ 65535 → framed m ≡ octets → CarriesInFrame octets r id
says_so r id w octets m h small AsItIs is le e =
    let says = composed_says (with_id id r) m (octets_readied id r (with_id id r) h AsItIs) is in
    record {
      rest = m;
      framed = sym e ∙ ap (λ front. front ++ m) (two_octets (length m) le);
      short = omega arith;
      named = said_id m id r.header says refl ∙ from_be_bytes-to_be_bytes_2 id small;
      says = inl says;
    }
says_so r id w octets m h small (WithOption room) is le e =
    let says = composed_says (with_option 11 [] (with_id id r)) m (octets_readied id r (with_option 11 [] (with_id id r)) h (WithOption room)) is in
    record {
      rest = m;
      framed = sym e ∙ ap (λ front. front ++ m) (two_octets (length m) le);
      short = omega arith;
      named = said_id m id r.header says refl ∙ from_be_bytes-to_be_bytes_2 id small;
      says = inr says;
    }

frame_carries : (r : Request) (id : ℕ) (had : Bool) (octets : List ℕ) → IsOfOctets r → id < 65536 → frame_of for_one (readied for_one id had r) ≡ Some octets → CarriesInFrame octets r id
frame_carries r id had octets h small e =
    let m = short_message (composed (readied for_one id had r)) octets e in
    says_so r id (readied for_one id had r) octets m.message h small (readied_so id had r) m.is m.short m.framed

frame_long : (r : Request) (octets : List ℕ) → frame_of for_one r ≡ Some octets → 2 ≤ length octets
frame_long r octets e = let m = short_message (composed r) octets e in subst (λ o. 2 ≤ length o) m.framed (two (length m.message))
  where
    two : (n : ℕ) → 2 ≤ suc (suc n)
    two n = omega arith

-- What answers it
header_id : (header : List ℕ) (id : ℕ) → id < 65536 → head.id_of (head.with_id id header) ≡ id
header_id header id lt = from_be_bytes-to_be_bytes_2 id lt

answered_so : (r : Request) (id : ℕ) (w : Request) (octets : List ℕ) → id < 65536 → Readied id r w → is_answered octets w ≡ answers r id octets
unfolding answers
answered_so r id _ octets lt AsItIs = ap (λ i. is_answer i r.base octets) (header_id r.header id lt)
answered_so r id _ octets lt (WithOption room) = ap (λ i. is_answer i r.base octets) (header_id r.header id lt)

-- A valid request is written

entries_of : (r : Request) (c : Contents) → contents_of r ≡ Some c → (x : Entries r.base) × (contents_with x r.opt ≡ c)
unfolding contents_of
entries_of r c is =
    let q = then_ok (all_read (question_items r.base)) _ c is in
    let a = then_ok (records_of Answer r.base) _ c q.2 in
    let u = then_ok (records_of Authority r.base) _ c a.2 in
    let x = then_ok (records_of Additional r.base) _ c u.2 in
    (record { questions = q.0; answer = a.0; authority = u.0; additional = x.0; asked = q.1; answered = a.1; authorized = u.1; added = x.1 }, cc)

entries_are : (r : Request) (x : Entries r.base) → contents_of r ≡ Some (contents_with x r.opt)
unfolding contents_of
entries_are r x = rw (x.asked, x.answered, x.authorized, x.added) refl

sums : (qs : List Asked) (a u x : List Written) → 12 + sum (map question_size qs) + sum (map record_size (a ++ u ++ x)) ≡ 12 + (sum_by question_size qs + (sum_by record_size a + (sum_by record_size u + sum_by record_size x)))
sums qs a u x =
    let q = sum-map question_size qs in
    let r = sum-map record_size (a ++ u ++ x) in
    let s = sum_by-append record_size (a ++ u) x in
    let t = sum_by-append record_size a u in
    omega (arith, q, r, s, t)

size_is : {base : List ℕ} (x : Entries base) (opt : Option OptFields) → size_of (contents_with x opt) ≡ spelled (contents_with x opt)
size_is x opt = sums x.questions (sent_from Answer x.answer) (sent_from Authority x.authority) (sent_from Additional x.additional ++ opt_records opt)

-- an OPT record with one option more is longer
opt_longer : (opt : Option OptFields) → sum_by record_size (opt_records opt) ≤ sum_by record_size (opt_records (Some (option_added 11 [] (opt_or_empty opt))))
opt_longer None = omega arith
opt_longer (Some opt) = let l = length-append opt.options (option_octets 11 []) in omega arith

spelled_more : {base : List ℕ} (x : Entries base) (a b : Option OptFields) → sum_by record_size (opt_records a) ≤ sum_by record_size (opt_records b) → spelled (contents_with x a) ≤ spelled (contents_with x b)
spelled_more x a b le =
    let s = sum_by-append record_size (sent_from Additional x.additional) (opt_records a) in
    let t = sum_by-append record_size (sent_from Additional x.additional) (opt_records b) in
    omega (arith, s, t, le)

spelled_readied : (id : ℕ) (r w : Request) (x : Entries r.base) → Readied id r w → spelled (contents_with x w.opt) ≤ spelled (contents_with x (with_option 11 [] r).opt)
spelled_readied id r _ x AsItIs = spelled_more x r.opt (with_option 11 [] r).opt (opt_longer r.opt)
spelled_readied id r _ x (WithOption room) = same (spelled (contents_with x (with_option 11 [] r).opt))
  where
    same : (n : ℕ) → n ≤ n
    same n = omega arith

size_readied : (id : ℕ) (r w : Request) (x : Entries r.base) (m : List ℕ) → length r.header ≡ 4 → Readied id r w → composed w ≡ Ok m → length m ≤ spelled (contents_with x w.opt)
size_readied id r _ x m four AsItIs is = composed_size (with_id id r) x m (header_of_four id r four) is
size_readied id r _ x m four (WithOption room) is = composed_size (with_option 11 [] (with_id id r)) x m (header_of_four id r four) is

-- what is too many is so whatever OPT record stands there
read_readied : (id : ℕ) (r w : Request) → Readied id r w → base_is_read w ≡ base_is_read r
unfolding base_is_read
read_readied id r _ AsItIs = refl
read_readied id r _ (WithOption room) = refl

counts_readied : (id : ℕ) (r w : Request) (x : Entries r.base) → Readied id r w → passes_count w ≡ passes_count r
unfolding passes_count contents_of
counts_readied id r _ x AsItIs = refl
counts_readied id r _ x (WithOption room) =
    ap (λ o. option_map_or has_too_many o false) (entries_are (with_payload_size 1232 (with_option 11 [] (with_id id r))) x)
    ∙ same_count
    ∙ sym (ap (λ o. option_map_or has_too_many o false) (entries_are (with_payload_size 1232 r) x))
  where
    one_more : {A : Type 0} (xs : List A) (a b : A) → length (xs ++ a ∷ []) ≡ length (xs ++ b ∷ [])
    one_more xs a b = omega (arith, length-append xs (a ∷ []), length-append xs (b ∷ []))

    same_count : has_too_many (contents_with x (with_payload_size 1232 (with_option 11 [] (with_id id r))).opt) ≡ has_too_many (contents_with x (with_payload_size 1232 r).opt)
    same_count = ap
        (λ n. nat_lt 65535 (length x.questions) || (nat_lt 65535 (length (sent_from Answer x.answer)) || (nat_lt 65535 (length (sent_from Authority x.authority)) || nat_lt 65535 n)))
        (one_more (sent_from Additional x.additional) _ _)

-- the parts of validity
record Valid (r : Request) : Type 0 where
  read : base_is_read r ≡ true
  few : passes_count r ≡ false
  contents : Contents
  are : contents_of (with_option 11 [] r) ≡ Some contents
  fits : size_of contents ≤ 65535

valid_parts : (r : Request) → is_valid r ≡ true → Valid r
unfolding is_valid fits
valid_parts r e = by (is_misformed r.base) (base_is_read r) (passes_count r) (contents_of (with_option 11 [] r)) refl refl refl e
  where
    le : (n : ℕ) → nat_le n 65535 ≡ true → n ≤ 65535
    le n e = grind (arith, nat_tests)

    by : (a b d : Bool) (o : Option Contents) → base_is_read r ≡ b → passes_count r ≡ d → contents_of (with_option 11 [] r) ≡ o → (not a && (b && (not d && option_map_or (λ c. nat_le (size_of c) 65535) o false))) ≡ true → Valid r
    by true b d o f g h e = absurd (cc)
    by false false d o f g h e = absurd (cc)
    by false true true o f g h e = absurd (cc)
    by false true false None f g h e = absurd (cc)
    by false true false (Some c) f g h e = record { read = f; few = g; contents = c; are = h; fits = le (size_of c) e }

-- why no frame is made
data NotFramed (o : Result (List ℕ) Error) : Type 0 where
  IsRefused : (e : Error) → o ≡ Err e → NotFramed o
  IsLong : (m : List ℕ) → o ≡ Ok m → 65535 < length m → NotFramed o

long_or_refused : (o : Result (List ℕ) Error) → option_map framed (if_short o) ≡ None → NotFramed o
long_or_refused (Err e) h = IsRefused e refl
long_or_refused (Ok m) h = by (nat_le (length m) 65535) refl h
  where
    lt : (n : ℕ) → nat_le n 65535 ≡ false → 65535 < n
    lt n e = grind (arith, nat_tests)

    by : (b : Bool) → nat_le (length m) 65535 ≡ b → option_map framed (if b then Some m else None) ≡ None → NotFramed (Ok m)
    by true e h = absurd (cc)
    by false e h = IsLong m refl (lt (length m) e)

not_written : (r : Request) (id : ℕ) (w : Request) → IsOfOctets r → Readied id r w → option_map framed (if_short (composed w)) ≡ None → is_valid r ≡ true → ⊥
not_written r id w h is none e = by (long_or_refused (composed w) none)
  where
    v : Valid r
    v = valid_parts r e

    x : (y : Entries r.base) × (contents_with y (with_option 11 [] r).opt ≡ v.contents)
    x = entries_of (with_option 11 [] r) v.contents v.are

    entries : Entries r.base
    entries = x.0

    too_long : (n a b c d : ℕ) → n ≤ a → a ≤ b → d ≡ b → d ≡ c → c ≤ 65535 → 65535 < n → ⊥
    too_long n a b c d f g h i j k = omega arith

    by : NotFramed (composed w) → ⊥
    by (IsRefused fault f) = elim (composed_refused w fault (octets_readied id r w h is) f) [
      | inl g ↦ (let a = sym (read_readied id r w is) ∙ g.1 in let b = v.read in cc)
      | inr g ↦ (let a = sym (counts_readied id r w entries is) ∙ g.1 in let b = v.few in cc)
    ]
    by (IsLong m f long) = too_long (length m) (spelled (contents_with x.0 w.opt)) (spelled (contents_with x.0 (with_option 11 [] r).opt)) (size_of v.contents) (size_of (contents_with x.0 (with_option 11 [] r).opt))
        (size_readied id r w x.0 m h.header is f) (spelled_readied id r w x.0 is) (size_is x.0 (with_option 11 [] r).opt) (ap size_of x.1) v.fits long

only_invalid : (r : Request) (id : ℕ) (had : Bool) → IsOfOctets r → frame_of for_one (readied for_one id had r) ≡ None → is_valid r ≡ false
only_invalid r id had h none = by (is_valid r) refl
  where
    by : (b : Bool) → is_valid r ≡ b → b ≡ false
    by true e = absurd (not_written r id (readied for_one id had r) h (readied_so id had r) none e)
    by false e = refl

pub frames_carry : FramesCarry
frames_carry = record {
  carries = frame_carries;
  some = frame_long;
  none = only_invalid;
  answered = λ r id had octets lt. answered_so r id (readied for_one id had r) octets lt (readied_so id had r);
}
