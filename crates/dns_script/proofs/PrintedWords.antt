-- Words that are written of something are read as it.
use Rattle.std.proofs.Common.{◌≡◌, ℕ, true, length, List, [], ◌∷◌, ◌++◌, Option, Some, None, codes, refl, ap, arith, option_map, decimal, IfSome}
use Rattle.std.proofs.lemmas.Bool.{eq-eqb, le-ltb}
use Rattle.dns_base.specs.OptRecord.{OptFields}
use Rattle.client_request.specs.Request.{Request}
use Rattle.client_request.specs.declared.event.Via.{Via}
use Rattle.client_request.specs.declared.event.Via.TheVariants.{Dgram, Stream}
use Rattle.client_request.specs.declared.fault.Fault.{Fault}
use Rattle.client_request.specs.declared.fault.Fault.TheVariants as fault
use Rattle.dns_script.specs.Reading.{one_word}
use Rattle.dns_script.specs.Grammar.{u64_at, u32_at, u16_at, octets_at, fault_at, via_at, message_at, header_of, opt_of, request_of, request_at}
use Rattle.dns_script.specs.Lines.{opt_octets, opt_word, request_words}
use Rattle.dns_script.specs.TextLaws.{AreOctets, IsMessage, IsOptRecord, IsRequest, IsU16, IsU32, IsU64}
use Rattle.dns_script.specs.Words.{hex_word, via_word, fault_word}
use Rattle.dns_script.proofs.Decimals.{decimal_is_number}
use Rattle.dns_script.proofs.HexWords.{digits_are_pairs, hex_is_octets, hex_is_word}
use Rattle.dns_script.proofs.Joined.{AreWords, IsAbove, has_no_blank, is_word}
use Rattle.dns_script.proofs.OptTexts.{spelled_is_record}

pub u64_read : (n : ℕ) (rest : List (List ℕ)) → IsU64 n → u64_at (decimal n ∷ rest) ≡ Some (n, rest)
u64_read n rest h = ap (option_map {U = ℕ × List (List ℕ)} (λ x. (x, rest))) (decimal_is_number 18446744073709551615 n (omega arith) (omega arith))

pub u32_read : (n : ℕ) (rest : List (List ℕ)) → IsU32 n → u32_at (decimal n ∷ rest) ≡ Some (n, rest)
u32_read n rest h = ap (option_map {U = ℕ × List (List ℕ)} (λ x. (x, rest))) (decimal_is_number 4294967295 n (omega arith) (omega arith))

pub u16_read : (n : ℕ) (rest : List (List ℕ)) → IsU16 n → u16_at (decimal n ∷ rest) ≡ Some (n, rest)
u16_read n rest h = ap (option_map {U = ℕ × List (List ℕ)} (λ x. (x, rest))) (decimal_is_number 65535 n (omega arith) (omega arith))

pub octets_read : (octets : List ℕ) (rest : List (List ℕ)) → AreOctets octets → octets_at (hex_word octets ∷ rest) ≡ Some (octets, rest)
octets_read octets rest h = ap (option_map {U = List ℕ × List (List ℕ)} (λ x. (x, rest))) (hex_is_octets octets h)

pub message_read : (octets : List ℕ) (rest : List (List ℕ)) → IsMessage octets → message_at (hex_word octets ∷ rest) ≡ Some (octets, rest)
message_read octets rest h = rw (hex_is_octets octets h.0, le-ltb (length octets) 12 h.1) refl

pub fault_read : (f : Fault) (rest : List (List ℕ)) → fault_at (fault_word f ∷ rest) ≡ Some (f, rest)
fault_read fault.Refused rest = refl
fault_read fault.Reset rest = refl
fault_read fault.Unreachable rest = refl
fault_read fault.InUse rest = refl
fault_read fault.Broken rest = refl
fault_read fault.Other rest = refl
fault_read fault.Expired rest = refl
fault_read fault.ShortSend rest = refl
fault_read fault.NothingTaken rest = refl
fault_read fault.EndOfData rest = refl

pub via_read : (v : Via) (rest : List (List ℕ)) → via_at (via_word v ∷ rest) ≡ Some (v, rest)
via_read Dgram rest = refl
via_read Stream rest = refl

header_read : (header : List ℕ) (rest : List (List ℕ)) → AreOctets header → length header ≡ 4 → one_word header_of (hex_word header ∷ rest) ≡ Some (header, rest)
header_read [] rest all four = absurd (omega (arith, four))
header_read (octet ∷ octets) rest all four = rw (digits_are_pairs (octet ∷ octets) all, eq-eqb _ 4 four) refl

all_joined : (xs ys : List ℕ) → AreOctets xs → AreOctets ys → AreOctets (xs ++ ys)
all_joined [] ys a b = b
all_joined (x ∷ xs) ys a b = (a.0, all_joined xs ys a.1 b)

spelled_of_octets : (opt : OptFields) → IsOptRecord opt → AreOctets (opt_octets opt)
spelled_of_octets opt h =
    let code = h.fields.ext_rcode in
    let version = h.fields.version in
    (omega arith, (omega arith, (omega arith, (omega arith, (omega arith, (code, (version, (omega arith, (omega arith, (omega arith, (omega arith, h.octets)))))))))))

opt_read : (opt : Option OptFields) → IfSome opt IsOptRecord → opt_of (opt_word opt) ≡ Some opt
opt_read None h = refl
opt_read (Some opt) h =
    let octets : List ℕ = opt_octets opt in
    rw (hex_is_octets octets (spelled_of_octets opt h), spelled_is_record opt h.fields h.whole) refl

request_of_read : (request : Request) → IsRequest request → request_of request.base request.header (opt_word request.opt) ≡ Some request
unfolding request_of
request_of_read request h = rw (h.askable, opt_read request.opt h.opt) refl

pub request_read : (request : Request) (rest : List (List ℕ)) → IsRequest request → request_at (request_words request ++ rest) ≡ Some (request, rest)
request_read request rest h =
    rw (message_read request.base (hex_word request.header ∷ opt_word request.opt ∷ rest) h.base, header_read request.header (opt_word request.opt ∷ rest) h.header h.four, request_of_read request h) refl

pub fault_is_word : (f : Fault) → IsAbove 32 (fault_word f)
fault_is_word f = is_word (fault_word f) (go f)
  where
    go : (f : Fault) → has_no_blank (fault_word f) ≡ true
    go fault.Refused = refl
    go fault.Reset = refl
    go fault.Unreachable = refl
    go fault.InUse = refl
    go fault.Broken = refl
    go fault.Other = refl
    go fault.Expired = refl
    go fault.ShortSend = refl
    go fault.NothingTaken = refl
    go fault.EndOfData = refl

pub via_is_word : (v : Via) → IsAbove 32 (via_word v)
via_is_word Dgram = is_word (codes "dgram") refl
via_is_word Stream = is_word (codes "stream") refl

opt_is_word : (opt : Option OptFields) → IsAbove 32 (opt_word opt)
opt_is_word None = is_word (codes "-") refl
opt_is_word (Some opt) = hex_is_word (opt_octets opt)

pub request_is_words : (request : Request) → AreWords (request_words request)
request_is_words request = (hex_is_word request.base, (hex_is_word request.header, (opt_is_word request.opt, tt)))
