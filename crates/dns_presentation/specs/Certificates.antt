-- Certificates as text (RFC 4398 2.2).
use Rattle.std.specs.Prelude.{ℕ, ◌==◌, List, [], ◌∷◌, ◌++◌, length, codes, decimal, Option, Some, None, if◌then◌else◌}
use Rattle.std.specs.Int.{w16, from_be_bytes}
use Rattle.dns_values.specs.NumberNames.{text_of_number}
use Rattle.dns_presentation.specs.Base64.{base64_text}

-- kinds of certificates (RFC 4398 2.1)
unfoldable pub kind_names : List (ℕ × List ℕ)
kind_names =
    (1, codes "PKIX")
    ∷ (2, codes "SPKI")
    ∷ (3, codes "PGP")
    ∷ (4, codes "IPKIX")
    ∷ (5, codes "ISPKI")
    ∷ (6, codes "IPGP")
    ∷ (7, codes "ACPKIX")
    ∷ (8, codes "IACPKIX")
    ∷ (253, codes "URI")
    ∷ (254, codes "OID")
    ∷ []

-- algorithms of keys (RFC 4034 A.1 and later), but for three that are named otherwise by some readers
unfoldable pub algorithm_names : List (ℕ × List ℕ)
algorithm_names =
    (1, codes "RSAMD5")
    ∷ (2, codes "DH")
    ∷ (3, codes "DSA")
    ∷ (5, codes "RSASHA1")
    ∷ (8, codes "RSASHA256")
    ∷ (10, codes "RSASHA512")
    ∷ (13, codes "ECDSAP256SHA256")
    ∷ (14, codes "ECDSAP384SHA384")
    ∷ (15, codes "ED25519")
    ∷ (16, codes "ED448")
    ∷ (252, codes "INDIRECT")
    ∷ (253, codes "PRIVATEDNS")
    ∷ (254, codes "PRIVATEOID")
    ∷ []

-- a name, or the number where it has none
abbrev pub kind_text : ℕ → List ℕ
kind_text kind = text_of_number kind_names [] kind

abbrev pub algorithm_text : ℕ → List ℕ
algorithm_text algorithm = text_of_number algorithm_names [] algorithm

-- the kind, the tag of a key, its algorithm, and the certificate
abbrev pub fields_text : ℕ → ℕ → ℕ → List ℕ → List ℕ
fields_text kind tag algorithm certificate =
    kind_text kind ++ 32 ∷ decimal tag ++ 32 ∷ algorithm_text algorithm ++ 32 ∷ base64_text certificate

-- The certificate has an octet at least.
abbrev pub certificate_text : List ℕ → Option (List ℕ)
certificate_text (a ∷ b ∷ c ∷ d ∷ algorithm ∷ certificate) =
    if length certificate == 0 then None
    else Some (fields_text (from_be_bytes w16 (a ∷ b ∷ [])) (from_be_bytes w16 (c ∷ d ∷ [])) algorithm certificate)
certificate_text octets = None
