-- What two requests share where one entry may serve both.
use Rattle.std.specs.Prelude.{◌≡◌, ℕ, Bool, true, false, not, ◌&&◌, ◌||◌, ◌==◌, if◌then◌else◌, Option, Some, None, []}
use Rattle.std.specs.Option.{option_map_or}
use Rattle.dns_names.specs.Name.{Labels, lowered}
use Rattle.dns_base.specs.Header.{ad_of, cd_of, rd_of, opcode_of}
use Rattle.dns_base.specs.Message.{Asked, sole_question}
use Rattle.client_request.specs.Request.{Request, is_dnssec_ok}
use Rattle.right_trace.specs.Messages.{base_is_read}

-- what a request asks of DNSSEC: DO is recorded, else AD is set, else neither (RFC 4035 3.2.1, RFC 6840 5.7)
pub data FlagClass : Type 0 where
  Do : FlagClass
  Ad : FlagClass
  Plain : FlagClass

-- the name is in lower case
pub record Key : Type 0 where
  pub name : Labels
  pub rtype : ℕ
  pub class : ℕ
  pub flags : FlagClass
  pub cd : Bool
  pub rd : Bool

abbrev pub flags_of : Request → FlagClass
flags_of r = if is_dnssec_ok r then Do else (if ad_of r.header then Ad else Plain)

-- the one question of a request, or one of the root
abbrev pub no_question : Asked
no_question = record { name = []; rtype = 0; class = 0 }

abbrev pub question_or : Option Asked → Asked
question_or (Some q) = q
question_or None = no_question

unfoldable pub question_of : Request → Asked
question_of r = question_or (sole_question r.base)

-- the name of its question, as it is spelled
abbrev pub spelled_name : Request → Labels
spelled_name r = (question_of r).name

unfoldable pub key_of : Request → Key
key_of r = record { name = lowered (spelled_name r); rtype = (question_of r).rtype; class = (question_of r).class; flags = flags_of r; cd = cd_of r.header; rd = rd_of r.header }

-- its base is read, its opcode is QUERY, and it has one question, of class IN
unfoldable pub is_cacheable : Request → Bool
is_cacheable r = base_is_read r && (opcode_of r.header == 0 && option_map_or (λ q. q.class == 1) (sole_question r.base) false)

abbrev pub is_do : FlagClass → Bool
is_do Do = true
is_do _ = false

abbrev pub is_plain : FlagClass → Bool
is_plain Plain = true
is_plain _ = false

-- RRSIG 46, NSEC 47 and NSEC3 50 (RFC 4034 3, 4; RFC 5155 3)
abbrev pub is_signing : (rtype : ℕ) → Bool
is_signing n = (n == 46) || ((n == 47) || (n == 50))

-- an answer that was asked with the first flags has what the second ask for
abbrev pub flags_cover : FlagClass → FlagClass → Bool
flags_cover Do r = true
flags_cover Ad r = not (is_do r)
flags_cover Plain Plain = true
flags_cover Plain _ = false

-- The same question and CD, RD set or alike, flags that cover; what signs is given from a DO answer to a DO request alone (RFC 4035 4.6).
pub record KeysCover (q r : Key) : Type 0 where
  pub name : q.name ≡ r.name
  pub rtype : q.rtype ≡ r.rtype
  pub class : q.class ≡ r.class
  pub cd : q.cd ≡ r.cd
  pub rd : (q.rd || not r.rd) ≡ true
  pub flags : flags_cover q.flags r.flags ≡ true
  pub signing : (not (is_do q.flags && is_signing q.rtype) || is_do r.flags) ≡ true

-- an answer to q may serve r
pub record Covers (q r : Request) : Type 0 where
  pub first : is_cacheable q ≡ true
  pub second : is_cacheable r ≡ true
  pub keys : KeysCover (key_of q) (key_of r)

-- what is stored under a key may serve r
pub record KeyCovers (k : Key) (r : Request) : Type 0 where
  pub cacheable : is_cacheable r ≡ true
  pub keys : KeysCover k (key_of r)

-- a test that tells equal keys
pub record TellsKeys (eq : Key → Key → Bool) : Type 0 where
  pub itself : (k : Key) → eq k k ≡ true
  pub back : (a b : Key) → eq a b ≡ true → eq b a ≡ true
  pub on : (a b d : Key) → eq a b ≡ true → eq b d ≡ true → eq a d ≡ true
  pub equal : (a b : Key) → eq a b ≡ true → a ≡ b
