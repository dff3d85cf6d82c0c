-- When two messages say the same, as a walk over both finds it.
use Rattle.std.specs.Prelude.{◌≡◌, ◌==◌, ◌&&◌, Bool, true, false, List, [], ◌∷◌, Option, Some, None, Result, Ok, Err}
use Rattle.std.specs.Bool.{beq}
use Rattle.dns_values.specs.declared.error.ParseError.{ParseError}
use Rattle.dns_values.specs.declared.numbers.Section.{Section}
use Rattle.dns_values.specs.declared.numbers.Section.TheVariants.{Answer, Authority, Additional}
use Rattle.dns_names.specs.Name.{same_name}
use Rattle.dns_base.specs.{Data.Data, OptRecord.opt_rcode}
use Rattle.dns_base.specs.Message.{Known, header_of}
use Rattle.dns_base.specs.Answering.{same_items, question_items}
use Rattle.client_request.specs.Composed.{section_items}
use Rattle.right_trace.specs.Messages.{Octets}
use Rattle.right_trace.specs.Parts.{Header, Parts, flags_in, known_parts, Says}
use Rattle.message_judging.specs.matching.Shapes.{shape_of, same_shape}

-- the same bits
abbrev pub same_flags : Header → Header → Bool
same_flags a b = beq a.qr b.qr && (beq a.aa b.aa && (beq a.tc b.tc && beq a.rd b.rd))

abbrev pub same_more_flags : Header → Header → Bool
same_more_flags a b = beq a.ra b.ra && (beq a.z b.z && (beq a.ad b.ad && beq a.cd b.cd))

abbrev pub same_header : Header → Header → Bool
same_header a b = (a.id == b.id) && ((a.opcode == b.opcode) && ((a.rcode == b.rcode) && (same_flags a b && same_more_flags a b)))

-- both are read by type, and the same but for the case of names
abbrev pub same_content : Option Data → Option Data → Bool
same_content (Some d) (Some e) = same_shape (shape_of d) (shape_of e)
same_content (Some d) None = false
same_content None e = false

abbrev pub same_record : Known → Known → Bool
same_record a b =
    same_name a.entry.owner b.entry.owner
    && ((a.entry.rtype == b.entry.rtype) && ((a.entry.class == b.entry.class) && ((a.entry.ttl == b.entry.ttl) && same_content a.says b.says)))

-- both are read to their ends, and the same record by record
abbrev pub same_records : List (Result Known ParseError) → List (Result Known ParseError) → Bool
same_records [] [] = true
same_records (Ok x ∷ xs) (Ok y ∷ ys) = same_record x y && same_records xs ys
same_records [] (y ∷ ys) = false
same_records (x ∷ xs) [] = false
same_records (Err e ∷ xs) (y ∷ ys) = false
same_records (Ok x ∷ xs) (Err e ∷ ys) = false

abbrev pub same_found : (a b : Option (List (Result Known ParseError))) → Bool
same_found (Some xs) (Some ys) = same_records xs ys
same_found (Some xs) None = false
same_found None b = false

abbrev pub same_section : Section → (a b : Octets) → Bool
same_section s a b = same_found (section_items s a) (section_items s b)

abbrev pub same_message : (a b : Octets) → Bool
same_message a b =
    same_header (flags_in (header_of a)) (flags_in (header_of b)) && ((opt_rcode a == opt_rcode b)
    && (same_items (question_items a) (question_items b)
    && (same_section Answer a b && (same_section Authority a b && same_section Additional a b))))

-- the second is read by type, and the first says what it says
pub record SaysAs (a b : Octets) : Type 0 where
  pub parts : Parts Data
  pub known : known_parts b ≡ Some parts
  pub says : Says a parts

-- the answer
pub record TellsSame (a b : Octets) (same : Bool) : Type 0 where
  pub so : same ≡ true → SaysAs a b
  pub back : SaysAs a b → same ≡ true
