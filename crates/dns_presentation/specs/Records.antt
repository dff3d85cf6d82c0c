-- Questions, and records whose data is addresses, names and numbers or is generic, as text (RFC 1035 5.1).
use Rattle.std.specs.Prelude.{ℕ, ◌==◌, ◌||◌, Bool, List, [], ◌∷◌, ◌++◌, decimal, Option, Some, None, if◌then◌else◌}
use Rattle.std.specs.Fmt.{option_append}
use Rattle.std.specs.Net.Addr.{segments_of}
use Rattle.std.specs.Net.Text.{ipv4_text, ipv6_text}
use Rattle.dns_values.specs.NumberNames.{class_text, type_text}
use Rattle.dns_base.specs.Message.{Asked, Entry, Known}
use Rattle.dns_base.specs.Data.{Data, Soa, Srv, A, Aaaa, One, Minfo, Mx, StartOfAuthority, Service, Named, Txt, Opt, Other}
use Rattle.dns_presentation.specs.Counted.{strings_text}
use Rattle.dns_presentation.specs.Forms.{form_text}
use Rattle.dns_presentation.specs.Generic.{generic_text, or_generic}
use Rattle.dns_presentation.specs.Named.{named_text}
use Rattle.dns_presentation.specs.Names.{absolute_text}

-- the name, the class and the type, with tabs between
abbrev pub question_text : Asked → List ℕ
question_text asked = absolute_text asked.name ++ 9 ∷ 9 ∷ class_text asked.class ++ 9 ∷ type_text asked.rtype

abbrev pub soa_text : Soa → List ℕ
soa_text soa =
    absolute_text soa.mname ++ 32 ∷ absolute_text soa.rname ++ 32 ∷ decimal soa.serial ++ 32 ∷ decimal soa.refresh ++ 32 ∷ decimal soa.retry
    ++ 32 ∷ decimal soa.expire ++ 32 ∷ decimal soa.minimum

abbrev pub srv_text : Srv → List ℕ
srv_text srv = decimal srv.priority ++ 32 ∷ decimal srv.weight ++ 32 ∷ decimal srv.port ++ 32 ∷ absolute_text srv.target

-- types of which a message's reader looks into no data, and whose form is not told here
abbrev pub has_form : ℕ → Bool
has_form rtype =
    rtype == 29 || rtype == 43 || rtype == 44 || rtype == 46 || rtype == 47 || rtype == 48 || rtype == 50 || rtype == 51 || rtype == 52
    || rtype == 53 || rtype == 59 || rtype == 60 || rtype == 61 || rtype == 64 || rtype == 65 || rtype == 256 || rtype == 257

-- octets that a message's reader doesn't look into
abbrev pub octets_text : ℕ → List ℕ → Option (List ℕ)
octets_text rtype octets = if has_form rtype then None else Some (or_generic (form_text rtype octets) octets)

-- the start of a zone, where a service is, and options, which are generic
abbrev pub numbered_text : List ℕ → Data → Option (List ℕ)
numbered_text whole (StartOfAuthority soa) = Some (soa_text soa)
numbered_text whole (Service srv) = Some (srv_text srv)
numbered_text whole (Opt octets) = Some (generic_text whole)
numbered_text whole other = None

-- Of octets of the types above it says nothing.
abbrev pub typed_text : ℕ → List ℕ → Data → Option (List ℕ)
typed_text rtype whole (Named it) = named_text rtype it
typed_text rtype whole (Txt octets) = Some (or_generic (strings_text 1 65535 octets) whole)
typed_text rtype whole (Other octets) = octets_text rtype octets
typed_text rtype whole other = numbered_text whole other

-- the text of data of a type, of which some octets are the whole
abbrev pub data_text : ℕ → List ℕ → Data → Option (List ℕ)
data_text rtype whole (A octets) = Some (ipv4_text octets)
data_text rtype whole (Aaaa octets) = Some (ipv6_text (segments_of octets))
data_text rtype whole (One _ name) = Some (absolute_text name)
data_text rtype whole (Minfo first second) = Some (absolute_text first ++ 32 ∷ absolute_text second)
data_text rtype whole (Mx preference name) = Some (decimal preference ++ 32 ∷ absolute_text name)
data_text rtype whole other = typed_text rtype whole other

-- data that can't be read is generic
abbrev pub says_text : Entry → Option Data → Option (List ℕ)
says_text entry None = Some (generic_text entry.octets)
says_text entry (Some says) = data_text entry.rtype entry.octets says

abbrev pub known_text : Known → Option (List ℕ)
known_text known = says_text known.entry known.says

-- the owner, the seconds, the class and the type, with a tab behind each
abbrev pub front_text : Entry → List ℕ
front_text entry = absolute_text entry.owner ++ 9 ∷ decimal entry.ttl ++ 9 ∷ class_text entry.class ++ 9 ∷ type_text entry.rtype ++ 9 ∷ []

-- and then the data
abbrev pub record_text : Known → Option (List ℕ)
record_text known = option_append (Some (front_text known.entry)) (known_text known)
