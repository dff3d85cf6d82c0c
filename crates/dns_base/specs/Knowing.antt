-- What a message says, with the data of its records read by type, and when two messages say the same.
use Rattle.std.specs.Prelude.{◌≡◌, ℕ, List, [], ◌∷◌, Option, Some, None, option_and_then, option_map, map}
use Rattle.dns_names.specs.Name.{Labels, lowered}
use Rattle.dns_base.specs.Numbers.{◌>>=◌}
use Rattle.dns_base.specs.Forms.{lowered_named}
use Rattle.dns_base.specs.Data.{Data, A, Aaaa, One, Minfo, Mx, StartOfAuthority, Service, Named, Txt, Opt, Other}
use Rattle.dns_base.specs.Message.{Asked, Written, Known, reads}

pub record Knowing : Type 0 where
  pub header : List ℕ
  pub questions : List Asked
  pub answer : List Written
  pub authority : List Written
  pub additional : List Written

-- a record with its data by type, if that is read
abbrev pub meaning_of : Known → Option Written
meaning_of known = option_map (λ content. record {
  owner = known.entry.owner;
  rtype = known.entry.rtype;
  class = known.entry.class;
  ttl = known.entry.ttl;
  content = content;
}) known.says

abbrev pub meanings_of : List Known → Option (List Written)
meanings_of [] = Some []
meanings_of (known ∷ others) = do
  first ← meaning_of known
  rest ← meanings_of others
  Some (first ∷ rest)

unfoldable pub knows : List ℕ → Option Knowing
knows octets = do
  reading ← reads octets
  answer ← meanings_of reading.answer
  authority ← meanings_of reading.authority
  additional ← meanings_of reading.additional
  Some (record {
    header = reading.header;
    questions = reading.questions;
    answer = answer;
    authority = authority;
    additional = additional;
  })

-- with each name in lower case
abbrev pub lowered_asked : Asked → Asked
lowered_asked q = record q { name = lowered q.name }

abbrev pub lowered_data : Data → Data
lowered_data (A octets) = A octets
lowered_data (Aaaa octets) = Aaaa octets
lowered_data (One rtype name) = One rtype (lowered name)
lowered_data (Minfo first second) = Minfo (lowered first) (lowered second)
lowered_data (Mx preference name) = Mx preference (lowered name)
lowered_data (StartOfAuthority soa) = StartOfAuthority (record soa { mname = lowered soa.mname; rname = lowered soa.rname })
lowered_data (Service srv) = Service (record srv { target = lowered srv.target })
lowered_data (Named it) = Named (lowered_named it)
lowered_data (Txt octets) = Txt octets
lowered_data (Opt octets) = Opt octets
lowered_data (Other octets) = Other octets

abbrev pub lowered_written : Written → Written
lowered_written w = record w { owner = lowered w.owner; content = lowered_data w.content }

abbrev pub lowered_knowing : Knowing → Knowing
lowered_knowing k = record {
  header = k.header;
  questions = map lowered_asked k.questions;
  answer = map lowered_written k.answer;
  authority = map lowered_written k.authority;
  additional = map lowered_written k.additional;
}

-- Both are read by type, and their parts are equal but for the case of names.
pub record SameMessage (a b : List ℕ) : Type 0 where
  pub parts : Knowing
  pub first : option_map lowered_knowing (knows a) ≡ Some parts
  pub second : option_map lowered_knowing (knows b) ≡ Some parts
