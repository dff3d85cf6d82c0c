-- What a draft holds: the entries that were pushed, as they are read back.
use Rattle.std.specs.Prelude.{◌≡◌, ◌≢◌, ℕ, ◌+◌, ◌<◌, ◌≤◌, ◌^◌, List, [], ◌∷◌, ◌++◌, length, take, drop, Option, Some, None, option_and_then, option_map, IsTrue}
use Rattle.std.specs.List.{AllZip, AllByRecursion}
use Rattle.dns_values.specs.declared.numbers.Section.{Section}
use Rattle.dns_values.specs.declared.numbers.Section.TheVariants.{Answer, Authority, Additional}
use Rattle.dns_names.specs.Name.{Labels, Found, IsLegal, lowered, name_at}
use Rattle.dns_base.specs.Numbers.{◌>>=◌}
use Rattle.dns_base.specs.Header.{Counts}
use Rattle.dns_base.specs.Data.{Data, A, Aaaa, One, Minfo, Mx, StartOfAuthority, Service, Named, Txt, Opt, Other, data_size, is_of_type}
use Rattle.dns_base.specs.Message.{Asked, Written, Known, Reading, question_at, record_at, list_at}
use Rattle.dns_base.specs.Knowing.{lowered_asked}
use Rattle.dns_base.specs.DataReading.{DataReadsAs}
use Rattle.dns_base.specs.Draft.{Draft}

-- what was pushed
pub record Contents : Type 0 where
  pub questions : List Asked
  pub answer : List Written
  pub authority : List Written
  pub additional : List Written

abbrev pub no_contents : Contents
no_contents = record { questions = []; answer = []; authority = []; additional = [] }

abbrev pub with_question : Asked → Contents → Contents
with_question q c = record c { questions = c.questions ++ q ∷ [] }

abbrev pub with_record : Section → Written → Contents → Contents
with_record Answer w c = record c { answer = c.answer ++ w ∷ [] }
with_record Authority w c = record c { authority = c.authority ++ w ∷ [] }
with_record Additional w c = record c { additional = c.additional ++ w ∷ [] }

-- a question that can be written
pub record IsAskable (q : Asked) : Type 0 where
  pub name : IsLegal q.name
  pub rtype : q.rtype < 2 ^ 16
  pub class : q.class < 2 ^ 16

abbrev pub IsLegalSecond : Option Labels → Type 0
IsLegalSecond None = Unit {0}
IsLegalSecond (Some name) = IsLegal name

-- data that can be written
abbrev pub IsWritableData : Data → Type 0
IsWritableData (A octets) = length octets ≡ 4
IsWritableData (Aaaa octets) = length octets ≡ 16
IsWritableData (One rtype name) = IsLegal name
IsWritableData (Minfo first second) = IsLegal first × IsLegal second
IsWritableData (Mx preference name) = (preference < 2 ^ 16) × IsLegal name
IsWritableData (StartOfAuthority soa) =
    IsLegal soa.mname × IsLegal soa.rname
    × ((soa.serial < 2 ^ 32) × (soa.refresh < 2 ^ 32) × (soa.retry < 2 ^ 32) × (soa.expire < 2 ^ 32) × (soa.minimum < 2 ^ 32))
IsWritableData (Service srv) = (srv.priority < 2 ^ 16) × (srv.weight < 2 ^ 16) × (srv.port < 2 ^ 16) × IsLegal srv.target
IsWritableData (Named it) = IsLegal it.first × IsLegalSecond it.second
IsWritableData (Txt octets) = Unit {0}
IsWritableData (Opt octets) = Unit {0}
IsWritableData (Other octets) = Unit {0}

-- a record that can be written
pub record IsWritable (w : Written) : Type 0 where
  pub owner : IsLegal w.owner
  pub rtype : w.rtype < 2 ^ 16
  pub class : w.class < 2 ^ 16
  pub ttl : w.ttl < 2 ^ 32
  pub typed : IsTrue (is_of_type w.rtype w.content)
  pub short : data_size w.content < 2 ^ 16
  pub content : IsWritableData w.content

-- a question is read as it was written, but for case
abbrev pub AskedReadsAs : Asked → Asked → Type 0
AskedReadsAs found q = lowered_asked found ≡ lowered_asked q

-- a record is read as it was written
pub record ReadsAs (known : Known) (w : Written) : Type 0 where
  pub owner : lowered known.entry.owner ≡ lowered w.owner
  pub rtype : known.entry.rtype ≡ w.rtype
  pub class : known.entry.class ≡ w.class
  pub ttl : known.entry.ttl ≡ w.ttl
  pub content : DataReadsAs known w.content

-- the entries of four sections, and the place behind them
pub record Entries : Type 0 where
  pub questions : List Asked
  pub answer : List Known
  pub authority : List Known
  pub additional : List Known

unfoldable pub entries_at : List ℕ → Counts → Option (Entries × ℕ)
entries_at octets counts = do
  questions ← list_at (question_at octets) counts.questions 12
  answer ← list_at (record_at octets) counts.answer questions.1
  authority ← list_at (record_at octets) counts.authority answer.1
  additional ← list_at (record_at octets) counts.additional authority.1
  Some (record { questions = questions.0; answer = answer.0; authority = authority.0; additional = additional.0 }, additional.1)

-- each is read as it was written
pub record Agree (entries : Entries) (c : Contents) : Type 0 where
  pub questions : AllZip AskedReadsAs entries.questions c.questions
  pub answer : AllZip ReadsAs entries.answer c.answer
  pub authority : AllZip ReadsAs entries.authority c.authority
  pub additional : AllZip ReadsAs entries.additional c.additional

pub record EntriesAre (octets : List ℕ) (counts : Counts) (c : Contents) (end : ℕ) : Type 0 where
  pub entries : Entries
  pub read : entries_at octets counts ≡ Some (entries, end)
  pub agree : Agree entries c

-- A name that a pointer may name: it is read alike here and there, with fewer pointers than labels.
pub record IsPlace (here there : List ℕ) (place : ℕ) : Type 0 where
  pub found : Found
  pub read_here : name_at here place ≡ Some found
  pub read_there : name_at there place ≡ Some found
  pub few : found.pointers < length found.labels

abbrev pub ArePlaces : List ℕ → List ℕ → List ℕ → Type 0
ArePlaces here there places = AllByRecursion (IsPlace here there) places

-- All that was pushed is read, and each name that a pointer may name, whatever the header is and whatever octets follow.
pub record Holds (d : Draft) (c : Contents) : Type 0 where
  pub long : 12 ≤ length d.target.octets
  pub few : (d.counts.questions < 65536) × (d.counts.answer < 65536) × (d.counts.authority < 65536) × (d.counts.additional < 65536)
  pub read : (header tail : List ℕ) → length header ≡ 12 → EntriesAre (header ++ (drop 12 d.target.octets ++ tail)) d.counts c (length d.target.octets)
  pub places : (header tail : List ℕ) → length header ≡ 12 → ArePlaces d.target.octets (header ++ (drop 12 d.target.octets ++ tail)) d.target.places

-- the first four octets of a draft
unfoldable pub header_in : Draft → List ℕ
header_in d = take 4 d.target.octets

-- a reading with this header, whose entries are those that were pushed
pub record IsReadingOf (reading : Reading) (header : List ℕ) (counts : Counts) (c : Contents) : Type 0 where
  pub header_is : reading.header ≡ header
  pub counts_are : reading.counts ≡ counts
  pub agree : Agree (record { questions = reading.questions; answer = reading.answer; authority = reading.authority; additional = reading.additional }) c
