-- Worked messages, computed.
use Rattle.std.proofs.Common.{◌≡◌, ℕ, List, [], ◌∷◌, ◌++◌, refl, Some, None}
use Rattle.std.specs.Prelude.{option_map, replicate}
use Rattle.dns_names.specs.Name.{Labels, name_at, walk, head_at, spelling}
use Rattle.dns_base.specs.Data.{A, One, Mx, Service, Opt, data_at, data_spelling}
use Rattle.dns_base.specs.Compression.{Compressed, found_at, name_octets, remembered, with_name, with_octets, with_data, with_question, with_fields, counted, with_counted_data, with_record}
use Rattle.dns_base.specs.Message.{question_at, record_at, list_at, questions_of, answer_of, authority_of, additional_of, reads}

abbrev pub example : List (List ℕ)
example = (101 ∷ 120 ∷ 97 ∷ 109 ∷ 112 ∷ 108 ∷ 101 ∷ []) ∷ (99 ∷ 111 ∷ 109 ∷ []) ∷ []

abbrev pub q : List ℕ
q = 7 ∷ 101 ∷ 120 ∷ 97 ∷ 109 ∷ 112 ∷ 108 ∷ 101 ∷ 3 ∷ 99 ∷ 111 ∷ 109 ∷ 0 ∷ 0 ∷ 1 ∷ 0 ∷ 1 ∷ []

abbrev a_1234 : List ℕ
a_1234 = (18 ∷ 52 ∷ 0x81 ∷ 0x80 ∷ 0 ∷ 1 ∷ 0 ∷ 1 ∷ 0 ∷ 0 ∷ 0 ∷ 0 ∷ []) ++ q ++ (0xc0 ∷ 12 ∷ 0 ∷ 1 ∷ 0 ∷ 1 ∷ 0 ∷ 0 ∷ 0 ∷ 100 ∷ 0 ∷ 4 ∷ 192 ∷ 0 ∷ 2 ∷ 1 ∷ [])

abbrev s : List ℕ
s = (18 ∷ 52 ∷ 1 ∷ 0 ∷ 0 ∷ 1 ∷ 0 ∷ 0 ∷ 0 ∷ 0 ∷ 0 ∷ 1 ∷ []) ++ q ++ (0 ∷ 0 ∷ 41 ∷ 4 ∷ 0xd0 ∷ 0 ∷ 0 ∷ 0 ∷ 0 ∷ 0 ∷ 0 ∷ [])

pub name_s : name_at s 12 ≡ Some (record { labels = example; end = 25; pointers = 0 })
unfolding name_at walk head_at
name_s = refl

pub name_a : name_at a_1234 29 ≡ Some (record { labels = example; end = 31; pointers = 1 })
unfolding name_at walk head_at
name_a = refl

pub reads_a : reads a_1234 ≡ Some (record {
  header = 18 ∷ 52 ∷ 0x81 ∷ 0x80 ∷ [];
  counts = record { questions = 1; answer = 1; authority = 0; additional = 0 };
  questions = record { name = example; rtype = 1; class = 1 } ∷ [];
  answer = record { entry = record { owner = example; rtype = 1; class = 1; ttl = 100; octets = 192 ∷ 0 ∷ 2 ∷ 1 ∷ [] }; says = Some (A (192 ∷ 0 ∷ 2 ∷ 1 ∷ [])) } ∷ [];
  authority = [];
  additional = [];
})
unfolding name_at walk head_at question_at record_at data_at list_at questions_of answer_of authority_of additional_of reads
reads_a = refl

pub reads_s : reads s ≡ Some (record {
  header = 18 ∷ 52 ∷ 1 ∷ 0 ∷ [];
  counts = record { questions = 1; answer = 0; authority = 0; additional = 1 };
  questions = record { name = example; rtype = 1; class = 1 } ∷ [];
  answer = [];
  authority = [];
  additional = record { entry = record { owner = []; rtype = 41; class = 1232; ttl = 0; octets = [] }; says = Some (Opt []) } ∷ [];
})
unfolding name_at walk head_at question_at record_at data_at list_at questions_of answer_of authority_of additional_of reads
reads_s = refl

-- a label, and a pointer back to it: read round and round, it passes 255 octets
pub round : name_at (12 ∷ 1 ∷ 97 ∷ 0xc0 ∷ 1 ∷ []) 1 ≡ None
unfolding name_at walk head_at
round = refl

-- A pointer into the name's own label: its octets are a head, and the label that it starts goes on behind the pointer.
-- So what a name is may rest on octets behind its end.
pub past_its_end : name_at (3 ∷ 5 ∷ 98 ∷ 99 ∷ 0xc0 ∷ 1 ∷ 100 ∷ 0 ∷ []) 0 ≡ Some (record { labels = (5 ∷ 98 ∷ 99 ∷ []) ∷ (98 ∷ 99 ∷ 0xc0 ∷ 1 ∷ 100 ∷ []) ∷ []; end = 6; pointers = 1 })
unfolding name_at walk head_at
past_its_end = refl

-- A pointer to the header: the id is read as a label.
pub header_read : name_at (1 ∷ 52 ∷ 0 ∷ 0 ∷ 0 ∷ 1 ∷ 0 ∷ 0 ∷ 0 ∷ 0 ∷ 0 ∷ 0 ∷ 0xc0 ∷ 0 ∷ []) 12 ≡ Some (record { labels = (52 ∷ []) ∷ []; end = 14; pointers = 1 })
unfolding name_at walk head_at
header_read = refl

-- the same name with fewer octets behind its end is not read
pub not_yet : name_at (3 ∷ 5 ∷ 98 ∷ 99 ∷ 0xc0 ∷ 1 ∷ []) 0 ≡ None
unfolding name_at walk head_at
not_yet = refl

abbrev ns : List ℕ
ns = 0 ∷ 0 ∷ 2 ∷ 0 ∷ 1 ∷ 0 ∷ 0 ∷ 0 ∷ 0 ∷ 0 ∷ 2 ∷ 0xc0 ∷ 0 ∷ []

-- Data with a pointer to the header says another name under another id.
pub under_zero : option_map (λ x. x.0.says) (record_at ((0 ∷ 52 ∷ 0 ∷ 0 ∷ 0 ∷ 0 ∷ 0 ∷ 1 ∷ 0 ∷ 0 ∷ 0 ∷ 0 ∷ []) ++ ns) 12) ≡ Some (Some (One 2 []))
unfolding name_at walk head_at record_at data_at
under_zero = refl

pub under_one : option_map (λ x. x.0.says) (record_at ((1 ∷ 52 ∷ 0 ∷ 0 ∷ 0 ∷ 0 ∷ 0 ∷ 1 ∷ 0 ∷ 0 ∷ 0 ∷ 0 ∷ []) ++ ns) 12) ≡ Some (Some (One 2 ((52 ∷ []) ∷ [])))
unfolding name_at walk head_at record_at data_at
under_one = refl

-- Names that are compressed (RFC 1035 4.1.4).

abbrev pub top : Labels
top = (99 ∷ 111 ∷ 109 ∷ []) ∷ []

abbrev mail : Labels
mail = (109 ∷ 97 ∷ 105 ∷ 108 ∷ []) ∷ example

abbrev blank : Compressed
blank = record { octets = replicate 12 0; places = [] }

abbrev pub asked : Compressed
asked = record { octets = replicate 12 0 ++ q; places = 12 ∷ 20 ∷ [] }

-- The first name is written out, and its labels are remembered.
pub question_written : with_question (record { name = example; rtype = 1; class = 1 }) blank ≡ asked
unfolding name_at walk head_at with_name with_octets with_question
question_written = refl

abbrev answered : Compressed
answered = record {
  octets = asked.octets ++ (0xc0 ∷ 0x0c ∷ 0 ∷ 0x0f ∷ 0 ∷ 1 ∷ 0 ∷ 0 ∷ 0 ∷ 0 ∷ 0 ∷ 9 ∷ 0 ∷ 0x0a ∷ 4 ∷ 0x6d ∷ 0x61 ∷ 0x69 ∷ 0x6c ∷ 0xc0 ∷ 0x0c ∷ []);
  places = 12 ∷ 20 ∷ 43 ∷ [];
}

-- A mail exchange in the domain that was asked for: two pointers to the question's name.
pub answer_written : with_record (record { owner = example; rtype = 15; class = 1; ttl = 0; content = Mx 10 mail }) asked ≡ answered
unfolding name_at walk head_at with_name with_octets with_fields with_data counted with_counted_data with_record
answer_written = refl

-- the longest suffix, and not the first that stands
pub longest_suffix : name_octets answered ((120 ∷ []) ∷ mail) ≡ 1 ∷ 120 ∷ 0xc0 ∷ 43 ∷ []
unfolding name_at walk head_at
longest_suffix = refl

pub shorter_suffix : name_octets answered ((120 ∷ []) ∷ top) ≡ 1 ∷ 120 ∷ 0xc0 ∷ 20 ∷ []
unfolding name_at walk head_at
shorter_suffix = refl

-- case is ignored: EXAMPLE.com
pub case_ignored : name_octets asked ((69 ∷ 88 ∷ 65 ∷ 77 ∷ 80 ∷ 76 ∷ 69 ∷ []) ∷ top) ≡ 0xc0 ∷ 12 ∷ []
unfolding name_at walk head_at
case_ignored = refl

-- the first of two places
pub first_place : found_at (replicate 12 0 ++ spelling example ++ spelling example) (12 ∷ 25 ∷ []) example ≡ Some 12
unfolding name_at walk head_at
first_place = refl

-- no pointer stands for the root
pub root_written : name_octets answered [] ≡ 0 ∷ []
root_written = refl

-- nor in the data of SRV and DNAME, of which no label is remembered either
pub service_written : with_data (Service (record { priority = 1; weight = 2; port = 53; target = example })) asked ≡ record asked { octets = asked.octets ++ (0 ∷ 1 ∷ 0 ∷ 2 ∷ 0 ∷ 53 ∷ spelling example) }
unfolding with_octets with_data data_spelling
service_written = refl

pub domain_written : with_data (One 39 example) asked ≡ record asked { octets = asked.octets ++ spelling example }
unfolding with_octets with_data
domain_written = refl

pub alias_written : with_data (One 5 example) asked ≡ record asked { octets = asked.octets ++ (0xc0 ∷ 12 ∷ []) }
unfolding name_at walk head_at with_name with_data
alias_written = refl

-- the last place that a pointer can name, and the first that it can't
pub last_place : remembered 16383 [] ≡ 16383 ∷ []
last_place = refl

pub past_places : remembered 16384 [] ≡ []
past_places = refl
