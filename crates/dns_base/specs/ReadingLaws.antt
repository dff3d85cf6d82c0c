-- The laws of reading a message: its parts are what the readers of its sections meet.
use Rattle.std.specs.Prelude.{◌≡◌, ◌≤◌, ℕ, List, [], length, Option, Some, option_and_then}
use Rattle.dns_base.specs.Header.{counts_of}
use Rattle.dns_base.specs.Message.{Asked, Known, Reading, reads, header_of, all_read, question_at, items_at, answer_items, authority_items, additional_items}
use Rattle.dns_base.specs.Answering.{question_items}

-- Each item that a reader meets is read, and these are they.
pub record ItemsAre (octets : List ℕ) (questions : List Asked) (answer authority additional : List Known) : Type 0 where
  pub questions_are : all_read (question_items octets) ≡ Some questions
  pub answer_is : option_and_then all_read (answer_items octets) ≡ Some answer
  pub authority_is : option_and_then all_read (authority_items octets) ≡ Some authority
  pub additional_is : option_and_then all_read (additional_items octets) ≡ Some additional

-- Each section has as many entries as its count says.
pub record AreCounted (r : Reading) : Type 0 where
  pub questions : length r.questions ≡ r.counts.questions
  pub answer : length r.answer ≡ r.counts.answer
  pub authority : length r.authority ≡ r.counts.authority
  pub additional : length r.additional ≡ r.counts.additional

-- A section of records that counts none is empty, where what stands before it is read.
pub record AreEmpty (octets : List ℕ) : Type 0 where
  pub answer : (questions : List Asked) → all_read (question_items octets) ≡ Some questions → (counts_of octets).answer ≡ 0 → answer_items octets ≡ Some []
  pub authority : (answer : List Known) → option_and_then all_read (answer_items octets) ≡ Some answer → (counts_of octets).authority ≡ 0 → authority_items octets ≡ Some []
  pub additional : (authority : List Known) → option_and_then all_read (authority_items octets) ≡ Some authority → (counts_of octets).additional ≡ 0
      → additional_items octets ≡ Some []

pub record ReadingLaws : Type 0 where
  pub are_empty : (octets : List ℕ) → AreEmpty octets
  pub are_counted : (octets : List ℕ) (r : Reading) → reads octets ≡ Some r → AreCounted r
  pub items_are_read : (octets : List ℕ) (r : Reading) → reads octets ≡ Some r → ItemsAre octets r.questions r.answer r.authority r.additional
  pub read_is_items : (octets : List ℕ) (questions : List Asked) (answer authority additional : List Known) → 12 ≤ length octets → ItemsAre octets questions answer authority additional
      → reads octets ≡ Some (record {
        header = header_of octets;
        counts = counts_of octets;
        questions = questions;
        answer = answer;
        authority = authority;
        additional = additional;
      })
