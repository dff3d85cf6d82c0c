-- Where datagrams came from, by the numbers that their peers have.
use Rattle.std.specs.Prelude.{◌≡◌, ℕ, if◌then◌else◌, nat_lt, List, drop, length, Option}
use Rattle.std.specs.Ordering.{nat_cmp}
use Rattle.std.specs.BTreeMap.{insert_entry, is_at}
use Rattle.std.specs.Map.{lookup, remove_entry}
use Rattle.dns_values.specs.Source.{one_more}
use Rattle.listener_peers.specs.declared.senders.Sender.{Sender}

-- the number of the next one, and those that are kept, in rising order of their numbers
pub record Senders : Type 0 where
  pub next : ℕ
  pub kept : List (ℕ × Sender)

abbrev pub most_kept : ℕ
most_kept = 20000

abbrev pub sender_at : ℕ → List (ℕ × Sender) → Option Sender
sender_at number kept = lookup (is_at (nat_cmp number)) kept

abbrev pub and_sender : ℕ → Sender → List (ℕ × Sender) → List (ℕ × Sender)
and_sender number sender kept = insert_entry nat_cmp kept number sender

abbrev pub but_sender : ℕ → List (ℕ × Sender) → List (ℕ × Sender)
but_sender number kept = remove_entry (is_at (nat_cmp number)) kept

-- The oldest is forgotten where there are as many as may be kept.
abbrev pub with_room : List (ℕ × Sender) → List (ℕ × Sender)
with_room kept = if nat_lt (length kept) most_kept then kept else drop 1 kept

-- with one more, which has the next number
abbrev pub and_next : Sender → Senders → Senders
and_next sender s = record { next = one_more s.next; kept = and_sender s.next sender (with_room s.kept) }
