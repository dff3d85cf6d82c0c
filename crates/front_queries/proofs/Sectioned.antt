-- Where the sections of a message begin.
use Rattle.std.proofs.Common.{◌≡◌, ℕ, List, refl}
use Rattle.std.specs.Prelude.{Some}
use Rattle.dns_base.specs.Message.{Asked, Known, answer_items, answer_of, additional_items, authority_items, authority_of, items_at, list_at, questions_of, record_at}
use Rattle.dns_base.specs.Numbers.{u16_at}

pub answer_begins : (m : List ℕ) (qs : List Asked) (at : ℕ) → questions_of m ≡ Some (qs, at) → answer_items m ≡ Some (items_at (record_at m) (u16_at m 6) at)
unfolding answer_items
answer_begins m qs at e = rw e refl

pub answer_read : (m : List ℕ) (qs : List Asked) (xs : List Known) (at end : ℕ) → questions_of m ≡ Some (qs, at) → list_at (record_at m) (u16_at m 6) at ≡ Some (xs, end)
    → answer_of m ≡ Some (xs, end)
unfolding answer_of
answer_read m qs xs at end e f = rw (e, f) refl

pub authority_begins : (m : List ℕ) (xs : List Known) (at : ℕ) → answer_of m ≡ Some (xs, at) → authority_items m ≡ Some (items_at (record_at m) (u16_at m 8) at)
unfolding authority_items
authority_begins m xs at e = rw e refl

pub authority_read : (m : List ℕ) (xs ys : List Known) (at end : ℕ) → answer_of m ≡ Some (xs, at) → list_at (record_at m) (u16_at m 8) at ≡ Some (ys, end)
    → authority_of m ≡ Some (ys, end)
unfolding authority_of
authority_read m xs ys at end e f = rw (e, f) refl

pub additional_begins : (m : List ℕ) (xs : List Known) (at : ℕ) → authority_of m ≡ Some (xs, at) → additional_items m ≡ Some (items_at (record_at m) (u16_at m 10) at)
unfolding additional_items
additional_begins m xs at e = rw e refl
