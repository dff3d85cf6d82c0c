-- After each event and each out what is kept of writes is what the definitions say.
use Rattle.std.proofs.Common.{◌≡◌, ℕ, suc, ◌+◌, ◌-◌, ◌<◌, ◌≤◌, ◌==◌, ◌&&◌, Bool, true, false, not, nat_lt, if◌then◌else◌, length, List, [], ◌∷◌, Option, Some, None, refl, sym, ap, ◌∙◌, subst, arith}
use Rattle.std.proofs.lemmas.Bool.Decides.{nat_tests}
use Rattle.number_table.specs.Entries.{puts, entry_at}
use Rattle.client_request.specs.declared.event.{Event.Event, What.What, Out.Out}
use Rattle.client_request.specs.declared.event.What.TheVariants.{Ask, Opened, OpenFailed, SendFailed, ShortSend, Datagram, RecvFailed, Wrote, WriteFailed, Bytes, ReadFailed, Ended, Tick}
use Rattle.client_request.specs.declared.event.Out.TheVariants.{Start, OpenDgram, OpenStream, Send, Write, Resume, Close, Stale, Reply}
use Rattle.right_trace.specs.Trace.{History, Came, Put}
use Rattle.right_trace.specs.Messages.{Octets}
use Rattle.right_trace.specs.Writes as writes
use Rattle.right_trace.specs.Writes.{writing, taken_by, on_wrote, on_write, is_unwritten}
use Rattle.trace_tables.proofs.Tables.{at_puts}
use Rattle.trace_tables.specs.declared.writes.writing.{Left.Left, Entry.Entry, Writing.Writing}
use Rattle.trace_tables.specs.writes.Writing.{Known, GoesOn, nothing, unused, waits, writes_more, left_in, left_seen, changes, takes_in, has_put, left_of, IsBy, unwritten_seen}

same_number : (a b : ℕ) → (a == b) ≡ true → a ≡ b
same_number a b e = grind (arith, nat_tests)

own_number : (a : ℕ) → (a == a) ≡ true
own_number a = grind (arith, nat_tests)

same_left : (m m' : ℕ) (f f' : Bool) (t : ℕ) (a : Bool) → m ≡ m' → f ≡ f' → Path Left (record { missing = m; was_free = f; takes = t; again = a }) (record { missing = m'; was_free = f'; takes = t; again = a })
same_left m m' f f' t a e g = ap (λ m. record { missing = m; was_free = f; takes = t; again = a }) e ∙ ap (λ f. record { missing = m'; was_free = f; takes = t; again = a }) g

-- a row that takes nothing says no more the second time
less_none : (m : ℕ) → (m - 0) - 0 ≡ m - 0
less_none m = omega arith

none_less : (m : ℕ) → ((m - 0) == 0) ≡ (m == 0)
none_less m = ap (λ n. n == 0) (let e : m - 0 ≡ m = omega arith in e)

twice : (l : Left) → waits 0 (waits 0 l) ≡ waits 0 l
twice l = same_left _ _ _ _ 0 false (less_none l.missing) (none_less l.missing)

-- what the definitions say when a row begins
taken_more : (w t n : ℕ) → w - (t + n) ≡ (w - t) - n
taken_more w t n = omega arith

free_is : (w t : ℕ) → not (nat_lt t w) ≡ ((w - t) == 0)
free_is w t = grind (arith, nat_tests)

waits_so : (n : ℕ) (x : writes.Writing) → left_of (on_wrote n x) ≡ waits n (left_of x)
waits_so n x = same_left _ _ _ _ n false (taken_more x.wanted x.taken n) (free_is x.wanted x.taken)

-- a place that is not named in the next row
later : (row : ℕ) (o : Option Entry) → IsBy row o → left_in (row + 1) o ≡ waits 0 (left_in row o)
later row None by = refl
later row (Some e) by = ap (λ b. if b then e.left else waits 0 e.left) (not_yet e.row row by) ∙ go (e.row == row)
  where
    not_yet : (a b : ℕ) → a ≤ b → (a == b + 1) ≡ false
    not_yet a b le = grind (arith, nat_tests)

    go : (b : Bool) → waits 0 e.left ≡ waits 0 (if b then e.left else waits 0 e.left)
    go true = refl
    go false = sym (twice e.left)

by_later : (row : ℕ) (o : Option Entry) → IsBy row o → IsBy (row + 1) o
by_later row None by = tt
by_later row (Some e) by = (omega arith)

module _ (h : History) (t : Writing) (is : Known h t) where
  quiet : (w : What) → ((p : ℕ) → taken_by p w ≡ 0) → (e : Event) → e.what ≡ w → Known (Came e ∷ h) (record t { row = t.row + 1 })
  quiet w none e i = record {
    lefts = λ p. later t.row (entry_at p t.places) (is.rows p) ∙ (ap (waits 0) (is.lefts p) ∙ (sym (waits_so 0 (writing p h))
        ∙ sym (ap (λ n. left_of (on_wrote n (writing p h))) (ap (taken_by p) i ∙ none p))));
    rows = λ p. by_later t.row (entry_at p t.places) (is.rows p);
  }

  wrote_there : (q n p : ℕ) → left_in (t.row + 1) (entry_at p (puts q (record { row = t.row + 1; left = waits n (left_seen q t) }) t.places)) ≡ left_of (on_wrote (if q == p then n else 0) (writing p h))
  wrote_there q n p = ap (left_in (t.row + 1)) (at_puts q (record { row = t.row + 1; left = waits n (left_seen q t) }) p t.places) ∙ go (q == p) refl
    where
      go : (b : Bool) → (q == p) ≡ b → left_in (t.row + 1) (if b then Some (record { row = t.row + 1; left = waits n (left_seen q t) }) else entry_at p t.places) ≡ left_of (on_wrote (if b then n else 0) (writing p h))
      go true e = ap (λ b. if b then waits n (left_seen q t) else waits 0 (waits n (left_seen q t))) (own_number (t.row + 1))
          ∙ (ap (λ q. waits n (left_seen q t)) (same_number q p e) ∙ (ap (waits n) (is.lefts p) ∙ sym (waits_so n (writing p h))))
      go false e = later t.row (entry_at p t.places) (is.rows p) ∙ (ap (waits 0) (is.lefts p) ∙ sym (waits_so 0 (writing p h)))

  by_there : (q row p : ℕ) (l : Left) (u : List (ℕ × Entry)) → IsBy row (entry_at p u) → IsBy row (entry_at p (puts q (record { row = row; left = l }) u))
  by_there q row p l u by = subst (IsBy row) (sym (at_puts q (record { row = row; left = l }) p u)) (go (q == p))
    where
      own : (n : ℕ) → n ≤ n
      own n = omega arith

      go : (b : Bool) → IsBy row (if b then Some (record { row = row; left = l }) else entry_at p u)
      go true = own row
      go false = by

  event : (e : Event) → Known (Came e ∷ h) (takes_in e.what t)
  event e = go e.what refl
    where
      go : (w : What) → e.what ≡ w → Known (Came e ∷ h) (takes_in w t)
      go (Wrote q n) i = record {
        lefts = λ p. wrote_there q n p ∙ sym (ap (λ w. left_of (on_wrote (taken_by p w) (writing p h))) i);
        rows = λ p. by_there q (t.row + 1) p (waits n (left_seen q t)) t.places (by_later t.row (entry_at p t.places) (is.rows p));
      }
      go (Ask r) i = quiet (Ask r) (λ p. refl) e i
      go (Opened q) i = quiet (Opened q) (λ p. refl) e i
      go (OpenFailed q f) i = quiet (OpenFailed q f) (λ p. refl) e i
      go (SendFailed q f) i = quiet (SendFailed q f) (λ p. refl) e i
      go (ShortSend q) i = quiet (ShortSend q) (λ p. refl) e i
      go (Datagram q o) i = quiet (Datagram q o) (λ p. refl) e i
      go (RecvFailed q f) i = quiet (RecvFailed q f) (λ p. refl) e i
      go (WriteFailed q f) i = quiet (WriteFailed q f) (λ p. refl) e i
      go (Bytes q o) i = quiet (Bytes q o) (λ p. refl) e i
      go (ReadFailed q f) i = quiet (ReadFailed q f) (λ p. refl) e i
      go (Ended q) i = quiet (Ended q) (λ p. refl) e i
      go Tick i = quiet Tick (λ p. refl) e i

  writes_so : (q k i : ℕ) (o : Octets) (p : ℕ) → left_in t.row (entry_at p (puts q (record { row = t.row; left = writes_more (length o) (left_seen q t) }) t.places)) ≡ left_of (on_write p (Write q k i o) (writing p h))
  writes_so q k i o p = ap (left_in t.row) (at_puts q (record { row = t.row; left = writes_more (length o) (left_seen q t) }) p t.places) ∙ go (q == p) refl
    where
      push_in : (b : Bool) → left_of (if b then record { wanted = length o; taken = writes.taken_first (writing p h); was_free = (writing p h).was_free; takes = (writing p h).takes; again = true } else writing p h)
          ≡ (if b then writes_more (length o) (left_of (writing p h)) else left_of (writing p h))
      push_in true = refl
      push_in false = refl

      here : (b : Bool) → (q == p) ≡ b → left_in t.row (if b then Some (record { row = t.row; left = writes_more (length o) (left_seen q t) }) else entry_at p t.places) ≡ (if b then writes_more (length o) (left_of (writing p h)) else left_of (writing p h))
      here true e = ap (λ b. if b then writes_more (length o) (left_seen q t) else waits 0 (writes_more (length o) (left_seen q t))) (own_number t.row)
          ∙ (ap (λ q. writes_more (length o) (left_seen q t)) (same_number q p e) ∙ ap (writes_more (length o)) (is.lefts p))
      here false e = is.lefts p

      go : (b : Bool) → (q == p) ≡ b → left_in t.row (if b then Some (record { row = t.row; left = writes_more (length o) (left_seen q t) }) else entry_at p t.places)
          ≡ left_of (if b then record { wanted = length o; taken = writes.taken_first (writing p h); was_free = (writing p h).was_free; takes = (writing p h).takes; again = true } else writing p h)
      go b e = here b e ∙ sym (push_in b)

  out : (o : Out) → Known (Put o ∷ h) (has_put o t)
  out (Write q k i o) = record { lefts = writes_so q k i o; rows = λ p. by_there q t.row p (writes_more (length o) (left_seen q t)) t.places (is.rows p) }
  out (Start k s v) = record { lefts = is.lefts; rows = is.rows }
  out (OpenDgram p s) = record { lefts = is.lefts; rows = is.rows }
  out (OpenStream p s) = record { lefts = is.lefts; rows = is.rows }
  out (Send p k i o) = record { lefts = is.lefts; rows = is.rows }
  out (Resume p o) = record { lefts = is.lefts; rows = is.rows }
  out (Close p) = record { lefts = is.lefts; rows = is.rows }
  out (Stale k) = record { lefts = is.lefts; rows = is.rows }
  out (Reply k x) = record { lefts = is.lefts; rows = is.rows }

  tells : (p : ℕ) → unwritten_seen p t ≡ is_unwritten p h
  tells p = ap (λ (l : Left). not (l.missing == 0)) (is.lefts p) ∙ missing (writing p h).wanted (writing p h).taken
    where
      missing : (w t : ℕ) → not ((w - t) == 0) ≡ nat_lt t w
      missing w t = grind (arith, nat_tests)

pub goes_on : GoesOn
goes_on = record {
  begins = record { lefts = λ p. refl; rows = λ p. tt };
  event = λ h t e is. event h t is e;
  out = λ h t o is. out h t is o;
  tells = λ h t p is. tells h t is p;
}
