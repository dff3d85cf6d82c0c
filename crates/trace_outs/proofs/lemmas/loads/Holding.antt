-- The ids that are held are what the definitions say, and so are the places at which all are.
use Rattle.std.proofs.Common.{◌≡◌, ℕ, zero, suc, ◌+◌, ◌<◌, ◌≤◌, ◌==◌, ◌&&◌, ◌||◌, not, Bool, true, false, List, [], ◌∷◌, length, Option, Some, None, if◌then◌else◌, refl, sym, ap, ap₂, ◌∙◌, subst, arith}
use Rattle.std.specs.Prelude.{is_some, nat_le, nat_lt}
use Rattle.std.proofs.lemmas.Bool.Decides.{nat_tests}
use Rattle.number_table.specs.Entries.{puts, frees, entry_at}
use Rattle.client_request.specs.declared.event.{Event.Event, Out.Out}
use Rattle.client_request.specs.declared.event.Out.TheVariants.{Start, OpenDgram, OpenStream, Send, Write, Resume, Close, Stale, Reply}
use Rattle.dns_base.specs.Header.{id_of}
use Rattle.right_trace.specs.Trace.{History, Came, Put}
use Rattle.right_trace.specs.Time.{now, all_ids, id_count, one_if, count_below}
use Rattle.right_trace.specs.Messages.{Octets, id_in}
use Rattle.right_trace.specs.Frames.{is_bad, has_id, brings, came_here}
use Rattle.right_trace.specs.Writes.{is_any, is_write, written_by, waiting_with, held_with}
use Rattle.trace_tables.specs.declared.frames.frames.{Brought.Brought, Frames.Frames}
use Rattle.trace_tables.specs.frames.Frames.{Known as FramesKnown, frames_of}
use Rattle.trace_tables.specs.frames.Waiting.{id_read}
use Rattle.trace_tables.specs.sets.Sets.{Members, Sets, members, has, size, joins, leaves, Rise, AreSets}
use Rattle.trace_tables.proofs.lemmas.sets.Keeping as sets
use Rattle.trace_outs.specs.declared.loads.held.Held.{Held}
use Rattle.trace_outs.specs.loads.Held.{Known, GoesOn, nothing, noted, checks, frees_id, frees_all, met, holds, has_put, full_seen}

-- the frames of the newest row free the ids that they have, and no other
freeing : (ms : List Octets) (p id : ℕ) (h : History) → waiting_with ms p id h ≡ (if brings id ms then [] else waiting_with [] p id h)
freeing ms p id [] = none (brings id ms)
  where
    none : (b : Bool) → [] ≡ (if b then [] else waiting_with [] p id [])
    none true = refl
    none false = refl
freeing ms p id (Came e ∷ h) = refl
freeing ms p id (Put o ∷ h) = go (is_write p id o) (brings id ms) (freeing ms p id h)
  where
    go : (w b : Bool) → waiting_with ms p id h ≡ (if b then [] else waiting_with [] p id h)
        → (if w && not b then written_by o (now h) (waiting_with ms p id h) else waiting_with ms p id h) ≡ (if b then [] else (if w && true then written_by o (now h) (waiting_with [] p id h) else waiting_with [] p id h))
    go true true e = e
    go true false e = ap (written_by o (now h)) e
    go false true e = e
    go false false e = e

-- numbers that are counted are below a bound
count_below_same : (f g : ℕ → Bool) (n : ℕ) → ((m : ℕ) → m < n → f m ≡ g m) → count_below f n ≡ count_below g n
count_below_same f g zero e = refl
count_below_same f g (suc n) e = ap₂ (λ a b. a + one_if b) (count_below_same f g n (λ m lt. e m (less m n lt))) (e n (own n))
  where
    less : (m n : ℕ) → m < n → m < suc n
    less m n lt = omega arith

    own : (n : ℕ) → n < suc n
    own n = omega arith

below_so : (m n : ℕ) → nat_lt m n ≡ true → m < n
below_so m n e = grind (arith, nat_tests)

so_below : (m n : ℕ) → m < n → nat_lt m n ≡ true
so_below m n lt = grind (arith, nat_tests)

one_of : (a b : Bool) → (a && b) ≡ true → a ≡ true
one_of true b e = refl
one_of false b e = e

ids_known : (h : History) → Sets → Type 0
ids_known h t = (p id : ℕ) → has p id t ≡ (nat_lt id all_ids && is_any (waiting_with [] p id h))

size_is : (p : ℕ) (h : History) (t : Sets) → AreSets t → ((id : ℕ) → has p id t ≡ (nat_lt id all_ids && is_any (waiting_with [] p id h))) → size p t ≡ held_with [] p h
size_is p h t are is =
    sets.goes_on.counted p all_ids (λ id. nat_lt id all_ids && is_any (waiting_with [] p id h)) t are (record { same = is; below = λ id e. below_so id all_ids (one_of (nat_lt id all_ids) _ e) })
    ∙ count_below_same (λ id. nat_lt id all_ids && is_any (waiting_with [] p id h)) (λ id. is_any (waiting_with [] p id h)) all_ids (λ id lt. ap (λ b. b && is_any (waiting_with [] p id h)) (so_below id all_ids lt))

-- one place is asked anew
same_number : (a b : ℕ) → (a == b) ≡ true → a ≡ b
same_number a b e = grind (arith, nat_tests)

noted_here : (p q : ℕ) (es : Members) (b : Bool) → Rise 0 es → (p == q) ≡ true → is_some (entry_at q (noted p b es)) ≡ b
noted_here p q es false r e = ap is_some (ap (λ (n : ℕ). entry_at n (frees p es)) (sym (same_number p q e)) ∙ sets.freed_none 0 p es r)
noted_here p q es true r e = ap is_some (sets.at_puts p tt q es ∙ ap (λ b. if b then Some tt else entry_at q es) e)

noted_there : (p q : ℕ) (es : Members) (b : Bool) → (p == q) ≡ false → is_some (entry_at q (noted p b es)) ≡ is_some (entry_at q es)
noted_there p q es false e = ap is_some (sets.stays q p es e)
noted_there p q es true e = ap is_some (sets.at_puts p tt q es ∙ ap (λ b. if b then Some tt else entry_at q es) e)

noted_rise : (p : ℕ) (es : Members) (b : Bool) → Rise 0 es → Rise 0 (noted p b es)
noted_rise p es false r = sets.rise_frees 0 p es r
noted_rise p es true r = sets.rise_puts 0 p es (omega arith) r

-- so a place is known, and the others stay as they were
full_is : (h : History) (n : ℕ) → nat_le 32768 n ≡ nat_le id_count n
unfolding id_count
full_is h n = refl

checked : (h h' : History) (p : ℕ) (ids : Sets) (t : Held) → Known h t → AreSets ids
    → ((q id : ℕ) → has q id ids ≡ (nat_lt id all_ids && is_any (waiting_with [] q id h'))) → ((q : ℕ) → (p == q) ≡ false → held_with [] q h' ≡ held_with [] q h) → Known h' (checks p (record t { ids = ids }))
checked h h' p ids t is are new others = record {
  ids = new;
  sets = are;
  full = λ q. go q (p == q) refl;
  rise = noted_rise p t.full (nat_le 32768 (size p ids)) is.rise;
}
  where
    go : (q : ℕ) (b : Bool) → (p == q) ≡ b → is_some (entry_at q (noted p (nat_le 32768 (size p ids)) t.full)) ≡ nat_le id_count (held_with [] q h')
    go q true e =
        noted_here p q t.full (nat_le 32768 (size p ids)) is.rise e
        ∙ (full_is h (size p ids) ∙ (ap (nat_le id_count) (size_is p h' ids are (new p)) ∙ ap (λ (n : ℕ). nat_le id_count (held_with [] n h')) (same_number p q e)))
    go q false e = noted_there p q t.full (nat_le 32768 (size p ids)) e ∙ (is.full q ∙ ap (nat_le id_count) (sym (others q e)))

-- frames that free ids
abbrev reads_id : (id : ℕ) → Option ℕ → Bool
reads_id id None = false
reads_id id (Some n) = n == id

has_id_is : (id : ℕ) (m : Octets) → reads_id id (id_read m) ≡ has_id id m
unfolding is_bad id_in
has_id_is id m = go (nat_lt (length m) 12)
  where
    go : (b : Bool) → reads_id id (if b then None else Some (id_of m)) ≡ (not b && (id_of m == id))
    go true = refl
    go false = refl

freed_one : (p q id : ℕ) (o : Option ℕ) (t : Sets) → AreSets t → has q id (frees_id p o t) ≡ (not ((p == q) && reads_id id o) && has q id t)
freed_one p q id None t are = none (p == q)
  where
    none : (b : Bool) → has q id t ≡ (not (b && false) && has q id t)
    none true = refl
    none false = refl
freed_one p q id (Some n) t are = sets.goes_on.left p n q id t are

freed_sets : (p : ℕ) (o : Option ℕ) (t : Sets) → AreSets t → AreSets (frees_id p o t)
freed_sets p None t are = are
freed_sets p (Some n) t are = sets.goes_on.leave p n t are

all_sets : (p : ℕ) (ms : List Octets) (t : Sets) → AreSets t → AreSets (frees_all p ms t)
all_sets p [] t are = are
all_sets p (m ∷ ms) t are = all_sets p ms (frees_id p (id_read m) t) (freed_sets p (id_read m) t are)

freed_all : (p q id : ℕ) (ms : List Octets) (t : Sets) → AreSets t → has q id (frees_all p ms t) ≡ (not ((p == q) && brings id ms) && has q id t)
freed_all p q id [] t are = none (p == q)
  where
    none : (b : Bool) → has q id t ≡ (not (b && false) && has q id t)
    none true = refl
    none false = refl
freed_all p q id (m ∷ ms) t are =
    freed_all p q id ms (frees_id p (id_read m) t) (freed_sets p (id_read m) t are)
    ∙ (ap (λ z. not ((p == q) && brings id ms) && z) (freed_one p q id (id_read m) t are ∙ ap (λ b. not ((p == q) && b) && has q id t) (has_id_is id m))
    ∙ join (p == q) (brings id ms) (has_id id m) (has q id t))
  where
    join : (a b c z : Bool) → (not (a && b) && (not (a && c) && z)) ≡ (not (a && (c || b)) && z)
    join true true true z = refl
    join true true false z = refl
    join true false true z = refl
    join true false false z = refl
    join false b c z = refl

-- events
came_waits : (h : History) (p id : ℕ) (e : Event) → is_any (waiting_with [] p id (Came e ∷ h)) ≡ (not (brings id (came_here p h)) && is_any (waiting_with [] p id h))
came_waits h p id e = ap is_any (freeing (came_here p h) p id h) ∙ go (brings id (came_here p h))
  where
    go : (b : Bool) → is_any (if b then [] else waiting_with [] p id h) ≡ (not b && is_any (waiting_with [] p id h))
    go true = refl
    go false = refl

past_not : (a b c : Bool) → (not b && (a && c)) ≡ (a && (not b && c))
past_not true b c = refl
past_not false true c = refl
past_not false false c = refl

event : (h : History) (f : Frames) (t : Held) (e : Event) → FramesKnown h f → Known h t → Known (Came e ∷ h) (met f.brought t)
event h f t e kf is = go f.brought refl
  where
    -- what a place brought frees its ids
    ids_at : (o : Option Brought) → f.brought ≡ o → (p id : ℕ) → (nat_lt id all_ids && is_any (waiting_with [] p id (Came e ∷ h))) ≡ (not (brings id (frames_of p o)) && (nat_lt id all_ids && is_any (waiting_with [] p id h)))
    ids_at o i p id =
        ap (λ b. nat_lt id all_ids && b) (came_waits h p id e ∙ ap (λ ms. not (brings id ms) && is_any (waiting_with [] p id h)) (sym (kf.here p) ∙ ap (frames_of p) i))
        ∙ sym (past_not (nat_lt id all_ids) (brings id (frames_of p o)) (is_any (waiting_with [] p id h)))

    others : (b : Brought) → f.brought ≡ Some b → (q : ℕ) → (b.place == q) ≡ false → held_with [] q (Came e ∷ h) ≡ held_with [] q h
    others b i q ne = count_below_same (λ id. is_any (waiting_with [] q id (Came e ∷ h))) (λ id. is_any (waiting_with [] q id h)) all_ids (λ id lt.
        came_waits h q id e ∙ ap (λ ms. not (brings id ms) && is_any (waiting_with [] q id h)) (sym (kf.here q) ∙ (ap (frames_of q) i ∙ ap (λ d. if d then b.frames else []) ne)))

    same : f.brought ≡ None → (q : ℕ) → held_with [] q (Came e ∷ h) ≡ held_with [] q h
    same i q = count_below_same (λ id. is_any (waiting_with [] q id (Came e ∷ h))) (λ id. is_any (waiting_with [] q id h)) all_ids (λ id lt.
        came_waits h q id e ∙ ap (λ ms. not (brings id ms) && is_any (waiting_with [] q id h)) (sym (kf.here q) ∙ ap (frames_of q) i))

    brought_by : (b : Brought) (q id : ℕ) → (not ((b.place == q) && brings id b.frames) && has q id t.ids) ≡ (not (brings id (frames_of q (Some b))) && has q id t.ids)
    brought_by b q id = by (b.place == q)
      where
        by : (d : Bool) → (not (d && brings id b.frames) && has q id t.ids) ≡ (not (brings id (if d then b.frames else [])) && has q id t.ids)
        by true = refl
        by false = refl

    go : (o : Option Brought) → f.brought ≡ o → Known (Came e ∷ h) (met o t)
    go None i = record {
      ids = λ p id. is.ids p id ∙ sym (ids_at None i p id);
      sets = is.sets;
      full = λ p. is.full p ∙ ap (nat_le id_count) (sym (same i p));
      rise = is.rise;
    }
    go (Some b) i = checked h (Came e ∷ h) b.place (frees_all b.place b.frames t.ids) t is (all_sets b.place b.frames t.ids is.sets)
        (λ q id. freed_all b.place q id b.frames t.ids is.sets ∙ (brought_by b q id ∙ (ap (λ z. not (brings id (frames_of q (Some b))) && z) (is.ids q id) ∙ sym (ids_at (Some b) i q id))))
        (others b i)

-- outs
written_any : (p q k i id n : ℕ) (m : Octets) (h : History) → is_any (waiting_with [] q id (Put (Write p k i m) ∷ h)) ≡ (((p == q) && (i == id)) || is_any (waiting_with [] q id h))
written_any p q k i id n m h = go ((p == q) && (i == id))
  where
    go : (b : Bool) → is_any (if b && true then written_by (Write p k i m) (now h) (waiting_with [] q id h) else waiting_with [] q id h) ≡ (b || is_any (waiting_with [] q id h))
    go true = refl
    go false = refl

ids_limit : (n : ℕ) → nat_lt n 65536 ≡ nat_lt n all_ids
unfolding all_ids
ids_limit n = refl

written : (h : History) (t : Held) (p k i : ℕ) (m : Octets) → Known h t → Known (Put (Write p k i m) ∷ h) (holds p i t)
written h t p k i m is = go (nat_lt i 65536) refl
  where
    joined : (a : Bool) → nat_lt i all_ids ≡ true → (q id : ℕ) → ((p == q) && (i == id)) ≡ a → (a || (nat_lt id all_ids && is_any (waiting_with [] q id h))) ≡ (nat_lt id all_ids && (a || is_any (waiting_with [] q id h)))
    joined true lt q id e = sym (ap (λ b. b && true) (ap (λ (n : ℕ). nat_lt n all_ids) (sym (same_number i id (second (p == q) (i == id) e))) ∙ lt))
      where
        second : (a b : Bool) → (a && b) ≡ true → b ≡ true
        second true b e = e
        second false b e = absurd (cc)
    joined false lt q id e = refl

    apart : (a : Bool) → nat_lt i all_ids ≡ false → (q id : ℕ) → ((p == q) && (i == id)) ≡ a → (nat_lt id all_ids && is_any (waiting_with [] q id h)) ≡ (nat_lt id all_ids && (a || is_any (waiting_with [] q id h)))
    apart true lt q id e =
        let l : nat_lt id all_ids ≡ false = ap (λ (n : ℕ). nat_lt n all_ids) (sym (same_number i id (second (p == q) (i == id) e))) ∙ lt in
        ap (λ b. b && is_any (waiting_with [] q id h)) l ∙ sym (ap (λ b. b && true) l)
      where
        second : (a b : Bool) → (a && b) ≡ true → b ≡ true
        second true b e = e
        second false b e = absurd (cc)
    apart false lt q id e = refl

    any_put : (q id : ℕ) → is_any (waiting_with [] q id (Put (Write p k i m) ∷ h)) ≡ (((p == q) && (i == id)) || is_any (waiting_with [] q id h))
    any_put q id = written_any p q k i id 0 m h

    others : (q : ℕ) → (p == q) ≡ false → held_with [] q (Put (Write p k i m) ∷ h) ≡ held_with [] q h
    others q ne = count_below_same (λ id. is_any (waiting_with [] q id (Put (Write p k i m) ∷ h))) (λ id. is_any (waiting_with [] q id h)) all_ids (λ id lt. any_put q id ∙ ap (λ b. (b && (i == id)) || is_any (waiting_with [] q id h)) ne)

    unheld : nat_lt i all_ids ≡ false → (q : ℕ) → held_with [] q (Put (Write p k i m) ∷ h) ≡ held_with [] q h
    unheld big q = count_below_same (λ id. is_any (waiting_with [] q id (Put (Write p k i m) ∷ h))) (λ id. is_any (waiting_with [] q id h)) all_ids (λ id lt. any_put q id ∙ ap (λ b. b || is_any (waiting_with [] q id h)) (not_it q id lt))
      where
        far : (i id n : ℕ) → nat_lt i n ≡ false → id < n → (i == id) ≡ false
        far i id n big lt = grind (arith, nat_tests)

        none : (a : Bool) → (a && false) ≡ false
        none true = refl
        none false = refl

        not_it : (q id : ℕ) → id < all_ids → ((p == q) && (i == id)) ≡ false
        not_it q id lt = ap (λ b. (p == q) && b) (far i id all_ids big lt) ∙ none (p == q)

    go : (b : Bool) → nat_lt i 65536 ≡ b → Known (Put (Write p k i m) ∷ h) (if b then checks p (record t { ids = joins p i t.ids }) else t)
    go true e = checked h (Put (Write p k i m) ∷ h) p (joins p i t.ids) t is (sets.goes_on.join p i t.ids is.sets)
        (λ q id. sets.goes_on.joined p i q id t.ids ∙ (ap (λ z. ((p == q) && (i == id)) || z) (is.ids q id) ∙ (joined ((p == q) && (i == id)) (sym (ids_limit i) ∙ e) q id refl ∙ ap (λ b. nat_lt id all_ids && b) (sym (any_put q id)))))
        others
    go false e = record {
      ids = λ q id. is.ids q id ∙ (apart ((p == q) && (i == id)) (sym (ids_limit i) ∙ e) q id refl ∙ ap (λ b. nat_lt id all_ids && b) (sym (any_put q id)));
      sets = is.sets;
      full = λ q. is.full q ∙ ap (nat_le id_count) (sym (unheld (sym (ids_limit i) ∙ e) q));
      rise = is.rise;
    }

out : (h : History) (t : Held) (o : Out) → Known h t → Known (Put o ∷ h) (has_put o t)
out h t (Write p k i m) is = written h t p k i m is
out h t (Start k s v) is = record { ids = is.ids; sets = is.sets; full = is.full; rise = is.rise }
out h t (OpenDgram p s) is = record { ids = is.ids; sets = is.sets; full = is.full; rise = is.rise }
out h t (OpenStream p s) is = record { ids = is.ids; sets = is.sets; full = is.full; rise = is.rise }
out h t (Send p k i m) is = record { ids = is.ids; sets = is.sets; full = is.full; rise = is.rise }
out h t (Resume p m) is = record { ids = is.ids; sets = is.sets; full = is.full; rise = is.rise }
out h t (Close p) is = record { ids = is.ids; sets = is.sets; full = is.full; rise = is.rise }
out h t (Stale k) is = record { ids = is.ids; sets = is.sets; full = is.full; rise = is.rise }
out h t (Reply k x) is = record { ids = is.ids; sets = is.sets; full = is.full; rise = is.rise }

none_held : (p n : ℕ) → count_below (λ id. is_any (waiting_with [] p id [])) n ≡ 0
none_held p zero = refl
none_held p (suc n) = ap (λ a. a + 0) (none_held p n)

zero_is : nat_le id_count 0 ≡ false
unfolding id_count
zero_is = refl

pub goes_on : GoesOn
goes_on = record { begins = record { ids = λ p id. none (nat_lt id all_ids); sets = sets.goes_on.begins; full = λ p. sym (ap (nat_le id_count) (none_held p all_ids) ∙ zero_is); rise = tt }; event = event; out = out }
  where
    none : (b : Bool) → false ≡ (b && false)
    none true = refl
    none false = refl
