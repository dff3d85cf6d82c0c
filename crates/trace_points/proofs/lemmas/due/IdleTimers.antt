-- What is found of an idle timer is what the definitions say.
use Rattle.std.proofs.Common.{◌≡◌, ℕ, ◌+◌, ◌≤◌, ◌==◌, ◌&&◌, ◌||◌, ◌⊎◌, inl, inr, not, nat_le, nat_lt, Bool, true, false, cond, if◌then◌else◌, length, List, [], ◌∷◌, ◌++◌, Option, Some, None, refl, sym, ap, ◌∙◌, subst, arith, is_eq, nat_cmp}
use Rattle.std.specs.Prelude.{is_some}
use Rattle.std.proofs.lemmas.Bool.Decides.{nat_tests}
use Rattle.number_table.specs.Entries.{puts, entry_at}
use Rattle.dns_base.specs.Header.{id_of}
use Rattle.right_trace.specs.Trace.{History, Came, Put, Conf}
use Rattle.right_trace.specs.Time.{now, idle_timeout}
use Rattle.right_trace.specs.Messages.{Octets, keepalive_of}
use Rattle.right_trace.specs.Places.{Alive, is_alive}
use Rattle.right_trace.specs.Frames.{is_bad, came_here, has_frame}
use Rattle.right_trace.specs.Writes.{Written, is_any, waiting_with}
use Rattle.right_trace.specs.Timers.{quiet_with, idle_with, told_idle, last_keepalive, IdleTimerIsDue}
use Rattle.trace_tables.specs.declared.places.{Place.Place, Stand.Stand as Seen}
use Rattle.trace_tables.specs.declared.places.Stand.TheVariants as seen
use Rattle.trace_tables.specs.Known.{stand_of, stand_seen}
use Rattle.trace_tables.specs.Lists.{list_or_none, listed}
use Rattle.trace_tables.proofs.Tables.{at_puts}
use Rattle.trace_tables.specs.declared.frames.ledger.Ledger.{Ledger}
use Rattle.trace_tables.specs.frames.Frames.{frames_of}
use Rattle.trace_tables.specs.frames.Waiting.{AtPlace, is_empty}
use Rattle.trace_tables.specs.frames.Ledger as ledger
use Rattle.trace_tables.specs.timers.Quiet.{quiet_seen}
use Rattle.trace_tables.proofs.lemmas.timers.Quieting as quieting
use Rattle.trace_tables.specs.idle.Idle.{idle_seen}
use Rattle.trace_tables.specs.idle.Keepalive.{told_by, told_in, or_before, last_told}
use Rattle.trace_points.specs.declared.due.timers.Timers.{Timers}
use Rattle.trace_points.specs.due.Loose.{has_id_seen, brings_seen}
use Rattle.trace_points.specs.due.Timers as timers
use Rattle.trace_points.specs.due.Due.{Freed, all_freed, frees_by, is_due_now, idle_walk, idle_due_at, idle_due, TellsIdleTimer}
use Rattle.trace_points.proofs.lemmas.due.Waits.{unheld_is}
use Rattle.trace_points.proofs.lemmas.due.ReadTimers.{both, all}

either : (a b : Bool) → (a || b) ≡ true → (a ≡ true) ⊎ (b ≡ true)
either true b e = inl refl
either false b e = inr e

first_true : (a b : Bool) → a ≡ true → (a || b) ≡ true
first_true a b e = ap (λ a. a || b) e

second_true : (a b : Bool) → b ≡ true → (a || b) ≡ true
second_true true b e = refl
second_true false b e = e

-- idle times

same_told : (b : Bool) (o : Option ℕ) (n : ℕ) → (if b then n else told_idle o n) ≡ or_before (if b then None else o) n
same_told true o n = refl
same_told false None n = refl
same_told false (Some t) n = refl

frame_tells : (m : Octets) (n : ℕ) → (if is_bad m then n else told_idle (keepalive_of m) n) ≡ or_before (told_in m) n
unfolding is_bad keepalive_of
frame_tells m n = same_told (nat_lt (length m) 12) (told_by m) n

frames_tell : (ms : List Octets) (n : ℕ) → last_keepalive ms n ≡ last_told ms n
frames_tell [] n = refl
frames_tell (m ∷ ms) n = ap (last_keepalive ms) (frame_tells m n) ∙ frames_tell ms (or_before (told_in m) n)

-- some of the newest row's frames count
counted_tell : (conf : Conf) (ms later : List Octets) (p : ℕ) (h : History) → came_here p h ≡ ms ++ later → idle_with conf ms p h ≡ last_keepalive ms (idle_with conf [] p h)
counted_tell conf [] later p h e = refl
counted_tell conf (m ∷ ms) later p [] e = absurd (cc)
counted_tell conf (m ∷ ms) later p (Came e ∷ h) c = refl
counted_tell conf (m ∷ ms) later p (Put o ∷ h) e = counted_tell conf (m ∷ ms) later p h e

-- entries that are free

-- each id is free, or was freed
abbrev AllFree : Freed → AtPlace → Type 0
AllFree f t = (id : ℕ) → (is_empty (listed id t) || is_some (entry_at id f)) ≡ true

free_so : (f : Freed) (t es : AtPlace) → all_freed f t es ≡ true → (id : ℕ) (x : List Written) → entry_at id es ≡ Some x → (is_empty (listed id t) || is_some (entry_at id f)) ≡ true
free_so f t [] e id x i = absurd (cc)
free_so f t (d ∷ es) e id x i = go (λ e. free_so f t es e id x) (is_eq (nat_cmp id d.0)) refl (both (is_empty (listed d.0 t) || is_some (entry_at d.0 f)) (all_freed f t es) e) i
  where
    go : (all_freed f t es ≡ true → entry_at id es ≡ Some x → (is_empty (listed id t) || is_some (entry_at id f)) ≡ true) → (b : Bool) → is_eq (nat_cmp id d.0) ≡ b → ((is_empty (listed d.0 t) || is_some (entry_at d.0 f)) ≡ true) × (all_freed f t es ≡ true) → cond b (Some d.1) (entry_at id es) ≡ Some x → (is_empty (listed id t) || is_some (entry_at id f)) ≡ true
    go rest true j q i =
        let same : id ≡ d.0 = grind (arith, nat_tests) in
        ap (λ id. is_empty (listed id t) || is_some (entry_at id f)) same ∙ q.0
    go rest false j q i = rest q.1 i

all_free : (f : Freed) (t : AtPlace) → all_freed f t t ≡ true → AllFree f t
all_free f t e id = go (entry_at id t) refl
  where
    go : (o : Option (List Written)) → entry_at id t ≡ o → (is_empty (listed id t) || is_some (entry_at id f)) ≡ true
    go None i = first_true _ _ (ap is_empty (ap list_or_none i))
    go (Some x) i = free_so f t t e id x i

free_all : (f : Freed) (t es : AtPlace) → AllFree f t → all_freed f t es ≡ true
free_all f t [] a = refl
free_all f t (d ∷ es) a = all (is_empty (listed d.0 t) || is_some (entry_at d.0 f)) (all_freed f t es) (a d.0) (free_all f t es a)

-- what a frame frees
freed_more : (m : Octets) (f : Freed) (id : ℕ) → is_some (entry_at id (frees_by m f)) ≡ (has_id_seen id m || is_some (entry_at id f))
freed_more m f id = go (nat_lt (length m) 12)
  where
    put_in : (b : Bool) → is_some (if b then Some tt else entry_at id f) ≡ (b || is_some (entry_at id f))
    put_in true = refl
    put_in false = refl

    go : (b : Bool) → is_some (entry_at id (if b then f else puts (id_of m) tt f)) ≡ ((not b && (id_of m == id)) || is_some (entry_at id f))
    go true = refl
    go false = ap is_some (at_puts (id_of m) tt id f) ∙ put_in (id_of m == id)

-- walks

-- frames behind which the timer is due, of those that are left
record Stops (f : Freed) (t : AtPlace) (q i n : ℕ) (ms : List Octets) : Type 0 where
  counted : List Octets
  later : List Octets
  are : ms ≡ counted ++ later
  free : (id : ℕ) → (is_empty (listed id t) || (brings_seen id counted || is_some (entry_at id f))) ≡ true
  passed : (if has_frame counted then n else q) + last_told counted i ≤ n

at_most : (a b : ℕ) → nat_le a b ≡ true → a ≤ b
at_most a b e = grind (arith, nat_tests)

most_at : (a b : ℕ) → a ≤ b → nat_le a b ≡ true
most_at a b e = grind (arith, nat_tests)

swap : (a b c : Bool) → (b || (a || c)) ≡ (a || b || c)
swap true true c = refl
swap true false c = refl
swap false b c = refl

after_first : (c : List Octets) (n : ℕ) → (if has_frame c then n else n) ≡ n
after_first [] n = refl
after_first (m ∷ c) n = refl

now_so : (f : Freed) (t : AtPlace) (q i n : ℕ) (ms : List Octets) → is_due_now f t q i n ≡ true → Stops f t q i n ms
now_so f t q i n ms e =
    let r = both (nat_le (q + i) n) (all_freed f t t) e in
    record { counted = []; later = ms; are = refl; free = all_free f t r.1; passed = at_most (q + i) n r.0 }

walk_so : (f : Freed) (t : AtPlace) (q i n : ℕ) (ms : List Octets) → idle_walk f t q i n ms ≡ true → Stops f t q i n ms
walk_so f t q i n [] e = now_so f t q i n [] e
walk_so f t q i n (m ∷ ms) e = go (walk_so (frees_by m f) t n (or_before (told_in m) i) n ms) (either (is_due_now f t q i n) (idle_walk (frees_by m f) t n (or_before (told_in m) i) n ms) e)
  where
    go : (idle_walk (frees_by m f) t n (or_before (told_in m) i) n ms ≡ true → Stops (frees_by m f) t n (or_before (told_in m) i) n ms) → (is_due_now f t q i n ≡ true) ⊎ (idle_walk (frees_by m f) t n (or_before (told_in m) i) n ms ≡ true) → Stops f t q i n (m ∷ ms)
    go rest (inl e) = now_so f t q i n (m ∷ ms) e
    go rest (inr e) =
        let r = rest e in
        record {
          counted = m ∷ r.counted;
          later = r.later;
          are = ap (λ ms. m ∷ ms) r.are;
          free = λ id. ap (λ b. is_empty (listed id t) || b) (sym (ap (λ b. brings_seen id r.counted || b) (freed_more m f id) ∙ swap (has_id_seen id m) (brings_seen id r.counted) (is_some (entry_at id f)))) ∙ r.free id;
          passed = subst (λ q. q + last_told r.counted (or_before (told_in m) i) ≤ n) (after_first r.counted n) r.passed;
        }

so_walk : (f : Freed) (t : AtPlace) (q i n : ℕ) (c later : List Octets) → ((id : ℕ) → (is_empty (listed id t) || (brings_seen id c || is_some (entry_at id f))) ≡ true) → (if has_frame c then n else q) + last_told c i ≤ n
    → idle_walk f t q i n (c ++ later) ≡ true
so_walk f t q i n [] later free le = begin later
  where
    here : is_due_now f t q i n ≡ true
    here = all (nat_le (q + i) n) (all_freed f t t) (most_at (q + i) n le) (free_all f t t free)

    begin : (ms : List Octets) → idle_walk f t q i n ms ≡ true
    begin [] = here
    begin (m ∷ ms) = first_true _ _ here
so_walk f t q i n (m ∷ c) later free le =
    second_true (is_due_now f t q i n) _
    (so_walk (frees_by m f) t n (or_before (told_in m) i) n c later
    (λ id. ap (λ b. is_empty (listed id t) || b) (ap (λ b. brings_seen id c || b) (freed_more m f id) ∙ swap (has_id_seen id m) (brings_seen id c) (is_some (entry_at id f))) ∙ free id)
    (subst (λ q. q + last_told c (or_before (told_in m) i) ≤ n) (sym (after_first c n)) le))

alive_is : (x : Seen) → is_alive (stand_of x) ≡ true → stand_of x ≡ Alive
alive_is seen.Opening e = absurd (cc)
alive_is seen.Alive e = refl
alive_is seen.Gone e = absurd (cc)

none_any : (ws : List Written) → not (is_any ws) ≡ true → ws ≡ []
none_any [] e = refl
none_any (w ∷ ws) e = absurd (cc)

order : (a b : Bool) → (a || (b || false)) ≡ (b || a)
order true true = refl
order true false = refl
order false true = refl
order false false = refl

module _ (conf : Conf) (p : ℕ) (l : Ledger) (t : Timers) (h : History) (kl : ledger.Known h l) (kt : timers.Known conf h t) where
  walk : Bool
  walk = idle_walk [] (listed p l.waiting) (quiet_seen p t.quiet) (idle_seen (idle_timeout conf) p t.idle) l.books.requests.clock (frames_of p l.frames.brought)

  quiet_is : (c : List Octets) → (if has_frame c then l.books.requests.clock else quiet_seen p t.quiet) ≡ quiet_with c p h
  quiet_is c = quieting.goes_on.counts h l.books.requests.clock t.quiet c p kl.books.requests.time kt.quiets

  idle_is : (c later : List Octets) → came_here p h ≡ c ++ later → last_told c (idle_seen (idle_timeout conf) p t.idle) ≡ idle_with conf c p h
  idle_is c later e = sym (frames_tell c (idle_seen (idle_timeout conf) p t.idle)) ∙ (ap (last_keepalive c) (kt.idles.times p) ∙ sym (counted_tell conf c later p h e))

  -- no id is held
  unheld_so : (c : List Octets) (id : ℕ) → (is_empty (listed id (listed p l.waiting)) || (brings_seen id c || false)) ≡ not (is_any (waiting_with c p id h))
  unheld_so c id = order (is_empty (listed id (listed p l.waiting))) (brings_seen id c) ∙ unheld_is h l.waiting kl.waiting c p id

  passed_so : (c later : List Octets) → came_here p h ≡ c ++ later → (if has_frame c then l.books.requests.clock else quiet_seen p t.quiet) + last_told c (idle_seen (idle_timeout conf) p t.idle) ≤ l.books.requests.clock → quiet_with c p h + idle_with conf c p h ≤ now h
  passed_so c later e le = subst (λ n. quiet_with c p h + idle_with conf c p h ≤ n) kl.books.requests.time
      (subst (λ i. quiet_with c p h + i ≤ l.books.requests.clock) (idle_is c later e) (subst (λ q. q + last_told c (idle_seen (idle_timeout conf) p t.idle) ≤ l.books.requests.clock) (quiet_is c) le))

  so_passed : (c later : List Octets) → came_here p h ≡ c ++ later → quiet_with c p h + idle_with conf c p h ≤ now h → (if has_frame c then l.books.requests.clock else quiet_seen p t.quiet) + last_told c (idle_seen (idle_timeout conf) p t.idle) ≤ l.books.requests.clock
  so_passed c later e le = subst (λ q. q + last_told c (idle_seen (idle_timeout conf) p t.idle) ≤ l.books.requests.clock) (sym (quiet_is c))
      (subst (λ i. quiet_with c p h + i ≤ l.books.requests.clock) (sym (idle_is c later e)) (subst (λ n. quiet_with c p h + idle_with conf c p h ≤ n) (sym kl.books.requests.time) le))

  due_so : (x : Place) → entry_at p l.books.places ≡ Some x → is_alive (stand_of x.stand) ≡ true → walk ≡ true → IdleTimerIsDue conf p h
  unfolding walk
  due_so x at live w =
      let r = walk_so [] (listed p l.waiting) (quiet_seen p t.quiet) (idle_seen (idle_timeout conf) p t.idle) l.books.requests.clock (frames_of p l.frames.brought) w in
      let came : came_here p h ≡ r.counted ++ r.later = sym (kl.frames.here p) ∙ r.are in
      record {
        counted = r.counted;
        later = r.later;
        came = came;
        alive = sym (kl.books.places.stands p) ∙ (ap stand_seen at ∙ alive_is x.stand live);
        unheld = λ id. none_any (waiting_with r.counted p id h) (sym (unheld_so r.counted id) ∙ r.free id);
        passed = passed_so r.counted r.later came r.passed;
      }

  so_due : (x : Place) → entry_at p l.books.places ≡ Some x → IdleTimerIsDue conf p h → (is_alive (stand_of x.stand) && walk) ≡ true
  unfolding walk
  so_due x at d =
      all (is_alive (stand_of x.stand)) _ (ap is_alive (sym (ap stand_seen at) ∙ (kl.books.places.stands p ∙ d.alive)))
      (ap (idle_walk [] (listed p l.waiting) (quiet_seen p t.quiet) (idle_seen (idle_timeout conf) p t.idle) l.books.requests.clock) (kl.frames.here p ∙ d.came)
      ∙ so_walk [] (listed p l.waiting) (quiet_seen p t.quiet) (idle_seen (idle_timeout conf) p t.idle) l.books.requests.clock d.counted d.later
      (λ id. unheld_so d.counted id ∙ ap (λ ws. not (is_any ws)) (d.unheld id)) (so_passed d.counted d.later d.came d.passed))

  idle_so : (o : Option Place) → entry_at p l.books.places ≡ o → idle_due_at conf p o l t ≡ true → IdleTimerIsDue conf p h
  unfolding walk
  idle_so None e d = absurd (cc)
  idle_so (Some x) e d = let q = both (is_alive (stand_of x.stand)) _ d in due_so x e q.0 q.1

  so_idle : (o : Option Place) → entry_at p l.books.places ≡ o → IdleTimerIsDue conf p h → idle_due_at conf p o l t ≡ true
  unfolding walk
  so_idle None e d = absurd (let z = sym (ap stand_seen e) ∙ (kl.books.places.stands p ∙ d.alive) in cc)
  so_idle (Some x) e d = so_due x e d

pub tells_idle_timer : (conf : Conf) (p : ℕ) (l : Ledger) (t : Timers) (b : Bool) → b ≡ idle_due conf p l t → TellsIdleTimer conf p l t b
tells_idle_timer conf p l t b e h kl kt = ((λ u. idle_so conf p l t h kl kt (entry_at p l.books.places) refl (sym e ∙ u)), (λ d. e ∙ so_idle conf p l t h kl kt (entry_at p l.books.places) refl d))
