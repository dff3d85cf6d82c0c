-- What is found of a read timer is what the definitions say.
use Rattle.std.proofs.Common.{◌≡◌, ℕ, ◌+◌, ◌<◌, ◌&&◌, ◌||◌, ◌⊎◌, inl, inr, not, nat_lt, Bool, true, false, cond, if◌then◌else◌, List, [], ◌∷◌, Option, Some, None, refl, sym, ap, ap₂, ◌∙◌, subst, arith, is_eq, nat_cmp}
use Rattle.std.proofs.lemmas.Bool.Decides.{nat_tests}
use Rattle.number_table.specs.Entries.{entry_at}
use Rattle.client_request.specs.declared.event.Via.{Via}
use Rattle.client_request.specs.declared.event.Via.TheVariants.{Dgram, Stream}
use Rattle.right_trace.specs.Trace.{History, Conf}
use Rattle.right_trace.specs.{Time.response_timeout, Messages.Octets, Requests.same_via}
use Rattle.right_trace.specs.Places.{Site, site, Alive, is_alive}
use Rattle.right_trace.specs.Frames.{brings, came_here, has_frame}
use Rattle.right_trace.specs.Writes.{Written, IsWritten, waiting, waiting_with}
use Rattle.right_trace.specs.Timers.{quiet, quiet_with, ends_loose, MayBeQuiet, HeldForLong, EndsLoose, InvalidRequest, ReadTimerIsDue}
use Rattle.trace_tables.specs.declared.places.{Place.Place, Stand.Stand as Seen}
use Rattle.trace_tables.specs.declared.places.Stand.TheVariants as seen
use Rattle.trace_tables.specs.Known.{stand_of, stand_seen, site_seen}
use Rattle.trace_tables.specs.Lists.{list_or_none, listed}
use Rattle.trace_tables.specs.declared.frames.ledger.Ledger.{Ledger}
use Rattle.trace_tables.specs.frames.Frames.{frames_of}
use Rattle.trace_tables.specs.frames.Waiting.{AtPlace, waiting_seen}
use Rattle.trace_tables.specs.frames.Ledger as ledger
use Rattle.trace_tables.specs.timers.Quiet.{quiet_counted}
use Rattle.trace_tables.proofs.lemmas.timers.Quieting as quieting
use Rattle.trace_points.specs.declared.due.timers.Timers.{Timers}
use Rattle.trace_points.specs.due.Loose.{brings_seen, ends_loose_seen, loose_end, loose_seen}
use Rattle.trace_points.specs.due.Invalid.{invalid_seen}
use Rattle.trace_points.specs.due.Timers as timers
use Rattle.trace_points.specs.due.Due.{has_old, is_late_id, has_late, is_invalid_at, may_be_quiet, read_due_at, read_due, TellsReadTimer}
use Rattle.trace_points.proofs.lemmas.due.Waits.{freeing, brings_is, loose_is}

pub both : (a b : Bool) → (a && b) ≡ true → (a ≡ true) × (b ≡ true)
both true true e = (refl, refl)
both true false e = absurd (cc)
both false b e = absurd (cc)

pub all : (a b : Bool) → a ≡ true → b ≡ true → (a && b) ≡ true
all a b e f = ap (λ a. a && b) e ∙ f

either : (a b : Bool) → (a || b) ≡ true → (a ≡ true) ⊎ (b ≡ true)
either true b e = inl refl
either false b e = inr e

first_true : (a b : Bool) → a ≡ true → (a || b) ≡ true
first_true a b e = ap (λ a. a || b) e

second_true : (a b : Bool) → b ≡ true → (a || b) ≡ true
second_true true b e = refl
second_true false b e = e

not_true : (b : Bool) → not b ≡ true → b ≡ false
not_true true e = absurd (cc)
not_true false e = refl

-- old writes

record OldIn (c : Conf) (n : ℕ) (ws : List Written) : Type 0 where
  write : Written
  there : IsWritten write ws
  old : write.moment + response_timeout c < n

old_so : (c : Conf) (n : ℕ) (ws : List Written) → has_old c n ws ≡ true → OldIn c n ws
old_so c n [] e = absurd (cc)
old_so c n (w ∷ ws) e = go (old_so c n ws) (either (nat_lt (w.moment + response_timeout c) n) (has_old c n ws) e)
  where
    less : nat_lt (w.moment + response_timeout c) n ≡ true → w.moment + response_timeout c < n
    less e = grind (arith, nat_tests)

    go : (has_old c n ws ≡ true → OldIn c n ws) → (nat_lt (w.moment + response_timeout c) n ≡ true) ⊎ (has_old c n ws ≡ true) → OldIn c n (w ∷ ws)
    go rest (inl e) = record { write = w; there = inl refl; old = less e }
    go rest (inr e) = (let r = rest e in record { write = r.write; there = inr r.there; old = r.old })

so_old : (c : Conf) (n : ℕ) (x : Written) (ws : List Written) → IsWritten x ws → x.moment + response_timeout c < n → has_old c n ws ≡ true
so_old c n x [] i l = absurd i
so_old c n x (w ∷ ws) (inl s) l = first_true _ _ (ap (λ (w : Written). nat_lt (w.moment + response_timeout c) n) s ∙ less)
  where
    less : nat_lt (x.moment + response_timeout c) n ≡ true
    less = grind (arith, nat_tests)
so_old c n x (w ∷ ws) (inr i) l = second_true _ _ (so_old c n x ws i l)

-- under some id

late_so : (c : Conf) (n : ℕ) (ms : List Octets) (t es : AtPlace) → has_late c n ms t es ≡ true → (id : ℕ) × (is_late_id c n ms t id ≡ true)
late_so c n ms t [] e = absurd (cc)
late_so c n ms t (d ∷ es) e = go (late_so c n ms t es) (either (is_late_id c n ms t d.0) (has_late c n ms t es) e)
  where
    go : (has_late c n ms t es ≡ true → (id : ℕ) × (is_late_id c n ms t id ≡ true)) → (is_late_id c n ms t d.0 ≡ true) ⊎ (has_late c n ms t es ≡ true) → (id : ℕ) × (is_late_id c n ms t id ≡ true)
    go rest (inl e) = (d.0, e)
    go rest (inr e) = rest e

late_back : (c : Conf) (n : ℕ) (ms : List Octets) (t es : AtPlace) (id : ℕ) (x : List Written) → entry_at id es ≡ Some x → is_late_id c n ms t id ≡ true → has_late c n ms t es ≡ true
late_back c n ms t [] id x e l = absurd (cc)
late_back c n ms t (d ∷ es) id x e l = go (λ e. late_back c n ms t es id x e l) (is_eq (nat_cmp id d.0)) refl e
  where
    go : (entry_at id es ≡ Some x → has_late c n ms t es ≡ true) → (b : Bool) → is_eq (nat_cmp id d.0) ≡ b → cond b (Some d.1) (entry_at id es) ≡ Some x → (is_late_id c n ms t d.0 || has_late c n ms t es) ≡ true
    go rest true i e =
        let same : id ≡ d.0 = grind (arith, nat_tests) in
        first_true _ _ (sym (ap (is_late_id c n ms t) same) ∙ l)
    go rest false i e = second_true _ _ (rest e)

-- what waits under an id is under an entry
has_entry : (c : Conf) (n : ℕ) (ms : List Octets) (t : AtPlace) (id : ℕ) → is_late_id c n ms t id ≡ true → has_late c n ms t t ≡ true
has_entry c n ms t id l = go (entry_at id t) refl
  where
    go : (o : Option (List Written)) → entry_at id t ≡ o → has_late c n ms t t ≡ true
    go None e = absurd (let z : false ≡ true = sym (ap (has_old c n) (ap list_or_none e)) ∙ (both (has_old c n (listed id t)) _ l).0 in cc)
    go (Some x) e = late_back c n ms t t id x e l

alive_is : (x : Seen) → is_alive (stand_of x) ≡ true → stand_of x ≡ Alive
alive_is seen.Opening e = absurd (cc)
alive_is seen.Alive e = refl
alive_is seen.Gone e = absurd (cc)

same_kind : (a b : Via) → same_via a b ≡ true → a ≡ b
same_kind Dgram Dgram e = refl
same_kind Stream Stream e = refl
same_kind Dgram Stream e = absurd (cc)
same_kind Stream Dgram e = absurd (cc)

abbrev site_or : Site → Option Site → Site
site_or x None = x
site_or x (Some y) = y

module _ (c : Conf) (p n : ℕ) (l : Ledger) (t : Timers) (h : History) (kl : ledger.Known h l) (kt : timers.Known c h t) where
  quiet_is : quiet_counted p (frames_of p l.frames.brought) l.books.requests.clock t.quiet ≡ quiet p h
  quiet_is =
      quieting.goes_on.counts h l.books.requests.clock t.quiet (frames_of p l.frames.brought) p kl.books.requests.time kt.quiets
      ∙ ap (λ ms. quiet_with ms p h) (kl.frames.here p)

  loose_so : ends_loose_seen p l t.writing t.loose ≡ ends_loose p h
  loose_so =
      ap (λ ms. if has_frame ms then loose_end ms p l.waiting t.writing else loose_seen p t.loose) (kl.frames.here p)
      ∙ ap₂ (λ a b. if has_frame (came_here p h) then a else b) (loose_is h l.waiting kl.waiting t.writing kt.writes (came_here p h) p) (kt.looses.ended p)

  brings_so : (id : ℕ) → brings_seen id (frames_of p l.frames.brought) ≡ brings id (came_here p h)
  brings_so id = brings_is id (frames_of p l.frames.brought) ∙ ap (brings id) (kl.frames.here p)

  -- what waits, no frame of the row counted, and counted
  waits_so : (id : ℕ) → brings_seen id (frames_of p l.frames.brought) ≡ false → waiting_seen p id l.waiting ≡ waiting p id h
  waits_so id non = kl.waiting.waits p id ∙ sym (freeing (came_here p h) p id h ∙ ap (λ b. if b then [] else waiting_with [] p id h) (sym (brings_so id) ∙ non))

  held : has_late c n (frames_of p l.frames.brought) (listed p l.waiting) (listed p l.waiting) ≡ true → MayBeQuiet c p n h
  unfolding response_timeout
  held e =
      let r = late_so c n (frames_of p l.frames.brought) (listed p l.waiting) (listed p l.waiting) e in
      let q = both (has_old c n (waiting_seen p r.0 l.waiting)) _ r.1 in
      let non = not_true (brings_seen r.0 (frames_of p l.frames.brought)) q.1 in
      let w = old_so c n (waiting_seen p r.0 l.waiting) q.0 in
      HeldForLong r.0 w.write (subst (IsWritten w.write) (waits_so r.0 non) w.there) w.old

  held_back : (id : ℕ) (x : Written) → IsWritten x (waiting p id h) → x.moment + response_timeout c < n → has_late c n (frames_of p l.frames.brought) (listed p l.waiting) (listed p l.waiting) ≡ true
  unfolding response_timeout
  held_back id x i old = go (brings_seen id (frames_of p l.frames.brought)) refl
    where
      go : (b : Bool) → brings_seen id (frames_of p l.frames.brought) ≡ b → has_late c n (frames_of p l.frames.brought) (listed p l.waiting) (listed p l.waiting) ≡ true
      go true e = absurd (subst (IsWritten x) (freeing (came_here p h) p id h ∙ ap (λ b. if b then [] else waiting_with [] p id h) (sym (brings_so id) ∙ e)) i)
      go false e = has_entry c n (frames_of p l.frames.brought) (listed p l.waiting) id
          (all (has_old c n (waiting_seen p id l.waiting)) _ (so_old c n x (waiting_seen p id l.waiting) (subst (IsWritten x) (sym (waits_so id e)) i) old) (ap not e))

  module _ (x : Place) (at : entry_at p l.books.places ≡ Some x) where
    sited : site p h ≡ Some (record { via = x.via; server = x.server })
    sited = sym (kl.books.places.sites p) ∙ ap site_seen at

    invalid_so : is_invalid_at x t ≡ true → MayBeQuiet c p n h
    invalid_so e =
        let q = both (same_via x.via Stream) _ e in
        let r = kt.invalids.so Stream x.server q.1 in
        InvalidRequest x.server (sited ∙ ap (λ v. Some (record { via = v; server = x.server })) (same_kind x.via Stream q.0)) r.request r.asking_of r.asked r.invalid r.begun

    may_so : may_be_quiet c p n x l t ≡ true → MayBeQuiet c p n h
    may_so e = go (either (has_late c n (frames_of p l.frames.brought) (listed p l.waiting) (listed p l.waiting)) _ e)
      where
        more : (ends_loose_seen p l t.writing t.loose ≡ true) ⊎ (is_invalid_at x t ≡ true) → MayBeQuiet c p n h
        more (inl e) = EndsLoose (sym loose_so ∙ e)
        more (inr e) = invalid_so e

        go : (has_late c n (frames_of p l.frames.brought) (listed p l.waiting) (listed p l.waiting) ≡ true) ⊎ ((ends_loose_seen p l t.writing t.loose || is_invalid_at x t) ≡ true) → MayBeQuiet c p n h
        go (inl e) = held e
        go (inr e) = more (either (ends_loose_seen p l t.writing t.loose) (is_invalid_at x t) e)

    so_may : MayBeQuiet c p n h → may_be_quiet c p n x l t ≡ true
    so_may (HeldForLong id w i old) = first_true _ _ (held_back id w i old)
    so_may (EndsLoose e) = second_true _ _ (first_true _ _ (loose_so ∙ e))
    so_may (InvalidRequest s where_is k a asked bad begun) =
        let q : Some (record { via = x.via; server = x.server }) ≡ Some (record { via = Stream; server = s }) = sym sited ∙ where_is in
        let v : x.via ≡ Stream = ap (λ (o : Option Site). (site_or (record { via = Stream; server = s }) o).via) q in
        let m : x.server ≡ s = ap (λ (o : Option Site). (site_or (record { via = Stream; server = s }) o).server) q in
        second_true _ _ (second_true _ _ (all (same_via x.via Stream) _ (ap (λ v. same_via v Stream) v)
        (ap (λ s. invalid_seen Stream s t.invalid) m ∙ kt.invalids.back Stream s (record { request = k; asking_of = a; asked = asked; invalid = bad; begun = begun }))))

    due_so : (is_alive (stand_of x.stand) && (nat_lt (quiet_counted p (frames_of p l.frames.brought) l.books.requests.clock t.quiet + response_timeout c) n && may_be_quiet c p n x l t)) ≡ true → ReadTimerIsDue c p n h
    unfolding response_timeout
    due_so e =
        let q = both (is_alive (stand_of x.stand)) _ e in
        let r = both (nat_lt (quiet_counted p (frames_of p l.frames.brought) l.books.requests.clock t.quiet + response_timeout c) n) _ q.1 in
        record {
          alive = sym (kl.books.places.stands p) ∙ (ap stand_seen at ∙ alive_is x.stand q.0);
          passed = less (quiet p h) (sym (ap (λ m. nat_lt (m + response_timeout c) n) quiet_is) ∙ r.0);
          may = may_so r.1;
        }
      where
        less : (m : ℕ) → nat_lt (m + response_timeout c) n ≡ true → m + response_timeout c < n
        less m e = grind (arith, nat_tests)

    so_due : ReadTimerIsDue c p n h → (is_alive (stand_of x.stand) && (nat_lt (quiet_counted p (frames_of p l.frames.brought) l.books.requests.clock t.quiet + response_timeout c) n && may_be_quiet c p n x l t)) ≡ true
    unfolding response_timeout
    so_due d =
        all (is_alive (stand_of x.stand)) _ (ap is_alive (sym (ap stand_seen at) ∙ (kl.books.places.stands p ∙ d.alive)))
        (all (nat_lt (quiet_counted p (frames_of p l.frames.brought) l.books.requests.clock t.quiet + response_timeout c) n) _ (ap (λ m. nat_lt (m + response_timeout c) n) quiet_is ∙ less (quiet p h) d.passed) (so_may d.may))
      where
        less : (m : ℕ) → m + response_timeout c < n → nat_lt (m + response_timeout c) n ≡ true
        less m e = grind (arith, nat_tests)

  read_so : (o : Option Place) → entry_at p l.books.places ≡ o → read_due_at c p n o l t ≡ true → ReadTimerIsDue c p n h
  read_so None e d = absurd (cc)
  read_so (Some x) e d = due_so x e d

  so_read : (o : Option Place) → entry_at p l.books.places ≡ o → ReadTimerIsDue c p n h → read_due_at c p n o l t ≡ true
  so_read None e d = absurd (let z = sym (ap stand_seen e) ∙ (kl.books.places.stands p ∙ d.alive) in cc)
  so_read (Some x) e d = so_due x e d

pub tells_read_timer : (c : Conf) (p n : ℕ) (l : Ledger) (t : Timers) (b : Bool) → b ≡ read_due c p n l t → TellsReadTimer c p n l t b
tells_read_timer c p n l t b e h kl kt = ((λ u. read_so c p n l t h kl kt (entry_at p l.books.places) refl (sym e ∙ u)), (λ d. e ∙ so_read c p n l t h kl kt (entry_at p l.books.places) refl d))
