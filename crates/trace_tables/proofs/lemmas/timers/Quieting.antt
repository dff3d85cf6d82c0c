-- After each event and each out what is kept of quiet places is what the definitions say.
use Rattle.std.proofs.Common.{◌≡◌, ℕ, ◌==◌, ◌&&◌, ◌||◌, max, Bool, true, false, if◌then◌else◌, List, [], ◌∷◌, Option, Some, None, refl, sym, ap, ◌∙◌, arith}
use Rattle.std.proofs.lemmas.Bool.Decides.{nat_tests}
use Rattle.number_table.specs.Entries.{puts, entry_at}
use Rattle.client_request.specs.declared.event.{Event.Event, What.What, Out.Out}
use Rattle.client_request.specs.declared.event.What.TheVariants.{Ask, Opened, OpenFailed, SendFailed, ShortSend, Datagram, RecvFailed, Wrote, WriteFailed, Bytes, ReadFailed, Ended, Tick}
use Rattle.client_request.specs.declared.event.Out.TheVariants.{Start, OpenDgram, OpenStream, Send, Write, Resume, Close, Stale, Reply}
use Rattle.right_trace.specs.Trace.{History, Came, Put}
use Rattle.right_trace.specs.Time.{now, newest}
use Rattle.right_trace.specs.Messages.{Octets}
use Rattle.right_trace.specs.Places.{stand, is_opening, is_unused}
use Rattle.right_trace.specs.Frames.{has_frame, came_here}
use Rattle.right_trace.specs.Timers.{is_opened, is_open_of, quiet_with}
use Rattle.trace_tables.specs.declared.places.{Place.Place, Stand.Stand as Seen}
use Rattle.trace_tables.specs.declared.places.Stand.TheVariants as seen
use Rattle.trace_tables.specs.Known.{Known as PlacesKnown, stand_of, stand_seen}
use Rattle.trace_tables.proofs.Tables.{at_puts}
use Rattle.trace_tables.specs.declared.frames.frames.{Brought.Brought, Frames.Frames}
use Rattle.trace_tables.specs.frames.Frames.{Known as FramesKnown, frames_of}
use Rattle.trace_tables.specs.timers.Quiet.{Quiet, Places, moment_or, quiet_seen, quiet_counted, taken, opened_at, told, met, opens, has_put, Known, GoesOn}

same_place : (p q : ℕ) → (p == q) ≡ true → p ≡ q
same_place p q e = grind (arith, nat_tests)

-- frames of the newest row that count make it the moment now
counted : (ms : List Octets) (p : ℕ) (h : History) → quiet_with ms p h ≡ (if has_frame ms then now h else quiet_with [] p h)
counted ms p [] = go (has_frame ms) 0
  where
    go : (b : Bool) (n : ℕ) → n ≡ (if b then n else n)
    go true n = refl
    go false n = refl
counted ms p (Came e ∷ h) = go (is_opened p e.what && is_opening (stand p h)) (has_frame ms)
  where
    go : (x b : Bool) → (if x || b then now (Came e ∷ h) else quiet_with (came_here p h) p h) ≡ (if b then now (Came e ∷ h) else (if x || false then now (Came e ∷ h) else quiet_with (came_here p h) p h))
    go true true = refl
    go true false = refl
    go false true = refl
    go false false = refl
counted ms p (Put o ∷ h) = go (is_open_of p o && (is_opened p (newest h) && is_unused (stand p h))) (has_frame ms) (counted ms p h)
  where
    go : (y b : Bool) → quiet_with ms p h ≡ (if b then now h else quiet_with [] p h) → (if y then now h else quiet_with ms p h) ≡ (if b then now h else (if y then now h else quiet_with [] p h))
    go true true e = refl
    go true false e = refl
    go false true e = e
    go false false e = e

-- a moment that is put
put_moment : (q p n : ℕ) (t : Quiet) → quiet_seen p (puts q n t) ≡ (if q == p then n else quiet_seen p t)
put_moment q p n t = ap moment_or (at_puts q n p t) ∙ go (q == p)
  where
    go : (b : Bool) → moment_or (if b then Some n else entry_at p t) ≡ (if b then n else quiet_seen p t)
    go true = refl
    go false = refl

taken_so : (b : Option Brought) (n p : ℕ) (t : Quiet) → quiet_seen p (taken b n t) ≡ (if has_frame (frames_of p b) then n else quiet_seen p t)
taken_so None n p t = refl
taken_so (Some b) n p t = go (has_frame b.frames) refl
  where
    none : (c : Bool) → has_frame b.frames ≡ false → quiet_seen p t ≡ (if has_frame (if c then b.frames else []) then n else quiet_seen p t)
    none true i = sym (ap (λ x. if x then n else quiet_seen p t) i)
    none false i = refl

    some : (c : Bool) → has_frame b.frames ≡ true → (if c then n else quiet_seen p t) ≡ (if has_frame (if c then b.frames else []) then n else quiet_seen p t)
    some true i = sym (ap (λ x. if x then n else quiet_seen p t) i)
    some false i = refl

    go : (x : Bool) → has_frame b.frames ≡ x → quiet_seen p (if x then puts b.place n t else t) ≡ (if has_frame (if b.place == p then b.frames else []) then n else quiet_seen p t)
    go true i = put_moment b.place p n t ∙ some (b.place == p) i
    go false i = none (b.place == p) i

never : (b : Bool) (x y : ℕ) → y ≡ (if b && false then x else y)
never true x y = refl
never false x y = refl

opened_so : (q n p : ℕ) (o : Option Place) (t : Quiet) → quiet_seen p (opened_at q n o t) ≡ (if (q == p) && is_opening (stand_seen o) then n else quiet_seen p t)
opened_so q n p None t = never (q == p) n (quiet_seen p t)
opened_so q n p (Some x) t = go (is_opening (stand_of x.stand))
  where
    here : (b : Bool) → (if b then n else quiet_seen p t) ≡ (if b && true then n else quiet_seen p t)
    here true = refl
    here false = refl

    go : (b : Bool) → quiet_seen p (if b then puts q n t else t) ≡ (if (q == p) && b then n else quiet_seen p t)
    go true = put_moment q p n t ∙ here (q == p)
    go false = never (q == p) n (quiet_seen p t)

or_none : (b : Bool) → (b || false) ≡ b
or_none true = refl
or_none false = refl

module _ (h : History) (places : Places) (n : ℕ) (t : Quiet) (at : PlacesKnown h places) (time : n ≡ now h) (is : Known h t) where
  over : (f : Frames) → FramesKnown h f → (p : ℕ) → quiet_seen p (taken f.brought n t) ≡ quiet_with (came_here p h) p h
  over f fs p = taken_so f.brought n p t
      ∙ (ap (λ ms. if has_frame ms then n else quiet_seen p t) (fs.here p)
      ∙ (ap (λ n. if has_frame (came_here p h) then n else quiet_seen p t) time
      ∙ (ap (λ q. if has_frame (came_here p h) then now h else q) (is.since p) ∙ sym (counted (came_here p h) p h))))

  event : (f : Frames) → FramesKnown h f → (e : Event) → Known (Came e ∷ h) (met e places f.brought n t)
  event f fs e = record { since = λ p. go p e.what refl }
    where
      silent : (p : ℕ) (w : What) → e.what ≡ w → is_opened p w ≡ false → quiet_seen p (taken f.brought n t) ≡ (if (is_opened p e.what && is_opening (stand p h)) || false then max e.moment.0 (now h) else quiet_with (came_here p h) p h)
      silent p w i none = over f fs p ∙ sym (ap (λ b. if (b && is_opening (stand p h)) || false then max e.moment.0 (now h) else quiet_with (came_here p h) p h) (ap (is_opened p) i ∙ none))

      go : (p : ℕ) (w : What) → e.what ≡ w → quiet_seen p (told w places (max e.moment.0 n) (taken f.brought n t)) ≡ (if (is_opened p e.what && is_opening (stand p h)) || false then max e.moment.0 (now h) else quiet_with (came_here p h) p h)
      go p (Opened q) i =
          opened_so q (max e.moment.0 n) p (entry_at q places) (taken f.brought n t)
          ∙ (ap (λ x. if (q == p) && is_opening x then max e.moment.0 n else quiet_seen p (taken f.brought n t)) (at.stands q)
          ∙ (here (q == p) refl
          ∙ (ap (λ m. if (q == p) && is_opening (stand p h) then m else quiet_seen p (taken f.brought n t)) (ap (max e.moment.0) time)
          ∙ (ap (λ q'. if (q == p) && is_opening (stand p h) then max e.moment.0 (now h) else q') (over f fs p)
          ∙ (ap (λ b. if b then max e.moment.0 (now h) else quiet_with (came_here p h) p h) (sym (or_none ((q == p) && is_opening (stand p h))))
          ∙ sym (ap (λ w. if (is_opened p w && is_opening (stand p h)) || false then max e.moment.0 (now h) else quiet_with (came_here p h) p h) i))))))
        where
          here : (b : Bool) → (q == p) ≡ b → (if b && is_opening (stand q h) then max e.moment.0 n else quiet_seen p (taken f.brought n t)) ≡ (if b && is_opening (stand p h) then max e.moment.0 n else quiet_seen p (taken f.brought n t))
          here true j = ap (λ q. if is_opening (stand q h) then max e.moment.0 n else quiet_seen p (taken f.brought n t)) (same_place q p j)
          here false j = refl
      go p (Ask r) i = silent p (Ask r) i refl
      go p (OpenFailed q g) i = silent p (OpenFailed q g) i refl
      go p (SendFailed q g) i = silent p (SendFailed q g) i refl
      go p (ShortSend q) i = silent p (ShortSend q) i refl
      go p (Datagram q o) i = silent p (Datagram q o) i refl
      go p (RecvFailed q g) i = silent p (RecvFailed q g) i refl
      go p (Wrote q m) i = silent p (Wrote q m) i refl
      go p (WriteFailed q g) i = silent p (WriteFailed q g) i refl
      go p (Bytes q o) i = silent p (Bytes q o) i refl
      go p (ReadFailed q g) i = silent p (ReadFailed q g) i refl
      go p (Ended q) i = silent p (Ended q) i refl
      go p Tick i = silent p Tick i refl

  -- a place that is opened
  unused_seen : (q : ℕ) (o : Option Place) → entry_at q places ≡ o → is_unused (stand q h) ≡ is_unused (stand_seen o)
  unused_seen q o e = ap is_unused (sym (at.stands q) ∙ ap stand_seen e)

  known_used : (x : Seen) → is_unused (stand_of x) ≡ false
  known_used seen.Opening = refl
  known_used seen.Alive = refl
  known_used seen.Gone = refl

  none_opens : (a b : Bool) (x y : ℕ) → y ≡ (if a && (b && false) then x else y)
  none_opens true true x y = refl
  none_opens true false x y = refl
  none_opens false b x y = refl

  not_told : (a c : Bool) (x y : ℕ) → y ≡ (if a && (false && c) then x else y)
  not_told true c x y = refl
  not_told false c x y = refl

  opens_so : (w : What) (q p : ℕ) (o : Option Place) → entry_at q places ≡ o → quiet_seen p (opens w q n o t) ≡ (if (q == p) && (is_opened q w && is_unused (stand q h)) then n else quiet_seen p t)
  opens_so w q p (Some x) e = none_opens (q == p) (is_opened q w) n (quiet_seen p t) ∙ sym (ap (λ b. if (q == p) && (is_opened q w && b) then n else quiet_seen p t) (unused_seen q (Some x) e ∙ known_used x.stand))
  opens_so (Opened m) q p None e = go (m == q) ∙ sym (ap (λ b. if (q == p) && ((m == q) && b) then n else quiet_seen p t) (unused_seen q None e))
    where
      here : (b : Bool) → (if b then n else quiet_seen p t) ≡ (if b && (true && true) then n else quiet_seen p t)
      here true = refl
      here false = refl

      go : (b : Bool) → quiet_seen p (if b then puts q n t else t) ≡ (if (q == p) && (b && true) then n else quiet_seen p t)
      go true = put_moment q p n t ∙ here (q == p)
      go false = not_told (q == p) true n (quiet_seen p t)
  opens_so (Ask r) q p None e = not_told (q == p) (is_unused (stand q h)) n (quiet_seen p t)
  opens_so (OpenFailed m g) q p None e = not_told (q == p) (is_unused (stand q h)) n (quiet_seen p t)
  opens_so (SendFailed m g) q p None e = not_told (q == p) (is_unused (stand q h)) n (quiet_seen p t)
  opens_so (ShortSend m) q p None e = not_told (q == p) (is_unused (stand q h)) n (quiet_seen p t)
  opens_so (Datagram m o) q p None e = not_told (q == p) (is_unused (stand q h)) n (quiet_seen p t)
  opens_so (RecvFailed m g) q p None e = not_told (q == p) (is_unused (stand q h)) n (quiet_seen p t)
  opens_so (Wrote m k) q p None e = not_told (q == p) (is_unused (stand q h)) n (quiet_seen p t)
  opens_so (WriteFailed m g) q p None e = not_told (q == p) (is_unused (stand q h)) n (quiet_seen p t)
  opens_so (Bytes m o) q p None e = not_told (q == p) (is_unused (stand q h)) n (quiet_seen p t)
  opens_so (ReadFailed m g) q p None e = not_told (q == p) (is_unused (stand q h)) n (quiet_seen p t)
  opens_so (Ended m) q p None e = not_told (q == p) (is_unused (stand q h)) n (quiet_seen p t)
  opens_so Tick q p None e = not_told (q == p) (is_unused (stand q h)) n (quiet_seen p t)

  out : (o : Out) → Known (Put o ∷ h) (has_put (newest h) o places n t)
  out (OpenStream q s) = record {
    since = λ p.
        opens_so (newest h) q p (entry_at q places) refl
        ∙ (here p (q == p) refl
        ∙ (ap (λ n. if (q == p) && (is_opened p (newest h) && is_unused (stand p h)) then n else quiet_seen p t) time
        ∙ ap (λ x. if (q == p) && (is_opened p (newest h) && is_unused (stand p h)) then now h else x) (is.since p)));
  }
    where
      here : (p : ℕ) (b : Bool) → (q == p) ≡ b → (if b && (is_opened q (newest h) && is_unused (stand q h)) then n else quiet_seen p t) ≡ (if b && (is_opened p (newest h) && is_unused (stand p h)) then n else quiet_seen p t)
      here p true j = ap (λ q. if is_opened q (newest h) && is_unused (stand q h) then n else quiet_seen p t) (same_place q p j)
      here p false j = refl
  out (OpenDgram q s) = record { since = is.since }
  out (Start k s v) = record { since = is.since }
  out (Send p k i o) = record { since = is.since }
  out (Write p k i o) = record { since = is.since }
  out (Resume p o) = record { since = is.since }
  out (Close p) = record { since = is.since }
  out (Stale k) = record { since = is.since }
  out (Reply k x) = record { since = is.since }

counted_so : (h : History) (n : ℕ) (t : Quiet) (ms : List Octets) (p : ℕ) → n ≡ now h → Known h t → quiet_counted p ms n t ≡ quiet_with ms p h
counted_so h n t ms p time is = ap (λ n. if has_frame ms then n else quiet_seen p t) time ∙ (ap (λ x. if has_frame ms then now h else x) (is.since p) ∙ sym (counted ms p h))

pub goes_on : GoesOn
goes_on = record {
  begins = record { since = λ p. refl };
  event = λ h places f n t e at fs time is. event h places n t at time is f fs e;
  out = λ h places n t o at time is. out h places n t at time is o;
  counts = counted_so;
}
