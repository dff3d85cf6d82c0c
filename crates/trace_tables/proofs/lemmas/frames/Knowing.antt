-- After each event and each out what is kept of frames is what the definitions say.
use Rattle.std.proofs.Common.{◌≡◌, ℕ, ◌==◌, ◌&&◌, nat_le, Bool, true, false, if◌then◌else◌, length, take, List, [], ◌∷◌, Option, Some, None, refl, sym, ap, ◌∙◌, subst, arith}
use Rattle.std.proofs.lemmas.Bool.Decides.{nat_tests}
use Rattle.number_table.specs.Entries.{puts, frees, entry_at}
use Rattle.client_request.specs.declared.event.{Event.Event, What.What, Out.Out, Via.Via}
use Rattle.client_request.specs.declared.event.What.TheVariants.{Ask, Opened, OpenFailed, SendFailed, ShortSend, Datagram, RecvFailed, Wrote, WriteFailed, Bytes, ReadFailed, Ended, Tick}
use Rattle.client_request.specs.declared.event.Via.TheVariants.{Dgram, Stream}
use Rattle.right_trace.specs.Trace.{History, Came, Put}
use Rattle.right_trace.specs.{Messages.Octets, Requests.same_via}
use Rattle.right_trace.specs.Places.{site, stand, is_alive, is_of_kind}
use Rattle.right_trace.specs.Frames.{Reading, Length, Fed, fed, reading, read_on, came, came_here, is_alive_stream}
use Rattle.trace_tables.specs.declared.places.Place.{Place}
use Rattle.trace_tables.specs.Known.{Known as PlacesKnown, stand_of, stand_seen, site_seen}
use Rattle.trace_tables.proofs.{Tables.at_puts, Listing.stays}
use Rattle.trace_tables.specs.declared.frames.frames.Frames.{Frames}
use Rattle.trace_tables.specs.frames.Frames.{Known, met, is_open, reading_or_none, datagram_at, bytes_at, fed_at, frames_of}

open_seen : (v : Via) (o : Option Place) → is_open v o ≡ (is_alive (stand_seen o) && is_of_kind v (site_seen o))
open_seen v None = refl
open_seen v (Some x) = refl

module _ (h : History) (places : List (ℕ × Place)) (t : Frames) (at : PlacesKnown h places) (is : Known h t) where
  open_is : (v : Via) (p : ℕ) → is_open v (entry_at p places) ≡ (is_alive (stand p h) && is_of_kind v (site p h))
  open_is v p = open_seen v (entry_at p places) ∙ (ap (λ x. is_alive x && is_of_kind v (site_seen (entry_at p places))) (at.stands p) ∙ ap (λ x. is_alive (stand p h) && is_of_kind v x) (at.sites p))

  same_place : (p q : ℕ) → (q == p) ≡ true → q ≡ p
  same_place p q e = grind (arith, nat_tests)

  -- a datagram
  datagram_here : (q p : ℕ) (o : Octets) → frames_of p (datagram_at q o (is_open Dgram (entry_at q places)) t).brought ≡ came p (Datagram q o) h
  datagram_here q p o = ap (λ b. frames_of p (datagram_at q o b t).brought) (open_is Dgram q) ∙ go (q == p) refl
    where
      here : (x : Bool) → frames_of q (if x then Some (record { place = q; frames = o ∷ [] }) else None) ≡ (if x then o ∷ [] else [])
      here true = ap (λ b. if b then o ∷ [] else []) (own q)
        where
          own : (n : ℕ) → (n == n) ≡ true
          own n = grind (arith, nat_tests)
      here false = refl

      go : (b : Bool) → (q == p) ≡ b → frames_of p (if is_alive (stand q h) && is_of_kind Dgram (site q h) then Some (record { place = q; frames = o ∷ [] }) else None)
          ≡ (if b && (is_alive (stand p h) && is_of_kind Dgram (site p h)) then o ∷ [] else [])
      go true e = subst (λ p. frames_of p (if is_alive (stand q h) && is_of_kind Dgram (site q h) then Some (record { place = q; frames = o ∷ [] }) else None)
          ≡ (if is_alive (stand p h) && is_of_kind Dgram (site p h) then o ∷ [] else [])) (same_place p q e) (here (is_alive (stand q h) && is_of_kind Dgram (site q h)))
      go false e = other (is_alive (stand q h) && is_of_kind Dgram (site q h))
        where
          other : (c : Bool) → frames_of p (if c then Some (record { place = q; frames = o ∷ [] }) else None) ≡ []
          other true = ap (λ b. if b then o ∷ [] else []) e
          other false = refl

  -- octets of a stream
  octets_here : (q p : ℕ) (o : Octets) → frames_of p (bytes_at q o (is_open Stream (entry_at q places)) t).brought ≡ came p (Bytes q o) h
  octets_here q p o = ap (λ b. frames_of p (bytes_at q o b t).brought) (open_is Stream q) ∙ go (q == p) refl
    where
      own : (n : ℕ) → (n == n) ≡ true
      own n = grind (arith, nat_tests)

      here : (x : Bool) → frames_of q (bytes_at q o x t).brought ≡ (if x then (fed (reading q h) o).frames else [])
      here true = ap (λ b. if b then (fed (reading_or_none (entry_at q t.readings)) o).frames else []) (own q) ∙ ap (λ x. (fed x o).frames) (is.readings q)
      here false = refl

      other : (x : Bool) → (q == p) ≡ false → frames_of p (bytes_at q o x t).brought ≡ []
      other true e = ap (λ b. if b then (fed (reading_or_none (entry_at q t.readings)) o).frames else []) e
      other false e = refl

      go : (b : Bool) → (q == p) ≡ b → frames_of p (bytes_at q o (is_alive_stream q h) t).brought ≡ (if b && is_alive_stream p h then (fed (reading p h) o).frames else [])
      go true e = subst (λ p. frames_of p (bytes_at q o (is_alive_stream q h) t).brought ≡ (if is_alive_stream p h then (fed (reading p h) o).frames else [])) (same_place p q e) (here (is_alive_stream q h))
      go false e = other (is_alive_stream q h) e

  octets_read : (q p : ℕ) (o : Octets) → reading_or_none (entry_at p (bytes_at q o (is_open Stream (entry_at q places)) t).readings) ≡ read_on p (Bytes q o) (is_alive_stream p h) (reading p h)
  octets_read q p o = ap (λ b. reading_or_none (entry_at p (bytes_at q o b t).readings)) (open_is Stream q) ∙ go (q == p) refl
    where
      put_here : reading_or_none (entry_at p (puts q (fed (reading_or_none (entry_at q t.readings)) o).left (frees q t.readings))) ≡ reading_or_none (if q == p then Some (fed (reading_or_none (entry_at q t.readings)) o).left else entry_at p (frees q t.readings))
      put_here = ap reading_or_none (at_puts q (fed (reading_or_none (entry_at q t.readings)) o).left p (frees q t.readings))

      here : (x : Bool) → (q == p) ≡ true → reading_or_none (entry_at p (bytes_at q o x t).readings) ≡ (if x then (fed (reading p h) o).left else reading p h)
      here true e = put_here ∙ (ap (λ b. reading_or_none (if b then Some (fed (reading_or_none (entry_at q t.readings)) o).left else entry_at p (frees q t.readings))) e
          ∙ (ap (λ x. (fed x o).left) (is.readings q) ∙ ap (λ n. (fed (reading n h) o).left) (same_place p q e)))
      here false e = is.readings p

      other : (x : Bool) → (q == p) ≡ false → reading_or_none (entry_at p (bytes_at q o x t).readings) ≡ reading p h
      other true e = put_here ∙ (ap (λ b. reading_or_none (if b then Some (fed (reading_or_none (entry_at q t.readings)) o).left else entry_at p (frees q t.readings))) e ∙ (ap reading_or_none (stays p q t.readings e) ∙ is.readings p))
      other false e = is.readings p

      go : (b : Bool) → (q == p) ≡ b → reading_or_none (entry_at p (bytes_at q o (is_alive_stream q h) t).readings) ≡ (if b && is_alive_stream p h then (fed (reading p h) o).left else reading p h)
      go true e = here (is_alive_stream q h) e ∙ ap (λ n. if is_alive_stream n h then (fed (reading p h) o).left else reading p h) (same_place p q e)
      go false e = other (is_alive_stream q h) e

  pub known_met : (e : Event) → Known (Came e ∷ h) (met e.what places t)
  known_met e = go e.what refl
    where
      none : (w : What) → e.what ≡ w → met w places t ≡ record t { brought = None } → ((p : ℕ) → came p w h ≡ []) → ((p : ℕ) → read_on p w (is_alive_stream p h) (reading p h) ≡ reading p h) → Known (Came e ∷ h) (met w places t)
      none w i same empty keeps = subst (Known (Came e ∷ h)) (sym same) (record {
        readings = λ p. is.readings p ∙ (sym (keeps p) ∙ sym (ap (λ w. read_on p w (is_alive_stream p h) (reading p h)) i));
        here = λ p. sym (empty p) ∙ sym (ap (λ w. came p w h) i);
      })

      go : (w : What) → e.what ≡ w → Known (Came e ∷ h) (met w places t)
      go (Datagram q o) i = record {
        readings = λ p. is.readings p ∙ sym (ap (λ w. read_on p w (is_alive_stream p h) (reading p h)) i);
        here = λ p. datagram_here q p o ∙ sym (ap (λ w. came p w h) i);
      }
      go (Bytes q o) i = record {
        readings = λ p. octets_read q p o ∙ sym (ap (λ w. read_on p w (is_alive_stream p h) (reading p h)) i);
        here = λ p. octets_here q p o ∙ sym (ap (λ w. came p w h) i);
      }
      go (Ask r) i = none (Ask r) i refl (λ p. refl) (λ p. refl)
      go (Opened q) i = none (Opened q) i refl (λ p. refl) (λ p. refl)
      go (OpenFailed q f) i = none (OpenFailed q f) i refl (λ p. refl) (λ p. refl)
      go (SendFailed q f) i = none (SendFailed q f) i refl (λ p. refl) (λ p. refl)
      go (ShortSend q) i = none (ShortSend q) i refl (λ p. refl) (λ p. refl)
      go (RecvFailed q f) i = none (RecvFailed q f) i refl (λ p. refl) (λ p. refl)
      go (Wrote q n) i = none (Wrote q n) i refl (λ p. refl) (λ p. refl)
      go (WriteFailed q f) i = none (WriteFailed q f) i refl (λ p. refl) (λ p. refl)
      go (ReadFailed q f) i = none (ReadFailed q f) i refl (λ p. refl) (λ p. refl)
      go (Ended q) i = none (Ended q) i refl (λ p. refl) (λ p. refl)
      go Tick i = none Tick i refl (λ p. refl) (λ p. refl)

pub known_put : (h : History) (t : Frames) (o : Out) → Known h t → Known (Put o ∷ h) t
known_put h t o is = record { readings = is.readings; here = is.here }
