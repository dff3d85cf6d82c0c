-- How a place stands where the row's event is counted and where it is not.
use Rattle.std.proofs.Common.{◌≡◌, ℕ, Bool, true, false, [], ◌∷◌, ◌==◌, refl}
use Rattle.std.specs.Prelude.{if◌then◌else◌}
use Rattle.client_request.specs.declared.event.What.{What}
use Rattle.client_request.specs.declared.event.What.TheVariants.{Ask, Opened, OpenFailed, SendFailed, ShortSend, Datagram, RecvFailed, Wrote, WriteFailed, Bytes, ReadFailed, Ended, Tick}
use Rattle.client_request.specs.declared.event.Out.{Out}
use Rattle.client_request.specs.declared.event.Out.TheVariants.{Start, OpenDgram, OpenStream, Send, Write, Resume, Close, Reply, Stale}
use Rattle.right_trace.specs.Trace.{History, Came, Put}
use Rattle.right_trace.specs.Time.{newest}
use Rattle.right_trace.specs.Places.{Stand, Unused, Opening, Alive, Gone, opened, failed, closed, on_event, begun, on_out, stand, stand_untold, is_live}
use Rattle.right_trace.specs.Right.{WasLive}

-- the event told of a place that was opening, or nothing of it
pub data Beside : (told untold : Stand) → Type 0 where
  Same : (x : Stand) → Beside x x
  HasOpened : Beside Alive Opening
  HasFailed : Beside Gone Opening

event_beside : (w : What) (p : ℕ) (x : Stand) → Beside (on_event w p x) x
event_beside (Opened q) p x = go (q == p) x
  where
    go : (b : Bool) (x : Stand) → Beside (if b then opened x else x) x
    go false x = Same x
    go true Unused = Same Unused
    go true Opening = HasOpened
    go true Alive = Same Alive
    go true Gone = Same Gone
event_beside (OpenFailed q f) p x = go (q == p) x
  where
    go : (b : Bool) (x : Stand) → Beside (if b then failed x else x) x
    go false x = Same x
    go true Unused = Same Unused
    go true Opening = HasFailed
    go true Alive = Same Alive
    go true Gone = Same Gone
event_beside (Ask r) p x = Same x
event_beside (SendFailed q f) p x = Same x
event_beside (ShortSend q) p x = Same x
event_beside (Datagram q o) p x = Same x
event_beside (RecvFailed q f) p x = Same x
event_beside (Wrote q n) p x = Same x
event_beside (WriteFailed q f) p x = Same x
event_beside (Bytes q o) p x = Same x
event_beside (ReadFailed q f) p x = Same x
event_beside (Ended q) p x = Same x
event_beside Tick p x = Same x

opens_beside : (w : What) (p : ℕ) (b : Bool) (x y : Stand) → Beside x y → Beside (if b then begun w p x else x) (if b then begun Tick p y else y)
opens_beside w p false x y is = is
opens_beside w p true _ _ (Same Unused) = event_beside w p Opening
opens_beside w p true _ _ (Same Opening) = Same Opening
opens_beside w p true _ _ (Same Alive) = Same Alive
opens_beside w p true _ _ (Same Gone) = Same Gone
opens_beside w p true _ _ HasOpened = HasOpened
opens_beside w p true _ _ HasFailed = HasFailed

closes_beside : (b : Bool) (x y : Stand) → Beside x y → Beside (if b then closed x else x) (if b then closed y else y)
closes_beside false x y is = is
closes_beside true _ _ (Same x) = Same (closed x)
closes_beside true _ _ HasOpened = Same Gone
closes_beside true _ _ HasFailed = Same Gone

out_beside : (w : What) (o : Out) (p : ℕ) (x y : Stand) → Beside x y → Beside (on_out w o p x) (on_out Tick o p y)
out_beside w (OpenDgram q s) p x y is = opens_beside w p (q == p) x y is
out_beside w (OpenStream q s) p x y is = opens_beside w p (q == p) x y is
out_beside w (Close q) p x y is = closes_beside (q == p) x y is
out_beside w (Start k s v) p x y is = is
out_beside w (Send q k i o) p x y is = is
out_beside w (Write q k i o) p x y is = is
out_beside w (Resume q o) p x y is = is
out_beside w (Reply k r) p x y is = is
out_beside w (Stale k) p x y is = is

stands_beside : (p : ℕ) (h : History) → Beside (stand p h) (stand_untold p h)
stands_beside p [] = Same Unused
stands_beside p (Came e ∷ h) = event_beside e.what p (stand p h)
stands_beside p (Put o ∷ h) = out_beside (newest h) o p (stand p h) (stand_untold p h) (stands_beside p h)

unused_beside : (x y : Stand) → Beside x y → x ≡ Unused → y ≡ Unused
unused_beside _ _ (Same x) e = e
unused_beside _ _ HasOpened e = absurd (cc)
unused_beside _ _ HasFailed e = absurd (cc)

live_beside : (x y : Stand) → Beside x y → x ≡ Alive → is_live y ≡ true
live_beside _ _ (Same x) e = rw e refl
live_beside _ _ HasOpened e = refl
live_beside _ _ HasFailed e = absurd (cc)

pub was_unused : (p : ℕ) (h : History) → stand p h ≡ Unused → stand_untold p h ≡ Unused
was_unused p h e = unused_beside (stand p h) (stand_untold p h) (stands_beside p h) e

pub was_alive : (p : ℕ) (h : History) → stand p h ≡ Alive → WasLive p h
was_alive p h e = live_beside (stand p h) (stand_untold p h) (stands_beside p h) e
