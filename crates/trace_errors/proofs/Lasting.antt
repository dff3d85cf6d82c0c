-- What is old was so before the newest row.
use Rattle.std.proofs.Common.{◌≡◌, ℕ, ◌==◌, ◌<◌, ◌&&◌, Bool, true, false, if◌then◌else◌, [], ◌∷◌, Option, Some, refl, sym, ap, ◌∙◌, subst, arith}
use Rattle.client_request.specs.declared.event.{What.What, Out.Out, Via.Via}
use Rattle.client_request.specs.declared.event.What.TheVariants.{Ask, Opened, OpenFailed, SendFailed, ShortSend, Datagram, RecvFailed, Wrote, WriteFailed, Bytes, ReadFailed, Ended, Tick}
use Rattle.client_request.specs.declared.event.Out.TheVariants.{Start, OpenDgram, OpenStream, Send, Write, Resume, Close, Stale, Reply}
use Rattle.client_request.specs.declared.event.Via.TheVariants.{Dgram, Stream}
use Rattle.right_trace.specs.Trace.{History, Came, Put}
use Rattle.right_trace.specs.Time.{now, newest, row_before}
use Rattle.right_trace.specs.Requests.{is_start, start}
use Rattle.right_trace.specs.Places.{Site, site, is_site, is_at, opens_as, Stand, Unused, Opening, Alive, Gone, stand, is_live, is_unused, opened, failed, closed, begun, on_event, on_out}
use Rattle.right_trace.specs.Causes.{Try, last_try}

-- a start that is older than this moment
pub begun_before : (k s b : ℕ) (v : Via) (h : History) → start k s v h ≡ Some b → b < now h → start k s v (row_before h) ≡ Some b
begun_before k s b v [] e l = e
begun_before k s b v (Came d ∷ h) e l = e
begun_before k s b v (Put o ∷ h) e l = go (is_start k s v o) e (λ e. begun_before k s b v h e l)
  where
    go : (a : Bool) → (if a then Some (now h) else start k s v h) ≡ Some b → (start k s v h ≡ Some b → start k s v (row_before h) ≡ Some b) → start k s v (row_before h) ≡ Some b
    go true e rest = absurd (let q : now h ≡ b = cc in omega arith)
    go false e rest = rest e

-- the last try
pub tried_before : (k s : ℕ) (y : Try) (h : History) → last_try k s h ≡ Some y → y.moment < now h → last_try k s (row_before h) ≡ Some y
tried_before k s y [] e l = e
tried_before k s y (Came d ∷ h) e l = e
tried_before k s y (Put (Send q j i o) ∷ h) e l = go ((j == k) && is_at Dgram s q h) e (λ e. tried_before k s y h e l)
  where
    go : (a : Bool) → (if a then Some (record { place = q; moment = now h }) else last_try k s h) ≡ Some y → (last_try k s h ≡ Some y → last_try k s (row_before h) ≡ Some y) → last_try k s (row_before h) ≡ Some y
    go true e rest = absurd (let z : Path Try (record { place = q; moment = now h }) y = cc in let m : now h ≡ y.moment = ap (λ (t : Try). t.moment) z in omega arith)
    go false e rest = rest e
tried_before k s y (Put (Start j r u) ∷ h) e l = tried_before k s y h e l
tried_before k s y (Put (OpenDgram p r) ∷ h) e l = tried_before k s y h e l
tried_before k s y (Put (OpenStream p r) ∷ h) e l = tried_before k s y h e l
tried_before k s y (Put (Write p j i o) ∷ h) e l = tried_before k s y h e l
tried_before k s y (Put (Resume p o) ∷ h) e l = tried_before k s y h e l
tried_before k s y (Put (Close p) ∷ h) e l = tried_before k s y h e l
tried_before k s y (Put (Stale j) ∷ h) e l = tried_before k s y h e l
tried_before k s y (Put (Reply j x) ∷ h) e l = tried_before k s y h e l

-- a place that was used is so later, and one that is gone stays gone

used_told : (x y : Stand) (b : Bool) → is_unused x ≡ false → is_unused y ≡ false → is_unused (if b then y else x) ≡ false
used_told x y true e f = f
used_told x y false e f = e

opened_used : (x : Stand) → is_unused x ≡ false → is_unused (opened x) ≡ false
opened_used Unused e = absurd (cc)
opened_used Opening e = refl
opened_used Alive e = refl
opened_used Gone e = refl

failed_used : (x : Stand) → is_unused x ≡ false → is_unused (failed x) ≡ false
failed_used Unused e = absurd (cc)
failed_used Opening e = refl
failed_used Alive e = refl
failed_used Gone e = refl

closed_used : (x : Stand) → is_unused x ≡ false → is_unused (closed x) ≡ false
closed_used Unused e = absurd (cc)
closed_used Opening e = refl
closed_used Alive e = refl
closed_used Gone e = refl

used_event : (w : What) (p : ℕ) (x : Stand) → is_unused x ≡ false → is_unused (on_event w p x) ≡ false
used_event (Opened q) p x e = used_told x (opened x) (q == p) e (opened_used x e)
used_event (OpenFailed q f) p x e = used_told x (failed x) (q == p) e (failed_used x e)
used_event (Ask r) p x e = e
used_event (SendFailed q f) p x e = e
used_event (ShortSend q) p x e = e
used_event (Datagram q o) p x e = e
used_event (RecvFailed q f) p x e = e
used_event (Wrote q n) p x e = e
used_event (WriteFailed q f) p x e = e
used_event (Bytes q o) p x e = e
used_event (ReadFailed q f) p x e = e
used_event (Ended q) p x e = e
used_event Tick p x e = e

begun_used : (w : What) (p : ℕ) (x : Stand) → is_unused (begun w p x) ≡ false
begun_used w p Unused = used_event w p Opening refl
begun_used w p Opening = refl
begun_used w p Alive = refl
begun_used w p Gone = refl

used_out : (w : What) (o : Out) (p : ℕ) (x : Stand) → is_unused x ≡ false → is_unused (on_out w o p x) ≡ false
used_out w (OpenDgram q s) p x e = used_told x (begun w p x) (q == p) e (begun_used w p x)
used_out w (OpenStream q s) p x e = used_told x (begun w p x) (q == p) e (begun_used w p x)
used_out w (Close q) p x e = used_told x (closed x) (q == p) e (closed_used x e)
used_out w (Start j s u) p x e = e
used_out w (Send q j i o) p x e = e
used_out w (Write q j i o) p x e = e
used_out w (Resume q o) p x e = e
used_out w (Stale j) p x e = e
used_out w (Reply j y) p x e = e

-- a place of some server was used
opening_used : (v u : Via) (s r q p : ℕ) (w : What) (x : Stand) (y : Option Site) → (is_site v s y ≡ true → is_unused x ≡ false) → (b : Bool) → is_site v s (if b then opens_as u r y else y) ≡ true → is_unused (if b then begun w p x else x) ≡ false
opening_used v u s r q p w x y f true e = begun_used w p x
opening_used v u s r q p w x y f false e = f e

sited_used : (v : Via) (s p : ℕ) (h : History) → is_at v s p h ≡ true → is_unused (stand p h) ≡ false
sited_used v s p [] e = absurd (cc)
sited_used v s p (Came d ∷ h) e = used_event d.what p (stand p h) (sited_used v s p h e)
sited_used v s p (Put (OpenDgram q r) ∷ h) e = opening_used v Dgram s r q p (newest h) (stand p h) (site p h) (sited_used v s p h) (q == p) e
sited_used v s p (Put (OpenStream q r) ∷ h) e = opening_used v Stream s r q p (newest h) (stand p h) (site p h) (sited_used v s p h) (q == p) e
sited_used v s p (Put (Close q) ∷ h) e = used_out (newest h) (Close q) p (stand p h) (sited_used v s p h e)
sited_used v s p (Put (Start j r u) ∷ h) e = sited_used v s p h e
sited_used v s p (Put (Send q j i o) ∷ h) e = sited_used v s p h e
sited_used v s p (Put (Write q j i o) ∷ h) e = sited_used v s p h e
sited_used v s p (Put (Resume q o) ∷ h) e = sited_used v s p h e
sited_used v s p (Put (Stale j) ∷ h) e = sited_used v s p h e
sited_used v s p (Put (Reply j y) ∷ h) e = sited_used v s p h e

tried_used : (k s : ℕ) (y : Try) (h : History) → last_try k s h ≡ Some y → is_unused (stand y.place h) ≡ false
tried_used k s y [] e = absurd (cc)
tried_used k s y (Came d ∷ h) e = used_event d.what y.place (stand y.place h) (tried_used k s y h e)
tried_used k s y (Put (Send q j i o) ∷ h) e = go (j == k) (is_at Dgram s q h) refl e (tried_used k s y h)
  where
    go : (a b : Bool) → is_at Dgram s q h ≡ b → (if a && b then Some (record { place = q; moment = now h }) else last_try k s h) ≡ Some y → (last_try k s h ≡ Some y → is_unused (stand y.place h) ≡ false) → is_unused (stand y.place h) ≡ false
    go true true i e rest = (let z : Path Try (record { place = q; moment = now h }) y = cc in subst (λ (t : Try). is_unused (stand t.place h) ≡ false) z (sited_used Dgram s q h i))
    go true false i e rest = rest e
    go false b i e rest = rest e
tried_used k s y (Put (OpenDgram p r) ∷ h) e = used_out (newest h) (OpenDgram p r) y.place (stand y.place h) (tried_used k s y h e)
tried_used k s y (Put (OpenStream p r) ∷ h) e = used_out (newest h) (OpenStream p r) y.place (stand y.place h) (tried_used k s y h e)
tried_used k s y (Put (Close p) ∷ h) e = used_out (newest h) (Close p) y.place (stand y.place h) (tried_used k s y h e)
tried_used k s y (Put (Start j r u) ∷ h) e = tried_used k s y h e
tried_used k s y (Put (Write p j i o) ∷ h) e = tried_used k s y h e
tried_used k s y (Put (Resume p o) ∷ h) e = tried_used k s y h e
tried_used k s y (Put (Stale j) ∷ h) e = tried_used k s y h e
tried_used k s y (Put (Reply j x) ∷ h) e = tried_used k s y h e

either_gone : (b : Bool) → (if b then Gone else Gone) ≡ Gone
either_gone true = refl
either_gone false = refl

gone_event : (w : What) (p : ℕ) → on_event w p Gone ≡ Gone
gone_event (Opened q) p = either_gone (q == p)
gone_event (OpenFailed q f) p = either_gone (q == p)
gone_event (Ask r) p = refl
gone_event (SendFailed q f) p = refl
gone_event (ShortSend q) p = refl
gone_event (Datagram q o) p = refl
gone_event (RecvFailed q f) p = refl
gone_event (Wrote q n) p = refl
gone_event (WriteFailed q f) p = refl
gone_event (Bytes q o) p = refl
gone_event (ReadFailed q f) p = refl
gone_event (Ended q) p = refl
gone_event Tick p = refl

gone_out : (w : What) (o : Out) (p : ℕ) → on_out w o p Gone ≡ Gone
gone_out w (OpenDgram q s) p = either_gone (q == p)
gone_out w (OpenStream q s) p = either_gone (q == p)
gone_out w (Close q) p = either_gone (q == p)
gone_out w (Start j s u) p = refl
gone_out w (Send q j i o) p = refl
gone_out w (Write q j i o) p = refl
gone_out w (Resume q o) p = refl
gone_out w (Stale j) p = refl
gone_out w (Reply j y) p = refl

gone_later : (p : ℕ) (h : History) → stand p (row_before h) ≡ Gone → stand p h ≡ Gone
gone_later p [] e = e
gone_later p (Came d ∷ h) e = ap (on_event d.what p) e ∙ gone_event d.what p
gone_later p (Put o ∷ h) e = ap (on_out (newest h) o p) (gone_later p h e) ∙ gone_out (newest h) o p

lived_before : (p : ℕ) (h : History) → is_live (stand p h) ≡ true → is_unused (stand p (row_before h)) ≡ false → is_live (stand p (row_before h)) ≡ true
lived_before p h e u = go (stand p (row_before h)) refl u
  where
    go : (x : Stand) → stand p (row_before h) ≡ x → is_unused x ≡ false → is_live x ≡ true
    go Unused i u = absurd (cc)
    go Opening i u = refl
    go Alive i u = refl
    go Gone i u = absurd (let z : false ≡ true = sym (ap is_live (gone_later p h i)) ∙ e in cc)

-- where the last try was, if that is old and the place is live
pub lived : (k s : ℕ) (y : Try) (h : History) → last_try k s h ≡ Some y → y.moment < now h → is_live (stand y.place h) ≡ true → is_live (stand y.place (row_before h)) ≡ true
lived k s y h e l i = lived_before y.place h i (tried_used k s y (row_before h) (tried_before k s y h e l))
