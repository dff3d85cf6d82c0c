-- What a row that is right leaves as it was: starts, all sends that a server may get, and places that neither close nor fail to open.
use Rattle.std.proofs.Common.{◌≡◌, ℕ, suc, ◌==◌, ◌<◌, ◌≤◌, ◌&&◌, ◌⊎◌, inl, inr, Bool, true, false, if◌then◌else◌, List, [], ◌∷◌, Option, Some, max, refl, sym, ap, ap₂, ◌∙◌, arith}
use Rattle.std.specs.Prelude.{is_some}
use Rattle.client_request.specs.declared.event.{What.What, Out.Out, Row.Row, Via.Via}
use Rattle.client_request.specs.declared.event.What.TheVariants.{Ask, Opened, OpenFailed, SendFailed, ShortSend, Datagram, RecvFailed, Wrote, WriteFailed, Bytes, ReadFailed, Ended, Tick}
use Rattle.client_request.specs.declared.event.Out.TheVariants.{Start, OpenDgram, OpenStream, Send, Write, Resume, Close, Stale, Reply}
use Rattle.client_request.specs.declared.event.Via.TheVariants.{Dgram, Stream}
use Rattle.right_trace.specs.Trace.{History, Conf, Came, Put, put_all, after}
use Rattle.right_trace.specs.Time.{now, newest, max_tries}
use Rattle.right_trace.specs.Settings.{Settings}
use Rattle.right_trace.specs.Requests.{same_via, start, started}
use Rattle.right_trace.specs.Places.{is_at, Stand, Unused, Opening, Alive, Gone, stand, is_live, on_event, on_out, opened, failed, closed}
use Rattle.right_trace.specs.Causes.{sends, last_try}
use Rattle.right_trace.specs.Orderly.{MayStart, FirstDatagram, FirstStream, AfterCutAnswer}
use Rattle.right_trace.specs.Right.{OutRight, OutsRight, RowRight}
use Rattle.trace_errors.proofs.lemmas.promptness.Hearing.{row_moment}
use Rattle.trace_errors.specs.Noted.{unopened_place, closed_place}
use Rattle.trace_errors.proofs.Rows.{same_number}

same_kind : (a b : Via) → same_via a b ≡ true → a ≡ b
same_kind Dgram Dgram e = refl
same_kind Stream Stream e = refl
same_kind Dgram Stream e = absurd (cc)
same_kind Stream Dgram e = absurd (cc)

unstarted : (c : Conf) (j q : ℕ) (past : History) (w : What) (h : History) (u : Via) → MayStart c j q past w h u → started j q u h ≡ false
unstarted c j q past w h _ (FirstDatagram a b) = b
unstarted c j q past w h _ (FirstStream a b) = b
unstarted c j q past w h _ (AfterCutAnswer a b d) = b

module _ (c : Conf) (s : Settings) (past : History) (w : What) (end : History) where
  out_starts : (h : History) (o : Out) → OutRight c s past w h end o → (k r t : ℕ) (v : Via) → start k r v h ≡ Some t → start k r v (Put o ∷ h) ≡ Some t
  out_starts h (Start j q u) right k r t v e = go (same_via u v) refl (j == k) refl (q == r) refl
    where
      never : same_via u v ≡ true → (j == k) ≡ true → (q == r) ≡ true → ⊥
      never x y z =
          let f = unstarted c j q past w h u right.1 in
          let a : u ≡ v = same_kind u v x in
          let b : j ≡ k = same_number j k y in
          let d : q ≡ r = same_number q r z in
          let m : started j q u h ≡ started k r v h = ap₂ (λ j q. started j q u h) b d ∙ ap (λ u. started k r u h) a in
          let g : started k r v h ≡ true = ap is_some e in
          let z : false ≡ true = sym f ∙ (m ∙ g) in
          cc

      go : (a : Bool) → same_via u v ≡ a → (b : Bool) → (j == k) ≡ b → (d : Bool) → (q == r) ≡ d → (if a && (b && d) then Some (now h) else start k r v h) ≡ Some t
      go true x true y true z = absurd (never x y z)
      go true x true y false z = e
      go true x false y d z = e
      go false x b y d z = e
  out_starts h (OpenDgram p q) right k r t v e = e
  out_starts h (OpenStream p q) right k r t v e = e
  out_starts h (Send p j i o) right k r t v e = e
  out_starts h (Write p j i o) right k r t v e = e
  out_starts h (Resume p o) right k r t v e = e
  out_starts h (Close p) right k r t v e = e
  out_starts h (Stale j) right k r t v e = e
  out_starts h (Reply j x) right k r t v e = e

  abbrev AllStay : (k r : ℕ) (h g : History) → Type 0
  AllStay k r h g = (sends k r g ≡ max_tries c) × (last_try k r g ≡ last_try k r h)

  out_all : (h : History) (o : Out) → OutRight c s past w h end o → (k r : ℕ) → sends k r h ≡ max_tries c → AllStay k r h (Put o ∷ h)
  out_all h (Send p j i o) right k r e = go (j == k) refl (is_at Dgram r p h) refl
    where
      never : (j == k) ≡ true → is_at Dgram r p h ≡ true → ⊥
      never x y =
          let l : sends j r h < max_tries c = right.1 r y in
          let q : sends j r h ≡ max_tries c = ap (λ j. sends j r h) (same_number j k x) ∙ e in
          omega arith

      go : (a : Bool) → (j == k) ≡ a → (b : Bool) → is_at Dgram r p h ≡ b → ((if a && b then suc (sends k r h) else sends k r h) ≡ max_tries c) × ((if a && b then Some (record { place = p; moment = now h }) else last_try k r h) ≡ last_try k r h)
      go true x true y = absurd (never x y)
      go true x false y = (e, refl)
      go false x b y = (e, refl)
  out_all h (Start j q u) right k r e = (e, refl)
  out_all h (OpenDgram p q) right k r e = (e, refl)
  out_all h (OpenStream p q) right k r e = (e, refl)
  out_all h (Write p j i o) right k r e = (e, refl)
  out_all h (Resume p o) right k r e = (e, refl)
  out_all h (Close p) right k r e = (e, refl)
  out_all h (Stale j) right k r e = (e, refl)
  out_all h (Reply j x) right k r e = (e, refl)

  outs_start : (os : List Out) (h : History) → OutsRight c s past w end h os → (k r t : ℕ) (v : Via) → start k r v h ≡ Some t → start k r v (put_all os h) ≡ Some t
  outs_start [] h right k r t v e = e
  outs_start (o ∷ os) h right k r t v e = outs_start os (Put o ∷ h) right.1 k r t v (out_starts h o right.0 k r t v e)

  outs_all : (os : List Out) (h : History) → OutsRight c s past w end h os → (k r : ℕ) → sends k r h ≡ max_tries c → AllStay k r h (put_all os h)
  outs_all [] h right k r e = (e, refl)
  outs_all (o ∷ os) h right k r e =
      let a = out_all h o right.0 k r e in
      let b = outs_all os (Put o ∷ h) right.1 k r a.0 in
      (b.0, b.1 ∙ a.1)

-- by a row
module _ (c : Conf) (s : Settings) (past : History) (row : Row) (right : RowRight c s past row) where
  pub starts_stay : (k r t : ℕ) (v : Via) → start k r v past ≡ Some t → start k r v (after row past) ≡ Some t
  starts_stay k r t v e = outs_start c s past row.event.what (after row past) row.outs (Came row.event ∷ past) right.outs k r t v e

  pub all_stay : (k r : ℕ) → sends k r past ≡ max_tries c → (sends k r (after row past) ≡ max_tries c) × (last_try k r (after row past) ≡ last_try k r past)
  all_stay k r e = outs_all c s past row.event.what (after row past) row.outs (Came row.event ∷ past) right.outs k r e

pub time_goes_on : (row : Row) (past : History) → now past ≤ now (after row past)
time_goes_on row past =
    let e : now (after row past) ≡ max row.event.moment.0 (now past) = row_moment row past in
    omega arith

-- places

abbrev pub ClosedIn : (q : ℕ) → List Out → Type 0
ClosedIn q [] = ⊥
ClosedIn q (o ∷ os) = (closed_place o ≡ Some q) ⊎ ClosedIn q os

opens_live : (w : What) (p q r : ℕ) (v : Via) (x : Stand) → is_live x ≡ true → (is_live (on_out w (OpenDgram p r) q x) ≡ true) × (is_live (on_out w (OpenStream p r) q x) ≡ true)
opens_live w p q r v Unused e = absurd (cc)
opens_live w p q r v Gone e = absurd (cc)
opens_live w p q r v Opening e = (go (p == q), go (p == q))
  where
    go : (b : Bool) → is_live (if b then Opening else Opening) ≡ true
    go true = refl
    go false = refl
opens_live w p q r v Alive e = (go (p == q), go (p == q))
  where
    go : (b : Bool) → is_live (if b then Alive else Alive) ≡ true
    go true = refl
    go false = refl

out_lives : (w : What) (o : Out) (q : ℕ) (x : Stand) → is_live x ≡ true → (is_live (on_out w o q x) ≡ true) ⊎ (closed_place o ≡ Some q)
out_lives w (OpenDgram p r) q x e = inl (opens_live w p q r Dgram x e).0
out_lives w (OpenStream p r) q x e = inl (opens_live w p q r Stream x e).1
out_lives w (Close p) q x e = go (p == q) refl
  where
    go : (b : Bool) → (p == q) ≡ b → (is_live (on_out w (Close p) q x) ≡ true) ⊎ (Path (Option ℕ) (Some p) (Some q))
    go true i = inr (ap Some (same_number p q i))
    go false i = inl (ap (λ b. is_live (if b then closed x else x)) i ∙ e)
out_lives w (Start j r u) q x e = inl e
out_lives w (Send p j i o) q x e = inl e
out_lives w (Write p j i o) q x e = inl e
out_lives w (Resume p o) q x e = inl e
out_lives w (Stale j) q x e = inl e
out_lives w (Reply j y) q x e = inl e

opened_lives : (x : Stand) → is_live x ≡ true → (b : Bool) → is_live (if b then opened x else x) ≡ true
opened_lives x e false = e
opened_lives Unused e true = absurd (cc)
opened_lives Gone e true = absurd (cc)
opened_lives Opening e true = refl
opened_lives Alive e true = refl

event_lives : (w : What) (q : ℕ) (x : Stand) → is_live x ≡ true → (is_live (on_event w q x) ≡ true) ⊎ (unopened_place w ≡ Some q)
event_lives (Opened p) q x e = inl (opened_lives x e (p == q))
event_lives (OpenFailed p f) q x e = go (p == q) refl
  where
    go : (b : Bool) → (p == q) ≡ b → (is_live (on_event (OpenFailed p f) q x) ≡ true) ⊎ (Path (Option ℕ) (Some p) (Some q))
    go true i = inr (ap Some (same_number p q i))
    go false i = inl (ap (λ b. is_live (if b then failed x else x)) i ∙ e)
event_lives (Ask r) q x e = inl e
event_lives (SendFailed p f) q x e = inl e
event_lives (ShortSend p) q x e = inl e
event_lives (Datagram p o) q x e = inl e
event_lives (RecvFailed p f) q x e = inl e
event_lives (Wrote p n) q x e = inl e
event_lives (WriteFailed p f) q x e = inl e
event_lives (Bytes p o) q x e = inl e
event_lives (ReadFailed p f) q x e = inl e
event_lives (Ended p) q x e = inl e
event_lives Tick q x e = inl e

outs_live : (os : List Out) (h : History) (q : ℕ) → is_live (stand q h) ≡ true → (is_live (stand q (put_all os h)) ≡ true) ⊎ ClosedIn q os
outs_live [] h q e = inl e
outs_live (o ∷ os) h q e = go (out_lives (newest h) o q (stand q h) e) (outs_live os (Put o ∷ h) q)
  where
    more : (is_live (stand q (put_all os (Put o ∷ h))) ≡ true) ⊎ ClosedIn q os → (is_live (stand q (put_all os (Put o ∷ h))) ≡ true) ⊎ ClosedIn q (o ∷ os)
    more (inl e) = inl e
    more (inr i) = inr (inr i)

    go : (is_live (stand q (Put o ∷ h)) ≡ true) ⊎ (closed_place o ≡ Some q) → (is_live (stand q (Put o ∷ h)) ≡ true → (is_live (stand q (put_all os (Put o ∷ h))) ≡ true) ⊎ ClosedIn q os) → (is_live (stand q (put_all os (Put o ∷ h))) ≡ true) ⊎ ClosedIn q (o ∷ os)
    go (inl e) rest = more (rest e)
    go (inr i) rest = inr (inl i)

-- how a place that was live is still so, or ended
pub data Ending (q : ℕ) (row : Row) (past : History) : Type 0 where
  StillLive : is_live (stand q (after row past)) ≡ true → Ending q row past
  IsUnopened : unopened_place row.event.what ≡ Some q → Ending q row past
  IsClosed : ClosedIn q row.outs → Ending q row past

pub row_lives : (row : Row) (past : History) (q : ℕ) → is_live (stand q past) ≡ true → Ending q row past
row_lives row past q e = go (event_lives row.event.what q (stand q past) e)
  where
    by : (is_live (stand q (after row past)) ≡ true) ⊎ ClosedIn q row.outs → Ending q row past
    by (inl e) = StillLive e
    by (inr i) = IsClosed i

    go : (is_live (on_event row.event.what q (stand q past)) ≡ true) ⊎ (unopened_place row.event.what ≡ Some q) → Ending q row past
    go (inl e) = by (outs_live row.outs (Came row.event ∷ past) q e)
    go (inr i) = IsUnopened i
