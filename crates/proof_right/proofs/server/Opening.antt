-- A request is handed in, and a place is opened.
use Rattle.std.proofs.Common.{◌≡◌, ℕ, suc, ◌≤◌, true, false, ◌⊎◌, inl, inr, Option, Some, None, List, [], ◌∷◌, ◌≢◌, refl, arith, ◌∙◌, sym, subst, ap, ◌==◌}
use Rattle.std.proofs.lemmas.Bool.{cases_eq}
use Rattle.std.proofs.lemmas.Bool.Decides.{nat_tests}
use Rattle.client_request.specs.Request.{Request}
use Rattle.client_request.specs.declared.event.What.{What}
use Rattle.client_request.specs.declared.event.Out.{Out}
use Rattle.client_request.specs.declared.event.Out.TheVariants.{Start, OpenStream}
use Rattle.client_request.specs.declared.event.Via.TheVariants.{Stream}
use Rattle.right_trace.specs.Trace.{History, Put, Conf}
use Rattle.right_trace.specs.Time.{now, newest, id_count}
use Rattle.right_trace.specs.Messages.{Octets}
use Rattle.right_trace.specs.Requests.{asking, start, started}
use Rattle.right_trace.specs.Places.{site, is_at, Unused, Opening, Alive, on_event, stand, is_live, reach}
use Rattle.right_trace.specs.Writes.{Written, held_with}
use Rattle.right_trace.specs.Orderly.{MayOpenStream}
use Rattle.right_trace.specs.Busy.{OpeningFailedAtOnce}
use Rattle.proof_right.specs.machine.Streams.{Phase, Free, Expecting, Lined, Holding, Broken, BackingOff, Asker, Conn, Multi, moved, move, IsFull}
use Rattle.right_trace.specs.Updates.{with_at}
use Rattle.proof_right.proofs.server.Kept.{stream_site, PhaseFits, AskFits, OpeningFits, Kept}
use Rattle.proof_right.proofs.server.Views.{each_at, at_there, same_conn}
use Rattle.proof_right.proofs.server.Puts.{touches, put_same, phase_put, ask_put, opening_put, to_come_put, row_put}
use Rattle.proof_right.proofs.server.Silent.{full_before}

-- A request is handed in.

start_same : (s q k : ℕ) (h : History) → touches q (Start k s Stream) ≡ false
start_same s q k h = refl

phase_start : (c : Conf) → (s k j : ℕ) (r : Request) (conns : ℕ → Option Conn) (opening : Option ℕ) (h : History) (ph : Phase) → PhaseFits c s j r conns opening h ph → PhaseFits c s j r conns opening (Put (Start k s Stream) ∷ h) ph
phase_start c s k j r conns opening h ph f = phase_put c s j r conns opening (Start k s Stream) h ph f

pub begins : (c : Conf) → (s : ℕ) (past : History) (w pend : What) (fr more : ℕ → List Octets) (m : Multi) (h : History) (k : ℕ) (r : Request) (t : ℕ) → Kept c s past w pend fr more m h → asking k h ≡ Some (record { request = r; moment = t }) → start k s Stream h ≡ None
    → Kept c s past w pend fr more (record m { asks = with_at k (Some (record { request = r; since = now h; phase = Free })) m.asks }) (Put (Start k s Stream) ∷ h)
begins c s past w pend fr more m h k r t kept asked unstarted = record {
  row = row_put past w (Start k s Stream) h kept.row;
  asks = each_at (λ j b. AskFits c s j b m.conns m.opening (Put (Start k s Stream) ∷ h)) k (record { request = r; since = now h; phase = Free }) m.asks
      (record { asked = (t, asked); since = grind (arith, nat_tests); phase = tt })
      (λ j b ne e. (let f = kept.asks j b e in ask_put c s j b m.conns m.conns m.opening m.opening (Start k s Stream) h (grind (arith, nat_tests)) (phase_start c s k j b.request m.conns m.opening h b.phase f.phase) f));
  conns = λ q x e. same_conn c s q past pend (fr q) (more q) x h (Put (Start k s Stream) ∷ h) (put_same c s q (Start k s Stream) h refl) (kept.conns q x e);
  owners = λ q z e i y g b u. own q i y b u ((kept.conns q z e).begun i y g) (kept.owners q z e i y g);
  opening = λ q e. opening_put c s q past w pend (Start k s Stream) h refl (kept.opening q e);
  apart = kept.apart;
  others = kept.others;
  to_come = λ q le. to_come_put c s q past w m _ (Start k s Stream) h refl refl (kept.to_come q le);
  below = kept.below;
  calm = λ lt. inr (kept.calm lt);
  late = kept.late;
}
  where
    own : (q i : ℕ) (y : Written) (b : Asker) → with_at k (Some (record { request = r; since = now h; phase = Free })) m.asks y.request ≡ Some b → started y.request s Stream h ≡ true → ((b : Asker) → m.asks y.request ≡ Some b → b.phase ≡ Holding q i) → b.phase ≡ Holding q i
    own q i y b g st old = elim (cases_eq k y.request) [
      | inl e ↦ absurd (let v : started k s Stream h ≡ true = rw e st in let n : started k s Stream h ≡ false = rw unstarted refl in cc)
      | inr ne ↦ old b (sym (at_there k y.request (Some (record { request = r; since = now h; phase = Free })) m.asks ne) ∙ g)
    ]

-- A place is opened.

untouched : (s p q : ℕ) → p ≢ q → touches q (OpenStream p s) ≡ false
untouched s p q ne = grind (arith, nat_tests)

stand_opens : (p s : ℕ) (w : What) (h : History) → newest h ≡ w → stand p h ≡ Unused → stand p (Put (OpenStream p s) ∷ h) ≡ on_event w p Opening
stand_opens p s w h new un = (let t : (p == p) ≡ true = grind (arith, nat_tests) in rw (t, un, new) refl)

site_opens : (p s : ℕ) (h : History) → site p h ≡ None → site p (Put (OpenStream p s) ∷ h) ≡ Some (stream_site s)
site_opens p s h e = (let t : (p == p) ≡ true = grind (arith, nat_tests) in rw (t, e) refl)

pub opens : (c : Conf) → (s : ℕ) (past : History) (w pend : What) (fr more : ℕ → List Octets) (m : Multi) (h : History) (k : ℕ) (a : Asker) → Kept c s past w pend fr more m h → m.asks k ≡ Some a → ((q i : ℕ) → a.phase ≢ Holding q i) → m.opening ≡ None → on_event w (reach h) Opening ≡ on_event pend (reach h) Opening
    → Kept c s past w pend fr more (record (move k a Expecting m) { opening = Some (reach h) }) (Put (OpenStream (reach h) s) ∷ h)
opens c s past w pend fr more m h k a kept ask unheld none free =
    let p = reach h in
    let o : Out = OpenStream p s in
    let new = kept.to_come p (omega arith) in
    let differs : (q : ℕ) (x : Conn) → m.conns q ≡ Some x → p ≢ q = λ q x e g. (let u = new.unheld in let v : m.conns p ≡ Some x = ap m.conns g ∙ e in cc) in
    let reach' : reach (Put o ∷ h) ≡ suc (reach h) = grind arith in
    record {
      row = row_put past w o h kept.row;
      asks = each_at (λ j b. AskFits c s j b m.conns (Some p) (Put o ∷ h)) k (moved a Expecting) m.asks
          (let f = kept.asks k a ask in record { asked = f.asked; since = f.since; phase = (p, refl) })
          (λ j b ne e. (let f = kept.asks j b e in ask_put c s j b m.conns m.conns m.opening (Some p) o h refl (phase_opens s j b.request m.conns m.opening p o h none b.phase f.phase) f));
      conns = λ q x e. same_conn c s q past pend (fr q) (more q) x h (Put o ∷ h) (put_same c s q o h (untouched s p q (differs q x e))) (kept.conns q x e);
      owners = λ q z e i y g b u. own q i y b u (kept.owners q z e i y g);
      opening = λ q e. subst (λ q. OpeningFits c s q past w pend (Put o ∷ h)) (some_same p q e) (record {
        fails = λ g e. inl (record { recent = omega arith; broke = OpeningFailedAtOnce p g h refl (kept.row.event ∙ e) new.stand });
        stand = stand_opens p s w h kept.row.event new.stand ∙ free;
        at = site_opens p s h new.nowhere;
        blank = (let b = new.blank in record { waiting = b.waiting; wanted = b.wanted; takes = b.takes; idle = b.idle; reading = b.reading; came = b.came });
      });
      apart = λ q x e g. differs q x g (some_same p q e);
      others = λ q e g n. others q e g n (cases_eq p q);
      to_come = λ q le. (let ne : p ≢ q = λ g. omega arith in to_come_put c s q past w m _ o h (untouched s p q ne) refl (kept.to_come q (omega arith)));
      below = λ q e. (let g = some_same p q e in omega arith);
      calm = λ lt. inr (kept.calm lt);
      late = kept.late;
    }
  where
    own : (q i : ℕ) (y : Written) (b : Asker) → with_at k (Some (moved a Expecting)) m.asks y.request ≡ Some b → ((b : Asker) → m.asks y.request ≡ Some b → b.phase ≡ Holding q i) → b.phase ≡ Holding q i
    own q i y b g old = elim (cases_eq k y.request) [
      | inl e ↦ absurd (unheld q i (old a (ap m.asks (sym e) ∙ ask)))
      | inr ne ↦ old b (sym (at_there k y.request (Some (moved a Expecting)) m.asks ne) ∙ g)
    ]

    some_same : (p q : ℕ) → Some p ≡ Some q → p ≡ q
    some_same p q e = cc

    phase_opens : (s j : ℕ) (r : Request) (conns : ℕ → Option Conn) (opening : Option ℕ) (p : ℕ) (o : Out) (h : History) → opening ≡ None → (ph : Phase) → PhaseFits c s j r conns opening h ph → PhaseFits c s j r conns (Some p) (Put o ∷ h) ph
    phase_opens s j r conns opening p o h none Free f = tt
    phase_opens s j r conns opening p o h none Expecting f = (p, refl)
    phase_opens s j r conns opening p o h none (Lined q) f = f
    phase_opens s j r conns opening p o h none (Holding q id) f = record { conn = f.conn; is_conn = f.is_conn; written = f.written; is_held = f.is_held; its = f.its }
    phase_opens s j r conns opening p o h none Broken f = phase_put c s j r conns opening o h Broken f
    phase_opens s j r conns opening p o h none (BackingOff until) f = phase_put c s j r conns opening o h (BackingOff until) f

    others : (q : ℕ) → is_at Stream s q (Put (OpenStream (reach h) s) ∷ h) ≡ true → m.conns q ≡ None → Some (reach h) ≢ Some q → (reach h ≡ q) ⊎ (reach h ≡ q → ⊥) → is_live (stand q (Put (OpenStream (reach h) s) ∷ h)) ≡ false
    others q e g n (inl is) = absurd (n (ap Some is))
    others q e g n (inr ne) =
        let same = put_same c s q (OpenStream (reach h) s) h (untouched s (reach h) q ne) in
        rw same.stand (kept.others q (rw same.at at e) g (λ z. absurd (cc)))

-- it may be opened
pub may_open : (c : Conf) → (s : ℕ) (past : History) (w pend : What) (fr more : ℕ → List Octets) (m : Multi) (h : History) → Kept c s past w pend fr more m h → m.opening ≡ None → ((p : ℕ) (x : Conn) → m.conns p ≡ Some x → IsFull x) → MayOpenStream s h
may_open c s past w pend fr more m h kept none full = record {
  none_opens = λ p at opening. no_opening p at opening (m.conns p) refl;
  all_full = λ p at alive. all_full p at alive (m.conns p) refl;
}
  where
    not_it : (p : ℕ) → m.opening ≢ Some p
    not_it p e = cc

    no_opening : (p : ℕ) → is_at Stream s p h ≡ true → stand p h ≡ Opening → (z : Option Conn) → m.conns p ≡ z → ⊥
    no_opening p at opening None e = (let z = kept.others p at e (not_it p) in let y : is_live (stand p h) ≡ true = rw opening refl in cc)
    no_opening p at opening (Some x) e = (let z = (kept.conns p x e).alive in let y : Alive ≡ Opening = sym z ∙ opening in cc)

    all_full : (p : ℕ) → is_at Stream s p h ≡ true → stand p h ≡ Alive → (z : Option Conn) → m.conns p ≡ z → id_count ≤ held_with [] p h
    all_full p at alive None e = absurd (let z = kept.others p at e (not_it p) in let y : is_live (stand p h) ≡ true = rw alive refl in cc)
    all_full p at alive (Some x) e = full_before c s p past pend (fr p) (more p) x h (kept.conns p x e) (full p x e)
