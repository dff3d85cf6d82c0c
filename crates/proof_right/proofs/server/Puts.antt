-- What an out leaves as it is.
use Rattle.std.proofs.Common.{◌≡◌, ℕ, ◌<◌, ◌≤◌, Bool, true, false, inl, inr, Option, Some, None, List, [], ◌∷◌, ◌≢◌, refl, arith, ◌∙◌, ◌==◌}
use Rattle.std.specs.Prelude.{if◌then◌else◌, is_some}
use Rattle.std.proofs.lemmas.Bool.Decides.{nat_tests}
use Rattle.client_request.specs.Request.{Request}
use Rattle.client_request.specs.declared.event.What.{What}
use Rattle.client_request.specs.declared.event.Out.{Out}
use Rattle.client_request.specs.declared.event.Out.TheVariants.{Start, OpenDgram, OpenStream, Send, Write, Resume, Close, Stale, Reply}
use Rattle.client_request.specs.declared.event.Via.TheVariants.{Stream}
use Rattle.right_trace.specs.Trace.{History, Put, Conf}
use Rattle.right_trace.specs.Time.{now}
use Rattle.right_trace.specs.Messages.{Octets}
use Rattle.right_trace.specs.Requests.{start, started, is_start}
use Rattle.right_trace.specs.Places.{is_at, stand, is_live, reach}
use Rattle.proof_right.specs.machine.Streams.{Phase, Free, Expecting, Lined, Holding, Broken, BackingOff, Asker, Conn, Multi}
use Rattle.proof_right.proofs.server.Kept.{PhaseFits, AskFits, OpeningFits, IsBlank, IsToCome, RowFits, Kept}
use Rattle.proof_right.proofs.server.Views.{SameConn, same_conn}

-- an out that opens, writes to or closes place q
abbrev pub touches : (q : ℕ) → Out → Bool
touches q (OpenDgram p s) = p == q
touches q (OpenStream p s) = p == q
touches q (Write p k id o) = p == q
touches q (Close p) = p == q
touches q _ = false

starts_more : (k s : ℕ) (o : Out) (h : History) → started k s Stream h ≡ true → started k s Stream (Put o ∷ h) ≡ true
starts_more k s o h e = go (is_start k s Stream o)
  where
    go : (b : Bool) → is_some (if b then Some (now h) else start k s Stream h) ≡ true
    go true = refl
    go false = e

pub put_same : (c : Conf) → (s q : ℕ) (o : Out) (h : History) → touches q o ≡ false → SameConn c s q h (Put o ∷ h)
put_same c s q (Start k t v) h e = record { stand = refl; at = refl; waiting = λ ms id. refl; idle = λ ms. refl; quiet = λ ms. refl; writing = refl; reading = refl; came = refl; ended = refl; clock = refl; asking = λ k. refl; starts = λ j. starts_more j s (Start k t v) h }
put_same c s q (OpenDgram p t) h e = record { stand = grind (arith, nat_tests); at = grind (arith, nat_tests); waiting = λ ms id. refl; idle = λ ms. refl; quiet = λ ms. refl; writing = refl; reading = refl; came = refl; ended = refl; clock = refl; asking = λ k. refl; starts = λ j. starts_more j s (OpenDgram p t) h }
put_same c s q (OpenStream p t) h e = record { stand = grind (arith, nat_tests); at = grind (arith, nat_tests); waiting = λ ms id. refl; idle = λ ms. refl; quiet = λ ms. rw e refl; writing = refl; reading = refl; came = refl; ended = refl; clock = refl; asking = λ k. refl; starts = λ j. starts_more j s (OpenStream p t) h }
put_same c s q (Send p k i o) h e = record { stand = refl; at = refl; waiting = λ ms id. refl; idle = λ ms. refl; quiet = λ ms. refl; writing = refl; reading = refl; came = refl; ended = refl; clock = refl; asking = λ k. refl; starts = λ j. starts_more j s (Send p k i o) h }
put_same c s q (Write p k i o) h e = record { stand = refl; at = refl; waiting = λ ms id. rw e refl; idle = λ ms. refl; quiet = λ ms. refl; writing = rw e refl; reading = refl; came = refl; ended = refl; clock = refl; asking = λ k. refl; starts = λ j. starts_more j s (Write p k i o) h }
put_same c s q (Resume p o) h e = record { stand = refl; at = refl; waiting = λ ms id. refl; idle = λ ms. refl; quiet = λ ms. refl; writing = refl; reading = refl; came = refl; ended = refl; clock = refl; asking = λ k. refl; starts = λ j. starts_more j s (Resume p o) h }
put_same c s q (Stale l) h e = record { stand = refl; at = refl; waiting = λ ms id. refl; idle = λ ms. refl; quiet = λ ms. refl; writing = refl; reading = refl; came = refl; ended = refl; clock = refl; asking = λ k. refl; starts = λ j. starts_more j s (Stale l) h }
put_same c s q (Close p) h e = record { stand = rw e refl; at = refl; waiting = λ ms id. refl; idle = λ ms. refl; quiet = λ ms. refl; writing = refl; reading = refl; came = refl; ended = refl; clock = refl; asking = λ k. refl; starts = λ j. starts_more j s (Close p) h }
put_same c s q (Reply k x) h e = record { stand = refl; at = refl; waiting = λ ms id. refl; idle = λ ms. refl; quiet = λ ms. refl; writing = refl; reading = refl; came = refl; ended = refl; clock = refl; asking = λ k. refl; starts = λ j. starts_more j s (Reply k x) h }

pub phase_put : (c : Conf) → (s k : ℕ) (r : Request) (conns : ℕ → Option Conn) (opening : Option ℕ) (o : Out) (h : History) (ph : Phase) → PhaseFits c s k r conns opening h ph → PhaseFits c s k r conns opening (Put o ∷ h) ph
phase_put c s k r conns opening o h Free f = tt
phase_put c s k r conns opening o h Expecting f = f
phase_put c s k r conns opening o h (Lined q) f = f
phase_put c s k r conns opening o h (Holding q id) f = record { conn = f.conn; is_conn = f.is_conn; written = f.written; is_held = f.is_held; its = f.its }
phase_put c s k r conns opening o h Broken (inl e) = inl e
phase_put c s k r conns opening o h Broken (inr e) = inr (inr e)
phase_put c s k r conns opening o h (BackingOff until) (inl e) = inl e
phase_put c s k r conns opening o h (BackingOff until) (inr e) = inr (inr e)

-- a request that the out neither answers nor starts
pub ask_put : (c : Conf) → (s k : ℕ) (a : Asker) (conns conns' : ℕ → Option Conn) (opening opening' : Option ℕ) (o : Out) (h : History) → is_start k s Stream o ≡ false → PhaseFits c s k a.request conns' opening' (Put o ∷ h) a.phase
    → AskFits c s k a conns opening h → AskFits c s k a conns' opening' (Put o ∷ h)
ask_put c s k a conns conns' opening opening' o h g ph f = record { asked = f.asked; since = rw g f.since; phase = ph }

blank_same : (c : Conf) → (s q : ℕ) (w : What) (h h' : History) → SameConn c s q h h' → IsBlank c q w h → IsBlank c q w h'
blank_same c s q w h h' same b = record {
  waiting = λ ms id. same.waiting ms id ∙ b.waiting ms id;
  wanted = rw same.writing b.wanted;
  takes = rw same.writing b.takes;
  idle = same.idle [] ∙ b.idle;
  reading = same.reading ∙ b.reading;
  came = same.came ∙ b.came;
}

pub opening_put : (c : Conf) → (s q : ℕ) (past : History) (w pend : What) (o : Out) (h : History) → touches q o ≡ false → OpeningFits c s q past w pend h → OpeningFits c s q past w pend (Put o ∷ h)
opening_put c s q past w pend o h e f =
    let same = put_same c s q o h e in
    record { fails = λ g e. inr (f.fails g e); stand = same.stand ∙ f.stand; at = same.at ∙ f.at; blank = blank_same c s q w h (Put o ∷ h) same f.blank }

pub to_come_put : (c : Conf) → (s q : ℕ) (past : History) (w : What) (m m' : Multi) (o : Out) (h : History) → touches q o ≡ false → m'.conns q ≡ m.conns q → IsToCome c q past w m h → IsToCome c q past w m' (Put o ∷ h)
to_come_put c s q past w m m' o h e g f =
    let same = put_same c s q o h e in
    record { was = f.was; unheld = g ∙ f.unheld; stand = same.stand ∙ f.stand; nowhere = same.at ∙ f.nowhere; blank = blank_same c s q w h (Put o ∷ h) same f.blank }

pub row_put : (past : History) (w : What) (o : Out) (h : History) → RowFits past w h → RowFits past w (Put o ∷ h)
row_put past w o h f = record { before = f.before; event = f.event; came = f.came }

pub reach_put : (o : Out) (h : History) → reach h ≤ reach (Put o ∷ h)
reach_put (Start k t v) h = omega arith
reach_put (OpenDgram p t) h = grind arith
reach_put (OpenStream p t) h = grind arith
reach_put (Send p k i o) h = omega arith
reach_put (Write p k i o) h = omega arith
reach_put (Resume p o) h = omega arith
reach_put (Stale l) h = omega arith
reach_put (Close p) h = omega arith
reach_put (Reply k x) h = omega arith

-- An out that is about nothing that the connections of server s have.
pub record IsForeignOut (s : ℕ) (m : Multi) (o : Out) (h : History) : Type 0 where
  pub conns : (q : ℕ) (x : Conn) → m.conns q ≡ Some x → touches q o ≡ false
  pub opening : (q : ℕ) → m.opening ≡ Some q → touches q o ≡ false
  pub below : (q : ℕ) → touches q o ≡ true → q < reach (Put o ∷ h)
  pub asks : (k : ℕ) (a : Asker) → m.asks k ≡ Some a → is_start k s Stream o ≡ false
  pub elsewhere : (q : ℕ) → touches q o ≡ true → is_at Stream s q (Put o ∷ h) ≡ true → is_live (stand q (Put o ∷ h)) ≡ false

pub kept_put : (c : Conf) → (s : ℕ) (past : History) (w pend : What) (fr more : ℕ → List Octets) (m : Multi) (o : Out) (h : History) → IsForeignOut s m o h → Kept c s past w pend fr more m h → Kept c s past w pend fr more m (Put o ∷ h)
kept_put c s past w pend fr more m o h out kept = record {
  row = row_put past w o h kept.row;
  asks = λ k a e. (let f = kept.asks k a e in let g = out.asks k a e in ask_put c s k a m.conns m.conns m.opening m.opening o h g (phase_put c s k a.request m.conns m.opening o h a.phase f.phase) f);
  conns = λ q x e. same_conn c s q past pend (fr q) (more q) x h (Put o ∷ h) (put_same c s q o h (out.conns q x e)) (kept.conns q x e);
  owners = kept.owners;
  opening = λ q e. opening_put c s q past w pend o h (out.opening q e) (kept.opening q e);
  apart = kept.apart;
  others = λ q e g n. (others q e g n (touches q o) refl);
  to_come = λ q le. to_come_put c s q past w m m o h (untouched q le (touches q o) refl) refl (kept.to_come q (let r = reach_put o h in omega arith));
  below = λ q e. (let i = kept.below q e in let r = reach_put o h in omega arith);
  calm = λ lt. inr (kept.calm lt);
  late = kept.late;
}
  where
    others : (q : ℕ) → is_at Stream s q (Put o ∷ h) ≡ true → m.conns q ≡ None → m.opening ≢ Some q → (b : Bool) → touches q o ≡ b → is_live (stand q (Put o ∷ h)) ≡ false
    others q e g n true t = out.elsewhere q t e
    others q e g n false t =
        let same = put_same c s q o h t in
        rw same.stand (kept.others q (rw same.at at e) g n)

    untouched : (q : ℕ) → reach (Put o ∷ h) ≤ q → (b : Bool) → touches q o ≡ b → touches q o ≡ false
    untouched q le true t = absurd (let i = out.below q t in omega arith)
    untouched q le false t = t
