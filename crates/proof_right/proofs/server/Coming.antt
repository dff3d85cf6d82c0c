-- A frame for a request comes for it on its exchange.
use Rattle.std.proofs.Common.{◌≡◌, ℕ, ◌+◌, ◌<◌, Bool, true, false, inl, inr, Option, Some, None, List, [], ◌∷◌, ◌++◌, refl, arith, ◌∙◌, sym, subst, ap, ◌==◌, length}
use Rattle.std.specs.Prelude.{if◌then◌else◌}
use Rattle.std.proofs.lemmas.Bool.{and_parts}
use Rattle.std.proofs.lemmas.Bool.Decides.{nat_tests}
use Rattle.client_request.specs.Request.{Request}
use Rattle.client_request.specs.declared.event.What.{What}
use Rattle.client_request.specs.declared.event.What.TheVariants.{Bytes, Tick}
use Rattle.client_request.specs.declared.event.Out.{Out}
use Rattle.client_request.specs.declared.event.Out.TheVariants.{Start, OpenDgram, OpenStream, Send, Write, Resume, Close, Stale, Reply}
use Rattle.client_request.specs.declared.event.Via.{Via}
use Rattle.client_request.specs.declared.event.Via.TheVariants.{Dgram, Stream}
use Rattle.right_trace.specs.Trace.{History, Conf, Came, Put, put_all}
use Rattle.right_trace.specs.Time.{now, newest, row_before, stream_timeout}
use Rattle.right_trace.specs.Messages.{Octets, answers, id_in}
use Rattle.right_trace.specs.Requests.{asking, is_ask, replied, start}
use Rattle.right_trace.specs.Places.{Site, site, site_on, is_of_kind, Stand, Unused, Opening, Alive, Gone, stand, is_alive}
use Rattle.right_trace.specs.Frames.{came, is_alive_stream, is_bad, brings, first_with}
use Rattle.right_trace.specs.Writes.{Written, IsWritten, waiting_with}
use Rattle.right_trace.specs.Exchanges.{octets_for, is_before, IsAmong, Comes}
use Rattle.right_trace.specs.Coming.{CameFor}
use Rattle.right_trace.specs.Causes.{ServerCause, WrongReply}
use Rattle.proof_right.specs.machine.Streams.{Asker, Conn, Multi}
use Rattle.proof_right.proofs.server.Kept.{stream_site, listed, ConnFits, Kept}
use Rattle.proof_right.proofs.server.FrameLaws.{waits_none, waits_before, first_is}
use Rattle.client_request.specs.declared.error.Error.TheVariants as errors

pub asking_past : (k : ℕ) (h : History) → is_ask (newest h) ≡ false → asking k (row_before h) ≡ asking k h
asking_past k [] e = refl
asking_past k (Came w ∷ h) e = rw e refl
asking_past k (Put o ∷ h) e = asking_past k h e

pub replied_past : (k : ℕ) (h : History) → replied k h ≡ false → replied k (row_before h) ≡ false
replied_past k [] e = refl
replied_past k (Came w ∷ h) e = e
replied_past k (Put o ∷ h) e = replied_past k h (grind arith)

pub site_kept : (p : ℕ) (o : Out) (z : Site) → site_on p o (Some z) ≡ Some z
site_kept p (Start k s v) z = refl
site_kept p (OpenDgram q s) z = go (q == p)
  where
    go : (b : Bool) → (if b then Some z else Some z) ≡ Some z
    go true = refl
    go false = refl
site_kept p (OpenStream q s) z = go (q == p)
  where
    go : (b : Bool) → (if b then Some z else Some z) ≡ Some z
    go true = refl
    go false = refl
site_kept p (Send q k i o) z = refl
site_kept p (Write q k i o) z = refl
site_kept p (Resume q o) z = refl
site_kept p (Stale l) z = refl
site_kept p (Close q) z = refl
site_kept p (Reply k x) z = refl

-- a stream place stays one
pub kind_on : (p : ℕ) (o : Out) (z : Option Site) → is_of_kind Stream z ≡ true → is_of_kind Stream (site_on p o z) ≡ true
kind_on p o None e = absurd (cc)
kind_on p o (Some z) e = subst (λ x. is_of_kind Stream x ≡ true) (sym (site_kept p o z)) e

pub kind_all : (p : ℕ) (outs : List Out) (h : History) → is_of_kind Stream (site p h) ≡ true → is_of_kind Stream (site p (put_all outs h)) ≡ true
kind_all p [] h e = e
kind_all p (o ∷ outs) h e = kind_all p outs (Put o ∷ h) (kind_on p o (site p h) e)

pub site_past : (p : ℕ) (z : Site) (h : History) → site p (row_before h) ≡ Some z → site p h ≡ Some z
site_past p z [] e = e
site_past p z (Came w ∷ h) e = e
site_past p z (Put o ∷ h) e = ap (site_on p o) (site_past p z h e) ∙ site_kept p o z

-- a place to which octets bring a frame is an alive stream place
brought : (p : ℕ) (o : Octets) (past : History) (f : Octets) (fr more : List Octets) → fr ++ f ∷ more ≡ came p (Bytes p o) past → is_alive_stream p past ≡ true
brought p o past f fr more e = go (is_alive_stream p past) refl
  where
    none : (fr : List Octets) → fr ++ f ∷ more ≡ [] → ⊥
    none [] e = cc
    none (m ∷ ms) e = cc

    go : (b : Bool) → is_alive_stream p past ≡ b → is_alive_stream p past ≡ true
    go true e' = e'
    go false e' = absurd (none fr (e ∙ (let same : (p == p) ≡ true = grind (arith, nat_tests) in rw (e', same) refl)))

alive_is : (x : Stand) → is_alive x ≡ true → x ≡ Alive
alive_is Unused e = absurd (cc)
alive_is Opening e = absurd (cc)
alive_is Alive e = refl
alive_is Gone e = absurd (cc)

via_is : (v : Via) (s : ℕ) → is_of_kind Stream (Some (record { via = v; server = s })) ≡ true → v ≡ Stream
via_is Dgram s e = absurd (cc)
via_is Stream s e = refl

-- the place was there before the row
site_was : (s p : ℕ) (past h : History) → row_before h ≡ past → is_of_kind Stream (site p past) ≡ true → site p h ≡ Some (stream_site s) → site p past ≡ Some (stream_site s)
site_was s p past h before kind at = go (site p past) refl
  where
    go : (z : Option Site) → site p past ≡ z → site p past ≡ Some (stream_site s)
    go None e = absurd (let x : is_of_kind Stream None ≡ true = rw e at kind in cc)
    go (Some z) e = (let x = site_past p z h (ap (site p) before ∙ e) in e ∙ (sym x ∙ at))

-- it is among what was written for its request
pub octets_among : (k : ℕ) (y : Written) (ws : List Written) → y.request ≡ k → IsWritten y ws → IsAmong y.octets (octets_for k ws)
octets_among k y [] its i = absurd i
octets_among k y (w ∷ ws) its (inl e) = (let t : (w.request == k) ≡ true = grind (arith, nat_tests) in rw t (inl (ap (λ w. w.octets) e)))
octets_among k y (w ∷ ws) its (inr i) = go (octets_among k y ws its i) (w.request == k) refl
  where
    go : IsAmong y.octets (octets_for k ws) → (b : Bool) → (w.request == k) ≡ b → IsAmong y.octets (octets_for k (w ∷ ws))
    go rest true e = rw e (inr rest)
    go rest false e = rw e rest

pub frame_comes : (c : Conf) (s : ℕ) (past : History) (p : ℕ) (o : Octets) (fr more : ℕ → List Octets) (m : Multi) (h : History) (x : Conn) (f : Octets) (rest : List Octets) (y : Written) (a : Asker) → s < length c.servers → Kept c s past (Bytes p o) Tick fr more m h
    → m.conns p ≡ Some x → more p ≡ f ∷ rest → is_bad f ≡ false → x.ids (id_in f) ≡ Some y → m.asks y.request ≡ Some a → now h < a.since + stream_timeout c → replied y.request past ≡ false → Comes c a.request Stream s p y.request (id_in f) f past (Bytes p o) h
frame_comes c s past p o fr more m h x f rest y a known kept conn comes good held is_ask' early unreplied =
    let fits : ConnFits c s p past Tick (fr p) (f ∷ rest) x h = subst (λ l. ConnFits c s p past Tick (fr p) l x h) comes (kept.conns p x conn) in
    let k = y.request in
    let asks = kept.asks k a is_ask' in
    let row = kept.row in
    let here : fr p ++ f ∷ rest ≡ came p (Bytes p o) past = fits.frames ∙ row.came p in
    let alive = brought p o past f (fr p) rest here in
    let parts = and_parts (is_alive (stand p past)) (is_of_kind Stream (site p past)) alive in
    let was = site_was s p past h row.before parts.1 fits.at in
    let no_ask : is_ask (newest h) ≡ false = ap is_ask row.event in
    let asked : asking k past ≡ Some (record { request = a.request; moment = asks.asked.0 }) = ap (asking k) (sym row.before) ∙ (asking_past k h no_ask ∙ asks.asked.1) in
    let wait : waiting_with (fr p) p (id_in f) h ≡ y ∷ [] = fits.ids (id_in f) ∙ ap listed held in
    let i : IsWritten y (waiting_with (fr p) p (id_in f) h) = rw wait (inl refl) in
    let among = octets_among k y (waiting_with [] p (id_in f) h) refl (waits_before (fr p) p (id_in f) y h i) in
    let before : is_before c (now h) (start k s Stream h) ≡ true = (let t = asks.since in grind (arith, nat_tests)) in
    let unbrought : brings (id_in f) (fr p) ≡ false = not_brought wait in
    record {
      is_open = record {
        stands = record { asked = (asks.asked.0, asked); waiting = unreplied; alive = alive_is (stand p past) parts.0; at = was; known = known };
        octets = y.octets;
        sent = rw before among;
        carries = fits.carries (id_in f) y (record { request = a.request; moment = asks.asked.0 }) held asks.asked.1;
      };
      first = ap (first_with (id_in f)) (sym here) ∙ first_is (id_in f) (fr p) f rest fits.good unbrought good refl;
    }
  where
    not_brought : waiting_with (fr p) p (id_in f) h ≡ y ∷ [] → brings (id_in f) (fr p) ≡ false
    not_brought e = go (brings (id_in f) (fr p)) refl
      where
        go : (b : Bool) → brings (id_in f) (fr p) ≡ b → brings (id_in f) (fr p) ≡ false
        go true g = absurd (let z = sym e ∙ waits_none (fr p) p (id_in f) h g in cc)
        go false g = g

-- a message that comes by stream and answers is right as a reply, and one that does not is the cause of its error
pub is_fresh : (c : Conf) (s p k id : ℕ) (r : Request) (f : Octets) (past : History) (w : What) (h : History) → Comes c r Stream s p k id f past w h → answers r id f ≡ true → CameFor c k f past w h
is_fresh c s p k id r f past w h comes ok = record { request = r; via = Stream; server = s; place = p; id = id; matches = record { comes = comes; agrees = ok; whole = refl } }

pub is_wrong : (c : Conf) (s p k id : ℕ) (r : Request) (f : Octets) (past : History) (w : What) (h : History) → Comes c r Stream s p k id f past w h → answers r id f ≡ false → ServerCause c k past w h errors.WrongReplyForQuery
is_wrong c s p k id r f past w h comes ne = WrongReply (record { request = r; server = s; place = p; id = id; message = f; comes = comes; differs = ne })
