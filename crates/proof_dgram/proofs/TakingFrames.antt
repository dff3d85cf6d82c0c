-- What the streams of a fallback do with frames, with an event that is none of the datagrams', or with a timer of theirs.
use Rattle.std.proofs.Common.{◌≡◌, ℕ, suc, ◌<◌, ◌≤◌, inl, inr, true, false, is_some, [], Option, Some, refl, sym, ap, subst, arith}
use Rattle.std.specs.Prelude.{option_and_then}
use Rattle.client_request.specs.Request.{Request}
use Rattle.client_request.specs.Requests.{for_one}
use Rattle.client_request.specs.View.{View, Transport, told, more_at}
use Rattle.client_request.specs.declared.event.What.{What}
use Rattle.client_dgram.specs.Plain as dgram
use Rattle.client_stream.specs.Plain as stream
use Rattle.client_multi.specs.Fallback as fallback
use Rattle.client_multi.specs.Fallback.{onto, with_parts, settles_stream}
use Rattle.right_trace.specs.Trace.{Conf}
use Rattle.proof_right.specs.machine.Dgrams.{Dgrams, no_datagram, IsIgnored}
use Rattle.proof_right.specs.machine.Served.{Served, served}
use Rattle.proof_parts.specs.Chains.{Chain}
use Rattle.proof_parts.specs.PartTie.{Phase, Untold, Told, Leads, Tells, MayLeave}
use Rattle.proof_parts.specs.Sights.{Sight, sight, IsFair, NoneDue}
use Rattle.proof_dgram.specs.AtServer.{with_dgrams}
use Rattle.proof_dgram.specs.Halves.{beside, AreInTime}
use Rattle.proof_dgram.specs.Fallback.{AreStreams, IsFallback, Both, names_in, OwnsEither}
use Rattle.proof_dgram.proofs.BesideStreams.{leads_both, streams_leave}
use Rattle.proof_dgram.proofs.Halves.{streams_move, still_ignored}
use Rattle.proof_dgram.proofs.Known.{slots_are_known}
use Rattle.proof_dgram.proofs.Staying.{openings_are_new}

module _ (b c : Conf) (same_transports : b.transports ≡ c.transports) (s : ℕ) {S : Type 0} (t : Transport Request S stream.Asked) (first : S) (Tied : Phase → S → Sight → Served → Type 0) (names : S → ℕ → Option ℕ) (Owns : S → (timer : ℕ) → Type 0) (y : AreStreams b s t first Tied names Owns) where
  abbrev Two : Type 0
  Two = Both c Tied names Owns s

  abbrev Falls : Phase → Two → Sight → Served → Type 0
  Falls phase f x a = IsFallback c Tied names Owns s phase f x a

  module _ (f : Two) (v : View) (a : Served) (before : Phase) (g : Falls before f (sight v) a) (fair : IsFair v) (early : NoneDue (OwnsEither c Tied names Owns s f) (sight v)) (ignored : IsIgnored c a.pending a.server.by_dgram) (MayBe : (place left : ℕ) → Type 0) where
    abbrev d : Dgrams
    d = a.server.by_dgram

    abbrev alone : Served
    alone = with_dgrams no_datagram a

    below_all : (p n : ℕ) → p < n → n ≤ p → ⊥
    below_all p n lt le = omega arith

    in_time : AreInTime c a.clock d
    in_time = subst (λ n. AreInTime c n d) (sym (y.clock before f.parts.stream (sight v) alone g.streams)) ((slots_are_known c).rests f.parts.dgram.tables d (sight v) g.slots (λ i due own e. early i due (inl own) e)).reading

    apart : (j n : ℕ) → is_some (d.held n) ≡ true → names f.parts.stream j ≡ Some n → ⊥
    apart j n held e = g.apart n held (y.tie.named before f.parts.stream (sight v) alone j n g.streams e).1

    abbrev Streams_tell : S → View → Type 0
    Streams_tell = Tells (served b) Tied names Owns (Chain (served b) s v.place alone) f.parts.stream (onto [] v) MayBe

    abbrev Tell : Two → View → Type 0
    Tell = Tells (served c) (IsFallback c Tied names Owns s) (names_in c Tied names Owns s) (OwnsEither c Tied names Owns s) (Chain (served c) s v.place a) f v MayBe

    tell : (u : S) (x : View) → Streams_tell u x → Tell (record f { parts = (fallback.gives_rest f.server t x.board (record f.parts { stream = u }) (onto v.board x)).0 }) (fallback.gives_rest f.server t x.board (record f.parts { stream = u }) (onto v.board x)).1
    tell u x q =
        let l = q.leaves in
        let after = Told q.at q.left in
        let z = l.made.state in
        let o = streams_move.chain c b same_transports s v.place alone d l.made refl ignored in_time l.may in
        record {
          at = q.at;
          left = q.left;
          may_be = q.may_be;
          more = q.more;
          leaves = streams_leave b c same_transports s t first Tied names Owns y f v d fair g.server g.dgram_server g.settings g.slots (names f.parts.stream) v.ticket g.waiting g.timers apart (Chain (served b) s v.place alone) after u x l l.goes_on.ticket after z
              (subst (Tied after u (sight x)) (ap (λ (e : Dgrams). with_dgrams e z) o.0) l.tied)
              (λ p n at op. elim ((openings_are_new c s v.place a (beside d l.made) o.1).1 p op) [ inl was ↦ g.places p n at was | inr le ↦ below_all p v.place ((slots_are_known c).placed f.parts.dgram.tables d (sight v) p n g.slots at) le ])
              (still_ignored b c same_transports s d v.place alone l.made refl ignored in_time l.may) (λ told i due own e. early i due (inl own) e) (Chain (served c) s v.place a) o.1;
        }

    -- what the streams do is what the fallback does
    pub they_tell : (o : Option (S × View)) → Leads Streams_tell o → Leads Tell (with_parts f (option_and_then (settles_stream f.server (dgram.transport for_one) t [] f.parts v) o))
    they_tell o l = leads_both b c same_transports s t first Tied names Owns y f v d fair g.server g.dgram_server g.settings g.slots (names f.parts.stream) v.ticket g.waiting g.timers apart Streams_tell Tell o l tell

  fair_on : (v : View) → IsFair v → IsFair (onto [] v)
  fair_on v fair = record { order = fair.order; words = fair.words }

  pub takes_one : (f : Two) (v : View) (a : Served) (p n : ℕ) → Falls (Told p (suc n)) f (sight v) a → IsFair v → NoneDue (OwnsEither c Tied names Owns s f) (sight v) → v.more ≡ false
      → Leads (Tells (served c) (IsFallback c Tied names Owns s) (names_in c Tied names Owns s) (OwnsEither c Tied names Owns s) (Chain (served c) s v.place a) f v (λ q left. (q ≡ p) × (left ≤ n))) ((fallback.transport (dgram.transport for_one) t).step (more_at p) f v)
  takes_one f v a p n g fair early calm = they_tell f v a (Told p (suc n)) g fair early g.over (λ q left. (q ≡ p) × (left ≤ n)) (t.step (more_at p) f.parts.stream (onto [] v))
      (y.tie.takes f.parts.stream (onto [] v) (with_dgrams no_datagram a) p n g.streams (fair_on v fair) (λ i due own e. early i due (inr own) e) calm)

  -- an event that is none of the datagrams'
  pub streams_told : (f : Two) (v : View) (a : Served) (w : What) → Falls (Untold w) f (sight v) a → IsFair v → NoneDue (OwnsEither c Tied names Owns s f) (sight v) → v.more ≡ false → IsIgnored c w a.server.by_dgram
      → Leads (Tells (served c) (IsFallback c Tied names Owns s) (names_in c Tied names Owns s) (OwnsEither c Tied names Owns s) (Chain (served c) s v.place a) f v (MayLeave w)) (with_parts f (option_and_then (settles_stream f.server (dgram.transport for_one) t [] f.parts v) (t.step (told w) f.parts.stream (onto [] v))))
  streams_told f v a w g fair early calm ignored = they_tell f v a (Untold w) g fair early (subst (λ w. IsIgnored c w a.server.by_dgram) (sym (y.pending (Untold w) w f.parts.stream (sight v) (with_dgrams no_datagram a) refl g.streams).0) ignored) (MayLeave w) (t.step (told w) f.parts.stream (onto [] v))
      (y.tie.tells f.parts.stream (onto [] v) (with_dgrams no_datagram a) w g.streams (fair_on v fair) (λ i due own e. early i due (inr own) e) calm)
