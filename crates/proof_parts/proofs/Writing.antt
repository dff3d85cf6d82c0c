-- Octets of the last frame are taken: the rest is to be written, or requests are taken from the queue.
use Rattle.std.proofs.Common.{◌≡◌, ℕ, ◌-◌, ◌<◌, ◌≤◌, Bool, true, false, List, [], length, drop, Option, Some, None, refl, sym, ap, subst, ◌∙◌, arith, length-drop}
use Rattle.std.specs.Prelude.{if◌then◌else◌, ◌==◌, nat_le}
use Rattle.std.proofs.lemmas.Bool.Decides.{nat_tests}
use Rattle.client_request.specs.Requests.{for_one, for_several}
use Rattle.client_request.specs.View.{View, asks}
use Rattle.client_request.specs.declared.error.Error.TheVariants as errors
use Rattle.client_request.specs.declared.fault.Fault.TheVariants as fault
use Rattle.client_request.specs.declared.event.What.TheVariants.{Wrote}
use Rattle.client_request.specs.declared.event.Out.TheVariants.{Resume, Close}
use Rattle.client_stream.specs.Plain.{pumps, wrote, wrote_of, ends_with}
use Rattle.client_settings.specs.Stream.{Settings}
use Rattle.right_trace.specs.Time.{response_timeout}
use Rattle.proof_right.specs.machine.Streams as multi
use Rattle.proof_right.specs.machine.Streams.{Conn, Multi, set_conn, end_at, wrote_on, heard_on, Puts, Nothing, Takes}
use Rattle.right_trace.specs.Updates.{with_at}
use Rattle.proof_parts.specs.PartTie.{Leads}
use Rattle.proof_parts.specs.Connections.{dues, HasPumped, HasWritten, IsHeard, WritesOn, HasRoom, FailsWriting}
use Rattle.proof_parts.specs.Lines.{SingleLine, seats_of, WritingFits, LineFits, IsLineAt}
use Rattle.proof_parts.specs.Lines as lines
use Rattle.proof_parts.specs.Sights.{IsFair}
use Rattle.proof_parts.proofs.Ending.{ends_so}
use Rattle.proof_parts.proofs.Keys.{with_here}
use Rattle.proof_parts.proofs.Pumping.{pumps_so}
use Rattle.right_trace.specs.Trace.{Conf}

module _ (conf : Conf) (server p : ℕ) (settings : Settings) (set : settings.response_timeout ≡ response_timeout conf) (names : ℕ → Option ℕ) (m : Multi) (x : Conn) (s : SingleLine) (v : View) (line : IsLineAt conf p names s m x (dues v) v.ticket) (fair : IsFair v) (settled : s.writing ≡ None → s.queue ≡ []) (heard : x.heard ≡ false) (count : ℕ) where
  abbrev P : SingleLine → View → Type 0
  P t w = HasWritten conf server p names m x s v count t w

  same_place : (q : ℕ) → (q == q) ≡ true
  same_place q = grind (arith, nat_tests)

  -- the line with other octets to write
  line_so : (writing : Option (List ℕ)) → WritingFits writing (x.left - count) → IsLineAt conf p names (record s { writing = writing }) (set_conn p (wrote_on count x) m) (wrote_on count x) (dues v) v.ticket
  line_so writing fits = record {
    conn = with_here p (Some (wrote_on count x)) m.conns;
    seated = line.seated;
    fits = record {
      stage = line.fits.stage;
      writing = fits;
      idle = line.fits.idle;
      timeout = line.fits.timeout;
      resting = line.fits.resting;
      order = line.fits.order;
      few = line.fits.few;
      ids = line.fits.ids;
      queue = line.fits.queue;
    };
  }

  module _ (octets : List ℕ) (is : s.writing ≡ Some octets) (long : length octets ≡ x.left) (some : 0 < x.left) where
    nothing_taken : count ≡ 0 → P (ends_with p (errors.StreamWriteError fault.NothingTaken) s v).0 (ends_with p (errors.StreamWriteError fault.NothingTaken) s v).1
    nothing_taken e =
        let end = ends_so p names m x.ids s v line.seated line.fits.order.sorted line.fits.queue fair (errors.StreamWriteError fault.NothingTaken) (λ e. cc) in
        FailsWriting (subst (λ c. Takes conf v.now m (Wrote p c) (Puts (Close p)) (end_at p m)) (sym e) (multi.ItFails (Wrote p 0) p x line.conn (same_place p))) end refl

    all_taken : length octets ≤ count → Leads P (pumps for_one for_several p settings s.queue (record s { writing = None }) v)
    all_taken le = leads_as (HasPumped conf server p names (set_conn p (wrote_on count x) m) (wrote_on count x) (record s { writing = None }) v) P (pumps for_one for_several p settings s.queue (record s { writing = None }) v)
        (pumps_so conf server p settings set names s.queue (set_conn p (wrote_on count x) m) (wrote_on count x) (record s { writing = None }) v (line_so None (lines.IsFree refl (none_left x.left count (length octets) long le))) fair refl heard)
        (λ t w pumped. HasRoom (multi.AllWritten p count x line.conn some (subst (λ n. n ≤ count) long le)) pumped)
      where
        none_left : (a b l : ℕ) → l ≡ a → l ≤ b → a - b ≡ 0
        none_left a b l e le = omega arith

        leads_as : (P Q : SingleLine → View → Type 0) (o : Option (SingleLine × View)) → Leads P o → ((t : SingleLine) (u : View) → P t u → Q t u) → Leads Q o
        leads_as P Q None l g = tt
        leads_as P Q (Some y) l g = g y.0 y.1 l

    some_taken : count < length octets → P (record s { writing = Some (drop count octets) }) (asks (Resume p (drop count octets)) v)
    some_taken lt = WritesOn (drop count octets) (multi.SomeWritten p count x (drop count octets) line.conn (subst (λ n. count < n) long lt))
        (line_so (Some (drop count octets)) (lines.IsWriting (drop count octets) refl (length-drop count octets ∙ ap (λ n. n - count) long) (rest x.left count (length octets) long lt))) refl refl (λ e. absurd (let z : Some (drop count octets) ≡ None = e in cc))
      where
        rest : (a b l : ℕ) → l ≡ a → b < l → 0 < a - b
        rest a b l e lt = omega arith

    writing_so : Leads P (wrote_of for_one for_several p settings count s v octets)
    writing_so = by (count == 0) (nat_le (length octets) count) refl refl
      where
        zero_of : (n : ℕ) → (n == 0) ≡ true → n ≡ 0
        zero_of n e = grind (arith, nat_tests)

        le_of : (a b : ℕ) → nat_le a b ≡ true → a ≤ b
        le_of a b e = grind (arith, nat_tests)

        lt_of : (a b : ℕ) → nat_le a b ≡ false → b < a
        lt_of a b e = grind (arith, nat_tests)

        by : (a b : Bool) → (count == 0) ≡ a → nat_le (length octets) count ≡ b
            → Leads P (if a then Some (ends_with p (errors.StreamWriteError fault.NothingTaken) s v) else if b then pumps for_one for_several p settings s.queue (record s { writing = None }) v else Some (record s { writing = Some (drop count octets) }, asks (Resume p (drop count octets)) v))
        by true b e f = nothing_taken (zero_of count e)
        by false true e f = all_taken (le_of (length octets) count f)
        by false false e f = some_taken (lt_of (length octets) count f)

  pub wrote_so : Leads P (wrote for_one for_several p settings count s v s.writing)
  wrote_so = by line.fits.writing
    where
      by : WritingFits s.writing x.left → Leads P (wrote for_one for_several p settings count s v s.writing)
      by (lines.IsFree e left) = subst (λ o. Leads P (wrote for_one for_several p settings count s v o)) (sym e) (IsHeard (multi.NothingToWrite p count x line.conn left) refl refl)
      by (lines.IsWriting octets e long some) = subst (λ o. Leads P (wrote for_one for_several p settings count s v o)) (sym e) (writing_so octets e long some)
