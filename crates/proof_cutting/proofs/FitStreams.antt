-- A server by streams that is tied, where a row may end, is fit to be called, and no whole frame stands there.
use Rattle.std.proofs.Common.{◌≡◌, ◌≢◌, ℕ, ◌+◌, Bool, true, false, is_some, if◌then◌else◌, List, [], ◌∷◌, length, Option, Some, None, refl, sym, ap, subst, ◌∙◌, arith}
use Rattle.std.specs.Prelude.{option_and_then, slice_range, ◌==◌, ◌&&◌, not}
use Rattle.client_request.specs.Numbered.{entry_at}
use Rattle.client_request.specs.Request.{Request}
use Rattle.client_stream.specs.Frames.{body_size, has_frame}
use Rattle.client_stream.specs.Plain.{has_ended, timer_at}
use Rattle.client_stream.specs.declared.line.LineStage.{LineStage}
use Rattle.client_stream.specs.declared.line.LineStage.TheVariants as stage
use Rattle.client_multi.specs.Links.{Link}
use Rattle.right_trace.specs.Frames.{Reading}
use Rattle.right_trace.specs.Messages.{Octets}
use Rattle.proof_right.specs.machine.Served.{Served}
use Rattle.proof_right.specs.machine.Streams.{Conn, Multi, Mode}
use Rattle.proof_parts.specs.Connections.{timer_of}
use Rattle.proof_parts.specs.Lines.{StageFits, IsNew, IsActive, IsIdle}
use Rattle.proof_parts.specs.Octets.{IsLinkAt}
use Rattle.proof_parts.specs.PartTie.{Phase, Untold, Told, Passed, MayEnd}
use Rattle.proof_parts.specs.Reading.{Keeps}
use Rattle.proof_parts.specs.Sights.{Sight}
use Rattle.proof_parts.proofs.FrameReads.{kept_is_read}
use Rattle.proof_multi.specs.Servers.{Desk, desk_of, names_at, LinkFits, IsNone, IsSome}
use Rattle.proof_multi.specs.Tied.{IsStream, TiedAs, frames_at}
use Rattle.proof_multi.proofs.Fields.{stream_of, frames_none}
use Rattle.proof_cutting.specs.Pieces.{stands}
use Rattle.proof_cutting.specs.Standing.{Streams, link_octets, stream_octets, AreFit, IsFitStream}
use Rattle.right_trace.specs.Trace.{Conf}

-- What holds of a transport where a row may end: it is fit to be called; at no place a whole frame stands; and a place where octets can stand is one that the machine has.
pub record RestsFit (IsFit : Type 0) (octets : (place : ℕ) → Option (List ℕ)) (has : (place : ℕ) → Bool) : Type 0 where
  pub fit : IsFit
  pub none : (p : ℕ) → stands (octets p) ≡ false
  pub there : (p : ℕ) → octets p ≢ None → has p ≡ true

-- where no frame is left to be taken, none stands
no_frame : (octets : List ℕ) (frames : List Octets) (got : Reading) → Keeps octets frames got → frames ≡ [] → has_frame octets ≡ false
no_frame octets frames got k none = by (has_frame octets) refl
  where
    by : (b : Bool) → has_frame octets ≡ b → b ≡ false
    by false e = refl
    by true e =
        let f = kept_is_read.some octets (slice_range octets 2 (2 + body_size octets)) frames got k (ap (λ (b : Bool). if b then Some (slice_range octets 2 (2 + body_size octets)) else None) e) in
        absurd (let z : [] ≡ slice_range octets 2 (2 + body_size octets) ∷ f.0 = sym none ∙ f.1 in cc)

not_ended : (conf : Conf) (dues : ℕ → Option ℕ) (idle : ℕ) (at : LineStage) (mode : Mode) → StageFits conf dues idle at mode → has_ended at ≡ false
not_ended conf dues idle at mode (IsNew e m) = ap has_ended e
not_ended conf dues idle at mode (IsActive timer since e m due) = ap has_ended e
not_ended conf dues idle at mode (IsIdle timer since e m due) = ap has_ended e

same_timer : (at : LineStage) → timer_of at ≡ timer_at at
same_timer stage.New = refl
same_timer (stage.Active timer since) = refl
same_timer (stage.Idle timer) = refl
same_timer stage.Ended = refl

none_of : (fs : List Octets) → length fs ≡ 0 → fs ≡ []
none_of [] e = refl
none_of (f ∷ fs) e = absurd (omega arith)

module _ (conf : Conf) (s : ℕ) where
  -- no frame is left
  none_left : (phase : Phase) (u : Streams) (x : Sight) (a : Served) → MayEnd phase → TiedAs conf s phase u x a → a.frames ≡ []
  none_left (Untold w) u x a end t = t.frames
  none_left (Told p n) u x a end t = none_of a.frames (t.count ∙ end)
  none_left (Passed w) u x a end t = t.untold.frames

  module _ (u : Streams) (x : Sight) (a : Served) (i : IsStream conf s u x a) (left : a.frames ≡ []) where
    abbrev d : Desk
    d = desk_of u.tables

    abbrev m : Multi
    m = a.server.by_stream

    none_at : (p : ℕ) → frames_at a.place a.frames p ≡ []
    none_at p = ap (λ (fs : List Octets). frames_at a.place fs p) left ∙ frames_none conf s a.place p

    -- the connection that is there for both
    link_of : (p : ℕ) (l : Link Request) → entry_at p u.tables.connections ≡ Some l → LinkFits conf d m (frames_at a.place a.frames) x.dues x.ticket p → (y : Conn) × IsLinkAt conf p (names_at d) l m y (frames_at a.place a.frames p) x.dues x.ticket
    link_of p l at (IsNone b c away) = absurd (let z : None ≡ Some l = sym b ∙ at in cc)
    link_of p l at (IsSome k y b link) = (y, subst (λ (k : Link Request). IsLinkAt conf p (names_at d) k m y (frames_at a.place a.frames p) x.dues x.ticket) (let z : Some k ≡ Some l = sym b ∙ at in cc) link)

    are_fit : AreFit u.tables x.timer
    are_fit = record {
      connections = (x.place, i.order.connections);
      watches = i.order.watches;
      placed = λ p l at. (let k = link_of p l at (i.ties.links p) in (k.1.place, not_ended conf x.dues l.line.idle_time l.line.stage (k.0).mode k.1.line.fits.stage));
      watched = λ p l timer at of. (i.ties.watched p l timer at (same_timer l.line.stage ∙ of)).0;
    }

    none_stands : (p : ℕ) → stands (stream_octets p u) ≡ false
    none_stands p = by (entry_at p u.tables.connections) refl
      where
        of_link : (l : Link Request) (b : Bool) → has_frame l.octets ≡ false → stands (if b then Some l.octets else None) ≡ false
        of_link l true none = none
        of_link l false none = refl

        by : (o : Option (Link Request)) → entry_at p u.tables.connections ≡ o → stands (option_and_then (link_octets p) o) ≡ false
        by None at = refl
        by (Some l) at =
            let k = link_of p l at (i.ties.links p) in
            of_link l ((l.place == p) && not (has_ended l.line.stage)) (no_frame l.octets (frames_at a.place a.frames p) (k.0).got k.1.keeps (none_at p))

    is_there : (p : ℕ) → stream_octets p u ≢ None → is_some (m.conns p) ≡ true
    is_there p some = by (entry_at p u.tables.connections) refl
      where
        by : (o : Option (Link Request)) → entry_at p u.tables.connections ≡ o → is_some (m.conns p) ≡ true
        by None at = absurd (some (ap (option_and_then (link_octets p)) at))
        by (Some l) at = ap is_some (link_of p l at (i.ties.links p)).1.line.conn

    fit_stream : IsFitStream u x.timer
    fit_stream = record { tables = are_fit; takes = i.takes }

    rests_fit : RestsFit (IsFitStream u x.timer) (λ p. stream_octets p u) (λ p. is_some (m.conns p))
    rests_fit = record { fit = fit_stream; none = none_stands; there = is_there }

  pub streams_rest_fit : (phase : Phase) (u : Streams) (x : Sight) (a : Served) → MayEnd phase → TiedAs conf s phase u x a → RestsFit (IsFitStream u x.timer) (λ p. stream_octets p u) (λ p. is_some (a.server.by_stream.conns p))
  streams_rest_fit phase u x a end t = rests_fit u x a (stream_of conf s phase u x a t) (none_left phase u x a end t)
