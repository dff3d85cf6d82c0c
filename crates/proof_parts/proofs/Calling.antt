-- Calls of a connection: a request is queued there, one is given up, and its timer fires.
use Rattle.std.proofs.Common.{◌≡◌, ℕ, ◌+◌, ◌<◌, ◌≤◌, ◌⊎◌, inl, inr, Bool, true, false, [], ◌∷◌, ◌++◌, length, Option, Some, None, refl, sym, ap, subst, ◌∙◌, arith}
use Rattle.std.specs.Prelude.{if◌then◌else◌, is_some, option_and_then, Err}
use Rattle.client_request.specs.Carries.{IsOfOctets}
use Rattle.client_request.specs.Numbered.{puts, frees, entry_at}
use Rattle.client_request.specs.Request.{Request}
use Rattle.client_request.specs.Requests.{for_one, for_several}
use Rattle.client_request.specs.Timers.{can_draw}
use Rattle.client_request.specs.View.{View}
use Rattle.client_request.specs.declared.error.Error.TheVariants as errors
use Rattle.client_stream.specs.IdTable.{removed, inserted_at}
use Rattle.client_stream.specs.Plain.{has_ended, pumps, takes_on, gives_up, gives_up_id, leaves_id as plain_leaves_id}
use Rattle.client_settings.specs.Stream.{Settings}
use Rattle.client_stream.specs.declared.request.AnyRequest.TheVariants.{Single}
use Rattle.client_stream.specs.declared.request.Holder.{Holder}
use Rattle.client_stream.specs.declared.request.Holder.TheVariants.{Waits, GivenUp}
use Rattle.client_stream.specs.declared.request.QueuedRequest.{QueuedRequest}
use Rattle.client_stream.specs.declared.line.LineStage.{LineStage}
use Rattle.right_trace.specs.Time.{response_timeout}
use Rattle.proof_right.specs.machine.Streams.{Mode, Lined, Asker, Conn, Multi, moved, move, drop}
use Rattle.right_trace.specs.Updates.{with_at}
use Rattle.proof_parts.specs.PartTie.{Leads}
use Rattle.proof_parts.specs.Seats.{IsAway, AreSeated}
use Rattle.proof_parts.specs.Connections.{dues, HasPumped, lined_up}
use Rattle.proof_parts.specs.Lines.{SingleLine, Sorted, seats_of, StageFits, IsNew, IsActive, IsIdle, IsLineAt}
use Rattle.proof_parts.specs.Sights.{IsFair}
use Rattle.proof_parts.proofs.FirstKeys.{table}
use Rattle.proof_parts.proofs.Keys.{with_here, with_again}
use Rattle.proof_parts.proofs.Pumping.{pumps_so}
use Rattle.proof_parts.proofs.Seating.{lines_up, leaves_queue, leaves_id}
use Rattle.proof_parts.proofs.Tables.{rises_below, sorted_puts, sorted_frees, puts_path, frees_path, more_by_puts, fewer_by_frees, present_below}
use Rattle.proof_parts.proofs.Taking.{same_seats}
use mathlib.Core.Path.{fun_ext}
use Rattle.right_trace.specs.Trace.{Conf}

up : (n : ℕ) → n ≤ n + 1
up n = omega arith

over : (n : ℕ) → n < n + 1
over n = omega arith

zero_le : (n : ℕ) → 0 ≤ n
zero_le n = omega arith

leads_as : (P Q : SingleLine → View → Type 0) (o : Option (SingleLine × View)) → Leads P o → ((t : SingleLine) (u : View) → P t u → Q t u) → Leads Q o
leads_as P Q None l g = tt
leads_as P Q (Some y) l g = g y.0 y.1 l

-- A line at one of its stages has not ended.
pub is_open : (c : Conf) (d : ℕ → Option ℕ) (idle : ℕ) (own : LineStage) (mode : Mode) → StageFits c d idle own mode → has_ended own ≡ false
is_open c d idle own mode (IsNew e m) = ap has_ended e
is_open c d idle own mode (IsActive timer since e m due) = ap has_ended e
is_open c d idle own mode (IsIdle timer since e m due) = ap has_ended e

module _ (c : Conf) (server p : ℕ) (settings : Settings) (set : settings.response_timeout ≡ response_timeout c) (names : ℕ → Option ℕ) (m : Multi) (x : Conn) (s : SingleLine) (v : View) (line : IsLineAt c p names s m x (dues v) v.ticket) (fair : IsFair v) where
  -- A request that is nowhere is queued, under the next ticket

  module _ (k : ℕ) (a : Asker) (is : m.asks k ≡ Some a) (away : IsAway p (m.asks k)) (new : names v.ticket ≡ None) (alone : (j : ℕ) → names j ≡ Some k → ⊥) (number : v.request ≡ k) (octets : IsOfOctets a.request) (heard : x.heard ≡ false) where
    abbrev waiting : QueuedRequest Request Request
    waiting = record { number = v.request; request = Single a.request }

    abbrev drawn : View
    drawn = record v { ticket = v.ticket + 1 }

    abbrev lined : SingleLine
    lined = lined_up a s v

    pub line_lined : IsLineAt c p (with_at v.ticket (Some k) names) lined (move k a (Lined p) m) x (dues drawn) drawn.ticket
    line_lined = record {
      conn = line.conn;
      seated = subst (AreSeated p (with_at v.ticket (Some k) names))
          (same_seats (record (seats_of s m.asks x.ids) { queue = with_at v.ticket (Some waiting) (table s.queue); asks = with_at k (Some (moved a (Lined p))) m.asks }) (seats_of lined (move k a (Lined p) m).asks x.ids) refl refl (sym (puts_path v.ticket waiting s.queue)) refl refl)
          (lines_up p names (seats_of s m.asks x.ids) v.ticket k waiting (moved a (Lined p)) line.seated away new alone number refl refl octets);
      fits = record {
        stage = line.fits.stage;
        writing = line.fits.writing;
        idle = line.fits.idle;
        timeout = line.fits.timeout;
        resting = line.fits.resting;
        order = line.fits.order;
        few = line.fits.few;
        ids = rises_below (λ (e : ℕ × ℕ). e.0) 0 v.ticket (v.ticket + 1) s.ids (up v.ticket) line.fits.ids;
        queue = sorted_puts v.ticket waiting 0 (v.ticket + 1) s.queue (zero_le v.ticket) (over v.ticket) (rises_below (λ (e : ℕ × QueuedRequest Request Request). e.0) 0 v.ticket (v.ticket + 1) s.queue (up v.ticket) line.fits.queue);
      };
    }

    fair_drawn : IsFair drawn
    fair_drawn = record { order = fair.order; words = fair.words }

    pub queues_so : Leads (HasPumped c server p (with_at v.ticket (Some k) names) (move k a (Lined p) m) x lined drawn) (takes_on for_one for_several p settings (Single a.request) s v)
    queues_so = by (can_draw v.ticket) (has_ended s.stage) (is_open c (dues v) s.idle_time s.stage x.mode line.fits.stage)
      where
        by : (b e : Bool) → e ≡ false → Leads (HasPumped c server p (with_at v.ticket (Some k) names) (move k a (Lined p) m) x lined drawn)
            (option_and_then (λ w. if e then Some (s, record w { board = w.board ++ record { ticket = v.ticket; part = Err errors.ConnectionClosed; is_stale = false } ∷ [] }) else pumps for_one for_several p settings (puts v.ticket waiting s.queue) lined w) (if b then Some drawn else None))
        by false e f = tt
        by true true f = absurd (cc)
        by true false f = pumps_so c server p settings set (with_at v.ticket (Some k) names) (puts v.ticket waiting s.queue) (move k a (Lined p) m) x lined drawn line_lined fair_drawn refl heard

-- One is given up

gone : (p : ℕ) → IsAway p None
gone p = record { lined = λ a e g. (let z : None ≡ Some a = e in cc); holding = λ a d e g. (let z : None ≡ Some a = e in cc) }

module _ (c : Conf) (p : ℕ) (names : ℕ → Option ℕ) (m : Multi) (x : Conn) (s : SingleLine) (v : View) (line : IsLineAt c p names s m x (dues v) v.ticket) (i k : ℕ) (named : names i ≡ Some k) where
  from_queue : (w : QueuedRequest Request Request) → entry_at i s.queue ≡ Some w → IsLineAt c p names (record s { queue = frees i s.queue }) (drop k m) x (dues v) v.ticket
  from_queue w e = record {
    conn = line.conn;
    seated = subst (AreSeated p names)
        (same_seats (record (seats_of s m.asks x.ids) { queue = with_at i None (table s.queue); asks = with_at k None m.asks }) (seats_of (record s { queue = frees i s.queue }) (drop k m).asks x.ids) refl refl (sym (frees_path i 0 v.ticket s.queue line.fits.queue)) refl refl)
        (leaves_queue p names (seats_of s m.asks x.ids) i k w None line.seated e named (gone p));
    fits = record {
      stage = line.fits.stage;
      writing = line.fits.writing;
      idle = line.fits.idle;
      timeout = line.fits.timeout;
      resting = line.fits.resting;
      order = line.fits.order;
      few = line.fits.few;
      ids = line.fits.ids;
      queue = sorted_frees i 0 v.ticket s.queue line.fits.queue;
    };
  }

  from_id : (id : ℕ) (r : Request) → entry_at i s.ids ≡ Some id → entry_at id s.held.held ≡ Some (Waits i r) → IsLineAt c p names (record s { ids = frees i s.ids; held = inserted_at id GivenUp (removed id s.held) }) (drop k m) x (dues v) v.ticket
  from_id id r own at = record {
    conn = line.conn;
    seated = subst (AreSeated p names)
        (same_seats (record { held = with_at id (Some GivenUp) (table s.held.held); ids = with_at i None (table s.ids); queue = table s.queue; asks = with_at k None m.asks; written = x.ids })
        (seats_of (record s { ids = frees i s.ids; held = inserted_at id GivenUp (removed id s.held) }) (drop k m).asks x.ids) (sym held_path) (sym (frees_path i 0 v.ticket s.ids line.fits.ids)) refl refl refl)
        (leaves_id p names (seats_of s m.asks x.ids) i k id r (Some GivenUp) None x.ids line.seated at named (gone p) (λ d ne. refl) (inr (refl, refl)));
    fits = record {
      stage = line.fits.stage;
      writing = line.fits.writing;
      idle = line.fits.idle;
      timeout = line.fits.timeout;
      resting = λ ne. absurd (none (line.fits.resting ne));
      order = record { sorted = sorted_puts id GivenUp 0 s.held.mark (frees id s.held.held) (zero_le id) (present_below id 0 s.held.mark (Waits i r) s.held.held line.fits.order.sorted at) freed; small = line.fits.order.small };
      few = subst (λ n. n ≤ 32768) (sym same_length) line.fits.few;
      ids = sorted_frees i 0 v.ticket s.ids line.fits.ids;
      queue = line.fits.queue;
    };
  }
    where
      freed : Sorted 0 s.held.mark (frees id s.held.held)
      freed = sorted_frees id 0 s.held.mark s.held.held line.fits.order.sorted

      held_path : table (puts id GivenUp (frees id s.held.held)) ≡ with_at id (Some GivenUp) (table s.held.held)
      held_path = puts_path id GivenUp (frees id s.held.held) ∙ (ap (with_at id (Some GivenUp)) (frees_path id 0 s.held.mark s.held.held line.fits.order.sorted) ∙ fun_ext (λ j. with_again id (Some GivenUp) None (table s.held.held) j))

      free : entry_at id (frees id s.held.held) ≡ None
      free = ap (λ (f : ℕ → Option (Holder Request Request)). f id) (frees_path id 0 s.held.mark s.held.held line.fits.order.sorted) ∙ with_here id None (table s.held.held)

      same_length : length (puts id GivenUp (frees id s.held.held)) ≡ length s.held.held
      same_length = more_by_puts id GivenUp (frees id s.held.held) free ∙ fewer_by_frees id (Waits i r) s.held.held at

      none : s.held.held ≡ [] → ⊥
      none e = let z = sym (ap (entry_at id) e) ∙ at in cc

  -- whoever it was, it is no more
  pub gives_up_so : ((w : QueuedRequest Request Request) × (entry_at i s.queue ≡ Some w)) ⊎ ((entry_at i s.queue ≡ None) × (id : ℕ) × (entry_at i s.ids ≡ Some id)) → IsLineAt c p names (gives_up i s) (drop k m) x (dues v) v.ticket
  gives_up_so (inl e) = subst (λ o. IsLineAt c p names (if is_some o then record s { queue = frees i s.queue } else gives_up_id i s (entry_at i s.ids)) (drop k m) x (dues v) v.ticket) (sym e.1) (from_queue e.0 e.1)
  gives_up_so (inr e) =
      let t = line.seated.by_ticket i e.1 e.2 in
      subst (λ o. IsLineAt c p names (if is_some o then record s { queue = frees i s.queue } else gives_up_id i s (entry_at i s.ids)) (drop k m) x (dues v) v.ticket) (sym e.0)
      (subst (λ o. IsLineAt c p names (gives_up_id i s o) (drop k m) x (dues v) v.ticket) (sym e.2)
      (subst (λ o. IsLineAt c p names (record s { ids = frees i s.ids; held = plain_leaves_id e.1 s.held o }) (drop k m) x (dues v) v.ticket) (sym t.1) (from_id e.1 t.0 e.2 t.1)))
