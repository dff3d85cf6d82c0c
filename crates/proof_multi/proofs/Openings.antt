-- A place opens, or does not: each who waited for it is handed on, or backs off.
use Rattle.std.proofs.Common.{◌≡◌, ℕ, ◌+◌, ◌<◌, ◌≤◌, inl, inr, false, List, [], Some, None, refl, sym, ap, subst, ◌∙◌, arith, le_refl}
use Rattle.client_request.specs.Numbered.{puts, entry_at}
use Rattle.client_request.specs.Request.{Request}
use Rattle.client_request.specs.Requests.{for_one}
use Rattle.client_request.specs.View.{View, drawn, word}
use Rattle.client_stream.specs.Plain.{started}
use Rattle.right_settings.specs.Given.{stream_of}
use Rattle.client_multi.specs.Links.{Link, one_stream}
use Rattle.client_multi.specs.MultiStream.{opened, refused, each, hands, backs_off}
use Rattle.client_multi.specs.Retry.{retry_time}
use Rattle.right_trace.specs.Frames.{Length}
use Rattle.right_trace.specs.Messages.{Octets}
use Rattle.right_trace.specs.Time.{response_timeout, idle_timeout, back_off}
use Rattle.proof_right.specs.machine.Streams.{Free, Broken, Asker, Conn, Multi, new_conn, open_at, not_opened}
use Rattle.proof_parts.specs.Connections.{timer_of, dues}
use Rattle.proof_parts.specs.Lines.{IsNew, IsFree as IsUnwritten}
use Rattle.proof_parts.specs.Octets.{IsLinkAt}
use Rattle.proof_parts.specs.PartTie.{Leads}
use Rattle.proof_parts.specs.Reading.{Keeps}
use Rattle.proof_parts.specs.Seats.{IsAway, IsFree}
use Rattle.proof_parts.proofs.Keys.{with_here, with_there, each_number}
use Rattle.proof_parts.proofs.Tables.{sorted_puts}
use Rattle.proof_parts.proofs.Waits.{back_off_is_short}
use Rattle.proof_multi.specs.Servers.{Desk, Server, desk_of, names_at, UnderWay, nothing_under_way, LinkFits, IsNone, IsSome, AreTables, NoneHeard, Owns, Stands}
use Rattle.proof_multi.proofs.Desks.{names_apart}
use Rattle.proof_multi.proofs.Going.{Went, GoesOnAs, each_goes, leads_as}
use Rattle.proof_multi.proofs.Hands.{puts_here, puts_there, same_link}
use Rattle.proof_multi.proofs.Holding.{hands_so}
use Rattle.proof_multi.proofs.Opening.{all_as, as_loose, away_still, kept_open, opens_so}
use Rattle.proof_multi.proofs.Resting.{rests_so}
use Rattle.right_trace.specs.Trace.{Conf}

module _ (c : Conf) (server : ℕ) (frames : ℕ → List Octets) where
  hands_each : GoesOnAs c server frames Free (hands (one_stream for_one) server)
  hands_each t job ts s m v st below once quiet = hands_so c server frames t job (all_as Free ts) s m v st below (λ phase l. once (as_loose t phase Free ts l).0) quiet

  rests_each : GoesOnAs c server frames Broken backs_off
  rests_each t job ts s m v st below once quiet = rests_so c server frames t job Broken (all_as Broken ts) [] s m v st below (λ phase l. once (as_loose t phase Broken ts l).0) (inl refl)

  module _ (s : Server) (m : Multi) (v : View) (st : Stands c nothing_under_way (desk_of s) s m frames v) (p : ℕ) (opening : s.opening ≡ Some p) (quiet : NoneHeard m) where
    abbrev d : Desk
    d = desk_of s

    nobody : (k : ℕ) → IsAway p (m.asks k)
    nobody = by (st.server.links p)
      where
        by : LinkFits c d m frames (dues v) v.ticket p → (k : ℕ) → IsAway p (m.asks k)
        by (IsNone a b away) = away
        by (IsSome l x at link) = λ k. absurd (let z : None ≡ Some l = sym (st.order.opening p opening).1 ∙ at in cc)

    -- It opens
    module _ (several : ℕ) (no_frames : frames p ≡ []) where
      abbrev to : Server
      to = opened (one_stream for_one) server (stream_of several c) p s

      abbrev n : Multi
      n = open_at c p m

      abbrev link : Link Request
      link = started p (stream_of several c)

      abbrev z : UnderWay
      z = record { todo = all_as Free s.waiting; failed = [] }

      least : (n : ℕ) → 0 ≤ n
      least n = omega arith

      tables : AreTables c z (desk_of to) n (dues v)
      tables = opens_so c Free (inl refl) d (desk_of to) m n frames (dues v) (dues v) v.ticket st.server.tables refl refl refl refl (λ k. refl) (λ i. refl) refl (least m.calm)

      away_here : (k : ℕ) (a : Asker) → n.asks k ≡ Some a → IsAway p (n.asks k)
      away_here k a at = away_still c Free (inl refl) p (m.asks k) (nobody k)

      new_link : IsLinkAt c p (names_at (desk_of to)) link n (new_conn c) (frames p) (dues v) v.ticket
      new_link = record {
        place = refl;
        timeout = refl;
        line = record {
          conn = with_here p (Some (new_conn c)) m.conns;
          seated = record {
            at_id = λ id. IsFree refl refl;
            by_ticket = λ i id e. absurd (let q : None ≡ Some id = e in cc);
            queued = λ i w e. absurd (let q : None ≡ Some w = e in cc);
            lined = λ k a e f. absurd ((away_here k a e).lined a e f);
            holding = λ k a id e f. absurd ((away_here k a e).holding a id e f);
            apart = names_apart (desk_of to) tables.apart tables.inner;
          };
          fits = record {
            stage = IsNew refl refl;
            writing = IsUnwritten refl refl;
            idle = refl;
            timeout = refl;
            resting = λ ne. refl;
            order = record { sorted = tt; small = omega arith };
            few = omega arith;
            ids = tt;
            queue = tt;
          };
        };
        settled = λ e. refl;
        keeps = subst (λ fs. Keeps [] fs Length) (sym no_frames) refl;
      }

      stands : Stands c z (desk_of to) to n frames v
      stands = record {
        server = record {
          tables = tables;
          links = λ q. each_number (LinkFits c (desk_of to) n frames (dues v) v.ticket) p (IsSome link (new_conn c) (puts_here p link s.connections) new_link)
              (λ q ne. kept_open c Free (inl refl) d (desk_of to) m n frames (dues v) (dues v) v.ticket st.server.tables refl refl refl refl (λ k. refl) (λ i. refl) refl (least m.calm) q (puts_there p link s.connections q ne) (with_there p (Some (new_conn c)) m.conns q ne) (st.server.links q)) q;
          watched = λ q l i at own. each_number (λ q. (l : Link Request) → entry_at q (puts p link s.connections) ≡ Some l → timer_of l.line.stage ≡ Some i → (entry_at i s.watches ≡ Some q) × (entry_at i s.timers ≡ None)) p
              (λ l at own. absurd (let e : link ≡ l = same_link (entry_at p (puts p link s.connections)) link l (puts_here p link s.connections) at in let q : None ≡ Some i = ap (λ (l : Link Request). timer_of l.line.stage) e ∙ own in cc))
              (λ q ne l at own. st.server.watched q l i (sym (puts_there p link s.connections q ne) ∙ at) own) q l at own;
        };
        order = record {
          jobs = st.order.jobs;
          timers = st.order.timers;
          inner = st.order.inner;
          waiting = tt;
          connections = sorted_puts p link 0 v.place s.connections (least p) (st.order.opening p opening).0 st.order.connections;
          watches = st.order.watches;
          opening = λ q e. absurd (let z : None ≡ Some q = e in cc);
        };
        fair = st.fair;
      }

      quiet_open : NoneHeard n
      quiet_open r x at = each_number (λ r. (x : Conn) → n.conns r ≡ Some x → x.heard ≡ false) p
          (λ x at. (let e : Some (new_conn c) ≡ Some x = sym (with_here p (Some (new_conn c)) m.conns) ∙ at in let f : new_conn c ≡ x = cc in ap (λ (x : Conn). x.heard) (sym f)))
          (λ r ne x at. quiet r x (sym (with_there p (Some (new_conn c)) m.conns r ne) ∙ at)) r x at

      -- what it leaves, seen from the tables before
      pub open_so : Leads (Went c server frames nothing_under_way d n v) (each (hands (one_stream for_one) server) s.waiting to v)
      open_so = leads_as (Went c server frames nothing_under_way (desk_of to) n v) (Went c server frames nothing_under_way d n v) (each (hands (one_stream for_one) server) s.waiting to v)
          (each_goes c server frames Free (hands (one_stream for_one) server) hands_each s.waiting 0 v.ticket st.order.waiting to n v stands quiet_open)
          (λ r w b. record {
            made = b.made;
            runs = b.runs;
            posts = b.posts;
            outs = b.outs;
            place = b.place;
            board = b.board;
            more = b.more;
            stands = b.stands;
            on = b.on;
            owned = λ i o. elim (b.owned i o) [ inl q ↦ inl (owns i q) | inr le ↦ inr le ];
            others = λ i due free at. b.others i due (λ o. free (owns i o)) at;
            named = b.named;
            quiet = b.quiet;
          })
        where
          owns : (i : ℕ) → Owns (desk_of to) i → Owns d i
          owns i (inl o) = inl o
          owns i (inr o) = each_number (λ q. (l : Link Request) → entry_at q (puts p link s.connections) ≡ Some l → timer_of l.line.stage ≡ Some i → Owns d i) p
              (λ l at own. absurd (let e : link ≡ l = same_link (entry_at p (puts p link s.connections)) link l (puts_here p link s.connections) at in let q : None ≡ Some i = ap (λ (l : Link Request). timer_of l.line.stage) e ∙ own in cc))
              (λ q ne l at own. inr (q, l, sym (puts_there p link s.connections q ne) ∙ at, own)) o.0 o.1 o.2 o.3

    -- It does not open
    abbrev until : ℕ
    until = v.now + retry_time s.refusals (word v)

    abbrev shut : Server
    shut = refused s v

    pub soon : until < v.now + back_off
    soon = more v.now (retry_time s.refusals (word v)) back_off (back_off_is_short s.refusals (word v) (st.fair.words 0)).1
      where
        more : (n r b : ℕ) → r < b → n + r < n + b
        more n r b lt = omega arith

    stands_shut : Stands c (record { todo = all_as Broken s.waiting; failed = [] }) (desk_of shut) shut (not_opened until m) frames (drawn v)
    stands_shut = record {
      server = record {
        tables = opens_so c Broken (inr refl) d (desk_of shut) m (not_opened until m) frames (dues v) (dues v) v.ticket st.server.tables refl refl refl refl (λ k. refl) (λ i. refl) refl (le_refl until);
        links = λ q. kept_open c Broken (inr refl) d (desk_of shut) m (not_opened until m) frames (dues v) (dues v) v.ticket st.server.tables refl refl refl refl (λ k. refl) (λ i. refl) refl (le_refl until) q refl refl (st.server.links q);
        watched = st.server.watched;
      };
      order = record { jobs = st.order.jobs; timers = st.order.timers; inner = st.order.inner; waiting = tt; connections = st.order.connections; watches = st.order.watches; opening = λ q e. absurd (let z : None ≡ Some q = e in cc) };
      fair = record { order = st.fair.order; words = λ i. st.fair.words (i + 1) };
    }

    pub fails_so : Leads (Went c server frames nothing_under_way d (not_opened until m) v) (each backs_off s.waiting shut (drawn v))
    fails_so = leads_as (Went c server frames nothing_under_way (desk_of shut) (not_opened until m) (drawn v)) (Went c server frames nothing_under_way d (not_opened until m) v) (each backs_off s.waiting shut (drawn v))
        (each_goes c server frames Broken backs_off rests_each s.waiting 0 v.ticket st.order.waiting shut (not_opened until m) (drawn v) stands_shut quiet)
        (λ r w b. record {
          made = b.made;
          runs = b.runs;
          posts = b.posts;
          outs = b.outs;
          place = b.place;
          board = b.board;
          more = b.more;
          stands = b.stands;
          on = record { fair = b.on.fair; now = b.on.now; timer = b.on.timer; ticket = b.on.ticket; place = b.on.place; later = b.on.later };
          owned = b.owned;
          others = b.others;
          named = b.named;
          quiet = b.quiet;
        })
