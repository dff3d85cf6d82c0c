-- One server is cuttable where its streams are, and posts nothing at once where they do not.
use Rattle.std.proofs.Common.{◌≡◌, ℕ, Bool, false, List, Option, Some, None, refl, ap, subst, le_refl}
use Rattle.client_request.specs.Request.{Request}
use Rattle.client_request.specs.Requests.{for_one}
use Rattle.client_request.specs.View.{View, due_timer, more_at}
use Rattle.client_request.specs.declared.event.Out.{Out}
use Rattle.client_request.specs.declared.event.Out.TheVariants.{Start}
use Rattle.client_request.specs.declared.event.Via.{Via}
use Rattle.client_request.specs.declared.event.Via.TheVariants as via
use Rattle.client_dgram.specs.Plain as dgram
use Rattle.client_multi.specs.Links.{one_stream}
use Rattle.client_multi.specs.MultiStream as multi_stream
use Rattle.client_steps.specs.Upstream.{leaves, by_streams, by_both, started, plain_send, plain_step, plain_cancel, transport}
use Rattle.client_steps.specs.declared.upstream.Handed.{Handed}
use Rattle.client_steps.specs.declared.upstream.Handed.TheVariants as handed
use Rattle.client_steps.specs.declared.upstream.Upstream.{Upstream}
use Rattle.client_steps.specs.declared.upstream.Upstream.TheVariants as server
use Rattle.proof_cutting.specs.Pieces.{like, IsReady, Both, Each, Stays, MayClose, Takes, IsCuttable, PostsNothing}
use Rattle.proof_cutting.specs.Standing.{stream_octets, longer_stream, IsFitStream}
use Rattle.proof_cutting.specs.Layers.{both_octets, longer_both, IsFitBoth, server_octets, longer_server, IsFitServer}
use Rattle.proof_cutting.proofs.Datagrams.{datagrams_are_cuttable, datagrams_post_nothing}
use Rattle.proof_cutting.proofs.FallingBack.{fallbacks_are_cuttable, fallbacks_post_nothing, IsOnBoard, map_on_board, sends_nothing, cancels_nothing}
use Rattle.proof_cutting.proofs.Views.{asks_like, same_both, map_both}

module _ (place : ℕ) (streams : IsCuttable place (multi_stream.transport (one_stream for_one)) (stream_octets place) (longer_stream place) IsFitStream) where
  dgrams : IsCuttable place (dgram.transport for_one) (λ u. None) (λ piece u. u) (λ u n. Unit {0})
  dgrams = datagrams_are_cuttable place

  both : IsCuttable place (by_both for_one) (both_octets place) (longer_both place) IsFitBoth
  both = fallbacks_are_cuttable dgrams streams

  module _ (piece : List ℕ) (before : List Out) where
    -- what is left of a transport is left of its server
    leaves_so : {T : Type 0} {longer : T → T} {Leaves : T → View → Type 0} {Next : Upstream Request → View → Type 0} {r s : Option (T × View)} (put : T → Upstream Request) → Both longer before Leaves r s
        → ((u : T) (v : View) (more : Bool) (request : ℕ) → Leaves u v → Both (longer_server place piece) before Next (Some (put u, v)) (Some (put (longer u), like before more request v)))
        → Both (longer_server place piece) before Next (leaves put r) (leaves put s)
    leaves_so put both each = map_both (λ x. (put x.0, x.1)) (λ x. (put x.0, x.1)) both each

    -- a server is told first what it is handed
    starts_so : {L : Upstream Request → View → Type 0} {r : Option (Upstream Request × View)} (k : View → Option (Upstream Request × View)) (number : ℕ) (by : Via) (more : Bool) (v : View)
        → Both (longer_server place piece) before L r (k (like before more v.request (started for_one number by v))) → Both (longer_server place piece) before L r (k (started for_one number by (like before more v.request v)))
    starts_so k number by more v both = same_both refl (ap k (asks_like before more v.request (Start v.request number by) v)) both

    sends_so : (more : Bool) (r : Request) (u : Upstream Request) (v : View) → IsFitServer u v.timers.next
        → Both (longer_server place piece) before (Stays (server_octets place) IsFitServer u v) (plain_send for_one r u v) (plain_send for_one r (longer_server place piece u) (like before more v.request v))
    sends_so more r (server.Dgram c) v fit =
        starts_so (λ x. leaves server.Dgram (dgram.plain_send for_one r c x)) c.server via.Dgram more v
        (leaves_so server.Dgram (dgrams.sends piece before more r c (started for_one c.server via.Dgram v) tt) (λ w x more request a. Each (server.Dgram w) x more request (record { fit = a.fit; timer = a.timer; octets = a.octets; more = a.more; now = a.now })))
    sends_so more r (server.Stream c) v fit =
        starts_so (λ x. leaves server.Stream ((by_streams for_one).send r (longer_stream place piece c) x)) c.server via.Stream more v
        (leaves_so server.Stream (streams.sends piece before more r c (started for_one c.server via.Stream v) fit) (λ w x more request a. Each (server.Stream w) x more request (record { fit = a.fit; timer = a.timer; octets = a.octets; more = a.more; now = a.now })))
    sends_so more r (server.DgramStream c) v fit =
        starts_so (λ x. leaves server.DgramStream ((by_both for_one).send r (longer_both place piece c) x)) c.server via.Dgram more v
        (leaves_so server.DgramStream (both.sends piece before more r c (started for_one c.server via.Dgram v) fit) (λ w x more request a. Each (server.DgramStream w) x more request (record { fit = a.fit; timer = a.timer; octets = a.octets; more = a.more; now = a.now })))

    cancels_so : (more : Bool) (request : ℕ) (r : Handed) (u : Upstream Request) (v : View) → IsFitServer u v.timers.next
        → Both (longer_server place piece) before (Stays (server_octets place) IsFitServer u v) (plain_cancel for_one r u v) (plain_cancel for_one r (longer_server place piece u) (like before more request v))
    cancels_so more request (handed.Dgram r) (server.Dgram c) v fit =
        leaves_so server.Dgram (dgrams.cancels piece before more request r c v tt) (λ w x more request a. Each (server.Dgram w) x more request (record { fit = a.fit; timer = a.timer; octets = a.octets; more = a.more; now = a.now }))
    cancels_so more request (handed.Stream r) (server.Stream c) v fit =
        leaves_so server.Stream (streams.cancels piece before more request r c v fit) (λ w x more request a. Each (server.Stream w) x more request (record { fit = a.fit; timer = a.timer; octets = a.octets; more = a.more; now = a.now }))
    cancels_so more request (handed.DgramStream r) (server.DgramStream c) v fit =
        leaves_so server.DgramStream (both.cancels piece before more request r c v fit) (λ w x more request a. Each (server.DgramStream w) x more request (record { fit = a.fit; timer = a.timer; octets = a.octets; more = a.more; now = a.now }))
    cancels_so more request r u v fit = Each u v more request (record { fit = fit; timer = le_refl v.timers.next; octets = refl; more = refl; now = refl })

    fires_so : (more : Bool) (request timer : ℕ) (u : Upstream Request) (v : View) → IsFitServer u v.timers.next
        → Both (longer_server place piece) before (MayClose (server_octets place) IsFitServer u v) (plain_step for_one (due_timer timer) u v) (plain_step for_one (due_timer timer) (longer_server place piece u) (like before more request v))
    fires_so more request timer (server.Dgram c) v fit =
        leaves_so server.Dgram (dgrams.fires piece before more request timer c v tt) (λ w x more request a. Each (server.Dgram w) x more request (record { fit = a.fit; timer = a.timer; octets = a.octets; more = a.more; now = a.now }))
    fires_so more request timer (server.Stream c) v fit =
        leaves_so server.Stream (streams.fires piece before more request timer c v fit) (λ w x more request a. Each (server.Stream w) x more request (record { fit = a.fit; timer = a.timer; octets = a.octets; more = a.more; now = a.now }))
    fires_so more request timer (server.DgramStream c) v fit =
        leaves_so server.DgramStream (both.fires piece before more request timer c v fit) (λ w x more request a. Each (server.DgramStream w) x more request (record { fit = a.fit; timer = a.timer; octets = a.octets; more = a.more; now = a.now }))

    takes_so : (request : ℕ) (u : Upstream Request) (v : View) → IsFitServer u v.timers.next → IsReady (server_octets place u) → v.more ≡ false
        → Both (longer_server place piece) before (Takes (server_octets place) IsFitServer u v) (plain_step for_one (more_at place) u v) (plain_step for_one (more_at place) (longer_server place piece u) (like before false request v))
    takes_so request (server.Dgram c) v fit ready none =
        leaves_so server.Dgram (dgrams.takes piece before request c v tt ready none) (λ w x more request a. Each (server.Dgram w) x more request (record { fit = a.fit; timer = a.timer; octets = a.octets; more = a.more; now = a.now }))
    takes_so request (server.Stream c) v fit ready none =
        leaves_so server.Stream (streams.takes piece before request c v fit ready none) (λ w x more request a. Each (server.Stream w) x more request (record { fit = a.fit; timer = a.timer; octets = a.octets; more = a.more; now = a.now }))
    takes_so request (server.DgramStream c) v fit ready none =
        leaves_so server.DgramStream (both.takes piece before request c v fit ready none) (λ w x more request a. Each (server.DgramStream w) x more request (record { fit = a.fit; timer = a.timer; octets = a.octets; more = a.more; now = a.now }))

  pub servers_are_cuttable : IsCuttable place (transport for_one) (server_octets place) (longer_server place) IsFitServer
  servers_are_cuttable = record {
    closed = λ piece. elim [ server.Dgram c ↦ λ none. refl | server.Stream c ↦ λ none. ap server.Stream (streams.closed piece c none) | server.DgramStream c ↦ λ none. ap server.DgramStream (both.closed piece c none) ];
    behind = λ piece. elim [ server.Dgram c ↦ refl | server.Stream c ↦ streams.behind piece c | server.DgramStream c ↦ both.behind piece c ];
    twice = λ a b. elim [ server.Dgram c ↦ refl | server.Stream c ↦ ap server.Stream (streams.twice a b c) | server.DgramStream c ↦ ap server.DgramStream (both.twice a b c) ];
    fits = λ piece. elim [ server.Dgram c ↦ λ n fit. tt | server.Stream c ↦ streams.fits piece c | server.DgramStream c ↦ both.fits piece c ];
    later = elim [ server.Dgram c ↦ λ n m le fit. tt | server.Stream c ↦ streams.later c | server.DgramStream c ↦ both.later c ];
    bytes = λ piece. elim [ server.Dgram c ↦ λ v fit none. refl | server.Stream c ↦ λ v fit none. ap (leaves server.Stream) (streams.bytes piece c v fit none) | server.DgramStream c ↦ λ v fit none. ap (leaves server.DgramStream) (both.bytes piece c v fit none) ];
    rests = elim [ server.Dgram c ↦ λ v fit none. refl | server.Stream c ↦ λ v fit none. ap (leaves server.Stream) (streams.rests c v fit none) | server.DgramStream c ↦ λ v fit none. ap (leaves server.DgramStream) (both.rests c v fit none) ];
    unheard = λ piece. elim [ server.Dgram c ↦ λ v fit none. refl | server.Stream c ↦ λ v fit none. ap (leaves server.Stream) (streams.unheard piece c v fit none) | server.DgramStream c ↦ λ v fit none. ap (leaves server.DgramStream) (both.unheard piece c v fit none) ];
    response = λ piece before more request r. elim [ server.Dgram c ↦ λ v. refl | server.Stream c ↦ λ v. ap handed.Stream (streams.response piece before more request r c v) | server.DgramStream c ↦ λ v. ap handed.DgramStream (both.response piece before more request r c v) ];
    sends = sends_so;
    cancels = cancels_so;
    fires = fires_so;
    takes = takes_so;
  }

-- ---- nothing is posted

module _ (streams : PostsNothing (multi_stream.transport (one_stream for_one)) IsFitStream) where
  both_post_nothing : PostsNothing (by_both for_one) IsFitBoth
  both_post_nothing = fallbacks_post_nothing datagrams_post_nothing streams

  sends_none : (r : Request) (u : Upstream Request) (v : View) → IsFitServer u v.timers.next → IsOnBoard v.board (plain_send for_one r u v)
  sends_none r (server.Dgram c) v fit = (let w : View = started for_one c.server via.Dgram v in map_on_board server.Dgram v.board ((dgram.transport for_one).send r c w) (sends_nothing datagrams_post_nothing r c w tt))
  sends_none r (server.Stream c) v fit = (let w : View = started for_one c.server via.Stream v in map_on_board server.Stream v.board ((by_streams for_one).send r c w) (sends_nothing streams r c w fit))
  sends_none r (server.DgramStream c) v fit = (let w : View = started for_one c.server via.Dgram v in map_on_board server.DgramStream v.board ((by_both for_one).send r c w) (sends_nothing both_post_nothing r c w fit))

  cancels_none : (r : Handed) (u : Upstream Request) (v : View) → IsFitServer u v.timers.next → IsOnBoard v.board (plain_cancel for_one r u v)
  cancels_none (handed.Dgram r) (server.Dgram c) v fit = map_on_board server.Dgram v.board ((dgram.transport for_one).cancel r c v) (cancels_nothing datagrams_post_nothing r c v tt)
  cancels_none (handed.Stream r) (server.Stream c) v fit = map_on_board server.Stream v.board ((by_streams for_one).cancel r c v) (cancels_nothing streams r c v fit)
  cancels_none (handed.DgramStream r) (server.DgramStream c) v fit = map_on_board server.DgramStream v.board ((by_both for_one).cancel r c v) (cancels_nothing both_post_nothing r c v fit)
  cancels_none r u v fit = refl

  pub servers_post_nothing : PostsNothing (transport for_one) IsFitServer
  servers_post_nothing = record {
    sent = λ r u v w x fit is. subst (IsOnBoard v.board) is (sends_none r u v fit);
    cancelled = λ r u v w x fit is. subst (IsOnBoard v.board) is (cancels_none r u v fit);
  }
