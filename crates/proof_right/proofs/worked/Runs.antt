-- Worked traces are runs of the machine.
use Rattle.std.proofs.Common.{◌≡◌, ◌≢◌, ℕ, ◌+◌, ◌<◌, ◌≤◌, true, false, inl, Option, Some, None, List, [], ◌∷◌, refl, take, length, ap, sym, subst, ◌∙◌}
use Rattle.std.specs.Prelude.{Result, Ok, Err, if◌then◌else◌}
use Rattle.client_request.specs.Request.{Request}
use Rattle.client_request.specs.declared.error.Error.{Error}
use Rattle.right_trace.specs.Time.{read_timeout, response_timeout, stream_timeout, idle_timeout, recv_size, max_places, max_tries}
use Rattle.right_trace.specs.Messages.{Octets, CarriesBy, CarriesInFrame, base_is_read, answers, truncated, id_in, keepalive_of}
use Rattle.right_trace.specs.Frames.{Length, fed, is_bad}
use Rattle.right_trace.specs.Timers.{told_idle}
use Rattle.right_trace.specs.Writes.{Written}
use Rattle.right_trace.specs.Validity.{second, validity_of_message, is_deferred, waits_for_others}
use Rattle.right_trace.specs.Keys.{KeyCovers, key_of, question_of, is_cacheable}
use Rattle.right_trace.specs.Parts.{Parts, Says, read_parts, known_parts}
use Rattle.right_trace.specs.Views.{view_of, view_validity, IsValidView}
use Rattle.dns_base.specs.Data.{Data, data_at, data_spelling}
use Rattle.dns_names.specs.Name.{name_at, walk, head_at}
use Rattle.dns_base.specs.Message.{question_at, record_at, list_at, items_at, questions_of, answer_of, authority_of, additional_of, answer_items, authority_items, additional_items, first_question, sole_question, reads}
use Rattle.dns_base.specs.Knowing.{knows}
use Rattle.dns_base.specs.OptRecord.{opt_of, opt_rcode}
use Rattle.dns_base.specs.Answering.{is_answer}
use Rattle.client_request.specs.Carries.{contents_of}
use Rattle.client_request.specs.declared.event.Row.{Row}
use Rattle.client_request.specs.declared.event.Out.{Out}
use Rattle.right_trace.specs.Trace.{ByDatagrams}
use Rattle.proof_right.specs.machine.Dgrams.{Tryer, Dgrams}
use Rattle.proof_right.specs.machine.Part.{ServerPart, Act as Step}
use Rattle.proof_right.specs.machine.Streams.{Act, Puts, Gives, Nothing, Asker, Conn, Multi}
use Rattle.right_trace.specs.Updates.{with_at}
use Rattle.client_request.specs.declared.event.What.{What}
use Rattle.client_request.specs.declared.event.Event.{Event}
use Rattle.proof_right.specs.machine.Server.{Server}
use Rattle.proof_right.specs.machine.Served.{Served, RestsNow, served, does, has_moved, has_taken_it, AsItIs, WithResult}
use Rattle.proof_right.specs.machine.Client.{Caches, Waiting, Leaving, Entry, entry_of, answer as answer_at_once, Viewed, outcome, leave, store, unmade, Upper, Move, moved, hand, handing, newcomer, take_on, row_begins, Moves, Goes, Rests, Takes_on, Hands_on, Server_moves, Delivers, Replies, Answers, IsRun, Ends, begun}
use Rattle.proof_right.specs.examples.Messages.{plain_request, as_datagram, as_frame, frame, cut_answer, answer}
use Rattle.right_trace.specs.Settings.{first_settings}
use Rattle.proof_right.specs.examples.Rows.{at, by_datagrams}
use Rattle.client_request.specs.declared.event.What.TheVariants.{Ask, Opened, Datagram, Wrote, Bytes}
use Rattle.client_request.specs.declared.event.Out.TheVariants.{Start, OpenDgram, OpenStream, Send, Write, Close, Reply}
use Rattle.client_request.specs.declared.event.Via.TheVariants.{Dgram, Stream}
use Rattle.proof_right.specs.examples.Streams.{cut_goes_on}
use Rattle.proof_right.specs.examples.Cache.{asked_again}
use Rattle.right_trace.proofs.Asked.{keys_refl}
use Rattle.proof_right.specs.examples.Runs.{IsARun}
use Rattle.proof_right.proofs.worked.Resting.{only, nobody, away, gone, away_held, gone_held, away_every, away_unheard, not_held, not_octets, wrote_plain, below, at_most, StageSettled, trying_settled, cut_settled, sent_settled, StageInTime, in_time_by, tick_foreign, ask_foreign, datagram_foreign, opens_nothing, nobody_tries, nobody_sent, StageRests, PhaseRests, ModeRests, rests_by, done_with, done_with_none, next}
use Rattle.proof_right.proofs.worked.Cache.{carried, carried_in_frame, answers_it, whole_answer, cacheable, computed, viewable_30, viewable_100}
use Rattle.client_request.specs.declared.error.Error.TheVariants as errors
use Rattle.proof_right.specs.machine.Streams as multi
use Rattle.proof_right.specs.machine.Dgrams as dgrams
use Rattle.proof_right.specs.machine.Server as server
use Rattle.proof_right.specs.machine.Served as served

abbrev P : ServerPart by_datagrams
P = served by_datagrams

-- the one server's part, and what its moves make of the client
abbrev server_in : Upper Served → Server
server_in y = (y.ups 0).server

abbrev goes_to : Server → Act → Upper Served → Upper Served
goes_to v x y = moved 0 (does (has_moved v (y.ups 0)) y.place x) y

abbrev takes_to : Server → Act → Upper Served → Upper Served
takes_to v x y = moved 0 (does (has_taken_it v (y.ups 0)) y.place x) y

abbrev with_dgrams : Dgrams → Server → Server
with_dgrams d v = record v { by_dgram = d }

abbrev with_streams : Multi → Server → Server
with_streams m v = record v { by_stream = m }

abbrev event : ℕ → What → Event
event n w = record { moment = record { 0 = n }; what = w }

abbrev nowhere : {V : Type 0} → ℕ → Option V
nowhere k = None

module _ (compose : Request → Result Octets Error) (o : Octets) (r : Request) (composed : compose r ≡ Ok o) where
  abbrev begins : ℕ → What → Upper Served → Upper Served
  begins n w x = row_begins by_datagrams first_settings compose P (event n w) x

  abbrev Goes_to : (x : Upper Served) (n : ℕ) (w : What) (y : Upper Served) → List Out → Type 0
  Goes_to x n w y outs = Moves by_datagrams first_settings compose P (begins n w x) (record { state = y; outs = outs })

  pub row : (x : Upper Served) (n : ℕ) (w : What) (outs : List Out) (y : Upper Served) (rows : List Row) → Goes_to x n w y outs → IsRun by_datagrams first_settings compose P y rows → IsRun by_datagrams first_settings compose P x (at n w outs ∷ rows)
  row x n w outs y rows moves more = next compose x (at n w outs) rows (record { state = y; outs = outs }) moves refl more

  -- the request is asked, and its place opens
  abbrev waiting : Waiting
  waiting = handing 0 (newcomer r 0)

  abbrev queued : Tryer
  queued = record { request = r; tries = 0; stage = dgrams.Queued }

  abbrev trying : Tryer
  trying = dgrams.staged queued (dgrams.Trying 0)

  abbrev d1 : Dgrams
  d1 = record dgrams.no_datagram { held = with_at 0 (Some queued) (λ k. None) }

  abbrev d2 : Dgrams
  d2 = dgrams.try_at 0 0 queued d1

  abbrev x0 : Upper Served
  x0 = begun by_datagrams first_settings compose P

  abbrev y1 : Upper Served
  y1 = take_on r None (begins 0 (Ask r) x0)

  abbrev y2 : Upper Served
  y2 = goes_to (with_dgrams d1 (server_in y1)) (Puts (Start 0 0 Dgram)) (hand 0 0 (newcomer r 0) y1)

  abbrev pub x1 : Upper Served
  x1 = goes_to (with_dgrams d2 (server_in y2)) (Puts (OpenDgram 0 0)) y2

  others2 : (j : ℕ) → 0 ≢ j → d2.held j ≡ None
  others2 = away 0 _ _ (away 0 _ _ (λ j ne. refl))

  others_held : (j : ℕ) → 0 ≢ j → x1.held j ≡ None
  others_held = away_held 0 _ _ (away_held 0 _ _ (λ j ne. refl))

  row1 : Goes_to x0 0 (Ask r) x1 (Start 0 0 Dgram ∷ OpenDgram 0 0 ∷ [])
  unfolding max_places
  row1 =
      Goes (begins 0 (Ask r) x0) _ _ (Takes_on r o None refl composed (below 0 1 refl) (λ e q. absurd (cc)))
      (Goes y1 _ _ (Hands_on 0 0 (newcomer r 0) _ (below 0 1 refl) refl refl (served.IsHanded ByDatagrams (Puts (Start 0 0 Dgram)) (with_dgrams d1 (server_in y1)) refl (server.ToDgrams refl refl)))
      (Goes y2 _ _ (Server_moves 0 _ (below 0 1 refl) (served.ByDgram (Puts (OpenDgram 0 0)) d2 _ (dgrams.Opens 0 queued refl refl (below 0 100 refl)) (AsItIs (only (λ k (a : Tryer). StageSettled a.stage) 0 trying d2.held refl others2 (trying_settled 0)))))
      (Rests x1 (done_with compose x1 0 waiting refl refl refl
      (record { rests = (rests_by by_datagrams) 0 (server_in x1) (only (λ k (a : Tryer). (StageRests by_datagrams) 0 1 a.stage) 0 trying d2.held refl others2 tt) (nobody _ nowhere (λ j. refl)) (nobody _ nowhere (λ j. refl)); frames = refl; ignored = tt; foreign = ask_foreign r (server_in x1).by_stream })
      refl others_held refl (λ j ne. not_held (x1.ups 0) j (others2 j ne) refl) (below 0 5000000 refl)))))

  -- A cut answer goes on by stream.
  module _ (o1 m1 m0 w b m2 : Octets) (carries : CarriesBy by_datagrams Dgram o1 r 4660) (long : 12 ≤ length (take 2000 m1)) (answers1 : answers r 4660 (take 2000 m1) ≡ true) (cut : truncated (take 2000 m1) ≡ true) (in_frame : CarriesInFrame w r 0) (some : 0 < length w) (few : length w ≤ 46) (frames : (fed Length b).frames ≡ m2 ∷ []) (good : is_bad m2 ≡ false) (id0 : id_in m2 ≡ 0) (answers2 : answers r 0 m2 ≡ true)
      (stays : 20004 < 20004 + told_idle (keepalive_of m2) (idle_timeout by_datagrams)) (kept : outcome first_settings 0 r (Ok m2) ≡ record { request = 0; asked = r; result = Ok m2; given = Ok m2; is_stored = true; stale = None }) (final : waits_for_others first_settings (Ok m2) ≡ false) where
    -- it is sent
    abbrev sent : Tryer
    sent = record { request = r; tries = 1; stage = dgrams.Sent 0 4660 10 }

    abbrev d3 : Dgrams
    d3 = dgrams.send_at 0 4660 10 0 trying d2

    abbrev z2 : Upper Served
    z2 = begins 10 (Opened 0) x1

    abbrev x2 : Upper Served
    x2 = takes_to (with_dgrams d3 (server_in z2)) (Puts (Send 0 0 4660 o1)) z2

    others3 : (j : ℕ) → 0 ≢ j → d3.held j ≡ None
    others3 = away 0 _ _ others2

    row2 : Goes_to x1 10 (Opened 0) x2 (Send 0 0 4660 o1 ∷ [])
    unfolding read_timeout recv_size max_places max_tries
    row2 =
        Goes z2 _ _ (Server_moves 0 _ (below 0 1 refl) (served.TellsDgrams (Puts (Send 0 0 4660 o1)) d3 _ refl ((in_time_by by_datagrams) 10 (server_in z2) (only (λ k (a : Tryer). (StageInTime by_datagrams) 10 a.stage) 0 trying d2.held refl others2 tt) (nobody _ nowhere (λ j. refl)))
        (dgrams.IsSent 0 trying 0 4660 o1 refl refl refl carries) (opens_nothing 0 (server_in z2).by_stream refl) (AsItIs (only (λ k (a : Tryer). StageSettled a.stage) 0 sent d3.held refl others3 (sent_settled 0 4660 10)))))
        (Rests x2 (done_with compose x2 0 waiting refl refl refl
        (record { rests = (rests_by by_datagrams) 10 (server_in x2) (only (λ k (a : Tryer). (StageRests by_datagrams) 10 1 a.stage) 0 sent d3.held refl others3 (below 10 5000010 refl)) (nobody _ nowhere (λ j. refl)) (nobody _ nowhere (λ j. refl)); frames = refl; ignored = tt; foreign = tick_foreign (server_in x2).by_stream })
        refl others_held refl (λ j ne. not_held (x2.ups 0) j (others3 j ne) refl) (below 10 5000000 refl)))

    -- the cut answer comes
    abbrev ended : Tryer
    ended = dgrams.staged sent (dgrams.stage_of (take 2000 m1))

    abbrev d4 : Dgrams
    d4 = dgrams.leave 0 0 sent (dgrams.stage_of (take 2000 m1)) d3

    abbrev z3 : Upper Served
    z3 = begins 20000 (Datagram 0 m1) x2

    abbrev free : Asker
    free = record { request = r; since = 20000; phase = multi.Free }

    abbrev s1 : Multi
    s1 = record (server_in z3).by_stream { asks = with_at 0 (Some free) (server_in z3).by_stream.asks }

    abbrev v3 : Upper Served
    v3 = takes_to (with_dgrams d4 (server_in z3)) (Puts (Close 0)) z3

    abbrev y3 : Upper Served
    y3 = goes_to (server.falls_back 0 20000 ended (server_in v3)) (Puts (Start 0 0 Stream)) v3

    abbrev s2 : Multi
    s2 = record (multi.move 0 free multi.Expecting s1) { opening = Some 1 }

    abbrev x3 : Upper Served
    x3 = goes_to (with_streams s2 (server_in y3)) (Puts (OpenStream 1 0)) y3

    others4 : (j : ℕ) → 0 ≢ j → d4.held j ≡ None
    others4 = away 0 _ _ others3

    none4 : (j : ℕ) → (dgrams.forget 0 d4).held j ≡ None
    none4 = gone 0 _ others4

    asks3 : (j : ℕ) → 0 ≢ j → s2.asks j ≡ None
    asks3 = away 0 _ _ (away 0 _ _ (λ j ne. refl))

    expecting : Asker
    expecting = multi.moved free multi.Expecting

    is_cut : dgrams.stage_of (take 2000 m1) ≡ dgrams.Cut
    is_cut = ap (λ b. if b then dgrams.Cut else dgrams.Ending (Ok (take 2000 m1))) cut

    row3 : Goes_to x2 20000 (Datagram 0 m1) x3 (Close 0 ∷ Start 0 0 Stream ∷ OpenStream 1 0 ∷ [])
    unfolding read_timeout recv_size max_places max_tries stream_timeout
    row3 =
        Goes z3 _ _ (Server_moves 0 _ (below 0 1 refl) (served.TellsDgrams (Puts (Close 0)) d4 _ refl ((in_time_by by_datagrams) 20000 (server_in z3) (only (λ k (a : Tryer). (StageInTime by_datagrams) 20000 a.stage) 0 sent d3.held refl others3 (below 20000 5000010 refl)) (nobody _ nowhere (λ j. refl)))
        (dgrams.IsAnswered 0 sent 0 4660 10 m1 refl refl refl long answers1) (datagram_foreign 0 m1 (server_in z3).by_stream) (AsItIs (only (λ k (a : Tryer). StageSettled a.stage) 0 ended d4.held refl others4 (cut_settled (dgrams.stage_of (take 2000 m1)) is_cut)))))
        (Goes v3 _ _ (Server_moves 0 _ (below 0 1 refl) (served.FallsBack 0 ended refl is_cut))
        (Goes y3 _ _ (Server_moves 0 _ (below 0 1 refl) (served.ByStream (Puts (OpenStream 1 0)) s2 (multi.Opens 0 free refl refl refl (nobody _ s1.conns (λ j. refl)))))
        (Rests x3 (done_with compose x3 0 waiting refl refl refl
        (record { rests = (rests_by by_datagrams) 20000 (server_in x3) (nobody _ (dgrams.forget 0 d4).held none4) (only (λ k (a : Asker). PhaseRests 20000 s2.conns a.phase × (20000 < a.since + stream_timeout by_datagrams)) 0 (multi.moved free multi.Expecting) s2.asks refl asks3 (tt, below 20000 30020000 refl)) (nobody _ s2.conns (λ j. refl)); frames = refl; ignored = tt; foreign = tick_foreign s2 })
        refl others_held refl (λ j ne. not_held (x3.ups 0) j (none4 j) (asks3 j ne)) (below 20000 5000000 refl)))))

    -- a datagram for the closed place is nobody's
    abbrev x4 : Upper Served
    x4 = begins 20001 (Datagram 0 m0) x3

    row4 : Goes_to x3 20001 (Datagram 0 m0) x4 []
    unfolding stream_timeout
    row4 = Rests x4 (done_with compose x4 0 waiting refl refl refl
        (record { rests = (rests_by by_datagrams) 20001 (server_in x4) (nobody _ (dgrams.forget 0 d4).held none4) (only (λ k (a : Asker). PhaseRests 20001 (server_in x4).by_stream.conns a.phase × (20001 < a.since + stream_timeout by_datagrams)) 0 (multi.moved free multi.Expecting) s2.asks refl asks3 (tt, below 20001 30020000 refl)) (nobody _ (server_in x4).by_stream.conns (λ j. refl)); frames = refl; ignored = (nobody_sent by_datagrams) 0 m0 (dgrams.forget 0 d4) refl; foreign = datagram_foreign 0 m0 (server_in x4).by_stream })
        refl others_held refl (λ j ne. not_held (x4.ups 0) j (none4 j) (asks3 j ne)) (below 20001 5000000 refl))

    -- the connection opens, and the request is written
    abbrev z5 : Upper Served
    z5 = begins 20002 (Opened 1) x4

    abbrev s3 : Multi
    s3 = multi.open_at by_datagrams 1 (server_in z5).by_stream

    abbrev y5 : Upper Served
    y5 = takes_to (with_streams s3 (server_in z5)) Nothing z5

    abbrev s4 : Multi
    s4 = multi.move 0 free (multi.Lined 1) s3

    abbrev v5 : Upper Served
    v5 = goes_to (with_streams s4 (server_in y5)) Nothing y5

    abbrev lined : Asker
    lined = multi.moved free (multi.Lined 1)

    abbrev holding : Asker
    holding = multi.moved free (multi.Holding 1 0)

    abbrev c5 : Conn
    c5 = multi.written_on 0 0 20002 w (multi.new_conn by_datagrams)

    abbrev s5 : Multi
    s5 = multi.set_conn 1 c5 (multi.move 0 lined (multi.Holding 1 0) s4)

    abbrev x5 : Upper Served
    x5 = goes_to (with_streams s5 (server_in v5)) (Puts (Write 1 0 0 w)) v5

    asks5 : (j : ℕ) → 0 ≢ j → s5.asks j ≡ None
    asks5 = away 0 _ _ (away 0 _ _ (away_every (multi.expected multi.Free) 0 _ asks3))

    conns5 : (p : ℕ) → 1 ≢ p → s5.conns p ≡ None
    conns5 = away 1 _ _ (away 1 _ _ (λ p ne. refl))

    row5 : Goes_to x4 20002 (Opened 1) x5 (Write 1 0 0 w ∷ [])
    unfolding stream_timeout response_timeout
    row5 =
        Goes z5 _ _ (Server_moves 0 _ (below 0 1 refl) (served.TellsStreams Nothing s3 refl (not_octets 1) (multi.ItOpens 1 refl) ((nobody_tries by_datagrams) 1 (dgrams.forget 0 d4) refl)))
        (Goes y5 _ _ (Server_moves 0 _ (below 0 1 refl) (served.ByStream Nothing s4 (multi.Joins 0 free 1 (multi.new_conn by_datagrams) refl refl refl)))
        (Goes v5 _ _ (Server_moves 0 _ (below 0 1 refl) (served.ByStream (Puts (Write 1 0 0 w)) s5 (multi.Writes 0 lined 1 (multi.new_conn by_datagrams) 0 w refl refl refl refl refl refl in_frame some)))
        (Rests x5 (done_with compose x5 0 waiting refl refl refl
        (record { rests = (rests_by by_datagrams) 20002 (server_in x5) (nobody _ (dgrams.forget 0 d4).held none4) (only (λ k (a : Asker). PhaseRests 20002 s5.conns a.phase × (20002 < a.since + stream_timeout by_datagrams)) 0 holding s5.asks refl asks5 (tt, below 20002 30020000 refl)) (only (λ p (x : Conn). (ModeRests by_datagrams) 20002 x.idle x.mode) 1 c5 s5.conns refl conns5 (at_most 20002 19020002 refl)); frames = refl; ignored = tt; foreign = tick_foreign s5 })
        refl others_held refl (λ j ne. not_held (x5.ups 0) j (none4 j) (asks5 j ne)) (below 20002 5000000 refl)))))

    -- all is written
    abbrev z6 : Upper Served
    z6 = begins 20003 (Wrote 1 46) x5

    abbrev c5' : Conn
    c5' = record c5 { heard = false }

    abbrev c6 : Conn
    c6 = multi.wrote_on 46 c5'

    abbrev s6 : Multi
    s6 = multi.set_conn 1 c6 (server_in z6).by_stream

    abbrev x6 : Upper Served
    x6 = takes_to (with_streams s6 (server_in z6)) Nothing z6

    conns6 : (p : ℕ) → 1 ≢ p → s6.conns p ≡ None
    conns6 = away 1 _ _ (away_unheard 1 _ conns5)

    row6 : Goes_to x5 20003 (Wrote 1 46) x6 []
    unfolding stream_timeout response_timeout
    row6 =
        Goes z6 _ _ (Server_moves 0 _ (below 0 1 refl) (served.TellsStreams Nothing s6 refl (wrote_plain 1 46) (multi.AllWritten 1 46 c5' refl some few) tt))
        (Rests x6 (done_with compose x6 0 waiting refl refl refl
        (record { rests = (rests_by by_datagrams) 20003 (server_in x6) (nobody _ (dgrams.forget 0 d4).held none4) (only (λ k (a : Asker). PhaseRests 20003 s6.conns a.phase × (20003 < a.since + stream_timeout by_datagrams)) 0 holding s6.asks refl asks5 (tt, below 20003 30020000 refl)) (only (λ p (x : Conn). (ModeRests by_datagrams) 20003 x.idle x.mode) 1 c6 s6.conns refl conns6 (at_most 20003 19020002 refl)); frames = refl; ignored = tt; foreign = tick_foreign s6 })
        refl others_held refl (λ j ne. not_held (x6.ups 0) j (none4 j) (asks5 j ne)) (below 20003 5000000 refl)))

    -- the answer comes
    abbrev z7 : Upper Served
    z7 = begins 20004 (Bytes 1 b) x6

    abbrev c6' : Conn
    c6' = record c6 { heard = false }

    abbrev c7 : Conn
    c7 = multi.fed_by b c6'

    abbrev s7 : Multi
    s7 = multi.set_conn 1 c7 (server_in z7).by_stream

    abbrev y7 : Upper Served
    y7 = moved 0 (does (served.reads_at 1 (fed Length b).frames s7 (z7.ups 0)) z7.place Nothing) z7

    abbrev write : Written
    write = record { request = 0; octets = w; moment = 20002 }

    abbrev c8 : Conn
    c8 = multi.framed m2 (multi.Idle 20004) c7

    abbrev s8 : Multi
    s8 = multi.set_conn 1 c8 (multi.drop 0 s7)

    abbrev v7 : Upper Served
    v7 = moved 0 (does (served.frames_left [] s8 (y7.ups 0)) y7.place (Gives 0 (multi.result_of r (id_in m2) m2))) y7

    abbrev leaving : Leaving
    leaving = record { request = 0; asked = r; result = Ok m2; given = Ok m2; is_stored = true; stale = None }

    abbrev u7 : Upper Served
    u7 = leave leaving (record v7 { board = [] })

    abbrev x7 : Upper Served
    x7 = record u7 { leaving = []; stored = store 20004 leaving u7.stored }

    answers_so : answers r (id_in m2) m2 ≡ true
    answers_so = subst (λ i. answers r i m2 ≡ true) (sym id0) answers2

    result_is : multi.result_of r (id_in m2) m2 ≡ Ok m2
    result_is = ap (λ b. if b then Ok m2 else Err errors.WrongReplyForQuery) answers_so

    leaves_so : outcome first_settings 0 r (multi.result_of r (id_in m2) m2) ≡ leaving
    leaves_so = ap (outcome first_settings 0 r) result_is ∙ kept

    no_ids : (j : ℕ) → c8.ids j ≡ None
    no_ids = subst (λ i. (j : ℕ) → with_at i None c7.ids j ≡ None) (sym id0) (gone 0 c7.ids (away 0 _ _ (λ j ne. refl)))

    asks8 : (j : ℕ) → s8.asks j ≡ None
    asks8 = gone 0 _ asks5

    conns8 : (p : ℕ) → 1 ≢ p → s8.conns p ≡ None
    conns8 = away 1 _ _ (away 1 _ _ (away_unheard 1 _ conns6))

    -- the frame is taken, and its result
    takes_frame : multi.TakesFrame 20004 1 m2 s7 (Gives 0 (multi.result_of r (id_in m2) m2)) s8
    takes_frame = multi.IsResult c7 write (multi.Idle 20004) holding refl good (subst (λ i. c7.ids i ≡ Some write) (sym id0) refl) refl (ap (multi.Holding 1) (sym id0)) (multi.Rests no_ids)

    delivers : Move by_datagrams first_settings compose P v7 (unmade u7)
    delivers = subst (λ l. Move by_datagrams first_settings compose P v7 (unmade (leave l (record v7 { board = [] })))) leaves_so (Delivers [] [] (record { server = 0; request = 0; result = multi.result_of r (id_in m2) m2 }) waiting _ refl refl (ap (λ x. waits_for_others first_settings x) result_is ∙ final) Caches)

    row7 : Goes_to x6 20004 (Bytes 1 b) x7 (Reply 0 (Ok m2) ∷ [])
    unfolding stream_timeout response_timeout
    row7 =
        Goes z7 _ _ (Server_moves 0 _ (below 0 1 refl) (served.Reads 1 b c6' refl refl refl))
        (Goes y7 _ _ (Server_moves 0 _ (below 0 1 refl) (served.TakesOne m2 [] (Gives 0 (multi.result_of r (id_in m2) m2)) s8 frames ((in_time_by by_datagrams) 20004 (server_in y7) (nobody _ (dgrams.forget 0 d4).held none4) (only (λ k (a : Asker). 20004 < a.since + stream_timeout by_datagrams) 0 holding s7.asks refl asks5 (below 20004 30020000 refl))) takes_frame))
        (Goes v7 _ _ delivers
        (Goes u7 _ _ (Replies [] [] leaving refl)
        (Rests x7 (done_with_none compose x7 refl refl refl
        (record { rests = (rests_by by_datagrams) 20004 (server_in x7) (nobody _ (dgrams.forget 0 d4).held none4) (nobody _ s8.asks asks8) (only (λ p (x : Conn). (ModeRests by_datagrams) 20004 x.idle x.mode) 1 c8 s8.conns refl conns8 stays); frames = refl; ignored = tt; foreign = tick_foreign s8 })
        (gone_held 0 _ others_held) (λ j. not_held (x7.ups 0) j (none4 j) (asks8 j)))))))

    pub cut_run : IsRun by_datagrams first_settings compose P x0
        (at 0 (Ask r) (Start 0 0 Dgram ∷ OpenDgram 0 0 ∷ [])
        ∷ at 10 (Opened 0) (Send 0 0 4660 o1 ∷ [])
        ∷ at 20000 (Datagram 0 m1) (Close 0 ∷ Start 0 0 Stream ∷ OpenStream 1 0 ∷ [])
        ∷ at 20001 (Datagram 0 m0) []
        ∷ at 20002 (Opened 1) (Write 1 0 0 w ∷ [])
        ∷ at 20003 (Wrote 1 46) []
        ∷ at 20004 (Bytes 1 b) (Reply 0 (Ok m2) ∷ [])
        ∷ [])
    cut_run = row _ 0 _ _ x1 _ row1 (row x1 10 _ _ x2 _ row2 (row x2 20000 _ _ x3 _ row3 (row x3 20001 _ _ x4 _ row4 (row x4 20002 _ _ x5 _ row5 (row x5 20003 _ _ x6 _ row6 (row x6 20004 _ _ x7 _ row7 (Ends x7)))))))

  -- An answer is given again as a view, and then no more.
  module _ (o1 m v30 v100 : Octets) (x : Parts Data) (carries : CarriesBy by_datagrams Dgram o1 r 4660) (long : 12 ≤ length (take 2000 m)) (answers1 : answers r 4660 (take 2000 m) ≡ true) (whole : truncated (take 2000 m) ≡ false) (kept : outcome first_settings 0 r (Ok (take 2000 m)) ≡ record { request = 0; asked = r; result = Ok (take 2000 m); given = Ok (take 2000 m); is_stored = true; stale = None }) (final : waits_for_others first_settings (Ok (take 2000 m)) ≡ false)
      (covers : KeyCovers (key_of r) r) (valid30 : IsValidView first_settings r r (take 2000 m) x 30000000) (says30 : Says v30 (view_of r r 30000000 x)) (valid100 : IsValidView first_settings r r (take 2000 m) x 100000000) (says100 : Says v100 (view_of r r 100000000 x)) where
    -- it is sent at once
    abbrev sent0 : Tryer
    sent0 = record { request = r; tries = 1; stage = dgrams.Sent 0 4660 0 }

    abbrev e3 : Dgrams
    e3 = dgrams.send_at 0 4660 0 0 trying d2

    abbrev t2 : Upper Served
    t2 = begins 0 (Opened 0) x1

    abbrev w2 : Upper Served
    w2 = takes_to (with_dgrams e3 (server_in t2)) (Puts (Send 0 0 4660 o1)) t2

    away3 : (j : ℕ) → 0 ≢ j → e3.held j ≡ None
    away3 = away 0 _ _ others2

    sends : Goes_to x1 0 (Opened 0) w2 (Send 0 0 4660 o1 ∷ [])
    unfolding read_timeout recv_size max_places max_tries
    sends =
        Goes t2 _ _ (Server_moves 0 _ (below 0 1 refl) (served.TellsDgrams (Puts (Send 0 0 4660 o1)) e3 _ refl ((in_time_by by_datagrams) 0 (server_in t2) (only (λ k (a : Tryer). (StageInTime by_datagrams) 0 a.stage) 0 trying d2.held refl others2 tt) (nobody _ nowhere (λ j. refl)))
        (dgrams.IsSent 0 trying 0 4660 o1 refl refl refl carries) (opens_nothing 0 (server_in t2).by_stream refl) (AsItIs (only (λ k (a : Tryer). StageSettled a.stage) 0 sent0 e3.held refl away3 (sent_settled 0 4660 0)))))
        (Rests w2 (done_with compose w2 0 waiting refl refl refl
        (record { rests = (rests_by by_datagrams) 0 (server_in w2) (only (λ k (a : Tryer). (StageRests by_datagrams) 0 1 a.stage) 0 sent0 e3.held refl away3 (below 0 5000000 refl)) (nobody _ nowhere (λ j. refl)) (nobody _ nowhere (λ j. refl)); frames = refl; ignored = tt; foreign = tick_foreign (server_in w2).by_stream })
        refl others_held refl (λ j ne. not_held (w2.ups 0) j (away3 j ne) refl) (below 0 5000000 refl)))

    -- the answer comes
    abbrev ended0 : Tryer
    ended0 = dgrams.staged sent0 (dgrams.stage_of (take 2000 m))

    abbrev e4 : Dgrams
    e4 = dgrams.leave 0 0 sent0 (dgrams.stage_of (take 2000 m)) e3

    abbrev t3 : Upper Served
    t3 = begins 0 (Datagram 0 m) w2

    abbrev act : Step Served
    act = record { state = has_moved (with_dgrams (dgrams.forget 0 e4) (server_in t3)) (has_taken_it (with_dgrams e4 (server_in t3)) (t3.ups 0)); place = 1; outs = Close 0 ∷ []; posts = record { request = 0; result = Ok (take 2000 m) } ∷ [] }

    abbrev a3 : Upper Served
    a3 = moved 0 act t3

    abbrev first : Leaving
    first = record { request = 0; asked = r; result = Ok (take 2000 m); given = Ok (take 2000 m); is_stored = true; stale = None }

    abbrev b3 : Upper Served
    b3 = leave first (record a3 { board = [] })

    abbrev w3 : Upper Served
    w3 = record b3 { leaving = []; stored = store 0 first b3.stored }

    is_ended : dgrams.stage_of (take 2000 m) ≡ dgrams.Ending (Ok (take 2000 m))
    is_ended = ap (λ b. if b then dgrams.Cut else dgrams.Ending (Ok (take 2000 m))) whole

    none_there : (j : ℕ) → (dgrams.forget 0 e4).held j ≡ None
    none_there = gone 0 _ (away 0 _ _ away3)

    none_tried : (j : ℕ) → w3.held j ≡ None
    none_tried = gone_held 0 _ others_held

    gives : Move by_datagrams first_settings compose P a3 (unmade b3)
    gives = subst (λ l. Move by_datagrams first_settings compose P a3 (unmade (leave l (record a3 { board = [] })))) kept (Delivers [] [] (record { server = 0; request = 0; result = Ok (take 2000 m) }) waiting _ refl refl final Caches)

    replies : Goes_to w2 0 (Datagram 0 m) w3 (Close 0 ∷ Reply 0 (Ok (take 2000 m)) ∷ [])
    unfolding read_timeout recv_size max_places max_tries
    replies =
        Goes t3 _ _ (Server_moves 0 act (below 0 1 refl) (served.TellsDgrams (Puts (Close 0)) e4 act refl ((in_time_by by_datagrams) 0 (server_in t3) (only (λ k (a : Tryer). (StageInTime by_datagrams) 0 a.stage) 0 sent0 e3.held refl away3 (below 0 5000000 refl)) (nobody _ nowhere (λ j. refl)))
        (dgrams.IsAnswered 0 sent0 0 4660 0 m refl refl refl long answers1) (datagram_foreign 0 m (server_in t3).by_stream) (WithResult 0 ended0 (Ok (take 2000 m)) refl is_ended)))
        (Goes a3 _ _ gives
        (Goes b3 _ _ (Replies [] [] first refl)
        (Rests w3 (done_with_none compose w3 refl refl refl
        (record { rests = (rests_by by_datagrams) 0 (server_in w3) (nobody _ (dgrams.forget 0 e4).held none_there) (nobody _ nowhere (λ j. refl)) (nobody _ nowhere (λ j. refl)); frames = refl; ignored = tt; foreign = tick_foreign (server_in w3).by_stream })
        none_tried (λ j. not_held (w3.ups 0) j (none_there j) refl)))))

    -- it is asked again
    abbrev stored : Entry
    stored = entry_of 0 first

    abbrev viewed : ℕ → Octets → Leaving
    viewed k y = record { request = k; asked = r; result = Ok y; given = Ok y; is_stored = false; stale = None }

    abbrev t4 : Upper Served
    t4 = begins 30000000 (Ask r) w3

    abbrev b4 : Upper Served
    b4 = answer_at_once (viewed 1 v30) t4

    abbrev w4 : Upper Served
    w4 = record b4 { leaving = [] }

    after_30 : Goes_to w3 30000000 (Ask r) w4 (Reply 1 (Ok v30) ∷ [])
    after_30 =
        Goes t4 _ _ (Answers r (viewed 1 v30) refl (Viewed stored (take 2000 m) v30 x 30000000 (o, composed) (inl refl) refl covers refl valid30 says30))
        (Goes b4 _ _ (Replies [] [] (viewed 1 v30) refl)
        (Rests w4 (done_with_none compose w4 refl refl refl
        (record { rests = (rests_by by_datagrams) 30000000 (server_in w4) (nobody _ (dgrams.forget 0 e4).held none_there) (nobody _ nowhere (λ j. refl)) (nobody _ (server_in w4).by_stream.conns (λ j. refl)); frames = refl; ignored = tt; foreign = ask_foreign r (server_in w4).by_stream })
        none_tried (λ j. not_held (w4.ups 0) j (none_there j) refl))))

    -- and once more
    abbrev t5 : Upper Served
    t5 = begins 100000000 (Ask r) w4

    abbrev b5 : Upper Served
    b5 = answer_at_once (viewed 2 v100) t5

    abbrev w5 : Upper Served
    w5 = record b5 { leaving = [] }

    after_100 : Goes_to w4 100000000 (Ask r) w5 (Reply 2 (Ok v100) ∷ [])
    after_100 =
        Goes t5 _ _ (Answers r (viewed 2 v100) refl (Viewed stored (take 2000 m) v100 x 100000000 (o, composed) (inl refl) refl covers refl valid100 says100))
        (Goes b5 _ _ (Replies [] [] (viewed 2 v100) refl)
        (Rests w5 (done_with_none compose w5 refl refl refl
        (record { rests = (rests_by by_datagrams) 100000000 (server_in w5) (nobody _ (dgrams.forget 0 e4).held none_there) (nobody _ nowhere (λ j. refl)) (nobody _ (server_in w5).by_stream.conns (λ j. refl)); frames = refl; ignored = tt; foreign = ask_foreign r (server_in w5).by_stream })
        none_tried (λ j. not_held (w5.ups 0) j (none_there j) refl))))

    -- too late: it is tried anew
    abbrev t6 : Upper Served
    t6 = begins 101000000 (Ask r) w5

    abbrev a6 : Upper Served
    a6 = take_on r None t6

    abbrev newest : Waiting
    newest = newcomer r 101000000

    abbrev e5 : Dgrams
    e5 = record (dgrams.forget 0 e4) { held = with_at 3 (Some queued) (dgrams.forget 0 e4).held }

    abbrev b6 : Upper Served
    b6 = goes_to (with_dgrams e5 (server_in a6)) (Puts (Start 3 0 Dgram)) (hand 3 0 newest a6)

    abbrev e6 : Dgrams
    e6 = dgrams.try_at 1 3 queued e5

    abbrev w6 : Upper Served
    w6 = goes_to (with_dgrams e6 (server_in b6)) (Puts (OpenDgram 1 0)) b6

    away6 : (j : ℕ) → 3 ≢ j → e6.held j ≡ None
    away6 = away 3 _ _ (away 3 _ _ (λ j ne. none_there j))

    away_tried : (j : ℕ) → 3 ≢ j → w6.held j ≡ None
    away_tried = away_held 3 _ _ (away_held 3 _ _ (λ j ne. none_tried j))

    after_101 : Goes_to w5 101000000 (Ask r) w6 (Start 3 0 Dgram ∷ OpenDgram 1 0 ∷ [])
    unfolding max_places
    after_101 =
        Goes t6 _ _ (Takes_on r o None refl composed (below 0 1 refl) (λ e q. absurd (cc)))
        (Goes a6 _ _ (Hands_on 0 3 newest _ (below 0 1 refl) refl refl (served.IsHanded ByDatagrams (Puts (Start 3 0 Dgram)) (with_dgrams e5 (server_in a6)) refl (server.ToDgrams refl refl)))
        (Goes b6 _ _ (Server_moves 0 _ (below 0 1 refl) (served.ByDgram (Puts (OpenDgram 1 0)) e6 _ (dgrams.Opens 3 queued refl refl (below 0 100 refl)) (AsItIs (only (λ k (a : Tryer). StageSettled a.stage) 3 (dgrams.staged queued (dgrams.Trying 1)) e6.held refl away6 (trying_settled 1)))))
        (Rests w6 (done_with compose w6 3 (handing 0 newest) refl refl refl
        (record { rests = (rests_by by_datagrams) 101000000 (server_in w6) (only (λ k (a : Tryer). (StageRests by_datagrams) 101000000 1 a.stage) 3 (dgrams.staged queued (dgrams.Trying 1)) e6.held refl away6 tt) (nobody _ nowhere (λ j. refl)) (nobody _ (server_in w6).by_stream.conns (λ j. refl)); frames = refl; ignored = tt; foreign = ask_foreign r (server_in w6).by_stream })
        refl away_tried refl (λ j ne. not_held (w6.ups 0) j (away6 j ne) refl) (below 101000000 106000000 refl)))))

    pub view_run : IsRun by_datagrams first_settings compose P x0
        (at 0 (Ask r) (Start 0 0 Dgram ∷ OpenDgram 0 0 ∷ [])
        ∷ at 0 (Opened 0) (Send 0 0 4660 o1 ∷ [])
        ∷ at 0 (Datagram 0 m) (Close 0 ∷ Reply 0 (Ok (take 2000 m)) ∷ [])
        ∷ at 30000000 (Ask r) (Reply 1 (Ok v30) ∷ [])
        ∷ at 100000000 (Ask r) (Reply 2 (Ok v100) ∷ [])
        ∷ at 101000000 (Ask r) (Start 3 0 Dgram ∷ OpenDgram 1 0 ∷ [])
        ∷ [])
    view_run = row _ 0 _ _ x1 _ row1 (row x1 0 _ _ w2 _ sends (row w2 0 _ _ w3 _ replies (row w3 30000000 _ _ w4 _ after_30 (row w4 100000000 _ _ w5 _ after_100 (row w5 101000000 _ _ w6 _ after_101 (Ends w6))))))

-- The worked traces

pub cut_is : (answers plain_request 4660 (cut_answer 18 52) ≡ true) × (truncated (cut_answer 18 52) ≡ true) × (is_bad (answer 0 0 100) ≡ false) × (id_in (answer 0 0 100) ≡ 0) × (answers plain_request 0 (answer 0 0 100) ≡ true)
unfolding name_at walk head_at data_at data_spelling question_at record_at list_at items_at questions_of answer_of authority_of additional_of answer_items authority_items additional_items first_question sole_question reads knows opt_of opt_rcode contents_of is_answer answers truncated is_bad id_in
cut_is = (refl, refl, refl, refl, refl)

keeps : 20004 < 20004 + told_idle (keepalive_of (answer 0 0 100)) (idle_timeout by_datagrams)
unfolding name_at walk head_at data_at data_spelling question_at record_at list_at items_at questions_of answer_of authority_of additional_of answer_items authority_items additional_items first_question sole_question reads knows opt_of opt_rcode contents_of keepalive_of idle_timeout
keeps = below 20004 10020004 refl

kept_answer : outcome first_settings 0 plain_request (Ok (answer 0 0 100)) ≡ record { request = 0; asked = plain_request; result = Ok (answer 0 0 100); given = Ok (answer 0 0 100); is_stored = true; stale = None }
unfolding name_at walk head_at data_at data_spelling question_at record_at list_at items_at questions_of answer_of authority_of additional_of answer_items authority_items additional_items first_question sole_question reads knows opt_of opt_rcode contents_of base_is_read truncated question_of key_of is_cacheable read_parts known_parts second validity_of_message
kept_answer = refl

kept_first : outcome first_settings 0 plain_request (Ok (answer 18 52 100)) ≡ record { request = 0; asked = plain_request; result = Ok (answer 18 52 100); given = Ok (answer 18 52 100); is_stored = true; stale = None }
unfolding name_at walk head_at data_at data_spelling question_at record_at list_at items_at questions_of answer_of authority_of additional_of answer_items authority_items additional_items first_question sole_question reads knows opt_of opt_rcode contents_of base_is_read truncated question_of key_of is_cacheable read_parts known_parts second validity_of_message
kept_first = refl

pub is_final : (m : Octets) → waits_for_others first_settings (Ok m) ≡ false
unfolding is_deferred
is_final m = refl

pub cut_goes_on_is_a_run : IsARun cut_goes_on
cut_goes_on_is_a_run compose o composed = cut_run compose o plain_request composed (as_datagram 18 52) (cut_answer 18 52) (answer 18 52 100) as_frame (frame (answer 0 0 100)) (answer 0 0 100) carried (at_most 12 29 refl) cut_is.0 cut_is.1 carried_in_frame (below 0 46 refl) (at_most 46 46 refl) refl cut_is.2 cut_is.3 cut_is.4 keeps kept_answer (is_final (answer 0 0 100))

same_parts : viewable_100.parts ≡ viewable_30.parts
same_parts = (let z = sym viewable_100.known ∙ viewable_30.known in cc)

is_valid_view : (age : ℕ) (x : Parts Data) → known_parts (answer 18 52 100) ≡ Some x → age ≤ view_validity first_settings plain_request plain_request x → IsValidView first_settings plain_request plain_request (answer 18 52 100) x age
is_valid_view age x known le = record { known = known; validity = 100000000; is_validity = computed.valid_for_100; kept = below 0 100000000 refl; in_time = le }

pub asked_again_is_a_run : IsARun asked_again
asked_again_is_a_run compose o composed = view_run compose o plain_request composed (as_datagram 18 52) (answer 18 52 100) (answer 18 52 70) (answer 18 52 0) viewable_30.parts carried (at_most 12 45 refl) answers_it whole_answer kept_first (is_final (answer 18 52 100)) (record { cacheable = cacheable; keys = keys_refl (key_of plain_request) }) (is_valid_view 30000000 viewable_30.parts viewable_30.known viewable_30.in_time) viewable_30.says (is_valid_view 100000000 viewable_30.parts viewable_30.known (subst (λ x. 100000000 ≤ view_validity first_settings plain_request plain_request x) same_parts viewable_100.in_time)) (subst (λ x. Says (answer 18 52 0) (view_of plain_request plain_request 100000000 x)) same_parts viewable_100.says)
