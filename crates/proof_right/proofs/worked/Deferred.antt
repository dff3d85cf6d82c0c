-- A worked trace with two servers is a run: what the first server gave is given once the second failed.
use Rattle.std.proofs.Common.{◌≡◌, ◌≢◌, ℕ, zero, suc, ◌+◌, ◌<◌, ◌≤◌, true, false, inl, inr, Option, Some, None, List, [], ◌∷◌, is_some, refl, take, length, arith, ap, sym, subst, ◌∙◌}
use Rattle.std.specs.Prelude.{Result, Ok, Err, if◌then◌else◌}
use Rattle.std.proofs.lemmas.Bool.{cases_eq}
use Rattle.dns_names.specs.Name.{name_at, walk, head_at}
use Rattle.dns_base.specs.Data.{data_at, data_spelling}
use Rattle.dns_base.specs.Message.{question_at, record_at, list_at, items_at, questions_of, answer_of, authority_of, additional_of, answer_items, authority_items, additional_items, first_question, sole_question, reads}
use Rattle.dns_base.specs.OptRecord.{opt_of, opt_rcode}
use Rattle.client_request.specs.Composed.{composed}
use Rattle.client_request.specs.Request.{Request}
use Rattle.client_request.specs.declared.error.Error.{Error}
use Rattle.client_request.specs.declared.error.Error.TheVariants as errors
use Rattle.client_request.specs.declared.error.QueryError.TheVariants as query
use Rattle.client_request.specs.declared.fault.Fault.{Fault}
use Rattle.client_request.specs.declared.fault.Fault.TheVariants.{Refused}
use Rattle.client_request.specs.declared.event.Out.{Out}
use Rattle.client_request.specs.declared.event.Out.TheVariants.{Start, OpenDgram, Send, Close, Reply}
use Rattle.client_request.specs.declared.event.Row.{Row}
use Rattle.client_request.specs.declared.event.Via.TheVariants.{Dgram}
use Rattle.client_request.specs.declared.event.What.{What}
use Rattle.client_request.specs.declared.event.What.TheVariants.{Ask, Opened, OpenFailed, Datagram}
use Rattle.right_trace.specs.Trace.{ByDatagrams}
use Rattle.right_trace.specs.Time.{read_timeout, recv_size, max_places, max_tries}
use Rattle.right_trace.specs.Messages.{Octets, CarriesBy, base_is_read, answers, truncated}
use Rattle.right_trace.specs.Requests.{is_ask}
use Rattle.right_trace.specs.Right.{Right}
use Rattle.right_trace.specs.Timely.{Timely}
use Rattle.right_trace.specs.Validity.{second, validity_of_message, waits_for_others}
use Rattle.right_trace.specs.Keys.{key_of, question_of, is_cacheable}
use Rattle.dns_base.specs.Knowing.{knows}
use Rattle.right_trace.specs.Parts.{read_parts, known_parts}
use Rattle.proof_right.specs.machine.Streams.{Act, Puts, Nothing, Multi, IsForeign}
use Rattle.right_trace.specs.Updates.{with_at}
use Rattle.proof_right.specs.machine.Dgrams as dgrams
use Rattle.proof_right.specs.machine.Dgrams.{Tryer, Dgrams, IsIgnored}
use Rattle.proof_right.specs.machine.Part.{ServerPart, Act as Step}
use Rattle.proof_right.specs.machine.Server as server
use Rattle.proof_right.specs.machine.Server.{Server}
use Rattle.proof_right.specs.machine.Served as served
use Rattle.proof_right.specs.machine.Served.{Served, RestsNow, holds, served, does, has_moved, has_taken_it, AsItIs, WithResult}
use Rattle.proof_right.specs.machine.Client.{Caches, Waiting, Leaving, Posted, outcome, leave, store, unmade, Upper, Move, moved, hand, handing, keeping, newcomer, take_on, with_held, row_begins, Moves, Goes, Rests, IsDone, Takes_on, Hands_on, Server_moves, Keeps_back, Concludes, Replies, IsRun, Ends, Goes_on, begun}
use Rattle.proof_right.specs.examples.Messages.{plain_request, as_datagram, failing}
use Rattle.proof_right.specs.examples.Rows.{at, two_servers, deferring}
use Rattle.proof_right.specs.examples.Servers.{failing_server}
use Rattle.proof_right.proofs.Composing.{composed_composes}
use Rattle.proof_right.proofs.server.Concrete.{every_run}
use Rattle.proof_right.proofs.worked.Resting.{only, nobody, away, gone, away_held, gone_held, not_held, below, at_most, StageSettled, trying_settled, sent_settled, StageInTime, in_time_by, tick_foreign, ask_foreign, datagram_foreign, opens_nothing, nobody_tries, nobody_sent, StageRests, rests_by}
use Rattle.proof_right.proofs.worked.Rightness.{is_composed, of_octets}
use Rattle.proof_right.proofs.worked.Servers.{carried, answers_it, whole, defers_it}

abbrev P : ServerPart two_servers
P = served two_servers

both : (Q : ℕ → Type 0) → Q 0 → Q 1 → (i : ℕ) → i < 2 → Q i
both Q a b zero lt = a
both Q a b (suc zero) lt = b
both Q a b (suc (suc i)) lt = absurd (omega arith)

-- an opening that fails is nobody's
fails_nowhere : (p : ℕ) (f : Fault) (m : Multi) → m.opening ≡ None → IsForeign (OpenFailed p f) m
fails_nowhere p f m none e = (let z = sym none ∙ e in cc)

nobody_fails : (p : ℕ) (f : Fault) (d : Dgrams) → d.at p ≡ None → IsIgnored two_servers (OpenFailed p f) d
nobody_fails p f d none x = (let z = sym none ∙ x.2 in cc)

-- the part of one of the servers, and what its moves make of the client
abbrev server_at : ℕ → Upper Served → Server
server_at i y = (y.ups i).server

abbrev goes_to : ℕ → Server → Act → Upper Served → Upper Served
goes_to i v x y = moved i (does (has_moved v (y.ups i)) y.place x) y

abbrev takes_to : ℕ → Server → Act → Upper Served → Upper Served
takes_to i v x y = moved i (does (has_taken_it v (y.ups i)) y.place x) y

abbrev with_dgrams : Dgrams → Server → Server
with_dgrams d v = record v { by_dgram = d }

abbrev nowhere : {V : Type 0} → ℕ → Option V
nowhere k = None

-- a server that has nothing rests
idle : (n : ℕ) (u : Served) → ((k : ℕ) → u.server.by_dgram.held k ≡ None) → ((k : ℕ) → u.server.by_stream.asks k ≡ None) → ((p : ℕ) → u.server.by_stream.conns p ≡ None) → u.clock ≡ n → u.frames ≡ [] → IsIgnored two_servers u.pending u.server.by_dgram → IsForeign u.pending u.server.by_stream → RestsNow two_servers u
idle n u held asks conns clock frames ignored foreign = record { rests = (rests_by two_servers) u.clock u.server (nobody _ u.server.by_dgram.held held) (nobody _ u.server.by_stream.asks asks) (nobody _ u.server.by_stream.conns conns); frames = frames; ignored = ignored; foreign = foreign }

module _ (compose : Request → Result Octets Error) (o : Octets) (r : Request) (composed : compose r ≡ Ok o) where
  abbrev begins : ℕ → What → Upper Served → Upper Served
  begins n w x = row_begins two_servers deferring compose P (record { moment = record { 0 = n }; what = w }) x

  abbrev Goes_to : (x : Upper Served) (n : ℕ) (w : What) (y : Upper Served) → List Out → Type 0
  Goes_to x n w y outs = Moves two_servers deferring compose P (begins n w x) (record { state = y; outs = outs })

  row : (x : Upper Served) (n : ℕ) (w : What) (outs : List Out) (y : Upper Served) (rows : List Row) → Goes_to x n w y outs → IsRun two_servers deferring compose P y rows → IsRun two_servers deferring compose P x (at n w outs ∷ rows)
  row x n w outs y rows moves more = Goes_on x (at n w outs) y rows (record { made = record { state = y; outs = outs }; moves = moves; outs = refl; leaves = refl }) more

  -- server s holds the one request that is tried
  tries_one : (x : Upper Served) (a : Waiting) (s : ℕ) → s < 2 → is_ask x.pending ≡ false → x.board ≡ [] → x.leaving ≡ [] → RestsNow two_servers (x.ups 0) → RestsNow two_servers (x.ups 1) → x.held 0 ≡ Some a → ((j : ℕ) → 0 ≢ j → x.held j ≡ None) → holds (x.ups s) 0 ≡ true → ((j : ℕ) → 0 ≢ j → holds (x.ups 0) j ≡ false) → ((j : ℕ) → 0 ≢ j → holds (x.ups 1) j ≡ false) → x.now < a.moment + 5000000 → IsDone two_servers deferring compose P x
  tries_one x a s lt pend board leaving rest0 rest1 held others has none0 none1 early = record {
    taken = pend;
    board = board;
    leaving = leaving;
    rests = both (λ i. RestsNow two_servers (x.ups i)) rest0 rest1;
    tried_alone = λ i j low h. elim (cases_eq 0 j) [ inl is ↦ subst (λ j. is_some (x.held j) ≡ true) is (ap is_some held) | inr ne ↦ absurd (let z : true ≡ false = sym h ∙ both (λ i. holds (x.ups i) j ≡ false) (none0 j ne) (none1 j ne) i low in cc) ];
    goes_on = only (λ j b. (i : ℕ) × (i < 2) × (holds (x.ups i) j ≡ true)) 0 a x.held held others (s, lt, has);
    early = only (λ j b. x.now < b.moment + 5000000) 0 a x.held held others early;
  }

  -- the request is asked, and handed to the second server
  abbrev first : Waiting
  first = handing 1 (newcomer r 0)

  abbrev queued : Tryer
  queued = record { request = r; tries = 0; stage = dgrams.Queued }

  abbrev trying : Tryer
  trying = dgrams.staged queued (dgrams.Trying 0)

  abbrev d1 : Dgrams
  d1 = record dgrams.no_datagram { held = with_at 0 (Some queued) (λ k. None) }

  abbrev d2 : Dgrams
  d2 = dgrams.try_at 0 0 queued d1

  abbrev x0 : Upper Served
  x0 = begun two_servers deferring compose P

  abbrev y1 : Upper Served
  y1 = take_on r None (begins 0 (Ask r) x0)

  abbrev z1 : Upper Served
  z1 = goes_to 1 (with_dgrams d1 (server_at 1 y1)) (Puts (Start 0 1 Dgram)) (hand 0 1 (newcomer r 0) y1)

  abbrev x1 : Upper Served
  x1 = goes_to 1 (with_dgrams d2 (server_at 1 z1)) (Puts (OpenDgram 0 1)) z1

  others2 : (j : ℕ) → 0 ≢ j → d2.held j ≡ None
  others2 = away 0 _ _ (away 0 _ _ (λ j ne. refl))

  others_held : (j : ℕ) → 0 ≢ j → x1.held j ≡ None
  others_held = away_held 0 _ _ (away_held 0 _ _ (λ j ne. refl))

  row1 : Goes_to x0 0 (Ask r) x1 (Start 0 1 Dgram ∷ OpenDgram 0 1 ∷ [])
  unfolding max_places
  row1 =
      Goes (begins 0 (Ask r) x0) _ _ (Takes_on r o None refl composed (below 0 2 refl) (λ e q. absurd (cc)))
      (Goes y1 _ _ (Hands_on 1 0 (newcomer r 0) _ (below 1 2 refl) refl refl (served.IsHanded ByDatagrams (Puts (Start 0 1 Dgram)) (with_dgrams d1 (server_at 1 y1)) refl (server.ToDgrams refl refl)))
      (Goes z1 _ _ (Server_moves 1 _ (below 1 2 refl) (served.ByDgram (Puts (OpenDgram 0 1)) d2 _ (dgrams.Opens 0 queued refl refl (below 0 100 refl)) (AsItIs (only (λ k (a : Tryer). StageSettled a.stage) 0 trying d2.held refl others2 (trying_settled 0)))))
      (Rests x1 (tries_one x1 first 1 (below 1 2 refl) refl refl refl
      (idle 0 (x1.ups 0) (λ k. refl) (λ k. refl) (λ p. refl) refl refl tt (ask_foreign r (server_at 0 x1).by_stream))
      (record { rests = (rests_by two_servers) 0 (server_at 1 x1) (only (λ k (a : Tryer). (StageRests two_servers) 0 1 a.stage) 0 trying d2.held refl others2 tt) (nobody _ nowhere (λ j. refl)) (nobody _ nowhere (λ j. refl)); frames = refl; ignored = tt; foreign = ask_foreign r (server_at 1 x1).by_stream })
      refl others_held refl (λ j ne. refl) (λ j ne. not_held (x1.ups 1) j (others2 j ne) refl) (below 0 5000000 refl)))))

  -- It is sent, and what answers it is deferred.
  module _ (o1 m : Octets) (carries : CarriesBy two_servers Dgram o1 r 0) (long : 12 ≤ length (take 2000 m)) (answers_so : answers r 0 (take 2000 m) ≡ true) (uncut : truncated (take 2000 m) ≡ false) (waits : waits_for_others deferring (Ok (take 2000 m)) ≡ true)
      (kept : outcome deferring 0 r (Ok (take 2000 m)) ≡ record { request = 0; asked = r; result = Ok (take 2000 m); given = Ok (take 2000 m); is_stored = true; stale = None }) where
    abbrev sent : Tryer
    sent = record { request = r; tries = 1; stage = dgrams.Sent 0 0 0 }

    abbrev d3 : Dgrams
    d3 = dgrams.send_at 0 0 0 0 trying d2

    abbrev y2 : Upper Served
    y2 = begins 0 (Opened 0) x1

    abbrev x2 : Upper Served
    x2 = takes_to 1 (with_dgrams d3 (server_at 1 y2)) (Puts (Send 0 0 0 o1)) y2

    others3 : (j : ℕ) → 0 ≢ j → d3.held j ≡ None
    others3 = away 0 _ _ others2

    row2 : Goes_to x1 0 (Opened 0) x2 (Send 0 0 0 o1 ∷ [])
    unfolding read_timeout recv_size max_places max_tries
    row2 =
        Goes y2 _ _ (Server_moves 1 _ (below 1 2 refl) (served.TellsDgrams (Puts (Send 0 0 0 o1)) d3 _ refl ((in_time_by two_servers) 0 (server_at 1 y2) (only (λ k (a : Tryer). (StageInTime two_servers) 0 a.stage) 0 trying d2.held refl others2 tt) (nobody _ nowhere (λ j. refl)))
        (dgrams.IsSent 0 trying 0 0 o1 refl refl refl carries) (opens_nothing 0 (server_at 1 y2).by_stream refl) (AsItIs (only (λ k (a : Tryer). StageSettled a.stage) 0 sent d3.held refl others3 (sent_settled 0 0 0)))))
        (Rests x2 (tries_one x2 first 1 (below 1 2 refl) refl refl refl
        (idle 0 (x2.ups 0) (λ k. refl) (λ k. refl) (λ p. refl) refl refl ((nobody_tries two_servers) 0 (server_at 0 x2).by_dgram refl) (opens_nothing 0 (server_at 0 x2).by_stream refl))
        (record { rests = (rests_by two_servers) 0 (server_at 1 x2) (only (λ k (a : Tryer). (StageRests two_servers) 0 1 a.stage) 0 sent d3.held refl others3 (below 0 5000000 refl)) (nobody _ nowhere (λ j. refl)) (nobody _ nowhere (λ j. refl)); frames = refl; ignored = tt; foreign = tick_foreign (server_at 1 x2).by_stream })
        refl others_held refl (λ j ne. refl) (λ j ne. not_held (x2.ups 1) j (others3 j ne) refl) (below 0 5000000 refl)))

    -- the answer is kept back, and the request handed to the first server
    abbrev ended : Tryer
    ended = dgrams.staged sent (dgrams.stage_of (take 2000 m))

    abbrev d4 : Dgrams
    d4 = dgrams.leave 0 0 sent (dgrams.stage_of (take 2000 m)) d3

    abbrev y3 : Upper Served
    y3 = begins 10000 (Datagram 0 m) x2

    abbrev act : Step Served
    act = record { state = has_moved (with_dgrams (dgrams.forget 0 d4) (server_at 1 y3)) (has_taken_it (with_dgrams d4 (server_at 1 y3)) (y3.ups 1)); place = 1; outs = Close 0 ∷ []; posts = record { request = 0; result = Ok (take 2000 m) } ∷ [] }

    abbrev z3 : Upper Served
    z3 = moved 1 act y3

    abbrev answered : Posted
    answered = record { server = 1; request = 0; result = Ok (take 2000 m) }

    abbrev second_try : Waiting
    second_try = keeping (record { server = 1; result = Ok (take 2000 m) }) first

    abbrev v3 : Upper Served
    v3 = record z3 { board = []; held = with_held 0 (Some second_try) z3.held }

    abbrev w3 : Upper Served
    w3 = goes_to 0 (with_dgrams d1 (server_at 0 v3)) (Puts (Start 0 0 Dgram)) (hand 0 0 second_try v3)

    abbrev opened : Tryer
    opened = dgrams.staged queued (dgrams.Trying 1)

    abbrev e2 : Dgrams
    e2 = dgrams.try_at 1 0 queued d1

    abbrev x3 : Upper Served
    x3 = goes_to 0 (with_dgrams e2 (server_at 0 w3)) (Puts (OpenDgram 1 0)) w3

    away2 : (j : ℕ) → 0 ≢ j → e2.held j ≡ None
    away2 = away 0 _ _ (away 0 _ _ (λ j ne. refl))

    none4 : (j : ℕ) → (dgrams.forget 0 d4).held j ≡ None
    none4 = gone 0 _ (away 0 _ _ others3)

    is_ended : dgrams.stage_of (take 2000 m) ≡ dgrams.Ending (Ok (take 2000 m))
    is_ended = ap (λ b. if b then dgrams.Cut else dgrams.Ending (Ok (take 2000 m))) uncut

    others_held3 : (j : ℕ) → 0 ≢ j → x3.held j ≡ None
    others_held3 = away_held 0 _ _ (away_held 0 _ _ others_held)

    row3 : Goes_to x2 10000 (Datagram 0 m) x3 (Close 0 ∷ Start 0 0 Dgram ∷ OpenDgram 1 0 ∷ [])
    unfolding read_timeout recv_size max_places max_tries
    row3 =
        Goes y3 _ _ (Server_moves 1 act (below 1 2 refl) (served.TellsDgrams (Puts (Close 0)) d4 act refl ((in_time_by two_servers) 10000 (server_at 1 y3) (only (λ k (a : Tryer). (StageInTime two_servers) 10000 a.stage) 0 sent d3.held refl others3 (below 10000 5000000 refl)) (nobody _ nowhere (λ j. refl)))
        (dgrams.IsAnswered 0 sent 0 0 0 m refl refl refl long answers_so) (datagram_foreign 0 m (server_at 1 y3).by_stream) (WithResult 0 ended (Ok (take 2000 m)) refl is_ended)))
        (Goes z3 _ _ (Keeps_back [] [] answered first refl refl waits)
        (Goes v3 _ _ (Hands_on 0 0 second_try _ (below 0 2 refl) refl refl (served.IsHanded ByDatagrams (Puts (Start 0 0 Dgram)) (with_dgrams d1 (server_at 0 v3)) refl (server.ToDgrams refl refl)))
        (Goes w3 _ _ (Server_moves 0 _ (below 0 2 refl) (served.ByDgram (Puts (OpenDgram 1 0)) e2 _ (dgrams.Opens 0 queued refl refl (below 0 100 refl)) (AsItIs (only (λ k (a : Tryer). StageSettled a.stage) 0 opened e2.held refl away2 (trying_settled 1)))))
        (Rests x3 (tries_one x3 (handing 0 second_try) 0 (below 0 2 refl) refl refl refl
        (record { rests = (rests_by two_servers) 10000 (server_at 0 x3) (only (λ k (a : Tryer). (StageRests two_servers) 10000 1 a.stage) 0 opened e2.held refl away2 tt) (nobody _ nowhere (λ j. refl)) (nobody _ nowhere (λ j. refl)); frames = refl; ignored = (nobody_sent two_servers) 0 m e2 refl; foreign = datagram_foreign 0 m (server_at 0 x3).by_stream })
        (idle 10000 (x3.ups 1) none4 (λ k. refl) (λ p. refl) refl refl tt (tick_foreign (server_at 1 x3).by_stream))
        refl others_held3 refl (λ j ne. not_held (x3.ups 0) j (away2 j ne) refl) (λ j ne. not_held (x3.ups 1) j (none4 j) refl) (below 10000 5000000 refl))))))

    -- its place does not open, so what was kept back is the reply
    abbrev refused : Result Octets Error
    refused = Err (errors.Dgram (query.Connect Refused))

    abbrev failed : Tryer
    failed = dgrams.staged opened (dgrams.Ending refused)

    abbrev e3 : Dgrams
    e3 = dgrams.leave 1 0 opened (dgrams.Ending refused) e2

    abbrev y4 : Upper Served
    y4 = begins 20000 (OpenFailed 1 Refused) x3

    abbrev act4 : Step Served
    act4 = record { state = has_moved (with_dgrams (dgrams.forget 0 e3) (server_at 0 y4)) (has_taken_it (with_dgrams e3 (server_at 0 y4)) (y4.ups 0)); place = 2; outs = []; posts = record { request = 0; result = refused } ∷ [] }

    abbrev z4 : Upper Served
    z4 = moved 0 act4 y4

    abbrev fault : Posted
    fault = record { server = 0; request = 0; result = refused }

    abbrev tried_all : Waiting
    tried_all = keeping (record { server = 0; result = refused }) (handing 0 second_try)

    abbrev v4 : Upper Served
    v4 = record z4 { board = []; held = with_held 0 (Some tried_all) z4.held }

    abbrev leaving : Leaving
    leaving = record { request = 0; asked = r; result = Ok (take 2000 m); given = Ok (take 2000 m); is_stored = true; stale = None }

    abbrev w4 : Upper Served
    w4 = leave leaving v4

    abbrev x4 : Upper Served
    x4 = record w4 { leaving = []; stored = store 20000 leaving w4.stored }

    none_left : (j : ℕ) → (dgrams.forget 0 e3).held j ≡ None
    none_left = gone 0 _ (away 0 _ _ away2)

    none_tried : (j : ℕ) → x4.held j ≡ None
    none_tried = gone_held 0 _ (away_held 0 _ _ others_held3)

    concludes : Move two_servers deferring compose P v4 (unmade w4)
    concludes = subst (λ l. Move two_servers deferring compose P v4 (unmade (leave l v4))) kept (Concludes 0 tried_all (Ok (take 2000 m)) _ refl (both (λ i. tried_all.tried i ≡ true) refl refl) (both (λ i. holds (v4.ups i) 0 ≡ false) refl refl) (λ x i e. i) refl Caches)

    gives_at_last : Goes_to x3 20000 (OpenFailed 1 Refused) x4 (Reply 0 (Ok (take 2000 m)) ∷ [])
    gives_at_last =
        Goes y4 _ _ (Server_moves 0 act4 (below 0 2 refl) (served.TellsDgrams Nothing e3 act4 refl ((in_time_by two_servers) 20000 (server_at 0 y4) (only (λ k (a : Tryer). (StageInTime two_servers) 20000 a.stage) 0 opened e2.held refl away2 tt) (nobody _ nowhere (λ j. refl)))
        (dgrams.DoesNotOpen 0 opened 1 Refused refl refl refl) (fails_nowhere 1 Refused (server_at 0 y4).by_stream refl) (WithResult 0 failed refused refl refl)))
        (Goes z4 _ _ (Keeps_back [] [] fault (handing 0 second_try) refl refl refl)
        (Goes v4 _ _ concludes
        (Goes w4 _ _ (Replies [] [] leaving refl)
        (Rests x4 (record {
          taken = refl;
          board = refl;
          leaving = refl;
          rests = both (λ i. RestsNow two_servers (x4.ups i))
              (idle 20000 (x4.ups 0) none_left (λ k. refl) (λ p. refl) refl refl tt (tick_foreign (server_at 0 x4).by_stream))
              (idle 20000 (x4.ups 1) none4 (λ k. refl) (λ p. refl) refl refl (nobody_fails 1 Refused (server_at 1 x4).by_dgram refl) (fails_nowhere 1 Refused (server_at 1 x4).by_stream refl));
          tried_alone = λ i j low h. absurd (let z : true ≡ false = sym h ∙ both (λ i. holds (x4.ups i) j ≡ false) (not_held (x4.ups 0) j (none_left j) refl) (not_held (x4.ups 1) j (none4 j) refl) i low in cc);
          goes_on = λ j b e. absurd (let z = sym (none_tried j) ∙ e in cc);
          early = λ j b e. absurd (let z = sym (none_tried j) ∙ e in cc);
        })))))

    pub deferred_run : IsRun two_servers deferring compose P x0
        (at 0 (Ask r) (Start 0 1 Dgram ∷ OpenDgram 0 1 ∷ [])
        ∷ at 0 (Opened 0) (Send 0 0 0 o1 ∷ [])
        ∷ at 10000 (Datagram 0 m) (Close 0 ∷ Start 0 0 Dgram ∷ OpenDgram 1 0 ∷ [])
        ∷ at 20000 (OpenFailed 1 Refused) (Reply 0 (Ok (take 2000 m)) ∷ [])
        ∷ [])
    deferred_run = row x0 0 _ _ x1 _ row1 (row x1 0 _ _ x2 _ row2 (row x2 10000 _ _ x3 _ row3 (row x3 20000 _ _ x4 _ gives_at_last (Ends x4))))

kept_failing : outcome deferring 0 plain_request (Ok failing) ≡ record { request = 0; asked = plain_request; result = Ok failing; given = Ok failing; is_stored = true; stale = None }
unfolding name_at walk head_at data_at data_spelling question_at record_at list_at items_at questions_of answer_of authority_of additional_of answer_items authority_items additional_items first_question sole_question reads knows opt_of opt_rcode base_is_read truncated question_of key_of is_cacheable read_parts known_parts second validity_of_message
kept_failing = refl

pub failing_server_is_right : Right two_servers deferring failing_server × Timely two_servers failing_server
failing_server_is_right = every_run two_servers deferring composed failing_server (composed_composes two_servers) (of_octets, (tt, (tt, (tt, tt)))) (deferred_run composed (is_composed.0) plain_request is_composed.1 (as_datagram 0 0) failing carried (at_most 12 12 refl) answers_it whole defers_it kept_failing)
