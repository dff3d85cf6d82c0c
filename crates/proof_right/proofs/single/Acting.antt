-- What timers of the one server do, done by the client of parts.
use Rattle.proof_right.proofs.Received.{places_on}
use Rattle.std.proofs.Common.{◌≡◌, ◌≢◌, ℕ, ◌+◌, ◌-◌, ◌<◌, ◌≤◌, Bool, true, false, ◌⊎◌, inl, inr, Option, Some, None, List, [], ◌∷◌, ◌++◌, length, refl, arith, sym, ap, subst, ◌∙◌, ◌==◌}
use Rattle.std.specs.Prelude.{if◌then◌else◌, ◌||◌, is_some, nat_lt, Result, Ok, Err, option_map}
use Rattle.std.proofs.lemmas.Bool.Decides.{nat_tests}
use Rattle.std.proofs.lemmas.Bool.{cases_eq, ltb-true, ltb-false}
use Rattle.client_request.specs.Request.{Request}
use Rattle.client_request.specs.declared.error.Error.{Error}
use Rattle.client_request.specs.declared.event.What.{What}
use Rattle.client_request.specs.declared.event.Out.{Out}
use Rattle.client_request.specs.declared.event.Out.TheVariants.{OpenDgram, Close, Reply}
use Rattle.right_trace.specs.Trace.{Conf}
use Rattle.right_trace.specs.Time.{read_timeout, max_tries}
use Rattle.right_trace.specs.Messages.{Octets}
use Rattle.right_trace.specs.Settings.{Settings, defers_nothing}
use Rattle.right_trace.specs.Keys.{is_cacheable}
use Rattle.right_trace.specs.Parts.{IsIn}
use Rattle.right_trace.specs.Validity.{validity_of_message, waits_for_others}
use Rattle.proof_right.specs.machine.Part.{Act}
use Rattle.proof_right.specs.machine.Streams.{Puts, Nothing}
use Rattle.proof_right.specs.machine.Dgrams.{Dgrams, Tryer}
use Rattle.proof_right.specs.machine.Served.{Served, served, holds, has_moved, does, Acts, AsItIs, WithResult, IsGivenUp}
use Rattle.proof_right.specs.machine.Client.{Waiting, Leaving, Upper, Server_moves, Gives_up, Delivers, Times_out, Replies, moved, leave, store, outcome, outcome_of, IsOutcome, Caches, Passes}
use Rattle.proof_right.specs.machine.Single.{Stage, Queued, Loose, Trying, Sent, Held, State, Done, staged, loosen, try, forget, lose, put_back, give_held, give_to, give, settle, finish, retry, expire, act_at, act, Pick, IsDue, Quiet, Fires, Rests, Fires_one}
use Rattle.right_trace.specs.Updates.{with_at}
use Rattle.proof_right.proofs.client.Beginning.{waits_not}
use Rattle.proof_right.proofs.single.Standing.{placed, Standing, here, there, stands_so, gives_on, leaves_queue}
use Rattle.proof_right.proofs.single.Alike.{stage_in, tryer_of, waiting_of, Follows, both_at, one_at, Mirrors, IsTold, Told, others_stay, Alike, settled_all, Leads, Stays, Then, Does, then_does, by_one, does_so, leads_on, takes_place, gives, replies}
use Rattle.proof_right.proofs.client.Outcomes.{outcome_plain}
use Rattle.proof_right.specs.machine.Dgrams as dgrams
use Rattle.proof_right.specs.machine.Served as served_by
use Rattle.proof_right.specs.machine.Server as server
use Rattle.proof_right.proofs.single.Standing as standing
use Rattle.client_request.specs.declared.error.Error.TheVariants as errors
use Rattle.client_request.specs.declared.error.QueryError.TheVariants as query

-- What is given on and who is gone make the same, in either order.
module _ (c : Conf) (n : ℕ) (s : State) (inv : Standing c n s) (P : State → List Out → Type 0) (so : (S : State) (o : List Out) (f : ℕ → Option Held) → ((k : ℕ) → f k ≡ S.held k) → P S o → P (record S { held = f }) o) where
  pub either_order : (p k : ℕ) (a : Held) → s.held k ≡ Some a → placed a.stage ≡ Some p → P (give (lose p k s)).state (give (lose p k s)).outs → P (forget k (give (loosen p k a s)).state) (give (loosen p k a s)).outs
  either_order p k a held at = go s.queue refl
    where
      twice : (v : Option Held) (f : ℕ → Option Held) (j : ℕ) → with_at k None (with_at k v f) j ≡ with_at k None f j
      twice v f j = by (k == j)
        where
          by : (b : Bool) → (if b then None else (if b then v else f j)) ≡ (if b then None else f j)
          by true = refl
          by false = refl

      swapped : (i : ℕ) → k ≢ i → (u v : Option Held) (f : ℕ → Option Held) (j : ℕ) → with_at k None (with_at i u (with_at k v f)) j ≡ with_at i u (with_at k None f) j
      swapped i ne u v f j = elim (cases_eq k j) [
        | inl e ↦ (let is : (k == j) ≡ true = grind (arith, nat_tests) in let not : (i == j) ≡ false = grind (arith, nat_tests) in rw (is, not) refl)
        | inr e ↦ (let is : (k == j) ≡ false = grind (arith, nat_tests) in rw is refl)
      ]

      go : (q : List ℕ) → s.queue ≡ q → P (give_to q (lose p k s)).state (give_to q (lose p k s)).outs → P (forget k (give_to q (loosen p k a s)).state) (give_to q (loosen p k a s)).outs
      go [] e x = so (lose p k s) [] (with_at k None (with_at k (Some (staged a Loose)) s.held)) (twice (Some (staged a Loose)) s.held) x
      go (j ∷ q) e x =
          let b = inv.queued j (subst (IsIn j) (sym e) (inl refl)) in
          let ne : k ≢ j = λ is. not_there b.0 b.2 (sym held ∙ (ap s.held is ∙ b.1)) in
          let y : P (give_held j (Some b.0) (put_back q (lose p k s))).state (give_held j (Some b.0) (put_back q (lose p k s))).outs = subst (λ o. P (give_held j o (put_back q (lose p k s))).state (give_held j o (put_back q (lose p k s))).outs) (there k j None s.held ne ∙ b.1) x in
          let z : P (forget k (give_held j (Some b.0) (put_back q (loosen p k a s))).state) (give_held j (Some b.0) (put_back q (loosen p k a s))).outs =
          so (try j b.0 (put_back q (lose p k s))) (OpenDgram s.opened 0 ∷ []) (with_at k None (with_at j (Some (staged b.0 (Trying s.opened))) (with_at k (Some (staged a Loose)) s.held))) (swapped j ne (Some (staged b.0 (Trying s.opened))) (Some (staged a Loose)) s.held) y in
          subst (λ o. P (forget k (give_held j o (put_back q (loosen p k a s))).state) (give_held j o (put_back q (loosen p k a s))).outs) (sym (there k j (Some (staged a Loose)) s.held ne ∙ b.1)) z
        where
          not_there : (b : Held) → b.stage ≡ Queued → Some a ≡ Some b → ⊥
          not_there b st e = (let same : a ≡ b = cc in let z : placed Queued ≡ Some p = ap placed (sym st) ∙ (ap (λ (a : Held). placed a.stage) (sym same) ∙ at) in cc)

  pub settled_so : (p k : ℕ) (a : Held) (x : Result Octets Error) → s.held k ≡ Some a → placed a.stage ≡ Some p → P (give (lose p k s)).state (give (lose p k s)).outs → P (settle k x (loosen p k a s)).state (give (loosen p k a s)).outs
  settled_so p k a x held at = either_order p k a held at

-- a result that leaves unchanged
record IsLeft (st : Settings) (k : ℕ) (q : Request) (r : Result Octets Error) : Type 0 where
  leaving : Leaving
  is : IsOutcome st k q r leaving
  request : leaving.request ≡ k
  result : leaving.result ≡ r

-- an error leaves as it is
pub error_so : (st : Settings) (k : ℕ) (q : Request) (e : Error) → ((outcome st k q (Err e)).request ≡ k) × ((outcome st k q (Err e)).result ≡ Err e)
error_so st k q e = (number (is_cacheable q), as_it_is (is_cacheable q))
  where
    number : (b : Bool) → (outcome_of b (Some st.transport_failure_duration) k q (Err e)).request ≡ k
    number true = refl
    number false = refl

    as_it_is : (b : Bool) → (outcome_of b (Some st.transport_failure_duration) k q (Err e)).result ≡ Err e
    as_it_is true = refl
    as_it_is false = refl

left_so : (st : Settings) (k : ℕ) (q : Request) (r : Result Octets Error) → IsLeft st k q r
left_so st k q (Err e) = (let z = error_so st k q e in record { leaving = outcome st k q (Err e); is = Caches; request = z.0; result = z.1 })
left_so st k q (Ok m) = go (validity_of_message st m) refl
  where
    number : (b : Bool) (n : ℕ) → (outcome_of b (Some n) k q (Ok m)).request ≡ k
    number true n = refl
    number false n = refl

    as_it_is : (b : Bool) (n : ℕ) → (outcome_of b (Some n) k q (Ok m)).result ≡ Ok m
    as_it_is true n = refl
    as_it_is false n = refl

    go : (v : Option ℕ) → validity_of_message st m ≡ v → IsLeft st k q (Ok m)
    go None e = record { leaving = record { request = k; asked = q; result = Ok m; given = Ok m; is_stored = false; stale = None }; is = Passes m refl e; request = refl; result = refl }
    go (Some n) e = record { leaving = outcome st k q (Ok m); is = Caches; request = rw e (number (is_cacheable q) n); result = rw e (as_it_is (is_cacheable q) n) }

-- a place of a request that is gone
pub gone : (p k : ℕ) (b : Tryer) (stage : dgrams.Stage) (u : Served) (s : State) → Mirrors u s → Mirrors (has_moved (record u.server { by_dgram = dgrams.forget k (dgrams.leave p k b stage u.server.by_dgram) }) u) (lose p k s)
gone p k b stage u s m = record { clock = m.clock; held = λ j. nobody j (k == j); at = λ q. nowhere q (p == q); used = ap (λ n. n - 1) m.used; still = m.still; frames = m.frames }
  where
    nobody : (j : ℕ) (b' : Bool) → (if b' then None else (if b' then Some (dgrams.staged b stage) else u.server.by_dgram.held j)) ≡ option_map tryer_of (if b' then None else s.held j)
    nobody j true = refl
    nobody j false = m.held j

    nowhere : (q : ℕ) (b' : Bool) → (if b' then None else u.server.by_dgram.at q) ≡ (if b' then None else s.at q)
    nowhere q true = refl
    nowhere q false = m.at q

pub forgotten : (k : ℕ) (f : ℕ → Option Held) (g : ℕ → Option Waiting) → Follows waiting_of f g → Follows waiting_of (with_at k None f) (λ j. if k == j then None else g j)
forgotten k f g same = both_at waiting_of f g same k None None refl

module _ (c : Conf) (st : Settings) (compose : Request → Result Octets Error) (defers : defers_nothing st ≡ true) where
  final_so : (r : Result Octets Error) → waits_for_others st r ≡ false
  final_so r = go (waits_for_others st r) refl
    where
      go : (b : Bool) → waits_for_others st r ≡ b → b ≡ false
      go false e = refl
      go true e = absurd (waits_not st r defers e)

  module _ (t : Told) (x : Upper Served) (s : State) (alike : Alike t [] x s) (n : ℕ) (inv : Standing c n s) (some : 0 < length c.servers) where
    -- The first server gives a result: the request leaves with it, the place is given on, and the reply is put out.
    pub settles : (first : What) (taken : Bool) (p k : ℕ) (a : Held) (r : Result Octets Error) (u : Served) (next : ℕ) (outs : List Out)
        → s.held k ≡ Some a → placed a.stage ≡ Some p → next ≡ x.place → Acts c 0 x.place (x.ups 0) (record { state = u; place = next; outs = outs; posts = record { request = k; result = r } ∷ [] })
        → Mirrors u (lose p k s) → IsTold first taken u → Does c st compose (record t { first = first; taken = taken }) [] x (settle k r (loosen p k a s)).state (outs ++ (settle k r (loosen p k a s)).outs)
    settles first taken p k a r u next outs held at same acts mirrors told =
        settled_so c n s inv (λ S o. Does c st compose t' [] x S (outs ++ (o ++ Reply k r ∷ []))) (λ S o f e d. does_so c st compose t' [] x S (outs ++ (o ++ Reply k r ∷ [])) f e d) p k a r held at
        (then_does c st compose t' t' (z.leaving ∷ []) [] x (lose p k s) (give (lose p k s)).state outs ((give (lose p k s)).outs ++ Reply k r ∷ []) given
        (λ y al. then_does c st compose t' t' (z.leaving ∷ []) [] y (give (lose p k s)).state (give (lose p k s)).state (give (lose p k s)).outs (Reply k r ∷ []) (gives c st compose t' (z.leaving ∷ []) y (lose p k s) some waits (let f = inv.few in let pos = places_on c in omega (arith, pos)) al)
        (λ y al. subst (λ o. Does c st compose t' [] y (give (lose p k s)).state (o ∷ [])) reply_is (replies c st compose t' y (give (lose p k s)).state z.leaving (outcome_plain st k a.request r z.leaving z.is) al))))
      where
        t' : Told
        t' = record t { first = first; taken = taken }

        z : IsLeft st k a.request r
        z = left_so st k a.request r

        reply_is : Reply z.leaving.request z.leaving.result ≡ Reply k r
        reply_is = ap (λ j. Reply j z.leaving.result) z.request ∙ ap (Reply k) z.result

        waits : (j : ℕ) → IsIn j s.queue → (b : Held) × ((lose p k s).held j ≡ Some b) × (b.stage ≡ Queued)
        waits j i = (let b = inv.queued j i in (b.0, there k j None s.held (λ is. not_there b.0 b.2 (sym held ∙ (ap s.held is ∙ b.1))) ∙ b.1, b.2))
          where
            not_there : (b : Held) → b.stage ≡ Queued → Some a ≡ Some b → ⊥
            not_there b st' e = (let same' : a ≡ b = cc in let y : placed Queued ≡ Some p = ap placed (sym st') ∙ (ap (λ (a : Held). placed a.stage) (sym same') ∙ at) in cc)

        d : Act Served
        d = record { state = u; place = next; outs = outs; posts = record { request = k; result = r } ∷ [] }

        x1 : Upper Served
        x1 = moved 0 d x

        x2 : Upper Served
        x2 = leave z.leaving (record x1 { board = [] })

        on_board : x1.board ≡ [] ++ record { server = 0; request = k; result = r } ∷ []
        on_board = ap (λ b. b ++ record { server = 0; request = k; result = r } ∷ []) alike.board

        is_held : x1.held k ≡ Some (waiting_of a)
        is_held = alike.held k ∙ ap (option_map waiting_of) held

        nil_end : (o : List Out) → o ++ ([] ++ []) ≡ o
        nil_end [] = refl
        nil_end (y ∷ o) = ap (λ l. y ∷ l) (nil_end o)

        given : Does c st compose t' (z.leaving ∷ []) x (lose p k s) outs
        given = record {
          end = x2;
          leads = subst (λ o. Leads c st compose x o x2) (nil_end outs) (Then x (record { state = x1; outs = outs }) _ x2 (Server_moves 0 d some acts) (Then x1 (record { state = x2; outs = [] }) [] x2 (Delivers [] [] (record { server = 0; request = k; result = r }) (waiting_of a) z.leaving on_board is_held (final_so r) z.is) (Stays x2)));
          alike = record {
            now = alike.now;
            asked = alike.asked;
            place = same ∙ alike.place;
            held = subst (λ j. Follows waiting_of (with_at k None s.held) (λ i. if j == i then None else x.held i)) (sym z.request) (forgotten k s.held x.held alike.held);
            first = mirrors;
            told = told;
            others = others_stay t.others x.ups u alike.others;
            pending = alike.pending;
            board = refl;
            leaving = ap (λ l. l ++ z.leaving ∷ []) alike.leaving;
          };
        }

    abbrev d : Dgrams
    d = (x.ups 0).server.by_dgram

    -- how the server holds a request
    is_held : (k : ℕ) (a : Held) → s.held k ≡ Some a → d.held k ≡ Some (tryer_of a)
    is_held k a held = alike.first.held k ∙ ap (option_map tryer_of) held

    sent_in : (a : Held) (p id m : ℕ) → a.stage ≡ Sent p id m → stage_in a.stage ≡ dgrams.Sent p id m
    sent_in a p id m e = ap stage_in e

    -- its place is closed at the read timeout, and its next one opens
    pub retries : (p id m k : ℕ) (a : Held) → s.held k ≡ Some a → a.stage ≡ Sent p id m → m + read_timeout c ≤ s.now → a.tries < max_tries c → Does c st compose t [] x (retry p k a s).state (retry p k a s).outs
    retries p id m k a held stage late few =
        then_does c st compose t t [] [] x (loosen p k a s) (retry p k a s).state (Close p ∷ []) (OpenDgram s.opened 0 ∷ []) closes
        (λ y al. takes_place c st compose t [] y (loosen p k a s) k (staged a Loose) some al (here k (Some (staged a Loose)) s.held) refl (let f = inv.few in let pos = places_on c in omega (arith, pos)))
      where
        d' : Dgrams
        d' = dgrams.leave p k (tryer_of a) dgrams.Queued d

        follows : Follows tryer_of (loosen p k a s).held d'.held
        follows = both_at tryer_of s.held d.held alike.first.held k (Some (staged a Loose)) (Some (dgrams.staged (tryer_of a) dgrams.Queued)) refl

        v : Served
        v = has_moved (record (x.ups 0).server { by_dgram = d' }) (x.ups 0)

        nowhere : (q : ℕ) → d'.at q ≡ (loosen p k a s).at q
        nowhere q = by (p == q)
          where
            by : (b : Bool) → (if b then None else d.at q) ≡ (if b then None else s.at q)
            by true = refl
            by false = alike.first.at q

        closes : Does c st compose t [] x (loosen p k a s) (Close p ∷ [])
        closes = by_one c st compose t [] x (record { state = moved 0 (does v x.place (Puts (Close p))) x; outs = Close p ∷ [] }) (loosen p k a s)
            (Server_moves 0 (does v x.place (Puts (Close p))) some (served_by.ByDgram (Puts (Close p)) d' _ (dgrams.Retries k (tryer_of a) p id m (is_held k a held) (sent_in a p id m stage) (subst (λ n. m + read_timeout c ≤ n) (sym alike.first.clock) late) few) (AsItIs (settled_all (loosen p k a s).held d' follows))))
            (record {
              now = alike.now;
              asked = alike.asked;
              place = alike.place;
              held = one_at waiting_of s.held x.held alike.held k (Some (staged a Loose)) (sym (alike.held k ∙ ap (option_map waiting_of) held));
              first = record { clock = alike.first.clock; held = follows; at = nowhere; used = ap (λ n. n - 1) alike.first.used; still = alike.first.still; frames = alike.first.frames };
              told = record { pending = alike.told.pending; taken = alike.told.taken };
              others = others_stay t.others x.ups v alike.others;
              pending = alike.pending;
              board = ap (λ b. b ++ []) alike.board;
              leaving = alike.leaving;
            })

    -- after six tries it has its reply
    pub stops : (p id m k : ℕ) (a : Held) → s.held k ≡ Some a → a.stage ≡ Sent p id m → m + read_timeout c ≤ s.now → max_tries c ≤ a.tries → Does c st compose t [] x (finish p k a (Err (errors.Dgram query.Timeout)) s).state (finish p k a (Err (errors.Dgram query.Timeout)) s).outs
    stops p id m k a held stage late many =
        settles t.first t.taken p k a (Err (errors.Dgram query.Timeout)) (has_moved (record (x.ups 0).server { by_dgram = dgrams.forget k d' }) (x.ups 0)) x.place (Close p ∷ []) held (ap placed stage) refl
        (served_by.ByDgram (Puts (Close p)) d' _ (dgrams.StopsTrying k (tryer_of a) p id m (is_held k a held) (sent_in a p id m stage) (subst (λ n. m + read_timeout c ≤ n) (sym alike.first.clock) late) many)
        (WithResult k (dgrams.staged (tryer_of a) (dgrams.Ending (Err (errors.Dgram query.Timeout)))) (Err (errors.Dgram query.Timeout)) (here k (Some (dgrams.staged (tryer_of a) (dgrams.Ending (Err (errors.Dgram query.Timeout))))) d.held) refl))
        (gone p k (tryer_of a) (dgrams.Ending (Err (errors.Dgram query.Timeout))) (x.ups 0) s alike.first) (record { pending = alike.told.pending; taken = alike.told.taken })
      where
        d' : Dgrams
        d' = dgrams.leave p k (tryer_of a) (dgrams.Ending (Err (errors.Dgram query.Timeout))) d

    -- The timeout of a request has passed: its reply is put out.
    abbrev late_leaving : (k : ℕ) → Held → Leaving
    late_leaving k a = record { request = k; asked = a.request; result = Err errors.TimedOut; given = Err errors.TimedOut; is_stored = false; stale = None }

    abbrev replied : (k : ℕ) → Held → Upper Served
    replied k a = record (leave (late_leaving k a) x) { leaving = []; stored = store x.now (late_leaving k a) x.stored }

    times_out : (k : ℕ) (a : Held) → s.held k ≡ Some a → a.moment + c.timeout ≤ s.now → Leads c st compose x (Reply k (Err errors.TimedOut) ∷ []) (replied k a)
    times_out k a held late =
        Then x (record { state = leave (late_leaving k a) x; outs = [] }) _ (replied k a) (Times_out k (waiting_of a) (alike.held k ∙ ap (option_map waiting_of) held) (subst (λ n. a.moment + c.timeout ≤ n) (sym alike.now) late))
        (Then (leave (late_leaving k a) x) (record { state = replied k a; outs = Reply k (Err errors.TimedOut) ∷ [] }) [] (replied k a) (Replies [] [] (late_leaving k a) (ap (λ l. l ++ late_leaving k a ∷ []) alike.leaving)) (Stays (replied k a)))

    -- its server has it still, and gives it up
    still_has : (k : ℕ) (a : Held) → s.held k ≡ Some a → holds (x.ups 0) k ≡ true
    still_has k a held = ap (λ o. is_some o || is_some ((x.ups 0).server.by_stream.asks k)) (is_held k a held)

    waits_in_vain : (k : ℕ) (a : Held) → s.held k ≡ Some a → a.stage ≡ Queued → a.moment + c.timeout ≤ s.now → Does c st compose t [] x (expire k Queued s).state (expire k Queued s).outs
    waits_in_vain k a held stage late = record {
      end = y;
      leads = then_one (Reply k (Err errors.TimedOut) ∷ []) (times_out k a held late);
      alike = record {
        now = alike.now;
        asked = alike.asked;
        place = alike.place;
        held = forgotten k s.held x.held alike.held;
        first = record { clock = alike.first.clock; held = both_at tryer_of s.held d.held alike.first.held k None None refl; at = alike.first.at; used = alike.first.used; still = alike.first.still; frames = alike.first.frames };
        told = record { pending = alike.told.pending; taken = alike.told.taken };
        others = others_stay t.others x.ups v alike.others;
        pending = alike.pending;
        board = ap (λ b. b ++ []) alike.board;
        leaving = refl;
      };
    }
      where
        v : Served
        v = has_moved (record (x.ups 0).server { by_dgram = dgrams.forget k d }) (x.ups 0)

        y : Upper Served
        y = moved 0 (does v x.place Nothing) (replied k a)

        then_one : (o : List Out) → Leads c st compose x o (replied k a) → Leads c st compose x o y
        then_one o l = subst (λ o. Leads c st compose x o y) (nil_end o) (leads_on c st compose x o (replied k a) [] y l (Then (replied k a) (record { state = y; outs = [] }) [] y (Gives_up 0 k (does v x.place Nothing) some (here k None x.held) (still_has k a held) (IsGivenUp Nothing (v.server) (server.Waits (tryer_of a) (is_held k a held) (ap stage_in stage)))) (Stays y)))
          where
            nil_end : (o : List Out) → o ++ [] ≡ o
            nil_end [] = refl
            nil_end (u ∷ o) = ap (λ l. u ∷ l) (nil_end o)

    tries_in_vain : (p k : ℕ) (a : Held) → s.held k ≡ Some a → placed a.stage ≡ Some p → a.moment + c.timeout ≤ s.now → Does c st compose t [] x (give (lose p k s)).state ((Reply k (Err errors.TimedOut) ∷ Close p ∷ []) ++ (give (lose p k s)).outs)
    tries_in_vain p k a held at late =
        then_does c st compose t t [] [] x (lose p k s) (give (lose p k s)).state (Reply k (Err errors.TimedOut) ∷ Close p ∷ []) (give (lose p k s)).outs closes
        (λ z al. gives c st compose t [] z (lose p k s) some waits (let f = inv.few in let pos = places_on c in omega (arith, pos)) al)
      where
        v : Served
        v = has_moved (record (x.ups 0).server { by_dgram = dgrams.forget k (dgrams.leave p k (tryer_of a) (dgrams.Ending (Err errors.TimedOut)) d) }) (x.ups 0)

        y : Upper Served
        y = moved 0 (does v x.place (Puts (Close p))) (replied k a)

        waits : (j : ℕ) → IsIn j s.queue → (b : Held) × ((lose p k s).held j ≡ Some b) × (b.stage ≡ Queued)
        waits j i = (let b = inv.queued j i in (b.0, there k j None s.held (λ is. not_there b.0 b.2 (sym held ∙ (ap s.held is ∙ b.1))) ∙ b.1, b.2))
          where
            not_there : (b : Held) → b.stage ≡ Queued → Some a ≡ Some b → ⊥
            not_there b st' e = (let same' : a ≡ b = cc in let y : placed Queued ≡ Some p = ap placed (sym st') ∙ (ap (λ (a : Held). placed a.stage) (sym same') ∙ at) in cc)

        placed_in : (stage : Stage) → placed stage ≡ Some p → (stage_in stage ≡ dgrams.Trying p) ⊎ ((id : ℕ) × (m : ℕ) × (stage_in stage ≡ dgrams.Sent p id m))
        placed_in Queued e = absurd (cc)
        placed_in Loose e = absurd (cc)
        placed_in (Trying q) e = inl (let is : q ≡ p = cc in ap dgrams.Trying is)
        placed_in (Sent q id m) e = inr (id, m, (let is : q ≡ p = cc in ap (λ q. dgrams.Sent q id m) is))

        closes : Does c st compose t [] x (lose p k s) (Reply k (Err errors.TimedOut) ∷ Close p ∷ [])
        closes = record {
          end = y;
          leads = leads_on c st compose x (Reply k (Err errors.TimedOut) ∷ []) (replied k a) (Close p ∷ []) y (times_out k a held late)
              (Then (replied k a) (record { state = y; outs = Close p ∷ [] }) [] y (Gives_up 0 k (does v x.place (Puts (Close p))) some (here k None x.held) (still_has k a held) (IsGivenUp (Puts (Close p)) (v.server) (server.HasPlace (tryer_of a) p (is_held k a held) (placed_in a.stage at)))) (Stays y));
          alike = record {
            now = alike.now;
            asked = alike.asked;
            place = alike.place;
            held = forgotten k s.held x.held alike.held;
            first = gone p k (tryer_of a) (dgrams.Ending (Err errors.TimedOut)) (x.ups 0) s alike.first;
            told = record { pending = alike.told.pending; taken = alike.told.taken };
            others = others_stay t.others x.ups v alike.others;
            pending = alike.pending;
            board = ap (λ b. b ++ []) alike.board;
            leaving = refl;
          };
        }

    expires : (k : ℕ) (a : Held) → s.held k ≡ Some a → a.moment + c.timeout ≤ s.now → (stage : Stage) → a.stage ≡ stage → Does c st compose t [] x (expire k stage s).state (expire k stage s).outs
    expires k a held late Queued e = waits_in_vain k a held e late
    expires k a held late Loose e = absurd (inv.settled k a held e)
    expires k a held late (Trying p) e = tries_in_vain p k a held (ap placed e) late
    expires k a held late (Sent p id m) e = tries_in_vain p k a held (ap placed e) late

    -- a timer that is due
    pub fires_one : (z : Pick) → IsDue c s z → Does c st compose t [] x (act c z s).state (act c z s).outs
    fires_one z due = go z.place refl
      where
        go : (o : Option ℕ) → z.place ≡ o → Does c st compose t [] x (act_at c o z.request z.held s).state (act_at c o z.request z.held s).outs
        go None e = expires z.request z.held due.held (due.deadline e) z.held.stage refl
        go (Some p) e = (let r = due.reading p e in by_tries p r.0 r.1 r.2 r.3 (nat_lt z.held.tries (max_tries c)) refl)
          where
            by_tries : (p id m : ℕ) → z.held.stage ≡ Sent p id m → m + read_timeout c ≤ s.now → (b : Bool) → nat_lt z.held.tries (max_tries c) ≡ b → Does c st compose t [] x (if b then retry p z.request z.held s else finish p z.request z.held (Err (errors.Dgram query.Timeout)) s).state (if b then retry p z.request z.held s else finish p z.request z.held (Err (errors.Dgram query.Timeout)) s).outs
            by_tries p id m stage late true e = retries p id m z.request z.held due.held stage late (ltb-true z.held.tries (max_tries c) e)
            by_tries p id m stage late false e = stops p id m z.request z.held due.held stage late (ltb-false z.held.tries (max_tries c) e)

-- what a timer leaves stands
fired_stands : (c : Conf) → (n : ℕ) (s : State) → Standing c n s → (z : Pick) → IsDue c s z → Standing c n (act c z s).state
fired_stands c n s inv z due = go z.place refl
  where
    k : ℕ
    k = z.request

    a : Held
    a = z.held

    settles_so : (p : ℕ) (x : Result Octets Error) → placed a.stage ≡ Some p → Standing c n (settle k x (loosen p k a s)).state
    settles_so p x at = settled_so c n s inv (λ S o. Standing c n S) (λ S o f e i. stands_so c n S i f e) p k a x due.held at (gives_on c n s inv p k a due.held at)

    expires : (stage : Stage) → a.stage ≡ stage → Standing c n (expire k stage s).state
    expires Queued e = leaves_queue c n s inv k a due.held e
    expires Loose e = absurd (inv.settled k a due.held e)
    expires (Trying p) e = gives_on c n s inv p k a due.held (ap placed e)
    expires (Sent p id m) e = gives_on c n s inv p k a due.held (ap placed e)

    go : (o : Option ℕ) → z.place ≡ o → Standing c n (act_at c o k a s).state
    go None e = expires a.stage refl
    go (Some p) e = (let r = due.reading p e in by_tries p (ap placed r.2) (nat_lt a.tries (max_tries c)))
      where
        by_tries : (p : ℕ) → placed a.stage ≡ Some p → (b : Bool) → Standing c n (if b then retry p k a s else finish p k a (Err (errors.Dgram query.Timeout)) s).state
        by_tries p at true = standing.retries c n s inv p k a due.held at
        by_tries p at false = settles_so p (Err (errors.Dgram query.Timeout)) at

pub fires_stand : (c : Conf) → (n : ℕ) (s : State) (d : Done) → Fires c s d → Standing c n s → Standing c n d.state × Quiet c d.state
fires_stand c n _ _ (Rests s quiet) inv = (inv, quiet)
fires_stand c n _ _ (Fires_one s z d due more) inv = fires_stand c n (act c z s).state d more (fired_stands c n s inv z due)

-- timers fire until none is due
pub fires_do : (c : Conf) (st : Settings) (compose : Request → Result Octets Error) → defers_nothing st ≡ true → (t : Told) (n : ℕ) → (0 < n → 0 < length c.servers) → (s : State) (d : Done) (x : Upper Served) → Fires c s d → Alike t [] x s → Standing c n s → Does c st compose t [] x d.state d.outs
fires_do c st compose defers t n some _ _ x (Rests s quiet) alike inv = record { end = x; leads = Stays x; alike = alike }
fires_do c st compose defers t n some _ _ x (Fires_one s z d due more) alike inv =
    then_does c st compose t t [] [] x (act c z s).state d.state (act c z s).outs d.outs (fires_one c st compose defers t x s alike n inv (some (inv.some z.request z.held due.held)) z due)
    (λ y al. fires_do c st compose defers t n some (act c z s).state d y more al (fired_stands c n s inv z due))
