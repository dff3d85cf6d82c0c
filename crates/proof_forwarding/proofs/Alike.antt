-- Tables of a forwarder that hold queries which are alike.
use Rattle.std.proofs.Common.{◌≡◌, ℕ, suc, ◌+◌, List, [], ◌∷◌, ◌++◌, length, Option, Some, None, Ordering, Less, Equal, Greater, nat_cmp, cond, Bool, true, false, refl, sym, subst, ap, ◌∙◌, arith, length-append}
use Rattle.std.specs.Prelude.{◌&&◌, ◌||◌, not, nat_lt, option_and_then, option_map, Result}
use Rattle.std.specs.BTreeMap.{insert_entry}
use Rattle.std.specs.Cmp.Lexicographic.{slice_cmp}
use Rattle.std.specs.List.{filter}
use Rattle.std.specs.Map.{lookup, remove_entry}
use Rattle.std.specs.Ordering.{match_ordering, is_eq}
use Rattle.std.proofs.lemmas.List.Sums.{length-filter}
use Rattle.number_table.specs.Entries.{entry_at, puts, frees}
use Rattle.client_request.specs.declared.error.Error.{Error}
use Rattle.client_request.specs.declared.event.Out.{Out}
use Rattle.client_request.specs.declared.event.Out.TheVariants.{Reply}
use Rattle.front_queries.specs.Answers.{answer_to}
use Rattle.front_queries.specs.Query.{Query, key_of}
use Rattle.front_queries.specs.Requests.{request_of}
use Rattle.front_peers.specs.Items.{Streams, answers_by}
use Rattle.front_peers.specs.declared.event.FrontOut.{FrontOut}
use Rattle.front_peers.specs.declared.event.FrontOut.TheVariants.{Answer, Core, Drop}
use Rattle.front_peers.specs.declared.items.Asker.{Asker}
use Rattle.front_peers.specs.declared.peers.Stream.{Stream}
use Rattle.front_steps.specs.Askers.{count_by_streams}
use Rattle.front_steps.specs.Waiting.{Waits, askers_of}
use Rattle.front_steps.specs.Waiting as table
use Rattle.front_steps.specs.Waits.{answered, answers_by_stream, answers_each, answers_one, answers_where, asks_anew, by_streams_of, has_room, if_it_waits, is_key, joins, joins_one, may_join, puts_all, puts_out, replies, same_asked}
use Rattle.front_steps.specs.declared.putting.Desk.{Desk}
use Rattle.front_steps.specs.declared.waits.Waiting.{Waiting}
use Rattle.proof_forwarding.specs.Isolation.{AreOutsAlike}

module _ (x : ℕ) where
  -- ---- queries

  pub record AskersAlike (a b : Asker) : Type 0 where
    pub peer : a.peer ≡ b.peer
    pub by_stream : a.by_stream ≡ b.by_stream
    pub request : request_of a.query ≡ request_of b.query
    pub key : key_of a.query ≡ key_of b.query
    pub other : (a.peer ≡ x → ⊥) → a.query ≡ b.query

  pub asker_itself : (a : Asker) → AskersAlike a a
  asker_itself a = record { peer = refl; by_stream = refl; request = refl; key = refl; other = λ is. refl }

  abbrev pub AllAlike : List Asker → List Asker → Type 0
  AllAlike [] [] = Unit {0}
  AllAlike (a ∷ xs) (b ∷ ys) = AskersAlike a b × AllAlike xs ys
  AllAlike _ _ = ⊥

  all_length : (xs ys : List Asker) → AllAlike xs ys → length xs ≡ length ys
  all_length [] [] all = refl
  all_length (a ∷ xs) (b ∷ ys) all = ap suc (all_length xs ys all.1)
  all_length _ _ all = absurd all

  all_snoc : (xs ys : List Asker) (a b : Asker) → AllAlike xs ys → AskersAlike a b → AllAlike (xs ++ a ∷ []) (ys ++ b ∷ [])
  all_snoc [] [] a b all one = (one, tt)
  all_snoc (c ∷ xs) (d ∷ ys) a b all one = (all.0, all_snoc xs ys a b all.1 one)
  all_snoc _ _ a b all one = absurd all

  streams_length : (xs ys : List Asker) → AllAlike xs ys → length (filter (λ (a : Asker). a.by_stream) xs) ≡ length (filter (λ (a : Asker). a.by_stream) ys)
  streams_length [] [] all = refl
  streams_length (a ∷ xs) (b ∷ ys) all =
      go a.by_stream (streams_length xs ys all.1)
      ∙ ap (λ (c : Bool). length (cond c (b ∷ filter (λ (a : Asker). a.by_stream) ys) (filter (λ (a : Asker). a.by_stream) ys))) all.0.by_stream
    where
      go : (c : Bool) → length (filter (λ (a : Asker). a.by_stream) xs) ≡ length (filter (λ (a : Asker). a.by_stream) ys)
          → length (cond c (a ∷ filter (λ (a : Asker). a.by_stream) xs) (filter (λ (a : Asker). a.by_stream) xs)) ≡ length (cond c (b ∷ filter (λ (a : Asker). a.by_stream) ys) (filter (λ (a : Asker). a.by_stream) ys))
      go true ih = ap suc ih
      go false ih = ih
  streams_length _ _ all = absurd all

  count_same : (xs ys : List Asker) → AllAlike xs ys → count_by_streams xs ≡ count_by_streams ys
  count_same xs ys all = sym (length-filter (λ (a : Asker). a.by_stream) xs) ∙ streams_length xs ys all ∙ length-filter (λ (a : Asker). a.by_stream) ys

  -- ---- tables

  pub record WaitingAlike (v w : Waiting) : Type 0 where
    pub key : v.key ≡ w.key
    pub first : AskersAlike v.first w.first
    pub others : AllAlike v.others w.others

  abbrev pub TableAlike : List (ℕ × Waiting) → List (ℕ × Waiting) → Type 0
  TableAlike [] [] = Unit {0}
  TableAlike (e ∷ es) (f ∷ fs) = (e.0 ≡ f.0) × WaitingAlike e.1 f.1 × TableAlike es fs
  TableAlike _ _ = ⊥

  abbrev pub EntryAlike : Option Waiting → Option Waiting → Type 0
  EntryAlike None None = Unit {0}
  EntryAlike (Some v) (Some w) = WaitingAlike v w
  EntryAlike _ _ = ⊥

  pub entry_alike : (k : ℕ) (es fs : List (ℕ × Waiting)) → TableAlike es fs → EntryAlike (entry_at k es) (entry_at k fs)
  entry_alike k [] [] all = tt
  entry_alike k (e ∷ es) (f ∷ fs) all =
      subst (λ (n : ℕ). EntryAlike (entry_at k (e ∷ es)) (cond (is_eq (nat_cmp k n)) (Some f.1) (entry_at k fs))) all.0 (go (is_eq (nat_cmp k e.0)) (entry_alike k es fs all.2))
    where
      go : (b : Bool) → EntryAlike (entry_at k es) (entry_at k fs) → EntryAlike (cond b (Some e.1) (entry_at k es)) (cond b (Some f.1) (entry_at k fs))
      go true ih = all.1
      go false ih = ih
  entry_alike k _ _ all = absurd all

  free_alike : (k : ℕ) (es fs : List (ℕ × Waiting)) → TableAlike es fs → TableAlike (frees k es) (frees k fs)
  free_alike k [] [] all = tt
  free_alike k (e ∷ es) (f ∷ fs) all =
      subst (λ (n : ℕ). TableAlike (frees k (e ∷ es)) (cond (is_eq (nat_cmp k n)) fs (f ∷ frees k fs))) all.0 (go (is_eq (nat_cmp k e.0)) (free_alike k es fs all.2))
    where
      go : (b : Bool) → TableAlike (frees k es) (frees k fs) → TableAlike (cond b es (e ∷ frees k es)) (cond b fs (f ∷ frees k fs))
      go true ih = all.2
      go false ih = (all.0, all.1, ih)
  free_alike k _ _ all = absurd all

  put_alike : (k : ℕ) (v w : Waiting) → WaitingAlike v w → (es fs : List (ℕ × Waiting)) → TableAlike es fs → TableAlike (puts k v es) (puts k w fs)
  put_alike k v w one [] [] all = (refl, one, tt)
  put_alike k v w one (e ∷ es) (f ∷ fs) all =
      subst (λ (n : ℕ). TableAlike (puts k v (e ∷ es)) (match_ordering (nat_cmp k n) ((k, w) ∷ f ∷ fs) ((f.0, w) ∷ fs) (f ∷ puts k w fs))) all.0 (go (nat_cmp k e.0) (put_alike k v w one es fs all.2))
    where
      go : (r : Ordering) → TableAlike (puts k v es) (puts k w fs)
          → TableAlike (match_ordering r ((k, v) ∷ e ∷ es) ((e.0, v) ∷ es) (e ∷ puts k v es)) (match_ordering r ((k, w) ∷ f ∷ fs) ((f.0, w) ∷ fs) (f ∷ puts k w fs))
      go Less ih = (refl, one, (all.0, all.1, all.2))
      go Equal ih = (all.0, one, all.2)
      go Greater ih = (all.0, all.1, ih)
  put_alike k v w one _ _ all = absurd all

  count_alike : (es fs : List (ℕ × Waiting)) → TableAlike es fs → length (table.askers_in es) ≡ length (table.askers_in fs)
  count_alike [] [] all = refl
  count_alike (e ∷ es) (f ∷ fs) all =
      let here = all_length e.1.others f.1.others all.1.others in
      let rest = count_alike es fs all.2 in
      let left = length-append (askers_of e.1) (table.askers_in es) in
      let right = length-append (askers_of f.1) (table.askers_in fs) in
      let one : length (askers_of e.1) ≡ length (askers_of f.1) = ap suc here in
      omega arith
  count_alike _ _ all = absurd all

  -- ---- what waits

  pub record WaitsAlike (w u : Waits) : Type 0 where
    pub requests : TableAlike w.requests u.requests
    pub numbers : w.numbers ≡ u.numbers
    pub next : w.next ≡ u.next

  module _ (w u : Waits) (alike : WaitsAlike w u) where
    it_waits : (n : ℕ) → if_it_waits w.requests n ≡ if_it_waits u.requests n
    it_waits n = go (entry_at n w.requests) (entry_at n u.requests) (entry_alike n w.requests u.requests alike.requests)
      where
        go : (o p : Option Waiting) → EntryAlike o p → option_map (λ (v : Waiting). n) o ≡ option_map (λ (v : Waiting). n) p
        go None None both = refl
        go (Some v) (Some z) both = refl
        go _ _ both = absurd both

    pub same_same : (key : List ℕ) → same_asked key w ≡ same_asked key u
    same_same key = by (lookup (is_key key) w.numbers) ∙ ap (λ (ns : List (List ℕ × ℕ)). option_and_then (if_it_waits u.requests) (lookup (is_key key) ns)) alike.numbers
      where
        by : (o : Option ℕ) → option_and_then (if_it_waits w.requests) o ≡ option_and_then (if_it_waits u.requests) o
        by None = refl
        by (Some n) = it_waits n

    pub room_same : has_room w ≡ has_room u
    room_same = ap (λ (n : ℕ). nat_lt n 10000) (count_alike w.requests u.requests alike.requests)

    entry_streams : (o p : Option Waiting) → EntryAlike o p → by_streams_of o ≡ by_streams_of p
    entry_streams None None both = refl
    entry_streams (Some v) (Some z) both = count_same v.others z.others both.others
    entry_streams _ _ both = absurd both

    pub may_same : (k : ℕ) (b : Bool) → may_join k b w ≡ may_join k b u
    may_same k b =
        ap (λ (h : Bool). h && (not b || nat_lt (by_streams_of (entry_at k w.requests)) 250)) room_same
        ∙ ap (λ (n : ℕ). has_room u && (not b || nat_lt n 250))
        (entry_streams (entry_at k w.requests) (entry_at k u.requests) (entry_alike k w.requests u.requests alike.requests))

    pub anew_alike : (a b : Asker) → AskersAlike a b → WaitsAlike (asks_anew a w) (asks_anew b u)
    anew_alike a b one = record {
      requests = subst (λ (n : ℕ). TableAlike (puts w.next (record { key = key_of a.query; first = a; others = [] }) w.requests) (puts n (record { key = key_of b.query; first = b; others = [] }) u.requests)) alike.next
          (put_alike w.next (record { key = key_of a.query; first = a; others = [] }) (record { key = key_of b.query; first = b; others = [] }) (record { key = one.key; first = one; others = tt })
          w.requests u.requests alike.requests);
      numbers =
          ap (λ (ns : List (List ℕ × ℕ)). insert_entry (slice_cmp nat_cmp) ns (key_of a.query) w.next) alike.numbers
          ∙ ap (λ (k : List ℕ). insert_entry (slice_cmp nat_cmp) u.numbers k w.next) one.key
          ∙ ap (λ (n : ℕ). insert_entry (slice_cmp nat_cmp) u.numbers (key_of b.query) n) alike.next;
      next = ap (λ (n : ℕ). n + 1) alike.next;
    }

    joins_by : (k : ℕ) (a b : Asker) → AskersAlike a b → (o p : Option Waiting) → EntryAlike o p → WaitsAlike (joins_one k a w o) (joins_one k b u p)
    joins_by k a b one None None both = alike
    joins_by k a b one (Some v) (Some z) both = record {
      requests = put_alike k (record v { others = v.others ++ a ∷ [] }) (record z { others = z.others ++ b ∷ [] })
          (record { key = both.key; first = both.first; others = all_snoc v.others z.others a b both.others one })
          (frees k w.requests) (frees k u.requests) (free_alike k w.requests u.requests alike.requests);
      numbers = alike.numbers;
      next = alike.next;
    }
    joins_by k a b one _ _ both = absurd both

    pub joins_alike : (k : ℕ) (a b : Asker) → AskersAlike a b → WaitsAlike (joins k a w) (joins k b u)
    joins_alike k a b one = joins_by k a b one (entry_at k w.requests) (entry_at k u.requests) (entry_alike k w.requests u.requests alike.requests)

    pub answered_alike : (k : ℕ) (v z : Waiting) → WaitingAlike v z → WaitsAlike (answered k v w) (answered k z u)
    answered_alike k v z both = record {
      requests = free_alike k w.requests u.requests alike.requests;
      numbers =
          ap (λ (ns : List (List ℕ × ℕ)). remove_entry (is_key v.key) ns) alike.numbers
          ∙ ap (λ (key : List ℕ). remove_entry (is_key key) u.numbers) both.key;
      next = alike.next;
    }

  -- ---- what is put out

  pub record DeskAlike (d e : Desk) : Type 0 where
    pub waits : WaitsAlike d.waits e.waits
    pub streams : d.streams ≡ e.streams

  pub outs_more : (a b c d : List FrontOut) → AreOutsAlike x a b → AreOutsAlike x c d → AreOutsAlike x (a ++ c) (b ++ d)
  outs_more [] [] c d all more = more
  outs_more (Core o ∷ a) (Core u ∷ b) c d all more = (all.0, outs_more a b c d all.1 more)
  outs_more (Drop p ∷ a) (Drop q ∷ b) c d all more = (all.0, outs_more a b c d all.1 more)
  outs_more (Answer p os ∷ a) (Answer q us ∷ b) c d all more = (all.0, all.1, outs_more a b c d all.2 more)
  outs_more _ _ c d all more = absurd all

  -- the same goes out, and the same streams are left
  abbrev Sent : (done fin : List FrontOut × Streams) → Type 0
  Sent done fin = AreOutsAlike x done.0 fin.0 × (done.1 ≡ fin.1)

  module _ (a b : Asker) (one : AskersAlike a b) (s t : Streams) (same : s ≡ t) where
    module _ (os us : List ℕ) (other : (a.peer ≡ x → ⊥) → os ≡ us) where
      stream_sent : (o p : Option Stream) → o ≡ p → Sent (answers_by_stream a os s o) (answers_by_stream b us t p)
      stream_sent None None is = (tt, same)
      stream_sent None (Some p) is = absurd (cc)
      stream_sent (Some o) None is = absurd (cc)
      stream_sent (Some o) (Some p) is = (
        (one.peer, other, tt),
        ap (λ (n : ℕ). answers_by n s (Some o)) one.peer ∙ ap (λ (z : Streams). answers_by b.peer z (Some o)) same ∙ ap (λ (z : Option Stream). answers_by b.peer t z) is,
      )

      where_sent : (c d : Bool) → c ≡ d → Sent (answers_where c a os s) (answers_where d b us t)
      where_sent false false is = ((one.peer, other, tt), same)
      where_sent true true is =
          stream_sent (entry_at a.peer s.streams) (entry_at b.peer t.streams) (ap (λ (n : ℕ). entry_at n s.streams) one.peer ∙ ap (λ (z : Streams). entry_at b.peer z.streams) same)
      where_sent false true is = absurd (cc)
      where_sent true false is = absurd (cc)

    one_sent : (reply : Result (List ℕ) Error) → Sent (answers_one reply a s) (answers_one reply b t)
    one_sent reply =
        where_sent (answer_to a.query a.by_stream reply) (answer_to b.query b.by_stream reply)
        (λ is. ap (λ (q : Query). answer_to q a.by_stream reply) (one.other is) ∙ ap (λ (c : Bool). answer_to b.query c reply) one.by_stream)
        a.by_stream b.by_stream one.by_stream

  each_sent : (reply : Result (List ℕ) Error) (xs ys : List Asker) → AllAlike xs ys → (s t : Streams) → s ≡ t → Sent (answers_each reply xs s) (answers_each reply ys t)
  each_sent reply [] [] all s t same = (tt, same)
  each_sent reply (a ∷ xs) (b ∷ ys) all s t same =
      let first = one_sent a b all.0 s t same reply in
      let rest = each_sent reply xs ys all.1 (answers_one reply a s).1 (answers_one reply b t).1 first.1 in
      (outs_more (answers_one reply a s).0 (answers_one reply b t).0 (answers_each reply xs (answers_one reply a s).1).0 (answers_each reply ys (answers_one reply b t).1).0 first.0 rest.0, rest.1)
  each_sent reply _ _ all s t same = absurd all

  abbrev pub Put : (done fin : List FrontOut × Desk) → Type 0
  Put done fin = AreOutsAlike x done.0 fin.0 × DeskAlike done.1 fin.1

  reply_put : (k : ℕ) (reply : Result (List ℕ) Error) (d e : Desk) → DeskAlike d e → (o p : Option Waiting) → EntryAlike o p → Put (replies k reply d o) (replies k reply e p)
  reply_put k reply d e alike None None both = (tt, alike)
  reply_put k reply d e alike (Some v) (Some w) both =
      let sent = each_sent reply (v.first ∷ v.others) (w.first ∷ w.others) (both.first, both.others) d.streams e.streams alike.streams in
      (sent.0, record { waits = answered_alike d.waits e.waits alike.waits k v w both; streams = sent.1 })
  reply_put k reply d e alike _ _ both = absurd both

  out_put : (o : Out) (d e : Desk) → DeskAlike d e → Put (puts_out o d) (puts_out o e)
  out_put (Reply k reply) d e alike =
      reply_put k reply d e alike (entry_at k d.waits.requests) (entry_at k e.waits.requests) (entry_alike k d.waits.requests e.waits.requests alike.waits.requests)
  out_put o d e alike = ((refl, tt), alike)

  pub all_put : (outs : List Out) (d e : Desk) → DeskAlike d e → Put (puts_all outs d) (puts_all outs e)
  all_put [] d e alike = (tt, alike)
  all_put (o ∷ outs) d e alike =
      let first = out_put o d e alike in
      let rest = all_put outs (puts_out o d).1 (puts_out o e).1 first.1 in
      (outs_more (puts_out o d).0 (puts_out o e).0 (puts_all outs (puts_out o d).1).0 (puts_all outs (puts_out o e).1).0 first.0 rest.0, rest.1)
