-- What is put out pays what is owed.
use Rattle.std.proofs.Common.{◌≡◌, ℕ, List, [], ◌∷◌, ◌++◌, Option, Some, None, cond, Bool, true, false, refl, sym, subst, ap, ◌∙◌, inl, inr}
use Rattle.std.specs.Prelude.{◌==◌, ◌||◌, not, is_some, option_map, Result}
use Rattle.std.specs.List.{AllByRecursion}
use Rattle.number_table.specs.Entries.{entry_at}
use Rattle.client_request.specs.declared.error.Error.{Error}
use Rattle.client_request.specs.declared.event.Out.{Out}
use Rattle.client_request.specs.declared.event.Out.TheVariants.{Reply}
use Rattle.front_queries.specs.Answers.{answer_to}
use Rattle.front_queries.specs.Query.{Query, key_of}
use Rattle.front_queries.specs.Requests.{request_of}
use Rattle.front_peers.specs.Items.{Streams, answers_by}
use Rattle.front_peers.specs.declared.event.FrontOut.{FrontOut}
use Rattle.front_peers.specs.declared.event.FrontOut.TheVariants.{Core, Answer, Drop}
use Rattle.front_peers.specs.declared.items.Asker.{Asker}
use Rattle.front_peers.specs.declared.items.Item.{Item}
use Rattle.front_peers.specs.declared.peers.Stream.{Stream}
use Rattle.front_steps.specs.Waiting.{askers_or_none}
use Rattle.front_steps.specs.Waits.{answered_if, answers_by_stream, answers_each, answers_one, answers_where, before, puts_all, puts_out, replies}
use Rattle.front_steps.specs.declared.putting.Desk.{Desk}
use Rattle.front_steps.specs.declared.waits.Waiting.{Waiting}
use Rattle.right_trace.specs.Requests.{Asking, asking, is_reply}
use Rattle.right_trace.specs.Right.{Among, IsAsked}
use Rattle.right_trace.specs.Trace.{History, Put, put_all}
use Rattle.proof_forwarding.specs.Heard.{Heard, closed_by}
use Rattle.proof_forwarding.specs.Owing.{Answers, Does, Drops, Due, Happens, IsAnswered, IsLost, IsOneOf, OfItself, Owed, Pays, PutsOut, Refuses, Replies, Takes, TurnsAway, due, goes_on, is_reached, rests}
use Rattle.proof_forwarding.proofs.Keeping.{Pending, IsWaiting, StreamsKept, WaitsKept, append_assoc, append_nil, askers_in, not_of, of_number, owed, owed_in, same_number}
use Rattle.proof_forwarding.proofs.Waits.{after_out, after_reply}
use Rattle.proof_forwarding.proofs.Streams.{after_answer}

abbrev pub Says : Type 1
Says = Query → Result (List ℕ) Error → Type 0

pub closed_append : (a b : List FrontOut) (g : Heard) → closed_by (a ++ b) g ≡ closed_by b (closed_by a g)
closed_append [] b g = refl
closed_append (Core o ∷ a) b g = closed_append a b g
closed_append (Answer peer octets ∷ a) b g = closed_append a b g
closed_append (Drop peer ∷ a) b g = closed_append a b _

-- ---- what the client within puts out

-- each reply is to a request that was asked
abbrev pub OutsFit : History → List Out → Type 0
OutsFit h [] = Unit {0}
OutsFit h (Reply k x ∷ outs) = IsAsked k h × OutsFit (Put (Reply k x) ∷ h) outs
OutsFit h (o ∷ outs) = OutsFit (Put o ∷ h) outs

-- these are said of requests that were asked
abbrev pub TellsOf : Says → History → List Out → Type 0
TellsOf says h outs = (k : ℕ) (x : Result (List ℕ) Error) (a : Asking) (first q : Query) → Among (Reply k x) outs → asking k h ≡ Some a → a.request ≡ request_of first → key_of first ≡ key_of q → says q x

module _ (own : Query → Option (List ℕ)) where
  module _ (says : Says) where
    pub pays_more : (a b : Due) (first : List FrontOut) → Pays says own a first b → (c : Due) (later : List FrontOut) → Pays says own b later c → Pays says own a (first ++ later) c
    pays_more a b first (rests x y outs same none) c later more =
        subst (λ (os : List FrontOut). Pays says own a (os ++ later) c) (sym none) (subst (λ (d : Due). Pays says own d later c) (sym same) more)
    pays_more a b first (goes_on x middle y now rest outs does pays is) c later more =
        goes_on x middle c now (rest ++ later) (outs ++ later) does (pays_more middle y rest pays c later more) (ap (λ (os : List FrontOut). os ++ later) is ∙ append_assoc now rest later)

    pub pays_one : (a b : Due) (outs : List FrontOut) → Does says own a outs b → Pays says own a outs b
    pays_one a b outs does = goes_on a b b outs [] outs does (rests b b [] refl refl) (sym (append_nil outs))

    -- something by which nothing is put out
    pub then_silent : (a b c : Due) (outs : List FrontOut) → Pays says own a outs b → Does says own b [] c → Pays says own a outs c
    then_silent a b c outs pays does = subst (λ (os : List FrontOut). Pays says own a os c) (append_nil outs) (pays_more a b outs pays c [] (pays_one b c [] does))

  module _ (says tells : Says) (more : (q : Query) (x : Result (List ℕ) Error) → says q x → tells q x) where
    answers_by_more : (asker : Asker) (octets : List ℕ) → Answers says own asker octets → Answers tells own asker octets
    answers_by_more asker octets (Replies reply said is) = Replies reply (more asker.query reply said) is
    answers_by_more asker octets (OfItself message of is) = OfItself message of is

    does_by_more : (a b : Due) (outs : List FrontOut) → Does says own a outs b → Does tells own a outs b
    does_by_more a b outs (PutsOut out is then) = PutsOut out is then
    does_by_more a b outs (Happens what items item is then) = Happens what items item is then
    does_by_more a b outs (Drops peer items item is then) = Drops peer items item is then
    does_by_more a b outs (Refuses peer octets items item is then) = Refuses peer octets items item is then
    does_by_more a b outs (Takes asker items item is then) = Takes asker items item is then
    does_by_more a b outs (TurnsAway asker items item many is then) = TurnsAway asker items item many is then
    does_by_more a b outs (IsAnswered one octets others of reached made is then) = IsAnswered one octets others of reached (answers_by_more one.asker octets made) is then
    does_by_more a b outs (IsLost one reply others of lost said is then) = IsLost one reply others of lost (more one.asker.query reply said) is then

    pub pays_by_more : (a b : Due) (outs : List FrontOut) → Pays says own a outs b → Pays tells own a outs b
    pays_by_more a b outs (rests x y all same none) = rests x y all same none
    pays_by_more a b outs (goes_on x middle y now later all does pays is) = goes_on x middle y now later all (does_by_more x middle now does) (pays_by_more middle y later pays) is

  module _ (says : Says) (x : Result (List ℕ) Error) (k : ℕ) (g : Heard) (items : List Item) where
    -- answers to those that wait for a reply, among all that wait
    abbrev pub Walked : (askers : List Asker) (pre all left : List Owed) (s : Streams) → Type 0
    Walked askers pre all left s = Pays says own (due g items (pre ++ all)) (answers_each x askers s).0 (due g items (pre ++ left)) × StreamsKept g (answers_each x askers s).1

    moved : (askers : List Asker) (pre : List Owed) (o : Owed) (a b : List Owed) (s : Streams) → Walked askers (pre ++ o ∷ []) a b s → Walked askers pre (o ∷ a) (o ∷ b) s
    moved askers pre o a b s is = (
      subst (λ (z : List Owed). Pays says own (due g items (pre ++ o ∷ a)) (answers_each x askers s).0 (due g items z)) (append_assoc pre (o ∷ []) b)
          (subst (λ (z : List Owed). Pays says own (due g items z) (answers_each x askers s).0 (due g items ((pre ++ o ∷ []) ++ b))) (append_assoc pre (o ∷ []) a) is.0),
      is.1,
    )

    module _ (p : Pending) (said : says p.asker.query x) (askers : List Asker) (pre all left : List Owed) (ih : (t : Streams) → StreamsKept g t → Walked askers pre all left t) where
      abbrev octets : List ℕ
      octets = answer_to p.asker.query p.asker.by_stream x

      abbrev AnswersIt : (done : List FrontOut × Streams) → Type 0
      AnswersIt done =
          Pays says own (due g items (pre ++ owed p ∷ all)) (before done.0 (answers_each x askers done.1)).0 (due g items (pre ++ left))
          × StreamsKept g (before done.0 (answers_each x askers done.1)).1

      it_is : IsOneOf (owed p) (pre ++ owed p ∷ all) (pre ++ all)
      it_is = record { before = pre; behind = all; is_there = refl; others_are = refl }

      paid : is_reached g p.asker ≡ true → (t : Streams) → StreamsKept g t → AnswersIt (Answer p.asker.peer octets ∷ [], t)
      paid reached t kept = (
        goes_on (due g items (pre ++ owed p ∷ all)) (due g items (pre ++ all)) (due g items (pre ++ left)) (Answer p.asker.peer octets ∷ []) (answers_each x askers t).0
            (Answer p.asker.peer octets ∷ (answers_each x askers t).0)
            (IsAnswered (owed p) octets (pre ++ all) it_is reached (Replies x said refl) refl refl) (ih t kept).0 refl,
        (ih t kept).1,
      )

      lost : is_reached g p.asker ≡ false → (t : Streams) → StreamsKept g t → AnswersIt ([], t)
      lost gone t kept = (
        goes_on (due g items (pre ++ owed p ∷ all)) (due g items (pre ++ all)) (due g items (pre ++ left)) [] (answers_each x askers t).0 (answers_each x askers t).0
            (IsLost (owed p) x (pre ++ all) it_is gone said refl refl) (ih t kept).0 refl,
        (ih t kept).1,
      )

      some_framed : (o : Option Stream) → is_some (option_map (λ (t : Stream). t.framer) o) ≡ is_some o
      some_framed None = refl
      some_framed (Some t) = refl

      reached_by : (s : Streams) → StreamsKept g s → p.asker.by_stream ≡ true → is_reached g p.asker ≡ is_some (entry_at p.asker.peer s.streams)
      reached_by s kept stream =
          ap (λ (b : Bool). not b || is_some (g.kept p.asker.peer)) stream ∙ ap is_some (kept.kept p.asker.peer) ∙ some_framed (entry_at p.asker.peer s.streams)

      by_stream : (s : Streams) → StreamsKept g s → p.asker.by_stream ≡ true → (o : Option Stream) → entry_at p.asker.peer s.streams ≡ o → AnswersIt (answers_by_stream p.asker octets s o)
      by_stream s kept stream None entry = lost (reached_by s kept stream ∙ ap is_some entry) s kept
      by_stream s kept stream (Some t) entry =
          paid (reached_by s kept stream ∙ ap is_some entry) (answers_by p.asker.peer s (Some t)) (after_answer g s kept p.asker.peer t entry)

      answers_it : (s : Streams) → StreamsKept g s → (b : Bool) → p.asker.by_stream ≡ b → AnswersIt (answers_where b p.asker octets s)
      answers_it s kept false datagram = paid (ap (λ (b : Bool). not b || is_some (g.kept p.asker.peer)) datagram) s kept
      answers_it s kept true stream = by_stream s kept stream (entry_at p.asker.peer s.streams) refl

    pub walk : (ps : List Pending) (pre : List Owed) (s : Streams) → StreamsKept g s → AllByRecursion (λ (p : Pending). p.number ≡ k → says p.asker.query x) ps
        → Walked (askers_in (of_number k ps)) pre (owed_in ps) (owed_in (not_of k ps)) s
    walk [] pre s kept all = (rests (due g items (pre ++ [])) (due g items (pre ++ [])) [] refl refl, kept)
    walk (p ∷ ps) pre s kept all = go (p.number == k) refl (λ q t is. walk ps q t is all.1)
      where
        go : (b : Bool) → (p.number == k) ≡ b → ((q : List Owed) (t : Streams) → StreamsKept g t → Walked (askers_in (of_number k ps)) q (owed_in ps) (owed_in (not_of k ps)) t)
            → Walked (askers_in (cond b (p ∷ of_number k ps) (of_number k ps))) pre (owed_in (p ∷ ps)) (owed_in (cond (not b) (p ∷ not_of k ps) (not_of k ps))) s
        go false is ih = moved (askers_in (of_number k ps)) pre (owed p) (owed_in ps) (owed_in (not_of k ps)) s (ih (pre ++ owed p ∷ []) s kept)
        go true is ih =
            answers_it p (all.0 (same_number p.number k is)) (askers_in (of_number k ps)) pre (owed_in ps) (owed_in (not_of k ps)) (λ t kept. ih pre t kept) s kept p.asker.by_stream refl

  -- no stream is dropped by answers
  where_open : (b : Bool) (a : Asker) (sent : List ℕ) (s : Streams) (g : Heard) → closed_by (answers_where b a sent s).0 g ≡ g
  where_open false a sent s g = refl
  where_open true a sent s g = go (entry_at a.peer s.streams)
    where
      go : (o : Option Stream) → closed_by (answers_by_stream a sent s o).0 g ≡ g
      go None = refl
      go (Some t) = refl

  each_open : (x : Result (List ℕ) Error) (askers : List Asker) (s : Streams) (g : Heard) → closed_by (answers_each x askers s).0 g ≡ g
  each_open x [] s g = refl
  each_open x (a ∷ askers) s g =
      closed_append (answers_one x a s).0 (answers_each x askers (answers_one x a s).1).0 g
      ∙ ap (closed_by (answers_each x askers (answers_one x a s).1).0) (where_open a.by_stream a (answer_to a.query a.by_stream x) s g)
      ∙ each_open x askers (answers_one x a s).1 g

  -- what waits, and what is owed, once these were put out
  pub record AfterOuts (says : Says) (g : Heard) (h : History) (ps : List Pending) (done : List FrontOut × Desk) : Type 0 where
    pub left : List Pending
    pub waits : WaitsKept done.1.waits h g.last left
    pub streams : StreamsKept g done.1.streams
    pub pays : (items : List Item) → Pays says own (due g items (owed_in ps)) done.0 (due g items (owed_in left))
    pub still : closed_by done.0 g ≡ g

  module _ (says : Says) (g : Heard) where
    module _ (h : History) (ps : List Pending) (d : Desk) (waits : WaitsKept d.waits h g.last ps) (streams : StreamsKept g d.streams) where
      module _ (k : ℕ) (x : Result (List ℕ) Error) (asked : IsAsked k h) (said : AllByRecursion (λ (p : Pending). p.number ≡ k → says p.asker.query x) ps) where
        walked : (o : Option Waiting) → entry_at k d.waits.requests ≡ o → (items : List Item) → Walked says x k g items (askers_or_none o) [] (owed_in ps) (owed_in (not_of k ps)) d.streams
        walked o entry items =
            subst (λ (askers : List Asker). Walked says x k g items askers [] (owed_in ps) (owed_in (not_of k ps)) d.streams) (sym (waits.each k) ∙ ap askers_or_none entry)
            (walk says x k g items ps [] d.streams streams said)

        reply_by : (o : Option Waiting) → entry_at k d.waits.requests ≡ o → WaitsKept (answered_if k o d.waits) (Put (Reply k x) ∷ h) g.last (not_of k ps)
            → AfterOuts says g (Put (Reply k x) ∷ h) ps (replies k x d o)
        reply_by None entry after = record {
          left = not_of k ps;
          waits = after;
          streams = streams;
          pays = λ items. (walked None entry items).0;
          still = refl;
        }
        reply_by (Some v) entry after = record {
          left = not_of k ps;
          waits = after;
          streams = (walked (Some v) entry []).1;
          pays = λ items. (walked (Some v) entry items).0;
          still = each_open x (v.first ∷ v.others) d.streams g;
        }

        reply_put : AfterOuts says g (Put (Reply k x) ∷ h) ps (puts_out (Reply k x) d)
        reply_put = reply_by (entry_at k d.waits.requests) refl (after_reply d.waits h g.last ps k x asked.0 asked.1 waits)

      other_put : (o : Out) → ((k : ℕ) → is_reply k o ≡ false) → AfterOuts says g (Put o ∷ h) ps (Core o ∷ [], d)
      other_put o none = record { left = ps; waits = after_out d.waits h g.last ps o none waits; streams = streams; pays = λ items. pays_one says (due g items (owed_in ps)) (due g items (owed_in ps)) (Core o ∷ []) (PutsOut o refl refl); still = refl }

    then_put : (h : History) (ps : List Pending) (first : List FrontOut × Desk) (rest : List FrontOut × Desk) (end : History) (a : AfterOuts says g h ps first)
        → AfterOuts says g end a.left rest → AfterOuts says g end ps (before first.0 rest)
    then_put h ps first rest end a b = record {
      left = b.left;
      waits = b.waits;
      streams = b.streams;
      pays = λ items. pays_more says (due g items (owed_in ps)) (due g items (owed_in a.left)) first.0 (a.pays items) (due g items (owed_in b.left)) rest.0 (b.pays items);
      still = closed_append first.0 rest.0 g ∙ ap (closed_by rest.0) a.still ∙ b.still;
    }

    said_of : (h : History) (last : Option ℕ) (k : ℕ) (x : Result (List ℕ) Error) (outs : List Out) → TellsOf says h (Reply k x ∷ outs) → (ps : List Pending)
        → AllByRecursion (IsWaiting h last) ps → AllByRecursion (λ (p : Pending). p.number ≡ k → says p.asker.query x) ps
    said_of h last k x outs tells [] all = tt
    said_of h last k x outs tells (p ∷ ps) all = (
      (λ is. tells k x all.0.asked all.0.first p.asker.query (inl refl) (subst (λ (n : ℕ). asking n h ≡ Some all.0.asked) is all.0.is_asked) all.0.request all.0.same),
      said_of h last k x outs tells ps all.1,
    )

    pub outs_put : (outs : List Out) (h : History) (ps : List Pending) (d : Desk) → WaitsKept d.waits h g.last ps → StreamsKept g d.streams → OutsFit h outs → TellsOf says h outs
        → AfterOuts says g (put_all outs h) ps (puts_all outs d)
    outs_put [] h ps d waits streams fit tells = record { left = ps; waits = waits; streams = streams; pays = λ items. rests (due g items (owed_in ps)) (due g items (owed_in ps)) [] refl refl; still = refl }
    outs_put (Reply k x ∷ outs) h ps d waits streams fit tells =
        let one = reply_put h ps d waits streams k x fit.0 (said_of h g.last k x outs tells ps waits.waiting) in
        then_put (Put (Reply k x) ∷ h) ps (puts_out (Reply k x) d) (puts_all outs (puts_out (Reply k x) d).1) (put_all outs (Put (Reply k x) ∷ h)) one
        (outs_put outs (Put (Reply k x) ∷ h) one.left (puts_out (Reply k x) d).1 one.waits one.streams fit.1 (λ j y a first q among. tells j y a first q (inr among)))
    outs_put (o ∷ outs) h ps d waits streams fit tells =
        let one = other_put h ps d waits streams o (λ k. refl) in
        then_put (Put o ∷ h) ps (Core o ∷ [], d) (puts_all outs d) (put_all outs (Put o ∷ h)) one
        (outs_put outs (Put o ∷ h) one.left d one.waits one.streams fit (λ j y a first q among. tells j y a first q (inr among)))
