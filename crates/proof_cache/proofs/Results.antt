-- Moves that neither take an asking nor put a reply out keep each result an error or a message.
use Rattle.std.proofs.Common.{◌≡◌, ℕ, inl, inr, Bool, true, false, List, [], ◌∷◌, ◌++◌, refl, sym, ◌∙◌, ap, subst, arith, ◌==◌}
use Rattle.std.specs.Prelude.{Option, Some, None, Result, Ok, Err, if◌then◌else◌, map}
use Rattle.std.proofs.lemmas.Bool.Decides.{nat_tests}
use Rattle.client_request.specs.Request.{Request}
use Rattle.client_request.specs.declared.error.Error.{Error}
use Rattle.client_request.specs.declared.event.Event.{Event}
use Rattle.client_request.specs.declared.event.Out.{Out}
use Rattle.right_trace.specs.Trace.{Conf}
use Rattle.right_trace.specs.Messages.{Octets}
use Rattle.right_trace.specs.Parts.{IsIn}
use Rattle.right_trace.specs.Settings.{Settings}
use Rattle.right_trace.specs.Keys.{is_cacheable}
use Rattle.proof_right.specs.machine.Part.{Post, Act, ServerPart, IsPosted}
use Rattle.proof_right.specs.machine.Client.{Posted, Given, Entry, Waiting, Leaving, Upper, Made, with_held, tag, moved, handing, hand, keeping, first_message, first_result, or_else, best, validity_of, outcome_of, IsOutcome, Caches, Passes, leave, newcomer, take_on, Move, Server_moves, Hands_on, Gives_up, Drops, Keeps_back, Delivers, Concludes, Times_out, Revives, Replies, Forgets, Derives, Answers, Takes_on, row_begins, begun}
use Rattle.proof_right.proofs.client.Lists.{in_either, in_here, in_more, in_tagged}
use Rattle.right_trace.specs.InOctets.{IsInOctets}
use Rattle.proof_cache.specs.Standing.{IsResult}
use Rattle.proof_parts.specs.Leading.{IsBelow, Leads, Arrives, Then}
use Rattle.proof_cache.specs.Results.{AllResults, GivesMessages, Sanely, LeavesWithResult, WentOn}

posted_result : (x : Post) (xs : List Post) → AllResults xs → IsPosted x xs → IsResult x.result
posted_result x [] all is = absurd is
posted_result x (y ∷ xs) all is = elim is [
  | inl e ↦ subst (λ (z : Post). IsResult z.result) e all.0
  | inr i ↦ posted_result x xs all.1 i
]

-- ---- what was kept back

-- each result that was kept back is an error or a message
abbrev KeptAreResults : List Given → Type 0
KeptAreResults gs = (g : Given) → IsIn g gs → IsResult g.result

first_message_result : (gs : List Given) (y : Result Octets Error) → KeptAreResults gs → first_message gs ≡ Some y → IsResult y
first_message_result [] y kept = λ e. absurd cc
first_message_result (g ∷ gs) y kept = go g.result (kept g (inl refl)) (first_message_result gs y (λ h i. kept h (inr i)))
  where
    go : (r : Result Octets Error) → IsResult r → (first_message gs ≡ Some y → IsResult y) → (elim r [ Ok m ↦ Some (Ok m) | Err e ↦ first_message gs ]) ≡ Some y → IsResult y
    go (Ok m) is rest e = (let same : Path (Result Octets Error) (Ok m) y = cc in subst IsResult same is)
    go (Err x) is rest e = rest e

first_result_result : (gs : List Given) (y : Result Octets Error) → KeptAreResults gs → first_result gs ≡ Some y → IsResult y
first_result_result [] y kept e = absurd cc
first_result_result (g ∷ gs) y kept e = (let same : g.result ≡ y = cc in subst IsResult same (kept g (inl refl)))

best_result : (gs : List Given) (y : Result Octets Error) → KeptAreResults gs → best gs ≡ Some y → IsResult y
best_result gs y kept = go (first_message gs) refl
  where
    go : (o : Option (Result Octets Error)) → first_message gs ≡ o → or_else o (first_result gs) ≡ Some y → IsResult y
    go (Some x) is e = first_message_result gs y kept (is ∙ e)
    go None is e = first_result_result gs y kept e

-- ---- what leaves

-- an outcome is of its request, and an error or a message where its result is
record IsOutcomeOf (k : ℕ) (r : Request) (z : Leaving) : Type 0 where
  pub request : z.request ≡ k
  pub asked : z.asked ≡ r
  pub result : IsResult z.result

made_of : (cacheable : Bool) (v : Option ℕ) (k : ℕ) (r : Request) (y : Result Octets Error) → IsResult y → IsOutcomeOf k r (outcome_of cacheable v k r y)
made_of false v k r y is = record { request = refl; asked = refl; result = is }
made_of true (Some n) k r y is = record { request = refl; asked = refl; result = is }
made_of true None k r y is = record { request = refl; asked = refl; result = tt }

outcome_made : (s : Settings) (k : ℕ) (r : Request) (y : Result Octets Error) (z : Leaving) → IsResult y → IsOutcome s k r y z → IsOutcomeOf k r z
outcome_made s k r y _ is Caches = made_of (is_cacheable r) (validity_of s y) k r y is
outcome_made s k r y _ is (Passes m ok none) = record { request = refl; asked = refl; result = is }

module _ {U : Type 0} (Sane : U → Type 0) where
  -- what no result is of may change
  pub sanely_alike : (x y : Upper U) → y.ups ≡ x.ups → y.board ≡ x.board → y.held ≡ x.held → Sanely Sane x → Sanely Sane y
  sanely_alike x y ups board held sane = record {
    ups = subst (λ (f : ℕ → U). (i : ℕ) → Sane (f i)) (sym ups) sane.ups;
    board = subst (λ (b : List Posted). (p : Posted) → IsIn p b → IsResult p.result) (sym board) sane.board;
    held = subst (λ (h : ℕ → Option Waiting). (k : ℕ) (a : Waiting) → h k ≡ Some a → KeptAreResults a.kept_back) (sym held) sane.held;
  }

  -- what is kept back of a request, where it is tried
  abbrev KeptOf : Option Waiting → Type 0
  KeptOf o = (a : Waiting) → o ≡ Some a → KeptAreResults a.kept_back

  held_at : (k : ℕ) (o : Option Waiting) (held : ℕ → Option Waiting) → KeptOf o → ((j : ℕ) → KeptOf (held j)) → (j : ℕ) → KeptOf (with_held k o held j)
  held_at k o held this others j = go (k == j)
    where
      go : (b : Bool) → KeptOf (if b then o else held j)
      go true = this
      go false = others j

  kept_none : KeptOf None
  kept_none a e = absurd cc

  kept_some : (a : Waiting) → KeptAreResults a.kept_back → KeptOf (Some a)
  kept_some a kept b e = (let same : a.kept_back ≡ b.kept_back = cc in subst KeptAreResults same kept)

  -- a request is tried no more
  pub sanely_without : (k : ℕ) (x y : Upper U) → y.ups ≡ x.ups → y.board ≡ x.board → y.held ≡ with_held k None x.held → Sanely Sane x → Sanely Sane y
  sanely_without k x y ups board held sane =
      sanely_alike (record x { held = with_held k None x.held }) y ups board held
      (record { ups = sane.ups; board = sane.board; held = held_at k None x.held kept_none sane.held })

  -- a request is taken on
  pub sanely_taken_on : (r : Request) (old : Option Entry) (x : Upper U) → Sanely Sane x → Sanely Sane (take_on r old x)
  sanely_taken_on r old x sane = record {
    ups = sane.ups;
    board = sane.board;
    held = held_at x.asked (Some (newcomer r x.now)) x.held (kept_some (newcomer r x.now) (λ g i. absurd i)) sane.held;
  }

  -- no moves
  pub stays : (x : Upper U) → Sanely Sane x → WentOn Sane x x
  stays x sane = record { sane = sane; requests = λ k b e. (b, e, refl); leaving = λ z i. inl i }

  -- moves behind others
  pub goes_on : (x y z : Upper U) → WentOn Sane x y → WentOn Sane y z → WentOn Sane x z
  goes_on x y z first rest = record {
    sane = rest.sane;
    requests = λ k c e. (let b = rest.requests k c e in let a = first.requests k b.0 b.1 in (a.0, a.1, b.2 ∙ a.2));
    leaving = λ l i. elim (rest.leaving l i) [
      | inl before ↦ first.leaving l before
      | inr new ↦ (let a = first.requests l.request new.waiting new.held in inr (record { result = new.result; waiting = a.0; held = a.1; asked = new.asked ∙ a.2 }))
    ];
  }

  -- the board, without one
  board_less : (before after : List Posted) (y : Posted) (board : List Posted) → board ≡ before ++ y ∷ after → ((p : Posted) → IsIn p board → IsResult p.result) → (p : Posted) → IsIn p (before ++ after) → IsResult p.result
  board_less before after y board is all p i = all p (subst (IsIn p) (sym is) (in_more p y before after i))

  board_one : (before after : List Posted) (y : Posted) (board : List Posted) → board ≡ before ++ y ∷ after → ((p : Posted) → IsIn p board → IsResult p.result) → IsResult y.result
  board_one before after y board is all = all y (subst (IsIn y) (sym is) (in_here y before after))

  -- a request that is tried again with the same request behind it
  same_request : (k : ℕ) (a b : Waiting) (held : ℕ → Option Waiting) → held k ≡ Some a → b.request ≡ a.request → (j : ℕ) (z : Waiting) → with_held k (Some b) held j ≡ Some z → (w : Waiting) × (held j ≡ Some w) × (z.request ≡ w.request)
  same_request k a b held is same j z = go (k == j) refl
    where
      go : (t : Bool) → (k == j) ≡ t → (if t then Some b else held j) ≡ Some z → (w : Waiting) × (held j ≡ Some w) × (z.request ≡ w.request)
      go true e f =
          let at : k ≡ j = grind (arith, nat_tests) in
          let one : b ≡ z = cc in
          (a, subst (λ i. held i ≡ Some a) at is, ap (λ (w : Waiting). w.request) (sym one) ∙ same)
      go false e f = (z, f, refl)

  fewer_requests : (k : ℕ) (held : ℕ → Option Waiting) (j : ℕ) (z : Waiting) → with_held k None held j ≡ Some z → (w : Waiting) × (held j ≡ Some w) × (z.request ≡ w.request)
  fewer_requests k held j z = go (k == j)
    where
      go : (t : Bool) → (if t then None else held j) ≡ Some z → (w : Waiting) × (held j ≡ Some w) × (z.request ≡ w.request)
      go true f = absurd cc
      go false f = (z, f, refl)

  -- a server moves
  module _ (i : ℕ) (d : Act U) (good : Sane d.state × AllResults d.posts) where
    moved_sanely : (x : Upper U) → Sanely Sane x → Sanely Sane (moved i d x)
    moved_sanely x sane = record {
      ups = λ j. up (i == j) j;
      board = λ p is. elim (in_either p x.board (map (tag i) d.posts) is) [
        | inl before ↦ sane.board p before
        | inr new ↦ (let t = in_tagged i p d.posts new in subst (λ (q : Posted). IsResult q.result) t.2 (posted_result t.0 d.posts good.1 t.1))
      ];
      held = sane.held;
    }
      where
        up : (b : Bool) (j : ℕ) → Sane (if b then d.state else x.ups j)
        up true j = good.0
        up false j = sane.ups j

    moves_on : (x : Upper U) → Sanely Sane x → WentOn Sane x (moved i d x)
    moves_on x sane = record { sane = moved_sanely x sane; requests = λ k b e. (b, e, refl); leaving = λ z is. inl is }

  -- a request leaves
  leaves_on : (k : ℕ) (x y : Upper U) (a : Waiting) (z : Leaving) → y.held ≡ x.held → y.leaving ≡ x.leaving → Sanely Sane y → x.held k ≡ Some a → IsOutcomeOf k a.request z → WentOn Sane x (leave z y)
  leaves_on k x y a z held leaving sane is out = record {
    sane = record { ups = sane.ups; board = sane.board; held = held_at z.request None y.held kept_none sane.held };
    requests = λ j b e. fewer_requests z.request x.held j b (subst (λ (h : ℕ → Option Waiting). with_held z.request None h j ≡ Some b) held e);
    leaving = λ l i. elim (in_either l y.leaving (z ∷ []) i) [
      | inl before ↦ inl (subst (IsIn l) leaving before)
      | inr new ↦ elim new [
        | inl one ↦ inr (subst (LeavesWithResult Sane x) one (record { result = out.result; waiting = a; held = subst (λ j. x.held j ≡ Some a) (sym out.request) is; asked = out.asked }))
        | inr none ↦ absurd none
      ]
    ];
  }

module _ {c : Conf} (st : Settings) (compose : Request → Result Octets Error) (P : ServerPart c) (Sane : P.State → Type 0) (gives : GivesMessages P Sane) where
  -- what the machine begins with
  pub begun_sanely : Sanely Sane (begun c st compose P)
  begun_sanely = record { ups = λ i. gives.fresh; board = λ y i. absurd i; held = λ k. kept_none Sane }

  -- a row begins
  pub row_begins_sanely : (e : Event) (x : Upper P.State) → IsInOctets e.what → Sanely Sane x → Sanely Sane (row_begins c st compose P e x)
  row_begins_sanely e x octets sane = record { ups = λ i. gives.begins e (x.ups i) octets (sane.ups i); board = sane.board; held = sane.held }

  -- one move
  move_sanely : (x : Upper P.State) (d : Made P.State) (m : Move c st compose P x d) → IsBelow st compose P x d m → Sanely Sane x → WentOn Sane x d.state
  move_sanely x _ (Server_moves i d lt acts) below sane = moves_on Sane i d (gives.acts i x.place (x.ups i) d (sane.ups i) acts) x sane
  move_sanely x _ (Hands_on i k a d lt held tried starts) below sane =
      let handed : Sanely Sane (hand k i a x) = record { ups = sane.ups; board = sane.board; held = held_at Sane k (Some (handing i a)) x.held (kept_some Sane (handing i a) (sane.held k a held)) sane.held } in
      let on = moves_on Sane i d (gives.starts i x.place k a.request (x.ups i) d (sane.ups i) starts) (hand k i a x) handed in
      record { sane = on.sane; requests = same_request Sane k a (handing i a) x.held held refl; leaving = λ z is. inl is }
  move_sanely x _ (Gives_up i k d lt held holds cancels) below sane = moves_on Sane i d (gives.cancels i x.place k (x.ups i) d (sane.ups i) cancels) x sane
  move_sanely x _ (Drops before after y board held) below sane =
      record { sane = record { ups = sane.ups; board = board_less Sane before after y x.board board sane.board; held = sane.held }; requests = λ k b e. (b, e, refl); leaving = λ z is. inl is }
  move_sanely x _ (Keeps_back before after y a board held waits) below sane =
      let g : Given = record { server = y.server; result = y.result } in
      record {
        sane = record {
          ups = sane.ups;
          board = board_less Sane before after y x.board board sane.board;
          held = held_at Sane y.request (Some (keeping g a)) x.held (kept_some Sane (keeping g a) (λ h is. elim (in_either h a.kept_back (g ∷ []) is) [
            | inl old ↦ sane.held y.request a held h old
            | inr new ↦ elim new [
              | inl one ↦ subst (λ (o : Given). IsResult o.result) one (board_one Sane before after y x.board board sane.board)
              | inr none ↦ absurd none
            ]
          ])) sane.held;
        };
        requests = same_request Sane y.request a (keeping g a) x.held held refl;
        leaving = λ z is. inl is;
      }
  move_sanely x _ (Delivers before after y a z board held final is) below sane =
      let less : Sanely Sane (record x { board = before ++ after }) = record { ups = sane.ups; board = board_less Sane before after y x.board board sane.board; held = sane.held } in
      leaves_on Sane y.request x (record x { board = before ++ after }) a z refl refl less held
      (outcome_made st y.request a.request y.result z (board_one Sane before after y x.board board sane.board) is)
  move_sanely x _ (Concludes k a y z held tried free none best is) below sane =
      leaves_on Sane k x x a z refl refl sane held (outcome_made st k a.request y z (best_result a.kept_back y (sane.held k a held) best) is)
  move_sanely x _ (Times_out k a held late) below sane = leaves_on Sane k x x a _ refl refl sane held (record { request = refl; asked = refl; result = tt })
  move_sanely x _ (Revives before after y e m leaving fails there may) below sane = absurd below
  move_sanely x _ (Replies before after y leaving) below sane = absurd below
  move_sanely x _ (Forgets before after e stored) below sane = record { sane = record { ups = sane.ups; board = sane.board; held = sane.held }; requests = λ k b e. (b, e, refl); leaving = λ z is. inl is }
  move_sanely x _ (Derives e k is covers) below sane = record { sane = record { ups = sane.ups; board = sane.board; held = sane.held }; requests = λ k b e. (b, e, refl); leaving = λ z is. inl is }
  move_sanely x _ (Answers r y pending at_once) below sane = absurd below
  move_sanely x _ (Takes_on r o old pending composes some there) below sane = absurd below

  pub leads_sanely : (x : Upper P.State) (outs : List Out) (y : Upper P.State) → Leads st compose P x outs y → Sanely Sane x → WentOn Sane x y
  leads_sanely x _ _ (Arrives _) sane = stays Sane x sane
  leads_sanely x _ _ (Then _ d outs y m below more) sane =
      let one = move_sanely x d m below sane in
      goes_on Sane x d.state y one (leads_sanely d.state outs y more one.sane)
