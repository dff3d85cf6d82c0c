-- With nothing deferred a row gives at most one error that a fault of a place brings.
use Rattle.proof_right.proofs.PartLaws.{machine_of, Part, fault_in, total, IsEventOf, Tells}
use Rattle.std.proofs.Common.{◌≡◌, ℕ, ◌+◌, ◌≤◌, ◌≢◌, Bool, true, false, ◌⊎◌, inl, inr, Option, Some, None, List, [], ◌∷◌, ◌++◌, refl, arith, sym, ◌∙◌, ap, ap₂, subst, ◌==◌}
use Rattle.std.specs.Prelude.{Result, Ok, Err, map}
use Rattle.std.proofs.lemmas.Bool.{cases_eq, cases_lt, or_right}
use Rattle.std.proofs.lemmas.Bool.Decides.{nat_tests}
use Rattle.client_request.specs.Request.{Request}
use Rattle.client_request.specs.declared.error.Error.{Error}
use Rattle.client_request.specs.declared.error.QueryError.{QueryError}
use Rattle.client_request.specs.declared.event.What.{What}
use Rattle.client_request.specs.declared.event.What.TheVariants.{Ask, Opened, OpenFailed, SendFailed, ShortSend, Datagram, RecvFailed, Wrote, WriteFailed, Bytes, ReadFailed, Ended, Tick}
use Rattle.client_request.specs.declared.event.Out.{Out}
use Rattle.client_request.specs.declared.event.Out.TheVariants.{Start, OpenDgram, OpenStream, Send, Write, Resume, Close, Stale, Reply}
use Rattle.right_trace.specs.Trace.{History, Conf, Put, put_all}
use Rattle.right_trace.specs.Time.{one_if}
use Rattle.right_trace.specs.Messages.{Octets, Composes}
use Rattle.right_trace.specs.Requests.{is_ask, replied}
use Rattle.right_trace.specs.Places.{Site, site, place_of}
use Rattle.right_trace.specs.Right.{fault_of, faults, ServerOutsRight}
use Rattle.right_trace.specs.Settings.{Settings, defers_nothing}
use Rattle.right_trace.specs.Keys.{is_cacheable}
use Rattle.proof_right.specs.machine.Part.{Post, Act}
use Rattle.proof_right.specs.machine.Client.{Posted, Leaving, Upper, Made, with_up, tag, moved, hand, store, take_on, leave, outcome, outcome_of, validity_of, IsOutcome, Caches, Passes, Move, Server_moves, Hands_on, Gives_up, Drops, Keeps_back, Delivers, Concludes, Times_out, Revives, told_of, revive, Replies, Forgets, Derives, Answers, Takes_on, Moves, Rests, Goes}
use Rattle.proof_right.proofs.client.Kept.{Kept}
use Rattle.proof_right.proofs.client.Later.{site_all}
use Rattle.right_trace.proofs.Asked.{here_is_ask}
use Rattle.proof_right.proofs.client.Beginning.{waits_not}
use Rattle.proof_right.proofs.client.Outcomes.{best_given}
use Rattle.proof_right.proofs.client.Serving.{clash}
use Rattle.proof_right.proofs.client.Moving.{acts_right_here, starts_right_here, cancels_right_here}
use Rattle.proof_right.proofs.client.Steps.{move_does}
use Rattle.client_request.specs.declared.error.Error.TheVariants as errors
use Rattle.client_request.specs.declared.error.QueryError.TheVariants as query

fault_query : (k : ℕ) (q : QueryError) → fault_of (Reply k (Err (errors.Dgram q))) ≡ fault_in (Err (errors.Dgram q))
fault_query k (query.Connect f) = refl
fault_query k (query.Send f) = refl
fault_query k (query.Receive f) = refl
fault_query k query.Timeout = refl

fault_reply : (k : ℕ) (x : Result Octets Error) → fault_of (Reply k x) ≡ fault_in x
fault_reply k (Ok m) = refl
fault_reply k (Err errors.ConnectionClosed) = refl
fault_reply k (Err errors.OptTooLong) = refl
fault_reply k (Err errors.MessageBuilderPushError) = refl
fault_reply k (Err errors.MessageParseError) = refl
fault_reply k (Err errors.RedundantTransportNotFound) = refl
fault_reply k (Err errors.FormError) = refl
fault_reply k (Err errors.ShortMessage) = refl
fault_reply k (Err errors.StreamLongMessage) = refl
fault_reply k (Err errors.StreamIdleTimeout) = refl
fault_reply k (Err errors.StreamReceiveError) = refl
fault_reply k (Err (errors.StreamReadError f)) = refl
fault_reply k (Err errors.StreamReadTimeout) = refl
fault_reply k (Err errors.StreamTooManyOutstandingQueries) = refl
fault_reply k (Err (errors.StreamWriteError f)) = refl
fault_reply k (Err errors.StreamUnexpectedEndOfData) = refl
fault_reply k (Err errors.WrongReplyForQuery) = refl
fault_reply k (Err errors.NoTransportAvailable) = refl
fault_reply k (Err (errors.Dgram q)) = fault_query k q
fault_reply k (Err errors.NoMemory) = refl
fault_reply k (Err errors.NumbersUsed) = refl
fault_reply k (Err errors.TimedOut) = refl
fault_reply k (Err errors.AlreadyDone) = refl
fault_reply k (Err errors.Failed) = refl

-- what is put of a result that leaves is no fault where that is none
told_faults : (k : ℕ) (x : Result Octets Error) (o : Option Octets) → faults (told_of k x o) ≤ fault_in x
told_faults k x None = (let r = fault_reply k x in omega arith)
told_faults k x (Some m) = omega arith

fault_query_few : (q : QueryError) → fault_in (Err (errors.Dgram q)) ≤ 1
fault_query_few (query.Connect f) = omega arith
fault_query_few (query.Send f) = omega arith
fault_query_few (query.Receive f) = omega arith
fault_query_few query.Timeout = omega arith

pub fault_few : (x : Result Octets Error) → fault_in x ≤ 1
fault_few (Ok m) = omega arith
fault_few (Err (errors.Dgram q)) = fault_query_few q
fault_few (Err _) = omega arith

-- a server puts no reply
no_faults : (c : Conf) (past : History) (w : What) (end : History) (xs : List Out) (h : History) → ServerOutsRight c past w end h xs → faults xs ≡ 0
no_faults c past w end [] h r = refl
no_faults c past w end (Start k i v ∷ xs) h r = (let i = no_faults c past w end xs (Put (Start k i v) ∷ h) r.1 in omega arith)
no_faults c past w end (OpenDgram q i ∷ xs) h r = (let i = no_faults c past w end xs (Put (OpenDgram q i) ∷ h) r.1 in omega arith)
no_faults c past w end (OpenStream q i ∷ xs) h r = (let i = no_faults c past w end xs (Put (OpenStream q i) ∷ h) r.1 in omega arith)
no_faults c past w end (Send p k id o ∷ xs) h r = (let i = no_faults c past w end xs (Put (Send p k id o) ∷ h) r.1 in omega arith)
no_faults c past w end (Write p k id o ∷ xs) h r = (let i = no_faults c past w end xs (Put (Write p k id o) ∷ h) r.1 in omega arith)
no_faults c past w end (Resume p o ∷ xs) h r = (let i = no_faults c past w end xs (Put (Resume p o) ∷ h) r.1 in omega arith)
no_faults c past w end (Stale l ∷ xs) h r = (let i = no_faults c past w end xs (Put (Stale l) ∷ h) r.1 in omega arith)
no_faults c past w end (Close p ∷ xs) h r = (let i = no_faults c past w end xs (Put (Close p) ∷ h) r.1 in omega arith)
no_faults c past w end (Reply k x ∷ xs) h r = absurd r.0

faults_more : (xs ys : List Out) → faults (xs ++ ys) ≡ faults xs + faults ys
faults_more [] ys = omega arith
faults_more (x ∷ xs) ys = (let i = faults_more xs ys in omega arith)

module _ {A : Type 0} (f : A → ℕ) where
  total_more : (xs ys : List A) → total f (xs ++ ys) ≡ total f xs + total f ys
  total_more [] ys = omega arith
  total_more (x ∷ xs) ys = (let i = total_more xs ys in omega arith)

  total_but : (xs : List A) (y : A) (ys : List A) → total f (xs ++ y ∷ ys) ≡ total f (xs ++ ys) + f y
  total_but xs y ys = (let a = total_more xs (y ∷ ys) in let b = total_more xs ys in omega arith)

total_tagged : (s : ℕ) (xs : List Post) → total (λ (x : Posted). fault_in x.result) (map (tag s) xs) ≡ total (λ (x : Post). fault_in x.result) xs
total_tagged s [] = refl
total_tagged s (x ∷ xs) = ap (λ n. fault_in x.result + n) (total_tagged s xs)

-- an outcome is no fault where its result is none
outcome_fault : (s : Settings) (k : ℕ) (r : Request) (x : Result Octets Error) → fault_in (outcome s k r x).result ≤ fault_in x
outcome_fault s k r x = go (is_cacheable r) (validity_of s x)
  where
    go : (b : Bool) (v : Option ℕ) → fault_in (outcome_of b v k r x).result ≤ fault_in x
    go false v = omega arith
    go true (Some n) = omega arith
    go true None = omega arith

is_fault : (s : Settings) (k : ℕ) (r : Request) (x : Result Octets Error) (z : Leaving) → IsOutcome s k r x z → fault_in z.result ≤ fault_in x
is_fault s k r x _ Caches = outcome_fault s k r x
is_fault s k r x _ (Passes m is none) = omega arith

same_place : (w : What) (p q : ℕ) → place_of w ≡ Some p → place_of w ≡ Some q → p ≡ q
same_place w p q a b = (let z : Path (Option ℕ) (Some p) (Some q) = sym a ∙ b in cc)

no_place : (w : What) (p : ℕ) → is_ask w ≡ true → place_of w ≡ Some p → ⊥
no_place (Ask r) p a b = absurd (cc)
no_place (Opened q) p a b = absurd (cc)
no_place (OpenFailed q f) p a b = absurd (cc)
no_place (SendFailed q f) p a b = absurd (cc)
no_place (ShortSend q) p a b = absurd (cc)
no_place (Datagram q o) p a b = absurd (cc)
no_place (RecvFailed q f) p a b = absurd (cc)
no_place (Wrote q n) p a b = absurd (cc)
no_place (WriteFailed q f) p a b = absurd (cc)
no_place (Bytes q o) p a b = absurd (cc)
no_place (ReadFailed q f) p a b = absurd (cc)
no_place (Ended q) p a b = absurd (cc)
no_place Tick p a b = absurd (cc)

same_server : (s t : ℕ) (w : What) (h : History) → IsEventOf s w h → IsEventOf t w h → s ≡ t
same_server s t w h a b =
    let p : a.place ≡ b.place = same_place w a.place b.place a.names b.names in
    let z : Path (Option Site) (Some (record { via = a.via; server = s })) (Some (record { via = b.via; server = t })) = sym a.at ∙ (ap (λ p. site p h) p ∙ b.at) in
    let v : record { via = a.via; server = s } ≡ record { via = b.via; server = t } = cc in
    ap (λ (x : Site). x.server) v

event_on : (s : ℕ) (w : What) (xs : List Out) (h : History) → IsEventOf s w h → IsEventOf s w (put_all xs h)
event_on s w xs h a = record { place = a.place; names = a.names; via = a.via; at = site_all a.place xs (record { via = a.via; server = s }) h a.at }

module _ (c : Conf) (s : Settings) (compose : Request → Result Octets Error) (composes : Composes c compose) (P : Part c) (past : History) (w : What) (quiet : defers_nothing s ≡ true) where
  -- faults that are on their way
  abbrev on_board : List Posted → ℕ
  on_board = total (λ x. fault_in x.result)

  abbrev on_leave : List Leaving → ℕ
  on_leave = total (λ x. fault_in x.result)

  -- n were put in this row; with those on their way, and one more of an asking that is not answered yet, there is at most one; where there is one, the row is an asking, or its event names a place of a server that has taken it.
  pub record FaultsFit (n : ℕ) (x : Upper P.State) (h : History) : Type 0 where
    pub few : n + on_board x.board + on_leave x.leaving + one_if (is_ask x.pending) ≤ 1
    pub event : 1 ≤ n + on_board x.board + on_leave x.leaving → (is_ask w ≡ true) ⊎ ((i : ℕ) × IsEventOf i w h × (P.has_taken (x.ups i) ≡ true))

  with_same : (i : ℕ) (u : P.State) (f : ℕ → P.State) → with_up i u f i ≡ u
  with_same i u f = grind (arith, nat_tests)

  with_other : (i t : ℕ) (u : P.State) (f : ℕ → P.State) → t ≢ i → with_up i u f t ≡ f t
  with_other i t u f ne = grind (arith, nat_tests)

  -- what is put later is another number with the same sum
  fewer : (n m : ℕ) (x y : Upper P.State) (h : History) → FaultsFit n x h → m + on_board y.board + on_leave y.leaving ≤ n + on_board x.board + on_leave x.leaving → one_if (is_ask y.pending) ≤ one_if (is_ask x.pending) → y.ups ≡ x.ups → FaultsFit m y h
  fewer n m x y h f le pe same = record {
    few = (let a = f.few in omega arith);
    event = λ o. elim (f.event (omega arith)) [ inl a ↦ inl a | inr b ↦ inr (b.0, b.1, ap (λ (u : ℕ → P.State). P.has_taken (u (b.0))) same ∙ b.2) ];
  }

  served : (n i : ℕ) (x y : Upper P.State) (h : History) (d : Act P.State) → Kept c s P past w x h → y.board ≡ x.board → y.leaving ≡ x.leaving → y.pending ≡ x.pending → y.ups ≡ x.ups → Tells P.State P.has_taken i w (x.ups i) h d → FaultsFit n x h → faults d.outs ≡ 0
      → FaultsFit (n + faults d.outs) (moved i d y) (put_all d.outs h)
  served n i x y h d kept eb el ep eu tells f none =
      let posts : ℕ = total (λ (z : Post). fault_in z.result) d.posts in
      let sum : on_board (y.board ++ map (tag i) d.posts) ≡ on_board x.board + posts = total_more (λ z. fault_in z.result) y.board (map (tag i) d.posts) ∙ ap₂ (λ a b. a + b) (ap on_board eb) (total_tagged i d.posts) in
      let lv : on_leave y.leaving ≡ on_leave x.leaving = ap on_leave el in
      let pe : one_if (is_ask y.pending) ≡ one_if (is_ask x.pending) = ap (λ p. one_if (is_ask p)) ep in
      elim (cases_lt 0 posts) [
        | inl some ↦
            (let t = tells.by_event (omega arith) in
            let ev : IsEventOf i w (put_all d.outs h) = t.2 in
            let old : 1 ≤ n + on_board x.board + on_leave x.leaving → ⊥ = λ o. elim (f.event o) [
              | inl a ↦ no_place w ev.place a ev.names
              | inr b ↦ (let is : i ≡ b.0 = same_server i (b.0) w (put_all d.outs h) ev (event_on (b.0) w d.outs h b.1) in clash (P.has_taken (x.ups i)) (subst (λ j. P.has_taken (x.ups j) ≡ true) (sym is) b.2) t.0)
            ] in
            let no_ask : one_if (is_ask x.pending) ≡ 0 = not_asking x.pending refl ev in
            let few = tells.few in
            let zero : n + on_board x.board + on_leave x.leaving ≡ 0 = elim (cases_lt 0 (n + on_board x.board + on_leave x.leaving)) [ inl l ↦ absurd (old (omega arith)) | inr l ↦ (omega arith) ] in
            record {
              few = omega arith;
              event = λ o. inr (i, ev, ap P.has_taken (with_same i d.state y.ups) ∙ t.1);
            })
        | inr le ↦ record {
          few = (let a = f.few in omega arith);
          event = λ o. elim (f.event (omega arith)) [
            | inl a ↦ inl a
            | inr b ↦ inr (
              b.0,
              event_on (b.0) w d.outs h b.1,
              elim (cases_eq (b.0) i) [
                | inl is ↦ subst (λ j. P.has_taken (with_up i d.state y.ups j) ≡ true) (sym is) (ap P.has_taken (with_same i d.state y.ups) ∙ tells.stays (subst (λ j. P.has_taken (x.ups j) ≡ true) is b.2))
                | inr ne ↦ ap P.has_taken (with_other i (b.0) d.state y.ups ne) ∙ (ap (λ (u : ℕ → P.State). P.has_taken (u (b.0))) eu ∙ b.2)
              ],
            )
          ];
        }
      ]
    where
      not_asking : (p : What) → x.pending ≡ p → IsEventOf i w (put_all d.outs h) → one_if (is_ask p) ≡ 0
      not_asking (Ask r) e ev = absurd (no_place w ev.place (subst (λ v. is_ask v ≡ true) kept.newest (here_is_ask x.asked h ((kept.pending r e).here))) ev.names)
      not_asking (Opened q) e ev = refl
      not_asking (OpenFailed q f) e ev = refl
      not_asking (SendFailed q f) e ev = refl
      not_asking (ShortSend q) e ev = refl
      not_asking (Datagram q o) e ev = refl
      not_asking (RecvFailed q f) e ev = refl
      not_asking (Wrote q n) e ev = refl
      not_asking (WriteFailed q f) e ev = refl
      not_asking (Bytes q o) e ev = refl
      not_asking (ReadFailed q f) e ev = refl
      not_asking (Ended q) e ev = refl
      not_asking Tick e ev = refl

  left : (xs : List Leaving) (y : Leaving) → on_leave (xs ++ y ∷ []) ≡ on_leave xs + fault_in y.result
  left xs y = (let a = total_more (λ (z : Leaving). fault_in z.result) xs (y ∷ []) in omega arith)

  move_faults : (n : ℕ) (x : Upper P.State) (h : History) (d : Made P.State) → Kept c s P past w x h → FaultsFit n x h → Move c s compose (machine_of P) x d → FaultsFit (n + faults d.outs) d.state (put_all d.outs h)
  move_faults n x h _ kept f (Server_moves i d lt act) =
      let r = acts_right_here c s P past w x h kept i lt d act (put_all d.outs h) (λ k e. e) in
      served n i x x h d kept refl refl refl refl (P.acts_tells i x.place past w (x.ups i) h d lt (kept.parts i lt) kept.place act) f (no_faults c past w (put_all d.outs h) d.outs h r)
  move_faults n x h _ kept f (Hands_on i k a d lt held untried st) =
      let q = kept.reqs k a held in
      let r = starts_right_here c s P past w x h kept i lt k a held untried d st (put_all d.outs h) (λ k e. e) in
      served n i x (hand k i a x) h d kept refl refl refl refl (P.starts_tells i x.place k a.moment a.request past w (x.ups i) h d lt (kept.parts i lt) kept.place q.octets q.asked (sym (q.tried i) ∙ untried) st) f (no_faults c past w (put_all d.outs h) d.outs h r)
  move_faults n x h _ kept f (Gives_up i k d lt held holds can) =
      let end : History = Put (Reply k (Err errors.TimedOut)) ∷ put_all d.outs h in
      let r = cancels_right_here c s P past w x h kept i lt k held holds d can end (λ j e. or_right (k == j) (replied j (put_all d.outs h)) e) (replied_now k (put_all d.outs h)) in
      let none : d.posts ≡ [] = P.cancels_posts i x.place k past w (x.ups i) h d lt (kept.parts i lt) kept.place holds can in
      let zero : total (λ (z : Post). fault_in z.result) d.posts ≡ 0 = ap (total (λ (z : Post). fault_in z.result)) none in
      served n i x x h d kept refl refl refl refl (record { stays = P.cancels_taken i x.place k past w (x.ups i) h d lt (kept.parts i lt) kept.place holds can; few = omega arith; by_event = λ o. absurd (omega arith) }) f (no_faults c past w end d.outs h r)
    where
      replied_now : (k : ℕ) (g : History) → replied k (Put (Reply k (Err errors.TimedOut)) ∷ g) ≡ true
      replied_now k g = grind (arith, nat_tests)
  move_faults n x h _ kept f (Drops before after y is held) =
      let b : on_board x.board ≡ on_board (before ++ after) + fault_in y.result = ap on_board is ∙ total_but (λ z. fault_in z.result) before y after in
      fewer n (n + 0) x (record x { board = before ++ after }) h f (omega arith) (omega arith) refl
  move_faults n x h _ kept f (Keeps_back before after y a is held waits) = absurd (waits_not s y.result quiet waits)
  move_faults n x h _ kept f (Delivers before after y a z is held waits out) =
      let b : on_board x.board ≡ on_board (before ++ after) + fault_in y.result = ap on_board is ∙ total_but (λ z. fault_in z.result) before y after in
      let o = is_fault s y.request a.request y.result z out in
      let l = left x.leaving z in
      fewer n (n + 0) x (leave z (record x { board = before ++ after })) h f (omega arith) (omega arith) refl
  move_faults n x h _ kept f (Concludes k a y z held tried free none is out) = (let g = best_given a.kept_back y is in absurd (waits_not s (g.0).result quiet ((kept.back k a (g.0) held g.1).waits)))
  move_faults n x h _ kept f (Times_out k a held late) =
      let l = left x.leaving (record { request = k; asked = a.request; result = Err errors.TimedOut; given = Err errors.TimedOut; is_stored = false; stale = None }) in
      fewer n (n + 0) x (leave (record { request = k; asked = a.request; result = Err errors.TimedOut; given = Err errors.TimedOut; is_stored = false; stale = None }) x) h f (omega arith) (omega arith) refl
  move_faults n x h _ kept f (Replies before after y is) =
      let b : on_leave x.leaving ≡ on_leave (before ++ after) + fault_in y.result = ap on_leave is ∙ total_but (λ z. fault_in z.result) before y after in
      let r = told_faults y.request y.result y.stale in
      put (told_of y.request y.result y.stale) (record x { leaving = before ++ after; stored = store x.now y x.stored }) (fewer n (n + faults (told_of y.request y.result y.stale)) x (record x { leaving = before ++ after; stored = store x.now y x.stored }) h f (omega arith) (omega arith) refl)
    where
      put : (outs : List Out) (z : Upper P.State) → FaultsFit (n + faults outs) z h → FaultsFit (n + faults outs) z (put_all outs h)
      put outs z g = record { few = g.few; event = λ o. elim (g.event o) [ inl a ↦ inl a | inr b ↦ inr (b.0, event_on (b.0) w outs h b.1, b.2) ] }
  move_faults n x h _ kept f (Revives before after y e m is fails old revived) =
      let b : on_leave x.leaving ≡ on_leave (before ++ after) + fault_in y.result = ap on_leave is ∙ total_but (λ z. fault_in z.result) before y after in
      let d : on_leave (before ++ revive m y ∷ after) ≡ on_leave (before ++ after) + fault_in y.result = total_but (λ z. fault_in z.result) before (revive m y) after in
      fewer n (n + 0) x (record x { leaving = before ++ revive m y ∷ after }) h f (omega arith) (omega arith) refl
  move_faults n x h _ kept f (Forgets before after e is) = fewer n (n + 0) x (record x { stored = before ++ after }) h f (omega arith) (omega arith) refl
  move_faults n x h _ kept f (Derives e k j covers) = fewer n (n + 0) x (record x { stored = record e { under = k } ∷ x.stored }) h f (omega arith) (omega arith) refl
  move_faults n x h _ kept f (Answers r y pend at) =
      let l = left x.leaving y in
      let one : one_if (is_ask x.pending) ≡ 1 = ap (λ p. one_if (is_ask p)) pend in
      let v = fault_few y.result in
      let a = f.few in
      record {
        few = omega arith;
        event = λ o. inl (subst (λ v. is_ask v ≡ true) kept.newest (here_is_ask x.asked h ((kept.pending r pend).here)));
      }
  move_faults n x h _ kept f (Takes_on r o old pend composed lt there) = fewer n (n + 0) x (take_on r old x) h f (omega arith) (omega arith) refl

  pub moves_faults : (n : ℕ) (x : Upper P.State) (h : History) (d : Made P.State) → Kept c s P past w x h → FaultsFit n x h → Moves c s compose (machine_of P) x d → n + faults d.outs ≤ 1
  moves_faults n _ h _ kept f (Rests x done) = (let a = f.few in omega arith)
  moves_faults n _ h _ kept f (Goes x d e move more) =
      let a = move_does c s compose composes P past w x h kept d move in
      let i = moves_faults (n + faults d.outs) d.state (put_all d.outs h) e a.leaves (move_faults n x h d kept f move) more in
      let m = faults_more d.outs e.outs in
      omega arith

  -- a row begins with none
  pub row_faults : (x : Upper P.State) (h : History) (d : Made P.State) → Kept c s P past w x h → x.board ≡ [] → x.leaving ≡ [] → Moves c s compose (machine_of P) x d → faults d.outs ≤ 1
  row_faults x h d kept b l moves =
      let eb : on_board x.board ≡ 0 = ap on_board b in
      let el : on_leave x.leaving ≡ 0 = ap on_leave l in
      let i = moves_faults 0 x h d kept (record { few = at_most (is_ask x.pending) eb el; event = λ o. absurd (omega arith) }) moves in
      omega arith
    where
      at_most : (p : Bool) → on_board x.board ≡ 0 → on_leave x.leaving ≡ 0 → 0 + on_board x.board + on_leave x.leaving + one_if p ≤ 1
      at_most true eb el = omega arith
      at_most false eb el = omega arith
