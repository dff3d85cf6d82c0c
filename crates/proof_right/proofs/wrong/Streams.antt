-- Traces by stream that are not right.
use Rattle.proof_right.proofs.Received.{reads_on, waits_on, answers_on}
use Rattle.std.proofs.Common.{◌≡◌, ◌≢◌, ℕ, zero, suc, ◌+◌, ◌<◌, ◌≤◌, Bool, true, false, ◌&&◌, inl, inr, Option, Some, None, List, [], ◌∷◌, ◌++◌, length, refl, arith, sym, ap, subst, subst₂, ◌∙◌, ◌==◌}
use Rattle.std.specs.Prelude.{if◌then◌else◌, nat_lt, take, drop, ◌*◌}
use Rattle.std.specs.Int.{w16, to_be_bytes, from_be_bytes}
use Rattle.std.proofs.lemmas.Nat.{from_be_bytes-to_be_bytes_2}
use Rattle.std.proofs.lemmas.Bool.Decides.{nat_tests}
use Rattle.std.proofs.lemmas.Bool.{cases_eq, eqb-true}
use Rattle.client_request.specs.Request.{Request}
use Rattle.client_request.specs.declared.error.Error.{Error}
use Rattle.client_request.specs.declared.error.Error.TheVariants.{WrongReplyForQuery}
use Rattle.client_request.specs.declared.event.What.{What}
use Rattle.client_request.specs.declared.fault.Fault.{Fault}
use Rattle.client_request.specs.declared.event.What.TheVariants.{Ask, Opened, OpenFailed, Bytes, Tick}
use Rattle.client_request.specs.declared.event.Out.TheVariants.{Start, OpenStream, Write, Close}
use Rattle.client_request.specs.declared.event.Via.{Via}
use Rattle.client_request.specs.declared.event.Via.TheVariants.{Dgram, Stream}
use Rattle.right_trace.specs.Trace.{History, Conf, Came, Put}
use Rattle.right_trace.specs.Time.{now, newest, stream_timeout, response_timeout, id_count, all_ids, count_below, one_if, EarlierRow, OfRow}
use Rattle.right_trace.specs.Messages.{Octets, CarriesInFrame, answers, id_in, is_valid}
use Rattle.right_trace.specs.Requests.{Asking, start}
use Rattle.right_trace.specs.Frames.{Length, fed, is_bad, first_with, came}
use Rattle.right_trace.specs.Writes.{Written, is_any, waiting_with, held_with}
use Rattle.right_trace.specs.Exchanges.{octets_for, is_before, IsAmong, IsOpen, Matches}
use Rattle.right_trace.specs.Settings.{Settings}
use Rattle.right_trace.specs.Validity.{is_final}
use Rattle.right_trace.specs.Coming.{CameFor, IsExcused}
use Rattle.right_trace.specs.Replies.{InThisRow, Deferred, OkIsRight, Fresh, View}
use Rattle.right_trace.specs.Causes.{ServerCause, NotOpened, NotSent, SentShort, NotReceived, NoAnswer, WrongReply, StreamSilence, NotRead, NotComposed}
use Rattle.right_trace.specs.Errors.{Deadline, NoServer, ByServer, NoValidity, Here, Earlier, HasCause, Own, Kept}
use Rattle.right_trace.specs.Orderly.{MayCloseStream, StreamFault, BadFrame, ReadTimer, IdleTimer, MayClose, OfDgram, OfStream}
use Rattle.right_trace.specs.Busy.{IsBusy, BreaksOff, OpeningFailed, OpeningFailedAtOnce, IdsAreUsed, ConnectionEnded, Exchanging, PlaceIsOpening, PlacesAreTaken, StreamIsOpening, StreamIsWriting, BackingOff}
use Rattle.right_trace.specs.Right.{Right, IsOverdue, PastDeadline, PastTries, PastStream}
use Rattle.proof_right.specs.examples.Wrong.{written, frame_taken, taken_unwritten, frame_passed_over, nothing_written, stream_closed_for_nothing, wrong_without_frame, second_while_opening, second_while_open}
use Rattle.proof_right.proofs.client.Promptness.{none_first, nothing_given}
use Rattle.proof_right.proofs.wrong.Dgrams.{same_asked}
use Rattle.proof_right.proofs.wrong.Marks.{unmarked}

-- the first two octets of a frame are the length of the rest
length_told : (a b : ℕ) (rest : Octets) (r : Request) (id : ℕ) → CarriesInFrame (a ∷ b ∷ rest) r id → 256 * a + b ≡ length rest
length_told a b rest r id x =
    let head : a ∷ b ∷ [] ≡ to_be_bytes w16 (length x.rest) = ap (take 2) x.framed in
    let tail : rest ≡ x.rest = ap (drop 2) x.framed in
    let told : from_be_bytes w16 (a ∷ b ∷ []) ≡ length x.rest = ap (from_be_bytes w16) head ∙ from_be_bytes-to_be_bytes_2 (length x.rest) x.short in
    let same : length rest ≡ length x.rest = ap length tail in
    omega arith

abbrev asked_history : Request → History
asked_history r = Put (OpenStream 0 0) ∷ Put (Start 0 0 Stream) ∷ Came (record { moment = record { 0 = 0 }; what = Ask r }) ∷ []

abbrev opened_history : Request → History
opened_history r = Came (record { moment = record { 0 = 0 }; what = Opened 0 }) ∷ asked_history r

abbrev written_history : Request → Octets → History
written_history r o = Put (Write 0 0 7 o) ∷ opened_history r

abbrev framed_history : Request → Octets → ℕ → Octets → History
framed_history r o n piece = Came (record { moment = record { 0 = n }; what = Bytes 0 piece }) ∷ written_history r o

before_of : (b : Bool) (x : Octets) (ys : List Octets) → IsAmong x (if b then ys else []) → (b ≡ true) × IsAmong x ys
before_of true x ys i = (refl, i)
before_of false x ys i = absurd i

nothing : (b : Bool) (x : Octets) → IsAmong x (if b then [] else []) → ⊥
nothing true x i = i
nothing false x i = i

none_below : (n : ℕ) → count_below (λ i. false) n ≡ 0
none_below zero = refl
none_below (suc n) = (let i = none_below n in omega arith)

-- the one write is at place 0, under id 7
one_write : (b d : Bool) (x : Octets) (y : Written) → IsAmong x (octets_for 0 (if (b && d) && true then y ∷ [] else [])) → (b ≡ true) × (d ≡ true)
one_write true true x y i = (refl, refl)
one_write true false x y i = absurd i
one_write false d x y i = absurd i

in_30 : (c : Conf) → (n s : ℕ) → is_before c (now (Came (record { moment = record { 0 = n }; what = Tick }) ∷ [])) (if 0 == s then Some 0 else None) ≡ true → n < stream_timeout c
in_30 c n s e = go (0 == s) e
  where
    go : (b : Bool) → is_before c (now (Came (record { moment = record { 0 = n }; what = Tick }) ∷ [])) (if b then Some 0 else None) ≡ true → n < stream_timeout c
    go true e = grind (arith, nat_tests)
    go false e = absurd (cc)

module _ (c : Conf) (s : Settings) (r : Request) (o : Octets) where
  none_before : (k : ℕ) (x : Octets) → EarlierRow (OfRow (CameFor c k x)) (written_history r o) → ⊥
  none_before k x (inl z) = none_first c z.via z.id x z.matches.comes.first
  none_before k x (inr (inl z)) = none_first c z.via z.id x z.matches.comes.first
  none_before k x (inr (inr z)) = z

  is_here : (n : ℕ) (piece m : Octets) → OkIsRight c s 0 m (written_history r o) (Bytes 0 piece) (framed_history r o n piece) → CameFor c 0 m (written_history r o) (Bytes 0 piece) (framed_history r o n piece)
  is_here n piece m (Fresh (InThisRow f) d) = f
  is_here n piece m (Fresh (Deferred d (inl z)) g) = absurd (none_first c z.via z.id m z.matches.comes.first)
  is_here n piece m (Fresh (Deferred d (inr z)) g) = absurd (none_before 0 m z)
  is_here n piece m (View v) = absurd (let z : false ≡ true = v.asked_here in cc)

  pub record IsTheAnswer (n : ℕ) (piece m : Octets) : Type 0 where
    pub first : first_with 7 (fed Length piece).frames ≡ Some m
    pub answers_it : answers r 7 m ≡ true
    pub early : n < stream_timeout c

  matched : (n : ℕ) (piece m : Octets) (r' : Request) (v : Via) (t p id : ℕ) → Matches c r' v t p 0 id m (written_history r o) (Bytes 0 piece) (framed_history r o n piece) → IsTheAnswer n piece m
  matched n piece m r' Dgram t p id x = absurd x.comes.is_open.sent
  matched n piece m r' Stream t p id x =
      let i = before_of _ x.comes.is_open.octets _ x.comes.is_open.sent in
      let w = one_write (0 == p) (7 == id) x.comes.is_open.octets (record { request = 0; octets = o; moment = 0 }) i.1 in
      let at : 0 ≡ p = eqb-true 0 p w.0 in
      let under : 7 ≡ id = eqb-true 7 id w.1 in
      let ask : Path (Option Asking) (Some (record { request = r; moment = 0 })) (Some (record { request = r'; moment = x.comes.is_open.stands.asked.0 })) = x.comes.is_open.stands.asked.1 in
      let same : r ≡ r' = same_asked r r' 0 (x.comes.is_open.stands.asked.0) ask in
      let first' : first_with 7 (came 0 (Bytes 0 piece) (written_history r o)) ≡ Some m = subst₂ (λ id p. first_with id (came p (Bytes 0 piece) (written_history r o)) ≡ Some m) (sym under) (sym at) x.comes.first in
      record { first = first'; answers_it = subst₂ (λ r id. answers r id m ≡ true) (sym same) (sym under) x.agrees; early = in_30 c n t i.0 }

  -- what is taken from octets is the first frame with the id, an answer, in time
  pub is_taken : (n : ℕ) (piece m : Octets) → Right c s (frame_taken n r o piece m) → IsTheAnswer n piece m
  is_taken n piece m h = (let f = is_here n piece m (unmarked c s 0 m _ _ _ refl h.1.1.0.outs.0.1) in matched n piece m f.request f.via f.server f.place f.id f.matches)

  pub not_with_another_id : (piece g m : Octets) → (fed Length piece).frames ≡ g ∷ [] → id_in g ≢ 7 → Right c s (frame_taken 1 r o piece m) → ⊥
  not_with_another_id piece g m is ne h = go (is_bad g) (id_in g == 7) refl (subst (λ ms. first_with 7 ms ≡ Some m) is (is_taken 1 piece m h).first)
    where
      go : (b d : Bool) → (id_in g == 7) ≡ d → (if b then None else (if d then Some g else None)) ≡ Some m → ⊥
      go true d j e = cc
      go false true j e = ne (eqb-true (id_in g) 7 j)
      go false false j e = cc

  pub not_after_a_bad_frame : (piece g m : Octets) (gs : List Octets) → (fed Length piece).frames ≡ g ∷ gs → is_bad g ≡ true → Right c s (frame_taken 1 r o piece m) → ⊥
  not_after_a_bad_frame piece g m gs is bad h = (let z : first_with 7 (g ∷ gs) ≡ Some m = subst (λ ms. first_with 7 ms ≡ Some m) is (is_taken 1 piece m h).first in let y : (if true then None else (if id_in g == 7 then Some g else first_with 7 gs)) ≡ Some m = subst (λ b. (if b then None else (if id_in g == 7 then Some g else first_with 7 gs)) ≡ Some m) bad z in cc)

  pub not_without_an_answer : (piece m : Octets) → answers r 7 m ≡ false → Right c s (frame_taken 1 r o piece m) → ⊥
  not_without_an_answer piece m wrong h = (let z : true ≡ false = sym (is_taken 1 piece m h).answers_it ∙ wrong in cc)

  pub not_past_30 : (piece m : Octets) → Right c s (frame_taken (stream_timeout c) r o piece m) → ⊥
  unfolding stream_timeout
  not_past_30 piece m h = (let z = (is_taken (stream_timeout c) piece m h).early in omega arith)

  -- nothing is written
  abbrev unwritten_history : Octets → History
  unwritten_history piece = Came (record { moment = record { 0 = 1 }; what = Bytes 0 piece }) ∷ opened_history r

  none_written : (piece m : Octets) (r' : Request) (v : Via) (t p id : ℕ) → Matches c r' v t p 0 id m (opened_history r) (Bytes 0 piece) (unwritten_history piece) → ⊥
  none_written piece m r' Dgram t p id x = x.comes.is_open.sent
  none_written piece m r' Stream t p id x = nothing (is_before c (now (unwritten_history piece)) (start 0 t Stream (unwritten_history piece))) x.comes.is_open.octets x.comes.is_open.sent

  unwritten : (piece m : Octets) → OkIsRight c s 0 m (opened_history r) (Bytes 0 piece) (unwritten_history piece) → ⊥
  unwritten piece m (Fresh (InThisRow f) d) = none_written piece m f.request f.via f.server f.place f.id f.matches
  unwritten piece m (Fresh (Deferred d (inl z)) g) = none_first c z.via z.id m z.matches.comes.first
  unwritten piece m (Fresh (Deferred d (inr (inl z))) g) = none_first c z.via z.id m z.matches.comes.first
  unwritten piece m (Fresh (Deferred d (inr (inr (inl z)))) g) = none_first c z.via z.id m z.matches.comes.first
  unwritten piece m (Fresh (Deferred d (inr (inr (inr z)))) g) = z
  unwritten piece m (View v) = (let z : false ≡ true = v.asked_here in cc)

  pub not_before_its_write : (piece m : Octets) → Right c s (taken_unwritten r piece m) → ⊥
  not_before_its_write piece m h = unwritten piece m (unmarked c s 0 m _ _ _ refl h.1.1.0.outs.0.1)

  -- two octets of length that are not the length of the rest
  pub wrong_length : (a b : ℕ) (rest : Octets) → 256 * a + b ≢ length rest → o ≡ a ∷ b ∷ rest → Right c s (written r o []) → ⊥
  wrong_length a b rest ne is h = (let x = h.1.0.outs.0.1 in ne (length_told a b rest x.request 7 (subst (λ o. CarriesInFrame o x.request 7) is x.carries)))

  -- a frame is passed over
  not_excused : (n : ℕ) (piece : Octets) → IsExcused c 0 (written_history r o) (Bytes 0 piece) (framed_history r o n piece) → ⊥
  unfolding IsExcused
  not_excused n piece x = (let z : false ≡ true = x.0 in cc)

  in_time : 1 < c.timeout → IsOverdue c s 0 1 (written_history r o) → ⊥
  unfolding stream_timeout
  in_time pos (PastDeadline a e old) =
      let z : Path (Option Asking) (Some (record { request = r; moment = 0 })) (Some a) = e in
      let y : Path Asking (record { request = r; moment = 0 }) a = cc in
      let t : 0 ≡ a.moment = ap (λ (x : Asking). x.moment) y in
      absurd (omega arith)
  in_time pos (PastTries d x) = (let late = x.old in let pos = reads_on c in let z = x.is_last in absurd (cc))
  in_time pos (PastStream d x) = begun (0 == x.server) x.begun x.is_begun x.passed
    where
      begun : (b : Bool) (n : ℕ) → (if b then Some 0 else None) ≡ Some n → n + stream_timeout c ≤ 1 → ⊥
      begun true n e le = (let z : 0 ≡ n = cc in let pos = waits_on c in omega (arith, pos, z, le))
      begun false n e le = cc

  soon : 1 < 0 + stream_timeout c
  unfolding stream_timeout
  soon = (let pos = waits_on c in omega (arith, pos))

  pub passes_over : (piece m : Octets) → 0 < length c.servers → 1 < c.timeout → CarriesInFrame o r 7 → first_with 7 (fed Length piece).frames ≡ Some m → answers r 7 m ≡ true → is_final s r m ≡ true → Right c s (frame_passed_over r o piece) → ⊥
  passes_over piece m some pos carries first agrees final h =
      let lt = soon in
      let before : nat_lt 1 (0 + stream_timeout c) ≡ true = grind (arith, nat_tests) in
      let among : IsAmong o (if nat_lt 1 (0 + stream_timeout c) then o ∷ [] else []) = rw before (inl refl) in
      let open_it : IsOpen c r Stream 0 0 0 7 (written_history r o) (framed_history r o 1 piece) = record { stands = record { asked = (0, refl); waiting = refl; alive = refl; at = refl; known = some }; octets = o; sent = among; carries = carries } in
      nothing_given s 0 m (h.1.1.0.prompt r Stream 0 0 0 7 m (record { comes = record { is_open = open_it; first = first }; agrees = agrees; whole = refl }) final (in_time pos) (not_excused 1 piece))

  -- nothing is written, and nothing opens or backs off
  few : id_count ≤ 0 → ⊥
  unfolding id_count
  few le = omega arith

  pub second_opening : Right c s (second_while_opening r) → ⊥
  second_opening h = h.0.outs.1.1.0.2.none_opens 0 refl refl

  -- a connection that is written at is not closed
  not_so_soon : 0 + response_timeout c < 1 → ⊥
  unfolding response_timeout
  not_so_soon lt = (let pos = answers_on c in omega (arith, pos, lt))

  pub closes_early : Right c s (stream_closed_for_nothing r o) → ⊥
  closes_early h = go h.1.1.0.outs.0.1
    where
      may : MayCloseStream c 0 (written_history r o) Tick (Came (record { moment = record { 0 = 1 }; what = Tick }) ∷ written_history r o) → ⊥
      may (StreamFault e) = cc
      may (BadFrame e) = cc
      may (ReadTimer d) = not_so_soon d.passed
      may (IdleTimer d) = unheld d.counted d.later d.came (d.unheld 7)
        where
          unheld : (ms ns : List Octets) → [] ≡ ms ++ ns → waiting_with ms 0 7 (Came (record { moment = record { 0 = 1 }; what = Tick }) ∷ written_history r o) ≡ [] → ⊥
          unheld [] ns e f = cc
          unheld (m ∷ ms) ns e f = cc

      go : MayClose c 0 (written_history r o) Tick (Came (record { moment = record { 0 = 1 }; what = Tick }) ∷ written_history r o) (Put (Close 0) ∷ Came (record { moment = record { 0 = 1 }; what = Tick }) ∷ written_history r o) → ⊥
      go (OfDgram i at x) = cc
      go (OfStream i at x) = may x

  -- Nothing is written, and nothing opens or backs off.

  none_held : (t : ℕ) (h : History) → ((p id : ℕ) → waiting_with [] p id h ≡ []) → (p : ℕ) → id_count ≤ held_with [] p h → ⊥
  none_held t h none p le = few (subst (λ n. id_count ≤ n) (same all_ids) le)
    where
      same : (n : ℕ) → count_below (λ id. is_any (waiting_with [] p id h)) n ≡ 0
      same zero = refl
      same (suc n) = (let i = same n in let z : is_any (waiting_with [] p n h) ≡ false = ap is_any (none p n) in let y : one_if (is_any (waiting_with [] p n h)) ≡ 0 = ap one_if z in omega arith)

  -- a history that ends with no failed opening and no close makes nobody back off
  no_break : (t : ℕ) (h : History) → ((p : ℕ) (f : Fault) → newest h ≢ OpenFailed p f) → ((p : ℕ) (before : History) → Path History h (Put (Close p) ∷ before) → ⊥) → ((p id : ℕ) → waiting_with [] p id h ≡ []) → BreaksOff c t h → ⊥
  no_break t h news close none (OpeningFailed e p f before is what at st) = news p f (ap newest is ∙ what)
  no_break t h news close none (OpeningFailedAtOnce p f before is what st) = news p f (ap newest is ∙ what)
  no_break t h news close none (IdsAreUsed p at st le) = none_held t h none p le
  no_break t h news close none (ConnectionEnded p before is at live bad) = close p before is

  idle_busy : IsBusy c 0 (opened_history r) → ⊥
  idle_busy (t, Exchanging r' Dgram u p id b x) = x.sent
  idle_busy (t, Exchanging r' Stream u p id b x) = nothing (is_before c (now (opened_history r)) (start 0 t Stream (opened_history r))) x.octets x.sent
  idle_busy (t, PlaceIsOpening p b a o') = cc
  idle_busy (t, PlacesAreTaken b l) = cc
  idle_busy (t, StreamIsOpening p b a o') = grind (arith, nat_tests)
  idle_busy (t, StreamIsWriting p b a o' w) = cc
  idle_busy (t, BackingOff b (inl x)) = no_break t (opened_history r) (λ p f e. cc) (λ p h e. cc) (λ p id. refl) x.broke
  idle_busy (t, BackingOff b (inr (inl x))) = no_break t (asked_history r) (λ p f e. cc) (λ p h e. cc) (λ p id. refl) x.broke
  idle_busy (t, BackingOff b (inr (inr (inl x)))) = no_break t _ (λ p f e. cc) (λ p h e. cc) (λ p id. refl) x.broke
  idle_busy (t, BackingOff b (inr (inr (inr (inl x))))) = no_break t _ (λ p f e. cc) (λ p h e. cc) (λ p id. refl) x.broke
  idle_busy (t, BackingOff b (inr (inr (inr (inr x))))) = x

  pub idles : 0 < length c.servers → is_valid r ≡ true → Right c s (nothing_written r) → ⊥
  idles some valid h = idle_busy (h.1.0.busy some 0 (record { request = r; moment = 0 }) refl valid refl)

  -- No frame came.

  no_wrong : (past : History) (w : What) (h : History) → ((p : ℕ) → came p w past ≡ []) → (e : Error) → e ≡ WrongReplyForQuery → ServerCause c 0 past w h e → ⊥
  no_wrong past w h none _ e (NotOpened f x) = cc
  no_wrong past w h none _ e (NotSent f x) = cc
  no_wrong past w h none _ e (SentShort x) = cc
  no_wrong past w h none _ e (NotReceived f x) = cc
  no_wrong past w h none _ e (NoAnswer x) = cc
  no_wrong past w h none _ e (WrongReply x) = none_first c Stream x.id x.message (subst (λ ms. first_with x.id ms ≡ Some x.message) (none x.place) x.comes.first)
  no_wrong past w h none _ e (StreamSilence x) = cc
  no_wrong past w h none _ e (NotRead x) = cc
  no_wrong past w h none _ e (NotComposed x) = cc

  no_cause : (e : Error) → e ≡ WrongReplyForQuery → HasCause c s e 0 (written_history r o) Tick (Came (record { moment = record { 0 = 1 }; what = Tick }) ∷ written_history r o) → ⊥
  no_cause _ e (Own (Deadline d) g) = cc
  no_cause _ e (Own (NoServer n a) g) = cc
  no_cause v e (Own (ByServer _ (Here x)) g) = no_wrong (written_history r o) Tick (Came (record { moment = record { 0 = 1 }; what = Tick }) ∷ written_history r o) (λ p. refl) v e x
  no_cause v e (Own (ByServer _ (Earlier w (inl x))) g) = no_wrong (asked_history r) (Opened 0) (written_history r o) (λ p. refl) v e x
  no_cause v e (Own (ByServer _ (Earlier w (inr (inl x)))) g) = no_wrong [] (Ask r) (asked_history r) (λ p. refl) v e x
  no_cause v e (Own (ByServer _ (Earlier w (inr (inr (inl x))))) g) = no_wrong [] Tick [] (λ p. refl) v e x
  no_cause v e (Own (ByServer _ (Earlier w (inr (inr (inr x))))) g) = x
  no_cause _ e (Own (NoValidity x y) g) = cc
  no_cause v e (Kept x) = (let z : false ≡ true = x.asked_here in cc)

  pub wrong_alone : Right c s (wrong_without_frame r o) → ⊥
  wrong_alone h = no_cause WrongReplyForQuery refl h.1.1.0.outs.0.1

  -- One id is held.

  only_seven : (n : ℕ) → count_below (λ id. is_any (if (true && (7 == id)) && true then record { request = 0; octets = o; moment = 0 } ∷ [] else [])) n ≤ one_if (nat_lt 7 n)
  only_seven zero = omega arith
  only_seven (suc n) = (let i = only_seven n in elim (cases_eq 7 n) [
    | inl is ↦ (let t : (7 == n) ≡ true = grind (arith, nat_tests) in let a : nat_lt 7 n ≡ false = grind (arith, nat_tests) in let b : nat_lt 7 (suc n) ≡ true = grind (arith, nat_tests) in rw (t, b) (let i' : count_below (λ id. is_any (if (true && (7 == id)) && true then record { request = 0; octets = o; moment = 0 } ∷ [] else [])) n ≤ 0 = subst (λ b. count_below (λ id. is_any (if (true && (7 == id)) && true then record { request = 0; octets = o; moment = 0 } ∷ [] else [])) n ≤ one_if b) a i in omega arith))
    | inr ne ↦ (let t : (7 == n) ≡ false = grind (arith, nat_tests) in let b : nat_lt 7 (suc n) ≡ nat_lt 7 n = grind (arith, nat_tests) in rw (t, b) (omega arith))
  ])

  one_if_few : (b : Bool) → one_if b ≤ 1
  one_if_few true = omega arith
  one_if_few false = omega arith

  many : id_count ≤ 1 → ⊥
  unfolding id_count
  many le = omega arith

  pub second_open : Right c s (second_while_open r o) → ⊥
  second_open h = (let full : id_count ≤ count_below (λ id. is_any (if (true && (7 == id)) && true then record { request = 0; octets = o; moment = 0 } ∷ [] else [])) all_ids = h.1.1.0.outs.0.2.all_full 0 refl refl in let n = only_seven all_ids in let b = one_if_few (nat_lt 7 all_ids) in many (omega arith))
