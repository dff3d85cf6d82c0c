-- Traces by datagram that are not right.
use Rattle.proof_right.proofs.Received.{reads_on, received_one}
use Rattle.std.proofs.Common.{◌≡◌, ℕ, ◌+◌, ◌<◌, ◌≤◌, ◌&&◌, Bool, true, false, not, inl, inr, Option, Some, [], ◌∷◌, length, take, refl, arith, sym, ap, subst, subst₂, ◌∙◌}
use Rattle.std.specs.Prelude.{if◌then◌else◌}
use Rattle.std.proofs.lemmas.Bool.Decides.{nat_tests}
use Rattle.std.proofs.lemmas.Bool.{cases_eq, le-leb}
use Rattle.client_request.specs.Request.{Request}
use Rattle.client_request.specs.declared.error.Error.{Error}
use Rattle.client_request.specs.declared.error.Error.TheVariants.{TimedOut}
use Rattle.client_request.specs.declared.event.What.{What}
use Rattle.client_request.specs.declared.event.What.TheVariants.{Ask, Opened, Datagram, Tick}
use Rattle.client_request.specs.declared.event.Out.TheVariants.{Start, OpenDgram, Send, Close}
use Rattle.client_request.specs.declared.event.Via.{Via}
use Rattle.client_request.specs.declared.event.Via.TheVariants.{Dgram, Stream}
use Rattle.proof_right.proofs.wrong.Marks.{unmarked}
use Rattle.right_trace.specs.Trace.{History, Conf, Came, Put}
use Rattle.right_trace.specs.Time.{read_timeout, one_if, EarlierRow, OfRow, recv_size, max_places, max_tries, now}
use Rattle.right_trace.specs.Messages.{Octets, CarriesBy, answers, truncated, is_valid}
use Rattle.right_trace.specs.Requests.{Asking, replied}
use Rattle.right_trace.specs.Places.{Stand, site, stand, Alive, Opening, is_at}
use Rattle.right_trace.specs.Frames.{came, received}
use Rattle.right_trace.specs.Exchanges.{unanswered, IsAmong, IsOpen, Matches}
use Rattle.right_trace.specs.Settings.{Settings}
use Rattle.right_trace.specs.Validity.{is_final}
use Rattle.right_trace.specs.Coming.{CameFor, IsExcused}
use Rattle.right_trace.specs.Replies.{InThisRow, Deferred, OkIsRight, Fresh, View}
use Rattle.right_trace.specs.Causes.{sends, ServerCause, NotOpened, NotSent, SentShort, NotReceived, NoAnswer, WrongReply, StreamSilence, NotRead, NotComposed}
use Rattle.right_trace.specs.Errors.{Deadline, NoServer, ByServer, NoValidity, Here, Earlier, HasCause, Own, Kept}
use Rattle.right_trace.specs.Orderly.{Sending, MayCloseDgram, ItsFault, ItsAnswer, ItsTimeout, ItsReply, ReplyBeforeItsSend, InvalidBeforeItsSend, MayClose, OfDgram, OfStream}
use Rattle.right_trace.specs.Busy.{IsBusy, Exchanging, PlaceIsOpening, PlacesAreTaken, StreamIsOpening, StreamIsWriting, BackingOff}
use Rattle.right_trace.specs.Right.{Right, OutRight, IsOverdue, PastDeadline, PastTries, PastStream}
use Rattle.right_trace.specs.Timely.{Timely}
use Rattle.proof_right.specs.examples.Wrong.{replied_twice, nothing_sent, taken, taken_when_closed, timed_out_early, passed_over, still_waiting, closed_for_nothing, sent_too_soon, sent_nowhere, sent_at_once}
use Rattle.proof_right.proofs.client.Promptness.{none_first, nothing_given}
use Rattle.proof_right.proofs.Received.{places_on}

pub twice : (c : Conf) (s : Settings) (r : Request) → Right c s (replied_twice r) → ⊥
twice c s r h = let f = h.0.outs.1.1.1.0 in let x = f.0.none in absurd (cc)

abbrev pub asked_history : Request → History
asked_history r = Put (OpenDgram 0 0) ∷ Put (Start 0 0 Dgram) ∷ Came (record { moment = record { 0 = 0 }; what = Ask r }) ∷ []

abbrev pub opened_history : Request → History
opened_history r = Came (record { moment = record { 0 = 0 }; what = Opened 0 }) ∷ asked_history r

abbrev pub sent_history : Request → Octets → History
sent_history r o = Put (Send 0 0 7 o) ∷ opened_history r

never : (b : Bool) → one_if (b && false) ≡ 0
never true = refl
never false = refl

too_few : (n m : ℕ) → 0 < n → n ≤ 0 + m → m ≡ 0 → ⊥
too_few n m some le none = omega arith

idle_busy : (c : Conf) (r : Request) → IsBusy c 0 (opened_history r) → ⊥
idle_busy c r (s, Exchanging r' Dgram u p id b x) = absurd x.sent
idle_busy c r (s, Exchanging r' Stream u p id b x) = absurd x.sent
idle_busy c r (s, PlaceIsOpening p b a o) = elim (cases_eq 0 p) [ inl e ↦ absurd (grind (arith, nat_tests)) | inr ne ↦ absurd (grind (arith, nat_tests)) ]
idle_busy c r (s, PlacesAreTaken b l) = too_few (max_places c) (one_if (is_at Dgram s 0 (opened_history r) && false)) (places_on c) l (never (is_at Dgram s 0 (opened_history r)))
idle_busy c r (s, StreamIsOpening p b a o) = absurd (cc)
idle_busy c r (s, StreamIsWriting p b a o w) = absurd (cc)
idle_busy c r (s, BackingOff b e) = absurd (cc)

pub idles : (c : Conf) (s : Settings) (r : Request) → 0 < length c.servers → is_valid r ≡ true → Right c s (nothing_sent r) → ⊥
idles c s r some valid h = idle_busy c r (h.1.0.busy some 0 (record { request = r; moment = 0 }) refl valid refl)

pub same_asked : (r r' : Request) (n t : ℕ) → Path (Option Asking) (Some (record { request = r; moment = n })) (Some (record { request = r'; moment = t })) → r ≡ r'
same_asked r r' n t e =
    let z : Path Asking (record { request = r; moment = n }) (record { request = r'; moment = t }) = cc in
    ap (λ (x : Asking). x.request) z

-- the one send is at place 0, under id 7, at moment 0
one_of_one : (b : Bool) (o x : Octets) → IsAmong x (if b then o ∷ [] else []) → b ≡ true
one_of_one true o x i = refl
one_of_one false o x i = absurd i

only_send : (c : Conf) → (r r' : Request) (o x : Octets) (p id n : ℕ) → IsAmong x (unanswered c r' p 0 id n (sent_history r o)) → (p ≡ 0) × (id ≡ 7) × (n < read_timeout c)
only_send c r r' o x p id n i =
    let b = one_of_one _ o x i in
    (grind (arith, nat_tests), grind (arith, nat_tests), grind (arith, nat_tests))

-- a server gives no error of the deadline
not_timed_out : (c : Conf) (k : ℕ) (past : History) (w : What) (h : History) (e : Error) → e ≡ TimedOut → ServerCause c k past w h e → ⊥
not_timed_out c k past w h _ e (NotOpened f x) = absurd (cc)
not_timed_out c k past w h _ e (NotSent f x) = absurd (cc)
not_timed_out c k past w h _ e (SentShort x) = absurd (cc)
not_timed_out c k past w h _ e (NotReceived f x) = absurd (cc)
not_timed_out c k past w h _ e (NoAnswer x) = absurd (cc)
not_timed_out c k past w h _ e (WrongReply x) = absurd (cc)
not_timed_out c k past w h _ e (StreamSilence x) = absurd (cc)
not_timed_out c k past w h _ e (NotRead x) = absurd (cc)
not_timed_out c k past w h _ e (NotComposed x) = absurd (cc)

not_timed_out_before : (c : Conf) (k : ℕ) (h : History) (e : Error) → e ≡ TimedOut → EarlierRow (OfRow (λ past w h. ServerCause c k past w h e)) h → ⊥
not_timed_out_before c k [] e is x = x
not_timed_out_before c k (Came v ∷ h) e is (inl x) = not_timed_out c k _ _ h e is x
not_timed_out_before c k (Came v ∷ h) e is (inr x) = not_timed_out_before c k h e is x
not_timed_out_before c k (Put o ∷ h) e is x = not_timed_out_before c k h e is x

module _ (c : Conf) (s : Settings) (r : Request) (o m : Octets) where
  -- nothing came before the datagram
  none_before : (k : ℕ) (x : Octets) → EarlierRow (OfRow (CameFor c k x)) (sent_history r o) → ⊥
  none_before k x (inl z) = none_first c z.via z.id x z.matches.comes.first
  none_before k x (inr (inl z)) = none_first c z.via z.id x z.matches.comes.first
  none_before k x (inr (inr z)) = z

  none_earlier : (w : What) (n k : ℕ) (x : Octets) → EarlierRow (OfRow (CameFor c k x)) (Put (Close 0) ∷ Came (record { moment = record { 0 = n }; what = w }) ∷ sent_history r o) → ⊥
  none_earlier w n k x (inl z) = none_first c z.via z.id x z.matches.comes.first
  none_earlier w n k x (inr z) = none_before k x z

  matched : (r' : Request) (v : Via) (s p id : ℕ) (w : What) (h : History) (message : Octets) → Matches c r' v s p 0 id message (sent_history r o) (Datagram 0 m) h → (v ≡ Dgram) × (r' ≡ r) × (id ≡ 7)
  matched r' Dgram s p id w h message x =
      let ask : Path (Option Asking) (Some (record { request = r; moment = 0 })) (Some (record { request = r'; moment = x.comes.is_open.stands.asked.0 })) = x.comes.is_open.stands.asked.1 in
      let f = only_send c r r' o x.comes.is_open.octets p id _ x.comes.is_open.sent in
      (refl, sym (same_asked r r' 0 (x.comes.is_open.stands.asked.0) ask), f.1)
  matched r' Stream s p id w h message x = absurd (by_stream (site p (sent_history r o)) refl)
    where
      by_stream : (y : _) → site p (sent_history r o) ≡ y → ⊥
      by_stream y e = (let z = x.comes.is_open.stands.at in grind (arith, nat_tests))

  -- a datagram came at place 0 at a moment, and the place was closed
  abbrev pub answered_history : ℕ → History
  answered_history n = Put (Close 0) ∷ Came (record { moment = record { 0 = n }; what = Datagram 0 m }) ∷ sent_history r o

  -- what is taken then came in that row
  is_here : (n : ℕ) → OkIsRight c s 0 (take (recv_size c) m) (sent_history r o) (Datagram 0 m) (answered_history n) → CameFor c 0 (take (recv_size c) m) (sent_history r o) (Datagram 0 m) (answered_history n)
  is_here n (Fresh (InThisRow f) d) = f
  is_here n (Fresh (Deferred d e) g) = absurd (none_earlier (Datagram 0 m) n 0 (take (recv_size c) m) e)
  is_here n (View v) = absurd (let z : false ≡ true = v.asked_here in cc)

  pub not_an_answer : answers r 7 (take (recv_size c) m) ≡ false → Right c s (taken c 0 r o m) → ⊥
  not_an_answer wrong h =
      let f = is_here 0 (unmarked c s 0 (take (recv_size c) m) _ _ _ refl h.1.1.0.outs.1.0.1) in
      let e = matched f.request f.via f.server f.place f.id (Datagram 0 m) (answered_history 0) (take (recv_size c) m) f.matches in
      let a : answers r 7 (take (recv_size c) m) ≡ true = subst₂ (λ r id. answers r id (take (recv_size c) m) ≡ true) e.1 e.2 f.matches.agrees in
      absurd (cc)

  -- a cut datagram is no reply
  pub not_cut : truncated (take (recv_size c) m) ≡ true → Right c s (taken c 0 r o m) → ⊥
  not_cut cut h = whole f.via (matched f.request f.via f.server f.place f.id (Datagram 0 m) (answered_history 0) (take (recv_size c) m) f.matches).0 f.matches
    where
      f : CameFor c 0 (take (recv_size c) m) (sent_history r o) (Datagram 0 m) (answered_history 0)
      f = is_here 0 (unmarked c s 0 (take (recv_size c) m) _ _ _ refl h.1.1.0.outs.1.0.1)

      whole : (v : Via) → v ≡ Dgram → Matches c f.request v f.server f.place 0 f.id (take (recv_size c) m) (sent_history r o) (Datagram 0 m) (answered_history 0) → ⊥
      whole Stream e x = absurd (cc)
      whole Dgram e x = (let y : not (truncated (take (recv_size c) m)) ≡ true = x.whole in let z : not true ≡ true = ap not (sym cut) ∙ y in cc)

  -- 5 s after the send no exchange is open
  late_match : (r' : Request) (v : Via) (s p id : ℕ) (message : Octets) → v ≡ Dgram → Matches c r' v s p 0 id message (sent_history r o) (Datagram 0 m) (answered_history (read_timeout c)) → ⊥
  unfolding read_timeout
  late_match r' Dgram s p id message e x =
      let f = only_send c r r' o x.comes.is_open.octets p id (now (answered_history (read_timeout c))) x.comes.is_open.sent in
      absurd (let lt = f.2 in grind (arith))
  late_match r' Stream s p id message e x = absurd (cc)

  pub too_late : Right c s (taken c (read_timeout c) r o m) → ⊥
  too_late h =
      let f = is_here (read_timeout c) (unmarked c s 0 (take (recv_size c) m) _ _ _ refl h.1.1.0.outs.1.0.1) in
      late_match f.request f.via f.server f.place f.id (take (recv_size c) m) (matched f.request f.via f.server f.place f.id (Datagram 0 m) (answered_history (read_timeout c)) (take (recv_size c) m) f.matches).0 f.matches

  -- place 0 was closed, and the next one opens
  abbrev pub closed_history : History
  closed_history = Put (OpenDgram 1 0) ∷ Put (Close 0) ∷ Came (record { moment = record { 0 = 5000000 }; what = Tick }) ∷ sent_history r o

  -- no place but 0 was sent anything, and that is closed
  closed_match : (r' : Request) (v : Via) (s p id : ℕ) (h : History) → IsOpen c r' v s p 0 id closed_history h → ⊥
  closed_match r' Dgram s p id h x =
      let f = only_send c r r' o x.octets p id _ x.sent in
      let e : stand 0 closed_history ≡ Alive = subst (λ p. stand p closed_history ≡ Alive) f.0 x.stands.alive in
      absurd (cc)
  closed_match r' Stream s p id h x = (let z = x.stands.at in let y = x.stands.alive in grind (arith, nat_tests))

  abbrev late_history : History
  late_history = Came (record { moment = record { 0 = 5000001 }; what = Datagram 0 m }) ∷ closed_history

  not_there : OkIsRight c s 0 (take (recv_size c) m) closed_history (Datagram 0 m) late_history → ⊥
  not_there (Fresh (InThisRow f) d) = closed_match f.request f.via f.server f.place f.id late_history f.matches.comes.is_open
  not_there (Fresh (Deferred d (inl z)) g) = none_first c z.via z.id (take (recv_size c) m) z.matches.comes.first
  not_there (Fresh (Deferred d (inr (inl z))) g) = none_first c z.via z.id (take (recv_size c) m) z.matches.comes.first
  not_there (Fresh (Deferred d (inr (inr z))) g) = none_before 0 (take (recv_size c) m) z
  not_there (View v) = (let z : false ≡ true = v.asked_here in absurd (cc))

  pub not_when_closed : Right c s (taken_when_closed c r o m) → ⊥
  not_when_closed h = not_there (unmarked c s 0 (take (recv_size c) m) _ _ _ refl h.1.1.1.0.outs.0.1)

  hasty : 10 < c.timeout → (e : Error) → e ≡ TimedOut → HasCause c s e 0 (sent_history r o) Tick (Put (Close 0) ∷ Came (record { moment = record { 0 = 10 }; what = Tick }) ∷ sent_history r o) → ⊥
  hasty later _ is (Own (Deadline d) g) =
      let z : Path (Option Asking) (Some (record { request = r; moment = 0 })) (Some d.asking_of) = d.asked in
      let y : Path Asking (record { request = r; moment = 0 }) d.asking_of = cc in
      let t : 0 ≡ d.asking_of.moment = ap (λ (x : Asking). x.moment) y in
      absurd (omega (arith, d.passed))
  hasty later _ is (Own (NoServer n a) g) = absurd (cc)
  hasty later e is (Own (ByServer _ (Here x)) g) = not_timed_out c 0 (sent_history r o) Tick (Put (Close 0) ∷ Came (record { moment = record { 0 = 10 }; what = Tick }) ∷ sent_history r o) e is x
  hasty later e is (Own (ByServer _ (Earlier w x)) g) = not_timed_out_before c 0 (Put (Close 0) ∷ Came (record { moment = record { 0 = 10 }; what = Tick }) ∷ sent_history r o) e is x
  hasty later _ is (Own (NoValidity x y) g) = absurd (cc)
  hasty later e is (Kept x) = (let z : false ≡ true = x.asked_here in absurd (cc))

  pub early : 10 < c.timeout → Right c s (timed_out_early r o) → ⊥
  early later h = hasty later TimedOut refl h.1.1.0.outs.1.0.1

  in_time : 0 < c.timeout → IsOverdue c s 0 0 (sent_history r o) → ⊥
  in_time pos (PastDeadline a e old) =
      let z : Path (Option Asking) (Some (record { request = r; moment = 0 })) (Some a) = e in
      let y : Path Asking (record { request = r; moment = 0 }) a = cc in
      let t : 0 ≡ a.moment = ap (λ (x : Asking). x.moment) y in
      absurd (omega arith)
  in_time pos (PastTries d x) = (let pos = reads_on c in let late = x.old in absurd (omega (arith, pos, late)))
  in_time pos (PastStream d x) = (let z = x.is_begun in absurd (cc))

  read_timeout_pos : 0 < read_timeout c
  unfolding read_timeout
  read_timeout_pos = (let pos = reads_on c in omega (arith, pos))

  not_excused : (h : History) → IsExcused c 0 (sent_history r o) (Datagram 0 m) (Came (record { moment = record { 0 = 0 }; what = Datagram 0 m }) ∷ sent_history r o) → ⊥
  unfolding IsExcused
  not_excused h x = (let z : false ≡ true = x.0 in cc)

  pub passes_over : 0 < length c.servers → 0 < c.timeout → CarriesBy c Dgram o r 7 → 12 ≤ length (take (recv_size c) m) → answers r 7 (take (recv_size c) m) ≡ true → truncated (take (recv_size c) m) ≡ false → is_final s r (take (recv_size c) m) ≡ true → Right c s (passed_over r o m) → ⊥
  passes_over some pos carries long agrees whole final h =
      let pos' = read_timeout_pos in
      let among : IsAmong o (unanswered c r 0 0 7 0 (sent_history r o)) = grind (arith, nat_tests) in
      let open_it : IsOpen c r Dgram 0 0 0 7 (sent_history r o) (Came (record { moment = record { 0 = 0 }; what = Datagram 0 m }) ∷ sent_history r o) = record { stands = record { asked = (0, refl); waiting = refl; alive = refl; at = refl; known = some }; octets = o; sent = among; carries = carries } in
      let come : received (recv_size c) (came 0 (Datagram 0 m) (sent_history r o)) ≡ take (recv_size c) m ∷ [] = received_one (recv_size c) m (le-leb 12 (length (take (recv_size c) m)) long) in
      nothing_given s 0 (take (recv_size c) m) (h.1.1.0.prompt r Dgram 0 0 0 7 (take (recv_size c) m) (record { comes = record { is_open = open_it; first = rw come refl }; agrees = agrees; whole = rw whole refl }) final (in_time pos) (not_excused (sent_history r o)))

  pub late : (n : ℕ) → c.timeout ≤ n → Timely c (still_waiting n r o) → ⊥
  late n old h = let lt = h.1.1.0 0 (record { request = r; moment = 0 }) refl refl in absurd (omega arith)

  -- a place whose send was 1 microsecond ago is not closed
  may_not_close : (end : History) → replied 0 end ≡ false → MayCloseDgram c 0 (sent_history r o) Tick (Came (record { moment = record { 0 = 1 }; what = Tick }) ∷ sent_history r o) end → ⊥
  unfolding read_timeout
  may_not_close end none (ItsFault e) = absurd (cc)
  may_not_close end none (ItsAnswer x is a) = none_first c Dgram a.id a.message a.comes.first
  may_not_close end none (ItsTimeout x is late') = (let z : Path (Option Sending) (Some (record { request = 0; moment = 0 })) (Some x) = is in let y : Path Sending (record { request = 0; moment = 0 }) x = cc in let t : 0 ≡ x.moment = ap (λ (x : Sending). x.moment) y in let pos = reads_on c in absurd (omega (arith, pos, t, late')))
  may_not_close end none (ItsReply x is a) = (let z : Path (Option Sending) (Some (record { request = 0; moment = 0 })) (Some x) = is in let y : Path Sending (record { request = 0; moment = 0 }) x = cc in let t : 0 ≡ x.request = ap (λ (x : Sending). x.request) y in let u : replied 0 end ≡ true = subst (λ k. replied k end ≡ true) (sym t) a.now in let v : true ≡ false = sym u ∙ none in absurd (cc))
  may_not_close end none (ReplyBeforeItsSend x at unsent k b a) = absurd (cc)
  may_not_close end none (InvalidBeforeItsSend x at unsent k a b d e) = absurd (cc)

  pub closed_at_once : Right c s (closed_for_nothing r o) → ⊥
  closed_at_once h = go h.1.1.0.outs.0.1
    where
      go : MayClose c 0 (sent_history r o) Tick (Came (record { moment = record { 0 = 1 }; what = Tick }) ∷ sent_history r o) (Put (OpenDgram 1 0) ∷ Put (Close 0) ∷ Came (record { moment = record { 0 = 1 }; what = Tick }) ∷ sent_history r o) → ⊥
      go (OfDgram i at x) = may_not_close _ refl x
      go (OfStream i at x) = absurd (cc)

  -- a send at a place that only opens, at a number that no out opened, and a second one at its place
  pub too_soon : Right c s (sent_too_soon r o) → ⊥
  too_soon h = (let z : Path Stand Opening Alive = h.0.outs.1.1.0.2.alive in absurd (cc))

  pub nowhere : Right c s (sent_nowhere r o) → ⊥
  nowhere h = (let z = h.1.0.outs.0.2.at in absurd (cc))

  pub at_once : Right c s (sent_at_once r o) → ⊥
  at_once h = (let z = h.1.0.outs.1.0.2.first in absurd (cc))

pub seventh : (c : Conf) (t : Settings) (past : History) (w : What) (h end : History) (p k id s : ℕ) (o : Octets) → is_at Dgram s p h ≡ true → max_tries c ≤ sends k s h → OutRight c t past w h end (Send p k id o) → ⊥
seventh c t past w h end p k id s o at all right = let lt = right.1 s at in absurd (omega arith)
