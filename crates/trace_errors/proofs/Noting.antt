-- Behind each row that is right what is noted of errors is what the definitions say.
use Rattle.std.proofs.Common.{◌≡◌, ℕ, suc, ◌==◌, ◌&&◌, ◌⊎◌, inl, inr, not, Bool, true, false, if◌then◌else◌, List, [], ◌∷◌, Option, Some, None, refl, sym, ap, ap₂, ◌∙◌, subst, arith}
use Rattle.client_request.specs.declared.error.Error.{Error}
use Rattle.client_request.specs.declared.error.Error.TheVariants as errors
use Rattle.client_request.specs.declared.error.QueryError.TheVariants as query
use Rattle.client_request.specs.declared.fault.Fault.{Fault}
use Rattle.client_request.specs.declared.fault.Fault.TheVariants as fault
use Rattle.client_request.specs.declared.event.{What.What, Out.Out, Row.Row, Via.Via}
use Rattle.client_request.specs.declared.event.What.TheVariants.{SendFailed, ShortSend, RecvFailed, Tick}
use Rattle.client_request.specs.declared.event.Out.TheVariants.{Start, OpenDgram, OpenStream, Send, Write, Resume, Close, Stale, Reply}
use Rattle.client_request.specs.declared.event.Via.TheVariants.{Dgram, Stream}
use Rattle.right_trace.specs.Trace.{History, Conf, Came, Put, after}
use Rattle.right_trace.specs.Time.{now, newest, max_tries}
use Rattle.right_trace.specs.{Messages.answers, Settings.Settings, Requests.same_via, Places.is_at, Parts.IsIn, Exchanges.Comes, Right.RowRight}
use Rattle.right_trace.specs.Causes.{Try, Named, named, IsOneOf, last_try, FailedAt, TriesAreUp, StreamIsSilent, Heard, CameWrong, ServerCause, NoAnswer, WrongReply, StreamSilence}
use Rattle.trace_tables.specs.declared.books.Books.{Books}
use Rattle.trace_tables.specs.declared.sends.Sent.{Sent}
use Rattle.trace_tables.specs.{Lists.listed, Sends.names_of}
use Rattle.trace_tables.specs.Books as books
use Rattle.trace_tables.proofs.Listing.{listed_adds}
use Rattle.trace_points.specs.declared.exchanges.coming.Coming.{Coming}
use Rattle.trace_points.specs.exchanges.Coming.{AllComing}
use Rattle.trace_points.specs.causes.Failing.{failure, Fails, InSending, InPart, InReceiving}
use Rattle.trace_points.proofs.lemmas.causes.Blaming.{tells_failure}
use Rattle.trace_errors.specs.promptness.Heard.{Heards, heard_seen, WasHeard}
use Rattle.trace_errors.specs.promptness.Heard as heards
use Rattle.trace_errors.specs.promptness.Overdue.{tries_are_up, stream_is_silent}
use Rattle.trace_errors.proofs.lemmas.promptness.Hearing.{before_row, row_event, rows_before}
use Rattle.trace_errors.proofs.lemmas.promptness.Delaying.{tells_tries, tells_silence}
use Rattle.trace_errors.proofs.Caused.{cause_of, of_cause}
use Rattle.trace_errors.specs.Rows.{IsCaused, WasCaused}
use Rattle.trace_errors.specs.Noted.{Noted, notes, note_all, lost, wrong_of, silent_of, failed_place, unopened_place, closed_place, note_failed, note_lost, note_closed, after_row, IsNoted, Known, GoesOn}
use Rattle.trace_errors.proofs.Rows.{same_number, own, more_so, more_kept, more_new, row_later, row_was}
use Rattle.trace_errors.proofs.Steady.{starts_stay, all_stay, time_goes_on, ClosedIn, Ending, StillLive, IsUnopened, IsClosed, row_lives}

same_kind : (a b : Via) → same_via a b ≡ true → a ≡ b
same_kind Dgram Dgram e = refl
same_kind Stream Stream e = refl
same_kind Dgram Stream e = absurd (cc)
same_kind Stream Dgram e = absurd (cc)

abbrev error : Error → Option Error
error e = Some e

abbrev no_error : Option Error
no_error = None

-- notes

notes_kept : (k j : ℕ) (e : Error) (o : Option Error) (t : Noted) → IsNoted k e t → IsNoted k e (notes j o t)
notes_kept k j e None t i = i
notes_kept k j e (Some d) t i = subst (IsIn e) (sym (listed_adds k j d t)) (more_kept (j == k) e d (listed k t) i)

notes_new : (k j : ℕ) (e : Error) (o : Option Error) (t : Noted) → IsNoted k e (notes j o t) → IsNoted k e t ⊎ ((o ≡ Some e) × (j ≡ k))
notes_new k j e None t i = inl i
notes_new k j e (Some d) t i = go (more_so (j == k) e d (listed k t) (subst (IsIn e) (listed_adds k j d t) i))
  where
    go : (((j == k) ≡ true) × (d ≡ e)) ⊎ IsIn e (listed k t) → IsNoted k e t ⊎ (Path (Option Error) (Some d) (Some e) × (j ≡ k))
    go (inl q) = inr (ap Some q.1, same_number j k q.0)
    go (inr i) = inl i

new_noted : (j : ℕ) (e : Error) (o : Option Error) (t : Noted) → o ≡ Some e → IsNoted j e (notes j o t)
new_noted j e o t q = subst (λ o. IsNoted j e (notes j o t)) (sym q) (subst (IsIn e) (sym (listed_adds j j e t)) (more_new (j == j) e (listed j t) (own j)))

record Noting {A : Type 0} (f : A → ℕ) (g : A → Option Error) (k : ℕ) (e : Error) (xs : List A) : Type 0 where
  item : A
  there : IsIn item xs
  is_request : f item ≡ k
  is_error : g item ≡ Some e

module _ {A : Type 0} (f : A → ℕ) (g : A → Option Error) where
  all_kept : (k : ℕ) (e : Error) (xs : List A) (t : Noted) → IsNoted k e t → IsNoted k e (note_all f g xs t)
  all_kept k e [] t i = i
  all_kept k e (x ∷ xs) t i = all_kept k e xs (notes (f x) (g x) t) (notes_kept k (f x) e (g x) t i)

  all_new : (k : ℕ) (e : Error) (xs : List A) (t : Noted) → IsNoted k e (note_all f g xs t) → IsNoted k e t ⊎ Noting f g k e xs
  all_new k e [] t i = inl i
  all_new k e (x ∷ xs) t i = go (all_new k e xs (notes (f x) (g x) t) i)
    where
      first : IsNoted k e t ⊎ ((g x ≡ Some e) × (f x ≡ k)) → IsNoted k e t ⊎ Noting f g k e (x ∷ xs)
      first (inl i) = inl i
      first (inr q) = inr (record { item = x; there = inl refl; is_request = q.1; is_error = q.0 })

      go : IsNoted k e (notes (f x) (g x) t) ⊎ Noting f g k e xs → IsNoted k e t ⊎ Noting f g k e (x ∷ xs)
      go (inl i) = first (notes_new k (f x) e (g x) t i)
      go (inr n) = inr (record { item = n.item; there = inr n.there; is_request = n.is_request; is_error = n.is_error })

  new_all : (y : A) (e : Error) (xs : List A) (t : Noted) → IsIn y xs → g y ≡ Some e → IsNoted (f y) e (note_all f g xs t)
  new_all y e [] t i q = absurd i
  new_all y e (x ∷ xs) t (inl s) q = all_kept (f y) e xs (notes (f x) (g x) t) (subst (λ y. IsNoted (f y) e (notes (f x) (g x) t)) s (new_noted (f x) e (g x) t (ap g s ∙ q)))
  new_all y e (x ∷ xs) t (inr i) q = new_all y e xs (notes (f x) (g x) t) i q

-- sends

record SentOf (k : ℕ) (xs : List Sent) : Type 0 where
  send : Sent
  there : IsIn send xs
  is_request : send.request ≡ k

sent_of : (k : ℕ) (n : Named) (xs : List Sent) → IsOneOf n (names_of k xs) → SentOf k xs
sent_of k n [] i = absurd i
sent_of k n (x ∷ xs) i = go (x.request == k) refl i (sent_of k n xs)
  where
    more : SentOf k xs → SentOf k (x ∷ xs)
    more s = record { send = s.send; there = inr s.there; is_request = s.is_request }

    go : (b : Bool) → (x.request == k) ≡ b → IsOneOf n (if b then record { id = x.id; octets = x.octets } ∷ names_of k xs else names_of k xs) → (IsOneOf n (names_of k xs) → SentOf k xs) → SentOf k (x ∷ xs)
    go true e i rest = record { send = x; there = inl refl; is_request = same_number x.request k e }
    go false e i rest = more (rest i)

abbrev SomeNamed : (p k : ℕ) → History → Type 0
SomeNamed p k h = (n : Named) × IsOneOf n (named p k h)

-- where the last try was something was sent
tried_named : (k s : ℕ) (y : Try) (h : History) → last_try k s h ≡ Some y → SomeNamed y.place k h
tried_named k s y [] e = absurd (cc)
tried_named k s y (Came d ∷ h) e = tried_named k s y h e
tried_named k s y (Put (Send q j i o) ∷ h) e = go (j == k) refl (is_at Dgram s q h) e (tried_named k s y h)
  where
    there : (q == y.place) ≡ true → (j == k) ≡ true → SomeNamed y.place k (Put (Send q j i o) ∷ h)
    there a b = (record { id = i; octets = o }, subst (λ x. IsOneOf (record { id = i; octets = o }) (if x then record { id = i; octets = o } ∷ named y.place k h else named y.place k h)) (sym (ap₂ (λ a b. a && b) a b)) (inl refl))

    more : SomeNamed y.place k h → (b : Bool) → (n : Named) × IsOneOf n (if b then record { id = i; octets = o } ∷ named y.place k h else named y.place k h)
    more n true = (n.0, inr n.1)
    more n false = n

    go : (a : Bool) → (j == k) ≡ a → (b : Bool) → (if a && b then Some (record { place = q; moment = now h }) else last_try k s h) ≡ Some y → (last_try k s h ≡ Some y → SomeNamed y.place k h) → SomeNamed y.place k (Put (Send q j i o) ∷ h)
    go true x true e rest = (let z : Path Try (record { place = q; moment = now h }) y = cc in there (ap (λ n. n == y.place) (ap (λ (t : Try). t.place) z) ∙ own y.place) x)
    go true x false e rest = more (rest e) ((q == y.place) && (j == k))
    go false x b e rest = more (rest e) ((q == y.place) && (j == k))
tried_named k s y (Put (Start j q u) ∷ h) e = tried_named k s y h e
tried_named k s y (Put (OpenDgram p q) ∷ h) e = tried_named k s y h e
tried_named k s y (Put (OpenStream p q) ∷ h) e = tried_named k s y h e
tried_named k s y (Put (Write p j i o) ∷ h) e = tried_named k s y h e
tried_named k s y (Put (Resume p o) ∷ h) e = tried_named k s y h e
tried_named k s y (Put (Close p) ∷ h) e = tried_named k s y h e
tried_named k s y (Put (Stale j) ∷ h) e = tried_named k s y h e
tried_named k s y (Put (Reply j x) ∷ h) e = tried_named k s y h e

-- where places end

lost_kept : (c : Conf) (b b' : Books) (k : ℕ) (e : Error) (o : Option ℕ) (t : Noted) → IsNoted k e t → IsNoted k e (note_lost c b b' o t)
lost_kept c b b' k e None t i = i
lost_kept c b b' k e (Some p) t i = all_kept (λ x. x.request) (λ x. lost c b b' x.request) k e (listed p b'.sends.sent) t i

closed_kept : (c : Conf) (b b' : Books) (k : ℕ) (e : Error) (os : List Out) (t : Noted) → IsNoted k e t → IsNoted k e (note_closed c b b' os t)
closed_kept c b b' k e [] t i = i
closed_kept c b b' k e (o ∷ os) t i = closed_kept c b b' k e os (note_lost c b b' (closed_place o) t) (lost_kept c b b' k e (closed_place o) t i)

abbrev IsUp : (c : Conf) (b b' : Books) (k : ℕ) → Error → Type 0
IsUp c b b' k e = (e ≡ errors.Dgram query.Timeout) × (tries_are_up c k b'.requests.clock b.places b' ≡ true)

lost_is : (c : Conf) (b b' : Books) (k : ℕ) (e : Error) → lost c b b' k ≡ Some e → IsUp c b b' k e
lost_is c b b' k e q = go (tries_are_up c k b'.requests.clock b.places b') q
  where
    go : (a : Bool) → (if a then error (errors.Dgram query.Timeout) else no_error) ≡ error e → (e ≡ errors.Dgram query.Timeout) × (a ≡ true)
    go true q = ((let z : errors.Dgram query.Timeout ≡ e = cc in sym z), refl)
    go false q = absurd (cc)

is_lost : (c : Conf) (b b' : Books) (k : ℕ) → tries_are_up c k b'.requests.clock b.places b' ≡ true → lost c b b' k ≡ Some (errors.Dgram query.Timeout)
is_lost c b b' k q = ap (λ a. if a then error (errors.Dgram query.Timeout) else no_error) q

lost_new : (c : Conf) (b b' : Books) (k : ℕ) (e : Error) (o : Option ℕ) (t : Noted) → IsNoted k e (note_lost c b b' o t) → IsNoted k e t ⊎ IsUp c b b' k e
lost_new c b b' k e None t i = inl i
lost_new c b b' k e (Some p) t i = go (all_new (λ x. x.request) (λ x. lost c b b' x.request) k e (listed p b'.sends.sent) t i)
  where
    go : IsNoted k e t ⊎ Noting (λ (x : Sent). x.request) (λ x. lost c b b' x.request) k e (listed p b'.sends.sent) → IsNoted k e t ⊎ IsUp c b b' k e
    go (inl i) = inl i
    go (inr n) = inr (lost_is c b b' k e (ap (lost c b b') (sym n.is_request) ∙ n.is_error))

new_lost : (c : Conf) (b b' : Books) (k p : ℕ) (o : Option ℕ) (t : Noted) → o ≡ Some p → SentOf k (listed p b'.sends.sent) → tries_are_up c k b'.requests.clock b.places b' ≡ true → IsNoted k (errors.Dgram query.Timeout) (note_lost c b b' o t)
new_lost c b b' k p o t e s q =
    subst (λ o. IsNoted k (errors.Dgram query.Timeout) (note_lost c b b' o t)) (sym e)
    (subst (λ k. IsNoted k (errors.Dgram query.Timeout) (note_lost c b b' (Some p) t)) s.is_request
    (new_all (λ x. x.request) (λ x. lost c b b' x.request) s.send (errors.Dgram query.Timeout) (listed p b'.sends.sent) t s.there (ap (lost c b b') s.is_request ∙ is_lost c b b' k q)))

closed_new : (c : Conf) (b b' : Books) (k : ℕ) (e : Error) (os : List Out) (t : Noted) → IsNoted k e (note_closed c b b' os t) → IsNoted k e t ⊎ IsUp c b b' k e
closed_new c b b' k e [] t i = inl i
closed_new c b b' k e (o ∷ os) t i = go (closed_new c b b' k e os (note_lost c b b' (closed_place o) t) i)
  where
    go : IsNoted k e (note_lost c b b' (closed_place o) t) ⊎ IsUp c b b' k e → IsNoted k e t ⊎ IsUp c b b' k e
    go (inl i) = lost_new c b b' k e (closed_place o) t i
    go (inr u) = inr u

new_closed : (c : Conf) (b b' : Books) (k p : ℕ) (os : List Out) (t : Noted) → ClosedIn p os → SentOf k (listed p b'.sends.sent) → tries_are_up c k b'.requests.clock b.places b' ≡ true → IsNoted k (errors.Dgram query.Timeout) (note_closed c b b' os t)
new_closed c b b' k p [] t i s q = absurd i
new_closed c b b' k p (o ∷ os) t (inl e) s q = closed_kept c b b' k (errors.Dgram query.Timeout) os (note_lost c b b' (closed_place o) t) (new_lost c b b' k p (closed_place o) t e s q)
new_closed c b b' k p (o ∷ os) t (inr i) s q = new_closed c b b' k p os (note_lost c b b' (closed_place o) t) i s q

-- where faults are told

failed_kept : (c : Conf) (b : Books) (w : What) (k : ℕ) (e : Error) (o : Option ℕ) (t : Noted) → IsNoted k e t → IsNoted k e (note_failed c b w o t)
failed_kept c b w k e None t i = i
failed_kept c b w k e (Some p) t i = all_kept (λ x. x.request) (λ x. failure c b x.request w) k e (listed p b.sends.sent) t i

failed_new : (c : Conf) (b : Books) (w : What) (k : ℕ) (e : Error) (o : Option ℕ) (t : Noted) → IsNoted k e (note_failed c b w o t) → IsNoted k e t ⊎ (failure c b k w ≡ Some e)
failed_new c b w k e None t i = inl i
failed_new c b w k e (Some p) t i = go (all_new (λ x. x.request) (λ x. failure c b x.request w) k e (listed p b.sends.sent) t i)
  where
    go : IsNoted k e t ⊎ Noting (λ (x : Sent). x.request) (λ x. failure c b x.request w) k e (listed p b.sends.sent) → IsNoted k e t ⊎ (failure c b k w ≡ Some e)
    go (inl i) = inl i
    go (inr n) = inr (ap (λ k. failure c b k w) (sym n.is_request) ∙ n.is_error)

new_failed : (c : Conf) (b : Books) (w : What) (k p : ℕ) (e : Error) (o : Option ℕ) (t : Noted) → o ≡ Some p → SentOf k (listed p b.sends.sent) → failure c b k w ≡ Some e → IsNoted k e (note_failed c b w o t)
new_failed c b w k p e o t q s f =
    subst (λ o. IsNoted k e (note_failed c b w o t)) (sym q)
    (subst (λ k. IsNoted k e (note_failed c b w (Some p) t)) s.is_request
    (new_all (λ x. x.request) (λ x. failure c b x.request w) s.send e (listed p b.sends.sent) t s.there (ap (λ k. failure c b k w) s.is_request ∙ f)))

-- messages

wrong_is : (x : Coming) (e : Error) → wrong_of x ≡ Some e → (e ≡ errors.WrongReplyForQuery) × (x.via ≡ Stream) × (x.agrees ≡ false)
wrong_is x e q = go (same_via x.via Stream) refl x.agrees refl q
  where
    go : (a : Bool) → same_via x.via Stream ≡ a → (b : Bool) → x.agrees ≡ b → (if a && not b then error errors.WrongReplyForQuery else no_error) ≡ Some e → (e ≡ errors.WrongReplyForQuery) × (x.via ≡ Stream) × (x.agrees ≡ false)
    go true i false j q = ((let z : errors.WrongReplyForQuery ≡ e = cc in sym z), same_kind x.via Stream i, j)
    go true i true j q = absurd (cc)
    go false i b j q = absurd (cc)

silent_is : (c : Conf) (b b' : Books) (heard : Heards) (x : Coming) (e : Error) → silent_of c b b' heard x ≡ Some e → (e ≡ errors.StreamReadTimeout) × (stream_is_silent c x.request b'.requests.clock b.requests heard ≡ true)
silent_is c b b' heard x e q = go (same_via x.via Stream) (stream_is_silent c x.request b'.requests.clock b.requests heard) q
  where
    go : (a d : Bool) → (if a && d then error errors.StreamReadTimeout else no_error) ≡ Some e → (e ≡ errors.StreamReadTimeout) × (d ≡ true)
    go true true q = ((let z : errors.StreamReadTimeout ≡ e = cc in sym z), refl)
    go true false q = absurd (cc)
    go false d q = absurd (cc)

-- a row

module _ (c : Conf) (s : Settings) (past : History) (row : Row) (b b' : Books) (heard heard' : Heards) (xs : List Coming) (t : Noted) (right : RowRight c s past row) (kb : books.Known past b) (kb' : books.Known (after row past) b') (kd : heards.Known c past heard) (kd' : heards.Known c (after row past) heard') (cs : AllComing c None past (after row past) xs) (kt : Known c past t) where
  abbrev failed : Noted
  failed = note_failed c b row.event.what (failed_place row.event.what) t

  abbrev unopened : Noted
  unopened = note_lost c b b' (unopened_place row.event.what) failed

  abbrev closed : Noted
  closed = note_closed c b b' row.outs unopened

  abbrev wronged : Noted
  wronged = note_all (λ x. x.request) wrong_of xs closed

  abbrev silenced : Noted
  silenced = note_all (λ x. x.request) (silent_of c b b' heard) xs wronged

  from_wronged : (k : ℕ) (e : Error) → IsNoted k e wronged → IsNoted k e silenced
  from_wronged k e i = all_kept (λ x. x.request) (silent_of c b b' heard) k e xs wronged i

  from_closed : (k : ℕ) (e : Error) → IsNoted k e closed → IsNoted k e silenced
  from_closed k e i = from_wronged k e (all_kept (λ x. x.request) wrong_of k e xs closed i)

  from_unopened : (k : ℕ) (e : Error) → IsNoted k e unopened → IsNoted k e silenced
  from_unopened k e i = from_closed k e (closed_kept c b b' k e row.outs unopened i)

  from_failed : (k : ℕ) (e : Error) → IsNoted k e failed → IsNoted k e silenced
  from_failed k e i = from_unopened k e (lost_kept c b b' k e (unopened_place row.event.what) failed i)

  from_past : (k : ℕ) (e : Error) → IsNoted k e t → IsNoted k e silenced
  from_past k e i = from_failed k e (failed_kept c b row.event.what k e (failed_place row.event.what) t i)

  -- causes in the row
  caused : (k : ℕ) (e : Error) → ServerCause c k past row.event.what (after row past) e → IsCaused c k e (after row past)
  caused k e d = subst (λ x. ServerCause c k x (newest (after row past)) (after row past) e) (sym (before_row row past)) (subst (λ w. ServerCause c k past w (after row past) e) (sym (row_event row past)) d)

  cause : (k : ℕ) (e : Error) → IsCaused c k e (after row past) → ServerCause c k past row.event.what (after row past) e
  cause k e d = subst (λ w. ServerCause c k past w (after row past) e) (row_event row past) (subst (λ x. ServerCause c k x (newest (after row past)) (after row past) e) (before_row row past) d)

  tries_so : (k : ℕ) → tries_are_up c k b'.requests.clock b.places b' ≡ true → TriesAreUp c k (now (after row past)) past (after row past)
  tries_so k e = subst (λ n. TriesAreUp c k n past (after row past)) kb'.requests.time ((tells_tries c k b'.requests.clock b b' (tries_are_up c k b'.requests.clock b.places b') refl past (after row past) kb kb').0 e)

  so_tries : (k : ℕ) → TriesAreUp c k (now (after row past)) past (after row past) → tries_are_up c k b'.requests.clock b.places b' ≡ true
  so_tries k d = (tells_tries c k b'.requests.clock b b' (tries_are_up c k b'.requests.clock b.places b') refl past (after row past) kb kb').1 (subst (λ n. TriesAreUp c k n past (after row past)) (sym kb'.requests.time) d)

  silence_so : (k : ℕ) → stream_is_silent c k b'.requests.clock b.requests heard ≡ true → StreamIsSilent c k (now (after row past)) past
  silence_so k e = subst (λ n. StreamIsSilent c k n past) kb'.requests.time ((tells_silence c k b'.requests.clock b heard (stream_is_silent c k b'.requests.clock b.requests heard) refl past kb kd).0 e)

  so_silence : (k : ℕ) → StreamIsSilent c k (now (after row past)) past → stream_is_silent c k b'.requests.clock b.requests heard ≡ true
  so_silence k d = (tells_silence c k b'.requests.clock b heard (stream_is_silent c k b'.requests.clock b.requests heard) refl past kb kd).1 (subst (λ n. StreamIsSilent c k n past) (sym kb'.requests.time) d)

  -- what is noted was caused

  now_caused : (k : ℕ) (e : Error) → ServerCause c k past row.event.what (after row past) e → WasCaused c k e (after row past)
  now_caused k e d = inl (caused k e d)

  by_failed : (k : ℕ) (e : Error) → IsNoted k e t ⊎ (failure c b k row.event.what ≡ Some e) → WasCaused c k e (after row past)
  by_failed k e (inl i) = row_later (IsCaused c k e) row past (kt.so k e i)
  by_failed k e (inr f) = now_caused k e (of_fails e ((tells_failure c b k row.event.what (failure c b k row.event.what) refl past kb e).0 f))
    where
      of_fails : (e : Error) → Fails c k past row.event.what e → ServerCause c k past row.event.what (after row past) e
      of_fails _ (InSending f d) = of_cause c k past row.event.what (after row past) (errors.Dgram (query.Send f)) (InSending f d)
      of_fails _ (InPart d) = of_cause c k past row.event.what (after row past) (errors.Dgram (query.Send fault.ShortSend)) (InPart d)
      of_fails _ (InReceiving f d) = of_cause c k past row.event.what (after row past) (errors.Dgram (query.Receive f)) (InReceiving f d)

  by_up : (k : ℕ) (e : Error) → IsUp c b b' k e → WasCaused c k e (after row past)
  by_up k e u = now_caused k e (subst (ServerCause c k past row.event.what (after row past)) (sym u.0) (NoAnswer (tries_so k u.1)))

  by_lost : (k : ℕ) (e : Error) → IsNoted k e failed ⊎ IsUp c b b' k e → WasCaused c k e (after row past)
  by_lost k e (inl i) = by_failed k e (failed_new c b row.event.what k e (failed_place row.event.what) t i)
  by_lost k e (inr u) = by_up k e u

  by_closed : (k : ℕ) (e : Error) → IsNoted k e unopened ⊎ IsUp c b b' k e → WasCaused c k e (after row past)
  by_closed k e (inl i) = by_lost k e (lost_new c b b' k e (unopened_place row.event.what) failed i)
  by_closed k e (inr u) = by_up k e u

  by_wrong : (k : ℕ) (e : Error) → IsNoted k e closed ⊎ Noting (λ (x : Coming). x.request) wrong_of k e xs → WasCaused c k e (after row past)
  by_wrong k e (inl i) = by_closed k e (closed_new c b b' k e row.outs unopened i)
  by_wrong k e (inr n) =
      let x = n.item in
      let q = wrong_is x e n.is_error in
      let is = cs.so x n.there in
      let comes : Comes c is.asked_as Stream x.server x.place k x.id x.message past row.event.what (after row past) =
      subst (λ w. Comes c is.asked_as Stream x.server x.place k x.id x.message past w (after row past)) (row_event row past)
      (subst (λ v. Comes c is.asked_as v x.server x.place k x.id x.message past (newest (after row past)) (after row past)) q.1
      (subst (λ k. Comes c is.asked_as x.via x.server x.place k x.id x.message past (newest (after row past)) (after row past)) n.is_request is.comes)) in
      now_caused k e (subst (ServerCause c k past row.event.what (after row past)) (sym q.0) (WrongReply (record { request = is.asked_as; server = x.server; place = x.place; id = x.id; message = x.message; comes = comes; differs = sym is.agreeing ∙ q.2 })))

  by_silent : (k : ℕ) (e : Error) → IsNoted k e wronged ⊎ Noting (λ (x : Coming). x.request) (silent_of c b b' heard) k e xs → WasCaused c k e (after row past)
  by_silent k e (inl i) = by_wrong k e (all_new (λ x. x.request) wrong_of k e xs closed i)
  by_silent k e (inr n) =
      let q = silent_is c b b' heard n.item e n.is_error in
      now_caused k e (subst (ServerCause c k past row.event.what (after row past)) (sym q.0) (StreamSilence (silence_so k (ap (λ k. stream_is_silent c k b'.requests.clock b.requests heard) (sym n.is_request) ∙ q.1))))

  noted_so : (k : ℕ) (e : Error) → IsNoted k e silenced → WasCaused c k e (after row past)
  noted_so k e i = by_silent k e (all_new (λ x. x.request) (silent_of c b b' heard) k e xs wronged i)

  -- what was caused is noted

  sent_there : (told : ℕ → What) (k : ℕ) (d : FailedAt c told k past row.event.what) → SentOf k (listed d.place b.sends.sent)
  sent_there told k d = sent_of k d.send (listed d.place b.sends.sent) (subst (IsOneOf d.send) (sym (kb.sends.names d.place k)) d.named_there)

  fails_noted : (k : ℕ) (e : Error) → Fails c k past row.event.what e → failure c b k row.event.what ≡ Some e → IsNoted k e failed
  fails_noted k _ (InSending f d) q = new_failed c b row.event.what k d.place (errors.Dgram (query.Send f)) (failed_place row.event.what) t (ap failed_place d.is_told) (sent_there (λ p. SendFailed p f) k d) q
  fails_noted k _ (InPart d) q = new_failed c b row.event.what k d.place (errors.Dgram (query.Send fault.ShortSend)) (failed_place row.event.what) t (ap failed_place d.is_told) (sent_there ShortSend k d) q
  fails_noted k _ (InReceiving f d) q = new_failed c b row.event.what k d.place (errors.Dgram (query.Receive f)) (failed_place row.event.what) t (ap failed_place d.is_told) (sent_there (λ p. RecvFailed p f) k d) q

  failing_noted : (k : ℕ) (e : Error) → Fails c k past row.event.what e → IsNoted k e silenced
  failing_noted k e d = from_failed k e (fails_noted k e d ((tells_failure c b k row.event.what (failure c b k row.event.what) refl past kb e).1 d))

  sending : (k : ℕ) (f : Fault) → WasCaused c k (errors.Dgram (query.Send f)) (after row past) → IsNoted k (errors.Dgram (query.Send f)) silenced
  sending k f w = go (row_was (IsCaused c k (errors.Dgram (query.Send f))) row past w)
    where
      go : IsCaused c k (errors.Dgram (query.Send f)) (after row past) ⊎ WasCaused c k (errors.Dgram (query.Send f)) past → IsNoted k (errors.Dgram (query.Send f)) silenced
      go (inl d) = failing_noted k (errors.Dgram (query.Send f)) (cause_of c k past row.event.what (after row past) (errors.Dgram (query.Send f)) (cause k (errors.Dgram (query.Send f)) d))
      go (inr w) = from_past k (errors.Dgram (query.Send f)) (kt.sending k f w)

  receiving : (k : ℕ) (f : Fault) → WasCaused c k (errors.Dgram (query.Receive f)) (after row past) → IsNoted k (errors.Dgram (query.Receive f)) silenced
  receiving k f w = go (row_was (IsCaused c k (errors.Dgram (query.Receive f))) row past w)
    where
      go : IsCaused c k (errors.Dgram (query.Receive f)) (after row past) ⊎ WasCaused c k (errors.Dgram (query.Receive f)) past → IsNoted k (errors.Dgram (query.Receive f)) silenced
      go (inl d) = failing_noted k (errors.Dgram (query.Receive f)) (cause_of c k past row.event.what (after row past) (errors.Dgram (query.Receive f)) (cause k (errors.Dgram (query.Receive f)) d))
      go (inr w) = from_past k (errors.Dgram (query.Receive f)) (kt.receiving k f w)

  wrong_noted : (k : ℕ) → CameWrong c k past row.event.what (after row past) → IsNoted k errors.WrongReplyForQuery silenced
  wrong_noted k d =
      let comes = subst (λ w. Comes c d.request Stream d.server d.place k d.id d.message past w (after row past)) (sym (row_event row past)) d.comes in
      let z : Coming = record { request = k; via = Stream; server = d.server; place = d.place; id = d.id; message = d.message; agrees = answers d.request d.id d.message } in
      let there = cs.back d.request Stream d.server d.place k d.id d.message refl comes in
      from_wronged k errors.WrongReplyForQuery (new_all (λ x. x.request) wrong_of z errors.WrongReplyForQuery xs closed there (ap (λ a. if not a then error errors.WrongReplyForQuery else no_error) d.differs))

  wrong : (k : ℕ) → WasCaused c k errors.WrongReplyForQuery (after row past) → IsNoted k errors.WrongReplyForQuery silenced
  wrong k w = go (row_was (IsCaused c k errors.WrongReplyForQuery) row past w)
    where
      go : IsCaused c k errors.WrongReplyForQuery (after row past) ⊎ WasCaused c k errors.WrongReplyForQuery past → IsNoted k errors.WrongReplyForQuery silenced
      go (inl d) = wrong_noted k (cause_of c k past row.event.what (after row past) errors.WrongReplyForQuery (cause k errors.WrongReplyForQuery d))
      go (inr w) = from_past k errors.WrongReplyForQuery (kt.wrong k w)

  tries_end : (k : ℕ) → TriesAreUp c k (now (after row past)) past (after row past) → IsNoted k (errors.Dgram query.Timeout) silenced ⊎ TriesAreUp c k (now (after row past)) (after row past) (after row past)
  tries_end k d = go (row_lives row past d.last.place d.lived)
    where
      sent : SentOf k (listed d.last.place b'.sends.sent)
      sent = (let n = tried_named k d.server d.last (after row past) d.is_last in sent_of k n.0 (listed d.last.place b'.sends.sent) (subst (IsOneOf n.0) (sym (kb'.sends.names d.last.place k)) n.1))

      go : Ending d.last.place row past → IsNoted k (errors.Dgram query.Timeout) silenced ⊎ TriesAreUp c k (now (after row past)) (after row past) (after row past)
      go (StillLive l) = inr (record { server = d.server; all = d.all; last = d.last; is_last = d.is_last; old = d.old; lived = l })
      go (IsUnopened e) = inl (from_unopened k (errors.Dgram query.Timeout) (new_lost c b b' k d.last.place (unopened_place row.event.what) failed e sent (so_tries k d)))
      go (IsClosed i) = inl (from_closed k (errors.Dgram query.Timeout) (new_closed c b b' k d.last.place row.outs unopened i sent (so_tries k d)))

  tries : (k : ℕ) → WasCaused c k (errors.Dgram query.Timeout) (after row past) → IsNoted k (errors.Dgram query.Timeout) silenced ⊎ TriesAreUp c k (now (after row past)) (after row past) (after row past)
  tries k w = go (row_was (IsCaused c k (errors.Dgram query.Timeout)) row past w)
    where
      older : IsNoted k (errors.Dgram query.Timeout) t ⊎ TriesAreUp c k (now past) past past → IsNoted k (errors.Dgram query.Timeout) silenced ⊎ TriesAreUp c k (now (after row past)) (after row past) (after row past)
      older (inl i) = inl (from_past k (errors.Dgram query.Timeout) i)
      older (inr d) =
          let kept = all_stay c s past row right k d.server d.all in
          let l = time_goes_on row past in
          let o = d.old in
          tries_end k (record { server = d.server; all = kept.0; last = d.last; is_last = kept.1 ∙ d.is_last; old = omega arith; lived = d.lived })

      go : IsCaused c k (errors.Dgram query.Timeout) (after row past) ⊎ WasCaused c k (errors.Dgram query.Timeout) past → IsNoted k (errors.Dgram query.Timeout) silenced ⊎ TriesAreUp c k (now (after row past)) (after row past) (after row past)
      go (inl d) = tries_end k (cause_of c k past row.event.what (after row past) (errors.Dgram query.Timeout) (cause k (errors.Dgram query.Timeout) d))
      go (inr w) = older (kt.tries k w)

  -- a message comes at last
  heard_noted : (k r : ℕ) → Heard c k r (after row past) → StreamIsSilent c k (now (after row past)) past → IsNoted k errors.StreamReadTimeout silenced
  heard_noted k r d q =
      let comes = subst (λ x. Comes c d.request Stream r d.place k d.id d.message x (newest (after row past)) (after row past)) (before_row row past) d.comes in
      let z : Coming = record { request = k; via = Stream; server = r; place = d.place; id = d.id; message = d.message; agrees = answers d.request d.id d.message } in
      let there = cs.back d.request Stream r d.place k d.id d.message refl comes in
      new_all (λ x. x.request) (silent_of c b b' heard) z errors.StreamReadTimeout xs wronged there (ap (λ a. if a then error errors.StreamReadTimeout else no_error) (so_silence k q))

  silence_end : (k : ℕ) → StreamIsSilent c k (now (after row past)) past → IsNoted k errors.StreamReadTimeout silenced ⊎ StreamIsSilent c k (now (after row past)) (after row past)
  silence_end k d = go (heard_seen k d.server heard') refl
    where
      was : WasHeard c k d.server (after row past) → IsNoted k errors.StreamReadTimeout silenced
      was (inl h) = heard_noted k d.server h d
      was (inr e) = absurd (d.silent (rows_before (Heard c k d.server) row past e))

      go : (a : Bool) → heard_seen k d.server heard' ≡ a → IsNoted k errors.StreamReadTimeout silenced ⊎ StreamIsSilent c k (now (after row past)) (after row past)
      go true e = inl (was (kd'.so k d.server e))
      go false e = inr (record {
        server = d.server;
        begun = d.begun;
        is_begun = starts_stay c s past row right k d.server d.begun Stream d.is_begun;
        passed = d.passed;
        silent = λ w. (let u = kd'.back k d.server w in let z : true ≡ false = sym u ∙ e in cc);
      })

  silence : (k : ℕ) → WasCaused c k errors.StreamReadTimeout (after row past) → IsNoted k errors.StreamReadTimeout silenced ⊎ StreamIsSilent c k (now (after row past)) (after row past)
  silence k w = go (row_was (IsCaused c k errors.StreamReadTimeout) row past w)
    where
      older : IsNoted k errors.StreamReadTimeout t ⊎ StreamIsSilent c k (now past) past → IsNoted k errors.StreamReadTimeout silenced ⊎ StreamIsSilent c k (now (after row past)) (after row past)
      older (inl i) = inl (from_past k errors.StreamReadTimeout i)
      older (inr d) =
          let l = time_goes_on row past in
          let p = d.passed in
          silence_end k (record { server = d.server; begun = d.begun; is_begun = d.is_begun; passed = omega arith; silent = d.silent })

      go : IsCaused c k errors.StreamReadTimeout (after row past) ⊎ WasCaused c k errors.StreamReadTimeout past → IsNoted k errors.StreamReadTimeout silenced ⊎ StreamIsSilent c k (now (after row past)) (after row past)
      go (inl d) = silence_end k (cause_of c k past row.event.what (after row past) errors.StreamReadTimeout (cause k errors.StreamReadTimeout d))
      go (inr w) = older (kt.silence k w)

  pub noted_row : Known c (after row past) (after_row c b b' heard row xs t)
  noted_row = record { so = noted_so; sending = sending; receiving = receiving; wrong = wrong; tries = tries; silence = silence }

nothing_caused : (c : Conf) (k : ℕ) (e : Error) → (ServerCause c k [] Tick [] e → ⊥) → WasCaused c k e [] → ⊥
nothing_caused c k e f (inl d) = f d
nothing_caused c k e f (inr n) = n

never_fails : (conf : Conf) (k : ℕ) (e : Error) → Fails conf k [] Tick e → ⊥
never_fails conf k _ (InSending f d) = (let z : Tick ≡ SendFailed d.place f = d.is_told in cc)
never_fails conf k _ (InPart d) = (let z : Tick ≡ ShortSend d.place = d.is_told in cc)
never_fails conf k _ (InReceiving f d) = (let z : Tick ≡ RecvFailed d.place f = d.is_told in cc)

pub goes_on : GoesOn
unfolding max_tries
goes_on = record {
  begins = λ c. record {
    so = λ k e i. absurd i;
    sending = λ k f w. absurd (nothing_caused c k (errors.Dgram (query.Send f)) (λ d. never_fails c k (errors.Dgram (query.Send f)) (cause_of c k [] Tick [] (errors.Dgram (query.Send f)) d)) w);
    receiving = λ k f w. absurd (nothing_caused c k (errors.Dgram (query.Receive f)) (λ d. never_fails c k (errors.Dgram (query.Receive f)) (cause_of c k [] Tick [] (errors.Dgram (query.Receive f)) d)) w);
    wrong = λ k w. absurd (nothing_caused c k errors.WrongReplyForQuery (λ d. (let q = cause_of c k [] Tick [] errors.WrongReplyForQuery d in let z : None ≡ Some q.message = q.comes.first in cc)) w);
    tries = λ k w. absurd (nothing_caused c k (errors.Dgram query.Timeout) (λ d. (let q = cause_of c k [] Tick [] (errors.Dgram query.Timeout) d in let z : 0 ≡ suc c.transports.dgram_max_retries = q.all in cc)) w);
    silence = λ k w. absurd (nothing_caused c k errors.StreamReadTimeout (λ d. (let q = cause_of c k [] Tick [] errors.StreamReadTimeout d in let z : None ≡ Some q.begun = q.is_begun in cc)) w);
  };
  row = λ c s past row b b' heard heard' xs t right kb kb' kd kd' cs kt. noted_row c s past row b b' heard heard' xs t right kb kb' kd kd' cs kt;
}
