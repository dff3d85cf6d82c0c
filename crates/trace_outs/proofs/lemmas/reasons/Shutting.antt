-- Whether a place may be closed is what the definitions say.
use Rattle.std.proofs.Common.{◌≡◌, ℕ, suc, ◌+◌, ◌<◌, ◌≤◌, ◌==◌, ◌&&◌, ◌||◌, ◌⊎◌, inl, inr, not, Bool, true, false, List, [], ◌∷◌, length, map, Option, Some, None, refl, sym, ap, ap₂, ◌∙◌, subst, arith}
use Rattle.std.specs.Prelude.{is_some, nat_le}
use Rattle.std.proofs.lemmas.Bool.Decides.{nat_tests}
use Rattle.number_table.specs.Entries.{entry_at}
use Rattle.client_request.specs.Request.{Request}
use Rattle.client_request.specs.declared.event.{What.What, Out.Out, Via.Via}
use Rattle.client_request.specs.declared.event.Out.TheVariants.{Start, OpenDgram, OpenStream, Send, Write, Resume, Close, Stale, Reply}
use Rattle.client_request.specs.declared.event.Via.TheVariants.{Dgram, Stream}
use Rattle.right_trace.specs.Trace.{History, Conf, Came, Put, put_all, after}
use Rattle.right_trace.specs.Time.{now, read_timeout}
use Rattle.right_trace.specs.Messages.{answers, is_valid}
use Rattle.right_trace.specs.Requests.{Asking, asking, same_via, is_reply, replied, started}
use Rattle.right_trace.specs.Places.{Site, site, is_site, is_at, is_told, is_live}
use Rattle.right_trace.specs.{Parts.IsIn, Exchanges.Comes}
use Rattle.right_trace.specs.Orderly.{Sending, sending, RepliedHere, Answered, MayCloseDgram, ItsFault, ItsAnswer, ItsTimeout, ItsReply, ReplyBeforeItsSend, InvalidBeforeItsSend, MayCloseStream, MayClose, OfDgram, OfStream}
use Rattle.right_trace.specs.Right.{HasServer, WasLive}
use Rattle.trace_tables.specs.declared.places.Place.{Place}
use Rattle.trace_tables.specs.declared.sends.Sent.{Sent}
use Rattle.trace_tables.specs.{Known.site_seen, Lists.listed, Sends.last_of}
use Rattle.trace_tables.specs.Requests.{replied_seen, started_seen}
use Rattle.trace_tables.specs.frames.Here.{was_live_seen}
use Rattle.trace_points.specs.declared.questions.configured.ServerUse.{ServerUse}
use Rattle.trace_points.specs.questions.Configured.{use_of}
use Rattle.trace_points.proofs.lemmas.questions.Deciding.{both, all, not_true}
use Rattle.trace_points.specs.declared.exchanges.coming.Coming.{Coming}
use Rattle.trace_points.specs.due.Invalid.{SomeInvalid, invalid_seen}
use Rattle.trace_outs.specs.declared.reasons.point.Point.{Point}
use Rattle.trace_outs.specs.reasons.Point.{Known, has_server_seen}
use Rattle.trace_outs.specs.reasons.Closing.{told_seen, is_answer_at, some_answer_at, some_reply, replied_here, is_reply_there, some_reply_there, sent_closes, unsent_closes, by_sends, dgram_closes, TellsStreamClose, TellsReason, may_close, TellsClose}
use Rattle.trace_outs.proofs.lemmas.reasons.Telling.{same_number, own, either, first_true, second_true, same_kind, own_kind, came_so, so_came}
use Rattle.trace_outs.proofs.lemmas.reasons.Streams.{told_is}

-- answers at a place
record AnswerIn (p k : ℕ) (xs : List Coming) : Type 0 where
  coming : Coming
  there : IsIn coming xs
  by_datagram : coming.via ≡ Dgram
  is_place : coming.place ≡ p
  is_request : coming.request ≡ k
  agrees : coming.agrees ≡ true

answer_so : (p k : ℕ) (xs : List Coming) → some_answer_at p k xs ≡ true → AnswerIn p k xs
answer_so p k [] e = absurd (cc)
answer_so p k (x ∷ xs) e = go (answer_so p k xs) (either (is_answer_at p k x) (some_answer_at p k xs) e)
  where
    go : (some_answer_at p k xs ≡ true → AnswerIn p k xs) → (is_answer_at p k x ≡ true) ⊎ (some_answer_at p k xs ≡ true) → AnswerIn p k (x ∷ xs)
    go rest (inl e) =
        let q = both (x.place == p) _ e in
        let r = both (x.request == k) _ q.1 in
        let u = both (same_via x.via Dgram) x.agrees r.1 in
        record { coming = x; there = inl refl; by_datagram = same_kind x.via Dgram u.0; is_place = same_number x.place p q.0; is_request = same_number x.request k r.0; agrees = u.1 }
    go rest (inr e) =
        let w = rest e in
        record { coming = w.coming; there = inr w.there; by_datagram = w.by_datagram; is_place = w.is_place; is_request = w.is_request; agrees = w.agrees }

so_answer : (p k : ℕ) (z : Coming) (xs : List Coming) → IsIn z xs → is_answer_at p k z ≡ true → some_answer_at p k xs ≡ true
so_answer p k z [] i e = absurd i
so_answer p k z (x ∷ xs) (inl q) e = first_true _ _ (ap (is_answer_at p k) q ∙ e)
so_answer p k z (x ∷ xs) (inr i) e = second_true _ _ (so_answer p k z xs i e)

-- replies in the row
replied_by : (k : ℕ) (os : List Out) (h : History) → replied k (put_all os h) ≡ (some_reply k os || replied k h)
replied_by k [] h = refl
replied_by k (o ∷ os) h = replied_by k os (Put o ∷ h) ∙ turn (some_reply k os) (is_reply k o) (replied k h)
  where
    turn : (a b d : Bool) → (a || (b || d)) ≡ ((b || a) || d)
    turn true true d = refl
    turn true false d = refl
    turn false true d = refl
    turn false false d = refl

-- a reply among outs to a request that passes
record ReplyIn (s : ℕ) (t : Point) (os : List Out) : Type 0 where
  request : ℕ
  there : some_reply request os ≡ true
  none : replied_seen request t.past.now.books.requests ≡ false
  has_it : started_seen request s Dgram t.here.now.books.requests ≡ true

module _ (s : ℕ) (t : Point) where
  one_so : (o : Out) (os : List Out) → is_reply_there s t.past.now.books.requests t.here.now.books.requests o ≡ true → ReplyIn s t (o ∷ os)
  one_so (Reply k y) os e =
      let q = both (not (replied_seen k t.past.now.books.requests)) _ e in
      record { request = k; there = first_true (k == k) _ (own k); none = not_true (replied_seen k t.past.now.books.requests) q.0; has_it = q.1 }
  one_so (Start k s v) os e = absurd (cc)
  one_so (OpenDgram p s) os e = absurd (cc)
  one_so (OpenStream p s) os e = absurd (cc)
  one_so (Send p k i o) os e = absurd (cc)
  one_so (Write p k i o) os e = absurd (cc)
  one_so (Resume p o) os e = absurd (cc)
  one_so (Close p) os e = absurd (cc)
  one_so (Stale k) os e = absurd (cc)

  there_so : (os : List Out) → some_reply_there s t.past.now.books.requests t.here.now.books.requests os ≡ true → ReplyIn s t os
  there_so [] e = absurd (cc)
  there_so (o ∷ os) e = go (there_so os) (either (is_reply_there s t.past.now.books.requests t.here.now.books.requests o) _ e)
    where
      go : (some_reply_there s t.past.now.books.requests t.here.now.books.requests os ≡ true → ReplyIn s t os) → (is_reply_there s t.past.now.books.requests t.here.now.books.requests o ≡ true) ⊎ (some_reply_there s t.past.now.books.requests t.here.now.books.requests os ≡ true) → ReplyIn s t (o ∷ os)
      go rest (inl e) = one_so o os e
      go rest (inr e) = (let r = rest e in record { request = r.request; there = second_true (is_reply r.request o) _ r.there; none = r.none; has_it = r.has_it })

  so_one : (k : ℕ) (o : Out) → is_reply k o ≡ true → replied_seen k t.past.now.books.requests ≡ false → started_seen k s Dgram t.here.now.books.requests ≡ true → is_reply_there s t.past.now.books.requests t.here.now.books.requests o ≡ true
  so_one k (Reply j y) e none has =
      let i : k ≡ j = sym (same_number j k e) in
      all (not (replied_seen j t.past.now.books.requests)) _ (ap not (ap (λ (k : ℕ). replied_seen k t.past.now.books.requests) (sym i) ∙ none)) (ap (λ (k : ℕ). started_seen k s Dgram t.here.now.books.requests) (sym i) ∙ has)
  so_one k (Start j s v) e none has = absurd (cc)
  so_one k (OpenDgram p s) e none has = absurd (cc)
  so_one k (OpenStream p s) e none has = absurd (cc)
  so_one k (Send p j i o) e none has = absurd (cc)
  so_one k (Write p j i o) e none has = absurd (cc)
  so_one k (Resume p o) e none has = absurd (cc)
  so_one k (Close p) e none has = absurd (cc)
  so_one k (Stale j) e none has = absurd (cc)

  so_there : (k : ℕ) (os : List Out) → some_reply k os ≡ true → replied_seen k t.past.now.books.requests ≡ false → started_seen k s Dgram t.here.now.books.requests ≡ true → some_reply_there s t.past.now.books.requests t.here.now.books.requests os ≡ true
  so_there k [] e none has = absurd (cc)
  so_there k (o ∷ os) e none has = go (λ e. so_there k os e none has) (either (is_reply k o) (some_reply k os) e)
    where
      go : (some_reply k os ≡ true → some_reply_there s t.past.now.books.requests t.here.now.books.requests os ≡ true) → (is_reply k o ≡ true) ⊎ (some_reply k os ≡ true) → (is_reply_there s t.past.now.books.requests t.here.now.books.requests o || some_reply_there s t.past.now.books.requests t.here.now.books.requests os) ≡ true
      go rest (inl e) = first_true _ _ (so_one k o e none has)
      go rest (inr e) = second_true _ _ (rest e)

le_so : (a b : ℕ) → nat_le a b ≡ true → a ≤ b
le_so a b e = grind (arith, nat_tests)

so_le : (a b : ℕ) → a ≤ b → nat_le a b ≡ true
so_le a b le = grind (arith, nat_tests)

due_so : (c : Conf) (m n : ℕ) → nat_le (m + read_timeout c) n ≡ true → m + read_timeout c ≤ n
unfolding read_timeout
due_so c m n e = le_so (m + read_timeout c) n e

so_due : (c : Conf) (m n : ℕ) → m + read_timeout c ≤ n → nat_le (m + read_timeout c) n ≡ true
unfolding read_timeout
so_due c m n le = so_le (m + read_timeout c) n le

abbrev request_or : Option Sending → ℕ
request_or None = 0
request_or (Some z) = z.request

abbrev moment_or : Option Sending → ℕ
moment_or None = 0
moment_or (Some z) = z.moment

abbrev server_or : Option Site → ℕ
server_or None = 0
server_or (Some z) = z.server

module _ (c : Conf) (x h end : History) (t : Point) (known : Known c x h end t) (p : ℕ) where
  answered : (k : ℕ) → some_answer_at p k t.comings.now ≡ true → Answered c p k x t.row.now.event.what h
  answered k e =
      let w = answer_so p k t.comings.now e in
      let z = w.coming in
      let is = came_so c x h end t known z w.there w.by_datagram in
      record {
        request = is.asked_as;
        server = z.server;
        id = z.id;
        message = z.message;
        comes = subst (λ (p : ℕ). Comes c is.asked_as Dgram z.server p k z.id z.message x t.row.now.event.what h) w.is_place (subst (λ (k : ℕ). Comes c is.asked_as Dgram z.server z.place k z.id z.message x t.row.now.event.what h) w.is_request is.comes);
        agrees = sym is.agreeing ∙ w.agrees;
      }

  was_answered : (k : ℕ) → Answered c p k x t.row.now.event.what h → some_answer_at p k t.comings.now ≡ true
  was_answered k w =
      so_answer p k (record { request = k; via = Dgram; server = w.server; place = p; id = w.id; message = w.message; agrees = answers w.request w.id w.message }) t.comings.now
      (so_came c x h end t known w.request w.server p k w.id w.message w.comes)
      (all (p == p) _ (own p) (all (k == k) _ (own k) w.agrees))

  ends : (k : ℕ) → replied k end ≡ (some_reply k t.row.now.outs || replied k x)
  ends k = ap (replied k) known.behind ∙ replied_by k t.row.now.outs (Came t.row.now.event ∷ x)

  past_is : (k : ℕ) → replied_seen k t.past.now.books.requests ≡ replied k x
  past_is k = known.past.books.requests.replies k

  here_so : (k : ℕ) → some_reply k t.row.now.outs ≡ true → replied_seen k t.past.now.books.requests ≡ false → RepliedHere k x end
  here_so k e none = record { now = ends k ∙ first_true _ _ e; not_before = sym (past_is k) ∙ none }

  so_here : (k : ℕ) → RepliedHere k x end → some_reply k t.row.now.outs ≡ true
  so_here k r = go (either (some_reply k t.row.now.outs) (replied k x) (sym (ends k) ∙ r.now))
    where
      go : (some_reply k t.row.now.outs ≡ true) ⊎ (replied k x ≡ true) → some_reply k t.row.now.outs ≡ true
      go (inl e) = e
      go (inr e) = absurd (let z = r.not_before in cc)

  begun_is : (k s : ℕ) → started_seen k s Dgram t.here.now.books.requests ≡ started k s Dgram h
  begun_is k s = ap is_some (known.here.books.requests.starts k s Dgram)

  -- a place at which something was sent
  sent_so : (k n : ℕ) → sending p h ≡ Some (record { request = k; moment = n }) → sent_closes c p t k n ≡ true → MayCloseDgram c p x t.row.now.event.what h end
  sent_so k n is e = go (either (some_answer_at p k t.comings.now) _ e)
    where
      last : (nat_le (n + read_timeout c) t.here.now.books.requests.clock ≡ true) ⊎ (replied_here k t.past.now.books.requests t.row.now.outs ≡ true) → MayCloseDgram c p x t.row.now.event.what h end
      last (inl e) = ItsTimeout (record { request = k; moment = n }) is (due_so c n (now h) (ap (nat_le (n + read_timeout c)) (sym known.here.books.requests.time) ∙ e))
      last (inr e) =
          let q = both (not (replied_seen k t.past.now.books.requests)) _ e in
          ItsReply (record { request = k; moment = n }) is (here_so k q.1 (not_true (replied_seen k t.past.now.books.requests) q.0))

      go : (some_answer_at p k t.comings.now ≡ true) ⊎ ((nat_le (n + read_timeout c) t.here.now.books.requests.clock || replied_here k t.past.now.books.requests t.row.now.outs) ≡ true) → MayCloseDgram c p x t.row.now.event.what h end
      go (inl e) = ItsAnswer (record { request = k; moment = n }) is (answered k e)
      go (inr e) = last (either (nat_le (n + read_timeout c) t.here.now.books.requests.clock) _ e)

  unsent_so : (s : ℕ) → site p h ≡ Some (record { via = Dgram; server = s }) → sending p h ≡ None → unsent_closes s t ≡ true → MayCloseDgram c p x t.row.now.event.what h end
  unsent_so s at none e = go (either (invalid_seen Dgram s t.timers.now.invalid) _ e)
    where
      go : (invalid_seen Dgram s t.timers.now.invalid ≡ true) ⊎ (some_reply_there s t.past.now.books.requests t.here.now.books.requests t.row.now.outs ≡ true) → MayCloseDgram c p x t.row.now.event.what h end
      go (inl e) =
          let i = known.timers.invalids.so Dgram s e in
          InvalidBeforeItsSend (record { via = Dgram; server = s }) at none i.request i.asking_of i.asked i.invalid i.begun
      go (inr e) =
          let r = there_so s t t.row.now.outs e in
          ReplyBeforeItsSend (record { via = Dgram; server = s }) at none r.request (sym (begun_is r.request s) ∙ r.has_it) (here_so r.request r.there r.none)

  by_so : (s : ℕ) → site p h ≡ Some (record { via = Dgram; server = s }) → (ys : List Sent) → sending p h ≡ last_of ys → by_sends c p s t ys ≡ true → MayCloseDgram c p x t.row.now.event.what h end
  by_so s at [] is e = unsent_so s at is e
  by_so s at (y ∷ ys) is e = sent_so y.request y.moment is e

  dgram_so : (s : ℕ) → site p h ≡ Some (record { via = Dgram; server = s }) → dgram_closes c p s t ≡ true → MayCloseDgram c p x t.row.now.event.what h end
  dgram_so s at e = go (either (told_seen p t.row.now.event.what) _ e)
    where
      go : (told_seen p t.row.now.event.what ≡ true) ⊎ (by_sends c p s t (listed p t.here.now.books.sends.sent) ≡ true) → MayCloseDgram c p x t.row.now.event.what h end
      go (inl e) = ItsFault (sym (told_is p t.row.now.event.what) ∙ e)
      go (inr e) = by_so s at (listed p t.here.now.books.sends.sent) (sym (known.here.books.sends.sendings p)) e

  -- and the other way
  sent_is : (z : Sending) (ys : List Sent) → sending p h ≡ last_of ys → sending p h ≡ Some z → (s : ℕ) → sent_closes c p t z.request z.moment ≡ true → by_sends c p s t ys ≡ true
  sent_is z [] is e s closes = absurd (let w : None ≡ Some z = sym is ∙ e in cc)
  sent_is z (y ∷ ys) is e s closes =
      let w : Some (record { request = y.request; moment = y.moment }) ≡ Some z = sym is ∙ e in
      let i : y.request ≡ z.request = ap request_or w in
      let j : y.moment ≡ z.moment = ap moment_or w in
      ap₂ (sent_closes c p t) i j ∙ closes

  none_is : (ys : List Sent) → sending p h ≡ last_of ys → sending p h ≡ None → (s : ℕ) → unsent_closes s t ≡ true → by_sends c p s t ys ≡ true
  none_is [] is e s closes = closes
  none_is (y ∷ ys) is e s closes = absurd (let w : None ≡ Some (record { request = y.request; moment = y.moment }) = sym e ∙ is in cc)

  so_dgram : (s : ℕ) → site p h ≡ Some (record { via = Dgram; server = s }) → MayCloseDgram c p x t.row.now.event.what h end → dgram_closes c p s t ≡ true
  so_dgram s at may = go may
    where
      is : sending p h ≡ last_of (listed p t.here.now.books.sends.sent)
      is = sym (known.here.books.sends.sendings p)

      behind : by_sends c p s t (listed p t.here.now.books.sends.sent) ≡ true → dgram_closes c p s t ≡ true
      behind e = second_true (told_seen p t.row.now.event.what) _ e

      server_is : (z : Site) → site p h ≡ Some z → z.server ≡ s
      server_is z e = ap server_or (sym e ∙ at)

      go : MayCloseDgram c p x t.row.now.event.what h end → dgram_closes c p s t ≡ true
      go (ItsFault e) = first_true (told_seen p t.row.now.event.what) _ (told_is p t.row.now.event.what ∙ e)
      go (ItsAnswer z e a) = behind (sent_is z (listed p t.here.now.books.sends.sent) is e s (first_true (some_answer_at p z.request t.comings.now) _ (was_answered z.request a)))
      go (ItsTimeout z e le) = behind (sent_is z (listed p t.here.now.books.sends.sent) is e s (second_true (some_answer_at p z.request t.comings.now) _ (first_true (nat_le (z.moment + read_timeout c) t.here.now.books.requests.clock) _ (ap (nat_le (z.moment + read_timeout c)) known.here.books.requests.time ∙ so_due c z.moment (now h) le))))
      go (ItsReply z e r) =
          behind (sent_is z (listed p t.here.now.books.sends.sent) is e s (second_true (some_answer_at p z.request t.comings.now) _ (second_true (nat_le (z.moment + read_timeout c) t.here.now.books.requests.clock) _
          (all (not (replied_seen z.request t.past.now.books.requests)) _ (ap not (past_is z.request ∙ r.not_before)) (so_here z.request r)))))
      go (ReplyBeforeItsSend z e none k begun r) =
          behind (none_is (listed p t.here.now.books.sends.sent) is none s (second_true (invalid_seen Dgram s t.timers.now.invalid) _
          (so_there s t k t.row.now.outs (so_here k r) (past_is k ∙ r.not_before) (begun_is k s ∙ subst (λ (s : ℕ). started k s Dgram h ≡ true) (server_is z e) begun))))
      go (InvalidBeforeItsSend z e none k a asked invalid begun) =
          behind (none_is (listed p t.here.now.books.sends.sent) is none s (first_true (invalid_seen Dgram s t.timers.now.invalid) _
          (known.timers.invalids.back Dgram s (record { request = k; asking_of = a; asked = asked; invalid = invalid; begun = subst (λ (s : ℕ). started k s Dgram h ≡ true) (server_is z e) begun }))))

-- of both kinds
is_sited : (v : Via) (s : ℕ) (o : Option Site) → is_site v s o ≡ true → o ≡ Some (record { via = v; server = s })
is_sited v s None e = absurd (cc)
is_sited v s (Some y) e =
    let q = both (same_via y.via v) (y.server == s) e in
    let i = same_kind y.via v q.0 in
    let j = same_number y.server s q.1 in
    ap₂ (λ (v : Via) (s : ℕ). Some (record { via = v; server = s })) i j

sited : (v : Via) (s p : ℕ) (h : History) → site p h ≡ Some (record { via = v; server = s }) → is_at v s p h ≡ true
sited v s p h e = ap (is_site v s) e ∙ all (same_via v v) (s == s) (own_kind v) (own s)

abbrev kind_or : Option Site → Via
kind_or None = Dgram
kind_or (Some z) = z.via

other_kind : (s u : ℕ) (o : Option Site) → is_site Dgram s o ≡ true → is_site Stream u o ≡ true → ⊥
other_kind s u o d e = (let w : Dgram ≡ Stream = ap kind_or (sym (is_sited Dgram s o d) ∙ is_sited Stream u o e) in cc)

module _ (p : ℕ) (t : Point) where
  pub tells_none : (b : Bool) → b ≡ false → entry_at p t.here.now.books.places ≡ None → TellsReason p t b
  tells_none b e none c x h end known = ((λ u. absurd (let z : false ≡ true = sym e ∙ u in cc)), go)
    where
      nowhere : (v : Via) (s : ℕ) → is_at v s p h ≡ true → ⊥
      nowhere v s at = (let z : is_site v s None ≡ true = ap (is_site v s) (sym (ap site_seen none) ∙ known.here.books.places.sites p) ∙ at in cc)

      go : MayClose c p x t.row.now.event.what h end → b ≡ true
      go (OfDgram s at m) = absurd (nowhere Dgram s at)
      go (OfStream s at m) = absurd (nowhere Stream s at)

  pub tells_dgram : (b : Bool) (y : Place) → entry_at p t.here.now.books.places ≡ Some y → y.via ≡ Dgram → b ≡ dgram_closes t.conf.now p y.server t → TellsReason p t b
  tells_dgram b y there v e c x h end known = ((λ u. OfDgram y.server (sited Dgram y.server p h at) (dgram_so c x h end t known p y.server at (sym closes ∙ u))), go)
    where
      closes : b ≡ dgram_closes c p y.server t
      closes = e ∙ ap (λ (v : Conf). dgram_closes v p y.server t) known.conf

      at : site p h ≡ Some (record { via = Dgram; server = y.server })
      at = sym (known.here.books.places.sites p) ∙ (ap site_seen there ∙ ap (λ (v : Via). Some (record { via = v; server = y.server })) v)

      go : MayClose c p x t.row.now.event.what h end → b ≡ true
      go (OfDgram s is m) = closes ∙ so_dgram c x h end t known p y.server at m
      go (OfStream s is m) = absurd (other_kind y.server s (site p h) (sited Dgram y.server p h at) is)

  pub tells_stream_reason : (b : Bool) (y : Place) → entry_at p t.here.now.books.places ≡ Some y → y.via ≡ Stream → TellsStreamClose p t b → TellsReason p t b
  tells_stream_reason b y there v tells c x h end known = ((λ u. OfStream y.server (sited Stream y.server p h at) ((tells c x h end known).0 u)), go)
    where
      at : site p h ≡ Some (record { via = Stream; server = y.server })
      at = sym (known.here.books.places.sites p) ∙ (ap site_seen there ∙ ap (λ (v : Via). Some (record { via = v; server = y.server })) v)

      go : MayClose c p x t.row.now.event.what h end → b ≡ true
      go (OfDgram s is m) = absurd (other_kind s y.server (site p h) is (sited Stream y.server p h at))
      go (OfStream s is m) = (tells c x h end known).1 m

-- with a server, at a place that was live
some_items : (us : List ServerUse) → not (length us == 0) ≡ true → 0 < length (map use_of us)
some_items [] e = absurd (cc)
some_items (u ∷ us) e = omega arith

items_some : (us : List ServerUse) → 0 < length (map use_of us) → not (length us == 0) ≡ true
items_some [] lt = absurd (omega arith)
items_some (u ∷ us) lt = ap not (some (length us))
  where
    some : (n : ℕ) → (suc n == 0) ≡ false
    some n = grind (arith, nat_tests)

module _ (c : Conf) (x h end : History) (t : Point) (known : Known c x h end t) where
  pub server_so : has_server_seen t ≡ true → HasServer c
  server_so e = subst (λ us. 0 < length us) (sym known.servers) (some_items t.servers.now e)

  pub so_server : HasServer c → has_server_seen t ≡ true
  so_server lt = items_some t.servers.now (subst (λ us. 0 < length us) known.servers lt)

  pub live_is : (p : ℕ) → (was_live_seen p t.past.now.books.places t.made.now ≡ true → WasLive p h) × (WasLive p h → was_live_seen p t.past.now.books.places t.made.now ≡ true)
  live_is p = ((λ e. live_so p e), (λ w. so_live p w))
    where
      live_so : (p : ℕ) → was_live_seen p t.past.now.books.places t.made.now ≡ true → WasLive p h
      live_so p e = ap is_live (sym (known.made.untold p)) ∙ e

      so_live : (p : ℕ) → WasLive p h → was_live_seen p t.past.now.books.places t.made.now ≡ true
      so_live p w = ap is_live (known.made.untold p) ∙ w

pub tells_close : (p : ℕ) (t : Point) (reason b : Bool) → TellsReason p t reason → b ≡ may_close p t reason → TellsClose p t b
tells_close p t reason b tells e c x h end known = (so, back)
  where
    so : b ≡ true → HasServer c × MayClose c p x t.row.now.event.what h end × WasLive p h
    so u =
        let q = both (has_server_seen t) _ (sym e ∙ u) in
        let r = both reason _ q.1 in
        (server_so c x h end t known q.0, (tells c x h end known).0 r.0, (live_is c x h end t known p).0 r.1)

    back : HasServer c × MayClose c p x t.row.now.event.what h end × WasLive p h → b ≡ true
    back f = e ∙ all (has_server_seen t) _ (so_server c x h end t known f.0) (all reason _ ((tells c x h end known).1 f.1) ((live_is c x h end t known p).1 f.2))
