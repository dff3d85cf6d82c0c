-- Whether a request may be handed to a server is what the definitions say.
use Rattle.std.proofs.Common.{◌≡◌, ℕ, zero, suc, ◌<◌, ◌==◌, ◌&&◌, ◌||◌, ◌⊎◌, inl, inr, not, Bool, true, false, List, [], ◌∷◌, map, length, Option, Some, None, refl, sym, ap, ◌∙◌, subst, arith}
use Rattle.std.specs.Prelude.{is_some, slice_get, option_map}
use Rattle.number_table.specs.Entries.{entry_at}
use Rattle.client_request.specs.Request.{Request}
use Rattle.client_request.specs.declared.event.Via.{Via}
use Rattle.client_request.specs.declared.event.Via.TheVariants.{Dgram, Stream}
use Rattle.dns_base.specs.Header.{tc_of}
use Rattle.right_trace.specs.Trace.{History, Conf, Use, ByDatagrams, ByStreams}
use Rattle.right_trace.specs.Messages.{answers, truncated}
use Rattle.right_trace.specs.Requests.{Asking, asking, same_via, started}
use Rattle.right_trace.specs.{Parts.IsIn, Exchanges.Comes}
use Rattle.right_trace.specs.Orderly.{use_at, CutAnswerCame, MayStart, FirstDatagram, FirstStream, AfterCutAnswer}
use Rattle.right_trace.specs.Right.{HasServer, IsAsked}
use Rattle.trace_tables.specs.Requests.{started_seen}
use Rattle.trace_points.specs.declared.questions.configured.ServerUse.{ServerUse}
use Rattle.trace_points.specs.declared.questions.configured.ServerUse.TheVariants as uses
use Rattle.trace_points.specs.questions.Configured.{use_of}
use Rattle.trace_points.proofs.lemmas.questions.Deciding.{both, all, not_true}
use Rattle.trace_points.specs.declared.exchanges.coming.Coming.{Coming}
use Rattle.trace_outs.specs.declared.reasons.point.Point.{Point}
use Rattle.trace_outs.specs.reasons.Point.{Known}
use Rattle.trace_outs.specs.reasons.Starting.{by_datagrams, by_streams, is_cut_answer, some_cut_answer, is_used_for, start_seen, StartIsRight, TellsStart}
use Rattle.trace_outs.proofs.lemmas.reasons.Telling.{same_number, own, either, first_true, second_true, same_kind, came_so, so_came}

-- how a server is used
use_is : (s : ℕ) (us : List ServerUse) → use_at s (map use_of us) ≡ option_map use_of (slice_get us s)
use_is s [] = refl
use_is zero (u ∷ us) = refl
use_is (suc s) (u ∷ us) = use_is s us

datagrams_so : (o : Option ServerUse) → by_datagrams o ≡ true → option_map use_of o ≡ Some ByDatagrams
datagrams_so None e = absurd (cc)
datagrams_so (Some uses.Datagrams) e = refl
datagrams_so (Some uses.Streams) e = absurd (cc)

so_datagrams : (o : Option ServerUse) → option_map use_of o ≡ Some ByDatagrams → by_datagrams o ≡ true
so_datagrams None e = absurd (cc)
so_datagrams (Some uses.Datagrams) e = refl
so_datagrams (Some uses.Streams) e = absurd (cc)

streams_so : (o : Option ServerUse) → by_streams o ≡ true → option_map use_of o ≡ Some ByStreams
streams_so None e = absurd (cc)
streams_so (Some uses.Datagrams) e = absurd (cc)
streams_so (Some uses.Streams) e = refl

so_streams : (o : Option ServerUse) → option_map use_of o ≡ Some ByStreams → by_streams o ≡ true
so_streams None e = absurd (cc)
so_streams (Some uses.Datagrams) e = absurd (cc)
so_streams (Some uses.Streams) e = refl

some_server : (s : ℕ) (us : List Use) (u : Use) → use_at s us ≡ Some u → 0 < length us
some_server s [] u e = absurd (cc)
some_server s (x ∷ us) u e = omega arith

-- truncated answers
record CutIn (k s : ℕ) (xs : List Coming) : Type 0 where
  coming : Coming
  there : IsIn coming xs
  by_datagram : coming.via ≡ Dgram
  is_request : coming.request ≡ k
  is_server : coming.server ≡ s
  agrees : coming.agrees ≡ true
  cut : tc_of coming.message ≡ true

cut_so : (k s : ℕ) (xs : List Coming) → some_cut_answer k s xs ≡ true → CutIn k s xs
cut_so k s [] e = absurd (cc)
cut_so k s (x ∷ xs) e = go (cut_so k s xs) (either (is_cut_answer k s x) (some_cut_answer k s xs) e)
  where
    go : (some_cut_answer k s xs ≡ true → CutIn k s xs) → (is_cut_answer k s x ≡ true) ⊎ (some_cut_answer k s xs ≡ true) → CutIn k s (x ∷ xs)
    go rest (inl e) =
        let q = both (x.request == k) _ e in
        let r = both (same_via x.via Dgram) _ q.1 in
        let u = both (x.server == s) _ r.1 in
        let v = both x.agrees (tc_of x.message) u.1 in
        record { coming = x; there = inl refl; by_datagram = same_kind x.via Dgram r.0; is_request = same_number x.request k q.0; is_server = same_number x.server s u.0; agrees = v.0; cut = v.1 }
    go rest (inr e) =
        let w = rest e in
        record { coming = w.coming; there = inr w.there; by_datagram = w.by_datagram; is_request = w.is_request; is_server = w.is_server; agrees = w.agrees; cut = w.cut }

so_cut : (k s : ℕ) (z : Coming) (xs : List Coming) → IsIn z xs → is_cut_answer k s z ≡ true → some_cut_answer k s xs ≡ true
so_cut k s z [] i e = absurd i
so_cut k s z (x ∷ xs) (inl q) e = first_true _ _ (ap (is_cut_answer k s) q ∙ e)
so_cut k s z (x ∷ xs) (inr i) e = second_true _ _ (so_cut k s z xs i e)

some_is : {A : Type 0} (o : Option A) → is_some o ≡ true → (a : A) × (o ≡ Some a)
some_is None e = absurd (cc)
some_is (Some a) e = (a, refl)

module _ (c : Conf) (x h end : History) (t : Point) (known : Known c x h end t) (k s : ℕ) where
  cut_came : some_cut_answer k s t.comings.now ≡ true → CutAnswerCame c k s x t.row.now.event.what h
  unfolding truncated
  cut_came e =
      let w = cut_so k s t.comings.now e in
      let z = w.coming in
      let is = came_so c x h end t known z w.there w.by_datagram in
      record {
        request = is.asked_as;
        place = z.place;
        id = z.id;
        message = z.message;
        comes = subst (λ (s : ℕ). Comes c is.asked_as Dgram s z.place k z.id z.message x t.row.now.event.what h) w.is_server (subst (λ (k : ℕ). Comes c is.asked_as Dgram z.server z.place k z.id z.message x t.row.now.event.what h) w.is_request is.comes);
        agrees = sym is.agreeing ∙ w.agrees;
        cut = w.cut;
      }

  came_cut : CutAnswerCame c k s x t.row.now.event.what h → some_cut_answer k s t.comings.now ≡ true
  unfolding truncated
  came_cut w =
      so_cut k s (record { request = k; via = Dgram; server = s; place = w.place; id = w.id; message = w.message; agrees = answers w.request w.id w.message }) t.comings.now
      (so_came c x h end t known w.request s w.place k w.id w.message w.comes)
      (all (k == k) _ (own k) (all (s == s) _ (own s) (all (answers w.request w.id w.message) (tc_of w.message) w.agrees w.cut)))

  used : use_at s c.servers ≡ option_map use_of (slice_get t.servers.now s)
  used = ap (use_at s) known.servers ∙ use_is s t.servers.now

  begun_is : (v : Via) → started_seen k s v t.here.now.books.requests ≡ started k s v h
  begun_is v = ap is_some (known.here.books.requests.starts k s v)

  may_so : (v : Via) → started k s v h ≡ false → is_used_for k s v t.servers.now t.comings.now ≡ true → MayStart c k s x t.row.now.event.what h v
  may_so Dgram un e = FirstDatagram (used ∙ datagrams_so (slice_get t.servers.now s) e) un
  may_so Stream un e = go (either (by_streams (slice_get t.servers.now s)) _ e)
    where
      go : (by_streams (slice_get t.servers.now s) ≡ true) ⊎ ((by_datagrams (slice_get t.servers.now s) && some_cut_answer k s t.comings.now) ≡ true) → MayStart c k s x t.row.now.event.what h Stream
      go (inl e) = FirstStream (used ∙ streams_so (slice_get t.servers.now s) e) un
      go (inr e) = (let q = both (by_datagrams (slice_get t.servers.now s)) _ e in AfterCutAnswer (used ∙ datagrams_so (slice_get t.servers.now s) q.0) un (cut_came q.1))

  server_there : (v : Via) → MayStart c k s x t.row.now.event.what h v → HasServer c
  server_there _ (FirstDatagram e un) = some_server s c.servers ByDatagrams e
  server_there _ (FirstStream e un) = some_server s c.servers ByStreams e
  server_there _ (AfterCutAnswer e un w) = some_server s c.servers ByDatagrams e

  unbegun : (v : Via) → MayStart c k s x t.row.now.event.what h v → started k s v h ≡ false
  unbegun _ (FirstDatagram e un) = un
  unbegun _ (FirstStream e un) = un
  unbegun _ (AfterCutAnswer e un w) = un

  so_may : (v : Via) → MayStart c k s x t.row.now.event.what h v → is_used_for k s v t.servers.now t.comings.now ≡ true
  so_may _ (FirstDatagram e un) = so_datagrams (slice_get t.servers.now s) (sym used ∙ e)
  so_may _ (FirstStream e un) = first_true _ _ (so_streams (slice_get t.servers.now s) (sym used ∙ e))
  so_may _ (AfterCutAnswer e un w) = second_true (by_streams (slice_get t.servers.now s)) _ (all (by_datagrams (slice_get t.servers.now s)) _ (so_datagrams (slice_get t.servers.now s) (sym used ∙ e)) (came_cut w))

  start_so : (v : Via) → start_seen k s v t ≡ true → StartIsRight c k s v x t.row.now.event.what h
  start_so v e =
      let q = both (is_some (entry_at k t.here.now.books.requests.askings)) _ e in
      let r = both (not (started_seen k s v t.here.now.books.requests)) _ q.1 in
      let a = some_is (entry_at k t.here.now.books.requests.askings) q.0 in
      let may = may_so v (sym (begun_is v) ∙ not_true (started_seen k s v t.here.now.books.requests) r.0) r.1 in
      (server_there v may, may, (a.0, sym (known.here.books.requests.askings k) ∙ a.1))

  so_start : (v : Via) → StartIsRight c k s v x t.row.now.event.what h → start_seen k s v t ≡ true
  so_start v f =
      all (is_some (entry_at k t.here.now.books.requests.askings)) _ (ap is_some (known.here.books.requests.askings k ∙ f.2.1))
      (all (not (started_seen k s v t.here.now.books.requests)) _ (ap not (begun_is v ∙ unbegun v f.1)) (so_may v f.1))

pub tells_start : (k s : ℕ) (v : Via) (t : Point) (b : Bool) → b ≡ start_seen k s v t → TellsStart k s v t b
tells_start k s v t b e c x h end known = ((λ u. start_so c x h end t known k s v (sym e ∙ u)), (λ f. e ∙ so_start c x h end t known k s v f))
