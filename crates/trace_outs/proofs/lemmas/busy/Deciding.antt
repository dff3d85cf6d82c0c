-- Whether each valid request that waits is busy is what the definitions say.
use Rattle.std.proofs.Common.{◌≡◌, ℕ, ◌||◌, ◌⊎◌, inl, inr, not, Bool, true, false, [], ◌∷◌, map, Option, Some, None, cond, nat_cmp, is_eq, refl, sym, ap, ◌∙◌, subst, arith}
use Rattle.std.specs.Prelude.{is_some}
use Rattle.std.proofs.lemmas.Bool.Decides.{nat_tests}
use Rattle.number_table.specs.Entries.{entry_at}
use Rattle.client_request.specs.Request.{Request}
use Rattle.client_request.specs.declared.event.Via.{Via}
use Rattle.client_request.specs.declared.event.Via.TheVariants.{Dgram, Stream}
use Rattle.right_trace.specs.Trace.{History, Conf}
use Rattle.right_trace.specs.{Messages.is_valid, Exchanges.IsLeftOpen, Right.WaitingIsBusy}
use Rattle.right_trace.specs.Requests.{Asking, asking, replied, started, waits}
use Rattle.right_trace.specs.Busy.{IsBusyAt, IsBusy, Exchanging, PlaceIsOpening, PlacesAreTaken, StreamIsOpening, StreamIsWriting, BackingOff}
use Rattle.trace_tables.specs.{Lists.listed, Requests.start_of}
use Rattle.trace_points.specs.questions.Configured.{use_of}
use Rattle.trace_points.proofs.lemmas.questions.Deciding.{both, all, not_true}
use Rattle.trace_tables.specs.sets.Sets.{Members}
use Rattle.trace_outs.specs.declared.busy.busy.Scene.{Scene}
use Rattle.trace_outs.specs.busy.Waits.{is_valid_asking}
use Rattle.trace_outs.specs.busy.Busy.{Known, serves, some_serves, some_open, is_busy_as, busy_seen, all_busy, TellsBusy}
use Rattle.trace_outs.proofs.lemmas.busy.Opening.{either, first_true, second_true, some_so, so_some}
use Rattle.trace_outs.proofs.lemmas.busy.Serving.{serves_so, opens_so, taken_so, stream_so, writing_so, backing_so, start_so, so_start}

abbrev request_or : Request → Option Asking → Request
request_or r None = r
request_or r (Some a) = a.request

module _ (c : Conf) (end : History) (t : Scene) (servers : c.servers ≡ map use_of t.servers.now) (known : Known c end t) where
  module _ (k : ℕ) (a : Asking) (asked : asking k end ≡ Some a) (waiting : replied k end ≡ false) where
    begun_so : (s : ℕ) (v : Via) → is_some (start_of s v (listed k t.ledger.now.books.requests.starts)) ≡ true → started k s v end ≡ true
    begun_so s v e = ap is_some (sym (known.ledger.books.requests.starts k s v)) ∙ e

    so_begun : (s : ℕ) (v : Via) → started k s v end ≡ true → is_some (start_of s v (listed k t.ledger.now.books.requests.starts)) ≡ true
    so_begun s v e = ap is_some (known.ledger.books.requests.starts k s v) ∙ e

    seen_is : busy_seen c t k ≡ (some_open c a.request k (listed k t.waits.now.spots) t || some_serves c k (listed k t.ledger.now.books.requests.starts) t)
    seen_is = ap (λ o. is_busy_as c k o t) (known.ledger.books.requests.askings k ∙ asked)

    busy_so : busy_seen c t k ≡ true → IsBusy c k end
    busy_so e = go (either (some_open c a.request k (listed k t.waits.now.spots) t) _ (sym seen_is ∙ e))
      where
        go : (some_open c a.request k (listed k t.waits.now.spots) t ≡ true) ⊎ (some_serves c k (listed k t.ledger.now.books.requests.starts) t ≡ true) → IsBusy c k end
        go (inl e) = some_so c end t servers known k a.moment a.request asked waiting (listed k t.waits.now.spots) e
        go (inr e) = (let f = start_so c k (listed k t.ledger.now.books.requests.starts) t e in (f.0, serves_so c end t known k f.1.0 f.0 (begun_so f.0 f.1.0 f.1.1.0) f.1.1.1))

    served : (s : ℕ) (v : Via) → started k s v end ≡ true → serves c v s k t ≡ true → busy_seen c t k ≡ true
    served s v begun e = seen_is ∙ second_true (some_open c a.request k (listed k t.waits.now.spots) t) _ (so_start c s k v (listed k t.ledger.now.books.requests.starts) t (so_begun s v begun) e)

    so_busy : (s : ℕ) → IsBusyAt c s k end → busy_seen c t k ≡ true
    so_busy s (Exchanging r v u p id begun left) =
        let same : r ≡ a.request = sym (ap (request_or r) (sym asked ∙ left.stands.asked.1)) in
        seen_is
        ∙ first_true _ _
        (so_some c end t servers known k a.moment a.request asked waiting v u s p id begun (subst (λ (r : Request). IsLeftOpen c r v s p k id end) same left))
    so_busy s (PlaceIsOpening p begun at st) = served s Dgram begun (opens_so c end t known k s p at st)
    so_busy s (PlacesAreTaken begun le) = served s Dgram begun (taken_so c end t known k s le)
    so_busy s (StreamIsOpening p begun at st) = served s Stream begun (stream_so c end t known k s p at st)
    so_busy s (StreamIsWriting p begun at st un) = served s Stream begun (writing_so c end t known k s p at st un)
    so_busy s (BackingOff begun e) = served s Stream begun (backing_so c end t known k s e)

  -- of all that wait
  in_all : (es : Members) → all_busy c t es ≡ true → (k : ℕ) → is_some (entry_at k es) ≡ true → busy_seen c t k ≡ true
  in_all [] e k i = absurd (cc)
  in_all (d ∷ es) e k i = (let q = both (busy_seen c t d.0) _ e in go q.0 (in_all es q.1 k) (is_eq (nat_cmp k d.0)) refl i)
    where
      same : (k x : ℕ) → is_eq (nat_cmp k x) ≡ true → x ≡ k
      same k x h = grind (arith, nat_tests)

      go : busy_seen c t d.0 ≡ true → (is_some (entry_at k es) ≡ true → busy_seen c t k ≡ true) → (b : Bool) → is_eq (nat_cmp k d.0) ≡ b → is_some (cond b (Some d.1) (entry_at k es)) ≡ true → busy_seen c t k ≡ true
      go here rest true j i = subst (λ (k : ℕ). busy_seen c t k ≡ true) (same k d.0 j) here
      go here rest false j i = rest i

  all_in : (es : Members) → ((k : ℕ) → is_some (entry_at k es) ≡ true → busy_seen c t k ≡ true) → all_busy c t es ≡ true
  all_in [] f = refl
  all_in (d ∷ es) f = all (busy_seen c t d.0) _ (f d.0 (ap (λ b. is_some (cond b (Some d.1) (entry_at d.0 es))) (equal d.0))) (all_in es (λ k i. f k (more k (is_eq (nat_cmp k d.0)) i)))
    where
      equal : (a : ℕ) → is_eq (nat_cmp a a) ≡ true
      equal a = grind (arith, nat_tests)

      more : (k : ℕ) (b : Bool) → is_some (entry_at k es) ≡ true → is_some (cond b (Some d.1) (entry_at k es)) ≡ true
      more k true i = refl
      more k false i = i

  asked_by : (o : Option Asking) → is_valid_asking o ≡ true → (a : Asking) × (o ≡ Some a) × (is_valid a.request ≡ true)
  asked_by None e = absurd (cc)
  asked_by (Some a) e = (a, refl, e)

  all_so : all_busy c t t.waits.now.requests ≡ true → WaitingIsBusy c end
  all_so e k a asked valid w =
      busy_so k a asked (not_true (replied k end) (both (is_some (asking k end)) (not (replied k end)) w).1)
      (in_all t.waits.now.requests e k (known.waits.requests k ∙ all (waits k end) (is_valid_asking (asking k end)) w (ap is_valid_asking asked ∙ valid)))

  so_all : WaitingIsBusy c end → all_busy c t t.waits.now.requests ≡ true
  so_all f = all_in t.waits.now.requests (λ k i.
      let q = both (waits k end) (is_valid_asking (asking k end)) (sym (known.waits.requests k) ∙ i) in
      let a = asked_by (asking k end) q.1 in
      let b = f k a.0 a.1 a.2 q.0 in
      so_busy k a.0 a.1 (not_true (replied k end) (both (is_some (asking k end)) (not (replied k end)) q.0).1) b.0 b.1)

pub tells_busy : (t : Scene) (b : Bool) → b ≡ all_busy t.conf.now t t.waits.now.requests → TellsBusy t b
tells_busy t b e c end conf servers known = ((λ u. all_so c end t servers known (sym is ∙ u)), (λ f. is ∙ so_all c end t servers known f))
  where
    is : b ≡ all_busy c t t.waits.now.requests
    is = e ∙ ap (λ (v : Conf). all_busy v t t.waits.now.requests) conf
