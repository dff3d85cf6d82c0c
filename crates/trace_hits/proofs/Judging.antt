-- What is told of a row is whether it hits.
use Rattle.std.proofs.Common.{◌≡◌, ℕ, suc, ◌+◌, ◌-◌, ◌*◌, ◌<◌, ◌≤◌, ◌==◌, ◌&&◌, max, Bool, true, false, Option, Some, None, List, ◌∷◌, refl, sym, ap, ap₂, ◌∙◌, subst, arith}
use Rattle.std.specs.Prelude.{if◌then◌else◌, nat_le, nat_lt, not, is_ok, Result, Ok, Err}
use Rattle.std.proofs.lemmas.Bool.Decides.{nat_tests}
use Rattle.number_table.specs.Entries.{entry_at}
use Rattle.dns_base.specs.{Data.Data, OptRecord.opt_rcode}
use Rattle.client_request.specs.{Request.Request, Composed.composed}
use Rattle.client_request.specs.declared.error.Error.{Error}
use Rattle.client_request.specs.declared.event.{What.What, What.TheVariants.Ask, Out.TheVariants.Stale, Row.Row, Via.Via}
use Rattle.client_settings.specs.Settings.{CacheSettings}
use Rattle.right_trace.specs.Trace.{History, Conf, Came, after}
use Rattle.right_trace.specs.Time.{now, Ever}
use Rattle.right_trace.specs.{Messages.Octets, Settings.Settings, Validity.validity_of_message, Views.tells_of_name, Replies.IsFreshReply}
use Rattle.right_trace.specs.Requests.{Asking, asks, asking, is_ask, is_asked_here, start, handed}
use Rattle.right_trace.specs.Keys.{Key, key_of, is_cacheable}
use Rattle.right_trace.specs.Parts.{Parts, known_parts}
use Rattle.right_trace.specs.Right.{Among, RowRight}
use Rattle.right_trace.specs.Hit.{asks_since, replies_since, other_replies, AllAreViews, IsHit, Views, Hits}
use Rattle.right_trace.specs.StaleServed.{ServesStale}
use Rattle.right_trace.proofs.Valid.{valid_is_known}
use Rattle.cache_rules.specs.Validity.{cached_by}
use Rattle.cache_rules.proofs.Saying.{what_is_known}
use Rattle.trace_tables.specs.Requests as requests
use Rattle.trace_points.proofs.lemmas.questions.Deciding.{both, all, not_true}
use Rattle.trace_hits.specs.declared.course.Course.{Course}
use Rattle.trace_hits.specs.declared.failures.Failures.{Failures}
use Rattle.trace_hits.specs.declared.kept.Kept.{Kept}
use Rattle.trace_hits.specs.declared.point.Point.{Point}
use Rattle.trace_hits.specs.declared.question.Question.{Question}
use Rattle.trace_hits.specs.{Question.IsAsked, Point.replies_in, Replies.kept_of, Rows.IsAnswer, Failures.first_failure}
use Rattle.trace_hits.specs.Point as point
use Rattle.trace_hits.specs.Outs.{reply_to, others, is_handed, has_mark, all_spare}
use Rattle.trace_hits.specs.Known.{HasCache, BehindRight, IsKept, IsThere, Known}
use Rattle.trace_hits.specs.Row.{room_of, age_of, is_few, must_hit, TellsViewed, misses, MissesBy}
use Rattle.trace_hits.specs.Serving.{must_serve, fails_in_time, is_unserved, is_unserved_by, KnowFailures}
use Rattle.trace_hits.proofs.Among.{others_are, reply_among, among_reply, marked_among, among_marked, none_handed, some_handed, not_handed, handed_none}
use Rattle.trace_hits.proofs.Behind.{clash, ever_replied, next_unasked, next_unreplied}
use Rattle.trace_hits.proofs.Never.{IsLater, fails_then, never_then}
use Rattle.trace_hits.proofs.Keeping.{same_asking, is_read}
use Rattle.trace_hits.proofs.Points as points
use Rattle.trace_hits.proofs.Sparing.{Stands, AreSpared, all_views, are_spared}

-- the response code of a message is that of its parts
code_of : (m : Octets) (y : Parts Data) → known_parts m ≡ Some y → y.code ≡ opt_rcode m
code_of m y known = let k = what_is_known m y known in sym (ap (λ (p : Parts Data). p.code) k.parts_are)

same_ask : (r q : Request) → Path What (Ask r) (Ask q) → r ≡ q
same_ask r q e = cc

-- ---- a row of which nothing is asked

-- no row hits or misses of which the event is no asking
pub no_asking : (c : Conf) (s : Settings) (max : ℕ) (x : History) (row : Row) → ((r : Request) → row.event.what ≡ Ask r → ⊥) → IsAnswer (Hits c s composed max x row) false
no_asking c s max x row none = record { missed = λ e. absurd (cc); held = λ e q r j t moment n age m o what. absurd (none r what) }

-- nor one whose request's results are not kept
pub no_question : (c : Conf) (s : Settings) (max : ℕ) (x : History) (row : Row) (r : Request) → row.event.what ≡ Ask r → is_cacheable r ≡ false → IsAnswer (Hits c s composed max x row) false
no_question c s max x row r what none = record {
  missed = λ e. absurd (cc);
  held = λ e q r' j t moment n age m o what' asked got valid above first second. clash (is_cacheable r') second (ap is_cacheable (same_ask r' r (sym what' ∙ what)) ∙ none);
}

-- and nor is anything owed of what has expired
pub no_asking_stale : (c : Conf) (s : Settings) (max : ℕ) (x : History) (row : Row) (rows : List Row) → ((r : Request) → row.event.what ≡ Ask r → ⊥) → IsAnswer (ServesStale c s max x row rows) false
no_asking_stale c s max x row rows none = record { missed = λ e. absurd (cc); held = λ e q r j t moment n m y what. absurd (none r what) }

pub no_question_stale : (c : Conf) (s : Settings) (max : ℕ) (x : History) (row : Row) (rows : List Row) (r : Request) → row.event.what ≡ Ask r → is_cacheable r ≡ false → IsAnswer (ServesStale c s max x row rows) false
no_question_stale c s max x row rows r what none = record {
  missed = λ e. absurd (cc);
  held = λ e q r' j t moment n m y what' asked got valid above known tells first second. clash (is_cacheable r') second (ap is_cacheable (same_ask r' r (sym what' ∙ what)) ∙ none);
}

-- ---- a row of which something is

module _ (c : Conf) (s : Settings) (x : History) (row : Row) (r : Request) (old : Course) (behind : BehindRight x) (is : Known c s x old) (right : RowRight c s x row) (what : row.event.what ≡ Ask r) where
  abbrev here : History
  here = Came row.event ∷ x

  abbrev p : Point
  p = point.met row.event old.point

  known_here : point.Known here p
  known_here = points.known_met row.event x old.point is.point

  kr : requests.Known here p.requests
  kr = known_here.requests

  abbrev number : ℕ
  number = p.requests.asked - 1

  number_is : number ≡ asks x
  number_is = less p.requests.asked (asks x) (kr.count ∙ ap (λ w. if is_ask w then suc (asks x) else asks x) what)
    where
      less : (a n : ℕ) → a ≡ suc n → a - 1 ≡ n
      less a n e = omega arith

  stands : Stands p.requests.askings None here
  stands = record { asked = kr.askings; marks = λ j. refl }

  only_here : (i : ℕ) → is_asked_here i here ≡ true → (i == asks x) ≡ true
  only_here i e = turned (asks x) i (both (is_ask row.event.what) (asks x == i) e).1
    where
      turned : (a b : ℕ) → (a == b) ≡ true → (b == a) ≡ true
      turned a b e = grind (arith, nat_tests)

  -- nothing was handed to a server before its asking
  unstarted : (t : ℕ) (v : Via) → start (asks x) t v here ≡ None
  unstarted t v = let f = behind.first in f.unstarted (asks x) t v (next_unasked x)

  -- what every reply that is to be given again leads to
  module _ (q : Request) (j t moment n : ℕ) (m : Octets) (asked : asking j x ≡ Some (record { request = q; moment = t })) (got : Ever (IsFreshReply c s j m moment) x) (valid : validity_of_message s m ≡ Some n) (above : 0 < n)
      (first : is_cacheable q ≡ true) (key : key_of r ≡ key_of q) (views : AllAreViews q m j moment (asks x) (after row x)) where
    pub spared : (its : Key) → its ≡ key_of q → AreSpared p.requests.askings its (asks x) None row.outs q m j moment here
    spared its same = are_spared c s x row.event.what (after row x) p.requests.askings q m j moment its same (asks x) row.outs None here stands only_here right.outs (ever_replied c s j moment m x got) views

    pub there : IsThere j m moment (kept_of (key_of q) old.replies)
    there = is.back q j t moment n (asks x) m asked got valid above first (next_unreplied x behind) ((spared (key_of q) refl).views)

  -- nothing is kept under its key
  pub none_kept : (max : ℕ) → kept_of (key_of r) old.replies ≡ None → IsAnswer (Hits c s composed max x row) false
  none_kept max none = record {
    missed = λ e. absurd (cc);
    held = λ e q r' j t moment n age m o what' asked got valid above first second key comp is_age young views few. (
        let same = same_ask r' r (sym what' ∙ what) in
        let key' : key_of r ≡ key_of q = ap key_of (sym same) ∙ key in
        absurd (subst (IsThere j m moment) (ap (λ k. kept_of k old.replies) (sym key') ∙ none) (there q j t moment n m asked got valid above first key' views)));
  }

  pub none_kept_stale : (max : ℕ) (rows : List Row) → kept_of (key_of r) old.replies ≡ None → IsAnswer (ServesStale c s max x row rows) false
  none_kept_stale max rows none = record {
    missed = λ e. absurd (cc);
    held = λ e q r' j t moment n m y what' asked got valid above known tells first second key expired views few. (
        let same = same_ask r' r (sym what' ∙ what) in
        let key' : key_of r ≡ key_of q = ap key_of (sym same) ∙ key in
        absurd (subst (IsThere j m moment) (ap (λ k. kept_of k old.replies) (sym key') ∙ none) (there q j t moment n m asked got valid above first key' views)));
  }

  -- a reply is
  module _ (cache : CacheSettings) (its : Question) (asks_it : IsAsked r its) (e : Kept) (kept : kept_of its.key old.replies ≡ Some e) where
    q : IsKept c s its.key e x
    q = is.so its.key e kept

    abbrev age : ℕ
    age = age_of p e

    age_is : e.moment + age ≡ now here
    age_is = sum e.moment p.requests.clock (now here) (now x) kr.time q.past (grows row.event.moment.0 (now x))
      where
        sum : (m l n o : ℕ) → l ≡ n → m ≤ o → o ≤ n → m + (l - m) ≡ n
        sum m l n o e le up = omega arith

        grows : (a b : ℕ) → b ≤ max a b
        grows a b = omega arith

    le_of : (a b : ℕ) → nat_le a b ≡ true → a ≤ b
    le_of a b e = grind (arith, nat_tests)

    of_le : (a b : ℕ) → a ≤ b → nat_le a b ≡ true
    of_le a b le = grind (arith, nat_tests)

    lt_of : (a b : ℕ) → nat_lt a b ≡ true → a < b
    lt_of a b e = grind (arith, nat_tests)

    of_lt : (a b : ℕ) → a < b → nat_lt a b ≡ true
    of_lt a b lt = grind (arith, nat_tests)

    -- what came between, as it is counted
    counted : (k : ℕ) → k ≡ asks x → 3 * (k - e.asked) + ((p.replied - e.replied) + others k row.outs) ≡ 3 * asks_since e.request x + (replies_since e.request x + other_replies (asks x) row.outs)
    counted k same = sums k e.asked (asks_since e.request x) (asks x) p.replied e.replied (replies_since e.request x) (replies_in x) (others k row.outs) (other_replies (asks x) row.outs) same q.asks known_here.replied q.replies (others_are k row.outs ∙ ap (λ k. other_replies k row.outs) same)
      where
        sums : (k a d n r b f l u v : ℕ) → k ≡ n → a + d ≡ n → r ≡ l → b + f ≡ l → u ≡ v → 3 * (k - a) + ((r - b) + u) ≡ 3 * d + (f + v)
        sums k a d n r b f l u v e g h i j = omega arith

    known : (y : Parts Data) × (known_parts e.message ≡ Some y)
    known = is_read (known_parts e.message) (valid_is_known s e.message e.validity q.validity q.above)

    ok_of : (o : Result Octets Error) → is_ok o ≡ true → (y : Octets) × (o ≡ Ok y)
    ok_of (Ok y) e = (y, refl)
    ok_of (Err d) e = absurd (cc)

    same_key : key_of r ≡ key_of q.asked_as.request
    same_key = sym asks_it.key ∙ sym q.key

    same_number_of : (o : Option ℕ) (a b : ℕ) → o ≡ Some a → o ≡ Some b → a ≡ b
    same_number_of o a b f g = let z : Some a ≡ Some b = sym f ∙ g in cc

    then_so : (a b d : Bool) → (a && b) ≡ d → a ≡ true → b ≡ d
    then_so true b d e f = e
    then_so false b d e f = absurd (cc)

    -- a reply of which something is owed is this
    module _ (first : Request) (j t moment n : ℕ) (m : Octets) (asked : asking j x ≡ Some (record { request = first; moment = t })) (got : Ever (IsFreshReply c s j m moment) x) (valid : validity_of_message s m ≡ Some n) (above : 0 < n)
        (cacheable : is_cacheable first ≡ true) (key : key_of r ≡ key_of first) (views : AllAreViews first m j moment (asks x) (after row x))
        (few : 3 * asks_since j x + (replies_since j x + other_replies (asks x) row.outs) < room_of cache) where
      its_key : its.key ≡ key_of first
      its_key = asks_it.key ∙ key

      it_is : IsThere j m moment (Some e)
      it_is = subst (IsThere j m moment) (ap (λ k. kept_of k old.replies) (sym its_key) ∙ kept) (there first j t moment n m asked got valid above cacheable key views)

      validity_is : e.validity ≡ n
      validity_is = same_number_of (validity_of_message s m) e.validity n (sym (ap (validity_of_message s) it_is.1) ∙ q.validity) valid

      few_is : is_few cache p e number row.outs ≡ true
      few_is = of_lt _ (room_of cache) (subst (λ n. n < room_of cache) (sym (counted number number_is)) (subst (λ j. 3 * asks_since j x + (replies_since j x + other_replies (asks x) row.outs) < room_of cache) (sym it_is.0) few))

      spare_is : all_spare p.requests.askings its.key number None row.outs ≡ true
      spare_is = subst (λ k. all_spare p.requests.askings its.key k None row.outs ≡ true) (sym number_is) ((spared first j t moment n m asked got valid above cacheable key views its.key its_key).spare)

      first_is : q.asked_as.request ≡ first
      first_is = ap (λ (a : Asking). a.request) (same_asking (asking j x) q.asked_as (record { request = first; moment = t }) (ap (λ j. asking j x) (sym it_is.0) ∙ q.asked) asked)

    -- what is owed where few came between, and all of them spared it
    record Between : Type 0 where
      few : 3 * asks_since e.request x + (replies_since e.request x + other_replies (asks x) row.outs) < room_of cache
      views : AllAreViews q.asked_as.request e.message e.request e.moment (asks x) (after row x)

    between : (is_few cache p e number row.outs && all_spare p.requests.askings its.key number None row.outs) ≡ true → Between
    between holds =
        let d = both (is_few cache p e number row.outs) (all_spare p.requests.askings its.key number None row.outs) holds in
        record {
          few = subst (λ n. n < room_of cache) (counted number number_is) (lt_of _ (room_of cache) d.0);
          views = all_views p.requests.askings q.asked_as.request e.message e.moment its.key (sym q.key) (asks x) e.request row.outs None here stands
              (subst (λ k. all_spare p.requests.askings its.key k None row.outs ≡ true) number_is d.1) (q.views (asks x) (next_unreplied x behind));
        }

    -- ---- a hit

    abbrev must : Bool
    must = must_hit cache p e its.key r number row.outs

    -- it is told whether the reply is a view
    module _ (b viewed : Bool) (tells : TellsViewed its age e.message (reply_to number row.outs) viewed) where
      viewed_is : TellsViewed its age e.message (reply_to (asks x) row.outs) viewed
      viewed_is = subst (λ k. TellsViewed its age e.message (reply_to k row.outs) viewed) number_is tells

      hit_viewed : IsHit q.asked_as.request r e.message age (asks x) row.outs → viewed ≡ true
      hit_viewed (Views y o is_known says among) =
          let told = subst (λ o. TellsViewed its age e.message o viewed) (among_reply c s x row.event.what (after row x) (asks x) (Ok o) row.outs here right.outs among) viewed_is in
          (told r asks_it q.asked_as.request y (sym same_key) is_known).1 says

      viewed_hit : viewed ≡ true → IsHit q.asked_as.request r e.message age (asks x) row.outs
      viewed_hit holds = go (reply_to (asks x) row.outs) refl viewed_is
        where
          go : (o : Option (Result Octets Error)) → reply_to (asks x) row.outs ≡ o → TellsViewed its age e.message o viewed → IsHit q.asked_as.request r e.message age (asks x) row.outs
          go (Some (Ok o)) i t = Views known.0 o known.1 ((t r asks_it q.asked_as.request known.0 (sym same_key) known.1).0 holds) (reply_among (asks x) row.outs (Ok o) i)
          go (Some (Err d)) i t = clash viewed holds t
          go None i t = clash viewed holds t

      abbrev handed_on : Bool
      handed_on = is_handed number row.outs

      abbrev marked : Bool
      marked = has_mark number row.outs

      none_of : handed_on ≡ false → (t : ℕ) → handed (asks x) t (after row x) ≡ false
      none_of fails t = handed_none (asks x) t (after row x) (none_handed (asks x) row.outs here (subst (λ k. is_handed k row.outs ≡ false) number_is fails) unstarted)

      of_none : ((t : ℕ) → handed (asks x) t (after row x) ≡ false) → handed_on ≡ false
      of_none none = go handed_on refl
        where
          go : (d : Bool) → handed_on ≡ d → d ≡ false
          go false i = refl
          go true i = absurd (not_handed (asks x) (after row x) (some_handed (asks x) row.outs here (subst (λ k. is_handed k row.outs ≡ true) number_is i)) none)

      of_unmarked : (Among (Stale (asks x)) row.outs → ⊥) → marked ≡ false
      of_unmarked none = go marked refl
        where
          go : (d : Bool) → marked ≡ d → d ≡ false
          go false i = refl
          go true i = absurd (none (marked_among (asks x) row.outs (subst (λ k. has_mark k row.outs ≡ true) number_is i)))

      unmarked_of : marked ≡ false → Among (Stale (asks x)) row.outs → ⊥
      unmarked_of fails i = clash marked (subst (λ k. has_mark k row.outs ≡ true) (sym number_is) (among_marked (asks x) row.outs i)) fails

      -- a miss
      is_missed : misses must viewed handed_on marked ≡ true → Hits c s composed (room_of cache) x row → ⊥
      is_missed holds hits =
          let a = both must (not (viewed && (not handed_on && not marked))) holds in
          let o = both (is_ok (composed r)) _ a.0 in
          let v = both (nat_le age e.validity) _ o.1 in
          let made = ok_of (composed r) o.0 in
          let owed = between v.1 in
          let h = hits q.asked_as.request r e.request q.asked_as.moment e.moment e.validity age e.message made.0 what q.asked q.got q.validity q.above q.cacheable asks_it.cacheable same_key made.1 age_is (le_of age e.validity v.0) owed.views owed.few in
          clash (viewed && (not handed_on && not marked)) (all viewed (not handed_on && not marked) (hit_viewed h.0) (all (not handed_on) (not marked) (ap not (of_none h.1)) (ap not (of_unmarked h.2)))) (not_true _ a.1)

      -- a hit
      is_hit : misses must viewed handed_on marked ≡ false → Hits c s composed (room_of cache) x row
      is_hit fails first r' j t moment n age' m o what' asked got valid above cacheable second key comp is_age young views few =
          let same : r' ≡ r = same_ask r' r (sym what' ∙ what) in
          let key' : key_of r ≡ key_of first = ap key_of (sym same) ∙ key in
          let at = it_is first j t moment n m asked got valid above cacheable key' views few in
          let age_same : age ≡ age' = same_age e.moment moment age age' (now here) at.2 age_is is_age in
          let holds : must ≡ true = all (is_ok (composed r)) _ (ap is_ok (ap composed (sym same) ∙ comp))
          (all (nat_le age e.validity) _ (of_le age e.validity (no_older age age' n e.validity age_same (validity_is first j t moment n m asked got valid above cacheable key' views few) young))
          (all (is_few cache p e number row.outs) _ (few_is first j t moment n m asked got valid above cacheable key' views few) (spare_is first j t moment n m asked got valid above cacheable key' views few))) in
          let a = both viewed (not handed_on && not marked) (not_false (viewed && (not handed_on && not marked)) (then_so must (not (viewed && (not handed_on && not marked))) false fails holds)) in
          let b = both (not handed_on) (not marked) a.1 in (
            same_hit q.asked_as.request first r r' e.message m age age' (first_is first j t moment n m asked got valid above cacheable key' views few) (sym same) at.1 age_same (viewed_hit a.0),
            none_of (not_true handed_on b.0),
            unmarked_of (not_true marked b.1),
          )
        where
          same_age : (t u a b n : ℕ) → t ≡ u → t + a ≡ n → u + b ≡ n → a ≡ b
          same_age t u a b n e f g = omega arith

          no_older : (a b n v : ℕ) → a ≡ b → v ≡ n → b ≤ n → a ≤ v
          no_older a b n v e f le = omega arith

          not_false : (b : Bool) → not b ≡ false → b ≡ true
          not_false true e = refl
          not_false false e = absurd (cc)

          same_hit : (a a' b b' : Request) (d d' : Octets) (u u' : ℕ) → a ≡ a' → b ≡ b' → d ≡ d' → u ≡ u' → IsHit a b d u (asks x) row.outs → IsHit a' b' d' u' (asks x) row.outs
          same_hit a a' b b' d d' u u' e f g i hit = subst (λ a. IsHit a b' d' u' (asks x) row.outs) e (subst (λ b. IsHit a b d' u' (asks x) row.outs) f (subst (λ d. IsHit a b d u' (asks x) row.outs) g (subst (λ u. IsHit a b d u (asks x) row.outs) i hit)))

    pub answer : (b : Bool) → MissesBy cache p e its r row.outs number b → IsAnswer (Hits c s composed (room_of cache) x row) b
    answer b by = record {
      missed = λ holds. is_missed b by.viewed by.tells (sym by.is ∙ holds);
      held = λ fails. is_hit b by.viewed by.tells (sym by.is ∙ fails);
    }

    -- ---- what has expired

    module _ (has : HasCache cache s) (rows : List Row) (f : Failures) (knows : KnowFailures cache f c s x (row ∷ rows)) where
      abbrev failed : Option ℕ
      failed = entry_at number f.moments

      failed_is : first_failure c (cached_by cache) (asks x) knows.passed (row ∷ rows) ≡ failed
      failed_is = knows.failures (asks x) 0 (itself (asks x)) ∙ ap (λ k. entry_at k f.moments) (sym number_is)
        where
          itself : (n : ℕ) → n + 0 ≡ n
          itself n = omega arith

      limit_is : e.moment + e.validity + cache.stale_for ≡ e.moment + e.validity + s.stale_for
      limit_is = ap (λ (s : Settings). e.moment + e.validity + s.stale_for) has

      tells_is : tells_of_name known.0.code ≡ tells_of_name (opt_rcode e.message)
      tells_is = ap tells_of_name (code_of e.message known.0 known.1)

      expires : (a m l n v : ℕ) → m + a ≡ n → v < a → m + v < n
      expires a m l n v e lt = omega arith

      expired_is : (a m n v u : ℕ) → m + a ≡ n → m + u < n → v ≡ u → v < a
      expired_is a m n v u e lt f = omega arith

      fails_by : (limit : ℕ) (o : Option ℕ) → e.moment + e.validity + cache.stale_for ≡ limit → fails_in_time cache e o ≡ true → (n : ℕ) × (o ≡ Some n) × (n ≤ limit)
      fails_by limit None g t = absurd (cc)
      fails_by limit (Some n) g t = (n, refl, le_of n limit (ap (nat_le n) (sym g) ∙ t))

      later_by : (limit : ℕ) (o : Option ℕ) → e.moment + e.validity + cache.stale_for ≡ limit → fails_in_time cache e o ≡ false → IsLater limit o
      later_by limit None g t = tt
      later_by limit (Some n) g t = not_le n limit (ap (nat_le n) (sym g) ∙ t)
        where
          not_le : (a b : ℕ) → nat_le a b ≡ false → b < a
          not_le a b e = grind (arith, nat_tests)

      is_unserved_so : is_unserved_by cache f p e its.key row.outs number ≡ true → ServesStale c s (room_of cache) x row rows → ⊥
      is_unserved_so holds serves =
          let a = both (must_serve cache p e its.key number row.outs) (fails_in_time cache e failed) holds in
          let t = both (tells_of_name (opt_rcode e.message)) _ a.0 in
          let v = both (nat_lt e.validity age) _ t.1 in
          let owed = between v.1 in
          let late = fails_by (e.moment + e.validity + s.stale_for) failed limit_is a.1 in
          let never = serves q.asked_as.request r e.request q.asked_as.moment e.moment e.validity e.message known.0 what q.asked q.got q.validity q.above known.1 (tells_is ∙ t.0) q.cacheable asks_it.cacheable same_key (expires age e.moment 0 (now here) e.validity age_is (lt_of e.validity age v.0)) owed.views owed.few in
          fails_then c cache s has (asks x) (e.moment + e.validity + s.stale_for) late.0 x knows.passed (row ∷ rows) behind knows.known knows.right (failed_is ∙ late.1) late.2 never

      is_served : is_unserved_by cache f p e its.key row.outs number ≡ false → ServesStale c s (room_of cache) x row rows
      is_served fails first r' j t moment n m y what' asked got valid above is_known tells cacheable second key expired views few =
          let same : r' ≡ r = same_ask r' r (sym what' ∙ what) in
          let key' : key_of r ≡ key_of first = ap key_of (sym same) ∙ key in
          let at = it_is first j t moment n m asked got valid above cacheable key' views few in
          let n_is = validity_is first j t moment n m asked got valid above cacheable key' views few in
          let code : tells_of_name (opt_rcode e.message) ≡ true = ap (λ m. tells_of_name (opt_rcode m)) at.1 ∙ (sym (ap tells_of_name (code_of m y is_known)) ∙ tells) in
          let holds : must_serve cache p e its.key number row.outs ≡ true = all (tells_of_name (opt_rcode e.message)) _ code
          (all (nat_lt e.validity age) _ (of_lt e.validity age (expired_is age e.moment (now here) e.validity n age_is (subst (λ t. t + n < now here) (sym at.2) expired) n_is))
          (all (is_few cache p e number row.outs) _ (few_is first j t moment n m asked got valid above cacheable key' views few) (spare_is first j t moment n m asked got valid above cacheable key' views few))) in
          let ends : e.moment + e.validity + cache.stale_for ≡ moment + n + s.stale_for = limit_is ∙ ap₂ (λ t n. t + n + s.stale_for) at.2 n_is in
          never_then c cache s has (asks x) (moment + n + s.stale_for) x knows.passed (row ∷ rows) behind knows.known knows.right (subst (IsLater (moment + n + s.stale_for)) (sym failed_is) (later_by (moment + n + s.stale_for) failed ends (then_so (must_serve cache p e its.key number row.outs) (fails_in_time cache e failed) false fails holds)))

      pub answer_stale : (b : Bool) → b ≡ is_unserved cache f p e its.key row.outs → IsAnswer (ServesStale c s (room_of cache) x row rows) b
      answer_stale b is_b = record { missed = λ holds. is_unserved_so (sym is_b ∙ holds); held = λ fails. is_served (sym is_b ∙ fails) }
