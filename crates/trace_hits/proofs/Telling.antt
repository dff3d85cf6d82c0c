-- What functions answer, from what they call.
use Rattle.std.proofs.Common.{◌≡◌, ◌&&◌, ℕ, Bool, true, false, Option, Some, None, List, refl, sym, ap, ◌∙◌, subst}
use Rattle.std.specs.Prelude.{if◌then◌else◌, Result, Ok, Err, OnOk}
use Rattle.number_table.specs.Entries.{entry_at}
use Rattle.client_request.specs.Request.{Request}
use Rattle.client_request.specs.declared.error.Error.{Error}
use Rattle.client_request.specs.declared.event.{Out.Out, What.TheVariants.Ask, Row.Row}
use Rattle.client_settings.specs.Settings.{CacheSettings}
use Rattle.right_trace.specs.{Messages.Octets, Requests.Asking}
use Rattle.right_trace.specs.Keys.{Key, key_of, is_cacheable}
use Rattle.cache_rules.specs.Key.{same_key, same_is_equal}
use Rattle.trace_tables.specs.Requests.{marked_seen}
use Rattle.trace_hits.specs.declared.course.Course.{Course}
use Rattle.trace_hits.specs.declared.failures.Failures.{Failures}
use Rattle.trace_hits.specs.declared.kept.Kept.{Kept}
use Rattle.trace_hits.specs.declared.point.Point.{Point}
use Rattle.trace_hits.specs.declared.question.Question.{Question}
use Rattle.trace_hits.specs.{Question.IsAsked, Kept.Table, Course.met, Row.TellsRow as TellsHitRow, Serving.TellsRow as TellsStaleRow}
use Rattle.trace_hits.specs.Point.{IsToldAt, has_key}
use Rattle.trace_hits.specs.Point as point
use Rattle.trace_hits.specs.Replies.{kept_of, Keeps, Takes, Puts, Taken}
use Rattle.trace_hits.specs.Row.{room_of, IsMissedOf, TellsMissed}
use Rattle.trace_hits.specs.Serving.{is_unserved, TellsUnserved}
use Rattle.trace_hits.proofs.Judging.{no_asking, no_question, no_asking_stale, no_question_stale, none_kept, none_kept_stale, answer, answer_stale}

pub on_ok : {T E : Type 0} {P Q : Type 0} (r : Result T E) → (P → Q) → OnOk r P → OnOk r Q
on_ok (Ok a) f h = f h
on_ok (Err x) f h = tt

pub key_told : (its : Key) (o : Option Asking) (q : Question) → IsToldAt o (Some q) → has_key its o ≡ same_key q.key its
key_told its None q e = absurd (cc)
key_told its (Some a) q asked = ap (λ b. b && same_key (key_of a.request) its) asked.cacheable ∙ ap (λ k. same_key k its) (sym asked.key)

-- what stays is as it was
pub stays_as : (its : Key) (t : Table) → Keeps true its t t
stays_as its t k = go (same_key its k) refl
  where
    go : (b : Bool) → same_key its k ≡ b → kept_of k t ≡ (if b then kept_of its t else kept_of k t)
    go true e = ap (λ k. kept_of k t) (sym (same_is_equal its k e))
    go false e = refl

-- a reply that is taken
pub taken_told : (c : CacheSettings) (k : ℕ) (x : Result Octets Error) (p : Point) (old new : Table) (o : Option Asking) (q : Question) → entry_at k p.requests.askings ≡ o → marked_seen k p.requests ≡ false → IsToldAt o (Some q) → Takes c q k x p old new → Puts c k x p old new
taken_told c k x p old new None q at unmarked told takes = absurd (cc)
taken_told c k x p old new (Some a) q at unmarked told takes = Taken a q unmarked at told takes

-- ---- rows that ask

module _ (cache : CacheSettings) (t : Course) (r : Request) (os : List Out) (q : Question) (asked : IsAsked r q) where
  -- nothing is kept
  under : (old : Course) (row : Row) → t ≡ met row.event old → (o : Option Kept) → o ≡ kept_of q.key t.replies → kept_of q.key old.replies ≡ o
  under old row is o e = sym (ap (λ (t : Course). kept_of q.key t.replies) is) ∙ sym e

  pub hit_none : None ≡ kept_of q.key t.replies → TellsMissed cache t r os false
  hit_none none row what outs c s x rows old has behind is left at right = none_kept c s x row r old behind is right what (room_of cache) (ap (λ k. kept_of k old.replies) (sym asked.key) ∙ under old row at None none)

  pub stale_none : (f : Failures) → None ≡ kept_of q.key t.replies → TellsUnserved cache f t r os false
  stale_none f none row what outs c s x rows old has behind is left at right = none_kept_stale c s x row r old behind is right what (room_of cache) rows (ap (λ k. kept_of k old.replies) (sym asked.key) ∙ under old row at None none)

  -- a reply is
  module _ (e : Kept) (some : Some e ≡ kept_of q.key t.replies) (b : Bool) where
    pub hit_told : IsMissedOf cache t.point e q r os b → TellsMissed cache t r os b
    hit_told by row what outs c s x rows old has behind is left at right =
        answer c s x row r old behind is right what cache q asked e (under old row at (Some e) some) b
        (subst (λ os. IsMissedOf cache (point.met row.event old.point) e q r os b) (sym outs) (subst (λ (t : Course). IsMissedOf cache t.point e q r os b) at by))

    pub stale_told : (f : Failures) → b ≡ is_unserved cache f t.point e q.key os → TellsUnserved cache f t r os b
    stale_told f by row what outs c s x rows old has behind is left at right =
        answer_stale c s x row r old behind is right what cache q asked e (under old row at (Some e) some) has rows f left b
        (by ∙ (ap (λ (t : Course). is_unserved cache f t.point e q.key os) at ∙ ap (λ os. is_unserved cache f (point.met row.event old.point) e q.key os) (sym outs)))

-- ---- rows that ask nothing

pub hit_no_question : (cache : CacheSettings) (t : Course) (r : Request) (os : List Out) → is_cacheable r ≡ false → TellsMissed cache t r os false
hit_no_question cache t r os none row what outs c s x rows old has behind is left at right = no_question c s (room_of cache) x row r what none

pub stale_no_question : (cache : CacheSettings) (f : Failures) (t : Course) (r : Request) (os : List Out) → is_cacheable r ≡ false → TellsUnserved cache f t r os false
stale_no_question cache f t r os none row what outs c s x rows old has behind is left at right = no_question_stale c s (room_of cache) x row rows r what none

pub hit_row : (cache : CacheSettings) (t : Course) (r : Request) (os : List Out) (row : Row) (b : Bool) → row.event.what ≡ Ask r → os ≡ row.outs → TellsMissed cache t r os b → TellsHitRow cache t row b
hit_row cache t r os row b what outs f = f row what (sym outs)

pub stale_row : (cache : CacheSettings) (f : Failures) (t : Course) (r : Request) (os : List Out) (row : Row) (b : Bool) → row.event.what ≡ Ask r → os ≡ row.outs → TellsUnserved cache f t r os b → TellsStaleRow cache f t row b
stale_row cache f t r os row b what outs g = g row what (sym outs)

pub hit_no_row : (cache : CacheSettings) (t : Course) (row : Row) → ((r : Request) → row.event.what ≡ Ask r → ⊥) → TellsHitRow cache t row false
hit_no_row cache t row none c s x rows old has behind is left at right = no_asking c s (room_of cache) x row none

pub stale_no_row : (cache : CacheSettings) (f : Failures) (t : Course) (row : Row) → ((r : Request) → row.event.what ≡ Ask r → ⊥) → TellsStaleRow cache f t row false
stale_no_row cache f t row none c s x rows old has behind is left at right = no_asking_stale c s (room_of cache) x row rows none
