-- What events and outs make of what is known.
use Rattle.std.specs.Prelude.{◌≡◌, List, [], ◌∷◌}
use Rattle.client_request.specs.declared.event.{Event.Event, Out.Out, Out.TheVariants.Reply}
use Rattle.client_settings.specs.Settings.{CacheSettings}
use Rattle.trace_hits.specs.declared.course.Course.{Course}
use Rattle.trace_hits.specs.declared.point.Point.{Point}
use Rattle.trace_hits.specs.Kept.{Table}
use Rattle.trace_hits.specs.Point as point
use Rattle.trace_hits.specs.Replies as replies

-- an event comes
abbrev pub met : Event → Course → Course
met e t = record { point = point.met e t.point; replies = t.replies }

-- what an out makes of the replies that must be given again
abbrev pub Changes : CacheSettings → Out → Point → (old new : Table) → Type 0
Changes c (Reply k x) p old new = replies.Puts c k x p old new
Changes c _ p old new = new ≡ old

-- an out is put
pub record Puts (c : CacheSettings) (o : Out) (old new : Course) : Type 0 where
  pub point : new.point ≡ point.has_put o old.point
  pub replies : Changes c o old.point old.replies new.replies

-- outs are put, one after another
abbrev pub PutsAll : CacheSettings → List Out → (old new : Course) → Type 0
PutsAll c [] old new = new ≡ old
PutsAll c (o ∷ os) old new = (mid : Course) × Puts c o old mid × PutsAll c os mid new
