-- What is kept of a frame that is not complete.
use Rattle.std.specs.Prelude.{ℕ, List, reverse}
use Rattle.right_trace.specs.Frames.{Reading, Length, LengthAfter, Body}
use Rattle.trace_tables.specs.declared.frames.framing.Stage.{Stage}
use Rattle.trace_tables.specs.declared.frames.framing.Stage.TheVariants as stages

-- the octets that came of a body are kept in order
abbrev pub reading_of : Stage → (got : List ℕ) → Reading
reading_of stages.Length got = Length
reading_of (stages.LengthAfter high) got = LengthAfter high
reading_of (stages.Body missing) got = Body missing (reverse got)
