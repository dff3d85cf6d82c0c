-- At most one reply to each request that was asked: on one row, and the least row at which it fails.
use Rattle.std.specs.Prelude.{◌≡◌, ℕ, zero, suc, ◌+◌, Bool, true, ◌&&◌, if◌then◌else◌, List, [], ◌∷◌, Option, Some, None}
use Rattle.client_request.specs.declared.event.{What.What, Out.Out, Out.TheVariants.Reply, Row.Row}
use Rattle.right_trace.specs.Trace.{History, Came, Put, after}
use Rattle.right_trace.specs.Right.{IsFirst}
use Rattle.trace_tables.specs.declared.books.Books.{Books}
use Rattle.trace_tables.specs.Books.{met, has_put, after_row}
use Rattle.trace_points.specs.questions.Outs.{first_seen}

abbrev pub out_first : Out → Books → Bool
out_first (Reply k x) b = first_seen k b
out_first _ b = true

abbrev pub outs_first : What → List Out → Books → Bool
outs_first w [] b = true
outs_first w (o ∷ os) b = out_first o b && outs_first w os (has_put w o b)

abbrev pub row_first : Row → Books → Bool
row_first row b = outs_first row.event.what row.outs (met row.event b)

-- the least row, numbered from n, at which a reply is not the first to a request that was asked
abbrev pub least_from : (n : ℕ) → List Row → Books → Option ℕ
least_from n [] b = None
least_from n (row ∷ rows) b = if row_first row b then least_from (n + 1) rows (after_row row b) else Some n

abbrev pub OutIsFirst : History → Out → Type 0
OutIsFirst h (Reply k x) = IsFirst k h
OutIsFirst h _ = Unit {0}

abbrev pub OutsAreFirst : History → List Out → Type 0
OutsAreFirst h [] = Unit {0}
OutsAreFirst h (o ∷ os) = OutIsFirst h o × OutsAreFirst (Put o ∷ h) os

-- each reply of a row is the first
abbrev pub RowIsFirst : (past : History) → Row → Type 0
RowIsFirst past row = OutsAreFirst (Came row.event ∷ past) row.outs

-- in each row behind a history
abbrev pub AllAreFirst : (past : History) → List Row → Type 0
AllAreFirst past [] = Unit {0}
AllAreFirst past (row ∷ rows) = RowIsFirst past row × AllAreFirst (after row past) rows

-- it fails at a row, and at none before
abbrev pub FailsFirst : (past : History) → List Row → ℕ → Type 0
FailsFirst past [] n = ⊥
FailsFirst past (row ∷ rows) zero = RowIsFirst past row → ⊥
FailsFirst past (row ∷ rows) (suc n) = RowIsFirst past row × FailsFirst (after row past) rows n

abbrev pub IsVerdict : List Row → Option ℕ → Type 0
IsVerdict rows None = AllAreFirst [] rows
IsVerdict rows (Some n) = FailsFirst [] rows n
