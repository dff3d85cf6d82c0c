-- Which requests wait, as a forward pass keeps it.
use Rattle.std.specs.Prelude.{◌≡◌, ℕ, not, Bool, true, false, is_some, slice_get, option_map, List, [], ◌∷◌, Option, Some, None}
use Rattle.number_table.specs.Entries.{puts, frees, entry_at}
use Rattle.client_request.specs.declared.event.{Event.Event, What.What, What.TheVariants.Ask, Out.Out, Out.TheVariants.Reply, Row.Row}
use Rattle.right_trace.specs.{Trace.History, Requests.waits}
use Rattle.trace_tables.specs.sets.Sets.{Members, Rise}
use Rattle.trace_tables.specs.declared.requests.Requests.{Requests}
use Rattle.trace_tables.specs.Requests.{replied_seen, deadline_seen}
use Rattle.trace_tables.specs.Requests as requests
use Rattle.trace_hits.specs.declared.timely.waiting.Waiting.{Waiting}

abbrev pub nothing : Waiting
nothing = record { requests = requests.nothing; numbers = [] }

abbrev pub joined : Bool → (k : ℕ) → Members → Members
joined true k es = puts k tt es
joined false k es = es

-- an event asks the next of these requests, or none
abbrev pub asked : What → Requests → Members → Members
asked (Ask q) r es = joined (not (replied_seen r.asked r)) r.asked es
asked _ r es = es

abbrev pub met : Event → Waiting → Waiting
met e t = record { requests = requests.met e t.requests; numbers = asked e.what t.requests t.numbers }

abbrev pub answered : Out → Members → Members
answered (Reply k x) es = frees k es
answered _ es = es

abbrev pub has_put : Out → Waiting → Waiting
has_put o t = record { requests = requests.has_put o t.requests; numbers = answered o t.numbers }

abbrev pub have_put : List Out → Waiting → Waiting
have_put [] t = t
have_put (o ∷ os) t = have_put os (has_put o t)

abbrev pub after_row : Row → Waiting → Waiting
after_row row t = have_put row.outs (met row.event t)

abbrev pub after_rows : List Row → Waiting → Waiting
after_rows [] t = t
after_rows (row ∷ rows) t = after_rows rows (after_row row t)

-- what is kept is what the definitions say
pub record Known (h : History) (t : Waiting) : Type 0 where
  pub requests : requests.Known h t.requests
  pub numbers : (k : ℕ) → is_some (entry_at k t.numbers) ≡ waits k h
  pub rise : Rise 0 t.numbers

-- the request that was asked first of those that wait
abbrev pub first_of : Members → Option ℕ
first_of es = option_map (λ e. e.0) (slice_get es 0)

abbrev pub in_time_of : (timeout : ℕ) → Option ℕ → Requests → Bool
in_time_of n None r = true
in_time_of n (Some k) r = not (deadline_seen n k r)

-- no request that waits is at its timeout
abbrev pub in_time_seen : (timeout : ℕ) → Waiting → Bool
in_time_seen n t = in_time_of n (first_of t.numbers) t.requests
