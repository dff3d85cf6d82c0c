-- What is counted of a trace.
use Rattle.std.specs.Prelude.{ℕ, ◌+◌, ◌==◌, Bool, true, false, if◌then◌else◌, List, [], ◌∷◌, ◌++◌, length, Ok, Err, codes}
use Rattle.std.specs.Fmt.{decimal}
use Rattle.std.specs.List.{count_by, sum_by}
use Rattle.client_request.specs.declared.event.Out.{Out}
use Rattle.client_request.specs.declared.event.Out.TheVariants.{Close, OpenDgram, OpenStream, Reply}
use Rattle.client_request.specs.declared.event.Row.{Row}
use Rattle.client_request.specs.declared.event.What.{What}
use Rattle.client_request.specs.declared.event.What.TheVariants.{Ask}
use Rattle.dns_script.specs.Lines.{line}
use Rattle.dns_script.specs.declared.summary.Summary.{Summary}

-- a request is asked
abbrev pub is_ask : What → Bool
is_ask (Ask request) = true
is_ask what = false

-- the result of a request is a message, or an error
abbrev pub is_ok : Out → Bool
is_ok (Reply request (Ok message)) = true
is_ok out = false

abbrev pub is_error : Out → Bool
is_error (Reply request (Err error)) = true
is_error out = false

abbrev pub opens_dgram : Out → Bool
opens_dgram (OpenDgram place server) = true
opens_dgram out = false

abbrev pub opens_stream : Out → Bool
opens_stream (OpenStream place server) = true
opens_stream out = false

abbrev pub closes : Out → Bool
closes (Close place) = true
closes out = false

-- how many of the outs of all rows pass
abbrev pub outs_by : (Out → Bool) → List Row → ℕ
outs_by passes rows = sum_by (λ row. count_by passes row.outs) rows

-- the result of this request is a message
abbrev pub is_ok_of : ℕ → Out → Bool
is_ok_of number (Reply request (Ok message)) = request == number
is_ok_of number out = false

-- the hits of a row, where so many requests were asked before: messages for the request that it asks
abbrev pub hits_at : ℕ → Row → ℕ
hits_at number row = if is_ask row.event.what then count_by (is_ok_of number) row.outs else 0

-- how many requests a row asks
abbrev pub asks_of : Row → ℕ
asks_of row = if is_ask row.event.what then 1 else 0

-- the hits of rows, where so many requests were asked before them
abbrev pub hits_behind : ℕ → List Row → ℕ
hits_behind number [] = 0
hits_behind number (row ∷ rows) = hits_at number row + hits_behind (number + asks_of row) rows

abbrev pub summarized : List Row → Summary
summarized rows = record {
  asks = sum_by asks_of rows;
  ok = outs_by is_ok rows;
  errors = outs_by is_error rows;
  rows = length rows;
  dgram_opens = outs_by opens_dgram rows;
  stream_opens = outs_by opens_stream rows;
  closes = outs_by closes rows;
  hits = hits_behind 0 rows;
}

-- before the first row
abbrev pub nothing_counted : Summary
nothing_counted = record { asks = 0; ok = 0; errors = 0; rows = 0; dgram_opens = 0; stream_opens = 0; closes = 0; hits = 0 }

-- with more that was put out
abbrev pub with_outs : List Out → Summary → Summary
with_outs outs s = record s {
  ok = s.ok + count_by is_ok outs;
  errors = s.errors + count_by is_error outs;
  dgram_opens = s.dgram_opens + count_by opens_dgram outs;
  stream_opens = s.stream_opens + count_by opens_stream outs;
  closes = s.closes + count_by closes outs;
}

-- with one more row
abbrev pub with_row : Row → Summary → Summary
with_row row s = record (with_outs row.outs s) { asks = s.asks + asks_of row; rows = s.rows + 1; hits = s.hits + hits_at s.asks row }

-- a word, a blank and a number
abbrev pub count_line : List ℕ → ℕ → List ℕ
count_line word count = line (word ∷ decimal count ∷ [])

-- a line for each count
abbrev pub summary_lines : Summary → List ℕ
summary_lines s =
    count_line (codes "asks") s.asks
    ++ count_line (codes "ok") s.ok
    ++ count_line (codes "errors") s.errors
    ++ count_line (codes "rows") s.rows
    ++ count_line (codes "dgram-opens") s.dgram_opens
    ++ count_line (codes "stream-opens") s.stream_opens
    ++ count_line (codes "closes") s.closes
    ++ count_line (codes "hits") s.hits

abbrev pub summary_text_of : List Row → List ℕ
summary_text_of rows = summary_lines (summarized rows)
