-- What is known at a point within a row, and what was known before the row.
use Rattle.std.specs.Prelude.{◌≡◌, ℕ, ◌==◌, Bool, not, length, map, None}
use Rattle.right_trace.specs.Trace.{History, Conf, after}
use Rattle.right_trace.specs.Time.{now, newest, row_before}
use Rattle.trace_points.specs.questions.Configured.{use_of}
use Rattle.trace_tables.specs.frames.Ledger as ledger
use Rattle.trace_tables.specs.frames.Here as here_outs
use Rattle.trace_points.specs.due.Timers as timers
use Rattle.trace_points.specs.exchanges.Coming.{AllComing}
use Rattle.trace_outs.specs.declared.reasons.point.Point.{Point}

-- all messages of a row came, as it was found at some point of it
pub record Comings (c : Conf) (x h : History) (p : Point) : Type 0 where
  pub at : History
  pub time : now at ≡ now h
  pub event : newest at ≡ p.row.now.event.what
  pub all : AllComing c None x at p.comings.now

-- `x` is what happened before the row, `h` what happened up to here, and `end` what happened when the row is done
pub record Known (c : Conf) (x h end : History) (p : Point) : Type 0 where
  pub past : ledger.Known x p.past.now
  pub past_timers : timers.Known c x p.past_timers.now
  pub here : ledger.Known h p.here.now
  pub timers : timers.Known c h p.timers.now
  pub made : here_outs.Known p.past.now.books.places h p.made.now
  pub before : row_before h ≡ x
  pub event : newest h ≡ p.row.now.event.what
  pub behind : end ≡ after p.row.now x
  pub conf : p.conf.now ≡ c
  pub servers : c.servers ≡ map use_of p.servers.now
  pub comings : Comings c x h p

abbrev pub has_server_seen : Point → Bool
has_server_seen p = not (length p.servers.now == 0)
