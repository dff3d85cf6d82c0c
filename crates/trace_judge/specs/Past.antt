-- What is known before a row, and what the row makes of it.
use Rattle.std.specs.Prelude.{List, []}
use Rattle.client_request.specs.declared.event.Row.{Row}
use Rattle.right_trace.specs.{Settings.Settings, Trace.Conf}
use Rattle.trace_tables.specs.declared.frames.here.Here.{Here}
use Rattle.trace_tables.specs.declared.frames.ledger.Ledger.{Ledger}
use Rattle.trace_points.specs.declared.exchanges.coming.Coming.{Coming}
use Rattle.trace_errors.specs.promptness.{Heard.passed_over_in, Prompt.excused_in}
use Rattle.trace_errors.specs.promptness.Heard as heards
use Rattle.trace_points.specs.pass.Pass as pass
use Rattle.trace_errors.specs.Earlier as errors
use Rattle.trace_replies.specs.firsts.Firsts as firsts
use Rattle.trace_judge.specs.declared.past.Past.{Past}

abbrev pub nothing : Past
nothing = record { pass = pass.nothing; heard = []; errors = errors.nothing; firsts = [] }

-- what rests on what came in a row, by what is known behind it
abbrev pub noted : (c : Conf) → Settings → Row → (here : Ledger) → Here → List Coming → Past → Past
noted c s row l o xs p = record {
  pass = p.pass;
  heard = heards.after_row (passed_over_in c l.frames.brought l.books.requests.clock p.pass.ledger p.pass.timers o) xs p.heard;
  errors = errors.after_row c s p.pass.ledger p.pass.timers p.heard l o row xs p.errors;
  firsts = firsts.after_row (excused_in c l.frames.brought l.books.requests.clock p.pass.ledger p.pass.timers l o) xs p.firsts;
}

abbrev pub after_row : (c : Conf) → Settings → Row → (here : Ledger) → Here → List Coming → Past → Past
after_row c s row l o xs p = record {
  pass = pass.after_row c row p.pass;
  heard = heards.after_row (passed_over_in c l.frames.brought l.books.requests.clock p.pass.ledger p.pass.timers o) xs p.heard;
  errors = errors.after_row c s p.pass.ledger p.pass.timers p.heard l o row xs p.errors;
  firsts = firsts.after_row (excused_in c l.frames.brought l.books.requests.clock p.pass.ledger p.pass.timers l o) xs p.firsts;
}
