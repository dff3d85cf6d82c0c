-- Each trace lacks what it owes at one point.
use Rattle.std.specs.Prelude.{[]}
use Rattle.right_trace.specs.Settings.{first_settings}
use Rattle.proof_right.proofs.wrong.Dgrams as wrong
use Rattle.proof_right.proofs.wrong.Sends as sends
use Rattle.proof_right.proofs.refusals.wrong_datagrams_are_refused.Goals as goal

pub returns : goal.returns
returns c = record {
  two_replies = wrong.twice;
  nothing_sent = wrong.idles;
  no_answer = wrong.not_an_answer;
  cut_answer = wrong.not_cut;
  past_its_time = wrong.too_late;
  closed_place = wrong.not_when_closed;
  early_timeout = λ c s r o. wrong.early c s r o [];
  passed_over = λ c s r o m x. wrong.passes_over c s r o m x.has_server x.has_time x.carries x.long x.answers_it x.whole x.final;
  late = λ c r o. wrong.late c first_settings r o [];
  closed_for_nothing = λ c s r o. wrong.closed_at_once c s r o [];
  too_soon = λ c s r o. wrong.too_soon c s r o [];
  nowhere = λ c s r o. wrong.nowhere c s r o [];
  six_at_once = λ c s r o. wrong.at_once c s r o [];
  elsewhere = sends.elsewhere;
  unsent = sends.unsent;
  blamed_when_closed = sends.closed_blame;
}
