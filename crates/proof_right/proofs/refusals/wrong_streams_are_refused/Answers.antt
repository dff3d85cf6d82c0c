-- Each trace lacks what it owes at one point.
use Rattle.std.proofs.Common.{[], ◌∷◌, refl}
use Rattle.proof_right.proofs.wrong.Streams as wrong
use Rattle.proof_right.proofs.refusals.wrong_streams_are_refused.Goals as goal

pub returns : goal.returns
returns c = record {
  before_its_write = λ c s r. wrong.not_before_its_write c s r [];
  after_a_bad_frame = λ c s r o piece g m gs. wrong.not_after_a_bad_frame c s r o piece g m gs;
  another_id = λ c s r o piece g m. wrong.not_with_another_id c s r o piece g m;
  past_its_time = λ c s r o piece m. wrong.not_past_30 c s r o piece m;
  no_answer = λ c s r o piece m. wrong.not_without_an_answer c s r o piece m;
  passed_over = λ c s r o piece m x. wrong.passes_over c s r o piece m x.has_server x.has_time x.carries x.first x.answers_it x.final;
  second_while_opening = λ c s r. wrong.second_opening c s r [];
  second_while_open = wrong.second_open;
  closed_for_nothing = wrong.closes_early;
  wrong_length = λ c s r a b rest ne. wrong.wrong_length c s r (a ∷ b ∷ rest) a b rest ne refl;
  nothing_written = λ c s r. wrong.idles c s r [];
  wrong_without_frame = wrong.wrong_alone;
}
