-- Worked traces by stream, computed.
use Rattle.std.proofs.Common.{inl, refl, arith}
use Rattle.client_request.specs.declared.fault.Fault.TheVariants.{Refused}
use Rattle.dns_names.specs.Name.{name_at, walk, head_at}
use Rattle.dns_base.specs.Data.{data_at, data_spelling}
use Rattle.dns_base.specs.Message.{question_at, record_at, list_at, items_at, questions_of, answer_of, authority_of, additional_of, answer_items, authority_items, additional_items, first_question, reads}
use Rattle.dns_base.specs.OptRecord.{opt_of}
use Rattle.dns_base.specs.Answering.{is_answer}
use Rattle.client_request.specs.Carries.{contents_of}
use Rattle.right_trace.specs.Time.{read_timeout, stream_timeout, idle_timeout, back_off, recv_size, max_places, max_tries}
use Rattle.right_trace.specs.Messages.{answers, truncated, id_in, keepalive_of}
use Rattle.right_trace.specs.Frames.{is_bad}
use Rattle.right_trace.specs.Busy.{BackingOff, ConnectionEnded, ByBadFrame, OpeningFailed}
use Rattle.proof_right.specs.examples.Streams.{WorkedStreams}

pub worked : WorkedStreams
unfolding name_at walk head_at data_at data_spelling question_at record_at list_at items_at questions_of answer_of authority_of additional_of answer_items authority_items additional_items first_question reads is_answer opt_of contents_of read_timeout recv_size max_places max_tries stream_timeout idle_timeout back_off answers truncated id_in keepalive_of is_bad
worked = record {
  cut_opens = refl;
  cut_site = refl;
  is_cut = refl;
  cut_answers = refl;
  demand_before = refl;
  demand_after = refl;
  live_after = refl;
  comes_nowhere = refl;
  handed_at = refl;
  waits_for_a_frame = refl;
  unwritten = refl;
  all_written = refl;
  open_for_30_s = refl;
  no_longer = refl;
  frame_comes = refl;
  frame_answers = refl;
  id_is_free = refl;
  quiet_since = refl;
  first_idle_time = refl;
  no_loose_end = refl;
  second_write = refl;
  partly_taken = refl;
  all_taken = refl;
  second_waits = refl;
  two_frames = refl;
  second_frame = refl;
  is_bad = refl;
  is_closed = refl;
  backs_off = BackingOff refl (inl (record { recent = omega arith; broke = ConnectionEnded 0 _ refl refl refl (ByBadFrame refl) }));
  opens_again = refl;
  is_no_answer = refl;
  frees_the_id = refl;
  late_frame = refl;
  has_ended = refl;
  backs_off_too = BackingOff refl (inl (record { recent = omega arith; broke = OpeningFailed _ 0 Refused _ refl refl refl refl }));
  says_zero = refl;
  idle_is_zero = refl;
  nothing_is_held = refl;
  two_came = refl;
}
