-- The events of every plain trace may be cut.
use Rattle.std.proofs.Common.{◌∙◌}
use Rattle.client_settings.specs.Client.{default_transports}
use Rattle.client_steps.specs.Headline.{conf_of}
use Rattle.client_steps.specs.Whole.{client_with, machine, started_with}
use Rattle.proof_cutting.specs.Cuts.{EveryPlainTraceMayBeCut, TracesMayBeCut}
use Rattle.proof_cutting.proofs.OutsTold.{rows_are_told}
use Rattle.proof_cutting.proofs.Whole.{pieces_do_the_same}
use Rattle.right_settings.proofs.First.{first_given}
use Rattle.right_trace.specs.Trace.{first_transports}

pub traces_may_be_cut : TracesMayBeCut
traces_may_be_cut t given redundant cache conf words events rows are plain handed =
    let told = rows_are_told machine conf.options.timeout events (client_with words (started_with given redundant cache conf)) rows plain in
    record {
      client = told.0;
      whole = told.1;
      cut = λ cut is. pieces_do_the_same t given redundant cache conf words events cut are handed is ∙ told.1;
    }

pub every_plain_trace_may_be_cut : EveryPlainTraceMayBeCut
every_plain_trace_may_be_cut redundant cache conf words events rows plain handed = traces_may_be_cut first_transports default_transports redundant cache conf words events rows (first_given (conf_of conf)) plain handed
