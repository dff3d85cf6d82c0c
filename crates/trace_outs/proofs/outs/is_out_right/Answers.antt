use Rattle.trace_outs.proofs.Judging.{of_out}
use Rattle.trace_outs.proofs.outs.is_out_right.Goals as goal

pub returns-in-Start : goal.returns-in-Start
returns-in-Start c = let a = c.args in of_out a.point.now a.loads.now a.held.now a.out.now c.is_start_right.result c.in-Start.is c.is_start_right.ensures

pub returns-in-OpenDgram : goal.returns-in-OpenDgram
returns-in-OpenDgram c = let a = c.args in of_out a.point.now a.loads.now a.held.now a.out.now c.is_dgram_right.result c.in-OpenDgram.is c.is_dgram_right.ensures

pub returns-in-OpenStream : goal.returns-in-OpenStream
returns-in-OpenStream c = let a = c.args in of_out a.point.now a.loads.now a.held.now a.out.now c.is_stream_right.result c.in-OpenStream.is c.is_stream_right.ensures

pub returns-in-Resume : goal.returns-in-Resume
returns-in-Resume c = let a = c.args in of_out a.point.now a.loads.now a.held.now a.out.now c.is_resume_right.result c.in-Resume.is c.is_resume_right.ensures

pub returns-in-Stale : goal.returns-in-Stale
returns-in-Stale c = let a = c.args in of_out a.point.now a.loads.now a.held.now a.out.now c.is_mark_right.result c.in-Stale.is c.is_mark_right.ensures
