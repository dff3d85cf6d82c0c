-- The laws of a connection, as they are proved one by one.
use Rattle.proof_parts.specs.Connections.{LinesAreTied}
use Rattle.proof_parts.proofs.Calling.{queues_so, gives_up_so}
use Rattle.proof_parts.proofs.Ending.{ends_so}
use Rattle.proof_parts.proofs.Frames.{frame_so}
use Rattle.proof_parts.proofs.Timers.{fires_so}
use Rattle.proof_parts.proofs.Writing.{wrote_so}
use Rattle.right_trace.specs.Trace.{Conf}

pub lines_are_tied : (c : Conf) → LinesAreTied c
lines_are_tied c = record {
  takes_on = λ server p settings set names m x s v line fair k a is away new alone number octets heard. queues_so c server p settings set names m x s v line fair k a is away new alone number octets heard;
  hears = λ p names m x s v line fair settled f. frame_so c p names m x s v line fair settled f;
  writes = λ server p settings set names m x s v line fair settled heard count. wrote_so c server p settings set names m x s v line fair settled heard count;
  gives_up = λ p names m x s v line i k named at. gives_up_so c p names m x s v line i k named at;
  fires = λ server p names m x s v line fair settled timer due set late. fires_so c server p names m x s v line fair settled timer due set late;
  ends = λ p names m x s v line fair error right. ends_so p names m x.ids s v line.seated line.fits.order.sorted line.fits.queue fair error right;
}
