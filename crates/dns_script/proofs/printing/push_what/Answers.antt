-- The words that the call adds are those of the variant.
use Rattle.std.proofs.Common.{append_assoc}
use Rattle.dns_script.proofs.printing.push_what.Goals as goal

pub returns-in-OpenFailed : goal.returns-in-OpenFailed
returns-in-OpenFailed c = rw c.in-OpenFailed.is (rw append_assoc at c.push_failed.ensures)

pub returns-in-ShortSend : goal.returns-in-ShortSend
returns-in-ShortSend c = rw c.in-ShortSend.is (rw append_assoc at c.push_place-in-ShortSend.ensures)

pub returns-in-RecvFailed : goal.returns-in-RecvFailed
returns-in-RecvFailed c = rw c.in-RecvFailed.is (rw append_assoc at c.push_failed-in-RecvFailed.ensures)

pub returns-in-WriteFailed : goal.returns-in-WriteFailed
returns-in-WriteFailed c = rw c.in-WriteFailed.is (rw append_assoc at c.push_failed-in-WriteFailed.ensures)
