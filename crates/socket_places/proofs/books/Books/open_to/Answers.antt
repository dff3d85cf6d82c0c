use Rattle.std.proofs.Common.{rules, Some}
use Rattle.socket_places.proofs.books.Books.open_to.Goals as goal

-- It was not opened, for this fault.
pub returns-in_ok-tell-in-Err : goal.returns-in_ok-tell-in-Err
returns-in_ok-tell-in-Err g c = record { why = Some c.in-Err.fault; opening = search rules; opened = search rules; others = search rules }
