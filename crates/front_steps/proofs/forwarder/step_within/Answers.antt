use Rattle.std.proofs.Common.{refl, [], ◌∷◌}
use Rattle.front_steps.proofs.forwarder.step_within.Goals as goal

pub returns-clause-did : goal.returns-clause-did
returns-clause-did g c = record {
  rows = c.in_ok-row.row ∷ [];
  did = record {
    row = c.in_ok-row.row;
    rows_are = refl;
    event_is = c.in_ok-row.ensures.event;
    stepped = c.in_ok-row.ensures.row;
    outs_are = c.in_ok-put_all.ensures.outs;
    desk_is = c.in_ok-put_all.ensures.desk;
  };
  is_some_is = refl;
}
