use Rattle.std.proofs.Common.{rules}
use Rattle.socket_places.proofs.place.Place.go_on.Goals as goal

-- What waited first was handed over, and this is what the socket answered.
pub returns : goal.returns
returns g c = record {
  octets = c.in-Some.octets.now;
  answer = c.in_ok-answer.answer;
  is_first = search rules;
  deal = record { after = search rules; tells = search rules };
}
