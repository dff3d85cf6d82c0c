use Rattle.std.proofs.Common.{◌≡◌, length, vec_len, sym, arith}
use Rattle.std.proofs.lemmas.Bool.{eqb-true}
use Rattle.dns_names.proofs.OwnOctets.{root_octets}
use Rattle.dns_names.proofs.owned.Name.as_octets.Goals as goal

pub returns-then-is_empty-clause-octets : goal.returns-then-is_empty-clause-octets
returns-then-is_empty-clause-octets c =
    let empty : vec_len c.self.inside.octets ≡ 0 = eqb-true _ _ (sym c.if-is_empty.ensures) in
    let none : length c.self.inside.octets.items ≡ 0 = omega arith in root_octets _ _ none c.self.view_is
