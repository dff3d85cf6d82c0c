-- An octet was read, and two digits are done with.
use Rattle.std.proofs.Common.{rules, ◌≡◌, ◌++◌, ◌∷◌, [], sym, arith}
use Rattle.dns_script.proofs.Octets.{pairs_two}
use Rattle.dns_script.proofs.line.pairs.Goals as goal

pub loop-rest-preserved : goal.loop-rest-preserved
loop-rest-preserved c =
    let pushed : c.push_reserved.new.self.items ≡ c.loop-rest.octets.items ++ c.in-Some.octet ∷ [] = c.push_reserved.ensures.items in record {
      read = rw pushed (pairs_two c.loop-rest.octets.items c.loop-rest.rest.now c.in-Some.octet _ c.in-len2-up.len_at_least (sym c.in-Some.ensures) c.loop-rest.invariant.read);
      room = search rules;
    }
