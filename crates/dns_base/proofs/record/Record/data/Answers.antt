use Rattle.std.proofs.Common.{refl}
use Rattle.std.specs.Prelude.{slice_range}
use Rattle.dns_base.specs.Data.{data_at}
use Rattle.dns_base.specs.Message.{Known}
use Rattle.dns_base.proofs.ReadData.{typed_if_read, short_if_read, itself_if_read}
use Rattle.dns_base.proofs.record.Record.data.Goals as goal

pub returns-clause-typed : goal.returns-clause-typed
returns-clause-typed c = rw (← c.self.view_is) (typed_if_read c.data_at.result c.self.inside.rtype.0 c.self.inside.octets.now c.self.inside.at c.self.inside.end c.self.invariant.2 c.data_at.ensures)

pub returns-clause-short : goal.returns-clause-short
returns-clause-short c = short_if_read c.data_at.result c.self.inside.rtype.0 c.self.inside.octets.now c.self.inside.at c.self.inside.end c.self.invariant.2 c.data_at.ensures

pub returns-clause-itself : goal.returns-clause-itself
returns-clause-itself c =
    let known : Known = record {
      entry = record {
        owner = c.self.inside.owner;
        rtype = c.self.inside.rtype.0;
        class = c.self.inside.class.0;
        ttl = c.self.inside.ttl.0;
        octets = slice_range c.self.inside.octets.now c.self.inside.at c.self.inside.end;
      };
      says = data_at c.self.inside.rtype.0 c.self.inside.octets.now c.self.inside.at c.self.inside.end;
    } in
    rw (← c.self.view_is) (itself_if_read c.data_at.result known c.self.inside.octets.now c.self.inside.at c.self.inside.end c.self.invariant.2 refl refl c.data_at.ensures)
