use Rattle.std.proofs.Common.{◌≡◌, ◌+◌, ◌<◌, ap, sym, ◌∙◌, arith}
use Rattle.std.proofs.lemmas.Bool.{eqb-true, ltb-true}
use Rattle.dns_base.specs.Suffixes.{read_at}
use Rattle.dns_base.proofs.FirstPlaces.{next_read}
use Rattle.dns_base.proofs.OtherLabels.{octet_there}
use Rattle.dns_base.proofs.suffixes.is_next.Goals.{then-count-gt0, else-count-gt0}
use Rattle.dns_base.proofs.suffixes.is_next.Goals as goal

pub returns-then-count-lt64 : goal.returns-then-count-lt64
returns-then-count-lt64 c = λ same labels h.
    let octets = c.args.octets.now in
    let count = c.in-Some.count.now in
    let found = c.in-Some.ensures.lookup.3 in
    let there = octet_there octets c.args.place count found.0 (found.1 0) in
    let behind : c.args.next ≡ c.args.place + 1 + count = eqb-true _ _ same in
    elim c.if-count-gt0.branch [
      | then-count-gt0 w ↦
          let some : 0 < count = omega (arith, w.if-count-gt0) in
          let few : count < 64 = ltb-true count 64 (sym w.value-is ∙ c.if-count-lt64.true) in
          ap (read_at octets) behind ∙ next_read octets c.args.place count labels there some few h
      | else-count-gt0 w ↦ absurd (omega (arith, w.if-count-gt0, ltb-true 0 count (sym w.value-is ∙ c.if-count-lt64.true)))
    ]
