use Rattle.std.proofs.Common.{drop, rules, arith}
use Rattle.std.proofs.lemmas.Bool.{false≢true}
use Rattle.dns_lookup_words.proofs.ShortAddresses.{first_within, tail_legal, tail_spelled}
use Rattle.dns_lookup_words.proofs.short_address.above.Goals as goal

pub bounds-octets-0 : goal.bounds-octets-0
bounds-octets-0 c = omega (arith, first_within c.as_octets-octets.result.now c.args.name.now c.as_octets-octets.ensures.octets)

pub slice_bounds-respell-count : goal.slice_bounds-respell-count
slice_bounds-respell-count c = first_within c.as_octets-octets.result.now c.args.name.now c.as_octets-octets.ensures.octets

pub slice_bounds-respell-start : goal.slice_bounds-respell-start
slice_bounds-respell-start c = let within = first_within c.as_octets-octets.result.now c.args.name.now c.as_octets-octets.ensures.octets in search (rules, within)

pub respell-requires : goal.respell-requires
respell-requires c =
    (drop 1 c.args.name.now, tail_legal c.args.name.now c.as_octets-octets.ensures.legal, tail_spelled c.as_octets-octets.result.now c.args.name.now c.as_octets-octets.ensures.octets (λ root. false≢true (c.if-is_root.ensures.1 root)))
