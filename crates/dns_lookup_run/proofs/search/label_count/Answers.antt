use Rattle.std.proofs.Common.{inl, length, ap, arith}
use Rattle.dns_names.proofs.NameLaws.{few_labels}
use Rattle.dns_lookup_run.proofs.search.label_count.Goals as goal

pub count-requires-clause-fits : goal.count-requires-clause-fits
count-requires-clause-fits c =
    let legal = c.labels.ensures.legal in
    inl (omega (arith, ap length c.labels.ensures.all, few_labels c.parsed.result legal.0, legal.1))
