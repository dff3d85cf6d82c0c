use Rattle.dns_base.proofs.named_data.+strings_size.Given as goal

abbrev pub decreases-strings_size : goal.decreases-strings_size
decreases-strings_size l = l.count
