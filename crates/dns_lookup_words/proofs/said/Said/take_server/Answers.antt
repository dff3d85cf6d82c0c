use Rattle.dns_lookup_words.proofs.said.Said.take_server.Goals as goal

pub returns : goal.returns
returns c = rw c.is_empty-is_first.ensures at c.take_server_in.ensures
