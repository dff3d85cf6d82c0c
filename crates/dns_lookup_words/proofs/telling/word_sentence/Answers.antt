use Rattle.dns_lookup_words.proofs.telling.word_sentence.Goals as goal

pub returns : goal.returns
returns c = rw c.wrong_text-text.ensures at c.in_ok-format.ensures.ok
