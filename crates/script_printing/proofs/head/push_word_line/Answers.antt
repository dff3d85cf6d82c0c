use Rattle.script_printing.proofs.Telling.{word_line}
use Rattle.script_printing.proofs.head.push_word_line.Goals as goal

pub returns : goal.returns
returns c =
    word_line c.args.text.now.items c.extend_from_slice.new.self.items c.push_words.new.text.items c.push.new.self.items c.args.words.now c.is_empty.result c.is_empty.ensures c.if-is_empty.false
    c.in_ok-extend_from_slice.ensures.items c.in_ok-push_words.ensures c.in_ok-push.ensures.items
