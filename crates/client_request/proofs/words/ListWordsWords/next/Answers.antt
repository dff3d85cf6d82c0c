use Rattle.std.proofs.Common.{sym, ap, ◌∙◌, map, drop, Some}
use Rattle.std.proofs.lemmas.List.{drop-drop}
use Rattle.client_request.specs.Words.{WordsLeft, word_of}
use Rattle.client_request.proofs.words.ListWordsWords.next.Goals as goal

pub returns-in-Some-clause-left : goal.returns-in-Some-clause-left
returns-in-Some-clause-left c =
    ap Some
    (sym (drop-drop 1 c.self.inside.next (map word_of c.self.inside.words))
    ∙ ap (λ (w : WordsLeft). drop 1 w.items) c.self.view_is)
