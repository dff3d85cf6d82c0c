-- What a word of the options prints.
use Rattle.std.specs.Prelude.{ℕ, List, [], ◌++◌, Bool, codes, decimal, Option, Some, None}
use Rattle.resolv_conf.specs.declared.show.OptionWord.{OptionWord}

abbrev pub value_text : Option ℕ → List ℕ
value_text None = []
value_text (Some n) = codes ":" ++ decimal n

-- whether it is printed, and its text
unfoldable pub shown_word : OptionWord → Bool × List ℕ
shown_word w = (w.shown, w.name.now ++ value_text w.value)
