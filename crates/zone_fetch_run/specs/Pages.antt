-- What the program tells of itself.
use Rattle.std.specs.Prelude.{ℕ, List, codes}
use Rattle.program_words.specs.Pages.{version_line}
use Rattle.program_words.specs.declared.page.Page.{Page}
use Rattle.program_words.specs.declared.page.Page.TheVariants.{Help, Version}

-- its help, or the line of its release
abbrev pub page_text : (help : List ℕ) → Page → List ℕ
page_text help Help = help
page_text help Version = version_line (codes "zone_fetch")
