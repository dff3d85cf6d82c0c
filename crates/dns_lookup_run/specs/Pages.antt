-- What the program tells of itself.
use Rattle.std.specs.Prelude.{ℕ, if◌then◌else◌, List, [], ◌∷◌, codes, Option, None, Some, String}
use Rattle.std.specs.Str.{bytes_eq}
use Rattle.std.specs.String.{string_bytes}
use Rattle.std.specs.declared.alloc.Global.{Global}
use Rattle.program_words.specs.Pages.{page_asked, version_line}
use Rattle.program_words.specs.declared.page.Page.{Page}
use Rattle.program_words.specs.declared.page.Page.TheVariants.{Help, Version}

-- its help, or the line of its release
abbrev pub page_text : (help : List ℕ) → Page → List ℕ
page_text help Help = help
page_text help Version = version_line (codes "dns_lookup")

-- what asks for one: the words of every program, or `-h`, `-v` or `-V` alone, as dig and kdig have them
unfoldable pub letter_page : List ℕ → Option Page
letter_page word =
    if bytes_eq word (codes "-h") then Some Help
    else if bytes_eq word (codes "-v") then Some Version
    else if bytes_eq word (codes "-V") then Some Version
    else None

abbrev pub letter_alone : List (String Global) → Option Page
letter_alone [] = None
letter_alone (word ∷ []) = letter_page (string_bytes word)
letter_alone (word ∷ more ∷ words) = None

abbrev pub or_page : Option Page → Option Page → Option Page
or_page (Some page) other = Some page
or_page None other = other

abbrev pub page_of : List (String Global) → Option Page
page_of words = or_page (page_asked words) (letter_alone words)
