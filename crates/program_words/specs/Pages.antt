-- What a program tells of itself.
use Rattle.std.specs.Prelude.{ℕ, if◌then◌else◌, List, [], ◌∷◌, ◌++◌, codes, Option, None, Some, String}
use Rattle.std.specs.Str.{bytes_eq}
use Rattle.std.specs.String.{string_bytes}
use Rattle.std.specs.declared.alloc.Global.{Global}
use Rattle.program_words.specs.declared.page.Page.{Page}
use Rattle.program_words.specs.declared.page.Page.TheVariants as pages

unfoldable pub page_of : List ℕ → Option Page
page_of word =
    if bytes_eq word (codes "--help") then Some pages.Help
    else if bytes_eq word (codes "--version") then Some pages.Version
    else None

-- one word alone asks for a page
abbrev pub page_asked : List (String Global) → Option Page
page_asked [] = None
page_asked (word ∷ []) = page_of (string_bytes word)
page_asked (word ∷ more ∷ words) = None

-- the line of a release
abbrev pub version_line : (program : List ℕ) → List ℕ
version_line program = program ++ codes " 1.0.0 (proved with Rattle's logic dac8208d650f15bf)\n"
