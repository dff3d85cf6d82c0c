-- Words that ask for zones to be kept: `[--text] [--most OCTETS] --refresh LIST`.
use Rattle.std.specs.Prelude.{ℕ, ◌-◌, true, false, if◌then◌else◌, List, [], ◌∷◌, ◌++◌, codes, length, Option, None, Some, Result, Ok, Err, String, slice_get}
use Rattle.std.specs.Str.{bytes_eq}
use Rattle.std.specs.String.{string_bytes}
use Rattle.std.specs.declared.alloc.Global.{Global}
use Rattle.command_parts.specs.Numbers.{number_in}
use Rattle.zone_refresh_run.specs.declared.words.FrontWord.{FrontWord}
use Rattle.zone_refresh_run.specs.declared.words.FrontWord.TheVariants.{Refresh, Text, Most, Other}
use Rattle.zone_refresh_run.specs.declared.words.KeptForm.{KeptForm}
use Rattle.zone_refresh_run.specs.declared.words.Lead.{Lead}
use Rattle.zone_refresh_run.specs.declared.words.Lead.TheVariants.{On, ToList, Astray}
use Rattle.zone_refresh_run.specs.declared.words.Options.{Options}
use Rattle.zone_refresh_run.specs.declared.words.UnkeptList.{UnkeptList}
use Rattle.zone_refresh_run.specs.declared.words.UnkeptList.TheVariants.{NoList, More}

abbrev pub Texts : Type 0
Texts = List (String Global)

abbrev pub Asked : Type 0
Asked = Option (Result KeptForm UnkeptList)

-- before the first word: numbers and digits, and a billion octets of memory
abbrev pub no_option : Options
no_option = record { form = record { text = false; most = 1000000000 }; most_is_next = false }

unfoldable pub front_of : List ℕ → FrontWord
front_of word =
    if bytes_eq word (codes "--refresh") then Refresh
    else if bytes_eq word (codes "--text") then Text
    else if bytes_eq word (codes "--most") then Most
    else Other

-- ---- what a word leads to: an option to the next word, `--refresh` to the list, and another one nowhere

abbrev pub lead_by : Option ℕ → KeptForm → Lead
lead_by None form = Astray
lead_by (Some most) form = On (record { form = record form { most = most }; most_is_next = false })

abbrev pub lead_of_most : List ℕ → KeptForm → Lead
lead_of_most word form = lead_by (number_in 0 18446744073709551615 word) form

abbrev pub lead_at : FrontWord → KeptForm → Lead
lead_at Refresh form = ToList
lead_at Text form = On (record { form = record form { text = true }; most_is_next = false })
lead_at Most form = On (record { form = form; most_is_next = true })
lead_at Other form = Astray

abbrev pub lead_of_option : List ℕ → KeptForm → Lead
lead_of_option word form = lead_at (front_of word) form

abbrev pub lead_of : List ℕ → Options → Lead
lead_of word said = if said.most_is_next then lead_of_most word said.form else lead_of_option word said.form

-- one word is the list, and none stands behind it
abbrev pub list_in : Texts → KeptForm → Result KeptForm UnkeptList
list_in [] form = Err NoList
list_in (word ∷ []) form = Ok form
list_in (word ∷ more ∷ words) form = Err More

abbrev pub led : Lead → Texts → KeptForm → (on : Options → Asked) → Asked
led (On next) words form on = on next
led ToList words form on = Some (list_in words form)
led Astray words form on = None

-- what words say behind options that say this
abbrev pub asked_behind : Texts → Options → Asked
asked_behind [] said = None
asked_behind (word ∷ words) said = led (lead_of (string_bytes word) said) words said.form (λ next. asked_behind words next)

abbrev pub refresh_asked : Texts → Asked
refresh_asked words = asked_behind words no_option

-- ---- the list, or why words are no command

abbrev pub text_of : Option (String Global) → List ℕ
text_of None = []
text_of (Some word) = string_bytes word

abbrev pub last_word : Texts → List ℕ
last_word words = text_of (slice_get words (length words - 1))

abbrev pub unkept_sentence : Texts → UnkeptList → List ℕ
unkept_sentence words NoList = codes "zone_fetch: no list stands behind --refresh; see zone_fetch --help\n"
unkept_sentence words More = codes "zone_fetch: " ++ (last_word words ++ codes " stands behind the list, where no word may; see zone_fetch --help\n")
