-- What options set that begin with a plus.
use Rattle.std.specs.Prelude.{ℕ, ◌==◌, ◌&&◌, Bool, true, false, if◌then◌else◌, List, codes, Option, None, Some, Result, Ok, Err}
use Rattle.std.specs.Result.{result_ok}
use Rattle.std.specs.Str.{bytes_eq}
use Rattle.dns_names.specs.Name.{Labels}
use Rattle.dns_names.specs.Text.{name_of_text}
use Rattle.dns_lookup_words.specs.Asks.{all_set, flag_set, part_set, walking}
use Rattle.dns_lookup_words.specs.Numbers.{number_up_to}
use Rattle.dns_lookup_words.specs.declared.lacking.Lack.{Lack}
use Rattle.dns_lookup_words.specs.declared.lacking.Lack.TheVariants as lacks
use Rattle.dns_lookup_words.specs.declared.manner.Announced.{Announced}
use Rattle.dns_lookup_words.specs.declared.manner.Announced.TheVariants.{Nothing, Size, Usual}
use Rattle.dns_lookup_words.specs.declared.manner.Flags.{Flags}
use Rattle.dns_lookup_words.specs.declared.manner.Layout.{Layout}
use Rattle.dns_lookup_words.specs.declared.options.Sets.{Sets}
use Rattle.dns_lookup_words.specs.declared.options.Sets.TheVariants as sets
use Rattle.dns_lookup_words.specs.declared.said.Said.{Said}
use Rattle.dns_lookup_words.specs.declared.wrong.Wrong.{Wrong}
use Rattle.dns_lookup_words.specs.declared.wrong.Wrong.TheVariants as wrongs

-- `+time=SECONDS`, the last of which counts, and 0 as 1
abbrev pub time_given : Option ℕ → Said → Result Said Wrong
time_given None said = Err wrongs.Time
time_given (Some seconds) said = Ok (record said { seconds = Some (if seconds == 0 then 1 else seconds) })

abbrev pub time_said : List ℕ → Said → Result Said Wrong
time_said text said = time_given (number_up_to 600 text) said

-- `+tries=COUNT`, the last of which counts, and 0 as 1
abbrev pub tries_given : Option ℕ → Said → Result Said Wrong
tries_given None said = Err wrongs.Tries
tries_given (Some tries) said = Ok (record said { tries = Some (if tries == 0 then 1 else tries) })

abbrev pub tries_said : List ℕ → Said → Result Said Wrong
tries_said text said = tries_given (number_up_to 5 text) said

-- `+bufsize=OCTETS`, and `+bufsize` for the usual size; of these and of `+[no]edns` the last counts
abbrev pub with_announced : Announced → Said → Said
with_announced announced said = record said { announced = announced }

abbrev pub size_given : Option ℕ → Said → Result Said Wrong
size_given None said = Err wrongs.Size
size_given (Some size) said = Ok (with_announced (Size size) said)

abbrev pub size_said : List ℕ → Said → Result Said Wrong
size_said text said = size_given (number_up_to 65535 text) said

abbrev pub size_bare : Bool → Said → Result Said Wrong
size_bare on said = if on then Ok (with_announced Usual said) else Err wrongs.Size

-- `+[no]edns`: a size is announced, the usual one where none was said, or none is
abbrev pub edns_set : Bool → Announced → Announced
edns_set false announced = Nothing
edns_set true Nothing = Usual
edns_set true Usual = Usual
edns_set true (Size size) = Size size

-- `+ndots=COUNT`, the last of which counts
abbrev pub dots_given : Option ℕ → Said → Result Said Wrong
dots_given None said = Err wrongs.Dots
dots_given (Some dots) said = Ok (record said { dots = Some dots })

abbrev pub dots_said : List ℕ → Said → Result Said Wrong
dots_said text said = dots_given (number_up_to 65535 text) said

-- `+domain=NAME`, the last of which counts: this suffix is searched
abbrev pub domain_given : Option Labels → Said → Result Said Wrong
domain_given None said = Err wrongs.Suffix
domain_given (Some name) said = Ok (record said { search = true; domain = Some name })

abbrev pub domain_said : List ℕ → Said → Result Said Wrong
domain_said text said = domain_given (result_ok (name_of_text text)) said

-- what is always done can be asked for, and what never is can be left
abbrev pub only_on : Lack → Bool → Said → Result Said Wrong
only_on lack on said = if on then Ok said else Err (wrongs.Lacking lack)

abbrev pub only_off : Lack → Bool → Said → Result Said Wrong
only_off lack on said = if on then Err (wrongs.Lacking lack) else Ok said

abbrev pub with_flags : Flags → Said → Said
with_flags flags said = record said { asking = record said.asking { manner = record said.asking.manner { flags = flags } } }

abbrev pub with_layout : Layout → Said → Said
with_layout layout said = record said { asking = record said.asking { manner = record said.asking.manner { layout = layout } } }

-- `+[no]trace`: each name as it stands is asked for from the root on
abbrev pub with_walk : Bool → Said → Said
with_walk true said = record said { walk = true; search = false; asking = record said.asking { manner = walking said.asking.manner } }
with_walk false said = record said { walk = false }

-- an option without a value
abbrev pub set_bare : Sets → Bool → Said → Result Said Wrong
set_bare sets.Tcp on said = Ok (record said { tcp = on })
set_bare sets.Time on said = Err wrongs.Time
set_bare sets.Tries on said = Err wrongs.Tries
set_bare sets.Size on said = size_bare on said
set_bare (sets.Flag flag) on said = Ok (with_flags (flag_set flag on said.asking.manner.flags) said)
set_bare (sets.Part part) on said = Ok (with_layout (part_set part on said.asking.manner.layout) said)
set_bare sets.Search on said = Ok (record said { search = on })
set_bare sets.Domain on said = Err wrongs.Suffix
set_bare sets.Dots on said = Err wrongs.Dots
set_bare sets.Walk on said = Ok (with_walk on said)
set_bare sets.All on said = Ok (with_layout (all_set on said.asking.manner.layout) said)
set_bare sets.Edns on said = Ok (with_announced (edns_set on said.announced) said)
set_bare (sets.Already lack) on said = only_on lack on said
set_bare (sets.Never lack) on said = only_off lack on said
set_bare (sets.Absent lack) on said = Err (wrongs.Lacking lack)

-- and with one, which time, tries, a payload size, a suffix, a count of dots and the version of EDNS have
abbrev pub time_valued : Bool → List ℕ → Said → Result Said Wrong
time_valued on text said = if on then time_said text said else Err wrongs.Time

abbrev pub tries_valued : Bool → List ℕ → Said → Result Said Wrong
tries_valued on text said = if on then tries_said text said else Err wrongs.Tries

abbrev pub size_valued : Bool → List ℕ → Said → Result Said Wrong
size_valued on text said = if on then size_said text said else Err wrongs.Size

abbrev pub domain_valued : Bool → List ℕ → Said → Result Said Wrong
domain_valued on text said = if on then domain_said text said else Err wrongs.Suffix

abbrev pub dots_valued : Bool → List ℕ → Said → Result Said Wrong
dots_valued on text said = if on then dots_said text said else Err wrongs.Dots

abbrev pub version_said : List ℕ → Bool → Said → Result Said Wrong
version_said text on said =
    if on && bytes_eq text (codes "0") then Ok (with_announced (edns_set true said.announced) said) else Err (wrongs.Lacking lacks.Extension)

abbrev pub set_valued : Sets → Bool → List ℕ → Said → Result Said Wrong
set_valued sets.Tcp on text said = Err wrongs.Valued
set_valued sets.Time on text said = time_valued on text said
set_valued sets.Tries on text said = tries_valued on text said
set_valued sets.Size on text said = size_valued on text said
set_valued (sets.Flag flag) on text said = Err wrongs.Valued
set_valued (sets.Part part) on text said = Err wrongs.Valued
set_valued sets.Search on text said = Err wrongs.Valued
set_valued sets.Domain on text said = domain_valued on text said
set_valued sets.Dots on text said = dots_valued on text said
set_valued sets.Walk on text said = Err wrongs.Valued
set_valued sets.All on text said = Err wrongs.Valued
set_valued sets.Edns on text said = version_said text on said
set_valued (sets.Already lack) on text said = Err wrongs.Valued
set_valued (sets.Never lack) on text said = Err (wrongs.Lacking lack)
set_valued (sets.Absent lack) on text said = Err (wrongs.Lacking lack)

abbrev pub set_by : Sets → Bool → Option (List ℕ) → Said → Result Said Wrong
set_by s on None said = set_bare s on said
set_by s on (Some text) said = set_valued s on text said

abbrev pub plus_at : Option Sets → Bool → Option (List ℕ) → Said → Result Said Wrong
plus_at None on value said = Err wrongs.Option
plus_at (Some s) on value said = set_by s on value said
