-- The names that are asked for in place of one, where suffixes are searched for it.
use Rattle.std.specs.Prelude.{◌==◌, ◌&&◌, not, Bool, if◌then◌else◌, List, [], ◌∷◌, ◌++◌, length, nat_lt, filter}
use Rattle.std.specs.List.{flat_map}
use Rattle.dns_names.specs.Name.{Labels}
use Rattle.dns_lookup_words.specs.declared.manner.Ask.{Ask}
use Rattle.resolv_conf.specs.declared.options.ResolvOptions.{ResolvOptions}
use Rattle.resolv_lookup.specs.Search.{chained}
use Rattle.dns_lookup_run.specs.declared.search.Try.{Try}

-- the suffixes of a list but for the root
abbrev pub suffixes_in : List Labels → List Labels
suffixes_in names = filter (λ name. not (length name == 0)) names

-- A name with as many dots as `ndots` says is asked for as it stands first, and any other last.
abbrev pub searched_names : ResolvOptions → Labels → List Labels
searched_names options name =
    if nat_lt options.ndots (length name) then name ∷ chained name (suffixes_in options.search)
    else chained name (suffixes_in options.search) ++ name ∷ []

abbrev pub names_of : (searched : Bool) → ResolvOptions → Ask → List Labels
names_of searched options ask = if searched && not ask.rooted then searched_names options ask.name else ask.name ∷ []

-- the same ask of each name, of which each but the last is followed by another
abbrev pub tries_by : Ask → List Labels → List Try
tries_by ask [] = []
tries_by ask (name ∷ later) = record { ask = record ask { name = name }; more = not (length later == 0) } ∷ tries_by ask later

-- what may be asked in place of asks
abbrev pub tries_of : (searched : Bool) → ResolvOptions → List Ask → List Try
tries_of searched options asks = flat_map (λ ask. tries_by ask (names_of searched options ask)) asks
