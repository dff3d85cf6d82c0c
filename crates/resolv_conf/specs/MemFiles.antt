-- Files in memory.
use Rattle.std.specs.Prelude.{◌≡◌, ◌⊎◌, ℕ, List, [], map, String, string_bytes, Option, Some, None, slice_get, true}
use Rattle.std.specs.Option.{option_map_or}
use Rattle.std.specs.Str.{bytes_eq}
use Rattle.std.specs.Map.{lookup}
use Rattle.dns_values.specs.Source.{is_listed}

-- each path with its octets, what is left to read of the open file, the numbers of the calls that fail, the calls so far, and the faults
pub record FilesInMemory : Type 0 where
  pub paths : List (List ℕ × List ℕ)
  pub rest : List ℕ
  pub fails : List ℕ
  pub calls : ℕ
  pub faults : ℕ

-- the files of a map
abbrev pub paths_of : {Y : Type 0} → List (String Y × List ℕ) → List (List ℕ × List ℕ)
paths_of files = map (λ f. (string_bytes f.0, f.1)) files

-- the octets of the file at a path
abbrev pub file_at : List (List ℕ × List ℕ) → List ℕ → Option (List ℕ)
file_at paths path = lookup (λ p. bytes_eq path p) paths

-- the octets of the file that stands there; none where no file is open
abbrev pub octets_at : {K : Type 0} → List (K × List ℕ) → ℕ → List ℕ
octets_at files place = option_map_or (λ f. f.1) (slice_get files place) []

abbrev pub octets_of : {K : Type 0} → List (K × List ℕ) → Option ℕ → List ℕ
octets_of files None = []
octets_of files (Some place) = octets_at files place

-- The call is one that fails, or there is no file.
abbrev pub IsShut : ℕ → List ℕ → Option (List ℕ) → Type 0
IsShut call fails file = (is_listed call fails ≡ true) ⊎ (file ≡ None)
