-- Words that stand in files: where a word stands, which words name files, and which are in these.
use Rattle.std.specs.Prelude.{◌≡◌, ℕ, ◌==◌, ◌||◌, not, Bool, true, false, if◌then◌else◌, List, [], ◌∷◌, ◌++◌, length, codes, is_none, filter, Option, None, Some, option_and_then, String}
use Rattle.std.specs.Char.{is_ascii_whitespace}
use Rattle.std.specs.List.{flat_map, slice_split}
use Rattle.std.specs.Str.{bytes_eq}
use Rattle.std.specs.String.{string_bytes}
use Rattle.std.specs.declared.alloc.Global.{Global}
use Rattle.dns_lookup_files.specs.declared.filed.FileFault.{FileFault}
use Rattle.dns_lookup_files.specs.declared.filed.FileFault.TheVariants as faults
use Rattle.dns_lookup_files.specs.declared.place.Place.{Place}
use Rattle.dns_lookup_files.specs.declared.place.Place.TheVariants as places

-- the text behind an octet that stands first
abbrev pub behind : ℕ → List ℕ → Option (List ℕ)
behind sign [] = None
behind sign (c ∷ text) = if c == sign then Some text else None

-- where the word behind one stands that may be an option
unfoldable pub behind_option : List ℕ → Place
behind_option word =
    if bytes_eq word (codes "--") then places.Ended
    else if bytes_eq word (codes "-f") then places.File
    else if bytes_eq word (codes "-q") || (bytes_eq word (codes "-t") || (bytes_eq word (codes "-c") || (bytes_eq word (codes "-p") || bytes_eq word (codes "-x")))) then places.Value
    else places.Free

abbrev pub place_behind : Place → List ℕ → Place
place_behind places.Free word = behind_option word
place_behind places.Value word = places.Free
place_behind places.File word = places.Free
place_behind places.Ended word = places.Ended

-- what stands behind the `-f` that a word begins with
abbrev pub file_text : List ℕ → Option (List ℕ)
file_text word = option_and_then (behind 102) (behind 45 word)

abbrev pub option_list : Option (List ℕ) → List (List ℕ)
option_list None = []
option_list (Some text) = text ∷ []

-- the file that a word names behind its `-f`
abbrev pub glued_file : Option (List ℕ) → Option (List ℕ)
glued_file None = None
glued_file (Some []) = None
glued_file (Some (c ∷ name)) = Some (c ∷ name)

abbrev pub file_named : Place → List ℕ → Option (List ℕ)
file_named places.Free word = glued_file (file_text word)
file_named places.Value word = None
file_named places.File word = Some word
file_named places.Ended word = None

-- whether a word stays, which is neither the name of a file nor `-f`
abbrev pub is_kept : Place → List ℕ → Bool
is_kept places.Free word = is_none (file_text word)
is_kept places.Value word = true
is_kept places.File word = false
is_kept places.Ended word = true

abbrev pub named_in : Place → List ℕ → List (List ℕ)
named_in place word = option_list (file_named place word)

abbrev pub kept_in : Place → List ℕ → List (List ℕ)
kept_in place word = if is_kept place word then word ∷ [] else []

-- the names of the files, from a place on
abbrev pub files_from : Place → List (String Global) → List (List ℕ)
files_from place [] = []
files_from place (word ∷ words) = named_in place (string_bytes word) ++ files_from (place_behind place (string_bytes word)) words

-- the words that stay, among which is a last `-f`, behind which no word stands
abbrev pub last_words : Place → List (List ℕ)
last_words places.Free = []
last_words places.Value = []
last_words places.File = codes "-f" ∷ []
last_words places.Ended = []

abbrev pub kept_from : Place → List (String Global) → List (List ℕ)
kept_from place [] = last_words place
kept_from place (word ∷ words) = kept_in place (string_bytes word) ++ kept_from (place_behind place (string_bytes word)) words

-- a line that begins with `#` or `;` has no words
abbrev pub is_comment : List ℕ → Bool
is_comment [] = false
is_comment (c ∷ line) = (c == 35) || (c == 59)

-- what stands between white space of ASCII
abbrev pub line_words : List ℕ → List (List ℕ)
line_words line = if is_comment line then [] else filter (λ word. not (length word == 0)) (slice_split is_ascii_whitespace line)

-- the words of a text, line by line
abbrev pub text_words : List ℕ → List (List ℕ)
text_words text = flat_map line_words (slice_split (λ c. c == 10) text)

-- The file of a name has these words, where the files are known.
abbrev pub HasWords : Option (List ℕ → Option (List ℕ)) → (name : List ℕ) → (words : List (List ℕ)) → Type 0
HasWords None name words = Unit {0}
HasWords (Some file_at) name words = (text : List ℕ) × (file_at name ≡ Some text) × (words ≡ text_words text)

-- Files of these names were read one after another, and have these words.
pub data HaveWords {O : Type 0} (files : O → Option (List ℕ → Option (List ℕ))) : List (List ℕ) → List (List ℕ) → O → O → Type 0 where
  no_file : (o : O) → HaveWords files [] [] o o
  one_file : (name : List ℕ) (names words more all : List (List ℕ)) (old mid new : O) → HasWords (files old) name words → HaveWords files names more mid new
      → all ≡ words ++ more → HaveWords files (name ∷ names) all old new

-- The words that stay, and behind them those of the files.
pub record AreWithFiles {O : Type 0} (files : O → Option (List ℕ → Option (List ℕ))) (words : List (String Global)) (all : List (List ℕ)) (old new : O) : Type 0 where
  pub filed : List (List ℕ)
  pub read : HaveWords files (files_from places.Free words) filed old new
  pub all_is : all ≡ kept_from places.Free words ++ filed

-- The words of a file were added.
abbrev pub AddsWords : Option (List ℕ → Option (List ℕ)) → (name : List ℕ) → (old new : List (List ℕ)) → Type 0
AddsWords files name old new = (words : List (List ℕ)) × HasWords files name words × (new ≡ old ++ words)

-- The fault names the file of this name, or memory ran out.
abbrev pub IsUnread : (name : List ℕ) → FileFault → Type 0
IsUnread name (faults.Unread file) = string_bytes file ≡ name
IsUnread name faults.NoMemory = Unit {0}
