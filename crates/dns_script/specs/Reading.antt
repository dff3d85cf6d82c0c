-- Words that are read: a number, octets, a word of a list.
use Rattle.std.specs.Prelude.{◌≡◌, ℕ, ◌+◌, ◌*◌, ◌-◌, List, [], ◌∷◌, length, slice_index, take, drop, Option, Some, None, Result, Ok, Err, option_map, option_and_then, Bool, true, false, ◌&&◌, ◌||◌, ◌==◌, not, nat_lt, if◌then◌else◌, codes}
use Rattle.std.specs.Char.{is_ascii_digit}
use Rattle.std.specs.List.{position, slice_split}
use Rattle.std.specs.Str.{bytes_eq}
use Rattle.dns_values.specs.Decimal.{decimal_number}
use Rattle.dns_script.specs.declared.line.LineFault.{LineFault}
use Rattle.dns_script.specs.declared.line.LineFault.TheVariants as line

-- the parts between the separators
abbrev pub parts : ℕ → List ℕ → List (List ℕ)
parts separator octets = slice_split (λ octet. octet == separator) octets

-- what stands before the first separator, and what stands behind it
abbrev pub cut : ℕ → List ℕ → Option (List ℕ × List ℕ)
cut separator octets = option_map (λ at. (take at octets, drop (at + 1) octets)) (position (λ octet. octet == separator) octets)

-- the words of a line
abbrev pub words_of : List ℕ → List (List ℕ)
words_of line = parts 32 line

-- the words that are left: none where the last one was taken
abbrev pub words_left : Option (List ℕ) → List (List ℕ)
words_left None = []
words_left (Some line) = words_of line

-- a reader takes words from the front, and gives what they say and the words behind them
abbrev pub Reader : Type 0 → Type 0
Reader A = List (List ℕ) → Option (A × List (List ℕ))

-- What a function returned, and the words that it left, are what reading gives, unless memory ran out.
abbrev pub Gives : {A W : Type 0} → Result A LineFault → W → Option (A × W) → Type 0
Gives (Ok x) rest read = read ≡ Some (x, rest)
Gives (Err line.Refused) rest read = read ≡ None
Gives (Err line.NoMemory) rest read = Unit {0}

-- the same of what a function returned, seen by view, where it leaves nothing
abbrev pub Reads : {X A : Type 0} → (X → A) → Result X LineFault → Option A → Type 0
Reads view (Ok x) read = read ≡ Some (view x)
Reads view (Err line.Refused) read = read ≡ None
Reads view (Err line.NoMemory) read = Unit {0}

-- A test that must hold.
abbrev pub Checks : Result Unit LineFault → Bool → Type 0
Checks (Ok _) holds = holds ≡ true
Checks (Err line.Refused) holds = holds ≡ false
Checks (Err line.NoMemory) holds = Unit {0}

-- What a function made of a value is what reading gives, unless memory ran out.
abbrev pub Makes : {A : Type 0} → Result Unit LineFault → A → Option A → Type 0
Makes (Ok _) new read = read ≡ Some new
Makes (Err line.Refused) new read = read ≡ None
Makes (Err line.NoMemory) new read = Unit {0}

-- The same of a relation: what was made stands in it, or nothing does.
abbrev pub MakesBy : {A : Type 0} → Result Unit LineFault → A → (A → Type 0) → Type 0
MakesBy (Ok _) new Stands = Stands new
MakesBy {A} (Err line.Refused) new Stands = (next : A) → ¬ (Stands next)
MakesBy (Err line.NoMemory) new Stands = Unit {0}

infixl 10 ◌>>=◌
abbrev pub ◌>>=◌ : {A B : Type 0} → Option A → (A → Option B) → Option B
o >>= f = option_and_then f o

-- the first word, as it is read by f
abbrev pub one_word : {A : Type 0} → (List ℕ → Option A) → Reader A
one_word f [] = None
one_word f (word ∷ words) = option_map (λ x. (x, words)) (f word)

-- the value of the first entry that has this name
abbrev pub named : {A : Type 0} → List (List ℕ × A) → List ℕ → Option A
named [] word = None
named (entry ∷ entries) word = if bytes_eq word entry.0 then Some entry.1 else named entries word

-- a decimal number without sign or leading zeros
unfoldable pub number_of : ℕ → List ℕ → Option ℕ
number_of greatest word =
    if nat_lt 1 (length word) && slice_index word 0 == 48 then None else decimal_number greatest word

-- the number that a lower-case hexadecimal digit stands for
abbrev pub digit_of : ℕ → Option ℕ
digit_of digit =
    if is_ascii_digit digit then Some (digit - 48)
    else (if not (nat_lt digit 97) && nat_lt digit 103 then Some (digit - 87) else None)

abbrev pub octet_of : ℕ → ℕ → Option ℕ
octet_of high low = digit_of high >>= (λ h. option_map (λ l. 16 * h + l) (digit_of low))

-- an octet for each two digits
abbrev pub pairs : List ℕ → Option (List ℕ)
pairs [] = Some []
pairs (high ∷ []) = None
pairs (high ∷ low ∷ digits) = octet_of high low >>= (λ octet. option_map (λ octets. octet ∷ octets) (pairs digits))

-- octets as hexadecimal digits, and a hyphen for no octet
unfoldable pub octets_of : List ℕ → Option (List ℕ)
octets_of word = if bytes_eq word (codes "-") then Some [] else (if length word == 0 then None else pairs word)

-- one number or more
abbrev pub numbers_of : List (List ℕ) → Option (List ℕ)
numbers_of [] = Some []
numbers_of (word ∷ words) = number_of 18446744073709551615 word >>= (λ number. option_map (λ numbers. number ∷ numbers) (numbers_of words))
