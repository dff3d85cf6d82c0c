-- What is read and written of parts, one behind the other.
use Rattle.std.proofs.Common.{◌≡◌, ◌≤◌, ◌<◌, ◌+◌, ℕ, zero, suc, Bool, true, false, List, [], ◌∷◌, ◌++◌, length, take, drop, refl, sym, ◌∙◌, ap, subst, arith, append_assoc, length-drop}
use Rattle.std.specs.Prelude.{Option, Some, None, option_map, option_and_then, is_some, ◌==◌, ◌&&◌, nat_lt, nat_le, Result, if◌then◌else◌}
use Rattle.std.specs.List.{flat_map}
use Rattle.std.specs.Fmt.{DisplaysOnOk, WritesOnOk, HasWritten, IsPlainFormatter}
use Rattle.std.specs.declared.fmt.Formatter.{Formatter}
use Rattle.std.specs.declared.fmt.Error.{Error}
use Rattle.std.proofs.Output.{has_written_append, writes_in_calls_nil}
use Rattle.std.proofs.lemmas.Bool.{ltb-true, leb-true, eqb-true}
use Rattle.dns_presentation.specs.declared.counted.PartKind.{PartKind}
use Rattle.dns_presentation.specs.declared.counted.PartKind.TheVariants.{Text}
use Rattle.dns_presentation.specs.Counted.{split, cut, parts_within, parts_of, part_size, part_text, led_text, led_parts, spaced, spaced_parts, within_counts, strings_text}
use Rattle.dns_presentation.specs.Generic.{generic_text, or_generic}
use Rattle.dns_presentation.specs.Strings.{counted_size}
use Rattle.dns_presentation.proofs.OctetTexts.{both}

some_within : (least most : ℕ) (strings : List (List ℕ))
    → is_some (within_counts least most strings) ≡ (nat_le least (length strings) && nat_le (length strings) most)
some_within least most strings = go (nat_le least (length strings) && nat_le (length strings) most)
  where
    go : (b : Bool) → is_some (if b then Some (spaced Text strings) else None) ≡ b
    go true = refl
    go false = refl

-- a text, and another one behind it that may be none
pub behind_shown : {W : Type 0} (took : W → List ℕ → W → Type 0) (f mid g : Formatter W) (r : Result (Unit {0}) Error) (front : List ℕ) (o : Option (List ℕ))
    → (IsPlainFormatter f → HasWritten took f front mid) → DisplaysOnOk took mid r o g
    → DisplaysOnOk took f r (option_map (λ t. front ++ t) o) g
behind_shown took f mid g r front None h d = tt
behind_shown took f mid g r front (Some text) h d = λ p ok. has_written_append _ _ _ _ _ _ (h p) (d (h p).plain ok)

pub some_behind : (front : List ℕ) (o : Option (List ℕ)) → is_some o ≡ is_some (option_map (λ t. front ++ t) o)
some_behind front None = refl
some_behind front (Some text) = refl

-- a part leaves fewer octets
split_shorter : (octets : List ℕ) (count : ℕ) (found : List ℕ × List ℕ) → split octets count ≡ Some found → length found.1 < length octets
split_shorter octets count found e = go (nat_lt 0 count && nat_le count (length octets)) refl
  where
    go : (b : Bool) → (nat_lt 0 count && nat_le count (length octets)) ≡ b → length found.1 < length octets
    go false f = let none : None ≡ Some found = rw f at e in absurd cc
    go true f =
        let holds = both (nat_lt 0 count) (nat_le count (length octets)) f in
        let some : 0 < count = ltb-true 0 count holds.0 in
        let few : count ≤ length octets = leb-true count (length octets) holds.1 in
        let is : Some (take count octets, drop count octets) ≡ Some found = rw f at e in
        let pair : ◌≡◌ {A = List ℕ × List ℕ} (take count octets, drop count octets) found = cc in
        let rest : drop count octets ≡ found.1 = ap (λ x. x.1) pair in
        omega (arith, length-drop count octets, ap length rest)

cut_shorter : (size : List ℕ → Option ℕ) (octets : List ℕ) (found : List ℕ × List ℕ) → cut size octets ≡ Some found → length found.1 < length octets
cut_shorter size octets found e = go (size octets) refl
  where
    go : (o : Option ℕ) → size octets ≡ o → length found.1 < length octets
    go None f = let none : None ≡ Some found = rw f at e in absurd cc
    go (Some count) f = split_shorter octets count found (rw f at e)

-- any steps that are enough give the same
same_steps : (size : List ℕ → Option ℕ) (steps more : ℕ) (octets : List ℕ) → length octets ≤ steps → length octets ≤ more
    → parts_within size steps octets ≡ parts_within size more octets
unfolding parts_within
same_steps size zero zero octets h k = refl
same_steps size zero (suc more) [] h k = refl
same_steps size zero (suc more) (n ∷ octets) h k = absurd (omega arith)
same_steps size (suc steps) zero [] h k = refl
same_steps size (suc steps) zero (n ∷ octets) h k = absurd (omega arith)
same_steps size (suc steps) (suc more) [] h k = refl
same_steps size (suc steps) (suc more) (n ∷ octets) h k =
    go (cut size (n ∷ octets)) refl (λ rest few less. same_steps size steps more rest few less)
  where
    go : (o : Option (List ℕ × List ℕ)) → cut size (n ∷ octets) ≡ o
        → ((rest : List ℕ) → length rest ≤ steps → length rest ≤ more → parts_within size steps rest ≡ parts_within size more rest)
        → option_and_then (λ found. option_map (λ parts. found.0 ∷ parts) (parts_within size steps found.1)) o
        ≡ option_and_then (λ found. option_map (λ parts. found.0 ∷ parts) (parts_within size more found.1)) o
    go None e same = refl
    go (Some found) e same =
        let shorter = cut_shorter size (n ∷ octets) found e in
        let few : length found.1 ≤ steps = omega arith in
        let less : length found.1 ≤ more = omega arith in
        ap (option_map (λ parts. found.0 ∷ parts)) (same found.1 few less)

-- the part at the front is the first one
pub part_first : (size : List ℕ → Option ℕ) (octets part rest : List ℕ) → cut size octets ≡ Some (part, rest)
    → parts_of size octets ≡ option_map (λ parts. part ∷ parts) (parts_of size rest)
unfolding parts_within
part_first size [] part rest e = absurd (let h : length rest < 0 = cut_shorter size [] (part, rest) e in omega arith)
part_first size (n ∷ octets) part rest e =
    let shorter : length rest < length (n ∷ octets) = cut_shorter size (n ∷ octets) (part, rest) e in
    let few : length rest ≤ length octets = omega arith in
    let same : length rest ≤ length rest = omega arith in
    ap (option_and_then (λ (found : List ℕ × List ℕ). option_map (λ parts. found.0 ∷ parts) (parts_within size (length octets) found.1))) e
    ∙ ap (option_map (λ parts. part ∷ parts)) (same_steps size (length octets) (length rest) rest few same)

pub no_part_left : (size : List ℕ → Option ℕ) → parts_of size [] ≡ Some []
unfolding parts_within
no_part_left size = refl

pub no_part : (size : List ℕ → Option ℕ) (octets : List ℕ) → cut size octets ≡ None → 0 < length octets → parts_of size octets ≡ None
unfolding parts_within
no_part size [] e h = absurd (omega arith)
no_part size (n ∷ octets) e h =
    ap (option_and_then (λ (found : List ℕ × List ℕ). option_map (λ parts. found.0 ∷ parts) (parts_within size (length octets) found.1))) e

-- how many parts there are, where some were counted and the rest is left
pub counted_more : (size : List ℕ → Option ℕ) (whole rest part behind : List ℕ) (count : ℕ)
    → option_map length (parts_of size whole) ≡ option_map (λ n. count + n) (option_map length (parts_of size rest))
    → cut size rest ≡ Some (part, behind)
    → option_map length (parts_of size whole) ≡ option_map (λ n. (count + 1) + n) (option_map length (parts_of size behind))
counted_more size whole rest part behind count e f =
    e ∙ ap (λ o. option_map (λ n. count + n) (option_map length o)) (part_first size rest part behind f) ∙ go (parts_of size behind)
  where
    go : (o : Option (List (List ℕ))) → option_map (λ n. count + n) (option_map length (option_map (λ parts. part ∷ parts) o))
        ≡ option_map (λ n. (count + 1) + n) (option_map length o)
    go None = refl
    go (Some parts) = ap Some (omega arith)

pub counted_first : (size : List ℕ → Option ℕ) (whole : List ℕ) → option_map length (parts_of size whole) ≡ option_map (λ n. 0 + n) (option_map length (parts_of size whole))
counted_first size whole = go (parts_of size whole)
  where
    go : (o : Option (List (List ℕ))) → option_map length o ≡ option_map (λ n. 0 + n) (option_map length o)
    go None = refl
    go (Some parts) = ap Some (omega arith)

none_there : (n : ℕ) (b : Bool) → b ≡ (n == 0) → b ≡ true → n ≡ 0
none_there n b e f = eqb-true n 0 (sym e ∙ f)

some_there : (n : ℕ) (b : Bool) → b ≡ (n == 0) → b ≡ false → 0 < n
some_there zero b e f = let wrong : true ≡ false = sym e ∙ f in absurd cc
some_there (suc n) b e f = omega arith

-- and no part is left
pub counted_all : (size : List ℕ → Option ℕ) (whole rest : List ℕ) (count : ℕ) (b : Bool)
    → option_map length (parts_of size whole) ≡ option_map (λ n. count + n) (option_map length (parts_of size rest))
    → b ≡ (length rest == 0) → b ≡ true → Some count ≡ option_map length (parts_of size whole)
counted_all size whole rest count b e f h = go rest (none_there (length rest) b f h) e
  where
    go : (rest : List ℕ) → length rest ≡ 0 → option_map length (parts_of size whole) ≡ option_map (λ n. count + n) (option_map length (parts_of size rest))
        → Some count ≡ option_map length (parts_of size whole)
    go [] n e =
        let same : count ≡ count + 0 = omega arith in
        sym (e ∙ ap (λ o. option_map (λ n. count + n) (option_map length o)) (no_part_left size) ∙ ap Some (sym same))
    go (m ∷ rest) n e = absurd (omega arith)

pub counted_none : (size : List ℕ → Option ℕ) (whole rest : List ℕ) (count : ℕ) (b : Bool)
    → option_map length (parts_of size whole) ≡ option_map (λ n. count + n) (option_map length (parts_of size rest))
    → cut size rest ≡ None → b ≡ (length rest == 0) → b ≡ false → None ≡ option_map length (parts_of size whole)
counted_none size whole rest count b e f g h =
    sym (e ∙ ap (λ o. option_map (λ n. count + n) (option_map length o)) (no_part size rest f (some_there (length rest) b g h)))

-- the text of parts, where that of some is written and the rest is left
pub led_more : (kind : PartKind) (whole rest part behind text : List ℕ) → led_parts kind whole ≡ option_map (λ t. text ++ t) (led_parts kind rest)
    → cut (part_size kind) rest ≡ Some (part, behind)
    → led_parts kind whole ≡ option_map (λ t. (text ++ led_text kind part) ++ t) (led_parts kind behind)
led_more kind whole rest part behind text e f =
    e ∙ ap (λ o. option_map (λ t. text ++ t) (option_map (flat_map (led_text kind)) o)) (part_first (part_size kind) rest part behind f)
    ∙ go (parts_of (part_size kind) behind)
  where
    go : (o : Option (List (List ℕ))) → option_map (λ t. text ++ t) (option_map (flat_map (led_text kind)) (option_map (λ parts. part ∷ parts) o))
        ≡ option_map (λ t. (text ++ led_text kind part) ++ t) (option_map (flat_map (led_text kind)) o)
    go None = refl
    go (Some parts) = ap Some (sym (append_assoc text (led_text kind part) (flat_map (led_text kind) parts)))

pub led_first : (kind : PartKind) (whole : List ℕ) → led_parts kind whole ≡ option_map (λ t. [] ++ t) (led_parts kind whole)
led_first kind whole = go (led_parts kind whole)
  where
    go : (o : Option (List ℕ)) → o ≡ option_map (λ t. [] ++ t) o
    go None = refl
    go (Some text) = refl

pub append_none : (text : List ℕ) → text ++ [] ≡ text
append_none [] = refl
append_none (n ∷ text) = ap (λ t. n ∷ t) (append_none text)

pub led_end : {W : Type 0} (took : W → List ℕ → W → Type 0) (f g : Formatter W) (r : Result (Unit {0}) Error) (kind : PartKind) (whole rest text : List ℕ)
    → (IsPlainFormatter f → HasWritten took f text g) → led_parts kind whole ≡ option_map (λ t. text ++ t) (led_parts kind rest)
    → cut (part_size kind) rest ≡ None → DisplaysOnOk took f r (led_parts kind whole) g
led_end took f g r kind whole [] text h e n =
    let P : Option (List ℕ) → Type 0 = λ o. DisplaysOnOk took f r o g in
    let is : led_parts kind whole ≡ Some text =
    e ∙ ap (λ o. option_map (λ t. text ++ t) (option_map (flat_map (led_text kind)) o)) (no_part_left (part_size kind)) ∙ ap Some (append_none text) in
    subst P (sym is) (λ p ok. h p)
led_end took f g r kind whole (m ∷ rest) text h e n =
    let P : Option (List ℕ) → Type 0 = λ o. DisplaysOnOk took f r o g in
    let some : 0 < length (m ∷ rest) = omega arith in
    let is : led_parts kind whole ≡ None =
    e ∙ ap (λ o. option_map (λ t. text ++ t) (option_map (flat_map (led_text kind)) o)) (no_part (part_size kind) (m ∷ rest) n some) in
    subst P (sym is) tt

-- parts with a blank between are the first one and those behind it
pub spaced_first : (kind : PartKind) (octets part behind : List ℕ) → cut (part_size kind) octets ≡ Some (part, behind)
    → spaced_parts kind octets ≡ option_map (λ t. part_text kind part ++ t) (led_parts kind behind)
spaced_first kind octets part behind e =
    ap (option_map (spaced kind)) (part_first (part_size kind) octets part behind e) ∙ go (parts_of (part_size kind) behind)
  where
    go : (o : Option (List (List ℕ))) → option_map (spaced kind) (option_map (λ parts. part ∷ parts) o)
        ≡ option_map (λ t. part_text kind part ++ t) (option_map (flat_map (led_text kind)) o)
    go None = refl
    go (Some parts) = refl

-- parts fill octets where they are counted
pub filled_parts : (kind : PartKind) (octets : List ℕ) → is_some (option_map length (parts_of (part_size kind) octets)) ≡ is_some (led_parts kind octets)
filled_parts kind octets = go (parts_of (part_size kind) octets)
  where
    go : (o : Option (List (List ℕ))) → is_some (option_map length o) ≡ is_some (option_map (flat_map (led_text kind)) o)
    go None = refl
    go (Some parts) = refl

pub spaced_shown : {W : Type 0} (took : W → List ℕ → W → Type 0) (f mid g : Formatter W) (r : Result (Unit {0}) Error) (kind : PartKind)
    (octets part behind : List ℕ) → cut (part_size kind) octets ≡ Some (part, behind)
    → (IsPlainFormatter f → HasWritten took f (part_text kind part) mid) → DisplaysOnOk took mid r (led_parts kind behind) g
    → DisplaysOnOk took f r (spaced_parts kind octets) g
spaced_shown took f mid g r kind octets part behind e h d =
    let P : Option (List ℕ) → Type 0 = λ o. DisplaysOnOk took f r o g in
    subst P (sym (spaced_first kind octets part behind e)) (behind_shown took f mid g r (part_text kind part) (led_parts kind behind) h d)

pub none_spaced : {W : Type 0} (took : W → List ℕ → W → Type 0) (f : Formatter W) (r : Result (Unit {0}) Error) (kind : PartKind) (octets : List ℕ)
    → cut (part_size kind) octets ≡ None → DisplaysOnOk took f r (spaced_parts kind octets) f
none_spaced took f r kind [] e =
    let P : Option (List ℕ) → Type 0 = λ o. DisplaysOnOk took f r o f in
    subst P (sym (ap (option_map (spaced kind)) (no_part_left (part_size kind))))
    (λ p ok. record { wrote = writes_in_calls_nil took f.writer; plain = p })
none_spaced took f r kind (n ∷ octets) e =
    let P : Option (List ℕ) → Type 0 = λ o. DisplaysOnOk took f r o f in
    let some : 0 < length (n ∷ octets) = omega arith in
    subst P (sym (ap (option_map (spaced kind)) (no_part (part_size kind) (n ∷ octets) e some))) tt

-- what is displayed of a text that is some, or generic data
pub or_generic_some : {W : Type 0} (took : W → List ℕ → W → Type 0) (f g : Formatter W) (r : Result (Unit {0}) Error) (o : Option (List ℕ)) (octets : List ℕ)
    → is_some o ≡ true → DisplaysOnOk took f r o g → WritesOnOk took f r (or_generic o octets) g
or_generic_some took f g r None octets e d = absurd (cc)
or_generic_some took f g r (Some text) octets e d = d

pub or_generic_none : {W : Type 0} (took : W → List ℕ → W → Type 0) (f g : Formatter W) (r : Result (Unit {0}) Error) (o : Option (List ℕ)) (octets : List ℕ)
    → is_some o ≡ false → WritesOnOk took f r (generic_text octets) g → WritesOnOk took f r (or_generic o octets) g
or_generic_none took f g r None octets e d = d
or_generic_none took f g r (Some text) octets e d = absurd (cc)

-- prefixes are shown where they fill octets
pub spaced_filled : (kind : PartKind) (octets : List ℕ) → is_some (led_parts kind octets) ≡ is_some (spaced_parts kind octets)
spaced_filled kind octets = go (parts_of (part_size kind) octets)
  where
    go : (o : Option (List (List ℕ))) → is_some (option_map (flat_map (led_text kind)) o) ≡ is_some (option_map (spaced kind) o)
    go None = refl
    go (Some parts) = refl

-- strings are shown where there are so many
pub strings_filled : (least most : ℕ) (octets : List ℕ) (count : ℕ) → Some count ≡ option_map length (parts_of counted_size octets)
    → is_some (strings_text least most octets) ≡ (nat_le least count && nat_le count most)
strings_filled least most octets count e = go (parts_of counted_size octets) e
  where
    go : (o : Option (List (List ℕ))) → Some count ≡ option_map length o
        → is_some (option_and_then (within_counts least most) o) ≡ (nat_le least count && nat_le count most)
    go None f = absurd (cc)
    go (Some strings) f =
        let same : count ≡ length strings = cc in
        some_within least most strings ∙ ap (λ n. nat_le least n && nat_le n most) (sym same)

pub no_strings : (least most : ℕ) (octets : List ℕ) → None ≡ option_map length (parts_of counted_size octets)
    → is_some (strings_text least most octets) ≡ false
no_strings least most octets e = go (parts_of counted_size octets) e
  where
    go : (o : Option (List (List ℕ))) → None ≡ option_map length o → is_some (option_and_then (within_counts least most) o) ≡ false
    go None f = refl
    go (Some strings) f = absurd (cc)

pub strings_shown : {W : Type 0} (took : W → List ℕ → W → Type 0) (f g : Formatter W) (r : Result (Unit {0}) Error) (least most : ℕ) (octets : List ℕ)
    → is_some (strings_text least most octets) ≡ true → DisplaysOnOk took f r (spaced_parts Text octets) g
    → DisplaysOnOk took f r (strings_text least most octets) g
strings_shown took f g r least most octets e d = go (parts_of counted_size octets) e d
  where
    go : (o : Option (List (List ℕ))) → is_some (option_and_then (within_counts least most) o) ≡ true → DisplaysOnOk took f r (option_map (spaced Text) o) g
        → DisplaysOnOk took f r (option_and_then (within_counts least most) o) g
    go None n h = tt
    go (Some strings) n h = inner (nat_le least (length strings) && nat_le (length strings) most) h
      where
        inner : (b : Bool) → DisplaysOnOk took f r (Some (spaced Text strings)) g
            → DisplaysOnOk took f r (if b then Some (spaced Text strings) else None) g
        inner true k = k
        inner false k = tt
