-- Options that are taken, one after another.
use Rattle.std.proofs.Common.{◌≡◌, ℕ, ◌+◌, List, [], ◌∷◌, length, refl, ap, sym, subst, ◌∙◌, arith, None, Some, Result, Ok, Err, String, Global, Bool, true, false}
use Rattle.std.specs.String.{string_bytes}
use Rattle.forward_words.specs.declared.kind.Kind.{Kind}
use Rattle.forward_words.specs.declared.options.Options.{Options}
use Rattle.forward_words.specs.declared.wrong.Refusal.{Refusal}
use Rattle.forward_words.specs.declared.wrong.ValueFault.{ValueFault}
use Rattle.forward_words.specs.declared.wrong.ValueFault.TheVariants as value_faults
use Rattle.forward_words.specs.Options.{AllAnswer, Answers, OptionsGive, ValueGives, Words, bad_value, fault_at, begins_silent, good_value, is_silent, kind_of, no_option, option_at, silent, silent_said}

abbrev pub Read : Type 0
Read = Result (Options × Words) Refusal

both : (left more behind : Words) (name value : String Global) → left ≡ name ∷ more → more ≡ value ∷ behind → left ≡ name ∷ value ∷ behind
both left more behind name value f g = f ∙ ap (λ (ws : Words). name ∷ ws) g

named : (kind : Kind) (called : List ℕ) (name : String Global) → Some kind ≡ kind_of called → called ≡ string_bytes name → kind_of (string_bytes name) ≡ Some kind
named kind called name is reads = ap kind_of (sym reads) ∙ sym is

loud_name : (called : List ℕ) (name : String Global) → is_silent called ≡ false → called ≡ string_bytes name → is_silent (string_bytes name) ≡ false
loud_name called name loud reads = ap is_silent (sym reads) ∙ loud

-- an option without a value is taken, and then those behind it
pub goes_silent : (at : ℕ) (left more : Words) (name : String Global) (called : List ℕ) (said : Options) (answer : Read)
    → left ≡ name ∷ more → called ≡ string_bytes name → is_silent called ≡ true → OptionsGive (at + 1) more (silent_said said) answer → OptionsGive at left said answer
goes_silent at left more name called said answer f calls is rest =
    subst (λ (ws : Words). OptionsGive at ws said answer) (sym f) (silent at name more said answer (ap is_silent (sym calls) ∙ is) rest)

-- an option is taken, and then those behind it
pub goes_on : (at : ℕ) (left more behind : Words) (name value : String Global) (kind : Kind) (called text : List ℕ) (said mid : Options) (answer : Read)
    → left ≡ name ∷ more → more ≡ value ∷ behind → called ≡ string_bytes name → text ≡ string_bytes value → is_silent called ≡ false → Some kind ≡ kind_of called
    → ValueGives kind text said (Ok mid) → OptionsGive (at + 2) behind mid answer → OptionsGive at left said answer
goes_on at left more behind name value kind called text said mid answer f g calls reads loud is h rest =
    let P : Words → Type 0 = λ ws. OptionsGive at ws said answer in
    let Q : List ℕ → Type 0 = λ t. ValueGives kind t said (Ok mid) in
    subst P (sym (both left more behind name value f g)) (good_value at name value behind kind said mid answer (loud_name called name loud calls) (named kind called name is calls) (subst Q reads h) rest)

-- or its value is not
stops_so : (at : ℕ) (left behind : Words) (name value : String Global) (kind : Kind) (said new : Options) (fault : ValueFault) (words : Words) (old : Options)
    → left ≡ name ∷ value ∷ behind → is_silent (string_bytes name) ≡ false → kind_of (string_bytes name) ≡ Some kind → ((answer : Read) → OptionsGive at left said answer → OptionsGive 1 words old answer)
    → Answers (ValueGives kind (string_bytes value) said) (Err fault) new → AllAnswer words old (Err (fault_at at fault)) new
stops_so at left behind name value kind said new (value_faults.Wrong wrong) words old is loud calls follows h =
    let answer : Read = Err (record { at = at; wrong = wrong }) in
    follows answer (subst (λ (ws : Words). OptionsGive at ws said answer) (sym is) (bad_value at name value behind kind said wrong loud calls h))
stops_so at left behind name value kind said new value_faults.NoMemory words old is loud calls follows h = tt

pub stops : (at : ℕ) (left more behind : Words) (name value : String Global) (kind : Kind) (called text : List ℕ) (said new : Options) (fault : ValueFault) (words : Words) (old : Options)
    → left ≡ name ∷ more → more ≡ value ∷ behind → called ≡ string_bytes name → text ≡ string_bytes value → is_silent called ≡ false → Some kind ≡ kind_of called
    → ((answer : Read) → OptionsGive at left said answer → OptionsGive 1 words old answer)
    → Answers (ValueGives kind text said) (Err fault) new → AllAnswer words old (Err (fault_at at fault)) new
stops at left more behind name value kind called text said new fault words old f g calls reads loud is follows h =
    stops_so at left behind name value kind said new fault words old (both left more behind name value f g) (loud_name called name loud calls) (named kind called name is calls) follows
    (subst (λ (t : List ℕ). Answers (ValueGives kind t said) (Err fault) new) reads h)

-- no option stands first
none_at : (at : ℕ) (words : Words) (said : Options) → begins_silent words ≡ false → option_at words ≡ None → OptionsGive at words said (Ok (said, words))
none_at at words said loud none = no_option at words said loud none

pub no_words : (at : ℕ) (left : Words) (said : Options) → length left ≡ 0 → OptionsGive at left said (Ok (said, left))
no_words at [] said none = none_at at [] said refl refl
no_words at (word ∷ left) said none = absurd (omega arith)

pub no_value : (at : ℕ) (left more : Words) (name : String Global) (called : List ℕ) (said : Options) → left ≡ name ∷ more → called ≡ string_bytes name → is_silent called ≡ false → length more ≡ 0 → OptionsGive at left said (Ok (said, left))
no_value at left [] name called said is calls loud none = subst (λ (ws : Words). OptionsGive at ws said (Ok (said, ws))) (sym is) (none_at at (name ∷ []) said (loud_name called name loud calls) refl)
no_value at left (word ∷ more) name called said is calls loud none = absurd (omega arith)

pub other_word : (at : ℕ) (left more behind : Words) (name value : String Global) (called : List ℕ) (said : Options)
    → left ≡ name ∷ more → more ≡ value ∷ behind → called ≡ string_bytes name → is_silent called ≡ false → None ≡ kind_of called → OptionsGive at left said (Ok (said, left))
other_word at left more behind name value called said f g calls loud is =
    subst (λ (ws : Words). OptionsGive at ws said (Ok (said, ws))) (sym (both left more behind name value f g))
    (none_at at (name ∷ value ∷ behind) said (loud_name called name loud calls) (ap kind_of (sym calls) ∙ sym is))
