-- Options are one thing.
use Rattle.std.proofs.Common.{◌≡◌, ◌⊎◌, ◌+◌, inl, inr, ℕ, List, [], ◌∷◌, refl, ap, sym, subst, ◌∙◌, Option, None, Some, Result, Ok, Err, String, Global, Bool, true, false}
use Rattle.std.specs.String.{string_bytes}
use Rattle.dns_values.proofs.Addresses.{one_address}
use Rattle.dns_values.specs.Address.{IsAddressText}
use Rattle.dns_values.specs.declared.address.IpAddr.{IpAddr}
use Rattle.forward_words.specs.declared.kind.Kind.{Kind}
use Rattle.forward_words.specs.declared.kind.Kind.TheVariants as kinds
use Rattle.forward_words.specs.declared.options.Options.{Options}
use Rattle.forward_words.specs.declared.wrong.Refusal.{Refusal}
use Rattle.forward_words.specs.declared.wrong.Wrong.{Wrong}
use Rattle.forward_words.specs.Options.{ListenGives, OptionsGive, Said, ValueGives, Words, bad_value, good_value, is_silent, kind_of, no_option, option_at, silent, silent_said, why_not_listened, with_address}

abbrev Read : Type 0
Read = Result (Options × Words) Refusal

not_none : (wrong : Wrong) (o : Option Wrong) → o ≡ None → o ≡ Some wrong → ⊥
not_none wrong o none some = cc

same_some : (v w : Wrong) (o : Option Wrong) → o ≡ Some v → o ≡ Some w → v ≡ w
same_some v w o is so = cc

-- an address that is listened at
one_listen : (text : List ℕ) (o : Options) (a b : Said) → ListenGives text o a → ListenGives text o b → a ≡ b
one_listen text o (Ok x) (Ok y) h k = ap Ok (h.3 ∙ ap (λ ip. with_address ip o) (one_address text h.0 k.0 h.1 k.1) ∙ sym k.3)
one_listen text o (Ok x) (Err w) h (inl k) = absurd (k.1 h.0 h.1)
one_listen text o (Ok x) (Err w) h (inr k) =
    absurd (not_none w (why_not_listened h.0) h.2 (ap why_not_listened (one_address text h.0 k.0 h.1 k.1) ∙ k.2))
one_listen text o (Err v) (Ok y) (inl h) k = absurd (h.1 k.0 k.1)
one_listen text o (Err v) (Ok y) (inr h) k =
    absurd (not_none v (why_not_listened k.0) k.2 (ap why_not_listened (one_address text k.0 h.0 k.1 h.1) ∙ h.2))
one_listen text o (Err v) (Err w) (inl h) (inl k) = ap Err (h.0 ∙ sym k.0)
one_listen text o (Err v) (Err w) (inl h) (inr k) = absurd (h.1 k.0 k.1)
one_listen text o (Err v) (Err w) (inr h) (inl k) = absurd (k.1 h.0 h.1)
one_listen text o (Err v) (Err w) (inr h) (inr k) =
    ap Err (same_some v w (why_not_listened h.0) h.2 (ap why_not_listened (one_address text h.0 k.0 h.1 k.1) ∙ k.2))

one_value : (kind : Kind) (text : List ℕ) (o : Options) (a b : Said) → ValueGives kind text o a → ValueGives kind text o b → a ≡ b
one_value kinds.Listen text o a b h k = one_listen text o a b h k
one_value kinds.Policy text o a b h k = h ∙ sym k
one_value (kinds.Number number) text o a b h k = h ∙ sym k

some_kind : (i j : Kind) (o : Option Kind) → o ≡ Some i → o ≡ Some j → i ≡ j
some_kind i j o is so = cc

none_kind : (kind : Kind) (o : Option Kind) → o ≡ None → o ≡ Some kind → ⊥
none_kind kind o none some = cc

same_kind : (i j : Kind) (name : List ℕ) → kind_of name ≡ Some i → kind_of name ≡ Some j → i ≡ j
same_kind i j name is so = some_kind i j (kind_of name) is so

no_kind : (kind : Kind) (name : List ℕ) → kind_of name ≡ None → kind_of name ≡ Some kind → ⊥
no_kind kind name none some = none_kind kind (kind_of name) none some

abbrev good : Options → Said
good said = Ok said

abbrev bad : Wrong → Said
bad wrong = Err wrong

not_both : (said : Options) (wrong : Wrong) → good said ≡ bad wrong → ⊥
not_both said wrong is = cc

same_said : (a b : Options) → good a ≡ good b → a ≡ b
same_said a b is = cc

same_wrong : (a b : Wrong) → bad a ≡ bad b → a ≡ b
same_wrong a b is = cc

never_both : (b : Bool) → b ≡ true → b ≡ false → ⊥
never_both b is so = cc

abbrev refused : ℕ → Wrong → Read
refused at wrong = Err (record { at = at; wrong = wrong })

-- the value of one option by another kind that has its name
at_kind : (i j : Kind) (name value : String Global) (said : Options) (answer : Said) → kind_of (string_bytes name) ≡ Some i → kind_of (string_bytes name) ≡ Some j
    → ValueGives j (string_bytes value) said answer → ValueGives i (string_bytes value) said answer
at_kind i j name value said answer is so h =
    subst (λ (kind : Kind). ValueGives kind (string_bytes value) said answer) (same_kind j i (string_bytes name) so is) h

one_said : (i j : Kind) (name value : String Global) (said : Options) (a b : Said) → kind_of (string_bytes name) ≡ Some i → kind_of (string_bytes name) ≡ Some j
    → ValueGives i (string_bytes value) said a → ValueGives j (string_bytes value) said b → a ≡ b
one_said i j name value said a b is so h k = one_value i (string_bytes value) said a b h (at_kind i j name value said b is so k)

pub one_answer : (at : ℕ) (words : Words) (said : Options) (a b : Read) → OptionsGive at words said a → OptionsGive at words said b → a ≡ b
one_answer at words said a b (no_option n ws s loud none) (no_option m vs t other nothing) = refl
one_answer at words said a b (no_option n ws s loud none) (bad_value m name value rest kind t wrong other is h) = absurd (no_kind kind (string_bytes name) none is)
one_answer at words said a b (no_option n ws s loud none) (good_value m name value rest kind t mid d other is h more) = absurd (no_kind kind (string_bytes name) none is)
one_answer at words said a b (no_option n ws s loud none) (silent m name rest t d other more) = absurd (never_both (is_silent (string_bytes name)) other loud)
one_answer at words said a b (bad_value n name value rest kind s wrong loud is h) (no_option m vs t other nothing) = absurd (no_kind kind (string_bytes name) nothing is)
one_answer at words said a b (bad_value n name value rest kind s wrong loud is h) (bad_value m name' value' rest' kind' t wrong' other so k) =
    ap (refused n) (same_wrong wrong wrong' (one_said kind kind' name value said (bad wrong) (bad wrong') is so h k))
one_answer at words said a b (bad_value n name value rest kind s wrong loud is h) (good_value m name' value' rest' kind' t mid d other so k more) =
    absurd (not_both mid wrong (one_said kind' kind name value said (good mid) (bad wrong) so is k h))
one_answer at words said a b (bad_value n name value rest kind s wrong loud is h) (silent m name' rest' t d other more) = absurd (never_both (is_silent (string_bytes name)) other loud)
one_answer at words said a b (good_value n name value rest kind s mid d loud is h more) (no_option m vs t other nothing) = absurd (no_kind kind (string_bytes name) nothing is)
one_answer at words said a b (good_value n name value rest kind s mid d loud is h more) (bad_value m name' value' rest' kind' t wrong other so k) =
    absurd (not_both mid wrong (one_said kind kind' name value said (good mid) (bad wrong) is so h k))
one_answer at words said a b (good_value n name value rest kind s mid d loud is h more) (good_value m name' value' rest' kind' t mid' d' other so k more') =
    let same = same_said mid' mid (one_said kind' kind name value said (good mid') (good mid) so is k h) in
    one_answer (at + 2) rest mid a b more (subst (λ (s : Options). OptionsGive (at + 2) rest s b) same more')
one_answer at words said a b (good_value n name value rest kind s mid d loud is h more) (silent m name' rest' t d' other more') = absurd (never_both (is_silent (string_bytes name)) other loud)
one_answer at words said a b (silent n name rest s d loud more) (no_option m vs t other nothing) = absurd (never_both (is_silent (string_bytes name)) loud other)
one_answer at words said a b (silent n name rest s d loud more) (bad_value m name' value' rest' kind' t wrong other so k) = absurd (never_both (is_silent (string_bytes name)) loud other)
one_answer at words said a b (silent n name rest s d loud more) (good_value m name' value' rest' kind' t mid d' other so k more') = absurd (never_both (is_silent (string_bytes name)) loud other)
one_answer at words said a b (silent n name rest s d loud more) (silent m name' rest' t d' other more') = one_answer (at + 1) rest (silent_said said) a b more more'
