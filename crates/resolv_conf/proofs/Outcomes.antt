-- A line has one outcome, and a text one answer.
use Rattle.std.proofs.Common.{◌≡◌, ◌≢◌, ◌+◌, ℕ, Bool, true, false, List, [], ◌∷◌, refl, ap, sym, ◌∙◌, subst, Result, Ok, Err, inl, inr}
use Rattle.std.specs.Str.{bytes_eq}
use Rattle.std.specs.Prelude.{codes, if◌then◌else◌}
use Rattle.dns_values.specs.Address.{IsAddressText}
use Rattle.dns_values.specs.declared.address.IpAddr.{IpAddr}
use Rattle.resolv_conf.specs.declared.conf.ResolvConf.{ResolvConf}
use Rattle.resolv_conf.specs.declared.error.Error.{Error}
use Rattle.resolv_conf.specs.declared.error.Error.TheVariants.{ParseError, Io, TooLong, NoMemory}
use Rattle.resolv_conf.specs.declared.error.IoFault.TheVariants.{Read, NotUtf8}
use Rattle.resolv_conf.specs.Line.{Outcome, LineGives, WordsGive, FirstGives, ServerGives, takes, refuses, with_server, is_none, is_comment}
use Rattle.resolv_conf.specs.Words.{Words, words_of}
use Rattle.resolv_conf.specs.Parse.{LineAnswers, LinesAnswer, no_line, bad_line, good_line}

abbrev OneAddress : Type 0
OneAddress = (text : List ℕ) (a b : IpAddr) → IsAddressText text a → IsAddressText text b → a ≡ b

one_server : OneAddress → (words : Words) (conf : ResolvConf) (a b : Outcome) → ServerGives words conf a → ServerGives words conf b → a ≡ b
one_server one [] conf a b h k = h ∙ sym k
one_server one (word ∷ more) conf a b (inl (ip, reads, is)) (inl (other, also, is_too)) =
    is ∙ ap (λ i. record { taken = is_none more; conf = with_server i conf }) (one word ip other reads also) ∙ sym is_too
one_server one (word ∷ more) conf a b (inl (ip, reads, is)) (inr (none, is_too)) = absurd (none ip reads)
one_server one (word ∷ more) conf a b (inr (none, is)) (inl (other, also, is_too)) = absurd (none other also)
one_server one (word ∷ more) conf a b (inr (none, is)) (inr (none_too, is_too)) = is ∙ sym is_too

one_first : OneAddress → (t : Bool) (first : List ℕ) (rest : Words) (conf : ResolvConf) (a b : Outcome)
    → FirstGives t first rest conf a → FirstGives t first rest conf b → a ≡ b
one_first one true first rest conf a b h k = one_server one rest conf a b h k
one_first one false first rest conf a b h k = h ∙ sym k

one_words : OneAddress → (words : Words) (conf : ResolvConf) (a b : Outcome) → WordsGive words conf a → WordsGive words conf b → a ≡ b
one_words one [] conf a b h k = h ∙ sym k
one_words one (first ∷ rest) conf a b h k = one_first one (bytes_eq first (codes "nameserver")) first rest conf a b h k

pub one_outcome : OneAddress → (line : List ℕ) (conf : ResolvConf) (a b : Outcome) → LineGives line conf a → LineGives line conf b → a ≡ b
one_outcome one line conf a b h k = one_words one (if is_comment line then [] else words_of line) conf a b h k

same_conf : (a b : Outcome) → a ≡ b → a.conf ≡ b.conf
same_conf a b e = ap (λ o. o.conf) e

same_taken : (a b : Outcome) → a ≡ b → a.taken ≡ b.taken
same_taken a b e = ap (λ o. o.taken) e

-- a good line isn't a bad one
not_both : OneAddress → (n : ℕ) (line : List ℕ) (conf new other : ResolvConf) (e : Error) → LineAnswers n line conf (Ok tt) new
    → LineAnswers n line conf (Err e) other → e ≢ NoMemory → ⊥
not_both one n line conf new other (ParseError m) (text, good) (is, text_too, bad) h =
    let same = same_taken (takes new) (refuses other) (one_outcome one line conf (takes new) (refuses other) good bad) in cc
not_both one n line conf new other (Io Read) good bad h = bad
not_both one n line conf new other (Io (NotUtf8 m)) (text, good) (is, no_text, same) h = no_text text
not_both one n line conf new other TooLong good bad h = bad
not_both one n line conf new other NoMemory good bad h = h refl

one_bad : OneAddress → (n : ℕ) (line : List ℕ) (conf new other : ResolvConf) (e f : Error) → LineAnswers n line conf (Err e) new
    → LineAnswers n line conf (Err f) other → e ≢ NoMemory → f ≢ NoMemory → (e ≡ f) × (new ≡ other)
one_bad one n line conf new other (ParseError m) (ParseError k) (is, text, bad) (is_too, text_too, bad_too) h i =
    (ap ParseError (is ∙ sym is_too), same_conf (refuses new) (refuses other) (one_outcome one line conf (refuses new) (refuses other) bad bad_too))
one_bad one n line conf new other (ParseError m) (Io Read) bad bad_too h i = absurd bad_too
one_bad one n line conf new other (ParseError m) (Io (NotUtf8 k)) (is, text, bad) (is_too, no_text, same) h i = absurd (no_text text)
one_bad one n line conf new other (ParseError m) TooLong bad bad_too h i = absurd bad_too
one_bad one n line conf new other (ParseError m) NoMemory bad bad_too h i = absurd (i refl)
one_bad one n line conf new other (Io Read) f bad bad_too h i = absurd bad
one_bad one n line conf new other (Io (NotUtf8 m)) (ParseError k) (is, no_text, same) (is_too, text, bad) h i = absurd (no_text text)
one_bad one n line conf new other (Io (NotUtf8 m)) (Io Read) bad bad_too h i = absurd bad_too
one_bad one n line conf new other (Io (NotUtf8 m)) (Io (NotUtf8 k)) (is, no_text, same) (is_too, no_text_too, same_too) h i =
    (ap (λ j. Io (NotUtf8 j)) (is ∙ sym is_too), same ∙ sym same_too)
one_bad one n line conf new other (Io (NotUtf8 m)) TooLong bad bad_too h i = absurd bad_too
one_bad one n line conf new other (Io (NotUtf8 m)) NoMemory bad bad_too h i = absurd (i refl)
one_bad one n line conf new other TooLong f bad bad_too h i = absurd bad
one_bad one n line conf new other NoMemory f bad bad_too h i = absurd (h refl)

abbrev failed : Error → Result (Unit {0}) Error
failed e = Err e

not_wanting : (e : Error) → failed e ≢ failed NoMemory → e ≢ NoMemory
not_wanting e h f = h (ap failed f)

pub one_answer : OneAddress → (n : ℕ) (lines : List (List ℕ)) (conf new other : ResolvConf) (a b : Result (Unit {0}) Error)
    → LinesAnswer n lines conf a new → LinesAnswer n lines conf b other → a ≢ Err NoMemory → b ≢ Err NoMemory → (a ≡ b) × (new ≡ other)
one_answer one n lines conf new other a b (no_line m c) (no_line k d) h i = (refl, refl)
one_answer one n lines conf new other a b (bad_line m line more c d e bad) (bad_line k line' more' c' d' f bad_too) h i =
    let same = one_bad one n line conf new other e f bad bad_too (not_wanting e h) (not_wanting f i) in (ap Err same.0, same.1)
one_answer one n lines conf new other a b (bad_line m line more c d e bad) (good_line k line' more' c' mid d' answer good rest) h i =
    absurd (not_both one n line conf mid new e good bad (not_wanting e h))
one_answer one n lines conf new other a b (good_line m line more c mid d answer good rest) (bad_line k line' more' c' d' f bad) h i =
    absurd (not_both one n line conf mid other f good bad (not_wanting f i))
one_answer one n lines conf new other a b (good_line m line more c mid d answer good rest) (good_line k line' more' c' mid' d' answer' good_too rest_too) h i =
    let same = same_conf (takes mid) (takes mid') (one_outcome one line conf (takes mid) (takes mid') good.1 good_too.1) in
    one_answer one (n + 1) more mid new other a b rest (subst (λ (s : ResolvConf). LinesAnswer (n + 1) more s b other) (sym same) rest_too) h i
