-- Words are one thing.
use Rattle.std.specs.List.{before_first}
use Rattle.std.proofs.Common.{◌≡◌, ◌+◌, ◌==◌, ℕ, Bool, true, false, length, List, refl, ap, sym, subst, ◌∙◌, Option, None, Some, Result, Ok, Err, String, Global}
use Rattle.std.specs.String.{string_bytes}
use Rattle.dns_values.proofs.Addresses.{one_address}
use Rattle.dns_lookup_words.specs.declared.lookup.Lookup.{Lookup}
use Rattle.dns_lookup_words.specs.declared.said.Next.{Next}
use Rattle.dns_lookup_words.specs.declared.said.Next.TheVariants as next
use Rattle.dns_lookup_words.specs.declared.said.Said.{Said}
use Rattle.dns_lookup_words.specs.declared.wrong.Fault.{Fault}
use Rattle.dns_lookup_words.specs.declared.wrong.Fault.TheVariants as faults
use Rattle.dns_lookup_words.specs.declared.wrong.Refusal.{Refusal}
use Rattle.dns_lookup_words.specs.declared.wrong.Refusal.TheVariants.{Word}
use Rattle.dns_lookup_words.specs.declared.wrong.Value.{Value}
use Rattle.dns_lookup_words.specs.declared.wrong.Value.TheVariants as values
use Rattle.dns_lookup_words.specs.declared.wrong.Wrong.{Wrong}
use Rattle.dns_lookup_words.proofs.ShortAddresses.{same_missing, same_short}
use Rattle.dns_lookup_words.specs.Numbers.{number_in}
use Rattle.dns_lookup_words.specs.Words.{AddressAt, Gives, GivesAt, GluedGives, IsJudged, IsSaidBy, LookupGives, ServerAt, ServerAtNumber, ServerAtSame, ServerAtText, ServerIn, ServerOf, SignGives, ValueGives, ValuedGives, WordGives, WordsGive, asked, bad_word, bare, behind, behind_first, good_word, is_localhost, is_other, no_word, nothing_said, said_whole, valued, with_address, with_server, wrong_word}

one_server_at : (text : List ℕ) (port : Option ℕ) (said : Said) (a b : Result Said Wrong) → ServerAt text port said a → ServerAt text port said b → a ≡ b
one_server_at text port said (Ok x) (Ok y) h k = ap Ok (h.2 ∙ ap (λ ip. with_server ip port said) (one_address text h.0 k.0 h.1 k.1) ∙ sym k.2)
one_server_at text port said (Ok x) (Err w) h k = absurd (k.0 h.0 h.1)
one_server_at text port said (Err v) (Ok y) h k = absurd (h.0 k.0 k.1)
one_server_at text port said (Err v) (Err w) h k = ap Err (h.1 ∙ sym k.1)

one_of : (here : Bool) (text : List ℕ) (port : Option ℕ) (said : Said) (a b : Result Said Wrong) → ServerOf here text port said a → ServerOf here text port said b → a ≡ b
one_of true text port said a b h k = h ∙ sym k
one_of false text port said a b h k = one_server_at text port said a b h k

one_same : (other : Bool) (port : ℕ) (text : List ℕ) (said : Said) (a b : Result Said Wrong) → ServerAtSame other port text said a → ServerAtSame other port text said b → a ≡ b
one_same true port text said a b h k = h ∙ sym k
one_same false port text said a b h k = one_of (is_localhost text) text (Some port) said a b h k

one_number : (port : Option ℕ) (text : List ℕ) (said : Said) (a b : Result Said Wrong) → ServerAtNumber port text said a → ServerAtNumber port text said b → a ≡ b
one_number None text said a b h k = h ∙ sym k
one_number (Some port) text said a b h k = one_same (is_other said.port port) port text said a b h k

one_server : (port : Option (List ℕ)) (text : List ℕ) (said : Said) (a b : Result Said Wrong) → ServerAtText port text said a → ServerAtText port text said b → a ≡ b
one_server None text said a b h k = one_of (is_localhost text) text said.port said a b h k
one_server (Some port) text said a b h k = one_number (number_in 65535 port) text said a b h k

one_in : (first : Bool) (text : List ℕ) (said : Said) (a b : Result Said Wrong) → ServerIn first text said a → ServerIn first text said b → a ≡ b
one_in false text said a b h k = h ∙ sym k
one_in true text said a b h k = one_server (behind_first 35 text) (bare (before_first (λ c. c == 35) text)) said a b h k

one_reverse : (late : Bool) (word : List ℕ) (said : Said) (a b : Result Said Wrong) → AddressAt late word said a → AddressAt late word said b → a ≡ b
one_reverse true word said a b h k = h ∙ sym k
one_reverse false word said (Ok x) (Ok y) h k =
    ap Ok (h.3 ∙ ap (λ n. with_address n h.1 said) (same_missing word h.0 k.0 h.1 k.1 h.2 k.2) ∙ ap (λ ip. with_address k.0 ip said) (same_short word h.0 k.0 h.1 k.1 h.2 k.2) ∙ sym k.3)
one_reverse false word said (Ok x) (Err w) h k = absurd (k.0 h.0 h.2.few h.1 h.2.address)
one_reverse false word said (Err v) (Ok y) h k = absurd (h.0 k.0 k.2.few k.1 k.2.address)
one_reverse false word said (Err v) (Err w) h k = ap Err (h.1 ∙ sym k.1)

one_value : (value : Value) (word : List ℕ) (said : Said) (a b : Result Said Wrong) → ValueGives value word said a → ValueGives value word said b → a ≡ b
one_value values.Port word said a b h k = h ∙ sym k
one_value values.Address word said a b h k = one_reverse said.late word said a b h k
one_value values.Type word said a b h k = h ∙ sym k
one_value values.Class word said a b h k = h ∙ sym k
one_value values.Name word said a b h k = h ∙ sym k

one_glued : (apart : Bool) (value : Value) (word : List ℕ) (said : Said) (a b : Result Said Wrong) → GluedGives apart value word said a → GluedGives apart value word said b → a ≡ b
one_glued true value word said a b h k = h ∙ sym k
one_glued false value word said a b h k = one_value value word said a b h k

one_dash : (v : Option (Value × List ℕ)) (text : List ℕ) (said : Said) (a b : Result Said Wrong) → ValuedGives v text said a → ValuedGives v text said b → a ≡ b
one_dash (Some v) text said a b h k = one_glued (length v.1 == 0) v.0 v.1 said a b h k
one_dash None text said a b h k = h ∙ sym k

one_any : (server plus dash : Option (List ℕ)) (word : List ℕ) (said : Said) (a b : Result Said Wrong) → SignGives server plus dash word said a → SignGives server plus dash word said b → a ≡ b
one_any (Some text) plus dash word said a b h k = one_in (length said.asks == 0) text said a b h k
one_any None (Some text) dash word said a b h k = h ∙ sym k
one_any None None (Some text) word said a b h k = one_dash (valued text) text said a b h k
one_any None None None word said a b h k = h ∙ sym k

one_at : (n : Next) (word : List ℕ) (said : Said) (a b : Result Said Wrong) → GivesAt n word said a → GivesAt n word said b → a ≡ b
one_at next.Any word said a b h k = one_any (behind 64 word) (behind 43 word) (behind 45 word) word said a b h k
one_at next.Plain word said a b h k = h ∙ sym k
one_at (next.Value value) word said a b h k = one_value value word (record said { next = next.Any }) a b h k

one_word : (word : List ℕ) (said : Said) (a b : Result Said Wrong) → WordGives word said a → WordGives word said b → a ≡ b
one_word word said a b h k = one_at said.next word said a b h k

abbrev good : Said → Result Said Wrong
good said = Ok said

abbrev bad : Wrong → Result Said Wrong
bad wrong = Err wrong

not_both : (said : Said) (wrong : Wrong) → good said ≡ bad wrong → ⊥
not_both said wrong is = cc

same_said : (a b : Said) → good a ≡ good b → a ≡ b
same_said a b is = cc

same_wrong : (a b : Wrong) → bad a ≡ bad b → a ≡ b
same_wrong a b is = cc

abbrev refused : ℕ → Wrong → Result Said Refusal
refused n wrong = Err (Word n wrong)

one_answer : (n : ℕ) (words : List (String Global)) (said : Said) (a b : Result Said Refusal) → WordsGive n words said a → WordsGive n words said b → a ≡ b
one_answer n words said a b (no_word m s) (no_word k t) = refl
one_answer n words said a b (bad_word m word more s v h) (bad_word k word' more' s' w i) =
    ap (refused n) (same_wrong v w (one_word (string_bytes word) said (bad v) (bad w) h i))
one_answer n words said a b (bad_word m word more s v h) (good_word k word' more' s' mid d i rest) =
    absurd (not_both mid v (one_word (string_bytes word) said (good mid) (bad v) i h))
one_answer n words said a b (good_word m word more s mid d h rest) (bad_word k word' more' s' w i) =
    absurd (not_both mid w (one_word (string_bytes word) said (good mid) (bad w) h i))
one_answer n words said a b (good_word m word more s mid d h rest) (good_word k word' more' s' mid' d' i rest') =
    let same = same_said mid' mid (one_word (string_bytes word) said (good mid') (good mid) i h) in
    one_answer (n + 1) more mid a b rest (subst (λ (s : Said). WordsGive (n + 1) more s b) same rest')

abbrev whole : Said → Result Said Refusal
whole said = Ok said

abbrev ends : Refusal → Result Said Refusal
ends refusal = Err refusal

never : (said : Said) (refusal : Refusal) → whole said ≡ ends refusal → ⊥
never said refusal is = cc

same_whole : (a b : Said) → whole a ≡ whole b → a ≡ b
same_whole a b is = cc

same_refusal : (a b : Refusal) → ends a ≡ ends b → a ≡ b
same_refusal a b is = cc

abbrev refusing : Refusal → Result Lookup Refusal
refusing refusal = Err refusal

pub one_lookup : (words : List (String Global)) (a b : Result Lookup Refusal) → LookupGives words a → LookupGives words b → a ≡ b
one_lookup words a b (said_whole x h e) (said_whole y k f) =
    e ∙ ap asked (same_whole x y (one_answer 0 words nothing_said (whole x) (whole y) h k)) ∙ sym f
one_lookup words a b (said_whole x h e) (wrong_word y k f) = absurd (never x y (one_answer 0 words nothing_said (whole x) (ends y) h k))
one_lookup words a b (wrong_word x h e) (said_whole y k f) = absurd (never y x (one_answer 0 words nothing_said (whole y) (ends x) k h))
one_lookup words a b (wrong_word x h e) (wrong_word y k f) =
    e ∙ ap refusing (same_refusal x y (one_answer 0 words nothing_said (ends x) (ends y) h k)) ∙ sym f

-- what is said is a lookup, or no whole one
pub is_judged : (words : List (String Global)) (said : Said) (answer : Result Lookup Fault) → WordsGive 0 words nothing_said (whole said) → Gives (asked said) answer → IsJudged words answer
is_judged words said (Ok lookup) h is = said_whole said h (sym is)
is_judged words said (Err (faults.Refused refusal)) h is = said_whole said h (sym is)
is_judged words said (Err faults.NoMemory) h is = tt

-- or a word is wrong
pub not_said : (words : List (String Global)) (fault : Fault) → IsSaidBy words (Err fault) → IsJudged words (Err fault)
not_said words (faults.Refused refusal) h = wrong_word refusal h refl
not_said words faults.NoMemory h = tt
