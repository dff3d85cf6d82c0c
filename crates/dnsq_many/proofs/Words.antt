-- The word `many` is no other command's.
use Rattle.std.proofs.Common.{◌≡◌, ◌==◌, ℕ, List, [], ◌∷◌, Bool, true, false, Option, Some, None, refl, sym, subst, true≢false}
use Rattle.std.specs.Prelude.{if◌then◌else◌, codes, String}
use Rattle.std.specs.Cmp.Lexicographic.{pointwise}
use Rattle.std.specs.Option.{option_and_then}
use Rattle.std.specs.String.{string_bytes}
use Rattle.std.specs.declared.alloc.Global.{Global}
use Rattle.std.proofs.lemmas.Slice.Eq.{slice_eq-Decides}
use Rattle.std.proofs.lemmas.Bool.Decides.{Decides-eqb}
use Rattle.dnsq_run.specs.Generating.{count_of}
use Rattle.dnsq_run.specs.QueryWords.{query_of, asked, said_by, nothing_said}
use Rattle.dnsq_run.specs.Words.{command_of}
use Rattle.dnsq_run.specs.declared.query_words.Query.{Query}
use Rattle.dnsq_run.specs.declared.usage.Command.{Command}
use Rattle.dnsq_run.specs.declared.usage.Command.TheVariants.{Replay, Conf}
use Rattle.dnsq_many.specs.Many.{is_many}

word_is : (octets text : List ℕ) → pointwise ◌==◌ octets text ≡ true → octets ≡ text
word_is octets text e = (slice_eq-Decides Decides-eqb octets text (pointwise ◌==◌ octets text) refl).0 e

abbrev if_command : List ℕ → Option Command
if_command octets = if pointwise ◌==◌ octets (codes "replay") then Some Replay else if pointwise ◌==◌ octets (codes "conf") then Some Conf else None

abbrev if_query : List ℕ → Option Query
if_query octets = if pointwise ◌==◌ octets (codes "query") then option_and_then asked (said_by [] nothing_said) else None

pub no_command : (words : List (String Global)) → is_many words ≡ true → command_of words ≡ None
no_command [] e = absurd (true≢false (sym e))
no_command (word ∷ []) e = subst (λ (octets : List ℕ). if_command octets ≡ None) (sym (word_is (string_bytes word) (codes "many") e)) refl
no_command (word ∷ next ∷ words) e = absurd (true≢false (sym e))

pub no_query : (words : List (String Global)) → is_many words ≡ true → query_of words ≡ None
no_query [] e = absurd (true≢false (sym e))
no_query (word ∷ []) e = subst (λ (octets : List ℕ). if_query octets ≡ None) (sym (word_is (string_bytes word) (codes "many") e)) refl
no_query (word ∷ next ∷ words) e = absurd (true≢false (sym e))

pub no_count : (words : List (String Global)) → is_many words ≡ true → count_of words ≡ None
no_count [] e = absurd (true≢false (sym e))
no_count (word ∷ []) e = refl
no_count (word ∷ next ∷ words) e = absurd (true≢false (sym e))
