-- How a line of a script is taken: its name, and what stands behind it.
use Rattle.std.proofs.Common.{◌≡◌, ◌+◌, ℕ, suc, true, false, not, cond, nat_lt, ◌==◌, ◌||◌, List, [], ◌∷◌, ◌++◌, length, length-append, take, drop, map, Some, refl, sym, ap, ◌∙◌, arith, subst, append-nil, decimal}
use Rattle.std.specs.List.{flat_map, join_with_byte, position_or_len}
use Rattle.std.proofs.lemmas.Bool.{eq-eqb, lt-ltb, ne_eqb}
use Rattle.resolv_conf.specs.declared.conf.ResolvConf.{ResolvConf}
use Rattle.dns_script.specs.Names.{script_names}
use Rattle.dns_script.specs.Reading.{cut, named}
use Rattle.dns_script.specs.ScriptReading.{TakesLine, TakesLines, TakesNamed, TakesParts, TakesSkipped, begun_with, is_skipped}
use Rattle.dns_script.proofs.Joined.{IsAbove}
use Rattle.script_printing.proofs.Plain.{IsPlain, plain_utf8}

-- the type of what the lines of a script said so far
abbrev pub TypeOf : {A : Type 0} → A → Type 0
TypeOf {A} x = A

abbrev pub ScriptReader : Type 0
ScriptReader = TypeOf (begun_with false)

abbrev pub Settings : Type 0
Settings = TypeOf (begun_with false).settings

-- before any event, with what was said so far
abbrev pub reader_at : ResolvConf → Settings → List ℕ → ScriptReader
reader_at conf settings words = record { many = false; begun = false; conf = conf; settings = settings; words = words; lanes = []; lane = Some [] }

-- each word behind a blank, behind a first one
pub words_joined : (first : List ℕ) (words : List ℕ) → join_with_byte 32 (first ∷ map decimal words) ≡ first ++ flat_map (λ word. 32 ∷ decimal word) words
words_joined first [] = sym (append-nil first)
words_joined first (word ∷ words) = ap (λ t. first ++ 32 ∷ t) (words_joined (decimal word) words)

-- the first separator stands behind the octets that are above it
pub before_first_at : (s : ℕ) (name text : List ℕ) → IsAbove s name → position_or_len (λ o. o == s) (name ++ s ∷ text) ≡ length name
before_first_at s [] text all = ap (λ b. cond (not b) (1 + position_or_len (λ o. o == s) text) 0) (eq-eqb s s refl)
before_first_at s (o ∷ name) text all =
    let rest = before_first_at s name text all.1 in
    ap (λ b. cond (not b) (1 + position_or_len (λ o. o == s) (name ++ s ∷ text)) 0) (ne_eqb o s (λ e. absurd (omega (arith, all.0, e)))) ∙ omega (arith, rest)

pub take_name : (name rest : List ℕ) → take (length name) (name ++ rest) ≡ name
take_name [] rest = refl
take_name (o ∷ name) rest = ap (λ t. o ∷ t) (take_name name rest)

pub drop_name : (name text : List ℕ) (s : ℕ) → drop (length name + 1) (name ++ s ∷ text) ≡ text
drop_name [] text s = refl
drop_name (o ∷ name) text s = let e : suc (length name) + 1 ≡ suc (length name + 1) = omega arith in ap (λ k. drop k (o ∷ (name ++ s ∷ text))) e ∙ drop_name name text s

pub is_inside : (name text : List ℕ) (s : ℕ) → nat_lt (length name) (length (name ++ s ∷ text)) ≡ true
is_inside name text s = lt-ltb _ _ (omega (arith, length-append name (s ∷ text)))

cut_at : (name text : List ℕ) → IsAbove 32 name → cut 32 (name ++ 32 ∷ text) ≡ Some (name, text)
cut_at name text all = rw (before_first_at 32 name text all, is_inside name text 32, take_name name (32 ∷ text), drop_name name text 32) refl

-- a line that begins so is neither empty nor a comment
pub not_skipped : (c : ℕ) (rest : List ℕ) → (c == 35) ≡ false → is_skipped (c ∷ rest) ≡ false
not_skipped c rest e =
    let some : (length (c ∷ rest) == 0) ≡ false = ne_eqb (length (c ∷ rest)) 0 (λ z. absurd (omega (arith, z))) in
    ap (λ b. b || (c == 35)) some ∙ e

pub takes_named : (name text : List ℕ) (s t : ScriptReader) → IsAbove 32 name → is_skipped (name ++ 32 ∷ text) ≡ false → IsPlain (name ++ 32 ∷ text)
    → TakesNamed (named script_names name) text s t → TakesLine (name ++ 32 ∷ text) s t
takes_named name text s t word starts plain taken = record {
  utf8 = plain_utf8 (name ++ 32 ∷ text) plain;
  taken = subst (λ b. TakesSkipped b (name ++ 32 ∷ text) s t) (sym starts) (subst (λ o. TakesParts (name ++ 32 ∷ text) o s t) (sym (cut_at name text word)) taken);
}

pub takes_more : (ls ms : List (List ℕ)) (s t u : ScriptReader) → TakesLines ls s t → TakesLines ms t u → TakesLines (ls ++ ms) s u
takes_more [] ms s t u h k = subst (λ (r : ScriptReader). TakesLines ms r u) h k
takes_more (l ∷ ls) ms s t u h k = (h.0, h.1, takes_more ls ms h.0 t u h.2 k)

pub takes_one : (l : List ℕ) (s t : ScriptReader) → TakesLine l s t → TakesLines (l ∷ []) s t
takes_one l s t h = (t, h, refl)
