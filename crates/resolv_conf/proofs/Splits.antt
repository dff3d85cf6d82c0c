-- The words of a line, one after another.
use Rattle.std.proofs.Common.{◌≡◌, ◌<◌, ◌+◌, ◌-◌, ◌*◌, ◌/◌, ◌%◌, ℕ, Bool, true, false, List, [], ◌∷◌, ◌++◌, length, refl, ap, sym, ◌∙◌, arith, map, not, cond, nat_lt, append_assoc, append-nil, Option, Some, None}
use Rattle.std.proofs.lemmas.Bool.Decides.{nat_tests}
use Rattle.std.specs.List.{filter, onto_first, slice_split}
use Rattle.std.specs.Char.{is_whitespace, is_not_whitespace}
use Rattle.std.specs.Str.{chars, chars_after, continuation_len, lead_bits, encode_utf8_all, NoCharPasses, NonePass, EmptyOrStartsWithPassing}
use Rattle.std.specs.Option.{MatchOption}
use Rattle.std.specs.Borrow.{Bor}
use Rattle.std.specs.Str.Iter.{split_whitespace_rest, split_whitespace_steps}
use Rattle.std.specs.declared.str.SplitWhitespace.{SplitWhitespace}
use lib.Utf8.{encode, encodes}
use Rattle.resolv_conf.specs.Words.{Words, words_of, is_empty}

after_zero : (c : ℕ) (rest : List ℕ) → chars_after 0 c rest ≡ c ∷ chars rest
unfolding chars
after_zero c [] = refl
after_zero c (b ∷ bs) = refl

after_one : (n c b : ℕ) (rest : List ℕ) → c ≡ n * 64 + (b - 128) → chars_after 1 n (b ∷ rest) ≡ c ∷ chars rest
after_one n c b rest e = ap (λ k. chars_after 0 k rest) (sym e) ∙ after_zero c rest

after_two : (n c a b : ℕ) (rest : List ℕ) → c ≡ (n * 64 + (a - 128)) * 64 + (b - 128) → chars_after 2 n (a ∷ b ∷ rest) ≡ c ∷ chars rest
after_two n c a b rest e = after_one (n * 64 + (a - 128)) c b rest e

after_three : (n c x a b : ℕ) (rest : List ℕ) → c ≡ ((n * 64 + (x - 128)) * 64 + (a - 128)) * 64 + (b - 128) → chars_after 3 n (x ∷ a ∷ b ∷ rest) ≡ c ∷ chars rest
after_three n c x a b rest e = after_two (n * 64 + (x - 128)) c a b rest e

led : (b n m : ℕ) (rest : List ℕ) → continuation_len b ≡ n → lead_bits b ≡ m → chars (b ∷ rest) ≡ chars_after n m rest
unfolding chars
led b n m rest e f = ap (λ k. chars_after k (lead_bits b) rest) e ∙ ap (λ k. chars_after n k rest) f

encoded_one : (c : ℕ) (rest : List ℕ) → c < 128 → chars (c ∷ rest) ≡ c ∷ chars rest
encoded_one c rest h = led c 0 c rest (grind (arith, nat_tests)) (grind (arith, nat_tests)) ∙ after_zero c rest

encoded_two : (c : ℕ) (rest : List ℕ) → c < 2048 → chars ((192 + c / 64) ∷ (128 + c % 64) ∷ rest) ≡ c ∷ chars rest
encoded_two c rest h =
    let small : c / 64 < 32 = omega arith in
    led (192 + c / 64) 1 (c / 64) _ (grind (arith, nat_tests)) (grind (arith, nat_tests)) ∙ after_one (c / 64) c (128 + c % 64) rest (omega arith)

encoded_three : (c : ℕ) (rest : List ℕ) → c < 65536 → chars ((224 + c / 4096) ∷ (128 + c / 64 % 64) ∷ (128 + c % 64) ∷ rest) ≡ c ∷ chars rest
encoded_three c rest h =
    let small : c / 4096 < 16 = omega arith in
    led (224 + c / 4096) 2 (c / 4096) _ (grind (arith, nat_tests)) (grind (arith, nat_tests)) ∙ after_two (c / 4096) c (128 + c / 64 % 64) (128 + c % 64) rest (omega arith)

encoded_four : (c : ℕ) (rest : List ℕ) → chars ((240 + c / 262144) ∷ (128 + c / 4096 % 64) ∷ (128 + c / 64 % 64) ∷ (128 + c % 64) ∷ rest) ≡ c ∷ chars rest
encoded_four c rest =
    led (240 + c / 262144) 3 (c / 262144) _ (grind (arith, nat_tests)) (grind (arith, nat_tests)) ∙
    after_three (c / 262144) c (128 + c / 4096 % 64) (128 + c / 64 % 64) (128 + c % 64) rest (omega arith)

encoded : (c : ℕ) (rest : List ℕ) → chars (encode c ++ rest) ≡ c ∷ chars rest
unfolding encode
encoded c rest = by_size (nat_lt c 128) (nat_lt c 2048) (nat_lt c 65536) refl refl refl
  where
    by_size : (a b d : Bool) → nat_lt c 128 ≡ a → nat_lt c 2048 ≡ b → nat_lt c 65536 ≡ d
        → chars (cond a (c ∷ []) (cond b ((192 + c / 64) ∷ (128 + c % 64) ∷ []) (cond d ((224 + c / 4096) ∷ (128 + c / 64 % 64) ∷ (128 + c % 64) ∷ []) ((240 + c / 262144) ∷ (128 + c / 4096 % 64) ∷ (128 + c / 64 % 64) ∷ (128 + c % 64) ∷ []))) ++ rest) ≡ c ∷ chars rest
    by_size true b d e f g = encoded_one c rest (grind (arith, nat_tests))
    by_size false true d e f g = encoded_two c rest (grind (arith, nat_tests))
    by_size false false true e f g = encoded_three c rest (grind (arith, nat_tests))
    by_size false false false e f g = encoded_four c rest

pub all_encoded : (cs rest : List ℕ) → chars (encodes cs ++ rest) ≡ cs ++ chars rest
all_encoded [] rest = refl
all_encoded (c ∷ cs) rest = ap chars (append_assoc (encode c) (encodes cs) rest) ∙ encoded c (encodes cs ++ rest) ∙ ap (λ t. c ∷ t) (all_encoded cs rest)

-- the pieces of characters that aren't empty
abbrev pieces : List ℕ → Words
pieces cs = filter (λ word. not (is_empty word)) (slice_split is_whitespace cs)

is_white : (c : ℕ) → is_not_whitespace c ≡ false → is_whitespace c ≡ true
is_white c e = turned (is_whitespace c) e
  where
    turned : (b : Bool) → not b ≡ false → b ≡ true
    turned true e = refl
    turned false e = absurd cc

past_gap : (gap cs : List ℕ) → NonePass is_not_whitespace gap → pieces (gap ++ cs) ≡ pieces cs
past_gap [] cs h = refl
past_gap (g ∷ gap) cs h =
    ap (λ b. filter (λ word. not (is_empty word)) (cond b ([] ∷ slice_split is_whitespace (gap ++ cs)) (onto_first g (slice_split is_whitespace (gap ++ cs))))) (is_white g h.0)
    ∙ past_gap gap cs h.1

split_behind : (ds cs : List ℕ) (tail : Words) → NonePass is_whitespace ds → slice_split is_whitespace cs ≡ [] ∷ tail
    → slice_split is_whitespace (ds ++ cs) ≡ ds ∷ tail
split_behind [] cs tail h e = e
split_behind (d ∷ ds) cs tail h e =
    ap (λ b. cond b ([] ∷ slice_split is_whitespace (ds ++ cs)) (onto_first d (slice_split is_whitespace (ds ++ cs)))) h.0
    ∙ ap (onto_first d) (split_behind ds cs tail h.1 e)

one_piece : (d : ℕ) (ds cs : List ℕ) (tail : Words) → NonePass is_whitespace (d ∷ ds) → slice_split is_whitespace cs ≡ [] ∷ tail
    → pieces ((d ∷ ds) ++ cs) ≡ (d ∷ ds) ∷ pieces cs
one_piece d ds cs tail h e =
    ap (filter (λ word. not (is_empty word))) (split_behind (d ∷ ds) cs tail h e)
    ∙ ap (λ t. (d ∷ ds) ∷ t) (sym (ap (filter (λ word. not (is_empty word))) e))

-- what is left after a word begins with white space, or is nothing
split_rest : (rest : List ℕ) → ((more : List ℕ) × EmptyOrStartsWithPassing is_whitespace rest more)
    → (tail : Words) × (slice_split is_whitespace (chars rest) ≡ [] ∷ tail)
unfolding chars
split_rest [] h = ([], refl)
split_rest (b ∷ bs) h =
    let starts = h.1 (omega arith) in
    let c : ℕ = starts.0 in
    let spelled : chars (b ∷ bs) ≡ c ∷ chars h.0 = ap chars starts.2 ∙ encoded c h.0 in (
      slice_split is_whitespace (chars h.0),
      ap (slice_split is_whitespace) spelled
          ∙ ap (λ t. cond t ([] ∷ slice_split is_whitespace (chars h.0)) (onto_first c (slice_split is_whitespace (chars h.0)))) starts.1,
    )

pub no_words : (text : List ℕ) → NoCharPasses is_not_whitespace text → words_of text ≡ []
unfolding words_of chars
no_words text (cs, spelled, white) =
    let are : chars text ≡ cs ++ [] = ap chars (sym spelled) ∙ ap chars (sym (append-nil (encodes cs))) ∙ all_encoded cs [] in
    ap (λ t. map encode_utf8_all (pieces t)) are ∙ ap (map encode_utf8_all) (past_gap cs [] white)

pub first_word : (text word rest gap : List ℕ) → text ≡ gap ++ (word ++ rest) → 0 < length word → NoCharPasses is_not_whitespace gap
    → NoCharPasses is_whitespace word → ((more : List ℕ) × EmptyOrStartsWithPassing is_whitespace rest more)
    → words_of text ≡ word ∷ words_of rest
unfolding words_of
first_word text word rest gap cut long (gs, gap_is, white) ([], word_is, plain) behind =
    absurd (let none : length word ≡ 0 = sym (ap length word_is) in omega arith)
first_word text word rest gap cut long (gs, gap_is, white) (d ∷ ds, word_is, plain) behind =
    let tail = split_rest rest behind in
    let are : chars text ≡ gs ++ ((d ∷ ds) ++ chars rest) =
    ap chars (cut ∙ ap (λ t. t ++ (word ++ rest)) (sym gap_is) ∙ ap (λ t. encodes gs ++ (t ++ rest)) (sym word_is))
    ∙ all_encoded gs (encodes (d ∷ ds) ++ rest) ∙ ap (λ t. gs ++ t) (all_encoded (d ∷ ds) rest) in
    ap (λ t. map encode_utf8_all (pieces t)) are
    ∙ ap (map encode_utf8_all) (past_gap gs ((d ∷ ds) ++ chars rest) white ∙ one_piece d ds (chars rest) tail.0 plain tail.1)
    ∙ ap (λ t. t ∷ map encode_utf8_all (pieces (chars rest))) word_is

pub next_is : (from to : SplitWhitespace) (r : Option (Bor (List ℕ))) → split_whitespace_steps from r to
    → MatchOption r (words_of (split_whitespace_rest from) ≡ [])
    (λ word. words_of (split_whitespace_rest from) ≡ word.now ∷ words_of (split_whitespace_rest to))
next_is from to None h = no_words (split_whitespace_rest from) h.1
next_is from to (Some word) (gap, cut, long, white, plain, behind) =
    first_word (split_whitespace_rest from) word.now (split_whitespace_rest to) gap cut long white plain behind
