use Rattle.std.proofs.Common.{◌≡◌, ◌==◌, ◌++◌, ◌∙◌, Bool, false, not, if◌then◌else◌, List, [], ℕ, length, ap, map, sym, rules, tests}
use Rattle.std.proofs.lemmas.Iterator.Consumers.{YieldsList-end}
use Rattle.std.proofs.lemmas.Iterator.Splits.{YieldsList-from_slice_split}
use Rattle.std.specs.Char.{is_ascii_whitespace}
use Rattle.std.specs.List.{filter, slice_split}
use Rattle.std.specs.String.{string_bytes}
use Rattle.dns_lookup_files.specs.Files.{is_comment, line_words}
use Rattle.dns_lookup_files.proofs.text.push_line.Goals as goal

plain_words : (line : List ℕ) → is_comment line ≡ false → filter (λ word. not (length word == 0)) (slice_split is_ascii_whitespace line) ≡ line_words line
plain_words line plain = sym (ap (λ (b : Bool). if b then [] else filter (λ word. not (length word == 0)) (slice_split is_ascii_whitespace line)) plain)

pub returns : goal.returns
returns c =
    let t = YieldsList-end (YieldsList-from_slice_split _ is_ascii_whitespace c.args.line.now (cc) (cc) (cc) (λ x b q k. search (rules, tests))) c.loop-word.yielded _ c.loop-word.yielded_by _ _ c.in-None.is c.next.ensures.steps in
    c.loop-word.invariant
    ∙ ap (λ (ws : List (List ℕ)). map string_bytes c.args.words.now.items ++ filter (λ word. not (length word == 0)) ws) t.0
    ∙ ap (λ (ws : List (List ℕ)). map string_bytes c.args.words.now.items ++ ws) (plain_words c.args.line.now (sym c.is_comment.ensures ∙ c.if-is_comment.false))
