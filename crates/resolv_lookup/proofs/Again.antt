-- A section that is read, and read again.
use Rattle.std.proofs.Common.{◌≡◌, ℕ, zero, suc, ◌+◌, ◌<◌, List, [], ◌∷◌, length, drop, Option, Some, None, Result, option_map, MatchOption, sym, ◌∙◌, ap, subst, arith}
use Rattle.std.proofs.Math.Seq.{drop-nil}
use Rattle.dns_values.specs.declared.error.ParseError.{ParseError}
use Rattle.dns_base.specs.Message.{Known}

abbrev Section : Type 0
Section = List (Result Known ParseError)

-- behind the first that is left
drop_tail : (all : Section) (i : ℕ) (first : Result Known ParseError) (rest : Section) → drop i all ≡ first ∷ rest → drop (i + 1) all ≡ rest
drop_tail [] i first rest e = absurd (cc (drop-nil {A = Result Known ParseError} i))
drop_tail (x ∷ xs) zero first rest e = cc
drop_tail (x ∷ xs) (suc i) first rest e =
    let more : suc (i + 1) ≡ suc i + 1 = omega arith in
    subst (λ (n : ℕ). drop n (x ∷ xs) ≡ rest) more (drop_tail xs i first rest e)

-- behind the end
drop_end : (all : Section) (i : ℕ) → drop i all ≡ [] → drop (i + 1) all ≡ []
drop_end [] i e = drop-nil (i + 1)
drop_end (x ∷ xs) zero e = absurd (cc)
drop_end (x ∷ xs) (suc i) e =
    let more : suc (i + 1) ≡ suc i + 1 = omega arith in
    subst (λ (n : ℕ). drop n (x ∷ xs) ≡ []) more (drop_end xs i e)

-- One more was read, if one was left.
pub read_more : (all now next : Section) (i : ℕ) (given : Option (Result Known ParseError)) → now ≡ drop i all
    → MatchOption given ((now ≡ []) × (next ≡ [])) (λ x. now ≡ x ∷ next) → next ≡ drop (i + 1) all
read_more all now next i None is step = step.1 ∙ sym (drop_end all i (sym is ∙ step.0))
read_more all now next i (Some x) is step = sym (drop_tail all i x next (sym is ∙ step))

-- What is left behind one more, where a section was read so far.
pub taken_more : (given : Option Section) (taken : ℕ) (now next : Section) (first : Result Known ParseError)
    → option_map (drop taken) given ≡ Some now → taken + length now < 65536 → now ≡ first ∷ next
    → (option_map (drop (taken + 1)) given ≡ Some next) × (taken + 1 + length next < 65536)
taken_more None taken now next first is small step = absurd (cc)
taken_more (Some all) taken now next first is small step =
    let here : drop taken all ≡ now = cc in
    let long : length now ≡ suc (length next) = ap length step in
    (ap (λ (s : Section). Some s) (drop_tail all taken first next (here ∙ step)), omega arith)
