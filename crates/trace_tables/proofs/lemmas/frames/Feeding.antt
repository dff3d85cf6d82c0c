-- Octets that are fed one by one.
use Rattle.std.proofs.Common.{◌≡◌, ℕ, zero, suc, pred, ◌-◌, ◌≤◌, length, take, List, [], ◌∷◌, ◌++◌, reverse, refl, sym, ap, ◌∙◌, append_assoc, append-nil, arith}
use Rattle.std.proofs.lemmas.List.{reverse-append, reverse-reverse}
use Rattle.right_trace.specs.Messages.{Octets}
use Rattle.right_trace.specs.Frames.{Reading, Fed, fed, fed_one, fed_on}

-- an octet more stands first where the newest does
pub one_more : (xs : List ℕ) (x : ℕ) → reverse (xs ++ x ∷ []) ≡ x ∷ reverse xs
one_more xs x = reverse-append xs (x ∷ [])

pub one_less : (n : ℕ) → n - 1 ≡ pred n
one_less zero = refl
one_less (suc n) = omega arith

-- a list that is no longer is taken whole
pub take_short : (n : ℕ) (xs : List ℕ) → length xs ≤ n → take n xs ≡ xs
take_short zero [] e = refl
take_short zero (x ∷ xs) e = absurd (omega arith)
take_short (suc n) [] e = refl
take_short (suc n) (x ∷ xs) e = ap (λ xs. x ∷ xs) (take_short n xs (omega arith))

-- octets that are turned round twice
pub twice : (xs : List ℕ) → reverse (reverse xs) ≡ xs
twice xs = reverse-reverse xs

-- what was read, the frames so far, and the octets that are left
abbrev pub fed_behind : Reading → (frames : List Octets) → (octets : Octets) → Fed
fed_behind x frames octets = record { left = (fed x octets).left; frames = frames ++ (fed x octets).frames }

-- an octet more is taken
fed_more : (x y : Reading) (frames more : List Octets) (b : ℕ) (octets : Octets) → y ≡ (fed_one x b).left → more ≡ (fed_one x b).frames → fed_behind y (frames ++ more) octets ≡ fed_behind x frames (b ∷ octets)
fed_more x y frames more b octets e f =
    let left : (fed y octets).left ≡ (fed x (b ∷ octets)).left = ap (λ y. (fed y octets).left) e in
    let all : (frames ++ more) ++ (fed y octets).frames ≡ frames ++ (fed x (b ∷ octets)).frames =
    append_assoc frames more (fed y octets).frames ∙ (ap (λ m. frames ++ (m ++ (fed y octets).frames)) f ∙ ap (λ y. frames ++ ((fed_one x b).frames ++ (fed y octets).frames)) e) in
    cc

pub fed_none : (x y : Reading) (frames : List Octets) (b : ℕ) (octets : Octets) → y ≡ (fed_one x b).left → [] ≡ (fed_one x b).frames → fed_behind y frames octets ≡ fed_behind x frames (b ∷ octets)
fed_none x y frames b octets e f = ap (λ fs. fed_behind y fs octets) (sym (append-nil frames)) ∙ fed_more x y frames [] b octets e f

pub fed_some : (x y : Reading) (frames : List Octets) (m : Octets) (b : ℕ) (octets : Octets) → y ≡ (fed_one x b).left → m ∷ [] ≡ (fed_one x b).frames → fed_behind y (frames ++ m ∷ []) octets ≡ fed_behind x frames (b ∷ octets)
fed_some x y frames m b octets e f = fed_more x y frames (m ∷ []) b octets e f

pub fed_all : (x : Reading) (frames : List Octets) → fed_behind x frames [] ≡ record { left = x; frames = frames }
fed_all x frames = ap (λ fs. record { left = x; frames = fs }) (append-nil frames)
