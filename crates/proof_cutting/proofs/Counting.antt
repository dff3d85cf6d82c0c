-- How many octets stand, and how many steps are enough to take their frames.
use Rattle.std.proofs.Common.{◌≡◌, ℕ, zero, suc, ◌+◌, ◌≤◌, Bool, true, false, Option, Some, None, List, ◌++◌, length, refl, sym, ◌∙◌, ap, arith, length-append, length-drop, le_trans}
use Rattle.std.specs.Prelude.{option_map}
use Rattle.std.proofs.lemmas.Bool.Decides.{nat_tests}
use Rattle.client_stream.specs.Frames.{body_size, has_frame, behind_frame}
use Rattle.client_stream.proofs.Frames.{behind, whole, still_whole, same_size}
use Rattle.proof_cutting.specs.Pieces.{stands, IsReady}

-- the octets of a place with more behind them
abbrev pub with_more : List ℕ → Option (List ℕ) → Option (List ℕ)
with_more piece octets = option_map (λ o. o ++ piece) octets

-- those that stand behind the first frame
abbrev pub behind_first : Option (List ℕ) → Option (List ℕ)
behind_first octets = option_map behind_frame octets

-- So many steps take all frames of these octets.
abbrev pub IsEnough : ℕ → Option (List ℕ) → Type 0
IsEnough n None = Unit {0}
IsEnough n (Some o) = has_frame o ≡ true → length o ≤ n

framed : (o : List ℕ) → has_frame o ≡ true → behind_frame o ≡ behind o
framed o h = rw h refl

unframed : (o : List ℕ) → has_frame o ≡ false → behind_frame o ≡ o
unframed o h = rw h refl

-- without a step no frame stands
pub no_steps : (o : Option (List ℕ)) → IsEnough zero o → stands o ≡ false
no_steps None e = refl
no_steps (Some o) e = by (has_frame o) refl
  where
    by : (b : Bool) → has_frame o ≡ b → b ≡ false
    by false h = refl
    by true h = absurd (let w = whole o h in let l = e h in omega arith)

-- a frame that is taken takes a step
pub one_less : (n : ℕ) (o : Option (List ℕ)) → IsEnough (suc n) o → stands o ≡ true → IsEnough n (behind_first o)
one_less n None e h = tt
one_less n (Some o) e h = λ g.
    let w = whole o h in
    let l = e h in
    let d = length-drop (2 + body_size o) o in
    let short : length (behind o) ≤ n = omega arith in
    rw (framed o h) short

pub more_steps : (n m : ℕ) (o : Option (List ℕ)) → n ≤ m → IsEnough n o → IsEnough m o
more_steps n m None le e = tt
more_steps n m (Some o) le e = λ h. le_trans (e h) le

-- Where no frame stood, the first one has some of the octets that came.
starts_before : (o b : List ℕ) → has_frame o ≡ false → length o ≤ 2 + body_size (o ++ b)
starts_before o b h = by (length o) refl
  where
    long : 2 ≤ length o → length o ≤ 2 + body_size (o ++ b)
    long l = let s = same_size o b l in let k = small l in omega arith
      where
        small : 2 ≤ length o → length o ≤ 2 + body_size o
        small l = grind (arith, nat_tests)

    by : (n : ℕ) → length o ≡ n → length o ≤ 2 + body_size (o ++ b)
    by zero e = omega arith
    by (suc zero) e = omega arith
    by (suc (suc n)) e = long (omega arith)

pub new_steps : (b : List ℕ) (o : Option (List ℕ)) → stands o ≡ false → IsEnough (length b) (behind_first (with_more b o))
new_steps b None h = tt
new_steps b (Some o) h = by (has_frame (o ++ b)) refl
  where
    by : (x : Bool) → has_frame (o ++ b) ≡ x → has_frame (behind_frame (o ++ b)) ≡ true → length (behind_frame (o ++ b)) ≤ length b
    by true f g =
        let s = starts_before o b h in
        let l = length-append o b in
        let d = length-drop (2 + body_size (o ++ b)) (o ++ b) in
        let short : length (behind (o ++ b)) ≤ length b = omega arith in
        rw (framed (o ++ b) f) short
    by false f g = absurd (let n : has_frame (behind_frame (o ++ b)) ≡ false = ap has_frame (unframed (o ++ b) f) ∙ f in cc)

pub still_stands : (b : List ℕ) (o : Option (List ℕ)) → stands o ≡ true → stands (with_more b o) ≡ true
still_stands b None h = h
still_stands b (Some o) h = still_whole o b h

pub is_ready : (o : Option (List ℕ)) → stands o ≡ true → IsReady o
is_ready None h = tt
is_ready (Some o) h = h

-- where no whole frame stands, none is taken
pub none_behind : (o : Option (List ℕ)) → stands o ≡ false → o ≡ behind_first o
none_behind None h = refl
none_behind (Some o) h = ap Some (sym (unframed o h))
