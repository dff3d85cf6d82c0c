-- Frames, taken one by one.
use Rattle.std.proofs.Common.{◌≡◌, ℕ, zero, suc, ◌+◌, ◌-◌, ◌≤◌, Bool, true, false, Some, None, List, [], ◌∷◌, ◌++◌, length, drop, take, get_or, refl, sym, ◌∙◌, ap, subst, arith, length-append, length-drop}
use Rattle.std.specs.Prelude.{slice_range}
use Rattle.std.proofs.lemmas.Bool.Decides.{nat_tests}
use Rattle.std.proofs.lemmas.List.{drop-append-le, get_or_append_left, take-append-le}
use Rattle.client_stream.specs.Frames.{body_size, has_frame, first_frame, behind_frame, behind_frames, first_frames, frames_of, left_of, FramesJoin}

-- what stands behind a whole frame
abbrev pub behind : List ℕ → List ℕ
behind octets = drop (2 + body_size octets) octets

abbrev pub body : List ℕ → List ℕ
body octets = slice_range octets 2 (2 + body_size octets)

-- a whole frame has its two octets of length and all that they say
pub whole : (octets : List ℕ) → has_frame octets ≡ true → 2 + body_size octets ≤ length octets
whole octets h = grind (arith, nat_tests)

shorter : (octets : List ℕ) → has_frame octets ≡ true → length (behind octets) + 2 ≤ length octets
shorter octets h =
    let w = whole octets h in
    let l = length-drop (2 + body_size octets) octets in
    omega arith

pub stops : (n : ℕ) (octets : List ℕ) → has_frame octets ≡ false → behind_frames n octets ≡ octets
stops zero octets h = refl
stops (suc n) octets h = rw h refl

pub goes : (n : ℕ) (octets : List ℕ) → has_frame octets ≡ true → behind_frames (suc n) octets ≡ behind_frames n (behind octets)
goes n octets h = rw h refl

no_frames : (n : ℕ) (octets : List ℕ) → has_frame octets ≡ false → first_frames n octets ≡ []
no_frames zero octets h = refl
no_frames (suc n) octets h = rw h refl

one_frame : (n : ℕ) (octets : List ℕ) → has_frame octets ≡ true → first_frames (suc n) octets ≡ body octets ∷ first_frames n (behind octets)
one_frame n octets h = rw h refl

no_frame_in_none : (octets : List ℕ) → length octets ≤ 0 → has_frame octets ≡ false
no_frame_in_none octets p = grind (arith, nat_tests)

-- As many steps as there are octets are enough.
steady_more : (n m : ℕ) (octets : List ℕ) → length octets ≤ suc n → length octets ≤ m → ((m : ℕ) (octets : List ℕ) → length octets ≤ n → length octets ≤ m → first_frames n octets ≡ first_frames m octets)
    → (b : Bool) → has_frame octets ≡ b → first_frames (suc n) octets ≡ first_frames m octets
steady_more n m octets p q ih false h = no_frames (suc n) octets h ∙ sym (no_frames m octets h)
steady_more n zero octets p q ih true h = absurd (let s = shorter octets h in omega arith)
steady_more n (suc m) octets p q ih true h =
    let s = shorter octets h in
    one_frame n octets h ∙ ap (λ fs. body octets ∷ fs) (ih m (behind octets) (omega arith) (omega arith)) ∙ sym (one_frame m octets h)

steady : (n m : ℕ) (octets : List ℕ) → length octets ≤ n → length octets ≤ m → first_frames n octets ≡ first_frames m octets
steady zero m octets p q = sym (no_frames m octets (no_frame_in_none octets p))
steady (suc n) m octets p q = steady_more n m octets p q (steady n) (has_frame octets) refl

steady_behind_more : (n m : ℕ) (octets : List ℕ) → length octets ≤ suc n → length octets ≤ m → ((m : ℕ) (octets : List ℕ) → length octets ≤ n → length octets ≤ m → behind_frames n octets ≡ behind_frames m octets)
    → (b : Bool) → has_frame octets ≡ b → behind_frames (suc n) octets ≡ behind_frames m octets
steady_behind_more n m octets p q ih false h = stops (suc n) octets h ∙ sym (stops m octets h)
steady_behind_more n zero octets p q ih true h = absurd (let s = shorter octets h in omega arith)
steady_behind_more n (suc m) octets p q ih true h =
    let s = shorter octets h in
    goes n octets h ∙ ih m (behind octets) (omega arith) (omega arith) ∙ sym (goes m octets h)

steady_behind : (n m : ℕ) (octets : List ℕ) → length octets ≤ n → length octets ≤ m → behind_frames n octets ≡ behind_frames m octets
steady_behind zero m octets p q = sym (stops m octets (no_frame_in_none octets p))
steady_behind (suc n) m octets p q = steady_behind_more n m octets p q (steady_behind n) (has_frame octets) refl

-- A whole frame stays the first one whatever comes behind it.
pub same_size : (a b : List ℕ) → 2 ≤ length a → body_size (a ++ b) ≡ body_size a
same_size a b h =
    let first : get_or (a ++ b) 0 0 ≡ get_or a 0 0 = get_or_append_left a b 0 0 (omega arith) in
    let second : get_or (a ++ b) 1 0 ≡ get_or a 1 0 = get_or_append_left a b 0 1 (omega arith) in
    omega arith

pub still_whole : (a b : List ℕ) → has_frame a ≡ true → has_frame (a ++ b) ≡ true
still_whole a b h =
    let w = whole a h in
    let s = same_size a b (omega arith) in
    let l = length-append a b in
    grind (arith, nat_tests)

pub same_body : (a b : List ℕ) → has_frame a ≡ true → body (a ++ b) ≡ body a
same_body a b h =
    let w = whole a h in
    let s = same_size a b (omega arith) in
    let cut : (n : ℕ) → 2 + n ≤ length a → take (2 + n - 2) (drop 2 (a ++ b)) ≡ take (2 + n - 2) (drop 2 a) = λ n le.
    (let front : drop 2 (a ++ b) ≡ drop 2 a ++ b = drop-append-le 2 a b (omega arith) in
    let l = length-drop 2 a in
    ap (take (2 + n - 2)) front ∙ take-append-le (2 + n - 2) (drop 2 a) b (omega arith)) in
    subst (λ n. take (2 + n - 2) (drop 2 (a ++ b)) ≡ body a) (sym s) (cut (body_size a) w)

pub same_behind : (a b : List ℕ) → has_frame a ≡ true → behind (a ++ b) ≡ behind a ++ b
same_behind a b h =
    let w = whole a h in
    let s = same_size a b (omega arith) in
    subst (λ n. drop (2 + n) (a ++ b) ≡ behind a ++ b) (sym s) (drop-append-le (2 + body_size a) a b w)

left_shorter_more : (n : ℕ) (octets : List ℕ) → ((octets : List ℕ) → length (behind_frames n octets) ≤ length octets) → (b : Bool) → has_frame octets ≡ b → length (behind_frames (suc n) octets) ≤ length octets
left_shorter_more n octets ih false h = rw (stops (suc n) octets h) (omega arith)
left_shorter_more n octets ih true h =
    let s = shorter octets h in
    let i = ih (behind octets) in
    rw (goes n octets h) (omega arith)

left_shorter : (n : ℕ) (octets : List ℕ) → length (behind_frames n octets) ≤ length octets
left_shorter zero octets = omega arith
left_shorter (suc n) octets = left_shorter_more n octets (left_shorter n) (has_frame octets) refl

module _ (k : ℕ) (b : List ℕ) (q : length b ≤ k) where
  abbrev Joins : ℕ → List ℕ → Type 0
  Joins n a = first_frames (n + k) (a ++ b) ≡ first_frames n a ++ first_frames (n + k) (behind_frames n a ++ b)

  joined_more : (n : ℕ) (a : List ℕ) → length a ≤ suc n → ((a : List ℕ) → length a ≤ n → Joins n a) → (x : Bool) → has_frame a ≡ x → Joins (suc n) a
  joined_more n a p ih false h = rw (no_frames (suc n) a h, stops (suc n) a h) refl
  joined_more n a p ih true h =
      let s = shorter a h in
      let e : suc n + k ≡ suc (n + k) = omega arith in
      let l = left_shorter n (behind a) in
      let m = length-append (behind_frames n (behind a)) b in
      let one : first_frames (suc (n + k)) (a ++ b) ≡ body a ∷ first_frames (n + k) (behind a ++ b) =
      one_frame (n + k) (a ++ b) (still_whole a b h) ∙ rw (same_body a b h, same_behind a b h) refl in
      let more : first_frames (n + k) (behind_frames n (behind a) ++ b) ≡ first_frames (suc (n + k)) (behind_frames n (behind a) ++ b) =
      steady (n + k) (suc (n + k)) (behind_frames n (behind a) ++ b) (omega arith) (omega arith) in
      let rest : first_frames (n + k) (behind a ++ b) ≡ first_frames n (behind a) ++ first_frames (suc (n + k)) (behind_frames n (behind a) ++ b) =
      ih (behind a) (omega arith) ∙ ap (λ fs. first_frames n (behind a) ++ fs) more in
      subst (λ x. first_frames x (a ++ b) ≡ first_frames (suc n) a ++ first_frames x (behind_frames (suc n) a ++ b)) (sym e)
      (rw (one_frame n a h, goes n a h) (one ∙ ap (λ fs. body a ∷ fs) rest))

  joined : (n : ℕ) (a : List ℕ) → length a ≤ n → Joins n a
  joined zero a p = refl
  joined (suc n) a p = joined_more n a p (joined n) (has_frame a) refl

  abbrev JoinsBehind : ℕ → List ℕ → Type 0
  JoinsBehind n a = behind_frames (n + k) (a ++ b) ≡ behind_frames (n + k) (behind_frames n a ++ b)

  joined_behind_more : (n : ℕ) (a : List ℕ) → length a ≤ suc n → ((a : List ℕ) → length a ≤ n → JoinsBehind n a) → (x : Bool) → has_frame a ≡ x → JoinsBehind (suc n) a
  joined_behind_more n a p ih false h = rw (stops (suc n) a h) refl
  joined_behind_more n a p ih true h =
      let s = shorter a h in
      let e : suc n + k ≡ suc (n + k) = omega arith in
      let l = left_shorter n (behind a) in
      let m = length-append (behind_frames n (behind a)) b in
      let one : behind_frames (suc (n + k)) (a ++ b) ≡ behind_frames (n + k) (behind a ++ b) =
      goes (n + k) (a ++ b) (still_whole a b h) ∙ rw (same_behind a b h) refl in
      let more : behind_frames (n + k) (behind_frames n (behind a) ++ b) ≡ behind_frames (suc (n + k)) (behind_frames n (behind a) ++ b) =
      steady_behind (n + k) (suc (n + k)) (behind_frames n (behind a) ++ b) (omega arith) (omega arith) in
      subst (λ x. behind_frames x (a ++ b) ≡ behind_frames x (behind_frames (suc n) a ++ b)) (sym e)
      (rw (goes n a h) (one ∙ ih (behind a) (omega arith) ∙ more))

  joined_behind : (n : ℕ) (a : List ℕ) → length a ≤ n → JoinsBehind n a
  joined_behind zero a p = refl
  joined_behind (suc n) a p = joined_behind_more n a p (joined_behind n) (has_frame a) refl

first_is : (octets frame : List ℕ) (b : Bool) → has_frame octets ≡ b → first_frame octets ≡ Some frame → (b ≡ true) × (body octets ≡ frame)
first_is octets frame true h e = (refl, let x : first_frame octets ≡ Some (body octets) = rw h refl in cc)
first_is octets frame false h e = absurd (let x : first_frame octets ≡ None = rw h refl in cc)

none_is : (octets : List ℕ) (b : Bool) → has_frame octets ≡ b → first_frame octets ≡ None → b ≡ false
none_is octets true h e = absurd (let x : first_frame octets ≡ Some (body octets) = rw h refl in cc)
none_is octets false h e = refl

one_by_one : (octets frame : List ℕ) → first_frame octets ≡ Some frame → frames_of octets ≡ frame ∷ frames_of (behind_frame octets)
one_by_one octets frame e =
    let is = first_is octets frame (has_frame octets) refl e in
    let h : has_frame octets ≡ true = is.0 in
    let s = shorter octets h in
    let n : length octets ≡ suc (length octets - 1) = omega arith in
    let one : first_frames (length octets) octets ≡ first_frames (suc (length octets - 1)) octets = ap (λ n. first_frames n octets) n in
    let rest : first_frames (length octets - 1) (behind octets) ≡ frames_of (behind octets) = steady (length octets - 1) (length (behind octets)) (behind octets) (omega arith) (omega arith) in
    let left : behind_frame octets ≡ behind octets = rw h refl in
    one ∙ one_frame (length octets - 1) octets h ∙ ap (λ fs. body octets ∷ fs) rest ∙ rw (is.1, left) refl

pub frames_join : FramesJoin
frames_join = record {
  one_by_one = one_by_one;
  none_left = λ octets e.
      (let h : has_frame octets ≡ false = none_is octets (has_frame octets) refl e in
      (no_frames (length octets) octets h, stops (length octets) octets h));
  frames = λ a b.
      (let l = left_shorter (length a) a in
      let m = length-append (left_of a) b in
      let n = length-append a b in
      let whole : frames_of (a ++ b) ≡ first_frames (length a + length b) (a ++ b) = ap (λ n. first_frames n (a ++ b)) n in
      let left : first_frames (length a + length b) (left_of a ++ b) ≡ frames_of (left_of a ++ b) = steady (length a + length b) (length (left_of a ++ b)) (left_of a ++ b) (omega arith) (omega arith) in
      whole ∙ joined (length b) b (omega arith) (length a) a (omega arith) ∙ ap (λ fs. frames_of a ++ fs) left);
  left = λ a b.
      (let l = left_shorter (length a) a in
      let m = length-append (left_of a) b in
      let n = length-append a b in
      let whole : left_of (a ++ b) ≡ behind_frames (length a + length b) (a ++ b) = ap (λ n. behind_frames n (a ++ b)) n in
      let left : behind_frames (length a + length b) (left_of a ++ b) ≡ left_of (left_of a ++ b) = steady_behind (length a + length b) (length (left_of a ++ b)) (left_of a ++ b) (omega arith) (omega arith) in
      whole ∙ joined_behind (length b) b (omega arith) (length a) a (omega arith) ∙ left);
}
