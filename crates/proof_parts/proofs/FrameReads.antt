-- Octets of a stream as they are kept, and as they are read one by one.
use Rattle.std.proofs.Common.{◌≡◌, ℕ, zero, suc, ◌+◌, ◌-◌, ◌*◌, ◌≤◌, ◌<◌, Bool, true, false, Some, None, List, [], ◌∷◌, ◌++◌, length, drop, take, refl, sym, ◌∙◌, ap, arith, append_assoc, append-nil, length-append}
use Rattle.std.specs.Prelude.{reverse, slice_range, if◌then◌else◌, nat_le, ◌&&◌, pred}
use Rattle.std.proofs.lemmas.Bool.Decides.{nat_tests}
use Rattle.std.proofs.lemmas.List.{reverse-append, take-append-drop, length-take-le}
use Rattle.client_stream.specs.Frames.{body_size, has_frame, first_frame, behind_frame}
use Rattle.right_trace.specs.Frames.{Reading, Length, LengthAfter, Body, Fed, settled, fed_one, fed_on, fed}
use Rattle.proof_parts.specs.Reading.{KeptIsRead}

-- one piece behind another
pub fed_behind : (x : Reading) (a b : List ℕ) → fed x (a ++ b) ≡ fed_on (fed x a) (fed (fed x a).left b)
fed_behind x [] b = refl
fed_behind x (c ∷ a) b =
    ap (fed_on (fed_one x c)) (fed_behind (fed_one x c).left a b)
    ∙ ap (λ (fs : List (List ℕ)). record { left = (fed (fed (fed_one x c).left a).left b).left; frames = fs }) (sym (append_assoc (fed_one x c).frames (fed (fed_one x c).left a).frames (fed (fed (fed_one x c).left a).left b).frames))

-- the rest of a body
one_more : (b : ℕ) (got bs : List ℕ) → reverse (b ∷ got) ++ bs ≡ reverse got ++ (b ∷ bs)
one_more b got bs = ap (λ xs. xs ++ bs) (reverse-append (b ∷ []) got) ∙ append_assoc (reverse got) (b ∷ []) bs

body_whole : (n : ℕ) (got : List ℕ) (b : ℕ) (bs : List ℕ) → length bs ≡ n → fed (Body (suc n) got) (b ∷ bs) ≡ record { left = Length; frames = (reverse got ++ (b ∷ bs)) ∷ [] }
body_whole zero got b [] e = ap (λ (f : List ℕ). record { left = Length; frames = f ∷ [] }) (sym (append-nil (reverse (b ∷ got))) ∙ one_more b got [])
body_whole zero got b (c ∷ cs) e = absurd (omega arith)
body_whole (suc n) got b [] e = absurd (omega arith)
body_whole (suc n) got b (c ∷ cs) e =
    let l : length cs ≡ n = omega arith in
    body_whole n (b ∷ got) c cs l ∙ ap (λ (f : List ℕ). record { left = Length; frames = f ∷ [] }) (one_more b got (c ∷ cs))

body_short : (n : ℕ) (got bs : List ℕ) → length bs ≤ n → (fed (Body (suc n) got) bs).frames ≡ []
body_short n got [] le = refl
body_short zero got (b ∷ bs) le = absurd (omega arith)
body_short (suc n) got (b ∷ bs) le = body_short n (b ∷ got) bs (omega arith)

-- a whole frame is the first
abbrev one_frame : List ℕ → Fed
one_frame f = record { left = Length; frames = f ∷ [] }

frame_whole : (n a b : ℕ) (rest : List ℕ) → 256 * a + b ≡ n → n ≤ length rest → fed Length (a ∷ b ∷ rest) ≡ fed_on (one_frame (take n rest)) (fed Length (drop n rest))
frame_whole zero a b rest e le = ap (λ n. fed_on (settled n []) (fed (settled n []).left rest)) e
frame_whole (suc n) a b [] e le = absurd (omega arith)
frame_whole (suc n) a b (c ∷ cs) e le =
    let t = length-take-le n cs (omega arith) in
    let whole = body_whole n [] c (take n cs) (omega arith) in
    ap (λ n. fed_on (settled n []) (fed (settled n []).left (c ∷ cs))) e
    ∙ ap (λ bs. fed (Body (suc n) []) (c ∷ bs)) (sym (take-append-drop n cs))
    ∙ fed_behind (Body (suc n) []) (c ∷ take n cs) (drop n cs)
    ∙ ap (λ d. fed_on d (fed d.left (drop n cs))) whole

length_le : (m n : ℕ) → (nat_le 2 (suc (suc m)) && nat_le (2 + n) (suc (suc m))) ≡ true → n ≤ m
length_le m n e = grind (arith, nat_tests)

length_lt : (m n : ℕ) → (nat_le 2 (suc (suc m)) && nat_le (2 + n) (suc (suc m))) ≡ false → m < n
length_lt m n e = grind (arith, nat_tests)

cut_first : (n a b : ℕ) (rest : List ℕ) → take (2 + n - 2) rest ≡ take n rest
cut_first n a b rest = ap (λ m. take m rest) (omega arith)

cut_behind : (n a b : ℕ) (rest : List ℕ) → drop (2 + n) (a ∷ b ∷ rest) ≡ drop n rest
cut_behind n a b rest = let e : 2 + n ≡ suc (suc n) = omega arith in ap (λ m. drop m (a ∷ b ∷ rest)) e

pub taken_first : (octets frame : List ℕ) → first_frame octets ≡ Some frame → fed Length octets ≡ fed_on (one_frame frame) (fed Length (behind_frame octets))
taken_first [] frame e = absurd (cc)
taken_first (a ∷ []) frame e = absurd (cc)
taken_first (a ∷ b ∷ rest) frame e = by (has_frame (a ∷ b ∷ rest)) refl
  where
    n : ℕ
    n = body_size (a ∷ b ∷ rest)

    by : (x : Bool) → has_frame (a ∷ b ∷ rest) ≡ x → fed Length (a ∷ b ∷ rest) ≡ fed_on (one_frame frame) (fed Length (behind_frame (a ∷ b ∷ rest)))
    by true h =
        let is : Some (take (2 + n - 2) rest) ≡ Some frame = sym (ap (λ x. if x then Some (slice_range (a ∷ b ∷ rest) 2 (2 + n)) else None) h) ∙ e in
        let f : take (2 + n - 2) rest ≡ frame = cc in
        let behind : behind_frame (a ∷ b ∷ rest) ≡ drop n rest = ap (λ x. if x then drop (2 + n) (a ∷ b ∷ rest) else a ∷ b ∷ rest) h ∙ cut_behind n a b rest in
        frame_whole n a b rest refl (length_le (length rest) n h)
        ∙ ap (λ f. fed_on (one_frame f) (fed Length (drop n rest))) (sym (cut_first n a b rest) ∙ f)
        ∙ ap (λ o. fed_on (one_frame frame) (fed Length o)) (sym behind)
    by false h = absurd (none (sym (ap (λ x. if x then Some (slice_range (a ∷ b ∷ rest) 2 (2 + n)) else None) h) ∙ e))
      where
        none : None ≡ Some frame → ⊥
        none e = cc

-- where none stands whole, none was read
short_body : (n a b : ℕ) (rest : List ℕ) → 256 * a + b ≡ n → length rest < n → (fed Length (a ∷ b ∷ rest)).frames ≡ []
short_body zero a b rest e lt = absurd (omega arith)
short_body (suc n) a b rest e lt = ap (λ n. (fed_on (settled n []) (fed (settled n []).left rest)).frames) e ∙ body_short n [] rest (omega arith)

pub none_first : (octets : List ℕ) → first_frame octets ≡ None → (fed Length octets).frames ≡ []
none_first [] e = refl
none_first (a ∷ []) e = refl
none_first (a ∷ b ∷ rest) e = by (has_frame (a ∷ b ∷ rest)) refl
  where
    n : ℕ
    n = body_size (a ∷ b ∷ rest)

    by : (x : Bool) → has_frame (a ∷ b ∷ rest) ≡ x → (fed Length (a ∷ b ∷ rest)).frames ≡ []
    by true h = absurd (some (sym (ap (λ x. if x then Some (slice_range (a ∷ b ∷ rest) 2 (2 + n)) else None) h) ∙ e))
      where
        some : Some (slice_range (a ∷ b ∷ rest) 2 (2 + n)) ≡ None → ⊥
        some e = cc
    by false h = short_body n a b rest refl (length_lt (length rest) n h)

-- each frame has an octet at least that completes it
at_most_one : (x : Reading) (b : ℕ) → length (fed_one x b).frames ≤ 1
at_most_one Length b = omega arith
at_most_one (LengthAfter high) b = settled_one (256 * high + b) []
  where
    settled_one : (n : ℕ) (got : List ℕ) → length (settled n got).frames ≤ 1
    settled_one zero got = omega arith
    settled_one (suc n) got = omega arith
at_most_one (Body n got) b = settled_one (pred n) (b ∷ got)
  where
    settled_one : (n : ℕ) (got : List ℕ) → length (settled n got).frames ≤ 1
    settled_one zero got = omega arith
    settled_one (suc n) got = omega arith

pub few_frames : (x : Reading) (octets : List ℕ) → length (fed x octets).frames ≤ length octets
few_frames x [] = omega arith
few_frames x (b ∷ bs) =
    let one = at_most_one x b in
    let more = few_frames (fed_one x b).left bs in
    let both = length-append (fed_one x b).frames (fed (fed_one x b).left bs).frames in
    omega arith

pub kept_is_read : KeptIsRead
kept_is_read = record {
  none = refl;
  more = λ a b got k. fed_behind Length a b ∙ ap (λ d. fed_on d (fed d.left b)) k;
  some = λ octets frame frames got k e.
      (let first = taken_first octets frame e in
      let d = fed Length (behind_frame octets) in
      let both : fed_on (one_frame frame) d ≡ record { left = got; frames = frames } = sym first ∙ k in
      (d.frames, sym (ap (λ (x : Fed). x.frames) both), ap (λ (x : Reading). record { left = x; frames = d.frames }) (ap (λ (x : Fed). x.left) both)));
  last = λ octets frames got k e. sym (ap (λ (x : Fed). x.frames) k) ∙ none_first octets e;
  few = few_frames;
}
