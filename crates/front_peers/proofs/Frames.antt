-- What frames come to, taken one by one.
use Rattle.std.proofs.Common.{◌≡◌, refl, ap, ◌∙◌, ℕ, zero, suc, ◌-◌, ◌<◌, ◌++◌, List, [], ◌∷◌, Bool, arith}
use Rattle.std.specs.Prelude.{Some}
use Rattle.client_stream.specs.Frames.{first_frame, behind_frame}
use Rattle.front_peers.specs.declared.items.Item.{Item}
use Rattle.front_peers.specs.Items.{Brought, Pushes, of_frame, of_frames, onward}
use Rattle.front_queries.specs.Refusals.{sorted}

pub append_nil : (items : List Item) → items ++ [] ≡ items
append_nil [] = refl
append_nil (item ∷ items) = ap (λ (is : List Item). item ∷ is) (append_nil items)

frames_step : (n peer : ℕ) (kept frame : List ℕ) → 0 < n → first_frame kept ≡ Some frame
    → of_frames n peer kept ≡ of_frame peer (sorted frame) (behind_frame kept) (of_frames (n - 1) peer (behind_frame kept))
frames_step zero peer kept frame lt e = absurd (omega (arith, lt))
frames_step (suc n) peer kept frame lt e = let s : suc n - 1 ≡ n = omega arith in rw s (rw e refl)

-- a frame is taken, and then those behind it
pub goes_on : (n peer : ℕ) (kept frame : List ℕ) (start : List Item) (all : Brought) (now new : List Item) (on : Bool)
    → 0 < n → first_frame kept ≡ Some frame → Pushes peer (sorted frame) now new on
    → start ++ all.0 ≡ now ++ (of_frames n peer kept).0 → all.1 ≡ (of_frames n peer kept).1
    → (start ++ all.0 ≡ new ++ (onward on (behind_frame kept) (of_frames (n - 1) peer (behind_frame kept))).0)
    × (all.1 ≡ (onward on (behind_frame kept) (of_frames (n - 1) peer (behind_frame kept))).1)
goes_on n peer kept frame start all now new on lt e push items left =
    let later = of_frames (n - 1) peer (behind_frame kept) in
    let step = frames_step n peer kept frame lt e in
    let pushed = push (behind_frame kept) later in
    (items ∙ ap (λ (b : Brought). now ++ b.0) step ∙ pushed.0, left ∙ ap (λ (b : Brought). b.1) step ∙ pushed.1)
