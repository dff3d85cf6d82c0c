-- What a call owes that needs no number.
use Rattle.std.specs.Prelude.{◌≡◌, ℕ, Result, OnOk}
use Rattle.client_request.specs.Cx.{view_of, LendsTheSame}
use Rattle.client_request.specs.View.{View}
use Rattle.client_request.specs.declared.cx.Cx.{Cx}

-- It lends on what it lent, and Ok leaves what the step leaves. It is refused for want of memory alone.
pub record LeavesStep {W S A E : Type 0} (old new : Cx W) (result : Result A E) (step left : S) : Type 0 where
  pub lends : LendsTheSame old new
  pub ok : OnOk result (step ≡ left)

-- of a step from what is seen to what is left of it
abbrev pub Leaves : {W S A E : Type 0} → (W → ℕ → ℕ) → (old new : Cx W) → Result A E → (View → S × View) → (left : S) → Type 0
Leaves stream old new result step left = LeavesStep old new result (step (view_of stream old)) (left, view_of stream new)
