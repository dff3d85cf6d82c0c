-- The servers hear one after another.
use Rattle.std.proofs.Common.{◌≡◌, ℕ, suc, ◌+◌, ◌-◌, ◌<◌, refl, arith, Some, None}
use Rattle.client_request.specs.View.{View, Heard, Transport}
use Rattle.client_settings.specs.Settings.{RedundantSettings}
use Rattle.client_choice.specs.Choice.{Choice, hears_one, hears_some}

pub hears_next : {R U P : Type 0} (below : Transport R U P) (settings : RedundantSettings) (n i : ℕ) (h : Heard) (c new : Choice R U P) (v w : View) → i < n → hears_one below settings i h c v ≡ Some (new, w) → hears_some below settings (i + 1) (n - (i + 1)) h new w ≡ hears_some below settings i (n - i) h c v
hears_next below settings n i h c new v w within step =
    let e : n - i ≡ suc (n - (i + 1)) = omega arith in
    rw e (rw step refl)

-- where one has no step, they have none
pub hears_stop : {R U P : Type 0} (below : Transport R U P) (settings : RedundantSettings) (n i : ℕ) (h : Heard) (c : Choice R U P) (v : View) → i < n → hears_one below settings i h c v ≡ None → hears_some below settings i (n - i) h c v ≡ None
hears_stop below settings n i h c v within step =
    let e : n - i ≡ suc (n - (i + 1)) = omega arith in
    rw e (rw step refl)
