-- Outs of a client and askers of a reply, one behind another.
use Rattle.std.proofs.Common.{◌≡◌, refl, ap, sym, ◌∙◌, ℕ, List, [], ◌∷◌, ◌++◌}
use Rattle.std.specs.Prelude.{Result}
use Rattle.client_request.specs.declared.error.Error.{Error}
use Rattle.client_request.specs.declared.event.Out.{Out}
use Rattle.front_peers.specs.Items.{Streams}
use Rattle.front_peers.specs.declared.event.FrontOut.{FrontOut}
use Rattle.front_peers.specs.declared.items.Asker.{Asker}
use Rattle.front_steps.specs.Waits.{answers_each, answers_one, puts_all, puts_out}
use Rattle.front_steps.specs.declared.putting.Desk.{Desk}

append_join : {A : Type 0} (a b c : List A) → (a ++ b) ++ c ≡ a ++ (b ++ c)
append_join [] b c = refl
append_join {A} (x ∷ a) b c = ap (λ (xs : List A). x ∷ xs) (append_join a b c)

-- an out is put, and then those behind it
pub puts_on : (out : Out) (left : List Out) (d after : Desk) (start all now new : List FrontOut)
    → start ++ all ≡ now ++ (puts_all (out ∷ left) d).0
    → new ≡ now ++ (puts_out out d).0 → after ≡ (puts_out out d).1
    → start ++ all ≡ new ++ (puts_all left after).0
puts_on out left d after start all now new h new_is after_is =
    rw new_is (rw after_is (h ∙ sym (append_join now (puts_out out d).0 (puts_all left (puts_out out d).1).0)))

-- one asker is answered, and then those behind it
pub answers_on : (reply : Result (List ℕ) Error) (asker : Asker) (left : List Asker) (s after : Streams) (start all now new : List FrontOut)
    → start ++ all ≡ now ++ (answers_each reply (asker ∷ left) s).0
    → new ≡ now ++ (answers_one reply asker s).0 → after ≡ (answers_one reply asker s).1
    → start ++ all ≡ new ++ (answers_each reply left after).0
answers_on reply asker left s after start all now new h new_is after_is =
    rw new_is (rw after_is (h ∙ sym (append_join now (answers_one reply asker s).0 (answers_each reply left (answers_one reply asker s).1).0)))
