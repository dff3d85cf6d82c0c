-- Octets that come at a place in several events in place of one, and what is told of some events.
use Rattle.std.specs.Prelude.{ℕ, List, [], ◌∷◌, ◌++◌, Option, Some, map, option_map, option_and_then}
use Rattle.std.specs.List.{concat}
use Rattle.client_request.specs.declared.event.Event.{Event}
use Rattle.client_request.specs.declared.event.Moment.{Moment}
use Rattle.client_request.specs.declared.event.Out.{Out}
use Rattle.client_request.specs.declared.event.Row.{Row}
use Rattle.client_request.specs.declared.event.What.TheVariants.{Bytes}
use Rattle.client_steps.specs.Client.{Client, Machine, row_step}

-- these octets came at a place
abbrev pub bytes_at : Moment → (place : ℕ) → List ℕ → Event
bytes_at moment place octets = record { moment = moment; what = Bytes place octets }

-- Of some events one is cut: several bring, one behind another at its place and moment, what it brings.
pub data IsCut : (events cut : List Event) → Type 0 where
  Here : (moment : Moment) (place : ℕ) (first : List ℕ) (more : List (List ℕ)) (after : List Event)
      → IsCut (bytes_at moment place (concat (first ∷ more)) ∷ after) (map (bytes_at moment place) (first ∷ more) ++ after)
  Later : (e : Event) (events cut : List Event) → IsCut events cut → IsCut (e ∷ events) (e ∷ cut)

module _ {U P : Type 0} (m : Machine U P) (timeout : ℕ) where
  abbrev pub then_told : (Client U P → Option (List Out × Client U P)) → Row × Client U P → Option (List Out × Client U P)
  then_told rest x = option_map (λ y. (x.0.outs ++ y.0, y.1)) (rest x.1)

  -- the outs of some events in order, and the client that they leave, with the words that are left; none where a number would pass 64 bits
  abbrev pub told_all : List Event → Client U P → Option (List Out × Client U P)
  told_all [] c = Some ([], c)
  told_all (e ∷ es) c = option_and_then (then_told (told_all es)) (row_step m timeout e c)
