-- What is done to a view is done to one like it, and calls that agree agree once more is done to what they leave.
use Rattle.std.proofs.Common.{◌≡◌, ℕ, ◌+◌, Bool, true, false, if◌then◌else◌, Option, Some, None, List, [], ◌∷◌, refl, sym, ap, subst, append_assoc}
use Rattle.std.specs.Prelude.{option_and_then, option_map}
use Rattle.client_request.specs.Timers.{can_draw, with_timer}
use Rattle.client_request.specs.View.{View, asks, sets_timer, draws_ticket, draws_place}
use Rattle.client_request.specs.declared.event.Out.{Out}
use Rattle.proof_cutting.specs.Pieces.{like, Both, Neither, Each}

-- ---- views

-- an out is put behind those of before
pub asks_like : (before : List Out) (more : Bool) (request : ℕ) (out : Out) (v : View) → asks out (like before more request v) ≡ like before more request (asks out v)
asks_like before more request out v = ap (λ os. record v { outs = os; more = more; request = request }) (append_assoc before v.outs (out ∷ []))

-- a view is like itself
pub like_itself : (v : View) → like [] v.more v.request v ≡ v
like_itself v = refl

-- what is set by one view is set by one like it
abbrev pub timed : ℕ → View → View
timed due v = record v { timers = with_timer due v.timers }

abbrev pub next_ticket : View → View
next_ticket v = record v { ticket = v.ticket + 1 }

abbrev pub next_place : View → View
next_place v = record v { place = v.place + 1 }

-- ---- calls that agree

module _ {U : Type 0} {longer : U → U} {before : List Out} {Leaves : U → View → Type 0} where
  -- what the first leaves
  pub left_of : {r r' : Option (U × View)} (u : U) (v : View) → Both longer before Leaves r r' → r ≡ Some (u, v) → Leaves u v
  left_of u v Neither e = absurd (cc)
  left_of u v (Each w x more request l) e = let is : (w, x) ≡ (u, v) = cc in subst (λ (y : U × View). Leaves y.0 y.1) is l

  -- less is said of what the first leaves
  pub weaker : {Less : U → View → Type 0} {r r' : Option (U × View)} → ((u : U) (v : View) → Leaves u v → Less u v) → Both longer before Leaves r r' → Both longer before Less r r'
  weaker f Neither = Neither
  weaker f (Each u v more request l) = Each u v more request (f u v l)

  -- they are the same calls, written otherwise
  pub same_both : {r r' s s' : Option (U × View)} → r ≡ s → r' ≡ s' → Both longer before Leaves s s' → Both longer before Leaves r r'
  same_both {r} {r'} {s} {s'} e e' b = subst (λ r. Both longer before Leaves r r') (sym e) (subst (λ r'. Both longer before Leaves s r') (sym e') b)

  -- either of two, by the same test
  pub if_both : {a a' c c' : Option (U × View)} (b : Bool) → (b ≡ true → Both longer before Leaves a a') → (b ≡ false → Both longer before Leaves c c')
      → Both longer before Leaves (if b then a else c) (if b then a' else c')
  if_both true yes_both no_both = yes_both refl
  if_both false yes_both no_both = no_both refl

  -- of a view where a number can be drawn for it
  pub sets_both : (k k' : View → Option (U × View)) (due : ℕ) (more : Bool) (request : ℕ) (v : View)
      → (can_draw v.timers.next ≡ true → Both longer before Leaves (k (timed due v)) (k' (like before more request (timed due v))))
      → Both longer before Leaves (option_and_then k (sets_timer due v)) (option_and_then k' (sets_timer due (like before more request v)))
  sets_both k k' due more request v h = go (can_draw v.timers.next) h
    where
      go : (b : Bool) → (b ≡ true → Both longer before Leaves (k (timed due v)) (k' (like before more request (timed due v))))
          → Both longer before Leaves (option_and_then k (if b then Some (timed due v) else None)) (option_and_then k' (if b then Some (like before more request (timed due v)) else None))
      go true h = h refl
      go false h = Neither

  pub tickets_both : (k k' : View → Option (U × View)) (more : Bool) (request : ℕ) (v : View)
      → (can_draw v.ticket ≡ true → Both longer before Leaves (k (next_ticket v)) (k' (like before more request (next_ticket v))))
      → Both longer before Leaves (option_and_then k (draws_ticket v)) (option_and_then k' (draws_ticket (like before more request v)))
  tickets_both k k' more request v h = go (can_draw v.ticket) h
    where
      go : (b : Bool) → (b ≡ true → Both longer before Leaves (k (next_ticket v)) (k' (like before more request (next_ticket v))))
          → Both longer before Leaves (option_and_then k (if b then Some (next_ticket v) else None)) (option_and_then k' (if b then Some (like before more request (next_ticket v)) else None))
      go true h = h refl
      go false h = Neither

  pub places_both : (k k' : View → Option (U × View)) (more : Bool) (request : ℕ) (v : View)
      → (can_draw v.place ≡ true → Both longer before Leaves (k (next_place v)) (k' (like before more request (next_place v))))
      → Both longer before Leaves (option_and_then k (draws_place v)) (option_and_then k' (draws_place (like before more request v)))
  places_both k k' more request v h = go (can_draw v.place) h
    where
      go : (b : Bool) → (b ≡ true → Both longer before Leaves (k (next_place v)) (k' (like before more request (next_place v))))
          → Both longer before Leaves (option_and_then k (if b then Some (next_place v) else None)) (option_and_then k' (if b then Some (like before more request (next_place v)) else None))
      go true h = h refl
      go false h = Neither

-- ---- one call behind another

module _ {U W : Type 0} {longer : U → U} {longer' : W → W} {before : List Out} {Leaves : U → View → Type 0} {Leaves' : W → View → Type 0} where
  -- what goes on behind calls that agree agrees
  pub then_both : {r r' : Option (U × View)} (k k' : U × View → Option (W × View)) → Both longer before Leaves r r'
      → ((u : U) (v : View) (more : Bool) (request : ℕ) → Leaves u v → Both longer' before Leaves' (k (u, v)) (k' (longer u, like before more request v)))
      → Both longer' before Leaves' (option_and_then k r) (option_and_then k' r')
  then_both k k' Neither h = Neither
  then_both k k' (Each u v more request l) h = h u v more request l

  -- what they leave is put elsewhere
  pub map_both : {r r' : Option (U × View)} (k k' : U × View → W × View) → Both longer before Leaves r r'
      → ((u : U) (v : View) (more : Bool) (request : ℕ) → Leaves u v → Both longer' before Leaves' (Some (k (u, v))) (Some (k' (longer u, like before more request v))))
      → Both longer' before Leaves' (option_map k r) (option_map k' r')
  map_both k k' Neither h = Neither
  map_both k k' (Each u v more request l) h = h u v more request l
