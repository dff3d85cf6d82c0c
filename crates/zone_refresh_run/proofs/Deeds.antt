-- Deeds, some more at a time.
use Rattle.std.proofs.Common.{◌≡◌, List, [], ◌∷◌, ◌++◌, refl, ap, sym, subst}
use Rattle.zone_refresh_run.specs.Deeds.{Leads}
use Rattle.zone_refresh_run.specs.declared.world.Deed.{Deed}

pub append_nil : {A : Type 0} (xs : List A) → xs ++ [] ≡ xs
append_nil [] = refl
append_nil (x ∷ xs) = ap (λ ys. x ∷ ys) (append_nil xs)

module _ {W : Type 0} (does : Deed → W → W → Type 0) where
  pub no_deeds : (w : W) → Leads does [] w w
  no_deeds w = refl

  pub one_deed : (deed : Deed) (old new : W) → does deed old new → Leads does (deed ∷ []) old new
  one_deed deed old new done = (new, done, refl)

  pub more_deeds : (first second : List Deed) (a b c : W) → Leads does first a b → Leads does second b c → Leads does (first ++ second) a c
  more_deeds [] second a b c f s = subst (λ (w : W). Leads does second w c) (sym f) s
  more_deeds (deed ∷ first) second a b c f s = (f.0, f.1, more_deeds first second f.0 b c f.2 s)

  pub same_deeds : (deeds others : List Deed) (a b : W) → deeds ≡ others → Leads does deeds a b → Leads does others a b
  same_deeds deeds others a b same h = subst (λ (ds : List Deed). Leads does ds a b) same h
