-- Calls that leave the board as it was.
use Rattle.std.proofs.Common.{◌≡◌, Option, Some, None, ◌∙◌, subst}
use Rattle.std.specs.Prelude.{option_map, option_and_then}
use Rattle.client_request.specs.View.{View}

-- what is left, if anything, has the board of a view
abbrev pub KeepsBoard : {A : Type 0} → View → Option (A × View) → Type 0
KeepsBoard v None = Unit {0}
KeepsBoard v (Some x) = x.1.board ≡ v.board

pub keeps_from : {A : Type 0} (v w : View) (o : Option (A × View)) → w.board ≡ v.board → KeepsBoard w o → KeepsBoard v o
keeps_from v w None from h = tt
keeps_from v w (Some x) from h = h ∙ from

pub keeps_then : {A B : Type 0} (v : View) (k : A × View → Option (B × View)) (o : Option (A × View)) → ((x : A × View) → KeepsBoard x.1 (k x)) → KeepsBoard v o → KeepsBoard v (option_and_then k o)
keeps_then v k None f h = tt
keeps_then v k (Some x) f h = keeps_from v x.1 (k x) h (f x)

pub keeps_map : {A B : Type 0} (v : View) (k : A × View → B × View) (o : Option (A × View)) → ((x : A × View) → (k x).1.board ≡ x.1.board) → KeepsBoard v o → KeepsBoard v (option_map k o)
keeps_map v k None f h = tt
keeps_map v k (Some x) f h = f x ∙ h

pub keeps_left : {A : Type 0} (v w : View) (a : A) (o : Option (A × View)) → KeepsBoard v o → o ≡ Some (a, w) → w.board ≡ v.board
keeps_left v w a o h is = subst (KeepsBoard v) is h
