-- Deeds one behind the other.
use Rattle.std.proofs.Common.{◌≡◌, List, [], ◌++◌, Option, None, Some, refl, ap, sym, append_assoc, append-nil}
use Rattle.dns_lookup_walk.specs.Deeds.{Deed, after_deeds}

pub after_both : (earlier later : List Deed) (deeds : Option (List Deed)) → after_deeds later (after_deeds earlier deeds) ≡ after_deeds (earlier ++ later) deeds
after_both earlier later None = refl
after_both earlier later (Some ds) = ap (λ (all : List Deed). Some all) (append_assoc ds earlier later)

pub after_none : (deeds : Option (List Deed)) → deeds ≡ after_deeds [] deeds
after_none None = refl
after_none (Some ds) = ap (λ (all : List Deed). Some all) (sym (append-nil ds))
