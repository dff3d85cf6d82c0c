-- The version of a trace's text.
use Rattle.std.proofs.Common.{◌≡◌, Bool, true, false, not, ◌&&◌, ◌||◌, if◌then◌else◌, Option, Some, None, refl, sym}
use Rattle.dns_names.proofs.Heads.{none_some}

-- what is not refused
pub not_refused : {X : Type 0} (b : Bool) (o : Option X) (x : X) → (if b then None else o) ≡ Some x → (b ≡ false) × (o ≡ Some x)
not_refused true o x e = none_some e
not_refused false o x e = (refl, e)

pub or_none : (a : Bool) → (a || false) ≡ a
or_none true = refl
or_none false = refl

pub or_later : (a b c : Bool) → ((a || b) || c) ≡ (a || (b || c))
or_later true b c = refl
or_later false b c = refl

-- Where a reply is stale in a part of a text, the text is of the second version.
pub or_allowed : (a b second : Bool) → ((a || b) && not second) ≡ false → ((a && not second) ≡ false) × ((b && not second) ≡ false)
or_allowed true true second e = (e, e)
or_allowed true false second e = (e, refl)
or_allowed false b second e = (refl, e)

pub allows_itself : (a : Bool) → (a && not a) ≡ false
allows_itself true = refl
allows_itself false = refl

-- a stale reply more
pub one_stale_more : (rows row out : Bool) → ((rows || (row || false)) || out) ≡ (rows || ((row || (out || false)) || false))
one_stale_more true row out = refl
one_stale_more false true out = refl
one_stale_more false false true = refl
one_stale_more false false false = refl

pub still_allowed : (stale out second : Bool) → (stale ≡ true → second ≡ true) → (out && not second) ≡ false → (stale || out) ≡ true → second ≡ true
still_allowed true out second allowed none e = allowed refl
still_allowed false true true allowed none e = refl
still_allowed false true false allowed none e = absurd cc
still_allowed false false second allowed none e = absurd cc

-- At the end there was a stale reply exactly in a text of the second version.
pub version_at_end : (stale second : Bool) → (stale ≡ true → second ≡ true) → (second && not stale) ≡ false → stale ≡ second
version_at_end true second allowed none = sym (allowed refl)
version_at_end false true allowed none = absurd cc
version_at_end false false allowed none = refl
