-- What comes in a front of some events.
use Rattle.std.proofs.Common.{◌≡◌, ℕ, ◌+◌, ◌<◌, ◌≤◌, List, [], ◌∷◌, ◌++◌, length, take, get_or, subst, sym}
use Rattle.std.proofs.lemmas.List.{take_all, take_more}
use Rattle.client_request.specs.declared.event.Event.{Event}
use Rattle.right_trace.specs.InOctets.{IsInOctets, AllInOctets}

one_more : (es : List Event) (e : Event) → AllInOctets es → IsInOctets e.what → AllInOctets (es ++ e ∷ [])
one_more [] e all one = (one, tt)
one_more (x ∷ es) e all one = (all.0, one_more es e all.1 one)

pub next_comes : (es : List Event) (i : ℕ) (e : Event) → i < length es → e ≡ get_or es i e → AllInOctets (take i es) → IsInOctets e.what → AllInOctets (take (i + 1) es)
next_comes es i e lt is all one =
    let more : take (i + 1) es ≡ take i es ++ e ∷ [] = (let b = take_more es i e lt in cc) in
    subst AllInOctets (sym more) (one_more (take i es) e all one)

pub all_come : (es : List Event) (i : ℕ) → length es ≤ i → AllInOctets (take i es) → AllInOctets es
all_come es i le all = subst AllInOctets (take_all i es le) all
