-- What is asked in a front of some events.
use Rattle.std.proofs.Common.{◌≡◌, ℕ, ◌+◌, ◌<◌, ◌≤◌, List, [], ◌∷◌, ◌++◌, length, take, get_or, subst, sym}
use Rattle.std.proofs.lemmas.List.{take_all, take_more}
use Rattle.client_request.specs.declared.event.Event.{Event}
use Rattle.right_trace.specs.Timely.{IsAskedInOctets, AllAskedInOctets}

one_more : (es : List Event) (e : Event) → AllAskedInOctets es → IsAskedInOctets e.what → AllAskedInOctets (es ++ e ∷ [])
one_more [] e all one = (one, tt)
one_more (x ∷ es) e all one = (all.0, one_more es e all.1 one)

pub next_asked : (es : List Event) (i : ℕ) (e : Event) → i < length es → e ≡ get_or es i e → AllAskedInOctets (take i es) → IsAskedInOctets e.what → AllAskedInOctets (take (i + 1) es)
next_asked es i e lt is all one =
    let more : take (i + 1) es ≡ take i es ++ e ∷ [] = (let b = take_more es i e lt in cc) in
    subst AllAskedInOctets (sym more) (one_more (take i es) e all one)

pub all_asked : (es : List Event) (i : ℕ) → length es ≤ i → AllAskedInOctets (take i es) → AllAskedInOctets es
all_asked es i le all = subst AllAskedInOctets (take_all i es le) all
