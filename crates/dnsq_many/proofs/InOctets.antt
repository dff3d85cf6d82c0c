-- What comes in a front of some entries.
use Rattle.std.proofs.Common.{◌≡◌, ℕ, ◌+◌, ◌<◌, ◌≤◌, List, [], ◌∷◌, ◌++◌, map, length, take, get_or, subst, sym, ap, ◌∙◌}
use Rattle.std.proofs.lemmas.List.{take_all, take_more}
use mathlib.Core.List.{map-append}
use Rattle.client_request.specs.declared.event.Event.{Event}
use Rattle.client_shared.specs.declared.entry.Entry.{Entry}
use Rattle.right_trace.specs.InOctets.{AllInOctets}
use Rattle.right_trace.specs.Timely.{AllAskedInOctets}
use Rattle.proof_shared.specs.Histories.{events_of}
use Rattle.dnsq_many.specs.Lanes.{AreInOctets}

come : (es : List Event) (e : Event) → AllInOctets es → AllInOctets (e ∷ []) → AllInOctets (es ++ e ∷ [])
come [] e all one = one
come (x ∷ es) e all one = (all.0, come es e all.1 one)

asked : (es : List Event) (e : Event) → AllAskedInOctets es → AllAskedInOctets (e ∷ []) → AllAskedInOctets (es ++ e ∷ [])
asked [] e all one = one
asked (x ∷ es) e all one = (all.0, asked es e all.1 one)

one_more : (entries : List Entry) (e : Entry) → AreInOctets entries → AllAskedInOctets (e.event ∷ []) → AllInOctets (e.event ∷ []) → AreInOctets (entries ++ e ∷ [])
one_more entries e all asks comes =
    subst (λ (es : List Event). AllAskedInOctets es × AllInOctets es) (sym (map-append (λ (x : Entry). x.event) entries (e ∷ [])))
    (asked (events_of entries) e.event all.0 asks, come (events_of entries) e.event all.1 comes)

pub next_in_octets : (entries : List Entry) (i : ℕ) (e : Entry) → i < length entries → e ≡ get_or entries i e → AreInOctets (take i entries) → AllAskedInOctets (e.event ∷ []) → AllInOctets (e.event ∷ []) → AreInOctets (take (i + 1) entries)
next_in_octets entries i e lt is all asks comes =
    let more : take (i + 1) entries ≡ take i entries ++ e ∷ [] = (let b = take_more entries i e lt in cc) in
    subst AreInOctets (sym more) (one_more (take i entries) e all asks comes)

pub all_in_octets : (entries : List Entry) (i : ℕ) → length entries ≤ i → AreInOctets (take i entries) → AreInOctets entries
all_in_octets entries i le all = subst AreInOctets (take_all i entries le) all
