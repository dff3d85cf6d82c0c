-- What the turns before one add, and that one.
use Rattle.std.proofs.Common.{◌≡◌, ℕ, ◌+◌, ◌*◌, ◌%◌, ◌≤◌, ◌<◌, zero, suc, List, [], ◌∷◌, ◌++◌, map, arith, ap, sym, refl, subst, ◌∙◌, true, false, Bool, add-one, append_assoc}
use Rattle.std.specs.Prelude.{◌==◌, if◌then◌else◌}
use Rattle.std.specs.List.{flat_map}
use Rattle.std.proofs.lemmas.List.{flat_map_more}
use Rattle.std.proofs.lemmas.List.Folds.{flat_map-map}
use Rattle.std.proofs.lemmas.List.FromFn.{map-range_with_len_more, sum_by-map-range_with_len_more}
use Rattle.std.proofs.lemmas.List.Sums.{sum-map}
use Rattle.client_request.specs.Request.{recorded_from}
use Rattle.client_request.specs.declared.event.Event.{Event}
use Rattle.client_request.specs.declared.event.What.TheVariants.{Ask}
use Rattle.dns_script.specs.Generated.{after, answer_places, answered, by_datagram, by_stream, events_at, events_of, first_turns, host_answer, host_of, host_query, is_asked, next_place, places_of, truncated_answer, with_turn, words_of}
use Rattle.dns_script.specs.declared.generating.Turns.{Turns}

-- what the turns before turn k add
abbrev pub before : ℕ → Turns
before k = record { place = next_place k; words = flat_map words_of (first_turns k); events = flat_map events_of (first_turns k) }

flat_map_turns : {A : Type 0} (f : ℕ → List A) (k : ℕ) → flat_map f (first_turns (k + 1)) ≡ flat_map f (first_turns k) ++ f k
flat_map_turns f k =
    sym (flat_map-map f (λ x. x) (first_turns (k + 1)))
    ∙ ap (λ turns. flat_map f turns) (map-range_with_len_more (λ x. x) 0 k k (omega arith))
    ∙ sym (flat_map_more f [] (map (λ x. x) (first_turns k)) k)
    ∙ ap (λ items. items ++ f k) (flat_map-map f (λ x. x) (first_turns k))

next_place_more : (k : ℕ) → next_place (k + 1) ≡ next_place k + places_of k
next_place_more k =
    sym (sum-map places_of (first_turns (k + 1)))
    ∙ sum_by-map-range_with_len_more (λ x. x) places_of 0 k k (omega arith)
    ∙ ap (λ places. places + places_of k) (sum-map places_of (first_turns k))

abbrev turns : ℕ → List ℕ → List Event → Turns
turns place words events = record { place = place; words = words; events = events }

same_turns : {p q : ℕ} {v w : List ℕ} {d e : List Event} → p ≡ q → v ≡ w → d ≡ e → turns p v d ≡ turns q w e
same_turns p q r = λ i. turns (p i) (q i) (r i)

pub turn_more : (k : ℕ) → with_turn k (before k) ≡ before (k + 1)
turn_more k = same_turns (sym (next_place_more k)) (sym (flat_map_turns words_of k)) (sym (flat_map_turns events_of k))

-- a turn opens two places at most
two_at_most : (asked first : Bool) → (if asked then (if first then 2 else 1) else 0) ≤ 2
two_at_most true true = omega arith
two_at_most true false = omega arith
two_at_most false first = omega arith

places_fit : (k : ℕ) → next_place k ≤ 2 * k
places_fit zero = omega arith
places_fit (suc k) =
    let more : next_place (k + 1) ≡ next_place k + places_of k = next_place_more k in
    let few : places_of k ≤ 2 = two_at_most (is_asked k) (host_of k == 0) in
    let below : next_place k ≤ 2 * k = places_fit k in
    subst (λ n. next_place n ≤ 2 * n) (add-one k) (omega arith)

pub free_place : (turns : Turns) (k : ℕ) → turns ≡ before k → k < 200000 → turns.place ≤ 400000
free_place turns k is below =
    let place : turns.place ≡ next_place k = ap (λ (t : Turns). t.place) is in
    let fits : next_place k ≤ 2 * k = places_fit k in
    omega arith

-- The answer for the first host takes two places, and those for others one.
pub first_answered : (k : ℕ) (old middle new : Turns) → host_of k ≡ 0
    → middle ≡ record old { place = old.place + 1; events = old.events ++ by_datagram k old.place (truncated_answer (k % 65536) 0) }
    → new ≡ record middle { place = middle.place + 1; events = middle.events ++ by_stream k middle.place (host_answer 0 0) }
    → new ≡ record old { place = old.place + answer_places k; events = old.events ++ answered k old.place }
first_answered k old middle new first half whole =
    let both : new ≡ record old { place = old.place + 1 + 1; events = (old.events ++ by_datagram k old.place (truncated_answer (k % 65536) 0)) ++ by_stream k (old.place + 1) (host_answer 0 0) } =
    whole ∙ ap (λ (t : Turns). record t { place = t.place + 1; events = t.events ++ by_stream k t.place (host_answer 0 0) }) half in
    let places : answer_places k ≡ 2 = ap (λ n. if n == 0 then 2 else 1) first in
    let events : answered k old.place ≡ by_datagram k old.place (truncated_answer (k % 65536) 0) ++ by_stream k (old.place + 1) (host_answer 0 0) =
    ap (λ n. if n == 0 then by_datagram k old.place (truncated_answer (k % 65536) 0) ++ by_stream k (old.place + 1) (host_answer 0 0) else by_datagram k old.place (host_answer (k % 65536) n)) first in
    both ∙ same_turns (omega arith) refl (append_assoc old.events _ _ ∙ ap (λ es. old.events ++ es) (sym events))

pub turned : (k : ℕ) (old asked drawn new : Turns) → is_asked k ≡ true
    → asked ≡ record old { events = old.events ++ after k 0 (Ask (recorded_from (host_query (host_of k)))) ∷ [] }
    → drawn ≡ record asked { words = asked.words ++ k ∷ [] }
    → new ≡ record drawn { place = drawn.place + answer_places k; events = drawn.events ++ answered k drawn.place }
    → new ≡ with_turn k old
turned k old asked drawn new is one two three =
    let draws : drawn ≡ record old { words = old.words ++ k ∷ []; events = old.events ++ after k 0 (Ask (recorded_from (host_query (host_of k)))) ∷ [] } =
    two ∙ ap (λ (t : Turns). record t { words = t.words ++ k ∷ [] }) one in
    let all : new ≡ record old { place = old.place + answer_places k; words = old.words ++ k ∷ []; events = (old.events ++ after k 0 (Ask (recorded_from (host_query (host_of k)))) ∷ []) ++ answered k old.place } =
    three ∙ ap (λ (t : Turns). record t { place = t.place + answer_places k; events = t.events ++ answered k t.place }) draws in
    let places : places_of k ≡ answer_places k = ap (λ (b : Bool). if b then answer_places k else 0) is in
    let words : words_of k ≡ k ∷ [] = ap (λ (b : Bool). if b then k ∷ [] else []) is in
    let events : events_at k old.place ≡ after k 0 (Ask (recorded_from (host_query (host_of k)))) ∷ answered k old.place =
    ap (λ (b : Bool). after k 0 (Ask (recorded_from (host_query (host_of k)))) ∷ (if b then answered k old.place else [])) is in
    all ∙ same_turns (ap (λ n. old.place + n) (sym places)) (ap (λ ns. old.words ++ ns) (sym words)) (append_assoc old.events _ _ ∙ ap (λ es. old.events ++ es) (sym events))
