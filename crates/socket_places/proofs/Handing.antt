-- What a socket is handed, and what waits for it, are what was put at its place.
use Rattle.std.proofs.Common.{◌≡◌, ℕ, Bool, true, false, List, [], ◌∷◌, ◌++◌, Option, None, Some, refl, ap, sym, ◌∙◌, append_assoc}
use Rattle.std.specs.Prelude.{option_map, slice_get, nat_lt, length}
use Rattle.std.proofs.lemmas.List.{append-nil}
use Rattle.client_request.specs.declared.event.What.{What}
use Rattle.socket_places.specs.declared.socket.Answer.{Answer}
use Rattle.socket_places.specs.declared.socket.Answer.TheVariants.{Done, Failed, Later}
use Rattle.socket_places.specs.declared.socket.Deal.{Deal}
use Rattle.socket_places.specs.declared.socket.Deal.TheVariants.{Opened, Put, Took}
use Rattle.socket_places.specs.declared.socket.Stage.{Stage}
use Rattle.socket_places.specs.declared.socket.Stage.TheVariants.{Dgram, Opening, Open, Ended}
use Rattle.socket_places.specs.Places.{HandsFirst, IsDeal, LooksAt, Opens, Place, PutsAt, Reads, Rests, and_waiting, still_waiting, waiting_after}
use Rattle.socket_places.specs.Once.{GoOnce, handed, handed_by, in_hand, settled}
use Rattle.socket_places.specs.Told.{after_one}

-- one deal more
handed-more : (deals : List Deal) (deal : Deal) → handed (deals ++ deal ∷ []) ≡ handed deals ++ handed_by deal
handed-more [] deal = append-nil (handed_by deal)
handed-more (first ∷ deals) deal = ap (λ (x : List (List ℕ)). handed_by first ++ x) (handed-more deals deal) ∙ sym (append_assoc (handed_by first) (handed deals) (handed_by deal))

-- what waits, once the first of it was handed over
first-goes : (octets : List ℕ) (answer : Answer ℕ) (waiting : List (List ℕ)) → slice_get waiting 0 ≡ Some octets → settled octets answer ++ still_waiting answer waiting ≡ waiting
first-goes octets Later waiting e = refl
first-goes octets (Done count) [] e = cc
first-goes octets (Done count) (first ∷ waiting) e = cc
first-goes octets (Failed fault) [] e = cc
first-goes octets (Failed fault) (first ∷ waiting) e = cc

-- a deal leaves what is in hand, where what it settles and what waits behind it is what waited
kept-by : (deal : Deal) (deals : Option (List Deal)) (waiting : List (List ℕ)) →
    handed_by deal ++ waiting_after deal waiting ≡ waiting →
    option_map (λ (ds : List Deal). handed ds ++ waiting_after deal waiting) (after_one deal deals) ≡ option_map (λ (ds : List Deal). handed ds ++ waiting) deals
kept-by deal None waiting e = refl
kept-by deal (Some deals) waiting e =
    ap (λ (x : List (List ℕ)). Some x)
    (ap (λ (x : List (List ℕ)). x ++ waiting_after deal waiting) (handed-more deals deal)
    ∙ append_assoc (handed deals) (handed_by deal) (waiting_after deal waiting)
    ∙ ap (λ (x : List (List ℕ)). handed deals ++ x) e)

deal-keeps : (number : ℕ) (old new : Place) (told : Option What) (deal : Deal) → IsDeal number old new told deal →
    handed_by deal ++ waiting_after deal old.waiting ≡ old.waiting → in_hand new ≡ in_hand old
deal-keeps number old new told deal is e = ap in_hand is.after ∙ kept-by deal old.deals old.waiting e

hands-keep : (number : ℕ) (old new : Place) (told : Option What) → HandsFirst number old new told → in_hand new ≡ in_hand old
hands-keep number old new told h = deal-keeps number old new told (Put h.octets h.answer) h.deal (first-goes h.octets h.answer old.waiting h.is_first)

rests-keep : (old new : Place) (told : Option What) → Rests old new told → in_hand new ≡ in_hand old
rests-keep old new told h = ap in_hand h.0

opens-keep : (number : ℕ) (old new : Place) (told : Option What) → Opens number old new told → in_hand new ≡ in_hand old
opens-keep number old new told h = deal-keeps number old new told (Opened h.answer) h.deal refl

reads-keep : (number : ℕ) (old new : Place) (told : Option What) → Reads number old new told → in_hand new ≡ in_hand old
reads-keep number old new told h = deal-keeps number old new told (Took h.answer) h.deal refl

looks-keep : (number : ℕ) (stage : Stage) (waits : Bool) (old new : Place) (told : Option What) → LooksAt number stage waits old new told → in_hand new ≡ in_hand old
looks-keep number Opening waits old new told h = opens-keep number old new told h
looks-keep number Dgram true old new told h = hands-keep number old new told h
looks-keep number Open true old new told h = hands-keep number old new told h
looks-keep number Ended true old new told h = hands-keep number old new told h
looks-keep number Dgram false old new told h = reads-keep number old new told h
looks-keep number Open false old new told h = reads-keep number old new told h
looks-keep number Ended false old new told h = rests-keep old new told h

put-keeps : (number : ℕ) (waits : Bool) (old new : Place) (told : Option What) → PutsAt number waits old new told → in_hand new ≡ in_hand old
put-keeps number true old new told h = rests-keep old new told h
put-keeps number false old new told h = hands-keep number old new told h

-- octets that wait behind those that do
waits-more : (octets : List ℕ) (deals : Option (List Deal)) (waiting : List (List ℕ)) →
    option_map (λ (ds : List Deal). handed ds ++ (waiting ++ octets ∷ [])) deals ≡ after_one octets (option_map (λ (ds : List Deal). handed ds ++ waiting) deals)
waits-more octets None waiting = refl
waits-more octets (Some deals) waiting = ap (λ (x : List (List ℕ)). Some x) (sym (append_assoc (handed deals) waiting (octets ∷ [])))

pub octets-go-once : GoOnce
octets-go-once = record {
  put = λ number octets old new told h. put-keeps number (nat_lt 0 (length old.waiting)) (and_waiting octets old) new told h ∙ waits-more octets old.deals old.waiting;
  look = λ number old new told h. looks-keep number old.stage (nat_lt 0 (length old.waiting)) old new told h.looks;
}
