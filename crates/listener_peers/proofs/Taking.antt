-- What a peer's socket took, and what is unsent, are what was put there.
use Rattle.std.proofs.Common.{◌≡◌, ℕ, Bool, true, false, List, [], ◌∷◌, ◌++◌, Option, None, Some, refl, ap, sym, ◌∙◌, append_assoc}
use Rattle.std.specs.Prelude.{option_map, nat_lt, length, take, drop}
use Rattle.std.proofs.lemmas.List.{append-nil, take-append-drop}
use Rattle.socket_places.specs.declared.socket.Answer.{Answer}
use Rattle.socket_places.specs.declared.socket.Answer.TheVariants.{Done, Failed, Later}
use Rattle.socket_places.specs.declared.socket.Deal.{Deal}
use Rattle.socket_places.specs.declared.socket.Deal.TheVariants.{Put, Took}
use Rattle.socket_places.specs.Told.{after_one}
use Rattle.listener_peers.specs.declared.heard.Heard.{Heard}
use Rattle.listener_peers.specs.Once.{GoOnce, in_hand, taken, taken_by, taken_of}
use Rattle.listener_peers.specs.Streams.{HandsOver, HandsUnless, IsLook, IsPut, LooksAt, Peer, Takes, TakesUnless, and_unsent, still_unsent}

-- one deal more
taken-more : (deals : List Deal) (deal : Deal) → taken (deals ++ deal ∷ []) ≡ taken deals ++ taken_by deal
taken-more [] deal = append-nil (taken_by deal)
taken-more (first ∷ deals) deal = ap (λ (x : List ℕ). taken_by first ++ x) (taken-more deals deal) ∙ sym (append_assoc (taken_by first) (taken deals) (taken_by deal))

-- what was taken, and what is still unsent, are what was unsent
both-are : (answer : Answer ℕ) (unsent : List ℕ) → taken_of unsent answer ++ still_unsent answer unsent ≡ unsent
both-are (Done count) unsent = take-append-drop count unsent
both-are (Failed fault) unsent = refl
both-are Later unsent = refl

-- a deal leaves what is in hand, where what it takes and what is unsent behind it are what was unsent
kept-by : (deal : Deal) (deals : Option (List Deal)) (before after : List ℕ) → taken_by deal ++ after ≡ before →
    option_map (λ (ds : List Deal). taken ds ++ after) (after_one deal deals) ≡ option_map (λ (ds : List Deal). taken ds ++ before) deals
kept-by deal None before after e = refl
kept-by deal (Some deals) before after e =
    ap (λ (x : List ℕ). Some x)
    (ap (λ (x : List ℕ). x ++ after) (taken-more deals deal)
    ∙ append_assoc (taken deals) (taken_by deal) after
    ∙ ap (λ (x : List ℕ). taken deals ++ x) e)

hands-keep : (old new : Peer) → HandsOver old new → in_hand new ≡ in_hand old
hands-keep old new h = ap in_hand h.after ∙ kept-by (Put old.unsent h.answer) old.deals old.unsent (still_unsent h.answer old.unsent) (both-are h.answer old.unsent)

-- octets that stand behind those that are unsent
stands-behind : (octets : List ℕ) (deals : Option (List Deal)) (unsent : List ℕ) →
    option_map (λ (ds : List Deal). taken ds ++ (unsent ++ octets)) deals ≡ option_map (λ (before : List ℕ). before ++ octets) (option_map (λ (ds : List Deal). taken ds ++ unsent) deals)
stands-behind octets None unsent = refl
stands-behind octets (Some deals) unsent = ap (λ (x : List ℕ). Some x) (sym (append_assoc (taken deals) unsent octets))

unless-keeps : (waits : Bool) (old new : Peer) → HandsUnless waits old new → in_hand new ≡ in_hand old
unless-keeps true old new h = ap in_hand h
unless-keeps false old new h = hands-keep old new h

takes-more : (octets : List ℕ) (old new : Peer) → Takes octets old new → in_hand new ≡ option_map (λ (before : List ℕ). before ++ octets) (in_hand old)
takes-more octets old new h =
    ap in_hand h.after
    ∙ unless-keeps (nat_lt 0 (length old.unsent)) (and_unsent octets old) h.between h.hands
    ∙ stands-behind octets old.deals old.unsent

puts-more : (broken : Bool) (octets : List ℕ) (old new : Peer) → broken ≡ false → TakesUnless broken octets old new →
    in_hand new ≡ option_map (λ (before : List ℕ). before ++ octets) (in_hand old)
puts-more true octets old new e h = cc
puts-more false octets old new e h = takes-more octets old new h

looks-keep : (peer : ℕ) (broken waits : Bool) (old new : Peer) (told : Option Heard) → LooksAt peer broken waits old new told → in_hand new ≡ in_hand old
looks-keep peer true waits old new told h = ap in_hand h.0
looks-keep peer false true old new told h = hands-keep old new h.hands
looks-keep peer false false old new told h = ap in_hand h.after ∙ kept-by (Took h.answer) old.deals old.unsent old.unsent refl

pub octets-go-once : GoOnce
octets-go-once = record {
  put = λ octets old new e h. puts-more old.broken octets old new e h;
  look = λ peer old new told h. looks-keep peer old.broken (nat_lt 0 (length old.unsent)) old new told h.looks;
}
