-- Results on a board, taken one by one.
use Rattle.std.proofs.Common.{◌≡◌, Bool, true, subst, ℕ, ◌+◌, List, [], ◌∷◌, ◌++◌, length, Option, Some, None, Result, Ok, Err, refl, ap, sym, ◌∙◌, get_or, false}
use Rattle.std.specs.Prelude.{◌==◌, option_map, option_and_then, slice_get}
use Rattle.std.proofs.lemmas.List.Edits.{length-remove}
use Rattle.std.proofs.lemmas.List.Quantifiers.{position-Some}
use Rattle.std.proofs.lemmas.Option.{slice_get-get_or}
use Rattle.client_request.specs.Board.{Part, part_of, place_of, removed_at, without_part}
use Rattle.client_request.specs.Response.{board_after, ended_after, part_response_of, polled_part}
use Rattle.client_request.specs.declared.board.Posted.{Posted}
use Rattle.client_request.specs.declared.response.Poll.{Poll}
use Rattle.client_request.specs.declared.response.Poll.TheVariants.{Ready, Pending}
use Rattle.stream_turns.specs.Turns.{Held, with_board}
use Rattle.zone_transfer.proofs.ReadOn.{none_read, one_read, then_are}
use Rattle.zone_transfer.specs.Fetching.{ReadsStanding, ReadsUpTo, RefusesPart}
use Rattle.zone_transfer.specs.Reading.{ReadSoFar, TakesPart}
use Rattle.zone_transfer.specs.Turning.{Stand}
use Rattle.zone_transfer.specs.declared.fault.FetchFault.{FetchFault}

-- a board without a result that stood is shorter
pub one_less : (ps : List Posted) (part : Part) → part_of 0 ps ≡ Some part → length (without_part 0 ps) + 1 ≡ length ps
one_less ps part h = go (place_of 0 ps) refl h
  where
    go : (o : Option ℕ) → place_of 0 ps ≡ o → option_and_then (λ i. option_map (λ p. p.part) (slice_get ps i)) o ≡ Some part → length (removed_at ps o) + 1 ≡ length ps
    go None e h = absurd (cc)
    go (Some i) e h = length-remove ps i ((position-Some (λ p. p.ticket == 0) ps i (record { ticket = 0; part = Ok None; is_stale = false }) e).0)

-- a board on which nothing stands stays
pub none_less : (ps : List Posted) → part_of 0 ps ≡ None → without_part 0 ps ≡ ps
none_less ps h = go (place_of 0 ps) refl h
  where
    go : (o : Option ℕ) → place_of 0 ps ≡ o → option_and_then (λ i. option_map (λ p. p.part) (slice_get ps i)) o ≡ None → removed_at ps o ≡ ps
    go None e h = refl
    go (Some i) e h =
        let at = slice_get-get_or ps i (record { ticket = 0; part = Ok None; is_stale = false }) ((position-Some (λ p. p.ticket == 0) ps i (record { ticket = 0; part = Ok None; is_stale = false }) e).0) in
        let some : option_map (λ p. p.part) (Some (get_or ps i (record { ticket = 0; part = Ok None; is_stale = false }))) ≡ None = ap (option_map (λ p. p.part)) (sym at) ∙ h in
        absurd (cc)

-- what a call says of a board
pub ready_at : (ended : Bool) (ticket : ℕ) (ps : List Posted) (part : Part) (r : Poll Part) → r ≡ part_response_of ended ticket ps → ended ≡ false → ticket ≡ 0 → r ≡ Ready part → part_of 0 ps ≡ Some part
ready_at ended ticket ps part r is not_ended first ready =
    go (part_of 0 ps) (sym ready ∙ is ∙ ap (λ (b : Bool). part_response_of b ticket ps) not_ended ∙ ap (λ (n : ℕ). part_response_of false n ps) first)
  where
    go : (o : Option Part) → Ready part ≡ polled_part o → o ≡ Some part
    go None h = absurd (cc)
    go (Some x) h = cc

pub pending_at : (ended : Bool) (ticket : ℕ) (ps : List Posted) (r : Poll Part) → r ≡ part_response_of ended ticket ps → ended ≡ false → ticket ≡ 0 → r ≡ Pending → part_of 0 ps ≡ None
pending_at ended ticket ps r is not_ended first pending =
    go (part_of 0 ps) (sym pending ∙ is ∙ ap (λ (b : Bool). part_response_of b ticket ps) not_ended ∙ ap (λ (n : ℕ). part_response_of false n ps) first)
  where
    go : (o : Option Part) → Pending ≡ polled_part o → o ≡ None
    go None h = refl
    go (Some x) h = absurd (cc)

pub board_left : (ended : Bool) (ticket : ℕ) (ps after : List Posted) → after ≡ board_after ended ticket ps → ended ≡ false → ticket ≡ 0 → after ≡ without_part 0 ps
board_left ended ticket ps after is not_ended first = is ∙ ap (λ (b : Bool). board_after b ticket ps) not_ended ∙ ap (λ (n : ℕ). without_part n ps) first

-- a message more is taken
pub stand_more : (a b : List Posted) (ms : List (List ℕ)) (m : List ℕ) → Stand a ms b → part_of 0 b ≡ Some (Ok (Some m)) → Stand a (ms ++ m ∷ []) (without_part 0 b)
stand_more a b [] m h p = (ap (part_of 0) h ∙ p, ap (without_part 0) h)
stand_more a b (n ∷ ms) m h p = (h.0, stand_more (without_part 0 a) b ms m h.1 p)

-- ---- what is read of them

-- what a result leads to
abbrev pub LeadsOn : (most : ℕ) (s : ReadSoFar) (board after : List Posted) → Result Bool FetchFault → ReadSoFar → Type 0
LeadsOn most s board after (Ok true) u = ReadsUpTo s board (Some (Ok None)) after u
LeadsOn most s board after (Ok false) u = ReadsStanding s board after u
LeadsOn most s board after (Err fault) u = RefusesPart most s board fault

pub nothing_stood : (s : ReadSoFar) (board : List Posted) → ReadsStanding s board board s
nothing_stood s board = record { messages = []; stand = refl; read = none_read s }

pub leads_on : (most : ℕ) (s t u : ReadSoFar) (board b after : List Posted) (part : Part) (r : Result Bool FetchFault) → ReadsStanding s board b t → part_of 0 b ≡ Some part → after ≡ without_part 0 b → TakesPart most t part r u
    → LeadsOn most s board after r u
leads_on most s t u board b after (Ok None) (Ok true) so_far stands is h = record { rest = b; reads = subst (λ (x : ReadSoFar). ReadsStanding s board b x) (sym h.1) so_far; ends = stands }
leads_on most s t u board b after (Ok None) (Ok false) so_far stands is h = absurd (let e : false ≡ true = h.0 in cc)
leads_on most s t u board b after (Ok (Some m)) (Ok true) so_far stands is h = absurd (let e : true ≡ false = h.0 in cc)
leads_on most s t u board b after (Ok (Some m)) (Ok false) so_far stands is h = record {
  messages = so_far.messages ++ m ∷ [];
  stand = subst (λ (x : List Posted). Stand board (so_far.messages ++ m ∷ []) x) (sym is) (stand_more board b so_far.messages m so_far.stand stands);
  read = then_are s t u so_far.messages (m ∷ []) so_far.read (one_read t u m h.1);
}
leads_on most s t u board b after (Err error) (Ok ended) so_far stands is h = absurd h
leads_on most s t u board b after (Ok None) (Err fault) so_far stands is h = absurd h
leads_on most s t u board b after (Ok (Some m)) (Err fault) so_far stands is h = record { rest = b; state = t; reads = so_far; part = Ok (Some m); stands = stands; refused = h }
leads_on most s t u board b after (Err error) (Err fault) so_far stands is h = record { rest = b; state = t; reads = so_far; part = Err error; stands = stands; refused = h }

-- nothing stands any more
pub none_left : (s t : ReadSoFar) (board b after : List Posted) → ReadsStanding s board b t → part_of 0 b ≡ None → after ≡ without_part 0 b → ReadsStanding s board after t × (part_of 0 after ≡ None)
none_left s t board b after so_far none is =
    let same : after ≡ b = is ∙ none_less b none in
    (subst (λ (x : List Posted). ReadsStanding s board x t) (sym same) so_far, ap (part_of 0) same ∙ none)

-- what a call leaves
pub left_is : (fn before after : Held) (board : List Posted) → after ≡ with_board board before → before ≡ with_board before.layer.board fn → after ≡ with_board after.layer.board fn
left_is fn before after board step so_far =
    let whole : after ≡ with_board board fn = step ∙ ap (with_board board) so_far in
    whole ∙ ap (λ (b : List Posted). with_board b fn) (sym (ap (λ (h : Held). h.layer.board) whole))

-- behind a message the end was not given
pub open_still : (most : ℕ) (t u : ReadSoFar) (part : Part) (ended now : Bool) → TakesPart most t part (Ok false) u → ended ≡ false → now ≡ ended_after ended (Ready part) → now ≡ false
open_still most t u (Ok None) ended now h e is = absurd (let a : false ≡ true = h.0 in cc)
open_still most t u (Ok (Some m)) ended now h e is = is ∙ ap (λ (b : Bool). ended_after b (Ready (Ok (Some m)))) e
open_still most t u (Err error) ended now h e is = absurd h

pub open_yet : (ended now : Bool) → ended ≡ false → now ≡ ended_after ended Pending → now ≡ false
open_yet ended now e is = is ∙ e
