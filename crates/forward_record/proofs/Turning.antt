-- The turns of a forwarder that is recorded, one more at a time.
use Rattle.std.proofs.Common.{◌≡◌, ℕ, ◌+◌, ◌-◌, ◌<◌, ◌≤◌, Bool, true, false, List, [], ◌∷◌, ◌++◌, length, map, Option, Some, None, refl, ap, sym, subst, ◌∙◌, append_assoc, length-append, arith}
use Rattle.std.specs.List.{All, flat_map}
use Rattle.std.proofs.lemmas.List.Elements.{All-nil, All-push}
use Rattle.client_loop.specs.Turns.{AreGivenOn, RoseBy}
use Rattle.client_loop.proofs.Deeds.{append_nil, more_moments, rose_by_none, rose_more}
use Rattle.client_request.specs.Words.{IsGivenOn}
use Rattle.dns_values.specs.Source.{one_more}
use Rattle.front_peers.specs.declared.event.FrontRow.{FrontRow}
use Rattle.forward_run.specs.Front.{after_deeds}
use Rattle.forward_run.specs.declared.front.FrontDeed.{FrontDeed}
use Rattle.forward_run.specs.Turns.{IsOfPoll, IsTurn, Turn, answers_in, deeds_of, moments_of, rows_of}
use Rattle.forward_run.proofs.Turning.{answers_more, deeds_more, moments_more, more_deeds, no_deeds, rows_more}
use Rattle.forward_record.specs.Turns.{Makes, Scene, Turned, begins, goes_on}
use Rattle.forward_record.proofs.Steps.{keeps_all, keeps_joined, keeps_none}

-- so many turns were made, and so many are left
pub record TurnedSo {K : Type 0} (held : K → Option (List ℕ)) (turns left answered : ℕ) (old new : Scene K) : Type 0 where
  pub count : ℕ
  pub counted : count + left ≡ turns
  pub turned : Turned held count answered old new

pub none_turned : {K : Type 0} (held : K → Option (List ℕ)) (turns : ℕ) (at : Scene K) → TurnedSo held turns turns 0 at at
none_turned held turns at = record {
  count = 0;
  counted = omega arith;
  turned = record {
    turns = [];
    trace = [];
    count_is = refl;
    answered_is = refl;
    polled = All-nil IsOfPoll;
    forwards = begins;
    keeps = keeps_none held at.forwarder.within;
    deeds = no_deeds at.deeds;
    polls = rose_by_none at.polls;
    moments = none_given at.moments;
  };
}
  where
    none_given : (ms : Option (List ℕ)) → AreGivenOn ms ms []
    none_given None = tt
    none_given (Some ms) = sym (append_nil ms)

pub turned_more : {K : Type 0} (held : K → Option (List ℕ)) (turns left answered : ℕ) (old mid new : Scene K) (row : FrontRow) → TurnedSo held turns left answered old mid → IsTurn row mid.deeds new.deeds
    → Makes held row mid.forwarder mid.words new.forwarder new.words → IsGivenOn mid.moments new.moments row.event.moment.0 → new.polls ≡ one_more mid.polls → 0 < left
    → TurnedSo held turns (left - 1) (answered + answers_in row) old new
turned_more held turns left answered old mid new row so turn made moment polls some =
    let t = so.turned in
    let one : Turn = record { polled = turn.polled; row = row } in
    record {
      count = so.count + 1;
      counted = (let was : so.count + left ≡ turns = so.counted in omega arith);
      turned = record {
        turns = t.turns ++ one ∷ [];
        trace = t.trace ++ (made.rows ++ made.now);
        count_is = length-append t.turns (one ∷ []) ∙ ap (λ (n : ℕ). n + 1) t.count_is;
        answered_is = ap (λ (n : ℕ). n + answers_in row) t.answered_is ∙ sym (answers_more t.turns one);
        polled = All-push IsOfPoll t.turns one t.polled turn.of_poll;
        forwards = goes_on (rows_of t.turns) (rows_of (t.turns ++ one ∷ [])) row t.trace (t.trace ++ (made.rows ++ made.now)) mid.forwarder new.forwarder mid.words new.words t.forwards made (rows_more t.turns one) refl;
        keeps = keeps_joined held t.trace (made.rows ++ made.now) old.forwarder.within mid.forwarder.within new.forwarder.within t.keeps (keeps_all held mid.forwarder.within mid.words (made.rows ++ made.now) new.forwarder.within new.words made.runs);
        deeds = more_deeds (flat_map deeds_of t.turns) (deeds_of one) old.deeds mid.deeds new.deeds t.deeds turn.deeds ∙ ap (λ (ds : List FrontDeed). after_deeds ds old.deeds) (sym (deeds_more t.turns one));
        polls = rose_more so.count old.polls mid.polls new.polls t.polls polls;
        moments = subst (λ (ms : List ℕ). AreGivenOn old.moments new.moments ms) (sym (moments_more t.turns one)) (more_moments (moments_of t.turns) row.event.moment.0 old.moments mid.moments new.moments t.moments moment);
      };
    }

-- none is left
pub all_turned : {K : Type 0} (held : K → Option (List ℕ)) (turns left answered : ℕ) (old new : Scene K) → TurnedSo held turns left answered old new → left ≤ 0 → Turned held turns answered old new
all_turned held turns left answered old new so none =
    let was : so.count + left ≡ turns = so.counted in
    let same : so.count ≡ turns = omega arith in
    subst (λ (n : ℕ). Turned held n answered old new) same so.turned
