-- A choice among tied servers is all that a client has below it.
use Rattle.std.proofs.Common.{◌≡◌, ◌+◌, Bool, true, false, if◌then◌else◌, List, [], ◌∷◌, length, Some, None, Err, refl, sym, subst, ◌∙◌}
use Rattle.std.specs.Prelude.{option_and_then, option_map}
use Rattle.client_request.specs.Timers.{can_draw}
use Rattle.client_request.specs.View.{View, answers, draws_ticket}
use Rattle.client_request.specs.declared.error.Error.TheVariants.{NoTransportAvailable}
use Rattle.client_choice.specs.Redundant.{with_choice, takes_listed, by_estimate}
use Rattle.client_choice.specs.Servers.{Server}
use Rattle.proof_choice.specs.Choosing.{Choosing}
use Rattle.proof_choice.specs.Silent.{SilentChoicesAreWhole, SilentChoicesRefuse, silent_choice}
use Rattle.proof_choice.specs.Whole.{ChoicesAreWhole, ChoicesWithoutServers}
use Rattle.proof_choice.proofs.Silence.{calls_are_moves, choose_numbers}
use Rattle.proof_choice.proofs.WholeAsking as asking
use Rattle.proof_choice.proofs.WholeFirst.{tied_fresh}
use Rattle.proof_choice.proofs.WholeFiring.{fires}
use Rattle.proof_choice.proofs.WholeLaws as laws
use Rattle.proof_choice.proofs.WholeTelling as telling

pub choices_are_whole : ChoicesAreWhole
choices_are_whole g = record {
  fresh = tied_fresh g;
  same = laws.same g;
  alike = laws.alike g;
  taken = λ phase r x a t. t.agrees.board;
  set = laws.set g;
  named = laws.named_so g;
  held = laws.held_so g;
  response = λ request r v. refl;
  tried_alone = laws.tried_alone g;
  waits = laws.waits g;
  begins = laws.begins g;
  rests = laws.rests g;
  fires = fires g (calls_are_moves g);
  sends = λ r v a b w request some t fair octets taken. asking.sends g (calls_are_moves g) r v a b w request some t fair octets taken;
  cancels = λ r v a b w asked k t fair is left. asking.cancels g (calls_are_moves g) r v a b w asked k t fair is left;
  tells = telling.tells g (calls_are_moves g);
  takes = telling.takes g (calls_are_moves g);
}

pub silent_choices_are_whole : SilentChoicesAreWhole
silent_choices_are_whole c = (choose_numbers c, λ st settings same. choices_are_whole (silent_choice c st settings same (choose_numbers c)))

no_servers : {A : Type 0} (xs : List A) → length xs ≡ 0 → xs ≡ []
no_servers [] e = refl
no_servers (x ∷ xs) e = absurd (cc)

pub choices_without_servers : (g : Choosing) → ChoicesWithoutServers g
choices_without_servers g none phase request r v x t =
    subst (λ (servers : List (Server g.U)). with_choice r (option_and_then (takes_listed r.settings g.below v.ticket request (by_estimate servers) r.choice) (draws_ticket v)) ≡ option_map (λ w. (r, answers v.ticket (Err NoTransportAvailable) w)) (draws_ticket v))
    (sym (no_servers r.choice.servers (t.agrees.servers.count ∙ none))) (by (can_draw v.ticket))
  where
    numbered : View
    numbered = record v { ticket = v.ticket + 1 }

    by : (b : Bool) → with_choice r (option_and_then (takes_listed r.settings g.below v.ticket request [] r.choice) (if b then Some numbered else None)) ≡ option_map (λ w. (r, answers v.ticket (Err NoTransportAvailable) w)) (if b then Some numbered else None)
    by true = refl
    by false = refl

pub silent_choices_refuse : SilentChoicesRefuse
silent_choices_refuse c = (choose_numbers c, λ st settings same. choices_without_servers (silent_choice c st settings same (choose_numbers c)))
