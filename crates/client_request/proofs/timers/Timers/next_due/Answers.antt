use Rattle.std.proofs.Common.{◌∙◌, ap, List}
use Rattle.std.specs.Prelude.{slice_get, option_map}
use Rattle.client_request.specs.Timers.{Entry, TimerList, entry_of, next_due}
use Rattle.client_request.proofs.TimerKept.{shows_next}
use Rattle.client_request.proofs.timers.Timers.next_due.Goals as goal

pub returns : goal.returns
returns c =
    c.copied.ensures
    ∙ c.first.ensures.value
    ∙ ap (λ (l : List Entry). slice_get l 0) c.deref.ensures.value
    ∙ shows_next _ _ _ c.self.invariant
    ∙ ap (λ (v : TimerList). option_map entry_of (next_due v.set)) c.self.view_is
