use Rattle.std.proofs.Common.{◌+◌, ◌*◌, ◌≤◌, ◌∙◌, ap, sym, subst, length, List}
use Rattle.std.specs.Prelude.{slice_get, option_map}
use Rattle.std.specs.List.{All, Contains}
use Rattle.client_request.specs.Timers.{Entry, TimerList, entry_of, next_due, IsSetOrCancelled, ParentsGoFirst}
use Rattle.client_request.proofs.TimerKept.{shows_next, shows_set, shows_rest, shows_parents, shows_bound}
use Rattle.client_request.proofs.timers.Timers.heap.Goals as goal

pub returns-clause-set : goal.returns-clause-set
returns-clause-set c =
    subst (λ (l : List Entry). All (λ t. Contains l (entry_of t)) c.args.self.now.set) (sym c.as_slice.ensures.value)
    (subst (λ (v : TimerList). All (λ t. Contains c.self.inside.heap.items (entry_of t)) v.set) c.self.view_is (shows_set _ _ _ c.self.invariant))

pub returns-clause-rest : goal.returns-clause-rest
returns-clause-rest c =
    subst (λ (l : List Entry). All (IsSetOrCancelled c.args.self.now) l) (sym c.as_slice.ensures.value)
    (subst (λ (v : TimerList). All (IsSetOrCancelled v) c.self.inside.heap.items) c.self.view_is (shows_rest _ _ _ c.self.invariant))

pub returns-clause-top : goal.returns-clause-top
returns-clause-top c =
    ap (λ (l : List Entry). slice_get l 0) c.as_slice.ensures.value
    ∙ shows_next _ _ _ c.self.invariant
    ∙ ap (λ (v : TimerList). option_map entry_of (next_due v.set)) c.self.view_is

pub returns-clause-parents : goal.returns-clause-parents
returns-clause-parents c = subst ParentsGoFirst (sym c.as_slice.ensures.value) (shows_parents _ c.self.invariant.order)

pub returns-clause-bound : goal.returns-clause-bound
returns-clause-bound c =
    subst (λ (l : List Entry). length l ≤ 2 * length c.args.self.now.set + 16) (sym c.as_slice.ensures.value)
    (subst (λ (v : TimerList). length c.self.inside.heap.items ≤ 2 * length v.set + 16) c.self.view_is (shows_bound _ _ _ c.self.invariant))
