use Rattle.std.proofs.Common.{◌≡◌, sym, subst, arith, rules, length, take, drop, List, ◌++◌}
use Rattle.std.specs.Prelude.{IsSome, is_some}
use Rattle.std.specs.List.{All, filter}
use Rattle.std.specs.List.Sorted.{IsPermutation}
use Rattle.std.proofs.lemmas.Fn.{filter_same}
use Rattle.std.proofs.lemmas.List.Sorted.{length_permutation}
use Rattle.client_request.specs.Numbered.{entry_at}
use Rattle.client_request.specs.Timers.{Entry}
use Rattle.client_request.specs.TimerHeap.{DropsCancelled}
use Rattle.client_request.proofs.TimerMoves.{drops_all, all_set, written}
use Rattle.client_request.proofs.timer_heap.drop_cancelled.Goals as goal

kept : (c : goal.After-heap-1) → c.retain.new.self.items ≡ filter (λ e. is_some (entry_at e.1.0 c.args.table.now)) c.args.heap.now.items
kept c = filter_same _ _ _ (λ x b f' k. search rules) _ _ c.retain.ensures.filtered

moved : (c : goal.After-heap-1) → IsPermutation c.retain.new.self.items c.rebuild.new.heap
moved c = subst (λ (l : List Entry). IsPermutation l c.rebuild.new.heap) c.as_mut_slice.ensures.value c.rebuild.ensures.moves

as_given : (c : goal.After-heap-1) → take c.retain.new.self.len (c.rebuild.new.heap ++ drop (length c.rebuild.new.heap) c.retain.new.self.items) ≡ c.rebuild.new.heap
as_given c =
    let after = c.retain.new.self.ok.0 in
    let long = length_permutation _ _ (moved c) in
    written c.rebuild.new.heap c.retain.new.self.items c.retain.new.self.len (omega arith)

pub returns-clause-drops : goal.returns-clause-drops
returns-clause-drops c =
    subst (DropsCancelled c.args.table.now c.args.heap.now.items) (sym (as_given c)) (drops_all _ _ _ _ (kept c) (moved c) c.rebuild.ensures.order)

pub returns-clause-set : goal.returns-clause-set
returns-clause-set c =
    subst (All (λ e. IsSome (entry_at e.1.0 c.args.table.now))) (sym (as_given c)) (all_set _ _ _ _ (kept c) (moved c))
