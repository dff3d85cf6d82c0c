use Rattle.std.proofs.Common.{◌≡◌, ◌+◌, ◌-◌, suc, sym, ap, subst, ◌∙◌, arith, ℕ, List, [], ◌∷◌, ◌++◌, length, true, false, Vec, Global}
use Rattle.std.specs.List.{AllByRecursion}
use Rattle.message_patching.specs.Patching.{section_places, with_places, IsTtlIn}
use Rattle.message_patching.proofs.Finding.{section_none, section_step, section_end, all_and}
use Rattle.message_patching.proofs.places.push_places.Goals as goal
use Rattle.message_patching.proofs.places.push_places.Goals.{then-has_ttl+in_ok-push-in-Some, else-has_ttl}

pub returns-in-None-clause-found : goal.returns-in-None-clause-found
returns-in-None-clause-found c =
    let more : c.args.count - c.loop.counter ≡ suc (c.args.count - (c.loop.counter + 1)) = omega arith in
    c.loop.invariant.0 ∙ section_none _ _ _ _ _ _ c.in-None.ensures.found more

pub loop-preserved : goal.loop-preserved
loop-preserved c =
    let left : ℕ = c.args.count - (c.loop.counter + 1) in
    let more : c.args.count - c.loop.counter ≡ suc left = omega arith in
    let o : List ℕ = c.args.octets.now in
    elim c.if-has_ttl.branch [
      | then-has_ttl+in_ok-push-in-Some w ↦
          let items : c.if-has_ttl.ttls.items ≡ c.loop.ttls.items ++ c.in-Some.place ∷ [] = ap (λ (v : Vec ℕ Global). v.items) w.ttls-is ∙ w.in_ok-push-in-Some.ensures.items in (
            c.loop.invariant.0 ∙ section_step c.args.section o _ left c.loop.at c.loop.ttls.items _ _ _ true c.in-Some.ensures.found more (sym w.if-has_ttl.ensures)
                ∙ ap (λ (xs : List ℕ). with_places xs (section_places c.args.section o left c.in-Some.end)) (sym items)
                ∙ ap (λ (at : ℕ). with_places c.if-has_ttl.ttls.items (section_places c.args.section o left at)) (sym w.at-is),
            subst (AllByRecursion (IsTtlIn (length o))) (sym items) (all_and (IsTtlIn (length o)) c.loop.ttls.items c.in-Some.place c.loop.invariant.1 c.in-Some.ensures.within),
          )
      | else-has_ttl w ↦
          let items : c.if-has_ttl.ttls.items ≡ c.loop.ttls.items = ap (λ (v : Vec ℕ Global). v.items) w.ttls-is in (
            c.loop.invariant.0 ∙ section_step c.args.section o _ left c.loop.at c.loop.ttls.items _ _ _ false c.in-Some.ensures.found more (sym w.if-has_ttl.ensures)
                ∙ ap (λ (xs : List ℕ). with_places xs (section_places c.args.section o left c.in-Some.end)) (sym items)
                ∙ ap (λ (at : ℕ). with_places c.if-has_ttl.ttls.items (section_places c.args.section o left at)) (sym w.at-is),
            subst (AllByRecursion (IsTtlIn (length o))) (sym items) c.loop.invariant.1,
          )
    ]

pub returns-clause-found : goal.returns-clause-found
returns-clause-found c =
    let done : c.args.count - c.loop.counter ≡ 0 = omega arith in
    c.loop.invariant.0 ∙ section_end _ _ _ _ _ done
