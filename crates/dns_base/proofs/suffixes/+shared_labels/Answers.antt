use Rattle.std.proofs.Common.{◌+◌, ◌-◌, ◌≤◌, length, drop, sym, ◌∙◌, arith, length-drop}
use Rattle.std.proofs.lemmas.List.{take_all}
use Rattle.dns_base.proofs.NameKeys.{common_behind_first, common_in_first, common_in_none}
use Rattle.dns_base.proofs.suffixes.+shared_labels.Goals.{then-key-end-via-then-key-end, then-key-end-via-else-key-end+then-not-starts_with}
use Rattle.dns_base.proofs.suffixes.+shared_labels.Goals as goal

pub returns-in-None-clause-common : goal.returns-in-None-clause-common
returns-in-None-clause-common t c = λ a b is is_too. common_in_none c.args.key.now a b (omega (arith, c.in-None.ensures.item.3)) is

pub returns-then-key-end-clause-common : goal.returns-then-key-end-clause-common
returns-then-key-end-clause-common t c = λ a b is is_too.
    let key = c.args.key.now in
    let n = c.in-Some.count.now in
    let found = c.in-Some.ensures.item in
    common_in_first key c.args.other.now n a b found.3.0 (sym found.1) is is_too
    (λ long. elim c.then-key-end.branch [
      | then-key-end-via-then-key-end w ↦ absurd (omega (arith, w.if-key-end))
      | then-key-end-via-else-key-end+then-not-starts_with w ↦ sym w.starts_with.ensures.value ∙ w.if-not-starts_with.true
    ])

pub returns-clause-common : goal.returns-clause-common
returns-clause-common t c = λ a b is is_too.
    let key = c.args.key.now in
    let other = c.args.other.now in
    let n = c.in-Some.count.now in
    let found = c.in-Some.ensures.item in
    let key_end : length (drop (1 + n) key) ≤ length key - (1 + n) = omega (arith, length-drop (1 + n) key) in
    let other_end : length (drop (1 + n) other) ≤ length other - (1 + n) = omega (arith, length-drop (1 + n) other) in
    common_behind_first key other n c.shared_labels.result a b found.3.0 (sym found.1) is is_too (sym c.starts_with.ensures.value ∙ c.if-not-starts_with.false)
    (λ x y p q. c.shared_labels.ensures.common x y (take_all _ (drop (1 + n) key) key_end ∙ p) (take_all _ (drop (1 + n) other) other_end ∙ q))
