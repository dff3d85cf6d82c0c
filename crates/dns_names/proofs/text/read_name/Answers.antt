use Rattle.std.proofs.Common.{◌≡◌, ◌<◌, Err, vec_len, length, arith, sym, ◌∙◌, ap, subst}
use Rattle.std.proofs.lemmas.Bool.{eqb-true}
use Rattle.std.proofs.lemmas.Result.{err_from_is_err_and}
use Rattle.dns_names.specs.Draft.{IsDraft}
use Rattle.dns_names.specs.declared.draft.Draft.{Draft}
use Rattle.dns_names.proofs.NameTexts.{last_label, final_dot, gives, empty_name, dot_name, name_fails, has_some, has_none}
use Rattle.dns_names.proofs.text.read_name.Goals.{then-not-is_empty+in_ok-end_label, else-not-is_empty}
use Rattle.dns_names.proofs.text.read_name.Goals as goal

pub returns-then-is_empty : goal.returns-then-is_empty
returns-then-is_empty c = empty_name c.args.text.now (eqb-true _ _ (sym c.if-is_empty.ensures))

pub returns-then-is_dot : goal.returns-then-is_dot
returns-then-is_dot c = dot_name c.args.text.now _ (sym c.if-is_dot.ensures) c.root.ensures

pub returns-in_err-draft : goal.returns-in_err-draft
returns-in_err-draft c =
    let p = err_from_is_err_and c.from_residual.result c.from_residual.ensures.1 in
    name_fails c.args.text.now c.in_err-draft.field-0.0 _ (sym c.if-is_dot.ensures) c.in_err-draft.ensures (p.1 ∙ ap Err p.2)

pub returns : goal.returns
returns c =
    let read = c.in_ok-draft.ensures in
    let some : 0 < length c.args.text.now = has_some _ _ c.is_empty.ensures c.if-is_empty.false in
    elim c.if-not-is_empty.branch [
      | then-not-is_empty+in_ok-end_label w ↦
          let P : Draft → Type 0 = λ d. IsDraft d _ in
          let full : 0 < vec_len c.in_ok-draft.draft.label = has_some _ _ c.is_empty-2.ensures w.if-not-is_empty.true in
          let part : 0 < length c.in_ok-draft.draft.label.items = omega arith in
          gives _ _ _ (last_label c.args.text.now read.0 c.in_ok-draft.draft.label.items (sym c.if-is_dot.ensures) read.2 part)
          (c.finish.ensures _ (subst P (sym w.draft-is) (w.in_ok-end_label.ensures.whole read.0 read.1)))
      | else-not-is_empty w ↦
          let empty : vec_len c.in_ok-draft.draft.label ≡ 0 = has_none _ _ c.is_empty-2.ensures w.if-not-is_empty.false in
          let none : length c.in_ok-draft.draft.label.items ≡ 0 = omega arith in
          let P : Draft → Type 0 = λ d. IsDraft d read.0 in
          gives _ _ _ (final_dot c.args.text.now read.0 c.in_ok-draft.draft.label.items (sym c.if-is_dot.ensures) read.2 some none)
          (c.finish.ensures read.0 (subst P (sym w.draft-is) read.1))
    ]
