use Rattle.std.proofs.Common.{◌≡◌, ◌<◌, Ok, Err, Result, length, sym, ◌∙◌, ap, subst}
use Rattle.std.proofs.lemmas.Bool.{eqb-true}
use Rattle.std.proofs.lemmas.Result.{err_from_is_err_and}
use Rattle.dns_names.specs.Name.{Labels}
use Rattle.dns_names.specs.Text.{Gives, relative_of_text}
use Rattle.dns_names.specs.declared.fault.NameFault.{NameFault}
use Rattle.dns_names.proofs.NameTexts.{relative_last, gives, empty_relative, relative_fails, has_some}
use Rattle.dns_names.proofs.text.read_relative.Goals as goal

pub returns-then-is_empty : goal.returns-then-is_empty
returns-then-is_empty c = empty_relative c.args.text.now _ (eqb-true _ _ (sym c.if-is_empty.ensures)) c.empty.ensures

pub returns-in_err-draft : goal.returns-in_err-draft
returns-in_err-draft c =
    let p = err_from_is_err_and c.from_residual.result c.from_residual.ensures.1 in
    relative_fails c.args.text.now c.in_err-draft.field-0.0 _ (has_some _ _ c.is_empty.ensures c.if-is_empty.false) c.in_err-draft.ensures (p.1 ∙ ap Err p.2)

pub returns-in_err-absolute : goal.returns-in_err-absolute
returns-in_err-absolute c =
    let p = err_from_is_err_and c.from_residual-in_err-absolute.result c.from_residual-in_err-absolute.ensures.1 in
    let read = c.in_ok-draft.ensures in
    let some : 0 < length c.args.text.now = has_some _ _ c.is_empty.ensures c.if-is_empty.false in
    let P : Result Labels NameFault → Type 0 = λ r. Gives (relative_of_text c.args.text.now) r in
    subst P (sym (p.1 ∙ ap Err p.2)) (gives _ _ (Err c.in_err-absolute.field-0.0) (relative_last c.args.text.now read.0 c.in_ok-draft.draft.label.items read.2 some)
    (c.in_err-absolute.ensures _ (c.in_ok-end_label.ensures.whole read.0 read.1)))

pub returns : goal.returns
returns c =
    let read = c.in_ok-draft.ensures in
    let some : 0 < length c.args.text.now = has_some _ _ c.is_empty.ensures c.if-is_empty.false in
    let P : Labels → Type 0 = λ l. relative_of_text c.args.text.now ≡ Ok l in
    subst P (sym c.without_root.ensures) (gives _ _ (Ok c.in_ok-absolute.absolute) (relative_last c.args.text.now read.0 c.in_ok-draft.draft.label.items read.2 some)
    (c.in_ok-absolute.ensures _ (c.in_ok-end_label.ensures.whole read.0 read.1)))
