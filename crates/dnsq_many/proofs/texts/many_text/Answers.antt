use Rattle.std.proofs.Common.{◌≡◌, ℕ, List, [], ◌++◌, sym, ap, ◌∙◌, append-nil}
use Rattle.std.proofs.lemmas.List.{nil_from_length}
use Rattle.std.specs.Vec.Iter.{into_iter_items}
use Rattle.dns_script.specs.TraceText.{last_line}
use Rattle.dnsq_many.proofs.Entries.{text_with, one_more}
use Rattle.dnsq_many.proofs.texts.many_text.Goals as goal

pub loop-entry-preserved : goal.loop-entry-preserved
loop-entry-preserved c =
    let entry = c.in-Some.entry in
    let rest = into_iter_items c.next.new.self in
    let text = c.loop-entry.text.items in
    ap (λ (t : List ℕ). text_with t rest) c.in_ok-push_entry.ensures
    ∙ (sym (one_more text entry rest) ∙ (ap (text_with text) (sym c.in-Some.ensures.steps.0) ∙ c.loop-entry.invariant))

pub returns : goal.returns
returns c =
    let ok = c.loop-entry.entry-iterator.rest.ok in
    let none : into_iter_items c.loop-entry.entry-iterator ≡ [] = nil_from_length _ (sym ok.0 ∙ c.in-None.ensures.steps.0) in
    let text = c.loop-entry.text.items in
    c.in_ok-end_trace.ensures ∙ (ap (λ (xs : List ℕ). xs ++ last_line) (sym (append-nil text)) ∙ (ap (text_with text) (sym none) ∙ c.loop-entry.invariant))
