use Rattle.std.proofs.Common.{◌≡◌, sym, ap, ◌∙◌}
use Rattle.number_table.specs.Entries.{puts, frees}
use Rattle.trace_tables.specs.Lists.{listed}
use Rattle.trace_tables.specs.frames.Waiting.{freed_by, met}
use Rattle.trace_tables.proofs.lemmas.frames.Writing.{on_ok}
use Rattle.trace_tables.proofs.frames.waiting.meet_frames.Goals as goal

pub returns : goal.returns
returns c =
    let b = c.in-Some.brought in
    let freed = c.in_ok-free.ensures ∙ (ap (λ ms. freed_by ms c.take_place-at.result) c.as_slice.ensures ∙ ap (freed_by b.frames) c.take_place-at.ensures.taken) in
    on_ok c.put_place.result (λ h. h ∙ (ap (λ x. puts b.place x c.take_place-at.new.waiting) freed ∙ (ap (puts b.place (freed_by b.frames (listed b.place c.args.waiting.now))) c.take_place-at.ensures.left
    ∙ sym (ap (λ o. met o c.args.waiting.now) c.in-Some.is)))) c.put_place.ensures
