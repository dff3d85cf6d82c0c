-- A query that has the reply to its own request at once.
use Rattle.std.proofs.Common.{◌≡◌, ℕ, ◌+◌, List, [], ◌∷◌, ◌++◌, Option, sym, ap, ap₂, ◌∙◌}
use Rattle.std.specs.Prelude.{Result}
use Rattle.std.specs.Map.{remove_entry}
use Rattle.std.proofs.lemmas.Cmp.{nat_cmp_total, nat_list_cmp_total}
use Rattle.client_request.specs.declared.error.Error.{Error}
use Rattle.client_request.specs.declared.event.Out.{Out}
use Rattle.client_request.specs.declared.event.Out.TheVariants.{Reply}
use Rattle.number_table.specs.Entries.{frees}
use Rattle.front_queries.specs.Query.{key_of}
use Rattle.front_peers.specs.declared.event.FrontOut.{FrontOut}
use Rattle.front_peers.specs.declared.items.Asker.{Asker}
use Rattle.front_steps.specs.Waiting.{Waits}
use Rattle.front_steps.specs.Waits.{AreInOrder, Rise, answers_one, asks_anew, forgets, is_key, passes, puts_asked, replies}
use Rattle.front_steps.specs.declared.putting.Desk.{Desk}
use Rattle.front_steps.specs.declared.waits.Waiting.{Waiting}
use Rattle.front_steps.proofs.Doing.{append_nil}
use Rattle.front_steps.proofs.Removing.{found_put, removed_put}

-- it waits alone for the reply to its request
abbrev waiting : Asker → Waiting
waiting asker = record { key = key_of asker.query; first = asker; others = [] }

-- these wait, with this number for the next request
abbrev waits : List (ℕ × Waiting) → List (List ℕ × ℕ) → ℕ → Waits
waits requests numbers next = record { requests = requests; numbers = numbers; next = next }

-- that nothing has its number and that what it asks is forgotten leaves what its waiting and its reply leave
pub passed : (asker : Asker) (old forgot left inside : Waits) (number : ℕ)
    → number ≡ old.next → Rise old.requests → AreInOrder old.numbers
    → forgot ≡ forgets asker.query old → left ≡ record forgot { requests = frees number forgot.requests } → inside ≡ left
    → waits inside.requests inside.numbers (number + 1) ≡ passes asker old
passed asker old forgot left inside number number_is rise order forgot_is left_is inside_is =
    ap (λ (w : Waits). waits w.requests w.numbers (number + 1)) (inside_is ∙ left_is ∙ ap (λ (w : Waits). record w { requests = frees number w.requests }) forgot_is)
    ∙ ap (λ (n : ℕ). waits (frees n old.requests) (remove_entry (is_key (key_of asker.query)) old.numbers) (n + 1)) number_is
    ∙ ap₂ (λ (requests : List (ℕ × Waiting)) (numbers : List (List ℕ × ℕ)). waits requests numbers (old.next + 1))
    (sym (removed_put nat_cmp_total old.next (waiting asker) old.requests rise))
    (sym (removed_put nat_list_cmp_total (key_of asker.query) old.next old.numbers order))

-- where its reply is all that is put out, it is answered, and never waits
pub replied : (asker : Asker) (reply : Result (List ℕ) Error) (number : ℕ) (d : Desk) (outs : List Out)
    → outs ≡ Reply number reply ∷ [] → number ≡ d.waits.next
    → puts_asked asker outs d ≡ ((answers_one reply asker d.streams).0, record { waits = passes asker d.waits; streams = (answers_one reply asker d.streams).1 })
replied asker reply number d outs outs_are number_is =
    let asked : Desk = record d { waits = asks_anew asker d.waits } in
    ap (λ (os : List Out). puts_asked asker os d) outs_are
    ∙ ap (λ (n : ℕ). puts_asked asker (Reply n reply ∷ []) d) number_is
    ∙ ap (λ (o : Option Waiting). ((replies d.waits.next reply asked o).0 ++ [], (replies d.waits.next reply asked o).1))
    (found_put nat_cmp_total d.waits.next (waiting asker) d.waits.requests)
    ∙ ap (λ (os : List FrontOut). (os, record { waits = passes asker d.waits; streams = (answers_one reply asker d.streams).1 }))
    (append_nil ((answers_one reply asker d.streams).0 ++ []) ∙ append_nil (answers_one reply asker d.streams).0)
