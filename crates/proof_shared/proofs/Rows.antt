-- The rows of a legal history.
use Rattle.std.proofs.Common.{◌≡◌, ℕ, List, [], ◌∷◌, map, ◌++◌, Option, None, Some, refl, sym, ap, subst, ◌∙◌}
use Rattle.std.specs.Prelude.{option_map}
use Rattle.std.specs.Option.{option_and_then}
use Rattle.client_request.specs.declared.event.Event.{Event}
use Rattle.client_request.specs.declared.event.Row.{Row}
use Rattle.client_steps.specs.Client.{plain_rows, row_step, then_rows}
use Rattle.client_steps.specs.Whole.{Whole, machine, plain_step, plain_trace_with, client_with}
use Rattle.client_shared.specs.declared.entry.Entry.{Entry}
use Rattle.client_shared.specs.declared.entry.Item.TheVariants.{Made, Lost}
use Rattle.client_shared.specs.History.{Opening, Runs, IsLegal, history, opened, row_of}
use Rattle.proof_client.specs.Ties.{TracesAreRight, TracesHit, TracesServeStale}
use Rattle.client_settings.specs.declared.settings.Transports.{Transports as Given}
use Rattle.right_trace.specs.Trace.{Transports}
use Rattle.proof_shared.specs.Histories.{LegalHistories, events_of}

rows_of : (n timeout : ℕ) (entries : List Entry) (s : Whole) (f : ℕ → ℕ) (t : Whole) (g : ℕ → ℕ) → s.timeout ≡ timeout → Runs n s f (map Made entries) t g
    → plain_rows machine timeout (events_of entries) (client_with f s) ≡ Some (map row_of entries)
rows_of n timeout [] s f t g is r = refl
rows_of n timeout (e ∷ es) s f t g is r =
    let m : Whole = r.1 in
    let h : ℕ → ℕ = r.2 in
    let x = r.3 in
    let step : row_step machine timeout e.event (client_with f s) ≡ Some (row_of e, client_with h m) = subst (λ (k : ℕ). row_step machine k e.event (client_with f s) ≡ Some (row_of e, client_with h m)) is x.row in
    let rest = rows_of n timeout es m h t g (x.timeout ∙ is) r.4 in
    ap (option_and_then (then_rows (plain_rows machine timeout (events_of es)))) step ∙ ap (option_map (λ (rows : List Row). row_of e ∷ rows)) rest

no_rows : (n timeout : ℕ) (entries : List Entry) (s : Whole) (f : ℕ → ℕ) (t : Whole) (g : ℕ → ℕ) (event : Event) → s.timeout ≡ timeout → Runs n s f (map Made entries) t g → plain_step g event t ≡ None
    → plain_rows machine timeout (events_of entries ++ event ∷ []) (client_with f s) ≡ None
no_rows n timeout [] s f t g event is r none =
    let here : plain_step f event s ≡ None = subst (λ (z : Whole × (ℕ → ℕ)). plain_step z.1 event z.0 ≡ None) (λ i. (sym r.0 i, sym r.1 i)) none in
    let step : row_step machine timeout event (client_with f s) ≡ None = subst (λ (k : ℕ). row_step machine k event (client_with f s) ≡ None) is here in
    ap (option_and_then (then_rows (plain_rows machine timeout []))) step
no_rows n timeout (e ∷ es) s f t g event is r none =
    let m : Whole = r.1 in
    let h : ℕ → ℕ = r.2 in
    let x = r.3 in
    let step : row_step machine timeout e.event (client_with f s) ≡ Some (row_of e, client_with h m) = subst (λ (k : ℕ). row_step machine k e.event (client_with f s) ≡ Some (row_of e, client_with h m)) is x.row in
    let rest = no_rows n timeout es m h t g event (x.timeout ∙ is) r.4 none in
    ap (option_and_then (then_rows (plain_rows machine timeout (events_of es ++ event ∷ [])))) step ∙ ap (option_map (λ (rows : List Row). row_of e ∷ rows)) rest

-- a history is legal without its loss too
without_loss : (n : ℕ) (entries : List Entry) (caller : ℕ) (s : Whole) (f : ℕ → ℕ) (t : Whole) (g : ℕ → ℕ) → Runs n s f (map Made entries ++ Lost caller ∷ []) t g → Runs n s f (map Made entries) t g
without_loss n [] caller s f t g r = (r.2, r.3)
without_loss n (e ∷ entries) caller s f t g r = (r.0, r.1, r.2, r.3, without_loss n entries caller r.1 r.2 t g r.4)

entries_legal : (o : Opening) (entries : List Entry) (lost : Option ℕ) → IsLegal o (history entries lost) → IsLegal o (map Made entries)
entries_legal o entries None legal = legal
entries_legal o entries (Some caller) legal = (legal.0, legal.1, without_loss o.callers entries caller (opened o) o.words legal.0 legal.1 legal.2)

plain : (o : Opening) (entries : List Entry) (lost : Option ℕ) → IsLegal o (history entries lost) → plain_trace_with o.transports o.redundant o.cache o.conf o.words (events_of entries) ≡ Some (map row_of entries)
plain o entries lost legal =
    let made = entries_legal o entries lost legal in
    rows_of o.callers o.conf.options.timeout entries (opened o) o.words made.0 made.1 refl made.2

pub legal_histories : ((t : Transports) (given : Given) → TracesAreRight t given) → ((t : Transports) (given : Given) → TracesHit t given) → ((t : Transports) (given : Given) → TracesServeStale t given) → LegalHistories
legal_histories every hits stale = record {
  plain = plain;
  stops = λ o before event none. no_rows o.callers o.conf.options.timeout before (opened o) o.words none.client none.words event refl none.runs none.stops;
  right = λ o entries lost legal handed t are. (every t o.transports o.redundant o.cache o.conf o.words (events_of entries) (map row_of entries) are (plain o entries lost legal) handed).0;
  timely = λ o entries lost legal handed t are. (every t o.transports o.redundant o.cache o.conf o.words (events_of entries) (map row_of entries) are (plain o entries lost legal) handed).1;
  hits = λ o entries lost legal handed t are. hits t o.transports o.redundant o.cache o.conf o.words (events_of entries) (map row_of entries) are (plain o entries lost legal) handed;
  stale = λ o entries lost legal handed t are. stale t o.transports o.redundant o.cache o.conf o.words (events_of entries) (map row_of entries) are (plain o entries lost legal) handed;
}
