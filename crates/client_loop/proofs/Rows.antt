-- The rows of turns, one more at a time.
use Rattle.std.proofs.Common.{◌≡◌, ℕ, List, [], ◌∷◌, ◌++◌, map, Option, Some, None, refl, ap, sym, subst, ◌∙◌, append_assoc}
use Rattle.std.specs.Prelude.{option_map}
use Rattle.client_request.specs.declared.event.Event.{Event}
use Rattle.client_request.specs.declared.event.Row.{Row}
use Rattle.client_steps.specs.Client.{plain_rows, row_step}
use Rattle.client_steps.specs.Whole.{Client, machine}
use Rattle.client_core.proofs.Replaying.{next_row, no_row}
use Rattle.client_loop.specs.Turns.{AreKept, IsKept, Leads, Turn, events_of, moments_of}
use Rattle.client_loop.proofs.Deeds.{append_nil}

events_more : (rows : List Row) (row : Row) (later : List Event) → events_of (rows ++ row ∷ []) ++ later ≡ events_of rows ++ (row.event ∷ later)
events_more [] row later = refl
events_more (r ∷ rows) row later = ap (λ (es : List Event). r.event ∷ es) (events_more rows row later)

pub event_behind : (rows : List Row) (row : Row) → events_of (rows ++ row ∷ []) ≡ events_of rows ++ row.event ∷ []
event_behind [] row = refl
event_behind (r ∷ rows) row = ap (λ (es : List Event). r.event ∷ es) (event_behind rows row)

pub moment_behind : (rows : List Row) (row : Row) → moments_of (rows ++ row ∷ []) ≡ moments_of rows ++ row.event.moment.0 ∷ []
moment_behind [] row = refl
moment_behind (r ∷ rows) row = ap (λ (ms : List ℕ). r.event.moment.0 ∷ ms) (moment_behind rows row)

pub moments_and : (rows : List Row) (e : Event) → moments_of rows ++ e.moment.0 ∷ [] ≡ map (λ event. event.moment.0) (events_of rows ++ e ∷ [])
moments_and [] e = refl
moments_and (r ∷ rows) e = ap (λ (ms : List ℕ). r.event.moment.0 ∷ ms) (moments_and rows e)

module _ (timeout : ℕ) where
  -- what was kept in one turn more
  pub kept_more : (first : Client) (before : List Row) (turns : List Turn) (turn : Turn) → AreKept timeout first before turns → IsKept timeout first (before ++ map (λ t. t.row) turns) turn.kept
      → AreKept timeout first before (turns ++ turn ∷ [])
  kept_more first before [] turn h one = (subst (λ (rows : List Row). IsKept timeout first rows turn.kept) (append_nil before) one, tt)
  kept_more first before (t ∷ ts) turn h one =
      (h.0, kept_more first (before ++ t.row ∷ []) ts turn h.1 (subst (λ (rows : List Row). IsKept timeout first rows turn.kept) (sym (append_assoc before (t.row ∷ []) (map (λ (u : Turn). u.row) ts))) one))

  -- no rows lead nowhere
  pub leads_nowhere : (c : Client) → Leads timeout c [] c
  leads_nowhere c later = same (plain_rows machine timeout later c)
    where
      same : (o : Option (List Row)) → o ≡ option_map (λ more. [] ++ more) o
      same None = refl
      same (Some rows) = refl

  -- one step more leads on
  pub leads_on : (a b c : Client) (rows : List Row) (row : Row) → Leads timeout a rows b → row_step machine timeout row.event b ≡ Some (row, c) → Leads timeout a (rows ++ row ∷ []) c
  leads_on a b c rows row h step later =
      ap (λ (es : List Event). plain_rows machine timeout es a) (events_more rows row later)
      ∙ h (row.event ∷ later)
      ∙ next_row machine timeout rows row row.event later b c step

  -- rows that lead somewhere are the plain client's
  pub plain_of : (a b : Client) (rows : List Row) → Leads timeout a rows b → plain_rows machine timeout (events_of rows) a ≡ Some rows
  plain_of a b rows h =
      ap (λ (es : List Event). plain_rows machine timeout es a) (sym (append_nil (events_of rows)))
      ∙ h []
      ∙ ap Some (append_nil rows)

  -- where the next step has no number there are no rows
  pub stops_on : (a b : Client) (rows : List Row) (e : Event) → Leads timeout a rows b → row_step machine timeout e b ≡ None → plain_rows machine timeout (events_of rows ++ e ∷ []) a ≡ None
  stops_on a b rows e h step = h (e ∷ []) ∙ no_row machine timeout rows e [] b step
