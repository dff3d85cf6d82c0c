-- All rows of two histories whose events are alike.
use Rattle.std.proofs.Common.{◌≡◌, ℕ, List, [], ◌∷◌, ◌++◌, Some, refl, sym, subst, ap, ◌∙◌}
use Rattle.std.specs.Prelude.{max}
use Rattle.client_request.specs.Request.{Request}
use Rattle.client_request.specs.declared.event.Event.{Event}
use Rattle.client_request.specs.declared.event.Moment.{Moment}
use Rattle.client_request.specs.declared.event.Row.{Row}
use Rattle.client_cache.specs.Serving.{would_serve}
use Rattle.client_steps.specs.Client as plain
use Rattle.client_steps.specs.Whole.{Client, Whole, client_with, machine, plain_step, reading, started_with}
use Rattle.front_core.specs.Core.{IsCoreStep, core_serves}
use Rattle.front_core.specs.Forwarded.{Forwards, begins, goes_on}
use Rattle.front_peers.specs.declared.event.FrontRow.{FrontRow}
use Rattle.front_steps.specs.Steps.{Forwarding, beginning, scene}
use Rattle.proof_forwarding.specs.Isolation.{AreAllOutsAlike, AreEventsAlike, AreOutsAlike, IsEventAlike, PeersAreApart}
use Rattle.proof_forwarding.proofs.Alike.{DeskAlike}
use Rattle.proof_forwarding.proofs.Apart.{took_alike}

-- ---- the project's client

-- Two clients, with the words that come, do the same from now on.
abbrev Same : Whole → (ℕ → ℕ) → Whole → (ℕ → ℕ) → Type 0
Same a f c h = (client_with f a ≡ client_with h c) × (a.timeout ≡ c.timeout)

some_pair : (x y : Row × Client) → Some x ≡ Some y → x ≡ y
some_pair x y is = cc

same_step : (a b c d : Whole) (f g h i : ℕ → ℕ) (e : Event) (r t : Row) → Same a f c h → IsCoreStep a f e r b g → IsCoreStep c h e t d i → (r ≡ t) × Same b g d i
same_step a b c d f g h i e r t same did also =
    let both : plain_step f e a ≡ plain_step h e c = ap (λ (z : Client). plain.row_step machine a.timeout e z) same.0 ∙ ap (λ (n : ℕ). plain.row_step machine n e (client_with h c)) same.1 in
    let pair = some_pair (r, client_with g b) (t, client_with i d) (sym did.row_is ∙ both ∙ also.row_is) in
    (ap (λ (z : Row × Client). z.0) pair, (ap (λ (z : Row × Client). z.1) pair, did.timeout ∙ same.1 ∙ sym also.timeout))

same_serves : (a c : Whole) (f h : ℕ → ℕ) → Same a f c h → (m : Moment) (r : Request) → core_serves a m r ≡ core_serves c m r
same_serves a c f h same m r = ap (λ (z : Client). would_serve reading r (max z.view.now m.0) z.layer.kept) same.0

-- ---- rows

module _ (x : ℕ) where
  events_snoc : (rows others : List FrontRow) (row other : FrontRow) → AreEventsAlike x (rows ++ row ∷ []) (others ++ other ∷ []) → AreEventsAlike x rows others × IsEventAlike x row.event other.event
  events_snoc [] [] row other all = (tt, all.0)
  events_snoc [] (o ∷ []) row other all = absurd all.1
  events_snoc [] (o ∷ p ∷ others) row other all = absurd all.1
  events_snoc (r ∷ []) [] row other all = absurd all.1
  events_snoc (r ∷ q ∷ rows) [] row other all = absurd all.1
  events_snoc (r ∷ rows) (o ∷ others) row other all = let rest = events_snoc rows others row other all.1 in ((all.0, rest.0), rest.1)

  outs_snoc : (rows others : List FrontRow) (row other : FrontRow) → AreAllOutsAlike x rows others → AreOutsAlike x row.outs other.outs → AreAllOutsAlike x (rows ++ row ∷ []) (others ++ other ∷ [])
  outs_snoc [] [] row other all one = (one, tt)
  outs_snoc (r ∷ rows) (o ∷ others) row other all one = (all.0, outs_snoc rows others row other all.1 one)
  outs_snoc _ _ row other all one = absurd all

  no_snoc : (rows : List FrontRow) (row : FrontRow) → AreEventsAlike x [] (rows ++ row ∷ []) → ⊥
  no_snoc [] row all = all
  no_snoc (r ∷ rows) row all = all

  no_less : (rows : List FrontRow) (row : FrontRow) → AreEventsAlike x (rows ++ row ∷ []) [] → ⊥
  no_less [] row all = all
  no_less (r ∷ rows) row all = all

  record SoFar (rows others : List FrontRow) (trace same : List Row) (last end : Forwarding Whole) (left rest : ℕ → ℕ) : Type 0 where
    within : Same last.within left end.within rest
    desk : DeskAlike x last.desk end.desk
    traces : trace ≡ same
    outs : AreAllOutsAlike x rows others

  module _ (first : Forwarding Whole) (words : ℕ → ℕ) (itself : DeskAlike x first.desk first.desk) where
    all_alike : (rows : List FrontRow) (trace : List Row) (last : Forwarding Whole) (left : ℕ → ℕ) → Forwards first words rows trace last left
        → (others : List FrontRow) (same : List Row) (end : Forwarding Whole) (rest : ℕ → ℕ) → Forwards first words others same end rest → AreEventsAlike x rows others
        → SoFar rows others trace same last end left rest
    all_alike rows trace last left begins others same end rest begins events = record { within = (refl, refl); desk = itself; traces = refl; outs = tt }
    all_alike rows trace last left begins others same end rest (goes_on some all row before whole a b f g forwards made rows_are trace_is) events =
        absurd (no_snoc some row (subst (AreEventsAlike x []) rows_are events))
    all_alike rows trace last left (goes_on some all row before whole a b f g forwards made rows_are trace_is) others same end rest begins events =
        absurd (no_less some row (subst (λ (z : List FrontRow). AreEventsAlike x z []) rows_are events))
    all_alike rows trace last left (goes_on some all row before whole a b f g forwards made rows_are trace_is) others same end rest
        (goes_on some' all' row' before' whole' a' b' f' g' forwards' made' rows_are' trace_is') events =
        let split = events_snoc some some' row row' (subst (λ (z : List FrontRow). AreEventsAlike x z (some' ++ row' ∷ [])) rows_are (subst (AreEventsAlike x all) rows_are' events)) in
        let so = all_alike some before a f forwards some' before' a' f' forwards' split.0 in
        let took = took_alike x IsCoreStep core_serves Same same_step same_serves row.event row'.event split.1 a.within a'.within f f' so.within a.desk a'.desk so.desk
        (scene b.within g b.desk row.outs) (scene b'.within g' b'.desk row'.outs) made made' in
        record {
          within = took.0.within;
          desk = took.0.desk;
          traces = trace_is ∙ ap (λ (z : List Row). z ++ (made.rows ++ made.now)) so.traces ∙ ap (λ (z : List Row). before' ++ z) took.1 ∙ sym trace_is';
          outs = subst (λ (z : List FrontRow). AreAllOutsAlike x z all') (sym rows_are) (subst (AreAllOutsAlike x (some ++ row ∷ [])) (sym rows_are') (outs_snoc some some' row row' so.outs took.0.outs));
        }

pub peers_are_apart : PeersAreApart
peers_are_apart x given redundant cache conf words rows others trace same last end left rest forwards also events =
    let so = all_alike x (beginning (started_with given redundant cache conf)) words (record { waits = record { requests = tt; numbers = refl; next = refl }; streams = refl })
    rows trace last left forwards others same end rest also events in
    (so.traces, so.outs)
