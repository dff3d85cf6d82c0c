-- What giving a request up does that is not queued is what the plain machine does.
use Rattle.std.proofs.Common.{◌≡◌, ℕ, Bool, true, false, cond, Option, Some, None, List, [], ◌∷◌, refl, sym, ◌∙◌, ap}
use Rattle.std.specs.Prelude.{if◌then◌else◌}
use Rattle.std.specs.Option.{is_some}
use Rattle.std.specs.Ordering.{nat_cmp, is_eq}
use Rattle.client_request.specs.Numbered.{frees, entry_at}
use Rattle.client_stream.specs.IdTable.{IdTable, inserted_at, removed}
use Rattle.client_stream.specs.Plain as plain
use Rattle.client_stream.specs.Plain.{Line}
use Rattle.client_stream.specs.declared.request.Holder.{Holder}
use Rattle.client_stream.specs.declared.request.Holder.TheVariants.{GivenUp}
use Rattle.client_stream.specs.declared.request.QueuedRequest.{QueuedRequest}

is_none : {A : Type 0} (o : Option A) → is_some o ≡ false → o ≡ None
is_none None h = refl
is_none (Some x) h = absurd (no h)
  where
    no : true ≡ false → ⊥
    no h = cc

module _ {A : Type 0} where
  -- a key that is not there is freed in vain
  frees_nothing : (k : ℕ) (es : List (ℕ × A)) → entry_at k es ≡ None → frees k es ≡ es
  frees_nothing k [] none = refl
  frees_nothing k (e ∷ es) none = by (is_eq (nat_cmp k e.0)) refl (frees_nothing k es)
    where
      by : (b : Bool) → is_eq (nat_cmp k e.0) ≡ b → (entry_at k es ≡ None → frees k es ≡ es) → cond b es (e ∷ frees k es) ≡ e ∷ es
      by true h ih = absurd (some (sym (ap (λ b. cond b (Some e.1) (entry_at k es)) h) ∙ none))
        where
          some : Some e.1 ≡ None → ⊥
          some e = cc
      by false h ih = ap (λ (xs : List (ℕ × A)). e ∷ xs) (ih (sym (ap (λ b. cond b (Some e.1) (entry_at k es)) h) ∙ none))

module _ {R M : Type 0} where
  -- with other requests queued, and other ids held
  abbrev with_tables : IdTable (Holder R M) → List (ℕ × ℕ) → List (ℕ × QueuedRequest R M) → Line R M → Line R M
  with_tables held ids queue s = record s { held = held; ids = ids; queue = queue }

module _ {R M : Type 0} (ticket : ℕ) (s t : Line R M) (ids : List (ℕ × ℕ)) (queue : List (ℕ × QueuedRequest R M)) (same : t ≡ s)
    (absent : is_some (entry_at ticket t.queue) ≡ false) (freed : queue ≡ frees ticket t.queue) (id_freed : ids ≡ frees ticket t.ids) where
  by_id : plain.gives_up_id ticket t (entry_at ticket t.ids) ≡ plain.gives_up ticket s
  by_id = ap (λ b. if b then record t { queue = frees ticket t.queue } else plain.gives_up_id ticket t (entry_at ticket t.ids)) (sym absent) ∙ ap (plain.gives_up ticket) same

  queue_stays : queue ≡ t.queue
  queue_stays = freed ∙ frees_nothing ticket t.queue (is_none (entry_at ticket t.queue) absent)

  -- It has no id.
  pub unknown : None ≡ entry_at ticket t.ids → with_tables t.held ids queue t ≡ plain.gives_up ticket s
  unknown none =
      ap (λ ids. with_tables t.held ids queue t) (id_freed ∙ frees_nothing ticket t.ids (sym none))
      ∙ ap (λ queue. with_tables t.held t.ids queue t) queue_stays
      ∙ ap (plain.gives_up_id ticket t) none
      ∙ by_id

  module _ (id : ℕ) (there : Some id ≡ entry_at ticket t.ids) where
    by_held : (held : IdTable (Holder R M)) → held ≡ plain.leaves_id id t.held (entry_at id t.held.held) → with_tables held ids queue t ≡ plain.gives_up ticket s
    by_held held h =
        ap (λ held. with_tables held ids queue t) h
        ∙ ap (λ ids. with_tables (plain.leaves_id id t.held (entry_at id t.held.held)) ids queue t) id_freed
        ∙ ap (λ queue. with_tables (plain.leaves_id id t.held (entry_at id t.held.held)) (frees ticket t.ids) queue t) queue_stays
        ∙ ap (plain.gives_up_id ticket t) there
        ∙ by_id

    -- Its id stays held, or is held by nobody.
    pub stays_held : (left held : IdTable (Holder R M)) → is_some (entry_at id t.held.held) ≡ true → left ≡ removed id t.held → held ≡ inserted_at id GivenUp left → with_tables held ids queue t ≡ plain.gives_up ticket s
    stays_held left held some l h = by_held held (h ∙ ap (inserted_at id GivenUp) l ∙ leaves (entry_at id t.held.held) some)
      where
        leaves : (o : Option (Holder R M)) → is_some o ≡ true → inserted_at id GivenUp (removed id t.held) ≡ plain.leaves_id id t.held o
        leaves (Some holder) some = refl
        leaves None some = absurd (no some)
          where
            no : false ≡ true → ⊥
            no h = cc

    pub is_free : (held : IdTable (Holder R M)) → is_some (entry_at id t.held.held) ≡ false → (entry_at id t.held.held ≡ None → held ≡ t.held) → with_tables held ids queue t ≡ plain.gives_up ticket s
    is_free held none h =
        let nobody : entry_at id t.held.held ≡ None = is_none (entry_at id t.held.held) none in
        by_held held (h nobody ∙ ap (plain.leaves_id id t.held) (sym nobody))
