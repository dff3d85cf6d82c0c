-- What is found in a table is what is said of all numbers.
use Rattle.std.proofs.Common.{◌≡◌, ℕ, Bool, true, false, ◌==◌, ◌&&◌, ◌||◌, cond, Option, Some, None, [], ◌∷◌, refl, sym, ap, ◌∙◌, arith, is_eq, nat_cmp}
use Rattle.std.proofs.lemmas.Bool.Decides.{nat_tests}
use Rattle.number_table.specs.Entries.{entry_at}
use Rattle.client_request.specs.declared.event.Via.TheVariants.{Stream}
use Rattle.right_trace.specs.{Trace.History, Requests.same_via}
use Rattle.right_trace.specs.Places.{is_site, is_opening, Opening}
use Rattle.trace_tables.specs.declared.places.{Place.Place, Stand.Stand as Seen}
use Rattle.trace_tables.specs.declared.places.Stand.TheVariants as seen
use Rattle.trace_tables.specs.Tables.{Table}
use Rattle.trace_tables.specs.Known.{Known, stand_of, stand_seen, site_seen}
use Rattle.trace_points.specs.questions.Searching.{opening_stream, some_entry, NoneOpens}

-- an entry that passes is found, and what is found is an entry that passes
finds : (f : Option Place → Bool) (t es : Table) (p : ℕ) (x : Place) → entry_at p es ≡ Some x → f (entry_at p t) ≡ true → some_entry f t es ≡ true
finds f t [] p x e g = absurd (cc)
finds f t (d ∷ es) p x e g = go (is_eq (nat_cmp p d.0)) refl (finds f t es p x) e
  where
    go : (b : Bool) → is_eq (nat_cmp p d.0) ≡ b → (entry_at p es ≡ Some x → f (entry_at p t) ≡ true → some_entry f t es ≡ true) → cond b (Some d.1) (entry_at p es) ≡ Some x → (f (entry_at d.0 t) || some_entry f t es) ≡ true
    go true i rest e =
        let same : p ≡ d.0 = grind (arith, nat_tests) in
        ap (λ b. b || some_entry f t es) (sym (ap (λ n. f (entry_at n t)) same) ∙ g)
    go false i rest e = by (f (entry_at d.0 t)) (rest e g)
      where
        by : (b : Bool) → some_entry f t es ≡ true → (b || some_entry f t es) ≡ true
        by true r = refl
        by false r = r

found : (f : Option Place → Bool) (t es : Table) → some_entry f t es ≡ true → (p : ℕ) × (f (entry_at p t) ≡ true)
found f t [] e = absurd (cc)
found f t (d ∷ es) e = go (f (entry_at d.0 t)) refl (found f t es) e
  where
    go : (b : Bool) → f (entry_at d.0 t) ≡ b → (some_entry f t es ≡ true → (p : ℕ) × (f (entry_at p t) ≡ true)) → (b || some_entry f t es) ≡ true → (p : ℕ) × (f (entry_at p t) ≡ true)
    go true i rest e = (d.0, i)
    go false i rest e = rest e

-- what one entry says
is_opening_entry : (s : ℕ) (o : Option Place) → is_site Stream s (site_seen o) ≡ true → stand_seen o ≡ Opening → (x : Place) × (o ≡ Some x) × (opening_stream s o ≡ true)
is_opening_entry s None e f = absurd (cc)
is_opening_entry s (Some x) e f = (x, refl, ap (λ b. b && is_opening (stand_of x.stand)) e ∙ ap is_opening f)

entry_is_opening : (s : ℕ) (o : Option Place) → opening_stream s o ≡ true → (is_site Stream s (site_seen o) ≡ true) × (stand_seen o ≡ Opening)
entry_is_opening s None e = absurd (cc)
entry_is_opening s (Some x) e = go (same_via x.via Stream && (x.server == s)) refl x.stand refl e
  where
    go : (b : Bool) → (same_via x.via Stream && (x.server == s)) ≡ b → (y : Seen) → x.stand ≡ y → (b && is_opening (stand_of y)) ≡ true → ((same_via x.via Stream && (x.server == s)) ≡ true) × (stand_of x.stand ≡ Opening)
    go true i seen.Opening j e = (i, ap stand_of j)
    go true i seen.Alive j e = absurd (cc)
    go true i seen.Gone j e = absurd (cc)
    go false i y j e = absurd (cc)

pub search_decides : (h : History) (t : Table) (s : ℕ) → Known h t → (some_entry (opening_stream s) t t ≡ false → NoneOpens s h) × (some_entry (opening_stream s) t t ≡ true → NoneOpens s h → ⊥)
search_decides h t s k = (
  (λ none p at opening.
      let x = is_opening_entry s (entry_at p t) (ap (is_site Stream s) (k.sites p) ∙ at) (k.stands p ∙ opening) in
      let yes : some_entry (opening_stream s) t t ≡ true = finds (opening_stream s) t t p x.0 x.1 x.2 in
      cc),
  (λ some none.
      let p = found (opening_stream s) t t some in
      let x = entry_is_opening s (entry_at p.0 t) p.1 in
      none p.0 (sym (ap (is_site Stream s) (k.sites p.0)) ∙ x.0) (sym (k.stands p.0) ∙ x.1)),
)
