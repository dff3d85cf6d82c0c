-- In the row of an asking each other reply spares what is kept, exactly where all of them are views.
use Rattle.std.proofs.Common.{◌≡◌, ℕ, ◌==◌, ◌&&◌, ◌||◌, Bool, true, false, ◌⊎◌, inl, inr, Option, Some, None, List, [], ◌∷◌, refl, sym, ap, ◌∙◌}
use Rattle.std.specs.Prelude.{not, Result, Ok, Err}
use Rattle.std.proofs.lemmas.Bool.{or_right}
use Rattle.number_table.specs.Entries.{entry_at}
use Rattle.client_request.specs.Request.{Request}
use Rattle.client_request.specs.declared.error.Error.{Error}
use Rattle.client_request.specs.declared.event.{What.What, Out.Out}
use Rattle.client_request.specs.declared.event.Out.TheVariants.{Start, OpenDgram, OpenStream, Send, Write, Resume, Close, Stale, Reply}
use Rattle.right_trace.specs.Trace.{History, Conf, Put, put_all}
use Rattle.right_trace.specs.{Messages.Octets, Settings.Settings, Right.OutsRight}
use Rattle.right_trace.specs.Requests.{Asking, asking, is_asked_here, is_reply, is_marked, replied}
use Rattle.right_trace.specs.Keys.{Key, key_of, is_cacheable}
use Rattle.right_trace.specs.Hit.{IsViewOf, OutIsView, AllAreViews}
use Rattle.cache_rules.specs.Key.{same_key, same_itself, same_is_equal}
use Rattle.trace_points.proofs.lemmas.questions.Deciding.{both, all}
use Rattle.trace_hits.specs.Point.{is_number, has_key}
use Rattle.trace_hits.specs.Outs.{mark_of, spares, all_spare}
use Rattle.trace_hits.proofs.Among.{mark_is}
use Rattle.trace_hits.proofs.Behind.{clash, reply_first}

-- the outs stand where these requests were asked, and this is the mark that was put last
pub record Stands (table : List (ℕ × Asking)) (mark : Option ℕ) (h : History) : Type 0 where
  pub asked : (j : ℕ) → entry_at j table ≡ asking j h
  pub marks : (j : ℕ) → is_number j mark ≡ is_marked j h

one_more : (table : List (ℕ × Asking)) (mark : Option ℕ) (o : Out) (h : History) → Stands table mark h → Stands table (mark_of o) (Put o ∷ h)
one_more table mark o h at = record { asked = at.asked; marks = λ j. mark_is j o }

-- a reply that is asked for something else
module _ (table : List (ℕ × Asking)) (q : Request) (m : Octets) (n : ℕ) (its : Key) (key : its ≡ key_of q) (k : ℕ) where
  unlike : (j : ℕ) (x : Result Octets Error) (h : History) → entry_at j table ≡ asking j h → has_key its (entry_at j table) ≡ false → IsViewOf q m n h j x
  unlike j x h asked other = by x
    where
      none : (r : Request) (t : ℕ) → asking j h ≡ Some (record { request = r; moment = t }) → is_cacheable r ≡ true → key_of r ≡ key_of q → ⊥
      none r t is cacheable same =
          let holds : (is_cacheable r && same_key (key_of r) its) ≡ true = all (is_cacheable r) (same_key (key_of r) its) cacheable (ap (same_key (key_of r)) (key ∙ sym same) ∙ same_itself (key_of r)) in
          clash (has_key its (entry_at j table)) (ap (has_key its) (asked ∙ is) ∙ holds) other

      by : (x : Result Octets Error) → IsViewOf q m n h j x
      by (Ok y) = λ r t is cacheable same. absurd (none r t is cacheable same)
      by (Err e) = none

  -- what spares is a view
  spares_view : (mark : Option ℕ) (o : Out) (h : History) → Stands table mark h → spares table its k mark o ≡ true → (is_reply k o ≡ true) ⊎ OutIsView q m n h o
  spares_view mark (Reply j x) h at e = go (j == k) refl (is_number j mark) refl (has_key its (entry_at j table)) refl e
    where
      go : (a : Bool) → (j == k) ≡ a → (b : Bool) → is_number j mark ≡ b → (d : Bool) → has_key its (entry_at j table) ≡ d → (a || (b || not d)) ≡ true → ((j == k) ≡ true) ⊎ OutIsView q m n h (Reply j x)
      go true i b g d f e = inl i
      go false i true g d f e = inr (inl (sym (at.marks j) ∙ g))
      go false i false g false f e = inr (inr (unlike j x h (at.asked j) f))
      go false i false g true f e = absurd (cc)
  spares_view mark (Start j t u) h at e = inr tt
  spares_view mark (OpenDgram p t) h at e = inr tt
  spares_view mark (OpenStream p t) h at e = inr tt
  spares_view mark (Send p j i o) h at e = inr tt
  spares_view mark (Write p j i o) h at e = inr tt
  spares_view mark (Resume p o) h at e = inr tt
  spares_view mark (Close p) h at e = inr tt
  spares_view mark (Stale j) h at e = inr tt

  pub all_views : (j : ℕ) (os : List Out) (mark : Option ℕ) (h : History) → Stands table mark h → all_spare table its k mark os ≡ true → AllAreViews q m j n k h → AllAreViews q m j n k (put_all os h)
  all_views j [] mark h at e views = views
  all_views j (o ∷ os) mark h at e views =
      let p = both (spares table its k mark o) (all_spare table its k (mark_of o) os) e in
      all_views j os (mark_of o) (Put o ∷ h) (one_more table mark o h at) p.1 (inr (spares_view mark o h at p.0, views))

  -- a view spares, where no request but k is asked here
  view_spares : (mark : Option ℕ) (o : Out) (h : History) → Stands table mark h → ((j : ℕ) → is_asked_here j h ≡ true → (j == k) ≡ true) → ((is_reply k o ≡ true) ⊎ OutIsView q m n h o) → spares table its k mark o ≡ true
  view_spares mark (Reply j x) h at here (inl e) = ap (λ b. b || (is_number j mark || not (has_key its (entry_at j table)))) e
  view_spares mark (Reply j x) h at here (inr (inl g)) = or_right (j == k) _ (ap (λ b. b || not (has_key its (entry_at j table))) (at.marks j ∙ g))
  view_spares mark (Reply j x) h at here (inr (inr v)) = go (has_key its (entry_at j table)) refl
    where
      own : (o : Option Asking) → asking j h ≡ o → has_key its o ≡ true → (j == k) ≡ true
      own None e f = absurd (cc)
      own (Some a) e f = by x v
        where
          its_own : (is_cacheable a.request ≡ true) × (same_key (key_of a.request) its ≡ true)
          its_own = both (is_cacheable a.request) (same_key (key_of a.request) its) f

          by : (x : Result Octets Error) → IsViewOf q m n h j x → (j == k) ≡ true
          by (Ok y) v = here j (v a.request a.moment e its_own.0 (same_is_equal (key_of a.request) its its_own.1 ∙ key)).0
          by (Err d) v = absurd (v a.request a.moment e its_own.0 (same_is_equal (key_of a.request) its its_own.1 ∙ key))

      go : (b : Bool) → has_key its (entry_at j table) ≡ b → spares table its k mark (Reply j x) ≡ true
      go true e = ap (λ b. b || (is_number j mark || not (has_key its (entry_at j table)))) (own (asking j h) refl (ap (has_key its) (sym (at.asked j)) ∙ e))
      go false e = or_right (j == k) _ (or_right (is_number j mark) _ (ap not e))
  view_spares mark (Start j t u) h at here v = refl
  view_spares mark (OpenDgram p t) h at here v = refl
  view_spares mark (OpenStream p t) h at here v = refl
  view_spares mark (Send p j i o) h at here v = refl
  view_spares mark (Write p j i o) h at here v = refl
  view_spares mark (Resume p o) h at here v = refl
  view_spares mark (Close p) h at here v = refl
  view_spares mark (Stale j) h at here v = refl

-- what is left of views before the outs
pub record AreSpared (table : List (ℕ × Asking)) (its : Key) (k : ℕ) (mark : Option ℕ) (os : List Out) (q : Request) (m : Octets) (j n : ℕ) (h : History) : Type 0 where
  pub spare : all_spare table its k mark os ≡ true
  pub views : AllAreViews q m j n k h

module _ (c : Conf) (s : Settings) (past : History) (w : What) (end : History) (table : List (ℕ × Asking)) (q : Request) (m : Octets) (j n : ℕ) (its : Key) (key : its ≡ key_of q) (k : ℕ) where
  pub are_spared : (os : List Out) (mark : Option ℕ) (h : History) → Stands table mark h → ((i : ℕ) → is_asked_here i h ≡ true → (i == k) ≡ true) → OutsRight c s past w end h os → replied j h ≡ true → AllAreViews q m j n k (put_all os h) → AreSpared table its k mark os q m j n h
  are_spared [] mark h at here right r views = record { spare = refl; views = views }
  are_spared (o ∷ os) mark h at here right r views =
      let rest = are_spared os (mark_of o) (Put o ∷ h) (one_more table mark o h at) here right.1 (or_right (is_reply j o) (replied j h) r) views in
      elim rest.views [
        | inl e ↦ clash (replied j h) r ((reply_first c s past w h end o right.0 j e).none)
        | inr v ↦ record {
          spare = all (spares table its k mark o) (all_spare table its k (mark_of o) os) (view_spares table q m n its key k mark o h at here v.0) rest.spare;
          views = v.1;
        }
      ]
