-- What is found of messages that came is what the definitions say at a point of a row.
use Rattle.std.proofs.Common.{◌≡◌, ℕ, ◌&&◌, ◌⊎◌, inl, inr, not, Bool, true, false, [], ◌∷◌, refl, sym, ap, ◌∙◌, subst}
use Rattle.right_trace.specs.Trace.{History, Conf, Came, Put}
use Rattle.right_trace.specs.Time.{newest, row_before, EarlierRow, OfRow}
use Rattle.right_trace.specs.Messages.{Octets}
use Rattle.right_trace.specs.Coming.{CameFor, SomeCame, CameFirst, FirstHere, FirstEarlier}
use Rattle.trace_tables.specs.Lists.{listed}
use Rattle.trace_points.proofs.lemmas.due.ReadTimers.{both, all}
use Rattle.trace_points.specs.questions.Outs.{Tells}
use Rattle.trace_replies.specs.firsts.Firsts.{Firsts, counted, some_first, ByRow, FirstRow, Known, earlier_seen, first_seen, TellsEarlier, TellsFirst}
use Rattle.trace_replies.proofs.lemmas.firsts.Listing.{clash, not_false, either, first_true, second_true, counts_so, so_counts, is_so, so_is, first_so, so_first}

-- rows before the newest are those that are done before it
pub earlier_so : (P : History → Type 0) (h : History) → (P [] → ⊥) → EarlierRow P h → ByRow P (row_before h)
earlier_so P [] fails e = absurd e
earlier_so P (Came e ∷ h) fails b = b
earlier_so P (Put o ∷ h) fails e = earlier_so P h fails e

pub so_earlier : (P : History → Type 0) (h : History) → (P [] → ⊥) → ByRow P (row_before h) → EarlierRow P h
so_earlier P [] fails (inl p) = fails p
so_earlier P [] fails (inr e) = e
so_earlier P (Came e ∷ h) fails b = b
so_earlier P (Put o ∷ h) fails b = so_earlier P h fails b

pub none_at_first : (c : Conf) (k : ℕ) (m : Octets) → OfRow (CameFor c k m) [] → ⊥
none_at_first c k m w = absurd (let z = w.matches.comes.is_open.stands.asked.1 in cc)

pub none_some : (c : Conf) (k : ℕ) → OfRow (SomeCame c k) [] → ⊥
none_some c k w = none_at_first c k w.message w.came

pub tells_earlier : (c : Conf) (k : ℕ) (m : Octets) (f : Firsts) (b : Bool) → b ≡ earlier_seen k m f → TellsEarlier c k m f b
tells_earlier c k m f b e h known = (
  (λ u. (let x = is_so m (listed k f) (sym e ∙ u) in so_earlier (OfRow (CameFor c k m)) h (none_at_first c k m) (subst (λ m. ByRow (OfRow (CameFor c k m)) (row_before h)) x.2 (known.so k x.0 x.1).came))),
  (λ w. (let x = known.came k m (earlier_so (OfRow (CameFor c k m)) h (none_at_first c k m) w) in e ∙ so_is m x.0 (listed k f) x.1 x.2)),
)

module _ (c : Conf) (k : ℕ) (m : Octets) (came : Bool) (f : Firsts) (h : History) (known : Known c (row_before h) f) (tells : Tells (CameFor c k m (row_before h) (newest h) h) came) where
  none_counted : counted k f ≡ false → EarlierRow (OfRow (SomeCame c k)) h → ⊥
  none_counted fails e = let x = known.counted k (earlier_so (OfRow (SomeCame c k)) h (none_some c k) e) in clash (counted k f) (so_counts x.0 (listed k f) x.1 x.2) fails

  so_none : (EarlierRow (OfRow (SomeCame c k)) h → ⊥) → (d : Bool) → counted k f ≡ d → d ≡ false
  so_none none false e = refl
  so_none none true e = absurd (let x = counts_so (listed k f) e in none (so_earlier (OfRow (SomeCame c k)) h (none_some c k) ((known.so k x.0 x.1).counted x.2)))

  first_is : first_seen k m came f ≡ true → CameFirst c k m (row_before h) (newest h) h
  first_is e = go (either (came && not (counted k f)) (some_first m (listed k f)) e)
    where
      go : ((came && not (counted k f)) ≡ true) ⊎ (some_first m (listed k f) ≡ true) → CameFirst c k m (row_before h) (newest h) h
      go (inl e) = let q = both came (not (counted k f)) e in FirstHere (tells.0 q.0) (none_counted (not_false (counted k f) q.1))
      go (inr e) = let x = first_so m (listed k f) e in FirstEarlier (so_earlier (FirstRow c k m) h (λ w. none_at_first c k m w.0) (subst (λ m. ByRow (FirstRow c k m) (row_before h)) x.2 ((known.so k x.0 x.1).first x.3)))

  is_first : CameFirst c k m (row_before h) (newest h) h → first_seen k m came f ≡ true
  is_first (FirstHere w none) = first_true (came && not (counted k f)) (some_first m (listed k f)) (all came (not (counted k f)) (tells.1 w) (ap not (so_none none (counted k f) refl)))
  is_first (FirstEarlier w) = let x = known.first k m (earlier_so (FirstRow c k m) h (λ w. none_at_first c k m w.0) w) in second_true (came && not (counted k f)) (some_first m (listed k f)) (so_first m x.0 (listed k f) x.1 x.2 x.3)

pub tells_first : (c : Conf) (k : ℕ) (m : Octets) (came : Bool) (f : Firsts) (b : Bool) → b ≡ first_seen k m came f → TellsFirst c k m came f b
tells_first c k m came f b e h known tells = ((λ u. first_is c k m came f h known tells (sym e ∙ u)), (λ w. e ∙ is_first c k m came f h known tells w))
