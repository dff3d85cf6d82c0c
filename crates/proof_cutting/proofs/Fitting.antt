-- A connection is taken out of tables that are fit, and put back: they are fit again.
use Rattle.std.proofs.Common.{◌≡◌, ℕ, ◌≤◌, ◌<◌, ◌⊎◌, inl, inr, Bool, true, false, if◌then◌else◌, Option, Some, None, List, length, refl, sym, ap, ap₂, subst, ◌∙◌, arith}
use Rattle.std.specs.Prelude.{◌==◌}
use Rattle.std.proofs.lemmas.Bool.Decides.{nat_tests}
use Rattle.client_request.specs.Numbered.{puts, frees, entry_at}
use Rattle.client_request.specs.Request.{Request}
use Rattle.client_request.specs.View.{Transport}
use Rattle.client_stream.specs.Plain.{Asked, has_ended, timer_at, started}
use Rattle.client_multi.specs.Links.{Link}
use Rattle.client_multi.specs.MultiStream.{OneStream, watched, unwatched, keeps, taken, with_connection}
use Rattle.proof_parts.specs.Lines.{Sorted}
use Rattle.proof_parts.proofs.Tables.{rises_below, at_puts, at_frees, sorted_puts, sorted_frees, present_below, put_back}
use Rattle.proof_cutting.specs.Standing.{StreamTables, AreFit}
use Rattle.proof_cutting.proofs.Lines.{IsKnown}

-- What is asked of tables, of those of the connections and of their timers alone.
pub record Fits (es : List (ℕ × Link Request)) (ws : List (ℕ × ℕ)) (n : ℕ) : Type 0 where
  pub connections : (hi : ℕ) × Sorted 0 hi es
  pub watches : Sorted 0 n ws
  pub placed : (p : ℕ) (l : Link Request) → entry_at p es ≡ Some l → (l.place ≡ p) × (has_ended l.line.stage ≡ false)
  pub watched : (p : ℕ) (l : Link Request) (i : ℕ) → entry_at p es ≡ Some l → timer_at l.line.stage ≡ Some i → entry_at i ws ≡ Some p

pub fits_of : (t : StreamTables) (n : ℕ) → AreFit t n → Fits t.connections t.watches n
fits_of t n f = record { connections = f.connections; watches = f.watches; placed = f.placed; watched = f.watched }

pub fit_of : (t : StreamTables) (n : ℕ) → Fits t.connections t.watches n → AreFit t n
fit_of t n f = record { connections = f.connections; watches = f.watches; placed = f.placed; watched = f.watched }

pub fits_later : (es : List (ℕ × Link Request)) (ws : List (ℕ × ℕ)) (n m : ℕ) → n ≤ m → Fits es ws n → Fits es ws m
fits_later es ws n m le f = record { connections = f.connections; watches = rises_below (λ (e : ℕ × ℕ). e.0) 0 n m ws le f.watches; placed = f.placed; watched = f.watched }

-- ---- keys

pub itself : (n : ℕ) → (n == n) ≡ true
itself n = grind (arith, nat_tests)

pub is_same : (p q : ℕ) → (p == q) ≡ true → p ≡ q
is_same p q h = grind (arith, nat_tests)

is_other : (p q : ℕ) → (p ≡ q → ⊥) → (p == q) ≡ false
is_other p q h = grind (arith, nat_tests)

are_other : (p q : ℕ) → (p == q) ≡ false → p ≡ q → ⊥
are_other p q h e = grind (arith, nat_tests)

-- ---- the place of each timer

unwatched_at : (o : Option ℕ) (i n : ℕ) (ws : List (ℕ × ℕ)) → Sorted 0 n ws → (o ≡ Some i → ⊥) → entry_at i (unwatched o ws) ≡ entry_at i ws
unwatched_at None i n ws r h = refl
unwatched_at (Some k) i n ws r h = at_frees k i 0 n ws r ∙ ap (λ b. if b then None else entry_at i ws) (is_other k i (λ e. h (ap Some e)))

watched_at : (o : Option ℕ) (p i : ℕ) (ws : List (ℕ × ℕ)) → (o ≡ Some i → ⊥) → entry_at i (watched p o ws) ≡ entry_at i ws
watched_at None p i ws h = refl
watched_at (Some k) p i ws h = at_puts k p i ws ∙ ap (λ b. if b then Some p else entry_at i ws) (is_other k i (λ e. h (ap Some e)))

sorted_unwatched : (o : Option ℕ) (n : ℕ) (ws : List (ℕ × ℕ)) → Sorted 0 n ws → Sorted 0 n (unwatched o ws)
sorted_unwatched None n ws r = r
sorted_unwatched (Some k) n ws r = sorted_frees k 0 n ws r

sorted_watched : (o : Option ℕ) (p n : ℕ) (ws : List (ℕ × ℕ)) → Sorted 0 n ws → ((i : ℕ) → o ≡ Some i → i < n) → Sorted 0 n (watched p o ws)
sorted_watched None p n ws r h = r
sorted_watched (Some k) p n ws r h = sorted_puts k p 0 n ws (omega arith) (h k refl) r

module _ (calls : Transport Request (Link Request) Asked) where
  -- what reconnection asks of one connection with these calls
  abbrev pub over : OneStream Request (Link Request)
  over = record {
    calls = calls;
    opened = started;
    has_ended = λ c. has_ended c.line.stage;
    is_full = λ c. length c.line.held.held == 32768;
    timer_of = λ c. timer_at c.line.stage;
  }

  -- what stands at a place, where a connection was put back
  abbrev pub back : Link Request → Option (Link Request)
  back d = if has_ended d.line.stage then None else Some d

  -- the tables once a connection was put back that was taken out
  abbrev pub put : ℕ → Link Request → Link Request → StreamTables → StreamTables
  put p c d s = with_connection over p d (taken over p c s)

  module _ (p : ℕ) (c : Link Request) (s : StreamTables) (n : ℕ) (fits : Fits s.connections s.watches n) (at : entry_at p s.connections ≡ Some c) where
    pub entry_back : (d : Link Request) (q : ℕ) → entry_at q (put p c d s).connections ≡ (if p == q then back d else entry_at q s.connections)
    entry_back d q = go (has_ended d.line.stage)
      where
        freed : entry_at q (frees p s.connections) ≡ (if p == q then None else entry_at q s.connections)
        freed = let r = fits.connections in at_frees p q 0 r.0 s.connections r.1

        twofold : (b : Bool) (x y z : Option (Link Request)) → (if b then x else if b then y else z) ≡ (if b then x else z)
        twofold true x y z = refl
        twofold false x y z = refl

        go : (b : Bool) → entry_at q (if b then taken over p c s else keeps over p d (taken over p c s)).connections ≡ (if p == q then (if b then None else Some d) else entry_at q s.connections)
        go true = freed
        go false = at_puts p d q (frees p s.connections) ∙ ap (λ o. if p == q then Some d else o) freed ∙ twofold (p == q) (Some d) None (entry_at q s.connections)

    -- the timer of another connection is not that of this one
    not_own : (q : ℕ) (l : Link Request) (i : ℕ) → (p == q) ≡ false → entry_at q s.connections ≡ Some l → timer_at l.line.stage ≡ Some i → timer_at c.line.stage ≡ Some i → ⊥
    not_own q l i other e t own = are_other p q other (let same : Some p ≡ Some q = sym (fits.watched p c i at own) ∙ fits.watched q l i e t in cc)

    still_watched : (q : ℕ) (l : Link Request) (i : ℕ) → (p == q) ≡ false → entry_at q s.connections ≡ Some l → timer_at l.line.stage ≡ Some i → entry_at i (unwatched (timer_at c.line.stage) s.watches) ≡ Some q
    still_watched q l i other e t = unwatched_at (timer_at c.line.stage) i n s.watches fits.watches (not_own q l i other e t) ∙ fits.watched q l i e t

    below_next : (q : ℕ) (l : Link Request) (i : ℕ) → entry_at q s.connections ≡ Some l → timer_at l.line.stage ≡ Some i → i < n
    below_next q l i e t = present_below i 0 n q s.watches fits.watches (fits.watched q l i e t)

    -- an entry there is another one's, or the one that was put back
    either_entry : (o : Option (Link Request)) (q : ℕ) (l : Link Request) → (if p == q then o else entry_at q s.connections) ≡ Some l → ((p == q) ≡ true × (o ≡ Some l)) ⊎ ((p == q) ≡ false × (entry_at q s.connections ≡ Some l))
    either_entry o q l e = go (p == q) e
      where
        go : (b : Bool) → (if b then o else entry_at q s.connections) ≡ Some l → (b ≡ true × (o ≡ Some l)) ⊎ (b ≡ false × (entry_at q s.connections ≡ Some l))
        go true e = inl (refl, e)
        go false e = inr (refl, e)

    abbrev tables : Link Request → Bool → StreamTables
    tables d b = if b then taken over p c s else keeps over p d (taken over p c s)

    abbrev Entries : Link Request → Bool → Type 0
    Entries d b = (q : ℕ) → entry_at q (tables d b).connections ≡ (if p == q then (if b then None else Some d) else entry_at q s.connections)

    placed_back : (d : Link Request) → d.place ≡ p → (b : Bool) → has_ended d.line.stage ≡ b → Entries d b → (q : ℕ) (l : Link Request) → entry_at q (tables d b).connections ≡ Some l → (l.place ≡ q) × (has_ended l.line.stage ≡ false)
    placed_back d is_at b ends entries q l e = by b ends (either_entry (if b then None else Some d) q l (sym (entries q) ∙ e))
      where
        by : (b : Bool) → has_ended d.line.stage ≡ b → ((p == q) ≡ true × ((if b then None else Some d) ≡ Some l)) ⊎ ((p == q) ≡ false × (entry_at q s.connections ≡ Some l)) → (l.place ≡ q) × (has_ended l.line.stage ≡ false)
        by b ends (inr x) = fits.placed q l x.1
        by true ends (inl x) = absurd (let none : None ≡ Some l = x.1 in cc)
        by false ends (inl x) =
            let is : d ≡ l = (let same : Some d ≡ Some l = x.1 in cc) in
            subst (λ (l : Link Request). (l.place ≡ q) × (has_ended l.line.stage ≡ false)) is (is_at ∙ is_same p q x.0, ends)

    -- a timer of its own was the one before, or is a new one
    not_known : (d : Link Request) (m : ℕ) → IsKnown (timer_at c.line.stage) n m (timer_at d.line.stage) → (q : ℕ) (l : Link Request) (i : ℕ) → (p == q) ≡ false → entry_at q s.connections ≡ Some l → timer_at l.line.stage ≡ Some i → timer_at d.line.stage ≡ Some i → ⊥
    not_known d m known q l i other e t own = by (known i own)
      where
        by : (timer_at c.line.stage ≡ Some i) ⊎ ((n ≤ i) × (i < m)) → ⊥
        by (inl o) = not_own q l i other e t o
        by (inr x) = let lt = below_next q l i e t in let le = x.0 in omega arith

    known_below : (d : Link Request) (m : ℕ) → n ≤ m → IsKnown (timer_at c.line.stage) n m (timer_at d.line.stage) → (i : ℕ) → timer_at d.line.stage ≡ Some i → i < m
    known_below d m le known i own = by (known i own)
      where
        by : (timer_at c.line.stage ≡ Some i) ⊎ ((n ≤ i) × (i < m)) → i < m
        by (inl o) = let lt = below_next p c i at o in omega arith
        by (inr x) = x.1

    watched_back : (d : Link Request) (m : ℕ) → IsKnown (timer_at c.line.stage) n m (timer_at d.line.stage) → (b : Bool) → Entries d b → (q : ℕ) (l : Link Request) (i : ℕ) → entry_at q (tables d b).connections ≡ Some l → timer_at l.line.stage ≡ Some i → entry_at i (tables d b).watches ≡ Some q
    watched_back d m known b entries q l i e t = by b (either_entry (if b then None else Some d) q l (sym (entries q) ∙ e))
      where
        here : timer_at d.line.stage ≡ Some i → p ≡ q → entry_at i (watched p (timer_at d.line.stage) (unwatched (timer_at c.line.stage) s.watches)) ≡ Some q
        here own same =
            ap (λ o. entry_at i (watched p o (unwatched (timer_at c.line.stage) s.watches))) own
            ∙ at_puts i p i (unwatched (timer_at c.line.stage) s.watches)
            ∙ ap (λ b. if b then Some p else entry_at i (unwatched (timer_at c.line.stage) s.watches)) (itself i)
            ∙ ap Some same

        by : (b : Bool) → ((p == q) ≡ true × ((if b then None else Some d) ≡ Some l)) ⊎ ((p == q) ≡ false × (entry_at q s.connections ≡ Some l)) → entry_at i (tables d b).watches ≡ Some q
        by true (inl x) = absurd (let none : None ≡ Some l = x.1 in cc)
        by false (inl x) = let is : d ≡ l = (let same : Some d ≡ Some l = x.1 in cc) in here (ap (λ (l : Link Request). timer_at l.line.stage) is ∙ t) (is_same p q x.0)
        by true (inr x) = still_watched q l i x.0 x.1 t
        by false (inr x) = watched_at (timer_at d.line.stage) p i (unwatched (timer_at c.line.stage) s.watches) (not_known d m known q l i x.0 x.1 t) ∙ still_watched q l i x.0 x.1 t

    pub fits_back : (d : Link Request) (m : ℕ) → d.place ≡ p → n ≤ m → IsKnown (timer_at c.line.stage) n m (timer_at d.line.stage) → Fits (put p c d s).connections (put p c d s).watches m
    fits_back d m is_at le known = go (has_ended d.line.stage) refl (entry_back d)
      where
        order : Sorted 0 m (unwatched (timer_at c.line.stage) s.watches)
        order = rises_below (λ (e : ℕ × ℕ). e.0) 0 n m (unwatched (timer_at c.line.stage) s.watches) le (sorted_unwatched (timer_at c.line.stage) n s.watches fits.watches)

        freed : (hi : ℕ) × Sorted 0 hi (frees p s.connections)
        freed = let r = fits.connections in (r.0, sorted_frees p 0 r.0 s.connections r.1)

        more : (hi : ℕ) × Sorted 0 hi (puts p d (frees p s.connections))
        more =
            let r = fits.connections in
            let lt = present_below p 0 r.0 c s.connections r.1 at in
            (r.0, sorted_puts p d 0 r.0 (frees p s.connections) (omega arith) lt (sorted_frees p 0 r.0 s.connections r.1))

        go : (b : Bool) → has_ended d.line.stage ≡ b → Entries d b → Fits (tables d b).connections (tables d b).watches m
        go true ends entries = record { connections = freed; watches = order; placed = placed_back d is_at true ends entries; watched = watched_back d m known true entries }
        go false ends entries = record {
          connections = more;
          watches = sorted_watched (timer_at d.line.stage) p m (unwatched (timer_at c.line.stage) s.watches) order (known_below d m le known);
          placed = placed_back d is_at false ends entries;
          watched = watched_back d m known false entries;
        }

    -- the same connection put back is nothing
    pub put_itself : put p c c s ≡ s
    put_itself =
        let r = fits.connections in
        ap (λ b. if b then taken over p c s else keeps over p c (taken over p c s)) (let x = fits.placed p c at in x.1)
        ∙ ap₂ (λ (es : List (ℕ × Link Request)) (ws : List (ℕ × ℕ)). record s { connections = es; watches = ws }) (put_back p c 0 r.0 s.connections r.1 at) (same (timer_at c.line.stage) (fits.watched p c))
      where
        same : (o : Option ℕ) → ((i : ℕ) → entry_at p s.connections ≡ Some c → o ≡ Some i → entry_at i s.watches ≡ Some p) → watched p o (unwatched o s.watches) ≡ s.watches
        same None h = refl
        same (Some i) h = put_back i p 0 n s.watches fits.watches (h i at refl)
