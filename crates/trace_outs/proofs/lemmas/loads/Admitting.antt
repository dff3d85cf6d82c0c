-- Whether a stream place may be opened is what the definitions say.
use Rattle.std.proofs.Common.{◌≡◌, ℕ, ◌≤◌, ◌&&◌, ◌||◌, ◌⊎◌, inl, inr, not, Bool, true, false, List, [], Option, Some, None, refl, sym, ap, ap₂, ◌∙◌, arith}
use Rattle.std.specs.Prelude.{nat_le}
use Rattle.std.proofs.lemmas.Bool.Decides.{nat_tests}
use Rattle.number_table.specs.Entries.{entry_at}
use Rattle.client_request.specs.declared.event.Via.TheVariants.{Stream}
use Rattle.right_trace.specs.Trace.{History, Conf}
use Rattle.right_trace.specs.{Time.id_count, Writes.held_with, Orderly.MayOpenStream}
use Rattle.right_trace.specs.Places.{Stand, Unused, Opening, Alive, Gone, is_at, stand, is_live, is_opening, is_alive}
use Rattle.trace_tables.specs.declared.places.Place.{Place}
use Rattle.trace_tables.specs.Known as places_seen
use Rattle.trace_tables.specs.Known.{stand_seen}
use Rattle.trace_points.proofs.lemmas.questions.Deciding.{both, not_true}
use Rattle.trace_tables.specs.sets.Sets.{Members, Sets, members_or_none, has, members, some_of}
use Rattle.trace_tables.proofs.lemmas.sets.Keeping as sets
use Rattle.trace_outs.specs.declared.loads.loads.Loads.{Loads}
use Rattle.trace_outs.specs.declared.loads.held.Held.{Held}
use Rattle.trace_outs.specs.loads.Loads as loads
use Rattle.trace_outs.specs.loads.Held as held
use Rattle.trace_outs.specs.loads.Held.{full_seen}
use Rattle.trace_outs.specs.loads.Opening.{blocks, blocks_at, may_open_seen, TellsOpenStream}

-- a walk over the set of a key
pub walked : (f : ℕ → Bool) (key k : ℕ) (t : Sets) (o : Option Members) (b : Bool) → key ≡ k → o ≡ entry_at key t → b ≡ some_of f (members_or_none o) → b ≡ some_of f (members k t)
walked f key k t o b same e w = w ∙ ap (λ (o : Option Members). some_of f (members_or_none o)) (e ∙ ap (λ (n : ℕ). entry_at n t) same)

some_or : (a b : Bool) → (a || b) ≡ true → (a ≡ true) ⊎ (b ≡ true)
some_or true b e = inl refl
some_or false b e = inr e

opening_is : (x : Stand) → is_opening x ≡ true → x ≡ Opening
opening_is Unused e = absurd (cc)
opening_is Opening e = refl
opening_is Alive e = absurd (cc)
opening_is Gone e = absurd (cc)

alive_is : (x : Stand) → is_alive x ≡ true → x ≡ Alive
alive_is Unused e = absurd (cc)
alive_is Opening e = absurd (cc)
alive_is Alive e = refl
alive_is Gone e = absurd (cc)

module _ (c : Conf) (s : ℕ) (places : List (ℕ × Place)) (l : Loads) (t : Held) (h : History) (kp : places_seen.Known h places) (kl : loads.Known c h l) (kt : held.Known h t) where
  there : (p : ℕ) → is_at Stream s p h ≡ true → is_live (stand p h) ≡ true → has s p l.streams ≡ true
  there p at live = kl.places Stream s p ∙ ap₂ (λ a b. a && b) at live

  blocked_is : (p : ℕ) → blocks_at places t p ≡ (is_opening (stand p h) || (is_alive (stand p h) && not (full_seen p t)))
  blocked_is p = ap (λ x. is_opening x || (is_alive x && not (full_seen p t))) (kp.stands p)

  found : some_of (blocks_at places t) (members s l.streams) ≡ false → (p : ℕ) → is_at Stream s p h ≡ true → is_live (stand p h) ≡ true → (is_opening (stand p h) || (is_alive (stand p h) && not (full_seen p t))) ≡ true → ⊥
  found none p at live e = (let z : some_of (blocks_at places t) (members s l.streams) ≡ true = sets.goes_on.finds s p (blocks_at places t) l.streams (there p at live) (blocked_is p ∙ e) in cc)

  full_so : (p : ℕ) → full_seen p t ≡ true → id_count ≤ held_with [] p h
  full_so p e = le id_count (held_with [] p h) (sym (kt.full p) ∙ e)
    where
      le : (a b : ℕ) → nat_le a b ≡ true → a ≤ b
      le a b e = grind (arith, nat_tests)

  open_so : may_open_seen s places l t ≡ true → MayOpenStream s h
  open_so e = record {
    none_opens = λ p at is. found none p at (ap is_live is) (ap (λ x. is_opening x || (is_alive x && not (full_seen p t))) is);
    all_full = λ p at is. full p at is (full_seen p t) refl;
  }
    where
      none : some_of (blocks_at places t) (members s l.streams) ≡ false
      none = not_true (some_of (blocks_at places t) (members s l.streams)) e

      full : (p : ℕ) → is_at Stream s p h ≡ true → stand p h ≡ Alive → (b : Bool) → full_seen p t ≡ b → id_count ≤ held_with [] p h
      full p at is true i = full_so p i
      full p at is false i = absurd (found none p at (ap is_live is) (ap₂ (λ x b. is_opening x || (is_alive x && not b)) is i))

  so_open : MayOpenStream s h → (b : Bool) → some_of (blocks_at places t) (members s l.streams) ≡ b → not b ≡ true
  so_open may false e = refl
  so_open may true e = absurd (go (some_or (is_opening (stand f.0 h)) _ (sym (blocked_is f.0) ∙ f.2)))
    where
      f : (p : ℕ) × (has s p l.streams ≡ true) × (blocks_at places t p ≡ true)
      f = sets.goes_on.found s (blocks_at places t) l.streams e

      at : is_at Stream s f.0 h ≡ true
      at = (both (is_at Stream s f.0 h) (is_live (stand f.0 h)) (sym (kl.places Stream s f.0) ∙ f.1)).0

      go : (is_opening (stand f.0 h) ≡ true) ⊎ ((is_alive (stand f.0 h) && not (full_seen f.0 t)) ≡ true) → ⊥
      go (inl i) = may.none_opens f.0 at (opening_is (stand f.0 h) i)
      go (inr i) =
          let q = both (is_alive (stand f.0 h)) (not (full_seen f.0 t)) i in
          let le = may.all_full f.0 at (alive_is (stand f.0 h) q.0) in
          let z : full_seen f.0 t ≡ true = kt.full f.0 ∙ less id_count (held_with [] f.0 h) le in
          let y : full_seen f.0 t ≡ false = not_true (full_seen f.0 t) q.1 in
          cc
        where
          less : (a b : ℕ) → a ≤ b → nat_le a b ≡ true
          less a b le = grind (arith, nat_tests)

pub tells_open : (s : ℕ) (places : List (ℕ × Place)) (l : Loads) (t : Held) (b : Bool) → b ≡ may_open_seen s places l t → TellsOpenStream s places l t b
tells_open s places l t b e c h kp kl kt = (
  (λ u. open_so c s places l t h kp kl kt (sym e ∙ u)),
  (λ may. e ∙ so_open c s places l t h kp kl kt may (some_of (blocks_at places t) (members s l.streams)) refl),
)
