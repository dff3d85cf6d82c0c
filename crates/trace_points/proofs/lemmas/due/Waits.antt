-- What waits once frames are counted, and whether the last frame found something.
use Rattle.std.proofs.Common.{◌≡◌, ℕ, suc, ◌==◌, ◌&&◌, ◌||◌, not, Bool, true, false, if◌then◌else◌, length, List, [], ◌∷◌, ◌++◌, refl, sym, ap, ap₂, ◌∙◌, arith}
use Rattle.std.proofs.lemmas.Bool.Decides.{nat_tests}
use Rattle.dns_base.specs.Header.{id_of}
use Rattle.right_trace.specs.Trace.{History, Came, Put}
use Rattle.right_trace.specs.{Time.now, Timers.is_loose_end}
use Rattle.right_trace.specs.Messages.{Octets, id_in}
use Rattle.right_trace.specs.Frames.{is_bad, has_id, brings, last_of, but_last}
use Rattle.right_trace.specs.Writes.{Written, is_write, written_by, waiting_with, is_any}
use Rattle.trace_tables.specs.frames.Waiting.{Waiting, waiting_seen, free_seen, is_empty}
use Rattle.trace_tables.specs.frames.Waiting as waiting
use Rattle.trace_tables.specs.declared.writes.writing.Writing.{Writing}
use Rattle.trace_tables.specs.writes.Writing.{unwritten_seen}
use Rattle.trace_tables.specs.writes.Writing as writing
use Rattle.trace_tables.proofs.lemmas.writes.Leaving as leaving
use Rattle.trace_points.specs.due.Loose.{has_id_seen, brings_seen, is_unheld, loose_behind, loose_end}

-- the frames of the newest row free the ids that they have, and no other
pub freeing : (ms : List Octets) (p id : ℕ) (h : History) → waiting_with ms p id h ≡ (if brings id ms then [] else waiting_with [] p id h)
freeing ms p id [] = both (brings id ms)
  where
    both : (b : Bool) → [] ≡ (if b then [] else waiting_with [] p id [])
    both true = refl
    both false = refl
freeing ms p id (Came e ∷ h) = refl
freeing ms p id (Put o ∷ h) = go (is_write p id o) (brings id ms) (freeing ms p id h)
  where
    go : (w b : Bool) → waiting_with ms p id h ≡ (if b then [] else waiting_with [] p id h)
        → (if w && not b then written_by o (now h) (waiting_with ms p id h) else waiting_with ms p id h) ≡ (if b then [] else (if w && true then written_by o (now h) (waiting_with [] p id h) else waiting_with [] p id h))
    go true true e = e
    go true false e = ap (written_by o (now h)) e
    go false true e = e
    go false false e = e

id_is : (id : ℕ) (m : Octets) → has_id_seen id m ≡ has_id id m
unfolding is_bad id_in
id_is id m = refl

pub brings_is : (id : ℕ) (ms : List Octets) → brings_seen id ms ≡ brings id ms
brings_is id [] = refl
brings_is id (m ∷ ms) = ap₂ (λ a b. a || b) (id_is id m) (brings_is id ms)

none_any : (ws : List Written) → (length ws == 0) ≡ not (is_any ws)
none_any [] = refl
none_any (w ∷ ws) = none (length ws)
  where
    none : (n : ℕ) → (suc n == 0) ≡ false
    none n = grind (arith, nat_tests)

-- the last of frames, and those before it
last_is : (a : Octets) (xs : List Octets) (z : Octets) → (last_of a (xs ++ z ∷ []) ≡ z) × (but_last a (xs ++ z ∷ []) ≡ a ∷ xs)
last_is a [] z = (refl, refl)
last_is a (b ∷ xs) z = (let r = last_is b xs z in (r.0, ap (λ t. a ∷ t) r.1))

pub loose_split : (frames before : List Octets) (last : Octets) (p : ℕ) (t : Waiting) (w : Writing) → frames ≡ before ++ last ∷ [] → loose_behind before last p t w ≡ loose_end frames p t w
loose_split frames [] last p t w e = sym (ap (λ f. loose_end f p t w) e)
loose_split frames (a ∷ xs) last p t w e = (let r = last_is a xs last in sym (ap (λ f. loose_end f p t w) e ∙ ap₂ (λ m b. loose_behind b m p t w) r.0 r.1))

module _ (h : History) (t : Waiting) (is : waiting.Known h t) where
  pub unheld_is : (ms : List Octets) (p id : ℕ) → is_unheld ms p id t ≡ not (is_any (waiting_with ms p id h))
  unheld_is ms p id =
      ap₂ (λ a b. a || b) (brings_is id ms) (none_any (waiting_seen p id t) ∙ ap (λ ws. not (is_any ws)) (is.waits p id))
      ∙ (go (brings id ms) ∙ sym (ap (λ ws. not (is_any ws)) (freeing ms p id h)))
    where
      go : (b : Bool) → (b || not (is_any (waiting_with [] p id h))) ≡ not (is_any (if b then [] else waiting_with [] p id h))
      go true = refl
      go false = refl

  number_is : (m : Octets) → id_of m ≡ id_in m
  unfolding id_in
  number_is m = refl

  pub loose_is : (w : Writing) → writing.Known h w → (ms : List Octets) (p : ℕ) → loose_end ms p t w ≡ is_loose_end ms p h
  loose_is w kw [] p = refl
  loose_is w kw (m ∷ ms) p =
      ap₂ (λ a b. a || b) (leaving.goes_on.tells h w p kw)
      (ap (λ n. is_unheld (but_last m ms) p n t) (number_is (last_of m ms)) ∙ unheld_is (but_last m ms) p (id_in (last_of m ms)))
