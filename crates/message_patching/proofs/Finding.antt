-- The places of TTLs, record by record.
use Rattle.std.proofs.Common.{◌≡◌, ℕ, zero, suc, ◌+◌, ◌<◌, List, [], ◌∷◌, ◌++◌, length, take, refl, ap, sym, ◌∙◌, arith, Bool, true, false, append_assoc, append-nil}
use Rattle.std.specs.Prelude.{Option, Some, None, map, option_map, option_and_then, if◌then◌else◌, slice_index}
use Rattle.std.specs.List.{AllByRecursion}
use Rattle.std.proofs.lemmas.List.{map-append}
use Rattle.dns_values.specs.declared.numbers.Section.{Section}
use Rattle.dns_base.specs.Message.{list_at}
use Rattle.dns_base.proofs.Lists.{list_none}
use Rattle.dns_values.specs.declared.numbers.Section.TheVariants.{Answer, Authority, Additional}
use Rattle.dns_base.specs.Numbers.{u16_at, ◌>>=◌}
use Rattle.message_patching.specs.Patching.{Mark, mark_at, has_ttl, ttl_places, section_places, with_places, records_from, places_in, put_over, puts}
use Rattle.message_patching.proofs.Putting.{puts_more}

abbrev pub told : Mark × ℕ → ℕ × ℕ × ℕ
told x = (x.0.place, x.0.rtype, x.1)

not_marked : (x : Option (Mark × ℕ)) → None ≡ option_map told x → x ≡ None
not_marked None e = refl
not_marked (Some y) e = absurd cc

-- parts of what was found
got : Option (ℕ × ℕ × ℕ) → ℕ × ℕ × ℕ
got None = (0, 0, 0)
got (Some x) = x

abbrev mark_and : ℕ → ℕ → ℕ → Option (Mark × ℕ)
mark_and place rtype end = Some (record { place = place; rtype = rtype }, end)

abbrev ends_with : ℕ → List ℕ → Option (List ℕ × ℕ)
ends_with end xs = Some (xs, end)

marked_is : (x : Option (Mark × ℕ)) (place rtype end : ℕ) → Some (place, rtype, end) ≡ option_map told x → x ≡ mark_and place rtype end
unfolding got
marked_is None place rtype end e = absurd cc
marked_is (Some y) place rtype end e =
    let a : place ≡ y.0.place = ap (λ o. (got o).0) e in
    let b : rtype ≡ y.0.rtype = ap (λ o. (got o).1) e in
    let c : end ≡ y.1 = ap (λ o. (got o).2) e in
    ap (λ p. mark_and p y.0.rtype y.1) (sym a) ∙ ap (λ r. mark_and place r y.1) (sym b) ∙ ap (λ e. mark_and place rtype e) (sym c)

pub section_none : (s : Section) (o : List ℕ) (n m at : ℕ) (ts : List ℕ) → None ≡ option_map told (mark_at o at) → n ≡ suc m → with_places ts (section_places s o n at) ≡ None
section_none s o n m at ts e f = ap (λ x. with_places ts (option_map (λ (y : List Mark × ℕ). (ttl_places s y.0, y.1)) x)) (list_none (mark_at o) n m at (not_marked (mark_at o at) e) f)

list_more : (o : List ℕ) (m at end : ℕ) (mark : Mark) → mark_at o at ≡ Some (mark, end)
    → list_at (mark_at o) (suc m) at ≡ option_map (λ (y : List Mark × ℕ). (mark ∷ y.0, y.1)) (list_at (mark_at o) m end)
unfolding list_at
list_more o m at end mark e = rw e (go (list_at (mark_at o) m end))
  where
    go : (x : Option (List Mark × ℕ)) → option_and_then {U = List Mark × ℕ} (λ (y : List Mark × ℕ). Some (mark ∷ y.0, y.1)) x ≡ option_map {U = List Mark × ℕ} (λ (y : List Mark × ℕ). (mark ∷ y.0, y.1)) x
    go None = refl
    go (Some y) = refl

pub section_step : (s : Section) (o : List ℕ) (n m at : ℕ) (ts : List ℕ) (place rtype end : ℕ) (b : Bool) → Some (place, rtype, end) ≡ option_map told (mark_at o at) → n ≡ suc m → has_ttl s rtype ≡ b
    → with_places ts (section_places s o n at) ≡ with_places (if b then ts ++ place ∷ [] else ts) (section_places s o m end)
section_step s o n m at ts place rtype end b e f h =
    let mark : Mark = record { place = place; rtype = rtype } in
    let all : list_at (mark_at o) n at ≡ option_map (λ (y : List Mark × ℕ). (mark ∷ y.0, y.1)) (list_at (mark_at o) m end) =
    ap (λ k. list_at (mark_at o) k at) f ∙ list_more o m at end mark (marked_is (mark_at o at) place rtype end e) in
    ap (λ x. with_places ts (option_map (λ (y : List Mark × ℕ). (ttl_places s y.0, y.1)) x)) all ∙ go (list_at (mark_at o) m end) b h
  where
    mk : Mark
    mk = record { place = place; rtype = rtype }

    both : (b : Bool) (rest : List ℕ) → ts ++ (if b then place ∷ rest else rest) ≡ (if b then ts ++ place ∷ [] else ts) ++ rest
    both true rest = sym (append_assoc ts (place ∷ []) rest)
    both false rest = refl

    go : (x : Option (List Mark × ℕ)) (b : Bool) → has_ttl s rtype ≡ b
        → with_places ts (option_map (λ (y : List Mark × ℕ). (ttl_places s y.0, y.1)) (option_map {U = List Mark × ℕ} (λ (y : List Mark × ℕ). (mk ∷ y.0, y.1)) x))
        ≡ with_places (if b then ts ++ place ∷ [] else ts) (option_map (λ (y : List Mark × ℕ). (ttl_places s y.0, y.1)) x)
    go None b h = refl
    go (Some y) b h =
        ap (λ z. ends_with y.1 (ts ++ (if z then place ∷ ttl_places s y.0 else ttl_places s y.0))) h ∙ ap (ends_with y.1) (both b (ttl_places s y.0))

pub section_end : (s : Section) (o : List ℕ) (n at : ℕ) (ts : List ℕ) → n ≡ 0 → with_places ts (section_places s o n at) ≡ Some (ts, at)
unfolding list_at
section_end s o n at ts e = ap (λ k. with_places ts (section_places s o k at)) e ∙ ap (ends_with at) (append-nil ts)

pub all_and : (P : ℕ → Type 0) (xs : List ℕ) (x : ℕ) → AllByRecursion P xs → P x → AllByRecursion P (xs ++ x ∷ [])
all_and P [] x h one = (one, tt)
all_and P (y ∷ xs) x h one = (h.0, all_and P xs x h.1 one)

-- one write more
taken_more : (xs : List ℕ) (i : ℕ) → i < length xs → take (i + 1) xs ≡ take i xs ++ slice_index xs i ∷ []
taken_more [] i lt = absurd (omega arith)
taken_more (x ∷ xs) zero lt = refl
taken_more (x ∷ xs) (suc i) lt = let e : suc i + 1 ≡ suc (i + 1) = omega arith in ap (λ k. take k (x ∷ xs)) e ∙ ap (λ ys. x ∷ ys) (taken_more xs i (omega arith))

pub one_more_put : (f : ℕ → ℕ × List ℕ) (xs : List ℕ) (i : ℕ) (o : List ℕ) → i < length xs
    → puts (map f (take (i + 1) xs)) o ≡ put_over (f (slice_index xs i)).0 (f (slice_index xs i)).1 (puts (map f (take i xs)) o)
one_more_put f xs i o lt =
    ap (λ ys. puts (map f ys) o) (taken_more xs i lt) ∙ ap (λ ws. puts ws o) (map-append f (take i xs) (slice_index xs i ∷ [])) ∙ puts_more (map f (take i xs)) (f (slice_index xs i) ∷ []) o

-- all sections of a message
pub places_found : (o : List ℕ) (f fa fu fd : ℕ) (A U D : List ℕ) → records_from o ≡ Some f → section_places Answer o (u16_at o 6) f ≡ Some (A, fa) → section_places Authority o (u16_at o 8) fa ≡ Some (U, fu)
    → section_places Additional o (u16_at o 10) fu ≡ Some (D, fd) → places_in o ≡ Some (A ++ (U ++ D))
unfolding places_in
places_found o f fa fu fd A U D h a u d =
    ap (λ x. x >>= λ f. section_places Answer o (u16_at o 6) f >>= λ a. section_places Authority o (u16_at o 8) a.1 >>= λ u. section_places Additional o (u16_at o 10) u.1 >>= λ d. Some (a.0 ++ (u.0 ++ d.0))) h
    ∙ ap (λ x. x >>= λ a. section_places Authority o (u16_at o 8) a.1 >>= λ u. section_places Additional o (u16_at o 10) u.1 >>= λ d. Some (a.0 ++ (u.0 ++ d.0))) a
    ∙ ap (λ x. x >>= λ u. section_places Additional o (u16_at o 10) u.1 >>= λ d. Some (A ++ (u.0 ++ d.0))) u
    ∙ ap (λ x. x >>= λ d. Some (A ++ (U ++ d.0))) d
