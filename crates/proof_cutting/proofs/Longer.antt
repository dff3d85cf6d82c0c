-- The table of connections with more octets behind those of one of them.
use Rattle.std.proofs.Common.{◌≡◌, ℕ, suc, Bool, true, false, cond, if◌then◌else◌, Some, None, Ordering, Less, Equal, Greater, nat_cmp, is_eq, List, [], ◌∷◌, ◌++◌, refl, sym, ap, ◌∙◌, arith, append_assoc}
use Rattle.std.specs.Prelude.{◌==◌, ◌&&◌, not, option_map, option_and_then}
use Rattle.std.specs.Ordering.{match_ordering}
use Rattle.std.proofs.lemmas.Bool.Decides.{nat_tests}
use Rattle.client_request.specs.Numbered.{puts, frees, entry_at}
use Rattle.client_request.specs.Request.{Request}
use Rattle.client_stream.specs.Plain.{has_ended}
use Rattle.client_multi.specs.Links.{Link}
use Rattle.proof_cutting.specs.Standing.{link_octets, longer_link, longer_entry}
use Rattle.proof_parts.specs.Lines.{Sorted}

-- ---- keys

same_test : (k x : ℕ) → is_eq (nat_cmp k x) ≡ (x == k)
same_test k x = grind (arith, nat_tests)

not_both : (x p place : ℕ) → (p == place) ≡ false → (x == place) ≡ true → (x == p) ≡ false
not_both x p place a b = grind (arith, nat_tests)

pub either_way : {A B : Type 0} (f : A → B) (b : Bool) (x y : A) → f (if b then x else y) ≡ (if b then f x else f y)
either_way f true x y = refl
either_way f false x y = refl

module _ (place : ℕ) (piece : List ℕ) where
  abbrev Table : Type 0
  Table = List (ℕ × Link Request)

  abbrev longer : Table → Table
  longer es = longer_entry place piece es

  abbrev longer_one : Link Request → Link Request
  longer_one l = longer_link place piece l

  -- ---- the entry at the place, and at another

  pub entry_here : (es : Table) → entry_at place (longer es) ≡ option_map longer_one (entry_at place es)
  entry_here [] = refl
  entry_here (e ∷ es) = either_way (entry_at place) (e.0 == place) ((e.0, longer_one e.1) ∷ es) (e ∷ longer es) ∙ by (e.0 == place) (is_eq (nat_cmp place e.0)) (same_test place e.0) (entry_here es)
    where
      by : (b c : Bool) → c ≡ b → entry_at place (longer es) ≡ option_map longer_one (entry_at place es)
          → (if b then cond c (Some (longer_one e.1)) (entry_at place es) else cond c (Some e.1) (entry_at place (longer es))) ≡ option_map longer_one (cond c (Some e.1) (entry_at place es))
      by true true h ih = refl
      by true false h ih = absurd (cc)
      by false true h ih = absurd (cc)
      by false false h ih = ih

  pub entry_there : (p : ℕ) (es : Table) → (p == place) ≡ false → entry_at p (longer es) ≡ entry_at p es
  entry_there p [] other = refl
  entry_there p (e ∷ es) other = either_way (entry_at p) (e.0 == place) ((e.0, longer_one e.1) ∷ es) (e ∷ longer es) ∙ by (e.0 == place) refl (is_eq (nat_cmp p e.0)) (same_test p e.0) (entry_there p es other)
    where
      by : (b : Bool) → (e.0 == place) ≡ b → (c : Bool) → c ≡ (e.0 == p) → entry_at p (longer es) ≡ entry_at p es
          → (if b then cond c (Some (longer_one e.1)) (entry_at p es) else cond c (Some e.1) (entry_at p (longer es))) ≡ cond c (Some e.1) (entry_at p es)
      by true at true h ih = absurd (let no = not_both e.0 p place other at in cc)
      by true at false h ih = refl
      by false at true h ih = refl
      by false at false h ih = ih

  -- ---- it is taken out

  pub frees_here : (es : Table) → frees place (longer es) ≡ frees place es
  frees_here [] = refl
  frees_here (e ∷ es) = either_way (frees place) (e.0 == place) ((e.0, longer_one e.1) ∷ es) (e ∷ longer es) ∙ by (e.0 == place) (is_eq (nat_cmp place e.0)) (same_test place e.0) (frees_here es)
    where
      by : (b c : Bool) → c ≡ b → frees place (longer es) ≡ frees place es
          → (if b then cond c es ((e.0, longer_one e.1) ∷ frees place es) else cond c (longer es) (e ∷ frees place (longer es))) ≡ cond c es (e ∷ frees place es)
      by true true h ih = refl
      by true false h ih = absurd (cc)
      by false true h ih = absurd (cc)
      by false false h ih = ap (λ (es : Table). e ∷ es) ih

  pub frees_there : (p : ℕ) (es : Table) → (p == place) ≡ false → frees p (longer es) ≡ longer (frees p es)
  frees_there p [] other = refl
  frees_there p (e ∷ es) other = either_way (frees p) (e.0 == place) ((e.0, longer_one e.1) ∷ es) (e ∷ longer es) ∙ by (e.0 == place) refl (is_eq (nat_cmp p e.0)) (same_test p e.0) (frees_there p es other)
    where
      by : (b : Bool) → (e.0 == place) ≡ b → (c : Bool) → c ≡ (e.0 == p) → frees p (longer es) ≡ longer (frees p es)
          → (if b then cond c es ((e.0, longer_one e.1) ∷ frees p es) else cond c (longer es) (e ∷ frees p (longer es))) ≡ longer (cond c es (e ∷ frees p es))
      by true at true h ih = absurd (let no = not_both e.0 p place other at in cc)
      by true at false h ih = sym (ap (λ b. if b then (e.0, longer_one e.1) ∷ frees p es else e ∷ longer (frees p es)) at)
      by false at true h ih = refl
      by false at false h ih = ap (λ (es : Table). e ∷ es) ih ∙ sym (ap (λ b. if b then (e.0, longer_one e.1) ∷ frees p es else e ∷ longer (frees p es)) at)

  -- ---- it is put back

  puts_by : (k : ℕ) (v : Link Request) (e : ℕ × Link Request) (es : Table) (o : Ordering) → nat_cmp k e.0 ≡ o → puts k v (e ∷ es) ≡ match_ordering o ((k, v) ∷ e ∷ es) ((e.0, v) ∷ es) (e ∷ puts k v es)
  puts_by k v e es o h = ap (λ o. match_ordering o ((k, v) ∷ e ∷ es) ((e.0, v) ∷ es) (e ∷ puts k v es)) h

  -- where none stands there
  pub puts_here : (d : Link Request) (es : Table) → puts place (longer_one d) es ≡ longer (puts place d es)
  puts_here d [] = sym (ap (λ b. if b then (place, longer_one d) ∷ [] else (place, d) ∷ []) (itself place))
    where
      itself : (n : ℕ) → (n == n) ≡ true
      itself n = grind (arith, nat_tests)
  puts_here d (e ∷ es) = by (nat_cmp place e.0) refl (puts_here d es)
    where
      itself : (n : ℕ) → (n == n) ≡ true
      itself n = grind (arith, nat_tests)

      same : (k x : ℕ) → nat_cmp k x ≡ Equal → (x == k) ≡ true
      same k x h = grind (arith, nat_tests)

      above : (k x : ℕ) → nat_cmp k x ≡ Greater → (x == k) ≡ false
      above k x h = grind (arith, nat_tests)

      by : (o : Ordering) → nat_cmp place e.0 ≡ o → puts place (longer_one d) es ≡ longer (puts place d es)
          → match_ordering o ((place, longer_one d) ∷ e ∷ es) ((e.0, longer_one d) ∷ es) (e ∷ puts place (longer_one d) es) ≡ longer (match_ordering o ((place, d) ∷ e ∷ es) ((e.0, d) ∷ es) (e ∷ puts place d es))
      by Less h ih = sym (ap (λ b. if b then (place, longer_one d) ∷ e ∷ es else (place, d) ∷ longer (e ∷ es)) (itself place))
      by Equal h ih = sym (ap (λ b. if b then (e.0, longer_one d) ∷ es else (e.0, d) ∷ longer es) (same place e.0 h))
      by Greater h ih = ap (λ (es : Table). e ∷ es) ih ∙ sym (ap (λ b. if b then (e.0, longer_one e.1) ∷ puts place d es else e ∷ longer (puts place d es)) (above place e.0 h))

  pub puts_there : (p : ℕ) (d : Link Request) (es : Table) → (p == place) ≡ false → puts p d (longer es) ≡ longer (puts p d es)
  puts_there p d [] other = sym (ap (λ b. if b then (p, longer_one d) ∷ [] else (p, d) ∷ []) other)
  puts_there p d (e ∷ es) other = either_way (puts p d) (e.0 == place) ((e.0, longer_one e.1) ∷ es) (e ∷ longer es) ∙ by (e.0 == place) refl (nat_cmp p e.0) refl (puts_there p d es other)
    where
      same : (k x : ℕ) → nat_cmp k x ≡ Equal → (x == k) ≡ true
      same k x h = grind (arith, nat_tests)

      first : (b : Bool) → (e.0 == place) ≡ b → longer ((p, d) ∷ e ∷ es) ≡ (p, d) ∷ (if b then (e.0, longer_one e.1) ∷ es else e ∷ longer es)
      first b at = ap (λ b. if b then (p, longer_one d) ∷ e ∷ es else (p, d) ∷ longer (e ∷ es)) other ∙ ap (λ b. (p, d) ∷ (if b then (e.0, longer_one e.1) ∷ es else e ∷ longer es)) at

      by : (b : Bool) → (e.0 == place) ≡ b → (o : Ordering) → nat_cmp p e.0 ≡ o → puts p d (longer es) ≡ longer (puts p d es)
          → (if b then match_ordering o ((p, d) ∷ (e.0, longer_one e.1) ∷ es) ((e.0, d) ∷ es) ((e.0, longer_one e.1) ∷ puts p d es) else match_ordering o ((p, d) ∷ e ∷ longer es) ((e.0, d) ∷ longer es) (e ∷ puts p d (longer es)))
          ≡ longer (match_ordering o ((p, d) ∷ e ∷ es) ((e.0, d) ∷ es) (e ∷ puts p d es))
      by true at Less h ih = sym (first true at)
      by false at Less h ih = sym (first false at)
      by true at Equal h ih = absurd (let no = not_both e.0 p place other at in let yes_ = same p e.0 h in cc)
      by false at Equal h ih = sym (ap (λ b. if b then (e.0, longer_one d) ∷ es else (e.0, d) ∷ longer es) at)
      by true at Greater h ih = sym (ap (λ b. if b then (e.0, longer_one e.1) ∷ puts p d es else e ∷ longer (puts p d es)) at)
      by false at Greater h ih = ap (λ (es : Table). e ∷ es) ih ∙ sym (ap (λ b. if b then (e.0, longer_one e.1) ∷ puts p d es else e ∷ longer (puts p d es)) at)

  -- ---- where the place is not open

  closed_link : (l : Link Request) → link_octets place l ≡ None → longer_one l ≡ l
  closed_link l e = either ((l.place == place) && not (has_ended l.line.stage)) e
    where
      either : (b : Bool) → (if b then Some l.octets else None) ≡ None → (if b then record l { octets = l.octets ++ piece } else l) ≡ l
      either true e = absurd (cc)
      either false e = refl

  pub longer_closed : (es : Table) → option_and_then (link_octets place) (entry_at place es) ≡ None → longer es ≡ es
  longer_closed [] none = refl
  longer_closed (e ∷ es) none = by (e.0 == place) (is_eq (nat_cmp place e.0)) (same_test place e.0) none (longer_closed es)
    where
      by : (b c : Bool) → c ≡ b → option_and_then (link_octets place) (cond c (Some e.1) (entry_at place es)) ≡ None → (option_and_then (link_octets place) (entry_at place es) ≡ None → longer es ≡ es)
          → (if b then (e.0, longer_one e.1) ∷ es else e ∷ longer es) ≡ e ∷ es
      by true true h none ih = ap (λ l. (e.0, l) ∷ es) (closed_link e.1 none)
      by true false h none ih = absurd (cc)
      by false true h none ih = absurd (cc)
      by false false h none ih = ap (λ (es : Table). e ∷ es) (ih none)

  pub longer_absent : (es : Table) → entry_at place es ≡ None → longer es ≡ es
  longer_absent es none = longer_closed es (ap (option_and_then (link_octets place)) none)

  -- ---- the order, and the newest that has room

  pub sorted_longer : (lo hi : ℕ) (es : Table) → Sorted lo hi es → Sorted lo hi (longer es)
  sorted_longer lo hi [] r = tt
  sorted_longer lo hi (e ∷ es) r = by (e.0 == place) (sorted_longer (suc e.0) hi es r.2)
    where
      by : (b : Bool) → Sorted (suc e.0) hi (longer es) → Sorted lo hi (if b then (e.0, longer_one e.1) ∷ es else e ∷ longer es)
      by true ih = r
      by false ih = (r.0, r.1, ih)

  -- the octets behind others
  twice_link : (more : List ℕ) (l : Link Request) → longer_link place (piece ++ more) l ≡ longer_link place more (longer_link place piece l)
  twice_link more l = either ((l.place == place) && not (has_ended l.line.stage)) refl
    where
      either : (b : Bool) → ((l.place == place) && not (has_ended l.line.stage)) ≡ b
          → (if b then record l { octets = l.octets ++ (piece ++ more) } else l) ≡ longer_link place more (if b then record l { octets = l.octets ++ piece } else l)
      either true e = ap (λ o. record l { octets = o }) (sym (append_assoc l.octets piece more)) ∙ sym (ap (λ b. if b then record l { octets = (l.octets ++ piece) ++ more } else record l { octets = l.octets ++ piece }) e)
      either false e = sym (ap (λ b. if b then record l { octets = l.octets ++ more } else l) e)

  pub twice : (more : List ℕ) (es : Table) → longer_entry place (piece ++ more) es ≡ longer_entry place more (longer es)
  twice more [] = refl
  twice more (e ∷ es) = by (e.0 == place) refl (twice more es)
    where
      by : (b : Bool) → (e.0 == place) ≡ b → longer_entry place (piece ++ more) es ≡ longer_entry place more (longer es)
          → (if b then (e.0, longer_link place (piece ++ more) e.1) ∷ es else e ∷ longer_entry place (piece ++ more) es) ≡ longer_entry place more (if b then (e.0, longer_one e.1) ∷ es else e ∷ longer es)
      by true at ih = ap (λ l. (e.0, l) ∷ es) (twice_link more e.1) ∙ sym (ap (λ b. if b then (e.0, longer_link place more (longer_one e.1)) ∷ es else (e.0, longer_one e.1) ∷ longer_entry place more es) at)
      by false at ih = ap (λ (es : Table). e ∷ es) ih ∙ sym (ap (λ b. if b then (e.0, longer_link place more e.1) ∷ longer es else e ∷ longer_entry place more (longer es)) at)
