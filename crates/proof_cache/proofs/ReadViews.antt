-- A view of what is read of a message is valid as long as that of what is known of it: the data of records is nothing to a validity.
use Rattle.std.proofs.Common.{◌≡◌, ℕ, Bool, true, false, Some, List, [], ◌∷◌, refl, sym, ◌∙◌, ap, ap₂, ◌==◌, ◌&&◌, ◌||◌}
use Rattle.std.specs.Prelude.{if◌then◌else◌, not, map, ◌*◌, min}
use Rattle.dns_names.specs.Name.{Labels}
use Rattle.dns_base.specs.Data.{Data}
use Rattle.dns_base.specs.Message.{Asked}
use Rattle.right_trace.specs.Messages.{Octets}
use Rattle.right_trace.specs.Settings.{Settings}
use Rattle.right_trace.specs.Keys.{Key, is_signing}
use Rattle.right_trace.specs.Parts.{Item, Parts, read_parts, known_parts}
use Rattle.right_trace.specs.Validity.{second, has_item, least, without_opt, good_limit, absent_limit, limit, validity_of_parts}
use Rattle.right_trace.specs.Views.{leaves_out, lessened, mostly_lessened, without_signing, viewed}
use Rattle.right_trace.proofs.Said.{known_is_read}

-- a record without its owner and its data
abbrev bare : {C : Type 0} → Item C → Item (Unit {0})
bare x = record { owner = []; rtype = x.rtype; class = x.class; ttl = x.ttl; content = tt }

abbrev bare_parts : {C : Type 0} → Parts C → Parts (Unit {0})
bare_parts x = record { header = x.header; code = x.code; questions = x.questions; answer = map bare x.answer; authority = map bare x.authority; additional = map bare x.additional }

module _ {C : Type 0} where
  has_bare : (t c : ℕ) (xs : List (Item C)) → has_item t c (map bare xs) ≡ has_item t c xs
  has_bare t c [] = refl
  has_bare t c (x ∷ xs) = ap (λ b. ((x.rtype == t) && (x.class == c)) || b) (has_bare t c xs)

  least_bare : (n : ℕ) (xs : List (Item C)) → least n (map bare xs) ≡ least n xs
  least_bare n [] = refl
  least_bare n (x ∷ xs) = least_bare (min n (x.ttl * second)) xs

  opt_bare : (n : ℕ) (xs : List (Item C)) → least n (without_opt (map bare xs)) ≡ least n (without_opt xs)
  opt_bare n [] = refl
  opt_bare n (x ∷ xs) = go (x.rtype == 41) (λ n. opt_bare n xs)
    where
      go : (b : Bool) → ((n : ℕ) → least n (without_opt (map bare xs)) ≡ least n (without_opt xs)) → least n (if b then without_opt (map bare xs) else bare x ∷ without_opt (map bare xs)) ≡ least n (if b then without_opt xs else x ∷ without_opt xs)
      go true i = i n
      go false i = i (min n (x.ttl * second))

  limit_bare : (s : Settings) (x : Parts C) → limit s (bare_parts x) ≡ limit s x
  limit_bare s x = go x.questions (x.code == 0)
    where
      absent : (qs : List Asked) → absent_limit s (bare_parts x) qs ≡ absent_limit s x qs
      absent [] = refl
      absent (q ∷ qs) = ap (λ b. if b then s.max_nxdomain_validity else 0) (has_bare 6 q.class x.authority)

      go : (qs : List Asked) (b : Bool) → (if b then good_limit s (bare_parts x) qs else (if x.code == 3 then absent_limit s (bare_parts x) qs else s.misc_error_duration)) ≡ (if b then good_limit s x qs else (if x.code == 3 then absent_limit s x qs else s.misc_error_duration))
      go [] true = refl
      go (q ∷ qs) true = ap₂ (λ a b. if a then s.max_validity else b) (has_bare q.rtype q.class x.answer) (ap₂ (λ a b. if a then s.max_nodata_validity else (if b then s.max_delegation_validity else 0)) (has_bare 6 q.class x.authority) (has_bare 2 q.class x.authority))
      go qs false = ap (λ n. if x.code == 3 then n else s.misc_error_duration) (absent qs)

  validity_bare : (s : Settings) (x : Parts C) → validity_of_parts s (bare_parts x) ≡ validity_of_parts s x
  validity_bare s x = ap (λ n. if x.header.tc && not s.cache_truncated then 0 else n)
      (opt_bare (least (least (min s.max_validity (limit s (bare_parts x))) (map bare x.answer)) (map bare x.authority)) x.additional
      ∙ ap (λ n. least n (without_opt x.additional))
      (least_bare (least (min s.max_validity (limit s (bare_parts x))) (map bare x.answer)) x.authority
      ∙ ap (λ n. least n x.authority) (least_bare (min s.max_validity (limit s (bare_parts x))) x.answer ∙ ap (λ l. least (min s.max_validity l) x.answer) (limit_bare s x))))

  -- a view is bare as it is the view of what is

  signing_bare : (b : Bool) (xs : List (Item C)) → map bare (without_signing b xs) ≡ without_signing b (map bare xs)
  signing_bare b [] = refl
  signing_bare b (x ∷ xs) = go (b && is_signing x.rtype) (signing_bare b xs)
    where
      go : (z : Bool) → map bare (without_signing b xs) ≡ without_signing b (map bare xs)
          → map bare (if z then without_signing b xs else x ∷ without_signing b xs) ≡ (if z then without_signing b (map bare xs) else bare x ∷ without_signing b (map bare xs))
      go true i = i
      go false i = ap (λ t. bare x ∷ t) i

  lessened_bare : (n : ℕ) (xs : List (Item C)) → map bare (map (lessened n) xs) ≡ map (lessened n) (map bare xs)
  lessened_bare n [] = refl
  lessened_bare n (x ∷ xs) = ap (λ t. bare (lessened n x) ∷ t) (lessened_bare n xs)

  mostly_bare : (n : ℕ) (xs : List (Item C)) → map bare (map (mostly_lessened n) xs) ≡ map (mostly_lessened n) (map bare xs)
  mostly_bare n [] = refl
  mostly_bare n (x ∷ xs) = ap₂ (λ a t. a ∷ t) (go (x.rtype == 41)) (mostly_bare n xs)
    where
      go : (b : Bool) → bare (if b then x else lessened n x) ≡ (if b then bare x else lessened n (bare x))
      go true = refl
      go false = refl

  view_bare : (q k : Key) (name : Labels) (n : ℕ) (x : Parts C) → bare_parts (viewed q k name n x) ≡ viewed q k name n (bare_parts x)
  view_bare q k name n x = same (one x.answer) (one x.authority) (most x.additional)
    where
      one : (xs : List (Item C)) → map bare (map (lessened n) (without_signing (leaves_out q k) xs)) ≡ map (lessened n) (without_signing (leaves_out q k) (map bare xs))
      one xs = lessened_bare n (without_signing (leaves_out q k) xs) ∙ ap (map (lessened n)) (signing_bare (leaves_out q k) xs)

      most : (xs : List (Item C)) → map bare (map (mostly_lessened n) (without_signing (leaves_out q k) xs)) ≡ map (mostly_lessened n) (without_signing (leaves_out q k) (map bare xs))
      most xs = mostly_bare n (without_signing (leaves_out q k) xs) ∙ ap (map (mostly_lessened n)) (signing_bare (leaves_out q k) xs)

      same : {a1 a2 u1 u2 d1 d2 : List (Item (Unit {0}))} → a1 ≡ a2 → u1 ≡ u2 → d1 ≡ d2
          → Path (Parts (Unit {0})) (record (viewed q k name n (bare_parts x)) { answer = a1; authority = u1; additional = d1 }) (record (viewed q k name n (bare_parts x)) { answer = a2; authority = u2; additional = d2 })
      same a u d = cc

  view_validity_bare : (s : Settings) (q k : Key) (name : Labels) (n : ℕ) (x : Parts C) → validity_of_parts s (viewed q k name n x) ≡ validity_of_parts s (viewed q k name n (bare_parts x))
  view_validity_bare s q k name n x = sym (validity_bare s (viewed q k name n x)) ∙ ap (validity_of_parts s) (view_bare q k name n x)

one_read : (m : Octets) (x y : Parts Octets) → read_parts m ≡ Some x → read_parts m ≡ Some y → x ≡ y
one_read m x y p q = let both : Some x ≡ Some y = sym p ∙ q in cc

pub read_view_valid : (s : Settings) (q k : Key) (name : Labels) (n : ℕ) (m : Octets) (x : Parts Octets) (y : Parts Data) → read_parts m ≡ Some x → known_parts m ≡ Some y → validity_of_parts s (viewed q k name n x) ≡ validity_of_parts s (viewed q k name n y)
read_view_valid s q k name n m x y read known =
    let w = known_is_read m y known in
    ap (λ (z : Parts Octets). validity_of_parts s (viewed q k name n z)) (one_read m x w.0 read w.1)
    ∙ (view_validity_bare s q k name n w.0
    ∙ (ap (λ (z : Parts (Unit {0})). validity_of_parts s (viewed q k name n z)) w.2 ∙ sym (view_validity_bare s q k name n y)))
