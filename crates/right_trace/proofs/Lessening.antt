-- No view lessens a TTL below 0: its validity is at most every TTL that is lessened.
use Rattle.std.proofs.Common.{◌≡◌, ℕ, ◌*◌, ◌≤◌, Bool, true, false, inl, inr, List, [], ◌∷◌, arith, ◌∙◌, ap, subst, ◌==◌, ◌&&◌}
use Rattle.std.specs.Prelude.{if◌then◌else◌, not, map, ◌-◌, ◌/◌, min}
use Rattle.std.proofs.Math.Nat.{mul_comm, div-le_of_le-mul}
use Rattle.client_request.specs.Request.{Request}
use Rattle.right_trace.specs.Parts.{Item, Parts, IsIn}
use Rattle.right_trace.specs.Settings.{Settings}
use Rattle.right_trace.specs.Keys.{key_of, spelled_name}
use Rattle.right_trace.specs.Validity.{second, least, without_opt, limit}
use Rattle.right_trace.specs.Views.{IsLessened, OfAnswer, OfAuthority, OfAdditional, leaves_out, lessened, mostly_lessened, without_signing, viewed, view_validity}

age_in_seconds : (age ttl : ℕ) → age ≤ ttl * second → age / second ≤ ttl
age_in_seconds age ttl le = div-le_of_le-mul second (subst (λ n. age ≤ n) (mul_comm ttl second) le)

module _ {C : Type 0} where
  least_first : (n : ℕ) (xs : List (Item C)) → least n xs ≤ n
  least_first n [] = omega arith
  least_first n (x ∷ xs) = (let i = least_first (min n (x.ttl * second)) xs in let m : min n (x.ttl * second) ≤ n = omega arith in omega arith)

  least_all : (n : ℕ) (xs : List (Item C)) (x : Item C) → IsIn x xs → least n xs ≤ x.ttl * second
  least_all n [] x i = absurd i
  least_all n (y ∷ ys) x i = elim i [
    | inl e ↦ (let f = least_first (min n (y.ttl * second)) ys in let m : min n (y.ttl * second) ≤ y.ttl * second = lower n (y.ttl * second) in let z : y.ttl * second ≡ x.ttl * second = ap (λ (v : Item C). v.ttl * second) e in omega arith)
    | inr j ↦ least_all (min n (y.ttl * second)) ys x j
  ]
    where
      lower : (n m : ℕ) → min n m ≤ m
      lower n m = omega arith

  mapped : (f : Item C → Item C) (x : Item C) (xs : List (Item C)) → IsIn x xs → IsIn (f x) (map f xs)
  mapped f x [] i = absurd i
  mapped f x (y ∷ ys) i = elim i [ inl e ↦ inl (ap f e) | inr j ↦ inr (mapped f x ys j) ]

  not_opt : (x : Item C) (xs : List (Item C)) → (x.rtype == 41) ≡ false → IsIn x xs → IsIn x (without_opt xs)
  not_opt x [] n i = absurd i
  not_opt x (y ∷ ys) n i = elim i [
    | inl e ↦ here (y.rtype == 41) (ap (λ (v : Item C). v.rtype == 41) e ∙ n) e
    | inr j ↦ there (y.rtype == 41) (not_opt x ys n j)
  ]
    where
      here : (b : Bool) → b ≡ false → y ≡ x → IsIn x (if b then without_opt ys else y ∷ without_opt ys)
      here true q e = absurd (cc)
      here false q e = inl e

      there : (b : Bool) → IsIn x (without_opt ys) → IsIn x (if b then without_opt ys else y ∷ without_opt ys)
      there true j = j
      there false j = inr j

  pub lessened_in_time : (s : Settings) (q r : Request) (x : Parts C) (age : ℕ) (y : Item C) → age ≤ view_validity s q r x → IsLessened q r x y → age / second ≤ y.ttl
  lessened_in_time s q r x age y le is = age_in_seconds age y.ttl (go (x.header.tc && not s.cache_truncated) le)
    where
      b : Bool
      b = leaves_out (key_of q) (key_of r)

      a : List (Item C)
      a = map (lessened 0) (without_signing b x.answer)

      u : List (Item C)
      u = map (lessened 0) (without_signing b x.authority)

      d : List (Item C)
      d = map (mostly_lessened 0) (without_signing b x.additional)

      n : ℕ
      n = min s.max_validity (limit s (viewed (key_of q) (key_of r) (spelled_name r) 0 x))

      none : (t : ℕ) → t - 0 ≡ t
      none t = omega arith

      kept : (y : Item C) → (y.rtype == 41) ≡ false → mostly_lessened 0 y ≡ lessened 0 y
      kept y e = ap (λ b. if b then y else lessened 0 y) e

      bound : IsLessened q r x y → least (least (least n a) u) (without_opt d) ≤ y.ttl * second
      bound (OfAnswer i) =
          let p = least_first (least (least n a) u) (without_opt d) in
          let o = least_first (least n a) u in
          let l = least_all n a (lessened 0 y) (mapped (lessened 0) y (without_signing b x.answer) i) in
          let z : (y.ttl - 0) * second ≡ y.ttl * second = ap (λ t. t * second) (none y.ttl) in
          omega arith
      bound (OfAuthority i) =
          let p = least_first (least (least n a) u) (without_opt d) in
          let l = least_all (least n a) u (lessened 0 y) (mapped (lessened 0) y (without_signing b x.authority) i) in
          let z : (y.ttl - 0) * second ≡ y.ttl * second = ap (λ t. t * second) (none y.ttl) in
          omega arith
      bound (OfAdditional i e) =
          let j : IsIn (lessened 0 y) d = subst (λ v. IsIn v d) (kept y e) (mapped (mostly_lessened 0) y (without_signing b x.additional) i) in
          let l = least_all (least (least n a) u) (without_opt d) (lessened 0 y) (not_opt (lessened 0 y) d e j) in
          let z : (y.ttl - 0) * second ≡ y.ttl * second = ap (λ t. t * second) (none y.ttl) in
          omega arith

      go : (c : Bool) → age ≤ (if c then 0 else least (least (least n a) u) (without_opt d)) → age ≤ y.ttl * second
      go true l = omega arith
      go false l = (let k = bound is in omega arith)
