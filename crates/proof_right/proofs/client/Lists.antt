-- Lists that grow at the end and lose one.
use Rattle.std.proofs.Common.{◌≡◌, ℕ, Bool, true, false, ◌⊎◌, inl, inr, List, [], ◌∷◌, ◌++◌, refl, sym, ◌∙◌, ap}
use Rattle.std.specs.Prelude.{map, Option, Some, None, Result, Ok, Err}
use Rattle.proof_right.specs.machine.Part.{Post, IsPosted}
use Rattle.proof_right.specs.machine.Client.{Posted, Given, Leaving, tag, best, first_message, first_result, or_else}
use Rattle.right_trace.specs.Parts.{IsIn}
use Rattle.client_request.specs.declared.error.Error.{Error}
use Rattle.right_trace.specs.Messages.{Octets}
use Rattle.proof_right.proofs.client.Kept.{Leaves, AllDiffer}

pub decide : (b : Bool) → (b ≡ true) ⊎ (b ≡ false)
decide true = inl refl
decide false = inr refl

module _ {A : Type 0} where
  pub in_left : (x : A) (xs ys : List A) → IsIn x xs → IsIn x (xs ++ ys)
  in_left x [] ys i = absurd i
  in_left x (y ∷ xs) ys i = elim i [ inl e ↦ inl e | inr j ↦ inr (in_left x xs ys j) ]

  pub in_right : (x : A) (xs ys : List A) → IsIn x ys → IsIn x (xs ++ ys)
  in_right x [] ys i = i
  in_right x (y ∷ xs) ys i = inr (in_right x xs ys i)

  pub in_either : (x : A) (xs ys : List A) → IsIn x (xs ++ ys) → IsIn x xs ⊎ IsIn x ys
  in_either x [] ys i = inr i
  in_either x (y ∷ xs) ys i = elim i [ inl e ↦ inl (inl e) | inr j ↦ elim (in_either x xs ys j) [ inl a ↦ inl (inr a) | inr b ↦ inr b ] ]

  pub in_here : (x : A) (xs ys : List A) → IsIn x (xs ++ x ∷ ys)
  in_here x xs ys = in_right x xs (x ∷ ys) (inl refl)

  pub in_more : (x y : A) (xs ys : List A) → IsIn x (xs ++ ys) → IsIn x (xs ++ y ∷ ys)
  in_more x y xs ys i = elim (in_either x xs ys i) [ inl a ↦ in_left x xs (y ∷ ys) a | inr b ↦ in_right x xs (y ∷ ys) (inr b) ]

  pub in_but : (x y : A) (xs ys : List A) → IsIn x (xs ++ y ∷ ys) → (y ≡ x) ⊎ IsIn x (xs ++ ys)
  in_but x y xs ys i = elim (in_either x xs (y ∷ ys) i) [ inl a ↦ inr (in_left x xs ys a) | inr b ↦ elim b [ inl e ↦ inl e | inr j ↦ inr (in_right x xs ys j) ] ]

pub in_tagged : (s : ℕ) (z : Posted) (xs : List Post) → IsIn z (map (tag s) xs) → (x : Post) × IsPosted x xs × (tag s x ≡ z)
in_tagged s z [] i = absurd i
in_tagged s z (x ∷ xs) i = elim i [ inl e ↦ (x, inl refl, e) | inr j ↦ (let r = in_tagged s z xs j in (r.0, inr r.1, r.2)) ]

pub tagged_in : (s : ℕ) (x : Post) (xs : List Post) → IsPosted x xs → IsIn (tag s x) (map (tag s) xs)
tagged_in s x [] i = absurd i
tagged_in s x (y ∷ xs) i = elim i [ inl e ↦ inl (ap (tag s) e) | inr j ↦ inr (tagged_in s x xs j) ]

-- those that leave

pub leaves_left : (k : ℕ) (xs ys : List Leaving) → Leaves k xs → Leaves k (xs ++ ys)
leaves_left k xs ys l = (l.0, in_left (l.0) xs ys l.1, l.2)

pub leaves_last : (x : Leaving) (xs : List Leaving) → Leaves x.request (xs ++ x ∷ [])
leaves_last x xs = (x, in_right x xs (x ∷ []) (inl refl), refl)

pub leaves_either : (k : ℕ) (x : Leaving) (xs : List Leaving) → Leaves k (xs ++ x ∷ []) → Leaves k xs ⊎ (x.request ≡ k)
leaves_either k x xs l = elim (in_either (l.0) xs (x ∷ []) l.1) [ inl i ↦ inl (l.0, i, l.2) | inr j ↦ elim j [ inl e ↦ inr (ap (λ (y : Leaving). y.request) e ∙ l.2) | inr z ↦ absurd z ] ]

pub differ_last : (x : Leaving) (xs : List Leaving) → AllDiffer xs → (Leaves x.request xs → ⊥) → AllDiffer (xs ++ x ∷ [])
differ_last x [] d n = (λ l. l.1, tt)
differ_last x (y ∷ xs) d n = (
  λ l. elim (leaves_either y.request x xs l) [ inl a ↦ d.0 a | inr e ↦ n (y, inl refl, sym e) ],
  differ_last x xs d.1 (λ l. n (l.0, inr l.1, l.2)),
)

pub differ_but : (x : Leaving) (xs ys : List Leaving) → AllDiffer (xs ++ x ∷ ys) → AllDiffer (xs ++ ys) × (Leaves x.request (xs ++ ys) → ⊥)
differ_but x [] ys d = (d.1, d.0)
differ_but x (y ∷ xs) ys d =
    let r = differ_but x xs ys d.1 in
    ((λ l. d.0 (l.0, in_more (l.0) x xs ys l.1, l.2), r.0), λ l. elim l.1 [ inl e ↦ d.0 (x, in_here x xs ys, sym (ap (λ (z : Leaving). z.request) e ∙ l.2)) | inr j ↦ r.1 (l.0, j, l.2) ])

-- the first message of a longer list

-- one that is put in the place of another of the same request
pub leaves_swap : (k : ℕ) (y z : Leaving) → y.request ≡ z.request → (xs ys : List Leaving) → Leaves k (xs ++ y ∷ ys) → Leaves k (xs ++ z ∷ ys)
leaves_swap k y z same xs ys l = elim (in_but (l.0) y xs ys l.1) [ inl is ↦ (z, in_here z xs ys, sym same ∙ (ap (λ (x : Leaving). x.request) is ∙ l.2)) | inr n ↦ (l.0, in_more (l.0) z xs ys n, l.2) ]

pub differ_swap : (y z : Leaving) → y.request ≡ z.request → (xs ys : List Leaving) → AllDiffer (xs ++ y ∷ ys) → AllDiffer (xs ++ z ∷ ys)
differ_swap y z same [] ys d = (λ l. d.0 (l.0, l.1, l.2 ∙ sym same), d.1)
differ_swap y z same (x ∷ xs) ys d = (λ l. d.0 (leaves_swap x.request z y (sym same) xs ys l), differ_swap y z same xs ys d.1)

pub first_none : (xs ys : List Given) → first_message (xs ++ ys) ≡ None → first_message xs ≡ None
first_none [] ys e = refl
first_none (x ∷ xs) ys e = go x.result e (first_none xs ys)
  where
    go : (v : Result Octets Error) → elim v as (λ z. Option (Result Octets Error)) [ Ok m ↦ Some (Ok m) | Err q ↦ first_message (xs ++ ys) ] ≡ None → (first_message (xs ++ ys) ≡ None → first_message xs ≡ None) → elim v as (λ z. Option (Result Octets Error)) [ Ok m ↦ Some (Ok m) | Err q ↦ first_message xs ] ≡ None
    go (Ok m) e ih = absurd (cc)
    go (Err q) e ih = ih e

pub first_last : (xs : List Given) (g : Given) (v : Result Octets Error) → first_message (xs ++ g ∷ []) ≡ Some v → (first_message xs ≡ Some v) ⊎ ((first_message xs ≡ None) × (g.result ≡ v))
first_last [] g v e = go g.result refl e
  where
    go : (r : Result Octets Error) → g.result ≡ r → elim r as (λ z. Option (Result Octets Error)) [ Ok m ↦ Some (Ok m) | Err q ↦ None ] ≡ Some v → (None ≡ Some v) ⊎ ((first_message [] ≡ None) × (g.result ≡ v))
    go (Ok m) q e = inr (refl, q ∙ (let z : Path (Result Octets Error) (Ok m) v = cc in z))
    go (Err x) q e = absurd (cc)
first_last (x ∷ xs) g v e = go x.result e (first_last xs g v)
  where
    go : (r : Result Octets Error) → elim r as (λ z. Option (Result Octets Error)) [ Ok m ↦ Some (Ok m) | Err q ↦ first_message (xs ++ g ∷ []) ] ≡ Some v → (first_message (xs ++ g ∷ []) ≡ Some v → (first_message xs ≡ Some v) ⊎ ((first_message xs ≡ None) × (g.result ≡ v)))
        → (elim r as (λ z. Option (Result Octets Error)) [ Ok m ↦ Some (Ok m) | Err q ↦ first_message xs ] ≡ Some v) ⊎ ((elim r as (λ z. Option (Result Octets Error)) [ Ok m ↦ Some (Ok m) | Err q ↦ first_message xs ] ≡ None) × (g.result ≡ v))
    go (Ok m) e ih = inl e
    go (Err q) e ih = ih e

pub first_here : (xs : List Given) (g : Given) (m : Octets) → g.result ≡ Ok m → first_message (xs ++ g ∷ []) ≡ None → ⊥
first_here [] g m e n = go g.result e n
  where
    go : (r : Result Octets Error) → r ≡ Ok m → elim r as (λ z. Option (Result Octets Error)) [ Ok m ↦ Some (Ok m) | Err q ↦ None ] ≡ None → ⊥
    go (Ok q) e n = absurd (cc)
    go (Err q) e n = absurd (cc)
first_here (x ∷ xs) g m e n = go x.result n (first_here xs g m e)
  where
    go : (r : Result Octets Error) → elim r as (λ z. Option (Result Octets Error)) [ Ok m ↦ Some (Ok m) | Err q ↦ first_message (xs ++ g ∷ []) ] ≡ None → (first_message (xs ++ g ∷ []) ≡ None → ⊥) → ⊥
    go (Ok q) n ih = absurd (cc)
    go (Err q) n ih = ih n

-- the first message is one
pub first_ok : (xs : List Given) (e : Error) → first_message xs ≡ Some (Err e) → ⊥
first_ok [] e q = absurd (cc)
first_ok (x ∷ xs) e q = go x.result q (first_ok xs e)
  where
    go : (r : Result Octets Error) → elim r as (λ z. Option (Result Octets Error)) [ Ok m ↦ Some (Ok m) | Err q ↦ first_message xs ] ≡ Some (Err e) → (first_message xs ≡ Some (Err e) → ⊥) → ⊥
    go (Ok m) q ih = absurd (let z : Path (Result Octets Error) (Ok m) (Err e) = cc in cc)
    go (Err x) q ih = ih q

-- the best is the first message, or an error where there is none
pub best_message : (xs : List Given) (m : Octets) → best xs ≡ Some (Ok m) → (first_message xs ≡ Some (Ok m)) ⊎ (first_message xs ≡ None)
best_message xs m e = go (first_message xs) refl e
  where
    go : (o : Option (Result Octets Error)) → first_message xs ≡ o → or_else o (first_result xs) ≡ Some (Ok m) → (first_message xs ≡ Some (Ok m)) ⊎ (first_message xs ≡ None)
    go (Some v) q e = inl (q ∙ e)
    go None q e = inr q

pub no_message : (xs : List Given) (g : Given) (m : Octets) → IsIn g xs → g.result ≡ Ok m → first_message xs ≡ None → ⊥
no_message [] g m i e n = absurd i
no_message (x ∷ xs) g m i e n = elim i [ inl same ↦ here x.result (ap (λ (z : Given). z.result) same ∙ e) n | inr j ↦ there x.result n (no_message xs g m j e) ]
  where
    here : (r : Result Octets Error) → r ≡ Ok m → elim r as (λ z. Option (Result Octets Error)) [ Ok m ↦ Some (Ok m) | Err q ↦ first_message xs ] ≡ None → ⊥
    here (Ok q) e n = absurd (cc)
    here (Err q) e n = absurd (cc)

    there : (r : Result Octets Error) → elim r as (λ z. Option (Result Octets Error)) [ Ok m ↦ Some (Ok m) | Err q ↦ first_message xs ] ≡ None → (first_message xs ≡ None → ⊥) → ⊥
    there (Ok q) n ih = absurd (cc)
    there (Err q) n ih = ih n

pub best_error : (xs : List Given) (x : Error) → best xs ≡ Some (Err x) → first_message xs ≡ None
best_error xs x e = go (first_message xs) refl e
  where
    go : (o : Option (Result Octets Error)) → first_message xs ≡ o → or_else o (first_result xs) ≡ Some (Err x) → first_message xs ≡ None
    go (Some v) q e = absurd (first_ok xs x (q ∙ e))
    go None q e = q
