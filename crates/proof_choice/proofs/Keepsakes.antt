-- The best of the results that were kept back, with one more.
use Rattle.std.proofs.Common.{◌≡◌, ℕ, ◌⊎◌, inl, inr, if◌then◌else◌, List, [], ◌∷◌, ◌++◌, Option, Some, None, Result, Ok, Err, refl, sym, ap, subst, subst₂, ◌∙◌}
use Rattle.std.specs.Prelude.{option_map}
use Rattle.client_request.specs.Board.{Part}
use Rattle.client_request.specs.declared.error.Error.{Error}
use Rattle.client_choice.specs.Choice.{is_better}
use Rattle.right_trace.specs.Messages.{Octets}
use Rattle.proof_right.specs.machine.Client.{Given, first_message, first_result, or_else, best}
use Rattle.proof_parts.specs.Chains.{part_of}

abbrev message_or : Result Octets Error → Option (Result Octets Error) → Option (Result Octets Error)
message_or (Ok m) o = Some (Ok m)
message_or (Err e) o = o

first_cons : (g : Given) (gs : List Given) → first_message (g ∷ gs) ≡ message_or g.result (first_message gs)
first_cons g gs = by g.server g.result
  where
    by : (s : ℕ) (r : Result Octets Error) → first_message (record { server = s; result = r } ∷ gs) ≡ message_or r (first_message gs)
    by s (Ok m) = refl
    by s (Err e) = refl

message_at_end : (gs : List Given) (x : Given) → first_message (gs ++ x ∷ []) ≡ or_else (first_message gs) (message_or x.result None)
message_at_end [] x = first_cons x []
message_at_end (g ∷ gs) x = first_cons g (gs ++ x ∷ []) ∙ (by g.result (message_at_end gs x) ∙ ap (λ o. or_else o (message_or x.result None)) (sym (first_cons g gs)))
  where
    by : (r : Result Octets Error) → first_message (gs ++ x ∷ []) ≡ or_else (first_message gs) (message_or x.result None) → message_or r (first_message (gs ++ x ∷ [])) ≡ or_else (message_or r (first_message gs)) (message_or x.result None)
    by (Ok m) ih = refl
    by (Err e) ih = ih

result_at_end : (gs : List Given) (x : Given) → first_result (gs ++ x ∷ []) ≡ or_else (first_result gs) (Some x.result)
result_at_end [] x = refl
result_at_end (g ∷ gs) x = refl

-- a message is the first one, or all are errors
kinds : (gs : List Given) → ((m : Octets) × (first_message gs ≡ Some (Ok m))) ⊎ ((first_message gs ≡ None) × ((first_result gs ≡ None) ⊎ ((e : Error) × (first_result gs ≡ Some (Err e)))))
kinds [] = inr (refl, inl refl)
kinds (g ∷ gs) = subst (λ o. ((m : Octets) × (o ≡ Some (Ok m))) ⊎ ((o ≡ None) × ((Some g.result ≡ None) ⊎ ((e : Error) × (Some g.result ≡ Some (Err e)))))) (sym (first_cons g gs)) (by g.result (kinds gs))
  where
    by : (r : Result Octets Error) → ((m : Octets) × (first_message gs ≡ Some (Ok m))) ⊎ ((first_message gs ≡ None) × ((first_result gs ≡ None) ⊎ ((e : Error) × (first_result gs ≡ Some (Err e)))))
        → ((m : Octets) × (message_or r (first_message gs) ≡ Some (Ok m))) ⊎ ((message_or r (first_message gs) ≡ None) × ((Some r ≡ None) ⊎ ((e : Error) × (Some r ≡ Some (Err e)))))
    by (Ok m) ih = inl (m, refl)
    by (Err e) ih = elim ih [ inl p ↦ inl p | inr p ↦ inr (p.0, inr (e, refl)) ]

-- the choice takes the better of two, the machine the best of all
pub best_with : (gs : List Given) (x : Given) (d : Option Part) → d ≡ option_map part_of (best gs) → (if is_better d (part_of x.result) then Some (part_of x.result) else d) ≡ option_map part_of (best (gs ++ x ∷ []))
best_with gs x d is =
    subst (λ d. (if is_better d (part_of x.result) then Some (part_of x.result) else d) ≡ option_map part_of (best (gs ++ x ∷ []))) (sym is)
    (subst₂ (λ a b. (if is_better (option_map part_of (best gs)) (part_of x.result) then Some (part_of x.result) else option_map part_of (best gs)) ≡ option_map part_of (or_else a b)) (sym (message_at_end gs x)) (sym (result_at_end gs x))
    (by (first_message gs) (first_result gs) (kinds gs)))
  where
    by : (a b : Option (Result Octets Error)) → ((m : Octets) × (a ≡ Some (Ok m))) ⊎ ((a ≡ None) × ((b ≡ None) ⊎ ((e : Error) × (b ≡ Some (Err e)))))
        → (if is_better (option_map part_of (or_else a b)) (part_of x.result) then Some (part_of x.result) else option_map part_of (or_else a b)) ≡ option_map part_of (or_else (or_else a (message_or x.result None)) (or_else b (Some x.result)))
    by a b (inl p) = subst (λ a. (if is_better (option_map part_of (or_else a b)) (part_of x.result) then Some (part_of x.result) else option_map part_of (or_else a b)) ≡ option_map part_of (or_else (or_else a (message_or x.result None)) (or_else b (Some x.result)))) (sym p.1) refl
    by a b (inr p) = subst (λ a. (if is_better (option_map part_of (or_else a b)) (part_of x.result) then Some (part_of x.result) else option_map part_of (or_else a b)) ≡ option_map part_of (or_else (or_else a (message_or x.result None)) (or_else b (Some x.result)))) (sym p.0)
        (errors b p.1 x.result)
      where
        errors : (b : Option (Result Octets Error)) → ((b ≡ None) ⊎ ((e : Error) × (b ≡ Some (Err e)))) → (r : Result Octets Error)
            → (if is_better (option_map part_of b) (part_of r) then Some (part_of r) else option_map part_of b) ≡ option_map part_of (or_else (message_or r None) (or_else b (Some r)))
        errors b (inl q) (Ok m) = subst (λ b. (if is_better (option_map part_of b) (part_of (Ok m)) then Some (part_of (Ok m)) else option_map part_of b) ≡ option_map part_of (or_else (message_or (Ok m) None) (or_else b (Some (Ok m))))) (sym q) refl
        errors b (inl q) (Err f) = subst (λ b. (if is_better (option_map part_of b) (part_of (Err f)) then Some (part_of (Err f)) else option_map part_of b) ≡ option_map part_of (or_else (message_or (Err f) None) (or_else b (Some (Err f))))) (sym q) refl
        errors b (inr q) (Ok m) = subst (λ b. (if is_better (option_map part_of b) (part_of (Ok m)) then Some (part_of (Ok m)) else option_map part_of b) ≡ option_map part_of (or_else (message_or (Ok m) None) (or_else b (Some (Ok m))))) (sym q.1) refl
        errors b (inr q) (Err f) = subst (λ b. (if is_better (option_map part_of b) (part_of (Err f)) then Some (part_of (Err f)) else option_map part_of b) ≡ option_map part_of (or_else (message_or (Err f) None) (or_else b (Some (Err f))))) (sym q.1) refl

-- one that is put off is kept, or a better one was
pub some_with : (d : Option Part) (part : Part) → (p : Part) × ((if is_better d part then Some part else d) ≡ Some p)
some_with None part = (part, refl)
some_with (Some (Ok m)) part = (Ok m, refl)
some_with (Some (Err e)) (Ok m) = (Ok m, refl)
some_with (Some (Err e)) (Err f) = (Err e, refl)
