-- The questions that a resolver was asked, and the count of its faults.
use Rattle.std.specs.Prelude.{◌≡◌, ◌≢◌, ◌⊎◌, ℕ, List, [], ◌∷◌, ◌++◌, Option, Result, Ok, Err, option_map}
use Rattle.dns_names.specs.Name.{Labels}
use Rattle.dns_values.specs.Source.{Rose}
use Rattle.client_request.specs.declared.error.Error.TheVariants as errors
use Rattle.resolv_lookup.specs.declared.fault.QueryFault.{QueryFault}
use Rattle.resolv_lookup.specs.declared.fault.QueryFault.TheVariants.{Client}
use Rattle.resolv_lookup.specs.declared.resolver.Asking.{Asking}

-- what a question got: the octets of a message, or a fault
abbrev pub Got : Type 0
Got = Result (List ℕ) QueryFault

-- a question that was asked for a type's records of a name, and what it got
abbrev pub asking : Labels → ℕ → Got → Asking
asking name rtype got = record { name = name; rtype = record { 0 = rtype }; got = got }

-- the octets of an answer, if there is one
abbrev pub octets_in : {A : Type 0} → (A → List ℕ) → Result A QueryFault → Got
octets_in octets_of (Ok answer) = Ok (octets_of answer)
octets_in octets_of (Err fault) = Err fault

-- memory ran out before an answer came
abbrev pub out_of_memory : QueryFault
out_of_memory = Client errors.NoMemory

-- the list that is told, with one question more at its end
abbrev pub told_on : Asking → Option (List Asking) → Option (List Asking)
told_on one told = option_map (λ before. before ++ one ∷ []) told

-- The question is told behind those before; one that found no memory may be left out.
abbrev pub IsTold : Asking → Option (List Asking) → Option (List Asking) → Type 0
IsTold one old new = (new ≡ told_on one old) ⊎ ((one.got ≡ Err out_of_memory) × (new ≡ old))

-- A question was asked of a resolver: this is what the resolver says of such a call, and the question is told.
abbrev pub Asks : {R : Type 0} → (R → Asking → R → Type 0) → (R → Option (List Asking)) → R → Asking → R → Type 0
Asks says asked old one new = says old one new × IsTold one (asked old) (asked new)

-- These questions were asked, one after another, and no other.
abbrev pub AreAsked : {R : Type 0} → (R → Asking → R → Type 0) → List Asking → R → R → Type 0
AreAsked asks [] old new = new ≡ old
AreAsked {R} asks (one ∷ others) old new = (between : R) × asks old one between × AreAsked asks others between new

-- These two questions are told in order, each as one is.
abbrev pub AreTold : (one other : Asking) → Option (List Asking) → Option (List Asking) → Type 0
AreTold one other old new = (between : Option (List Asking)) × IsTold one old between × IsTold other between new

-- Two questions were asked of a resolver: one after the other, or side by side, where this is what the resolver says of such a call. They are told in order.
pub data AsksBoth {R : Type 0} (says : R → Asking → R → Type 0) (together : R → Asking → Asking → R → Type 0) (asked : R → Option (List Asking)) (old : R) (one other : Asking) (new : R) : Type 0 where
  in_turn : AreAsked (Asks says asked) (one ∷ other ∷ []) old new → AsksBoth says together asked old one other new
  side_by_side : together old one other new → AreTold one other (asked old) (asked new) → AsksBoth says together asked old one other new

-- The count rose with the fault; of want of memory it need not.
abbrev pub IsCounted : ℕ → ℕ → QueryFault → Type 0
IsCounted old new fault = fault ≢ out_of_memory → Rose old new
