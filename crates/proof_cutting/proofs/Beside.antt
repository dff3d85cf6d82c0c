-- Two clients side by side: the second has more octets at a place, and other outs before its own.
use Rattle.std.proofs.Common.{◌≡◌, ℕ, Bool, Option, Some, None, List, refl, sym, ap, subst}
use Rattle.std.specs.Prelude.{option_and_then}
use Rattle.client_request.specs.View.{View}
use Rattle.client_request.specs.declared.event.Out.{Out}
use Rattle.client_steps.specs.Client.{Asked, Client, client_of, settles, replies}
use Rattle.proof_cutting.specs.Pieces.{like, Both, Neither, Each}
use Rattle.proof_cutting.proofs.Replying.{replies_like}

module _ {U P : Type 0} where
  abbrev pub beside : (longer : U → U) (before : List Out) (more : Bool) (request : ℕ) → Client U P → Client U P
  beside longer before more request c = record { layer = longer c.layer; asked = c.asked; view = like before more request c.view }

  -- What two clients come to: neither comes to anything, or the second to one beside the first's. Each of them is known by something.
  pub data Meet (longer : U → U) (before : List Out) (First Second : Client U P → Type 0) : (first second : Option (Client U P)) → Type 0 where
    Nowhere : Meet longer before First Second None None
    There : (c : Client U P) (more : Bool) (request : ℕ) → First c → Second (beside longer before more request c) → Meet longer before First Second (Some c) (Some (beside longer before more request c))

  -- nothing is known
  abbrev pub Any : Client U P → Type 0
  Any c = Unit {0}

  module _ {longer : U → U} {before : List Out} {First Second : Client U P → Type 0} where
    -- what the first comes to
    pub first_is : {r r' : Option (Client U P)} (c : Client U P) → Meet longer before First Second r r' → r ≡ Some c → First c
    first_is c Nowhere e = absurd (cc)
    first_is c (There d more request f s) e = let is : d ≡ c = cc in subst First is f

    -- more is known of the second
    pub second_is : {Known : Client U P → Type 0} {r r' : Option (Client U P)} → Meet longer before First Second r r' → ((c : Client U P) → r' ≡ Some c → Known c) → Meet longer before First Known r r'
    second_is Nowhere f = Nowhere
    second_is (There c more request l s) f = There c more request l (f (beside longer before more request c) refl)

    pub first_less : {Known : Client U P → Type 0} {r r' : Option (Client U P)} → Meet longer before First Second r r' → ((c : Client U P) → First c → Known c) → Meet longer before Known Second r r'
    first_less Nowhere f = Nowhere
    first_less (There c more request l s) f = There c more request (f c l) s

    pub first_also : {Known : Client U P → Type 0} {r r' : Option (Client U P)} → Meet longer before First Second r r' → ((c : Client U P) → r ≡ Some c → Known c) → Meet longer before (λ c. First c × Known c) Second r r'
    first_also Nowhere f = Nowhere
    first_also (There c more request l s) f = There c more request (l, f c refl) s

    -- Both come to the same client: its layer is then as the second's.
    pub same_layer : {r r' : Option (Client U P)} (c : Client U P) → Meet longer before First Second r r' → r ≡ Some c → r' ≡ Some c → longer c.layer ≡ c.layer
    same_layer c Nowhere e f = absurd (cc)
    same_layer c (There d more request l s) e f =
        let is : d ≡ c = cc in
        let like_is : beside longer before more request d ≡ c = cc in
        subst (λ (d : Client U P). longer d.layer ≡ c.layer) is (ap (λ (x : Client U P). x.layer) like_is)

    pub same_meet : {r r' s s' : Option (Client U P)} → r ≡ s → r' ≡ s' → Meet longer before First Second s s' → Meet longer before First Second r r'
    same_meet {r} {r'} {s} {s'} e e' b = subst (λ r. Meet longer before First Second r r') (sym e) (subst (λ r'. Meet longer before First Second s r') (sym e') b)

    -- one step behind another
    pub then_meet : {First' Second' : Client U P → Type 0} {r r' : Option (Client U P)} (k k' : Client U P → Option (Client U P)) → Meet longer before First Second r r'
        → ((c : Client U P) (more : Bool) (request : ℕ) → First c → Second (beside longer before more request c) → Meet longer before First' Second' (k c) (k' (beside longer before more request c)))
        → Meet longer before First' Second' (option_and_then k r) (option_and_then k' r')
    then_meet k k' Nowhere h = Nowhere
    then_meet k k' (There c more request f s) h = h c more request f s

    -- what follows is the same
    pub meet_same : {A : Type 0} {r r' : Option (Client U P)} (k k' : Client U P → Option A) → Meet longer before First Second r r'
        → ((c : Client U P) (more : Bool) (request : ℕ) → First c → Second (beside longer before more request c) → k' (beside longer before more request c) ≡ k c)
        → option_and_then k' r' ≡ option_and_then k r
    meet_same k k' Nowhere h = refl
    meet_same k k' (There c more request f s) h = h c more request f s

  -- calls that agree, and their replies
  pub settled : {longer : U → U} {before : List Out} {Leaves : U → View → Type 0} {First : Client U P → Type 0} {r r' : Option (U × View)} (a : Asked P) → Both longer before Leaves r r'
      → ((u : U) (v : View) → Leaves u v → First (client_of u (replies (a, v)))) → Meet longer before First Any (settles a r) (settles a r')
  settled a Neither f = Nowhere
  settled {longer} {before} {Leaves} {First} a (Each u v more request l) f =
      subst (λ (x : Asked P × View). Meet longer before First Any (Some (client_of u (replies (a, v)))) (Some (client_of (longer u) x))) (sym (replies_like before more request (a, v)))
      (There (client_of u (replies (a, v))) more request (f u v l) tt)

  -- calls that agree, where nothing is posted
  pub unposted : {longer : U → U} {before : List Out} {Leaves : U → View → Type 0} {First : Client U P → Type 0} {r r' : Option (U × View)} (a : Asked P) → Both longer before Leaves r r'
      → ((u : U) (v : View) → Leaves u v → First (client_of u (a, v))) → Meet longer before First Any (option_and_then (λ x. Some (client_of x.0 (a, x.1))) r) (option_and_then (λ x. Some (client_of x.0 (a, x.1))) r')
  unposted a Neither f = Nowhere
  unposted a (Each u v more request l) f = There (client_of u (a, v)) more request (f u v l) tt
