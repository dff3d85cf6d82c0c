-- The data of a record in its parts, by which data of two records is compared.
use Rattle.std.specs.Prelude.{ℕ, Bool, true, false, ◌&&◌, ◌==◌, List, [], ◌∷◌, Option, Some, None, option_map}
use Rattle.std.specs.Cmp.Lexicographic.{pointwise}
use Rattle.dns_names.specs.Name.{Labels, lowered, same_name}
use Rattle.dns_base.specs.Data.{Data, A, Aaaa, One, Minfo, Mx, StartOfAuthority, Service, Named, Txt, Opt, Other}

-- the numbers stand in the order of the data, five with zeros behind them; a name that the data has not is none
pub record Shape : Type 0 where
  pub kind : ℕ
  pub octets : List ℕ
  pub behind : List ℕ
  pub numbers : List ℕ
  pub first : Option Labels
  pub second : Option Labels

abbrev pub five : (a b c d e : ℕ) → List ℕ
five a b c d e = a ∷ b ∷ c ∷ d ∷ e ∷ []

-- kinds are numbered from 0; octets behind names stand apart from those before them
abbrev pub shape_of : Data → Shape
shape_of (A octets) = record { kind = 0; octets = octets; behind = []; numbers = five 0 0 0 0 0; first = None; second = None }
shape_of (Aaaa octets) = record { kind = 1; octets = octets; behind = []; numbers = five 0 0 0 0 0; first = None; second = None }
shape_of (One rtype name) = record { kind = 2; octets = []; behind = []; numbers = five rtype 0 0 0 0; first = Some name; second = None }
shape_of (Minfo first second) = record { kind = 3; octets = []; behind = []; numbers = five 0 0 0 0 0; first = Some first; second = Some second }
shape_of (Mx preference name) = record { kind = 4; octets = []; behind = []; numbers = five preference 0 0 0 0; first = Some name; second = None }
shape_of (StartOfAuthority soa) = record { kind = 5; octets = []; behind = []; numbers = five soa.serial soa.refresh soa.retry soa.expire soa.minimum; first = Some soa.mname; second = Some soa.rname }
shape_of (Service srv) = record { kind = 6; octets = []; behind = []; numbers = five srv.priority srv.weight srv.port 0 0; first = Some srv.target; second = None }
shape_of (Txt octets) = record { kind = 7; octets = octets; behind = []; numbers = five 0 0 0 0 0; first = None; second = None }
shape_of (Opt octets) = record { kind = 8; octets = octets; behind = []; numbers = five 0 0 0 0 0; first = None; second = None }
shape_of (Named it) = record { kind = 10; octets = it.before; behind = it.behind; numbers = five 0 0 0 0 0; first = Some it.first; second = it.second }
shape_of (Other octets) = record { kind = 9; octets = octets; behind = []; numbers = five 0 0 0 0 0; first = None; second = None }

abbrev pub same_octets : List ℕ → List ℕ → Bool
same_octets = pointwise ◌==◌

-- both have that name, but for case, or neither has one
abbrev pub same_found : Option Labels → Option Labels → Bool
same_found (Some a) (Some b) = same_name a b
same_found None None = true
same_found (Some a) None = false
same_found None (Some b) = false

-- equal but for the case of names
abbrev pub same_shape : Shape → Shape → Bool
same_shape a b =
    (a.kind == b.kind)
    && (same_octets a.octets b.octets && (same_octets a.behind b.behind && (same_octets a.numbers b.numbers && (same_found a.first b.first && same_found a.second b.second))))

-- the octets of data that has no name, whatever they say
abbrev pub plain_octets : Data → Option (List ℕ)
plain_octets (Txt octets) = Some octets
plain_octets (Opt octets) = Some octets
plain_octets (Other octets) = Some octets
plain_octets _ = None
