-- Data says the same where its parts are the same.
use Rattle.std.proofs.Common.{◌≡◌, ℕ, zero, suc, Bool, true, false, ◌&&◌, ◌==◌, List, [], ◌∷◌, refl, sym, ap, ◌∙◌, slice_index}
use Rattle.std.specs.Prelude.{Option, Some, None, option_map}
use Rattle.dns_names.specs.Name.{Labels, lowered}
use Rattle.dns_base.specs.Data.{Data, A, Aaaa, One, Minfo, Mx, StartOfAuthority, Service, Named, Txt, Opt, Other}
use Rattle.dns_base.specs.Knowing.{lowered_data}
use Rattle.message_judging.specs.matching.Shapes.{Shape, shape_of, same_octets, same_found, same_shape}
use Rattle.message_judging.proofs.lemmas.matching.Names.{both, all, same_number, number_same, octets_same, same_octets_are, found_same, same_found_are}

abbrev lowered_shape : Shape → Shape
lowered_shape s = record { kind = s.kind; octets = s.octets; behind = s.behind; numbers = s.numbers; first = option_map lowered s.first; second = option_map lowered s.second }

abbrev name_or : Option Labels → Labels
name_or (Some n) = n
name_or None = []

-- the data of which these are the parts
abbrev data_of : (kind : ℕ) → (octets behind numbers : List ℕ) → (first second : Option Labels) → Data
data_of zero o e n a b = A o
data_of (suc zero) o e n a b = Aaaa o
data_of (suc (suc zero)) o e n a b = One (slice_index n 0) (name_or a)
data_of (suc (suc (suc zero))) o e n a b = Minfo (name_or a) (name_or b)
data_of (suc (suc (suc (suc zero)))) o e n a b = Mx (slice_index n 0) (name_or a)
data_of (suc (suc (suc (suc (suc zero))))) o e n a b = StartOfAuthority (record { mname = name_or a; rname = name_or b; serial = slice_index n 0; refresh = slice_index n 1; retry = slice_index n 2; expire = slice_index n 3; minimum = slice_index n 4 })
data_of (suc (suc (suc (suc (suc (suc zero)))))) o e n a b = Service (record { priority = slice_index n 0; weight = slice_index n 1; port = slice_index n 2; target = name_or a })
data_of (suc (suc (suc (suc (suc (suc (suc zero))))))) o e n a b = Txt o
data_of (suc (suc (suc (suc (suc (suc (suc (suc zero)))))))) o e n a b = Opt o
data_of (suc (suc (suc (suc (suc (suc (suc (suc (suc zero))))))))) o e n a b = Other o
data_of (suc (suc (suc (suc (suc (suc (suc (suc (suc (suc k)))))))))) o e n a b = Named (record { before = o; first = name_or a; second = b; behind = e })

abbrev back : Shape → Data
back s = data_of s.kind s.octets s.behind s.numbers s.first s.second

is_back : (d : Data) → back (lowered_shape (shape_of d)) ≡ lowered_data d
is_back (A o) = refl
is_back (Aaaa o) = refl
is_back (One t n) = refl
is_back (Minfo a b) = refl
is_back (Mx p n) = refl
is_back (StartOfAuthority soa) = refl
is_back (Service srv) = refl
is_back (Named it) = refl
is_back (Txt o) = refl
is_back (Opt o) = refl
is_back (Other o) = refl

lowered_is : (d : Data) → lowered_shape (shape_of d) ≡ shape_of (lowered_data d)
lowered_is (A o) = refl
lowered_is (Aaaa o) = refl
lowered_is (One t n) = refl
lowered_is (Minfo a b) = refl
lowered_is (Mx p n) = refl
lowered_is (StartOfAuthority soa) = refl
lowered_is (Service srv) = refl
lowered_is (Named it) = refl
lowered_is (Txt o) = refl
lowered_is (Opt o) = refl
lowered_is (Other o) = refl

shapes_equal : (a b : Shape) → a.kind ≡ b.kind → a.octets ≡ b.octets → a.behind ≡ b.behind → a.numbers ≡ b.numbers → option_map lowered a.first ≡ option_map lowered b.first → option_map lowered a.second ≡ option_map lowered b.second → lowered_shape a ≡ lowered_shape b
shapes_equal a b k o e n f s = cc

shape_same : (a b : Shape) → same_shape a b ≡ true → lowered_shape a ≡ lowered_shape b
shape_same a b e =
    let p = both (a.kind == b.kind) _ e in
    let q = both (same_octets a.octets b.octets) _ p.1 in
    let u = both (same_octets a.behind b.behind) _ q.1 in
    let r = both (same_octets a.numbers b.numbers) _ u.1 in
    let t = both (same_found a.first b.first) (same_found a.second b.second) r.1 in
    shapes_equal a b (number_same a.kind b.kind p.0) (octets_same a.octets b.octets q.0) (octets_same a.behind b.behind u.0) (octets_same a.numbers b.numbers r.0) (found_same a.first b.first t.0) (found_same a.second b.second t.1)

same_shape_is : (a b : Shape) → lowered_shape a ≡ lowered_shape b → same_shape a b ≡ true
same_shape_is a b e =
    all (a.kind == b.kind) _ (same_number a.kind b.kind (ap (λ s. s.kind) e))
    (all (same_octets a.octets b.octets) _ (same_octets_are a.octets b.octets (ap (λ s. s.octets) e))
    (all (same_octets a.behind b.behind) _ (same_octets_are a.behind b.behind (ap (λ s. s.behind) e))
    (all (same_octets a.numbers b.numbers) _ (same_octets_are a.numbers b.numbers (ap (λ s. s.numbers) e))
    (all (same_found a.first b.first) (same_found a.second b.second) (same_found_are a.first b.first (ap (λ s. s.first) e)) (same_found_are a.second b.second (ap (λ s. s.second) e))))))

pub data_same : (d e : Data) → same_shape (shape_of d) (shape_of e) ≡ true → lowered_data d ≡ lowered_data e
data_same d e s = sym (is_back d) ∙ (ap back (shape_same (shape_of d) (shape_of e) s) ∙ is_back e)

pub same_data_is : (d e : Data) → lowered_data d ≡ lowered_data e → same_shape (shape_of d) (shape_of e) ≡ true
same_data_is d e s = same_shape_is (shape_of d) (shape_of e) (lowered_is d ∙ (ap shape_of s ∙ sym (lowered_is e)))
