-- The only question of a message is the only one of those that are read of it, and a composed message asks what its base does.
use Rattle.std.proofs.Common.{◌≡◌, ℕ, Bool, true, false, List, [], ◌∷◌, length, refl, ap, sym, subst, ◌∙◌, arith, ◌==◌}
use Rattle.std.specs.Prelude.{Option, Some, None, Result, Ok, Err, IfOk, option_map, if◌then◌else◌}
use Rattle.std.specs.Option.{option_map_or}
use Rattle.std.specs.List.{AllZip}
use Rattle.std.proofs.lemmas.Bool.{ne_eqb}
use Rattle.dns_names.specs.Name.{Labels}
use Rattle.dns_names.proofs.Heads.{then_ok, none_some}
use Rattle.dns_values.specs.declared.numbers.Section.TheVariants.{Answer, Authority, Additional}
use Rattle.dns_base.specs.Numbers.{u16_at}
use Rattle.dns_base.specs.Knowing.{lowered_asked}
use Rattle.dns_base.specs.Message.{Asked, sole_question, question_at, list_at, items_at, item_then, all_read}
use Rattle.dns_base.specs.Answering.{question_items}
use Rattle.dns_base.specs.Draft.{fresh, with_header, finished}
use Rattle.dns_base.specs.Holding.{Contents, AskedReadsAs, IsAskable}
use Rattle.dns_base.proofs.Lists.{items_are_list, list_length}
use Rattle.dns_base.proofs.Readings.{reading_laws}
use Rattle.client_request.specs.declared.error.Error.{Error}
use Rattle.client_request.specs.Request.{Request}
use Rattle.client_request.specs.Carries.{SaysRequest, IsOfOctets, contents_of, records_of}
use Rattle.client_request.specs.Composed.{appended, composed, copies_all}
use Rattle.client_request.specs.Composing.{IsAsked}
use Rattle.client_request.proofs.Writable.{AreOctets, question_askable}
use Rattle.client_request.proofs.Carrying.{composed_says, message_done, then_done}
use Rattle.client_request.proofs.FirstName.{Spelled, all_spelled, headed_spelled, finished_spelled, spelled_is_read}

pub some_inside : {A B : Type 0} → (f : A → B) (o : Option A) (y : B) → option_map f o ≡ Some y → (x : A) × (o ≡ Some x) × (f x ≡ y)
some_inside f None y e = none_some e
some_inside f (Some x) y e = (x, refl, cc)

-- the one question of these
unfoldable pub only : List Asked → Option Asked
only [] = None
only (q ∷ []) = Some q
only (q ∷ p ∷ more) = None

as_listed : (one : ℕ → Option (Asked × ℕ)) (n at : ℕ) (qs : List Asked) → all_read (items_at one n at) ≡ Some qs → length qs ≡ n
as_listed one n at qs e =
    let found = some_inside (λ (y : List Asked × ℕ). y.0) (list_at one n at) qs (sym (items_are_list one n at) ∙ e) in
    subst (λ qs. length qs ≡ n) found.2 (list_length one n at found.0 found.1)

sole_of : (one : ℕ → Option (Asked × ℕ)) (n at : ℕ) (qs : List Asked) → all_read (items_at one n at) ≡ Some qs → length qs ≡ n → (if n == 1 then option_map (λ x. x.0) (one at) else None) ≡ only qs
unfolding only items_at
sole_of one n at [] e long = let is : (n == 1) ≡ false = ap (λ n. n == 1) (sym long) in rw is refl
sole_of one n at (q ∷ []) e long = subst (λ n. all_read (items_at one n at) ≡ Some (q ∷ []) → (if n == 1 then option_map (λ x. x.0) (one at) else None) ≡ Some q) long (λ f. here (one at) f) e
  where
    here : (o : Option (Asked × ℕ)) → all_read (item_then (λ end. []) o) ≡ Some (q ∷ []) → option_map (λ x. x.0) o ≡ Some q
    here None f = none_some f
    here (Some x) f = cc
sole_of one n at (q ∷ p ∷ more) e long = let is : (n == 1) ≡ false = ne_eqb n 1 (λ s. omega arith) in rw is refl

pub sole_is : (octets : List ℕ) (qs : List Asked) → all_read (question_items octets) ≡ Some qs → sole_question octets ≡ only qs
unfolding sole_question
sole_is octets qs e = sole_of (question_at octets) (u16_at octets 4) 12 qs e (as_listed (question_at octets) (u16_at octets 4) 12 qs e)

alike : (xs ys : List Asked) → AllZip AskedReadsAs xs ys → option_map lowered_asked (only xs) ≡ option_map lowered_asked (only ys)
unfolding only
alike [] [] z = refl
alike [] (b ∷ ys) z = absurd z
alike (a ∷ xs) [] z = absurd z
alike (a ∷ []) (b ∷ []) z = ap Some z.0
alike (a ∷ []) (b ∷ c ∷ ys) z = absurd z.1
alike (a ∷ c ∷ xs) (b ∷ []) z = absurd z.1
alike (a ∷ c ∷ xs) (b ∷ e ∷ ys) z = refl

-- a message that says a request has the only question of its base, but for case
asked_alike : (r : Request) (m : List ℕ) → SaysRequest m r → option_map lowered_asked (sole_question r.base) ≡ option_map lowered_asked (sole_question m)
unfolding contents_of
asked_alike r m says =
    let q = then_ok (all_read (question_items r.base)) _ says.contents says.are in
    let a = then_ok (records_of Answer r.base) _ says.contents q.2 in
    let u = then_ok (records_of Authority r.base) _ says.contents a.2 in
    let x = then_ok (records_of Additional r.base) _ says.contents u.2 in
    let same : says.contents.questions ≡ q.0 = ap (λ (o : Option Contents). option_map_or (λ c. c.questions) o []) (sym x.2) in
    let zip : AllZip AskedReadsAs says.reading.questions q.0 = subst (λ qs. AllZip AskedReadsAs says.reading.questions qs) same says.agree.questions in
    let mine = sole_is m says.reading.questions (reading_laws.items_are_read m says.reading says.read).questions_are in
    let base = sole_is r.base q.0 q.1 in
    ap (option_map lowered_asked) base ∙ (sym (alike says.reading.questions q.0 zip) ∙ ap (option_map lowered_asked) (sym mine))

-- and where its name is spelled out, the very same
same_asked : (base mine : Option Asked) → option_map lowered_asked base ≡ option_map lowered_asked mine → ((p q : Asked) → base ≡ Some p → mine ≡ Some q → q.name ≡ p.name) → base ≡ mine
same_asked None None e named = refl
same_asked None (Some q) e named = absurd cc
same_asked (Some p) None e named = absurd cc
same_asked (Some p) (Some q) e named =
    let name : q.name ≡ p.name = named p q refl refl in
    let lowered : lowered_asked p ≡ lowered_asked q = cc in
    let rtype : p.rtype ≡ q.rtype = ap (λ (a : Asked). a.rtype) lowered in
    let class : p.class ≡ q.class = ap (λ (a : Asked). a.class) lowered in
    ap Some (same_parts (sym name) rtype class)
  where
    same_parts : {n1 n2 : Labels} {t1 t2 c1 c2 : ℕ} → n1 ≡ n2 → t1 ≡ t2 → c1 ≡ c2 → Path Asked (record { name = n1; rtype = t1; class = c1 }) (record { name = n2; rtype = t2; class = c2 })
    same_parts n t c = cc

only_one : (qs : List Asked) (q : Asked) → only qs ≡ Some q → qs ≡ q ∷ []
unfolding only
only_one [] q e = absurd cc
only_one (p ∷ []) q e = let same : p ≡ q = cc in ap (λ (x : Asked). x ∷ []) same
only_one (p ∷ s ∷ more) q e = absurd cc

sole_askable : (base : List ℕ) (q : Asked) → AreOctets base → sole_question base ≡ Some q → IsAskable q
unfolding sole_question
sole_askable base q octets is = go (u16_at base 4 == 1) (question_at base 12) refl is
  where
    go : (b : Bool) (o : Option (Asked × ℕ)) → question_at base 12 ≡ o → (if b then option_map (λ (x : Asked × ℕ). x.0) o else None) ≡ Some q → IsAskable q
    go true (Some x) e h = let same : x.0 ≡ q = cc in subst IsAskable same (question_askable base 12 x.1 x.0 octets e)
    go true None e h = absurd cc
    go false o e h = absurd cc

-- the name of the only question of a request is spelled out in what is composed of it
composed_spells : (r : Request) (m : List ℕ) (q : Asked) → IsOfOctets r → composed r ≡ Ok m → sole_question r.base ≡ Some q → Spelled q.name m
unfolding composed appended contents_of
composed_spells r m q h is asks =
    let says = composed_says r m h is in
    let read = then_ok (all_read (question_items r.base)) _ says.contents says.are in
    let one : read.0 ≡ q ∷ [] = only_one read.0 q (sym (sole_is r.base read.0 read.1) ∙ asks) in
    let done = message_done (appended r (fresh None)) m is in
    let under = then_done (copies_all r.base r.opt (fresh None)) (λ all. Ok (with_header r.header all)) done.0 done.1 in
    let head = under.2 in
    let same : with_header r.header under.0 ≡ done.0 = cc in
    let whole = all_spelled q [] r.base r.opt under.0 (read.1 ∙ ap Some one) under.1 in
    subst (Spelled q.name) (ap finished same ∙ done.2) (finished_spelled q.name (with_header r.header under.0) (headed_spelled q.name r.header under.0 h.header whole))

-- what is composed of a request asks what its base does
pub composed_asks : (r : Request) → IsOfOctets r → IfOk (composed r) (λ m. IsAsked m (sole_question r.base))
composed_asks r octets = go (composed r) refl
  where
    go : (o : Result (List ℕ) Error) → composed r ≡ o → IfOk o (λ m. IsAsked m (sole_question r.base))
    go (Ok m) e = same_asked (sole_question r.base) (sole_question m) (asked_alike r m (composed_says r m octets e))
        (λ p q base mine. spelled_is_read p.name m q (sole_askable r.base p octets.base base).name (composed_spells r m p octets e base) mine)
    go (Err x) e = tt
