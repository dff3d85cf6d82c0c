-- What is found of a message is what the definitions say of views of a kept one.
use Rattle.std.proofs.Common.{◌≡◌, ◌≤◌, ◌<◌, ℕ, zero, suc, ◌+◌, ◌-◌, ◌*◌, ◌/◌, Bool, true, false, ◌&&◌, ◌==◌, List, [], ◌∷◌, refl, sym, ap, ap₂, ◌∙◌, subst, map, arith}
use Rattle.std.specs.Prelude.{Option, Some, None, nat_le, nat_lt, min, not, is_some, if◌then◌else◌}
use Rattle.std.proofs.lemmas.Bool.Decides.{nat_tests}
use Rattle.std.proofs.Math.Nat.{div-mul-le_self}
use Rattle.dns_names.specs.Name.{Labels}
use Rattle.dns_names.proofs.Heads.{none_some}
use Rattle.dns_base.specs.{Data.Data, Message.header_of, OptRecord.opt_rcode}
use Rattle.client_request.specs.Request.{Request}
use Rattle.right_trace.specs.{Messages.Octets, Settings.Settings}
use Rattle.right_trace.specs.Keys.{Key, KeysCover, key_of, spelled_name}
use Rattle.right_trace.specs.Parts.{Header, Item, Parts, flags_in, known_parts, lowered_item, lowered_parts, Says}
use Rattle.right_trace.specs.Validity.{second, is_above, least, without_opt, limit, validity_of_parts, validity_of_message}
use Rattle.right_trace.specs.Views.{viewed, viewed_header, view_of, stale_of, view_validity, all_with_ttl, with_ttl, mostly_with_ttl, tells_of_name}
use Rattle.right_trace.proofs.{Asked.keys_refl, Deriving.viewed_twice}
use Rattle.client_settings.specs.Settings.{seconds}
use Rattle.cache_rules.specs.Key.{flag_class}
use Rattle.cache_rules.specs.Viewing.{IsBetween, SaysView, SaysExpired}
use Rattle.cache_rules.specs.declared.copying.Ttls.TheVariants.{Lessened}
use Rattle.cache_rules.proofs.WhatIsMet.{some_inside, header_is}
use Rattle.cache_rules.proofs.Saying.{what_is_known, rcode_kept}
use Rattle.cache_rules.proofs.ViewLaws.{view_same, view_laws, said}
use Rattle.message_judging.specs.declared.views.serving.Flags.{Flags}
use Rattle.message_judging.specs.views.Same.{SaysAs, TellsSame}
use Rattle.message_judging.specs.views.Serving.{HasFlags, clears_rd, seconds_of, IsMade, IsExpired, is_within, IsFound, IsLate, NotKept, Unread, Late, IsWithin, TellsAged, IsViewOf, IsStaleOf, TellsView, TellsStale}

-- ---- validity is limited

least_few : {C : Type 0} (n : ℕ) (xs : List (Item C)) → least n xs ≤ n
least_few n [] = omega arith
least_few n (x ∷ xs) = let rest = least_few (min n (x.ttl * second)) xs in omega (arith, rest)

limited : (b : Bool) (most its : ℕ) (x : Parts Data) → (if b then 0 else least (least (least (min most its) x.answer) x.authority) (without_opt x.additional)) ≤ most
limited true most its x = omega arith
limited false most its x =
    let d = least_few (least (least (min most its) x.answer) x.authority) (without_opt x.additional) in
    let u = least_few (least (min most its) x.answer) x.authority in
    let a = least_few (min most its) x.answer in
    omega (arith, d, u, a)

-- it is no longer than the settings allow
pub validity_limited : (s : Settings) (x : Parts Data) → validity_of_parts s x ≤ s.max_validity
validity_limited s x = limited (x.header.tc && not s.cache_truncated) s.max_validity (limit s x) x

whole_seconds : (age v most : ℕ) → age ≤ v → v ≤ most → most ≤ seconds 6048000 → seconds_of age ≡ age / second
unfolding second
whole_seconds age v most a b d = small (age / 1000000) (few (age / 1000000) age (div-mul-le_self age 1000000) (bound (seconds 6048000) d))
  where
    bound : (m : ℕ) → most ≤ m → age ≤ m
    bound m le = omega (arith, a, b, le)

    few : (n age : ℕ) → n * 1000000 ≤ age → age ≤ 6048000000000 → n < 4294967295
    few n age q le = omega arith

    small : (n : ℕ) → n < 4294967295 → min n 4294967295 ≡ n
    small n lt = omega arith

le_of : (a b : ℕ) → nat_le a b ≡ true → a ≤ b
le_of a b e = grind (arith, nat_tests)

of_le : (a b : ℕ) → a ≤ b → nat_le a b ≡ true
of_le a b le = grind (arith, nat_tests)

lt_of : (a b : ℕ) → nat_lt a b ≡ true → a < b
lt_of a b e = grind (arith, nat_tests)

of_lt : (a b : ℕ) → a < b → nat_lt a b ≡ true
of_lt a b lt = grind (arith, nat_tests)

within_so : (more age : ℕ) (n : ℕ) → is_within more age (Some n) ≡ true → age ≤ n + more
within_so more age n e = let le = le_of (age - n) more e in omega arith

so_within : (more age : ℕ) (n : ℕ) → age ≤ n + more → is_within more age (Some n) ≡ true
so_within more age n le = of_le (age - n) more (omega arith)

above_so : (o : Option ℕ) → is_above o ≡ true → (n : ℕ) × (o ≡ Some n) × (0 < n)
above_so None e = absurd (cc)
above_so (Some n) e = (n, refl, lt_of 0 n e)

so_above : (o : Option ℕ) (n : ℕ) → o ≡ Some n → 0 < n → is_above o ≡ true
so_above None n e lt = absurd (cc)
so_above (Some m) n e lt = let is : m ≡ n = cc in of_lt 0 m (omega arith)

same_some : {A : Type 0} (o : Option A) (x y : A) → o ≡ Some x → o ≡ Some y → x ≡ y
same_some o x y p q = let z : Some x ≡ Some y = sym p ∙ q in cc

-- ---- octets that say the same

says_so : (given made : Octets) (x : Parts Data) → Says made x → SaysAs given made → Says given x
says_so given made x says y = y.says ∙ ap Some (said made y.parts x y.known says)

so_says : (given made : Octets) (x : Parts Data) → Says made x → Says given x → SaysAs given made
so_says given made x says view =
    let d = some_inside lowered_parts (known_parts made) (lowered_parts x) says in
    record { parts = d.0; known = d.1; says = view ∙ ap Some (sym d.2) }

-- ---- views

between : (q r : Request) (from to : Flags) → HasFlags q from → HasFlags r to → IsBetween (flag_class from.class) (flag_class to.class) (clears_rd from to) (key_of q) (key_of r)
between q r from to f g = record { first = f.class; second = g.class; recursion = ap₂ (λ a b. a && not b) f.rd g.rd }

view_says : (kept y : Octets) (from to : Flags) (name : Labels) (n : ℕ) → SaysView (flag_class from.class) (flag_class to.class) (clears_rd from to) name (Lessened n) kept y → (q r : Request) (x : Parts Data) → HasFlags q from → HasFlags r to → known_parts kept ≡ Some x
    → Says y (viewed (key_of q) (key_of r) name n x)
view_says kept y from to name n v q r x f g known = subst (λ x. Says y (viewed (key_of q) (key_of r) name n x)) (same_some (known_parts kept) v.parts x v.known known) (v.says (key_of q) (key_of r) (between q r from to f g))

pub tells_aged : (kept given : Octets) (from to : Flags) (name : Labels) (n : ℕ) (y : Octets) (b : Bool) → IsMade kept from to name (Lessened n) (Some y) → TellsSame given y b → TellsAged kept from to name n given b
tells_aged kept given from to name n y b v t = record {
  so = λ q r x f g known e. says_so given y (viewed (key_of q) (key_of r) name n x) (view_says kept y from to name n v q r x f g known) (t.so e);
  back = λ q r x f g known says. t.back (so_says given y (viewed (key_of q) (key_of r) name n x) (view_says kept y from to name n v q r x f g known) says);
}

pub unread_aged : (kept given : Octets) (from to : Flags) (name : Labels) (n : ℕ) → known_parts kept ≡ None → TellsAged kept from to name n given false
unread_aged kept given from to name n none = record { so = λ q r x f g known e. none_some (sym none ∙ known); back = λ q r x f g known says. none_some (sym none ∙ known) }

-- the validity of the view at no age
valid_now : (s : Settings) (kept y : Octets) (from to : Flags) → (q r : Request) (x : Parts Data) → SaysView (flag_class from.class) (flag_class to.class) (clears_rd from to) (spelled_name r) (Lessened 0) kept y → HasFlags q from → HasFlags r to → known_parts kept ≡ Some x
    → validity_of_message s y ≡ Some (view_validity s q r x)
valid_now s kept y from to q r x v f g known = view_laws.validity s (viewed (key_of q) (key_of r) (spelled_name r) 0 x) y (view_says kept y from to (spelled_name r) 0 v q r x f g known)

-- what is within is known and valid
pub record IsIn (s : Settings) (q r : Request) (kept : Octets) (more age : ℕ) : Type 0 where
  pub parts : Parts Data
  pub known : known_parts kept ≡ Some parts
  pub validity : ℕ
  pub is_validity : validity_of_message s kept ≡ Some validity
  pub above : 0 < validity
  pub in_time : age ≤ view_validity s q r parts + more

in_so : (s : Settings) (kept y : Octets) (from to : Flags) (more age : ℕ) (q r : Request) → HasFlags q from → HasFlags r to → is_above (validity_of_message s kept) ≡ true
    → SaysView (flag_class from.class) (flag_class to.class) (clears_rd from to) (spelled_name r) (Lessened 0) kept y → is_within more age (validity_of_message s y) ≡ true → IsIn s q r kept more age
in_so s kept y from to more age q r f g above v within =
    let a = above_so (validity_of_message s kept) above in
    let valid = valid_now s kept y from to q r v.parts v f g v.known in
    record { parts = v.parts; known = v.known; validity = a.0; is_validity = a.1; above = a.2; in_time = within_so more age (view_validity s q r v.parts) (sym (ap (is_within more age) valid) ∙ within) }

-- nothing is, where none is found
none_in : (s : Settings) (kept : Octets) (from to : Flags) (name : Labels) (more age : ℕ) → IsLate s kept from to name more age → (q r : Request) → HasFlags q from → HasFlags r to → spelled_name r ≡ name → IsIn s q r kept more age → ⊥
none_in s kept from to name more age (NotKept no_validity) q r f g is i = absurd (let z : true ≡ false = sym (so_above (validity_of_message s kept) i.validity i.is_validity i.above) ∙ no_validity in cc)
none_in s kept from to name more age (Unread none) q r f g is i = none_some (sym none ∙ i.known)
none_in s kept from to name more age (Late y v late) q r f g is i =
    let w = subst (λ name. SaysView (flag_class from.class) (flag_class to.class) (clears_rd from to) name (Lessened 0) kept y) (sym is) v in
    absurd (let z : true ≡ false = sym (so_within more age (view_validity s q r i.parts) i.in_time) ∙ (sym (ap (is_within more age) (valid_now s kept y from to q r i.parts w f g i.known)) ∙ late) in cc)

found_in : (s : Settings) (kept : Octets) (from to : Flags) (name : Labels) (more age : ℕ) (y : Octets) → IsFound s kept from to name more age y → (q r : Request) → HasFlags q from → HasFlags r to → spelled_name r ≡ name → IsIn s q r kept more age
found_in s kept from to name more age y w q r f g is =
    in_so s kept y from to more age q r f g w.above (subst (λ name. SaysView (flag_class from.class) (flag_class to.class) (clears_rd from to) name (Lessened 0) kept y) (sym is) w.says) w.within

-- ---- the valid view

valid_in : (s : Settings) (q r : Request) (kept : Octets) (age : ℕ) (given : Octets) → IsViewOf s q r kept age given → IsIn s q r kept 0 age
valid_in s q r kept age given v = record { parts = v.parts; known = v.valid.known; validity = v.valid.validity; is_validity = v.valid.is_validity; above = v.valid.kept; in_time = (let t = v.valid.in_time in omega arith) }

pub no_view : (s : Settings) (kept given : Octets) (from to : Flags) (name : Labels) (age : ℕ) → IsWithin s kept from to name 0 age None → TellsView s kept from to name age given false
no_view s kept given from to name age w = record {
  so = λ q r f g is e. absurd (cc);
  back = λ q r f g is v. absurd (none_in s kept from to name 0 age w q r f g is (valid_in s q r kept age given v));
}

module _ (s : Settings) (kept given y : Octets) (from to : Flags) (name : Labels) (age : ℕ) (most : s.max_validity ≤ seconds 6048000) (w : IsFound s kept from to name 0 age y) where
  at_seconds : (q r : Request) (x : Parts Data) → HasFlags q from → HasFlags r to → spelled_name r ≡ name → known_parts kept ≡ Some x → viewed (key_of q) (key_of r) name (seconds_of age) x ≡ view_of q r age x
  at_seconds q r x f g is known =
      let i = found_in s kept from to name 0 age y w q r f g is in
      let same = same_some (known_parts kept) i.parts x i.known known in
      let le : age ≤ view_validity s q r i.parts = (let t = i.in_time in omega arith) in
      ap₂ (λ n name. viewed (key_of q) (key_of r) name n x) (whole_seconds age (view_validity s q r i.parts) s.max_validity le (validity_limited s (viewed (key_of q) (key_of r) (spelled_name r) 0 i.parts)) most) (sym is)

  view_told : (b : Bool) → TellsAged kept from to name (seconds_of age) given b → TellsView s kept from to name age given b
  view_told b t = record {
    so = λ q r f g is e. (
        let i = found_in s kept from to name 0 age y w q r f g is in
        record {
          parts = i.parts;
          valid = record { known = i.known; validity = i.validity; is_validity = i.is_validity; kept = i.above; in_time = (let t = i.in_time in omega arith) };
          says = subst (Says given) (at_seconds q r i.parts f g is i.known) (t.so q r i.parts f g i.known e);
        });
    back = λ q r f g is v. t.back q r v.parts f g v.valid.known (subst (Says given) (sym (at_seconds q r v.parts f g is v.valid.known)) v.says);
  }

pub tells_view : (s : Settings) (kept given y : Octets) (from to : Flags) (name : Labels) (age : ℕ) → s.max_validity ≤ seconds 6048000 → IsWithin s kept from to name 0 age (Some y) → (b : Bool) → TellsAged kept from to name (seconds_of age) given b → TellsView s kept from to name age given b
tells_view s kept given y from to name age most w b t = view_told s kept given y from to name age most w b t

-- ---- what has expired

ttl_lowered : (n : ℕ) (xs : List (Item Data)) → map lowered_item (map (with_ttl n) xs) ≡ map (with_ttl n) (map lowered_item xs)
ttl_lowered n [] = refl
ttl_lowered n (x ∷ xs) = ap (λ t. lowered_item (with_ttl n x) ∷ t) (ttl_lowered n xs)

mostly_ttl_lowered : (n : ℕ) (xs : List (Item Data)) → map lowered_item (map (mostly_with_ttl n) xs) ≡ map (mostly_with_ttl n) (map lowered_item xs)
mostly_ttl_lowered n [] = refl
mostly_ttl_lowered n (x ∷ xs) = ap₂ (λ a t. a ∷ t) (go (x.rtype == 41)) (mostly_ttl_lowered n xs)
  where
    go : (b : Bool) → lowered_item (if b then x else with_ttl n x) ≡ (if b then lowered_item x else with_ttl n (lowered_item x))
    go true = refl
    go false = refl

all_lowered : (n : ℕ) (x : Parts Data) → lowered_parts (all_with_ttl n x) ≡ all_with_ttl n (lowered_parts x)
all_lowered n x = same (ttl_lowered n x.answer) (ttl_lowered n x.authority) (mostly_ttl_lowered n x.additional)
  where
    same : {a1 a2 u1 u2 d1 d2 : List (Item Data)} → a1 ≡ a2 → u1 ≡ u2 → d1 ≡ d2
        → Path (Parts Data) (record (lowered_parts x) { answer = a1; authority = u1; additional = d1 }) (record (lowered_parts x) { answer = a2; authority = u2; additional = d2 })
    same a u d = cc

ttl_same : (n : ℕ) (x y : Parts Data) → lowered_parts x ≡ lowered_parts y → lowered_parts (all_with_ttl n x) ≡ lowered_parts (all_with_ttl n y)
ttl_same n x y e = all_lowered n x ∙ (ap (all_with_ttl n) e ∙ sym (all_lowered n y))

-- the header of parts is that of their octets
parts_header : (m : Octets) (x : Parts Data) → known_parts m ≡ Some x → x.header ≡ flags_in (header_of m)
parts_header m x known = let k = what_is_known m x known in sym (ap (λ (p : Parts Data). p.header) k.parts_are) ∙ ap flags_in (header_is m k.reading k.read)

code_of : (m : Octets) (x : Parts Data) → known_parts m ≡ Some x → x.code ≡ opt_rcode m
code_of m x known = let k = what_is_known m x known in sym (ap (λ (p : Parts Data). p.code) k.parts_are)

-- a view that was written says what has expired of it
expired_says : (view y : Octets) (q r : Key) (name : Labels) (x : Parts Data) → KeysCover q r → Says view (viewed q r name 0 x) → SaysExpired (header_of view) r.flags name view y → Says y (all_with_ttl 30 (viewed q r name 0 x))
expired_says view y q r name x covers says expired =
    let d = expired.parts in
    let low = said view d (viewed q r name 0 x) expired.known says in
    let twice : lowered_parts (viewed r r name 0 d) ≡ lowered_parts (viewed q r name 0 x) = view_same r r name 0 d (viewed q r name 0 x) low ∙ ap lowered_parts (viewed_twice q r r name name 0 x covers (keys_refl r)) in
    let head : flags_in (header_of view) ≡ viewed_header q r x.header = sym (parts_header view d expired.known) ∙ ap (λ (p : Parts Data). p.header) low in
    expired.says r refl (rcode_kept view)
    ∙ ap Some (ttl_same 30 (record (viewed r r name 0 d) { header = flags_in (header_of view) }) (viewed q r name 0 x)
    (ap (λ (h : Header). let p : Parts Data = record (lowered_parts (viewed r r name 0 d)) { header = h } in p) head ∙ ap (λ (p : Parts Data). let z : Parts Data = record p { header = viewed_header q r x.header } in z) twice))

no_seconds : 0 / second ≡ 0
unfolding second
no_seconds = refl

stale_is : (q r : Request) (name : Labels) (x : Parts Data) → spelled_name r ≡ name → all_with_ttl 30 (viewed (key_of q) (key_of r) name 0 x) ≡ stale_of q r x
stale_is q r name x is = ap₂ (λ n name. all_with_ttl 30 (viewed (key_of q) (key_of r) name n x)) (sym no_seconds) (sym is)

stale_in : (s : Settings) (q r : Request) (kept : Octets) (age : ℕ) (given : Octets) → IsStaleOf s q r kept age given → IsIn s q r kept s.stale_for age
stale_in s q r kept age given v = record { parts = v.parts; known = v.valid.known; validity = v.valid.validity; is_validity = v.valid.is_validity; above = v.valid.kept; in_time = v.valid.in_time }

pub none_stale : (s : Settings) (kept given : Octets) (from to : Flags) (name : Labels) (age : ℕ) → IsWithin s kept from to name s.stale_for age None → TellsStale s kept from to name age given false
none_stale s kept given from to name age w = record {
  so = λ q r covers f g is e. absurd (cc);
  back = λ q r covers f g is v. absurd (none_in s kept from to name s.stale_for age w q r f g is (stale_in s q r kept age given v));
}

pub never_stale : (s : Settings) (kept given : Octets) (from to : Flags) (name : Labels) (age : ℕ) → s.stale_for ≡ 0 → TellsStale s kept from to name age given false
never_stale s kept given from to name age none = record {
  so = λ q r covers f g is e. absurd (cc);
  back = λ q r covers f g is v. absurd (let a = v.valid.allowed in omega arith);
}

pub of_server : (s : Settings) (kept given : Octets) (from to : Flags) (name : Labels) (age : ℕ) → tells_of_name (opt_rcode kept) ≡ false → TellsStale s kept from to name age given false
of_server s kept given from to name age none = record {
  so = λ q r covers f g is e. absurd (cc);
  back = λ q r covers f g is v. absurd (let z : true ≡ false = sym v.valid.tells ∙ (ap tells_of_name (code_of kept v.parts v.valid.known) ∙ none) in cc);
}

module _ (s : Settings) (kept given view : Octets) (from to : Flags) (name : Labels) (age : ℕ) (allowed : s.stale_for ≡ 0 → ⊥) (tells : tells_of_name (opt_rcode kept) ≡ true) (w : IsFound s kept from to name s.stale_for age view) where
  stale_says : (q r : Request) (y : Octets) (x : Parts Data) → KeysCover (key_of q) (key_of r) → HasFlags q from → HasFlags r to → spelled_name r ≡ name → known_parts kept ≡ Some x → SaysExpired (header_of view) (flag_class to.class) name view y → Says y (stale_of q r x)
  stale_says q r y x covers f g is known expired =
      let v = view_says kept view from to name 0 w.says q r x f g known in
      subst (Says y) (stale_is q r name x is)
      (expired_says view y (key_of q) (key_of r) name x covers v (subst (λ f. SaysExpired (header_of view) f name view y) (sym g.class) expired))

  stale_told : (y : Octets) → SaysExpired (header_of view) (flag_class to.class) name view y → (b : Bool) → TellsSame given y b → TellsStale s kept from to name age given b
  stale_told y expired b t = record {
    so = λ q r covers f g is e. (
        let i = found_in s kept from to name s.stale_for age view w q r f g is in
        record {
          parts = i.parts;
          valid = record { known = i.known; validity = i.validity; is_validity = i.is_validity; kept = i.above; tells = ap tells_of_name (code_of kept i.parts i.known) ∙ tells; allowed = positive s.stale_for allowed; in_time = i.in_time };
          says = says_so given y (stale_of q r i.parts) (stale_says q r y i.parts covers f g is i.known expired) (t.so e);
        });
    back = λ q r covers f g is v. t.back (so_says given y (stale_of q r v.parts) (stale_says q r y v.parts covers f g is v.valid.known expired) v.says);
  }
    where
      positive : (n : ℕ) → (n ≡ 0 → ⊥) → 0 < n
      positive zero h = absurd (h refl)
      positive (suc n) h = omega arith

  none_known : (q r : Request) → HasFlags q from → HasFlags r to → known_parts view ≡ None → ⊥
  none_known q r f g none =
      let d = some_inside lowered_parts (known_parts view) _ (view_says kept view from to name 0 w.says q r w.says.parts f g w.says.known) in
      none_some (sym none ∙ d.1)

  unread_told : known_parts view ≡ None → TellsStale s kept from to name age given false
  unread_told none = record { so = λ q r covers f g is e. absurd (cc); back = λ q r covers f g is v. absurd (none_known q r f g none) }

pub tells_stale : (s : Settings) (kept given view : Octets) (from to : Flags) (name : Labels) (age : ℕ) → (s.stale_for ≡ 0 → ⊥) → tells_of_name (opt_rcode kept) ≡ true → IsWithin s kept from to name s.stale_for age (Some view)
    → (y : Octets) → IsExpired view (header_of view) to name (Some y) → (b : Bool) → TellsSame given y b → TellsStale s kept from to name age given b
tells_stale s kept given view from to name age allowed tells w y expired b t = stale_told s kept given view from to name age allowed tells w y expired b t

pub unread_stale : (s : Settings) (kept given view : Octets) (from to : Flags) (name : Labels) (age : ℕ) → (s.stale_for ≡ 0 → ⊥) → tells_of_name (opt_rcode kept) ≡ true → IsWithin s kept from to name s.stale_for age (Some view) → IsExpired view (header_of view) to name None → TellsStale s kept from to name age given false
unread_stale s kept given view from to name age allowed tells w none = unread_told s kept given view from to name age allowed tells w none

-- ---- as they are found

module _ (s : Settings) (kept given : Octets) (from to : Flags) (name : Labels) (age : ℕ) where
  pub none_viewed : (o : Option Octets) → IsWithin s kept from to name 0 age o → o ≡ None → TellsView s kept from to name age given false
  none_viewed None w e = no_view s kept given from to name age w
  none_viewed (Some y) w e = absurd (cc)

  pub some_viewed : (o : Option Octets) → IsWithin s kept from to name 0 age o → is_some o ≡ true → s.max_validity ≤ seconds 6048000 → (b : Bool) → TellsAged kept from to name (seconds_of age) given b → TellsView s kept from to name age given b
  some_viewed None w e most b t = absurd (cc)
  some_viewed (Some y) w e most b t = tells_view s kept given y from to name age most w b t

  pub none_revived : (more : ℕ) (o : Option Octets) → more ≡ s.stale_for → IsWithin s kept from to name more age o → o ≡ None → TellsStale s kept from to name age given false
  none_revived more None is w e = none_stale s kept given from to name age (subst (λ m. IsLate s kept from to name m age) is w)
  none_revived more (Some y) is w e = absurd (cc)

  pub some_revived : (more : ℕ) (view y : Octets) → more ≡ s.stale_for → IsWithin s kept from to name more age (Some view) → (s.stale_for ≡ 0 → ⊥) → tells_of_name (opt_rcode kept) ≡ true
      → IsExpired view (header_of view) to name (Some y) → (b : Bool) → TellsSame given y b → TellsStale s kept from to name age given b
  some_revived more view y is w allowed tells expired b t = tells_stale s kept given view from to name age allowed tells (subst (λ m. IsFound s kept from to name m age view) is w) y expired b t

  pub unread_revived : (more : ℕ) (view : Octets) → more ≡ s.stale_for → IsWithin s kept from to name more age (Some view) → (s.stale_for ≡ 0 → ⊥) → tells_of_name (opt_rcode kept) ≡ true
      → IsExpired view (header_of view) to name None → TellsStale s kept from to name age given false
  unread_revived more view is w allowed tells none = unread_stale s kept given view from to name age allowed tells (subst (λ m. IsFound s kept from to name m age view) is w) none
