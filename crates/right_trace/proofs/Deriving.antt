-- A view of a view is the view: what is derived from an entry that was itself derived is what the first message gives.
use Rattle.std.proofs.Common.{◌≡◌, ℕ, Bool, true, false, List, [], ◌∷◌, refl, arith, sym, ◌∙◌, ap, ap₂, ◌==◌, ◌&&◌, ◌||◌}
use Rattle.std.specs.Prelude.{if◌then◌else◌, not, map, ◌-◌, ◌/◌}
use Rattle.dns_names.specs.Name.{Labels}
use Rattle.dns_base.specs.Message.{Asked}
use Rattle.client_request.specs.Request.{Request}
use Rattle.right_trace.specs.Settings.{Settings}
use Rattle.right_trace.specs.Keys.{FlagClass, Do, Ad, Plain, Key, KeysCover, Covers, key_of, spelled_name, flags_cover, is_do, is_plain, is_signing}
use Rattle.right_trace.specs.Parts.{Header, Item, Parts}
use Rattle.right_trace.specs.Validity.{second, validity_of_parts}
use Rattle.right_trace.specs.Views.{viewed_header, with_name, leaves_out, lessened, mostly_lessened, without_signing, viewed, view_of, view_validity}

rd_twice : (x q m r : Bool) → (q || not m) ≡ true → (m || not r) ≡ true → ((x && not (q && not m)) && not (m && not r)) ≡ (x && not (q && not r))
rd_twice false q m r a b = refl
rd_twice true true true r a b = refl
rd_twice true true false true a b = absurd (cc)
rd_twice true true false false a b = refl
rd_twice true false true r a b = absurd (cc)
rd_twice true false false true a b = absurd (cc)
rd_twice true false false false a b = refl

-- what two classes of flags make of AD
ad_twice : (x : Bool) (q m r : FlagClass) → flags_cover q m ≡ true → flags_cover m r ≡ true → ((x && not (is_plain m && not (is_plain q))) && not (is_plain r && not (is_plain m))) ≡ (x && not (is_plain r && not (is_plain q)))
ad_twice false q m r a b = refl
ad_twice true Do Do r a b = refl
ad_twice true Do Ad Do a b = absurd (cc)
ad_twice true Do Ad Ad a b = refl
ad_twice true Do Ad Plain a b = refl
ad_twice true Do Plain Do a b = absurd (cc)
ad_twice true Do Plain Ad a b = absurd (cc)
ad_twice true Do Plain Plain a b = refl
ad_twice true Ad Do r a b = absurd (cc)
ad_twice true Ad Ad r a b = refl
ad_twice true Ad Plain Do a b = absurd (cc)
ad_twice true Ad Plain Ad a b = absurd (cc)
ad_twice true Ad Plain Plain a b = refl
ad_twice true Plain Do r a b = absurd (cc)
ad_twice true Plain Ad r a b = absurd (cc)
ad_twice true Plain Plain Do a b = absurd (cc)
ad_twice true Plain Plain Ad a b = absurd (cc)
ad_twice true Plain Plain Plain a b = refl

-- what DO added goes once
out_twice : (q m r : FlagClass) → flags_cover q m ≡ true → flags_cover m r ≡ true → ((is_do q && not (is_do m)) || (is_do m && not (is_do r))) ≡ (is_do q && not (is_do r))
out_twice Do Do r a b = refl
out_twice Do Ad Do a b = absurd (cc)
out_twice Do Ad Ad a b = refl
out_twice Do Ad Plain a b = refl
out_twice Do Plain Do a b = absurd (cc)
out_twice Do Plain Ad a b = absurd (cc)
out_twice Do Plain Plain a b = refl
out_twice Ad Do r a b = absurd (cc)
out_twice Ad Ad r a b = refl
out_twice Ad Plain r a b = refl
out_twice Plain Do r a b = absurd (cc)
out_twice Plain Ad r a b = absurd (cc)
out_twice Plain Plain r a b = refl

header_twice : (q m r : Key) (x : Header) → KeysCover q m → KeysCover m r → viewed_header m r (viewed_header q m x) ≡ viewed_header q r x
header_twice q m r x a b = ap₂ (λ u v. record { id = x.id; opcode = x.opcode; rcode = x.rcode; qr = x.qr; aa = false; tc = x.tc; rd = u; ra = x.ra; z = x.z; ad = v; cd = x.cd })
    (rd_twice x.rd q.rd m.rd r.rd a.rd b.rd) (ad_twice x.ad q.flags m.flags r.flags a.flags b.flags)

names_twice : (n o : Labels) (qs : List Asked) → map (with_name n) (map (with_name o) qs) ≡ map (with_name n) qs
names_twice n o [] = refl
names_twice n o (q ∷ qs) = ap (λ z. with_name n q ∷ z) (names_twice n o qs)

zero_seconds : 0 / second ≡ 0
unfolding second
zero_seconds = refl

less_none : (n : ℕ) → n - 0 ≡ n
less_none n = omega arith

module _ {C : Type 0} where
  item_twice : (n : ℕ) (x : Item C) → lessened n (lessened 0 x) ≡ lessened n x
  item_twice n x = ap (λ t. record { owner = x.owner; rtype = x.rtype; class = x.class; ttl = t - n; content = x.content }) (less_none x.ttl)

  mostly_twice : (n : ℕ) (x : Item C) → mostly_lessened n (mostly_lessened 0 x) ≡ mostly_lessened n x
  mostly_twice n x = go (x.rtype == 41) refl
    where
      go : (b : Bool) → (x.rtype == 41) ≡ b → mostly_lessened n (if b then x else lessened 0 x) ≡ mostly_lessened n x
      go true e = refl
      go false e = ap (λ b. if b then lessened 0 x else lessened n (lessened 0 x)) e ∙ (item_twice n x ∙ sym (ap (λ b. if b then x else lessened n x) e))

  -- records are left out twice, and their TTLs lessened at the end
  twice : (f g : Item C → Item C) → ((x : Item C) → f (g x) ≡ f x) → ((x : Item C) → is_signing (g x).rtype ≡ is_signing x.rtype) → (a b : Bool) (xs : List (Item C))
      → map f (without_signing b (map g (without_signing a xs))) ≡ map f (without_signing (a || b) xs)
  twice f g same kind a b [] = refl
  twice f g same kind a b (x ∷ xs) = go a b (is_signing x.rtype) refl (twice f g same kind a b xs)
    where
      go : (a b z : Bool) → is_signing x.rtype ≡ z → map f (without_signing b (map g (without_signing a xs))) ≡ map f (without_signing (a || b) xs)
          → map f (without_signing b (map g (if a && z then without_signing a xs else x ∷ without_signing a xs))) ≡ map f (if (a || b) && z then without_signing (a || b) xs else x ∷ without_signing (a || b) xs)
      go true b true e ih = ih
      go true b false e ih = ap (λ z. map f (if b && z then without_signing b (map g (without_signing true xs)) else g x ∷ without_signing b (map g (without_signing true xs)))) (kind x ∙ e) ∙ (off b ∙ ap₂ (λ u v. u ∷ v) (same x) ih)
        where
          off : (b : Bool) → map f (if b && false then without_signing b (map g (without_signing true xs)) else g x ∷ without_signing b (map g (without_signing true xs))) ≡ f (g x) ∷ map f (without_signing b (map g (without_signing true xs)))
          off true = refl
          off false = refl
      go false true z e ih = ap (λ z. map f (if z then without_signing true (map g (without_signing false xs)) else g x ∷ without_signing true (map g (without_signing false xs)))) (kind x ∙ e) ∙ by z
        where
          by : (z : Bool) → map f (if z then without_signing true (map g (without_signing false xs)) else g x ∷ without_signing true (map g (without_signing false xs))) ≡ map f (if z then without_signing true xs else x ∷ without_signing true xs)
          by true = ih
          by false = ap₂ (λ u v. u ∷ v) (same x) ih
      go false false z e ih = ap₂ (λ u v. u ∷ v) (same x) ih

  mostly_kind : (n : ℕ) (x : Item C) → is_signing (mostly_lessened n x).rtype ≡ is_signing x.rtype
  mostly_kind n x = go (x.rtype == 41)
    where
      go : (b : Bool) → is_signing (if b then x else lessened n x).rtype ≡ is_signing x.rtype
      go true = refl
      go false = refl

  pub viewed_twice : (q m r : Key) (o name : Labels) (n : ℕ) (x : Parts C) → KeysCover q m → KeysCover m r → viewed m r name n (viewed q m o 0 x) ≡ viewed q r name n x
  viewed_twice q m r o name n x a b =
      let out = out_twice q.flags m.flags r.flags a.flags b.flags in
      let one : (xs : List (Item C)) → map (lessened n) (without_signing (leaves_out m r) (map (lessened 0) (without_signing (leaves_out q m) xs))) ≡ map (lessened n) (without_signing (leaves_out q r) xs) =
      λ xs. twice (lessened n) (lessened 0) (item_twice n) (λ x. refl) (leaves_out q m) (leaves_out m r) xs ∙ ap (λ z. map (lessened n) (without_signing z xs)) out in
      let most : (xs : List (Item C)) → map (mostly_lessened n) (without_signing (leaves_out m r) (map (mostly_lessened 0) (without_signing (leaves_out q m) xs))) ≡ map (mostly_lessened n) (without_signing (leaves_out q r) xs) =
      λ xs. twice (mostly_lessened n) (mostly_lessened 0) (mostly_twice n) (mostly_kind 0) (leaves_out q m) (leaves_out m r) xs ∙ ap (λ z. map (mostly_lessened n) (without_signing z xs)) out in
      same x.code (header_twice q m r x.header a b) (names_twice name o x.questions) (one x.answer) (one x.authority) (most x.additional)
    where
      same : (code : ℕ) {h1 h2 : Header} {q1 q2 : List Asked} {a1 a2 u1 u2 d1 d2 : List (Item C)} → h1 ≡ h2 → q1 ≡ q2 → a1 ≡ a2 → u1 ≡ u2 → d1 ≡ d2
          → Path (Parts C) (record { header = h1; code = code; questions = q1; answer = a1; authority = u1; additional = d1 }) (record { header = h2; code = code; questions = q2; answer = a2; authority = u2; additional = d2 })
      same code h q a u d = cc

  -- a view of a view is the view
  pub views_compose : (q m r : Request) (age : ℕ) (x : Parts C) → Covers q m → Covers m r → view_of m r age (view_of q m 0 x) ≡ view_of q r age x
  views_compose q m r age x a b =
      ap (λ z. viewed (key_of m) (key_of r) (spelled_name r) (age / second) (viewed (key_of q) (key_of m) (spelled_name m) z x)) zero_seconds
      ∙ viewed_twice (key_of q) (key_of m) (key_of r) (spelled_name m) (spelled_name r) (age / second) x a.keys b.keys

  -- and is valid as long
  pub validity_composes : (s : Settings) (q m r : Request) (x : Parts C) → Covers q m → Covers m r → view_validity s m r (view_of q m 0 x) ≡ view_validity s q r x
  validity_composes s q m r x a b =
      ap (λ z. validity_of_parts s (viewed (key_of m) (key_of r) (spelled_name r) 0 (viewed (key_of q) (key_of m) (spelled_name m) z x))) zero_seconds
      ∙ ap (validity_of_parts s) (viewed_twice (key_of q) (key_of m) (key_of r) (spelled_name m) (spelled_name r) 0 x a.keys b.keys)
