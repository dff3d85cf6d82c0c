-- What was asked stays asked; and covering goes on.
use Rattle.std.proofs.Common.{◌≡◌, ℕ, suc, ◌<◌, ◌≢◌, Bool, true, false, inl, inr, Some, [], ◌∷◌, refl, arith, sym, ◌∙◌, ap, subst, ◌==◌, ◌&&◌, ◌||◌}
use Rattle.std.specs.Prelude.{if◌then◌else◌, max, not}
use Rattle.std.proofs.lemmas.Bool.Decides.{nat_tests}
use Rattle.dns_base.specs.Header.{cd_of}
use Rattle.client_request.specs.Request.{Request}
use Rattle.client_request.specs.declared.event.Event.{Event}
use Rattle.right_trace.specs.Trace.{History, Item, Came, Put}
use Rattle.right_trace.specs.Time.{now, newest, row_before, EarlierRow}
use Rattle.right_trace.specs.Requests.{asks, Asking, asking, asking_of, is_ask, is_asked_here}
use Rattle.right_trace.specs.Keys.{FlagClass, Do, Ad, Plain, Key, KeysCover, Covers, KeyCovers, key_of, is_cacheable, flags_cover, is_do, is_signing}

pub asking_below : (k : ℕ) (a : Asking) (h : History) → asking k h ≡ Some a → k < asks h
asking_below k a [] e = absurd (cc)
asking_below k a (Came e ∷ h) q = go (asking_below k a h) (is_ask e.what) (asks h == k) refl refl q
  where
    go : (asking k h ≡ Some a → k < asks h) → (b z : Bool) → is_ask e.what ≡ b → (asks h == k) ≡ z → (if b && z then asking_of e.what (max e.moment.0 (now h)) else asking k h) ≡ Some a → k < asks (Came e ∷ h)
    go low true true eb ez q = (let is : asks h ≡ k = grind (arith, nat_tests) in subst (λ n. k < n) (sym (ap (λ b. if b then suc (asks h) else asks h) eb)) (omega arith))
    go low true false eb ez q = (let lt = low q in subst (λ n. k < n) (sym (ap (λ b. if b then suc (asks h) else asks h) eb)) (omega arith))
    go low false z eb ez q = (let lt = low q in subst (λ n. k < n) (sym (ap (λ b. if b then suc (asks h) else asks h) eb)) lt)
asking_below k a (Put o ∷ h) q = asking_below k a h q

if_off : {A : Type 0} (b z : Bool) (x y : A) → z ≡ false → (if b && z then x else y) ≡ y
if_off true z x y e = ap (λ z. if z then x else y) e
if_off false z x y e = refl

pub asking_other : (k : ℕ) (e : Event) (h : History) → k ≢ asks h → asking k (Came e ∷ h) ≡ asking k h
asking_other k e h ne = if_off (is_ask e.what) (asks h == k) (asking_of e.what (max e.moment.0 (now h))) (asking k h) (grind (arith, nat_tests))

pub asking_came : (k : ℕ) (a : Asking) (e : Event) (h : History) → asking k h ≡ Some a → asking k (Came e ∷ h) ≡ Some a
asking_came k a e h q = (let lt = asking_below k a h q in asking_other k e h (λ is. (omega arith)) ∙ q)

asking_item : (k : ℕ) (a : Asking) (x : Item) (h : History) → asking k h ≡ Some a → asking k (x ∷ h) ≡ Some a
asking_item k a (Came e) h q = asking_came k a e h q
asking_item k a (Put o) h q = q

pub asking_row : (k : ℕ) (a : Asking) (h : History) → asking k (row_before h) ≡ Some a → asking k h ≡ Some a
asking_row k a [] q = q
asking_row k a (Came e ∷ h) q = asking_came k a e h q
asking_row k a (Put o ∷ h) q = asking_row k a h q

-- what is known of a request in an earlier row, where what was asked then is asked now
pub earlier_asked : (P Q : History → Type 0) (k : ℕ) (h : History) → ((e : History) → ((a : Asking) → asking k (row_before e) ≡ Some a → asking k h ≡ Some a) → P e → Q e) → EarlierRow P h → EarlierRow Q h
earlier_asked P Q k [] f x = absurd x
earlier_asked P Q k (Came e ∷ h) f (inl p) = inl (f h (λ a q. asking_came k a e h (asking_row k a h q)) p)
earlier_asked P Q k (Came e ∷ h) f (inr x) = inr (earlier_asked P Q k h (λ g on. f g (λ a q. asking_came k a e h (on a q))) x)
earlier_asked P Q k (Put o ∷ h) f x = earlier_asked P Q k h f x

-- a request for which something was in an earlier row was asked before this row
pub earlier_known : (P : History → Type 0) (k : ℕ) (h : History) → ((e : History) → P e → (a : Asking) × (asking k (row_before e) ≡ Some a)) → EarlierRow P h → (a : Asking) × (asking k (row_before h) ≡ Some a)
earlier_known P k [] f x = absurd x
earlier_known P k (Came e ∷ h) f (inl p) = (let r = f h p in (r.0, asking_row k (r.0) h r.1))
earlier_known P k (Came e ∷ h) f (inr x) = (let r = earlier_known P k h f x in (r.0, asking_row k (r.0) h r.1))
earlier_known P k (Put o ∷ h) f x = earlier_known P k h f x

pub here_asks : (k : ℕ) (h : History) → is_asked_here k h ≡ true → asks (row_before h) ≡ k
here_asks k [] e = absurd (cc)
here_asks k (Came e ∷ h) q = go (is_ask e.what) (asks h == k) refl q
  where
    go : (b z : Bool) → (asks h == k) ≡ z → (b && z) ≡ true → asks h ≡ k
    go true true ez q = grind (arith, nat_tests)
    go true false ez q = absurd (cc)
    go false z ez q = absurd (cc)
here_asks k (Put o ∷ h) q = here_asks k h q

pub here_is_ask : (k : ℕ) (h : History) → is_asked_here k h ≡ true → is_ask (newest h) ≡ true
here_is_ask k [] e = absurd (cc)
here_is_ask k (Came e ∷ h) q = go (is_ask e.what) (asks h == k) q
  where
    go : (b z : Bool) → (b && z) ≡ true → b ≡ true
    go true z q = refl
    go false z q = absurd (cc)
here_is_ask k (Put o ∷ h) q = here_is_ask k h q

-- Covering

flags_trans : (q m r : FlagClass) → flags_cover q m ≡ true → flags_cover m r ≡ true → flags_cover q r ≡ true
flags_trans Do m r a b = refl
flags_trans Ad Do r a b = absurd (cc)
flags_trans Ad Ad r a b = b
flags_trans Ad Plain Do a b = absurd (cc)
flags_trans Ad Plain Ad a b = absurd (cc)
flags_trans Ad Plain Plain a b = refl
flags_trans Plain Do r a b = absurd (cc)
flags_trans Plain Ad r a b = absurd (cc)
flags_trans Plain Plain r a b = b

-- what covers DO has DO
pub do_back : (q r : FlagClass) → flags_cover q r ≡ true → is_do r ≡ true → is_do q ≡ true
do_back Do r a e = refl
do_back Ad Do a e = a
do_back Ad Ad a e = e
do_back Ad Plain a e = e
do_back Plain Do a e = a
do_back Plain Ad a e = e
do_back Plain Plain a e = e

rd_trans : (q m r : Bool) → (q || not m) ≡ true → (m || not r) ≡ true → (q || not r) ≡ true
rd_trans true m r a b = refl
rd_trans false true r a b = absurd (cc)
rd_trans false false r a b = b

sign_trans : (q m r z : Bool) → (q ≡ true → z ≡ true → m ≡ true) → (m ≡ true → z ≡ true → r ≡ true) → (not (q && z) || r) ≡ true
sign_trans true m true z a b = go z
  where
    go : (z : Bool) → (not z || true) ≡ true
    go true = refl
    go false = refl
sign_trans true m false true a b = absurd (let x = b (a refl refl) refl in cc)
sign_trans true m false false a b = refl
sign_trans false m r z a b = refl

sign_out : (q m z : Bool) → (not (q && z) || m) ≡ true → q ≡ true → z ≡ true → m ≡ true
sign_out true m true e a b = e
sign_out true m false e a b = absurd (cc)
sign_out false m z e a b = absurd (cc)

pub keys_trans : (q m r : Key) → KeysCover q m → KeysCover m r → KeysCover q r
keys_trans q m r a b = record {
  name = a.name ∙ b.name;
  rtype = a.rtype ∙ b.rtype;
  class = a.class ∙ b.class;
  cd = a.cd ∙ b.cd;
  rd = rd_trans q.rd m.rd r.rd a.rd b.rd;
  flags = flags_trans q.flags m.flags r.flags a.flags b.flags;
  signing = sign_trans (is_do q.flags) (is_do m.flags) (is_do r.flags) (is_signing q.rtype) (sign_out (is_do q.flags) (is_do m.flags) (is_signing q.rtype) a.signing)
      (λ x z. sign_out (is_do m.flags) (is_do r.flags) (is_signing m.rtype) b.signing x (subst (λ t. is_signing t ≡ true) a.rtype z));
}

-- Requests that are kept apart by CD never cover each other; covering goes on.
pub covers_trans : (q m r : Request) → Covers q m → Covers m r → Covers q r
covers_trans q m r a b = record { first = a.first; second = b.second; keys = keys_trans (key_of q) (key_of m) (key_of r) a.keys b.keys }

rd_refl : (q : Bool) → (q || not q) ≡ true
rd_refl true = refl
rd_refl false = refl

flags_refl : (q : FlagClass) → flags_cover q q ≡ true
flags_refl Do = refl
flags_refl Ad = refl
flags_refl Plain = refl

sign_refl : (q z : Bool) → (not (q && z) || q) ≡ true
sign_refl true true = refl
sign_refl true false = refl
sign_refl false z = refl

pub keys_refl : (k : Key) → KeysCover k k
keys_refl k = record { name = refl; rtype = refl; class = refl; cd = refl; rd = rd_refl k.rd; flags = flags_refl k.flags; signing = sign_refl (is_do k.flags) (is_signing k.rtype) }

pub covers_refl : (q : Request) → is_cacheable q ≡ true → Covers q q
covers_refl q e = record { first = e; second = e; keys = keys_refl (key_of q) }

-- what is stored under a key that a request's key covers serves whom that key serves
pub serves : (q r : Request) (k : Key) → is_cacheable q ≡ true → KeysCover (key_of q) k → KeyCovers k r → Covers q r
serves q r k e a b = record { first = e; second = b.cacheable; keys = keys_trans (key_of q) k (key_of r) a b.keys }

-- requests that differ in CD never cover each other (RFC 4035 4.7)
pub apart_by_cd : (q r : Request) → cd_of q.header ≢ cd_of r.header → Covers q r → ⊥
unfolding key_of
apart_by_cd q r ne x = ne x.keys.cd
