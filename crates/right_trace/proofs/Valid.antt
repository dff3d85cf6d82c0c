-- The view of a message to its own key is valid as long as the message.
use Rattle.std.proofs.Common.{◌≡◌, ℕ, Bool, true, false, Option, Some, None, List, [], ◌∷◌, is_some, refl, arith, ◌∙◌, ap, ap₂, ◌==◌, ◌&&◌, ◌<◌}
use Rattle.std.specs.Prelude.{if◌then◌else◌, not, map, ◌-◌, min}
use Rattle.dns_names.specs.Name.{Labels}
use Rattle.dns_base.specs.Message.{Asked}
use Rattle.right_trace.specs.Messages.{Octets, truncated}
use Rattle.right_trace.specs.Settings.{Settings}
use Rattle.right_trace.specs.Keys.{FlagClass, Do, Ad, Plain, Key, is_do}
use Rattle.right_trace.specs.Parts.{Header, Item, Parts, read_parts, known_parts}
use Rattle.right_trace.specs.Validity.{good_limit, absent_limit, limit, least, without_opt, validity_of_parts, validity_read, validity_of_message}
use Rattle.right_trace.specs.Views.{with_name, leaves_out, lessened, mostly_lessened, without_signing, viewed}

less_none : (n : ℕ) → n - 0 ≡ n
less_none n = omega arith

out_none : (f : FlagClass) → (is_do f && not (is_do f)) ≡ false
out_none Do = refl
out_none Ad = refl
out_none Plain = refl

module _ {C : Type 0} where
  item_same : (x : Item C) → lessened 0 x ≡ x
  item_same x = ap (λ t. record { owner = x.owner; rtype = x.rtype; class = x.class; ttl = t; content = x.content }) (less_none x.ttl)

  most_same : (x : Item C) → mostly_lessened 0 x ≡ x
  most_same x = go (x.rtype == 41)
    where
      go : (b : Bool) → (if b then x else lessened 0 x) ≡ x
      go true = refl
      go false = item_same x

  map_same : (f : Item C → Item C) → ((x : Item C) → f x ≡ x) → (xs : List (Item C)) → map f (without_signing false xs) ≡ xs
  map_same f same [] = refl
  map_same f same (x ∷ xs) = ap₂ (λ a b. a ∷ b) (same x) (map_same f same xs)

  sections : (f : Item C → Item C) → ((x : Item C) → f x ≡ x) → (k : Key) (xs : List (Item C)) → map f (without_signing (leaves_out k k) xs) ≡ xs
  sections f same k xs = ap (λ b. map f (without_signing b xs)) (out_none k.flags) ∙ map_same f same xs

  -- the name in the question is nothing to the limit
  limit_same : (s : Settings) (x : Parts C) (h : Header) (n : Labels) → limit s (record { header = h; code = x.code; questions = map (with_name n) x.questions; answer = x.answer; authority = x.authority; additional = x.additional }) ≡ limit s x
  limit_same s x h n = go x.questions (x.code == 0) (x.code == 3)
    where
      go : (qs : List Asked) (b d : Bool) → (if b then good_limit s (record { header = h; code = x.code; questions = map (with_name n) x.questions; answer = x.answer; authority = x.authority; additional = x.additional }) (map (with_name n) qs) else (if d then absent_limit s (record { header = h; code = x.code; questions = map (with_name n) x.questions; answer = x.answer; authority = x.authority; additional = x.additional }) (map (with_name n) qs) else s.misc_error_duration))
          ≡ (if b then good_limit s x qs else (if d then absent_limit s x qs else s.misc_error_duration))
      go [] true d = refl
      go (q ∷ qs) true d = refl
      go [] false true = refl
      go (q ∷ qs) false true = refl
      go qs false false = refl

  pub own_view_valid : (s : Settings) (k : Key) (n : Labels) (x : Parts C) → validity_of_parts s (viewed k k n 0 x) ≡ validity_of_parts s x
  own_view_valid s k n x =
      let a = sections (lessened 0) item_same k x.answer in
      let u = sections (lessened 0) item_same k x.authority in
      let d = sections (mostly_lessened 0) most_same k x.additional in
      let h : Header = (viewed k k n 0 x).header in
      let e : viewed k k n 0 x ≡ record { header = h; code = x.code; questions = map (with_name n) x.questions; answer = x.answer; authority = x.authority; additional = x.additional } = same h x.code (map (with_name n) x.questions) a u d in
      ap (validity_of_parts s) e ∙ ap (λ l. if x.header.tc && not s.cache_truncated then 0 else least (least (least (min s.max_validity l) x.answer) x.authority) (without_opt x.additional)) (limit_same s x h n)
    where
      same : (h : Header) (code : ℕ) (qs : List Asked) {a1 a2 u1 u2 d1 d2 : List (Item C)} → a1 ≡ a2 → u1 ≡ u2 → d1 ≡ d2
          → Path (Parts C) (record { header = h; code = code; questions = qs; answer = a1; authority = u1; additional = d1 }) (record { header = h; code = code; questions = qs; answer = a2; authority = u2; additional = d2 })
      same h code qs a u d = cc

-- a message with a validity above 0 is read
pub valid_is_read : (s : Settings) (m : Octets) (n : ℕ) → validity_of_message s m ≡ Some n → 0 < n → (x : Parts Octets) × (read_parts m ≡ Some x) × (validity_of_parts s x ≡ n)
unfolding validity_of_message
valid_is_read s m n e lt = go (truncated m && not s.cache_truncated) (is_some (known_parts m)) (read_parts m) refl e
  where
    go : (b k : Bool) (o : Option (Parts Octets)) → read_parts m ≡ o → (if b then Some 0 else validity_read s k o) ≡ Some n → (x : Parts Octets) × (read_parts m ≡ Some x) × (validity_of_parts s x ≡ n)
    go true k o q e = absurd (let z : 0 ≡ n = cc in omega arith)
    go false true (Some x) q e = (x, q, cc)
    go false false (Some x) q e = absurd (let z : 0 ≡ n = cc in omega arith)
    go false k None q e = absurd (cc)

-- and so is the data of its records
pub valid_is_known : (s : Settings) (m : Octets) (n : ℕ) → validity_of_message s m ≡ Some n → 0 < n → is_some (known_parts m) ≡ true
unfolding validity_of_message
valid_is_known s m n e lt = go (truncated m && not s.cache_truncated) (is_some (known_parts m)) (read_parts m) e
  where
    go : (b k : Bool) (o : Option (Parts Octets)) → (if b then Some 0 else validity_read s k o) ≡ Some n → k ≡ true
    go b true o e = refl
    go true false o e = absurd (let z : 0 ≡ n = cc in omega arith)
    go false false (Some x) e = absurd (let z : 0 ≡ n = cc in omega arith)
    go false false None e = absurd (cc)
