-- A table of addresses to which one is added.
use Rattle.std.proofs.Common.{◌≡◌, ℕ, List, [], ◌∷◌, ◌++◌, Bool, true, false, if◌then◌else◌, Option, Some, None, refl, ap, sym, subst, ◌∙◌}
use Rattle.std.proofs.lemmas.Map.Text.{is_eq-slice_cmp}
use Rattle.std.proofs.lemmas.Slice.Eq.{bytes_eq-Decides}
use Rattle.std.proofs.lemmas.List.{append-nil}
use Rattle.std.specs.BTreeMap.{UpdatesBy, get_by, is_at}
use Rattle.std.specs.Cmp.Lexicographic.{slice_cmp}
use Rattle.std.specs.Map.{AreApart, IsKeyTest, KeepsOthers}
use Rattle.std.specs.Ordering.{eq_by_cmp, is_eq, nat_cmp}
use Rattle.std.specs.Prelude.{Vec}
use Rattle.std.specs.Str.{bytes_eq}
use Rattle.std.specs.declared.alloc.Global.{Global}
use Rattle.std.specs.declared.cmp.Ordering.{Ordering}
use Rattle.dns_names.specs.Name.{IsLegal, Labels, same_name}
use Rattle.dns_values.specs.declared.address.IpAddr.{IpAddr}
use Rattle.resolv_lookup.proofs.HostKeys.{keys_agree, keys_differ}
use Rattle.resolv_lookup.specs.HostTable.{Shared, Table, address_if, addresses_at, addresses_in, key_of}

abbrev Key : Type 0
Key = Vec ℕ Global

abbrev compares : Key → Key → Ordering
compares a b = slice_cmp nat_cmp a.items b.items

abbrev asks : List ℕ → Key → Ordering
asks octets k = slice_cmp nat_cmp octets k.items

found : (octets : List ℕ) (k : Key) → is_at (asks octets) k ≡ true → octets ≡ k.items
found octets k at = (bytes_eq-Decides octets k.items).0 (sym (is_eq-slice_cmp octets k.items) ∙ at)

-- octets are asked for as one key is
tests_key : (octets : List ℕ) → IsKeyTest (eq_by_cmp compares) (is_at (asks octets))
tests_key octets x y at = ap (λ (xs : List ℕ). is_eq (slice_cmp nat_cmp xs y.items)) (found octets x at)

apart : (a b : List ℕ) → bytes_eq a b ≡ false → AreApart (is_at (asks b)) (is_at (asks a))
apart a b other k at = is_eq-slice_cmp a k.items ∙ ap (λ (xs : List ℕ). bytes_eq a xs) (sym (found b k at)) ∙ other

-- a change at a key changes nothing at other octets
keeps : (old new : Table) (octets key : List ℕ) (w : Option Shared) → bytes_eq octets key ≡ false → UpdatesBy compares (asks key) old new w → get_by (asks octets) new ≡ get_by (asks octets) old
unfolding KeepsOthers
keeps old new octets key w other u = u.3 (is_at (asks octets)) (tests_key octets) (apart octets key other)

-- An address is added behind those of its owner.
pub added : (old mid new : Table) (key : List ℕ) (shared : Shared) (owner : Labels) (address : IpAddr) (all : List IpAddr) → key ≡ key_of owner → IsLegal owner
    → UpdatesBy compares (asks key) old mid None → UpdatesBy compares (asks key) mid new (Some shared)
    → all ≡ addresses_in (get_by (asks key) old) → shared.value.items ≡ all ++ address ∷ []
    → (host : Labels) → IsLegal host → addresses_at (key_of host) new ≡ addresses_at (key_of host) old ++ address_if host owner address
added old mid new key shared owner address all is legal taken put were are host own = by (same_name owner host) refl
  where
    by : (b : Bool) → same_name owner host ≡ b → addresses_at (key_of host) new ≡ addresses_at (key_of host) old ++ (if b then address ∷ [] else [])
    by true same =
        let at : key ≡ key_of host = is ∙ keys_agree owner host legal own same in
        let now : addresses_at key new ≡ shared.value.items = ap addresses_in put.1 in
        subst (λ (k : List ℕ). addresses_at k new ≡ addresses_at k old ++ address ∷ []) at (now ∙ are ∙ ap (λ (xs : List IpAddr). xs ++ address ∷ []) were)
    by false other =
        let apart : bytes_eq (key_of host) key ≡ false = rw is (keys_differ owner host legal own other) in
        let same : get_by (asks (key_of host)) new ≡ get_by (asks (key_of host)) old = keeps mid new (key_of host) key (Some shared) apart put ∙ keeps old mid (key_of host) key None apart taken in
        ap addresses_in same ∙ sym (append-nil _)
