-- What is read of a name that fills octets.
use Rattle.std.proofs.Common.{◌≡◌, length, ℕ, List, refl, ap, ◌∙◌, sym}
use Rattle.std.specs.Prelude.{Option, Some, None, option_map, option_and_then, ◌==◌, ◌&&◌, if◌then◌else◌}
use Rattle.dns_names.specs.Name.{Found, Labels, octet_count, name_at}
use Rattle.dns_presentation.specs.Locators.{if_spelled, sole_name}

pub sole_found : (count : ℕ) (octets : List ℕ) (labels : Labels) (end : ℕ) → length octets ≡ count
    → ◌≡◌ {A = Option (Labels × ℕ)} (Some (labels, end)) (option_map (λ (f : Found). (f.labels, f.end)) (name_at octets 0))
    → sole_name octets ≡ (if (end == count) && (octet_count labels == count) then Some labels else None)
sole_found count octets labels end h e = ap (λ n. option_and_then (if_spelled n) (name_at octets 0)) h ∙ go (name_at octets 0) e
  where
    go : (o : Option Found) → ◌≡◌ {A = Option (Labels × ℕ)} (Some (labels, end)) (option_map (λ (f : Found). (f.labels, f.end)) o)
        → option_and_then (if_spelled count) o ≡ (if (end == count) && (octet_count labels == count) then Some labels else None)
    go None f = absurd (cc)
    go (Some found) f =
        let pair : ◌≡◌ {A = Labels × ℕ} (labels, end) (found.labels, found.end) = cc in
        let one : labels ≡ found.labels = ap (λ x. x.0) pair in
        let two : end ≡ found.end = ap (λ x. x.1) pair in
        ap (λ n. if (n == count) && (octet_count found.labels == count) then Some found.labels else None) (sym two)
        ∙ ap (λ l. if (end == count) && (octet_count l == count) then Some l else None) (sym one)

pub no_name : (octets : List ℕ) → ◌≡◌ {A = Option (Labels × ℕ)} None (option_map (λ (f : Found). (f.labels, f.end)) (name_at octets 0)) → sole_name octets ≡ None
no_name octets e = go (name_at octets 0) e
  where
    go : (o : Option Found) → ◌≡◌ {A = Option (Labels × ℕ)} None (option_map (λ (f : Found). (f.labels, f.end)) o) → option_and_then (if_spelled (length octets)) o ≡ None
    go None f = refl
    go (Some found) f = absurd (cc)
