-- Octets that stand at a place among others, and what is read there.
use Rattle.std.proofs.Common.{◌≡◌, ℕ, ◌+◌, ◌<◌, ◌≤◌, ◌^◌, List, [], ◌∷◌, ◌++◌, length, take, drop, refl, ap, sym, subst, ◌∙◌, arith, length-append, append_assoc, append-nil}
use Rattle.std.proofs.lemmas.List.{drop-append-le, length-drop, length-take-le, take-append-drop}
use Rattle.std.specs.Prelude.{Option, Some, None, slice_range}
use Rattle.std.specs.Int.{w16, w32, to_be_bytes, from_be_bytes}
use Rattle.std.proofs.lemmas.Nat.{from_be_bytes-to_be_bytes_2, from_be_bytes-to_be_bytes_4}
use Rattle.dns_names.specs.Name.{Labels, name_at, IsLegal, spelling, octet_count}
use Rattle.dns_names.proofs.NameLaws.{spelled_read, part}
use Rattle.dns_base.specs.Numbers.{u16_at, u32_at}
use Rattle.dns_base.specs.Compression.{Begins}

pub record Stands (octets : List ℕ) (at : ℕ) (xs : List ℕ) : Type 0 where
  pub front : List ℕ
  pub back : List ℕ
  pub is : octets ≡ front ++ (xs ++ back)
  pub long : length front ≡ at

pub first_stands : (octets xs ys : List ℕ) (at : ℕ) → Stands octets at (xs ++ ys) → Stands octets at xs
first_stands octets xs ys at s = record {
  front = s.front;
  back = ys ++ s.back;
  is = s.is ∙ ap (λ z. s.front ++ z) (append_assoc xs ys s.back);
  long = s.long;
}

pub second_stands : (octets xs ys : List ℕ) (at next : ℕ) → Stands octets at (xs ++ ys) → at + length xs ≡ next → Stands octets next ys
second_stands octets xs ys at next s e = record {
  front = s.front ++ xs;
  back = s.back;
  is = s.is ∙ simp append_assoc;
  long = omega (arith, length-append s.front xs, s.long);
}

pub range_stands : (octets xs : List ℕ) (at end : ℕ) → Stands octets at xs → at + length xs ≡ end → slice_range octets at end ≡ xs
range_stands octets xs at end s e = ap (λ o. slice_range o at end) s.is ∙ part s.front xs s.back at end s.long e

pub stands_within : (octets xs : List ℕ) (at : ℕ) → Stands octets at xs → at + length xs ≤ length octets
stands_within octets xs at s = omega (arith, ap length s.is, length-append s.front (xs ++ s.back), length-append xs s.back, s.long)

pub number_stands : (octets : List ℕ) (n at : ℕ) → Stands octets at (to_be_bytes w16 n) → n < 2 ^ 16 → u16_at octets at ≡ n
number_stands octets n at s h = ap (from_be_bytes w16) (range_stands octets (to_be_bytes w16 n) at (at + 2) s refl) ∙ from_be_bytes-to_be_bytes_2 n h

pub wide_stands : (octets : List ℕ) (n at : ℕ) → Stands octets at (to_be_bytes w32 n) → n < 2 ^ 32 → u32_at octets at ≡ n
wide_stands octets n at s h = ap (from_be_bytes w32) (range_stands octets (to_be_bytes w32 n) at (at + 4) s refl) ∙ from_be_bytes-to_be_bytes_4 n h

pub name_stands : (octets : List ℕ) (labels : Labels) (at : ℕ) → Stands octets at (spelling labels) → IsLegal labels
    → name_at octets at ≡ Some (record { labels = labels; end = at + octet_count labels; pointers = 0 })
name_stands octets labels at s h = ap (λ o. name_at o at) s.is ∙ spelled_read labels s.front s.back at s.long h

-- what stands among octets, behind others
pub stands_behind : (front xs back : List ℕ) (at : ℕ) → length front ≡ at → Stands (front ++ (xs ++ back)) at xs
stands_behind front xs back at e = record { front = front; back = back; is = refl; long = e }

-- What some octets have from a place on stands at that place among others too.
abbrev pub Shows : ℕ → List ℕ → List ℕ → Type 0
Shows n octets o = Stands o n (drop n octets)

pub grown : (a b : List ℕ) → Begins a b → b ≡ a ++ drop (length a) b
grown a b h = sym (take-append-drop (length a) b) ∙ ap (λ x. x ++ drop (length a) b) h

pub shows_before : (n : ℕ) (a b o : List ℕ) → n ≤ length a → Begins a b → Shows n b o → Shows n a o
shows_before n a b o long h s =
    let is : drop n b ≡ drop n a ++ drop (length a) b = ap (drop n) (grown a b h) ∙ drop-append-le n a (drop (length a) b) long in
    first_stands o (drop n a) (drop (length a) b) n (subst (Stands o n) is s)

pub shows_behind : (n : ℕ) (a b o : List ℕ) → n ≤ length a → Begins a b → Shows n b o → Shows (length a) b o
shows_behind n a b o long h s =
    let is : drop n b ≡ drop n a ++ drop (length a) b = ap (drop n) (grown a b h) ∙ drop-append-le n a (drop (length a) b) long in
    second_stands o (drop n a) (drop (length a) b) n (length a) (subst (Stands o n) is s) (omega (arith, length-drop n a))

pub shows_added : (n : ℕ) (a xs o : List ℕ) → n ≤ length a → Shows n (a ++ xs) o → Stands o (length a) xs
shows_added n a xs o long s =
    let is : drop n (a ++ xs) ≡ drop n a ++ xs = drop-append-le n a xs long in
    second_stands o (drop n a) xs n (length a) (subst (Stands o n) is s) (omega (arith, length-drop n a))

pub shows_itself : (n : ℕ) (a : List ℕ) → n ≤ length a → Shows n a a
shows_itself n a long = record {
  front = take n a;
  back = [];
  is = sym (take-append-drop n a) ∙ ap (λ x. take n a ++ x) (sym (append-nil (drop n a)));
  long = length-take-le n a long;
}
