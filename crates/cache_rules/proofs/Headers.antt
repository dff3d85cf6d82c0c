-- A header whose flags are cleared says the same but for these.
use Rattle.std.proofs.Common.{◌≡◌, ℕ, Bool, true, false, List, [], ◌∷◌, length, refl, ap, sym, subst, ◌∙◌, arith, ◌&&◌, ◌==◌, ◌/◌}
use Rattle.std.specs.Prelude.{bit_and, not}
use Rattle.std.proofs.lemmas.Nat.{and_assoc, and_shr}
use Rattle.std.specs.Int.Bits.{and_zero_r}
use Rattle.dns_base.specs.Header.{with_aa, with_ad, with_rd}
use Rattle.right_trace.specs.Keys.{FlagClass, Key, is_plain}
use Rattle.right_trace.specs.Parts.{Header, flags_in}
use Rattle.right_trace.specs.Views.{viewed_header}
use Rattle.cache_rules.specs.Viewing.{without_ad, without_rd, header_between}

-- bits that a mask keeps, and bits that it clears
kept : (x mask bits : ℕ) → bit_and mask bits ≡ bits → bit_and (bit_and x mask) bits ≡ bit_and x bits
kept x mask bits e = and_assoc bits x mask ∙ ap (bit_and x) e

gone : (x mask bits : ℕ) → bit_and mask bits ≡ 0 → bit_and (bit_and x mask) bits ≡ 0
gone x mask bits e = and_assoc bits x mask ∙ (ap (bit_and x) e ∙ and_zero_r x)

abbrev is_set : ℕ → Bool
is_set n = not (n == 0)

same : (id : ℕ) {o1 o2 r1 r2 : ℕ} {q1 q2 a1 a2 t1 t2 d1 d2 v1 v2 z1 z2 n1 n2 c1 c2 : Bool} → o1 ≡ o2 → r1 ≡ r2 → q1 ≡ q2 → a1 ≡ a2 → t1 ≡ t2 → d1 ≡ d2 → v1 ≡ v2 → z1 ≡ z2 → n1 ≡ n2 → c1 ≡ c2
    → Path Header (record { id = id; opcode = o1; rcode = r1; qr = q1; aa = a1; tc = t1; rd = d1; ra = v1; z = z1; ad = n1; cd = c1 }) (record { id = id; opcode = o2; rcode = r2; qr = q2; aa = a2; tc = t2; rd = d2; ra = v2; z = z2; ad = n2; cd = c2 })
same id o r q a t d v z n c = cc

without_aa : (a b c d : ℕ) → flags_in (with_aa false (a ∷ b ∷ c ∷ d ∷ [])) ≡ record (flags_in (a ∷ b ∷ c ∷ d ∷ [])) { aa = false }
without_aa a b c d =
    same (flags_in (a ∷ b ∷ c ∷ d ∷ [])).id (ap (λ n. bit_and n 15) (and_shr c 251 3) ∙ kept (c / 8) 31 15 refl) refl
    (ap is_set (kept c 251 128 refl)) (ap is_set (gone c 251 4 refl)) (ap is_set (kept c 251 2 refl)) (ap is_set (kept c 251 1 refl)) refl refl refl refl

off_rd : (a b c d : ℕ) → flags_in (with_rd false (a ∷ b ∷ c ∷ d ∷ [])) ≡ record (flags_in (a ∷ b ∷ c ∷ d ∷ [])) { rd = false }
off_rd a b c d =
    same (flags_in (a ∷ b ∷ c ∷ d ∷ [])).id (ap (λ n. bit_and n 15) (and_shr c 254 3) ∙ kept (c / 8) 31 15 refl) refl
    (ap is_set (kept c 254 128 refl)) (ap is_set (kept c 254 4 refl)) (ap is_set (kept c 254 2 refl)) (ap is_set (gone c 254 1 refl)) refl refl refl refl

off_ad : (a b c d : ℕ) → flags_in (with_ad false (a ∷ b ∷ c ∷ d ∷ [])) ≡ record (flags_in (a ∷ b ∷ c ∷ d ∷ [])) { ad = false }
off_ad a b c d =
    same (flags_in (a ∷ b ∷ c ∷ d ∷ [])).id refl (kept d 223 15 refl)
    refl refl refl refl (ap is_set (kept d 223 128 refl)) (ap is_set (kept d 223 64 refl)) (ap is_set (gone d 223 32 refl)) (ap is_set (kept d 223 16 refl))

and_on : (b : Bool) → b && true ≡ b
and_on true = refl
and_on false = refl

and_off : (b : Bool) → b && false ≡ false
and_off true = refl
and_off false = refl

-- flags that may be cleared
abbrev rd_less : Bool → Header → Header
rd_less b x = record x { rd = x.rd && not b }

abbrev ad_less : Bool → Header → Header
ad_less b x = record x { ad = x.ad && not b }

record IsFour (h : List ℕ) : Type 0 where
  first : ℕ
  second : ℕ
  third : ℕ
  fourth : ℕ
  are : h ≡ first ∷ second ∷ third ∷ fourth ∷ []

is_four : (h : List ℕ) → length h ≡ 4 → IsFour h
is_four [] e = absurd cc
is_four (a ∷ []) e = absurd (omega arith)
is_four (a ∷ b ∷ []) e = absurd (omega arith)
is_four (a ∷ b ∷ c ∷ []) e = absurd (omega arith)
is_four (a ∷ b ∷ c ∷ d ∷ []) e = record { first = a; second = b; third = c; fourth = d; are = refl }
is_four (a ∷ b ∷ c ∷ d ∷ x ∷ more) e = absurd (omega arith)

rd_on_four : (f : Bool) (a b c d : ℕ) → flags_in (without_rd f (a ∷ b ∷ c ∷ d ∷ [])) ≡ rd_less f (flags_in (a ∷ b ∷ c ∷ d ∷ []))
rd_on_four true a b c d = off_rd a b c d ∙ ap (λ v. record (flags_in (a ∷ b ∷ c ∷ d ∷ [])) { rd = v }) (sym (and_off _))
rd_on_four false a b c d = ap (λ v. record (flags_in (a ∷ b ∷ c ∷ d ∷ [])) { rd = v }) (sym (and_on (flags_in (a ∷ b ∷ c ∷ d ∷ [])).rd))

ad_on_four : (f : Bool) (a b c d : ℕ) → flags_in (without_ad f (a ∷ b ∷ c ∷ d ∷ [])) ≡ ad_less f (flags_in (a ∷ b ∷ c ∷ d ∷ []))
ad_on_four true a b c d = off_ad a b c d ∙ ap (λ v. record (flags_in (a ∷ b ∷ c ∷ d ∷ [])) { ad = v }) (sym (and_off _))
ad_on_four false a b c d = ap (λ v. record (flags_in (a ∷ b ∷ c ∷ d ∷ [])) { ad = v }) (sym (and_on (flags_in (a ∷ b ∷ c ∷ d ∷ [])).ad))

all_on_four : (p f : Bool) (a b c d : ℕ) → flags_in (without_rd f (without_ad p (with_aa false (a ∷ b ∷ c ∷ d ∷ [])))) ≡ rd_less f (ad_less p (record (flags_in (a ∷ b ∷ c ∷ d ∷ [])) { aa = false }))
all_on_four true f a b c d = rd_on_four f a b (bit_and c 251) (bit_and d 223) ∙ ap (rd_less f) (ad_on_four true a b (bit_and c 251) d ∙ ap (ad_less true) (without_aa a b c d))
all_on_four false f a b c d = rd_on_four f a b (bit_and c 251) d ∙ ap (rd_less f) (ad_on_four false a b (bit_and c 251) d ∙ ap (ad_less false) (without_aa a b c d))

long_four : (p f : Bool) (a b c d : ℕ) → length (without_rd f (without_ad p (with_aa false (a ∷ b ∷ c ∷ d ∷ [])))) ≡ 4
long_four true true a b c d = refl
long_four true false a b c d = refl
long_four false true a b c d = refl
long_four false false a b c d = refl

-- the header of a view says what the view's header says
pub header_viewed : (q r : Key) (h : List ℕ) → length h ≡ 4 → flags_in (header_between q.flags r.flags (q.rd && not r.rd) h) ≡ viewed_header q r (flags_in h)
header_viewed q r h long =
    let x = is_four h long in
    subst (λ h. flags_in (header_between q.flags r.flags (q.rd && not r.rd) h) ≡ viewed_header q r (flags_in h)) (sym x.are)
    (all_on_four (is_plain r.flags && not (is_plain q.flags)) (q.rd && not r.rd) x.first x.second x.third x.fourth)

pub header_long : (from to : FlagClass) (f : Bool) (h : List ℕ) → length h ≡ 4 → length (header_between from to f h) ≡ 4
header_long from to f h long =
    let x = is_four h long in
    subst (λ h. length (header_between from to f h) ≡ 4) (sym x.are) (long_four (is_plain to && not (is_plain from)) f x.first x.second x.third x.fourth)
