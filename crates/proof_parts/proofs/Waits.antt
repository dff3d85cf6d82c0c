-- How long a connection may be idle, and how long is backed off.
use Rattle.std.proofs.Common.{◌≡◌, ℕ, zero, suc, ◌+◌, ◌-◌, ◌*◌, ◌/◌, ◌^◌, ◌≤◌, ◌<◌, Bool, true, false, Some, None, List, [], ◌∷◌, length, drop, refl, sym, ◌∙◌, ap, arith, Option}
use Rattle.std.specs.Prelude.{if◌then◌else◌, nat_le, ◌&&◌, ◌==◌, option_map, option_and_then}
use Rattle.std.specs.Option.{unwrap_or}
use Rattle.std.proofs.lemmas.Bool.Decides.{nat_tests}
use Rattle.std.proofs.Math.Nat.{div-lt_iff_lt-mul, mul-lt-mul_of_pos_right}
use Rattle.dns_base.specs.OptRecord.{OptFields, opt_of}
use Rattle.client_stream.specs.Keepalive.{told_by, told_after, idle_time_told}
use Rattle.client_multi.specs.Retry.{retry_bound}
use Rattle.right_trace.specs.Messages.{keepalive_option, keepalive_in, keepalive_of}
use Rattle.right_trace.specs.Time.{back_off}
use Rattle.right_trace.specs.Timers.{told_idle}
use Rattle.proof_parts.specs.Reading.{IdleIsTold, BackOffIsShort}

-- tenths of a second in microseconds
abbrev scaled : Option ℕ → Option ℕ
scaled o = option_map (λ tenths. tenths * 100000) o

times : (x : ℕ) → 100000 * x ≡ x * 100000
times x = omega arith

one_option : (code count : ℕ) (os : List ℕ) (told : Option ℕ) → keepalive_option code count os (scaled told) ≡ scaled (told_by code count os told)
one_option code count [] told = by (code == 11) (count == 2)
  where
    by : (x y : Bool) → scaled told ≡ scaled (if x && y && false then Some 0 else told)
    by true true = refl
    by true false = refl
    by false true = refl
    by false false = refl
one_option code count (a ∷ []) told = by (code == 11) (count == 2)
  where
    by : (x y : Bool) → scaled told ≡ scaled (if x && y && false then Some (256 * a + 0) else told)
    by true true = refl
    by true false = refl
    by false true = refl
    by false false = refl
one_option code count (a ∷ b ∷ os) told = ap (λ z. if (code == 11) && (count == 2) then Some z else scaled told) (times (256 * a + b)) ∙ by (code == 11) (count == 2) (enough (length os))
  where
    enough : (n : ℕ) → nat_le 2 (suc (suc n)) ≡ true
    enough n = grind (arith, nat_tests)

    by : (x y : Bool) → nat_le 2 (suc (suc (length os))) ≡ true → (if x && y then Some ((256 * a + b) * 100000) else scaled told) ≡ scaled (if x && y && nat_le 2 (suc (suc (length os))) then Some (256 * a + b) else told)
    by true true e = rw e refl
    by true false e = refl
    by false true e = refl
    by false false e = refl

-- all options, one behind the other
all_options : (os : List ℕ) (n fuel : ℕ) (told : Option ℕ) → length os ≤ fuel → keepalive_in fuel (drop n os) (scaled told) ≡ scaled (told_after n os told)
all_options [] zero zero told le = refl
all_options [] zero (suc fuel) told le = refl
all_options [] (suc n) zero told le = refl
all_options [] (suc n) (suc fuel) told le = refl
all_options (a ∷ os) (suc n) fuel told le = all_options os n fuel told (omega arith)
all_options (a ∷ []) zero zero told le = refl
all_options (a ∷ []) zero (suc fuel) told le = refl
all_options (a ∷ b ∷ []) zero zero told le = refl
all_options (a ∷ b ∷ []) zero (suc fuel) told le = refl
all_options (a ∷ b ∷ c ∷ []) zero zero told le = refl
all_options (a ∷ b ∷ c ∷ []) zero (suc fuel) told le = refl
all_options (a ∷ b ∷ c ∷ d ∷ os) zero zero told le = absurd (omega arith)
all_options (a ∷ b ∷ c ∷ d ∷ os) zero (suc fuel) told le =
    ap (keepalive_in fuel (drop (256 * c + d) os)) (one_option (256 * a + b) (256 * c + d) os told)
    ∙ all_options os (256 * c + d) fuel (told_by (256 * a + b) (256 * c + d) os told) (omega arith)

same_default : (o : Option ℕ) (before : ℕ) → unwrap_or o before ≡ told_idle o before
same_default None before = refl
same_default (Some t) before = refl

pub idle_is_told : IdleIsTold
unfolding keepalive_of
idle_is_told message before = same_default (idle_time_told message) before ∙ ap (λ o. told_idle o before) (by (opt_of message))
  where
    by : (o : Option OptFields) → option_map (λ tenths. tenths * 100000) (option_and_then (λ opt. told_after 0 opt.options None) o) ≡ option_and_then (λ opt. keepalive_in (length opt.options) opt.options None) o
    by None = refl
    by (Some opt) = sym (all_options opt.options 0 (length opt.options) None (omega arith))

-- Backing off

share : (w m b : ℕ) → w < m → 0 < b → w * b / m < b
share w m b lt pos =
    let k : 0 < m = omega arith in
    let x : w * b < m * b = mul-lt-mul_of_pos_right lt pos in
    let y : w * b < b * m = omega arith in
    (div-lt_iff_lt-mul k).1 y

bounds : (n : ℕ) → (2 ≤ retry_bound n) × (retry_bound n ≤ 64000000)
bounds zero = (omega arith, omega arith)
bounds (suc zero) = (omega arith, omega arith)
bounds (suc (suc zero)) = (omega arith, omega arith)
bounds (suc (suc (suc zero))) = (omega arith, omega arith)
bounds (suc (suc (suc (suc zero)))) = (omega arith, omega arith)
bounds (suc (suc (suc (suc (suc zero))))) = (omega arith, omega arith)
bounds (suc (suc (suc (suc (suc (suc zero)))))) = (omega arith, omega arith)
bounds (suc (suc (suc (suc (suc (suc (suc n))))))) = by (nat_le (suc (suc (suc (suc (suc (suc (suc n))))))) 6) (past n)
  where
    past : (n : ℕ) → nat_le (suc (suc (suc (suc (suc (suc (suc n))))))) 6 ≡ false
    past n = grind (arith, nat_tests)

    by : (b : Bool) → b ≡ false → (2 ≤ (if b then 1000000 * 2 ^ (suc (suc (suc (suc (suc (suc (suc n))))))) else 60000000)) × ((if b then 1000000 * 2 ^ (suc (suc (suc (suc (suc (suc (suc n))))))) else 60000000) ≤ 64000000)
    by true e = absurd (cc)
    by false e = (omega arith, omega arith)

short : (b r x : ℕ) → r < b - 1 → b ≤ 64000000 → x ≡ 64000000 → 1 + r < x
short b r x lt le e = omega arith

pub back_off_is_short : BackOffIsShort
unfolding back_off
back_off_is_short n word lt =
    let b = bounds n in
    let s = share word (2 ^ 64) (retry_bound n - 1) lt (omega arith) in
    (omega arith, short (retry_bound n) (word * (retry_bound n - 1) / 2 ^ 64) back_off s b.1 refl)
