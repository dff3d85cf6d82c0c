-- Under how many ids a datagram answers.
use Rattle.std.proofs.Common.{◌≡◌, ℕ, zero, suc, ◌+◌, ◌≤◌, Bool, true, false, List, [], ◌∷◌, length, refl, sym, arith}
use Rattle.std.specs.Prelude.{◌&&◌, ◌||◌, ◌==◌}
use Rattle.client_request.specs.Request.{Request}
use Rattle.dns_base.specs.Answering.{is_answer}
use Rattle.dns_base.specs.Header.{id_of, qr_of}
use Rattle.right_trace.specs.Messages.{Octets, answers}
use Rattle.right_trace.specs.Time.{count_below, one_if}
use Rattle.proof_forwarding.specs.Forging.{ForgedAnswersAreFew, one_answers}
use Rattle.proof_forwarding.proofs.Keeping.{same_number}

one_or : (a b : Bool) → one_if (a || b) ≤ one_if a + one_if b
one_or true b = by b
  where
    by : (b : Bool) → 1 ≤ 1 + one_if b
    by true = omega arith
    by false = omega arith
one_or false true = omega arith
one_or false false = omega arith

count_or : (f g : ℕ → Bool) (n : ℕ) → count_below (λ i. f i || g i) n ≤ count_below f n + count_below g n
count_or f g zero = omega arith
count_or f g (suc n) = let before = count_or f g n in let one = one_or (f n) (g n) in omega arith

count_none : (n : ℕ) → count_below (λ i. false) n ≡ 0
count_none zero = refl
count_none (suc n) = let before = count_none n in omega arith

-- a test that one number at most passes
count_one : (f : ℕ → Bool) (c : ℕ) → ((i : ℕ) → f i ≡ true → i ≡ c) → (n : ℕ) → (count_below f n ≤ 1) × (n ≤ c → count_below f n ≡ 0)
count_one f c only zero = (omega arith, λ low. refl)
count_one f c only (suc n) = go (f n) refl (count_one f c only n)
  where
    go : (b : Bool) → f n ≡ b → (count_below f n ≤ 1) × (n ≤ c → count_below f n ≡ 0) → (count_below f n + one_if b ≤ 1) × (suc n ≤ c → count_below f n + one_if b ≡ 0)
    go true is before =
        let here : n ≡ c = only n is in
        let none : count_below f n ≡ 0 = before.1 (omega arith) in
        (omega arith, λ low. absurd (omega arith))
    go false is before = (let few = before.0 in omega arith, λ low. (let none : count_below f n ≡ 0 = before.1 (omega arith) in omega arith))

second : (a b c : Bool) → (a && (b && c)) ≡ true → b ≡ true
second true true c is = refl
second true false c is = is
second false b c is = absurd (cc)

-- a message answers under its own id alone
named : (r : Request) (d : Octets) (id : ℕ) → answers r id d ≡ true → id ≡ id_of d
unfolding answers is_answer
named r d id is = sym (same_number (id_of d) id (second (qr_of d) (id_of d == id) _ is))

few : (r : Request) (forged : List Octets) (n : ℕ) → count_below (one_answers r forged) n ≤ length forged
few r [] n = let none = count_none n in omega arith
few r (d ∷ forged) n =
    let both : count_below (one_answers r (d ∷ forged)) n ≤ count_below (λ id. answers r id d) n + count_below (one_answers r forged) n = count_or (λ id. answers r id d) (one_answers r forged) n in
    let one = (count_one (λ id. answers r id d) (id_of d) (named r d) n).0 in
    let rest = few r forged n in
    omega arith

pub forged_answers_are_few : ForgedAnswersAreFew
forged_answers_are_few r forged ids = few r forged ids
