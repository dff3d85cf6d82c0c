-- The newest connection that has room, or that each is full.
use Rattle.std.proofs.Common.{◌≡◌, ℕ, ◌<◌, ◌≤◌, ◌⊎◌, inl, inr, Bool, true, false, cond, ◌==◌, List, [], ◌∷◌, length, Option, Some, None, nat_cmp, is_eq, refl, sym, ap, subst, ◌∙◌, arith}
use Rattle.std.specs.Prelude.{option_map, option_and_then, if◌then◌else◌, is_some}
use Rattle.std.proofs.lemmas.Bool.Decides.{nat_tests}
use Rattle.client_request.specs.Numbered.{entry_at}
use Rattle.client_request.specs.Request.{Request}
use Rattle.client_request.specs.Requests.{for_one}
use Rattle.client_stream.specs.declared.request.Holder.{Holder}
use Rattle.client_multi.specs.Links.{Link, one_stream}
use Rattle.client_multi.specs.MultiStream.{newest, with_room}
use Rattle.right_trace.specs.Time.{id_count, all_ids, count_below}
use Rattle.proof_right.proofs.server.Counts.{count_same}
use Rattle.proof_right.specs.machine.Streams.{Conn, Multi, IsFull}
use Rattle.proof_parts.specs.Lines.{SingleLine, seats_of, IsLineAt}
use Rattle.proof_parts.specs.Seats.{IdFits, IsFree, IsHeld, WasGivenUp}
use Rattle.proof_parts.proofs.HeldIds.{entries_count}
use Rattle.proof_parts.proofs.Tables.{rises_below}
use Rattle.right_trace.specs.Trace.{Conf}

abbrev pub Links : Type 0
Links = List (ℕ × Link Request)

abbrev pub is_full : Link Request → Bool
is_full c = length c.line.held.held == 32768

-- the first of a table, or another
one_of : (q k : ℕ) (v : Link Request) (es : Links) (c : Link Request) → entry_at q es ≡ Some c → (d : Link Request) × (entry_at q ((k, v) ∷ es) ≡ Some d)
one_of q k v es c is = by (is_eq (nat_cmp q k))
  where
    by : (b : Bool) → (d : Link Request) × (cond b (Some v) (entry_at q es) ≡ Some d)
    by true = (v, refl)
    by false = (c, is)

first_one : (k : ℕ) (v : Link Request) (es : Links) → entry_at k ((k, v) ∷ es) ≡ Some v
first_one k v es = ap (λ b. cond b (Some v) (entry_at k es)) (itself k)
  where
    itself : (k : ℕ) → is_eq (nat_cmp k k) ≡ true
    itself k = grind (arith, nat_tests)

room_some : (found : Option ℕ) (es : Links) (p : ℕ) → newest (one_stream for_one) found es ≡ Some p → (found ≡ Some p) ⊎ ((c : Link Request) × (entry_at p es ≡ Some c))
room_some found [] p is = inl is
room_some found (e ∷ es) p is = by (is_full e.1) (room_some (if is_full e.1 then found else Some e.0) es p is)
  where
    tail : (c : Link Request) × (entry_at p es ≡ Some c) → (c : Link Request) × (entry_at p (e ∷ es) ≡ Some c)
    tail o = one_of p e.0 e.1 es o.0 o.1

    by : (b : Bool) → ((if b then found else Some e.0) ≡ Some p) ⊎ ((c : Link Request) × (entry_at p es ≡ Some c)) → (found ≡ Some p) ⊎ ((c : Link Request) × (entry_at p (e ∷ es) ≡ Some c))
    by true (inl f) = inl f
    by false (inl f) = inr (e.1, ap (λ q. entry_at q (e ∷ es)) (let s : e.0 ≡ p = cc in sym s) ∙ first_one e.0 e.1 es)
    by true (inr o) = inr (tail o)
    by false (inr o) = inr (tail o)

room_none : (found : Option ℕ) (es : Links) → newest (one_stream for_one) found es ≡ None → (found ≡ None) × ((q : ℕ) (c : Link Request) → entry_at q es ≡ Some c → is_full c ≡ true)
room_none found [] is = (is, λ q c e. absurd (let z : None ≡ Some c = e in cc))
room_none found (e ∷ es) is = by (is_full e.1) refl (room_none (if is_full e.1 then found else Some e.0) es is)
  where
    by : (b : Bool) → is_full e.1 ≡ b → ((if b then found else Some e.0) ≡ None) × ((q : ℕ) (c : Link Request) → entry_at q es ≡ Some c → is_full c ≡ true) → (found ≡ None) × ((q : ℕ) (c : Link Request) → entry_at q (e ∷ es) ≡ Some c → is_full c ≡ true)
    by false f o = absurd (let z : Some e.0 ≡ None = o.0 in cc)
    by true f o = (o.0, λ q c at. here q c (is_eq (nat_cmp q e.0)) at)
      where
        here : (q : ℕ) (c : Link Request) (b : Bool) → cond b (Some e.1) (entry_at q es) ≡ Some c → is_full c ≡ true
        here q c true at = ap is_full (let s : e.1 ≡ c = cc in sym s) ∙ f
        here q c false at = o.1 q c at

-- the one that is found stands there, and where none is each is full
pub room_found : (es : Links) (x : ℕ × Link Request) → with_room (one_stream for_one) es ≡ Some x → entry_at x.0 es ≡ Some x.1
room_found es x is = by (newest (one_stream for_one) None es) is
  where
    in_it : (p : ℕ) (o : Option (Link Request)) → entry_at p es ≡ o → option_map (λ c. (p, c)) o ≡ Some x → entry_at x.0 es ≡ Some x.1
    in_it p None e is = absurd (cc)
    in_it p (Some c) e is = let z : (p, c) ≡ x = cc in subst (λ (x : ℕ × Link Request). entry_at x.0 es ≡ Some x.1) z e

    by : (o : Option ℕ) → option_and_then (λ place. option_map (λ c. (place, c)) (entry_at place es)) o ≡ Some x → entry_at x.0 es ≡ Some x.1
    by None is = absurd (cc)
    by (Some p) is = in_it p (entry_at p es) refl is

pub room_full : (es : Links) → with_room (one_stream for_one) es ≡ None → (q : ℕ) (c : Link Request) → entry_at q es ≡ Some c → is_full c ≡ true
room_full es is = by (newest (one_stream for_one) None es) refl is
  where
    by : (o : Option ℕ) → newest (one_stream for_one) None es ≡ o → option_and_then {U = ℕ × Link Request} (λ place. option_map (λ c. (place, c)) (entry_at place es)) o ≡ None → (q : ℕ) (c : Link Request) → entry_at q es ≡ Some c → is_full c ≡ true
    by None e is = (room_none None es e).1
    by (Some p) e is = elim (room_some None es p e) [
      | inl f ↦ absurd (cc)
      | inr o ↦ absurd (let z : Some (p, o.0) ≡ None = sym (ap (λ (x : Option (Link Request)). option_map {U = ℕ × Link Request} (λ c. (p, c)) x) o.1) ∙ is in cc)
    ]

so_many : 32768 ≡ id_count
unfolding id_count
so_many = refl

all_small : (n : ℕ) → n < 65536 → n ≤ all_ids
unfolding all_ids
all_small n lt = omega arith

-- a connection whose ids are all held is full
pub full_line : (c : Conf) (p : ℕ) (names : ℕ → Option ℕ) (s : SingleLine) (m : Multi) (x : Conn) (f : ℕ → Option ℕ) (ticket : ℕ) → IsLineAt c p names s m x f ticket → (length s.held.held == 32768) ≡ true → IsFull x
full_line c p names s m x f ticket line e = counted all_ids id_count (all_small s.held.mark line.fits.order.small) (same (length s.held.held) e ∙ so_many)
  where
    same : (n : ℕ) → (n == 32768) ≡ true → n ≡ 32768
    same n e = grind (arith, nat_tests)

    held_there : (id : ℕ) → IdFits p names (seats_of s m.asks x.ids) id → is_some (entry_at id s.held.held) ≡ is_some (x.ids id)
    held_there id (IsFree h wr) = ap is_some h ∙ sym (ap is_some wr)
    held_there id (IsHeld j l z y h wr rq nm is sent) = ap is_some h ∙ sym (ap is_some wr)
    held_there id (WasGivenUp y h wr absent) = ap is_some h ∙ sym (ap is_some wr)

    counted : (n top : ℕ) → s.held.mark ≤ n → length s.held.held ≡ top → top ≤ count_below (λ id. is_some (x.ids id)) n
    counted n top le e =
        let count = entries_count 0 n s.held.held (rises_below (λ (e : ℕ × Holder Request Request). e.0) 0 s.held.mark n s.held.held le line.fits.order.sorted) in
        let same = count_same (λ id. is_some (entry_at id s.held.held)) (λ id. is_some (x.ids id)) n (λ id lt. held_there id (line.seated.at_id id)) in
        omega arith
