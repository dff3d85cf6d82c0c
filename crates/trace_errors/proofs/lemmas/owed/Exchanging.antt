-- Whatever may be waited for is kept.
use Rattle.std.proofs.Common.{◌≡◌, ℕ, ◌+◌, ◌==◌, ◌&&◌, inl, inr, not, nat_lt, Bool, true, false, if◌then◌else◌, List, [], ◌∷◌, refl, sym, ap₂, subst, arith}
use Rattle.std.proofs.lemmas.Bool.Decides.{nat_tests}
use Rattle.client_request.specs.Request.{Request}
use Rattle.client_request.specs.declared.event.{Event.Event, Out.Out}
use Rattle.client_request.specs.declared.event.Out.TheVariants.{Start, OpenDgram, OpenStream, Send, Write, Resume, Close, Stale, Reply}
use Rattle.right_trace.specs.Trace.{History, Came, Put, Conf}
use Rattle.right_trace.specs.Time.{now, read_timeout, recv_size}
use Rattle.right_trace.specs.{Messages.Octets, Parts.IsIn}
use Rattle.right_trace.specs.Frames.{came, came_here, brings, received}
use Rattle.right_trace.specs.Writes.{Written, waiting_with}
use Rattle.right_trace.specs.Exchanges.{has_answer, unanswered, octets_for, IsAmong}
use Rattle.trace_tables.specs.Lists.{listed, adds}
use Rattle.trace_tables.proofs.Listing.{listed_adds}
use Rattle.trace_errors.specs.declared.owed.exchanged.Exchange.{Exchange}
use Rattle.trace_errors.specs.owed.Exchanged.{Exchanged, has_put, Known, GoesOn}

pub same_number : (a b : ℕ) → (a == b) ≡ true → a ≡ b
same_number a b e = grind (arith, nat_tests)

own : (a : ℕ) → (a == a) ≡ true
own a = grind (arith, nat_tests)

unless : (b : Bool) (o : Octets) (xs : List Octets) → IsAmong o (if b then [] else xs) → IsAmong o xs
unless true o xs i = absurd i
unless false o xs i = i

written_unless : (b : Bool) (k : ℕ) (o : Octets) (ws : List Written) → IsAmong o (octets_for k (if b then [] else ws)) → IsAmong o (octets_for k ws)
written_unless true k o ws i = absurd i
written_unless false k o ws i = i

known_event : (conf : Conf) (h : History) (t : Exchanged) (e : Event) → Known conf h t → Known conf (Came e ∷ h) t
known_event conf h t e is = record {
  sends = λ r k p id n o i. is.sends r k p id n o (unless (has_answer r id (received (recv_size conf) (came p e.what h))) o (unanswered conf r p k id n h) i);
  writes = λ ms k p id o i. is.writes (came_here p h) k p id o (written_unless (brings id ms) k o (waiting_with (came_here p h) p id h) i);
}

-- an exchange more
kept : (k j : ℕ) (y x : Exchange) (t : Exchanged) → IsIn x (listed k t) → IsIn x (listed k (adds j y t))
kept k j y x t i = subst (IsIn x) (sym (listed_adds k j y t)) (go (j == k))
  where
    go : (b : Bool) → IsIn x (if b then y ∷ listed k t else listed k t)
    go true = inr i
    go false = i

new : (k j p q id i : ℕ) (t : Exchanged) → (q == p) ≡ true → (j == k) ≡ true → (i == id) ≡ true → IsIn (record { place = p; id = id }) (listed k (adds j (record { place = q; id = i }) t))
new k j p q id i t a b c = subst (IsIn (record { place = p; id = id })) (sym (listed_adds k j (record { place = q; id = i }) t))
    (subst (λ x. IsIn (record { place = p; id = id }) (if x then record { place = q; id = i } ∷ listed k t else listed k t)) (sym b)
    (inl (ap₂ (λ p id. record { place = p; id = id }) (same_number q p a) (same_number i id c))))

module _ (conf : Conf) (h : History) (t : Exchanged) (is : Known conf h t) (q j i : ℕ) (s : Octets) where
  send_now : (r : Request) (k p id n : ℕ) (o : Octets) (a b c d : Bool) → (q == p) ≡ a → (j == k) ≡ b → (i == id) ≡ c → IsAmong o (if (a && (b && c)) && d then s ∷ unanswered conf r p k id n h else unanswered conf r p k id n h) → IsIn (record { place = p; id = id }) (listed k (adds j (record { place = q; id = i }) t))
  send_now r k p id n o true true true d e f g m = new k j p q id i t e f g
  send_now r k p id n o true true false d e f g m = kept k j (record { place = q; id = i }) (record { place = p; id = id }) t (is.sends r k p id n o m)
  send_now r k p id n o true false c d e f g m = kept k j (record { place = q; id = i }) (record { place = p; id = id }) t (is.sends r k p id n o m)
  send_now r k p id n o false b c d e f g m = kept k j (record { place = q; id = i }) (record { place = p; id = id }) t (is.sends r k p id n o m)

  write_now : (ms : List Octets) (k p id : ℕ) (o : Octets) (a b c d : Bool) → (q == p) ≡ a → (j == k) ≡ b → (i == id) ≡ c → IsAmong o (octets_for k (if (a && c) && d then record { request = j; octets = s; moment = now h } ∷ waiting_with ms p id h else waiting_with ms p id h)) → IsIn (record { place = p; id = id }) (listed k (adds j (record { place = q; id = i }) t))
  write_now ms k p id o true true true d e f g m = new k j p q id i t e f g
  write_now ms k p id o true false true true e f g m = kept k j (record { place = q; id = i }) (record { place = p; id = id }) t (is.writes ms k p id o (subst (λ b. IsAmong o (if b then s ∷ octets_for k (waiting_with ms p id h) else octets_for k (waiting_with ms p id h))) f m))
  write_now ms k p id o true false true false e f g m = kept k j (record { place = q; id = i }) (record { place = p; id = id }) t (is.writes ms k p id o m)
  write_now ms k p id o true b false d e f g m = kept k j (record { place = q; id = i }) (record { place = p; id = id }) t (is.writes ms k p id o m)
  write_now ms k p id o false b c d e f g m = kept k j (record { place = q; id = i }) (record { place = p; id = id }) t (is.writes ms k p id o m)

known_out : (conf : Conf) (h : History) (t : Exchanged) (o : Out) → Known conf h t → Known conf (Put o ∷ h) (has_put o t)
known_out conf h t (Send q j i s) is = record {
  sends = λ r k p id n o m. send_now conf h t is q j i s r k p id n o (q == p) (j == k) (i == id) (nat_lt n (now h + read_timeout conf)) refl refl refl m;
  writes = λ ms k p id o m. kept k j (record { place = q; id = i }) (record { place = p; id = id }) t (is.writes ms k p id o m);
}
known_out conf h t (Write q j i s) is = record {
  sends = λ r k p id n o m. kept k j (record { place = q; id = i }) (record { place = p; id = id }) t (is.sends r k p id n o m);
  writes = λ ms k p id o m. write_now conf h t is q j i s ms k p id o (q == p) (j == k) (i == id) (not (brings id ms)) refl refl refl m;
}
known_out conf h t (Start j s u) is = record { sends = is.sends; writes = is.writes }
known_out conf h t (OpenDgram p s) is = record { sends = is.sends; writes = is.writes }
known_out conf h t (OpenStream p s) is = record { sends = is.sends; writes = is.writes }
known_out conf h t (Resume p o) is = record { sends = is.sends; writes = is.writes }
known_out conf h t (Close p) is = record { sends = is.sends; writes = is.writes }
known_out conf h t (Stale j) is = record { sends = is.sends; writes = is.writes }
known_out conf h t (Reply j x) is = record { sends = is.sends; writes = is.writes }

pub goes_on : (conf : Conf) → GoesOn conf
goes_on conf = record {
  begins = record { sends = λ r k p id n o i. absurd i; writes = λ ms k p id o i. absurd i };
  event = known_event conf;
  out = known_out conf;
}
