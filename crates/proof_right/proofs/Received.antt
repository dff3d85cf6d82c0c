-- What is read of the one datagram of an event; and what the settings' limits give.
use Rattle.right_trace.specs.Trace.{Conf}
use Rattle.right_trace.specs.Time.{read_timeout, response_timeout, stream_timeout, max_places}
use Rattle.std.proofs.lemmas.Bool.{ltb-true}
use Rattle.std.proofs.Common.{◌≡◌, ℕ, ◌<◌, Bool, true, false, refl, subst, Some, [], ◌∷◌, length, take}
use Rattle.std.specs.Prelude.{if◌then◌else◌, nat_le}
use Rattle.client_request.specs.Request.{Request}
use Rattle.right_trace.specs.Messages.{Octets, answers}
use Rattle.right_trace.specs.Frames.{received}
use Rattle.right_trace.specs.Exchanges.{first_datagram, has_answer}

pub reads_on : (c : Conf) → 999 < read_timeout c
unfolding read_timeout
reads_on c = ltb-true 999 c.transports.dgram_read_timeout c.transports.reads

pub waits_on : (c : Conf) → 999 < stream_timeout c
unfolding stream_timeout
waits_on c = ltb-true 999 c.transports.multi_stream_response_timeout c.transports.waits

pub answers_on : (c : Conf) → 999 < response_timeout c
unfolding response_timeout
answers_on c = ltb-true 999 c.transports.stream_response_timeout c.transports.answers

pub places_on : (c : Conf) → 0 < max_places c
unfolding max_places
places_on c = ltb-true 0 c.transports.dgram_max_parallel c.transports.places

pub received_one : (n : ℕ) (o : Octets) → nat_le 12 (length (take n o)) ≡ true → received n (o ∷ []) ≡ take n o ∷ []
received_one n o long = rw long refl

pub received_first : (n : ℕ) (b : Bool) (o m : Octets) → first_datagram (received n (if b then o ∷ [] else [])) ≡ Some m → (b ≡ true) × (nat_le 12 (length (take n o)) ≡ true) × (take n o ≡ m)
received_first n false o m e = absurd (cc)
received_first n true o m e = go (nat_le 12 (length (take n o))) refl
  where
    go : (b : Bool) → nat_le 12 (length (take n o)) ≡ b → (true ≡ true) × (nat_le 12 (length (take n o)) ≡ true) × (take n o ≡ m)
    go true long = (refl, long, (let z : Some (take n o) ≡ Some m = subst (λ os. first_datagram os ≡ Some m) (received_one n o long) e in cc))
    go false short = absurd (let z : first_datagram (if false then take n o ∷ [] else []) ≡ Some m = subst (λ b. first_datagram (if b then take n o ∷ [] else []) ≡ Some m) short e in cc)

pub received_answer : (n : ℕ) (r : Request) (id : ℕ) (b : Bool) (o : Octets) → (b ≡ true → nat_le 12 (length (take n o)) ≡ true → answers r id (take n o) ≡ false) → has_answer r id (received n (if b then o ∷ [] else [])) ≡ false
received_answer n r id false o never = refl
received_answer n r id true o never = go (nat_le 12 (length (take n o))) refl
  where
    go : (b : Bool) → nat_le 12 (length (take n o)) ≡ b → has_answer r id (received n (o ∷ [])) ≡ false
    go true long = rw (long, never refl long) refl
    go false short = rw short refl
