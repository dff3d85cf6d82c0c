-- What a walk over what came finds, and what it doesn't miss.
use Rattle.std.proofs.Common.{◌≡◌, ℕ, ◌+◌, ◌==◌, ◌&&◌, ◌⊎◌, inl, inr, not, nat_lt, Bool, true, false, if◌then◌else◌, length, List, [], ◌∷◌, ◌++◌, reverse, Option, Some, None, refl, sym, ap, ap₂, ◌∙◌, subst, arith}
use Rattle.std.specs.Prelude.{is_some}
use Rattle.std.proofs.lemmas.Bool.Decides.{nat_tests}
use Rattle.std.proofs.lemmas.List.{reverse-append}
use Rattle.number_table.specs.Entries.{puts, entry_at}
use Rattle.dns_base.specs.{Answering.is_answer, Header.id_of}
use Rattle.right_trace.specs.Messages.{Octets, id_in}
use Rattle.right_trace.specs.{Requests.Asking, Parts.IsIn, Writes.Written, Time.read_timeout, Trace.Conf}
use Rattle.right_trace.specs.Frames.{is_bad, first_with}
use Rattle.right_trace.specs.Exchanges.{IsAmong, octets_for}
use Rattle.trace_tables.specs.declared.books.Books.{Books}
use Rattle.trace_tables.specs.declared.places.Place.{Place}
use Rattle.trace_tables.specs.declared.sends.Sent.{Sent}
use Rattle.trace_tables.specs.Requests.{replied_seen}
use Rattle.trace_tables.proofs.Tables.{at_puts}
use Rattle.trace_tables.specs.declared.frames.ledger.Ledger.{Ledger}
use Rattle.trace_tables.specs.frames.Waiting.{waiting_seen}
use Rattle.message_judging.specs.matching.Matching.{carries_by}
use Rattle.trace_points.specs.declared.exchanges.coming.Coming.{Coming}
use Rattle.trace_points.specs.exchanges.Open.{is_for, octets_of}
use Rattle.trace_points.specs.exchanges.Coming.{is_wanted, comes_on, comes_for, before, found_in, on_write, on_writes, in_frames}

same_number : (a b : ℕ) → (a == b) ≡ true → a ≡ b
same_number a b e = grind (arith, nat_tests)

pub own : (a : ℕ) → (a == a) ≡ true
own a = grind (arith, nat_tests)

-- lists

pub in_append : {A : Type 0} (x : A) (xs ys : List A) → IsIn x (xs ++ ys) → IsIn x xs ⊎ IsIn x ys
in_append x [] ys i = inr i
in_append x (y ∷ xs) ys (inl e) = inl (inl e)
in_append x (y ∷ xs) ys (inr i) = go (in_append x xs ys i)
  where
    go : IsIn x xs ⊎ IsIn x ys → IsIn x (y ∷ xs) ⊎ IsIn x ys
    go (inl i) = inl (inr i)
    go (inr i) = inr i

pub in_first : {A : Type 0} (x : A) (xs ys : List A) → IsIn x xs → IsIn x (xs ++ ys)
in_first x [] ys i = absurd i
in_first x (y ∷ xs) ys (inl e) = inl e
in_first x (y ∷ xs) ys (inr i) = inr (in_first x xs ys i)

pub in_second : {A : Type 0} (x : A) (xs ys : List A) → IsIn x ys → IsIn x (xs ++ ys)
in_second x [] ys i = i
in_second x (y ∷ xs) ys i = inr (in_second x xs ys i)

reversed : {A : Type 0} (x : A) (xs : List A) → reverse (x ∷ xs) ≡ reverse xs ++ x ∷ []
reversed x xs = reverse-append (x ∷ []) xs

pub in_reverse : {A : Type 0} (x : A) (xs : List A) → IsIn x (reverse xs) → IsIn x xs
in_reverse x [] i = i
in_reverse x (y ∷ xs) i = go (in_reverse x xs) (in_append x (reverse xs) (y ∷ []) (subst (IsIn x) (reversed y xs) i))
  where
    go : (IsIn x (reverse xs) → IsIn x xs) → IsIn x (reverse xs) ⊎ IsIn x (y ∷ []) → IsIn x (y ∷ xs)
    go f (inl i) = inr (f i)
    go f (inr (inl e)) = inl e
    go f (inr (inr n)) = absurd n

pub reverse_in : {A : Type 0} (x : A) (xs : List A) → IsIn x xs → IsIn x (reverse xs)
reverse_in x [] i = i
reverse_in x (y ∷ xs) (inl e) = subst (IsIn x) (sym (reversed y xs)) (in_second x (reverse xs) (y ∷ []) (inl e))
reverse_in x (y ∷ xs) (inr i) = subst (IsIn x) (sym (reversed y xs)) (in_first x (reverse xs) (y ∷ []) (reverse_in x xs i))

-- what is found of each

pub record FoundOf {A : Type 0} (f : A → Option Coming) (z : Coming) (ys : List A) : Type 0 where
  pub item : A
  pub there : IsIn item ys
  pub found : f item ≡ Some z

pub found_so : {A : Type 0} (f : A → Option Coming) (z : Coming) (ys : List A) → IsIn z (found_in f ys) → FoundOf f z ys
found_so f z [] i = absurd i
found_so f z (y ∷ ys) i = go (found_so f z ys) (f y) refl i
  where
    behind : FoundOf f z ys → FoundOf f z (y ∷ ys)
    behind r = record { item = r.item; there = inr r.there; found = r.found }

    go : (IsIn z (found_in f ys) → FoundOf f z ys) → (o : Option Coming) → f y ≡ o → IsIn z (before o (found_in f ys)) → FoundOf f z (y ∷ ys)
    go rest None e i = behind (rest i)
    go rest (Some x) e (inl s) = record { item = y; there = inl refl; found = e ∙ ap Some s }
    go rest (Some x) e (inr i) = behind (rest i)

pub found_back : {A : Type 0} (f : A → Option Coming) (z : Coming) (y : A) (ys : List A) → IsIn y ys → f y ≡ Some z → IsIn z (found_in f ys)
found_back f z y [] i e = absurd i
found_back f z y (x ∷ ys) (inl s) e = subst (λ o. IsIn z (before o (found_in f ys))) (sym (ap f s ∙ e)) (inl refl)
found_back f z y (x ∷ ys) (inr i) e = go (f x) (found_back f z y ys i e)
  where
    go : (o : Option Coming) → IsIn z (found_in f ys) → IsIn z (before o (found_in f ys))
    go None i = i
    go (Some w) i = inr i

-- an exchange on which a message comes

pub record IsOn (c : Conf) (want : Option ℕ) (past : Books) (x : Place) (p k id : ℕ) (o m : Octets) (z : Coming) : Type 0 where
  pub wanted : is_wanted want k ≡ true
  pub waits : replied_seen k past.requests ≡ false
  pub asking_of : Asking
  pub asked : entry_at k past.requests.askings ≡ Some asking_of
  pub carries : carries_by c.transports.dgram_udp_payload_size x.via o asking_of.request id ≡ true
  pub is : z ≡ record { request = k; via = x.via; server = x.server; place = p; id = id; message = m; agrees = is_answer id asking_of.request.base m }

module _ (c : Conf) (want : Option ℕ) (past : Books) (x : Place) (p k id : ℕ) (o m : Octets) (z : Coming) where
  pub comes_so : comes_for c want past x p k id o m ≡ Some z → IsOn c want past x p k id o m z
  comes_so e = go (is_wanted want k) refl (replied_seen k past.requests) refl (entry_at k past.requests.askings) refl e
    where
      on : is_wanted want k ≡ true → replied_seen k past.requests ≡ false → (a : Asking) → entry_at k past.requests.askings ≡ Some a → (b : Bool) → carries_by c.transports.dgram_udp_payload_size x.via o a.request id ≡ b
          → (if b then Some (record { request = k; via = x.via; server = x.server; place = p; id = id; message = m; agrees = is_answer id a.request.base m }) else None) ≡ Some z → IsOn c want past x p k id o m z
      on w r a l true i e = record { wanted = w; waits = r; asking_of = a; asked = l; carries = i; is = (let s : z ≡ record { request = k; via = x.via; server = x.server; place = p; id = id; message = m; agrees = is_answer id a.request.base m } = cc in s) }
      on w r a l false i e = absurd (cc)

      go : (w : Bool) → is_wanted want k ≡ w → (r : Bool) → replied_seen k past.requests ≡ r → (a : Option Asking) → entry_at k past.requests.askings ≡ a → (if w && not r then comes_on c x p k id o m a else None) ≡ Some z → IsOn c want past x p k id o m z
      go true i false j None l e = absurd (cc)
      go true i false j (Some a) l e = on i j a l (carries_by c.transports.dgram_udp_payload_size x.via o a.request id) refl e
      go true i true j a l e = absurd (cc)
      go false i r j a l e = absurd (cc)

  pub so_comes : IsOn c want past x p k id o m z → comes_for c want past x p k id o m ≡ Some z
  so_comes s =
      ap₂ (λ w r. if w && not r then comes_on c x p k id o m (entry_at k past.requests.askings) else None) s.wanted s.waits
      ∙ (ap (comes_on c x p k id o m) s.asked
      ∙ (ap (λ b. if b then Some (record { request = k; via = x.via; server = x.server; place = p; id = id; message = m; agrees = is_answer id s.asking_of.request.base m }) else None) s.carries ∙ ap Some (sym s.is)))

-- sends

pub record SentFor (c : Conf) (k id n : ℕ) (o : Octets) (xs : List Sent) : Type 0 where
  pub send : Sent
  pub there : IsIn send xs
  pub is_request : send.request ≡ k
  pub is_id : send.id ≡ id
  pub is_octets : send.octets ≡ o
  pub young : nat_lt n (send.moment + read_timeout c) ≡ true

pub sent_so : (c : Conf) (k id n : ℕ) (o : Octets) (xs : List Sent) → IsAmong o (octets_of c k id n xs) → SentFor c k id n o xs
sent_so c k id n o [] i = absurd i
sent_so c k id n o (x ∷ xs) i = go (sent_so c k id n o xs) (x.request == k) refl (x.id == id) refl (nat_lt n (x.moment + read_timeout c)) refl i
  where
    behind : SentFor c k id n o xs → SentFor c k id n o (x ∷ xs)
    behind r = record { send = r.send; there = inr r.there; is_request = r.is_request; is_id = r.is_id; is_octets = r.is_octets; young = r.young }

    go : (IsAmong o (octets_of c k id n xs) → SentFor c k id n o xs) → (a : Bool) → (x.request == k) ≡ a → (b : Bool) → (x.id == id) ≡ b → (d : Bool) → nat_lt n (x.moment + read_timeout c) ≡ d → IsAmong o (if (a && b) && d then x.octets ∷ octets_of c k id n xs else octets_of c k id n xs)
        → SentFor c k id n o (x ∷ xs)
    go rest true i true j true l (inl s) = record { send = x; there = inl refl; is_request = same_number x.request k i; is_id = same_number x.id id j; is_octets = s; young = l }
    go rest true i true j true l (inr q) = behind (rest q)
    go rest true i true j false l q = behind (rest q)
    go rest true i false j d l q = behind (rest q)
    go rest false i b j d l q = behind (rest q)

pub so_sent : (c : Conf) (n : ℕ) (y : Sent) (xs : List Sent) → IsIn y xs → nat_lt n (y.moment + read_timeout c) ≡ true → IsAmong y.octets (octets_of c y.request y.id n xs)
so_sent c n y [] i e = absurd i
so_sent c n y (x ∷ xs) (inl s) e = subst (λ (x : Sent). IsAmong y.octets (if is_for c y.request y.id n x then x.octets ∷ octets_of c y.request y.id n xs else octets_of c y.request y.id n xs)) (sym s)
    (subst (λ b. IsAmong y.octets (if b then y.octets ∷ octets_of c y.request y.id n xs else octets_of c y.request y.id n xs)) (sym (ap₂ (λ a b. (a && b) && nat_lt n (y.moment + read_timeout c)) (own y.request) (own y.id) ∙ e)) (inl refl))
so_sent c n y (x ∷ xs) (inr i) e = go (is_for c y.request y.id n x) (so_sent c n y xs i e)
  where
    go : (b : Bool) → IsAmong y.octets (octets_of c y.request y.id n xs) → IsAmong y.octets (if b then x.octets ∷ octets_of c y.request y.id n xs else octets_of c y.request y.id n xs)
    go true q = inr q
    go false q = q

-- writes

pub record WrittenFor (k : ℕ) (o : Octets) (ws : List Written) : Type 0 where
  pub write : Written
  pub there : IsIn write ws
  pub is_request : write.request ≡ k
  pub is_octets : write.octets ≡ o

pub written_so : (k : ℕ) (o : Octets) (ws : List Written) → IsAmong o (octets_for k ws) → WrittenFor k o ws
written_so k o [] i = absurd i
written_so k o (w ∷ ws) i = go (written_so k o ws) (w.request == k) refl i
  where
    behind : WrittenFor k o ws → WrittenFor k o (w ∷ ws)
    behind r = record { write = r.write; there = inr r.there; is_request = r.is_request; is_octets = r.is_octets }

    go : (IsAmong o (octets_for k ws) → WrittenFor k o ws) → (a : Bool) → (w.request == k) ≡ a → IsAmong o (if a then w.octets ∷ octets_for k ws else octets_for k ws) → WrittenFor k o (w ∷ ws)
    go rest true e (inl s) = record { write = w; there = inl refl; is_request = same_number w.request k e; is_octets = s }
    go rest true e (inr i) = behind (rest i)
    go rest false e i = behind (rest i)

pub so_written : (w : Written) (ws : List Written) → IsIn w ws → IsAmong w.octets (octets_for w.request ws)
so_written w [] i = absurd i
so_written w (x ∷ ws) (inl s) = subst (λ (x : Written). IsAmong w.octets (if x.request == w.request then x.octets ∷ octets_for w.request ws else octets_for w.request ws)) (sym s)
    (subst (λ b. IsAmong w.octets (if b then w.octets ∷ octets_for w.request ws else octets_for w.request ws)) (sym (own w.request)) (inl refl))
so_written w (x ∷ ws) (inr i) = go (x.request == w.request) (so_written w ws i)
  where
    go : (b : Bool) → IsAmong w.octets (octets_for w.request ws) → IsAmong w.octets (if b then x.octets ∷ octets_for w.request ws else octets_for w.request ws)
    go true q = inr q
    go false q = q

-- frames

pub record InFrames (c : Conf) (want : Option ℕ) (past : Books) (here : Ledger) (x : Place) (p : ℕ) (seen : List (ℕ × Unit {0})) (ms : List Octets) (z : Coming) : Type 0 where
  pub id : ℕ
  pub message : Octets
  pub first : first_with id ms ≡ Some message
  pub fresh : entry_at id seen ≡ None
  pub write : Written
  pub there : IsIn write (waiting_seen p id here.waiting)
  pub found : on_write c want past here.books x p id message write ≡ Some z

bad_is : (m : Octets) → is_bad m ≡ nat_lt (length m) 12
unfolding is_bad
bad_is m = refl

id_is : (m : Octets) → id_in m ≡ id_of m
unfolding id_in
id_is m = refl

none_is : {A : Type 0} (o : Option A) → is_some o ≡ false → o ≡ None
none_is None e = refl
none_is (Some a) e = absurd (cc)

-- the first frame is the one, or another is
first_is : (id : ℕ) (m : Octets) (ms : List Octets) → nat_lt (length m) 12 ≡ false → first_with id (m ∷ ms) ≡ (if id_of m == id then Some m else first_with id ms)
first_is id m ms long = ap (λ b. if b then None else (if id_in m == id then Some m else first_with id ms)) (bad_is m ∙ long) ∙ ap (λ n. if n == id then Some m else first_with id ms) (id_is m)

-- an id that is not among those that were seen and this one
not_seen : (a id : ℕ) (seen : List (ℕ × Unit {0})) → entry_at id (puts a tt seen) ≡ None → ((a == id) ≡ false) × (entry_at id seen ≡ None)
not_seen a id seen e = go (a == id) refl (sym (at_puts a tt id seen) ∙ e)
  where
    go : (b : Bool) → (a == id) ≡ b → (if b then Some tt else entry_at id seen) ≡ None → ((a == id) ≡ false) × (entry_at id seen ≡ None)
    go true i e = absurd (cc)
    go false i e = (i, e)

still_unseen : (a id : ℕ) (seen : List (ℕ × Unit {0})) → (a == id) ≡ false → entry_at id seen ≡ None → entry_at id (puts a tt seen) ≡ None
still_unseen a id seen i e = at_puts a tt id seen ∙ (ap (λ b. if b then Some tt else entry_at id seen) i ∙ e)

module _ (c : Conf) (want : Option ℕ) (past : Books) (here : Ledger) (x : Place) (p : ℕ) (z : Coming) where
  pub frames_so : (seen : List (ℕ × Unit {0})) (ms : List Octets) → IsIn z (in_frames c want past here x p seen ms) → InFrames c want past here x p seen ms z
  frames_so seen [] i = absurd i
  frames_so seen (m ∷ ms) i = go (λ s. frames_so s ms) (nat_lt (length m) 12) refl (is_some (entry_at (id_of m) seen)) refl i
    where
      other : (id : ℕ) → is_some (entry_at (id_of m) seen) ≡ true → entry_at id seen ≡ None → (id_of m == id) ≡ false
      other id s n = go (id_of m == id) refl
        where
          go : (b : Bool) → (id_of m == id) ≡ b → b ≡ false
          go false e = refl
          go true e = absurd (let y : true ≡ false = sym s ∙ (ap (λ n. is_some (entry_at n seen)) (same_number (id_of m) id e) ∙ ap is_some n) in cc)

      now : nat_lt (length m) 12 ≡ false → is_some (entry_at (id_of m) seen) ≡ false → IsIn z (on_writes c want past here.books x p (id_of m) m (waiting_seen p (id_of m) here.waiting)) → InFrames c want past here x p seen (m ∷ ms) z
      now long s i =
          let r = found_so (on_write c want past here.books x p (id_of m) m) z (waiting_seen p (id_of m) here.waiting) i in
          record { id = id_of m; message = m; first = first_is (id_of m) m ms long ∙ ap (λ b. if b then Some m else first_with (id_of m) ms) (own (id_of m)); fresh = none_is (entry_at (id_of m) seen) s; write = r.item; there = r.there; found = r.found }

      later : nat_lt (length m) 12 ≡ false → InFrames c want past here x p (puts (id_of m) tt seen) ms z → InFrames c want past here x p seen (m ∷ ms) z
      later long r =
          let n = not_seen (id_of m) r.id seen r.fresh in
          record { id = r.id; message = r.message; first = first_is r.id m ms long ∙ (ap (λ b. if b then Some m else first_with r.id ms) n.0 ∙ r.first); fresh = n.1; write = r.write; there = r.there; found = r.found }

      both : ((s : List (ℕ × Unit {0})) → IsIn z (in_frames c want past here x p s ms) → InFrames c want past here x p s ms z) → nat_lt (length m) 12 ≡ false → is_some (entry_at (id_of m) seen) ≡ false
          → IsIn z (on_writes c want past here.books x p (id_of m) m (waiting_seen p (id_of m) here.waiting)) ⊎ IsIn z (in_frames c want past here x p (puts (id_of m) tt seen) ms) → InFrames c want past here x p seen (m ∷ ms) z
      both rest long s (inl i) = now long s i
      both rest long s (inr i) = later long (rest (puts (id_of m) tt seen) i)

      go : ((s : List (ℕ × Unit {0})) → IsIn z (in_frames c want past here x p s ms) → InFrames c want past here x p s ms z) → (b : Bool) → nat_lt (length m) 12 ≡ b → (s : Bool) → is_some (entry_at (id_of m) seen) ≡ s
          → IsIn z (if b then [] else (if s then in_frames c want past here x p seen ms else on_writes c want past here.books x p (id_of m) m (waiting_seen p (id_of m) here.waiting) ++ in_frames c want past here x p (puts (id_of m) tt seen) ms))
          → InFrames c want past here x p seen (m ∷ ms) z
      go rest true long s j i = absurd i
      go rest false long true j i =
          let r = rest seen i in
          record { id = r.id; message = r.message; first = first_is r.id m ms long ∙ (ap (λ b. if b then Some m else first_with r.id ms) (other r.id j r.fresh) ∙ r.first); fresh = r.fresh; write = r.write; there = r.there; found = r.found }
      go rest false long false j i = both rest long j (in_append z (on_writes c want past here.books x p (id_of m) m (waiting_seen p (id_of m) here.waiting)) (in_frames c want past here x p (puts (id_of m) tt seen) ms) i)

  pub so_frames : (seen : List (ℕ × Unit {0})) (ms : List Octets) → InFrames c want past here x p seen ms z → IsIn z (in_frames c want past here x p seen ms)
  so_frames seen [] r = absurd (let y : None ≡ Some r.message = r.first in cc)
  so_frames seen (m ∷ ms) r = go (λ s. so_frames s ms) (nat_lt (length m) 12) refl (id_of m == r.id) refl (is_some (entry_at (id_of m) seen)) refl
    where
      go : ((s : List (ℕ × Unit {0})) → InFrames c want past here x p s ms z → IsIn z (in_frames c want past here x p s ms)) → (b : Bool) → nat_lt (length m) 12 ≡ b → (d : Bool) → (id_of m == r.id) ≡ d → (s : Bool) → is_some (entry_at (id_of m) seen) ≡ s
          → IsIn z (if b then [] else (if s then in_frames c want past here x p seen ms else on_writes c want past here.books x p (id_of m) m (waiting_seen p (id_of m) here.waiting) ++ in_frames c want past here x p (puts (id_of m) tt seen) ms))
      go rest true bad d j s k = absurd (let y : None ≡ Some r.message = sym (ap (λ b. if b then None else (if id_in m == r.id then Some m else first_with r.id ms)) (bad_is m ∙ bad)) ∙ r.first in cc)
      go rest false long true j true k = absurd (let y : true ≡ false = sym k ∙ (ap (λ n. is_some (entry_at n seen)) (same_number (id_of m) r.id j) ∙ ap is_some r.fresh) in cc)
      go rest false long true j false k =
          let same : m ≡ r.message = (let y : Some m ≡ Some r.message = sym (first_is r.id m ms long ∙ ap (λ b. if b then Some m else first_with r.id ms) j) ∙ r.first in cc) in
          let i = same_number (id_of m) r.id j in
          in_first z (on_writes c want past here.books x p (id_of m) m (waiting_seen p (id_of m) here.waiting)) (in_frames c want past here x p (puts (id_of m) tt seen) ms)
          (found_back (on_write c want past here.books x p (id_of m) m) z r.write (waiting_seen p (id_of m) here.waiting)
          (subst (λ n. IsIn r.write (waiting_seen p n here.waiting)) (sym i) r.there)
          (ap₂ (λ n o. on_write c want past here.books x p n o r.write) i same ∙ r.found))
      go rest false long false j true k = rest seen (record { id = r.id; message = r.message; first = sym (first_is r.id m ms long ∙ ap (λ b. if b then Some m else first_with r.id ms) j) ∙ r.first; fresh = r.fresh; write = r.write; there = r.there; found = r.found })
      go rest false long false j false k =
          in_second z (on_writes c want past here.books x p (id_of m) m (waiting_seen p (id_of m) here.waiting)) (in_frames c want past here x p (puts (id_of m) tt seen) ms)
          (rest (puts (id_of m) tt seen) (record { id = r.id; message = r.message; first = sym (first_is r.id m ms long ∙ ap (λ b. if b then Some m else first_with r.id ms) j) ∙ r.first; fresh = still_unseen (id_of m) r.id seen j r.fresh; write = r.write; there = r.there; found = r.found }))
