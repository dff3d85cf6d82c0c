-- After each event and each out what is kept of sends that nothing answered is what the definitions say.
use Rattle.std.proofs.Common.{◌≡◌, ℕ, ◌+◌, ◌==◌, ◌&&◌, ◌||◌, nat_le, nat_lt, Bool, true, false, if◌then◌else◌, length, take, List, [], ◌∷◌, ◌++◌, reverse, Option, Some, None, refl, sym, ap, ap₂, ◌∙◌, arith}
use Rattle.std.proofs.lemmas.Bool.Decides.{nat_tests}
use Rattle.std.proofs.lemmas.List.{reverse-append}
use Rattle.number_table.specs.Entries.{puts, frees, entry_at}
use Rattle.client_request.specs.Request.{Request}
use Rattle.client_request.specs.declared.event.{Event.Event, Out.Out, Via.Via}
use Rattle.client_request.specs.declared.event.Out.TheVariants.{Start, OpenDgram, OpenStream, Send, Write, Resume, Close, Stale, Reply}
use Rattle.client_request.specs.declared.event.Via.TheVariants.{Dgram, Stream}
use Rattle.dns_base.specs.Answering.{is_answer}
use Rattle.right_trace.specs.Trace.{History, Came, Put, Conf}
use Rattle.right_trace.specs.Time.{now, read_timeout, recv_size}
use Rattle.right_trace.specs.Messages.{Octets, answers}
use Rattle.right_trace.specs.Requests.{Asking, asking}
use Rattle.right_trace.specs.Places.{Site, site, is_of_kind, opens_as}
use Rattle.right_trace.specs.Frames.{came, received}
use Rattle.right_trace.specs.Causes.{named}
use Rattle.right_trace.specs.Exchanges.{has_answer, unanswered}
use Rattle.right_trace.proofs.Asked.{asking_came}
use Rattle.trace_tables.specs.declared.sends.Sent.{Sent}
use Rattle.trace_tables.specs.declared.requests.Requests.{Requests}
use Rattle.trace_tables.specs.Requests as requests
use Rattle.trace_tables.specs.Lists.{list_or_none, listed}
use Rattle.trace_tables.proofs.{Tables.at_puts, Listing.stays}
use Rattle.trace_tables.specs.declared.frames.frames.{Brought.Brought, Frames.Frames}
use Rattle.trace_tables.specs.frames.Frames as frames
use Rattle.trace_points.specs.exchanges.Asked.{AskedFirst}
use Rattle.trace_points.specs.exchanges.Open.{Open, answered_by, is_answered, left_open, left_at, met, sends_more, has_put, is_for, octets_of, Known, GoesOn}

same_number : (a b : ℕ) → (a == b) ≡ true → a ≡ b
same_number a b e = grind (arith, nat_tests)

own : (a : ℕ) → (a == a) ≡ true
own a = grind (arith, nat_tests)

module _ {A : Type 0} where
  -- the list of a key that is put, and those of others
  pub listed_puts : (q p : ℕ) (x : List A) (t : List (ℕ × List A)) → listed q (puts p x (frees p t)) ≡ (if p == q then x else listed q t)
  listed_puts q p x t = ap list_or_none (at_puts p x q (frees p t)) ∙ go (p == q) refl
    where
      go : (b : Bool) → (p == q) ≡ b → list_or_none (if b then Some x else entry_at q (frees p t)) ≡ (if b then x else listed q t)
      go true e = refl
      go false e = ap list_or_none (stays q p t e)

-- what messages leave open

left_none : (known : List (ℕ × Asking)) (xs : List Sent) → left_open [] known xs ≡ xs
left_none known [] = refl
left_none known (x ∷ xs) = go (left_none known xs) (entry_at x.request known)
  where
    go : left_open [] known xs ≡ xs → (o : Option Asking) → (if is_answered [] x.id o then left_open [] known xs else x ∷ left_open [] known xs) ≡ x ∷ xs
    go rest None = ap (λ t. x ∷ t) rest
    go rest (Some a) = ap (λ t. x ∷ t) rest

left_append : (ms : List Octets) (known : List (ℕ × Asking)) (xs ys : List Sent) → left_open ms known (xs ++ ys) ≡ left_open ms known xs ++ left_open ms known ys
left_append ms known [] ys = refl
left_append ms known (x ∷ xs) ys = go (is_answered ms x.id (entry_at x.request known)) (left_append ms known xs ys)
  where
    go : (b : Bool) → left_open ms known (xs ++ ys) ≡ left_open ms known xs ++ left_open ms known ys → (if b then left_open ms known (xs ++ ys) else x ∷ left_open ms known (xs ++ ys)) ≡ (if b then left_open ms known xs else x ∷ left_open ms known xs) ++ left_open ms known ys
    go true ih = ih
    go false ih = ap (λ t. x ∷ t) ih

none_more : {A : Type 0} (xs : List A) → xs ++ [] ≡ xs
none_more [] = refl
none_more (x ∷ xs) = ap (λ t. x ∷ t) (none_more xs)

-- one more that was looked at
pub left_kept : (ms : List Octets) (known : List (ℕ × Asking)) (xs left : List Sent) (x : Sent) → is_answered ms x.id (entry_at x.request known) ≡ false → left ≡ left_open ms known xs → left ++ x ∷ [] ≡ left_open ms known (xs ++ x ∷ [])
left_kept ms known xs left x e l = ap (λ t. t ++ x ∷ []) l ∙ sym (left_append ms known xs (x ∷ []) ∙ ap (λ b. left_open ms known xs ++ (if b then [] else x ∷ [])) e)

pub left_dropped : (ms : List Octets) (known : List (ℕ × Asking)) (xs left : List Sent) (x : Sent) → is_answered ms x.id (entry_at x.request known) ≡ true → left ≡ left_open ms known xs → left ≡ left_open ms known (xs ++ x ∷ [])
left_dropped ms known xs left x e l = l ∙ sym (left_append ms known xs (x ∷ []) ∙ (ap (λ b. left_open ms known xs ++ (if b then [] else x ∷ [])) e ∙ none_more (left_open ms known xs)))

reversed : {A : Type 0} (x : A) (xs : List A) → reverse (x ∷ xs) ≡ reverse xs ++ x ∷ []
reversed x xs = reverse-append (x ∷ []) xs

pub pushed : {A : Type 0} (xs : List A) (x : A) → reverse (xs ++ x ∷ []) ≡ x ∷ reverse xs
pushed xs x = reverse-append xs (x ∷ [])

left_reversed : (ms : List Octets) (known : List (ℕ × Asking)) (xs : List Sent) → left_open ms known (reverse xs) ≡ reverse (left_open ms known xs)
left_reversed ms known [] = refl
left_reversed ms known (x ∷ xs) =
    ap (left_open ms known) (reversed x xs)
    ∙ (left_append ms known (reverse xs) (x ∷ [])
    ∙ (ap (λ t. t ++ left_open ms known (x ∷ [])) (left_reversed ms known xs)
    ∙ go (is_answered ms x.id (entry_at x.request known))))
  where
    go : (b : Bool) → reverse (left_open ms known xs) ++ (if b then [] else x ∷ []) ≡ reverse (if b then left_open ms known xs else x ∷ left_open ms known xs)
    go true = none_more (reverse (left_open ms known xs))
    go false = sym (reversed x (left_open ms known xs))

met_listed : (c : Conf) (b : Option Brought) (known : List (ℕ × Asking)) (t : Open) (p : ℕ) → listed p (met c b known t) ≡ left_open (received (recv_size c) (frames.frames_of p b)) known (listed p t)
met_listed c None known t p = sym (left_none known (listed p t))
met_listed c (Some b) known t p = go (entry_at b.place t) refl (b.place == p) refl
  where
    go : (o : Option (List Sent)) → entry_at b.place t ≡ o → (d : Bool) → (b.place == p) ≡ d → listed p (left_at b.place (received (recv_size c) b.frames) known o t) ≡ left_open (received (recv_size c) (if d then b.frames else [])) known (listed p t)
    go None i true e =
        let z : listed p t ≡ [] = ap (λ n. listed n t) (sym (same_number b.place p e)) ∙ ap list_or_none i in
        z ∙ sym (ap (left_open (received (recv_size c) b.frames) known) z)
    go None i false e = sym (left_none known (listed p t))
    go (Some xs) i true e =
        let z : xs ≡ listed p t = sym (ap list_or_none i) ∙ ap (λ n. listed n t) (same_number b.place p e) in
        let ms = received (recv_size c) b.frames in
        listed_puts p b.place (left_open ms known xs) t ∙ (ap (λ d. if d then left_open ms known xs else listed p t) e ∙ ap (left_open ms known) z)
    go (Some xs) i false e =
        let ms = received (recv_size c) b.frames in
        listed_puts p b.place (left_open ms known xs) t ∙ (ap (λ d. if d then left_open ms known xs else listed p t) e ∙ sym (left_none known (listed p t)))

emptied : (b : Bool) → Path (List Octets) [] (if b then [] else [])
emptied true = refl
emptied false = refl

-- of one request and id
module _ (c : Conf) (ms : List Octets) (known : List (ℕ × Asking)) (k id n : ℕ) where
  for_one : (x : Sent) → is_for c k id n x ≡ true → (x.request ≡ k) × (x.id ≡ id)
  for_one x e = go (x.request == k) (x.id == id) refl refl e
    where
      go : (a b : Bool) → (x.request == k) ≡ a → (x.id == id) ≡ b → ((a && b) && nat_lt n (x.moment + read_timeout c)) ≡ true → (x.request ≡ k) × (x.id ≡ id)
      go true true i j e = (same_number x.request k i, same_number x.id id j)
      go true false i j e = absurd (cc)
      go false b i j e = absurd (cc)

  filtered : (a : Asking) → entry_at k known ≡ Some a → (xs : List Sent) → octets_of c k id n (left_open ms known xs) ≡ (if answered_by a.request id ms then [] else octets_of c k id n xs)
  filtered a is [] = emptied (answered_by a.request id ms)
  filtered a is (x ∷ xs) = go (is_for c k id n x) refl (is_answered ms x.id (entry_at x.request known)) refl (filtered a is xs)
    where
      -- an answer to another
      kept : (d : Bool) → is_for c k id n x ≡ false → octets_of c k id n (left_open ms known xs) ≡ (if answered_by a.request id ms then [] else octets_of c k id n xs) → octets_of c k id n (if d then left_open ms known xs else x ∷ left_open ms known xs) ≡ (if answered_by a.request id ms then [] else octets_of c k id n xs)
      kept true f ih = ih
      kept false f ih = ap (λ b. if b then x.octets ∷ octets_of c k id n (left_open ms known xs) else octets_of c k id n (left_open ms known xs)) f ∙ ih

      mine : is_for c k id n x ≡ true → is_answered ms x.id (entry_at x.request known) ≡ answered_by a.request id ms
      mine f = let r = for_one x f in ap (λ i. is_answered ms i (entry_at x.request known)) r.1 ∙ (ap (λ j. is_answered ms id (entry_at j known)) r.0 ∙ ap (is_answered ms id) is)

      one : (d : Bool) → octets_of c k id n (left_open ms known xs) ≡ (if d then [] else octets_of c k id n xs) → is_for c k id n x ≡ true → octets_of c k id n (if d then left_open ms known xs else x ∷ left_open ms known xs) ≡ (if d then [] else x.octets ∷ octets_of c k id n xs)
      one true ih f = ih
      one false ih f = ap (λ b. if b then x.octets ∷ octets_of c k id n (left_open ms known xs) else octets_of c k id n (left_open ms known xs)) f ∙ ap (λ t. x.octets ∷ t) ih

      go : (f : Bool) → is_for c k id n x ≡ f → (d : Bool) → is_answered ms x.id (entry_at x.request known) ≡ d → octets_of c k id n (left_open ms known xs) ≡ (if answered_by a.request id ms then [] else octets_of c k id n xs)
          → octets_of c k id n (if d then left_open ms known xs else x ∷ left_open ms known xs) ≡ (if answered_by a.request id ms then [] else (if f then x.octets ∷ octets_of c k id n xs else octets_of c k id n xs))
      go true f d i ih =
          let same : answered_by a.request id ms ≡ d = sym (mine f) ∙ i in
          one d (ih ∙ ap (λ b. if b then [] else octets_of c k id n xs) same) f ∙ ap (λ b. if b then [] else x.octets ∷ octets_of c k id n xs) (sym same)
      go false f d i ih = kept d f ih

  fewer : (xs : List Sent) → octets_of c k id n xs ≡ [] → octets_of c k id n (left_open ms known xs) ≡ []
  fewer [] e = refl
  fewer (x ∷ xs) e = go (fewer xs) (is_for c k id n x) refl (is_answered ms x.id (entry_at x.request known)) e
    where
      go : (octets_of c k id n xs ≡ [] → octets_of c k id n (left_open ms known xs) ≡ []) → (f : Bool) → is_for c k id n x ≡ f → (d : Bool) → (if f then x.octets ∷ octets_of c k id n xs else octets_of c k id n xs) ≡ [] → octets_of c k id n (if d then left_open ms known xs else x ∷ left_open ms known xs) ≡ []
      go rest true f d e = absurd (cc)
      go rest false f true e = rest e
      go rest false f false e = ap (λ b. if b then x.octets ∷ octets_of c k id n (left_open ms known xs) else octets_of c k id n (left_open ms known xs)) f ∙ rest e

-- what is read of datagrams has a whole header
answered_same : (r : Request) (id n : ℕ) (ms : List Octets) → answered_by r id (received n ms) ≡ has_answer r id (received n ms)
unfolding answers
answered_same r id n [] = refl
answered_same r id n (m ∷ ms) = go (nat_le 12 (length (take n m))) refl (answered_same r id n ms)
  where
    go : (b : Bool) → nat_le 12 (length (take n m)) ≡ b → answered_by r id (received n ms) ≡ has_answer r id (received n ms) → answered_by r id (if b then take n m ∷ received n ms else received n ms) ≡ has_answer r id (if b then take n m ∷ received n ms else received n ms)
    go true long rest = ap₂ (λ (x : Bool) (y : Bool). x || y) (ap (λ b. b && is_answer id r.base (take n m)) long) rest
    go false long rest = rest

-- what was not sent is not waited for
unsent_none : (c : Conf) (r : Request) (p k id n : ℕ) (h : History) → named p k h ≡ [] → unanswered c r p k id n h ≡ []
unsent_none c r p k id n [] e = refl
unsent_none c r p k id n (Came x ∷ h) e = go (has_answer r id (received (recv_size c) (came p x.what h))) (unsent_none c r p k id n h e)
  where
    go : (b : Bool) → unanswered c r p k id n h ≡ [] → (if b then [] else unanswered c r p k id n h) ≡ []
    go true i = refl
    go false i = i
unsent_none c r p k id n (Put (Send q j i o) ∷ h) e = go (unsent_none c r p k id n h) (q == p) (j == k) e
  where
    go : (named p k h ≡ [] → unanswered c r p k id n h ≡ []) → (a b : Bool) → (if a && b then record { id = i; octets = o } ∷ named p k h else named p k h) ≡ []
        → (if (a && (b && (i == id))) && nat_lt n (now h + read_timeout c) then o ∷ unanswered c r p k id n h else unanswered c r p k id n h) ≡ []
    go rest true true e = absurd (cc)
    go rest true false e = rest e
    go rest false b e = rest e
unsent_none c r p k id n (Put (Start j s v) ∷ h) e = unsent_none c r p k id n h e
unsent_none c r p k id n (Put (OpenDgram q s) ∷ h) e = unsent_none c r p k id n h e
unsent_none c r p k id n (Put (OpenStream q s) ∷ h) e = unsent_none c r p k id n h e
unsent_none c r p k id n (Put (Write q j i o) ∷ h) e = unsent_none c r p k id n h e
unsent_none c r p k id n (Put (Resume q o) ∷ h) e = unsent_none c r p k id n h e
unsent_none c r p k id n (Put (Close q) ∷ h) e = unsent_none c r p k id n h e
unsent_none c r p k id n (Put (Stale j) ∷ h) e = unsent_none c r p k id n h e
unsent_none c r p k id n (Put (Reply j x) ∷ h) e = unsent_none c r p k id n h e

-- events

module _ (c : Conf) (h : History) (e : Event) (r : Requests) (f : Frames) (t : Open) (first : AskedFirst h) (kr : requests.Known (Came e ∷ h) r) (kf : frames.Known (Came e ∷ h) f) (is : Known c h t) where
  -- what is read of what came at a place
  brought : (p : ℕ) → List Octets
  brought p = received (recv_size c) (came p e.what h)

  left_here : (p : ℕ) → reverse (listed p (met c f.brought r.askings t)) ≡ left_open (brought p) r.askings (reverse (listed p t))
  unfolding brought
  left_here p =
      let ms = received (recv_size c) (frames.frames_of p f.brought) in
      ap reverse (met_listed c f.brought r.askings t p) ∙ (sym (left_reversed ms r.askings (listed p t)) ∙ ap (λ ms. left_open (received (recv_size c) ms) r.askings (reverse (listed p t))) (kf.here p))

  unsent_here : (k p id n : ℕ) → named p k h ≡ [] → octets_of c k id n (reverse (listed p (met c f.brought r.askings t))) ≡ []
  unsent_here k p id n none = ap (octets_of c k id n) (left_here p) ∙ fewer c (brought p) r.askings k id n (reverse (listed p t)) (is.unsent k p id n none)

  waits_here : (k p id n : ℕ) (a : Asking) → is_of_kind Stream (site p h) ≡ false → asking k (Came e ∷ h) ≡ Some a → octets_of c k id n (reverse (listed p (met c f.brought r.askings t))) ≡ unanswered c a.request p k id n (Came e ∷ h)
  unfolding brought
  waits_here k p id n a non q = go (asking k h) refl
    where
      go : (o : Option Asking) → asking k h ≡ o → octets_of c k id n (reverse (listed p (met c f.brought r.askings t))) ≡ unanswered c a.request p k id n (Came e ∷ h)
      go None i =
          let none = first.unsent k p i in
          unsent_here k p id n none ∙ (emptied (has_answer a.request id (brought p)) ∙ sym (ap (λ os. if has_answer a.request id (brought p) then [] else os) (unsent_none c a.request p k id n h none)))
      go (Some b) i =
          let same : b ≡ a = (let z : Some b ≡ Some a = sym (asking_came k b e h i) ∙ q in cc) in
          let j : asking k h ≡ Some a = i ∙ ap Some same in
          ap (octets_of c k id n) (left_here p)
          ∙ (filtered c (brought p) r.askings k id n a (kr.askings k ∙ q) (reverse (listed p t))
          ∙ (ap (λ b. if b then [] else octets_of c k id n (reverse (listed p t))) (answered_same a.request id (recv_size c) (came p e.what h))
          ∙ ap (λ os. if has_answer a.request id (brought p) then [] else os) (is.waits k p id n a non j)))

-- outs

-- what is sent at a place
module _ (c : Conf) (h : History) (n0 : ℕ) (t : Open) (q j i : ℕ) (o : Octets) (time : n0 ≡ now h) (is : Known c h t) where
  sent : Sent
  sent = record { request = j; id = i; octets = o; moment = n0 }

  more : (p : ℕ) → reverse (listed p (sends_more q sent t)) ≡ (if q == p then sent ∷ reverse (listed p t) else reverse (listed p t))
  more p = ap reverse (listed_puts p q (listed q t ++ sent ∷ []) t) ∙ go (q == p) refl
    where
      go : (b : Bool) → (q == p) ≡ b → reverse (if b then listed q t ++ sent ∷ [] else listed p t) ≡ (if b then sent ∷ reverse (listed p t) else reverse (listed p t))
      go true e = pushed (listed q t) sent ∙ ap (λ m. sent ∷ reverse (listed m t)) (same_number q p e)
      go false e = refl

  sent_waits : (k p id n : ℕ) (a : Asking) → is_of_kind Stream (site p h) ≡ false → asking k h ≡ Some a → octets_of c k id n (reverse (listed p (sends_more q sent t))) ≡ unanswered c a.request p k id n (Put (Send q j i o) ∷ h)
  unfolding sent read_timeout
  sent_waits k p id n a non ask = ap (octets_of c k id n) (more p) ∙ (go (q == p) ∙ ap (λ m. if ((q == p) && ((j == k) && (i == id))) && nat_lt n (m + read_timeout c) then o ∷ unanswered c a.request p k id n h else unanswered c a.request p k id n h) time)
    where
      go : (b : Bool) → octets_of c k id n (if b then sent ∷ reverse (listed p t) else reverse (listed p t)) ≡ (if (b && ((j == k) && (i == id))) && nat_lt n (n0 + read_timeout c) then o ∷ unanswered c a.request p k id n h else unanswered c a.request p k id n h)
      go true = ap (λ os. if ((j == k) && (i == id)) && nat_lt n (n0 + read_timeout c) then o ∷ os else os) (is.waits k p id n a non ask)
      go false = is.waits k p id n a non ask

  sent_unsent : (k p id n : ℕ) → named p k (Put (Send q j i o) ∷ h) ≡ [] → octets_of c k id n (reverse (listed p (sends_more q sent t))) ≡ []
  unfolding sent
  sent_unsent k p id n none = ap (octets_of c k id n) (more p) ∙ go (q == p) (j == k) refl none
    where
      go : (a b : Bool) → (j == k) ≡ b → (if a && b then record { id = i; octets = o } ∷ named p k h else named p k h) ≡ [] → octets_of c k id n (if a then sent ∷ reverse (listed p t) else reverse (listed p t)) ≡ []
      go true true e none = absurd (cc)
      go true false e none = ap (λ b. if (b && (i == id)) && nat_lt n (n0 + read_timeout c) then o ∷ octets_of c k id n (reverse (listed p t)) else octets_of c k id n (reverse (listed p t))) e ∙ is.unsent k p id n none
      go false b e none = is.unsent k p id n none

was_none : (v : Via) (s : ℕ) (b : Bool) (o : Option Site) → is_of_kind Stream (if b then opens_as v s o else o) ≡ false → is_of_kind Stream o ≡ false
was_none v s b None e = refl
was_none v s true (Some x) e = e
was_none v s false (Some x) e = e

out : (c : Conf) (h : History) (n : ℕ) (t : Open) (o : Out) → n ≡ now h → Known c h t → Known c (Put o ∷ h) (has_put o n t)
unfolding sent
out c h n t (Send q j i o) time is = record { waits = sent_waits c h n t q j i o time is; unsent = sent_unsent c h n t q j i o time is }
out c h n t (OpenDgram q s) time is = record { waits = λ k p id m a non ask. is.waits k p id m a (was_none Dgram s (q == p) (site p h) non) ask; unsent = is.unsent }
out c h n t (OpenStream q s) time is = record { waits = λ k p id m a non ask. is.waits k p id m a (was_none Stream s (q == p) (site p h) non) ask; unsent = is.unsent }
out c h n t (Start j s v) time is = record { waits = is.waits; unsent = is.unsent }
out c h n t (Write q j i o) time is = record { waits = is.waits; unsent = is.unsent }
out c h n t (Resume q o) time is = record { waits = is.waits; unsent = is.unsent }
out c h n t (Close q) time is = record { waits = is.waits; unsent = is.unsent }
out c h n t (Stale j) time is = record { waits = is.waits; unsent = is.unsent }
out c h n t (Reply j x) time is = record { waits = is.waits; unsent = is.unsent }

pub goes_on : (c : Conf) → GoesOn c
goes_on c = record {
  begins = record { waits = λ k p id n a non e. absurd (cc); unsent = λ k p id n e. refl };
  event = λ h e r f t first kr kf is. record { waits = waits_here c h e r f t first kr kf is; unsent = unsent_here c h e r f t first kr kf is };
  out = out c;
}
