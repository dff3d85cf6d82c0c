-- What the tables of a forwarder are, in terms of the queries that wait.
use Rattle.std.proofs.Common.{◌≡◌, ◌≢◌, ℕ, suc, ◌<◌, ◌≤◌, List, [], ◌∷◌, ◌++◌, Option, Some, cond, Bool, true, false, refl, sym, ap, ◌∙◌, arith}
use Rattle.std.specs.Prelude.{◌==◌, ◌&&◌, not, is_some, map, max, option_map, if◌then◌else◌}
use Rattle.std.specs.List.{AllByRecursion, filter}
use Rattle.std.proofs.lemmas.Bool.Decides.{nat_tests}
use Rattle.number_table.specs.Entries.{entry_at}
use Rattle.client_request.specs.declared.event.Event.{Event}
use Rattle.client_request.specs.Request.{Request}
use Rattle.client_request.specs.declared.event.What.{What}
use Rattle.client_request.specs.declared.event.What.TheVariants.{Ask}
use Rattle.front_queries.specs.Query.{Query, key_of}
use Rattle.front_queries.specs.Requests.{request_of}
use Rattle.front_peers.specs.Items.{Streams, is_new}
use Rattle.front_peers.specs.declared.items.Asker.{Asker}
use Rattle.front_peers.specs.declared.peers.Stream.{Stream}
use Rattle.front_steps.specs.Waiting.{Waits, askers_or_none}
use Rattle.front_steps.specs.declared.waits.Waiting.{Waiting}
use Rattle.right_trace.specs.Requests.{Asking, asking, asking_of, asks, is_ask, replied}
use Rattle.right_trace.specs.Time.{now}
use Rattle.right_trace.specs.Trace.{History, Came, Put}
use Rattle.proof_forwarding.specs.Heard.{Heard}
use Rattle.proof_forwarding.specs.Owing.{Owed}
use Rattle.proof_forwarding.proofs.Tables.{Rises}

-- A query that waits for the reply to a request, and since when.
pub record Pending : Type 0 where
  pub number : ℕ
  pub asker : Asker
  pub since : ℕ

abbrev pub of_number : ℕ → List Pending → List Pending
of_number k ps = filter (λ p. p.number == k) ps

abbrev pub not_of : ℕ → List Pending → List Pending
not_of k ps = filter (λ p. not (p.number == k)) ps

abbrev pub askers_in : List Pending → List Asker
askers_in ps = map (λ p. p.asker) ps

abbrev pub owed : Pending → Owed
owed p = record { asker = p.asker; since = p.since }

abbrev pub owed_in : List Pending → List Owed
owed_in ps = map owed ps

pub record IsWaiting (h : History) (last : Option ℕ) (p : Pending) : Type 0 where
  pub asked : Asking
  pub first : Query
  pub is_asked : asking p.number h ≡ Some asked
  pub request : asked.request ≡ request_of first
  pub same : key_of first ≡ key_of p.asker.query
  pub since : asked.moment ≤ p.since
  pub none : replied p.number h ≡ false
  pub old : p.asker.by_stream ≡ true → is_new p.asker.peer last ≡ false

-- a number of what is asked, in the table of these
pub record IsKeyed (next : ℕ) (requests : List (ℕ × Waiting)) (e : List ℕ × ℕ) : Type 0 where
  pub below : e.1 < next
  pub same : (v : Waiting) → entry_at e.1 requests ≡ Some v → v.key ≡ e.0

-- It asks what the request asks for whose reply it waits.
abbrev pub Shares : List (ℕ × Waiting) → Pending → Type 0
Shares requests p = (v : Waiting) → entry_at p.number requests ≡ Some v → key_of p.asker.query ≡ v.key

pub record WaitsKept (w : Waits) (h : History) (last : Option ℕ) (ps : List Pending) : Type 0 where
  pub next : w.next ≡ asks h
  pub rises : Rises w.requests
  pub keyed : AllByRecursion (IsKeyed w.next w.requests) w.numbers
  pub keys : (k : ℕ) (v : Waiting) → entry_at k w.requests ≡ Some v → v.key ≡ key_of v.first.query
  pub each : (k : ℕ) → askers_or_none (entry_at k w.requests) ≡ askers_in (of_number k ps)
  pub waiting : AllByRecursion (IsWaiting h last) ps
  pub shares : AllByRecursion (Shares w.requests) ps
  pub asked : (k : ℕ) → replied k h ≡ true → k < asks h

pub record StreamsKept (heard : Heard) (s : Streams) : Type 0 where
  pub rises : Rises s.streams
  pub kept : (peer : ℕ) → heard.kept peer ≡ option_map (λ (t : Stream). t.framer) (entry_at peer s.streams)
  pub last : heard.last ≡ s.last
  pub old : (peer : ℕ) → is_some (heard.kept peer) ≡ true → is_new peer heard.last ≡ false

-- ---- lists

pub all_changed : {A : Type 0} (P Q : A → Type 0) → ((a : A) → P a → Q a) → (xs : List A) → AllByRecursion P xs → AllByRecursion Q xs
all_changed P Q more [] all = tt
all_changed P Q more (x ∷ xs) all = (more x all.0, all_changed P Q more xs all.1)

pub all_joined : {A : Type 0} (P Q R : A → Type 0) → ((a : A) → P a → Q a → R a) → (xs : List A) → AllByRecursion P xs → AllByRecursion Q xs → AllByRecursion R xs
all_joined P Q R more [] all also = tt
all_joined P Q R more (x ∷ xs) all also = (more x all.0 also.0, all_joined P Q R more xs all.1 also.1)

pub all_more : {A : Type 0} (P : A → Type 0) (xs : List A) (x : A) → AllByRecursion P xs → P x → AllByRecursion P (xs ++ x ∷ [])
all_more P [] x all p = (p, tt)
all_more P (y ∷ xs) x all p = (all.0, all_more P xs x all.1 p)

pub filter_snoc : {A : Type 0} (test : A → Bool) (xs : List A) (x : A) → filter test (xs ++ x ∷ []) ≡ filter test xs ++ cond (test x) (x ∷ []) []
filter_snoc test [] x = refl
filter_snoc {A} test (y ∷ xs) x = go (test y) (filter_snoc test xs x)
  where
    go : (b : Bool) → filter test (xs ++ x ∷ []) ≡ filter test xs ++ cond (test x) (x ∷ []) []
        → cond b (y ∷ filter test (xs ++ x ∷ [])) (filter test (xs ++ x ∷ [])) ≡ cond b (y ∷ filter test xs) (filter test xs) ++ cond (test x) (x ∷ []) []
    go true ih = ap (λ (zs : List A). y ∷ zs) ih
    go false ih = ih

pub append_nil : {A : Type 0} (xs : List A) → xs ++ [] ≡ xs
append_nil [] = refl
append_nil {A} (x ∷ xs) = ap (λ (ys : List A). x ∷ ys) (append_nil xs)

pub append_assoc : {A : Type 0} (xs ys zs : List A) → (xs ++ ys) ++ zs ≡ xs ++ (ys ++ zs)
append_assoc [] ys zs = refl
append_assoc {A} (x ∷ xs) ys zs = ap (λ (all : List A). x ∷ all) (append_assoc xs ys zs)

pub map_snoc : {A B : Type 0} (f : A → B) (xs : List A) (x : A) → map f (xs ++ x ∷ []) ≡ map f xs ++ f x ∷ []
map_snoc f [] x = refl
map_snoc {A} {B} f (y ∷ xs) x = ap (λ (ys : List B). f y ∷ ys) (map_snoc f xs x)

-- ---- numbers

pub same_number : (a b : ℕ) → (a == b) ≡ true → a ≡ b
same_number a b is = grind (arith, nat_tests)

pub is_same : (a b : ℕ) → a ≡ b → (a == b) ≡ true
is_same a b is = grind (arith, nat_tests)

pub is_other : (a b : ℕ) → a ≢ b → (a == b) ≡ false
is_other a b ne = grind (arith, nat_tests)

pub other_number : (a b : ℕ) → (a == b) ≡ false → a ≢ b
other_number a b is same = absurd (grind (arith, nat_tests))

-- ---- which of them have a number

-- those of one number are none where they are left out
pub none_of : (k : ℕ) (ps : List Pending) → of_number k (not_of k ps) ≡ []
none_of k [] = refl
none_of k (p ∷ ps) = go (p.number == k) refl (none_of k ps)
  where
    go : (b : Bool) → (p.number == k) ≡ b → of_number k (not_of k ps) ≡ [] → of_number k (cond (not b) (p ∷ not_of k ps) (not_of k ps)) ≡ []
    go true is ih = ih
    go false is ih = ap (λ (b : Bool). cond b (p ∷ of_number k (not_of k ps)) (of_number k (not_of k ps))) is ∙ ih

-- those of another are as many
pub others_of : (j k : ℕ) (ps : List Pending) → j ≢ k → of_number j (not_of k ps) ≡ of_number j ps
others_of j k [] ne = refl
others_of j k (p ∷ ps) ne = go (p.number == k) refl (others_of j k ps ne)
  where
    go : (b : Bool) → (p.number == k) ≡ b → of_number j (not_of k ps) ≡ of_number j ps → of_number j (cond (not b) (p ∷ not_of k ps) (not_of k ps)) ≡ of_number j (p ∷ ps)
    go true is ih =
        let apart : (p.number == j) ≡ false = is_other p.number j (λ same. ne (sym same ∙ same_number p.number k is)) in
        ih ∙ sym (ap (λ (b : Bool). cond b (p ∷ of_number j ps) (of_number j ps)) apart)
    go false is ih = ap (λ (rest : List Pending). cond (p.number == j) (p ∷ rest) rest) ih

-- those that are left have another number
pub left_waits : (P : Pending → Type 0) (Q : Pending → Type 0) (k : ℕ) → ((p : Pending) → p.number ≢ k → P p → Q p) → (ps : List Pending) → AllByRecursion P ps → AllByRecursion Q (not_of k ps)
left_waits P Q k more [] all = tt
left_waits P Q k more (p ∷ ps) all = go (p.number == k) refl (left_waits P Q k more ps all.1)
  where
    go : (b : Bool) → (p.number == k) ≡ b → AllByRecursion Q (not_of k ps) → AllByRecursion Q (cond (not b) (p ∷ not_of k ps) (not_of k ps))
    go true is ih = ih
    go false is ih = (more p (other_number p.number k is) all.0, ih)

-- the first of a number is one of them
pub record IsFirstOf (P : Pending → Type 0) (k : ℕ) (asker : Asker) : Type 0 where
  pub pending : Pending
  pub holds : P pending
  pub number : pending.number ≡ k
  pub same : pending.asker ≡ asker

pub first_of : (P : Pending → Type 0) (k : ℕ) (ps : List Pending) (asker : Asker) (others : List Asker)
    → AllByRecursion P ps → askers_in (of_number k ps) ≡ asker ∷ others → IsFirstOf P k asker
first_of P k [] asker others all is = absurd (cc)
first_of P k (p ∷ ps) asker others all is = go (p.number == k) refl is (first_of P k ps asker others all.1)
  where
    go : (b : Bool) → (p.number == k) ≡ b → askers_in (cond b (p ∷ of_number k ps) (of_number k ps)) ≡ asker ∷ others
        → (askers_in (of_number k ps) ≡ asker ∷ others → IsFirstOf P k asker) → IsFirstOf P k asker
    go true at is ih = record { pending = p; holds = all.0; number = same_number p.number k at; same = cc }
    go false at is ih = ih is

-- ---- what a history tells, an item later

asking_of_moment : (w : What) (n : ℕ) (a : Asking) → asking_of w n ≡ Some a → a.moment ≡ n
asking_of_moment (Ask request) n a is = cc
asking_of_moment _ n a is = absurd (cc)

pub asking_moment : (k : ℕ) (a : Asking) (h : History) → asking k h ≡ Some a → a.moment ≤ now h
asking_moment k a [] is = absurd (cc)
asking_moment k a (Put o ∷ h) is = asking_moment k a h is
asking_moment k a (Came e ∷ h) is = go (is_ask e.what && (asks h == k)) is (asking_moment k a h)
  where
    go : (b : Bool) → (if b then asking_of e.what (max e.moment.0 (now h)) else asking k h) ≡ Some a → (asking k h ≡ Some a → a.moment ≤ now h) → a.moment ≤ max e.moment.0 (now h)
    go true is ih = let at : a.moment ≡ max e.moment.0 (now h) = asking_of_moment e.what (max e.moment.0 (now h)) a is in omega arith
    go false is ih = let before : a.moment ≤ now h = ih is in omega arith

-- a request that is asked has the next number
pub asked_now : (e : Event) (h : History) (r : Request) → e.what ≡ Ask r → asking (asks h) (Came e ∷ h) ≡ Some (record { request = r; moment = max e.moment.0 (now h) })
asked_now e h r is =
    let at : (asks h == asks h) ≡ true = is_same (asks h) (asks h) refl in
    ap (λ (w : What). if is_ask w && (asks h == asks h) then asking_of w (max e.moment.0 (now h)) else asking (asks h) h) is
    ∙ ap (λ (b : Bool). if b then asking_of (Ask r) (max e.moment.0 (now h)) else asking (asks h) h) at

pub asks_now : (e : Event) (h : History) (r : Request) → e.what ≡ Ask r → asks (Came e ∷ h) ≡ suc (asks h)
asks_now e h r is = ap (λ (w : What). if is_ask w then suc (asks h) else asks h) is

pub asks_still : (e : Event) (h : History) → is_ask e.what ≡ false → asks (Came e ∷ h) ≡ asks h
asks_still e h is = ap (λ (b : Bool). if b then suc (asks h) else asks h) is

pub few_asked : (e : Event) (h : History) → asks h ≤ asks (Came e ∷ h)
few_asked e h = go (is_ask e.what)
  where
    go : (b : Bool) → asks h ≤ (if b then suc (asks h) else asks h)
    go true = omega arith
    go false = omega arith
