-- What is kept of openings is what the definitions say.
use Rattle.std.proofs.Common.{◌≡◌, ℕ, ◌+◌, ◌*◌, ◌<◌, ◌≤◌, ◌==◌, ◌&&◌, ◌⊎◌, inl, inr, Bool, true, false, if◌then◌else◌, List, [], ◌∷◌, Option, Some, None, refl, sym, ap, ap₂, ◌∙◌, subst, arith, lit<}
use Rattle.std.specs.Prelude.{is_some}
use Rattle.number_table.specs.Entries.{entry_at}
use Rattle.client_request.specs.declared.error.Error.TheVariants as errors
use Rattle.client_request.specs.declared.error.QueryError.TheVariants as query
use Rattle.client_request.specs.declared.fault.Fault.{Fault}
use Rattle.client_request.specs.declared.fault.Fault.TheVariants as fault
use Rattle.client_request.specs.declared.event.{What.What, Out.Out, Row.Row}
use Rattle.client_request.specs.declared.event.What.TheVariants.{Ask, Opened, OpenFailed, SendFailed, ShortSend, Datagram, RecvFailed, Wrote, WriteFailed, Bytes, ReadFailed, Ended, Tick}
use Rattle.client_request.specs.declared.event.Out.TheVariants.{Start, OpenDgram, OpenStream, Send, Write, Resume, Close, Stale, Reply}
use Rattle.client_request.specs.declared.event.Via.TheVariants.{Dgram, Stream}
use Rattle.right_trace.specs.Trace.{History, Conf, Came, Put, put_all, after}
use Rattle.right_trace.specs.Time.{now, newest, row_before}
use Rattle.right_trace.specs.Requests.{same_via, start, started}
use Rattle.right_trace.specs.Parts.{IsIn}
use Rattle.right_trace.specs.Causes.{FailedToOpen, NotOpened}
use Rattle.trace_tables.specs.declared.books.Books.{Books}
use Rattle.trace_tables.specs.declared.places.Place.{Place}
use Rattle.trace_tables.specs.declared.requests.Requests.{Requests}
use Rattle.trace_tables.specs.Lists.{listed, adds}
use Rattle.trace_tables.specs.{Tables.Table, Requests.started_seen}
use Rattle.trace_tables.specs.Books as books
use Rattle.trace_tables.proofs.{Listing.listed_adds, Tables.at_puts}
use Rattle.trace_points.specs.questions.Causes.{was_opening, fault_at, opening_fault}
use Rattle.trace_points.proofs.lemmas.questions.Failing.{opening_decides}
use Rattle.trace_errors.proofs.lemmas.promptness.Hearing.{before_row, row_event}
use Rattle.trace_errors.proofs.Caused.{cause_of}
use Rattle.trace_errors.specs.declared.openings.{Begun.Begun, Refused.Refused, Openings.Openings}
use Rattle.trace_errors.specs.Rows.{IsCaused, WasCaused}
use Rattle.trace_errors.specs.Openings.{begins, begin_all, refused_at, refused_by, number_of, key_of, refuses, after_row, IsSince, IsRefusedAmong, Known, GoesOn}
use Rattle.trace_errors.proofs.Rows.{same_number, own, more_so, more_kept, more_new, row_later, row_was}

-- requests that servers have

record AtServers (h : History) (t : List (ℕ × List Begun)) : Type 0 where
  so : (k : ℕ) (x : Begun) → IsIn x (listed k t) → started k x.server Dgram h ≡ true
  back : (k s : ℕ) → started k s Dgram h ≡ true → (x : Begun) × IsIn x (listed k t) × (x.server ≡ s)

record Step (n : ℕ) (o : Out) (t : List (ℕ × List Begun)) : Type 0 where
  kept : (k : ℕ) (x : Begun) → IsIn x (listed k t) → IsIn x (listed k (begins o n t))
  new : (k : ℕ) (x : Begun) → IsIn x (listed k (begins o n t)) → IsIn x (listed k t) ⊎ (x.row ≡ n)
  at : (h : History) → AtServers h t → AtServers (Put o ∷ h) (begins o n t)

module _ (n j s : ℕ) (t : List (ℕ × List Begun)) where
  more : (k : ℕ) → listed k (adds j (record { server = s; row = n }) t) ≡ (if j == k then record { server = s; row = n } ∷ listed k t else listed k t)
  more k = listed_adds k j (record { server = s; row = n }) t

  is_more : (k : ℕ) (x : Begun) → IsIn x (listed k (adds j (record { server = s; row = n }) t)) → (((j == k) ≡ true) × (record { server = s; row = n } ≡ x)) ⊎ IsIn x (listed k t)
  is_more k x i = more_so (j == k) x (record { server = s; row = n }) (listed k t) (subst (IsIn x) (more k) i)

  begins_at : (h : History) → AtServers h t → AtServers (Put (Start j s Dgram) ∷ h) (adds j (record { server = s; row = n }) t)
  begins_at h a = record { so = so; back = back }
    where
      started_is : (k r : ℕ) (b d : Bool) → b ≡ true → d ≡ true → is_some (if b && d then Some (now h) else start k r Dgram h) ≡ true
      started_is k r true true p q = refl
      started_is k r true false p q = absurd (cc)
      started_is k r false d p q = absurd (cc)

      was : (k r : ℕ) (b : Bool) → started k r Dgram h ≡ true → is_some (if b then Some (now h) else start k r Dgram h) ≡ true
      was k r true e = refl
      was k r false e = e

      so : (k : ℕ) (x : Begun) → IsIn x (listed k (adds j (record { server = s; row = n }) t)) → is_some (if (j == k) && (s == x.server) then Some (now h) else start k x.server Dgram h) ≡ true
      so k x i = go (is_more k x i)
        where
          go : (((j == k) ≡ true) × (record { server = s; row = n } ≡ x)) ⊎ IsIn x (listed k t) → is_some (if (j == k) && (s == x.server) then Some (now h) else start k x.server Dgram h) ≡ true
          go (inl e) = started_is k x.server (j == k) (s == x.server) e.0 (ap (λ (y : Begun). s == y.server) (sym e.1) ∙ own s)
          go (inr i) = was k x.server ((j == k) && (s == x.server)) (a.so k x i)

      back : (k r : ℕ) → is_some (if (j == k) && (s == r) then Some (now h) else start k r Dgram h) ≡ true → (x : Begun) × IsIn x (listed k (adds j (record { server = s; row = n }) t)) × (x.server ≡ r)
      back k r e = go (j == k) refl (s == r) refl e
        where
          old : started k r Dgram h ≡ true → (x : Begun) × IsIn x (listed k (adds j (record { server = s; row = n }) t)) × (x.server ≡ r)
          old e = (let y = a.back k r e in (y.0, subst (IsIn y.0) (sym (more k)) (more_kept (j == k) y.0 (record { server = s; row = n }) (listed k t) y.1), y.2))

          go : (b : Bool) → (j == k) ≡ b → (d : Bool) → (s == r) ≡ d → is_some (if b && d then Some (now h) else start k r Dgram h) ≡ true → (x : Begun) × IsIn x (listed k (adds j (record { server = s; row = n }) t)) × (x.server ≡ r)
          go true p true q e = (record { server = s; row = n }, subst (IsIn (record { server = s; row = n })) (sym (more k)) (more_new (j == k) (record { server = s; row = n }) (listed k t) p), same_number s r q)
          go true p false q e = old e
          go false p d q e = old e

  begin_step : Step n (Start j s Dgram) t
  begin_step = record {
    kept = λ k x i. subst (IsIn x) (sym (more k)) (more_kept (j == k) x (record { server = s; row = n }) (listed k t) i);
    new = λ k x i. go k x (is_more k x i);
    at = begins_at;
  }
    where
      go : (k : ℕ) (x : Begun) → (((j == k) ≡ true) × (record { server = s; row = n } ≡ x)) ⊎ IsIn x (listed k t) → IsIn x (listed k t) ⊎ (x.row ≡ n)
      go k x (inl e) = inr (sym (ap (λ (y : Begun). y.row) e.1))
      go k x (inr i) = inl i

step : (n : ℕ) (o : Out) (t : List (ℕ × List Begun)) → Step n o t
step n (Start j s Dgram) t = begin_step n j s t
step n (Start j s Stream) t = record { kept = λ k x i. i; new = λ k x i. inl i; at = λ h a. record { so = a.so; back = a.back } }
step n (OpenDgram p s) t = record { kept = λ k x i. i; new = λ k x i. inl i; at = λ h a. record { so = a.so; back = a.back } }
step n (OpenStream p s) t = record { kept = λ k x i. i; new = λ k x i. inl i; at = λ h a. record { so = a.so; back = a.back } }
step n (Send p j i o) t = record { kept = λ k x i. i; new = λ k x i. inl i; at = λ h a. record { so = a.so; back = a.back } }
step n (Write p j i o) t = record { kept = λ k x i. i; new = λ k x i. inl i; at = λ h a. record { so = a.so; back = a.back } }
step n (Resume p o) t = record { kept = λ k x i. i; new = λ k x i. inl i; at = λ h a. record { so = a.so; back = a.back } }
step n (Close p) t = record { kept = λ k x i. i; new = λ k x i. inl i; at = λ h a. record { so = a.so; back = a.back } }
step n (Stale j) t = record { kept = λ k x i. i; new = λ k x i. inl i; at = λ h a. record { so = a.so; back = a.back } }
step n (Reply j x) t = record { kept = λ k x i. i; new = λ k x i. inl i; at = λ h a. record { so = a.so; back = a.back } }

all_at : (n : ℕ) (os : List Out) (h : History) (t : List (ℕ × List Begun)) → AtServers h t → AtServers (put_all os h) (begin_all os n t)
all_at n [] h t a = a
all_at n (o ∷ os) h t a = all_at n os (Put o ∷ h) (begins o n t) ((step n o t).at h a)

all_kept : (n : ℕ) (os : List Out) (t : List (ℕ × List Begun)) (k : ℕ) (x : Begun) → IsIn x (listed k t) → IsIn x (listed k (begin_all os n t))
all_kept n [] t k x i = i
all_kept n (o ∷ os) t k x i = all_kept n os (begins o n t) k x ((step n o t).kept k x i)

all_new : (n : ℕ) (os : List Out) (t : List (ℕ × List Begun)) (k : ℕ) (x : Begun) → IsIn x (listed k (begin_all os n t)) → IsIn x (listed k t) ⊎ (x.row ≡ n)
all_new n [] t k x i = inl i
all_new n (o ∷ os) t k x i = go (all_new n os (begins o n t) k x i)
  where
    go : IsIn x (listed k (begins o n t)) ⊎ (x.row ≡ n) → IsIn x (listed k t) ⊎ (x.row ≡ n)
    go (inl i) = (step n o t).new k x i
    go (inr e) = inr e

-- servers with faults, as numbers

numbered : ℕ → Fault
numbered n =
    if n == 0 then fault.Refused
    else if n == 1 then fault.Reset
    else if n == 2 then fault.Unreachable
    else if n == 3 then fault.InUse
    else if n == 4 then fault.Broken
    else if n == 5 then fault.Other
    else if n == 6 then fault.Expired
    else if n == 7 then fault.ShortSend
    else if n == 8 then fault.NothingTaken
    else fault.EndOfData

is_numbered : (f : Fault) → numbered (number_of f) ≡ f
unfolding numbered
is_numbered fault.Refused = refl
is_numbered fault.Reset = refl
is_numbered fault.Unreachable = refl
is_numbered fault.InUse = refl
is_numbered fault.Broken = refl
is_numbered fault.Other = refl
is_numbered fault.Expired = refl
is_numbered fault.ShortSend = refl
is_numbered fault.NothingTaken = refl
is_numbered fault.EndOfData = refl

number_below : (f : Fault) → number_of f < 16
number_below fault.Refused = lit< tt
number_below fault.Reset = lit< tt
number_below fault.Unreachable = lit< tt
number_below fault.InUse = lit< tt
number_below fault.Broken = lit< tt
number_below fault.Other = lit< tt
number_below fault.Expired = lit< tt
number_below fault.ShortSend = lit< tt
number_below fault.NothingTaken = lit< tt
number_below fault.EndOfData = lit< tt

same_parts : (s r a b : ℕ) → a < 16 → b < 16 → s * 16 + a ≡ r * 16 + b → (s ≡ r) × (a ≡ b)
same_parts s r a b l m e = (omega arith, omega arith)

same_key : (s r : ℕ) (f g : Fault) → key_of s f ≡ key_of r g → (s ≡ r) × (f ≡ g)
same_key s r f g e =
    let q = same_parts s r (number_of f) (number_of g) (number_below f) (number_below g) e in
    (q.0, sym (is_numbered f) ∙ (ap numbered q.1 ∙ is_numbered g))

-- refusals

record Among (f : Fault) (t : List (ℕ × ℕ)) (xs : List Begun) : Type 0 where
  start : Begun
  there : IsIn start xs
  row : ℕ
  is_row : entry_at (key_of start.server f) t ≡ Some row
  late : start.row ≤ row

since_so : (n : ℕ) (o : Option ℕ) → IsSince n o → (m : ℕ) × (o ≡ Some m) × (n ≤ m)
since_so n None i = absurd i
since_so n (Some m) l = (m, refl, l)

so_since : (n m : ℕ) (o : Option ℕ) → o ≡ Some m → n ≤ m → IsSince n o
so_since n m o e l = subst (IsSince n) (sym e) l

among_so : (f : Fault) (t : List (ℕ × ℕ)) (xs : List Begun) → IsRefusedAmong f t xs → Among f t xs
among_so f t [] i = absurd i
among_so f t (x ∷ xs) (inl i) = (let s = since_so x.row (entry_at (key_of x.server f) t) i in record { start = x; there = inl refl; row = s.0; is_row = s.1; late = s.2 })
among_so f t (x ∷ xs) (inr i) = (let a = among_so f t xs i in record { start = a.start; there = inr a.there; row = a.row; is_row = a.is_row; late = a.late })

so_among : (f : Fault) (t : List (ℕ × ℕ)) (y : Begun) (n : ℕ) (xs : List Begun) → IsIn y xs → entry_at (key_of y.server f) t ≡ Some n → y.row ≤ n → IsRefusedAmong f t xs
so_among f t y n [] i e l = absurd i
so_among f t y n (x ∷ xs) (inl q) e l = inl (subst (λ (x : Begun). IsSince x.row (entry_at (key_of x.server f) t)) (sym q) (so_since y.row n (entry_at (key_of y.server f) t) e l))
so_among f t y n (x ∷ xs) (inr i) e l = inr (so_among f t y n xs i e l)

refused_more : (n q : ℕ) (r : Refused) (t : List (ℕ × ℕ)) → entry_at q (refuses n (Some r) t) ≡ (if key_of r.server r.fault == q then Some n else entry_at q t)
refused_more n q r t = at_puts (key_of r.server r.fault) n q t

refused_kept : (n q m : ℕ) (o : Option Refused) (t : List (ℕ × ℕ)) → m ≤ n → entry_at q t ≡ Some m → (l : ℕ) × (entry_at q (refuses n o t) ≡ Some l) × (m ≤ l)
refused_kept n q m None t l e = (m, e, omega arith)
refused_kept n q m (Some r) t l e = go (key_of r.server r.fault == q) refl
  where
    go : (b : Bool) → (key_of r.server r.fault == q) ≡ b → (l : ℕ) × (entry_at q (refuses n (Some r) t) ≡ Some l) × (m ≤ l)
    go true i = (n, refused_more n q r t ∙ ap (λ b. if b then Some n else entry_at q t) i, l)
    go false i = (m, refused_more n q r t ∙ (ap (λ b. if b then Some n else entry_at q t) i ∙ e), omega arith)

refused_bound : (n q m : ℕ) (o : Option Refused) (t : List (ℕ × ℕ)) → ((q m : ℕ) → entry_at q t ≡ Some m → m ≤ n) → entry_at q (refuses n o t) ≡ Some m → m ≤ n
refused_bound n q m None t f e = f q m e
refused_bound n q m (Some r) t f e = go (key_of r.server r.fault == q) (sym (refused_more n q r t) ∙ e)
  where
    go : (b : Bool) → (if b then Some n else entry_at q t) ≡ Some m → m ≤ n
    go true e = (let z : n ≡ m = cc in omega arith)
    go false e = f q m e

-- a refusal is an old one, or that of the row
record IsNew (n s : ℕ) (f : Fault) (o : Option Refused) (m : ℕ) : Type 0 where
  is : o ≡ Some (record { server = s; fault = f })
  row : m ≡ n

refused_new : (n s : ℕ) (f : Fault) (o : Option Refused) (t : List (ℕ × ℕ)) (m : ℕ) → entry_at (key_of s f) (refuses n o t) ≡ Some m → (entry_at (key_of s f) t ≡ Some m) ⊎ IsNew n s f o m
refused_new n s f None t m e = inl e
refused_new n s f (Some r) t m e = go (key_of r.server r.fault == key_of s f) refl (sym (refused_more n (key_of s f) r t) ∙ e)
  where
    go : (b : Bool) → (key_of r.server r.fault == key_of s f) ≡ b → (if b then Some n else entry_at (key_of s f) t) ≡ Some m → (entry_at (key_of s f) t ≡ Some m) ⊎ IsNew n s f (Some r) m
    go true i e =
        let k = same_key r.server s r.fault f (same_number (key_of r.server r.fault) (key_of s f) i) in
        let z : n ≡ m = cc in
        inr (record { is = ap₂ (λ s f. Some (record { server = s; fault = f })) k.0 k.1; row = sym z })
    go false i e = inl e

new_refused : (n s : ℕ) (f : Fault) (o : Option Refused) (t : List (ℕ × ℕ)) → o ≡ Some (record { server = s; fault = f }) → entry_at (key_of s f) (refuses n o t) ≡ Some n
new_refused n s f o t e = ap (λ o. entry_at (key_of s f) (refuses n o t)) e ∙ (refused_more n (key_of s f) (record { server = s; fault = f }) t ∙ ap (λ b. if b then Some n else entry_at (key_of s f) t) (own (key_of s f)))

-- an opening that fails is told of the requests that its server has

abbrev by : (s : ℕ) → Fault → Option Refused
by s f = Some (record { server = s; fault = f })

abbrev nobody : Option Refused
nobody = None

abbrev told_of : Fault → Option Fault
told_of f = Some f

abbrev untold : Option Fault
untold = None

fault_so : (k : ℕ) (r : Requests) (f g : Fault) (past here : Option Place) → fault_at k r f past here ≡ Some g → (s : ℕ) × (refused_at f past here ≡ Some (record { server = s; fault = g })) × (started_seen k s Dgram r ≡ true)
fault_so k r f g past None e = absurd (cc)
fault_so k r f g past (Some x) e = go (was_opening past x.stand) (same_via x.via Dgram) (started_seen k x.server Dgram r) refl e
  where
    go : (a b d : Bool) → started_seen k x.server Dgram r ≡ d → (if a && (b && d) then told_of f else untold) ≡ told_of g → (s : ℕ) × ((if a && b then by x.server f else nobody) ≡ by s g) × (started_seen k s Dgram r ≡ true)
    go true true true i e = (let q : f ≡ g = cc in (x.server, ap (by x.server) q, i))
    go true true false i e = absurd (cc)
    go true false d i e = absurd (cc)
    go false b d i e = absurd (cc)

so_fault : (k s : ℕ) (r : Requests) (f g : Fault) (past here : Option Place) → refused_at f past here ≡ Some (record { server = s; fault = g }) → started_seen k s Dgram r ≡ true → fault_at k r f past here ≡ Some g
so_fault k s r f g past None e d = absurd (cc)
so_fault k s r f g past (Some x) e d = go (was_opening past x.stand) (same_via x.via Dgram) e
  where
    here : by x.server f ≡ by s g → (if started_seen k x.server Dgram r then told_of f else untold) ≡ told_of g
    here e =
        let p : Path Refused (record { server = x.server; fault = f }) (record { server = s; fault = g }) = cc in
        let q : x.server ≡ s = ap (λ (y : Refused). y.server) p in
        let v : f ≡ g = ap (λ (y : Refused). y.fault) p in
        ap (λ b. if b then told_of f else untold) (ap (λ s. started_seen k s Dgram r) q ∙ d) ∙ ap told_of v

    go : (a b : Bool) → (if a && b then by x.server f else nobody) ≡ by s g → (if a && (b && started_seen k x.server Dgram r) then told_of f else untold) ≡ told_of g
    go true true e = here e
    go true false e = absurd (cc)
    go false b e = absurd (cc)

opening_so : (k : ℕ) (r : Requests) (g : Fault) (past here : Table) (w : What) → opening_fault past here r k w ≡ Some g → (s : ℕ) × (refused_by past here w ≡ Some (record { server = s; fault = g })) × (started_seen k s Dgram r ≡ true)
opening_so k r g past here (OpenFailed p f) e = fault_so k r f g (entry_at p past) (entry_at p here) e
opening_so k r g past here (Ask q) e = absurd (cc)
opening_so k r g past here (Opened p) e = absurd (cc)
opening_so k r g past here (SendFailed p f) e = absurd (cc)
opening_so k r g past here (ShortSend p) e = absurd (cc)
opening_so k r g past here (Datagram p o) e = absurd (cc)
opening_so k r g past here (RecvFailed p f) e = absurd (cc)
opening_so k r g past here (Wrote p n) e = absurd (cc)
opening_so k r g past here (WriteFailed p f) e = absurd (cc)
opening_so k r g past here (Bytes p o) e = absurd (cc)
opening_so k r g past here (ReadFailed p f) e = absurd (cc)
opening_so k r g past here (Ended p) e = absurd (cc)
opening_so k r g past here Tick e = absurd (cc)

so_opening : (k s : ℕ) (r : Requests) (g : Fault) (past here : Table) (w : What) → refused_by past here w ≡ Some (record { server = s; fault = g }) → started_seen k s Dgram r ≡ true → opening_fault past here r k w ≡ Some g
so_opening k s r g past here (OpenFailed p f) e d = so_fault k s r f g (entry_at p past) (entry_at p here) e d
so_opening k s r g past here (Ask q) e d = absurd (cc)
so_opening k s r g past here (Opened p) e d = absurd (cc)
so_opening k s r g past here (SendFailed p f) e d = absurd (cc)
so_opening k s r g past here (ShortSend p) e d = absurd (cc)
so_opening k s r g past here (Datagram p o) e d = absurd (cc)
so_opening k s r g past here (RecvFailed p f) e d = absurd (cc)
so_opening k s r g past here (Wrote p n) e d = absurd (cc)
so_opening k s r g past here (WriteFailed p f) e d = absurd (cc)
so_opening k s r g past here (Bytes p o) e d = absurd (cc)
so_opening k s r g past here (ReadFailed p f) e d = absurd (cc)
so_opening k s r g past here (Ended p) e d = absurd (cc)
so_opening k s r g past here Tick e d = absurd (cc)

-- a row

module _ (c : Conf) (past : History) (row : Row) (b b' : Books) (t : Openings) (kb : books.Known past b) (kb' : books.Known (after row past) b') (kt : Known c past t) where
  refused : Option Refused
  refused = refused_by b.places b'.places row.event.what

  at_past : AtServers past t.begun
  at_past = record { so = kt.begun_so; back = kt.begun_back }

  at_end : AtServers (after row past) (begin_all row.outs (t.rows + 1) t.begun)
  at_end = all_at (t.rows + 1) row.outs (Came row.event ∷ past) t.begun (record { so = at_past.so; back = at_past.back })

  started_is : (k s : ℕ) → started_seen k s Dgram b'.requests ≡ started k s Dgram (after row past)
  started_is k s = ap is_some (kb'.requests.starts k s Dgram)

  row_by : (k : ℕ) (x : Begun) → IsIn x (listed k (begin_all row.outs (t.rows + 1) t.begun)) → x.row ≤ t.rows + 1
  row_by k x i = go (all_new (t.rows + 1) row.outs t.begun k x i)
    where
      go : IsIn x (listed k t.begun) ⊎ (x.row ≡ t.rows + 1) → x.row ≤ t.rows + 1
      go (inl i) = (let l = kt.begun_by k x i in omega arith)
      go (inr e) = omega arith

  refusal_by : (q m : ℕ) → entry_at q (refuses (t.rows + 1) refused t.refused) ≡ Some m → m ≤ t.rows + 1
  refusal_by q m e = refused_bound (t.rows + 1) q m refused t.refused (λ q m e. (let l = kt.refused_by q m e in omega arith)) e

  -- the row's own
  caused : (k s : ℕ) (f : Fault) → refused ≡ Some (record { server = s; fault = f }) → started k s Dgram (after row past) ≡ true → IsCaused c k (errors.Dgram (query.Connect f)) (after row past)
  unfolding refused
  caused k s f e d =
      let o : opening_fault b.places b'.places b'.requests k row.event.what ≡ Some f = so_opening k s b'.requests f b.places b'.places row.event.what e (started_is k s ∙ d) in
      let q = (opening_decides past (after row past) b.places b'.places b'.requests row.event.what k f kb.places kb'.places kb'.requests).0 o in
      NotOpened f (subst (λ x. FailedToOpen k f x (newest (after row past)) (after row past)) (sym (before_row row past)) (subst (λ w. FailedToOpen k f past w (after row past)) (sym (row_event row past)) q))

  told : (k : ℕ) (f : Fault) → IsCaused c k (errors.Dgram (query.Connect f)) (after row past) → (s : ℕ) × (refused ≡ Some (record { server = s; fault = f })) × (started k s Dgram (after row past) ≡ true)
  unfolding refused
  told k f d =
      let q = cause_of c k (row_before (after row past)) (newest (after row past)) (after row past) (errors.Dgram (query.Connect f)) d in
      let q = subst (λ w. FailedToOpen k f past w (after row past)) (row_event row past) (subst (λ x. FailedToOpen k f x (newest (after row past)) (after row past)) (before_row row past) q) in
      let o = opening_so k b'.requests f b.places b'.places row.event.what ((opening_decides past (after row past) b.places b'.places b'.requests row.event.what k f kb.places kb'.places kb'.requests).1 q) in
      (o.0, o.1, sym (started_is k o.0) ∙ o.2)

  row_so : (k : ℕ) (f : Fault) → IsRefusedAmong f (refuses (t.rows + 1) refused t.refused) (listed k (begin_all row.outs (t.rows + 1) t.begun)) → WasCaused c k (errors.Dgram (query.Connect f)) (after row past)
  row_so k f i = go (among_so f (refuses (t.rows + 1) refused t.refused) (listed k (begin_all row.outs (t.rows + 1) t.begun)) i)
    where
      go : Among f (refuses (t.rows + 1) refused t.refused) (listed k (begin_all row.outs (t.rows + 1) t.begun)) → WasCaused c k (errors.Dgram (query.Connect f)) (after row past)
      go a = each (refused_new (t.rows + 1) a.start.server f refused t.refused a.row a.is_row) (all_new (t.rows + 1) row.outs t.begun k a.start a.there)
        where
          each : (entry_at (key_of a.start.server f) t.refused ≡ Some a.row) ⊎ IsNew (t.rows + 1) a.start.server f refused a.row → IsIn a.start (listed k t.begun) ⊎ (a.start.row ≡ t.rows + 1) → WasCaused c k (errors.Dgram (query.Connect f)) (after row past)
          each (inr w) j = inl (caused k a.start.server f w.is (at_end.so k a.start a.there))
          each (inl i) (inl j) = row_later (IsCaused c k (errors.Dgram (query.Connect f))) row past (kt.so k f (so_among f t.refused a.start a.row (listed k t.begun) j i a.late))
          each (inl i) (inr e) = (let l = kt.refused_by (key_of a.start.server f) a.row i in let m = a.late in absurd (omega arith))

  so_row : (k : ℕ) (f : Fault) → WasCaused c k (errors.Dgram (query.Connect f)) (after row past) → IsRefusedAmong f (refuses (t.rows + 1) refused t.refused) (listed k (begin_all row.outs (t.rows + 1) t.begun))
  so_row k f w = go (row_was (IsCaused c k (errors.Dgram (query.Connect f))) row past w)
    where
      go : IsCaused c k (errors.Dgram (query.Connect f)) (after row past) ⊎ WasCaused c k (errors.Dgram (query.Connect f)) past → IsRefusedAmong f (refuses (t.rows + 1) refused t.refused) (listed k (begin_all row.outs (t.rows + 1) t.begun))
      go (inl d) =
          let o = told k f d in
          let y = at_end.back k o.0 o.2 in
          let e = subst (λ s. entry_at (key_of s f) (refuses (t.rows + 1) refused t.refused) ≡ Some (t.rows + 1)) (sym y.2) (new_refused (t.rows + 1) o.0 f refused t.refused o.1) in
          so_among f (refuses (t.rows + 1) refused t.refused) y.0 (t.rows + 1) (listed k (begin_all row.outs (t.rows + 1) t.begun)) y.1 e (row_by k y.0 y.1)
      go (inr d) =
          let a = among_so f t.refused (listed k t.begun) (kt.back k f d) in
          let l : a.row ≤ t.rows = kt.refused_by (key_of a.start.server f) a.row a.is_row in
          let r = refused_kept (t.rows + 1) (key_of a.start.server f) a.row refused t.refused (omega arith) a.is_row in
          let m : a.start.row ≤ a.row = a.late in
          let n : a.row ≤ r.0 = r.2 in
          so_among f (refuses (t.rows + 1) refused t.refused) a.start r.0 (listed k (begin_all row.outs (t.rows + 1) t.begun)) (all_kept (t.rows + 1) row.outs t.begun k a.start a.there) r.1 (omega arith)

  pub openings_row : Known c (after row past) (after_row b.places b'.places row t)
  unfolding refused
  openings_row = record { so = row_so; back = so_row; begun_so = at_end.so; begun_back = at_end.back; begun_by = row_by; refused_by = refusal_by }

none_caused : (c : Conf) (k : ℕ) (f : Fault) → WasCaused c k (errors.Dgram (query.Connect f)) [] → ⊥
none_caused c k f (inl d) = (let q = cause_of c k [] Tick [] (errors.Dgram (query.Connect f)) d in let z : Tick ≡ OpenFailed q.place f = q.told in cc)
none_caused c k f (inr n) = n

pub goes_on : GoesOn
goes_on = record {
  begins = λ c. record { so = λ k f i. absurd i; back = λ k f w. absurd (none_caused c k f w); begun_so = λ k x i. absurd i; begun_back = λ k s e. absurd (cc); begun_by = λ k x i. absurd i; refused_by = λ q n e. absurd (cc) };
  row = λ c past row b b' t kb kb' kt. openings_row c past row b b' t kb kb' kt;
}
