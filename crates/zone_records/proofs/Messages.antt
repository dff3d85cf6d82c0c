-- Messages that are read, and the run of their records.
use Rattle.std.proofs.Common.{◌≡◌, ℕ, ◌==◌, Bool, true, false, List, [], ◌∷◌, ◌++◌, Option, Some, None, Result, Ok, Err, refl, sym, ap, subst, ◌∙◌}
use Rattle.std.specs.Prelude.{if◌then◌else◌, option_and_then, option_map}
use Rattle.dns_values.specs.declared.error.ParseError.{ParseError}
use Rattle.dns_base.specs.Header.{rcode_of}
use Rattle.dns_base.specs.Message.{Known, answer_items}
use Rattle.dns_names.specs.Name.{Labels}
use Rattle.zone_reading.specs.declared.steps.Entry.{Entry}
use Rattle.zone_reading.specs.declared.steps.Entry.TheVariants.{Soa, Other}
use Rattle.zone_reading.specs.declared.steps.State.{State}
use Rattle.zone_reading.specs.declared.steps.State.TheVariants.{Begin, FirstSoa, Whole, Deleting, Adding, Done}
use Rattle.zone_reading.specs.declared.steps.Update.{Update}
use Rattle.zone_reading.specs.declared.steps.XfrKind.{XfrKind}
use Rattle.zone_reading.specs.declared.steps.XfrKind.TheVariants.{Axfr, Ixfr}
use Rattle.zone_reading.specs.Readings.{IsTransfer}
use Rattle.zone_reading.specs.Running.{Step, behind, next, run}
use Rattle.zone_reading.proofs.Runs.{cut, readings_run, runs_read}
use Rattle.zone_records.specs.Interpreting.{answer_outsiders, counted, Interpreter, Read, begun, interpreted, is_done, read_at, read_to, takes_answer, takes_entry, takes_items}
use Rattle.zone_records.specs.Records.{entry_of, is_same}
use Rattle.zone_records.specs.Transfers.{AllRead, behind_updates, BeginsWithMore, Entries, TransfersLaw, all_entries, all_read, entries_in, entries_of, if_some, then_read}
use Rattle.zone_records.specs.declared.interpreter.XfrFault.TheVariants as fault
use Rattle.zone_records.specs.declared.record.ZoneRecord.{ZoneRecord}

abbrev Updates : Type 0
Updates = List (Update ZoneRecord)

abbrev Left : Type 0
Left = Step ZoneRecord

abbrev state_in : Left → State ZoneRecord
state_in None = Begin
state_in (Some x) = x.0

-- ---- the records of a message

no_step : (s : Left) → option_and_then (λ (x : State ZoneRecord × Updates). behind x.1 None) s ≡ None
no_step None = refl
no_step (Some x) = refl

pointwise_step : (f g : State ZoneRecord → Left) → ((state : State ZoneRecord) → f state ≡ g state) → (s : Left) → option_and_then (λ (x : State ZoneRecord × Updates). behind x.1 (f x.0)) s ≡ option_and_then (λ (x : State ZoneRecord × Updates). behind x.1 (g x.0)) s
pointwise_step f g e None = refl
pointwise_step f g e (Some x) = ap (behind x.1) (e x.0)

module _ (apex : Labels) (kind : XfrKind) where
  items_run : (state : State ZoneRecord) (items : List (Result Known ParseError)) → takes_items apex kind state items ≡ option_and_then (run is_same kind state) (entries_in apex items)
  items_run state [] = refl
  items_run state (Err e ∷ items) = refl
  items_run state (Ok known ∷ items) = go (entry_of apex known) (entries_in apex items) (λ s. items_run s items)
    where
      go : (o : Option (Entry ZoneRecord)) (more : Option Entries) → ((s : State ZoneRecord) → takes_items apex kind s items ≡ option_and_then (run is_same kind s) more)
          → option_and_then (λ (x : State ZoneRecord × Updates). behind x.1 (takes_items apex kind x.0 items)) (takes_entry apex kind state o) ≡ option_and_then (run is_same kind state) (option_and_then (λ entry. option_map (λ es. entry ∷ es) more) o)
      go None more rest = refl
      go (Some entry) None rest = pointwise_step (λ s. takes_items apex kind s items) (λ s. None) rest (next is_same kind state entry) ∙ no_step (next is_same kind state entry)
      go (Some entry) (Some es) rest = pointwise_step (λ s. takes_items apex kind s items) (λ s. run is_same kind s es) rest (next is_same kind state entry)

  -- what some entries lead to
  abbrev run_some : State ZoneRecord → Option Entries → Left
  run_some state es = option_and_then (run is_same kind state) es

-- an answer section's first record
answer_run : (s : Interpreter) (o : Option (List (Result Known ParseError))) → takes_answer s o ≡ run_some s.apex s.kind s.state (if_some s.apex (option_and_then (entries_in s.apex) o))
answer_run s None = refl
answer_run s (Some []) = refl
answer_run s (Some (item ∷ items)) = items_run s.apex s.kind s.state (item ∷ items) ∙ some item
  where
    filled : (entry : Entry ZoneRecord) (more : Option Entries) → option_and_then (run is_same s.kind s.state) (option_map (λ es. entry ∷ es) more) ≡ option_and_then (run is_same s.kind s.state) (if_some s.apex (option_map (λ es. entry ∷ es) more))
    filled entry None = refl
    filled entry (Some es) = refl

    by : (known : Known) (o : Option (Entry ZoneRecord)) → option_and_then (run is_same s.kind s.state) (option_and_then (λ entry. option_map (λ es. entry ∷ es) (entries_in s.apex items)) o)
        ≡ option_and_then (run is_same s.kind s.state) (if_some s.apex (option_and_then (λ entry. option_map (λ es. entry ∷ es) (entries_in s.apex items)) o))
    by known None = refl
    by known (Some entry) = filled entry (entries_in s.apex items)

    some : (i : Result Known ParseError) → option_and_then (run is_same s.kind s.state) (entries_in s.apex (i ∷ items)) ≡ option_and_then (run is_same s.kind s.state) (if_some s.apex (entries_in s.apex (i ∷ items)))
    some (Err e) = refl
    some (Ok known) = by known (entry_of s.apex known)

-- ---- a message that is read

abbrev no_done : (s : Interpreter) → Bool → Read → Read
no_done s b r = if b then Err fault.AlreadyFinished else r

abbrev zero_code : (s : Interpreter) → (outside : ℕ) → Bool → Left → Read
zero_code s n b l = if b then read_to s n l else Err fault.NotValid

-- how many records outside the zone there are behind a message
abbrev outside_with : (s : Interpreter) → List ℕ → ℕ
outside_with s message = counted s.outside (answer_outsiders s.apex (answer_items message))

-- what it took
record Took (s t : Interpreter) (o : Option Entries) (us : Updates) : Type 0 where
  es : Entries
  are : o ≡ Some es
  runs : run is_same s.kind s.state es ≡ Some (t.state, us)
  apex : t.apex ≡ s.apex
  kind : t.kind ≡ s.kind

took_state : (s t : Interpreter) (n : ℕ) (o : Option Entries) (es : Entries) (state : State ZoneRecord) (us vs : Updates) → o ≡ Some es → run is_same s.kind s.state es ≡ Some (state, us) → read_at s n state us ≡ Ok (t, vs) → Took s t o vs
took_state s t n o es Begin us vs e r i = let x : (record s { state = Begin; outside = n }, us) ≡ (t, vs) = cc in subst (λ (y : Interpreter × Updates). Took s y.0 o y.1) x (record { es = es; are = e; runs = r; apex = refl; kind = refl })
took_state s t n o es (FirstSoa a f) us vs e r i = absurd (cc)
took_state s t n o es (Whole a f) us vs e r i = let x : (record s { state = Whole a f; outside = n }, us) ≡ (t, vs) = cc in subst (λ (y : Interpreter × Updates). Took s y.0 o y.1) x (record { es = es; are = e; runs = r; apex = refl; kind = refl })
took_state s t n o es (Deleting a) us vs e r i = let x : (record s { state = Deleting a; outside = n }, us) ≡ (t, vs) = cc in subst (λ (y : Interpreter × Updates). Took s y.0 o y.1) x (record { es = es; are = e; runs = r; apex = refl; kind = refl })
took_state s t n o es (Adding a p) us vs e r i = let x : (record s { state = Adding a p; outside = n }, us) ≡ (t, vs) = cc in subst (λ (y : Interpreter × Updates). Took s y.0 o y.1) x (record { es = es; are = e; runs = r; apex = refl; kind = refl })
took_state s t n o es Done us vs e r i = let x : (record s { state = Done; outside = n }, us) ≡ (t, vs) = cc in subst (λ (y : Interpreter × Updates). Took s y.0 o y.1) x (record { es = es; are = e; runs = r; apex = refl; kind = refl })

took_some : (s t : Interpreter) (n : ℕ) (o : Option Entries) (us : Updates) → read_to s n (run_some s.apex s.kind s.state o) ≡ Ok (t, us) → Took s t o us
took_some s t n None us i = absurd (cc)
took_some s t n (Some es) us i = by (run is_same s.kind s.state es) refl i
  where
    by : (l : Left) → run is_same s.kind s.state es ≡ l → read_to s n l ≡ Ok (t, us) → Took s t (Some es) us
    by None r i = absurd (cc)
    by (Some x) r i = took_state s t n (Some es) es x.0 x.1 us refl r i

took : (s t : Interpreter) (message : List ℕ) (us : Updates) → interpreted s message ≡ Ok (t, us) → Took s t (entries_of s.apex message) us
took s t message us i = go (is_done s.state) i
  where
    coded : (b : Bool) → zero_code s (outside_with s message) b (takes_answer s (answer_items message)) ≡ Ok (t, us) → Took s t (if b then if_some s.apex (option_and_then (entries_in s.apex) (answer_items message)) else None) us
    coded true i = took_some s t (outside_with s message) (if_some s.apex (option_and_then (entries_in s.apex) (answer_items message))) us (ap (read_to s (outside_with s message)) (sym (answer_run s (answer_items message))) ∙ i)
    coded false i = absurd (cc)

    go : (b : Bool) → no_done s b (zero_code s (outside_with s message) (rcode_of message == 0) (takes_answer s (answer_items message))) ≡ Ok (t, us) → Took s t (entries_of s.apex message) us
    go true i = absurd (cc)
    go false i = coded (rcode_of message == 0) i

-- ---- all messages, and the run of all records

abbrev both : Option Entries → Entries → Option Entries
both more first = option_map (λ es. first ++ es) more

all_took : (s t : Interpreter) (messages : List (List ℕ)) (us : Updates) → all_read s messages ≡ Some (t, us) → Took s t (all_entries s.apex messages) us
all_took s t [] us i = let x : (s, []) ≡ (t, us) = cc in subst (λ (y : Interpreter × Updates). Took s y.0 (Some []) y.1) x (record { es = []; are = refl; runs = refl; apex = refl; kind = refl })
all_took s t (message ∷ messages) us i = go (interpreted s message) refl i (λ m ws h. all_took m t messages ws h)
  where
    goes_on : (m : Interpreter) (vs : Updates) → Took s m (entries_of s.apex message) vs → (o : AllRead) → ((ws : Updates) → o ≡ Some (t, ws) → Took m t (all_entries m.apex messages) ws)
        → behind_updates vs o ≡ Some (t, us) → Took s t (all_entries s.apex (message ∷ messages)) us
    goes_on m vs first None rest i = absurd (cc)
    goes_on m vs first (Some y) rest i =
        let same : (y.0, vs ++ y.1) ≡ (t, us) = cc in
        let end : y.0 ≡ t = ap (λ (x : Interpreter × Updates). x.0) same in
        let ups : vs ++ y.1 ≡ us = ap (λ (x : Interpreter × Updates). x.1) same in
        let r = rest y.1 (ap (λ (q : Interpreter). Some (q, y.1)) end) in
        let more : all_entries s.apex messages ≡ Some r.es = ap (λ (a : Labels). all_entries a messages) (sym first.apex) ∙ r.are in
        record {
          es = first.es ++ r.es;
          are = ap (λ (o : Option Entries). option_and_then (both (all_entries s.apex messages)) o) first.are ∙ ap (λ (o : Option Entries). both o first.es) more;
          runs = cut is_same s.kind s.state first.es r.es
              ∙ (ap (λ (l : Left). option_and_then (λ (x : State ZoneRecord × Updates). behind x.1 (run is_same s.kind x.0 r.es)) l) first.runs
              ∙ (ap (λ (k : XfrKind). behind vs (run is_same k m.state r.es)) (sym first.kind) ∙ (ap (behind vs) r.runs ∙ ap (λ (ws : Updates). Some (t.state, ws)) ups)));
          apex = r.apex ∙ first.apex;
          kind = r.kind ∙ first.kind;
        }

    go : (r : Read) → interpreted s message ≡ r → then_read (λ q. all_read q messages) r ≡ Some (t, us)
        → ((m : Interpreter) (ws : Updates) → all_read m messages ≡ Some (t, ws) → Took m t (all_entries m.apex messages) ws) → Took s t (all_entries s.apex (message ∷ messages)) us
    go (Err f) e i rest = absurd (cc)
    go (Ok x) e i rest = goes_on x.0 x.1 (took s x.0 message x.1 e) (all_read x.0 messages) (λ ws h. rest x.0 ws h) i

pub sound : (apex : Labels) (kind : XfrKind) (messages : List (List ℕ)) (s : Interpreter) (us : Updates) → all_read (begun apex kind) messages ≡ Some (s, us) → s.state ≡ Done
    → (es : Entries) × (all_entries apex messages ≡ Some es) × IsTransfer is_same kind es us
sound apex kind messages s us i d =
    let t = all_took (begun apex kind) s messages us i in
    (t.es, t.are, runs_read is_same kind t.es us (t.runs ∙ ap (λ (q : State ZoneRecord). Some (q, us)) d))

-- ---- where a run is

abbrev is_begin : State ZoneRecord → Bool
is_begin Begin = true
is_begin (FirstSoa _ _) = false
is_begin (Whole _ _) = false
is_begin (Deleting _) = false
is_begin (Adding _ _) = false
is_begin Done = false

abbrev is_first : State ZoneRecord → Bool
is_first Begin = false
is_first (FirstSoa _ _) = true
is_first (Whole _ _) = false
is_first (Deleting _) = false
is_first (Adding _ _) = false
is_first Done = false

abbrev left_in : (State ZoneRecord → Bool) → Left → Bool
left_in is None = false
left_in is (Some x) = is x.0

either : (is : State ZoneRecord → Bool) (b : Bool) (l m : Left) → left_in is l ≡ false → left_in is m ≡ false → left_in is (if b then l else m) ≡ false
either is true l m e f = e
either is false l m e f = f

-- no record leads back to the beginning
begun_once : (kind : XfrKind) (state : State ZoneRecord) (e : Entry ZoneRecord) → left_in is_begin (next is_same kind state e) ≡ false
begun_once kind Begin (Other r) = refl
begun_once Axfr Begin (Soa n r) = refl
begun_once Ixfr Begin (Soa n r) = refl
begun_once kind (FirstSoa a f) (Other r) = refl
begun_once kind (FirstSoa a f) (Soa n r) = either is_begin (n == a) _ (Some _) (either is_begin (is_same f r) (Some _) None refl refl) refl
begun_once kind (Whole a f) (Other r) = refl
begun_once kind (Whole a f) (Soa n r) = either is_begin (n == a) _ None (either is_begin (is_same f r) (Some _) None refl refl) refl
begun_once kind (Deleting a) (Other r) = refl
begun_once kind (Deleting a) (Soa n r) = refl
begun_once kind (Adding a p) (Other r) = refl
begun_once kind (Adding a p) (Soa n r) = either is_begin (n == a) _ (Some _) (either is_begin (p == a) (Some _) None refl refl) refl
begun_once kind Done (Other r) = refl
begun_once kind Done (Soa n r) = refl

-- nor to the first SOA, once the beginning is past
first_once : (kind : XfrKind) (state : State ZoneRecord) (e : Entry ZoneRecord) → is_begin state ≡ false → left_in is_first (next is_same kind state e) ≡ false
first_once kind Begin e b = absurd (cc)
first_once kind (FirstSoa a f) (Other r) b = refl
first_once kind (FirstSoa a f) (Soa n r) b = either is_first (n == a) _ (Some _) (either is_first (is_same f r) (Some _) None refl refl) refl
first_once kind (Whole a f) (Other r) b = refl
first_once kind (Whole a f) (Soa n r) b = either is_first (n == a) _ None (either is_first (is_same f r) (Some _) None refl refl) refl
first_once kind (Deleting a) (Other r) b = refl
first_once kind (Deleting a) (Soa n r) b = refl
first_once kind (Adding a p) (Other r) b = refl
first_once kind (Adding a p) (Soa n r) b = either is_first (n == a) _ (Some _) (either is_first (p == a) (Some _) None refl refl) refl
first_once kind Done (Other r) b = refl
first_once kind Done (Soa n r) b = refl

left_behind : (is : State ZoneRecord → Bool) (us : Updates) (l : Left) → left_in is (behind us l) ≡ left_in is l
left_behind is us None = refl
left_behind is us (Some x) = refl

past : (kind : XfrKind) (state : State ZoneRecord) (e : Entry ZoneRecord) (es : Entries) → is_begin state ≡ false → left_in is_first (run is_same kind state (e ∷ es)) ≡ false
past kind state e [] b = go (next is_same kind state e) (first_once kind state e b)
  where
    go : (l : Left) → left_in is_first l ≡ false → left_in is_first (option_and_then (λ (x : State ZoneRecord × Updates). behind x.1 (run is_same kind x.0 [])) l) ≡ false
    go None f = refl
    go (Some x) f = f
past kind state e (d ∷ es) b = go (next is_same kind state e) (begun_once kind state e) (λ s c. past kind s d es c)
  where
    go : (l : Left) → left_in is_begin l ≡ false → ((s : State ZoneRecord) → is_begin s ≡ false → left_in is_first (run is_same kind s (d ∷ es)) ≡ false)
        → left_in is_first (option_and_then (λ (x : State ZoneRecord × Updates). behind x.1 (run is_same kind x.0 (d ∷ es))) l) ≡ false
    go None c rest = refl
    go (Some x) c rest = left_behind is_first x.1 (run is_same kind x.0 (d ∷ es)) ∙ rest x.0 c

-- two records or more from the beginning
past_two : (kind : XfrKind) (state : State ZoneRecord) (e d : Entry ZoneRecord) (es : Entries) → left_in is_first (run is_same kind state (e ∷ d ∷ es)) ≡ false
past_two kind state e d es = go (next is_same kind state e) (begun_once kind state e)
  where
    go : (l : Left) → left_in is_begin l ≡ false → left_in is_first (option_and_then (λ (x : State ZoneRecord × Updates). behind x.1 (run is_same kind x.0 (d ∷ es))) l) ≡ false
    go None c = refl
    go (Some x) c = left_behind is_first x.1 (run is_same kind x.0 (d ∷ es)) ∙ past kind x.0 d es c

-- one from the beginning of a whole zone
past_one : (e : Entry ZoneRecord) → left_in is_first (run is_same Axfr Begin (e ∷ [])) ≡ false
past_one (Other r) = refl
past_one (Soa n r) = refl

-- no message leaves the beginning either
not_begun : (kind : XfrKind) (state : State ZoneRecord) (e : Entry ZoneRecord) (es : Entries) → left_in is_begin (run is_same kind state (e ∷ es)) ≡ false
not_begun kind state e [] = go (next is_same kind state e) (begun_once kind state e)
  where
    go : (l : Left) → left_in is_begin l ≡ false → left_in is_begin (option_and_then (λ (x : State ZoneRecord × Updates). behind x.1 (run is_same kind x.0 [])) l) ≡ false
    go None c = refl
    go (Some x) c = c
not_begun kind state e (d ∷ es) = go (next is_same kind state e) (λ s. not_begun kind s d es)
  where
    go : (l : Left) → ((s : State ZoneRecord) → left_in is_begin (run is_same kind s (d ∷ es)) ≡ false) → left_in is_begin (option_and_then (λ (x : State ZoneRecord × Updates). behind x.1 (run is_same kind x.0 (d ∷ es))) l) ≡ false
    go None rest = refl
    go (Some x) rest = left_behind is_begin x.1 (run is_same kind x.0 (d ∷ es)) ∙ rest x.0

-- ---- a transfer is read

not_done : (kind : XfrKind) (state : State ZoneRecord) (e : Entry ZoneRecord) (es : Entries) (x : State ZoneRecord × Updates) → run is_same kind state (e ∷ es) ≡ Some x → is_done state ≡ false
not_done kind Begin e es x r = refl
not_done kind (FirstSoa a f) e es x r = refl
not_done kind (Whole a f) e es x r = refl
not_done kind (Deleting a) e es x r = refl
not_done kind (Adding a p) e es x r = refl
not_done kind Done (Other o) es x r = absurd (cc)
not_done kind Done (Soa n o) es x r = absurd (cc)

read_on : (s : Interpreter) (n : ℕ) (state : State ZoneRecord) (us : Updates) → is_first state ≡ false → read_at s n state us ≡ Ok (record s { state = state; outside = n }, us)
read_on s n Begin us i = refl
read_on s n (FirstSoa a f) us i = absurd (cc)
read_on s n (Whole a f) us i = refl
read_on s n (Deleting a) us i = refl
read_on s n (Adding a p) us i = refl
read_on s n Done us i = refl

abbrev moved : Interpreter → (outside : ℕ) → State ZoneRecord → Interpreter
moved s n state = record s { state = state; outside = n }

-- a message whose records run on to another state than the first SOA's
reads : (s : Interpreter) (message : List ℕ) (e : Entry ZoneRecord) (es : Entries) (state : State ZoneRecord) (us : Updates) → entries_of s.apex message ≡ Some (e ∷ es) → run is_same s.kind s.state (e ∷ es) ≡ Some (state, us)
    → is_first state ≡ false → interpreted s message ≡ Ok (moved s (outside_with s message) state, us)
reads s message e es state us are r f =
    ap (λ (b : Bool). no_done s b (zero_code s (outside_with s message) (rcode_of message == 0) (takes_answer s (answer_items message)))) (not_done s.kind s.state e es (state, us) r) ∙ coded (rcode_of message == 0) are
  where
    coded : (b : Bool) → (if b then if_some s.apex (option_and_then (entries_in s.apex) (answer_items message)) else None) ≡ Some (e ∷ es) → zero_code s (outside_with s message) b (takes_answer s (answer_items message)) ≡ Ok (moved s (outside_with s message) state, us)
    coded true o = ap (read_to s (outside_with s message)) (answer_run s (answer_items message) ∙ (ap (run_some s.apex s.kind s.state) o ∙ r)) ∙ read_on s (outside_with s message) state us f
    coded false o = absurd (cc)

-- what is left of a run behind its first part
record Parted (kind : XfrKind) (state : State ZoneRecord) (a b : Entries) (us : Updates) : Type 0 where
  mid : State ZoneRecord
  first : Updates
  rest : Updates
  begins : run is_same kind state a ≡ Some (mid, first)
  ends : run is_same kind mid b ≡ Some (Done, rest)
  all : us ≡ first ++ rest

parted : (kind : XfrKind) (state : State ZoneRecord) (a b : Entries) (us : Updates) → run is_same kind state (a ++ b) ≡ Some (Done, us) → Parted kind state a b us
parted kind state a b us r = go (run is_same kind state a) refl (sym (cut is_same kind state a b) ∙ r)
  where
    tail : (x : State ZoneRecord × Updates) (l : Left) → run is_same kind state a ≡ Some x → run is_same kind x.0 b ≡ l → behind x.1 l ≡ Some (Done, us) → Parted kind state a b us
    tail x None i j r = absurd (cc)
    tail x (Some y) i j r =
        let same : (y.0, x.1 ++ y.1) ≡ (Done, us) = cc in
        record {
          mid = x.0;
          first = x.1;
          rest = y.1;
          begins = i;
          ends = j ∙ ap (λ (q : State ZoneRecord). Some (q, y.1)) (ap (λ (z : State ZoneRecord × Updates). z.0) same);
          all = sym (ap (λ (z : State ZoneRecord × Updates). z.1) same);
        }

    go : (l : Left) → run is_same kind state a ≡ l → option_and_then (λ (x : State ZoneRecord × Updates). behind x.1 (run is_same kind x.0 b)) l ≡ Some (Done, us) → Parted kind state a b us
    go None i r = absurd (cc)
    go (Some x) i r = tail x (run is_same kind x.0 b) i refl r

-- A part doesn't end at the first SOA.
abbrev EndsElsewhere : XfrKind → State ZoneRecord → Entries → Type 0
EndsElsewhere kind state es = left_in is_first (run is_same kind state es) ≡ false

filled : (o : Option Entries) (es : Entries) (apex : Labels) → if_some apex o ≡ Some es → (e : Entry ZoneRecord) × (more : Entries) × (es ≡ e ∷ more)
filled None es apex i = absurd (cc)
filled (Some []) es apex i = absurd (cc)
filled (Some (e ∷ more)) es apex i = let x : e ∷ more ≡ es = cc in (e, more, sym x)

some_of : (apex : Labels) (message : List ℕ) (es : Entries) → entries_of apex message ≡ Some es → (e : Entry ZoneRecord) × (more : Entries) × (es ≡ e ∷ more)
some_of apex message es i = go (rcode_of message == 0) i
  where
    go : (b : Bool) → (if b then if_some apex (option_and_then (entries_in apex) (answer_items message)) else None) ≡ Some es → (e : Entry ZoneRecord) × (more : Entries) × (es ≡ e ∷ more)
    go true i = filled (option_and_then (entries_in apex) (answer_items message)) es apex i
    go false i = absurd (cc)

-- the records of the first message and of the others
record Split (apex : Labels) (message : List ℕ) (messages : List (List ℕ)) (es : Entries) : Type 0 where
  e : Entry ZoneRecord
  more : Entries
  others : Entries
  first : entries_of apex message ≡ Some (e ∷ more)
  rest : all_entries apex messages ≡ Some others
  are : es ≡ (e ∷ more) ++ others

split : (apex : Labels) (message : List ℕ) (messages : List (List ℕ)) (es : Entries) → all_entries apex (message ∷ messages) ≡ Some es → Split apex message messages es
split apex message messages es i = go (entries_of apex message) (all_entries apex messages) refl refl i
  where
    go : (o p : Option Entries) → entries_of apex message ≡ o → all_entries apex messages ≡ p → option_and_then (both p) o ≡ Some es → Split apex message messages es
    go None p a b i = absurd (cc)
    go (Some first) None a b i = absurd (cc)
    go (Some first) (Some rest) a b i =
        let f = some_of apex message first a in
        let x : first ++ rest ≡ es = cc in
        record { e = f.0; more = f.1; others = rest; first = a ∙ ap Some f.2; rest = b; are = sym x ∙ ap (λ (fs : Entries). fs ++ rest) f.2 }

-- where messages are read to the end
abbrev ReadsAll : Interpreter → List (List ℕ) → Updates → Type 0
ReadsAll s messages us = (t : Interpreter) × (all_read s messages ≡ Some (t, us)) × (t.state ≡ Done)

reads_behind : (s m : Interpreter) (message : List ℕ) (messages : List (List ℕ)) (us first rest : Updates) → interpreted s message ≡ Ok (m, first) → us ≡ first ++ rest → ReadsAll m messages rest → ReadsAll s (message ∷ messages) us
reads_behind s m message messages us first rest i e t = (
  t.0,
  ap (then_read (λ q. all_read q messages)) i ∙ (ap (behind_updates first) t.1 ∙ ap (λ (vs : Updates). Some (t.0, vs)) (sym e)),
  t.2,
)

all_reads : (s : Interpreter) (messages : List (List ℕ)) (es : Entries) (us : Updates) → all_entries s.apex messages ≡ Some es → run is_same s.kind s.state es ≡ Some (Done, us)
    → (is_begin s.state ≡ false) → ReadsAll s messages us
all_reads s [] es us a r b =
    let none : [] ≡ es = cc in
    let x : Some (s.state, []) ≡ Some (Done, us) = ap (run is_same s.kind s.state) none ∙ r in
    let y : (s.state, []) ≡ (Done, us) = cc in
    (s, ap (λ (z : State ZoneRecord × Updates). Some (s, z.1)) y, ap (λ (z : State ZoneRecord × Updates). z.0) y)
all_reads s (message ∷ messages) es us a r b =
    let p = split s.apex message messages es a in
    let q = parted s.kind s.state (p.e ∷ p.more) p.others us (ap (run is_same s.kind s.state) (sym p.are) ∙ r) in
    let at : left_in is_first (Some (q.mid, q.first)) ≡ false = ap (left_in is_first) (sym q.begins) ∙ past s.kind s.state p.e p.more b in
    let on : left_in is_begin (Some (q.mid, q.first)) ≡ false = ap (left_in is_begin) (sym q.begins) ∙ not_begun s.kind s.state p.e p.more in
    let m = moved s (outside_with s message) q.mid in
    reads_behind s m message messages us q.first q.rest (reads s message p.e p.more q.mid q.first p.first q.begins at) q.all (all_reads m messages p.others q.rest p.rest q.ends on)

elsewhere : (apex : Labels) (kind : XfrKind) (message : List ℕ) (messages : List (List ℕ)) (e : Entry ZoneRecord) (more : Entries) → BeginsWithMore apex kind (message ∷ messages) → entries_of apex message ≡ Some (e ∷ more)
    → EndsElsewhere kind Begin (e ∷ more)
elsewhere apex kind message messages e (d ∷ more) b i = past_two kind Begin e d more
elsewhere apex Axfr message messages e [] b i = past_one e
elsewhere apex Ixfr message messages e [] b i = absurd (b e i)

pub complete : (apex : Labels) (kind : XfrKind) (messages : List (List ℕ)) (es : Entries) (us : Updates) → all_entries apex messages ≡ Some es → IsTransfer is_same kind es us
    → BeginsWithMore apex kind messages → ReadsAll (begun apex kind) messages us
complete apex kind [] es us a t b =
    let none : [] ≡ es = cc in
    let x : run is_same kind Begin [] ≡ Some (Done, us) = ap (run is_same kind Begin) none ∙ readings_run is_same kind es us t in
    absurd (let z : Begin ≡ Done = ap (λ (l : Left). state_in l) x in cc)
complete apex kind (message ∷ messages) es us a t b =
    let s = begun apex kind in
    let p = split apex message messages es a in
    let q = parted kind Begin (p.e ∷ p.more) p.others us (ap (run is_same kind Begin) (sym p.are) ∙ readings_run is_same kind es us t) in
    let at : left_in is_first (Some (q.mid, q.first)) ≡ false = ap (left_in is_first) (sym q.begins) ∙ elsewhere apex kind message messages p.e p.more b p.first in
    let on : left_in is_begin (Some (q.mid, q.first)) ≡ false = ap (left_in is_begin) (sym q.begins) ∙ not_begun kind Begin p.e p.more in
    let m = moved s (outside_with s message) q.mid in
    reads_behind s m message messages us q.first q.rest (reads s message p.e p.more q.mid q.first p.first q.begins at) q.all (all_reads m messages p.others q.rest p.rest q.ends on)

pub transfers : TransfersLaw
transfers = record { sound = sound; complete = complete }
