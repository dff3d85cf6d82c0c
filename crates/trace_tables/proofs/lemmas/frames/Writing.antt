-- After each event and each out what is kept of writes is what the definitions say.
use Rattle.std.proofs.Common.{◌≡◌, ℕ, ◌==◌, ◌&&◌, ◌||◌, not, nat_lt, Bool, true, false, if◌then◌else◌, length, List, [], ◌∷◌, Option, Some, None, refl, sym, ap, ◌∙◌, arith}
use Rattle.std.specs.Prelude.{Result, Ok, Err, OnOk}
use Rattle.std.proofs.lemmas.Bool.Decides.{nat_tests}
use Rattle.number_table.specs.Entries.{puts, frees, entry_at}
use Rattle.client_request.specs.declared.event.{Event.Event, Out.Out}
use Rattle.client_request.specs.declared.event.Out.TheVariants.{Start, OpenDgram, OpenStream, Send, Write, Resume, Close, Stale, Reply}
use Rattle.dns_base.specs.Header.{id_of}
use Rattle.right_trace.specs.Trace.{History, Came, Put}
use Rattle.right_trace.specs.Time.{now}
use Rattle.right_trace.specs.Messages.{Octets, id_in}
use Rattle.right_trace.specs.Frames.{is_bad, has_id, brings, came_here}
use Rattle.right_trace.specs.Writes.{Written, is_write, written_by, waiting_with}
use Rattle.trace_tables.specs.Lists.{list_or_none, listed, adds}
use Rattle.trace_tables.proofs.Tables.{at_puts}
use Rattle.trace_tables.proofs.Listing.{stays, listed_adds}
use Rattle.trace_tables.specs.declared.frames.frames.{Brought.Brought, Frames.Frames}
use Rattle.trace_tables.specs.frames.Frames.{Known as FramesKnown, frames_of}
use Rattle.trace_tables.specs.frames.Waiting.{AtPlace, Waiting, id_read, frees_id, freed_by, met, writes, has_put, waiting_seen, Known, GoesOn}

-- what holds where a call succeeds
pub on_ok : {A E : Type 0} {P Q : Type 0} (r : Result A E) → (P → Q) → OnOk r P → OnOk r Q
on_ok (Ok x) f h = f h
on_ok (Err x) f h = tt

-- what is taken out, gets an item more and is put back
pub written_there : (p id n : ℕ) (x : Written) (at more : AtPlace) (t left new : Waiting) → more ≡ adds n x at → n ≡ id → at ≡ listed p t → left ≡ frees p t → new ≡ puts p more left → new ≡ writes p id x t
written_there p id n x at more t left new added same taken rest is =
    is ∙ (ap (λ m. puts p m left) (added ∙ (ap (λ n. adds n x at) same ∙ ap (adds id x) taken)) ∙ ap (puts p (adds id x (listed p t))) rest)

-- the frames of the newest row free the ids that they have, and no other
freeing : (ms : List Octets) (p id : ℕ) (h : History) → waiting_with ms p id h ≡ (if brings id ms then [] else waiting_with [] p id h)
freeing ms p id [] = both (brings id ms)
  where
    both : (b : Bool) → [] ≡ (if b then [] else waiting_with [] p id [])
    both true = refl
    both false = refl
freeing ms p id (Came e ∷ h) = refl
freeing ms p id (Put o ∷ h) = go (is_write p id o) (brings id ms) (freeing ms p id h)
  where
    go : (w b : Bool) → waiting_with ms p id h ≡ (if b then [] else waiting_with [] p id h)
        → (if w && not b then written_by o (now h) (waiting_with ms p id h) else waiting_with ms p id h) ≡ (if b then [] else (if w && true then written_by o (now h) (waiting_with [] p id h) else waiting_with [] p id h))
    go true true e = e
    go true false e = ap (written_by o (now h)) e
    go false true e = e
    go false false e = e

-- a frame and its id
id_is : (m : Octets) (id : ℕ) → has_id id m ≡ (not (nat_lt (length m) 12) && (id_of m == id))
unfolding is_bad id_in
id_is m id = refl

same_number : (a b : ℕ) → (a == b) ≡ true → a ≡ b
same_number a b e = grind (arith, nat_tests)

freed_one : (m : Octets) (id : ℕ) (t : AtPlace) → listed id (frees_id (id_read m) t) ≡ (if has_id id m then [] else listed id t)
freed_one m id t = go (nat_lt (length m) 12) ∙ sym (ap (λ b. if b then [] else listed id t) (id_is m id))
  where
    put_in : (c : Bool) → list_or_none (if c then Some [] else entry_at id t) ≡ (if c then [] else listed id t)
    put_in true = refl
    put_in false = refl

    go : (b : Bool) → listed id (frees_id (if b then None else Some (id_of m)) t) ≡ (if not b && (id_of m == id) then [] else listed id t)
    go true = refl
    go false = ap list_or_none (at_puts (id_of m) [] id t) ∙ put_in (id_of m == id)

freed_all : (ms : List Octets) (id : ℕ) (t : AtPlace) → listed id (freed_by ms t) ≡ (if brings id ms then [] else listed id t)
freed_all [] id t = refl
freed_all (m ∷ ms) id t = freed_all ms id (frees_id (id_read m) t) ∙ (ap (λ l. if brings id ms then [] else l) (freed_one m id t) ∙ go (has_id id m) (brings id ms))
  where
    go : (a b : Bool) → (if b then [] else (if a then [] else listed id t)) ≡ (if a || b then [] else listed id t)
    go true true = refl
    go true false = refl
    go false true = refl
    go false false = refl

-- what is put under a place, and what is under others
put_place : (q p : ℕ) (x : AtPlace) (t : Waiting) → listed p (puts q x (frees q t)) ≡ (if q == p then x else listed p t)
put_place q p x t = ap list_or_none (at_puts q x p (frees q t)) ∙ go (q == p) refl
  where
    go : (b : Bool) → (q == p) ≡ b → list_or_none (if b then Some x else entry_at p (frees q t)) ≡ (if b then x else listed p t)
    go true e = refl
    go false e = ap list_or_none (stays p q t e)

met_so : (b : Option Brought) (p id : ℕ) (t : Waiting) → waiting_seen p id (met b t) ≡ (if brings id (frames_of p b) then [] else waiting_seen p id t)
met_so None p id t = refl
met_so (Some b) p id t = ap (listed id) (put_place b.place p (freed_by b.frames (listed b.place t)) t) ∙ go (b.place == p) refl
  where
    go : (c : Bool) → (b.place == p) ≡ c → listed id (if c then freed_by b.frames (listed b.place t) else listed p t) ≡ (if brings id (if c then b.frames else []) then [] else waiting_seen p id t)
    go true e = freed_all b.frames id (listed b.place t) ∙ ap (λ q. if brings id b.frames then [] else listed id (listed q t)) (same_number b.place p e)
    go false e = refl

event : (h : History) (f : Frames) (t : Waiting) → FramesKnown h f → Known h t → (e : Event) → Known (Came e ∷ h) (met f.brought t)
event h f t fs is e = record {
  waits = λ p id. met_so f.brought p id t
      ∙ (ap (λ ms. if brings id ms then [] else waiting_seen p id t) (fs.here p)
      ∙ (ap (λ l. if brings id (came_here p h) then [] else l) (is.waits p id) ∙ sym (freeing (came_here p h) p id h)));
}

write_so : (q p k i id n m : ℕ) (o : Octets) (t : Waiting) (ws : List Written) → waiting_seen p id t ≡ ws → n ≡ m
    → waiting_seen p id (has_put (Write q k i o) n t) ≡ (if ((q == p) && (i == id)) && true then record { request = k; octets = o; moment = m } ∷ ws else ws)
write_so q p k i id n m o t ws e same = ap (listed id) (put_place q p (adds i (record { request = k; octets = o; moment = n }) (listed q t)) t) ∙ go (q == p) refl
  where
    here : (b : Bool) → (if b then record { request = k; octets = o; moment = n } ∷ waiting_seen p id t else waiting_seen p id t) ≡ (if b && true then record { request = k; octets = o; moment = m } ∷ ws else ws)
    here true = ap (λ l. record { request = k; octets = o; moment = n } ∷ l) e ∙ ap (λ n. record { request = k; octets = o; moment = n } ∷ ws) same
    here false = e

    go : (b : Bool) → (q == p) ≡ b → listed id (if b then adds i (record { request = k; octets = o; moment = n }) (listed q t) else listed p t) ≡ (if (b && (i == id)) && true then record { request = k; octets = o; moment = m } ∷ ws else ws)
    go true f = listed_adds id i (record { request = k; octets = o; moment = n }) (listed q t)
        ∙ (ap (λ q. if i == id then record { request = k; octets = o; moment = n } ∷ listed id (listed q t) else listed id (listed q t)) (same_number q p f) ∙ here (i == id))
    go false f = e

out : (h : History) (n : ℕ) (t : Waiting) → n ≡ now h → Known h t → (o : Out) → Known (Put o ∷ h) (has_put o n t)
out h n t time is (Write q k i o) = record { waits = λ p id. write_so q p k i id n (now h) o t (waiting_with [] p id h) (is.waits p id) time }
out h n t time is (Start k s v) = record { waits = is.waits }
out h n t time is (OpenDgram p s) = record { waits = is.waits }
out h n t time is (OpenStream p s) = record { waits = is.waits }
out h n t time is (Send p k i o) = record { waits = is.waits }
out h n t time is (Resume p o) = record { waits = is.waits }
out h n t time is (Close p) = record { waits = is.waits }
out h n t time is (Stale k) = record { waits = is.waits }
out h n t time is (Reply k x) = record { waits = is.waits }

pub goes_on : GoesOn
goes_on = record { begins = record { waits = λ p id. refl }; event = event; out = out }
