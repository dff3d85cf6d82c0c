-- Behind each row what is kept of servers that were heard is what the definitions say.
use Rattle.std.proofs.Common.{◌≡◌, ℕ, ◌==◌, ◌||◌, ◌⊎◌, inl, inr, Bool, true, false, if◌then◌else◌, List, [], ◌∷◌, Option, Some, None, refl, sym, ap, ◌∙◌, subst, arith}
use Rattle.std.proofs.lemmas.Bool.Decides.{nat_tests}
use Rattle.client_request.specs.declared.event.{Out.Out, Row.Row, Via.Via}
use Rattle.client_request.specs.declared.event.Via.TheVariants.{Dgram, Stream}
use Rattle.right_trace.specs.Trace.{History, Conf, Came, Put, put_all, after}
use Rattle.right_trace.specs.Time.{now, newest, row_before, EarlierRow}
use Rattle.right_trace.specs.Messages.{Octets, answers}
use Rattle.right_trace.specs.{Requests.same_via, Places.closed_here, Parts.IsIn, Frames.came, Timers.ReadTimerIsDue, Causes.Heard}
use Rattle.right_trace.specs.Exchanges.{Comes, first_of}
use Rattle.trace_tables.proofs.Listing.{listed_adds}
use Rattle.trace_tables.specs.Lists.{listed, adds}
use Rattle.trace_tables.specs.declared.frames.here.Here.{Here}
use Rattle.trace_tables.specs.declared.frames.frames.Brought.{Brought}
use Rattle.trace_tables.specs.declared.frames.ledger.Ledger.{Ledger}
use Rattle.trace_tables.specs.frames.Frames.{frames_of}
use Rattle.trace_tables.specs.frames.Ledger as ledger
use Rattle.trace_tables.specs.frames.Here as here_outs
use Rattle.trace_points.specs.declared.due.timers.Timers.{Timers}
use Rattle.trace_points.specs.due.Timers as timers
use Rattle.trace_points.specs.due.Due.{read_due}
use Rattle.trace_points.proofs.lemmas.due.ReadTimers.{both, all, tells_read_timer}
use Rattle.trace_points.specs.declared.exchanges.coming.Coming.{Coming}
use Rattle.trace_points.specs.exchanges.Coming.{AllComing}
use Rattle.trace_points.proofs.lemmas.exchanges.Telling.{came_now}
use Rattle.trace_errors.specs.promptness.Heard.{Heards, is_in, heard_seen, is_passed_over, passed_over_in, notes, notes_all, after_row, WasHeard, Known, GoesOn}

same_number : (a b : ℕ) → (a == b) ≡ true → a ≡ b
same_number a b e = grind (arith, nat_tests)

own : (a : ℕ) → (a == a) ≡ true
own a = grind (arith, nat_tests)

-- rows

pub before_row : (row : Row) (past : History) → row_before (after row past) ≡ past
before_row row past = go row.outs (Came row.event ∷ past) refl
  where
    go : (os : List Out) (h : History) → row_before h ≡ past → row_before (put_all os h) ≡ past
    go [] h e = e
    go (o ∷ os) h e = go os (Put o ∷ h) e

pub row_event : (row : Row) (past : History) → newest (after row past) ≡ row.event.what
row_event row past = go row.outs (Came row.event ∷ past) refl
  where
    go : (os : List Out) (h : History) → newest h ≡ row.event.what → newest (put_all os h) ≡ row.event.what
    go [] h e = e
    go (o ∷ os) h e = go os (Put o ∷ h) e

pub row_moment : (row : Row) (past : History) → now (after row past) ≡ now (Came row.event ∷ past)
row_moment row past = go row.outs (Came row.event ∷ past) refl
  where
    go : (os : List Out) (h : History) → now h ≡ now (Came row.event ∷ past) → now (put_all os h) ≡ now (Came row.event ∷ past)
    go [] h e = e
    go (o ∷ os) h e = go os (Put o ∷ h) e

module _ (P : History → Type 0) (row : Row) (past : History) where
  earlier_so : (os : List Out) (h : History) → (EarlierRow P h → P past ⊎ EarlierRow P past) → EarlierRow P (put_all os h) → P past ⊎ EarlierRow P past
  earlier_so [] h f e = f e
  earlier_so (o ∷ os) h f e = earlier_so os (Put o ∷ h) f e

  so_earlier : (os : List Out) (h : History) → (P past ⊎ EarlierRow P past → EarlierRow P h) → P past ⊎ EarlierRow P past → EarlierRow P (put_all os h)
  so_earlier [] h f e = f e
  so_earlier (o ∷ os) h f e = so_earlier os (Put o ∷ h) f e

  pub rows_before : EarlierRow P (after row past) → P past ⊎ EarlierRow P past
  rows_before = earlier_so row.outs (Came row.event ∷ past) (λ e. e)

  pub before_rows : P past ⊎ EarlierRow P past → EarlierRow P (after row past)
  before_rows = so_earlier row.outs (Came row.event ∷ past) (λ e. e)

-- what is noted

pub record HeardIn (k s : ℕ) (xs : List Coming) : Type 0 where
  pub coming : Coming
  pub there : IsIn coming xs
  pub by_stream : coming.via ≡ Stream
  pub is_request : coming.request ≡ k
  pub is_server : coming.server ≡ s

one_more : (k s : ℕ) (x : Coming) (t : Heards) → x.via ≡ Stream → heard_seen k s (notes x t) ≡ (if x.request == k then (x.server == s) || heard_seen k s t else heard_seen k s t)
one_more k s x t e = ap (λ v. heard_seen k s (if same_via v Stream then adds x.request x.server t else t)) e ∙ (ap (is_in s) (listed_adds k x.request x.server t) ∙ go (x.request == k))
  where
    go : (b : Bool) → is_in s (if b then x.server ∷ listed k t else listed k t) ≡ (if b then (x.server == s) || heard_seen k s t else heard_seen k s t)
    go true = refl
    go false = refl

note_so : (k s : ℕ) (x : Coming) (t : Heards) → heard_seen k s (notes x t) ≡ true → (heard_seen k s t ≡ true) ⊎ ((x.via ≡ Stream) × (x.request ≡ k) × (x.server ≡ s))
note_so k s x t e = go x.via refl
  where
    by : x.via ≡ Stream → (a b : Bool) → (x.request == k) ≡ a → (x.server == s) ≡ b → (if a then b || heard_seen k s t else heard_seen k s t) ≡ true → (heard_seen k s t ≡ true) ⊎ ((x.via ≡ Stream) × (x.request ≡ k) × (x.server ≡ s))
    by v true true i j e = inr (v, same_number x.request k i, same_number x.server s j)
    by v true false i j e = inl e
    by v false b i j e = inl e

    go : (v : Via) → x.via ≡ v → (heard_seen k s t ≡ true) ⊎ ((x.via ≡ Stream) × (x.request ≡ k) × (x.server ≡ s))
    go Dgram v = inl (sym (ap (λ v. heard_seen k s (if same_via v Stream then adds x.request x.server t else t)) v) ∙ e)
    go Stream v = by v (x.request == k) (x.server == s) refl refl (sym (one_more k s x t v) ∙ e)

note_keeps : (k s : ℕ) (x : Coming) (t : Heards) → heard_seen k s t ≡ true → heard_seen k s (notes x t) ≡ true
note_keeps k s x t e = go x.via refl
  where
    by : (a b : Bool) → (if a then b || heard_seen k s t else heard_seen k s t) ≡ true
    by true true = refl
    by true false = e
    by false b = e

    go : (v : Via) → x.via ≡ v → heard_seen k s (notes x t) ≡ true
    go Dgram v = ap (λ v. heard_seen k s (if same_via v Stream then adds x.request x.server t else t)) v ∙ e
    go Stream v = one_more k s x t v ∙ by (x.request == k) (x.server == s)

notes_keep : (k s : ℕ) (xs : List Coming) (t : Heards) → heard_seen k s t ≡ true → heard_seen k s (notes_all xs t) ≡ true
notes_keep k s [] t e = e
notes_keep k s (x ∷ xs) t e = notes_keep k s xs (notes x t) (note_keeps k s x t e)

notes_so : (k s : ℕ) (xs : List Coming) (t : Heards) → heard_seen k s (notes_all xs t) ≡ true → (heard_seen k s t ≡ true) ⊎ HeardIn k s xs
notes_so k s [] t e = inl e
notes_so k s (x ∷ xs) t e = go (notes_so k s xs (notes x t) e)
  where
    first : (heard_seen k s t ≡ true) ⊎ ((x.via ≡ Stream) × (x.request ≡ k) × (x.server ≡ s)) → (heard_seen k s t ≡ true) ⊎ HeardIn k s (x ∷ xs)
    first (inl e) = inl e
    first (inr h) = inr (record { coming = x; there = inl refl; by_stream = h.0; is_request = h.1; is_server = h.2 })

    go : (heard_seen k s (notes x t) ≡ true) ⊎ HeardIn k s xs → (heard_seen k s t ≡ true) ⊎ HeardIn k s (x ∷ xs)
    go (inl e) = first (note_so k s x t e)
    go (inr h) = inr (record { coming = h.coming; there = inr h.there; by_stream = h.by_stream; is_request = h.is_request; is_server = h.is_server })

so_notes : (k s : ℕ) (xs : List Coming) (t : Heards) → HeardIn k s xs → heard_seen k s (notes_all xs t) ≡ true
so_notes k s [] t h = absurd h.there
so_notes k s (x ∷ xs) t h = go (so_notes k s xs (notes x t)) h.there
  where
    go : (HeardIn k s xs → heard_seen k s (notes_all xs (notes x t)) ≡ true) → IsIn h.coming (x ∷ xs) → heard_seen k s (notes_all xs (notes x t)) ≡ true
    go rest (inl e) =
        let v : x.via ≡ Stream = ap (λ (x : Coming). x.via) e ∙ h.by_stream in
        let r : x.request ≡ k = ap (λ (x : Coming). x.request) e ∙ h.is_request in
        let q : x.server ≡ s = ap (λ (x : Coming). x.server) e ∙ h.is_server in
        notes_keep k s xs (notes x t) (one_more k s x t v ∙ (ap (λ b. if b then (x.server == s) || heard_seen k s t else heard_seen k s t) (ap (λ n. n == k) r ∙ own k) ∙ ap (λ b. b || heard_seen k s t) (ap (λ n. n == s) q ∙ own s)))
    go rest (inr i) = rest (record { coming = h.coming; there = i; by_stream = h.by_stream; is_request = h.is_request; is_server = h.is_server })

-- where something came

-- a message that comes is brought to its place
pub brought_to : (c : Conf) (l : Ledger) (h : History) (p id : ℕ) (v : Via) (m : Octets) (past : History) → ledger.Known h l → row_before h ≡ past → first_of c v id (came p (newest h) past) ≡ Some m → (b : Brought) × (l.frames.brought ≡ Some b) × (b.place ≡ p)
brought_to c l h p id v m past kl before first = go l.frames.brought refl
  where
    here : frames_of p l.frames.brought ≡ came p (newest h) past
    here = kl.frames.here p ∙ (came_now p h ∙ ap (came p (newest h)) before)

    none : (v : Via) → first_of c v id [] ≡ Some m → ⊥
    none Dgram e = cc
    none Stream e = cc

    go : (b : Option Brought) → l.frames.brought ≡ b → (b : Brought) × (l.frames.brought ≡ Some b) × (b.place ≡ p)
    go None e = absurd (none v (ap (first_of c v id) (sym (ap (frames_of p) e) ∙ here) ∙ first))
    go (Some b) e = by (b.place == p) refl
      where
        by : (d : Bool) → (b.place == p) ≡ d → (b : Brought) × (l.frames.brought ≡ Some b) × (b.place ≡ p)
        by true i = (b, e, same_number b.place p i)
        by false i = absurd (none v (ap (first_of c v id) (sym (ap (frames_of p) e ∙ ap (λ d. if d then b.frames else []) i) ∙ here) ∙ first))

-- a row

module _ (c : Conf) (past : History) (row : Row) (l l' : Ledger) (t : Timers) (o : Here) (kl : ledger.Known past l) (kl' : ledger.Known (after row past) l') (kt : timers.Known c past t) (ko : here_outs.Known l.books.places (after row past) o) where
  due : (p : ℕ) → (read_due c p l'.books.requests.clock l t ≡ true → ReadTimerIsDue c p (now (after row past)) past) × (ReadTimerIsDue c p (now (after row past)) past → read_due c p l'.books.requests.clock l t ≡ true)
  due p = subst (λ n. (read_due c p l'.books.requests.clock l t ≡ true → ReadTimerIsDue c p n past) × (ReadTimerIsDue c p n past → read_due c p l'.books.requests.clock l t ≡ true)) kl'.books.requests.time
      (tells_read_timer c p l'.books.requests.clock l t (read_due c p l'.books.requests.clock l t) refl past kl kt)

  -- a place is passed over
  pub passed_so : (p : ℕ) → is_passed_over c p l'.books.requests.clock l t o ≡ true → (closed_here p (after row past) ≡ true) × ReadTimerIsDue c p (now (after row past)) past
  passed_so p e =
      let q = both (here_outs.closed_seen p o) _ e in
      (sym (ko.closes p) ∙ q.0, (due p).0 q.1)

  pub so_passed : (p : ℕ) → closed_here p (after row past) ≡ true → ReadTimerIsDue c p (now (after row past)) past → is_passed_over c p l'.books.requests.clock l t o ≡ true
  so_passed p e d = all (here_outs.closed_seen p o) _ (ko.closes p ∙ e) ((due p).1 d)

  module _ (xs : List Coming) (heard : Heards) (cs : AllComing c None past (after row past) xs) (kh : Known c past heard) where
    passed : Bool
    passed = passed_over_in c l'.frames.brought l'.books.requests.clock l t o

    -- the place of a message
    placed : (p id : ℕ) (v : Via) (m : Octets) → first_of c v id (came p (newest (after row past)) past) ≡ Some m → passed ≡ is_passed_over c p l'.books.requests.clock l t o
    unfolding passed
    placed p id v m first =
        let b = brought_to c l' (after row past) p id v m past kl' (before_row row past) first in
        ap (λ b. passed_over_in c b l'.books.requests.clock l t o) b.1 ∙ ap (λ p. is_passed_over c p l'.books.requests.clock l t o) b.2

    heard_now : (k s : ℕ) → passed ≡ false → HeardIn k s xs → Heard c k s (after row past)
    heard_now k s non h =
        let x = h.coming in
        let is = cs.so x h.there in
        let comes : Comes c is.asked_as Stream s x.place k x.id x.message past (newest (after row past)) (after row past) =
        subst (λ v. Comes c is.asked_as v s x.place k x.id x.message past (newest (after row past)) (after row past)) h.by_stream
        (subst (λ s. Comes c is.asked_as x.via s x.place k x.id x.message past (newest (after row past)) (after row past)) h.is_server
        (subst (λ k. Comes c is.asked_as x.via x.server x.place k x.id x.message past (newest (after row past)) (after row past)) h.is_request is.comes)) in
        record {
          request = is.asked_as;
          place = x.place;
          id = x.id;
          message = x.message;
          comes = subst (λ q. Comes c is.asked_as Stream s x.place k x.id x.message q (newest (after row past)) (after row past)) (sym (before_row row past)) comes;
          taken = λ closed late. (
              let late' = subst (λ q. ReadTimerIsDue c x.place (now (after row past)) q) (before_row row past) late in
              let e = sym non ∙ (placed x.place x.id Stream x.message comes.first ∙ so_passed x.place closed late') in
              cc);
        }

    now_heard : (k s : ℕ) → Heard c k s (after row past) → (passed ≡ false) × HeardIn k s xs
    now_heard k s h =
        let comes = subst (λ q. Comes c h.request Stream s h.place k h.id h.message q (newest (after row past)) (after row past)) (before_row row past) h.comes in
        let there = cs.back h.request Stream s h.place k h.id h.message refl comes in
        (go passed refl comes, record { coming = record { request = k; via = Stream; server = s; place = h.place; id = h.id; message = h.message; agrees = answers h.request h.id h.message }; there = there; by_stream = refl; is_request = refl; is_server = refl })
      where
        go : (b : Bool) → passed ≡ b → Comes c h.request Stream s h.place k h.id h.message past (newest (after row past)) (after row past) → b ≡ false
        go false e comes = refl
        go true e comes =
            let p = passed_so h.place (sym (placed h.place h.id Stream h.message comes.first) ∙ e) in
            absurd (h.taken p.0 (subst (λ q. ReadTimerIsDue c h.place (now (after row past)) q) (sym (before_row row past)) p.1))

    row_so : (k s : ℕ) → (b : Bool) → passed ≡ b → heard_seen k s (after_row b xs heard) ≡ true → WasHeard c k s (after row past)
    row_so k s true e seen = inr (before_rows (Heard c k s) row past (kh.so k s seen))
    row_so k s false e seen = go (notes_so k s xs heard seen)
      where
        go : (heard_seen k s heard ≡ true) ⊎ HeardIn k s xs → WasHeard c k s (after row past)
        go (inl seen) = inr (before_rows (Heard c k s) row past (kh.so k s seen))
        go (inr h) = inl (heard_now k s e h)

    so_row : (k s : ℕ) → (b : Bool) → passed ≡ b → WasHeard c k s (after row past) → heard_seen k s (after_row b xs heard) ≡ true
    so_row k s true e (inl h) = absurd (let n = (now_heard k s h).0 in cc)
    so_row k s true e (inr w) = kh.back k s (rows_before (Heard c k s) row past w)
    so_row k s false e (inl h) = so_notes k s xs heard (now_heard k s h).1
    so_row k s false e (inr w) = notes_keep k s xs heard (kh.back k s (rows_before (Heard c k s) row past w))

    pub heard_row : Known c (after row past) (after_row (passed_over_in c l'.frames.brought l'.books.requests.clock l t o) xs heard)
    unfolding passed
    heard_row = record { so = λ k s e. row_so k s passed refl e; back = λ k s w. so_row k s passed refl w }

none_heard : (c : Conf) (k s : ℕ) → WasHeard c k s [] → ⊥
none_heard c k s (inl h) = let e : None ≡ Some h.message = h.comes.first in cc
none_heard c k s (inr h) = h

pub goes_on : GoesOn
goes_on = record {
  begins = λ c. record { so = λ k s e. absurd (cc); back = λ k s w. absurd (none_heard c k s w) };
  row = λ c past row l l' t o xs heard kl kl' kt ko cs kh. heard_row c past row l l' t o kl kl' kt ko xs heard cs kh;
}
