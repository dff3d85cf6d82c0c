-- Whether a server is busy for all requests that it has is what the definitions say.
use Rattle.std.proofs.Common.{◌≡◌, ℕ, ◌+◌, ◌≤◌, ◌==◌, ◌&&◌, ◌||◌, ◌⊎◌, inl, inr, Bool, true, false, if◌then◌else◌, List, [], ◌∷◌, Option, Some, refl, sym, ap, ap₂, ◌∙◌, subst, arith}
use Rattle.std.specs.Prelude.{is_some, nat_le}
use Rattle.std.proofs.lemmas.Bool.Decides.{nat_tests}
use Rattle.number_table.specs.Entries.{entry_at}
use Rattle.client_request.specs.declared.event.Via.{Via}
use Rattle.client_request.specs.declared.event.Via.TheVariants.{Dgram, Stream}
use Rattle.right_trace.specs.Trace.{History, Conf}
use Rattle.right_trace.specs.Time.{now, Ever, back_off, max_places}
use Rattle.right_trace.specs.Requests.{started, same_via}
use Rattle.right_trace.specs.Places.{is_at, reach, stand, Stand, Unused, Opening, Alive, Gone, is_alive, is_opening, is_live}
use Rattle.right_trace.specs.Orderly.{Sending, sending}
use Rattle.right_trace.specs.Writes.{is_unwritten}
use Rattle.right_trace.specs.Busy.{HappenedWithin, is_taken, taken_from, IsBusyAt, PlaceIsOpening, PlacesAreTaken, StreamIsOpening, StreamIsWriting, BackingOff}
use Rattle.trace_tables.specs.declared.requests.Started.{Started}
use Rattle.trace_tables.specs.Requests.{start_of}
use Rattle.trace_tables.specs.writes.Writing.{unwritten_seen}
use Rattle.trace_tables.proofs.lemmas.writes.Leaving as leaving
use Rattle.trace_points.proofs.lemmas.questions.Deciding.{both, all}
use Rattle.trace_tables.specs.sets.Sets.{count_of, has, members, some_of}
use Rattle.trace_tables.proofs.lemmas.sets.Counting.{count_same}
use Rattle.trace_tables.proofs.lemmas.sets.Keeping as sets
use Rattle.trace_outs.proofs.lemmas.loads.Meeting.{dgrams_held}
use Rattle.trace_outs.specs.declared.busy.busy.Scene.{Scene}
use Rattle.trace_outs.specs.busy.{Backs.is_within, Taken.taken_seen}
use Rattle.trace_outs.specs.busy.Busy.{Known, opens_seen, moves_seen, serves, some_serves}
use Rattle.trace_outs.proofs.lemmas.busy.Opening.{either, first_true, second_true}

le_so : (a b : ℕ) → nat_le a b ≡ true → a ≤ b
le_so a b e = grind (arith, nat_tests)

so_le : (a b : ℕ) → a ≤ b → nat_le a b ≡ true
so_le a b le = grind (arith, nat_tests)

opening_is : (x : Stand) → is_opening x ≡ true → x ≡ Opening
opening_is Unused e = absurd (cc)
opening_is Opening e = refl
opening_is Alive e = absurd (cc)
opening_is Gone e = absurd (cc)

alive_is : (x : Stand) → is_alive x ≡ true → x ≡ Alive
alive_is Unused e = absurd (cc)
alive_is Opening e = absurd (cc)
alive_is Alive e = refl
alive_is Gone e = absurd (cc)

-- what is taken is live
live_taken : (k : ℕ) (a : Bool) (x : Stand) (o : Option Sending) → ((a && is_live x) && is_taken k x o) ≡ (a && is_taken k x o)
live_taken k false x o = refl
live_taken k true Unused o = refl
live_taken k true Opening o = refl
live_taken k true Alive o = refl
live_taken k true Gone o = refl

module _ (c : Conf) (end : History) (t : Scene) (known : Known c end t) (k : ℕ) where
  taken_is : (p : ℕ) → taken_seen k t.ledger.now.books p ≡ is_taken k (stand p end) (sending p end)
  taken_is p = ap₂ (is_taken k) (known.ledger.books.places.stands p) (known.ledger.books.sends.sendings p)

  counted_so : (s : ℕ) → count_of (taken_seen k t.ledger.now.books) (members s t.loads.now.dgrams) ≡ taken_from s k end
  counted_so s =
      sets.goes_on.passing s (reach end) (λ p. is_at Dgram s p end && is_live (stand p end)) (taken_seen k t.ledger.now.books) t.loads.now.dgrams (known.loads.sets Dgram) (dgrams_held c s end t.loads.now known.loads)
      ∙ count_same (λ p. (is_at Dgram s p end && is_live (stand p end)) && taken_seen k t.ledger.now.books p) (λ p. is_at Dgram s p end && is_taken k (stand p end) (sending p end)) (reach end)
      (λ p. ap (λ b. (is_at Dgram s p end && is_live (stand p end)) && b) (taken_is p) ∙ live_taken k (is_at Dgram s p end) (stand p end) (sending p end))

  opens_is : (p : ℕ) → opens_seen t.ledger.now.books.places p ≡ is_opening (stand p end)
  opens_is p = ap is_opening (known.ledger.books.places.stands p)

  unwritten : (p : ℕ) → unwritten_seen p t.writing.now ≡ is_unwritten p end
  unwritten p = leaving.goes_on.tells end t.writing.now p known.writing

  moves_is : (p : ℕ) → moves_seen t.ledger.now.books.places t.writing.now p ≡ (is_opening (stand p end) || (is_alive (stand p end) && is_unwritten p end))
  moves_is p = ap₂ (λ x b. is_opening x || (is_alive x && b)) (known.ledger.books.places.stands p) (unwritten p)

  dgram_there : (s p : ℕ) → has s p t.loads.now.dgrams ≡ true → is_at Dgram s p end ≡ true
  dgram_there s p e = (both (is_at Dgram s p end) (is_live (stand p end)) (sym (known.loads.places Dgram s p) ∙ e)).0

  stream_there : (s p : ℕ) → has s p t.loads.now.streams ≡ true → is_at Stream s p end ≡ true
  stream_there s p e = (both (is_at Stream s p end) (is_live (stand p end)) (sym (known.loads.places Stream s p) ∙ e)).0

  pub serves_so : (v : Via) (s : ℕ) → started k s v end ≡ true → serves c v s k t ≡ true → IsBusyAt c s k end
  serves_so Dgram s begun e = go (either (some_of (opens_seen t.ledger.now.books.places) (members s t.loads.now.dgrams)) _ e)
    where
      go : (some_of (opens_seen t.ledger.now.books.places) (members s t.loads.now.dgrams) ≡ true) ⊎ (nat_le (max_places c) (count_of (taken_seen k t.ledger.now.books) (members s t.loads.now.dgrams)) ≡ true) → IsBusyAt c s k end
      go (inr e) = PlacesAreTaken begun (subst (λ (n : ℕ). max_places c ≤ n) (counted_so s) (le_so (max_places c) (count_of (taken_seen k t.ledger.now.books) (members s t.loads.now.dgrams)) e))
      go (inl e) =
          let f = sets.goes_on.found s (opens_seen t.ledger.now.books.places) t.loads.now.dgrams e in
          PlaceIsOpening f.0 begun (dgram_there s f.0 f.1) (opening_is (stand f.0 end) (sym (opens_is f.0) ∙ f.2))
  serves_so Stream s begun e = go (either (some_of (moves_seen t.ledger.now.books.places t.writing.now) (members s t.loads.now.streams)) _ e)
    where
      move : (p : ℕ) → is_at Stream s p end ≡ true → (is_opening (stand p end) ≡ true) ⊎ ((is_alive (stand p end) && is_unwritten p end) ≡ true) → IsBusyAt c s k end
      move p at (inl e) = StreamIsOpening p begun at (opening_is (stand p end) e)
      move p at (inr e) = (let q = both (is_alive (stand p end)) (is_unwritten p end) e in StreamIsWriting p begun at (alive_is (stand p end) q.0) q.1)

      go : (some_of (moves_seen t.ledger.now.books.places t.writing.now) (members s t.loads.now.streams) ≡ true) ⊎ (is_within t.ledger.now.books.requests.clock (entry_at s t.backs.now) ≡ true) → IsBusyAt c s k end
      go (inl e) =
          let f = sets.goes_on.found s (moves_seen t.ledger.now.books.places t.writing.now) t.loads.now.streams e in
          move f.0 (stream_there s f.0 f.1) (either (is_opening (stand f.0 end)) _ (sym (moves_is f.0) ∙ f.2))
      go (inr e) = BackingOff begun (known.backs.so s (now end) (ap (λ (n : ℕ). is_within n (entry_at s t.backs.now)) (sym known.ledger.books.requests.time) ∙ e))

  -- the other way
  opening_there : (v : Via) (s p : ℕ) → is_at v s p end ≡ true → stand p end ≡ Opening → (is_at v s p end && is_live (stand p end)) ≡ true
  opening_there v s p at st = all (is_at v s p end) (is_live (stand p end)) at (ap is_live st)

  pub opens_so : (s p : ℕ) → is_at Dgram s p end ≡ true → stand p end ≡ Opening → serves c Dgram s k t ≡ true
  opens_so s p at st =
      first_true _ _
      (sets.goes_on.finds s p (opens_seen t.ledger.now.books.places) t.loads.now.dgrams (known.loads.places Dgram s p ∙ opening_there Dgram s p at st) (opens_is p ∙ ap is_opening st))

  pub taken_so : (s : ℕ) → max_places c ≤ taken_from s k end → serves c Dgram s k t ≡ true
  taken_so s le =
      second_true (some_of (opens_seen t.ledger.now.books.places) (members s t.loads.now.dgrams)) _
      (so_le (max_places c) (count_of (taken_seen k t.ledger.now.books) (members s t.loads.now.dgrams)) (subst (λ (n : ℕ). max_places c ≤ n) (sym (counted_so s)) le))

  pub stream_so : (s p : ℕ) → is_at Stream s p end ≡ true → stand p end ≡ Opening → serves c Stream s k t ≡ true
  stream_so s p at st =
      first_true _ _ (sets.goes_on.finds s p (moves_seen t.ledger.now.books.places t.writing.now) t.loads.now.streams (known.loads.places Stream s p ∙ opening_there Stream s p at st)
      (moves_is p ∙ first_true _ _ (ap is_opening st)))

  pub writing_so : (s p : ℕ) → is_at Stream s p end ≡ true → stand p end ≡ Alive → is_unwritten p end ≡ true → serves c Stream s k t ≡ true
  writing_so s p at st un =
      first_true _ _ (sets.goes_on.finds s p (moves_seen t.ledger.now.books.places t.writing.now) t.loads.now.streams
      (known.loads.places Stream s p ∙ all (is_at Stream s p end) (is_live (stand p end)) at (ap is_live st))
      (moves_is p ∙ second_true (is_opening (stand p end)) _ (all (is_alive (stand p end)) (is_unwritten p end) (ap is_alive st) un)))

  pub backing_so : (s : ℕ) → Ever (HappenedWithin c (back_off + back_off) s (now end)) end → serves c Stream s k t ≡ true
  backing_so s e =
      second_true (some_of (moves_seen t.ledger.now.books.places t.writing.now) (members s t.loads.now.streams)) _
      (ap (λ (n : ℕ). is_within n (entry_at s t.backs.now)) known.ledger.books.requests.time ∙ known.backs.back s (now end) e)

-- of the starts of a request

same_number : (a b : ℕ) → (a == b) ≡ true → a ≡ b
same_number a b e = grind (arith, nat_tests)

own : (a : ℕ) → (a == a) ≡ true
own a = grind (arith, nat_tests)

same_kind : (a b : Via) → same_via a b ≡ true → a ≡ b
same_kind Dgram Dgram e = refl
same_kind Stream Stream e = refl
same_kind Dgram Stream e = absurd (cc)
same_kind Stream Dgram e = absurd (cc)

own_kind : (a : Via) → same_via a a ≡ true
own_kind Dgram = refl
own_kind Stream = refl

started_more : (s : ℕ) (v : Via) (x : Started) (xs : List Started) → is_some (start_of s v xs) ≡ true → is_some (start_of s v (x ∷ xs)) ≡ true
started_more s v x xs e = go (same_via x.via v && (x.server == s))
  where
    go : (b : Bool) → is_some (if b then Some x.moment else start_of s v xs) ≡ true
    go true = refl
    go false = e

pub start_so : (c : Conf) (k : ℕ) (xs : List Started) (t : Scene) → some_serves c k xs t ≡ true → (s : ℕ) × ((v : Via) × ((is_some (start_of s v xs) ≡ true) × (serves c v s k t ≡ true)))
start_so c k [] t e = absurd (cc)
start_so c k (x ∷ xs) t e = go (start_so c k xs t) (either (serves c x.via x.server k t) _ e)
  where
    go : (some_serves c k xs t ≡ true → (s : ℕ) × ((v : Via) × ((is_some (start_of s v xs) ≡ true) × (serves c v s k t ≡ true)))) → (serves c x.via x.server k t ≡ true) ⊎ (some_serves c k xs t ≡ true)
        → (s : ℕ) × ((v : Via) × ((is_some (start_of s v (x ∷ xs)) ≡ true) × (serves c v s k t ≡ true)))
    go rest (inl e) =
        (x.server, (x.via, (ap (λ b. is_some (if b then Some x.moment else start_of x.server x.via xs)) (all (same_via x.via x.via) (x.server == x.server) (own_kind x.via) (own x.server)), e)))
    go rest (inr e) = (let r = rest e in (r.0, (r.1.0, (started_more r.0 r.1.0 x xs r.1.1.0, r.1.1.1))))

pub so_start : (c : Conf) (s k : ℕ) (v : Via) (xs : List Started) (t : Scene) → is_some (start_of s v xs) ≡ true → serves c v s k t ≡ true → some_serves c k xs t ≡ true
so_start c s k v [] t b e = absurd (cc)
so_start c s k v (x ∷ xs) t b e = go (same_via x.via v && (x.server == s)) refl (λ b. so_start c s k v xs t b e) b
  where
    go : (d : Bool) → (same_via x.via v && (x.server == s)) ≡ d → (is_some (start_of s v xs) ≡ true → some_serves c k xs t ≡ true) → is_some (if d then Some x.moment else start_of s v xs) ≡ true → (serves c x.via x.server k t || some_serves c k xs t) ≡ true
    go true i rest b =
        let q = both (same_via x.via v) (x.server == s) i in
        first_true _ _ (ap₂ (λ (v : Via) (s : ℕ). serves c v s k t) (same_kind x.via v q.0) (same_number x.server s q.1) ∙ e)
    go false i rest b = second_true _ _ (rest b)
