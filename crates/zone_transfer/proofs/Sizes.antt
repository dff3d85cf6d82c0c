-- How much memory updates are reckoned to take.
use Rattle.std.proofs.Common.{◌≡◌, ℕ, ◌+◌, ◌-◌, ◌^◌, ◌<◌, ◌≤◌, min, List, [], ◌∷◌, ◌++◌, append_assoc, Result, Ok, Err, refl, ap, sym, subst, ◌∙◌, arith}
use Rattle.std.specs.Prelude.{IfErr}
use Rattle.std.proofs.lemmas.List.Sums.{sum_by-append, sum_by_push}
use Rattle.zone_reading.specs.declared.steps.Update.{Update}
use Rattle.zone_records.specs.declared.record.ZoneRecord.{ZoneRecord}
use Rattle.zone_records.specs.Interpreting.{Interpreter, interpreted}
use Rattle.zone_transfer.specs.Reading.{AppendFault, BoundedReading, IsRefusedAt, IsWithin, ReadSoFar, reckoned, size_of, with_updates}
use Rattle.zone_transfer.specs.declared.fault.FetchFault.{FetchFault}
use Rattle.zone_transfer.specs.declared.fault.FetchFault.TheVariants.{Connect, Transport, Refused, Xfr, Apply, TooLarge, NoReply, NoMemory}

abbrev Updates : Type 0
Updates = List (Update ZoneRecord)

nil_right : (us : Updates) → us ++ [] ≡ us
nil_right [] = refl
nil_right (u ∷ us) = ap (λ (vs : Updates). u ∷ vs) (nil_right us)

pub reckoned_both : (us vs : Updates) → reckoned (us ++ vs) ≡ reckoned us + reckoned vs
reckoned_both us vs = sum_by-append size_of us vs

-- one more
pub reckoned_more : (us : Updates) (u : Update ZoneRecord) → reckoned (us ++ u ∷ []) ≡ reckoned us + size_of u
reckoned_more us u = sum_by_push size_of us u

pub above_of_part : (most : ℕ) (old done : Updates) (u : Update ZoneRecord) (rest all : Updates) → all ≡ done ++ u ∷ rest → most < reckoned ((old ++ done) ++ u ∷ []) → most < reckoned (old ++ all)
above_of_part most old done u rest all is h =
    let same : old ++ all ≡ ((old ++ done) ++ u ∷ []) ++ rest =
    ap (λ (us : Updates). old ++ us) is ∙ sym (append_assoc old done (u ∷ rest)) ∙ sym (append_assoc (old ++ done) (u ∷ []) rest) in
    let whole : reckoned (old ++ all) ≡ reckoned ((old ++ done) ++ u ∷ []) + reckoned rest = ap reckoned same ∙ reckoned_both ((old ++ done) ++ u ∷ []) rest in
    go (reckoned (old ++ all)) (reckoned ((old ++ done) ++ u ∷ [])) (reckoned rest) whole h
  where
    go : (a b c : ℕ) → a ≡ b + c → most < b → most < a
    go a b c e l = omega arith

-- updates are appended one by one
pub record Appending (old : BoundedReading) (all rest : Updates) (new : BoundedReading) : Type 0 where
  pub done : Updates
  pub all_are : all ≡ done ++ rest
  pub new_is : new ≡ with_updates (old.state.updates ++ done) old

pub appending_from : (old : BoundedReading) (all rest : Updates) → rest ≡ all → Appending old all rest old
appending_from old all rest e = record { done = []; all_are = sym e; new_is = ap (λ (us : Updates). with_updates us old) (sym (nil_right old.state.updates)) }

pub appending_next : (old mid new : BoundedReading) (all rest left : Updates) (u : Update ZoneRecord) → rest ≡ u ∷ left → Appending old all rest mid → new ≡ with_updates (mid.state.updates ++ u ∷ []) mid → Appending old all left new
appending_next old mid new all rest left u steps a step =
    record {
      done = a.done ++ u ∷ [];
      all_are = a.all_are ∙ ap (λ (us : Updates). a.done ++ us) steps ∙ sym (append_assoc a.done (u ∷ []) left);
      new_is = step ∙ ap (λ (m : BoundedReading). with_updates (m.state.updates ++ u ∷ []) m) a.new_is ∙ ap (λ (us : Updates). with_updates us old) (append_assoc old.state.updates a.done (u ∷ []));
    }

pub appending_ended : (old new : BoundedReading) (all rest : Updates) → rest ≡ [] → Appending old all rest new → new ≡ with_updates (old.state.updates ++ all) old
appending_ended old new all rest none a = a.new_is ∙ ap (λ (us : Updates). with_updates (old.state.updates ++ us) old) (sym (a.all_are ∙ ap (λ (us : Updates). a.done ++ us) none ∙ nil_right a.done))

pub appending_stops : (old mid : BoundedReading) (all rest left : Updates) (u : Update ZoneRecord) (fault : FetchFault) → rest ≡ u ∷ left → Appending old all rest mid → AppendFault mid.most (mid.state.updates ++ u ∷ []) fault → AppendFault old.most (old.state.updates ++ all) fault
appending_stops old mid all rest left u TooLarge steps a h =
    above_of_part old.most old.state.updates a.done u left all (a.all_are ∙ ap (λ (us : Updates). a.done ++ us) steps)
    (subst (λ (m : BoundedReading). m.most < reckoned (m.state.updates ++ u ∷ [])) a.new_is h)
appending_stops old mid all rest left u NoMemory steps a h = tt
appending_stops old mid all rest left u (Connect f) steps a h = absurd h
appending_stops old mid all rest left u (Transport e) steps a h = absurd h
appending_stops old mid all rest left u (Refused r) steps a h = absurd h
appending_stops old mid all rest left u (Xfr f) steps a h = absurd h
appending_stops old mid all rest left u (Apply f) steps a h = absurd h
appending_stops old mid all rest left u NoReply steps a h = absurd h

-- the size of updates and one more, counted up to the greatest number
pub size_more : (us : Updates) (u : Update ZoneRecord) (size more : ℕ) → size ≡ min (reckoned us) (2 ^ 64 - 1) → more ≡ min (size_of u) (2 ^ 64 - 1) → min (size + more) (2 ^ 64 - 1) ≡ min (reckoned (us ++ u ∷ [])) (2 ^ 64 - 1)
size_more us u size more a b = go (reckoned us) (size_of u) (reckoned (us ++ u ∷ [])) (2 ^ 64 - 1) size more a b (reckoned_more us u)
  where
    go : (x y z top size more : ℕ) → size ≡ min x top → more ≡ min y top → z ≡ x + y → min (size + more) top ≡ min z top
    go x y z top size more a b c = grind arith

pub above_of_size : (us : Updates) (size most : ℕ) → size ≡ min (reckoned us) (2 ^ 64 - 1) → most < size → most < reckoned us
above_of_size us size most a b = go (reckoned us) (2 ^ 64 - 1) size most a b
  where
    go : (x top size most : ℕ) → size ≡ min x top → most < size → most < x
    go x top size most a b = grind arith

pub within_of_size : (us : Updates) (size most : ℕ) → size ≡ min (reckoned us) (2 ^ 64 - 1) → size ≤ most → IsWithin most us
within_of_size us size most a b = subst (λ (n : ℕ). n ≤ most) a b

-- why the message is refused whose updates are not appended
pub refused_at : (most : ℕ) (s : ReadSoFar) (message : List ℕ) (next : Interpreter) (more : Updates) (r : Result (Unit {0}) FetchFault) → interpreted s.interpreter message ≡ Ok (next, more)
    → IfErr r (AppendFault most (s.updates ++ more)) → IfErr r (IsRefusedAt most s message)
refused_at most s message next more (Ok u) says h = h
refused_at most s message next more (Err TooLarge) says h = record { next = next; more = more; says = says; above = h }
refused_at most s message next more (Err NoMemory) says h = h
refused_at most s message next more (Err (Connect f)) says h = absurd h
refused_at most s message next more (Err (Transport e)) says h = absurd h
refused_at most s message next more (Err (Refused r)) says h = absurd h
refused_at most s message next more (Err (Xfr f)) says h = absurd h
refused_at most s message next more (Err (Apply f)) says h = absurd h
refused_at most s message next more (Err NoReply) says h = absurd h
