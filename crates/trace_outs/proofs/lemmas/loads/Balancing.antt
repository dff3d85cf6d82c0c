-- Sets stay in order, and a server is noted just where its places are not met.
use Rattle.std.proofs.Common.{◌≡◌, ℕ, suc, ◌≤◌, ◌==◌, ◌&&◌, not, Bool, true, false, List, [], ◌∷◌, length, Option, Some, None, if◌then◌else◌, refl, sym, ap, ap₂, ◌∙◌, subst, arith}
use Rattle.std.specs.Prelude.{◌||◌, is_some, min, nat_le}
use Rattle.std.proofs.lemmas.Bool.Decides.{nat_tests}
use Rattle.number_table.specs.Entries.{puts, frees, entry_at}
use Rattle.client_request.specs.declared.event.{What.What, Out.Out, Via.Via}
use Rattle.client_request.specs.declared.event.What.TheVariants.{Ask, Opened, OpenFailed, SendFailed, ShortSend, Datagram, RecvFailed, Wrote, WriteFailed, Bytes, ReadFailed, Ended, Tick}
use Rattle.client_request.specs.declared.event.Out.TheVariants.{Start, OpenDgram, OpenStream, Send, Write, Resume, Close, Stale, Reply}
use Rattle.client_request.specs.declared.event.Via.TheVariants.{Dgram, Stream}
use Rattle.right_trace.specs.{Time.max_places, Trace.Conf}
use Rattle.trace_tables.specs.declared.books.Books.{Books}
use Rattle.trace_tables.specs.declared.places.{Place.Place, Stand.Stand as Seen}
use Rattle.trace_tables.specs.declared.places.Stand.TheVariants as seen
use Rattle.trace_tables.specs.declared.requests.{Requests.Requests, Started.Started}
use Rattle.trace_tables.specs.{Tables.begun_stand, Lists.listed, Requests.started_seen}
use Rattle.trace_tables.specs.sets.Sets.{Members, Sets, size, members, joins, leaves, Rise, AreSets}
use Rattle.trace_tables.proofs.lemmas.sets.Keeping.{goes_on, at_puts, stays, rise_puts, rise_frees, freed_none, members_put}
use Rattle.trace_outs.specs.declared.loads.loads.Loads.{Loads}
use Rattle.trace_outs.specs.loads.Loads.{are_met, met_at, noted, checks, gives, takes, waits_at, goes_from, goes_from_all, fails_as, fails, closes, opens_as, opens, waits_seen, starts, met, has_put, places_of}

pub record Well (c : Conf) (t : Loads) : Type 0 where
  pub dgrams : AreSets t.dgrams
  pub streams : AreSets t.streams
  pub demand : AreSets t.demand
  pub unmet : (s : ℕ) → is_some (entry_at s t.unmet) ≡ not (met_at c s t)
  pub rise : Rise 0 t.unmet

pub sets_of : (c : Conf) (t : Loads) → Well c t → (v : Via) → AreSets (places_of v t)
sets_of c t w Dgram = w.dgrams
sets_of c t w Stream = w.streams

-- one server is asked anew
noted_here : (s q : ℕ) (es : Members) (b : Bool) → Rise 0 es → (s == q) ≡ true → is_some (entry_at q (noted s b es)) ≡ not b
noted_here s q es true r e = ap is_some (ap (λ (n : ℕ). entry_at n (frees s es)) (sym (same s q e)) ∙ freed_none 0 s es r)
  where
    same : (a b : ℕ) → (a == b) ≡ true → a ≡ b
    same a b e = grind (arith, nat_tests)
noted_here s q es false r e = ap is_some (at_puts s tt q es ∙ ap (λ b. if b then Some tt else entry_at q es) e)

noted_there : (s q : ℕ) (es : Members) (b : Bool) → (s == q) ≡ false → is_some (entry_at q (noted s b es)) ≡ is_some (entry_at q es)
noted_there s q es true e = ap is_some (stays q s es e)
noted_there s q es false e = ap is_some (at_puts s tt q es ∙ ap (λ b. if b then Some tt else entry_at q es) e)

noted_rise : (s : ℕ) (es : Members) (b : Bool) → Rise 0 es → Rise 0 (noted s b es)
noted_rise s es true r = rise_frees 0 s es r
noted_rise s es false r = rise_puts 0 s es (omega arith) r

-- only what is said of that server changed
checked : (c : Conf) (s : ℕ) (t : Loads) → AreSets t.dgrams → AreSets t.streams → AreSets t.demand → Rise 0 t.unmet → ((q : ℕ) → (s == q) ≡ false → is_some (entry_at q t.unmet) ≡ not (met_at c q t)) → Well c (checks c s t)
checked c s t d u n r others = record {
  dgrams = d;
  streams = u;
  demand = n;
  unmet = λ q. go q (s == q) refl;
  rise = noted_rise s t.unmet (met_at c s t) r;
}
  where
    same : (a b : ℕ) → (a == b) ≡ true → a ≡ b
    same a b e = grind (arith, nat_tests)

    go : (q : ℕ) (b : Bool) → (s == q) ≡ b → is_some (entry_at q (noted s (met_at c s t) t.unmet)) ≡ not (met_at c q t)
    go q true e = noted_here s q t.unmet (met_at c s t) r e ∙ ap (λ (s : ℕ). not (met_at c s t)) (same s q e)
    go q false e = noted_there s q t.unmet (met_at c s t) e ∙ others q e

other_size : (s q : ℕ) (es : Members) (t : Sets) → (s == q) ≡ false → size q (puts s es (frees s t)) ≡ size q t
other_size s q es t e = ap length (members_put s q es t ∙ ap (λ b. if b then es else members q t) e)

-- where no request waits no place is asked for
none_met : (c : Conf) (exact : Bool) → are_met c exact 0 0 ≡ true
none_met c exact = ap (λ n. nat_le 0 n && (not exact || (0 == n))) (least (max_places c)) ∙ go exact
  where
    least : (n : ℕ) → min n 0 ≡ 0
    least n = omega arith

    go : (b : Bool) → (nat_le 0 0 && (not b || (0 == 0))) ≡ true
    go true = refl
    go false = refl

pub nothing_well : (c : Conf) (exact : Bool) → Well c (record { dgrams = []; streams = []; demand = []; unmet = []; exact = exact })
nothing_well c exact = record { dgrams = goes_on.begins; streams = goes_on.begins; demand = goes_on.begins; unmet = λ s. sym (ap not (none_met c exact)); rise = tt }

gives_well : (c : Conf) (v : Via) (s p : ℕ) (t : Loads) → Well c t → Well c (gives c v s p t)
gives_well c Dgram s p t w = checked c s (record t { dgrams = joins s p t.dgrams }) (goes_on.join s p t.dgrams w.dgrams) w.streams w.demand w.rise
    (λ q e. w.unmet q ∙ sym (ap (λ (n : ℕ). not (are_met c t.exact n (size q t.demand))) (other_size s q (puts p tt (members s t.dgrams)) t.dgrams e)))
gives_well c Stream s p t w = record { dgrams = w.dgrams; streams = goes_on.join s p t.streams w.streams; demand = w.demand; unmet = w.unmet; rise = w.rise }

takes_well : (c : Conf) (v : Via) (s p : ℕ) (t : Loads) → Well c t → Well c (takes c v s p t)
takes_well c Dgram s p t w = checked c s (record t { dgrams = leaves s p t.dgrams }) (goes_on.leave s p t.dgrams w.dgrams) w.streams w.demand w.rise
    (λ q e. w.unmet q ∙ sym (ap (λ (n : ℕ). not (are_met c t.exact n (size q t.demand))) (other_size s q (frees p (members s t.dgrams)) t.dgrams e)))
takes_well c Stream s p t w = record { dgrams = w.dgrams; streams = goes_on.leave s p t.streams w.streams; demand = w.demand; unmet = w.unmet; rise = w.rise }

waits_well : (c : Conf) (s k : ℕ) (t : Loads) → Well c t → Well c (waits_at c s k t)
waits_well c s k t w = checked c s (record t { demand = joins s k t.demand }) w.dgrams w.streams (goes_on.join s k t.demand w.demand) w.rise
    (λ q e. w.unmet q ∙ sym (ap (λ (n : ℕ). not (are_met c t.exact (size q t.dgrams) n)) (other_size s q (puts k tt (members s t.demand)) t.demand e)))

goes_well : (c : Conf) (s k : ℕ) (t : Loads) → Well c t → Well c (goes_from c s k t)
goes_well c s k t w = checked c s (record t { demand = leaves s k t.demand }) w.dgrams w.streams (goes_on.leave s k t.demand w.demand) w.rise
    (λ q e. w.unmet q ∙ sym (ap (λ (n : ℕ). not (are_met c t.exact (size q t.dgrams) n)) (other_size s q (frees k (members s t.demand)) t.demand e)))

all_well : (c : Conf) (k : ℕ) (xs : List Started) (t : Loads) → Well c t → Well c (goes_from_all c k xs t)
all_well c k [] t w = w
all_well c k (x ∷ xs) t w = all_well c k xs (goes_from c x.server k t) (goes_well c x.server k t w)

fails_well : (c : Conf) (p : ℕ) (x : Place) (z : Seen) (t : Loads) → Well c t → Well c (fails_as c p x z t)
fails_well c p x seen.Opening t w = takes_well c x.via x.server p t w
fails_well c p x seen.Alive t w = w
fails_well c p x seen.Gone t w = w

failed_well : (c : Conf) (p : ℕ) (o : Option Place) (t : Loads) → Well c t → Well c (fails c p o t)
failed_well c p None t w = w
failed_well c p (Some x) t w = fails_well c p x x.stand t w

closed_well : (c : Conf) (p : ℕ) (o : Option Place) (t : Loads) → Well c t → Well c (closes c p o t)
closed_well c p None t w = w
closed_well c p (Some x) t w = takes_well c x.via x.server p t w

opens_well : (c : Conf) (v : Via) (s p : ℕ) (z : Seen) (t : Loads) → Well c t → Well c (opens_as c v s p z t)
opens_well c v s p seen.Opening t w = gives_well c v s p t w
opens_well c v s p seen.Alive t w = gives_well c v s p t w
opens_well c v s p seen.Gone t w = w

opened_well : (c : Conf) (x : What) (v : Via) (s p : ℕ) (o : Option Place) (t : Loads) → Well c t → Well c (opens c x v s p o t)
opened_well c x v s p (Some y) t w = w
opened_well c x v s p None t w = opens_well c v s p (begun_stand x p) t w

starts_well : (c : Conf) (k s : ℕ) (v : Via) (r : Requests) (t : Loads) → Well c t → Well c (starts c k s v r t)
starts_well c k s Dgram r t w = go (waits_seen k r && not (started_seen k s Stream r))
  where
    go : (b : Bool) → Well c (if b then waits_at c s k t else t)
    go true = waits_well c s k t w
    go false = w
starts_well c k s Stream r t w = goes_well c s k t w

pub met_well : (c : Conf) (w : What) (places : List (ℕ × Place)) (t : Loads) → Well c t → Well c (met c w places t)
met_well c (OpenFailed p f) places t w = failed_well c p (entry_at p places) t w
met_well c (Opened p) places t w = w
met_well c (Ask r) places t w = w
met_well c (SendFailed p f) places t w = w
met_well c (ShortSend p) places t w = w
met_well c (Datagram p o) places t w = w
met_well c (RecvFailed p f) places t w = w
met_well c (Wrote p n) places t w = w
met_well c (WriteFailed p f) places t w = w
met_well c (Bytes p o) places t w = w
met_well c (ReadFailed p f) places t w = w
met_well c (Ended p) places t w = w
met_well c Tick places t w = w

pub put_well : (c : Conf) (x : What) (o : Out) (b : Books) (t : Loads) → Well c t → Well c (has_put c x o b t)
put_well c x (OpenDgram p s) b t w = opened_well c x Dgram s p (entry_at p b.places) t w
put_well c x (OpenStream p s) b t w = opened_well c x Stream s p (entry_at p b.places) t w
put_well c x (Close p) b t w = closed_well c p (entry_at p b.places) t w
put_well c x (Start k s v) b t w = starts_well c k s v b.requests t w
put_well c x (Reply k m) b t w = all_well c k (listed k b.requests.starts) t w
put_well c x (Send p k i o) b t w = w
put_well c x (Write p k i o) b t w = w
put_well c x (Resume p o) b t w = w
put_well c x (Stale k) b t w = w

-- what must be is set once

gives_exact : (c : Conf) (v : Via) (s p : ℕ) (t : Loads) → (gives c v s p t).exact ≡ t.exact
gives_exact c Dgram s p t = refl
gives_exact c Stream s p t = refl

takes_exact : (c : Conf) (v : Via) (s p : ℕ) (t : Loads) → (takes c v s p t).exact ≡ t.exact
takes_exact c Dgram s p t = refl
takes_exact c Stream s p t = refl

all_exact : (c : Conf) (k : ℕ) (xs : List Started) (t : Loads) → (goes_from_all c k xs t).exact ≡ t.exact
all_exact c k [] t = refl
all_exact c k (x ∷ xs) t = all_exact c k xs (goes_from c x.server k t)

fails_exact : (c : Conf) (p : ℕ) (o : Option Place) (t : Loads) → (fails c p o t).exact ≡ t.exact
fails_exact c p None t = refl
fails_exact c p (Some x) t = go x.stand
  where
    go : (z : Seen) → (fails_as c p x z t).exact ≡ t.exact
    go seen.Opening = takes_exact c x.via x.server p t
    go seen.Alive = refl
    go seen.Gone = refl

closes_exact : (c : Conf) (p : ℕ) (o : Option Place) (t : Loads) → (closes c p o t).exact ≡ t.exact
closes_exact c p None t = refl
closes_exact c p (Some x) t = takes_exact c x.via x.server p t

opens_exact : (c : Conf) (x : What) (v : Via) (s p : ℕ) (o : Option Place) (t : Loads) → (opens c x v s p o t).exact ≡ t.exact
opens_exact c x v s p (Some y) t = refl
opens_exact c x v s p None t = go (begun_stand x p)
  where
    go : (z : Seen) → (opens_as c v s p z t).exact ≡ t.exact
    go seen.Opening = gives_exact c v s p t
    go seen.Alive = gives_exact c v s p t
    go seen.Gone = refl

starts_exact : (c : Conf) (k s : ℕ) (v : Via) (r : Requests) (t : Loads) → (starts c k s v r t).exact ≡ t.exact
starts_exact c k s Dgram r t = go (waits_seen k r && not (started_seen k s Stream r))
  where
    go : (b : Bool) → (if b then waits_at c s k t else t).exact ≡ t.exact
    go true = refl
    go false = refl
starts_exact c k s Stream r t = refl

pub met_exact : (c : Conf) (w : What) (places : List (ℕ × Place)) (t : Loads) → (met c w places t).exact ≡ t.exact
met_exact c (OpenFailed p f) places t = fails_exact c p (entry_at p places) t
met_exact c (Opened p) places t = refl
met_exact c (Ask r) places t = refl
met_exact c (SendFailed p f) places t = refl
met_exact c (ShortSend p) places t = refl
met_exact c (Datagram p o) places t = refl
met_exact c (RecvFailed p f) places t = refl
met_exact c (Wrote p n) places t = refl
met_exact c (WriteFailed p f) places t = refl
met_exact c (Bytes p o) places t = refl
met_exact c (ReadFailed p f) places t = refl
met_exact c (Ended p) places t = refl
met_exact c Tick places t = refl

pub put_exact : (c : Conf) (x : What) (o : Out) (b : Books) (t : Loads) → (has_put c x o b t).exact ≡ t.exact
put_exact c x (OpenDgram p s) b t = opens_exact c x Dgram s p (entry_at p b.places) t
put_exact c x (OpenStream p s) b t = opens_exact c x Stream s p (entry_at p b.places) t
put_exact c x (Close p) b t = closes_exact c p (entry_at p b.places) t
put_exact c x (Start k s v) b t = starts_exact c k s v b.requests t
put_exact c x (Reply k m) b t = all_exact c k (listed k b.requests.starts) t
put_exact c x (Send p k i o) b t = refl
put_exact c x (Write p k i o) b t = refl
put_exact c x (Resume p o) b t = refl
put_exact c x (Stale k) b t = refl

-- what is done to places leaves requests, and the other way

takes_demand : (c : Conf) (v : Via) (s p : ℕ) (t : Loads) → (takes c v s p t).demand ≡ t.demand
takes_demand c Dgram s p t = refl
takes_demand c Stream s p t = refl

gives_demand : (c : Conf) (v : Via) (s p : ℕ) (t : Loads) → (gives c v s p t).demand ≡ t.demand
gives_demand c Dgram s p t = refl
gives_demand c Stream s p t = refl

fails_demand : (c : Conf) (p : ℕ) (o : Option Place) (t : Loads) → (fails c p o t).demand ≡ t.demand
fails_demand c p None t = refl
fails_demand c p (Some x) t = go x.stand
  where
    go : (z : Seen) → (fails_as c p x z t).demand ≡ t.demand
    go seen.Opening = takes_demand c x.via x.server p t
    go seen.Alive = refl
    go seen.Gone = refl

pub closes_demand : (c : Conf) (p : ℕ) (o : Option Place) (t : Loads) → (closes c p o t).demand ≡ t.demand
closes_demand c p None t = refl
closes_demand c p (Some x) t = takes_demand c x.via x.server p t

pub opens_demand : (c : Conf) (x : What) (v : Via) (s p : ℕ) (o : Option Place) (t : Loads) → (opens c x v s p o t).demand ≡ t.demand
opens_demand c x v s p (Some y) t = refl
opens_demand c x v s p None t = go (begun_stand x p)
  where
    go : (z : Seen) → (opens_as c v s p z t).demand ≡ t.demand
    go seen.Opening = gives_demand c v s p t
    go seen.Alive = gives_demand c v s p t
    go seen.Gone = refl

pub met_demand : (c : Conf) (w : What) (places : List (ℕ × Place)) (t : Loads) → (met c w places t).demand ≡ t.demand
met_demand c (OpenFailed p f) places t = fails_demand c p (entry_at p places) t
met_demand c (Opened p) places t = refl
met_demand c (Ask r) places t = refl
met_demand c (SendFailed p f) places t = refl
met_demand c (ShortSend p) places t = refl
met_demand c (Datagram p o) places t = refl
met_demand c (RecvFailed p f) places t = refl
met_demand c (Wrote p n) places t = refl
met_demand c (WriteFailed p f) places t = refl
met_demand c (Bytes p o) places t = refl
met_demand c (ReadFailed p f) places t = refl
met_demand c (Ended p) places t = refl
met_demand c Tick places t = refl

goes_there : (c : Conf) (u : Via) (s k : ℕ) (t : Loads) → places_of u (goes_from c s k t) ≡ places_of u t
goes_there c Dgram s k t = refl
goes_there c Stream s k t = refl

waits_there : (c : Conf) (u : Via) (s k : ℕ) (t : Loads) → places_of u (waits_at c s k t) ≡ places_of u t
waits_there c Dgram s k t = refl
waits_there c Stream s k t = refl

all_there : (c : Conf) (u : Via) (k : ℕ) (xs : List Started) (t : Loads) → places_of u (goes_from_all c k xs t) ≡ places_of u t
all_there c u k [] t = refl
all_there c u k (x ∷ xs) t = all_there c u k xs (goes_from c x.server k t) ∙ goes_there c u x.server k t

pub starts_places : (c : Conf) (u v : Via) (k s : ℕ) (b : Books) (t : Loads) → places_of u (starts c k s v b.requests t) ≡ places_of u t
starts_places c u Dgram k s b t = go (waits_seen k b.requests && not (started_seen k s Stream b.requests))
  where
    go : (d : Bool) → places_of u (if d then waits_at c s k t else t) ≡ places_of u t
    go true = waits_there c u s k t
    go false = refl
starts_places c u Stream k s b t = goes_there c u s k t

pub goes_places : (c : Conf) (u : Via) (k : ℕ) (b : Books) (t : Loads) → places_of u (goes_from_all c k (listed k b.requests.starts) t) ≡ places_of u t
goes_places c u k b t = all_there c u k (listed k b.requests.starts) t
