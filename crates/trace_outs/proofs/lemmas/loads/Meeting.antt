-- What is kept of servers goes on, and whether their places are met is what the definitions say.
use Rattle.std.proofs.Common.{◌≡◌, ℕ, suc, ◌<◌, ◌≤◌, ◌==◌, ◌&&◌, ◌||◌, not, min, max, Bool, true, false, List, [], ◌∷◌, length, Option, Some, None, if◌then◌else◌, refl, sym, ap, ap₂, ◌∙◌, subst, arith, cond, nat_cmp, is_eq}
use Rattle.std.specs.Prelude.{is_some, nat_le}
use Rattle.std.proofs.lemmas.Bool.Decides.{nat_tests}
use Rattle.number_table.specs.Entries.{entry_at}
use Rattle.client_request.specs.declared.event.{Event.Event, What.What, Out.Out, Via.Via}
use Rattle.client_request.specs.declared.event.Out.TheVariants.{Start, OpenDgram, OpenStream, Send, Write, Resume, Close, Stale, Reply}
use Rattle.client_request.specs.declared.event.Via.TheVariants.{Dgram, Stream}
use Rattle.right_trace.specs.Trace.{History, Came, Put, Conf}
use Rattle.right_trace.specs.Time.{now, newest, max_places}
use Rattle.right_trace.specs.Requests.{asking, asking_of, asks, is_ask, waits}
use Rattle.right_trace.specs.Places.{Site, site, site_on, opens_as, is_at, is_site, stand, is_live, reach, reach_of, live, demand}
use Rattle.right_trace.specs.Settings.{Settings, defers_nothing}
use Rattle.right_trace.specs.Orderly.{PlacesAreMet}
use Rattle.trace_tables.specs.declared.books.Books.{Books}
use Rattle.trace_tables.specs.declared.places.Place.{Place}
use Rattle.trace_tables.specs.Tables as tables
use Rattle.trace_tables.specs.Known as places_seen
use Rattle.trace_tables.specs.Known.{site_seen, stand_seen}
use Rattle.trace_tables.specs.Books as books
use Rattle.trace_tables.proofs.Keeping as keeping
use Rattle.trace_points.specs.exchanges.Asked.{AskedFirst}
use Rattle.trace_points.proofs.lemmas.questions.Deciding.{both, all}
use Rattle.trace_tables.specs.sets.Sets.{Members, has, size, AreSets, Holds}
use Rattle.trace_tables.proofs.lemmas.sets.Keeping as sets
use Rattle.trace_outs.specs.declared.loads.loads.Loads.{Loads}
use Rattle.trace_outs.specs.loads.Loads.{Known, GoesOn, TellsMet, nothing, are_met, met_at, are_all_met, met, has_put, places_of, is_wanting}
use Rattle.trace_outs.proofs.lemmas.loads.Placing.{Follows, live_at, met_so, begun_so, closed_so}
use Rattle.trace_outs.proofs.lemmas.loads.Wanting.{event_wants, dgram_wants, stream_wants, reply_wants}
use Rattle.trace_outs.proofs.lemmas.loads.Balancing.{Well, sets_of, nothing_well, met_well, put_well, met_exact, put_exact, met_demand, opens_demand, closes_demand, starts_places, goes_places}

-- what is known makes up three parts

followed : (c : Conf) (h : History) (places : List (ℕ × Place)) (t : Loads) → places_seen.Known h places → Known c h t → Follows places t
followed c h places t at is = record { so = λ u k q. is.places u k q ∙ sym (ap₂ (λ a b. is_site u k a && is_live b) (at.sites q) (at.stands q)) }

is_well : (c : Conf) (h : History) (t : Loads) → Known c h t → Well c t
is_well c h t is = record { dgrams = is.sets Dgram; streams = is.sets Stream; demand = is.demand; unmet = is.unmet; rise = is.rise }

makes : (c : Conf) (h : History) (places : List (ℕ × Place)) (t : Loads) → places_seen.Known h places → Follows places t → ((s k : ℕ) → has s k t.demand ≡ is_wanting s k h) → Well c t → Known c h t
makes c h places t at f wants w = record {
  places = λ u k q. f.so u k q ∙ ap₂ (λ a b. is_site u k a && is_live b) (at.sites q) (at.stands q);
  wants = wants;
  sets = sets_of c t w;
  demand = w.demand;
  unmet = w.unmet;
  rise = w.rise;
}

-- the requests that wait are not touched by what is done to places
module _ (c : Conf) (t : Loads) where
  none_asked : (w : What) (places : List (ℕ × Place)) → (met c w places t).demand ≡ t.demand
  none_asked w places = met_demand c w places t

event : (c : Conf) (h : History) (b : Books) (t : Loads) (e : Event) → AskedFirst h → books.Known h b → Known c h t → Known c (Came e ∷ h) (met c e.what b.places t)
event c h b t e first kb is =
    makes c (Came e ∷ h) (tables.met e.what b.places) (met c e.what b.places t)
    (keeping.goes_on.event h b e kb).places
    (met_so c b.places t (followed c h b.places t kb.places is) is.sets e.what)
    (λ s k. ap (has s k) (none_asked c t e.what b.places) ∙ (is.wants s k ∙ event_wants s k h e first))
    (met_well c e.what b.places t (is_well c h t is))

out : (c : Conf) (h : History) (b : Books) (t : Loads) (o : Out) → books.Known h b → Known c h t → Known c (Put o ∷ h) (has_put c (newest h) o b t)
out c h b t o kb is = go o ((keeping.goes_on.out h b o kb).places) (put_well c (newest h) o b t (is_well c h t is))
  where
    f : Follows b.places t
    f = followed c h b.places t kb.places is

    go : (o : Out) → places_seen.Known (Put o ∷ h) (tables.has_put (newest h) o b.places) → Well c (has_put c (newest h) o b t) → Known c (Put o ∷ h) (has_put c (newest h) o b t)
    go (OpenDgram p s) at w = makes c (Put (OpenDgram p s) ∷ h) (tables.has_put (newest h) (OpenDgram p s) b.places) (has_put c (newest h) (OpenDgram p s) b t) at (begun_so c b.places t (followed c h b.places t kb.places is) p (newest h) Dgram s (entry_at p b.places) refl) (λ i k. ap (has i k) (opens_demand c (newest h) Dgram s p (entry_at p b.places) t) ∙ is.wants i k) w
    go (OpenStream p s) at w = makes c (Put (OpenStream p s) ∷ h) (tables.has_put (newest h) (OpenStream p s) b.places) (has_put c (newest h) (OpenStream p s) b t) at (begun_so c b.places t (followed c h b.places t kb.places is) p (newest h) Stream s (entry_at p b.places) refl) (λ i k. ap (has i k) (opens_demand c (newest h) Stream s p (entry_at p b.places) t) ∙ is.wants i k) w
    go (Close p) at w = makes c (Put (Close p) ∷ h) (tables.has_put (newest h) (Close p) b.places) (has_put c (newest h) (Close p) b t) at (closed_so c b.places t (followed c h b.places t kb.places is) p is.sets (entry_at p b.places) refl) (λ i k. ap (has i k) (closes_demand c p (entry_at p b.places) t) ∙ is.wants i k) w
    go (Start j s v) at w = makes c (Put (Start j s v) ∷ h) b.places (has_put c (newest h) (Start j s v) b t) at (record { so = λ u k q. ap (has k q) (starts_places c u v j s b t) ∙ (followed c h b.places t kb.places is).so u k q }) (started v) w
      where
        started : (v : Via) (i k : ℕ) → has i k (has_put c (newest h) (Start j s v) b t).demand ≡ is_wanting i k (Put (Start j s v) ∷ h)
        started Dgram i k = dgram_wants c h b.requests t kb.requests is.wants is.demand j s i k
        started Stream i k = stream_wants c h b.requests t kb.requests is.wants is.demand j s i k
    go (Reply j x) at w = makes c (Put (Reply j x) ∷ h) b.places (has_put c (newest h) (Reply j x) b t) at (record { so = λ u k q. ap (has k q) (goes_places c u j b t) ∙ (followed c h b.places t kb.places is).so u k q }) (λ s k. reply_wants c h b.requests t kb.requests is.wants is.demand j s k) w
    go (Send p k i m) at w = makes c (Put (Send p k i m) ∷ h) b.places t at (record { so = (followed c h b.places t kb.places is).so }) is.wants w
    go (Write p k i m) at w = makes c (Put (Write p k i m) ∷ h) b.places t at (record { so = (followed c h b.places t kb.places is).so }) is.wants w
    go (Resume p m) at w = makes c (Put (Resume p m) ∷ h) b.places t at (record { so = (followed c h b.places t kb.places is).so }) is.wants w
    go (Stale k) at w = makes c (Put (Stale k) ∷ h) b.places t at (record { so = (followed c h b.places t kb.places is).so }) is.wants w

pub goes_on : (c : Conf) → GoesOn c
goes_on c = record {
  begins = λ exact. begin exact;
  event = event c;
  out = out c;
  exact = λ w b t o. (met_exact c w b.places t, put_exact c w o b t);
}
  where
    begin : (exact : Bool) → Known c [] (nothing exact)
    begin exact = (let w = nothing_well c exact in record { places = none exact; wants = λ s k. refl; sets = sets_of c (nothing exact) w; demand = w.demand; unmet = w.unmet; rise = w.rise })
      where
        none : (exact : Bool) (v : Via) (s p : ℕ) → has s p (places_of v (nothing exact)) ≡ (is_at v s p [] && is_live (stand p []))
        none exact Dgram s p = refl
        none exact Stream s p = refl

-- numbers of places and of requests

most : (a b n : ℕ) → n < b → n < max a b
most a b n lt = grind (arith, nat_tests)

first : (p n : ℕ) → p < max (suc p) n
first p n = grind (arith, nat_tests)

same_number : (a b : ℕ) → (a == b) ≡ true → a ≡ b
same_number a b e = grind (arith, nat_tests)

opened_below : (p : ℕ) (h : History) → is_some (site p h) ≡ true → p < reach h
opened_below p [] e = absurd (cc)
opened_below p (Came x ∷ h) e = opened_below p h e
opened_below p (Put o ∷ h) e = go o (opened_below p h) e
  where
    begun : (v : Via) (q s : ℕ) → (is_some (site p h) ≡ true → p < reach h) → (b : Bool) → (q == p) ≡ b → is_some (if b then opens_as v s (site p h) else site p h) ≡ true → p < max (suc q) (reach h)
    begun v q s rest true i e = subst (λ (q : ℕ). p < max (suc q) (reach h)) (sym (same_number q p i)) (first p (reach h))
    begun v q s rest false i e = most (suc q) (reach h) p (rest e)

    go : (o : Out) → (is_some (site p h) ≡ true → p < reach h) → is_some (site_on p o (site p h)) ≡ true → p < reach_of o (reach h)
    go (OpenDgram q s) rest e = begun Dgram q s rest (q == p) refl e
    go (OpenStream q s) rest e = begun Stream q s rest (q == p) refl e
    go (Start k s v) rest e = rest e
    go (Send q k i m) rest e = rest e
    go (Write q k i m) rest e = rest e
    go (Resume q m) rest e = rest e
    go (Close q) rest e = rest e
    go (Stale k) rest e = rest e
    go (Reply k x) rest e = rest e

pub asked_below : (k : ℕ) (h : History) → is_some (asking k h) ≡ true → k < asks h
asked_below k [] e = absurd (cc)
asked_below k (Put o ∷ h) e = asked_below k h e
asked_below k (Came x ∷ h) e = go (asked_below k h) (is_ask x.what) (asks h == k) refl e
  where
    is : (n k : ℕ) → (n == k) ≡ true → k < suc n
    is n k i = grind (arith, nat_tests)

    more : (n k : ℕ) → k < n → k < suc n
    more n k lt = omega arith

    go : (is_some (asking k h) ≡ true → k < asks h) → (a b : Bool) → (asks h == k) ≡ b → is_some (if a && b then asking_of x.what (max x.moment.0 (now h)) else asking k h) ≡ true → k < (if a then suc (asks h) else asks h)
    go rest true true i e = is (asks h) k i
    go rest true false i e = more (asks h) k (rest e)
    go rest false b i e = rest e

is_sited : (v : Via) (s : ℕ) (o : Option Site) → is_site v s o ≡ true → is_some o ≡ true
is_sited v s None e = e
is_sited v s (Some x) e = refl

pub dgrams_held : (c : Conf) (s : ℕ) (h : History) (t : Loads) → Known c h t → Holds s (reach h) (λ p. is_at Dgram s p h && is_live (stand p h)) t.dgrams
dgrams_held c s h t is = record {
  same = is.places Dgram s;
  below = λ p e. opened_below p h (is_sited Dgram s (site p h) (both (is_at Dgram s p h) _ e).0);
}

pub live_is : (c : Conf) (s : ℕ) (h : History) (t : Loads) → Known c h t → size s t.dgrams ≡ live s h
live_is c s h t is = sets.goes_on.counted s (reach h) (λ p. is_at Dgram s p h && is_live (stand p h)) t.dgrams (is.sets Dgram) (dgrams_held c s h t is)

pub demand_is : (c : Conf) (s : ℕ) (h : History) (t : Loads) → Known c h t → size s t.demand ≡ demand s h
demand_is c s h t is = sets.goes_on.counted s (asks h) (λ k. is_wanting s k h) t.demand is.demand (record {
  same = is.wants s;
  below = λ k e. asked_below k h (both (is_some (asking k h)) _ (both (waits k h) _ e).0).0;
})

-- where they are met

met_numbers : (c : Conf) (b : Bool) (l n : ℕ) → are_met c b l n ≡ true → (l ≤ min (max_places c) n) × (b ≡ true → l ≡ min (max_places c) n)
met_numbers c b l n e = (let q = both (nat_le l (min (max_places c) n)) _ e in (le l (min (max_places c) n) q.0, λ i. equal b l (min (max_places c) n) i q.1))
  where
    le : (l m : ℕ) → nat_le l m ≡ true → l ≤ m
    le l m e = grind (arith, nat_tests)

    equal : (b : Bool) (l m : ℕ) → b ≡ true → (not b || (l == m)) ≡ true → l ≡ m
    equal true l m i e = same_number l m e
    equal false l m i e = absurd (cc)

numbers_met : (c : Conf) (b : Bool) (l n : ℕ) → l ≤ min (max_places c) n → (b ≡ true → l ≡ min (max_places c) n) → are_met c b l n ≡ true
numbers_met c b l n le e = all (nat_le l (min (max_places c) n)) _ (less l (min (max_places c) n) le) (go b e)
  where
    less : (l m : ℕ) → l ≤ m → nat_le l m ≡ true
    less l m le = grind (arith, nat_tests)

    equal : (l m : ℕ) → l ≡ m → (l == m) ≡ true
    equal l m e = grind (arith, nat_tests)

    go : (b : Bool) → (b ≡ true → l ≡ min (max_places c) n) → (not b || (l == min (max_places c) n)) ≡ true
    go true e = equal l (min (max_places c) n) (e refl)
    go false e = refl

all_so : (es : Members) → (length es == 0) ≡ true → (s : ℕ) → is_some (entry_at s es) ≡ false
all_so [] e s = refl
all_so (d ∷ es) e s = absurd (some (length es) e)
  where
    some : (n : ℕ) → (suc n == 0) ≡ true → ⊥
    some n e = grind (arith, nat_tests)

so_all : (es : Members) → ((s : ℕ) → is_some (entry_at s es) ≡ false) → (length es == 0) ≡ true
so_all [] none = refl
so_all (d ∷ es) none = absurd (let z : true ≡ false = sym (ap (λ b. is_some (cond b (Some d.1) (entry_at d.0 es))) (equal d.0)) ∙ none d.0 in cc)
  where
    equal : (a : ℕ) → is_eq (nat_cmp a a) ≡ true
    equal a = grind (arith, nat_tests)

not_false : (b : Bool) → not b ≡ false → b ≡ true
not_false true e = refl
not_false false e = absurd (cc)

pub tells_met : (t : Loads) (b : Bool) → b ≡ are_all_met t → TellsMet t b
tells_met t b e c s h exact is = (so, back)
  where
    so : b ≡ true → PlacesAreMet c s h
    so u i =
        let m : met_at c i t ≡ true = not_false (met_at c i t) (sym (is.unmet i) ∙ all_so t.unmet (sym e ∙ u) i) in
        let q = met_numbers c t.exact (size i t.dgrams) (size i t.demand) m in (
          subst (λ (l : ℕ). l ≤ min (max_places c) (demand i h)) (live_is c i h t is) (subst (λ (n : ℕ). size i t.dgrams ≤ min (max_places c) n) (demand_is c i h t is) q.0),
          λ d. sym (live_is c i h t is) ∙ (q.1 (exact ∙ d) ∙ ap (min (max_places c)) (demand_is c i h t is)),
        )

    back : PlacesAreMet c s h → b ≡ true
    back f = e ∙ so_all t.unmet (λ i.
        is.unmet i ∙ ap not (numbers_met c t.exact (size i t.dgrams) (size i t.demand)
        (subst (λ (l : ℕ). l ≤ min (max_places c) (size i t.demand)) (sym (live_is c i h t is)) (subst (λ (n : ℕ). live i h ≤ min (max_places c) n) (sym (demand_is c i h t is)) (f i).0))
        (λ x. live_is c i h t is ∙ ((f i).1 (sym exact ∙ x) ∙ ap (min (max_places c)) (sym (demand_is c i h t is))))))
