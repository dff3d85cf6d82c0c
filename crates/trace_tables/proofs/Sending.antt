-- After each event and each out what is kept of sends is what the definitions say.
use Rattle.std.proofs.Common.{◌≡◌, ℕ, suc, ◌==◌, ◌&&◌, Bool, true, false, Option, Some, None, List, [], ◌∷◌, refl, sym, ap, ◌∙◌}
use Rattle.std.specs.Prelude.{if◌then◌else◌}
use Rattle.number_table.specs.Entries.{entry_at}
use Rattle.client_request.specs.declared.event.{Event.Event, Out.Out, Via.TheVariants.Dgram}
use Rattle.client_request.specs.declared.event.Out.TheVariants.{Start, OpenDgram, OpenStream, Send, Write, Resume, Close, Stale, Reply}
use Rattle.right_trace.specs.Trace.{History, Came, Put}
use Rattle.right_trace.specs.{Time.now, Requests.same_via}
use Rattle.right_trace.specs.Places.{is_site, site}
use Rattle.right_trace.specs.Causes.{Try, Named, sends, last_try, named}
use Rattle.right_trace.specs.Orderly.{Sending, sending}
use Rattle.trace_tables.specs.declared.places.Place.{Place}
use Rattle.trace_tables.specs.declared.sends.{Sends.Sends, Sent.Sent, Tried.Tried}
use Rattle.trace_tables.specs.Lists.{adds, listed}
use Rattle.trace_tables.specs.Known.{Known as PlacesKnown, site_seen}
use Rattle.trace_tables.specs.Sends.{Known, tried_at, has_put, count_at, last_at, names_of, last_of}
use Rattle.trace_tables.proofs.Listing.{listed_adds}

never : {B : Type 0} (b : Bool) (x y : B) → y ≡ (if b && false then x else y)
never true x y = refl
never false x y = refl

-- a try is counted, and is the last
counted : (k s j p n : ℕ) (x : Option Place) (t : List (ℕ × List Tried)) (c : ℕ) → count_at s (listed k t) ≡ c
    → count_at s (listed k (tried_at j p n x t)) ≡ (if (j == k) && is_site Dgram s (site_seen x) then suc c else c)
counted k s j p n None t c e = e ∙ never (j == k) (suc c) c
counted k s j p n (Some x) t c e = go (same_via x.via Dgram)
  where
    here : (b : Bool) → count_at s (if b then record { server = x.server; place = p; moment = n } ∷ listed k t else listed k t) ≡ (if b && (x.server == s) then suc c else c)
    here true = ap (λ c. if x.server == s then suc c else c) e
    here false = e

    go : (b : Bool) → count_at s (listed k (if b then adds j (record { server = x.server; place = p; moment = n }) t else t)) ≡ (if (j == k) && (b && (x.server == s)) then suc c else c)
    go true = ap (count_at s) (listed_adds k j (record { server = x.server; place = p; moment = n }) t) ∙ here (j == k)
    go false = e ∙ never (j == k) (suc c) c

lasted : (k s j p n m : ℕ) (x : Option Place) (t : List (ℕ × List Tried)) (o : Option Try) → last_at s (listed k t) ≡ o → n ≡ m
    → last_at s (listed k (tried_at j p n x t)) ≡ (if (j == k) && is_site Dgram s (site_seen x) then Some (record { place = p; moment = m }) else o)
lasted k s j p n m None t o e same = e ∙ never (j == k) (Some (record { place = p; moment = m })) o
lasted k s j p n m (Some x) t o e same = go (same_via x.via Dgram)
  where
    here : (b : Bool) → last_at s (if b then record { server = x.server; place = p; moment = n } ∷ listed k t else listed k t) ≡ (if b && (x.server == s) then Some (record { place = p; moment = m }) else o)
    here true = ap (λ o. if x.server == s then Some (record { place = p; moment = n }) else o) e ∙ ap (λ n. if x.server == s then Some (record { place = p; moment = n }) else o) same
    here false = e

    go : (b : Bool) → last_at s (listed k (if b then adds j (record { server = x.server; place = p; moment = n }) t else t)) ≡ (if (j == k) && (b && (x.server == s)) then Some (record { place = p; moment = m }) else o)
    go true = ap (last_at s) (listed_adds k j (record { server = x.server; place = p; moment = n }) t) ∙ here (j == k)
    go false = e ∙ never (j == k) (Some (record { place = p; moment = m })) o

-- what was sent at a place
named_more : (p k q : ℕ) (x : Sent) (t : List (ℕ × List Sent)) (ns : List Named) → names_of k (listed p t) ≡ ns
    → names_of k (listed p (adds q x t)) ≡ (if (q == p) && (x.request == k) then record { id = x.id; octets = x.octets } ∷ ns else ns)
named_more p k q x t ns e = ap (names_of k) (listed_adds p q x t) ∙ go (q == p)
  where
    go : (b : Bool) → names_of k (if b then x ∷ listed p t else listed p t) ≡ (if b && (x.request == k) then record { id = x.id; octets = x.octets } ∷ ns else ns)
    go true = ap (λ ns. if x.request == k then record { id = x.id; octets = x.octets } ∷ ns else ns) e
    go false = e

sent_last : (p q : ℕ) (x : Sent) (m : ℕ) (t : List (ℕ × List Sent)) (o : Option Sending) → last_of (listed p t) ≡ o → x.moment ≡ m
    → last_of (listed p (adds q x t)) ≡ (if q == p then Some (record { request = x.request; moment = m }) else o)
sent_last p q x m t o e same = ap last_of (listed_adds p q x t) ∙ go (q == p)
  where
    go : (b : Bool) → last_of (if b then x ∷ listed p t else listed p t) ≡ (if b then Some (record { request = x.request; moment = m }) else o)
    go true = ap (λ m. Some (record { request = x.request; moment = m })) same
    go false = e

pub known_met : (h : History) (t : Sends) (e : Event) → Known h t → Known (Came e ∷ h) t
known_met h t e is = record { counts = is.counts; lasts = is.lasts; names = is.names; sendings = is.sendings }

pub known_put : (h : History) (places : List (ℕ × Place)) (n : ℕ) (t : Sends) (o : Out) → PlacesKnown h places → n ≡ now h → Known h t → Known (Put o ∷ h) (has_put o n places t)
known_put h places n t (Send q j i o) at time is = record {
  counts = λ k s. counted k s j q n (entry_at q places) t.tries (sends k s h) (is.counts k s)
      ∙ ap (λ x. if (j == k) && is_site Dgram s x then suc (sends k s h) else sends k s h) (at.sites q);
  lasts = λ k s. lasted k s j q n (now h) (entry_at q places) t.tries (last_try k s h) (is.lasts k s) time
      ∙ ap (λ x. if (j == k) && is_site Dgram s x then Some (record { place = q; moment = now h }) else last_try k s h) (at.sites q);
  names = λ p k. named_more p k q (record { request = j; id = i; octets = o; moment = n }) t.sent (named p k h) (is.names p k);
  sendings = λ p. sent_last p q (record { request = j; id = i; octets = o; moment = n }) (now h) t.sent (sending p h) (is.sendings p) time;
}
known_put h places n t (Start j s v) at time is = record { counts = is.counts; lasts = is.lasts; names = is.names; sendings = is.sendings }
known_put h places n t (OpenDgram p s) at time is = record { counts = is.counts; lasts = is.lasts; names = is.names; sendings = is.sendings }
known_put h places n t (OpenStream p s) at time is = record { counts = is.counts; lasts = is.lasts; names = is.names; sendings = is.sendings }
known_put h places n t (Write p j i o) at time is = record { counts = is.counts; lasts = is.lasts; names = is.names; sendings = is.sendings }
known_put h places n t (Resume p o) at time is = record { counts = is.counts; lasts = is.lasts; names = is.names; sendings = is.sendings }
known_put h places n t (Close p) at time is = record { counts = is.counts; lasts = is.lasts; names = is.names; sendings = is.sendings }
known_put h places n t (Stale j) at time is = record { counts = is.counts; lasts = is.lasts; names = is.names; sendings = is.sendings }
known_put h places n t (Reply j x) at time is = record { counts = is.counts; lasts = is.lasts; names = is.names; sendings = is.sendings }

pub known_nothing : Known [] (record { sent = []; tries = [] })
known_nothing = record { counts = λ k s. refl; lasts = λ k s. refl; names = λ p k. refl; sendings = λ p. refl }
