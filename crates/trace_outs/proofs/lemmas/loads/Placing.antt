-- The live places of servers follow the table of places.
use Rattle.std.proofs.Common.{◌≡◌, ℕ, ◌==◌, ◌&&◌, ◌||◌, not, Bool, true, false, if◌then◌else◌, List, Option, Some, None, refl, sym, ap, ap₂, ◌∙◌, arith}
use Rattle.std.proofs.lemmas.Bool.Decides.{nat_tests}
use Rattle.number_table.specs.Entries.{puts, entry_at}
use Rattle.client_request.specs.declared.event.{What.What, Via.Via}
use Rattle.client_request.specs.declared.event.What.TheVariants.{Ask, Opened, OpenFailed, SendFailed, ShortSend, Datagram, RecvFailed, Wrote, WriteFailed, Bytes, ReadFailed, Ended, Tick}
use Rattle.client_request.specs.declared.event.Via.TheVariants.{Dgram, Stream}
use Rattle.right_trace.specs.{Requests.same_via, Trace.Conf}
use Rattle.right_trace.specs.Places.{is_site, is_live}
use Rattle.trace_tables.specs.declared.places.{Place.Place, Stand.Stand as Seen}
use Rattle.trace_tables.specs.declared.places.Stand.TheVariants as seen
use Rattle.trace_tables.specs.Tables as tables
use Rattle.trace_tables.specs.Known.{stand_of, stand_seen, site_seen}
use Rattle.trace_tables.proofs.Tables.{at_puts}
use Rattle.trace_tables.specs.sets.Sets.{has, joins, leaves, AreSets}
use Rattle.trace_tables.proofs.lemmas.sets.Keeping.{goes_on}
use Rattle.trace_outs.specs.declared.loads.loads.Loads.{Loads}
use Rattle.trace_outs.specs.loads.Loads.{gives, takes, fails_as, fails, closes, opens_as, opens, met, places_of}

-- what an entry says of a place: it is live, of this kind and of this server
abbrev pub live_at : Via → (s : ℕ) → Option Place → Bool
live_at v s o = is_site v s (site_seen o) && is_live (stand_seen o)

pub record Follows (places : List (ℕ × Place)) (t : Loads) : Type 0 where
  pub so : (u : Via) (k q : ℕ) → has k q (places_of u t) ≡ live_at u k (entry_at q places)

gave : (c : Conf) (v u : Via) (s p k q : ℕ) (t : Loads) → has k q (places_of u (gives c v s p t)) ≡ ((same_via v u && (s == k && p == q)) || has k q (places_of u t))
gave c Dgram Dgram s p k q t = goes_on.joined s p k q t.dgrams
gave c Dgram Stream s p k q t = refl
gave c Stream Dgram s p k q t = refl
gave c Stream Stream s p k q t = goes_on.joined s p k q t.streams

took : (c : Conf) (v u : Via) (s p k q : ℕ) (t : Loads) → AreSets (places_of v t) → has k q (places_of u (takes c v s p t)) ≡ (not (same_via v u && (s == k && p == q)) && has k q (places_of u t))
took c Dgram Dgram s p k q t are = goes_on.left s p k q t.dgrams are
took c Dgram Stream s p k q t are = refl
took c Stream Dgram s p k q t are = refl
took c Stream Stream s p k q t are = goes_on.left s p k q t.streams are

is_equal : (p q : ℕ) → (p == q) ≡ true → p ≡ q
is_equal p q e = grind (arith, nat_tests)

-- one entry
same_entry : (p q : ℕ) (places : List (ℕ × Place)) (o : Option Place) → (p == q) ≡ true → entry_at p places ≡ o → entry_at q places ≡ o
same_entry p q places o i e = sym (ap (λ (n : ℕ). entry_at n places) (is_equal p q i)) ∙ e

gone : (a b l : Bool) → (not (a && (b && true)) && ((a && b) && l)) ≡ ((a && b) && false)
gone true true l = refl
gone true false l = refl
gone false b l = refl

not_here : (a b z : Bool) → (not (a && (b && false)) && z) ≡ z
not_here true true z = refl
not_here true false z = refl
not_here false b z = refl

come : (a b : Bool) → ((a && (b && true)) || false) ≡ ((a && b) && true)
come true true = refl
come true false = refl
come false b = refl

not_come : (a b z : Bool) → ((a && (b && false)) || z) ≡ z
not_come true true z = refl
not_come true false z = refl
not_come false b z = refl

none_live : (a b : Bool) → false ≡ ((a && b) && false)
none_live true true = refl
none_live true false = refl
none_live false b = refl

module _ (c : Conf) (places : List (ℕ × Place)) (t : Loads) (f : Follows places t) (p : ℕ) where
  takes_so : (x : Place) → AreSets (places_of x.via t) → entry_at p places ≡ Some x → Follows (puts p (record x { stand = seen.Gone }) places) (takes c x.via x.server p t)
  takes_so x are e = record { so = λ u k q. took c x.via u x.server p k q t are ∙ (go u k q (p == q) refl ∙ ap (live_at u k) (sym (at_puts p (record x { stand = seen.Gone }) q places))) }
    where
      go : (u : Via) (k q : ℕ) (b : Bool) → (p == q) ≡ b → (not (same_via x.via u && (x.server == k && b)) && has k q (places_of u t)) ≡ live_at u k (if b then Some (record x { stand = seen.Gone }) else entry_at q places)
      go u k q true i = ap (λ z. not (same_via x.via u && (x.server == k && true)) && z) (f.so u k q ∙ ap (live_at u k) (same_entry p q places (Some x) i e)) ∙ gone (same_via x.via u) (x.server == k) (is_live (stand_of x.stand))
      go u k q false i = not_here (same_via x.via u) (x.server == k) (has k q (places_of u t)) ∙ f.so u k q

  gives_so : (y : Place) → entry_at p places ≡ None → is_live (stand_of y.stand) ≡ true → Follows (puts p y places) (gives c y.via y.server p t)
  gives_so y e l = record { so = λ u k q. gave c y.via u y.server p k q t ∙ (go u k q (p == q) refl ∙ ap (live_at u k) (sym (at_puts p y q places))) }
    where
      go : (u : Via) (k q : ℕ) (b : Bool) → (p == q) ≡ b → ((same_via y.via u && (y.server == k && b)) || has k q (places_of u t)) ≡ live_at u k (if b then Some y else entry_at q places)
      go u k q true i =
          ap (λ z. (same_via y.via u && (y.server == k && true)) || z) (f.so u k q ∙ ap (live_at u k) (same_entry p q places None i e))
          ∙ (come (same_via y.via u) (y.server == k) ∙ ap (λ z. (same_via y.via u && (y.server == k)) && z) (sym l))
      go u k q false i = not_come (same_via y.via u) (y.server == k) (has k q (places_of u t)) ∙ f.so u k q

  -- an entry that is not live, in place of none
  gone_so : (y : Place) → entry_at p places ≡ None → y.stand ≡ seen.Gone → Follows (puts p y places) t
  gone_so y e d = record { so = λ u k q. f.so u k q ∙ (go u k q (p == q) refl ∙ ap (live_at u k) (sym (at_puts p y q places))) }
    where
      go : (u : Via) (k q : ℕ) (b : Bool) → (p == q) ≡ b → live_at u k (entry_at q places) ≡ live_at u k (if b then Some y else entry_at q places)
      go u k q true i =
          ap (live_at u k) (same_entry p q places None i e)
          ∙ (none_live (same_via y.via u) (y.server == k) ∙ ap (λ (z : Seen). (same_via y.via u && (y.server == k)) && is_live (stand_of z)) (sym d))
      go u k q false i = refl

  alive_so : (x : Place) → entry_at p places ≡ Some x → x.stand ≡ seen.Opening → Follows (puts p (record x { stand = seen.Alive }) places) t
  alive_so x e d = record { so = λ u k q. f.so u k q ∙ (go u k q (p == q) refl ∙ ap (live_at u k) (sym (at_puts p (record x { stand = seen.Alive }) q places))) }
    where
      go : (u : Via) (k q : ℕ) (b : Bool) → (p == q) ≡ b → live_at u k (entry_at q places) ≡ live_at u k (if b then Some (record x { stand = seen.Alive }) else entry_at q places)
      go u k q true i =
          ap (live_at u k) (same_entry p q places (Some x) i e)
          ∙ ap (λ (z : Seen). (same_via x.via u && (x.server == k)) && is_live (stand_of z)) d
      go u k q false i = refl

  -- what events and outs do
  opened_so : (o : Option Place) → entry_at p places ≡ o → Follows (tables.settles seen.Alive p o places) t
  opened_so None e = f
  opened_so (Some x) e = go x.stand refl
    where
      go : (z : Seen) → x.stand ≡ z → Follows (tables.settled seen.Alive p x z places) t
      go seen.Opening d = alive_so x e d
      go seen.Alive d = f
      go seen.Gone d = f

  failed_so : ((v : Via) → AreSets (places_of v t)) → (o : Option Place) → entry_at p places ≡ o → Follows (tables.settles seen.Gone p o places) (fails c p o t)
  failed_so are None e = f
  failed_so are (Some x) e = go x.stand refl
    where
      go : (z : Seen) → x.stand ≡ z → Follows (tables.settled seen.Gone p x z places) (fails_as c p x z t)
      go seen.Opening d = takes_so x (are x.via) e
      go seen.Alive d = f
      go seen.Gone d = f

  pub closed_so : ((v : Via) → AreSets (places_of v t)) → (o : Option Place) → entry_at p places ≡ o → Follows (tables.closes p o places) (closes c p o t)
  closed_so are None e = f
  closed_so are (Some x) e = takes_so x (are x.via) e

  pub begun_so : (w : What) (v : Via) (s : ℕ) (o : Option Place) → entry_at p places ≡ o → Follows (tables.opens w v s p o places) (opens c w v s p o t)
  begun_so w v s (Some x) e = f
  begun_so w v s None e = go (tables.begun_stand w p) refl
    where
      go : (z : Seen) → tables.begun_stand w p ≡ z → Follows (puts p (record { via = v; server = s; stand = tables.begun_stand w p }) places) (opens_as c v s p z t)
      go seen.Opening d = gives_so (record { via = v; server = s; stand = tables.begun_stand w p }) e (ap (λ (z : Seen). is_live (stand_of z)) d)
      go seen.Alive d = gives_so (record { via = v; server = s; stand = tables.begun_stand w p }) e (ap (λ (z : Seen). is_live (stand_of z)) d)
      go seen.Gone d = gone_so (record { via = v; server = s; stand = tables.begun_stand w p }) e d

pub met_so : (c : Conf) (places : List (ℕ × Place)) (t : Loads) → Follows places t → ((v : Via) → AreSets (places_of v t)) → (w : What) → Follows (tables.met w places) (met c w places t)
met_so c places t f are (Opened p) = opened_so c places t f p (entry_at p places) refl
met_so c places t f are (OpenFailed p g) = failed_so c places t f p are (entry_at p places) refl
met_so c places t f are (Ask r) = f
met_so c places t f are (SendFailed p g) = f
met_so c places t f are (ShortSend p) = f
met_so c places t f are (Datagram p o) = f
met_so c places t f are (RecvFailed p g) = f
met_so c places t f are (Wrote p n) = f
met_so c places t f are (WriteFailed p g) = f
met_so c places t f are (Bytes p o) = f
met_so c places t f are (ReadFailed p g) = f
met_so c places t f are (Ended p) = f
met_so c places t f are Tick = f
