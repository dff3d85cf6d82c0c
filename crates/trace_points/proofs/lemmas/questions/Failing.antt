-- A failed opening is a cause just where the pass says so.
use Rattle.std.proofs.Common.{◌≡◌, ℕ, ◌==◌, ◌&&◌, Bool, true, false, ◌⊎◌, inl, inr, Option, Some, None, refl, sym, ap, ◌∙◌, subst, arith}
use Rattle.std.specs.Prelude.{if◌then◌else◌, is_some}
use Rattle.std.proofs.lemmas.Bool.Decides.{nat_tests}
use Rattle.number_table.specs.Entries.{entry_at}
use Rattle.client_request.specs.declared.fault.Fault.{Fault}
use Rattle.client_request.specs.declared.event.{What.What, Via.TheVariants.Dgram}
use Rattle.client_request.specs.declared.event.What.TheVariants.{Ask, Opened, OpenFailed, SendFailed, ShortSend, Datagram, RecvFailed, Wrote, WriteFailed, Bytes, ReadFailed, Ended, Tick}
use Rattle.right_trace.specs.Trace.{History}
use Rattle.right_trace.specs.Requests.{same_via, started}
use Rattle.right_trace.specs.Places.{is_site, is_at, Unused, Opening, Gone}
use Rattle.right_trace.specs.Causes.{FailedToOpen, WasOpening}
use Rattle.trace_tables.specs.declared.places.{Place.Place, Stand.Stand as Seen}
use Rattle.trace_tables.specs.declared.places.Stand.TheVariants as seen
use Rattle.trace_tables.specs.declared.requests.Requests.{Requests}
use Rattle.trace_tables.specs.Tables.{Table}
use Rattle.trace_tables.specs.Known.{Known, stand_of, stand_seen, site_seen}
use Rattle.trace_tables.specs.Requests.{Known as Asked, started_seen}
use Rattle.trace_points.specs.questions.Causes.{is_opening, was_opening, is_blamed, fault_at, opening_fault}

place_in : What → ℕ
place_in (OpenFailed p f) = p
place_in _ = 0

was_seen : (o : Option Place) (x : Seen) → was_opening o x ≡ true → (stand_seen o ≡ Opening) ⊎ ((stand_seen o ≡ Unused) × (stand_of x ≡ Gone))
was_seen None seen.Opening e = absurd (cc)
was_seen None seen.Alive e = absurd (cc)
was_seen None seen.Gone e = inr (refl, refl)
was_seen (Some place) x e = inl (go place.stand e)
  where
    go : (y : Seen) → is_opening y ≡ true → stand_of y ≡ Opening
    go seen.Opening e = refl
    go seen.Alive e = absurd (cc)
    go seen.Gone e = absurd (cc)

seen_was : (o : Option Place) (x : Seen) → (stand_seen o ≡ Opening) ⊎ ((stand_seen o ≡ Unused) × (stand_of x ≡ Gone)) → was_opening o x ≡ true
seen_was None x (inl e) = absurd (cc)
seen_was None seen.Opening (inr e) = absurd (let z = e.1 in cc)
seen_was None seen.Alive (inr e) = absurd (let z = e.1 in cc)
seen_was None seen.Gone (inr e) = refl
seen_was (Some place) x (inl e) = go place.stand e
  where
    go : (y : Seen) → stand_of y ≡ Opening → is_opening y ≡ true
    go seen.Opening e = refl
    go seen.Alive e = absurd (cc)
    go seen.Gone e = absurd (cc)
seen_was (Some place) x (inr e) = absurd (go place.stand e.0)
  where
    go : (y : Seen) → stand_of y ≡ Unused → ⊥
    go seen.Opening e = absurd (cc)
    go seen.Alive e = absurd (cc)
    go seen.Gone e = absurd (cc)

both : (a b : Bool) → (a && b) ≡ true → (a ≡ true) × (b ≡ true)
both true true e = (refl, refl)
both true false e = absurd (cc)
both false b e = absurd (cc)

all_three : (a b c : Bool) → a ≡ true → b ≡ true → c ≡ true → (a && (b && c)) ≡ true
all_three a b c e f g = ap (λ a. a && (b && c)) e ∙ (ap (λ b. b && c) f ∙ g)

module _ (past h : History) (tp th : Table) (r : Requests) (k : ℕ) (kp : Known past tp) (kh : Known h th) (kr : Asked h r) where
  blamed : (p : ℕ) (f : Fault) (x : Place) → entry_at p th ≡ Some x → is_blamed k r (entry_at p tp) x ≡ true → FailedToOpen k f past (OpenFailed p f) h
  blamed p f x e so =
      let a = both (was_opening (entry_at p tp) x.stand) (same_via x.via Dgram && started_seen k x.server Dgram r) so in
      let b = both (same_via x.via Dgram) (started_seen k x.server Dgram r) a.1 in
      record {
        place = p;
        server = x.server;
        told = refl;
        was = was_there p x e (was_seen (entry_at p tp) x.stand a.0);
        at = ap (is_site Dgram x.server) (sym (kh.sites p) ∙ ap site_seen e) ∙ (ap (λ b. b && (x.server == x.server)) b.0 ∙ same x.server);
        has_it = ap is_some (sym (kr.starts k x.server Dgram)) ∙ b.1;
      }
    where
      same : (n : ℕ) → (n == n) ≡ true
      same n = grind (arith, nat_tests)

      was_there : (p : ℕ) (x : Place) → entry_at p th ≡ Some x → (stand_seen (entry_at p tp) ≡ Opening) ⊎ ((stand_seen (entry_at p tp) ≡ Unused) × (stand_of x.stand ≡ Gone)) → WasOpening p past h
      was_there p x e (inl z) = inl (sym (kp.stands p) ∙ z)
      was_there p x e (inr z) = inr (sym (kp.stands p) ∙ z.0, sym (kh.stands p) ∙ (ap stand_seen e ∙ z.1))

  told_so : (p : ℕ) (f g : Fault) (o : Option Place) → entry_at p th ≡ o → fault_at k r f (entry_at p tp) o ≡ Some g → FailedToOpen k g past (OpenFailed p f) h
  told_so p f g None e so = absurd (cc)
  told_so p f g (Some x) e so = go (is_blamed k r (entry_at p tp) x) refl so
    where
      go : (b : Bool) → is_blamed k r (entry_at p tp) x ≡ b → (if b then Some f else None) ≡ Some g → FailedToOpen k g past (OpenFailed p f) h
      go true i so = let same : f ≡ g = cc in subst (λ (g : Fault). FailedToOpen k g past (OpenFailed p f) h) same (blamed p f x e i)
      go false i so = absurd (cc)

  so_told : (p : ℕ) (f : Fault) (o : Option Place) → entry_at p th ≡ o → (s : ℕ) → WasOpening p past h → is_at Dgram s p h ≡ true → started k s Dgram h ≡ true → fault_at k r f (entry_at p tp) o ≡ Some f
  so_told p f None e s was at has = absurd (let z : false ≡ true = ap (is_site Dgram s) (sym (ap site_seen e) ∙ kh.sites p) ∙ at in cc)
  so_told p f (Some x) e s was at has =
      let z : (same_via x.via Dgram && (x.server == s)) ≡ true = ap (is_site Dgram s) (sym (ap site_seen e) ∙ kh.sites p) ∙ at in
      let a = both (same_via x.via Dgram) (x.server == s) z in
      let same : x.server ≡ s = (let y = a.1 in grind (arith, nat_tests)) in
      ap (λ b. if b then Some f else None) (all_three (was_opening (entry_at p tp) x.stand) (same_via x.via Dgram) (started_seen k x.server Dgram r)
      (seen_was (entry_at p tp) x.stand (there was)) a.0 (ap (λ s. started_seen k s Dgram r) same ∙ (ap is_some (kr.starts k s Dgram) ∙ has)))
    where
      there : WasOpening p past h → (stand_seen (entry_at p tp) ≡ Opening) ⊎ ((stand_seen (entry_at p tp) ≡ Unused) × (stand_of x.stand ≡ Gone))
      there (inl z) = inl (kp.stands p ∙ z)
      there (inr z) = inr (kp.stands p ∙ z.0, sym (ap stand_seen e) ∙ (kh.stands p ∙ z.1))

none_told : (k p : ℕ) (f : Fault) (past h : History) (w : What) → FailedToOpen k f past w h → (q : ℕ) × (w ≡ OpenFailed q f)
none_told k p f past h w d = (d.place, d.told)

pub opening_decides : (past h : History) (tp th : Table) (r : Requests) (w : What) (k : ℕ) (f : Fault) → Known past tp → Known h th → Asked h r
    → (opening_fault tp th r k w ≡ Some f → FailedToOpen k f past w h) × (FailedToOpen k f past w h → opening_fault tp th r k w ≡ Some f)
opening_decides past h tp th r w k f kp kh kr = (so w, λ d. ap (opening_fault tp th r k) d.told ∙ so_told past h tp th r k kp kh kr d.place f (entry_at d.place th) refl d.server d.was d.at d.has_it)
  where
    so : (w : What) → opening_fault tp th r k w ≡ Some f → FailedToOpen k f past w h
    so (OpenFailed p g) e = told_so past h tp th r k kp kh kr p g f (entry_at p th) refl e
    so (Ask q) e = absurd (cc)
    so (Opened p) e = absurd (cc)
    so (SendFailed p g) e = absurd (cc)
    so (ShortSend p) e = absurd (cc)
    so (Datagram p o) e = absurd (cc)
    so (RecvFailed p g) e = absurd (cc)
    so (Wrote p n) e = absurd (cc)
    so (WriteFailed p g) e = absurd (cc)
    so (Bytes p o) e = absurd (cc)
    so (ReadFailed p g) e = absurd (cc)
    so (Ended p) e = absurd (cc)
    so Tick e = absurd (cc)
