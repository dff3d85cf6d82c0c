-- After each event and each out the table is what the definitions say.
use Rattle.std.proofs.Common.{◌≡◌, ℕ, Bool, true, false, if◌then◌else◌, ◌==◌, ◌∷◌, Option, Some, None, refl, sym, ap, ◌∙◌, arith}
use Rattle.std.proofs.lemmas.Bool.Decides.{nat_tests}
use Rattle.number_table.specs.Entries.{entry_at}
use Rattle.client_request.specs.declared.event.{Event.Event, What.What, Out.Out, Via.Via}
use Rattle.client_request.specs.declared.event.What.TheVariants.{Ask, Opened, OpenFailed, SendFailed, ShortSend, Datagram, RecvFailed, Wrote, WriteFailed, Bytes, ReadFailed, Ended, Tick}
use Rattle.client_request.specs.declared.event.Out.TheVariants.{Start, OpenDgram, OpenStream, Send, Write, Resume, Close, Stale, Reply}
use Rattle.client_request.specs.declared.event.Via.TheVariants.{Dgram, Stream}
use Rattle.right_trace.specs.Trace.{History, Came, Put}
use Rattle.right_trace.specs.Time.{newest}
use Rattle.right_trace.specs.Places.{Unused, Opening, Alive, Gone, site, stand, begun, on_event, opens_as, opened, failed, closed}
use Rattle.trace_tables.specs.declared.places.{Place.Place, Stand.Stand as Seen}
use Rattle.trace_tables.specs.declared.places.Stand.TheVariants as seen
use Rattle.trace_tables.specs.Tables.{Table, met, has_put, opens, settles, settled, closes, begun_stand}
use Rattle.trace_tables.specs.Known.{Known, stand_of, stand_seen, site_seen}
use Rattle.trace_tables.proofs.Tables.{at_puts}

is_equal : (p q : ℕ) → (p == q) ≡ true → p ≡ q
is_equal p q e = grind (arith, nat_tests)

-- What happens to one entry: where its place is opened, where it is settled, where it is closed.
abbrev opened_entry : What → Via → (s q : ℕ) → Option Place → Option Place
opened_entry w v s q (Some x) = Some x
opened_entry w v s q None = Some (record { via = v; server = s; stand = begun_stand w q })

abbrev settled_as : Seen → Place → Seen → Option Place
settled_as to x seen.Opening = Some (record x { stand = to })
settled_as to x _ = Some x

abbrev settled_entry : Seen → Option Place → Option Place
settled_entry to None = None
settled_entry to (Some x) = settled_as to x x.stand

abbrev closed_entry : Option Place → Option Place
closed_entry None = None
closed_entry (Some x) = Some (record x { stand = seen.Gone })

-- an entry at q, of which something is said where p is q
here : (p q : ℕ) (t : Table) (f : Option Place → Option Place) (o : Option Place) (new : Option Place) → entry_at p t ≡ o → f o ≡ new → (if p == q then new else entry_at q t) ≡ (if p == q then f (entry_at q t) else entry_at q t)
here p q t f o new e g = go (p == q) refl
  where
    go : (b : Bool) → (p == q) ≡ b → (if b then new else entry_at q t) ≡ (if b then f (entry_at q t) else entry_at q t)
    go true h = sym g ∙ ap f (sym e ∙ ap (λ n. entry_at n t) (is_equal p q h))
    go false h = refl

kept : (p q : ℕ) (t : Table) (f : Option Place → Option Place) (o : Option Place) → entry_at p t ≡ o → f o ≡ o → entry_at q t ≡ (if p == q then f (entry_at q t) else entry_at q t)
kept p q t f o e g = go (p == q) refl
  where
    go : (b : Bool) → (p == q) ≡ b → entry_at q t ≡ (if b then f (entry_at q t) else entry_at q t)
    go true h =
        let same : entry_at q t ≡ o = sym (ap (λ n. entry_at n t) (is_equal p q h)) ∙ e in
        same ∙ (sym g ∙ ap f (sym same))
    go false h = refl

begun_here : (w : What) (v : Via) (s p q : ℕ) (t : Table) → entry_at p t ≡ None → (if p == q then Some (record { via = v; server = s; stand = begun_stand w p }) else entry_at q t) ≡ (if p == q then opened_entry w v s q (entry_at q t) else entry_at q t)
begun_here w v s p q t e = go (p == q) refl
  where
    go : (b : Bool) → (p == q) ≡ b → (if b then Some (record { via = v; server = s; stand = begun_stand w p }) else entry_at q t) ≡ (if b then opened_entry w v s q (entry_at q t) else entry_at q t)
    go true h =
        let pq : p ≡ q = is_equal p q h in
        ap (λ n. opened_entry w v s n None) pq ∙ ap (opened_entry w v s q) (sym e ∙ ap (λ n. entry_at n t) pq)
    go false h = refl

opens_at : (w : What) (v : Via) (s p q : ℕ) (t : Table) (o : Option Place) → entry_at p t ≡ o → entry_at q (opens w v s p o t) ≡ (if p == q then opened_entry w v s q (entry_at q t) else entry_at q t)
opens_at w v s p q t (Some x) e = kept p q t (opened_entry w v s q) (Some x) e refl
opens_at w v s p q t None e = at_puts p _ q t ∙ begun_here w v s p q t e

settled_at : (to : Seen) (p q : ℕ) (t : Table) (x : Place) (y : Seen) → entry_at p t ≡ Some x → x.stand ≡ y → entry_at q (settled to p x y t) ≡ (if p == q then settled_entry to (entry_at q t) else entry_at q t)
settled_at to p q t x seen.Opening e f = at_puts p _ q t ∙ here p q t (settled_entry to) (Some x) _ e (ap (settled_as to x) f)
settled_at to p q t x seen.Alive e f = kept p q t (settled_entry to) (Some x) e (ap (settled_as to x) f)
settled_at to p q t x seen.Gone e f = kept p q t (settled_entry to) (Some x) e (ap (settled_as to x) f)

settles_at : (to : Seen) (p q : ℕ) (t : Table) (o : Option Place) → entry_at p t ≡ o → entry_at q (settles to p o t) ≡ (if p == q then settled_entry to (entry_at q t) else entry_at q t)
settles_at to p q t None e = kept p q t (settled_entry to) None e refl
settles_at to p q t (Some x) e = settled_at to p q t x x.stand e refl

closes_at : (p q : ℕ) (t : Table) (o : Option Place) → entry_at p t ≡ o → entry_at q (closes p o t) ≡ (if p == q then closed_entry (entry_at q t) else entry_at q t)
closes_at p q t None e = kept p q t closed_entry None e refl
closes_at p q t (Some x) e = at_puts p _ q t ∙ here p q t closed_entry (Some x) _ e refl

-- the same of what is seen of a place
begun_seen : (w : What) (q : ℕ) → stand_of (begun_stand w q) ≡ begun w q Unused
begun_seen (Opened p) q = by (p == q)
  where
    by : (b : Bool) → stand_of (if b then seen.Alive else seen.Opening) ≡ (if b then Alive else Opening)
    by true = refl
    by false = refl
begun_seen (OpenFailed p f) q = by (p == q)
  where
    by : (b : Bool) → stand_of (if b then seen.Gone else seen.Opening) ≡ (if b then Gone else Opening)
    by true = refl
    by false = refl
begun_seen (Ask r) q = refl
begun_seen (SendFailed p f) q = refl
begun_seen (ShortSend p) q = refl
begun_seen (Datagram p o) q = refl
begun_seen (RecvFailed p f) q = refl
begun_seen (Wrote p n) q = refl
begun_seen (WriteFailed p f) q = refl
begun_seen (Bytes p o) q = refl
begun_seen (ReadFailed p f) q = refl
begun_seen (Ended p) q = refl
begun_seen Tick q = refl

site_opened : (w : What) (v : Via) (s q : ℕ) (x : Option Place) → site_seen (opened_entry w v s q x) ≡ opens_as v s (site_seen x)
site_opened w v s q None = refl
site_opened w v s q (Some x) = refl

begun_again : (w : What) (q : ℕ) (x : Seen) → stand_of x ≡ begun w q (stand_of x)
begun_again w q seen.Opening = refl
begun_again w q seen.Alive = refl
begun_again w q seen.Gone = refl

stand_opened : (w : What) (v : Via) (s q : ℕ) (x : Option Place) → stand_seen (opened_entry w v s q x) ≡ begun w q (stand_seen x)
stand_opened w v s q None = begun_seen w q
stand_opened w v s q (Some x) = begun_again w q x.stand

site_settled_as : (to : Seen) (x : Place) (y : Seen) → site_seen (settled_as to x y) ≡ site_seen (Some x)
site_settled_as to x seen.Opening = refl
site_settled_as to x seen.Alive = refl
site_settled_as to x seen.Gone = refl

site_settled : (to : Seen) (x : Option Place) → site_seen (settled_entry to x) ≡ site_seen x
site_settled to None = refl
site_settled to (Some x) = site_settled_as to x x.stand

opened_as : (x : Place) (y : Seen) → x.stand ≡ y → stand_seen (settled_as seen.Alive x y) ≡ opened (stand_of y)
opened_as x seen.Opening e = refl
opened_as x seen.Alive e = ap stand_of e
opened_as x seen.Gone e = ap stand_of e

failed_as : (x : Place) (y : Seen) → x.stand ≡ y → stand_seen (settled_as seen.Gone x y) ≡ failed (stand_of y)
failed_as x seen.Opening e = refl
failed_as x seen.Alive e = ap stand_of e
failed_as x seen.Gone e = ap stand_of e

stand_alive : (x : Option Place) → stand_seen (settled_entry seen.Alive x) ≡ opened (stand_seen x)
stand_alive None = refl
stand_alive (Some x) = opened_as x x.stand refl

stand_failed : (x : Option Place) → stand_seen (settled_entry seen.Gone x) ≡ failed (stand_seen x)
stand_failed None = refl
stand_failed (Some x) = failed_as x x.stand refl

site_closed : (x : Option Place) → site_seen (closed_entry x) ≡ site_seen x
site_closed None = refl
site_closed (Some x) = refl

closed_as : (y : Seen) → Gone ≡ closed (stand_of y)
closed_as seen.Opening = refl
closed_as seen.Alive = refl
closed_as seen.Gone = refl

stand_closed : (x : Option Place) → stand_seen (closed_entry x) ≡ closed (stand_seen x)
stand_closed None = refl
stand_closed (Some x) = closed_as x.stand

-- so what is seen of each place follows the definition
follows : {B : Type 0} (see : Option Place → B) (p q : ℕ) (t t' : Table) (f : Option Place → Option Place) (g : B → B) (b : B)
    → entry_at q t' ≡ (if p == q then f (entry_at q t) else entry_at q t) → ((x : Option Place) → see (f x) ≡ g (see x)) → see (entry_at q t) ≡ b → see (entry_at q t') ≡ (if p == q then g b else b)
follows see p q t t' f g b new same was = ap see new ∙ go (p == q)
  where
    go : (c : Bool) → see (if c then f (entry_at q t) else entry_at q t) ≡ (if c then g b else b)
    go true = same (entry_at q t) ∙ ap g was
    go false = was

idle : {B : Type 0} (b : B) (p q : ℕ) → (if p == q then b else b) ≡ b
idle b p q = go (p == q)
  where
    go : (c : Bool) → (if c then b else b) ≡ b
    go true = refl
    go false = refl

pub event_known : (h : History) (t : Table) (e : Event) → Known h t → Known (Came e ∷ h) (met e.what t)
event_known h t e k = go e.what refl
  where
    go : (w : What) → e.what ≡ w → Known (Came e ∷ h) (met w t)
    go (Opened p) i = record {
      sites = λ q. follows site_seen p q t _ (settled_entry seen.Alive) (λ x. x) _ (settles_at seen.Alive p q t (entry_at p t) refl) (site_settled seen.Alive) (k.sites q) ∙ idle _ p q;
      stands = λ q. follows stand_seen p q t _ (settled_entry seen.Alive) opened _ (settles_at seen.Alive p q t (entry_at p t) refl) stand_alive (k.stands q) ∙ sym (ap (λ w. on_event w q (stand q h)) i);
    }
    go (OpenFailed p f) i = record {
      sites = λ q. follows site_seen p q t _ (settled_entry seen.Gone) (λ x. x) _ (settles_at seen.Gone p q t (entry_at p t) refl) (site_settled seen.Gone) (k.sites q) ∙ idle _ p q;
      stands = λ q. follows stand_seen p q t _ (settled_entry seen.Gone) failed _ (settles_at seen.Gone p q t (entry_at p t) refl) stand_failed (k.stands q) ∙ sym (ap (λ w. on_event w q (stand q h)) i);
    }
    go (Ask r) i = record { sites = k.sites; stands = λ q. k.stands q ∙ sym (ap (λ w. on_event w q (stand q h)) i) }
    go (SendFailed p f) i = record { sites = k.sites; stands = λ q. k.stands q ∙ sym (ap (λ w. on_event w q (stand q h)) i) }
    go (ShortSend p) i = record { sites = k.sites; stands = λ q. k.stands q ∙ sym (ap (λ w. on_event w q (stand q h)) i) }
    go (Datagram p o) i = record { sites = k.sites; stands = λ q. k.stands q ∙ sym (ap (λ w. on_event w q (stand q h)) i) }
    go (RecvFailed p f) i = record { sites = k.sites; stands = λ q. k.stands q ∙ sym (ap (λ w. on_event w q (stand q h)) i) }
    go (Wrote p n) i = record { sites = k.sites; stands = λ q. k.stands q ∙ sym (ap (λ w. on_event w q (stand q h)) i) }
    go (WriteFailed p f) i = record { sites = k.sites; stands = λ q. k.stands q ∙ sym (ap (λ w. on_event w q (stand q h)) i) }
    go (Bytes p o) i = record { sites = k.sites; stands = λ q. k.stands q ∙ sym (ap (λ w. on_event w q (stand q h)) i) }
    go (ReadFailed p f) i = record { sites = k.sites; stands = λ q. k.stands q ∙ sym (ap (λ w. on_event w q (stand q h)) i) }
    go (Ended p) i = record { sites = k.sites; stands = λ q. k.stands q ∙ sym (ap (λ w. on_event w q (stand q h)) i) }
    go Tick i = record { sites = k.sites; stands = λ q. k.stands q ∙ sym (ap (λ w. on_event w q (stand q h)) i) }

-- an opening
opening_known : (v : Via) (h : History) (t : Table) (p s q : ℕ) → Known h t
    → (site_seen (entry_at q (opens (newest h) v s p (entry_at p t) t)) ≡ (if p == q then opens_as v s (site q h) else site q h))
    × (stand_seen (entry_at q (opens (newest h) v s p (entry_at p t) t)) ≡ (if p == q then begun (newest h) q (stand q h) else stand q h))
opening_known v h t p s q k = (
  follows site_seen p q t _ (opened_entry (newest h) v s q) (opens_as v s) _ (opens_at (newest h) v s p q t (entry_at p t) refl) (site_opened (newest h) v s q) (k.sites q),
  follows stand_seen p q t _ (opened_entry (newest h) v s q) (begun (newest h) q) _ (opens_at (newest h) v s p q t (entry_at p t) refl) (stand_opened (newest h) v s q) (k.stands q),
)

pub out_known : (h : History) (t : Table) (o : Out) → Known h t → Known (Put o ∷ h) (has_put (newest h) o t)
out_known h t (OpenDgram p s) k = record { sites = λ q. (opening_known Dgram h t p s q k).0; stands = λ q. (opening_known Dgram h t p s q k).1 }
out_known h t (OpenStream p s) k = record { sites = λ q. (opening_known Stream h t p s q k).0; stands = λ q. (opening_known Stream h t p s q k).1 }
out_known h t (Close p) k = record {
  sites = λ q. follows site_seen p q t _ closed_entry (λ x. x) _ (closes_at p q t (entry_at p t) refl) site_closed (k.sites q) ∙ idle _ p q;
  stands = λ q. follows stand_seen p q t _ closed_entry closed _ (closes_at p q t (entry_at p t) refl) stand_closed (k.stands q);
}
out_known h t (Start k' s v) k = record { sites = k.sites; stands = k.stands }
out_known h t (Send p k' i o) k = record { sites = k.sites; stands = k.stands }
out_known h t (Write p k' i o) k = record { sites = k.sites; stands = k.stands }
out_known h t (Resume p o) k = record { sites = k.sites; stands = k.stands }
out_known h t (Stale k') k = record { sites = k.sites; stands = k.stands }
out_known h t (Reply k' x) k = record { sites = k.sites; stands = k.stands }
