-- What is kept for the timers goes on over events and outs.
use Rattle.std.proofs.Common.{◌≡◌, ℕ, ◌==◌, ◌&&◌, Bool, true, false, if◌then◌else◌, List, [], ◌∷◌, Option, Some, None, refl, sym, ap, ap₂, ◌∙◌, subst, arith}
use Rattle.std.specs.Prelude.{is_some}
use Rattle.std.proofs.lemmas.Bool.Decides.{nat_tests}
use Rattle.number_table.specs.Entries.{puts, entry_at}
use Rattle.client_request.specs.declared.event.{Event.Event, Out.Out, Via.Via}
use Rattle.client_request.specs.declared.event.Out.TheVariants.{Start, OpenDgram, OpenStream, Send, Write, Resume, Close, Stale, Reply}
use Rattle.client_request.specs.declared.event.Via.TheVariants.{Dgram, Stream}
use Rattle.right_trace.specs.Trace.{History, Came, Put, Conf}
use Rattle.right_trace.specs.Time.{now, newest}
use Rattle.right_trace.specs.{Messages.is_valid, Timers.ended_loose}
use Rattle.right_trace.specs.Requests.{Asking, asking, same_via, start, started}
use Rattle.right_trace.specs.Frames.{has_frame, came_here}
use Rattle.right_trace.proofs.Asked.{asking_came}
use Rattle.trace_tables.proofs.Tables.{at_puts}
use Rattle.trace_tables.specs.declared.frames.frames.Brought.{Brought}
use Rattle.trace_tables.specs.declared.frames.ledger.Ledger.{Ledger}
use Rattle.trace_tables.specs.frames.{Frames.frames_of, Waiting.Waiting}
use Rattle.trace_tables.specs.frames.Ledger as ledger
use Rattle.trace_tables.specs.declared.writes.writing.Writing.{Writing}
use Rattle.trace_tables.proofs.lemmas.writes.Leaving as leaving
use Rattle.trace_tables.proofs.lemmas.timers.Quieting as quieting
use Rattle.trace_tables.proofs.lemmas.idle.Telling as telling
use Rattle.trace_points.specs.exchanges.Asked.{AskedFirst}
use Rattle.trace_points.specs.declared.due.invalid.Invalid.{Invalid}
use Rattle.trace_points.specs.declared.due.timers.Timers.{Timers}
use Rattle.trace_points.specs.due.Loose.{Loose, or_false, loose_seen, loose_end, met}
use Rattle.trace_points.specs.due.Invalid.{SomeInvalid, notes, starts, invalid_seen}
use Rattle.trace_points.specs.due.Invalid as invalid
use Rattle.trace_points.specs.due.Timers as timers
use Rattle.trace_points.specs.due.Timers.{GoesOn}
use Rattle.trace_points.proofs.lemmas.due.Waits.{loose_is}

same_number : (a b : ℕ) → (a == b) ≡ true → a ≡ b
same_number a b e = grind (arith, nat_tests)

-- loose ends

loose_met : (b : Option Brought) (t : Waiting) (w : Writing) (l : Loose) (p : ℕ) → loose_seen p (met b t w l) ≡ (if has_frame (frames_of p b) then loose_end (frames_of p b) p t w else loose_seen p l)
loose_met None t w l p = refl
loose_met (Some b) t w l p = go (has_frame b.frames) refl (b.place == p) refl
  where
    go : (f : Bool) → has_frame b.frames ≡ f → (d : Bool) → (b.place == p) ≡ d
        → loose_seen p (if f then puts b.place (loose_end b.frames b.place t w) l else l) ≡ (if has_frame (if d then b.frames else []) then loose_end (if d then b.frames else []) p t w else loose_seen p l)
    go true i true e =
        ap or_false (at_puts b.place (loose_end b.frames b.place t w) p l)
        ∙ (ap (λ d. or_false (if d then Some (loose_end b.frames b.place t w) else entry_at p l)) e
        ∙ (ap (λ q. loose_end b.frames q t w) (same_number b.place p e) ∙ sym (ap (λ f. if f then loose_end b.frames p t w else loose_seen p l) i)))
    go true i false e = ap or_false (at_puts b.place (loose_end b.frames b.place t w) p l) ∙ ap (λ d. or_false (if d then Some (loose_end b.frames b.place t w) else entry_at p l)) e
    go false i true e = sym (ap (λ f. if f then loose_end b.frames p t w else loose_seen p l) i)
    go false i false e = refl

loose_event : (c : Conf) (h : History) (l : Ledger) (t : Timers) (e : Event) → ledger.Known h l → timers.Known c h t → (p : ℕ) → loose_seen p (met l.frames.brought l.waiting t.writing t.loose) ≡ ended_loose p (Came e ∷ h)
loose_event c h l t e kl kt p =
    loose_met l.frames.brought l.waiting t.writing t.loose p
    ∙ (ap (λ ms. if has_frame ms then loose_end ms p l.waiting t.writing else loose_seen p t.loose) (kl.frames.here p)
    ∙ ap₂ (λ a b. if has_frame (came_here p h) then a else b) (loose_is h l.waiting kl.waiting t.writing kt.writes (came_here p h) p) (kt.looses.ended p))

-- invalid requests

invalid_event : (h : History) (t : Invalid) (e : Event) → AskedFirst h → invalid.Known h t → invalid.Known (Came e ∷ h) t
invalid_event h t e first is = record {
  so = λ v s yes. (let x = is.so v s yes in record { request = x.request; asking_of = x.asking_of; asked = asking_came x.request x.asking_of e h x.asked; invalid = x.invalid; begun = x.begun });
  back = λ v s x. go v s x (asking x.request h) refl;
}
  where
    go : (v : Via) (s : ℕ) (x : SomeInvalid v s (Came e ∷ h)) (o : Option Asking) → asking x.request h ≡ o → invalid_seen v s t ≡ true
    go v s x None i = absurd (let z : false ≡ true = sym (ap is_some (first.unstarted x.request s v i)) ∙ x.begun in cc)
    go v s x (Some a) i =
        let same : a ≡ x.asking_of = (let z : Some a ≡ Some x.asking_of = sym (asking_came x.request a e h i) ∙ x.asked in cc) in
        is.back v s (record { request = x.request; asking_of = a; asked = i; invalid = ap (λ (a : Asking). is_valid a.request) same ∙ x.invalid; begun = x.begun })

noted : (u v : Via) (s r : ℕ) (t : Invalid) → invalid_seen v r (notes u s t) ≡ (if same_via u v && (s == r) then true else invalid_seen v r t)
noted Dgram Dgram s r t = ap is_some (at_puts s tt r t.datagrams) ∙ go (s == r)
  where
    go : (b : Bool) → is_some (if b then Some tt else entry_at r t.datagrams) ≡ (if b then true else is_some (entry_at r t.datagrams))
    go true = refl
    go false = refl
noted Stream Stream s r t = ap is_some (at_puts s tt r t.streams) ∙ go (s == r)
  where
    go : (b : Bool) → is_some (if b then Some tt else entry_at r t.streams) ≡ (if b then true else is_some (entry_at r t.streams))
    go true = refl
    go false = refl
noted Dgram Stream s r t = refl
noted Stream Dgram s r t = refl

same_kind : (a b : Via) → same_via a b ≡ true → a ≡ b
same_kind Dgram Dgram e = refl
same_kind Stream Stream e = refl
same_kind Dgram Stream e = absurd (cc)
same_kind Stream Dgram e = absurd (cc)

own_kind : (a : Via) → same_via a a ≡ true
own_kind Dgram = refl
own_kind Stream = refl

own : (a : ℕ) → (a == a) ≡ true
own a = grind (arith, nat_tests)

both : (a b : Bool) → (a && b) ≡ true → (a ≡ true) × (b ≡ true)
both true true e = (refl, refl)
both true false e = absurd (cc)
both false b e = absurd (cc)

-- a start
module _ (h : History) (t : Invalid) (k s : ℕ) (u : Via) (is : invalid.Known h t) where
  begun_more : (j r : ℕ) (v : Via) → started j r v h ≡ true → started j r v (Put (Start k s u) ∷ h) ≡ true
  begun_more j r v e = go (same_via u v && ((k == j) && (s == r)))
    where
      go : (b : Bool) → is_some (if b then Some (now h) else start j r v h) ≡ true
      go true = refl
      go false = e

  begun_now : started k s u (Put (Start k s u) ∷ h) ≡ true
  begun_now = ap (λ b. is_some (if b then Some (now h) else start k s u h)) (ap₂ (λ a b. a && b) (own_kind u) (ap₂ (λ a b. a && b) (own k) (own s)))

  older : (v : Via) (r : ℕ) → SomeInvalid v r h → SomeInvalid v r (Put (Start k s u) ∷ h)
  older v r x = record { request = x.request; asking_of = x.asking_of; asked = x.asked; invalid = x.invalid; begun = begun_more x.request r v x.begun }

  -- it was so before, or by this start
  newer : (v : Via) (r : ℕ) (x : SomeInvalid v r (Put (Start k s u) ∷ h)) → (b : Bool) → (same_via u v && ((k == x.request) && (s == r))) ≡ b → is_some (if b then Some (now h) else start x.request r v h) ≡ true
      → (a : Option Asking) → asking k h ≡ a → invalid_seen v r (starts u s a t) ≡ true
  newer v r x true i e None j = absurd (let q = same_number k x.request (both (k == x.request) (s == r) (both (same_via u v) _ i).1).0 in let z : None ≡ Some x.asking_of = sym j ∙ (ap (λ n. asking n h) q ∙ x.asked) in cc)
  newer v r x true i e (Some a) j =
      let p = both (same_via u v) _ i in
      let q = both (k == x.request) (s == r) p.1 in
      let same : a ≡ x.asking_of = (let z : Some a ≡ Some x.asking_of = sym j ∙ (ap (λ n. asking n h) (same_number k x.request q.0) ∙ x.asked) in cc) in
      let bad : is_valid a.request ≡ false = ap (λ (a : Asking). is_valid a.request) same ∙ x.invalid in
      ap (λ b. invalid_seen v r (if b then t else notes u s t)) bad ∙ (noted u v s r t ∙ ap (λ b. if b then true else invalid_seen v r t) (ap₂ (λ a b. a && b) p.0 q.1))
  newer v r x false i e None j = is.back v r (record { request = x.request; asking_of = x.asking_of; asked = x.asked; invalid = x.invalid; begun = e })
  newer v r x false i e (Some a) j =
      let seen = is.back v r (record { request = x.request; asking_of = x.asking_of; asked = x.asked; invalid = x.invalid; begun = e }) in
      go (is_valid a.request) (same_via u v && (s == r)) seen
    where
      go : (b d : Bool) → invalid_seen v r t ≡ true → invalid_seen v r (if b then t else notes u s t) ≡ true
      go true d e = e
      go false d e = noted u v s r t ∙ by (same_via u v && (s == r))
        where
          by : (d : Bool) → (if d then true else invalid_seen v r t) ≡ true
          by true = refl
          by false = e

  now_so : (v : Via) (r : ℕ) (a : Option Asking) → asking k h ≡ a → invalid_seen v r (starts u s a t) ≡ true → SomeInvalid v r (Put (Start k s u) ∷ h)
  now_so v r None j e = older v r (is.so v r e)
  now_so v r (Some a) j e = go (is_valid a.request) refl e
    where
      go : (b : Bool) → is_valid a.request ≡ b → invalid_seen v r (if b then t else notes u s t) ≡ true → SomeInvalid v r (Put (Start k s u) ∷ h)
      go true i e = older v r (is.so v r e)
      go false i e = by (same_via u v && (s == r)) refl (sym (noted u v s r t) ∙ e)
        where
          by : (d : Bool) → (same_via u v && (s == r)) ≡ d → (if d then true else invalid_seen v r t) ≡ true → SomeInvalid v r (Put (Start k s u) ∷ h)
          by true d e =
              let p = both (same_via u v) (s == r) d in
              let m = begun_now in
              record { request = k; asking_of = a; asked = j; invalid = i; begun = subst (λ v. started k r v (Put (Start k s u) ∷ h) ≡ true) (same_kind u v p.0) (subst (λ r. started k r u (Put (Start k s u) ∷ h) ≡ true) (same_number s r p.1) m) }
          by false d e = older v r (is.so v r e)

-- an out that is no start
quiet_out : (h : History) (t : Invalid) (o : Out) → invalid.Known h t → ((j r : ℕ) (v : Via) → started j r v (Put o ∷ h) ≡ started j r v h) → invalid.Known (Put o ∷ h) t
quiet_out h t o is same = record {
  so = λ v r e. (let x = is.so v r e in record { request = x.request; asking_of = x.asking_of; asked = x.asked; invalid = x.invalid; begun = same x.request r v ∙ x.begun });
  back = λ v r x. is.back v r (record { request = x.request; asking_of = x.asking_of; asked = x.asked; invalid = x.invalid; begun = sym (same x.request r v) ∙ x.begun });
}

invalid_out : (h : History) (askings : List (ℕ × Asking)) (t : Invalid) (o : Out) → ((k : ℕ) → entry_at k askings ≡ asking k h) → invalid.Known h t → invalid.Known (Put o ∷ h) (invalid.has_put o askings t)
invalid_out h askings t (Start k s u) at is = record {
  so = λ v r e. now_so h t k s u is v r (entry_at k askings) (sym (at k)) e;
  back = λ v r x. newer h t k s u is v r x (same_via u v && ((k == x.request) && (s == r))) refl x.begun (entry_at k askings) (sym (at k));
}
invalid_out h askings t (OpenDgram p s) at is = quiet_out h t (OpenDgram p s) is (λ j r v. refl)
invalid_out h askings t (OpenStream p s) at is = quiet_out h t (OpenStream p s) is (λ j r v. refl)
invalid_out h askings t (Send p k i o) at is = quiet_out h t (Send p k i o) is (λ j r v. refl)
invalid_out h askings t (Write p k i o) at is = quiet_out h t (Write p k i o) is (λ j r v. refl)
invalid_out h askings t (Resume p o) at is = quiet_out h t (Resume p o) is (λ j r v. refl)
invalid_out h askings t (Close p) at is = quiet_out h t (Close p) is (λ j r v. refl)
invalid_out h askings t (Stale k) at is = quiet_out h t (Stale k) is (λ j r v. refl)
invalid_out h askings t (Reply k x) at is = quiet_out h t (Reply k x) is (λ j r v. refl)

event : (c : Conf) (h : History) (l : Ledger) (t : Timers) (e : Event) → AskedFirst h → ledger.Known h l → timers.Known c h t → timers.Known c (Came e ∷ h) (timers.met c e l t)
event c h l t e first kl kt = record {
  writes = leaving.goes_on.event h t.writing e kt.writes;
  quiets = quieting.goes_on.event h l.books.places l.frames l.books.requests.clock t.quiet e kl.books.places kl.frames kl.books.requests.time kt.quiets;
  idles = (telling.goes_on c).event h l.frames t.idle e kl.frames kt.idles;
  looses = record { ended = loose_event c h l t e kl kt };
  invalids = invalid_event h t.invalid e first kt.invalids;
}

out : (c : Conf) (h : History) (l : Ledger) (t : Timers) (o : Out) → ledger.Known h l → timers.Known c h t → timers.Known c (Put o ∷ h) (timers.has_put (newest h) o l t)
out c h l t o kl kt = record {
  writes = leaving.goes_on.out h t.writing o kt.writes;
  quiets = quieting.goes_on.out h l.books.places l.books.requests.clock t.quiet o kl.books.places kl.books.requests.time kt.quiets;
  idles = (telling.goes_on c).out h t.idle o kt.idles;
  looses = record { ended = λ p. kt.looses.ended p };
  invalids = invalid_out h l.books.requests.askings t.invalid o kl.books.requests.askings kt.invalids;
}

none_invalid : (v : Via) (s : ℕ) → invalid_seen v s invalid.nothing ≡ true → ⊥
none_invalid Dgram s e = cc
none_invalid Stream s e = cc

pub goes_on : (c : Conf) → GoesOn c
goes_on c = record {
  begins = record {
    writes = leaving.goes_on.begins;
    quiets = quieting.goes_on.begins;
    idles = (telling.goes_on c).begins;
    looses = record { ended = λ p. refl };
    invalids = record { so = λ v s e. absurd (none_invalid v s e); back = λ v s x. absurd (let z : None ≡ Some x.asking_of = x.asked in cc) };
  };
  event = event c;
  out = out c;
}
