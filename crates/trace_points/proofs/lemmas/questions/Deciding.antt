-- What is asked of the books is what the definitions say of outs.
use Rattle.std.proofs.Common.{◌≡◌, ℕ, zero, suc, ◌<◌, ◌≤◌, ◌==◌, ◌&&◌, Bool, true, false, not, nat_lt, Option, Some, None, List, [], ◌∷◌, length, refl, sym, ap, ◌∙◌, arith}
use Rattle.std.specs.Prelude.{is_some, is_none, if◌then◌else◌, Result, Ok, Err, IfOk}
use Rattle.std.proofs.lemmas.Bool.Decides.{nat_tests}
use Rattle.number_table.specs.Entries.{entry_at}
use Rattle.client_request.specs.Request.{Request}
use Rattle.client_request.specs.declared.event.Via.{Via}
use Rattle.client_request.specs.declared.event.Via.TheVariants.{Dgram, Stream}
use Rattle.right_trace.specs.Trace.{History, Conf}
use Rattle.right_trace.specs.Messages.{Octets, CarriesBy}
use Rattle.right_trace.specs.{Time.max_tries, Causes.sends}
use Rattle.right_trace.specs.Requests.{Asking, asking, replied, same_via, started}
use Rattle.right_trace.specs.Places.{Site, site, is_site, is_at, stand, is_alive, Unused, Opening, Alive, Gone}
use Rattle.right_trace.specs.Orderly.{Sending, sending, MaySend}
use Rattle.right_trace.specs.Right.{HasServer, IsFirst, IsUnopened}
use Rattle.trace_tables.specs.declared.books.Books.{Books}
use Rattle.trace_tables.specs.declared.places.{Place.Place, Stand.Stand as Seen}
use Rattle.trace_tables.specs.declared.sends.Sent.{Sent}
use Rattle.trace_tables.specs.declared.places.Stand.TheVariants as seen
use Rattle.trace_tables.specs.Known.{stand_of, stand_seen, site_seen}
use Rattle.trace_tables.specs.{Lists.listed, Books.Known}
use Rattle.trace_tables.specs.Requests.{replied_seen, started_seen}
use Rattle.trace_tables.specs.Sends.{sends_seen, used_seen, last_of}
use Rattle.message_judging.specs.matching.Matching.{carries_by}
use Rattle.message_judging.proofs.lemmas.matching.Requests.{carries_so, so_carries}
use Rattle.trace_points.specs.questions.Outs.{first_seen, alive_server, carried, sends_to, send_seen, SendIsRight, opens_seen, OpenIsRight, TellsFirst, TellsSend, TellsOpening}

pub both : (a b : Bool) → (a && b) ≡ true → (a ≡ true) × (b ≡ true)
both true true e = (refl, refl)
both true false e = absurd (cc)
both false b e = absurd (cc)

pub all : (a b : Bool) → a ≡ true → b ≡ true → (a && b) ≡ true
all a b e f = ap (λ a. a && b) e ∙ f

pub not_true : (b : Bool) → not b ≡ true → b ≡ false
not_true true e = absurd (cc)
not_true false e = refl

some_is : {A : Type 0} (o : Option A) → is_some o ≡ true → (a : A) × (o ≡ Some a)
some_is None e = absurd (cc)
some_is (Some a) e = (a, refl)

none_is : {A : Type 0} (o : Option A) → is_some o ≡ false → o ≡ None
none_is None e = refl
none_is (Some a) e = absurd (cc)

-- what an answer is, and what it tells
pub if_ok : {E : Type 0} {P Q : Bool → Type 0} (r : Result Bool E) → ((b : Bool) → P b → Q b) → IfOk r P → IfOk r Q
if_ok (Ok b) f h = f b h
if_ok (Err x) f h = tt

-- first replies
module _ (h : History) (b : Books) (k : ℕ) (is : Known h b) where
  pub first : first_seen k b ≡ true → IsFirst k h
  first e =
      let p = both (is_some (entry_at k b.requests.askings)) (not (replied_seen k b.requests)) e in
      let a = some_is (entry_at k b.requests.askings) p.0 in
      record { asked = (a.0, sym (is.requests.askings k) ∙ a.1); none = sym (is.requests.replies k) ∙ not_true (replied_seen k b.requests) p.1 }

  pub is_first : IsFirst k h → first_seen k b ≡ true
  is_first f = all (is_some (entry_at k b.requests.askings)) (not (replied_seen k b.requests)) (ap is_some (is.requests.askings k ∙ f.asked.1)) (ap not (is.requests.replies k ∙ f.none))

-- the server of an alive place
same_kind : (a b : Via) → same_via a b ≡ true → a ≡ b
same_kind Dgram Dgram e = refl
same_kind Stream Stream e = refl
same_kind Dgram Stream e = absurd (cc)
same_kind Stream Dgram e = absurd (cc)

own_kind : (a : Via) → same_via a a ≡ true
own_kind Dgram = refl
own_kind Stream = refl

alive_is : (x : Seen) → is_alive (stand_of x) ≡ true → stand_of x ≡ Alive
alive_is seen.Opening e = absurd (cc)
alive_is seen.Alive e = refl
alive_is seen.Gone e = absurd (cc)

pub record IsThere (v : Via) (s p : ℕ) (h : History) : Type 0 where
  pub at : site p h ≡ Some (record { via = v; server = s })
  pub alive : stand p h ≡ Alive

pub server_there : (v : Via) (s : ℕ) (o : Option Place) → alive_server v o ≡ Some s → (site_seen o ≡ Some (record { via = v; server = s })) × (stand_seen o ≡ Alive)
server_there v s None e = absurd (let z : None ≡ Some s = e in cc)
server_there v s (Some x) e = go (same_via x.via v) refl (is_alive (stand_of x.stand)) refl e
  where
    go : (a : Bool) → same_via x.via v ≡ a → (b : Bool) → is_alive (stand_of x.stand) ≡ b → (if a && b then Some x.server else None) ≡ Some s → (site_seen (Some x) ≡ Some (record { via = v; server = s })) × (stand_seen (Some x) ≡ Alive)
    go true i true j e = let n : x.server ≡ s = cc in let w : x.via ≡ v = same_kind x.via v i in (cc, alive_is x.stand j)
    go true i false j e = absurd (cc)
    go false i b j e = absurd (cc)

abbrev via_or : Via → Option Site → Via
via_or v (Some y) = y.via
via_or v None = v

abbrev server_or : ℕ → Option Site → ℕ
server_or s (Some y) = y.server
server_or s None = s

pub there_server : (v : Via) (s : ℕ) (o : Option Place) → site_seen o ≡ Some (record { via = v; server = s }) → stand_seen o ≡ Alive → alive_server v o ≡ Some s
there_server v s None e f = absurd (let z : None ≡ Some (record { via = v; server = s }) = e in cc)
there_server v s (Some x) e f =
    let k : x.via ≡ v = ap (via_or v) e in
    let n : x.server ≡ s = ap (server_or s) e in
    ap (λ b. if b && is_alive (stand_of x.stand) then Some x.server else None) (ap (λ w. same_via w v) k ∙ own_kind v)
    ∙ (ap (λ y. if is_alive y then Some x.server else None) f ∙ ap Some n)

-- whether something was sent
unused : (xs : List Sent) → not (length xs == 0) ≡ false → last_of xs ≡ None
unused [] e = refl
unused (x ∷ xs) e = absurd (some (length xs) e)
  where
    some : (n : ℕ) → not (suc n == 0) ≡ false → ⊥
    some n e = grind (arith, nat_tests)

none_used : (xs : List Sent) → last_of xs ≡ None → not (length xs == 0) ≡ false
none_used [] e = refl
none_used (x ∷ xs) e = absurd (let z : Some (record { request = x.request; moment = x.moment }) ≡ None = e in cc)

-- sends
module _ (conf : Conf) (past h : History) (bp bh : Books) (k p id : ℕ) (o : Octets) (kp : Known past bp) (kh : Known h bh) where
  asked_there : (a : Option Asking) → asking k h ≡ a → carried conf Dgram o id a ≡ true → (r : Request) × ((t : ℕ) × (asking k h ≡ Some (record { request = r; moment = t }))) × CarriesBy conf Dgram o r id
  asked_there None i e = absurd (cc)
  asked_there (Some a) i e = (a.request, (a.moment, i), carries_so conf Dgram o a.request id e)

  used_none : used_seen p bh.sends ≡ false → sending p h ≡ None
  used_none e = sym (kh.sends.sendings p) ∙ unused (listed p bh.sends.sent) e

  few_at : (s t : ℕ) → is_at Dgram t p h ≡ true → site p h ≡ Some (record { via = Dgram; server = s }) → nat_lt (sends_seen k s bh.sends) (max_tries conf) ≡ true → sends k t h < max_tries conf
  few_at s t at here lt =
      let z : (s == t) ≡ true = sym (ap (is_site Dgram t) here) ∙ at in
      let same : s ≡ t = grind (arith, nat_tests) in
      let c : sends_seen k s bh.sends ≡ sends k t h = kh.sends.counts k s ∙ ap (λ s. sends k s h) same in
      less (sends_seen k s bh.sends) (sends k t h) (max_tries conf) c lt
    where
      less : (a b n : ℕ) → a ≡ b → nat_lt a n ≡ true → b < n
      less a b n e f = grind (arith, nat_tests)

  sends_so : (s : Option ℕ) → alive_server Dgram (entry_at p bh.places) ≡ s → sends_to conf bp bh k p id o s ≡ true → SendIsRight conf k p id o past h
  sends_so None i e = absurd (cc)
  sends_so (Some s) i e =
      let a = both (not (replied_seen k bp.requests)) _ e in
      let b = both (started_seen k s Dgram bh.requests) _ a.1 in
      let c = both (not (used_seen p bh.sends)) _ b.1 in
      let d = both (nat_lt (sends_seen k s bh.sends) (max_tries conf)) (carried conf Dgram o id (entry_at k bh.requests.askings)) c.1 in
      let there = server_there Dgram s (entry_at p bh.places) i in
      let at : site p h ≡ Some (record { via = Dgram; server = s }) = sym (kh.places.sites p) ∙ there.0 in
      let r = asked_there (asking k h) refl (ap (carried conf Dgram o id) (sym (kh.requests.askings k)) ∙ d.1) in (
        (λ t here. few_at s t here at d.0),
        record {
          waits = sym (kp.requests.replies k) ∙ not_true (replied_seen k bp.requests) a.0;
          server = s;
          at = at;
          alive = sym (kh.places.stands p) ∙ there.1;
          begun = ap is_some (sym (kh.requests.starts k s Dgram)) ∙ b.0;
          request = r.0;
          asked = r.1;
          carries = r.2;
          first = used_none (not_true (used_seen p bh.sends) c.0);
        },
      )

  so_sends : SendIsRight conf k p id o past h → send_seen conf bp bh k p id o ≡ true
  so_sends f =
      let m = f.1 in
      let s = m.server in
      ap (sends_to conf bp bh k p id o) (there_server Dgram s (entry_at p bh.places) (kh.places.sites p ∙ m.at) (kh.places.stands p ∙ m.alive))
      ∙ all (not (replied_seen k bp.requests)) _ (ap not (kp.requests.replies k ∙ m.waits))
      (all (started_seen k s Dgram bh.requests) _ (ap is_some (kh.requests.starts k s Dgram) ∙ m.begun)
      (all (not (used_seen p bh.sends)) _ (ap not (none_used (listed p bh.sends.sent) (kh.sends.sendings p ∙ m.first)))
      (all (nat_lt (sends_seen k s bh.sends) (max_tries conf)) (carried conf Dgram o id (entry_at k bh.requests.askings))
      (ap (λ n. nat_lt n (max_tries conf)) (kh.sends.counts k s) ∙ less (sends k s h) (max_tries conf) (f.0 s (ap (is_site Dgram s) m.at ∙ own s)))
      (ap (carried conf Dgram o id) (kh.requests.askings k ∙ m.asked.1) ∙ so_carries conf Dgram o m.request id m.carries))))
    where
      own : (n : ℕ) → (n == n) ≡ true
      own n = grind (arith, nat_tests)

      less : (n m : ℕ) → n < m → nat_lt n m ≡ true
      less n m lt = grind (arith, nat_tests)

-- openings
opening : (c : Conf) (h : History) (b : Books) (p s : ℕ) → Known h b → opens_seen c p s b ≡ true → OpenIsRight c p s h
opening c h b p s is e =
    let q = both (nat_lt s (length c.servers)) (is_none (entry_at p b.places)) e in
    let lt : s < length c.servers = less s (length c.servers) q.0 in
    (omega arith, lt, sym (is.places.sites p) ∙ ap site_seen (no_place (entry_at p b.places) q.1))
  where
    less : (a b : ℕ) → nat_lt a b ≡ true → a < b
    less a b e = grind (arith, nat_tests)

    no_place : (o : Option Place) → is_none o ≡ true → o ≡ None
    no_place None e = refl
    no_place (Some x) e = absurd (cc)

opening_seen : (c : Conf) (h : History) (b : Books) (p s : ℕ) → Known h b → OpenIsRight c p s h → opens_seen c p s b ≡ true
opening_seen c h b p s is f = all (nat_lt s (length c.servers)) (is_none (entry_at p b.places)) (less s (length c.servers) f.1) (none_there (entry_at p b.places) (is.places.sites p ∙ f.2))
  where
    less : (a b : ℕ) → a < b → nat_lt a b ≡ true
    less a b e = grind (arith, nat_tests)

    none_there : (o : Option Place) → site_seen o ≡ None → is_none o ≡ true
    none_there None e = refl
    none_there (Some x) e = absurd (let z : Some (record { via = x.via; server = x.server }) ≡ None = e in cc)

pub tells_first : (k : ℕ) (b : Books) (t : Bool) → t ≡ first_seen k b → TellsFirst k b t
tells_first k b t e h is = ((λ u. first h b k is (sym e ∙ u)), (λ f. e ∙ is_first h b k is f))

pub tells_send : (conf : Conf) (past here : Books) (k p id : ℕ) (o : Octets) (t : Bool) → t ≡ send_seen conf past here k p id o → TellsSend conf past here k p id o t
tells_send conf past here k p id o t e x h kx kh = ((λ u. sends_so conf x h past here k p id o kx kh (alive_server Dgram (entry_at p here.places)) refl (sym e ∙ u)), (λ f. e ∙ so_sends conf x h past here k p id o kx kh f))

pub tells_opening : (c : Conf) (p s : ℕ) (b : Books) (t : Bool) → t ≡ opens_seen c p s b → TellsOpening c p s b t
tells_opening c p s b t e h is = ((λ u. opening c h b p s is (sym e ∙ u)), (λ f. e ∙ opening_seen c h b p s is f))
