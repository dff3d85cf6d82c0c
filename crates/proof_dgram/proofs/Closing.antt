-- A place is closed, and its slot is given on.
use Rattle.std.proofs.Common.{suc, ◌≡◌, ℕ, ◌+◌, ◌<◌, ◌≤◌, ◌⊎◌, inl, false, [], ◌∷◌, ◌++◌, Option, Some, None, refl, sym, ap, subst, ◌∙◌, append-nil}
use Rattle.std.specs.Prelude.{Result, option_map}
use Rattle.client_request.specs.Numbered.{frees, entry_at}
use Rattle.client_request.specs.Request.{Request}
use Rattle.client_request.specs.Timers.{cancelled}
use Rattle.client_request.specs.View.{View, drawn, asks, answers}
use Rattle.client_request.specs.declared.error.Error.{Error}
use Rattle.client_request.specs.declared.event.What.{What}
use Rattle.client_request.specs.declared.event.Out.TheVariants.{Close}
use Rattle.client_dgram.specs.Plain.{Tables, leaves, closes, finishes, gives_on}
use Rattle.client_dgram.specs.declared.job.Job.{Job}
use Rattle.client_dgram.specs.declared.job.Stage.TheVariants as at
use Rattle.right_trace.specs.Messages.{Octets, under}
use Rattle.right_trace.specs.Time.{read_timeout}
use Rattle.proof_right.specs.machine.Part.{Act}
use Rattle.proof_right.specs.machine.Streams as multi
use Rattle.right_trace.specs.Updates.{with_at}
use Rattle.proof_right.specs.machine.Dgrams.{Stage, Trying, Sent, Ending, Tryer, Dgrams, staged, leave, forget, Meets}
use Rattle.proof_parts.specs.Chains.{then_act, part_of, Gives}
use Rattle.proof_parts.specs.Sights.{sight, due_of, IsFair}
use Rattle.proof_dgram.specs.Slots.{slots_of, IsJobOf, StageFits, AtQueue, AtOpening, AtSent, AreSlots, names_of}
use Rattle.proof_dgram.specs.Steps.{WithResult}
use Rattle.proof_dgram.specs.Calls.{Leads, KeepsApart, Posts, HasTold, Moves}
use Rattle.proof_dgram.proofs.Changing.{alike_as}
use Rattle.proof_parts.proofs.Keys.{with_here, with_there, was_there, with_again}
use Rattle.proof_parts.proofs.Tables.{at_frees}
use Rattle.proof_parts.proofs.TimerLaws.{due_without}
use Rattle.proof_dgram.proofs.Naming.{names_less}
use Rattle.proof_dgram.proofs.Shifting.{gone}
use Rattle.proof_dgram.proofs.Tabling.{leaves_opening, leaves_sent}
use Rattle.proof_dgram.proofs.Aftermath.{after_fair, after_dropped, Goes_on, goes_on}
use Rattle.right_trace.specs.Trace.{Conf}

pub leads_on : (P Q : Tables Request → View → Type 0) (o : Option (Tables Request × View)) → ((t : Tables Request) (w : View) → P t w → Q t w) → Leads P o → Leads Q o
leads_on P Q None f l = tt
leads_on P Q (Some x) f l = f x.0 x.1 l

-- what is known of a job that was sent, and of one whose place opens
pub record IsSentAt (c : Conf) (s : Tables Request) (d : Dgrams) (v : View) (t p r : ℕ) (j : Job Request) : Type 0 where
  pub tryer : Tryer
  pub held : d.held j.number ≡ Some tryer
  pub id : ℕ
  pub moment : ℕ
  pub stage : tryer.stage ≡ Sent p id moment
  pub here : entry_at p s.places ≡ Some t
  pub at : d.at p ≡ Some j.number
  pub timer : entry_at r s.timers ≡ Some t
  pub due : due_of r v.timers.set ≡ Some (moment + read_timeout c)
  pub request : j.request ≡ under c id tryer.request
  pub small : id < 65536
  pub job : IsJobOf c j tryer (suc c.transports.dgram_max_retries)

pub record IsOpeningAt (c : Conf) (s : Tables Request) (d : Dgrams) (t p : ℕ) (j : Job Request) : Type 0 where
  pub tryer : Tryer
  pub held : d.held j.number ≡ Some tryer
  pub stage : tryer.stage ≡ Trying p
  pub here : entry_at p s.places ≡ Some t
  pub at : d.at p ≡ Some j.number
  pub job : IsJobOf c j tryer c.transports.dgram_max_retries

module _ (c : Conf) (n : ℕ) (s : Tables Request) (d : Dgrams) (v : View) (f : AreSlots c n s d (sight v)) (t : ℕ) (j : Job Request) (is : entry_at t s.jobs ≡ Some j) where
  abbrev dues : ℕ → Option ℕ
  dues i = due_of i v.timers.set

  pub sent_at : (p r : ℕ) → j.stage ≡ at.Sent p r → IsSentAt c s d v t p r j
  sent_at p r st = (let g = f.alike.jobs t j is in go g.0 g.1 g.2)
    where
      go : (a : Tryer) → d.held j.number ≡ Some a → StageFits c (slots_of s) d dues t j a → IsSentAt c s d v t p r j
      go a held (AtQueue js its q fit) = absurd (let z : at.Sent p r ≡ at.Queued = sym st ∙ js in cc)
      go a held (AtOpening q js its pl here fit) = absurd (let z : at.Sent p r ≡ at.Opening q = sym st ∙ js in cc)
      go a held (AtSent q u id m js its pl here tm due rq lt fit) =
          let z : at.Sent q u ≡ at.Sent p r = sym js ∙ st in
          let same : q ≡ p = cc in
          let time : u ≡ r = cc in
          record {
            tryer = a;
            held = held;
            id = id;
            moment = m;
            stage = its ∙ ap (λ q. Sent q id m) same;
            here = subst (λ q. entry_at q s.places ≡ Some t) same pl;
            at = subst (λ q. d.at q ≡ Some j.number) same here;
            timer = subst (λ u. entry_at u s.timers ≡ Some t) time tm;
            due = subst (λ u. due_of u v.timers.set ≡ Some (m + read_timeout c)) time due;
            request = rq;
            small = lt;
            job = fit;
          }

  pub opening_at : (p : ℕ) → j.stage ≡ at.Opening p → IsOpeningAt c s d t p j
  opening_at p st = (let g = f.alike.jobs t j is in go g.0 g.1 g.2)
    where
      go : (a : Tryer) → d.held j.number ≡ Some a → StageFits c (slots_of s) d dues t j a → IsOpeningAt c s d t p j
      go a held (AtQueue js its q fit) = absurd (let z : at.Opening p ≡ at.Queued = sym st ∙ js in cc)
      go a held (AtOpening q js its pl here fit) =
          let z : at.Opening q ≡ at.Opening p = sym js ∙ st in
          let same : q ≡ p = cc in
          record { tryer = a; held = held; stage = its ∙ ap Trying same; here = subst (λ q. entry_at q s.places ≡ Some t) same pl; at = subst (λ q. d.at q ≡ Some j.number) same here; job = fit }
      go a held (AtSent q u id m js its pl here tm due rq lt fit) = absurd (let z : at.Opening p ≡ at.Sent q u = sym st ∙ js in cc)

module _ (c : Conf) (s : Tables Request) (d : Dgrams) (v : View) (f : AreSlots c 0 s d (sight v)) (fair : IsFair v) (t p : ℕ) (j : Job Request) (is : entry_at t s.jobs ≡ Some j) where
  abbrev number : ℕ
  number = j.number

  gone_as : (s1 : Tables Request) (w : View) (a : Tryer) (st : Stage) → AreSlots c 1 s1 (gone p number d) (sight w) → AreSlots c 1 s1 (forget number (leave p number a st d)) (sight w)
  gone_as s1 w a st g = record { alike = alike_as c 1 (slots_of s1) (gone p number d) (forget number (leave p number a st d)) (λ i. due_of i w.timers.set) (λ i. with_again number None (Some (staged a st)) d.held i) (λ q. refl) refl g.alike; jobs = g.jobs; places = g.places; timers = g.timers; queue = g.queue }

  places_apart : (a : Tryer) (st : Stage) (q k : ℕ) → (forget number (leave p number a st d)).at q ≡ Some k → ((i : ℕ) × (d.at q ≡ Some i)) ⊎ (v.place ≤ q)
  places_apart a st q k e = inl (k, (was_there p d.at q k e).1)

  -- The place opens still.
  pub off_opening : (a : Tryer) (st : Stage) → j.stage ≡ at.Opening p → AreSlots c 1 (record s { jobs = frees t s.jobs; places = frees p s.places }) (forget number (leave p number a st d)) (sight v)
  off_opening a st stage = (let o = opening_at c 0 s d v f t j is p stage in gone_as (record s { jobs = frees t s.jobs; places = frees p s.places }) v a st (leaves_opening c 0 s d v f fair t p j is stage o.here))

  pub apart_opening : (a : Tryer) (st : Stage) (s1 : Tables Request) (w : View) → s1.timers ≡ s.timers → w.timers ≡ v.timers → KeepsApart s d v s1 (forget number (leave p number a st d)) w
  apart_opening a st s1 w timers set = record {
    owned = λ i o. inl (o.0, ap (λ ts. entry_at i ts) (sym timers) ∙ o.1);
    others = λ i due none e. ap (λ (ts : _). due_of i ts.set) set ∙ e;
    places = places_apart a st;
  }

  -- It was sent there.
  module _ (r : ℕ) (stage : j.stage ≡ at.Sent p r) where
    sent : IsSentAt c s d v t p r j
    sent = sent_at c 0 s d v f t j is p r stage

    pub off_sent : (a : Tryer) (st : Stage) → AreSlots c 1 (leaves p t r s) (forget number (leave p number a st d)) (sight (record v { timers = cancelled r v.timers }))
    off_sent a st = gone_as (leaves p t r s) (record v { timers = cancelled r v.timers }) a st (leaves_sent c 0 s d v f fair t p r j is stage sent.here sent.timer)

    pub apart_sent : (a : Tryer) (st : Stage) (s1 : Tables Request) (w : View) → s1.timers ≡ frees r s.timers → w.timers ≡ cancelled r v.timers → KeepsApart s d v s1 (forget number (leave p number a st d)) w
    apart_sent a st s1 w timers set = record {
      owned = λ i o. inl (o.0, (was_there r (λ i. entry_at i s.timers) i o.0 (sym (at_frees r i 0 v.timers.next s.timers f.timers) ∙ (ap (λ ts. entry_at i ts) (sym timers) ∙ o.1))).1);
      others = λ i due none e. ap (λ (ts : _). due_of i ts.set) set ∙ (due_without r i 0 v.timers.next v.timers.set fair.order ∙ (with_there r None (λ i. due_of i v.timers.set) i (λ same. none (t, ap (λ i. entry_at i s.timers) (sym same) ∙ sent.timer)) ∙ e));
      places = places_apart a st;
    }

-- A result is on the board, and nothing else.
pub one_post : (c : Conf) (server : ℕ) (s : Tables Request) (d : Dgrams) (v : View) (first : Act Dgrams) (s1 : Tables Request) (v1 : View) (t : Tables Request) (w : View) (ticket k : ℕ) (y : Result Octets Error) → names_of s ticket ≡ Some k → first.posts ≡ record { request = k; result = y } ∷ [] → v1.board ≡ v.board ++ record { ticket = ticket; part = part_of y; is_stale = false } ∷ [] → ((i : ℕ) → names_of s1 i ≡ with_at ticket None (names_of s) i)
    → (g : Goes_on c server s d v first s1 v1 t w) → Posts (names_of s) v (then_act first g.made) t w
one_post c server s d v first s1 v1 t w ticket k y named posts board names g = record {
  board = record { ticket = ticket; part = part_of y; is_stale = false } ∷ [];
  put = g.board ∙ board;
  gives = subst (λ xs. Gives (names_of s) (record { ticket = ticket; part = part_of y; is_stale = false } ∷ []) (xs ++ g.made.posts) (names_of t)) (sym posts) (subst (λ xs. Gives (names_of s) (record { ticket = ticket; part = part_of y; is_stale = false } ∷ []) (record { request = k; result = y } ∷ xs) (names_of t)) (sym g.nothing) (named, refl, λ i. g.names i ∙ names i));
}

module _ (c : Conf) (server : ℕ) (what : What) (s : Tables Request) (d : Dgrams) (v : View) (f : AreSlots c 0 s d (sight v)) (fair : IsFair v) (t p : ℕ) (j : Job Request) (is : entry_at t s.jobs ≡ Some j) (y : Result Octets Error) where
  named : names_of s t ≡ Some j.number
  named = ap (λ o. option_map (λ (j : Job Request). j.number) o) is

  -- What came where a request was sent is its result.
  pub ends_sent : (r : ℕ) (stage : j.stage ≡ at.Sent p r) (a : Tryer) → Meets c v.now d what (multi.Puts (Close p)) (leave p j.number a (Ending y) d) → Leads (HasTold c server what s d v) (finishes server t (part_of y) (leaves p t r s) (closes p r v))
  ends_sent r stage a meets =
      let v1 : View = answers t (part_of y) (closes p r v) in
      let z = forget j.number (leave p j.number a (Ending y) d) in
      leads_on _ (HasTold c server what s d v) (gives_on server (leaves p t r s) v1)
      (λ u w g. Moves (multi.Puts (Close p)) (leave p j.number a (Ending y) d) _ g.made meets (WithResult j.number (staged a (Ending y)) y (with_here j.number (Some (staged a (Ending y))) d.held) refl) g.steps g.leaves
      (one_post c server s d v _ (leaves p t r s) v1 u w t j.number y named refl refl (names_less t v.ticket s.jobs f.jobs) g))
      (goes_on c server s d v z (Close p ∷ []) (record { request = j.number; result = y } ∷ []) (leaves p t r s) v1 (off_sent c s d v f fair t p j is r stage a (Ending y)) refl
      (after_dropped r v v1 fair refl refl refl refl refl refl refl) (apart_sent c s d v f fair t p j is r stage a (Ending y) (leaves p t r s) v1 refl refl))

  -- Its place did not open.
  pub ends_unopened : (stage : j.stage ≡ at.Opening p) (a : Tryer) → Meets c v.now d what multi.Nothing (leave p j.number a (Ending y) d) → Leads (HasTold c server what s d v) (finishes server t (part_of y) (record s { jobs = frees t s.jobs; places = frees p s.places }) v)
  ends_unopened stage a meets =
      let s1 : Tables Request = record s { jobs = frees t s.jobs; places = frees p s.places } in
      let v1 : View = answers t (part_of y) v in
      let z = forget j.number (leave p j.number a (Ending y) d) in
      leads_on _ (HasTold c server what s d v) (gives_on server s1 v1)
      (λ u w g. Moves multi.Nothing (leave p j.number a (Ending y) d) _ g.made meets (WithResult j.number (staged a (Ending y)) y (with_here j.number (Some (staged a (Ending y))) d.held) refl) g.steps g.leaves
      (one_post c server s d v _ s1 v1 u w t j.number y named refl refl (names_less t v.ticket s.jobs f.jobs) g))
      (goes_on c server s d v z [] (record { request = j.number; result = y } ∷ []) s1 v1 (off_opening c s d v f fair t p j is a (Ending y) stage) (sym (append-nil v.outs))
      (after_fair v fair v1 refl refl refl refl refl refl fair.words) (apart_opening c s d v f fair t p j is a (Ending y) s1 v1 refl refl))

  -- It could not be composed; a word was drawn.
  pub ends_unsent : (stage : j.stage ≡ at.Opening p) (a : Tryer) → Meets c v.now d what (multi.Puts (Close p)) (leave p j.number a (Ending y) d) → Leads (HasTold c server what s d v) (finishes server t (part_of y) (record s { jobs = frees t s.jobs; places = frees p s.places }) (asks (Close p) (drawn v)))
  ends_unsent stage a meets =
      let s1 : Tables Request = record s { jobs = frees t s.jobs; places = frees p s.places } in
      let v1 : View = answers t (part_of y) (asks (Close p) (drawn v)) in
      let z = forget j.number (leave p j.number a (Ending y) d) in
      leads_on _ (HasTold c server what s d v) (gives_on server s1 v1)
      (λ u w g. Moves (multi.Puts (Close p)) (leave p j.number a (Ending y) d) _ g.made meets (WithResult j.number (staged a (Ending y)) y (with_here j.number (Some (staged a (Ending y))) d.held) refl) g.steps g.leaves
      (one_post c server s d v _ s1 v1 u w t j.number y named refl refl (names_less t v.ticket s.jobs f.jobs) g))
      (goes_on c server s d v z (Close p ∷ []) (record { request = j.number; result = y } ∷ []) s1 v1 (off_opening c s d v f fair t p j is a (Ending y) stage) refl
      (after_fair v fair v1 refl refl refl refl refl refl (λ i. fair.words (i + 1))) (apart_opening c s d v f fair t p j is a (Ending y) s1 v1 refl refl))
