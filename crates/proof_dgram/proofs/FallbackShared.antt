-- A fallback over streams that are tied leaves alone what is none of its own.
use Rattle.std.proofs.Common.{◌≡◌, ℕ, ◌+◌, ◌⊎◌, inl, inr, Bool, true, false, is_some, [], Option, Some, None, refl, sym, ap, subst, ◌∙◌}
use Rattle.std.specs.Prelude.{option_and_then, if◌then◌else◌}
use Rattle.client_request.specs.Numbered.{entry_at}
use Rattle.client_request.specs.Request.{Request}
use Rattle.client_request.specs.Requests.{for_one}
use Rattle.client_request.specs.Timers.{can_draw}
use Rattle.client_request.specs.View.{View, Heard, Transport, told, more_at, due_timer}
use Rattle.client_request.specs.declared.event.What.{What}
use Rattle.client_dgram.specs.Plain as dgram
use Rattle.client_stream.specs.Plain as stream
use Rattle.client_multi.specs.Fallback as fallback
use Rattle.client_multi.specs.Fallback.{onto, with_tables, admits, without, with_parts, collects, settles_stream, hears_stream}
use Rattle.client_multi.specs.declared.dgram_stream.job.Job.{Job}
use Rattle.client_multi.specs.declared.dgram_stream.job.Job.TheVariants.{Dgram, Stream}
use Rattle.right_trace.specs.Trace.{Conf}
use Rattle.proof_right.specs.machine.Dgrams.{no_datagram}
use Rattle.proof_right.specs.machine.Served.{Served, served}
use Rattle.proof_parts.specs.PartTie.{Phase, Untold, Passed, IsOpen, Leads, place_in}
use Rattle.proof_parts.specs.Places.{has_place}
use Rattle.proof_parts.specs.Sharing.{IsShared}
use Rattle.proof_parts.specs.Sights.{Sight, sight, NoneDue}
use Rattle.proof_dgram.specs.AtServer.{with_dgrams}
use Rattle.proof_dgram.specs.Fallback.{AreStreams, IsFallback, Both, OwnsEither}
use Rattle.proof_dgram.proofs.GivingUp.{leads_dgrams}
use Rattle.proof_dgram.proofs.HandingIn.{neither, none_of}
use Rattle.proof_dgram.proofs.LeavingAlone.{none_if, absent, nobody_there, tells_nothing, IsQuiet, takes_quietly, drops_quietly}
use Rattle.proof_dgram.proofs.Timing.{late_passes}

-- a place that the server does not have is neither a datagram's nor the streams'
record IsNeither (a : Served) (p : ℕ) : Type 0 where
  pub dgram : a.server.by_dgram.at p ≡ None
  pub stream : has_place (with_dgrams no_datagram a) p ≡ false

is_neither : (a : Served) (p : ℕ) → has_place a p ≡ false → IsNeither a p
is_neither a p none = (let n = neither (is_some (a.server.by_dgram.at p)) (has_place (with_dgrams no_datagram a) p) none in record { dgram = none_of (a.server.by_dgram.at p) n.0; stream = n.1 })

same_place : (w : What) (p q : ℕ) → place_in w ≡ Some p → place_in w ≡ Some q → p ≡ q
same_place w p q one two = (let z : Some p ≡ Some q = sym one ∙ two in cc)

module _ (b c : Conf) (same_transports : b.transports ≡ c.transports) (s : ℕ) {S : Type 0} (t : Transport Request S stream.Asked) (first : S) (Tied : Phase → S → Sight → Served → Type 0) (names : S → ℕ → Option ℕ) (Owns : S → (timer : ℕ) → Type 0) (y : AreStreams b s t first Tied names Owns) where
  abbrev Two : Type 0
  Two = Both c Tied names Owns s

  abbrev Falls : Phase → Two → Sight → Served → Type 0
  Falls phase f x a = IsFallback c Tied names Owns s phase f x a

  abbrev alone : Served → Served
  alone a = with_dgrams no_datagram a

  knows : (f : Two) (i : ℕ) → OwnsEither c Tied names Owns s f i ⊎ (OwnsEither c Tied names Owns s f i → ⊥)
  knows f i = by (entry_at i f.parts.dgram.tables.timers) refl
    where
      by : (o : Option ℕ) → entry_at i f.parts.dgram.tables.timers ≡ o → OwnsEither c Tied names Owns s f i ⊎ (OwnsEither c Tied names Owns s f i → ⊥)
      by (Some k) e = inl (inl (k, e))
      by None e = elim (y.shared.knows f.parts.stream i) [
        | inl own ↦ inl (inr own)
        | inr free ↦ inr (λ o. elim o [ inl own ↦ (let z : None ≡ Some own.0 = sym e ∙ own.1 in cc) | inr own ↦ free own ])
      ]

  -- what is nothing to either is nothing to both
  nothing_heard : (f : Two) (v : View) (h : Heard) → dgram.hears for_one f.parts.dgram.server f.parts.dgram.settings h f.parts.dgram.tables (onto [] v) ≡ Some (f.parts.dgram.tables, onto [] v) → t.step h f.parts.stream (onto [] v) ≡ Some (f.parts.stream, onto [] v) → (fallback.transport (dgram.transport for_one) t).step h f v ≡ Some (f, v)
  nothing_heard f v h none same =
      ap (λ o. with_parts f (option_and_then (hears_stream f.server (dgram.transport for_one) t h f.parts v) (dgram.with_tables f.parts.dgram o))) none
      ∙ ap (λ o. with_parts f (option_and_then (settles_stream f.server (dgram.transport for_one) t [] f.parts v) o)) same

  timers : (phase : Phase) (f : Two) (v : View) (a : Served) (i : ℕ) → Falls phase f (sight v) a → (OwnsEither c Tied names Owns s f i → ⊥) → (fallback.transport (dgram.transport for_one) t).step (due_timer i) f v ≡ Some (f, v)
  timers phase f v a i g free = nothing_heard f v (due_timer i)
      (late_passes f.parts.dgram.server i f.parts.dgram.tables (onto [] v) (none_if (entry_at i f.parts.dgram.tables.timers) (λ k e. free (inl (k, e)))))
      (y.shared.timers phase f.parts.stream (onto [] v) (alone a) i g.streams (λ own. free (inr own)))

  ignores : (f : Two) (v : View) (a : Served) (w : What) (p : ℕ) → Falls (Untold w) f (sight v) a → place_in w ≡ Some p → has_place a p ≡ false → (fallback.transport (dgram.transport for_one) t).step (told w) f v ≡ Some (f, v)
  ignores f v a w p g at none =
      let n = is_neither a p none in
      nothing_heard f v (told w)
      (tells_nothing f.parts.dgram.server f.parts.dgram.settings f.parts.dgram.tables (onto [] v) w (λ q e. subst (λ q. entry_at q f.parts.dgram.tables.places ≡ None) (same_place w p q at e) (absent c f.parts.dgram.tables a.server.by_dgram (sight v) g.slots p n.dgram)))
      (y.shared.ignores f.parts.stream (onto [] v) (alone a) w p g.streams at n.stream)

  passes : (f : Two) (x : Sight) (a : Served) (w : What) (p : ℕ) → Falls (Untold w) f x a → place_in w ≡ Some p → has_place a p ≡ false → NoneDue (OwnsEither c Tied names Owns s f) x → Falls (Passed w) f x a
  passes f x a w p g at none early =
      let n = is_neither a p none in
      record {
        server = g.server;
        dgram_server = g.dgram_server;
        settings = g.settings;
        slots = g.slots;
        streams = y.shared.passes f.parts.stream x (alone a) w p g.streams at n.stream (λ i due own e. early i due (inr own) e);
        waiting = g.waiting;
        timers = g.timers;
        places = g.places;
        apart = g.apart;
        over = nobody_there c w a.server.by_dgram (λ q e. subst (λ q. a.server.by_dgram.at q ≡ None) (same_place w p q at e) n.dgram);
        quiet = λ told i due own e. early i due (inl own) e;
      }

  frames : (f : Two) (v : View) (a : Served) (w : What) (p : ℕ) → Falls (Passed w) f (sight v) a → place_in w ≡ Some p → (fallback.transport (dgram.transport for_one) t).step (more_at p) f v ≡ Some (f, v)
  frames f v a w p g at = nothing_heard f v (more_at p) refl (y.shared.frames f.parts.stream (onto [] v) (alone a) w p g.streams at)

  -- what is left of the view where the datagrams posted nothing
  settled : (f : Two) (v : View) (z : dgram.Tables Request) (q : View) → IsQuiet (onto [] v) q → Leads (λ g x. IsQuiet v x) (with_parts f (collects f.server t q.board [] (record f.parts { dgram = record f.parts.dgram { tables = z } }) (onto v.board q)))
  settled f v z q quiet = subst (λ ps. Leads (λ g x. IsQuiet v x) (with_parts f (collects f.server t ps [] (record f.parts { dgram = record f.parts.dgram { tables = z } }) (onto v.board q)))) (sym quiet.0) (refl, quiet.1)

  -- A request is taken on.
  module _ (f : Two) (v : View) (r : Request) where
    abbrev v1 : View
    v1 = record v { ticket = v.ticket + 1 }

    abbrev f1 : Two
    f1 = record f { parts = with_tables (admits v.ticket (fallback.first_job f.server (dgram.transport for_one) t r f.parts v1) f.parts.tables) f.parts }

    sends_quietly : Leads (λ g x. IsQuiet v x) ((fallback.transport (dgram.transport for_one) t).send r f v)
    sends_quietly = by (can_draw v.ticket)
      where
        by : (x : Bool) → Leads (λ g x. IsQuiet v x) (with_parts f (option_and_then (fallback.takes_at f.server (dgram.transport for_one) t v.ticket r f.parts) (if x then Some v1 else None)))
        by false = tt
        by true = leads_dgrams b c same_transports s t first Tied names Owns y f1 v1 (λ z q. IsQuiet (onto [] v1) q) (λ g x. IsQuiet v x) (dgram.takes for_one f.parts.dgram.server f.parts.dgram.settings r f.parts.dgram.tables (onto [] v1))
            (takes_quietly f.parts.dgram.server (onto [] v1) f.parts.dgram.settings f.parts.dgram.tables r) (settled f1 v1)

    sent : (w : Two) (x : View) → (fallback.transport (dgram.transport for_one) t).send r f v ≡ Some (w, x) → IsQuiet v x
    sent w x e = subst (Leads (λ g x. IsQuiet v x)) e sends_quietly

  -- One is given up, where it waits.
  module _ (phase : Phase) (f : Two) (v : View) (a : Served) (may : IsOpen phase v.place) (g : Falls phase f (sight v) a) (i : ℕ) where
    abbrev fewer : Two
    fewer = record f { parts = with_tables (without i f.parts.tables) f.parts }

    abbrev Keeps : Option (Two × View) → Type 0
    Keeps = Leads (λ h x. x.more ≡ v.more)

    by_stream : (z : stream.Asked) (o : Option (S × View)) → t.cancel z f.parts.stream (onto [] v) ≡ o → Keeps (with_parts f (option_and_then (settles_stream f.server (dgram.transport for_one) t [] fewer.parts v) o))
    by_stream z None e = tt
    by_stream z (Some o) e = y.shared.keeps_more phase f.parts.stream (onto [] v) (alone a) z o.0 o.1 may g.streams e

    leads_more : (o : Option (Two × View)) → Leads (λ h x. IsQuiet v x) o → Keeps o
    leads_more None l = tt
    leads_more (Some o) l = l.1

    at_job : (o : Option (Job Request dgram.Asked stream.Asked)) → Keeps (with_parts f (fallback.drops_at f.server (dgram.transport for_one) t fewer.parts v o))
    at_job None = refl
    at_job (Some (Dgram lower k r z)) = leads_more _ (leads_dgrams b c same_transports s t first Tied names Owns y fewer v (λ z q. IsQuiet (onto [] v) q) (λ h x. IsQuiet v x) (dgram.drops f.parts.dgram.server z.ticket f.parts.dgram.tables (onto [] v))
        (drops_quietly f.parts.dgram.server (onto [] v) z.ticket f.parts.dgram.tables) (settled fewer v))
    at_job (Some (Stream lower z)) = by_stream z (t.cancel z f.parts.stream (onto [] v)) refl

    given_up : (w : Two) (x : View) → with_parts f (fallback.drops f.server (dgram.transport for_one) t i f.parts v) ≡ Some (w, x) → x.more ≡ v.more
    given_up w x e = subst Keeps e (at_job (entry_at i f.parts.tables.jobs))

  pub fallback_is_shared : IsShared (served c) has_place (fallback.transport (dgram.transport for_one) t) (λ phase f x a. IsFallback c Tied names Owns s phase f x a) (OwnsEither c Tied names Owns s)
  fallback_is_shared = record {
    knows = knows;
    timers = timers;
    ignores = ignores;
    passes = passes;
    frames = frames;
    alone = λ phase f v a r w x may g fair octets free e. inl (sent f v r w x e).0;
    says_none = λ phase f v a r w x may g fair octets free e. (sent f v r w x e).1;
    keeps_more = λ phase f v a r w x may g e. given_up phase f v a may g r.ticket w x e;
  }
