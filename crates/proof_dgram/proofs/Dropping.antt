-- A request is given up.
use Rattle.std.proofs.Common.{◌≡◌, ℕ, inl, inr, [], ◌∷◌, Option, Some, None, refl, sym, subst, ◌∙◌, append-nil}
use Rattle.std.specs.Prelude.{Err, option_map}
use Rattle.client_request.specs.Numbered.{frees, entry_at}
use Rattle.client_request.specs.Request.{Request}
use Rattle.client_request.specs.View.{View, asks}
use Rattle.client_request.specs.declared.error.Error.TheVariants as errors
use Rattle.client_request.specs.declared.event.Out.TheVariants.{Close}
use Rattle.client_dgram.specs.Plain.{Tables, leaves, closes, gives_on, at_job, drops_stage, drops}
use Rattle.client_dgram.specs.declared.job.Job.{Job}
use Rattle.client_dgram.specs.declared.job.Stage.{Stage}
use Rattle.client_dgram.specs.declared.job.Stage.TheVariants as at
use Rattle.proof_right.specs.machine.Streams as multi
use Rattle.right_trace.specs.Updates.{with_at}
use Rattle.proof_right.specs.machine.Dgrams.{Ending, Dgrams, leave, forget}
use Rattle.proof_parts.specs.Chains.{still}
use Rattle.proof_parts.specs.Sights.{sight, IsFair}
use Rattle.proof_dgram.specs.Slots.{AreSlots, names_of}
use Rattle.proof_dgram.specs.Steps.{made_by, Rests}
use Rattle.proof_dgram.specs.Calls.{Leads, Waits, HasPlace, HasDropped}
use Rattle.proof_dgram.proofs.Naming.{names_less}
use Rattle.proof_dgram.proofs.Tabling.{leaves_any}
use Rattle.proof_dgram.proofs.GivingOn.{queued_tryer}
use Rattle.proof_dgram.proofs.Aftermath.{after_itself, after_fair, after_dropped, goes_on}
use Rattle.proof_dgram.proofs.Closing.{leads_on, sent_at, opening_at, off_opening, apart_opening, off_sent, apart_sent}
use Rattle.right_trace.specs.Trace.{Conf}

module _ (c : Conf) (server : ℕ) (s : Tables Request) (d : Dgrams) (v : View) (f : AreSlots c 0 s d (sight v)) (fair : IsFair v) (t : ℕ) (j : Job Request) (is : entry_at t s.jobs ≡ Some j) where
  abbrev Drops : Option (Tables Request × View) → Type 0
  Drops o = Leads (HasDropped c server t j.number s d v) o

  named : (i : ℕ) → names_of (record s { jobs = frees t s.jobs }) i ≡ with_at t None (names_of s) i
  named = names_less t v.ticket s.jobs f.jobs

  queued : j.stage ≡ at.Queued → Drops (drops_stage server t s v at.Queued)
  queued st = (let q = queued_tryer c 0 s d v f t j is st in record {
    first = made_by v.place multi.Nothing (forget j.number d);
    lets = Waits q.0 q.1 q.2;
    made = still v.place (forget j.number d);
    steps = Rests v.place (forget j.number d);
    leaves = record {
      outs = sym (append-nil v.outs);
      place = refl;
      slots = leaves_any c 0 s d v f fair t j is st;
      after = after_itself v fair;
      apart = record { owned = λ i o. inl o; others = λ i due none e. e; places = λ p k e. inl (k, e) };
    };
    nothing = refl;
    board = refl;
    names = named;
  })

  opening : (p : ℕ) → j.stage ≡ at.Opening p → Drops (drops_stage server t s v (at.Opening p))
  opening p st =
      let o = opening_at c 0 s d v f t j is p st in
      let s1 : Tables Request = record s { jobs = frees t s.jobs; places = frees p s.places } in
      let v1 : View = asks (Close p) v in
      leads_on _ (HasDropped c server t j.number s d v) (gives_on server s1 v1)
      (λ u w g. record { first = _; lets = HasPlace o.tryer p o.held (inl o.stage); made = g.made; steps = g.steps; leaves = g.leaves; nothing = g.nothing; board = g.board; names = λ i. g.names i ∙ named i })
      (goes_on c server s d v (forget j.number (leave p j.number o.tryer (Ending (Err errors.TimedOut)) d)) (Close p ∷ []) [] s1 v1 (off_opening c s d v f fair t p j is o.tryer (Ending (Err errors.TimedOut)) st) refl
      (after_fair v fair v1 refl refl refl refl refl refl fair.words) (apart_opening c s d v f fair t p j is o.tryer (Ending (Err errors.TimedOut)) s1 v1 refl refl))

  sent : (p r : ℕ) → j.stage ≡ at.Sent p r → Drops (drops_stage server t s v (at.Sent p r))
  sent p r st =
      let o = sent_at c 0 s d v f t j is p r st in
      let v1 : View = closes p r v in
      leads_on _ (HasDropped c server t j.number s d v) (gives_on server (leaves p t r s) v1)
      (λ u w g. record { first = _; lets = HasPlace o.tryer p o.held (inr (o.id, o.moment, o.stage)); made = g.made; steps = g.steps; leaves = g.leaves; nothing = g.nothing; board = g.board; names = λ i. g.names i ∙ named i })
      (goes_on c server s d v (forget j.number (leave p j.number o.tryer (Ending (Err errors.TimedOut)) d)) (Close p ∷ []) [] (leaves p t r s) v1 (off_sent c s d v f fair t p j is r st o.tryer (Ending (Err errors.TimedOut))) refl
      (after_dropped r v v1 fair refl refl refl refl refl refl refl) (apart_sent c s d v f fair t p j is r st o.tryer (Ending (Err errors.TimedOut)) (leaves p t r s) v1 refl refl))

  staged : (st : Stage) → j.stage ≡ st → Drops (drops_stage server t s v st)
  staged at.Queued e = queued e
  staged (at.Opening p) e = opening p e
  staged (at.Sent p r) e = sent p r e

pub cancels_does : (c : Conf) (server : ℕ) (s : Tables Request) (d : Dgrams) (v : View) (ticket k : ℕ) → AreSlots c 0 s d (sight v) → IsFair v → names_of s ticket ≡ Some k → Leads (HasDropped c server ticket k s d v) (drops server ticket s v)
cancels_does c server s d v ticket k f fair named = go (entry_at ticket s.jobs) refl named
  where
    go : (o : Option (Job Request)) → entry_at ticket s.jobs ≡ o → option_map (λ (j : Job Request). j.number) o ≡ Some k → Leads (HasDropped c server ticket k s d v) (at_job (λ ticket job s v. drops_stage server ticket s v job.stage) ticket s v o)
    go None e n = absurd (cc)
    go (Some j) e n = (let same : j.number ≡ k = cc in subst (λ k. Leads (HasDropped c server ticket k s d v) (drops_stage server ticket s v j.stage)) same (staged c server s d v f fair ticket j e j.stage refl))
