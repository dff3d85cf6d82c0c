-- A zone that is fetched, from what was asked, read and applied.
use Rattle.std.proofs.Common.{◌≡◌, ◌≢◌, inl, inr, ℕ, ◌+◌, ◌≤◌, true, false, List, [], ◌∷◌, ◌++◌, length, map, Option, Some, None, Result, Ok, Err, refl, ap, sym, subst, ◌∙◌}
use Rattle.std.specs.Prelude.{IfErr, IfOk, OnOk}
use Rattle.client_request.specs.Board.{Part, part_of}
use Rattle.client_request.specs.Request.{Request}
use Rattle.client_request.specs.Response.{IsRefusal}
use Rattle.client_request.specs.Words.{IsGivenOn}
use Rattle.client_request.specs.declared.board.Posted.{Posted}
use Rattle.client_request.specs.declared.error.Error.{Error}
use Rattle.client_request.specs.declared.error.Error.TheVariants as errors
use Rattle.client_request.specs.declared.event.Out.{Out}
use Rattle.client_steps.specs.Client.{row_step}
use Rattle.client_core.specs.declared.edge.Deed.TheVariants.{Acted, Polled}
use Rattle.client_request.specs.declared.event.Out.TheVariants.{OpenStream}
use Rattle.client_loop.proofs.Deeds.{more_deeds}
use Rattle.client_loop.specs.Turns.{RoseBy, acts_on, after_deeds}
use Rattle.dns_base.specs.Message.{is_xfr}
use Rattle.stream_turns.specs.Turns.{Client, Held, StopsAt, begins, client_with, machine, started, with_board}
use Rattle.zone_reading.specs.Readings.{IsTransfer}
use Rattle.zone_reading.specs.declared.steps.State.{State}
use Rattle.zone_reading.specs.declared.steps.State.TheVariants.{Begin, FirstSoa, Whole, Deleting, Adding, Done}
use Rattle.zone_reading.specs.declared.steps.Update.{Update}
use Rattle.zone_reading.specs.declared.steps.XfrKind.{XfrKind}
use Rattle.zone_records.proofs.Messages.{sound}
use Rattle.zone_records.proofs.Zoned.{held}
use Rattle.zone_records.specs.Records.{is_same}
use Rattle.zone_records.specs.Folding.{Applies, Zone}
use Rattle.zone_records.specs.Interpreting.{is_done}
use Rattle.zone_records.specs.declared.interpreter.XfrFault.TheVariants as xfr
use Rattle.zone_records.specs.declared.record.ZoneRecord.{ZoneRecord}
use Rattle.zone_transfer.proofs.Faults.{IsOneRefusal, IsTold, refusals, told}
use Rattle.zone_transfer.proofs.ReadOn.{then_are}
use Rattle.zone_transfer.specs.Fetching.{Completes, IsCause, IsCut, IsFetched, IsUnappliable, IsUnasked, Reaches, ReadsStanding, RefusesPart}
use Rattle.zone_transfer.specs.Reading.{AreRead, BoundedReading, IsWithin, ReadSoFar, TakesPart, fault_of, nothing_read}
use Rattle.zone_transfer.specs.Requesting.{message_of, request_of}
use Rattle.zone_transfer.specs.Turning.{Asks, IsClosed, IsOpened, Passes, Scene, Turn, Turned, messages_of, with_rest}
use Rattle.zone_transfer.specs.declared.fault.FetchFault.{FetchFault}
use Rattle.zone_transfer.specs.declared.fault.FetchFault.TheVariants.{Connect, Transport, Refused, Xfr, Apply, TooLarge, NoReply, NoMemory}

-- ---- asking

pub asked_of : (request : Request) (words : ℕ → ℕ) (old mid new : Scene) (moment left : ℕ) (outs : List Out) (first : Client) → IsOpened 1000000 moment left old mid → begins words request (started 0 moment) ≡ Some (outs, first)
    → new.deeds ≡ after_deeds (acts_on outs) mid.deeds → new.polls ≡ mid.polls → new.moments ≡ mid.moments → Asks request words first left old new
asked_of request words old mid new moment left outs first o asks deeds polls moments = record {
  polled = o.before;
  opened = o.ends.last;
  still = o.ends.still;
  opens = o.ends.is;
  moment = moment;
  outs = outs;
  asks = asks;
  deeds = more_deeds (Acted (OpenStream 0 0) ∷ map Polled (o.before ++ o.ends.last ∷ [])) (acts_on outs) old.deeds mid.deeds new.deeds o.ends.deeds deeds;
  polls = subst (λ (n : ℕ). RoseBy (length o.before + 1) old.polls n) (sym polls) o.ends.polls;
  given = subst (λ (ms : Option (List ℕ)). IsGivenOn old.moments ms moment) (sym moments) o.given;
  left_are = o.left_are;
}

pub unasked_closed : (request : Request) (words : ℕ → ℕ) (old new : Scene) (fault : FetchFault) → IsClosed 1000000 fault old new → IsUnasked request words old new fault
unasked_closed request words old new (Connect fault) h = h
unasked_closed request words old new NoReply h = h
unasked_closed request words old new NoMemory h = h
unasked_closed request words old new (Transport error) h = absurd h
unasked_closed request words old new (Refused rcode) h = absurd h
unasked_closed request words old new (Xfr fault) h = absurd h
unasked_closed request words old new (Apply fault) h = absurd h
unasked_closed request words old new TooLarge h = absurd h

pub unasked_stopped : (request : Request) (words : ℕ → ℕ) (old mid : Scene) (moment left : ℕ) (error : Error) → IsOpened 1000000 moment left old mid → IsRefusal error → (error ≡ errors.Failed → ⊥)
    → (error ≡ errors.NumbersUsed → begins words request (started 0 moment) ≡ None) → IsUnasked request words old mid (fault_of error)
unasked_stopped request words old mid moment left error o r failed numbers = go (refusals error r)
  where
    go : IsOneRefusal error → IsUnasked request words old mid (fault_of error)
    go (inl e) = subst (λ (x : Error). IsUnasked request words old mid (fault_of x)) (sym e) tt
    go (inr (inl e)) = subst (λ (x : Error). IsUnasked request words old mid (fault_of x)) (sym e) (refl, record { polled = o.before; opened = o.ends; moment = moment; given = o.given; stops = numbers e })
    go (inr (inr e)) = absurd (failed e)

-- ---- the end of the turns

abbrev pub passes_of : (s t u : ReadSoFar) (first last : Client) (left : ℕ) (old new : Scene) (ts : List Turn) → Turned first old ts last new → length ts ≤ left → AreRead s (messages_of ts) t → (rest : List Posted) → ReadsStanding t last.layer.board rest u
    → Passes s first left u old new
passes_of s t u first last left old new ts turned within read rest more = record {
  turns = ts;
  last = last;
  turned = turned;
  within = within;
  tail = more.messages;
  rest = rest;
  taken = more.stand;
  read = then_are s t u (messages_of ts) more.messages read more.read;
}

module _ (s : ReadSoFar) (first : Client) (left most : ℕ) (old new : Scene) where
  -- what stands behind the messages is refused
  pub cut_by_part : (t : ReadSoFar) (last : Client) (ts : List Turn) (fault : FetchFault) → Turned first old ts last new → length ts ≤ left → AreRead s (messages_of ts) t → RefusesPart most t last.layer.board fault
      → IsCut s first left old new most fault
  cut_by_part t last ts fault turned within read r = go (passes_of s t r.state first last left old new ts turned within read r.rest r.reads) r.part fault r.stands r.refused
    where
      failing : (p : Passes s first left r.state old new) (error : Error) → IsTold error → (fault : FetchFault) → part_of 0 p.rest ≡ Some (Err error) → fault ≡ fault_of error → IsCut s first left old new most fault
      failing p error (inl lacks) fault stands is = subst (IsCut s first left old new most) (sym (is ∙ lacks.1)) tt
      failing p error (inr other) fault stands is = subst (IsCut s first left old new most) (sym (is ∙ other.1)) (other.0, inl (record { state = r.state; passed = p; stands = stands }))

      go : (p : Passes s first left r.state old new) (part : Part) (fault : FetchFault) → part_of 0 p.rest ≡ Some part → TakesPart most r.state part (Err fault) r.state → IsCut s first left old new most fault
      go p (Ok None) fault stands h = absurd h
      go p (Err error) fault stands h = failing p error (told error) fault stands h
      go p (Ok (Some message)) (Refused rcode) stands h = record { state = r.state; passed = p; message = message; stands = stands; refused = h }
      go p (Ok (Some message)) (Xfr f) stands h = record { state = r.state; passed = p; message = message; stands = stands; refused = h }
      go p (Ok (Some message)) TooLarge stands h = record { state = r.state; passed = p; message = message; stands = stands; refused = h }
      go p (Ok (Some message)) NoMemory stands h = tt
      go p (Ok (Some message)) (Connect f) stands h = absurd h
      go p (Ok (Some message)) (Transport e) stands h = absurd h
      go p (Ok (Some message)) (Apply f) stands h = absurd h
      go p (Ok (Some message)) NoReply stands h = absurd h

  -- a turn is refused
  pub cut_by_turn : (mid : Scene) (t u : ReadSoFar) (last : Client) (held : Held) (words : ℕ → ℕ) (ts : List Turn) (error : Error) → client_with words held ≡ last → Turned first old ts last mid → length ts ≤ left → AreRead s (messages_of ts) t
      → (rest : List Posted) → ReadsStanding t last.layer.board rest u → part_of 0 rest ≡ None → IsRefusal error → (error ≡ errors.Failed → ⊥)
      → (error ≡ errors.NumbersUsed → StopsAt words (with_board rest held) mid.moments new.moments) → IsCut s first left old new most (fault_of error)
  cut_by_turn mid t u last held words ts error is turned within read rest more none r failed numbers = go (refusals error r)
    where
      stopped : StopsAt words (with_board rest held) mid.moments new.moments → IsCut s first left old new most (Transport errors.NumbersUsed)
      stopped n = (
        (λ e. absurd (cc)),
        inr (
          refl,
          record {
            mid = mid;
            state = u;
            passed = passes_of s t u first last left old mid ts turned within read rest more;
            none = none;
            event = n.event;
            stops = subst (λ (c : Client). row_step machine 0 n.event (with_rest rest c) ≡ None) is n.stops;
            given = n.moment;
          },
        ),
      )

      go : IsOneRefusal error → IsCut s first left old new most (fault_of error)
      go (inl e) = subst (λ (x : Error). IsCut s first left old new most (fault_of x)) (sym e) tt
      go (inr (inl e)) = subst (λ (x : Error). IsCut s first left old new most (fault_of x)) (sym e) (stopped (numbers e))
      go (inr (inr e)) = absurd (failed e)

-- ---- the zone

done_is : (s : State ZoneRecord) → is_done s ≡ true → s ≡ Done
done_is Begin e = absurd (cc)
done_is (FirstSoa a f) e = absurd (cc)
done_is (Whole a f) e = absurd (cc)
done_is (Deleting a) e = absurd (cc)
done_is (Adding a p) e = absurd (cc)
done_is Done e = refl

module _ (kind : XfrKind) (words : ℕ → ℕ) (most : ℕ) (old : Zone) (before mid after : Scene) (first : Client) (left : ℕ) (asked : Asks (request_of old kind) words first left before mid) where
  abbrev reaches : (state : ReadSoFar) → Passes (nothing_read old.apex kind) first left state mid after → Reaches kind words old before state after
  reaches state p = record { first = first; left = left; mid = mid; asked = asked; passed = p }

  pub fetched : (new : Zone) (state : ReadSoFar) (missing : ℕ) → Completes (nothing_read old.apex kind) first left state mid after → is_done state.interpreter.state ≡ true → Applies old state.updates new missing
      → IsWithin most state.updates → IsFetched kind words most old new missing before after
  fetched new state missing c d a w =
      let messages = messages_of c.passed.turns ++ c.passed.tail in
      let t = sound old.apex kind messages state.interpreter c.passed.read.more c.passed.read.says (done_is state.interpreter.state d) in
      let transfer : IsTransfer is_same kind t.0 state.updates = subst (λ (us : List (Update ZoneRecord)). IsTransfer is_same kind t.0 us) (sym c.passed.read.updates) t.2 in
      record {
        state = state;
        reached = reaches state c.passed;
        ended = c.ends;
        entries = t.0;
        come = t.1;
        transfer = transfer;
        within = w;
        applied = a;
        zone = λ h. held kind messages t.0 state.updates old new missing t.1 transfer a h;
      }

  pub cause_cut : (fault : FetchFault) → IsCut (nothing_read old.apex kind) first left mid after most fault → IsCause kind words most old before after fault
  cause_cut (Connect f) h = absurd h
  cause_cut (Transport e) h = (h.0, inl (record { first = first; left = left; mid = mid; asked = asked; fails = h.1 }))
  cause_cut (Refused rcode) h = record { first = first; left = left; mid = mid; asked = asked; refused = h }
  cause_cut (Xfr f) h = inl (record { first = first; left = left; mid = mid; asked = asked; refused = h })
  cause_cut (Apply f) h = absurd h
  cause_cut TooLarge h = record { first = first; left = left; mid = mid; asked = asked; refused = h }
  cause_cut NoReply h = inr (record { first = first; left = left; mid = mid; asked = asked; never = h })
  cause_cut NoMemory h = tt

  pub cause_early : (state : ReadSoFar) → Completes (nothing_read old.apex kind) first left state mid after → is_done state.interpreter.state ≡ false → IsCause kind words most old before after (Xfr xfr.NotValid)
  cause_early state c d = inr (refl, (state, record { reached = reaches state c.passed; ended = c.ends; is = d }))

  pub cause_unapplied : (state : ReadSoFar) (fault : FetchFault) → Completes (nothing_read old.apex kind) first left state mid after → is_done state.interpreter.state ≡ true → IsUnappliable old.serial state.updates fault
      → IsCause kind words most old before after fault
  cause_unapplied state (Apply f) c d u = (state, record { reached = reaches state c.passed; ended = c.ends; is = d }, u)
  cause_unapplied state NoMemory c d u = tt
  cause_unapplied state (Connect f) c d u = absurd u
  cause_unapplied state (Transport e) c d u = absurd u
  cause_unapplied state (Refused rcode) c d u = absurd u
  cause_unapplied state (Xfr f) c d u = absurd u
  cause_unapplied state TooLarge c d u = absurd u
  cause_unapplied state NoReply c d u = absurd u

module _ (kind : XfrKind) (words : ℕ → ℕ) (most : ℕ) (old : Zone) (before after : Scene) where
  pub cause_unasked : (fault : FetchFault) → IsUnasked (request_of old kind) words before after fault → IsCause kind words most old before after fault
  cause_unasked (Connect f) h = h
  cause_unasked (Transport e) h = ((λ i. absurd (let a : errors.NoMemory ≡ errors.NumbersUsed = sym i ∙ h.0 in cc)), inr (inl h))
  cause_unasked NoReply h = inl h
  cause_unasked NoMemory h = tt
  cause_unasked (Refused rcode) h = absurd h
  cause_unasked (Xfr f) h = absurd h
  cause_unasked (Apply f) h = absurd h
  cause_unasked TooLarge h = absurd h

  pub cause_unmade : (error : Error) → (error ≢ errors.NoMemory → (error ≡ errors.FormError) × (is_xfr (message_of old kind) ≡ false)) → IsCause kind words most old before after (fault_of error)
  cause_unmade error h = go (told error)
    where
      go : IsTold error → IsCause kind words most old before after (fault_of error)
      go (inl lacks) = subst (IsCause kind words most old before after) (sym lacks.1) tt
      go (inr other) = subst (IsCause kind words most old before after) (sym other.1) (other.0, inr (inr (h other.0)))

-- ---- the same of the very request that was made and of the reading that was begun
module _ (kind : XfrKind) (words : ℕ → ℕ) (most : ℕ) (old : Zone) (before mid after : Scene) (first : Client) (left : ℕ) (request : Request) (made : request ≡ request_of old kind) (asked : Asks request words first left before mid)
    (reading : BoundedReading) (begins_so : reading ≡ record { state = nothing_read old.apex kind; most = most }) where
  asked_so : Asks (request_of old kind) words first left before mid
  asked_so = subst (λ (q : Request). Asks q words first left before mid) made asked

  completes_so : (state : ReadSoFar) → Completes reading.state first left state mid after → Completes (nothing_read old.apex kind) first left state mid after
  completes_so state c = subst (λ (r : BoundedReading). Completes r.state first left state mid after) begins_so c

  pub cause_of_cut : (fault : FetchFault) → IsCut reading.state first left mid after reading.most fault → IsCause kind words most old before after fault
  cause_of_cut fault h =
      cause_cut kind words most old before mid after first left asked_so fault (subst (λ (r : BoundedReading). IsCut r.state first left mid after r.most fault) begins_so h)

  pub cause_of_early : (state : ReadSoFar) → Completes reading.state first left state mid after → is_done state.interpreter.state ≡ false → IsCause kind words most old before after (Xfr xfr.NotValid)
  cause_of_early state c d = cause_early kind words most old before mid after first left asked_so state (completes_so state c) d

  pub fetched_of : (state : ReadSoFar) (had : ℕ) (new : Zone) (r : Result ℕ FetchFault) → Completes reading.state first left state mid after → had ≡ reading.most → is_done state.interpreter.state ≡ true
      → IfOk r (Applies old state.updates new) → OnOk r (IsWithin had state.updates) → IfOk r (λ missing. IsFetched kind words most old new missing before after)
  fetched_of state had new (Ok missing) c same d a w =
      fetched kind words most old before mid after first left asked_so new state missing (completes_so state c) d a
      (subst (λ (n : ℕ). IsWithin n state.updates) (same ∙ ap (λ (r : BoundedReading). r.most) begins_so) w)
  fetched_of state had new (Err fault) c same d a w = a

  pub cause_of_unapplied : (state : ReadSoFar) (r : Result ℕ FetchFault) → Completes reading.state first left state mid after → is_done state.interpreter.state ≡ true → IfErr r (IsUnappliable old.serial state.updates)
      → IfErr r (λ fault. IsCause kind words most old before after fault)
  cause_of_unapplied state (Ok missing) c d u = u
  cause_of_unapplied state (Err fault) c d u = cause_unapplied kind words most old before mid after first left asked_so state fault (completes_so state c) d u
