-- What a forward pass keeps of servers at which requests by stream back off: when that was begun last.
use Rattle.std.specs.Prelude.{◌≡◌, ℕ, ◌+◌, ◌≤◌, ◌==◌, ◌&&◌, nat_lt, Bool, true, false, List, [], ◌∷◌, Option, Some, None}
use Rattle.number_table.specs.Entries.{puts, entry_at}
use Rattle.client_request.specs.declared.event.{Event.Event, What.What, What.TheVariants.OpenFailed, Out.Out, Via.TheVariants.Stream}
use Rattle.client_request.specs.declared.event.Out.TheVariants.{OpenStream, Close}
use Rattle.right_trace.specs.Trace.{History, Came, Put, Conf}
use Rattle.right_trace.specs.Time.{now, newest, Ever, back_off}
use Rattle.right_trace.specs.Requests.{same_via}
use Rattle.right_trace.specs.Places.{is_opening, is_alive, is_live}
use Rattle.right_trace.specs.Busy.{EndsBadly, HappenedWithin}
use Rattle.trace_tables.specs.declared.places.Place.{Place}
use Rattle.trace_tables.specs.Known.{stand_of}
use Rattle.trace_tables.specs.Known as places_seen
use Rattle.trace_points.specs.questions.Outs.{Tells}
use Rattle.trace_tables.specs.sets.Sets.{Members}
use Rattle.trace_outs.specs.declared.loads.held.Held.{Held}
use Rattle.trace_outs.specs.loads.Held as held

-- by server, the latest moment
abbrev pub Backs : Type 0
Backs = List (ℕ × ℕ)

abbrev pub notes : Bool → (s n : ℕ) → Backs → Backs
notes true s n t = puts s n t
notes false s n t = t

-- a stream place fails to open
abbrev pub fails : (n : ℕ) → Option Place → Backs → Backs
fails n None t = t
fails n (Some x) t = notes (same_via x.via Stream && is_opening (stand_of x.stand)) x.server n t

-- all ids of a stream place are held
abbrev pub is_used : (n : ℕ) → Option Place → Backs → Backs
is_used n None t = t
is_used n (Some x) t = notes (same_via x.via Stream && is_alive (stand_of x.stand)) x.server n t

-- so it is of each of these
abbrev pub are_used : (n : ℕ) → (places : List (ℕ × Place)) → Members → Backs → Backs
are_used n places [] t = t
are_used n places (e ∷ es) t = are_used n places es (is_used n (entry_at e.0 places) t)

-- a stream place fails to open as soon as it is opened
abbrev pub opens : What → (p s n : ℕ) → Option Place → Backs → Backs
opens w p s n (Some x) t = t
opens (OpenFailed q f) p s n None t = notes (q == p) s n t
opens _ p s n None t = t

-- a stream place is closed, and ends badly or not
abbrev pub closes : (bad : Bool) → (n : ℕ) → Option Place → Backs → Backs
closes b n None t = t
closes b n (Some x) t = notes ((same_via x.via Stream && is_live (stand_of x.stand)) && b) x.server n t

-- what an event makes of it, at the moment that it is then, over the places as they were
abbrev pub met : What → (n : ℕ) → (places : List (ℕ × Place)) → Backs → Backs
met (OpenFailed p f) n places t = fails n (entry_at p places) t
met _ n places t = t

-- what an out makes of it, in a row with this event
abbrev pub has_put : What → Out → (bad : Bool) → (n : ℕ) → (places : List (ℕ × Place)) → Backs → Backs
has_put w (OpenStream p s) b n places t = opens w p s n (entry_at p places) t
has_put w (Close p) b n places t = closes b n (entry_at p places) t
has_put w _ b n places t = t

-- a back-off that was begun then, and one after it, may last still
abbrev pub is_within : (n : ℕ) → Option ℕ → Bool
is_within n None = false
is_within n (Some m) = nat_lt n (m + 128000000)

-- what is kept is what the definitions say
pub record Known (c : Conf) (h : History) (t : Backs) : Type 0 where
  pub so : (s n : ℕ) → is_within n (entry_at s t) ≡ true → Ever (HappenedWithin c (back_off + back_off) s n) h
  pub back : (s n : ℕ) → Ever (HappenedWithin c (back_off + back_off) s n) h → is_within n (entry_at s t) ≡ true
  pub latest : (s m : ℕ) → entry_at s t ≡ Some m → m ≤ now h

-- where an out closes a place, it is said whether that ends badly
abbrev pub TellsEnd : (c : Conf) → Out → History → Bool → Type 0
TellsEnd c (Close p) h b = Tells (EndsBadly c p h) b
TellsEnd c _ h b = Unit {0}

-- It is known before the first row, and goes on over events and outs; what is known of places and ids behind each is counted too.
pub record GoesOn (c : Conf) : Type 0 where
  pub begins : Known c [] []
  pub event : (h : History) (e : Event) (n : ℕ) (places new : List (ℕ × Place)) (l : Held) (t : Backs) → n ≡ now (Came e ∷ h) → places_seen.Known h places → places_seen.Known (Came e ∷ h) new → held.Known (Came e ∷ h) l → Known c h t
      → Known c (Came e ∷ h) (are_used n new l.full (met e.what n places t))
  pub out : (h : History) (o : Out) (bad : Bool) (n : ℕ) (places new : List (ℕ × Place)) (l : Held) (t : Backs) → n ≡ now h → TellsEnd c o h bad → places_seen.Known h places → places_seen.Known (Put o ∷ h) new → held.Known (Put o ∷ h) l → Known c h t
      → Known c (Put o ∷ h) (are_used n new l.full (has_put (newest h) o bad n places t))
