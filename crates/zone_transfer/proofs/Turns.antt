-- The opening of a stream and the turns behind it, one more at a time.
use Rattle.std.proofs.Common.{◌≡◌, ℕ, ◌+◌, ◌-◌, ◌<◌, ◌≤◌, List, [], ◌∷◌, ◌++◌, length, map, Option, Some, None, Result, Ok, Err, refl, ap, sym, subst, ◌∙◌, arith, length-append}
use Rattle.std.specs.List.{flat_map}
use Rattle.std.proofs.lemmas.List.{flat_map_more, map-append}
use Rattle.std.proofs.lemmas.List.Elements.{All-nil, All-push}
use Rattle.dns_values.specs.Source.{one_more}
use Rattle.client_request.specs.Board.{part_of}
use Rattle.client_request.specs.Words.{IsGivenOn}
use Rattle.client_request.specs.declared.board.Posted.{Posted}
use Rattle.client_request.specs.declared.event.Out.TheVariants.{OpenStream}
use Rattle.client_request.specs.declared.event.Row.{Row}
use Rattle.client_request.specs.declared.event.What.{What}
use Rattle.client_request.specs.declared.fault.Fault.{Fault}
use Rattle.client_steps.specs.Client.{row_step}
use Rattle.client_core.specs.Edge.{after_deed}
use Rattle.client_core.specs.declared.edge.Deed.{Deed}
use Rattle.client_core.specs.declared.edge.Deed.TheVariants.{Acted, Polled}
use Rattle.client_loop.proofs.Deeds.{append_nil, more_deeds, more_moments, no_deeds, rose_by_none, rose_more}
use Rattle.client_loop.specs.Turns.{AreGivenOn, IsTurn, RoseBy, after_deeds}
use Rattle.stream_turns.specs.Turns.{Client, machine}
use Rattle.zone_transfer.proofs.ReadOn.{none_read, then_are}
use Rattle.zone_transfer.specs.Fetching.{ReadsStanding}
use Rattle.zone_transfer.specs.Reading.{AreRead, ReadSoFar}
use Rattle.zone_transfer.specs.declared.fault.FetchFault.TheVariants.{Connect, NoReply}
use Rattle.zone_transfer.specs.Turning.{EndsOpening, IsClosed, IsOpened, Lead, LeadsTo, Opens, Scene, Stand, Turn, Turned, deeds_of, messages_of, moments_of, opening_of, with_rest}

-- ---- the opening

abbrev Polls : Type 0
Polls = List (Option What)

polled_more : (ps : Polls) (p : Option What) → (Acted (OpenStream 0 0) ∷ map Polled ps) ++ Polled p ∷ [] ≡ Acted (OpenStream 0 0) ∷ map Polled (ps ++ p ∷ [])
polled_more ps p = ap (λ (ds : List Deed). Acted (OpenStream 0 0) ∷ ds) (sym (map-append (λ (q : Option What). Polled q) ps (p ∷ [])))

-- nothing was given yet
pub opens_first : (old new : Scene) → new.deeds ≡ after_deed (Acted (OpenStream 0 0)) old.deeds → new.polls ≡ old.polls → Opens old new []
opens_first old new deeds polls = record {
  still = All-nil (λ q. opening_of q ≡ None);
  deeds = deeds;
  polls = subst (λ (n : ℕ). RoseBy 0 old.polls n) (sym polls) (rose_by_none old.polls);
}

-- the edge gives one thing more
more_given : (old mid new : Scene) (ps : Polls) (p : Option What) → Opens old mid ps → new.deeds ≡ after_deed (Polled p) mid.deeds → new.deeds ≡ after_deeds (Acted (OpenStream 0 0) ∷ map Polled (ps ++ p ∷ [])) old.deeds
more_given old mid new ps p o deeds =
    more_deeds (Acted (OpenStream 0 0) ∷ map Polled ps) (Polled p ∷ []) old.deeds mid.deeds new.deeds o.deeds deeds
    ∙ ap (λ (ds : List Deed). after_deeds ds old.deeds) (polled_more ps p)

pub opens_more : (old mid new : Scene) (ps : Polls) (p : Option What) → Opens old mid ps → opening_of p ≡ None → new.deeds ≡ after_deed (Polled p) mid.deeds → new.polls ≡ one_more mid.polls → Opens old new (ps ++ p ∷ [])
opens_more old mid new ps p o still deeds polls = record {
  still = All-push (λ q. opening_of q ≡ None) ps p o.still still;
  deeds = more_given old mid new ps p o deeds;
  polls = subst (λ (n : ℕ). RoseBy n old.polls new.polls) (sym (length-append ps (p ∷ []))) (rose_more (length ps) old.polls mid.polls new.polls o.polls polls);
}

pub opening_ends : (old mid new : Scene) (ps : Polls) (p : Option What) (end : Result (Unit {0}) Fault) → Opens old mid ps → opening_of p ≡ Some end → new.deeds ≡ after_deed (Polled p) mid.deeds → new.polls ≡ one_more mid.polls
    → EndsOpening old new end ps
opening_ends old mid new ps p end o is deeds polls = record {
  last = p;
  still = o.still;
  is = is;
  deeds = more_given old mid new ps p o deeds;
  polls = rose_more (length ps) old.polls mid.polls new.polls o.polls polls;
}

-- so many turns are left to open the place in
pub record StillOpens (most left : ℕ) (old new : Scene) : Type 0 where
  pub polled : List (Option What)
  pub opens : Opens old new polled
  pub left_are : length polled + left ≡ most

pub still_first : (most : ℕ) (old new : Scene) → new.deeds ≡ after_deed (Acted (OpenStream 0 0)) old.deeds → new.polls ≡ old.polls → StillOpens most most old new
still_first most old new deeds polls = record { polled = []; opens = opens_first old new deeds polls; left_are = omega arith }

pub still_more : (most left : ℕ) (old mid new : Scene) (p : Option What) → StillOpens most left old mid → 0 < left → opening_of p ≡ None → new.deeds ≡ after_deed (Polled p) mid.deeds → new.polls ≡ one_more mid.polls
    → StillOpens most (left - 1) old new
still_more most left old mid new p s some still deeds polls =
    let a : length s.polled + left ≡ most = s.left_are in
    let b = length-append s.polled (p ∷ []) in
    let c : length (p ∷ []) ≡ 1 = refl in
    record { polled = s.polled ++ p ∷ []; opens = opens_more old mid new s.polled p s.opens still deeds polls; left_are = omega arith }

pub opened_now : (most left moment : ℕ) (old mid new : Scene) (p : Option What) → StillOpens most left old mid → 0 < left → opening_of p ≡ Some (Ok tt) → new.deeds ≡ after_deed (Polled p) mid.deeds → new.polls ≡ one_more mid.polls
    → IsGivenOn old.moments new.moments moment → IsOpened most moment (left - 1) old new
opened_now most left moment old mid new p s some is deeds polls given =
    let a : length s.polled + left ≡ most = s.left_are in
    record { before = s.polled; ends = opening_ends old mid new s.polled p (Ok tt) s.opens is deeds polls; given = given; left_are = omega arith }

pub closed_now : (most left : ℕ) (fault : Fault) (old mid new : Scene) (p : Option What) → StillOpens most left old mid → opening_of p ≡ Some (Err fault) → new.deeds ≡ after_deed (Polled p) mid.deeds → new.polls ≡ one_more mid.polls
    → IsClosed most (Connect fault) old new
closed_now most left fault old mid new p s is deeds polls = (s.polled, opening_ends old mid new s.polled p (Err fault) s.opens is deeds polls)

pub never_opened : (most left : ℕ) (old new : Scene) → StillOpens most left old new → left ≤ 0 → IsClosed most NoReply old new
never_opened most left old new s none = let a : length s.polled + left ≡ most = s.left_are in record { polled = s.polled; opens = s.opens; all = omega arith }

-- ---- turns

pub no_turns : (c : Client) (old : Scene) → Turned c old [] c old
no_turns c old = record {
  leads = refl;
  deeds = no_deeds old.deeds;
  polls = rose_by_none old.polls;
  moments = none_given old.moments;
}
  where
    none_given : (a : Option (List ℕ)) → AreGivenOn a a []
    none_given None = tt
    none_given (Some ms) = sym (append_nil ms)

lead_more : (a b c : Client) (ts : List Turn) (t : Turn) → Lead a ts b → LeadsTo b t c → Lead a (ts ++ t ∷ []) c
lead_more a b c [] t h l = (c, subst (λ (x : Client). LeadsTo x t c) (sym h) l, refl)
lead_more a b c (u ∷ ts) t h l = (h.0, h.1, lead_more h.0 b c ts t h.2 l)

moments_more : (ts : List Turn) (t : Turn) → moments_of (ts ++ t ∷ []) ≡ moments_of ts ++ t.row.event.moment.0 ∷ []
moments_more ts t = map-append (λ (u : Turn). u.row.event.moment.0) ts (t ∷ [])

-- a turn more
pub turned_more : (a b c : Client) (old mid new : Scene) (ts : List Turn) (ms : List (List ℕ)) (rest : List Posted) (row : Row) → Turned a old ts b mid → Stand b.layer.board ms rest → part_of 0 rest ≡ None
    → (is : IsTurn row mid.deeds new.deeds) → row_step machine 0 row.event (with_rest rest b) ≡ Some (row, c) → new.polls ≡ one_more mid.polls → IsGivenOn mid.moments new.moments row.event.moment.0
    → Turned a old (ts ++ record { messages = ms; polled = is.polled; row = row } ∷ []) c new
turned_more a b c old mid new ts ms rest row h stand none is step polls moment =
    let t : Turn = record { messages = ms; polled = is.polled; row = row } in
    record {
      leads = lead_more a b c ts t h.leads (record { rest = rest; taken = stand; none = none; of_poll = is.of_poll; step = step });
      deeds =
          more_deeds (flat_map deeds_of ts) (deeds_of t) old.deeds mid.deeds new.deeds h.deeds is.deeds
          ∙ ap (λ (ds : List Deed). after_deeds ds old.deeds) (flat_map_more deeds_of [] ts t);
      polls = subst (λ (n : ℕ). RoseBy n old.polls new.polls) (sym (length-append ts (t ∷ []))) (rose_more (length ts) old.polls mid.polls new.polls h.polls polls);
      moments = subst (λ (xs : List ℕ). AreGivenOn old.moments new.moments xs) (sym (moments_more ts t)) (more_moments (moments_of ts) row.event.moment.0 old.moments mid.moments new.moments h.moments moment);
    }

pub messages_more : (ts : List Turn) (t : Turn) → messages_of (ts ++ t ∷ []) ≡ messages_of ts ++ t.messages
messages_more ts t = sym (flat_map_more (λ (u : Turn). u.messages) [] ts t)

-- the turns so far, what is read of the messages before the last of them, and how many are left
pub record Going (s : ReadSoFar) (first : Client) (left : ℕ) (old new : Scene) (t : ReadSoFar) (last : Client) (more : ℕ) : Type 0 where
  pub turns : List Turn
  pub turned : Turned first old turns last new
  pub read : AreRead s (messages_of turns) t
  pub left_are : length turns + more ≡ left

pub going_first : (s : ReadSoFar) (first : Client) (left : ℕ) (old : Scene) → Going s first left old old s first left
going_first s first left old = record { turns = []; turned = no_turns first old; read = none_read s; left_are = omega arith }

pub going_more : (s t u : ReadSoFar) (first b c : Client) (left more : ℕ) (old mid new : Scene) (rest : List Posted) (row : Row) → Going s first left old mid t b more → 0 < more → ReadsStanding t b.layer.board rest u → part_of 0 rest ≡ None
    → (is : IsTurn row mid.deeds new.deeds) → row_step machine 0 row.event (with_rest rest b) ≡ Some (row, c) → new.polls ≡ one_more mid.polls → IsGivenOn mid.moments new.moments row.event.moment.0 → Going s first left old new u c (more - 1)
going_more s t u first b c left more old mid new rest row g some r none is step polls moment =
    let turn : Turn = record { messages = r.messages; polled = is.polled; row = row } in
    let a : length g.turns + more ≡ left = g.left_are in
    let n = length-append g.turns (turn ∷ []) in
    let one : length (turn ∷ []) ≡ 1 = refl in
    record {
      turns = g.turns ++ turn ∷ [];
      turned = turned_more first b c old mid new g.turns r.messages rest row g.turned r.stand none is step polls moment;
      read = subst (λ (ms : List (List ℕ)). AreRead s ms u) (sym (messages_more g.turns turn)) (then_are s t u (messages_of g.turns) r.messages g.read r.read);
      left_are = omega arith;
    }
