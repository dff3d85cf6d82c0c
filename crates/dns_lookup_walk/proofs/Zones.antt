-- Referrals lead down: a zone that a walk goes to has more labels than the one before, and no more than the name.
use Rattle.std.proofs.Common.{◌≡◌, ◌⊎◌, ◌<◌, ◌≤◌, ◌==◌, ℕ, Bool, true, false, not, ◌&&◌, ◌||◌, List, [], ◌∷◌, length, map, refl, ap, sym, subst, ◌∙◌, inl, inr, arith, Option, None, Some, Result, Ok, Err}
use Rattle.std.proofs.lemmas.List.{length-map}
use Rattle.std.specs.Prelude.{if◌then◌else◌}
use Rattle.std.specs.Option.{option_or}
use Rattle.std.specs.Char.{to_ascii_lowercase}
use Rattle.dns_lookup_words.specs.declared.manner.Ask.{Ask}
use Rattle.dns_names.specs.Name.{Labels, same_name}
use Rattle.dns_names.specs.NameHash.{same_lowered}
use Rattle.dns_base.specs.Message.{Known}
use Rattle.dns_values.specs.declared.error.ParseError.{ParseError}
use Rattle.dns_values.specs.declared.numbers.Rcode.{Rcode}
use Rattle.dns_base.specs.Header.{aa_of, counts_of, rcode_of}
use Rattle.std.specs.List.{list_any}
use Rattle.dns_lookup_walk.specs.Names.{is_within, leads_on}
use Rattle.dns_lookup_walk.specs.Records.{Items, is_of, is_server, is_start, lead_in, lead_of}
use Rattle.dns_lookup_walk.specs.Verdicts.{authority_of, judge, way_down, without_way, zone_says}
use Rattle.dns_lookup_walk.specs.Laws.{IsBetween}
use Rattle.dns_lookup_walk.specs.Steps.{Step}
use Rattle.dns_lookup_walk.specs.Walks.{Warrants, room}
use Rattle.dns_lookup_walk.specs.declared.station.Station.{Station}
use Rattle.dns_lookup_walk.specs.declared.station.Station.TheVariants.{Given, Zone}
use Rattle.dns_lookup_walk.specs.declared.verdict.Ending.TheVariants.{Answered, NoName, NoData}
use Rattle.dns_lookup_walk.specs.declared.verdict.Failure.TheVariants.{Refuses}
use Rattle.dns_lookup_walk.specs.declared.verdict.Verdict.{Verdict}
use Rattle.dns_lookup_walk.specs.declared.verdict.Verdict.TheVariants.{Ends, Refers, Fails}

both : (a b : Bool) → (a && b) ≡ true → (a ≡ true) × (b ≡ true)
both true true e = (refl, refl)
both true false e = absurd cc
both false b e = absurd cc

second : (a b : Bool) → a ≡ false → (a || b) ≡ true → b ≡ true
second true b is e = absurd cc
second false b is e = e

is_no : (a : Bool) → not a ≡ true → a ≡ false
is_no true e = absurd cc
is_no false e = refl

-- the labels that are the zone's stand here, or further on
pub within_here : (zone rest : Labels) → same_name rest zone ≡ true → is_within zone rest ≡ true
within_here zone [] e = e
within_here zone (label ∷ labels) e = ap (λ (b : Bool). b || is_within zone labels) e

pub within_later : (zone : Labels) (label : List ℕ) (labels : Labels) → same_name (label ∷ labels) zone ≡ false → is_within zone (label ∷ labels) ≡ is_within zone labels
within_later zone label labels e = ap (λ (b : Bool). b || is_within zone labels) e

same_length : (a b : Labels) → same_name a b ≡ true → length a ≡ length b
same_length a b e =
    sym (length-map a (map to_ascii_lowercase)) ∙ ap (λ (labels : Labels). length labels) (same_lowered a b e) ∙ length-map b (map to_ascii_lowercase)

within_length : (zone name : Labels) → is_within zone name ≡ true → length zone ≤ length name
within_length zone [] e = let same : length {A = List ℕ} [] ≡ length zone = same_length [] zone e in omega (arith, same)
within_length zone (label ∷ labels) e = by_head (λ within. within_length zone labels within) (same_name (label ∷ labels) zone) refl
  where
    by_head : (is_within zone labels ≡ true → length zone ≤ length labels) → (b : Bool) → same_name (label ∷ labels) zone ≡ b → length zone ≤ length (label ∷ labels)
    by_head deeper true is = let same : length (label ∷ labels) ≡ length zone = same_length (label ∷ labels) zone is in omega (arith, same)
    by_head deeper false is = let below : length zone ≤ length labels = deeper (second (same_name (label ∷ labels) zone) (is_within zone labels) is e) in omega (arith, below)

within_strictly : (zone owner : Labels) → is_within zone owner ≡ true → same_name owner zone ≡ false → length zone < length owner
within_strictly zone [] e other = absurd cc
within_strictly zone (label ∷ labels) e other =
    let deeper : length zone ≤ length labels = within_length zone labels (second (same_name (label ∷ labels) zone) (is_within zone labels) other e) in omega (arith, deeper)

pub leads_down : (zone name owner : Labels) → leads_on zone name owner ≡ true → (length zone < length owner) × (length owner ≤ length name)
leads_down zone name owner e =
    let first = both (is_within zone owner) (not (same_name owner zone) && is_within owner name) e in
    let last = both (not (same_name owner zone)) (is_within owner name) first.1 in
    (within_strictly zone owner first.0 (is_no (same_name owner zone) last.0), within_length owner name last.1)

either : (first later : Option Labels) (owner : Labels) → option_or first later ≡ Some owner → (first ≡ Some owner) ⊎ (later ≡ Some owner)
either None later owner e = inr e
either (Some x) later owner e = inl e

leads_if : (zone name x owner : Labels) (b : Bool) → (if b && leads_on zone name x then Some x else None) ≡ Some owner → leads_on zone name owner ≡ true
leads_if zone name x owner b e = by_test (b && leads_on zone name x) refl e
  where
    by_test : (t : Bool) → (b && leads_on zone name x) ≡ t → (if t then Some x else None) ≡ Some owner → leads_on zone name owner ≡ true
    by_test true is e =
        let same : x ≡ owner = cc in
        subst (λ (o : Labels). leads_on zone name o ≡ true) same (both b (leads_on zone name x) is).1
    by_test false is e = absurd cc

lead_in_holds : (zone name : Labels) (item : Result Known ParseError) (owner : Labels) → lead_in zone name item ≡ Some owner → leads_on zone name owner ≡ true
lead_in_holds zone name (Ok known) owner e = leads_if zone name known.entry.owner owner (is_of 2 known) e
lead_in_holds zone name (Err fault) owner e = absurd cc

pub lead_holds : (zone name : Labels) (items : Items) (owner : Labels) → lead_of zone name items ≡ Some owner → leads_on zone name owner ≡ true
lead_holds zone name [] owner e = absurd cc
lead_holds zone name (item ∷ items) owner e =
    by_first (λ later. lead_holds zone name items owner later) (either (lead_in zone name item) (lead_of zone name items) owner e)
  where
    by_first : (lead_of zone name items ≡ Some owner → leads_on zone name owner ≡ true) → (lead_in zone name item ≡ Some owner) ⊎ (lead_of zone name items ≡ Some owner)
        → leads_on zone name owner ≡ true
    by_first holds (inl here) = lead_in_holds zone name item owner here
    by_first holds (inr later) = holds later

-- to which zone it refers
referred : Verdict → Option Labels
referred (Ends ending) = None
referred (Refers zone) = Some zone
referred (Fails failure) = None

only_lead : (no_name refuses answers starts names aa : Bool) (code : Rcode) (lead : Option Labels) (owner : Labels)
    → (if no_name then Ends NoName else if refuses then Fails (Refuses code) else if answers then Ends Answered else if starts then Ends NoData else way_down lead (without_way names aa)) ≡ Refers owner
    → lead ≡ Some owner
unfolding referred
only_lead true refuses answers starts names aa code lead owner e = absurd cc
only_lead false true answers starts names aa code lead owner e = absurd cc
only_lead false false true starts names aa code lead owner e = absurd cc
only_lead false false false true names aa code lead owner e = absurd cc
only_lead false false false false names aa code (Some x) owner e = ap referred e
only_lead false false false false true aa code None owner e = absurd cc
only_lead false false false false false true code None owner e = absurd cc
only_lead false false false false false false code None owner e = absurd cc

zone_leads : (zone name : Labels) (m : List ℕ) (owner : Labels) → zone_says zone name m ≡ Refers owner → leads_on zone name owner ≡ true
zone_leads zone name m owner e =
    lead_holds zone name (authority_of m) owner
    (only_lead (rcode_of m == 3) (not (rcode_of m == 0)) (not ((counts_of m).answer == 0)) (list_any is_start (authority_of m)) (list_any is_server (authority_of m)) (aa_of m)
    (record { 0 = rcode_of m }) (lead_of zone name (authority_of m)) owner e)

-- There is a step less to make where a message refers.
pub room_shrinks : (name : Labels) (station : Station) (m : List ℕ) (owner : Labels) → judge name station (Some m) ≡ Refers owner → room name (Zone owner) < room name station
room_shrinks name Given m owner e = omega arith
room_shrinks name (Zone zone) m owner e =
    let down = leads_down zone name owner (zone_leads zone name m owner e) in omega (arith, down.0, down.1)

pub some_room : (name : Labels) (station : Station) → 1 ≤ room name station
some_room name Given = omega arith
some_room name (Zone zone) = omega arith

leads_between : (zone name below : Labels) → leads_on zone name below ≡ true → IsBetween zone name below
leads_between zone name below e =
    let first = both (is_within zone below) (not (same_name below zone) && is_within below name) e in
    let last = both (not (same_name below zone)) (is_within below name) first.1 in
    let down = leads_down zone name below e in
    record { within = first.0; longer = down.0; above = last.1; no_longer = down.1 }

same_zone : (a b : Labels) → Zone a ≡ Zone b → a ≡ b
same_zone a b e = cc

pub steps_descend : (ask : Ask) (before after : Step) (zone below : Labels) → Warrants ask before after → before.station ≡ Zone zone → after.station ≡ Zone below
    → IsBetween zone ask.name below
steps_descend ask before after zone below w at next =
    let refers : judge ask.name (Zone zone) (Some w.message) ≡ Refers w.zone = subst (λ (s : Station). judge ask.name s (Some w.message) ≡ Refers w.zone) at w.refers in
    let same : w.zone ≡ below = same_zone w.zone below (sym w.station ∙ next) in
    subst (λ (b : Labels). IsBetween zone ask.name b) same (leads_between zone ask.name w.zone (zone_leads zone ask.name w.message w.zone refers))
