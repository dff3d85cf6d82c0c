-- Visits of zones, one more at a time.
use Rattle.std.proofs.Common.{◌≡◌, ℕ, ◌+◌, ◌<◌, true, List, [], ◌∷◌, ◌++◌, length, get_or, Option, refl, ap, sym, ◌∙◌, append_assoc, length-append, arith, slice_set}
use Rattle.std.specs.List.{All}
use Rattle.std.proofs.lemmas.List.{length-map, map-append}
use Rattle.std.proofs.lemmas.List.Elements.{All-nil, All-push}
use Rattle.zone_refresh.specs.declared.kept.Event.{Event}
use Rattle.zone_refresh.specs.declared.kept.KeptZone.{KeptZone}
use Rattle.zone_refresh.specs.declared.kept.Outs.{Outs}
use Rattle.zone_refresh.specs.Steps.{outs_after, zone_after}
use Rattle.zone_refresh_run.specs.Deeds.{Leads}
use Rattle.zone_refresh_run.specs.Visits.{AreVisited, IsAwaited, IsVisited, Visit, befores, deeds_from, deeds_of, done_for, is_awaited, left_by, lefts, news_of, told_of}
use Rattle.zone_refresh_run.specs.declared.world.Deed.{Deed}
use Rattle.zone_refresh_run.specs.declared.world.Deed.TheVariants.{Looked}
use Rattle.zone_refresh_run.specs.declared.world.ZoneNews.{ZoneNews}
use Rattle.zone_refresh_run.proofs.Deeds.{append_nil, more_deeds, same_deeds}

module _ {W : Type 0} (does : Deed → W → W → Type 0) where
  -- what is done in a visit: this, then a look at the clock, then the telling
  pub done_so : (done told : List Deed) (look : Deed) (a b c d : W) → Leads does done a b → does look b c → Leads does told c d → Leads does (done ++ look ∷ told) a d
  done_so done told look a b c d f g h = more_deeds does done (look ∷ told) a b d f (c, g, h)

  pub visited : (number : ℕ) (before after : KeptZone) (event : Event) (moment : ℕ) (outs : Outs) (news : Option ZoneNews) (a b c d : W) → is_awaited before.phase event ≡ true
      → after ≡ zone_after before moment event → outs ≡ outs_after before moment event → news ≡ news_of before.phase event moment after
      → Leads does (done_for number before.phase event) a b → does (Looked moment) b c → Leads does (told_of number news outs.expired) c d → IsVisited does number before after a d
  visited number before after event moment outs news a b c d awaited left put told f g h = record {
    visit = record { before = before; event = event; moment = moment };
    was = refl;
    awaited = awaited;
    left = sym left;
    deeds =
        same_deeds does (done_for number before.phase event ++ Looked moment ∷ told_of number news outs.expired)
        (done_for number before.phase event ++ Looked moment ∷ told_of number (news_of before.phase event moment (zone_after before moment event)) (outs_after before moment event).expired) a d
        (
        ap (λ (o : Option ZoneNews). done_for number before.phase event ++ Looked moment ∷ told_of number o outs.expired) (told ∙ ap (news_of before.phase event moment) left)
        ∙ ap (λ (o : Outs). done_for number before.phase event ++ Looked moment ∷ told_of number (news_of before.phase event moment (zone_after before moment event)) o.expired) put
        )
        (done_so (done_for number before.phase event) (told_of number news outs.expired) (Looked moment) a b c d f g h);
  }

-- ---- a list in its midst

at_middle : (xs : List KeptZone) (z : KeptZone) (rest : List KeptZone) (d : KeptZone) → get_or (xs ++ z ∷ rest) (length xs) d ≡ z
at_middle [] z rest d = refl
at_middle (x ∷ xs) z rest d = at_middle xs z rest d

set_middle : (xs : List KeptZone) (z y : KeptZone) (rest : List KeptZone) → slice_set (xs ++ z ∷ rest) (length xs) y ≡ xs ++ y ∷ rest
set_middle [] z y rest = refl
set_middle (x ∷ xs) z y rest = ap (λ (zs : List KeptZone). x ∷ zs) (set_middle xs z y rest)

-- what is done in one visit more
deeds_more : (zone : ℕ) (visits : List Visit) (visit : Visit) → deeds_from zone (visits ++ visit ∷ []) ≡ deeds_from zone visits ++ deeds_of (zone + length visits) visit
deeds_more zone [] visit = append_nil (deeds_of zone visit) ∙ ap (λ (n : ℕ). deeds_of n visit) (let e : zone ≡ zone + 0 = omega arith in e)
deeds_more zone (v ∷ vs) visit =
    let behind : zone + 1 + length vs ≡ zone + length (v ∷ vs) = omega arith in
    ap (λ (ds : List Deed). deeds_of zone v ++ ds) (deeds_more (zone + 1) vs visit)
    ∙ sym (append_assoc (deeds_of zone v) (deeds_from (zone + 1) vs) (deeds_of (zone + 1 + length vs) visit))
    ∙ ap (λ (n : ℕ). deeds_of zone v ++ deeds_from (zone + 1) vs ++ deeds_of n visit) behind

-- ---- the first zones were visited, and the rest is as it was

pub record VisitedSo {W : Type 0} (does : Deed → W → W → Type 0) (index : ℕ) (zones now : List KeptZone) (old new : W) : Type 0 where
  pub visits : List Visit
  pub rest : List KeptZone
  pub many : length visits ≡ index
  pub were : befores visits ++ rest ≡ zones
  pub left : lefts visits ++ rest ≡ now
  pub awaited : All IsAwaited visits
  pub deeds : Leads does (deeds_from 0 visits) old new

pub none_visited : {W : Type 0} (does : Deed → W → W → Type 0) (zones : List KeptZone) (world : W) → VisitedSo does 0 zones zones world world
none_visited does zones world = record {
  visits = [];
  rest = zones;
  many = refl;
  were = refl;
  left = refl;
  awaited = All-nil IsAwaited;
  deeds = refl;
}

-- the zone at the index is visited
pub visited_more : {W : Type 0} (does : Deed → W → W → Type 0) (index : ℕ) (zones now : List KeptZone) (before after : KeptZone) (old mid new : W) → VisitedSo does index zones now old mid → index < length now
    → IsVisited does index before after mid new → before ≡ get_or now index before → VisitedSo does (index + 1) zones (slice_set now index after) old new
visited_more does index zones now before after old mid new so within is at = go so.rest so.were so.left
  where
    many_left : length (lefts so.visits) ≡ index
    many_left = length-map so.visits left_by ∙ so.many

    go : (rest : List KeptZone) → befores so.visits ++ rest ≡ zones → lefts so.visits ++ rest ≡ now → VisitedSo does (index + 1) zones (slice_set now index after) old new
    go [] were left =
        let all : length now ≡ index = ap length (sym left) ∙ ap length (append_nil (lefts so.visits)) ∙ many_left in
        absurd (omega (arith, all, within))
    go (z ∷ rest) were left =
        let here : get_or now index before ≡ z =
        ap (λ (zs : List KeptZone). get_or zs index before) (sym left)
        ∙ ap (λ (n : ℕ). get_or (lefts so.visits ++ z ∷ rest) n before) (sym many_left)
        ∙ at_middle (lefts so.visits) z rest before in
        let was : is.visit.before ≡ z = is.was ∙ at ∙ here in
        let set : slice_set now index after ≡ lefts so.visits ++ after ∷ rest =
        ap (λ (zs : List KeptZone). slice_set zs index after) (sym left)
        ∙ ap (λ (n : ℕ). slice_set (lefts so.visits ++ z ∷ rest) n after) (sym many_left)
        ∙ set_middle (lefts so.visits) z after rest in
        let many : length (so.visits ++ is.visit ∷ []) ≡ index + 1 = length-append so.visits (is.visit ∷ []) ∙ ap (λ (n : ℕ). n + 1) so.many in
        record {
          visits = so.visits ++ is.visit ∷ [];
          rest = rest;
          many = many;
          were =
              ap (λ (zs : List KeptZone). zs ++ rest) (map-append (λ (v : Visit). v.before) so.visits (is.visit ∷ []))
              ∙ append_assoc (befores so.visits) (is.visit.before ∷ []) rest
              ∙ ap (λ (x : KeptZone). befores so.visits ++ x ∷ rest) was
              ∙ were;
          left =
              ap (λ (zs : List KeptZone). zs ++ rest) (map-append left_by so.visits (is.visit ∷ []))
              ∙ append_assoc (lefts so.visits) (left_by is.visit ∷ []) rest
              ∙ ap (λ (x : KeptZone). lefts so.visits ++ x ∷ rest) is.left
              ∙ sym set;
          awaited = All-push IsAwaited so.visits is.visit so.awaited is.awaited;
          deeds =
              same_deeds does (deeds_from 0 so.visits ++ deeds_of index is.visit) (deeds_from 0 (so.visits ++ is.visit ∷ [])) old new
              (
              ap (λ (n : ℕ). deeds_from 0 so.visits ++ deeds_of n is.visit) (let e : index ≡ 0 + length so.visits = omega (arith, so.many) in e)
              ∙ sym (deeds_more 0 so.visits is.visit)
              )
              (more_deeds does (deeds_from 0 so.visits) (deeds_of index is.visit) old mid new so.deeds is.deeds);
        }

-- all were
pub all_visited : {W : Type 0} (does : Deed → W → W → Type 0) (index : ℕ) (zones now : List KeptZone) (old new : W) → VisitedSo does index zones now old new → index ≡ length now → AreVisited does zones now old new
all_visited does index zones now old new so all = go so.rest so.were so.left
  where
    many_left : length (lefts so.visits) ≡ index
    many_left = length-map so.visits left_by ∙ so.many

    go : (rest : List KeptZone) → befores so.visits ++ rest ≡ zones → lefts so.visits ++ rest ≡ now → AreVisited does zones now old new
    go [] were left = record {
      visits = so.visits;
      were = sym (append_nil (befores so.visits)) ∙ were;
      awaited = so.awaited;
      left = sym (append_nil (lefts so.visits)) ∙ left;
      deeds = so.deeds;
    }
    go (z ∷ rest) were left =
        let more : length now ≡ length (lefts so.visits) + length (z ∷ rest) = ap length (sym left) ∙ length-append (lefts so.visits) (z ∷ rest) in
        absurd (omega (arith, more, many_left, all))
