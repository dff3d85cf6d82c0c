-- Files that are put in the place of others.
use Rattle.std.proofs.Common.{◌≡◌, ◌≢◌, ℕ, ◌<◌, List, [], ◌++◌, Bool, Option, None, Some, refl, ap, sym, subst, ◌∙◌, arith}
use Rattle.std.specs.Prelude.{IfSome}
use Rattle.dns_values.specs.Sink.{with_octets}
use Rattle.dns_values.specs.Source.{Rose}
use Rattle.zone_records.specs.declared.record.ZoneRecord.{ZoneRecord}
use Rattle.zone_fetch_run.specs.Lines.{WritesZone}
use Rattle.zone_fetch_run.specs.Places.{IsPlaced, Placed, PlacesZone, with_place}

-- a file that had no fault has one where its count rose
pub is_hurt : (faults faults_after : ℕ) → faults ≡ 0 → Rose faults faults_after → faults_after ≢ 0
is_hurt faults faults_after zero rose none = let below : faults < faults_after = rose.1 (λ e. absurd (omega arith)) in absurd (omega arith)

untold : (path text : List ℕ) (before : Placed) → IsPlaced path text before None
untold path text None = tt
untold path text (Some places) = tt

told : (path text : List ℕ) (before : Placed) → IsPlaced path text before (with_place path (Some text) before)
told path text None = tt
told path text (Some places) = refl

-- A text was written to a file that had nothing, and the file was put in its place.
is_placed : (path text : List ℕ) (begun held : Option (List ℕ)) (before mid after : Placed) → IfSome begun (λ octets. octets ≡ []) → held ≡ with_octets text begun → mid ≡ before
    → after ≡ with_place path held mid → IsPlaced path text before after
is_placed path text None held before mid after empty is same put =
    subst (IsPlaced path text before) (sym (put ∙ ap (λ (h : Option (List ℕ)). with_place path h mid) is)) (untold path text before)
is_placed path text (Some xs) held before mid after empty is same put =
    let whole : held ≡ Some text = is ∙ ap (λ (ys : List ℕ). Some (ys ++ text)) empty in
    subst (IsPlaced path text before) (sym (put ∙ ap (λ (h : Option (List ℕ)). with_place path h mid) whole ∙ ap (with_place path (Some text)) same)) (told path text before)

pub places_zone : (is_loaded : Bool) (records : List ZoneRecord) (path : List ℕ) (begun held : Option (List ℕ)) (before mid after : Placed) → IfSome begun (λ octets. octets ≡ []) → WritesZone is_loaded records begun held → mid ≡ before
    → after ≡ with_place path held mid → PlacesZone is_loaded records path before after
places_zone is_loaded records path begun held before mid after empty writes same put =
    record { text = writes.text; is_text = writes.is_text; placed = is_placed path writes.text begun held before mid after empty writes.written same put }
