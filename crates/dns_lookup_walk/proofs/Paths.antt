-- Steps, and walks of several.
use Rattle.std.proofs.Common.{◌≡◌, ◌<◌, ℕ, List, [], ◌∷◌, ◌++◌, map, take, refl, ap, sym, subst, ◌∙◌, arith, append_assoc, append-nil, Option, None, Some, Result, Ok, Err}
use Rattle.std.specs.List.{flat_map}
use Rattle.std.specs.Prelude.{IfOk}
use Rattle.std.proofs.lemmas.Grind.{flat_map-append}
use Rattle.dns_lookup_words.specs.declared.manner.Ask.{Ask}
use Rattle.dns_names.specs.Name.{Labels}
use Rattle.dns_lookup_walk.specs.Deeds.{Deed, after_deeds}
use Rattle.dns_lookup_walk.specs.Steps.{AreTried, Hears, Step, by_glue, by_names, host_deed, servers_of, step_deeds, try_deeds}
use Rattle.dns_lookup_walk.specs.Targets.{targets_of}
use Rattle.dns_lookup_walk.specs.Trying.{DidLookUp, DidStep, DidTry, message_of}
use Rattle.dns_lookup_walk.specs.Verdicts.{judge}
use Rattle.dns_lookup_walk.specs.Walks.{EndsAt, IsWalk, Walked, final, room, stranded}
use Rattle.dns_lookup_walk.specs.declared.station.Station.{Station}
use Rattle.dns_lookup_walk.specs.declared.station.Station.TheVariants.{Given, Zone}
use Rattle.dns_lookup_walk.specs.declared.server.NameServer.{NameServer}
use Rattle.dns_lookup_walk.specs.declared.targets.Targets.{Targets}
use Rattle.dns_lookup_walk.specs.declared.trying.UsefulAnswer.{UsefulAnswer}
use Rattle.dns_lookup_walk.specs.declared.verdict.Ending.{Ending}
use Rattle.dns_lookup_walk.specs.declared.verdict.Verdict.TheVariants.{Ends, Refers}
use Rattle.dns_lookup_walk.proofs.Doing.{after_both, after_none}
use Rattle.dns_lookup_walk.proofs.Zones.{room_shrinks, some_room}

-- a step that heard a message at an address that stood beside the referral
pub step_by_glue : {W : Type 0} (deeds : W → Option (List Deed)) (ask : Ask) (station : Station) (targets : Targets) (glue : List NameServer) (h : UsefulAnswer) (old new : W)
    → glue ≡ take 16 targets.glue → DidTry deeds ask station glue (Some h) old new → DidStep deeds ask station targets (Some h) old new
step_by_glue deeds ask station targets glue h old new is did = record {
  step = record { station = station; targets = targets; tries = did.tries; hosts = []; later = [] };
  at_station = refl;
  has_targets = refl;
  hears = by_glue (subst (λ (servers : List NameServer). AreTried ask station servers did.tries (Some h.message)) is did.are_tried) h.message refl refl refl;
  is_judged = did.is_judged;
  done = did.done ∙ ap (λ (all : List Deed). after_deeds all (deeds old)) (sym (append-nil (flat_map (try_deeds ask station) did.tries)));
}

-- a step in which these failed, and names were looked up
pub step_by_names : {W : Type 0} (deeds : W → Option (List Deed)) (ask : Ask) (station : Station) (targets : Targets) (glue : List NameServer) (names : List Labels) (found servers : List NameServer) (heard : Option UsefulAnswer) (old mid last new : W)
    → glue ≡ take 16 targets.glue → names ≡ take 8 targets.names → servers ≡ take 16 found
    → DidTry deeds ask station glue None old mid → DidLookUp deeds names [] found mid last → DidTry deeds ask station servers heard last new
    → DidStep deeds ask station targets heard old new
step_by_names deeds ask station targets glue names found servers heard old mid last new glue_is names_is servers_is first looked second =
    let step : Step = record { station = station; targets = targets; tries = first.tries; hosts = looked.hosts; later = second.tries } in
    let of_hosts : servers ≡ take 16 (flat_map servers_of looked.hosts) = servers_is ∙ ap (λ (all : List NameServer). take 16 all) looked.found in
    record {
      step = step;
      at_station = refl;
      has_targets = refl;
      hears =
          by_names (subst (λ (s : List NameServer). AreTried ask station s first.tries None) glue_is first.are_tried) (looked.are_named ∙ names_is)
          (subst (λ (s : List NameServer). AreTried ask station s second.tries (message_of heard)) of_hosts second.are_tried);
      is_judged = second.is_judged;
      done =
          second.done ∙ ap (λ (d : Option (List Deed)). after_deeds (flat_map (try_deeds ask station) second.tries) d) looked.done
          ∙ after_both (map host_deed looked.hosts) (flat_map (try_deeds ask station) second.tries) (deeds mid)
          ∙ ap (λ (d : Option (List Deed)). after_deeds (map host_deed looked.hosts ++ flat_map (try_deeds ask station) second.tries) d) first.done
          ∙ after_both (flat_map (try_deeds ask station) first.tries) (map host_deed looked.hosts ++ flat_map (try_deeds ask station) second.tries) (deeds old);
    }

-- what is made of a value where there is one
pub if_ok : {A E : Type 0} (P Q : A → Type 0) (r : Result A E) → ((x : A) → P x → Q x) → IfOk r P → IfOk r Q
if_ok P Q (Ok x) f h = f x h
if_ok P Q (Err e) f h = tt

-- a walk of all these steps
pub record IsWhole (ask : Ask) (targets : Targets) (ending : Option Ending) (all : List Step) : Type 0 where
  pub first : Step
  pub later : List Step
  pub all_is : all ≡ first ∷ later
  pub walk : IsWalk ask Given targets first later ending

-- what is so before the next step of a walk: it is at this station, whose servers these are
pub record OnWay {W : Type 0} (deeds : W → Option (List Deed)) (ask : Ask) (given : Targets) (station : Station) (targets : Targets) (old now : W) : Type 0 where
  pub steps : List Step
  pub goes_on : (first : Step) (later : List Step) (ending : Option Ending) → IsWalk ask station targets first later ending → IsWhole ask given ending (steps ++ first ∷ later)
  pub done : deeds now ≡ after_deeds (flat_map (step_deeds ask) steps) (deeds old)

pub no_step : {W : Type 0} (deeds : W → Option (List Deed)) (ask : Ask) (given : Targets) (old : W) → OnWay deeds ask given Given given old old
no_step deeds ask given old = record {
  steps = [];
  goes_on = λ first later ending walk. record { first = first; later = later; all_is = refl; walk = walk };
  done = after_none (deeds old);
}

-- the deeds of one step more
more_done : (ask : Ask) (steps : List Step) (one : Step) (before mid after : Option (List Deed))
    → mid ≡ after_deeds (flat_map (step_deeds ask) steps) before → after ≡ after_deeds (step_deeds ask one) mid
    → after ≡ after_deeds (flat_map (step_deeds ask) (steps ++ one ∷ [])) before
more_done ask steps one before mid after earlier last =
    last ∙ ap (λ (d : Option (List Deed)). after_deeds (step_deeds ask one) d) earlier
    ∙ after_both (flat_map (step_deeds ask) steps) (step_deeds ask one) before
    ∙ ap (λ (all : List Deed). after_deeds all before) (ap (λ (all : List Deed). flat_map (step_deeds ask) steps ++ all) (sym (append-nil (step_deeds ask one))))
    ∙ ap (λ (all : List Deed). after_deeds all before) (sym (flat_map-append (step_deeds ask) steps (one ∷ [])))

-- A step that heard a referral stands before a walk from there.
walk_by_step : (ask : Ask) (station : Station) (targets : Targets) (step : Step) (zone : Labels) (message : List ℕ) (first : Step) (later : List Step) (ending : Option Ending)
    → step.station ≡ station → step.targets ≡ targets → Hears ask step (Some message) → judge ask.name station (Some message) ≡ Refers zone
    → IsWalk ask (Zone zone) (targets_of station zone message) first later ending → IsWalk ask station targets step (first ∷ later) ending
walk_by_step ask station targets step zone message first later ending at has hears refers walk = record {
  at_station = at;
  has_targets = has;
  path = (
    record {
      zone = zone;
      message = message;
      hears = hears;
      refers = subst (λ (p : Station). judge ask.name p (Some message) ≡ Refers zone) (sym at) refers;
      station = walk.at_station;
      targets = walk.has_targets ∙ ap (λ (p : Station). targets_of p zone message) (sym at);
    },
    walk.path,
  );
  few = let smaller : room ask.name (Zone zone) < room ask.name station = room_shrinks ask.name station message zone refers in omega (arith, smaller, walk.few);
}

pub step_more : {W : Type 0} (deeds : W → Option (List Deed)) (ask : Ask) (given : Targets) (station : Station) (targets : Targets) (h : UsefulAnswer) (zone : Labels) (next : Targets) (old mid new : W)
    → OnWay deeds ask given station targets old mid → DidStep deeds ask station targets (Some h) mid new → h.verdict ≡ Refers zone → next ≡ targets_of station zone h.message
    → OnWay deeds ask given (Zone zone) next old new
step_more deeds ask given station targets h zone next old mid new so did is next_is = record {
  steps = so.steps ++ did.step ∷ [];
  goes_on = λ first later ending walk.
      subst (λ (all : List Step). IsWhole ask given ending all) (sym (append_assoc so.steps (did.step ∷ []) (first ∷ later)))
      (so.goes_on did.step (first ∷ later) ending
      (walk_by_step ask station targets did.step zone h.message first later ending did.at_station did.has_targets did.hears (sym did.is_judged.0 ∙ is)
      (subst (λ (t : Targets). IsWalk ask (Zone zone) t first later ending) next_is walk)));
  done = more_done ask so.steps did.step (deeds old) (deeds mid) (deeds new) so.done did.done;
}

-- what was done when a walk ends with this step
ended : {W : Type 0} (deeds : W → Option (List Deed)) (ask : Ask) (given : Targets) (station : Station) (targets : Targets) (heard : Option UsefulAnswer) (ending : Option Ending) (old mid new : W)
    → OnWay deeds ask given station targets old mid → (did : DidStep deeds ask station targets heard mid new) → EndsAt ask did.step ending
    → Walked deeds ask Given given ending old new
ended deeds ask given station targets heard ending old mid new so did ends =
    let one : IsWalk ask station targets did.step [] ending = record { at_station = did.at_station; has_targets = did.has_targets; path = ends; few = some_room ask.name station } in
    let whole : IsWhole ask given ending (so.steps ++ did.step ∷ []) = so.goes_on did.step [] ending one in
    record {
      first = whole.first;
      later = whole.later;
      walk = whole.walk;
      done =
          more_done ask so.steps did.step (deeds old) (deeds mid) (deeds new) so.done did.done
          ∙ ap (λ (all : List Step). after_deeds (flat_map (step_deeds ask) all) (deeds old)) whole.all_is;
    }

pub step_last : {W : Type 0} (deeds : W → Option (List Deed)) (ask : Ask) (given : Targets) (station : Station) (targets : Targets) (h : UsefulAnswer) (e : Ending) (old mid new : W)
    → OnWay deeds ask given station targets old mid → DidStep deeds ask station targets (Some h) mid new → h.verdict ≡ Ends e
    → Walked deeds ask Given given (Some e) old new
step_last deeds ask given station targets h e old mid new so did is =
    ended deeds ask given station targets (Some h) (Some e) old mid new so did
    (final h.message e did.hears (subst (λ (p : Station). judge ask.name p (Some h.message) ≡ Ends e) (sym did.at_station) (sym did.is_judged.0 ∙ is)) refl)

pub step_stranded : {W : Type 0} (deeds : W → Option (List Deed)) (ask : Ask) (given : Targets) (station : Station) (targets : Targets) (old mid new : W)
    → OnWay deeds ask given station targets old mid → DidStep deeds ask station targets None mid new → Walked deeds ask Given given None old new
step_stranded deeds ask given station targets old mid new so did =
    ended deeds ask given station targets None None old mid new so did (stranded did.hears refl)
