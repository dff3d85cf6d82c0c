-- Servers that are asked one after another.
use Rattle.std.proofs.Common.{◌≡◌, ℕ, Bool, true, false, List, [], ◌∷◌, ◌++◌, refl, ap, sym, subst, ◌∙◌, append_assoc, append-nil, Option, None, Some}
use Rattle.std.specs.Prelude.{if◌then◌else◌}
use Rattle.std.specs.List.{flat_map}
use Rattle.std.proofs.lemmas.Grind.{flat_map-append}
use Rattle.dns_lookup_words.specs.declared.manner.Ask.{Ask}
use Rattle.dns_names.specs.Name.{Labels}
use Rattle.dns_lookup_walk.specs.Deeds.{Deed, after_deed, after_deeds, asked, question_at, told}
use Rattle.dns_lookup_walk.specs.Steps.{AreTried, Try, failed, heard, none_left, try_deeds}
use Rattle.dns_lookup_walk.specs.Trying.{DidAsk, DidTry, heard_of}
use Rattle.dns_lookup_walk.specs.Verdicts.{fails, judge}
use Rattle.dns_lookup_walk.specs.declared.station.Station.{Station}
use Rattle.dns_lookup_walk.specs.declared.server.NameServer.{NameServer}
use Rattle.dns_lookup_walk.specs.declared.trying.UsefulAnswer.{UsefulAnswer}
use Rattle.dns_lookup_walk.specs.declared.verdict.Verdict.{Verdict}
use Rattle.dns_lookup_walk.proofs.Doing.{after_both, after_none}

-- what came is the message that is heard, and it does not fail
pub record IsHeard (name : Labels) (station : Station) (came : Option (List ℕ)) (h : UsefulAnswer) : Type 0 where
  pub came_is : came ≡ Some h.message
  pub holds : fails (judge name station came) ≡ false
  pub judged : h.verdict ≡ judge name station came

picked : (b : Bool) (h other : UsefulAnswer) → Some h ≡ (if b then None else Some other) → (h ≡ other) × (b ≡ false)
picked true h other e = absurd cc
picked false h other e = (cc, refl)

pub is_heard : (name : Labels) (station : Station) (came : Option (List ℕ)) (h : UsefulAnswer) → Some h ≡ heard_of came (judge name station came) → IsHeard name station came h
is_heard name station None h e = absurd cc
is_heard name station (Some m) h e =
    let one = picked (fails (judge name station (Some m))) h (record { message = m; verdict = judge name station (Some m) }) e in
    record {
      came_is = sym (ap (λ (x : UsefulAnswer). Some x.message) one.0);
      holds = one.1;
      judged = ap (λ (x : UsefulAnswer). x.verdict) one.0;
    }

none_if : (b : Bool) (other : UsefulAnswer) → None ≡ (if b then None else Some other) → b ≡ true
none_if true other e = refl
none_if false other e = absurd cc

pub has_failed : (name : Labels) (station : Station) (came : Option (List ℕ)) → None ≡ heard_of came (judge name station came) → fails (judge name station came) ≡ true
has_failed name station None e = refl
has_failed name station (Some m) e = none_if (fails (judge name station (Some m))) (record { message = m; verdict = judge name station (Some m) }) e

-- A server was asked, and then it was told what that means.
pub did_ask : {W : Type 0} (deeds : W → Option (List Deed)) (ask : Ask) (station : Station) (server : NameServer) (question : List ℕ) (came : Option (List ℕ)) (verdict : Verdict) (found : Option UsefulAnswer) (old mid new : W)
    → question ≡ question_at ask station → verdict ≡ judge ask.name station came → deeds mid ≡ after_deed (asked server question came) (deeds old)
    → deeds new ≡ after_deed (told server came verdict) (deeds mid) → found ≡ heard_of came verdict → DidAsk deeds ask station server found old new
did_ask deeds ask station server question came verdict found old mid new question_is verdict_is first last is = record {
  came = came;
  is_heard = is ∙ ap (λ (v : Verdict). heard_of came v) verdict_is;
  done =
      last ∙ ap (λ (d : Option (List Deed)). after_deed (told server came verdict) d) first
      ∙ after_both (asked server question came ∷ []) (told server came verdict ∷ []) (deeds old)
      ∙ ap (λ (q : List ℕ). after_deeds (asked server q came ∷ told server came verdict ∷ []) (deeds old)) question_is
      ∙ ap (λ (v : Verdict). after_deeds (asked server (question_at ask station) came ∷ told server came v ∷ []) (deeds old)) verdict_is;
}

-- what is so before the next of some servers is asked: these are left, and each before them failed
pub record TriedSoFar {W : Type 0} (deeds : W → Option (List Deed)) (ask : Ask) (station : Station) (servers rest : List NameServer) (old now : W) : Type 0 where
  pub tries : List Try
  pub goes_on : (later : List Try) (message : Option (List ℕ)) → AreTried ask station rest later message → AreTried ask station servers (tries ++ later) message
  pub done : deeds now ≡ after_deeds (flat_map (try_deeds ask station) tries) (deeds old)

pub none_tried : {W : Type 0} (deeds : W → Option (List Deed)) (ask : Ask) (station : Station) (servers : List NameServer) (old : W) → TriedSoFar deeds ask station servers servers old old
none_tried deeds ask station servers old = record { tries = []; goes_on = λ later message tried. tried; done = after_none (deeds old) }

-- the deeds of one try more
more_done : (ask : Ask) (station : Station) (tries : List Try) (one : Try) (before mid after : Option (List Deed))
    → mid ≡ after_deeds (flat_map (try_deeds ask station) tries) before → after ≡ after_deeds (try_deeds ask station one) mid
    → after ≡ after_deeds (flat_map (try_deeds ask station) (tries ++ one ∷ [])) before
more_done ask station tries one before mid after earlier last =
    last ∙ ap (λ (d : Option (List Deed)). after_deeds (try_deeds ask station one) d) earlier
    ∙ after_both (flat_map (try_deeds ask station) tries) (try_deeds ask station one) before
    ∙ ap (λ (all : List Deed). after_deeds all before) (sym (flat_map-append (try_deeds ask station) tries (one ∷ [])))

pub one_failed : {W : Type 0} (deeds : W → Option (List Deed)) (ask : Ask) (station : Station) (servers rest : List NameServer) (server : NameServer) (later : List NameServer) (old mid new : W)
    → rest ≡ server ∷ later → TriedSoFar deeds ask station servers rest old mid → DidAsk deeds ask station server None mid new
    → TriedSoFar deeds ask station servers later old new
one_failed deeds ask station servers rest server later old mid new is so did =
    let one : Try = record { server = server; came = did.came } in
    record {
      tries = so.tries ++ one ∷ [];
      goes_on = λ others message tried.
          subst (λ (all : List Try). AreTried ask station servers all message) (sym (append_assoc so.tries (one ∷ []) others))
          (so.goes_on (one ∷ others) message
          (subst (λ (s : List NameServer). AreTried ask station s (one ∷ others) message) (sym is)
          (failed server did.came later others message (has_failed ask.name station did.came did.is_heard) tried)));
      done = more_done ask station so.tries one (deeds old) (deeds mid) (deeds new) so.done did.done;
    }

pub one_heard : {W : Type 0} (deeds : W → Option (List Deed)) (ask : Ask) (station : Station) (servers rest : List NameServer) (server : NameServer) (later : List NameServer) (h : UsefulAnswer) (old mid new : W)
    → rest ≡ server ∷ later → TriedSoFar deeds ask station servers rest old mid → DidAsk deeds ask station server (Some h) mid new
    → DidTry deeds ask station servers (Some h) old new
one_heard deeds ask station servers rest server later h old mid new is so did =
    let one : Try = record { server = server; came = did.came } in
    let heard_so = is_heard ask.name station did.came h did.is_heard in
    let now : Try = record { server = server; came = Some h.message } in
    let same : now ≡ one = ap (λ (c : Option (List ℕ)). record { server = server; came = c }) (sym heard_so.came_is) in
    record {
      tries = so.tries ++ one ∷ [];
      are_tried =
          so.goes_on (one ∷ []) (Some h.message)
          (subst (λ (s : List NameServer). AreTried ask station s (one ∷ []) (Some h.message)) (sym is)
          (subst (λ (t : Try). AreTried ask station (server ∷ later) (t ∷ []) (Some h.message)) same
          (heard server h.message later (subst (λ (c : Option (List ℕ)). fails (judge ask.name station c) ≡ false) heard_so.came_is heard_so.holds))));
      is_judged = (
        subst (λ (c : Option (List ℕ)). h.verdict ≡ judge ask.name station c) heard_so.came_is heard_so.judged,
        ap (λ (v : Verdict). fails v) heard_so.judged ∙ heard_so.holds,
      );
      done = more_done ask station so.tries one (deeds old) (deeds mid) (deeds new) so.done did.done;
    }

pub all_failed : {W : Type 0} (deeds : W → Option (List Deed)) (ask : Ask) (station : Station) (servers rest : List NameServer) (old now : W)
    → rest ≡ [] → TriedSoFar deeds ask station servers rest old now → DidTry deeds ask station servers None old now
all_failed deeds ask station servers rest old now is so = record {
  tries = so.tries ++ [];
  are_tried = so.goes_on [] None (subst (λ (s : List NameServer). AreTried ask station s [] None) (sym is) none_left);
  is_judged = tt;
  done = so.done ∙ ap (λ (all : List Try). after_deeds (flat_map (try_deeds ask station) all) (deeds old)) (sym (append-nil so.tries));
}
