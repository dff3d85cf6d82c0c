-- What changes at servers without a call of their transports changes nothing of whether one gave up.
use Rattle.std.proofs.Common.{◌≡◌, ℕ, ◌-◌, ◌==◌, ◌∙◌, ap, sym, refl, List, [], ◌∷◌, Bool, true, Option, Some, None, slice_get, Result, Ok, Err, OnOk}
use Rattle.std.proofs.lemmas.Option.{get_or_from_slice_get}
use Rattle.client_choice.specs.Choice.{judges_each}
use Rattle.client_choice.specs.Servers.{Server, flags, holds_failed, is_any, judged, judges, judges_found, disowned, disowned_at}
use Rattle.client_choice.specs.declared.job.Started.{Started}
use Rattle.client_choice.proofs.At.{kept_at}

module _ {U : Type 0} (f : U → Bool) where
  judged_found : (i : ℕ) (is_giver : Bool) (elapsed : ℕ) (servers : List (Server U)) (o : Option (Server U)) → slice_get servers i ≡ o → flags f (judges_found i is_giver elapsed servers o) ≡ flags f servers
  judged_found i is_giver elapsed servers None e = refl
  judged_found i is_giver elapsed servers (Some s) e = kept_at f servers i s (judged is_giver elapsed s) (sym (get_or_from_slice_get servers i s s e)) refl

  pub kept_judged : (i : ℕ) (is_giver : Bool) (elapsed : ℕ) (servers : List (Server U)) → flags f (judges i is_giver elapsed servers) ≡ flags f servers
  kept_judged i is_giver elapsed servers = judged_found i is_giver elapsed servers (slice_get servers i) refl

  pub kept_each : {P : Type 0} (giver now : ℕ) (started : List (Started P)) (servers : List (Server U)) → flags f (judges_each giver now started servers) ≡ flags f servers
  kept_each giver now [] servers = refl
  kept_each giver now (s ∷ more) servers = kept_each giver now more (judges s.server (s.server == giver) (now - s.since) servers) ∙ kept_judged s.server (s.server == giver) (now - s.since) servers

  disowned_found : (i lower : ℕ) (servers : List (Server U)) (o : Option (Server U)) → slice_get servers i ≡ o → flags f (disowned_at i lower servers o) ≡ flags f servers
  disowned_found i lower servers None e = refl
  disowned_found i lower servers (Some s) e = kept_at f servers i s _ (sym (get_or_from_slice_get servers i s s e)) refl

  pub kept_disowned : (i lower : ℕ) (servers : List (Server U)) → flags f (disowned i lower servers) ≡ flags f servers
  kept_disowned i lower servers = disowned_found i lower servers (slice_get servers i) refl

  pub failed_back : (a b : List (Server U)) → flags f a ≡ flags f b → holds_failed f a ≡ true → holds_failed f b ≡ true
  failed_back a b e h = ap is_any (sym e) ∙ h

pub on_ok : {A E B : Type 0} (r : Result A E) (a b c : B) → OnOk r (a ≡ b) → b ≡ c → OnOk r (a ≡ c)
on_ok (Ok x) a b c h e = h ∙ e
on_ok (Err x) a b c h e = _
