-- A choice among servers that are tied, where a row may end, is fit to be called, and no whole frame stands there.
use Rattle.std.proofs.Common.{◌≡◌, ℕ, suc, ◌<◌, ◌≤◌, inl, inr, false, List, [], ◌∷◌, length, Option, Some, None, slice_get, refl, sym, subst, arith}
use Rattle.client_choice.specs.Choice.{Choice}
use Rattle.client_choice.specs.Servers.{Server}
use Rattle.client_request.specs.Request.{Request}
use Rattle.client_request.specs.View.{View}
use Rattle.proof_parts.specs.PartTie.{Phase, Untold, Told, Passed, MayEnd}
use Rattle.proof_parts.specs.Sights.{Sight, sight}
use Rattle.proof_parts.proofs.Keys.{each_number}
use Rattle.proof_choice.specs.Choosing.{Choosing}
use Rattle.proof_choice.specs.Servers.{State}
use Rattle.proof_choice.specs.Whole.{Whole, IsServers, IsAt, Tied}
use Rattle.proof_choice.proofs.ServerCalls.{in_conf}
use Rattle.proof_cutting.specs.Choices.{octets_or, servers_octets, choice_octets, IsFitChoice}
use Rattle.proof_cutting.specs.Pieces.{stands}
use Rattle.proof_cutting.proofs.FitStreams.{RestsFit}

-- where no frame stands at a server, none stands at the first that has the place
none_at_first : {U : Type 0} (octets : U → Option (List ℕ)) (servers : List (Server U)) → ((i : ℕ) (s : Server U) → slice_get servers i ≡ Some s → stands (octets s.upstream) ≡ false) → stands (servers_octets octets servers) ≡ false
none_at_first octets [] none = refl
none_at_first octets (s ∷ more) none = by (octets s.upstream) (none 0 s refl) (none_at_first octets more (λ i r at. none (suc i) r at))
  where
    by : (o : Option (List ℕ)) → stands o ≡ false → stands (servers_octets octets more) ≡ false → stands (octets_or o (servers_octets octets more)) ≡ false
    by None e rest = rest
    by (Some o) e rest = e

at_most : (a b : ℕ) → b ≡ a → a ≤ b
at_most a b e = omega arith

module _ (g : Choosing) where
  -- where the whole may end, so may each server
  may_end : (phase : Phase) (phases : ℕ → Phase) (c : Choice Request g.U g.R) (v : View) (s : ℕ) → MayEnd phase → IsAt g phase phases c v → s < length (g.c).servers → MayEnd (phases s)
  may_end (Untold w) phases c v s may at lt = subst MayEnd (sym (at s lt)) may
  may_end (Told p left) phases c v s may (inl o) lt = each_number (λ s. s < length (g.c).servers → MayEnd (phases s)) o.server (λ lt. subst MayEnd (sym o.told) may) (λ q ne lt. subst MayEnd (sym (o.passed q lt ne)) tt) s lt
  may_end (Told p left) phases c v s may (inr (none, inl o)) lt = subst MayEnd (sym (o.passed s lt)) tt
  may_end (Told p left) phases c v s may (inr (none, inr o)) lt = subst MayEnd (sym (o.begun s lt)) refl
  may_end (Passed w) phases c v s may at lt = absurd at

  module _ (octets : (place : ℕ) → g.U → Option (List ℕ)) (IsFit : g.U → (timer : ℕ) → Type 0) where
    -- so it is of each server that is tied
    abbrev pub ServersRestFit : Type 0
    ServersRestFit = (s : ℕ) (phase : Phase) (u : g.U) (x : Sight) (a : g.P.State) → MayEnd phase → g.Tied s phase u x a → RestsFit (IsFit u x.timer) (λ p. octets p u) (g.has a)

    module _ (rest_fit : ServersRestFit) (phase : Phase) (r : Whole g) (x : Sight) (a : State g) (may : MayEnd phase) (t : Tied g phase r x a) where
      within : (s : ℕ) (e : Server g.U) → slice_get r.choice.servers s ≡ Some e → s < length (g.c).servers
      within s e at = in_conf g t.phases r.choice.servers t.view a s e t.agrees.servers at

      each_rests : (s : ℕ) (e : Server g.U) → slice_get r.choice.servers s ≡ Some e → RestsFit (IsFit e.upstream x.timer) (λ p. octets p e.upstream) (g.has (a.ups s))
      each_rests s e at =
          let lt = within s e at in
          rest_fit s (t.phases s) e.upstream x (a.ups s) (may_end phase t.phases r.choice t.view s may t.is_at lt)
          ((g.tie s lt).same (t.phases s) e.upstream (sight t.view) x (a.ups s) (t.agrees.servers.tied s e at) t.seen.now (λ i own. t.seen.dues i (IsServers s e at own)) t.seen.timer t.seen.ticket (at_most t.view.place x.place t.seen.place))

      pub choice_fits : (p : ℕ) → IsFitChoice (octets p) IsFit r x.timer
      choice_fits p = record {
        fit = λ s e at. ((each_rests s e at).fit, (t.agrees.quiet s e at).0);
        alone = λ s q e f at of here there. t.agrees.servers.places.places s q p (within s e at) (within q f of) ((each_rests s e at).there p here) ((each_rests q f of).there p there);
      }

      pub none_in_choice : (p : ℕ) → stands (choice_octets (octets p) r) ≡ false
      none_in_choice p = none_at_first (octets p) r.choice.servers (λ s e at. (each_rests s e at).none p)
