-- Which places a server opens with its moves: none but the next ones.
use Rattle.std.proofs.Common.{ℕ, ◌<◌, ◌≤◌, inl, inr, arith, le_refl}
use Rattle.client_request.specs.Request.{Request}
use Rattle.proof_right.specs.machine.Part.{Act}
use Rattle.proof_parts.specs.Chains.{Chain, Stays, Goes, Begins, Calls, then_act}
use Rattle.proof_choice.specs.Choosing.{Choosing}
use Rattle.proof_choice.specs.Servers.{OpensOn}

pub up_through : (a b c : ℕ) → a ≤ b → b ≤ c → a ≤ c
up_through a b c p q = omega arith

pub below_up_to : (a b c : ℕ) → a < b → b ≤ c → a < c
below_up_to a b c p q = omega arith

module _ (g : Choosing) (s : ℕ) where
  opens_then : (place : ℕ) (u : g.P.State) (d e : Act g.P.State) → OpensOn g place u d → OpensOn g d.place d.state e → OpensOn g place u (then_act d e)
  opens_then place u d e a b = record {
    on = up_through place d.place e.place a.on b.on;
    opened = λ p is. elim (b.opened p is) [
      | inl had ↦ elim (a.opened p had) [ inl was ↦ inl was | inr new ↦ inr (new.0, below_up_to p d.place e.place new.1 b.on) ]
      | inr new ↦ inr (up_through place d.place p a.on new.0, new.1)
    ];
  }

  pub chain_opens : (place : ℕ) (u : g.P.State) (made : Act g.P.State) → Chain g.P s place u made → OpensOn g place u made
  chain_opens _ _ _ (Stays place u) = record { on = le_refl place; opened = λ p is. inl is }
  chain_opens _ _ _ (Goes place u d e acts rest) =
      (let o = g.opens.acts s place u d acts in opens_then place u d e (record { on = o.0; opened = o.1 }) (chain_opens d.place d.state e rest))

  pub start_opens : (place k : ℕ) (r : Request) (u : g.P.State) (made : Act g.P.State) → Begins (g.P.Starts s place k r u) (Chain g.P s) made → OpensOn g place u made
  start_opens place k r u _ (Calls d e call rest) =
      (let o = g.opens.starts s place k r u d call in opens_then place u d e (record { on = o.0; opened = o.1 }) (chain_opens d.place d.state e rest))

  pub cancel_opens : (place k : ℕ) (u : g.P.State) (made : Act g.P.State) → Begins (g.P.Cancels s place k u) (Chain g.P s) made → OpensOn g place u made
  cancel_opens place k u _ (Calls d e call rest) =
      (let o = g.opens.cancels s place k u d call in opens_then place u d e (record { on = o.0; opened = o.1 }) (chain_opens d.place d.state e rest))
