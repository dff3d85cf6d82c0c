-- A stub resolver: a client with an edge, a clock and words of its own.
use Rattle.std.specs.Prelude.{ℕ, Bool, List, Option}
use Rattle.dns_values.specs.Source.{one_more}
use Rattle.client_steps.specs.Whole.{Whole}
use Rattle.client_core.specs.declared.edge.Deed.{Deed}
use Rattle.client_loop.specs.Asking.{Scene, scene}
use Rattle.resolv_conf.specs.declared.options.ResolvOptions.{ResolvOptions}

-- `failed` is whether a call found no memory or no number.
pub record Stub (E C W : Type 0) : Type 0 where
  pub client : Whole
  pub options : ResolvOptions
  pub edge : E
  pub clock : C
  pub words : W
  pub faults : ℕ
  pub failed : Bool

-- with one fault more
abbrev pub with_fault : {E C W : Type 0} → Stub E C W → Stub E C W
with_fault s = record s { faults = one_more s.faults }

-- what is seen of it, by what an edge, a clock and words tell
abbrev pub seen : {E C W : Type 0} → (E → Option (List Deed)) → (E → Option (List ℕ)) → (E → ℕ) → (C → Option (List ℕ)) → (W → ℕ → ℕ) → Stub E C W → Scene
seen deeds waits polls given stream s = scene s.client (stream s.words) (deeds s.edge) (waits s.edge) (polls s.edge) (given s.clock)
