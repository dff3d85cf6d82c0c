-- A stub resolver that is made, and one that gets a server more.
use Rattle.std.specs.Prelude.{◌≡◌, ℕ, false, List, map, Option, Result, Err, IfSome}
use Rattle.client_settings.specs.Client.{default_settings}
use Rattle.client_settings.specs.declared.settings.Settings.{Settings}
use Rattle.client_steps.specs.Whole.{started_with}
use Rattle.client_core.specs.declared.edge.Deed.{Deed}
use Rattle.client_core.specs.declared.edge.Deed.TheVariants.{Learned}
use Rattle.client_loop.specs.Turns.{after_deeds}
use Rattle.resolv_conf.specs.Files.{IsDefaultOf, system_file}
use Rattle.resolv_conf.specs.declared.conf.ResolvConf.{ResolvConf}
use Rattle.stub_resolver.specs.Stub.{Stub}

-- A resolver is new: its client has these settings, its edge has learned the configuration's servers in order, and nothing was asked.
pub record IsNewWith {E C W : Type 0} (settings : Settings) (deeds : E → Option (List Deed)) (waits : E → Option (List ℕ)) (polls faults : E → ℕ) (conf : ResolvConf) (edge : E) (clock : C) (words : W) (s : Stub E C W) : Type 0 where
  pub client : s.client ≡ started_with settings.transports settings.redundant settings.cache conf
  pub options : s.options ≡ conf.options
  pub learned : deeds s.edge ≡ after_deeds (map (λ server. Learned server) conf.servers) (deeds edge)
  pub no_wait : waits s.edge ≡ waits edge
  pub not_polled : polls s.edge ≡ polls edge
  pub no_fault : faults s.edge ≡ faults edge
  pub same_clock : s.clock ≡ clock
  pub same_words : s.words ≡ words
  pub no_faults : s.faults ≡ 0
  pub lasts : s.failed ≡ false

-- the same with the default settings
abbrev pub IsNew : {E C W : Type 0} → (E → Option (List Deed)) → (E → Option (List ℕ)) → (polls faults : E → ℕ) → ResolvConf → E → C → W → Stub E C W → Type 0
IsNew deeds waits polls faults conf edge clock words s = IsNewWith default_settings deeds waits polls faults conf edge clock words s

-- The resolver is that of the configuration that the system's file says, where what opens it tells its files; the counts are of that one's faults.
pub record ByFile {E C W : Type 0} (deeds : E → Option (List Deed)) (waits : E → Option (List ℕ)) (polls faults : E → ℕ) (files : Option (List ℕ → Option (List ℕ))) (before after : ℕ) (edge : E) (clock : C) (words : W) (s : Stub E C W) : Type 0 where
  pub conf : ResolvConf
  pub is_new : IsNew deeds waits polls faults conf edge clock words s
  pub is_read : IfSome files (λ file_at. IsDefaultOf (file_at system_file) before after conf)

-- An operation was called with such a resolver, and gave this, or there was no memory for one, and the result is what that becomes.
pub data IsDone {E C W T F : Type 0} (IsMade : Stub E C W → Type 0) (Gives : Stub E C W → Result T F → Stub E C W → Type 0) (IsWant : F → Type 0) (result : Result T F) : Type 0 where
  done : (resolver after : Stub E C W) → IsMade resolver → Gives resolver result after → IsDone IsMade Gives IsWant result
  starved : (fault : F) → IsWant fault → result ≡ Err fault → IsDone IsMade Gives IsWant result
