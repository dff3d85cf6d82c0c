-- Octets that come in pieces do to the client of a configuration what they do in one.
use Rattle.std.specs.Prelude.{◌≡◌, ℕ, List, [], ◌∷◌, ◌++◌, Option, Some}
use Rattle.client_request.specs.declared.event.Event.{Event}
use Rattle.client_request.specs.declared.event.Out.{Out}
use Rattle.client_request.specs.declared.event.Row.{Row}
use Rattle.proof_client.specs.Ties.{AreHandedIn}
use Rattle.client_settings.specs.Settings.{CacheSettings, RedundantSettings}
use Rattle.client_steps.specs.Whole.{Client, machine, client_with, started_with, plain_trace, plain_trace_with}
use Rattle.proof_cutting.specs.Told.{IsCut, told_all}
use Rattle.resolv_conf.specs.declared.conf.ResolvConf.{ResolvConf}
use Rattle.client_settings.specs.declared.settings.Transports.{Transports}
use Rattle.client_settings.specs.Client.{default_transports}
use Rattle.right_settings.specs.Given.{AreGiven}
use Rattle.right_trace.specs.Trace as trace
use Rattle.client_steps.specs.Headline.{conf_with}

-- what is told of some events to the client of a configuration, from its beginning
abbrev pub all_told : Transports → RedundantSettings → CacheSettings → ResolvConf → (ℕ → ℕ) → List Event → Option (List Out × Client)
all_told given redundant cache conf words events = told_all machine conf.options.timeout events (client_with words (started_with given redundant cache conf))

-- Events of which one is cut put out the same in the same order, and leave the same client and the same words.
abbrev pub PiecesDoTheSame : Type 0
PiecesDoTheSame = (t : trace.Transports) (given : Transports) (redundant : RedundantSettings) (cache : CacheSettings) (conf : ResolvConf) (words : ℕ → ℕ) (events cut : List Event) → AreGiven (conf_with t conf) given → AreHandedIn cache words events → IsCut events cut
    → all_told given redundant cache conf words cut ≡ all_told given redundant cache conf words events

-- what rows put out, in order
abbrev pub outs_of : List Row → List Out
outs_of [] = []
outs_of (row ∷ rows) = row.outs ++ outs_of rows

-- However one of these events is cut, what these rows put out is put out, and the same client is left, with the same words.
pub record MayBeCutWith (given : Transports) (redundant : RedundantSettings) (cache : CacheSettings) (conf : ResolvConf) (words : ℕ → ℕ) (events : List Event) (rows : List Row) : Type 0 where
  pub client : Client
  pub whole : all_told given redundant cache conf words events ≡ Some (outs_of rows, client)
  pub cut : (cut : List Event) → IsCut events cut → all_told given redundant cache conf words cut ≡ Some (outs_of rows, client)

-- the same with the default settings of transports
abbrev pub MayBeCut : RedundantSettings → CacheSettings → ResolvConf → (words : ℕ → ℕ) → List Event → List Row → Type 0
MayBeCut = MayBeCutWith default_transports

-- The events of every plain trace may be cut, with any settings of transports.
abbrev pub TracesMayBeCut : Type 0
TracesMayBeCut = (t : trace.Transports) (given : Transports) (redundant : RedundantSettings) (cache : CacheSettings) (conf : ResolvConf) (words : ℕ → ℕ) (events : List Event) (rows : List Row) → AreGiven (conf_with t conf) given → plain_trace_with given redundant cache conf words events ≡ Some rows → AreHandedIn cache words events
    → MayBeCutWith given redundant cache conf words events rows

-- The events of every plain trace may be cut.
abbrev pub EveryPlainTraceMayBeCut : Type 0
EveryPlainTraceMayBeCut = (redundant : RedundantSettings) (cache : CacheSettings) (conf : ResolvConf) (words : ℕ → ℕ) (events : List Event) (rows : List Row) → plain_trace redundant cache conf words events ≡ Some rows → AreHandedIn cache words events
    → MayBeCut redundant cache conf words events rows
