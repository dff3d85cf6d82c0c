-- What is around a program that asks: an edge, a clock and words.
use Rattle.std.specs.Prelude.{ℕ, Bool, true, false, List, map, Option, None, Some, Result, Ok, Err}
use Rattle.command_parts.specs.Ends.{IsSaid}
use Rattle.dns_lookup_run.specs.Watched.{Seen, Times}
use Rattle.client_core.specs.declared.edge.Deed.{Deed}
use Rattle.client_core.specs.declared.edge.Deed.TheVariants.{Learned}
use Rattle.client_loop.specs.Asking.{Scene, scene}
use Rattle.client_loop.specs.Turns.{after_deeds}
use Rattle.client_request.specs.declared.error.Error.{Error}
use Rattle.client_settings.specs.Settings.{default_cache}
use Rattle.client_settings.specs.declared.settings.Settings.{Settings}
use Rattle.client_settings.specs.declared.settings.Transports.{Transports}
use Rattle.dns_lookup_words.specs.declared.lookup.Lookup.{Lookup}
use Rattle.dns_lookup_words.specs.declared.manner.Announced.{Announced}
use Rattle.dns_lookup_words.specs.declared.manner.Announced.TheVariants.{Nothing, Size, Usual}
use Rattle.resolver_policy.specs.Practice.{announcing, practical_choice, practical_transports}
use Rattle.client_steps.specs.Whole.{Whole, started_with}
use Rattle.resolv_conf.specs.declared.conf.ResolvConf.{ResolvConf}

-- the words that come, what the edge tells, its count of polls, and the moments that the clock tells
pub record World : Type 0 where
  pub words : ℕ → ℕ
  pub deeds : Option (List Deed)
  pub polls : ℕ
  pub moments : Option (List ℕ)

abbrev pub world : (ℕ → ℕ) → Option (List Deed) → ℕ → Option (List ℕ) → World
world words deeds polls moments = record { words = words; deeds = deeds; polls = polls; moments = moments }

-- the same with other words to come
abbrev pub at_words : (ℕ → ℕ) → World → World
at_words left w = record w { words = left }

-- What holds of the world before and after a call, by what a watched edge, a watched clock and words tell.
abbrev pub around : {E C W : Type 0} {R : Type 1} → (E → Option (List Deed)) → (E → ℕ) → (C → Option (List ℕ)) → (W → ℕ → ℕ) → (old new : Seen E × Times C × W) → (World → World → R) → R
around deeds polls given stream old new P =
    P (world (stream old.2) (deeds old.0.edge) (polls old.0.edge) (given old.1.clock)) (world (stream new.2) (deeds new.0.edge) (polls new.0.edge) (given new.1.clock))

-- what is told of by a sink: a line is written whole, or the first of it, and then its count of faults rose
abbrev pub said : {L : Type 0} → (L → Option (List ℕ)) → (L → ℕ) → (old new : L) → (line : List ℕ) → Type 0
said held faults old new line = IsSaid line (held old) (held new) (faults old) (faults new)

-- settings of transports, with the payload size that words announce
abbrev pub announced : Announced → Transports → Transports
announced Usual t = t
announced (Size n) t = announcing (Some n) t
announced Nothing t = announcing None t

-- how the client is set that asks the servers of a lookup's configuration, and a new one, which asks as practice has it but for what the lookup says
abbrev pub transports_for : Lookup → ResolvConf → Transports
transports_for lookup conf = announced lookup.announced (practical_transports conf)

abbrev pub settings_for : Lookup → ResolvConf → Settings
settings_for lookup conf = record { redundant = practical_choice; cache = default_cache; transports = transports_for lookup conf }

abbrev pub client_for : Lookup → ResolvConf → Whole
client_for lookup conf = started_with (transports_for lookup conf) practical_choice default_cache conf

-- such a client, whose servers the edge has learned; it keeps these waits
abbrev pub begun : Lookup → ResolvConf → World → Option (List ℕ) → Scene
begun lookup conf old waits = scene (client_for lookup conf) old.words (after_deeds (map (λ server. Learned server) conf.servers) old.deeds) waits old.polls old.moments

-- it is a message
abbrev pub is_message : Option (Result (List ℕ) Error) → Bool
is_message (Some (Ok message)) = true
is_message (Some (Err error)) = false
is_message None = false
