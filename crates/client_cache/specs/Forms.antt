-- How a kept message is given without being composed anew.
use Rattle.std.specs.Prelude.{false}
use Rattle.right_trace.specs.Messages.{Octets}
use Rattle.message_patching.specs.Laws.{GivesViews}
use Rattle.client_cache.specs.declared.form.Form.{Form}
use Rattle.client_cache.specs.declared.form.Form.TheVariants.{Untried, Composed, Patched}

-- What is patched gives the message's views in which no record is left out.
abbrev pub IsFormOf : Octets → Form → Type 0
IsFormOf m Untried = Unit {0}
IsFormOf m Composed = Unit {0}
IsFormOf m (Patched t) = GivesViews false m t
