-- What is done with an edge.
use Rattle.std.specs.Prelude.{ℕ, Bool, true, false, if◌then◌else◌, List, [], ◌∷◌, ◌++◌, Option, None, Some, option_map}
use Rattle.dns_values.specs.Source.{one_more}
use Rattle.client_request.specs.declared.event.What.{What}
use Rattle.client_request.specs.declared.event.What.TheVariants.{OpenFailed, SendFailed, ShortSend, RecvFailed, WriteFailed, ReadFailed, Ended}
use Rattle.client_core.specs.declared.edge.Deed.{Deed}

abbrev pub after_deed : Deed → Option (List Deed) → Option (List Deed)
after_deed deed deeds = option_map (λ ds. ds ++ deed ∷ []) deeds

-- an event that tells of a fault
abbrev pub is_fault : What → Bool
is_fault (OpenFailed place fault) = true
is_fault (SendFailed place fault) = true
is_fault (ShortSend place) = true
is_fault (RecvFailed place fault) = true
is_fault (WriteFailed place fault) = true
is_fault (ReadFailed place fault) = true
is_fault (Ended place) = true
is_fault _ = false

abbrev pub after_fault : Option What → ℕ → ℕ
after_fault None count = count
after_fault (Some what) count = if is_fault what then one_more count else count
