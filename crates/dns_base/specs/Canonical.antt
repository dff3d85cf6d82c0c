-- The name that the aliases of an answer lead to (RFC 1034 3.6.2).
use Rattle.std.specs.Prelude.{ℕ, zero, suc, List, [], ◌∷◌, Option, Some, None, option_and_then, is_none, ◌==◌, ◌&&◌, Bool, if◌then◌else◌}
use Rattle.std.specs.Option.{option_map_or}
use Rattle.dns_names.specs.Name.{Labels, same_name}
use Rattle.dns_base.specs.Numbers.{u16_at, ◌>>=◌}
use Rattle.dns_base.specs.Data.{Data, One}
use Rattle.dns_base.specs.Message.{Known, first_question, answer_records}

abbrev pub is_alias : Labels → Known → Bool
is_alias owner known = known.entry.rtype == 5 && same_name known.entry.owner owner

-- the first alias of an owner
abbrev pub alias_in : Labels → List Known → Option Known
alias_in owner [] = None
alias_in owner (known ∷ others) = if is_alias owner known then Some known else alias_in owner others

-- the name that the data of an alias says, if it is read
abbrev pub target_in : Option Data → Option Labels
target_in (Some (One rtype target)) = if rtype == 5 then Some target else None
target_in _ = None

-- from alias to alias, in at most so many steps
abbrev pub followed : ℕ → List Known → Labels → Option Labels
followed zero records name = if is_none (alias_in name records) then Some name else None
followed (suc steps) records name =
    option_map_or (λ known. option_and_then (followed steps records) (target_in known.says)) (alias_in name records) (Some name)

unfoldable pub canonical_name : List ℕ → Option Labels
canonical_name octets = do
  asked ← first_question octets
  records ← answer_records octets
  followed (u16_at octets 6) records asked.name
