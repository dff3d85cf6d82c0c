-- What is done with a world.
use Rattle.std.specs.Prelude.{ℕ, false, List, [], ◌∷◌, ◌++◌, Option, option_map}
use Rattle.dns_lookup_pages.specs.Queries.{query_octets}
use Rattle.dns_lookup_words.specs.declared.manner.Ask.{Ask}
use Rattle.dns_names.specs.Name.{Labels}
use Rattle.dns_values.specs.declared.address.IpAddr.{IpAddr}
use Rattle.dns_lookup_walk.specs.declared.station.Station.{Station}
use Rattle.dns_lookup_walk.specs.declared.station.Station.TheVariants.{Given, Zone}
use Rattle.dns_lookup_walk.specs.declared.server.NameServer.{NameServer}
use Rattle.dns_lookup_walk.specs.declared.verdict.Verdict.{Verdict}

pub data Deed : Type 0 where
  -- a server was asked a question, and this came, if anything did
  asked : NameServer → (question : List ℕ) → (came : Option (List ℕ)) → Deed
  -- a name was looked up, and has these addresses
  looked_up : Labels → List IpAddr → Deed
  -- it was told what a server's answer means
  told : NameServer → (came : Option (List ℕ)) → Verdict → Deed

abbrev pub after_deed : Deed → Option (List Deed) → Option (List Deed)
after_deed deed deeds = option_map (λ ds. ds ++ deed ∷ []) deeds

abbrev pub after_deeds : List Deed → Option (List Deed) → Option (List Deed)
after_deeds later deeds = option_map (λ ds. ds ++ later) deeds

-- What is asked at a station: the servers that are given for those of the root, the servers of a zone what the lookup asks, with no recursion desired
-- (RFC 1034 4.3.1).
abbrev pub asked_at : Ask → Station → Ask
asked_at ask Given = record ask { name = []; rtype = record { 0 = 2 } }
asked_at ask (Zone zone) = record ask { manner = record ask.manner { flags = record ask.manner.flags { recursion = false } } }

abbrev pub question_at : Ask → Station → List ℕ
question_at ask station = query_octets (asked_at ask station)
