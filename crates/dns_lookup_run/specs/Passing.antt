-- An edge by which servers that say NOTIMP are passed by.
use Rattle.std.specs.Prelude.{◌≡◌, ℕ, ◌==◌, ◌&&◌, nat_le, Bool, if◌then◌else◌, List, [], ◌∷◌, ◌++◌, map, length, slice_index, Option, None, Some}
use Rattle.std.specs.List.{list_any}
use Rattle.client_core.specs.Edge.{after_deed}
use Rattle.client_core.specs.declared.edge.Deed.{Deed}
use Rattle.client_core.specs.declared.edge.Deed.TheVariants.{Polled}
use Rattle.client_request.specs.declared.event.Out.{Out}
use Rattle.client_request.specs.declared.event.Out.TheVariants.{OpenDgram, Send}
use Rattle.client_request.specs.declared.event.What.{What}
use Rattle.client_request.specs.declared.event.What.TheVariants.{Datagram, RecvFailed}
use Rattle.client_request.specs.declared.fault.Fault.TheVariants.{Other}
use Rattle.dns_base.specs.Header.{id_of, rcode_of}
use Rattle.dns_lookup_run.specs.declared.passing_edge.Asked.{Asked}

-- an edge, how many servers it learned, the places for datagrams, the servers that said NOTIMP, and how many faults were given
pub record Passing (E : Type 0) : Type 0 where
  pub edge : E
  pub servers : ℕ
  pub places : List Asked
  pub refused : List ℕ
  pub faults : ℕ

-- A datagram answers what was sent under an id by NOTIMP.
abbrev pub is_refusal : ℕ → List ℕ → Bool
is_refusal id octets = nat_le 4 (length octets) && (id_of octets == id && (nat_le 128 (slice_index octets 2) && rcode_of octets == 4))

abbrev pub place_at : ℕ → List Asked → Option Asked
place_at place [] = None
place_at place (one ∷ places) = if one.place == place then Some one else place_at place places

-- a place, with the id of what was sent there if it is this one
abbrev pub asked_under : (place id : ℕ) → Asked → Asked
asked_under place id one = if one.place == place then record one { id = Some id } else one

-- the places, with that which an out opens, and the id of what it sends
abbrev pub asked_after : Out → List Asked → List Asked
asked_after (OpenDgram place server) places = places ++ record { place = place; server = server; id = None } ∷ []
asked_after (Send place request id octets) places = map (asked_under place id) places
asked_after _ places = places

abbrev pub refusal_under : (place : ℕ) → List ℕ → Asked → Option ℕ → Option (ℕ × ℕ)
refusal_under place octets one None = None
refusal_under place octets one (Some id) = if is_refusal id octets then Some (place, one.server) else None

abbrev pub refusal_at : (place : ℕ) → List ℕ → Option Asked → Option (ℕ × ℕ)
refusal_at place octets None = None
refusal_at place octets (Some one) = refusal_under place octets one one.id

-- the place at which a server says NOTIMP by what came, and the server
abbrev pub refuser : Option What → List Asked → Option (ℕ × ℕ)
refuser (Some (Datagram place octets)) places = refusal_at place octets (place_at place places)
refuser _ places = None

abbrev pub added_once : ℕ → List ℕ → List ℕ
added_once server refused = if list_any (λ other. other == server) refused then refused else refused ++ server ∷ []

-- what came, where so many servers of all said NOTIMP; a fault of the place else
abbrev pub passed : {E : Type 0} → (place : ℕ) → Option What → Passing E → Option What
passed place came after = if nat_le after.servers (length after.refused) then came else Some (RecvFailed place Other)

-- what is given where this came, and the edge then
abbrev pub given_for : {E : Type 0} → Option (ℕ × ℕ) → Option What → Passing E → Option What × Passing E
given_for None came edge = (came, edge)
given_for (Some at) came edge =
    let after = record edge { refused = added_once at.1 edge.refused } in
    (passed at.0 came after, after)

-- The edge below was polled and gave what came; this is given for it.
pub record Gives {E : Type 0} (deeds : E → Option (List Deed)) (old : Passing E) (what : Option What) (new : Passing E) : Type 0 where
  pub came : Option What
  pub polled : deeds new.edge ≡ after_deed (Polled came) (deeds old.edge)
  pub given : given_for (refuser came old.places) came (record old { edge = new.edge }) ≡ (what, record new { faults = old.faults })
