-- What an edge and a clock are seen to do.
use Rattle.std.specs.Prelude.{ℕ, ◌==◌, not, Bool, false, if◌then◌else◌, List, [], ◌∷◌, ◌++◌, length, map, nat_lt, Option, None, Some, option_and_then, option_map}
use Rattle.client_core.specs.declared.edge.Deed.{Deed}
use Rattle.client_loop.specs.Asking.{Scene, scene}
use Rattle.client_request.specs.declared.event.Out.{Out}
use Rattle.client_request.specs.declared.event.Out.TheVariants.{OpenDgram, OpenStream, Send}
use Rattle.client_request.specs.declared.event.Via.TheVariants.{Dgram, Stream}
use Rattle.client_request.specs.declared.event.What.{What}
use Rattle.client_request.specs.declared.event.What.TheVariants.{Bytes, Datagram, OpenFailed, ReadFailed, RecvFailed, SendFailed, ShortSend, WriteFailed}
use Rattle.client_request.specs.declared.fault.Fault.TheVariants as faults
use Rattle.dns_base.specs.Header.{id_of, rcode_of, tc_of}
use Rattle.client_steps.specs.Whole.{Whole}
use Rattle.dns_lookup_run.specs.declared.watched_edge.Tidings.{Tidings}
use Rattle.dns_lookup_run.specs.declared.watched_edge.Heard.{Heard}
use Rattle.dns_lookup_run.specs.declared.watched_edge.News.{News}
use Rattle.dns_lookup_run.specs.declared.watched_edge.News.TheVariants as news
use Rattle.dns_lookup_run.specs.declared.watched_edge.Opened.{Opened}

-- an edge, the places that it was to open, and from whom octets came last
pub record Seen (E : Type 0) : Type 0 where
  pub edge : E
  pub opened : List Opened
  pub heard : Option Heard

-- a clock, the moment that it gave first, and the last
pub record Times (C : Type 0) : Type 0 where
  pub clock : C
  pub first : Option ℕ
  pub last : ℕ

-- What holds of the scenes before and after a call, by what a watched edge, a watched clock and words tell.
abbrev pub on : {E C W : Type 0} {R : Type 1} → (E → Option (List Deed)) → (E → Option (List ℕ)) → (E → ℕ) → (C → Option (List ℕ)) → (W → ℕ → ℕ) → (old new : Whole × Seen E × Times C × W) → (Scene → Scene → R) → R
on deeds waits polls given stream old new P =
    P (scene old.0 (stream old.3) (deeds old.1.edge) (waits old.1.edge) (polls old.1.edge) (given old.2.clock))
    (scene new.0 (stream new.3) (deeds new.1.edge) (waits new.1.edge) (polls new.1.edge) (given new.2.clock))

-- a place, with the id of what was sent there if it is this one
abbrev pub sent_under : (place id : ℕ) → Opened → Opened
sent_under place id one = if one.place == place then record one { sent = Some id } else one

-- the places, with that which an out opens, of which nothing came yet, and with the id of the datagram that it sends
abbrev pub with_out : Out → List Opened → List Opened
with_out (OpenDgram place server) opened = opened ++ record { place = place; heard = record { server = server; via = Dgram }; sent = None; news = news.Nothing } ∷ []
with_out (OpenStream place server) opened = opened ++ record { place = place; heard = record { server = server; via = Stream }; sent = None; news = news.Nothing } ∷ []
with_out (Send place request id octets) opened = map (sent_under place id) opened
with_out _ opened = opened

-- a place by its number
abbrev pub opened_at : ℕ → List Opened → Option Opened
opened_at place [] = None
opened_at place (one ∷ opened) = if one.place == place then Some one else opened_at place opened

-- the server at a place, and how it is asked there
abbrev pub heard_at : ℕ → List Opened → Option Heard
heard_at place opened = option_map (λ one. one.heard) (opened_at place opened)

-- the id of what was sent at a place last
abbrev pub sent_at : ℕ → List Opened → Option ℕ
sent_at place opened = option_and_then (λ one. one.sent) (opened_at place opened)

-- from whom octets came last, with what happened too
abbrev pub heard_after : Option What → List Opened → Option Heard → Option Heard
heard_after (Some (Datagram place octets)) opened heard = heard_at place opened
heard_after (Some (Bytes place octets)) opened heard = heard_at place opened
heard_after _ opened heard = heard

-- the moment that came first, with this one too
abbrev pub first_of : Option ℕ → ℕ → Option ℕ
first_of None moment = Some moment
first_of (Some first) moment = Some first

-- news of a place
abbrev pub brought : ℕ → News → Option Tidings
brought place what = Some (record { place = place; news = what })

-- it stands first in these octets
abbrev pub is_under : Option ℕ → List ℕ → Bool
is_under None octets = false
is_under (Some id) octets = id_of octets == id

-- what a datagram is that came where one was sent under this id: no message, since it has no header (RFC 1035 4.1.1); one under another id; one
-- that was cut; or one with its code
abbrev pub datagram_news : Option ℕ → List ℕ → News
datagram_news id octets =
    if nat_lt (length octets) 12 then news.NoMessage
    else if not (is_under id octets) then news.OtherId
    else if tc_of octets then news.Cut
    else news.Code (rcode_of octets)

-- what a place brought: a datagram, octets of a stream, or a fault
abbrev pub news_of : What → List Opened → Option Tidings
news_of (Datagram place octets) opened = brought place (datagram_news (sent_at place opened) octets)
news_of (Bytes place octets) opened = brought place news.Octets
news_of (OpenFailed place fault) opened = brought place (news.Fault fault)
news_of (SendFailed place fault) opened = brought place (news.Fault fault)
news_of (RecvFailed place fault) opened = brought place (news.Fault fault)
news_of (WriteFailed place fault) opened = brought place (news.Fault fault)
news_of (ReadFailed place fault) opened = brought place (news.Fault fault)
news_of (ShortSend place) opened = brought place (news.Fault faults.ShortSend)
news_of _ opened = None

-- a place, with these news if it is theirs
abbrev pub at_place : Tidings → Opened → Opened
at_place b opened = if opened.place == b.place then record opened { news = b.news } else opened

abbrev pub with_news : Option Tidings → List Opened → List Opened
with_news None opened = opened
with_news (Some b) opened = map (at_place b) opened

-- the places, with what happened too
abbrev pub news_after : Option What → List Opened → List Opened
news_after None opened = opened
news_after (Some what) opened = with_news (news_of what opened) opened

-- a place of an earlier request
abbrev pub as_earlier : Opened → Opened
as_earlier opened = record opened { news = news.Earlier }
