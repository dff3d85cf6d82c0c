-- What is told of servers that were asked and gave no answer.
use Rattle.std.specs.Prelude.{ℕ, ◌+◌, ◌==◌, ◌&&◌, ◌||◌, not, nat_lt, List, [], ◌∷◌, ◌++◌, codes, Bool, true, false, if◌then◌else◌, Option, None, Some, slice_get}
use Rattle.std.specs.Fmt.{decimal}
use Rattle.std.specs.Cmp.Lexicographic.{pointwise}
use Rattle.std.specs.List.{flat_map, list_any}
use Rattle.client_request.specs.Fault.{fault_text}
use Rattle.client_request.specs.declared.event.Via.{Via}
use Rattle.client_request.specs.declared.event.Via.TheVariants.{Dgram, Stream}
use Rattle.dns_values.specs.Address.{socket_address_text}
use Rattle.dns_values.specs.NumberNames.{rcode_text}
use Rattle.dns_values.specs.declared.address.IpAddr.{IpAddr}
use Rattle.dns_values.specs.declared.address.IpAddr.TheVariants.{V4, V6}
use Rattle.dns_values.specs.declared.address.SocketAddr.{SocketAddr}
use Rattle.resolv_conf.specs.declared.server.ServerConf.{ServerConf}
use Rattle.resolver_policy.specs.Notes.{note_text}
use Rattle.resolver_policy.specs.declared.note.Note.{Note}
use Rattle.dns_lookup_run.specs.Worlds.{said}
use Rattle.dns_lookup_run.specs.declared.watched_edge.News.{News}
use Rattle.dns_lookup_run.specs.declared.watched_edge.News.TheVariants.{Code, Cut, Earlier, Fault, NoMessage, Nothing, Octets, OtherId}
use Rattle.dns_lookup_run.specs.declared.watched_edge.Opened.{Opened}

abbrev pub via_text : Via → List ℕ
via_text Dgram = codes "UDP"
via_text Stream = codes "TCP"

-- by this code there are data, or there is no such name
abbrev pub is_answer : ℕ → Bool
is_answer code = code == 0 || code == 3

-- what a place brought; where there was no answer, a message that has the code of one is none
abbrev pub code_text : Bool → ℕ → List ℕ
code_text true code = codes "an answer to another question, or one that can't be read"
code_text false code = rcode_text code

abbrev pub news_text : Bool → News → List ℕ
news_text failed Earlier = codes "asked for an earlier request"
news_text failed Nothing = codes "no answer"
news_text failed NoMessage = codes "octets that are no message"
news_text failed OtherId = codes "an answer with another id"
news_text failed Cut = codes "a cut answer"
news_text failed (Code code) = code_text (failed && is_answer code) code
news_text failed Octets = codes "octets of a stream, and no answer in them"
news_text failed (Fault fault) = fault_text fault

-- it brought nothing, a fault, what is no answer, another code than NOERROR and NXDOMAIN, or, where there was no answer, anything
abbrev pub is_told : Bool → News → Bool
is_told failed Earlier = false
is_told failed Nothing = true
is_told failed NoMessage = true
is_told failed OtherId = true
is_told failed Cut = failed
is_told failed (Code code) = failed || not (is_answer code)
is_told failed Octets = failed
is_told failed (Fault fault) = true

-- a server is one at this address: it is named again in each round
abbrev pub is_same_ip : IpAddr → IpAddr → Bool
is_same_ip (V4 a) (V4 b) = pointwise ◌==◌ a b
is_same_ip (V6 a) (V6 b) = pointwise ◌==◌ a b
is_same_ip (V4 a) (V6 b) = false
is_same_ip (V6 a) (V4 b) = false

abbrev pub is_at_address : SocketAddr → Option ServerConf → Bool
is_at_address address None = false
is_at_address address (Some server) = server.addr.port == address.port && is_same_ip server.addr.ip address.ip

-- a place is one of the server at this address
abbrev pub is_of : List ServerConf → SocketAddr → Opened → Bool
is_of servers address opened = is_at_address address (slice_get servers opened.heard.server)

-- how many places of it were opened for this request
abbrev pub is_earlier : News → Bool
is_earlier Earlier = true
is_earlier Nothing = false
is_earlier NoMessage = false
is_earlier OtherId = false
is_earlier Cut = false
is_earlier (Code code) = false
is_earlier Octets = false
is_earlier (Fault fault) = false

abbrev pub is_try : List ServerConf → SocketAddr → Opened → Bool
is_try servers address opened = is_of servers address opened && not (is_earlier opened.news)

abbrev pub tries_of : List ServerConf → SocketAddr → List Opened → ℕ
tries_of servers address [] = 0
tries_of servers address (one ∷ opened) = if is_try servers address one then tries_of servers address opened + 1 else tries_of servers address opened

abbrev pub tries_text : ℕ → List ℕ
tries_text tries = if nat_lt tries 2 then [] else codes ", asked " ++ (decimal tries ++ codes " times")

-- the line that tells it
abbrev pub report_line : Bool → List ℕ → SocketAddr → (tries : ℕ) → Opened → List ℕ
report_line failed prefix server tries opened =
    prefix ++ (socket_address_text server ++ (codes " (" ++ (via_text opened.heard.via ++ (codes ")" ++ (tries_text tries ++ (codes ": " ++ (news_text failed opened.news ++ codes "\n")))))))

-- a later place is one of the same server
abbrev pub is_tried_again : List ServerConf → SocketAddr → List Opened → Bool
is_tried_again servers address later = list_any (is_of servers address) later

-- the line of a place of this server among all, if it is the last of the server
abbrev pub report_of : Bool → List ℕ → List ServerConf → List Opened → Opened → List Opened → Option ServerConf → List ℕ
report_of failed prefix servers all opened later None = []
report_of failed prefix servers all opened later (Some server) =
    if not (is_told failed opened.news) || is_tried_again servers server.addr later
    then []
    else report_line failed prefix server.addr (tries_of servers server.addr all) opened

abbrev pub report : Bool → List ℕ → List ServerConf → List Opened → Opened → List Opened → List ℕ
report failed prefix servers all opened later = report_of failed prefix servers all opened later (slice_get servers opened.heard.server)

-- a line for each place that has one
abbrev pub reports_of : Bool → List ℕ → List ServerConf → List Opened → List Opened → List ℕ
reports_of failed prefix servers all [] = []
reports_of failed prefix servers all (opened ∷ later) = report failed prefix servers all opened later ++ reports_of failed prefix servers all later

abbrev pub reports_text : Bool → List ℕ → List ServerConf → List Opened → List ℕ
reports_text failed prefix servers opened = reports_of failed prefix servers opened opened

-- what is told of places where there is no answer
abbrev pub told_of : List ServerConf → List Opened → List ℕ
told_of servers opened = reports_text true (codes "dns_lookup: ") servers opened

-- A line is told, and behind it what some places brought.
abbrev pub tells : {L : Type 0} → (L → Option (List ℕ)) → (L → ℕ) → List ServerConf → (old new : L) → (line : List ℕ) → Type 0
tells held faults servers old new line = (places : List Opened) × said held faults old new (line ++ told_of servers places)

-- what is told of the lines of the configuration
abbrev pub note_line : Note → List ℕ
note_line note = codes "dns_lookup: /etc/resolv.conf: " ++ (note_text note ++ codes "\n")

abbrev pub notes_text : List Note → List ℕ
notes_text notes = flat_map note_line notes
