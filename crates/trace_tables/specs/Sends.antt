-- What a forward pass keeps of what was sent by datagrams.
use Rattle.std.specs.Prelude.{◌≡◌, ℕ, suc, ◌==◌, Bool, true, false, if◌then◌else◌, not, length, List, [], ◌∷◌, Option, Some, None}
use Rattle.number_table.specs.Entries.{entry_at}
use Rattle.client_request.specs.declared.event.{Out.Out, Out.TheVariants.Send, Via.TheVariants.Dgram}
use Rattle.right_trace.specs.{Trace.History, Requests.same_via}
use Rattle.right_trace.specs.Causes.{Try, Named, sends, last_try, named}
use Rattle.right_trace.specs.Orderly.{Sending, sending}
use Rattle.trace_tables.specs.declared.places.Place.{Place}
use Rattle.trace_tables.specs.declared.sends.{Sends.Sends, Sent.Sent, Tried.Tried}
use Rattle.trace_tables.specs.Lists.{adds, listed}

abbrev pub nothing : Sends
nothing = record { sent = []; tries = [] }

-- a try of request k at place p, if that is one of datagrams
abbrev pub tried_at : (k p moment : ℕ) → Option Place → List (ℕ × List Tried) → List (ℕ × List Tried)
tried_at k p n None t = t
tried_at k p n (Some x) t = if same_via x.via Dgram then adds k (record { server = x.server; place = p; moment = n }) t else t

-- what an out makes of it, at a moment, over the places as they were
abbrev pub has_put : Out → (moment : ℕ) → List (ℕ × Place) → Sends → Sends
has_put (Send p k i o) n places s = record { sent = adds p (record { request = k; id = i; octets = o; moment = n }) s.sent; tries = tried_at k p n (entry_at p places) s.tries }
has_put _ n places s = s

abbrev pub count_at : (server : ℕ) → List Tried → ℕ
count_at s [] = 0
count_at s (x ∷ xs) = if x.server == s then suc (count_at s xs) else count_at s xs

abbrev pub last_at : (server : ℕ) → List Tried → Option Try
last_at s [] = None
last_at s (x ∷ xs) = if x.server == s then Some (record { place = x.place; moment = x.moment }) else last_at s xs

abbrev pub names_of : (request : ℕ) → List Sent → List Named
names_of k [] = []
names_of k (x ∷ xs) = if x.request == k then record { id = x.id; octets = x.octets } ∷ names_of k xs else names_of k xs

abbrev pub last_of : List Sent → Option Sending
last_of [] = None
last_of (x ∷ xs) = Some (record { request = x.request; moment = x.moment })

abbrev pub sends_seen : (k s : ℕ) → Sends → ℕ
sends_seen k s t = count_at s (listed k t.tries)

abbrev pub used_seen : (p : ℕ) → Sends → Bool
used_seen p t = not (length (listed p t.sent) == 0)

-- what is kept is what the definitions say
pub record Known (h : History) (t : Sends) : Type 0 where
  pub counts : (k s : ℕ) → sends_seen k s t ≡ sends k s h
  pub lasts : (k s : ℕ) → last_at s (listed k t.tries) ≡ last_try k s h
  pub names : (p k : ℕ) → names_of k (listed p t.sent) ≡ named p k h
  pub sendings : (p : ℕ) → last_of (listed p t.sent) ≡ sending p h
