-- Moments, in microseconds, and how a history is walked.
use Rattle.std.specs.Prelude.{ℕ, Bool, ◌⊎◌, [], ◌∷◌, zero, suc, ◌+◌, max, true, false}
use Rattle.client_request.specs.declared.event.What.{What}
use Rattle.client_request.specs.declared.event.What.TheVariants.{Tick}
use Rattle.right_trace.specs.Trace.{History, Conf, Came, Put}

-- how long an answer by datagram is waited for
unfoldable pub read_timeout : Conf → ℕ
read_timeout c = c.transports.dgram_read_timeout

-- how long a stream connection waits for a frame
unfoldable pub response_timeout : Conf → ℕ
response_timeout c = c.transports.stream_response_timeout

-- how long a stream connection stays idle, unless its server says so (RFC 7766 6.2.3)
unfoldable pub idle_timeout : Conf → ℕ
idle_timeout c = c.transports.stream_idle_timeout

-- how long a request by stream is waited for
unfoldable pub stream_timeout : Conf → ℕ
stream_timeout c = c.transports.multi_stream_response_timeout

-- how often a request is sent to a server by datagram, at most
unfoldable pub max_tries : Conf → ℕ
max_tries c = suc c.transports.dgram_max_retries

-- how many datagram places of a server are live, at most
unfoldable pub max_places : Conf → ℕ
max_places c = c.transports.dgram_max_parallel

-- how many octets of a datagram are read
unfoldable pub recv_size : Conf → ℕ
recv_size c = c.transports.dgram_recv_size

-- 64 s: a back-off is shorter; a request that meets that of its connection adds one of its own
unfoldable pub back_off : ℕ
back_off = 64000000

-- 65536: how many ids there are
unfoldable pub all_ids : ℕ
all_ids = 65536

-- 32768: how many ids one stream connection has
unfoldable pub id_count : ℕ
id_count = 32768

-- the greatest moment so far
abbrev pub now : History → ℕ
now [] = 0
now (Came e ∷ h) = max e.moment.0 (now h)
now (Put o ∷ h) = now h

-- the event of the newest row
abbrev pub newest : History → What
newest [] = Tick
newest (Came e ∷ h) = e.what
newest (Put o ∷ h) = newest h

abbrev pub one_if : Bool → ℕ
one_if true = 1
one_if false = 0

-- how many numbers below n pass the test
abbrev pub count_below : (ℕ → Bool) → ℕ → ℕ
count_below f zero = 0
count_below f (suc n) = count_below f n + one_if (f n)

-- what happened before the newest row
abbrev pub row_before : History → History
row_before [] = []
row_before (Came e ∷ h) = h
row_before (Put o ∷ h) = row_before h

-- at some point of a history
abbrev pub Ever : (History → Type 0) → History → Type 0
Ever P [] = ⊥
Ever P (x ∷ h) = P (x ∷ h) ⊎ Ever P h

-- when some row was done, before the newest row began
abbrev pub EarlierRow : (History → Type 0) → History → Type 0
EarlierRow P [] = ⊥
EarlierRow P (Came e ∷ h) = P h ⊎ EarlierRow P h
EarlierRow P (Put o ∷ h) = EarlierRow P h

-- what is said of a row at its end, given what happened before it, its event, and all up to its end
abbrev pub OfRow : ((past : History) → What → History → Type 0) → History → Type 0
OfRow P e = P (row_before e) (newest e) e
