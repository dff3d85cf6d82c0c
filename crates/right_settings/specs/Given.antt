-- The settings of transports as a client is given them, beside those of which the headline speaks.
use Rattle.std.specs.Prelude.{◌≡◌, ℕ, suc, Bool, true, false, nat_lt, if◌then◌else◌, Option, Some, None, refl}
use Rattle.std.proofs.Common.{arith}
use Rattle.std.proofs.lemmas.Bool.{lt-ltb}
use Rattle.client_settings.specs.Dgram as dgram
use Rattle.client_settings.specs.MultiStream as multi_stream
use Rattle.client_settings.specs.Stream as stream
use Rattle.client_settings.specs.declared.settings.Transports.{Transports}
use Rattle.right_trace.specs.Trace.{Conf, is_size}
use Rattle.right_trace.specs.Trace as right
use Rattle.right_trace.specs.Time.{read_timeout, response_timeout, idle_timeout, stream_timeout, max_places, recv_size}

-- those of datagrams
abbrev pub dgrams_of : Conf → dgram.Settings
dgrams_of c = record {
  max_parallel = max_places c;
  read_timeout = read_timeout c;
  max_retries = c.transports.dgram_max_retries;
  udp_payload_size = c.transports.dgram_udp_payload_size;
  recv_size = recv_size c;
}

-- those of a stream, with a time for messages of transfers, of which the headline says nothing
abbrev pub stream_of : (streaming : ℕ) → Conf → stream.Settings
stream_of n c = record { response_timeout = response_timeout c; streaming_response_timeout = n; idle_timeout = idle_timeout c }

-- those of reconnection over such streams
abbrev pub streams_of : (streaming : ℕ) → Conf → multi_stream.Settings
streams_of n c = record { response_timeout = stream_timeout c; stream = stream_of n c }

-- A client is given the settings of this configuration, whatever time it has for transfers.
abbrev pub AreGiven : Conf → Transports → Type 0
AreGiven c t = (t.dgram ≡ dgrams_of c) × (t.multi_stream ≡ streams_of t.multi_stream.stream.streaming_response_timeout c)

-- a number, or the next one where it is not above another
abbrev pub above : (least n : ℕ) → ℕ
above least n = if nat_lt least n then n else suc least

next-above : (n : ℕ) → nat_lt n (suc n) ≡ true
next-above n = lt-ltb n (suc n) (omega arith)

pub above-is : (least n : ℕ) → nat_lt least (above least n) ≡ true
above-is least n = go (nat_lt least n) refl
  where
    go : (b : Bool) → nat_lt least n ≡ b → nat_lt least (if b then n else suc least) ≡ true
    go true e = e
    go false e = next-above least

-- a payload size, if it has two octets
abbrev pub sized : Option ℕ → Option ℕ
sized None = None
sized (Some n) = if nat_lt n 65536 then Some n else None

pub sized-is : (size : Option ℕ) → is_size (sized size) ≡ true
sized-is None = refl
sized-is (Some n) = go (nat_lt n 65536) refl
  where
    go : (b : Bool) → nat_lt n 65536 ≡ b → is_size (if b then Some n else None) ≡ true
    go true e = e
    go false e = refl

-- The settings of which the headline speaks, of those that a client is given. The settings of a client lie within their limits, so none of them is changed.
abbrev pub told : Transports → right.Transports
told t = record {
  dgram_max_parallel = above 0 t.dgram.max_parallel;
  dgram_max_retries = t.dgram.max_retries;
  dgram_read_timeout = above 999 t.dgram.read_timeout;
  dgram_recv_size = t.dgram.recv_size;
  dgram_udp_payload_size = sized t.dgram.udp_payload_size;
  stream_response_timeout = above 999 t.multi_stream.stream.response_timeout;
  stream_idle_timeout = t.multi_stream.stream.idle_timeout;
  multi_stream_response_timeout = above 999 t.multi_stream.response_timeout;
  places = above-is 0 t.dgram.max_parallel;
  reads = above-is 999 t.dgram.read_timeout;
  answers = above-is 999 t.multi_stream.stream.response_timeout;
  waits = above-is 999 t.multi_stream.response_timeout;
  is_small = sized-is t.dgram.udp_payload_size;
}
